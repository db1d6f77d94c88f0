-- A node is replaced by another node, which isn't in the tree.
use Rattle.std.proofs.Common.{◌≡◌, ℕ, ◌+◌, ◌≤◌, true, false, eqb, inl, List, [], ◌∷◌, ◌++◌, length, Option, Some, refl, sym, ap, ◌∙◌, subst, arith, append_assoc}
use Rattle.std.proofs.lemmas.Bool.Decides.{nat_tests}
use Rattle.std.proofs.lemmas.List.{length-append}
use Rattle.std.specs.declared.cmp.Ordering.{Ordering}
use Rattle.seg_spec.specs.Apart.{Separate}
use Rattle.seg_spec.specs.Bytes.{word, set_word}
use Rattle.seg_spec.specs.Pointer.{target, distance, set_pointer}
use Rattle.seg_spec.specs.Search.{IsSearchTree}
use Rattle.seg_spec.specs.Shapes.{Colour, black, red, colour_word, Tree, fork, nodes_of, HasColour, IsTree, IsRedBlack}
use Rattle.seg_spec.proofs.BytesLaws.{length-set_number, number-set_same, number-set_other}
use Rattle.seg_rbtree.specs.declared.node.Side.TheVariants.{Left, Right}
use Rattle.seg_rbtree.specs.declared.path.Path.{Path}
use Rattle.seg_rbtree.specs.Nodes.{shade, colour_at, colour_number, with_child, with_colour}
use Rattle.seg_rbtree.specs.Ways.{Layer, plug, place, last_word, LeadsTo, before, following}
use Rattle.seg_rbtree.specs.Paths.{node_at}
use Rattle.seg_rbtree.specs.Changes.{StandApart, NodesApart, KeepsBeside, renamed, Leaves}
use Rattle.seg_rbtree.specs.Turns.{Turns}
use Rattle.seg_rbtree.specs.Removing.{as_another}
use Rattle.seg_rbtree.proofs.Apartness.{Clear, parts-apart, apart-down, separate-swap, separate-part, clear-part}
use Rattle.seg_rbtree.proofs.ColourLaws.{balanced-down, balanced-up}
use Rattle.seg_rbtree.proofs.Branches.{branch-parts, fork_at}
use Rattle.seg_rbtree.proofs.WordWriteLaws.{keeps-trans, keeps-inside, target-word, tree-word, tree-hung}
use Rattle.seg_rbtree.proofs.ShortSubtreeStepLaws.{colour_read, here, path_word}
use Rattle.seg_rbtree.proofs.TreeWithoutNodeLaws.{begins, named_there}
use Rattle.seg_rbtree.proofs.LocalChangeLaws.{small_colour, same_colour, turns-whole, turns-hung, clear-parts}
use Rattle.seg_rbtree.proofs.NodeUnlinkLaws.{nodes_plug}
use Rattle.seg_rbtree.proofs.WithoutNode.{front_differs}

-- ---- the list of nodes

renamed_here : (node to : ℕ) (xs : List ℕ) → renamed node to (node ∷ xs) ≡ to ∷ xs
renamed_here node to xs = let e : eqb node node ≡ true = grind (arith, nat_tests) in rw e refl

renamed_later : (node to x : ℕ) (xs : List ℕ) → (node ≡ x → ⊥) → renamed node to (x ∷ xs) ≡ x ∷ renamed node to xs
renamed_later node to x xs n = let e : eqb node x ≡ false = grind (arith, nat_tests) in rw e refl

pub renamed_middle : (node to : ℕ) (xs ys : List ℕ) → NodesApart (xs ++ node ∷ ys) → renamed node to (xs ++ node ∷ ys) ≡ xs ++ to ∷ ys
renamed_middle node to [] ys a = renamed_here node to ys
renamed_middle node to (x ∷ xs) ys a = renamed_later node to x (xs ++ node ∷ ys) (front_differs x node xs ys a.0) ∙ ap (λ zs. x ∷ zs) (renamed_middle node to xs ys a.1)

fork_nodes : (layers : List Layer) (left right : Tree) (at : ℕ) (colour : Colour) → nodes_of (plug (fork left at colour right) layers) ≡ (before layers ++ nodes_of left) ++ at ∷ (nodes_of right ++ following layers)
fork_nodes layers left right at colour = nodes_plug layers (fork left at colour right) ∙ simp append_assoc

-- ---- the rules of colour

same_rules : (layers : List Layer) (left right : Tree) (node to : ℕ) (colour : Colour) → IsRedBlack (plug (fork left node colour right) layers) → IsRedBlack (plug (fork left to colour right) layers)
same_rules layers left right node to black r =
    let w = balanced-down (fork left node black right) layers r in
    balanced-up (fork left to black right) layers (record { height = w.height; balanced = w.balanced; wants = w.wants; top = w.top })
same_rules layers left right node to red r =
    let w = balanced-down (fork left node red right) layers r in
    balanced-up (fork left to red right) layers (record { height = w.height; balanced = w.balanced; wants = w.wants; top = w.top })

-- ---- at the pointer word of the node

module _ (b : List ℕ) (at node to : ℕ) (colour : Colour) (left right : Tree) where
  abbrev after : Tree
  after = fork left to colour right

  abbrev hung : List ℕ
  hung = set_pointer (as_another b node to) at (Some to)

  place_given : IsTree b (target b at) (fork left node colour right) → StandApart (length b) at (nodes_of after) → Turns b hung at after after
  place_given h a =
      let paint = colour_at b (Some node) in
      let v1 = distance to (target b node) in
      let v2 = distance (to + 4) (target b (node + 4)) in
      let first = with_child b to Left (target b node) in
      let second = with_child first to Right (target b (node + 4)) in
      let third = with_colour second to paint in
      let fourth = set_word third (to + 12) 0 in
      let was = branch-parts b (target b at) Left node colour left right h in
      let p = parts-apart (length b) at Left to colour left right a in
      let room = p.node_fits in
      let len1 : length first ≡ length b = length-set_number 4 b to v1 in
      let len2 : length second ≡ length first = length-set_number 4 first (to + 4) v2 in
      let len3 : length third ≡ length second = length-set_number 4 second (to + 8) (colour_number paint) in
      let len4 : length fourth ≡ length third = length-set_number 4 third (to + 12) 0 in
      let left_one : IsTree first (target first to) left = tree-hung b to (target b node) left p.near_apart was.near_hangs in
      let left_two : IsTree second (target first to) left = tree-word first (to + 4) v2 (target first to) left (clear-part to 16 (to + 4) 4 (nodes_of left) (omega arith) (omega arith) p.node_near) left_one in
      let left_three : IsTree third (target first to) left = tree-word second (to + 8) (colour_number paint) (target first to) left (clear-part to 16 (to + 8) 4 (nodes_of left) (omega arith) (omega arith) p.node_near) left_two in
      let left_four : IsTree fourth (target first to) left = tree-word third (to + 12) 0 (target first to) left (clear-part to 16 (to + 12) 4 (nodes_of left) (omega arith) (omega arith) p.node_near) left_three in
      let same_left : target fourth to ≡ target first to =
      target-word third (to + 12) 0 to (inl (omega arith)) ∙ target-word second (to + 8) (colour_number paint) to (inl (omega arith)) ∙ target-word first (to + 4) v2 to (inl (omega arith)) in
      let right_one : IsTree first (target b (node + 4)) right = tree-word b to v1 (target b (node + 4)) right (clear-part to 16 to 4 (nodes_of right) (omega arith) (omega arith) p.node_far) was.far_hangs in
      let right_two : IsTree second (target second (to + 4)) right = tree-hung first (to + 4) (target b (node + 4)) right (subst (λ n. StandApart n (to + 4) (nodes_of right)) (sym len1) p.far_apart) right_one in
      let right_three : IsTree third (target second (to + 4)) right =
      tree-word second (to + 8) (colour_number paint) (target second (to + 4)) right (clear-part to 16 (to + 8) 4 (nodes_of right) (omega arith) (omega arith) p.node_far) right_two in
      let right_four : IsTree fourth (target second (to + 4)) right = tree-word third (to + 12) 0 (target second (to + 4)) right (clear-part to 16 (to + 12) 4 (nodes_of right) (omega arith) (omega arith) p.node_far) right_three in
      let same_right : target fourth (to + 4) ≡ target second (to + 4) = target-word third (to + 12) 0 (to + 4) (inl (omega arith)) ∙ target-word second (to + 8) (colour_number paint) (to + 4) (inl (omega arith)) in
      let painted : word third (to + 8) ≡ colour_number paint = number-set_same 4 second (to + 8) (colour_number paint) (omega arith) (small_colour paint) in
      let kept_colour : word fourth (to + 8) ≡ word third (to + 8) = number-set_other 4 4 third (to + 12) 0 (to + 8) (inl (omega arith)) in
      let zero : word fourth (to + 12) ≡ 0 = number-set_same 4 third (to + 12) 0 (omega arith) (omega arith) in
      let tinted : shade paint ≡ colour = colour_read b node colour was.coloured in
      let coloured : HasColour fourth to colour = record { colour_is = kept_colour ∙ painted ∙ same_colour paint ∙ ap colour_word tinted; zero_is = zero } in
      let hangs : IsTree fourth (Some to) after = (refl, coloured, subst (λ o. IsTree fourth o left) (sym same_left) left_four, subst (λ o. IsTree fourth o right) (sym same_right) right_four) in
      let last : Turns fourth hung at after after = turns-hung fourth at (Some to) after after (subst (λ n. StandApart n at (nodes_of after)) (sym (len4 ∙ len3 ∙ len2 ∙ len1)) a) hangs in
      let ns = nodes_of after in
      record {
        hangs = last.hangs;
        kept = keeps-trans b first hung at ns (keeps-inside b to v1 at ns (inside to (omega arith) (omega arith)))
            (keeps-trans first second hung at ns (keeps-inside first (to + 4) v2 at ns (inside (to + 4) (omega arith) (omega arith)))
            (keeps-trans second third hung at ns (keeps-inside second (to + 8) (colour_number paint) at ns (inside (to + 8) (omega arith) (omega arith)))
            (keeps-trans third fourth hung at ns (keeps-inside third (to + 12) 0 at ns (inside (to + 12) (omega arith) (omega arith))) last.kept)));
      }
    where
      inside : (word : ℕ) → to ≤ word → word + 4 ≤ to + 16 → (p n : ℕ) → Clear p n (nodes_of after) → Separate p n word 4
      inside word low high p n c =
          let k = clear-parts p n Left to colour left right c in
          separate-swap word 4 p n (separate-part to 16 p n word 4 low high (separate-swap p n to 16 k.node_apart))

-- ---- the whole tree

pub renamed_there : (b one new : List ℕ) (path : Path) (turn : ℕ → Ordering) (node read to : ℕ) (shape : Tree) → node_at b path ≡ Some read → one ≡ as_another b read to
    → new ≡ set_pointer one (last_word path.root path.steps.items) (Some to) → IsSearchTree b path.root shape → LeadsTo turn shape path → node_at b path ≡ Some node
    → StandApart (length b) path.root (nodes_of shape) → StandApart (length b) path.root (renamed node to (nodes_of shape))
    → Leaves b new path.root (renamed node to (nodes_of shape)) (renamed node to (nodes_of shape))
renamed_there b one new path turn node read to shape seen e1 e2 t way named apart new_apart =
    let layers = way.layers in
    let at = place path.root layers in
    let s = begins b path.root path turn node shape refl way t apart in
    let h = here b path layers way.rest s in
    let f = fork_at b Left node (target b at) way.rest (named_there b path.root path turn node shape refl way named) h in
    let old = fork f.near node f.colour f.far in
    let new_part = fork f.near to f.colour f.far in
    let front = before layers ++ nodes_of f.near in
    let back = nodes_of f.far ++ following layers in
    let shape_is : plug old layers ≡ shape = ap (λ x. plug x layers) (sym f.tree_is) ∙ way.shape_is in
    let nodes_old : nodes_of shape ≡ front ++ node ∷ back = ap nodes_of (sym shape_is) ∙ fork_nodes layers f.near f.far node f.colour in
    let nodes_to : nodes_of (plug new_part layers) ≡ front ++ to ∷ back = fork_nodes layers f.near f.far to f.colour in
    let nodes_new : nodes_of (plug new_part layers) ≡ renamed node to (nodes_of shape) =
    nodes_to ∙ sym (ap (renamed node to) nodes_old ∙ renamed_middle node to front back (subst (λ ns. NodesApart ns) nodes_old apart.nodes_apart)) in
    let stand : StandApart (length b) path.root (nodes_of (plug new_part layers)) = subst (λ ns. StandApart (length b) path.root ns) (sym nodes_new) new_apart in
    let same : read ≡ node = alike (node_at b path) read node seen named in
    let is : new ≡ set_pointer (as_another b node to) at (Some to) =
    e2 ∙ ap (λ x. set_pointer x (last_word path.root path.steps.items) (Some to)) (e1 ∙ ap (λ n. as_another b n to) same) ∙ ap (λ w. set_pointer (as_another b node to) w (Some to)) (path_word b path layers way.rest s) in
    let local : Turns b new at new_part new_part = subst (λ x. Turns b x at new_part new_part) (sym is)
    (place_given b at node to f.colour f.near f.far (subst (λ x. IsTree b (target b at) x) f.tree_is h) (apart-down (length b) path.root new_part layers stand)) in
    let whole : Turns b new path.root (plug new_part layers) (plug new_part layers) =
    turns-whole b new path.root old new_part new_part layers (subst (λ x. IsTree b (target b path.root) x) (sym shape_is) t.is_tree) stand local in
    record {
      shape = plug new_part layers;
      tree = record {
        is_tree = whole.hangs;
        red_black = same_rules layers f.near f.far node to f.colour (subst (λ x. IsRedBlack x) (sym shape_is) t.red_black);
        few = omega (arith, t.few, ap length nodes_old, ap length nodes_to, length-append front (node ∷ back), length-append front (to ∷ back));
      };
      nodes_are = nodes_new;
      kept = subst (λ ns. KeepsBeside b new path.root ns) nodes_new whole.kept;
    }
  where
    alike : (o : Option ℕ) (x y : ℕ) → o ≡ Some x → o ≡ Some y → x ≡ y
    alike o x y e f = cc
