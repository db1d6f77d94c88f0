-- Changes of a subtree as changes of the whole tree.
use Rattle.std.proofs.Common.{◌≡◌, ℕ, ◌+◌, ◌≤◌, ◌<◌, ◌^◌, List, [], ◌∷◌, ◌++◌, length, Option, Some, None, refl, sym, ◌∙◌, subst, inl, inr, arith}
use Rattle.seg_spec.specs.Bytes.{word, set_word}
use Rattle.seg_spec.specs.Pointer.{target, distance, set_pointer}
use Rattle.seg_spec.specs.Apart.{Separate}
use Rattle.seg_spec.specs.Shapes.{Colour, red, colour_word, Tree, leaf, fork, nodes_of, HasColour, IsTree}
use Rattle.seg_spec.proofs.BytesLaws.{length-set_number, number-set_same, number-set_other}
use Rattle.seg_spec.proofs.PointerLaws.{target-set_same}
use Rattle.seg_rbtree.specs.declared.node.Side.{Side}
use Rattle.seg_rbtree.specs.declared.node.Side.TheVariants.{Left, Right}
use Rattle.seg_rbtree.specs.declared.node.Colour.{Colour as Paint}
use Rattle.seg_rbtree.specs.declared.node.Colour.TheVariants.{Black, Red}
use Rattle.seg_rbtree.specs.Nodes.{side_word, opposite, colour_number, shade, with_child, with_colour, with_new_node, rotated_up, rotated}
use Rattle.seg_rbtree.specs.Ways.{Layer, branch, grow, plug, place}
use Rattle.seg_rbtree.specs.Changes.{StandApart, KeepsBeside}
use Rattle.seg_rbtree.specs.Turns.{Turns}
use Rattle.seg_rbtree.proofs.Apartness.{Clear, parts-apart, apart-down, separate-swap, separate-part, clear-part, side_word-clear, side_word-apart}
use Rattle.seg_rbtree.proofs.Branches.{branch-parts, branch-whole, branch-flip, opposite-twice, nodes-rotated, tree-down}
use Rattle.seg_rbtree.proofs.WordWriteLaws.{keeps-none, keeps-trans, keeps-word, keeps-inside, keeps-wider, target-kept, colour-kept, tree-kept, tree-word, target-word, colour-word, tree-hung}

-- ---- two changes, one after the other

pub turns-none : (bytes : List ℕ) (at : ℕ) (room tree : Tree) → IsTree bytes (target bytes at) tree → Turns bytes bytes at room tree
turns-none bytes at room tree h = record { hangs = h; kept = keeps-none bytes at (nodes_of room) }

pub turns-then : (a b c : List ℕ) (at : ℕ) (room x y : Tree) → Turns a b at room x → Turns b c at room y → Turns a c at room y
turns-then a b c at room x y h k = record { hangs = k.hangs; kept = keeps-trans a b c at (nodes_of room) h.kept k.kept }

-- a change depends only on the nodes of `room`
pub turns-room : (a b : List ℕ) (at : ℕ) (room other x : Tree) → nodes_of room ≡ nodes_of other → Turns a b at room x → Turns a b at other x
turns-room a b at room other x e h = record { hangs = h.hangs; kept = subst (KeepsBeside a b at) e h.kept }

-- ---- one node of a tree

in_list : (p n at : ℕ) (xs ys : List ℕ) → Clear p n (xs ++ at ∷ ys) → Clear p n xs × Separate p n at 16 × Clear p n ys
in_list p n at [] ys h = (tt, h.0, h.1)
in_list p n at (x ∷ xs) ys h = let r = in_list p n at xs ys h.1 in ((h.0, r.0), r.1, r.2)

-- a range that doesn't overlap the nodes of a branch overlaps neither the node nor its subtrees
pub record ClearParts (p n at : ℕ) (near far : Tree) : Type 0 where
  pub near_clear : Clear p n (nodes_of near)
  pub node_apart : Separate p n at 16
  pub far_clear : Clear p n (nodes_of far)

pub clear-parts : (p n : ℕ) (side : Side) (at : ℕ) (colour : Colour) (near far : Tree) → Clear p n (nodes_of (branch side at colour near far)) → ClearParts p n at near far
clear-parts p n Left at colour near far h = let r = in_list p n at (nodes_of near) (nodes_of far) h in record { near_clear = r.0; node_apart = r.1; far_clear = r.2 }
clear-parts p n Right at colour near far h = let r = in_list p n at (nodes_of far) (nodes_of near) h in record { near_clear = r.2; node_apart = r.1; far_clear = r.0 }

two_words : (at : ℕ) (side : Side) → Separate (side_word at (opposite side)) 4 (side_word at side) 4
two_words at Left = inr (omega arith)
two_words at Right = inl (omega arith)

colour_beside : (at : ℕ) (side : Side) → Separate (at + 8) 8 (side_word at side) 4
colour_beside at Left = inr (omega arith)
colour_beside at Right = inr (omega arith)

-- ---- up one layer, and to the root

pub turns-up : (old new : List ℕ) (at : ℕ) (side : Side) (node : ℕ) (colour : Colour) (x far room y : Tree) → IsTree old (target old at) (branch side node colour x far)
    → StandApart (length old) at (nodes_of (branch side node colour room far))
    → Turns old new (side_word node side) room y → Turns old new at (branch side node colour room far) (branch side node colour y far)
turns-up old new at side node colour x far room y h apart t =
    let was = branch-parts old (target old at) side node colour x far h in
    let p = parts-apart (length old) at side node colour room far apart in
    let root : target new at ≡ Some node = target-kept old new (side_word node side) at (nodes_of room) t.kept (side_word-apart node at 4 side p.word_node) p.word_near ∙ was.named in
    let opp = side_word node (opposite side) in
    let other : target new opp ≡ target old opp = target-kept old new (side_word node side) opp (nodes_of room) t.kept (two_words node side) (side_word-clear node (opposite side) (nodes_of room) p.node_near) in
    let colours : HasColour new node colour = colour-kept old new (side_word node side) node (nodes_of room) colour t.kept (colour_beside node side) (clear-part node 16 (node + 8) 8 (nodes_of room) (omega arith) (omega arith) p.node_near)
    was.coloured in
    let following : IsTree new (target old opp) far = tree-kept old new (side_word node side) (nodes_of room) (target old opp) far t.kept (side_word-clear node side (nodes_of far) p.node_far) p.far_near was.far_hangs in
    record {
      hangs = subst (λ o. IsTree new o (branch side node colour y far)) (sym root) (branch-whole new side node colour y far colours t.hangs (subst (λ o. IsTree new o far) (sym other) following));
      kept = keeps-wider old new (side_word node side) at (nodes_of room) (nodes_of (branch side node colour room far)) (λ q n s k.
          let c = clear-parts q n side node colour room far k in
          (side_word-apart node q n side c.node_apart, c.near_clear)) t.kept;
    }

-- a change at a place is a change of the whole tree
pub turns-whole : (old new : List ℕ) (root : ℕ) (x room y : Tree) (layers : List Layer) → IsTree old (target old root) (plug x layers) → StandApart (length old) root (nodes_of (plug room layers))
    → Turns old new (place root layers) room y → Turns old new root (plug room layers) (plug y layers)
turns-whole old new root x room y [] h apart t = t
turns-whole old new root x room y (layer ∷ layers) h apart t =
    turns-whole old new root (grow layer x) (grow layer room) (grow layer y) layers h apart
    (turns-up old new (place root layers) layer.side layer.at layer.colour x layer.other room y (tree-down old root (grow layer x) layers h) (apart-down (length old) root (grow layer room) layers apart) t)

-- ---- a pointer to another tree

-- the pointer word is made to point to another tree
pub turns-hung : (bytes : List ℕ) (at : ℕ) (to : Option ℕ) (room tree : Tree) → StandApart (length bytes) at (nodes_of tree) → IsTree bytes to tree → Turns bytes (set_pointer bytes at to) at room tree
turns-hung bytes at to room tree apart h = record { hangs = tree-hung bytes at to tree apart h; kept = keeps-word bytes at (distance at to) (nodes_of room) }

-- a node gets another tree on a side
pub relink : (bytes : List ℕ) (node : ℕ) (colour : Colour) (side : Side) (to : Option ℕ) (near far : Tree) → HasColour bytes node colour → IsTree bytes to near → IsTree bytes (target bytes (side_word node (opposite side))) far
    → StandApart (length bytes) (side_word node side) (nodes_of near) → Clear node 16 (nodes_of far) → IsTree (with_child bytes node side to) (Some node) (branch side node colour near far)
relink bytes node colour side to near far c n f apart clear =
    let at = side_word node side in
    let v = distance at to in
    branch-whole (with_child bytes node side to) side node colour near far
    (colour-word bytes at v node colour (colour_beside node side) c)
    (tree-hung bytes at to near apart n)
    (subst (λ o. IsTree (with_child bytes node side to) o far) (sym (target-word bytes at v (side_word node (opposite side)) (two_words node side)))
    (tree-word bytes at v (target bytes (side_word node (opposite side))) far (side_word-clear node side (nodes_of far) clear) f))

-- ---- a colour

pub small_colour : (c : Paint) → colour_number c < 256 ^ 4
small_colour Black = omega arith
small_colour Red = omega arith

pub same_colour : (c : Paint) → colour_number c ≡ colour_word (shade c)
same_colour Black = refl
same_colour Red = refl

pub recolour : (bytes : List ℕ) (node : ℕ) (side : Side) (colour : Colour) (paint : Paint) (near far : Tree) → node + 16 ≤ length bytes → Clear node 16 (nodes_of near) → Clear node 16 (nodes_of far)
    → IsTree bytes (Some node) (branch side node colour near far) → IsTree (with_colour bytes node paint) (Some node) (branch side node (shade paint) near far)
recolour bytes node side colour paint near far fits cn cf h =
    let was = branch-parts bytes (Some node) side node colour near far h in
    let new = with_colour bytes node paint in
    let v = colour_number paint in
    branch-whole new side node (shade paint) near far
    (record {
      colour_is = number-set_same 4 bytes (node + 8) v (omega arith) (small_colour paint) ∙ same_colour paint;
      zero_is = zero was.coloured.zero_is;
    })
    (subst (λ o. IsTree new o near) (sym (target-word bytes (node + 8) v (side_word node side) (beside side)))
    (tree-word bytes (node + 8) v _ near (clear-part node 16 (node + 8) 4 (nodes_of near) (omega arith) (omega arith) cn) was.near_hangs))
    (subst (λ o. IsTree new o far) (sym (target-word bytes (node + 8) v (side_word node (opposite side)) (beside (opposite side))))
    (tree-word bytes (node + 8) v _ far (clear-part node 16 (node + 8) 4 (nodes_of far) (omega arith) (omega arith) cf) was.far_hangs))
  where
    beside : (s : Side) → Separate (side_word node s) 4 (node + 8) 4
    beside Left = inl (omega arith)
    beside Right = inl (omega arith)

    zero : word bytes (node + 12) ≡ 0 → word (with_colour bytes node paint) (node + 12) ≡ 0
    zero z = number-set_other 4 4 bytes (node + 8) (colour_number paint) (node + 12) (inr (omega arith)) ∙ z

pub turns-painted : (bytes : List ℕ) (at : ℕ) (side : Side) (node : ℕ) (colour : Colour) (paint : Paint) (near far : Tree) → IsTree bytes (target bytes at) (branch side node colour near far)
    → StandApart (length bytes) at (nodes_of (branch side node colour near far))
    → Turns bytes (with_colour bytes node paint) at (branch side node colour near far) (branch side node (shade paint) near far)
turns-painted bytes at side node colour paint near far h apart =
    let was = branch-parts bytes (target bytes at) side node colour near far h in
    let p = parts-apart (length bytes) at side node colour near far apart in
    let named : target (with_colour bytes node paint) at ≡ Some node = target-word bytes (node + 8) (colour_number paint) at
    (separate-swap (node + 8) 4 at 4 (separate-part node 16 at 4 (node + 8) 4 (omega arith) (omega arith) (separate-swap at 4 node 16 p.word_node))) ∙ was.named in
    record {
      hangs = subst (λ o. IsTree (with_colour bytes node paint) o (branch side node (shade paint) near far)) (sym named)
          (recolour bytes node side colour paint near far p.node_fits p.node_near p.node_far (subst (λ o. IsTree bytes o (branch side node colour near far)) was.named h));
      kept = keeps-inside bytes (node + 8) (colour_number paint) at (nodes_of (branch side node colour near far)) (λ q n k.
          separate-swap (node + 8) 4 q n (separate-part node 16 q n (node + 8) 4 (omega arith) (omega arith) (separate-swap q n node 16 (clear-parts q n side node colour near far k).node_apart)));
    }

-- ---- a rotation

-- a range that doesn't overlap the nodes of a branch doesn't overlap a child's word in them
in_branch : (side : Side) (node : ℕ) (colour : Colour) (near far : Tree) (way : Side) (p n : ℕ) → Clear p n (nodes_of (branch side node colour near far)) → Separate p n (side_word node way) 4
in_branch side node colour near far way p n k = side_word-apart node p n way (clear-parts p n side node colour near far k).node_apart

in_far : (side : Side) (node up : ℕ) (colour upper : Colour) (near m d : Tree) (way : Side) (p n : ℕ) → Clear p n (nodes_of (branch side node colour near (branch side up upper m d))) → Separate p n (side_word up way) 4
in_far side node up colour upper near m d way p n k = in_branch side up upper m d way p n (clear-parts p n side node colour near (branch side up upper m d) k).far_clear

module _ (bytes : List ℕ) (at : ℕ) (side : Side) (node up : ℕ) (colour upper : Colour) (x m d : Tree) where
  abbrev before : Tree
  before = branch side node colour x (branch side up upper m d)

  abbrev after : Tree
  after = branch side up upper (branch side node colour x m) d

  abbrev first : List ℕ
  first = with_child bytes node (opposite side) (target bytes (side_word up side))

  abbrev second : List ℕ
  second = with_child first up side (Some node)

  turned : IsTree bytes (target bytes at) before → StandApart (length bytes) at (nodes_of before) → Turns bytes (set_pointer second at (Some up)) at before after
  turned h apart =
      let low = branch-parts bytes (target bytes at) side node colour x (branch side up upper m d) h in
      let high = branch-parts bytes (target bytes (side_word node (opposite side))) side up upper m d low.far_hangs in
      let p = parts-apart (length bytes) at side node colour x (branch side up upper m d) apart in
      let q = parts-apart (length bytes) (side_word node (opposite side)) side up upper m d p.far_apart in
      let same : nodes_of after ≡ nodes_of before = nodes-rotated side node up colour upper colour upper x m d in
      let apart_after : StandApart (length bytes) at (nodes_of after) = subst (StandApart (length bytes) at) (sym same) apart in
      let r = parts-apart (length bytes) at side up upper (branch side node colour x m) d apart_after in
      let long_first : length first ≡ length bytes = length-set_number 4 bytes (side_word node (opposite side)) (distance (side_word node (opposite side)) (target bytes (side_word up side))) in
      let long_second : length second ≡ length bytes = length-set_number 4 first (side_word up side) (distance (side_word up side) (Some node)) ∙ long_first in
      let v = distance (side_word node (opposite side)) (target bytes (side_word up side)) in
      let apart_between : StandApart (length bytes) (side_word node (opposite side)) (nodes_of m) = record {
        small = apart.small;
        word_fits = p.far_apart.word_fits;
        nodes_fit = q.near_apart.nodes_fit;
        word_apart = q.word_near;
        nodes_apart =
            q.near_apart.nodes_apart;
      } in
      let near_back : IsTree bytes (target bytes (side_word node (opposite (opposite side)))) x = subst (λ s. IsTree bytes (target bytes (side_word node s)) x) (sym (opposite-twice side)) low.near_hangs in
      let lower : IsTree first (Some node) (branch side node colour x m) = subst (IsTree first (Some node)) (branch-flip side node colour m x)
      (relink bytes node colour (opposite side) (target bytes (side_word up side)) m x low.coloured high.near_hangs near_back apart_between p.node_near) in
      let up_clear = (clear-parts (side_word node (opposite side)) 4 side up upper m d p.far_apart.word_apart) in
      let word_up : Separate (side_word node (opposite side)) 4 up 16 = up_clear.node_apart in
      let up_colour : HasColour first up upper = colour-word bytes (side_word node (opposite side)) v up upper
      (separate-part up 16 (side_word node (opposite side)) 4 (up + 8) 8 (omega arith) (omega arith) (separate-swap (side_word node (opposite side)) 4 up 16 word_up)) high.coloured in
      let up_far : target first (side_word up (opposite side)) ≡ target bytes (side_word up (opposite side)) = target-word bytes (side_word node (opposite side)) v (side_word up (opposite side))
      (separate-swap (side_word node (opposite side)) 4 (side_word up (opposite side)) 4 (side_word-apart up (side_word node (opposite side)) 4 (opposite side) word_up)) in
      let following : IsTree first (target first (side_word up (opposite side))) d = subst (λ o. IsTree first o d) (sym up_far)
      (tree-word bytes (side_word node (opposite side)) v (target bytes (side_word up (opposite side))) d up_clear.far_clear high.far_hangs) in
      let whole : IsTree second (Some up) after = relink first up upper side (Some node) (branch side node colour x m) d up_colour lower following
      (subst (λ n. StandApart n (side_word up side) (nodes_of (branch side node colour x m))) (sym long_first) r.near_apart) r.node_far in
      let last = turns-hung second at (Some up) before after (subst (λ n. StandApart n at (nodes_of after)) (sym long_second) apart_after) whole in
      record {
        hangs = last.hangs;
        kept = keeps-trans bytes first (set_pointer second at (Some up)) at (nodes_of before) (keeps-inside bytes (side_word node (opposite side)) v at (nodes_of before)
            (in_branch side node colour x (branch side up upper m d) (opposite side)))
            (keeps-trans first second (set_pointer second at (Some up)) at (nodes_of before) (keeps-inside first (side_word up side) (distance (side_word up side) (Some node)) at (nodes_of before)
            (in_far side node up colour upper x m d side)) last.kept);
      }

  -- The child on the other side moves up, and the node moves down to a side. The subtree between
  -- them stays between them.
  pub turns-rotated : IsTree bytes (target bytes at) before → StandApart (length bytes) at (nodes_of before) → Turns bytes (rotated bytes at node side) at before after
  turns-rotated h apart =
      let low = branch-parts bytes (target bytes at) side node colour x (branch side up upper m d) h in
      let high = branch-parts bytes (target bytes (side_word node (opposite side))) side up upper m d low.far_hangs in
      subst (λ o. Turns bytes (rotated_up bytes at node side o) at before after) (sym high.named) (turned h apart)

-- ---- a new node

pub turns-new : (bytes : List ℕ) (at node : ℕ) → StandApart (length bytes) at (node ∷ []) → Turns bytes (set_pointer (with_new_node bytes node) at (Some node)) at (fork leaf node red leaf) (fork leaf node red leaf)
turns-new bytes at node apart =
    let one = with_child bytes node Left None in
    let two = with_child one node Right None in
    let three = with_colour two node Red in
    let four = set_word three (node + 12) 0 in
    let fits = apart.nodes_fit.0 in
    let small = apart.small in
    let l1 : length one ≡ length bytes = length-set_number 4 bytes node (distance node None) in
    let l2 : length two ≡ length one = length-set_number 4 one (node + 4) (distance (node + 4) None) in
    let l3 : length three ≡ length two = length-set_number 4 two (node + 8) 1 in
    let l4 : length four ≡ length three = length-set_number 4 three (node + 12) 0 in
    let left_one : target one node ≡ None = target-set_same bytes node None (omega arith) (omega arith) (λ t e. cc) in
    let right_two : target two (node + 4) ≡ None = target-set_same one (node + 4) None (omega arith) (omega arith) (λ t e. cc) in
    let left_two : target two node ≡ target one node = target-word one (node + 4) (distance (node + 4) None) node (inl (omega arith)) in
    let left_three : target three node ≡ target two node = target-word two (node + 8) 1 node (inl (omega arith)) in
    let right_three : target three (node + 4) ≡ target two (node + 4) = target-word two (node + 8) 1 (node + 4) (inl (omega arith)) in
    let left_four : target four node ≡ target three node = target-word three (node + 12) 0 node (inl (omega arith)) in
    let right_four : target four (node + 4) ≡ target three (node + 4) = target-word three (node + 12) 0 (node + 4) (inl (omega arith)) in
    let red_three : word three (node + 8) ≡ 1 = number-set_same 4 two (node + 8) 1 (omega arith) (omega arith) in
    let red_four : word four (node + 8) ≡ word three (node + 8) = number-set_other 4 4 three (node + 12) 0 (node + 8) (inl (omega arith)) in
    let zero_four : word four (node + 12) ≡ 0 = number-set_same 4 three (node + 12) 0 (omega arith) (omega arith) in
    let hangs : IsTree four (Some node) (fork leaf node red leaf) = (
      refl,
      record { colour_is = red_four ∙ red_three; zero_is = zero_four },
      subst (λ o. IsTree four o leaf) (sym (left_four ∙ left_three ∙ left_two ∙ left_one)) tt,
      subst (λ o. IsTree four o leaf) (sym (right_four ∙ right_three ∙ right_two)) tt,
    ) in
    let last = turns-hung four at (Some node) (fork leaf node red leaf) (fork leaf node red leaf) (subst (λ n. StandApart n at (node ∷ [])) (sym (l4 ∙ l3 ∙ l2 ∙ l1)) apart) hangs in
    let ns = node ∷ [] in
    record {
      hangs = last.hangs;
      kept = keeps-trans bytes one _ at ns (keeps-inside bytes node (distance node None) at ns (inside node (omega arith) (omega arith)))
          (keeps-trans one two _ at ns (keeps-inside one (node + 4) (distance (node + 4) None) at ns (inside (node + 4) (omega arith) (omega arith)))
          (keeps-trans two three _ at ns (keeps-inside two (node + 8) 1 at ns (inside (node + 8) (omega arith) (omega arith)))
          (keeps-trans three four _ at ns (keeps-inside three (node + 12) 0 at ns (inside (node + 12) (omega arith) (omega arith))) last.kept)));
    }
  where
    inside : (word : ℕ) → node ≤ word → word + 4 ≤ node + 16 → (p n : ℕ) → Clear p n (node ∷ []) → Separate p n word 4
    inside word low high p n c = separate-swap word 4 p n (separate-part node 16 p n word 4 low high (separate-swap p n node 16 c.0))
