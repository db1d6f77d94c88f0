-- A node with two children is replaced by the next one in order.
use Rattle.std.proofs.Common.{◌≡◌, ℕ, ◌+◌, ◌^◌, ◌<◌, ◌≤◌, List, [], ◌∷◌, ◌++◌, length, take, get_or, set, slice_index_or, slice_set, Option, Some, None, sym, ap, ◌∙◌, subst, arith, append_assoc}
use Rattle.std.proofs.Math.Seq.{set-append_seam, take-append_seam, get_or-append_seam}
use Rattle.std.proofs.lemmas.List.{length-append}
use Rattle.seg_spec.specs.Pointer.{target, distance, set_pointer}
use Rattle.seg_spec.specs.Apart.{Separate}
use Rattle.seg_spec.specs.Shapes.{Colour, Tree, leaf, fork, nodes_of, HasColour, IsTree, IsRedBlack}
use Rattle.seg_spec.proofs.BytesLaws.{length-set_number}
use Rattle.seg_rbtree.specs.declared.node.Side.TheVariants.{Left, Right}
use Rattle.seg_rbtree.specs.declared.node.Colour.{Colour as Paint}
use Rattle.seg_rbtree.specs.declared.node.Colour.TheVariants.{Black, Red}
use Rattle.seg_rbtree.specs.declared.path.Path.{Path}
use Rattle.seg_rbtree.specs.declared.step.Step.{Step}
use Rattle.seg_rbtree.specs.Nodes.{shade, colour_at, colour_number, with_child}
use Rattle.seg_rbtree.specs.Ways.{Layer, plug, place, step_of, steps_of, last_word}
use Rattle.seg_rbtree.specs.Changes.{StandApart}
use Rattle.seg_rbtree.specs.Turns.{Turns}
use Rattle.seg_rbtree.specs.Removing.{layer_at, in_place_of, StandsAt, IsLeft, Loses, AreLeft, Unlinks, Descends}
use Rattle.seg_rbtree.proofs.Apartness.{Clear, parts-apart, apart-down, separate-swap, separate-part, clear-part}
use Rattle.seg_rbtree.proofs.Branches.{branch-parts, tree-down}
use Rattle.seg_rbtree.proofs.LowNodes.{root_low}
use Rattle.seg_rbtree.proofs.WordWriteLaws.{keeps-trans, keeps-inside, colour-word, target-word, tree-word}
use Rattle.seg_rbtree.proofs.LocalChangeLaws.{turns-up, turns-whole, turns-hung, relink, recolour, clear-parts}
use Rattle.seg_rbtree.proofs.Steps.{last_word-steps}
use Rattle.seg_rbtree.proofs.NodeUnlinkLaws.{next_lost, red_unlinked, black_unlinked, renamed_whole, renamed_short}
use Rattle.seg_rbtree.proofs.ShortSubtreeStepLaws.{colour_read, turned_at, here, here_apart}
use Rattle.seg_rbtree.proofs.NodeRemovalLaws.{plug_on, place_on, steps_on, apart_lost, each_lost, lone_turned}

-- ---- the subtree at the node's pointer word

module _ (b : List ℕ) (at node next : ℕ) (colour tint : Colour) (left only : Tree) (lower : List Layer) where
  abbrev pub follower : Tree
  follower = fork leaf next tint only

  abbrev pub part : Tree
  part = plug follower lower

  abbrev pub rest : Tree
  rest = plug only lower

  abbrev pub old : Tree
  old = fork left node colour part

  abbrev pub new : Tree
  new = fork left next colour rest

  abbrev pub taken : List ℕ
  taken = set_pointer b (place (node + 4) lower) (target b (next + 4))

  abbrev pub placed : List ℕ
  placed = in_place_of taken node next

  abbrev pub hung : List ℕ
  hung = set_pointer placed at (Some next)

  next_in_place : AreLeft lower → Loses node (nodes_of old) (nodes_of new)
  next_in_place a =
      let l = next_lost colour left [] lower node next tint only a in
      subst (λ t. Loses node (nodes_of t) (nodes_of new)) (plug_on follower lower (layer_at Right node colour left ∷ []))
      (subst (λ t. Loses node (nodes_of (plug follower (lower ++ layer_at Right node colour left ∷ []))) (nodes_of t)) (plug_on only lower (layer_at Right next colour left ∷ [])) l)

  pub gives_place : AreLeft lower → IsTree b (target b at) old → StandApart (length b) at (nodes_of old) → Turns b hung at old new
  gives_place leftward h a =
      let word = place (node + 4) lower in
      let first = with_child taken next Left (target taken node) in
      let second = with_child first next Right (target taken (node + 4)) in
      let paint = colour_at taken (Some node) in
      let v = distance word (target b (next + 4)) in
      let parts = branch-parts b (target b at) Right node colour part left h in
      let p = parts-apart (length b) at Right node colour part left a in
      let below : IsTree b (target b word) follower = tree-down b (node + 4) follower lower parts.near_hangs in
      let below_apart : StandApart (length b) word (nodes_of follower) = apart-down (length b) (node + 4) follower lower p.near_apart in
      let out : Turns b taken word follower only = lone_turned b word Left next tint only below below_apart in
      let out_right : Turns b taken (node + 4) part rest = turns-whole b taken (node + 4) follower follower only lower parts.near_hangs p.near_apart out in
      let out_here : Turns b taken at old (fork left node colour rest) = turns-up b taken at Right node colour part left part rest h a out_right in
      let lost : Loses node (nodes_of old) (nodes_of new) = next_in_place leftward in
      let new_apart : StandApart (length b) at (nodes_of new) = apart_lost (length b) at node (nodes_of old) (nodes_of new) lost a in
      let q = parts-apart (length b) at Right next colour rest left new_apart in
      let f = parts-apart (length b) word Left next tint leaf only below_apart in
      let was = branch-parts b (target b word) Left next tint leaf only below in
      let now = branch-parts taken (target taken at) Right node colour rest left out_here.hangs in
      let len1 : length taken ≡ length b = length-set_number 4 b word v in
      let len2 : length first ≡ length taken = length-set_number 4 taken next (distance next (target taken node)) in
      let len3 : length second ≡ length first = length-set_number 4 first (next + 4) (distance (next + 4) (target taken (node + 4))) in
      let len4 : length placed ≡ length second = length-set_number 4 second (next + 8) (colour_number paint) in
      let word_next : Separate next 16 word 4 = separate-swap word 4 next 16 f.word_node in
      let coloured : HasColour taken next tint = colour-word b word v next tint (separate-part next 16 word 4 (next + 8) 8 (omega arith) (omega arith) word_next) was.coloured in
      let same_right : target taken (next + 4) ≡ target b (next + 4) = target-word b word v (next + 4) (separate-part next 16 word 4 (next + 4) 4 (omega arith) (omega arith) word_next) in
      let only_hangs : IsTree taken (target taken (next + 4)) only = subst (λ o. IsTree taken o only) (sym same_right) (tree-word b word v (target b (next + 4)) only f.word_far was.far_hangs) in
      let one : IsTree first (Some next) (fork left next tint only) = relink taken next tint Left (target taken node) left only coloured now.far_hangs only_hangs (subst (λ n. StandApart n next (nodes_of left)) (sym len1) q.far_apart)
      f.node_far in
      let parts1 = branch-parts first (Some next) Right next tint only left one in
      let rest_hangs : IsTree first (target taken (node + 4)) rest = tree-word taken next (distance next (target taken node)) (target taken (node + 4)) rest (clear-part next 16 next 4 (nodes_of rest) (omega arith) (omega arith) q.node_near)
      now.near_hangs in
      let two : IsTree second (Some next) (fork left next tint rest) = relink first next tint Right (target taken (node + 4)) rest left parts1.coloured rest_hangs parts1.far_hangs
      (subst (λ n. StandApart n (next + 4) (nodes_of rest)) (sym (len2 ∙ len1)) q.near_apart) q.node_far in
      let three : IsTree placed (Some next) (fork left next (shade paint) rest) = recolour second next Right tint paint rest left (omega (arith, q.node_fits, len1, len2, len3)) q.node_near q.node_far two in
      let tinted : shade paint ≡ colour = colour_read taken node colour now.coloured in
      let four : IsTree placed (Some next) new = subst (λ c. IsTree placed (Some next) (fork left next c rest)) tinted three in
      let last : Turns placed hung at old new = turns-hung placed at (Some next) old new (subst (λ n. StandApart n at (nodes_of new)) (sym (len4 ∙ len3 ∙ len2 ∙ len1)) new_apart) four in
      let ns = nodes_of old in
      record {
        hangs = last.hangs;
        kept = keeps-trans b taken hung at ns out_here.kept
            (keeps-trans taken first hung at ns (keeps-inside taken next (distance next (target taken node)) at ns (inside lost next (omega arith) (omega arith)))
            (keeps-trans first second hung at ns (keeps-inside first (next + 4) (distance (next + 4) (target taken (node + 4))) at ns (inside lost (next + 4) (omega arith) (omega arith)))
            (keeps-trans second placed hung at ns (keeps-inside second (next + 8) (colour_number paint) at ns (inside lost (next + 8) (omega arith) (omega arith))) last.kept)));
      }
    where
      inside : Loses node (nodes_of old) (nodes_of new) → (word : ℕ) → next ≤ word → word + 4 ≤ next + 16 → (p n : ℕ) → Clear p n (nodes_of old) → Separate p n word 4
      inside lost word low high p n c =
          let k = clear-parts p n Right next colour rest left (each_lost (λ q. Separate p n q 16) node (nodes_of old) (nodes_of new) lost c) in
          separate-swap word 4 p n (separate-part next 16 p n word 4 low high (separate-swap p n next 16 k.node_apart))

-- ---- the path

named_alike : (o : Option ℕ) (x y : ℕ) → o ≡ Some x → o ≡ Some y → x ≡ y
named_alike o x y e f = cc

-- the path with the next node's step in place of the node's step
path_renamed : (xs ys zs : List Step) (depth : ℕ) (node next : ℕ) (items after : List Step) → items ≡ xs ++ record { node = node; side = Right } ∷ ys → depth ≡ length xs
    → ((step : Step) → depth < length items → step ≡ slice_index_or items depth step → after ≡ slice_set items depth (record { node = next; side = step.side })) → after ≡ xs ++ record { node = next; side = Right } ∷ ys
path_renamed xs ys zs depth node next items after e d replaced =
    let was : Step = record { node = node; side = Right } in
    let is : Step = record { node = next; side = Right } in
    let long : length items ≡ length xs + length (was ∷ ys) = ap length e ∙ length-append xs (was ∷ ys) in
    let there : was ≡ slice_index_or items depth was = sym (ap (λ k. get_or items k was) d ∙ ap (λ ss. get_or ss (length xs) was) e ∙ get_or-append_seam xs was ys was) in
    replaced was (omega (arith, long, d)) there ∙ ap (λ k. set items k is) d ∙ ap (λ ss. set ss (length xs) is) e ∙ set-append_seam xs was ys is

state_renamed : (node next : ℕ) (colour : Colour) (left only : Tree) (lower layers : List Layer) (gone : Paint) → IsRedBlack (plug (fork leaf next (shade gone) only) (lower ++ layer_at Right node colour left ∷ layers))
    → length (nodes_of (plug (fork leaf next (shade gone) only) (lower ++ layer_at Right node colour left ∷ layers))) < 2 ^ 32 → IsLeft gone (lower ++ layer_at Right next colour left ∷ layers) only
state_renamed node next colour left only lower layers Black r few =
    renamed_short node next colour Right left layers lower only (black_unlinked (lower ++ layer_at Right node colour left ∷ layers) Left only next r few)
state_renamed node next colour left only lower layers Red r few =
    renamed_whole node next colour Right left layers lower only (red_unlinked (lower ++ layer_at Right node colour left ∷ layers) Left only next r)

module _ (b b1 b2 b3 : List ℕ) (path one two : Path) (node depth : ℕ) (gone : Paint) (layers lower : List Layer) (left only : Tree) (colour tint : Colour) (next : ℕ) where
  abbrev whole : Tree
  whole = old b (place path.root layers) node next colour tint left only lower

  at_next : depth ≡ length path.steps.items → one.root ≡ path.root → two.root ≡ one.root → gone ≡ colour_at b (Some next)
      → b1 ≡ set_pointer b (last_word one.root one.steps.items) (target b (next + 4)) → b2 ≡ in_place_of b1 node next
      → ((step : Step) → depth < length one.steps.items → next < 2 ^ 31 → step ≡ slice_index_or one.steps.items depth step → two.steps.items ≡ slice_set one.steps.items depth (record { node = next; side = step.side }))
      → (depth ≤ length two.steps.items → b3 ≡ set_pointer b2 (last_word two.root (take depth two.steps.items)) (Some next))
      → AreLeft lower → one.steps.items ≡ steps_of (lower ++ layer_at Right node colour left ∷ layers) → StandsAt b path layers whole → IsRedBlack (plug whole layers) → length (nodes_of (plug whole layers)) < 2 ^ 32
      → Unlinks b b3 two layers whole node gone
  at_next d r1 r2 eg e1 e2 replaced e3 leftward steps s r few =
      let at = place path.root layers in
      let N = layer_at Right node colour left in
      let M = layer_at Right next colour left in
      let F = fork leaf next tint only in
      let xs = steps_of layers in
      let ys = steps_of lower in
      let items : one.steps.items ≡ xs ++ step_of N ∷ ys = steps ∙ steps_on lower (N ∷ layers) ∙ append_assoc xs (step_of N ∷ []) ys in
      let deep : depth ≡ length xs = d ∙ ap length s.steps_are in
      let renamed : two.steps.items ≡ xs ++ step_of M ∷ ys = path_renamed xs ys [] depth node next one.steps.items two.steps.items items deep (λ step inside. replaced step inside next_low) in
      let long : length two.steps.items ≡ length xs + length (step_of M ∷ ys) = ap length renamed ∙ length-append xs (step_of M ∷ ys) in
      let word1 : last_word one.root one.steps.items ≡ place (node + 4) lower = ap (last_word one.root) steps ∙ last_word-steps one.root (lower ++ N ∷ layers) ∙ place_on one.root lower (N ∷ layers) in
      let front : take depth two.steps.items ≡ xs = ap (λ k. take k two.steps.items) deep ∙ ap (λ ss. take (length xs) ss) renamed ∙ take-append_seam xs (step_of M ∷ ys) in
      let word2 : last_word two.root (take depth two.steps.items) ≡ at = ap (last_word two.root) front ∙ last_word-steps two.root layers ∙ ap (λ root. place root layers) (r2 ∙ r1) in
      let is1 : b1 ≡ taken b at node next colour tint left only lower = e1 ∙ ap (λ w. set_pointer b w (target b (next + 4))) word1 in
      let is2 : b2 ≡ placed b at node next colour tint left only lower = e2 ∙ ap (λ x. in_place_of x node next) is1 in
      let is3 : b3 ≡ hung b at node next colour tint left only lower = e3 (omega (arith, long, deep)) ∙ ap (λ w. set_pointer b2 w (Some next)) word2 ∙ ap (λ x. set_pointer x at (Some next)) is2 in
      let after = new b at node next colour tint left only lower in
      let local : Turns b b3 at whole after = subst (λ x. Turns b x at whole after) (sym is3) (gives_place b at node next colour tint left only lower leftward (here b path layers whole s) (here_apart b path layers whole s)) in
      let shape0 : plug F (lower ++ N ∷ layers) ≡ plug whole layers = plug_on F lower (N ∷ layers) in
      let shape1 : plug only (lower ++ M ∷ layers) ≡ plug after layers = plug_on only lower (M ∷ layers) in
      let tinted : tint ≡ shade gone = sym (ap shade eg ∙ colour_read b next tint next_coloured) in
      record {
        above = lower ++ M ∷ layers;
        part = only;
        steps_are = renamed ∙ sym (steps_on lower (M ∷ layers) ∙ append_assoc xs (step_of M ∷ []) ys);
        turned = subst (λ root. Turns b b3 root (plug whole layers) (plug only (lower ++ M ∷ layers))) (sym (r2 ∙ r1)) (subst (λ t. Turns b b3 path.root (plug whole layers) t) (sym shape1) (turned_at b b3 path layers whole after s local));
        lost = subst (λ t. Loses node (nodes_of t) (nodes_of (plug only (lower ++ M ∷ layers)))) shape0 (next_lost colour left layers lower node next tint only leftward);
        state = state_renamed node next colour left only lower layers gone
            (subst (λ c. IsRedBlack (plug (fork leaf next c only) (lower ++ N ∷ layers))) tinted (subst (λ t. IsRedBlack t) (sym shape0) r))
            (subst (λ c. length (nodes_of (plug (fork leaf next c only) (lower ++ N ∷ layers))) < 2 ^ 32) tinted (subst (λ t. length (nodes_of t) < 2 ^ 32) (sym shape0) few));
      }
    where
      next_hangs : IsTree b (target b (place (node + 4) lower)) (fork leaf next tint only)
      next_hangs =
          let parts = branch-parts b (target b (place path.root layers)) Right node colour (plug (fork leaf next tint only) lower) left (here b path layers whole s) in
          tree-down b (node + 4) (fork leaf next tint only) lower parts.near_hangs

      next_coloured : HasColour b next tint
      next_coloured = (branch-parts b (target b (place (node + 4) lower)) Left next tint leaf only next_hangs).coloured

      next_low : next < 2 ^ 31
      next_low = root_low b (place (node + 4) lower) Left next tint leaf only s.apart.small next_hangs

pub by_next : (b b1 b2 b3 : List ℕ) (path one two : Path) (node read depth : ℕ) (gone : Paint) (result : Option ℕ) → depth ≡ length path.steps.items → one.root ≡ path.root → two.root ≡ one.root → result ≡ Some read
    → gone ≡ colour_at b (Some read)
    → b1 ≡ set_pointer b (last_word one.root one.steps.items) (target b (read + 4)) → b2 ≡ in_place_of b1 node read
    → ((step : Step) → depth < length one.steps.items → read < 2 ^ 31 → step ≡ slice_index_or one.steps.items depth step → two.steps.items ≡ slice_set one.steps.items depth (record { node = read; side = step.side }))
    → (depth ≤ length two.steps.items → b3 ≡ set_pointer b2 (last_word two.root (take depth two.steps.items)) (Some read))
    → (layers : List Layer) (left right : Tree) (colour : Colour) → StandsAt b path layers (fork left node colour right) → IsRedBlack (plug (fork left node colour right) layers)
    → length (nodes_of (plug (fork left node colour right) layers)) < 2 ^ 32
    → Descends one (layer_at Right node colour left ∷ layers) right result → Unlinks b b3 two layers (fork left node colour right) node gone
by_next b b1 b2 b3 path one two node read depth gone result d r1 r2 er eg e1 e2 replaced e3 layers left right colour s r few to =
    let same : read ≡ to.next = named_alike result read to.next er to.result_is in
    let law = at_next b b1 b2 b3 path one two node depth gone layers to.lower left to.only colour to.tint to.next d r1 r2 (eg ∙ ap (λ p. colour_at b (Some p)) same)
    (e1 ∙ ap (λ p. set_pointer b (last_word one.root one.steps.items) (target b (p + 4))) same) (e2 ∙ ap (λ p. in_place_of b1 node p) same)
    (λ step inside low at. replaced step inside (subst (λ p. p < 2 ^ 31) (sym same) low) at ∙ ap (λ p. set one.steps.items depth (record { node = p; side = step.side })) same)
    (λ low. e3 low ∙ ap (λ p. set_pointer b2 (last_word two.root (take depth two.steps.items)) (Some p)) same)
    to.leftward to.steps_are in
    (subst (λ t. StandsAt b path layers (fork left node colour t) → IsRedBlack (plug (fork left node colour t) layers) → length (nodes_of (plug (fork left node colour t) layers)) < 2 ^ 32
    → Unlinks b b3 two layers (fork left node colour t) node gone) (sym to.tree_is) law) s r few

-- a node with a right child has a next node
pub no_next : (path : Path) (layers : List Layer) (right : Tree) (result : Option ℕ) → result ≡ None → Descends path layers right result → ⊥
no_next path layers right result e to = let some = to.result_is in cc
