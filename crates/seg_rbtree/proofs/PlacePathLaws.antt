-- The path to a node's place.
use Rattle.std.proofs.Common.{◌≡◌, ℕ, ◌+◌, ◌^◌, ◌<◌, ◌≤◌, List, [], ◌∷◌, ◌++◌, length, Some, None, refl, sym, ap, ◌∙◌, subst, length-append, arith}
use Rattle.std.specs.declared.cmp.Ordering.{Ordering}
use Rattle.std.specs.declared.cmp.Ordering.TheVariants.{Equal}
use Rattle.seg_spec.specs.Pointer.{target}
use Rattle.seg_spec.specs.Shapes.{Tree, leaf, fork, IsTree}
use Rattle.seg_spec.specs.Search.{IsSearchTree}
use Rattle.seg_rbtree.specs.declared.node.Side.{Side}
use Rattle.seg_rbtree.specs.declared.step.Step.{Step}
use Rattle.seg_rbtree.specs.declared.path.Path.{Path}
use Rattle.seg_rbtree.specs.Nodes.{side_word}
use Rattle.seg_rbtree.specs.Ways.{Layer, plug, place, step_of, steps_of, last_word, turn_of, LeadBy, EndsAt, LeadsTo}
use Rattle.seg_rbtree.proofs.Branches.{fork_at, tree-down}
use Rattle.seg_rbtree.proofs.LowNodes.{root_low}
use Rattle.seg_rbtree.proofs.Depth.{tall, deep-64, layers-deep}

pub length-steps : (layers : List Layer) → length (steps_of layers) ≡ length layers
length-steps [] = refl
length-steps (layer ∷ layers) = omega (arith, length-append (steps_of layers) (step_of layer ∷ []), length-steps layers)

-- after some steps the subtree at this pointer word remains to be searched
pub record IsWalking (root : ℕ) (turn : ℕ → Ordering) (shape : Tree) (steps : List Step) (word count : ℕ) : Type 0 where
  pub layers : List Layer
  pub rest : Tree
  pub shape_is : plug rest layers ≡ shape
  pub steps_are : steps ≡ steps_of layers
  pub leads : LeadBy turn layers
  pub count_is : length layers ≡ count
  pub word_is : word ≡ place root layers

module _ (bytes : List ℕ) (root : ℕ) (turn : ℕ → Ordering) (shape : Tree) where
  pub walking_start : (steps : List Step) (word : ℕ) → steps ≡ [] → word ≡ last_word root steps → IsWalking root turn shape steps word 0
  walking_start steps word e w = record { layers = []; rest = shape; shape_is = refl; steps_are = e; leads = tt; count_is = refl; word_is = w ∙ ap (last_word root) e }

  -- the subtree that remains is at the pointer word
  pub walking_hangs : (steps : List Step) (word count : ℕ) (s : IsWalking root turn shape steps word count) → IsTree bytes (target bytes root) shape → IsTree bytes (target bytes word) s.rest
  walking_hangs steps word count s t =
      subst (λ q. IsTree bytes (target bytes q) s.rest) (sym s.word_is) (tree-down bytes root s.rest s.layers (subst (IsTree bytes (target bytes root)) (sym s.shape_is) t))

  -- the path goes down to a side of the node at the word
  pub walked : (steps next : List Step) (word below count other : ℕ) (side : Side) → length bytes ≤ 2 ^ 30 → target bytes word ≡ Some other → turn other ≡ turn_of side
      → (other < 2 ^ 31 → next ≡ steps ++ record { node = other; side = side } ∷ []) → below ≡ side_word other side
      → IsTree bytes (target bytes root) shape → IsWalking root turn shape steps word count → IsWalking root turn shape next below (count + 1)
  walked steps next word below count other side small is o n w t s =
      let hung = walking_hangs steps word count s t in
      let f = fork_at bytes side other (target bytes word) s.rest is hung in
      let low = root_low bytes word side other f.colour f.near f.far small (subst (λ r. IsTree bytes (target bytes word) r) f.tree_is hung) in
      record {
        layers = record { side = side; at = other; colour = f.colour; other = f.far } ∷ s.layers;
        rest = f.near;
        shape_is = ap (λ r. plug r s.layers) (sym f.tree_is) ∙ s.shape_is;
        steps_are = n low ∙ ap (λ ss. ss ++ record { node = other; side = side } ∷ []) s.steps_are;
        leads = (o, s.leads);
        count_is = omega (arith, s.count_is);
        word_is = w;
      }

  ended : (path : Path) (word count : ℕ) (s : IsWalking root turn shape path.steps.items word count) → EndsAt turn s.rest → LeadsTo turn shape path
  ended path word count s e = record { layers = s.layers; rest = s.rest; shape_is = s.shape_is; steps_are = s.steps_are; leads = s.leads; ends = e }

  ends_empty : (rest : Tree) → IsTree bytes None rest → EndsAt turn rest
  ends_empty leaf t = tt
  ends_empty (fork left at colour right) t = absurd t

  pub walked_to_end : (path : Path) (word count : ℕ) → target bytes word ≡ None → IsTree bytes (target bytes root) shape → IsWalking root turn shape path.steps.items word count → LeadsTo turn shape path
  walked_to_end path word count is t s = ended path word count s (ends_empty s.rest (subst (λ p. IsTree bytes p s.rest) is (walking_hangs path.steps.items word count s t)))

  ends_equal : (rest : Tree) (other : ℕ) → IsTree bytes (Some other) rest → turn other ≡ Equal → EndsAt turn rest
  ends_equal leaf other t e = tt
  ends_equal (fork left at colour right) other t e = ap turn t.0 ∙ e

  pub walked_to_node : (path : Path) (word count other : ℕ) → target bytes word ≡ Some other → turn other ≡ Equal → IsTree bytes (target bytes root) shape
      → IsWalking root turn shape path.steps.items word count → LeadsTo turn shape path
  walked_to_node path word count other is e t s = ended path word count s (ends_equal s.rest other (subst (λ p. IsTree bytes p s.rest) is (walking_hangs path.steps.items word count s t)) e)

  ends_deep : (rest : Tree) → tall rest ≡ 0 → EndsAt turn rest
  ends_deep leaf e = tt
  ends_deep (fork left at colour right) e = absurd (omega arith)

  pub walked_all : (path : Path) (word count : ℕ) → 64 ≤ count → IsSearchTree bytes root shape → IsWalking root turn shape path.steps.items word count → LeadsTo turn shape path
  walked_all path word count full t s =
      let deep : length s.layers + tall s.rest ≤ tall shape = subst (λ x. length s.layers + tall s.rest ≤ tall x) s.shape_is (layers-deep s.rest s.layers) in
      ended path word count s (ends_deep s.rest (omega (arith, deep-64 shape t.red_black t.few, s.count_is)))

  -- the path has room for one step more
  pub walking_room : (steps : List Step) (word count : ℕ) → IsWalking root turn shape steps word count → length steps ≡ count
  walking_room steps word count s = ap length s.steps_are ∙ length-steps s.layers ∙ s.count_is

-- a search in equal bytes, from an equal root
pub walked_same : (turn : List ℕ → ℕ → Ordering) (path : Path) {now bytes : List ℕ} {begun root : ℕ} → now ≡ bytes → begun ≡ root → ((shape : Tree) → IsSearchTree now begun shape → LeadsTo (turn now) shape path)
    → (shape : Tree) → IsSearchTree bytes root shape → LeadsTo (turn bytes) shape path
walked_same turn path {now = now} {root = root} same begins leads =
    subst (λ (bs : List ℕ). (shape : Tree) → IsSearchTree bs root shape → LeadsTo (turn bs) shape path) same
    (subst (λ (r : ℕ). (shape : Tree) → IsSearchTree now r shape → LeadsTo (turn now) shape path) begins leads)
