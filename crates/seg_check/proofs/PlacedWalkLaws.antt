-- The place of a walk through a tree: at the pointer to the tree, or at a pointer in a node that was entered.
use Rattle.std.proofs.Common.{◌≡◌, ℕ, ◌+◌, ◌^◌, ◌<◌, List, [], ◌∷◌, ◌++◌, Some, sym, subst, arith}
use Rattle.std.specs.List.{AllByRecursion}
use Rattle.seg_spec.specs.Pointer.{target}
use Rattle.seg_spec.specs.Types.{Table}
use Rattle.seg_spec.specs.Block.{block_of}
use Rattle.seg_check.specs.declared.walk.Entered.{Entered}
use Rattle.seg_check.specs.declared.walk.Stage.{Stage}
use Rattle.seg_check.specs.declared.walk.Visit.TheVariants.{Enter, Pass}
use Rattle.seg_check.specs.Marks.{Known}
use Rattle.seg_check.specs.Positions.{IsNodeAt, IsLinkAt, of_cell, of_node, of_right}
use Rattle.seg_check.specs.Resolving.{IsReady}
use Rattle.seg_check.specs.Walks.{MovesOn}
use Rattle.seg_check.proofs.Blocks.LackingBlockLaws.{ready_allocated}

all_joined : (P : Entered → Type 0) (xs : List Entered) (x : Entered) → AllByRecursion P xs → P x → AllByRecursion P (xs ++ x ∷ [])
all_joined P [] x a p = (p, tt)
all_joined P (y ∷ ys) x a p = (a.0, all_joined P ys x a.1 p)

all_split : (P : Entered → Type 0) (xs : List Entered) (x : Entered) → AllByRecursion P (xs ++ x ∷ []) → AllByRecursion P xs × P x
all_split P [] x a = (tt, a.0)
all_split P (y ∷ ys) x a = let rest = all_split P ys x a.1 in ((a.0, rest.0), rest.1)

module _ (bytes : List ℕ) (table : Table) (known : Known) (ready : IsReady bytes table known) (tag room cell : ℕ) where
  pub record Placed (stage : Stage) : Type 0 where
    pub pointer : IsLinkAt bytes tag room cell stage.pointer
    pub entered : AllByRecursion (λ e. IsNodeAt bytes tag room e.node) stage.entered.items

  pub placed_start : (stage : Stage) → stage.pointer ≡ cell → stage.entered.items ≡ [] → Placed stage
  placed_start stage at none = record { pointer = of_cell at; entered = subst (AllByRecursion (λ e. IsNodeAt bytes tag room e.node)) (sym none) tt }

  -- a node's second pointer doesn't overflow
  node_low : (node : ℕ) → IsNodeAt bytes tag room node → node + 4 < 2 ^ 32
  node_low node n =
      let lies = ready_allocated bytes table known ready (block_of node) (omega (arith, n.among, ready.allocated (block_of node))) in
      let inside = lies.inside in
      let large = lies.size in
      let high = n.is_block.after_header in
      let fits = n.is_block.room in
      let small = ready.small in
      omega arith

  pub placed_enter : (old new : Stage) (pointer node : ℕ) → Placed old → MovesOn bytes old new (Enter pointer) → target bytes pointer ≡ Some node → IsNodeAt bytes tag room node → Placed new
  placed_enter old new pointer node p moves names n =
      let moved = moves.1 node names in
      record {
        pointer = subst (IsLinkAt bytes tag room cell) (sym moved.0) (of_node n);
        entered = subst (AllByRecursion (λ e. IsNodeAt bytes tag room e.node)) (sym moved.1) (all_joined (λ e. IsNodeAt bytes tag room e.node) old.entered.items (record { node = node; above = new.above }) p.entered n);
      }

  pub placed_pass : (old new : Stage) (node : ℕ) → Placed old → MovesOn bytes old new (Pass node) → Placed new
  placed_pass old new node p moves =
      let parts = all_split (λ e. IsNodeAt bytes tag room e.node) new.entered.items (record { node = node; above = new.above }) (subst (AllByRecursion (λ e. IsNodeAt bytes tag room e.node)) moves.0 p.entered) in
      record {
        pointer = subst (IsLinkAt bytes tag room cell) (sym (moves.1 (node_low node parts.1))) (of_right node parts.1);
        entered = parts.0;
      }

  -- the pointer of the node that the walk enters
  pub placed_link : (old new : Stage) (pointer : ℕ) → Placed old → MovesOn bytes old new (Enter pointer) → IsLinkAt bytes tag room cell pointer
  placed_link old new pointer p moves = subst (IsLinkAt bytes tag room cell) (sym moves.0) p.pointer
