-- An object was frozen, and then a cell was made to point to it: the cell, the allocated blocks,
-- and the values of the frozen objects.
use Rattle.std.proofs.Common.{◌≡◌, ◌≢◌, ℕ, List, [], ◌∷◌, ◌++◌, map, ◌∙◌, ap, arith}
use Rattle.std.specs.List.{AllByRecursion}
use Rattle.seg_spec.specs.Bytes.{word}
use Rattle.seg_spec.specs.Header.{next_word}
use Rattle.seg_spec.specs.Types.{Table}
use Rattle.seg_spec.specs.Value.{Label, Value, nil, node}
use Rattle.seg_spec.specs.Block.{block_of}
use Rattle.seg_spec.specs.Reads.{Place}
use Rattle.seg_spec.specs.Roots.{MovesPlace}
use Rattle.seg_spec.specs.Frozen.{Frozen, root_of_frozen, blocks_by}
use Rattle.seg_spec.specs.Sound.{HoldsRoots, times}
use Rattle.seg_spec.specs.Shared.{left}
use Rattle.seg_spec.specs.Destroying.{AreLive, HoldFrozen}
use Rattle.seg_spec.specs.Sharing.{frozen_now, with_blocks, Freezes}
use Rattle.seg_spec.proofs.Heap.LiveBlockLaws.{times-append}
use Rattle.seg_spec.proofs.Frozen.PictureCountLaws.{roots_held}
use Rattle.seg_spec.proofs.Frozen.FrozenBlockLaws.{left_each}
use Rattle.seg_spec.proofs.Frozen.OneMoreObjectLaws.{with_own, by_others, not_there}

module _ {allocator : ℕ} {old new : List ℕ} {table : Table} {cell : Place} {T object : ℕ} {v : Value} {inside blocks : List ℕ} {names : List Place} {theirs : ℕ → List ℕ} {now : List Frozen}
    (c : Freezes allocator old new table cell T object v inside blocks names theirs now) where
  abbrev pub theirs_then : ℕ → List ℕ
  theirs_then = with_blocks c.payload (block_of c.payload ∷ inside) theirs

  abbrev pub frozen_then : List Frozen
  frozen_then = frozen_now c.payload T (word old next_word) v ∷ left names now

  pub freezes_roots : HoldsRoots new table (map root_of_frozen frozen_then) (blocks_by theirs_then frozen_then)
  freezes_roots = roots_held new table theirs_then frozen_then c.holds

  module _ (hold : HoldFrozen old table theirs now) (owned : AreLive old (blocks_by theirs now)) where
    -- no other object is in the new block
    pub others_elsewhere : AllByRecursion (λ (f : Frozen). f.at ≢ c.payload) (left names now)
    others_elsewhere = left_each (λ at. at ≢ c.payload) names now (not_there old table theirs c.payload now (omega (arith, owned (block_of c.payload), c.was_free)) hold)

    pub blocks_then : blocks_by theirs_then frozen_then ≡ (block_of c.payload ∷ inside) ++ blocks_by theirs (left names now)
    blocks_then =
        ap (λ hs. hs ++ blocks_by theirs_then (left names now)) (with_own c.payload (block_of c.payload ∷ inside) theirs)
        ∙ ap (λ hs. (block_of c.payload ∷ inside) ++ hs) (by_others c.payload (block_of c.payload ∷ inside) theirs (left names now) others_elsewhere)

    pub freezes_moves : MovesPlace old new table cell (node (Label.shared T c.payload) nil) [] (blocks ++ ((block_of object ∷ inside) ++ blocks_by theirs now)) (blocks_by theirs_then frozen_then)
    freezes_moves = record {
      holds_it = c.holds_it;
      live_are = λ h.
          let rest = blocks_by theirs (left names now) in
          let e : times h (blocks_by theirs_then frozen_then) ≡ times h ((block_of c.payload ∷ inside) ++ rest) = ap (times h) blocks_then in
          omega (
            arith,
            e,
            c.live_are h,
            c.all_are h,
            times-append h blocks ((block_of object ∷ inside) ++ blocks_by theirs now),
            times-append h (block_of object ∷ inside) (blocks_by theirs now),
            times-append h (block_of object ∷ []) inside,
            times-append h (block_of object ∷ []) c.gives,
            times-append h blocks (blocks_by theirs now),
            times-append h c.gives rest,
            times-append h (block_of c.payload ∷ inside) rest,
            times-append h (block_of c.payload ∷ []) inside,
          );
      kept = λ h some none. c.kept h some (omega (
        arith,
        none,
        times-append h blocks ((block_of object ∷ inside) ++ blocks_by theirs now),
        times-append h (block_of object ∷ inside) (blocks_by theirs now),
        times-append h (block_of object ∷ inside) (blocks ++ blocks_by theirs now),
        times-append h blocks (blocks_by theirs now),
      ));
    }
