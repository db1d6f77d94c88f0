-- An own loses its object, from how the writes change the bytes.
use Rattle.std.proofs.Common.{◌≡◌, ◌≢◌, ℕ, ◌+◌, ◌^◌, ◌<◌, ◌≤◌, List, [], ◌∷◌, Option, Some, None, refl, sym, ap, ◌∙◌, subst, arith}
use Rattle.std.specs.List.{AllByRecursion}
use Rattle.seg_spec.specs.Bytes.{set_word, ChangesOnly}
use Rattle.seg_spec.specs.Pointer.{target, distance, set_pointer}
use Rattle.seg_spec.specs.Types.{Form, Table, form_at, size}
use Rattle.seg_spec.specs.Value.{Value, Full}
use Rattle.seg_spec.specs.Heap.{live}
use Rattle.seg_spec.specs.Block.{Kind, tag_of, block_of, KeepsBlock}
use Rattle.seg_spec.specs.Reads.{Place}
use Rattle.seg_spec.specs.Sound.{times, positions}
use Rattle.seg_spec.specs.Owning.{Stands}
use Rattle.seg_spec.proofs.Values.PlaceFrameLaws.{Holds-kept, IsBlock-kept, payload-same}
use Rattle.seg_spec.proofs.Heap.LiveBlockLaws.{times-more, there}
use Rattle.seg_spec.proofs.Tables.TypeSizeLaws.{size-form}
use Rattle.seg_spec.proofs.Values.PlaceWriteLaws.{place_within, blocks_then, live_then, changes_place}
use Rattle.seg_spec.proofs.Deallocation.OwnLaws.{FullOwn, full_own, null_own, cell_changes, cell_names, cell_counts}
use Rattle.seg_value.specs.Places.{TakesOwn}

module _ (allocator : ℕ) (old : List ℕ) (table : Table) (own : Place) (U : ℕ) (f : form_at table own.type ≡ Some (Form.own U)) (v : Value) (blocks : List ℕ) (s : Stands allocator old table own (Full v) blocks) where
  eight : size table own.type ≡ 8
  eight = size-form table s.is_table own.type (Form.own U) f

  pub full : FullOwn old table own U v blocks
  full = full_own old table own U v blocks f s.holds_it

  abbrev pub then : List ℕ
  then = set_word (set_pointer old own.at None) (own.at + 4) 0

  changed : ChangesOnly old then own.at (size table own.type)
  changed = rw eight (cell_changes old own.at (distance own.at None) 0)

  fits : own.at + 8 ≤ Rattle.std.proofs.Common.length old
  fits = let w = place_within allocator old table own (Full v) blocks s in let e = eight in omega arith

  pub own_taken : TakesOwn old then table own U v blocks (Some full.object)
  own_taken =
      let kept : AllByRecursion (KeepsBlock old then) (block_of full.object ∷ full.inside) = subst (λ bs. AllByRecursion (KeepsBlock old then) bs) full.blocks_are (blocks_then allocator old table own (Full v) blocks s then changed) in
      let small = s.heap.small in
      let none : target then own.at ≡ None = cell_names old own.at 0 None fits (omega (arith, fits)) (λ t e. absurd (cc)) in
      let zero_count = cell_counts old own.at (distance own.at None) 0 fits (omega arith) in
      record {
        object = full.object;
        inside = full.inside;
        result_is = refl;
        blocks_are = full.blocks_are;
        loose = record {
          block = IsBlock-kept old then full.object (tag_of Kind.object U) (size table U) kept.0 full.block;
          holds_it = Holds-kept old then table s.is_table full.holds_it (payload-same old then full.object (tag_of Kind.object U) (size table U) kept.0 full.block) kept.1;
          owned = λ h. rw (live_then allocator old table own (Full v) blocks s then changed) (owned_still h);
        };
        changes = changes_place allocator old table own (Full v) blocks s then changed _ [] blocks (null_own then table own U f none zero_count);
        kept = λ h some. there (KeepsBlock old then) h blocks (blocks_then allocator old table own (Full v) blocks s then changed) some;
      }
    where
      owned_still : (h : ℕ) → times h (block_of full.object ∷ full.inside) ≤ times h (positions (live old))
      owned_still h = let o = s.owned h in let m = times-more h s.home blocks in let e : times h blocks ≡ times h (block_of full.object ∷ full.inside) = ap (times h) full.blocks_are in omega arith
