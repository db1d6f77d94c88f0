-- A place after a block that it owns got more units in place.
use Rattle.std.proofs.Common.{◌≡◌, ◌≢◌, ℕ, ◌≤◌, ◌⊎◌, inl, inr, List, ◌∷◌, length, refl, sym, ap, ◌∙◌, subst, arith}
use Rattle.std.specs.Prelude.{Contains}
use Rattle.std.proofs.lemmas.Bool.{cases_eq}
use Rattle.seg_spec.specs.Bytes.{IsSame}
use Rattle.seg_spec.specs.Header.{KeepsFront, KeepsBack}
use Rattle.seg_spec.specs.Types.{Table, size}
use Rattle.seg_spec.specs.Value.{Value}
use Rattle.seg_spec.specs.Heap.{Span, span, units_at, IsHeap, live, heap_start, resized, Keeps}
use Rattle.seg_spec.specs.Block.{IsOwnable, KeepsBlock}
use Rattle.seg_spec.specs.Reads.{Place}
use Rattle.seg_spec.specs.Parts.{KeepsAllParts}
use Rattle.seg_spec.specs.Sound.{times, positions}
use Rattle.seg_spec.specs.Owning.{Stands}
use Rattle.seg_spec.proofs.Heap.LiveBlockLaws.{there, each_there, LiesIn, live-lie, positions-resized}
use Rattle.seg_spec.proofs.Heap.KeptBlockLaws.{each_contained, StatesSpan, live_stated, block_kept, block_ownable, front_kept}
use Rattle.seg_spec.proofs.Deallocation.BlockFreeLaws.{found}
use Rattle.seg_spec.proofs.Heap.BlockSizeLaws.{resized_here, resized_other}
use Rattle.seg_spec.proofs.Heap.BlockFrameLaws.{around_kept}
use Rattle.seg_spec.proofs.Values.PlaceFrameLaws.{all_parts_kept}
use Rattle.seg_spec.proofs.Values.PlaceWriteLaws.{home_live, owned_live}
use Rattle.seg_spec.proofs.Values.CallPlaceLaws.{Frames, each_live_at, live_at, same_place, stands_still}

module _ (allocator : ℕ) (old : List ℕ) (table : Table) (place : Place) (v : Value) (blocks : List ℕ) (s : Stands allocator old table place v blocks)
    (new : List ℕ) (heap : IsHeap allocator new) (kept : Keeps old new) (at x n : ℕ) (it : Contains (live old) (span at x)) (more : x ≤ n) (live_is : live new ≡ resized at n (live old)) where
  states : (b : Span) → Contains (live old) b → StatesSpan old (length old) b
  states b c = each_contained (StatesSpan old (length old)) (live old) b (live_stated old allocator s.heap) c

  -- the header of the block states its units
  pub one_size : (b : Span) → Contains (live old) b → b.at ≡ at → b.units ≡ x
  one_size b c e = sym (states b c).units_is ∙ ap (units_at old) e ∙ (states (span at x) it).units_is

  -- each allocated block is still allocated, with no fewer units
  record Again (h : ℕ) : Type 0 where
    whole : KeepsBlock old new h
    ownable : IsOwnable new table h

  again : (h : ℕ) → 1 ≤ times h (positions (live old)) → Again h
  again h some =
      let f = found h (live old) some in
      let mine : IsOwnable old table f.block.at = rw f.at_is (live_at (IsOwnable old table) (live old) h s.ownable some) in
      subst Again f.at_is (go f.block f.among mine (cases_eq f.block.at at))
    where
      go : (b : Span) → Contains (live old) b → IsOwnable old table b.at → (b.at ≡ at) ⊎ (b.at ≢ at) → Again b.at
      go b c o (inl e) =
          let there_is : Contains (live new) (span at n) = rw live_is (resized_here at n (live old) b c e) in
          let same_units = one_size b c e in
          record {
            whole = block_kept old new allocator allocator b (span at n) s.heap heap kept c there_is e (omega arith);
            ownable = block_ownable old new allocator allocator table b (span at n) s.heap heap kept c there_is e o;
          }
      go b c o (inr ne) =
          let there_is : Contains (live new) b = rw live_is (resized_other at n (live old) b c ne) in
          record {
            whole = block_kept old new allocator allocator b b s.heap heap kept c there_is refl (omega arith);
            ownable = block_ownable old new allocator allocator table b b s.heap heap kept c there_is refl o;
          }

  counts : (h : ℕ) → times h (positions (live new)) ≡ times h (positions (live old))
  counts h = ap (λ bs. times h (positions bs)) live_is ∙ ap (times h) (positions-resized at n (live old))

  home_lies : LiesIn old heap_start (length old) s.home
  home_lies = there (LiesIn old heap_start (length old)) s.home (positions (live old)) (live-lie old allocator s.heap) (home_live allocator old table place v blocks s)

  front : KeepsFront old new × KeepsBack old new
  front = front_kept old new kept (omega (arith, home_lies.low, home_lies.high))

  of_ours : (h : ℕ) → 1 ≤ times h (s.home ∷ blocks) → 1 ≤ times h (positions (live old))
  of_ours h some = omega (arith, s.owned h)

  pub grown_stands : Stands allocator new table place v blocks
  grown_stands = stands_still allocator old table place v blocks s new heap front.0 (λ h some. (again h (of_ours h some)).whole)
      (each_live_at (IsOwnable new table) (live new) (λ h some. (again h (omega (arith, counts h))).ownable)) (λ h. omega (arith, s.owned h, counts h))

  pub grown_frames : (m : ℕ) (gone : List ℕ) → Frames old new place.at m gone
  grown_frames m gone = record {
    length_kept = kept.front_kept.length_kept;
    front_kept = front.0;
    back_kept = front.1;
    kept = λ h some away. around_kept old new place.at m h (solid h some) (again h some).whole;
    stays = λ h some away. omega (arith, counts h);
  }
    where
      solid : (h : ℕ) → 1 ≤ times h (positions (live old)) → 1 ≤ units_at old h
      solid h some = let l = there (LiesIn old heap_start (length old)) h (positions (live old)) (live-lie old allocator s.heap) some in omega (arith, l.size)

  pub grown_place : IsSame old new place.at (size table place.type)
  grown_place = same_place allocator old table place v blocks s new (again s.home (home_live allocator old table place v blocks s)).whole

  pub grown_parts : KeepsAllParts old new table place
  grown_parts = all_parts_kept old new table s.is_table s.holds_it grown_place (each_there (KeepsBlock old new) blocks (λ h some. (again h (owned_live allocator old table place v blocks s h some)).whole))

  -- the block's header states the new size
  pub grown_units : units_at new at ≡ n
  grown_units =
      let there_is : Contains (live new) (span at n) = rw live_is (resized_here at n (live old) (span at x) it refl) in
      (each_contained (StatesSpan new (length new)) (live new) (span at n) (live_stated new allocator heap) there_is).units_is
