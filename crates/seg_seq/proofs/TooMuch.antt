-- No free block is large enough for a request that is larger than a segment.
use Rattle.std.proofs.Common.{◌≡◌, ℕ, ◌*◌, ◌^◌, ◌≤◌, true, List, length, Option, Some, None, refl, sym, subst, arith}
use Rattle.seg_spec.specs.Pointer.{target}
use Rattle.seg_spec.specs.Types.{Form, Table, form_at}
use Rattle.seg_spec.specs.Value.{Value}
use Rattle.seg_spec.specs.Heap.{live}
use Rattle.seg_spec.specs.Block.{has_buffer}
use Rattle.seg_spec.specs.Reads.{Place}
use Rattle.seg_spec.specs.Owning.{Stands}
use Rattle.seg_spec.specs.Demand.{need, NoRoom}
use Rattle.seg_spec.specs.Spending.{units_named, buffer_asks}
use Rattle.seg_spec.proofs.Heap.LargeRequestLaws.{too_large}
use Rattle.seg_value.proofs.BufferRequestLaws.{ask, asks_once, least_first}
use Rattle.seg_seq.proofs.Rooms.{reaches}

-- no request for a buffer of 2^32 bytes or more is granted
module _ (allocator : ℕ) (old : List ℕ) (table : Table) (place : Place) (form : Form) (v : Value) (blocks : List ℕ) (f : form_at table place.type ≡ Some form) (b : has_buffer (Some form) ≡ true)
    (s : Stands allocator old table place v blocks) (item wanted : ℕ) (much : 2 ^ 32 ≤ wanted * item) where
  named_short : 16 * units_named old place.at ≤ length old
  named_short = go (target old place.at) refl
    where
      go : (o : Option ℕ) → target old place.at ≡ o → 16 * units_named old place.at ≤ length old
      go None e = rw e (omega arith)
      go (Some p) e = let r = reaches allocator old table place form v blocks f b s p e in rw e (omega (arith, r.lies.high))

  pub too_much : NoRoom allocator (live old) (length old) (buffer_asks old place.at item wanted)
  too_much =
      let small = s.heap.small in
      let l = named_short in
      let large : 2 ^ 28 ≤ need (wanted * item) = omega arith in
      subst (NoRoom allocator (live old) (length old)) (sym (asks_once allocator old place.at item wanted (omega arith)))
      (too_large allocator old s.heap (ask allocator old place.at item wanted) large (least_first allocator old place.at item wanted))
