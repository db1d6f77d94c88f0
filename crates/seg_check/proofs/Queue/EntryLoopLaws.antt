-- The entries of a block, read one after the other.
use Rattle.std.proofs.Common.{◌≡◌, ℕ, zero, suc, ◌+◌, ◌*◌, ◌%◌, ◌^◌, ◌<◌, ◌≤◌, List, length, Some, None, refl, ap, ◌∙◌, subst, arith}
use Rattle.std.specs.Prelude.{slice_get}
use Rattle.seg_spec.specs.Types.{Table, IsTable, size}
use Rattle.seg_spec.specs.Block.{block_of}
use Rattle.seg_spec.specs.Owing.{entries_at}
use Rattle.seg_spec.specs.Reads.{Place}
use Rattle.seg_cells.specs.declared.entry.Entry.{Entry}
use Rattle.seg_cells.specs.declared.entry.Held.{Held}
use Rattle.seg_cells.specs.declared.entry.Held.TheVariants as held
use Rattle.seg_check.specs.declared.marks.Turn.{Turn}
use Rattle.seg_check.specs.Turns.{AreLow, IsTurn, IsEntryFor, HasEntries, entries_by, places_in}
use Rattle.seg_check.proofs.Queue.PlaceLoopLaws.{each_get}

entry_get : (table : Table) (start before U n i : ℕ) → i < n → slice_get (entries_at table start before U n) i ≡ Some (record { at = start + i * (before + size table U) + before; type = U })
entry_get table start before U zero i l = absurd (omega arith)
entry_get table start before U (suc n) zero l = let here : start + before ≡ start + 0 * (before + size table U) + before = omega arith in ap (λ p. Some (record { at = p; type = U })) here
entry_get table start before U (suc n) (suc i) l =
    let here : (start + (before + size table U)) + i * (before + size table U) + before ≡ start + suc i * (before + size table U) + before = omega arith in
    entry_get table (start + (before + size table U)) before U n i (omega arith) ∙ ap (λ p. Some (record { at = p; type = U })) here

length-entries : (table : Table) (start before U n : ℕ) → length (entries_at table start before U n) ≡ n
length-entries table start before U zero = refl
length-entries table start before U (suc n) = ap suc (length-entries table (start + (before + size table U)) before U n)

few_by : (table : Table) (h : Held) (before start n : ℕ) → length (entries_by table h before start n) ≤ n
few_by table (held.Value U) before start n = let l = length-entries table start before U n in omega arith
few_by table held.Bytes before start n = omega arith
few_by table held.Pointer before start n = omega arith

none_by : (table : Table) (h : Held) (before start n i : ℕ) → ((U : ℕ) → h ≡ held.Value U → ⊥) → slice_get (entries_by table h before start n) i ≡ None
none_by table (held.Value U) before start n i other = absurd (other U refl)
none_by table held.Bytes before start n i other = refl
none_by table held.Pointer before start n i other = refl

module _ (bytes : List ℕ) (table : Table) (block : ℕ) (entry : Entry) (h : HasEntries bytes table block entry) (turn : Turn) (same : block ≡ block_of turn.start) where
  pub few_places : length (places_in bytes table turn) ≤ turn.count
  few_places = let l = few_by table entry.held entry.before turn.start turn.count in let e = ap length (h.places turn same) in omega arith

  pub no_value : (i : ℕ) → ((U : ℕ) → entry.held ≡ held.Value U → ⊥) → slice_get (places_in bytes table turn) i ≡ None
  no_value i other = ap (λ ps. slice_get ps i) (h.places turn same) ∙ none_by table entry.held entry.before turn.start turn.count i other

  -- the value at index i of the block was read
  pub record IsRead (i x V : ℕ) : Type 0 where
    pub there : slice_get (places_in bytes table turn) i ≡ Some (record { at = x; type = V })
    pub known : V < length table
    pub fits : x + size table V ≤ 2 ^ 32

  pub is_read : (valid : IsTable table) (t : IsTurn bytes table turn) (i x V : ℕ) → i < turn.count → entry.held ≡ held.Value V → x ≡ (turn.start + i * entry.size + entry.before) % 2 ^ 32 → IsRead i x V
  is_read valid t i x V l e x_is =
      let places : places_in bytes table turn ≡ entries_at table turn.start entry.before V turn.count = h.places turn same ∙ ap (λ hd. entries_by table hd entry.before turn.start turn.count) e in
      let is = subst (IsEntryFor table entry) e h.entry_is in
      let got = entry_get table turn.start entry.before V turn.count i l in
      let low = each_get (λ (place : Place). place.at ≤ 2 ^ 30) (entries_at table turn.start entry.before V turn.count) i _ (subst AreLow places t.low) got in
      let sizes = ap (λ m. i * m) is.0 in
      let here : turn.start + i * (entry.before + size table V) + entry.before ≡ x = omega (arith, low, sizes, x_is) in
      let small = valid.sizes V in
      record {
        there = ap (λ ps. slice_get ps i) places ∙ got ∙ ap (λ p. Some (record { at = p; type = V })) here;
        known = is.1;
        fits = omega (arith, low, here, small);
      }
