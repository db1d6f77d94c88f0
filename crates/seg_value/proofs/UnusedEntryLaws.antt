-- The unused entries of a buffer have default values.
use Rattle.std.proofs.Common.{◌≡◌, ℕ, ◌+◌, ◌-◌, ◌*◌, ◌/◌, ◌%◌, ◌^◌, ◌<◌, ◌≤◌, false, List, [], ◌∷◌, length, map, Option, Some, None, refl, ap, ◌∙◌, subst, arith}
use Rattle.std.specs.List.{AllByRecursion}
use Rattle.std.proofs.Math.Nat.{div-mul-le_self}
use Rattle.std.proofs.lemmas.Nat.{le-div}
use Rattle.seg_spec.specs.Types.{Form, Table, form_at, IsTable, size}
use Rattle.seg_spec.specs.Heap.{units_at, IsHeap, live, heap_start}
use Rattle.seg_spec.specs.Block.{block_of, payload_size}
use Rattle.seg_spec.specs.Reads.{spaced}
use Rattle.seg_spec.specs.Cells.{IsWithin, EachCell, ChangesEach, ChangesCells, IsDefaulted}
use Rattle.seg_spec.specs.Sound.{times, positions}
use Rattle.seg_spec.specs.Owing.{NamesNothing}
use Rattle.seg_spec.specs.Destroying.{DefaultsRest}
use Rattle.seg_spec.proofs.Tables.TypeSizeLaws.{size_large}
use Rattle.seg_spec.proofs.Values.PlaceFrameLaws.{each_weaker}
use Rattle.seg_spec.proofs.Heap.LiveBlockLaws.{there, LiesIn, live-lie}
use Rattle.seg_spec.proofs.Values.CellChangeLaws.{each_none, each_i64, each_cell_weaker, ChangesOnly-none, ChangesOnly-wider, defaulted_local, next_entry, entry_position, entry_within}
use Rattle.seg_block.specs.Blocks.{IsSized}
use Rattle.seg_layout.specs.Forms.{has_cells}

-- a cell with its default value is null
defaulted_nothing : (old new : List ℕ) (at : ℕ) (form : Option Form) → IsDefaulted old new at form → NamesNothing new at form
defaulted_nothing old new at (Some Form.i64) h = tt
defaulted_nothing old new at None h = h.0
defaulted_nothing old new at (Some Form.str) h = h.0
defaulted_nothing old new at (Some (Form.vec U)) h = h.0
defaulted_nothing old new at (Some (Form.list U)) h = h.0
defaulted_nothing old new at (Some (Form.flat_map U)) h = h.0
defaulted_nothing old new at (Some (Form.map U)) h = h.0
defaulted_nothing old new at (Some (Form.own U)) h = h.0
defaulted_nothing old new at (Some (Form.shared U)) h = h.0
defaulted_nothing old new at (Some (Form.struct Us)) h = h.0

module _ (table : Table) (valid : IsTable table) (U : ℕ) where
  nothing_by : (bytes : List ℕ) (q : ℕ) (o : Option Form) → form_at table U ≡ o → has_cells o ≡ false → EachCell table U (λ d form. NamesNothing bytes (q + d) form)
  nothing_by bytes q None f h = each_none table valid (λ d form. NamesNothing bytes (q + d) form) U f
  nothing_by bytes q (Some Form.i64) f h = each_i64 table valid (λ d form. NamesNothing bytes (q + d) form) U f tt
  nothing_by bytes q (Some (Form.struct Us)) f h = absurd (cc)
  nothing_by bytes q (Some Form.str) f h = absurd (cc)
  nothing_by bytes q (Some (Form.vec V)) f h = absurd (cc)
  nothing_by bytes q (Some (Form.list V)) f h = absurd (cc)
  nothing_by bytes q (Some (Form.flat_map V)) f h = absurd (cc)
  nothing_by bytes q (Some (Form.map V)) f h = absurd (cc)
  nothing_by bytes q (Some (Form.own V)) f h = absurd (cc)
  nothing_by bytes q (Some (Form.shared V)) f h = absurd (cc)

  -- values of a type without pointers point to nothing
  pub no_rest : (bytes : List ℕ) (p before used : ℕ) → has_cells (form_at table U) ≡ false → DefaultsRest bytes bytes table p before U used
  no_rest bytes p before used h = record {
    changes = ChangesOnly-none bytes (p + used * (before + size table U)) (payload_size bytes (block_of p) - used * (before + size table U));
    nothing = every (map (λ q. q + before) (spaced (p + used * (before + size table U)) (before + size table U) (payload_size bytes (block_of p) / (before + size table U) - used)));
  }
    where
      every : (qs : List ℕ) → AllByRecursion (λ q. EachCell table U (λ d form. NamesNothing bytes (q + d) form)) qs
      every [] = tt
      every (q ∷ qs) = (nothing_by bytes q (form_at table U) refl h, every qs)

  module _ (allocator : ℕ) (old : List ℕ) (p before used : ℕ) (heap : IsHeap allocator old) (low : 16 ≤ p) (here : 1 ≤ times (block_of p) (positions (live old))) (fits : used * (before + size table U) ≤ payload_size old (block_of p)) where
    lies : LiesIn old heap_start (length old) (block_of p)
    lies = there (LiesIn old heap_start (length old)) (block_of p) (positions (live old)) (live-lie old allocator heap) here

    pub sized : IsSized old (record { at = block_of p; units = units_at old (block_of p) })
    sized = let l = lies in record { aligned = l.aligned; large = l.size; inside = l.high; size_is = refl }

    -- the entries after the used ones fit in the buffer
    pub rest_fits : (payload_size old (block_of p) / (before + size table U) - used) * (before + size table U) + used * (before + size table U) ≤ payload_size old (block_of p)
    rest_fits =
        let large = size_large table valid U in
        let all = div-mul-le_self (payload_size old (block_of p)) (before + size table U) in
        let some = le-div used (payload_size old (block_of p)) (before + size table U) (omega arith) fits in
        let back : payload_size old (block_of p) / (before + size table U) - used + used ≡ payload_size old (block_of p) / (before + size table U) = omega arith in
        let sum : (payload_size old (block_of p) / (before + size table U) - used) * (before + size table U) + used * (before + size table U) ≡ (payload_size old (block_of p) / (before + size table U) - used + used) *
        (before + size table U) = grind arith in
        rw (sum, back) all

    pub rest_within : IsWithin old (p + used * (before + size table U)) ((payload_size old (block_of p) / (before + size table U) - used) * (before + size table U))
    rest_within = let l = lies in let r = rest_fits in let end = l.high in record { fits = omega arith; small = heap.small }

    pub rest_from : (p + used * (before + size table U)) % 2 ^ 32 ≡ p + used * (before + size table U)
    rest_from = let w = rest_within in omega (arith, w.fits, w.small)

    pub rests : (new : List ℕ) (n : ℕ) → n ≡ payload_size old (block_of p) / (before + size table U) - used →
        ChangesEach IsDefaulted old new table U (p + used * (before + size table U)) (n * (before + size table U)) (map (λ q. q + before) (spaced (p + used * (before + size table U)) (before + size table U) n)) →
        DefaultsRest old new table p before U used
    rests new n n_is k =
        let r = rest_fits in
        let same : n * (before + size table U) ≡ (payload_size old (block_of p) / (before + size table U) - used) * (before + size table U) = ap (λ m. m * (before + size table U)) n_is in
        let cells = each_weaker (λ q. EachCell table U (λ d form. IsDefaulted old new (q + d) form)) (λ q. EachCell table U (λ d form. NamesNothing new (q + d) form))
        (λ q a. each_cell_weaker table valid (λ d form. IsDefaulted old new (q + d) form) (λ d form. NamesNothing new (q + d) form) U (λ d form room even h. defaulted_nothing old new (q + d) form h) a)
        (map (λ q. q + before) (spaced (p + used * (before + size table U)) (before + size table U) n)) k.cells in
        record {
          changes = ChangesOnly-wider old new (p + used * (before + size table U)) (n * (before + size table U)) (p + used * (before + size table U)) (payload_size old (block_of p) - used * (before + size table U))
              (omega arith) (omega arith) k.changes;
          nothing = rw n_is at cells;
        }

  -- the default value of one entry more was written
  pub next_default : (old now new : List ℕ) (here : Table) (before from n i at T s b : ℕ) → here ≡ table → i < n → IsWithin old from (n * (before + size table U)) →
      ChangesEach IsDefaulted old now table U from (i * (before + size table U)) (map (λ q. q + before) (spaced from (before + size table U) i)) →
      at ≡ (from + i * s + b) % 2 ^ 32 → T ≡ U → s ≡ before + size table U → b ≡ before → (IsWithin now at (size here T) → ChangesCells IsDefaulted now new here at T) →
      ChangesEach IsDefaulted old new table U from ((i + 1) * (before + size table U)) (map (λ q. q + before) (spaced from (before + size table U) (i + 1)))
  next_default old now new here before from n i at T s b here_is less within k at_is type_is size_is before_is step =
      let le : before + size table U ≤ before + size table U = omega arith in
      let position = entry_position IsDefaulted defaulted_local table valid U before (before + size table U) le old from n i less within in
      let room = entry_within IsDefaulted defaulted_local table valid U before (before + size table U) le old now from n i (i * (before + size table U)) (map (λ q. q + before) (spaced from (before + size table U) i)) less within k in
      let there_is : at ≡ (from + i * (before + size table U) + before) % 2 ^ 32 = at_is ∙ ap (λ m. (from + i * m + b) % 2 ^ 32) size_is ∙ ap (λ m. (from + i * (before + size table U) + m) % 2 ^ 32) before_is in
      let step' : IsWithin now at (size table U) → ChangesCells IsDefaulted now new table at U = subst (λ V. IsWithin now at (size table V) →
      ChangesCells IsDefaulted now new table at V) type_is (subst (λ t. IsWithin now at (size t T) → ChangesCells IsDefaulted now new t at T) here_is step) in
      let changed = step' (rw there_is room) in
      let changed' = rw (there_is ∙ position) at changed in
      next_entry IsDefaulted defaulted_local table valid U before (before + size table U) le old now new from i k changed'
