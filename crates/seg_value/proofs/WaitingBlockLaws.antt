-- Blocks are added to the list of waiting ones.
use Rattle.std.proofs.Common.{◌≡◌, ℕ, ◌+◌, ◌-◌, ◌*◌, ◌%◌, ◌^◌, ◌<◌, ◌≤◌, List, [], ◌∷◌, ◌++◌, length, drop, Option, Some, None, refl, sym, ap, ◌∙◌, subst, arith}
use Rattle.std.specs.Prelude.{slice_get}
use Rattle.seg_spec.specs.Types.{Form, Table, form_at, IsTable, size, fields_of, fields_by, fields_from}
use Rattle.seg_spec.specs.Heap.{IsHeap, live, heap_start}
use Rattle.seg_spec.specs.Block.{IsInside, KeepsBlock}
use Rattle.seg_spec.specs.Reads.{Place, fields}
use Rattle.seg_spec.specs.Sound.{times, positions}
use Rattle.seg_spec.specs.Owing.{IsPart, entries_at}
use Rattle.seg_spec.specs.Frozen.{Frozen, blocks_by}
use Rattle.seg_spec.specs.Destroying.{AreLive, GoesWith, Adds, Uncouples}
use Rattle.seg_spec.proofs.Tables.TypeSizeLaws.{size_large}
use Rattle.seg_spec.proofs.Values.CellChangeLaws.{length_fields}
use Rattle.seg_spec.proofs.Heap.LiveBlockLaws.{times-append, times-same, there, LiesIn, live-lie}
use Rattle.seg_spec.proofs.Deallocation.DestructionLaws.{others_twice, awaits_then, same_adds, final_kept, no_common}
use Rattle.seg_spec.proofs.Frozen.FrozenBlockLaws.{frozen_twice}
use Rattle.seg_spec.proofs.Deallocation.PartDestructionLaws.{Joined, joined_more, all_joined, field_next, field_past, fields_end, entry_next}
use Rattle.seg_value.specs.Waiting.{AddsIn}
use Rattle.seg_value.proofs.Nulls.{Nothing}

-- a block is uncoupled, and added in front of the waiting ones
pub uncoupled_adds : (old mid new : List ℕ) (table mid_table : Table) (first next : Option ℕ) (p : ℕ) (xs ns : List ℕ) → mid_table ≡ table →
    ((allocator : ℕ) → IsTable table → IsHeap allocator old → AreLive old xs → Uncouples allocator old mid table p xs ns) →
    ((zs ms : List ℕ) → GoesWith mid mid_table p zs ms → AddsIn mid new mid_table first next [] zs ms) → AddsIn old new table first next [] xs ns
uncoupled_adds old mid new table mid_table first next p xs ns same uncouples push allocator ys names kept theirs final valid w fits =
    let push' : GoesWith mid table p xs ns → AddsIn mid new table first next [] xs ns = subst (λ t. GoesWith mid t p xs ns → AddsIn mid new t first next [] xs ns) same (push xs ns) in
    let u = uncouples allocator valid w.beside.pends.heap (λ h. let f = fits h in let n = times-append h xs ys in omega arith) in
    let live_same = λ (h : ℕ). let e : times h (positions (live mid)) ≡ times h (positions (live old)) = ap (λ bs. times h (positions bs)) u.keeps.live_kept in e in
    let waiting = awaits_then allocator old mid table valid xs ys fits u.heap u.keeps first (ns ++ names) kept theirs final w in
    let shared : (h : ℕ) → 1 ≤ times h (blocks_by theirs w.frozen) → KeepsBlock old mid h = λ h some.
    let n = no_common allocator old w.beside.pends.heap xs ys fits h (omega (arith, w.beside.blocks_are h, times-append h w.beside.owed (blocks_by theirs w.frozen))) in (u.keeps.others h n.0 n.1).whole.kept in
    let a = push' u.goes allocator ys names kept theirs final valid waiting (λ h. let f = fits h in let l = live_same h in omega arith) in
    record {
      keeps = others_twice old mid new xs (xs ++ ys) (xs ++ ys) (λ h none. (omega (arith, none, times-append h xs ys), none)) u.keeps a.keeps;
      shared_kept = frozen_twice old mid new theirs final
          (final_kept allocator old mid table first ys (ns ++ names) kept theirs final w (λ h. omega (arith, fits h, times-append h xs ys)) shared) a.shared_kept;
      awaits = a.awaits;
    }

-- a value that owns nothing and points to nothing adds no block
pub nothing_added : (old : List ℕ) (table : Table) (first : Option ℕ) (beside xs ns : List ℕ) → Nothing xs ns → AddsIn old old table first first beside xs ns
nothing_added old table first beside xs ns n allocator ys names kept theirs final valid w fits =
    same_adds allocator old table first xs ys ns names kept theirs final n.no_blocks n.no_names w (λ h. omega (arith, fits h, times-append h beside (xs ++ ys), times-append h xs ys))

-- ---- the fields of a struct

module _ (allocator : ℕ) (old now : List ℕ) (table : Table) (valid : IsTable table) (home at i T : ℕ) (xs ys names : List ℕ) (kept : List Place) (theirs : ℕ → List ℕ) (final : List Frozen) (Us : List ℕ)
    (f : form_at table T ≡ Some (Form.struct Us)) (owned : AreLive old (home ∷ (xs ++ ys))) (first : Option ℕ) (j : Joined allocator old now table first home (drop i (fields table at Us)) xs ys names kept theirs final) where
  fields_are : fields_of table T ≡ fields_from table 0 Us
  fields_are = ap (fields_by table) f

  zero_off : at + 0 ≡ at
  zero_off = omega arith

  pub next_field_joined : (new : List ℕ) (here : Table) (next : Option ℕ) (from U place_at V : ℕ) → slice_get (fields_of table T) i ≡ Some (record { from = from; type = U }) → here ≡ table → place_at ≡ (at + from) % 2 ^ 32 → V ≡ U →
      ((home : ℕ) (its ns : List ℕ) → IsInside now home place_at (size here V) → IsPart now here (record { at = place_at; type = V }) its ns → AddsIn now new here first next (home ∷ []) its ns) →
      Joined allocator old new table next home (drop (i + 1) (fields table at Us)) xs ys names kept theirs final
  next_field_joined new here next from U place_at V e same at_is type_is step =
      let e' : slice_get (fields_from table 0 Us) i ≡ Some (record { from = from; type = U }) = subst (λ cs. slice_get cs i ≡ Some (record { from = from; type = U })) fields_are e in
      let head = field_next table at 0 i Us from U e' in
      let head' : drop i (fields table at Us) ≡ record { at = at + from; type = U } ∷ drop (i + 1) (fields table at Us) = subst
      (λ a. drop i (fields table a Us) ≡ record { at = at + from; type = U } ∷ drop (i + 1) (fields table a Us)) zero_off head in
      let j' : Joined allocator old now table first home (record { at = at + from; type = U } ∷ drop (i + 1) (fields table at Us)) xs ys names kept theirs final =
      subst (λ ps. Joined allocator old now table first home ps xs ys names kept theirs final) head' j in
      let inside = j'.inside.0 in
      let own = owned home in
      let live_same : times home (positions (live now)) ≡ times home (positions (live old)) = ap (λ bs. times home (positions bs)) j'.adds.keeps.live_kept in
      let here_live : 1 ≤ times home (positions (live now)) = omega (arith, times-same home (xs ++ ys)) in
      let lies = there (LiesIn now heap_start (length now)) home (positions (live now)) (live-lie now allocator j'.adds.awaits.beside.pends.heap) here_live in
      let position : place_at ≡ at + from = let low = inside.low in let high = inside.high in let end = lies.high in let small = j'.adds.awaits.beside.pends.heap.small in let big = size_large table valid U in omega arith in
      let at_type : ℕ → ℕ → Type 0 = λ a W. (home : ℕ) (its ns : List ℕ) → IsInside now home a (size table W) → IsPart now table (record { at = a; type = W }) its ns → AddsIn now new table first next (home ∷ []) its ns in
      let step_1 : at_type place_at V =
      subst (λ t. (home : ℕ) (its ns : List ℕ) → IsInside now home place_at (size t V) → IsPart now t (record { at = place_at; type = V }) its ns → AddsIn now new t first next (home ∷ []) its ns) same step in
      let step_2 : at_type place_at U = subst (λ W. at_type place_at W) type_is step_1 in
      let step_3 : at_type (at + from) U = subst (λ a. at_type a U) position step_2 in
      joined_more allocator old table valid home xs ys names kept theirs final owned now new first next (record { at = at + from; type = U }) (drop (i + 1) (fields table at Us)) j'
      (λ its others ns more part lies_in w fits. step_3 home its ns lies_in part allocator others more kept theirs final valid w fits)

  pub past_fields_joined : slice_get (fields_of table T) i ≡ None → Joined allocator old now table first home (drop (i + 1) (fields table at Us)) xs ys names kept theirs final
  past_fields_joined e =
      let e' : slice_get (fields_from table 0 Us) i ≡ None = subst (λ cs. slice_get cs i ≡ None) fields_are e in
      let p = field_past table at 0 i Us e' in
      let one : drop i (fields table at Us) ≡ [] = subst (λ a. drop i (fields table a Us) ≡ []) zero_off p.0 in
      let two : drop (i + 1) (fields table at Us) ≡ [] = subst (λ a. drop (i + 1) (fields table a Us) ≡ []) zero_off p.1 in
      subst (λ ps. Joined allocator old now table first home ps xs ys names kept theirs final) (one ∙ sym two) j

  pub all_fields_joined : length (fields_of table T) ≤ i → Adds allocator old now table first xs ys names kept theirs final
  all_fields_joined long =
      let count : length (fields_of table T) ≡ length Us = ap length fields_are ∙ length_fields table 0 Us in
      all_joined allocator old table valid home xs ys names kept theirs final owned now first (drop i (fields table at Us)) (fields_end table at Us i (omega arith)) j

-- ---- entries

pub from_first : (table : Table) (start before U n : ℕ) → entries_at table (start + 0 * (before + size table U)) before U (n - 0) ≡ entries_at table start before U n
from_first table start before U n =
    let s : start + 0 * (before + size table U) ≡ start = omega arith in
    let m : n - 0 ≡ n = omega arith in
    rw (s, m) refl

module _ (allocator : ℕ) (old now : List ℕ) (table : Table) (valid : IsTable table) (home start before U i n : ℕ) (xs ys names : List ℕ) (kept : List Place) (theirs : ℕ → List ℕ) (final : List Frozen)
    (owned : AreLive old (home ∷ (xs ++ ys))) (first : Option ℕ) (j : Joined allocator old now table first home (entries_at table (start + i * (before + size table U)) before U (n - i)) xs ys names kept theirs final) where
  pub next_entry_joined : (new : List ℕ) (here : Table) (next : Option ℕ) (place_at V s b : ℕ) → i < n → here ≡ table → place_at ≡ (start + i * s + b) % 2 ^ 32 → V ≡ U → s ≡ before + size table U → b ≡ before →
      ((home : ℕ) (its ns : List ℕ) → IsInside now home place_at (size here V) → IsPart now here (record { at = place_at; type = V }) its ns → AddsIn now new here first next (home ∷ []) its ns) →
      Joined allocator old new table next home (entries_at table (start + (i + 1) * (before + size table U)) before U (n - (i + 1))) xs ys names kept theirs final
  next_entry_joined new here next place_at V s b less same at_is type_is size_is before_is step =
      let at = start + i * (before + size table U) + before in
      let rest = entries_at table (start + (i + 1) * (before + size table U)) before U (n - (i + 1)) in
      let j' : Joined allocator old now table first home (record { at = start + i * (before + size table U) + before; type = U } ∷ entries_at table (start + (i + 1) * (before + size table U)) before U (n - (i + 1)))
      xs ys names kept theirs final =
      subst (λ ps. Joined allocator old now table first home ps xs ys names kept theirs final) (entry_next table start before U i n less) j in
      let inside = j'.inside.0 in
      let own = owned home in
      let live_same : times home (positions (live now)) ≡ times home (positions (live old)) = ap (λ bs. times home (positions bs)) j'.adds.keeps.live_kept in
      let here_live : 1 ≤ times home (positions (live now)) = omega (arith, times-same home (xs ++ ys)) in
      let lies = there (LiesIn now heap_start (length now)) home (positions (live now)) (live-lie now allocator j'.adds.awaits.beside.pends.heap) here_live in
      let there_is : place_at ≡ (start + i * (before + size table U) + before) % 2 ^ 32 = at_is ∙ ap (λ m. (start + i * m + b) % 2 ^ 32) size_is ∙ ap (λ m. (start + i * (before + size table U) + m) % 2 ^ 32) before_is in
      let position : place_at ≡ start + i * (before + size table U) + before = let low = inside.low in let high = inside.high in let end = lies.high in let small = j'.adds.awaits.beside.pends.heap.small in
      let big = size_large table valid U in omega arith in
      let at_type : ℕ → ℕ → Type 0 = λ a W. (home : ℕ) (its ns : List ℕ) → IsInside now home a (size table W) → IsPart now table (record { at = a; type = W }) its ns → AddsIn now new table first next (home ∷ []) its ns in
      let step_1 : at_type place_at V =
      subst (λ t. (home : ℕ) (its ns : List ℕ) → IsInside now home place_at (size t V) → IsPart now t (record { at = place_at; type = V }) its ns → AddsIn now new t first next (home ∷ []) its ns) same step in
      let step_2 : at_type place_at U = subst (λ W. at_type place_at W) type_is step_1 in
      let step_3 : at_type (start + i * (before + size table U) + before) U = subst (λ a. at_type a U) position step_2 in
      joined_more allocator old table valid home xs ys names kept theirs final owned now new first next (record { at = start + i * (before + size table U) + before; type = U })
      (entries_at table (start + (i + 1) * (before + size table U)) before U
      (n - (i + 1))) j'
      (λ its others ns more part lies_in w fits. step_3 home its ns lies_in part allocator others more kept theirs final valid w fits)

  pub all_entries_joined : n ≤ i → Adds allocator old now table first xs ys names kept theirs final
  all_entries_joined long =
      let none : n - i ≡ 0 = omega arith in
      all_joined allocator old table valid home xs ys names kept theirs final owned now first (entries_at table (start + i * (before + size table U)) before U (n - i)) (rw none refl) j
