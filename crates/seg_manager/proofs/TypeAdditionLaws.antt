-- The type table of a segment is replaced by a longer one.
use Rattle.std.proofs.Common.{◌≡◌, ℕ, ◌+◌, ◌-◌, ◌<◌, ◌≤◌, ◌⊎◌, inl, inr, ⊎_elim, true, false, leb, cond, List, [], ◌++◌, length, take, drop, refl, sym, ap, ◌∙◌, subst, arith, append-nil}
use Rattle.std.proofs.lemmas.Bool.{cases_lt}
use Rattle.std.proofs.lemmas.Bool.Decides.{nat_tests}
use Rattle.std.proofs.lemmas.List.{take-append-drop, take_all}
use Rattle.seg_spec.specs.Bytes.{word, IsSame, ChangesOnly}
use Rattle.seg_spec.specs.Header.{version_word, allocator_word, next_word, types_start, types_size, uniques_start, heap_start}
use Rattle.seg_spec.specs.Types.{AreOfVersion, Table, IsTable, HasTable, Agree, longer}
use Rattle.seg_spec.specs.Sound.{Picture, IsHeld}
use Rattle.seg_spec.proofs.Values.PlaceFrameLaws.{word-same}
use Rattle.seg_spec.proofs.Heap.HeapFrameLaws.{live-kept}
use Rattle.seg_spec.specs.Window.{Placement}
use Rattle.seg_value.specs.Stored.{Stored}
use Rattle.seg_manager.specs.Segments.{IsSegment, AddsTypes}
use Rattle.seg_spec.proofs.Images.TypeAdditionLaws.{types_added, heap_same}
use Rattle.seg_spec.proofs.Frozen.KeptCountLaws.{counted_still}

-- the longer table begins with the old one
record GoesOn (old new : Table) : Type 0 where
  rest : Table
  is : longer old new ≡ old ++ rest

goes_on : (old new : Table) → Agree old new → GoesOn old new
goes_on old new agree = go (cases_lt (length old) (length new))
  where
    go : (length old < length new) ⊎ (length new ≤ length old) → GoesOn old new
    go (inr le) =
        let on : leb (length new) (length old) ≡ true = grind (arith, nat_tests) in
        record { rest = []; is = ap (λ b. cond b old new) on ∙ sym (append-nil old) }
    go (inl l) =
        let off : leb (length new) (length old) ≡ false = grind (arith, nat_tests) in
        let front : old ≡ take (length old) new = sym (take_all (length new) old (omega arith)) ∙ agree in
        record { rest = drop (length old) new; is = ap (λ b. cond b old new) off ∙ sym (take-append-drop (length old) new) ∙ ap (λ xs. xs ++ drop (length old) new) (sym front) }

longer_valid : (old new : Table) → IsTable old → IsTable new → IsTable (longer old new)
longer_valid old new a b = go (leb (length new) (length old))
  where
    go : (t : Rattle.std.proofs.Common.Bool) → IsTable (cond t old new)
    go true = a
    go false = b

longer_of : (version : ℕ) (old new : Table) → AreOfVersion version old → AreOfVersion version new → AreOfVersion version (longer old new)
longer_of version old new a b = go (leb (length new) (length old))
  where
    go : (t : Rattle.std.proofs.Common.Bool) → AreOfVersion version (cond t old new)
    go true = a
    go false = b

pub adds_types : (allocator : ℕ) (old new : Stored) (picture : Picture) (more : Table) → IsSegment allocator old picture → Agree old.types more → IsTable old.types → IsTable more
    → AreOfVersion (word old.window.bytes version_word) more → new.types ≡ longer old.types more → ChangesOnly old.window.bytes new.window.bytes types_start types_size
    → HasTable new.window.bytes types_start (longer old.types more) → AddsTypes allocator old new picture more
adds_types allocator old new picture more is agree valid valid_more of_version types_are changes has =
    let a = old.window.bytes in
    let b = new.window.bytes in
    let g = goes_on old.types more agree in
    let l = is.held.laid_out in
    let long = l.header.not_small in
    let version = word a version_word in
    let low : IsSame a b 0 types_start = changes.others 0 types_start (inl (omega arith)) in
    let high : IsSame a b uniques_start (length a - uniques_start) = changes.others uniques_start (length a - uniques_start) (inr (omega arith)) in
    let root : IsSame a b 24 4 = changes.others 24 4 (inl (omega arith)) in
    let in_heap : IsSame a b heap_start (length a - heap_start) = changes.others heap_start (length a - heap_start) (inr (omega arith)) in
    let same : longer old.types more ≡ picture.table ++ g.rest = g.is ∙ ap (λ t. t ++ g.rest) is.table_is in
    let held = types_added a b picture g.rest is.held changes.length_kept low high (subst (HasTable b types_start) same has) (subst IsTable same (longer_valid old.types more valid valid_more))
    (subst (AreOfVersion version) same (longer_of version old.types more (subst (AreOfVersion version) (sym is.table_is) l.of_version) of_version)) in
    let next_kept = word-same a b next_word (changes.others next_word 4 (inl (omega arith))) in
    let c = counted_still a b picture next_kept is.counted in
    record {
      segment = record {
        held = subst (λ t. IsHeld b (record picture { table = t })) (sym same) held;
        counted = record { counted = c.counted; falling = c.falling };
        table_is = types_are;
        allocator_is = word-same a b allocator_word (changes.others allocator_word 4 (inl (omega arith))) ∙ is.allocator_is;
      };
      changes = changes;
      live_is = live-kept a b (word a allocator_word) l.heap (heap_same a b (word a allocator_word) l.heap changes.length_kept root in_heap);
    }

-- of two tables, the one with more types is the longer
pub then_longer : (old new : Table) → length old < length new → longer old new ≡ new
then_longer old new lt =
    let off : leb (length new) (length old) ≡ false = grind (arith, nat_tests) in
    ap (λ b. cond b old new) off

-- the same, from how the steps of the call change the bytes
pub adds_by : (allocator : ℕ) (old new : Stored) (picture : Picture) (more mine then_types : Table) (from to : Placement) → IsSegment allocator old picture → from ≡ old.window → new.window ≡ to → new.types ≡ then_types → mine ≡ old.types
    → then_types ≡ longer mine more → Agree mine more → IsTable mine → IsTable more → AreOfVersion (word old.window.bytes version_word) more → (IsTable then_types → ChangesOnly from.bytes to.bytes types_start types_size)
    → (IsTable then_types → types_start + types_size ≤ length from.bytes → HasTable to.bytes types_start then_types) → AddsTypes allocator old new picture more
adds_by allocator old new picture more mine then_types from to is from_is to_is types_are mine_is then_is agree valid valid_more of_version changes table =
    let bytes_from : from.bytes ≡ old.window.bytes = ap (λ (p : Placement). p.bytes) from_is in
    let bytes_to : to.bytes ≡ new.window.bytes = ap (λ (p : Placement). p.bytes) (sym to_is) in
    let valid_then : IsTable then_types = subst IsTable (sym then_is) (longer_valid mine more valid valid_more) in
    let whole : then_types ≡ longer old.types more = then_is ∙ ap (λ t. longer t more) mine_is in
    let long : types_start + types_size ≤ length from.bytes = rw bytes_from (let n = is.held.laid_out.header.not_small in omega arith) in
    let changed = changes valid_then in
    let has = table valid_then long in
    adds_types allocator old new picture more is (rw mine_is at agree) (rw mine_is at valid) valid_more of_version (types_are ∙ whole) (rw (bytes_from, bytes_to) at changed) (rw (bytes_to, whole) at has)
