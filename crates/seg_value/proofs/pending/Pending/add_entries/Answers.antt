use Rattle.std.proofs.Common.{◌≡◌, ◌+◌, ◌*◌, ◌%◌, ◌^◌, [], ◌∷◌, Some, map, refl, sym, ap, ◌∙◌}
use Rattle.seg_spec.specs.Types.{size}
use Rattle.seg_spec.specs.Reads.{spaced}
use Rattle.seg_spec.specs.Owing.{entries_at}
use Rattle.seg_spec.specs.Window.{with_bytes}
use Rattle.seg_spec.proofs.Deallocation.PartDestructionLaws.{entries_inside, none_joined}
use Rattle.seg_cells.specs.declared.place.Place.{Place}
use Rattle.seg_value.specs.Stored.{Stored}
use Rattle.seg_value.proofs.Nulls.{no_cells_parts}
use Rattle.seg_value.proofs.WaitingBlockLaws.{nothing_added, from_first, next_entry_joined, all_entries_joined}
use Rattle.seg_value.proofs.pending.Pending.add_entries.Goals as goal
use Rattle.seg_value.proofs.pending.Pending.add_entries.Goals.{in-Some, in_default}

same_place : (p q : Place) → Some p ≡ Some q → p ≡ q
same_place p q e = cc

bytes_in : (s t : Stored) → s ≡ t → s.window.bytes ≡ t.window.bytes
bytes_in s t e = ap (λ (r : Stored). r.window.bytes) e

pub loop-index-init : goal.loop-index-init
loop-index-init g c = record {
  window = refl;
  types = refl;
  bytes = λ h. (refl, refl);
  added = λ home before U xs ns is inside parts allocator ys names kept theirs final valid w fits.
      let heap = c.args.heap.now in
      rw (from_first heap.types c.args.start before U c.args.n)
      (none_joined allocator heap.window.bytes heap.types valid home xs ys names kept theirs final fits c.args.self.now.first (entries_at heap.types c.args.start before U c.args.n) ns w
      (entries_inside heap.window.bytes heap.types home c.args.start before U c.args.n inside) parts);
}

pub loop-index-preserved : goal.loop-index-preserved
loop-index-preserved g c = elim c.match-value.branch [
  | in-Some w ↦ record {
    window = ap (λ (s : Stored). s.window) w.heap-is ∙ w.add_value.ensures.window ∙ ap (λ p. with_bytes p w.add_value.new.heap.window.bytes) c.loop-index.invariant.window
        ∙ ap (λ b. with_bytes c.args.heap.now.window b) (sym (bytes_in c.match-value.heap w.add_value.new.heap w.heap-is));
    types = ap (λ (s : Stored). s.types) w.heap-is ∙ w.add_value.ensures.types ∙ c.loop-index.invariant.types;
    bytes = λ h. let e = c.owns_more.ensures.bytes h in let f = c.if-not-owns_more.false in absurd (cc);
    added = λ home before U xs ns is inside parts allocator ys names kept theirs final valid p fits.
        let heap = c.args.heap.now in
        let entry = c.args.entry in
        let found : Place = record { at = (c.args.start + c.loop-index.index * entry.size + entry.before) % 2 ^ 32; type_id = U } in
        let value_is = same_place w.in-Some.value found (sym w.in-Some.is ∙ c.value.ensures.value U is.held_is) in
        let j = c.loop-index.invariant.added home before U xs ns is inside parts allocator ys names kept theirs final valid p fits in
        let r = next_entry_joined allocator heap.window.bytes c.loop-index.heap.window.bytes heap.types valid home c.args.start before U c.loop-index.index c.args.n xs ys names kept theirs final fits c.loop-index.self.first j
        w.add_value.new.heap.window.bytes c.loop-index.heap.types w.add_value.new.self.first w.in-Some.value.at w.in-Some.value.type_id entry.size entry.before c.loop-index-test.true c.loop-index.invariant.types
        (ap (λ (p : Place). p.at) value_is) (ap (λ (p : Place). p.type_id) value_is) is.size_is is.before_is w.add_value.ensures.added in
        rw (bytes_in c.match-value.heap w.add_value.new.heap w.heap-is, w.self-is) r;
  }
  | in_default w ↦ record {
    window = ap (λ (s : Stored). s.window) w.heap-is ∙ c.loop-index.invariant.window ∙ ap (λ b. with_bytes c.args.heap.now.window b) (sym (bytes_in c.match-value.heap c.loop-index.heap w.heap-is));
    types = ap (λ (s : Stored). s.types) w.heap-is ∙ c.loop-index.invariant.types;
    bytes = λ h. let e = c.owns_more.ensures.bytes h in let f = c.if-not-owns_more.false in absurd (cc);
    added = λ home before U xs ns is inside parts allocator ys names kept theirs final valid p fits.
        let e = c.value.ensures.value U is.held_is in
        let f = w.in_default.is in
        absurd (cc);
  }
]

pub returns-then-not-owns_more-clause-added : goal.returns-then-not-owns_more-clause-added
returns-then-not-owns_more-clause-added g c = λ home before U xs ns is inside parts.
    let heap = c.args.heap.now in
    nothing_added heap.window.bytes heap.types c.args.self.now.first (home ∷ []) xs ns
    (no_cells_parts heap.window.bytes heap.types U (map (λ q. q + before) (spaced c.args.start (before + size heap.types U) c.args.n)) xs ns (sym (c.owns_more.ensures.value U is.held_is) ∙ c.if-not-owns_more.true) parts)

pub returns-clause-added : goal.returns-clause-added
returns-clause-added g c = λ home before U xs ns is inside parts allocator ys names kept theirs final valid w fits.
    let heap = c.args.heap.now in
    let j = c.loop-index.invariant.added home before U xs ns is inside parts allocator ys names kept theirs final valid w fits in
    let past = c.loop-index-test.false in
    all_entries_joined allocator heap.window.bytes c.loop-index.heap.window.bytes heap.types valid home c.args.start before U c.loop-index.index c.args.n xs ys names kept theirs final fits c.loop-index.self.first j past
