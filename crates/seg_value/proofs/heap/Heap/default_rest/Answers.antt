use Rattle.std.proofs.Common.{◌≡◌, ◌+◌, ◌-◌, ◌*◌, ◌/◌, ◌%◌, ◌^◌, Some, refl, sym, ap, ◌∙◌, arith}
use Rattle.seg_spec.specs.Types.{size}
use Rattle.seg_spec.specs.Heap.{units_at}
use Rattle.seg_spec.specs.Block.{block_of, payload_size}
use Rattle.seg_spec.specs.Cells.{IsWithin, IsDefaulted}
use Rattle.seg_spec.specs.Window.{with_bytes}
use Rattle.seg_spec.proofs.Values.CellChangeLaws.{defaulted_local, no_entries}
use Rattle.seg_cells.specs.declared.place.Place.{Place}
use Rattle.seg_value.specs.Stored.{Stored}
use Rattle.seg_value.proofs.UnusedEntryLaws.{no_rest, sized, rest_within, rest_from, rests, next_default}
use Rattle.seg_value.proofs.heap.Heap.default_rest.Goals as goal
use Rattle.seg_value.proofs.heap.Heap.default_rest.Goals.{in-Some, in_default}

same_place : (p q : Place) → Some p ≡ Some q → p ≡ q
same_place p q e = cc

bytes_in : (s t : Stored) → s ≡ t → s.window.bytes ≡ t.window.bytes
bytes_in s t e = ap (λ (r : Stored). r.window.bytes) e

pub loop-index-init : goal.loop-index-init
loop-index-init g c = record {
  window = refl;
  types = refl;
  bytes = λ h. refl;
  rest = λ before U valid is within.
      no_entries IsDefaulted defaulted_local c.args.self.now.types valid U before (before + size c.args.self.now.types U) (omega arith) c.args.self.now.window.bytes c.at-from.result;
}

pub loop-index-preserved : goal.loop-index-preserved
loop-index-preserved g c = elim c.match-value.branch [
  | in-Some w ↦ record {
    window = ap (λ (s : Stored). s.window) w.self-is ∙ w.init_default.ensures.window ∙ ap (λ p. with_bytes p w.init_default.new.self.window.bytes) c.loop-index.invariant.window
        ∙ ap (λ b. with_bytes c.args.self.now.window b) (sym (bytes_in c.match-value.self w.init_default.new.self w.self-is));
    types = ap (λ (s : Stored). s.types) w.self-is ∙ w.init_default.ensures.types ∙ c.loop-index.invariant.types;
    bytes = λ h. let e = c.owns_more.ensures.bytes h in let f = c.if-not-owns_more.false in absurd (cc);
    rest = λ before U valid is within.
        let from = c.at-from.result in
        let entry = c.args.entry in
        let found : Place = record { at = (from + c.loop-index.index * entry.size + entry.before) % 2 ^ 32; type_id = U } in
        let value_is = same_place w.in-Some.value found (sym w.in-Some.is ∙ c.value.ensures.value U is.held_is) in
        let r = next_default c.args.self.now.types valid U c.args.self.now.window.bytes c.loop-index.self.window.bytes w.init_default.new.self.window.bytes c.loop-index.self.types before from c.saturating_sub-rest.result
        c.loop-index.index w.in-Some.value.at w.in-Some.value.type_id entry.size entry.before c.loop-index.invariant.types c.loop-index-test.true within (c.loop-index.invariant.rest before U valid is within)
        (ap (λ (p : Place). p.at) value_is) (ap (λ (p : Place). p.type_id) value_is) is.size_is is.before_is w.init_default.ensures.cells in
        rw (bytes_in c.match-value.self w.init_default.new.self w.self-is) r;
  }
  | in_default w ↦ record {
    window = ap (λ (s : Stored). s.window) w.self-is ∙ c.loop-index.invariant.window ∙ ap (λ b. with_bytes c.args.self.now.window b) (sym (bytes_in c.match-value.self c.loop-index.self w.self-is));
    types = ap (λ (s : Stored). s.types) w.self-is ∙ c.loop-index.invariant.types;
    bytes = λ h. let e = c.owns_more.ensures.bytes h in let f = c.if-not-owns_more.false in absurd (cc);
    rest = λ before U valid is within.
        let e = c.value.ensures.value U is.held_is in
        let f = w.in_default.is in
        absurd (cc);
  }
]

pub returns-then-not-owns_more-clause-rest : goal.returns-then-not-owns_more-clause-rest
returns-then-not-owns_more-clause-rest g c = λ allocator before U valid is heap low here fits.
    no_rest c.args.self.now.types valid U c.args.self.now.window.bytes c.args.start before c.args.used (sym (c.owns_more.ensures.value U is.held_is) ∙ c.if-not-owns_more.true)

pub returns-clause-rest : goal.returns-clause-rest
returns-clause-rest g c = λ allocator before U valid is heap low here fits.
    let table = c.args.self.now.types in
    let old = c.args.self.now.window.bytes in
    let p = c.args.start in
    let size_is = is.size_is in
    let room : c.capacity.result ≡ payload_size old (block_of p) / (before + size table U) =
    c.capacity.ensures.block (record { at = block_of p; units = units_at old (block_of p) }) (omega arith) (sized table valid U allocator old p before c.args.used heap low here fits)
    ∙ ap (λ m. payload_size old (block_of p) / m) size_is in
    let n_is : c.saturating_sub-rest.result ≡ payload_size old (block_of p) / (before + size table U) - c.args.used = c.saturating_sub-rest.ensures ∙ ap (λ m. m - c.args.used) room in
    let from_is : c.at-from.result ≡ p + c.args.used * (before + size table U) = c.at-from.ensures ∙ ap (λ m. (p + c.args.used * m) % 2 ^ 32) size_is ∙ rest_from table valid U allocator old p before c.args.used heap low here fits in
    let within : IsWithin old c.at-from.result (c.saturating_sub-rest.result * (before + size table U)) = rw (from_is, n_is) (rest_within table valid U allocator old p before c.args.used heap low here fits) in
    let last : c.loop-index.index ≡ c.saturating_sub-rest.result = omega (arith, c.loop-index-test.false, c.loop-index.auto.index-end) in
    let k = rw (last, from_is) at (c.loop-index.invariant.rest before U valid is within) in
    rests table valid U allocator old p before c.args.used heap low here fits c.loop-index.self.window.bytes c.saturating_sub-rest.result n_is k
