use Rattle.std.proofs.Common.{rules, ◌≡◌, ℕ, ℤ, ◌∙◌, ap, subst, w64, to_z, of_z}
use Rattle.seg_spec.specs.Reads.{Place}
use Rattle.seg_cells.specs.Places.{place_of}
use Rattle.seg_value.specs.Stored.{Stored}
use Rattle.client_program.specs.Paths.{number_at}
use Rattle.client_vm.proofs.ItemLaws.{TellsRemoval, place_at, delete_key_acts_on}
use Rattle.client_vm.proofs.machine.Machine.delete_key.Goals as goal

pub returns-clause-does : goal.returns-clause-does
returns-clause-does g c =
    let i = c.args.i.now in
    let old = c.args.self.now in
    let removed = c.remove-is_removed in
    let after = removed.new.heap in
    let allocator = g.F.Fit.allocator in
    let number : to_z w64 (of_z w64 c.number.result) ≡ number_at old.numbers i.c = search (rules, c.number.ensures, c.number.type_inv) in
    let told : TellsRemoval allocator c.heap_mut.result.now after (place_of c.place.result) (to_z w64 (of_z w64 c.number.result)) removed.result = removed.ensures.removes in
    let here = ap (λ (at : ℕ). record { at = at; type = c.place.result.type_id }) c.place.ensures.at ∙ ap (λ (type : ℕ). record { at = (place_at old i.b).at; type = type }) c.place.ensures.type_id in
    let same = c.heap_mut.ensures.value in
    delete_key_acts_on allocator i old c.give_flag.new.self c.args.segment.now after (removed.ensures.types ∙ ap (λ (h : Stored). h.types) same) removed.result
    (subst (λ (h : Stored). TellsRemoval allocator h after (place_at old i.b) (number_at old.numbers i.c) removed.result) same
    (subst (λ (p : Place). TellsRemoval allocator c.heap_mut.result.now after p (number_at old.numbers i.c) removed.result) here
    (subst (λ (k : ℤ). TellsRemoval allocator c.heap_mut.result.now after (place_of c.place.result) k removed.result) number told)))
    c.give_flag.ensures.rest
