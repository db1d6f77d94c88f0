use Rattle.std.proofs.Common.{rules, ◌≡◌, ℕ, ℤ, ◌∙◌, ap, subst, w64, to_z, of_z}
use Rattle.seg_spec.specs.Types.{form_at}
use Rattle.seg_spec.specs.Reads.{Place}
use Rattle.seg_cells.specs.Places.{place_of}
use Rattle.seg_value.specs.Stored.{Stored}
use Rattle.client_program.specs.Paths.{number_at}
use Rattle.client_vm.specs.Worlds.{held_in}
use Rattle.client_vm.proofs.ItemLaws.{TellsPut, place_at, put_key_opens}
use Rattle.client_vm.proofs.machine.Machine.put_key.Goals as goal

pub returns-clause-does : goal.returns-clause-does
returns-clause-does g c =
    let i = c.args.i.now in
    let old = c.args.self.now in
    let put = c.put-at in
    let after = put.new.heap in
    let allocator = g.F.Fit.allocator in
    let number : to_z w64 (of_z w64 c.number.result) ≡ number_at old.numbers i.c = search (rules, c.number.ensures, c.number.type_inv) in
    let told : TellsPut allocator c.heap_mut.result.now after (place_of c.place-map.result) (to_z w64 (of_z w64 c.number.result)) put.result = record { code = put.ensures.code; puts = put.ensures.puts } in
    let here = ap (λ (at : ℕ). record { at = at; type = c.place-map.result.type_id }) c.place-map.ensures.at ∙ ap (λ (type : ℕ). record { at = (place_at old i.b).at; type = type }) c.place-map.ensures.type_id in
    let same = c.heap_mut.ensures.value in
    put_key_opens allocator i c.try_refer.result old c.try_refer.new.self c.args.segment.now after (put.ensures.types ∙ ap (λ (h : Stored). h.types) same) c.held_type.result
    (λ U e. c.held_type.ensures U (ap (λ (type : ℕ). held_in (form_at after.types type)) c.place-map.ensures.type_id ∙ e)) put.result
    (subst (λ (h : Stored). TellsPut allocator h after (place_at old i.b) (number_at old.numbers i.c) put.result) same
    (subst (λ (p : Place). TellsPut allocator c.heap_mut.result.now after p (number_at old.numbers i.c) put.result) here
    (subst (λ (k : ℤ). TellsPut allocator c.heap_mut.result.now after (place_of c.place-map.result) k put.result) number told)))
    c.try_refer.ensures.refers
