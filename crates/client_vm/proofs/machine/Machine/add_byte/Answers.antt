use Rattle.std.proofs.Common.{rules, ◌≡◌, ◌∙◌, ap, sym, subst, w64, to_z, of_z}
use Rattle.seg_value.specs.Stored.{Stored}
use Rattle.client_program.specs.Paths.{number_at}
use Rattle.client_vm.specs.Worlds.{OpensOn}
use Rattle.client_vm.proofs.TextLaws.{GetsLength, gets_length, gets_code, add_byte_opens, add_byte_stays}
use Rattle.client_vm.proofs.machine.Machine.add_byte.Goals.{in-Ok, in-Err, in-Ok-added, in-Err-added}
use Rattle.client_vm.proofs.machine.Machine.add_byte.Goals as goal

pub returns-clause-does : goal.returns-clause-does
returns-clause-does g c is =
    let i = c.args.i.now in
    let old = c.args.self.now in
    let new = c.try_give.new.self in
    let before = c.args.segment.now in
    let jump = c.try_give.result in
    let given : GetsLength i old new c.match-try_from.added jump = elim c.match-added.branch [
      | in-Ok-added w ↦ gets_length i old new c.match-try_from.added w.in-Ok-added.len w.in-Ok-added.is c.match-added.len _ w.len-is (search (rules, w.from.ensures, w.from.type_inv)) jump c.try_give.ensures.gives
      | in-Err-added w ↦ gets_code i old new c.match-try_from.added w.in-Err-added.code w.in-Err-added.is c.match-added.len w.len-is jump c.try_give.ensures.gives
    ] in
    let number : to_z w64 (of_z w64 c.number.result) ≡ number_at old.numbers i.c = search (rules, c.number.ensures, c.number.type_inv) in
    elim c.match-try_from.branch [
      | in-Ok w ↦
          let after = w.push_byte-added.new.heap in
          let kept = w.push_byte-added.ensures.types ∙ ap (λ (s : Stored). s.types) w.heap_mut.ensures.value in
          let added : GetsLength i old new w.push_byte-added.result jump = subst (λ r. GetsLength i old new r jump) w.added-is given in
          subst (λ (s : Stored). OpensOn g.F.Fit.allocator i jump old new before s) (sym w.segment-is)
          (add_byte_opens g.F.Fit.allocator i old new before after kept c.try_from.result (to_z w64 (of_z w64 c.number.result)) number c.try_from.ensures jump is
          w.in-Ok.byte w.in-Ok.is w.heap_mut.result.now w.heap_mut.ensures.value w.place.result w.place.ensures.at w.place.ensures.type_id w.push_byte-added.result
          w.push_byte-added.ensures.text w.push_byte-added.ensures.length added)
      | in-Err w ↦ add_byte_stays g.F.Fit.allocator i old new before c.match-try_from.segment (ap (λ (s : Stored). s.types) w.segment-is) c.try_from.result (to_z w64 (of_z w64 c.number.result)) number c.try_from.ensures jump is
          _ w.in-Err.is w.segment-is c.match-try_from.added w.added-is given
    ]
