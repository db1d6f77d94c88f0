use Rattle.std.proofs.Common.{ℕ, Result, sym, ap, subst}
use Rattle.seg_raw.specs.declared.code.Code.{Code}
use Rattle.seg_value.specs.Stored.{Stored}
use Rattle.client_spec.specs.declared.table.Operation.{Operation}
use Rattle.client_vm.specs.Worlds.{RefersOr, OpensPart}
use Rattle.client_vm.proofs.ObjectLaws.{named_same}
use Rattle.client_vm.proofs.NamedObjectLaws.{make_opens, make_uncounted, any_name, any_named}
use Rattle.client_vm.proofs.machine.Machine.make.Goals.{in-Ok, in-Err}
use Rattle.client_vm.proofs.machine.Machine.make.Goals as goal

pub returns-clause-does : goal.returns-clause-does
returns-clause-does g c =
    let allocator = g.F.Fit.allocator in
    let i = c.args.i.now in
    let jump = c.try_refer.result in
    let old = c.args.self.now in
    let new = c.try_refer.new.self in
    let before = c.args.segment.now in
    let T = c.type_id-type_id.result in
    let names = c.type_id-type_id.ensures.before in
    elim c.match-optional.branch [
      | in-Ok w ↦
          let made = w.construct-at in
          let named = named_same old i w.name.result.items w.as_slice.result.now w.as_slice.ensures.value w.name.ensures.named in
          subst (λ (after : Stored). OpensPart Operation.Make allocator i jump old new before after) (sym w.segment-is)
          (make_opens allocator i jump old new before made.new.self made.ensures.types T w.as_slice.result.now named names w.in-Ok.count made.result w.name.ensures.fits w.in-Ok.ensures
          (record { tells = made.ensures.tells; makes = made.ensures.makes; no_room = made.ensures.no_room })
          (subst (λ (at : Result ℕ Code). RefersOr i.a at T jump old new) w.at-is c.try_refer.ensures.refers))
      | in-Err w ↦
          make_uncounted allocator i jump old new before c.match-optional.segment (ap (λ (after : Stored). after.types) w.segment-is) T (any_name old i) (any_named old i) names w.in-Err.code w.in-Err.ensures w.segment-is
          (subst (λ (at : Result ℕ Code). RefersOr i.a at T jump old new) w.at-is c.try_refer.ensures.refers)
    ]
