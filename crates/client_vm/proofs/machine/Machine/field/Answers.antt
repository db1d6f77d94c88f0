use Rattle.std.proofs.Common.{◌∙◌, ap}
use Rattle.std.specs.Int.{w32}
use Rattle.std.proofs.lemmas.Int.{to_z_pos}
use Rattle.seg_layout.specs.Forms.{cell_of, map_option}
use Rattle.client_vm.proofs.PartLaws.{index_named, field_does, no_field_does}
use Rattle.client_vm.proofs.machine.Machine.field.Goals as goal

pub returns-in-Some-clause-does : goal.returns-in-Some-clause-does
returns-in-Some-clause-does g c =
    let index = c.unwrap_or-index.result in
    let place = c.place-whole.result in
    field_does _ c.args.i.now c.args.self.now c.refer.new.self c.args.segment.now place c.place-whole.ensures.at c.place-whole.ensures.type_id index (cell_of c.in-Some.field)
    (index_named index 4294967295 _ c.args.i.now.number c.try_from.result c.try_from.ensures c.unwrap_or-index.ensures (λ n low is. rw is (to_z_pos w32 n low)))
    (rw c.types.ensures at c.field.ensures.field ∙ ap (map_option cell_of) c.in-Some.is) c.part.result c.part.ensures.at c.part.ensures.type_id c.refer.ensures.rest

pub returns-in_default-clause-does : goal.returns-in_default-clause-does
returns-in_default-clause-does g c =
    let index = c.unwrap_or-index.result in
    let place = c.place-whole.result in
    no_field_does _ c.args.i.now c.args.self.now c.args.self.now c.args.segment.now place c.place-whole.ensures.at c.place-whole.ensures.type_id index
    (index_named index 4294967295 _ c.args.i.now.number c.try_from.result c.try_from.ensures c.unwrap_or-index.ensures (λ n low is. rw is (to_z_pos w32 n low)))
    (rw c.types.ensures at c.field.ensures.field ∙ ap (map_option cell_of) c.in_default.is)
