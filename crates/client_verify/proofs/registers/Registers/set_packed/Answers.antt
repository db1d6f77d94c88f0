use Rattle.std.proofs.Common.{ap, ◌∙◌}
use Rattle.std.specs.Prelude.{slice_set}
use Rattle.std.proofs.lemmas.List.{map-set}
use Rattle.client_verify.specs.Views.{register_type_of, registers_of}
use Rattle.client_verify.proofs.registers.Registers.set_packed.Goals as goal

pub returns-then-place-lt-COUNT : goal.returns-then-place-lt-COUNT
returns-then-place-lt-COUNT c =
    map-set register_type_of c.args.self.now.types c.from-place.result c.args.to ∙ ap (λ r. slice_set (registers_of c.args.self.now) r (register_type_of c.args.to)) c.from-place.ensures
