use denote.Struct.Props.{props}
use Rattle.std.proofs.Math.Logic.{∥∥₁_elim}
use Rattle.client_spec.proofs.Runs.TypedRunLaws.{never_wrong}
use Rattle.client_verify.proofs.verified.Verified.client.Goals as goal

pub returns-clause-safe : goal.returns-clause-safe
returns-clause-safe c tree spells s s' n end begins trees runs =
    ∥∥₁_elim (c.args.self.now.accepted tree spells) (hlevel props) (λ accepted. never_wrong tree spells.valid accepted s s' n end begins trees runs)
