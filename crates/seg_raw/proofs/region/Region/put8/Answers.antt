use Rattle.seg_raw.specs.Homes.{Area}
use Rattle.std.proofs.Common.{ap}
use Rattle.std.proofs.Common.{arith, set, ap, ◌∙◌}
use Rattle.seg_raw.proofs.Numbers.{set_number_set}
use Rattle.seg_raw.proofs.region.Region.put8.Goals as goal

pub returns-clause-bytes : goal.returns-clause-bytes
returns-clause-bytes g c = ap (λ bs. set bs c.args.at c.args.value) (ap (λ (a : Area). a.bytes) c.self.view_is) ∙ set_number_set c.args.self.now.bytes c.args.at c.args.value c.requires (omega arith)
