use Rattle.std.proofs.Common.{arith}
use Rattle.seg_spec.proofs.Images.UpgradeLaws.{upgraded_held, upgraded_counted, upgraded_version, upgraded_live}
use Rattle.test_run.proofs.sharing.SharedObjectLaws.{none_before}
use Rattle.test_run.proofs.sharing.upgraded_images.Goals as goal

pub returns : goal.returns
returns c = record {
  picture = λ image picture held. upgraded_held image picture held;
  counts = λ image picture counted. upgraded_counted image picture counted;
  version = λ image picture held. upgraded_version image (let small = held.laid_out.header.not_small in omega arith);
  blocks = λ image picture held. upgraded_live image picture held;
  first_version = λ image picture held counted first. none_before image picture held counted first;
}
