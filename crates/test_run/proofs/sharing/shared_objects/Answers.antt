use Rattle.test_run.proofs.sharing.SharedObjectLaws.{counts, numbers, trees, each_named, blocks, nothing}
use Rattle.test_run.proofs.sharing.shared_objects.Goals as goal

pub returns : goal.returns
returns c = record {
  counts = λ job effect o. counts effect.saved o.left.sound;
  numbers = λ job effect o. numbers effect.saved o.left.sound;
  trees = λ job effect o. trees effect.saved o.left.sound;
  unnamed = λ job effect o at none. each_named _ o.left.sound.picture o.left.sound.counted at none;
  blocks = λ job effect o. blocks effect.saved o.left.sound;
  nothing = λ job effect o names uniques. nothing effect.saved o.left.sound names uniques;
}
