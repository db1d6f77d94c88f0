use Rattle.std.proofs.Common.{[], refl}
use Rattle.seg_spec.specs.Value.{Selector}
use Rattle.seg_spec.specs.Fixtures.{empty, counter_picture, empty_picture}
use Rattle.test_definitions.proofs.WorkedImages.SoundImages.{counter_held, empty_held}
use Rattle.client_sim.proofs.Names.OnePictureLaws.{Held-one}
use Rattle.test_definitions.proofs.examples.searches_and_paths.Goals as goal

pub returns : goal.returns
returns c = record {
  named = refl;
  not_named = refl;
  of_type = refl;
  not_of_type = refl;
  same_picture = λ picture held. held;
  other_picture = λ keeps. let same = (Held-one empty counter_picture empty_picture (keeps counter_picture counter_held) empty_held).names in cc;
  following = (Selector.field 0, [], refl);
  not_after = λ h. let e = h.2 in cc;
  elsewhere = λ h. let e = h.2 in cc;
}
