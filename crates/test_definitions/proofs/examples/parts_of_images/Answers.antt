use Rattle.std.proofs.Common.{lit≤, refl, arith}
use Rattle.test_definitions.proofs.WorkedImages.Parts.{lost_gap-tiles, neighbours-tiles, linked-tiles, odd_kind-tiles, counter-all, no_owner-all, other_magic-lacks, odd_type-lacks}
use Rattle.test_definitions.proofs.WorkedImages.Parts.{linked-lacks, linked-right_type, lost_gap-lacks, lost_gap-tiles_right, lost_gap-content_right, two_owners-lacks, no_owner-lacks}
use Rattle.seg_spec.proofs.Images.UnsoundImageLaws.{unsound}
use Rattle.seg_spec.specs.Fixtures.{counter}
use Rattle.test_definitions.proofs.WorkedImages.SoundImages.{counter_sound}
use Rattle.test_definitions.proofs.examples.parts_of_images.Goals as goal

pub returns : goal.returns
returns c = record {
  smallest = record { not_small = lit≤ tt; not_large = lit≤ tt; whole_units = refl };
  too_small = λ h. absurd (omega (arith, h.not_small));
  half_a_unit = λ h. absurd (omega (arith, h.whole_units));
  too_large = λ h. absurd (omega (arith, h.not_large));
  lost_gap = lost_gap-tiles;
  neighbours = neighbours-tiles;
  linked = linked-tiles;
  odd_kind = odd_kind-tiles;
  whole = counter-all;
  no_owner = no_owner-all;
  wrong_magic = other_magic-lacks;
  wrong_type = odd_type-lacks;
  wrong_link = linked-lacks;
  wrong_gaps = lost_gap-lacks;
  wrong_content = two_owners-lacks;
  wrong_owners = no_owner-lacks;
  nothing_wrong = λ failure l. unsound counter failure l counter_sound;
  right_type = linked-right_type;
  right_tiles = lost_gap-tiles_right;
  right_content = lost_gap-content_right;
}
