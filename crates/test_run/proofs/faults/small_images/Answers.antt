use Rattle.seg_spec.specs.Faulty.{Failure}
use Rattle.seg_spec.specs.Fixtures.{other_magic, linked, counter, no_owner}
use Rattle.test_definitions.proofs.WorkedImages.Parts.{other_magic-lacks, odd_type-lacks, linked-lacks, lost_gap-lacks, lost_gap-tiles_right, two_owners-lacks, no_owner-lacks, one_failure}
use Rattle.test_definitions.proofs.WorkedImages.SoundImages.{counter_sound}
use Rattle.test_definitions.proofs.WorkedImages.UnsoundImages.{no_owner-unsound}
use Rattle.test_run.proofs.faults.FaultLaws.{sound_image, no_fault, counter_image, counter_other, counter_its}
use Rattle.test_run.proofs.faults.small_images.Goals as goal

pub returns : goal.returns
returns c = record {
  magic = other_magic-lacks;
  no_type = λ l. let e = one_failure other_magic Failure.bad_header (Failure.bad_type 0) other_magic-lacks l in cc;
  odd_type = odd_type-lacks;
  block = linked-lacks;
  not_free = λ l. let e = one_failure linked Failure.bad_tiles Failure.bad_gaps linked-lacks l in cc;
  free = lost_gap-lacks;
  not_block = lost_gap-tiles_right;
  owners = two_owners-lacks;
  unowned = no_owner-lacks;
  none = λ fault l. no_fault counter fault counter_sound l;
  memory = tt;
  image = counter_image;
  no_image = λ table i. no_owner-unsound (sound_image no_owner table i);
  other_allocator = counter_other;
  its_allocator = counter_its;
}
