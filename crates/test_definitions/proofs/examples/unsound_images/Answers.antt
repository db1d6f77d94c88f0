use Rattle.test_definitions.proofs.WorkedImages.UnsoundImages.{other_magic-unsound, other_size-unsound, linked-unsound, odd_kind-unsound, neighbours-unsound, lost_gap-unsound, red_root-unsound}
use Rattle.test_definitions.proofs.WorkedImages.UnsoundImages.{no_items-unsound, named_as_unique-unsound, no_buffer-unsound, own_buffer-unsound, two_owners-unsound, no_owner-unsound}
use Rattle.test_definitions.proofs.examples.unsound_images.Goals as goal

pub returns : goal.returns
returns c = (
  other_magic-unsound,
  (
    other_size-unsound,
    (
      linked-unsound,
      (
        odd_kind-unsound,
        (
          neighbours-unsound,
          (
            lost_gap-unsound,
            (
              red_root-unsound,
              (no_items-unsound, (named_as_unique-unsound, (no_buffer-unsound, (own_buffer-unsound, (two_owners-unsound, (no_owner-unsound, tt)))))),
            ),
          ),
        ),
      ),
    ),
  ),
)
