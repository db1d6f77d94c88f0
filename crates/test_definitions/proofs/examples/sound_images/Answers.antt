use Rattle.test_definitions.proofs.WorkedImages.SoundImages.{counter_held, greeting_held, empty_held, empty_tree_held, counter_sound, greeting_sound, empty_sound, empty_tree_sound}
use Rattle.test_definitions.proofs.WorkedImages.EveryImage.{every_held}
use Rattle.test_definitions.proofs.examples.sound_images.Goals as goal

pub returns : goal.returns
returns c = record {
  every = every_held;
  number = counter_held;
  text = greeting_held;
  list = empty_held;
  tree = empty_tree_held;
  sound = (counter_sound, greeting_sound, empty_sound, empty_tree_sound);
}
