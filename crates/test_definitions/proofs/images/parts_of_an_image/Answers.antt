use Rattle.seg_spec.proofs.Images.UnsoundImageLaws.{tiles_held}
use Rattle.test_definitions.proofs.WorkedImages.Parts.{image_length, heap_of_tiles, all_held, sound_of_all}
use Rattle.test_definitions.proofs.images.parts_of_an_image.Goals as goal

pub returns : goal.returns
returns c = record { length_is = image_length; tiles = tiles_held; heap = heap_of_tiles; all = all_held; sound = sound_of_all }
