-- A checked image in contracts.
--     segment_in image       the segment that is the whole of its bytes
use Rattle.seg_value.specs.Stored.{Stored, whole_of}
use Rattle.seg_image.specs.declared.checked.CheckedImage.{CheckedImage}

abbrev pub segment_in : CheckedImage → Stored
segment_in image = whole_of image.view.bytes.now image.layouts
