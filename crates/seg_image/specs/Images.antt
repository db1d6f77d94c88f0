-- An open image in contracts.
--     segment_of image       its segment: the window and the types
--     allocator_of image     the number of its allocator
--     allocator_number kind  the number of an allocator
--     bytes_in image         its bytes
--     types_of image         its types
--     IsOpen image picture   its bytes contain this picture, with its types and its allocator
--     ChangesBytes old new   only its bytes may have changed
use Rattle.std.specs.Prelude.{◌≡◌, ℕ, List}
use Rattle.seg_spec.specs.Sound.{Picture}
use Rattle.seg_spec.specs.Types.{Table}
use Rattle.seg_spec.specs.Window.{KeepsHost}
use Rattle.seg_value.specs.Stored.{Stored}
use Rattle.seg_manager.specs.Segments.{IsSegment}
use Rattle.seg_image.specs.declared.image.Image.{Image}
use Rattle.seg_image.specs.declared.image.Image.TheVariants as on
use Rattle.seg_image.specs.declared.creating.AllocatorKind.{AllocatorKind}
use Rattle.seg_image.specs.declared.creating.AllocatorKind.TheVariants as kind

abbrev pub segment_of : {A : Type 0} → Image A → Stored
segment_of (on.Seq segment) = segment
segment_of (on.Best segment) = segment

abbrev pub allocator_of : {A : Type 0} → Image A → ℕ
allocator_of (on.Seq segment) = 0
allocator_of (on.Best segment) = 1

abbrev pub allocator_number : AllocatorKind → ℕ
allocator_number kind.Seq = 0
allocator_number kind.Best = 1

abbrev pub bytes_in : {A : Type 0} → Image A → List ℕ
bytes_in image = (segment_of image).window.bytes

abbrev pub types_of : {A : Type 0} → Image A → Table
types_of image = (segment_of image).types

abbrev pub IsOpen : {A : Type 0} → Image A → Picture → Type 0
IsOpen image picture = IsSegment (allocator_of image) (segment_of image) picture

-- Only the bytes of the image may have changed. Its allocator and its types are the same, and so is
-- the memory around its bytes.
pub record ChangesBytes {A : Type 0} (old new : Image A) : Type 0 where
  pub allocator : allocator_of new ≡ allocator_of old
  pub types : types_of new ≡ types_of old
  pub host : KeepsHost (segment_of old).window (segment_of new).window
