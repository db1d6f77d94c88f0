use Rattle.std.proofs.Common.{sym, subst}
use Rattle.std.specs.Prelude.{OnOk}
use Rattle.seg_spec.specs.Bytes.{word}
use Rattle.seg_spec.specs.Header.{version_word}
use Rattle.seg_spec.specs.Sound.{Picture}
use Rattle.seg_spec.specs.Types.{AreOfVersion}
use Rattle.seg_manager.specs.Segments.{AddsTypes}
use Rattle.seg_image.specs.Images.{segment_of, allocator_of, bytes_in, IsOpen}
use Rattle.seg_image.proofs.image.Image.add_types.Goals as goal

pub returns-in-Seq-clause-adds : goal.returns-in-Seq-clause-adds
returns-in-Seq-clause-adds g c =
    let new = c.add_types.new.self in
    subst (λ image. OnOk c.add_types.result ((picture : Picture) → IsOpen image picture → AreOfVersion (word (bytes_in image) version_word) c.args.types.now
    → AddsTypes (allocator_of image) (segment_of image) new picture c.args.types.now)) (sym c.in-Seq.is) c.add_types.ensures.adds

pub returns-in-Best-clause-adds : goal.returns-in-Best-clause-adds
returns-in-Best-clause-adds g c =
    let new = c.add_types-in-Best.new.self in
    subst (λ image. OnOk c.add_types-in-Best.result ((picture : Picture) → IsOpen image picture → AreOfVersion (word (bytes_in image) version_word) c.args.types.now
    → AddsTypes (allocator_of image) (segment_of image) new picture c.args.types.now)) (sym c.in-Best.is) c.add_types-in-Best.ensures.adds
