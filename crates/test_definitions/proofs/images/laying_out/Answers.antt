use Rattle.seg_spec.proofs.Images.RootLaws.{IsLaidOut-kept, IsLaidOut-faced, IsLaidOut-loose}
use Rattle.test_definitions.proofs.images.laying_out.Goals as goal

pub returns : goal.returns
returns c = record {
  kept = λ old new picture index_blocks l long low high heap blocks kept. IsLaidOut-kept old new picture index_blocks l long low high heap blocks kept;
  faced = λ bytes picture index_blocks which before root other after among face l. IsLaidOut-faced bytes picture index_blocks which before root other after among face l;
  loose = λ bytes picture index_blocks roots plain l. IsLaidOut-loose bytes picture index_blocks roots plain l;
}
