use Rattle.seg_spec.proofs.SliceLaws.{IsSame-agrees, Agrees-same_slice, IsSame-part, put-changes}
use Rattle.test_definitions.proofs.bytes.same_bytes.Goals as goal

pub returns : goal.returns
returns c = record {
  agreeing = λ old new from to at n agrees low high fits. IsSame-agrees old new from to at n agrees low high fits;
  same = λ old new from n long same. Agrees-same_slice old new from n long same;
  part = λ old new at n position m low high same. IsSame-part old new at n position m low high same;
  written = λ old at xs. put-changes old at xs;
}
