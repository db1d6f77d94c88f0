use Rattle.seg_spec.proofs.Frozen.SharedLaws.{counted_again}
use Rattle.seg_spec.proofs.Frozen.UnfoldedTreeLaws.{deep_enough, reads_the_same}
use Rattle.test_definitions.proofs.shared.reading.Goals as goal

pub returns-clause-deep : goal.returns-clause-deep
returns-clause-deep c = λ next n m frozen cells cell counted below more. deep_enough frozen counted.distinct counted.falling n m cell more below

pub returns-clause-kept : goal.returns-clause-kept
returns-clause-kept c = λ next gone kept frozen v falling counted named.
    let again = counted_again next gone kept frozen falling counted in
    reads_the_same gone frozen counted.distinct again.distinct again.falling next v named
