use Rattle.seg_spec.proofs.BytesLaws.{number-set_same, number-set_other}
use Rattle.test_definitions.proofs.bytes.numbers.Goals as goal

pub returns-clause-written : goal.returns-clause-written
returns-clause-written c = λ w bytes at n fits small. number-set_same w bytes at n fits small

pub returns-clause-beside : goal.returns-clause-beside
returns-clause-beside c = λ v w bytes at n position apart. number-set_other v w bytes at n position apart
