use Rattle.seg_spec.proofs.Tables.TableExtensionLaws.{Holds-extended}
use Rattle.test_definitions.proofs.values.more_types.Goals as goal

pub returns : goal.returns
returns c = λ bytes old more place v blocks valid h. Holds-extended bytes old more valid h
