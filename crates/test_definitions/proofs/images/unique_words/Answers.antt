use Rattle.seg_spec.proofs.Images.UniqueLaws.{unique_added, unique_removed}
use Rattle.test_definitions.proofs.images.unique_words.Goals as goal

pub returns-clause-added : goal.returns-clause-added
returns-clause-added c = λ old new before root after others lists rising word. unique_added old new before root after others lists rising word

pub returns-clause-removed : goal.returns-clause-removed
returns-clause-removed c = λ old new before root after others lists word. unique_removed old new before root after others lists word
