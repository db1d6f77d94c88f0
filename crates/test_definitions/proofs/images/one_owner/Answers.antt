use Rattle.seg_spec.specs.Bytes.{word}
use Rattle.seg_spec.proofs.Heap.LiveBlockLaws.{owned_once, owns_live}
use Rattle.test_definitions.proofs.images.one_owner.Goals as goal

pub returns-clause-live : goal.returns-clause-live
returns-clause-live c = λ bytes picture held block some. owned_once bytes (word bytes 16) held.laid_out.heap _ held.owners block some

pub returns-clause-owned : goal.returns-clause-owned
returns-clause-owned c = λ bytes picture held block some. owns_live bytes (word bytes 16) held.laid_out.heap _ held.owners block some
