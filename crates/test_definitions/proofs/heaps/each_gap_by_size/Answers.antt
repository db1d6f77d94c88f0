use Rattle.seg_spec.proofs.Heap.GapOrderLaws.{gaps-by_size, times-by_size, by_size-middle, insert-placed, insert-removed}
use Rattle.test_definitions.proofs.heaps.each_gap_by_size.Goals as goal

pub returns-clause-ordered : goal.returns-clause-ordered
returns-clause-ordered c = λ bytes allocator heap. gaps-by_size bytes allocator heap

pub returns-clause-once : goal.returns-clause-once
returns-clause-once c = λ position gs. times-by_size position gs

pub returns-clause-inserted : goal.returns-clause-inserted
returns-clause-inserted c = λ before gap after. by_size-middle before gap after

pub returns-clause-placed : goal.returns-clause-placed
returns-clause-placed c = λ gap before after following front. insert-placed gap before after following front

pub returns-clause-removed : goal.returns-clause-removed
returns-clause-removed c = λ gap gs before after other e. insert-removed gap gs before after other e
