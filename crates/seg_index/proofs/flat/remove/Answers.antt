use Rattle.std.proofs.Common.{◌<◌, ◌∙◌, sym, subst, refl}
use Rattle.seg_value.specs.Names.{index_cell, FindsIndex}
use Rattle.seg_index.proofs.FlatEntries.{flat_finds, flat_length}
use Rattle.seg_index.proofs.FlatChanges.{name_left, left_finds, last_left}
use Rattle.seg_index.proofs.RootOrder.{found_below}
use Rattle.seg_index.proofs.flat.remove.Goals as goal

pub returns-then-count-eq0-clause-leaves : goal.returns-then-count-eq0-clause-leaves
returns-then-count-eq0-clause-leaves g c = λ names blocks f flat root s.
    let old = c.args.heap.now.window.bytes in
    let table = c.args.heap.now.types in
    let mid = c.close_entry.new.self.window.bytes in
    let finds : FindsIndex g.F.Fit.allocator old table c.index_buffer.result index_cell = (c.index_buffer.ensures, refl, flat_finds g.F.Fit.allocator old table names blocks f flat) in
    let below = subst (λ k. c.args.index < k) (flat_length g.F.Fit.allocator old table names blocks f flat) (found_below names root.name c.args.index root s) in
    let closes = c.close_entry.ensures.closes_name finds below in
    let none = sym c.count.ensures ∙ c.if-count-eq0.true in
    last_left g.F.Fit.allocator old table names blocks f flat root c.args.index s mid closes none c.free_buffer.new.self.window.bytes
    (rw c.close_entry.ensures.types at (c.free_buffer.ensures.empties refl (rw c.close_entry.ensures.types (left_finds g.F.Fit.allocator old table names blocks f flat root c.args.index s mid closes none)) none))

pub returns-else-count-eq0-clause-leaves : goal.returns-else-count-eq0-clause-leaves
returns-else-count-eq0-clause-leaves g c = λ names blocks f flat root s.
    let old = c.args.heap.now.window.bytes in
    let table = c.args.heap.now.types in
    let mid = c.close_entry.new.self.window.bytes in
    let finds : FindsIndex g.F.Fit.allocator old table c.index_buffer.result index_cell = (c.index_buffer.ensures, refl, flat_finds g.F.Fit.allocator old table names blocks f flat) in
    let below = subst (λ k. c.args.index < k) (flat_length g.F.Fit.allocator old table names blocks f flat) (found_below names root.name c.args.index root s) in
    let closes = c.close_entry.ensures.closes_name finds below in
    name_left g.F.Fit.allocator old table names blocks f flat root c.args.index s mid closes (λ none. c.if-count-eq0.false (c.count.ensures ∙ none))
