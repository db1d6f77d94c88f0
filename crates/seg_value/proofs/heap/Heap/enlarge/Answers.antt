use Rattle.std.proofs.lemmas.Bool.{cases_lt}
use Rattle.std.proofs.Common.{◌^◌, ⊎_elim, ◌*◌, ap, ◌∙◌, sym, subst, Some}
use Rattle.seg_spec.specs.Calls.{Refuses}
use Rattle.seg_spec.specs.Growing.{Reserves}
use Rattle.seg_cells.specs.Places.{object_at}
use Rattle.seg_value.specs.Stored.{Stored}
use Rattle.seg_value.proofs.Buffers.{of_form, wanted_is, wanted_large, Enlarged, enlarged, enlarged_large, moved_to_new}
use Rattle.seg_value.specs.Names.{index_cell, ReservesIndex}
use Rattle.seg_value.proofs.BufferRequestLaws.{asks_once}
use Rattle.seg_value.proofs.IndexGrows as index
use Rattle.seg_spec.proofs.WindowLaws.{bytes_of}
use Rattle.seg_value.proofs.heap.Heap.enlarge.Goals as goal

pub returns-in-None-clause-enlarges : goal.returns-in-None-clause-enlarges
returns-in-None-clause-enlarges g c = λ T v blocks names s much.
    let code = g.F.Fit.allocator in
    let old = c.args.self.now.window.bytes in
    let table = c.args.self.now.types in
    let content = c.args.content.now in
    let of = of_form table T content names in
    let here = bytes_of c.self.inside.window c.args.self.now.window (ap (λ (x : Stored). x.window) c.self.view_is) in
    let at_block = rw here at c.request.ensures.same in
    let no_block = rw here at c.request.ensures.new in
    let r : Enlarged code old table c.args.cell T v blocks content of s c.args.limit much c.request.new.w.bytes c.request.result = ⊎_elim
    (λ small. enlarged code old table c.args.cell T v blocks content of s c.args.limit much c.request.new.w.bytes c.request.result c.buffer_of-block.result c.need-wanted.result c.need.result c.buffer_of-block.ensures
    (wanted_is code old table c.args.cell T v blocks content of s c.args.limit much c.count-kept.result c.preferred.result c.need-wanted.result small c.count-kept.ensures c.preferred.ensures.doubled c.need-wanted.ensures.exact)
    (c.need.ensures.exact small) at_block no_block)
    (λ large. enlarged_large code old table c.args.cell T v blocks content of s c.args.limit much c.request.new.w.bytes c.request.result c.buffer_of-block.result c.need-wanted.result c.need.result c.buffer_of-block.ensures large
    (wanted_large code old table c.args.cell T v blocks content of s c.args.limit much c.count-kept.result c.preferred.result c.need-wanted.result large c.count-kept.ensures c.preferred.ensures.doubled c.need-wanted.ensures.capped)
    (c.need.ensures.capped large) at_block no_block) (cases_lt (c.args.limit * content.entry.size) (2 ^ 32)) in
    let asks = asks_once code old c.args.cell content.entry.size c.args.limit much in
    subst (λ xs. Refuses code old c.request.new.w.bytes xs) (sym asks)
    (subst (Enlarged code old table c.args.cell T v blocks content of s c.args.limit much c.request.new.w.bytes) c.in-None.is r)

pub returns-in-Some-Same-clause-enlarges : goal.returns-in-Some-Same-clause-enlarges
returns-in-Some-Same-clause-enlarges g c = λ T v blocks names s much.
    let code = g.F.Fit.allocator in
    let old = c.args.self.now.window.bytes in
    let table = c.args.self.now.types in
    let content = c.args.content.now in
    let of = of_form table T content names in
    let here = bytes_of c.self.inside.window c.args.self.now.window (ap (λ (x : Stored). x.window) c.self.view_is) in
    let at_block = rw here at c.request.ensures.same in
    let no_block = rw here at c.request.ensures.new in
    let r : Enlarged code old table c.args.cell T v blocks content of s c.args.limit much c.request.new.w.bytes c.request.result = ⊎_elim
    (λ small. enlarged code old table c.args.cell T v blocks content of s c.args.limit much c.request.new.w.bytes c.request.result c.buffer_of-block.result c.need-wanted.result c.need.result c.buffer_of-block.ensures
    (wanted_is code old table c.args.cell T v blocks content of s c.args.limit much c.count-kept.result c.preferred.result c.need-wanted.result small c.count-kept.ensures c.preferred.ensures.doubled c.need-wanted.ensures.exact)
    (c.need.ensures.exact small) at_block no_block)
    (λ large. enlarged_large code old table c.args.cell T v blocks content of s c.args.limit much c.request.new.w.bytes c.request.result c.buffer_of-block.result c.need-wanted.result c.need.result c.buffer_of-block.ensures large
    (wanted_large code old table c.args.cell T v blocks content of s c.args.limit much c.count-kept.result c.preferred.result c.need-wanted.result large c.count-kept.ensures c.preferred.ensures.doubled c.need-wanted.ensures.capped)
    (c.need.ensures.capped large) at_block no_block) (cases_lt (c.args.limit * content.entry.size) (2 ^ 32)) in
    let asks = asks_once code old c.args.cell content.entry.size c.args.limit much in
    let is = c.in-Some-Same.is ∙ ap (λ x. Some x) c.in-Some-Same.field-0-is in
    subst (λ xs. Reserves code old c.request.new.w.bytes table (object_at c.args.cell T) v blocks xs (c.args.limit * content.entry.size)) (sym asks)
    (subst (Enlarged code old table c.args.cell T v blocks content of s c.args.limit much c.request.new.w.bytes) is r)

pub returns-in-Some-New-clause-enlarges : goal.returns-in-Some-New-clause-enlarges
returns-in-Some-New-clause-enlarges g c = λ T v blocks names s much.
    let code = g.F.Fit.allocator in
    let old = c.args.self.now.window.bytes in
    let table = c.args.self.now.types in
    let content = c.args.content.now in
    let of = of_form table T content names in
    let here = bytes_of c.self.inside.window c.args.self.now.window (ap (λ (x : Stored). x.window) c.self.view_is) in
    let at_block = rw here at c.request.ensures.same in
    let no_block = rw here at c.request.ensures.new in
    let r : Enlarged code old table c.args.cell T v blocks content of s c.args.limit much c.request.new.w.bytes c.request.result = ⊎_elim
    (λ small. enlarged code old table c.args.cell T v blocks content of s c.args.limit much c.request.new.w.bytes c.request.result c.buffer_of-block.result c.need-wanted.result c.need.result c.buffer_of-block.ensures
    (wanted_is code old table c.args.cell T v blocks content of s c.args.limit much c.count-kept.result c.preferred.result c.need-wanted.result small c.count-kept.ensures c.preferred.ensures.doubled c.need-wanted.ensures.exact)
    (c.need.ensures.exact small) at_block no_block)
    (λ large. enlarged_large code old table c.args.cell T v blocks content of s c.args.limit much c.request.new.w.bytes c.request.result c.buffer_of-block.result c.need-wanted.result c.need.result c.buffer_of-block.ensures large
    (wanted_large code old table c.args.cell T v blocks content of s c.args.limit much c.count-kept.result c.preferred.result c.need-wanted.result large c.count-kept.ensures c.preferred.ensures.doubled c.need-wanted.ensures.capped)
    (c.need.ensures.capped large) at_block no_block) (cases_lt (c.args.limit * content.entry.size) (2 ^ 32)) in
    let asks = asks_once code old c.args.cell content.entry.size c.args.limit much in
    let is = c.in-Some-New.is ∙ ap (λ x. Some x) c.in-Some-New.field-0-is in
    let given = subst (Enlarged code old table c.args.cell T v blocks content of s c.args.limit much c.request.new.w.bytes) is r in
    let types_here = ap (λ (x : Stored). x.types) c.self.view_is in
    let moves = rw types_here at c.move_buffer.ensures.moves in
    subst (λ xs. Reserves code old c.move_buffer.new.self.window.bytes table (object_at c.args.cell T) v blocks xs (c.args.limit * content.entry.size)) (sym asks)
    (moved_to_new code old table c.args.cell T v blocks content of s c.args.limit much c.request.new.w.bytes c.move_buffer.new.self.window.bytes c.in-Some-New.block given
    (λ u takes two fits. moves T u old v blocks names s takes two fits))

pub returns-in-None-clause-enlarges_index : goal.returns-in-None-clause-enlarges_index
returns-in-None-clause-enlarges_index g c = λ finds much.
    let code = g.F.Fit.allocator in
    let old = c.args.self.now.window.bytes in
    let table = c.args.self.now.types in
    let here = bytes_of c.self.inside.window c.args.self.now.window (ap (λ (x : Stored). x.window) c.self.view_is) in
    let more = rw (finds.1, finds.0.size_is) at much in
    let at_block = rw here at c.request.ensures.same in
    let no_block = rw here at c.request.ensures.new in
    let kept = rw finds.1 at c.count-kept.ensures in
    let block = rw finds.1 at c.buffer_of-block.ensures in
    let r : index.Enlarged code old table finds.2 c.args.limit more c.request.new.w.bytes c.request.result = ⊎_elim
    (λ small. index.index_enlarged code old table finds.2 c.args.limit more c.request.new.w.bytes c.request.result c.buffer_of-block.result c.need-wanted.result c.need.result block
    (index.index_wanted code old table finds.2 c.args.limit more c.count-kept.result c.preferred.result c.need-wanted.result small kept c.preferred.ensures.doubled (rw finds.0.size_is at c.need-wanted.ensures.exact))
    ((rw finds.0.size_is at c.need.ensures.exact) small) at_block no_block)
    (λ large. index.index_enlarged_large code old table finds.2 c.args.limit more c.request.new.w.bytes c.request.result c.buffer_of-block.result c.need-wanted.result c.need.result block large
    (index.index_wanted_large code old table finds.2 c.args.limit more c.count-kept.result c.preferred.result c.need-wanted.result large kept c.preferred.ensures.doubled (rw finds.0.size_is at c.need-wanted.ensures.capped))
    ((rw finds.0.size_is at c.need.ensures.capped) large) at_block no_block) (cases_lt (c.args.limit * 8) (2 ^ 32)) in
    let asks = asks_once code old index_cell 8 c.args.limit more in
    subst (λ xs. Refuses code old c.request.new.w.bytes xs) (sym asks) (subst (index.Enlarged code old table finds.2 c.args.limit more c.request.new.w.bytes) c.in-None.is r)

pub returns-in-Some-Same-clause-enlarges_index : goal.returns-in-Some-Same-clause-enlarges_index
returns-in-Some-Same-clause-enlarges_index g c = λ finds much.
    let code = g.F.Fit.allocator in
    let old = c.args.self.now.window.bytes in
    let table = c.args.self.now.types in
    let here = bytes_of c.self.inside.window c.args.self.now.window (ap (λ (x : Stored). x.window) c.self.view_is) in
    let more = rw (finds.1, finds.0.size_is) at much in
    let at_block = rw here at c.request.ensures.same in
    let no_block = rw here at c.request.ensures.new in
    let kept = rw finds.1 at c.count-kept.ensures in
    let block = rw finds.1 at c.buffer_of-block.ensures in
    let r : index.Enlarged code old table finds.2 c.args.limit more c.request.new.w.bytes c.request.result = ⊎_elim
    (λ small. index.index_enlarged code old table finds.2 c.args.limit more c.request.new.w.bytes c.request.result c.buffer_of-block.result c.need-wanted.result c.need.result block
    (index.index_wanted code old table finds.2 c.args.limit more c.count-kept.result c.preferred.result c.need-wanted.result small kept c.preferred.ensures.doubled (rw finds.0.size_is at c.need-wanted.ensures.exact))
    ((rw finds.0.size_is at c.need.ensures.exact) small) at_block no_block)
    (λ large. index.index_enlarged_large code old table finds.2 c.args.limit more c.request.new.w.bytes c.request.result c.buffer_of-block.result c.need-wanted.result c.need.result block large
    (index.index_wanted_large code old table finds.2 c.args.limit more c.count-kept.result c.preferred.result c.need-wanted.result large kept c.preferred.ensures.doubled (rw finds.0.size_is at c.need-wanted.ensures.capped))
    ((rw finds.0.size_is at c.need.ensures.capped) large) at_block no_block) (cases_lt (c.args.limit * 8) (2 ^ 32)) in
    let asks = asks_once code old index_cell 8 c.args.limit more in
    let is = c.in-Some-Same.is ∙ ap (λ x. Some x) c.in-Some-Same.field-0-is in
    subst (λ xs. ReservesIndex code old c.request.new.w.bytes table xs (c.args.limit * 8)) (sym asks) (subst (index.Enlarged code old table finds.2 c.args.limit more c.request.new.w.bytes) is r)

pub returns-in-Some-New-clause-enlarges_index : goal.returns-in-Some-New-clause-enlarges_index
returns-in-Some-New-clause-enlarges_index g c = λ finds much.
    let code = g.F.Fit.allocator in
    let old = c.args.self.now.window.bytes in
    let table = c.args.self.now.types in
    let here = bytes_of c.self.inside.window c.args.self.now.window (ap (λ (x : Stored). x.window) c.self.view_is) in
    let more = rw (finds.1, finds.0.size_is) at much in
    let at_block = rw here at c.request.ensures.same in
    let no_block = rw here at c.request.ensures.new in
    let kept = rw finds.1 at c.count-kept.ensures in
    let block = rw finds.1 at c.buffer_of-block.ensures in
    let r : index.Enlarged code old table finds.2 c.args.limit more c.request.new.w.bytes c.request.result = ⊎_elim
    (λ small. index.index_enlarged code old table finds.2 c.args.limit more c.request.new.w.bytes c.request.result c.buffer_of-block.result c.need-wanted.result c.need.result block
    (index.index_wanted code old table finds.2 c.args.limit more c.count-kept.result c.preferred.result c.need-wanted.result small kept c.preferred.ensures.doubled (rw finds.0.size_is at c.need-wanted.ensures.exact))
    ((rw finds.0.size_is at c.need.ensures.exact) small) at_block no_block)
    (λ large. index.index_enlarged_large code old table finds.2 c.args.limit more c.request.new.w.bytes c.request.result c.buffer_of-block.result c.need-wanted.result c.need.result block large
    (index.index_wanted_large code old table finds.2 c.args.limit more c.count-kept.result c.preferred.result c.need-wanted.result large kept c.preferred.ensures.doubled (rw finds.0.size_is at c.need-wanted.ensures.capped))
    ((rw finds.0.size_is at c.need.ensures.capped) large) at_block no_block) (cases_lt (c.args.limit * 8) (2 ^ 32)) in
    let asks = asks_once code old index_cell 8 c.args.limit more in
    let is = c.in-Some-New.is ∙ ap (λ x. Some x) c.in-Some-New.field-0-is in
    let given = subst (index.Enlarged code old table finds.2 c.args.limit more c.request.new.w.bytes) is r in
    let types_here = ap (λ (x : Stored). x.types) c.self.view_is in
    let moves = rw types_here at c.move_buffer.ensures.moves_index in
    subst (λ xs. ReservesIndex code old c.move_buffer.new.self.window.bytes table xs (c.args.limit * 8)) (sym asks)
    (index.index_moved_to code old table finds.2 c.args.limit more c.request.new.w.bytes c.move_buffer.new.self.window.bytes c.in-Some-New.block given
    (λ u takes two fits. moves u old finds takes two (rw (finds.1, finds.0.size_is) fits)))
