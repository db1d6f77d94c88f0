use Rattle.std.proofs.Common.{◌≡◌, ◌+◌, ◌^◌, ◌<◌, ap, ◌∙◌, sym, subst, refl, arith}
use Rattle.std.proofs.lemmas.Result.{MatchResult-from_err}
use Rattle.seg_spec.specs.Window.{Placement}
use Rattle.seg_value.specs.Names.{index_cell, FindsIndex}
use Rattle.seg_cells.specs.NameEntries.{write_entry}
use Rattle.seg_index.specs.Lists.{EntersName}
use Rattle.seg_index.proofs.FlatEntries.{flat_finds}
use Rattle.seg_index.proofs.FlatChanges.{index_within, name_entered}
use Rattle.seg_index.proofs.flat.insert.Goals as goal

bytes_of : (p q : Placement) → p ≡ q → p.bytes ≡ q.bytes
bytes_of p q e = ap (λ (r : Placement). r.bytes) e

pub returns-in_err-at-clause-enters : goal.returns-in_err-at-clause-enters
returns-in_err-at-clause-enters g c = λ names blocks f flat root enters e s.
    let old = c.args.heap.now.window.bytes in
    let table = c.args.heap.now.types in
    let finds : FindsIndex g.F.Fit.allocator old table c.index_buffer.result index_cell = (c.index_buffer.ensures, refl, flat_finds g.F.Fit.allocator old table names blocks f flat) in
    let refused = c.in_err-at.ensures.opens_name finds (index_within g.F.Fit.allocator old table names blocks f flat root c.args.index s) in
    MatchResult-from_err c.from_residual.result (λ done. EntersName g.F.Fit.allocator old c.open_entry.new.self.window.bytes table names blocks root) _ c.from_residual.ensures.0
    (λ code. rw flat refused)

pub returns-clause-enters : goal.returns-clause-enters
returns-clause-enters g c = λ names blocks f flat root enters e s.
    let old = c.args.heap.now.window.bytes in
    let table = c.args.heap.now.types in
    let mid = c.open_entry.new.self.window in
    let finds : FindsIndex g.F.Fit.allocator old table c.index_buffer.result index_cell = (c.index_buffer.ensures, refl, flat_finds g.F.Fit.allocator old table names blocks f flat) in
    let opens = c.in_ok-at.ensures.opens_name finds (index_within g.F.Fit.allocator old table names blocks f flat root c.args.index s) in
    let low : c.in_ok-at.at + 4 < 2 ^ 64 = omega (arith, opens.within.fits, opens.within.small) in
    let written : c.write.new.w.bytes ≡ write_entry mid.bytes c.in_ok-at.at c.args.entry =
    bytes_of _ _ (c.write.ensures.written low) ∙ ap (λ (p : Placement). write_entry p.bytes c.in_ok-at.at c.args.entry) c.window_mut.ensures.value in
    let is = written ∙ ap (write_entry mid.bytes c.in_ok-at.at) e in
    subst (λ bs. EntersName g.F.Fit.allocator old bs table names blocks root) (sym is) (name_entered g.F.Fit.allocator old table names blocks f flat root c.args.index s enters mid.bytes c.in_ok-at.at opens)
