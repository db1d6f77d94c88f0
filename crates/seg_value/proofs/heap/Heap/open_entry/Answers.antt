use Rattle.std.proofs.Common.{◌≡◌, ℕ, ◌+◌, ap, ◌∙◌, sym, subst, Result, Ok, Err, Some}
use Rattle.std.specs.Prelude.{MatchResult, IsErr}
use Rattle.std.proofs.lemmas.Bool.{false≢true}
use Rattle.seg_spec.specs.Bytes.{set_word}
use Rattle.seg_spec.specs.Calls.{Refuses}
use Rattle.seg_spec.specs.Reads.{count_at}
use Rattle.seg_spec.specs.Spending.{buffer_asks}
use Rattle.seg_spec.specs.Types.{Table, size}
use Rattle.seg_spec.specs.Value.{Map}
use Rattle.seg_spec.specs.Window.{with_bytes}
use Rattle.seg_value.specs.Buffers.{NamesBuffer}
use Rattle.seg_cells.specs.Contents.{ContentOf}
use Rattle.seg_value.specs.Entries.{NamesFlatMap, OpensEntry}
use Rattle.seg_cells.specs.declared.content.Content.{Content}
use Rattle.seg_cells.specs.Places.{object_at}
use Rattle.seg_value.proofs.Between.{one_more, opened_by}
use Rattle.seg_spec.specs.Spending.{entry_asks}
use Rattle.seg_value.specs.Names.{index_cell, OpensName}
use Rattle.seg_value.proofs.IndexGrows.{one_name_more}
use Rattle.seg_value.proofs.IndexEntryLaws.{name_opened_by}
use Rattle.seg_spec.proofs.WindowLaws.{bytes_of}
use Rattle.seg_value.proofs.heap.Heap.open_entry.Goals as goal

only_err : {X Y : Type 0} (r : Result X Y) (P : X → Type 0) (Q : Type 0) → IsErr r → Q → MatchResult r P (λ code. Q)
only_err (Ok x) P Q e q = absurd (false≢true e)
only_err (Err y) P Q e q = q

names_buffer : (table : Table) (T U : ℕ) (content : Content) → NamesFlatMap table T U content → NamesBuffer table T content
names_buffer table T U content n = (subst (λ o. ContentOf table T o (Some content)) (sym n.0) n.1, n.1.shape_is)

pub returns-in_err-start-clause-opens : goal.returns-in_err-start-clause-opens
returns-in_err-start-clause-opens g c = λ T U keys vs blocks names s below.
    let old = c.args.self.now.window.bytes in
    let table = c.args.self.now.types in
    let content = c.args.content.now in
    let more = one_more g.F.Fit.allocator old table (object_at c.args.cell T) U keys vs blocks s names.0 c.count-kept.result c.saturating_add-len.result
    c.count-kept.ensures c.saturating_add-len.ensures in
    let refused = c.in_err-start.ensures.reserves T (Map keys vs) blocks (names_buffer table T U content names) s in
    let len_is : c.saturating_add-len.result ≡ count_at old c.args.cell + 1 = more ∙ ap (λ n. n + 1) c.count-kept.ensures in
    only_err c.from_residual.result (OpensEntry g.F.Fit.allocator old c.reserve.new.self.window.bytes table (object_at c.args.cell T) U keys vs blocks c.args.index)
    (Refuses g.F.Fit.allocator old c.reserve.new.self.window.bytes (buffer_asks old c.args.cell (8 + size table U) (count_at old c.args.cell + 1))) c.from_residual.ensures.0 (rw (len_is, names.1.entry_is.size_is) at refused)

pub returns-clause-opens : goal.returns-clause-opens
returns-clause-opens g c = λ T U keys vs blocks names s below.
    let old = c.args.self.now.window.bytes in
    let mid = c.reserve.new.self.window.bytes in
    let table = c.args.self.now.types in
    let content = c.args.content.now in
    let moved = c.shift_entries.new.self.window in
    let more = one_more g.F.Fit.allocator old table (object_at c.args.cell T) U keys vs blocks s names.0 c.count-kept.result c.saturating_add-len.result
    c.count-kept.ensures c.saturating_add-len.ensures in
    let len_is : c.saturating_add-len.result ≡ count_at old c.args.cell + 1 = more ∙ ap (λ n. n + 1) c.count-kept.ensures in
    let reserved = rw (len_is, names.1.entry_is.size_is) at (c.in_ok-start.ensures.reserves T (Map keys vs) blocks (names_buffer table T U content names) s) in
    let new_is = bytes_of c.set_count.new.self.window (with_bytes moved (set_word moved.bytes (c.args.cell + 4) c.saturating_add-len.result)) c.set_count.ensures.window in
    opened_by g.F.Fit.allocator old table (object_at c.args.cell T) U keys vs blocks s names.0 mid c.args.index content.entry.size c.at-at.result c.at-next.result c.count-kept.result c.saturating_add-len.result c.saturating_sub.result
    c.saturating_add.result c.in_ok-start.start moved.bytes c.set_count.new.self.window.bytes reserved below names.1.entry_is.size_is c.count-kept.ensures more c.in_ok-start.ensures.start c.saturating_sub.ensures c.saturating_add.ensures
    c.at-at.ensures c.at-next.ensures ((rw c.reserve.ensures.types at c.shift_entries.ensures.shifted) U 8 names.1.entry_is) new_is

pub returns-in_err-start-clause-opens_name : goal.returns-in_err-start-clause-opens_name
returns-in_err-start-clause-opens_name g c = λ finds below.
    let old = c.args.self.now.window.bytes in
    let table = c.args.self.now.types in
    let more = one_name_more g.F.Fit.allocator old table finds.2 c.count-kept.result c.saturating_add-len.result (rw finds.1 at c.count-kept.ensures) c.saturating_add-len.ensures in
    let refused = c.in_err-start.ensures.reserves_index finds in
    let len_is : c.saturating_add-len.result ≡ count_at old index_cell + 1 = more ∙ ap (λ n. n + 1) (rw finds.1 at c.count-kept.ensures) in
    only_err c.from_residual.result (OpensName g.F.Fit.allocator old c.reserve.new.self.window.bytes table c.args.index)
    (Refuses g.F.Fit.allocator old c.reserve.new.self.window.bytes (entry_asks 0 old)) c.from_residual.ensures.0 (rw len_is at refused)

pub returns-clause-opens_name : goal.returns-clause-opens_name
returns-clause-opens_name g c = λ finds below.
    let old = c.args.self.now.window.bytes in
    let mid = c.reserve.new.self.window.bytes in
    let table = c.args.self.now.types in
    let content = c.args.content.now in
    let moved = c.shift_entries.new.self.window in
    let more = one_name_more g.F.Fit.allocator old table finds.2 c.count-kept.result c.saturating_add-len.result (rw finds.1 at c.count-kept.ensures) c.saturating_add-len.ensures in
    let len_is : c.saturating_add-len.result ≡ count_at old index_cell + 1 = more ∙ ap (λ n. n + 1) (rw finds.1 at c.count-kept.ensures) in
    let reserved = rw len_is at (c.in_ok-start.ensures.reserves_index finds) in
    let new_is = bytes_of c.set_count.new.self.window (with_bytes moved (set_word moved.bytes (c.args.cell + 4) c.saturating_add-len.result)) c.set_count.ensures.window in
    name_opened_by g.F.Fit.allocator old table finds.2 mid c.args.index content.entry.size content.entry.before c.at-at.result c.at-next.result c.count-kept.result c.saturating_add-len.result c.saturating_sub.result
    c.saturating_add.result c.in_ok-start.start moved.bytes c.set_count.new.self.window.bytes reserved (rw finds.1 at below) finds.0.size_is finds.0.before_is (rw finds.1 at c.count-kept.ensures) more
    (rw finds.1 at c.in_ok-start.ensures.start)
    c.saturating_sub.ensures c.saturating_add.ensures c.at-at.ensures c.at-next.ensures (c.shift_entries.ensures.pointers finds.0.held_is) (rw finds.1 at new_is)
