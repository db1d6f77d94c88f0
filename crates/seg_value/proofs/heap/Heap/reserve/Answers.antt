use Rattle.std.proofs.Common.{rules, ◌≡◌, ◌-◌, ◌*◌, ◌<◌, ◌≤◌, ap, arith, Err}
use Rattle.seg_spec.specs.Spending.{units_named}
use Rattle.seg_spec.proofs.WindowLaws.{bytes_of}
use Rattle.seg_value.specs.Stored.{Stored}
use Rattle.seg_value.proofs.Buffers.{of_form, has_room}
use Rattle.seg_value.proofs.IndexGrows.{index_has_room}
use Rattle.seg_value.proofs.heap.Heap.reserve.Goals as goal

pub returns-then-from-room-clause-reserves : goal.returns-then-from-room-clause-reserves
returns-then-from-room-clause-reserves g c = λ T v blocks names s.
    let old = c.args.self.now.window.bytes in
    let of = of_form c.args.self.now.types T c.args.content.now names in
    let here = bytes_of c.self.inside.window c.args.self.now.window (ap (λ (x : Stored). x.window) c.self.view_is) in
    let room = c.room.ensures c.args.cell (rw here at c.target-start.ensures) in
    let fits : c.args.limit * c.args.content.now.entry.size ≤ c.room.result = rw (c.from.ensures, c.from-2.ensures) at c.if-from-room.true in
    has_room g.F.Fit.allocator old c.args.self.now.types c.args.cell T v blocks c.args.content.now of s c.args.limit c.room.result room fits

pub returns-in_err-enlarge-clause-reserves : goal.returns-in_err-enlarge-clause-reserves
returns-in_err-enlarge-clause-reserves g c = λ T v blocks names s.
    let old = c.args.self.now.window.bytes in
    let of = of_form c.args.self.now.types T c.args.content.now names in
    let here = bytes_of c.self.inside.window c.args.self.now.window (ap (λ (x : Stored). x.window) c.self.view_is) in
    let room = c.room.ensures c.args.cell (rw here at c.target-start.ensures) in
    let more : c.room.result < c.args.limit * c.args.content.now.entry.size = rw (c.from.ensures, c.from-2.ensures) at c.if-from-room.false in
    let much : 16 * units_named old c.args.cell - 16 < c.args.limit * c.args.content.now.entry.size = omega arith in
    let result : c.from_residual.result ≡ Err c.in_err-enlarge.field-0.0 = search rules in
    rw result (c.in_err-enlarge.ensures.enlarges T v blocks names s much)

pub returns-clause-reserves : goal.returns-clause-reserves
returns-clause-reserves g c = λ T v blocks names s.
    let old = c.args.self.now.window.bytes in
    let of = of_form c.args.self.now.types T c.args.content.now names in
    let here = bytes_of c.self.inside.window c.args.self.now.window (ap (λ (x : Stored). x.window) c.self.view_is) in
    let room = c.room.ensures c.args.cell (rw here at c.target-start.ensures) in
    let more : c.room.result < c.args.limit * c.args.content.now.entry.size = rw (c.from.ensures, c.from-2.ensures) at c.if-from-room.false in
    let much : 16 * units_named old c.args.cell - 16 < c.args.limit * c.args.content.now.entry.size = omega arith in
    c.in_ok-enlarge.ensures.enlarges T v blocks names s much

pub returns-then-from-room-clause-reserves_index : goal.returns-then-from-room-clause-reserves_index
returns-then-from-room-clause-reserves_index g c = λ finds.
    let old = c.args.self.now.window.bytes in
    let here = bytes_of c.self.inside.window c.args.self.now.window (ap (λ (x : Stored). x.window) c.self.view_is) in
    let room = c.room.ensures c.args.cell (rw here at c.target-start.ensures) in
    let fits : c.args.limit * c.args.content.now.entry.size ≤ c.room.result = rw (c.from.ensures, c.from-2.ensures) at c.if-from-room.true in
    index_has_room g.F.Fit.allocator old c.args.self.now.types finds.2 c.args.limit c.room.result (rw finds.1 at room) (rw finds.0.size_is at fits)

pub returns-in_err-enlarge-clause-reserves_index : goal.returns-in_err-enlarge-clause-reserves_index
returns-in_err-enlarge-clause-reserves_index g c = λ finds.
    let old = c.args.self.now.window.bytes in
    let here = bytes_of c.self.inside.window c.args.self.now.window (ap (λ (x : Stored). x.window) c.self.view_is) in
    let room = c.room.ensures c.args.cell (rw here at c.target-start.ensures) in
    let more : c.room.result < c.args.limit * c.args.content.now.entry.size = rw (c.from.ensures, c.from-2.ensures) at c.if-from-room.false in
    let much : 16 * units_named old c.args.cell - 16 < c.args.limit * c.args.content.now.entry.size = omega arith in
    let result : c.from_residual.result ≡ Err c.in_err-enlarge.field-0.0 = search rules in
    rw result (c.in_err-enlarge.ensures.enlarges_index finds much)

pub returns-clause-reserves_index : goal.returns-clause-reserves_index
returns-clause-reserves_index g c = λ finds.
    let old = c.args.self.now.window.bytes in
    let here = bytes_of c.self.inside.window c.args.self.now.window (ap (λ (x : Stored). x.window) c.self.view_is) in
    let room = c.room.ensures c.args.cell (rw here at c.target-start.ensures) in
    let more : c.room.result < c.args.limit * c.args.content.now.entry.size = rw (c.from.ensures, c.from-2.ensures) at c.if-from-room.false in
    let much : 16 * units_named old c.args.cell - 16 < c.args.limit * c.args.content.now.entry.size = omega arith in
    c.in_ok-enlarge.ensures.enlarges_index finds much
