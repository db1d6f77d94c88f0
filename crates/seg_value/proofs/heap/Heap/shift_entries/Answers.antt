use Rattle.std.proofs.Common.{◌≡◌, ℕ, ◌+◌, ◌*◌, ◌≤◌, ap, ◌∙◌, arith, subst}
use Rattle.seg_spec.specs.Window.{with_bytes}
use Rattle.seg_spec.specs.Bytes.{slice, put}
use Rattle.seg_spec.specs.Cells.{IsWithin, Shifts}
use Rattle.seg_cells.specs.declared.entry.Held.TheVariants as held
use Rattle.seg_cells.specs.Entries.{IsEntryOf}
use Rattle.seg_cells.specs.Pointers.{MovesPointers}
use Rattle.seg_cells.proofs.Pointers.{pointers_moved}
use Rattle.seg_value.specs.Stored.{Stored}
use Rattle.seg_cells.proofs.Shifts.{shifts_by, raw_within}
use Rattle.seg_spec.proofs.WindowLaws.{bytes_of}
use Rattle.seg_value.proofs.heap.Heap.shift_entries.Goals as goal

pub returns-clause-text : goal.returns-clause-text
returns-clause-text g c = subst (λ (s : Stored). c.args.entry.held ≡ held.Bytes →
    IsWithin s.window.bytes c.args.from (c.args.n * c.args.entry.size) → IsWithin s.window.bytes c.args.to (c.args.n * c.args.entry.size) →
    c.point_each_again.new.w.bytes ≡ put s.window.bytes c.args.to (slice s.window.bytes c.args.from (c.args.n * c.args.entry.size)))
    c.self.view_is (λ held from_in to_in.
    let old = c.self.inside.window in
    let m_is : c.saturating_mul-bytes.result ≡ c.args.n * c.args.entry.size = omega (arith, c.saturating_mul-bytes.ensures, from_in.fits, from_in.small) in
    let moved = c.move_within.ensures.moved (omega (arith, from_in.fits)) in
    bytes_of c.point_each_again.new.w c.move_within.new.self (c.point_each_again.ensures.bytes held)
    ∙ bytes_of c.move_within.new.self (with_bytes old (put old.bytes c.args.to (slice old.bytes c.args.from c.saturating_mul-bytes.result))) moved
    ∙ ap (λ k. put old.bytes c.args.to (slice old.bytes c.args.from k)) m_is)

pub returns-clause-shifted : goal.returns-clause-shifted
returns-clause-shifted g c = subst (λ (s : Stored). (U before : ℕ) → IsEntryOf s.types before U c.args.entry →
    IsWithin s.window.bytes c.args.from (c.args.n * c.args.entry.size) → IsWithin s.window.bytes c.args.to (c.args.n * c.args.entry.size) →
    Shifts s.window.bytes c.point_each_again.new.w.bytes s.types before U c.args.entry.size c.args.from c.args.to c.args.n)
    c.self.view_is (λ U before is from_in to_in.
    let old = c.self.inside.window in
    let m_is : c.saturating_mul-bytes.result ≡ c.args.n * c.args.entry.size = omega (arith, c.saturating_mul-bytes.ensures, from_in.fits, from_in.small) in
    let moved = c.move_within.ensures.moved (omega (arith, from_in.fits)) in
    let raw_is = bytes_of c.move_within.new.self (with_bytes old (put old.bytes c.args.to (slice old.bytes c.args.from c.saturating_mul-bytes.result))) moved in
    let changed = (rw c.types.ensures at c.point_each_again.ensures.values) U is.held_is (omega (arith, is.size_is, is.before_is))
    (raw_within old.bytes c.move_within.new.self.bytes c.args.from c.args.to c.saturating_mul-bytes.result (c.args.n * c.args.entry.size) raw_is to_in) in
    shifts_by old.bytes c.move_within.new.self.bytes c.point_each_again.new.w.bytes c.self.inside.layouts U before c.args.entry.before
    c.args.entry.size c.args.from c.args.to c.args.n c.saturating_mul-bytes.result c.distance-distance.result
    m_is raw_is is.before_is c.distance-distance.ensures changed)

pub returns-clause-pointers : goal.returns-clause-pointers
returns-clause-pointers g c = subst (λ (s : Stored). c.args.entry.held ≡ held.Pointer → c.args.entry.before + 4 ≤ c.args.entry.size →
    IsWithin s.window.bytes c.args.from (c.args.n * c.args.entry.size) → IsWithin s.window.bytes c.args.to (c.args.n * c.args.entry.size) →
    MovesPointers s.window.bytes c.point_each_again.new.w.bytes c.args.entry.size c.args.entry.before c.args.from c.args.to c.args.n)
    c.self.view_is (λ held fits from_in to_in.
    let old = c.self.inside.window in
    let m_is : c.saturating_mul-bytes.result ≡ c.args.n * c.args.entry.size = omega (arith, c.saturating_mul-bytes.ensures, from_in.fits, from_in.small) in
    let moved = c.move_within.ensures.moved (omega (arith, from_in.fits)) in
    let raw_is = bytes_of c.move_within.new.self (with_bytes old (put old.bytes c.args.to (slice old.bytes c.args.from c.saturating_mul-bytes.result))) moved in
    let again = c.point_each_again.ensures.pointers held fits
    (raw_within old.bytes c.move_within.new.self.bytes c.args.from c.args.to c.saturating_mul-bytes.result (c.args.n * c.args.entry.size) raw_is to_in) in
    pointers_moved old.bytes c.move_within.new.self.bytes c.point_each_again.new.w.bytes c.args.entry.size c.args.entry.before c.args.from c.args.to c.args.n
    c.saturating_mul-bytes.result c.distance-distance.result fits m_is raw_is c.distance-distance.ensures from_in to_in again)
