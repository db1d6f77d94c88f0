use Rattle.std.proofs.Common.{◌≡◌, ◌+◌, ◌≤◌, length, ap, ◌∙◌, subst, ℤ, w64, of_z, SFits}
use Rattle.std.proofs.lemmas.Int.{to_z-of_z}
use Rattle.seg_spec.specs.Window.{with_bytes}
use Rattle.seg_spec.specs.Bytes.{set_long, signed, signed_long, ChangesOnly}
use Rattle.seg_spec.proofs.BytesLaws.{number-set_same}
use Rattle.seg_spec.proofs.Images.RootWriteLaws.{set_number-changes}
use Rattle.seg_value.specs.Stored.{Stored}
use Rattle.seg_spec.proofs.WindowLaws.{bytes_of}
use Rattle.seg_value.proofs.heap.Heap.store.Goals as goal

signed_back : (z : ℤ) → SFits w64 z → signed (of_z w64 z) ≡ z
unfolding signed
signed_back z h = to_z-of_z w64 z h

pub returns-clause-stored : goal.returns-clause-stored
returns-clause-stored g c = subst (λ (s : Stored). c.args.at + 8 ≤ length s.window.bytes → signed_long c.put64.new.self.bytes c.args.at ≡ c.args.value) c.self.view_is (λ fits.
    let old = c.self.inside.window in
    let is = bytes_of c.put64.new.self (with_bytes old (set_long old.bytes c.args.at c.cast_unsigned.result)) c.put64.ensures in
    let same : c.cast_unsigned.result ≡ of_z w64 c.args.value = c.cast_unsigned.ensures ∙ ap (of_z w64) (to_z-of_z w64 c.args.value c.ranges.value) in
    let read = number-set_same 8 old.bytes c.args.at c.cast_unsigned.result fits c.cast_unsigned.type_inv in
    rw is (ap signed (read ∙ same) ∙ signed_back c.args.value c.ranges.value))

pub returns-clause-changes : goal.returns-clause-changes
returns-clause-changes g c = subst (λ (s : Stored). ChangesOnly s.window.bytes c.put64.new.self.bytes c.args.at 8) c.self.view_is (
    let old = c.self.inside.window in
    let is = bytes_of c.put64.new.self (with_bytes old (set_long old.bytes c.args.at c.cast_unsigned.result)) c.put64.ensures in
    rw is (set_number-changes 8 old.bytes c.args.at c.cast_unsigned.result))
