use Rattle.std.proofs.Common.{◌≡◌, sym, ap, ◌∙◌, subst, arith}
use Rattle.seg_spec.specs.Bytes.{word}
use Rattle.seg_spec.specs.Header.{allocator_word}
use Rattle.seg_spec.specs.Images.{upgraded}
use Rattle.seg_spec.specs.Window.{Placement, region_of, with_bytes}
use Rattle.seg_spec.proofs.Images.UpgradeLaws.{same_word}
use Rattle.seg_image.specs.Images.{segment_of}
use Rattle.seg_image.proofs.WholeRegionLaws.{whole_stays}
use Rattle.seg_image.proofs.image.Image.open.Goals as goal

pub returns-in-Ok-clause-allocator : goal.returns-in-Ok-clause-allocator
returns-in-Ok-clause-allocator g c =
    let old = c.in_ok-window.window.bytes in
    let image = rw c.view.ensures at c.in-Ok.ensures.image in
    let small = image.held.laid_out.header.allocator_is in
    let kept : word c.upgrade.new.w.bytes allocator_word ≡ word old allocator_word = ap (λ (p : Placement). word p.bytes allocator_word) c.upgrade.ensures ∙ same_word old allocator_word (omega arith) in
    ap (λ b. word b allocator_word) (sym c.in_ok-window.ensures.window) ∙ sym kept ∙ sym (c.in_window.ensures.allocator (rw kept small))

pub returns-in-Ok-clause-whole : goal.returns-in-Ok-clause-whole
returns-in-Ok-clause-whole g c =
    let old = c.in_ok-window.window in
    let now : (segment_of c.in_window.result).window ≡ with_bytes old (upgraded old.bytes) = c.in_window.ensures.window ∙ c.upgrade.ensures in
    subst (λ (p : Placement). region_of p ≡ p.bytes) (sym now) (whole_stays old (upgraded old.bytes) c.in_ok-window.ensures.whole)
