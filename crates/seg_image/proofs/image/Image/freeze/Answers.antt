use Rattle.std.proofs.Common.{rules, ◌≡◌, Some, ◌∙◌}
use Rattle.seg_spec.specs.Pointer.{target}
use Rattle.seg_image.specs.Images.{bytes_in}
use Rattle.seg_image.proofs.image.Image.freeze.Goals as goal

pub returns-in-Seq-clause-freezes : goal.returns-in-Seq-clause-freezes
returns-in-Seq-clause-freezes g c =
    let found : Some c.in_ok-object.object ≡ target (bytes_in c.args.self.now) c.args.own.at = search rules in
    let found_in = rw (c.in-Seq.is, ← c.heap_mut.ensures.value) at found in
    rw (c.in-Seq.is, ← c.heap_mut.ensures.value) (λ U object v w blocks inside theirs kept now owns at s loose beside small.
    let both : Some c.in_ok-object.object ≡ Some object = found_in ∙ at in
    let same : object ≡ c.in_ok-object.object = cc in
    rw same (c.freeze_own.ensures.freezes U v w blocks inside theirs kept now owns s (rw same at loose) (rw same at beside) small))

pub returns-in-Best-clause-freezes : goal.returns-in-Best-clause-freezes
returns-in-Best-clause-freezes g c =
    let found : Some c.in_ok-object.object ≡ target (bytes_in c.args.self.now) c.args.own.at = search rules in
    let found_in = rw (c.in-Best.is, ← c.heap_mut-in-Best.ensures.value) at found in
    rw (c.in-Best.is, ← c.heap_mut-in-Best.ensures.value) (λ U object v w blocks inside theirs kept now owns at s loose beside small.
    let both : Some c.in_ok-object.object ≡ Some object = found_in ∙ at in
    let same : object ≡ c.in_ok-object.object = cc in
    rw same (c.freeze_own-in-Best.ensures.freezes U v w blocks inside theirs kept now owns s (rw same at loose) (rw same at beside) small))
