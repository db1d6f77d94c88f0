use Rattle.std.proofs.Common.{◌≡◌, false, Ok, Err, is_err, sym, ◌∙◌}
use Rattle.std.specs.Prelude.{Result, OnOk}
use Rattle.seg_image.proofs.image.Image.destroy_unique.Goals as goal

on_ok : {X E : Type 0} (r : Result X E) (P : Type 0) → OnOk r P → is_err r ≡ false → P
on_ok (Ok x) P h e = h
on_ok (Err x) P h e = absurd (cc)

pub returns-in-Seq-clause-loses : goal.returns-in-Seq-clause-loses
returns-in-Seq-clause-loses g c =
    rw c.in-Seq.is (λ picture held done. c.destroy_unique.ensures.loses picture held (on_ok c.known.result _ c.known.ensures.few (sym c.is_err.ensures.value ∙ c.if-is_err.false)) done)

pub returns-in-Best-clause-loses : goal.returns-in-Best-clause-loses
returns-in-Best-clause-loses g c =
    rw c.in-Best.is (λ picture held done. c.destroy_unique-in-Best.ensures.loses picture held (on_ok c.known.result _ c.known.ensures.few (sym c.is_err.ensures.value ∙ c.if-is_err.false)) done)
