use Rattle.std.proofs.Common.{◌≡◌, ℤ, refl, ap, ◌∙◌, w64, of_z, SFits}
use Rattle.std.proofs.lemmas.Int.{to_z-of_z}
use Rattle.seg_spec.specs.Bytes.{signed}
use Rattle.seg_spec.proofs.BytesLaws.{number-set_same}
use Rattle.seg_spec.proofs.Images.RootWriteLaws.{set_number-changes}
use Rattle.lezgauri_c.proofs.storing.put_number.Goals as goal

signed_back : (z : ℤ) → SFits w64 z → signed (of_z w64 z) ≡ z
unfolding signed
signed_back z fits = to_z-of_z w64 z fits

pub returns-clause-stored : goal.returns-clause-stored
returns-clause-stored c fits =
    let same : c.cast_unsigned.result ≡ of_z w64 c.args.number = c.cast_unsigned.ensures ∙ ap (of_z w64) (to_z-of_z w64 c.args.number c.ranges.number) in
    let read = number-set_same 8 c.args.image.now c.args.at c.cast_unsigned.result fits c.cast_unsigned.type_inv in
    (refl, rw c.set_long.ensures (ap signed (read ∙ same) ∙ signed_back c.args.number c.ranges.number))

pub returns-clause-changes : goal.returns-clause-changes
returns-clause-changes c = rw c.set_long.ensures (set_number-changes 8 c.args.image.now c.args.at c.cast_unsigned.result)
