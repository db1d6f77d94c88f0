use Rattle.std.proofs.Common.{◌≡◌, Some, Ok, Err, ap, ◌∙◌}
use Rattle.lezgauri_c.proofs.opening_types.lezgauri_raw_open_types.Goals as goal

pub returns-in-Ok-clause-types : goal.returns-in-Ok-clause-types
returns-in-Ok-clause-types c sound done =
    let both : Ok c.in-Ok.table ≡ Ok sound.picture.table = c.in-Ok.ensures sound in
    let same : c.in-Ok.table ≡ sound.picture.table = cc in
    c.keep.ensures.types done ∙ ap Some (c.of.ensures ∙ same)

pub returns-in-Err-clause-done : goal.returns-in-Err-clause-done
returns-in-Err-clause-done c sound = absurd (let both : Err c.in-Err.fault ≡ Ok sound.picture.table = c.in-Err.ensures sound in cc)

pub returns-in-Err-clause-again : goal.returns-in-Err-clause-again
returns-in-Err-clause-again c sound there = absurd (let both : Err c.in-Err.fault ≡ Ok sound.picture.table = c.in-Err.ensures sound in cc)
