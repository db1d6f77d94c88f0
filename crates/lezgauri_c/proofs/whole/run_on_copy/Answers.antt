use Rattle.std.proofs.Common.{◌∷◌, [], ◌∙◌, List, ℕ, sym, subst}
use Rattle.lezgauri.specs.Images.{segment_of, bytes_in, types_of}
use Rattle.lezgauri.proofs.OpenedLaws.{image_sound}
use Rattle.client_vm.specs.Outcomes.{HasOutcome}
use Rattle.lezgauri_c.specs.Calls.{whole_job, effect_of_one}
use Rattle.lezgauri_c.proofs.RunLaws.{outcome, wrong}
use Rattle.lezgauri_c.proofs.whole.run_on_copy.Goals as goal

pub returns-in-Ok-clause-outcome : goal.returns-in-Ok-clause-outcome
returns-in-Ok-clause-outcome g c is =
    let image = c.args.image.now in
    let text = c.args.client.now in
    let copy = c.in_ok-copy.copy in
    let effect = λ (saved : List ℕ). effect_of_one (g.W.Sink.taken c.args.sink.now) (g.W.Sink.taken c.verify_and_run.new.sink) saved c.in-Ok.told in
    subst (λ (saved : List ℕ). HasOutcome (whole_job image (text ∷ []) c.args.input.now) (effect saved)) (sym c.into_bytes.ensures.bytes)
    (outcome image (image_sound image c.args.types.now is) text c.args.input.now (segment_of copy) (segment_of c.verify_and_run.new.image) (effect (bytes_in c.verify_and_run.new.image))
    c.in_ok-copy.ensures.bytes c.in_ok-copy.ensures.region c.in_ok-copy.ensures.base (c.in-Ok.ensures.runs (c.in_ok-copy.ensures.sound is)))

pub returns-in-Err-clause-refused : goal.returns-in-Err-clause-refused
returns-in-Err-clause-refused g c is =
    wrong c.args.image.now (image_sound c.args.image.now c.args.types.now is) c.args.client.now (types_of c.in_ok-copy.copy) (c.in_ok-copy.ensures.types ∙ sym is.table_is) c.in-Err.refused c.in-Err.ensures.refused
