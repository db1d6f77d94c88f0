use Rattle.std.proofs.Common.{◌≡◌, List, ℕ, sym, ap, ◌∙◌, subst}
use Rattle.seg_spec.specs.Images.{IsSound, upgraded}
use Rattle.seg_spec.proofs.Images.UpgradeLaws.{upgraded_sound}
use Rattle.lezgauri_c.proofs.OneClient.{image_of}
use Rattle.lezgauri_c.proofs.changing_types.lezgauri_raw_upgrade.Goals as goal
use Rattle.lezgauri_c.proofs.changing_types.lezgauri_raw_upgrade.Goals.{in-Ok, in-Err}

pub returns-clause-sound : goal.returns-clause-sound
returns-clause-sound c sound =
    let image = subst (λ (b : List ℕ). IsSound b) (sym c.take.ensures.bytes) sound in
    elim c.match-open_window.branch [
      | in-Ok w ↦
          let items : upgraded c.args.image.now.bytes ≡ c.give_back.new.self.bytes =
          sym (c.give_back.ensures.bytes ∙ (rw w.result-is) ∙ w.upgraded.ensures.upgraded ∙ ap upgraded (w.in-Ok.ensures.bytes ∙ c.take.ensures.bytes)) in
          subst (λ (b : List ℕ). IsSound b) items (upgraded_sound c.args.image.now.bytes sound)
      | in-Err w ↦ absurd (w.in-Err.ensures.fault image.picture.table (image_of c.take.result.items image))
    ]

pub returns-clause-done : goal.returns-clause-done
returns-clause-done c sound =
    let image = subst (λ (b : List ℕ). IsSound b) (sym c.take.ensures.bytes) sound in
    elim c.match-open_window.branch [
      | in-Ok w ↦ rw w.result-is
      | in-Err w ↦ absurd (w.in-Err.ensures.fault image.picture.table (image_of c.take.result.items image))
    ]
