use Rattle.std.proofs.Common.{◌≡◌, List, ℕ, sym, ◌∙◌, subst}
use Rattle.seg_spec.specs.Images.{IsSound}
use Rattle.lezgauri_c.specs.Segments.{HasShrunk}
use Rattle.lezgauri_c.proofs.OneClient.{image_of}
use Rattle.lezgauri_c.proofs.SegmentLaws.{of_image}
use Rattle.lezgauri_c.proofs.size.lezgauri_raw_shrink.Goals as goal
use Rattle.lezgauri_c.proofs.size.lezgauri_raw_shrink.Goals.{in-Ok, in-Err}

pub returns-clause-shrunk : goal.returns-clause-shrunk
returns-clause-shrunk c done sound =
    let image = subst (λ (b : List ℕ). IsSound b) (sym c.take.ensures.bytes) sound in
    elim c.match-open_window.branch [
      | in-Ok w ↦
          let items : w.shrunk.result.items ≡ c.give_back.new.self.bytes = sym (c.give_back.ensures.bytes ∙ (rw w.result-is)) in
          let cut = of_image w.in-Ok.window.bytes c.take.result.items w.in-Ok.ensures.bytes w.in-Ok.types (λ b s. HasShrunk b w.shrunk.result.items s) w.shrunk.ensures.shrunk w.in-Ok.ensures.types in
          subst (λ (b : List ℕ). HasShrunk c.args.image.now.bytes b sound) items (subst (λ (b : List ℕ). (s : IsSound b) → HasShrunk b w.shrunk.result.items s) c.take.ensures.bytes cut sound)
      | in-Err w ↦ absurd (w.in-Err.ensures.fault image.picture.table (image_of c.take.result.items image))
    ]

pub returns-clause-done : goal.returns-clause-done
returns-clause-done c sound =
    let image = subst (λ (b : List ℕ). IsSound b) (sym c.take.ensures.bytes) sound in
    elim c.match-open_window.branch [
      | in-Ok w ↦ rw w.result-is
      | in-Err w ↦ absurd (w.in-Err.ensures.fault image.picture.table (image_of c.take.result.items image))
    ]
