use Rattle.std.proofs.Common.{List, ℕ, sym, subst}
use Rattle.seg_spec.specs.Images.{IsSound}
use Rattle.lezgauri_c.proofs.OneClient.{image_of}
use Rattle.lezgauri_c.proofs.size.lezgauri_raw_free_memory.Goals as goal
use Rattle.lezgauri_c.proofs.size.lezgauri_raw_free_memory.Goals.{in-Ok, in-Err}

pub returns-clause-done : goal.returns-clause-done
returns-clause-done c sound =
    let image = subst (λ (b : List ℕ). IsSound b) (sym c.take.ensures.bytes) sound in
    elim c.match-open_window.branch [
      | in-Ok w ↦ rw w.result-is
      | in-Err w ↦ absurd (w.in-Err.ensures.fault image.picture.table (image_of c.take.result.items image))
    ]
