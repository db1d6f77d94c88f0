use Rattle.std.proofs.Common.{◌≡◌, ◌∙◌, Result, Ok, Err, List, ℕ, sym, subst, arith}
use Rattle.std.proofs.lemmas.Result.{IfOk-at_ok}
use Rattle.std.proofs.lemmas.Grind.{common_steps}
use Rattle.seg_spec.specs.Types.{Table}
use Rattle.seg_spec.specs.Images.{IsSound}
use Rattle.seg_spec.specs.Window.{Placement}
use Rattle.seg_raw.specs.declared.fault.Fault.{Fault}
use Rattle.lezgauri_c.specs.Segments.{HasGrown}
use Rattle.lezgauri_c.proofs.OneClient.{image_of}
use Rattle.lezgauri_c.proofs.size.grow.Goals as goal

pub returns-in-Ok-types_of-clause-grown : goal.returns-in-Ok-types_of-clause-grown
returns-in-Ok-types_of-clause-grown g c =
    let window = c.unwrap-window.result in
    let here : window.bytes ≡ c.args.image.items = grind (arith, common_steps) in
    let there = λ (sound : IsSound window.bytes).
    let table = sound.picture.table in
    let got : c.types_of.result ≡ Ok table = c.types_of.ensures table (image_of window.bytes sound) in
    let was : c.types_of.result ≡ Ok c.in-Ok-types_of.types = c.in-Ok-types_of.is in
    let same : c.in-Ok-types_of.types ≡ table = cc in
    c.grown.ensures.grown sound same in
    subst (λ (b : List ℕ). (sound : IsSound b) → HasGrown b c.grown.result.items c.args.extra sound) here there

-- a result isn't both
apart : (r : Result Table Fault) (table : Table) (f : Fault) → r ≡ Ok table → r ≡ Err f → ⊥
apart r table f ok err = cc

pub returns-in-Err-clause-done : goal.returns-in-Err-clause-done
returns-in-Err-clause-done g c sound =
    let window = c.unwrap-window.result in
    let here : window.bytes ≡ c.args.image.items = grind (arith, common_steps) in
    let image : IsSound window.bytes = subst (λ (b : List ℕ). IsSound b) (sym here) sound in
    absurd (apart c.types_of.result image.picture.table c.in-Err.field-0 (c.types_of.ensures image.picture.table (image_of window.bytes image)) c.in-Err.is)

pub returns-in-Ok-types_of-clause-home : goal.returns-in-Ok-types_of-clause-home
returns-in-Ok-types_of-clause-home g c =
    let placed = IfOk-at_ok (λ (w : Placement). w.home ≡ c.from_vec.result.home) c.unwrap-window.ensures c.place.ensures.home in
    c.grown.ensures.home ∙ placed ∙ c.from_vec.ensures.home ∙ c.lengthen.ensures.home

pub returns-in-Err-clause-home : goal.returns-in-Err-clause-home
returns-in-Err-clause-home g c =
    let placed = IfOk-at_ok (λ (w : Placement). w.home ≡ c.from_vec.result.home) c.unwrap-window.ensures c.place.ensures.home in
    c.into_bytes.ensures.home ∙ placed ∙ c.from_vec.ensures.home ∙ c.lengthen.ensures.home
