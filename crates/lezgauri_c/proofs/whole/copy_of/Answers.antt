use Rattle.std.proofs.Common.{◌≡◌, ◌≤◌, ℕ, List, sym, ap, ◌∙◌, subst}
use Rattle.seg_spec.specs.Bytes.{word}
use Rattle.seg_spec.specs.Header.{allocator_word}
use Rattle.seg_spec.specs.Window.{Placement}
use Rattle.lezgauri.specs.Images.{bytes_in}
use Rattle.lezgauri_c.proofs.OpenLaws.{opened_on}
use Rattle.lezgauri_c.proofs.whole.copy_of.Goals as goal

pub returns-in-Ok-clause-sound : goal.returns-in-Ok-clause-sound
returns-in-Ok-clause-sound c is =
    let copy = c.in_window.result in
    let window : bytes_in copy ≡ c.in-Ok.window.bytes = ap (λ (w : Placement). w.bytes) c.in_window.ensures.window in
    let here : bytes_in copy ≡ c.args.image.now = window ∙ c.in-Ok.ensures.bytes ∙ c.in_ok-from_slice.ensures.items in
    record {
      picture = is.picture;
      held = opened_on copy c.args.image.now is.picture is.held is.counted here (c.in_window.ensures.types ∙ c.copy.ensures ∙ sym is.table_is)
          (λ few. let same_word : word (bytes_in copy) allocator_word ≡ word c.in-Ok.window.bytes allocator_word = ap (λ (b : List ℕ). word b allocator_word) window in
          c.in_window.ensures.allocator (subst (λ n. n ≤ 1) same_word few) ∙ sym same_word);
      none_loose = is.none_loose;
    }
