use Rattle.std.proofs.Common.{◌≡◌, ◌≤◌, Some, List, ℕ, length, sym, ap, ◌∙◌, subst}
use Rattle.seg_spec.specs.Bytes.{word}
use Rattle.seg_spec.specs.Header.{allocator_word}
use Rattle.seg_spec.specs.Window.{Placement, region_of}
use Rattle.seg_spec.specs.Sound.{HasHeader}
use Rattle.lezgauri.specs.Images.{bytes_in, types_of}
use Rattle.lezgauri_c.specs.KeptImages.{table_kept}
use Rattle.lezgauri_c.specs.Values.{table_in}
use Rattle.lezgauri_c.proofs.OpenLaws.{opened_on}
use Rattle.lezgauri_c.proofs.changing.open_image.Goals as goal

pub returns-in-Ok-clause-opened : goal.returns-in-Ok-clause-opened
returns-in-Ok-clause-opened c =
    let image = c.enter.new.self.image in
    let window : bytes_in image ≡ c.in-Ok.window.bytes = ap (λ (w : Placement). w.bytes) c.enter.ensures.window in
    let here : bytes_in image ≡ c.args.image.now.bytes = window ∙ c.in-Ok.ensures.bytes ∙ c.take-bytes.ensures.bytes in
    let types : types_of image ≡ table_kept c.in-Some.kept.value = c.enter.ensures.types ∙ ap table_kept c.deref_mut.ensures.value in
    let kept : table_in c.args.types.now ≡ Some (types_of image) = c.in-Some.ensures.types ∙ ap Some (sym types) in
    record {
      bytes = here;
      region = ap region_of c.enter.ensures.window ∙ c.in-Ok.ensures.region ∙ c.take-bytes.ensures.bytes;
      base = ap (λ (w : Placement). length w.before) c.enter.ensures.window ∙ c.in-Ok.ensures.base;
      home = ap (λ (w : Placement). w.home) c.enter.ensures.window ∙ c.in-Ok.ensures.home ∙ c.take-bytes.ensures.home;
      types_are = kept;
      opened = λ sound same.
          let both : Some (types_of image) ≡ Some sound.picture.table = sym kept ∙ same in
          let table : types_of image ≡ sound.picture.table = cc in
          opened_on image c.args.image.now.bytes sound.picture sound.held sound.counted here table
          (λ few. let same_word : word (bytes_in image) allocator_word ≡ word c.in-Ok.window.bytes allocator_word = ap (λ (b : List ℕ). word b allocator_word) window in
          c.enter.ensures.allocator (subst (λ n. n ≤ 1) same_word few) ∙ sym same_word);
    }

pub returns-in-Err-clause-unsound : goal.returns-in-Err-clause-unsound
returns-in-Err-clause-unsound c sound same =
    c.in-Err.ensures.fault (subst (λ (b : List ℕ). HasHeader b) (sym c.take-bytes.ensures.bytes) sound.held.laid_out.header)
