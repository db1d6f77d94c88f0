-- An image that keeps settings.
use Rattle.std.proofs.Common.{◌≡◌, ℕ, List, [], ◌∷◌, sym, ap, ◌∙◌, subst}
use Rattle.std.specs.Prelude.{ℤ, pos}
use Rattle.seg_spec.specs.Bytes.{word}
use Rattle.seg_spec.specs.Header.{next_word}
use Rattle.seg_spec.specs.Value.{Values, nil, cons, Int}
use Rattle.seg_spec.specs.Sound.{Picture, IsHeld}
use Rattle.seg_spec.specs.Counting.{AreCounted}
use Rattle.lezgauri_uses.specs.Tables.{table_value, picture_of}
use Rattle.lezgauri_uses.specs.Settings.{entries_of, KeepsSettings}
use Rattle.lezgauri_uses.specs.declared.settings.Settings.{Settings}

abbrev numbers : ℤ → ℤ → List ℤ × Values
numbers limit port = (pos 1 ∷ pos 2 ∷ [], cons (Int limit) (cons (Int port) nil))

module _ (image bytes : List ℕ) (settings : Settings) (at : ℕ) (limit port : ℤ) (text : List ℕ) (image_is : image ≡ bytes) (limit_is : limit ≡ settings.limit) (port_is : port ≡ settings.port)
    (text_is : text ≡ settings.greeting.items) where
  same_picture : picture_of at (table_value (numbers limit port) text) ≡ picture_of at (table_value (entries_of settings) settings.greeting.items)
  same_picture =
      ap (λ (z : ℤ). picture_of at (table_value (numbers z port) text)) limit_is ∙ ap (λ (z : ℤ). picture_of at (table_value (numbers settings.limit z) text)) port_is
      ∙ ap (λ (xs : List ℕ). picture_of at (table_value (entries_of settings) xs)) text_is

  pub keeps : IsHeld bytes (picture_of at (table_value (numbers limit port) text)) → AreCounted (word bytes next_word) (picture_of at (table_value (numbers limit port) text)) → KeepsSettings image settings
  keeps held counted = record {
    at = at;
    held = subst (λ (p : Picture). IsHeld image p) same_picture (subst (λ (bs : List ℕ). IsHeld bs (picture_of at (table_value (numbers limit port) text))) (sym image_is) held);
    counted = subst (λ (p : Picture). AreCounted (word image next_word) p) same_picture
        (subst (λ (bs : List ℕ). AreCounted (word bs next_word) (picture_of at (table_value (numbers limit port) text))) (sym image_is) counted);
  }
