use Rattle.std.proofs.Common.{◌≡◌, List, ℤ, pos, [], ◌∷◌, w64, to_z, of_z, rules, refl, ap}
use Rattle.seg_spec.specs.Value.{Values, nil, cons, Int}
use Rattle.lezgauri_uses.specs.Tables.{table_value, picture_of, numbers_at, greeting_at}
use Rattle.lezgauri.specs.Place.{Place}
use Rattle.lezgauri_uses.proofs.TableLaws.{same_ok, text_assigned}
use Rattle.lezgauri_uses.proofs.SettingsLaws.{keeps}
use Rattle.lezgauri.specs.Images.{bytes_in}
use Rattle.std.proofs.lemmas.Int.{to_z-of_z}
use Rattle.lezgauri_uses.proofs.settings.write_settings.Goals as goal

pub returns : goal.returns
returns c =
    let made = c.in_ok-image.ensures in
    let at = made.0 in
    let parts = same_ok (c.in_ok-numbers.numbers, c.in_ok-numbers.greeting) (numbers_at at, greeting_at at) refl (c.in_ok-numbers.ensures at ([], nil) [] made.1) in
    let numbers : c.in_ok-numbers.numbers ≡ numbers_at at = ap (λ (x : Place × Place). x.0) parts in
    let place : c.in_ok-numbers.greeting ≡ greeting_at at = ap (λ (x : Place × Place). x.1) parts in
    let limit = to_z w64 (of_z w64 c.args.settings.now.limit) in
    let port = to_z w64 (of_z w64 c.args.settings.now.port) in
    let text = c.as_slice.result.now in
    let first = c.in_ok-set.ensures at ([], nil) [] made.1 numbers in
    let second = c.in_ok-set-2.ensures at (pos 1 ∷ [], cons (Int limit) nil) [] first numbers in
    let entries : List ℤ × Values = (pos 1 ∷ pos 2 ∷ [], cons (Int limit) (cons (Int port) nil)) in
    let third = text_assigned c.set-2.new.image at entries [] second c.assign.new.self c.in_ok-numbers.greeting place c.in_ok-assign.ensures.bytes text _ c.in_ok-assign.ensures.text in
    let last = (c.shrink.ensures.shrinks (picture_of at (table_value entries text)) third).segment in
    keeps c.into_bytes.result.items (bytes_in c.shrink.new.self) c.args.settings.now at limit port text c.into_bytes.ensures.bytes
    (to_z-of_z w64 c.args.settings.now.limit (search rules)) (to_z-of_z w64 c.args.settings.now.port (search rules)) c.as_slice.ensures.value last.held last.counted
