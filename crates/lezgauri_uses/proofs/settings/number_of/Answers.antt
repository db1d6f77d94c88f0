use Rattle.std.proofs.Common.{◌≡◌, ℤ, w64, to_z, of_z, Some, None, Ok, refl, sym, ap, ◌∙◌, subst}
use Rattle.std.specs.Prelude.{option_and_then}
use Rattle.std.proofs.lemmas.Int.{to_z-of_z}
use Rattle.seg_spec.specs.Types.{Table, Form, form_at}
use Rattle.seg_spec.specs.Value.{Int, nth}
use Rattle.seg_spec.specs.Items.{key_place}
use Rattle.lezgauri.specs.Images.{types_of}
use Rattle.lezgauri_uses.specs.Tables.{number_at}
use Rattle.lezgauri_uses.proofs.TableLaws.{finds_key, value_type, read_number}
use Rattle.lezgauri_uses.proofs.settings.number_of.Goals as goal

pub returns-in_err-get : goal.returns-in_err-get
returns-in_err-get c at entries greeting number is place_is there =
    let key = to_z w64 (of_z w64 c.args.key) in
    let same = to_z-of_z w64 c.args.key c.ranges.key in
    let none : key_place entries.0 key ≡ None = finds_key c.args.image.now at entries greeting is c.args.numbers place_is key None c.in_err-get.ensures.finds in
    let lacks : number_at entries key ≡ None = ap (option_and_then (λ i. nth entries.1 i)) none in
    let has = subst (λ (z : ℤ). number_at entries z ≡ Some (Int number)) (sym same) there in
    absurd (let both = sym lacks ∙ has in cc)

pub returns : goal.returns
returns c at entries greeting number is place_is there =
    let image = c.args.image.now in
    let place = c.in_ok-get.field-0 in
    let key = to_z w64 (of_z w64 c.args.key) in
    let has = subst (λ (z : ℤ). number_at entries z ≡ Some (Int number)) (sym (to_z-of_z w64 c.args.key c.ranges.key)) there in
    let leads = finds_key image at entries greeting is c.args.numbers place_is key (Some place.at) c.in_ok-get.ensures.finds in
    let value : 0 ≡ place.type_id = value_type image at entries greeting is c.args.numbers place_is place.type_id c.in_ok-get.ensures.of_type in
    let form : form_at (types_of image) place.type_id ≡ Some Form.i64 = subst (λ T. form_at (types_of image) T ≡ Some Form.i64) value (subst (λ (t : Table). form_at t 0 ≡ Some Form.i64) (sym is.table_is) refl) in
    c.load.ensures.number form ∙ ap Ok (read_number image at entries greeting is key place.at leads number has)
