use Rattle.std.proofs.Common.{◌≡◌, ℤ, w64, to_z, of_z, Some, None, Ok, refl, sym, ap, ◌∙◌, subst}
use Rattle.std.specs.Prelude.{option_and_then}
use Rattle.std.proofs.lemmas.Int.{to_z-of_z}
use Rattle.seg_spec.specs.Types.{Table, Form, form_at}
use Rattle.seg_spec.specs.Value.{Int, nth}
use Rattle.seg_spec.specs.Items.{key_place}
use Rattle.lezgauri.specs.Images.{types_of}
use Rattle.lezgauri_uses.specs.Tables.{number_at}
use Rattle.lezgauri_uses.proofs.CacheLaws.{finds_key, value_type, value_read, key_there}
use Rattle.lezgauri_uses.proofs.cache.Cache.get.Goals as goal

pub returns-in_err-get-clause-has : goal.returns-in_err-get-clause-has
returns-in_err-get-clause-has c keys entries number is there =
    let cache = c.args.self.now in
    let key = to_z w64 (of_z w64 c.args.key) in
    let none : key_place entries.0 key ≡ None = finds_key cache.image cache.order cache.values keys entries is key None c.in_err-get.ensures.finds in
    let lacks : number_at entries key ≡ None = ap (option_and_then (λ i. nth entries.1 i)) none in
    let has = subst (λ (z : ℤ). number_at entries z ≡ Some (Int number)) (sym (to_z-of_z w64 c.args.key c.ranges.key)) there in
    absurd (let both = sym lacks ∙ has in cc)

pub returns-clause-has : goal.returns-clause-has
returns-clause-has c keys entries number is there =
    let cache = c.args.self.now in
    let image = cache.image in
    let key = to_z w64 (of_z w64 c.args.key) in
    let place = c.in_ok-get.field-0 in
    let has = subst (λ (z : ℤ). number_at entries z ≡ Some (Int number)) (sym (to_z-of_z w64 c.args.key c.ranges.key)) there in
    let leads = finds_key image cache.order cache.values keys entries is key (Some place.at) c.in_ok-get.ensures.finds in
    let value : 0 ≡ place.type_id = value_type image cache.order cache.values keys entries is place.type_id c.in_ok-get.ensures.of_type in
    let form : form_at (types_of image) place.type_id ≡ Some Form.i64 = subst (λ T. form_at (types_of image) T ≡ Some Form.i64) value (subst (λ (t : Table). form_at t 0 ≡ Some Form.i64) (sym is.is_open.table_is) refl) in
    c.load.ensures.number form ∙ ap Ok (value_read image cache.order cache.values keys entries is key place.at leads number has)

pub returns-clause-lacks : goal.returns-clause-lacks
returns-clause-lacks c keys entries is none =
    let cache = c.args.self.now in
    let key = to_z w64 (of_z w64 c.args.key) in
    let place = c.in_ok-get.field-0 in
    let lacks = subst (λ (z : ℤ). key_place entries.0 z ≡ None) (sym (to_z-of_z w64 c.args.key c.ranges.key)) none in
    let leads = finds_key cache.image cache.order cache.values keys entries is key (Some place.at) c.in_ok-get.ensures.finds in
    absurd (key_there cache.image cache.order cache.values keys entries is key place.at leads lacks)
