use Rattle.std.proofs.Common.{◌≡◌, ℕ, ℤ, ◌∷◌, rules, Some, refl, sym, ap, ◌∙◌, subst, w64, to_z, of_z}
use Rattle.std.specs.Prelude.{OnOk}
use Rattle.std.proofs.lemmas.Int.{to_z-of_z}
use Rattle.seg_spec.specs.Types.{Table, Form, form_at}
use Rattle.seg_spec.specs.Value.{Int}
use Rattle.lezgauri.specs.Images.{types_of}
use Rattle.lezgauri.specs.Sequences.{item_type}
use Rattle.lezgauri_uses.specs.Caches.{HasCache, items_of, without_key}
use Rattle.lezgauri_uses.proofs.TableLaws.{on_ok, same_ok}
use Rattle.lezgauri_uses.proofs.CacheLaws.{has_list, list_form, is_map, map_there, key_removed, first_read, first_removed}
use Rattle.lezgauri_uses.proofs.cache.Cache.drop_oldest.Goals as goal

same_type : (T U : ℕ) → Some T ≡ Some U → T ≡ U
same_type T U is = cc

pub returns-clause-drops : goal.returns-clause-drops
returns-clause-drops c oldest keys entries is =
    let cache = c.args.self.now in
    let image = cache.image in
    let order = cache.order in
    let values = cache.values in
    let item = c.in_ok-item.field-0 in
    let type : 0 ≡ item.type_id = same_type 0 item.type_id (sym (ap item_type (list_form image order values (oldest ∷ keys) entries is)) ∙ c.in_ok-item.ensures.of_type) in
    let form : form_at (types_of image) item.type_id ≡ Some Form.i64 = subst (λ T. form_at (types_of image) T ≡ Some Form.i64) type (subst (λ (t : Table). form_at t 0 ≡ Some Form.i64) (sym is.is_open.table_is) refl) in
    let shown = c.in_ok-item.ensures.list 0 _ _ (has_list image order values (oldest ∷ keys) entries is) in
    let key = to_z w64 (of_z w64 c.in_ok-oldest.oldest) in
    let is_oldest : key ≡ oldest =
    to_z-of_z w64 c.in_ok-oldest.oldest (search rules) ∙ same_ok _ _ refl (c.in_ok-oldest.ensures.number form) ∙ first_read image order values oldest keys entries is item.at shown in
    let removed = key_removed image order values (oldest ∷ keys) entries is c.remove.new.self c.remove.ensures.bytes key _ c.remove.result
    (c.remove.ensures.removes 0 entries.0 entries.1 _ (is_map image order values (oldest ∷ keys) entries is) (map_there image order values (oldest ∷ keys) entries is).stands) in
    let now = without_key entries key in
    let popped = c.pop_front.ensures.popped 0 (Int oldest) (items_of keys) _ (has_list c.remove.new.self order values (oldest ∷ keys) now removed) in
    let last = first_removed c.remove.new.self order values oldest keys now removed c.pop_front.new.self c.pop_front.ensures.bytes popped.1 in
    subst (λ (z : ℤ). OnOk c.pop_front.result (HasCache c.pop_front.new.self order values keys (without_key entries z))) is_oldest (on_ok c.pop_front.result _ last)
