use Rattle.std.proofs.Common.{ℤ, subst, w64, to_z, of_z}
use Rattle.std.specs.Prelude.{OnOk}
use Rattle.std.proofs.lemmas.Int.{to_z-of_z}
use Rattle.lezgauri_uses.specs.Tables.{ContainsTable, with_key, after_set}
use Rattle.lezgauri_uses.proofs.TableLaws.{key_put, number_fits, stored_number, on_both}
use Rattle.lezgauri_uses.proofs.settings.set.Goals as goal

pub returns : goal.returns
returns c at entries greeting is place_is =
    let image = c.args.image.now in
    let mid = c.put.new.self in
    let key = to_z w64 (of_z w64 c.args.key) in
    let number = to_z w64 (of_z w64 c.args.number) in
    let place = c.in_ok-place.place in
    let put = key_put image at entries greeting is c.args.numbers place_is mid c.put.ensures.bytes key _ place.at c.in_ok-place.ensures.puts in
    let fits = number_fits mid at (with_key entries key) greeting put.0 key place.at put.1 in
    subst (λ (z : ℤ). OnOk c.store.result (ContainsTable c.store.new.self at (after_set entries z c.args.number) greeting)) (to_z-of_z w64 c.args.key c.ranges.key)
    (subst (λ (z : ℤ). OnOk c.store.result (ContainsTable c.store.new.self at (after_set entries key z) greeting)) (to_z-of_z w64 c.args.number c.ranges.number)
    (on_both c.store.result _ _ _ (c.store.ensures.stored fits) c.store.ensures.changes
    (λ number_is only. stored_number mid at (with_key entries key) greeting put.0 key place.at put.1 c.store.new.self number c.store.ensures.bytes only number_is)))
