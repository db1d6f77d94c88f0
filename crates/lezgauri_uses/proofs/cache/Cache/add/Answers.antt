use Rattle.std.proofs.Common.{◌≡◌, ℤ, [], ◌∷◌, ◌++◌, pos, Some, w64, to_z, of_z, subst}
use Rattle.std.specs.Prelude.{OnOk}
use Rattle.std.proofs.lemmas.Int.{to_z-of_z}
use Rattle.seg_spec.specs.Value.{Int}
use Rattle.lezgauri_uses.specs.Tables.{with_key, after_set, number_at}
use Rattle.lezgauri_uses.specs.Caches.{HasCache}
use Rattle.lezgauri_uses.proofs.TableLaws.{on_both, on_ok}
use Rattle.lezgauri_uses.proofs.CacheLaws.{key_put, key_has, value_fits, value_stored, has_list, item_added, last_fits, last_stored}
use Rattle.lezgauri_uses.proofs.cache.Cache.add.Goals as goal

pub returns-clause-adds : goal.returns-clause-adds
returns-clause-adds c keys entries is =
    let cache = c.args.self.now in
    let order = cache.order in
    let values = cache.values in
    let key = to_z w64 (of_z w64 c.args.key) in
    let number = to_z w64 (of_z w64 c.args.number) in
    let put = key_put cache.image order values keys entries is c.put.new.self c.put.ensures.bytes key _ c.in_ok-value.value.at c.in_ok-value.ensures.puts in
    let fits = value_fits c.put.new.self order values keys (with_key entries key) put.0 key c.in_ok-value.value.at put.1 in
    let stored = value_stored c.put.new.self order values keys (with_key entries key) put.0 key c.in_ok-value.value.at put.1 c.store.new.self number c.store.ensures.bytes c.in_ok-store.ensures.changes
    (c.in_ok-store.ensures.stored fits) in
    let now = after_set entries key number in
    let pushed = item_added c.store.new.self order values keys now stored c.push_back.new.self c.push_back.ensures.bytes c.in_ok-last.last.at (c.in_ok-last.ensures.list 0 _ _ (has_list c.store.new.self order values keys now stored)) in
    let last = last_fits c.push_back.new.self order values keys (pos 0) now pushed.0 c.in_ok-last.last.at pushed.1 in
    subst (λ (z : ℤ). OnOk c.store-2.result (HasCache c.store-2.new.self order values (keys ++ z ∷ []) (after_set entries z c.args.number))) (to_z-of_z w64 c.args.key c.ranges.key)
    (subst (λ (z : ℤ). OnOk c.store-2.result (HasCache c.store-2.new.self order values (keys ++ key ∷ []) (after_set entries key z))) (to_z-of_z w64 c.args.number c.ranges.number)
    (on_both c.store-2.result _ _ _ (c.store-2.ensures.stored last) c.store-2.ensures.changes
    (λ key_is only. last_stored c.push_back.new.self order values keys (pos 0) now pushed.0 c.in_ok-last.last.at pushed.1 c.store-2.new.self key c.store-2.ensures.bytes only key_is)))

pub returns-clause-has : goal.returns-clause-has
returns-clause-has c keys entries is =
    let cache = c.args.self.now in
    let order = cache.order in
    let values = cache.values in
    let key = to_z w64 (of_z w64 c.args.key) in
    let put = key_put cache.image order values keys entries is c.put.new.self c.put.ensures.bytes key _ c.in_ok-value.value.at c.in_ok-value.ensures.puts in
    let has = key_has c.put.new.self order values keys (with_key entries key) put.0 key c.in_ok-value.value.at put.1 c.args.number in
    on_ok c.store-2.result _ (subst (λ (z : ℤ). number_at (after_set entries z c.args.number) z ≡ Some (Int c.args.number)) (to_z-of_z w64 c.args.key c.ranges.key) has)
