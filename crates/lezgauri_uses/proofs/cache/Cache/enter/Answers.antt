use Rattle.std.proofs.Common.{◌≡◌, ℤ, List, [], ◌∷◌, ◌++◌, Some, w64, to_z, of_z, ◌+◌, take, drop, refl, sym, ap, ◌∙◌, subst, arith}
use Rattle.std.proofs.lemmas.List.{length-append, length-drop}
use Rattle.seg_spec.specs.Value.{Values, Int}
use Rattle.std.proofs.lemmas.Int.{to_z-of_z}
use Rattle.lezgauri_uses.specs.Tables.{after_set, number_at}
use Rattle.lezgauri_uses.specs.Caches.{without_keys}
use Rattle.lezgauri_uses.specs.CacheModel.{IsCache, dropped_from}
use Rattle.lezgauri_uses.proofs.TableLaws.{same_ok}
use Rattle.lezgauri_uses.proofs.CacheLaws.{next_dropped, without_keys-append, has_list, items_count, has_many}
use Rattle.lezgauri_uses.proofs.OtherKeyLaws.{other_kept, without_keys_other}
use Rattle.lezgauri_uses.proofs.cache.Cache.enter.Goals as goal

pub loop-init : goal.loop-init
loop-init c = record { most = refl; dropped = λ keys entries is le. is }

pub loop-preserved : goal.loop-preserved
loop-preserved c = record {
  most = c.drop_oldest.ensures.most ∙ c.loop.invariant.most;
  dropped = λ keys entries is le.
      let n = c.loop.counter in
      let here = c.loop.invariant.dropped keys entries is le in
      let below = c.loop-test.true in
      let next = next_dropped keys n (omega (arith, below, le)) in
      let first = subst (λ (ks : List ℤ). IsCache c.loop.self ks (without_keys (take n keys) entries)) next.1 here in
      let gone = c.in_ok-drop_oldest.ensures.drops next.0 (drop (n + 1) keys) (without_keys (take n keys) entries) first in
      let left = sym (ap (λ (ks : List ℤ). without_keys ks entries) next.2 ∙ without_keys-append (take n keys) next.0 entries) in
      subst (λ (es : List ℤ × Values). IsCache c.drop_oldest.new.self (drop (n + 1) keys) es) left gone;
}

pub returns-clause-enters : goal.returns-clause-enters
returns-clause-enters c keys entries is some =
    let old = c.args.self.now in
    let room = c.make_room.new.self in
    let made = c.in_ok-make_room.ensures.same keys entries is in
    let long = same_ok _ _ refl (c.in_ok-held.ensures.list 0 _ _ (has_list room.image room.order room.values keys entries made)) ∙ items_count keys in
    let end = c.saturating_sub-end.ensures in
    let most = c.make_room.ensures.most in
    let n = dropped_from old keys in
    let dropped = c.loop.invariant.dropped keys entries made (omega (arith, long, end)) in
    let far = c.loop-test.false in
    let near = c.loop.auto.counter-end in
    let at_end : c.loop.counter ≡ n = omega (arith, long, end, most, far, near) in
    let there = subst (λ m. IsCache c.loop.self (drop m keys) (without_keys (take m keys) entries)) at_end dropped in
    let rest = length-drop n keys in
    let all = length-append (drop n keys) (c.args.key ∷ []) in
    let entered = c.in_ok-add.ensures.adds (drop n keys) (without_keys (take n keys) entries) there in
    let has = c.in_ok-add.ensures.has (drop n keys) (without_keys (take n keys) entries) there in
    let new = c.add.new.self in
    let gone = without_keys (take n keys) entries in
    let key = to_z w64 (of_z w64 c.args.key) in
    let same_key = to_z-of_z w64 c.args.key c.ranges.key in
    let same_number = to_z-of_z w64 c.args.number c.ranges.number in
    record {
      now = subst (λ (z : ℤ). IsCache new (drop n keys ++ z ∷ []) (after_set gone z c.args.number)) same_key
          (subst (λ (z : ℤ). IsCache new (drop n keys ++ key ∷ []) (after_set gone key z)) same_number entered);
      number_is = subst (λ (z : ℤ). number_at (after_set gone z c.args.number) z ≡ Some (Int c.args.number)) same_key
          (subst (λ (z : ℤ). number_at (after_set gone key z) key ≡ Some (Int z)) same_number has);
      others_are = λ other apart kept.
          other_kept gone c.args.key c.args.number other apart (has_many c.loop.self.image c.loop.self.order c.loop.self.values (drop n keys) gone there) ∙ without_keys_other (take n keys) entries other kept;
      within = omega (arith, some, rest, all);
    }
