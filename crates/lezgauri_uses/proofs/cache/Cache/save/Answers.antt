use Rattle.std.proofs.Common.{List, ℕ, sym, subst}
use Rattle.seg_spec.specs.Bytes.{word}
use Rattle.seg_spec.specs.Header.{next_word}
use Rattle.seg_spec.specs.Sound.{IsHeld}
use Rattle.seg_spec.specs.Counting.{AreCounted}
use Rattle.lezgauri_uses.specs.Caches.{picture_of}
use Rattle.lezgauri_uses.proofs.cache.Cache.save.Goals as goal

pub returns : goal.returns
returns c keys entries is =
    let cache = c.args.self.now in
    let picture = picture_of cache.order.at cache.values.at keys entries in
    let same = sym c.in_ok-save.ensures.image in
    record {
      order_at = cache.order.at;
      values_at = cache.values.at;
      held = subst (λ (bs : List ℕ). IsHeld bs picture) same is.is_open.held;
      counted = subst (λ (bs : List ℕ). AreCounted (word bs next_word) picture) same is.is_open.counted;
    }
