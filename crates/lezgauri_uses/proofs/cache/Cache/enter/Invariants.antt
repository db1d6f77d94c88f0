use Rattle.std.proofs.Common.{◌≡◌, ◌≤◌, ℤ, List, length, take, drop}
use Rattle.seg_spec.specs.Value.{Values}
use Rattle.lezgauri_uses.specs.Caches.{without_keys}
use Rattle.lezgauri_uses.specs.CacheModel.{IsCache}
use Rattle.lezgauri_uses.proofs.cache.Cache.enter.Given as goal

-- as many of the oldest keys as the loop was repeated are gone
abbrev pub invariant-loop : goal.invariant-loop
invariant-loop l = record {
  most : l.self.most ≡ l.initial.self.most;
  dropped : (keys : List ℤ) (entries : List ℤ × Values) → IsCache l.initial.self keys entries → l.end ≤ length keys → IsCache l.self (drop l.counter keys) (without_keys (take l.counter keys) entries);
}
