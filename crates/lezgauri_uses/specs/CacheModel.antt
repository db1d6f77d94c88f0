-- A cache in contracts: its keys, the oldest first, and the map from keys to numbers.
--     most_of cache                    the most keys that it has
--     IsCache cache keys entries       its image has these keys and numbers
--     HasEntered old new keys entries key number
--                                      a key was entered, and the oldest keys were dropped for it
use Rattle.std.specs.Prelude.{◌≡◌, false, All, Some, ℕ, ℤ, ◌-◌, ◌≤◌, List, [], ◌∷◌, ◌++◌, length, take, drop}
use Rattle.seg_spec.specs.Value.{Values, Int, same_int}
use Rattle.lezgauri_uses.specs.Tables.{number_at, after_set}
use Rattle.lezgauri_uses.specs.Caches.{HasCache, without_keys}
use Rattle.lezgauri_uses.specs.declared.cache.Cache.{Cache}

abbrev pub most_of : Cache → ℕ
most_of cache = cache.most

abbrev pub IsCache : Cache → List ℤ → List ℤ × Values → Type 0
IsCache cache keys entries = HasCache cache.image cache.order cache.values keys entries

-- how many keys are dropped for the next one
abbrev pub dropped_from : Cache → List ℤ → ℕ
dropped_from cache keys = length keys - (cache.most - 1)

-- the keys after the next one was entered
abbrev pub keys_then : Cache → List ℤ → ℤ → List ℤ
keys_then cache keys key = drop (dropped_from cache keys) keys ++ key ∷ []

-- The oldest keys were dropped, with their numbers, until there was room for one more. The new key
-- is the youngest, and has its number. Every other key that wasn't dropped has the number that it
-- had before, if any.
pub record HasEntered (old new : Cache) (keys : List ℤ) (entries : List ℤ × Values)
    (key number : ℤ) : Type 0 where
  pub now : IsCache new (keys_then old keys key)
      (after_set (without_keys (take (dropped_from old keys) keys) entries) key number)
  pub number_is : number_at (after_set (without_keys (take (dropped_from old keys) keys) entries)
      key number) key ≡ Some (Int number)
  pub others_are : (other : ℤ) → same_int other key ≡ false →
      All (λ gone. same_int other gone ≡ false) (take (dropped_from old keys) keys) →
      number_at (after_set (without_keys (take (dropped_from old keys) keys) entries) key number)
      other ≡ number_at entries other
  pub within : length (keys_then old keys key) ≤ most_of old
