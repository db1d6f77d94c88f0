-- Runs of entries of a flat map: splitting, joining, keeping and moving them.
use Rattle.std.proofs.Common.{◌≡◌, ℕ, zero, suc, ◌+◌, ◌*◌, ◌%◌, ◌<◌, ◌≤◌, Some, ℤ, List, [], ◌∷◌, ◌++◌, length, map, refl, sym, ap, ◌∙◌, subst, arith, append_assoc, rules}
use Rattle.std.specs.Prelude.{insert, remove, slice_get, ◌<ℤ◌}
use Rattle.std.specs.List.{AllByRecursion}
use Rattle.seg_spec.specs.Bytes.{signed_long, IsSame}
use Rattle.seg_spec.specs.Types.{Form, Table, size, IsTable}
use Rattle.seg_spec.specs.Value.{Value, Values, nil, cons, count, append, Map, IsAscending}
use Rattle.seg_spec.specs.Items.{insert_nth, remove_nth}
use Rattle.seg_spec.specs.Heap.{IsHeap}
use Rattle.seg_spec.specs.Block.{KeepsBlock}
use Rattle.seg_spec.specs.Reads.{Place, spaced, places_of, keys_at, Holds, HoldsEach, holds_none, holds_more}
use Rattle.seg_spec.specs.Parts.{PersistEach}
use Rattle.seg_spec.specs.Cells.{IsWithin, Shifts}
use Rattle.seg_spec.specs.Owning.{StandsBeside}
use Rattle.seg_spec.specs.Shrinking.{KeepsPathsInside}
use Rattle.seg_spec.proofs.Values.PathFrameLaws.{Leads-each}
use Rattle.seg_spec.proofs.Values.PlaceFrameLaws.{keys_at-same, spaced-same, inner-same, shorter, HoldsEach-kept, PersistEach-kept}
use Rattle.seg_spec.proofs.Values.BufferLaws.{HoldsEntries, entries_moved, entries_persist}

-- ---- places in a row

pub spaced_get : (at step n i : ℕ) → i < n → slice_get (spaced at step n) i ≡ Some (at + i * step)
spaced_get at step zero i h = absurd (omega arith)
spaced_get at step (suc n) zero h = let e : at + 0 * step ≡ at = omega arith in rw e refl
spaced_get at step (suc n) (suc i) h =
    let e : at + step + i * step ≡ at + suc i * step = grind arith in
    spaced_get (at + step) step n i (omega arith) ∙ ap Some e

pub map_get : {X Y : Type 0} (f : X → Y) (xs : List X) (i : ℕ) (x : X) → slice_get xs i ≡ Some x → slice_get (map f xs) i ≡ Some (f x)
map_get f [] i x e = cc
map_get f (y ∷ ys) zero x e = let same : y ≡ x = cc in ap (λ z. Some (f z)) same
map_get f (y ∷ ys) (suc i) x e = map_get f ys i x e

-- ---- lists of values

pub insert_between : (vs ws : Values) (w : Value) (i : ℕ) → i ≡ count vs → insert_nth (append vs ws) i w ≡ append vs (cons w ws)
insert_between nil nil w zero e = refl
insert_between nil (cons v ws) w zero e = refl
insert_between nil ws w (suc i) e = absurd (omega arith)
insert_between (cons v vs) ws w zero e = absurd (omega arith)
insert_between (cons v vs) ws w (suc i) e = ap (cons v) (insert_between vs ws w i (omega arith))

pub remove_between : (vs ws : Values) (w : Value) (i : ℕ) → i ≡ count vs → remove_nth (append vs (cons w ws)) i ≡ append vs ws
remove_between nil ws w zero e = refl
remove_between nil ws w (suc i) e = absurd (omega arith)
remove_between (cons v vs) ws w zero e = absurd (omega arith)
remove_between (cons v vs) ws w (suc i) e = ap (cons v) (remove_between vs ws w i (omega arith))

pub insert_key : (ks more : List ℤ) (k : ℤ) (i : ℕ) → i ≡ length ks → insert (ks ++ more) i k ≡ ks ++ (k ∷ more)
insert_key [] more k zero e = refl
insert_key [] more k (suc i) e = absurd (omega arith)
insert_key (x ∷ ks) more k zero e = absurd (omega arith)
insert_key (x ∷ ks) more k (suc i) e = ap (λ xs. x ∷ xs) (insert_key ks more k i (omega arith))

pub remove_key : (ks more : List ℤ) (k : ℤ) (i : ℕ) → i ≡ length ks → remove (ks ++ (k ∷ more)) i ≡ ks ++ more
remove_key [] more k zero e = refl
remove_key [] more k (suc i) e = absurd (omega arith)
remove_key (x ∷ ks) more k zero e = absurd (omega arith)
remove_key (x ∷ ks) more k (suc i) e = ap (λ xs. x ∷ xs) (remove_key ks more k i (omega arith))

ascending_rest : (k : ℤ) (ks : List ℤ) → IsAscending (k ∷ ks) → IsAscending ks
ascending_rest k [] h = tt
ascending_rest k (x ∷ ks) h = h.1

pub ascending_after : (ks more : List ℤ) → IsAscending (ks ++ more) → IsAscending more
ascending_after [] more h = h
ascending_after (k ∷ ks) more h = ascending_after ks more (ascending_rest k (ks ++ more) h)

below : (a b c : ℤ) → a <ℤ b → b <ℤ c → a <ℤ c
below a b c h k = grind arith

-- ascending keys are still ascending without one of them
pub ascending_without : (ks more : List ℤ) (k : ℤ) → IsAscending (ks ++ (k ∷ more)) → IsAscending (ks ++ more)
ascending_without [] more k h = ascending_rest k more h
ascending_without (a ∷ []) [] k h = tt
ascending_without (a ∷ []) (b ∷ more) k h = (below a k b h.0 h.1.0, h.1.1)
ascending_without (a ∷ b ∷ ks) more k h = (h.0, ascending_without (b ∷ ks) more k h.1)

-- ---- runs

-- the places of the values in n entries from a position on
abbrev pub run_values : Table → ℕ → ℕ → ℕ → List Place
run_values table U at n = places_of U (map (λ p. p + 8) (spaced at (8 + size table U) n))

pub run_long : (table : Table) (U at n : ℕ) → length (run_values table U at n) ≡ n
run_long table U at zero = refl
run_long table U at (suc n) = ap suc (run_long table U (at + (8 + size table U)) n)

pub runs_joined : (table : Table) (U at n m q : ℕ) → q ≡ at + n * (8 + size table U) → run_values table U at (n + m) ≡ run_values table U at n ++ run_values table U q m
runs_joined table U at zero m q e = let here : q ≡ at = omega arith in let all : 0 + m ≡ m = omega arith in rw (here, all) refl
runs_joined table U at (suc n) m q e =
    let more : suc n * (8 + size table U) ≡ (8 + size table U) + n * (8 + size table U) = grind arith in
    let all : suc n + m ≡ suc (n + m) = omega arith in
    rw all (ap (λ ps. record { at = at + 8; type = U } ∷ ps) (runs_joined table U (at + (8 + size table U)) n m q (omega arith)))

-- a fact about the value in each entry
pub each_run : (P : Place → Type 0) (table : Table) (U at n : ℕ) → ((i : ℕ) → i < n → P (record { at = at + i * (8 + size table U) + 8; type = U })) → AllByRecursion P (run_values table U at n)
each_run P table U at zero h = tt
each_run P table U at (suc n) h = (first, each_run P table U (at + (8 + size table U)) n (λ i l. next i (h (suc i) (omega arith))))
  where
    first : P (record { at = at + 8; type = U })
    first = let e : at + 0 * (8 + size table U) + 8 ≡ at + 8 = omega arith in subst (λ q. P (record { at = q; type = U })) e (h 0 (omega arith))

    next : (i : ℕ) → P (record { at = at + suc i * (8 + size table U) + 8; type = U }) → P (record { at = at + (8 + size table U) + i * (8 + size table U) + 8; type = U })
    next i p = let e : at + suc i * (8 + size table U) + 8 ≡ at + (8 + size table U) + i * (8 + size table U) + 8 = grind arith in subst (λ q. P (record { at = q; type = U })) e p

-- n entries from a position on have these keys, and contain these values, which own these blocks
pub record Run (bytes : List ℕ) (table : Table) (U at n : ℕ) (keys : List ℤ) (vs : Values) (owned : List ℕ) : Type 0 where
  pub keys_are : keys ≡ keys_at bytes (spaced at (8 + size table U) n)
  pub values : HoldsEach bytes table (places_of U (map (λ p. p + 8) (spaced at (8 + size table U) n))) vs owned

module _ (bytes : List ℕ) (table : Table) (U : ℕ) where
  abbrev each : ℕ
  each = 8 + size table U

  abbrev values_at : ℕ → ℕ → List Place
  values_at at n = places_of U (map (λ p. p + 8) (spaced at (8 + size table U) n))

  abbrev keys_from : ℕ → ℕ → List ℤ
  keys_from at n = keys_at bytes (spaced at (8 + size table U) n)

  pub keys_long : (at n : ℕ) → length (keys_from at n) ≡ n
  keys_long at zero = refl
  keys_long at (suc n) = ap suc (keys_long (at + each) n)

  keys_joined : (at n m q : ℕ) → q ≡ at + n * each → keys_from at (n + m) ≡ keys_from at n ++ keys_from q m
  keys_joined at zero m q e = let here : q ≡ at = omega arith in let all : 0 + m ≡ m = omega arith in rw (here, all) refl
  keys_joined at (suc n) m q e =
      let more : suc n * each ≡ each + n * each = grind arith in
      let all : suc n + m ≡ suc (n + m) = omega arith in
      rw all (ap (λ ks. signed_long bytes at ∷ ks) (keys_joined (at + each) n m q (omega arith)))

  values_joined : (at n m q : ℕ) {vs ws : Values} {owned others : List ℕ} → q ≡ at + n * each → HoldsEach bytes table (values_at at n) vs owned → HoldsEach bytes table (values_at q m) ws others
      → HoldsEach bytes table (values_at at (n + m)) (append vs ws) (owned ++ others)
  values_joined at zero m q e holds_none b = let here : q ≡ at = omega arith in let all : 0 + m ≡ m = omega arith in rw all (rw here at b)
  values_joined at (suc n) m q {ws = ws} {others = others} e (holds_more {v = v} {vs = us} {blocks = mine} {owned = rest} first more) b =
      let size_is : suc n * each ≡ each + n * each = grind arith in
      let all : suc n + m ≡ suc (n + m) = omega arith in
      let then = values_joined (at + each) n m q (omega arith) more b in
      rw (all, append_assoc mine rest others) (holds_more first then)

  pub joined : (at n m q : ℕ) (keys more : List ℤ) (vs ws : Values) (owned others : List ℕ) → q ≡ at + n * each → Run bytes table U at n keys vs owned → Run bytes table U q m more ws others
      → Run bytes table U at (n + m) (keys ++ more) (append vs ws) (owned ++ others)
  joined at n m q keys more vs ws owned others e a b = record {
    keys_are = rw (a.keys_are, b.keys_are) (sym (keys_joined at n m q e));
    values = values_joined at n m q e a.values b.values;
  }

  -- the first n of n + m entries, and the other entries
  pub record Parts (at n m q : ℕ) (keys : List ℤ) (vs : Values) (owned : List ℕ) : Type 0 where
    pub first_keys : List ℤ
    pub next_keys : List ℤ
    pub first_values : Values
    pub next_values : Values
    pub first_owned : List ℕ
    pub next_owned : List ℕ
    pub keys_are : keys ≡ first_keys ++ next_keys
    pub values_are : vs ≡ append first_values next_values
    pub owned_are : owned ≡ first_owned ++ next_owned
    pub keys_count : n ≡ length first_keys
    pub values_count : n ≡ count first_values
    pub first : Run bytes table U at n first_keys first_values first_owned
    pub next : Run bytes table U q m next_keys next_values next_owned

  record ValueParts (at n m q : ℕ) (vs : Values) (owned : List ℕ) : Type 0 where
    first_values : Values
    next_values : Values
    first_owned : List ℕ
    next_owned : List ℕ
    values_are : vs ≡ append first_values next_values
    owned_are : owned ≡ first_owned ++ next_owned
    values_count : n ≡ count first_values
    first : HoldsEach bytes table (values_at at n) first_values first_owned
    next : HoldsEach bytes table (values_at q m) next_values next_owned

  value_parts : (at n m q all : ℕ) {vs : Values} {owned : List ℕ} → q ≡ at + n * each → all ≡ n + m → HoldsEach bytes table (values_at at all) vs owned → ValueParts at n m q vs owned
  value_parts at zero m q all {vs = vs} {owned = owned} e f h =
      let here : q ≡ at = omega arith in
      let same : all ≡ m = omega arith in
      record { first_values = nil; next_values = vs; first_owned = []; next_owned = owned; values_are = refl; owned_are = refl; values_count = refl; first = holds_none; next = rw here (rw same at h) }
  value_parts at (suc n) m q zero e f h = absurd (omega arith)
  value_parts at (suc n) m q (suc all) e f (holds_more {v = v} {vs = us} {blocks = mine} {owned = rest} one more) =
      let size_is : suc n * each ≡ each + n * each = grind arith in
      let r = value_parts (at + each) n m q all (omega arith) (omega arith) more in
      record {
        first_values = cons v r.first_values;
        next_values = r.next_values;
        first_owned = mine ++ r.first_owned;
        next_owned = r.next_owned;
        values_are = ap (cons v) r.values_are;
        owned_are = ap (λ xs. mine ++ xs) r.owned_are ∙ sym (append_assoc mine r.first_owned r.next_owned);
        values_count = ap suc r.values_count;
        first = holds_more one r.first;
        next = r.next;
      }

  pub parts : (at n m q : ℕ) (keys : List ℤ) (vs : Values) (owned : List ℕ) → q ≡ at + n * each → Run bytes table U at (n + m) keys vs owned → Parts at n m q keys vs owned
  parts at n m q keys vs owned e r =
      let p = value_parts at n m q (n + m) e refl r.values in
      record {
        first_keys = keys_from at n;
        next_keys = keys_from q m;
        first_values = p.first_values;
        next_values = p.next_values;
        first_owned = p.first_owned;
        next_owned = p.next_owned;
        keys_are = r.keys_are ∙ keys_joined at n m q e;
        values_are = p.values_are;
        owned_are = p.owned_are;
        keys_count = sym (keys_long at n);
        values_count = p.values_count;
        first = record { keys_are = refl; values = p.first };
        next = record { keys_are = refl; values = p.next };
      }

  -- one entry is a run
  pub alone : (at : ℕ) (w : Value) → Holds bytes table (record { at = at + 8; type = U }) w [] → Run bytes table U at 1 (signed_long bytes at ∷ []) (cons w nil) []
  alone at w h = record { keys_are = refl; values = holds_more h holds_none }

  pub record One (at : ℕ) (keys : List ℤ) (vs : Values) (owned : List ℕ) : Type 0 where
    pub value : Value
    pub keys_are : keys ≡ signed_long bytes at ∷ []
    pub values_are : vs ≡ cons value nil
    pub holds_it : Holds bytes table (record { at = at + 8; type = U }) value owned

  one_value : (at : ℕ) {vs : Values} {owned : List ℕ} → HoldsEach bytes table (values_at at 1) vs owned → (w : Value) × (vs ≡ cons w nil) × Holds bytes table (record { at = at + 8; type = U }) w owned
  one_value at (holds_more {v = v} {blocks = mine} first holds_none) = let e : mine ++ [] ≡ mine = search rules in (v, refl, rw e first)

  pub the_one : (at : ℕ) (keys : List ℤ) (vs : Values) (owned : List ℕ) → Run bytes table U at 1 keys vs owned → One at keys vs owned
  the_one at keys vs owned r =
      let o = one_value at r.values in
      record { value = o.0; keys_are = r.keys_are; values_are = o.1; holds_it = o.2 }

module _ (old new : List ℕ) (table : Table) (valid : IsTable table) (U : ℕ) where
  -- a run stays if its bytes and the blocks of its values are kept
  pub run_kept : (at n : ℕ) (keys : List ℤ) (vs : Values) (owned : List ℕ) → IsSame old new at (n * (8 + size table U)) → AllByRecursion (KeepsBlock old new) owned
      → Run old table U at n keys vs owned → Run new table U at n keys vs owned
  run_kept at n keys vs owned same kept r =
      let all = spaced-same old new at (8 + size table U) n same in
      let entries = spaced at (8 + size table U) n in
      let same_keys = keys_at-same old new entries (shorter old new table valid (8 + size table U) 8 entries (omega arith) all) in
      record {
        keys_are = r.keys_are ∙ sym same_keys;
        values = HoldsEach-kept old new table valid r.values (inner-same old new table valid U 8 (8 + size table U) entries (omega arith) all) kept;
      }

  -- and so the values persist
  pub run_stays : (at n : ℕ) (keys : List ℤ) (vs : Values) (owned : List ℕ) → IsSame old new at (n * (8 + size table U)) → AllByRecursion (KeepsBlock old new) owned
      → Run old table U at n keys vs owned → PersistEach old new table (run_values table U at n) (run_values table U at n)
  run_stays at n keys vs owned same kept r =
      PersistEach-kept old new table valid r.values (inner-same old new table valid U 8 (8 + size table U) (spaced at (8 + size table U) n) (omega arith) (spaced-same old new at (8 + size table U) n same)) kept

  -- each path from a value of the run still reaches the same place
  pub run_paths : (at n : ℕ) (keys : List ℤ) (vs : Values) (owned : List ℕ) → IsSame old new at (n * (8 + size table U)) → AllByRecursion (KeepsBlock old new) owned
      → Run old table U at n keys vs owned → (i : ℕ) → i < n → KeepsPathsInside old new table (record { at = at + i * (8 + size table U) + 8; type = U })
  run_paths at n keys vs owned same kept r i below path inner way =
      let entries = spaced at (8 + size table U) n in
      let all = spaced-same old new at (8 + size table U) n same in
      let value : ℕ → Place = λ q. record { at = q; type = U } in
      let here_it_is = map_get value (map (λ q. q + 8) entries) i (at + i * (8 + size table U) + 8) (map_get (λ q. q + 8) entries i (at + i * (8 + size table U)) (spaced_get at (8 + size table U) n i below)) in
      Leads-each old new table valid (value (at + i * (8 + size table U) + 8)) i r.values here_it_is (inner-same old new table valid U 8 (8 + size table U) entries (omega arith) all) kept way

  pub run_persists : (allocator home from to n : ℕ) (keys : List ℤ) (vs : Values) (owned : List ℕ) → IsHeap allocator old → to % 8 ≡ 0 → IsWithin old from (n * (8 + size table U))
      → StandsBeside old home to (n * (8 + size table U)) owned → Shifts old new table 8 U (8 + size table U) from to n → IsAscending keys → Run old table U from n keys vs owned
      → PersistEach old new table (run_values table U from n) (run_values table U to n)
  run_persists allocator home from to n keys vs owned heap even from_in beside shifts ascending r =
      let e : HoldsEntries old table (Form.flat_map U) from n (Map keys vs) owned = (vs, ap (λ ks. Map ks vs) r.keys_are, subst IsAscending r.keys_are ascending, r.values) in
      entries_persist old new table valid from to n allocator home heap even (Form.flat_map U) (Map keys vs) owned from_in beside shifts e

  pub run_moved : (allocator home from to n : ℕ) (keys : List ℤ) (vs : Values) (owned : List ℕ) → IsHeap allocator old → to % 8 ≡ 0 → IsWithin old from (n * (8 + size table U)) → to + n * (8 + size table U) ≤ length old
      → StandsBeside old home to (n * (8 + size table U)) owned → Shifts old new table 8 U (8 + size table U) from to n → IsAscending keys → Run old table U from n keys vs owned → Run new table U to n keys vs owned
  run_moved allocator home from to n keys vs owned heap even from_in to_in beside shifts ascending r =
      let e : HoldsEntries old table (Form.flat_map U) from n (Map keys vs) owned = (vs, ap (λ ks. Map ks vs) r.keys_are, subst IsAscending r.keys_are ascending, r.values) in
      let m = entries_moved old new table valid from to n allocator home heap even (Form.flat_map U) (Map keys vs) owned from_in to_in beside shifts e in
      let same = both keys (keys_at new (spaced to (8 + size table U) n)) vs m.0 m.1 in
      record { keys_are = same.0; values = subst (λ us. HoldsEach new table (places_of U (map (λ p. p + 8) (spaced to (8 + size table U) n))) us owned) (sym same.1) m.3 }
    where
      both : (ks ls : List ℤ) (us ws : Values) → Map ks us ≡ Map ls ws → (ks ≡ ls) × (us ≡ ws)
      both ks ls us ws e = (cc, cc)
