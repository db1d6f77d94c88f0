-- The next name, the next item and the next key, by the index of the last one.
use Rattle.std.proofs.Common.{◌≡◌, ℕ, zero, suc, ◌+◌, ◌-◌, ◌<◌, ◌≤◌, ◌⊎◌, inl, inr, List, [], ◌∷◌, ◌∙◌, drop, length, Option, Some, None, Result, Ok, Err, refl, sym, ap, subst, arith}
use Rattle.std.specs.Prelude.{ℤ, int_lt, slice_get, get_or, true, nat_lt, if◌then◌else◌, IsSomeAnd, MatchResult}
use Rattle.std.specs.Option.{option_map}
use Rattle.std.specs.Result.{result_ok}
use Rattle.std.proofs.lemmas.Bool.Decides.{nat_tests}
use Rattle.std.proofs.lemmas.List.{length-drop}
use Rattle.std.proofs.lemmas.List.Sums.{length-filter, count_by-le-length}
use Rattle.std.proofs.lemmas.Option.{slice_get_cases}
use Rattle.seg_spec.specs.Index.{Root}
use Rattle.seg_spec.specs.Owning.{Stands}
use Rattle.seg_spec.specs.Reads.{Place}
use Rattle.seg_spec.specs.Types.{Form, Table, form_at}
use Rattle.seg_spec.specs.Value.{Values, Map, IsAscending}
use Rattle.seg_index.specs.Lists.{root_after}
use Rattle.seg_index.proofs.RootOrder.{InOrder, stands_there, found_next}
use Rattle.seg_seq.specs.Sequences.{IsPast}
use Rattle.seg_map.specs.EitherMap.{IsMapOf}
use Rattle.seg_map.specs.Maps.{first_of, keys_above}
use Rattle.seg_map.proofs.KeyLaws.{first_next, above_next}
use Rattle.seg_map.proofs.FlatMaps as flat
use Rattle.seg_map.proofs.TreeMaps as tree
use Rattle.seg_raw.specs.declared.code.Code.{Code}
use Rattle.seg_image.specs.Iterators.{item_before, keys_after}

-- ---- names

pub root_next : (names : List Root) (n : ℕ) → InOrder names → (last : List ℕ) → Some last ≡ option_map (λ (r : Root). r.name) (item_before names n) → root_after names last ≡ slice_get names n
root_next names zero ordered last e = cc
root_next names (suc n) ordered last e = go (slice_get names n) refl e
  where
    go : (o : Option Root) → slice_get names n ≡ o → Some last ≡ option_map (λ (r : Root). r.name) o → root_after names last ≡ slice_get names (suc n)
    go None at e = cc
    go (Some r) at e = let same : r.name ≡ last = cc in found_next names last n r (stands_there names last n r ordered at same)

-- there is no item before an index only if the index is 0
pub none_before : {X Y : Type 0} (f : X → Y) (xs : List X) (n : ℕ) → n ≤ length xs → None ≡ option_map f (item_before xs n) → n ≡ 0
none_before f xs zero within e = refl
none_before f xs (suc n) within e = go (slice_get_cases xs n).1
  where
    go : ((x : _) × (n < length xs) × (slice_get xs n ≡ Some x) × (get_or xs n x ≡ x)) ⊎ ((length xs ≤ n) × (slice_get xs n ≡ None)) → suc n ≡ 0
    go (inl it) = let at = it.2 in cc
    go (inr past) = absurd (let far = past.0 in omega arith)

-- ---- items

-- the index of the item after the one before an index
pub next_index : (n i : ℕ) → 1 ≤ i → i < n → (if nat_lt (i - 1 + 1) n then i - 1 + 1 else i - 1 + 1 - n) ≡ i
next_index n i some below =
    let same : i - 1 + 1 ≡ i = omega (arith, some) in
    let on : nat_lt (i - 1 + 1) n ≡ true = grind (arith, nat_tests) in
    rw on same

-- an item below the count is found
pub shown : (P : ℕ → Type 0) (i n : ℕ) (r : Result ℕ Code) → i < n → MatchResult r P (IsPast i n) → IsSomeAnd (result_ok r) P
shown P i n (Ok at) below it = it
shown P i n (Err code) below it = absurd (let past = it.past in omega (arith, below, past))

-- ---- keys

-- the keys of a map ascend
pub keys_ascend : (allocator : ℕ) (bytes : List ℕ) (table : Table) (place : Place) (U : ℕ) (keys : List ℤ) (vs : Values) (blocks : List ℕ) → IsMapOf (form_at table place.type) U
    → Stands allocator bytes table place (Map keys vs) blocks → IsAscending keys
keys_ascend allocator bytes table place U keys vs blocks m s = go (form_at table place.type) refl m
  where
    go : (o : Option Form) → form_at table place.type ≡ o → IsMapOf o U → IsAscending keys
    go (Some (Form.flat_map V)) e is = flat.ascending allocator bytes table place V keys vs blocks e s
    go (Some (Form.map V)) e is = let its = tree.its allocator bytes table place V keys vs blocks e s in subst IsAscending (sym its.keys_are) its.opens.ascending
    go (Some Form.i64) e is = absurd is
    go (Some Form.str) e is = absurd is
    go (Some (Form.vec V)) e is = absurd is
    go (Some (Form.list V)) e is = absurd is
    go (Some (Form.own V)) e is = absurd is
    go (Some (Form.struct fields)) e is = absurd is
    go (Some (Form.shared V)) e is = absurd is
    go None e is = absurd is

-- the keys after the next one
pub left_next : (keys : List ℤ) (last : Option ℤ) (left : List ℤ) (key : ℤ) → IsAscending keys → keys_after keys last ≡ left → first_of left ≡ Some key → keys_after keys (Some key) ≡ drop 1 left
left_next keys None left key ascending e first = first_next keys key ascending (ap first_of e ∙ first) ∙ ap (drop 1) e
left_next keys (Some last) left key ascending e first = above_next keys last key ascending (ap first_of e ∙ first) ∙ ap (drop 1) e

pub few_above : (keys : List ℤ) (after : ℤ) → length (keys_above keys after) ≤ length keys
few_above keys after = let few = count_by-le-length (λ x. int_lt after x) keys in omega (arith, length-filter (λ x. int_lt after x) keys, few)

pub fewer_left : (left : List ℤ) (most : ℕ) → length left ≤ most + 1 → length (drop 1 left) ≤ most
fewer_left left most h = simp (length-drop) (omega (arith, h))

pub none_left : (left : List ℤ) → length left ≤ 0 → first_of left ≡ None
none_left [] h = refl
none_left (k ∷ ks) h = absurd (omega (arith, h))

-- ---- results that were made options

pub ok_of : {X : Type 0} (r : Result X Code) (x : X) → Some x ≡ result_ok r → r ≡ Ok x
ok_of (Ok y) x e = cc
ok_of (Err code) x e = cc

pub err_of : {X : Type 0} (r : Result X Code) → None ≡ result_ok r → (code : Code) × (r ≡ Err code)
err_of (Ok y) e = cc
err_of (Err code) e = (code, refl)
