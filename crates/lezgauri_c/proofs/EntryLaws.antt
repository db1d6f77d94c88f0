-- Filling the caller's memory with entries, one after the other.
use Rattle.std.proofs.Common.{◌≡◌, ℕ, zero, suc, ◌+◌, ◌<◌, ◌≤◌, ◌⊎◌, inl, inr, ℤ, List, [], ◌∷◌, ◌++◌, Option, Some, None, Result, Ok, Err}
use Rattle.std.proofs.Common.{length, take, drop, map, get_or, subst, refl, sym, ap, ◌∙◌, arith, add-one, append_assoc, length-append}
use Rattle.std.proofs.lemmas.List.{take_all, length-drop}
use Rattle.std.proofs.Math.ListN.{set}
use Rattle.std.proofs.Math.Seq.{drop-cons, set-append_seam}
use Rattle.std.specs.List.{AllByRecursion}
use Rattle.std.specs.Prelude.{false, IfOk, IfErr}
use Rattle.seg_spec.specs.Types.{Form, Table, form_at}
use Rattle.seg_raw.specs.declared.code.Code.{Code}
use Rattle.lezgauri.specs.Place.{Place}
use Rattle.lezgauri.specs.EitherMap.{has_keys, IsMapOf}
use Rattle.lezgauri.specs.CellPlaces.{place_of}
use Rattle.lezgauri.specs.Iterators.{IsMapEntry}
use Rattle.lezgauri.specs.Maps.{FindsValue, first_of}
use Rattle.lezgauri_c.specs.declared.entry.Entry.{Entry}
use Rattle.lezgauri_c.specs.Entries.{told_key, IsEntry, FillsEntries}
use Rattle.lezgauri_c.specs.declared.place.Place as told
use Rattle.lezgauri_c.specs.Places.{told_place}
use Rattle.lezgauri_c.specs.Values.{Tells, stored_in}
use Rattle.lezgauri_c.proofs.ReadLaws.{map_keys}

-- a call on a map is told as what it found
pub tells_filled : (form : Option Form) (U status count : ℕ) (returned : Result ℕ Code) (P : ℕ → Type 0) → IsMapOf form U → IfErr returned (λ code. has_keys form ≡ false) → Tells status count returned → IfOk returned P
    → (status ≡ 0) × P count
tells_filled form U status count (Ok n) P is none tells fills = (tells.0, subst P (sym tells.1) fills)
tells_filled form U status count (Err code) P is none tells fills = let has = map_keys form U is in cc

module _ (image : List ℕ) (table : Table) (at : Place) (U : ℕ) (keys wanted : List ℤ) (old : List Entry) where
  -- the memory so far, with the first entries
  pub record Filled (now : List Entry) (count : ℕ) : Type 0 where
    pub entries : List Entry
    pub count_is : length entries ≡ count
    pub now_is : now ≡ entries ++ drop count old
    pub keys_are : map told_key entries ≡ take count wanted
    pub each : AllByRecursion (IsEntry image table at U keys) entries

  pub filled_none : Filled old 0
  filled_none = record { entries = []; count_is = refl; now_is = refl; keys_are = refl; each = tt }

  all_more : {X : Type 0} (P : X → Type 0) (xs : List X) (x : X) → AllByRecursion P xs → P x → AllByRecursion P (xs ++ x ∷ [])
  all_more P [] x all h = (h, tt)
  all_more P (y ∷ ys) x all h = (all.0, all_more P ys x all.1 h)

  take_more : (xs : List ℤ) (n : ℕ) (k : ℤ) → first_of (drop n xs) ≡ Some k → take n xs ++ k ∷ [] ≡ take (n + 1) xs
  take_more xs n k e = go xs n e ∙ ap (λ i. take i xs) (sym (add-one n))
    where
      go : (xs : List ℤ) (n : ℕ) → first_of (drop n xs) ≡ Some k → take n xs ++ k ∷ [] ≡ take (suc n) xs
      go [] zero e = cc
      go [] (suc n) e = cc
      go (x ∷ xs) zero e = let same : x ≡ k = cc in ap (λ y. y ∷ []) (sym same)
      go (x ∷ xs) (suc n) e = ap (λ ys. x ∷ ys) (go xs n e)

  keys_more : (xs : List Entry) (entry : Entry) → map told_key (xs ++ entry ∷ []) ≡ map told_key xs ++ told_key entry ∷ []
  keys_more [] entry = refl
  keys_more (x ∷ xs) entry = ap (λ ys. told_key x ∷ ys) (keys_more xs entry)

  pub filled_more : (now : List Entry) (count : ℕ) (entry : Entry) → count < length old → Filled now count → first_of (drop count wanted) ≡ Some entry.key → IsEntry image table at U keys entry
      → Filled (set now count entry) (count + 1)
  filled_more now count entry fits filled first is =
      record {
        entries = filled.entries ++ entry ∷ [];
        count_is = length-append filled.entries (entry ∷ []) ∙ ap (λ n. n + 1) filled.count_is;
        now_is = ap (λ r. set r count entry) filled.now_is
            ∙ ap (λ r. set (filled.entries ++ r) count entry) (drop-cons old count entry fits)
            ∙ ap (λ n. set (filled.entries ++ get_or old count entry ∷ drop (suc count) old) n entry) (sym filled.count_is)
            ∙ set-append_seam filled.entries (get_or old count entry) (drop (suc count) old) entry
            ∙ sym (append_assoc filled.entries (entry ∷ []) (drop (suc count) old))
            ∙ ap (λ n. (filled.entries ++ entry ∷ []) ++ drop n old) (sym (add-one count));
        keys_are = keys_more filled.entries entry ∙ ap (λ ks. ks ++ entry.key ∷ []) filled.keys_are ∙ take_more wanted count entry.key first;
        each = all_more (IsEntry image table at U keys) filled.entries entry filled.each is;
      }

  none_dropped : (xs : List ℤ) (n : ℕ) → first_of (drop n xs) ≡ None → length xs ≤ n
  none_dropped [] n e = omega arith
  none_dropped (x ∷ xs) zero e = cc
  none_dropped (x ∷ xs) (suc n) e = let less = none_dropped xs n e in omega (arith, less)

  same_front : (xs : List ℤ) (n m : ℕ) → n ≤ m → (m ≤ n) ⊎ (first_of (drop n xs) ≡ None) → take n xs ≡ take m xs
  same_front xs n m less (inl more) = let same : n ≡ m = omega (arith, less, more) in ap (λ i. take i xs) same
  same_front xs n m less (inr none) =
      let short = none_dropped xs n none in
      take_all n xs short ∙ sym (take_all m xs (omega (arith, less, short)))

  pub filled_end : (now : List Entry) (count : ℕ) → Filled now count → count ≤ length old → (length old ≤ count) ⊎ (first_of (drop count wanted) ≡ None) → FillsEntries image table at U keys wanted old now count
  filled_end now count filled fits ends =
      record {
        entries = filled.entries;
        count_is = filled.count_is;
        new_is = filled.now_is
            ∙ ap (λ front. front ++ drop count old) (sym (take_all (length old) filled.entries (omega (arith, filled.count_is, fits))))
            ∙ ap (λ n. take (length old) filled.entries ++ drop n old) (sym filled.count_is);
        keys_are = filled.keys_are ∙ same_front wanted count (length old) fits ends;
        each = filled.each;
      }

  pub filled_fits : (now : List Entry) (count : ℕ) → Filled now count → length now ≡ length old → count ≤ length old
  filled_fits now count filled same =
      let sum = ap length filled.now_is ∙ length-append filled.entries (drop count old) in
      let rest = length-drop count old in
      omega (arith, sum, rest, same, filled.count_is)

  -- the entry that an iterator returned is put after the others
  pub filled_next : (now : List Entry) (count : ℕ) (key told_as : ℤ) (value : Place) (place : told.Place) → told_as ≡ key → place ≡ told_place value → length now ≡ length old → count < length now → Filled now count
      → Some key ≡ first_of (drop count wanted) → IsMapEntry (stored_in image table) at U keys key value → Filled (set now count (record { key = told_as; value = place })) (count + 1)
  filled_next now count key told_as value place key_is place_is same fits filled first entry =
      filled_more now count (record { key = told_as; value = place }) (omega (arith, same, fits)) filled (sym first ∙ ap Some (sym key_is))
      (record {
        of_type = subst (λ (p : told.Place). IsMapOf (form_at table at.type_id) p.type_id) (sym place_is) entry.of_type;
        finds = subst (λ k. FindsValue image table (place_of at) U keys k (Some place.at)) (sym key_is)
            (subst (λ (p : told.Place). FindsValue image table (place_of at) U keys key (Some p.at)) (sym place_is) entry.finds);
      })

pub dropped_more : (xs : List ℤ) (n : ℕ) → drop 1 (drop n xs) ≡ drop (n + 1) xs
dropped_more xs n = go xs n ∙ ap (λ i. drop i xs) (sym (add-one n))
  where
    go : (xs : List ℤ) (n : ℕ) → drop 1 (drop n xs) ≡ drop (suc n) xs
    go [] zero = refl
    go [] (suc n) = refl
    go (x ∷ xs) zero = refl
    go (x ∷ xs) (suc n) = go xs n
