-- Adding and removing unique objects: the image pictures the state afterwards, and paths that still
-- have a root refer to the same places.
use Rattle.std.proofs.Common.{◌≡◌, ℕ, suc, ◌≤◌, ◌⊎◌, inl, inr, Bool, true, false, List, [], ◌∷◌, ◌++◌, eqb, Option, Some, None, refl, sym, ◌∙◌, ap, subst, arith}
use Rattle.std.specs.Prelude.{◌==◌, if◌then◌else◌, option_and_then}
use Rattle.std.specs.List.{AllByRecursion}
use Rattle.std.proofs.lemmas.Bool.{eqb-true}
use Rattle.std.proofs.lemmas.Bool.Decides.{nat_tests}
use Rattle.seg_spec.specs.Value.{Value, nil, cons, nth}
use Rattle.seg_spec.specs.Index.{Root, root_of_type, AreRising}
use Rattle.seg_spec.specs.Shared.{names_each, left}
use Rattle.seg_spec.specs.Counting.{owners_in, without_cells}
use Rattle.seg_spec.specs.Roots.{Listed, with_roots, roots_before, KeepsPaths}
use Rattle.seg_spec.proofs.Frozen.PartCountLaws.{owners_after, owners_with}
use Rattle.seg_spec.proofs.Images.UniqueLaws.{none_below, none_root}
use Rattle.client_spec.specs.Machine.{Origin, State, with_unique}
use Rattle.client_spec.specs.Pictures.{Pictures}
use Rattle.client_sim.proofs.Frozen.FrozenPathLaws.{KeepsFrozen}
use Rattle.client_sim.proofs.Objects.FirstRootLaws.{first_of, first_split, first_here, first_beside, is_of_type, typed_first}
use Rattle.client_sim.proofs.Objects.ObjectChangeLaws.{KeepsRoots}
use Rattle.client_sim.proofs.Objects.OwnedChangeLaws.{IsHeldCounted, found_again, keeps_all, keeps_others}

-- ---- the roots of types

-- if no root passes a test, none of the first ones does
none_among_first : (test : Root → Bool) (xs ys : List Root) → first_of test (xs ++ ys) ≡ None → first_of test xs ≡ None
none_among_first test [] ys e = refl
none_among_first test (x ∷ xs) ys e = choose (test x) (none_among_first test xs ys) e
  where
    choose : (b : Bool) → (first_of test (xs ++ ys) ≡ None → first_of test xs ≡ None) → (if b then Some x else first_of test (xs ++ ys)) ≡ None → (if b then Some x else first_of test xs) ≡ None
    choose true again f = cc
    choose false again f = again f

above : (U : ℕ) (before : List Root) (root : Root) (after : List Root) → AreRising U (before ++ root ∷ after) → U ≤ root.type
above U [] root after r = r.0
above U (b ∷ before) root after r = let m = above (suc b.type) before root after r.2 in let n = r.0 in omega (arith, m, n)

-- a type has at most one root
none_beside : (U : ℕ) (before : List Root) (root : Root) (after : List Root) → AreRising U (before ++ root ∷ after) → root_of_type (before ++ after) root.type ≡ None
none_beside U [] root after r = none_root after root.type (none_below (suc root.type) root.type after r.2 (omega arith))
none_beside U (b ∷ before) root after r =
    let m = above (suc b.type) before root after r.2 in
    let off : eqb root.type b.type ≡ false = grind (arith, nat_tests, m) in
    ap (λ t. if t then Some b else root_of_type (before ++ after) root.type) off ∙ none_beside (suc b.type) before root after r.2

module _ (before : List Root) (root : Root) (after : List Root) (T : ℕ) (type_is : T ≡ root.type) where
  test_is : (T == root.type) ≡ true
  test_is = grind (arith, nat_tests, type_is)

  test_not : (U : ℕ) → (U == T) ≡ false → (U == root.type) ≡ false
  test_not U g = ap (λ n. U == n) (sym type_is) ∙ g

  joined_there : root_of_type (before ++ after) T ≡ None → root_of_type (before ++ root ∷ after) T ≡ Some root
  joined_there none = typed_first (before ++ root ∷ after) T ∙ first_here (is_of_type T) before after root (none_among_first (is_of_type T) before after (sym (typed_first (before ++ after) T) ∙ none)) test_is

  joined_beside : (U : ℕ) → (U == T) ≡ false → root_of_type (before ++ root ∷ after) U ≡ root_of_type (before ++ after) U
  joined_beside U g = typed_first (before ++ root ∷ after) U ∙ first_beside (is_of_type U) before after root (test_not U g) ∙ sym (typed_first (before ++ after) U)

-- ---- the picture afterwards

module _ {others : List Root} {s : State} {old : List ℕ} (pictured : Pictures others s old) where
  abbrev first_value : Option Root → Option Value
  first_value o = option_and_then (λ (x : Root). nth x.values 0) o

  -- the state's unique objects change for one type, if the roots do
  uniques_with : (T : ℕ) (v : Option Value) (roots : List Root) → first_value (root_of_type roots T) ≡ v → ((U : ℕ) → (U == T) ≡ false → root_of_type roots U ≡ root_of_type pictured.picture.uniques U)
      → (U : ℕ) → with_unique s.uniques T v U ≡ first_value (root_of_type roots U)
  uniques_with T v roots is beside U = choose (U == T) refl
    where
      choose : (b : Bool) → (U == T) ≡ b → with_unique s.uniques T v U ≡ first_value (root_of_type roots U)
      choose true g = ap (λ b. if b then v else s.uniques U) g ∙ sym is ∙ ap (λ n. first_value (root_of_type roots n)) (sym (eqb-true U T g))
      choose false g = ap (λ b. if b then v else s.uniques U) g ∙ pictured.uniques U ∙ ap first_value (sym (beside U g))

  -- ---- the unique object of a type is made

  pub record UniqueComes (T : ℕ) (v : Value) (root : Root) (new : List ℕ) : Type 0 where
    pub later : Pictures others (record s { uniques = with_unique s.uniques T (Some v) }) new
    pub keeps : KeepsRoots pictured later (λ o. ⊥)
    pub stays : KeepsFrozen old new pictured.picture.table pictured.picture.frozen later.picture.frozen
    pub here : root_of_type later.picture.uniques T ≡ Some root

  pub unique_comes : (T : ℕ) (v : Value) (root : Root) → T ≡ root.type → root.values ≡ cons v nil → root_of_type pictured.picture.uniques T ≡ None → (before after : List Root) → pictured.picture.uniques ≡ before ++ after → (new : List ℕ)
      → IsHeldCounted new (with_roots pictured.picture Listed.by_type (before ++ root ∷ after)) → AllByRecursion (KeepsPaths old new pictured.picture.table) (owners_in pictured.picture)
      → KeepsFrozen old new pictured.picture.table pictured.picture.frozen pictured.picture.frozen → UniqueComes T v root new
  unique_comes T v root type_is values_are none before after parts new held paths frozen =
      let roots = before ++ root ∷ after in
      let there : root_of_type roots T ≡ Some root = joined_there before root after T type_is (ap (λ xs. root_of_type xs T) (sym parts) ∙ none) in
      let beside : (U : ℕ) → (U == T) ≡ false → root_of_type roots U ≡ root_of_type pictured.picture.uniques U = λ U g. joined_beside before root after T type_is U g ∙ ap (λ xs. root_of_type xs U) (sym parts) in
      let later : Pictures others (record s { uniques = with_unique s.uniques T (Some v) }) new = record {
        picture = with_roots pictured.picture Listed.by_type roots;
        held = held.0;
        counted = held.1;
        types = pictured.types;
        names = pictured.names;
        uniques = uniques_with T (Some v) roots (ap first_value there ∙ ap (λ vs. nth vs 0) values_are) beside;
        owned = pictured.owned;
        are_owned = pictured.are_owned;
        loose = pictured.loose;
      } in
      record {
        later = later;
        stays = frozen;
        keeps = keeps_all pictured later (λ o. ⊥) refl (found_again pictured later (λ o. ⊥) (λ name i r e. inr e) (λ U r e. inr (again U r e (U == T) refl)) (λ q r e. inr e)) paths;
        here = there;
      }
    where
      again : (U : ℕ) (r : Root) → root_of_type pictured.picture.uniques U ≡ Some r → (b : Bool) → (U == T) ≡ b → root_of_type (before ++ root ∷ after) U ≡ Some r
      again U r e true g = absurd (let f : None ≡ Some r = sym none ∙ ap (root_of_type pictured.picture.uniques) (sym (eqb-true U T g)) ∙ e in cc)
      again U r e false g = joined_beside before root after T type_is U g ∙ ap (λ xs. root_of_type xs U) (sym parts) ∙ e

  -- ---- the unique object of a type is destroyed

  pub record UniqueGoes (T : ℕ) (new : List ℕ) : Type 0 where
    pub later : Pictures others (record s { uniques = with_unique s.uniques T None }) new
    pub keeps : KeepsRoots pictured later (λ o. o ≡ Origin.Unique T)
    pub none : root_of_type later.picture.uniques T ≡ None
    pub stays : KeepsFrozen old new pictured.picture.table pictured.picture.frozen later.picture.frozen

  pub unique_goes : (T : ℕ) (root : Root) → root_of_type pictured.picture.uniques T ≡ Some root → (before after : List Root) → pictured.picture.uniques ≡ before ++ root ∷ after → (new : List ℕ)
      → IsHeldCounted new (without_cells (names_each root.values) (with_roots pictured.picture Listed.by_type (before ++ after)))
      → AllByRecursion (KeepsPaths old new pictured.picture.table) (roots_before pictured.picture Listed.by_type before ++ owners_after pictured.picture Listed.by_type after)
      → KeepsFrozen old new pictured.picture.table pictured.picture.frozen (left (names_each root.values) pictured.picture.frozen) → UniqueGoes T new
  unique_goes T root is before after parts new held paths frozen =
      let picture = pictured.picture in
      let split = first_split (is_of_type T) picture.uniques root (sym (typed_first picture.uniques T) ∙ is) in
      let type_is : T ≡ root.type = eqb-true T root.type split.is in
      let rising = subst (AreRising 0) parts pictured.held.laid_out.uniques.rising in
      let none : root_of_type (before ++ after) T ≡ None = ap (root_of_type (before ++ after)) type_is ∙ none_beside 0 before root after rising in
      let beside : (U : ℕ) → (U == T) ≡ false → root_of_type (before ++ after) U ≡ root_of_type picture.uniques U = λ U g. sym (joined_beside before root after T type_is U g) ∙ ap (λ xs. root_of_type xs U) (sym parts) in
      let later : Pictures others (record s { uniques = with_unique s.uniques T None }) new = record {
        picture = without_cells (names_each root.values) (with_roots picture Listed.by_type (before ++ after));
        held = held.0;
        counted = held.1;
        types = pictured.types;
        names = pictured.names;
        uniques = uniques_with T None (before ++ after) (ap first_value none) beside;
        owned = pictured.owned;
        are_owned = pictured.are_owned;
        loose = pictured.loose;
      } in
      let among : roots_before picture Listed.by_type before ++ owners_after picture Listed.by_type after ≡ owners_in later.picture = sym (owners_with picture Listed.by_type before [] after) in
      record {
        later = later;
        none = none;
        stays = frozen;
        keeps = keeps_others pictured later (λ o. o ≡ Origin.Unique T) refl
            (found_again pictured later (λ o. o ≡ Origin.Unique T) (λ name i r e. inr e) (λ U r e. again U r e (beside U) (U == T) refl) (λ q r e. inr e)) (subst (AllByRecursion (KeepsPaths old new picture.table)) among paths);
      }
    where
      again : (U : ℕ) (r : Root) → root_of_type pictured.picture.uniques U ≡ Some r → ((U == T) ≡ false → root_of_type (before ++ after) U ≡ root_of_type pictured.picture.uniques U) → (b : Bool) → (U == T) ≡ b
          → (Origin.Unique U ≡ Origin.Unique T) ⊎ (root_of_type (before ++ after) U ≡ Some r)
      again U r e beside true g = inl (ap Origin.Unique (eqb-true U T g))
      again U r e beside false g = inr (beside g ∙ e)
