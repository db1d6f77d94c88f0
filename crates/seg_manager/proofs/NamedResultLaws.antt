-- The results of making or finding a named object.
use Rattle.std.proofs.Common.{◌≡◌, ℕ, inl, inr, Bool, true, false, List, Option, Some, None, Result, Ok, Err, MatchResult, IfOk, refl, sym, ap, ◌∙◌, subst, arith}
use Rattle.std.specs.Prelude.{◌==◌, if◌then◌else◌, IsSome, IsOkUnless}
use Rattle.std.proofs.lemmas.Bool.Decides.{nat_tests}
use Rattle.std.proofs.lemmas.Result.{MatchResult-at_err}
use Rattle.seg_spec.specs.Index.{Root, root_named}
use Rattle.seg_spec.specs.Sound.{Picture}
use Rattle.seg_spec.specs.Spending.{object_asks}
use Rattle.seg_raw.specs.declared.code.Code.{Code}
use Rattle.seg_raw.specs.declared.code.Code.TheVariants as code
use Rattle.seg_value.specs.Stored.{Stored}
use Rattle.seg_manager.specs.NamedObjects.{found_of, found_as, IsMissing, IsCount, RefusesName, FindsOrMakesNamed, RefusesToFind}
use Rattle.seg_manager.specs.NewNamed.{MakesNamed, FindsNoRoom}
use Rattle.seg_manager.specs.declared.names.Found.{Found}

pub is_there : (o : Option Root) (root : Root) → o ≡ Some root → IsSome o
is_there o root e = subst IsSome (sym e) refl

pub not_both : (o : Option Root) (root : Root) → o ≡ None → o ≡ Some root → ⊥
not_both o root none some = let both : None ≡ Some root = sym none ∙ some in cc

-- the only possible error is that there is no room
module _ (r : Result ℕ Code) where
  pub made_named : (old new : Stored) (names : List Root) (name : List ℕ) (n : ℕ) → IsOkUnless r code.BadAlloc → IsMissing names name → IsCount n
      → MatchResult r (λ _. IsMissing names name × IsCount n) (RefusesName old new names name n)
  made_named old new names name n only missing many = go r only
    where
      go : (s : Result ℕ Code) → IsOkUnless s code.BadAlloc → MatchResult s (λ _. IsMissing names name × IsCount n) (RefusesName old new names name n)
      go (Ok x) h = (missing, many)
      go (Err e) h = subst (RefusesName old new names name n) (sym h) (missing, many)

  pub made_missing : (old new : Stored) (names : List Root) (name : List ℕ) (T : ℕ) → IsOkUnless r code.BadAlloc → IsMissing names name
      → MatchResult r (FindsOrMakesNamed old new names name T) (RefusesToFind old new names name T)
  made_missing old new names name T only missing = go r only
    where
      go : (s : Result ℕ Code) → IsOkUnless s code.BadAlloc → MatchResult s (FindsOrMakesNamed old new names name T) (RefusesToFind old new names name T)
      go (Ok x) h = inr missing
      go (Err e) h = subst (RefusesToFind old new names name T) (sym h) missing

-- ---- the result of a search for an object

module _ (T : ℕ) (root : Root) where
  pub was_found : (f : Found) → Ok f ≡ found_as T (Some root) → (root.type ≡ T) × (root.at ≡ f.at)
  was_found f e = go (root.type == T) refl
    where
      go : (b : Bool) → (root.type == T) ≡ b → (root.type ≡ T) × (root.at ≡ f.at)
      go true is =
          let same : root.type ≡ T = grind (arith, nat_tests) in
          let both : Ok f ≡ Ok (found_of root) = e ∙ ap (λ b. if b then Ok (found_of root) else Err code.OtherType) is in
          (same, sym (ap (λ (g : Found). g.at) (let one : f ≡ found_of root = cc in one)))
      go false is = absurd (let both : Ok f ≡ Err code.OtherType = e ∙ ap (λ b. if b then Ok (found_of root) else Err code.OtherType) is in cc)

  pub was_other : (c : Code) → Err c ≡ found_as T (Some root) → c ≡ code.OtherType
  was_other c e = go (root.type == T) refl
    where
      go : (b : Bool) → (root.type == T) ≡ b → c ≡ code.OtherType
      go true is = absurd (let both : Err c ≡ Ok (found_of root) = e ∙ ap (λ b. if b then Ok (found_of root) else Err code.OtherType) is in cc)
      go false is = let both : Err c ≡ Err code.OtherType = e ∙ ap (λ b. if b then Ok (found_of root) else Err code.OtherType) is in cc

  pub found_is : (s : Stored) (names : List Root) (name : List ℕ) (f : Found) → root_named names name ≡ Some root → Ok f ≡ found_as T (Some root) → FindsOrMakesNamed s s names name T f.at
  found_is s names name f there e = let it = was_found f e in inl (root, there, it.0, it.1, refl)

  pub other_is : (s : Stored) (names : List Root) (name : List ℕ) (c : Code) → root_named names name ≡ Some root → Err c ≡ found_as T (Some root) → RefusesToFind s s names name T c
  other_is s names name c there e =
      let is = was_other c e in
      subst (RefusesToFind s s names name T) (sym is) (ap (found_as T) there ∙ sym e ∙ ap Err is, refl)

-- the same results, if the name and the count are equal
module _ (allocator : ℕ) (old new : Stored) (picture : Picture) (index_blocks : List ℕ) (T : ℕ) (r : Result ℕ Code) (name other : List ℕ) (n m : ℕ) (e : other ≡ name) (f : m ≡ n)
    (h : MatchResult r (MakesNamed allocator old new picture index_blocks other T m) (λ _. FindsNoRoom allocator old new picture (object_asks old.window.bytes old.types T m other))) where
  pub made_as : IfOk r (MakesNamed allocator old new picture index_blocks name T n)
  made_as =
      subst (λ k. IfOk r (MakesNamed allocator old new picture index_blocks name T k)) f (subst (λ x. IfOk r (MakesNamed allocator old new picture index_blocks x T m)) e (go r h))
    where
      go : (s : Result ℕ Code) → MatchResult s (MakesNamed allocator old new picture index_blocks other T m) (λ _. FindsNoRoom allocator old new picture (object_asks old.window.bytes old.types T m other))
          → IfOk s (MakesNamed allocator old new picture index_blocks other T m)
      go (Ok x) k = k
      go (Err c) k = tt

  pub lacks_as : r ≡ Err code.BadAlloc → FindsNoRoom allocator old new picture (object_asks old.window.bytes old.types T n name)
  lacks_as is = rw (← e, ← f) (MatchResult-at_err _ _ _ is h)
