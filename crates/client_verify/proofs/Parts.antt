-- Open parts, and the changes of registers around them.
--     innermost, innermost_set     the parts with the innermost first, and after it has changed
--     kept_in, steps_in            what is kept with an open part, and the steps before it
--     success_again                what the else part has doesn't change what the success part has
--     shares_itself                a packed class isn't that of frozen objects
use Rattle.std.proofs.Common.{◌≡◌, ℕ, zero, suc, ◌+◌, List, [], ◌∷◌, ◌++◌, length, map, reverse, take, get_or, set, refl, sym, ap, ◌∙◌, Bool, true, false, if◌then◌else◌, Option, Some, None, ◌==◌, arith}
use Rattle.std.proofs.lemmas.List.{take_more, take_more_set, take_all, length-set, map-append, reverse-append}
use Rattle.client_spec.specs.Typed.{Class, RegisterType, RegisterTypes, sharing}
use Rattle.client_spec.specs.declared.table.Role.{Role}
use Rattle.client_spec.specs.declared.table.Ends.{Ends}
use Rattle.client_spec.specs.declared.table.Ends.TheVariants as ends
use Rattle.client_verify.specs.declared.verifier.PartState.{PartState}
use Rattle.client_verify.specs.declared.verifier.PartState.TheVariants as part
use Rattle.client_verify.specs.Packing.{class_by}
use Rattle.client_verify.specs.Passing.{kept_with, steps_before}
use Rattle.client_verify.specs.Verifiers.{open_part}
use Rattle.client_verify.specs.Checking.{changed, changed_by, frozen_from, otherwise_by}

-- ---- the innermost part

module _ {X Y : Type 0} (view : X → Y) where
  ends_in : (xs : List X) (i : ℕ) (x : X) → take (i + 1) xs ≡ take i xs ++ x ∷ [] → length xs ≡ i + 1 → reverse (map view xs) ≡ view x ∷ reverse (map view (take i xs))
  ends_in xs i x e long =
      ap (λ ys. reverse (map view ys)) (sym (take_all (i + 1) xs (omega arith)) ∙ e)
      ∙ ap reverse (map-append view (take i xs) (x ∷ []))
      ∙ reverse-append (map view (take i xs)) (view x ∷ [])

  pub innermost : (xs : List X) (i : ℕ) (d : X) → length xs ≡ i + 1 → reverse (map view xs) ≡ view (get_or xs i d) ∷ reverse (map view (take i xs))
  innermost xs i d long = ends_in xs i (get_or xs i d) (take_more xs i d (omega arith)) long

  pub innermost_set : (xs : List X) (i : ℕ) (x : X) → length xs ≡ i + 1 → reverse (map view (set xs i x)) ≡ view x ∷ reverse (map view (take i xs))
  innermost_set xs i x long =
      let same = length-set xs i x in
      ap (λ ys. reverse (map view ys)) (sym (take_all (i + 1) (set xs i x) (omega arith)) ∙ take_more_set xs i x (omega arith))
      ∙ ap reverse (map-append view (take i xs) (x ∷ []))
      ∙ reverse-append (map view (take i xs)) (view x ∷ [])

pub kept_in : (p : PartState) (ks : RegisterTypes) (n : ℕ) → kept_with (open_part p ks n) ≡ ks
kept_in part.Success ks n = refl
kept_in (part.Else steps) ks n = refl
kept_in (part.Body turns) ks n = refl

pub steps_in : (p : PartState) (ks : RegisterTypes) (n : ℕ) → steps_before (open_part p ks n) ≡ n
steps_in part.Success ks n = refl
steps_in (part.Else steps) ks n = refl
steps_in (part.Body turns) ks n = refl

-- ---- the registers of both parts of an opener

set_again : (ks : RegisterTypes) (r : ℕ) (k l : RegisterType) → set (set ks r k) r l ≡ set ks r l
set_again [] r k l = refl
set_again (x ∷ ks) zero k l = refl
set_again (x ∷ ks) (suc r) k l = ap (λ ys. x ∷ ys) (set_again ks r k l)

set_around : (ks : RegisterTypes) (r c : ℕ) (k u l : RegisterType) → set (set (set ks r k) c u) r l ≡ set (set ks c u) r l
set_around [] r c k u l = refl
set_around (x ∷ ks) zero zero k u l = refl
set_around (x ∷ ks) zero (suc c) k u l = refl
set_around (x ∷ ks) (suc r) zero k u l = ap (λ ys. u ∷ ys) (set_again ks r k l)
set_around (x ∷ ks) (suc r) (suc c) k u l = ap (λ ys. x ∷ ys) (set_around ks r c k u l)

pub success_again : (given : Option (ℕ × RegisterType)) (role : Role) (e : Ends) (c : ℕ) (ks : RegisterTypes)
    → changed given (frozen_from e c (changed_by role given ks)) ≡ changed given (frozen_from e c ks)
success_again None role e c ks = refl
success_again (Some x) role ends.Frozen c ks = set_around ks x.0 c (otherwise_by role x.1) RegisterType.Undefined x.1
success_again (Some x) role e c ks = set_again ks x.0 (otherwise_by role x.1) x.1

-- ---- a packed class

shares : (first second : Bool) (n : ℕ) → let class = if first then Class.Name n else if second then Class.Unique n else Class.Register n in sharing class ≡ class
shares true second n = refl
shares false true n = refl
shares false false n = refl

pub shares_itself : (kind n : ℕ) → sharing (class_by kind n) ≡ class_by kind n
shares_itself kind n = shares (kind == 1) (kind == 2) n
