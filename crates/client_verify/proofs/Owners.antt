-- Ending references doesn't change which registers own an object.
use Rattle.std.proofs.Common.{◌≡◌, ℕ, get_or, refl, sym, ap, ◌∙◌, Bool, true, false}
use Rattle.std.specs.Prelude.{if◌then◌else◌, slice_set}
use Rattle.std.proofs.Math.ListN.{get_or-map}
use Rattle.std.proofs.Math.Seq.{map-set_same}
use Rattle.client_spec.specs.Typed.{Class, RegisterType, RegisterTypes, known, same_class, sharing, is_owner, without_class, ended, others_ended}

cut_off : (b : Bool) (x : Class) (t : ℕ) → is_owner (if b then RegisterType.Undefined else RegisterType.Reference x t) ≡ false
cut_off true x t = refl
cut_off false x t = refl

owner_without : (x : Class) (k : RegisterType) → is_owner (without_class x k) ≡ is_owner k
owner_without x RegisterType.Undefined = refl
owner_without x RegisterType.Int = refl
owner_without x (RegisterType.Reference y t) = cut_off (same_class x (sharing y)) y t
owner_without x (RegisterType.Owner t) = refl

pub owner_kept : (x : Class) (ks : RegisterTypes) (a : ℕ) → is_owner (known (ended x ks) a) ≡ is_owner (known ks a)
owner_kept x ks a = ap is_owner (get_or-map (without_class x) ks a RegisterType.Undefined) ∙ owner_without x (known ks a)

pub owner_kept_but : (x : Class) (b : ℕ) (ks : RegisterTypes) (a : ℕ) → is_owner (known (others_ended x b ks) a) ≡ is_owner (known ks a)
owner_kept_but x b ks a =
    let es = ended (sharing x) ks in
    let same = map-set_same is_owner es b (known ks b) RegisterType.Undefined (sym (owner_kept (sharing x) ks b)) in
    sym (get_or-map is_owner (slice_set es b (known ks b)) a RegisterType.Undefined)
    ∙ ap (λ owners. get_or owners a false) same ∙ get_or-map is_owner es a RegisterType.Undefined ∙ owner_kept (sharing x) ks a
