-- Rules that give the same in both parts of an opener. Instructions without an else part have such
-- rules.
use Rattle.std.proofs.Common.{◌≡◌, ℕ, Option, sym, ◌∙◌, ap}
use Rattle.std.specs.Prelude.{Ok}
use Rattle.seg_spec.specs.Types.{Form, Table}
use Rattle.client_spec.specs.Typed.{Class, RegisterType, Checked, RegisterTypes, Rule, known, reference_needed, form_needed, integer_needed, known_after, assigned, gives, combines}
use Rattle.client_spec.specs.Typed as typed
use Rattle.client_spec.proofs.Rows.RuleRowLaws.{bind_ok, Ok_inj}

-- The rule gives the same in both parts.
pub record Alike (r : Rule) : Type 0 where
  pub by : (good bad : RegisterTypes) → r ≡ Ok (good, bad) → good ≡ bad

pub alike_known : (ks : RegisterTypes) → Alike (known_after ks)
alike_known ks = record { by = λ good bad e. let p : (ks, ks) ≡ (good, bad) = Ok_inj e in sym (ap (λ (q : RegisterTypes × RegisterTypes). q.0) p) ∙ ap (λ (q : RegisterTypes × RegisterTypes). q.1) p }

pub alike_bind : {A : Type 0} (r : Checked A) (f : A → Rule) → ((x : A) → Alike (f x)) → Alike (typed.◌>>=◌ r f)
alike_bind r f h = record { by = λ good bad e. let p = bind_ok r f (good, bad) e in (h p.0).by good bad p.2 }

pub alike_gives : (a : ℕ) (k : RegisterType) (ks : RegisterTypes) → Alike (gives a k ks)
alike_gives a k ks = alike_bind (assigned a k ks) known_after (λ x. alike_known x)

pub alike_combines : (a b c : ℕ) (ks : RegisterTypes) → Alike (combines a b c ks)
alike_combines a b c ks =
    alike_bind (integer_needed (known ks b)) (λ _. typed.◌>>=◌ (integer_needed (known ks c)) (λ _. gives a RegisterType.Int ks))
    (λ _. alike_bind (integer_needed (known ks c)) (λ _. gives a RegisterType.Int ks) (λ _. alike_gives a RegisterType.Int ks))

pub alike_found : {A : Type 0} (types : Table) (f : Form → Option A) (g : Class × ℕ → A → Rule) (b : ℕ) (ks : RegisterTypes) → ((x : Class × ℕ) (y : A) → Alike (g x y))
    → Alike (typed.◌>>=◌ (reference_needed (known ks b)) (λ x. typed.◌>>=◌ (form_needed f types x.1) (λ y. g x y)))
alike_found types f g b ks h =
    alike_bind (reference_needed (known ks b)) (λ x. typed.◌>>=◌ (form_needed f types x.1) (λ y. g x y)) (λ x. alike_bind (form_needed f types x.1) (λ y. g x y) (h x))
