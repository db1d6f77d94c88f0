-- Constants that follow each other in a file.
use Rattle.std.proofs.Common.{◌≡◌, ◌≢◌, ℕ, ◌+◌, ◌<◌, ◌≤◌, List, [], ◌∷◌, ◌++◌, length, drop, get_or, refl, sym, ap, ◌∙◌, subst, arith, inl, inr, append_assoc, append-nil}
use Rattle.std.specs.Prelude.{⊤, flat_map, All, AllPairs}
use Rattle.std.specs.List.{AllByRecursion}
use Rattle.std.proofs.lemmas.Bool.{cases_lt}
use Rattle.std.proofs.lemmas.List.{length-append, flat_map_more, get_or_append_left, get_or_push, get_or_at, length_push}
use Rattle.std.proofs.lemmas.List.Elements.{All-push}
use Rattle.client_spec.specs.Syntax.{Constant}
use Rattle.client_spec.specs.Grammar.{constant_bytes, IsConstant, Differ}
use Rattle.client_spec.proofs.Spelling.OneClientLaws.{constant_front}
use Rattle.client_code.specs.declared.constant.ConstantKind.{ConstantKind}
use Rattle.client_code.specs.declared.constant.ConstantKind.TheVariants as kind
use Rattle.client_code.specs.Views.{constant_by, constant_kind_of}
use Rattle.client_code.specs.Files.{AreConstants}

-- two lists with the same spelling after a common prefix are equal, if each element has one
-- spelling
pub fronts : {A : Type 0} (f : A → List ℕ) (P : A → Type 0) → ((x y : A) (us vs : List ℕ) → P x → P y → f x ++ us ≡ f y ++ vs → (x ≡ y) × (us ≡ vs))
    → (xs ys : List A) (us vs : List ℕ) → AllByRecursion P xs → AllByRecursion P ys → length xs ≤ length ys → flat_map f xs ++ us ≡ flat_map f ys ++ vs
    → (more : List A) × (ys ≡ xs ++ more) × (us ≡ flat_map f more ++ vs)
fronts f P one [] ys us vs p q l e = (ys, refl, e)
fronts f P one (x ∷ xs) [] us vs p q l e = absurd (omega arith)
fronts f P one (x ∷ xs) (y ∷ ys) us vs p q l e =
    let h = one x y (flat_map f xs ++ us) (flat_map f ys ++ vs) p.0 q.0 (sym (append_assoc (f x) (flat_map f xs) us) ∙ e ∙ append_assoc (f y) (flat_map f ys) vs) in
    let r = fronts f P one xs ys us vs p.1 q.1 (omega arith) h.1 in
    (r.0, ap (λ z. z ∷ ys) (sym h.0) ∙ ap (λ zs. x ∷ zs) r.1, r.2)

pub any : {A : Type 0} (xs : List A) → AllByRecursion (λ x. ⊤) xs
any [] = tt
any (x ∷ xs) = (tt, any xs)

pub begins : (file : List ℕ) (at : ℕ) → AreConstants file at [] at
begins file at = record { spelled = refl; place = omega arith; each = λ k d h. absurd (omega arith); different = λ i j d h l. absurd (omega arith) }

pairs_push : (cs : List Constant) (c : Constant) → AllPairs Differ cs → All (λ other. Differ other c) cs → AllPairs Differ (cs ++ c ∷ [])
pairs_push cs c pairs differs i j d l h =
    let long = length_push cs c in
    let left : get_or (cs ++ c ∷ []) i d ≡ get_or cs i d = get_or_append_left cs (c ∷ []) d i (omega arith) in
    elim (cases_lt j (length cs)) [
      | inl inside ↦ (
          let right : get_or (cs ++ c ∷ []) j d ≡ get_or cs j d = get_or_append_left cs (c ∷ []) d j inside in
          subst (λ x. Differ x (get_or (cs ++ c ∷ []) j d)) (sym left) (subst (λ y. Differ (get_or cs i d) y) (sym right) (pairs i j d l inside))
          )
      | inr last ↦ (
          let right : get_or (cs ++ c ∷ []) j d ≡ c = get_or_push cs c d j (omega arith) in
          subst (λ x. Differ x (get_or (cs ++ c ∷ []) j d)) (sym left) (subst (λ y. Differ (get_or cs i d) y) (sym right) (differs i d (omega arith)))
          )
    ]

-- if another constant follows some constants, then with it they are constants too
pub one_more : (file : List ℕ) (at next following : ℕ) (cs : List Constant) (c : Constant) → AreConstants file at cs next
    → drop next file ≡ constant_bytes c ++ drop following file → IsConstant c → following ≡ next + length (constant_bytes c) → All (λ other. Differ other c) cs
    → AreConstants file at (cs ++ c ∷ []) following
one_more file at next following cs c so_far spelled right place differs =
    let flat : flat_map constant_bytes cs ++ constant_bytes c ≡ flat_map constant_bytes (cs ++ c ∷ []) = flat_map_more constant_bytes [] cs c in
    let long = length-append (flat_map constant_bytes cs) (constant_bytes c) in
    let same = ap length flat in
    let start = so_far.place in
    record {
      spelled = so_far.spelled ∙ ap (λ xs. flat_map constant_bytes cs ++ xs) spelled ∙ sym (append_assoc (flat_map constant_bytes cs) (constant_bytes c) (drop following file)) ∙ ap (λ xs. xs ++ drop following file) flat;
      place = omega arith;
      each = All-push IsConstant cs c so_far.each right;
      different = pairs_push cs c so_far.different differs;
    }

pub last_of : (P : Constant → Type 0) (cs more : List Constant) (c : Constant) → All P (cs ++ c ∷ more) → P c
last_of P cs more c all =
    let long = length-append cs (c ∷ more) in
    subst P (get_or_at cs c more c (length cs) refl) (all (length cs) c (omega arith))

last_differs : (cs more : List Constant) (c : Constant) → AllPairs Differ (cs ++ c ∷ more) → All (λ other. Differ other c) cs
last_differs cs more c pairs k d h =
    let long = length-append cs (c ∷ more) in
    let p = pairs k (length cs) d h (omega arith) in
    subst (λ x. Differ x c) (get_or_append_left cs (c ∷ more) d k h) (subst (λ y. Differ (get_or (cs ++ c ∷ more) k d) y) (get_or_at cs c more d (length cs) refl) p)

-- no constants follow a position at which there is no valid constant
pub none_more : (file : List ℕ) (at next following : ℕ) (cs ds : List Constant) → AreConstants file at cs next
    → ((c : Constant) (rest : List ℕ) → IsConstant c → All (λ other. Differ other c) cs → drop next file ≢ constant_bytes c ++ rest) → length cs < length ds
    → AreConstants file at ds following → ⊥
none_more file at next following cs ds so_far none few all =
    let f = fronts constant_bytes (λ c. ⊤) (λ c d us vs p q e. constant_front c d us vs e) cs ds (drop next file) (drop following file) (any cs) (any ds) (omega arith) (sym so_far.spelled ∙ all.spelled) in
    found f.0 (ap length f.1) f.1 f.2
  where
    found : (more : List Constant) → length ds ≡ length (cs ++ more) → ds ≡ cs ++ more → drop next file ≡ flat_map constant_bytes more ++ drop following file → ⊥
    found [] n e s = absurd (omega (arith, length-append {A = Constant}))
    found (c ∷ more) n e s =
        let each = subst (All IsConstant) e all.each in
        let different = subst (AllPairs Differ) e all.different in
        none c (flat_map constant_bytes more ++ drop following file) (last_of IsConstant cs more c each) (last_differs cs more c different) (s ∙ append_assoc (constant_bytes c) (flat_map constant_bytes more) (drop following file))

-- ---- constants that are read a second time

-- the state after the first of some constants, which end at a position
pub record Walk (file : List ℕ) (cs : List Constant) (end next : ℕ) (front : List Constant) : Type 0 where
  pub rest : List Constant
  pub whole : cs ≡ front ++ rest
  pub remaining : drop next file ≡ flat_map constant_bytes rest ++ drop end file

pub walk_starts : (file : List ℕ) (at end : ℕ) (cs : List Constant) → AreConstants file at cs end → Walk file cs end at []
walk_starts file at end cs are = record { rest = cs; whole = refl; remaining = are.spelled }

pub walk_on : (file : List ℕ) (cs : List Constant) (end next following : ℕ) (front : List Constant) (c : Constant) → Walk file cs end next front → length front < length cs
    → drop next file ≡ constant_bytes c ++ drop following file → Walk file cs end following (front ++ c ∷ [])
walk_on file cs end next following front c walk few spelled = go walk.rest walk.whole walk.remaining
  where
    go : (rest : List Constant) → cs ≡ front ++ rest → drop next file ≡ flat_map constant_bytes rest ++ drop end file → Walk file cs end following (front ++ c ∷ [])
    go [] whole remaining = absurd (let n = ap length whole in let m = length-append front [] in omega arith)
    go (d ∷ rest) whole remaining =
        let one = constant_front c d (drop following file) (flat_map constant_bytes rest ++ drop end file)
        (sym spelled ∙ remaining ∙ append_assoc (constant_bytes d) (flat_map constant_bytes rest) (drop end file)) in
        record { rest = rest; whole = whole ∙ ap (λ x. front ++ x ∷ rest) (sym one.0) ∙ sym (append_assoc front (c ∷ []) rest); remaining = one.1 }

pub walk_never : (file : List ℕ) (cs : List Constant) (end next : ℕ) (front : List Constant) → Walk file cs end next front → length front < length cs → All IsConstant cs
    → ((c : Constant) (rest : List ℕ) → IsConstant c → drop next file ≢ constant_bytes c ++ rest) → ⊥
walk_never file cs end next front walk few right none = go walk.rest walk.whole walk.remaining
  where
    go : (rest : List Constant) → cs ≡ front ++ rest → drop next file ≡ flat_map constant_bytes rest ++ drop end file → ⊥
    go [] whole remaining = let n = ap length whole in let m = length-append front [] in omega arith
    go (d ∷ rest) whole remaining =
        none d (flat_map constant_bytes rest ++ drop end file) (last_of IsConstant front rest d (subst (All IsConstant) whole right))
        (remaining ∙ append_assoc (constant_bytes d) (flat_map constant_bytes rest) (drop end file))

-- the last constant read is one of them
pub walk_last : (P : Constant → Type 0) (file : List ℕ) (cs : List Constant) (end next : ℕ) (front : List Constant) (c : Constant) → Walk file cs end next (front ++ c ∷ []) → All P cs → P c
walk_last P file cs end next front c walk all = last_of P front walk.rest c (subst (All P) (walk.whole ∙ append_assoc front (c ∷ []) walk.rest) all)

pub walk_done : (file : List ℕ) (cs : List Constant) (end next : ℕ) (front : List Constant) → Walk file cs end next front → length front ≡ length cs → front ≡ cs
walk_done file cs end next front walk same = go walk.rest walk.whole
  where
    go : (rest : List Constant) → cs ≡ front ++ rest → front ≡ cs
    go [] whole = sym (whole ∙ append-nil front)
    go (d ∷ rest) whole = absurd (let n = ap length whole in let m = length-append front (d ∷ rest) in omega arith)

-- ---- kinds

pub kind_by : (k : ConstantKind) (bytes : List ℕ) → constant_kind_of (constant_by k bytes) ≡ k
kind_by kind.Text bytes = refl
kind_by kind.Name bytes = refl
kind_by kind.Family bytes = refl

-- a text differs from every other constant
pub text_differs : (x : Constant) (k : ConstantKind) (bytes : List ℕ) → k ≡ kind.Text → Differ x (constant_by k bytes)
text_differs (Constant.Text y) kind.Text bytes e = tt
text_differs (Constant.Name y) kind.Text bytes e = tt
text_differs (Constant.Family y) kind.Text bytes e = tt
text_differs x kind.Name bytes e = cc
text_differs x kind.Family bytes e = cc
