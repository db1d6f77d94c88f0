-- At most one table has these bytes.
use Rattle.std.proofs.Common.{◌≡◌, ℕ, zero, suc, ◌≤◌, ◌==◌, if◌then◌else◌, List, [], ◌∷◌, ◌++◌, length, get_or, take, drop, replicate, refl, sym, ap, ◌∙◌, arith, lit≤}
use Rattle.std.specs.Prelude.{flat_map}
use Rattle.std.specs.List.{AllByRecursion}
use Rattle.std.proofs.lemmas.List.{append_assoc, take_at, drop_at, length-append, length-replicate}
use Rattle.seg_spec.specs.Types.{Form, Table, IsForm, IsTable, form_bytes, HasTable}
use Rattle.seg_spec.proofs.Tables.TypeSizeLaws.{all_forms}

-- the form that 16 bytes spell
pick_form : ℕ → ℕ → List ℕ → Form
pick_form kind U parts =
    if kind == 1 then Form.i64 else (if kind == 2 then Form.str else (if kind == 3 then Form.vec U else
    (if kind == 4 then Form.list U else (if kind == 5 then Form.flat_map U else (if kind == 6 then Form.map U else (if kind == 7 then Form.own U else (if kind == 9 then Form.shared U else Form.struct parts)))))))

pub form_from : List ℕ → Form
form_from xs = pick_form (get_or xs 0 0) (get_or xs 2 0) (take (get_or xs 1 0) (drop 2 xs))

pub form_from-form_bytes : (f : Form) → form_from (form_bytes f) ≡ f
unfolding form_from pick_form
form_from-form_bytes Form.i64 = refl
form_from-form_bytes Form.str = refl
form_from-form_bytes (Form.vec U) = refl
form_from-form_bytes (Form.list U) = refl
form_from-form_bytes (Form.flat_map U) = refl
form_from-form_bytes (Form.map U) = refl
form_from-form_bytes (Form.own U) = refl
form_from-form_bytes (Form.shared U) = refl
form_from-form_bytes (Form.struct Us) = ap Form.struct (take_at Us _ (length Us) refl)

pub length-form_bytes : (n k : ℕ) (f : Form) → IsForm n k f → length (form_bytes f) ≡ 16
length-form_bytes n k Form.i64 h = refl
length-form_bytes n k Form.str h = refl
length-form_bytes n k (Form.vec U) h = refl
length-form_bytes n k (Form.list U) h = refl
length-form_bytes n k (Form.flat_map U) h = refl
length-form_bytes n k (Form.map U) h = refl
length-form_bytes n k (Form.own U) h = refl
length-form_bytes n k (Form.shared U) h = refl
length-form_bytes n k (Form.struct Us) h = simp (length-append, length-replicate) (omega (arith, h.1))

pub kind_not_zero : (f : Form) (rest : List ℕ) → 1 ≤ get_or (form_bytes f ++ rest) 0 0
kind_not_zero Form.i64 rest = lit≤ tt
kind_not_zero Form.str rest = lit≤ tt
kind_not_zero (Form.vec U) rest = lit≤ tt
kind_not_zero (Form.list U) rest = lit≤ tt
kind_not_zero (Form.flat_map U) rest = lit≤ tt
kind_not_zero (Form.map U) rest = lit≤ tt
kind_not_zero (Form.own U) rest = lit≤ tt
kind_not_zero (Form.shared U) rest = lit≤ tt
kind_not_zero (Form.struct Us) rest = lit≤ tt

abbrev zeros : ℕ → List ℕ
zeros k = replicate k 0

abbrev first_of : List ℕ → ℕ
first_of xs = get_or xs 0 0

zero_first : (k : ℕ) → first_of (zeros k) ≡ 0
zero_first zero = refl
zero_first (suc k) = refl

abbrev pub IsLong : Form → Type 0
IsLong f = length (form_bytes f) ≡ 16

pub spelled_one : (t u : Table) (k m : ℕ) → AllByRecursion IsLong t → AllByRecursion IsLong u → flat_map form_bytes t ++ replicate k 0 ≡ flat_map form_bytes u ++ replicate m 0 → t ≡ u
spelled_one [] [] k m a b e = refl
spelled_one [] (g ∷ us) k m a b e =
    let kind = kind_not_zero g (flat_map form_bytes us ++ replicate m 0) in
    let same : first_of (zeros k) ≡ first_of (form_bytes g ++ (flat_map form_bytes us ++ replicate m 0)) = ap first_of (e ∙ append_assoc (form_bytes g) (flat_map form_bytes us) (replicate m 0)) in
    absurd (omega (arith, zero_first k))
spelled_one (f ∷ ts) [] k m a b e =
    let kind = kind_not_zero f (flat_map form_bytes ts ++ replicate k 0) in
    let same : first_of (zeros m) ≡ first_of (form_bytes f ++ (flat_map form_bytes ts ++ replicate k 0)) = ap first_of (sym e ∙ append_assoc (form_bytes f) (flat_map form_bytes ts) (replicate k 0)) in
    absurd (omega (arith, zero_first m))
spelled_one (f ∷ ts) (g ∷ us) k m a b e =
    let all : form_bytes f ++ (flat_map form_bytes ts ++ replicate k 0) ≡ form_bytes g ++ (flat_map form_bytes us ++ replicate m 0) = sym (append_assoc (form_bytes f) (flat_map form_bytes ts) (replicate k 0)) ∙ e ∙
    append_assoc (form_bytes g) (flat_map form_bytes us) (replicate m 0) in
    let heads : form_bytes f ≡ form_bytes g = sym (take_at (form_bytes f) (flat_map form_bytes ts ++ replicate k 0) 16 a.0) ∙ ap (take 16) all ∙ take_at (form_bytes g) (flat_map form_bytes us ++ replicate m 0) 16 b.0 in
    let tails = sym (drop_at (form_bytes f) (flat_map form_bytes ts ++ replicate k 0) 16 a.0) ∙ ap (drop 16) all ∙ drop_at (form_bytes g) (flat_map form_bytes us ++ replicate m 0) 16 b.0 in
    let first : f ≡ g = sym (form_from-form_bytes f) ∙ ap form_from heads ∙ form_from-form_bytes g in
    let rest : ts ≡ us = spelled_one ts us k m a.1 b.1 tails in
    cc

pub HasTable-one : (bytes : List ℕ) (at : ℕ) (t u : Table) → IsTable t → IsTable u → HasTable bytes at t → HasTable bytes at u → t ≡ u
HasTable-one bytes at t u v w h k =
    spelled_one t u _ _ (all_forms IsLong t (λ T f e. length-form_bytes (length t) T f (v.forms T f e))) (all_forms IsLong u (λ T f e. length-form_bytes (length u) T f (w.forms T f e))) (sym h ∙ k)
