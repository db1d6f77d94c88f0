-- A new object's value has no shared cells: clients see a default value, in which no owner owns anything.
use Rattle.std.proofs.Common.{◌≡◌, ℕ, zero, suc, ◌+◌, List, [], ◌∷◌, ◌++◌, length, get_or, ℤ, pos, refl, sym, ap, ◌∙◌, arith}
use Rattle.std.specs.List.{AllByRecursion}
use Rattle.seg_spec.specs.Bytes.{word}
use Rattle.seg_spec.specs.Header.{next_word}
use Rattle.seg_spec.specs.Types.{Form, Table, built}
use Rattle.seg_spec.specs.Value.{Label, Value, node, Values, nil, cons, Int, Full, copies, field_defaults, default_by, default_of}
use Rattle.seg_spec.specs.Reads.{Place}
use Rattle.seg_spec.specs.Shared.{names_in, names_each, IsBelow, replaced, replaced_each}
use Rattle.seg_spec.proofs.Frozen.UnfoldedTreeLaws.{found}
use Rattle.seg_spec.proofs.Images.LooseRootLaws.{each_joined}
use Rattle.seg_spec.proofs.Values.PlaceFrameLaws.{each_left, each_right, each_weaker}
use Rattle.client_spec.specs.Machine.{State}
use Rattle.client_spec.specs.Pictures.{Pictures, meaning_in}
use Rattle.client_spec.proofs.Unfolded.UnfoldedValueLaws.{nothing_replaced, nothing_each}
use Rattle.client_sim.proofs.Frozen.FrozenPlaceLaws.{frozen_means}
use Rattle.seg_spec.specs.Index.{Root}

-- ---- the owners in a value that own something

unfoldable mutual
  owners_inside : Value → ℕ
  owners_inside (node Label.opt (cons v vs)) = 1
  owners_inside (node label vs) = owners_each vs

  owners_each : Values → ℕ
  owners_each nil = 0
  owners_each (cons v vs) = owners_inside v + owners_each vs

abbrev OwnsNothing : Value → Type 0
OwnsNothing v = owners_inside v ≡ 0

int_nothing : (k : ℤ) → OwnsNothing (Int k)
unfolding owners_inside owners_each
int_nothing k = refl

get_nothing : (vs : List Value) (T : ℕ) → AllByRecursion OwnsNothing vs → OwnsNothing (get_or vs T (Int (pos 0)))
get_nothing [] T a = int_nothing (pos 0)
get_nothing (v ∷ vs) zero a = a.0
get_nothing (v ∷ vs) (suc T) a = get_nothing vs T a.1

fields_nothing : (before : List Value) (Us : List ℕ) → AllByRecursion OwnsNothing before → owners_each (field_defaults before Us) ≡ 0
unfolding owners_inside owners_each
fields_nothing before [] a = refl
fields_nothing before (U ∷ Us) a = omega (arith, get_nothing before U a, fields_nothing before Us a)

form_nothing : (T : ℕ) (before : List Value) (form : Form) → AllByRecursion OwnsNothing before → OwnsNothing (default_by T before form)
unfolding owners_inside owners_each
form_nothing T before Form.i64 a = refl
form_nothing T before Form.str a = refl
form_nothing T before (Form.vec U) a = refl
form_nothing T before (Form.list U) a = refl
form_nothing T before (Form.flat_map U) a = refl
form_nothing T before (Form.map U) a = refl
form_nothing T before (Form.own U) a = refl
form_nothing T before (Form.struct Us) a = fields_nothing before Us a
form_nothing T before (Form.shared U) a = refl

built_nothing : (before : List Value) (table : Table) → AllByRecursion OwnsNothing before → AllByRecursion OwnsNothing (built default_by before table)
built_nothing before [] a = a
built_nothing before (form ∷ table) a =
    built_nothing (before ++ default_by (length before) before form ∷ []) table
    (each_joined OwnsNothing before (default_by (length before) before form ∷ []) a (form_nothing (length before) before form a, tt))

default_nothing : (table : Table) (T : ℕ) → OwnsNothing (default_of table T)
unfolding default_of
default_nothing table T = get_nothing (built default_by [] table) T (built_nothing [] table tt)

copies_nothing : (table : Table) (T n : ℕ) → owners_each (copies n (default_of table T)) ≡ 0
unfolding owners_inside owners_each
copies_nothing table T zero = refl
copies_nothing table T (suc n) = omega (arith, default_nothing table T, copies_nothing table T n)

-- ---- shared cells, of which clients see owners

module _ (m : ℕ → Value) where
  mutual
    unfolding names_in replaced owners_inside

    no_names : (v : Value) → AllByRecursion (λ (q : Place). (w : Value) × (m q.at ≡ Full w)) (names_in v) → owners_inside (replaced m v) ≡ 0 → names_in v ≡ []
    no_names (node (Label.shared T p) vs) a e = (let f : ◌≡◌ {A = ℕ} 1 0 = sym (ap owners_inside a.0.1) ∙ e in cc)
    no_names (node (Label.int k) vs) a e = no_names_each vs a e
    no_names (node (Label.text bytes) vs) a e = no_names_each vs a e
    no_names (node Label.seq vs) a e = no_names_each vs a e
    no_names (node (Label.map keys) vs) a e = no_names_each vs a e
    no_names (node Label.opt nil) a e = refl
    no_names (node Label.opt (cons v vs)) a e = cc
    no_names (node Label.struct vs) a e = no_names_each vs a e

    no_names_each : (vs : Values) → AllByRecursion (λ (q : Place). (w : Value) × (m q.at ≡ Full w)) (names_each vs) → owners_each (replaced_each m vs) ≡ 0 → names_each vs ≡ []
    no_names_each nil a e = refl
    no_names_each (cons v vs) a e =
        let first = no_names v (each_left (λ (q : Place). (w : Value) × (m q.at ≡ Full w)) (names_in v) (names_each vs) a) (omega (arith, e)) in
        let rest = no_names_each vs (each_right (λ (q : Place). (w : Value) × (m q.at ≡ Full w)) (names_in v) (names_each vs) a) (omega (arith, e)) in
        λ j. first j ++ rest j

-- a value of an image of which clients see a default value is that value
module _ {others : List Root} {s : State} {bytes : List ℕ} (p : Pictures others s bytes) where
  seen_full : (q : Place) → IsBelow (word bytes next_word) p.picture.frozen q → (w : Value) × (meaning_in (word bytes next_word) p.picture q.at ≡ Full w)
  seen_full q b =
      let f = found (word bytes next_word) p.picture.frozen q p.counted.counted.distinct p.counted.counted.falling b in
      (replaced (meaning_in (word bytes next_word) p.picture) f.object.value, frozen_means p (word bytes next_word) q f.object.value b f.value_is)

  pub default_cells : (v : Value) (table : Table) (T : ℕ) → AllByRecursion (IsBelow (word bytes next_word) p.picture.frozen) (names_in v) → replaced (meaning_in (word bytes next_word) p.picture) v ≡ default_of table T
      → (names_in v ≡ []) × (v ≡ default_of table T)
  default_cells v table T below same =
      let m = meaning_in (word bytes next_word) p.picture in
      let none = no_names m v (each_weaker (IsBelow (word bytes next_word) p.picture.frozen) (λ (q : Place). (w : Value) × (m q.at ≡ Full w)) seen_full (names_in v) below)
      (ap owners_inside same ∙ default_nothing table T) in
      (none, sym (nothing_replaced m v none) ∙ same)

  -- the same of several values
  pub default_cells_each : (vs : Values) (table : Table) (T n : ℕ) → AllByRecursion (IsBelow (word bytes next_word) p.picture.frozen) (names_each vs)
      → replaced_each (meaning_in (word bytes next_word) p.picture) vs ≡ copies n (default_of table T) → (names_each vs ≡ []) × (vs ≡ copies n (default_of table T))
  default_cells_each vs table T n below same =
      let m = meaning_in (word bytes next_word) p.picture in
      let none = no_names_each m vs (each_weaker (IsBelow (word bytes next_word) p.picture.frozen) (λ (q : Place). (w : Value) × (m q.at ≡ Full w)) seen_full (names_each vs) below)
      (ap owners_each same ∙ copies_nothing table T n) in
      (none, sym (nothing_each m vs none) ∙ same)

-- the cells of a single value
pub one_names : (v : Value) → names_each (cons v nil) ≡ names_in v ++ []
unfolding names_each
one_names v = refl
