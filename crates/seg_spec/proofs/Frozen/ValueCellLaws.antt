-- The shared cells in values that an instruction puts in the place of others.
use Rattle.std.proofs.Common.{◌≡◌, ℕ, zero, suc, ◌-◌, ℤ, List, [], ◌++◌, Some, refl, sym, ◌∙◌, ap, subst, arith}
use Rattle.std.specs.Prelude.{slice_get}
use Rattle.std.proofs.lemmas.List.{append-nil}
use Rattle.seg_spec.specs.Types.{Table}
use Rattle.seg_spec.specs.Value.{Label, Value, node, Values, nil, cons, count, nth, append, Int, Text, Seq, Map, Empty, Full}
use Rattle.seg_spec.specs.Items.{without_last, insert_nth, remove_nth}
use Rattle.seg_spec.specs.Reads.{Place, Opened, Opens, Holds, holds, HoldsEach, holds_none, holds_more}
use Rattle.seg_spec.specs.Spending.{PartBlocks}
use Rattle.seg_spec.specs.Shared.{names_in, names_each}
use Rattle.seg_spec.proofs.Values.OneValueLaws.{Opens-one, Holds-one}
use Rattle.seg_spec.proofs.Frozen.PartCountLaws.{SameNames, names_same, names_then, names_joined, names_first, names_cons}

pub names_int : (k : ℤ) → names_in (Int k) ≡ []
unfolding names_in names_each
names_int k = refl

pub names_text : (bytes : List ℕ) → names_in (Text bytes) ≡ []
unfolding names_in names_each
names_text bytes = refl

pub names_seq : (vs : Values) → names_in (Seq vs) ≡ names_each vs
unfolding names_in names_each
names_seq vs = refl

pub names_map : (keys : List ℤ) (vs : Values) → names_in (Map keys vs) ≡ names_each vs
unfolding names_in names_each
names_map keys vs = refl

pub names_empty : names_in Empty ≡ []
unfolding names_in names_each
names_empty = refl

pub names_full : (v : Value) → names_in (Full v) ≡ names_in v
unfolding names_in names_each
names_full v = append-nil (names_in v)

pub names_one : (v : Value) → names_each (cons v nil) ≡ names_in v
unfolding names_each
names_one v = append-nil (names_in v)

-- ---- a value without shared cells is added

pub front_named : (d : Value) (vs : Values) → names_in d ≡ [] → names_each (cons d vs) ≡ names_each vs
front_named d vs none = names_cons d vs ∙ ap (λ xs. xs ++ names_each vs) none

pub back_named : (vs : Values) (d : Value) → names_in d ≡ [] → names_each (append vs (cons d nil)) ≡ names_each vs
back_named nil d none = front_named d nil none
back_named (cons v vs) d none = names_cons v (append vs (cons d nil)) ∙ ap (λ xs. names_in v ++ xs) (back_named vs d none) ∙ sym (names_cons v vs)

pub insert_named : (vs : Values) (i : ℕ) (d : Value) → names_in d ≡ [] → names_each (insert_nth vs i d) ≡ names_each vs
insert_named vs zero d none = front_named d vs none
insert_named nil (suc i) d none = front_named d nil none
insert_named (cons v vs) (suc i) d none = names_cons v (insert_nth vs i d) ∙ ap (λ xs. names_in v ++ xs) (insert_named vs i d none) ∙ sym (names_cons v vs)

-- ---- a value is removed

pub remove_named : (vs : Values) (i : ℕ) (v : Value) → nth vs i ≡ Some v → SameNames (names_each vs) (names_in v ++ names_each (remove_nth vs i))
remove_named nil i v e = cc
remove_named (cons u vs) zero v e = let same : u ≡ v = cc in names_same (names_cons u vs ∙ ap (λ x. names_in x ++ names_each vs) same)
remove_named (cons u vs) (suc i) v e =
    names_then (names_same (names_cons u vs)) (names_then (names_joined (names_same {xs = names_in u} refl) (remove_named vs i v e))
    (names_then (names_first (names_in u) (names_in v) (names_each (remove_nth vs i))) (names_same (ap (λ xs. names_in v ++ xs) (sym (names_cons u (remove_nth vs i)))))))

pub last_named : (vs : Values) (v : Value) (j : ℕ) → j ≡ count vs - 1 → nth vs j ≡ Some v → SameNames (names_each vs) (names_in v ++ names_each (without_last vs))
last_named nil v j last e = cc
last_named (cons u nil) v zero last e = remove_named (cons u nil) 0 v e
last_named (cons u nil) v (suc j) last e = absurd (omega (arith, last))
last_named (cons u (cons w ws)) v zero last e = absurd (omega (arith, last))
last_named (cons u (cons w ws)) v (suc j) last e =
    names_then (names_same (names_cons u (cons w ws))) (names_then (names_joined (names_same {xs = names_in u} refl) (last_named (cons w ws) v j (omega (arith, last)) e))
    (names_then (names_first (names_in u) (names_in v) (names_each (without_last (cons w ws)))) (names_same (ap (λ xs. names_in v ++ xs) (sym (names_cons u (without_last (cons w ws))))))))

pub count_without_last : (vs : Values) → count (without_last vs) ≡ count vs - 1
count_without_last nil = refl
count_without_last (cons v nil) = refl
count_without_last (cons v (cons w ws)) = let e = count_without_last (cons w ws) in omega (arith, e)

-- ---- the value in a part of a place

module _ (bytes : List ℕ) (table : Table) where
  part_holds : {places : List Place} {vs : Values} {blocks : List ℕ} (j : ℕ) (part : Place) (v : Value) → HoldsEach bytes table places vs blocks → slice_get places j ≡ Some part → nth vs j ≡ Some v
      → (its : List ℕ) × Holds bytes table part v its
  part_holds j part v holds_none e f = cc
  part_holds zero part v (holds_more {place = place} {v = u} {blocks = its} h hs) e f =
      let same : place ≡ part = cc in
      let value : u ≡ v = cc in
      (its, subst (λ p. Holds bytes table p v its) same (subst (λ x. Holds bytes table place x its) value h))
  part_holds (suc j) part v (holds_more h hs) e f = part_holds j part v hs e f

  -- the part's value is part of the place's value
  pub part_value : (place : Place) (j : ℕ) (gives : List ℕ) (p : PartBlocks bytes table place j gives) (label : Label) (vs : Values) (blocks : List ℕ) → Holds bytes table place (node label vs) blocks
      → (v : Value) → nth vs j ≡ Some v → v ≡ p.value
  part_value place j gives p label vs blocks (holds form opened inside owned form_is opens each v_is blocks_are) v there_is =
      let form_same : p.form ≡ form = (let e : Some p.form ≡ Some form = sym p.form_is ∙ form_is in cc) in
      let opened_same : p.opened ≡ opened = Opens-one bytes table place form p.opened opened (subst (λ k. Opens bytes table place k p.opened) form_same p.opens) opens in
      let parts : slice_get opened.parts j ≡ Some p.part = ap (λ (o : Opened). slice_get o.parts j) (sym opened_same) ∙ p.part_is in
      let values : vs ≡ inside = cc in
      let held = part_holds j p.part v each parts (subst (λ us. nth us j ≡ Some v) values there_is) in
      (Holds-one bytes table held.1 p.holds).0
