-- The root of a path, and the state of a picture in which this root has another value.
use Rattle.std.proofs.Common.{◌≡◌, ℕ, zero, suc, ◌⊎◌, inl, inr, Bool, true, false, List, ◌∷◌, ◌++◌, Option, Some, None, refl, sym, ◌∙◌, ap, subst, append_assoc, eqb-true}
use Rattle.std.specs.Prelude.{◌==◌, if◌then◌else◌, option_map, option_and_then, slice_set}
use Rattle.seg_spec.specs.Value.{Value, Values, nil, cons, nth, change_nth}
use Rattle.seg_spec.specs.Index.{Root, same_name, root_named, root_of_type}
use Rattle.std.specs.List.{AllByRecursion}
use Rattle.seg_spec.specs.Sound.{Picture, frozen_roots}
use Rattle.seg_spec.specs.Roots.{Listed, roots_in, with_roots, roots_before, roots_after, with_item}
use Rattle.seg_spec.proofs.Values.PlaceFrameLaws.{each_left, each_right}
use Rattle.seg_spec.proofs.Images.LooseRootLaws.{each_joined}
use Rattle.seg_spec.proofs.Frozen.PartCountLaws.{owners_after}
use Rattle.client_spec.specs.Machine.{Origin, Register, Object, State, with_name, with_unique, register, owned_by, with_owned, replace_item, put_origin, at_origin}
use Rattle.client_spec.specs.Pictures.{root_of_register, object_of, AreOwned}
use Rattle.client_spec.proofs.TypedStates.StateLaws.{same_name_is, with_object, put_named, object_at}
use Rattle.client_spec.proofs.TypedStates.ValueLaws.{Some_inj, bind_some}
use Rattle.client_sim.proofs.Objects.FirstRootLaws.{Among, among_left, among_right, First, first_split, first_of, first_among, first_here, first_beside, is_named, is_of_type, named_first, typed_first}
use Rattle.client_sim.proofs.Objects.OwnedRootLaws.{IsOwned, owned_split}
use Rattle.client_sim.proofs.Objects.PictureLaws.{Looks, root_in}

pub root_of_pair : (o : Option Root) (i : ℕ) (r : Root) (j : ℕ) → option_map {T = Root} {U = Root × ℕ} (λ root. (root, i)) o ≡ Some (r, j) → (o ≡ Some r) × (i ≡ j)
root_of_pair None i r j e = cc
root_of_pair (Some x) i r j e = let p : (x, i) ≡ (r, j) = cc in (ap Some (ap (λ (q : Root × ℕ). q.0) p), ap (λ (q : Root × ℕ). q.1) p)

-- changing an item to a value and changing it by a function are the same
change_same : (vs : Values) (j : ℕ) (u : Value) (f : Value → Value) → nth vs j ≡ Some u → change_nth (Some j) (λ _. f u) vs ≡ change_nth (Some j) f vs
change_same nil j u f e = cc
change_same (cons v vs) zero u f e = ap (λ x. cons (f x) vs) (let g : u ≡ v = cc in g)
change_same (cons v vs) (suc j) u f e = ap (cons v) (change_same vs j u f e)

first_changed : (vs : Values) (u : Value) (f : Value → Value) → nth vs 0 ≡ Some u → nth (change_nth (Some 0) f vs) 0 ≡ Some (f u)
first_changed nil u f e = cc
first_changed (cons v vs) u f e = ap (λ x. Some (f x)) (let g : v ≡ u = cc in g)

-- the owners other than a root of a list
abbrev pub all_others : Picture → Listed → List Root → List Root → List Root
all_others picture which before after = roots_before picture which before ++ owners_after picture which after

pub after_split : (picture : Picture) (which : Listed) (after : List Root) → roots_after picture which after ≡ owners_after picture which after ++ frozen_roots picture
after_split picture Listed.by_name after = simp append_assoc
after_split picture Listed.by_type after = simp append_assoc
after_split picture Listed.loose after = refl

-- what is true of all roots but one is true of the other owners
pub owners_kept : (P : Root → Type 0) (picture : Picture) (which : Listed) (before after : List Root) → AllByRecursion P (roots_before picture which before ++ roots_after picture which after)
    → AllByRecursion P (all_others picture which before after)
owners_kept P picture which before after h =
    let front = roots_before picture which before in
    let back = owners_after picture which after in
    each_joined P front back (each_left P front (roots_after picture which after) h)
    (each_left P back (frozen_roots picture) (subst (AllByRecursion P) (after_split picture which after) (each_right P front (roots_after picture which after) h)))

module _ {others : List Root} {s : State} (pictured : Looks others s) where
  -- The picture has the root with a changed item, and represents the state with another value at
  -- the origin. Paths from other roots have the same roots.
  pub record HasPut (o : Origin) (root : Root) (item : ℕ) (becomes : Picture) (rest : List Root) (v : Value) (f : Value → Value) : Type 0 where
    pub later : Looks others (put_origin s o v)
    pub picture_is : later.picture ≡ becomes
    pub table : later.picture.table ≡ pictured.picture.table
    pub begins : (q : Origin) (r : Root) (i : ℕ) → root_in pictured q ≡ Some (r, i)
        → ((r ≡ root) × (i ≡ item → q ≡ o) × (root_in later q ≡ Some (with_item root item f, i))) ⊎ (Among rest r × (root_in later q ≡ Some (r, i)))

  -- the root, among the others of its list
  pub record RootFound (o : Origin) (root : Root) (item : ℕ) (u : Value) : Type 0 where
    pub which : Listed
    pub before : List Root
    pub after : List Root
    pub among : roots_in pictured.picture which ≡ before ++ root ∷ after
    pub item_is : nth root.values item ≡ Some u
    pub puts : (f : Value → Value) → HasPut o root item (with_roots pictured.picture which (before ++ with_item root item f ∷ after)) (all_others pictured.picture which before after) (f u) f

-- a register's object is one of the loose ones
pub among_loose : {others : List Root} {s : State} (pictured : Looks others s) (k : ℕ) (r : Root) → root_of_register s.registers pictured.owned k ≡ Some r → Among pictured.picture.loose r
among_loose {others = others} {s = s} pictured k r e =
    let o = owned_split s.registers pictured.owned k r pictured.are_owned e in
    subst (λ rs. Among rs r) (sym pictured.loose) (among_right others pictured.owned r (record { before = o.before; after = o.after; is = o.among }))

-- ---- named objects

module _ {others : List Root} {s : State} (pictured : Looks others s) (name : List ℕ) (item : ℕ) (root : Root) (u : Value)
    (e : root_named pictured.picture.names name ≡ Some root) (is : nth root.values item ≡ Some u)
    (first : First (is_named name) pictured.picture.names root) (f : Value → Value) where
  abbrev names_then : List Root
  names_then = first.before ++ with_item root item f ∷ first.after

  name_is : root.name ≡ name
  name_is = same_name_is name root.name first.is

  named_there : root_named names_then name ≡ Some (with_item root item f)
  named_there = named_first names_then name ∙ first_here (is_named name) first.before first.after (with_item root item f) first.none first.is

  not_it : (m : List ℕ) → same_name m name ≡ false → same_name m root.name ≡ false
  not_it m g = ap (same_name m) name_is ∙ g

  beside_old : (m : List ℕ) → same_name m name ≡ false → root_named pictured.picture.names m ≡ first_of (is_named m) (first.before ++ first.after)
  beside_old m g = ap (λ rs. root_named rs m) first.among ∙ named_first (first.before ++ root ∷ first.after) m ∙ first_beside (is_named m) first.before first.after root (not_it m g)

  beside_new : (m : List ℕ) → same_name m name ≡ false → root_named names_then m ≡ first_of (is_named m) (first.before ++ first.after)
  beside_new m g = named_first names_then m ∙ first_beside (is_named m) first.before first.after (with_item root item f) (not_it m g)

  named_puts : HasPut pictured (Origin.Name name item) root item (with_roots pictured.picture Listed.by_name names_then) (all_others pictured.picture Listed.by_name first.before first.after) (f u) f
  named_puts =
      let has : s.names name ≡ Some (object_of root) = pictured.names name ∙ ap (option_map object_of) e in
      let put_is : put_origin s (Origin.Name name item) (f u) ≡ with_object s name (replace_item item (f u) (object_of root)) = put_named s name item (object_of root) (f u) has in
      let object_is : replace_item item (f u) (object_of root) ≡ object_of (with_item root item f) = ap (λ (vs : Values). record { type = root.type; values = vs }) (change_same root.values item u f is) in
      let later : Looks others (put_origin s (Origin.Name name item) (f u)) = record {
        picture = with_roots pictured.picture Listed.by_name names_then;
        types = pictured.types ∙ ap (λ (z : State). z.types) (sym put_is);
        names = λ m. ap (λ (z : State). z.names m) put_is ∙ names_are (replace_item item (f u) (object_of root)) object_is m (same_name m name) refl;
        uniques = λ T. ap (λ (z : State). z.uniques T) put_is ∙ pictured.uniques T;
        owned = pictured.owned;
        are_owned = subst (λ (z : State). AreOwned z.registers pictured.owned) (sym put_is) pictured.are_owned;
        loose = pictured.loose;
      } in
      record { later = later; picture_is = refl; table = refl; begins = begins later refl refl refl (ap (λ (z : State). z.registers) put_is) }
    where
      names_are : (o : Object) → o ≡ object_of (with_item root item f) → (m : List ℕ) (b : Bool) → same_name m name ≡ b
          → with_name s.names name (Some o) m ≡ option_map object_of (root_named names_then m)
      names_are o object_is m true g =
          ap (λ b. if b then Some o else s.names m) g ∙ ap Some object_is
          ∙ sym (ap (option_map object_of) named_there) ∙ ap (λ n. option_map object_of (root_named names_then n)) (same_name_is m name g)
      names_are o object_is m false g =
          ap (λ b. if b then Some o else s.names m) g ∙ pictured.names m ∙ ap (option_map object_of) (beside_old m g ∙ sym (beside_new m g))

      begins : {s' : State} (later : Looks others s') → later.picture.names ≡ names_then → later.picture.uniques ≡ pictured.picture.uniques → later.owned ≡ pictured.owned → s'.registers ≡ s.registers
          → (q : Origin) (r : Root) (i : ℕ) → root_in pictured q ≡ Some (r, i)
          → ((r ≡ root) × (i ≡ item → q ≡ Origin.Name name item) × (root_in later q ≡ Some (with_item root item f, i))) ⊎ (Among (all_others pictured.picture Listed.by_name first.before first.after) r × (root_in later q ≡ Some (r, i)))
      begins later names uniques owned registers (Origin.Name m k) r i h = by_name (same_name m name) refl
        where
          p : (root_named pictured.picture.names m ≡ Some r) × (k ≡ i)
          p = root_of_pair (root_named pictured.picture.names m) k r i h

          then_at : (x : Root) → root_named names_then m ≡ Some x → root_in later (Origin.Name m k) ≡ Some (x, i)
          then_at x g = ap (λ rs. option_map {T = Root} {U = Root × ℕ} (λ root. (root, k)) (root_named rs m)) names ∙ ap (option_map {T = Root} {U = Root × ℕ} (λ root. (root, k))) g ∙ ap (λ n. Some (x, n)) p.1

          by_name : (b : Bool) → same_name m name ≡ b
              → ((r ≡ root) × (i ≡ item → Origin.Name m k ≡ Origin.Name name item) × (root_in later (Origin.Name m k) ≡ Some (with_item root item f, i)))
              ⊎ (Among (all_others pictured.picture Listed.by_name first.before first.after) r × (root_in later (Origin.Name m k) ≡ Some (r, i)))
          by_name true g =
              let same : name ≡ m = same_name_is m name g in
              let one : Some r ≡ Some root = sym p.0 ∙ ap (root_named pictured.picture.names) (sym same) ∙ e in
              inl ((let z = one in cc), (λ j. ap (λ n. Origin.Name n k) (sym same) ∙ ap (Origin.Name name) (p.1 ∙ j)), then_at (with_item root item f) (ap (root_named names_then) (sym same) ∙ named_there))
          by_name false g =
              let rest = first.after ++ (pictured.picture.uniques ++ pictured.picture.loose) in
              let here = first_among (is_named m) (first.before ++ first.after) r (sym (beside_old m g) ∙ p.0) in
              inr (
                subst (λ rs. Among rs r) (append_assoc first.before first.after (pictured.picture.uniques ++ pictured.picture.loose))
                    (among_left (first.before ++ first.after) (pictured.picture.uniques ++ pictured.picture.loose) r here),
                then_at r (beside_new m g ∙ sym (beside_old m g) ∙ p.0),
              )
      begins later names uniques owned registers (Origin.Unique T) r i h =
          let p = root_of_pair (root_of_type pictured.picture.uniques T) 0 r i h in
          inr (
            among_right first.before (first.after ++ (pictured.picture.uniques ++ pictured.picture.loose)) r (among_right first.after (pictured.picture.uniques ++ pictured.picture.loose) r
                (among_left pictured.picture.uniques pictured.picture.loose r
                (first_among (is_of_type T) pictured.picture.uniques r (sym (typed_first pictured.picture.uniques T) ∙ p.0)))),
            ap (λ rs. option_map {T = Root} {U = Root × ℕ} (λ root. (root, 0)) (root_of_type rs T)) uniques ∙ h,
          )
      begins later names uniques owned registers (Origin.Owned k) r i h =
          let p = root_of_pair (root_of_register s.registers pictured.owned k) 0 r i h in
          inr (
            among_right first.before (first.after ++ (pictured.picture.uniques ++ pictured.picture.loose)) r (among_right first.after (pictured.picture.uniques ++ pictured.picture.loose) r
                (among_right pictured.picture.uniques pictured.picture.loose r
                (among_loose pictured k r p.0))),
            ap (λ rs. option_map {T = Root} {U = Root × ℕ} (λ root. (root, 0)) (root_of_register rs later.owned k)) registers
                ∙ ap (λ rs. option_map {T = Root} {U = Root × ℕ} (λ root. (root, 0)) (root_of_register s.registers rs k)) owned ∙ h,
          )

-- ---- unique objects

module _ {others : List Root} {s : State} (pictured : Looks others s) (T : ℕ) (root : Root) (u : Value) (e : root_of_type pictured.picture.uniques T ≡ Some root) (is : nth root.values 0 ≡ Some u)
    (first : First (is_of_type T) pictured.picture.uniques root) (f : Value → Value) where
  abbrev uniques_then : List Root
  uniques_then = first.before ++ with_item root 0 f ∷ first.after

  typed_there : root_of_type uniques_then T ≡ Some (with_item root 0 f)
  typed_there = typed_first uniques_then T ∙ first_here (is_of_type T) first.before first.after (with_item root 0 f) first.none first.is

  no_other : (U : ℕ) → (U == T) ≡ false → (U == root.type) ≡ false
  no_other U g = ap (λ n. U == n) (sym (eqb-true T root.type first.is)) ∙ g

  typed_old : (U : ℕ) → (U == T) ≡ false → root_of_type pictured.picture.uniques U ≡ first_of (is_of_type U) (first.before ++ first.after)
  typed_old U g = ap (λ rs. root_of_type rs U) first.among ∙ typed_first (first.before ++ root ∷ first.after) U ∙ first_beside (is_of_type U) first.before first.after root (no_other U g)

  typed_new : (U : ℕ) → (U == T) ≡ false → root_of_type uniques_then U ≡ first_of (is_of_type U) (first.before ++ first.after)
  typed_new U g = typed_first uniques_then U ∙ first_beside (is_of_type U) first.before first.after (with_item root 0 f) (no_other U g)

  abbrev rest_typed : List Root
  rest_typed = all_others pictured.picture Listed.by_type first.before first.after

  unique_puts : HasPut pictured (Origin.Unique T) root 0 (with_roots pictured.picture Listed.by_type uniques_then) rest_typed (f u) f
  unique_puts =
      let later : Looks others (put_origin s (Origin.Unique T) (f u)) = record {
        picture = with_roots pictured.picture Listed.by_type uniques_then;
        types = pictured.types;
        names = pictured.names;
        uniques = λ U. uniques_are U (U == T) refl;
        owned = pictured.owned;
        are_owned = pictured.are_owned;
        loose = pictured.loose;
      } in
      record { later = later; picture_is = refl; table = refl; begins = begins later refl refl refl refl }
    where
      uniques_are : (U : ℕ) (b : Bool) → (U == T) ≡ b → with_unique s.uniques T (Some (f u)) U ≡ option_and_then (λ (x : Root). nth x.values 0) (root_of_type uniques_then U)
      uniques_are U true g =
          ap (λ b. if b then Some (f u) else s.uniques U) g ∙ sym (first_changed root.values u f is)
          ∙ sym (ap (option_and_then (λ (x : Root). nth x.values 0)) typed_there) ∙ ap (λ n. option_and_then (λ (x : Root). nth x.values 0) (root_of_type uniques_then n)) (sym (eqb-true U T g))
      uniques_are U false g =
          ap (λ b. if b then Some (f u) else s.uniques U) g ∙ pictured.uniques U ∙ ap (option_and_then (λ (x : Root). nth x.values 0)) (typed_old U g ∙ sym (typed_new U g))

      begins : {s' : State} (later : Looks others s') → later.picture.names ≡ pictured.picture.names → later.picture.uniques ≡ uniques_then → later.owned ≡ pictured.owned → s'.registers ≡ s.registers
          → (q : Origin) (r : Root) (i : ℕ) → root_in pictured q ≡ Some (r, i)
          → ((r ≡ root) × (i ≡ 0 → q ≡ Origin.Unique T) × (root_in later q ≡ Some (with_item root 0 f, i))) ⊎ (Among rest_typed r × (root_in later q ≡ Some (r, i)))
      begins later names uniques owned registers (Origin.Unique U) r i h = by_type (U == T) refl
        where
          p : (root_of_type pictured.picture.uniques U ≡ Some r) × (0 ≡ i)
          p = root_of_pair (root_of_type pictured.picture.uniques U) 0 r i h

          then_at : (x : Root) → root_of_type uniques_then U ≡ Some x → root_in later (Origin.Unique U) ≡ Some (x, i)
          then_at x g = ap (λ rs. option_map {T = Root} {U = Root × ℕ} (λ root. (root, 0)) (root_of_type rs U)) uniques ∙ ap (option_map {T = Root} {U = Root × ℕ} (λ root. (root, 0))) g ∙ ap (λ n. Some (x, n)) p.1

          by_type : (b : Bool) → (U == T) ≡ b
              → ((r ≡ root) × (i ≡ 0 → Origin.Unique U ≡ Origin.Unique T) × (root_in later (Origin.Unique U) ≡ Some (with_item root 0 f, i))) ⊎ (Among rest_typed r × (root_in later (Origin.Unique U) ≡ Some (r, i)))
          by_type true g =
              let same : U ≡ T = eqb-true U T g in
              let one : Some r ≡ Some root = sym p.0 ∙ ap (root_of_type pictured.picture.uniques) same ∙ e in
              inl ((let z = one in cc), (λ j. ap Origin.Unique same), then_at (with_item root 0 f) (ap (root_of_type uniques_then) same ∙ typed_there))
          by_type false g =
              let here = first_among (is_of_type U) (first.before ++ first.after) r (sym (typed_old U g) ∙ p.0) in
              let behind = subst (λ rs. Among rs r) (append_assoc first.before first.after pictured.picture.loose) (among_left (first.before ++ first.after) pictured.picture.loose r here) in
              inr (
                subst (λ rs. Among rs r) (sym (append_assoc pictured.picture.names first.before (first.after ++ pictured.picture.loose)))
                    (among_right pictured.picture.names (first.before ++ (first.after ++ pictured.picture.loose)) r behind),
                then_at r (typed_new U g ∙ sym (typed_old U g) ∙ p.0),
              )
      begins later names uniques owned registers (Origin.Name m k) r i h =
          let p = root_of_pair (root_named pictured.picture.names m) k r i h in
          inr (
            among_left (pictured.picture.names ++ first.before) (first.after ++ pictured.picture.loose) r
                (among_left pictured.picture.names first.before r (first_among (is_named m) pictured.picture.names r (sym (named_first pictured.picture.names m) ∙ p.0))),
            ap (λ rs. option_map {T = Root} {U = Root × ℕ} (λ root. (root, k)) (root_named rs m)) names ∙ h,
          )
      begins later names uniques owned registers (Origin.Owned k) r i h =
          let p = root_of_pair (root_of_register s.registers pictured.owned k) 0 r i h in
          inr (
            among_right (pictured.picture.names ++ first.before) (first.after ++ pictured.picture.loose) r (among_right first.after pictured.picture.loose r (among_loose pictured k r p.0)),
            ap (λ rs. option_map {T = Root} {U = Root × ℕ} (λ root. (root, 0)) (root_of_register rs later.owned k)) registers
                ∙ ap (λ rs. option_map {T = Root} {U = Root × ℕ} (λ root. (root, 0)) (root_of_register s.registers rs k)) owned ∙ h,
          )

-- ---- objects that registers own

only_value : (vs : Values) (w u : Value) (f : Value → Value) → vs ≡ cons w nil → nth vs 0 ≡ Some u → change_nth (Some 0) f vs ≡ cons (f u) nil
only_value vs w u f e is =
    let same : w ≡ u = (let z : Some w ≡ Some u = sym (ap (λ xs. nth xs 0) e) ∙ is in cc) in
    ap (change_nth (Some 0) f) e ∙ ap (λ x. cons (f x) nil) same

module _ {others : List Root} {s : State} (pictured : Looks others s) (k : ℕ) (root : Root) (u : Value) (e : root_of_register s.registers pictured.owned k ≡ Some root) (is : nth root.values 0 ≡ Some u)
    (o : IsOwned s.registers pictured.owned k root) (f : Value → Value) where
  abbrev owned_then : List Root
  owned_then = o.before ++ with_item root 0 f ∷ o.after

  abbrev registers_then : List Register
  registers_then = slice_set s.registers k (Register.Owner (f u) root.type)

  abbrev rest_owned : List Root
  rest_owned = all_others pictured.picture Listed.loose (others ++ o.before) o.after

  register_is : with_owned (f u) (register s k) ≡ Register.Owner (f u) root.type
  register_is = ap (with_owned (f u)) o.is

  among_owned : (r : Root) → Among (o.before ++ o.after) r → Among rest_owned r
  among_owned r a =
      let names = pictured.picture.names in
      let uniques = pictured.picture.uniques in
      let after = o.after in
      let b = subst (λ rs. Among rs r) (sym (append_assoc others o.before after)) (among_right others (o.before ++ after) r a) in
      let c = subst (λ rs. Among rs r) (sym (append_assoc uniques (others ++ o.before) after)) (among_right uniques ((others ++ o.before) ++ after) r b) in
      subst (λ rs. Among rs r) (sym (append_assoc names (uniques ++ (others ++ o.before)) after)) (among_right names ((uniques ++ (others ++ o.before)) ++ after) r c)

  owned_puts : HasPut pictured (Origin.Owned k) root 0 (with_roots pictured.picture Listed.loose ((others ++ o.before) ++ with_item root 0 f ∷ o.after)) rest_owned (f u) f
  owned_puts =
      let registers_are : slice_set s.registers k (with_owned (f u) (register s k)) ≡ registers_then = ap (slice_set s.registers k) register_is in
      let later : Looks others (put_origin s (Origin.Owned k) (f u)) = record {
        picture = with_roots pictured.picture Listed.loose ((others ++ o.before) ++ with_item root 0 f ∷ o.after);
        types = pictured.types;
        names = pictured.names;
        uniques = pictured.uniques;
        owned = owned_then;
        are_owned = subst (λ rs. AreOwned rs owned_then) (sym registers_are) (o.put (f u) (with_item root 0 f) refl (only_value root.values o.value u f o.values_are is));
        loose = append_assoc others o.before (with_item root 0 f ∷ o.after);
      } in
      record { later = later; picture_is = refl; table = refl; begins = begins later refl refl refl registers_are }
    where
      begins : {s' : State} (later : Looks others s') → later.picture.names ≡ pictured.picture.names → later.picture.uniques ≡ pictured.picture.uniques → later.owned ≡ owned_then → s'.registers ≡ registers_then
          → (q : Origin) (r : Root) (i : ℕ) → root_in pictured q ≡ Some (r, i)
          → ((r ≡ root) × (i ≡ 0 → q ≡ Origin.Owned k) × (root_in later q ≡ Some (with_item root 0 f, i))) ⊎ (Among rest_owned r × (root_in later q ≡ Some (r, i)))
      begins later names uniques owned registers (Origin.Owned j) r i h =
          let p = root_of_pair (root_of_register s.registers pictured.owned j) 0 r i h in
          elim (o.beside (f u) (with_item root 0 f) j r p.0) [
            | inl same ↦
                let one : Some r ≡ Some root = sym p.0 ∙ ap (root_of_register s.registers pictured.owned) same ∙ e in
                inl ((let z = one in cc), (λ z. ap Origin.Owned same), then_at j i p.1 (with_item root 0 f) (ap (root_of_register registers_then owned_then) same ∙ o.here (f u) (with_item root 0 f)))
            | inr b ↦ inr (among_owned r b.0, then_at j i p.1 r b.1)
          ]
        where
          then_at : (j i : ℕ) → 0 ≡ i → (x : Root) → root_of_register registers_then owned_then j ≡ Some x → root_in later (Origin.Owned j) ≡ Some (x, i)
          then_at j i z x g =
              ap (λ rs. option_map {T = Root} {U = Root × ℕ} (λ root. (root, 0)) (root_of_register rs later.owned j)) registers
              ∙ ap (λ rs. option_map {T = Root} {U = Root × ℕ} (λ root. (root, 0)) (root_of_register registers_then rs j)) owned
              ∙ ap (option_map {T = Root} {U = Root × ℕ} (λ root. (root, 0))) g ∙ ap (λ n. Some (x, n)) z
      begins later names uniques owned registers (Origin.Name m j) r i h =
          let p = root_of_pair (root_named pictured.picture.names m) j r i h in
          inr (
            among_left (pictured.picture.names ++ (pictured.picture.uniques ++ (others ++ o.before))) o.after r (among_left pictured.picture.names (pictured.picture.uniques ++ (others ++ o.before)) r
                (first_among (is_named m) pictured.picture.names r (sym (named_first pictured.picture.names m) ∙ p.0))),
            ap (λ rs. option_map {T = Root} {U = Root × ℕ} (λ root. (root, j)) (root_named rs m)) names ∙ h,
          )
      begins later names uniques owned registers (Origin.Unique U) r i h =
          let p = root_of_pair (root_of_type pictured.picture.uniques U) 0 r i h in
          inr (
            among_left (pictured.picture.names ++ (pictured.picture.uniques ++ (others ++ o.before))) o.after r (among_right pictured.picture.names (pictured.picture.uniques ++ (others ++ o.before)) r
                (among_left pictured.picture.uniques (others ++ o.before) r (first_among (is_of_type U) pictured.picture.uniques r (sym (typed_first pictured.picture.uniques U) ∙ p.0)))),
            ap (λ rs. option_map {T = Root} {U = Root × ℕ} (λ root. (root, 0)) (root_of_type rs U)) uniques ∙ h,
          )

-- ---- the root of any path

pub root_for : {others : List Root} {s : State} (pictured : Looks others s) (o : Origin) (root : Root) (item : ℕ) (u : Value) (T : ℕ) → root_in pictured o ≡ Some (root, item)
    → at_origin s o ≡ Some (u, T) → RootFound pictured o root item u
root_for {s = s} pictured (Origin.Name name i) root item u T h at =
    let p = root_of_pair (root_named pictured.picture.names name) i root item h in
    let o = object_at s name i u T at in
    let same : o.0 ≡ object_of root = Some_inj (sym o.1 ∙ pictured.names name ∙ ap (option_map object_of) p.0) in
    let is : nth root.values i ≡ Some u = ap (λ (x : Object). nth x.values i) (sym same) ∙ o.2 in
    let first = first_split (is_named name) pictured.picture.names root (sym (named_first pictured.picture.names name) ∙ p.0) in
    subst (λ n. RootFound pictured (Origin.Name name i) root n u) p.1 (record {
      which = Listed.by_name;
      before = first.before;
      after = first.after;
      among = first.among;
      item_is = is;
      puts = λ f. named_puts pictured name i root u p.0 is first f;
    })
root_for {s = s} pictured (Origin.Unique U) root item u T h at =
    let p = root_of_pair (root_of_type pictured.picture.uniques U) 0 root item h in
    let b = bind_some (s.uniques U) (λ v. Some (v, U)) (u, T) at in
    let pair : (b.0, U) ≡ (u, T) = Some_inj b.2 in
    let is : nth root.values 0 ≡ Some u = sym (ap (option_and_then (λ (x : Root). nth x.values 0)) p.0) ∙ sym (pictured.uniques U) ∙ b.1 ∙ ap (λ (q : Value × ℕ). Some q.0) pair in
    let first = first_split (is_of_type U) pictured.picture.uniques root (sym (typed_first pictured.picture.uniques U) ∙ p.0) in
    subst (λ n. RootFound pictured (Origin.Unique U) root n u) p.1 (record {
      which = Listed.by_type;
      before = first.before;
      after = first.after;
      among = first.among;
      item_is = is;
      puts = λ f. unique_puts pictured U root u p.0 is first f;
    })
root_for {others = others} {s = s} pictured (Origin.Owned k) root item u T h at =
    let p = root_of_pair (root_of_register s.registers pictured.owned k) 0 root item h in
    let o = owned_split s.registers pictured.owned k root pictured.are_owned p.0 in
    let pair : (o.value, root.type) ≡ (u, T) = Some_inj (sym (ap owned_by o.is) ∙ at) in
    let is : nth root.values 0 ≡ Some u = ap (λ vs. nth vs 0) o.values_are ∙ ap (λ (q : Value × ℕ). Some q.0) pair in
    subst (λ n. RootFound pictured (Origin.Owned k) root n u) p.1 (record {
      which = Listed.loose;
      before = others ++ o.before;
      after = o.after;
      among = pictured.loose ∙ ap (λ rs. others ++ rs) o.among ∙ sym (append_assoc others o.before (root ∷ o.after));
      item_is = is;
      puts = λ f. owned_puts pictured k root u p.0 is o f;
    })
