-- States of an image with copies in place of shared cells ("trees"). Shared cells refer to frozen
-- objects of the image; each value has the shape of its type; and objects that stay have the same
-- copies.
use Rattle.std.proofs.Common.{◌≡◌, ℕ, zero, suc, ◌+◌, ◌<◌, List, [], ◌∷◌, ◌++◌, map, replicate, Option, Some, None, refl, sym, ◌∙◌, ap, subst, arith, inl, inr, Bool, true, false}
use Rattle.std.specs.Prelude.{◌==◌, ◌⊎◌, if◌then◌else◌}
use Rattle.std.proofs.lemmas.Bool.{eqb-true, eq-eqb}
use Rattle.std.specs.List.{AllByRecursion}
use Rattle.seg_spec.specs.Bytes.{word}
use Rattle.seg_spec.specs.Header.{next_word}
use Rattle.seg_spec.specs.Types.{Table, form_at, Agree}
use Rattle.seg_spec.specs.Value.{Value, Values, nil, cons, count, nth, Full}
use Rattle.seg_spec.specs.Reads.{Place, items, HoldsEach}
use Rattle.seg_spec.specs.Frozen.{Frozen, frozen_words, root_of_frozen}
use Rattle.seg_spec.specs.Shared.{names_in, names_each, IsBelow, AreDistinct, IsCounted, left, meaning, owner_by, value_at_position, replaced}
use Rattle.seg_spec.specs.Index.{Root, root_named, root_of_type}
use Rattle.seg_spec.specs.Counting.{cells_in, owners_in}
use Rattle.seg_spec.specs.Sound.{frozen_roots, HoldsRoots, holds_more_roots}
use Rattle.seg_spec.proofs.Values.PlaceFrameLaws.{each_left, each_right, each_weaker}
use Rattle.seg_spec.proofs.Frozen.SharedLaws.{below_elsewhere, wider}
use Rattle.seg_spec.proofs.Frozen.UnfoldedTreeLaws.{same_tree, found}
use Rattle.seg_spec.proofs.Values.OneValueLaws.{HoldsEach-one}
use Rattle.seg_spec.proofs.Images.RootLaws.{HoldsRoots-split}
use Rattle.seg_spec.proofs.Frozen.MeaningLaws.{all_mean, left_means}
use Rattle.client_spec.specs.Syntax.{Constant, Instruction, Client}
use Rattle.client_spec.specs.Answer.{Answer}
use Rattle.client_spec.specs.Effect.{outcome}
use Rattle.client_spec.specs.Grammar.{IsClient}
use Rattle.client_spec.specs.Safe.{MayBegin}
use Rattle.client_spec.specs.OnImages.{Situation, Given, IsFirst}
use Rattle.client_spec.specs.Machine.{Register, Object, State, register}
use Rattle.client_spec.specs.Shape.{HasShape, AllHaveShape}
use Rattle.client_spec.specs.Meaning.{IsTyped}
use Rattle.client_spec.specs.Trees.{unfolded_object, unfolded_register, unfolded_state, AreTrees}
use Rattle.client_spec.specs.Pictures.{object_of, Pictures, meaning_in, trees_of, PicturesTrees}
use Rattle.client_spec.proofs.TypedStates.ValueLaws.{Some_inj, then_some}
use Rattle.client_spec.proofs.TypedStates.PictureLaws.{named_one, unique_one, owned_one, option_some, frozen_roots_fit, pictured_typed, form_in_longer}
use Rattle.client_spec.proofs.Unfolded.UnfoldedValueLaws.{count_replaced}
use Rattle.client_spec.proofs.Unfolded.UnfoldedStateLaws.{register_same, unfolds_is}
use Rattle.client_spec.proofs.Unfolded.UnfoldedShapeLaws.{MeansShape, shape_unfolded, all_shapes_unfolded, trees_agree}
use Rattle.client_spec.proofs.Unfolded.UnfoldedEffectLaws.{row_of_trees, none_named, unfolded_trees, trees_unfold}

-- ---- shared cells in a state

module _ (B : Place → Type 0) where
  -- all shared cells in its values refer to frozen objects
  pub record AllNamed (s : State) : Type 0 where
    pub names : (name : List ℕ) (o : Object) → s.names name ≡ Some o → AllByRecursion B (names_each o.values)
    pub uniques : (T : ℕ) (v : Value) → s.uniques T ≡ Some v → AllByRecursion B (names_in v)
    pub owned : (r : ℕ) (v : Value) (t : ℕ) → register s r ≡ Register.Owner v t → AllByRecursion B (names_in v)

  abbrev OfRoot : Root → Type 0
  OfRoot root = AllByRecursion B (names_each root.values)

  of_roots : (roots : List Root) → AllByRecursion B (cells_in roots) → AllByRecursion OfRoot roots
  of_roots [] a = tt
  of_roots (r ∷ rs) a = (each_left B (names_each r.values) (cells_in rs) a, of_roots rs (each_right B (names_each r.values) (cells_in rs) a))

  of_value : (vs : Values) (i : ℕ) (v : Value) → AllByRecursion B (names_each vs) → nth vs i ≡ Some v → AllByRecursion B (names_in v)
  unfolding names_in
  of_value nil i v a e = cc
  of_value (cons w vs) zero v a e = subst (λ u. AllByRecursion B (names_in u)) (Some_inj e) (each_left B (names_in w) (names_each vs) a)
  of_value (cons w vs) (suc i) v a e = of_value vs i v (each_right B (names_in w) (names_each vs) a) e

  pub all_named : {others : List Root} {s : State} {bytes : List ℕ} (p : Pictures others s bytes) → AllByRecursion B (cells_in (owners_in p.picture)) → AllNamed s
  unfolding names_in
  all_named {others} {s} p a =
      let all = of_roots (owners_in p.picture) a in
      let rest = each_right OfRoot p.picture.names (p.picture.uniques ++ p.picture.loose) all in
      let names = each_left OfRoot p.picture.names (p.picture.uniques ++ p.picture.loose) all in
      let uniques = each_left OfRoot p.picture.uniques p.picture.loose rest in
      let owned = each_right OfRoot others p.owned (subst (AllByRecursion OfRoot) p.loose (each_right OfRoot p.picture.uniques p.picture.loose rest)) in
      record {
        names = λ name o e.
            let root = option_some object_of (root_named p.picture.names name) o (sym (p.names name) ∙ e) in
            subst (λ (x : Object). AllByRecursion B (names_each x.values)) root.2 (named_one OfRoot p.picture.names name root.0 names root.1);
        uniques = λ T v e.
            let root = then_some (λ (r : Root). nth r.values 0) (root_of_type p.picture.uniques T) v (sym (p.uniques T) ∙ e) in
            of_value root.0.values 0 v (unique_one OfRoot p.picture.uniques T root.0 uniques root.1).0 root.2;
        owned = λ r v t e.
            let one = owned_one OfRoot s.registers p.owned r v t p.are_owned owned e in
            of_value (cons v nil) 0 v (subst (λ vs. AllByRecursion B (names_each vs)) one.3 one.1) refl;
      }

-- ---- shapes

module _ (types : Table) (fs : List Frozen) where
  abbrev FrozenFit : Type 0
  FrozenFit = AllByRecursion (λ (f : Frozen). HasShape types f.type f.value) fs

-- what is true of all frozen objects is true of the one that a cell refers to
pub at_name : (P : ℕ → ℕ → Value → Type 0) (n : ℕ) (fs : List Frozen) (q : Place) (v : Value) → AreDistinct fs → AllByRecursion (λ (f : Frozen). P f.at f.type f.value) fs → IsBelow n fs q
    → value_at_position fs q.at ≡ Some v → P q.at q.type v
at_name P n [] q v d a h e = absurd h
at_name P n (f ∷ fs) q v d a b e = choose (f.at == q.at) refl (λ h g. at_name P n fs q v d.1 a.1 h g) b e
  where
    choose : (here : Bool) → (f.at == q.at) ≡ here → (IsBelow n fs q → value_at_position fs q.at ≡ Some v → P q.at q.type v) → IsBelow n (f ∷ fs) q
        → (if here then Some f.value else value_at_position fs q.at) ≡ Some v → P q.at q.type v
    choose true same rest (inl h) g = subst (λ x. P x q.type v) h.0 (subst (λ T. P f.at T v) h.1 (subst (P f.at f.type) (Some_inj g) a.0))
    choose true same rest (inr h) g = absurd (below_elsewhere f.at n fs q d.0 h (sym (eqb-true f.at q.at same)))
    choose false other rest (inl h) g = absurd (let x : false ≡ true = sym other ∙ eq-eqb f.at q.at h.0 in cc)
    choose false other rest (inr h) g = rest h g

module _ (types : Table) (fs : List Frozen) (distinct : AreDistinct fs) (falling : AllByRecursion (λ (f : Frozen). AllByRecursion (IsBelow f.number fs) (names_in f.value)) fs) (fit : FrozenFit types fs) where
  means_shape : (n : ℕ) (q : Place) → IsBelow n fs q → MeansShape (meaning n fs) types q
  unfolding meaning
  means_shape zero q b = inl refl
  means_shape (suc n) q b =
      let f = found (suc n) fs q distinct falling b in
      let inside = each_weaker (IsBelow f.object.number fs) (MeansShape (meaning n fs) types)
      (λ r k. means_shape n r (wider f.object.number n fs r (let less = f.less in omega arith) k)) (names_in f.object.value) f.names in
      let fits = at_name (λ at T v. HasShape types T v) (suc n) fs q f.object.value distinct fit b f.value_is in
      inr (replaced (meaning n fs) f.object.value, ap (owner_by (λ v. replaced (meaning n fs) v)) f.value_is, shape_unfolded (meaning n fs) types q.type f.object.value fits inside)

frozen_fit : (types : Table) (fs : List Frozen) → AllByRecursion (λ (root : Root). AllHaveShape types root.type root.values) (map root_of_frozen fs) → FrozenFit types fs
unfolding HasShape
frozen_fit types [] a = tt
frozen_fit types (f ∷ fs) a = (a.0.0, frozen_fit types fs a.1)

owner_of : (m : ℕ → Value) (x : Register) (v : Value) (t : ℕ) → unfolded_register m x ≡ Register.Owner v t → (u : Value) × (x ≡ Register.Owner u t) × (replaced m u ≡ v)
owner_of m Register.Undefined v t e = cc
owner_of m (Register.Int k) v t e = cc
owner_of m (Register.Reference p) v t e = cc
owner_of m (Register.Owner u w) v t e = (u, (let same : w ≡ t = cc in ap (Register.Owner u) same), cc)

-- each value of the trees has the shape of its type
pub trees_typed : {others : List Root} {s : State} {bytes : List ℕ} (p : Pictures others s bytes) → IsTyped (trees_of p)
trees_typed {others} {s} {bytes} p =
    let next = word bytes next_word in
    let fs = p.picture.frozen in
    let m = meaning next fs in
    let c = p.counted.counted in
    let plain = pictured_typed others s bytes p in
    let fit = frozen_fit s.types fs (subst (λ (ts : Table). AllByRecursion (λ (root : Root). AllHaveShape ts root.type root.values) (frozen_roots p.picture)) p.types (frozen_roots_fit others s bytes p)) in
    let named = all_named (IsBelow next fs) p c.named in
    let mean = λ (qs : List Place) (a : AllByRecursion (IsBelow next fs) qs). each_weaker (IsBelow next fs) (MeansShape m s.types) (λ q b. means_shape s.types fs c.distinct c.falling fit next q b) qs a in
    record {
      names = λ name o e.
          let x = option_some (unfolded_object m) (s.names name) o e in
          subst (λ (y : Object). AllHaveShape s.types y.type y.values) x.2
          (all_shapes_unfolded m s.types x.0.type x.0.values (plain.names name x.0 x.1) (mean (names_each x.0.values) (named.names name x.0 x.1)));
      counts = λ name o e.
          let x = option_some (unfolded_object m) (s.names name) o e in
          subst (λ (y : Object). 0 < count y.values) x.2 (subst (λ n. 0 < n) (sym (count_replaced m x.0.values)) (plain.counts name x.0 x.1));
      uniques = λ T v e.
          let x = option_some (replaced m) (s.uniques T) v e in
          subst (HasShape s.types T) x.2 (shape_unfolded m s.types T x.0 (plain.uniques T x.0 x.1) (mean (names_in x.0) (named.uniques T x.0 x.1)));
      owned = λ r v t e.
          let x = owner_of m (register s r) v t (sym (register_same m s r) ∙ e) in
          subst (HasShape s.types t) x.2 (shape_unfolded m s.types t x.0 (plain.owned r x.0 t x.1) (mean (names_in x.0) (named.owned r x.0 t x.1)));
      forms = plain.forms;
    }

-- there are no positions in copies
meaning_named : (fs : List Frozen) (n p : ℕ) → names_in (meaning n fs p) ≡ []
unfolding meaning names_in
meaning_named fs zero p = refl
meaning_named fs (suc n) p = of_object (meaning_named fs n) (value_at_position fs p)
  where
    of_object : ((q : ℕ) → names_in (meaning n fs q) ≡ []) → (o : Option Value) → names_in (owner_by (λ v. replaced (meaning n fs) v) o) ≡ []
    of_object none None = refl
    of_object none (Some v) = ap (λ qs. qs ++ []) (none_named (meaning n fs) none v)

pub pictures_trees : {others : List Root} {s : State} {bytes : List ℕ} (p : PicturesTrees others s bytes) → IsTyped s × AreTrees s
pictures_trees {bytes = bytes} p =
    let fs = p.pictured.picture.frozen in
    let next = word bytes next_word in
    (subst IsTyped (sym p.trees) (trees_typed p.pictured), subst AreTrees (sym p.trees) (unfolded_trees (meaning next fs) (meaning_named fs next) p.plain))

-- a state without shared cells is its own unfolded state
unfoldable pub own_trees : {others : List Root} {s : State} {bytes : List ℕ} → AreTrees s → Pictures others s bytes → PicturesTrees others s bytes
own_trees {s = s} {bytes = bytes} h p =
    let m = meaning_in (word bytes next_word) p.picture in
    record { plain = s; pictured = p; trees = unfolds_is m s s (trees_unfold m s h) }

-- ---- the bytes determine the copies

-- the frozen object at a position, as the bytes have it
abbrev pub HoldsAt : List ℕ → Table → ℕ → ℕ → Value → Type 0
HoldsAt bytes table at T v = (blocks : List ℕ) × HoldsEach bytes table (items table (at + frozen_words) T 1) (cons v nil) blocks

held_at : (bytes : List ℕ) (table : Table) (fs : List Frozen) {blocks : List ℕ} → HoldsRoots bytes table (map root_of_frozen fs) blocks → AllByRecursion (λ (f : Frozen). HoldsAt bytes table f.at f.type f.value) fs
held_at bytes table [] h = tt
held_at bytes table (f ∷ fs) (holds_more_roots h hs) = ((h.inside, h.values), held_at bytes table fs hs)

pub frozen_held : {others : List Root} {s : State} {bytes : List ℕ} (p : Pictures others s bytes) → AllByRecursion (λ (f : Frozen). HoldsAt bytes p.picture.table f.at f.type f.value) p.picture.frozen
frozen_held {bytes = bytes} p =
    let table = p.picture.table in
    let unnamed = p.picture.loose ++ frozen_roots p.picture in
    let x = HoldsRoots-split bytes table p.picture.names (p.picture.uniques ++ unnamed) p.held.root_blocks p.held.roots in
    let y = HoldsRoots-split bytes table p.picture.uniques unnamed x.right x.rights in
    held_at bytes table p.picture.frozen (HoldsRoots-split bytes table p.picture.loose (frozen_roots p.picture) y.right y.rights).rights

pub cons_first : {v w : Value} {vs ws : Values} → cons v vs ≡ cons w ws → v ≡ w
cons_first e = cc

-- two lists of frozen objects that agree give cells the same copies
both_mean : (fs gs : List Frozen) (m m' : ℕ → Value) (n : ℕ) → ((q : Place) → IsBelow n fs q → IsBelow n gs q → m q.at ≡ m' q.at) → (qs : List Place)
    → AllByRecursion (IsBelow n fs) qs → AllByRecursion (IsBelow n gs) qs → AllByRecursion (λ (q : Place). m q.at ≡ m' q.at) qs
both_mean fs gs m m' n each [] a b = tt
both_mean fs gs m m' n each (q ∷ qs) a b = (each q a.0 b.0, both_mean fs gs m m' n each qs a.1 b.1)

module _ (bytes : List ℕ) (table : Table) (fs gs : List Frozen) {cells cells' : List Place} (next : ℕ) (c : IsCounted next fs cells) (d : IsCounted next gs cells')
    (held : AllByRecursion (λ (f : Frozen). HoldsAt bytes table f.at f.type f.value) fs) (held' : AllByRecursion (λ (f : Frozen). HoldsAt bytes table f.at f.type f.value) gs) where
  pub means_one : (n : ℕ) (q : Place) → IsBelow n fs q → IsBelow n gs q → meaning n fs q.at ≡ meaning n gs q.at
  unfolding meaning
  means_one zero q a b = refl
  means_one (suc n) q a b =
      let f = found (suc n) fs q c.distinct c.falling a in
      let g = found (suc n) gs q d.distinct d.falling b in
      let one = at_name (HoldsAt bytes table) (suc n) fs q f.object.value c.distinct held a f.value_is in
      let two = at_name (HoldsAt bytes table) (suc n) gs q g.object.value d.distinct held' b g.value_is in
      let same : g.object.value ≡ f.object.value = cons_first (HoldsEach-one bytes table two.1 one.1).0 in
      let first = each_weaker (IsBelow f.object.number fs) (IsBelow n fs) (λ r k. wider f.object.number n fs r (let less = f.less in omega arith) k) (names_in f.object.value) f.names in
      let second = each_weaker (IsBelow g.object.number gs) (IsBelow n gs) (λ r k. wider g.object.number n gs r (let less = g.less in omega arith) k) (names_in f.object.value)
      (subst (λ v. AllByRecursion (IsBelow g.object.number gs) (names_in v)) same g.names) in
      let inside = both_mean fs gs (meaning n fs) (meaning n gs) n (λ r x y. means_one n r x y) (names_in f.object.value) first second in
      ap (owner_by (λ v. replaced (meaning n fs) v)) f.value_is ∙ ap Full (same_tree (meaning n fs) (meaning n gs) f.object.value inside)
      ∙ sym (ap (owner_by (λ v. replaced (meaning n gs) v)) (g.value_is ∙ ap Some same))

-- an image has one unfolded state, however it is read
pub trees_one : {others : List Root} {s : State} {bytes : List ℕ} (p q : Pictures others s bytes) → trees_of p ≡ trees_of q
trees_one {others} {s} {bytes} p q =
    let next = word bytes next_word in
    let c = p.counted.counted in
    let d = q.counted.counted in
    let tables : q.picture.table ≡ p.picture.table = q.types ∙ sym p.types in
    let held' = subst (λ (ts : Table). AllByRecursion (λ (f : Frozen). HoldsAt bytes ts f.at f.type f.value) q.picture.frozen) tables (frozen_held q) in
    let one = all_named (IsBelow next p.picture.frozen) p c.named in
    let two = all_named (IsBelow next q.picture.frozen) q d.named in
    let mean = both_mean p.picture.frozen q.picture.frozen (meaning next p.picture.frozen) (meaning next q.picture.frozen) next
    (λ r x y. means_one bytes p.picture.table p.picture.frozen q.picture.frozen next c d (frozen_held p) held' next r x y) in
    trees_agree (meaning next p.picture.frozen) (meaning next q.picture.frozen) s (record {
      names = λ name o e. mean (names_each o.values) (one.names name o e) (two.names name o e);
      uniques = λ T v e. mean (names_in v) (one.uniques T v e) (two.uniques T v e);
      owned = λ r v t e. mean (names_in v) (one.owned r v t e) (two.owned r v t e);
    })

pub trees_same : {others : List Root} {s : State} {bytes bytes' : List ℕ} → bytes' ≡ bytes → (p : Pictures others s bytes) (q : Pictures others s bytes') → trees_of q ≡ trees_of p
trees_same {others} {s} e p q = subst (λ bs. (r : Pictures others s bs) → trees_of r ≡ trees_of p) (sym e) (λ r. trees_one r p) q

-- if all cells of an image have the same copies, the unfolded states are equal
pub trees_mean : {others : List Root} {s : State} {bytes : List ℕ} (p : Pictures others s bytes) (m : ℕ → Value)
    → ((q : Place) → IsBelow (word bytes next_word) p.picture.frozen q → m q.at ≡ meaning (word bytes next_word) p.picture.frozen q.at) → unfolded_state m s ≡ trees_of p
trees_mean {s = s} {bytes = bytes} p m mean =
    let next = word bytes next_word in
    let fs = p.picture.frozen in
    let named = all_named (IsBelow next fs) p p.counted.counted.named in
    let each = λ (qs : List Place) (a : AllByRecursion (IsBelow next fs) qs). each_weaker (IsBelow next fs) (λ (q : Place). m q.at ≡ meaning next fs q.at) mean qs a in
    trees_agree m (meaning next fs) s (record {
      names = λ name o e. each (names_each o.values) (named.names name o e);
      uniques = λ T v e. each (names_in v) (named.uniques T v e);
      owned = λ r v t e. each (names_in v) (named.owned r v t e);
    })

-- ---- rows

module _ {others : List Root} {s : State} {old : List ℕ} (p : Pictures others s old) where
  abbrev pub before : ℕ → Value
  before = meaning_in (word old next_word) p.picture

  -- if frozen objects stay, except for those that no cell refers to any more, the unfolded state
  -- afterwards can be computed with the old copies
  pub trees_later : (s' : State) {new : List ℕ} (q : Pictures others s' new) → (q.picture.frozen ≡ p.picture.frozen) ⊎ ((gone : List Place) × (q.picture.frozen ≡ left gone p.picture.frozen))
      → unfolded_state before s' ≡ trees_of q
  trees_later s' {new} q (inl e) =
      trees_mean q before (λ x b. subst (λ fs. IsBelow (word new next_word) fs x → before x.at ≡ meaning (word new next_word) fs x.at) (sym e)
      (all_mean (word old next_word) p.picture.frozen p.counted.counted (word new next_word) x) b)
  trees_later s' {new} q (inr e) =
      let d = q.counted.counted in
      trees_mean q before (left_means (word old next_word) p.picture.frozen p.counted.counted [] e.0 q.picture.frozen e.1 d.distinct d.falling (word new next_word))

  -- a row of a pictured state is a row of its unfolded state
  pub row_trees : (constants : List Constant) (i : Instruction) (room : Bool) (answer : Answer) (s' : State) {new : List ℕ} (q : Pictures others s' new)
      → unfolded_state before s' ≡ trees_of q → outcome constants i room s ≡ Some (answer, s') → outcome constants i room (trees_of p) ≡ Some (answer, trees_of q)
  row_trees constants i room answer s' q later row =
      row_of_trees before constants i.operation i.a i.b i.c i.number room s s' answer row ∙ ap (λ z. Some (answer, z)) later

-- a client's first situation is one in which it may begin
pub begins_first : (client : Client) (given : Given) (x : Situation) → IsClient client → (first : IsFirst client given x) → Agree first.picture.table client.types → MayBegin client x.state
begins_first client given x valid first agree = record {
  registers = first.registers;
  typed = subst IsTyped (sym first.pictured.trees) (trees_typed first.pictured.pictured);
  same_types = λ T form e. ap (λ t. form_at t T) first.types ∙ form_in_longer first.picture.table client.types T form agree e;
}

nothing_before : (m : ℕ → Value) (n : ℕ) (rs : List Register) → map (unfolded_register m) rs ≡ replicate n Register.Undefined → rs ≡ replicate n Register.Undefined
nothing_before m zero [] e = refl
nothing_before m zero (r ∷ rs) e = cc
nothing_before m (suc n) [] e = cc
nothing_before m (suc n) (Register.Undefined ∷ rs) e =
    ap (λ xs. Register.Undefined ∷ xs) (nothing_before m n rs (let f : map (unfolded_register m) rs ≡ replicate n Register.Undefined = cc in f))
nothing_before m (suc n) (Register.Int k ∷ rs) e = cc
nothing_before m (suc n) (Register.Reference p ∷ rs) e = cc
nothing_before m (suc n) (Register.Owner v t ∷ rs) e = cc

-- a client may also begin in the pictured state before it was unfolded
pub begins_plain : (client : Client) (given : Given) (x : Situation) → (first : IsFirst client given x) → Agree first.picture.table client.types → MayBegin client first.pictured.plain
begins_plain client given x first agree =
    let p = first.pictured in
    record {
      registers = nothing_before (meaning_in (word x.image next_word) p.pictured.picture) 16 p.plain.registers (sym (ap (λ (z : State). z.registers) p.trees) ∙ first.registers);
      typed = pictured_typed given.others p.plain x.image p.pictured;
      same_types = λ T form e. ap (λ t. form_at t T) (sym (ap (λ (z : State). z.types) p.trees) ∙ first.types) ∙ form_in_longer first.picture.table client.types T form agree e;
    }
