-- Paths through shared cells over a call: frozen objects that are still shared keep their values,
-- and paths inside them refer to the same places.
use Rattle.std.proofs.Common.{◌≡◌, ◌≢◌, inl, inr, ℕ, suc, ◌+◌, ◌*◌, Bool, true, false, List, [], ◌∷◌, Some, refl, sym, ◌∙◌, ap, subst, arith}
use Rattle.std.specs.Prelude.{◌==◌, if◌then◌else◌}
use Rattle.std.specs.List.{AllByRecursion}
use Rattle.std.proofs.lemmas.Bool.{eqb-true, eq-eqb}
use Rattle.seg_spec.specs.Types.{Table, size}
use Rattle.seg_spec.specs.Value.{Label, Value, node, nil, Selector, value_at}
use Rattle.seg_spec.specs.Index.{Root}
use Rattle.seg_spec.specs.Reads.{Place, Leads}
use Rattle.seg_spec.specs.Frozen.{Frozen, frozen_words, root_of_frozen}
use Rattle.seg_spec.specs.Shared.{names_in, IsBelow, AreDistinct, value_at_position, with_count, raised, raised_by, left}
use Rattle.seg_spec.specs.Roots.{item_of}
use Rattle.seg_spec.proofs.Values.OneValueLaws.{HoldsEach-one}
use Rattle.seg_spec.proofs.Values.PlaceFrameLaws.{each_weaker}
use Rattle.seg_spec.proofs.Frozen.SharedLaws.{left_each, wider}
use Rattle.seg_spec.proofs.Frozen.UnfoldedTreeLaws.{found}
use Rattle.client_spec.specs.Machine.{State}
use Rattle.client_spec.specs.Pictures.{Pictures}
use Rattle.client_spec.proofs.TypedStates.ValueLaws.{Some_inj}
use Rattle.client_spec.proofs.Unfolded.PictureTreeLaws.{HoldsAt, at_name, frozen_held, cons_first}
use Rattle.client_sim.specs.Shows.{FrozenStay, all_stay, some_go, some_shared, KeepsFrozenPaths}
use Rattle.client_sim.specs.Seeing.{value_place, LeadsFrozen, inside, through}
use Rattle.client_sim.proofs.Frozen.FrozenValueLaws.{of_part, of_cell}

-- each frozen object is found by its position
each_found : (fs : List Frozen) → AreDistinct fs → AllByRecursion (λ (f : Frozen). value_at_position fs f.at ≡ Some f.value) fs
each_found [] d = tt
each_found (f ∷ fs) d = (here, further fs d.0 (each_found fs d.1))
  where
    here : value_at_position (f ∷ fs) f.at ≡ Some f.value
    here = ap (λ (b : Bool). if b then Some f.value else value_at_position fs f.at) (eq-eqb f.at f.at refl)

    other : (p : ℕ) → p ≢ f.at → value_at_position (f ∷ fs) p ≡ value_at_position fs p
    other p far = choose (f.at == p) refl
      where
        choose : (b : Bool) → (f.at == p) ≡ b → (if b then Some f.value else value_at_position fs p) ≡ value_at_position fs p
        choose true e = absurd (far (sym (eqb-true f.at p e)))
        choose false e = refl

    further : (gs : List Frozen) → AllByRecursion (λ (g : Frozen). g.at ≢ f.at) gs → AllByRecursion (λ (g : Frozen). value_at_position fs g.at ≡ Some g.value) gs
        → AllByRecursion (λ (g : Frozen). value_at_position (f ∷ fs) g.at ≡ Some g.value) gs
    further [] a e = tt
    further (g ∷ gs) a e = (other g.at a.0 ∙ e.0, further gs a.1 e.1)

-- two pictures of the same bytes
module _ {others : List Root} {s : State} {bytes : List ℕ} (p q : Pictures others s bytes) where
  same_value : (n k : ℕ) (x : Place) (f g : Value) → IsBelow n p.picture.frozen x → value_at_position p.picture.frozen x.at ≡ Some f → IsBelow k q.picture.frozen x → value_at_position q.picture.frozen x.at ≡ Some g → f ≡ g
  same_value n k x f g b e c d =
      let tables : q.picture.table ≡ p.picture.table = q.types ∙ sym p.types in
      let one = at_name (HoldsAt bytes p.picture.table) n p.picture.frozen x f p.counted.counted.distinct (frozen_held p) b e in
      let two = at_name (HoldsAt bytes p.picture.table) k q.picture.frozen x g q.counted.counted.distinct
      (subst (λ (ts : Table). AllByRecursion (λ (h : Frozen). HoldsAt bytes ts h.at h.type h.value) q.picture.frozen) tables (frozen_held q)) c d in
      cons_first (HoldsEach-one bytes p.picture.table one.1 two.1).0

-- ---- over a call

-- objects that are shared before and after have the same values, and paths in them refer to the
-- same places
pub record StayNamed (old new : List ℕ) (table : Table) (before after : List Frozen) : Type 0 where
  pub value : (n : ℕ) (x : Place) (f : Value) → IsBelow n before x → IsBelow n after x → value_at_position after x.at ≡ Some f → value_at_position before x.at ≡ Some f
  pub paths : (n : ℕ) (x : Place) → IsBelow n before x → IsBelow n after x → (xs : List Selector) (target : Place) → Leads old table (value_place x) xs target → Leads new table (value_place x) xs target

-- a claim that doesn't depend on counts stays true when counts rise
each_raised : (P : ℕ → ℕ → Value → Type 0) (p : ℕ) (fs : List Frozen) → AllByRecursion (λ (g : Frozen). P g.at g.type g.value) fs → AllByRecursion (λ (g : Frozen). P g.at g.type g.value) (raised p fs)
each_raised P p [] a = tt
each_raised P p (f ∷ fs) a = (one (f.at == p), each_raised P p fs a.1)
  where
    one : (b : Bool) → (let g : Frozen = if b then with_count f (suc f.count) else f in P g.at g.type g.value)
    one true = a.0
    one false = a.0

each_raised_by : (P : ℕ → ℕ → Value → Type 0) (names : List Place) (fs : List Frozen) → AllByRecursion (λ (g : Frozen). P g.at g.type g.value) fs → AllByRecursion (λ (g : Frozen). P g.at g.type g.value) (raised_by names fs)
each_raised_by P [] fs a = a
each_raised_by P (q ∷ names) fs a = each_raised P q.at (raised_by names fs) (each_raised_by P names fs a)

-- a remaining object has the value that it had before some cells were destroyed and others added
pub left_value : (before after : List Frozen) (gone names : List Place) → AreDistinct before → AreDistinct after → after ≡ left gone (raised_by names before)
    → (n : ℕ) (x : Place) (v : Value) → IsBelow n after x → value_at_position after x.at ≡ Some v → value_at_position before x.at ≡ Some v
left_value before after gone names distinct distinct_then after_is n x v b e =
    let P = λ (at T : ℕ) (u : Value). value_at_position before at ≡ Some u in
    let each = left_each (λ (g : Frozen). P g.at g.type g.value) (λ g k h. h) gone (raised_by names before) (each_raised_by P names before (each_found before distinct)) in
    at_name P n after x v distinct_then (subst (AllByRecursion (λ (g : Frozen). P g.at g.type g.value)) (sym after_is) each) b e

-- paths in an object refer to the same places, if they do so in all of these objects
pub paths_at : (old new : List ℕ) (table : Table) (n : ℕ) (x : Place) (fs : List Frozen) → KeepsFrozenPaths old new table fs → IsBelow n fs x
    → (xs : List Selector) (target : Place) → Leads old table (value_place x) xs target → Leads new table (value_place x) xs target
paths_at old new table n x [] k b xs target leads = absurd b
paths_at old new table n x (f ∷ fs) k (inl b) xs target leads =
    let there : item_of table (root_of_frozen f) 0 ≡ value_place x =
    ap (λ (m : ℕ). record { at = m; type = f.type }) (let z : f.at + frozen_words + 0 * size table f.type ≡ x.at + frozen_words = omega (arith, b.0) in z) ∙ ap (λ (m : ℕ). record { at = x.at + frozen_words; type = m }) b.1 in
    subst (λ (y : Place). Leads new table y xs target) there (k.0 0 xs target (omega arith) (subst (λ (y : Place). Leads old table y xs target) (sym there) leads))
paths_at old new table n x (f ∷ fs) k (inr b) xs target leads = paths_at old new table n x fs k.1 b xs target leads

-- a call that freezes no object
module _ {others : List Root} {s s' : State} {old new : List ℕ} (before : Pictures others s old) (after : Pictures others s' new)
    (stays : FrozenStay before.picture.frozen after.picture.frozen) (paths : KeepsFrozenPaths old new before.picture.table after.picture.frozen) where
  stay_value : (n : ℕ) (x : Place) (f : Value) → IsBelow n after.picture.frozen x → value_at_position after.picture.frozen x.at ≡ Some f → value_at_position before.picture.frozen x.at ≡ Some f
  stay_value n x f b e = by stays
    where
      some_left : (gone names : List Place) → after.picture.frozen ≡ left gone (raised_by names before.picture.frozen) → value_at_position before.picture.frozen x.at ≡ Some f
      some_left gone names same =
          left_value before.picture.frozen after.picture.frozen gone names before.counted.counted.distinct after.counted.counted.distinct same n x f b e

      by : FrozenStay before.picture.frozen after.picture.frozen → value_at_position before.picture.frozen x.at ≡ Some f
      by (all_stay same) = ap (λ fs. value_at_position fs x.at) (sym same) ∙ e
      by (some_go gone same) = some_left gone [] same
      by (some_shared gone names same) = some_left gone names same

  pub stay_named : StayNamed old new before.picture.table before.picture.frozen after.picture.frozen
  stay_named = record { value = λ n x f there. stay_value n x f; paths = λ n x there b. paths_at old new before.picture.table n x after.picture.frozen paths b }

module _ {others : List Root} {s s' : State} {old new : List ℕ} (p before : Pictures others s old) (after p' : Pictures others s' new)
    (stays : StayNamed old new before.picture.table before.picture.frozen after.picture.frozen) (types : s'.types ≡ s.types) where
  -- a cell refers to the object in each of the pictures
  pub record NamedStill (x : Place) : Type 0 where
    pub n : ℕ
    pub there : IsBelow n p.picture.frozen x
    pub there_before : IsBelow n before.picture.frozen x
    pub there_after : IsBelow n after.picture.frozen x
    pub there_then : IsBelow n p'.picture.frozen x

  value_then : (x : Place) (f : Value) → NamedStill x → value_at_position p.picture.frozen x.at ≡ Some f → value_at_position p'.picture.frozen x.at ≡ Some f
  value_then x f k e =
      let c = after.counted.counted in
      let a = found k.n after.picture.frozen x c.distinct c.falling k.there_after in
      let d = p'.counted.counted in
      let z = found k.n p'.picture.frozen x d.distinct d.falling k.there_then in
      let was = stays.value k.n x a.object.value k.there_before k.there_after a.value_is in
      let one : f ≡ a.object.value = same_value p before k.n k.n x f a.object.value k.there e k.there_before was in
      let two : a.object.value ≡ z.object.value = same_value after p' k.n k.n x a.object.value z.object.value k.there_after a.value_is k.there_then z.value_is in
      z.value_is ∙ ap Some (sym two ∙ sym one)

  path_then : (x : Place) → NamedStill x → (xs : List Selector) (target : Place) → Leads old p.picture.table (value_place x) xs target → Leads new p'.picture.table (value_place x) xs target
  path_then x k xs target leads =
      let table : p.picture.table ≡ before.picture.table = p.types ∙ sym before.types in
      let table_then : before.picture.table ≡ p'.picture.table = before.types ∙ sym types ∙ sym p'.types in
      subst (λ (ts : Table). Leads new ts (value_place x) xs target) table_then
      (stays.paths k.n x k.there_before k.there_after xs target (subst (λ (ts : Table). Leads old ts (value_place x) xs target) table leads))

  -- an object that is shared by cells of an object that is still shared is still shared
  deeper : (x : Place) (f : Value) → NamedStill x → value_at_position p.picture.frozen x.at ≡ Some f → (xs : List Selector) (U at : ℕ) → value_at f xs ≡ Some (node (Label.shared U at) nil) → NamedStill (record { at = at; type = U })
  deeper x f k e xs U at names =
      let a = inner p k.there e in
      let c = after.counted.counted in
      let o = found k.n after.picture.frozen x c.distinct c.falling k.there_after in
      let was = stays.value k.n x o.object.value k.there_before k.there_after o.value_is in
      let same : f ≡ o.object.value = same_value p before k.n k.n x f o.object.value k.there e k.there_before was in
      record {
        n = k.n;
        there = inner p k.there e;
        there_before = inner before k.there_before (was ∙ ap Some (sym same));
        there_after = inner after k.there_after (o.value_is ∙ ap Some (sym same));
        there_then = inner p' k.there_then (value_then x f k e);
      }
    where
      inner : {t : State} {bytes : List ℕ} (z : Pictures others t bytes) → IsBelow k.n z.picture.frozen x → value_at_position z.picture.frozen x.at ≡ Some f → IsBelow k.n z.picture.frozen (record { at = at; type = U })
      inner z b g =
          let c = z.counted.counted in
          let o = found k.n z.picture.frozen x c.distinct c.falling b in
          let same : o.object.value ≡ f = Some_inj (sym o.value_is ∙ g) in
          let B = IsBelow k.n z.picture.frozen in
          of_cell B U at (of_part B xs f (node (Label.shared U at) nil)
          (subst (λ v. AllByRecursion B (names_in v)) same (each_weaker (IsBelow o.object.number z.picture.frozen) B
          (λ r l. wider o.object.number k.n z.picture.frozen r (let less = o.less in omega arith) l) (names_in o.object.value) o.names)) names)

  pub leads_still : (x : Place) → NamedStill x → {xs : List Selector} {target : Place} → LeadsFrozen old p.picture.table p.picture.frozen x xs target → LeadsFrozen new p'.picture.table p'.picture.frozen x xs target
  leads_still x k (inside {target = target} {xs = xs} leads) = inside (path_then x k xs target leads)
  leads_still x k (through f xs ys U at e names leads) = through f xs ys U at (value_then x f k e) names (leads_still (record { at = at; type = U }) (deeper x f k e xs U at names) leads)
