-- If an object moves between a register and an own, a world that represented the state represents
-- the state afterwards.
use Rattle.std.proofs.Common.{◌≡◌, ◌≢◌, ℕ, ◌<◌, ◌⊎◌, inl, inr, List, [], ◌∷◌, ◌++◌, length, Bool, true, false, Option, Some, None, refl, sym, ◌∙◌, ap, subst, arith}
use Rattle.std.specs.Prelude.{if◌then◌else◌, slice_set}
use Rattle.seg_spec.specs.Header.{allocator_word, free_word, KeepsFront}
use Rattle.seg_spec.specs.Types.{Table}
use Rattle.seg_spec.specs.Value.{Value, Selector}
use Rattle.seg_spec.specs.Value as values
use Rattle.seg_spec.specs.Apart.{GoesOnAfter}
use Rattle.seg_spec.specs.Index.{Root}
use Rattle.seg_spec.specs.Reads.{Place}
use Rattle.seg_spec.proofs.SliceLaws.{IsSame-part}
use Rattle.seg_spec.proofs.Values.PlaceFrameLaws.{word-same}
use Rattle.seg_spec.proofs.Values.PathContinuationLaws.{not_after_itself}
use Rattle.client_spec.specs.Syntax.{Constant}
use Rattle.client_spec.specs.Machine.{◌>>=◌, Origin, Path, Register, State, register, set_register, owned_by, with_owned, path_value, put_at}
use Rattle.client_spec.specs.Answer.{path_from}
use Rattle.client_spec.specs.Shape.{HasShape}
use Rattle.client_spec.specs.Meaning.{InClass, Refers, IsAsKnown, Meets}
use Rattle.client_spec.specs.Pictures.{LeadsInImage}
use Rattle.client_spec.specs.Typed.{Class, RegisterType, RegisterTypes, known, is_owner, same_class, without_class, ended, others_ended, sharing}
use Rattle.client_spec.proofs.TypedStates.ClassLaws.{OneEach, known_ended, known_others, origins_apart}
use Rattle.client_spec.proofs.TypedStates.ValueLaws.{length_set}
use Rattle.client_spec.proofs.TypedStates.KnowledgeChangeLaws.{agrees_put_others}
use Rattle.client_spec.proofs.TypedStates.PutLaws.{put_types, put_length, put_register, put_at_is}
use Rattle.client_sim.proofs.Objects.OwnedPlaceLaws.{KeepsOwners}
use Rattle.client_sim.specs.Writes.{Took}
use Rattle.client_sim.specs.Shows.{World, number_in, place_in, owns_in, Shown, Shows}
use Rattle.client_sim.proofs.FrameLaws.{Frame, with_owned_none, owns_nothing}
use Rattle.client_sim.proofs.Places.ReferencePlaceLaws.{Led}
use Rattle.client_sim.proofs.Places.LeafPutLaws.{origin_streams}
use Rattle.client_sim.proofs.UnchangedImageLaws.{set_there, set_beside, same_or_not}
use Rattle.client_sim.proofs.Objects.ObjectChangeLaws.{BeginsFrom}
use Rattle.client_sim.proofs.Frozen.FrozenPathLaws.{KeepsFrozen}
use Rattle.client_sim.proofs.Objects.OwnedMoveLaws.{MovedPaths, register_beside}

not_after_none : (x : Selector) (xs ys : List Selector) → xs ++ x ∷ ys ≡ [] → ⊥
not_after_none x [] ys e = cc
not_after_none x (z ∷ xs) ys e = cc

-- the world in which register a owns an object at this place, or nothing
abbrev pub with_owning : World → List ℕ → ℕ → Bool → List ℕ → List ℕ → World
with_owning w new a owns positions type_ids = record w { image = new; owns = slice_set w.owns a owns; positions = positions; type_ids = type_ids }

module _ {others : List Root} {types : Table} {constants : List Constant} (one : OneEach constants) {first : Option (List ℕ)} {allocator : ℕ} {ks : RegisterTypes} {s : State} {w : World}
    (h : Shows others types constants first allocator ks s w) (b : ℕ) (class : Class) (T : ℕ) (is : known ks b ≡ RegisterType.Reference class T) (l : Led h b class T) (v : Value) (fits : HasShape s.types T v) (new : List ℕ)
    (a : ℕ) (y : Register) (Ends : Origin → Type 0) (m : MovedPaths h.pictured l.in_image l.value l.found new (set_register (put_at s l.path v) a y) Ends) where
  abbrev pub put_then : State
  put_then = put_at s l.path v

  abbrev pub moved_then : State
  moved_then = set_register put_then a y

  abbrev pub known_put : RegisterTypes
  known_put = others_ended class b ks

  pub put_known : IsAsKnown types constants known_put put_then
  put_known =
      let refers : Refers constants s (register s b) class T = record { path = l.path; is = l.path_is; within = l.within; leads = record { value = l.value; there = l.there; typed = l.typed } } in
      agrees_put_others types constants one class b T ks s h.as_known is refers v fits

  -- another register that owns nothing is unchanged
  pub stays : (r : ℕ) → a ≢ r → (x : Register) → register s r ≡ x → owned_by x ≡ None → register moved_then r ≡ x
  stays r far x e none =
      let t = values.with_value_at l.path.selectors v l.found.whole in
      register_beside put_then a r y far
      ∙ elim (subst (λ z. (register z r ≡ register s r) ⊎ (register z r ≡ with_owned t (register s r))) (sym (put_at_is s l.path l.found.whole v l.found.type l.found.at))
      (put_register s l.path.origin l.found.whole t l.found.type l.found.at r)) [
        | inl f ↦ f ∙ e
        | inr f ↦ f ∙ ap (with_owned t) e ∙ with_owned_none t x none
      ]

  -- the same or less is known of the register, and no path from it ends
  pub record StillKnown (r : ℕ) (k : RegisterType) : Type 0 where
    pub apart : (b ≡ r) ⊎ ((class' : Class) (U : ℕ) → k ≡ RegisterType.Reference class' U → same_class (sharing class) (sharing class') ≡ false)
    pub goes_on : (o : Origin) → BeginsFrom constants r k o → Ends o → ⊥

  abbrev pub Stays : ℕ → RegisterType → RegisterType → Type 0
  Stays r k k' = ((k' ≡ RegisterType.Undefined) × (is_owner k ≡ false)) ⊎ ((k' ≡ k) × StillKnown r k)

  elsewhere : (other : Path) (target : Place) (x : Value) → (Ends other.origin → ⊥) → (other.origin ≡ l.path.origin → GoesOnAfter l.path.selectors other.selectors → ⊥) → path_value s other ≡ Some x
      → LeadsInImage h.pictured other target → LeadsInImage m.later other target
  elsewhere other target x on apart there led = elim (m.leads other target x there led) [
    | inl e ↦ absurd (on e)
    | inr (inl g) ↦ absurd (apart g.0 g.1)
    | inr (inr k) ↦ k
  ]

  -- another register, which is the same in both worlds
  module _ (w' : World) (r : ℕ) (far : a ≢ r) (numbers : number_in w' r ≡ number_in w r) (places : place_in w' r ≡ place_in w r) (owners : owns_in w' r ≡ owns_in w r) where
    shown_known : (k : RegisterType) → StillKnown r k → Meets constants s k (register s r) → Shown h.pictured w r k (register s r) → Shown m.later w' r k (register moved_then r)
    shown_known RegisterType.Undefined still e n = owners ∙ n
    shown_known RegisterType.Int still e n = (owners ∙ n.0, stays r far _ n.1 refl ∙ ap Register.Int (sym numbers))
    shown_known (RegisterType.Reference class' U) still e n =
        let same : e.path ≡ n.1 = (let z : Register.Reference e.path ≡ Register.Reference n.1 = sym e.is ∙ n.2 in cc) in
        let there = ap (path_value s) (sym same) ∙ e.leads.there in
        let apart : n.1.origin ≡ l.path.origin → GoesOnAfter l.path.selectors n.1.selectors → ⊥ = λ q g. elim still.apart [
          | inl f ↦
              let path : n.1 ≡ l.path = (let z : Register.Reference n.1 ≡ Register.Reference l.path = sym n.2 ∙ ap (register s) (sym f) ∙ l.path_is in cc) in
              not_after_itself l.path.selectors (subst (λ (p : Path). GoesOnAfter l.path.selectors p.selectors) path g)
          | inr f ↦ (let within = subst (λ (p : Path). InClass constants class' p.origin) same e.within in
              origins_apart constants one class class' l.path.origin n.1.origin (f class' U refl) l.within within (sym q))
        ] in
        let on : Ends n.1.origin → ⊥ = still.goes_on n.1.origin (subst (λ (p : Path). InClass constants class' p.origin) same e.within) in (
          owners ∙ n.0,
          n.1,
          stays r far (Register.Reference n.1) n.2 refl,
          ap (λ (p : Place). p.type) places ∙ n.3,
          subst (λ (p : Place). LeadsInImage m.later n.1 p) (sym places) (elsewhere n.1 (place_in w r) e.leads.value on apart there n.4),
        )
    shown_known (RegisterType.Owner U) still e n =
        let path : Path = path_from (Origin.Owned r) in
        let there : path_value s path ≡ Some e.0 = ap (λ x. owned_by x >>= λ (found : Value × ℕ). values.value_at found.0 []) e.1 in (
          owners ∙ n.0,
          ap (λ (p : Place). p.type) places ∙ n.1,
          subst (λ (p : Place). LeadsInImage m.later path p) (sym places)
              (elsewhere path (place_in w r) e.0 (still.goes_on (Origin.Owned r) refl) (λ q g. not_after_none g.0 l.path.selectors g.1 (sym g.2)) there n.2),
        )

    unowned : (k : RegisterType) → is_owner k ≡ false → Shown h.pictured w r k (register s r) → owns_in w r ≡ false
    unowned RegisterType.Undefined e n = n
    unowned RegisterType.Int e n = n.0
    unowned (RegisterType.Reference class' U) e n = n.0
    unowned (RegisterType.Owner U) e n = cc

    shown_beside : (k' : RegisterType) → Stays r (known ks r) k' → Shown m.later w' r k' (register moved_then r)
    shown_beside k' (inl p) = subst (λ k. Shown m.later w' r k (register moved_then r)) (sym p.0) (owners ∙ unowned (known ks r) p.1 (h.shown r))
    shown_beside k' (inr p) = subst (λ k. Shown m.later w' r k (register moved_then r)) (sym p.0) (shown_known (known ks r) p.1 (h.as_known.each r) (h.shown r))

  -- the world represents the state after the move
  pub shows_moved : (k : RegisterType) (ks' : RegisterTypes) (owns : Bool) (positions type_ids : List ℕ) → a < 16 → length ks' ≡ 16 → length positions ≡ 17 → length type_ids ≡ 17
      → ((r : ℕ) → a ≢ r → place_in (with_owning w new a owns positions type_ids) r ≡ place_in w r)
      → KeepsFront w.image new → IsAsKnown types constants (slice_set ks' a k) moved_then
      → ((r : ℕ) → a ≢ r → Stays r (known ks r) (known ks' r))
      → Shown m.later (with_owning w new a owns positions type_ids) a k y
      → Shows others types constants first allocator (slice_set ks' a k) moved_then (with_owning w new a owns positions type_ids)
  shows_moved k ks' owns positions type_ids within sixteen at_length id_length places front as_known rest here =
      let then_is = put_at_is s l.path l.found.whole v l.found.type l.found.at in
      let whole = values.with_value_at l.path.selectors v l.found.whole in
      let streams = origin_streams s l.path.origin whole in
      record {
        pictured = m.later;
        as_known = as_known;
        sixteen = length_set ks' a k ∙ sixteen;
        registers = record { numbers = h.registers.numbers; positions = at_length; type_ids = id_length; owns = length_set w.owns a owns ∙ h.registers.owns };
        shown = λ r. elim (same_or_not a r) [
          | inl same ↦ subst (λ n. Shown m.later (with_owning w new a owns positions type_ids) n (known (slice_set ks' a k) n) (register moved_then n)) same
              (subst (λ x. Shown m.later (with_owning w new a owns positions type_ids) a (known (slice_set ks' a k) a) x) (sym register_is)
              (subst (λ z. Shown m.later (with_owning w new a owns positions type_ids) a z y) (sym (set_there ks' a k RegisterType.Undefined (omega (arith, sixteen, within)))) here))
          | inr far ↦ subst (λ z. Shown m.later (with_owning w new a owns positions type_ids) r z (register moved_then r)) (sym (set_beside ks' a r k RegisterType.Undefined far))
              (shown_beside (with_owning w new a owns positions type_ids) r far refl (places r far) (set_beside w.owns a r owns false far) (known ks' r) (rest r far))
        ];
        table_is = h.table_is ∙ sym (ap (λ (z : State). z.types) then_is ∙ put_types s l.path.origin l.found.whole whole l.found.type l.found.at);
        input_is = ap (λ (z : State). z.input) then_is ∙ streams.0 ∙ h.input_is;
        took = subst (λ out. Took first w.taken out) (sym (ap (λ (z : State). z.output) then_is ∙ streams.1)) h.took;
        allocator_is = word-same w.image new allocator_word (IsSame-part w.image new 0 free_word allocator_word 4 (omega arith) (omega arith) front) ∙ h.allocator_is;
      }
    where
      register_is : register moved_then a ≡ y
      register_is =
          let n = put_length s l.path.origin l.found.whole (values.with_value_at l.path.selectors v l.found.whole) l.found.type l.found.at in
          let long : length put_then.registers ≡ length s.registers = ap (λ (z : State). length z.registers) (put_at_is s l.path l.found.whole v l.found.type l.found.at) ∙ n in
          set_there put_then.registers a y Register.Undefined (omega (arith, long, h.as_known.count, h.sixteen, within))

  -- its picture is the one after the call
  pub picture_moved : (k : RegisterType) (ks' : RegisterTypes) (owns : Bool) (positions type_ids : List ℕ) (within : a < 16) (sixteen : length ks' ≡ 16) (at_length : length positions ≡ 17) (id_length : length type_ids ≡ 17)
      (places : (r : ℕ) → a ≢ r → place_in (with_owning w new a owns positions type_ids) r ≡ place_in w r) (front : KeepsFront w.image new) (as_known : IsAsKnown types constants (slice_set ks' a k) moved_then)
      (rest : (r : ℕ) → a ≢ r → Stays r (known ks r) (known ks' r)) (here : Shown m.later (with_owning w new a owns positions type_ids) a k y)
      → (shows_moved k ks' owns positions type_ids within sixteen at_length id_length places front as_known rest here).pictured.picture ≡ m.later.picture
  unfolding shows_moved
  picture_moved k ks' owns positions type_ids within sixteen at_length id_length places front as_known rest here = refl

  pub frame_moved : (k : RegisterType) (ks' : RegisterTypes) (owns : Bool) (positions type_ids : List ℕ) (within : a < 16) (sixteen : length ks' ≡ 16) (at_length : length positions ≡ 17) (id_length : length type_ids ≡ 17)
      (places : (r : ℕ) → a ≢ r → place_in (with_owning w new a owns positions type_ids) r ≡ place_in w r) (front : KeepsFront w.image new) (as_known : IsAsKnown types constants (slice_set ks' a k) moved_then)
      (rest : (r : ℕ) → a ≢ r → Stays r (known ks r) (known ks' r)) (here : Shown m.later (with_owning w new a owns positions type_ids) a k y)
      → ((r : ℕ) → known (slice_set ks' a k) r ≡ RegisterType.Undefined → owns_in w r ≡ false → a ≢ r)
      → KeepsFrozen w.image new h.pictured.picture.table h.pictured.picture.frozen m.later.picture.frozen → KeepsOwners w (with_owning w new a owns positions type_ids)
      → Frame (slice_set ks' a k) w (with_owning w new a owns positions type_ids) h.pictured (shows_moved k ks' owns positions type_ids within sixteen at_length id_length places front as_known rest here).pictured
  unfolding shows_moved
  frame_moved k ks' owns positions type_ids within sixteen at_length id_length places front as_known rest here apart frozen owners = record {
    frozen = frozen;
    owners = owners;
    objects = m.objects;
    unknown = λ r e o.
        let far = apart r e o in
        record { register_is = stays r far (register s r) refl (owns_nothing h r o); place_is = places r far; owns_is = set_beside w.owns a r owns false far };
  }

  -- ---- what is known of the other registers

  abbrev Apart : ℕ → RegisterType → Type 0
  Apart r k = (b ≡ r) ⊎ ((class' : Class) (U : ℕ) → k ≡ RegisterType.Reference class' U → same_class (sharing class) (sharing class') ≡ false)

  ended_or_apart : (r : ℕ) → ((known known_put r ≡ RegisterType.Undefined) × (is_owner (known ks r) ≡ false)) ⊎ ((known known_put r ≡ known ks r) × Apart r (known ks r))
  ended_or_apart r = elim (known_others types constants one class b ks r) [
    | inl p ↦ inr (p.1, inl p.0)
    | inr p ↦ elim (by (known ks r)) [ inl q ↦ inl (p ∙ q.0, q.1) | inr q ↦ inr (p ∙ q.0, inr q.1) ]
  ]
    where
      choose : (t : Bool) (c : Class) (U : ℕ) → same_class (sharing class) (sharing c) ≡ t → (((if t then RegisterType.Undefined else RegisterType.Reference c U) ≡ RegisterType.Undefined) × (false ≡ false))
          ⊎ (((if t then RegisterType.Undefined else RegisterType.Reference c U) ≡ RegisterType.Reference c U)
          × ((d : Class) (V : ℕ) → RegisterType.Reference c U ≡ RegisterType.Reference d V → same_class (sharing class) (sharing d) ≡ false))
      choose true c U e = inl (refl, refl)
      choose false c U e = inr (refl, (λ d V f. let g : c ≡ d = cc in ap (λ x. same_class (sharing class) (sharing x)) (sym g) ∙ e))

      by : (k : RegisterType) → ((without_class (sharing class) k ≡ RegisterType.Undefined) × (is_owner k ≡ false))
          ⊎ ((without_class (sharing class) k ≡ k) × ((d : Class) (V : ℕ) → k ≡ RegisterType.Reference d V → same_class (sharing class) (sharing d) ≡ false))
      by RegisterType.Undefined = inl (refl, refl)
      by RegisterType.Int = inr (refl, (λ d V e. cc))
      by (RegisterType.Owner U) = inr (refl, (λ d V e. cc))
      by (RegisterType.Reference c U) = choose (same_class (sharing class) (sharing c)) c U refl

  -- the registers stay known if only paths into the place's old value end
  pub stays_put : ((o : Origin) → Ends o → ⊥) → (r : ℕ) → Stays r (known ks r) (known known_put r)
  stays_put none r = elim (ended_or_apart r) [
    | inl p ↦ inl p
    | inr p ↦ inr (p.0, record { apart = p.1; goes_on = λ o begins ends. none o ends })
  ]

  -- the registers stay known if the paths from register a end too
  pub stays_released : ((o : Origin) → Ends o → o ≡ Origin.Owned a) → (r : ℕ) → a ≢ r → Stays r (known ks r) (known (ended (Class.Register a) known_put) r)
  stays_released its r far =
      let at : known (ended (Class.Register a) known_put) r ≡ without_class (Class.Register a) (known known_put r) = known_ended (Class.Register a) known_put r in
      elim (ended_or_apart r) [
        | inl p ↦ inl (at ∙ ap (without_class (Class.Register a)) p.0, p.1)
        | inr p ↦ elim (by (known ks r) p.1) [
          | inl q ↦ inl (at ∙ ap (without_class (Class.Register a)) p.0 ∙ q.0, q.1)
          | inr q ↦ inr (at ∙ ap (without_class (Class.Register a)) p.0 ∙ q.0, q.1)
        ]
      ]
    where
      choose : (t : Bool) (c : Class) (U : ℕ) → same_class (Class.Register a) (sharing c) ≡ t → Apart r (RegisterType.Reference c U)
          → Stays r (RegisterType.Reference c U) (if t then RegisterType.Undefined else RegisterType.Reference c U)
      choose true c U e apart = inl (refl, refl)
      choose false c U e apart = inr (
        refl,
        record {
          apart = apart;
          goes_on = λ o within ends. origins_apart constants one (Class.Register a) c (Origin.Owned a) o e refl within (sym (its o ends));
        },
      )

      by : (k : RegisterType) → Apart r k → Stays r k (without_class (Class.Register a) k)
      by RegisterType.Undefined apart = inl (refl, refl)
      by RegisterType.Int apart = inr (refl, record { apart = apart; goes_on = λ o begins ends. begins })
      by (RegisterType.Owner U) apart = inr (refl, record { apart = apart; goes_on = λ o begins ends. (let e : Origin.Owned a ≡ Origin.Owned r = sym (its o ends) ∙ begins in far (cc)) })
      by (RegisterType.Reference c U) apart = choose (same_class (Class.Register a) (sharing c)) c U refl apart
