-- After a call changed the value at a place, the image pictures the state with the new value.
-- References into the same root end, except for the one to that place.
use Rattle.std.proofs.Common.{◌≡◌, ◌⊎◌, ℕ, List, [], ◌∷◌, ◌++◌, Bool, true, false, Some, refl, sym, ◌∙◌, ap, subst, arith, inl, inr, Option}
use Rattle.std.specs.Prelude.{if◌then◌else◌}
use Rattle.std.proofs.lemmas.List.{length-map}
use Rattle.seg_spec.specs.Header.{allocator_word, free_word, KeepsFront}
use Rattle.seg_spec.specs.Types.{Table}
use Rattle.seg_spec.specs.Value.{Value, Selector}
use Rattle.seg_spec.specs.Value as values
use Rattle.seg_spec.specs.Apart.{GoesOnAfter}
use Rattle.seg_spec.specs.Index.{Root}
use Rattle.seg_spec.specs.Reads.{Place}
use Rattle.seg_spec.proofs.SliceLaws.{IsSame-part}
use Rattle.seg_spec.proofs.Values.PlaceFrameLaws.{word-same}
use Rattle.seg_spec.proofs.Values.PathContinuationLaws.{not_after_itself}
use Rattle.client_spec.specs.Syntax.{Constant}
use Rattle.client_spec.specs.Machine.{◌>>=◌, Origin, Path, Register, State, register, owned_by, with_owned, path_value, put_origin, put_at}
use Rattle.client_spec.specs.Answer.{path_from}
use Rattle.client_spec.specs.Shape.{HasShape}
use Rattle.client_spec.specs.Meaning.{InClass, LeadsToType, Refers, Meets}
use Rattle.client_spec.specs.Pictures.{LeadsInImage}
use Rattle.client_spec.specs.Typed.{Class, RegisterType, RegisterTypes, known, same_class, without_class, ended, others_ended, sharing}
use Rattle.client_spec.proofs.TypedStates.ClassLaws.{OneEach, known_others, origins_apart}
use Rattle.client_spec.proofs.TypedStates.ValueLaws.{length_set}
use Rattle.client_spec.proofs.TypedStates.KnowledgeChangeLaws.{agrees_put_others}
use Rattle.client_spec.proofs.TypedStates.PutLaws.{put_types, put_register, put_at_is, leads_here}
use Rattle.client_sim.specs.Writes.{Took}
use Rattle.client_sim.specs.Shows.{World, place_in, Shown, Shows}
use Rattle.client_sim.proofs.FrameLaws.{Frame, owner_changed}
use Rattle.client_sim.proofs.Places.PathPlaceLaws.{PlacePut}
use Rattle.client_sim.proofs.Places.ReferencePlaceLaws.{Led}
use Rattle.client_sim.proofs.Places.LeafPutLaws.{with_image, origin_streams}

module _ {others : List Root} {types : Table} {constants : List Constant} (one : OneEach constants) {first : Option (List ℕ)} {allocator : ℕ} {ks : RegisterTypes} {s : State} {w : World}
    (h : Shows others types constants first allocator ks s w) (b : ℕ) (class : Class) (T : ℕ) (is : known ks b ≡ RegisterType.Reference class T) (l : Led h b class T) (v : Value) (fits : HasShape s.types T v)
    (new : List ℕ) (put : PlacePut h.pictured l.in_image l.value (put_at s l.path v) new) (front_kept : KeepsFront w.image new) where
  abbrev state_then : State
  state_then = put_at s l.path v

  abbrev root_then : Value
  root_then = values.with_value_at l.path.selectors v l.found.whole

  then_is : state_then ≡ put_origin s l.path.origin root_then
  then_is = put_at_is s l.path l.found.whole v l.found.type l.found.at

  -- A path refers to the same place as before if it has another root, if it is this path, or if it
  -- doesn't continue from this path.
  elsewhere : (other : Path) (target : Place) (x : Value) → (other.origin ≡ l.path.origin → GoesOnAfter l.path.selectors other.selectors → ⊥) → path_value s other ≡ Some x → LeadsInImage h.pictured other target
      → LeadsInImage put.later other target
  elsewhere other target x apart there led = elim (put.leads other target x there led) [ inl g ↦ absurd (apart g.0 g.1) | inr k ↦ k ]

  registers_are : (r : ℕ) → (register state_then r ≡ register s r) ⊎ (register state_then r ≡ with_owned root_then (register s r))
  registers_are r = subst (λ z. (register z r ≡ register s r) ⊎ (register z r ≡ with_owned root_then (register s r))) (sym then_is) (put_register s l.path.origin l.found.whole root_then l.found.type l.found.at r)

  -- a register that owns nothing is unchanged
  stays : (r : ℕ) (x : Register) → register s r ≡ x → with_owned root_then x ≡ x → register state_then r ≡ x
  stays r x is same = elim (registers_are r) [ inl e ↦ e ∙ is | inr e ↦ e ∙ ap (with_owned root_then) is ∙ same ]

  not_after_none : (x : Selector) (xs ys : List Selector) → xs ++ x ∷ ys ≡ [] → ⊥
  not_after_none x [] ys e = cc
  not_after_none x (z ∷ xs) ys e = cc

  -- what is still known of a register is true of the world after the call
  shown_by : (r : ℕ) (k : RegisterType) → ((b ≡ r) ⊎ ((class' : Class) (U : ℕ) → k ≡ RegisterType.Reference class' U → same_class (sharing class) (sharing class') ≡ false)) → Meets constants s k (register s r)
      → Shown h.pictured w r k (register s r)
      → Shown put.later (with_image w new) r k (register state_then r)
  shown_by r RegisterType.Undefined still m n = n
  shown_by r RegisterType.Int still m n = (n.0, stays r _ n.1 refl)
  shown_by r (RegisterType.Reference class' U) still m n =
      let same : m.path ≡ n.1 = (let e : Register.Reference m.path ≡ Register.Reference n.1 = sym m.is ∙ n.2 in cc) in
      let there = ap (path_value s) (sym same) ∙ m.leads.there in
      let apart : n.1.origin ≡ l.path.origin → GoesOnAfter l.path.selectors n.1.selectors → ⊥ = λ e g. elim still [
        | inl f ↦
            let path : n.1 ≡ l.path = (let q : Register.Reference n.1 ≡ Register.Reference l.path = sym n.2 ∙ ap (register s) (sym f) ∙ l.path_is in cc) in
            not_after_itself l.path.selectors (subst (λ (p : Path). GoesOnAfter l.path.selectors p.selectors) path g)
        | inr f ↦ (let within = subst (λ (p : Path). InClass constants class' p.origin) same m.within in
            origins_apart constants one class class' l.path.origin n.1.origin (f class' U refl) l.within within (sym e))
      ] in
      (n.0, n.1, stays r (Register.Reference n.1) n.2 refl, n.3, elsewhere n.1 (place_in w r) m.leads.value apart there n.4)
  shown_by r (RegisterType.Owner U) still m n =
      (n.0, n.1, elsewhere (path_from (Origin.Owned r)) (place_in w r) m.0 (λ e g. not_after_none g.0 l.path.selectors g.1 (sym g.2)) (ap (λ x. owned_by x >>= λ (found : Value × ℕ). values.value_at found.0 []) m.1) n.2)

  shown_ended : (r : ℕ) (k : RegisterType) → Meets constants s k (register s r) → Shown h.pictured w r k (register s r) → Shown put.later (with_image w new) r (without_class (sharing class) k) (register state_then r)
  shown_ended r RegisterType.Undefined m n = shown_by r RegisterType.Undefined (inr (λ c u e. cc)) m n
  shown_ended r RegisterType.Int m n = shown_by r RegisterType.Int (inr (λ c u e. cc)) m n
  shown_ended r (RegisterType.Owner U) m n = shown_by r (RegisterType.Owner U) (inr (λ c u e. cc)) m n
  shown_ended r (RegisterType.Reference class' U) m n = by (same_class (sharing class) (sharing class')) refl
    where
      by : (t : Bool) → same_class (sharing class) (sharing class') ≡ t → Shown put.later (with_image w new) r (if t then RegisterType.Undefined else RegisterType.Reference class' U) (register state_then r)
      by true e = n.0
      by false e = shown_by r (RegisterType.Reference class' U) (inr (λ c u f. let g : class' ≡ c = cc in ap (λ x. same_class (sharing class) (sharing x)) (sym g) ∙ e)) m n

  pub shows_changed : Shows others types constants first allocator (others_ended class b ks) state_then (with_image w new)
  shows_changed =
      let streams = origin_streams s l.path.origin root_then in
      let registers = h.registers in
      let refers : Refers constants s (register s b) class T = record { path = l.path; is = l.path_is; within = l.within; leads = record { value = l.value; there = l.there; typed = l.typed } } in
      record {
        pictured = put.later;
        as_known = agrees_put_others types constants one class b T ks s h.as_known is refers v fits;
        sixteen = length_set (ended (sharing class) ks) b (known ks b) ∙ length-map ks (without_class (sharing class)) ∙ h.sixteen;
        registers = record { numbers = registers.numbers; positions = registers.positions; type_ids = registers.type_ids; owns = registers.owns };
        shown = λ r. elim (known_others types constants one class b ks r) [
          | inl p ↦ subst (λ k. Shown put.later (with_image w new) r k (register state_then r)) (sym p.1) (shown_by r (known ks r) (inl p.0) (h.as_known.each r) (h.shown r))
          | inr p ↦ subst (λ k. Shown put.later (with_image w new) r k (register state_then r)) (sym p) (shown_ended r (known ks r) (h.as_known.each r) (h.shown r))
        ];
        table_is = h.table_is ∙ sym (ap (λ (z : State). z.types) then_is ∙ put_types s l.path.origin l.found.whole root_then l.found.type l.found.at);
        input_is = ap (λ (z : State). z.input) then_is ∙ streams.0 ∙ h.input_is;
        took = subst (λ out. Took first w.taken out) (sym (ap (λ (z : State). z.output) then_is ∙ streams.1)) h.took;
        allocator_is = word-same w.image new allocator_word (IsSame-part w.image new 0 free_word allocator_word 4 (omega arith) (omega arith) front_kept) ∙ h.allocator_is;
      }

  pub frame_changed : Frame (others_ended class b ks) w (with_image w new) h.pictured shows_changed.pictured
  unfolding shows_changed
  frame_changed = record { frozen = put.stays; unknown = λ r e o. record { register_is = owner_changed h r state_then root_then o (registers_are r); place_is = refl; owns_is = refl }; owners = λ r had has. refl; objects = put.objects }

  -- the path refers to the same place, which has the new value
  pub leads_changed : LeadsInImage shows_changed.pictured l.path (place_in w b)
  unfolding shows_changed
  leads_changed = elsewhere l.path (place_in w b) l.value (λ e g. not_after_itself l.path.selectors g) l.there l.in_image

  pub there_changed : (t : LeadsToType state_then l.path T) × (t.value ≡ v)
  there_changed = leads_here s l.path T v (record { value = l.value; there = l.there; typed = l.typed })

  pub table_changed : shows_changed.pictured.picture.table ≡ w.table
  unfolding shows_changed
  table_changed = put.table ∙ h.pictured.types ∙ sym h.table_is
