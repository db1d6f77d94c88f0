-- PUT: an own takes the object of a register, and its old object is destroyed.
use Rattle.std.proofs.Common.{◌≡◌, ◌≢◌, ℕ, ℤ, List, [], ◌∷◌, ◌++◌, length, Bool, true, false, inl, inr, Option, Some, None, refl, sym, ◌∙◌, ap, subst, arith}
use Rattle.std.specs.Prelude.{not, ◌&&◌, ◌==◌, slice_set}
use Rattle.std.proofs.lemmas.Bool.{eqb-true, eq-eqb}
use Rattle.std.proofs.lemmas.List.{length-map, append-nil}
use Rattle.seg_spec.specs.Types.{Form, Table, form_at}
use Rattle.seg_spec.specs.Value.{Value, Full}
use Rattle.seg_spec.specs.Block.{block_of}
use Rattle.seg_spec.specs.Reads.{Holds}
use Rattle.seg_spec.specs.Parts.{Persists}
use Rattle.seg_spec.specs.Index.{Root}
use Rattle.seg_spec.specs.Sound.{HoldsRoot}
use Rattle.seg_spec.specs.Owning.{Stands}
use Rattle.seg_spec.specs.Calls.{IsLoose}
use Rattle.seg_spec.specs.Frozen.{Frozen, blocks_by}
use Rattle.seg_spec.specs.Shared.{names_in, names_each, named_in, left, freed}
use Rattle.seg_spec.specs.Clearing.{SharedBeside, BesideShared, ClearsPlace}
use Rattle.seg_spec.proofs.Frozen.CountDecreaseLaws.{named_positions}
use Rattle.seg_spec.proofs.Frozen.PartCountLaws.{names_same}
use Rattle.client_spec.specs.declared.table.Operation.{Operation}
use Rattle.client_spec.specs.declared.table.Role.{Role}
use Rattle.client_spec.specs.Syntax.{Constant, Instruction}
use Rattle.client_spec.specs.Machine.{◌>>=◌, Origin, Path, Register, State, register, set_register, owned_by, path_value, put_at}
use Rattle.client_spec.specs.Answer.{success, path_of, path_form, content_in, owned_type, begins_at, provided, proceed}
use Rattle.client_spec.specs.Effect.{outcome, effect}
use Rattle.client_spec.specs.Shape.{HasShape}
use Rattle.client_spec.specs.Asks.{LedTo, PlaceGoes}
use Rattle.client_spec.specs.Ties.{object_at, spot_of, Both, OfFrozen, OfRoot, OfOwner, PutsOwned, OfPlace}
use Rattle.client_spec.specs.Typed.{Class, RegisterType, Reason, RegisterTypes, known, same_class, sharing, owner_needed, required, known_after, without_class, ended, others_ended, rule}
use Rattle.client_spec.specs.Typed as typed
use Rattle.client_spec.proofs.TypedStates.ValueFormLaws.{own_value, own_fits, not_is, required_is}
use Rattle.client_spec.proofs.TypedStates.KnowledgeChangeLaws.{agrees_release}
use Rattle.client_spec.proofs.TypedStates.ClassLaws.{origins_apart}
use Rattle.client_spec.proofs.Rows.RuleRowLaws.{bind_ok, Ok_inj}
use Rattle.client_spec.proofs.Rows.RowPartLaws.{owner_found}
use Rattle.client_spec.proofs.TypedStates.ShapeLaws.{value_of_form}
use Rattle.client_spec.proofs.Spelling.ConstantNameLaws.{one_each}
use Rattle.client_spec.proofs.TypedStates.ValueLaws.{length_set}
use Rattle.client_sim.specs.Shows.{World, place_in, owns_in, Acts}
use Rattle.client_sim.specs.Acting.{ActsAs, ActsPlainly}
use Rattle.client_sim.proofs.ImageChangeLaws.{kept_at_place, of_frozen, changed_at_place}
use Rattle.client_sim.proofs.Frozen.UnfoldedOperationLaws.{lifted_acts}
use Rattle.client_sim.proofs.FrameLaws.{owner_apart}
use Rattle.client_sim.proofs.UnchangedImageLaws.{set_there}
use Rattle.client_sim.proofs.Places.PathPlaceLaws.{shared_here}
use Rattle.seg_spec.proofs.Frozen.ValueCellLaws.{names_full, names_one}
use Rattle.client_sim.proofs.GrantLaws.{given_back, gives_back}
use Rattle.client_sim.proofs.EffectLaws.{acts_so}
use Rattle.client_sim.proofs.Instructions.ItemLaws.{reaches, led_to, place_touched}
use Rattle.client_sim.proofs.Objects.OwnedMoveLaws.{put_moves}
use Rattle.client_sim.proofs.Objects.MoveWorldLaws.{with_owning, shows_moved, put_known, stays_released, frame_moved}
use Rattle.client_sim.proofs.Objects.ObjectMoveLaws.{KeepsEach, object_stays, own_points}
use Rattle.client_sim.proofs.Objects.OwnedObjectLaws.{owns_here, owns_apart}
use Rattle.client_sim.proofs.Objects.OwnedPlaceLaws.{owned_less}

-- another origin doesn't begin at the register
pub begins_elsewhere : (c : ℕ) (o : Origin) → o ≢ Origin.Owned c → begins_at c o ≡ false
begins_elsewhere c (Origin.Name name i) far = refl
begins_elsewhere c (Origin.Unique t) far = refl
begins_elsewhere c (Origin.Owned q) far = choose (c == q) refl
  where
    choose : (b : Bool) → (c == q) ≡ b → b ≡ false
    choose true e = absurd (far (ap Origin.Owned (sym (eqb-true c q e))))
    choose false e = refl

pub own_is : (form : Form) (U : ℕ) → owned_type form ≡ Some U → form ≡ Form.own U
own_is (Form.own V) U e = ap Form.own (let same : V ≡ U = cc in same)
own_is form U e = cc

module _ (allocator : ℕ) (constants : List Constant) (role : Role) (a b c : ℕ) (number : ℤ) (w : World) (new : List ℕ) where
  abbrev put : Instruction
  put = record { operation = Operation.Put; a = a; b = b; c = c; number = number }

  put_row : (s : State) (p : Path) (form : Form) (U : ℕ) (old new_value : Value) (inside : Option Value) → path_of s b ≡ Some p → path_form s p ≡ Some form → owned_type form ≡ Some U
      → owned_by (register s c) ≡ Some (new_value, U) → path_value s p ≡ Some old → content_in old ≡ Some inside → begins_at c p.origin ≡ false
      → outcome constants put true s ≡ Some (success, set_register (put_at s p (Full new_value)) c Register.Undefined)
  unfolding effect
  put_row s p form U old new_value inside path_is form_is own_is owned there content far =
      let last = λ (p : Path) (t : ℕ) (n : Value × ℕ). provided (t == n.1 && not (begins_at c p.origin)) (proceed (set_register (put_at s p (Full n.0)) c Register.Undefined)) in
      let test : (U == U && not (begins_at c p.origin)) ≡ true = ap (λ x. x && not (begins_at c p.origin)) (eq-eqb U U refl) ∙ ap not far in
      ap (λ o. o >>= λ p. (path_form s p >>= owned_type) >>= λ t. owned_by (register s c) >>= λ n. (path_value s p >>= content_in) >>= λ _. last p t n) path_is
      ∙ ap (λ o. (o >>= owned_type) >>= λ t. owned_by (register s c) >>= λ n. (path_value s p >>= content_in) >>= λ _. last p t n) form_is
      ∙ ap (λ o. o >>= λ t. owned_by (register s c) >>= λ n. (path_value s p >>= content_in) >>= λ _. last p t n) own_is
      ∙ ap (λ o. o >>= λ n. (path_value s p >>= content_in) >>= λ _. last p U n) owned
      ∙ ap (λ o. (o >>= content_in) >>= λ _. last p U (new_value, U)) there
      ∙ ap (λ o. o >>= λ _. last p U (new_value, U)) content
      ∙ ap (λ t. provided t (proceed (set_register (put_at s p (Full new_value)) c Register.Undefined))) test

  -- the own has the object at this position, whose blocks are kept
  pub record PutsIn (table : Table) (object : ℕ) (x : Value) (blocks inside : List ℕ) (theirs : ℕ → List ℕ) (now final : List Frozen) : Type 0 where
    pub clears : ClearsPlace w.image new table (place_in w b) (Full x) (blocks ++ block_of object ∷ inside) (block_of object ∷ inside) theirs now final
    pub kept : KeepsEach w.image new (block_of object ∷ inside)

  -- the call's contract for an own at register b's place and the object of register c, whatever
  -- frozen objects there are
  abbrev pub PutsOwn : Table → Type 0
  PutsOwn table =
      (U : ℕ) (v x : Value) (blocks inside : List ℕ) → form_at table (place_in w b).type ≡ Some (Form.own U) → (stands : Stands allocator w.image table (place_in w b) v blocks)
      → IsLoose w.image table (record { at = (place_in w c).at; type = U }) x inside
      → BesideShared w.image table (stands.home ∷ (blocks ++ block_of (place_in w c).at ∷ inside)) (named_in v)
      (PutsIn table (place_in w c).at x blocks inside)

  put_plainly : PutsOwn w.table
      → ActsPlainly allocator constants role put w (with_owning w new c false w.positions w.type_ids)
  unfolding rule
  put_plainly call = λ types others first ks good bad s right valid e h.
      let one = one_each constants right.each right.different in
      let last = λ (x : Class × ℕ). typed.◌>>=◌ (required (not (same_class (sharing x.0) (Class.Register c))) Reason.PutIntoItself)
      (λ _. known_after (slice_set (ended (Class.Register c) (others_ended x.0 b ks)) c RegisterType.Undefined)) in
      let g = λ (x : Class × ℕ) (t : ℕ). typed.◌>>=◌ (owner_needed (known ks c)) (λ u. typed.◌>>=◌ (required (t == u) Reason.WrongOperand) (λ _. last x)) in
      let r = reaches one h owned_type g b good bad e in
      let p = bind_ok (owner_needed (known ks c)) (λ u. typed.◌>>=◌ (required (r.what == u) Reason.WrongOperand) (λ _. last (r.class, r.type))) (good, bad) r.rest in
      let q = bind_ok (required (r.what == p.0) Reason.WrongOperand) (λ _. last (r.class, r.type)) (good, bad) p.2 in
      let z = bind_ok (required (not (same_class (sharing r.class) (Class.Register c))) Reason.PutIntoItself) (λ _. known_after (slice_set (ended (Class.Register c) (others_ended r.class b ks)) c RegisterType.Undefined)) (good, bad) q.2 in
      let after = others_ended r.class b ks in
      let ks' = ended (Class.Register c) after in
      let pair : (slice_set ks' c RegisterType.Undefined, slice_set ks' c RegisterType.Undefined) ≡ (good, bad) = Ok_inj z.2 in
      let owner = (owner_found types constants one ks s h.as_known (known ks c) (register s c) p.0 p.1 (h.as_known.each c)).0 in
      let same : r.what ≡ p.0 = eqb-true r.what p.0 (required_is _ Reason.WrongOperand q.0 q.1) in
      let o = owns_here h c r.what (owner ∙ ap RegisterType.Owner (sym same)) in
      let l = r.its in
      let far : l.path.origin ≢ Origin.Owned c = origins_apart constants one r.class (Class.Register c) l.path.origin (Origin.Owned c) (not_is _ (required_is _ Reason.PutIntoItself z.0 z.1)) l.within refl in
      let table : w.table ≡ h.pictured.picture.table = h.table_is ∙ sym h.pictured.types in
      let stands = subst (λ (t : Table). Stands allocator w.image t (place_in w b) l.value l.found.blocks) table l.stands in
      let apart = owns_apart h c r.what o l.in_image l.found far stands in
      let picture_table = h.pictured.picture.table in
      let form : form_at picture_table (place_in w b).type ≡ Some (Form.own r.what) =
      subst (λ (t : Table). form_at t (place_in w b).type ≡ Some (Form.own r.what)) table (r.form_is ∙ ap Some (own_is r.form r.what r.is)) in
      let loose = subst (λ n. IsLoose w.image picture_table (record { at = n; type = r.what }) o.value apart.0) (sym o.at_is)
      (subst (λ t. IsLoose w.image picture_table (record { at = o.root.at; type = t }) o.value apart.0) o.type_is apart.2) in
      let its = block_of o.root.at ∷ apart.0 in
      let picture = h.pictured.picture in
      let gone = names_in l.value in
      let all = shared_here h.pictured l.in_image l.value l.found (stands.home ∷ (l.found.blocks ++ its)) gone [] (names_same (sym (append-nil gone))) apart.3 in
      let beside = subst (λ ns. SharedBeside w.image picture_table (stands.home ∷ (l.found.blocks ++ its)) ns all.theirs all.kept picture.frozen (left gone picture.frozen)) (named_positions l.value) all.beside in
      let called : BesideShared w.image picture_table (stands.home ∷ (l.found.blocks ++ its)) (named_in l.value) (PutsIn picture_table o.root.at o.value l.found.blocks apart.0) =
      subst (λ n. BesideShared w.image picture_table (stands.home ∷ (l.found.blocks ++ block_of n ∷ apart.0)) (named_in l.value)
      (PutsIn picture_table n o.value l.found.blocks apart.0)) o.at_is
      (subst PutsOwn table call r.what l.value o.value l.found.blocks apart.0 form stands loose) in
      let puts = called all.theirs all.kept picture.frozen (left gone picture.frozen) beside in
      let clears = puts.clears in
      let changes = clears.changes in
      let names : names_in (Full o.value) ≡ names_each o.root.values = names_full o.value ∙ sym (names_one o.value) ∙ ap names_each (sym o.values_are) in
      let moved = put_moves h.pictured l.in_image l.value l.found new (Full o.value) c o.root its far o.root_is apart.1 names all.theirs all.beside.holds clears in
      let fits : HasShape s.types r.type (Full o.value) =
      value_of_form s.types r.type r.form (Full o.value) r.machine_form ((own_fits s.types r.form r.what r.is).1 o.value (h.as_known.typed.owned c o.value r.what o.register_is)) in
      let sixteen : length ks' ≡ 16 = length-map after (without_class (Class.Register c)) ∙ length_set (ended (sharing r.class) ks) b (known ks b) ∙ length-map ks (without_class (sharing r.class)) ∙ h.sixteen in
      let owns_none : owns_in (with_owning w new c false w.positions w.type_ids) c ≡ false = set_there w.owns c false false (let n = h.registers.owns in omega (arith, n, valid.c)) in
      let shows = shows_moved one h b r.class r.type r.known_as l (Full o.value) fits new c Register.Undefined (λ o. o ≡ Origin.Owned c) moved.to RegisterType.Undefined ks' false w.positions w.type_ids valid.c sixteen
      h.registers.positions h.registers.type_ids (λ n far. refl) changes.front_kept
      (agrees_release types constants one after (put_at s l.path (Full o.value)) c (put_known one h b r.class r.type r.known_as l (Full o.value) fits new c Register.Undefined (λ o. o ≡ Origin.Owned c) moved.to))
      (stays_released one h b r.class r.type r.known_as l (Full o.value) fits new c Register.Undefined (λ o. o ≡ Origin.Owned c) moved.to (λ o e. e)) owns_none in
      let content : (x : Option Value) × (content_in l.value ≡ Some x) = elim (own_value s.types r.form l.value r.what r.is r.fits) [ inl none ↦ (None, none) | inr some ↦ (Some some.0, ap content_in some.1) ] in
      let row = put_row s l.path r.form r.what l.value o.value content.0 r.path_is r.path_form_is r.is (ap owned_by o.register_is) l.there content.1 (begins_elsewhere c l.path.origin far) in
      let held : Holds w.image s.types (place_in w b) l.value l.found.blocks = subst (λ (t : Table). Holds w.image t (place_in w b) l.value l.found.blocks) h.table_is l.stands.holds_it in
      let given = blocks_by all.theirs (freed gone picture.frozen) in
      let goes : PlaceGoes constants put h.pictured (place_in w b) (l.found.blocks ++ given) = record {
        value = l.value;
        own = l.found.blocks;
        holds = held;
        gives_are = (given, record { theirs = all.theirs; holds = all.beside.holds; blocks_are = refl }, refl);
      } in
      let object : OfOwner h.pictured c its = subst (λ (o : Option Root). OfRoot h.pictured o its) (sym o.root_is) (subst (λ (t : Table). HoldsRoot w.image t o.root its) h.pictured.types apart.1) in
      let touches : Both (Both (OfPlace constants put h.pictured (spot_of s.types (place_in w b))) (OfOwner h.pictured c)) (OfFrozen h.pictured) ((l.found.blocks ++ its) ++ blocks_by all.theirs picture.frozen) =
      (l.found.blocks ++ its, blocks_by all.theirs picture.frozen, (l.found.blocks, its, place_touched one h put r, object, refl), of_frozen h.pictured all.theirs all.beside.holds, refl) in
      let moved_by : PutsOwned constants put h.pictured new = record {
        root = o.root;
        owned = o.root_is;
        place = place_in w b;
        led_to = subst (LedTo constants put h.pictured (place_in w b)) (own_is r.form r.what r.is ∙ ap Form.own (sym o.type_is)) (led_to one h put r);
        points_to = own_points new picture_table (place_in w b) r.what form apart.2.block.after_header changes.holds_it;
        stays = subst (λ (t : Table). Persists w.image new t (object_at o.root.at o.root.type) (object_at o.root.at o.root.type)) h.pictured.types
            (object_stays stands.is_table apart.2.block apart.2.holds_it puts.kept);
      } in
      let blocks = gives_back constants put h.pictured new refl (l.found.blocks ++ given) (place_in w b, r.form, led_to one h put r, goes) (given_back gone picture.frozen l.found.blocks (λ n. refl) clears) in
      subst (λ k. Acts others types constants first allocator put success k s w (with_owning w new c false w.positions w.type_ids)) (ap (λ (k : RegisterTypes × RegisterTypes). k.0) pair)
      (acts_so others types constants first allocator ks s w h put success true (slice_set ks' c RegisterType.Undefined) (set_register (put_at s l.path (Full o.value)) c Register.Undefined)
      (with_owning w new c false w.positions w.type_ids) (λ r o. inl (owned_less w.owns c r o)) row (changed_at_place changes.back_kept refl refl tt moved_by (λ t later. tt) (record {
        spot = spot_of s.types (place_in w b);
        own = _;
        touches = touches;
        kept = kept_at_place s.types h.pictured.types changes;
      }) blocks) changes.length_kept changes.front_kept refl shows
      (frame_moved one h b r.class r.type r.known_as l (Full o.value) fits new c Register.Undefined (λ o. o ≡ Origin.Owned c) moved.to _ _ _ _ _ _ _ _ _ _ _ _ _ _
      (λ n e free. owner_apart h c r.what n (owner ∙ ap RegisterType.Owner (sym same)) free) moved.stays (λ n had has. refl)))

  pub put_acts : PutsOwn w.table
      → ActsAs allocator constants role put w (with_owning w new c false w.positions w.type_ids)
  put_acts call = lifted_acts refl (put_plainly call)
