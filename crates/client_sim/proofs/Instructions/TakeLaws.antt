-- TAKE: a register gets the object of an own, or a code if the own is empty.
use Rattle.std.proofs.Common.{◌≡◌, ◌≢◌, ℕ, zero, suc, ◌<◌, ℤ, pos, List, [], ◌∷◌, ◌++◌, length, Bool, true, false, inl, inr, Option, Some, None, refl, sym, ◌∙◌, ap, subst, arith}
use Rattle.std.specs.Prelude.{slice_set, slice_index_or}
use Rattle.std.proofs.lemmas.Bool.{cases_eq}
use Rattle.std.proofs.lemmas.List.{length-map}
use Rattle.seg_spec.specs.Types.{Form, Table, form_at}
use Rattle.seg_spec.specs.Value.{Value, node, Label, nil, cons, Empty, Full}
use Rattle.seg_spec.specs.Heap.{live}
use Rattle.seg_spec.specs.Block.{block_of}
use Rattle.seg_spec.specs.Index.{Root}
use Rattle.seg_spec.specs.Reads.{Place, Holds, Leads, here}
use Rattle.seg_spec.specs.Parts.{Persists}
use Rattle.seg_spec.specs.Sound.{IsPlain, HoldsRoot}
use Rattle.seg_spec.specs.Owning.{Stands}
use Rattle.seg_spec.specs.Calls.{IsLoose}
use Rattle.seg_spec.specs.Roots.{item_of, ChangesPlace}
use Rattle.client_spec.specs.declared.table.Operation.{Operation}
use Rattle.client_spec.specs.declared.table.Role.{Role}
use Rattle.client_spec.specs.Syntax.{Constant, Instruction}
use Rattle.client_spec.specs.Machine.{◌>>=◌, Origin, Path, Register, State, register, set_register, owned_by, path_value, put_at}
use Rattle.client_spec.specs.Answer.{success, null_or_none, answer_number, path_of, path_form, path_from, content_in, owned_type}
use Rattle.client_spec.specs.Effect.{outcome, effect}
use Rattle.client_spec.specs.Effect as effects
use Rattle.client_spec.specs.Shape.{HasShape}
use Rattle.client_spec.specs.Asks.{LedTo, GrantsAsks}
use Rattle.client_spec.specs.Ties.{object_at, spot_of, ComesBy, TakesContent}
use Rattle.client_spec.specs.Meaning.{LeadsToType, IsAsKnown}
use Rattle.client_spec.specs.Pictures.{LeadsInImage}
use Rattle.client_spec.specs.Typed.{Class, RegisterType, known, sharing, without_class, ended, others_ended, opens, rule}
use Rattle.client_spec.proofs.TypedStates.ValueFormLaws.{own_value, own_fits}
use Rattle.client_spec.proofs.TypedStates.KnowledgeChangeLaws.{agrees_put_others, agrees_own}
use Rattle.client_spec.proofs.Rows.RuleRowLaws.{answer_is}
use Rattle.client_spec.proofs.TypedStates.PutLaws.{put_at_types}
use Rattle.client_spec.proofs.TypedStates.ShapeLaws.{value_of_form}
use Rattle.client_spec.proofs.Spelling.ConstantNameLaws.{one_each}
use Rattle.client_spec.proofs.TypedStates.StateLaws.{not_owner}
use Rattle.client_spec.proofs.TypedStates.ValueLaws.{length_set}
use Rattle.client_sim.proofs.Objects.OwnedPlaceLaws.{GainsOwners, owner_elsewhere}
use Rattle.client_sim.specs.Shows.{World, place_in, owns_in, Acts}
use Rattle.client_sim.specs.Acting.{ActsAs, IsRefusedAs, ActsPlainly}
use Rattle.client_sim.proofs.ImageChangeLaws.{kept_at_place, changed_at_place, unchanged}
use Rattle.client_sim.proofs.Frozen.UnfoldedOperationLaws.{lifted_acts, lifted_refused}
use Rattle.client_sim.proofs.UnchangedImageLaws.{set_there, set_beside, not_given}
use Rattle.client_sim.proofs.Instructions.NumberLaws.{unowned}
use Rattle.client_sim.proofs.EffectLaws.{acts_so}
use Rattle.client_sim.proofs.Instructions.ItemLaws.{reaches, led_to, place_touched, opens_then, shows_ended, code_acts}
use Rattle.seg_spec.specs.Shared.{names_in, names_each}
use Rattle.seg_spec.proofs.Frozen.PartCountLaws.{names_same}
use Rattle.seg_spec.proofs.Frozen.ValueCellLaws.{names_empty, names_full, names_one}
use Rattle.client_sim.proofs.Objects.ObjectMoveLaws.{KeepsEach, own_points, content_stays}
use Rattle.client_sim.proofs.Objects.OwnedMoveLaws.{take_moves}
use Rattle.client_sim.proofs.Objects.MoveWorldLaws.{with_owning, shows_moved, stays_put, frame_moved}
use Rattle.client_sim.proofs.Objects.OwnedObjectLaws.{root_of, root_of_loose}
use Rattle.client_sim.proofs.Instructions.PutLaws.{own_is}

-- the world in which register a has an error code, and owns nothing
abbrev pub with_code : World → List ℕ → ℕ → ℕ → World
with_code w new a code = record w { image = new; owns = slice_set w.owns a false; numbers = slice_set w.numbers a (pos code) }

none_set : (xs : List Bool) (i : ℕ) → slice_index_or xs i false ≡ false → slice_set xs i false ≡ xs
none_set [] i e = refl
none_set (x ∷ xs) zero e = ap (λ y. y ∷ xs) (sym e)
none_set (x ∷ xs) (suc i) e = ap (λ ys. x ∷ ys) (none_set xs i e)

empty_is : (v : Value) → content_in v ≡ Some None → v ≡ Empty
empty_is (node Label.opt nil) e = refl
empty_is (node Label.opt (cons w nil)) e = cc
empty_is v e = cc

is_known : (U : ℕ) → RegisterType.Owner U ≢ RegisterType.Undefined
is_known U e = cc

-- the empty path from a root ends at the root
leads_itself : (bytes : List ℕ) (table : Table) (root : Root) → Leads bytes table (item_of table root 0) [] (record { at = root.at; type = root.type })
leads_itself bytes table root =
    let first : root.at ≡ (item_of table root 0).at = omega arith in
    subst (λ n. Leads bytes table (item_of table root 0) [] (record { at = n; type = root.type })) (sym first) here

module _ (allocator : ℕ) (constants : List Constant) (role : Role) (a b c : ℕ) (number : ℤ) (w : World) (new : List ℕ) where
  abbrev take : Instruction
  take = record { operation = Operation.Take; a = a; b = b; c = c; number = number }

  take_row : (s : State) (p : Path) (form : Form) (U : ℕ) (v : Value) (inside : Option Value) → path_of s b ≡ Some p → path_form s p ≡ Some form → owned_type form ≡ Some U → path_value s p ≡ Some v → content_in v ≡ Some inside
      → outcome constants take true s ≡ effects.take_content a p U inside s
  unfolding effect
  take_row s p form U v inside path_is form_is own_is there content =
      ap (λ o. o >>= λ p. (path_form s p >>= owned_type) >>= λ t. (path_value s p >>= content_in) >>= λ inside. effects.take_content a p t inside s) path_is
      ∙ ap (λ o. (o >>= owned_type) >>= λ t. (path_value s p >>= content_in) >>= λ inside. effects.take_content a p t inside s) form_is
      ∙ ap (λ o. o >>= λ t. (path_value s p >>= content_in) >>= λ inside. effects.take_content a p t inside s) own_is
      ∙ ap (λ o. (o >>= content_in) >>= λ inside. effects.take_content a p U inside s) there
      ∙ ap (λ o. o >>= λ inside. effects.take_content a p U inside s) content

  -- the call takes an object of this type, at this position, out of an own at register b's place
  abbrev pub TakesFrom : ℕ → ℕ → Table → Type 0
  TakesFrom at T table =
      (U : ℕ) (blocks : List ℕ) → form_at table (place_in w b).type ≡ Some (Form.own U) →
      (Stands allocator w.image table (place_in w b) Empty blocks → ⊥) ×
      ((v : Value) → Stands allocator w.image table (place_in w b) (Full v) blocks
      → (T ≡ U) × (inside : List ℕ) × (blocks ≡ block_of at ∷ inside) × IsLoose new table (record { at = at; type = U }) v inside
      × ChangesPlace w.image new table (place_in w b) Empty [] (live w.image) blocks blocks × KeepsEach w.image new blocks)

  -- the own is empty, and nothing changes
  abbrev pub FindsEmpty : ℕ → Table → Type 0
  FindsEmpty code table =
      (U : ℕ) (blocks : List ℕ) → form_at table (place_in w b).type ≡ Some (Form.own U) →
      (Stands allocator w.image table (place_in w b) Empty blocks → (new ≡ w.image) × (code ≡ answer_number null_or_none)) ×
      ((v : Value) → Stands allocator w.image table (place_in w b) (Full v) blocks → ⊥)

  abbrev owner_then : ℕ → ℕ → World
  owner_then at T = with_owning w new a true (slice_set w.positions a at) (slice_set w.type_ids a T)

  others_placed : (w : World) (at T r : ℕ) → a ≢ r → place_in (with_owning w new a true (slice_set w.positions a at) (slice_set w.type_ids a T)) r ≡ place_in w r
  others_placed w at T r far = ap (λ (n : ℕ). record { at = n; type = slice_index_or (slice_set w.type_ids a T) r 0 }) (set_beside w.positions a r at 0 far)
      ∙ ap (λ (n : ℕ). record { at = slice_index_or w.positions r 0; type = n }) (set_beside w.type_ids a r T 0 far)

  take_plainly : (at T : ℕ) → TakesFrom at T w.table → ActsPlainly allocator constants role take w (owner_then at T)
  unfolding rule
  take_plainly at T call = λ types others first ks good bad s right valid e h.
      let one = one_each constants right.each right.different in
      let g = λ (x : Class × ℕ) (t : ℕ). opens a (RegisterType.Owner t) (others_ended x.0 b ks) in
      let r = reaches one h owned_type g b good bad e in
      let o = opens_then one h r.class b a (RegisterType.Owner r.what) good bad r.rest in
      let form = r.form_is ∙ ap Some (own_is r.form r.what r.is) in
      let told = call r.what r.its.found.blocks form in
      subst (λ k. Acts others types constants first allocator take success k s w (owner_then at T)) (sym o.1)
      (elim (own_value s.types r.form r.its.value r.what r.is r.fits) [
        | inl none ↦ absurd (told.0 (subst (λ v. Stands allocator w.image w.table (place_in w b) v r.its.found.blocks) (empty_is r.its.value none) r.its.stands))
        | inr some ↦
            let l = r.its in
            let U = r.what in
            let v = some.0 in
            let after = others_ended r.class b ks in
            let full = subst (λ x. Stands allocator w.image w.table (place_in w b) x l.found.blocks) some.1 l.stands in
            let t = told.1 v full in
            let table : w.table ≡ h.pictured.picture.table = h.table_is ∙ sym h.pictured.types in
            let picture_table = h.pictured.picture.table in
            let root = root_of (record { at = at; type = U }) v in
            let leads : LeadsToType s l.path r.type = record { value = l.value; there = l.there; typed = l.typed } in
            let fits : HasShape s.types r.type Empty = value_of_form s.types r.type r.form Empty r.machine_form (own_fits s.types r.form U r.is).0 in
            let known_then : IsAsKnown types constants after (put_at s l.path Empty) =
            agrees_put_others types constants one r.class b r.type ks s h.as_known r.known_as (record { path = l.path; is = l.path_is; within = l.within; leads = leads }) Empty fits in
            let free : owned_by (register (put_at s l.path Empty) a) ≡ None =
            not_owner constants (put_at s l.path Empty) (known after a) (register (put_at s l.path Empty) a) o.0 (known_then.each a) in
            let changes : ChangesPlace w.image new picture_table (place_in w b) Empty [] (live w.image) l.found.blocks l.found.blocks =
            subst (λ (t : Table). ChangesPlace w.image new t (place_in w b) Empty [] (live w.image) l.found.blocks l.found.blocks) table t.4 in
            let holds : HoldsRoot new picture_table root l.found.blocks = subst (HoldsRoot new picture_table root) (sym t.2)
            (root_of_loose new picture_table (record { at = at; type = U }) v t.1 (subst (λ (ts : Table). IsLoose new ts (record { at = at; type = U }) v t.1) table t.3)) in
            let within : a < length s.registers = (let n = h.as_known.count in let m = h.sixteen in omega (arith, n, m, valid.a)) in
            let plain : IsPlain root = record { no_name = refl; no_words = refl; value = v; values_are = refl } in
            let moved = take_moves h.pictured l.in_image l.value l.found new Empty a U v root within free plain refl refl holds
            (names_same (ap names_in some.1 ∙ names_full v ∙ sym (names_one v) ∙ ap (λ xs. xs ++ names_each (cons v nil)) (sym names_empty))) changes in
            let after_put = put_at s l.path Empty in
            let owner = Register.Owner v U in
            let state = set_register after_put a owner in
            let positions = slice_set w.positions a at in
            let type_ids = slice_set w.type_ids a U in
            let w' = with_owning w new a true positions type_ids in
            let typed : HasShape after_put.types U v = subst (λ (ts : Table). HasShape ts U v) (sym (put_at_types s l.path r.type Empty leads)) some.2 in
            let sixteen : length after ≡ 16 = length_set (ended (sharing r.class) ks) b (known ks b) ∙ length-map ks (without_class (sharing r.class)) ∙ h.sixteen in
            let as_known = agrees_own types constants one after after_put a v U known_then o.0 typed in
            let owns_here : owns_in w' a ≡ true = set_there w.owns a true false (let n = h.registers.owns in omega (arith, n, valid.a)) in
            let at_here : place_in w' a ≡ record { at = at; type = U } =
            ap (λ (n : ℕ). record { at = n; type = slice_index_or type_ids a 0 }) (set_there w.positions a at 0 (let n = h.registers.positions in omega (arith, n, valid.a)))
            ∙ ap (λ (n : ℕ). record { at = at; type = n }) (set_there w.type_ids a U 0 (let n = h.registers.type_ids in omega (arith, n, valid.a))) in
            let led : LeadsInImage moved.0.to.later (path_from (Origin.Owned a)) (place_in w' a) = subst (λ (q : Place). LeadsInImage moved.0.to.later (path_from (Origin.Owned a)) q) (sym at_here)
            (record { root = root; item = 0; begins = moved.1; leads = leads_itself new moved.0.to.later.picture.table root }) in
            let shows = shows_moved one h b r.class r.type r.known_as l Empty fits new a owner (λ o. ⊥) moved.0.to (RegisterType.Owner U) after true positions type_ids valid.a sixteen
            (length_set w.positions a at ∙ h.registers.positions) (length_set w.type_ids a U ∙ h.registers.type_ids) (others_placed w at U) changes.front_kept as_known
            (λ n far. stays_put one h b r.class r.type r.known_as l Empty fits new a owner (λ o. ⊥) moved.0.to (λ o z. z) n) (owns_here, ap (λ (q : Place). q.type) at_here, led) in
            let row : outcome constants take true s ≡ Some (success, state) =
            take_row s l.path r.form U l.value (Some v) r.path_is r.path_form_is r.is l.there (ap content_in some.1) ∙ answer_is types constants after after_put known_then success a owner o.0 in
            let low = t.3.block.after_header in
            let own_holds : Holds w.image w.table (place_in w b) (Full v) (block_of at ∷ t.1) = subst (Holds w.image w.table (place_in w b) (Full v)) t.2 full.holds_it in
            let led_here : LedTo constants take h.pictured (place_in w b) (Form.own U) = subst (LedTo constants take h.pictured (place_in w b)) (own_is r.form U r.is) (led_to one h take r) in
            let pointed_to = own_points w.image w.table (place_in w b) U form low own_holds in
            let moved_by : TakesContent constants take h.pictured new = record {
              object = at;
              type = U;
              place = place_in w b;
              led_to = led_here;
              pointed_to = pointed_to;
              stays = subst (λ (t : Table). Persists w.image new t (object_at at U) (object_at at U)) h.table_is
                  (content_stays w.image w.table (place_in w b) U form low own_holds full.is_table (subst (KeepsEach w.image new) t.2 t.5));
            } in
            let at_there : slice_index_or positions a 0 ≡ at = set_there w.positions a at 0 (let n = h.registers.positions in omega (arith, n, valid.a)) in
            let gains : GainsOwners constants take w w' h.pictured = λ q o. elim (cases_eq a q) [
              | inl same ↦
                  inr (subst (λ n. ComesBy constants take h.pictured Operation.Take (slice_index_or positions n 0)) same
                  (subst (ComesBy constants take h.pictured Operation.Take) (sym at_there) (place_in w b, Form.own U, led_here, pointed_to)))
              | inr far ↦ inl (sym (set_beside w.owns a q true false far) ∙ o)
            ] in
            let blocks : GrantsAsks constants take h.pictured new = record { asks = []; asked = refl; gives = []; returned = refl; blocks = live w.image; granted = refl; left = changes.live_is } in
            subst (λ n. Acts others types constants first allocator take success (slice_set after a (RegisterType.Owner U)) s w (owner_then at n)) (sym t.0)
            (acts_so others types constants first allocator ks s w h take success true (slice_set after a (RegisterType.Owner U)) state w' gains row (changed_at_place changes.back_kept refl refl tt moved_by (λ t later. tt)
            (record { spot = spot_of s.types (place_in w b); own = l.found.blocks; touches = place_touched one h take r; kept = kept_at_place s.types h.table_is t.4 }) blocks) changes.length_kept changes.front_kept refl shows
            (frame_moved one h b r.class r.type r.known_as l Empty fits new a owner (λ o. ⊥) moved.0.to _ _ _ _ _ _ _ _ _ _ _ _ _ _
            (λ n e free. not_given after a n (RegisterType.Owner U) (let m = valid.a in omega (arith, sixteen, m)) (is_known U) e) moved.0.stays
            (λ n had has. ap (λ (q : Place). q.at) (others_placed w at U n (owner_elsewhere (shows_ended one h r.class b) a o.0 n had)))))
      ])

  pub take_acts : (at T : ℕ) → TakesFrom at T w.table → ActsAs allocator constants role take w (owner_then at T)
  take_acts at T call = lifted_acts refl (take_plainly at T call)

  pub take_refused : (code : ℕ) → FindsEmpty code w.table → IsRefusedAs allocator constants role take w (with_code w new a code)
  unfolding rule
  take_refused code call = lifted_refused refl (λ types others first ks good bad s right valid e h.
      let one = one_each constants right.each right.different in
      let g = λ (x : Class × ℕ) (t : ℕ). opens a (RegisterType.Owner t) (others_ended x.0 b ks) in
      let r = reaches one h owned_type g b good bad e in
      let o = opens_then one h r.class b a (RegisterType.Owner r.what) good bad r.rest in
      let told = call r.what r.its.found.blocks (r.form_is ∙ ap Some (own_is r.form r.what r.is)) in
      let after = others_ended r.class b ks in
      let none : owns_in w a ≡ false = unowned others types constants first allocator after s w (shows_ended one h r.class b) a o.0 in
      elim (own_value s.types r.form r.its.value r.what r.is r.fits) [
        | inl empty ↦
            let t = told.0 (subst (λ v. Stands allocator w.image w.table (place_in w b) v r.its.found.blocks) (empty_is r.its.value empty) r.its.stands) in
            let row = take_row s r.its.path r.form r.what r.its.value None r.path_is r.path_form_is r.is r.its.there empty in (
              null_or_none,
              (λ q. cc),
              subst (λ k. Acts others types constants first allocator take null_or_none k s w (with_code w new a code)) (sym o.2)
                  (subst (λ (owns : List Bool). Acts others types constants first allocator take null_or_none (slice_set after a RegisterType.Int) s w
                  (record w { image = new; owns = owns; numbers = slice_set w.numbers a (pos code) })) (sym (none_set w.owns a none))
                  (code_acts one h take r null_or_none true new code t.0 t.1 valid.a o.0 row (unchanged refl refl refl))),
            )
        | inr some ↦ absurd (told.1 some.0 (subst (λ x. Stands allocator w.image w.table (place_in w b) x r.its.found.blocks) some.1 r.its.stands))
      ])
