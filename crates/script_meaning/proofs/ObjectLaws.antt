-- Code that finds objects.
use Rattle.std.proofs.Common.{◌≡◌, ◌≢◌, ℕ, zero, suc, ◌<◌, ℤ, List, [], ◌∷◌, ◌++◌, length, drop, Bool, Option, Some, None, slice_get, slice_set, ◌⊎◌, inl, inr, refl, sym, ◌∙◌, ap, subst, eq-eqb, ne_eqb, true, false}
use Rattle.std.specs.Prelude.{◌==◌, if◌then◌else◌, slice_index_or}
use Rattle.std.proofs.lemmas.Bool.{eqb-true, eqb-false}
use Rattle.client_spec.specs.Syntax.{Constant, Instruction, plain, opener, Statements, no_more, next}
use Rattle.client_spec.specs.declared.table.Operation.{Operation}
use Rattle.client_spec.specs.declared.table.Operation.TheVariants as operation
use Rattle.client_spec.specs.declared.table.Role.{Role}
use Rattle.client_spec.specs.Operations.{row_of}
use Rattle.client_spec.specs.Machine.{Register, State, register, set_register}
use Rattle.client_spec.specs.Answer.{Answer, success}
use Rattle.client_spec.specs.Effect.{effect, outcome}
use Rattle.client_spec.specs.Plain.{plain_machine}
use Rattle.client_spec.specs.Grammar.{listing}
use Rattle.client_spec.specs.Run.{Ending, finished, stuck, Run}
use Rattle.client_spec.proofs.TypedStates.ValueLaws.{Some_inj}
use Rattle.script_meaning.specs.declared.comparison.Comparison.{Comparison}
use Rattle.script_meaning.specs.declared.program.Operator.{Operator}
use Rattle.script_meaning.specs.Meaning.{World, world_of, Moment, with_variable, with_number, name_of, number_of, Setting, without, Found, Meaning, combined, Changes, Stores, IfObject, Deletes}
use Rattle.script_meaning.specs.Following.{Held, Holds, Tie, Simulates}
use Rattle.script_meaning.specs.Comparing.{setting_of, code_of, texts_of, holding, Follows, IsAt, IsAbout, IsFree, HoldsNumber, Marks, OpensStore, OpensChange, OpensObject, Computes}
use Rattle.script_meaning.proofs.SequenceLaws.{hidden_then, then_hidden, weaker, OneDoes, one_code}
use Rattle.script_meaning.proofs.QuietRunLaws.{Quiet, picked_good, picked_bad, not_cut, plain_went, nothing_went, opener_went, opener_spelled, plain_spelled, nothing_spelled}
use Rattle.script_meaning.proofs.ObjectRowLaws.{place, answered, set_same, set_other, set_either, KeepsHeld, keeps_then, keeps_same, keeps_set, free_apart}
use Rattle.script_meaning.proofs.ObjectRowLaws.{holds_after, first_number, number_there, Refers, loads, load_quiet, stores_in, store_quiet}
use Rattle.script_meaning.proofs.ObjectRowLaws.{Ready, Refused, Names, finds_or, find_quiet, IsFound, IsAbsent, finds, finds_quiet, destroys, kill_quiet}
use Rattle.script_meaning.proofs.ComputesLaws.{computes_plain, computes_no_freeze}

-- ---- deleting

module _ (c : Comparison) (x : ℕ) (held : Held) (kill : Instruction) (kills : kill.operation ≡ operation.Kill) (about : IsAbout c kill x) (free : IsFree held kill.a) where
  delete_row : (m : Moment) (s s' : State) (answer : Answer) (room : Bool) → Holds held m s → outcome (texts_of c) kill room s ≡ Some (answer, s')
      → (m' : Moment) × Deletes (setting_of c) x m m' finished × (m'.world ≡ world_of s') × Holds held m' s'
  delete_row m s s' answer room h e =
      let d = destroys (setting_of c) x (texts_of c) kill s about.type about.constant kills room answer s' e in
      let name = name_of (setting_of c) x in
      let m' : Moment = record m { world = world_of d.base } in
      let world : world_of d.base ≡ without c.int name (m.world.names name) m.world =
      d.world ∙ ap (λ (w : World). without c.int name (w.names name) w) h.world in
      let same : m'.world ≡ world_of s' = sym (ap world_of d.mid_is) in
      let keeps : KeepsHeld held s s' =
      subst (λ (t : State). KeepsHeld held s t) (sym d.mid_is)
      (keeps_then held s d.base (set_register d.base kill.a (Register.Int d.code)) (keeps_same held s d.base d.registers) (keeps_set held d.base kill.a (Register.Int d.code) free)) in
      (m', (refl, ap (λ (w : World). record m { world = w }) world), same, holds_after held m m' s s' h keeps refl same)

  pub delete_does : OneDoes (texts_of c) (code_of c) kill (holding held) (Deletes (setting_of c) x) (holding held)
  delete_does = record {
    role = subst (λ (op : Operation). (row_of op).role ≡ Role.Plain) (sym kills) refl;
    row = λ m s s' answer h r. (elim r [
      | inl p ↦ delete_row m s s' answer p.0 h p.1
      | inr u ↦ absurd ((kill_quiet (setting_of c) x (texts_of c) kill s about.type about.constant kills).no_freeze u.freezes)
    ]);
    stop = λ m s s' h cut. absurd (not_cut (texts_of c) kill s s' (kill_quiet (setting_of c) x (texts_of c) kill s about.type about.constant kills) cut);
  }

-- ---- storing

-- what a run does from a moment to its last state
abbrev pub Reaches : Meaning → Tie → Moment → State → Ending → Type 0
Reaches does Q m s' end = (end ≡ stuck) ⊎ ((m' : Moment) × does m m' end × (m'.world ≡ world_of s') × (end ≡ finished → Q m' s'))

-- register b refers to the object that register a was given
refers_by : (constants : List Constant) (i : Instruction) (base mid : State) (a : ℕ) (name : List ℕ) → mid ≡ set_register base a (Register.Reference (place name)) → i.b ≡ a → Refers constants i mid name
refers_by constants i base mid a name mid_is b_is =
    let e : register mid i.b ≡ register (set_register base a (Register.Reference (place name))) a =
    ap (λ (t : State). register t i.b) mid_is ∙ ap (register (set_register base a (Register.Reference (place name)))) b_is in
    elim (set_either base.registers a (Register.Reference (place name))) [ inl f ↦ inl (e ∙ f) | inr f ↦ inr (e ∙ f) ]

module _ (constants : List Constant) (setting : Setting) (x : ℕ) (new : Moment → ℤ → ℤ) (otherwise : Meaning) (held : Held) where
  abbrev stores_it : Meaning
  stores_it = Stores setting x new otherwise

  -- STORE, the last instruction
  store_ends : (a : ℕ) (m : Moment) (s mid : State) (r : Ready setting x new otherwise a s mid) → Holds held m s → (store : Instruction) (t : State) (k : ℤ) → store.operation ≡ operation.Store
      → Refers constants store t (name_of setting x) → register t store.c ≡ Register.Int k → KeepsHeld held s t → world_of t ≡ world_of r.base
      → ((old : ℤ) → first_number (r.base.names (name_of setting x)) ≡ Some old → k ≡ new m old)
      → (s' : State) (n : ℕ) (end : Ending) → Run State (plain_machine constants) (next (plain store) no_more) t s' n end → Reaches stores_it (Holds held) m s' end
  store_ends a m s mid r h store t k stores refers number keeps world right s' n end run =
      let name = name_of setting x in
      elim (plain_went constants store no_more t s' n end (store_quiet constants store t name k stores refers number) run) [
        | inl e ↦ inl e
        | inr g ↦
            let last = nothing_went constants g.mid s' g.steps end g.run in
            let st = stores_in constants store t name k stores refers number g.room g.answer g.mid g.row in
            let there : first_number (r.base.names name) ≡ Some st.old = ap (λ (w : World). first_number (w.names name)) (sym world) ∙ st.there in
            let m' : Moment = record m { world = with_number name (new m st.old) (world_of r.base) } in
            let same : m'.world ≡ world_of s' =
            sym (ap world_of last.same ∙ st.put.world ∙ ap (λ (w : World). with_number name k w) world ∙ ap (λ (y : ℤ). with_number name y (world_of r.base)) (right st.old there)) in
            let changes : Changes setting x (new m) (world_of r.base) m m' end = (st.old, number_there setting.int (r.base.names name) st.old r.typed there, last.ends, refl) in
            let kept : KeepsHeld held s s' = keeps_then held s t s' keeps (keeps_same held t s' (ap (λ (u : State). u.registers) last.same ∙ st.put.registers)) in
            inr (m', r.means m m' end (sym h.world) changes, same, λ f. holds_after held m m' s s' h kept refl same)
      ]

  -- the part for a code of FINDOR
  refused_ends : (a : ℕ) (m : Moment) (s mid : State) → Refused setting x new otherwise a s mid → Holds held m s → IsFree held a → (bad : Statements)
      → Simulates (Holds held) otherwise (Run State (plain_machine constants) bad) (Holds held)
      → (s' : State) (n : ℕ) (end : Ending) → Run State (plain_machine constants) bad mid s' n end → Reaches stores_it (Holds held) m s' end
  refused_ends a m s mid r h free bad simulates s' n end run =
      let keeps : KeepsHeld held s mid = subst (λ (t : State). KeepsHeld held s t) (sym r.mid_is) (keeps_set held s a (Register.Int r.code) free) in
      let there : Holds held m mid = holds_after held m m s mid h keeps refl (sym h.world ∙ sym (ap world_of r.mid_is)) in
      elim (simulates.each m mid s' n end there run) [ inl e ↦ inl e | inr g ↦ inr (g.0, r.means m g.0 end (sym h.world) g.1, g.2, g.3) ]

  -- FINDOR with its parts
  finds_ends : (find : Instruction) → find.operation ≡ operation.FindOrMake → Names setting x new otherwise constants find → IsFree held find.a → (good bad : Statements) (P : Tie)
      → ((m : Moment) (s : State) → P m s → Holds held m s)
      → ((m : Moment) (s mid s' : State) (n : ℕ) (end : Ending) → P m s → Ready setting x new otherwise find.a s mid → Run State (plain_machine constants) good mid s' n end → Reaches stores_it (Holds held) m s' end)
      → Simulates (Holds held) otherwise (Run State (plain_machine constants) bad) (Holds held)
      → Simulates P stores_it (Run State (plain_machine constants) (next (opener find good bad) no_more)) (Holds held)
  finds_ends find is names free good bad P holds goods simulates = record {
    each = λ m s s' n end p w. (elim (opener_went constants find good bad s s' n end (find_quiet setting x new otherwise constants find s names is) w) [
      | inl e ↦ inl e
      | inr g ↦
          let runs = Run State (plain_machine constants) good in
          let others = Run State (plain_machine constants) bad in
          elim (finds_or setting x new otherwise constants find s names is g.room g.answer g.mid g.row) [
            | inl r ↦ goods m s g.mid s' g.steps end p r.1 (picked_good g.answer runs others g.mid s' g.steps end r.0 g.run)
            | inr r ↦ refused_ends find.a m s g.mid r.1 (holds m s p) free bad simulates s' g.steps end (picked_bad g.answer runs others g.mid s' g.steps end r.0 g.run)
          ]
    ]);
  }

  ready_keeps : (a : ℕ) (s mid : State) → IsFree held a → Ready setting x new otherwise a s mid → KeepsHeld held s mid
  ready_keeps a s mid free r =
      subst (λ (t : State). KeepsHeld held s t) (sym r.mid_is)
      (keeps_then held s r.base (set_register r.base a (Register.Reference (place (name_of setting x)))) (keeps_same held s r.base r.registers) (keeps_set held r.base a _ free))

  -- another register contains the same as before FINDOR
  ready_other : (a b : ℕ) (s mid : State) → b ≢ a → Ready setting x new otherwise a s mid → register mid b ≡ register s b
  ready_other a b s mid ne r =
      ap (λ (t : State). register t b) r.mid_is ∙ set_other r.base a b (Register.Reference (place (name_of setting x))) ne ∙ ap (λ (t : List Register). slice_index_or t b Register.Undefined) r.registers

module _ (c : Comparison) (at other end after x : ℕ) (held : Held) (number : Moment → ℤ) (otherwise : Meaning) (opened : OpensStore c at other held x number)
    (inside : Follows c other end (holding held) otherwise (holding held)) (ended : Marks c end after operation.End (holding held) (holding held)) where
  abbrev stored : Moment → ℤ → ℤ
  stored = λ m old. number m

  inner : Follows c other ended.start (holding held) otherwise (holding held)
  inner = then_hidden (texts_of c) (code_of c) other end ended.start (holding held) (holding held) (holding held) otherwise inside ended.before

  store_good : (m : Moment) (s mid s' : State) (n : ℕ) (end : Ending) → HoldsNumber held opened.store.c number m s → Ready (setting_of c) x stored otherwise opened.find.a s mid
      → Run State (plain_machine (texts_of c)) (next (plain opened.store) no_more) mid s' n end → Reaches (Stores (setting_of c) x stored otherwise) (Holds held) m s' end
  store_good m s mid s' n end p r run =
      let K = texts_of c in
      let setting = setting_of c in
      let name = name_of setting x in
      let refers : Refers K opened.store mid name = refers_by K opened.store r.base mid opened.find.a name r.mid_is opened.place in
      let same : register mid opened.store.c ≡ Register.Int (number m) = ready_other K setting x stored otherwise held opened.find.a opened.store.c s mid (λ e. opened.other_register (sym e)) r ∙ p.is in
      store_ends K setting x stored otherwise held opened.find.a m s mid r p.holds opened.store mid (number m) opened.stores refers same
      (ready_keeps K setting x stored otherwise held opened.find.a s mid opened.free r) (ap world_of r.mid_is) (λ old e. refl) s' n end run

  store_code : Follows c opened.start after (HoldsNumber held opened.store.c number) (Stores (setting_of c) x stored otherwise) (holding held)
  store_code =
      let K = texts_of c in
      let L = code_of c in
      let inner' = inner in
      let good : Statements = next (plain opened.store) no_more in
      record {
        code = next (opener opened.find good inner'.code) no_more;
        roles = (
          (
            subst (λ (op : Operation). (row_of op).role ≡ Role.Opener) (sym opened.finds) refl,
            (subst (λ (op : Operation). (row_of op).role ≡ Role.Plain) (sym opened.stores) refl, tt),
            inner'.roles,
          ),
          tt,
        );
        spelled = opener_spelled L opened.start after opened.find good inner'.code (record {
          else_at = suc (suc opened.start);
          end_at = ended.start;
          there = opened.at_find;
          good_at = plain_spelled L (suc opened.start) (suc (suc opened.start)) opened.store no_more opened.at_store (nothing_spelled L (suc (suc opened.start)));
          at_else = opened.at_else;
          bad_at = subst (λ (n : ℕ). drop n L ≡ listing inner'.code ++ drop ended.start L) opened.after inner'.spelled;
          at_end = ended.there;
          after = ended.follows;
        });
        simulates = finds_ends K (setting_of c) x stored otherwise held opened.find opened.finds (record { type = opened.about.type; constant = opened.about.constant }) opened.free good inner'.code
            (HoldsNumber held opened.store.c number) (λ m s p. p.holds) (λ m s mid s' n end p r run. store_good m s mid s' n end p r run) inner'.simulates;
      }

-- ---- changing

module _ (c : Comparison) (at other end after x : ℕ) (held : Held) (o : Operator) (op : Operation) (number : Moment → ℤ) (otherwise : Meaning) (computes : Computes o op)
    (opened : OpensChange c at other held x op number) (inside : Follows c other end (holding held) otherwise (holding held)) (ended : Marks c end after operation.End (holding held) (holding held)) where
  abbrev changed : Moment → ℤ → ℤ
  changed = λ m old. combined o old (number m)

  change_inner : Follows c other ended.start (holding held) otherwise (holding held)
  change_inner = then_hidden (texts_of c) (code_of c) other end ended.start (holding held) (holding held) (holding held) otherwise inside ended.before

  -- the instruction that works out the number, where its registers have numbers
  computed : (t : State) (old y : ℤ) → register t opened.load.a ≡ Register.Int old → register t opened.compute.c ≡ Register.Int y → (room : Bool) (answer : Answer) (u : State)
      → outcome (texts_of c) opened.compute room t ≡ Some (answer, u) → u ≡ set_register t opened.load.a (Register.Int (combined o old y))
  computed t old y left right room answer u e =
      let K = texts_of c in
      let i = opened.compute in
      let l = opened.load.a in
      let f : effect K op l l i.c i.number room t ≡ Some (answer, u) =
      ap (λ (b : ℕ). effect K op l b i.c i.number room t) (sym opened.changes.left)
      ∙ ap (λ (a : ℕ). effect K op a i.b i.c i.number room t) (sym opened.changes.result)
      ∙ ap (λ (q : Operation). effect K q i.a i.b i.c i.number room t) (sym opened.changes.computes) ∙ e in
      (answered success l (Register.Int (combined o old y)) t answer u (sym (computes K l l i.c i.number room t old y left right) ∙ f)).state_is

  compute_quiet : (t : State) (old y : ℤ) → register t opened.load.a ≡ Register.Int old → register t opened.compute.c ≡ Register.Int y → Quiet (texts_of c) opened.compute t
  compute_quiet t old y left right = record {
    same = λ room answer u e. ap (λ (v : State). v.output) (computed t old y left right room answer u e);
    no_freeze = λ f. computes_no_freeze o op computes (sym opened.changes.computes ∙ f);
  }

  -- after LOAD
  compute_ends : (m : Moment) (s mid : State) (r : Ready (setting_of c) x changed otherwise opened.find.a s mid) → HoldsNumber held opened.compute.c number m s → (t : State) (old : ℤ)
      → first_number (mid.names (name_of (setting_of c) x)) ≡ Some old → t ≡ set_register mid opened.load.a (Register.Int old)
      → (s' : State) (n : ℕ) (end : Ending) → Run State (plain_machine (texts_of c)) (next (plain opened.compute) (next (plain opened.store) no_more)) t s' n end
      → Reaches (Stores (setting_of c) x changed otherwise) (Holds held) m s' end
  compute_ends m s mid r p t old there t_is s' n end run =
      let K = texts_of c in
      let setting = setting_of c in
      let name = name_of setting x in
      let l = opened.load.a in
      let a = opened.find.a in
      let k : ℤ = combined o old (number m) in
      let to_mid : KeepsHeld held s mid = ready_keeps K setting x changed otherwise held a s mid opened.free r in
      let mid_t : KeepsHeld held mid t = subst (λ (u : State). KeepsHeld held mid u) (sym t_is) (keeps_set held mid l (Register.Int old) opened.load_free) in
      let to_t : KeepsHeld held s t = keeps_then held s mid t to_mid mid_t in
      let mid_has : l < length mid.registers = subst (λ (n : ℕ). l < n) (sym (to_mid.count ∙ p.holds.count)) opened.load_exists in
      let t_has : l < length t.registers = subst (λ (n : ℕ). l < n) (sym (to_t.count ∙ p.holds.count)) opened.load_exists in
      let left : register t l ≡ Register.Int old = ap (λ (u : State). register u l) t_is ∙ set_same mid l (Register.Int old) mid_has in
      let right : register t opened.compute.c ≡ Register.Int (number m) =
      ap (λ (u : State). register u opened.compute.c) t_is ∙ set_other mid l opened.compute.c (Register.Int old) (λ e. opened.load_apart (sym e))
      ∙ ready_other K setting x changed otherwise held a opened.compute.c s mid (λ e. opened.find_apart (sym e)) r ∙ p.is in
      elim (plain_went K opened.compute (next (plain opened.store) no_more) t s' n end (compute_quiet t old (number m) left right) run) [
        | inl e ↦ inl e
        | inr g ↦
            let u_is : g.mid ≡ set_register t l (Register.Int k) = computed t old (number m) left right g.room g.answer g.mid g.row in
            let t_u : KeepsHeld held t g.mid = subst (λ (u : State). KeepsHeld held t u) (sym u_is) (keeps_set held t l (Register.Int k) opened.load_free) in
            let place_same : register g.mid opened.store.b ≡ register mid opened.store.b =
            ap (λ (u : State). register u opened.store.b) u_is ∙ set_other t l opened.store.b (Register.Int k) (λ e. opened.apart (sym opened.changes.store_place ∙ e))
            ∙ ap (λ (u : State). register u opened.store.b) t_is ∙ set_other mid l opened.store.b (Register.Int old) (λ e. opened.apart (sym opened.changes.store_place ∙ e)) in
            let refers : Refers K opened.store g.mid name =
            elim (refers_by K opened.store r.base mid a name r.mid_is opened.changes.store_place) [ inl e ↦ inl (place_same ∙ e) | inr e ↦ inr (place_same ∙ e) ] in
            let stored_number : register g.mid opened.store.c ≡ Register.Int k =
            ap (λ (q : ℕ). register g.mid q) opened.changes.store_number ∙ ap (λ (u : State). register u l) u_is ∙ set_same t l (Register.Int k) t_has in
            let world : world_of g.mid ≡ world_of r.base = ap world_of u_is ∙ ap world_of t_is ∙ ap world_of r.mid_is in
            let first : first_number (r.base.names name) ≡ Some old = ap (λ (u : State). first_number (u.names name)) (sym r.mid_is) ∙ there in
            store_ends K setting x changed otherwise held a m s mid r p.holds opened.store g.mid k opened.changes.stores refers stored_number
            (keeps_then held s t g.mid to_t t_u) world (λ y e. ap (λ (z : ℤ). combined o z (number m)) (Some_inj (sym first ∙ e))) s' g.steps end g.run
      ]

  change_good : (m : Moment) (s mid s' : State) (n : ℕ) (end : Ending) → HoldsNumber held opened.compute.c number m s → Ready (setting_of c) x changed otherwise opened.find.a s mid
      → Run State (plain_machine (texts_of c)) (next (plain opened.load) (next (plain opened.compute) (next (plain opened.store) no_more))) mid s' n end
      → Reaches (Stores (setting_of c) x changed otherwise) (Holds held) m s' end
  change_good m s mid s' n end p r run =
      let K = texts_of c in
      let name = name_of (setting_of c) x in
      let refers : Refers K opened.load mid name = refers_by K opened.load r.base mid opened.find.a name r.mid_is opened.changes.load_place in
      elim (plain_went K opened.load (next (plain opened.compute) (next (plain opened.store) no_more)) mid s' n end (load_quiet K opened.load mid name opened.changes.loads refers) run) [
        | inl e ↦ inl e
        | inr g ↦
            let l = loads K opened.load mid name opened.changes.loads refers g.room g.answer g.mid g.row in
            compute_ends m s mid r p g.mid l.number l.there l.gave.state_is s' g.steps end g.run
      ]

  change_code : Follows c opened.start after (HoldsNumber held opened.compute.c number) (Stores (setting_of c) x changed otherwise) (holding held)
  change_code =
      let K = texts_of c in
      let L = code_of c in
      let inner' = change_inner in
      let start = opened.start in
      let good : Statements = next (plain opened.load) (next (plain opened.compute) (next (plain opened.store) no_more)) in
      let compute_role : (row_of opened.compute.operation).role ≡ Role.Plain = subst (λ (q : Operation). (row_of q).role ≡ Role.Plain) (sym opened.changes.computes) (computes_plain o op computes) in
      record {
        code = next (opener opened.find good inner'.code) no_more;
        roles = (
          (
            subst (λ (q : Operation). (row_of q).role ≡ Role.Opener) (sym opened.finds) refl,
            (subst (λ (q : Operation). (row_of q).role ≡ Role.Plain) (sym opened.changes.loads) refl, (compute_role, (subst (λ (q : Operation). (row_of q).role ≡ Role.Plain) (sym opened.changes.stores) refl, tt))),
            inner'.roles,
          ),
          tt,
        );
        spelled = opener_spelled L start after opened.find good inner'.code (record {
          else_at = suc (suc (suc (suc start)));
          end_at = ended.start;
          there = opened.at_find;
          good_at = plain_spelled L (suc start) (suc (suc (suc (suc start)))) opened.load (next (plain opened.compute) (next (plain opened.store) no_more)) opened.at_load
              (plain_spelled L (suc (suc start)) (suc (suc (suc (suc start)))) opened.compute (next (plain opened.store) no_more) opened.at_compute
              (plain_spelled L (suc (suc (suc start))) (suc (suc (suc (suc start)))) opened.store no_more opened.at_store (nothing_spelled L (suc (suc (suc (suc start)))))));
          at_else = opened.at_else;
          bad_at = subst (λ (n : ℕ). drop n L ≡ listing inner'.code ++ drop ended.start L) opened.after inner'.spelled;
          at_end = ended.there;
          after = ended.follows;
        });
        simulates = finds_ends K (setting_of c) x changed otherwise held opened.find opened.finds (record { type = opened.about.type; constant = opened.about.constant }) opened.free good inner'.code
            (HoldsNumber held opened.compute.c number) (λ m s p. p.holds) (λ m s mid s' n end p r run. change_good m s mid s' n end p r run) inner'.simulates;
      }

-- ---- an object's number in a variable

set_get_other : {A : Type 0} (xs : List A) (i j : ℕ) (y : A) → j ≢ i → slice_get (slice_set xs i y) j ≡ slice_get xs j
set_get_other [] i j y ne = refl
set_get_other (x ∷ xs) zero zero y ne = absurd (ne refl)
set_get_other (x ∷ xs) zero (suc j) y ne = refl
set_get_other (x ∷ xs) (suc i) zero y ne = refl
set_get_other (x ∷ xs) (suc i) (suc j) y ne = set_get_other xs i j y (λ e. ne (ap suc e))

set_get_same : {A : Type 0} (xs : List A) (i : ℕ) (old y : A) → slice_get xs i ≡ Some old → slice_get (slice_set xs i y) i ≡ Some y
set_get_same [] i old y e = absurd (let g : None ≡ Some old = e in cc)
set_get_same (x ∷ xs) zero old y e = refl
set_get_same (x ∷ xs) (suc i) old y e = set_get_same xs i old y e

-- without the variable, the registers contain what they contained
holds_less : (held : Held) (r v : ℕ) → IsFree held r → (m : Moment) (s : State) → Holds (slice_set held r (Some v)) m s → Holds held m s
holds_less held r v free m s h = record {
  count = h.count;
  world = h.world;
  each = λ q w e. h.each q w (set_get_other held r q (Some v) (free_apart held r q w free e) ∙ e);
}

module _ (held : Held) (r v : ℕ) (free : IsFree held r) (exists : r < 16) (fresh : (q : ℕ) → slice_get held q ≡ Some (Some v) → ⊥) where
  in_register : (m : Moment) (s t : State) (k : ℤ) → Holds held m s → KeepsHeld held s t → register t r ≡ Register.Int k → (q w : ℕ) → slice_get (slice_set held r (Some v)) q ≡ Some (Some w)
      → (b : Bool) → (q == r) ≡ b → register t q ≡ Register.Int ((with_variable m v k).variables w)
  in_register m s t k h keeps has q w e true is =
      let q_is : q ≡ r = eqb-true q r is in
      let g : Some (Some w) ≡ Some (Some v) = sym e ∙ ap (slice_get (slice_set held r (Some v))) q_is ∙ set_get_same held r None (Some v) free in
      let w_is : w ≡ v = Some_inj (Some_inj g) in
      ap (register t) q_is ∙ has ∙ ap (λ (b : Bool). Register.Int (if b then k else m.variables w)) (sym (eq-eqb w v w_is))
  in_register m s t k h keeps has q w e false is =
      let ne : q ≢ r = eqb-false q r is in
      let old : slice_get held q ≡ Some (Some w) = sym (set_get_other held r q (Some v) ne) ∙ e in
      let other : w ≢ v = λ f. fresh q (old ∙ ap (λ (u : ℕ). Some (Some u)) f) in
      keeps.each q w old ∙ h.each q w old ∙ ap (λ (b : Bool). Register.Int (if b then k else m.variables w)) (sym (ne_eqb w v other))

  holds_more : (m : Moment) (s t : State) (k : ℤ) → Holds held m s → KeepsHeld held s t → world_of t ≡ world_of s → register t r ≡ Register.Int k → Holds (slice_set held r (Some v)) (with_variable m v k) t
  holds_more m s t k h keeps world has = record {
    count = keeps.count ∙ h.count;
    world = world ∙ h.world;
    each = λ q w e. in_register m s t k h keeps has q w e (q == r) refl;
  }

module _ (c : Comparison) (at body end other end' after v x r : ℕ) (held : Held) (on_true on_false : Meaning) (opened : OpensObject c at body held v x r)
    (first : Follows c body end (holding (slice_set held r (Some v))) on_true (holding (slice_set held r (Some v)))) (marked : Marks c end other operation.Else (holding held) (holding held))
    (second : Follows c other end' (holding held) on_false (holding held)) (ended : Marks c end' after operation.End (holding held) (holding held)) where
  found_inner : Follows c body marked.start (holding (slice_set held r (Some v))) on_true (holding held)
  found_inner =
      then_hidden (texts_of c) (code_of c) body end marked.start (holding (slice_set held r (Some v))) (holding held) (holding held) on_true
      (weaker (texts_of c) (code_of c) body end (holding (slice_set held r (Some v))) (holding (slice_set held r (Some v))) (holding (slice_set held r (Some v))) (holding held) on_true
      (λ m s h. h) (λ m s h. holds_less held r v opened.load_free m s h) first) marked.before

  absent_inner : Follows c other ended.start (holding held) on_false (holding held)
  absent_inner = then_hidden (texts_of c) (code_of c) other end' ended.start (holding held) (holding held) (holding held) on_false second ended.before

  abbrev means : Meaning
  means = IfObject (setting_of c) v x on_true on_false

  found_ends : (m : Moment) (s mid : State) → Holds held m s → IsFound (setting_of c) x opened.find.a s mid → (s' : State) (n : ℕ) (end : Ending)
      → Run State (plain_machine (texts_of c)) (next (plain opened.load) found_inner.code) mid s' n end → Reaches means (Holds held) m s' end
  found_ends m s mid h f s' n end run =
      let K = texts_of c in
      let setting = setting_of c in
      let name = name_of setting x in
      let a = opened.find.a in
      let reference = Register.Reference (place name) in
      let refers : Refers K opened.load mid name = refers_by K opened.load s mid a name f.mid_is opened.place in
      let to_mid : KeepsHeld held s mid = subst (λ (u : State). KeepsHeld held s u) (sym f.mid_is) (keeps_set held s a reference opened.free) in
      elim (plain_went K opened.load found_inner.code mid s' n end (load_quiet K opened.load mid name opened.loads refers) run) [
        | inl e ↦ inl e
        | inr g ↦
            let l = loads K opened.load mid name opened.loads refers g.room g.answer g.mid g.row in
            let k : ℤ = l.number in
            let t_is : g.mid ≡ set_register mid r (Register.Int k) = l.gave.state_is ∙ ap (λ (q : ℕ). set_register mid q (Register.Int k)) opened.gives in
            let keeps : KeepsHeld held s g.mid =
            keeps_then held s mid g.mid to_mid (subst (λ (u : State). KeepsHeld held mid u) (sym t_is) (keeps_set held mid r (Register.Int k) opened.load_free)) in
            let exists : r < length mid.registers = subst (λ (n : ℕ). r < n) (sym (to_mid.count ∙ h.count)) opened.load_exists in
            let has : register g.mid r ≡ Register.Int k = ap (λ (u : State). register u r) t_is ∙ set_same mid r (Register.Int k) exists in
            let world : world_of g.mid ≡ world_of s = ap world_of t_is ∙ ap world_of f.mid_is in
            let number : number_of setting m.world x ≡ Some k =
            ap (λ (w : World). number_of setting w x) (sym h.world)
            ∙ number_there setting.int (s.names name) k f.typed (ap (λ (u : State). first_number (u.names name)) (sym f.mid_is) ∙ l.there) in
            elim (found_inner.simulates.each (with_variable m v k) g.mid s' g.steps end (holds_more held r v opened.load_free opened.load_exists opened.new m s g.mid k h keeps world has) g.run) [
              | inl e ↦ inl e
              | inr y ↦ inr (y.0, subst (λ (found : Option ℤ). Found (λ (j : ℤ). on_true (with_variable m v j) y.0 end) (on_false m y.0 end) found) (sym number) y.1, y.2, y.3)
            ]
      ]

  absent_ends : (m : Moment) (s mid : State) → Holds held m s → IsAbsent (setting_of c) x opened.find.a s mid → (s' : State) (n : ℕ) (end : Ending)
      → Run State (plain_machine (texts_of c)) absent_inner.code mid s' n end → Reaches means (Holds held) m s' end
  absent_ends m s mid h f s' n end run =
      let keeps : KeepsHeld held s mid = subst (λ (t : State). KeepsHeld held s t) (sym f.mid_is) (keeps_set held s opened.find.a (Register.Int f.code) opened.free) in
      let there : Holds held m mid = holds_after held m m s mid h keeps refl (sym h.world ∙ sym (ap world_of f.mid_is)) in
      let none : number_of (setting_of c) m.world x ≡ None = ap (λ (w : World). number_of (setting_of c) w x) (sym h.world) ∙ f.none in
      elim (absent_inner.simulates.each m mid s' n end there run) [
        | inl e ↦ inl e
        | inr y ↦ inr (y.0, subst (λ (found : Option ℤ). Found (λ (j : ℤ). on_true (with_variable m v j) y.0 end) (on_false m y.0 end) found) (sym none) y.1, y.2, y.3)
      ]

  object_ends : (m : Moment) (s s' : State) (n : ℕ) (end : Ending) → Holds held m s
      → Run State (plain_machine (texts_of c)) (next (opener opened.find (next (plain opened.load) found_inner.code) absent_inner.code) no_more) s s' n end → Reaches means (Holds held) m s' end
  object_ends m s s' n end h w =
      let K = texts_of c in
      let setting = setting_of c in
      let find = opened.find in
      let good : Statements = next (plain opened.load) found_inner.code in
      elim (opener_went K find good absent_inner.code s s' n end (finds_quiet setting x K find s opened.about.type opened.about.constant opened.finds opened.first) w) [
        | inl e ↦ inl e
        | inr g ↦
            let runs = Run State (plain_machine K) good in
            let others = Run State (plain_machine K) absent_inner.code in
            elim (finds setting x K find s opened.about.type opened.about.constant opened.finds opened.first g.room g.answer g.mid g.row) [
              | inl y ↦ found_ends m s g.mid h y.1 s' g.steps end (picked_good g.answer runs others g.mid s' g.steps end y.0 g.run)
              | inr y ↦ absent_ends m s g.mid h y.1 s' g.steps end (picked_bad g.answer runs others g.mid s' g.steps end y.0 g.run)
            ]
      ]

  object_code : Follows c opened.start after (holding held) means (holding held)
  object_code =
      let L = code_of c in
      let start = opened.start in
      let good : Statements = next (plain opened.load) found_inner.code in
      record {
        code = next (opener opened.find good absent_inner.code) no_more;
        roles = (
          (
            subst (λ (q : Operation). (row_of q).role ≡ Role.Opener) (sym opened.finds) refl,
            (subst (λ (q : Operation). (row_of q).role ≡ Role.Plain) (sym opened.loads) refl, found_inner.roles),
            absent_inner.roles,
          ),
          tt,
        );
        spelled = opener_spelled L start after opened.find good absent_inner.code (record {
          else_at = marked.start;
          end_at = ended.start;
          there = opened.at_find;
          good_at = plain_spelled L (suc start) marked.start opened.load found_inner.code opened.at_load
              (subst (λ (n : ℕ). drop n L ≡ listing found_inner.code ++ drop marked.start L) opened.after found_inner.spelled);
          at_else = marked.there;
          bad_at = subst (λ (n : ℕ). drop n L ≡ listing absent_inner.code ++ drop ended.start L) marked.follows absent_inner.spelled;
          at_end = ended.there;
          after = ended.follows;
        });
        simulates = record { each = λ m s s' n end h w. object_ends m s s' n end h w };
      }

-- ---- the laws

pub store_law : (c : Comparison) (at other end after x : ℕ) (held : Held) (number : Moment → ℤ) (otherwise : Meaning)
    → OpensStore c at other held x number → Follows c other end (holding held) otherwise (holding held)
    → Marks c end after operation.End (holding held) (holding held)
    → Follows c at after (holding held) (Stores (setting_of c) x (λ m old. number m) otherwise) (holding held)
store_law c at other end after x held number otherwise opened inside ended =
    hidden_then (texts_of c) (code_of c) at opened.start after (holding held) (HoldsNumber held opened.store.c number) (holding held) (Stores (setting_of c) x (λ m old. number m) otherwise) opened.before
    (store_code c at other end after x held number otherwise opened inside ended)

pub change_law : (c : Comparison) (at other end after x : ℕ) (held : Held) (o : Operator) (op : Operation) (number : Moment → ℤ) (otherwise : Meaning)
    → Computes o op → OpensChange c at other held x op number → Follows c other end (holding held) otherwise (holding held)
    → Marks c end after operation.End (holding held) (holding held)
    → Follows c at after (holding held) (Stores (setting_of c) x (λ m old. combined o old (number m)) otherwise) (holding held)
change_law c at other end after x held o op number otherwise computes opened inside ended =
    hidden_then (texts_of c) (code_of c) at opened.start after (holding held) (HoldsNumber held opened.compute.c number) (holding held) (Stores (setting_of c) x (λ m old. combined o old (number m)) otherwise)
    opened.before (change_code c at other end after x held o op number otherwise computes opened inside ended)

pub object_law : (c : Comparison) (at body end other end' after v x r : ℕ) (held : Held) (on_true on_false : Meaning)
    → OpensObject c at body held v x r
    → Follows c body end (holding (slice_set held r (Some v))) on_true (holding (slice_set held r (Some v)))
    → Marks c end other operation.Else (holding held) (holding held) → Follows c other end' (holding held) on_false (holding held)
    → Marks c end' after operation.End (holding held) (holding held)
    → Follows c at after (holding held) (IfObject (setting_of c) v x on_true on_false) (holding held)
object_law c at body end other end' after v x r held on_true on_false opened first marked second ended =
    hidden_then (texts_of c) (code_of c) at opened.start after (holding held) (holding held) (holding held) (IfObject (setting_of c) v x on_true on_false) opened.before
    (object_code c at body end other end' after v x r held on_true on_false opened first marked second ended)

pub delete_law : (c : Comparison) (at x : ℕ) (held : Held) (kill : Instruction) → IsAt c at kill → kill.operation ≡ operation.Kill → IsAbout c kill x
    → IsFree held kill.a → Follows c at (suc at) (holding held) (Deletes (setting_of c) x) (holding held)
delete_law c at x held kill there kills about free =
    one_code (texts_of c) (code_of c) at kill (holding held) (holding held) (Deletes (setting_of c) x) there (delete_does c x held kill kills about free)
