-- Typed code keeps the state as it is known, within its bound.
use Rattle.std.proofs.Common.{◌≡◌, ◌≢◌, ℕ, zero, suc, ◌+◌, ◌*◌, ℤ, pos, List, [], ◌∷◌, length, Some, None, refl, sym, ◌∙◌, ap, subst, arith, inl, inr, true, false, Bool}
use Rattle.std.specs.Prelude.{⊤, Ok, max, replicate, nat_abs, not, ◌&&◌, ◌==◌, slice_index_or, if◌then◌else◌}
use Rattle.std.proofs.lemmas.Bool.{eqb-true}
use Rattle.seg_spec.specs.Types.{Table}
use Rattle.client_spec.specs.declared.table.Operation.{Operation}
use Rattle.client_spec.specs.Syntax.{Constant, Instruction, Statement, plain, opener, loop, Statements, no_more, next, Client}
use Rattle.client_spec.specs.Machine.{Register, State, register, owned_by}
use Rattle.client_spec.specs.Answer.{Answer, success, numbers_used_up, answer_number, Outcome, shared_type, integer_at, integer_in}
use Rattle.client_spec.specs.Effect.{effect}
use Rattle.client_spec.specs.Run.{Ending, finished, stopped, stuck, Nothing, Run, RunOne, bound, bound_one}
use Rattle.client_spec.specs.Plain.{plain_machine}
use Rattle.client_spec.specs.Trees.{AreTrees}
use Rattle.client_spec.specs.Typed.{Class, RegisterType, Checked, Reason, reference_needed, form_needed}
use Rattle.client_spec.specs.Typed.{RegisterTypes, known, is_owner, same_class, same_type, integer_needed, required, Rule, known_after, rule, change_allowed}
use Rattle.client_spec.specs.Typed.{sharing_rule, rule_of, joined_one, joined, kept_one, kept, types_after, others_ended, types_by, types_by_one}
use Rattle.client_spec.specs.Typed as typed
use Rattle.client_spec.specs.Meaning.{Meets, IsAsKnown}
use Rattle.client_spec.specs.declared.table.Role.{Role}
use Rattle.client_spec.specs.Operations.{row_of}
use Rattle.client_spec.specs.Grammar.{IsNumber, IsClient, IsCode, IsStatement}
use Rattle.client_spec.specs.Safe.{MayBegin, IsAccepted, NeverGoesWrong, Runs}
use Rattle.client_spec.proofs.TypedStates.ValueLaws.{Some_inj}
use Rattle.client_spec.proofs.Runs.TotalRunLaws.{run_total}
use Rattle.client_spec.proofs.Runs.RunBoundLaws.{Keeps, nothing_keeps, keeps_less, then_keeps, step_keeps, turns_keeps, Advances, performs_keeps}
use Rattle.client_spec.proofs.TypedStates.StateLaws.{both_true, not_owner}
use Rattle.client_spec.proofs.TypedStates.ClassLaws.{OneEach}
use Rattle.client_spec.proofs.Spelling.ConstantNameLaws.{one_each}
use Rattle.client_spec.proofs.Rows.ElsePartLaws.{Alike, alike_known, alike_bind, alike_found}
use Rattle.client_spec.proofs.OperationLaws.{laws}
use Rattle.client_spec.proofs.Rows.SharingRowLaws.{cell_goes, freeze_goes, freeze_used, share_goes, number_trees}
use Rattle.client_spec.proofs.Unfolded.UnfoldedEffectLaws.{trees_stay}
use Rattle.client_spec.proofs.Rows.RuleRowLaws.{bind_ok, Ok_inj, Goes, integer_found}

-- two classes or types that compare equal are equal
same_class_is : (x y : Class) → same_class x y ≡ true → x ≡ y
same_class_is (Class.Name k) (Class.Name l) e = ap Class.Name (eqb-true k l e)
same_class_is (Class.Unique t) (Class.Unique u) e = ap Class.Unique (eqb-true t u e)
same_class_is (Class.Register r) (Class.Register q) e = ap Class.Register (eqb-true r q e)
same_class_is (Class.Frozen x) (Class.Frozen y) e = ap Class.Frozen (same_class_is x y e)
same_class_is x y e = cc

pub same_type_is : (x y : RegisterType) → same_type x y ≡ true → x ≡ y
same_type_is RegisterType.Undefined RegisterType.Undefined e = refl
same_type_is RegisterType.Int RegisterType.Int e = refl
same_type_is (RegisterType.Reference x t) (RegisterType.Reference y u) e =
    let p = both_true (same_class x y) (t == u) e in
    ap (λ c. RegisterType.Reference c t) (same_class_is x y p.0) ∙ ap (RegisterType.Reference y) (eqb-true t u p.1)
same_type_is (RegisterType.Owner t) (RegisterType.Owner u) e = ap RegisterType.Owner (eqb-true t u e)
same_type_is x y e = cc

pub required_is : (b : Bool) (r : Reason) (u : ⊤) → required b r ≡ Ok u → b ≡ true
required_is true r u e = refl
required_is false r u e = cc

pub not_true : (b : Bool) → not b ≡ true → b ≡ false
not_true true e = cc
not_true false e = refl

-- what is known after an opener is true after either part
meets_join : (constants : List Constant) (s : State) (x y k : RegisterType) (v : Register) → joined_one x y ≡ Ok k → (Meets constants s x v → Meets constants s k v) × (Meets constants s y v → Meets constants s k v)
meets_join constants s x y k v e = choose (same_type x y) refl e
  where
    choose : (b : Bool) → same_type x y ≡ b
        → (if b then Ok x else typed.◌>>=◌ (required (not (is_owner x) && not (is_owner y)) Reason.OwnerLost) (λ _. Ok RegisterType.Undefined)) ≡ Ok k
        → (Meets constants s x v → Meets constants s k v) × (Meets constants s y v → Meets constants s k v)
    choose true f g =
        let p : x ≡ k = Ok_inj g in
        let q = sym (same_type_is x y f) ∙ p in
        (λ m. subst (λ z. Meets constants s z v) p m, λ m. subst (λ z. Meets constants s z v) q m)
    choose false f g =
        let r = bind_ok (required (not (is_owner x) && not (is_owner y)) Reason.OwnerLost) (λ _. Ok RegisterType.Undefined) k g in
        let p = both_true (not (is_owner x)) (not (is_owner y)) (required_is _ Reason.OwnerLost r.0 r.1) in
        let u : RegisterType.Undefined ≡ k = Ok_inj r.2 in (
          λ m. subst (λ z. Meets constants s z v) u (not_owner constants s x v (not_true _ p.0) m),
          λ m. subst (λ z. Meets constants s z v) u (not_owner constants s y v (not_true _ p.1) m),
        )

pub joined_at : (xs ys ks : RegisterTypes) (r : ℕ) → joined xs ys ≡ Ok ks → (joined_one (known xs r) (known ys r) ≡ Ok (known ks r)) × (length ks ≡ length xs) × (length ks ≡ length ys)
joined_at [] [] ks r e =
    let p : [] ≡ ks = Ok_inj e in
    subst (λ (zs : RegisterTypes). (joined_one RegisterType.Undefined RegisterType.Undefined ≡ Ok (known zs r)) × (length zs ≡ 0) × (length zs ≡ 0)) p (refl, refl, refl)
joined_at [] (y ∷ ys) ks r e = cc
joined_at (x ∷ xs) [] ks r e = cc
joined_at (x ∷ xs) (y ∷ ys) ks zero e =
    let p = bind_ok (joined_one x y) (λ k. typed.◌>>=◌ (joined xs ys) (λ ks. Ok (k ∷ ks))) ks e in
    let q = bind_ok (joined xs ys) (λ ks. Ok (p.0 ∷ ks)) ks p.2 in
    let w : (p.0 ∷ q.0) ≡ ks = Ok_inj q.2 in
    let more = joined_at xs ys q.0 zero q.1 in
    subst (λ (zs : RegisterTypes). (joined_one x y ≡ Ok (known zs 0)) × (length zs ≡ suc (length xs)) × (length zs ≡ suc (length ys))) w (p.1, ap suc more.1, ap suc more.2)
joined_at (x ∷ xs) (y ∷ ys) ks (suc r) e =
    let p = bind_ok (joined_one x y) (λ k. typed.◌>>=◌ (joined xs ys) (λ ks. Ok (k ∷ ks))) ks e in
    let q = bind_ok (joined xs ys) (λ ks. Ok (p.0 ∷ ks)) ks p.2 in
    let w : (p.0 ∷ q.0) ≡ ks = Ok_inj q.2 in
    let more = joined_at xs ys q.0 r q.1 in
    subst (λ (zs : RegisterTypes). (joined_one (known xs r) (known ys r) ≡ Ok (known zs (suc r))) × (length zs ≡ suc (length xs)) × (length zs ≡ suc (length ys))) w (more.0, ap suc more.1, ap suc more.2)

pub kept_at : (xs ys : RegisterTypes) (r : ℕ) (u : ⊤) → kept xs ys ≡ Ok u → ((w : ⊤) × (kept_one (known xs r) (known ys r) ≡ Ok w)) × (length xs ≡ length ys)
kept_at [] [] r u e = ((tt, refl), refl)
kept_at [] (y ∷ ys) r u e = cc
kept_at (x ∷ xs) [] r u e = cc
kept_at (x ∷ xs) (y ∷ ys) zero u e =
    let p = bind_ok (kept_one x y) (λ _. kept xs ys) u e in
    ((p.0, p.1), ap suc (kept_at xs ys zero u p.2).1)
kept_at (x ∷ xs) (y ∷ ys) (suc r) u e =
    let p = bind_ok (kept_one x y) (λ _. kept xs ys) u e in
    let more = kept_at xs ys r u p.2 in
    (more.0, ap suc more.1)

meets_kept : (constants : List Constant) (s : State) (x y : RegisterType) (u : ⊤) (v : Register) → kept_one x y ≡ Ok u → Meets constants s y v → Meets constants s x v
meets_kept constants s RegisterType.Undefined y u v e m = not_owner constants s y v (not_true _ (required_is _ Reason.OwnerLost u e)) m
meets_kept constants s RegisterType.Int y u v e m = subst (λ z. Meets constants s z v) (sym (same_type_is RegisterType.Int y (required_is _ Reason.ChangedInLoop u e))) m
meets_kept constants s (RegisterType.Reference c t) y u v e m = subst (λ z. Meets constants s z v) (sym (same_type_is (RegisterType.Reference c t) y (required_is _ Reason.ChangedInLoop u e))) m
meets_kept constants s (RegisterType.Owner t) y u v e m = subst (λ z. Meets constants s z v) (sym (same_type_is (RegisterType.Owner t) y (required_is _ Reason.ChangedInLoop u e))) m

module _ (types : Table) (constants : List Constant) (one : OneEach constants) where
  abbrev pub Knows : RegisterTypes → State → Type 0
  Knows ks s = IsAsKnown types constants ks s

  -- at the end of an opener, what is known is true after either part
  pub join_good : (xs ys ks : RegisterTypes) → joined xs ys ≡ Ok ks → (s : State) → Knows xs s → Knows ks s
  join_good xs ys ks e s h = record {
    count = h.count ∙ sym (joined_at xs ys ks 0 e).1;
    each = λ r. (meets_join constants s (known xs r) (known ys r) (known ks r) (register s r) (joined_at xs ys ks r e).0).0 (h.each r);
    typed = h.typed;
    same_types = h.same_types;
  }

  pub join_bad : (xs ys ks : RegisterTypes) → joined xs ys ≡ Ok ks → (s : State) → Knows ys s → Knows ks s
  join_bad xs ys ks e s h = record {
    count = h.count ∙ sym (joined_at xs ys ks 0 e).2;
    each = λ r. (meets_join constants s (known xs r) (known ys r) (known ks r) (register s r) (joined_at xs ys ks r e).0).1 (h.each r);
    typed = h.typed;
    same_types = h.same_types;
  }

  -- at the end of a loop's body, what was known before it is true
  pub keep_loop : (ks after : RegisterTypes) (u : ⊤) → kept ks after ≡ Ok u → (s : State) → Knows after s → Knows ks s
  keep_loop ks after u e s h = record {
    count = h.count ∙ sym (kept_at ks after 0 u e).1;
    each = λ r. let k = (kept_at ks after r u e).0 in meets_kept constants s (known ks r) (known after r) k.0 (register s r) k.1 (h.each r);
    typed = h.typed;
    same_types = h.same_types;
  }

  -- ---- the same if frozen objects are made, shared and read

  sharing_goes : (op : Operation) (a b c : ℕ) (number : ℤ) → IsNumber types constants b (row_of op).number number
      → (ks good bad : RegisterTypes) → sharing_rule types constants op a b c number ks ≡ Ok (good, bad) → (s : State) (room : Bool) → Knows ks s → AreTrees s
      → Goes types constants good bad (effect constants op a b c number room s)
  unfolding sharing_rule
  sharing_goes Operation.Content a b c number m ks good bad e s room h trees = cell_goes types constants one ks s h trees a b c number good bad room e
  sharing_goes Operation.Freeze a b c number m ks good bad e s room h trees = freeze_goes types constants one ks s h a b c number good bad room e
  sharing_goes Operation.Share a b c number m ks good bad e s room h trees = share_goes types constants one ks s h a b c number good bad room e
  sharing_goes op a b c number m ks good bad e s room h trees = (laws op).goes types constants one ks s h a b c number m good bad room e

  sharing_side : (op : Operation) (a b c : ℕ) (number : ℤ) → (row_of op).role ≡ Role.Plain → (ks : RegisterTypes) → Alike (sharing_rule types constants op a b c number ks)
  unfolding sharing_rule
  sharing_side Operation.Share a b c number f ks =
      let last = λ (x : Class × ℕ). known_after (others_ended x.0 b ks) in
      alike_found types shared_type (λ x t. typed.◌>>=◌ (reference_needed (known ks c)) (λ y. typed.◌>>=◌ (form_needed shared_type types y.1) (λ u. typed.◌>>=◌ (required (t == u) Reason.WrongOperand) (λ _. last x)))) b ks
      (λ x t. alike_found types shared_type (λ y u. typed.◌>>=◌ (required (t == u) Reason.WrongOperand) (λ _. last x)) c ks
      (λ y u. alike_bind (required (t == u) Reason.WrongOperand) (λ _. last x) (λ _. alike_known (others_ended x.0 b ks))))
  sharing_side Operation.Content a b c number f ks = cc
  sharing_side Operation.Freeze a b c number f ks = cc
  sharing_side op a b c number f ks = (laws op).alike types constants ks a b c number f

  no_integer : (ks : RegisterTypes) (s : State) (b : ℕ) (u : ⊤) → Knows ks s → integer_needed (known ks b) ≡ Ok u → integer_at s b ≡ None → ⊥
  no_integer ks s b u h e none = let x = integer_found types constants ks s h b u e in let f : Some x.0 ≡ None = sym (ap integer_in x.1) ∙ none in cc

  -- What rules keep true of a state over code, in addition to what is known of its registers.
  pub record Keeper (rule : Instruction → RegisterTypes → Rule) (Kept : RegisterTypes → State → Type 0) : Type 0 where
    pub goes : (i : Instruction) → IsNumber types constants i.b (row_of i.operation).number i.number → (ks good bad : RegisterTypes) → rule i ks ≡ Ok (good, bad)
        → Advances State (plain_machine constants) (Kept ks) (Kept good) (Kept bad) i
    pub alike : (i : Instruction) → (row_of i.operation).role ≡ Role.Plain → (ks : RegisterTypes) → Alike (rule i ks)
    pub good : (xs ys ks : RegisterTypes) → joined xs ys ≡ Ok ks → (s : State) → Kept xs s → Kept ks s
    pub bad : (xs ys ks : RegisterTypes) → joined xs ys ≡ Ok ks → (s : State) → Kept ys s → Kept ks s
    pub loop : (ks after : RegisterTypes) (u : ⊤) → kept ks after ≡ Ok u → (s : State) → Kept after s → Kept ks s
    pub integer : (ks : RegisterTypes) (s : State) (b : ℕ) (u : ⊤) → Kept ks s → integer_needed (known ks b) ≡ Ok u → integer_at s b ≡ None → ⊥

  module _ (rule : Instruction → RegisterTypes → Rule) (Kept : RegisterTypes → State → Type 0) (keeper : Keeper rule Kept) where
    abbrev after_code : Statements → RegisterTypes → Checked RegisterTypes
    after_code = types_by rule

    mutual
      unfolding Run RunOne IsCode types_by

      -- typed code keeps it true
      pub code_keeps : (cs : Statements) → IsCode types constants cs → (ks after : RegisterTypes) → after_code cs ks ≡ Ok after → Keeps State (Kept ks) (Kept after) (bound cs) (Run State (plain_machine constants) cs)
      code_keeps no_more f ks after e =
          keeps_less State (Kept ks) (Kept ks) (Kept after) 0 0 _ (omega arith) (λ s h. subst (λ k. Kept k s) (Ok_inj e) h) (nothing_keeps State (Kept ks))
      code_keeps (next c cs) f ks after e =
          let p = bind_ok (types_by_one rule c ks) (after_code cs) after e in
          then_keeps State (Kept ks) (Kept p.0) (Kept after) (bound_one c) (bound cs) _ _ (one_keeps c f.0 ks p.0 p.1) (code_keeps cs f.1 p.0 after p.2)

      pub one_keeps : (c : Statement) → IsStatement types constants c → (ks after : RegisterTypes) → types_by_one rule c ks ≡ Ok after
          → Keeps State (Kept ks) (Kept after) (bound_one c) (RunOne State (plain_machine constants) c)
      one_keeps (plain i) f ks after e =
          let p = bind_ok (rule i ks) (λ p. Ok p.0) after e in
          let alike = (keeper.alike i f.role ks).by p.0.0 p.0.1 p.1 in
          let is : p.0.0 ≡ after = Ok_inj p.2 in
          let way = Nothing State in
          keeps_less State (Kept ks) (Kept p.0.0) (Kept after) (1 + max 0 0) 1 _ (omega arith) (λ s h. subst (λ k. Kept k s) is h)
          (performs_keeps State (plain_machine constants) (Kept ks) (Kept p.0.0) (Kept p.0.1) (Kept p.0.0) 0 0 i way way (keeper.goes i f.number ks p.0.0 p.0.1 p.1)
          (nothing_keeps State (Kept p.0.0))
          (keeps_less State (Kept p.0.1) (Kept p.0.1) (Kept p.0.0) 0 0 way (omega arith) (λ s h. subst (λ k. Kept k s) (sym alike) h) (nothing_keeps State (Kept p.0.1))))
      one_keeps (opener i on_success on_code) f ks after e =
          let p = bind_ok (rule i ks) (λ p. typed.◌>>=◌ (after_code on_success p.0) (λ good. typed.◌>>=◌ (after_code on_code p.1) (λ bad. joined good bad))) after e in
          let q = bind_ok (after_code on_success p.0.0) (λ good. typed.◌>>=◌ (after_code on_code p.0.1) (λ bad. joined good bad)) after p.2 in
          let r = bind_ok (after_code on_code p.0.1) (λ bad. joined q.0 bad) after q.2 in
          performs_keeps State (plain_machine constants) (Kept ks) (Kept p.0.0) (Kept p.0.1) (Kept after) (bound on_success) (bound on_code) i _ _ (keeper.goes i f.0.number ks p.0.0 p.0.1 p.1)
          (keeps_less State (Kept p.0.0) (Kept q.0) (Kept after) _ _ _ (omega arith) (keeper.good q.0 r.0 after r.2) (code_keeps on_success f.1 p.0.0 q.0 q.1))
          (keeps_less State (Kept p.0.1) (Kept r.0) (Kept after) _ _ _ (omega arith) (keeper.bad q.0 r.0 after r.2) (code_keeps on_code f.2 p.0.1 r.0 r.1))
      one_keeps (loop i body) f ks after e =
          let p = bind_ok (integer_needed (known ks i.b)) (λ _. typed.◌>>=◌ (after_code body ks) (λ after. typed.◌>>=◌ (kept ks after) (λ _. Ok ks))) after e in
          let q = bind_ok (after_code body ks) (λ after. typed.◌>>=◌ (kept ks after) (λ _. Ok ks)) after p.2 in
          let r = bind_ok (kept ks q.0) (λ _. Ok ks) after q.2 in
          let is : ks ≡ after = Ok_inj r.2 in
          let tick = λ (s s' : State) (h : Kept ks s) (same : s' ≡ s). subst (Kept ks) (sym same) h in
          keeps_less State (Kept ks) (Kept ks) (Kept after) _ _ _ (omega arith) (λ s h. subst (λ k. Kept k s) is h)
          (then_keeps State (Kept ks) (Kept ks) (Kept ks) 1 (nat_abs i.number * (1 + bound body)) _ _
          (step_keeps State (Kept ks) (Kept ks) (λ s s'. s' ≡ s) tick)
          (turns_keeps State (plain_machine constants) (Kept ks) (bound body) _ i.b tick (λ s h none. keeper.integer ks s i.b p.0 h p.1 none)
          (keeps_less State (Kept ks) (Kept q.0) (Kept ks) _ _ _ (omega arith) (keeper.loop ks q.0 r.0 r.1) (code_keeps body f.1 ks q.0 q.1)) (nat_abs i.number)))

  -- ---- runs from each state

  has_outcome : (good bad : RegisterTypes) (o : Outcome) → Goes types constants good bad o → o ≡ None → ⊥
  has_outcome good bad o g e = let f : Some (g.answer, g.state) ≡ None = sym g.is ∙ e in cc

  success_known : (good bad : RegisterTypes) (o : Outcome) → Goes types constants good bad o → (s' : State) → o ≡ Some (success, s') → Knows good s'
  success_known good bad o g s' e =
      let p : (g.answer, g.state) ≡ (success, s') = Some_inj (sym g.is ∙ e) in
      subst (Knows good) (ap (λ (q : Answer × State). q.1) p) (g.on_success (ap (λ (q : Answer × State). q.0) p))

  code_known : (good bad : RegisterTypes) (o : Outcome) → Goes types constants good bad o → (s' : State) (answer : Answer) → answer ≢ success → o ≡ Some (answer, s') → Knows bad s'
  code_known good bad o g s' answer f e =
      let p : (g.answer, g.state) ≡ (answer, s') = Some_inj (sym g.is ∙ e) in
      subst (Knows bad) (ap (λ (q : Answer × State). q.1) p) (g.on_code (λ x. f (sym (ap (λ (q : Answer × State). q.0) p) ∙ x)))

  -- what is known of states with copies in place of shared cells, by the rules of all operations
  abbrev pub KnowsTrees : RegisterTypes → State → Type 0
  KnowsTrees ks s = Knows ks s × AreTrees s

  sharing_of : (i : Instruction) (ks good bad : RegisterTypes) → rule_of types constants i ks ≡ Ok (good, bad) → sharing_rule types constants i.operation i.a i.b i.c i.number ks ≡ Ok (good, bad)
  sharing_of i ks good bad e = (bind_ok (change_allowed i.operation (known ks i.b)) (λ _. sharing_rule types constants i.operation i.a i.b i.c i.number ks) (good, bad) e).2

  alike_rule : (i : Instruction) → (row_of i.operation).role ≡ Role.Plain → (ks : RegisterTypes) → Alike (rule_of types constants i ks)
  alike_rule i f ks =
      alike_bind (change_allowed i.operation (known ks i.b)) (λ _. sharing_rule types constants i.operation i.a i.b i.c i.number ks) (λ _. sharing_side i.operation i.a i.b i.c i.number f ks)

  pub of_trees : Keeper (rule_of types constants) KnowsTrees
  of_trees = record {
    goes = λ i valid ks good bad e.
        let goes = λ (s : State) (room : Bool) (h : KnowsTrees ks s). sharing_goes i.operation i.a i.b i.c i.number valid ks good bad (sharing_of i ks good bad e) s room h.0 h.1 in
        record {
          has_row = λ s h w. has_outcome good bad _ (goes s w.0 h) w.1;
          good = λ s s' h w. elim w [
            | inl x ↦ (success_known good bad _ (goes s x.0 h) s' x.1, trees_stay constants i.operation i.a i.b i.c i.number x.0 s s' success h.1 x.1)
            | inr u ↦ absurd (let f : success ≡ numbers_used_up = u.code in cc)
          ];
          bad = λ s s' answer f h w. elim w [
            | inl x ↦ (code_known good bad _ (goes s x.0 h) s' answer f x.1, trees_stay constants i.operation i.a i.b i.c i.number x.0 s s' answer h.1 x.1)
            | inr u ↦ (
              freeze_used types constants one ks s h.0 i good bad u.freezes (sharing_of i ks good bad e) answer s' u,
              subst AreTrees (sym u.state) (number_trees s i.a (pos (answer_number numbers_used_up)) h.1),
            )
          ];
        };
    alike = alike_rule;
    good = λ xs ys ks e s h. (join_good xs ys ks e s h.0, h.1);
    bad = λ xs ys ks e s h. (join_bad xs ys ks e s h.0, h.1);
    loop = λ ks after u e s h. (keep_loop ks after u e s h.0, h.1);
    integer = λ ks s b u h e none. no_integer ks s b u h.0 e none;
  }

  pub trees_keep : (cs : Statements) → IsCode types constants cs → (ks after : RegisterTypes) → types_after types constants cs ks ≡ Ok after
      → Keeps State (KnowsTrees ks) (KnowsTrees after) (bound cs) (Run State (plain_machine constants) cs)
  trees_keep = code_keeps (rule_of types constants) KnowsTrees of_trees

pub known_none : (n r : ℕ) → known (replicate n RegisterType.Undefined) r ≡ RegisterType.Undefined
known_none zero r = refl
known_none (suc n) zero = refl
known_none (suc n) (suc r) = known_none n r

none_held : (n r : ℕ) → slice_index_or (replicate n Register.Undefined) r Register.Undefined ≡ Register.Undefined
none_held zero r = refl
none_held (suc n) zero = refl
none_held (suc n) (suc r) = none_held n r

-- in a first state nothing is known of the registers, and that is true
pub begins_known : (client : Client) (s : State) → MayBegin client s → IsAsKnown client.types client.constants (replicate 16 RegisterType.Undefined) s
begins_known client s b = record {
  count = ap length b.registers;
  each = λ r. subst (λ k. Meets client.constants s k (register s r)) (sym (known_none 16 r))
      (ap (λ rs. owned_by (slice_index_or rs r Register.Undefined)) b.registers ∙ ap owned_by (none_held 16 r));
  typed = b.typed;
  same_types = b.same_types;
}

-- An accepted client never goes wrong, and has a run to its end.
pub never_wrong : (client : Client) → IsClient client → IsAccepted client → NeverGoesWrong client
never_wrong client valid accepted s s' n end b trees w =
    let h = (trees_keep client.types client.constants (one_each client.constants valid.constants valid.different) client.code valid.code
    (replicate 16 RegisterType.Undefined) accepted.0 accepted.1).each s s' n end (begins_known client s b, trees) w in
    (h.within, h.not_stuck)

finishes : (end : Ending) → end ≢ stopped → end ≢ stuck → end ≡ finished
finishes finished f g = refl
finishes stopped f g = absurd (f refl)
finishes stuck f g = absurd (g refl)

pub has_run : (client : Client) → IsClient client → IsAccepted client → Runs client
has_run client valid accepted s b trees =
    let h = (run_total client.constants client.code).each s in
    let e = finishes h.2 h.4 (never_wrong client valid accepted s h.0 h.1 h.2 b trees h.3).1 in
    (h.0, h.1, subst (Run State (plain_machine client.constants) client.code s h.0 h.1) e h.3)

-- Each client has a first state, with no names and no unique objects.
empty_state : Client → State
empty_state client = record { types = client.types; names = λ _. None; uniques = λ _. None; registers = replicate 16 Register.Undefined; input = []; output = [] }

pub may_begin : (client : Client) → IsClient client → (s : State) × MayBegin client s × AreTrees s
unfolding empty_state
may_begin client valid = (
  empty_state client,
  record {
    registers = refl;
    typed = record {
      names = λ name o e. absurd (let f : None ≡ Some o = e in cc);
      counts = λ name o e. absurd (let f : None ≡ Some o = e in cc);
      uniques = λ t v e. absurd (let f : None ≡ Some v = e in cc);
      owned = λ r v t e. absurd (let f : Register.Undefined ≡ Register.Owner v t = sym (none_held 16 r) ∙ e in cc);
      forms = valid.types.forms;
    };
    same_types = λ t k e. e;
  },
  record {
    names = λ name o e. absurd (let f : None ≡ Some o = e in cc);
    uniques = λ t v e. absurd (let f : None ≡ Some v = e in cc);
    owned = λ r v t e. absurd (let f : Register.Undefined ≡ Register.Owner v t = sym (none_held 16 r) ∙ e in cc);
  },
)
