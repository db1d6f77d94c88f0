-- The rows of operations that make, share and read frozen objects, in states with copies in place
-- of shared cells.
use Rattle.std.proofs.Common.{◌≡◌, ℕ, ℤ, pos, List, [], Option, Some, None, refl, sym, ◌∙◌, ap, subst, arith, inl, inr, true, false, Bool}
use Rattle.std.specs.Prelude.{◌⊎◌, Ok, slice_set, ◌==◌, ◌&&◌, not}
use Rattle.std.proofs.lemmas.Bool.{eqb-true}
use Rattle.seg_spec.specs.Value.{Label, Value, node, Full, nil, cons, Selector, selected}
use Rattle.seg_spec.specs.Types.{Form, Table}
use Rattle.seg_spec.specs.Shared.{names_in, replaced}
use Rattle.client_spec.specs.declared.table.Operation.{Operation}
use Rattle.client_spec.specs.Syntax.{Constant, Instruction}
use Rattle.client_spec.specs.Machine.{◌>>=◌, Path, extend, Register, State, register, set_register, owned_by, path_value, put_at, part_type}
use Rattle.client_spec.specs.Answer.{Answer, bad_alloc, null_or_none, numbers_used_up, answer_number, Outcome, path_in, fail, give_count, proceed, content_in, shared_type, begins_at, provided, with_room}
use Rattle.client_spec.specs.Effect.{effect}
use Rattle.client_spec.specs.Plain.{UsesUp}
use Rattle.client_spec.specs.Shape.{HasShape}
use Rattle.client_spec.specs.Trees.{unfolded_state, AreTrees}
use Rattle.client_spec.specs.Typed.{Class, RegisterType, Reason, RegisterTypes, known, is_owner, same_class, sharing}
use Rattle.client_spec.specs.Typed.{reference_needed, owner_needed, required, form_needed, content_known, known_after, assigned, opens, freezes, ended, others_ended, sharing_rule}
use Rattle.client_spec.specs.Typed as typed
use Rattle.client_spec.specs.Meaning.{BeginsIn, IsAsKnown}
use Rattle.client_spec.proofs.TypedStates.ValueLaws.{Some_inj}
use Rattle.client_spec.proofs.TypedStates.ShapeLaws.{IsOf, form_of_value}
use Rattle.client_spec.proofs.TypedStates.StateLaws.{agrees_set, register_set}
use Rattle.client_spec.proofs.TypedStates.PutLaws.{has_leads, leads_extend}
use Rattle.client_spec.proofs.TypedStates.ClassLaws.{OneEach, agrees_ended, agrees_others}
use Rattle.client_spec.proofs.TypedStates.KnowledgeChangeLaws.{agrees_release}
use Rattle.client_spec.proofs.Rows.RuleRowLaws.{bind_ok, Ok_inj, assigned_ok, Goes, goes_along, stays_known, reference_found, form_found, goes_give, goes_fail, opens_give}
use Rattle.client_spec.proofs.Rows.RowPartLaws.{goes_bind, found, code_goes, owner_found}
use Rattle.client_spec.proofs.TypedStates.ValueFormLaws.{not_is, required_is}
use Rattle.client_spec.proofs.Rows.PlaceRowLaws.{put_known, outside}
use Rattle.client_spec.proofs.Unfolded.UnfoldedStateLaws.{unfolds_is, value_same}
use Rattle.client_spec.proofs.Unfolded.UnfoldedEffectLaws.{nowhere, nowhere_named, none_named, trees_unfold}

-- a value of such a state has no positions
pub not_named : (s : State) (p : Path) (v : Value) → AreTrees s → path_value s p ≡ Some v → names_in v ≡ []
not_named s p v trees e =
    let same : s ≡ unfolded_state nowhere s = unfolds_is nowhere s s (trees_unfold nowhere s trees) in
    let is : v ≡ replaced nowhere v = Some_inj (sym e ∙ ap (λ z. path_value z p) same ∙ value_same nowhere s p v e) in
    ap names_in is ∙ none_named nowhere nowhere_named v

-- What CONTENT finds in a cell (nothing or an object), and what is known of the reference to it.
pub record CellHolds (class : Class) (k : Form) (v : Value) (y : RegisterType) : Type 0 where
  pub leads_into : Class
  pub type : ℕ
  pub known_as : y ≡ RegisterType.Reference leads_into type
  pub shares : sharing leads_into ≡ sharing class
  pub part : part_type Selector.content k ≡ Some type
  pub content : (content_in v ≡ Some None) ⊎ ((w : Value) × (v ≡ Full w))

sharing_again : (class : Class) → sharing (Class.Frozen (sharing class)) ≡ sharing class
sharing_again class = refl

pub holds_by : (types : Table) (class : Class) (k : Form) (v : Value) (y : RegisterType) → content_known class k ≡ Some y → IsOf types k v → names_in v ≡ [] → CellHolds class k v y
unfolding names_in
holds_by types class (Form.own t) (node Label.opt nil) y e f g = record { leads_into = class; type = t; known_as = sym (Some_inj e); shares = refl; part = refl; content = inl refl }
holds_by types class (Form.own t) (node Label.opt (cons w nil)) y e f g = record { leads_into = class; type = t; known_as = sym (Some_inj e); shares = refl; part = refl; content = inr (w, refl) }
holds_by types class (Form.own t) (node Label.opt (cons w (cons x xs))) y e f g = let h = f.0 in absurd (omega arith)
holds_by types class (Form.own t) v y e f g = absurd f.0
holds_by types class (Form.shared t) (node Label.opt nil) y e f g =
    record { leads_into = Class.Frozen (sharing class); type = t; known_as = sym (Some_inj e); shares = sharing_again class; part = refl; content = inl refl }
holds_by types class (Form.shared t) (node Label.opt (cons w nil)) y e f g =
    record { leads_into = Class.Frozen (sharing class); type = t; known_as = sym (Some_inj e); shares = sharing_again class; part = refl; content = inr (w, refl) }
holds_by types class (Form.shared t) (node Label.opt (cons w (cons x xs))) y e f g = let h = f.0 in absurd (omega arith)
holds_by types class (Form.shared t) (node (Label.shared u p) vs) y e f g = cc
holds_by types class (Form.shared t) v y e f g = absurd f.0
holds_by types class k v y e f g = cc

-- a shared cell may have a copy of an object of its type
pub shared_fits : (types : Table) (k : Form) (t : ℕ) → shared_type k ≡ Some t → (w : Value) → HasShape types t w → IsOf types k (Full w)
unfolding HasShape
shared_fits types (Form.shared t) u e w f = (omega arith, (subst (λ n. HasShape types n w) (sym (Some_inj e)) f, tt))
shared_fits types k u e w f = cc

same_shared : (k l : Form) (t u : ℕ) → shared_type k ≡ Some t → shared_type l ≡ Some u → t ≡ u → l ≡ k
same_shared (Form.shared t) (Form.shared u) v w e f g = ap Form.shared (Some_inj f ∙ sym g ∙ sym (Some_inj e))
same_shared k l v w e f g = cc

module _ (types : Table) (constants : List Constant) (one : OneEach constants) (ks : RegisterTypes) (s : State) (h : IsAsKnown types constants ks s) where
  -- the row of an operation, if its rule accepts it
  abbrev SharingRow : Operation → Type 0
  SharingRow op = (a b c : ℕ) (number : ℤ) (good bad : RegisterTypes) (room : Bool) → sharing_rule types constants op a b c number ks ≡ Ok (good, bad) → Goes types constants good bad (effect constants op a b c number room s)

  pub cell_goes : AreTrees s → SharingRow Operation.Content
  unfolding sharing_rule effect
  cell_goes trees a b c number good bad room e =
      let p = bind_ok (reference_needed (known ks b)) (λ x. typed.◌>>=◌ (form_needed (content_known x.0) types x.1) (λ k. opens a k ks)) (good, bad) e in
      let q = bind_ok (form_needed (content_known p.0.0) types p.0.1) (λ k. opens a k ks) (good, bad) p.2 in
      let r = reference_found types constants ks s h b p.0.0 p.0.1 p.1 in
      let k = form_found types constants ks s h (content_known p.0.0) p.0.1 q.0 q.1 in
      let fits = form_of_value s.types p.0.1 k.0 k.1 r.leads.value (has_leads s r.path p.0.1 h.typed r.leads) in
      let x = holds_by s.types p.0.0 k.0 r.leads.value q.0 k.2 fits (not_named s r.path r.leads.value trees r.leads.there) in
      let into = RegisterType.Reference x.leads_into x.type in
      let opened : opens a into ks ≡ Ok (good, bad) = ap (λ y. opens a y ks) (sym x.known_as) ∙ q.2 in
      goes_bind types constants one ks s h good bad _ _ _ (ap path_in r.is)
      (elim x.content [
        | inl none ↦
            goes_bind types constants one ks s h good bad _ _ _ (ap (λ o. o >>= content_in) r.leads.there ∙ none) (code_goes types constants one ks s h a into good bad null_or_none (λ q. cc) opened)
        | inr some ↦
            goes_bind types constants one ks s h good bad _ _ _ (ap (λ o. o >>= content_in) r.leads.there ∙ ap content_in some.1)
            (opens_give types constants ks s h a into good bad (Register.Reference (extend r.path Selector.content)) opened refl
            (record {
              path = extend r.path Selector.content;
              is = refl;
              within = subst (λ y. BeginsIn constants y r.path.origin) (sym x.shares) r.within;
              leads = leads_extend s r.path p.0.1 x.type Selector.content k.0 some.0 r.leads k.1 x.part (ap (λ v. selected v Selector.content) some.1);
            }))
      ])

  -- ---- FREEZE and SHARE

  -- What FREEZE finds, if its rule accepts it.
  record Freezing (a b c : ℕ) (good bad : RegisterTypes) (room : Bool) : Type 0 where
    path : Path
    value : Value
    -- what is known after the references into c's object and the class's other references have
    -- ended, and the state with the object frozen
    between : RegisterTypes
    as_before : IsAsKnown types constants between s
    as_after : IsAsKnown types constants (slice_set between c RegisterType.Undefined) (set_register (put_at s path (Full value)) c Register.Undefined)
    rest : freezes a c between ≡ Ok (good, bad)
    row : (number : ℤ) → effect constants Operation.Freeze a b c number room s
        ≡ with_room room a s (give_count a 1 (set_register (put_at s path (Full value)) c Register.Undefined))

  bind_is : {A : Type 0} (o : Option A) (x : A) (f : A → Outcome) (y : Outcome) → o ≡ Some x → f x ≡ y → (o >>= f) ≡ y
  bind_is o x f y e g = ap (λ o. o >>= f) e ∙ g

  freezing : (a b c : ℕ) (number : ℤ) (good bad : RegisterTypes) (room : Bool) → sharing_rule types constants Operation.Freeze a b c number ks ≡ Ok (good, bad) → Freezing a b c good bad room
  unfolding sharing_rule effect
  freezing a b c number good bad room e =
      let between = λ (x : Class × ℕ). ended (Class.Register c) (others_ended x.0 b ks) in
      let last = λ (x : Class × ℕ). typed.◌>>=◌ (required (not (same_class (sharing x.0) (Class.Register c))) Reason.PutIntoItself) (λ _. freezes a c (between x)) in
      let g = λ (x : Class × ℕ) (t : ℕ). typed.◌>>=◌ (owner_needed (known ks c)) (λ u. typed.◌>>=◌ (required (t == u) Reason.WrongOperand) (λ _. last x)) in
      let r = found types constants one ks s h shared_type g b good bad e in
      let p = bind_ok (owner_needed (known ks c)) (λ u. typed.◌>>=◌ (required (r.what == u) Reason.WrongOperand) (λ _. last (r.class, r.type))) (good, bad) r.rest in
      let q = bind_ok (required (r.what == p.0) Reason.WrongOperand) (λ _. last (r.class, r.type)) (good, bad) p.2 in
      let w = bind_ok (required (not (same_class (sharing r.class) (Class.Register c))) Reason.PutIntoItself) (λ _. freezes a c (between (r.class, r.type))) (good, bad) q.2 in
      let v = (owner_found types constants one ks s h (known ks c) (register s c) p.0 p.1 (h.each c)).1 in
      let same : r.what ≡ p.0 = eqb-true r.what p.0 (required_is _ Reason.WrongOperand q.0 q.1) in
      let apart = outside types constants one ks s h c (sharing r.class) r.refers.path.origin r.refers.within (not_is _ (required_is _ Reason.PutIntoItself w.0 w.1)) in
      let fits = shared_fits s.types r.entry r.what r.is v.0 (subst (λ n. HasShape s.types n v.0) (sym same) (h.typed.owned c v.0 p.0 v.1)) in
      let s' = put_at s r.refers.path (Full v.0) in
      let test : (r.what == p.0 && not (begins_at c r.refers.path.origin)) ≡ true = ap (λ x. x && not (begins_at c r.refers.path.origin)) (required_is _ Reason.WrongOperand q.0 q.1) ∙ ap not apart in
      record {
        path = r.refers.path;
        value = v.0;
        between = between (r.class, r.type);
        as_before = agrees_ended types constants one (Class.Register c) (others_ended r.class b ks) s (agrees_others types constants one r.class b ks s h);
        as_after = agrees_release types constants one (others_ended r.class b ks) s' c (put_known types constants one ks s h shared_type g b good bad r (Full v.0) fits);
        rest = w.2;
        row = λ number. bind_is _ _ _ _ r.path_is (bind_is _ _ _ _ (ap (λ o. o >>= shared_type) r.form_is ∙ r.is) (bind_is _ _ _ _ (ap owned_by v.1) (bind_is _ _ _ _ r.refers.leads.there
            (ap (λ t. provided t (with_room room a s (give_count a 1 (set_register s' c Register.Undefined)))) test))));
      }

  -- what is known after FREEZE, if it froze the object and if it failed
  pub froze : (a c : ℕ) (between good bad : RegisterTypes) → freezes a c between ≡ Ok (good, bad)
      → (is_owner (known (slice_set between c RegisterType.Undefined) a) ≡ false) × (good ≡ slice_set (slice_set between c RegisterType.Undefined) a RegisterType.Int)
      × (is_owner (known between a) ≡ false) × (bad ≡ slice_set between a RegisterType.Int)
  froze a c between good bad e =
      let first = slice_set between c RegisterType.Undefined in
      let p = bind_ok (assigned a RegisterType.Int first) (λ good. typed.◌>>=◌ (assigned a RegisterType.Int between) (λ bad. Ok (good, bad))) (good, bad) e in
      let q = bind_ok (assigned a RegisterType.Int between) (λ bad. Ok (p.0, bad)) (good, bad) p.2 in
      let both : (p.0, q.0) ≡ (good, bad) = Ok_inj q.2 in
      let x = assigned_ok a RegisterType.Int first p.0 p.1 in
      let y = assigned_ok a RegisterType.Int between q.0 q.1 in
      (x.0, sym (ap (λ (z : RegisterTypes × RegisterTypes). z.0) both) ∙ x.1, y.0, sym (ap (λ (z : RegisterTypes × RegisterTypes). z.1) both) ∙ y.1)

  froze_goes : (a c : ℕ) (good bad : RegisterTypes) (room : Bool) (path : Path) (value : Value) (between : RegisterTypes) → IsAsKnown types constants between s
      → IsAsKnown types constants (slice_set between c RegisterType.Undefined) (set_register (put_at s path (Full value)) c Register.Undefined) → freezes a c between ≡ Ok (good, bad)
      → Goes types constants good bad (with_room room a s (give_count a 1 (set_register (put_at s path (Full value)) c Register.Undefined)))
  froze_goes a c good bad true path value between before after e =
      let f = froze a c between good bad e in
      let s' = set_register (put_at s path (Full value)) c Register.Undefined in
      subst (λ g. Goes types constants g bad (give_count a 1 s')) (sym f.1) (goes_give types constants (slice_set between c RegisterType.Undefined) s' after bad a RegisterType.Int (Register.Int (pos 1)) f.0 refl (pos 1, refl))
  froze_goes a c good bad false path value between before after e =
      let f = froze a c between good bad e in
      subst (λ g. Goes types constants good g (fail a bad_alloc s)) (sym f.3) (goes_fail types constants between s before good a bad_alloc (λ q. cc) f.2)

  pub freeze_goes : SharingRow Operation.Freeze
  freeze_goes a b c number good bad room e =
      let f = freezing a b c number good bad room e in
      goes_along types constants good bad _ _ (f.row number) (froze_goes a c good bad room f.path f.value f.between f.as_before f.as_after f.rest)

  -- FREEZE keeps what is known if no number is left
  pub freeze_used : (i : Instruction) (good bad : RegisterTypes) → i.operation ≡ Operation.Freeze → sharing_rule types constants i.operation i.a i.b i.c i.number ks ≡ Ok (good, bad)
      → (answer : Answer) (s' : State) → UsesUp constants i s answer s' → IsAsKnown types constants bad s'
  freeze_used i good bad is e answer s' u =
      let f = freezing i.a i.b i.c i.number good bad false (subst (λ op. sharing_rule types constants op i.a i.b i.c i.number ks ≡ Ok (good, bad)) is e) in
      let p = froze i.a i.c f.between good bad f.rest in
      let code = pos (answer_number numbers_used_up) in
      subst (λ z. IsAsKnown types constants bad z) (sym u.state)
      (subst (λ k. IsAsKnown types constants k (set_register s i.a (Register.Int code))) (sym p.3)
      (agrees_set types constants f.between s i.a RegisterType.Int (Register.Int code) p.2 refl (code, refl) f.as_before))

  pub share_goes : SharingRow Operation.Share
  unfolding sharing_rule effect
  share_goes a b c number good bad room e =
      let last = λ (x : Class × ℕ). known_after (others_ended x.0 b ks) in
      let g = λ (x : Class × ℕ) (t : ℕ). typed.◌>>=◌ (reference_needed (known ks c))
      (λ y. typed.◌>>=◌ (form_needed shared_type types y.1) (λ u. typed.◌>>=◌ (required (t == u) Reason.WrongOperand) (λ _. last x))) in
      let r = found types constants one ks s h shared_type g b good bad e in
      let rest = λ (y : Class × ℕ) (u : ℕ). typed.◌>>=◌ (required (r.what == u) Reason.WrongOperand) (λ _. last (r.class, r.type)) in
      let y = found types constants one ks s h shared_type rest c good bad r.rest in
      let w = bind_ok (required (r.what == y.what) Reason.WrongOperand) (λ _. last (r.class, r.type)) (good, bad) y.rest in
      let test : (r.what == y.what) ≡ true = required_is _ Reason.WrongOperand w.0 w.1 in
      let v = y.refers.leads.value in
      let s' = put_at s r.refers.path v in
      let fits = subst (λ k. IsOf s.types k v) (same_shared r.entry y.entry r.what y.what r.is y.is (eqb-true r.what y.what test)) y.fits in
      goes_bind types constants one ks s h good bad _ _ _ r.path_is (goes_bind types constants one ks s h good bad _ _ _ (ap (λ o. o >>= shared_type) r.form_is ∙ r.is)
      (goes_bind types constants one ks s h good bad _ _ _ y.path_is (goes_bind types constants one ks s h good bad _ _ _ (ap (λ o. o >>= shared_type) y.form_is ∙ y.is)
      (goes_bind types constants one ks s h good bad _ _ _ r.refers.leads.there (goes_bind types constants one ks s h good bad _ _ _ y.refers.leads.there
      (goes_along types constants good bad _ _ (ap (λ t. provided t (proceed s')) test)
      (stays_known types constants (others_ended r.class b ks) good bad s' w.2 (put_known types constants one ks s h shared_type g b good bad r v fits))))))))

-- putting a number in a register leaves a state without positions
pub number_trees : (s : State) (a : ℕ) (k : ℤ) → AreTrees s → AreTrees (set_register s a (Register.Int k))
number_trees s a k h = record {
  names = h.names;
  uniques = h.uniques;
  owned = λ r v t e. elim (register_set s a r (Register.Int k)) [
    | inl p ↦ absurd (let x : Register.Int k ≡ Register.Owner v t = sym p.0 ∙ e in cc)
    | inr p ↦ h.owned r v t (sym p ∙ e)
  ];
}
