-- What a row of MAKE or FINDOR does to the names: it makes one object of default values, or none.
use Rattle.std.specs.Prelude.{⊤, pos, ℤ, ◌==◌, if◌then◌else◌}
use Rattle.std.specs.Option.{option_map_or}
use Rattle.std.proofs.Common.{◌≡◌, ℕ, ◌⊎◌, inl, inr, Bool, true, false, List, Option, Some, None, refl, sym, ap, ◌∙◌, subst}
use Rattle.seg_spec.specs.Value.{copies, default_of}
use Rattle.client_spec.specs.declared.table.Operation.{Operation}
use Rattle.client_spec.specs.Syntax.{Constant, Instruction}
use Rattle.client_spec.specs.Machine.{◌>>=◌, Origin, Register, Object, State, with_name}
use Rattle.client_spec.specs.Answer.{Answer, Outcome, success, bad_alloc, already_exists, other_type, out_of_range, answer_number, fail, refer, path_from, object_count, type_operand, integer_or}
use Rattle.client_spec.specs.Effect.{effect, outcome, add_object, find_or_add}
use Rattle.client_spec.specs.Asks.{name_operand, new_count}
use Rattle.test_definitions.proofs.Rows.AnsweredRowLaws.{from_answer}

abbrev pub Makes : Operation → Type 0
Makes o = (o ≡ Operation.Make) ⊎ (o ≡ Operation.FindOrMake)

-- what follows for each of the two
pub by_either : (P : Operation → Type 0) (o : Operation) → Makes o → P Operation.Make → P Operation.FindOrMake → P o
by_either P o (inl e) a b = subst P (sym e) a
by_either P o (inr e) a b = subst P (sym e) b

-- the names after a row that may make an object of n values with this name and type
abbrev pub NamesThen : (name : List ℕ) (T n : ℕ) (found : Option Object) (s t : State) → Answer → Type 0
NamesThen name T n found s t success = (found ≡ None) × (t.names ≡ with_name s.names name (Some (record { type = T; values = copies n (default_of s.types T) })))
NamesThen name T n found s t bad_alloc = t.names ≡ s.names
NamesThen name T n found s t answer = ⊤

added : (a : ℕ) (name : List ℕ) (T : ℕ) (found : Option Object) (n : ℕ) (room : Bool) (s t : State) (k : Answer) → ◌≡◌ {A = Outcome} (add_object a name T found n room s) (Some (k, t)) → NamesThen name T n found s t k
added a name T (Some o) n room s t k e =
    let f : already_exists ≡ k = (from_answer already_exists k a (Register.Int (pos (answer_number already_exists))) s t e).0 in
    subst (NamesThen name T n (Some o) s t) f tt
added a name T None n true s t k e =
    let u : State = record s { names = with_name s.names name (Some (record { type = T; values = copies n (default_of s.types T) })) } in
    let f = from_answer success k a (Register.Reference (path_from (Origin.Name name 0))) u t e in
    subst (NamesThen name T n None s t) f.0 (refl, ap (λ (z : State). z.names) f.1)
added a name T None n false s t k e =
    let f = from_answer bad_alloc k a (Register.Int (pos (answer_number bad_alloc))) s t e in
    subst (NamesThen name T n None s t) f.0 (ap (λ (z : State). z.names) f.1)

-- the row's name and number of values, and the names after it
pub record NewName (constants : List Constant) (i : Instruction) (s t : State) (k : Answer) : Type 0 where
  pub name : List ℕ
  pub name_is : name_operand constants i s ≡ Some name
  pub n : ℕ
  pub n_is : new_count i.operation i s ≡ Some n
  pub names_then : NamesThen name (type_operand i.number) n (s.names name) s t k

-- FINDOR finds the object
pub record FindsName (constants : List Constant) (i : Instruction) (s : State) (k : Answer) : Type 0 where
  pub finds : i.operation ≡ Operation.FindOrMake
  pub name : List ℕ
  pub name_is : name_operand constants i s ≡ Some name
  pub object : Object
  pub found : s.names name ≡ Some object
  pub succeeds : success ≡ k

-- the answers after which the image may have changed
abbrev pub MayWrite : Answer → Type 0
MayWrite k = (k ≡ success) ⊎ (k ≡ bad_alloc)

module _ (constants : List Constant) (i : Instruction) (room : Bool) (s t : State) (k : Answer) (writes : MayWrite k) where
  not_out : out_of_range ≡ k → ⊥
  not_out e = elim writes [ inl f ↦ (let g : out_of_range ≡ success = e ∙ f in cc) | inr f ↦ (let g : out_of_range ≡ bad_alloc = e ∙ f in cc) ]

  not_other : other_type ≡ k → ⊥
  not_other e = elim writes [ inl f ↦ (let g : other_type ≡ success = e ∙ f in cc) | inr f ↦ (let g : other_type ≡ bad_alloc = e ∙ f in cc) ]

  make_row : i.operation ≡ Operation.Make → ◌≡◌ {A = Outcome} (effect constants Operation.Make i.a i.b i.c i.number room s) (Some (k, t)) → NewName constants i s t k
  unfolding effect
  make_row is e = with_name_of (name_operand constants i s) refl e
    where
      counted : (name : List ℕ) → name_operand constants i s ≡ Some name → (x : ℤ) → integer_or (pos 1) i.c s ≡ Some x → (u : Option ℕ) → object_count x ≡ u
          → ◌≡◌ {A = Outcome} (option_map_or (λ n. add_object i.a name (type_operand i.number) (s.names name) n room s) u (fail i.a out_of_range s)) (Some (k, t)) → NewName constants i s t k
      counted name name_is x x_is None f e = absurd (not_out (from_answer out_of_range k i.a (Register.Int (pos (answer_number out_of_range))) s t e).0)
      counted name name_is x x_is (Some n) f e = record {
        name = name;
        name_is = name_is;
        n = n;
        n_is = ap (λ o. new_count o i s) is ∙ ap (λ (o : Option ℤ). o >>= object_count) x_is ∙ f;
        names_then = added i.a name (type_operand i.number) (s.names name) n room s t k e;
      }

      with_count_of : (name : List ℕ) → name_operand constants i s ≡ Some name → (o : Option ℤ) → integer_or (pos 1) i.c s ≡ o
          → ◌≡◌ {A = Outcome} (o >>= λ x. option_map_or (λ n. add_object i.a name (type_operand i.number) (s.names name) n room s) (object_count x) (fail i.a out_of_range s)) (Some (k, t)) → NewName constants i s t k
      with_count_of name name_is None f e = cc
      with_count_of name name_is (Some x) f e = counted name name_is x f (object_count x) refl e

      with_name_of : (o : Option (List ℕ)) → name_operand constants i s ≡ o → ◌≡◌ {A = Outcome} (o >>= λ name. integer_or (pos 1) i.c s >>= λ x. option_map_or
          (λ n. add_object i.a name (type_operand i.number) (s.names name) n room s) (object_count x) (fail i.a out_of_range s)) (Some (k, t)) → NewName constants i s t k
      with_name_of None f e = cc
      with_name_of (Some name) f e = with_count_of name f (integer_or (pos 1) i.c s) refl e

  find_or_row : i.operation ≡ Operation.FindOrMake → ◌≡◌ {A = Outcome} (effect constants Operation.FindOrMake i.a i.b i.c i.number room s) (Some (k, t)) → NewName constants i s t k ⊎ FindsName constants i s k
  unfolding effect
  find_or_row is e = with_name_of (name_operand constants i s) refl e
    where
      of_type : (name : List ℕ) → name_operand constants i s ≡ Some name → (o : Object) → s.names name ≡ Some o → (b : Bool)
          → ◌≡◌ {A = Outcome} (if b then refer i.a (path_from (Origin.Name name 0)) s else fail i.a other_type s) (Some (k, t)) → NewName constants i s t k ⊎ FindsName constants i s k
      of_type name name_is o f true e = inr (record {
        finds = is;
        name = name;
        name_is = name_is;
        object = o;
        found = f;
        succeeds = (from_answer success k i.a (Register.Reference (path_from (Origin.Name name 0))) s t e).0;
      })
      of_type name name_is o f false e = absurd (not_other (from_answer other_type k i.a (Register.Int (pos (answer_number other_type))) s t e).0)

      with_object : (name : List ℕ) → name_operand constants i s ≡ Some name → (o : Option Object) → s.names name ≡ o → ◌≡◌ {A = Outcome} (find_or_add i.a name (type_operand i.number) o room s) (Some (k, t))
          → NewName constants i s t k ⊎ FindsName constants i s k
      with_object name name_is None f e = inl (record {
        name = name;
        name_is = name_is;
        n = 1;
        n_is = ap (λ o. new_count o i s) is;
        names_then = subst (λ o. NamesThen name (type_operand i.number) 1 o s t k) (sym f) (added i.a name (type_operand i.number) None 1 room s t k e);
      })
      with_object name name_is (Some o) f e = of_type name name_is o f (o.type == type_operand i.number) e

      with_name_of : (o : Option (List ℕ)) → name_operand constants i s ≡ o → ◌≡◌ {A = Outcome} (o >>= λ name. find_or_add i.a name (type_operand i.number) (s.names name) room s) (Some (k, t))
          → NewName constants i s t k ⊎ FindsName constants i s k
      with_name_of None f e = cc
      with_name_of (Some name) f e = with_object name f (s.names name) refl e

  -- the row makes an object, or FINDOR finds it
  pub names_row : Makes i.operation → outcome constants i room s ≡ Some (k, t) → NewName constants i s t k ⊎ FindsName constants i s k
  names_row (inl is) e = inl (make_row is (subst (λ o. ◌≡◌ {A = Outcome} (effect constants o i.a i.b i.c i.number room s) (Some (k, t))) is e))
  names_row (inr is) e = find_or_row is (subst (λ o. ◌≡◌ {A = Outcome} (effect constants o i.a i.b i.c i.number room s) (Some (k, t))) is e)
