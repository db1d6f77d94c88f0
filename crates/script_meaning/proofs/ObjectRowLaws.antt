-- The rows of instructions that find, change and destroy objects of type int.
use Rattle.std.proofs.Common.{◌≡◌, ◌≢◌, ℕ, zero, suc, ◌<◌, ℤ, pos, List, [], ◌∷◌, length, Bool, true, false, Option, Some, None, slice_get, slice_set, ◌⊎◌, inl, inr, refl, sym, ◌∙◌, ap, subst, arith, eq-eqb, lt-ltb}
use Rattle.std.specs.Prelude.{nat_lt, ◌==◌, if◌then◌else◌, slice_index_or}
use Rattle.std.specs.Option.{option_map_or}
use Rattle.std.proofs.lemmas.List.{get_or-set_same, get_or-set_other}
use Rattle.client_spec.specs.Value.{Value, Int, Values, nil, cons, nth, count, copies, default_of, value_at, with_value_at}
use Rattle.client_spec.specs.Syntax.{Constant, Instruction}
use Rattle.client_spec.specs.Syntax as syntax
use Rattle.client_spec.specs.declared.table.Operation.{Operation}
use Rattle.client_spec.specs.declared.table.Operation.TheVariants as operation
use Rattle.client_spec.specs.Machine.{◌>>=◌, Origin, Path, Register, Object, with_name, State, register, set_register, owned_by, at_origin, path_value, put_at, put_origin, replace_item}
use Rattle.client_spec.specs.Answer.{Answer, success, bad_alloc, absent, other_type, out_of_range, answer_number, Outcome, answer, give, fail, refer, path_in, integer_in, path_of, integer_at, int_in, path_from}
use Rattle.client_spec.specs.Answer.{constant_operand, constant_name, type_operand, integer_or, index_below}
use Rattle.client_spec.specs.Effect.{effect, outcome, find_or_add, item_of_object, destroy_object}
use Rattle.client_spec.proofs.TypedStates.ValueLaws.{Some_inj, bind_some, length_set}
use Rattle.client_spec.proofs.TypedStates.StateLaws.{name_there}
use Rattle.client_spec.specs.Run.{Ending}
use Rattle.script_meaning.specs.Meaning.{World, world_of, Moment, Setting, name_of, number_in, number_of, with_number, with_object, Meaning, Chosen, Changes, ByObject, Stores, without}
use Rattle.script_meaning.specs.Following.{Held, Holds}
use Rattle.script_meaning.specs.Comparing.{IsFree}
use Rattle.script_meaning.proofs.QuietRunLaws.{Quiet}

-- ---- registers

abbrev pub place : List ℕ → Path
place name = path_from (Origin.Name name 0)

-- an instruction gave this answer, and register a this value
pub record Answered (code : Answer) (a : ℕ) (x : Register) (s : State) (answer : Answer) (s' : State) : Type 0 where
  pub code_is : answer ≡ code
  pub state_is : s' ≡ set_register s a x

pub answered : (code : Answer) (a : ℕ) (x : Register) (s : State) (c : Answer) (t : State) → answer code a x s ≡ Some (c, t) → Answered code a x s c t
answered code a x s c t e = by (owned_by (register s a)) e
  where
    by : (o : Option (Value × ℕ)) → ◌≡◌ {A = Outcome} (option_map_or (λ _. None) o (Some (code, set_register s a x))) (Some (c, t)) → Answered code a x s c t
    by None e = let g : (code, set_register s a x) ≡ (c, t) = Some_inj e in record { code_is = sym (ap (λ (p : Answer × State). p.0) g); state_is = sym (ap (λ (p : Answer × State). p.1) g) }
    by (Some v) e = absurd (let g : ◌≡◌ {A = Outcome} None (Some (c, t)) = e in cc)

pub set_same : (s : State) (a : ℕ) (x : Register) → a < length s.registers → register (set_register s a x) a ≡ x
set_same s a x lt = get_or-set_same s.registers a x Register.Undefined lt

pub set_other : (s : State) (a r : ℕ) (x : Register) → r ≢ a → register (set_register s a x) r ≡ register s r
set_other s a r x ne = get_or-set_other s.registers a r x Register.Undefined ne

-- register a was given a value, or it doesn't exist
pub set_either : (xs : List Register) (a : ℕ) (x : Register) → (slice_index_or (slice_set xs a x) a Register.Undefined ≡ x) ⊎ (slice_index_or (slice_set xs a x) a Register.Undefined ≡ Register.Undefined)
set_either [] a x = inr refl
set_either (y ∷ ys) zero x = inl refl
set_either (y ∷ ys) (suc a) x = set_either ys a x

-- the registers with variables are the same
pub record KeepsHeld (held : Held) (s s' : State) : Type 0 where
  pub count : length s'.registers ≡ length s.registers
  pub each : (r v : ℕ) → slice_get held r ≡ Some (Some v) → register s' r ≡ register s r

pub keeps_then : (held : Held) (s t u : State) → KeepsHeld held s t → KeepsHeld held t u → KeepsHeld held s u
keeps_then held s t u f g = record { count = g.count ∙ f.count; each = λ r v e. g.each r v e ∙ f.each r v e }

pub keeps_same : (held : Held) (s t : State) → t.registers ≡ s.registers → KeepsHeld held s t
keeps_same held s t e = record { count = ap length e; each = λ r v h. ap (λ (xs : List Register). slice_index_or xs r Register.Undefined) e }

pub free_apart : (held : Held) (a r v : ℕ) → IsFree held a → slice_get held r ≡ Some (Some v) → r ≢ a
free_apart held a r v free e q =
    let g : Some None ≡ Some (Some v) = sym free ∙ ap (slice_get held) (sym q) ∙ e in
    let k : None ≡ Some v = Some_inj g in
    absurd (cc)

pub keeps_set : (held : Held) (s : State) (a : ℕ) (x : Register) → IsFree held a → KeepsHeld held s (set_register s a x)
keeps_set held s a x free = record { count = length_set s.registers a x; each = λ r v e. set_other s a r x (free_apart held a r v free e) }

pub holds_after : (held : Held) (m m' : Moment) (s s' : State) → Holds held m s → KeepsHeld held s s' → m'.variables ≡ m.variables → m'.world ≡ world_of s' → Holds held m' s'
holds_after held m m' s s' h keeps variables world = record {
  count = keeps.count ∙ h.count;
  world = sym world;
  each = λ r v e. keeps.each r v e ∙ h.each r v e ∙ ap (λ (f : ℕ → ℤ). Register.Int (f v)) (sym variables);
}

-- ---- the number in an object

-- the first item, if it is a number
abbrev pub first_number : Option Object → Option ℤ
first_number o = o >>= λ (o : Object). nth o.values 0 >>= int_in

item_in : (T : ℕ) (v : Option Value) → (((v >>= λ (v : Value). Some (v, T)) >>= λ (found : Value × ℕ). value_at found.0 []) >>= int_in) ≡ (v >>= int_in)
item_in T None = refl
item_in T (Some v) = refl

place_in : (o : Option Object) → (((o >>= λ (o : Object). nth o.values 0 >>= λ (v : Value). Some (v, o.type)) >>= λ (found : Value × ℕ). value_at found.0 []) >>= int_in) ≡ first_number o
place_in None = refl
place_in (Some o) = item_in o.type (nth o.values 0)

pub place_number : (s : State) (name : List ℕ) → (path_value s (place name) >>= int_in) ≡ first_number (s.names name)
place_number s name = place_in (s.names name)

pub number_there : (int : ℕ) (o : Option Object) (k : ℤ) → ((x : Object) → o ≡ Some x → (x.type == int) ≡ true) → first_number o ≡ Some k → number_in int o ≡ Some k
number_there int None k typed e = absurd (let g : None ≡ Some k = e in cc)
number_there int (Some o) k typed e = ap (λ (b : Bool). if b then nth o.values 0 >>= int_in else None) (typed o refl) ∙ e

-- the state after an object got a number
pub record Put (name : List ℕ) (k : ℤ) (s s' : State) : Type 0 where
  pub world : world_of s' ≡ with_number name k (world_of s)
  pub registers : s'.registers ≡ s.registers

pub put_place : (s : State) (name : List ℕ) (k old : ℤ) → first_number (s.names name) ≡ Some old → Put name k s (put_at s (place name) (Int k))
put_place s name k old e =
    let a = bind_some (s.names name) (λ (o : Object). nth o.values 0 >>= int_in) old e in
    let b = bind_some (nth a.0.values 0) int_in old a.2 in
    let at : at_origin s (Origin.Name name 0) ≡ Some (b.0, a.0.type) =
    ap (λ (o : Option Object). o >>= λ (o : Object). nth o.values 0 >>= λ (v : Value). Some (v, o.type)) a.1 ∙ ap (λ (v : Option Value). v >>= λ (v : Value). Some (v, a.0.type)) b.1 in
    let origin : put_at s (place name) (Int k) ≡ put_origin s (Origin.Name name 0) (Int k) =
    ap (λ (p : Option (Value × ℕ)). option_map_or (λ (found : Value × ℕ). put_origin s (Origin.Name name 0) (with_value_at [] (Int k) found.0)) p s) at in
    let named : put_origin s (Origin.Name name 0) (Int k) ≡ record s { names = with_name s.names name (Some (replace_item 0 (Int k) a.0)) } =
    ap (λ (o : Option Object). option_map_or (λ (o : Object). record s { names = with_name s.names name (Some (replace_item 0 (Int k) o)) }) o s) a.1 in
    let whole = origin ∙ named in
    record {
      world = ap world_of whole ∙ sym (ap (λ (o : Option Object). option_map_or (λ (o : Object). record (world_of s) { names = with_name (world_of s).names name (Some (replace_item 0 (Int k) o)) }) o (world_of s)) a.1);
      registers = ap (λ (t : State). t.registers) whole;
    }

-- ---- LOAD and STORE

-- LOAD gave the number of an object
pub record Loads (name : List ℕ) (a : ℕ) (s : State) (answer : Answer) (s' : State) : Type 0 where
  pub number : ℤ
  pub there : first_number (s.names name) ≡ Some number
  pub gave : Answered success a (Register.Int number) s answer s'

module _ (constants : List Constant) (i : Instruction) (s : State) (name : List ℕ) where
  -- register b refers to the object, if it refers to anything
  abbrev pub Refers : Type 0
  Refers = (register s i.b ≡ Register.Reference (place name)) ⊎ (register s i.b ≡ Register.Undefined)

  referred : Refers → (p : Path) → path_of s i.b ≡ Some p → p ≡ place name
  referred (inl e) p f = sym (Some_inj (ap path_in (sym e) ∙ f))
  referred (inr e) p f = absurd (let g : None ≡ Some p = ap path_in (sym e) ∙ f in cc)

  pub loads : i.operation ≡ operation.Load → Refers → (room : Bool) (answer : Answer) (s' : State) → outcome constants i room s ≡ Some (answer, s') → Loads name i.a s answer s'
  unfolding effect
  loads is refers room answer s' e =
      let f : (path_of s i.b >>= λ (p : Path). (path_value s p >>= int_in) >>= λ (k : ℤ). give i.a (Register.Int k) s) ≡ Some (answer, s') =
      ap (λ (op : Operation). effect constants op i.a i.b i.c i.number room s) (sym is) ∙ e in
      let p = bind_some (path_of s i.b) (λ (p : Path). (path_value s p >>= int_in) >>= λ (k : ℤ). give i.a (Register.Int k) s) (answer, s') f in
      let k = bind_some (path_value s p.0 >>= int_in) (λ (k : ℤ). give i.a (Register.Int k) s) (answer, s') p.2 in
      record {
        number = k.0;
        there = sym (place_number s name) ∙ subst (λ (q : Path). (path_value s q >>= int_in) ≡ Some k.0) (referred refers p.0 p.1) k.1;
        gave = answered success i.a (Register.Int k.0) s answer s' k.2;
      }

  pub load_quiet : i.operation ≡ operation.Load → Refers → Quiet constants i s
  load_quiet is refers = record {
    same = λ room answer s' e. ap (λ (t : State). t.output) (loads is refers room answer s' e).gave.state_is;
    no_freeze = λ f. (let g : operation.Load ≡ operation.Freeze = sym is ∙ f in cc);
  }

  -- STORE gave the object a number
  pub record StoresIn (k : ℤ) (s' : State) : Type 0 where
    pub old : ℤ
    pub there : first_number (s.names name) ≡ Some old
    pub put : Put name k s s'

  pub stores_in : (k : ℤ) → i.operation ≡ operation.Store → Refers → register s i.c ≡ Register.Int k → (room : Bool) (answer : Answer) (s' : State) → outcome constants i room s ≡ Some (answer, s') → StoresIn k s'
  unfolding effect
  stores_in k is refers number room answer s' e =
      let f : (path_of s i.b >>= λ (p : Path). (path_value s p >>= int_in) >>= λ (old : ℤ). integer_at s i.c >>= λ (x : ℤ). Some (success, put_at s p (Int x))) ≡ Some (answer, s') =
      ap (λ (op : Operation). effect constants op i.a i.b i.c i.number room s) (sym is) ∙ e in
      let p = bind_some (path_of s i.b) (λ (p : Path). (path_value s p >>= int_in) >>= λ (old : ℤ). integer_at s i.c >>= λ (x : ℤ). Some (success, put_at s p (Int x))) (answer, s') f in
      let old = bind_some (path_value s p.0 >>= int_in) (λ (old : ℤ). integer_at s i.c >>= λ (x : ℤ). Some (success, put_at s p.0 (Int x))) (answer, s') p.2 in
      let x = bind_some (integer_at s i.c) (λ (x : ℤ). Some (success, put_at s p.0 (Int x))) (answer, s') old.2 in
      let x_is : x.0 ≡ k = sym (Some_inj (ap integer_in (sym number) ∙ x.1)) in
      let p_is = referred refers p.0 p.1 in
      let there : first_number (s.names name) ≡ Some old.0 = sym (place_number s name) ∙ subst (λ (q : Path). (path_value s q >>= int_in) ≡ Some old.0) p_is old.1 in
      let last : s' ≡ put_at s p.0 (Int x.0) = sym (ap (λ (q : Answer × State). q.1) (Some_inj x.2)) in
      let state_is : s' ≡ put_at s (place name) (Int k) = last ∙ ap (λ (q : Path). put_at s q (Int x.0)) p_is ∙ ap (λ (y : ℤ). put_at s (place name) (Int y)) x_is in
      record { old = old.0; there = there; put = subst (λ (t : State). Put name k s t) (sym state_is) (put_place s name k old.0 there) }

  pub store_quiet : (k : ℤ) → i.operation ≡ operation.Store → Refers → register s i.c ≡ Register.Int k → Quiet constants i s
  store_quiet k is refers number = record {
    same = λ room answer s' e. ap (λ (w : World). w.output) (stores_in k is refers number room answer s' e).put.world ∙ kept (s.names name);
    no_freeze = λ f. (let g : operation.Store ≡ operation.Freeze = sym is ∙ f in cc);
  }
    where
      kept : (o : Option Object) → (option_map_or (λ (o : Object). record (world_of s) { names = with_name (world_of s).names name (Some (replace_item 0 (Int k) o)) }) o (world_of s)).output ≡ s.output
      kept None = refl
      kept (Some o) = refl

-- ---- FINDOR

module _ (setting : Setting) (x : ℕ) (new : Moment → ℤ → ℤ) (otherwise : Meaning) where
  abbrev the_name : List ℕ
  the_name = name_of setting x

  by_object : (m m' : Moment) (end : Ending) (o : Option Object) → m.world.names the_name ≡ o → ByObject setting x (new m) otherwise o m m' end → Stores setting x new otherwise m m' end
  by_object m m' end o e h = subst (λ (o : Option Object). ByObject setting x (new m) otherwise o m m' end) (sym e) h

  -- Register a refers to the object. In the state before it got the reference, `base`, there is the object, and it is of type int.
  pub record Ready (a : ℕ) (s mid : State) : Type 0 where
    pub base : State
    pub registers : base.registers ≡ s.registers
    pub output : base.output ≡ s.output
    pub typed : (o : Object) → base.names the_name ≡ Some o → (o.type == setting.int) ≡ true
    pub mid_is : mid ≡ set_register base a (Register.Reference (place the_name))
    pub means : (m m' : Moment) (end : Ending) → m.world ≡ world_of s → Changes setting x (new m) (world_of base) m m' end → Stores setting x new otherwise m m' end

  -- register a has a code
  pub record Refused (a : ℕ) (s mid : State) : Type 0 where
    pub code : ℤ
    pub mid_is : mid ≡ set_register s a (Register.Int code)
    pub means : (m m' : Moment) (end : Ending) → m.world ≡ world_of s → otherwise m m' end → Stores setting x new otherwise m m' end

  abbrev pub FindsOr : ℕ → State → Answer → State → Type 0
  FindsOr a s answer mid = ((answer ≡ success) × Ready a s mid) ⊎ ((answer ≢ success) × Refused a s mid)

  refused : (a : ℕ) (s : State) (code c : Answer) (mid : State) → code ≢ success → Answered code a (Register.Int (pos (answer_number code))) s c mid
      → ((m m' : Moment) (end : Ending) → m.world ≡ world_of s → otherwise m m' end → Stores setting x new otherwise m m' end) → FindsOr a s c mid
  refused a s code c mid ne h means = inr (λ e. ne (sym h.code_is ∙ e), record { code = pos (answer_number code); mid_is = h.state_is; means = means })

  finds_none : (a : ℕ) (s : State) (room : Bool) (c : Answer) (mid : State) → s.names the_name ≡ None → find_or_add a the_name setting.int None room s ≡ Some (c, mid) → FindsOr a s c mid
  finds_none a s true c mid none e =
      let made : Option Object = Some (record { type = setting.int; values = copies 1 (default_of s.types setting.int) }) in
      let base : State = record s { names = with_name s.names the_name made } in
      let h = answered success a (Register.Reference (place the_name)) base c mid e in
      inl (
        h.code_is,
        record {
          base = base;
          registers = refl;
          output = refl;
          typed = λ o f. (
              let g : made ≡ Some o = sym (name_there s.names the_name made) ∙ f in
              ap (λ (y : Object). y.type == setting.int) (sym (Some_inj g)) ∙ eq-eqb setting.int setting.int refl
              );
          mid_is = h.state_is;
          means = λ m m' end w changes. by_object m m' end None (ap (λ (w : World). w.names the_name) w ∙ none)
              (inl (subst (λ (w : World). Changes setting x (new m) (with_object setting.int the_name w) m m' end) (sym w) changes));
        },
      )
  finds_none a s false c mid none e =
      refused a s bad_alloc c mid (λ q. cc) (answered bad_alloc a (Register.Int (pos (answer_number bad_alloc))) s c mid e)
      (λ m m' end w other. by_object m m' end None (ap (λ (w : World). w.names the_name) w ∙ none) (inr other))

  finds_some : (a : ℕ) (s : State) (c : Answer) (mid : State) (o : Object) → s.names the_name ≡ Some o → (b : Bool) → (o.type == setting.int) ≡ b
      → (if b then refer a (place the_name) s else fail a other_type s) ≡ Some (c, mid) → FindsOr a s c mid
  finds_some a s c mid o there true is e =
      let h = answered success a (Register.Reference (place the_name)) s c mid e in
      inl (
        h.code_is,
        record {
          base = s;
          registers = refl;
          output = refl;
          typed = λ o' f. (
              let g : Some o ≡ Some o' = sym there ∙ f in
              ap (λ (y : Object). y.type == setting.int) (sym (Some_inj g)) ∙ is
              );
          mid_is = h.state_is;
          means = λ m m' end w changes. by_object m m' end (Some o) (ap (λ (w : World). w.names the_name) w ∙ there)
              (subst (λ (b : Bool). Chosen b (Changes setting x (new m) m.world m m' end) (otherwise m m' end)) (sym is) (subst (λ (w : World). Changes setting x (new m) w m m' end) (sym w) changes));
        },
      )
  finds_some a s c mid o there false is e =
      refused a s other_type c mid (λ q. cc) (answered other_type a (Register.Int (pos (answer_number other_type))) s c mid e)
      (λ m m' end w other. by_object m m' end (Some o) (ap (λ (w : World). w.names the_name) w ∙ there)
      (subst (λ (b : Bool). Chosen b (Changes setting x (new m) m.world m m' end) (otherwise m m' end)) (sym is) other))

  finds_by : (a : ℕ) (s : State) (room : Bool) (c : Answer) (mid : State) (o : Option Object) → s.names the_name ≡ o → find_or_add a the_name setting.int o room s ≡ Some (c, mid) → FindsOr a s c mid
  finds_by a s room c mid None there e = finds_none a s room c mid there e
  finds_by a s room c mid (Some o) there e = finds_some a s c mid o there (o.type == setting.int) refl (ap (λ (b : Bool). if b then refer a (place the_name) s else fail a other_type s) refl ∙ e)

  -- the object that an instruction names
  pub record Names (constants : List Constant) (i : Instruction) : Type 0 where
    pub type : type_operand i.number ≡ setting.int
    pub constant : slice_get constants (constant_operand i.number) ≡ Some (syntax.Constant.Name the_name)

  module _ (constants : List Constant) (i : Instruction) (s : State) (names : Names constants i) where
    name_is : (slice_get constants (constant_operand i.number) >>= λ (k : Constant). constant_name k (register s i.b)) ≡ Some the_name
    name_is = ap (λ (o : Option Constant). o >>= λ (k : Constant). constant_name k (register s i.b)) names.constant

    pub finds_or : i.operation ≡ operation.FindOrMake → (room : Bool) (c : Answer) (mid : State) → outcome constants i room s ≡ Some (c, mid) → FindsOr i.a s c mid
    unfolding effect
    finds_or is room c mid e =
        let f : ((slice_get constants (constant_operand i.number) >>= λ (k : Constant). constant_name k (register s i.b)) >>= λ (n : List ℕ). find_or_add i.a n (type_operand i.number) (s.names n) room s) ≡ Some (c, mid) =
        ap (λ (op : Operation). effect constants op i.a i.b i.c i.number room s) (sym is) ∙ e in
        finds_by i.a s room c mid (s.names the_name) refl
        (ap (λ (t : ℕ). find_or_add i.a the_name t (s.names the_name) room s) (sym names.type)
        ∙ ap (λ (o : Option (List ℕ)). o >>= λ (n : List ℕ). find_or_add i.a n (type_operand i.number) (s.names n) room s) (sym name_is) ∙ f)

    pub find_quiet : i.operation ≡ operation.FindOrMake → Quiet constants i s
    find_quiet is = record {
      same = λ room c mid e. (elim (finds_or is room c mid e) [
        | inl r ↦ ap (λ (t : State). t.output) r.1.mid_is ∙ r.1.output
        | inr r ↦ ap (λ (t : State). t.output) r.1.mid_is
      ]);
      no_freeze = λ f. (let g : operation.FindOrMake ≡ operation.Freeze = sym is ∙ f in cc);
    }

-- ---- FIND

module _ (setting : Setting) (x : ℕ) where
  abbrev the_name' : List ℕ
  the_name' = name_of setting x

  -- register a refers to the object, which is of type int
  pub record IsFound (a : ℕ) (s mid : State) : Type 0 where
    pub mid_is : mid ≡ set_register s a (Register.Reference (place the_name'))
    pub typed : (o : Object) → s.names the_name' ≡ Some o → (o.type == setting.int) ≡ true

  -- there is no such number
  pub record IsAbsent (a : ℕ) (s mid : State) : Type 0 where
    pub code : ℤ
    pub mid_is : mid ≡ set_register s a (Register.Int code)
    pub none : number_of setting (world_of s) x ≡ None

  abbrev pub Finds : ℕ → State → Answer → State → Type 0
  Finds a s answer mid = ((answer ≡ success) × IsFound a s mid) ⊎ ((answer ≢ success) × IsAbsent a s mid)

  absent_by : (a : ℕ) (s : State) (code c : Answer) (mid : State) → code ≢ success → Answered code a (Register.Int (pos (answer_number code))) s c mid
      → number_of setting (world_of s) x ≡ None → Finds a s c mid
  absent_by a s code c mid ne h none = inr (λ e. ne (sym h.code_is ∙ e), record { code = pos (answer_number code); mid_is = h.state_is; none = none })

  item_by : (a : ℕ) (s : State) (c : Answer) (mid : State) (o : Object) → s.names the_name' ≡ Some o → (o.type == setting.int) ≡ true → (vs : Values) → o.values ≡ vs
      → option_map_or (λ (i : ℕ). refer a (path_from (Origin.Name the_name' i)) s) (index_below (count vs) (pos 0)) (fail a out_of_range s) ≡ Some (c, mid) → Finds a s c mid
  item_by a s c mid o there is nil values e =
      absent_by a s out_of_range c mid (λ q. cc) (answered out_of_range a (Register.Int (pos (answer_number out_of_range))) s c mid e)
      (ap (number_in setting.int) there ∙ ap (λ (b : Bool). if b then nth o.values 0 >>= int_in else None) is ∙ ap (λ (vs : Values). nth vs 0 >>= int_in) values)
  item_by a s c mid o there is (cons v vs) values e =
      let more : 0 < count (cons v vs) = omega arith in
      let is_more : nat_lt 0 (count (cons v vs)) ≡ true = lt-ltb 0 (count (cons v vs)) more in
      let f : refer a (place the_name') s ≡ Some (c, mid) =
      ap (λ (b : Bool). option_map_or (λ (i : ℕ). refer a (path_from (Origin.Name the_name' i)) s) (if b then Some 0 else None) (fail a out_of_range s)) (sym is_more) ∙ e in
      let h = answered success a (Register.Reference (place the_name')) s c mid f in
      inl (
        h.code_is,
        record {
          mid_is = h.state_is;
          typed = λ o' f. (
              let g : Some o ≡ Some o' = sym there ∙ f in
              ap (λ (y : Object). y.type == setting.int) (sym (Some_inj g)) ∙ is
              );
        },
      )

  item_some : (a : ℕ) (s : State) (c : Answer) (mid : State) (o : Object) → s.names the_name' ≡ Some o → (b : Bool) → (o.type == setting.int) ≡ b
      → (if b then option_map_or (λ (i : ℕ). refer a (path_from (Origin.Name the_name' i)) s) (index_below (count o.values) (pos 0)) (fail a out_of_range s) else fail a other_type s) ≡ Some (c, mid)
      → Finds a s c mid
  item_some a s c mid o there true is e = item_by a s c mid o there is o.values refl e
  item_some a s c mid o there false is e =
      absent_by a s other_type c mid (λ q. cc) (answered other_type a (Register.Int (pos (answer_number other_type))) s c mid e)
      (ap (number_in setting.int) there ∙ ap (λ (b : Bool). if b then nth o.values 0 >>= int_in else None) is)

  finds_item : (a : ℕ) (s : State) (c : Answer) (mid : State) (o : Option Object) → s.names the_name' ≡ o → item_of_object a the_name' setting.int (pos 0) o s ≡ Some (c, mid) → Finds a s c mid
  finds_item a s c mid None there e =
      absent_by a s absent c mid (λ q. cc) (answered absent a (Register.Int (pos (answer_number absent))) s c mid e) (ap (number_in setting.int) there)
  finds_item a s c mid (Some o) there e = item_some a s c mid o there (o.type == setting.int) refl e

  -- ---- KILL

  -- register a has whether there was an object, and now the name has no object
  pub record Destroys (a : ℕ) (s mid : State) : Type 0 where
    pub base : State
    pub code : ℤ
    pub registers : base.registers ≡ s.registers
    pub output : base.output ≡ s.output
    pub world : world_of base ≡ without setting.int the_name' (s.names the_name') (world_of s)
    pub mid_is : mid ≡ set_register base a (Register.Int code)

  destroys_some : (a : ℕ) (s : State) (c : Answer) (mid : State) (o : Object) → s.names the_name' ≡ Some o → (b : Bool) → (o.type == setting.int) ≡ b
      → (if b then give a (Register.Int (pos 1)) (record s { names = with_name s.names the_name' None }) else give a (Register.Int (pos 0)) s) ≡ Some (c, mid)
      → Destroys a s mid
  destroys_some a s c mid o there true is e = record {
    base = record s { names = with_name s.names the_name' None };
    code = pos 1;
    registers = refl;
    output = refl;
    world = sym (ap (λ (o : Option Object). without setting.int the_name' o (world_of s)) there
        ∙ ap (λ (b : Bool). if b then record (world_of s) { names = with_name (world_of s).names the_name' None } else world_of s) is);
    mid_is = (answered success a (Register.Int (pos 1)) (record s { names = with_name s.names the_name' None }) c mid e).state_is;
  }
  destroys_some a s c mid o there false is e = record {
    base = s;
    code = pos 0;
    registers = refl;
    output = refl;
    world = sym (ap (λ (o : Option Object). without setting.int the_name' o (world_of s)) there
        ∙ ap (λ (b : Bool). if b then record (world_of s) { names = with_name (world_of s).names the_name' None } else world_of s) is);
    mid_is = (answered success a (Register.Int (pos 0)) s c mid e).state_is;
  }

  destroys_by : (a : ℕ) (s : State) (c : Answer) (mid : State) (o : Option Object) → s.names the_name' ≡ o → destroy_object a the_name' setting.int o s ≡ Some (c, mid) → Destroys a s mid
  destroys_by a s c mid None there e = record {
    base = s;
    code = pos 0;
    registers = refl;
    output = refl;
    world = sym (ap (λ (o : Option Object). without setting.int the_name' o (world_of s)) there);
    mid_is = (answered success a (Register.Int (pos 0)) s c mid e).state_is;
  }
  destroys_by a s c mid (Some o) there e = destroys_some a s c mid o there (o.type == setting.int) refl e

  module _ (constants : List Constant) (i : Instruction) (s : State) (type : type_operand i.number ≡ setting.int)
      (constant : slice_get constants (constant_operand i.number) ≡ Some (syntax.Constant.Name the_name')) where
    the_name_is : (slice_get constants (constant_operand i.number) >>= λ (k : Constant). constant_name k (register s i.b)) ≡ Some the_name'
    the_name_is = ap (λ (o : Option Constant). o >>= λ (k : Constant). constant_name k (register s i.b)) constant

    pub finds : i.operation ≡ operation.Find → i.c ≡ 16 → (room : Bool) (c : Answer) (mid : State) → outcome constants i room s ≡ Some (c, mid) → Finds i.a s c mid
    unfolding effect
    finds is first room c mid e =
        let f : ((slice_get constants (constant_operand i.number) >>= λ (k : Constant). constant_name k (register s i.b)) >>= λ (n : List ℕ).
        integer_or (pos 0) i.c s >>= λ (y : ℤ). item_of_object i.a n (type_operand i.number) y (s.names n) s) ≡ Some (c, mid) =
        ap (λ (op : Operation). effect constants op i.a i.b i.c i.number room s) (sym is) ∙ e in
        finds_item i.a s c mid (s.names the_name') refl
        (ap (λ (t : ℕ). item_of_object i.a the_name' t (pos 0) (s.names the_name') s) (sym type)
        ∙ ap (λ (r : ℕ). integer_or (pos 0) r s >>= λ (y : ℤ). item_of_object i.a the_name' (type_operand i.number) y (s.names the_name') s) (sym first)
        ∙ ap (λ (o : Option (List ℕ)). o >>= λ (n : List ℕ). integer_or (pos 0) i.c s >>= λ (y : ℤ). item_of_object i.a n (type_operand i.number) y (s.names n) s) (sym the_name_is) ∙ f)

    pub finds_quiet : i.operation ≡ operation.Find → i.c ≡ 16 → Quiet constants i s
    finds_quiet is first = record {
      same = λ room c mid e. (elim (finds is first room c mid e) [
        | inl r ↦ ap (λ (t : State). t.output) r.1.mid_is
        | inr r ↦ ap (λ (t : State). t.output) r.1.mid_is
      ]);
      no_freeze = λ f. (let g : operation.Find ≡ operation.Freeze = sym is ∙ f in cc);
    }

    pub destroys : i.operation ≡ operation.Kill → (room : Bool) (c : Answer) (mid : State) → outcome constants i room s ≡ Some (c, mid) → Destroys i.a s mid
    unfolding effect
    destroys is room c mid e =
        let f : ((slice_get constants (constant_operand i.number) >>= λ (k : Constant). constant_name k (register s i.b)) >>= λ (n : List ℕ). destroy_object i.a n (type_operand i.number) (s.names n) s) ≡ Some (c, mid) =
        ap (λ (op : Operation). effect constants op i.a i.b i.c i.number room s) (sym is) ∙ e in
        destroys_by i.a s c mid (s.names the_name') refl
        (ap (λ (t : ℕ). destroy_object i.a the_name' t (s.names the_name') s) (sym type)
        ∙ ap (λ (o : Option (List ℕ)). o >>= λ (n : List ℕ). destroy_object i.a n (type_operand i.number) (s.names n) s) (sym the_name_is) ∙ f)

    pub kill_quiet : i.operation ≡ operation.Kill → Quiet constants i s
    kill_quiet is = record {
      same = λ room c mid e. (let d = destroys is room c mid e in ap (λ (t : State). t.output) d.mid_is ∙ d.output);
      no_freeze = λ f. (let g : operation.Kill ≡ operation.Freeze = sym is ∙ f in cc);
    }
