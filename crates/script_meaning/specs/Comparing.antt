-- What the parts of a comparison find: where code begins that does what a statement says.
use Rattle.std.specs.Prelude.{◌≡◌, ◌≢◌, ℕ, suc, ◌<◌, ℤ, pos, nat_abs, List, [], length, map, Bool, Some, None, slice_get, ◌⊎◌, ⊤}
use Rattle.client_spec.specs.Syntax.{Constant, Instruction}
use Rattle.client_spec.specs.Syntax as syntax
use Rattle.client_spec.specs.declared.table.Operation.{Operation}
use Rattle.client_spec.specs.declared.table.Operation.TheVariants as operation
use Rattle.client_spec.specs.Grammar.{mark}
use Rattle.client_spec.specs.Answer.{type_operand, constant_operand, give}
use Rattle.client_spec.specs.Effect.{effect, outcome}
use Rattle.client_spec.specs.Machine.{State, Register, register}
use Rattle.client_code.specs.Views.{instruction_of, constants_of}
use Rattle.script_meaning.specs.declared.comparison.Comparison.{Comparison}
use Rattle.script_meaning.specs.declared.knowledge.Knowledge.{Knowledge}
use Rattle.script_meaning.specs.Meaning.{Moment, Setting, name_of, combined, Meaning, Stays, Does}
use Rattle.script_meaning.specs.declared.program.Code.{Code}
use Rattle.script_meaning.specs.declared.program.Operator.{Operator}
use Rattle.script_meaning.specs.Following.{Held, Tie, HasValue, Knows, Holds, IsCodeFor}

abbrev pub setting_of : Comparison → Setting
setting_of c = record { int = c.int; objects = map (λ name. name.items) c.objects.now }

abbrev pub code_of : Comparison → List Instruction
code_of c = map instruction_of c.instructions.now

abbrev pub texts_of : Comparison → List Constant
texts_of c = constants_of c.constants.now

abbrev pub knowing : Comparison → Knowledge → Tie
knowing c knowledge = Knows (setting_of c) knowledge.terms.list.items knowledge.registers

abbrev pub holding : Held → Tie
holding held = Holds held

-- the instructions from `at` to before `end` do this
abbrev pub Follows : Comparison → (at end : ℕ) → Tie → Meaning → Tie → Type 0
Follows c at end P does Q = IsCodeFor (texts_of c) (code_of c) at end P does Q

-- an instruction at a position
abbrev pub IsAt : Comparison → ℕ → Instruction → Type 0
IsAt c at i = slice_get (code_of c) at ≡ Some i

-- the instruction is about the object
pub record IsAbout (c : Comparison) (i : Instruction) (x : ℕ) : Type 0 where
  pub type : type_operand i.number ≡ c.int
  pub constant : slice_get (texts_of c) (constant_operand i.number)
      ≡ Some (syntax.Constant.Name (name_of (setting_of c) x))
  pub by_name : i.b ≡ 16

-- the registers hold these variables, and one more register has this number
pub record HoldsNumber (held : Held) (r : ℕ) (number : Moment → ℤ) (m : Moment) (s : State) :
    Type 0 where
  pub holds : Holds held m s
  pub is : register s r ≡ Register.Int (number m)

-- After code that no one sees, a term has this number.
pub record NumberIsAt (c : Comparison) (at after : ℕ) (held : Held) (knowledge : Knowledge)
    (term : ℕ) (number : Moment → ℤ) : Type 0 where
  pub before : Follows c at after (holding held) Stays
      (λ m s. Holds held m s × knowing c knowledge m s)
  pub value : (m : Moment) →
      HasValue (setting_of c) m knowledge.terms.list.items term (number m)

-- After code that no one sees, there is an instruction with this operation, whose register b has
-- this number. `body` is the position after it.
pub record Tests (c : Comparison) (at body : ℕ) (held : Held) (op : Operation) (i : Instruction)
    (number : Moment → ℤ) : Type 0 where
  pub start : ℕ
  pub before : Follows c at start (holding held) Stays (HoldsNumber held i.b number)
  pub there : IsAt c start i
  pub operation : i.operation ≡ op
  pub after : body ≡ suc start

abbrev pub IfIsAt : Comparison → (at body : ℕ) → Held → (Moment → ℤ) → Type 0
IfIsAt c at body held number = (i : Instruction) × Tests c at body held operation.If i number

abbrev pub LoopIsAt : Comparison → (at body : ℕ) → Held → (r turns : ℕ) → (Moment → ℤ) → Type 0
LoopIsAt c at body held r turns number =
    (i : Instruction) × Tests c at body held operation.While i number × (i.b ≡ r)
    × (i.number ≡ pos turns)

-- an IF at a position tests a register
abbrev pub TestsRegister : Comparison → (at body r : ℕ) → Type 0
TestsRegister c at body r =
    (i : Instruction) × IsAt c at i × (i.operation ≡ operation.If) × (i.b ≡ r) × (body ≡ suc at)

-- an OUTC at a position prints a text, which isn't empty
abbrev pub PrintsText : Comparison → ℕ → List ℕ → Type 0
PrintsText c at text =
    (i : Instruction) × IsAt c at i × (i.operation ≡ operation.OutConst)
    × (slice_get (texts_of c) (nat_abs i.number) ≡ Some (syntax.Constant.Text text))
    × (0 < length text)

-- These instructions load a number from a place, work out another, and store it there.
pub record ChangesPlace (place : ℕ) (load compute store : Instruction) (op : Operation) :
    Type 0 where
  pub loads : load.operation ≡ operation.Load
  pub load_place : load.b ≡ place
  pub computes : compute.operation ≡ op
  pub result : compute.a ≡ load.a
  pub left : compute.b ≡ load.a
  pub stores : store.operation ≡ operation.Store
  pub store_place : store.b ≡ place
  pub store_number : store.c ≡ load.a

-- If the registers contain what is known, the instruction gives register a the number of a term.
abbrev pub GivesTerm : Knowledge → Knowledge → Instruction → ℕ → Type 0
GivesTerm old new i at = (setting : Setting) (m : Moment) (s : State) →
    Knows setting old.terms.list.items old.registers m s →
    (k : ℤ) × HasValue setting m new.terms.list.items at k
    × ((constants : List Constant) (room : Bool) →
    outcome constants i room s ≡ give i.a (Register.Int k) s)

-- After code that no one sees, there is ELSE or END. `after` is the position after it.
pub record Marks (c : Comparison) (at after : ℕ) (op : Operation) (P Q : Tie) : Type 0 where
  pub start : ℕ
  pub before : Follows c at start P Stays Q
  pub there : IsAt c start (mark op)
  pub follows : after ≡ suc start

-- a register that contains no variable
abbrev pub IsFree : Held → ℕ → Type 0
IsFree held r = slice_get held r ≡ Some None

-- After code that no one sees, there are FINDOR, STORE and ELSE.
pub record OpensStore (c : Comparison) (at other : ℕ) (held : Held) (x : ℕ) (number : Moment → ℤ) :
    Type 0 where
  pub start : ℕ
  pub find : Instruction
  pub store : Instruction
  pub before : Follows c at start (holding held) Stays (HoldsNumber held store.c number)
  pub at_find : IsAt c start find
  pub at_store : IsAt c (suc start) store
  pub at_else : IsAt c (suc (suc start)) (mark operation.Else)
  pub finds : find.operation ≡ operation.FindOrMake
  pub about : IsAbout c find x
  pub stores : store.operation ≡ operation.Store
  pub place : store.b ≡ find.a
  pub free : IsFree held find.a
  pub other_register : find.a ≢ store.c
  pub after : other ≡ suc (suc (suc start))

-- After code that no one sees, there are FINDOR, LOAD, an instruction that works out a number,
-- STORE and ELSE.
pub record OpensChange (c : Comparison) (at other : ℕ) (held : Held) (x : ℕ) (op : Operation)
    (number : Moment → ℤ) : Type 0 where
  pub start : ℕ
  pub find : Instruction
  pub load : Instruction
  pub compute : Instruction
  pub store : Instruction
  pub before : Follows c at start (holding held) Stays (HoldsNumber held compute.c number)
  pub at_find : IsAt c start find
  pub at_load : IsAt c (suc start) load
  pub at_compute : IsAt c (suc (suc start)) compute
  pub at_store : IsAt c (suc (suc (suc start))) store
  pub at_else : IsAt c (suc (suc (suc (suc start)))) (mark operation.Else)
  pub finds : find.operation ≡ operation.FindOrMake
  pub about : IsAbout c find x
  pub changes : ChangesPlace find.a load compute store op
  pub free : IsFree held find.a
  pub load_free : IsFree held load.a
  pub load_exists : load.a < 16
  pub apart : find.a ≢ load.a
  pub find_apart : find.a ≢ compute.c
  pub load_apart : load.a ≢ compute.c
  pub after : other ≡ suc (suc (suc (suc (suc start))))

-- After code that no one sees, there are FIND and LOAD, which gives register r the number. No
-- register contains the variable v, so it can be in r alone.
pub record OpensObject (c : Comparison) (at body : ℕ) (held : Held) (v x : ℕ) (r : ℕ) : Type 0 where
  pub start : ℕ
  pub find : Instruction
  pub load : Instruction
  pub before : Follows c at start (holding held) Stays (holding held)
  pub at_find : IsAt c start find
  pub at_load : IsAt c (suc start) load
  pub finds : find.operation ≡ operation.Find
  pub about : IsAbout c find x
  pub first : find.c ≡ 16
  pub loads : load.operation ≡ operation.Load
  pub place : load.b ≡ find.a
  pub gives : load.a ≡ r
  pub free : IsFree held find.a
  pub load_free : IsFree held r
  pub load_exists : r < 16
  pub new : (q : ℕ) → slice_get held q ≡ Some (Some v) → ⊥
  pub after : body ≡ suc (suc start)

-- a variable has a register
pub record HasPlace (held : Held) (r v : ℕ) : Type 0 where
  pub place : (slice_get held r ≡ Some None) ⊎ (slice_get held r ≡ Some (Some v))

-- the operation works out what the operator does
abbrev pub Computes : Operator → Operation → Type 0
Computes o op = (constants : List Constant) (a b c : ℕ) (number : ℤ) (room : Bool) (s : State)
    (x y : ℤ) → register s b ≡ Register.Int x → register s c ≡ Register.Int y
    → effect constants op a b c number room s ≡ give a (Register.Int (combined o x y)) s

-- the whole code does what the statements do
abbrev pub IsWhole : Comparison → Code → Type 0
IsWhole c code = Follows c 0 (length (code_of c)) (holding []) (Does (setting_of c) code) (λ m s. ⊤)
