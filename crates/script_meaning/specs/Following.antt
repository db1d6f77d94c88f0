-- How a client's code follows a program: each of its runs does what the program may do.
--     Knows setting terms registers m s    what the registers contain, in terms of a moment
--     Holds held m s                       these registers contain these variables
--     Simulates P does way Q               each run of the way does this, from P to Q
--     IsCodeFor .. at end P does Q         the instructions from `at` to before `end` do this
use Rattle.std.specs.Prelude.{⊤, ◌≡◌, ℕ, ℤ, pos, List, [], ◌∷◌, ◌++◌, length, map, drop, Option, Some, slice_get, slice_index_or, ◌⊎◌}
use Rattle.client_spec.specs.Types.{Form, form_at}
use Rattle.client_spec.specs.Syntax.{Constant, Instruction, Statement, plain, opener, loop, Statements, no_more, next, Client}
use Rattle.client_spec.specs.declared.table.Role.{Role}
use Rattle.client_spec.specs.Operations.{row_of}
use Rattle.client_spec.specs.Machine.{Register, State, register}
use Rattle.client_spec.specs.Run.{Ending, finished, stuck, Way, Run}
use Rattle.client_spec.specs.Plain.{plain_machine}
use Rattle.client_spec.specs.Grammar.{listing, SpellsClient}
use Rattle.script_meaning.specs.declared.terms.Computation.{Computation}
use Rattle.script_meaning.specs.declared.terms.Computation.TheVariants as computation
use Rattle.script_meaning.specs.declared.terms.Term.{Term}
use Rattle.script_meaning.specs.declared.terms.Term.TheVariants as term
use Rattle.script_meaning.specs.declared.program.Operator.{Operator}
use Rattle.script_meaning.specs.declared.program.Operator.TheVariants as operator
use Rattle.script_meaning.specs.declared.program.Program.{Program}
use Rattle.script_meaning.specs.Meaning.{world_of, Moment, Setting, or_else, number_of, combined, Meaning, Does}

-- ---- terms

abbrev pub operator_of : Computation → Operator
operator_of computation.Add = operator.Add
operator_of computation.Subtract = operator.Subtract
operator_of computation.Multiply = operator.Multiply
operator_of computation.Less = operator.Less
operator_of computation.Equal = operator.Equal

module _ (setting : Setting) (m : Moment) where
  -- the number of a term, given the numbers of the terms before it
  abbrev pub term_value : List ℤ → Term → ℤ
  term_value earlier (term.Literal k) = k
  term_value earlier (term.Variable v) = m.variables v
  term_value earlier (term.Computed c i j) =
      combined (operator_of c) (slice_index_or earlier i (pos 0)) (slice_index_or earlier j (pos 0))
  term_value earlier (term.ObjectOr x i) =
      or_else (number_of setting m.world x) (slice_index_or earlier i (pos 0))

  unfoldable pub values_after : List ℤ → List Term → List ℤ
  values_after earlier [] = earlier
  values_after earlier (t ∷ ts) = values_after (earlier ++ term_value earlier t ∷ []) ts

  abbrev pub values_of : List Term → List ℤ
  values_of terms = values_after [] terms

  -- the term at a position has this number
  abbrev pub HasValue : List Term → ℕ → ℤ → Type 0
  HasValue terms at k = slice_get (values_of terms) at ≡ Some k

-- terms were only added
abbrev pub Extends : List Term → List Term → Type 0
Extends old new = (more : List Term) × (new ≡ old ++ more)

-- ---- what registers contain

-- the registers that contain terms, by the position of each
abbrev pub Registers : Type 0
Registers = List (Option ℕ)

-- at this state: the machine's world is the moment's, and these registers contain these terms
pub record Knows (setting : Setting) (terms : List Term) (registers : Registers) (m : Moment)
    (s : State) : Type 0 where
  pub count : length s.registers ≡ 16
  pub world : world_of s ≡ m.world
  pub each : (r at : ℕ) → slice_get registers r ≡ Some (Some at) →
      (k : ℤ) × HasValue setting m terms at k × (register s r ≡ Register.Int k)

-- the registers that contain variables, by the variable of each
abbrev pub Held : Type 0
Held = List (Option ℕ)

pub record Holds (held : Held) (m : Moment) (s : State) : Type 0 where
  pub count : length s.registers ≡ 16
  pub world : world_of s ≡ m.world
  pub each : (r v : ℕ) → slice_get held r ≡ Some (Some v) →
      register s r ≡ Register.Int (m.variables v)

-- ---- code

-- what is true of a moment and a state
abbrev pub Tie : Type 1
Tie = Moment → State → Type 0

-- Each run of the way from P, unless it goes wrong, does this, and if it finishes, Q is true.
pub record Simulates (P : Tie) (does : Meaning) (way : Way State) (Q : Tie) : Type 0 where
  pub each : (m : Moment) (s s' : State) (n : ℕ) (end : Ending) → P m s → way s s' n end →
      (end ≡ stuck) ⊎ ((m' : Moment) × does m m' end × (m'.world ≡ world_of s')
      × (end ≡ finished → Q m' s'))

abbrev mutual
  -- each instruction has the role of its statement
  pub HasRoles : Statements → Type 0
  HasRoles no_more = ⊤
  HasRoles (next c cs) = HasRole c × HasRoles cs

  pub HasRole : Statement → Type 0
  HasRole (plain i) = (row_of i.operation).role ≡ Role.Plain
  HasRole (opener i on_success on_code) =
      ((row_of i.operation).role ≡ Role.Opener) × HasRoles on_success × HasRoles on_code
  HasRole (loop i body) = ((row_of i.operation).role ≡ Role.Loop) × HasRoles body

-- The instructions from `at` to before `end` are code that does this.
pub record IsCodeFor (constants : List Constant) (instructions : List Instruction)
    (at end : ℕ) (P : Tie) (does : Meaning) (Q : Tie) : Type 0 where
  pub code : Statements
  pub roles : HasRoles code
  pub spelled : drop at instructions ≡ listing code ++ drop end instructions
  pub simulates : Simulates P does (Run State (plain_machine constants) code) Q

-- ---- clients

-- the first moment of a run: all variables are 0
abbrev pub first_moment : State → Moment
first_moment s = record { variables = λ v. pos 0; world = world_of s }

-- The client does what the program does: each of its runs, from any state with sixteen registers,
-- goes wrong or leaves the world as the program does. Accepted clients never go wrong.
pub record HasMeaning (setting : Setting) (program : Program) (client : Client) : Type 0 where
  pub int_type : (x : ℕ) (name : List ℕ) → slice_get setting.objects x ≡ Some name →
      form_at client.types setting.int ≡ Some Form.i64
  pub each : (s s' : State) (n : ℕ) (end : Ending) → length s.registers ≡ 16 →
      Run State (plain_machine client.constants) client.code s s' n end →
      (end ≡ stuck) ⊎ ((m' : Moment) × Does setting program.code (first_moment s) m' end
      × (m'.world ≡ world_of s'))

-- the client does what the program does, with some number for the type int
abbrev pub Means : Program → Client → Type 0
Means program client = (int : ℕ) × HasMeaning
    (record { int = int; objects = map (λ name. name.items) program.objects.items }) program client

-- the client in a file does what the program does
abbrev pub FileMeans : List ℕ → Program → Type 0
FileMeans file program = (client : Client) → SpellsClient file client → Means program client
