-- What registers are known to contain, and which numbers they have.
use Rattle.std.proofs.Common.{◌≡◌, ℕ, suc, ℤ, List, Bool, true, false, Option, Some, None, slice_get, ◌⊎◌, inl, inr, refl, sym, ◌∙◌, ap, subst}
use Rattle.std.specs.Prelude.{IfSome, not}
use Rattle.std.specs.Option.{option_map_or}
use Rattle.client_spec.specs.Syntax.{Instruction}
use Rattle.client_spec.specs.declared.table.Operation.{Operation}
use Rattle.client_spec.specs.Run.{Ending, finished, stuck}
use Rattle.client_spec.specs.Machine.{Register, State}
use Rattle.script_meaning.specs.declared.comparison.Comparison.{Comparison}
use Rattle.script_meaning.specs.declared.knowledge.Knowledge.{Knowledge}
use Rattle.script_meaning.specs.declared.terms.Term.{Term}
use Rattle.script_meaning.specs.Meaning.{Moment, Setting, with_variable, world_of, Stays, Sets}
use Rattle.script_meaning.specs.Following.{Registers, Held, Holds, Knows, HasValue, Extends, Tie}
use Rattle.script_meaning.specs.Comparing.{setting_of, texts_of, code_of, knowing, holding, Follows, IsAt, HoldsNumber, NumberIsAt, Tests}
use Rattle.script_meaning.proofs.SequenceLaws.{no_code, then_hidden, weaker}
use Rattle.script_meaning.proofs.TermLaws.{extends_keeps}

-- with more terms, the same is known of registers
pub knows_more : (setting : Setting) (old new : List Term) (registers : Registers) (m : Moment) (s : State) → Extends old new → Knows setting old registers m s → Knows setting new registers m s
knows_more setting old new registers m s more knows = record {
  count = knows.count;
  world = knows.world;
  each = λ r at there. let found = knows.each r at there in (found.0, extends_keeps setting m old new at found.0 more found.1, found.2);
}

-- a term has one number
pub one_value : (setting : Setting) (m : Moment) (terms : List Term) (at : ℕ) (k l : ℤ) → HasValue setting m terms at k → HasValue setting m terms at l → k ≡ l
one_value setting m terms at k l first second = ap (λ found. option_map_or (λ x. x) found k) (sym first ∙ second)

-- a register that contains a term has its number
pub number_held : (c : Comparison) (at after : ℕ) (held : Held) (knowledge : Knowledge) (term r : ℕ) (number : Moment → ℤ) → NumberIsAt c at after held knowledge term number
    → slice_get knowledge.registers r ≡ Some (Some term) → Follows c at after (holding held) Stays (HoldsNumber held r number)
number_held c at after held knowledge term r number found there =
    weaker (texts_of c) (code_of c) at after (holding held) (holding held) (λ m s. Holds held m s × knowing c knowledge m s) (HoldsNumber held r number) Stays
    (λ m s holds. holds) (λ m s both. has m s both.0 both.1) found.before
  where
    has : (m : Moment) (s : State) → Holds held m s → knowing c knowledge m s → HoldsNumber held r number m s
    has m s holds knows =
        let in_register = knows.each r term there in
        record {
          holds = holds;
          is = in_register.2 ∙ ap Register.Int (one_value (setting_of c) m knowledge.terms.list.items term in_register.0 (number m) in_register.1 (found.value m));
        }

-- a clause about the value in a `Some`, from two others
pub both_then : {X : Type 0} (r : Option X) (P Q R : X → Type 0) → IfSome r P → IfSome r Q → ((x : X) → P x → Q x → R x) → IfSome r R
both_then None P Q R p q f = p
both_then (Some x) P Q R p q f = f x p q

-- after hidden code, a term has this number
pub number_law : (c : Comparison) (at after : ℕ) (held : Held) (begun reached final : Knowledge) (term : ℕ) (number : Moment → ℤ)
    → ((setting : Setting) (m : Moment) (s : State) → Holds held m s → Knows setting begun.terms.list.items begun.registers m s)
    → Follows c at after (knowing c begun) Stays (knowing c reached)
    → Extends reached.terms.list.items final.terms.list.items → final.registers ≡ reached.registers
    → ((setting : Setting) (m : Moment) (s : State) → Knows setting final.terms.list.items final.registers m s → Holds held m s)
    → ((m : Moment) → HasValue (setting_of c) m final.terms.list.items term (number m))
    → NumberIsAt c at after held final term number
number_law c at after held begun reached final term number begins follows more same keeps is = record {
  before = weaker (texts_of c) (code_of c) at after (knowing c begun) (holding held) (knowing c reached) (λ m s. Holds held m s × knowing c final m s) Stays
      (λ m s holds. begins (setting_of c) m s holds) (λ m s knows. let now = known m s knows in (keeps (setting_of c) m s now, now)) follows;
  value = is;
}
  where
    known : (m : Moment) (s : State) → knowing c reached m s → knowing c final m s
    known m s knows = subst (λ registers. Knows (setting_of c) final.terms.list.items registers m s) (sym same)
        (knows_more (setting_of c) reached.terms.list.items final.terms.list.items reached.registers m s more knows)

-- an instruction whose register b has the number
pub test_law : (c : Comparison) (at after : ℕ) (held : Held) (knowledge : Knowledge) (term : ℕ) (number : Moment → ℤ) (op : Operation) (i : Instruction)
    → NumberIsAt c at after held knowledge term number → IsAt c after i → i.operation ≡ op → slice_get knowledge.registers i.b ≡ Some (Some term)
    → Tests c at (suc after) held op i number
test_law c at after held knowledge term number op i found there operates contains = record {
  start = after;
  before = number_held c at after held knowledge term i.b number found contains;
  there = there;
  operation = operates;
  after = refl;
}

-- before any hidden code
pub set_begins : (c : Comparison) (at : ℕ) (held : Held) (knowledge : Knowledge) → ((m : Moment) (s : State) → Holds held m s → knowing c knowledge m s)
    → Follows c at at (holding held) Stays (knowing c knowledge)
set_begins c at held knowledge begins =
    weaker (texts_of c) (code_of c) at at (knowing c knowledge) (holding held) (knowing c knowledge) (knowing c knowledge) Stays
    (λ m s holds. begins m s holds) (λ m s knows. knows)
    (no_code (texts_of c) (code_of c) at (knowing c knowledge) (λ m s knows. sym knows.world))

-- after one more piece of hidden code
pub set_goes_on : (c : Comparison) (at now after : ℕ) (held : Held) (old new : Knowledge) → Follows c at now (holding held) Stays (knowing c old)
    → Follows c now after (knowing c old) Stays (knowing c new) → Follows c at after (holding held) Stays (knowing c new)
set_goes_on c at now after held old new before step =
    then_hidden (texts_of c) (code_of c) at now after (holding held) (knowing c old) (knowing c new) Stays before step

-- Hidden code sets a variable if a register has its new number.
pub set_law : (c : Comparison) (at after : ℕ) (P Q R : Tie) (v : ℕ) (number : Moment → ℤ) → Follows c at after P Stays Q
    → ((m : Moment) (s : State) → Q m s → R (with_variable m v (number m)) s) → Follows c at after P (Sets v number) R
set_law c at after P Q R v number code becomes = record {
  code = code.code;
  roles = code.roles;
  spelled = code.spelled;
  simulates = record { each = λ m s s' n e p run. follow m s' e (code.simulates.each m s s' n e p run) };
}
  where
    follow : (m : Moment) (s' : State) (e : Ending) → (e ≡ stuck) ⊎ ((m' : Moment) × Stays m m' e × (m'.world ≡ world_of s') × (e ≡ finished → Q m' s'))
        → (e ≡ stuck) ⊎ ((m' : Moment) × Sets v number m m' e × (m'.world ≡ world_of s') × (e ≡ finished → R m' s'))
    follow m s' e (inl stays) = inl stays
    follow m s' e (inr (m', (same, ends), world, then)) =
        inr (with_variable m v (number m), (refl, ends), subst (λ (m : Moment). m.world ≡ world_of s') same world, λ finishes. becomes m s' (subst (λ m. Q m s') same (then finishes)))

-- a test that isn't false
pub not_false : (b : Bool) → false ≡ not b → b ≡ true
not_false true e = refl
not_false false e = e
