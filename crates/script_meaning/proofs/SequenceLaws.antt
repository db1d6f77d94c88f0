-- Code that follows code, and code of one instruction.
use Rattle.std.proofs.Common.{◌≡◌, ℕ, zero, suc, List, [], ◌∷◌, ◌++◌, drop, None, Some, slice_get, ◌⊎◌, inl, inr, refl, sym, ◌∙◌, ap, subst, append_assoc}
use Rattle.client_spec.specs.Syntax.{Constant, Instruction, plain, Statements, no_more, next}
use Rattle.client_spec.specs.Machine.{State}
use Rattle.client_spec.specs.Answer.{Answer, success, is_zero, already_exists, bad_alloc, absent, other_type, out_of_range, null_or_none, numbers_used_up}
use Rattle.client_spec.specs.Run as run
use Rattle.client_spec.specs.Run.{Ending, finished, stopped, stuck, Machine, Way, Nothing, picked, Run, RunOne, Performs}
use Rattle.client_spec.specs.Plain.{plain_machine}
use Rattle.client_spec.specs.declared.table.Role.{Role}
use Rattle.client_spec.specs.Operations.{row_of}
use Rattle.client_spec.specs.Grammar.{listing, listing_one}
use Rattle.client_spec.proofs.Runs.InterpreterStepLaws.{then_assoc, then_nothing}
use Rattle.script_meaning.specs.Meaning.{Moment, world_of, Meaning, Stays, Then}
use Rattle.script_meaning.specs.Following.{Tie, Simulates, IsCodeFor, HasRoles}

-- ---- code after code

unfoldable pub joined : Statements → Statements → Statements
joined no_more b = b
joined (next c cs) b = next c (joined cs b)

pub listing_joined : (a b : Statements) → listing (joined a b) ≡ listing a ++ listing b
unfolding joined listing
listing_joined no_more b = refl
listing_joined (next c cs) b = ap (λ x. listing_one c ++ x) (listing_joined cs b) ∙ sym (append_assoc (listing_one c) (listing cs) (listing b))

pub run_joined : (S : Type 0) (machine : Machine S) (a b : Statements) (s s' : S) (n : ℕ) (end : Ending) → Run S machine (joined a b) s s' n end
    → run.Then S (Run S machine a) (Run S machine b) s s' n end
unfolding joined Run
run_joined S machine no_more b s s' n end w = then_nothing S (Run S machine b) s s' n end w
run_joined S machine (next c cs) b s s' n end (inl (mid, k, l, x, y, e)) = then_assoc S (RunOne S machine c) (Run S machine cs) (Run S machine b) s s' n end (inl (mid, k, l, x, run_joined S machine cs b mid s' l end y, e))
run_joined S machine (next c cs) b s s' n end (inr (x, f)) = inr (inr (x, f), f)

pub roles_joined : (a b : Statements) → HasRoles a → HasRoles b → HasRoles (joined a b)
unfolding joined
roles_joined no_more b r q = q
roles_joined (next c cs) b r q = (r.0, roles_joined cs b r.1 q)

-- ---- one instruction

picked_same : {S : Type 0} (answer : Answer) (way : Way S) → picked answer way way ≡ way
picked_same success way = refl
picked_same is_zero way = refl
picked_same already_exists way = refl
picked_same bad_alloc way = refl
picked_same absent way = refl
picked_same other_type way = refl
picked_same out_of_range way = refl
picked_same null_or_none way = refl
picked_same numbers_used_up way = refl

-- nothing after a way
pub without_end : (S : Type 0) (way : Way S) (s s' : S) (n : ℕ) (end : Ending) → run.Then S way (Nothing S) s s' n end → (k : ℕ) × way s s' k end
without_end S way s s' n end (inl (mid, k, l, x, y, e)) = (k, subst (λ t. way s t k end) (sym y.same) (subst (way s mid k) (sym y.ends) x))
without_end S way s s' n end (inr (x, f)) = (n, x)

-- how an instruction without parts ends
abbrev pub Ends : (S : Type 0) (machine : Machine S) (i : Instruction) (s s' : S) (end : Ending) → Type 0
Ends S machine i s s' end = ((answer : Answer) × machine.row i s answer s' × (end ≡ finished)) ⊎ (machine.stop i s s' × (end ≡ stopped)) ⊎ (end ≡ stuck)

pub plain_ends : (S : Type 0) (machine : Machine S) (i : Instruction) (s s' : S) (n : ℕ) (end : Ending) → Performs S machine i (Nothing S) (Nothing S) s s' n end → Ends S machine i s s' end
plain_ends S machine i s s' n end (inl (answer, mid, k, row, w, e)) =
    let d : Nothing S mid s' k end = subst (λ (way : Way S). way mid s' k end) (picked_same answer (Nothing S)) w in
    inl (answer, subst (machine.row i s answer) (sym d.same) row, d.ends)
plain_ends S machine i s s' n end (inr (inl (stop, e, f))) = inr (inl (stop, f))
plain_ends S machine i s s' n end (inr (inr (none, e, f, g))) = inr (inr g)

pub drop_at : {A : Type 0} (L : List A) (at : ℕ) (i : A) → slice_get L at ≡ Some i → drop at L ≡ i ∷ drop (suc at) L
drop_at [] at i e = absurd (let f : None ≡ Some i = e in cc)
drop_at (x ∷ L) zero i e = let f : x ≡ i = cc in ap (λ y. y ∷ L) f
drop_at (x ∷ L) (suc at) i e = drop_at L at i e

-- one way after another
pub simulates_then : (P Q R : Tie) (first second : Meaning) (one two : Way State) → Simulates P first one Q → Simulates Q second two R → Simulates P (Then first second) (run.Then State one two) R
simulates_then P Q R first second one two f g = record { each = λ m s s' n e p w. by m s s' n e p w }
  where
    by : (m : Moment) (s s' : State) (n : ℕ) (e : Ending) → P m s → run.Then State one two s s' n e
        → (e ≡ stuck) ⊎ ((m' : Moment) × Then first second m m' e × (m'.world ≡ world_of s') × (e ≡ finished → R m' s'))
    by m s s' n e p (inl (t, k, l, x, y, h)) = elim (f.each m s t k finished p x) [
      | inl b ↦ absurd (let a : finished ≡ stuck = b in cc)
      | inr b ↦ elim (g.each b.0 t s' l e (b.3 refl) y) [ inl a ↦ inl a | inr a ↦ inr (a.0, inl (b.0, b.1, a.1), a.2, a.3) ]
    ]
    by m s s' n e p (inr (x, h)) = elim (f.each m s s' n e p x) [ inl b ↦ inl b | inr b ↦ inr (b.0, inr (b.1, h), b.2, λ a. absurd (h a)) ]

module _ (constants : List Constant) (L : List Instruction) where
  -- another meaning that the first one implies
  pub other_meaning : (at end : ℕ) (P Q : Tie) (does does' : Meaning) → ((m m' : Moment) (e : Ending) → does m m' e → does' m m' e)
      → IsCodeFor constants L at end P does Q → IsCodeFor constants L at end P does' Q
  other_meaning at end P Q does does' f code = record {
    code = code.code;
    roles = code.roles;
    spelled = code.spelled;
    simulates = record { each = λ m s s' n e p w. elim (code.simulates.each m s s' n e p w) [ inl g ↦ inl g | inr h ↦ inr (h.0, f m h.0 e h.1, h.2, h.3) ] };
  }

  -- no code
  pub no_code : (at : ℕ) (P : Tie) → ((m : Moment) (s : State) → P m s → m.world ≡ world_of s) → IsCodeFor constants L at at P Stays P
  unfolding listing Run
  no_code at P same = record {
    code = no_more;
    roles = tt;
    spelled = refl;
    simulates = record { each = λ m s s' n e p w. inr (m, (refl, w.ends), subst (λ t. m.world ≡ world_of t) (sym w.same) (same m s p), λ _. subst (P m) (sym w.same) p) };
  }

  -- one piece of code after another
  pub then_code : (at mid end : ℕ) (P Q R : Tie) (first second : Meaning) → IsCodeFor constants L at mid P first Q → IsCodeFor constants L mid end Q second R
      → IsCodeFor constants L at end P (Then first second) R
  then_code at mid end P Q R first second one two = record {
    code = joined one.code two.code;
    roles = roles_joined one.code two.code one.roles two.roles;
    spelled = one.spelled ∙ ap (λ x. listing one.code ++ x) two.spelled
        ∙ sym (append_assoc (listing one.code) (listing two.code) (drop end L)) ∙ ap (λ x. x ++ drop end L) (sym (listing_joined one.code two.code));
    simulates = record {
      each = λ m s s' n e p w. (simulates_then P Q R first second _ _ one.simulates two.simulates).each m s s' n e p
          (run_joined State (plain_machine constants) one.code two.code s s' n e w);
    };
  }

  stays_first : (does : Meaning) (m m' : Moment) (e : Ending) → Then Stays does m m' e → does m m' e
  stays_first does m m' e (inl (mid, w, x)) = subst (λ t. does t m' e) w.0 x
  stays_first does m m' e (inr (w, f)) = absurd (f w.1)

  stays_last : (does : Meaning) (m m' : Moment) (e : Ending) → Then does Stays m m' e → does m m' e
  stays_last does m m' e (inl (mid, x, w)) = subst (λ t. does m t e) (sym w.0) (subst (does m mid) (sym w.1) x)
  stays_last does m m' e (inr (x, f)) = x

  -- what no one sees before or after code makes no difference
  pub after_stays : (at end : ℕ) (P Q : Tie) (does : Meaning) → IsCodeFor constants L at end P (Then Stays does) Q → IsCodeFor constants L at end P does Q
  after_stays at end P Q does code = other_meaning at end P Q (Then Stays does) does (stays_first does) code

  pub before_stays : (at end : ℕ) (P Q : Tie) (does : Meaning) → IsCodeFor constants L at end P (Then does Stays) Q → IsCodeFor constants L at end P does Q
  before_stays at end P Q does code = other_meaning at end P Q (Then does Stays) does (stays_last does) code

  -- hidden code, and then code
  pub hidden_then : (at mid end : ℕ) (P Q R : Tie) (does : Meaning) → IsCodeFor constants L at mid P Stays Q → IsCodeFor constants L mid end Q does R → IsCodeFor constants L at end P does R
  hidden_then at mid end P Q R does one two = after_stays at end P R does (then_code at mid end P Q R Stays does one two)

  -- code, and then hidden code
  pub then_hidden : (at mid end : ℕ) (P Q R : Tie) (does : Meaning) → IsCodeFor constants L at mid P does Q → IsCodeFor constants L mid end Q Stays R → IsCodeFor constants L at end P does R
  then_hidden at mid end P Q R does one two = before_stays at end P R does (then_code at mid end P Q R does Stays one two)

  -- more before it, less after it
  pub weaker : (at end : ℕ) (P P' Q Q' : Tie) (does : Meaning) → ((m : Moment) (s : State) → P' m s → P m s) → ((m : Moment) (s : State) → Q m s → Q' m s)
      → IsCodeFor constants L at end P does Q → IsCodeFor constants L at end P' does Q'
  weaker at end P P' Q Q' does before after code = record {
    code = code.code;
    roles = code.roles;
    spelled = code.spelled;
    simulates = record { each = λ m s s' n e p w. elim (code.simulates.each m s s' n e (before m s p) w) [ inl g ↦ inl g | inr h ↦ inr (h.0, h.1, h.2, λ f. after h.0 s' (h.3 f)) ] };
  }

  -- what an instruction does in a state where the tie holds
  pub record OneDoes (i : Instruction) (P : Tie) (does : Meaning) (Q : Tie) : Type 0 where
    pub role : (row_of i.operation).role ≡ Role.Plain
    pub row : (m : Moment) (s s' : State) (answer : Answer) → P m s → (plain_machine constants).row i s answer s'
        → (m' : Moment) × does m m' finished × (m'.world ≡ world_of s') × Q m' s'
    pub stop : (m : Moment) (s s' : State) → P m s → (plain_machine constants).stop i s s' → (m' : Moment) × does m m' stopped × (m'.world ≡ world_of s')

  one_ends : (i : Instruction) (P Q : Tie) (does : Meaning) → OneDoes i P does Q → (m : Moment) (s s' : State) (e : Ending) → P m s
      → Ends State (plain_machine constants) i s s' e
      → (e ≡ stuck) ⊎ ((m' : Moment) × does m m' e × (m'.world ≡ world_of s') × (e ≡ finished → Q m' s'))
  one_ends i P Q does one m s s' e p (inl (answer, row, f)) = let h = one.row m s s' answer p row in inr (h.0, subst (does m h.0) (sym f) h.1, h.2, λ _. h.3)
  one_ends i P Q does one m s s' e p (inr (inl (stop, f))) =
      let h = one.stop m s s' p stop in inr (h.0, subst (does m h.0) (sym f) h.1, h.2, λ g. absurd (let k : stopped ≡ finished = sym f ∙ g in cc))
  one_ends i P Q does one m s s' e p (inr (inr f)) = inl f

  -- code of one instruction
  pub one_code : (at : ℕ) (i : Instruction) (P Q : Tie) (does : Meaning) → slice_get L at ≡ Some i → OneDoes i P does Q → IsCodeFor constants L at (suc at) P does Q
  unfolding listing Run
  one_code at i P Q does there one = record {
    code = next (plain i) no_more;
    roles = (one.role, tt);
    spelled = drop_at L at i there;
    simulates = record {
      each = λ m s s' n e p w. let h = without_end State (RunOne State (plain_machine constants) (plain i)) s s' n e w in
          one_ends i P Q does one m s s' e p (plain_ends State (plain_machine constants) i s s' h.0 e h.1);
    };
  }
