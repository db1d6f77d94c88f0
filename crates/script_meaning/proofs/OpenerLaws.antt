-- Openers and loops, made of their parts.
use Rattle.std.proofs.Common.{◌≡◌, ◌≢◌, ℕ, suc, List, [], ◌∷◌, ◌++◌, drop, ◌⊎◌, inl, inr, refl, sym, ◌∙◌, ap, subst, append_assoc, append-nil}
use Rattle.client_spec.specs.Syntax.{Constant, Instruction, opener, loop, Statements, no_more, next}
use Rattle.client_spec.specs.declared.table.Operation.{Operation}
use Rattle.client_spec.specs.declared.table.Operation.TheVariants as operation
use Rattle.client_spec.specs.declared.table.Role.{Role}
use Rattle.client_spec.specs.Operations.{row_of}
use Rattle.client_spec.specs.Machine.{State}
use Rattle.client_spec.specs.Answer.{Answer, success, is_zero, already_exists, bad_alloc, absent, other_type, out_of_range, null_or_none, numbers_used_up}
use Rattle.client_spec.specs.Run.{Ending, finished, stuck, Way, picked, Performs, Run, RunOne}
use Rattle.client_spec.specs.Plain.{plain_machine}
use Rattle.client_spec.specs.Grammar.{mark, listing}
use Rattle.script_meaning.specs.declared.comparison.Comparison.{Comparison}
use Rattle.script_meaning.specs.Meaning.{Moment, Meaning, world_of}
use Rattle.script_meaning.specs.Following.{Tie, Simulates, HasRoles}
use Rattle.script_meaning.specs.Comparing.{code_of, texts_of, Follows, IsAt, Marks}
use Rattle.script_meaning.proofs.SequenceLaws.{then_hidden, without_end, drop_at}

-- the part of an opener or of a loop, to its mark
pub record IsPart (c : Comparison) (at other : ℕ) (op : Operation) (P : Tie) (does : Meaning) (Q : Tie) : Type 0 where
  pub code : Statements
  pub roles : HasRoles code
  pub spelled : drop at (code_of c) ≡ listing code ++ mark op ∷ drop other (code_of c)
  pub simulates : Simulates P does (Run State (plain_machine (texts_of c)) code) Q

pub part_law : (c : Comparison) (at end other : ℕ) (op : Operation) (P Q R : Tie) (does : Meaning) → Follows c at end P does Q → Marks c end other op Q R → IsPart c at other op P does R
part_law c at end other op P Q R does inside marked =
    let whole : Follows c at marked.start P does R = then_hidden (texts_of c) (code_of c) at end marked.start P Q R does inside marked.before in
    record {
      code = whole.code;
      roles = whole.roles;
      spelled = whole.spelled ∙ ap (λ x. listing whole.code ++ x) (drop_at (code_of c) marked.start (mark op) marked.there ∙ ap (λ k. mark op ∷ drop k (code_of c)) (sym marked.follows));
      simulates = whole.simulates;
    }

pub picked_part : {S : Type 0} (answer : Answer) (good bad : Way S) (s s' : S) (n : ℕ) (end : Ending) → picked answer good bad s s' n end
    → ((answer ≡ success) × good s s' n end) ⊎ ((answer ≢ success) × bad s s' n end)
picked_part success good bad s s' n end w = inl (refl, w)
picked_part is_zero good bad s s' n end w = inr (λ e. cc, w)
picked_part already_exists good bad s s' n end w = inr (λ e. cc, w)
picked_part bad_alloc good bad s s' n end w = inr (λ e. cc, w)
picked_part absent good bad s s' n end w = inr (λ e. cc, w)
picked_part other_type good bad s s' n end w = inr (λ e. cc, w)
picked_part out_of_range good bad s s' n end w = inr (λ e. cc, w)
picked_part null_or_none good bad s s' n end w = inr (λ e. cc, w)
picked_part numbers_used_up good bad s s' n end w = inr (λ e. cc, w)

-- what an opener does, if its parts do `one` and `two`
pub record OpenerDoes (constants : List Constant) (i : Instruction) (P Good Bad : Tie) (does one two : Meaning) : Type 0 where
  pub role : (row_of i.operation).role ≡ Role.Opener
  pub good : (m : Moment) (s s' : State) → P m s → (plain_machine constants).row i s success s'
      → (m1 : Moment) × Good m1 s' × ((m' : Moment) (end : Ending) → one m1 m' end → does m m' end)
  pub bad : (m : Moment) (s s' : State) (answer : Answer) → answer ≢ success → P m s → (plain_machine constants).row i s answer s'
      → (m1 : Moment) × Bad m1 s' × ((m' : Moment) (end : Ending) → two m1 m' end → does m m' end)
  pub stop : (m : Moment) (s s' : State) → P m s → (plain_machine constants).stop i s s' → ⊥

opener_simulates : (constants : List Constant) (i : Instruction) (P Good Bad Q : Tie) (does one two : Meaning) (first second : Way State) → OpenerDoes constants i P Good Bad does one two
    → Simulates Good one first Q → Simulates Bad two second Q → (m : Moment) (s s' : State) (n : ℕ) (end : Ending) → P m s → Performs State (plain_machine constants) i first second s s' n end
    → (end ≡ stuck) ⊎ ((m' : Moment) × does m m' end × (m'.world ≡ world_of s') × (end ≡ finished → Q m' s'))
opener_simulates constants i P Good Bad Q does one two first second opens f g m s s' n end p (inl (answer, mid, k, row, w, e)) =
    elim (picked_part answer first second mid s' k end w) [
      | inl h ↦
          let a = opens.good m s mid p (subst (λ x. (plain_machine constants).row i s x mid) h.0 row) in
          elim (f.each a.0 mid s' k end a.1 h.1) [ inl b ↦ inl b | inr b ↦ inr (b.0, a.2 b.0 end b.1, b.2, b.3) ]
      | inr h ↦
          let a = opens.bad m s mid answer h.0 p row in
          elim (g.each a.0 mid s' k end a.1 h.1) [ inl b ↦ inl b | inr b ↦ inr (b.0, a.2 b.0 end b.1, b.2, b.3) ]
    ]
opener_simulates constants i P Good Bad Q does one two first second opens f g m s s' n end p (inr (inl (stops, e, h))) = absurd (opens.stop m s s' p stops)
opener_simulates constants i P Good Bad Q does one two first second opens f g m s s' n end p (inr (inr (none, e, h, is))) = inl is

opener_spelled : (A B D : List Instruction) (e f : Instruction) → A ++ (e ∷ (B ++ (f ∷ D))) ≡ (((A ++ (e ∷ B)) ++ (f ∷ [])) ++ []) ++ D
opener_spelled A B D e f =
    let X : List Instruction = A ++ (e ∷ B) in
    sym (ap (λ x. x ++ D) (append-nil (X ++ (f ∷ []))) ∙ append_assoc X (f ∷ []) D ∙ append_assoc A (e ∷ B) (f ∷ D))

pub opener_law : (c : Comparison) (start body other after : ℕ) (i : Instruction) (P Good Bad Q : Tie) (does one two : Meaning) → IsAt c start i → body ≡ suc start
    → OpenerDoes (texts_of c) i P Good Bad does one two → IsPart c body other operation.Else Good one Q → IsPart c other after operation.End Bad two Q → Follows c start after P does Q
unfolding listing Run
opener_law c start body other after i P Good Bad Q does one two there follows opens first second =
    let L : List Instruction = code_of c in
    let runs : Way State = RunOne State (plain_machine (texts_of c)) (opener i first.code second.code) in
    record {
      code = next (opener i first.code second.code) no_more;
      roles = ((opens.role, first.roles, second.roles), tt);
      spelled = drop_at L start i there ∙ ap (λ k. i ∷ drop k L) (sym follows) ∙ ap (λ x. i ∷ x) (first.spelled
          ∙ ap (λ x. listing first.code ++ (mark operation.Else ∷ x)) second.spelled
          ∙ opener_spelled (listing first.code) (listing second.code) (drop after L) (mark operation.Else) (mark operation.End));
      simulates = record {
        each = λ m s s' n end p w. let h = without_end State runs s s' n end w in
            opener_simulates (texts_of c) i P Good Bad Q does one two _ _ opens first.simulates second.simulates m s s' h.0 end p h.1;
      };
    }

loop_spelled : (A D : List Instruction) (e : Instruction) → A ++ (e ∷ D) ≡ ((A ++ (e ∷ [])) ++ []) ++ D
loop_spelled A D e = sym (ap (λ x. x ++ D) (append-nil (A ++ (e ∷ []))) ∙ append_assoc A (e ∷ []) D)

-- a loop, if its iterations do this
pub loop_law : (c : Comparison) (start body after : ℕ) (i : Instruction) (P P' Q Q' : Tie) (does inside : Meaning) → IsAt c start i → body ≡ suc start → (row_of i.operation).role ≡ Role.Loop
    → (part : IsPart c body after operation.End P' inside Q') → Simulates P does (RunOne State (plain_machine (texts_of c)) (loop i part.code)) Q → Follows c start after P does Q
unfolding listing Run
loop_law c start body after i P P' Q Q' does inside there follows role part f =
    let L : List Instruction = code_of c in
    let runs : Way State = RunOne State (plain_machine (texts_of c)) (loop i part.code) in
    record {
      code = next (loop i part.code) no_more;
      roles = ((role, part.roles), tt);
      spelled = drop_at L start i there ∙ ap (λ k. i ∷ drop k L) (sym follows)
          ∙ ap (λ x. i ∷ x) (part.spelled ∙ loop_spelled (listing part.code) (drop after L) (mark operation.End));
      simulates = record { each = λ m s s' n end p w. let h = without_end State runs s s' n end w in f.each m s s' h.0 end p h.1 };
    }
