-- Code that writes output.
use Rattle.std.proofs.Common.{◌≡◌, ◌≢◌, ℕ, suc, ℤ, nat_abs, List, [], ◌∷◌, ◌++◌, Bool, Some, slice_get, ◌⊎◌, inl, inr, refl, sym, ◌∙◌, ap, subst, arith, append_assoc}
use Rattle.std.proofs.lemmas.List.{append_cancel_left, append-nil, length-append}
use Rattle.std.specs.Fmt.{signed_decimal}
use Rattle.std.specs.Option.{option_map_or}
use Rattle.client_spec.specs.Syntax.{Constant, Instruction}
use Rattle.client_spec.specs.Syntax as syntax
use Rattle.client_spec.specs.declared.table.Operation.TheVariants as operation
use Rattle.client_spec.specs.declared.table.Role.{Role}
use Rattle.client_spec.specs.Operations.{row_of}
use Rattle.client_spec.specs.Machine.{◌>>=◌, Register, State, register}
use Rattle.client_spec.specs.Answer.{Answer, success, integer_in, constant_text, write_out}
use Rattle.client_spec.specs.Effect.{effect, outcome}
use Rattle.client_spec.specs.Run.{Ending, finished, stopped, stuck}
use Rattle.client_spec.specs.Plain.{plain_machine}
use Rattle.script_meaning.specs.declared.comparison.Comparison.{Comparison}
use Rattle.script_meaning.specs.Meaning.{World, world_of, Moment, with_output, Meaning, Stays, Then, Writes}
use Rattle.script_meaning.specs.Following.{Held, Holds, Tie, IsCodeFor}
use Rattle.script_meaning.specs.Comparing.{texts_of, code_of, holding, Follows, HoldsNumber, Tests, PrintsText}
use Rattle.script_meaning.proofs.SequenceLaws.{no_code, then_code, hidden_then, OneDoes, one_code}

-- Code that does this also does what follows from it.
pub more_code : (constants : List Constant) (L : List Instruction) (at end : ℕ) (P Q : Tie) (does does' : Meaning) → ((m m' : Moment) (e : Ending) → does m m' e → does' m m' e)
    → IsCodeFor constants L at end P does Q → IsCodeFor constants L at end P does' Q
more_code constants L at end P Q does does' more code = record {
  code = code.code;
  roles = code.roles;
  spelled = code.spelled;
  simulates = record { each = λ m s s' n e p run. follow m s' e (code.simulates.each m s s' n e p run) };
}
  where
    follow : (m : Moment) (s' : State) (e : Ending) → (e ≡ stuck) ⊎ ((m' : Moment) × does m m' e × (m'.world ≡ world_of s') × (e ≡ finished → Q m' s'))
        → (e ≡ stuck) ⊎ ((m' : Moment) × does' m m' e × (m'.world ≡ world_of s') × (e ≡ finished → Q m' s'))
    follow m s' e (inl stays) = inl stays
    follow m s' e (inr (m', d, w, q)) = inr (m', more m m' e d, w, q)

-- ---- meanings

pub writes_nothing : (m m' : Moment) (e : Ending) → Stays m m' e → Writes (λ m. []) m m' e
writes_nothing m m' e (same, ends) = inl (same ∙ ap (λ bytes. record m { world = record m.world { output = bytes } }) (sym (append-nil m.world.output)), ends)

moved : (m : Moment) (a b : List ℕ) → with_output (with_output m a) b ≡ with_output m (a ++ b)
moved m a b = ap (λ bytes. record m { world = record m.world { output = bytes } }) (append_assoc m.world.output a b)

-- what is written of the second text, after the whole first one
after_first : (a b : List ℕ) (m mid m' : Moment) (e : Ending) → mid ≡ with_output m a → Writes (λ m. b) mid m' e → Writes (λ m. a ++ b) m m' e
after_first a b m mid m' e is (inl (whole, ends)) = inl (whole ∙ ap (λ mid. with_output mid b) is ∙ moved m a b, ends)
after_first a b m mid m' e is (inr (front, lost, cut, proper, part, ends)) =
    inr (a ++ front, lost, ap (λ bytes. a ++ bytes) cut ∙ sym (append_assoc a front lost), proper, part ∙ ap (λ mid. with_output mid front) is ∙ moved m a front, ends)

-- two texts one after the other
pub writes_both : (a b : List ℕ) (m m' : Moment) (e : Ending) → Then (Writes (λ m. a)) (Writes (λ m. b)) m m' e → Writes (λ m. a ++ b) m m' e
writes_both a b m m' e (inl (mid, inl (first, ends), second)) = after_first a b m mid m' e first second
writes_both a b m m' e (inl (mid, inr (front, lost, cut, proper, part, ends), second)) = absurd (let f : finished ≡ stopped = ends in cc)
writes_both a b m m' e (inr (inl (first, ends), unfinished)) = absurd (unfinished ends)
writes_both a b m m' e (inr (inr (front, lost, cut, proper, part, ends), unfinished)) =
    inr (front, lost ++ b, ap (λ bytes. bytes ++ b) cut ∙ append_assoc front lost b, simp length-append (omega arith), part, ends)

-- ---- instructions

world_after : (m : Moment) (s : State) (bytes : List ℕ) → m.world ≡ world_of s → (with_output m bytes).world ≡ world_of (record s { output = s.output ++ bytes })
world_after m s bytes same = ap (λ (w : World). record w { output = w.output ++ bytes }) same

module _ (constants : List Constant) (L : List Instruction) where
  -- an instruction that writes these bytes
  pub record Prints (i : Instruction) (bytes : Moment → List ℕ) (P Q : Tie) : Type 0 where
    pub world : (m : Moment) (s : State) → P m s → m.world ≡ world_of s
    pub row : (m : Moment) (s : State) (room : Bool) → P m s → outcome constants i room s ≡ write_out (bytes m) s
    pub plain : i.operation ≢ operation.Freeze
    pub role : (row_of i.operation).role ≡ Role.Plain
    pub kept : (m : Moment) (s : State) (text : List ℕ) → P m s → Q (with_output m text) (record s { output = s.output ++ text })

  pub one_prints : (i : Instruction) (bytes : Moment → List ℕ) (P Q : Tie) → Prints i bytes P Q → OneDoes constants L i P (Writes bytes) Q
  one_prints i bytes P Q prints = record { role = prints.role; row = row; stop = stop }
    where
      after : (m : Moment) (s s' : State) (answer : Answer) (room : Bool) → P m s → outcome constants i room s ≡ Some (answer, s') → record s { output = s.output ++ bytes m } ≡ s'
      after m s s' answer room p is = ap (λ o. option_map_or (λ found. found.1) o s) (sym (prints.row m s room p) ∙ is)

      row : (m : Moment) (s s' : State) (answer : Answer) → P m s → (plain_machine constants).row i s answer s' → (m' : Moment) × Writes bytes m m' finished × (m'.world ≡ world_of s') × Q m' s'
      row m s s' answer p (inl (room, is)) =
          let e = after m s s' answer room p is in
          (with_output m (bytes m), inl (refl, refl), world_after m s (bytes m) (prints.world m s p) ∙ ap world_of e, subst (λ s'. Q (with_output m (bytes m)) s') e (prints.kept m s (bytes m) p))
      row m s s' answer p (inr used) = absurd (prints.plain used.freezes)

      stop : (m : Moment) (s s' : State) → P m s → (plain_machine constants).stop i s s' → (m' : Moment) × Writes bytes m m' stopped × (m'.world ≡ world_of s')
      stop m s s' p cut =
          let e = after m s cut.whole success cut.room p cut.written in
          let split = append_cancel_left s.output (bytes m) (cut.front ++ cut.lost) (ap (λ s. s.output) e ∙ cut.bytes) in
          (with_output m cut.front, inr (cut.front, cut.lost, split, cut.proper, refl, refl), world_after m s cut.front (prints.world m s p) ∙ ap world_of (sym cut.taken))

-- what registers contain doesn't depend on the output
pub holds_output : (held : Held) (m : Moment) (s : State) (bytes : List ℕ) → Holds held m s → Holds held (with_output m bytes) (record s { output = s.output ++ bytes })
holds_output held m s bytes holds = record {
  count = holds.count;
  world = sym (world_after m s bytes (sym holds.world));
  each = holds.each;
}

text_row : (constants : List Constant) (i : Instruction) (text : List ℕ) (s : State) (room : Bool) → i.operation ≡ operation.OutConst
    → slice_get constants (nat_abs i.number) ≡ Some (syntax.Constant.Text text) → outcome constants i room s ≡ write_out text s
unfolding effect
text_row constants i text s room prints is =
    ap (λ op. effect constants op i.a i.b i.c i.number room s) prints ∙ ap (λ found. (found >>= constant_text) >>= λ bytes. write_out bytes s) is

-- OUTC is code that writes its text
pub text_law : (c : Comparison) (at : ℕ) (text : List ℕ) (held : Held) → PrintsText c at text → Follows c at (suc at) (holding held) (Writes (λ m. text)) (holding held)
text_law c at text held (i, there, prints, is, full) =
    one_code (texts_of c) (code_of c) at i (holding held) (holding held) (Writes (λ m. text)) there
    (one_prints (texts_of c) (code_of c) i (λ m. text) (holding held) (holding held) (record {
      world = λ m s holds. sym holds.world;
      row = λ m s room holds. text_row (texts_of c) i text s room prints is;
      plain = λ freezes. let e : operation.OutConst ≡ operation.Freeze = sym prints ∙ freezes in cc;
      role = ap (λ op. (row_of op).role) prints;
      kept = λ m s bytes holds. holds_output held m s bytes holds;
    }))

number_row : (constants : List Constant) (i : Instruction) (k : ℤ) (s : State) (room : Bool) → i.operation ≡ operation.OutInt → register s i.b ≡ Register.Int k
    → outcome constants i room s ≡ write_out (signed_decimal k ++ 10 ∷ []) s
unfolding effect
number_row constants i k s room prints is =
    ap (λ op. effect constants op i.a i.b i.c i.number room s) prints ∙ ap (λ x. integer_in x >>= λ k. write_out (signed_decimal k ++ 10 ∷ []) s) is

-- OUTI is code that writes the number in its register
pub line_law : (c : Comparison) (at after : ℕ) (held : Held) (i : Instruction) (number : Moment → ℤ) → Tests c at after held operation.OutInt i number
    → Follows c at after (holding held) (Writes (λ m. signed_decimal (number m) ++ 10 ∷ [])) (holding held)
line_law c at after held i number tests =
    subst (λ after. Follows c at after (holding held) does (holding held)) (sym tests.after)
    (hidden_then (texts_of c) (code_of c) at tests.start (suc tests.start) (holding held) (HoldsNumber held i.b number) (holding held) does tests.before
    (one_code (texts_of c) (code_of c) tests.start i (HoldsNumber held i.b number) (holding held) does tests.there
    (one_prints (texts_of c) (code_of c) i (λ m. signed_decimal (number m) ++ 10 ∷ []) (HoldsNumber held i.b number) (holding held) (record {
      world = λ m s holds. sym holds.holds.world;
      row = λ m s room holds. number_row (texts_of c) i (number m) s room tests.operation holds.is;
      plain = λ freezes. let e : operation.OutInt ≡ operation.Freeze = sym tests.operation ∙ freezes in cc;
      role = ap (λ op. (row_of op).role) tests.operation;
      kept = λ m s bytes holds. holds_output held m s bytes holds.holds;
    }))))
  where
    does : Meaning
    does = Writes (λ m. signed_decimal (number m) ++ 10 ∷ [])

-- no code writes nothing
pub no_text : (c : Comparison) (at : ℕ) (held : Held) → Follows c at at (holding held) (Writes (λ m. [])) (holding held)
no_text c at held =
    more_code (texts_of c) (code_of c) at at (holding held) (holding held) Stays (Writes (λ m. [])) writes_nothing
    (no_code (texts_of c) (code_of c) at (holding held) (λ m s holds. sym holds.world))

-- one more text
pub next_text : (c : Comparison) (at now : ℕ) (front text : List ℕ) (held : Held) → Follows c at now (holding held) (Writes (λ m. front)) (holding held)
    → PrintsText c now text → Follows c at (suc now) (holding held) (Writes (λ m. front ++ text)) (holding held)
next_text c at now front text held before prints =
    more_code (texts_of c) (code_of c) at (suc now) (holding held) (holding held) (Then (Writes (λ m. front)) (Writes (λ m. text))) (Writes (λ m. front ++ text)) (writes_both front text)
    (then_code (texts_of c) (code_of c) at now (suc now) (holding held) (holding held) (holding held) (Writes (λ m. front)) (Writes (λ m. text)) before (text_law c now text held prints))
