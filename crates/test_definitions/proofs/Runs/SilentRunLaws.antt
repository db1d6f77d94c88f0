-- Runs that print nothing, since no instruction that could print runs.
use Rattle.std.proofs.Common.{◌≡◌, ℕ, true, false, Bool, List, [], ◌++◌, length, Some, inl, inr, sym, ◌∙◌, ap, subst, arith}
use Rattle.std.proofs.lemmas.List.{length-append}
use Rattle.client_spec.specs.declared.table.Operation.{Operation}
use Rattle.client_spec.specs.Syntax.{Constant, Instruction, Statements, no_more, next, plain, opener}
use Rattle.client_spec.specs.Machine.{Names, Register, State}
use Rattle.client_spec.specs.Answer.{Answer, success, bad_alloc}
use Rattle.client_spec.specs.Effect.{outcome}
use Rattle.client_spec.specs.Run.{Machine, Way, Nothing, Performs, Run}
use Rattle.client_spec.specs.Plain.{CutShort}
use Rattle.client_spec.specs.Pictures.{PicturesTrees}
use Rattle.client_spec.specs.Ties.{writes_image}
use Rattle.client_spec.specs.OnImages.{Situation, RowWith, image_machine, Given}
use Rattle.client_spec.proofs.Runs.RunTripleLaws.{Triple, nothing, in_turn, success_part, performs}
use Rattle.test_definitions.proofs.Rows.KeptImageLaws.{reads_keep}
use Rattle.test_definitions.proofs.Rows.OneRow.{pair_is}

-- an output that had nothing to write isn't cut short
not_cut : (constants : List Constant) (i : Instruction) (s s' : State) (c : CutShort constants i s s') → s.output ≡ [] → c.whole.output ≡ [] → ⊥
not_cut constants i s s' c empty none =
    let all : [] ≡ c.front ++ c.lost = sym none ∙ c.bytes ∙ ap (λ out. out ++ (c.front ++ c.lost)) empty in
    let long : 0 ≡ length (c.front ++ c.lost) = ap length all in
    let sum = length-append c.front c.lost in
    let some = c.proper in
    omega (arith, long, sum, some)

module _ (constants : List Constant) (given : Given) (start : List ℕ) (names : Names) (pictured_names : (s : State) → PicturesTrees given.others s start → s.names ≡ names) where
  abbrev machine : Machine Situation
  machine = image_machine constants given.others given.moves

  -- on this image, with these registers, and nothing was printed
  pub record Has (rs : List Register) (x : Situation) : Type 0 where
    pub image : x.image ≡ start
    pub names_are : x.state.names ≡ names
    pub registers : x.state.registers ≡ rs
    pub output : x.state.output ≡ []

  abbrev pub Silent : Situation → Type 0
  Silent x = x.state.output ≡ []

  abbrev with_registers : State → List Register → State
  with_registers s rs = record s { names = names; registers = rs; output = [] }

  state_is : (rs : List Register) (x : Situation) → Has rs x → x.state ≡ with_registers x.state rs
  state_is rs x h =
      let s = x.state in
      ap (λ ns. record s { names = ns }) h.names_are ∙ ap (λ xs. record s { names = names; registers = xs }) h.registers ∙ ap (λ out. record s { names = names; registers = rs; output = out }) h.output

  pub names_on : (x : Situation) → x.image ≡ start → PicturesTrees given.others x.state x.image → x.state.names ≡ names
  names_on x same p = pictured_names x.state (subst (λ z. PicturesTrees given.others x.state z) same p)

  -- what isn't FREEZE has a row of the effect
  row_of_effect : (i : Instruction) (bytes : List ℕ) (s : State) (answer : Answer) (s' : State) → (i.operation ≡ Operation.Freeze → ⊥) → RowWith constants i bytes s answer s'
      → (room : Bool) × (outcome constants i room s ≡ Some (answer, s'))
  row_of_effect i bytes s answer s' other (inl w) = w
  row_of_effect i bytes s answer s' other (inr w) = absurd (other w.0.freezes)

  at_registers : (i : Instruction) (room : Bool) (rs : List Register) (x : Situation) (answer : Answer) (t : State) → Has rs x → outcome constants i room x.state ≡ Some (answer, t)
      → outcome constants i room (with_registers x.state rs) ≡ Some (answer, t)
  at_registers i room rs x answer t h e = subst (λ z. outcome constants i room z ≡ Some (answer, t)) (state_is rs x h) e

  -- ---- an instruction that reads

  -- it succeeds, and changes only registers
  abbrev pub Reads : Instruction → List Register → List Register → Type 0
  Reads i rs qs = (room : Bool) (s : State) → outcome constants i room (with_registers s rs) ≡ Some (success, with_registers s qs)

  module _ (i : Instruction) (rs qs : List Register) (other : i.operation ≡ Operation.Freeze → ⊥) (only_reads : writes_image i.operation ≡ false) (reads : Reads i rs qs) where
    read_row : (x : Situation) (answer : Answer) (y : Situation) → Has rs x → machine.row i x answer y → (answer ≡ success) × Has qs y
    read_row x answer y h row =
        let o = row_of_effect i x.image x.state answer y.state other row.row in
        let e = pair_is success answer (with_registers x.state qs) y.state (sym (reads o.0 x.state) ∙ at_registers i o.0 rs x answer y.state h o.1) in
        let same = row.ties.image_kept (reads_keep i.operation only_reads answer) ∙ h.image in
        (sym e.0, record { image = same; names_are = names_on y same row.after; registers = sym (ap (λ (z : State). z.registers) e.1); output = sym (ap (λ (z : State). z.output) e.1) })

    read_stop : (x y : Situation) → Has rs x → machine.stop i x y → Silent y
    read_stop x y h stop =
        let c = stop.cut in
        let e = pair_is success success (with_registers x.state qs) c.whole (sym (reads c.room x.state) ∙ at_registers i c.room rs x success c.whole h c.written) in
        absurd (not_cut constants i x.state y.state c h.output (sym (ap (λ (z : State). z.output) e.1)))

    read_performs : (B : Situation → Type 0) (good bad : Way Situation) → Triple Situation (Has qs) good B Silent → Triple Situation (Has rs) (Performs Situation machine i good bad) B Silent
    read_performs B good bad t = performs Situation machine (Has rs) (λ answer x. (answer ≡ success) × Has qs x) B Silent i good bad read_row (success_part Situation (Has qs) B Silent good bad t) read_stop (λ x none. none)

    pub reading_first : (rest : Statements) → Triple Situation (Has qs) (Run Situation machine rest) Silent Silent → Triple Situation (Has rs) (Run Situation machine (next (plain i) rest)) Silent Silent
    unfolding Run
    reading_first rest t = in_turn Situation (Has rs) (Has qs) Silent Silent _ _ (read_performs (Has qs) (Nothing Situation) (Nothing Situation) (nothing Situation (Has qs) Silent)) t

    pub opened_by_reading : (good bad : Statements) → Triple Situation (Has qs) (Run Situation machine good) Silent Silent → Triple Situation (Has rs) (Run Situation machine (next (opener i good bad) no_more)) Silent Silent
    unfolding Run
    opened_by_reading good bad t = in_turn Situation (Has rs) Silent Silent Silent _ _ (read_performs Silent (Run Situation machine good) (Run Situation machine bad) t) (nothing Situation Silent Silent)

  -- ---- an instruction that may need memory, and isn't denied it

  -- it succeeds if there is room, and prints nothing
  pub record Needs (i : Instruction) (rs : List Register) : Type 0 where
    pub after : State → State
    pub succeeds : (s : State) → outcome constants i true (with_registers s rs) ≡ Some (success, after s)
    pub silent : (s : State) → (after s).output ≡ []
    pub refused : State → State
    pub fails : (s : State) → outcome constants i false (with_registers s rs) ≡ Some (bad_alloc, refused s)

  module _ (i : Instruction) (rs : List Register) (other : i.operation ≡ Operation.Freeze → ⊥) (needs : Needs i rs) (not_denied : (x y : Situation) → Has rs x → machine.row i x bad_alloc y → ⊥) where
    made : (room : Bool) (x : Situation) (answer : Answer) (t : State) → Has rs x → (answer ≡ bad_alloc → ⊥) → outcome constants i room x.state ≡ Some (answer, t) → (answer ≡ success) × (t.output ≡ [])
    made true x answer t h had_room e =
        let f = pair_is success answer (needs.after x.state) t (sym (needs.succeeds x.state) ∙ at_registers i true rs x answer t h e) in
        (sym f.0, sym (ap (λ (z : State). z.output) f.1) ∙ needs.silent x.state)
    made false x answer t h had_room e =
        absurd (had_room (sym (pair_is bad_alloc answer (needs.refused x.state) t (sym (needs.fails x.state) ∙ at_registers i false rs x answer t h e)).0))

    need_row : (x : Situation) (answer : Answer) (y : Situation) → Has rs x → machine.row i x answer y → (answer ≡ success) × Silent y
    need_row x answer y h row =
        let o = row_of_effect i x.image x.state answer y.state other row.row in
        made o.0 x answer y.state h (λ e. not_denied x y h (subst (λ a. machine.row i x a y) e row)) o.1

    need_stop : (x y : Situation) → Has rs x → machine.stop i x y → Silent y
    need_stop x y h stop =
        let c = stop.cut in
        absurd (not_cut constants i x.state y.state c h.output (made c.room x success c.whole h (λ e. cc) c.written).1)

    pub opened_by_need : (bad : Statements) → Triple Situation (Has rs) (Run Situation machine (next (opener i no_more bad) no_more)) Silent Silent
    unfolding Run
    opened_by_need bad =
        in_turn Situation (Has rs) Silent Silent Silent _ _
        (performs Situation machine (Has rs) (λ answer x. (answer ≡ success) × Silent x) Silent Silent i (Nothing Situation) (Run Situation machine bad) need_row
        (success_part Situation Silent Silent Silent (Nothing Situation) (Run Situation machine bad) (nothing Situation Silent Silent)) need_stop (λ x none. none))
        (nothing Situation Silent Silent)
