use Rattle.std.proofs.Common.{◌≡◌, ◌∷◌, [], List, ℕ, length, sym, ap, ◌∙◌, append-nil, arith}
use Rattle.client_spec.specs.Text.{words_of, instruction_words}
use Rattle.std.proofs.lemmas.Slice.Eq.{slice_eq-Decides}
use Rattle.std.proofs.lemmas.Bool.Decides.{Decides-eqb}
use Rattle.client_spec.proofs.Spelling.TextWordLaws.{tail_of}
use Rattle.client_text.proofs.Outcomes.{on_none}
use Rattle.client_text.proofs.ItemWords.{other_word, no_type, no_name, no_family, no_instruction}
use Rattle.client_text.proofs.item.Item.read_words.Goals as goal
use Rattle.client_text.proofs.item.Item.read_words.Goals.{then-eq+in_ok-read_type, else-eq+then-eq-2+in_ok-read_name, else-eq+else-eq-2+then-eq-3+in_ok-read_name-2, else-eq+else-eq-2+else-eq-3+in_ok-from_word+in_ok-read_instruction}

pub returns-in_err-read_name-clause-none : goal.returns-in_err-read_name-clause-none
returns-in_err-read_name-clause-none c =
    on_none c.from_residual-in_err-read_name.result _
    (no_name c.args.line.now c.in_ok-word.word.now _ (ap words_of (sym c.new-words.ensures) ∙ c.in_ok-word.ensures.found)
    (((slice_eq-Decides Decides-eqb _ _ c.eq-else-eq.result c.eq-else-eq.ensures).0 c.if-eq-2.true) ∙ c.as_slice-else-eq.ensures) (λ name short. c.in_err-read_name.ensures.none name [] short))

pub returns-in_err-read_name-2-clause-none : goal.returns-in_err-read_name-2-clause-none
returns-in_err-read_name-2-clause-none c =
    on_none c.from_residual-in_err-read_name-2.result _
    (no_family c.args.line.now c.in_ok-word.word.now _ (ap words_of (sym c.new-words.ensures) ∙ c.in_ok-word.ensures.found)
    (((slice_eq-Decides Decides-eqb _ _ c.eq-else-eq-2.result c.eq-else-eq-2.ensures).0 c.if-eq-3.true) ∙ c.as_slice-else-eq-2.ensures) (λ name short. c.in_err-read_name-2.ensures.none name [] short))

pub returns-in_err-read_instruction-clause-none : goal.returns-in_err-read_instruction-clause-none
returns-in_err-read_instruction-clause-none c =
    on_none c.from_residual-in_err-read_instruction.result _
    (no_instruction c.args.line.now c.in_ok-word.word.now _ c.in_ok-from_word.field-0 (ap words_of (sym c.new-words.ensures) ∙ c.in_ok-word.ensures.found)
    (other_word c.in_ok-word.word.now _ _ c.eq.result c.eq.ensures c.as_slice.ensures c.if-eq.false)
    (other_word c.in_ok-word.word.now _ _ c.eq-else-eq.result c.eq-else-eq.ensures c.as_slice-else-eq.ensures c.if-eq-2.false)
    (other_word c.in_ok-word.word.now _ _ c.eq-else-eq-2.result c.eq-else-eq-2.ensures c.as_slice-else-eq-2.ensures c.if-eq-3.false)
    c.in_ok-from_word.ensures.found (λ i same valid e. c.in_err-read_instruction.ensures.none i [] same valid (e ∙ sym (append-nil (instruction_words i)))))

-- if a word is left, the words aren't all read
some_word : (words : List (List ℕ)) (word : List ℕ) (rest : List (List ℕ)) → words ≡ word ∷ rest → words ≡ [] → ⊥
some_word words word rest e none = let l = ap length (sym e ∙ none) in absurd (omega arith)

pub returns-in-Some-clause-none : goal.returns-in-Some-clause-none
returns-in-Some-clause-none c item w valid spells =
    let line = c.args.line.now in
    let word = c.in_ok-word.word.now in
    let begins = ap words_of (sym c.new-words.ensures) ∙ c.in_ok-word.ensures.found in
    let more = c.in-Some.ensures.found in
    elim c.if-eq.branch [
      | then-eq+in_ok-read_type b ↦
          no_type line word _ begins ((slice_eq-Decides Decides-eqb _ _ c.eq.result c.eq.ensures).0 b.if-eq.true ∙ c.as_slice.ensures)
          (λ form e. some_word _ _ _ (sym (ap (λ words. words_of words.line.now) b.words-is) ∙ more) (b.in_ok-read_type.ensures.whole form e)) item w spells
      | else-eq+then-eq-2+in_ok-read_name b ↦
          no_name line word _ begins ((slice_eq-Decides Decides-eqb _ _ b.eq-else-eq.result b.eq-else-eq.ensures).0 b.if-eq-2.true ∙ b.as_slice-else-eq.ensures)
          (λ name short e. some_word _ _ _ (sym (ap (λ words. words_of words.line.now) b.words-is) ∙ more) (tail_of _ _ _ _ (sym b.in_ok-read_name.ensures.found ∙ e)).1) item w valid spells
      | else-eq+else-eq-2+then-eq-3+in_ok-read_name-2 b ↦
          no_family line word _ begins ((slice_eq-Decides Decides-eqb _ _ b.eq-else-eq-2.result b.eq-else-eq-2.ensures).0 b.if-eq-3.true ∙ b.as_slice-else-eq-2.ensures)
          (λ name short e. some_word _ _ _ (sym (ap (λ words. words_of words.line.now) b.words-is) ∙ more) (tail_of _ _ _ _ (sym b.in_ok-read_name-2.ensures.found ∙ e)).1) item w valid spells
      | else-eq+else-eq-2+else-eq-3+in_ok-from_word+in_ok-read_instruction b ↦
          no_instruction line word _ b.in_ok-from_word.field-0 begins
          (other_word word _ _ c.eq.result c.eq.ensures c.as_slice.ensures b.if-eq.false)
          (other_word word _ _ b.eq-else-eq.result b.eq-else-eq.ensures b.as_slice-else-eq.ensures b.if-eq-2.false)
          (other_word word _ _ b.eq-else-eq-2.result b.eq-else-eq-2.ensures b.as_slice-else-eq-2.ensures b.if-eq-3.false)
          b.in_ok-from_word.ensures.found
          (λ i same valid e. some_word _ _ _ (sym (ap (λ words. words_of words.line.now) b.words-is) ∙ more) (b.in_ok-read_instruction.ensures.whole i same e)) item w valid spells
    ]
