-- The first words of a line.
use Rattle.std.proofs.Common.{◌≡◌, ◌≢◌, ℕ, Bool, true, false, nat_eq, List, [], ◌∷◌, length, take, drop, ◌++◌, ◌≤◌, refl, sym, ap, ◌∙◌, subst, arith}
use Rattle.std.specs.Prelude.{codes, ◌<◌, All}
use Rattle.std.proofs.lemmas.List.{take-append-drop}
use Rattle.std.proofs.lemmas.Slice.Eq.{slice_eq-Decides}
use Rattle.std.proofs.lemmas.Bool.Decides.{Decides-eqb, not_from_Decides}
use Rattle.client_spec.specs.Types.{Form}
use Rattle.client_spec.specs.Syntax as code
use Rattle.client_spec.specs.declared.table.Operation.{Operation}
use Rattle.client_spec.specs.Syntax.{Constant}
use Rattle.client_spec.specs.Operations.{mnemonic}
use Rattle.client_spec.specs.Text.{Item, type_item, constant_item, instruction_item, type_word, type_words, instruction_words, Words, words_of, SpellsItem, SpellsText}
use Rattle.client_spec.proofs.Spelling.TextWordLaws.{tail_of, front, not_type, not_name, not_family, not_text}
use Rattle.client_spec.proofs.Spelling.OperationTableLaws.{same_by_word}
use Rattle.client_text.specs.Items.{IsWords, IsWritten, IsInSomeClient}

pub other_word : (word slice text : List ℕ) (r : Bool) → r ≡ lib.Pointwise.pointwise nat_eq word slice → slice ≡ text → r ≡ false → word ≢ text
other_word word slice text r e same f is = not_from_Decides r (slice_eq-Decides Decides-eqb word slice r e) f (is ∙ sym same)

-- no form with one part has another word than these five
pub no_container : (word : List ℕ) → word ≢ codes "vec" → word ≢ codes "list" → word ≢ codes "flat_map" → word ≢ codes "map" → word ≢ codes "own" → word ≢ codes "shared" → word ≢ codes "struct"
    → (form : Form) (part : ℕ) → type_words form ≡ word ∷ type_word part ∷ [] → ⊥
no_container word v l f m o h s Form.i64 part e = let l = ap length e in omega arith
no_container word v l f m o h s Form.str part e = let l = ap length e in omega arith
no_container word v l f m o h s (Form.vec U) part e = v (sym (tail_of _ _ _ _ e).0)
no_container word v l f m o h s (Form.list U) part e = l (sym (tail_of _ _ _ _ e).0)
no_container word v l f m o h s (Form.flat_map U) part e = f (sym (tail_of _ _ _ _ e).0)
no_container word v l f m o h s (Form.map U) part e = m (sym (tail_of _ _ _ _ e).0)
no_container word v l f m o h s (Form.own U) part e = o (sym (tail_of _ _ _ _ e).0)
no_container word v l f m o h s (Form.shared U) part e = h (sym (tail_of _ _ _ _ e).0)
no_container word v l f m o h s (Form.struct Us) part e = s (sym (tail_of _ _ _ _ e).0)

-- a line that begins with `type` and continues with no valid type
pub no_type : (line word : List ℕ) (left : Words) → words_of line ≡ word ∷ left → word ≡ codes "type" → ((form : Form) → left ≢ type_words form)
    → (item : Item) → IsWords item → SpellsItem line item → ⊥
no_type line word left e t none (type_item form) w spells = none form (tail_of word (codes "type") left (type_words form) (sym e ∙ spells)).1
no_type line word left e t none (constant_item (Constant.Text bytes)) w spells = w
no_type line word left e t none (constant_item (Constant.Name name)) w spells =
    let z = (tail_of 110 116 _ _ (sym (tail_of word (codes "name") left (name ∷ []) (sym e ∙ spells)).0 ∙ t)).0 in absurd (omega arith)
no_type line word left e t none (constant_item (Constant.Family prefix)) w spells =
    let z = (tail_of 102 116 _ _ (sym (tail_of word (codes "family") left (prefix ∷ []) (sym e ∙ spells)).0 ∙ t)).0 in absurd (omega arith)
no_type line word left e t none (instruction_item i) w spells =
    not_type i.operation (sym (tail_of word (mnemonic i.operation) left _ (sym e ∙ spells)).0 ∙ t)

-- a line that begins with `name` and continues with no valid name
pub no_name : (line word : List ℕ) (left : Words) → words_of line ≡ word ∷ left → word ≡ codes "name" → ((name : List ℕ) → length name ≤ 255 → left ≢ name ∷ [])
    → (item : Item) → IsWords item → IsWritten item → SpellsItem line item → ⊥
no_name line word left e n none (type_item form) w valid spells =
    let z = (tail_of 116 110 _ _ (sym (tail_of word (codes "type") left (type_words form) (sym e ∙ spells)).0 ∙ n)).0 in absurd (omega arith)
no_name line word left e n none (constant_item (Constant.Text bytes)) w valid spells = w
no_name line word left e n none (constant_item (Constant.Name name)) w valid spells =
    none name (let l = valid.1 in omega arith) (tail_of word (codes "name") left (name ∷ []) (sym e ∙ spells)).1
no_name line word left e n none (constant_item (Constant.Family prefix)) w valid spells =
    let z = (tail_of 102 110 _ _ (sym (tail_of word (codes "family") left (prefix ∷ []) (sym e ∙ spells)).0 ∙ n)).0 in absurd (omega arith)
no_name line word left e n none (instruction_item i) w valid spells =
    not_name i.operation (sym (tail_of word (mnemonic i.operation) left _ (sym e ∙ spells)).0 ∙ n)

-- a line that begins with `family` and continues with no valid name
pub no_family : (line word : List ℕ) (left : Words) → words_of line ≡ word ∷ left → word ≡ codes "family" → ((name : List ℕ) → length name ≤ 255 → left ≢ name ∷ [])
    → (item : Item) → IsWords item → IsWritten item → SpellsItem line item → ⊥
no_family line word left e f none (type_item form) w valid spells =
    let z = (tail_of 116 102 _ _ (sym (tail_of word (codes "type") left (type_words form) (sym e ∙ spells)).0 ∙ f)).0 in absurd (omega arith)
no_family line word left e f none (constant_item (Constant.Text bytes)) w valid spells = w
no_family line word left e f none (constant_item (Constant.Name name)) w valid spells =
    let z = (tail_of 110 102 _ _ (sym (tail_of word (codes "name") left (name ∷ []) (sym e ∙ spells)).0 ∙ f)).0 in absurd (omega arith)
no_family line word left e f none (constant_item (Constant.Family prefix)) w valid spells =
    none prefix (let l = valid.1 in omega arith) (tail_of word (codes "family") left (prefix ∷ []) (sym e ∙ spells)).1
no_family line word left e f none (instruction_item i) w valid spells =
    not_family i.operation (sym (tail_of word (mnemonic i.operation) left _ (sym e ∙ spells)).0 ∙ f)

-- a line that begins with a mnemonic and continues with no valid operands
pub no_instruction : (line word : List ℕ) (left : Words) (o : Operation) → words_of line ≡ word ∷ left → word ≢ codes "type" → word ≢ codes "name" → word ≢ codes "family" → mnemonic o ≡ word
    → ((i : code.Instruction) → i.operation ≡ o → IsInSomeClient i → mnemonic o ∷ left ≢ instruction_words i)
    → (item : Item) → IsWords item → IsWritten item → SpellsItem line item → ⊥
no_instruction line word left o e t n f same none (type_item form) w valid spells = t (tail_of word (codes "type") left (type_words form) (sym e ∙ spells)).0
no_instruction line word left o e t n f same none (constant_item (Constant.Text bytes)) w valid spells = w
no_instruction line word left o e t n f same none (constant_item (Constant.Name name)) w valid spells = n (tail_of word (codes "name") left (name ∷ []) (sym e ∙ spells)).0
no_instruction line word left o e t n f same none (constant_item (Constant.Family prefix)) w valid spells = f (tail_of word (codes "family") left (prefix ∷ []) (sym e ∙ spells)).0
no_instruction line word left o e t n f same none (instruction_item i) w valid spells =
    let first = (tail_of word (mnemonic i.operation) left _ (sym e ∙ spells)).0 in
    none i (same_by_word i.operation o (sym first ∙ sym same)) valid (ap (λ x. x ∷ left) same ∙ sym e ∙ spells)

-- a line that begins with `text ` and continues with no valid text
text_first : (spelling : List ℕ) → words_of (codes "text " ++ spelling) ≡ codes "text" ∷ words_of spelling
text_first spelling = refl

begins : (line spelling word : List ℕ) (rest : Words) → line ≡ codes "text " ++ spelling → words_of line ≡ word ∷ rest → codes "text" ≡ word
begins line spelling word rest e spells = (tail_of (codes "text") word (words_of spelling) rest (sym (text_first spelling) ∙ sym (ap words_of e) ∙ spells)).0

pub no_text : (line spelling : List ℕ) → line ≡ codes "text " ++ spelling → ((bytes : List ℕ) → length bytes ≤ 255 → All (λ b. b < 256) bytes → SpellsText bytes spelling → ⊥)
    → (item : Item) → IsWritten item → SpellsItem line item → ⊥
no_text line spelling e none (type_item form) valid spells =
    let z = (tail_of 101 121 _ _ (tail_of 116 116 _ _ (begins line spelling (codes "type") (type_words form) e spells)).1).0 in absurd (omega arith)
no_text line spelling e none (constant_item (Constant.Text bytes)) valid (body, same, spells) =
    none bytes valid.0 valid.1 (subst (SpellsText bytes) (front (codes "text ") (codes "text ") body spelling refl (sym same ∙ e)).1 spells)
no_text line spelling e none (constant_item (Constant.Name name)) valid spells =
    let z = (tail_of 116 110 _ _ (begins line spelling (codes "name") (name ∷ []) e spells)).0 in absurd (omega arith)
no_text line spelling e none (constant_item (Constant.Family prefix)) valid spells =
    let z = (tail_of 116 102 _ _ (begins line spelling (codes "family") (prefix ∷ []) e spells)).0 in absurd (omega arith)
no_text line spelling e none (instruction_item i) valid spells = not_text i.operation (sym (begins line spelling (mnemonic i.operation) _ e spells))

-- a line that begins with a prefix is the prefix and the rest
pub prefixed : (line prefix rest text : List ℕ) → prefix ≡ text → lib.Pointwise.pointwise nat_eq (take (length prefix) line) prefix ≡ true → rest ≡ drop (length prefix) line → line ≡ text ++ rest
prefixed line prefix rest text same test left =
    sym (take-append-drop (length prefix) line) ∙ ap (λ xs. xs ++ drop (length prefix) line) ((slice_eq-Decides Decides-eqb _ _ _ refl).0 test ∙ same) ∙ ap (λ xs. text ++ xs) (sym left)
