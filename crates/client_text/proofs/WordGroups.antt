-- The words of an instruction in groups: one for each operand, then one for the number.
use Rattle.std.proofs.Common.{◌≡◌, ℕ, ℤ, pos, negsuc, ◌<◌, ◌≤◌, ◌/◌, ◌%◌, Option, Some, None, IfNone, FitsSigned, List, [], ◌∷◌, ◌++◌, length, sym, ap, ◌∙◌, subst, arith, append_assoc, append-nil}
use Rattle.std.specs.Prelude.{is_some}
use Rattle.std.specs.Int.{w32}
use Rattle.client_spec.specs.Types.{Table}
use Rattle.client_spec.specs.declared.table.Operation.{Operation}
use Rattle.client_spec.specs.declared.table.Operand.{Operand}
use Rattle.client_spec.specs.declared.table.Operand.TheVariants as operand
use Rattle.client_spec.specs.declared.table.Number.{Number}
use Rattle.client_spec.specs.declared.table.Number.TheVariants as number
use Rattle.client_spec.specs.declared.table.Row.{Row}
use Rattle.client_spec.specs.Syntax.{Constant, Instruction}
use Rattle.client_spec.specs.Operations.{mnemonic, row_of}
use Rattle.client_spec.specs.Grammar.{IsNumber}
use Rattle.client_spec.specs.Text.{Words, operand_words, number_words, instruction_words, type_word, constant_word}
use Rattle.client_spec.proofs.Spelling.TextWordLaws.{tail_of}

-- if one of two calls that succeed together returns None, the other's reason applies
pub none_given : {A B : Type 0} (r : Option A) (s : Option B) (P Q : Type 0) → is_some s ≡ is_some r → IfNone r P → (P → Q) → IfNone s Q
none_given r (Some y) P Q same none f = tt
none_given None None P Q same none f = f none
none_given (Some x) None P Q same none f = cc

-- words that don't begin with a type's and a name's word are no number of both
pub no_typed_name : (kind : Number) → kind ≡ number.TypedName → (words : Words) → ((t k : ℕ) (rest : Words) → t < 256 → k < 256 → words ≡ type_word t ∷ constant_word k ∷ rest → ⊥)
    → (types : Table) (constants : List Constant) (b : ℕ) (n : ℤ) (rest : Words) → length types ≤ 32 → length constants ≤ 256 → FitsSigned w32 n → IsNumber types constants b kind n
    → words ≡ number_words kind n ++ rest → ⊥
no_typed_name number.TypedName is words none types constants b (pos n) rest few names fits right same = none (n / 256) (n % 256) rest (omega (arith, right.0)) (omega arith) same
no_typed_name number.TypedName is words none types constants b (negsuc n) rest few names fits right same = right
no_typed_name number.Unused is words none types constants b n rest few names fits right same = cc
no_typed_name number.Any is words none types constants b n rest few names fits right same = cc
no_typed_name number.Turns is words none types constants b n rest few names fits right same = cc
no_typed_name number.TypeId is words none types constants b n rest few names fits right same = cc
no_typed_name number.Text is words none types constants b n rest few names fits right same = cc

-- the words after an operand don't depend on how it was read
pub past_operand : (form : Operand) (m n : ℕ) (u v : Words) → operand_words form m ++ u ≡ operand_words form n ++ v → u ≡ v
past_operand operand.Unused m n u v e = e
past_operand operand.Register m n u v e = (tail_of _ _ u v e).1
past_operand operand.Optional m n u v e = (tail_of _ _ u v e).1

pub past_number : (form : Number) (m n : ℤ) (u v : Words) → number_words form m ++ u ≡ number_words form n ++ v → u ≡ v
past_number number.Unused m n u v e = e
past_number number.Any m n u v e = (tail_of _ _ u v e).1
past_number number.Turns m n u v e = (tail_of _ _ u v e).1
past_number number.TypeId m n u v e = (tail_of _ _ u v e).1
past_number number.Text m n u v e = (tail_of _ _ u v e).1
past_number number.TypedName m n u v e = (tail_of _ _ u v (tail_of _ _ _ _ e).1).1

-- the groups of an instruction by a row, and the words after them
abbrev pub groups : Row → Instruction → Words → Words
groups row i rest = operand_words row.a i.a ++ (operand_words row.b i.b ++ (operand_words row.c i.c ++ (number_words row.number i.number ++ rest)))

pub grouped : (o : Operation) (row : Row) → row ≡ row_of o → (words rest : Words) (i : Instruction) → i.operation ≡ o → mnemonic o ∷ words ≡ instruction_words i ++ rest → words ≡ groups row i rest
grouped o row is words rest i by e =
    let r = row_of i.operation in
    let a = operand_words r.a i.a in
    let b = operand_words r.b i.b in
    let c = operand_words r.c i.c in
    let n = number_words r.number i.number in
    let tail = (tail_of (mnemonic o) (mnemonic i.operation) words ((((a ++ b) ++ c) ++ n) ++ rest) e).1 in
    let laid : words ≡ groups (row_of i.operation) i rest = tail ∙ append_assoc ((a ++ b) ++ c) n rest ∙ append_assoc (a ++ b) c (n ++ rest) ∙ append_assoc a b (c ++ (n ++ rest)) in
    subst (λ (row : Row). words ≡ groups row i rest) (ap row_of by ∙ sym is) laid

pub grouped_alone : (o : Operation) (row : Row) → row ≡ row_of o → (words : Words) (i : Instruction) → i.operation ≡ o → mnemonic o ∷ words ≡ instruction_words i → words ≡ groups row i []
grouped_alone o row is words i by e = grouped o row is words [] i by (e ∙ sym (append-nil (instruction_words i)))

-- instructions with the same operation have the same row
pub by_row : (o : Operation) (row : Row) → row ≡ row_of o → (i : Instruction) → i.operation ≡ o → row_of i.operation ≡ row
by_row o row is i by = ap row_of by ∙ sym is
