-- The code of a client encodes instructions, so they can be decoded without tests.
use Rattle.std.proofs.Common.{◌≡◌, ℕ, ◌+◌, ◌*◌, ◌<◌, ◌≤◌, List, length, take, drop, refl, sym, ap, ◌∙◌, subst, arith}
use denote.Struct.Props.{props}
use Rattle.std.proofs.Math.Logic.{∥∥₁_elim}
use Rattle.seg_spec.specs.Bytes.{slice}
use Rattle.client_spec.specs.Syntax.{Client, Instruction}
use Rattle.client_spec.specs.Grammar.{listing, instruction_bytes, SpellsClient}
use Rattle.client_spec.proofs.Spelling.OperationTableLaws.{number_range}
use Rattle.client_code.specs.declared.client.Client as program
use Rattle.client_code.specs.Files.{code_place}
use Rattle.client_code.specs.Operands.{HasOperands, IsSpelling}
use Rattle.client_code.proofs.Whole.{instruction_there}

abbrev SpelledAt : List ℕ → ℕ → Type 0
SpelledAt file place = (place + 8 ≤ length file) × IsSpelling (take 8 (drop place file))

spelling : (j : Instruction) → HasOperands j → IsSpelling (instruction_bytes j)
spelling j h = let number = number_range j.operation in (refl, number.0, number.1, h.0, h.1, h.2)

spelled_in : (file : List ℕ) (tree : Client) → SpellsClient file tree → (i place : ℕ) → i < length (listing tree.code) → place ≡ code_place tree + 8 * i
    → SpelledAt file place
unfolding slice
spelled_in file tree spells i place h e =
    let there = instruction_there file tree spells i h in
    let same : take 8 (drop place file) ≡ instruction_bytes there.0 = ap (λ n. take 8 (drop n file)) e ∙ there.5 in
    (let room = there.4 in omega arith, subst IsSpelling (sym same) (spelling there.0 there.3))

-- the 8 bytes of each instruction are well-formed
pub spelled_at : (client : program.Client) (i : ℕ) → i < client.header.instructions → SpelledAt client.file.now (client.code + 8 * i)
spelled_at client i h =
    ∥∥₁_elim client.spelled (hlevel props) (λ found.
    let placed = client.placed found.0 found.1 in
    spelled_in client.file.now found.0 found.1 i (client.code + 8 * i) (let n = placed.2 in omega arith) (ap (λ n. n + 8 * i) placed.3))
