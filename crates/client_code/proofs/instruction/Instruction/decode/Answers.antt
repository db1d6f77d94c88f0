use Rattle.std.proofs.Common.{◌≡◌, ◌+◌, ◌*◌, ◌^◌, ◌<◌, ◌∷◌, slice_index_or, sym, ap, ◌∙◌, arith, w32, to_z, of_z}
use Rattle.std.proofs.lemmas.Int.{of_z-to_z}
use Rattle.client_spec.specs.Grammar.{word_bytes}
use Rattle.client_code.proofs.FileReadLaws.{eight}
use Rattle.client_code.proofs.instruction.Instruction.decode.Goals as goal

pub returns-clause-found : goal.returns-clause-found
returns-clause-found c =
    let bytes = c.args.bytes.now in
    let sum = slice_index_or bytes 4 0 + slice_index_or bytes 5 0 * 256 + slice_index_or bytes 6 0 * 65536 + slice_index_or bytes 7 0 * 16777216 in
    let f4 = c.type_inv.bytes 4 in
    let f5 = c.type_inv.bytes 5 in
    let f6 = c.type_inv.bytes 6 in
    let f7 = c.type_inv.bytes 7 in
    let small : sum < 2 ^ 32 = omega arith in
    let read : of_z w32 c.from_le_bytes-number.result ≡ sum = ap (of_z w32) c.from_le_bytes-number.ensures ∙ of_z-to_z w32 sum small in
    let number : of_z w32 (to_z w32 (of_z w32 c.from_le_bytes-number.result)) ≡ sum = ap (λ n. of_z w32 (to_z w32 n)) read ∙ of_z-to_z w32 sum small in
    let long = c.in-len8.len_at_least in
    let short = c.in-len8.len_below in
    eight bytes (of_z w32 (to_z w32 (of_z w32 c.from_le_bytes-number.result))) (omega arith) c.type_inv.bytes (number ∙ omega arith)
    ∙ ap (λ n. n ∷ slice_index_or bytes 1 0 ∷ slice_index_or bytes 2 0 ∷ slice_index_or bytes 3 0 ∷ word_bytes (of_z w32 (to_z w32 (of_z w32 c.from_le_bytes-number.result)))) (sym c.in_ok-operation.ensures.found)
