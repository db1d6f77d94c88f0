use Rattle.std.proofs.Common.{◌≡◌, ◌+◌, ◌-◌, ◌*◌, ◌<◌, ◌≤◌, length, take, drop, ap, sym, ◌∙◌, subst, arith, Some}
use Rattle.client_spec.specs.Grammar.{listing}
use Rattle.seg_spec.specs.Bytes.{slice}
use Rattle.client_code.specs.Operands.{IsSpelling}
use Rattle.client_code.proofs.CodeSpellingLaws.{spelled_at}
use Rattle.client_code.proofs.Whole.{same_instruction, past_instructions}
use Rattle.client_code.proofs.client.Client.instruction.Goals as goal

pub returns-then-i-self : goal.returns-then-i-self
returns-then-i-self c tree spells =
    let placed = c.args.self.now.placed tree spells in
    sym (past_instructions (listing tree.code) c.args.i (let n = placed.2 in let t = c.if-i-self.true in omega arith))

pub slice_bounds-of_bytes-end : goal.slice_bounds-of_bytes-end
slice_bounds-of_bytes-end c =
    let there = (spelled_at c.args.self.now c.args.i (let f = c.if-i-self.false in omega arith)).0 in
    let place = c.place_of-place.ensures in
    let fits : c.place_of-place.result + 8 ≤ length c.args.self.now.file.now = omega arith in
    fits

pub of_bytes-requires : goal.of_bytes-requires
of_bytes-requires c =
    let there = (spelled_at c.args.self.now c.args.i (let f = c.if-i-self.false in omega arith)).1 in
    let eight : c.place_of-place.result + 8 - c.place_of-place.result ≡ 8 = omega arith in
    let file = c.args.self.now.file.now in
    subst (λ n. IsSpelling (take n (drop c.place_of-place.result file))) (sym eight)
    (subst (λ n. IsSpelling (take 8 (drop n file))) (sym c.place_of-place.ensures) there)

pub returns : goal.returns
unfolding slice
returns c tree spells =
    let self = c.args.self.now in
    let placed = self.placed tree spells in
    let place = c.place_of-place.result in
    let eight : place + 8 - place ≡ 8 = omega arith in
    let there = (spelled_at self c.args.i (let f = c.if-i-self.false in omega arith)).0 in
    let fits : place + 8 ≤ length self.file.now = (let e = c.place_of-place.ensures in omega arith) in
    same_instruction self.file.now tree spells c.args.i place (Some c.of_bytes.result) (let n = placed.2 in let f = c.if-i-self.false in omega arith)
    (c.place_of-place.ensures ∙ ap (λ n. n + 8 * c.args.i) placed.3)
    (fits, sym (ap (λ n. take n (drop place self.file.now)) eight) ∙ c.of_bytes.ensures.spelled) c.of_bytes.ensures.range tt
