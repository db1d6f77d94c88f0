use Rattle.std.proofs.Common.{◌≡◌, Err, sym, ap, ◌∙◌, subst, arith}
use Rattle.std.proofs.lemmas.Result.{err_from_is_err_and}
use Rattle.seg_check.specs.Cells.{ResolvesTurns}
use Rattle.seg_check.proofs.Queue.QueueStepLaws.{refuses_map}
use Rattle.seg_check.proofs.Queue.BlockLoopLaws.{Takes, resolving_none, resolving_more, mid_ready, next_turn, can_next, all_seen}
use Rattle.seg_check.proofs.image.TypedImage.check_values.Goals as goal

pub loop-turn-init : goal.loop-turn-init
loop-turn-init g c = λ ready turns. resolving_none c.args.self.now.bytes.bytes.now c.args.self.now.types.now c.args.claims.now ready turns

pub loop-turn-smaller : goal.loop-turn-smaller
loop-turn-smaller g c = let next = c.in-Some.ensures.next in omega (arith, c.in_ok-check_block.ensures.taken, next.0, next.1)

pub loop-turn-preserved : goal.loop-turn-preserved
loop-turn-preserved g c = λ ready turns.
    let bytes = c.args.self.now.bytes.bytes.now in
    let table = c.args.self.now.types.now in
    let so_far = c.loop-turn.invariant ready turns in
    let first = c.args.claims.now in
    let was = c.loop-turn.claims in
    let mid = c.next_turn.new.self in
    let turn = c.in-Some.turn in
    let takes : Takes bytes table was mid turn = record {
      turns_are = c.in-Some.ensures.turns;
      allocated_kept = c.next_turn.ensures.allocated;
      unclaimed_kept = c.next_turn.ensures.unclaimed;
      names_kept = c.next_turn.ensures.naming;
      counted = c.next_turn.ensures.counted;
    } in
    let waits = next_turn bytes table first was mid turn so_far takes in
    resolving_more bytes table first was mid turn so_far takes c.check_block.new.claims (c.in_ok-check_block.ensures.steps (mid_ready bytes table first was mid turn so_far takes) waits.turn)

pub returns-in_err-check_block : goal.returns-in_err-check_block
returns-in_err-check_block g c = λ ready turns.
    let bytes = c.args.self.now.bytes.bytes.now in
    let table = c.args.self.now.types.now in
    let so_far = c.loop-turn.invariant ready turns in
    let first = c.args.claims.now in
    let was = c.loop-turn.claims in
    let mid = c.next_turn.new.self in
    let turn = c.in-Some.turn in
    let takes : Takes bytes table was mid turn = record {
      turns_are = c.in-Some.ensures.turns;
      allocated_kept = c.next_turn.ensures.allocated;
      unclaimed_kept = c.next_turn.ensures.unclaimed;
      names_kept = c.next_turn.ensures.naming;
      counted = c.next_turn.ensures.counted;
    } in
    let waits = next_turn bytes table first was mid turn so_far takes in
    let e = c.in_err-check_block.field-0.0 in
    let failed = err_from_is_err_and c.from_residual.result c.from_residual.ensures.1 in
    let equal : failed.0 ≡ e = failed.2 in
    subst (λ x. ResolvesTurns bytes table first c.check_block.new.claims x) (sym (failed.1 ∙ ap Err equal))
    (let wrong = c.in_err-check_block.ensures.steps (mid_ready bytes table first was mid turn so_far takes) waits.turn in (refuses_map e _ _ (λ all. can_next bytes table first was mid turn so_far takes all) wrong.0, wrong.1))

pub returns : goal.returns
returns g c = λ ready turns.
    all_seen c.args.self.now.bytes.bytes.now c.args.self.now.types.now c.args.claims.now c.loop-turn.claims c.next_turn.new.self (c.loop-turn.invariant ready turns)
    c.in_default.ensures.turns c.next_turn.ensures.unclaimed c.next_turn.ensures.naming c.next_turn.ensures.counted
