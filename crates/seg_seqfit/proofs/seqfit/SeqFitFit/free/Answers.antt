use Rattle.std.proofs.Common.{subst}
use Rattle.seg_spec.specs.Heap.{Gives}
use Rattle.seg_block.proofs.LiveBlocks.{unread, read_is, read_held}
use Rattle.seg_seqfit.proofs.seqfit.SeqFitFit.free.Goals as goal

pub returns-in_default-clause-gives : goal.returns-in_default-clause-gives
returns-in_default-clause-gives g c = λ h held. absurd (unread c.args.w.now.bytes c.args.block held.0 h held.1 c.in_default.ensures.read)

pub returns-clause-gives : goal.returns-clause-gives
returns-clause-gives g c = λ h held.
    let old = c.args.w.now.bytes in
    let block = c.in-Some.block in
    let is = read_is old c.args.block held.0 h held.1 block.at block.units c.in-Some.ensures.read in
    let here = read_held old c.args.block held.0 h held.1 block.at block.units c.in-Some.ensures.read in
    subst (λ p. Gives 0 old c.release_joined.new.w.bytes p) is.0 (c.release_joined.ensures.gives h here)
