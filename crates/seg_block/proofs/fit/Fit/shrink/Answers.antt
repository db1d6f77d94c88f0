use Rattle.std.proofs.Common.{arith}
use Rattle.seg_block.proofs.LiveBlocks.{unread, read_is}
use Rattle.seg_block.proofs.BlockExpansionLaws.{shrink_done, shrink_none}
use Rattle.seg_block.proofs.fit.Fit.shrink.Goals as goal

pub returns-in_default-clause-shrinks : goal.returns-in_default-clause-shrinks
returns-in_default-clause-shrinks g c = λ x h held low. absurd (unread c.args.w.now.bytes c.args.block x h held c.in_default.ensures.read)

pub returns-then-need-block-clause-shrinks : goal.returns-then-need-block-clause-shrinks
returns-then-need-block-clause-shrinks g c = λ x h held low.
    let is = read_is c.args.w.now.bytes c.args.block x h held c.in-Some.block.at c.in-Some.block.units c.in-Some.ensures.read in
    absurd (omega (arith, is.1, c.if-need-block.true))

pub returns-clause-shrinks : goal.returns-clause-shrinks
returns-clause-shrinks g c = λ x h held low.
    shrink_done c.args.w.now.bytes c.args.block x c.in-Some.block.at c.in-Some.block.units h held c.in-Some.ensures.read c.room_after-room.result c.room_after-room.ensures.room
    c.resize.new.w.bytes c.shrunk.result c.resize.ensures.resized c.args.need c.shrunk.ensures

pub returns-clause-unchanged : goal.returns-clause-unchanged
returns-clause-unchanged g c = λ x h held low kept.
    c.resize.ensures.same (shrink_none c.args.w.now.bytes c.args.block x c.in-Some.block.at c.in-Some.block.units h held c.in-Some.ensures.read c.room_after-room.result
    c.room_after-room.ensures.room c.args.need c.shrunk.result c.shrunk.ensures kept)
