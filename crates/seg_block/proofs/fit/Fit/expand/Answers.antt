use Rattle.std.proofs.Common.{ap}
use Rattle.seg_spec.specs.Window.{Placement}
use Rattle.seg_block.proofs.LiveBlocks.{unread}
use Rattle.seg_block.proofs.BlockExpansionLaws.{expand_never, expand_done}
use Rattle.seg_block.proofs.fit.Fit.expand.Goals as goal

pub returns-in_default-clause-expands : goal.returns-in_default-clause-expands
returns-in_default-clause-expands g c = λ x h held. absurd (unread c.args.w.now.bytes c.args.block x h held c.in_default.ensures.read)

pub returns-in_default-expanded-clause-expands : goal.returns-in_default-expanded-clause-expands
returns-in_default-expanded-clause-expands g c = λ x h held.
    expand_never c.args.w.now.bytes c.args.block x c.in-Some.block.at c.in-Some.block.units h held c.in-Some.ensures.read c.room_after-room.result c.room_after-room.ensures.room c.args.need c.in_default-expanded.ensures

pub returns-clause-expands : goal.returns-clause-expands
returns-clause-expands g c = λ x h held.
    expand_done c.args.w.now.bytes c.args.block x c.in-Some.block.at c.in-Some.block.units h held c.in-Some.ensures.read c.room_after-room.result c.room_after-room.ensures.room
    c.resize.new.w.bytes c.in-Some-expanded.units c.resize.ensures.resized c.args.need c.in-Some-expanded.ensures (λ k. ap (λ (p : Placement). p.bytes) (c.resize.ensures.same k))
