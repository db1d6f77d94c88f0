use Rattle.seg_block.proofs.ResizedBlockLaws.{room_some, room_none}
use Rattle.seg_block.proofs.block.room_after.Goals as goal

pub returns-in-None-clause-room : goal.returns-in-None-clause-room
returns-in-None-clause-room g c = λ a h held. room_none c.args.w.now.bytes c.args.block.at c.args.block.units h held c.in-None.ensures.read

pub returns-in-Some-clause-room : goal.returns-in-Some-clause-room
returns-in-Some-clause-room g c = λ a h held. room_some c.args.w.now.bytes c.args.block.at c.args.block.units h held c.in-Some.gap c.in-Some.ensures.read c.in-Some.ensures.none
