use Rattle.std.proofs.Common.{refl}
use Rattle.seg_raw.proofs.Numbers.{moved_down}
use Rattle.seg_raw.proofs.region.copy_down.Goals as goal

pub returns-in-8-clause-bytes : goal.returns-in-8-clause-bytes
returns-in-8-clause-bytes c =
    moved_down c.copy_within.new.self c.args.bytes.now c.args.to c.args.distance 8 c.args.n c.in-8.is c.requires c.copy_within.ensures.after

pub returns-in-16-clause-bytes : goal.returns-in-16-clause-bytes
returns-in-16-clause-bytes c =
    moved_down c.copy_within-in-16.new.self c.args.bytes.now c.args.to c.args.distance 16 c.args.n c.in-16.is c.requires c.copy_within-in-16.ensures.after

pub returns-in_default-clause-bytes : goal.returns-in_default-clause-bytes
returns-in_default-clause-bytes c =
    moved_down c.copy_within-in_default.new.self c.args.bytes.now c.args.to c.args.distance c.args.distance c.args.n refl c.requires c.copy_within-in_default.ensures.after
