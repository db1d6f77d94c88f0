use Rattle.std.proofs.Common.{arith}
use Rattle.client_vm.proofs.RefusalLaws.{placed_there, shows, among_zeros}
use Rattle.client_vm.proofs.bytes.copied.Goals as goal

pub returns-clause-bytes : goal.returns-clause-bytes
returns-clause-bytes g c =
    let schedule = c.args.schedule.now in
    let image = c.args.image.now in
    let region = c.in_ok-region.region.bytes in
    let w = placed_there _ c.place.result c.unwrap.result region schedule.base c.args.len c.unwrap.ensures c.place.ensures.window in
    shows c.unwrap.result region schedule.base c.args.len image w.0 w.1 w.2 c.requires.len (among_zeros image schedule.base schedule.room region c.in_ok-region.ensures.bytes)
