use Rattle.client_code.proofs.Whole.{types_again, types_there_again}
use Rattle.client_code.proofs.client.Client.types.Goals as goal

pub returns-in-Ok : goal.returns-in-Ok
returns-in-Ok c tree spells =
    let self = c.args.self.now in
    types_again self.file.now tree spells c.in-Ok.types self.header.types (self.placed tree spells).0 c.in-Ok.ensures.count c.in-Ok.ensures.found

pub returns-in-Err : goal.returns-in-Err
returns-in-Err c tree spells =
    let self = c.args.self.now in
    absurd (types_there_again self.file.now tree spells self.header.types (self.placed tree spells).0 c.in-Err.ensures.wrong)
