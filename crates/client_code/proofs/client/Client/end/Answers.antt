use Rattle.std.proofs.Common.{◌∙◌}
use Rattle.client_code.proofs.Whole.{end_there}
use Rattle.client_code.proofs.client.Client.end.Goals as goal

pub returns : goal.returns
returns c tree spells =
    let self = c.args.self.now in
    let placed = self.placed tree spells in
    c.place_of.ensures ∙ end_there self.file.now tree spells self.code self.header.instructions placed.3 placed.2
