use Rattle.std.proofs.Common.{map, length, ap, subst, ◌∙◌}
use Rattle.std.proofs.lemmas.List.{length-map}
use Rattle.cli_host.specs.Accesses.{AddsAccesses, accesses_of}
use Rattle.cli_program.specs.Runs.{read_of}
use Rattle.cli_program.proofs.RunsLaws.{all_read}
use Rattle.cli_program.proofs.inputs.read_inputs.Goals as goal

pub returns-clause-read : goal.returns-clause-read
returns-clause-read g c =
    let was_read = g.F.Files.was_read in
    let clients = c.in_ok-clients.clients.items in
    let it = read_of (record { image = c.in_ok-image.image; clients = c.in_ok-clients.clients; input = c.in_ok-input.input }) in
    let names = c.as_slice.ensures.value in
    let same = length-map clients (λ text. text.items) ∙ c.in_ok-clients.ensures.all ∙ ap length names in
    let first = was_read c.read_image.new.files in
    let second = was_read c.read_files.new.files in
    let texts =
    subst (λ them. AddsAccesses first second (accesses_of (map (λ client. client.now) them) it.texts)) names
    (subst (λ before. AddsAccesses before second (accesses_of (map (λ client. client.now) c.as_slice.result.now) it.texts)) c.check_out.ensures.nothing_read c.in_ok-clients.ensures.read) in
    all_read c.args.run.now it (was_read c.args.files.now) first second (was_read c.read_input.new.files) c.in_ok-image.ensures.read same texts c.in_ok-input.ensures.empty c.in_ok-input.ensures.read
