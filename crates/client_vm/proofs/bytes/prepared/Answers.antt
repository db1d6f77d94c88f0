use Rattle.std.proofs.Common.{◌≡◌, length, arith, sym, ap, ◌∙◌}
use Rattle.std.proofs.lemmas.List.{length-map}
use Rattle.client_code.specs.Clients.{bytes_of}
use Rattle.client_vm.specs.ReadyClients.{client_in}
use Rattle.client_verify.specs.Accepted.{client_of}
use Rattle.client_vm.proofs.bytes.prepared.Goals as goal

pub returns-clause-room : goal.returns-clause-room
returns-clause-room g c =
    let verified = c.in_ok-verified.verified.items in
    let programs = c.in_ok-programs.programs.items in
    let few : length programs ≡ length c.args.clients.now =
    sym (length-map programs (λ p. bytes_of (client_in p))) ∙ ap length c.in_ok-programs.ensures ∙ ap length c.in_ok-verified.ensures.texts ∙ length-map c.args.clients.now (λ x. x.now) in
    let capacity = c.in_ok-reports.ensures.capacity in
    omega (arith, capacity, few)
