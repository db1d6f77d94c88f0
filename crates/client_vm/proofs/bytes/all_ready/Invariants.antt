use Rattle.std.proofs.Common.{◌≡◌}
use Rattle.client_verify.specs.Texts.{texts_of}
use Rattle.client_vm.specs.ReadyClients.{texts_in}
use Rattle.client_vm.proofs.bytes.all_ready.Given as goal

abbrev pub invariant-loop-client : goal.invariant-loop-client
invariant-loop-client g l = texts_in l.programs.items ≡ texts_of l.yielded
