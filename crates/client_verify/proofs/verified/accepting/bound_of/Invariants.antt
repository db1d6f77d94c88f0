use Rattle.std.proofs.Common.{◌≡◌, Ok}
use Rattle.client_spec.specs.Syntax.{Client}
use Rattle.client_spec.specs.Grammar.{SpellsClient}
use Rattle.client_code.specs.Clients.{bytes_of}
use Rattle.client_verify.specs.Verifiers.{progress_of}
use Rattle.client_verify.specs.Refusals.{WalksTo}
use Rattle.client_verify.proofs.verified.accepting.bound_of.Given as goal

abbrev pub invariant-loop-i : goal.invariant-loop-i
invariant-loop-i l = record {
  same_types : l.verifier.types.now ≡ l.types;
  walks : (tree : Client) → SpellsClient (bytes_of l.client) tree → l.types ≡ tree.types → WalksTo tree l.i (Ok (progress_of l.verifier));
}
