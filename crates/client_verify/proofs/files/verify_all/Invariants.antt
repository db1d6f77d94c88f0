use Rattle.std.proofs.Common.{◌≡◌, List, map, take}
use Rattle.client_spec.specs.Syntax.{Client}
use Rattle.client_spec.specs.Clients.{AreAccepted, table_after}
use Rattle.client_verify.specs.Texts.{texts_of}
use Rattle.client_verify.proofs.files.verify_all.Given as goal

abbrev pub invariant-loop-i : goal.invariant-loop-i
invariant-loop-i g l =
    (texts_of l.programs.items ≡ map (λ c. c.now) (take l.i l.clients))
    × ((trees : List Client) × AreAccepted l.fn.types (map (λ c. c.now) (take l.i l.clients)) trees × (l.types ≡ table_after l.fn.types trees))
