use Rattle.std.proofs.Common.{◌∷◌, [], Some, refl, sym, subst}
use Rattle.std.specs.Prelude.{IsOk}
use Rattle.seg_spec.specs.Types.{Table, Agree, IsFirstDifference}
use Rattle.client_spec.specs.Grammar.{SpellsClient}
use Rattle.client_spec.specs.Clients.{IsVerified}
use Rattle.lezgauri.specs.ClientFiles.{bytes_of}
use Rattle.lezgauri.specs.Accepted.{client_of}
use Rattle.lezgauri.specs.Texts.{AreWrong}
use Rattle.lezgauri.specs.Verified.{Verified}
use Rattle.lezgauri_c.specs.Prepared.{client_bytes_of}
use Rattle.lezgauri_c.proofs.ReadyLaws.{verified_on, differs_on}
use Rattle.lezgauri_c.proofs.run_in_place.run_again.Goals as goal

pub returns-in-Err-clause-refused : goal.returns-in-Err-clause-refused
returns-in-Err-clause-refused g c tree spells =
    let client = c.args.client.now in
    let table = c.types.result.now in
    let same = subst (λ (v : Verified). SpellsClient (bytes_of (client_of v)) tree) (sym c.verified.ensures) spells in
    let differs = c.in-Err.ensures.differs in
    let first = subst (λ (t : Table). IsFirstDifference table t differs.0) (c.types-2.ensures tree same) differs.2 in
    subst (λ (t : Table). AreWrong t (client_bytes_of client ∷ []) (record { client = Some 0; fault = c.in-Err.fault })) c.types.ensures (differs_on client tree spells table c.in-Err.fault differs.0 differs.1 first)

pub returns-in-Ok-clause-runs : goal.returns-in-Ok-clause-runs
returns-in-Ok-clause-runs g c tree spells sound =
    let client = c.args.client.now in
    let table = c.types.result.now in
    let same = subst (λ (v : Verified). SpellsClient (bytes_of (client_of v)) tree) (sym c.verified.ensures) spells in
    let agree = subst (λ (t : Table). Agree table t) (c.types-2.ensures tree same) (c.agrees.ensures.agree.0 (subst (λ r. IsOk r) (sym c.in-Ok.is) refl)) in
    c.run_ready.ensures.runs sound tree spells (subst (λ (t : Table). IsVerified t tree) c.types.ensures (verified_on client tree spells table agree))
