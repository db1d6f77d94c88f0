use Rattle.std.proofs.Common.{◌≡◌, Ok, Err, sym, subst}
use Rattle.lezgauri.specs.Faults.{IsImageOf}
use Rattle.lezgauri_c.proofs.run_in_place.open_window.Goals as goal

pub returns-in-Ok-types_of-clause-types : goal.returns-in-Ok-types_of-clause-types
returns-in-Ok-types_of-clause-types g c table is =
    let got : c.types_of.result ≡ Ok table = c.types_of.ensures table (subst (λ b. IsImageOf b table) (sym c.in-Ok.ensures.bytes) is) in
    let was : c.types_of.result ≡ Ok c.in-Ok-types_of.types = c.in-Ok-types_of.is in
    cc

pub returns-in-Err-types_of-clause-fault : goal.returns-in-Err-types_of-clause-fault
returns-in-Err-types_of-clause-fault g c table is =
    let got : c.types_of.result ≡ Ok table = c.types_of.ensures table (subst (λ b. IsImageOf b table) (sym c.in-Ok.ensures.bytes) is) in
    let was : c.types_of.result ≡ Err c.in-Err-types_of.fault = c.in-Err-types_of.is in
    cc
