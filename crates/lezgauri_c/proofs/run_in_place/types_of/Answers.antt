use Rattle.std.proofs.Common.{◌%◌, ap, sym, subst, refl, arith}
use Rattle.lezgauri.specs.Faults.{IsImageOf}
use Rattle.lezgauri_c.proofs.Tables.{read_size, read_valid, read_of_version, read_spells}
use Rattle.lezgauri_c.proofs.run_in_place.types_of.Goals as goal

pub returns : goal.returns
returns g c table is =
    let image = c.view.result.bytes.now in
    let seen = subst (λ b. IsImageOf b table) (sym c.view.ensures) is in
    let size = read_size image table seen _ refl in
    (c.read_types.ensures seen.held.laid_out.header).given table (read_valid image table seen _ refl) (read_of_version image table seen _ refl) (read_spells image table seen _ refl) (ap (λ n. n % 16) size) (omega (arith, size))
