use Rattle.std.proofs.Common.{◌%◌, ap, sym, subst, refl, arith}
use Rattle.lezgauri.specs.Faults.{IsImageOf}
use Rattle.lezgauri_c.proofs.OneClient.{image_of}
use Rattle.lezgauri_c.proofs.Tables.{read_size, read_valid, read_of_version, read_spells}
use Rattle.lezgauri_c.proofs.opening_types.table_of.Goals as goal

pub returns : goal.returns
returns c sound =
    let image = c.new.result.bytes.now in
    let table = sound.picture.table in
    let seen = subst (λ b. IsImageOf b table) (sym c.new.ensures) (image_of c.args.image.now sound) in
    let size = read_size image table seen _ refl in
    (c.read_types.ensures seen.held.laid_out.header).given table (read_valid image table seen _ refl) (read_of_version image table seen _ refl) (read_spells image table seen _ refl) (ap (λ n. n % 16) size) (omega (arith, size))
