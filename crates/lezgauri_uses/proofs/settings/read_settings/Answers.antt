use Rattle.std.proofs.Common.{◌≡◌, refl, ap}
use Rattle.lezgauri.specs.Error.TheVariants as error
use Rattle.lezgauri.specs.Fault.TheVariants as fault
use Rattle.lezgauri.proofs.OpenedLaws.{no_fault}
use Rattle.lezgauri_uses.specs.Settings.{AreSame}
use Rattle.lezgauri_uses.proofs.TableLaws.{open_after, fails_with}
use Rattle.lezgauri_uses.proofs.settings.read_settings.Goals as goal

pub returns-in_err-open : goal.returns-in_err-open
returns-in_err-open c settings keeps =
    let f = c.in_err-open.field-0.0.fault in
    let memory : f ≡ fault.Memory = no_fault c.args.image.items f (record { picture = _; held = keeps.held; counted = keeps.counted; none_loose = refl }) c.in_err-open.ensures.fault in
    fails_with c.from_residual.result (error.Fault f) (λ read. AreSame read settings) (λ e. e ≡ error.Fault fault.Memory) c.from_residual.ensures.1 (ap error.Fault memory)

pub returns : goal.returns
returns c settings keeps =
    let image = c.in_ok-open.field-0 in
    c.settings_in.ensures settings keeps.at (open_after image c.args.image.items c.in_ok-open.ensures.opened c.in_ok-open.ensures.image c.in_ok-open.ensures.allocator _ keeps.held keeps.counted)
