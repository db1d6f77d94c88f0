use Rattle.std.proofs.Common.{refl, sym, subst}
use Rattle.lezgauri.specs.SoundImages.{IsSound}
use Rattle.lezgauri_uses.proofs.counter.new_counter.Goals as goal

pub returns : goal.returns
returns c =
    let made = c.in_ok-image.ensures.empty.segment in
    record { sound = subst IsSound (sym c.into_bytes.ensures.bytes) (record { picture = _; held = made.held; counted = made.counted; none_loose = refl }) }
