use Rattle.std.proofs.Common.{rules, sym, subst, w64}
use Rattle.std.proofs.lemmas.Int.{to_z-of_z}
use Rattle.lezgauri_uses.specs.Numbers.{HasNumber}
use Rattle.lezgauri_uses.proofs.NumberLaws.{read_after}
use Rattle.lezgauri_uses.proofs.counter.number_after.Goals as goal

pub returns : goal.returns
returns g c = record {
  reads = λ tree spells others may keeps picture opened.
      let stays = c.in_ok-run.ensures.names_stay tree spells others may c.args.name.now keeps in
      subst (HasNumber picture c.args.name.now) (sym (to_z-of_z w64 c.in_ok-load.field-0 (search rules)))
      (read_after c.args.image.now c.run.new.image others tree may c.args.name.now c.in_ok-number.number c.in_ok-load.field-0 c.in_ok-number.ensures stays
      c.in_ok-load.ensures.number c.in_ok-load.ensures.other picture opened);
}
