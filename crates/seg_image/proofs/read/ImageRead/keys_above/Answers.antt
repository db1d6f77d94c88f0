use Rattle.std.proofs.Common.{ap, w64, arith}
use Rattle.std.proofs.lemmas.Int.{to_z-of_z}
use Rattle.seg_map.specs.Maps.{keys_above}
use Rattle.seg_image.proofs.IteratorLaws.{few_above}
use Rattle.seg_image.proofs.read.ImageRead.keys_above.Goals as goal

pub returns-clause-first : goal.returns-clause-first
returns-clause-first g c = λ U keys vs blocks m s.
    let all = c.in_ok-keys.ensures.first U keys vs blocks m s in
    let few = few_above keys c.args.after in
    record { cursor = all.cursor; left_is = ap (keys_above keys) (to_z-of_z w64 c.args.after c.ranges.after); most = omega (arith, all.most, few) }
