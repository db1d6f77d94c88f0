use Rattle.std.proofs.Common.{w64, subst}
use Rattle.std.proofs.lemmas.Int.{to_z-of_z}
use Rattle.seg_map.specs.Maps.{keys_above}
use Rattle.seg_image.specs.Iterators.{HasKeysLeft}
use Rattle.seg_image.proofs.read.ImageRead.entries_above.Goals as goal

pub returns-clause-first : goal.returns-clause-first
returns-clause-first g c = λ U keys vs blocks m s.
    subst (λ k. HasKeysLeft (g.Self.SegmentRead.stored c.args.self.now) keys c.in_ok-keys_above.field-0 (keys_above keys k)) (to_z-of_z w64 c.args.after c.ranges.after) (c.in_ok-keys_above.ensures.first U keys vs blocks m s)
