use Rattle.std.proofs.Common.{subst, w64}
use Rattle.std.proofs.lemmas.Int.{to_z-of_z}
use Rattle.seg_value.specs.CellPlaces.{place_of}
use Rattle.seg_seq.specs.Sequences.{PushesNumber}
use Rattle.seg_image.proofs.image.Image.push_number.Goals as goal

pub returns-in-Seq-clause-vector : goal.returns-in-Seq-clause-vector
returns-in-Seq-clause-vector g c = rw (c.in-Seq.is, ← c.heap_mut.ensures.value)
    (subst (λ z. PushesNumber 0 c.heap_mut.result.now c.push.new.heap (place_of c.args.vector.vector) z c.push.result) (to_z-of_z w64 c.args.number c.ranges.number) c.push.ensures.vector)

pub returns-in-Best-clause-vector : goal.returns-in-Best-clause-vector
returns-in-Best-clause-vector g c = rw (c.in-Best.is, ← c.heap_mut-in-Best.ensures.value)
    (subst (λ z. PushesNumber 1 c.heap_mut-in-Best.result.now c.push-in-Best.new.heap (place_of c.args.vector.vector) z c.push-in-Best.result) (to_z-of_z w64 c.args.number c.ranges.number) c.push-in-Best.ensures.vector)
