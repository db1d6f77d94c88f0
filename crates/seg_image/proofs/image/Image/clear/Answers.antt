use Rattle.std.proofs.Common.{ℕ, List, ◌<◌, length, arith}
use Rattle.seg_spec.specs.Types.{Table}
use Rattle.seg_spec.specs.Reads.{Place, Holds}
use Rattle.seg_spec.specs.Reads.Holds.{holds}
use Rattle.seg_spec.specs.Value.{Value}
use Rattle.seg_spec.proofs.Tables.TableExtensionLaws.{below_length}
use Rattle.seg_image.proofs.image.Image.clear.Goals as goal

-- a value has a type of the image
typed : {bytes : List ℕ} {table : Table} {place : Place} {v : Value} {blocks : List ℕ} → Holds bytes table place v blocks → place.type < length table
typed {table = table} {place = place} (holds form opened inside owned f o hs v_is blocks_is) = below_length table place.type form f

pub returns-in-Seq-clause-cleared : goal.returns-in-Seq-clause-cleared
returns-in-Seq-clause-cleared g c = rw (c.in-Seq.is, ← c.heap_mut.ensures.value) c.clear.ensures.cleared

pub returns-in-Best-clause-cleared : goal.returns-in-Best-clause-cleared
returns-in-Best-clause-cleared g c = rw (c.in-Best.is, ← c.heap_mut-in-Best.ensures.value) c.clear-in-Best.ensures.cleared

pub returns-in_err-known-clause-cleared : goal.returns-in_err-known-clause-cleared
returns-in_err-known-clause-cleared g c = λ v blocks s. absurd (omega (arith, typed s.holds_it, c.in_err-known.ensures.unknown.1))
