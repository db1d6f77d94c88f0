use Rattle.std.proofs.Common.{◌+◌, ◌-◌, ◌%◌, ◌^◌, ap, ◌∙◌, sym}
use Rattle.seg_spec.specs.Pointer.{distance}
use Rattle.seg_ptr.proofs.pointer.distance.Goals as goal

pub returns-in-None : goal.returns-in-None
unfolding distance
returns-in-None c = ap (distance c.args.at) (sym c.in-None.is)

pub returns-in-Some : goal.returns-in-Some
unfolding distance
returns-in-Some c = ap (λ low. (c.in-Some.to + (2 ^ 32 - low)) % 2 ^ 32) c.low_word.ensures ∙ ap (distance c.args.at) (sym c.in-Some.is)
