use Rattle.std.proofs.Common.{ap, ◌∙◌, take, arith}
use Rattle.seg_raw.specs.Homes.{Area}
use Rattle.seg_ptr.proofs.Places.{moved_to_front, at_front}
use Rattle.seg_ptr.proofs.window.Window.into_bytes.Goals as goal
use Rattle.seg_ptr.proofs.window.Window.into_bytes.Goals.{then-from-gt0, else-from-gt0}

pub returns-clause-bytes : goal.returns-clause-bytes
returns-clause-bytes g c =
    let s = c.self.inside in
    let now = c.args.self in
    c.into_vec.ensures.bytes
    ∙ c.truncate.ensures.bytes
    ∙ elim c.if-from-gt0.branch [
      | then-from-gt0 w ↦ ap (λ (r : Area). take s.len r.bytes) w.region-is ∙ moved_to_front s.region w.move_within.new.self s.base s.len now c.self.view_is (omega arith) w.move_within.ensures.bytes
      | else-from-gt0 w ↦ ap (λ (r : Area). take s.len r.bytes) w.region-is ∙ at_front s.region s.base s.len now c.self.view_is (omega arith)
    ]
