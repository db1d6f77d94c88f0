use Rattle.std.proofs.Common.{◌≡◌, ◌+◌, ◌*◌, ◌<◌, ap, refl, arith}
use Rattle.seg_spec.specs.Bytes.{put}
use Rattle.seg_spec.specs.Window.{Placement}
use Rattle.seg_manager.proofs.ResultLaws.{host_twice}
use Rattle.seg_manager.proofs.TableBytes.{none_written, one_written, entry_long, all_written}
use Rattle.seg_manager.proofs.segment.write_types.Goals as goal

pub loop-t-init : goal.loop-t-init
loop-t-init g c = record { host = refl; written = λ valid. none_written c.args.w.now.bytes c.args.types.now }

pub loop-t-preserved : goal.loop-t-preserved
loop-t-preserved g c =
    let t = c.loop-t.t in
    let less : t < 32 = omega arith in
    let new_is = ap (λ (p : Placement). p.bytes) c.copy_in.ensures in
    record {
      host = host_twice c.args.w.now c.loop-t.w c.copy_in.new.self (put c.loop-t.w.bytes (64 + 16 * t) c.entry.result) c.loop-t.invariant.host c.copy_in.ensures;
      written = λ valid. one_written c.args.w.now.bytes c.loop-t.w.bytes c.copy_in.new.self.bytes c.args.types.now t (64 + 16 * t) (c.loop-t.invariant.written valid) less refl
          (entry_long c.args.types.now t valid) (rw c.entry.ensures at new_is);
    }

pub returns-clause-changes : goal.returns-clause-changes
returns-clause-changes g c = λ valid. (c.loop-t.invariant.written valid).changes

pub returns-clause-table : goal.returns-clause-table
returns-clause-table g c = λ valid long.
    let t = c.loop-t.t in
    let last : t ≡ 32 = omega (arith, c.loop-t.auto.t-end) in
    all_written c.args.w.now.bytes c.loop-t.w.bytes c.args.types.now valid (rw last at (c.loop-t.invariant.written valid)) long
