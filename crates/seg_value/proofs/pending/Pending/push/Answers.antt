use Rattle.std.proofs.Common.{◌+◌}
use Rattle.seg_spec.specs.Pointer.{set_pointer}
use Rattle.seg_spec.specs.Block.{block_of}
use Rattle.seg_spec.specs.Window.{with_bytes}
use Rattle.seg_spec.proofs.Deallocation.DestructionLaws.{adds_pushed}
use Rattle.seg_spec.proofs.WindowLaws.{bytes_of}
use Rattle.seg_value.proofs.pending.Pending.push.Goals as goal

pub returns-clause-added : goal.returns-clause-added
returns-clause-added g c = λ xs ns goes allocator ys names kept theirs final valid w fits.
    let old = c.args.heap.now.window in
    let is = bytes_of c.set_link.new.self.window (with_bytes old (set_pointer old.bytes (block_of c.args.payload + 12) c.args.self.now.first)) c.set_link.ensures.window in
    rw is (adds_pushed allocator old.bytes c.args.heap.now.types valid c.args.payload c.args.self.now.first xs ys ns names kept theirs final goes w fits)
