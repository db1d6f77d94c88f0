use Rattle.std.proofs.Common.{w64}
use Rattle.std.proofs.lemmas.Int.{to_z-of_z}
use Rattle.seg_value.specs.Entries.{flat_asks}
use Rattle.seg_map.proofs.FlatChanges.{put_found, put_missing}
use Rattle.seg_map.proofs.flat.put.Goals as goal

pub returns-in-Ok-clause-puts : goal.returns-in-Ok-clause-puts
returns-in-Ok-clause-puts g c = λ T U keys vs blocks f s names.
    put_found g.F.Fit.allocator c.args.heap.now.window.bytes c.args.heap.now.types c.args.cell T U keys vs blocks f s c.args.key _ (to_z-of_z w64 c.args.key c.ranges.key) _
    (flat_asks c.args.heap.now.window.bytes c.args.heap.now.types c.args.cell U) c.args.content.now.entry c.in-Ok.index c.start.result c.value_at.result names.1.entry_is
    (c.in-Ok.ensures T U keys vs blocks f s names.1.entry_is) c.start.ensures c.value_at.ensures

pub returns-in-Err-clause-puts : goal.returns-in-Err-clause-puts
returns-in-Err-clause-puts g c = λ T U keys vs blocks f s names.
    let missing = c.in-Err.ensures T U keys vs blocks f s names.1.entry_is in
    put_missing g.F.Fit.allocator c.args.heap.now.window.bytes c.args.heap.now.types c.args.cell T U keys vs blocks f s c.args.key _ (to_z-of_z w64 c.args.key c.ranges.key) _
    (flat_asks c.args.heap.now.window.bytes c.args.heap.now.types c.args.cell U) c.insert.new.heap.window.bytes c.insert.result missing.0
    (c.insert.ensures.inserts T U keys vs blocks f s names missing.0 missing.1)
