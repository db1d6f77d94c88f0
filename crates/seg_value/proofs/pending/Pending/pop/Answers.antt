use Rattle.std.proofs.Common.{◌≡◌, ap, ◌∙◌, subst}
use Rattle.seg_spec.specs.Heap.{link_at}
use Rattle.seg_spec.specs.Block.{block_of}
use Rattle.seg_spec.specs.Destroying.{Awaits}
use Rattle.seg_spec.specs.Window.{Placement}
use Rattle.seg_spec.proofs.Deallocation.DestructionLaws.{pops}
use Rattle.seg_value.proofs.pending.Pending.pop.Goals as goal

pub returns-clause-popped : goal.returns-clause-popped
returns-clause-popped g c = λ allocator blocks names kept theirs final w.
    let heap = c.args.heap.now in
    let p = c.in_ok-payload.payload in
    let next : c.link-self.result ≡ link_at heap.window.bytes (block_of p) =
    c.link-self.ensures ∙ ap (link_at c.window.result.now.bytes) c.block_of.ensures ∙ ap (λ (r : Placement). link_at r.bytes (block_of p)) c.window.ensures in
    rw next (pops allocator heap.window.bytes heap.types p blocks names kept theirs final (subst (λ f. Awaits allocator heap.window.bytes heap.types f blocks names kept theirs final) c.in_ok-payload.was w))
