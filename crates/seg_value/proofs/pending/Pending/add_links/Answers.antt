use Rattle.std.proofs.Common.{◌≡◌, ⊎_elim, [], ◌∷◌, ◌++◌, refl, ap, subst}
use Rattle.seg_spec.specs.Owing.{OwesLinks}
use Rattle.seg_value.specs.Waiting.{links_of}
use Rattle.seg_value.proofs.WaitingBlockLaws.{nothing_added}
use Rattle.seg_value.proofs.Links.{without_home, no_further, two_links}
use Rattle.seg_value.proofs.pending.Pending.add_links.Goals as goal

pub returns-in-Ring-clause-added : goal.returns-in-Ring-clause-added
returns-in-Ring-clause-added g c = λ home xs ns inside owes allocator ys names kept theirs final valid w fits.
    c.add_node.ensures.added xs ns (rw c.in-Ring.is at owes) allocator ys names kept theirs final valid w (without_home c.args.heap.now.window.bytes home (xs ++ ys) fits)

pub returns-in-Tree-clause-added : goal.returns-in-Tree-clause-added
returns-in-Tree-clause-added g c = λ home xs ns inside owes.
    two_links c.args.heap.now.window.bytes c.add_node-in-Tree.new.heap.window.bytes c.add_node-in-Tree-2.new.heap.window.bytes c.args.heap.now.types c.add_node-in-Tree.new.heap.types
    c.args.self.now.first c.add_node-in-Tree.new.self.first c.add_node-in-Tree-2.new.self.first c.args.payload _ home xs ns c.add_node-in-Tree.ensures.types refl inside (rw c.in-Tree.is at owes)
    c.add_node-in-Tree.ensures.added c.add_node-in-Tree-2.ensures.added

pub returns-in-Buffer-clause-added : goal.returns-in-Buffer-clause-added
returns-in-Buffer-clause-added g c = λ home xs ns inside owes.
    let heap = c.args.heap.now in
    let none : links_of c.args.shape c.args.payload ≡ [] = ⊎_elim (ap (λ s. links_of s c.args.payload)) (ap (λ s. links_of s c.args.payload)) c.in-Buffer.is in
    nothing_added heap.window.bytes heap.types c.args.self.now.first (home ∷ []) xs ns (no_further heap.window.bytes heap.types xs ns (subst (λ ls. OwesLinks heap.window.bytes heap.types ls xs ns) none owes))
