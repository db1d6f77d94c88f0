use Rattle.std.proofs.Common.{◌≡◌, ℕ, ◌+◌, ◌*◌, ◌^◌, ◌≤◌, length}
use Rattle.std.specs.Prelude.{IsTrue}
use Rattle.std.specs.Slice.Iter.{chunks_exact_rest, chunks_exact_size}
use Rattle.seg_spec.specs.Reads.{keys_at, spaced}
use Rattle.seg_check.specs.Keys.{HasKeys}
use Rattle.seg_check.proofs.Contents.EntryKeyLaws.{Unread}
use Rattle.seg_check.proofs.image.TypedImage.keys_ascend.Given as goal

abbrev pub invariant-loop-bytes : goal.invariant-loop-bytes
invariant-loop-bytes l =
    let bytes = l.self.bytes.bytes.now in
    let size = l.fn.entry.size in
    goal.iterator-loop-bytes.can_next l.bytes-iterator
    × goal.iterator-loop-bytes.is_finite l.bytes-iterator
    × (chunks_exact_size l.bytes-iterator ≡ size)
    × (length (chunks_exact_rest l.bytes-iterator) ≤ 2 ^ 30)
    × IsTrue l.keys.ascend
    × (8 ≤ size → l.fn.start + l.fn.count * size ≤ length bytes → (i : ℕ)
    × Unread bytes (chunks_exact_rest l.bytes-iterator) l.fn.start size l.fn.count i
    × HasKeys l.keys (keys_at bytes (spaced l.fn.start size i)))
