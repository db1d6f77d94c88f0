use Rattle.std.proofs.Common.{◌≡◌, ◌+◌, ◌*◌, length, refl, sym, ap, ◌∙◌, subst, arith, length-append, w64, to_z}
use Rattle.std.proofs.lemmas.Int.{to_z-of_z}
use Rattle.std.specs.Slice.Iter.{chunks_exact_rest, chunks_exact_size}
use Rattle.seg_spec.specs.Bytes.{slice, long, signed}
use Rattle.seg_spec.specs.Reads.{keys_at, spaced}
use Rattle.seg_spec.specs.Value.{IsAscending}
use Rattle.seg_check.specs.Keys.{HasKeys}
use Rattle.seg_check.proofs.Contents.EntryKeyLaws.{Unread, unread_all, unread_none, slice_short, has_next, first_ascend}
use Rattle.seg_check.proofs.image.TypedImage.keys_ascend.Goals as goal

pub loop-bytes-init : goal.loop-bytes-init
loop-bytes-init c =
    let bytes = c.args.self.now.bytes.bytes.now in
    let size = c.args.entry.size in
    let n = c.args.count * size in
    let same = c.into_iter-bytes-iterator.ensures.into_iter_gives in
    let rest : chunks_exact_rest c.into_iter-bytes-iterator.result ≡ slice bytes c.args.start n = ap chunks_exact_rest same ∙ c.chunks_exact-bytes-items.ensures.rest ∙ c.slice-entries.ensures in
    let each : chunks_exact_size c.into_iter-bytes-iterator.result ≡ size = ap chunks_exact_size same ∙ c.chunks_exact-bytes-items.ensures.size in (
      omega (arith, each, c.args.entry.some),
      tt,
      each,
      omega (arith, ap length rest, slice_short bytes c.args.start n, c.args.self.now.bytes.small),
      c.new-keys.ensures.ascend.1 tt,
      λ some inside. (0, subst (λ r. Unread bytes r c.args.start size c.args.count 0) (sym rest) (unread_all bytes c.args.start size c.args.count inside), c.new-keys.ensures),
    )

pub loop-bytes-preserved : goal.loop-bytes-preserved
unfolding signed
loop-bytes-preserved c =
    let bytes = c.args.self.now.bytes.bytes.now in
    let p = c.args.start in
    let size = c.args.entry.size in
    let was = c.loop-bytes.invariant in
    let steps = c.in-Some.ensures.steps in
    let each = steps.0 ∙ was.2 in
    let same = to_z-of_z w64 c.cast_signed.result (record { sfits = c.cast_signed.type_inv }) in
    let key = same ∙ c.cast_signed.ensures ∙ ap (to_z w64) (c.get64.ensures ∙ ap (λ b. long b 0) c.new.ensures) in (
      omega (arith, each, c.args.entry.some),
      tt,
      each,
      omega (arith, ap length steps.1.0 ∙ length-append c.in-Some.bytes.now (chunks_exact_rest c.next.new.self), was.3),
      c.if-not-keys.false,
      λ some inside.
          let so_far = was.5 some inside in
          let i = so_far.0 in
          let add = c.add.ensures (keys_at bytes (spaced p size i)) so_far.2 in
          let next = has_next bytes _ c.in-Some.bytes.now (chunks_exact_rest c.next.new.self) p size c.args.count i _ c.add.new.self some so_far.1 steps.1.0 (steps.1.1 ∙ was.2) key add in
          (i + 1, next.0, next.1),
    )

pub returns-then-not-keys : goal.returns-then-not-keys
unfolding signed
returns-then-not-keys c = λ some inside.
    let bytes = c.args.self.now.bytes.bytes.now in
    let p = c.args.start in
    let size = c.args.entry.size in
    let was = c.loop-bytes.invariant in
    let steps = c.in-Some.ensures.steps in
    let so_far = was.5 some inside in
    let i = so_far.0 in
    let same = to_z-of_z w64 c.cast_signed.result (record { sfits = c.cast_signed.type_inv }) in
    let key = same ∙ c.cast_signed.ensures ∙ ap (to_z w64) (c.get64.ensures ∙ ap (λ b. long b 0) c.new.ensures) in
    let next = has_next bytes _ c.in-Some.bytes.now (chunks_exact_rest c.next.new.self) p size c.args.count i _ c.add.new.self some so_far.1 steps.1.0 (steps.1.1 ∙ was.2) key (c.add.ensures (keys_at bytes (spaced p size i)) so_far.2) in
    let whole = sym next.0.whole in (
      λ no. cc,
      λ all. sym c.if-not-keys.true ∙ next.1.ascend.1 (first_ascend bytes p size (i + 1) next.0.left (subst (λ n. IsAscending (keys_at bytes (spaced p size n))) whole all)),
    )

pub returns : goal.returns
returns c = λ some inside.
    let bytes = c.args.self.now.bytes.bytes.now in
    let size = c.args.entry.size in
    let was = c.loop-bytes.invariant in
    let so_far = was.5 some inside in
    let all = unread_none bytes _ c.args.start size c.args.count so_far.0 so_far.1 (omega (arith, c.in-None.ensures.steps.1.0, was.2)) in
    let has = subst (λ i. HasKeys c.loop-bytes.keys (keys_at bytes (spaced c.args.start size i))) all so_far.2 in
    ((λ _. has.ascend.0 was.4), λ _. refl)
