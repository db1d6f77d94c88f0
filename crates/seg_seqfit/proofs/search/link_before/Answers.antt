use Rattle.std.proofs.Common.{◌+◌, ◌∙◌, ◌∷◌, ap, arith}
use Rattle.seg_spec.specs.Heap.{free_of}
use Rattle.seg_block.specs.Tiling.{tile}
use Rattle.seg_seqfit.proofs.Walks.{ahead, ahead_of, fewer, follows, reads, reads_none, passed_more, passed_end}
use Rattle.seg_seqfit.proofs.Predecessor.{passed_first, near_first, near_none, near_free, near_more, link_after-free_of}
use Rattle.seg_seqfit.proofs.search.link_before.Goals as goal

pub loop-next-init : goal.loop-next-init
loop-next-init g c = record {
  bounds = c.next_above-next.ensures.bounds;
  walks = λ xs ys b was. (
    record {
      low = 704;
      passed = passed_first c.args.w.now.bytes xs ys c.args.block.at c.args.block.units b was;
      follows = follows c.args.w.now.bytes c.view-view.result.bytes.now 12 704 c.next_above-next.result c.view-view.ensures (omega arith) c.next_above-next.ensures.none c.next_above-next.ensures.named;
    },
    near_first c.args.w.now.bytes xs ys c.args.block b was,
  );
}

pub loop-next-smaller : goal.loop-next-smaller
loop-next-smaller g c = fewer 12 c.in-Some.gap c.loop-next.next c.next_above-next-in-Some.result c.in-Some.is c.loop-next.invariant.bounds c.next_above-next-in-Some.ensures.bounds

pub loop-next-preserved : goal.loop-next-preserved
loop-next-preserved g c =
    let bytes = c.args.w.now.bytes in
    let gap = c.in-Some.gap in
    let here = ahead_of 12 gap c.loop-next.next c.in-Some.is c.loop-next.invariant.bounds in
    record {
      bounds = ahead 12 gap c.next_above-next-in-Some.result (omega (arith, here.0)) c.next_above-next-in-Some.ensures.bounds;
      walks = λ xs ys b was.
          let so_far = c.loop-next.invariant.walks xs ys b was in
          let i = so_far.0 in (
            record {
              low = gap + 16;
              passed = passed_more bytes (free_of xs) (free_of (tile c.args.block.at c.args.block.units b ∷ ys)) c.args.block.at c.loop-next.link i.low gap
                  (reads bytes c.loop-next.link i.low gap c.loop-next.next i.follows c.in-Some.is) c.if-gap-block.false i.passed;
              follows = follows bytes c.view-view.result.bytes.now gap (gap + 16) c.next_above-next-in-Some.result c.view-view.ensures (omega arith) c.next_above-next-in-Some.ensures.none c.next_above-next-in-Some.ensures.named;
            },
            near_more bytes xs c.loop-next.near so_far.1 c.in-Some-previous.before c.is_live.result c.is_live.ensures c.in-Some-previous.ensures.read c.in-Some-previous.ensures.none c.if-not-is_live.false,
          );
    }

pub returns-then-gap-block : goal.returns-then-gap-block
returns-then-gap-block g c = λ xs ys b was.
    let bytes = c.args.w.now.bytes in
    let i = (c.loop-next.invariant.walks xs ys b was).0 in
    let read = reads bytes c.loop-next.link i.low c.in-Some.gap c.loop-next.next i.follows c.in-Some.is in
    passed_end bytes (free_of xs) (free_of (tile c.args.block.at c.args.block.units b ∷ ys)) c.args.block.at c.loop-next.link i.low
    (λ s t f low under. let is = read.1 s t f low in absurd (omega (arith, c.if-gap-block.true))) i.passed
    ∙ link_after-free_of xs 24

pub returns-in_default-previous : goal.returns-in_default-previous
returns-in_default-previous g c = λ xs ys b was.
    near_none c.args.w.now.bytes xs c.loop-next.near (c.loop-next.invariant.walks xs ys b was).1 c.in_default-previous.ensures.read

pub returns-then-not-is_live : goal.returns-then-not-is_live
returns-then-not-is_live g c = λ xs ys b was.
    near_free c.args.w.now.bytes xs c.loop-next.near (c.loop-next.invariant.walks xs ys b was).1 c.in-Some-previous.before c.is_live.result c.is_live.ensures
    c.in-Some-previous.ensures.read c.in-Some-previous.ensures.none c.if-not-is_live.true

pub returns : goal.returns
returns g c = λ xs ys b was.
    let bytes = c.args.w.now.bytes in
    let i = (c.loop-next.invariant.walks xs ys b was).0 in
    passed_end bytes (free_of xs) (free_of (tile c.args.block.at c.args.block.units b ∷ ys)) c.args.block.at c.loop-next.link i.low
    (λ s t f low under. reads_none bytes c.loop-next.link i.low c.loop-next.next i.follows c.in_default.not-Some s t f low) i.passed
    ∙ link_after-free_of xs 24
