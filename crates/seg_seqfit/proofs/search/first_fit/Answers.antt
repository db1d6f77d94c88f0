use Rattle.std.proofs.Common.{◌≡◌, ℕ, List, ◌≤◌, ◌<◌, ◌+◌, ap, ◌∙◌, sym, subst, arith, length, ⊎_elim}
use Rattle.std.proofs.lemmas.Bool.{cases_lt}
use Rattle.seg_spec.specs.Heap.{Span, units_at, link_at}
use Rattle.seg_spec.specs.Pointer.{target}
use Rattle.seg_block.specs.declared.block.Block.{Block}
use Rattle.seg_block.specs.declared.header.Header.{Header}
use Rattle.seg_block.specs.Blocks.{IsSized}
use Rattle.seg_block.specs.Headers.{header_at, no_header}
use Rattle.seg_seqfit.proofs.Walks.{ahead, ahead_of, fewer, follows, reads, reads_none, searched_none, searched_more, searched_found, searched_always, searched_end}
use Rattle.seg_seqfit.proofs.search.first_fit.Goals as goal

-- the units in a header that was read
header_units : (bytes view : List ℕ) (at : ℕ) (h : Header) → view ≡ bytes → (at + 16 ≤ length view → h ≡ header_at view at) → (s : Span) → at ≡ s.at → IsSized bytes s → h.units ≡ s.units
header_units bytes view at h same inside s is sized =
    ap (λ (h : Header). h.units) (inside (omega (arith, is, sized.large, sized.inside, ap length same)))
    ∙ ap (λ b. units_at b at) same ∙ ap (units_at bytes) is ∙ sized.size_is

-- the link in a header that was read
header_link : (bytes view : List ℕ) (at : ℕ) (h : Header) → view ≡ bytes → (at + 16 ≤ length view → h ≡ header_at view at) → (length view < at + 16 → h ≡ no_header view at) → h.link ≡ link_at bytes at
header_link bytes view at h same inside past =
    ⊎_elim (λ out. ap (λ (h : Header). h.link) (past out)) (λ fits. ap (λ (h : Header). h.link) (inside fits)) (cases_lt (length view) (at + 16))
    ∙ ap (λ b. link_at b at) same

pub loop-next-init : goal.loop-next-init
loop-next-init g c = record {
  bounds = c.next_above-next.ensures.bounds;
  searching = λ gs links blocks. record {
    low = 704;
    searched = searched_none c.args.w.now.bytes gs c.args.need links blocks;
    follows = follows c.args.w.now.bytes c.view-view.result.bytes.now 12 704 c.next_above-next.result c.view-view.ensures (omega arith) c.next_above-next.ensures.none c.next_above-next.ensures.named;
  };
}

pub loop-next-smaller : goal.loop-next-smaller
loop-next-smaller g c = fewer 12 c.in-Some.at c.loop-next.next c.next_above-next-in-Some.result c.in-Some.is c.loop-next.invariant.bounds c.next_above-next-in-Some.ensures.bounds

pub returns-then-len-at-clause-first : goal.returns-then-len-at-clause-first
returns-then-len-at-clause-first g c = λ gs links blocks.
    let bytes = c.args.w.now.bytes in
    let at = c.in-Some.at in
    let i = c.loop-next.invariant.searching gs links blocks in
    absurd (searched_always bytes gs c.args.need c.loop-next.link i.low at (reads bytes c.loop-next.link i.low at c.loop-next.next i.follows c.in-Some.is)
    (λ s is sized. omega (arith, is, sized.large, sized.inside, ap length c.view-view.ensures, c.len.ensures, c.if-len-at.true))
    i.searched)

pub returns-in_err-block-clause-first : goal.returns-in_err-block-clause-first
returns-in_err-block-clause-first g c = λ gs links blocks.
    let bytes = c.args.w.now.bytes in
    let at = c.in-Some.at in
    let i = c.loop-next.invariant.searching gs links blocks in
    absurd (searched_always bytes gs c.args.need c.loop-next.link i.low at (reads bytes c.loop-next.link i.low at c.loop-next.next i.follows c.in-Some.is)
    (λ s is sized.
    let units = header_units bytes c.view-view.result.bytes.now at c.read-header.result c.view-view.ensures c.read-header.ensures.inside s is sized in
    c.in_err-block.ensures (omega (arith, units, sized.large), omega (arith, is, units, sized.inside, c.len-len.ensures.len)))
    i.searched)

pub returns-then-header-need-clause-first : goal.returns-then-header-need-clause-first
returns-then-header-need-clause-first g c = λ gs links blocks.
    let bytes = c.args.w.now.bytes in
    let at = c.in-Some.at in
    let i = c.loop-next.invariant.searching gs links blocks in
    let stated = c.in_ok-block.ensures.1 in
    searched_found bytes gs c.args.need c.loop-next.link i.low at c.in_ok-block.block
    (reads bytes c.loop-next.link i.low at c.loop-next.next i.follows c.in-Some.is)
    (λ s is sized. (
      ap (λ (b : Block). b.at) stated ∙ is,
      ap (λ (b : Block). b.units) stated ∙ header_units bytes c.view-view.result.bytes.now at c.read-header.result c.view-view.ensures c.read-header.ensures.inside s is sized,
    ))
    (subst (λ n. c.args.need ≤ n) (sym (ap (λ (b : Block). b.units) stated)) c.if-header-need.true) i.searched

pub returns-then-header-need-clause-next : goal.returns-then-header-need-clause-next
returns-then-header-need-clause-next g c =
    let bytes = c.args.w.now.bytes in
    header_link bytes c.view-view.result.bytes.now c.in-Some.at c.read-header.result c.view-view.ensures c.read-header.ensures.inside c.read-header.ensures.past
    ∙ ap (λ (b : Block). link_at bytes b.at) (sym c.in_ok-block.ensures.1)

pub loop-next-preserved : goal.loop-next-preserved
loop-next-preserved g c =
    let bytes = c.args.w.now.bytes in
    let at = c.in-Some.at in
    let view = c.view-view.result.bytes.now in
    let header = c.read-header.result in
    let here = ahead_of 12 at c.loop-next.next c.in-Some.is c.loop-next.invariant.bounds in
    record {
      bounds = ahead 12 at c.next_above-next-in-Some.result (omega (arith, here.0)) c.next_above-next-in-Some.ensures.bounds;
      searching = λ gs links blocks.
          let i = c.loop-next.invariant.searching gs links blocks in
          record {
            low = at + 16;
            searched = searched_more bytes gs c.args.need c.loop-next.link i.low at (reads bytes c.loop-next.link i.low at c.loop-next.next i.follows c.in-Some.is)
                (λ s is sized. subst (λ n. n < c.args.need) (header_units bytes view at header c.view-view.ensures c.read-header.ensures.inside s is sized) c.if-header-need.false)
                i.searched;
            follows = follows bytes view at (at + 16) c.next_above-next-in-Some.result c.view-view.ensures (omega arith) c.next_above-next-in-Some.ensures.none c.next_above-next-in-Some.ensures.named;
          };
    }

pub returns-clause-first : goal.returns-clause-first
returns-clause-first g c = λ gs links blocks.
    let i = c.loop-next.invariant.searching gs links blocks in
    searched_end c.args.w.now.bytes gs c.args.need c.loop-next.link i.low (reads_none c.args.w.now.bytes c.loop-next.link i.low c.loop-next.next i.follows c.in_default.not-Some) i.searched
