use Rattle.std.proofs.Common.{ℕ, ◌-◌, ◌≤◌, Option, sym, subst}
use Rattle.std.specs.Prelude.{IsSomeAnd}
use Rattle.std.specs.Option.{IfSome}
use Rattle.seg_spec.specs.Value.{count}
use Rattle.seg_value.specs.CellPlaces.{place_of}
use Rattle.seg_seq.specs.Sequences.{ShowsItem}
use Rattle.seg_image.proofs.IteratorLaws.{next_index, shown}
use Rattle.seg_image.proofs.iterators.item_after.Goals as goal

pub returns-in-Some-clause-list : goal.returns-in-Some-clause-list
returns-in-Some-clause-list g c = λ U vs blocks has below before.
    let stored = g.S.SegmentRead.stored c.args.image.now in
    let list = place_of c.args.sequence in
    let index = c.args.index in
    let last = subst (λ (o : Option ℕ). IfSome o (λ at. (1 ≤ index) × ShowsItem stored list U (index - 1) at)) c.in-Some.is before in
    let next = c.next.ensures (g.S.SegmentRead.allocator c.args.image.now) U (index - 1) list vs blocks has last.1 in
    subst (λ i. ShowsItem stored list U i c.next.result) (next_index (count vs) index last.0 below) next

pub returns-in-None-clause-vector : goal.returns-in-None-clause-vector
returns-in-None-clause-vector g c = λ U vs blocks has below none.
    let shows = ShowsItem (g.S.SegmentRead.stored c.args.image.now) (place_of c.args.sequence) U c.args.index in
    subst (λ (o : Option ℕ). IsSomeAnd o shows) (sym c.ok.ensures.value) (shown shows c.args.index (count vs) c.at.result below (c.at.ensures.vector U vs blocks has))

pub returns-in-None-clause-list : goal.returns-in-None-clause-list
returns-in-None-clause-list g c = λ U vs blocks has below before.
    let shows = ShowsItem (g.S.SegmentRead.stored c.args.image.now) (place_of c.args.sequence) U c.args.index in
    subst (λ (o : Option ℕ). IsSomeAnd o shows) (sym c.ok.ensures.value) (shown shows c.args.index (count vs) c.at.result below (c.at.ensures.list U vs blocks has))
