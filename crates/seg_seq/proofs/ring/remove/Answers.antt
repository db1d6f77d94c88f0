use Rattle.std.proofs.Common.{◌≡◌, ◌+◌, ◌-◌, ◌%◌, ◌^◌, refl, ap, ◌∙◌, Some, None, eqb, arith}
use Rattle.std.specs.Option.{option_eq}
use Rattle.seg_spec.specs.Pointer.{target, set_pointer}
use Rattle.seg_spec.specs.Reads.{count_at, start}
use Rattle.seg_spec.specs.Window.{Placement}
use Rattle.seg_seq.specs.Rings.{coupled}
use Rattle.seg_seq.proofs.RingRemovalLaws.{removed_only, removed_first, removed_other}
use Rattle.seg_seq.proofs.ring.remove.Goals as goal

pub returns-then-nodes-eq0-clause-removed : goal.returns-then-nodes-eq0-clause-removed
returns-then-nodes-eq0-clause-removed g c = λ before after r s.
    let bytes = λ (p : Placement). p.bytes in
    let old = c.args.heap.now.window.bytes in
    let cell = c.args.cell in
    let k = c.saturating_sub-nodes.result in
    let k_is : k ≡ count_at old cell - 1 = let a = c.saturating_sub-nodes.ensures in let b = c.count.ensures in omega arith in
    let first = ap bytes c.set_count.ensures.window in
    let then = ap bytes c.point.ensures ∙ ap (λ (p : Placement). set_pointer p.bytes cell None) c.window_mut.ensures.value in
    let is = then ∙ ap (λ b. set_pointer b cell None) first in
    rw is (removed_only old cell c.args.node before after r s k k_is c.if-nodes-eq0.true)

pub returns-then-eq-clause-removed : goal.returns-then-eq-clause-removed
returns-then-eq-clause-removed g c = λ before after r s.
    let bytes = λ (p : Placement). p.bytes in
    let old = c.args.heap.now.window.bytes in
    let cell = c.args.cell in
    let node = c.args.node in
    let k = c.saturating_sub-nodes.result in
    let k_is : k ≡ count_at old cell - 1 = let a = c.saturating_sub-nodes.ensures in let b = c.count.ensures in omega arith in
    let next = c.neighbour-next.result in
    let previous = c.neighbour-prev.result in
    let first = ap bytes c.set_count.ensures.window in
    let next_is = c.neighbour-next.ensures ∙ ap (λ b. start b node) first in
    let previous_is = c.neighbour-prev.ensures ∙ ap (λ b. start b ((node + 4) % 2 ^ 32)) first in
    let then = ap bytes c.join.ensures ∙ ap (λ (p : Placement). coupled p.bytes previous next) c.window_mut-w.ensures.value ∙ ap (λ b. coupled b previous next) first in
    let test = c.eq.ensures ∙ ap (λ t. option_eq eqb t (Some node)) c.target.ensures ∙ ap (λ b. option_eq eqb (target b cell) (Some node)) then in
    let is = ap bytes c.point-then-eq.ensures ∙ ap (λ b. set_pointer b cell (Some next)) then in
    rw is (removed_first old cell node before after r s k k_is c.if-nodes-eq0.false next previous ((node + 4) % 2 ^ 32) refl next_is previous_is c.eq.result test c.if-eq.true)

pub returns-else-eq-clause-removed : goal.returns-else-eq-clause-removed
returns-else-eq-clause-removed g c = λ before after r s.
    let bytes = λ (p : Placement). p.bytes in
    let old = c.args.heap.now.window.bytes in
    let cell = c.args.cell in
    let node = c.args.node in
    let k = c.saturating_sub-nodes.result in
    let k_is : k ≡ count_at old cell - 1 = let a = c.saturating_sub-nodes.ensures in let b = c.count.ensures in omega arith in
    let next = c.neighbour-next.result in
    let previous = c.neighbour-prev.result in
    let first = ap bytes c.set_count.ensures.window in
    let next_is = c.neighbour-next.ensures ∙ ap (λ b. start b node) first in
    let previous_is = c.neighbour-prev.ensures ∙ ap (λ b. start b ((node + 4) % 2 ^ 32)) first in
    let then = ap bytes c.join.ensures ∙ ap (λ (p : Placement). coupled p.bytes previous next) c.window_mut-w.ensures.value ∙ ap (λ b. coupled b previous next) first in
    let test = c.eq.ensures ∙ ap (λ t. option_eq eqb t (Some node)) c.target.ensures ∙ ap (λ b. option_eq eqb (target b cell) (Some node)) then in
    rw then (removed_other old cell node before after r s k k_is c.if-nodes-eq0.false next previous ((node + 4) % 2 ^ 32) refl next_is previous_is c.eq.result test c.if-eq.false)
