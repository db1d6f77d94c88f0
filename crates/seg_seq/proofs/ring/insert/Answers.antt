use Rattle.std.proofs.Common.{◌+◌, ◌%◌, ◌^◌, min, refl, sym, ap, ◌∙◌, subst, Some}
use Rattle.seg_spec.specs.Bytes.{set_word}
use Rattle.seg_spec.specs.Pointer.{target, set_pointer}
use Rattle.seg_spec.specs.Window.{Placement}
use Rattle.seg_value.specs.Stored.{Stored}
use Rattle.seg_seq.specs.Rings.{coupled}
use Rattle.seg_seq.proofs.RingInsertionLaws.{Inserted, inserted_first, inserted_more, inserted_counted}
use Rattle.seg_seq.proofs.ring.insert.Goals as goal
use Rattle.seg_seq.proofs.ring.insert.Goals.{in-None, in-Some}

pub returns-clause-inserted : goal.returns-clause-inserted
returns-clause-inserted g c = λ nodes r s.
    let bytes = λ (p : Placement). p.bytes in
    let in_heap = λ (h : Stored). h.window.bytes in
    let old = c.args.heap.now.window.bytes in
    let cell = c.args.cell in
    let node = c.args.node in
    let mid = c.match-target.heap.window.bytes in
    let read = c.target.ensures ∙ ap (λ (p : Placement). target p.bytes cell) c.window.ensures in
    let inserted : Inserted old mid cell node nodes = elim c.match-target.branch [
      | in-None w ↦
          let first = ap bytes w.join.ensures ∙ ap (λ (p : Placement). coupled p.bytes node node) w.window_mut.ensures.value in
          let then = ap bytes w.point.ensures ∙ ap (λ (p : Placement). set_pointer p.bytes cell (Some node)) w.window_mut-in-None.ensures.value in
          let is = ap in_heap w.heap-is ∙ then ∙ ap (λ b. set_pointer b cell (Some node)) first in
          subst (λ b. Inserted old b cell node nodes) (sym is) (inserted_first old cell node nodes s r (sym read ∙ w.in-None.is))
      | in-Some w ↦
          let last = w.neighbour-last.result in
          let p = w.in-Some.first in
          let first = ap bytes w.join-in-Some.ensures ∙ ap (λ (p : Placement). coupled p.bytes last node) w.window_mut-in-Some.ensures.value in
          let then = ap bytes w.join-in-Some-2.ensures ∙ ap (λ (q : Placement). coupled q.bytes node p) w.window_mut-in-Some-2.ensures.value in
          let is = ap in_heap w.heap-is ∙ then ∙ ap (λ b. coupled b node p) first in
          subst (λ b. Inserted old b cell node nodes) (sym is) (inserted_more old cell node p ((p + 4) % 2 ^ 32) last nodes s r (sym read ∙ w.in-Some.is) refl w.neighbour-last.ensures)
    ] in
    let n = c.saturating_add-nodes.result in
    let n_is = c.saturating_add-nodes.ensures ∙ ap (λ k. min (k + 1) 4294967295) c.count.ensures in
    let new_is = ap bytes c.set_count.ensures.window ∙ ap (set_word mid (cell + 4)) n_is in
    rw new_is (inserted_counted old mid cell node nodes s r inserted)
