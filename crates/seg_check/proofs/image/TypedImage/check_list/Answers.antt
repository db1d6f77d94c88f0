use Rattle.std.proofs.Common.{◌≡◌, ℕ, ◌+◌, true, false, ◌∷◌, [], Ok, Err, Option, Some, None, eqb, sym, ap, ◌∙◌, subst, arith}
use Rattle.std.specs.Option.{option_eq}
use Rattle.std.proofs.lemmas.Bool.Decides.{nat_tests}
use Rattle.std.proofs.lemmas.Result.{err_from_is_err_and}
use Rattle.seg_spec.specs.Pointer.{target}
use Rattle.seg_spec.specs.Reads.{count_at}
use Rattle.seg_block.specs.Tags.{word_of}
use Rattle.seg_cells.specs.Places.{object_at}
use Rattle.seg_check.specs.Claiming.{HaveLiveHeaders, has_turns}
use Rattle.seg_check.specs.Resolving.{Steps}
use Rattle.seg_check.proofs.Queue.QueueStepLaws.{steps_refused}
use Rattle.seg_check.proofs.Blocks.CellClaimLaws.{ready_live}
use Rattle.seg_check.proofs.Blocks.LackingBlockLaws.{ready_allocated}
use Rattle.seg_check.proofs.Contents.NodeLaws.{claimed_ready}
use Rattle.seg_check.proofs.Contents.BufferLaws.{blocks_none, blocks_some, blocks_names}
use Rattle.seg_check.proofs.Contents.ListLaws.{walked_first, walked_more, walked_live, ring_advance, ring_nothing, ring_counted, ring_counted_lack, ring_lacks, first_lacks}
use Rattle.seg_check.proofs.Contents.ListLaws.{last_link, node_lacks, first_can, ring_closed, next_can, owner_claimed, owner_can, first_low, next_low}
use Rattle.seg_check.proofs.image.TypedImage.check_list.Goals as goal
use Rattle.seg_check.proofs.image.TypedImage.check_list.Goals.{then-is_linked, else-is_linked, then-eq, else-eq, else-is_linked-2-via-then-is_linked-2+else-is_closed, else-is_linked-2-via-else-is_linked-2}

false_true : false ≡ true → ⊥
false_true e = cc

eq_forth : (o : Option ℕ) (p : ℕ) → option_eq eqb o (Some p) ≡ true → o ≡ Some p
eq_forth None p e = cc
eq_forth (Some q) p e = let same : q ≡ p = grind (arith, nat_tests) in ap Some same

eq_back : (o : Option ℕ) (p : ℕ) → o ≡ Some p → option_eq eqb o (Some p) ≡ true
eq_back None p e = cc
eq_back (Some q) p e = let same : q ≡ p = cc in grind (arith, nat_tests)

pub returns-in_err-count-clause-steps : goal.returns-in_err-count-clause-steps
returns-in_err-count-clause-steps g c = λ T U by ready lies.
    let bytes = c.args.self.now.bytes.bytes.now in
    let table = c.args.self.now.types.now in
    let old = c.args.claims.now in
    let at = c.args.cell in
    let e = c.in_err-count.field-0.0 in
    let failed = err_from_is_err_and c.from_residual.result c.from_residual.ensures.1 in
    let same : failed.0 ≡ e = failed.2 in
    subst (λ r. Steps bytes table old old (object_at at T ∷ []) r) (sym (failed.1 ∙ ap Err same))
    (let was = sym c.counted_blocks.ensures ∙ c.in_err-count.was in (ring_counted bytes table old ready at T U by.form_is e was, ring_counted_lack bytes table old ready at T U by.form_is e lies was))

pub loop-init : goal.loop-init
loop-init g c = record {
  taken = c.in_ok-first.ensures.taken;
  walked = (λ T U by ready.
      let bytes = c.args.self.now.bytes.bytes.now in
      let table = c.args.self.now.types.now in
      let old = c.args.claims.now in
      let o = c.owner-owner.ensures in
      let is = by.content_of in
      let live = subst (λ bs. HaveLiveHeaders bs old.unclaimed) (sym o.bytes) (ready_live bytes table old ready) in
      walked_first bytes table old ready c.args.cell T U by.form_is c.claim.new.claims c.in_ok-first.first
      (owner_claimed bytes table old ready c.args.cell T U by.form_is c.owner-owner.result.bytes.bytes.now (word_of c.owner-owner.result.tag) c.owner-owner.result.entry_size c.owner-owner.result.has_turns
      o.bytes (ap word_of o.tag ∙ is.tag_is) (o.entry_size ∙ is.entry_is.size_is) (o.has_turns
      ∙ ap (has_turns table) is.entry_is.held_is) old c.claim.new.claims c.args.cell c.in_ok-first.first (c.in_ok-first.ensures.claimed live)));
}

pub loop-preserved : goal.loop-preserved
loop-preserved g c = record {
  taken = c.in_ok-next.ensures.taken ∙ c.loop.invariant.taken;
  walked = (λ T U by ready.
      let bytes = c.args.self.now.bytes.bytes.now in
      let table = c.args.self.now.types.now in
      let old = c.args.claims.now in
      let mid = c.loop.claims in
      let new = c.claim-in-loop.new.claims in
      let first = c.in_ok-first.first in
      let last = c.loop.last in
      let next = c.in_ok-next.next in
      let n = c.loop.counter in
      let o = c.owner-owner.ensures in
      let is = by.content_of in
      let w = c.loop.invariant.walked T U by ready in
      let live : HaveLiveHeaders bytes mid.unclaimed = walked_live bytes table old ready c.args.cell T U by.form_is mid first last n c.loop.is_linked w in
      let k = owner_claimed bytes table old ready c.args.cell T U by.form_is c.owner-owner.result.bytes.bytes.now (word_of c.owner-owner.result.tag) c.owner-owner.result.entry_size c.owner-owner.result.has_turns
      o.bytes (ap word_of o.tag ∙ is.tag_is) (o.entry_size ∙ is.entry_is.size_is) (o.has_turns ∙ ap (has_turns table) is.entry_is.held_is) mid new last next
      (c.in_ok-next.ensures.claimed (subst (λ bs. HaveLiveHeaders bs mid.unclaimed) (sym o.bytes) live)) in
      let low = next_low bytes table old ready c.args.cell T U by.form_is mid new first last next n c.loop.is_linked w k in
      walked_more bytes table old ready c.args.cell T U by.form_is mid new first last next n c.loop.is_linked c.if-is_linked.is_linked w k
      (elim c.if-is_linked.branch [
        | then-is_linked w ↦ (
          (λ e. (w.if-is_linked.true, (w.is_previous-is_linked.ensures low).0 (sym w.is_linked-is ∙ e))),
          (λ both. w.is_linked-is ∙ (w.is_previous-is_linked.ensures low).1 both.1),
        )
        | else-is_linked w ↦ (
          (λ e. absurd (false_true (sym w.if-is_linked.false ∙ sym w.is_linked-is ∙ e))),
          (λ both. absurd (false_true (sym w.if-is_linked.false ∙ both.0))),
        )
      ]));
}

pub returns-in_default-clause-steps : goal.returns-in_default-clause-steps
returns-in_default-clause-steps g c = λ T U by ready lies.
    let bytes = c.args.self.now.bytes.bytes.now in
    let at = c.args.cell in
    let none = blocks_none at (count_at bytes at) (target bytes at) (sym c.counted_blocks.ensures ∙ c.in_ok-count.was ∙ ap Ok c.in_default.is) in
    ring_nothing bytes c.args.self.now.types.now c.args.claims.now ready at T U by.form_is none.0 none.1

pub returns-in_err-first-clause-steps : goal.returns-in_err-first-clause-steps
returns-in_err-first-clause-steps g c = λ T U by ready lies.
    let bytes = c.args.self.now.bytes.bytes.now in
    let table = c.args.self.now.types.now in
    let old = c.args.claims.now in
    let at = c.args.cell in
    let o = c.owner-owner.ensures in
    let is = by.content_of in
    let e = c.in_err-first.field-0.0 in
    let failed = err_from_is_err_and c.from_residual-in_err-first.result c.from_residual-in_err-first.ensures.1 in
    let same : failed.0 ≡ e = failed.2 in
    let counts = sym c.counted_blocks.ensures ∙ c.in_ok-count.was ∙ ap Ok c.in-Some.is in
    let names = blocks_names at (count_at bytes at) c.in-Some.count (target bytes at) counts in
    let live = subst (λ bs. HaveLiveHeaders bs old.unclaimed) (sym o.bytes) (ready_live bytes table old ready) in
    steps_refused bytes table old c.claim.new.claims (object_at at T ∷ []) c.from_residual-in_err-first.result e _ (failed.1 ∙ ap Err same)
    (λ r. owner_can bytes table old ready at T U by.form_is c.owner-owner.result.bytes.bytes.now (word_of c.owner-owner.result.tag) c.owner-owner.result.entry_size
    o.bytes (ap word_of o.tag ∙ is.tag_is) (o.entry_size ∙ is.entry_is.size_is) old at (first_can bytes table old ready at T U by.form_is names.0 names.1 r))
    (c.in_err-first.ensures.refused live)
    (first_lacks bytes table old ready at T U by.form_is c.owner-owner.result.bytes.bytes.now (word_of c.owner-owner.result.tag) c.owner-owner.result.entry_size
    o.bytes (ap word_of o.tag ∙ is.tag_is) (o.entry_size ∙ is.entry_is.size_is) lies e
    (c.in_err-first.ensures.lacks (subst (λ bs. HaveLiveHeaders bs old.allocated) (sym o.bytes) (ready_allocated bytes table old ready))))

pub returns-in_err-next-clause-steps : goal.returns-in_err-next-clause-steps
returns-in_err-next-clause-steps g c = λ T U by ready lies.
    let bytes = c.args.self.now.bytes.bytes.now in
    let table = c.args.self.now.types.now in
    let old = c.args.claims.now in
    let mid = c.loop.claims in
    let at = c.args.cell in
    let first = c.in_ok-first.first in
    let o = c.owner-owner.ensures in
    let is = by.content_of in
    let w = c.loop.invariant.walked T U by ready in
    let e = c.in_err-next.field-0.0 in
    let failed = err_from_is_err_and c.from_residual-in_err-next.result c.from_residual-in_err-next.ensures.1 in
    let same : failed.0 ≡ e = failed.2 in
    let n_is = blocks_some at (count_at bytes at) c.in-Some.count (target bytes at) (sym c.counted_blocks.ensures ∙ c.in_ok-count.was ∙ ap Ok c.in-Some.is) in
    let names = subst (λ bs. target bs at ≡ Some first) o.bytes (c.in_ok-first.ensures.claimed (subst (λ bs. HaveLiveHeaders bs old.unclaimed) (sym o.bytes) (ready_live bytes table old ready))).names in
    let live : HaveLiveHeaders bytes mid.unclaimed = walked_live bytes table old ready at T U by.form_is mid first c.loop.last c.loop.counter c.loop.is_linked w in
    steps_refused bytes table old c.claim-in-loop.new.claims (object_at at T ∷ []) c.from_residual-in_err-next.result e _ (failed.1 ∙ ap Err same)
    (λ r. owner_can bytes table old ready at T U by.form_is c.owner-owner.result.bytes.bytes.now (word_of c.owner-owner.result.tag) c.owner-owner.result.entry_size
    o.bytes (ap word_of o.tag ∙ is.tag_is) (o.entry_size ∙ is.entry_is.size_is) mid c.loop.last
    (next_can bytes table old ready at T U by.form_is mid first c.loop.last c.loop.counter c.loop.is_linked w names (omega (arith, c.loop-test.true, n_is.0)) r))
    (c.in_err-next.ensures.refused (subst (λ bs. HaveLiveHeaders bs mid.unclaimed) (sym o.bytes) live))
    (let now = claimed_ready bytes table old ready T 8 U mid _ w.claimed in
    node_lacks bytes table old ready at T U by.form_is c.owner-owner.result.bytes.bytes.now (word_of c.owner-owner.result.tag) c.owner-owner.result.entry_size
    o.bytes (ap word_of o.tag ∙ is.tag_is) (o.entry_size ∙ is.entry_is.size_is) mid now lies c.loop.last (last_link bytes table old ready at T U by.form_is mid first c.loop.last c.loop.counter c.loop.is_linked w) e
    (c.in_err-next.ensures.lacks (subst (λ bs. HaveLiveHeaders bs mid.allocated) (sym o.bytes) (ready_allocated bytes table mid now))))

pub returns-then-is_closed-clause-steps : goal.returns-then-is_closed-clause-steps
returns-then-is_closed-clause-steps g c = λ T U by ready lies.
    let bytes = c.args.self.now.bytes.bytes.now in
    let table = c.args.self.now.types.now in
    let old = c.args.claims.now in
    let at = c.args.cell in
    let first = c.in_ok-first.first in
    let last = c.loop.last in
    let o = c.owner-owner.ensures in
    let w = c.loop.invariant.walked T U by ready in
    let n_is = blocks_some at (count_at bytes at) c.in-Some.count (target bytes at) (sym c.counted_blocks.ensures ∙ c.in_ok-count.was ∙ ap Ok c.in-Some.is) in
    let names = subst (λ bs. target bs at ≡ Some first) o.bytes (c.in_ok-first.ensures.claimed (subst (λ bs. HaveLiveHeaders bs old.unclaimed) (sym o.bytes) (ready_live bytes table old ready))).names in
    let all : c.loop.counter ≡ count_at bytes at = omega (arith, c.loop-test.false, c.loop.auto.counter-end, n_is.0, n_is.1) in
    let low = first_low bytes table old ready at T U by.form_is c.loop.claims first last c.loop.counter c.loop.is_linked w in
    let closed : (target bytes last ≡ Some first) × (target bytes (first + 4) ≡ Some last) = elim c.if-eq.branch [
      | then-eq w ↦ (
        sym c.target.ensures ∙ eq_forth c.target.result first (sym c.eq.ensures ∙ w.if-eq.true),
        (w.is_previous-is_closed.ensures low).0 (sym w.is_closed-is ∙ c.if-is_closed.true),
      )
      | else-eq w ↦ absurd (false_true (sym w.if-eq.false ∙ sym w.is_closed-is ∙ c.if-is_closed.true))
    ] in
    ring_advance bytes table old ready at T U by.form_is c.loop.claims first last c.loop.counter c.loop.is_linked w lies names all c.if-is_linked-2.true closed.0 closed.1

pub returns-else-is_linked-2-clause-steps : goal.returns-else-is_linked-2-clause-steps
returns-else-is_linked-2-clause-steps g c = λ T U by ready lies.
    let bytes = c.args.self.now.bytes.bytes.now in
    let table = c.args.self.now.types.now in
    let old = c.args.claims.now in
    let at = c.args.cell in
    let first = c.in_ok-first.first in
    let last = c.loop.last in
    let o = c.owner-owner.ensures in
    let walked = c.loop.invariant.walked T U by ready in
    let n_is = blocks_some at (count_at bytes at) c.in-Some.count (target bytes at) (sym c.counted_blocks.ensures ∙ c.in_ok-count.was ∙ ap Ok c.in-Some.is) in
    let names = subst (λ bs. target bs at ≡ Some first) o.bytes (c.in_ok-first.ensures.claimed (subst (λ bs. HaveLiveHeaders bs old.unclaimed) (sym o.bytes) (ready_live bytes table old ready))).names in
    let all : c.loop.counter ≡ count_at bytes at = omega (arith, c.loop-test.false, c.loop.auto.counter-end, n_is.0, n_is.1) in
    let low = first_low bytes table old ready at T U by.form_is c.loop.claims first last c.loop.counter c.loop.is_linked walked in
    let never : (c.loop.is_linked ≡ true) × (target bytes last ≡ Some first) × (target bytes (first + 4) ≡ Some last) → ⊥ = λ closed.
    let next = c.target.ensures ∙ closed.1 in
    elim c.else-is_linked-2.branch [
      | else-is_linked-2-via-then-is_linked-2+else-is_closed w ↦ elim c.if-eq.branch [
        | then-eq v ↦ false_true (sym w.if-is_closed.false ∙ v.is_closed-is ∙ (v.is_previous-is_closed.ensures low).1 closed.2)
        | else-eq v ↦ false_true (sym v.if-eq.false ∙ c.eq.ensures ∙ eq_back c.target.result first next)
      ]
      | else-is_linked-2-via-else-is_linked-2 w ↦ false_true (sym w.if-is_linked-2.false ∙ closed.0)
    ] in (
      (λ r. never (ring_closed bytes table old ready at T U by.form_is c.loop.claims first last c.loop.counter c.loop.is_linked walked names all r)),
      ring_lacks bytes table old ready at T U by.form_is c.loop.claims first last c.loop.counter c.loop.is_linked walked lies names all never,
    )
