use Rattle.std.proofs.Common.{◌≡◌, ℕ, ◌+◌, ◌<◌, List, [], length, Ok, Err, Some, None, sym, ap, ◌∙◌, subst}
use Rattle.std.specs.Prelude.{IfErr, IfOk}
use Rattle.std.proofs.lemmas.Result.{err_from_is_err_and}
use Rattle.seg_spec.specs.Header.{index_cell}
use Rattle.seg_check.specs.declared.fault.ContentFault.TheVariants.{BadIndex}
use Rattle.seg_check.specs.declared.walk.Visit.TheVariants.{Enter, Pass}
use Rattle.seg_check.specs.Claiming.{Refutes}
use Rattle.seg_check.specs.Walks.{Completes, IsSteady, Proceeds}
use Rattle.seg_check.specs.Roots.{CanClaimTree}
use Rattle.seg_check.proofs.Queue.QueueStepLaws.{refuses_map}
use Rattle.seg_check.proofs.WalkStateLaws.{Followed, follow_start, steps_on, moves_on}
use Rattle.seg_check.proofs.PlacedWalkLaws.{placed_link}
use Rattle.seg_check.proofs.Contents.MapLaws.{ok_was, err_was}
use Rattle.seg_check.specs.Marks.{Known}
use Rattle.seg_check.proofs.Objects.TreeIndexLaws.{Traced, traced_start, traced_enter, traced_pass, traced_end, traced_live, traced_refused, traced_lacks, traced_ready, traced_can, index_node_claimed, index_node_can, index_node_lacks}
use Rattle.seg_check.proofs.Blocks.LackingBlockLaws.{ready_allocated}
use Rattle.seg_check.specs.Positions.{LacksAt}
use Rattle.seg_check.proofs.image.TypedImage.claim_index_nodes.Goals as goal

pub loop-visit-init : goal.loop-visit-init
loop-visit-init g c = record {
  root = c.walk-walk.ensures.root;
  same = c.walk-walk.ensures.bytes;
  traced = (λ root nodes ready.
      let bytes = c.args.self.now.bytes.bytes.now in
      let w = c.walk-walk.ensures in
      let stage = c.walk-walk.result.stage in
      let turns = c.walk-walk.result.turns in
      traced_start bytes c.args.self.now.types.now c.args.claims.now ready stage turns
      (subst (λ n. Followed bytes index_cell n stage turns [] []) nodes (subst (λ r. Followed bytes r c.args.tree.nodes stage turns [] []) root
      (follow_start bytes c.args.tree.root c.args.tree.nodes stage turns w.steady w.turns w.starts))) (w.pointer ∙ root) w.entered);
}

pub returns-in_err-visit-clause-refused : goal.returns-in_err-visit-clause-refused
returns-in_err-visit-clause-refused g c = λ root nodes ready.
    let bytes = c.args.self.now.bytes.bytes.now in
    let table = c.args.self.now.types.now in
    let old = c.args.claims.now in
    let walk = c.loop-visit.walk in
    let t = c.loop-visit.invariant.traced root nodes ready in
    let P = CanClaimTree bytes old.unclaimed in
    let e = c.in_err-visit.field-0.0 in
    let failed = err_from_is_err_and c.from_residual.result c.from_residual.ensures.1 in
    let same : failed.0 ≡ e = failed.2 in
    let was = err_was c.next.result c.map_err.result _ e c.in_err-visit.was c.map_err.ensures.cases in
    let refused = subst (λ (bs : List ℕ). IsSteady bs walk.stage walk.turns → IfErr c.next.result (λ _. (height : ℕ) (rest entering : List ℕ) → Completes bs height walk.stage rest entering → height < 30
    → length rest + length entering < walk.turns → ⊥)) c.loop-visit.invariant.same c.next.ensures.refused t.followed.steady in
    let never = subst (λ r. IfErr r (λ _. (height : ℕ) (rest entering : List ℕ) → Completes bytes height walk.stage rest entering → height < 30 → length rest + length entering < walk.turns → ⊥)) was.1 refused in
    let fault : e ≡ BadIndex was.0 = was.2 in
    subst (λ x. IfErr x (λ f. Refutes f P)) (sym (failed.1 ∙ ap Err (same ∙ fault))) (traced_refused bytes table old ready c.loop-visit.claims walk.stage walk.turns t never)

pub returns-in_err-visit-clause-lacks : goal.returns-in_err-visit-clause-lacks
returns-in_err-visit-clause-lacks g c = λ root nodes kind ready.
    let bytes = c.args.self.now.bytes.bytes.now in
    let table = c.args.self.now.types.now in
    let walk = c.loop-visit.walk in
    let t = c.loop-visit.invariant.traced root nodes ready in
    let e = c.in_err-visit.field-0.0 in
    let failed = err_from_is_err_and c.from_residual.result c.from_residual.ensures.1 in
    let same : failed.0 ≡ e = failed.2 in
    let was = err_was c.next.result c.map_err.result _ e c.in_err-visit.was c.map_err.ensures.cases in
    let refused = subst (λ (bs : List ℕ). IsSteady bs walk.stage walk.turns → IfErr c.next.result (λ _. (height : ℕ) (rest entering : List ℕ) → Completes bs height walk.stage rest entering → height < 30
    → length rest + length entering < walk.turns → ⊥)) c.loop-visit.invariant.same c.next.ensures.refused t.followed.steady in
    let never = subst (λ r. IfErr r (λ _. (height : ℕ) (rest entering : List ℕ) → Completes bytes height walk.stage rest entering → height < 30 → length rest + length entering < walk.turns → ⊥)) was.1 refused in
    let position : was.0 ≡ index_cell = subst (λ r. IfErr r (λ x. x ≡ walk.root)) was.1 c.next.ensures.position ∙ c.loop-visit.invariant.root ∙ root in
    let fault : e ≡ BadIndex index_cell = was.2 ∙ ap BadIndex position in
    subst (λ x. IfErr x (LacksAt bytes table)) (sym (failed.1 ∙ ap Err (same ∙ fault))) (traced_lacks bytes table c.args.claims.now ready c.loop-visit.claims walk.stage walk.turns t kind never)

pub returns-in_err-claim_entries-clause-lacks : goal.returns-in_err-claim_entries-clause-lacks
returns-in_err-claim_entries-clause-lacks g c = λ root nodes kind ready.
    let bytes = c.args.self.now.bytes.bytes.now in
    let table = c.args.self.now.types.now in
    let old = c.args.claims.now in
    let mid = c.loop-visit.claims in
    let walk = c.loop-visit.walk in
    let t = c.loop-visit.invariant.traced root nodes ready in
    let said = c.index_node-content.ensures in
    let e = c.in_err-claim_entries.field-0.0 in
    let failed = err_from_is_err_and c.from_residual-in_err-claim_entries.result c.from_residual-in_err-claim_entries.ensures.1 in
    let same : failed.0 ≡ e = failed.2 in
    let new = c.next.new.self in
    let was = ok_was c.next.result c.map_err.result _ c.in_ok-visit.field-0 c.in_ok-visit.was c.map_err.ensures.cases in
    let is : c.in_ok-visit.field-0 ≡ Some (Enter c.in-Enter.pointer) = c.in-Some.is ∙ ap Some c.in-Enter.is in
    let link = placed_link bytes table old ready _ _ index_cell walk.stage new.stage c.in-Enter.pointer t.placed
    (moves_on bytes walk.bytes.bytes.now walk.stage new.stage c.next.result (Enter c.in-Enter.pointer) (was ∙ ap Ok is) c.loop-visit.invariant.same c.next.ensures.moves) in
    let now = traced_ready bytes table old ready mid walk.stage walk.turns t in
    subst (λ x. IfErr x (LacksAt bytes table)) (sym (failed.1 ∙ ap Err same))
    (index_node_lacks bytes table old ready mid c.claim_entries.new.claims c.in-Enter.pointer 0 c.index_node-content.result said.tag_is said.size_is said.held_is kind now link e
    (c.in_err-claim_entries.ensures.lacks (ready_allocated bytes table mid now)))

pub loop-visit-preserved-in-Enter : goal.loop-visit-preserved-in-Enter
loop-visit-preserved-in-Enter g c = record {
  root = c.next.ensures.root ∙ c.loop-visit.invariant.root;
  same = c.next.ensures.bytes ∙ c.loop-visit.invariant.same;
  traced = (λ root nodes ready.
      let bytes = c.args.self.now.bytes.bytes.now in
      let table = c.args.self.now.types.now in
      let old = c.args.claims.now in
      let mid = c.loop-visit.claims in
      let walk = c.loop-visit.walk in
      let new = c.next.new.self in
      let t = c.loop-visit.invariant.traced root nodes ready in
      let said = c.index_node-content.ensures in
      let was = ok_was c.next.result c.map_err.result _ c.in_ok-visit.field-0 c.in_ok-visit.was c.map_err.ensures.cases in
      let is : c.in_ok-visit.field-0 ≡ Some (Enter c.in-Enter.pointer) = c.in-Some.is ∙ ap Some c.in-Enter.is in
      let stepped = steps_on bytes walk.bytes.bytes.now new.bytes.bytes.now walk.stage new.stage walk.turns new.turns c.next.result (Enter c.in-Enter.pointer) (was ∙ ap Ok is) c.next.ensures.bytes
      c.loop-visit.invariant.same t.followed.steady c.next.ensures.fewer c.next.ensures.steady c.next.ensures.goes_on in
      subst (λ (k : Known). Traced bytes table old ready k new.stage new.turns) (sym c.look_ahead.ensures)
      (traced_enter bytes table old ready mid walk.stage walk.turns t new.stage new.turns stepped.0 stepped.1 c.claim_entries.new.claims c.in-Enter.pointer c.in_ok-claim_entries.field-0 stepped.2
      (moves_on bytes walk.bytes.bytes.now walk.stage new.stage c.next.result (Enter c.in-Enter.pointer) (was ∙ ap Ok is) c.loop-visit.invariant.same c.next.ensures.moves)
      (index_node_claimed bytes table old ready mid c.claim_entries.new.claims c.in-Enter.pointer c.in_ok-claim_entries.field-0 c.index_node-content.result said.tag_is said.size_is said.held_is
      (c.in_ok-claim_entries.ensures.claimed (traced_live bytes table old ready mid walk.stage walk.turns t)))));
}

pub returns-in_err-claim_entries-clause-refused : goal.returns-in_err-claim_entries-clause-refused
returns-in_err-claim_entries-clause-refused g c = λ root nodes ready.
    let bytes = c.args.self.now.bytes.bytes.now in
    let table = c.args.self.now.types.now in
    let old = c.args.claims.now in
    let mid = c.loop-visit.claims in
    let walk = c.loop-visit.walk in
    let new = c.next.new.self in
    let t = c.loop-visit.invariant.traced root nodes ready in
    let said = c.index_node-content.ensures in
    let content = c.index_node-content.result in
    let P = CanClaimTree bytes old.unclaimed in
    let e = c.in_err-claim_entries.field-0.0 in
    let failed = err_from_is_err_and c.from_residual-in_err-claim_entries.result c.from_residual-in_err-claim_entries.ensures.1 in
    let same : failed.0 ≡ e = failed.2 in
    let was = ok_was c.next.result c.map_err.result _ c.in_ok-visit.field-0 c.in_ok-visit.was c.map_err.ensures.cases in
    let is : c.in_ok-visit.field-0 ≡ Some (Enter c.in-Enter.pointer) = c.in-Some.is ∙ ap Some c.in-Enter.is in
    let stepped = steps_on bytes walk.bytes.bytes.now new.bytes.bytes.now walk.stage new.stage walk.turns new.turns c.next.result (Enter c.in-Enter.pointer) (was ∙ ap Ok is) c.next.ensures.bytes
    c.loop-visit.invariant.same t.followed.steady c.next.ensures.fewer c.next.ensures.steady c.next.ensures.goes_on in
    subst (λ x. IfErr x (λ f. Refutes f P)) (sym (failed.1 ∙ ap Err same))
    (refuses_map e _ P
    (λ can. index_node_can bytes table old ready mid c.claim_entries.new.claims c.in-Enter.pointer 0 content said.tag_is said.size_is said.held_is
    (traced_can bytes table old ready mid walk.stage walk.turns t new.stage c.in-Enter.pointer stepped.2 can))
    (c.in_err-claim_entries.ensures.refused (traced_live bytes table old ready mid walk.stage walk.turns t)))

pub loop-visit-preserved : goal.loop-visit-preserved
loop-visit-preserved g c = record {
  root = c.next.ensures.root ∙ c.loop-visit.invariant.root;
  same = c.next.ensures.bytes ∙ c.loop-visit.invariant.same;
  traced = (λ root nodes ready.
      let bytes = c.args.self.now.bytes.bytes.now in
      let walk = c.loop-visit.walk in
      let new = c.next.new.self in
      let t = c.loop-visit.invariant.traced root nodes ready in
      let node = c.in_default-visit.field-0 in
      let was = ok_was c.next.result c.map_err.result _ c.in_ok-visit.field-0 c.in_ok-visit.was c.map_err.ensures.cases in
      let is : c.in_ok-visit.field-0 ≡ Some (Pass node) = c.in-Some.is ∙ ap Some c.in_default-visit.is in
      let stepped = steps_on bytes walk.bytes.bytes.now new.bytes.bytes.now walk.stage new.stage walk.turns new.turns c.next.result (Pass node) (was ∙ ap Ok is) c.next.ensures.bytes
      c.loop-visit.invariant.same t.followed.steady c.next.ensures.fewer c.next.ensures.steady c.next.ensures.goes_on in
      traced_pass bytes c.args.self.now.types.now c.args.claims.now ready c.loop-visit.claims walk.stage walk.turns t new.stage new.turns stepped.0 stepped.1 node stepped.2
      (moves_on bytes walk.bytes.bytes.now walk.stage new.stage c.next.result (Pass node) (was ∙ ap Ok is) c.loop-visit.invariant.same c.next.ensures.moves));
}

pub returns-clause-claimed : goal.returns-clause-claimed
returns-clause-claimed g c = λ root nodes ready.
    let bytes = c.args.self.now.bytes.bytes.now in
    let walk = c.loop-visit.walk in
    let new = c.next.new.self in
    let t = c.loop-visit.invariant.traced root nodes ready in
    let was = ok_was c.next.result c.map_err.result _ c.in_ok-visit.field-0 c.in_ok-visit.was c.map_err.ensures.cases in
    let goes_on = subst (λ (bs : List ℕ). IsSteady bs walk.stage walk.turns → IfOk c.next.result (Proceeds bs walk.stage new.stage)) c.loop-visit.invariant.same c.next.ensures.goes_on t.followed.steady in
    let step : Proceeds bytes walk.stage new.stage None = subst (λ r. IfOk r (Proceeds bytes walk.stage new.stage)) (was ∙ ap Ok c.in_default.is) goes_on in
    traced_end bytes c.args.self.now.types.now c.args.claims.now ready c.loop-visit.claims walk.stage walk.turns t new.stage step
