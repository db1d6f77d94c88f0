use Rattle.std.proofs.Common.{◌≡◌, ℕ, ◌+◌, ◌<◌, List, [], ◌∷◌, length, map, Ok, Err, Some, None, refl, sym, ap, ◌∙◌, subst, arith}
use Rattle.std.specs.Prelude.{IfErr, IfOk}
use Rattle.std.proofs.lemmas.Result.{err_from_is_err_and}
use Rattle.seg_spec.specs.Header.{index_cell}
use Rattle.seg_spec.specs.Shapes.{tree_words}
use Rattle.seg_check.specs.declared.walk.Visit.TheVariants.{Enter, Pass}
use Rattle.seg_spec.specs.Index.{OpensIndex}
use Rattle.seg_check.specs.Positions.{AreEntriesBefore, no_name}
use Rattle.seg_check.specs.Walks.{Completes, IsSteady, Proceeds}
use Rattle.seg_check.specs.Roots.{StepsIndex, AdvancesRoots, CanResolveRoots, CanResolveIndex, CanClaimTree, names_ahead}
use Rattle.seg_check.proofs.Queue.QueueStepLaws.{refuses_map}
use Rattle.seg_check.proofs.Objects.RootReadLaws.{can_roots, ready_roots}
use Rattle.seg_check.proofs.WalkStateLaws.{Followed, follow_start, steps_on}
use Rattle.seg_check.proofs.Contents.MapLaws.{ok_was, err_was}
use Rattle.seg_check.specs.Marks.{Known}
use Rattle.seg_check.proofs.Objects.TreeIndexLaws.{Named, named_start, named_next, named_inside, named_end, named_refused, named_enter, named_pass, tree_names, tree_advance, tree_ready, planted_index}
use Rattle.seg_check.proofs.image.TypedImage.check_tree_index.Goals as goal

pub returns-in_err-claim_index_nodes : goal.returns-in_err-claim_index_nodes
returns-in_err-claim_index_nodes g c = λ counted ready tree.
    let bytes = c.args.self.now.bytes.bytes.now in
    let table = c.args.self.now.types.now in
    let old = c.args.claims.now in
    let e = c.in_err-claim_index_nodes.field-0.0 in
    let failed = err_from_is_err_and c.from_residual.result c.from_residual.ensures.1 in
    let same : failed.0 ≡ e = failed.2 in
    subst (λ x. StepsIndex bytes table old c.claim_index_nodes.new.claims x) (sym (failed.1 ∙ ap Err same)) (
      (refuses_map e (CanClaimTree bytes old.unclaimed) (CanResolveIndex bytes table old) (planted_index bytes table old ready tree)
          (c.in_err-claim_index_nodes.ensures.refused refl counted ready)),
      c.in_err-claim_index_nodes.ensures.lacks refl counted tree ready,
    )

pub loop-visit-init : goal.loop-visit-init
loop-visit-init g c = record {
  same = c.walk-walk.ensures.bytes;
  named = (λ counted ready claimed.
      let bytes = c.args.self.now.bytes.bytes.now in
      let w = c.walk-walk.ensures in
      let stage = c.walk-walk.result.stage in
      let turns = c.walk-walk.result.turns in
      named_start bytes c.args.self.now.types.now c.args.claims.now ready c.claim_index_nodes.new.claims claimed stage turns
      (subst (λ n. Followed bytes index_cell n stage turns [] []) counted (follow_start bytes index_cell c.args.count stage turns w.steady w.turns w.starts)));
}

pub returns-in_err-visit : goal.returns-in_err-visit
returns-in_err-visit g c = λ counted ready tree.
    let bytes = c.args.self.now.bytes.bytes.now in
    let table = c.args.self.now.types.now in
    let old = c.args.claims.now in
    let start = c.claim_index_nodes.new.claims in
    let walk = c.loop-visit.walk in
    let claimed = c.in_ok-claim_index_nodes.ensures.claimed refl counted ready in
    let t = c.loop-visit.invariant.named counted ready claimed in
    let e = c.in_err-visit.field-0.0 in
    let was = err_was c.next.result c.map_err.result _ e c.in_err-visit.was c.map_err.ensures.cases in
    let refused = subst (λ (bs : List ℕ). IsSteady bs walk.stage walk.turns → IfErr c.next.result (λ _. (height : ℕ) (rest entering : List ℕ) → Completes bs height walk.stage rest entering → height < 30
    → length rest + length entering < walk.turns → ⊥)) c.loop-visit.invariant.same c.next.ensures.refused t.followed.steady in
    let never = subst (λ r. IfErr r (λ _. (height : ℕ) (rest entering : List ℕ) → Completes bytes height walk.stage rest entering → height < 30 → length rest + length entering < walk.turns → ⊥)) was.1 refused in
    absurd (named_refused bytes table old ready start claimed c.loop-visit.claims c.loop-visit.before.now walk.stage walk.turns t never)

pub loop-visit-preserved-in-Enter : goal.loop-visit-preserved-in-Enter
loop-visit-preserved-in-Enter g c = record {
  same = c.next.ensures.bytes ∙ c.loop-visit.invariant.same;
  named = (λ counted ready claimed.
      let bytes = c.args.self.now.bytes.bytes.now in
      let walk = c.loop-visit.walk in
      let new = c.next.new.self in
      let t = c.loop-visit.invariant.named counted ready claimed in
      let pointer = c.in-Enter.pointer in
      let was = ok_was c.next.result c.map_err.result _ c.in_ok-visit.field-0 c.in_ok-visit.was c.map_err.ensures.cases in
      let is : c.in_ok-visit.field-0 ≡ Some (Enter pointer) = c.in-Some.is ∙ ap Some c.in-Enter.is in
      let stepped = steps_on bytes walk.bytes.bytes.now new.bytes.bytes.now walk.stage new.stage walk.turns new.turns c.next.result (Enter pointer) (was ∙ ap Ok is) c.next.ensures.bytes
      c.loop-visit.invariant.same t.followed.steady c.next.ensures.fewer c.next.ensures.steady c.next.ensures.goes_on in
      subst (λ (k : Known). Named bytes c.args.self.now.types.now c.args.claims.now ready c.claim_index_nodes.new.claims claimed k c.loop-visit.before.now new.stage new.turns) (sym c.look_ahead.ensures)
      (named_enter bytes c.args.self.now.types.now c.args.claims.now ready c.claim_index_nodes.new.claims claimed
      c.loop-visit.claims c.loop-visit.before.now walk.stage walk.turns t new.stage new.turns stepped.0 stepped.1 pointer stepped.2));
}

pub loop-visit-preserved : goal.loop-visit-preserved
loop-visit-preserved g c = record {
  same = c.next.ensures.bytes ∙ c.loop-visit.invariant.same;
  named = (λ counted ready claimed.
      let bytes = c.args.self.now.bytes.bytes.now in
      let table = c.args.self.now.types.now in
      let old = c.args.claims.now in
      let start = c.claim_index_nodes.new.claims in
      let now = c.loop-visit.claims in
      let last = c.loop-visit.before.now in
      let walk = c.loop-visit.walk in
      let new = c.next.new.self in
      let node = c.in-Pass.node in
      let t = c.loop-visit.invariant.named counted ready claimed in
      let was = ok_was c.next.result c.map_err.result _ c.in_ok-visit.field-0 c.in_ok-visit.was c.map_err.ensures.cases in
      let is : c.in_ok-visit.field-0 ≡ Some (Pass node) = c.in-Some.is ∙ ap Some c.in-Pass.is in
      let stepped = steps_on bytes walk.bytes.bytes.now new.bytes.bytes.now walk.stage new.stage walk.turns new.turns c.next.result (Pass node) (was ∙ ap Ok is) c.next.ensures.bytes
      c.loop-visit.invariant.same t.followed.steady c.next.ensures.fewer c.next.ensures.steady c.next.ensures.goes_on in
      let next = named_next bytes table old ready start claimed now last walk.stage walk.turns t new.stage node stepped.2 in
      let inside = named_inside bytes table old ready start claimed now last walk.stage walk.turns t node next.0 next.1 in
      let small = ready.small in
      let rest = map (λ p. p + tree_words) next.0 in
      let at_is : c.entry_in.result ≡ node + tree_words = c.entry_in.ensures (omega arith) in
      let mid_ready = ready_roots bytes table start now (names_ahead claimed.index.entries []) (names_ahead (map (λ p. p + tree_words) t.rest) last) (tree_ready bytes table old ready start claimed) t.advances in
      let step = c.in_ok-before-in-Pass.ensures.claimed rest mid_ready in
      named_pass bytes table old ready start claimed now last walk.stage walk.turns t new.stage new.turns stepped.0 stepped.1 c.check_entry.new.claims c.in_ok-before-in-Pass.before.now node next.0 stepped.2 next.1
      (subst (λ a. AdvancesRoots bytes table now c.check_entry.new.claims (names_ahead (a ∷ rest) last) (names_ahead rest c.in_ok-before-in-Pass.before.now)) at_is step));
}

pub returns-in_err-before-in-Pass : goal.returns-in_err-before-in-Pass
returns-in_err-before-in-Pass g c = λ counted ready tree.
    let bytes = c.args.self.now.bytes.bytes.now in
    let table = c.args.self.now.types.now in
    let old = c.args.claims.now in
    let start = c.claim_index_nodes.new.claims in
    let now = c.loop-visit.claims in
    let last = c.loop-visit.before.now in
    let walk = c.loop-visit.walk in
    let new = c.next.new.self in
    let node = c.in-Pass.node in
    let claimed = c.in_ok-claim_index_nodes.ensures.claimed refl counted ready in
    let t = c.loop-visit.invariant.named counted ready claimed in
    let was = ok_was c.next.result c.map_err.result _ c.in_ok-visit.field-0 c.in_ok-visit.was c.map_err.ensures.cases in
    let is : c.in_ok-visit.field-0 ≡ Some (Pass node) = c.in-Some.is ∙ ap Some c.in-Pass.is in
    let stepped = steps_on bytes walk.bytes.bytes.now new.bytes.bytes.now walk.stage new.stage walk.turns new.turns c.next.result (Pass node) (was ∙ ap Ok is) c.next.ensures.bytes
    c.loop-visit.invariant.same t.followed.steady c.next.ensures.fewer c.next.ensures.steady c.next.ensures.goes_on in
    let next = named_next bytes table old ready start claimed now last walk.stage walk.turns t new.stage node stepped.2 in
    let inside = named_inside bytes table old ready start claimed now last walk.stage walk.turns t node next.0 next.1 in
    let small = ready.small in
    let rest = map (λ p. p + tree_words) next.0 in
    let at_is : c.entry_in.result ≡ node + tree_words = c.entry_in.ensures (omega arith) in
    let ahead = names_ahead (map (λ p. p + tree_words) t.rest) last in
    let mid_ready = ready_roots bytes table start now (names_ahead claimed.index.entries []) ahead (tree_ready bytes table old ready start claimed) t.advances in
    let e = c.in_err-before-in-Pass.field-0.0 in
    let failed = err_from_is_err_and c.from_residual-in_err-before-in-Pass.result c.from_residual-in_err-before-in-Pass.ensures.1 in
    let same : failed.0 ≡ e = failed.2 in
    subst (λ x. StepsIndex bytes table old c.check_entry.new.claims x) (sym (failed.1 ∙ ap Err same)) (
      (refuses_map e (CanResolveRoots bytes table now (names_ahead (c.entry_in.result ∷ rest) last)) (CanResolveIndex bytes table old)
          (λ can. subst (λ xs. CanResolveRoots bytes table now (names_ahead xs last)) (ap (map (λ p. p + tree_words)) next.1 ∙ sym (ap (λ a. a ∷ rest) at_is))
          (can_roots bytes table start now (names_ahead claimed.index.entries []) ahead t.advances (tree_names bytes table old ready start claimed tree can)))
          (c.in_err-before-in-Pass.ensures.refused rest mid_ready)),
      c.in_err-before-in-Pass.ensures.lacks mid_ready claimed.index rest
          (subst (λ k. OpensIndex bytes k claimed.index) (sym tree) claimed.opens)
          (subst (λ xs. AreEntriesBefore bytes table claimed.index.entries xs last) (ap (map (λ p. p + tree_words)) next.1 ∙ sym (ap (λ a. a ∷ rest) at_is))
          (t.advances.named claimed.index.entries (record { before = []; entries_are = refl; last = no_name }))),
    )

pub returns : goal.returns
returns g c = λ counted ready tree.
    let bytes = c.args.self.now.bytes.bytes.now in
    let table = c.args.self.now.types.now in
    let old = c.args.claims.now in
    let start = c.claim_index_nodes.new.claims in
    let now = c.loop-visit.claims in
    let last = c.loop-visit.before.now in
    let walk = c.loop-visit.walk in
    let new = c.next.new.self in
    let claimed = c.in_ok-claim_index_nodes.ensures.claimed refl counted ready in
    let t = c.loop-visit.invariant.named counted ready claimed in
    let was = ok_was c.next.result c.map_err.result _ c.in_ok-visit.field-0 c.in_ok-visit.was c.map_err.ensures.cases in
    let goes_on = subst (λ (bs : List ℕ). IsSteady bs walk.stage walk.turns → IfOk c.next.result (Proceeds bs walk.stage new.stage)) c.loop-visit.invariant.same c.next.ensures.goes_on t.followed.steady in
    let step : Proceeds bytes walk.stage new.stage None = subst (λ r. IfOk r (Proceeds bytes walk.stage new.stage)) (was ∙ ap Ok c.in_default.is) goes_on in
    let none = named_end bytes table old ready start claimed now last walk.stage walk.turns t new.stage step in
    tree_advance bytes table old ready start claimed tree now last
    (subst (λ xs. AdvancesRoots bytes table start now (names_ahead claimed.index.entries []) (names_ahead (map (λ p. p + tree_words) xs) last)) none t.advances)
