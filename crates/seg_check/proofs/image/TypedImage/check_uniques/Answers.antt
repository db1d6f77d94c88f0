use Rattle.std.proofs.Common.{◌≡◌, ℕ, ◌+◌, true, false, Option, None, Some, Err, refl, sym, ap, ◌∙◌, subst, arith}
use Rattle.std.specs.Option.{is_some}
use Rattle.std.proofs.lemmas.Result.{err_from_is_err_and}
use Rattle.seg_check.specs.Roots.{uniques_ahead, AdvancesRoots, CanResolveRoots, StepsUniques}
use Rattle.seg_check.proofs.Blocks.CellClaimLaws.{ready_live}
use Rattle.seg_check.proofs.Blocks.LackingBlockLaws.{ready_allocated}
use Rattle.seg_check.proofs.Queue.QueueStepLaws.{refuses_map}
use Rattle.seg_check.proofs.Objects.RootReadLaws.{roots_none, roots_more, can_roots, ready_roots}
use Rattle.seg_check.proofs.Objects.UniqueObjectLaws.{from_type, unique_advance, unique_can, unique_lacks, unused_advance, all_unique}
use Rattle.seg_check.proofs.image.TypedImage.check_uniques.Goals as goal
use Rattle.seg_check.proofs.image.TypedImage.check_uniques.Goals.{then-is_some+in_ok-claim_entries, else-is_some}

some_of : (o : Option ℕ) → true ≡ is_some o → (p : ℕ) × (o ≡ Some p)
some_of None e = absurd (let no : true ≡ false = e in cc)
some_of (Some p) e = (p, refl)

none_of : (o : Option ℕ) → false ≡ is_some o → o ≡ None
none_of None e = refl
none_of (Some p) e = absurd (let no : false ≡ true = e in cc)

pub loop-t-init : goal.loop-t-init
loop-t-init g c = λ ready. roots_none c.args.self.now.bytes.bytes.now c.args.self.now.types.now c.args.claims.now uniques_ahead

pub loop-t-preserved : goal.loop-t-preserved
loop-t-preserved g c = λ ready.
    let bytes = c.args.self.now.bytes.bytes.now in
    let table = c.args.self.now.types.now in
    let old = c.args.claims.now in
    let mid = c.loop-t.claims in
    let T = c.loop-t.t in
    let done = c.loop-t.invariant ready in
    let now = ready_roots bytes table old mid uniques_ahead (from_type T) ready done in
    elim c.if-is_some.branch [
      | then-is_some+in_ok-claim_entries w ↦
          let step = unique_advance bytes table mid w.claim_entries.new.claims T _ (T + 1) _ w.object-content.result now c.loop-t-test.true w.word_of.ensures w.object-content.ensures.content
          w.in_ok-claim_entries.field-0 (omega arith) (w.in_ok-claim_entries.ensures.claimed (ready_live bytes table mid now)) in
          subst (λ k. AdvancesRoots bytes table old k uniques_ahead (from_type (T + 1))) (sym w.claims-is)
          (roots_more bytes table old mid w.claim_entries.new.claims uniques_ahead (from_type T) (from_type (T + 1)) done step)
      | else-is_some w ↦
          let step = unused_advance bytes table mid T (T + 1) c.loop-t-test.true (omega arith) (sym c.unique_in.ensures ∙ none_of c.unique_in.result (w.if-is_some.ensures)) in
          subst (λ k. AdvancesRoots bytes table old k uniques_ahead (from_type (T + 1))) (sym w.claims-is)
          (roots_more bytes table old mid mid uniques_ahead (from_type T) (from_type (T + 1)) done step)
    ]

pub returns-in_err-claim_entries : goal.returns-in_err-claim_entries
returns-in_err-claim_entries g c = λ ready.
    let bytes = c.args.self.now.bytes.bytes.now in
    let table = c.args.self.now.types.now in
    let old = c.args.claims.now in
    let mid = c.loop-t.claims in
    let T = c.loop-t.t in
    let done = c.loop-t.invariant ready in
    let now = ready_roots bytes table old mid uniques_ahead (from_type T) ready done in
    let e = c.in_err-claim_entries.field-0.0 in
    let failed = err_from_is_err_and c.from_residual.result c.from_residual.ensures.1 in
    let same : failed.0 ≡ e = failed.2 in
    let some = some_of c.unique_in.result c.if-is_some.ensures in
    subst (λ x. StepsUniques bytes table old c.claim_entries.new.claims x) (sym (failed.1 ∙ ap Err same)) (
      (refuses_map e _ (CanResolveRoots bytes table old uniques_ahead)
          (λ can. unique_can bytes table mid c.claim_entries.new.claims T _ (T + 1) _ c.object-content.result now c.loop-t-test.true c.word_of.ensures c.object-content.ensures.content some.0 (sym c.unique_in.ensures ∙ some.1)
          (can_roots bytes table old mid uniques_ahead (from_type T) done can))
          (c.in_err-claim_entries.ensures.refused (ready_live bytes table mid now))),
      unique_lacks bytes table mid c.claim_entries.new.claims T _ (T + 1) _ c.object-content.result now c.loop-t-test.true c.word_of.ensures c.object-content.ensures.content e
          (c.in_err-claim_entries.ensures.lacks (ready_allocated bytes table mid now)),
    )

pub returns : goal.returns
returns g c = λ ready. all_unique c.args.self.now.bytes.bytes.now c.args.self.now.types.now c.args.claims.now c.loop-t.claims c.loop-t.t c.loop-t-test.false (c.loop-t.invariant ready)
