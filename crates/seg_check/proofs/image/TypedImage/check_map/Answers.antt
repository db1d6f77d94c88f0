use Rattle.std.proofs.Common.{◌≡◌, ℕ, ◌+◌, ◌<◌, ◌++◌, ◌∷◌, List, [], length, map, Ok, Err, Some, None, refl, sym, ap, ◌∙◌, subst, ℤ, w64}
use Rattle.std.specs.Prelude.{IfErr, IfOk}
use Rattle.std.proofs.lemmas.Int.{to_z-of_z}
use Rattle.std.proofs.lemmas.Result.{err_from_is_err_and}
use Rattle.seg_spec.specs.Bytes.{signed_long}
use Rattle.seg_spec.specs.Shapes.{tree_words}
use Rattle.seg_spec.specs.Pointer.{target}
use Rattle.seg_spec.specs.Reads.{count_at, keys_at}
use Rattle.seg_block.specs.Tags.{word_of}
use Rattle.seg_cells.specs.Places.{object_at}
use Rattle.seg_check.specs.declared.fault.ContentFault.TheVariants.{BadValue}
use Rattle.seg_check.specs.declared.walk.Visit.TheVariants.{Enter, Pass}
use Rattle.seg_check.specs.Claiming.{HaveLiveHeaders}
use Rattle.seg_check.specs.Keys.{HasKeys}
use Rattle.seg_check.specs.Marks.{Known}
use Rattle.seg_check.specs.Positions.{LacksValueAt}
use Rattle.seg_check.specs.Walks.{Completes, IsSteady, Proceeds}
use Rattle.seg_check.specs.Resolving.{CanResolve, Steps}
use Rattle.seg_check.proofs.Queue.QueueStepLaws.{steps_refused}
use Rattle.seg_check.proofs.Contents.BufferLaws.{blocks_none, blocks_some, blocks_names}
use Rattle.seg_check.proofs.Blocks.LackingBlockLaws.{ready_allocated}
use Rattle.seg_check.proofs.WalkStateLaws.{Followed, follow_start, steps_on, moves_on}
use Rattle.seg_check.proofs.PlacedWalkLaws.{placed_link}
use Rattle.seg_check.proofs.Contents.MapLaws.{Traced, traced_start, tree_nothing, tree_counted, tree_counted_lack, traced_ready, traced_lacks, node_lacks, traced_refused}
use Rattle.seg_check.proofs.Contents.MapLaws.{traced_can, traced_steps, traced_enter, traced_pass, traced_live, owned_node, owned_can, node_key, ok_was, err_was}
use Rattle.seg_check.proofs.image.TypedImage.check_map.Goals as goal

-- the cell's pointer isn't null
not_null : (bytes : List ℕ) (at : ℕ) → (p : ℕ) × (target bytes at ≡ Some p) → target bytes at ≡ None → ⊥
not_null bytes at (p, names) null = absurd (let no : None ≡ Some p = sym null ∙ names in cc)

pub returns-in_err-count-clause-steps : goal.returns-in_err-count-clause-steps
returns-in_err-count-clause-steps g c = λ T U by ready lies.
    let bytes = c.args.self.now.bytes.bytes.now in
    let table = c.args.self.now.types.now in
    let old = c.args.claims.now in
    let at = c.args.cell in
    let e = c.in_err-count.field-0.0 in
    let failed = err_from_is_err_and c.from_residual.result c.from_residual.ensures.1 in
    let same : failed.0 ≡ e = failed.2 in
    subst (λ r. Steps bytes table old old (object_at at T ∷ []) r) (sym (failed.1 ∙ ap Err same))
    (let was = sym c.counted_blocks.ensures ∙ c.in_err-count.was in (tree_counted bytes table old ready at T U by.form_is e was, tree_counted_lack bytes table old ready at T U by.form_is e lies was))

pub returns-in_default-clause-steps : goal.returns-in_default-clause-steps
returns-in_default-clause-steps g c = λ T U by ready lies.
    let bytes = c.args.self.now.bytes.bytes.now in
    let at = c.args.cell in
    let none = blocks_none at (count_at bytes at) (target bytes at) (sym c.counted_blocks.ensures ∙ c.in_ok-count.was ∙ ap Ok c.in_default.is) in
    tree_nothing bytes c.args.self.now.types.now c.args.claims.now ready at T U by.form_is none.0 none.1

pub loop-visit-init : goal.loop-visit-init
loop-visit-init g c = record {
  taken = refl;
  root = c.walk-walk.ensures.root;
  same = c.walk-walk.ensures.bytes;
  traced = (λ T U by ready.
      let bytes = c.args.self.now.bytes.bytes.now in
      let at = c.args.cell in
      let w = c.walk-walk.ensures in
      let stage = c.walk-walk.result.stage in
      let turns = c.walk-walk.result.turns in
      let n_is = blocks_some at (count_at bytes at) c.in-Some.count (target bytes at) (sym c.counted_blocks.ensures ∙ c.in_ok-count.was ∙ ap Ok c.in-Some.is) in
      traced_start bytes c.args.self.now.types.now c.args.claims.now ready at T U by.form_is stage turns c.new-keys.result
      (subst (λ n. Followed bytes at n stage turns [] []) n_is.0 (follow_start bytes at _ stage turns w.steady w.turns w.starts)) w.pointer w.entered c.new-keys.ensures);
}

pub returns-in_err-visit-clause-steps : goal.returns-in_err-visit-clause-steps
returns-in_err-visit-clause-steps g c = λ T U by ready lies.
    let bytes = c.args.self.now.bytes.bytes.now in
    let table = c.args.self.now.types.now in
    let old = c.args.claims.now in
    let at = c.args.cell in
    let walk = c.loop-visit.walk in
    let t = c.loop-visit.invariant.traced T U by ready in
    let e = c.in_err-visit.field-0.0 in
    let failed = err_from_is_err_and c.from_residual-in_err-visit.result c.from_residual-in_err-visit.ensures.1 in
    let same : failed.0 ≡ e = failed.2 in
    let was = err_was c.next.result c.map_err.result _ e c.in_err-visit.was c.map_err.ensures.cases in
    let refused = subst (λ (bs : List ℕ). IsSteady bs walk.stage walk.turns → IfErr c.next.result (λ _. (height : ℕ) (rest entering : List ℕ) → Completes bs height walk.stage rest entering → height < 30
    → length rest + length entering < walk.turns → ⊥)) c.loop-visit.invariant.same c.next.ensures.refused t.followed.steady in
    let never = subst (λ r. IfErr r (λ _. (height : ℕ) (rest entering : List ℕ) → Completes bytes height walk.stage rest entering → height < 30 → length rest + length entering < walk.turns → ⊥)) was.1 refused in
    let fault : e ≡ BadValue was.0 = was.2 in
    steps_refused bytes table old c.loop-visit.claims (object_at at T ∷ []) c.from_residual-in_err-visit.result (BadValue was.0) (CanResolve bytes table old (object_at at T ∷ [])) (failed.1 ∙ ap Err (same ∙ fault))
    (λ r. r)
    (traced_refused bytes table old ready at T U by.form_is c.loop-visit.claims walk.stage walk.turns c.loop-visit.keys t never)
    (subst (LacksValueAt bytes table) (sym (subst (λ r. IfErr r (λ x. x ≡ walk.root)) was.1 c.next.ensures.position ∙ c.loop-visit.invariant.root))
    (traced_lacks bytes table old ready at T U by.form_is c.loop-visit.claims walk.stage walk.turns c.loop-visit.keys t lies
    (not_null bytes at (blocks_names at (count_at bytes at) c.in-Some.count (target bytes at) (sym c.counted_blocks.ensures ∙ c.in_ok-count.was ∙ ap Ok c.in-Some.is))) never))

pub loop-visit-preserved-in-Enter : goal.loop-visit-preserved-in-Enter
loop-visit-preserved-in-Enter g c = record {
  taken = ap (λ (k : Known). k.taken) c.look_ahead.ensures ∙ c.in_ok-claim-in-Enter.ensures.taken ∙ c.loop-visit.invariant.taken;
  root = c.next.ensures.root ∙ c.loop-visit.invariant.root;
  same = c.next.ensures.bytes ∙ c.loop-visit.invariant.same;
  traced = (λ T U by ready.
      let bytes = c.args.self.now.bytes.bytes.now in
      let table = c.args.self.now.types.now in
      let old = c.args.claims.now in
      let mid = c.loop-visit.claims in
      let at = c.args.cell in
      let owner = c.owner-owner.result in
      let o = c.owner-owner.ensures in
      let walk = c.loop-visit.walk in
      let new = c.next.new.self in
      let t = c.loop-visit.invariant.traced T U by ready in
      let visit = c.in_ok-visit.field-0 in
      let was = ok_was c.next.result c.map_err.result _ visit c.in_ok-visit.was c.map_err.ensures.cases in
      let is : visit ≡ Some (Enter c.in-Enter.pointer) = c.in-Some-2.is ∙ ap Some c.in-Enter.is in
      let stepped = steps_on bytes walk.bytes.bytes.now new.bytes.bytes.now walk.stage new.stage walk.turns new.turns c.next.result (Enter c.in-Enter.pointer) (was ∙ ap Ok is) c.next.ensures.bytes
      c.loop-visit.invariant.same t.followed.steady c.next.ensures.fewer c.next.ensures.steady c.next.ensures.goes_on in
      subst (λ (k : Known). Traced bytes table old ready at T U by.form_is k new.stage new.turns c.loop-visit.keys) (sym c.look_ahead.ensures)
      (traced_enter bytes table old ready at T U by.form_is mid walk.stage walk.turns c.loop-visit.keys t new.stage new.turns stepped.0 stepped.1 c.claim.new.claims c.in-Enter.pointer
      c.in_ok-claim-in-Enter.field-0 stepped.2
      (moves_on bytes walk.bytes.bytes.now walk.stage new.stage c.next.result (Enter c.in-Enter.pointer) (was ∙ ap Ok is) c.loop-visit.invariant.same c.next.ensures.moves)
      (owned_node bytes table T U c.args.content.now by owner.bytes.bytes.now (word_of owner.tag) owner.entry_size owner.has_turns o.bytes (ap word_of o.tag) o.entry_size o.has_turns
      mid c.claim.new.claims c.in-Enter.pointer c.in_ok-claim-in-Enter.field-0
      (c.in_ok-claim-in-Enter.ensures.claimed (subst (λ bs. HaveLiveHeaders bs mid.unclaimed) (sym o.bytes) (traced_live bytes table old ready at T U by.form_is mid walk.stage walk.turns c.loop-visit.keys t))))));
}

pub returns-in_err-claim-in-Enter-clause-steps :
    goal.returns-in_err-claim-in-Enter-clause-steps
returns-in_err-claim-in-Enter-clause-steps g c = λ T U by ready lies.
    let bytes = c.args.self.now.bytes.bytes.now in
    let table = c.args.self.now.types.now in
    let old = c.args.claims.now in
    let mid = c.loop-visit.claims in
    let at = c.args.cell in
    let walk = c.loop-visit.walk in
    let new = c.next.new.self in
    let t = c.loop-visit.invariant.traced T U by ready in
    let visit = c.in_ok-visit.field-0 in
    let owner = c.owner-owner.result in
    let o = c.owner-owner.ensures in
    let e = c.in_err-claim-in-Enter.field-0.0 in
    let failed = err_from_is_err_and c.from_residual-in_err-claim-in-Enter.result c.from_residual-in_err-claim-in-Enter.ensures.1 in
    let same : failed.0 ≡ e = failed.2 in
    let was = ok_was c.next.result c.map_err.result _ visit c.in_ok-visit.was c.map_err.ensures.cases in
    let is : visit ≡ Some (Enter c.in-Enter.pointer) = c.in-Some-2.is ∙ ap Some c.in-Enter.is in
    let stepped = steps_on bytes walk.bytes.bytes.now new.bytes.bytes.now walk.stage new.stage walk.turns new.turns c.next.result (Enter c.in-Enter.pointer) (was ∙ ap Ok is) c.next.ensures.bytes
    c.loop-visit.invariant.same t.followed.steady c.next.ensures.fewer c.next.ensures.steady c.next.ensures.goes_on in
    steps_refused bytes table old c.claim.new.claims (object_at at T ∷ []) c.from_residual-in_err-claim-in-Enter.result e _ (failed.1 ∙ ap Err same)
    (λ r. owned_can bytes table T U c.args.content.now by owner.bytes.bytes.now (word_of owner.tag) owner.entry_size o.bytes (ap word_of o.tag) o.entry_size mid c.in-Enter.pointer
    (traced_can bytes table old ready at T U by.form_is mid walk.stage walk.turns c.loop-visit.keys t new.stage c.in-Enter.pointer stepped.2 r))
    (c.in_err-claim-in-Enter.ensures.refused (subst (λ bs. HaveLiveHeaders bs mid.unclaimed) (sym o.bytes) (traced_live bytes table old ready at T U by.form_is mid walk.stage walk.turns c.loop-visit.keys t)))
    (let now = traced_ready bytes table old ready at T U by.form_is mid walk.stage walk.turns c.loop-visit.keys t in
    node_lacks bytes table old ready at T U by.form_is owner.bytes.bytes.now (word_of owner.tag) owner.entry_size o.bytes (ap word_of o.tag ∙ by.content_of.tag_is) (o.entry_size ∙ by.content_of.entry_is.size_is)
    mid now lies c.in-Enter.pointer
    (placed_link bytes table old ready _ _ at walk.stage new.stage c.in-Enter.pointer t.placed
    (moves_on bytes walk.bytes.bytes.now walk.stage new.stage c.next.result (Enter c.in-Enter.pointer) (was ∙ ap Ok is) c.loop-visit.invariant.same c.next.ensures.moves)) e
    (c.in_err-claim-in-Enter.ensures.lacks (subst (λ bs. HaveLiveHeaders bs mid.allocated) (sym o.bytes) (ready_allocated bytes table mid now))))

pub loop-visit-preserved : goal.loop-visit-preserved
loop-visit-preserved g c = record {
  taken = c.loop-visit.invariant.taken;
  root = c.next.ensures.root ∙ c.loop-visit.invariant.root;
  same = c.next.ensures.bytes ∙ c.loop-visit.invariant.same;
  traced = (λ T U by ready.
      let bytes = c.args.self.now.bytes.bytes.now in
      let table = c.args.self.now.types.now in
      let old = c.args.claims.now in
      let mid = c.loop-visit.claims in
      let at = c.args.cell in
      let walk = c.loop-visit.walk in
      let new = c.next.new.self in
      let node = c.in-Pass.node in
      let t = c.loop-visit.invariant.traced T U by ready in
      let visit = c.in_ok-visit.field-0 in
      let was = ok_was c.next.result c.map_err.result _ visit c.in_ok-visit.was c.map_err.ensures.cases in
      let is : visit ≡ Some (Pass node) = c.in-Some-2.is ∙ ap Some c.in-Pass.is in
      let stepped = steps_on bytes walk.bytes.bytes.now new.bytes.bytes.now walk.stage new.stage walk.turns new.turns c.next.result (Pass node) (was ∙ ap Ok is) c.next.ensures.bytes
      c.loop-visit.invariant.same t.followed.steady c.next.ensures.fewer c.next.ensures.steady c.next.ensures.goes_on in
      traced_pass bytes table old ready at T U by.form_is mid walk.stage walk.turns c.loop-visit.keys t new.stage new.turns stepped.0 stepped.1 node c.add.new.self stepped.2
      (moves_on bytes walk.bytes.bytes.now walk.stage new.stage c.next.result (Pass node) (was ∙ ap Ok is) c.loop-visit.invariant.same c.next.ensures.moves)
      (λ low has.
      let stands = node_key bytes table T U c.args.content.now by node c.value_at.result low c.value_at.ensures in
      let same = to_z-of_z w64 c.key.result (record { sfits = c.key.type_inv }) in
      let key = same ∙ c.key.ensures stands.0 ∙ ap (signed_long bytes) stands.1 in
      let ks = keys_at bytes (map (λ p. p + tree_words) t.passed) in
      subst (λ (k : ℤ). HasKeys c.add.new.self (ks ++ k ∷ [])) key (c.add.ensures ks has)));
}

pub returns-clause-steps : goal.returns-clause-steps
returns-clause-steps g c = λ T U by ready lies.
    let bytes = c.args.self.now.bytes.bytes.now in
    let at = c.args.cell in
    let walk = c.loop-visit.walk in
    let new = c.next.new.self in
    let t = c.loop-visit.invariant.traced T U by ready in
    let visit = c.in_ok-visit.field-0 in
    let was = ok_was c.next.result c.map_err.result _ visit c.in_ok-visit.was c.map_err.ensures.cases in
    let goes_on = subst (λ (bs : List ℕ). IsSteady bs walk.stage walk.turns → IfOk c.next.result (Proceeds bs walk.stage new.stage)) c.loop-visit.invariant.same c.next.ensures.goes_on t.followed.steady in
    let step : Proceeds bytes walk.stage new.stage None = subst (λ r. IfOk r (Proceeds bytes walk.stage new.stage)) (was ∙ ap Ok c.in_default-2.is) goes_on in
    traced_steps bytes c.args.self.now.types.now c.args.claims.now ready at T U by.form_is c.loop-visit.claims walk.stage walk.turns c.loop-visit.keys t new.stage c.check.result lies
    (not_null bytes at (blocks_names at (count_at bytes at) c.in-Some.count (target bytes at) (sym c.counted_blocks.ensures ∙ c.in_ok-count.was ∙ ap Ok c.in-Some.is))) step c.check.ensures
