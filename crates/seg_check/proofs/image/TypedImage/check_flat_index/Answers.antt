use Rattle.std.proofs.Common.{◌≡◌, ◌+◌, ◌-◌, ◌*◌, ◌%◌, ◌^◌, ◌<◌, ◌≤◌, [], ◌∷◌, Err, sym, ap, ◌∙◌, subst, arith}
use Rattle.std.proofs.lemmas.Result.{err_from_is_err_and}
use Rattle.seg_spec.specs.Reads.{spaced}
use Rattle.seg_spec.specs.Header.{index_cell}
use Rattle.seg_spec.specs.Block.{Kind, tag_of}
use Rattle.seg_block.specs.Tags.{word_of}
use Rattle.seg_check.specs.Claiming.{CanClaim}
use Rattle.seg_check.specs.Positions.{AreEntriesBefore}
use Rattle.seg_check.specs.Roots.{StepsIndex, AdvancesRoots, CanResolveRoots, CanResolveIndex, names_ahead}
use Rattle.seg_check.proofs.Blocks.CellClaimLaws.{ready_live}
use Rattle.seg_check.proofs.Blocks.LackingBlockLaws.{ready_allocated}
use Rattle.seg_check.proofs.Queue.QueueStepLaws.{refuses_map}
use Rattle.seg_check.proofs.Objects.RootReadLaws.{roots_none, roots_more, can_roots, ready_roots}
use Rattle.seg_check.proofs.Objects.IndexLaws.{flat_ready, spaced_next, spaced_end, spaced_start, flat_some, flat_none, flat_entry, buffer_lacks, flat_can, flat_names, flat_advance, buffer_claimed, buffer_can, block_inside}
use Rattle.seg_check.proofs.image.TypedImage.check_flat_index.Goals as goal

pub loop-index-init : goal.loop-index-init
loop-index-init g c = λ ready fits.
    let bytes = c.args.self.now.bytes.bytes.now in
    let table = c.args.self.now.types.now in
    let mid = c.claim_entries.new.claims in
    let s = c.in_ok-start.start in
    let n = c.args.count in
    subst (λ xs. AdvancesRoots bytes table mid mid (names_ahead (spaced s 8 n) []) (names_ahead xs [])) (spaced_start bytes table s n) (roots_none bytes table mid (names_ahead (spaced s 8 n) []))

pub loop-index-preserved : goal.loop-index-preserved
loop-index-preserved g c = λ ready fits.
    let bytes = c.args.self.now.bytes.bytes.now in
    let table = c.args.self.now.types.now in
    let mid = c.claim_entries.new.claims in
    let now = c.loop-index.claims in
    let new = c.check_entry.new.claims in
    let s = c.in_ok-start.start in
    let n = c.args.count in
    let i = c.loop-index.index in
    let less : i < n = c.loop-index-test.true in
    let small = ready.small in
    let before = c.loop-index.before.now in
    let rest = spaced (s + (i + 1) * 8) 8 (n - (i + 1)) in
    let done = c.loop-index.invariant ready fits in
    let at_is : c.at.result ≡ s + i * 8 = c.at.ensures ∙ ap (λ k. (s + i * k) % 2 ^ 32) c.index_buffer-content.ensures.size_is ∙ (let e : (s + i * 8) % 2 ^ 32 ≡ s + i * 8 = omega arith in e) in
    let step = c.in_ok-before.ensures.claimed rest (ready_roots bytes table mid now (names_ahead (spaced s 8 n) []) (names_ahead (spaced (s + i * 8) 8 (n - i)) before) ready done) in
    roots_more bytes table mid now new (names_ahead (spaced s 8 n) []) (names_ahead (spaced (s + i * 8) 8 (n - i)) before) (names_ahead rest c.in_ok-before.before.now) done
    (subst (λ xs. AdvancesRoots bytes table now new (names_ahead xs before) (names_ahead rest c.in_ok-before.before.now)) (ap (λ a. a ∷ rest) at_is ∙ sym (spaced_next bytes table s i n less)) step)

pub returns-in_err-start : goal.returns-in_err-start
returns-in_err-start g c = λ p named counted ready flat.
    let bytes = c.args.self.now.bytes.bytes.now in
    let table = c.args.self.now.types.now in
    let old = c.args.claims.now in
    let n = c.args.count in
    let content = c.index_buffer-content.result in
    let e = c.in_err-start.field-0.0 in
    let failed = err_from_is_err_and c.from_residual.result c.from_residual.ensures.1 in
    let same : failed.0 ≡ e = failed.2 in
    subst (λ x. StepsIndex bytes table old c.claim_entries.new.claims x) (sym (failed.1 ∙ ap Err same)) (
      (refuses_map e (CanClaim bytes old index_cell (word_of content.tag) (n * content.entry.size)) (CanResolveIndex bytes table old)
          (λ can. buffer_can bytes table old c.claim_entries.new.claims n 0 content c.index_buffer-content.ensures (flat_can bytes table flat p n named counted old can))
          (c.in_err-start.ensures.refused (ready_live bytes table old ready))),
      buffer_lacks bytes table old c.claim_entries.new.claims n 0 content c.index_buffer-content.ensures flat counted ready e (c.in_err-start.ensures.lacks (ready_allocated bytes table old ready)),
    )

pub returns-then-count-eq0 : goal.returns-then-count-eq0
returns-then-count-eq0 g c = λ p named counted ready flat.
    let bytes = c.args.self.now.bytes.bytes.now in
    let table = c.args.self.now.types.now in
    let none : c.args.count ≡ 0 = omega arith in
    ((λ can. flat_some bytes table flat p c.args.count named counted c.args.claims.now can none), flat_none bytes table flat p c.args.count named counted none)

pub returns-in_err-before : goal.returns-in_err-before
returns-in_err-before g c = λ p named counted ready flat.
    let bytes = c.args.self.now.bytes.bytes.now in
    let table = c.args.self.now.types.now in
    let old = c.args.claims.now in
    let mid = c.claim_entries.new.claims in
    let now = c.loop-index.claims in
    let s = c.in_ok-start.start in
    let n = c.args.count in
    let i = c.loop-index.index in
    let less : i < n = c.loop-index-test.true in
    let some : 1 ≤ n = omega arith in
    let small = ready.small in
    let before = c.loop-index.before.now in
    let rest = spaced (s + (i + 1) * 8) 8 (n - (i + 1)) in
    let claimed = buffer_claimed bytes table old mid n s c.index_buffer-content.result c.index_buffer-content.ensures (c.in_ok-start.ensures.claimed (ready_live bytes table old ready)) in
    let fits = block_inside bytes table old mid index_cell (tag_of Kind.index_buffer 0) (n * 8) s ready claimed in
    let mid_ready = flat_ready bytes table old mid s ready claimed.claims claimed.is_block in
    let done = c.loop-index.invariant mid_ready fits in
    let at_is : c.at.result ≡ s + i * 8 = c.at.ensures ∙ ap (λ k. (s + i * k) % 2 ^ 32) c.index_buffer-content.ensures.size_is ∙ (let e : (s + i * 8) % 2 ^ 32 ≡ s + i * 8 = omega arith in e) in
    let next = ap (λ a. a ∷ rest) at_is ∙ sym (spaced_next bytes table s i n less) in
    let e = c.in_err-before.field-0.0 in
    let failed = err_from_is_err_and c.from_residual-in_err-before.result c.from_residual-in_err-before.ensures.1 in
    let same : failed.0 ≡ e = failed.2 in
    let ahead = names_ahead (spaced (s + i * 8) 8 (n - i)) before in
    let now_ready = ready_roots bytes table mid now (names_ahead (spaced s 8 n) []) ahead mid_ready done in
    subst (λ x. StepsIndex bytes table old c.check_entry.new.claims x) (sym (failed.1 ∙ ap Err same)) (
      (refuses_map e (CanResolveRoots bytes table now (names_ahead (c.at.result ∷ rest) before)) (CanResolveIndex bytes table old)
          (λ can. subst (λ xs. CanResolveRoots bytes table now (names_ahead xs before)) (sym next)
          (can_roots bytes table mid now (names_ahead (spaced s 8 n) []) (names_ahead (spaced (s + i * 8) 8 (n - i)) before) done
          (flat_names bytes table flat s n claimed.names counted old mid some claimed.is_block claimed.claims can)))
          (c.in_err-before.ensures.refused rest now_ready)),
      flat_entry bytes table flat s n claimed.names counted old mid some claimed.is_block claimed.claims (c.at.result ∷ rest) before
          (λ start. subst (λ xs. AreEntriesBefore bytes table (spaced s 8 n) xs before) (sym next) (done.named (spaced s 8 n) start))
          (λ index opens named. c.in_err-before.ensures.lacks now_ready index rest opens named),
    )

pub returns : goal.returns
returns g c = λ p named counted ready flat.
    let bytes = c.args.self.now.bytes.bytes.now in
    let table = c.args.self.now.types.now in
    let old = c.args.claims.now in
    let mid = c.claim_entries.new.claims in
    let now = c.loop-index.claims in
    let s = c.in_ok-start.start in
    let n = c.args.count in
    let i = c.loop-index.index in
    let some : 1 ≤ n = omega arith in
    let before = c.loop-index.before.now in
    let claimed = buffer_claimed bytes table old mid n s c.index_buffer-content.result c.index_buffer-content.ensures (c.in_ok-start.ensures.claimed (ready_live bytes table old ready)) in
    let fits = block_inside bytes table old mid index_cell (tag_of Kind.index_buffer 0) (n * 8) s ready claimed in
    let mid_ready = flat_ready bytes table old mid s ready claimed.claims claimed.is_block in
    let done = c.loop-index.invariant mid_ready fits in
    flat_advance bytes table flat s n claimed.names counted old mid some claimed.is_block claimed.claims now before
    (subst (λ xs. AdvancesRoots bytes table mid now (names_ahead (spaced s 8 n) []) (names_ahead xs before)) (spaced_end bytes table s i n c.loop-index-test.false) done)
