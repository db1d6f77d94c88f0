use Rattle.std.proofs.Common.{◌≡◌, ℕ, ◌-◌, ◌+◌, ◌<◌, ◌≤◌, length, List, [], ◌∷◌, map, MatchOption, true, false, Option, None, Some, refl, sym, ap, ◌∙◌, subst}
use Rattle.std.specs.Prelude.{IsOk, IfSome, ⊤}
use Rattle.std.specs.Option.{is_some}
use Rattle.std.proofs.lemmas.List.{map-append}
use Rattle.std.proofs.lemmas.Result.{err_from_is_err_and}
use Rattle.seg_spec.specs.Heap.{link_at, is_smaller}
use Rattle.seg_spec.specs.Block.{block_of}
use Rattle.seg_spec.specs.Sound.{times}
use Rattle.seg_check.specs.declared.walk.Visit.{Visit}
use Rattle.seg_check.specs.declared.walk.Visit.TheVariants.{Enter, Pass}
use Rattle.seg_check.specs.Walks.{Completes, Proceeds, IsSteady, span_at, last_block, is_above}
use Rattle.seg_check.proofs.WalkStateLaws.{Followed, follow_start}
use Rattle.seg_check.proofs.Heap.GapLaws.{last_more}
use Rattle.seg_check.proofs.Heap.FreeTreeWalkLaws.{IsNext, entered, passed, ended, never_refused, next_is}
use Rattle.seg_check.proofs.image.TypedImage.check_free_tree.Goals as goal
use Rattle.seg_check.proofs.image.TypedImage.check_free_tree.Goals.{then-not-is_free-via-then-not-is_free, then-not-is_free-via-else-not-is_free+then-is_some, then-not-is_free-via-else-not-is_free+else-is_some+then-not-is_above}

not_some : (o : Option ℕ) → false ≡ is_some o → o ≡ None
not_some None e = refl
not_some (Some x) e = absurd (let no : false ≡ true = e in cc)

above_last : (bytes : List ℕ) (o : Option ℕ) (b : ℕ) → is_above bytes o b ≡ true → MatchOption o ⊤ (λ l. is_smaller (span_at bytes l) (span_at bytes b) ≡ true)
above_last bytes None b e = tt
above_last bytes (Some l) b e = e

is_above_if : (bytes : List ℕ) (o : Option ℕ) (b : ℕ) → MatchOption o ⊤ (λ l. is_smaller (span_at bytes l) (span_at bytes b) ≡ true) → is_above bytes o b ≡ true
is_above_if bytes None b m = refl
is_above_if bytes (Some l) b m = m

pub loop-visit-init : goal.loop-visit-init
loop-visit-init g c =
    let w = c.walk-walk.ensures in
    record {
      same = w.bytes;
      passed = record {
        nodes = [];
        entered = [];
        followed = subst (λ n. Followed c.args.self.now.bytes.bytes.now 24 n c.walk-walk.result.stage c.walk-walk.result.turns [] []) c.free_count.ensures
            (follow_start c.args.self.now.bytes.bytes.now 24 _ c.walk-walk.result.stage c.walk-walk.result.turns w.steady w.turns w.starts);
        free = tt;
        unlinked = tt;
        ordered = tt;
      };
      before_is = refl;
    }

pub loop-visit-preserved-in-Pass : goal.loop-visit-preserved-in-Pass
loop-visit-preserved-in-Pass g c =
    let old = c.loop-visit.walk in
    let new = c.next.new.self in
    let bytes = c.args.self.now.bytes.bytes.now in
    let node = c.in-Pass.node in
    let p = c.loop-visit.invariant.passed in
    let same = c.loop-visit.invariant.same in
    let as_was : new.bytes.bytes.now ≡ old.bytes.bytes.now = c.next.ensures.bytes in
    let was : IsSteady old.bytes.bytes.now old.stage old.turns = subst (λ (bs : List ℕ). IsSteady bs old.stage old.turns) (sym same) p.followed.steady in
    let is : c.in_ok-visit.field-0 ≡ Some (Pass node) = c.in-Some.is ∙ ap Some c.in-Pass.is in
    let step : Proceeds bytes old.stage new.stage (Some (Pass node)) =
    subst (λ (bs : List ℕ). Proceeds bs old.stage new.stage (Some (Pass node))) same (subst (Proceeds old.bytes.bytes.now old.stage new.stage) is (c.in_ok-visit.ensures.goes_on was)) in
    let steady : IsSteady bytes new.stage new.turns =
    subst (λ (bs : List ℕ). IsSteady bs new.stage new.turns) (as_was ∙ same) (subst (λ (o : Option Visit). IfSome o (λ _. IsSteady new.bytes.bytes.now new.stage new.turns)) is (c.in_ok-visit.ensures.steady was)) in
    let block : c.block_of-block.result ≡ node - 16 = c.block_of-block.ensures in
    let free : 1 ≤ times (node - 16) c.args.claims.now.free = subst (λ b. 1 ≤ times b c.args.claims.now.free) block (c.is_free.ensures.0 c.if-not-is_free.false) in
    let link : link_at bytes (node - 16) ≡ None = ap (link_at bytes) (sym block) ∙ sym c.link_in.ensures ∙ not_some c.link_in.result c.if-is_some.ensures in
    let above : is_above bytes (last_block (map block_of p.nodes)) (node - 16) ≡ true =
    ap (λ o. is_above bytes o (node - 16)) (sym c.loop-visit.invariant.before_is) ∙ ap (is_above bytes c.loop-visit.before) (sym block) ∙ sym c.is_above.ensures ∙ c.if-not-is_above.false in
    let next : IsNext bytes c.args.claims.now p.nodes node = record { free = free; unlinked = link; above = above_last bytes (last_block (map block_of p.nodes)) (node - 16) above } in
    record {
      same = as_was ∙ same;
      passed = passed bytes c.args.claims.now old.stage old.turns p new.stage new.turns steady c.in_ok-visit.ensures.fewer node step next;
      before_is = ap Some block ∙ sym (ap last_block (map-append block_of p.nodes (node ∷ [])) ∙ last_more (map block_of p.nodes) (node - 16));
    }

pub loop-visit-preserved : goal.loop-visit-preserved
loop-visit-preserved g c =
    let old = c.loop-visit.walk in
    let new = c.next.new.self in
    let bytes = c.args.self.now.bytes.bytes.now in
    let p = c.loop-visit.invariant.passed in
    let same = c.loop-visit.invariant.same in
    let as_was : new.bytes.bytes.now ≡ old.bytes.bytes.now = c.next.ensures.bytes in
    let was : IsSteady old.bytes.bytes.now old.stage old.turns = subst (λ (bs : List ℕ). IsSteady bs old.stage old.turns) (sym same) p.followed.steady in
    let is : c.in_ok-visit.field-0 ≡ Some (Enter c.in_default-visit.field-0) = c.in-Some.is ∙ ap Some c.in_default-visit.is in
    let step : Proceeds bytes old.stage new.stage (Some (Enter c.in_default-visit.field-0)) =
    subst (λ (bs : List ℕ). Proceeds bs old.stage new.stage (Some (Enter c.in_default-visit.field-0))) same (subst (Proceeds old.bytes.bytes.now old.stage new.stage) is (c.in_ok-visit.ensures.goes_on was)) in
    let steady : IsSteady bytes new.stage new.turns =
    subst (λ (bs : List ℕ). IsSteady bs new.stage new.turns) (as_was ∙ same) (subst (λ (o : Option Visit). IfSome o (λ _. IsSteady new.bytes.bytes.now new.stage new.turns)) is (c.in_ok-visit.ensures.steady was)) in
    record {
      same = as_was ∙ same;
      passed = entered bytes c.args.claims.now old.stage old.turns p new.stage new.turns steady c.in_ok-visit.ensures.fewer c.in_default-visit.field-0 step;
      before_is = c.loop-visit.invariant.before_is;
    }

pub returns-in_err-visit : goal.returns-in_err-visit
returns-in_err-visit g c = λ table tiles knows.
    let old = c.loop-visit.walk in
    let p = c.loop-visit.invariant.passed in
    let same = c.loop-visit.invariant.same in
    let was : IsSteady old.bytes.bytes.now old.stage old.turns = subst (λ (bs : List ℕ). IsSteady bs old.stage old.turns) (sym same) p.followed.steady in
    let never = subst (λ (bs : List ℕ). (height : ℕ) (rest entering : List ℕ) → Completes bs height old.stage rest entering → height < 30 → length rest + length entering < old.turns → ⊥) same (c.in_err-visit.ensures.refused was) in
    let failed = err_from_is_err_and c.from_residual.result c.from_residual.ensures.1 in
    (λ ok. absurd (let no : false ≡ true = subst (λ r. IsOk r) failed.1 ok in cc), λ f. absurd (never_refused c.args.self.now.bytes.bytes.now table c.args.claims.now tiles knows old.stage old.turns p f never))

pub returns-then-not-is_free : goal.returns-then-not-is_free
returns-then-not-is_free g c = λ table tiles knows.
    let old = c.loop-visit.walk in
    let new = c.next.new.self in
    let bytes = c.args.self.now.bytes.bytes.now in
    let node = c.in-Pass.node in
    let p = c.loop-visit.invariant.passed in
    let same = c.loop-visit.invariant.same in
    let was : IsSteady old.bytes.bytes.now old.stage old.turns = subst (λ (bs : List ℕ). IsSteady bs old.stage old.turns) (sym same) p.followed.steady in
    let is : c.in_ok-visit.field-0 ≡ Some (Pass node) = c.in-Some.is ∙ ap Some c.in-Pass.is in
    let step : Proceeds bytes old.stage new.stage (Some (Pass node)) =
    subst (λ (bs : List ℕ). Proceeds bs old.stage new.stage (Some (Pass node))) same (subst (Proceeds old.bytes.bytes.now old.stage new.stage) is (c.in_ok-visit.ensures.goes_on was)) in
    let block : c.block_of-block.result ≡ node - 16 = c.block_of-block.ensures in (
      λ e. absurd (let no : false ≡ true = e in cc),
      λ f.
          let next = next_is bytes table c.args.claims.now tiles knows old.stage old.turns p f new.stage node step in
          let free : c.is_free.result ≡ true = c.is_free.ensures.1 (subst (λ b. 1 ≤ times b c.args.claims.now.free) (sym block) next.free) in
          let link : link_at bytes c.block_of-block.result ≡ None = ap (link_at bytes) block ∙ next.unlinked in
          let above : is_above bytes c.loop-visit.before c.block_of-block.result ≡ true =
          ap (λ o. is_above bytes o c.block_of-block.result) c.loop-visit.invariant.before_is ∙ ap (is_above bytes (last_block (map block_of p.nodes))) block
          ∙ is_above_if bytes (last_block (map block_of p.nodes)) (node - 16) next.above in
          elim c.then-not-is_free.branch [
            | then-not-is_free-via-then-not-is_free w ↦ sym w.if-not-is_free.true ∙ free
            | then-not-is_free-via-else-not-is_free+then-is_some w ↦ ap is_some (sym (w.link_in.ensures ∙ link)) ∙ sym w.if-is_some.ensures
            | then-not-is_free-via-else-not-is_free+else-is_some+then-not-is_above w ↦ w.if-not-is_above.ensures ∙ above
          ],
    )

pub returns : goal.returns
returns g c = λ table tiles knows.
    let old = c.loop-visit.walk in
    let new = c.next.new.self in
    let p = c.loop-visit.invariant.passed in
    let same = c.loop-visit.invariant.same in
    let was : IsSteady old.bytes.bytes.now old.stage old.turns = subst (λ (bs : List ℕ). IsSteady bs old.stage old.turns) (sym same) p.followed.steady in
    let step : Proceeds c.args.self.now.bytes.bytes.now old.stage new.stage None =
    subst (λ (bs : List ℕ). Proceeds bs old.stage new.stage None) same (subst (Proceeds old.bytes.bytes.now old.stage new.stage) c.in_default.is (c.in_ok-visit.ensures.goes_on was)) in
    (λ e. ended c.args.self.now.bytes.bytes.now table c.args.claims.now tiles knows old.stage old.turns p new.stage step, λ f. refl)
