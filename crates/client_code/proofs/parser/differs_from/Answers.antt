use Rattle.std.proofs.Common.{◌≡◌, [], ◌∷◌, ◌++◌, length, refl, sym, ◌∙◌, subst, arith}
use Rattle.std.specs.Prelude.{All}
use Rattle.std.proofs.lemmas.Bool.{false≢true}
use Rattle.std.proofs.lemmas.List.{length_push}
use Rattle.std.proofs.lemmas.List.Elements.{All-push}
use Rattle.client_spec.specs.Grammar.{Differ}
use Rattle.client_code.specs.Views.{constant_of}
use Rattle.client_code.proofs.Constants.{walk_starts, walk_on, walk_never, walk_last, walk_done, text_differs}
use Rattle.client_code.proofs.parser.differs_from.Goals as goal

pub returns-in-Text : goal.returns-in-Text
returns-in-Text c = λ cs following n are. (λ _ k d h. text_differs _ c.args.constant.kind c.args.constant.bytes.now c.in-Text.is, λ _. refl)

pub loop-init : goal.loop-init
loop-init c = record {
  near = omega arith;
  walks = λ cs following n are. ([], walk_starts c.args.file.now c.args.at following cs are, refl, λ k d h. absurd (omega arith));
}

pub loop-preserved : goal.loop-preserved
loop-preserved c = record {
  near = (let a = c.in-Some.ensures.near in let b = c.loop.invariant.near in omega arith);
  walks = λ cs following n are.
      let w = c.loop.invariant.walks cs following n are in
      let other = constant_of c.in-Some.other in
      let front = w.0 in
      let long = length_push front other in
      let count = w.2 in
      let test = c.loop-test.true in (
        front ++ other ∷ [],
        walk_on c.args.file.now cs following c.loop.next c.in-Some.following front other w.1 (omega arith) c.in-Some.ensures.spelled,
        omega arith,
        All-push (λ x. Differ x (constant_of c.args.constant)) front other w.3 (c.differs.ensures.0 c.if-not-differs.false),
      );
}

pub returns-in_default-spelled_at : goal.returns-in_default-spelled_at
returns-in_default-spelled_at c = λ cs following n are.
    let w = c.loop.invariant.walks cs following n are in
    let count = w.2 in
    let test = c.loop-test.true in
    absurd (walk_never c.args.file.now cs following c.loop.next w.0 w.1 (omega arith) are.each c.in_default-spelled_at.ensures.none)

pub returns-then-not-differs : goal.returns-then-not-differs
returns-then-not-differs c = λ cs following n are.
    let w = c.loop.invariant.walks cs following n are in
    let other = constant_of c.in-Some.other in
    let count = w.2 in
    let test = c.loop-test.true in
    let on = walk_on c.args.file.now cs following c.loop.next c.in-Some.following w.0 other w.1 (omega arith) c.in-Some.ensures.spelled in (
      λ never. cc,
      λ all. absurd (false≢true (sym c.if-not-differs.true ∙ c.differs.ensures.1 (walk_last (λ x. Differ x (constant_of c.args.constant)) c.args.file.now cs following c.in-Some.following w.0 other on all))),
    )

pub returns : goal.returns
returns c = λ cs following n are.
    let w = c.loop.invariant.walks cs following n are in
    let count = w.2 in
    let test = c.loop-test.false in
    let last : length w.0 ≡ length cs = omega arith in
    (λ _. subst (All (λ x. Differ x (constant_of c.args.constant))) (walk_done c.args.file.now cs following c.loop.next w.0 w.1 last) w.3, λ _. refl)
