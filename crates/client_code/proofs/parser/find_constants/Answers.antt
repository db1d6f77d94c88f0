use Rattle.std.proofs.Common.{[], ◌∷◌, ◌++◌, length, refl, sym, ap, ◌∙◌, subst, arith}
use Rattle.std.proofs.lemmas.Bool.{false≢true}
use Rattle.std.proofs.lemmas.List.{map_push, length_push}
use Rattle.std.specs.Prelude.{All}
use Rattle.client_spec.specs.Grammar.{Differ}
use Rattle.client_spec.proofs.Spelling.OneClientLaws.{constant_front}
use Rattle.client_code.specs.Views.{constant_of, constant_kind_of}
use Rattle.client_code.proofs.Constants.{begins, one_more, none_more, kind_by}
use Rattle.client_code.proofs.parser.find_constants.Goals as goal

pub loop-i-init : goal.loop-i-init
loop-i-init c = record {
  near = omega arith;
  all = ap length c.requires.none;
  found = ([], refl, begins c.args.file.now c.args.at, sym c.requires.none);
}

pub loop-i-preserved : goal.loop-i-preserved
loop-i-preserved c =
    let found = c.in-Some.ensures in
    let so_far = c.loop-i.invariant.found in
    let cs = so_far.0 in
    let constant = constant_of c.in-Some.constant in
    let kinds = c.push.ensures.items in
    let long = length_push c.loop-i.kinds.items c.in-Some.constant.kind in
    let more = length_push cs constant in
    record {
      near = (let a = found.near in let b = c.loop-i.invariant.near in omega arith);
      all = ap length kinds ∙ long ∙ (let a = c.loop-i.invariant.all in omega arith);
      found = (
        cs ++ constant ∷ [],
        (let n = so_far.1 in omega arith),
        one_more c.args.file.now c.args.at c.loop-i.next c.in-Some.following cs constant so_far.2 found.spelled found.right found.place
            ((c.differs_from.ensures cs c.loop-i.next so_far.1 so_far.2).0 c.if-not-differs_from.false),
        map_push constant_kind_of cs constant ∙ ap (λ ks. ks ++ constant_kind_of constant ∷ []) so_far.3 ∙ ap (λ k. c.loop-i.kinds.items ++ k ∷ []) (kind_by c.in-Some.constant.kind c.in-Some.constant.bytes.now) ∙ sym kinds,
      );
    }

pub returns-in_default-clause-wrong : goal.returns-in_default-clause-wrong
returns-in_default-clause-wrong c ds following count all =
    let so_far = c.loop-i.invariant.found in
    none_more c.args.file.now c.args.at c.loop-i.next following so_far.0 ds so_far.2
    (λ d rest right differs. c.in_default.ensures.none d rest right)
    (let n = so_far.1 in let t = c.loop-i-test.true in omega arith) all

pub returns-then-not-differs_from-clause-wrong : goal.returns-then-not-differs_from-clause-wrong
returns-then-not-differs_from-clause-wrong c ds following count all =
    let so_far = c.loop-i.invariant.found in
    let cs = so_far.0 in
    none_more c.args.file.now c.args.at c.loop-i.next following cs ds so_far.2
    (λ d rest right differs e.
    let same = (constant_front (constant_of c.in-Some.constant) d _ rest (sym c.in-Some.ensures.spelled ∙ e)).0 in
    false≢true (sym c.if-not-differs_from.true ∙ (c.differs_from.ensures cs c.loop-i.next so_far.1 so_far.2).1 (subst (λ x. All (λ other. Differ other x) cs) (sym same) differs)))
    (let n = so_far.1 in let t = c.loop-i-test.true in omega arith) all
