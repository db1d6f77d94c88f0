use Rattle.std.proofs.Common.{rules, arith, ◌≡◌, ◌++◌, ◌∷◌, [], Some, ℕ, length, refl, sym, ap, ◌∙◌, suc, List, append_assoc, subst}
use Rattle.std.proofs.lemmas.List.{append-nil}
use Rattle.std.proofs.lemmas.Slice.Eq.{strip_prefix_is}
use Rattle.std.proofs.lemmas.Bool.Decides.{Decides-eqb}
use Rattle.script_meaning.specs.Meaning.{Writes}
use Rattle.script_meaning.specs.Comparing.{holding, Follows}
use Rattle.script_meaning.proofs.PrintLaws.{no_text, next_text}
use Rattle.script_meaning.proofs.comparison.Comparison.texts.Goals as goal

pub loop-rest-init : goal.loop-rest-init
loop-rest-init c = record { front = []; split = refl; follows = λ held. no_text c.args.self.now c.args.at held }

pub loop-rest-preserved : goal.loop-rest-preserved
loop-rest-preserved c =
    let text = c.in_ok-text_at.field-0.now in
    let rest = c.in_ok-rest.rest.now in
    let inside = c.loop-rest.invariant in
    let cut : c.loop-rest.rest.now ≡ text ++ rest = strip_prefix_is Decides-eqb c.loop-rest.rest.now text (Some c.in_ok-rest.rest) c.in_ok-rest.ensures.cases in
    let after : suc c.loop-rest.now ≡ c.in_ok-now.now = omega arith in
    record {
      front = inside.front ++ text;
      split = inside.split ∙ ap (λ bytes. inside.front ++ bytes) cut ∙ sym (append_assoc inside.front text rest);
      follows = λ held. subst (λ now. Follows c.args.self.now c.args.at now (holding held) (Writes (λ m. inside.front ++ text)) (holding held)) after
          (next_text c.args.self.now c.args.at c.loop-rest.now inside.front text held (inside.follows held) c.in_ok-text_at.ensures);
    }

nothing_left : (bytes front rest : List ℕ) → bytes ≡ front ++ rest → length rest ≡ 0 → front ≡ bytes
nothing_left bytes front [] split none = sym (split ∙ append-nil front)
nothing_left bytes front (x ∷ xs) split none = absurd (omega arith)

pub returns : goal.returns
returns c = λ held.
    let none : length c.loop-rest.rest.now ≡ 0 = search rules in
    subst (λ bytes. Follows c.args.self.now c.args.at c.loop-rest.now (holding held) (Writes (λ m. bytes)) (holding held))
    (nothing_left c.args.bytes.now c.loop-rest.invariant.front c.loop-rest.rest.now c.loop-rest.invariant.split none) (c.loop-rest.invariant.follows held)
