use Rattle.std.proofs.Common.{refl, sym, ◌∙◌, arith}
use Rattle.std.proofs.lemmas.Bool.{eqb-true, eqb-false}
use Rattle.client_text.proofs.LineWords.{no_words, one_word}
use Rattle.client_text.proofs.words.Words.next.Goals as goal

pub returns-then-is_empty-clause-none : goal.returns-then-is_empty-clause-none
returns-then-is_empty-clause-none c =
    no_words c.args.self.now.line.now _ c.before_space.result c.before_space.ensures.count refl (eqb-true _ 0 (sym c.is_empty.ensures ∙ c.if-is_empty.true))

pub returns-clause-found : goal.returns-clause-found
returns-clause-found c =
    one_word c.args.self.now.line.now _ _ _ c.before_space.result c.before_space-2.result c.before_space.ensures.count refl c.before_space-2.ensures.count
    (let some = eqb-false _ 0 (sym c.is_empty.ensures ∙ c.if-is_empty.false) in omega arith) c.split_at.ensures.front c.split_at.ensures.back
