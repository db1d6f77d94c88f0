use Rattle.std.proofs.Common.{inl, inr, ◌∙◌}
use Rattle.seg_ptr.proofs.Views.{number_none, word_four}
use Rattle.seg_ptr.proofs.view.View.get32.Goals as goal

pub returns-in_default : goal.returns-in_default
returns-in_default c =
    number_none 4 c.args.self.bytes.now c.args.at c.part.result.bytes.now (record { inside = c.part.ensures.inside; past = c.part.ensures.past }) (inl c.in_default.len_below)

pub returns-in_default-2 : goal.returns-in_default-2
returns-in_default-2 c =
    number_none 4 c.args.self.bytes.now c.args.at c.part.result.bytes.now (record { inside = c.part.ensures.inside; past = c.part.ensures.past }) (inr c.in_default.len_at_least)

pub returns : goal.returns
returns c =
    c.from_le_bytes.ensures ∙ word_four c.args.self.bytes.now c.args.at c.part.result.bytes.now (record { inside = c.part.ensures.inside; past = c.part.ensures.past }) c.in-len4.len_at_least c.in-len4.len_below
