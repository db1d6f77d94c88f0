use Rattle.std.proofs.Common.{refl, arith}
use Rattle.lezgauri_c.proofs.reading_sequences.first_item.Goals as goal

pub returns-in_default-item-clause-first : goal.returns-in_default-item-clause-first
returns-in_default-item-clause-first c U vs blocks has = (refl, let past = (c.in_default-item.ensures.list U vs blocks has).past in omega (arith, past))
