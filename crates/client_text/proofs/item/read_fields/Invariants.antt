use Rattle.std.proofs.Common.{◌≡◌, ◌<◌, ◌++◌, map, length, All}
use Rattle.client_spec.specs.Text.{words_of, type_word}
use Rattle.client_text.proofs.item.read_fields.Given as goal

abbrev pub decreases-loop-word : goal.decreases-loop-word
decreases-loop-word l = length l.words.line.now

-- the types so far, and the rest of the words
abbrev pub invariant-loop-word : goal.invariant-loop-word
invariant-loop-word l = (words_of l.fn.words.line.now ≡ map type_word l.fields.items ++ words_of l.words.line.now) × All (λ U. U < 256) l.fields.items
