use Rattle.std.proofs.Common.{◌≡◌, ◌≤◌, List, length, map, take, drop}
use Rattle.client_spec.specs.Text.{Item, EachSpells}
use Rattle.client_text.specs.Outlines.{section_of, outline_of, entry_total}
use Rattle.client_spec.specs.Pieces.{meant}
use Rattle.client_text.proofs.outline.header_of.Given as goal

-- the lines so far are counted
abbrev pub invariant-loop-line : goal.invariant-loop-line
invariant-loop-line l = record {
  within : entry_total l.header ≤ length (meant l.fn.text);
  rest : meant l.lines.text.now ≡ drop (entry_total l.header) (meant l.fn.text);
  counted : (items : List Item) → EachSpells (meant l.fn.text) items → map section_of (take (entry_total l.header) items) ≡ outline_of l.header;
}

abbrev pub decreases-loop-line : goal.decreases-loop-line
decreases-loop-line l = length l.lines.text.now
