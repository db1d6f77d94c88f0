use Rattle.std.proofs.Common.{◌≡◌, List, take, drop}
use Rattle.client_spec.specs.Text.{Item, EachSpells}
use Rattle.client_spec.specs.Pieces.{meant}
use Rattle.client_text.specs.Outlines.{items_version}
use Rattle.client_text.proofs.outline.version_in.Given as goal

-- the version of the lines so far is known
abbrev pub invariant-loop : goal.invariant-loop
invariant-loop l = record {
  rest : meant l.lines.text.now ≡ drop l.counter (meant l.fn.text);
  counted : (items : List Item) → EachSpells (meant l.fn.text) items → l.version ≡ items_version (take l.counter items);
}
