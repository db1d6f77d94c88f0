use Rattle.std.proofs.Common.{◌≡◌, ap, ◌∙◌, sym}
use Rattle.seg_spec.specs.Bytes.{word}
use Rattle.seg_spec.specs.Header.{index_kind_word}
use Rattle.seg_spec.specs.Window.{Placement}
use Rattle.seg_index.specs.Lists.{PartedNames, LeadsToName}
use Rattle.seg_index.proofs.LookUps.{flat_kind, occupied}
use Rattle.seg_index.proofs.lookup.look_up.Goals as goal
use Rattle.seg_index.proofs.lookup.look_up.Goals.{in-Flat, in-Tree}

pub returns-in-Some : goal.returns-in-Some
returns-in-Some g c = λ names blocks f.
    let bytes = c.args.heap.now.window.bytes in
    let table = c.args.heap.now.types in
    let name = c.args.name.now in
    let kind_is : word c.window.result.now.bytes index_kind_word ≡ word bytes index_kind_word = ap (λ (p : Placement). word p.bytes index_kind_word) c.window.ensures in
    elim c.match-of.branch [
      | in-Flat w ↦
          let flat : word bytes index_kind_word ≡ 0 = flat_kind c.of.result (word bytes index_kind_word) f.kind_is (λ e. c.of.ensures.1 (kind_is ∙ e)) w.in-Flat.is in
          occupied bytes table names name c.match-of.spot _ w.look_up-index.result.1 c.in-Some.entry (PartedNames names name w.look_up-index.result.0)
          (w.look_up-index.ensures names blocks f flat) (λ these s. (flat, s)) w.spot-is c.in-Some.is
      | in-Tree w ↦
          let tree : word bytes index_kind_word ≡ 1 = sym kind_is ∙ c.of.ensures.0 w.in-Tree.is in
          occupied bytes table names name c.match-of.spot _ w.look_up-path.result.1 c.in-Some.entry (λ _. LeadsToName bytes table name w.look_up-path.result.0)
          (w.look_up-path.ensures names blocks f tree) (λ these s. (tree, s)) w.spot-is c.in-Some.is
    ]
