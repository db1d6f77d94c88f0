use Rattle.std.proofs.Common.{refl, ap, ◌∙◌, sym}
use Rattle.seg_spec.specs.Bytes.{word, set_word}
use Rattle.seg_spec.specs.Window.{with_bytes}
use Rattle.seg_spec.specs.Cells.{further}
use Rattle.seg_cells.proofs.Pointers.{no_pointers, pointer_position, next_pointer}
use Rattle.seg_spec.proofs.WindowLaws.{bytes_of}
use Rattle.seg_cells.proofs.cells.point_pointers_again.Goals as goal

pub loop-index-init : goal.loop-index-init
loop-index-init g c = record {
  host = refl;
  pointed = λ fits within. no_pointers c.args.distance c.args.w.now.bytes c.args.start c.args.entry.size c.args.entry.before;
}

pub loop-index-preserved : goal.loop-index-preserved
loop-index-preserved g c =
    let old = c.loop-index.w in
    let written = set_word old.bytes c.value_at.result (further c.args.distance (word old.bytes c.value_at.result)) in
    let is = bytes_of c.point_cell_again.new.w (with_bytes old written) c.point_cell_again.ensures in
    record {
      host = c.point_cell_again.ensures ∙ ap (λ p. with_bytes p written) c.loop-index.invariant.host ∙ ap (λ b. with_bytes c.args.w.now b) (sym is);
      pointed = λ fits within.
          let before = c.loop-index.invariant.pointed fits within in
          let less = c.loop-index-test.true in
          let at_is = c.value_at.ensures ∙ pointer_position c.args.w.now.bytes c.args.start c.args.entry.size c.args.entry.before c.loop-index.index c.args.n fits less within in
          rw (is, at_is) (next_pointer c.args.distance c.args.w.now.bytes c.loop-index.w.bytes c.args.start c.args.entry.size c.args.entry.before c.loop-index.index c.args.n fits less within before);
    }
