use Rattle.std.proofs.Common.{◌≡◌, ℕ}
use Rattle.seg_spec.specs.Types.{Form}
use Rattle.seg_check.specs.Cells.{CellsPointTo}
use Rattle.seg_check.specs.Resolving.{IsReady}
use Rattle.seg_check.proofs.Contents.ListLaws.{Walked}
use Rattle.seg_check.proofs.image.TypedImage.check_list.Given as goal

abbrev pub invariant-loop : goal.invariant-loop
invariant-loop g l = record {
  taken : l.claims.taken ≡ l.fn.claims.taken;
  walked : (T U : ℕ) (by : CellsPointTo l.self.types.now T (Form.list U) l.content) (ready : IsReady l.self.bytes.bytes.now l.self.types.now l.fn.claims) →
      Walked l.self.bytes.bytes.now l.self.types.now l.fn.claims ready l.cell T U by.form_is l.claims l.first l.last l.counter l.is_linked;
}
