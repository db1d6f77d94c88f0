use Rattle.std.proofs.Common.{◌≡◌, ℕ}
use Rattle.seg_spec.specs.Types.{Form}
use Rattle.seg_check.specs.Cells.{CellsPointTo}
use Rattle.seg_check.specs.Resolving.{IsReady}
use Rattle.seg_check.proofs.Contents.MapLaws.{Traced}
use Rattle.seg_check.proofs.image.TypedImage.check_map.Given as goal

abbrev pub invariant-loop-visit : goal.invariant-loop-visit
invariant-loop-visit g l = record {
  taken : l.claims.taken ≡ l.fn.claims.taken;
  root : l.walk.root ≡ l.cell;
  same : l.walk.bytes.bytes.now ≡ l.self.bytes.bytes.now;
  traced : (T U : ℕ) (by : CellsPointTo l.self.types.now T (Form.map U) l.content) (ready : IsReady l.self.bytes.bytes.now l.self.types.now l.fn.claims) →
      Traced l.self.bytes.bytes.now l.self.types.now l.fn.claims ready l.cell T U by.form_is l.claims l.walk.stage l.walk.turns l.keys;
}

abbrev pub decreases-loop-visit : goal.decreases-loop-visit
decreases-loop-visit g l = l.walk.turns
