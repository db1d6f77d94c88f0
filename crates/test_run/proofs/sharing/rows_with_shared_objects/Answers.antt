use Rattle.test_run.proofs.sharing.SharedObjectLaws.{each_named, row_gives, row_frees, last_cell, with_it, shared_goes}
use Rattle.test_run.proofs.sharing.rows_with_shared_objects.Goals as goal

pub returns : goal.returns
returns c = record {
  returned = λ constants others moves i x y row. row_gives constants row.before.pictured y.image i.a i.b i.c i.number i.operation row.blocks;
  in_the_row = λ constants others moves i x y row. row_frees constants row.before.pictured y.image i row.blocks;
  last_cell = λ bytes picture gone blocks g. last_cell bytes picture gone blocks g;
  with_it = λ bytes picture gone blocks g. with_it bytes picture gone blocks g;
  shared = λ constants i others s bytes pictured place gives r. shared_goes constants i pictured place gives r;
  unnamed = λ others s bytes at pictured none. each_named _ pictured.picture pictured.counted at none;
}
