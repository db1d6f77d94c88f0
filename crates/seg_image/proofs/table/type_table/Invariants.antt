use Rattle.std.proofs.Common.{◌≡◌, ◌-◌, ◌*◌, ◌++◌, length, replicate}
use Rattle.seg_image.proofs.TypeListLaws.{entries_to}
use Rattle.seg_image.proofs.table.type_table.Given as goal

abbrev pub invariant-loop-index : goal.invariant-loop-index
invariant-loop-index l = record {
  entries : l.entries ≡ entries_to l.types l.index ++ replicate (512 - 16 * l.index) 0;
  long : length (entries_to l.types l.index) ≡ 16 * l.index;
}
