-- The program's entries in the definitions' terms.
--     IsEntryOf table before U entry    an entry with a value of the type U after `before` bytes
use Rattle.std.specs.Prelude.{◌≡◌, ℕ, ◌+◌}
use Rattle.seg_spec.specs.Types.{Table, size}
use Rattle.seg_cells.specs.declared.entry.Entry.{Entry}
use Rattle.seg_cells.specs.declared.entry.Held.TheVariants as held

pub record IsEntryOf (table : Table) (before U : ℕ) (entry : Entry) : Type 0 where
  pub size_is : entry.size ≡ before + size table U
  pub before_is : entry.before ≡ before
  pub held_is : entry.held ≡ held.Value U
