-- Entries of the index as bytes.
--     zero_at bytes entry              the last byte of an entry
--     entry_read bytes entry           the entry at a position
--     second_word_of entry             the second word of an entry
--     write_entry bytes at entry       the bytes with an entry at a position
use Rattle.std.specs.Prelude.{ℕ, ◌+◌, ◌*◌, ◌^◌, List}
use Rattle.seg_spec.specs.Bytes.{byte, set_word}
use Rattle.seg_spec.specs.Pointer.{target, set_pointer}
use Rattle.seg_cells.specs.Names.{values_at, len_at}
use Rattle.seg_cells.specs.declared.name_entry.NameEntry.{NameEntry}

abbrev pub zero_at : List ℕ → ℕ → ℕ
zero_at bytes entry = byte bytes (entry + 7)

abbrev pub entry_read : List ℕ → ℕ → NameEntry
entry_read bytes entry = record {
  object = target bytes entry;
  count = values_at bytes entry;
  name_len = len_at bytes entry;
  zero = zero_at bytes entry;
}

abbrev pub second_word_of : NameEntry → ℕ
second_word_of entry = entry.count + 2 ^ 16 * entry.name_len + 2 ^ 24 * entry.zero

abbrev pub write_entry : List ℕ → ℕ → NameEntry → List ℕ
write_entry bytes at entry =
    set_word (set_pointer bytes at entry.object) (at + 4) (second_word_of entry)
