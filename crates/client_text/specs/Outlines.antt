-- The order of a client's items: first all types, then all constants, then all instructions.
--     section_of item        the section that an item belongs to
--     items_version items    the version that a file with these items has
--     outlined t c i         the sections of t types, c constants and i instructions
--     IsOutline sections     the sections are in order, with no more items than a client may have
--     outline_of header      the sections that a header counts
--     entry_total header     the number of items that a header counts
use Rattle.std.specs.Prelude.{◌≡◌, ℕ, ◌+◌, ◌≤◌, max, List, [], ◌∷◌, ◌++◌, replicate}
use Rattle.client_spec.specs.Types.{version_of}
use Rattle.client_spec.specs.Text.{Item, type_item, constant_item, instruction_item}
use Rattle.client_code.specs.declared.header.FileHeader.{FileHeader}
use Rattle.client_text.specs.declared.outline.Section.{Section}
use Rattle.client_text.specs.declared.outline.Section.TheVariants as section

abbrev pub section_of : Item → Section
section_of (type_item form) = section.Types
section_of (constant_item constant) = section.Constants
section_of (instruction_item i) = section.Instructions

-- the first version of files that has the item
abbrev pub item_version : Item → ℕ
item_version (type_item form) = version_of form
item_version _ = 1

abbrev pub items_version : List Item → ℕ
items_version [] = 1
items_version (item ∷ items) = max (item_version item) (items_version items)

abbrev pub outlined : ℕ → ℕ → ℕ → List Section
outlined t c i =
    replicate t section.Types ++ (replicate c section.Constants ++ replicate i section.Instructions)

pub record IsOutline (sections : List Section) : Type 0 where
  pub types : ℕ
  pub constants : ℕ
  pub instructions : ℕ
  pub few_types : types ≤ 32
  pub few_constants : constants ≤ 256
  pub few_instructions : instructions ≤ 4096
  pub in_order : sections ≡ outlined types constants instructions

abbrev pub outline_of : FileHeader → List Section
outline_of header = outlined header.types header.constants header.instructions

abbrev pub entry_total : FileHeader → ℕ
entry_total header = header.types + header.constants + header.instructions
