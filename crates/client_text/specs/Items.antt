-- The items of the assembler's lines: types, constants, instructions and marks.
--     text_item item        the definitions' item for an item of the program
--     IsWritten item        the item is valid by itself, so some client may have it
--     item_bytes item       its bytes in a client file
--     IsWords item          its line consists of words with spaces between them
use Rattle.std.specs.Prelude.{⊤, ◌≤◌, ℕ, List, length, FitsSigned}
use Rattle.std.specs.Int.{w32}
use Rattle.client_spec.specs.Types.{Table, IsForm, form_bytes}
use Rattle.seg_layout.specs.Forms.{form_of}
use Rattle.client_spec.specs.Syntax as code
use Rattle.client_spec.specs.Operations.{row_of}
use Rattle.client_spec.specs.Grammar.{IsConstant, IsOperand, IsNumber, constant_bytes, instruction_bytes}
use Rattle.client_spec.specs.Text as text
use Rattle.client_text.specs.declared.item.Item.{Item}
use Rattle.client_text.specs.declared.item.Item.TheVariants as item
use Rattle.client_code.specs.Views.{constant_by, instruction_of}

abbrev pub text_item : Item → text.Item
text_item (item.«Type» type) = text.type_item (form_of type)
text_item (item.Constant kind bytes) = text.constant_item (constant_by kind bytes.items)
text_item (item.Instruction i) = text.instruction_item (instruction_of i)

-- operands and number are valid in some client
pub record IsInSomeClient (i : code.Instruction) : Type 0 where
  pub types : Table
  pub constants : List code.Constant
  pub few_types : length types ≤ 32
  pub few_constants : length constants ≤ 256
  pub a : IsOperand (row_of i.operation).a i.a
  pub b : IsOperand (row_of i.operation).b i.b
  pub c : IsOperand (row_of i.operation).c i.c
  pub number : IsNumber types constants i.b (row_of i.operation).number i.number
  pub range : FitsSigned w32 i.number

abbrev pub IsWritten : text.Item → Type 0
IsWritten (text.type_item form) = IsForm 256 256 form
IsWritten (text.constant_item constant) = IsConstant constant
IsWritten (text.instruction_item i) = IsInSomeClient i

abbrev pub item_bytes : text.Item → List ℕ
item_bytes (text.type_item form) = form_bytes form
item_bytes (text.constant_item constant) = constant_bytes constant
item_bytes (text.instruction_item i) = instruction_bytes i

abbrev pub IsWords : text.Item → Type 0
IsWords (text.constant_item (code.Constant.Text bytes)) = ⊥
IsWords item = ⊤
