-- The file that is built from a text, item by item.
use Rattle.std.proofs.Common.{◌≡◌, ℕ, ◌+◌, ◌≤◌, max, zero, suc, List, [], ◌∷◌, ◌++◌, length, map, take, drop, replicate, refl, sym, ap, ◌∙◌, subst, arith, append_assoc, append-nil, All}
use Rattle.std.specs.Prelude.{flat_map}
use Rattle.std.proofs.lemmas.List.{flat_map_more, take_all}
use Rattle.std.proofs.lemmas.List.Concat.{flat_map-append}
use Rattle.std.proofs.lemmas.List.Folds.{flat_map-map}
use Rattle.std.proofs.lemmas.List.Elements.{All-push}
use Rattle.client_spec.specs.Types.{Form, Table, version_of, form_bytes}
use Rattle.client_spec.specs.Syntax.{Constant, Instruction}
use Rattle.client_spec.specs.Grammar.{file_version, constant_bytes, instruction_bytes}
use Rattle.client_spec.specs.Text.{Item, type_item, constant_item, instruction_item, SpellsItem, EachSpells}
use Rattle.client_spec.proofs.Spelling.TextWordLaws.{tail_of}
use Rattle.client_text.specs.declared.outline.Section.{Section}
use Rattle.client_text.specs.declared.outline.Section.TheVariants as section
use Rattle.client_text.specs.Headers.{header_bytes}
use Rattle.client_text.specs.Items.{item_bytes}
use Rattle.client_text.specs.Outlines.{section_of, items_version, outlined}
use Rattle.client_spec.specs.Pieces.{IsReadable, meant, Pieces, all_items, file_of, Says}
use Rattle.client_text.proofs.SpelledLines.{same_count, all_taken, one_more}

-- the file is its start and then the items of the first lines
pub record Written (lines : List (List ℕ)) (start file : List ℕ) (n : ℕ) : Type 0 where
  pub items : List Item
  pub spelled : EachSpells (take n lines) items
  pub readable : All IsReadable items
  pub bytes : file ≡ start ++ flat_map item_bytes items

spelled_more : (lines : List (List ℕ)) (items : List Item) (line : List ℕ) (item : Item) → EachSpells lines items → SpellsItem line item → EachSpells (lines ++ line ∷ []) (items ++ item ∷ [])
spelled_more [] [] line item spells here = (here, tt)
spelled_more [] (i ∷ items) line item spells here = absurd spells
spelled_more (l ∷ lines) [] line item spells here = absurd spells
spelled_more (l ∷ lines) (i ∷ items) line item (first, spells) here = (first, spelled_more lines items line item spells here)

pub further : (lines left : List (List ℕ)) (start file : List ℕ) (n : ℕ) (line : List ℕ) (item : Item) (now : List ℕ)
    → Written lines start file n → drop n lines ≡ line ∷ left → SpellsItem line item → IsReadable item → now ≡ file ++ item_bytes item → Written lines start now (n + 1)
further lines left start file n line item now written e spells readable bytes = record {
  items = written.items ++ item ∷ [];
  spelled = subst (λ ls. EachSpells ls (written.items ++ item ∷ [])) (sym (one_more lines left n line e)) (spelled_more (take n lines) written.items line item written.spelled spells);
  readable = All-push IsReadable written.items item written.readable readable;
  bytes = bytes ∙ ap (λ xs. xs ++ item_bytes item) written.bytes ∙ flat_map_more item_bytes start written.items item;
}

-- ---- items in order are pieces

-- the first items are all of one section
record First {A : Type 0} (f : A → Item) (n : ℕ) (following : List Section) (items : List Item) : Type 0 where
  pub list : List A
  pub rest : List Item
  pub count : length list ≡ n
  pub whole : items ≡ map f list ++ rest
  pub sections : map section_of rest ≡ following

first : {A : Type 0} (f : A → Item) (s : Section) → ((item : Item) → section_of item ≡ s → (x : A) × (item ≡ f x))
    → (n : ℕ) (following : List Section) (items : List Item) → map section_of items ≡ replicate n s ++ following → First f n following items
first f s kind zero following items e = record { list = []; rest = items; count = refl; whole = refl; sections = e }
first f s kind (suc n) following [] e = cc
first f s kind (suc n) following (item ∷ items) e =
    let cut = tail_of (section_of item) s (map section_of items) (replicate n s ++ following) e in
    let here = kind item cut.0 in
    let more = first f s kind n following items cut.1 in
    record {
      list = here.0 ∷ more.list;
      rest = more.rest;
      count = (let k = more.count in omega arith);
      whole = ap (λ i. i ∷ items) here.1 ∙ ap (λ is. f here.0 ∷ is) more.whole;
      sections = more.sections;
    }

a_type : (item : Item) → section_of item ≡ section.Types → (x : Form) × (item ≡ type_item x)
a_type (type_item form) e = (form, refl)
a_type (constant_item constant) e = cc
a_type (instruction_item i) e = cc

a_constant : (item : Item) → section_of item ≡ section.Constants → (x : Constant) × (item ≡ constant_item x)
a_constant (type_item form) e = cc
a_constant (constant_item constant) e = (constant, refl)
a_constant (instruction_item i) e = cc

an_instruction : (item : Item) → section_of item ≡ section.Instructions → (x : Instruction) × (item ≡ instruction_item x)
an_instruction (type_item form) e = cc
an_instruction (constant_item constant) e = cc
an_instruction (instruction_item i) e = (i, refl)

nothing : (items : List Item) → map section_of items ≡ [] → items ≡ []
nothing [] e = refl
nothing (item ∷ items) e = cc

record InPieces (t c i : ℕ) (items : List Item) : Type 0 where
  pub pieces : Pieces
  pub types : length pieces.types ≡ t
  pub constants : length pieces.constants ≡ c
  pub instructions : length pieces.instructions ≡ i
  pub whole : items ≡ all_items pieces

in_pieces : (t c i : ℕ) (items : List Item) → map section_of items ≡ outlined t c i → InPieces t c i items
in_pieces t c i items e =
    let types = first type_item section.Types a_type t (replicate c section.Constants ++ replicate i section.Instructions) items e in
    let constants = first constant_item section.Constants a_constant c (replicate i section.Instructions) types.rest types.sections in
    let instructions = first instruction_item section.Instructions an_instruction i [] constants.rest (constants.sections ∙ sym (append-nil (replicate i section.Instructions))) in
    record {
      pieces = record { types = types.list; constants = constants.list; instructions = instructions.list };
      types = types.count;
      constants = constants.count;
      instructions = instructions.count;
      whole =
          types.whole ∙ ap (λ is. map type_item types.list ++ is) (constants.whole ∙ ap (λ is. map constant_item constants.list ++ is) (instructions.whole
          ∙ ap (λ is. map instruction_item instructions.list ++ is) (nothing instructions.rest instructions.sections) ∙ append-nil (map instruction_item instructions.list)))
          ∙ sym (append_assoc (map type_item types.list) (map constant_item constants.list) (map instruction_item instructions.list));
    }

-- ---- the whole file

abbrev header_in : Pieces → List ℕ
header_in pieces = header_bytes (file_version pieces.types) (length pieces.types) (length pieces.constants) (length pieces.instructions)

bytes_in : (pieces : Pieces) → flat_map item_bytes (all_items pieces) ≡ (flat_map form_bytes pieces.types ++ flat_map constant_bytes pieces.constants) ++ flat_map instruction_bytes pieces.instructions
bytes_in pieces =
    let types = map type_item pieces.types in
    let constants = map constant_item pieces.constants in
    let instructions = map instruction_item pieces.instructions in
    flat_map-append item_bytes (types ++ constants) instructions
    ∙ ap (λ xs. xs ++ flat_map item_bytes instructions) (flat_map-append item_bytes types constants)
    ∙ ap (λ xs. (xs ++ flat_map item_bytes constants) ++ flat_map item_bytes instructions) (flat_map-map item_bytes type_item pieces.types)
    ∙ ap (λ xs. (flat_map form_bytes pieces.types ++ xs) ++ flat_map item_bytes instructions) (flat_map-map item_bytes constant_item pieces.constants)
    ∙ ap (λ xs. (flat_map form_bytes pieces.types ++ flat_map constant_bytes pieces.constants) ++ xs) (flat_map-map item_bytes instruction_item pieces.instructions)

regroup : (old header types constants code : List ℕ) → (old ++ header) ++ ((types ++ constants) ++ code) ≡ old ++ (((header ++ types) ++ constants) ++ code)
regroup old header types constants code = simp append_assoc

-- the types determine the version
version_is : (types : Table) (rest : List Item) → items_version (take (length types) (map type_item types ++ rest)) ≡ file_version types
version_is [] rest = refl
version_is (form ∷ types) rest = ap (max (version_of form)) (version_is types rest)

file_is : (old start : List ℕ) (v t c i : ℕ) (items : List Item) (all : InPieces t c i items) → start ≡ old ++ header_bytes v t c i → v ≡ items_version (take t items) → start ++ flat_map item_bytes items ≡ old ++ file_of all.pieces
file_is old start v t c i items all e of_types =
    let pieces = all.pieces in
    let behind = map constant_item pieces.constants ++ map instruction_item pieces.instructions in
    let whole : items ≡ map type_item pieces.types ++ behind = all.whole ∙ append_assoc (map type_item pieces.types) (map constant_item pieces.constants) (map instruction_item pieces.instructions) in
    let version : v ≡ file_version pieces.types = of_types ∙ ap (λ n. items_version (take n items)) (sym all.types) ∙ ap (λ is. items_version (take (length pieces.types) is)) whole ∙ version_is pieces.types behind in
    ap (λ xs. start ++ flat_map item_bytes xs) all.whole ∙ ap (λ xs. xs ++ flat_map item_bytes (all_items pieces)) (
    e ∙ ap (λ n. old ++ header_bytes n t c i) version
    ∙ ap (λ n. old ++ header_bytes (file_version pieces.types) n c i) (sym all.types) ∙ ap (λ n. old ++ header_bytes (file_version pieces.types) (length pieces.types) n i) (sym all.constants)
    ∙ ap (λ n. old ++ header_bytes (file_version pieces.types) (length pieces.types) (length pieces.constants) n) (sym all.instructions)
    )
    ∙ ap (λ xs. (old ++ header_in pieces) ++ xs) (bytes_in pieces)
    ∙ regroup old (header_in pieces) (flat_map form_bytes pieces.types) (flat_map constant_bytes pieces.constants) (flat_map instruction_bytes pieces.instructions)

-- after the last line the file is the file of the pieces
pub ends : (text old start file : List ℕ) (v t c i n : ℕ) → Written (meant text) start file n → drop n (meant text) ≡ [] → n ≤ length (meant text) → start ≡ old ++ header_bytes v t c i → t ≤ 32 → c ≤ 256 → i ≤ 4096
    → ((items : List Item) → EachSpells (meant text) items → v ≡ items_version (take t items))
    → ((items : List Item) → EachSpells (meant text) items → map section_of (take n items) ≡ outlined t c i) → (pieces : Pieces) × Says text pieces × (file ≡ old ++ file_of pieces)
ends text old start file v t c i n written none within e few_types few_constants few_instructions versioned counted =
    let lines = meant text in
    let items = written.items in
    let long = all_taken lines n within none in
    let spells : EachSpells lines items = subst (λ ls. EachSpells ls items) (take_all n lines (omega arith)) written.spelled in
    let count = same_count lines items spells in
    let all = in_pieces t c i items (ap (map section_of) (sym (take_all n items (omega arith))) ∙ counted items spells) in
    let types = all.types in
    let constants = all.constants in
    let instructions = all.instructions in (
      all.pieces,
      record {
        each = record {
          few_types = omega arith;
          few_constants = omega arith;
          few_instructions = omega arith;
          readable = subst (All IsReadable) all.whole written.readable;
        };
        lines = subst (EachSpells lines) all.whole spells;
      },
      written.bytes ∙ file_is old start v t c i items all e (versioned items spells),
    )
