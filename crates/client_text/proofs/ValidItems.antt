-- The items of a valid client can be written in a text, and are in order.
use Rattle.std.proofs.Common.{◌≡◌, ℕ, ◌<◌, List, [], ◌∷◌, ◌++◌, length, map, drop, suc, replicate, get_or, refl, ap, ◌∙◌, subst, arith, append_assoc, All}
use Rattle.std.proofs.lemmas.List.{map-append}
use Rattle.std.proofs.lemmas.List.Elements.{All-map, All-append, All-drop, All-head, All-from_recursion}
use Rattle.std.proofs.lemmas.Option.{slice_get-get_or}
use Rattle.std.proofs.Math.Seq.{drop-cons}
use Rattle.client_spec.specs.Types.{Table, IsTable}
use Rattle.client_spec.specs.declared.table.Operation.{Operation}
use Rattle.client_spec.specs.Syntax.{Instruction, Client}
use Rattle.client_spec.specs.declared.table.Role.{Role}
use Rattle.client_spec.specs.Grammar.{mark, listing, IsClient, IsInstruction}
use Rattle.client_spec.specs.Text.{Item, type_item, constant_item, instruction_item, items_of, SpellsItem, EachSpells, SpellsInText}
use Rattle.client_spec.proofs.Spelling.ListingLaws.{all_listed}
use Rattle.client_spec.proofs.Spelling.OneClientLaws.{mark_word}
use Rattle.client_spec.proofs.Spelling.ReadablePieceLaws.{wider}
use Rattle.client_text.specs.Items.{IsWritten, IsInSomeClient}
use Rattle.client_text.specs.declared.outline.Section.{Section}
use Rattle.client_text.specs.declared.outline.Section.TheVariants as section
use Rattle.client_text.specs.Outlines.{section_of, IsOutline}
use Rattle.client_spec.specs.Pieces.{meant}
use Rattle.client_text.proofs.SpelledLines.{same_count, not_past, next_item}

types_written : (types : Table) → IsTable types → All IsWritten (map type_item types)
types_written types table =
    All-map IsWritten type_item types (λ k d h. wider (length types) k (get_or types k d) (let few = table.few in omega arith) (let few = table.few in omega arith) (table.forms k (get_or types k d) (slice_get-get_or types k d h)))

module _ (client : Client) (valid : IsClient client) where
  in_client : (role : Role) (i : Instruction) → IsInstruction client.types client.constants role i → IsInSomeClient i
  in_client role i h = record {
    types = client.types;
    constants = client.constants;
    few_types = valid.types.few;
    few_constants = valid.few_constants;
    a = h.a;
    b = h.b;
    c = h.c;
    number = h.number;
    range = h.range;
  }

  in_else : IsInSomeClient (mark Operation.Else)
  in_else = record {
    types = client.types;
    constants = client.constants;
    few_types = valid.types.few;
    few_constants = valid.few_constants;
    a = refl;
    b = refl;
    c = refl;
    number = refl;
    range = mark_word Operation.Else;
  }

  in_end : IsInSomeClient (mark Operation.End)
  in_end = record {
    types = client.types;
    constants = client.constants;
    few_types = valid.types.few;
    few_constants = valid.few_constants;
    a = refl;
    b = refl;
    c = refl;
    number = refl;
    range = mark_word Operation.End;
  }

  pub all_written : All IsWritten (items_of client)
  all_written =
      All-append IsWritten (map type_item client.types ++ map constant_item client.constants) (map instruction_item (listing client.code))
      (All-append IsWritten (map type_item client.types) (map constant_item client.constants) (types_written client.types valid.types)
      (All-map IsWritten constant_item client.constants valid.constants))
      (All-map IsWritten instruction_item (listing client.code) (All-from_recursion IsInSomeClient (listing client.code) (all_listed client.types client.constants IsInSomeClient in_client in_else in_end client.code valid.code)))

-- ---- the sections

sections : {A : Type 0} (f : A → Item) (s : Section) → ((x : A) → section_of (f x) ≡ s) → (xs : List A) → map section_of (map f xs) ≡ replicate (length xs) s
sections f s is [] = refl
sections f s is (x ∷ xs) = ap (λ t. t ∷ map section_of (map f xs)) (is x) ∙ ap (λ ts. s ∷ ts) (sections f s is xs)

pub in_order : (client : Client) → IsClient client → IsOutline (map section_of (items_of client))
in_order client valid = record {
  types = length client.types;
  constants = length client.constants;
  instructions = length (listing client.code);
  few_types = valid.types.few;
  few_constants = valid.few_constants;
  few_instructions = valid.few_instructions;
  in_order =
      map-append section_of (map type_item client.types ++ map constant_item client.constants) (map instruction_item (listing client.code))
      ∙ ap (λ ss. ss ++ map section_of (map instruction_item (listing client.code))) (map-append section_of (map type_item client.types) (map constant_item client.constants))
      ∙ append_assoc (map section_of (map type_item client.types)) (map section_of (map constant_item client.constants)) (map section_of (map instruction_item (listing client.code)))
      ∙ ap (λ ss. ss ++ (map section_of (map constant_item client.constants) ++ map section_of (map instruction_item (listing client.code)))) (sections type_item section.Types (λ _. refl) client.types)
      ∙ ap (λ ss. replicate (length client.types) section.Types ++ (ss ++ map section_of (map instruction_item (listing client.code)))) (sections constant_item section.Constants (λ _. refl) client.constants)
      ∙ ap (λ ss. replicate (length client.types) section.Types ++ (replicate (length client.constants) section.Constants ++ ss)) (sections instruction_item section.Instructions (λ _. refl) (listing client.code));
}

-- ---- the lines of a valid client

module _ (text : List ℕ) (client : Client) (spells : SpellsInText text client) where
  -- each line is an item of the client
  pub line_says : (n : ℕ) → n < length (meant text) → ((line : List ℕ) (rest : List (List ℕ)) (item : Item) → drop n (meant text) ≡ line ∷ rest → IsWritten item → SpellsItem line item → ⊥) → ⊥
  line_says n h none =
      let lines = meant text in
      let here = drop-cons lines n [] h in
      let next = next_item lines (drop (suc n) lines) (items_of client) n (get_or lines n []) spells.lines here in
      let written = All-head IsWritten next.item next.rest (subst (All IsWritten) next.here (All-drop IsWritten n (items_of client) (all_written client spells.valid))) in
      none (get_or lines n []) (drop (suc n) lines) next.item here written next.spells

  -- no line comes after the ones that a header counts
  pub none_after : (n : ℕ) (line : List ℕ) (rest : List (List ℕ)) → drop n (meant text) ≡ line ∷ rest → ((items : List Item) → EachSpells (meant text) items → IsOutline (map section_of items) → length items ≡ n) → ⊥
  none_after n line rest here counted =
      let long = not_past (meant text) rest n line here in
      let count = same_count (meant text) (items_of client) spells.lines in
      let all = counted (items_of client) spells.lines (in_order client spells.valid) in
      omega arith
