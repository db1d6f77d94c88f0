-- The first word of a line determines its section.
use Rattle.std.proofs.Common.{◌≡◌, ◌⊎◌, ℕ, ◌≤◌, Bool, true, nat_eq, List, ◌∷◌, get_or, refl, sym, ap, ◌∙◌, arith, inl, inr}
use Rattle.std.specs.Prelude.{codes}
use Rattle.std.proofs.lemmas.Slice.Eq.{slice_eq-Decides}
use Rattle.std.proofs.lemmas.Bool.Decides.{Decides-eqb}
use Rattle.client_spec.specs.declared.table.Operation.{Operation}
use Rattle.client_spec.specs.Operations.{mnemonic}
use Rattle.client_spec.specs.Text.{Item, type_item, constant_item, instruction_item, Words, words_of, SpellsItem}
use Rattle.client_spec.proofs.Spelling.OneTextLaws.{first_word, first_in, first_is}
use Rattle.client_text.specs.declared.outline.Section.TheVariants as section
use Rattle.client_text.specs.Outlines.{section_of}

begins : (line word : List ℕ) (rest : Words) (item : Item) → words_of line ≡ word ∷ rest → SpellsItem line item → word ≡ first_word item
begins line word rest item e spells = ap first_in (sym e) ∙ first_is line item spells

-- the mnemonic of an operation begins with an upper case letter
upper : (o : Operation) → get_or (mnemonic o) 0 0 ≤ 90
upper Operation.Const = omega arith
upper o = omega arith

pub same_word : (word slice text : List ℕ) (r : Bool) → r ≡ lib.Pointwise.pointwise nat_eq word slice → slice ≡ text → r ≡ true → word ≡ text
same_word word slice text r e same t = (slice_eq-Decides Decides-eqb word slice r e).0 t ∙ same

pub of_constant : (line word : List ℕ) (rest : Words) (item : Item) → (word ≡ codes "text") ⊎ ((word ≡ codes "name") ⊎ (word ≡ codes "family")) → words_of line ≡ word ∷ rest → SpellsItem line item → section.Constants ≡ section_of item
of_constant line word rest item one e spells = here item one (begins line word rest item e spells)
  where
    here : (item : Item) → (word ≡ codes "text") ⊎ ((word ≡ codes "name") ⊎ (word ≡ codes "family")) → word ≡ first_word item → section.Constants ≡ section_of item
    here (type_item form) (inl is) same = absurd (let z = ap (λ w. get_or w 1 0) (sym is ∙ same) in omega arith)
    here (type_item form) (inr (inl is)) same = absurd (let z = ap (λ w. get_or w 1 0) (sym is ∙ same) in omega arith)
    here (type_item form) (inr (inr is)) same = absurd (let z = ap (λ w. get_or w 1 0) (sym is ∙ same) in omega arith)
    here (constant_item constant) one same = refl
    here (instruction_item i) (inl is) same = absurd (let z = ap (λ w. get_or w 0 0) (sym is ∙ same) in let u = upper i.operation in omega arith)
    here (instruction_item i) (inr (inl is)) same = absurd (let z = ap (λ w. get_or w 0 0) (sym is ∙ same) in let u = upper i.operation in omega arith)
    here (instruction_item i) (inr (inr is)) same = absurd (let z = ap (λ w. get_or w 0 0) (sym is ∙ same) in let u = upper i.operation in omega arith)
