-- The items that the lines of a text spell, one by one.
use Rattle.std.proofs.Common.{◌≡◌, ℕ, zero, suc, ◌+◌, ◌≤◌, max, List, [], ◌∷◌, ◌++◌, length, map, take, drop, refl, sym, ap, ◌∙◌, subst, arith, take-add}
use Rattle.std.proofs.lemmas.List.{drop-drop, take-append-drop, length-drop, map-append, take_all}
use Rattle.client_spec.specs.Text.{Item, SpellsItem, EachSpells}
use Rattle.client_text.specs.declared.outline.Section.{Section}
use Rattle.client_text.specs.Outlines.{section_of, item_version, items_version, IsOutline}

pub same_count : (lines : List (List ℕ)) (items : List Item) → EachSpells lines items → length items ≡ length lines
same_count [] [] spells = refl
same_count [] (item ∷ items) spells = absurd spells
same_count (line ∷ lines) [] spells = absurd spells
same_count (line ∷ lines) (item ∷ items) (here, spells) = let e = same_count lines items spells in omega arith

following : (n : ℕ) (lines : List (List ℕ)) (items : List Item) → EachSpells lines items → EachSpells (drop n lines) (drop n items)
following zero lines items spells = spells
following (suc n) [] [] spells = spells
following (suc n) [] (item ∷ items) spells = absurd spells
following (suc n) (line ∷ lines) [] spells = absurd spells
following (suc n) (line ∷ lines) (item ∷ items) (here, spells) = following n lines items spells

-- ---- from one element to the next

pub past : {A : Type 0} (xs ys : List A) (n : ℕ) (x : A) → drop n xs ≡ x ∷ ys → drop (n + 1) xs ≡ ys
past xs ys n x e = sym (drop-drop 1 n xs) ∙ ap (drop 1) e

pub not_past : {A : Type 0} (xs ys : List A) (n : ℕ) (x : A) → drop n xs ≡ x ∷ ys → n + 1 ≤ length xs
not_past xs ys n x e = let l = length-drop n xs in let m = ap length e in omega arith

pub one_more : {A : Type 0} (xs ys : List A) (n : ℕ) (x : A) → drop n xs ≡ x ∷ ys → take (n + 1) xs ≡ take n xs ++ x ∷ []
one_more xs ys n x e = take-add n 1 xs ∙ ap (λ zs. take n xs ++ take 1 zs) e

parts : {A : Type 0} (xs ys : List A) (n : ℕ) (x : A) → drop n xs ≡ x ∷ ys → xs ≡ take n xs ++ x ∷ ys
parts xs ys n x e = sym (take-append-drop n xs) ∙ ap (λ zs. take n xs ++ zs) e

pub all_taken : {A : Type 0} (xs : List A) (n : ℕ) → n ≤ length xs → drop n xs ≡ [] → length xs ≡ n
all_taken xs n h e = let l = length-drop n xs in let m = ap length e in omega arith

-- the item that the next line spells
pub record NextItem (items : List Item) (n : ℕ) (line : List ℕ) : Type 0 where
  pub item : Item
  pub rest : List Item
  pub here : drop n items ≡ item ∷ rest
  pub spells : SpellsItem line item

pub next_item : (lines left : List (List ℕ)) (items : List Item) (n : ℕ) (line : List ℕ) → EachSpells lines items → drop n lines ≡ line ∷ left → NextItem items n line
next_item lines left items n line spells e = found (drop n items) refl (subst (λ ls. EachSpells ls (drop n items)) e (following n lines items spells))
  where
    found : (more : List Item) → drop n items ≡ more → EachSpells (line ∷ left) more → NextItem items n line
    found [] same nothing = absurd nothing
    found (item ∷ rest) same (here, there) = record { item = item; rest = rest; here = same; spells = here }

-- ---- sections

module _ (lines left : List (List ℕ)) (items : List Item) (n : ℕ) (line : List ℕ) (before : List Section) (s : Section)
    (spells : EachSpells lines items) (e : drop n lines ≡ line ∷ left) (so_far : map section_of (take n items) ≡ before) (is : (item : Item) → SpellsItem line item → s ≡ section_of item) where
  next : NextItem items n line
  next = next_item lines left items n line spells e

  pub counted_more : map section_of (take (n + 1) items) ≡ before ++ s ∷ []
  counted_more =
      ap (map section_of) (one_more items next.rest n next.item next.here) ∙ map-append section_of (take n items) (next.item ∷ [])
      ∙ ap (λ ss. ss ++ section_of next.item ∷ []) so_far ∙ ap (λ t. before ++ t ∷ []) (sym (is next.item next.spells))

  pub not_counted : ((following : List Section) → IsOutline (before ++ s ∷ following) → ⊥) → IsOutline (map section_of items) → ⊥
  not_counted refused outline =
      refused (map section_of next.rest) (subst IsOutline (
      ap (map section_of) (parts items next.rest n next.item next.here) ∙ map-append section_of (take n items) (next.item ∷ next.rest)
      ∙ ap (λ ss. ss ++ section_of next.item ∷ map section_of next.rest) so_far ∙ ap (λ t. before ++ t ∷ map section_of next.rest) (sym (is next.item next.spells))
      ) outline)

-- ---- versions

one_version : (items : List Item) (item : Item) → items_version (items ++ item ∷ []) ≡ max (items_version items) (item_version item)
one_version [] item = omega arith
one_version (first ∷ items) item = let more = one_version items item in omega arith

-- after one more line the version is the maximum with that line's version
pub version_more : (lines left : List (List ℕ)) (items : List Item) (n : ℕ) (line : List ℕ) (before here : ℕ) → EachSpells lines items → drop n lines ≡ line ∷ left
    → before ≡ items_version (take n items) → ((item : Item) → SpellsItem line item → here ≡ item_version item) → max before here ≡ items_version (take (n + 1) items)
version_more lines left items n line before here spells e so_far is =
    let next = next_item lines left items n line spells e in
    let this = is next.item next.spells in
    let all = ap items_version (one_more items next.rest n next.item next.here) ∙ one_version (take n items) next.item in
    omega arith

pub version_whole : (lines : List (List ℕ)) (items : List Item) (n m : ℕ) → EachSpells lines items → drop n lines ≡ [] → n ≤ m → take n items ≡ take m items
version_whole lines items n m spells none few =
    let count = same_count lines items spells in
    let rest = length-drop n lines in
    let nothing = ap length none in
    take_all n items (omega arith) ∙ sym (take_all m items (omega arith))
