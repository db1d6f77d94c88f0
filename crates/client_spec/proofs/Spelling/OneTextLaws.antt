-- A text spells at most one client.
use Rattle.std.proofs.Common.{◌≡◌, ℕ, suc, ◌+◌, ◌/◌, ◌%◌, ◌^◌, ◌<◌, ◌≤◌, ℤ, pos, negsuc, Bool, true, false, List, [], ◌∷◌, ◌++◌, length, map, refl, sym, ap, ◌∙◌, subst, arith, inl, inr, append-nil, append_assoc, length-append}
use Rattle.std.specs.Prelude.{if◌then◌else◌, nat_lt, codes, flat_map, FitsSigned}
use Rattle.std.specs.List.{AllByRecursion}
use Rattle.std.specs.Int.{w32}
use Rattle.std.specs.Fmt.{decimal, signed_decimal}
use Rattle.std.proofs.lemmas.Fmt.{decimal_by_steps}
use Rattle.std.proofs.lemmas.Bool.{ltb-true}
use Rattle.seg_spec.specs.Types.{Form, IsForm}
use Rattle.seg_spec.specs.Index.{same_name}
use Rattle.client_spec.specs.declared.table.Operation.{Operation}
use Rattle.client_spec.specs.Syntax.{Constant, Instruction, Client}
use Rattle.client_spec.specs.declared.table.Number.{Number}
use Rattle.client_spec.specs.Operations.{mnemonic, row_of}
use Rattle.client_spec.specs.Text.{Item, type_item, constant_item, instruction_item, Words, operand_words, type_word, constant_word, number_words}
use Rattle.client_spec.specs.Text.{instruction_words, type_words, words_of, SpellsText, is_plain, escaped, hex_digit, SpellsItem, EachSpells, SpellsInText}
use Rattle.client_spec.specs.Pieces.{Pieces, pieces_of, all_items, IsTold, IsToldInstruction, IsReadable, Says}
use Rattle.client_spec.proofs.Spelling.ListingLaws.{all_two}
use Rattle.client_spec.proofs.Spelling.ReadablePieceLaws.{each_of, of_client}
use Rattle.client_spec.proofs.Spelling.OneClientLaws.{one_tree}
use Rattle.client_spec.proofs.Spelling.OperationTableLaws.{same_by_word}
use Rattle.client_spec.proofs.Spelling.TextWordLaws.{tail_of, front, decimal_one, lettered_one, word_one, types_one, operand_length, operand_one}

-- ---- numbers

digits_high : (n : ℕ) → n < 2 ^ 64 → AllByRecursion (λ b. 48 ≤ b) (decimal n)
digits_high n h = decimal_by_steps (λ m ds. AllByRecursion (λ b. 48 ≤ b) ds) (λ m l. (omega arith, tt)) (λ m ds l d. all_two (λ b. 48 ≤ b) ds ((48 + m % 10) ∷ []) d (omega arith, tt)) n h

signed_one : (x y : ℤ) → FitsSigned w32 x → FitsSigned w32 y → signed_decimal x ≡ signed_decimal y → x ≡ y
signed_one (pos n) (pos m) h k e = ap pos (decimal_one n m (omega (arith, h.sfits)) (omega (arith, k.sfits)) e)
signed_one (pos n) (negsuc m) h k e = let d = subst (AllByRecursion (λ b. 48 ≤ b)) e (digits_high n (omega (arith, h.sfits))) in let l = d.0 in absurd (omega arith)
signed_one (negsuc n) (pos m) h k e = let d = subst (AllByRecursion (λ b. 48 ≤ b)) (sym e) (digits_high m (omega (arith, k.sfits))) in let l = d.0 in absurd (omega arith)
signed_one (negsuc n) (negsuc m) h k e =
    let s = decimal_one (suc n) (suc m) (omega (arith, h.sfits)) (omega (arith, k.sfits)) (tail_of 45 45 (decimal (suc n)) (decimal (suc m)) e).1 in
    let same : n ≡ m = omega arith in ap negsuc same

divided : (n m : ℕ) → n / 256 ≡ m / 256 → n % 256 ≡ m % 256 → n ≡ m
divided n m e f = omega arith

number_one : (form : Number) (x y : ℤ) → IsTold form x → IsTold form y → FitsSigned w32 x → FitsSigned w32 y → number_words form x ≡ number_words form y → x ≡ y
number_one Number.Unused x y h k f g e = h ∙ sym k
number_one Number.Any x y h k f g e = signed_one x y f g (word_one _ _ e)
number_one Number.Turns x y h k f g e = signed_one x y f g (word_one _ _ e)
number_one Number.TypeId (pos n) (pos m) h k f g e = ap pos (lettered_one 116 n m (omega (arith, f.sfits)) (omega (arith, g.sfits)) (word_one _ _ e))
number_one Number.TypeId (pos n) (negsuc m) h k f g e = absurd k
number_one Number.TypeId (negsuc n) y h k f g e = absurd h
number_one Number.Text (pos n) (pos m) h k f g e = ap pos (lettered_one 107 n m (omega (arith, f.sfits)) (omega (arith, g.sfits)) (word_one _ _ e))
number_one Number.Text (pos n) (negsuc m) h k f g e = absurd k
number_one Number.Text (negsuc n) y h k f g e = absurd h
number_one Number.TypedName (pos n) (pos m) h k f g e =
    let p = tail_of (type_word (n / 256)) (type_word (m / 256)) (constant_word (n % 256) ∷ []) (constant_word (m % 256) ∷ []) e in
    let a = lettered_one 116 (n / 256) (m / 256) (omega (arith, f.sfits)) (omega (arith, g.sfits)) p.0 in
    let d = lettered_one 107 (n % 256) (m % 256) (omega arith) (omega arith) (word_one _ _ p.1) in
    ap pos (divided n m a d)
number_one Number.TypedName (pos n) (negsuc m) h k f g e = absurd k
number_one Number.TypedName (negsuc n) y h k f g e = absurd h

-- ---- instructions

abbrev of : Operation → ℕ → ℕ → ℕ → ℤ → Instruction
of o a b c n = record { operation = o; a = a; b = b; c = c; number = n }

abbrev rest_words : Operation → ℕ → ℕ → ℕ → ℤ → Words
rest_words o a b c n = ((operand_words (row_of o).a a ++ operand_words (row_of o).b b) ++ operand_words (row_of o).c c) ++ number_words (row_of o).number n

length_two : (xs ys us vs : Words) → length xs ≡ length ys → length us ≡ length vs → length (xs ++ us) ≡ length (ys ++ vs)
length_two xs ys us vs e f = simp length-append (omega arith)

fields_one : (o : Operation) (a b c a' b' c' : ℕ) (n n' : ℤ) → IsToldInstruction (of o a b c n) → IsToldInstruction (of o a' b' c' n') → rest_words o a b c n ≡ rest_words o a' b' c' n' → (a ≡ a') × (b ≡ b') × (c ≡ c') × (n ≡ n')
fields_one o a b c a' b' c' n n' h k e =
    let la = operand_length (row_of o).a a a' in
    let lb = operand_length (row_of o).b b b' in
    let lc = operand_length (row_of o).c c c' in
    let lab = length_two (operand_words (row_of o).a a) (operand_words (row_of o).a a') (operand_words (row_of o).b b) (operand_words (row_of o).b b') la lb in
    let labc = length_two (operand_words (row_of o).a a ++ operand_words (row_of o).b b) (operand_words (row_of o).a a' ++ operand_words (row_of o).b b') (operand_words (row_of o).c c) (operand_words (row_of o).c c') lab lc in
    let p = front _ _ (number_words (row_of o).number n) (number_words (row_of o).number n') labc e in
    let q = front _ _ (operand_words (row_of o).c c) (operand_words (row_of o).c c') lab p.0 in
    let r = front _ _ (operand_words (row_of o).b b) (operand_words (row_of o).b b') la q.0 in
    (operand_one (row_of o).a a a' h.a k.a r.0, operand_one (row_of o).b b b' h.b k.b r.1, operand_one (row_of o).c c c' h.c k.c q.1, number_one (row_of o).number n n' h.number k.number h.range k.range p.1)

instruction_one : (i j : Instruction) → IsToldInstruction i → IsToldInstruction j → instruction_words i ≡ instruction_words j → i ≡ j
instruction_one i j h k e =
    let p = tail_of (mnemonic i.operation) (mnemonic j.operation) (rest_words i.operation i.a i.b i.c i.number) (rest_words j.operation j.a j.b j.c j.number) e in
    let o = same_by_word i.operation j.operation p.0 in
    let k' = subst (λ o. IsToldInstruction (of o j.a j.b j.c j.number)) (sym o) k in
    let f = fields_one i.operation i.a i.b i.c j.a j.b j.c i.number j.number h k' (p.1 ∙ ap (λ o. rest_words o j.a j.b j.c j.number) (sym o)) in
    λ t. record { operation = o t; a = f.0 t; b = f.1 t; c = f.2 t; number = f.3 t }

-- ---- types

tag : Form → ℕ
tag Form.i64 = 0
tag Form.str = 1
tag (Form.vec U) = 2
tag (Form.list U) = 3
tag (Form.flat_map U) = 4
tag (Form.map U) = 5
tag (Form.own U) = 6
tag (Form.struct Us) = 7
tag (Form.shared U) = 8

tag_of_words : Words → ℕ
tag_of_words [] = 9
tag_of_words (w ∷ ws) =
    if same_name w (codes "i64") then 0
    else (if same_name w (codes "str") then 1
    else (if same_name w (codes "vec") then 2
    else (if same_name w (codes "list") then 3
    else (if same_name w (codes "flat_map") then 4
    else (if same_name w (codes "map") then 5
    else (if same_name w (codes "own") then 6
    else (if same_name w (codes "shared") then 8
    else (7))))))))

tag_is : (f : Form) → tag_of_words (type_words f) ≡ tag f
unfolding tag tag_of_words
tag_is Form.i64 = refl
tag_is Form.str = refl
tag_is (Form.vec U) = refl
tag_is (Form.list U) = refl
tag_is (Form.flat_map U) = refl
tag_is (Form.map U) = refl
tag_is (Form.own U) = refl
tag_is (Form.struct Us) = refl
tag_is (Form.shared U) = refl

form_one : (f g : Form) → IsForm 256 256 f → IsForm 256 256 g → tag f ≡ tag g → type_words f ≡ type_words g → f ≡ g
unfolding tag
form_one Form.i64 Form.i64 h j t e = refl
form_one Form.str Form.str h j t e = refl
form_one (Form.vec U) (Form.vec V) h j t e = ap Form.vec (lettered_one 116 U V (omega arith) (omega arith) (word_one _ _ (tail_of _ _ _ _ e).1))
form_one (Form.list U) (Form.list V) h j t e = ap Form.list (lettered_one 116 U V (omega arith) (omega arith) (word_one _ _ (tail_of _ _ _ _ e).1))
form_one (Form.flat_map U) (Form.flat_map V) h j t e = ap Form.flat_map (lettered_one 116 U V (omega arith) (omega arith) (word_one _ _ (tail_of _ _ _ _ e).1))
form_one (Form.map U) (Form.map V) h j t e = ap Form.map (lettered_one 116 U V (omega arith) (omega arith) (word_one _ _ (tail_of _ _ _ _ e).1))
form_one (Form.own U) (Form.own V) h j t e = ap Form.own (lettered_one 116 U V (omega arith) (omega arith) (word_one _ _ (tail_of _ _ _ _ e).1))
form_one (Form.shared U) (Form.shared V) h j t e = ap Form.shared (lettered_one 116 U V (omega arith) (omega arith) (word_one _ _ (tail_of _ _ _ _ e).1))
form_one (Form.struct Us) (Form.struct Vs) h j t e = ap Form.struct (types_one Us Vs 256 256 (omega arith) (omega arith) (each_of (λ U. U < 256) Us h.2) (each_of (λ V. V < 256) Vs j.2) (tail_of _ _ _ _ e).1)
form_one f g h j t e = absurd (omega arith)

-- ---- texts

hex_one : (n m : ℕ) → n < 16 → m < 16 → hex_digit n ≡ hex_digit m → n ≡ m
hex_one n m h k e = choose (nat_lt n 10) (nat_lt m 10) refl refl e
  where
    choose : (b c : Bool) → nat_lt n 10 ≡ b → nat_lt m 10 ≡ c → (if b then 48 + n else 87 + n) ≡ (if c then 48 + m else 87 + m) → n ≡ m
    choose true true f g d = omega arith
    choose true false f g d = let l = ltb-true n 10 f in absurd (omega arith)
    choose false true f g d = let l = ltb-true m 10 g in absurd (omega arith)
    choose false false f g d = omega arith

sixteenths : (b c : ℕ) → b / 16 ≡ c / 16 → b % 16 ≡ c % 16 → b ≡ c
sixteenths b c e f = omega arith

pub not_plain : (b : ℕ) → b ≡ 92 → is_plain b ≡ true → ⊥
not_plain b e f = let g : is_plain 92 ≡ true = subst (λ x. is_plain x ≡ true) e f in let z : false ≡ true = g in cc

pub escape_one : (b c : ℕ) → b < 256 → c < 256 → (us vs : List ℕ) → escaped b ++ us ≡ escaped c ++ vs → (b ≡ c) × (us ≡ vs)
escape_one b c h k us vs e =
    let p = tail_of 92 92 (hex_digit (b / 16) ∷ hex_digit (b % 16) ∷ us) (hex_digit (c / 16) ∷ hex_digit (c % 16) ∷ vs) e in
    let q = tail_of (hex_digit (b / 16)) (hex_digit (c / 16)) (hex_digit (b % 16) ∷ us) (hex_digit (c % 16) ∷ vs) p.1 in
    let r = tail_of (hex_digit (b % 16)) (hex_digit (c % 16)) us vs q.1 in
    (sixteenths b c (hex_one (b / 16) (c / 16) (omega arith) (omega arith) q.0) (hex_one (b % 16) (c % 16) (omega arith) (omega arith) r.0), r.1)

text_one : (xs ys s : List ℕ) → AllByRecursion (λ b. b < 256) xs → AllByRecursion (λ b. b < 256) ys → SpellsText xs s → SpellsText ys s → xs ≡ ys
text_one [] [] s p q h k = refl
text_one [] (c ∷ ys) s p q h (rest, k, inl (f, e)) = let z : [] ≡ c ∷ rest = sym h ∙ e in cc
text_one [] (c ∷ ys) s p q h (rest, k, inr e) = let z : [] ≡ escaped c ++ rest = sym h ∙ e in cc
text_one (b ∷ xs) [] s p q (rest, h, inl (f, e)) k = let z : [] ≡ b ∷ rest = sym k ∙ e in cc
text_one (b ∷ xs) [] s p q (rest, h, inr e) k = let z : [] ≡ escaped b ++ rest = sym k ∙ e in cc
text_one (b ∷ xs) (c ∷ ys) s p q (us, h, inl (f, e)) (vs, k, inl (g, d)) =
    let r = tail_of b c us vs (sym e ∙ d) in
    ap (λ z. z ∷ xs) r.0 ∙ ap (λ zs. c ∷ zs) (text_one xs ys vs p.1 q.1 (subst (SpellsText xs) r.1 h) k)
text_one (b ∷ xs) (c ∷ ys) s p q (us, h, inl (f, e)) (vs, k, inr d) =
    let r = tail_of b 92 us (hex_digit (c / 16) ∷ hex_digit (c % 16) ∷ vs) (sym e ∙ d) in absurd (not_plain b r.0 f)
text_one (b ∷ xs) (c ∷ ys) s p q (us, h, inr e) (vs, k, inl (g, d)) =
    let r = tail_of c 92 vs (hex_digit (b / 16) ∷ hex_digit (b % 16) ∷ us) (sym d ∙ e) in absurd (not_plain c r.0 g)
text_one (b ∷ xs) (c ∷ ys) s p q (us, h, inr e) (vs, k, inr d) =
    let r = escape_one b c p.0 q.0 us vs (sym e ∙ d) in
    ap (λ z. z ∷ xs) r.0 ∙ ap (λ zs. c ∷ zs) (text_one xs ys vs p.1 q.1 (subst (SpellsText xs) r.1 h) k)

-- ---- items

-- the first word of an item's line
abbrev pub first_word : Item → List ℕ
first_word (type_item f) = codes "type"
first_word (constant_item (Constant.Text bytes)) = codes "text"
first_word (constant_item (Constant.Name name)) = codes "name"
first_word (constant_item (Constant.Family prefix)) = codes "family"
first_word (instruction_item i) = mnemonic i.operation

abbrev pub first_in : Words → List ℕ
first_in [] = []
first_in (w ∷ ws) = w

pub first_is : (line : List ℕ) (x : Item) → SpellsItem line x → first_in (words_of line) ≡ first_word x
first_is line (type_item f) h = ap first_in h
first_is line (constant_item (Constant.Text bytes)) h = ap (λ l. first_in (words_of l)) h.1
first_is line (constant_item (Constant.Name name)) h = ap first_in h
first_is line (constant_item (Constant.Family prefix)) h = ap first_in h
first_is line (instruction_item i) h = ap first_in h

-- a number for the kind of an item, which its first word determines
kind : Item → ℕ
kind (type_item f) = 0
kind (constant_item (Constant.Text bytes)) = 1
kind (constant_item (Constant.Name name)) = 2
kind (constant_item (Constant.Family prefix)) = 3
kind (instruction_item i) = 4

kind_of_word : List ℕ → ℕ
kind_of_word w = if same_name w (codes "type") then 0 else (if same_name w (codes "text") then 1 else (if same_name w (codes "name") then 2 else (if same_name w (codes "family") then 3 else 4)))

kind_of_operation : (o : Operation) → kind_of_word (mnemonic o) ≡ 4
unfolding kind_of_word
kind_of_operation Operation.Const = refl
kind_of_operation o = refl

kind_is : (x : Item) → kind_of_word (first_word x) ≡ kind x
unfolding kind kind_of_word
kind_is (type_item f) = refl
kind_is (constant_item (Constant.Text bytes)) = refl
kind_is (constant_item (Constant.Name name)) = refl
kind_is (constant_item (Constant.Family prefix)) = refl
kind_is (instruction_item i) = kind_of_operation i.operation

same_kind : (line : List ℕ) (x y : Item) → SpellsItem line x → SpellsItem line y → kind x ≡ kind y
same_kind line x y h k = sym (kind_is x) ∙ ap kind_of_word (sym (first_is line x h) ∙ first_is line y k) ∙ kind_is y

item_one : (line : List ℕ) (x y : Item) → IsReadable x → IsReadable y → kind x ≡ kind y → SpellsItem line x → SpellsItem line y → x ≡ y
unfolding kind
item_one line (type_item f) (type_item g) p q e h k =
    let words = (tail_of (codes "type") (codes "type") (type_words f) (type_words g) (sym h ∙ k)).1 in
    ap type_item (form_one f g p q (sym (tag_is f) ∙ ap tag_of_words words ∙ tag_is g) words)
item_one line (constant_item (Constant.Text xs)) (constant_item (Constant.Text ys)) p q e h k =
    let body = (front (codes "text ") (codes "text ") h.0 k.0 refl (sym h.1 ∙ k.1)).1 in
    ap (λ bytes. constant_item (Constant.Text bytes)) (text_one xs ys k.0 (each_of (λ b. b < 256) xs p) (each_of (λ b. b < 256) ys q) (subst (SpellsText xs) body h.2) k.2)
item_one line (constant_item (Constant.Name x)) (constant_item (Constant.Name y)) p q e h k =
    ap (λ name. constant_item (Constant.Name name)) (word_one x y (tail_of (codes "name") (codes "name") (x ∷ []) (y ∷ []) (sym h ∙ k)).1)
item_one line (constant_item (Constant.Family x)) (constant_item (Constant.Family y)) p q e h k =
    ap (λ name. constant_item (Constant.Family name)) (word_one x y (tail_of (codes "family") (codes "family") (x ∷ []) (y ∷ []) (sym h ∙ k)).1)
item_one line (instruction_item i) (instruction_item j) p q e h k = ap instruction_item (instruction_one i j p q (sym h ∙ k))
item_one line (type_item f) (constant_item (Constant.Text ys)) p q e h k = absurd (omega arith)
item_one line (type_item f) (constant_item (Constant.Name ys)) p q e h k = absurd (omega arith)
item_one line (type_item f) (constant_item (Constant.Family ys)) p q e h k = absurd (omega arith)
item_one line (type_item f) (instruction_item j) p q e h k = absurd (omega arith)
item_one line (constant_item (Constant.Text xs)) (type_item g) p q e h k = absurd (omega arith)
item_one line (constant_item (Constant.Text xs)) (constant_item (Constant.Name ys)) p q e h k = absurd (omega arith)
item_one line (constant_item (Constant.Text xs)) (constant_item (Constant.Family ys)) p q e h k = absurd (omega arith)
item_one line (constant_item (Constant.Text xs)) (instruction_item j) p q e h k = absurd (omega arith)
item_one line (constant_item (Constant.Name xs)) (type_item g) p q e h k = absurd (omega arith)
item_one line (constant_item (Constant.Name xs)) (constant_item (Constant.Text ys)) p q e h k = absurd (omega arith)
item_one line (constant_item (Constant.Name xs)) (constant_item (Constant.Family ys)) p q e h k = absurd (omega arith)
item_one line (constant_item (Constant.Name xs)) (instruction_item j) p q e h k = absurd (omega arith)
item_one line (constant_item (Constant.Family xs)) (type_item g) p q e h k = absurd (omega arith)
item_one line (constant_item (Constant.Family xs)) (constant_item (Constant.Text ys)) p q e h k = absurd (omega arith)
item_one line (constant_item (Constant.Family xs)) (constant_item (Constant.Name ys)) p q e h k = absurd (omega arith)
item_one line (constant_item (Constant.Family xs)) (instruction_item j) p q e h k = absurd (omega arith)
item_one line (instruction_item i) (type_item g) p q e h k = absurd (omega arith)
item_one line (instruction_item i) (constant_item (Constant.Text ys)) p q e h k = absurd (omega arith)
item_one line (instruction_item i) (constant_item (Constant.Name ys)) p q e h k = absurd (omega arith)
item_one line (instruction_item i) (constant_item (Constant.Family ys)) p q e h k = absurd (omega arith)

items_one : (lines : List (List ℕ)) (xs ys : List Item) → AllByRecursion IsReadable xs → AllByRecursion IsReadable ys → EachSpells lines xs → EachSpells lines ys → xs ≡ ys
items_one [] [] [] p q h k = refl
items_one [] [] (y ∷ ys) p q h k = absurd k
items_one [] (x ∷ xs) ys p q h k = absurd h
items_one (line ∷ lines) [] ys p q h k = absurd h
items_one (line ∷ lines) (x ∷ xs) [] p q h k = absurd k
items_one (line ∷ lines) (x ∷ xs) (y ∷ ys) p q h k =
    ap (λ z. z ∷ xs) (item_one line x y p.0 q.0 (same_kind line x y h.0 k.0) h.0 k.0) ∙ ap (λ zs. y ∷ zs) (items_one lines xs ys p.1 q.1 h.1 k.1)

-- ---- pieces

module _ {A : Type 0} (see : Item → List A) where
  picked : List Item → List A
  picked items = flat_map see items

  picked_two : (xs ys : List Item) → picked (xs ++ ys) ≡ picked xs ++ picked ys
  unfolding picked
  picked_two [] ys = refl
  picked_two (x ∷ xs) ys = ap (λ zs. see x ++ zs) (picked_two xs ys) ∙ sym (append_assoc (see x) (picked xs) (picked ys))

  picked_all : (put : A → Item) → ((x : A) → see (put x) ≡ x ∷ []) → (xs : List A) → picked (map put xs) ≡ xs
  unfolding picked
  picked_all put e [] = refl
  picked_all put e (x ∷ xs) = ap (λ zs. zs ++ picked (map put xs)) (e x) ∙ ap (λ zs. x ∷ zs) (picked_all put e xs)

  picked_none : {B : Type 0} (put : B → Item) → ((x : B) → see (put x) ≡ []) → (xs : List B) → picked (map put xs) ≡ []
  unfolding picked
  picked_none put e [] = refl
  picked_none put e (x ∷ xs) = ap (λ zs. zs ++ picked (map put xs)) (e x) ∙ picked_none put e xs

abbrev forms_in : Item → List Form
forms_in (type_item f) = f ∷ []
forms_in (constant_item c) = []
forms_in (instruction_item i) = []

abbrev constants_in : Item → List Constant
constants_in (type_item f) = []
constants_in (constant_item c) = c ∷ []
constants_in (instruction_item i) = []

abbrev instructions_in : Item → List Instruction
instructions_in (type_item f) = []
instructions_in (constant_item c) = []
instructions_in (instruction_item i) = i ∷ []

three : {A : Type 0} (see : Item → List A) (pieces : Pieces) → picked see (all_items pieces)
    ≡ (picked see (map type_item pieces.types) ++ picked see (map constant_item pieces.constants)) ++ picked see (map instruction_item pieces.instructions)
three see pieces =
    picked_two see (map type_item pieces.types ++ map constant_item pieces.constants) (map instruction_item pieces.instructions)
    ∙ ap (λ zs. zs ++ picked see (map instruction_item pieces.instructions)) (picked_two see (map type_item pieces.types) (map constant_item pieces.constants))

types_of : (pieces : Pieces) → picked forms_in (all_items pieces) ≡ pieces.types
types_of pieces =
    three forms_in pieces
    ∙ ap (λ zs. (zs ++ picked forms_in (map constant_item pieces.constants)) ++ picked forms_in (map instruction_item pieces.instructions)) (picked_all forms_in type_item (λ f. refl) pieces.types)
    ∙ ap (λ zs. (pieces.types ++ zs) ++ picked forms_in (map instruction_item pieces.instructions)) (picked_none forms_in constant_item (λ c. refl) pieces.constants)
    ∙ ap (λ zs. (pieces.types ++ []) ++ zs) (picked_none forms_in instruction_item (λ i. refl) pieces.instructions)
    ∙ append-nil (pieces.types ++ []) ∙ append-nil pieces.types

constants_of : (pieces : Pieces) → picked constants_in (all_items pieces) ≡ pieces.constants
constants_of pieces =
    three constants_in pieces
    ∙ ap (λ zs. (zs ++ picked constants_in (map constant_item pieces.constants)) ++ picked constants_in (map instruction_item pieces.instructions)) (picked_none constants_in type_item (λ f. refl) pieces.types)
    ∙ ap (λ zs. zs ++ picked constants_in (map instruction_item pieces.instructions)) (picked_all constants_in constant_item (λ c. refl) pieces.constants)
    ∙ ap (λ zs. pieces.constants ++ zs) (picked_none constants_in instruction_item (λ i. refl) pieces.instructions)
    ∙ append-nil pieces.constants

instructions_of : (pieces : Pieces) → picked instructions_in (all_items pieces) ≡ pieces.instructions
instructions_of pieces =
    three instructions_in pieces
    ∙ ap (λ zs. (zs ++ picked instructions_in (map constant_item pieces.constants)) ++ picked instructions_in (map instruction_item pieces.instructions)) (picked_none instructions_in type_item (λ f. refl) pieces.types)
    ∙ ap (λ zs. zs ++ picked instructions_in (map instruction_item pieces.instructions)) (picked_none instructions_in constant_item (λ c. refl) pieces.constants)
    ∙ picked_all instructions_in instruction_item (λ i. refl) pieces.instructions

-- a text spells the pieces of at most one client
pub one_pieces : (text : List ℕ) (x y : Pieces) → Says text x → Says text y → x ≡ y
one_pieces text x y h k =
    let items = items_one _ (all_items x) (all_items y) (each_of IsReadable (all_items x) h.each.readable) (each_of IsReadable (all_items y) k.each.readable) h.lines k.lines in
    let types = sym (types_of x) ∙ ap (picked forms_in) items ∙ types_of y in
    let constants = sym (constants_of x) ∙ ap (picked constants_in) items ∙ constants_of y in
    let instructions = sym (instructions_of x) ∙ ap (picked instructions_in) items ∙ instructions_of y in
    λ j. record { types = types j; constants = constants j; instructions = instructions j }

-- the text of a client spells its pieces
pub says : (text : List ℕ) (x : Client) → SpellsInText text x → Says text (pieces_of x)
says text x h = record { each = of_client x h.valid; lines = h.lines }

pub one_text : (text : List ℕ) (x y : Client) → SpellsInText text x → SpellsInText text y → x ≡ y
one_text text x y h k = one_tree x y h.valid k.valid (one_pieces text (pieces_of x) (pieces_of y) (says text x h) (says text y k))
