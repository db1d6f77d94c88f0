-- The canonical text of a client spells it.
use Rattle.std.proofs.Common.{◌≡◌, ℕ, suc, ◌+◌, ◌/◌, ◌%◌, ◌^◌, ◌<◌, ◌≤◌, ℤ, pos, negsuc, Bool, true, false, cond, List, [], ◌∷◌, ◌++◌, length, map, refl, sym, ap, ◌∙◌, subst, arith, inl, inr, append_assoc, append-nil}
use Rattle.std.specs.Prelude.{◌⊎◌, ◌==◌, ◌&&◌, not, if◌then◌else◌, nat_lt, nat_abs, codes, flat_map, filter, All, FitsSigned}
use Rattle.std.specs.List.{AllByRecursion}
use Rattle.std.specs.Int.{w32}
use Rattle.std.specs.Fmt.{decimal, signed_decimal}
use Rattle.std.proofs.lemmas.Fmt.{decimal_by_steps}
use Rattle.std.proofs.lemmas.Bool.{eqb-true}
use Rattle.std.proofs.lemmas.List.Elements.{All-head, All-tail}
use Rattle.seg_spec.specs.Types.{Form, Table, IsForm, IsTable}
use Rattle.client_spec.specs.declared.table.Operation.{Operation}
use Rattle.client_spec.specs.Syntax.{Constant, Instruction, Statements, Client}
use Rattle.client_spec.specs.declared.table.Operand.{Operand}
use Rattle.client_spec.specs.declared.table.Number.{Number}
use Rattle.client_spec.specs.Operations.{mnemonic, row_of}
use Rattle.client_spec.specs.Grammar.{IsNameByte, IsConstant, IsOperand, IsCode, IsClient, listing}
use Rattle.client_spec.specs.Text.{Item, type_item, constant_item, instruction_item, items_of, Words, operand_words, type_word, constant_word, number_words, type_words, words_from, words_of}
use Rattle.client_spec.specs.Text.{hex_digit, is_plain, escaped, SpellsText, text_spelling, spaced_words, line_of, text_of, SpellsItem, lines_from, has_word, is_meant, EachSpells, SpellsInText}
use Rattle.seg_spec.proofs.Tables.TypeSizeLaws.{all_forms}
use Rattle.seg_spec.proofs.Tables.TableExtensionLaws.{below_length}
use Rattle.std.proofs.lemmas.Int.{ints}
use Rattle.client_spec.proofs.TypedStates.StateLaws.{both_true}
use Rattle.client_spec.proofs.Spelling.ListingLaws.{all_two, all_listed}

-- ---- bytes that separate nothing

not_eq : (b k : ℕ) → (b ≡ k → ⊥) → (b == k) ≡ false
not_eq b k f = choose (b == k) refl
  where
    choose : (c : Bool) → (b == k) ≡ c → c ≡ false
    choose true e = absurd (f (eqb-true b k e))
    choose false e = refl

not_true : (b : Bool) → not b ≡ true → b ≡ false
not_true true e = cc
not_true false e = refl

-- neither a space nor a line end
abbrev good : ℕ → Bool
good b = not (b == 32) && not (b == 10)

good_of : (b : ℕ) → (b ≡ 32 → ⊥) → (b ≡ 10 → ⊥) → good b ≡ true
good_of b f g = ap (λ c. not c && not (b == 10)) (not_eq b 32 f) ∙ ap not (not_eq b 10 g)

no_space : (b : ℕ) → good b ≡ true → (b == 32) ≡ false
no_space b e = not_true (b == 32) (both_true (not (b == 32)) (not (b == 10)) e).0

no_end : (b : ℕ) → good b ≡ true → (b == 10) ≡ false
no_end b e = not_true (b == 10) (both_true (not (b == 32)) (not (b == 10)) e).1

abbrev every : (ℕ → Bool) → List ℕ → Bool
every f [] = true
every f (b ∷ bs) = f b && every f bs

every_two : (f : ℕ → Bool) (xs ys : List ℕ) → every f xs ≡ true → every f ys ≡ true → every f (xs ++ ys) ≡ true
every_two f [] ys h g = g
every_two f (x ∷ xs) ys h g =
    let p = both_true (f x) (every f xs) h in
    ap (λ b. b && every f (xs ++ ys)) p.0 ∙ every_two f xs ys p.1 g

-- ---- words

-- a word has at least one byte
abbrev IsWord : List ℕ → Type 0
IsWord [] = ⊥
IsWord (b ∷ w) = every good (b ∷ w) ≡ true

good_word : (w : List ℕ) → 0 < length w → every good w ≡ true → IsWord w
good_word [] l h = absurd (omega arith)
good_word (b ∷ w) l h = h

words_end : (c : ℕ) (word w : List ℕ) → every good w ≡ true → words_from (c ∷ word) w ≡ (c ∷ (word ++ w)) ∷ []
words_end c word [] h = ap (λ x. (c ∷ x) ∷ []) (sym (append-nil word))
words_end c word (b ∷ w) h =
    let p = both_true (good b) (every good w) h in
    ap (λ t. if t then (c ∷ word) ∷ words_from [] w else words_from (c ∷ word ++ b ∷ []) w) (no_space b p.0)
    ∙ words_end c (word ++ b ∷ []) w p.1 ∙ ap (λ x. (c ∷ x) ∷ []) (append_assoc word (b ∷ []) w)

words_stop : (c : ℕ) (word w rest : List ℕ) → every good w ≡ true → words_from (c ∷ word) (w ++ 32 ∷ rest) ≡ (c ∷ (word ++ w)) ∷ words_from [] rest
words_stop c word [] rest h = ap (λ x. (c ∷ x) ∷ words_from [] rest) (sym (append-nil word))
words_stop c word (b ∷ w) rest h =
    let p = both_true (good b) (every good w) h in
    ap (λ t. if t then (c ∷ word) ∷ words_from [] (w ++ 32 ∷ rest) else words_from (c ∷ word ++ b ∷ []) (w ++ 32 ∷ rest)) (no_space b p.0)
    ∙ words_stop c (word ++ b ∷ []) w rest p.1 ∙ ap (λ x. (c ∷ x) ∷ words_from [] rest) (append_assoc word (b ∷ []) w)

abbrev AreWords : Words → Type 0
AreWords ws = AllByRecursion IsWord ws

words_of_spaced : (ws : Words) → AreWords ws → words_of (spaced_words ws) ≡ ws
words_of_spaced [] h = refl
words_of_spaced ([] ∷ ws) h = absurd h.0
words_of_spaced ((b ∷ w) ∷ []) h =
    let p = both_true (good b) (every good w) h.0 in
    ap (λ t. if t then words_from [] w else words_from (b ∷ []) w) (no_space b p.0) ∙ words_end b [] w p.1
words_of_spaced ((b ∷ w) ∷ v ∷ vs) h =
    let p = both_true (good b) (every good w) h.0 in
    ap (λ t. if t then words_from [] (w ++ 32 ∷ spaced_words (v ∷ vs)) else words_from (b ∷ []) (w ++ 32 ∷ spaced_words (v ∷ vs))) (no_space b p.0)
    ∙ words_stop b [] w (spaced_words (v ∷ vs)) p.1 ∙ ap (λ x. (b ∷ w) ∷ x) (words_of_spaced (v ∷ vs) h.1)

-- ---- lines

abbrev inside : ℕ → Bool
inside b = not (b == 10)

inside_good : (w : List ℕ) → every good w ≡ true → every inside w ≡ true
inside_good [] h = refl
inside_good (b ∷ w) h =
    let p = both_true (good b) (every good w) h in
    ap (λ c. not c && every inside w) (no_end b p.0) ∙ inside_good w p.1

inside_word : (w : List ℕ) → IsWord w → every inside w ≡ true
inside_word [] h = absurd h
inside_word (b ∷ w) h = inside_good (b ∷ w) h

inside_spaced : (ws : Words) → AreWords ws → every inside (spaced_words ws) ≡ true
inside_spaced [] h = refl
inside_spaced (w ∷ []) h = inside_word w h.0
inside_spaced (w ∷ v ∷ vs) h = every_two inside w (32 ∷ spaced_words (v ∷ vs)) (inside_word w h.0) (inside_spaced (v ∷ vs) h.1)

lines_step : (line : List ℕ) (b : ℕ) (rest : List ℕ) → lines_from line (b ∷ rest) ≡ (if b == 10 then line ∷ lines_from [] rest else lines_from (line ++ b ∷ []) rest)
lines_step [] b rest = refl
lines_step (c ∷ line) b rest = refl

lines_first : (line w rest : List ℕ) → every inside w ≡ true → lines_from line (w ++ 10 ∷ rest) ≡ (line ++ w) ∷ lines_from [] rest
lines_first line [] rest h = lines_step line 10 rest ∙ ap (λ x. x ∷ lines_from [] rest) (sym (append-nil line))
lines_first line (b ∷ w) rest h =
    let p = both_true (inside b) (every inside w) h in
    lines_step line b (w ++ 10 ∷ rest)
    ∙ ap (λ t. if t then line ∷ lines_from [] (w ++ 10 ∷ rest) else lines_from (line ++ b ∷ []) (w ++ 10 ∷ rest)) (not_true (b == 10) p.0)
    ∙ lines_first (line ++ b ∷ []) w rest p.1 ∙ ap (λ x. x ∷ lines_from [] rest) (append_assoc line (b ∷ []) w)

-- ---- numbers

good_decimal : (n : ℕ) → n < 2 ^ 64 → IsWord (decimal n)
good_decimal n h =
    let p = decimal_by_steps (λ m ds. (0 < length ds) × (every good ds ≡ true)) (λ m l. (omega arith, one (48 + m) (λ e. omega arith) (λ e. omega arith)))
    (λ m ds l d. (longer ds (48 + m % 10), every_two good ds ((48 + m % 10) ∷ []) d.1 (one (48 + m % 10) (λ e. omega arith) (λ e. omega arith)))) n h in
    good_word (decimal n) p.0 p.1
  where
    one : (b : ℕ) → (b ≡ 32 → ⊥) → (b ≡ 10 → ⊥) → every good (b ∷ []) ≡ true
    one b f g = ap (λ c. c && true) (good_of b f g)

    longer : (ds : List ℕ) (b : ℕ) → 0 < length (ds ++ b ∷ [])
    longer [] b = omega arith
    longer (d ∷ ds) b = omega arith

every_word : (w : List ℕ) → IsWord w → every good w ≡ true
every_word [] h = absurd h
every_word (b ∷ w) h = h

-- a letter and then a word are a word
lettered : (c : ℕ) (w : List ℕ) → good c ≡ true → IsWord w → IsWord (c ∷ w)
lettered c w g h = ap (λ b. b && every good w) g ∙ every_word w h

type_is_word : (n : ℕ) → n < 2 ^ 32 → IsWord (type_word n)
type_is_word n h = lettered 116 (decimal n) refl (good_decimal n (omega arith))

constant_is_word : (n : ℕ) → n < 2 ^ 32 → IsWord (constant_word n)
constant_is_word n h = lettered 107 (decimal n) refl (good_decimal n (omega arith))

-- ---- names, texts and types

name_bytes : (name : List ℕ) → All IsNameByte name → every good name ≡ true
name_bytes [] h = refl
name_bytes (b ∷ name) h =
    let p = All-head IsNameByte b name h in
    ap (λ c. c && every good name) (good_of b (λ e. omega (arith, p.0, e)) (λ e. omega (arith, p.0, e))) ∙ name_bytes name (All-tail IsNameByte b name h)

hex_inside : (n : ℕ) → inside (hex_digit n) ≡ true
hex_inside n = choose (nat_lt n 10)
  where
    choose : (b : Bool) → inside (if b then 48 + n else 87 + n) ≡ true
    choose true = ap not (not_eq (48 + n) 10 (λ e. omega arith))
    choose false = ap not (not_eq (87 + n) 10 (λ e. omega arith))

plain_inside : (b : ℕ) → is_plain b ≡ true → inside b ≡ true
plain_inside b e = choose (b == 10) refl
  where
    choose : (c : Bool) → (b == 10) ≡ c → not c ≡ true
    choose true f = let same = eqb-true b 10 f in let g : is_plain 10 ≡ true = subst (λ x. is_plain x ≡ true) same e in cc
    choose false f = refl

one_text : (b : ℕ) → every inside (if is_plain b then b ∷ [] else escaped b) ≡ true
one_text b = choose (is_plain b) refl
  where
    choose : (c : Bool) → is_plain b ≡ c → every inside (if c then b ∷ [] else escaped b) ≡ true
    choose true e = ap (λ x. x && true) (plain_inside b e)
    choose false e = ap (λ x. x && (inside (hex_digit (b % 16)) && true)) (hex_inside (b / 16)) ∙ ap (λ x. x && true) (hex_inside (b % 16))

text_inside : (bytes : List ℕ) → every inside (text_spelling bytes) ≡ true
text_inside [] = refl
text_inside (b ∷ bytes) = every_two inside (if is_plain b then b ∷ [] else escaped b) (text_spelling bytes) (one_text b) (text_inside bytes)

spells_text : (bytes : List ℕ) → SpellsText bytes (text_spelling bytes)
spells_text [] = refl
spells_text (b ∷ bytes) = (text_spelling bytes, spells_text bytes, choose (is_plain b) refl)
  where
    choose : (c : Bool) → is_plain b ≡ c → ((c ≡ true) × ((if is_plain b then b ∷ [] else escaped b) ++ text_spelling bytes ≡ b ∷ text_spelling bytes))
        ⊎ ((if is_plain b then b ∷ [] else escaped b) ++ text_spelling bytes ≡ escaped b ++ text_spelling bytes)
    choose true e = inl (refl, ap (λ t. (if t then b ∷ [] else escaped b) ++ text_spelling bytes) e)
    choose false e = inr (ap (λ t. (if t then b ∷ [] else escaped b) ++ text_spelling bytes) e)

words_of_parts : (Us : List ℕ) (n : ℕ) → n < 2 ^ 32 → All (λ U. U < n) Us → AreWords (map type_word Us)
words_of_parts [] n l h = tt
words_of_parts (U ∷ Us) n l h = let p = All-head (λ U. U < n) U Us h in (type_is_word U (omega arith), words_of_parts Us n l (All-tail (λ U. U < n) U Us h))

form_words : (n k : ℕ) (f : Form) → n ≤ 32 → k ≤ 32 → IsForm n k f → AreWords (codes "type" ∷ type_words f)
form_words n k Form.i64 l m h = (refl, (refl, tt))
form_words n k Form.str l m h = (refl, (refl, tt))
form_words n k (Form.vec U) l m h = (refl, (refl, (type_is_word U (omega arith), tt)))
form_words n k (Form.list U) l m h = (refl, (refl, (type_is_word U (omega arith), tt)))
form_words n k (Form.flat_map U) l m h = (refl, (refl, (type_is_word U (omega arith), tt)))
form_words n k (Form.map U) l m h = (refl, (refl, (type_is_word U (omega arith), tt)))
form_words n k (Form.own U) l m h = (refl, (refl, (type_is_word U (omega arith), tt)))
form_words n k (Form.shared U) l m h = (refl, (refl, (type_is_word U (omega arith), tt)))
form_words n k (Form.struct Us) l m h = (refl, (refl, words_of_parts Us k (omega arith) h.2))

-- ---- instructions

operand_are : (o : Operand) (n : ℕ) → IsOperand o n → AreWords (operand_words o n)
operand_are Operand.Unused n h = tt
operand_are Operand.Register n h = (lettered 114 (decimal n) refl (good_decimal n (omega arith)), tt)
operand_are Operand.Optional n h = (choose (n == 16), tt)
  where
    choose : (b : Bool) → IsWord (if b then codes "-" else 114 ∷ decimal n)
    choose true = refl
    choose false = lettered 114 (decimal n) refl (good_decimal n (omega arith))

signed_is_word : (z : ℤ) → FitsSigned w32 z → IsWord (signed_decimal z)
signed_is_word (pos n) h = good_decimal n (omega (arith, h.sfits))
signed_is_word (negsuc n) h = lettered 45 (decimal (suc n)) refl (good_decimal (suc n) (omega (arith, h.sfits)))

small_abs : (z : ℤ) → FitsSigned w32 z → nat_abs z < 2 ^ 32
small_abs (pos n) h = omega (arith, h.sfits)
small_abs (negsuc n) h = omega (arith, h.sfits)

number_are : (form : Number) (z : ℤ) → FitsSigned w32 z → AreWords (number_words form z)
number_are Number.Unused z h = tt
number_are Number.Any z h = (signed_is_word z h, tt)
number_are Number.Turns z h = (signed_is_word z h, tt)
number_are Number.TypeId z h = (type_is_word (nat_abs z) (small_abs z h), tt)
number_are Number.Text z h = (constant_is_word (nat_abs z) (small_abs z h), tt)
number_are Number.TypedName z h = let l = small_abs z h in (type_is_word (nat_abs z / 256) (omega arith), (constant_is_word (nat_abs z % 256) (omega arith), tt))

are_two : (xs ys : Words) → AreWords xs → AreWords ys → AreWords (xs ++ ys)
are_two [] ys p q = q
are_two (x ∷ xs) ys p q = (p.0, are_two xs ys p.1 q)

-- a word whose first byte is no semicolon
abbrev IsFirstWord : List ℕ → Type 0
IsFirstWord [] = ⊥
IsFirstWord (b ∷ w) = (every good (b ∷ w) ≡ true) × (not (b == 59) ≡ true)

operation_word : (o : Operation) → IsFirstWord (mnemonic o)
operation_word Operation.Const = (refl, refl)
operation_word o = (refl, refl)

first_is_word : (w : List ℕ) → IsFirstWord w → IsWord w
first_is_word [] h = h
first_is_word (b ∷ w) h = h.0

-- ---- items

-- a line of words isn't skipped
meant_words : (w : List ℕ) (ws : Words) → IsFirstWord w → AreWords (w ∷ ws) → is_meant (spaced_words (w ∷ ws)) ≡ true
meant_words [] ws h p = absurd h
meant_words (b ∷ w) [] h p =
    ap (λ c. c && has_word (words_of (b ∷ w))) h.1 ∙ ap has_word (words_of_spaced ((b ∷ w) ∷ []) p)
meant_words (b ∷ w) (v ∷ vs) h p =
    ap (λ c. c && has_word (words_of (spaced_words ((b ∷ w) ∷ v ∷ vs)))) h.1 ∙ ap has_word (words_of_spaced ((b ∷ w) ∷ v ∷ vs) p)

-- properties of an item's line
record Good (item : Item) : Type 0 where
  within : every inside (line_of item) ≡ true
  meant : is_meant (line_of item) ≡ true
  spells : SpellsItem (line_of item) item

type_good : (n k : ℕ) (f : Form) → n ≤ 32 → k ≤ 32 → IsForm n k f → Good (type_item f)
type_good n k f l m h =
    let p = form_words n k f l m h in
    record { within = inside_spaced (codes "type" ∷ type_words f) p; meant = meant_words (codes "type") (type_words f) (refl, refl) p; spells = words_of_spaced (codes "type" ∷ type_words f) p }

constant_good : (c : Constant) → IsConstant c → Good (constant_item c)
constant_good (Constant.Text bytes) h = record { within = text_inside bytes; meant = refl; spells = (text_spelling bytes, refl, spells_text bytes) }
constant_good (Constant.Name name) h =
    let p : AreWords (codes "name" ∷ name ∷ []) = (refl, (good_word name (omega (arith, h.0)) (name_bytes name h.2), tt)) in
    record { within = inside_spaced (codes "name" ∷ name ∷ []) p; meant = meant_words (codes "name") (name ∷ []) (refl, refl) p; spells = words_of_spaced (codes "name" ∷ name ∷ []) p }
constant_good (Constant.Family name) h =
    let p : AreWords (codes "family" ∷ name ∷ []) = (refl, (good_word name (omega (arith, h.0)) (name_bytes name h.2), tt)) in
    record { within = inside_spaced (codes "family" ∷ name ∷ []) p; meant = meant_words (codes "family") (name ∷ []) (refl, refl) p; spells = words_of_spaced (codes "family" ∷ name ∷ []) p }

-- the operands and the number of an instruction are in their ranges
record InRange (i : Instruction) : Type 0 where
  a : IsOperand (row_of i.operation).a i.a
  b : IsOperand (row_of i.operation).b i.b
  c : IsOperand (row_of i.operation).c i.c
  number : FitsSigned w32 i.number

instruction_good : (i : Instruction) → InRange i → Good (instruction_item i)
instruction_good i h =
    let row = row_of i.operation in
    let ws = ((operand_words row.a i.a ++ operand_words row.b i.b) ++ operand_words row.c i.c) ++ number_words row.number i.number in
    let first = operation_word i.operation in
    let rest : AreWords ws = are_two ((operand_words row.a i.a ++ operand_words row.b i.b) ++ operand_words row.c i.c) (number_words row.number i.number)
    (are_two (operand_words row.a i.a ++ operand_words row.b i.b) (operand_words row.c i.c) (are_two (operand_words row.a i.a) (operand_words row.b i.b) (operand_are row.a i.a h.a) (operand_are row.b i.b h.b)) (operand_are row.c i.c h.c))
    (number_are row.number i.number h.number) in
    let word = mnemonic i.operation in
    let p : AreWords (word ∷ ws) = (first_is_word word first, rest) in
    record { within = inside_spaced (word ∷ ws) p; meant = meant_words word ws first p; spells = words_of_spaced (word ∷ ws) p }

fits_zero : FitsSigned w32 (pos 0)
fits_zero = search (arith, ints)

listed_good : (types : Table) (constants : List Constant) (cs : Statements) → IsCode types constants cs → AllByRecursion InRange (listing cs)
listed_good types constants cs h =
    all_listed types constants InRange (λ role i g. record { a = g.a; b = g.b; c = g.c; number = g.range })
    (record { a = refl; b = refl; c = refl; number = fits_zero }) (record { a = refl; b = refl; c = refl; number = fits_zero }) cs h

-- ---- the whole text

good_map : {A : Type 0} (P : A → Type 0) (f : A → Item) → ((x : A) → P x → Good (f x)) → (xs : List A) → AllByRecursion P xs → AllByRecursion Good (map f xs)
good_map P f g [] h = tt
good_map P f g (x ∷ xs) h = (g x h.0, good_map P f g xs h.1)

constants_all : (cs : List Constant) → All IsConstant cs → AllByRecursion IsConstant cs
constants_all [] h = tt
constants_all (c ∷ cs) h = (All-head IsConstant c cs h, constants_all cs (All-tail IsConstant c cs h))

types_good : (table : Table) → IsTable table → AllByRecursion (λ f. Good (type_item f)) table
types_good table h = all_forms (λ f. Good (type_item f)) table (λ T f e. type_good (length table) T f h.few (let l = below_length table T f e in omega (arith, l, h.few)) (h.forms T f e))

items_good : (client : Client) → IsClient client → AllByRecursion Good (items_of client)
items_good client h =
    all_two Good (map type_item client.types ++ map constant_item client.constants) (map instruction_item (listing client.code))
    (all_two Good (map type_item client.types) (map constant_item client.constants)
    (good_map (λ f. Good (type_item f)) type_item (λ f g. g) client.types (types_good client.types h.types))
    (good_map IsConstant constant_item constant_good client.constants (constants_all client.constants h.constants)))
    (good_map InRange instruction_item instruction_good (listing client.code) (listed_good client.types client.constants client.code h.code))

each_spells : (items : List Item) → AllByRecursion Good items → EachSpells (filter is_meant (lines_from [] (flat_map (λ item. line_of item ++ 10 ∷ []) items))) items
each_spells [] h = tt
each_spells (item ∷ items) h =
    let rest = flat_map (λ item. line_of item ++ 10 ∷ []) items in
    let lines : lines_from [] ((line_of item ++ 10 ∷ []) ++ rest) ≡ line_of item ∷ lines_from [] rest = ap (lines_from []) (append_assoc (line_of item) (10 ∷ []) rest) ∙ lines_first [] (line_of item) rest h.0.within in
    let kept : filter is_meant (lines_from [] ((line_of item ++ 10 ∷ []) ++ rest)) ≡ line_of item ∷ filter is_meant (lines_from [] rest) =
    ap (filter is_meant) lines ∙ ap (λ b. cond b (line_of item ∷ filter is_meant (lines_from [] rest)) (filter is_meant (lines_from [] rest))) h.0.meant in
    subst (λ ls. EachSpells ls (item ∷ items)) (sym kept) (h.0.spells, each_spells items h.1)

pub canonical : (client : Client) → IsClient client → SpellsInText (text_of client) client
canonical client h = record { valid = h; lines = each_spells (items_of client) (items_good client h) }
