-- The bytes of a client spell only one client.
use Rattle.std.proofs.Common.{◌≡◌, ℕ, ◌<◌, ◌≤◌, ◌^◌, List, [], ◌∷◌, ◌++◌, length, refl, sym, ap, ◌∙◌, subst, arith, append_assoc, append-nil}
use Rattle.std.specs.Prelude.{codes, flat_map, FitsSigned}
use Rattle.std.specs.List.{AllByRecursion}
use Rattle.std.specs.Int.{w32, cast_unsigned, cast_signed}
use Rattle.std.proofs.lemmas.Int.{to_z-of_z, ints}
use mir.ValLaws.{of_z_fits}
use Rattle.seg_spec.specs.Bytes as bytes
use Rattle.seg_spec.specs.Types.{Table, IsForm, IsTable, form_bytes}
use Rattle.seg_spec.proofs.BytesLaws.{length-spelling, spelled-spelling}
use Rattle.seg_spec.proofs.Tables.TypeSizeLaws.{all_forms}
use Rattle.seg_spec.proofs.Tables.OneTableLaws.{form_from, form_from-form_bytes, length-form_bytes, IsLong}
use Rattle.client_spec.specs.declared.table.Operation.{Operation}
use Rattle.client_spec.specs.Syntax.{Constant, Instruction, Statements, Client}
use Rattle.client_spec.specs.Operations.{opcode}
use Rattle.client_spec.specs.Grammar.{word_bytes, file_version, instruction_bytes, constant_bytes, mark, listing, client_bytes, IsCode, IsClient}
use Rattle.client_spec.specs.Pieces.{Pieces, pieces_of, file_of, IsToldInstruction, AreReadable}
use Rattle.client_spec.proofs.Spelling.OperationTableLaws.{same_by_number}
use Rattle.client_spec.proofs.Spelling.ListingLaws.{all_listed}
use Rattle.client_spec.proofs.Spelling.ReadablePieceLaws.{by_kind, of_client}
use Rattle.client_spec.proofs.Spelling.TextWordLaws.{front}
use Rattle.client_spec.proofs.Spelling.OneTreeLaws.{one_code}

-- ---- prefixes

head_tail : (x y : ℕ) (xs ys : List ℕ) → x ∷ xs ≡ y ∷ ys → (x ≡ y) × (xs ≡ ys)
head_tail x y xs ys e = (cc, cc)

word_front : (m n : ℕ) (us vs : List ℕ) → m < 256 ^ 4 → n < 256 ^ 4 → word_bytes m ++ us ≡ word_bytes n ++ vs → (m ≡ n) × (us ≡ vs)
word_front m n us vs l k e =
    let f = front (word_bytes m) (word_bytes n) us vs (length-spelling 4 m ∙ sym (length-spelling 4 n)) e in
    (sym (spelled-spelling 4 m l) ∙ ap bytes.spelled f.0 ∙ spelled-spelling 4 n k, f.1)

-- ---- types

types_front : (t u : Table) (us vs : List ℕ) → AllByRecursion IsLong t → AllByRecursion IsLong u → length t ≡ length u → flat_map form_bytes t ++ us ≡ flat_map form_bytes u ++ vs → (t ≡ u) × (us ≡ vs)
types_front [] [] us vs p q l e = (refl, e)
types_front [] (g ∷ u) us vs p q l e = absurd (omega arith)
types_front (f ∷ t) [] us vs p q l e = absurd (omega arith)
types_front (f ∷ t) (g ∷ u) us vs p q l e =
    let a = front (form_bytes f) (form_bytes g) (flat_map form_bytes t ++ us) (flat_map form_bytes u ++ vs) (p.0 ∙ sym q.0)
    (sym (append_assoc (form_bytes f) (flat_map form_bytes t) us) ∙ e ∙ append_assoc (form_bytes g) (flat_map form_bytes u) vs) in
    let same : f ≡ g = sym (form_from-form_bytes f) ∙ ap form_from a.0 ∙ form_from-form_bytes g in
    let r = types_front t u us vs p.1 q.1 (omega arith) a.1 in
    let rest : t ≡ u = r.0 in
    (cc, r.1)

pub all_long : (t : Table) → IsTable t → AllByRecursion IsLong t
all_long t h = all_forms IsLong t (λ T form e. length-form_bytes (length t) T form (h.forms T form e))

-- ---- constants

pub constant_front : (c d : Constant) (us vs : List ℕ) → constant_bytes c ++ us ≡ constant_bytes d ++ vs → (c ≡ d) × (us ≡ vs)
constant_front (Constant.Text x) (Constant.Text y) us vs e =
    let f : 1 ∷ length x ∷ (x ++ us) ≡ 1 ∷ length y ∷ (y ++ vs) = e in
    let g = head_tail (length x) (length y) (x ++ us) (y ++ vs) (head_tail 1 1 _ _ f).1 in
    let h = front x y us vs g.0 g.1 in
    (ap Constant.Text h.0, h.1)
constant_front (Constant.Text x) (Constant.Name y) us vs e =
    let f : 1 ∷ length x ∷ (x ++ us) ≡ 2 ∷ length y ∷ (y ++ vs) = e in
    let g = (head_tail 1 2 _ _ f).0 in absurd (omega arith)
constant_front (Constant.Text x) (Constant.Family y) us vs e =
    let f : 1 ∷ length x ∷ (x ++ us) ≡ 3 ∷ length y ∷ (y ++ vs) = e in
    let g = (head_tail 1 3 _ _ f).0 in absurd (omega arith)
constant_front (Constant.Name x) (Constant.Text y) us vs e =
    let f : 2 ∷ length x ∷ (x ++ us) ≡ 1 ∷ length y ∷ (y ++ vs) = e in
    let g = (head_tail 2 1 _ _ f).0 in absurd (omega arith)
constant_front (Constant.Name x) (Constant.Name y) us vs e =
    let f : 2 ∷ length x ∷ (x ++ us) ≡ 2 ∷ length y ∷ (y ++ vs) = e in
    let g = head_tail (length x) (length y) (x ++ us) (y ++ vs) (head_tail 2 2 _ _ f).1 in
    let h = front x y us vs g.0 g.1 in
    (ap Constant.Name h.0, h.1)
constant_front (Constant.Name x) (Constant.Family y) us vs e =
    let f : 2 ∷ length x ∷ (x ++ us) ≡ 3 ∷ length y ∷ (y ++ vs) = e in
    let g = (head_tail 2 3 _ _ f).0 in absurd (omega arith)
constant_front (Constant.Family x) (Constant.Text y) us vs e =
    let f : 3 ∷ length x ∷ (x ++ us) ≡ 1 ∷ length y ∷ (y ++ vs) = e in
    let g = (head_tail 3 1 _ _ f).0 in absurd (omega arith)
constant_front (Constant.Family x) (Constant.Name y) us vs e =
    let f : 3 ∷ length x ∷ (x ++ us) ≡ 2 ∷ length y ∷ (y ++ vs) = e in
    let g = (head_tail 3 2 _ _ f).0 in absurd (omega arith)
constant_front (Constant.Family x) (Constant.Family y) us vs e =
    let f : 3 ∷ length x ∷ (x ++ us) ≡ 3 ∷ length y ∷ (y ++ vs) = e in
    let g = head_tail (length x) (length y) (x ++ us) (y ++ vs) (head_tail 3 3 _ _ f).1 in
    let h = front x y us vs g.0 g.1 in
    (ap Constant.Family h.0, h.1)

constants_front : (cs ds : List Constant) (us vs : List ℕ) → length cs ≡ length ds → flat_map constant_bytes cs ++ us ≡ flat_map constant_bytes ds ++ vs → (cs ≡ ds) × (us ≡ vs)
constants_front [] [] us vs l e = (refl, e)
constants_front [] (d ∷ ds) us vs l e = absurd (omega arith)
constants_front (c ∷ cs) [] us vs l e = absurd (omega arith)
constants_front (c ∷ cs) (d ∷ ds) us vs l e =
    let a = constant_front c d (flat_map constant_bytes cs ++ us) (flat_map constant_bytes ds ++ vs)
    (sym (append_assoc (constant_bytes c) (flat_map constant_bytes cs) us) ∙ e ∙ append_assoc (constant_bytes d) (flat_map constant_bytes ds) vs) in
    let same : c ≡ d = a.0 in
    let r = constants_front cs ds us vs (omega arith) a.1 in
    let rest : cs ≡ ds = r.0 in
    (cc, r.1)

-- ---- instructions

abbrev pub IsWord : Instruction → Type 0
IsWord i = FitsSigned w32 i.number

pub instruction_front : (i j : Instruction) (us vs : List ℕ) → IsWord i → IsWord j → instruction_bytes i ++ us ≡ instruction_bytes j ++ vs → (i ≡ j) × (us ≡ vs)
instruction_front i j us vs h k e =
    let f : (opcode i.operation) ∷ i.a ∷ i.b ∷ i.c ∷ (word_bytes (cast_unsigned w32 i.number) ++ us) ≡ (opcode j.operation) ∷ j.a ∷ j.b ∷ j.c ∷ (word_bytes (cast_unsigned w32 j.number) ++ vs) = e in
    let o = head_tail _ _ _ _ f in
    let a = head_tail _ _ _ _ o.1 in
    let b = head_tail _ _ _ _ a.1 in
    let c = head_tail _ _ _ _ b.1 in
    let n = word_front (cast_unsigned w32 i.number) (cast_unsigned w32 j.number) us vs (of_z_fits w32 i.number h).fits (of_z_fits w32 j.number k).fits c.1 in
    let same_o : i.operation ≡ j.operation = same_by_number i.operation j.operation o.0 in
    let same_n : i.number ≡ j.number = sym (to_z-of_z w32 i.number h) ∙ ap (cast_signed w32) n.0 ∙ to_z-of_z w32 j.number k in
    (λ t. record { operation = same_o t; a = a.0 t; b = b.0 t; c = c.0 t; number = same_n t }, n.1)

instructions_one : (is js : List Instruction) → AllByRecursion IsWord is → AllByRecursion IsWord js → length is ≡ length js → flat_map instruction_bytes is ≡ flat_map instruction_bytes js → is ≡ js
instructions_one [] [] p q l e = refl
instructions_one [] (j ∷ js) p q l e = absurd (omega arith)
instructions_one (i ∷ is) [] p q l e = absurd (omega arith)
instructions_one (i ∷ is) (j ∷ js) p q l e =
    let a = instruction_front i j (flat_map instruction_bytes is) (flat_map instruction_bytes js) p.0 q.0 e in
    let same : i ≡ j = a.0 in
    let rest : is ≡ js = instructions_one is js p.1 q.1 (omega arith) a.1 in
    cc

pub mark_word : (o : Operation) → IsWord (mark o)
mark_word o = search (arith, ints)

pub words : (types : Table) (constants : List Constant) (cs : Statements) → IsCode types constants cs → AllByRecursion IsWord (listing cs)
words types constants cs h = all_listed types constants IsWord (λ role i g. g.range) (mark_word Operation.Else) (mark_word Operation.End) cs h

-- ---- clients

eight : (a b c d e f g h : List ℕ) → ((((((a ++ b) ++ c) ++ d) ++ e) ++ f) ++ g) ++ h ≡ a ++ (b ++ (c ++ (d ++ (e ++ (f ++ (g ++ h))))))
eight a b c d e f g h = simp append_assoc

abbrev pub following : Pieces → List ℕ
following x = word_bytes (length x.types) ++ (word_bytes (length x.constants) ++ (word_bytes (length x.instructions) ++ (flat_map form_bytes x.types ++ (flat_map constant_bytes x.constants ++ flat_map instruction_bytes x.instructions))))

file_is : (x : Pieces) → file_of x ≡ codes "SEGC" ++ (word_bytes (file_version x.types) ++ following x)
file_is x = eight (codes "SEGC") (word_bytes (file_version x.types)) (word_bytes (length x.types)) (word_bytes (length x.constants)) (word_bytes (length x.instructions)) (flat_map form_bytes x.types) (flat_map constant_bytes x.constants)
    (flat_map instruction_bytes x.instructions)

pub spelling_file : (x : Client) → client_bytes x ≡ file_of (pieces_of x)
unfolding client_bytes
spelling_file x = refl

pub spelling_is : (x : Client) → client_bytes x ≡ codes "SEGC" ++ (word_bytes (file_version x.types) ++ following (pieces_of x))
spelling_is x = spelling_file x ∙ file_is (pieces_of x)

same_after : (x y : Pieces) → file_of x ≡ file_of y → following x ≡ following y
same_after x y e =
    let v = word_bytes (file_version x.types) in
    let w = word_bytes (file_version y.types) in
    let behind = (front (codes "SEGC") (codes "SEGC") (v ++ following x) (w ++ following y) refl (sym (file_is x) ∙ e ∙ file_is y)).1 in
    (front v w (following x) (following y) (length-spelling 4 (file_version x.types) ∙ sym (length-spelling 4 (file_version y.types))) behind).1

small : (n m : ℕ) → n ≤ m → m < 256 ^ 4 → n < 256 ^ 4
small n m l k = omega arith

long : (t : Table) → AllByRecursion (IsForm 256 256) t → AllByRecursion IsLong t
long [] h = tt
long (form ∷ t) h = (length-form_bytes 256 256 form h.0, long t h.1)

in_words : (is : List Instruction) → AllByRecursion IsToldInstruction is → AllByRecursion IsWord is
in_words [] h = tt
in_words (i ∷ is) h = (h.0.range, in_words is h.1)

-- different pieces have different files
pub one_file : (x y : Pieces) → AreReadable x → AreReadable y → file_of x ≡ file_of y → x ≡ y
one_file x y h k e =
    let p = by_kind x h in
    let q = by_kind y k in
    let b = same_after x y e in
    let t = word_front (length x.types) (length y.types) _ _ (small _ 32 h.few_types (omega arith)) (small _ 32 k.few_types (omega arith)) b in
    let c = word_front (length x.constants) (length y.constants) _ _ (small _ 256 h.few_constants (omega arith)) (small _ 256 k.few_constants (omega arith)) t.1 in
    let i = word_front (length x.instructions) (length y.instructions) _ _ (small _ 4096 h.few_instructions (omega arith)) (small _ 4096 k.few_instructions (omega arith)) c.1 in
    let ts = types_front x.types y.types (flat_map constant_bytes x.constants ++ flat_map instruction_bytes x.instructions)
    (flat_map constant_bytes y.constants ++ flat_map instruction_bytes y.instructions) (long x.types p.types) (long y.types q.types) t.0 i.1 in
    let cs = constants_front x.constants y.constants (flat_map instruction_bytes x.instructions) (flat_map instruction_bytes y.instructions) c.0 ts.1 in
    let is = instructions_one x.instructions y.instructions (in_words x.instructions p.instructions) (in_words y.instructions q.instructions) i.0 cs.1 in
    λ j. record { types = ts.0 j; constants = cs.0 j; instructions = is j }

-- different clients have different pieces
pub one_tree : (x y : Client) → IsClient x → IsClient y → pieces_of x ≡ pieces_of y → x ≡ y
one_tree x y h k e =
    let types = ap (λ p. p.types) e in
    let constants = ap (λ p. p.constants) e in
    let list = ap (λ p. p.instructions) e in
    let other = subst (λ t. IsCode t x.constants y.code) (sym types) (subst (λ c. IsCode y.types c y.code) (sym constants) k.code) in
    let code = (one_code x.types x.constants x.code y.code h.code other [] [] tt tt (append-nil (listing x.code) ∙ list ∙ sym (append-nil (listing y.code)))).0 in
    λ j. record { types = types j; constants = constants j; code = code j }

pub one_client : (x y : Client) → IsClient x → IsClient y → client_bytes x ≡ client_bytes y → x ≡ y
one_client x y h k e = one_tree x y h k (one_file (pieces_of x) (pieces_of y) (of_client x h) (of_client y k) (sym (spelling_file x) ∙ e ∙ spelling_file y))
