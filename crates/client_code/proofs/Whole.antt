-- A client file is its parts one after the other, and such parts are a client file.
use Rattle.std.proofs.Common.{◌≡◌, ℕ, zero, suc, ◌+◌, ◌*◌, ◌/◌, ◌%◌, ◌^◌, ◌<◌, ◌≤◌, List, [], ◌∷◌, ◌++◌, length, take, drop, get_or, refl, sym, ap, ◌∙◌, subst, arith, append_assoc, append-nil}
use Rattle.std.specs.Prelude.{⊤, flat_map, codes, slice_get, ◌≢◌, FitsSigned, IfSome, IfNone, Option, Some, None, Result, Ok, Err, IfErr}
use Rattle.std.specs.List.{AllByRecursion}
use Rattle.std.proofs.lemmas.List.{length-append, drop-drop, take-append-drop, take_at, drop_at, get_or-drop, nil_from_length}
use Rattle.seg_spec.specs.Bytes.{slice, spelled, spelling, number}
use Rattle.seg_spec.specs.Types.{Table, form_bytes}
use Rattle.seg_spec.proofs.BytesLaws.{number_in, length-slice, length-spelling, spelled-spelling}
use Rattle.seg_spec.proofs.Tables.TableEntryLaws.{length-table, one_table}
use Rattle.client_spec.specs.Syntax.{Constant, Statements, Client}
use Rattle.client_spec.specs.Grammar.{word_bytes, file_version, constant_bytes, instruction_bytes, listing, SpellsClient}
use Rattle.client_spec.specs.Syntax.{Instruction}
use Rattle.client_spec.specs.Pieces.{pieces_of}
use Rattle.client_spec.proofs.Spelling.OneClientLaws.{constant_front, instruction_front, IsWord, words, all_long, spelling_is, following}
use Rattle.client_spec.proofs.Spelling.FileVersionLaws.{is_version}
use Rattle.std.specs.Int.{w32}
use Rattle.std.specs.Option.{option_map}
use Rattle.client_spec.proofs.TypedStates.ValueLaws.{Some_inj}
use Rattle.client_code.specs.declared.instruction.Instruction as program
use Rattle.client_code.specs.Views.{instruction_of}
use Rattle.client_code.specs.Operands.{HasOperands}
use Rattle.client_code.proofs.Constants.{Walk, walk_starts, fronts, any}
use Rattle.client_code.proofs.Operands.{all_operands}
use Rattle.client_code.specs.Files.{code_place, IsFileHeader, AreTypes, AreConstants, IsCodeAt}

-- ---- words

back : (xs : List ℕ) → ((i : ℕ) → get_or xs i 0 < 256) → spelling (length xs) (spelled xs) ≡ xs
back [] h = refl
back (x ∷ xs) h =
    let small = h 0 in
    let head : (x + 256 * spelled xs) % 256 ≡ x = omega arith in
    let tail : (x + 256 * spelled xs) / 256 ≡ spelled xs = omega arith in
    ap (λ n. n ∷ spelling (length xs) ((x + 256 * spelled xs) / 256)) head ∙ ap (λ n. x ∷ spelling (length xs) n) tail ∙ ap (λ ys. x ∷ ys) (back xs (λ i. h (suc i)))

bytes_in : (file : List ℕ) (at n i : ℕ) → ((k : ℕ) → get_or file k 0 < 256) → get_or (slice file at n) i 0 < 256
unfolding slice
bytes_in file at n i h = small_in (drop at file) n i (λ k. let e = get_or-drop at file k 0 in let l = h (at + k) in omega arith)
  where
    small_in : (xs : List ℕ) (n i : ℕ) → ((k : ℕ) → get_or xs k 0 < 256) → get_or (take n xs) i 0 < 256
    small_in xs zero i h = omega arith
    small_in [] (suc n) i h = omega arith
    small_in (x ∷ xs) (suc n) zero h = h 0
    small_in (x ∷ xs) (suc n) (suc i) h = small_in xs n i (λ k. h (suc k))

word_back : (file : List ℕ) (at : ℕ) → at + 4 ≤ length file → ((k : ℕ) → get_or file k 0 < 256) → slice file at 4 ≡ word_bytes (number 4 file at)
unfolding slice
word_back file at h small =
    let four = length-slice file at 4 h in
    sym (back (slice file at 4) (λ i. bytes_in file at 4 i small)) ∙ ap (λ n. spelling n (spelled (slice file at 4))) four ∙ ap (spelling 4) (sym (number_in 4 file at h))

split_at : (file : List ℕ) (at n : ℕ) → drop at file ≡ slice file at n ++ drop (at + n) file
unfolding slice
split_at file at n = sym (take-append-drop n (drop at file)) ∙ ap (λ xs. take n (drop at file) ++ xs) (drop-drop n at file)

-- the word at the end of a prefix is the number that follows it
word_after : (file front rest : List ℕ) (at n : ℕ) → file ≡ front ++ (word_bytes n ++ rest) → length front ≡ at → n < 256 ^ 4 → number 4 file at ≡ n
word_after file front rest at n e l small =
    let long = ap length e ∙ length-append front (word_bytes n ++ rest) in
    let more = length-append (word_bytes n) rest in
    let four = length-spelling 4 n in
    number_in 4 file at (omega arith) ∙ ap (λ xs. spelled (take 4 (drop at xs))) e ∙ ap (λ xs. spelled (take 4 xs)) (drop_at front (word_bytes n ++ rest) at l)
    ∙ ap spelled (take_at (word_bytes n) rest 4 four) ∙ spelled-spelling 4 n small

length_instructions : (is : List Instruction) → length (flat_map instruction_bytes is) ≡ 8 * length is
length_instructions [] = refl
length_instructions (i ∷ is) = length-append (instruction_bytes i) (flat_map instruction_bytes is) ∙ (let r = length_instructions is in omega arith)

-- ---- from the parts to the file

pub record AreParts (file : List ℕ) (client : Client) (place : ℕ) : Type 0 where
  pub header : IsFileHeader file (length client.types) (length client.constants) (length (listing client.code))
  pub types : AreTypes file client.types
  pub version : number 4 file 4 ≡ file_version client.types
  pub constants : AreConstants file (20 + 16 * length client.types) client.constants place
  pub code : IsCodeAt file place client.types client.constants client.code

module _ (file : List ℕ) (client : Client) (place : ℕ) (parts : AreParts file client place) (small : (k : ℕ) → get_or file k 0 < 256) where
  word_is : (at n : ℕ) → at + 4 ≤ length file → number 4 file at ≡ n → slice file at 4 ≡ word_bytes n
  word_is at n h e = word_back file at h small ∙ ap word_bytes e

  file_is : file ≡ codes "SEGC" ++ (word_bytes (file_version client.types) ++ following (pieces_of client))
  file_is =
      let h = parts.header in
      let whole = h.whole in
      let flat = flat_map form_bytes client.types in
      sym (take-append-drop 4 file) ∙ ap (λ xs. xs ++ drop 4 file) h.magic
      ∙ ap (λ xs. codes "SEGC" ++ xs) (split_at file 4 4 ∙ ap (λ xs. xs ++ drop 8 file) (word_is 4 (file_version client.types) (omega arith) parts.version)
      ∙ ap (λ xs. word_bytes (file_version client.types) ++ xs) (split_at file 8 4 ∙ ap (λ xs. xs ++ drop 12 file) (word_is 8 (length client.types) (omega arith) h.of_types)
      ∙ ap (λ xs. word_bytes (length client.types) ++ xs) (split_at file 12 4 ∙ ap (λ xs. xs ++ drop 16 file) (word_is 12 (length client.constants) (omega arith) h.of_constants)
      ∙ ap (λ xs. word_bytes (length client.constants) ++ xs) (split_at file 16 4 ∙ ap (λ xs. xs ++ drop 20 file) (word_is 16 (length (listing client.code)) (omega arith) h.of_instructions)
      ∙ ap (λ xs. word_bytes (length (listing client.code)) ++ xs) (split_at file 20 (16 * length client.types) ∙ ap (λ xs. xs ++ drop (20 + 16 * length client.types) file) parts.types.spelled
      ∙ ap (λ xs. flat ++ xs) (parts.constants.spelled ∙ ap (λ xs. flat_map constant_bytes client.constants ++ xs) parts.code.spelled))))))

  pub parts_spell : length client.constants ≤ 256 → length (listing client.code) ≤ 4096 → SpellsClient file client
  parts_spell few_constants few_instructions = record {
    valid = record {
      types = parts.types.valid;
      few_constants = few_constants;
      constants = parts.constants.each;
      different = parts.constants.different;
      few_instructions = few_instructions;
      shallow = parts.code.shallow;
      code = parts.code.right;
    };
    spelled = file_is ∙ sym (spelling_is client);
  }

-- ---- from the file to the parts

two : (a b c : List ℕ) → a ++ (b ++ c) ≡ (a ++ b) ++ c
two a b c = sym (append_assoc a b c)

twenty : (a b c d e : List ℕ) → length a ≡ 4 → length b ≡ 4 → length c ≡ 4 → length d ≡ 4 → length e ≡ 4 → length ((((a ++ b) ++ c) ++ d) ++ e) ≡ 20
twenty a b c d e k l m n o = simp length-append (omega arith)

module _ (file a w v x y types constants code : List ℕ) (n : ℕ) (e : file ≡ a ++ (w ++ (v ++ (x ++ (y ++ (types ++ (constants ++ code))))))) (la : length a ≡ 4)
    (lw : length w ≡ 4) (lv : length v ≡ 4) (lx : length x ≡ 4) (ly : length y ≡ 4) (lt : length types ≡ n) where
  second : file ≡ (a ++ w) ++ (v ++ (x ++ (y ++ (types ++ (constants ++ code)))))
  second = e ∙ two a w (v ++ (x ++ (y ++ (types ++ (constants ++ code)))))

  third : file ≡ ((a ++ w) ++ v) ++ (x ++ (y ++ (types ++ (constants ++ code))))
  third = second ∙ two (a ++ w) v (x ++ (y ++ (types ++ (constants ++ code))))

  fourth : file ≡ (((a ++ w) ++ v) ++ x) ++ (y ++ (types ++ (constants ++ code)))
  fourth = third ∙ two ((a ++ w) ++ v) x (y ++ (types ++ (constants ++ code)))

  fifth : file ≡ ((((a ++ w) ++ v) ++ x) ++ y) ++ (types ++ (constants ++ code))
  fifth = fourth ∙ two (((a ++ w) ++ v) ++ x) y (types ++ (constants ++ code))

  after_header : drop 20 file ≡ types ++ (constants ++ code)
  after_header = ap (drop 20) fifth ∙ drop_at ((((a ++ w) ++ v) ++ x) ++ y) (types ++ (constants ++ code)) 20 (twenty a w v x y la lw lv lx ly)

  types_there : slice file 20 n ≡ types
  unfolding slice
  types_there = ap (take n) after_header ∙ take_at types (constants ++ code) n lt

  after_types : drop (20 + n) file ≡ constants ++ code
  after_types = sym (drop-drop n 20 file) ∙ ap (drop n) after_header ∙ drop_at types (constants ++ code) n lt

  after_constants : (m : ℕ) → length constants ≡ m → drop (20 + n + m) file ≡ code
  after_constants m l = sym (drop-drop m (20 + n) file) ∙ ap (drop m) after_types ∙ drop_at constants code m l

  all_long_file : length file ≡ 20 + n + length constants + length code
  all_long_file =
      let f = ap length fifth ∙ length-append ((((a ++ w) ++ v) ++ x) ++ y) (types ++ (constants ++ code)) in
      let g = length-append types (constants ++ code) in
      let h = length-append constants code in
      let k = twenty a w v x y la lw lv lx ly in
      omega arith

  front_of_two : length (a ++ w) ≡ 8
  front_of_two = let l = length-append a w in omega arith

  front_of_three : length ((a ++ w) ++ v) ≡ 12
  front_of_three = let l = length-append (a ++ w) v in let m = front_of_two in omega arith

  front_of_four : length (((a ++ w) ++ v) ++ x) ≡ 16
  front_of_four = let l = length-append ((a ++ w) ++ v) x in let m = front_of_three in omega arith

pub spelled_parts : (file : List ℕ) (client : Client) → SpellsClient file client → AreParts file client (code_place client)
spelled_parts file client spells =
    let v = spells.valid in
    let t = length client.types in
    let c = length client.constants in
    let i = length (listing client.code) in
    let few_types : t < 256 ^ 4 = (let f = v.types.few in omega arith) in
    let few_constants : c < 256 ^ 4 = (let f = v.few_constants in omega arith) in
    let few_instructions : i < 256 ^ 4 = (let f = v.few_instructions in omega arith) in
    let n = file_version client.types in
    let known = is_version client.types in
    let few : n < 256 ^ 4 = omega arith in
    let S = codes "SEGC" in
    let types = flat_map form_bytes client.types in
    let constants = flat_map constant_bytes client.constants in
    let code = flat_map instruction_bytes (listing client.code) in
    let e = spells.spelled ∙ spelling_is client in
    let four = λ (n : ℕ). length-spelling 4 n in
    let lt : length types ≡ 16 * t = length-table client.types (all_long client.types v.types) in
    let version : number 4 file 4 ≡ n = word_after file S _ 4 n e refl few in
    let long = all_long_file file S (word_bytes n) (word_bytes t) (word_bytes c) (word_bytes i) types constants code (16 * t) e refl (four n) (four t) (four c) (four i) lt in
    let size = length_instructions (listing client.code) in
    record {
      header = record {
        whole = omega arith;
        magic = ap (take 4) e;
        version = (omega arith, omega arith);
        of_types = word_after file
            (S ++ word_bytes n) _ 8 t (second file S (word_bytes n) (word_bytes t) (word_bytes c) (word_bytes i) types constants code (16 * t) e refl (four n) (four t) (four c) (four i) lt)
            (front_of_two file S (word_bytes n) (word_bytes t) (word_bytes c) (word_bytes i) types constants code (16 * t) e refl (four n) (four t) (four c) (four i) lt) few_types;
        of_constants = word_after file ((S ++ word_bytes n) ++ word_bytes t) _ 12 c
            (third file S (word_bytes n) (word_bytes t) (word_bytes c) (word_bytes i) types constants code (16 * t) e refl (four n) (four t) (four c) (four i) lt) (front_of_three file
            S (word_bytes n) (word_bytes t) (word_bytes c) (word_bytes i) types constants code (16 * t) e refl (four n) (four t) (four c) (four i) lt) few_constants;
        of_instructions = word_after file (((S ++ word_bytes n) ++ word_bytes t) ++ word_bytes c) _ 16 i
            (fourth file S (word_bytes n) (word_bytes t) (word_bytes c) (word_bytes i) types constants code (16 * t) e refl (four n) (four t) (four c) (four i) lt) (front_of_four file
            S (word_bytes n) (word_bytes t) (word_bytes c) (word_bytes i) types constants code (16 * t) e refl (four n) (four t) (four c) (four i) lt) few_instructions;
      };
      types = record {
        valid = v.types;
        whole = omega arith;
        spelled = types_there file S (word_bytes n) (word_bytes t) (word_bytes c) (word_bytes i) types constants code (16 * t) e refl (four n) (four t) (four c) (four i) lt;
      };
      version = version;
      constants = record {
        spelled = after_types file S (word_bytes n) (word_bytes t) (word_bytes c) (word_bytes i) types constants code (16 * t) e refl (four n) (four t) (four c) (four i) lt
            ∙ ap (λ xs. constants ++ xs) (sym (after_constants file S (word_bytes n) (word_bytes t) (word_bytes c) (word_bytes i) types constants code (16 * t) e refl (four n)
            (four t) (four c) (four i) lt (length constants) refl));
        place = refl;
        each = v.constants;
        different = v.different;
      };
      code = record {
        right = v.code;
        shallow = v.shallow;
        spelled = after_constants file S (word_bytes n) (word_bytes t) (word_bytes c) (word_bytes i) types constants code (16 * t) e refl (four n) (four t) (four c) (four i) lt (length constants) refl;
        ends = omega arith;
      };
    }

-- ---- reading one file

header_same : (file : List ℕ) (t c i u d j : ℕ) → IsFileHeader file t c i → IsFileHeader file u d j → (t ≡ u) × (c ≡ d) × (i ≡ j)
header_same file t c i u d j h g = (sym h.of_types ∙ g.of_types, sym h.of_constants ∙ g.of_constants, sym h.of_instructions ∙ g.of_instructions)

types_same : (file : List ℕ) (a b : Table) → AreTypes file a → AreTypes file b → length a ≡ length b → a ≡ b
types_same file a b h g n = one_table b a (all_long b g.valid) n (sym g.spelled ∙ ap (λ k. slice file 20 (16 * k)) (sym n) ∙ h.spelled)

constants_same : (file : List ℕ) (at p q : ℕ) (cs ds : List Constant) → AreConstants file at cs p → AreConstants file at ds q → length cs ≡ length ds → (cs ≡ ds) × (p ≡ q)
constants_same file at p q cs ds h g n =
    let f = fronts constant_bytes (λ c. ⊤) (λ c d us vs p q e. constant_front c d us vs e) cs ds (drop p file) (drop q file) (any cs) (any ds) (omega arith) (sym h.spelled ∙ g.spelled) in
    let same : ds ≡ cs = f.1 ∙ ap (λ xs. cs ++ xs) (nil_from_length f.0 (let l = length-append cs f.0 in let m = ap length f.1 in omega arith)) ∙ append-nil cs in
    (sym same, h.place ∙ ap (λ xs. at + length (flat_map constant_bytes xs)) (sym same) ∙ sym g.place)

pub no_types : (file : List ℕ) (t c i : ℕ) → IsFileHeader file t c i → ((table : Table) → length table ≡ t → AreTypes file table → ⊥) → (tree : Client) → SpellsClient file tree → ⊥
no_types file t c i header wrong tree spells =
    let p = spelled_parts file tree spells in
    let same = header_same file _ _ _ t c i p.header header in
    wrong tree.types same.0 p.types

pub no_version : (file : List ℕ) (t c i : ℕ) (table : Table) → IsFileHeader file t c i → length table ≡ t → AreTypes file table → (8 ≤ length file → number 4 file 4 ≢ file_version table) → (tree : Client) → SpellsClient file tree → ⊥
no_version file t c i table header n types wrong tree spells =
    let p = spelled_parts file tree spells in
    let same = header_same file _ _ _ t c i p.header header in
    let one : tree.types ≡ table = types_same file tree.types table p.types types (same.0 ∙ sym n) in
    wrong (let whole = header.whole in omega arith) (p.version ∙ ap file_version one)

pub no_constants : (file : List ℕ) (t c i at : ℕ) → IsFileHeader file t c i → at ≡ 20 + 16 * t → ((cs : List Constant) (place : ℕ) → length cs ≡ c → AreConstants file at cs place → ⊥) → (tree : Client) → SpellsClient file tree → ⊥
no_constants file t c i at header e wrong tree spells =
    let p = spelled_parts file tree spells in
    let same = header_same file _ _ _ t c i p.header header in
    wrong tree.constants (code_place tree) same.1 (subst (λ n. AreConstants file n tree.constants (code_place tree)) (ap (λ n. 20 + 16 * n) same.0 ∙ sym e) p.constants)

pub no_code : (file : List ℕ) (t c i at place : ℕ) (table : Table) (cs : List Constant)
    → IsFileHeader file t c i → at ≡ 20 + 16 * t → length table ≡ t → AreTypes file table → length cs ≡ c → AreConstants file at cs place
    → ((code : Statements) → length (listing code) ≡ i → IsCodeAt file place table cs code → ⊥) → (tree : Client) → SpellsClient file tree → ⊥
no_code file t c i at place table cs header e n types m constants wrong tree spells =
    let p = spelled_parts file tree spells in
    let same = header_same file _ _ _ t c i p.header header in
    let one : tree.types ≡ table = types_same file tree.types table p.types types (same.0 ∙ sym n) in
    let there = subst (λ k. AreConstants file k tree.constants (code_place tree)) (ap (λ k. 20 + 16 * k) same.0 ∙ sym e) p.constants in
    let two = constants_same file at (code_place tree) place tree.constants cs there constants (same.1 ∙ sym m) in
    wrong tree.code same.2 (subst (λ k. IsCodeAt file k table cs tree.code) two.1 (subst (λ k. IsCodeAt file (code_place tree) k cs tree.code) one (subst (λ k. IsCodeAt file (code_place tree) tree.types k tree.code) two.0 p.code)))

-- the parts that were read are a client
pub found_client : (file : List ℕ) (t c i at place : ℕ) (table : Table) (cs : List Constant) (code : Statements) → ((k : ℕ) → get_or file k 0 < 256)
    → IsFileHeader file t c i → c ≤ 256 → i ≤ 4096 → at ≡ 20 + 16 * t → length table ≡ t → AreTypes file table → number 4 file 4 ≡ file_version table → length cs ≡ c → AreConstants file at cs place
    → length (listing code) ≡ i → IsCodeAt file place table cs code
    → (tree : Client) × SpellsClient file tree
found_client file t c i at place table cs code small header few many e n types version m constants k is_code =
    let tree : Client = record { types = table; constants = cs; code = code } in
    let start : at ≡ 20 + 16 * length table = omega arith in
    let header' = subst (λ x. IsFileHeader file x (length cs) (length (listing code))) (sym n) (subst (λ y. IsFileHeader file t y (length (listing code))) (sym m) (subst (λ z. IsFileHeader file t c z) (sym k) header)) in
    let constants' = subst (λ x. AreConstants file x cs place) start constants in
    (tree, parts_spell file tree place (record { header = header'; types = types; version = version; constants = constants'; code = is_code }) small (omega arith) (omega arith))

pub no_matter : {T E : Type 0} (r : Result T E) (Q : Type 0) → Q → IfErr r (λ e. Q)
no_matter (Ok x) Q q = tt
no_matter (Err e) Q q = q

-- ---- reading the file of a client again

pub types_again : (file : List ℕ) (tree : Client) → SpellsClient file tree → (table : Table) (n : ℕ) → n ≡ length tree.types → length table ≡ n → AreTypes file table → table ≡ tree.types
types_again file tree spells table n m e types = types_same file table tree.types types (spelled_parts file tree spells).types (e ∙ m)

pub types_there_again : (file : List ℕ) (tree : Client) → SpellsClient file tree → (n : ℕ) → n ≡ length tree.types → ((table : Table) → length table ≡ n → AreTypes file table → ⊥) → ⊥
types_there_again file tree spells n m wrong = wrong tree.types (sym m) (spelled_parts file tree spells).types

-- reading the constants begins after the type entries
pub constants_begin : (file : List ℕ) (tree : Client) → SpellsClient file tree → (at t : ℕ) → t ≡ length tree.types → at ≡ 20 + 16 * t → Walk file tree.constants (code_place tree) at []
constants_begin file tree spells at t n e =
    walk_starts file at (code_place tree) tree.constants (subst (λ x. AreConstants file x tree.constants (code_place tree)) (ap (λ x. 20 + 16 * x) (sym n) ∙ sym e) (spelled_parts file tree spells).constants)

at_list : (is : List Instruction) (i : ℕ) → i < length is → (j : Instruction) × (more : List ℕ) × (slice_get is i ≡ Some j) × (drop (8 * i) (flat_map instruction_bytes is) ≡ instruction_bytes j ++ more)
at_list [] i h = absurd (omega arith)
at_list (j ∷ is) zero h = (j, flat_map instruction_bytes is, refl, refl)
at_list (x ∷ is) (suc i) h =
    let r = at_list is i (omega arith) in
    let eight : 8 * suc i ≡ 8 + 8 * i = omega arith in (
      r.0,
      r.1,
      r.2,
      ap (λ n. drop n (instruction_bytes x ++ flat_map instruction_bytes is)) eight ∙ sym (drop-drop (8 * i) 8 (instruction_bytes x ++ flat_map instruction_bytes is))
          ∙ ap (drop (8 * i)) (drop_at (instruction_bytes x) (flat_map instruction_bytes is) 8 refl) ∙ r.3,
    )

one_of : (P : Instruction → Type 0) (is : List Instruction) (i : ℕ) (j : Instruction) → AllByRecursion P is → slice_get is i ≡ Some j → P j
one_of P [] i j all e = cc
one_of P (x ∷ is) zero j all e = subst P (Some_inj e) all.0
one_of P (x ∷ is) (suc i) j all e = one_of P is i j all.1 e

-- the instruction at an index is encoded at its place in the file
pub instruction_there : (file : List ℕ) (tree : Client) → SpellsClient file tree → (i : ℕ)
    → i < length (listing tree.code) → (j : Instruction) × (slice_get (listing tree.code) i ≡ Some j) × IsWord j × HasOperands j × (code_place tree + 8 * i + 8 ≤ length file)
    × (slice file (code_place tree + 8 * i) 8 ≡ instruction_bytes j)
unfolding slice
instruction_there file tree spells i h =
    let code = (spelled_parts file tree spells).code in
    let r = at_list (listing tree.code) i h in
    let ends = code.ends in (
      r.0,
      r.2,
      one_of IsWord (listing tree.code) i r.0 (words tree.types tree.constants tree.code code.right) r.2,
      one_of HasOperands (listing tree.code) i r.0 (all_operands tree.types tree.constants tree.code code.right) r.2,
      omega arith,
      ap (take 8) (sym (drop-drop (8 * i) (code_place tree) file) ∙ ap (drop (8 * i)) code.spelled ∙ r.3) ∙ take_at (instruction_bytes r.0) r.1 8 refl,
    )

pub past_instructions : (is : List Instruction) (i : ℕ) → length is ≤ i → slice_get is i ≡ None
past_instructions [] i h = refl
past_instructions (x ∷ is) zero h = absurd (omega arith)
past_instructions (x ∷ is) (suc i) h = past_instructions is i (omega arith)

pub end_there : (file : List ℕ) (tree : Client) → SpellsClient file tree → (place n : ℕ) → place ≡ code_place tree → n ≡ length (listing tree.code) → place + 8 * n ≡ length file
end_there file tree spells place n e m = let ends = (spelled_parts file tree spells).code.ends in omega arith

-- decoding the bytes at an instruction's place returns that instruction
pub same_instruction : (file : List ℕ) (tree : Client) → SpellsClient file tree → (i place : ℕ) (r : Option program.Instruction) → i < length (listing tree.code)
    → place ≡ code_place tree + 8 * i → IfSome r (λ j. (place + 8 ≤ length file) × (slice file place 8 ≡ instruction_bytes (instruction_of j)))
    → IfSome r (λ j. FitsSigned w32 j.number)
    → IfNone r (place + 8 ≤ length file → (j : Instruction) → HasOperands j → slice file place 8 ≢ instruction_bytes j) → option_map instruction_of r ≡ slice_get (listing tree.code) i
same_instruction file tree spells i place None h e found range none =
    let there = instruction_there file tree spells i h in
    absurd (none (let l = there.4 in omega arith) there.0 there.3 (ap (λ n. slice file n 8) e ∙ there.5))
same_instruction file tree spells i place (Some r) h e found range none =
    let there = instruction_there file tree spells i h in
    let same = sym found.1 ∙ ap (λ n. slice file n 8) e ∙ there.5 in
    ap Some (instruction_front (instruction_of r) there.0 [] [] range there.2 (ap (λ xs. xs ++ []) same)).0 ∙ sym there.1

-- the header and the constants determine the counts of a client and the position of its code
pub read_places : (file : List ℕ) (tree : Client)
    → SpellsClient file tree → (t c i at place : ℕ) (cs : List Constant) → IsFileHeader file t c i → at ≡ 20 + 16 * t → length cs ≡ c → AreConstants file at cs place
    → (t ≡ length tree.types) × (c ≡ length tree.constants) × (i ≡ length (listing tree.code)) × (place ≡ code_place tree)
read_places file tree spells t c i at place cs header e m constants =
    let p = spelled_parts file tree spells in
    let same = header_same file t c i _ _ _ header p.header in
    let there = subst (λ k. AreConstants file k tree.constants (code_place tree)) (ap (λ k. 20 + 16 * k) (sym same.0) ∙ sym e) p.constants in
    (same.0, same.1, same.2, (constants_same file at place (code_place tree) cs tree.constants constants there (m ∙ same.1)).1)
