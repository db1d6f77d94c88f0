-- Instructions that follow each other in a file.
use Rattle.std.proofs.Common.{◌≡◌, ℕ, ◌+◌, ◌*◌, ◌<◌, ◌≤◌, List, [], ◌∷◌, ◌++◌, length, take, drop, refl, sym, ap, ◌∙◌, subst, arith, Some, None, append-nil, take-add}
use Rattle.std.specs.Prelude.{flat_map}
use Rattle.std.specs.List.{AllByRecursion}
use Rattle.std.specs.Option.{option_and_then}
use Rattle.std.proofs.lemmas.List.{length-append, length-drop, flat_map_more, map-append, drop-drop, take-append-drop, take_at, take_all}
use Rattle.seg_spec.specs.Bytes.{slice}
use Rattle.seg_spec.specs.Types.{Table}
use Rattle.client_spec.specs.declared.table.Operation.{Operation}
use Rattle.client_spec.specs.Syntax.{Constant, Instruction, Statements}
use Rattle.client_spec.specs.Grammar.{mark, listing, instruction_bytes, IsInstruction}
use Rattle.client_spec.proofs.Spelling.ListingLaws.{all_listed, all_two}
use Rattle.client_spec.proofs.Spelling.FileVersionLaws.{is_version}
use Rattle.client_spec.proofs.Spelling.OneClientLaws.{IsWord, instruction_front, mark_word}
use Rattle.client_code.specs.declared.nesting.Part.{Part}
use Rattle.client_code.specs.Parts.{passed, passed_all}
use Rattle.client_code.specs.Files.{IsCodeAt}
use Rattle.client_code.proofs.ListingTreeLaws.{role_of, roles, Right, code_of, code_closes, passed_more}
use Rattle.client_code.proofs.Constants.{fronts}

-- the instructions up to the k-th, and the parts that are open after them
pub record CodeTo (file : List ℕ) (at : ℕ) (types : Table) (constants : List Constant) (k : ℕ) (parts : List Part) : Type 0 where
  pub list : List Instruction
  pub count : length list ≡ k
  pub spelled : slice file at (8 * k) ≡ flat_map instruction_bytes list
  pub right : AllByRecursion (Right types constants) list
  pub nested : passed_all [] (roles list) ≡ Some parts

middle : {A : Type 0} (P : A → Type 0) (xs ys : List A) (y : A) → AllByRecursion P (xs ++ y ∷ ys) → P y
middle P [] ys y all = all.0
middle P (x ∷ xs) ys y all = middle P xs ys y all.1

all_words : (types : Table) (constants : List Constant) (is : List Instruction) → AllByRecursion (Right types constants) is → AllByRecursion IsWord is
all_words types constants [] all = tt
all_words types constants (i ∷ is) all = (all.0.range, all_words types constants is all.1)

split_at : (file : List ℕ) (at n : ℕ) → drop at file ≡ slice file at n ++ drop (at + n) file
unfolding slice
split_at file at n = sym (take-append-drop n (drop at file)) ∙ ap (λ xs. take n (drop at file) ++ xs) (drop-drop n at file)

slice_on : (file : List ℕ) (at n : ℕ) → slice file at (n + 8) ≡ slice file at n ++ slice file (at + n) 8
unfolding slice
slice_on file at n = take-add n 8 (drop at file) ∙ ap (λ xs. take n (drop at file) ++ take 8 xs) (drop-drop n at file)

slice_front : (file xs ys : List ℕ) (at : ℕ) → length xs ≡ 8 → drop at file ≡ xs ++ ys → slice file at 8 ≡ xs
unfolding slice
slice_front file xs ys at n e = ap (take 8) e ∙ take_at xs ys 8 n

slice_whole : (file : List ℕ) (at n : ℕ) → length file ≡ at + n → slice file at n ≡ drop at file
unfolding slice
slice_whole file at n h = take_all n (drop at file) (let l = length-drop at file in omega arith)

module _ (file : List ℕ) (at : ℕ) (types : Table) (constants : List Constant) where
  pub starts : CodeTo file at types constants 0 []
  unfolding slice
  starts = record { list = []; count = refl; spelled = refl; right = tt; nested = refl }

  pub goes_on : (k : ℕ) (parts now : List Part) (i : Instruction) → CodeTo file at types constants k parts → slice file (at + 8 * k) 8 ≡ instruction_bytes i
      → Right types constants i → passed parts (role_of i) ≡ Some now → CodeTo file at types constants (k + 1) now
  goes_on k parts now i to spelled right nested =
      let eight : 8 * (k + 1) ≡ 8 * k + 8 = omega arith in
      let one = length-append to.list (i ∷ []) in
      record {
        list = to.list ++ i ∷ [];
        count = (let n = to.count in omega arith);
        spelled =
            ap (slice file at) eight ∙ slice_on file at (8 * k) ∙ ap (λ xs. xs ++ slice file (at + 8 * k) 8) to.spelled ∙ ap (λ xs. flat_map instruction_bytes to.list ++ xs) spelled
            ∙ flat_map_more instruction_bytes [] to.list i;
        right = all_two (Right types constants) to.list (i ∷ []) to.right (right, tt);
        nested =
            ap (passed_all []) (map-append role_of to.list (i ∷ [])) ∙ passed_more [] (roles to.list) (role_of i ∷ [])
            ∙ ap (option_and_then (λ q. passed_all q (role_of i ∷ []))) to.nested ∙ ap (option_and_then (λ q. Some q)) nested;
      }

  pub ends : (k : ℕ) → CodeTo file at types constants k [] → length file ≡ at + 8 * k → (code : Statements) × (length (listing code) ≡ k) × IsCodeAt file at types constants code
  ends k to h =
      let c = code_of types constants to.list to.right to.nested in
      let same : to.list ≡ listing c.0 = c.3 in
      let n = ap length same in
      let count = to.count in (
        c.0,
        omega arith,
        record {
          right = c.1;
          shallow = c.2;
          spelled = sym (slice_whole file at (8 * k) h) ∙ to.spelled ∙ ap (flat_map instruction_bytes) same;
          ends = omega arith;
        },
      )

  mark_else : Right types constants (mark Operation.Else)
  mark_else = record { role = refl; version = (is_version types).0; a = refl; b = refl; c = refl; number = refl; range = mark_word Operation.Else }

  mark_end : Right types constants (mark Operation.End)
  mark_end = record { role = refl; version = (is_version types).0; a = refl; b = refl; c = refl; number = refl; range = mark_word Operation.End }

  module _ (code : Statements) (whole : IsCodeAt file at types constants code) where
    all_right : AllByRecursion (Right types constants) (listing code)
    all_right = all_listed types constants (Right types constants) (λ role i h. subst (λ p. IsInstruction types constants p i) (sym h.role) h) mark_else mark_end code whole.right

    remaining : (k : ℕ) (parts : List Part) (to : CodeTo file at types constants k parts) → k ≤ length (listing code)
        → (more : List Instruction) × (listing code ≡ to.list ++ more) × (drop (at + 8 * k) file ≡ flat_map instruction_bytes more)
    remaining k parts to h =
        let e : flat_map instruction_bytes to.list ++ drop (at + 8 * k) file ≡ flat_map instruction_bytes (listing code) ++ [] =
        ap (λ xs. xs ++ drop (at + 8 * k) file) (sym to.spelled) ∙ sym (split_at file at (8 * k)) ∙ whole.spelled ∙ sym (append-nil (flat_map instruction_bytes (listing code))) in
        let n = to.count in
        let f = fronts instruction_bytes IsWord (λ i j us vs p q s. instruction_front i j us vs p q s) to.list (listing code)
        (drop (at + 8 * k) file) [] (all_words types constants to.list to.right) (all_words types constants (listing code) all_right) (omega arith) e in
        (f.0, f.1, f.2 ∙ append-nil (flat_map instruction_bytes f.0))

    -- the next instruction is at that position, and its role is allowed there
    pub stands : (k : ℕ) (parts : List Part) → CodeTo file at types constants k parts → k < length (listing code) → (j : Instruction) × Right types constants j
        × (at + 8 * k + 8 ≤ length file) × (slice file (at + 8 * k) 8 ≡ instruction_bytes j) × (passed parts (role_of j) ≡ None → ⊥)
    stands k parts to h =
        let r = remaining k parts to (omega arith) in
        found r.0 r.1 r.2
      where
        found : (more : List Instruction) → listing code ≡ to.list ++ more → drop (at + 8 * k) file ≡ flat_map instruction_bytes more
            → (j : Instruction) × Right types constants j × (at + 8 * k + 8 ≤ length file) × (slice file (at + 8 * k) 8 ≡ instruction_bytes j)
            × (passed parts (role_of j) ≡ None → ⊥)
        found [] e s = absurd (let n = ap length e in let m = length-append {A = Instruction} to.list [] in let c = to.count in omega arith)
        found (j ∷ more) e s = (
          j,
          middle (Right types constants) to.list more j (subst (AllByRecursion (Right types constants)) e all_right),
          (let l = whole.ends in omega arith),
          slice_front file (instruction_bytes j) (flat_map instruction_bytes more) (at + 8 * k) refl s,
          λ none.
              let closes = ap (passed_all []) (ap roles e ∙ map-append role_of to.list (j ∷ more)) in
              let all = code_closes types constants code whole.right whole.shallow in
              let some : option_and_then (λ q. passed_all q (roles more)) (passed parts (role_of j)) ≡ Some [] =
              ap (option_and_then (λ q. passed_all q (role_of j ∷ roles more))) (sym to.nested) ∙ sym (passed_more [] (roles to.list) (role_of j ∷ roles more)) ∙ sym closes ∙ all in
              let nothing : option_and_then (λ q. passed_all q (roles more)) (passed parts (role_of j)) ≡ None = ap (option_and_then (λ q. passed_all q (roles more))) none in
              cc,
        )

    -- no part is open after the last instruction
    pub closed : (k : ℕ) (parts : List Part) → CodeTo file at types constants k parts → length (listing code) ≡ k → parts ≡ []
    closed k parts to h =
        let r = remaining k parts to (omega arith) in
        done r.0 r.1
      where
        done : (more : List Instruction) → listing code ≡ to.list ++ more → parts ≡ []
        done [] e =
            let same : to.list ≡ listing code = sym (append-nil to.list) ∙ sym e in
            let all : Some parts ≡ Some [] = sym to.nested ∙ ap (λ is. passed_all [] (roles is)) same ∙ code_closes types constants code whole.right whole.shallow in
            cc
        done (j ∷ more) e = absurd (let n = ap length e in let m = length-append to.list (j ∷ more) in let c = to.count in omega arith)
