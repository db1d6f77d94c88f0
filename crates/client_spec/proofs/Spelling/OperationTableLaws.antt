-- The instruction table: each operation has its own row, number and word.
--     own_row                        the row of an operation is its own
--     same_by_number, same_by_word   operations with the same number, or the same mnemonic, are equal
--     number_range                   the numbers are those of the rows, from 1 on
--     entry_at, at_number            an entry of the table, in the program's array
--     entry_own                      an entry of the table is its operation's
use Rattle.std.proofs.Common.{◌≡◌, ℕ, zero, suc, ◌+◌, ◌-◌, ◌<◌, ◌≤◌, List, [], ◌∷◌, length, map, refl, sym, ap, ◌∙◌, arith}
use Rattle.std.specs.Prelude.{slice_index_or, if◌then◌else◌}
use Rattle.std.proofs.lemmas.List.{get_or_default, length-map}
use Rattle.seg_spec.specs.Index.{same_name}
use Rattle.client_spec.specs.declared.table.TheConstants.{OPERATIONS}
use Rattle.client_spec.specs.declared.table.Operation.{Operation}
use Rattle.client_spec.specs.Operations.{Entry, opcode, entries, no_entry, operation_entry, mnemonic, row_of}

-- ---- operations by their numbers and words

pub own_row : (o : Operation) → (row_of o).operation ≡ o
own_row Operation.Const = refl
own_row o = refl

operation_at : ℕ → Operation
operation_at n = (slice_index_or entries (n - 1) no_entry).1.operation

pub same_by_number : (a b : Operation) → opcode a ≡ opcode b → a ≡ b
unfolding operation_at
same_by_number a b e = sym (own_row a) ∙ ap operation_at e ∙ own_row b

-- the operation with a mnemonic, by a search of the table
operation_in : List Entry → List ℕ → Operation
operation_in [] word = no_entry.1.operation
operation_in (entry ∷ rest) word = if same_name entry.0 word then entry.1.operation else operation_in rest word

own_word : (o : Operation) → operation_in entries (mnemonic o) ≡ o
unfolding operation_in
own_word Operation.Const = refl
own_word o = refl

pub same_by_word : (a b : Operation) → mnemonic a ≡ mnemonic b → a ≡ b
same_by_word a b e = sym (own_word a) ∙ ap (operation_in entries) e ∙ own_word b

pub number_range : (o : Operation) → (1 ≤ opcode o) × (opcode o ≤ OPERATIONS)
number_range Operation.Const = (omega arith, omega arith)
number_range o = (omega arith, omega arith)

-- ---- the table in the program

index_map : {A B : Type 0} (f : A → B) (xs : List A) (k : ℕ) (d : A) → slice_index_or (map f xs) k (f d) ≡ f (slice_index_or xs k d)
index_map f [] k d = refl
index_map f (x ∷ xs) zero d = refl
index_map f (x ∷ xs) (suc k) d = index_map f xs k d

pub entry_at : {A : Type 0} (view : A → Entry) (rows : List A) → map view rows ≡ entries → (k : ℕ) (d : A) → k < OPERATIONS → view (slice_index_or rows k d) ≡ slice_index_or entries k no_entry
entry_at view rows same k d h =
    sym (index_map view rows k d) ∙ ap (λ xs. slice_index_or xs k (view d)) same
    ∙ get_or_default entries k (view d) no_entry h

-- the entry at an operation's number is the operation's
pub at_number : {A : Type 0} (view : A → Entry) (rows : List A) → map view rows ≡ entries → (o : Operation) (n : ℕ) (d : A) → n ≡ opcode o → view (slice_index_or rows (n - 1) d) ≡ operation_entry o
at_number view rows same o n d e =
    let range = number_range o in
    entry_at view rows same (n - 1) d (omega arith) ∙ ap (λ m. slice_index_or entries (m - 1) no_entry) e

pub at_index : {A : Type 0} (view : A → Entry) (rows : List A) → map view rows ≡ entries → (o : Operation) (k : ℕ) (d : A) → k + 1 ≡ opcode o → view (slice_index_or rows k d) ≡ operation_entry o
at_index view rows same o k d e =
    let here : k ≡ opcode o - 1 = omega arith in
    ap (λ j. view (slice_index_or rows j d)) here ∙ at_number view rows same o (opcode o) d refl

-- n ascending numbers
counted : ℕ → ℕ → List ℕ
counted n zero = []
counted n (suc m) = n ∷ counted (suc n) m

counted_at : (n m k d : ℕ) → k < m → slice_index_or (counted n m) k d ≡ n + k
unfolding counted
counted_at n zero k d h = absurd (omega arith)
counted_at n (suc m) zero d h = omega arith
counted_at n (suc m) (suc k) d h = let rest = counted_at (suc n) m k d (omega arith) in omega arith

number_in : Entry → ℕ
number_in entry = opcode entry.1.operation

numbers_count : map number_in entries ≡ counted 1 OPERATIONS
unfolding number_in counted
numbers_count = refl

pub number_at : (k : ℕ) → k < OPERATIONS → opcode (slice_index_or entries k no_entry).1.operation ≡ k + 1
unfolding number_in
number_at k h =
    let found = ap (λ ns. slice_index_or ns k (number_in no_entry)) numbers_count ∙ counted_at 1 OPERATIONS k (number_in no_entry) h in
    let here = index_map number_in entries k no_entry in
    omega arith

pub entry_own : (k : ℕ) → k < OPERATIONS → operation_entry (slice_index_or entries k no_entry).1.operation ≡ slice_index_or entries k no_entry
entry_own k h =
    let n = number_at k h in
    let place : opcode (slice_index_or entries k no_entry).1.operation - 1 ≡ k = omega arith in
    ap (λ i. slice_index_or entries i no_entry) place

-- the operation of an entry has its number, and its word
pub operation_number : {A : Type 0} (view : A → Entry) (rows : List A) → map view rows ≡ entries → (k : ℕ) (d : A) → k < OPERATIONS → opcode (view (slice_index_or rows k d)).1.operation ≡ k + 1
operation_number view rows same k d h = ap (λ entry. opcode entry.1.operation) (entry_at view rows same k d h) ∙ number_at k h

pub operation_word : {A : Type 0} (view : A → Entry) (rows : List A) → map view rows ≡ entries → (k : ℕ) (d : A) → k < OPERATIONS → mnemonic (view (slice_index_or rows k d)).1.operation ≡ (view (slice_index_or rows k d)).0
operation_word view rows same k d h =
    let here = entry_at view rows same k d h in
    ap (λ entry. mnemonic entry.1.operation) here ∙ ap (λ entry. entry.0) (entry_own k h) ∙ sym (ap (λ entry. entry.0) here)

-- a word that no row has is that of no operation
pub no_word : {A : Type 0} (view : A → Entry) (rows : List A) → map view rows ≡ entries → (word : List ℕ) → ((d : A) (k : ℕ) → k < OPERATIONS → (view (slice_index_or rows k d)).0 ≡ word → ⊥) → (o : Operation) → mnemonic o ≡ word → ⊥
no_word view [] same word none o e = cc
no_word view (row ∷ rows) same word none o e =
    let range = number_range o in
    none row (opcode o - 1) (omega arith) (ap (λ entry. entry.0) (at_number view (row ∷ rows) same o (opcode o) row refl) ∙ e)

pub as_many : {A : Type 0} (view : A → Entry) (rows : List A) → map view rows ≡ entries → length rows ≡ OPERATIONS
as_many view rows same = sym (length-map rows view) ∙ ap length same
