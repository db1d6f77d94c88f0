-- The pieces of a client are readable.
use Rattle.std.proofs.Common.{ℕ, ◌≤◌, ℤ, pos, negsuc, List, [], ◌∷◌, ◌++◌, length, map, slice_index_or, refl, arith}
use Rattle.std.specs.Prelude.{All, FitsSigned}
use Rattle.std.specs.List.{AllByRecursion}
use Rattle.std.specs.Int.{w32}
use Rattle.std.proofs.lemmas.Int.{ints}
use Rattle.std.proofs.lemmas.List.Elements.{All-nil, All-cons, All-head, All-tail, All-append, All-map}
use Rattle.seg_spec.specs.Types.{Form, Table, IsForm, IsTable}
use Rattle.seg_spec.proofs.Tables.TypeSizeLaws.{all_forms}
use Rattle.seg_spec.proofs.Tables.TableExtensionLaws.{below_length}
use Rattle.client_spec.specs.declared.table.Operation.{Operation}
use Rattle.client_spec.specs.Syntax.{Constant, Client}
use Rattle.client_spec.specs.declared.table.Number.{Number}
use Rattle.client_spec.specs.Operations.{row_of}
use Rattle.client_spec.specs.Grammar.{mark, listing, IsConstant, IsNumber, IsClient}
use Rattle.client_spec.specs.Text.{type_item, constant_item, instruction_item}
use Rattle.client_spec.specs.Pieces.{Pieces, pieces_of, all_items, IsReadable, IsTold, IsToldInstruction, AreReadable}
use Rattle.client_spec.proofs.Spelling.ListingLaws.{all_listed}

pub each_of : {A : Type 0} (P : A → Type 0) (xs : List A) → All P xs → AllByRecursion P xs
each_of P [] h = tt
each_of P (x ∷ xs) h = (All-head P x xs h, each_of P xs (All-tail P x xs h))

all_of : {A : Type 0} (P : A → Type 0) (xs : List A) → AllByRecursion P xs → All P xs
all_of P [] h = All-nil P
all_of P (x ∷ xs) h = All-cons P x xs h.0 (all_of P xs h.1)

parted : {A : Type 0} (P : A → Type 0) (xs ys : List A) → AllByRecursion P (xs ++ ys) → AllByRecursion P xs × AllByRecursion P ys
parted P [] ys h = (tt, h)
parted P (x ∷ xs) ys h = let r = parted P xs ys h.1 in ((h.0, r.0), r.1)

unmapped : {A B : Type 0} (P : B → Type 0) (f : A → B) (xs : List A) → AllByRecursion P (map f xs) → AllByRecursion (λ x. P (f x)) xs
unmapped P f [] h = tt
unmapped P f (x ∷ xs) h = (h.0, unmapped P f xs h.1)

-- the readable pieces, kind by kind
pub record Readable (pieces : Pieces) : Type 0 where
  pub types : AllByRecursion (IsForm 256 256) pieces.types
  pub constants : AllByRecursion (λ c. IsReadable (constant_item c)) pieces.constants
  pub instructions : AllByRecursion IsToldInstruction pieces.instructions

pub by_kind : (pieces : Pieces) → AreReadable pieces → Readable pieces
by_kind pieces h =
    let two = parted IsReadable (map type_item pieces.types ++ map constant_item pieces.constants) (map instruction_item pieces.instructions) (each_of IsReadable (all_items pieces) h.readable) in
    let one = parted IsReadable (map type_item pieces.types) (map constant_item pieces.constants) two.0 in
    record {
      types = unmapped IsReadable type_item pieces.types one.0;
      constants = unmapped IsReadable constant_item pieces.constants one.1;
      instructions = unmapped IsReadable instruction_item pieces.instructions two.1;
    }

-- ---- the pieces of a client

pub wider : (n k : ℕ) (form : Form) → n ≤ 256 → k ≤ 256 → IsForm n k form → IsForm 256 256 form
wider n k Form.i64 a b h = tt
wider n k Form.str a b h = tt
wider n k (Form.vec U) a b h = omega arith
wider n k (Form.list U) a b h = omega arith
wider n k (Form.flat_map U) a b h = omega arith
wider n k (Form.map U) a b h = omega arith
wider n k (Form.own U) a b h = omega arith
wider n k (Form.shared U) a b h = omega arith
wider n k (Form.struct Us) a b h = (h.0, h.1, λ i d l. let u = h.2 i d l in omega arith)

of_constant : (constant : Constant) → IsConstant constant → IsReadable (constant_item constant)
of_constant (Constant.Text bytes) h = h.1
of_constant (Constant.Name name) h = tt
of_constant (Constant.Family prefix) h = tt

told : (types : Table) (constants : List Constant) (b : ℕ) (form : Number) (n : ℤ) → IsNumber types constants b form n → IsTold form n
told types constants b Number.Unused n h = h
told types constants b Number.Any n h = tt
told types constants b Number.Turns n h = tt
told types constants b Number.TypeId (pos n) h = tt
told types constants b Number.TypeId (negsuc n) h = h
told types constants b Number.Text (pos n) h = tt
told types constants b Number.Text (negsuc n) h = h
told types constants b Number.TypedName (pos n) h = tt
told types constants b Number.TypedName (negsuc n) h = h

fits_zero : FitsSigned w32 (pos 0)
fits_zero = search (arith, ints)

else_told : IsToldInstruction (mark Operation.Else)
else_told = record { a = refl; b = refl; c = refl; number = refl; range = fits_zero }

end_told : IsToldInstruction (mark Operation.End)
end_told = record { a = refl; b = refl; c = refl; number = refl; range = fits_zero }

instructions_told : (client : Client) → IsClient client → AllByRecursion IsToldInstruction (listing client.code)
instructions_told client h =
    all_listed client.types client.constants IsToldInstruction
    (λ role i g. record { a = g.a; b = g.b; c = g.c; number = told client.types client.constants i.b (row_of i.operation).number i.number g.number; range = g.range }) else_told end_told client.code h.code

forms_readable : (table : Table) → IsTable table → AllByRecursion (IsForm 256 256) table
forms_readable table h = all_forms (IsForm 256 256) table (λ T form e. wider (length table) T form (let l = h.few in omega arith) (let l = h.few in let m = below_length table T form e in omega arith) (h.forms T form e))

pub of_client : (client : Client) → IsClient client → AreReadable (pieces_of client)
of_client client h =
    record {
      few_types = h.types.few;
      few_constants = h.few_constants;
      few_instructions = h.few_instructions;
      readable = All-append IsReadable (map type_item client.types ++ map constant_item client.constants) (map instruction_item (listing client.code))
          (All-append IsReadable (map type_item client.types) (map constant_item client.constants)
          (All-map IsReadable type_item client.types (all_of (IsForm 256 256) client.types (forms_readable client.types h.types)))
          (All-map IsReadable constant_item client.constants (λ i d l. of_constant (slice_index_or client.constants i d) (h.constants i d l))))
          (All-map IsReadable instruction_item (listing client.code) (all_of IsToldInstruction (listing client.code) (instructions_told client h)));
    }
