-- The increment is a client, and an image with only the number x = 41 pictures the state with only
-- that object.
use Rattle.std.proofs.Common.{◌≡◌, ℕ, ◌<◌, ◌≤◌, pos, Bool, true, false, List, [], Some, None, refl, lit≤, arith}
use Rattle.std.specs.Prelude.{codes, option_map, if◌then◌else◌, FitsSigned}
use Rattle.std.specs.Int.{w32}
use Rattle.std.proofs.lemmas.Int.{ints}
use Rattle.std.proofs.lemmas.List.Elements.{All-nil, All-cons}
use Rattle.seg_spec.specs.Types.{Table}
use Rattle.seg_spec.specs.Value.{Int, nil, cons}
use Rattle.seg_spec.specs.Fixtures.{counter, counter_picture}
use Rattle.seg_spec.specs.Index.{plain_root, same_name}
use Rattle.test_definitions.proofs.WorkedImages.SoundImages.{counter_held, counter_counted}
use Rattle.client_spec.specs.declared.table.Operation.{Operation}
use Rattle.client_spec.specs.Syntax.{Constant}
use Rattle.client_spec.specs.declared.table.Role.{Role}
use Rattle.client_spec.specs.Operations.{row_of}
use Rattle.client_spec.specs.Grammar.{file_version, IsNameByte, IsConstant, IsOperand, IsNumber, IsInstruction, IsCode, IsClient, SpellsClient, listing, depth, client_bytes}
use Rattle.client_spec.specs.Pictures.{Pictures, names_in, object_of}
use Rattle.client_spec.specs.Fixtures.{at, increment, counted}

letter_x : IsNameByte 120
letter_x = (omega arith, omega arith, λ e. omega arith)

name_x : IsConstant (Constant.Name (codes "x"))
name_x = (omega arith, omega arith, All-cons IsNameByte 120 [] letter_x (All-nil IsNameByte))

fits : (n : ℕ) → n < 100 → FitsSigned w32 (pos n)
fits n h = search (arith, ints)

module _ (types : Table) (constants : List Constant) where
  -- an instruction is valid if each operand is of the kind that its row requires
  pub is_instruction : (o : Operation) (role : Role) (a b c n : ℕ) → (row_of o).role ≡ role → (row_of o).version ≤ file_version types → IsOperand (row_of o).a a → IsOperand (row_of o).b b → IsOperand (row_of o).c c
      → IsNumber types constants b (row_of o).number (pos n) → n < 100 → IsInstruction types constants role (at o a b c (pos n))
  is_instruction o role a b c n p v x y z w l = record { role = p; version = v; a = x; b = y; c = z; number = w; range = fits n l }

increment_code : IsCode increment.types increment.constants increment.code
unfolding IsCode
increment_code =
    let s = is_instruction increment.types increment.constants in (
      (
        s Operation.Find Role.Opener 0 16 16 0 refl (lit≤ tt) (omega arith) (omega arith) (omega arith) (omega arith, refl) (omega arith),
        (
          s Operation.Load Role.Plain 1 0 0 0 refl (lit≤ tt) (omega arith) (omega arith) refl refl (omega arith),
          (
            s Operation.Const Role.Plain 2 0 0 1 refl (lit≤ tt) (omega arith) refl refl tt (omega arith),
            (
              s Operation.Add Role.Plain 1 1 2 0 refl (lit≤ tt) (omega arith) (omega arith) (omega arith) refl (omega arith),
              (s Operation.Store Role.Plain 0 0 1 0 refl (lit≤ tt) refl (omega arith) (omega arith) refl (omega arith), (s Operation.OutInt Role.Plain 0 1 0 0 refl (lit≤ tt) refl (omega arith) refl refl (omega arith), tt)),
            ),
          ),
        ),
        tt,
      ),
      tt,
    )

increment_valid : IsClient increment
unfolding listing depth
increment_valid = record {
  types = counter_held.laid_out.is_table;
  few_constants = omega arith;
  constants = All-cons IsConstant (Constant.Name (codes "x")) [] name_x (All-nil IsConstant);
  different = λ k l d lt h. absurd (omega arith);
  few_instructions = omega arith;
  shallow = omega arith;
  code = increment_code;
}

pub increment_spelled : SpellsClient (client_bytes increment) increment
increment_spelled = record { valid = increment_valid; spelled = refl }

pub same_x : (name : List ℕ) → counted.names name ≡ names_in counter_picture name
same_x name = choose (same_name name (codes "x"))
  where
    choose : (b : Bool) → (if b then Some (record { type = 0; values = cons (Int (pos 41)) nil }) else None) ≡ option_map object_of
        (if b then Some (plain_root (codes "x") 720 0 (cons (Int (pos 41)) nil)) else None)
    choose true = refl
    choose false = refl

pub counter_pictured : Pictures [] counted counter
counter_pictured = record {
  picture = counter_picture;
  held = counter_held;
  counted = counter_counted;
  types = refl;
  names = same_x;
  uniques = λ T. refl;
  owned = [];
  are_owned = tt;
  loose = refl;
}
