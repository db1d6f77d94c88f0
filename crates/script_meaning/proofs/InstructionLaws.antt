-- Instructions: marks, and what object an instruction is about.
use Rattle.std.proofs.Common.{◌≡◌, ℕ, ◌/◌, ◌%◌, pos, nat_abs, Some, Result, Ok, Err, slice_get, sym, ◌∙◌, ap}
use Rattle.std.specs.Option.{option_map}
use Rattle.std.specs.Result.{OkIff, result_ok}
use Rattle.std.proofs.lemmas.Option.{slice_get-map}
use Rattle.client_spec.specs.Syntax as syntax
use Rattle.client_spec.specs.declared.table.Operation.{Operation}
use Rattle.client_spec.specs.Grammar.{mark}
use Rattle.client_code.specs.declared.constant.Constant.{Constant}
use Rattle.client_code.specs.declared.constant.ConstantKind.TheVariants as kind
use Rattle.client_code.specs.declared.instruction.Instruction.{Instruction}
use Rattle.client_code.specs.Views.{instruction_of, constant_of, constant_by}
use Rattle.script_meaning.specs.declared.comparison.Comparison.{Comparison}
use Rattle.script_meaning.specs.Meaning.{name_of}
use Rattle.script_meaning.specs.Comparing.{setting_of, texts_of, IsAbout}

pub is_mark : (i : Instruction) (op : Operation) → i.operation ≡ op → i.a ≡ 0 → i.b ≡ 0 → i.c ≡ 0 → i.number ≡ pos 0 → instruction_of i ≡ mark op
is_mark i op o a b c n = λ t. record { operation = o t; a = a t; b = b t; c = c t; number = n t }

-- the number in the `Ok` of a conversion
pub converted : {E : Type 0} (r : Result ℕ E) (P : Type 0) (n x : ℕ) → OkIff r P x → Some n ≡ result_ok r → n ≡ x
converted (Ok y) P n x (p, is) e = let same : n ≡ y = cc in same ∙ is
converted (Err e) P n x h f = cc

-- an instruction whose constant is the name of an object
pub about_law : (c : Comparison) (i : Instruction) (n x : ℕ) (constant : Constant) → n ≡ nat_abs i.number → n / 256 ≡ c.int → i.b ≡ 16
    → slice_get c.constants.now (n % 256) ≡ Some constant → constant.kind ≡ kind.Name → name_of (setting_of c) x ≡ constant.bytes.now
    → IsAbout c (instruction_of i) x
about_law c i n x constant is type by_name there names named = record {
  type = ap (λ k. k / 256) (sym is) ∙ type;
  constant = ap (λ k. slice_get (texts_of c) (k % 256)) (sym is) ∙ slice_get-map constant_of c.constants.now (n % 256) ∙ ap (option_map constant_of) there
      ∙ ap (λ k. Some (constant_by k constant.bytes.now)) names ∙ ap (λ bytes. Some (syntax.Constant.Name bytes)) (sym named);
  by_name = by_name;
}
