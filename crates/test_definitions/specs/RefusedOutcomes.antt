-- Outcomes of one client: an image that no outcome of the increment leaves, and two clients that
-- print something only if they fail.
--     IsOutcomeOf client image left   an outcome of one client, at base 0 of a region of 2048 bytes
--     exchanged    x is 42, and x and the index are in each other's blocks
--     add_a_byte   adds a byte to the text s, and prints the code if this fails
--     make_y       makes a number named y, and prints the code if this fails
use Rattle.std.specs.Prelude.{ℕ, pos, List, [], ◌∷◌, ◌++◌, replicate, codes}
use Rattle.seg_spec.specs.Bytes.{spelling}
use Rattle.seg_spec.specs.Types.{Form}
use Rattle.seg_spec.specs.Fixtures.{words, one_type, live_header}
use Rattle.client_spec.specs.declared.table.Operation.{Operation}
use Rattle.client_spec.specs.Syntax.{Constant, opener, no_more, next, Client}
use Rattle.client_spec.specs.Grammar.{client_bytes}
use Rattle.client_spec.specs.OnImages.{Left}
use Rattle.client_spec.specs.Outcome.{IsOutcome}
use Rattle.client_spec.specs.Fixtures.{at, do_one}

abbrev pub IsOutcomeOf : Client → List ℕ → Left → Type 0
IsOutcomeOf client image left = IsOutcome image (client_bytes client ∷ []) [] 2048 0 [] (left ∷ [])

unfoldable pub exchanged : List ℕ
exchanged =
    codes "SEGIMAGE"
    ++ (words (2 ∷ 49 ∷ 0 ∷ 0 ∷ 1 ∷ 0 ∷ 688 ∷ 1 ∷ []) ++ replicate 24 0)
    ++ one_type 1
    ++ live_header 2 0 5
    ++ words (32 ∷ [])
    ++ (1 ∷ 0 ∷ 1 ∷ 0 ∷ replicate 8 0)
    ++ live_header 3 2 1
    ++ spelling 8 42
    ++ (codes "x" ++ replicate 23 0)

abbrev pub add_a_byte : Client
add_a_byte = record {
  types = Form.str ∷ [];
  constants = Constant.Name (codes "s") ∷ [];
  code = do_one Operation.Const 1 0 0 (pos 33)
      (next (opener (at Operation.Find 0 16 16 (pos 0))
      (next (opener (at Operation.AddByte 2 0 1 (pos 0))
      no_more
      (do_one Operation.OutInt 0 2 0 (pos 0) no_more)) no_more)
      no_more) no_more);
}

abbrev pub make_y : Client
make_y = record {
  types = Form.i64 ∷ [];
  constants = Constant.Name (codes "y") ∷ [];
  code = next (opener (at Operation.Make 0 16 16 (pos 0))
      no_more
      (do_one Operation.OutInt 0 0 0 (pos 0) no_more)) no_more;
}
