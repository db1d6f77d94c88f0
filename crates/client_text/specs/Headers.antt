-- The bytes of a client file's header: magic, version, and the numbers of types, constants and
-- instructions.
use Rattle.std.specs.Prelude.{ℕ, List, ◌++◌, codes}
use Rattle.client_spec.specs.Grammar.{word_bytes}

abbrev pub header_bytes : ℕ → ℕ → ℕ → ℕ → List ℕ
header_bytes version types constants instructions =
    codes "SEGC" ++ word_bytes version
    ++ word_bytes types ++ word_bytes constants ++ word_bytes instructions
