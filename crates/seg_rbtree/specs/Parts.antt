-- The bytes that an order reads.
use Rattle.std.specs.Prelude.{ℕ}

-- the `len` bytes from a position on
pub record ByteRange : Type 0 where
  pub at : ℕ
  pub len : ℕ

abbrev pub byte_range : ℕ → ℕ → ByteRange
byte_range at len = record { at = at; len = len }
