-- Images with one fault of the content each: the image `counter`, with other bytes.
--     uncounted        the entry counts no values
--     pointless        the entry's pointer is null
--     overfull         the value is an own, and counts two objects
use Rattle.std.specs.Prelude.{ℕ, List}
use Rattle.seg_spec.specs.Bytes.{set_word, set_byte}
use Rattle.seg_spec.specs.Fixtures.{counter}

unfoldable pub uncounted : List ℕ
uncounted = set_word counter 756 65536

unfoldable pub pointless : List ℕ
pointless = set_word counter 752 1

-- the type is own 0, in place of i64
unfoldable pub overfull : List ℕ
overfull = set_word (set_byte (set_byte counter 64 7) 65 1) 724 2
