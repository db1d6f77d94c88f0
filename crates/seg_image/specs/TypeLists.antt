-- Types in the order of their ids.
--     entries_of types     the bytes of their table
use Rattle.std.specs.Prelude.{ℕ, List, map, flat_map}
use Rattle.seg_spec.specs.Types.{padded, form_bytes}
use Rattle.seg_spec.specs.Header.{types_size}
use Rattle.seg_layout.specs.Forms.{form_of}
use Rattle.seg_layout.specs.declared.kind.«Type».{«Type»}

abbrev pub entries_of : List «Type» → List ℕ
entries_of types = padded types_size (flat_map form_bytes (map form_of types))
