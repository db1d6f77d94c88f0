-- The bytes that determine a name.
--     ranges_at types bytes entry      the bytes from which the name of an entry is read
use Rattle.std.proofs.Common.{◌≡◌, ℕ, ◌+◌, ◌-◌, ◌*◌, ◌%◌, ◌^◌, ◌≤◌, List, [], ◌∷◌, Option, Some, None, refl, ap, ◌∙◌, arith}
use Rattle.std.specs.Prelude.{◌==◌, nat_le, if◌then◌else◌}
use Rattle.std.specs.List.{AllByRecursion}
use Rattle.seg_spec.specs.Bytes.{IsSame}
use Rattle.seg_spec.specs.Pointer.{target}
use Rattle.seg_spec.specs.Types.{Table, size}
use Rattle.seg_spec.proofs.BytesLaws.{number-slice}
use Rattle.seg_spec.proofs.SliceLaws.{IsSame-part}
use Rattle.seg_rbtree.specs.Parts.{ByteRange, byte_range}
use Rattle.seg_cells.specs.Names.{named_type, type_at, values_at, len_at}
use Rattle.seg_cells.specs.Names.{name_after, name_of, name_at}

-- the bytes of the name itself
abbrev pub ranges_after : Table → ℕ → ℕ → ℕ → Option ℕ → List ByteRange
ranges_after types object count len None = []
ranges_after types object count len (Some T) = byte_range (object + count * size types T) len ∷ []

abbrev pub ranges_of : Table → List ℕ → Option ℕ → ℕ → ℕ → List ByteRange
ranges_of types bytes None count len = []
ranges_of types bytes (Some object) count len =
    byte_range (object - 16 + 8) 4 ∷ ranges_after types object count len (type_at bytes object)

abbrev pub ranges_at : Table → List ℕ → ℕ → List ByteRange
ranges_at types bytes entry = byte_range entry 4 ∷ byte_range (entry + 4) 4
    ∷ ranges_of types bytes (target bytes entry) (values_at bytes entry) (len_at bytes entry)

-- a pointer whose bytes are kept has the same target
target_same : (old new : List ℕ) (at : ℕ) → IsSame old new at 4 → target new at ≡ target old at
unfolding target
target_same old new at e =
    ap (λ w. if w == 1 then None else Some ((at + w) % 2 ^ 32)) (number-slice 4 old new at at e)

-- an object whose tag is kept has the same type
type_same : (old new : List ℕ) (object : ℕ) → IsSame old new (object - 16 + 8) 4
    → type_at new object ≡ type_at old object
unfolding type_at
type_same old new object e =
    let tag = object - 16 + 8 in
    ap (λ w. if nat_le 16 object then named_type w else None) (number-slice 4 old new tag tag e)

module _ (types : Table) (old new : List ℕ) where
  abbrev Same : List ByteRange → Type 0
  Same parts = AllByRecursion (λ p. IsSame old new p.at p.len) parts

  after_same : (object count len : ℕ) (t : Option ℕ) → Same (ranges_after types object count len t)
      → name_after types new object count len t ≡ name_after types old object count len t
  after_same object count len None h = refl
  after_same object count len (Some T) h = h.0

  of_same : (object : Option ℕ) (count len : ℕ) → Same (ranges_of types old object count len)
      → name_of types new object count len ≡ name_of types old object count len
  of_same None count len h = refl
  of_same (Some object) count len h =
      ap (name_after types new object count len) (type_same old new object h.0)
      ∙ after_same object count len (type_at old object) h.1

  -- an entry has the same name if the bytes that determine it are kept
  pub name_same : (entry : ℕ) → Same (ranges_at types old entry)
      → name_at types new entry ≡ name_at types old entry
  name_same entry h =
      let rest = λ (p n : ℕ) (low : entry + 4 ≤ p) (high : p + n ≤ entry + 4 + 4).
      number-slice n old new p p (IsSame-part old new (entry + 4) 4 p n low high h.1.0) in
      let values = rest (entry + 4) 2 (omega arith) (omega arith) in
      let len = rest (entry + 6) 1 (omega arith) (omega arith) in
      let pointer = target_same old new entry h.0 in
      (λ i. name_of types new (pointer i) (values i) (len i))
      ∙ of_same (target old entry) (values_at old entry) (len_at old entry) h.1.1
