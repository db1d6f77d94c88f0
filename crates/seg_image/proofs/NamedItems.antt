-- The values of a named object lie in the image.
use Rattle.std.proofs.Common.{◌≡◌, ℕ, ◌+◌, ◌*◌, ◌^◌, ◌<◌, ◌≤◌, Bool, true, false, List, Option, Some, None, Ok, Err, refl, sym, subst, arith}
use Rattle.std.specs.Prelude.{◌==◌, nat_lt, if◌then◌else◌, length}
use Rattle.std.proofs.lemmas.Bool.{eqb-true}
use Rattle.std.proofs.lemmas.Bool.Decides.{nat_tests}
use Rattle.std.proofs.Math.Nat.{mul-le-mul_right}
use Rattle.seg_spec.specs.Block.{block_of}
use Rattle.seg_spec.specs.Heap.{heap_start, live}
use Rattle.seg_spec.specs.Index.{Root, root_named}
use Rattle.seg_spec.specs.Sound.{Picture, positions}
use Rattle.seg_spec.specs.Types.{Table, size}
use Rattle.seg_spec.specs.Value.{count}
use Rattle.seg_spec.proofs.Heap.LiveBlockLaws.{LiesIn, there, live-lie}
use Rattle.seg_value.specs.Stored.{Stored}
use Rattle.seg_raw.specs.declared.code.Code.TheVariants as code
use Rattle.seg_manager.specs.declared.names.Found.{Found}
use Rattle.seg_manager.specs.NamedObjects.{found_as, found_of}
use Rattle.seg_manager.specs.Segments.{IsSegment}
use Rattle.seg_image.specs.Places.{item_place}
use Rattle.seg_manager.proofs.NamedReads.{names_found, listed_named}

module _ (allocator : ℕ) (s : Stored) (picture : Picture) (is : IsSegment allocator s picture) where
  value_fits : (name : List ℕ) (root : Root) → root_named picture.names name ≡ Some root → (i : ℕ) → i < count root.values → root.at + i * size s.types root.type ≤ 2 ^ 30
  value_fits name root named i below =
      let n = (listed_named allocator s picture is name root named).0 in
      let heap = (names_found allocator s picture is).heap in
      let lies = there (LiesIn s.window.bytes heap_start (length s.window.bytes)) (block_of root.at) (positions (live s.window.bytes)) (live-lie s.window.bytes allocator heap) n.is_live in
      let header = is.held.laid_out.header in
      let no_more : i ≤ count root.values = omega arith in
      let before = mul-le-mul_right (size s.types root.type) no_more in
      omega (arith, n.block.room, n.block.after_header, lies.high, lies.size, header.not_large)

  -- the position of the value at an index doesn't overflow
  pub item_fits : (name : List ℕ) (T : ℕ) (found : Found) → Ok found ≡ found_as T (root_named picture.names name) → (i : ℕ) → i < found.count → found.at + i * size s.types T ≤ 2 ^ 30
  item_fits name T found e i below = go (root_named picture.names name) refl e
    where
      typed : (root : Root) → root_named picture.names name ≡ Some root → (b : Bool) → (root.type == T) ≡ b → Ok found ≡ (if b then Ok (found_of root) else Err code.OtherType) → found.at + i * size s.types T ≤ 2 ^ 30
      typed root named true type_is e =
          let found_is : found ≡ found_of root = cc in
          let same = eqb-true root.type T type_is in
          let few : i < count root.values = subst (λ (f : Found). i < f.count) found_is below in
          subst (λ (f : Found). f.at + i * size s.types T ≤ 2 ^ 30) (sym found_is) (subst (λ t. root.at + i * size s.types t ≤ 2 ^ 30) same (value_fits name root named i few))
      typed root named false type_is e = absurd (let both : Ok found ≡ Err code.OtherType = e in cc)

      go : (o : Option Root) → root_named picture.names name ≡ o → Ok found ≡ found_as T o → found.at + i * size s.types T ≤ 2 ^ 30
      go None named e = absurd (let both : Ok found ≡ Err code.Absent = e in cc)
      go (Some root) named e = typed root named (root.type == T) refl e

-- the place of the value at an index
pub item_place_is : (table : Table) (T i : ℕ) (found : Found) (at : ℕ) → i < found.count → at ≡ found.at + i * size table T → Ok (record { at = at; type_id = T }) ≡ item_place table T i (Ok found)
item_place_is table T i found at below e =
    let on : nat_lt i found.count ≡ true = grind (arith, nat_tests) in
    rw (on, e)
