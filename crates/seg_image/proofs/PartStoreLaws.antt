-- A write to a place inside a value: the place around it contains the value with that part replaced, and owns the same blocks.
use Rattle.std.proofs.Common.{◌≡◌, ◌≢◌, ℕ, ◌+◌, ◌*◌, ◌≤◌, ◌⊎◌, inl, inr, ℤ, List, [], ◌∷◌, ◌++◌, length, Some, refl, sym, ap, subst, arith}
use Rattle.std.proofs.lemmas.Bool.{cases_eq}
use Rattle.std.specs.List.{AllByRecursion}
use Rattle.seg_spec.specs.Bytes.{signed_long, ChangesOnly}
use Rattle.seg_spec.specs.Types.{Form, Table, form_at, size}
use Rattle.seg_spec.specs.Value.{Value, Int, Selector, with_value_at}
use Rattle.seg_spec.specs.Heap.{units_at, IsHeap, live, heap_start}
use Rattle.seg_spec.specs.Block.{IsInside}
use Rattle.seg_spec.specs.Reads.{Place, Holds, Leads}
use Rattle.seg_spec.specs.Apart.{Separate, RangeApart, BlocksApart, KeepsBlockAround}
use Rattle.seg_spec.specs.Sound.{times, positions}
use Rattle.seg_spec.specs.Roots.{ChangesPlace}
use Rattle.seg_spec.specs.Owning.{Stands}
use Rattle.seg_spec.proofs.Tables.TypeSizeLaws.{size-form}
use Rattle.seg_spec.proofs.Values.OneValueLaws.{Holds-one}
use Rattle.seg_spec.proofs.Values.PartPositionLaws.{in_each, Located}
use Rattle.seg_spec.proofs.Values.PathSplitLaws.{Split, split, join}
use Rattle.seg_spec.proofs.Values.PutLaws.{around_kept}
use Rattle.seg_spec.proofs.Values.PlaceWriteLaws.{home_live, owned_live, owned_other}
use Rattle.seg_spec.proofs.Values.CallPlaceLaws.{Frames}
use Rattle.seg_spec.proofs.Heap.LiveBlockLaws.{OneOrApart, times-other, times-append, there, each_there, LiesIn, live-lie, live-once, live-apart, apart_once}
use Rattle.seg_spec.proofs.Images.RootWriteLaws.{number_held}
use Rattle.seg_value.proofs.Inside.{wrote_heap, wrote_live, wrote_ownable, frames_beside, frames_around}

module _ (allocator : ℕ) (old : List ℕ) (table : Table) (place : Place) (v : Value) (blocks : List ℕ) (s : Stands allocator old table place v blocks)
    (inner : Place) (path : List Selector) (leads : Leads old table place path inner) where
  abbrev n : ℕ
  n = size table inner.type

  pub parts : Split old table place path inner v blocks
  parts = split old table leads s.holds_it

  abbrev rest : List ℕ
  rest = parts.left ++ parts.right

  counts : (h : ℕ) → times h blocks ≡ times h parts.its + times h rest
  counts h =
      let a = ap (times h) parts.blocks_are in
      let b = times-append h parts.left (parts.its ++ parts.right) in
      let c = times-append h parts.its parts.right in
      let d = times-append h parts.left parts.right in
      omega arith

  mine : 1 ≤ times s.home (positions (live old))
  mine = home_live allocator old table place v blocks s

  rest_live : (h : ℕ) → 1 ≤ times h rest → 1 ≤ times h (positions (live old))
  rest_live h some = owned_live allocator old table place v blocks s h (omega (arith, counts h))

  rest_other : (h : ℕ) → 1 ≤ times h rest → h ≢ s.home
  rest_other h some = owned_other allocator old table place v blocks s h (omega (arith, counts h))

  lies : (h : ℕ) → 1 ≤ times h (positions (live old)) → LiesIn old heap_start (length old) h
  lies h some = there (LiesIn old heap_start (length old)) h (positions (live old)) (live-lie old allocator s.heap) some

  pair : (g h : ℕ) → 1 ≤ times g (positions (live old)) → 1 ≤ times h (positions (live old)) → OneOrApart old g h
  pair g h some more = there (OneOrApart old g) h (positions (live old)) (there (λ t. AllByRecursion (OneOrApart old t) (positions (live old))) g (positions (live old)) (live-apart old allocator s.heap) some) more

  -- the blocks around the part don't overlap each other, nor the place
  place_apart : RangeApart old place.at (size table place.type) rest
  place_apart = each_there (λ h. Separate place.at (size table place.type) h (16 * units_at old h)) rest (λ h some. go h (rest_other h some) (pair s.home h mine (rest_live h some)))
    where
      go : (h : ℕ) → h ≢ s.home → OneOrApart old s.home h → Separate place.at (size table place.type) h (16 * units_at old h)
      go h ne (inl e) = absurd (ne e)
      go h ne (inr (inl l)) = inl (omega (arith, s.inside.high))
      go h ne (inr (inr l)) = inr (omega (arith, s.inside.low))

  rest_apart : BlocksApart old rest
  rest_apart = apart_once old rest
      (each_there (λ t. AllByRecursion (OneOrApart old t) rest) rest (λ g some. each_there (OneOrApart old g) rest (λ h more. pair g h (rest_live g some) (rest_live h more))))
      (λ h. omega (arith, counts h, s.owned h, live-once old allocator s.heap h, more h))
    where
      more : (h : ℕ) → times h blocks ≤ times h (s.home ∷ blocks)
      more h = omega arith

  -- a block is the same as itself
  itself : (h : ℕ) → 1 ≤ times h (positions (live old)) → KeepsBlockAround old old inner.at n h
  itself h some = record { solid = omega (arith, (lies h some).size); header = record { live = refl; has_tag = refl; room = omega arith }; payload = λ g m low high apart. refl }

  part_located : Located old place.at (size table place.type) rest inner.at n
  part_located =
      (around_kept old old table s.is_table inner.at n parts.around refl refl (λ g m low high apart. refl)
      (each_there (KeepsBlockAround old old inner.at n) rest (λ h some. itself h (rest_live h some))) place_apart rest_apart).hole

  -- The block in which the part lies. It contains the place, or the place owns it.
  record PartBlock : Type 0 where
    block : ℕ
    inside : IsInside old block inner.at n
    is_live : 1 ≤ times block (positions (live old))
    around_or_owned : ((place.at ≤ inner.at) × (inner.at + n ≤ place.at + size table place.type)) ⊎ (1 ≤ times block blocks)

  part_block : PartBlock
  part_block = by part_located
    where
      owned_each : AllByRecursion (λ h. 1 ≤ times h rest) rest
      owned_each = each_there (λ h. 1 ≤ times h rest) rest (λ h some. some)

      by : Located old place.at (size table place.type) rest inner.at n → PartBlock
      by (inl p) = record { block = s.home; inside = record { low = omega (arith, s.inside.low, p.0); high = omega (arith, s.inside.high, p.1) }; is_live = mine; around_or_owned = inl (p.0, p.1) }
      by (inr p) =
          let some = in_each (λ h. 1 ≤ times h rest) p.0 rest p.1 owned_each in
          record { block = p.0; inside = record { low = p.2.low; high = p.2.high }; is_live = rest_live p.0 some; around_or_owned = inr (omega (arith, counts p.0)) }

  pub part_fits : inner.at + size table inner.type ≤ length old
  part_fits =
      let b = part_block in
      omega (arith, (lies b.block b.is_live).high, b.inside.high)

  module _ (new : List ℕ) (changes : ChangesOnly old new inner.at (size table inner.type)) where
    its_frames : Frames old new inner.at n []
    its_frames = let b = part_block in frames_around allocator old new table b.block inner.at n s.heap changes b.inside b.is_live inner.at n (omega arith) (omega arith)

    live_same : live new ≡ live old
    live_same = let b = part_block in wrote_live allocator old new table b.block inner.at n s.heap changes b.inside b.is_live

    -- each block that the place doesn't own is kept around the place
    place_kept : (h : ℕ) → 1 ≤ times h (positions (live old)) → times h blocks ≡ 0 → KeepsBlockAround old new place.at (size table place.type) h
    place_kept h some none = by part_block.around_or_owned
      where
        by : ((place.at ≤ inner.at) × (inner.at + n ≤ place.at + size table place.type)) ⊎ (1 ≤ times part_block.block blocks) → KeepsBlockAround old new place.at (size table place.type) h
        by (inl p) =
            let b = part_block in
            (frames_around allocator old new table b.block inner.at n s.heap changes b.inside b.is_live place.at (size table place.type) p.0 p.1).kept h some refl
        by (inr owned) =
            let b = part_block in
            (frames_beside allocator old new table b.block inner.at n s.heap changes b.inside b.is_live place.at (size table place.type)).kept h some (away (cases_eq b.block h))
          where
            away : (part_block.block ≡ h) ⊎ (part_block.block ≢ h) → times h (part_block.block ∷ []) ≡ 0
            away (inl e) = let one : 1 ≤ times h blocks = subst (λ x. 1 ≤ times x blocks) e owned in absurd (omega arith)
            away (inr ne) = times-other h part_block.block [] ne

    -- the part contains another value, and owns the same blocks
    pub part_written : (w : Value) → Holds new table inner w parts.its → ChangesPlace old new table place (with_value_at path w v) blocks (live old) blocks blocks
    part_written w is =
        let b = part_block in
        let f = its_frames in
        let around = (around_kept old new table s.is_table inner.at n parts.around refl refl (λ g m low high apart. changes.others g m apart)
        (each_there (KeepsBlockAround old new inner.at n) rest (λ h some. f.kept h (rest_live h some) refl)) place_apart rest_apart).around in
        record {
          length_kept = changes.length_kept;
          front_kept = f.front_kept;
          back_kept = f.back_kept;
          heap = subst (λ a. IsHeap a new) (sym s.allocator_is) (wrote_heap allocator old new table b.block inner.at n s.heap changes b.inside b.is_live);
          ownable = wrote_ownable allocator old new table b.block inner.at n s.heap changes b.inside b.is_live s.ownable;
          holds_it = subst (λ bs. Holds new table place (with_value_at path w v) bs) (sym parts.blocks_are) (join new table around is);
          live_is = live_same;
          live_are = λ h. ap (λ bs. times h (positions bs) + times h blocks) live_same;
          kept = place_kept;
        }

  -- a number was stored in a part that is a number
  pub number_stored : form_at table inner.type ≡ Some Form.i64 → (new : List ℕ) (number : ℤ) → ChangesOnly old new inner.at 8 → (inner.at + 8 ≤ length old → signed_long new inner.at ≡ number)
      → ChangesPlace old new table place (with_value_at path (Int number) v) blocks (live old) blocks blocks
  number_stored is_number new number only stored =
      let eight : size table inner.type ≡ 8 = size-form table s.is_table inner.type Form.i64 is_number in
      let changes : ChangesOnly old new inner.at (size table inner.type) = subst (λ m. ChangesOnly old new inner.at m) (sym eight) only in
      let none : parts.its ≡ [] = (Holds-one old table parts.holds_it (number_held old table inner is_number)).1 in
      let fits : inner.at + 8 ≤ length old = subst (λ m. inner.at + m ≤ length old) eight part_fits in
      let holds_number : Holds new table inner (Int number) [] = subst (λ z. Holds new table inner (Int z) []) (stored fits) (number_held new table inner is_number) in
      part_written new changes (Int number) (subst (λ bs. Holds new table inner (Int number) bs) (sym none) holds_number)
