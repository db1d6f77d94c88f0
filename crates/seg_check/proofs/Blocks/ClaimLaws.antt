-- The facts about a claim that follow from the marks.
use Rattle.std.proofs.Common.{◌≡◌, ◌≢◌, ℕ, ◌+◌, ◌^◌, ◌<◌, ◌≤◌, inl, inr, ◌*◌, Bool, true, false, List, [], ◌∷◌, length, get_or, Option, Some, None, sym, ap, ◌∙◌, subst, arith}
use Rattle.std.specs.Prelude.{◌↔◌}
use Rattle.seg_spec.specs.Bytes.{word}
use Rattle.seg_spec.specs.Pointer.{target}
use Rattle.seg_spec.specs.Heap.{heap_start, tag_at, units_at}
use Rattle.seg_spec.specs.Block.{block_of, IsBlock}
use Rattle.seg_spec.specs.Sound.{times}
use Rattle.seg_spec.proofs.Heap.LiveBlockLaws.{times-same}
use Rattle.seg_check.specs.Marks.{Known, AreBlocksCounted, IsMarked, ClaimsAll}
use Rattle.seg_check.specs.declared.marks.Mark.TheVariants.{Live, Named}
use Rattle.seg_check.specs.Naming.{frozen_number_at, slot_of, left_at, one_less, standing_at, IsNameable, ClaimsFrozen, NamesBlock}
use Rattle.seg_check.specs.Claiming.{HaveLiveHeaders, HasLiveHeader, HasPayload, CanClaim, PointsAmong, ClaimsBlock}

-- a block that was claimed before can't be claimed
pub claimed_before : (bytes : List ℕ) (known : Known) (pointer tag size start : ℕ) → target bytes pointer ≡ Some start → times (block_of start) known.unclaimed ≡ 0 → CanClaim bytes known pointer tag size → ⊥
claimed_before bytes known pointer tag size start names none can =
    let same : can.start ≡ start = cc (can.names, names) in
    let some : 1 ≤ times (block_of start) known.unclaimed = subst (λ s. 1 ≤ times (block_of s) known.unclaimed) same can.unclaimed in
    omega arith

-- a block without the tag or the room can't be claimed
pub claimed_elsewhere : (bytes : List ℕ) (known : Known) (pointer tag size start block has : ℕ) (fits : Bool) → HaveLiveHeaders bytes known.unclaimed → target bytes pointer ≡ Some start → block ≡ block_of start → has ≡ tag → fits ≡ false
    → (block + 16 ≤ length bytes → (fits ≡ true) ↔ HasPayload bytes block has size) → CanClaim bytes known pointer tag size → ⊥
claimed_elsewhere bytes known pointer tag size start block has fits live names at_is tag_is wrong reads can =
    let same : can.start ≡ start = cc (can.names, names) in
    let lies = live (block_of start) (subst (λ s. 1 ≤ times (block_of s) known.unclaimed) same can.unclaimed) in
    let inside = lies.inside in
    let large = lies.size in
    let here = subst (λ s. IsBlock bytes s tag size) same can.is_block in
    let room = here.room in
    let high = here.after_header in
    let right : fits ≡ true = (reads (omega arith)).1 (record { tag_is = ap (tag_at bytes) at_is ∙ here.has_tag ∙ sym tag_is; fits = subst (λ b. size + 16 ≤ 16 * units_at bytes b) (sym at_is) (omega arith) }) in
    cc

-- a pointer to no allocated block
pub points_elsewhere : (bytes blocks : List ℕ) (pointer tag size start : ℕ) → target bytes pointer ≡ Some start → times (block_of start) blocks ≡ 0 → PointsAmong bytes blocks pointer tag size → ⊥
points_elsewhere bytes blocks pointer tag size start names none points =
    let same : points.start ≡ start = cc (points.names, names) in
    let some : 1 ≤ times (block_of start) blocks = subst (λ s. 1 ≤ times (block_of s) blocks) same points.among in
    omega arith

-- a pointer to a block without the tag or the room
pub points_wrongly : (bytes blocks : List ℕ) (pointer tag size start block has : ℕ) (fits : Bool) → HaveLiveHeaders bytes blocks → target bytes pointer ≡ Some start → block ≡ block_of start → has ≡ tag → fits ≡ false
    → (block + 16 ≤ length bytes → (fits ≡ true) ↔ HasPayload bytes block has size) → PointsAmong bytes blocks pointer tag size → ⊥
points_wrongly bytes blocks pointer tag size start block has fits live names at_is tag_is wrong reads points =
    let same : points.start ≡ start = cc (points.names, names) in
    let lies = live (block_of start) (subst (λ s. 1 ≤ times (block_of s) blocks) same points.among) in
    let inside = lies.inside in
    let large = lies.size in
    let here = subst (λ s. IsBlock bytes s tag size) same points.is_block in
    let room = here.room in
    let high = here.after_header in
    let right : fits ≡ true = (reads (omega arith)).1 (record { tag_is = ap (tag_at bytes) at_is ∙ here.has_tag ∙ sym tag_is; fits = subst (λ b. size + 16 ≤ 16 * units_at bytes b) (sym at_is) (omega arith) }) in
    cc

-- a claimed block is allocated, and its header lies in the segment
pub claims_live : (bytes : List ℕ) (old new : Known) (block : ℕ) → HaveLiveHeaders bytes old.unclaimed → ClaimsAll old new (block ∷ []) [] → HasLiveHeader bytes block
claims_live bytes old new block live c = live block (omega (arith, c.claimed block, times-same block new.unclaimed))

pub claims_block : (bytes : List ℕ) (old new : Known) (pointer tag size start : ℕ) → HaveLiveHeaders bytes old.unclaimed → target bytes pointer ≡ Some start → 16 ≤ start → ClaimsAll old new (block_of start ∷ []) []
    → (block_of start + 16 ≤ length bytes → HasPayload bytes (block_of start) tag size) → ClaimsBlock bytes old new pointer tag size [] start
claims_block bytes old new pointer tag size start live names high c reads =
    let lies = claims_live bytes old new (block_of start) live c in
    let inside = lies.inside in
    let large = lies.size in
    let read = reads (omega arith) in
    let fits = read.fits in
    record { names = names; is_block = record { after_header = high; live = lies.live; has_tag = read.tag_is; room = omega arith }; claims = c }

-- ---- the object to which a cell points

pub named_there : (bytes : List ℕ) (start tag size : ℕ) → 16 ≤ start → HasLiveHeader bytes (block_of start) → (block_of start + 16 ≤ length bytes → HasPayload bytes (block_of start) tag size) → IsBlock bytes start tag size
named_there bytes start tag size high lies reads =
    let inside = lies.inside in
    let large = lies.size in
    let read = reads (omega arith) in
    let fits = read.fits in
    record { after_header = high; live = lies.live; has_tag = read.tag_is; room = omega arith }

module _ (bytes : List ℕ) (old new : Known) (cell tag size start : ℕ) (nameable : IsNameable bytes old) (names : target bytes cell ≡ Some start)
    (reads : block_of start + 16 ≤ length bytes → HasPayload bytes (block_of start) tag size) (some : 1 ≤ standing_at old (block_of start)) where
  pub is_block : IsBlock bytes start tag size
  is_block = named_there bytes start tag size (let low = nameable.low (block_of start) some in omega arith) (nameable.live (block_of start) some) reads

  pub low_block : (block : ℕ) → block ≡ block_of start → heap_start ≤ block
  low_block block same = omega (arith, nameable.low (block_of start) some)

  pub has_slot : (block : ℕ) → block ≡ block_of start → (counts : List (Option ℕ)) → length counts ≡ length old.naming.counts → slot_of block < length counts
  has_slot block same counts long =
      let lies = nameable.live (block_of start) some in
      let low = nameable.low (block_of start) some in
      let inside = lies.inside in
      let large = lies.size in
      let slots = nameable.slots in
      omega arith

  pub near : start + 4 < 2 ^ 32
  near =
      let lies = nameable.live (block_of start) some in
      let inside = lies.inside in
      let large = lies.size in
      let small = nameable.small in
      omega arith

module _ (bytes : List ℕ) (old mid new : Known) (pointer tag size start : ℕ) (left : Option ℕ) (names : target bytes pointer ≡ Some start) (is_block : IsBlock bytes start tag size)
    (kept : new ≡ record mid { naming = record mid.naming { counts = new.naming.counts } }) (own : left_at new (block_of start) ≡ one_less left)
    (others : (h : ℕ) → slot_of h ≢ slot_of (block_of start) → left_at new h ≡ left_at mid h) (slots : length new.naming.counts ≡ length mid.naming.counts) where
  counted_then : AreBlocksCounted mid → AreBlocksCounted new
  counted_then c = record {
    unclaimed = ap (λ (k : Known). k.unclaimed_count) kept ∙ c.unclaimed ∙ sym (ap (λ (k : Known). length k.unclaimed) kept);
    free = ap (λ (k : Known). k.free_count) kept ∙ c.free ∙ sym (ap (λ (k : Known). length k.free) kept);
  }

  unclaimed_then : (h : ℕ) → times h new.unclaimed ≡ times h mid.unclaimed
  unclaimed_then h = ap (λ (k : Known). times h k.unclaimed) kept

  named_then : (h : ℕ) → times h new.naming.named ≡ times h mid.naming.named
  named_then h = ap (λ (k : Known). times h k.naming.named) kept

  pub names_first : IsMarked old (block_of start) Live → ClaimsFrozen old mid (block_of start) (record { turn = record { start = start; count = 1 }; below = Some (frozen_number_at bytes start) }) → left ≡ Some (word bytes start)
      → NamesBlock bytes old new pointer tag size start
  names_first was c left_is = record {
    names = names;
    is_block = is_block;
    there = omega (arith, was.unclaimed);
    changes = inl (record {
      was_unclaimed = was.unclaimed;
      now_claimed = unclaimed_then (block_of start) ∙ c.now_claimed;
      was_unnamed = was.named;
      turns_are = ap (λ (k : Known). k.turns) kept ∙ c.turns_are;
      left = own ∙ ap one_less left_is;
    });
    named = named_then (block_of start) ∙ c.now_named;
    unclaimed_others = λ h other. unclaimed_then h ∙ c.unclaimed_others h other;
    named_others = λ h other. named_then h ∙ c.named_others h other;
    allocated_kept = λ h. ap (λ (k : Known). times h k.allocated) kept ∙ c.allocated_kept h;
    left_others = λ h other. others h other ∙ ap (λ counts. get_or counts (slot_of h) None) c.counts_kept;
    counted = λ k. counted_then (c.counted k);
    below_kept = ap (λ (k : Known). k.naming.below) kept ∙ c.below_kept;
    slots_kept = slots ∙ ap length c.counts_kept;
  }

  pub names_again : IsMarked old (block_of start) Named → mid ≡ old → left ≡ left_at old (block_of start) → NamesBlock bytes old new pointer tag size start
  names_again was same left_is = record {
    names = names;
    is_block = is_block;
    there = omega (arith, was.named);
    changes = inr (record {
      unclaimed_kept = ap (λ (k : Known). k.unclaimed) kept ∙ ap (λ (k : Known). k.unclaimed) same;
      was_named = was.named;
      turns_kept = ap (λ (k : Known). k.turns) kept ∙ ap (λ (k : Known). k.turns) same;
      left = own ∙ ap one_less left_is;
    });
    named = named_then (block_of start) ∙ ap (λ (k : Known). times (block_of start) k.naming.named) same ∙ was.named;
    unclaimed_others = λ h other. unclaimed_then h ∙ ap (λ (k : Known). times h k.unclaimed) same;
    named_others = λ h other. named_then h ∙ ap (λ (k : Known). times h k.naming.named) same;
    allocated_kept = λ h. ap (λ (k : Known). times h k.allocated) kept ∙ ap (λ (k : Known). times h k.allocated) same;
    left_others = λ h other. others h other ∙ ap (λ (k : Known). left_at k h) same;
    counted = λ k. counted_then (subst AreBlocksCounted (sym same) k);
    below_kept = ap (λ (k : Known). k.naming.below) kept ∙ ap (λ (k : Known). k.naming.below) same;
    slots_kept = slots ∙ ap (λ (k : Known). length k.naming.counts) same;
  }
