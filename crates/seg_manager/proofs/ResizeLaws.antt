-- A segment whose heap has another end still contains its picture.
use Rattle.std.proofs.Common.{◌≡◌, ◌≢◌, ℕ, suc, ◌+◌, ◌-◌, ◌*◌, ◌/◌, ◌%◌, ◌<◌, ◌≤◌, ◌⊎◌, inl, inr, ◌&&◌, true, false, eqb, List, [], ◌∷◌, ◌++◌, length, replicate, take, drop, cond, refl, sym, ap, ◌∙◌, subst, arith}
use Rattle.std.specs.Prelude.{Contains, slice_index_or}
use Rattle.std.specs.List.{AllByRecursion}
use Rattle.std.proofs.lemmas.Bool.{cases_eq, cases_lt}
use Rattle.std.proofs.lemmas.Bool.Decides.{nat_tests}
use Rattle.std.proofs.lemmas.List.{length-take, length-drop, length-append, append_assoc, take_all, same_lists, places}
use Rattle.seg_spec.specs.Bytes.{word, slice, put, IsSame, Agrees}
use Rattle.seg_spec.specs.Header.{version_word, allocator_word, units_word, index_kind_word, free_word, next_word, index_cell, back_start, back_size, reserved, reserved_size}
use Rattle.seg_spec.specs.Header.{types_start, types_size, uniques_start, uniques_size, heap_start, min_length}
use Rattle.seg_spec.specs.Types.{Table}
use Rattle.seg_spec.specs.Heap.{Span, Tile, end_of, units_at, is_live_at, tag_at, link_at, tiles, Fill, IsHeap, live, gaps, without_end, after_extend, units_to_cut, Extends, Cuts}
use Rattle.seg_spec.specs.Block.{IsOwnable, KeepsBlock, payload_size}
use Rattle.seg_spec.specs.Faulty.{IsImageLength}
use Rattle.seg_spec.specs.Sound.{Picture, HasHeader, IsHeld, times, positions}
use Rattle.seg_spec.proofs.BytesLaws.{slice-agrees, length-put, take-put}
use Rattle.seg_spec.proofs.Values.PlaceFrameLaws.{word-same, target-same, each_weaker, each_both}
use Rattle.seg_spec.proofs.Heap.GapOrderLaws.{gaps-free}
use Rattle.seg_spec.proofs.Heap.TileLaws.{Fill-le}
use Rattle.seg_spec.proofs.Heap.KeptBlockLaws.{StatesSpan, live_stated}
use Rattle.seg_spec.proofs.Heap.LiveBlockLaws.{there, each_there, times-append}
use Rattle.seg_spec.proofs.Images.RootFrameLaws.{HoldsRoots-kept, ListsNames-kept, ListsUniques-kept}
use Rattle.seg_spec.proofs.SliceLaws.{IsSame-part, slice-slice, region-placed}
use Rattle.seg_spec.specs.Window.{Placement, region_of, with_bytes}
use Rattle.seg_value.specs.Stored.{Stored}
use Rattle.seg_manager.specs.Segments.{IsSegment}
use Rattle.seg_manager.specs.Sizes.{used_front, KeepsFixedParts, Grows, ShrinksSegment}
use Rattle.seg_manager.proofs.ZeroedGaps.{free_before}
use Rattle.seg_spec.proofs.Frozen.KeptCountLaws.{counted_still}

-- ---- the front of longer bytes

pub slice_front : (bytes : List ℕ) (len p n : ℕ) → p + n ≤ len → slice (take len bytes) p n ≡ slice bytes p n
unfolding slice
slice_front bytes len p n fits = slice-slice bytes 0 len p n fits ∙ ap (λ q. slice bytes q n) (let from : 0 + p ≡ p = omega arith in from)

-- ---- blocks that are no smaller

-- each block has the same position, and is no smaller
abbrev NoSmaller : List Span → List Span → Type 0
NoSmaller [] [] = Rattle.std.specs.Prelude.⊤
NoSmaller [] (c ∷ cs) = ⊥
NoSmaller (b ∷ bs) [] = ⊥
NoSmaller (b ∷ bs) (c ∷ cs) = (c.at ≡ b.at) × (b.units ≤ c.units) × NoSmaller bs cs

no_smaller_same : (bs : List Span) → NoSmaller bs bs
no_smaller_same [] = tt
no_smaller_same (b ∷ bs) = (refl, omega arith, no_smaller_same bs)

no_smaller_extended : (bs : List Span) (end n : ℕ) → NoSmaller bs (after_extend bs end n)
no_smaller_extended [] end n = tt
no_smaller_extended (b ∷ bs) end n =
    let rest = no_smaller_extended bs end n in
    elim ((eqb n 1) && (eqb (end_of b) end)) as (λ t. NoSmaller (b ∷ bs) ((cond t (record { at = b.at; units = b.units + 1 }) b) ∷ after_extend bs end n)) [
      | true ↦ (refl, omega arith, rest)
      | false ↦ (refl, omega arith, rest)
    ]

same_positions : (bs cs : List Span) → NoSmaller bs cs → positions cs ≡ positions bs
same_positions [] [] h = refl
same_positions [] (c ∷ cs) h = absurd h
same_positions (b ∷ bs) [] h = absurd h
same_positions (b ∷ bs) (c ∷ cs) h = ap (λ p. p ∷ positions cs) h.0 ∙ ap (λ ps. b.at ∷ ps) (same_positions bs cs h.2)

each_pair : (P Q R : Span → Type 0) → ((b c : Span) → c.at ≡ b.at → b.units ≤ c.units → P b → Q c → R b) → (bs cs : List Span) → NoSmaller bs cs → AllByRecursion P bs → AllByRecursion Q cs → AllByRecursion R bs
each_pair P Q R f [] [] h p q = tt
each_pair P Q R f [] (c ∷ cs) h p q = absurd h
each_pair P Q R f (b ∷ bs) [] h p q = absurd h
each_pair P Q R f (b ∷ bs) (c ∷ cs) h p q = (f b c h.0 h.1 p.0 q.0, each_pair P Q R f bs cs h.2 p.1 q.1)

each_of : (P : Span → Type 0) (bs : List Span) → ((b : Span) → Contains bs b → P b) → AllByRecursion P bs
each_of P [] f = tt
each_of P (b ∷ bs) f = (f b (0, omega arith, refl), each_of P bs (λ c h. f c (suc h.0, omega (arith, h.1), h.2)))

-- ---- the picture

-- the new bytes have the header, the index's cell, the tables and the allocated blocks of the old
-- ones, and a well-formed heap
pub record Resized (old new : List ℕ) : Type 0 where
  pub long : IsImageLength (length new)
  pub front : IsSame old new 0 units_word
  pub units_is : 16 * word new units_word ≡ length new
  pub words : IsSame old new allocator_word 8
  pub back : IsSame old new back_start back_size
  pub heap : IsHeap (word old allocator_word) new
  pub no_smaller : NoSmaller (live old) (live new)
  pub kept : AllByRecursion (λ b. (p n : ℕ) → b.at + 8 ≤ p → p + n ≤ end_of b → IsSame old new p n) (live old)

pub fixed_parts : (old new : List ℕ) → Resized old new → KeepsFixedParts old new
fixed_parts old new r = record { front_kept = r.front; words_kept = r.words; back_kept = r.back }

module _ (old new : List ℕ) (picture : Picture) (held : IsHeld old picture) (r : Resized old new) where
  record BlockSame (b : Span) : Type 0 where
    block : KeepsBlock old new b.at
    tag : tag_at new b.at ≡ tag_at old b.at
    link : link_at new b.at ≡ link_at old b.at

  block_same : (b c : Span) → c.at ≡ b.at → b.units ≤ c.units → StatesSpan old (length old) b × ((p n : ℕ) → b.at + 8 ≤ p → p + n ≤ end_of b → IsSame old new p n) → StatesSpan new (length new) c → BlockSame b
  block_same b c at_is more p q =
      let units_old = p.0.units_is in
      let size = p.0.size in
      let units_new : units_at new b.at ≡ c.units = ap (units_at new) (sym at_is) ∙ q.units_is in
      let live_new : is_live_at new b.at ≡ true = ap (is_live_at new) (sym at_is) ∙ q.live_is in
      let tag_same : tag_at new b.at ≡ tag_at old b.at = word-same old new (b.at + 8) (p.1 (b.at + 8) 4 (omega arith) (omega arith)) in
      record {
        block = record {
          live = live_new ∙ sym p.0.live_is;
          has_tag = tag_same;
          room = omega arith;
          payload = p.1 (b.at + 16) (payload_size old b.at) (omega arith) (omega arith);
        };
        tag = tag_same;
        link = target-same old new (b.at + 12) (p.1 (b.at + 12) 4 (omega arith) (omega arith));
      }

  all_same : AllByRecursion BlockSame (live old)
  all_same = each_pair (λ b. StatesSpan old (length old) b × ((p n : ℕ) → b.at + 8 ≤ p → p + n ≤ end_of b → IsSame old new p n)) (StatesSpan new (length new)) BlockSame block_same (live old) (live new) r.no_smaller
      (each_both _ _ (λ b. StatesSpan old (length old) b × ((p n : ℕ) → b.at + 8 ≤ p → p + n ≤ end_of b → IsSame old new p n)) (λ b s k. (s, k)) (live old) (live_stated old (word old allocator_word) held.laid_out.heap) r.kept)
      (live_stated new (word old allocator_word) r.heap)

  on_positions : (P : ℕ → Type 0) (bs : List Span) → AllByRecursion (λ b. P b.at) bs → AllByRecursion P (positions bs)
  on_positions P [] a = tt
  on_positions P (b ∷ bs) a = (a.0, on_positions P bs a.1)

  from_positions : (P : ℕ → Type 0) (bs : List Span) → AllByRecursion P (positions bs) → AllByRecursion (λ b. P b.at) bs
  from_positions P [] a = tt
  from_positions P (b ∷ bs) a = (a.0, from_positions P bs a.1)

  pub live_at : positions (live new) ≡ positions (live old)
  live_at = same_positions (live old) (live new) r.no_smaller

  blocks : AllByRecursion (KeepsBlock old new) (positions (live old))
  blocks = on_positions (KeepsBlock old new) (live old) (each_weaker BlockSame (λ b. KeepsBlock old new b.at) (λ b s. s.block) (live old) all_same)

  pub kept_block : (h : ℕ) → 1 ≤ times h (positions (live old)) → KeepsBlock old new h
  kept_block h some = there (KeepsBlock old new) h (positions (live old)) blocks some

  stay : (xs : List ℕ) → ((h : ℕ) → 1 ≤ times h xs → 1 ≤ times h (positions (live old))) → AllByRecursion (KeepsBlock old new) xs
  stay xs f = each_there (KeepsBlock old new) xs (λ h some. kept_block h (f h some))

  ownable : AllByRecursion (λ b. IsOwnable new picture.table b.at) (live new)
  ownable = from_positions (IsOwnable new picture.table) (live new) (subst (AllByRecursion (IsOwnable new picture.table)) (sym live_at) (on_positions (IsOwnable new picture.table) (live old)
      (each_both BlockSame (λ b. IsOwnable old picture.table b.at) (λ b. IsOwnable new picture.table b.at) (λ b s o. record { kind = o.kind; type = o.type; allowed = o.allowed; tag_is = s.tag ∙ o.tag_is; link_is = s.link ∙ o.link_is })
      (live old) all_same held.laid_out.blocks)))

  low : (p n : ℕ) → p + n ≤ units_word → IsSame old new p n
  low p n l = IsSame-part old new 0 units_word p n (omega arith) l r.front

  high : (p n : ℕ) → back_start ≤ p → p + n ≤ heap_start → IsSame old new p n
  high p n l h = IsSame-part old new back_start back_size p n l (omega arith) r.back

  middle : (p n : ℕ) → allocator_word ≤ p → p + n ≤ free_word → IsSame old new p n
  middle p n l h = IsSame-part old new allocator_word 8 p n l (omega arith) r.words

  pub allocator_then : word new allocator_word ≡ word old allocator_word
  allocator_then = word-same old new allocator_word (middle allocator_word 4 (omega arith) (omega arith))

  version_then : word new version_word ≡ word old version_word
  version_then = word-same old new version_word (low version_word 4 (omega arith))

  pub next_then : word new next_word ≡ word old next_word
  next_then = word-same old new next_word (high next_word 4 (omega arith) (omega arith))

  header : HasHeader new
  header =
      let o = held.laid_out.header in
      let kind_then : word new index_kind_word ≡ word old index_kind_word = word-same old new index_kind_word (middle index_kind_word 4 (omega arith) (omega arith)) in
      record {
        not_small = r.long.not_small;
        not_large = r.long.not_large;
        whole_units = r.long.whole_units;
        magic = low 0 8 (omega arith) ∙ o.magic;
        version = rw (version_then, next_then) o.version;
        units_are = r.units_is;
        allocator_is = rw allocator_then o.allocator_is;
        index_is = rw kind_then o.index_is;
        zeros = high reserved reserved_size (omega arith) (omega arith) ∙ o.zeros;
      }

  pub resized_held : IsHeld new picture
  resized_held =
      let l = held.laid_out in
      record {
        index_blocks = held.index_blocks;
        laid_out = record {
          header = header;
          types = high types_start types_size (omega arith) (omega arith) ∙ l.types;
          is_table = l.is_table;
          of_version = rw version_then l.of_version;
          heap = rw allocator_then r.heap;
          blocks = ownable;
          names = ListsNames-kept old new picture.names held.index_blocks (middle index_kind_word 4 (omega arith) (omega arith)) (high index_cell 8 (omega arith) (omega arith))
              (stay held.index_blocks (λ h some. omega (arith, held.owners h, times-append h held.index_blocks held.root_blocks))) l.names;
          uniques = ListsUniques-kept old new picture.uniques (high uniques_start uniques_size (omega arith) (omega arith)) l.uniques;
          plain = l.plain;
        };
        root_blocks = held.root_blocks;
        roots = HoldsRoots-kept old new picture.table l.is_table held.roots (stay held.root_blocks (λ h some. omega (arith, held.owners h, times-append h held.index_blocks held.root_blocks)));
        owners = λ h. ap (times h) live_at ∙ held.owners h;
      }

-- ---- more units at the end

pub extended : (old filled new : List ℕ) (n : ℕ) (picture : Picture) → IsHeld old picture → without_end filled n ≡ old → length filled ≡ length old + 16 * n → IsImageLength (length filled)
    → Extends (word old allocator_word) filled new n → Resized old new
extended old filled new n picture held front_is long sized e =
    let small = held.laid_out.header.not_small in
    let whole : length filled - 16 * n ≡ length old = omega arith in
    let from_old : (p m : ℕ) → p + m ≤ length old → IsSame old filled p m =
    λ p m l. sym (slice_front filled (length filled - 16 * n) p m (omega arith)) ∙ ap (λ b. slice b p m) front_is in
    let new_long : length new ≡ length filled = e.length_kept in
    let part : (from to : ℕ) → Agrees filled new from to → to ≤ length old → (p m : ℕ) → from ≤ p → p + m ≤ to → IsSame old new p m =
    λ from to a fits p m l h. slice-agrees filled new from to p m a l h (omega arith) ∙ from_old p m (omega arith) in
    record {
      long = rw new_long sized;
      front = part 0 units_word e.front_kept (omega arith) 0 units_word (omega arith) (omega arith);
      units_is = let w = e.size_is in let even = sized.whole_units in omega arith;
      words = part (units_word + 4) free_word e.words_kept (omega arith) allocator_word 8 (omega arith) (omega arith);
      back = part back_start heap_start e.back_kept (omega arith) back_start back_size (omega arith) (omega arith);
      heap = e.heap;
      no_smaller = subst (λ b. NoSmaller (live b) (live new)) front_is (subst (λ bs. NoSmaller (live (without_end filled n)) bs) (sym e.extends) (no_smaller_extended (live (without_end filled n)) (length filled - 16 * n) n));
      kept = each_both (StatesSpan old (length old)) (λ b. Contains (live old) b) _ (λ b s c. λ p m l h. part (b.at + 8) (end_of b) (e.blocks_kept b (subst (λ x. Contains (live x) b) (sym front_is) c)) s.high p m l h)
          (live old) (live_stated old (word old allocator_word) held.laid_out.heap) (each_of (λ b. Contains (live old) b) (live old) (λ b c. c));
    }

-- ---- the region around the segment

drop_twice : (xs : List ℕ) (a b : ℕ) → drop b (drop a xs) ≡ drop (a + b) xs
drop_twice xs a b = same_lists _ _ (simp (length-drop) (omega arith)) (λ k d l. grind (arith, places))

its_bytes : (r : Placement) → slice (region_of r) (length r.before) (length r.bytes) ≡ r.bytes
its_bytes r = region-placed r.before r.bytes r.after

pub its_before : (r : Placement) → slice (region_of r) 0 (length r.before) ≡ r.before
its_before r = ap (λ b. slice b 0 (length r.before)) (append_assoc r.before r.bytes r.after) ∙ region-placed [] r.before (r.bytes ++ r.after)

pub its_after : (r : Placement) → drop (length r.before + length r.bytes) (region_of r) ≡ r.after
its_after r = ap (λ n. drop n (region_of r)) (sym (length-append r.before r.bytes)) ∙ same_lists _ _ (simp (length-drop, length-append) (omega arith)) (λ k d l. grind (arith, places))

module _ (p q : Placement) (same_region : region_of q ≡ region_of p) (base : length q.before ≡ length p.before) where
  pub before_same : q.before ≡ p.before
  before_same = sym (its_before q) ∙ ap (λ b. slice b 0 (length q.before)) same_region ∙ ap (slice (region_of p) 0) base ∙ its_before p

  pub front_bytes : (n : ℕ) → n ≤ length p.bytes → n ≤ length q.bytes → take n q.bytes ≡ take n p.bytes
  unfolding slice
  front_bytes n le le' =
      let from_q : slice (slice (region_of q) (length q.before) (length q.bytes)) 0 n ≡ slice (region_of q) (length q.before + 0) n = slice-slice (region_of q) (length q.before) (length q.bytes) 0 n (omega arith) in
      let from_p : slice (slice (region_of p) (length p.before) (length p.bytes)) 0 n ≡ slice (region_of p) (length p.before + 0) n = slice-slice (region_of p) (length p.before) (length p.bytes) 0 n (omega arith) in
      ap (λ b. take n b) (sym (its_bytes q)) ∙ from_q ∙ ap (λ b. slice b (length q.before + 0) n) same_region ∙ ap (λ b. slice (region_of p) (b + 0) n) base ∙ sym from_p ∙ ap (λ b. take n b) (its_bytes p)

  pub after_same : (extra : ℕ) → length q.bytes ≡ length p.bytes + extra → q.after ≡ drop extra p.after
  after_same extra long =
      let end : length q.before + length q.bytes ≡ length p.before + length p.bytes + extra = omega arith in
      sym (its_after q) ∙ ap (λ b. drop (length q.before + length q.bytes) b) same_region ∙ ap (λ n. drop n (region_of p)) end ∙ sym (drop_twice (region_of p) (length p.before + length p.bytes) extra) ∙ ap (drop extra) (its_after p)

-- two changes of a segment's bytes are one change
pub host_then : (p q r : Placement) (b : List ℕ) → q ≡ with_bytes p q.bytes → r ≡ with_bytes q b → r ≡ with_bytes p r.bytes
host_then p q r b e f = f ∙ ap (λ (x : Placement). with_bytes x b) e ∙ ap (with_bytes p) (sym (ap (λ (x : Placement). x.bytes) f))

-- ---- growing

same_stored : (a b : Stored) → a.window.before ≡ b.window.before → a.window.bytes ≡ b.window.bytes → a.window.after ≡ b.window.after
    → a.window.home ≡ b.window.home → a.types ≡ b.types → a ≡ b
same_stored a b before bytes after home types = λ i. record {
  window = record { before = before i; bytes = bytes i; after = after i; home = home i };
  types = types i;
}

module _ (allocator : ℕ) (old : Stored) (picture : Picture) (is : IsSegment allocator old picture) (q : Placement) (extra : ℕ) (same_region : region_of q ≡ region_of old.window) (base : length q.before ≡ length old.window.before)
    (long : length q.bytes ≡ length old.window.bytes + extra) (sized : IsImageLength (length old.window.bytes + extra)) (whole : extra % 16 ≡ 0) where
  abbrev bytes : List ℕ
  bytes = old.window.bytes

  -- no bytes were added
  same_bytes : extra ≡ 0 → q.bytes ≡ bytes
  same_bytes none = sym (take_all (length q.bytes) q.bytes (omega arith)) ∙ ap (λ n. take n q.bytes) (let e : length q.bytes ≡ length bytes = omega arith in e)
      ∙ front_bytes old.window q same_region base (length bytes) (omega arith) (omega arith) ∙ take_all (length bytes) bytes (omega arith)

  none_extended : (bs : List Span) (end : ℕ) → bs ≡ after_extend bs end 0
  none_extended [] end = refl
  none_extended (b ∷ bs) end = ap (λ cs. b ∷ cs) (none_extended bs end)

  no_zeros : (b : List ℕ) (at n : ℕ) → n ≡ 0 → slice b at n ≡ replicate n 0
  unfolding slice
  no_zeros b at n e = rw e refl

  pub grown_by_none : (new : Stored) → extra ≡ 0 → new.window ≡ q → q.home ≡ old.window.home → new.types ≡ old.types → Grows allocator old new picture extra
  grown_by_none new none window home types =
      let b : new.window.bytes ≡ bytes = ap (λ (r : Placement). r.bytes) window ∙ same_bytes none in
      let units : extra / 16 ≡ 0 = omega arith in
      let before = ap (λ (r : Placement). r.before) window ∙ before_same old.window q same_region base in
      let after = ap (λ (r : Placement). r.after) window ∙ after_same old.window q same_region base extra long in
      record {
        unchanged = λ _. same_stored new old before b (after ∙ ap (λ n. drop n old.window.after) none) (ap (λ (r : Placement). r.home) window ∙ home) types;
        fixed = rw b (record { front_kept = refl; words_kept = refl; back_kept = refl });
        segment = record { held = rw b is.held; counted = rw b is.counted; table_is = types ∙ is.table_is; allocator_is = rw b is.allocator_is };
        length_is = ap length b ∙ omega arith;
        live_is = ap (λ x. live x) b ∙ none_extended (live bytes) (length bytes) ∙ ap (after_extend (live bytes) (length bytes)) (sym units);
        kept = λ h some. rw b (record { live = refl; has_tag = refl; room = omega arith; payload = refl });
        zeros = no_zeros new.window.bytes (length bytes + used_front allocator extra) (extra - used_front allocator extra) (omega arith);
        before_is = before;
        after_is = after;
      }

  module _ (filled new : Placement) (zeros : List ℕ) (filled_is : filled ≡ with_bytes q (put q.bytes (length bytes) zeros)) (host : new ≡ with_bytes filled new.bytes) where
    filled_bytes : filled.bytes ≡ put q.bytes (length bytes) zeros
    filled_bytes = ap (λ (r : Placement). r.bytes) filled_is

    filled_long : length filled.bytes ≡ length bytes + extra
    filled_long = ap length filled_bytes ∙ length-put q.bytes (length bytes) zeros ∙ long

    units_are : 16 * (extra / 16) ≡ extra
    units_are = omega arith

    pub front_is : without_end filled.bytes (extra / 16) ≡ bytes
    front_is =
        let n : length filled.bytes - 16 * (extra / 16) ≡ length bytes = omega (arith, filled_long, units_are) in
        ap (λ k. take k filled.bytes) n ∙ ap (take (length bytes)) filled_bytes ∙ take-put q.bytes (length bytes) zeros (length bytes) (omega arith)
        ∙ front_bytes old.window q same_region base (length bytes) (omega arith) (omega arith) ∙ take_all (length bytes) bytes (omega arith)

    pub grown : (types : Rattle.seg_spec.specs.Types.Table) → types ≡ old.types → 0 < extra → Extends allocator filled.bytes new.bytes (extra / 16)
        → slice new.bytes (length bytes + used_front allocator extra) (extra - used_front allocator extra) ≡ replicate (extra - used_front allocator extra) 0 → Grows allocator old (record { window = new; types = types }) picture extra
    grown types types_are more e zeros_are =
        let e' : Extends (word bytes allocator_word) filled.bytes new.bytes (extra / 16) = rw is.allocator_is e in
        let r = extended bytes filled.bytes new.bytes (extra / 16) picture is.held front_is (omega (arith, filled_long, units_are)) (rw filled_long sized) e' in
        let n : length filled.bytes - 16 * (extra / 16) ≡ length bytes = omega (arith, filled_long, units_are) in
        record {
          segment = record {
            held = resized_held bytes new.bytes picture is.held r;
            counted = counted_still bytes new.bytes picture (next_then bytes new.bytes picture is.held r) is.counted;
            table_is = types_are ∙ is.table_is;
            allocator_is = allocator_then bytes new.bytes picture is.held r ∙ is.allocator_is;
          };
          unchanged = λ none. absurd (omega arith);
          fixed = fixed_parts bytes new.bytes r;
          length_is = e.length_kept ∙ filled_long;
          live_is = e.extends ∙ ap (λ b. after_extend (live b) (length filled.bytes - 16 * (extra / 16)) (extra / 16)) front_is ∙ ap (λ k. after_extend (live bytes) k (extra / 16)) n;
          kept = kept_block bytes new.bytes picture is.held r;
          zeros = zeros_are;
          before_is = ap (λ (r : Placement). r.before) host ∙ ap (λ (r : Placement). r.before) filled_is ∙ before_same old.window q same_region base;
          after_is = ap (λ (r : Placement). r.after) host ∙ ap (λ (r : Placement). r.after) filled_is ∙ after_same old.window q same_region base extra long;
        }

-- ---- fewer units at the end

abbrev LiesInHeap : ℕ → Span → Type 0
LiesInHeap end g = (heap_start ≤ g.at) × (2 ≤ g.units) × (end_of g ≤ end)

cut_low : (gs : List Span) (end : ℕ) → min_length ≤ end → AllByRecursion (LiesInHeap end) gs → heap_start + 16 * units_to_cut gs end < end
cut_low [] end low a = omega arith
cut_low (g ∷ gs) end low a = go (cases_eq (end_of g) end) (cases_eq g.at heap_start) (cut_low gs end low a.1)
  where
    go : (end_of g ≡ end) ⊎ (end_of g ≢ end) → (g.at ≡ heap_start) ⊎ (g.at ≢ heap_start) → heap_start + 16 * units_to_cut gs end < end → heap_start + 16 * units_to_cut (g ∷ gs) end < end
    go (inr ne) k rest =
        let off : eqb (end_of g) end ≡ false = grind (arith, nat_tests) in
        rw off rest
    go (inl e) (inl f) rest =
        let on : eqb (end_of g) end ≡ true = grind (arith, nat_tests) in
        let first : eqb g.at heap_start ≡ true = grind (arith, nat_tests) in
        let l = a.0 in
        rw (on, first) (omega arith)
    go (inl e) (inr ne) rest =
        let on : eqb (end_of g) end ≡ true = grind (arith, nat_tests) in
        let later : eqb g.at heap_start ≡ false = grind (arith, nat_tests) in
        let l = a.0 in
        let above : heap_start < g.at = above_start (cases_lt heap_start g.at) ne l.0 in
        rw (on, later) (omega arith)
      where
        above_start : (heap_start < g.at) ⊎ (g.at ≤ heap_start) → g.at ≢ heap_start → heap_start ≤ g.at → heap_start < g.at
        above_start (inl l) ne low = l
        above_start (inr l) ne low = absurd (ne (omega arith))

fill_large : (ts : List Tile) (to : ℕ) → Fill heap_start ts to → heap_start < to → min_length ≤ to
fill_large [] to f l = absurd (omega (arith, f))
fill_large (t ∷ ts) to f l = let le = Fill-le ts (heap_start + 16 * t.units) to f.2 in let two = f.1 in omega arith

module _ (old mid : List ℕ) (n : ℕ) (picture : Picture) (held : IsHeld old picture) (c : Cuts (word old allocator_word) old mid n) where
  abbrev cut_off : List ℕ
  cut_off = without_end mid n

  old_heap : IsHeap (word old allocator_word) old
  old_heap = held.laid_out.heap

  pub cut_fits : heap_start + 16 * n < length old
  cut_fits =
      let all : AllByRecursion (LiesInHeap (length old)) (gaps old) =
      subst (AllByRecursion (LiesInHeap (length old))) (sym (gaps-free old (word old allocator_word) old_heap)) (free_before (tiles old) heap_start (length old) old_heap.filled) in
      let l = cut_low (gaps old) (length old) held.laid_out.header.not_small all in
      rw c.cut l

  pub cut_long : length cut_off + 16 * n ≡ length old
  cut_long = let t = length-take (length mid - 16 * n) mid in let fits = cut_fits in let same = c.length_kept in omega arith

  front_of : (p m : ℕ) → p + m ≤ length cut_off → IsSame mid cut_off p m
  front_of p m l = slice_front mid (length mid - 16 * n) p m (let t = length-take (length mid - 16 * n) mid in omega arith)

  part_cut : (from to : ℕ) → Agrees old mid from to → (p m : ℕ) → from ≤ p → p + m ≤ to → p + m ≤ length cut_off → IsSame old cut_off p m
  part_cut from to a p m l h fits = front_of p m fits ∙ slice-agrees old mid from to p m a l h (omega (arith, cut_long))

  cut_above : heap_start < length cut_off
  cut_above = let fits = cut_fits in let long = cut_long in omega arith

  high_old : AllByRecursion (λ b. end_of b ≤ length cut_off) (live old)
  high_old = subst (AllByRecursion (λ b. end_of b ≤ length cut_off)) c.live_kept (each_weaker (StatesSpan cut_off (length cut_off)) (λ b. end_of b ≤ length cut_off) (λ b s. s.high) (live cut_off)
      (live_stated cut_off (word old allocator_word) c.heap))

  pub was_cut : Resized old cut_off
  was_cut =
      let above = cut_above in
      let long = cut_long in
      let o = held.laid_out.header in
      let even = o.whole_units in
      let large = o.not_large in
      record {
        long = record { not_small = fill_large (tiles cut_off) (length cut_off) c.heap.filled above; not_large = omega arith; whole_units = omega arith };
        front = part_cut 0 units_word c.front_kept 0 units_word (omega arith) (omega arith) (omega arith);
        units_is = let w : word cut_off units_word ≡ word mid units_word = word-same mid cut_off units_word (front_of units_word 4 (omega arith)) in let s = c.size_is in omega arith;
        words = part_cut (units_word + 4) free_word c.words_kept allocator_word 8 (omega arith) (omega arith) (omega arith);
        back = part_cut back_start heap_start c.back_kept back_start back_size (omega arith) (omega arith) (omega arith);
        heap = c.heap;
        no_smaller = subst (NoSmaller (live old)) (sym c.live_kept) (no_smaller_same (live old));
        kept = each_both (λ b. end_of b ≤ length cut_off) (λ b. Contains (live old) b) _ (λ b high k. λ p m l h. part_cut (b.at + 8) (end_of b) (c.blocks_kept b k) p m l h (omega arith)) (live old) high_old
            (each_of (λ b. Contains (live old) b) (live old) (λ b k. k));
      }

module _ (allocator : ℕ) (old new : Stored) (picture : Picture) (is : IsSegment allocator old picture) (mid : Placement) (n : ℕ) (host : mid ≡ with_bytes old.window mid.bytes) (cuts : Cuts allocator old.window.bytes mid.bytes n)
    (same_region : region_of new.window ≡ region_of mid) (base : length new.window.before ≡ length mid.before) (len : ℕ) (len_is : len + 16 * n ≡ length old.window.bytes)
    (long : length new.window.bytes ≡ len) (types_are : new.types ≡ old.types) where
  cuts' : Cuts (word old.window.bytes allocator_word) old.window.bytes mid.bytes n
  cuts' = rw is.allocator_is cuts

  bytes_are : new.window.bytes ≡ without_end mid.bytes n
  bytes_are =
      let same = cuts.length_kept in
      let left : length mid.bytes - 16 * n ≡ len = omega arith in
      sym (take_all len new.window.bytes (omega arith)) ∙ front_bytes mid new.window same_region base len (omega arith) (omega arith) ∙ ap (λ k. take k mid.bytes) (sym left)

  resized_cut : Resized old.window.bytes new.window.bytes
  resized_cut = rw bytes_are (was_cut old.window.bytes mid.bytes n picture is.held cuts')

  pub shrunk_to : (result : ℕ) → result ≡ len → ShrinksSegment allocator old new picture result
  shrunk_to result result_is = record {
    segment = record {
      held = resized_held old.window.bytes new.window.bytes picture is.held resized_cut;
      counted = counted_still old.window.bytes new.window.bytes picture (next_then old.window.bytes new.window.bytes picture is.held resized_cut) is.counted;
      table_is = types_are ∙ is.table_is;
      allocator_is = allocator_then old.window.bytes new.window.bytes picture is.held resized_cut ∙ is.allocator_is;
    };
    fixed = fixed_parts old.window.bytes new.window.bytes resized_cut;
    result_is = result_is ∙ sym long;
    length_is = rw (← cuts.cut) (omega arith);
    live_is = ap (λ b. live b) bytes_are ∙ cuts.live_kept;
    kept = kept_block old.window.bytes new.window.bytes picture is.held resized_cut;
    before_is = before_same mid new.window same_region base ∙ ap (λ (r : Placement). r.before) host;
    after_is = rw (← cuts.cut) (sym (after_same new.window mid (sym same_region) (sym base) (16 * n) (let same = cuts.length_kept in omega arith)) ∙ ap (λ (r : Placement). r.after) host);
  }

-- a segment ends at or before the end of its region
pub region_long : (p : Placement) → length p.before + length p.bytes ≤ length (region_of p)
region_long p =
    let n = length-append (p.before ++ p.bytes) p.after in
    let m = length-append p.before p.bytes in
    omega arith
