-- A place during the steps of a call: it doesn't move, and everything around it is kept.
use Rattle.std.proofs.Common.{◌≡◌, ◌≢◌, ℕ, ◌+◌, ◌-◌, ◌*◌, ◌^◌, ◌<◌, ◌≤◌, ◌⊎◌, inl, inr, true, List, [], ◌∷◌, length, Some, refl, sym, ap, ◌∙◌, subst, arith}
use Rattle.std.proofs.lemmas.Bool.{cases_eq}
use Rattle.std.specs.List.{AllByRecursion}
use Rattle.seg_spec.specs.Bytes.{word, set_word, IsSame, ChangesOnly}
use Rattle.seg_spec.specs.Header.{allocator_word, free_word, back_start, back_size, KeepsFront, KeepsBack}
use Rattle.seg_spec.specs.Types.{Table, size, form_at}
use Rattle.seg_spec.specs.Value.{Value}
use Rattle.seg_spec.specs.Heap.{Span, units_at, IsHeap, live, heap_start, Takes, Gives}
use Rattle.seg_spec.specs.Block.{Kind, tag_of, IsBlock, IsInside, IsOwnable, KeepsBlock, payload_size, has_buffer}
use Rattle.seg_spec.specs.Reads.{Place, Holds}
use Rattle.seg_spec.specs.Apart.{KeepsBlockAround}
use Rattle.seg_spec.specs.Sound.{times, positions}
use Rattle.seg_spec.specs.Roots.{ChangesPlace}
use Rattle.seg_spec.specs.Owning.{Stands}
use Rattle.seg_spec.proofs.SliceLaws.{IsSame-part}
use Rattle.seg_spec.proofs.Values.PlaceFrameLaws.{each_map, each_of_map, Holds-kept, word-same}
use Rattle.seg_spec.proofs.Heap.LiveBlockLaws.{times-same, times-other, there, each_there, LiesIn, live-lie, live-once, times-with_block, times-without}
use Rattle.seg_spec.proofs.Heap.KeptBlockLaws.{front_kept}
use Rattle.seg_spec.proofs.Heap.HeapFrameLaws.{IsHeap-kept, live-kept, IsOwnable-kept}
use Rattle.seg_spec.proofs.Heap.BlockWriteLaws.{tiles_kept, low_kept, KeptBut, live_kept_but}
use Rattle.seg_spec.proofs.Values.CellChangeLaws.{ChangesOnly-none}
use Rattle.seg_spec.specs.Owing.{KeepsLinked}
use Rattle.seg_spec.proofs.Heap.NewBlockLaws.{took, was_free, block_fits, new_heap, new_live, all_kept, is_block, new_length, new_front, new_back, new_link}
use Rattle.seg_spec.proofs.Deallocation.BlockFreeLaws.{given_kept}
use Rattle.seg_spec.proofs.Heap.BlockFrameLaws.{around_twice, around_kept}
use Rattle.seg_spec.proofs.Values.PlaceWriteLaws.{home_live, heap_then, live_then, ownable_then, around_then}

-- ---- frames

-- The bytes before the heap are kept. So is each allocated block that isn't in `gone`, except for n
-- bytes at a position.
pub record Frames (old new : List ℕ) (at n : ℕ) (gone : List ℕ) : Type 0 where
  pub length_kept : length new ≡ length old
  pub front_kept : KeepsFront old new
  pub back_kept : KeepsBack old new
  pub kept : (h : ℕ) → 1 ≤ times h (positions (live old)) → times h gone ≡ 0 → KeepsBlockAround old new at n h
  pub stays : (h : ℕ) → 1 ≤ times h (positions (live old)) → times h gone ≡ 0 → 1 ≤ times h (positions (live new))

pub frames_twice : (a b c : List ℕ) (at n : ℕ) (gone more : List ℕ) → Frames a b at n gone → Frames b c at n more
    → ((h : ℕ) → 1 ≤ times h (positions (live a)) → times h gone ≡ 0 → times h more ≡ 0) → Frames a c at n gone
frames_twice a b c at n gone more x y apart = record {
  length_kept = y.length_kept ∙ x.length_kept;
  front_kept = y.front_kept ∙ x.front_kept;
  back_kept = y.back_kept ∙ x.back_kept;
  kept = λ h some none. around_twice a b c at n h (x.kept h some none) (y.kept h (x.stays h some none) (apart h some none));
  stays = λ h some none. y.stays h (x.stays h some none) (apart h some none);
}

-- a fact about the position of each allocated block
pub each_live_at : (P : ℕ → Type 0) (bs : List Span) → ((h : ℕ) → 1 ≤ times h (positions bs) → P h) → AllByRecursion (λ b. P b.at) bs
each_live_at P bs f = each_of_map P (λ b. b.at) bs (each_there P (positions bs) f)

pub live_at : (P : ℕ → Type 0) (bs : List Span) (h : ℕ) → AllByRecursion (λ b. P b.at) bs → 1 ≤ times h (positions bs) → P h
live_at P bs h a some = there P h (positions bs) (each_map P (λ b. b.at) bs a) some

pub ownable_linked : (old new : List ℕ) (table : Table) (h : ℕ) → KeepsLinked old new h → IsOwnable old table h → IsOwnable new table h
ownable_linked old new table h k o = record {
  kind = o.kind;
  type = o.type;
  allowed = o.allowed;
  tag_is = k.whole.kept.has_tag ∙ o.tag_is;
  link_is = k.link_kept ∙ o.link_is;
}

module _ (allocator : ℕ) (old : List ℕ) (table : Table) (place : Place) (v : Value) (blocks : List ℕ) (s : Stands allocator old table place v blocks) where
  solid : (h : ℕ) → 1 ≤ times h (positions (live old)) → 2 ≤ units_at old h
  solid h some = (there (LiesIn old heap_start (length old)) h (positions (live old)) (live-lie old allocator s.heap) some).size

  -- the place is kept if its block is kept
  pub same_place : (new : List ℕ) → KeepsBlock old new s.home → IsSame old new place.at (size table place.type)
  same_place new k =
      let two = solid s.home (home_live allocator old table place v blocks s) in
      IsSame-part old new (s.home + 16) (payload_size old s.home) place.at (size table place.type) s.inside.low (omega (arith, s.inside.high)) k.payload

  -- ---- all allocated blocks are kept, and there may be new ones

  module _ (new : List ℕ) (heap : IsHeap allocator new) (front : KeepsFront old new) (kept : (h : ℕ) → 1 ≤ times h (s.home ∷ blocks) → KeepsBlock old new h)
      (ownable : AllByRecursion (λ b. IsOwnable new table b.at) (live new)) (stay : (h : ℕ) → times h (s.home ∷ blocks) ≤ times h (positions (live new))) where
    home_kept : KeepsBlock old new s.home
    home_kept = kept s.home (omega (arith, times-same s.home blocks))

    pub stands_still : Stands allocator new table place v blocks
    stands_still =
        let two = solid s.home (home_live allocator old table place v blocks s) in
        let more = home_kept.room in
        let mine = each_there (KeepsBlock old new) blocks (λ h some. kept h (omega arith)) in
        record {
          heap = heap;
          allocator_is = word-same old new allocator_word (IsSame-part old new 0 free_word allocator_word 4 (omega arith) (omega arith) front) ∙ s.allocator_is;
          is_table = s.is_table;
          ownable = ownable;
          holds_it = Holds-kept old new table s.is_table s.holds_it (same_place new home_kept) mine;
          aligned = s.aligned;
          home = s.home;
          inside = record { low = s.inside.low; high = omega (arith, s.inside.high) };
          owned = stay;
        }

    pub still_home : stands_still.home ≡ s.home
    unfolding stands_still
    still_home = refl

  owned_live_or_home : (h : ℕ) → 1 ≤ times h (s.home ∷ blocks) → 1 ≤ times h (positions (live old))
  owned_live_or_home h some = omega (arith, s.owned h)

  -- ---- a block is taken, and gets the tag of a buffer

  module _ (u g T : ℕ) (taken : List ℕ) (t : Takes allocator old taken u (Some g)) (two : 2 ≤ u) (small : tag_of Kind.buffer T < 2 ^ 32) (allowed : has_buffer (form_at table T) ≡ true) where
    abbrev pub marked : List ℕ
    marked = set_word taken (g + 8) (tag_of Kind.buffer T)

    low : g + 16 ≤ g + 16
    low = omega arith

    high : g + 16 + 0 ≤ g + 16 * u
    high = omega arith

    none : ChangesOnly marked marked (g + 16) 0
    none = ChangesOnly-none marked (g + 16) 0

    pub marked_heap : IsHeap allocator marked
    marked_heap = new_heap allocator u g (tag_of Kind.buffer T) old taken marked s.heap t (g + 16) 0 low high none

    pub marked_live : live marked ≡ live taken
    marked_live = new_live allocator u g (tag_of Kind.buffer T) old taken marked s.heap t (g + 16) 0 low high none

    pub marked_kept : (h : ℕ) → 1 ≤ times h (positions (live old)) → KeepsLinked old marked h
    marked_kept h some = all_kept allocator u g (tag_of Kind.buffer T) old taken marked s.heap t (g + 16) 0 low high none h some

    pub marked_block : IsBlock marked (g + 16) (tag_of Kind.buffer T) (16 * u - 16)
    marked_block =
        let fits = block_fits allocator u g (tag_of Kind.buffer T) old taken taken s.heap t in
        is_block allocator u g (tag_of Kind.buffer T) old taken marked s.heap t (g + 16) 0 low high none (16 * u - 16) (omega arith) (omega arith) small

    pub marked_counts : (h : ℕ) → times h (positions (live marked)) ≡ times h (g ∷ positions (live old))
    marked_counts h =
        let w = took allocator old taken u g t in
        ap (λ bs. times h (positions bs)) (marked_live ∙ w.live_are) ∙ times-with_block h (record { at = g; units = w.units }) (live old)

    pub unowned : times g (s.home ∷ blocks) ≡ 0
    unowned = omega (arith, s.owned g, was_free allocator u g (tag_of Kind.buffer T) old taken taken s.heap t)

    ownable_at : (h : ℕ) → 1 ≤ times h (positions (live marked)) → IsOwnable marked table h
    ownable_at h some = go (cases_eq g h)
      where
        own : g + 16 - 16 ≡ g
        own = omega arith

        go : (g ≡ h) ⊎ (g ≢ h) → IsOwnable marked table h
        go (inl e) = subst (λ x. IsOwnable marked table x) e (record {
          kind = Kind.buffer;
          type = T;
          allowed = allowed;
          tag_is = rw own at marked_block.has_tag;
          link_is = new_link allocator u g (tag_of Kind.buffer T) old taken marked s.heap t (g + 16) 0 low high none;
        })
        go (inr other) =
            let some_old : 1 ≤ times h (positions (live old)) = omega (arith, marked_counts h, times-other h g (positions (live old)) other) in
            ownable_linked old marked table h (marked_kept h some_old) (live_at (IsOwnable old table) (live old) h s.ownable some_old)

    pub marked_stands : Stands allocator marked table place v blocks
    marked_stands =
        stands_still marked marked_heap (new_front allocator u g (tag_of Kind.buffer T) old taken marked s.heap t (g + 16) 0 low high none)
        (λ h some. (marked_kept h (owned_live_or_home h some)).whole.kept) (each_live_at (IsOwnable marked table) (live marked) ownable_at)
        (λ h. omega (arith, s.owned h, marked_counts h))

    pub marked_home : marked_stands.home ≡ s.home
    unfolding marked_stands stands_still
    marked_home = refl

    pub marked_frames : (n : ℕ) (gone : List ℕ) → Frames old marked place.at n gone
    marked_frames n gone = record {
      length_kept = new_length allocator u g (tag_of Kind.buffer T) old taken marked s.heap t (g + 16) 0 low high none;
      front_kept = new_front allocator u g (tag_of Kind.buffer T) old taken marked s.heap t (g + 16) 0 low high none;
      back_kept = new_back allocator u g (tag_of Kind.buffer T) old taken marked s.heap t (g + 16) 0 low high none;
      kept = λ h some away. around_kept old marked place.at n h (omega (arith, solid h some)) (marked_kept h some).whole.kept;
      stays = λ h some away. omega (arith, marked_counts h);
    }

  -- ---- bytes inside another allocated block are written

  module _ (new : List ℕ) (g at m : ℕ) (changes : ChangesOnly old new at m) (inside : IsInside old g at m) (g_live : 1 ≤ times g (positions (live old))) (apart : times g (s.home ∷ blocks) ≡ 0) where
    beside_but : (h : ℕ) → 1 ≤ times h (positions (live old)) → KeptBut old new at m changes allocator s.heap g inside g_live h
    beside_but h some = there (KeptBut old new at m changes allocator s.heap g inside g_live) h (positions (live old)) (live_kept_but old new at m changes allocator s.heap g inside g_live) some

    pub beside_live : live new ≡ live old
    beside_live = live-kept old new allocator s.heap (tiles_kept old new at m changes allocator s.heap g inside g_live)

    beside_linked : (h : ℕ) → 1 ≤ times h (positions (live old)) → g ≢ h → KeepsLinked old new h
    beside_linked h some other =
        let b = beside_but h some in
        record {
          whole = record { kept = b.kept (λ e. other (sym e)); size_kept = ap (λ n. 16 * n - 16) b.units_kept };
          link_kept = Rattle.seg_spec.proofs.Values.PlaceFrameLaws.target-same old new (h + 12) (b.outside (h + 12) 4 (omega arith) (omega arith));
        }

    other_than : (h : ℕ) → 1 ≤ times h (s.home ∷ blocks) → g ≢ h
    other_than h some e = let one : 1 ≤ times g (s.home ∷ blocks) = subst (λ x. 1 ≤ times x (s.home ∷ blocks)) (sym e) some in omega arith

    pub beside_stands : Stands allocator new table place v blocks
    beside_stands =
        stands_still new (IsHeap-kept old new allocator s.heap (tiles_kept old new at m changes allocator s.heap g inside g_live))
        (low_kept old new at m changes allocator s.heap g inside g_live 0 free_word (omega arith))
        (λ h some. (beside_linked h (owned_live_or_home h some) (other_than h some)).whole.kept)
        (IsOwnable-kept old new allocator s.heap (tiles_kept old new at m changes allocator s.heap g inside g_live) table s.ownable)
        (λ h. subst (λ bs. times h (s.home ∷ blocks) ≤ times h (positions bs)) (sym beside_live) (s.owned h))

    pub beside_home : beside_stands.home ≡ s.home
    unfolding beside_stands stands_still
    beside_home = refl

    pub beside_place : IsSame old new place.at (size table place.type)
    beside_place = same_place new (beside_linked s.home (home_live allocator old table place v blocks s) (other_than s.home (omega (arith, times-same s.home blocks)))).whole.kept

    pub beside_frames : (n : ℕ) → Frames old new place.at n (g ∷ [])
    beside_frames n = record {
      length_kept = changes.length_kept;
      front_kept = low_kept old new at m changes allocator s.heap g inside g_live 0 free_word (omega arith);
      back_kept = low_kept old new at m changes allocator s.heap g inside g_live back_start back_size (omega arith);
      kept = λ h some away. around_kept old new place.at n h (omega (arith, solid h some)) (beside_linked h some (not_it h away)).whole.kept;
      stays = λ h some away. subst (λ bs. 1 ≤ times h (positions bs)) (sym beside_live) some;
    }
      where
        not_it : (h : ℕ) → times h (g ∷ []) ≡ 0 → g ≢ h
        not_it h away e = let one : times g (g ∷ []) ≡ 0 = subst (λ x. times x (g ∷ []) ≡ 0) (sym e) away in omega (arith, times-same g [])

    -- the block is still allocated, with its tag
    pub beside_block : (p tag n : ℕ) → p ≡ g + 16 → IsBlock old p tag n → IsBlock new p tag n
    beside_block p tag n e b =
        let own : p - 16 ≡ g = omega arith in
        let k = beside_but g g_live in
        let first = word-same old new g (k.outside g 4 (omega arith) (omega arith)) in
        let was = rw own at b.live in
        let tagged = rw own at b.has_tag in
        let room = rw own at b.room in
        let units = k.units_kept in
        record {
          after_header = b.after_header;
          live = rw (own, first) was;
          has_tag = rw own (word-same old new (g + 8) (k.outside (g + 8) 4 (omega arith) (omega arith)) ∙ tagged);
          room = rw own (omega arith);
        }

  -- ---- the place is written, and then contains another value

  module _ (new : List ℕ) (changes : ChangesOnly old new place.at (size table place.type)) (w : Value) (others : List ℕ) (holds_it : Holds new table place w others)
      (owned : (h : ℕ) → times h (s.home ∷ others) ≤ times h (positions (live old))) where
    now_live : live new ≡ live old
    now_live = live_then allocator old table place v blocks s new changes

    pub written_frames : Frames old new place.at (size table place.type) []
    written_frames = record {
      length_kept = changes.length_kept;
      front_kept = low_kept old new place.at (size table place.type) changes allocator s.heap s.home s.inside (home_live allocator old table place v blocks s) 0 free_word (omega arith);
      back_kept = low_kept old new place.at (size table place.type) changes allocator s.heap s.home s.inside (home_live allocator old table place v blocks s) back_start back_size (omega arith);
      kept = λ h some away. around_then allocator old table place v blocks s new changes h some;
      stays = λ h some away. subst (λ bs. 1 ≤ times h (positions bs)) (sym now_live) some;
    }

    pub written_stands : Stands allocator new table place w others
    written_stands =
        let b = there (KeptBut old new place.at (size table place.type) changes allocator s.heap s.home s.inside (home_live allocator old table place v blocks s)) s.home (positions (live old))
        (live_kept_but old new place.at (size table place.type) changes allocator s.heap s.home s.inside (home_live allocator old table place v blocks s)) (home_live allocator old table place v blocks s) in
        record {
          heap = heap_then allocator old table place v blocks s new changes;
          allocator_is = word-same old new allocator_word (IsSame-part old new 0 free_word allocator_word 4 (omega arith) (omega arith) written_frames.front_kept) ∙ s.allocator_is;
          is_table = s.is_table;
          ownable = ownable_then allocator old table place v blocks s new changes;
          holds_it = holds_it;
          aligned = s.aligned;
          home = s.home;
          inside = record { low = s.inside.low; high = omega (arith, s.inside.high, b.units_kept) };
          owned = λ h. subst (λ bs. times h (s.home ∷ others) ≤ times h (positions bs)) (sym now_live) (owned h);
        }

    pub written_home : written_stands.home ≡ s.home
    unfolding written_stands
    written_home = refl

  -- ---- a block that the place doesn't own is freed

  module _ (new : List ℕ) (g : ℕ) (gives : Gives allocator old new g) (g_live : 1 ≤ times g (positions (live old))) (apart : times g (s.home ∷ blocks) ≡ 0) where
    left_counts : (h : ℕ) → times h (g ∷ positions (live new)) ≡ times h (positions (live old))
    left_counts h = ap (λ bs. times h (g ∷ positions bs)) gives.given ∙ times-without h g (live old) g_live

    left_other : (h : ℕ) → 1 ≤ times h (positions (live new)) → g ≢ h
    left_other h some e =
        let one : 1 ≤ times g (positions (live new)) = subst (λ x. 1 ≤ times x (positions (live new))) (sym e) some in
        omega (arith, left_counts g, times-same g (positions (live new)), live-once old allocator s.heap g)

    left_live : (h : ℕ) → 1 ≤ times h (positions (live old)) → g ≢ h → 1 ≤ times h (positions (live new))
    left_live h some other = omega (arith, left_counts h, times-other h g (positions (live new)) other)

    was_live : (h : ℕ) → 1 ≤ times h (positions (live new)) → 1 ≤ times h (positions (live old))
    was_live h some = omega (arith, left_counts h)

    pub left_kept : (h : ℕ) → 1 ≤ times h (positions (live old)) → g ≢ h → KeepsLinked old new h
    left_kept h some other = given_kept allocator old new g s.heap gives h some (λ e. other (sym e))

    long : heap_start ≤ length old
    long =
        let l = there (LiesIn old heap_start (length old)) g (positions (live old)) (live-lie old allocator s.heap) g_live in
        omega (arith, l.low, l.high)

    pub left_stands : Stands allocator new table place v blocks
    left_stands =
        stands_still new gives.heap (front_kept old new gives.kept long).0
        (λ h some. (left_kept h (owned_live_or_home h some) (away h some)).whole.kept)
        (each_live_at (IsOwnable new table) (live new)
        (λ h some. ownable_linked old new table h (left_kept h (was_live h some) (left_other h some)) (live_at (IsOwnable old table) (live old) h s.ownable (was_live h some))))
        (λ h. still h (cases_eq g h))
      where
        away : (h : ℕ) → 1 ≤ times h (s.home ∷ blocks) → g ≢ h
        away h some e = let one : 1 ≤ times g (s.home ∷ blocks) = subst (λ x. 1 ≤ times x (s.home ∷ blocks)) (sym e) some in omega arith

        still : (h : ℕ) → (g ≡ h) ⊎ (g ≢ h) → times h (s.home ∷ blocks) ≤ times h (positions (live new))
        still h (inl e) = let zero : times h (s.home ∷ blocks) ≡ 0 = subst (λ x. times x (s.home ∷ blocks) ≡ 0) e apart in omega arith
        still h (inr other) = omega (arith, s.owned h, left_counts h, times-other h g (positions (live new)) other)

    pub left_place : IsSame old new place.at (size table place.type)
    left_place = same_place new (left_kept s.home (home_live allocator old table place v blocks s) not_home).whole.kept
      where
        not_home : g ≢ s.home
        not_home e = let none : times s.home (s.home ∷ blocks) ≡ 0 = subst (λ x. times x (s.home ∷ blocks) ≡ 0) e apart in omega (arith, times-same s.home blocks)

    pub left_frames : (n : ℕ) → Frames old new place.at n (g ∷ [])
    left_frames n = record {
      length_kept = gives.kept.front_kept.length_kept;
      front_kept = (front_kept old new gives.kept long).0;
      back_kept = (front_kept old new gives.kept long).1;
      kept = λ h some away. around_kept old new place.at n h (omega (arith, solid h some)) (left_kept h some (not_it h away)).whole.kept;
      stays = λ h some away. left_live h some (not_it h away);
    }
      where
        not_it : (h : ℕ) → times h (g ∷ []) ≡ 0 → g ≢ h
        not_it h away e = let one : times g (g ∷ []) ≡ 0 = subst (λ x. times x (g ∷ []) ≡ 0) (sym e) away in omega (arith, times-same g [])

-- all changes of the steps together
pub changes_of : (allocator : ℕ) (old new : List ℕ) (table : Table) (place : Place) (w : Value) (others gone : List ℕ) (spans : List Span)
    → word old 16 ≡ allocator → Stands allocator new table place w others → Frames old new place.at (size table place.type) gone → live new ≡ spans
    → ((h : ℕ) → times h (positions spans) + times h gone ≡ times h (positions (live old)) + times h others) → ChangesPlace old new table place w others spans gone others
changes_of allocator old new table place w others gone spans allocator_is s f live_is counts = record {
  length_kept = f.length_kept;
  front_kept = f.front_kept;
  back_kept = f.back_kept;
  heap = subst (λ a. IsHeap a new) (sym allocator_is) s.heap;
  ownable = s.ownable;
  holds_it = s.holds_it;
  live_is = live_is;
  live_are = λ h. ap (λ bs. times h (positions bs) + times h gone) live_is ∙ counts h;
  kept = f.kept;
}

-- the place after the call, as the next call needs it
pub stands_after : (allocator : ℕ) (old new : List ℕ) (table : Table) (place : Place) (v w : Value) (blocks others : List ℕ) (spans : List Span) (s : Stands allocator old table place v blocks)
    → ChangesPlace old new table place w others spans blocks others → Stands allocator new table place w others
stands_after allocator old new table place v w blocks others spans s c =
    let mine = home_live allocator old table place v blocks s in
    let away : times s.home blocks ≡ 0 = omega (arith, s.owned s.home, times-same s.home blocks, live-once old allocator s.heap s.home) in
    let k = c.kept s.home mine away in
    let two = (there (LiesIn old heap_start (length old)) s.home (positions (live old)) (live-lie old allocator s.heap) mine).size in
    record {
      heap = subst (λ a. IsHeap a new) s.allocator_is c.heap;
      allocator_is = word-same old new allocator_word (IsSame-part old new 0 free_word allocator_word 4 (omega arith) (omega arith) c.front_kept) ∙ s.allocator_is;
      is_table = s.is_table;
      ownable = c.ownable;
      holds_it = c.holds_it;
      aligned = s.aligned;
      home = s.home;
      inside = record { low = s.inside.low; high = omega (arith, s.inside.high, k.header.room) };
      owned = λ h. owned_then h (cases_eq s.home h);
    }
  where
    owned_then : (h : ℕ) → (s.home ≡ h) ⊎ (s.home ≢ h) → times h (s.home ∷ others) ≤ times h (positions (live new))
    owned_then h (inl e) = subst (λ x. times x (s.home ∷ others) ≤ times x (positions (live new))) e
        (omega (arith, c.live_are s.home, s.owned s.home, times-same s.home others, times-same s.home blocks, live-once old allocator s.heap s.home))
    owned_then h (inr other) = omega (arith, c.live_are h, s.owned h, times-other h s.home others other, times-other h s.home blocks other)
