-- A place during a call on it: facts that all steps keep, for any value of the place in between.
use Rattle.std.proofs.Common.{◌≡◌, ◌≢◌, ℕ, ◌+◌, ◌≤◌, ◌⊎◌, inl, inr, List, ◌∷◌, refl, sym, ap, ◌∙◌, subst, arith}
use Rattle.std.specs.List.{AllByRecursion}
use Rattle.seg_spec.specs.Header.{free_word, back_start, back_size}
use Rattle.seg_spec.specs.Bytes.{word, IsSame, ChangesOnly}
use Rattle.seg_spec.specs.Types.{Table, size}
use Rattle.seg_spec.specs.Value.{Value}
use Rattle.seg_spec.specs.Heap.{Span, IsHeap, live}
use Rattle.seg_spec.specs.Block.{IsOwnable, IsInside, KeepsBlock}
use Rattle.seg_spec.specs.Reads.{Place, Holds}
use Rattle.seg_spec.specs.Apart.{KeepsBlockAround}
use Rattle.seg_spec.specs.Sound.{times, positions}
use Rattle.seg_spec.specs.Roots.{ChangesPlace}
use Rattle.seg_spec.specs.Owning.{Stands}
use Rattle.seg_spec.proofs.Values.PlaceFrameLaws.{word-same}
use Rattle.seg_spec.proofs.Heap.LiveBlockLaws.{times-same, there, live-once}
use Rattle.seg_spec.proofs.Heap.HeapFrameLaws.{IsHeap-kept, live-kept, IsOwnable-kept}
use Rattle.seg_spec.proofs.Heap.BlockWriteLaws.{tiles_kept, low_kept, KeptBut, live_kept_but}
use Rattle.seg_spec.proofs.Heap.BlockFrameLaws.{around_kept}
use Rattle.seg_spec.proofs.Values.CallPlaceLaws.{Frames, frames_twice, stands_after}

-- The heap is well-formed with these allocated blocks. The place, with the frozen objects that it
-- releases, owned `blocks` and now owns `others`. The allocated blocks changed by exactly these.
-- Everything around the place is kept.
pub record Leaves (allocator : ℕ) (old mid : List ℕ) (table : Table) (place : Place) (blocks others : List ℕ) (spans : List Span) : Type 0 where
  pub allocator_is : word old 16 ≡ allocator
  pub heap : IsHeap allocator mid
  pub ownable : AllByRecursion (λ b. IsOwnable mid table b.at) (live mid)
  pub live_is : live mid ≡ spans
  pub counts : (h : ℕ) → times h (positions spans) + times h blocks ≡ times h (positions (live old)) + times h others
  pub frames : Frames old mid place.at (size table place.type) blocks
  pub home : ℕ
  pub inside : IsInside mid home place.at (size table place.type)
  pub owned : (h : ℕ) → times h (home ∷ others) ≤ times h (positions (live mid))

pub begun : (allocator : ℕ) (old mid : List ℕ) (table : Table) (place : Place) (v w : Value) (blocks others : List ℕ) (spans : List Span) → Stands allocator old table place v blocks
    → ChangesPlace old mid table place w others spans blocks others → Leaves allocator old mid table place blocks others spans
begun allocator old mid table place v w blocks others spans s c =
    let t = stands_after allocator old mid table place v w blocks others spans s c in
    record {
      allocator_is = s.allocator_is;
      heap = t.heap;
      ownable = c.ownable;
      live_is = c.live_is;
      counts = λ h. ap (λ bs. times h (positions bs) + times h blocks) (sym c.live_is) ∙ c.live_are h;
      frames = record {
        length_kept = c.length_kept;
        front_kept = c.front_kept;
        back_kept = c.back_kept;
        kept = c.kept;
        stays = λ h some none. omega (arith, c.live_are h);
      };
      home = t.home;
      inside = t.inside;
      owned = t.owned;
    }

module _ (allocator : ℕ) (old mid : List ℕ) (table : Table) (place : Place) (blocks others : List ℕ) (spans : List Span) (l : Leaves allocator old mid table place blocks others spans) where
  pub ended : {bs : List ℕ} (w : Value) → Holds mid table place w bs → ChangesPlace old mid table place w bs spans blocks others
  ended w h = record {
    length_kept = l.frames.length_kept;
    front_kept = l.frames.front_kept;
    back_kept = l.frames.back_kept;
    heap = subst (λ a. IsHeap a mid) (sym l.allocator_is) l.heap;
    ownable = l.ownable;
    holds_it = h;
    live_is = l.live_is;
    live_are = λ b. ap (λ bs. times b (positions bs) + times b blocks) l.live_is ∙ l.counts b;
    kept = l.frames.kept;
  }

  pub home_live : 1 ≤ times l.home (positions (live mid))
  home_live = omega (arith, l.owned l.home, times-same l.home others)

  pub its_live : (h : ℕ) → 1 ≤ times h others → 1 ≤ times h (positions (live mid))
  its_live h some = omega (arith, l.owned h, Rattle.seg_spec.proofs.Heap.LiveBlockLaws.times-more h l.home others)

  pub its_other : (h : ℕ) → 1 ≤ times h others → h ≢ l.home
  its_other h some e =
      let mine : 1 ≤ times l.home others = subst (λ x. 1 ≤ times x others) e some in
      omega (arith, l.owned l.home, times-same l.home others, live-once mid allocator l.heap l.home)

  -- ---- bytes of one allocated block are written

  module _ (new : List ℕ) (g at m : ℕ) (changes : ChangesOnly mid new at m) (within : IsInside mid g at m) (g_live : 1 ≤ times g (positions (live mid))) where
    but : (h : ℕ) → 1 ≤ times h (positions (live mid)) → KeptBut mid new at m changes allocator l.heap g within g_live h
    but h some = there (KeptBut mid new at m changes allocator l.heap g within g_live) h (positions (live mid)) (live_kept_but mid new at m changes allocator l.heap g within g_live) some

    pub live_same : live new ≡ live mid
    live_same = live-kept mid new allocator l.heap (tiles_kept mid new at m changes allocator l.heap g within g_live)

    -- all other blocks are kept
    pub other_kept : (h : ℕ) → 1 ≤ times h (positions (live mid)) → h ≢ g → KeepsBlock mid new h
    other_kept h some ne = (but h some).kept ne

    pub header_same : (h : ℕ) → 1 ≤ times h (positions (live mid)) → IsSame mid new h 16
    header_same h some = (but h some).outside h 16 (omega arith) (omega arith)

    written : ((h : ℕ) → 1 ≤ times h (positions (live mid)) → times h others ≡ 0 → KeepsBlockAround mid new place.at (size table place.type) h) → Leaves allocator old new table place blocks others spans
    written around = record {
      allocator_is = l.allocator_is;
      heap = IsHeap-kept mid new allocator l.heap (tiles_kept mid new at m changes allocator l.heap g within g_live);
      ownable = IsOwnable-kept mid new allocator l.heap (tiles_kept mid new at m changes allocator l.heap g within g_live) table l.ownable;
      live_is = live_same ∙ l.live_is;
      counts = l.counts;
      frames = frames_twice old mid new place.at (size table place.type) blocks others l.frames (record {
        length_kept = changes.length_kept;
        front_kept = low_kept mid new at m changes allocator l.heap g within g_live 0 free_word (omega arith);
        back_kept = low_kept mid new at m changes allocator l.heap g within g_live back_start back_size (omega arith);
        kept = around;
        stays = λ h some away. subst (λ bs. 1 ≤ times h (positions bs)) (sym live_same) some;
      }) (λ h some none. not_taken h some none);
      home = l.home;
      inside = record { low = l.inside.low; high = omega (arith, l.inside.high, (but l.home home_live).units_kept) };
      owned = λ h. subst (λ bs. times h (l.home ∷ others) ≤ times h (positions bs)) (sym live_same) (l.owned h);
    }
      where
        not_taken : (h : ℕ) → 1 ≤ times h (positions (live old)) → times h blocks ≡ 0 → times h others ≡ 0
        not_taken h some none =
            let once : times h (positions spans) ≤ 1 = subst (λ bs. times h (positions bs) ≤ 1) l.live_is (live-once mid allocator l.heap h) in
            omega (arith, l.counts h)

    -- bytes of a block that the place owns are written
    pub written_inside : 1 ≤ times g others → Leaves allocator old new table place blocks others spans
    written_inside mine = written (λ h some away. around_kept mid new place.at (size table place.type) h (omega (arith, (but h some).solid)) (other_kept h some (λ e.
        let none : times g others ≡ 0 = subst (λ x. times x others ≡ 0) e away in omega arith)))

    -- bytes of the place itself are written
    pub written_there : place.at ≤ at → at + m ≤ place.at + size table place.type → Leaves allocator old new table place blocks others spans
    written_there low high = written (λ h some away. one h some)
      where
        apart : (f n : ℕ) → (f + n ≤ place.at) ⊎ (place.at + size table place.type ≤ f) → (f + n ≤ at) ⊎ (at + m ≤ f)
        apart f n (inl e) = inl (omega arith)
        apart f n (inr e) = inr (omega arith)

        one : (h : ℕ) → 1 ≤ times h (positions (live mid)) → KeepsBlockAround mid new place.at (size table place.type) h
        one h some =
            let k = but h some in
            let first = word-same mid new h (k.outside h 4 (omega arith) (omega arith)) in
            record {
              solid = omega (arith, k.solid);
              header = record {
                live = rw first refl;
                has_tag = word-same mid new (h + 8) (k.outside (h + 8) 4 (omega arith) (omega arith));
                room = rw k.units_kept (omega arith);
              };
              payload = λ f n from to beside. changes.others f n (apart f n beside);
            }
