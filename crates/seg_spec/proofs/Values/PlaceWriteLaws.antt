-- A write to a place of a call: everything around it is kept, and the place may get another value.
use Rattle.std.proofs.Common.{◌≡◌, ◌≢◌, ℕ, ◌+◌, ◌≤◌, ⊎_elim, List, ◌∷◌, length, refl, sym, ap, subst, arith}
use Rattle.std.proofs.lemmas.Bool.{cases_eq}
use Rattle.std.specs.List.{AllByRecursion}
use Rattle.seg_spec.specs.Bytes.{ChangesOnly}
use Rattle.seg_spec.specs.Header.{free_word, back_start, back_size}
use Rattle.seg_spec.specs.Types.{Table, size}
use Rattle.seg_spec.specs.Value.{Value}
use Rattle.seg_spec.specs.Heap.{IsHeap, live, heap_start, KeepsTiles}
use Rattle.seg_spec.specs.Block.{KeepsHeader, KeepsBlock, IsOwnable}
use Rattle.seg_spec.specs.Reads.{Place, Holds}
use Rattle.seg_spec.specs.Apart.{KeepsBlockAround}
use Rattle.seg_spec.specs.Sound.{times, positions}
use Rattle.seg_spec.specs.Roots.{ChangesPlace}
use Rattle.seg_spec.specs.Owning.{Stands}
use Rattle.seg_spec.proofs.Values.PlaceFrameLaws.{word-same}
use Rattle.seg_spec.proofs.Heap.LiveBlockLaws.{times-same, times-other, there, each_there, LiesIn, live-lie, live-once}
use Rattle.seg_spec.proofs.Heap.HeapFrameLaws.{IsHeap-kept, live-kept, IsOwnable-kept}
use Rattle.seg_spec.proofs.Heap.BlockWriteLaws.{tiles_kept, low_kept, KeptBut, live_kept_but}

module _ (allocator : ℕ) (old : List ℕ) (table : Table) (place : Place) (v : Value) (blocks : List ℕ) (s : Stands allocator old table place v blocks) where
  pub home_live : 1 ≤ times s.home (positions (live old))
  home_live = omega (arith, s.owned s.home, times-same s.home blocks)

  -- a block that the place owns is allocated, and isn't the block in which the place lies
  pub owned_live : (h : ℕ) → 1 ≤ times h blocks → 1 ≤ times h (positions (live old))
  owned_live h some = ⊎_elim (λ e. omega (arith, s.owned h, subst (λ x. times h (x ∷ blocks) ≡ 1 + times h blocks) (sym e) (times-same h blocks))) (λ ne. omega (arith, s.owned h, times-other h s.home blocks ne)) (cases_eq s.home h)

  pub owned_other : (h : ℕ) → 1 ≤ times h blocks → h ≢ s.home
  owned_other h some e =
      let twice = times-same s.home blocks in
      let mine : 1 ≤ times s.home blocks = subst (λ x. 1 ≤ times x blocks) e some in
      omega (arith, s.owned s.home, live-once old allocator s.heap s.home)

  pub place_within : place.at + size table place.type ≤ length old
  place_within =
      let l = there (LiesIn old heap_start (length old)) s.home (positions (live old)) (live-lie old allocator s.heap) home_live in
      omega (arith, s.inside.high, l.high)

  module _ (new : List ℕ) (changes : ChangesOnly old new place.at (size table place.type)) where
    tiles_then : KeepsTiles old new
    tiles_then = tiles_kept old new place.at (size table place.type) changes allocator s.heap s.home s.inside home_live

    pub heap_then : IsHeap allocator new
    heap_then = IsHeap-kept old new allocator s.heap tiles_then

    pub live_then : live new ≡ live old
    live_then = live-kept old new allocator s.heap tiles_then

    pub ownable_then : AllByRecursion (λ b. IsOwnable new table b.at) (live new)
    ownable_then = IsOwnable-kept old new allocator s.heap tiles_then table s.ownable

    but : (h : ℕ) → 1 ≤ times h (positions (live old)) → KeptBut old new place.at (size table place.type) changes allocator s.heap s.home s.inside home_live h
    but h some = there (KeptBut old new place.at (size table place.type) changes allocator s.heap s.home s.inside home_live) h (positions (live old))
        (live_kept_but old new place.at (size table place.type) changes allocator s.heap s.home s.inside home_live) some

    pub whole_then : (h : ℕ) → 1 ≤ times h (positions (live old)) → h ≢ s.home → KeepsBlock old new h
    whole_then h some other = (but h some).kept other

    pub header_then : (h : ℕ) → 1 ≤ times h (positions (live old)) → KeepsHeader old new h
    header_then h some =
        let k = but h some in
        let first = word-same old new h (k.outside h 4 (omega arith) (omega arith)) in
        record {
          live = rw first refl;
          has_tag = word-same old new (h + 8) (k.outside (h + 8) 4 (omega arith) (omega arith));
          room = rw k.units_kept (omega arith);
        }

    pub around_then : (h : ℕ) → 1 ≤ times h (positions (live old)) → KeepsBlockAround old new place.at (size table place.type) h
    around_then h some =
        let k = but h some in
        record { solid = omega (arith, k.solid); header = header_then h some; payload = λ g m low high apart. changes.others g m apart }

    pub blocks_then : AllByRecursion (KeepsBlock old new) blocks
    blocks_then = each_there (KeepsBlock old new) blocks (λ h some. whole_then h (owned_live h some) (owned_other h some))

    -- The place contains another value. It may own other blocks than before, but the allocated
    -- blocks are the same.
    pub changes_place : (w : Value) (others given : List ℕ) → Holds new table place w others → ChangesPlace old new table place w others (live old) given given
    changes_place w others given h = record {
      length_kept = changes.length_kept;
      front_kept = low_kept old new place.at (size table place.type) changes allocator s.heap s.home s.inside home_live 0 free_word (omega arith);
      back_kept = low_kept old new place.at (size table place.type) changes allocator s.heap s.home s.inside home_live back_start back_size (omega arith);
      heap = subst (λ a. IsHeap a new) (sym s.allocator_is) heap_then;
      ownable = ownable_then;
      holds_it = h;
      live_is = live_then;
      live_are = λ b. ap (λ bs. times b (positions bs) + times b given) live_then;
      kept = λ b some none. around_then b some;
    }
