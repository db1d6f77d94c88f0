-- Requests that are larger than any segment.
use Rattle.std.proofs.Common.{◌≡◌, ℕ, ◌+◌, ◌*◌, ◌^◌, ◌<◌, ◌≤◌, true, false, eqb, cond, List, [], ◌∷◌, length, Option, Some, None, refl, sym, subst, arith}
use Rattle.std.specs.Prelude.{option_and_then}
use Rattle.std.specs.Option.{IfSome}
use Rattle.std.specs.List.{AllByRecursion}
use Rattle.seg_spec.specs.Heap.{Span, Tile, span_of, tiles, Fill, gaps_of, live, live_of, room_at, IsHeap, heap_start, Granted}
use Rattle.seg_spec.specs.Demand.{Ask, after_ask, after_asks, blocks_then, NoRoom, IsDenied}
use Rattle.seg_spec.proofs.Heap.TileLaws.{Fill-le, gaps_between-live_of}
use Rattle.seg_spec.proofs.Heap.BlockWriteLaws.{each_free_tile}
use Rattle.seg_spec.proofs.Heap.OutOfMemoryLaws.{no_room}
use Rattle.seg_spec.proofs.Values.PlaceFrameLaws.{each_weaker}

sizes : (ts : List Tile) (from to : ℕ) → Fill from ts to → AllByRecursion (λ t. 16 * t.units ≤ to) ts
sizes [] from to f = tt
sizes (t ∷ ts) from to f = let e = Fill-le ts (from + 16 * t.units) to f.2 in (omega arith, sizes ts (from + 16 * t.units) to f.2)

each_live_tile : (P : Span → Type 0) (ts : List Tile) → AllByRecursion (λ t. P (span_of t)) ts → AllByRecursion P (live_of ts)
each_live_tile P [] a = tt
each_live_tile P (t ∷ ts) a =
    let rest = each_live_tile P ts a.1 in
    elim t.live as (λ b. AllByRecursion P (cond b (span_of t ∷ live_of ts) (live_of ts))) [ true ↦ (a.0, rest) | false ↦ rest ]

room_bound : (m : ℕ) (bs : List Span) (at : ℕ) → AllByRecursion (λ b. 16 * b.units ≤ m) bs → 16 * room_at bs at ≤ m
room_bound m [] at a = omega arith
room_bound m (b ∷ bs) at a =
    let rest = room_bound m bs at a.1 in
    elim (eqb b.at at) as (λ x. 16 * cond x b.units (room_at bs at) ≤ m) [ true ↦ a.0 | false ↦ rest ]

module _ (allocator : ℕ) (bytes : List ℕ) (heap : IsHeap allocator bytes) where
  all_sizes : AllByRecursion (λ t. 16 * t.units ≤ length bytes) (tiles bytes)
  all_sizes = sizes (tiles bytes) heap_start (length bytes) heap.filled

  gaps_sized : AllByRecursion (λ g. 16 * g.units ≤ length bytes) (gaps_of (live bytes) (length bytes))
  unfolding live
  gaps_sized = subst (λ gs. AllByRecursion (λ g. 16 * g.units ≤ length bytes) gs) (sym (gaps_between-live_of (tiles bytes) true heap_start (length bytes) heap.filled heap.apart))
      (each_free_tile (λ g. 16 * g.units ≤ length bytes) (tiles bytes) (each_weaker _ _ (λ t a free. a) (tiles bytes) all_sizes))

  live_sized : AllByRecursion (λ b. 16 * b.units ≤ length bytes) (live bytes)
  unfolding live
  live_sized = each_live_tile (λ b. 16 * b.units ≤ length bytes) (tiles bytes) all_sizes

  -- no such request is granted
  pub too_large : (ask : Ask) → 2 ^ 28 ≤ ask.limit → ask.limit ≤ ask.preferred → NoRoom allocator (live bytes) (length bytes) (ask ∷ [])
  too_large ask large le =
      let small = heap.small in
      let d : IsDenied allocator (live bytes) (length bytes) (ask ∷ []) = record {
        before = [];
        ask = ask;
        after = [];
        asks_are = refl;
        blocks = live bytes;
        granted = refl;
        no_gap = record { gaps_too_small = each_weaker _ _ (λ g a. omega arith) (gaps_of (live bytes) (length bytes)) gaps_sized; old_too_small = old ask.old };
      } in
      no_room allocator (live bytes) (length bytes) (ask ∷ []) d le
    where
      old : (o : Option ℕ) → IfSome o (λ at. room_at (live bytes) at + room_at (gaps_of (live bytes) (length bytes)) (at + 16 * room_at (live bytes) at) < ask.limit)
      old None = tt
      old (Some at) =
          let small = heap.small in
          let a = room_bound (length bytes) (live bytes) at live_sized in
          let b = room_bound (length bytes) (gaps_of (live bytes) (length bytes)) (at + 16 * room_at (live bytes) at) gaps_sized in
          omega arith

  pub grants_none : (ask : Ask) → 2 ^ 28 ≤ ask.limit → ask.limit ≤ ask.preferred → after_ask allocator (live bytes) (length bytes) ask ≡ None
  grants_none ask large le = go (after_ask allocator (live bytes) (length bytes) ask) refl (too_large ask large le)
    where
      go : (o : Option Granted) → after_ask allocator (live bytes) (length bytes) ask ≡ o → option_and_then (λ g. after_asks allocator (blocks_then g) (length bytes) []) o ≡ None → after_ask allocator (live bytes) (length bytes) ask ≡ None
      go None e f = e
      go (Some g) e f = absurd (let k : Some (blocks_then g) ≡ None = f in cc)
