-- The heap stays well-formed if its headers and free structure are kept.
use Rattle.std.proofs.Common.{◌≡◌, ℕ, zero, suc, ◌+◌, ◌≤◌, true, false, List, [], ◌∷◌, length, map, cond, Option, None, refl, sym, ap, ◌∙◌, subst, arith}
use Rattle.std.specs.List.{AllByRecursion}
use Rattle.seg_spec.specs.Bytes.{word, IsSame}
use Rattle.seg_spec.specs.Header.{free_word}
use Rattle.seg_spec.specs.Pointer.{target}
use Rattle.seg_spec.specs.Types.{Table}
use Rattle.seg_spec.specs.Heap.{Span, Tile, span_of, link_at, tiles, AreHeaders, live_of, free_of, live, gaps, Links, is_smaller, insert_by_size, by_size, HoldsGaps, IsHeap, heap_start, KeepsTiles}
use Rattle.seg_spec.specs.Block.{IsOwnable}
use Rattle.seg_spec.proofs.SliceLaws.{IsSame-part}
use Rattle.seg_spec.proofs.Heap.TileLaws.{tiles-unique, gaps_between-live_of}
use Rattle.seg_spec.proofs.Heap.HeaderLaws.{IsHeader-same}
use Rattle.seg_spec.proofs.Values.PlaceFrameLaws.{word-same, target-same, each_both, IsTree-same}

-- ---- lists of spans

pub each_live : (P : ℕ → Type 0) (ts : List Tile) → AllByRecursion (λ t. P t.at) ts → AllByRecursion (λ b. P b.at) (live_of ts)
each_live P [] a = tt
each_live P (t ∷ ts) a =
    let rest = each_live P ts a.1 in
    elim t.live as (λ b. AllByRecursion (λ s. P s.at) (cond b (span_of t ∷ live_of ts) (live_of ts))) [ true ↦ (a.0, rest) | false ↦ rest ]

pub each_free : (P : ℕ → Type 0) (ts : List Tile) → AllByRecursion (λ t. P t.at) ts → AllByRecursion (λ g. P g.at) (free_of ts)
each_free P [] a = tt
each_free P (t ∷ ts) a =
    let rest = each_free P ts a.1 in
    elim t.live as (λ b. AllByRecursion (λ g. P g.at) (cond b (free_of ts) (span_of t ∷ free_of ts))) [ true ↦ rest | false ↦ (a.0, rest) ]

each_inserted : (P : Span → Type 0) (g : Span) (hs : List Span) → P g → AllByRecursion P hs → AllByRecursion P (insert_by_size g hs)
each_inserted P g [] p a = (p, tt)
each_inserted P g (h ∷ hs) p a =
    let rest = each_inserted P g hs p a.1 in
    elim (is_smaller g h) as (λ b. AllByRecursion P (cond b (g ∷ h ∷ hs) (h ∷ insert_by_size g hs))) [ true ↦ (p, a) | false ↦ (a.0, rest) ]

pub each_by_size : (P : Span → Type 0) (gs : List Span) → AllByRecursion P gs → AllByRecursion P (by_size gs)
each_by_size P [] a = tt
each_by_size P (g ∷ gs) a = each_inserted P g (by_size gs) a.0 (each_by_size P gs a.1)

-- ---- the heap with the kept bytes

module _ (old new : List ℕ) where
  part_of : (at from : ℕ) → from + 4 ≤ 16 → IsSame old new at 16 → IsSame old new (at + from) 4
  part_of at from fits h = IsSame-part old new at 16 (at + from) 4 (omega arith) (omega arith) h

  first_word : (at : ℕ) → IsSame old new at 16 → word new at ≡ word old at
  first_word at h = word-same old new at (IsSame-part old new at 16 at 4 (omega arith) (omega arith) h)

  pub link-kept : (at : ℕ) → IsSame old new at 16 → link_at new at ≡ link_at old at
  link-kept at h = target-same old new (at + 12) (part_of at 12 (omega arith) h)

  pub AreHeaders-kept : (ts : List Tile) (before : ℕ) → AllByRecursion (λ t. IsSame old new t.at 16) ts → AreHeaders old before ts → AreHeaders new before ts
  AreHeaders-kept [] before a h = tt
  AreHeaders-kept (t ∷ ts) before a h = (
    IsHeader-same old new before before t (first_word t.at a.0) (word-same old new (t.at + 4) (part_of t.at 4 (omega arith) a.0) ∙ h.0.before_is) (word-same old new (t.at + 8) (part_of t.at 8 (omega arith) a.0)) h.0,
    AreHeaders-kept ts t.units a.1 h.1,
  )

  Links-kept : (at : ℕ) (gs : List Span) (last : Option ℕ) → target new at ≡ target old at → AllByRecursion (λ g. IsSame old new g.at 16) gs → Links old at gs last → Links new at gs last
  Links-kept at [] last e a l = e ∙ l
  Links-kept at (g ∷ gs) last e a l = (e ∙ l.0, Links-kept (g.at + 12) gs last (link-kept g.at a.0) a.1 l.1)

  nodes_kept : (gs : List Span) → AllByRecursion (λ g. IsSame old new (g.at + 16) 16) gs → AllByRecursion (λ p. IsSame old new p 16) (map (λ g. g.at + 16) gs)
  nodes_kept [] a = tt
  nodes_kept (g ∷ gs) a = (a.0, nodes_kept gs a.1)

  pub HoldsGaps-kept : (allocator : ℕ) (gs : List Span) → IsSame old new free_word 4 → AllByRecursion (λ g. IsSame old new g.at 16) gs
      → AllByRecursion (λ g. IsSame old new (g.at + 16) 16) gs → HoldsGaps allocator old gs → HoldsGaps allocator new gs
  HoldsGaps-kept zero gs root headers payloads h = Links-kept free_word gs None (target-same old new free_word root) headers h
  HoldsGaps-kept (suc n) gs root headers payloads h = record {
    tree = h.tree;
    is_tree = rw (target-same old new free_word root) (IsTree-same old new (target old free_word) h.tree (rw h.nodes_are (nodes_kept (by_size gs) (each_by_size _ gs payloads))) h.is_tree);
    red_black = h.red_black;
    nodes_are = h.nodes_are;
    links = each_both _ _ _ (λ g l s. link-kept g.at s ∙ l) gs h.links headers;
  }

  module _ (allocator : ℕ) (heap : IsHeap allocator old) (k : KeepsTiles old new) where
    headers_new : AreHeaders new 0 (tiles old)
    headers_new = AreHeaders-kept (tiles old) 0 k.headers_kept heap.headers

    pub tiles-kept : tiles new ≡ tiles old
    tiles-kept = tiles-unique new (tiles old) (rw k.length_kept heap.filled) headers_new

    pub live-kept : live new ≡ live old
    unfolding live
    live-kept = ap live_of tiles-kept

    pub gaps-kept : gaps new ≡ gaps old
    gaps-kept = rw (live-kept, k.length_kept) refl

    gaps_free : gaps old ≡ free_of (tiles old)
    unfolding live
    gaps_free = gaps_between-live_of (tiles old) true heap_start (length old) heap.filled heap.apart

    gap_headers : AllByRecursion (λ g. IsSame old new g.at 16) (gaps old)
    gap_headers = subst (λ gs. AllByRecursion (λ g. IsSame old new g.at 16) gs) (sym gaps_free) (each_free (λ p. IsSame old new p 16) (tiles old) k.headers_kept)

    pub IsHeap-kept : IsHeap allocator new
    IsHeap-kept = record {
      filled = rw (tiles-kept, k.length_kept) heap.filled;
      headers = rw tiles-kept headers_new;
      apart = rw tiles-kept heap.apart;
      free = subst (λ gs. HoldsGaps allocator new gs) (sym gaps-kept) (HoldsGaps-kept allocator (gaps old) k.root_kept gap_headers k.free_kept heap.free);
      small = rw k.length_kept heap.small;
    }

    pub live_headers : AllByRecursion (λ b. IsSame old new b.at 16) (live old)
    unfolding live
    live_headers = each_live (λ p. IsSame old new p 16) (tiles old) k.headers_kept

    pub IsOwnable-kept : (table : Table) → AllByRecursion (λ b. IsOwnable old table b.at) (live old) → AllByRecursion (λ b. IsOwnable new table b.at) (live new)
    IsOwnable-kept table a = subst (λ bs. AllByRecursion (λ b. IsOwnable new table b.at) bs) (sym live-kept)
        (each_both _ _ _ (λ b o s. record {
          kind = o.kind;
          type = o.type;
          allowed = o.allowed;
          tag_is = word-same old new (b.at + 8) (part_of b.at 8 (omega arith) s) ∙ o.tag_is;
          link_is = link-kept b.at s ∙ o.link_is;
        }) (live old) a live_headers)
