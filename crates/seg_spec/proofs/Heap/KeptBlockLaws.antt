-- The bytes of the remaining blocks that a call of the heap keeps.
use Rattle.std.proofs.Common.{◌≡◌, ℕ, zero, suc, ◌+◌, ◌*◌, ◌<◌, ◌≤◌, true, false, List, [], ◌∷◌, length, cond, refl, sym, ◌∙◌, subst, arith}
use Rattle.std.specs.Prelude.{Contains, slice_index_or, min}
use Rattle.std.specs.List.{AllByRecursion}
use Rattle.seg_spec.specs.Bytes.{Agrees}
use Rattle.seg_spec.specs.Header.{free_word, back_start, back_size, KeepsFront, KeepsBack}
use Rattle.seg_spec.specs.Types.{Table}
use Rattle.seg_spec.specs.Heap.{Span, Tile, span_of, end_of, units_at, is_live_at, tiles, Fill, AreHeaders, live_of, live, IsHeap, heap_start, Keeps}
use Rattle.seg_spec.specs.Block.{KeepsBlock, payload_size, IsOwnable}
use Rattle.seg_spec.proofs.BytesLaws.{slice-agrees, number-agrees}
use Rattle.seg_spec.proofs.PointerLaws.{target-same}
use Rattle.seg_spec.proofs.Heap.TileLaws.{Fill-le}

pub each_contained : {X : Type 0} (P : X → Type 0) (xs : List X) (x : X) → AllByRecursion P xs → Contains xs x → P x
each_contained {X = X} P xs x a c = go xs c.0 a c.1 c.2
  where
    go : (xs : List X) (k : ℕ) → AllByRecursion P xs → k < length xs → slice_index_or xs k x ≡ x → P x
    go [] k a l e = absurd (omega arith)
    go (y ∷ ys) zero a l e = subst P e a.0
    go (y ∷ ys) (suc k) a l e = go ys k a.1 (omega arith) e

-- the header of an allocated block states its size
pub record StatesSpan (bytes : List ℕ) (to : ℕ) (b : Span) : Type 0 where
  pub units_is : units_at bytes b.at ≡ b.units
  pub live_is : is_live_at bytes b.at ≡ true
  pub size : 2 ≤ b.units
  pub high : end_of b ≤ to

spans_stated : (bytes : List ℕ) (ts : List Tile) (from to before : ℕ) → Fill from ts to → AreHeaders bytes before ts → AllByRecursion (StatesSpan bytes to) (live_of ts)
spans_stated bytes [] from to before f h = tt
spans_stated bytes (t ∷ ts) from to before f h =
    let rest = spans_stated bytes ts (from + 16 * t.units) to t.units f.2 h.1 in
    let le = Fill-le ts (from + 16 * t.units) to f.2 in
    let end : t.at + 16 * t.units ≤ to = omega (arith, f.0) in
    elim t.live as (λ b. t.live ≡ b → AllByRecursion (StatesSpan bytes to) (cond b (span_of t ∷ live_of ts) (live_of ts))) [
      | true ↦ (λ e. (record { units_is = h.0.units_is; live_is = h.0.live_is ∙ e; size = f.1; high = end }, rest))
      | false ↦ (λ e. rest)
    ] refl

pub live_stated : (bytes : List ℕ) (allocator : ℕ) → IsHeap allocator bytes → AllByRecursion (StatesSpan bytes (length bytes)) (live bytes)
unfolding live
live_stated bytes allocator heap = spans_stated bytes (tiles bytes) heap_start (length bytes) 0 heap.filled heap.headers

-- a block that stays allocated and isn't cut is kept
pub block_kept : (old new : List ℕ) (a a' : ℕ) (b c : Span) → IsHeap a old → IsHeap a' new → Keeps old new → Contains (live old) b → Contains (live new) c → b.at ≡ c.at → b.units ≤ c.units → KeepsBlock old new b.at
block_kept old new a a' b c heap heap' k in_old in_new same le =
    let s = each_contained (StatesSpan old (length old)) (live old) b (live_stated old a heap) in_old in
    let t = each_contained (StatesSpan new (length new)) (live new) c (live_stated new a' heap') in_new in
    let agrees = k.blocks_kept b c in_old in_new same in
    let small : min b.units c.units ≡ b.units = omega arith in
    let agree : Agrees old new (b.at + 8) (b.at + 16 * b.units) = rw small at agrees in
    let units_old = s.units_is in
    let units_new : units_at new b.at ≡ c.units = rw same t.units_is in
    let live_new : is_live_at new b.at ≡ true = rw same t.live_is in
    let size = s.size in
    let high = s.high in
    record {
      live = live_new ∙ sym s.live_is;
      has_tag = number-agrees old new (b.at + 8) (b.at + 16 * b.units) 4 (b.at + 8) agree (omega arith) (omega arith);
      room = omega arith;
      payload = slice-agrees old new (b.at + 8) (b.at + 16 * b.units) (b.at + 16) (payload_size old b.at) agree (omega arith) (omega arith) (omega arith);
    }

-- a block that stays allocated keeps its tag and link
pub block_ownable : (old new : List ℕ) (a a' : ℕ) (table : Table) (b c : Span) → IsHeap a old → IsHeap a' new → Keeps old new → Contains (live old) b → Contains (live new) c → b.at ≡ c.at → IsOwnable old table b.at
    → IsOwnable new table b.at
block_ownable old new a a' table b c heap heap' k in_old in_new same o =
    let s = each_contained (StatesSpan old (length old)) (live old) b (live_stated old a heap) in_old in
    let t = each_contained (StatesSpan new (length new)) (live new) c (live_stated new a' heap') in_new in
    let agree = k.blocks_kept b c in_old in_new same in
    let two : 2 ≤ min b.units c.units = omega (arith, s.size, t.size) in
    record {
      kind = o.kind;
      type = o.type;
      allowed = o.allowed;
      tag_is = number-agrees old new (b.at + 8) (b.at + 16 * min b.units c.units) 4 (b.at + 8) agree (omega arith) (omega arith) ∙ o.tag_is;
      link_is = target-same old new (b.at + 12) (number-agrees old new (b.at + 8) (b.at + 16 * min b.units c.units) 4 (b.at + 12) agree (omega arith) (omega arith)) ∙ o.link_is;
    }

-- the bytes before the heap are kept, except for the word of the free structure
pub front_kept : (old new : List ℕ) → Keeps old new → heap_start ≤ length old → KeepsFront old new × KeepsBack old new
front_kept old new k long = (
  slice-agrees old new 0 free_word 0 free_word k.front_kept (omega arith) (omega arith) (omega arith),
  slice-agrees old new back_start heap_start back_start back_size k.back_kept (omega arith) (omega arith)
      (omega arith),
)
