-- Blocks according to their headers, and their neighbours.
use Rattle.std.proofs.Common.{◌≡◌, ℕ, ◌+◌, ◌*◌, ◌≤◌, Bool, true, false, List, [], ◌∷◌, ◌++◌, length, Option, Some, None, refl, sym, ap, ◌∙◌, subst, arith}
use Rattle.std.specs.Prelude.{IfSome}
use Rattle.std.proofs.lemmas.List.{append_assoc}
use Rattle.seg_spec.specs.Heap.{Tile, units_before, is_live_at, heap_start}
use Rattle.seg_spec.proofs.Heap.TileLaws.{Fill-le, Fill-back, AreHeaders-back}
use Rattle.seg_block.specs.declared.block.Block.{Block}
use Rattle.seg_block.specs.Blocks.{LiesIn, IsSized, IsReadFree}
use Rattle.seg_block.specs.Tiling.{tile, IsTiled}
use Rattle.seg_block.proofs.TileReplacementLaws.{around, aligned_end, header_of}

-- each tile is a block whose size is in its header
pub IsSized-tile : (bytes : List ℕ) (xs ys : List Tile) (at u : ℕ) (live : Bool) → IsTiled bytes (xs ++ tile at u live ∷ ys) → IsSized bytes (record { at = at; units = u })
IsSized-tile bytes xs ys at u live was =
    let parts = around xs ys heap_start (length bytes) at u live was.filled in
    record {
      aligned = aligned_end xs heap_start at refl parts.0;
      large = parts.1;
      inside = Fill-le ys (at + 16 * u) (length bytes) parts.2;
      size_is = (header_of bytes xs ys (tile at u live) was).units_is;
    }

-- the next tile begins where a tile ends, and has its size in its header
pub next_block : (bytes : List ℕ) (xs ys : List Tile) (at u : ℕ) (live : Bool) (t : Tile) → IsTiled bytes (xs ++ (tile at u live ∷ t ∷ ys)) → (at + 16 * u ≡ t.at) × IsSized bytes (record { at = t.at; units = t.units })
next_block bytes xs ys at u live t was =
    let parts = around xs (t ∷ ys) heap_start (length bytes) at u live was.filled in
    (sym parts.2.0, IsSized-tile bytes (xs ++ tile at u live ∷ []) ys t.at t.units t.live (subst (λ l. IsTiled bytes l) (sym (append_assoc xs (tile at u live ∷ []) (t ∷ ys))) was))

-- the last tile ends at the end of the bytes
pub last_end : (bytes : List ℕ) (xs : List Tile) (at u : ℕ) (live : Bool) → IsTiled bytes (xs ++ tile at u live ∷ []) → at + 16 * u ≡ length bytes
last_end bytes xs at u live was = (around xs [] heap_start (length bytes) at u live was.filled).2

-- the tile before a position
pub record IsBefore (bytes : List ℕ) (at before : ℕ) (t : Tile) : Type 0 where
  pub units_is : before ≡ t.units
  pub large : 2 ≤ t.units
  pub end_is : t.at + 16 * t.units ≡ at
  pub block : IsSized bytes (record { at = t.at; units = t.units })

pub previous_block : (bytes : List ℕ) (xs ys : List Tile) (at u before : ℕ) (live : Bool) (t : Tile) → before ≡ units_before bytes at → IsTiled bytes (xs ++ (t ∷ tile at u live ∷ ys)) → IsBefore bytes at before t
previous_block bytes xs ys at u before live t is was =
    let parts = Fill-back xs (t ∷ tile at u live ∷ ys) heap_start (length bytes) was.filled in
    let heads = AreHeaders-back bytes xs (t ∷ tile at u live ∷ ys) 0 was.headers in
    record {
      units_is = is ∙ heads.1.0.before_is;
      large = parts.1;
      end_is = omega (arith, parts.0, parts.2.0);
      block = IsSized-tile bytes xs (tile at u live ∷ ys) t.at t.units t.live was;
    }

-- no block is read at the end of the bytes
pub none_at_end : (bytes : List ℕ) (result : Option Block) (at : ℕ) → at ≡ length bytes → IfSome result (λ f. (f.at ≡ at) × LiesIn bytes f) → result ≡ None
none_at_end bytes None at e bounds = refl
none_at_end bytes (Some f) at e bounds = absurd (omega (arith, bounds))

-- ---- a neighbour that may be free

tells : (bytes : List ℕ) (t : Tile) (at : ℕ) (flag : Bool) → is_live_at bytes t.at ≡ t.live → at ≡ t.at → flag ≡ is_live_at bytes at → flag ≡ t.live
tells bytes t at flag is place read = read ∙ ap (is_live_at bytes) place ∙ is

never : true ≡ false → ⊥
never e = cc

pub read_free : (bytes : List ℕ) (t : Tile) (f : Block) (flag : Bool) → is_live_at bytes t.at ≡ t.live → (f.at ≡ t.at) × (f.units ≡ t.units) → flag ≡ is_live_at bytes f.at → flag ≡ false → IsReadFree t (Some f)
read_free bytes t f flag is place read free = record {
  free = λ _. place;
  live = λ e. absurd (never (sym e ∙ sym (tells bytes t f.at flag is place.0 read) ∙ free));
}

pub read_live : (bytes : List ℕ) (t : Tile) (f : Block) (flag : Bool) → is_live_at bytes t.at ≡ t.live → (f.at ≡ t.at) × (f.units ≡ t.units) → flag ≡ is_live_at bytes f.at → flag ≡ true → IsReadFree t None
read_live bytes t f flag is place read live = record {
  free = λ e. absurd (never (sym live ∙ tells bytes t f.at flag is place.0 read ∙ e));
  live = λ _. refl;
}

pub next_flag : (bytes : List ℕ) (xs ys : List Tile) (s t : Tile) → IsTiled bytes (xs ++ (s ∷ t ∷ ys)) → is_live_at bytes t.at ≡ t.live
next_flag bytes xs ys s t was = (header_of bytes (xs ++ s ∷ []) ys t (subst (λ l. IsTiled bytes l) (sym (append_assoc xs (s ∷ []) (t ∷ ys))) was)).live_is

pub own_flag : (bytes : List ℕ) (xs ys : List Tile) (t : Tile) → IsTiled bytes (xs ++ (t ∷ ys)) → is_live_at bytes t.at ≡ t.live
own_flag bytes xs ys t was = (header_of bytes xs ys t was).live_is
