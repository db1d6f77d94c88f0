-- The blocks that are kept, and the blocks that wait, after a block is freed.
use Rattle.std.proofs.Common.{◌≡◌, ◌≢◌, ℕ, zero, suc, ◌+◌, ◌-◌, ◌*◌, ◌≤◌, ◌<◌, ◌⊎◌, inl, inr, true, false, List, [], ◌∷◌, length, eqb, refl, sym, ap, ◌∙◌, subst, arith, min}
use Rattle.std.specs.Prelude.{Contains, slice_index_or}
use Rattle.std.proofs.lemmas.Bool.Decides.{nat_tests}
use Rattle.std.proofs.lemmas.Bool.{cases_eq}
use Rattle.seg_spec.specs.Bytes.{Agrees}
use Rattle.seg_spec.specs.Types.{Table}
use Rattle.seg_spec.specs.Heap.{Span, without, IsHeap, live, Gives}
use Rattle.seg_spec.specs.Block.{KeepsBlock, IsOwnable, payload_size}
use Rattle.seg_spec.specs.Sound.{times, positions}
use Rattle.seg_spec.specs.Demand.{after_gives}
use Rattle.seg_spec.proofs.BytesLaws.{number-agrees}
use Rattle.seg_spec.proofs.PointerLaws.{target-same}
use Rattle.seg_spec.proofs.Heap.LiveBlockLaws.{times-other, times-more, not_there}
use Rattle.seg_spec.proofs.Heap.KeptBlockLaws.{each_contained, StatesSpan, live_stated, block_kept}
use Rattle.seg_spec.specs.Owing.{KeepsLinked}

-- the block at a position of the list
pub record Found (k : ℕ) (bs : List Span) : Type 0 where
  pub block : Span
  pub among : Contains bs block
  pub at_is : block.at ≡ k

head_among : (b : Span) (bs : List Span) → Contains (b ∷ bs) b
head_among b bs = (0, omega arith, refl)

more_among : (c b : Span) (bs : List Span) → Contains bs b → Contains (c ∷ bs) b
more_among c b bs h = (suc h.0, omega (arith, h.1), h.2)

pub found : (k : ℕ) (bs : List Span) → 1 ≤ times k (positions bs) → Found k bs
found k [] some = absurd (omega arith)
found k (b ∷ bs) some = go (cases_eq b.at k) (found k bs)
  where
    go : (b.at ≡ k) ⊎ (b.at ≢ k) → (1 ≤ times k (positions bs) → Found k bs) → Found k (b ∷ bs)
    go (inl e) rest = record { block = b; among = head_among b bs; at_is = e }
    go (inr ne) rest =
        let r = rest (omega (arith, times-other k b.at (positions bs) ne)) in
        record { block = r.block; among = more_among b r.block bs r.among; at_is = r.at_is }

pub still_among : (at : ℕ) (bs : List Span) (b : Span) → Contains bs b → b.at ≢ at → Contains (without at bs) b
still_among at [] b h ne = h
still_among at (c ∷ cs) b h ne = go (λ k. still_among at cs b k ne) h.0 h.1 h.2 (cases_eq c.at at)
  where
    go : (Contains cs b → Contains (without at cs) b) → (i : ℕ) → i < length (c ∷ cs) → slice_index_or (c ∷ cs) i b ≡ b → (c.at ≡ at) ⊎ (c.at ≢ at) → Contains (without at (c ∷ cs)) b
    go rest zero l e (inl same) = let b_at : c.at ≡ b.at = ap (λ (s : Span). s.at) e in absurd (ne (sym b_at ∙ same))
    go rest zero l e (inr other) = let off : eqb c.at at ≡ false = grind (arith, nat_tests) in rw off (0, omega arith, e)
    go rest (suc i) l e (inl same) = let on : eqb c.at at ≡ true = grind (arith, nat_tests) in rw on (i, omega arith, e)
    go rest (suc i) l e (inr other) = let off : eqb c.at at ≡ false = grind (arith, nat_tests) in rw off (more_among c b (without at cs) (rest (i, omega arith, e)))

-- a block that isn't freed is still allocated
still_given : (gives : List ℕ) (bs : List Span) (b : Span) → Contains bs b → times b.at gives ≡ 0 → Contains (after_gives bs gives) b
still_given [] bs b h none = h
still_given (x ∷ xs) bs b h none =
    let other = (not_there b.at (x ∷ xs) none).0 in
    still_given xs (without x bs) b (still_among x bs b h (λ e. other (sym e))) (omega (arith, none, times-more b.at x xs))

-- a block that is kept and stays allocated keeps its size and its link
pub kept_linked : (allocator : ℕ) (old new : List ℕ) (table : Table) → IsHeap allocator old → IsHeap allocator new → (gives : List ℕ) → live new ≡ after_gives (live old) gives → (h : ℕ) → 1 ≤ times h (positions (live old))
    → times h gives ≡ 0 → IsOwnable old table h → IsOwnable new table h → KeepsBlock old new h → KeepsLinked old new h
kept_linked allocator old new table heap heap_then gives live_is h some none was is k =
    let f = found h (live old) some in
    let among = still_given gives (live old) f.block f.among (subst (λ x. times x gives ≡ 0) (sym f.at_is) none) in
    let there_is : Contains (live new) f.block = subst (λ bs. Contains bs f.block) (sym live_is) among in
    let s = each_contained (StatesSpan old (length old)) (live old) f.block (live_stated old allocator heap) f.among in
    let t = each_contained (StatesSpan new (length new)) (live new) f.block (live_stated new allocator heap_then) there_is in
    record {
      whole = record { kept = k; size_kept = subst (λ x. payload_size new x ≡ payload_size old x) f.at_is (ap (λ u. 16 * u - 16) (t.units_is ∙ sym s.units_is)) };
      link_kept = is.link_is ∙ sym was.link_is;
    }

module _ (allocator : ℕ) (old new : List ℕ) (at : ℕ) (heap : IsHeap allocator old) (g : Gives allocator old new at) where
  -- all other allocated blocks are kept, with their sizes, tags and links
  pub given_kept : (k : ℕ) → 1 ≤ times k (positions (live old)) → k ≢ at → KeepsLinked old new k
  given_kept k some ne =
      let f = found k (live old) some in
      let b = f.block in
      let b_at = f.at_is in
      let there_is : Contains (live new) f.block = subst (λ bs. Contains bs f.block) (sym g.given) (still_among at (live old) f.block f.among (λ e. ne (sym b_at ∙ e))) in
      let kept = block_kept old new allocator allocator f.block f.block heap g.heap g.kept f.among there_is refl (omega arith) in
      let s = each_contained (StatesSpan old (length old)) (live old) f.block (live_stated old allocator heap) f.among in
      let t = each_contained (StatesSpan new (length new)) (live new) f.block (live_stated new allocator g.heap) there_is in
      let agree = g.kept.blocks_kept f.block f.block f.among there_is refl in
      let two = s.size in
      let whole : min f.block.units f.block.units ≡ f.block.units = omega arith in
      let agrees : Agrees old new (f.block.at + 8) (f.block.at + 16 * f.block.units) = rw whole at agree in
      let r : KeepsLinked old new f.block.at = record {
        whole = record { kept = kept; size_kept = ap (λ u. 16 * u - 16) (t.units_is ∙ sym s.units_is) };
        link_kept = target-same old new (f.block.at + 12) (number-agrees old new (f.block.at + 8) (f.block.at + 16 * f.block.units) 4 (f.block.at + 12) agrees (omega arith) (omega arith));
      } in
      subst (λ h. KeepsLinked old new h) b_at r
