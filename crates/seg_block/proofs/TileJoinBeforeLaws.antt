-- An allocated tile is freed, and joined with the free tile before it, if there is one, and some
-- tiles after it.
use Rattle.std.proofs.Common.{◌≡◌, ℕ, ◌+◌, ◌*◌, Bool, true, false, List, [], ◌∷◌, ◌++◌, Some, None, refl, sym, ap, ◌∙◌, subst, ⊎_elim}
use Rattle.std.proofs.lemmas.List.{append_assoc, append-nil}
use Rattle.seg_spec.specs.Heap.{Tile, AreApart, live_of}
use Rattle.seg_spec.proofs.Heap.TileLaws.{live_after, live_of-append, AreApart-front, AreApart-back}
use Rattle.seg_block.specs.declared.block.Block.{Block}
use Rattle.seg_block.specs.Blocks.{IsReadFree}
use Rattle.seg_block.specs.Joining.{JoinsBefore}
use Rattle.seg_block.specs.Tiling.{tile, IsTiled, IsTiling, Retiles, Spares}
use Rattle.seg_block.proofs.Heaps.{Spares-same}
use Rattle.seg_block.proofs.ReadFree.{found_never, read_is_free, read_is_live, HasLast, last_cases, live_after-last}

module _ {allocator : ℕ} (old : List ℕ) (xs ms ys : List Tile) (at u : ℕ) (was : IsTiling allocator old (xs ++ tile at u true ∷ (ms ++ ys))) (apart : AreApart true xs) where
  around_last : (l : HasLast xs) → IsTiling allocator old (l.front ++ (l.last ∷ tile at u true ∷ (ms ++ ys)))
  around_last l = subst (λ ts. IsTiling allocator old ts) (ap (λ ts. ts ++ tile at u true ∷ (ms ++ ys)) l.parts ∙ append_assoc l.front (l.last ∷ []) (tile at u true ∷ (ms ++ ys))) was

  -- if no free tile is before the block, it is freed alone
  pub joined_none : ((zs vs : List Tile) (l : Bool) (t : Tile) → IsTiled old (zs ++ (t ∷ tile at u l ∷ vs)) → IsReadFree t None)
      → (new : List ℕ) (n : ℕ) → IsTiling allocator new (xs ++ tile at n false ∷ ys) → Spares old new (xs ++ ys) → JoinsBefore allocator old new xs at n ys
  joined_none read new n tiling spared = record {
    front = xs;
    tiling = tiling;
    apart = apart;
    after_live = ⊎_elim (λ e. ap (live_after true) e)
        (λ (l : HasLast xs). ap (live_after true) l.parts ∙ live_after-last l.front l.last true ∙ read_is_live l.last (read l.front (ms ++ ys) true l.last (around_last l).tiled))
        (last_cases xs);
    live_is = refl;
    spared = spared;
  }

  -- if a free tile is before the block, they are joined
  module _ (new : List ℕ) (f : Block) (n : ℕ) (l : HasLast xs) (same : l.last ≡ tile f.at f.units false) (r : Retiles allocator old new l.front (tile f.at n false ∷ []) ys) where
    front_parts : xs ≡ l.front ++ tile f.at f.units false ∷ []
    front_parts = l.parts ∙ ap (λ (t : Tile). l.front ++ t ∷ []) same

    front_live : live_of l.front ≡ live_of xs
    front_live = sym (ap live_of front_parts ∙ live_of-append l.front (tile f.at f.units false ∷ []) ∙ append-nil (live_of l.front))

    front_apart : AreApart true (l.front ++ tile f.at f.units false ∷ [])
    front_apart = subst (λ ts. AreApart true ts) front_parts apart

    not_free : (b : Bool) → (b ≡ false → false ≡ true) → b ≡ true
    not_free true e = refl
    not_free false e = e refl

    joins_last : JoinsBefore allocator old new xs f.at n ys
    joins_last = record {
      front = l.front;
      tiling = r.tiling;
      apart = AreApart-front l.front (tile f.at f.units false ∷ []) true front_apart;
      after_live = not_free (live_after true l.front) (AreApart-back l.front (tile f.at f.units false ∷ []) true front_apart).0;
      live_is = front_live;
      spared = Spares-same old new (l.front ++ ys) (xs ++ ys) (live_of-append xs ys ∙ ap (λ s. s ++ live_of ys) (sym front_live) ∙ sym (live_of-append l.front ys)) r.spared;
    }

  pub joined_some : (f : Block) → ((zs vs : List Tile) (l : Bool) (t : Tile) → IsTiled old (zs ++ (t ∷ tile at u l ∷ vs)) → IsReadFree t (Some f))
      → ((vs : List Tile) (l : Bool) → IsTiled old (tile at u l ∷ vs) → Some f ≡ None) → f.at + 16 * f.units ≡ at → (new : List ℕ) (n : ℕ)
      → ((zs : List Tile) → IsTiling allocator old (zs ++ (tile f.at f.units false ∷ tile (f.at + 16 * f.units) u true ∷ (ms ++ ys))) → Retiles allocator old new zs (tile f.at n false ∷ []) ys)
      → JoinsBefore allocator old new xs f.at n ys
  joined_some f read none place new n takes_in =
      ⊎_elim (λ e. absurd (found_never f (none (ms ++ ys) true (subst (λ ts. IsTiled old (ts ++ tile at u true ∷ (ms ++ ys))) e was.tiled))))
      (λ (l : HasLast xs).
      let is = read_is_free l.last f (read l.front (ms ++ ys) true l.last (around_last l).tiled) in
      let same : l.last ≡ tile f.at f.units false = λ i. record { at = sym is.1.0 i; units = sym is.1.1 i; live = is.0 i } in
      joins_last new f n l same (takes_in l.front (subst (λ (p : Tile × ℕ). IsTiling allocator old (l.front ++ (p.0 ∷ tile p.1 u true ∷ (ms ++ ys)))) (λ i. (same i, sym place i)) (around_last l))))
      (last_cases xs)
