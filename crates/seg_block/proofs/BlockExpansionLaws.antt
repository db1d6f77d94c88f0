-- A block gets another size, from what the steps ensure.
use Rattle.std.proofs.Common.{◌≡◌, ◌≢◌, ℕ, ◌+◌, ◌-◌, ◌*◌, ◌≤◌, true, false, Bool, List, [], ◌∷◌, ◌++◌, Some, None, sym, ap, ◌∙◌, subst, arith, ◌⊎◌, ⊎_elim}
use Rattle.std.specs.Prelude.{Contains}
use Rattle.seg_spec.specs.Bytes.{Agrees}
use Rattle.seg_spec.specs.Heap.{Span, Tile, AreApart, live, gaps, IsHeap, room_at, expanded, shrunk, Expands, Shrinks}
use Rattle.seg_block.specs.Blocks.{IsSized, IsResized}
use Rattle.seg_block.specs.Tiling.{tile, IsTiling, Retiles}
use Rattle.seg_block.proofs.LiveBlocks.{read_is, read_held}
use Rattle.seg_block.proofs.ResizedBlockLaws.{HasGap, room_cases, resized_whole, resized_cut, resized_less, expands_not, expands_to, shrinks_to, before, following, was}

module _ {allocator : ℕ} (Place : List Tile → Type 0) (old mid new : List ℕ) (at u room n : ℕ) (h : IsHeap allocator old) (held : Contains (live old) (record { at = at; units = u })) (room_is : room ≡ room_at (gaps old) (at + 16 * u))
    (place : Place (before old at u h held))
    (none : room ≡ 0 → mid ≡ old)
    (absorb : (xs ys : List Tile) → Place xs → IsTiling allocator old (xs ++ (tile at u true ∷ tile (at + 16 * u) room false ∷ ys)) → Retiles allocator old mid xs (tile at (u + room) true ∷ []) ys × Agrees old mid (at + 8) (at + 16 * u))
    (whole : n ≡ u + room → new ≡ mid)
    (cut : n + 2 ≤ u + room → (xs ys : List Tile) → Place xs → IsTiling allocator mid (xs ++ tile at (u + room) true ∷ ys)
    → Retiles allocator mid new xs (tile at n true ∷ tile (at + 16 * n) (u + room - n) false ∷ []) ys × Agrees mid new (at + 8) (at + 16 * n)) where
  -- if no gap is after the block, its end is cut
  cut_alone : room ≡ 0 → AreApart false (following old at u h held) → n + 2 ≤ u + room → IsResized allocator old new at n
  cut_alone e apart more =
      let same : u + room ≡ u = omega arith in
      let c = subst (λ (p : List ℕ × ℕ). IsTiling allocator p.0 (before old at u h held ++ tile at p.1 true ∷ following old at u h held)
      → Retiles allocator p.0 new (before old at u h held) (tile at n true ∷ tile (at + 16 * n) (p.1 - n) false ∷ []) (following old at u h held) × Agrees p.0 new (at + 8) (at + 16 * n))
      (λ i. (none e i, same i)) (cut more (before old at u h held) (following old at u h held) place) in
      resized_less old at u h held new n apart (c (was old at u h held))

  -- if a gap is after the block, all or some of it is added to the block
  module _ (gap : HasGap old at u h held room) where
    absorbed : Retiles allocator old mid (before old at u h held) (tile at (u + room) true ∷ []) gap.rest × Agrees old mid (at + 8) (at + 16 * u)
    absorbed = absorb (before old at u h held) gap.rest place gap.tiling

    take_whole : n ≡ u + room → IsResized allocator old new at n
    take_whole e = subst (λ (p : List ℕ × ℕ). IsResized allocator old p.0 at p.1) (λ i. (sym (whole e) i, sym e i)) (resized_whole old at u h held mid room gap absorbed)

    take_part : n + 2 ≤ u + room → IsResized allocator old new at n
    take_part more = resized_cut old at u h held mid new room n gap absorbed (cut more (before old at u h held) gap.rest place absorbed.0.tiling)

  pub resized : n ≢ u → (n ≡ u) ⊎ ((n ≡ u + room) ⊎ (n + 2 ≤ u + room)) → IsResized allocator old new at n
  resized other sizes =
      ⊎_elim (λ e. absurd (other e))
      (λ sizes. ⊎_elim
      (λ none. let e : room ≡ 0 = room_is ∙ none.1 in ⊎_elim (λ all. absurd (other (omega arith))) (λ more. cut_alone e none.0 more) sizes)
      (λ g. let gap = subst (λ v. HasGap old at u h held v) (sym g.1.room ∙ sym room_is) g.1 in ⊎_elim (λ all. take_whole gap all) (λ more. take_part gap more) sizes)
      (room_cases old at u h held))
      sizes

-- ---- the block at the call's position

module _ {allocator : ℕ} (old : List ℕ) (named x at u : ℕ) (h : IsHeap allocator old) (held : Contains (live old) (record { at = named; units = x })) (read : (g : Span) → named ≡ g.at → IsSized old g → (at ≡ g.at) × (u ≡ g.units))
    (room : ℕ) (room_is : (allocator : ℕ) → IsHeap allocator old → Contains (live old) (record { at = at; units = u }) → room ≡ room_at (gaps old) (at + 16 * u)) where
  is : (at ≡ named) × (u ≡ x)
  is = read_is old named x h held at u read

  here : Contains (live old) (record { at = at; units = u })
  here = read_held old named x h held at u read

  room_here : room ≡ room_at (gaps old) (at + 16 * u)
  room_here = room_is allocator h here

  named_expands : (new : List ℕ) (need : ℕ) (done : Bool) → Expands allocator old new at u need done → Expands allocator old new named x need done
  named_expands new need done e = subst (λ (p : ℕ × ℕ). Expands allocator old new p.0 p.1 need done) (λ i. (is.0 i, is.1 i)) e

  pub expand_never : (need : ℕ) → None ≡ expanded u room need → Expands allocator old old named x need false
  expand_never need none = named_expands old need false (expands_not old at u need h here (sym (none ∙ ap (λ r. expanded u r need) room_here)))

  -- the block keeps its units
  pub shrink_none : (need n : ℕ) → n ≡ shrunk u room need → shrunk x (room_at (gaps old) (named + 16 * x)) need ≡ x → n ≡ u
  shrink_none need n n_is kept =
      n_is ∙ ap (λ r. shrunk u r need) room_here ∙ (λ i. shrunk (is.1 i) (room_at (gaps old) (is.0 i + 16 * is.1 i)) need) ∙ kept ∙ sym is.1

  module _ (new : List ℕ) (n : ℕ) (resized : IsHeap allocator old → Contains (live old) (record { at = at; units = u }) → room ≡ room_at (gaps old) (at + 16 * u) → IsResized allocator old new at n) where
    pub expand_done : (need : ℕ) → Some n ≡ expanded u room need → (n ≡ u → new ≡ old) → Expands allocator old new named x need true
    expand_done need some same = named_expands new need true (expands_to old at u need h here new n (sym (some ∙ ap (λ r. expanded u r need) room_here)) same (resized h here room_here))

    pub shrink_done : (need : ℕ) → n ≡ shrunk u room need → Shrinks allocator old new named x need
    shrink_done need n_is =
        subst (λ (p : ℕ × ℕ). Shrinks allocator old new p.0 p.1 need) (λ i. (is.0 i, is.1 i))
        (shrinks_to old at u need h here new n (sym (n_is ∙ ap (λ r. shrunk u r need) room_here)) (resized h here room_here))
