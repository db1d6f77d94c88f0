-- The requests for a new object and for its entry, one after the other.
--     entry_asks_kept     an index whose buffer keeps its room has the same request for an entry
--     spent_after, asks_after, no_room_first
--                         requests after one for a new block
--     gets_one            the request gets the block that wasn't allocated before
--     returned_one        the allocated blocks are the same after a new block is freed
use Rattle.std.proofs.Common.{◌≡◌, ◌≢◌, ℕ, zero, suc, ◌+◌, ◌-◌, ◌*◌, ◌≤◌, ◌⊎◌, inl, inr, true, false, List, [], ◌∷◌, cond, eqb, leb, Option, Some, None, option_map, option_to_list, refl, sym, ap, ◌∙◌, arith}
use Rattle.std.specs.Prelude.{nat_lt}
use Rattle.std.proofs.lemmas.Bool.Decides.{nat_tests}
use Rattle.std.proofs.lemmas.Bool.{cases_eq}
use Rattle.seg_spec.specs.Bytes.{word, IsSame}
use Rattle.seg_spec.specs.Header.{index_kind_word, index_cell}
use Rattle.seg_spec.specs.Pointer.{target}
use Rattle.seg_spec.specs.Heap.{Span, units_at, pick, gaps_of, granted, with_block, without, fresh}
use Rattle.seg_spec.specs.Block.{block_of, payload_size}
use Rattle.seg_spec.specs.Reads.{count_at}
use Rattle.seg_spec.specs.Index.{Root, Index, OpensIndex, ListsNames}
use Rattle.seg_spec.specs.Sound.{times, positions}
use Rattle.seg_spec.specs.Demand.{Ask, units_for, growth, growth_if_needed, after_ask, after_asks, NoRoom}
use Rattle.seg_spec.specs.Spending.{units_named, buffer_asks, entry_asks, spent}
use Rattle.seg_spec.proofs.Values.PlaceFrameLaws.{cell-target, cell-count}
use Rattle.seg_spec.proofs.Heap.LiveBlockLaws.{times-same, times-other, times-with_block, not_there}

-- ---- the request for the entry

-- whether a buffer must grow depends only on the room of its block
same_room : (units more : ℕ) (old : Option ℕ) (item count wanted : ℕ) → 16 * units - 16 ≡ 16 * more - 16 → growth_if_needed units old item count wanted ≡ growth_if_needed more old item count wanted
same_room units more old item count wanted e = ap (λ room. cond (leb (wanted * item) room) [] (growth old item count wanted ∷ [])) e

buffer_asks_kept : (old new : List ℕ) (at item wanted : ℕ) → target new at ≡ target old at → count_at new at ≡ count_at old at
    → ((p : ℕ) → target old at ≡ Some p → payload_size new (block_of p) ≡ payload_size old (block_of p)) → buffer_asks new at item wanted ≡ buffer_asks old at item wanted
buffer_asks_kept old new at item wanted t n kept =
    ap (λ c. growth_if_needed (units_named new at) (option_map block_of (target new at)) item c wanted) n ∙ ap (λ o. growth_if_needed (units_named new at) (option_map block_of o) item (count_at old at) wanted) t
    ∙ same_room (units_named new at) (units_named old at) (option_map block_of (target old at)) item (count_at old at) wanted (go (target old at) refl)
  where
    go : (o : Option ℕ) → target old at ≡ o → 16 * units_named new at - 16 ≡ 16 * units_named old at - 16
    go None e =
        let f : target new at ≡ None = t ∙ e in
        let a : units_named new at ≡ 0 = rw f refl in
        let b : units_named old at ≡ 0 = rw e refl in
        omega arith
    go (Some p) e =
        let f : target new at ≡ Some p = t ∙ e in
        let a : units_named new at ≡ units_at new (block_of p) = rw f refl in
        let b : units_named old at ≡ units_at old (block_of p) = rw e refl in
        ap (λ u. 16 * u - 16) a ∙ kept p e ∙ sym (ap (λ u. 16 * u - 16) b)

pub entry_asks_kept : (old new : List ℕ) (names : List Root) (blocks : List ℕ) → ListsNames old names blocks → word new index_kind_word ≡ word old index_kind_word → IsSame old new index_cell 8
    → ((h : ℕ) → 1 ≤ times h blocks → payload_size new h ≡ payload_size old h) → entry_asks (word new index_kind_word) new ≡ entry_asks (word old index_kind_word) old
entry_asks_kept old new names blocks lists kind cell kept = ap (λ k. entry_asks k new) kind ∙ go (word old index_kind_word) lists.opens
  where
    count : count_at new index_cell ≡ count_at old index_cell
    count = cell-count old new index_cell cell

    go : (k : ℕ) → OpensIndex old k lists.index → entry_asks k new ≡ entry_asks k old
    go zero o =
        ap (λ c. buffer_asks new index_cell 8 (c + 1)) count ∙ buffer_asks_kept old new index_cell 8 (count_at old index_cell + 1) (cell-target old new index_cell cell) count (λ p e.
        let its : blocks ≡ block_of p ∷ [] = lists.blocks_are ∙ ap (λ (i : Index). i.blocks) o.index_is ∙ ap (λ t. option_to_list (option_map block_of t)) e in
        let one = times-same (block_of p) [] in
        let there : times (block_of p) blocks ≡ times (block_of p) (block_of p ∷ []) = ap (times (block_of p)) its in
        kept (block_of p) (omega arith))
    go (suc k) o = refl

-- ---- requests after one for a new block

module _ (allocator : ℕ) (bs mid : List Span) (end u : ℕ) (asks : List Ask) (e : after_asks allocator bs end (units_for u ∷ []) ≡ Some mid) where
  abbrev taking : Span → List Span
  taking g = with_block (record { at = g.at; units = granted g.units u }) bs

  pub spent_after : spent allocator bs end (units_for u ∷ asks) [] ≡ spent allocator mid end asks []
  spent_after = go (pick allocator (gaps_of bs end) u) refl
    where
      go : (o : Option Span) → pick allocator (gaps_of bs end) u ≡ o → spent allocator bs end (units_for u ∷ asks) [] ≡ spent allocator mid end asks []
      go None p = absurd (let f : None ≡ Some mid = rw p at e in cc)
      go (Some g) p =
          let f : Some (taking g) ≡ Some mid = rw p at e in
          let is : taking g ≡ mid = cc in
          rw (p, ← is) refl

  pub asks_after : after_asks allocator bs end (units_for u ∷ asks) ≡ after_asks allocator mid end asks
  asks_after = go (pick allocator (gaps_of bs end) u) refl
    where
      go : (o : Option Span) → pick allocator (gaps_of bs end) u ≡ o → after_asks allocator bs end (units_for u ∷ asks) ≡ after_asks allocator mid end asks
      go None p = absurd (let f : None ≡ Some mid = rw p at e in cc)
      go (Some g) p =
          let f : Some (taking g) ≡ Some mid = rw p at e in
          let is : taking g ≡ mid = cc in
          rw (p, ← is) refl

  module _ (block : ℕ) (was_free : times block (positions bs) ≡ 0) (now_live : times block (positions mid) ≡ 1) where
    pub gets_one : (blocks : List Span) × (after_ask allocator bs end (units_for u) ≡ Some (fresh block blocks))
    gets_one = go (pick allocator (gaps_of bs end) u) refl
      where
        go : (o : Option Span) → pick allocator (gaps_of bs end) u ≡ o → (blocks : List Span) × (after_ask allocator bs end (units_for u) ≡ Some (fresh block blocks))
        go None p = absurd (let f : None ≡ Some mid = rw p at e in cc)
        go (Some g) p = (taking g, at_block (cases_eq g.at block))
          where
            is : taking g ≡ mid
            is = let f : Some (taking g) ≡ Some mid = rw p at e in cc

            gets : after_ask allocator bs end (units_for u) ≡ Some (fresh g.at (taking g))
            gets = rw p refl

            at_block : (g.at ≡ block) ⊎ (g.at ≢ block) → after_ask allocator bs end (units_for u) ≡ Some (fresh block (taking g))
            at_block (inl same) = gets ∙ ap (λ at. Some (fresh at (taking g))) same
            at_block (inr ne) =
                let count = ap (λ cs. times block (positions cs)) (sym is) ∙ times-with_block block (record { at = g.at; units = granted g.units u }) bs in
                let o = times-other block g.at (positions bs) ne in
                absurd (omega arith)

    -- the new block is freed again
    pub returned_one : without block mid ≡ bs
    returned_one = go (pick allocator (gaps_of bs end) u) refl
      where
        without_new : (b : Span) (cs : List Span) → times b.at (positions cs) ≡ 0 → without b.at (with_block b cs) ≡ cs
        without_new b [] none =
            let same : eqb b.at b.at ≡ true = grind (arith, nat_tests) in
            ap (λ t. cond t [] (b ∷ [])) same
        without_new b (c ∷ cs) none =
            let apart = not_there b.at (positions (c ∷ cs)) none in
            let same : eqb b.at b.at ≡ true = grind (arith, nat_tests) in
            let ne = apart.0 in
            let other : eqb c.at b.at ≡ false = grind (arith, nat_tests) in
            let less : times b.at (positions (c ∷ cs)) ≡ times b.at (positions cs) = times-other b.at c.at (positions cs) ne in
            elim (nat_lt b.at c.at) as (λ t. without b.at (cond t (b ∷ c ∷ cs) (c ∷ with_block b cs)) ≡ c ∷ cs) [
              | true ↦ ap (λ t. cond t (c ∷ cs) (b ∷ without b.at (c ∷ cs))) same
              | false ↦ ap (λ t. cond t (with_block b cs) (c ∷ without b.at (with_block b cs))) other ∙ ap (λ ds. c ∷ ds) (without_new b cs (omega arith))
            ]

        go : (o : Option Span) → pick allocator (gaps_of bs end) u ≡ o → without block mid ≡ bs
        go None p = absurd (let f : None ≡ Some mid = rw p at e in cc)
        go (Some g) p = at_block (cases_eq g.at block)
          where
            is : taking g ≡ mid
            is = let f : Some (taking g) ≡ Some mid = rw p at e in cc

            at_block : (g.at ≡ block) ⊎ (g.at ≢ block) → without block mid ≡ bs
            at_block (inl same) =
                let free : times g.at (positions bs) ≡ 0 = ap (λ h. times h (positions bs)) same ∙ was_free in
                ap (λ h. without h mid) (sym same) ∙ ap (without g.at) (sym is) ∙ without_new (record { at = g.at; units = granted g.units u }) bs free
            at_block (inr ne) =
                let count = ap (λ cs. times block (positions cs)) (sym is) ∙ times-with_block block (record { at = g.at; units = granted g.units u }) bs in
                let o = times-other block g.at (positions bs) ne in
                absurd (omega arith)

pub no_room_first : (allocator : ℕ) (bs : List Span) (end u : ℕ) (asks : List Ask) → NoRoom allocator bs end (units_for u ∷ []) → NoRoom allocator bs end (units_for u ∷ asks)
no_room_first allocator bs end u asks e = go (pick allocator (gaps_of bs end) u) refl
  where
    go : (o : Option Span) → pick allocator (gaps_of bs end) u ≡ o → NoRoom allocator bs end (units_for u ∷ asks)
    go None p = rw p refl
    go (Some g) p = absurd (let f : Some (with_block (record { at = g.at; units = granted g.units u }) bs) ≡ None = rw p at e in cc)
