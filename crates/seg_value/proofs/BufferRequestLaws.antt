-- A buffer gets room for more entries, by the result of the request for a block, for cells of any
-- kind.
use Rattle.std.proofs.Common.{◌≡◌, ℕ, ◌-◌, ◌*◌, ◌^◌, ◌<◌, ◌≤◌, max, leb, cond, true, false, List, [], ◌∷◌, length, Option, Some, None, MatchOption, option_map, refl, sym, ap, ◌∙◌, subst, arith}
use Rattle.std.specs.Prelude.{Contains}
use Rattle.std.proofs.Math.Nat.{mul-le-mul_right}
use Rattle.std.proofs.lemmas.Bool.Decides.{nat_tests}
use Rattle.seg_spec.specs.Pointer.{target}
use Rattle.seg_spec.specs.Heap.{Span, span, units_at, link_at, live, IsHeap, Keeps, Takes, Granted, same, fresh, after_request, after_request_at}
use Rattle.seg_spec.specs.Block.{block_of}
use Rattle.seg_spec.specs.Reads.{count_at}
use Rattle.seg_spec.specs.Demand.{Ask, need, growth, after_ask}
use Rattle.seg_spec.specs.Calls.{Refuses}
use Rattle.seg_spec.specs.Spending.{units_named, buffer_asks}
use Rattle.seg_spec.proofs.Heap.KeptBlockLaws.{each_contained, StatesSpan, live_stated}
use Rattle.seg_spec.proofs.Heap.LargeRequestLaws.{too_large, grants_none}
use Rattle.seg_spec.proofs.Heap.GrantLaws.{GrewTo, TookFor, granted_at, granted_new, units_found}
use Rattle.seg_block.specs.Blocks.{IsLiveBlock}
use Rattle.seg_block.specs.Request.{IsGranted, Grants, GrantsNew}
use Rattle.seg_block.specs.declared.grant.Grant.{Grant}
use Rattle.seg_block.specs.declared.grant.Grant.TheVariants.{Same, New}

module _ (allocator : ℕ) (old : List ℕ) (cell each limit : ℕ) where
  abbrev pub ask : Ask
  ask = growth (option_map block_of (target old cell)) each (count_at old cell) limit

  -- ---- the request

  pub asks_nothing : (room : ℕ) → room ≡ 16 * units_named old cell - 16 → limit * each ≤ room → buffer_asks old cell each limit ≡ []
  asks_nothing room e l =
      let fits : leb (limit * each) (16 * units_named old cell - 16) ≡ true = grind (arith, nat_tests) in
      ap (λ b. cond b [] (ask ∷ [])) fits

  pub asks_once : 16 * units_named old cell - 16 < limit * each → buffer_asks old cell each limit ≡ ask ∷ []
  asks_once l =
      let more : leb (limit * each) (16 * units_named old cell - 16) ≡ false = grind (arith, nat_tests) in
      ap (λ b. cond b [] (ask ∷ [])) more

  pub least_first : need (limit * each) ≤ need (max 4 (max (2 * count_at old cell) limit) * each)
  least_first =
      let more : limit ≤ max 4 (max (2 * count_at old cell) limit) = omega arith in
      let m = mul-le-mul_right each more in
      omega arith

  -- ---- the result of the request

  -- a new block that is large enough
  pub record NewFor (mid : List ℕ) (g : ℕ) : Type 0 where
    pub units : ℕ
    pub enough : need (limit * each) ≤ units
    pub takes : Takes allocator old mid units (Some g)
    pub granted : after_ask allocator (live old) (length old) ask ≡ Some (fresh g (live mid))

  -- by the request's result; `Grown` is the fact about a buffer that grew in place
  abbrev pub Enlarged : (List ℕ → Type 0) → List ℕ → Option Grant → Type 0
  Enlarged Grown mid None = Refuses allocator old mid (ask ∷ [])
  Enlarged Grown mid (Some (Same at)) = Grown mid
  Enlarged Grown mid (Some (New g)) = NewFor mid g

  refused : (mid : List ℕ) → after_ask allocator (live old) (length old) ask ≡ None → mid ≡ old → Refuses allocator old mid (ask ∷ [])
  refused mid e same_bytes = record { no_room = rw e refl; same = same_bytes }

  took_new : (mid : List ℕ) (g : ℕ) (after : List Span) → IsHeap allocator mid → Keeps old mid → TookFor allocator (live old) (length old) g after (need (limit * each)) → live mid ≡ after → link_at mid g ≡ None
      → after_ask allocator (live old) (length old) ask ≡ Some (fresh g after) → NewFor mid g
  took_new mid g after heap kept took live_is link e = record {
    units = took.units;
    enough = took.enough;
    takes = record { heap = heap; kept = kept; taken = rw took.taken (refl, live_is, link) };
    granted = e ∙ ap (λ bs. Some (fresh g bs)) (sym live_is);
  }

  module _ (heap : IsHeap allocator old) (buffer : (p : ℕ) → target old cell ≡ Some p → (x : ℕ) × Contains (live old) (span (block_of p) x)) (Grown : List ℕ → Type 0)
      (grew : (mid : List ℕ) (p : ℕ) (after : List Span) → target old cell ≡ Some p → IsHeap allocator mid → Keeps old mid → (x : ℕ) → Contains (live old) (span (block_of p) x)
      → GrewTo (live old) after (block_of p) x (need (limit * each)) → live mid ≡ after → after_ask allocator (live old) (length old) ask ≡ Some (same after) → Grown mid) where
    stated : (d : Span) → Contains (live old) d → StatesSpan old (length old) d
    stated d among = each_contained (StatesSpan old (length old)) (live old) d (live_stated old allocator heap) among

    abbrev Room : ℕ → ℕ → Type 0
    Room at x = (d : Span) → Contains (live old) d → d.at ≡ at → d.units ≡ x

    one_room : (at x : ℕ) → Contains (live old) (span at x) → Room at x
    one_room at x it d among at_is = sym (stated d among).units_is ∙ ap (units_at old) at_is ∙ (stated (span at x) it).units_is

    module _ (mid : List ℕ) (r : Option Grant) (old_block : Option ℕ) (wanted least : ℕ) (block_is : old_block ≡ option_map block_of (target old cell))
        (wanted_by : wanted ≡ need (max 4 (max (2 * count_at old cell) limit) * each)) (least_by : least ≡ need (limit * each))
        (at_block : (at x : ℕ) → old_block ≡ Some at → IsHeap allocator old → IsLiveBlock old at x → Grants allocator old mid at x wanted least r)
        (no_block : old_block ≡ None → IsHeap allocator old → GrantsNew allocator old mid wanted least r) where
      without_block : target old cell ≡ None → Enlarged Grown mid r
      without_block e =
          let g = no_block (block_is ∙ ap (option_map block_of) e) heap in
          let asked : after_ask allocator (live old) (length old) ask ≡ after_request allocator (live old) (length old) wanted least = rw (e, wanted_by, least_by) refl in
          go (after_request allocator (live old) (length old) wanted least) refl asked g.heap g.kept g.grants
        where
          go : (q : Option Granted) → after_request allocator (live old) (length old) wanted least ≡ q → after_ask allocator (live old) (length old) ask ≡ after_request allocator (live old) (length old) wanted least
              → IsHeap allocator mid → Keeps old mid → MatchOption q ((r ≡ None) × (mid ≡ old)) (IsGranted mid 0 r) → Enlarged Grown mid r
          go None f asked there kept k = subst (Enlarged Grown mid) (sym k.0) (refused mid (asked ∙ f) k.1)
          go (Some (same after)) f asked there kept k = absurd (granted_new allocator (live old) (length old) least wanted (same after) (rw (wanted_by, least_by) least_first) f)
          go (Some (fresh g after)) f asked there kept k =
              let took = granted_new allocator (live old) (length old) least wanted (fresh g after) (rw (wanted_by, least_by) least_first) f in
              subst (Enlarged Grown mid) (sym k.0) (took_new mid g after there kept (rw least_by at took) k.1 k.2 (asked ∙ f))

      with_block : (p : ℕ) → target old cell ≡ Some p → Enlarged Grown mid r
      with_block p e =
          let b = buffer p e in
          let g = at_block (block_of p) b.0 (block_is ∙ ap (option_map block_of) e) heap b.1 in
          let one = units_found (live old) (block_of p) b.0 b.1 (one_room (block_of p) b.0 b.1) in
          let asked : after_ask allocator (live old) (length old) ask ≡ after_request_at allocator (live old) (length old) (block_of p) b.0 wanted least = rw (e, one, wanted_by, least_by) refl in
          go b.0 b.1 (after_request_at allocator (live old) (length old) (block_of p) b.0 wanted least) refl asked g.heap g.kept g.grants
        where
          go : (x : ℕ) → Contains (live old) (span (block_of p) x) → (q : Option Granted) → after_request_at allocator (live old) (length old) (block_of p) x wanted least ≡ q
              → after_ask allocator (live old) (length old) ask ≡ after_request_at allocator (live old) (length old) (block_of p) x wanted least
              → IsHeap allocator mid → Keeps old mid → MatchOption q ((r ≡ None) × (mid ≡ old)) (IsGranted mid (block_of p) r) → Enlarged Grown mid r
          go x it None f asked there kept k = subst (Enlarged Grown mid) (sym k.0) (refused mid (asked ∙ f) k.1)
          go x it (Some (same after)) f asked there kept k =
              let g = granted_at allocator (live old) (length old) least (block_of p) x wanted (same after) (rw (wanted_by, least_by) least_first) f in
              subst (Enlarged Grown mid) (sym k.0) (grew mid p after e there kept x it (rw least_by at g) k.1 (asked ∙ f))
          go x it (Some (fresh n after)) f asked there kept k =
              let took = granted_at allocator (live old) (length old) least (block_of p) x wanted (fresh n after) (rw (wanted_by, least_by) least_first) f in
              subst (Enlarged Grown mid) (sym k.0) (took_new mid n after there kept (rw least_by at took) k.1 k.2 (asked ∙ f))

      pub enlarged : Enlarged Grown mid r
      enlarged = go (target old cell) refl
        where
          go : (o : Option ℕ) → target old cell ≡ o → Enlarged Grown mid r
          go None e = without_block e
          go (Some p) e = with_block p e

    -- a request for more bytes than any segment has
    pub enlarged_large : (mid : List ℕ) (r : Option Grant) (old_block : Option ℕ) (wanted least : ℕ) → old_block ≡ option_map block_of (target old cell)
        → 2 ^ 32 ≤ limit * each → wanted ≡ need (2 ^ 32 - 1) → least ≡ need (2 ^ 32 - 1)
        → ((at x : ℕ) → old_block ≡ Some at → IsHeap allocator old → IsLiveBlock old at x → Grants allocator old mid at x wanted least r)
        → (old_block ≡ None → IsHeap allocator old → GrantsNew allocator old mid wanted least r) → Enlarged Grown mid r
    enlarged_large mid r old_block wanted least block_is large wanted_by least_by at_block no_block = go (target old cell) refl
      where
        none : after_ask allocator (live old) (length old) (record { old = option_map block_of (target old cell); preferred = wanted; limit = least }) ≡ None
        none = grants_none allocator old heap (record { old = option_map block_of (target old cell); preferred = wanted; limit = least }) (omega arith) (omega arith)

        no_space : (r ≡ None) × (mid ≡ old) → Enlarged Grown mid r
        no_space k = subst (Enlarged Grown mid) (sym k.0) (record { no_room = too_large allocator old heap ask (omega arith) least_first; same = k.1 })

        go : (o : Option ℕ) → target old cell ≡ o → Enlarged Grown mid r
        go None e =
            let g = no_block (block_is ∙ ap (option_map block_of) e) heap in
            let n : after_request allocator (live old) (length old) wanted least ≡ None = rw e at none in
            no_space (rw n at g.grants)
        go (Some p) e =
            let b = buffer p e in
            let g = at_block (block_of p) b.0 (block_is ∙ ap (option_map block_of) e) heap b.1 in
            let one = units_found (live old) (block_of p) b.0 b.1 (one_room (block_of p) b.0 b.1) in
            let n : after_request_at allocator (live old) (length old) (block_of p) b.0 wanted least ≡ None = rw (e, one) at none in
            no_space (rw n at g.grants)
