-- Requests aren't granted exactly if no gap is large enough.
use Rattle.std.proofs.Common.{◌≡◌, ℕ, zero, suc, ◌+◌, ◌*◌, ◌<◌, ◌≤◌, ◌⊎◌, inl, inr, true, false, List, [], ◌∷◌, ◌++◌, cond, leb, Option, Some, None, refl, ap, ◌∙◌, sym, subst, arith}
use Rattle.std.specs.Prelude.{option_and_then}
use Rattle.std.specs.Option.{option_map, option_or, IfSome}
use Rattle.std.specs.List.{AllByRecursion}
use Rattle.std.proofs.lemmas.Bool.{cases_lt}
use Rattle.std.proofs.lemmas.Bool.Decides.{nat_tests}
use Rattle.seg_spec.specs.Heap.{Span, gaps_of, room_at, pick, expanded, granted, with_block, after_take, after_expand, resized, Granted, same, fresh}
use Rattle.seg_spec.specs.Demand.{Ask, after_request_of, after_ask, blocks_then, after_asks, NoRoom, IsDenied}
use Rattle.seg_spec.proofs.Heap.GapPickLaws.{first_small, best_small, first_fit-none, best_fit-none}

map_none : {A B : Type 0} (f : A → B) (o : Option A) → option_map f o ≡ None → o ≡ None
map_none f None e = refl
map_none f (Some x) e = absurd (let g : Some (f x) ≡ None = e in cc)

or_none : {A : Type 0} (a b : Option A) → option_or a b ≡ None → (a ≡ None) × (b ≡ None)
or_none None b e = (refl, e)
or_none (Some x) b e = absurd (let g : Some x ≡ None = e in cc)

pub pick-none : (allocator : ℕ) (gs : List Span) (u : ℕ) → pick allocator gs u ≡ None → AllByRecursion (λ g. g.units < u) gs
pick-none zero gs u e = first_fit-none gs u e
pick-none (suc n) gs u e = best_fit-none gs u e

no_pick : (allocator : ℕ) (gs : List Span) (u v : ℕ) → AllByRecursion (λ g. g.units < u) gs → u ≤ v → pick allocator gs v ≡ None
no_pick zero [] u v a l = refl
no_pick zero (g ∷ gs) u v a l = first_small v g gs (let s = a.0 in omega arith) ∙ no_pick zero gs u v a.1 l
no_pick (suc n) [] u v a l = refl
no_pick (suc n) (g ∷ gs) u v a l = best_small v g gs (let s = a.0 in omega arith) ∙ no_pick (suc n) gs u v a.1 l

not_expanded : (x room u : ℕ) → expanded x room u ≡ None → x + room < u
not_expanded x room u e = go (cases_lt (x + room) u) (cases_lt x u)
  where
    go : (x + room < u) ⊎ (u ≤ x + room) → (x < u) ⊎ (u ≤ x) → x + room < u
    go (inl l) m = l
    go (inr l) (inl m) =
        let f : leb u x ≡ false = grind (arith, nat_tests) in
        let g : leb u (x + room) ≡ true = grind (arith, nat_tests) in
        absurd (let k : Some (granted (x + room) u) ≡ None = sym (ap (λ b. cond b (Some x) (cond (leb u (x + room)) (Some (granted (x + room) u)) None)) f ∙ ap (λ b. cond b (Some (granted (x + room) u)) None) g) ∙ e in cc)
    go (inr l) (inr m) =
        let f : leb u x ≡ true = grind (arith, nat_tests) in
        absurd (let k : Some x ≡ None = sym (ap (λ b. cond b (Some x) (cond (leb u (x + room)) (Some (granted (x + room) u)) None)) f) ∙ e in cc)

no_expanded : (x room u v : ℕ) → x + room < u → u ≤ v → expanded x room v ≡ None
no_expanded x room u v l m =
    let f : leb v x ≡ false = grind (arith, nat_tests) in
    let g : leb v (x + room) ≡ false = grind (arith, nat_tests) in
    ap (λ b. cond b (Some x) (cond (leb v (x + room)) (Some (granted (x + room) v)) None)) f ∙ ap (λ b. cond b (Some (granted (x + room) v)) None) g

module _ (allocator : ℕ) (bs : List Span) (end : ℕ) where
  abbrev IsTooSmall : ℕ → Option ℕ → Type 0
  IsTooSmall limit old = AllByRecursion (λ g. g.units < limit) (gaps_of bs end) × IfSome old (λ at. room_at bs at + room_at (gaps_of bs end) (at + 16 * room_at bs at) < limit)

  no_take : (u : ℕ) → after_take allocator bs end u ≡ None → AllByRecursion (λ g. g.units < u) (gaps_of bs end)
  no_take u e = pick-none allocator (gaps_of bs end) u (map_none (λ g. (g.at, with_block (record { at = g.at; units = granted g.units u }) bs)) (pick allocator (gaps_of bs end) u) e)

  not_taken : (u v : ℕ) → AllByRecursion (λ g. g.units < u) (gaps_of bs end) → u ≤ v → after_take allocator bs end v ≡ None
  not_taken u v a l = ap (option_map (λ g. (g.at, with_block (record { at = g.at; units = granted g.units v }) bs))) (no_pick allocator (gaps_of bs end) u v a l)

  abbrev following : ℕ → ℕ
  following at = room_at (gaps_of bs end) (at + 16 * room_at bs at)

  in_vain : (old : Option ℕ) (preferred limit : ℕ) → after_request_of allocator bs end old preferred limit ≡ None → IsTooSmall limit old
  in_vain None preferred limit e =
      (no_take limit (or_none (after_take allocator bs end preferred) (after_take allocator bs end limit) (map_none (λ r. fresh r.0 r.1) _ e)).1, tt)
  in_vain (Some at) preferred limit e =
      let x = room_at bs at in
      let expand = λ (u : ℕ). option_map same (after_expand bs end at x u) in
      let take = λ (u : ℕ). option_map (λ r. fresh r.0 r.1) (after_take allocator bs end u) in
      let r = or_none (expand preferred) (option_or (take preferred) (option_or (expand limit) (take limit))) e in
      let s = or_none (take preferred) (option_or (expand limit) (take limit)) r.1 in
      let t = or_none (expand limit) (take limit) s.1 in (
        no_take limit (map_none (λ r. fresh r.0 r.1) (after_take allocator bs end limit) t.1),
        not_expanded x (following at) limit (map_none (λ n. resized at n bs) (expanded x (following at) limit) (map_none same (after_expand bs end at x limit) t.0)),
      )

  granted_none : (old : Option ℕ) (preferred limit : ℕ) → limit ≤ preferred → IsTooSmall limit old → after_request_of allocator bs end old preferred limit ≡ None
  granted_none None preferred limit l small = rw (not_taken limit preferred small.0 l, not_taken limit limit small.0 (omega arith)) refl
  granted_none (Some at) preferred limit l small =
      let x = room_at bs at in
      let none = λ (u : ℕ) (m : limit ≤ u). ap (λ o. option_map same (option_map (λ n. resized at n bs) o)) (no_expanded x (following at) limit u small.1 m) in
      rw (none preferred l, none limit (omega arith), not_taken limit preferred small.0 l, not_taken limit limit small.0 (omega arith)) refl

pub denied : (allocator : ℕ) (bs : List Span) (end : ℕ) (asks : List Ask) → NoRoom allocator bs end asks → IsDenied allocator bs end asks
denied allocator bs end [] e = absurd (let f : Some bs ≡ None = e in cc)
denied allocator bs end (ask ∷ asks) e = go (after_ask allocator bs end ask) refl e (λ g. denied allocator (blocks_then g) end asks)
  where
    go : (o : Option Granted) → after_ask allocator bs end ask ≡ o → option_and_then (λ g. after_asks allocator (blocks_then g) end asks) o ≡ None
        → ((g : Granted) → NoRoom allocator (blocks_then g) end asks → IsDenied allocator (blocks_then g) end asks) → IsDenied allocator bs end (ask ∷ asks)
    go None f e rest =
        let small = in_vain allocator bs end ask.old ask.preferred ask.limit f in
        record { before = []; ask = ask; after = asks; asks_are = refl; blocks = bs; granted = refl; no_gap = record { gaps_too_small = small.0; old_too_small = small.1 } }
    go (Some g) f e rest =
        let r = rest g e in
        record {
          before = ask ∷ r.before;
          ask = r.ask;
          after = r.after;
          asks_are = ap (λ xs. ask ∷ xs) r.asks_are;
          blocks = r.blocks;
          granted = ap (option_and_then (λ h. after_asks allocator (blocks_then h) end r.before)) f ∙ r.granted;
          no_gap = r.no_gap;
        }

asks_none : (allocator : ℕ) (bs : List Span) (end : ℕ) (before : List Ask) (ask : Ask) (after : List Ask) (blocks : List Span)
    → after_asks allocator bs end before ≡ Some blocks → after_ask allocator blocks end ask ≡ None → after_asks allocator bs end (before ++ ask ∷ after) ≡ None
asks_none allocator bs end [] ask after blocks e f = let same : blocks ≡ bs = cc in ap (option_and_then (λ g. after_asks allocator (blocks_then g) end after)) (subst (λ cs. after_ask allocator cs end ask ≡ None) same f)
asks_none allocator bs end (a ∷ before) ask after blocks e f = go (after_ask allocator bs end a) refl e (λ g m. asks_none allocator (blocks_then g) end before ask after blocks m f)
  where
    go : (o : Option Granted) → after_ask allocator bs end a ≡ o → option_and_then (λ g. after_asks allocator (blocks_then g) end before) o ≡ Some blocks
        → ((g : Granted) → after_asks allocator (blocks_then g) end before ≡ Some blocks → after_asks allocator (blocks_then g) end (before ++ ask ∷ after) ≡ None)
        → after_asks allocator bs end (a ∷ (before ++ ask ∷ after)) ≡ None
    go None h e rest = absurd (let g : None ≡ Some blocks = e in cc)
    go (Some g) h e rest = ap (option_and_then (λ k. after_asks allocator (blocks_then k) end (before ++ ask ∷ after))) h ∙ rest g e

pub no_room : (allocator : ℕ) (bs : List Span) (end : ℕ) (asks : List Ask) → (d : IsDenied allocator bs end asks) → d.ask.limit ≤ d.ask.preferred → NoRoom allocator bs end asks
no_room allocator bs end asks d l =
    ap (after_asks allocator bs end) d.asks_are
    ∙ asks_none allocator bs end d.before d.ask d.after d.blocks d.granted (granted_none allocator d.blocks end d.ask.old d.ask.preferred d.ask.limit l (d.no_gap.gaps_too_small, d.no_gap.old_too_small))
