-- What soundness and rows imply for shared objects.
use Rattle.std.proofs.Common.{◌≡◌, ◌≢◌, ℕ, zero, suc, ◌+◌, ◌-◌, ◌*◌, ◌/◌, ◌≤◌, ◌<◌, ◌⊎◌, inl, inr, true, false, List, [], ◌∷◌, ◌++◌, length, map, cond, eqb, Option, Some, None, ℤ, refl, sym, ap, ◌∙◌, subst, append_assoc, arith}
use Rattle.std.specs.List.{AllByRecursion}
use Rattle.std.proofs.lemmas.Bool.{cases_eq}
use Rattle.seg_spec.specs.Bytes.{word}
use Rattle.seg_spec.specs.Header.{next_word, version_word, allocator_word}
use Rattle.seg_spec.specs.Types.{Table, size}
use Rattle.seg_spec.specs.Value.{Value, Full}
use Rattle.seg_spec.specs.Heap.{Span, span, Tile, span_of, Fill, live_of, free_of, tiles, live, gaps, heap_start, granted, with_block, without, pick, IsHeap}
use Rattle.seg_spec.specs.Block.{block_of}
use Rattle.seg_spec.specs.Reads.{Place}
use Rattle.seg_spec.specs.Index.{Root, ListsNames}
use Rattle.seg_spec.specs.Frozen.{Frozen, frozen_words, root_of_frozen, blocks_by}
use Rattle.seg_spec.specs.Shared.{names_in, names_of, times_named, IsBelow, AreDistinct, IsFalling, replaced, owner_by, meaning, with_count, raised, raised_by, freed, freed_with}
use Rattle.seg_spec.specs.Sound.{Picture, frozen_roots, roots_of, HoldsRoots, IsHeld, times, positions, SameBlocks}
use Rattle.seg_spec.specs.Destroying.{HoldFrozen}
use Rattle.seg_spec.specs.Demand.{Ask, need, block_for, after_asks, after_gives}
use Rattle.seg_spec.specs.Spending.{replaced as replaced_buffers}
use Rattle.seg_spec.specs.Counting.{cells_in, owners_in, AreCounted, FrozenGone}
use Rattle.seg_spec.specs.Images.{IsSound}
use Rattle.seg_spec.proofs.Values.PlaceFrameLaws.{each_weaker, each_both}
use Rattle.seg_spec.proofs.Heap.LiveBlockLaws.{times-append, times-same, times-other, times-with_block, times-without, live-once}
use Rattle.seg_spec.proofs.Heap.GapPickLaws.{first_fit-lowest, best_fit-smallest}
use Rattle.seg_spec.proofs.Heap.GapOrderLaws.{gaps-free}
use Rattle.seg_spec.proofs.Images.LooseRootLaws.{each_joined}
use Rattle.seg_spec.proofs.Images.RootLaws.{HoldsRoots-split}
use Rattle.seg_spec.proofs.Frozen.SharedLaws.{wider, named-append, names_later, first_unnamed}
use Rattle.seg_spec.proofs.Frozen.UnfoldedTreeLaws.{found, deep_enough}
use Rattle.seg_spec.proofs.Frozen.PictureCountLaws.{owned_by}
use Rattle.seg_spec.proofs.Frozen.ReleaseLaws.{frozen_there}
use Rattle.seg_spec.proofs.Frozen.NoFrozenLaws.{none_numbered}
use Rattle.seg_spec.proofs.Images.VersionLaws.{unnumbered}
use Rattle.test_definitions.proofs.WorkedImages.NoRoots.{nothing_held}
use Rattle.client_spec.specs.declared.table.Operation.{Operation}
use Rattle.client_spec.specs.Syntax.{Constant, Instruction}
use Rattle.client_spec.specs.Machine.{State}
use Rattle.client_spec.specs.Pictures.{Pictures}
use Rattle.client_spec.specs.Asks.{WithFrozen, Returns, Renames, GrantsAsks, ChangesOnSuccess}

-- ---- counted pictures

-- if no cell shares an object at a position, there is no frozen object at it
pub each_named : (next : ℕ) (picture : Picture) → AreCounted next picture → (at : ℕ) → times_named at (cells_in (owners_in picture) ++ names_of picture.frozen) ≡ 0 → AllByRecursion (λ (f : Frozen). f.at ≢ at) picture.frozen
each_named next picture c at none =
    let cells = cells_in (owners_in picture) ++ names_of picture.frozen in
    each_both (λ (f : Frozen). 1 ≤ f.count) (λ (f : Frozen). f.count ≡ times_named f.at cells) (λ (f : Frozen). f.at ≢ at)
    (λ f some count e. let here : times_named f.at cells ≡ 0 = subst (λ p. times_named p cells ≡ 0) (sym e) none in absurd (omega arith)) picture.frozen c.counted.some c.counted.counts

-- each shared cell has a tree
means : (n : ℕ) (fs : List Frozen) (q : Place) → AreDistinct fs → AllByRecursion (λ (f : Frozen). AllByRecursion (IsBelow f.number fs) (names_in f.value)) fs → IsBelow n fs q → (tree : Value) × (meaning n fs q.at ≡ Full tree)
unfolding meaning
means zero fs q d a b = let f = found zero fs q d a b in absurd (let less = f.less in omega arith)
means (suc n) fs q d a b = let f = found (suc n) fs q d a b in (replaced (meaning n fs) f.object.value, ap (owner_by (λ v. replaced (meaning n fs) v)) f.value_is)

-- if only frozen objects share frozen objects, there are no frozen objects
pub none_left : (fs : List Frozen) → AreDistinct fs → IsFalling fs → AllByRecursion (λ (f : Frozen). AllByRecursion (IsBelow f.number fs) (names_in f.value)) fs → AllByRecursion (λ (f : Frozen). 1 ≤ f.count) fs
    → AllByRecursion (λ (f : Frozen). f.count ≡ times_named f.at (names_of fs)) fs → fs ≡ []
none_left [] d l a some counts = refl
none_left (f ∷ fs) d l a some counts = absurd (let none = first_unnamed f fs d.0 (names_later (f ∷ fs) l a) in let one = some.0 in let count = counts.0 in omega arith)

module _ (bytes : List ℕ) (s : IsSound bytes) where
  abbrev objects : List Frozen
  objects = s.picture.frozen

  abbrev next_number : ℕ
  next_number = word bytes next_word

  pub counts : AllByRecursion (λ (f : Frozen). (1 ≤ f.count) × (f.count ≡ times_named f.at (cells_in (owners_in s.picture) ++ names_of objects))) objects
  counts = each_both _ _ _ (λ f some count. (some, count)) objects s.counted.counted.some s.counted.counted.counts

  pub numbers : AllByRecursion (λ (f : Frozen). (f.number < next_number) × AllByRecursion (IsBelow f.number objects) (names_in f.value)) objects
  numbers = each_both _ _ _ (λ f less below. (less, below)) objects s.counted.counted.numbered s.counted.counted.falling

  -- the objects that frozen objects share have numbers below the next one
  below_all : (gs : List Frozen) → AllByRecursion (λ (f : Frozen). (f.number < next_number) × AllByRecursion (IsBelow f.number objects) (names_in f.value)) gs → AllByRecursion (IsBelow next_number objects) (names_of gs)
  below_all [] a = tt
  below_all (g ∷ gs) a =
      each_joined (IsBelow next_number objects) (names_in g.value) (names_of gs)
      (each_weaker (IsBelow g.number objects) (IsBelow next_number objects) (λ q b. wider g.number next_number objects q (let less = a.0.0 in omega arith) b) (names_in g.value) a.0.1) (below_all gs a.1)

  pub trees : AllByRecursion (λ (q : Place). (tree : Value) × ((n : ℕ) → next_number ≤ n → meaning n objects q.at ≡ Full tree)) (cells_in (owners_in s.picture) ++ names_of objects)
  trees =
      let c = s.counted.counted in
      each_weaker (IsBelow next_number objects) (λ (q : Place). (tree : Value) × ((n : ℕ) → next_number ≤ n → meaning n objects q.at ≡ Full tree))
      (λ q b. let m = means next_number objects q c.distinct c.falling b in (m.0, λ n more. sym (deep_enough objects c.distinct c.falling next_number n q more b) ∙ m.1))
      (cells_in (owners_in s.picture) ++ names_of objects) (each_joined (IsBelow next_number objects) (cells_in (owners_in s.picture)) (names_of objects) c.named (below_all objects numbers))

  roots_are : roots_of s.picture ≡ owners_in s.picture ++ frozen_roots s.picture
  roots_are = simp append_assoc

  pub blocks : (index own : List ℕ) × (theirs : ℕ → List ℕ) × ListsNames bytes s.picture.names index × HoldsRoots bytes s.picture.table (owners_in s.picture) own × HoldFrozen bytes s.picture.table theirs objects
      × SameBlocks (positions (live bytes)) (index ++ (own ++ blocks_by theirs objects))
  blocks =
      let h = s.held in
      let table = s.picture.table in
      let parts = HoldsRoots-split bytes table (owners_in s.picture) (frozen_roots s.picture) h.root_blocks (subst (λ rs. HoldsRoots bytes table rs h.root_blocks) roots_are h.roots) in
      let o = owned_by bytes table objects parts.right s.counted.counted.distinct parts.rights in
      (h.index_blocks, parts.left, o.theirs, h.laid_out.names, parts.lefts, o.holds, λ k. h.owners k ∙ ap (λ bs. times k (h.index_blocks ++ bs)) (parts.blocks_are ∙ ap (λ bs. parts.left ++ bs) o.blocks_are))

  pub nothing : s.picture.names ≡ [] → s.picture.uniques ≡ [] → (live bytes ≡ []) × (gaps bytes ≡ span heap_start ((length bytes - heap_start) / 16) ∷ [])
  nothing names uniques =
      let c = s.counted.counted in
      let owners : owners_in s.picture ≡ [] = rw (names, uniques, s.none_loose) refl in
      let frozen : objects ≡ [] = none_left objects c.distinct s.counted.falling c.falling c.some
      (subst (λ (qs : List Place). AllByRecursion (λ (f : Frozen). f.count ≡ times_named f.at (qs ++ names_of objects)) objects) (ap cells_in owners) c.counts) in
      nothing_held bytes s.picture s.held (roots_are ∙ ap (λ rs. rs ++ frozen_roots s.picture) owners ∙ ap (map root_of_frozen) frozen)

-- an image of version 1 has no frozen object
pub none_before : (bytes : List ℕ) (picture : Picture) → IsHeld bytes picture → AreCounted (word bytes next_word) picture → word bytes version_word ≡ 1 → picture.frozen ≡ []
none_before bytes picture held c first =
    none_numbered picture (subst (λ n. AreCounted n picture) (unnumbered (word bytes version_word) (word bytes next_word) held.laid_out.header.version (λ e. absurd (omega (arith, e, first)))) c)

-- ---- blocks that are freed

fewer : (h x : ℕ) (bs : List Span) → times h (positions (without x bs)) ≤ times h (positions bs)
fewer h x [] = omega arith
fewer h x (b ∷ bs) =
    let rest = fewer h x bs in
    elim (eqb b.at x) as (λ t. times h (positions (cond t bs (b ∷ without x bs))) ≤ times h (b.at ∷ positions bs)) [ true ↦ omega arith | false ↦ omega arith ]

fewer_left : (h : ℕ) (bs : List Span) (gives : List ℕ) → times h (positions (after_gives bs gives)) ≤ times h (positions bs)
fewer_left h bs [] = omega arith
fewer_left h bs (x ∷ gives) = let rest = fewer_left h (without x bs) gives in let one = fewer h x bs in omega arith

none_without : (h : ℕ) (bs : List Span) → times h (positions bs) ≤ 1 → times h (positions (without h bs)) ≡ 0
none_without h bs once = go (cases_eq (times h (positions bs)) 0)
  where
    go : (times h (positions bs) ≡ 0) ⊎ (times h (positions bs) ≢ 0) → times h (positions (without h bs)) ≡ 0
    go (inl none) = let less = fewer h h bs in omega arith
    go (inr some) = let all = times-without h h bs (omega arith) in let first = times-same h (positions (without h bs)) in omega arith

-- a block that occurs once isn't left after it is freed
not_left : (h : ℕ) (bs : List Span) (gives : List ℕ) → times h (positions bs) ≤ 1 → 1 ≤ times h gives → times h (positions (after_gives bs gives)) ≡ 0
not_left h bs [] once some = absurd (omega arith)
not_left h bs (x ∷ gives) once some = go (cases_eq x h) (λ few more. not_left h (without x bs) gives few more)
  where
    go : (x ≡ h) ⊎ (x ≢ h) → (times h (positions (without x bs)) ≤ 1 → 1 ≤ times h gives → times h (positions (after_gives (without x bs) gives)) ≡ 0) → times h (positions (after_gives (without x bs) gives)) ≡ 0
    go (inl e) rest =
        let none : times h (positions (without x bs)) ≡ 0 = subst (λ y. times h (positions (without y bs)) ≡ 0) (sym e) (none_without h bs once) in
        let less = fewer_left h (without x bs) gives in
        omega arith
    go (inr other) rest = let less = fewer h x bs in rest (omega arith) (omega (arith, times-other h x gives other))

-- ---- a block that is allocated

-- tiles are allocated or free, and no two begin at one position
record Parted (h from : ℕ) (lives frees : List ℕ) : Type 0 where
  once : times h lives + times h frees ≤ 1
  above : 1 ≤ times h lives + times h frees → from ≤ h

parted : (h : ℕ) (ts : List Tile) (from to : ℕ) → Fill from ts to → Parted h from (positions (live_of ts)) (positions (free_of ts))
parted h [] from to f = record { once = omega arith; above = λ some. absurd (omega arith) }
parted h (t ∷ ts) from to f =
    let rest = parted h ts (from + 16 * t.units) to f.2 in
    elim t.live as (λ b. Parted h from (positions (cond b (span_of t ∷ live_of ts) (live_of ts))) (positions (cond b (free_of ts) (span_of t ∷ free_of ts)))) [
      | true ↦ go (positions (live_of ts)) (positions (free_of ts)) rest.once rest.above (cases_eq t.at h)
      | false ↦ (let p = go (positions (free_of ts)) (positions (live_of ts)) (let once = rest.once in omega arith) (λ some. rest.above (omega arith)) (cases_eq t.at h) in
          record { once = (let once = p.once in omega arith); above = λ some. p.above (omega arith) })
    ]
  where
    go : (xs ys : List ℕ) → times h xs + times h ys ≤ 1 → (1 ≤ times h xs + times h ys → from + 16 * t.units ≤ h) → (t.at ≡ h) ⊎ (t.at ≢ h) → Parted h from (t.at ∷ xs) ys
    go xs ys once above (inl e) =
        let first : times h (t.at ∷ xs) ≡ 1 + times h xs = subst (λ x. times h (x ∷ xs) ≡ 1 + times h xs) (sym e) (times-same h xs) in
        let none : times h xs + times h ys ≡ 0 = alone (cases_eq (times h xs + times h ys) 0) in
        record { once = omega arith; above = λ some. omega (arith, f.0) }
      where
        alone : (times h xs + times h ys ≡ 0) ⊎ (times h xs + times h ys ≢ 0) → times h xs + times h ys ≡ 0
        alone (inl z) = z
        alone (inr some) = absurd (let more = above (omega arith) in omega (arith, f.0, f.1))
    go xs ys once above (inr other) =
        let same = times-other h t.at xs other in
        record { once = omega arith; above = λ some. let more = above (omega arith) in omega arith }

among : (g : Span) (before after : List Span) → 1 ≤ times g.at (positions (before ++ g ∷ after))
among g [] after = let first = times-same g.at (positions after) in omega arith
among g (b ∷ before) after = let rest = among g before after in omega arith

-- the free block that is picked is one of the free blocks
picked : (allocator : ℕ) (gs : List Span) (u : ℕ) (g : Span) → pick allocator gs u ≡ Some g → 1 ≤ times g.at (positions gs)
picked zero gs u g e = let l = first_fit-lowest gs u g e in subst (λ hs. 1 ≤ times g.at (positions hs)) (sym l.gaps_are) (among g l.before l.after)
picked (suc n) gs u g e = let l = best_fit-smallest gs u g e in subst (λ hs. 1 ≤ times g.at (positions hs)) (sym l.gaps_are) (among g l.before l.after)

module _ (bytes : List ℕ) (allocator : ℕ) (heap : IsHeap allocator bytes) where
  apart : (h : ℕ) → times h (positions (live bytes)) + times h (positions (gaps bytes)) ≤ 1
  unfolding live
  apart h = subst (λ gs. times h (positions (live_of (tiles bytes))) + times h (positions gs) ≤ 1)
      (sym (gaps-free bytes allocator heap)) (parted h (tiles bytes) heap_start (length bytes) heap.filled).once

  -- after a request no two allocated blocks begin at one position
  once_more : (u : ℕ) (blocks : List Span) → after_asks allocator (live bytes) (length bytes) (record { old = None; preferred = u; limit = u } ∷ []) ≡ Some blocks → (h : ℕ) → times h (positions blocks) ≤ 1
  once_more u blocks e h = go (pick allocator (gaps bytes) u) refl
    where
      go : (o : Option Span) → pick allocator (gaps bytes) u ≡ o → times h (positions blocks) ≤ 1
      go None p = absurd (let f : None ≡ Some blocks = rw p at e in cc)
      go (Some g) p =
          let f : Some (with_block (record { at = g.at; units = granted g.units u }) (live bytes)) ≡ Some blocks = rw p at e in
          let is : with_block (record { at = g.at; units = granted g.units u }) (live bytes) ≡ blocks = cc in
          let counted : times h (positions blocks) ≡ times h (g.at ∷ positions (live bytes)) = ap (λ bs. times h (positions bs)) (sym is) ∙ times-with_block h (record { at = g.at; units = granted g.units u }) (live bytes) in
          here g (picked allocator (gaps bytes) u g p) counted (cases_eq g.at h)
        where
          here : (g : Span) → 1 ≤ times g.at (positions (gaps bytes)) → times h (positions blocks) ≡ times h (g.at ∷ positions (live bytes)) → (g.at ≡ h) ⊎ (g.at ≢ h) → times h (positions blocks) ≤ 1
          here g is_gap counted (inl same) =
              let both = apart h in
              let gap : 1 ≤ times h (positions (gaps bytes)) = subst (λ x. 1 ≤ times x (positions (gaps bytes))) same is_gap in
              let first : times h (g.at ∷ positions (live bytes)) ≡ 1 + times h (positions (live bytes)) =
              subst (λ x. times h (x ∷ positions (live bytes)) ≡ 1 + times h (positions (live bytes))) (sym same) (times-same h (positions (live bytes))) in
              omega arith
          here g is_gap counted (inr other) = let both = apart h in let same = times-other h g.at (positions (live bytes)) other in omega arith

-- ---- rows

module _ (constants : List Constant) {others : List Root} {s : State} {bytes : List ℕ} (p : Pictures others s bytes) (new : List ℕ) (a b c : ℕ) (number : ℤ) where
  abbrev performing : Operation → Instruction
  performing operation = record { operation = operation; a = a; b = b; c = c; number = number }

  abbrev allocator : ℕ
  allocator = word bytes allocator_word

  abbrev Gone : List ℕ → Type 0
  Gone gives = (h : ℕ) → 1 ≤ times h gives → times h (positions (live new)) ≡ 0

  nothing_given : Gone []
  nothing_given h some = absurd (omega arith)

  given : (asks : List Ask) (gives : List ℕ) (blocks : List Span) → ((h : ℕ) → times h (positions blocks) ≤ 1) → live new ≡ after_gives blocks (replaced_buffers allocator (live bytes) (length bytes) asks ++ gives) → Gone gives
  given asks gives blocks once left h some =
      let old = replaced_buffers allocator (live bytes) (length bytes) asks in
      ap (λ bs. times h (positions bs)) left ∙ not_left h blocks (old ++ gives) (once h) (omega (arith, times-append h old gives))

  -- what a row frees isn't allocated afterwards: for rows without a request, and with one
  plain_gives : (operation : Operation) (g : GrantsAsks constants (performing operation) p new) → g.asks ≡ [] → Gone g.gives
  plain_gives operation g none =
      let same : Some (live bytes) ≡ Some g.blocks = ap (λ asks. after_asks allocator (live bytes) (length bytes) asks) (sym none) ∙ g.granted in
      let is : live bytes ≡ g.blocks = cc in
      given g.asks g.gives g.blocks (λ h. subst (λ bs. times h (positions bs) ≤ 1) is (live-once bytes allocator p.held.laid_out.heap h)) g.left

  asking_gives : (operation : Operation) (g : GrantsAsks constants (performing operation) p new) (n : ℕ) → g.asks ≡ block_for n ∷ [] → Gone g.gives
  asking_gives operation g n one =
      given g.asks g.gives g.blocks (once_more bytes allocator p.held.laid_out.heap (need n) g.blocks (ap (λ asks. after_asks allocator (live bytes) (length bytes) asks) (sym one) ∙ g.granted)) g.left

  -- what a row frees isn't allocated afterwards, for each operation
  pub row_gives : (operation : Operation) → ChangesOnSuccess constants (performing operation) p operation new → (gives : List ℕ) × Returns constants (performing operation) p gives × Gone gives
  row_gives Operation.Kill g = (g.gives, g.returned, plain_gives Operation.Kill g g.asked)
  row_gives Operation.KillUnique g = (g.gives, g.returned, plain_gives Operation.KillUnique g g.asked)
  row_gives Operation.Drop g = (g.gives, g.returned, plain_gives Operation.Drop g g.asked)
  row_gives Operation.Put g = (g.gives, g.returned, plain_gives Operation.Put g g.asked)
  row_gives Operation.Clear g = (g.gives, g.returned, plain_gives Operation.Clear g g.asked)
  row_gives Operation.PopBack g = (g.gives, g.returned, plain_gives Operation.PopBack g g.asked)
  row_gives Operation.PopFront g = (g.gives, g.returned, plain_gives Operation.PopFront g g.asked)
  row_gives Operation.DeleteKey g = (g.gives, g.returned, plain_gives Operation.DeleteKey g g.asked)
  row_gives Operation.Freeze g = (g.gives, g.returned, asking_gives Operation.Freeze g (frozen_words + size s.types g.asked.2) g.asked.4)
  row_gives Operation.Share g = (g.gives, g.returned, plain_gives Operation.Share g g.asked)
  row_gives operation g = ([], refl, nothing_given)

-- ---- frozen objects that are freed

-- each of these objects owns the block that it is in
abbrev StandsIn : (ℕ → List ℕ) → List Frozen → Type 0
StandsIn theirs fs = AllByRecursion (λ (f : Frozen). 1 ≤ times (block_of f.at) (theirs f.at)) fs

stand_in : (bytes : List ℕ) (table : Table) (theirs : ℕ → List ℕ) (fs : List Frozen) → HoldFrozen bytes table theirs fs → StandsIn theirs fs
stand_in bytes table theirs [] h = tt
stand_in bytes table theirs (f ∷ fs) h =
    let it = frozen_there bytes table f (theirs f.at) h.0 in
    (subst (λ hs. 1 ≤ times (block_of f.at) hs) (sym it.blocks_are) (let first = times-same (block_of f.at) it.inside in omega arith), stand_in bytes table theirs fs h.1)

raised_stand : (theirs : ℕ → List ℕ) (names : List Place) (fs : List Frozen) → StandsIn theirs fs → StandsIn theirs (raised_by names fs)
raised_stand theirs [] fs a = a
raised_stand theirs (q ∷ names) fs a = one (raised_by names fs) (raised_stand theirs names fs a)
  where
    one : (gs : List Frozen) → StandsIn theirs gs → StandsIn theirs (raised q.at gs)
    one [] a = tt
    one (g ∷ gs) a =
        let rest = one gs a.1 in
        elim (eqb g.at q.at) as (λ t. StandsIn theirs (cond t (with_count g (suc g.count)) g ∷ raised q.at gs)) [ true ↦ (a.0, rest) | false ↦ (a.0, rest) ]

freed_stand : (theirs : ℕ → List ℕ) (gone : List Place) (fs : List Frozen) → StandsIn theirs fs → StandsIn theirs (freed gone fs)
freed_stand theirs gone [] a = tt
freed_stand theirs gone (f ∷ fs) a = go (f.count - times_named f.at gone) (freed_stand theirs (gone ++ names_in f.value) fs a.1) (freed_stand theirs gone fs a.1)
  where
    go : (n : ℕ) → StandsIn theirs (freed (gone ++ names_in f.value) fs) → StandsIn theirs (freed gone fs) → StandsIn theirs (freed_with f n (freed (gone ++ names_in f.value) fs) (freed gone fs))
    go zero without with_it = (a.0, without)
    go (suc n) without with_it = with_it

-- so the block of each object is among the blocks of all objects
among_all : (theirs : ℕ → List ℕ) (gs : List Frozen) → StandsIn theirs gs → AllByRecursion (λ (f : Frozen). 1 ≤ times (block_of f.at) (blocks_by theirs gs)) gs
among_all theirs [] a = tt
among_all theirs (g ∷ gs) a = (
  omega (arith, a.0, times-append (block_of g.at) (theirs g.at) (blocks_by theirs gs)),
  each_weaker (λ (f : Frozen). 1 ≤ times (block_of f.at) (blocks_by theirs gs)) (λ (f : Frozen). 1 ≤ times (block_of f.at) (blocks_by theirs (g ∷ gs)))
      (λ f there. omega (arith, there, times-append (block_of f.at) (theirs g.at) (blocks_by theirs gs))) gs (among_all theirs gs a.1),
)

-- an object is freed if all its cells are destroyed
last_goes : (theirs : ℕ → List ℕ) (gone : List Place) (fs : List Frozen) → StandsIn theirs fs → AllByRecursion (λ (f : Frozen). f.count ≤ times_named f.at gone → 1 ≤ times (block_of f.at) (blocks_by theirs (freed gone fs))) fs
last_goes theirs gone [] a = tt
last_goes theirs gone (f ∷ fs) a =
    go (f.count - times_named f.at gone) refl (last_goes theirs (gone ++ names_in f.value) fs a.1) (last_goes theirs gone fs a.1)
  where
    Goes : List Place → List Frozen → List Frozen → Type 0
    Goes names blocks gs = AllByRecursion (λ (g : Frozen). g.count ≤ times_named g.at names → 1 ≤ times (block_of g.at) (blocks_by theirs blocks)) gs

    go : (n : ℕ) → f.count - times_named f.at gone ≡ n → Goes (gone ++ names_in f.value) (freed (gone ++ names_in f.value) fs) fs → Goes gone (freed gone fs) fs
        → Goes gone (freed_with f n (freed (gone ++ names_in f.value) fs) (freed gone fs)) (f ∷ fs)
    go zero e without with_it =
        let rest = freed (gone ++ names_in f.value) fs in (
          (λ few. omega (arith, a.0, times-append (block_of f.at) (theirs f.at) (blocks_by theirs rest))),
          each_weaker (λ (g : Frozen). g.count ≤ times_named g.at (gone ++ names_in f.value) → 1 ≤ times (block_of g.at) (blocks_by theirs rest))
              (λ (g : Frozen). g.count ≤ times_named g.at gone → 1 ≤ times (block_of g.at) (blocks_by theirs (f ∷ rest)))
              (λ g goes few. let there = goes (omega (arith, few, named-append g.at gone (names_in f.value))) in omega (arith, there, times-append (block_of g.at) (theirs f.at) (blocks_by theirs rest))) fs without,
        )
    go (suc n) e without with_it = ((λ few. absurd (omega arith)), with_it)

module _ (bytes : List ℕ) (picture : Picture) (names : List Place) (blocks : List ℕ) (g : FrozenGone bytes picture names blocks) where
  stand : StandsIn g.theirs picture.frozen
  stand = stand_in bytes picture.table g.theirs picture.frozen g.holds

  pub last_cell : AllByRecursion (λ (f : Frozen). f.count ≤ times_named f.at names → 1 ≤ times (block_of f.at) blocks) picture.frozen
  last_cell = subst (λ bs. AllByRecursion (λ (f : Frozen). f.count ≤ times_named f.at names → 1 ≤ times (block_of f.at) bs) picture.frozen) (sym g.blocks_are) (last_goes g.theirs names picture.frozen stand)

  pub with_it : AllByRecursion (λ (f : Frozen). 1 ≤ times (block_of f.at) blocks) (freed names picture.frozen)
  with_it =
      subst (λ bs. AllByRecursion (λ (f : Frozen). 1 ≤ times (block_of f.at) bs) (freed names picture.frozen)) (sym g.blocks_are)
      (among_all g.theirs (freed names picture.frozen) (freed_stand g.theirs names picture.frozen stand))

-- a row that destroys all cells of a frozen object frees the object's block
pub row_frees : (constants : List Constant) {others : List Root} {s : State} {bytes : List ℕ} (p : Pictures others s bytes) (new : List ℕ) (i : Instruction) → ChangesOnSuccess constants i p i.operation new
    → (gives : List ℕ) × Returns constants i p gives
    × ((names : List Place) (own : List ℕ) → WithFrozen constants i p names own gives → AllByRecursion (λ (f : Frozen). f.count ≤ times_named f.at names → times (block_of f.at) (positions (live new)) ≡ 0) p.picture.frozen)
row_frees constants {bytes = bytes} p new i changes =
    let r = row_gives constants p new i.a i.b i.c i.number i.operation changes in (
      r.0,
      r.1,
      λ names own w. each_weaker (λ (f : Frozen). f.count ≤ times_named f.at names → 1 ≤ times (block_of f.at) w.0) (λ (f : Frozen). f.count ≤ times_named f.at names → times (block_of f.at) (positions (live new)) ≡ 0)
          (λ f goes few. r.2 (block_of f.at) (let there = goes few in subst (λ bs. 1 ≤ times (block_of f.at) bs) (sym w.2) (omega (arith, there, times-append (block_of f.at) own w.0))))
          p.picture.frozen (last_cell bytes p.picture names w.0 w.1),
    )

pub shared_goes : (constants : List Constant) (i : Instruction) {others : List Root} {s : State} {bytes : List ℕ} (p : Pictures others s bytes) (place : Place) (gives : List ℕ) (r : Renames constants i p place gives)
    → AllByRecursion (λ (f : Frozen). 1 ≤ times (block_of f.at) gives) (freed (names_in r.value) (raised_by (names_in r.other) p.picture.frozen))
shared_goes constants i {bytes = bytes} p place gives r =
    let fs = p.picture.frozen in
    let goes = freed (names_in r.value) (raised_by (names_in r.other) fs) in
    let shared = blocks_by r.theirs goes in
    let stand = freed_stand r.theirs (names_in r.value) (raised_by (names_in r.other) fs) (raised_stand r.theirs (names_in r.other) fs (stand_in bytes p.picture.table r.theirs fs r.frozen_hold)) in
    each_weaker (λ (f : Frozen). 1 ≤ times (block_of f.at) shared) (λ (f : Frozen). 1 ≤ times (block_of f.at) gives)
    (λ f there. subst (λ bs. 1 ≤ times (block_of f.at) bs) (sym r.gives_are) (omega (arith, there, times-append (block_of f.at) r.own shared))) goes (among_all r.theirs goes stand)
