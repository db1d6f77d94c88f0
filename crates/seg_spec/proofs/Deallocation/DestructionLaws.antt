-- Destruction, step by step: the blocks that wait, and what is kept apart from them.
use Rattle.std.proofs.Common.{◌≡◌, ◌≢◌, ℕ, ◌+◌, ◌-◌, ◌*◌, ◌≤◌, ◌⊎◌, inl, inr, ⊎_elim, true, false, eqb, ◌<◌, List, [], ◌∷◌, ◌++◌, length, Option, Some, None, refl, sym, ap, ◌∙◌, subst, arith, map, suc}
use Rattle.std.specs.List.{AllByRecursion}
use Rattle.std.proofs.lemmas.Bool.Decides.{nat_tests}
use Rattle.std.proofs.lemmas.Bool.{cases_eq}
use Rattle.seg_spec.specs.Bytes.{IsSame, ChangesOnly}
use Rattle.seg_spec.specs.Header.{free_word, back_start, back_size, KeepsFront, KeepsBack}
use Rattle.seg_spec.specs.Pointer.{distance, set_pointer}
use Rattle.seg_spec.specs.Types.{Table, IsTable, size}
use Rattle.seg_spec.specs.Heap.{Span, units_at, IsHeap, live, heap_start, without, Gives, link_at}
use Rattle.seg_spec.specs.Block.{KeepsBlock, IsInside, IsOwnable, block_of, payload_size}
use Rattle.seg_spec.specs.Reads.{Place}
use Rattle.seg_spec.specs.Apart.{KeepsBlockAround}
use Rattle.seg_spec.specs.Sound.{times, SameBlocks, positions}
use Rattle.seg_spec.specs.Demand.{after_gives}
use Rattle.seg_spec.specs.Owing.{KeepsLinked, AreParts, Waits, none_waits, waits}
use Rattle.seg_spec.specs.Destroying.{AreLive, GoesWith, Pends, KeepsOthers, Awaits, Adds, Pops, PendsBeside, HoldFrozen, KeepFrozen, Destroys}
use Rattle.seg_spec.proofs.SliceLaws.{IsSame-part}
use Rattle.seg_spec.proofs.Heap.BlockFrameLaws.{kept_twice}
use Rattle.seg_spec.proofs.Values.PlaceFrameLaws.{SamePlace, target-same, each_weaker}
use Rattle.seg_spec.proofs.Heap.LiveBlockLaws.{times-append, times-same, times-other, there, each_there, times-without, LiesIn, live-lie, live-once}
use Rattle.seg_spec.proofs.Heap.BlockCountLaws.{few_live}
use Rattle.seg_spec.proofs.Heap.HeapFrameLaws.{IsHeap-kept, live-kept}
use Rattle.seg_spec.proofs.Heap.KeptBlockLaws.{front_kept}
use Rattle.seg_spec.proofs.Heap.BlockWriteLaws.{tiles_kept, low_kept, KeptBut, live_kept_but}
use Rattle.seg_spec.proofs.Images.RootWriteLaws.{set_number-changes}
use Rattle.seg_spec.proofs.Deallocation.WaitingBlockLaws.{Waits-kept, parts_kept}
use Rattle.seg_spec.proofs.Deallocation.WaitingPushLaws.{owes_begins, waits_begins, pushed}
use Rattle.seg_spec.proofs.Deallocation.BlockFreeLaws.{given_kept}
use Rattle.seg_spec.specs.Frozen.{Frozen, blocks_by}
use Rattle.seg_spec.specs.Shared.{names_in, times_named, IsReleasing, left, kept_with, with_count}
use Rattle.seg_spec.proofs.Frozen.FrozenBlockLaws.{hold_kept, frozen_twice, frozen_kept, released_each}
use Rattle.seg_spec.proofs.Values.CallPlaceLaws.{ownable_linked}

-- ---- what is kept

pub linked_twice : (a b c : List ℕ) (h : ℕ) → KeepsLinked a b h → KeepsLinked b c h → KeepsLinked a c h
linked_twice a b c h k l = record {
  whole = record { kept = kept_twice a b c h k.whole.kept l.whole.kept; size_kept = l.whole.size_kept ∙ k.whole.size_kept };
  link_kept = l.link_kept ∙ k.link_kept;
}

pub linked_same : (a : List ℕ) (h : ℕ) → KeepsLinked a a h
linked_same a h = record { whole = record { kept = record { live = refl; has_tag = refl; room = omega arith; payload = refl }; size_kept = refl }; link_kept = refl }

pub others_none : (a xs : List ℕ) → KeepsOthers a a xs
others_none a xs = record { length_kept = refl; front_kept = λ p n low. refl; live_kept = refl; others = λ h some none. linked_same a h }

pub others_twice : (a b c xs ys zs : List ℕ) → ((h : ℕ) → times h zs ≡ 0 → (times h xs ≡ 0) × (times h ys ≡ 0)) → KeepsOthers a b xs → KeepsOthers b c ys → KeepsOthers a c zs
others_twice a b c xs ys zs f k l = record {
  length_kept = l.length_kept ∙ k.length_kept;
  front_kept = λ p n low. l.front_kept p n low ∙ k.front_kept p n low;
  live_kept = l.live_kept ∙ k.live_kept;
  others = λ h some none.
      let n = f h none in
      linked_twice a b c h (k.others h some n.0) (l.others h (subst (λ bs. 1 ≤ times h (positions bs)) (sym k.live_kept) some) n.1);
}

pub others_more : (a b xs zs : List ℕ) → ((h : ℕ) → times h zs ≡ 0 → times h xs ≡ 0) → KeepsOthers a b xs → KeepsOthers a b zs
others_more a b xs zs f k = record { length_kept = k.length_kept; front_kept = k.front_kept; live_kept = k.live_kept; others = λ h some none. k.others h some (f h none) }

-- if allocated blocks are listed once each, two parts of the list have no block in common
pub no_common : (allocator : ℕ) (a : List ℕ) → IsHeap allocator a → (xs ys : List ℕ) → AreLive a (xs ++ ys) → (h : ℕ) → 1 ≤ times h ys → (1 ≤ times h (positions (live a))) × (times h xs ≡ 0)
no_common allocator a heap xs ys owned h some =
    let n = times-append h xs ys in
    let o = owned h in
    let once = live-once a allocator heap h in
    (omega arith, omega arith)

-- ---- a write in the payload of an allocated block

module _ (allocator : ℕ) (old new : List ℕ) (at m h : ℕ) (heap : IsHeap allocator old) (inside : IsInside old h at m) (owned : 1 ≤ times h (positions (live old))) (changes : ChangesOnly old new at m) where
  pub heap_written : IsHeap allocator new
  heap_written = IsHeap-kept old new allocator heap (tiles_kept old new at m changes allocator heap h inside owned)

  pub payload_written : KeepsOthers old new (h ∷ [])
  payload_written = record {
    length_kept = changes.length_kept;
    front_kept = λ p n low. low_kept old new at m changes allocator heap h inside owned p n low;
    live_kept = live-kept old new allocator heap (tiles_kept old new at m changes allocator heap h inside owned);
    others = other;
  }
    where
      other : (k : ℕ) → 1 ≤ times k (positions (live old)) → times k (h ∷ []) ≡ 0 → KeepsLinked old new k
      other k some none =
          let b = there (KeptBut old new at m changes allocator heap h inside owned) k (positions (live old)) (live_kept_but old new at m changes allocator heap h inside owned) some in
          let ne : k ≢ h = λ e. let same = times-same h [] in let there_is : times h (h ∷ []) ≡ 0 = subst (λ x. times x (h ∷ []) ≡ 0) e none in absurd (omega arith) in
          record {
            whole = record { kept = b.kept ne; size_kept = ap (λ u. 16 * u - 16) b.units_kept };
            link_kept = target-same old new (k + 12) (b.outside (k + 12) 4 (omega arith) (omega arith));
          }

-- ---- waiting blocks are kept

-- blocks still wait if each of them is kept with its link
pub pends_kept : (allocator : ℕ) (a b : List ℕ) (table : Table) → IsTable table → (first : Option ℕ) (blocks names : List ℕ) → IsHeap allocator b → ((h : ℕ) → 1 ≤ times h blocks → KeepsLinked a b h)
    → Pends allocator a table first blocks names → Pends allocator b table first blocks names
pends_kept allocator a b table valid first blocks names heap linked w = record {
  heap = heap;
  owed = w.owed;
  named = w.named;
  waiting = Waits-kept a b table valid (each_there (KeepsLinked a b) w.owed (λ h some. linked h (omega (arith, w.owed_are h)))) w.waiting;
  owed_are = w.owed_are;
  named_are = w.named_are;
}

pub beside_kept : (allocator : ℕ) (a b : List ℕ) (table : Table) → IsTable table → (first : Option ℕ) (blocks names : List ℕ) (theirs : ℕ → List ℕ) (frozen : List Frozen) → IsHeap allocator b
    → ((h : ℕ) → 1 ≤ times h blocks → KeepsLinked a b h) → PendsBeside allocator a table first blocks names theirs frozen → PendsBeside allocator b table first blocks names theirs frozen
beside_kept allocator a b table valid first blocks names theirs frozen heap linked w = record {
  owed = w.owed;
  pends = pends_kept allocator a b table valid first w.owed names heap (λ h some. linked h (omega (arith, w.blocks_are h, times-append h w.owed (blocks_by theirs frozen)))) w.pends;
  holds = hold_kept a b table valid theirs frozen (λ h some. (linked h (omega (arith, w.blocks_are h, times-append h w.owed (blocks_by theirs frozen)))).whole.kept) w.holds;
  ownable = λ h some. ownable_linked a b table h (linked h (omega (arith, w.blocks_are h, times-append h w.owed (blocks_by theirs frozen)))) (w.ownable h some);
  blocks_are = w.blocks_are;
}

pub awaits_kept : (allocator : ℕ) (a b : List ℕ) (table : Table) → IsTable table → (first : Option ℕ) (blocks names : List ℕ) (kept : List Place) (theirs : ℕ → List ℕ) (final : List Frozen) → IsHeap allocator b
    → ((h : ℕ) → 1 ≤ times h blocks → KeepsLinked a b h) → Awaits allocator a table first blocks names kept theirs final → Awaits allocator b table first blocks names kept theirs final
awaits_kept allocator a b table valid first blocks names kept theirs final heap linked w =
    record { named = w.named; frozen = w.frozen; beside = beside_kept allocator a b table valid first blocks w.named theirs w.frozen heap linked w.beside; releasing = w.releasing }

module _ (allocator : ℕ) (a b : List ℕ) (table : Table) (valid : IsTable table) (xs ys : List ℕ) (owned : AreLive a (xs ++ ys)) (heap : IsHeap allocator b) (k : KeepsOthers a b xs) where
  pub awaits_then : (first : Option ℕ) (names : List ℕ) (kept : List Place) (theirs : ℕ → List ℕ) (final : List Frozen) → Awaits allocator a table first ys names kept theirs final → Awaits allocator b table first ys names kept theirs final
  awaits_then first names kept theirs final w = awaits_kept allocator a b table valid first ys names kept theirs final heap (λ h some. let n = no_common allocator a w.beside.pends.heap xs ys owned h some in k.others h n.0 n.1) w

-- ---- a block whose payload is kept

-- m bytes of the payload of a block that is kept
pub inside_same : (old new : List ℕ) (home at m : ℕ) → IsInside old home at m → KeepsLinked old new home → IsSame old new at m
inside_same old new home at m i k =
    let low = i.low in
    let high = i.high in
    IsSame-part old new (home + 16) (payload_size old home) at m low (omega arith) k.whole.kept.payload

pub inside_then : (old new : List ℕ) (home at m : ℕ) → 2 ≤ units_at old home → IsInside old home at m → KeepsLinked old new home → IsInside new home at m
inside_then old new home at m two i k = let s = k.whole.size_kept in record { low = i.low; high = omega (arith, i.high) }

module _ (allocator : ℕ) (old new : List ℕ) (table : Table) (valid : IsTable table) (heap : IsHeap allocator old) (home : ℕ) (zs : List ℕ) (keeps : KeepsOthers old new zs)
    (home_live : 1 ≤ times home (positions (live old))) (apart : times home zs ≡ 0) where
  abbrev pub Inside : List ℕ → Place → Type 0
  Inside bytes q = IsInside bytes home q.at (size table q.type)

  home_kept : KeepsLinked old new home
  home_kept = keeps.others home home_live apart

  home_large : 2 ≤ units_at old home
  home_large = (there (LiesIn old heap_start (length old)) home (positions (live old)) (live-lie old allocator heap) home_live).size

  pub places_inside : (places : List Place) → AllByRecursion (Inside old) places → AllByRecursion (Inside new) places
  places_inside places a = each_weaker (Inside old) (Inside new) (λ q i. inside_then old new home q.at (size table q.type) home_large i home_kept) places a

  pub parts_then : (places : List Place) (xs ns : List ℕ) → AllByRecursion (Inside old) places → AreLive old (zs ++ xs) → AreParts old table places xs ns → AreParts new table places xs ns
  parts_then places xs ns a owned parts = parts_kept old new table valid (each_weaker (Inside old) (SamePlace old new table) (λ q i. inside_same old new home q.at (size table q.type) i home_kept) places a)
      (each_there (KeepsBlock old new) xs (λ h some. let n = no_common allocator old heap zs xs owned h some in (keeps.others h n.0 n.1).whole.kept)) parts

-- ---- blocks are added to the waiting ones

pub releasing_same : (kept : List Place) (final : List Frozen) (ns ms : List ℕ) (now : List Frozen) → SameBlocks ns ms → IsReleasing kept final ns now → IsReleasing kept final ms now
releasing_same kept final ns ms now same r =
    record { pending = r.pending; pending_are = λ h. r.pending_are h ∙ same h; next = r.next; counted = r.counted; falling = r.falling; leaves = r.leaves }

pub beside_same : (allocator : ℕ) (a : List ℕ) (table : Table) (first : Option ℕ) (xs ys names : List ℕ) (theirs : ℕ → List ℕ) (frozen : List Frozen) → SameBlocks xs ys
    → PendsBeside allocator a table first xs names theirs frozen → PendsBeside allocator a table first ys names theirs frozen
beside_same allocator a table first xs ys names theirs frozen same w = record { owed = w.owed; pends = w.pends; holds = w.holds; ownable = w.ownable; blocks_are = λ h. sym (same h) ∙ w.blocks_are h }

pub awaits_names : (allocator : ℕ) (a : List ℕ) (table : Table) (first : Option ℕ) (blocks ns ms : List ℕ) (kept : List Place) (theirs : ℕ → List ℕ) (final : List Frozen) → SameBlocks ns ms
    → Awaits allocator a table first blocks ns kept theirs final
    → Awaits allocator a table first blocks ms kept theirs final
awaits_names allocator a table first blocks ns ms kept theirs final same w = record {
  named = w.named;
  frozen = w.frozen;
  beside = w.beside;
  releasing = releasing_same kept final (ns ++ w.named) (ms ++ w.named) w.frozen (λ h. omega (arith, same h, times-append h ns w.named, times-append h ms w.named)) w.releasing;
}

pub awaits_blocks : (allocator : ℕ) (a : List ℕ) (table : Table) (first : Option ℕ) (xs ys names : List ℕ) (kept : List Place) (theirs : ℕ → List ℕ) (final : List Frozen) → SameBlocks xs ys
    → Awaits allocator a table first xs names kept theirs final
    → Awaits allocator a table first ys names kept theirs final
awaits_blocks allocator a table first xs ys names kept theirs final same w = record { named = w.named; frozen = w.frozen; beside = beside_same allocator a table first xs ys w.named theirs w.frozen same w.beside; releasing = w.releasing }

-- if the blocks of all objects are kept and allocated, so are the blocks of the objects that remain
pub final_kept : (allocator : ℕ) (old new : List ℕ) (table : Table) (first : Option ℕ) (blocks names : List ℕ) (kept : List Place) (theirs : ℕ → List ℕ) (final : List Frozen)
    → (w : Awaits allocator old table first blocks names kept theirs final) → AreLive old blocks → ((h : ℕ) → 1 ≤ times h (blocks_by theirs w.frozen) → KeepsBlock old new h) → KeepFrozen old new theirs final
final_kept allocator old new table first blocks names kept theirs final w owned whole =
    released_each (λ at. AllByRecursion (KeepsBlockAround old new at 4) (theirs at)) kept final (names ++ w.named) w.frozen w.releasing
    (frozen_kept allocator old new w.beside.pends.heap theirs w.frozen (λ h some. omega (arith, owned h, w.beside.blocks_are h, times-append h w.beside.owed (blocks_by theirs w.frozen))) whole)

pub same_adds : (allocator : ℕ) (a : List ℕ) (table : Table) (first : Option ℕ) (xs ys ns more : List ℕ) (kept : List Place) (theirs : ℕ → List ℕ) (final : List Frozen) → xs ≡ [] → ns ≡ []
    → Awaits allocator a table first ys (ns ++ more) kept theirs final
    → AreLive a ys → Adds allocator a a table first xs ys more kept theirs final
same_adds allocator a table first xs ys ns more kept theirs final none no_names w owned = record {
  keeps = others_none a (xs ++ ys);
  shared_kept = final_kept allocator a a table first ys (ns ++ more) kept theirs final w owned (λ h some. (linked_same a h).whole.kept);
  awaits = subst (λ zs. Awaits allocator a table first (zs ++ ys) more kept theirs final) (sym none) (subst (λ vs. Awaits allocator a table first ys (vs ++ more) kept theirs final) no_names w);
}

pub adds_twice : (allocator : ℕ) (a b c : List ℕ) (table : Table) (f g : Option ℕ) (xs ys zs all first_more more : List ℕ) (kept : List Place) (theirs : ℕ → List ℕ) (final : List Frozen)
    → Adds allocator a b table f xs zs first_more kept theirs final
    → Adds allocator b c table g ys (xs ++ zs) more kept theirs final → SameBlocks all (ys ++ xs) → Adds allocator a c table g all zs more kept theirs final
adds_twice allocator a b c table f g xs ys zs all first_more more kept theirs final k l same = record {
  keeps = others_twice a b c (xs ++ zs) (ys ++ (xs ++ zs)) (all ++ zs) (λ h none. let s = twice h in (omega (arith, times-append h ys (xs ++ zs)), omega arith)) k.keeps l.keeps;
  shared_kept = frozen_twice a b c theirs final k.shared_kept l.shared_kept;
  awaits = awaits_blocks allocator c table g (ys ++ (xs ++ zs)) (all ++ zs) more kept theirs final twice l.awaits;
}
  where
    twice : SameBlocks (ys ++ (xs ++ zs)) (all ++ zs)
    twice h = omega (arith, same h, times-append h ys xs, times-append h ys (xs ++ zs), times-append h xs zs, times-append h all zs)

pub adds_same : (allocator : ℕ) (a b : List ℕ) (table : Table) (f : Option ℕ) (xs ys zs more : List ℕ) (kept : List Place) (theirs : ℕ → List ℕ) (final : List Frozen) → SameBlocks xs ys
    → Adds allocator a b table f xs zs more kept theirs final
    → Adds allocator a b table f ys zs more kept theirs final
adds_same allocator a b table f xs ys zs more kept theirs final same k = record {
  keeps = others_more a b (xs ++ zs) (ys ++ zs) (λ h none. all h ∙ none) k.keeps;
  shared_kept = k.shared_kept;
  awaits = awaits_blocks allocator b table f (xs ++ zs) (ys ++ zs) more kept theirs final all k.awaits;
}
  where
    all : SameBlocks (xs ++ zs) (ys ++ zs)
    all h = omega (arith, same h, times-append h xs zs, times-append h ys zs)

-- one block more waits
pub adds_pushed : (allocator : ℕ) (old : List ℕ) (table : Table) → IsTable table → (p : ℕ) (first : Option ℕ) (xs ys ns more : List ℕ) (kept : List Place) (theirs : ℕ → List ℕ) (final : List Frozen) → GoesWith old table p xs ns
    → Awaits allocator old table first ys (ns ++ more) kept theirs final → AreLive old (xs ++ ys) → Adds allocator old (set_pointer old (block_of p + 12) first) table (Some p) xs ys more kept theirs final
adds_pushed allocator old table valid p first xs ys ns more kept theirs final o waiting owned =
    let w = waiting.beside in
    let r = pushed allocator old table valid w.pends.heap p first o.owed w.pends.owed o.named w.pends.named o.owes_it w.pends.waiting
    (λ h. omega (arith, owned h, times-append h xs ys, times-append h o.owed w.pends.owed, o.owed_are h, w.pends.owed_are h, w.blocks_are h, times-append h w.owed (blocks_by theirs waiting.frozen))) in
    let changes = set_number-changes 4 old (block_of p + 12) (distance (block_of p + 12) first) in
    let b = owes_begins old table p o.owed o.named o.owes_it in
    let mine : 1 ≤ times (block_of p) xs =
    let n : times (block_of p) o.owed ≡ times (block_of p) (block_of p ∷ b.rest) = ap (times (block_of p)) b.blocks_are in
    omega (arith, times-same (block_of p) b.rest, o.owed_are (block_of p)) in
    let here : 1 ≤ times (block_of p) (positions (live old)) = omega (arith, owned (block_of p), times-append (block_of p) xs ys) in
    let lies = there (LiesIn old heap_start (length old)) (block_of p) (positions (live old)) (live-lie old allocator w.pends.heap) here in
    let shared : (h : ℕ) → 1 ≤ times h (blocks_by theirs waiting.frozen) → KeepsLinked old (set_pointer old (block_of p + 12) first) h = λ h some.
    let there_is : 1 ≤ times h ys = omega (arith, w.blocks_are h, times-append h w.owed (blocks_by theirs waiting.frozen)) in
    let n = no_common allocator old w.pends.heap xs ys owned h there_is in
    r.others h n.0 (λ e. let m : 1 ≤ times h xs = subst (λ x. 1 ≤ times x xs) (sym e) mine in absurd (omega (arith, n.1))) in
    record {
      keeps = record {
        length_kept = changes.length_kept;
        front_kept = λ q n low. changes.others q n (inl (omega (arith, lies.low)));
        live_kept = r.live_kept;
        others = λ k some none. r.others k some (λ e. let m : 1 ≤ times k xs = subst (λ x. 1 ≤ times x xs) (sym e) mine in absurd (omega (arith, times-append k xs ys)));
      };
      shared_kept = final_kept allocator old (set_pointer old (block_of p + 12) first) table first ys (ns ++ more) kept theirs final waiting
          (λ h. omega (arith, owned h, times-append h xs ys)) (λ h some. (shared h some).whole.kept);
      awaits = record {
        named = ns ++ waiting.named;
        frozen = waiting.frozen;
        beside = record {
          owed = xs ++ w.owed;
          pends = record {
            heap = r.heap;
            owed = o.owed ++ w.pends.owed;
            named = o.named ++ w.pends.named;
            waiting = r.waiting;
            owed_are = λ h. omega (arith, times-append h xs w.owed, times-append h o.owed w.pends.owed, o.owed_are h, w.pends.owed_are h);
            named_are = λ h. omega (arith, times-append h ns waiting.named, times-append h o.named w.pends.named, o.named_are h, w.pends.named_are h);
          };
          holds = hold_kept old (set_pointer old (block_of p + 12) first) table valid theirs waiting.frozen (λ h some. (shared h some).whole.kept) w.holds;
          ownable = λ h some. ownable_linked old (set_pointer old (block_of p + 12) first) table h (shared h some) (w.ownable h some);
          blocks_are = λ h. omega (arith, w.blocks_are h, times-append h xs ys, times-append h w.owed (blocks_by theirs waiting.frozen), times-append h (xs ++ w.owed) (blocks_by theirs waiting.frozen), times-append h xs w.owed);
        };
        releasing = releasing_same kept final ((ns ++ more) ++ waiting.named) (more ++ (ns ++ waiting.named)) waiting.frozen
            (λ h. omega (arith, times-append h (ns ++ more) waiting.named, times-append h ns more, times-append h more (ns ++ waiting.named), times-append h ns waiting.named)) waiting.releasing;
      };
    }

-- ---- the first waiting block

pub pops : (allocator : ℕ) (bytes : List ℕ) (table : Table) (p : ℕ) (blocks names : List ℕ) (kept : List Place) (theirs : ℕ → List ℕ) (final : List Frozen) → Awaits allocator bytes table (Some p) blocks names kept theirs final
    → Pops allocator bytes table p (link_at bytes (block_of p)) blocks names kept theirs final
pops allocator bytes table p blocks names kept theirs final all = go w.pends.owed w.pends.named w.pends.waiting w.pends.owed_are w.pends.named_are
  where
    w : PendsBeside allocator bytes table (Some p) blocks all.named theirs all.frozen
    w = all.beside

    go : (owed named : List ℕ) → Waits bytes table (Some p) owed named → SameBlocks owed w.owed → SameBlocks named all.named → Pops allocator bytes table p (link_at bytes (block_of p)) blocks names kept theirs final
    go owed named (waits {xs = xs} {ys = ys} {ns = ns} {ms = ms} next o link more) same same_names = record {
      popped = xs;
      others = ys ++ blocks_by theirs all.frozen;
      popped_names = ns;
      goes = record { owed = xs; named = ns; owes_it = o; owed_are = λ h. refl; named_are = λ h. refl };
      awaits = record {
        named = ms;
        frozen = all.frozen;
        beside = record {
          owed = ys;
          pends = record { heap = w.pends.heap; owed = ys; named = ms; waiting = subst (λ n. Waits bytes table n ys ms) (sym link) more; owed_are = λ h. refl; named_are = λ h. refl };
          holds = w.holds;
          ownable = w.ownable;
          blocks_are = λ h. refl;
        };
        releasing = releasing_same kept final (names ++ all.named) ((ns ++ names) ++ ms) all.frozen
            (λ h. omega (arith, same_names h, times-append h names all.named, times-append h (ns ++ names) ms, times-append h ns names, times-append h ns ms)) all.releasing;
      };
      blocks_are = λ h.
          omega (arith, same h, w.blocks_are h, times-append h xs ys, times-append h w.owed (blocks_by theirs all.frozen), times-append h xs (ys ++ blocks_by theirs all.frozen), times-append h ys (blocks_by theirs all.frozen));
    }

-- if no block waits, nothing remains to be released
pub none_pends : (allocator : ℕ) (bytes : List ℕ) (table : Table) (blocks names : List ℕ) (theirs : ℕ → List ℕ) (frozen : List Frozen) (w : PendsBeside allocator bytes table None blocks names theirs frozen)
    → SameBlocks blocks (blocks_by theirs frozen) × SameBlocks names []
none_pends allocator bytes table blocks names theirs frozen w = go w.pends.owed w.pends.named w.pends.waiting w.pends.owed_are w.pends.named_are
  where
    go : (owed named : List ℕ) → Waits bytes table None owed named → SameBlocks owed w.owed → SameBlocks named names → SameBlocks blocks (blocks_by theirs frozen) × SameBlocks names []
    go owed named none_waits same same_names = ((λ h. omega (arith, same h, w.blocks_are h, times-append h w.owed (blocks_by theirs frozen))), (λ h. sym (same_names h)))

no_cell_gone : (fs : List Frozen) → AllByRecursion (λ (f : Frozen). 1 ≤ f.count) fs → left [] fs ≡ fs
no_cell_gone [] a = refl
no_cell_gone (f ∷ fs) a =
    let there_is = a.0 in
    let whole : f.count - times_named f.at [] ≡ suc (f.count - 1) = omega arith in
    let again : suc (f.count - 1) ≡ f.count = omega arith in
    ap (λ n. kept_with f n (left (names_in f.value) fs) (left [] fs)) whole ∙ ap (λ n. with_count f n ∷ left [] fs) again ∙ ap (λ rs. f ∷ rs) (no_cell_gone fs a.1)

-- if no target remains to be released, the remaining objects are the final ones
pub released : (kept : List Place) (final : List Frozen) (names : List ℕ) (now : List Frozen) → IsReleasing kept final names now → SameBlocks names [] → now ≡ final
released kept final names now r none = go r.pending r.pending_are r.leaves
  where
    go : (pending : List Place) → SameBlocks (map (λ q. q.at) pending) names → left pending now ≡ final → now ≡ final
    go [] are leaves = sym (no_cell_gone now r.counted.some) ∙ leaves
    go (q ∷ pending) are leaves = absurd (let a = are q.at in let n = none q.at in let s = times-same q.at (map (λ p. p.at) pending) in omega arith)

-- ---- blocks that are freed

pub gives_more : (bs : List Span) (xs : List ℕ) (at : ℕ) → after_gives bs (xs ++ at ∷ []) ≡ without at (after_gives bs xs)
gives_more bs [] at = refl
gives_more bs (x ∷ xs) at = gives_more (without x bs) xs at

-- The state of destruction: some blocks were freed, and the others are freed with waiting blocks or
-- belong to frozen objects.
pub record HasFreed (allocator : ℕ) (old new : List ℕ) (table : Table) (first : Option ℕ) (blocks : List ℕ) (kept_cells : List Place) (theirs : ℕ → List ℕ) (final : List Frozen) (turns : ℕ) : Type 0 where
  pub given : List ℕ
  pub left : List ℕ
  pub blocks_are : SameBlocks blocks (given ++ left)
  pub length_kept : length new ≡ length old
  pub front_kept : KeepsFront old new
  pub back_kept : KeepsBack old new
  pub live_is : live new ≡ after_gives (live old) given
  pub live_are : (h : ℕ) → times h (positions (live new)) + times h given ≡ times h (positions (live old))
  pub fewer : length (live new) + turns ≡ length (live old)
  pub awaits : Awaits allocator new table first left [] kept_cells theirs final
  pub shared_kept : KeepFrozen old new theirs final
  pub kept : (h : ℕ) → 1 ≤ times h (positions (live old)) → times h blocks ≡ 0 → KeepsLinked old new h

pub none_freed : (allocator : ℕ) (old : List ℕ) (table : Table) (first : Option ℕ) (blocks : List ℕ) (kept_cells : List Place) (theirs : ℕ → List ℕ) (final : List Frozen) → Awaits allocator old table first blocks [] kept_cells theirs final
    → AreLive old blocks → HasFreed allocator old old table first blocks kept_cells theirs final 0
none_freed allocator old table first blocks kept_cells theirs final w owned = record {
  given = [];
  left = blocks;
  blocks_are = λ h. refl;
  length_kept = refl;
  front_kept = refl;
  back_kept = refl;
  live_is = refl;
  live_are = λ h. omega arith;
  fewer = omega arith;
  awaits = w;
  shared_kept = final_kept allocator old old table first blocks [] kept_cells theirs final w owned (λ h some. (linked_same old h).whole.kept);
  kept = λ h some none. linked_same old h;
}

one_less : (at : ℕ) (bs : List Span) → 1 ≤ times at (positions bs) → length (without at bs) + 1 ≡ length bs
one_less at [] some = absurd (omega arith)
one_less at (b ∷ bs) some = go (cases_eq b.at at) (one_less at bs)
  where
    go : (b.at ≡ at) ⊎ (b.at ≢ at) → (1 ≤ times at (positions bs) → length (without at bs) + 1 ≡ length bs) → length (without at (b ∷ bs)) + 1 ≡ length (b ∷ bs)
    go (inl e) rest = let same : eqb b.at at ≡ true = grind (arith, nat_tests) in rw same (omega arith)
    go (inr ne) rest =
        let other : eqb b.at at ≡ false = grind (arith, nat_tests) in
        let later = rest (omega (arith, times-other at b.at (positions bs) ne)) in
        rw other (omega arith)

times_few : (h : ℕ) (bs : List Span) → times h (positions bs) ≤ length bs
times_few h [] = omega arith
times_few h (b ∷ bs) = let rest = times_few h bs in ⊎_elim (λ e. let s : times h (b.at ∷ positions bs) ≡ 1 + times h (positions bs) = subst
    (λ x. times h (x ∷ positions bs) ≡ 1 + times h (positions bs)) (sym e) (times-same h (positions bs)) in omega arith) (λ ne. omega (arith, times-other h b.at (positions bs) ne)) (cases_eq b.at h)

module _ (allocator : ℕ) (old now : List ℕ) (table : Table) (valid : IsTable table) (first : Option ℕ) (blocks : List ℕ) (kept_cells : List Place) (theirs : ℕ → List ℕ) (final : List Frozen) (turns : ℕ) (owned : AreLive old blocks)
    (f : HasFreed allocator old now table first blocks kept_cells theirs final turns) where
  pub left_live : AreLive now f.left
  left_live h = omega (arith, owned h, f.live_are h, f.blocks_are h, times-append h f.given f.left)

  -- One step: the first block is removed from the list, its values and links are added to the list,
  -- and it is freed.
  module _ (p : ℕ) (next : Option ℕ) (pop : Pops allocator now table p next f.left [] kept_cells theirs final) where
    pub pop_live : AreLive now (pop.popped ++ pop.others)
    pop_live h = omega (arith, left_live h, pop.blocks_are h)

    module _ (opened new : List ℕ) (after : Option ℕ) (rest : List ℕ) (its_are : SameBlocks pop.popped (block_of p ∷ rest))
        (adds : Adds allocator now opened table after rest pop.others [] kept_cells theirs final) (g : Gives allocator opened new (block_of p)) where
      here : 1 ≤ times (block_of p) (positions (live now))
      here = omega (arith, pop_live (block_of p), times-append (block_of p) pop.popped pop.others, its_are (block_of p), times-same (block_of p) rest)

      here_then : 1 ≤ times (block_of p) (positions (live opened))
      here_then = subst (λ bs. 1 ≤ times (block_of p) (positions bs)) (sym adds.keeps.live_kept) here

      gone : (h : ℕ) → times h (positions (live new)) + times h (block_of p ∷ []) ≡ times h (positions (live now))
      gone h =
          let w = times-without h (block_of p) (live opened) here_then in
          let same : times h (positions (live opened)) ≡ times h (positions (live now)) = ap (λ bs. times h (positions bs)) adds.keeps.live_kept in
          let is : times h (positions (live new)) ≡ times h (positions (without (block_of p) (live opened))) = ap (λ bs. times h (positions bs)) g.given in
          omega arith

      linked_then : (h : ℕ) → 1 ≤ times h (positions (live now)) → times h pop.popped ≡ 0 → times h pop.others ≡ 0 → KeepsLinked now new h
      linked_then h some none no_other =
          let n = its_are h in
          let is : times h (rest ++ pop.others) ≡ 0 = omega (arith, times-append h rest pop.others) in
          let other : h ≢ block_of p = λ e. let one = times-same (block_of p) rest in let s : times (block_of p) (block_of p ∷ rest) ≡ 0 = subst (λ x. times x (block_of p ∷ rest) ≡ 0) e (sym n ∙ none) in absurd (omega arith) in
          linked_twice now opened new h (adds.keeps.others h some is)
          (given_kept allocator opened new (block_of p) adds.awaits.beside.pends.heap g h (subst (λ bs. 1 ≤ times h (positions bs)) (sym adds.keeps.live_kept) some) other)

      opened_live : AreLive opened (rest ++ pop.others)
      opened_live h = omega (
        arith,
        pop_live h,
        its_are h,
        times-append h rest pop.others,
        times-append h pop.popped pop.others,
        times-append h (block_of p ∷ []) rest,
        (let same : times h (positions (live opened)) ≡ times h (positions (live now)) = ap (λ bs. times h (positions bs)) adds.keeps.live_kept in same),
      )

      stays : (h : ℕ) → 1 ≤ times h (rest ++ pop.others) → KeepsLinked opened new h
      stays h some =
          let a = times-append h rest pop.others in
          let b = times-append h pop.popped pop.others in
          let i = its_are h in
          let l = pop_live h in
          let once = live-once now allocator f.awaits.beside.pends.heap h in
          let alive : 1 ≤ times h (positions (live now)) = omega (arith, times-append h (block_of p ∷ []) rest) in
          let other : h ≢ block_of p = λ e. let one = times-same (block_of p) rest in
          let s : times h (block_of p ∷ rest) ≡ 1 + times h rest = subst (λ x. times x (block_of p ∷ rest) ≡ 1 + times x rest) (sym e) one in absurd (omega arith) in
          given_kept allocator opened new (block_of p) adds.awaits.beside.pends.heap g h (subst (λ bs. 1 ≤ times h (positions bs)) (sym adds.keeps.live_kept) alive) other

      waiting_then : Awaits allocator new table after (rest ++ pop.others) [] kept_cells theirs final
      waiting_then = awaits_kept allocator opened new table valid after (rest ++ pop.others) [] kept_cells theirs final g.heap stays adds.awaits

      shared_then : KeepFrozen old new theirs final
      shared_then = frozen_twice old now new theirs final f.shared_kept (frozen_twice now opened new theirs final adds.shared_kept
          (final_kept allocator opened new table after (rest ++ pop.others) [] kept_cells theirs final adds.awaits opened_live (λ h some.
          (stays h (omega (arith, adds.awaits.beside.blocks_are h, times-append h adds.awaits.beside.owed (blocks_by theirs adds.awaits.frozen)))).whole.kept)))

      pub freed_more : HasFreed allocator old new table after blocks kept_cells theirs final (turns + 1)
      freed_more = record {
        given = f.given ++ block_of p ∷ [];
        left = rest ++ pop.others;
        blocks_are = λ h. omega (
          arith,
          f.blocks_are h,
          pop.blocks_are h,
          its_are h,
          times-append h f.given f.left,
          times-append h pop.popped pop.others,
          times-append h (f.given ++ block_of p ∷ []) (rest ++ pop.others),
          times-append h f.given (block_of p ∷ []),
          times-append h rest pop.others,
        );
        length_kept = g.kept.length_kept ∙ adds.keeps.length_kept ∙ f.length_kept;
        front_kept = front.0 ∙ adds.keeps.front_kept 0 free_word (omega arith) ∙ f.front_kept;
        back_kept = front.1 ∙ adds.keeps.front_kept back_start back_size (omega arith) ∙ f.back_kept;
        live_is = g.given ∙ ap (without (block_of p)) (adds.keeps.live_kept ∙ f.live_is) ∙ sym (gives_more (live old) f.given (block_of p));
        live_are = λ h. omega (arith, gone h, f.live_are h, times-append h f.given (block_of p ∷ []));
        fewer = omega (arith, f.fewer, ap length adds.keeps.live_kept, ap length g.given, one_less (block_of p) (live opened) here_then);
        awaits = waiting_then;
        shared_kept = shared_then;
        kept = λ h some none.
            let b = f.blocks_are h in
            let q = pop.blocks_are h in
            let m = times-append h f.given f.left in
            let n = times-append h pop.popped pop.others in
            let l = f.live_are h in
            linked_twice old now new h (f.kept h some none) (linked_then h (omega arith) (omega arith) (omega arith));
      }
        where
          large : heap_start ≤ length opened
          large = let l = there (LiesIn opened heap_start (length opened)) (block_of p) (positions (live opened)) (live-lie opened allocator adds.awaits.beside.pends.heap) here_then in omega (arith, l.low, l.high)

          front : KeepsFront opened new × KeepsBack opened new
          front = front_kept opened new g.kept large

  -- if no block waits, all blocks were freed except the blocks of the objects that remain
  pub all_freed : first ≡ None → Destroys allocator old now table blocks theirs final
  all_freed none = go (subst (λ o. Awaits allocator now table o f.left [] kept_cells theirs final) none f.awaits)
    where
      go : Awaits allocator now table None f.left [] kept_cells theirs final → Destroys allocator old now table blocks theirs final
      go all =
          let w = all.beside in
          let empty = none_pends allocator now table f.left all.named theirs all.frozen w in
          let now_is = released kept_cells final all.named all.frozen all.releasing empty.1 in
          let same : SameBlocks blocks (f.given ++ blocks_by theirs final) = subst (λ fs. SameBlocks blocks (f.given ++ blocks_by theirs fs)) now_is
          (λ h. omega (arith, f.blocks_are h, empty.0 h, times-append h f.given f.left, times-append h f.given (blocks_by theirs all.frozen))) in
          record {
            gives = f.given;
            blocks_are = same;
            frees = record {
              length_kept = f.length_kept;
              front_kept = f.front_kept;
              back_kept = f.back_kept;
              heap = w.pends.heap;
              live_is = f.live_is;
              live_are = f.live_are;
              kept = λ h some none. f.kept h some (same h ∙ none);
            };
            shared_kept = f.shared_kept;
            holds = subst (HoldFrozen now table theirs) now_is w.holds;
            ownable = subst (λ fs. (h : ℕ) → 1 ≤ times h (blocks_by theirs fs) → IsOwnable now table h) now_is w.ownable;
          }

  -- destruction ends within as many steps as there is room for blocks
  pub enough_turns : IsHeap allocator old → length old < 16 * turns + 16 → Destroys allocator old now table blocks theirs final
  enough_turns heap many = go first refl
    where
      go : (o : Option ℕ) → first ≡ o → Destroys allocator old now table blocks theirs final
      go None e = all_freed e
      go (Some p) e =
          let w = f.awaits.beside in
          let begins = waits_begins now table p first w.pends.owed w.pends.named e w.pends.waiting in
          let l = left_live (block_of p) in
          let o = w.pends.owed_are (block_of p) in
          let b = w.blocks_are (block_of p) in
          let a = times-append (block_of p) w.owed (blocks_by theirs f.awaits.frozen) in
          let few = few_live allocator old heap in
          let one = times_few (block_of p) (live now) in
          let some = begins.1 in
          let all = f.fewer in
          absurd (omega arith)
