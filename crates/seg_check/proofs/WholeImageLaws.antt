-- All stages together: an image is sound if its index and roots own exactly its allocated blocks,
-- and its frozen objects count the cells that point to them.
use Rattle.std.proofs.Common.{◌≡◌, ℕ, zero, suc, ◌+◌, ◌-◌, ◌/◌, ◌%◌, ◌<◌, ◌≤◌, ⊎_elim, List, [], ◌∷◌, ◌++◌, length, map, Option, Some, None, refl, sym, ap, ◌∙◌, subst, zero-add, arith}
use Rattle.std.proofs.lemmas.Bool.{cases_eq}
use Rattle.std.proofs.lemmas.List.{append_assoc, append-nil, map-append}
use Rattle.std.specs.List.{AllByRecursion}
use Rattle.seg_spec.specs.Bytes.{word}
use Rattle.seg_spec.specs.Types.{Table, size}
use Rattle.seg_spec.specs.Value.{Value, Values, nil}
use Rattle.seg_spec.specs.Heap.{IsHeap, HoldsGaps, gaps, live, tag_at}
use Rattle.seg_spec.specs.Header.{types_start, allocator_word, index_kind_word, next_word}
use Rattle.seg_spec.specs.Block.{Kind, kind_number, tag_of, block_of, IsBlock}
use Rattle.seg_spec.specs.Reads.{Place}
use Rattle.seg_spec.specs.Frozen.{Frozen, root_of_frozen}
use Rattle.seg_spec.specs.Shared.{names_in, names_each, names_of, times_named, IsBelow, IsCounted}
use Rattle.seg_spec.specs.Counting.{cells_in, owners_in}
use Rattle.seg_spec.specs.Images.{IsSound}
use Rattle.seg_spec.specs.Index.{Root, AreEntries, AreAscending, Precedes}
use Rattle.seg_spec.specs.Sound.{Picture, roots_of, frozen_roots, IsPlain, HoldsRoots, IsLaidOut, times, SameBlocks, positions}
use Rattle.seg_spec.specs.Faulty.{HasFront, HasTiles, HoldsAll, LacksOwner}
use Rattle.seg_spec.proofs.Values.PlaceFrameLaws.{each_left, each_weaker}
use Rattle.seg_spec.proofs.Heap.LiveBlockLaws.{times-append, each_there, there, live-once}
use Rattle.seg_spec.proofs.Images.LooseRootLaws.{each_joined}
use Rattle.seg_spec.proofs.Tables.OneTableLaws.{HasTable-one}
use Rattle.seg_spec.proofs.Images.OwnedTagLaws.{IsOther, index_other, roots_other, tags_of_version}
use Rattle.seg_spec.proofs.Images.RootLaws.{HoldsRoots-split, HoldsRoots-append}
use Rattle.seg_check.specs.Faults.{IsImageOf}
use Rattle.seg_check.specs.Owners.{HoldsBut, HoldsOnce, LacksOwnerAt}
use Rattle.seg_check.specs.Marks.{Known, AreBlocksCounted, KnowsTiles}
use Rattle.seg_check.specs.Naming.{IsFrozen, CanBeTarget, frozen_number_at, less, Counts, blocks_of, unseen_at, standing_at}
use Rattle.seg_check.specs.Turns.{Limited, awaited, AreWaiting, frozen_place}
use Rattle.seg_check.specs.Resolving.{ReadsEach, reads_none, ResolvesBy}
use Rattle.seg_check.specs.Cells.{Owned, CanResolveAll, AreCountsRight}
use Rattle.seg_check.specs.Roots.{uniques_ahead, ResolvesRoots, ResolvesIndex, CanResolveRoots, AdvancesIndex, AdvancesUniques}
use Rattle.seg_check.proofs.Queue.ReadPlaceLaws.{names_nil, positions_of, positions_append, reads_one}
use Rattle.seg_check.proofs.SameLengthLaws.{remainder}
use Rattle.seg_check.proofs.Blocks.FrozenClaimLaws.{none_frozen, none_other}
use Rattle.seg_check.proofs.Queue.QueueStepLaws.{resolves_swap, awaited-append, waiting_both}
use Rattle.seg_check.proofs.Queue.QueueOrderLaws.{in_any_order}
use Rattle.seg_check.proofs.Contents.SharedCellLaws.{frozen_tag, frozen_type, less_nothing, less_self}
use Rattle.seg_check.proofs.Objects.FrozenOrderLaws.{sorted, greatest}
use Rattle.seg_check.proofs.Objects.FrozenListLaws.{number_of, frozens, reads_other, names_are, HasRoom, built, each_frozen, each_named, each_falls, falling, distinct, below_in}
use Rattle.seg_check.proofs.Objects.FrozenReadLaws.{blocks_in, IsThere, are_there, are_frozen, blocks_there, read_frozen, below_named, any_limit, among, each_name, none_names, reads_named, no_places, found}
use Rattle.seg_check.proofs.Heap.HeapLaws.{is_heap}

-- ---- names after the empty name

after_none : (bytes : List ℕ) (entries : List ℕ) (names : List Root) → AreEntries bytes entries names → AreAscending (map (λ (r : Root). r.name) names) → AreAscending ([] ∷ map (λ (r : Root). r.name) names)
after_none bytes [] [] e a = tt
after_none bytes (x ∷ entries) [] e a = tt
after_none bytes [] (r ∷ names) e a = absurd e
after_none bytes (x ∷ entries) (r ∷ names) e a = (first r.name e.0.is_name.not_empty, a)
  where
    first : (name : List ℕ) → 1 ≤ length name → Precedes [] name
    first [] l = absurd (omega arith)
    first (b ∷ name) l = tt

of_after : (ns : List (List ℕ)) → AreAscending ([] ∷ ns) → AreAscending ns
of_after [] a = tt
of_after (n ∷ ns) a = a.1

each_with_none : (roots : List Root) → AllByRecursion IsPlain roots → AllByRecursion IsPlain (roots ++ [])
each_with_none roots p = subst (AllByRecursion IsPlain) (sym (append-nil roots)) p

-- only frozen objects have words before their values
plain_names : (bytes : List ℕ) (entries : List ℕ) (names : List Root) → AreEntries bytes entries names → AllByRecursion (λ (r : Root). r.words ≡ []) names
plain_names bytes [] [] e = tt
plain_names bytes (x ∷ entries) [] e = tt
plain_names bytes [] (r ∷ names) e = absurd e
plain_names bytes (x ∷ entries) (r ∷ names) e = (e.0.no_words, plain_names bytes entries names e.1)

plain_roots : (bytes : List ℕ) (entries : List ℕ) (names uniques : List Root) → AreEntries bytes entries names → AllByRecursion IsPlain uniques → AllByRecursion (λ (r : Root). r.words ≡ []) (names ++ uniques)
plain_roots bytes entries names uniques e p = each_joined (λ (r : Root). r.words ≡ []) names uniques (plain_names bytes entries names e) (each_weaker IsPlain (λ (r : Root). r.words ≡ []) (λ r q. q.no_words) uniques p)

from_zero : (n : ℕ) → 0 ≤ n
from_zero n = omega arith

-- in a sound image no block is without an owner
pub sound_but : (bytes : List ℕ) → IsSound bytes → HoldsBut bytes []
sound_but bytes s =
    let h = s.held in
    let all : HoldsAll bytes = record {
      picture = s.picture;
      none_loose = s.none_loose;
      counted = s.counted;
      index_blocks = h.index_blocks;
      laid_out = h.laid_out;
      of_version = tags_of_version bytes s;
      root_blocks = h.root_blocks;
      roots = h.roots;
      live_ones = each_there (λ b. 1 ≤ times b (positions (live bytes))) (h.index_blocks ++ h.root_blocks) (λ b some. omega (arith, some, h.owners b));
    } in
    record { all = all; owners = λ b. h.owners b ∙ ap (times b) (sym (append-nil (h.index_blocks ++ h.root_blocks))) }

pub sound_once : (bytes : List ℕ) → IsSound bytes → HoldsOnce bytes
sound_once bytes s = ([], sound_but bytes s)

-- ---- blocks

all_apart : (h : ℕ) (index roots frozen vs hs left : List ℕ) → times h frozen ≡ times h (hs ++ vs) → times h ((index ++ (roots ++ frozen)) ++ left) ≡ times h index + times h roots + times h hs + times h vs + times h left
all_apart h index roots frozen vs hs left e =
    let x = times-append h (index ++ (roots ++ frozen)) left in
    let y = times-append h index (roots ++ frozen) in
    let w = times-append h roots frozen in
    let t = times-append h hs vs in
    omega arith

frozen_apart : (h : ℕ) (alive index roots frozen vs hs left seen : List ℕ) → times h alive ≡ times h seen + times h left → times h hs ≡ times h seen → times h frozen ≡ times h (hs ++ vs) → times h index ≡ 0
    → times h roots ≡ 0 → times h vs ≡ 0 → times h alive ≡ times h ((index ++ (roots ++ frozen)) ++ left)
frozen_apart h alive index roots frozen vs hs left seen a s e i r v = omega (arith, all_apart h index roots frozen vs hs left e, a, s, i, r, v)

others_apart : (h : ℕ) (alive index roots frozen vs hs left seen known first rest : List ℕ) → times h known ≡ times h alive → times h known ≡ times h (index ++ first) → times h first ≡ times h (roots ++ rest)
    → times h rest ≡ times h (vs ++ left) → times h hs ≡ times h seen → times h frozen ≡ times h (hs ++ vs) → times h seen ≡ 0 → times h alive ≡ times h ((index ++ (roots ++ frozen)) ++ left)
others_apart h alive index roots frozen vs hs left seen known first rest k i r v s e z =
    omega (arith, all_apart h index roots frozen vs hs left e, k, i, r, v, s, z, times-append h index first, times-append h roots rest, times-append h vs left)

module _ (bytes : List ℕ) (table : Table) (known : Known) (front : HasFront bytes table) (tiles : HasTiles bytes table) (free : HoldsGaps (word bytes allocator_word) bytes (gaps bytes)) (knows : KnowsTiles bytes known) where
  heap : IsHeap (word bytes allocator_word) bytes
  heap = is_heap bytes table front tiles free

  table_is : (picture : Picture) (index_blocks : List ℕ) → IsLaidOut bytes picture index_blocks → picture.table ≡ table
  table_is picture index_blocks l = HasTable-one bytes types_start picture.table table l.is_table front.is_table l.types front.types

  image_held : HoldsBut bytes [] → IsImageOf bytes table
  image_held h =
      let a = h.all in
      record {
        picture = a.picture;
        held = record {
          index_blocks = a.index_blocks;
          laid_out = a.laid_out;
          root_blocks = a.root_blocks;
          roots = a.roots;
          owners = (λ b. h.owners b ∙ ap (times b) (append-nil (a.index_blocks ++ a.root_blocks)));
        };
        counted = a.counted;
        none_loose = a.none_loose;
        table_is = table_is a.picture a.index_blocks a.laid_out;
      }

  -- ---- an image in which no block has several owners

  -- a cell points to one of these objects
  abbrev IsAmong : List Frozen → Place → Type 0
  IsAmong fs q = 1 ≤ times (block_of q.at) (blocks_in bytes table fs)

  none_then : (n : ℕ) → (1 ≤ n → ⊥) → n ≡ 0
  none_then zero none = refl
  none_then (suc n) none = absurd (none (omega arith))

  -- a frozen object counts the cells that point to it
  pub record CountsAt (found : List ℕ) (h : ℕ) : Type 0 where
    pub counted : word bytes (h + 16) ≡ times (h + 16) found
    pub some : 1 ≤ times (h + 16) found
    pub numbered : frozen_number_at bytes (h + 16) < word bytes next_word

  -- the frozen objects of the image, and the claim about its roots
  pub record ImageRead (left : List ℕ) : Type 0 where
    pub blocks : List ℕ
    pub frozen : AllByRecursion (IsFrozen bytes) blocks
    pub all : (h : ℕ) → IsFrozen bytes h → times h (positions (live bytes)) ≡ times h blocks + times h left
    pub found : List ℕ
    pub index : ResolvesIndex bytes table None known.unclaimed left (map (frozen_place bytes) blocks) found
    pub counts : AllByRecursion (CountsAt found) blocks
    pub unnamed : (h : ℕ) → IsFrozen bytes h → 1 ≤ times h left → times (h + 16) found ≡ 0

  module _ (names uniques : List Root) (fs : List Frozen) (found : List ℕ) (next_is : IsCounted (word bytes next_word) fs (cells_in (names ++ uniques)))
      (found_is : (p : ℕ) → times_named p (cells_in (names ++ uniques) ++ names_of fs) ≡ times p found) where
    counts_each : (gs : List Frozen) → AllByRecursion (IsThere bytes table) gs → AllByRecursion (λ f. f.number < word bytes next_word) gs → AllByRecursion (λ f. 1 ≤ f.count) gs
        → AllByRecursion (λ f. f.count ≡ times_named f.at (cells_in (names ++ uniques) ++ names_of fs)) gs → AllByRecursion (CountsAt found) (blocks_in bytes table gs)
    counts_each [] t n s c = tt
    counts_each (f ∷ gs) t n s c =
        let high = t.0.block.after_header in
        let at : block_of f.at + 16 ≡ f.at = omega arith in
        let same : times f.at found ≡ f.count = sym (found_is f.at) ∙ sym c.0 in (
          record {
            counted = subst (λ p. word bytes p ≡ times p found) (sym at) (t.0.count_is ∙ sym same);
            some = subst (λ p. 1 ≤ times p found) (sym at) (omega (arith, same, s.0));
            numbered = subst (λ p. frozen_number_at bytes p < word bytes next_word) (sym at) (omega (arith, t.0.number_is, n.0));
          },
          counts_each gs t.1 n.1 s.1 c.1,
        )

  pub image_read : (left : List ℕ) → HoldsBut bytes left → ImageRead left
  image_read left but =
      let a = but.all in
      let p = a.picture in
      let l = a.laid_out in
      let names = l.names in
      let fs = p.frozen in
      let next = word bytes next_word in
      let same : p.table ≡ table = table_is p a.index_blocks l in
      let roots_are : roots_of p ≡ (p.names ++ p.uniques) ++ map root_of_frozen fs = ap (λ rs. p.names ++ (p.uniques ++ (rs ++ frozen_roots p))) a.none_loose ∙ sym (append_assoc p.names p.uniques (frozen_roots p)) in
      let sp = HoldsRoots-split bytes table (p.names ++ p.uniques) (map root_of_frozen fs) a.root_blocks
      (subst (λ rs. HoldsRoots bytes table rs a.root_blocks) roots_are (subst (λ t. HoldsRoots bytes t (roots_of p) a.root_blocks) same a.roots)) in
      let there_all = are_there bytes table fs sp.rights in
      let owners_are : owners_in p ≡ p.names ++ p.uniques = ap (λ rs. p.names ++ (p.uniques ++ rs)) a.none_loose ∙ ap (λ rs. p.names ++ rs) (append-nil p.uniques) in
      let counted = subst (λ rs. IsCounted next fs (cells_in rs)) owners_are a.counted.counted in
      let root_blocks = λ (b : ℕ). ap (times b) sp.blocks_are ∙ times-append b sp.left sp.right in
      let owned = λ (b : ℕ). but.owners b ∙ times-append b (a.index_blocks ++ a.root_blocks) left in
      let alive : (b : ℕ) → 1 ≤ times b (blocks_in bytes table fs) → 1 ≤ times b (positions (live bytes)) = λ b some.
      omega (arith, some, owned b, times-append b a.index_blocks a.root_blocks, root_blocks b, blocks_there bytes table fs sp.rights b) in
      let named = each_weaker (λ (f : Frozen). AllByRecursion (IsBelow f.number fs) (names_in f.value)) (λ (f : Frozen). AllByRecursion (CanBeTarget bytes table (Some f.number)) (names_in f.value))
      (λ f a. each_weaker (IsBelow f.number fs) (CanBeTarget bytes table (Some f.number)) (λ q b. below_named bytes table f.number fs q there_all alive b) (names_in f.value) a) fs counted.falling in
      let rf = read_frozen bytes table fs sp.rights named in
      let plain = each_left IsPlain p.uniques p.loose l.plain in
      let cells = cells_in (p.names ++ p.uniques) in
      let mine = positions_of (names_each rf.values) in
      let blocks = blocks_in bytes table fs in
      let frozen = are_frozen bytes table fs there_all in
      let all : (h : ℕ) → IsFrozen bytes h → times h (positions (live bytes)) ≡ times h blocks + times h left = λ b f.
      let none_index = none_frozen bytes b a.index_blocks f (subst (AllByRecursion (IsOther bytes)) (sym names.blocks_are) (index_other bytes (word bytes index_kind_word) names.index names.opens)) in
      let none_root = none_frozen bytes b sp.left f (roots_other bytes table (plain_roots bytes names.index.entries p.names p.uniques names.entries plain) sp.lefts) in
      let none_owned = none_frozen bytes b rf.owned f (reads_other bytes table rf.reads) in
      omega (arith, owned b, times-append b a.index_blocks a.root_blocks, root_blocks b, rf.same b, times-append b blocks rf.owned, none_index, none_root, none_owned) in
      let targets = each_joined (IsAmong fs) cells (names_each rf.values)
      (each_weaker (IsBelow next fs) (IsAmong fs) (λ q b. among bytes table next fs q b) cells counted.named)
      (subst (AllByRecursion (IsAmong fs)) rf.names_are (each_name (IsAmong fs) fs
      (each_weaker (λ (f : Frozen). AllByRecursion (IsBelow f.number fs) (names_in f.value)) (λ (f : Frozen). AllByRecursion (IsAmong fs) (names_in f.value))
      (λ f b. each_weaker (IsBelow f.number fs) (IsAmong fs) (λ q c. among bytes table f.number fs q c) (names_in f.value) b) fs counted.falling))) in
      record {
        blocks = blocks;
        frozen = frozen;
        all = all;
        found = positions_of cells ++ mine;
        index = record {
          index = names.index;
          opens = names.opens;
          rest = a.root_blocks ++ left;
          roots = record {
            names = p.names;
            uniques = p.uniques;
            root_blocks = sp.left;
            rest = rf.owned ++ left;
            are_entries = names.entries;
            ascending = after_none bytes names.index.entries p.names names.entries names.ascending;
            words = (λ T low small. l.uniques.words T small);
            rising = l.uniques.rising;
            plain = plain;
            roots = sp.lefts;
            named = each_weaker (IsBelow next fs) (CanBeTarget bytes table None) (λ q b. any_limit bytes table next q (below_named bytes table next fs q there_all alive b)) cells counted.named;
            others = mine;
            resolves = record { values = rf.values; blocks = rf.owned; reads = rf.reads; owners = (λ b other. refl); names_are = (λ b. refl) };
            owners = (λ b other. omega (
              arith,
              root_blocks b,
              rf.same b,
              times-append b blocks rf.owned,
              none_other bytes b blocks other frozen,
              times-append b sp.left (rf.owned ++ left),
              times-append b rf.owned left,
              times-append b a.root_blocks left,
            ));
            found_are = (λ b. refl);
          };
          owners = (λ b other. knows.unclaimed b ∙ but.owners b ∙ ap (times b) (append_assoc a.index_blocks a.root_blocks left) ∙ ap (λ xs. times b (xs ++ (a.root_blocks ++ left))) names.blocks_are);
        };
        counts = counts_each p.names p.uniques fs (positions_of cells ++ mine) counted
            (λ b. ap (times b) (positions_append cells (names_of fs)) ∙ ap (λ ns. times b (positions_of cells ++ positions_of ns)) rf.names_are) fs there_all counted.numbered counted.some counted.counts;
        unnamed = λ h f some. none_then (times (h + 16) (positions_of cells ++ mine)) (λ met.
            let q = found bytes table (IsAmong fs) (h + 16) (cells ++ names_each rf.values) targets (omega (arith, met, ap (times (h + 16)) (positions_append cells (names_each rf.values)))) in
            let own : block_of q.name.at ≡ h = ap block_of q.at_is ∙ (let e : h + 16 - 16 ≡ h = omega arith in e) in
            let there : 1 ≤ times h blocks = subst (λ b. 1 ≤ times b blocks) own q.is in
            absurd (omega (arith, there, some, all h f, live-once bytes (word bytes allocator_word) heap h)));
      }

  -- ---- the stages together

  -- the unique objects of the image can be resolved
  module _ (second third : Known) (index : AdvancesIndex bytes table known second) where
    pub roots_can : HoldsOnce bytes → CanResolveRoots bytes table second uniques_ahead
    roots_can (left, but) =
        let r = image_read left but in
        record {
          left = left;
          places = awaited bytes table index.turns ++ map (frozen_place bytes) r.blocks;
          found = r.found;
          resolves = subst (λ k. ResolvesRoots bytes table k second.unclaimed left uniques_ahead (awaited bytes table index.turns ++ map (frozen_place bytes) r.blocks) r.found) (sym index.finds.below_kept)
              (index.forth left (map (frozen_place bytes) r.blocks) r.found (subst (λ k. ResolvesIndex bytes table k known.unclaimed left (map (frozen_place bytes) r.blocks) r.found) (sym knows.no_limit) r.index));
        }

  module _ (second third : Known) (index : AdvancesIndex bytes table known second) (uniques : AdvancesUniques bytes table second third) where
    pub index_waits : second.turns ≡ index.turns
    index_waits = index.turns_are ∙ ap (λ ts. ts ++ index.turns) knows.no_turns

    turns_together : third.turns ≡ index.turns ++ uniques.turns
    turns_together = uniques.turns_are ∙ ap (λ ts. ts ++ uniques.turns) index_waits

    waits : awaited bytes table third.turns ≡ awaited bytes table index.turns ++ awaited bytes table uniques.turns
    waits = ap (awaited bytes table) turns_together ∙ awaited-append bytes table index.turns uniques.turns

    pub are_waiting : AreWaiting bytes table third.turns
    are_waiting = subst (AreWaiting bytes table) (sym turns_together) (waiting_both bytes table index.turns uniques.turns index.are_waiting uniques.are_waiting)

    pub values_forth : (left : List ℕ) (places : List Limited) (found : List ℕ) → ResolvesIndex bytes table None known.unclaimed left places found
        → ResolvesBy bytes table third.unclaimed left (awaited bytes table third.turns ++ places) found
    values_forth left places found r =
        let one = index.forth left places found (subst (λ k. ResolvesIndex bytes table k known.unclaimed left places found) (sym knows.no_limit) r) in
        let moved = subst (λ k. ResolvesRoots bytes table k second.unclaimed left uniques_ahead (awaited bytes table index.turns ++ places) found) (sym index.finds.below_kept) one in
        let two = uniques.forth left (awaited bytes table index.turns ++ places) found moved in
        subst (λ ps. ResolvesBy bytes table third.unclaimed left ps found) (sym (append_assoc (awaited bytes table index.turns) (awaited bytes table uniques.turns) places) ∙ ap (λ xs. xs ++ places) (sym waits))
        (resolves_swap bytes table third.unclaimed left (awaited bytes table uniques.turns) (awaited bytes table index.turns) places found two)

    pub values_back : (left : List ℕ) (places : List Limited) (found : List ℕ) → ResolvesBy bytes table third.unclaimed left (awaited bytes table third.turns ++ places) found
        → ResolvesIndex bytes table None known.unclaimed left places found
    values_back left places found r =
        let two = resolves_swap bytes table third.unclaimed left (awaited bytes table index.turns) (awaited bytes table uniques.turns) places found
        (subst (λ ps. ResolvesBy bytes table third.unclaimed left ps found) (ap (λ xs. xs ++ places) waits ∙ append_assoc (awaited bytes table index.turns) (awaited bytes table uniques.turns) places) r) in
        let moved = subst (λ k. ResolvesRoots bytes table k second.unclaimed left uniques_ahead (awaited bytes table index.turns ++ places) found) index.finds.below_kept
        (uniques.back left (awaited bytes table index.turns ++ places) found two) in
        subst (λ k. ResolvesIndex bytes table k known.unclaimed left places found) knows.no_limit (index.back left places found moved)

    -- the frozen objects are unclaimed
    unseen_third : (h : ℕ) → IsFrozen bytes h → unseen_at third h ≡ times h (positions (live bytes))
    unseen_third h f =
        let start : unseen_at known h ≡ times h known.unclaimed = (let none : times h (blocks_of known.turns) ≡ 0 = ap (λ ts. times h (blocks_of ts)) knows.no_turns in omega arith) in
        omega (arith, uniques.finds.unseen_kept h f, index.finds.unseen_kept h f, start, knows.unclaimed h)

    standing_third : (h : ℕ) → IsFrozen bytes h → standing_at third h ≡ times h (positions (live bytes))
    standing_third h f = omega (arith, uniques.finds.standing_kept h f, index.finds.standing_kept h f, knows.none_named h, knows.unclaimed h)

    none_counted : Counts bytes known []
    none_counted = record {
      each = λ h f. record { named = (λ some. absurd (omega (arith, some, knows.none_named h)), λ some. absurd (omega (arith, some))); left = λ some. absurd (omega (arith, some, knows.none_named h)) };
      frozen = λ h some. absurd (omega (arith, some, knows.none_named h));
    }

    counts_third : Counts bytes third []
    counts_third = uniques.finds.counts [] (index.finds.counts [] none_counted)

    -- no frozen object is in the queue
    none_wait : (h : ℕ) → IsFrozen bytes h → times h (blocks_of third.turns) ≡ 0
    none_wait h f =
        let unnamed = none_then (times h third.naming.named) (λ some. let met = (counts_third.each h f).named.0 some in absurd (omega (arith, met))) in
        omega (arith, unseen_third h f, standing_third h f, unnamed)

    -- the queue of the image can be resolved
    pub image_can : (left : List ℕ) → HoldsBut bytes left → CanResolveAll bytes table third
    image_can left but =
        let r = image_read left but in
        record {
          none_wait = none_wait;
          none_counted = counts_third;
          left = left;
          frozen = r.blocks;
          are_frozen = r.frozen;
          unseen = λ h f. unseen_third h f ∙ r.all h f;
          names = r.found;
          resolves = values_forth left (map (frozen_place bytes) r.blocks) r.found r.index;
          unnamed = r.unnamed;
        }

    module _ (last : Known) (values : Owned bytes table third last) where
      pub counted_last : AreBlocksCounted last
      counted_last = values.counted (uniques.counted (index.counted knows.counted))

      pub counts_last : Counts bytes last (values.found ++ [])
      counts_last = values.counts [] counts_third

      -- the values of exactly the frozen objects with a cell were checked
      seen_named : (h : ℕ) → IsFrozen bytes h → times h values.seen ≡ times h last.naming.named
      seen_named h f = omega (arith, values.unseen h f, unseen_third h f, values.standing_kept h f, standing_third h f)

      all_seen : (h : ℕ) → IsFrozen bytes h → times h (positions (live bytes)) ≡ times h values.seen + times h last.unclaimed
      all_seen h f = omega (arith, values.unseen h f, unseen_third h f)

      -- ---- the frozen objects of the image

      pub record ImageEnd (left : List ℕ) : Type 0 where
        pub left_are : SameBlocks last.unclaimed left
        pub right : AreCountsRight bytes last

      -- The values of each frozen object were checked. Otherwise, of the objects whose values
      -- weren't checked, no object would point to the one with the greatest number.
      none_unseen : (rest found names : List ℕ) → ((h : ℕ) → 1 ≤ times h rest → (1 ≤ times (h + 16) found) × (times (h + 16) (values.found ++ []) ≡ 0)) → SameBlocks found (values.found ++ names) → {vs : Values} {bs : List ℕ}
          → ReadsEach bytes table (map (frozen_place bytes) rest) vs bs → SameBlocks names (positions_of (names_each vs)) → rest ≡ []
      none_unseen [] found names facts same reads are = refl
      none_unseen (r ∷ rs) found names facts same reads are =
          let g = greatest (number_of bytes table) r rs in
          let h = g.block in
          let fact = facts h g.there in
          let none = none_names bytes table (h + 16) (r ∷ rs) g.all reads in
          absurd (omega (arith, fact.0, fact.1, same (h + 16), are (h + 16), none, times-append (h + 16) values.found [], times-append (h + 16) values.found names))

      -- if the values of each frozen object were checked, all counts are right
      seen_right : (left blocks rest found names : List ℕ) → AllByRecursion (CountsAt found) blocks → SameBlocks blocks (values.seen ++ rest) → ((h : ℕ) → IsFrozen bytes h → times h last.unclaimed ≡ times h rest + times h left)
          → SameBlocks found (values.found ++ names) → ResolvesBy bytes table last.unclaimed left (map (frozen_place bytes) rest) names → rest ≡ [] → ImageEnd left
      seen_right left blocks rest found names counts same unclaimed named r none =
          let nothing = no_places bytes table (subst (λ hs. ReadsEach bytes table (map (frozen_place bytes) hs) r.values r.blocks) none r.reads) in
          record {
            left_are = λ h. ⊎_elim
                (λ f. unclaimed h f ∙ ap (λ hs. times h hs + times h left) none ∙ zero-add (times h left))
                (λ other. r.owners h other ∙ ap (λ bs. times h (bs ++ left)) nothing.0)
                (cases_eq (tag_at bytes h % 256) (kind_number Kind.frozen));
            right = λ h some.
                let f = counts_last.frozen h some in
                let was : 1 ≤ times h blocks = omega (arith, same h, times-append h values.seen rest, seen_named h f, some) in
                let c = there (CountsAt found) h blocks counts was in
                let no_names : times (h + 16) names ≡ 0 = r.names_are (h + 16) ∙ ap (λ ns. times (h + 16) (positions_of ns)) nothing.1 in
                let all : times (h + 16) (values.found ++ []) ≡ word bytes (h + 16) = omega (arith, c.counted, named (h + 16), no_names, times-append (h + 16) values.found [], times-append (h + 16) values.found names) in
                record { none_left = (counts_last.each h f).left some ∙ ap (less (word bytes (h + 16))) all ∙ less_self (word bytes (h + 16)); numbered = c.numbered };
          }

      pub image_end : (left : List ℕ) → HoldsBut bytes left → ImageEnd left
      unfolding image_can
      image_end left but =
          let r = image_read left but in
          let f = frozen_place bytes in
          let start = awaited bytes table third.turns in
          let split = remainder values.seen r.blocks (values.seen_within (image_can left but)) in
          let rest = split.rest in
          let read = values_forth left (map f r.blocks) r.found r.index in
          let front = resolves_swap bytes table third.unclaimed left start (map f r.blocks) [] r.found (subst (λ xs. ResolvesBy bytes table third.unclaimed left (start ++ xs) r.found) (sym (append-nil (map f r.blocks))) read) in
          let ordered = in_any_order bytes table f third.unclaimed left r.blocks (values.seen ++ rest) (start ++ []) r.found split.same front in
          let back = resolves_swap bytes table third.unclaimed left (map f (values.seen ++ rest)) start [] r.found ordered in
          let apart : map f (values.seen ++ rest) ++ [] ≡ map f values.seen ++ map f rest = append-nil (map f (values.seen ++ rest)) ∙ map-append f values.seen rest in
          let v = subst (λ xs. ResolvesBy bytes table third.unclaimed left (start ++ xs) r.found) apart back in
          let ahead = values.forth left (map f rest) (record { names = r.found; by = v }) in
          let again = values.back left (map f rest) ahead.names ahead.by in
          let one : v.values ≡ again.values = reads_one bytes table v.reads again.reads in
          let named : SameBlocks r.found (values.found ++ ahead.names) = λ h. v.names_are h ∙ ap (λ vs. times h (positions_of (names_each vs))) one ∙ sym (again.names_are h) in
          let unclaimed : (h : ℕ) → IsFrozen bytes h → times h last.unclaimed ≡ times h rest + times h left = λ h z.
          omega (arith, r.all h z, all_seen h z, split.same h, times-append h values.seen rest) in
          let facts : (h : ℕ) → 1 ≤ times h rest → (1 ≤ times (h + 16) r.found) × (times (h + 16) (values.found ++ []) ≡ 0) = λ h some.
          let was : 1 ≤ times h r.blocks = omega (arith, some, split.same h, times-append h values.seen rest) in
          let z = there (IsFrozen bytes) h r.blocks r.frozen was in
          let c = there (CountsAt r.found) h r.blocks r.counts was in
          let once = live-once bytes (word bytes allocator_word) heap h in
          let none : times h last.naming.named ≡ 0 = omega (arith, some, unclaimed h z, values.standing_kept h z, standing_third h z, once) in
          (c.some, none_then (times (h + 16) (values.found ++ [])) (λ met. let n = (counts_last.each h z).named.1 met in omega (arith, n, none))) in
          seen_right left r.blocks rest r.found ahead.names r.counts split.same unclaimed named ahead.by (none_unseen rest r.found ahead.names facts named ahead.by.reads ahead.by.names_are)

      -- ---- the picture, from the results of all stages

      module _ (right : AreCountsRight bytes last) where
        index_held : ResolvesIndex bytes table None known.unclaimed last.unclaimed (map (frozen_place bytes) values.seen ++ []) (values.found ++ [])
        index_held = values_back last.unclaimed (map (frozen_place bytes) values.seen ++ []) (values.found ++ []) (values.back last.unclaimed [] []
            (record { values = nil; blocks = []; reads = reads_none; owners = λ h other. refl; names_are = λ h. ap (λ ns. times h (positions_of ns)) (sym names_nil) }))

        seen_frozen : (h : ℕ) → 1 ≤ times h (sorted (number_of bytes table) values.seen).list → IsFrozen bytes h
        seen_frozen h some = there (IsFrozen bytes) h values.seen values.are_frozen (omega (arith, some, (sorted (number_of bytes table) values.seen).same h))

        -- if a cell points to a frozen object, the object's values were checked
        seen_met : (h : ℕ) → IsFrozen bytes h → 1 ≤ times (h + 16) (values.found ++ []) → 1 ≤ times h (sorted (number_of bytes table) values.seen).list
        seen_met h f met = let n = (counts_last.each h f).named.1 met in omega (arith, n, seen_named h f, (sorted (number_of bytes table) values.seen).same h)

        now_named : (h : ℕ) → 1 ≤ times h (sorted (number_of bytes table) values.seen).list → 1 ≤ times h last.naming.named
        now_named h some = omega (arith, some, seen_named h (seen_frozen h some), (sorted (number_of bytes table) values.seen).same h)

        met_seen : (h : ℕ) → 1 ≤ times h (sorted (number_of bytes table) values.seen).list → 1 ≤ times (h + 16) (values.found ++ [])
        met_seen h some = (counts_last.each h (seen_frozen h some)).named.0 (now_named h some)

        counts_are : (h : ℕ) → 1 ≤ times h (sorted (number_of bytes table) values.seen).list → word bytes (h + 16) ≡ times (h + 16) (values.found ++ [])
        counts_are h some = less_nothing (word bytes (h + 16)) (times (h + 16) (values.found ++ [])) (sym ((counts_last.each h (seen_frozen h some)).left (now_named h some)) ∙ (right h (now_named h some)).none_left)

        number_low : (h : ℕ) → 1 ≤ times h (sorted (number_of bytes table) values.seen).list → frozen_number_at bytes (h + 16) < word bytes next_word
        number_low h some = (right h (now_named h some)).numbered

        -- a reference that was found points to one of the frozen objects
        name_below : {vs : Values} {bs : List ℕ} (hs : List ℕ) → SameBlocks hs values.seen → ReadsEach bytes table (map (frozen_place bytes) hs) vs bs → (n : ℕ) (below : Option ℕ) (q : Place) → CanBeTarget bytes table below q
            → 1 ≤ times q.at (values.found ++ []) → frozen_number_at bytes q.at < n → IsBelow n (frozens bytes table hs vs) q
        name_below hs same reads n below q is met low =
            let high = is.is_block.after_header in
            let f : IsFrozen bytes (block_of q.at) = ap (λ t. t % 256) is.is_block.has_tag ∙ frozen_tag q.type in
            let at : q.at ≡ block_of q.at + 16 = omega arith in
            let n_is = (counts_last.each (block_of q.at) f).named.1 (subst (λ p. 1 ≤ times p (values.found ++ [])) at met) in
            below_in bytes table hs reads n q high (omega (arith, n_is, seen_named (block_of q.at) f, same (block_of q.at))) (sym (ap (λ t. t / 256) is.is_block.has_tag ∙ frozen_type q.type)) low

        held_right : HoldsBut bytes last.unclaimed
        held_right =
            let i = index_held in
            let r = i.roots in
            let f = frozen_place bytes in
            let hs = (sorted (number_of bytes table) values.seen).list in
            let hs_are = (sorted (number_of bytes table) values.seen).same in
            let next = word bytes next_word in
            let met_names = values.found ++ [] in
            let v = subst (λ ps. ResolvesBy bytes table r.rest last.unclaimed ps r.others) (append-nil (map f hs)) (in_any_order bytes table f r.rest last.unclaimed values.seen hs [] r.others (λ h. sym (hs_are h)) r.resolves) in
            let cells = cells_in (r.names ++ r.uniques) in
            let inner = names_each v.values in
            let all_named = each_joined (CanBeTarget bytes table None) cells inner r.named (reads_named bytes table v.reads) in
            let met : (p : ℕ) → times p met_names ≡ times p (positions_of (cells ++ inner)) = λ p.
            let x = ap (times p) (positions_append cells inner) ∙ times-append p (positions_of cells) (positions_of inner) in
            omega (arith, r.found_are p, x, times-append p (positions_of cells) r.others, v.names_are p) in
            let rooms = each_there (HasRoom bytes table) hs (λ h some.
            let q = found bytes table (CanBeTarget bytes table None) (h + 16) (cells ++ inner) all_named (omega (arith, met_seen h some, met (h + 16))) in
            let own : block_of q.name.at ≡ h = ap block_of q.at_is ∙ (let e : h + 16 - 16 ≡ h = omega arith in e) in
            let type_is : q.name.type ≡ tag_at bytes h / 256 = sym (frozen_type q.name.type) ∙ ap (λ t. t / 256) (sym q.is.is_block.has_tag) ∙ ap (λ b. tag_at bytes b / 256) own in
            subst (λ T. IsBlock bytes (h + 16) (tag_of Kind.frozen T) (8 + size table T)) type_is (subst (λ p. IsBlock bytes p (tag_of Kind.frozen q.name.type) (8 + size table q.name.type)) q.at_is q.is.is_block)) in
            let b = built bytes table hs rooms v.reads in
            let fs = frozens bytes table hs v.values in
            let once : (h : ℕ) → times h hs ≤ 1 = λ h. ⊎_elim
            (λ z. omega (arith, hs_are h, all_seen h z, live-once bytes (word bytes allocator_word) heap h))
            (λ other. omega (arith, hs_are h, none_other bytes h values.seen other values.are_frozen))
            (cases_eq (tag_at bytes h % 256) (kind_number Kind.frozen)) in
            let counted : IsCounted next fs cells = record {
              distinct = distinct bytes table hs v.reads once;
              numbered = each_frozen bytes table (λ g. g.number < next) hs v.reads (each_there (λ h. (w : Value) → number_of bytes table h < next) hs (λ h some w. number_low h some));
              named = each_named bytes table (CanBeTarget bytes table None) (IsBelow next fs) cells r.named (λ q is some.
                  let m : 1 ≤ times q.at met_names = omega (arith, some, met q.at, ap (times q.at) (positions_append cells inner) ∙ times-append q.at (positions_of cells) (positions_of inner)) in
                  let high = is.is_block.after_header in
                  let z : IsFrozen bytes (block_of q.at) = ap (λ t. t % 256) is.is_block.has_tag ∙ frozen_tag q.type in
                  let at : q.at ≡ block_of q.at + 16 = omega arith in
                  let low = number_low (block_of q.at) (seen_met (block_of q.at) z (subst (λ p. 1 ≤ times p met_names) at m)) in
                  name_below hs hs_are v.reads next None q is m (subst (λ p. frozen_number_at bytes p < next) (sym at) low));
              falling = each_falls bytes table (λ p. 1 ≤ times p met_names) (λ n q. IsBelow n fs q) hs v.reads
                  (λ p some. omega (arith, some, met p, ap (times p) (positions_append cells inner) ∙ times-append p (positions_of cells) (positions_of inner)))
                  (λ n q is m. name_below hs hs_are v.reads n (Some n) q is m is.under);
              some = each_frozen bytes table (λ g. 1 ≤ g.count) hs v.reads (each_there (λ h. (w : Value) → 1 ≤ word bytes (h + 16)) hs (λ h some w. omega (arith, counts_are h some, met_seen h some)));
              counts = each_frozen bytes table (λ g. g.count ≡ times_named g.at (cells ++ names_of fs)) hs v.reads (each_there (λ h. (w : Value) → word bytes (h + 16) ≡ times_named (h + 16) (cells ++ names_of fs)) hs
                  (λ h some w. counts_are h some ∙ met (h + 16) ∙ ap (λ ns. times (h + 16) (positions_of (cells ++ ns))) (sym (names_are bytes table hs v.reads))));
            } in
            let owners_are : r.names ++ (r.uniques ++ []) ≡ r.names ++ r.uniques = ap (λ rs. r.names ++ rs) (append-nil r.uniques) in
            let plain = plain_roots bytes i.index.entries r.names r.uniques r.are_entries r.plain in
            let owned : SameBlocks (positions (live bytes)) ((i.index.blocks ++ (r.root_blocks ++ b.blocks)) ++ last.unclaimed) = λ h. ⊎_elim
            (λ z. frozen_apart h (positions (live bytes)) i.index.blocks r.root_blocks b.blocks v.blocks hs last.unclaimed values.seen (all_seen h z) (hs_are h) (b.same h)
            (none_frozen bytes h i.index.blocks z (index_other bytes (word bytes index_kind_word) i.index i.opens)) (none_frozen bytes h r.root_blocks z (roots_other bytes table plain r.roots))
            (none_frozen bytes h v.blocks z (reads_other bytes table v.reads)))
            (λ other. others_apart h (positions (live bytes)) i.index.blocks r.root_blocks b.blocks v.blocks hs last.unclaimed values.seen known.unclaimed i.rest r.rest (knows.unclaimed h) (i.owners h other) (r.owners h other)
            (v.owners h other) (hs_are h) (b.same h) (none_other bytes h values.seen other values.are_frozen))
            (cases_eq (tag_at bytes h % 256) (kind_number Kind.frozen)) in
            let all : HoldsAll bytes = record {
              picture = record { table = table; names = r.names; uniques = r.uniques; loose = []; frozen = fs };
              none_loose = refl;
              counted = record { counted = subst (λ rs. IsCounted next fs (cells_in rs)) (sym owners_are) counted; falling = falling bytes table hs v.reads (sorted (number_of bytes table) values.seen).falls };
              index_blocks = i.index.blocks;
              laid_out = record {
                header = front.header;
                types = front.types;
                is_table = front.is_table;
                of_version = front.of_version;
                heap = heap;
                blocks = tiles.ownable;
                names = record { index = i.index; opens = i.opens; entries = r.are_entries; ascending = of_after (map (λ (x : Root). x.name) r.names) r.ascending; blocks_are = refl };
                uniques = record { words = (λ T l. r.words T (from_zero T) l); rising = r.rising };
                plain = each_with_none r.uniques r.plain;
              };
              root_blocks = r.root_blocks ++ b.blocks;
              of_version = tiles.of_version;
              roots = subst (λ rs. HoldsRoots bytes table rs (r.root_blocks ++ b.blocks)) (append_assoc r.names r.uniques (map root_of_frozen fs)) (HoldsRoots-append bytes table r.roots b.held);
              live_ones = each_there (λ h. 1 ≤ times h (positions (live bytes))) (i.index.blocks ++ (r.root_blocks ++ b.blocks))
                  (λ h some. omega (arith, some, owned h, times-append h (i.index.blocks ++ (r.root_blocks ++ b.blocks)) last.unclaimed));
            } in
            record { all = all; owners = owned }

      pub all_owned : AreCountsRight bytes last → last.unclaimed ≡ [] → IsImageOf bytes table
      all_owned right e = image_held (subst (HoldsBut bytes) e (held_right right))

      unsound : (block : ℕ) → 1 ≤ times block last.unclaimed → IsSound bytes → ⊥
      unsound block some s = absurd (omega (arith, some, (image_end [] (sound_but bytes s)).left_are block))

      pub some_unowned : AreCountsRight bytes last → (block : ℕ) → 1 ≤ times block last.unclaimed → LacksOwner bytes
      some_unowned right block some = ((held_right right).all, unsound block some)

      pub first_unowned : AreCountsRight bytes last → (block : ℕ) → 1 ≤ times block last.unclaimed → ((h : ℕ) → 1 ≤ times h last.unclaimed → block ≤ h) → LacksOwnerAt bytes block
      first_unowned right block some first = record {
        unowned = last.unclaimed;
        right = held_right right;
        there = some;
        first = first;
        unsound = unsound block some;
      }
