-- An entry of the index and its object: the object was claimed, or can't be claimed.
use Rattle.std.proofs.Common.{◌≡◌, ℕ, zero, suc, ◌+◌, ◌*◌, ◌%◌, ◌<◌, ◌≤◌, Bool, true, false, List, [], ◌∷◌, ◌++◌, length, map, Option, Some, refl, sym, ap, ◌∙◌, subst, arith}
use Rattle.seg_spec.specs.Bytes.{slice, half, byte}
use Rattle.seg_spec.specs.Pointer.{target}
use Rattle.seg_spec.specs.Types.{Table, form_at, size}
use Rattle.seg_spec.specs.Value.{Values, count}
use Rattle.std.specs.List.{AllByRecursion}
use Rattle.seg_spec.specs.Counting.{cells_in}
use Rattle.seg_spec.specs.Block.{Kind, kind_number, IsBlock, AllowsType, block_of, payload_end, tag_of}
use Rattle.seg_spec.specs.Owing.{entries_at}
use Rattle.seg_spec.specs.Reads.{Place, items, spaced, HoldsEach, holds_none, holds_more, holds}
use Rattle.seg_spec.specs.Index.{Root, plain_root, IsName, IsEntry, AreEntries, AreAscending, Precedes}
use Rattle.seg_spec.specs.Sound.{HoldsRoots, kind_with, times, SameBlocks}
use Rattle.seg_spec.proofs.Deallocation.CellDestructionLaws.{items_entries}
use Rattle.seg_spec.proofs.Heap.LiveBlockLaws.{times-append, times-same}
use Rattle.seg_spec.proofs.Tables.TableExtensionLaws.{below_length}
use Rattle.seg_spec.proofs.Images.RootLaws.{HoldsRoots-split, HoldsRoots-only}
use Rattle.seg_spec.proofs.BytesLaws.{length-slice}
use Rattle.seg_layout.specs.Forms.{has_cells}
use Rattle.seg_check.specs.Claiming.{CanClaim, ClaimsBlock, turns_where}
use Rattle.seg_check.specs.declared.marks.Turn.{Turn}
use Rattle.seg_check.specs.Marks.{Known, awaiting}
use Rattle.seg_check.specs.Naming.{IsFrozen, CanBeTarget}
use Rattle.seg_check.specs.Turns.{IsReachedBlock, by_name, Limited, limited, AreLow, EndsBy, IsTurn, AreKnown, AreTurns, AreWaiting, AreOthers, places_in, places_with, waiting, awaited, with_cells}
use Rattle.seg_check.specs.Positions.{HasEntryAt, name_of_last}
use Rattle.std.proofs.lemmas.List.{append_assoc}
use Rattle.seg_check.specs.Resolving.{ResolvesBy, IsReady}
use Rattle.seg_check.specs.Roots.{names_ahead, ResolvesRoots, CanResolveRoots, AdvancesRoots, ClaimsNamed, CanClaimNamed}
use Rattle.seg_cells.specs.Names.{type_at, name_after, name_of}
use Rattle.seg_cells.proofs.NamedTags.{is_named, in_block}
use Rattle.seg_check.proofs.Heap.TagNumberLaws.{one_tag}
use Rattle.seg_check.proofs.Heap.TagLaws.{places_tagged, allowed_as}
use Rattle.seg_check.proofs.Queue.ReadPlaceLaws.{positions_of}
use Rattle.seg_check.proofs.Blocks.FrozenClaimLaws.{other_block, finds_claimed}
use Rattle.seg_check.proofs.Queue.QueueStepLaws.{cells_forth, cells_back, within_taken, awaited_one, are_awaiting}
use Rattle.seg_check.proofs.Blocks.CellClaimLaws.{entries_low, entries_end, known_places, claimed_waiting}
use Rattle.seg_check.proofs.Objects.RootReadLaws.{joined, rooted}
use Rattle.seg_spec.proofs.Images.PlainRootLaws.{plain_of}

-- ---- the kind of an object

known_by : (table : Table) (name : List ℕ) (T : ℕ) → AllowsType table (kind_with [] name) T → T < length table
known_by table [] T a = a
known_by table (b ∷ name) T a = a

places_by_name : (table : Table) (name : List ℕ) (T start n : ℕ) → places_with table (Some (kind_with [] name)) T start n ≡ entries_at table start 0 T n
places_by_name table [] T start n = refl
places_by_name table (b ∷ name) T start n = refl

kind_named : (name : List ℕ) → 1 ≤ length name → kind_with [] name ≡ Kind.named
kind_named [] l = absurd (omega arith)
kind_named (b ∷ name) l = refl

-- ---- the values of a claimed object

module _ (bytes : List ℕ) (table : Table) (old new : Known) (ready : IsReady bytes table old) (at p T n : ℕ) (name : List ℕ)
    (c : ClaimsBlock bytes old new at (tag_of (kind_with [] name) T) (n * size table T + length name) (turns_where (has_cells (form_at table T)) p n) p) where
  pub claimed_some : 1 ≤ times (block_of p) old.unclaimed
  claimed_some = omega (arith, c.claims.claimed (block_of p), times-same (block_of p) new.unclaimed)

  -- the type of a claimed object is in the table
  pub type_known : T < length table
  type_known = known_by table name T (allowed_as bytes table ready.is_table (block_of p) (kind_with [] name) T (ready.blocks (block_of p) claimed_some).1 c.is_block.has_tag)

  -- the object's block lies in the segment
  pub room_inside : p + (n * size table T + length name) ≤ length bytes
  room_inside =
      let block = ready.blocks (block_of p) claimed_some in
      let two = block.0.size in
      let inside = block.0.inside in
      let high = c.is_block.after_header in
      let room = c.is_block.room in
      omega arith

  places : places_in bytes table (record { start = p; count = n }) ≡ entries_at table p 0 T n
  places = places_tagged bytes table ready.is_table (record { start = p; count = n }) (kind_with [] name) T c.is_block.has_tag ∙ places_by_name table name T p n

  turns_of : IsReachedBlock bytes table (block_of p) → (b : Bool) → AreTurns bytes table (turns_where b p n)
  turns_of reached false = tt
  turns_of reached true =
      let whole : n * (0 + size table T) ≡ n * size table T = ap (λ k. n * k) (let e : 0 + size table T ≡ size table T = omega arith in e) in
      let inside = room_inside in
      let small = ready.small in
      let large = (ready.blocks (block_of p) claimed_some).0.size in
      let high = c.is_block.after_header in
      let room = c.is_block.room in
      let end = payload_end bytes (block_of p) in
      let turn : IsTurn bytes table (record { start = p; count = n }) = record {
        reached = reached;
        fits = subst (AllByRecursion (EndsBy table end)) (sym places) (entries_end table p 0 T n end (omega arith));
        low = subst AreLow (sym places) (entries_low table p 0 T n (omega arith));
        ownable = (ready.blocks (block_of p) claimed_some).1;
      } in
      (turn, tt)

  pub object_are_turns : IsReachedBlock bytes table (block_of p) → AreTurns bytes table (turns_where (has_cells (form_at table T)) p n)
  object_are_turns reached = turns_of reached (has_cells (form_at table T))

  waits : waiting bytes table (turns_where (has_cells (form_at table T)) p n) ≡ with_cells table (items table p T n)
  waits = claimed_waiting bytes table old new ready at 0 n 0 T p (has_cells (form_at table T)) refl places ∙ ap (with_cells table) (items_entries table p T n)

  known : AreKnown table (items table p T n)
  known = known_places table T (spaced p (size table T) n) type_known

  -- the object isn't a frozen object
  pub object_other : IsFrozen bytes (block_of p) → ⊥
  object_other = other_block bytes p (tag_of (kind_with [] name) T) (n * size table T + length name) (kind_other name) c.is_block
    where
      kind_other : (name : List ℕ) → tag_of (kind_with [] name) T % 256 ≡ kind_number Kind.frozen → ⊥
      kind_other [] e = absurd (omega arith)
      kind_other (b ∷ name) e = absurd (omega arith)

  pub object_others : AreOthers bytes (turns_where (has_cells (form_at table T)) p n)
  object_others = go (has_cells (form_at table T)) object_other
    where
      go : (b : Bool) → (IsFrozen bytes (block_of p) → ⊥) → AreOthers bytes (turns_where b p n)
      go true other = (other, tt)
      go false other = tt

  module _ (below : Option ℕ) where
    pub object_waits : IsReachedBlock bytes table (block_of p) → AreWaiting bytes table (awaiting below (turns_where (has_cells (form_at table T)) p n))
    object_waits reached = are_awaiting bytes table below (turns_where (has_cells (form_at table T)) p n) (object_are_turns reached) object_others

    awaits : awaited bytes table (awaiting below (turns_where (has_cells (form_at table T)) p n)) ≡ limited below (with_cells table (items table p T n))
    awaits = awaited_one bytes table below (turns_where (has_cells (form_at table T)) p n) object_others ∙ ap (limited below) waits

    pub values_forth : (u l : List ℕ) (others : List Limited) (names : List ℕ) → ResolvesBy bytes table u l (limited below (items table p T n) ++ others) names
        → ResolvesBy bytes table u l (awaited bytes table (awaiting below (turns_where (has_cells (form_at table T)) p n)) ++ others) names
    values_forth u l others names r = subst (λ ps. ResolvesBy bytes table u l (ps ++ others) names) (sym awaits) (cells_forth bytes table u l below names (items table p T n) others known r)

    pub values_back : (u l : List ℕ) (others : List Limited) (names : List ℕ) → ResolvesBy bytes table u l (awaited bytes table (awaiting below (turns_where (has_cells (form_at table T)) p n)) ++ others) names
        → ResolvesBy bytes table u l (limited below (items table p T n) ++ others) names
    values_back u l others names r = cells_back bytes table u l below names (items table p T n) others known (subst (λ ps. ResolvesBy bytes table u l (ps ++ others) names) awaits r)

-- ---- entries

module _ (bytes : List ℕ) (table : Table) where
  -- the fields of an entry, and the name after the values of its object
  pub record StandsAt (at p T n : ℕ) (name : List ℕ) : Type 0 where
    pub points : target bytes at ≡ Some p
    pub counted : half bytes (at + 4) ≡ n
    pub measured : byte bytes (at + 6) ≡ length name
    pub zero_is : byte bytes (at + 7) ≡ 0
    pub some : 1 ≤ n
    pub few : n ≤ 65535
    pub name_is : slice bytes (p + n * size table T) (length name) ≡ name

  -- the root of an entry
  pub record IsRootOf (root : Root) (p T n : ℕ) (name : List ℕ) : Type 0 where
    pub at_is : root.at ≡ p
    pub type_is : root.type ≡ T
    pub count_is : count root.values ≡ n
    pub same_name : root.name ≡ name

  pub root_of : (at p T n room : ℕ) (name : List ℕ) (root : Root) → StandsAt at p T n name → IsBlock bytes p (tag_of Kind.named T) room → IsEntry bytes at root
      → IsBlock bytes root.at (tag_of (kind_with [] root.name) root.type) (count root.values * size table root.type + length root.name)
      → slice bytes (root.at + count root.values * size table root.type) (length root.name) ≡ root.name → IsRootOf root p T n name
  root_of at p T n room name root s block e rooted name_is =
      let both : Some root.at ≡ Some p = sym e.points ∙ s.points in
      let at_is : root.at ≡ p = cc in
      let count_is : count root.values ≡ n = sym e.counted ∙ s.counted in
      let len_is : length root.name ≡ length name = sym e.measured ∙ s.measured in
      let tags : tag_of Kind.named root.type ≡ tag_of Kind.named T =
      ap (λ k. tag_of k root.type) (sym (kind_named root.name e.is_name.not_empty)) ∙ sym rooted.has_tag ∙ ap (λ q. Rattle.seg_spec.specs.Heap.tag_at bytes (block_of q)) at_is ∙ block.has_tag in
      let type_is : root.type ≡ T = (one_tag Kind.named Kind.named root.type T tags).1 in
      let name_same : root.name ≡ name = sym name_is ∙ (λ i. slice bytes (at_is i + count_is i * size table (type_is i)) (len_is i)) ∙ s.name_is in
      record { at_is = at_is; type_is = type_is; count_is = count_is; same_name = name_same }

  module _ (old new : Known) (ready : IsReady bytes table old) (at p T n : ℕ) (name : List ℕ) (stands : StandsAt at p T n name) (is_name : IsName name)
      (c : ClaimsBlock bytes old new at (tag_of (kind_with [] name) T) (n * size table T + length name) (turns_where (has_cells (form_at table T)) p n) p) where
    block_named : IsBlock bytes p (tag_of Kind.named T) (n * size table T + length name)
    block_named = subst (λ k. IsBlock bytes p (tag_of k T) (n * size table T + length name)) (kind_named name is_name.not_empty) c.is_block

    abbrev turns : List Turn
    turns = turns_where (has_cells (form_at table T)) p n

    entry_forth : (below : Option ℕ) (l es last : List ℕ) (t : ℕ) (places : List Limited) (found : List ℕ) → ResolvesRoots bytes table below old.unclaimed l (record { entries = at ∷ es; last = last; type = t }) places found
        → ResolvesRoots bytes table below new.unclaimed l (record { entries = es; last = name; type = t }) (awaited bytes table (awaiting below turns) ++ places) found
    entry_forth below l es last t places found r = go r.names r.are_entries r.ascending r.roots r.named r.found_are
      where
        go : (names : List Root) → AreEntries bytes (at ∷ es) names → AreAscending (last ∷ map (λ (x : Root). x.name) names) → HoldsRoots bytes table (names ++ r.uniques) r.root_blocks
            → AllByRecursion (CanBeTarget bytes table below) (cells_in (names ++ r.uniques)) → SameBlocks found (positions_of (cells_in (names ++ r.uniques)) ++ r.others)
            → ResolvesRoots bytes table below new.unclaimed l (record { entries = es; last = name; type = t }) (awaited bytes table (awaiting below (turns_where (has_cells (form_at table T)) p n)) ++ places) found
        go [] e a h named are = absurd e
        go (root ∷ names) e a h named are =
            let j = joined bytes table below root e.0.no_words (names ++ r.uniques) old.unclaimed new.unclaimed l r.root_blocks r.rest places r.others found h named r.resolves r.owners are in
            let is = root_of at p T n (n * size table T + length name) name root stands block_named e.0 j.block j.name_is in
            record {
              names = names;
              uniques = r.uniques;
              root_blocks = j.root_blocks;
              rest = j.rest;
              are_entries = e.1;
              ascending = subst (λ x. AreAscending (x ∷ map (λ (y : Root). y.name) names)) is.same_name a.1;
              words = r.words;
              rising = r.rising;
              plain = r.plain;
              roots = j.held;
              named = j.named;
              others = j.names;
              resolves = values_forth bytes table old new ready at p T n name c below j.rest l places j.names
                  (subst (λ k. ResolvesBy bytes table j.rest l (limited below (items table p T k) ++ places) j.names) is.count_is
                  (subst (λ k. ResolvesBy bytes table j.rest l (limited below (items table p k (count root.values)) ++ places) j.names) is.type_is
                  (subst (λ k. ResolvesBy bytes table j.rest l (limited below (items table k root.type (count root.values)) ++ places) j.names) is.at_is j.resolves)));
              owners = j.owners (subst (λ q. SameBlocks old.unclaimed (block_of q ∷ new.unclaimed)) (sym is.at_is) c.claims.claimed);
              found_are = j.found_are;
            }

    entry_back : (below : Option ℕ) (l es last : List ℕ) (t : ℕ) (places : List Limited) (found : List ℕ) → Precedes last name
        → ResolvesRoots bytes table below new.unclaimed l (record { entries = es; last = name; type = t }) (awaited bytes table (awaiting below turns) ++ places) found
        → ResolvesRoots bytes table below old.unclaimed l (record { entries = at ∷ es; last = last; type = t }) places found
    entry_back below l es last t places found above r =
        let k = rooted bytes table below name p T n (r.names ++ r.uniques) old.unclaimed new.unclaimed l r.root_blocks r.rest places r.others found c.is_block stands.name_is c.claims.claimed r.roots r.named
        (values_back bytes table old new ready at p T n name c below r.rest l places r.others r.resolves) r.owners r.found_are in
        let root : Root = plain_root name p T k.values in
        let entry : IsEntry bytes at root = record {
          no_words = refl;
          points = stands.points;
          counted = stands.counted ∙ sym k.count_is;
          measured = stands.measured;
          zero_is = stands.zero_is;
          is_name = is_name;
          some = let m = k.count_is in let s = stands.some in omega arith;
          few = let m = k.count_is in let s = stands.few in omega arith;
        } in
        record {
          names = root ∷ r.names;
          uniques = r.uniques;
          root_blocks = k.root_blocks;
          rest = k.rest;
          are_entries = (entry, r.are_entries);
          ascending = (above, r.ascending);
          words = r.words;
          rising = r.rising;
          plain = r.plain;
          roots = k.held;
          named = k.named;
          others = k.names;
          resolves = k.resolves;
          owners = k.owners;
          found_are = k.found_are;
        }

    -- the entry has this name
    has_entry : HasEntryAt bytes table at name
    has_entry = record {
      type = T;
      n = n;
      points = record {
        start = p;
        names = stands.points;
        is_block = block_named;
        among = omega (arith, ready.standing (block_of p), c.claims.claimed (block_of p), times-same (block_of p) new.unclaimed);
      };
      counted = stands.counted;
      some = stands.some;
      measured = stands.measured;
      zero_is = stands.zero_is;
      is_name = is_name;
      name_is = stands.name_is;
    }

    -- the object of an entry was claimed, and its values were put in the queue
    pub advance_entry : (es last : List ℕ) (t : ℕ) → Precedes last name → AdvancesRoots bytes table old new (record { entries = at ∷ es; last = last; type = t }) (record { entries = es; last = name; type = t })
    unfolding has_entry
    advance_entry es last t above = record {
      named = λ entries k. record {
        before = k.before ++ at ∷ [];
        entries_are = k.entries_are ∙ sym (append_assoc k.before (at ∷ []) es);
        last = name_of_last k.before at has_entry;
      };
      turns = awaiting old.naming.below turns;
      turns_are = c.claims.turns_are;
      are_waiting = object_waits bytes table old new ready at p T n name c old.naming.below (by_name T block_named.has_tag has_entry.points.among);
      within = within_taken old.unclaimed new.unclaimed (block_of p ∷ []) c.claims.claimed;
      counted = c.claims.counted;
      finds = finds_claimed bytes old new (block_of p ∷ []) turns c.claims (object_other bytes table old new ready at p T n name c, tt) (object_others bytes table old new ready at p T n name c);
      forth = λ left places found r. entry_forth old.naming.below left es last t places found r;
      back = λ left places found r. entry_back old.naming.below left es last t places found above r;
    }

  -- ---- entries that can be resolved

  pub record CanEnter (old : Known) (at : ℕ) (last : List ℕ) : Type 0 where
    pub root : Root
    pub entry : IsEntry bytes at root
    pub above : Precedes last root.name
    pub block : IsBlock bytes root.at (tag_of (kind_with [] root.name) root.type) (count root.values * size table root.type + length root.name)
    pub name_is : slice bytes (root.at + count root.values * size table root.type) (length root.name) ≡ root.name
    pub known : root.type < length table
    pub can : CanClaim bytes old at (tag_of Kind.named root.type) (count root.values * size table root.type + length root.name)

  -- if there is a value, its type is in the table
  one_known : (p T n : ℕ) (vs : Values) (blocks : List ℕ) → 1 ≤ n → HoldsEach bytes table (items table p T n) vs blocks → T < length table
  one_known p T zero vs blocks l h = absurd (omega arith)
  one_known p T (suc n) vs blocks l h = go h refl
    where
      go : {ps : List Place} {ws : Values} {bs : List ℕ} → HoldsEach bytes table ps ws bs → ps ≡ items table p T (suc n) → T < length table
      go holds_none e = cc
      go (holds_more {place = q} (holds form opened inside owned f o each v_is b_is) hs) e =
          let first : q ≡ record { at = p; type = T } = cc in
          below_length table T form (ap (λ (x : Place). form_at table x.type) (sym first) ∙ f)

  pub can_enter : (old : Known) (at : ℕ) (es last : List ℕ) (t : ℕ) → CanResolveRoots bytes table old (record { entries = at ∷ es; last = last; type = t }) → CanEnter old at last
  can_enter old at es last t can = go r.names r.are_entries r.ascending r.roots
    where
      r : ResolvesRoots bytes table old.naming.below old.unclaimed can.left (record { entries = at ∷ es; last = last; type = t }) can.places can.found
      r = can.resolves

      owned : (h : ℕ) (root bs own others inside rest u : List ℕ) → times h u ≡ times h (root ++ rest) → root ≡ bs ++ others → bs ≡ own ++ inside → times h own ≤ times h u
      owned h root bs own others inside rest u e f g =
          let i = times-append h root rest in
          let k : times h root ≡ times h bs + times h others = ap (times h) f ∙ times-append h bs others in
          let m : times h bs ≡ times h own + times h inside = ap (times h) g ∙ times-append h own inside in
          omega arith

      go : (names : List Root) → AreEntries bytes (at ∷ es) names → AreAscending (last ∷ map (λ (x : Root). x.name) names) → HoldsRoots bytes table (names ++ r.uniques) r.root_blocks → CanEnter old at last
      go [] e a h = absurd e
      go (root ∷ names) e a h =
          let s = HoldsRoots-split bytes table (root ∷ []) (names ++ r.uniques) r.root_blocks h in
          let it = plain_of bytes table root s.left e.0.no_words (HoldsRoots-only bytes table root s.left s.lefts) in
          let named_block = subst (λ k. IsBlock bytes root.at (tag_of k root.type) (count root.values * size table root.type + length root.name)) (kind_named root.name e.0.is_name.not_empty) it.block in
          let other = other_block bytes root.at (tag_of Kind.named root.type) (count root.values * size table root.type + length root.name) (λ e. absurd (omega (arith, e))) named_block in
          let own = owned (block_of root.at) r.root_blocks s.left (block_of root.at ∷ []) s.right it.inside r.rest old.unclaimed (r.owners (block_of root.at) other) s.blocks_are it.blocks_are in
          record {
            root = root;
            entry = e.0;
            above = a.0;
            block = it.block;
            name_is = it.name_is;
            known = one_known root.at root.type (count root.values) root.values it.inside e.0.some it.values;
            can = record {
              start = root.at;
              names = e.0.points;
              is_block = named_block;
              unclaimed = omega (arith, own, times-same (block_of root.at) []);
            };
          }

  pub named_can : (old : Known) (at n len : ℕ) (rest before : List ℕ) → n ≡ half bytes (at + 4) → len ≡ byte bytes (at + 6) → CanResolveRoots bytes table old (names_ahead (at ∷ rest) before)
      → CanClaimNamed bytes table old at n len
  named_can old at n len rest before counted measured can =
      let e = can_enter old at rest before 0 can in
      let n_is : count e.root.values ≡ n = sym e.entry.counted ∙ sym counted in
      let len_is : length e.root.name ≡ len = sym e.entry.measured ∙ sym measured in
      record { type = e.root.type; type_known = e.known; can = (subst (λ m. CanClaim bytes old at (tag_of Kind.named e.root.type) m) (λ i. n_is i * size table e.root.type + len_is i) e.can) }

  -- ---- the object of a claimed entry

  module _ (old new : Known) (ready : IsReady bytes table old) (at n len : ℕ) (before name : List ℕ) (object : Option ℕ) (is : object ≡ target bytes at) (counted : n ≡ half bytes (at + 4)) (measured : len ≡ byte bytes (at + 6))
      (zero_is : byte bytes (at + 7) ≡ 0) (some : 1 ≤ n) (few : n ≤ 65535) (c : ClaimsNamed bytes table old new at n len) (name_is : name ≡ name_of table bytes object n len) where
    named_some : 1 ≤ times (block_of c.start) old.unclaimed
    named_some = omega (arith, c.claims.claims.claimed (block_of c.start), times-same (block_of c.start) new.unclaimed)

    named_inside : c.start + (n * size table c.type + len) ≤ length bytes
    named_inside =
        let block = ready.blocks (block_of c.start) named_some in
        let two = block.0.size in
        let inside = block.0.inside in
        let high = c.claims.is_block.after_header in
        let room = c.claims.is_block.room in
        omega arith

    named_known : c.type < length table
    named_known = allowed_as bytes table ready.is_table (block_of c.start) Kind.named c.type (ready.blocks (block_of c.start) named_some).1 c.claims.is_block.has_tag

    name_slice : name ≡ slice bytes (c.start + n * size table c.type) len
    name_slice =
        let limit = ready.is_table.few in
        let less = named_known in
        let type_is : type_at bytes c.start ≡ Some c.type = in_block bytes c.start c.claims.is_block.after_header ∙ is_named _ c.type (c.claims.is_block.has_tag ∙ omega arith) (omega arith) in
        name_is ∙ ap (λ o. name_of table bytes o n len) (is ∙ c.claims.names) ∙ ap (name_after table bytes c.start n len) type_is

    pub name_long : length name ≡ len
    name_long = let inside = named_inside in ap length name_slice ∙ length-slice bytes (c.start + n * size table c.type) len (omega arith)

    stands_named : StandsAt at c.start c.type n name
    stands_named = record {
      points = c.claims.names;
      counted = sym counted;
      measured = sym measured ∙ sym name_long;
      zero_is = zero_is;
      some = some;
      few = few;
      name_is = ap (slice bytes (c.start + n * size table c.type)) name_long ∙ sym name_slice;
    }

    claims_again : IsName name → ClaimsBlock bytes old new at (tag_of (kind_with [] name) c.type) (n * size table c.type + length name) (turns_where (has_cells (form_at table c.type)) c.start n) c.start
    claims_again is_name =
        subst (λ k. ClaimsBlock bytes old new at (tag_of k c.type) (n * size table c.type + length name) (turns_where (has_cells (form_at table c.type)) c.start n) c.start) (sym (kind_named name is_name.not_empty))
        (subst (λ m. ClaimsBlock bytes old new at (tag_of Kind.named c.type) (n * size table c.type + m) (turns_where (has_cells (form_at table c.type)) c.start n) c.start) (sym name_long) c.claims)

    pub entry_advance : (rest : List ℕ) → IsName name → Precedes before name → AdvancesRoots bytes table old new (names_ahead (at ∷ rest) before) (names_ahead rest name)
    entry_advance rest is_name above = advance_entry old new ready at c.start c.type n name stands_named is_name (claims_again is_name) rest before 0 above

    -- an entry has one name
    pub one_name : (other : List ℕ) → HasEntryAt bytes table at other → other ≡ name
    one_name other e =
        let s = stands_named in
        let both : Some e.points.start ≡ Some c.start = sym e.points.names ∙ s.points in
        let at_same : e.points.start ≡ c.start = cc in
        let n_same : e.n ≡ n = sym e.counted ∙ s.counted in
        let len_same : length other ≡ length name = sym e.measured ∙ s.measured in
        let tags : tag_of Kind.named e.type ≡ tag_of Kind.named c.type = sym e.points.is_block.has_tag ∙ ap (λ q. Rattle.seg_spec.specs.Heap.tag_at bytes (block_of q)) at_same ∙ c.claims.is_block.has_tag in
        let type_same : e.type ≡ c.type = (one_tag Kind.named Kind.named e.type c.type tags).1 in
        sym e.name_is ∙ (λ i. slice bytes (at_same i + n_same i * size table (type_same i)) (len_same i)) ∙ s.name_is

    -- if an entry can be resolved, its name is valid, and is after the name before
    pub entry_names : (rest : List ℕ) → CanResolveRoots bytes table old (names_ahead (at ∷ rest) before) → Precedes before name × IsName name
    entry_names rest can =
        let e = can_enter old at rest before 0 can in
        let same = root_of at c.start c.type n (n * size table c.type + len) name e.root stands_named c.claims.is_block e.entry e.block e.name_is in
        (subst (Precedes before) same.same_name e.above, subst IsName same.same_name e.entry.is_name)
