-- Roots that aren't read yet are replaced by the places of their values.
use Rattle.std.proofs.Common.{◌≡◌, ℕ, ◌+◌, ◌*◌, List, [], ◌∷◌, ◌++◌, length, Option, refl, sym, ap, ◌∙◌, subst, arith}
use Rattle.std.specs.List.{AllByRecursion}
use Rattle.std.proofs.lemmas.List.{append_assoc, append-nil, length-map}
use Rattle.seg_spec.specs.Bytes.{slice}
use Rattle.seg_spec.specs.Types.{Table, size}
use Rattle.seg_spec.specs.Value.{Values, append, count}
use Rattle.seg_spec.specs.Block.{IsBlock, block_of, tag_of}
use Rattle.seg_spec.specs.Reads.{items, spaced, HoldsEach}
use Rattle.seg_spec.specs.Index.{Root, plain_root}
use Rattle.seg_spec.specs.Shared.{names_each}
use Rattle.seg_spec.specs.Counting.{cells_in}
use Rattle.seg_spec.specs.Sound.{HoldsRoot, HoldsRoots, holds_more_roots, kind_with, times, SameBlocks}
use Rattle.seg_spec.proofs.Values.ValueTypeLaws.{length-spaced}
use Rattle.seg_spec.proofs.Heap.LiveBlockLaws.{times-append}
use Rattle.seg_spec.proofs.Values.PathSplitLaws.{count_is}
use Rattle.seg_spec.proofs.Images.RootLaws.{HoldsRoots-split, HoldsRoots-only}
use Rattle.seg_spec.proofs.Values.PlaceFrameLaws.{each_left, each_right}
use Rattle.seg_spec.proofs.Images.LooseRootLaws.{each_joined}
use Rattle.seg_check.specs.Marks.{Known}
use Rattle.seg_check.specs.Naming.{SameOthers, CanBeTarget}
use Rattle.seg_check.specs.Turns.{Limited, limited, awaited}
use Rattle.seg_check.specs.Resolving.{ResolvesBy, IsReady}
use Rattle.seg_check.specs.Roots.{Ahead, ResolvesRoots, CanResolveRoots, AdvancesRoots}
use Rattle.seg_check.proofs.Queue.ReadPlaceLaws.{positions_of, positions_append, names_append, reads_joined, reads_split, reads_limited, holds_limited}
use Rattle.seg_check.proofs.Blocks.FrozenClaimLaws.{finds_none, finds_more}
use Rattle.seg_check.proofs.Queue.QueueStepLaws.{resolves_swap, awaited-append, waiting_both, within_trans, ready_found}
use Rattle.seg_spec.proofs.Images.PlainRootLaws.{plain_of, root_of_plain}

-- ---- steps one after the other

module _ (bytes : List ℕ) (table : Table) where
  roots_turned : (below : Option ℕ) (u l : List ℕ) (ahead : Ahead) (a b c : List Limited) (found : List ℕ) → ResolvesRoots bytes table below u l ahead (a ++ (b ++ c)) found → ResolvesRoots bytes table below u l ahead (b ++ (a ++ c)) found
  roots_turned below u l ahead a b c found r = record {
    names = r.names;
    uniques = r.uniques;
    root_blocks = r.root_blocks;
    rest = r.rest;
    are_entries = r.are_entries;
    ascending = r.ascending;
    words = r.words;
    rising = r.rising;
    plain = r.plain;
    roots = r.roots;
    named = r.named;
    others = r.others;
    resolves = resolves_swap bytes table r.rest l a b c r.others r.resolves;
    owners = r.owners;
    found_are = r.found_are;
  }

  pub roots_none : (known : Known) (ahead : Ahead) → AdvancesRoots bytes table known known ahead ahead
  roots_none known ahead = record {
    named = (λ entries k. k);
    turns = [];
    turns_are = sym (append-nil known.turns);
    are_waiting = tt;
    within = (λ h. omega arith);
    counted = (λ c. c);
    finds = finds_none bytes known;
    forth = (λ left places found r. r);
    back = (λ left places found r. r);
  }

  pub roots_more : (old mid new : Known) (a b c : Ahead) → AdvancesRoots bytes table old mid a b → AdvancesRoots bytes table mid new b c → AdvancesRoots bytes table old new a c
  roots_more old mid new a b c p q =
      let fs = awaited bytes table p.turns in
      let gs = awaited bytes table q.turns in
      let all = awaited-append bytes table p.turns q.turns in
      let below = old.naming.below in
      let kept = p.finds.below_kept in
      record {
        named = (λ entries k. q.named entries (p.named entries k));
        turns = p.turns ++ q.turns;
        turns_are = q.turns_are ∙ ap (λ ts. ts ++ q.turns) p.turns_are ∙ append_assoc old.turns p.turns q.turns;
        are_waiting = waiting_both bytes table p.turns q.turns p.are_waiting q.are_waiting;
        within = within_trans new.unclaimed mid.unclaimed old.unclaimed q.within p.within;
        counted = (λ k. q.counted (p.counted k));
        finds = finds_more bytes old mid new [] [] p.finds q.finds;
        forth = (λ left places found r.
            let one = subst (λ k. ResolvesRoots bytes table k mid.unclaimed left b (fs ++ places) found) (sym kept) (p.forth left places found r) in
            let two = subst (λ k. ResolvesRoots bytes table k new.unclaimed left c (gs ++ (fs ++ places)) found) kept (q.forth left (fs ++ places) found one) in
            subst (λ xs. ResolvesRoots bytes table below new.unclaimed left c xs found) (sym (append_assoc fs gs places) ∙ ap (λ xs. xs ++ places) (sym all)) (roots_turned below new.unclaimed left c gs fs places found two));
        back = (λ left places found r.
            let split = subst (λ xs. ResolvesRoots bytes table below new.unclaimed left c xs found) (ap (λ xs. xs ++ places) all ∙ append_assoc fs gs places) r in
            let turned = subst (λ k. ResolvesRoots bytes table k new.unclaimed left c (gs ++ (fs ++ places)) found) (sym kept) (roots_turned below new.unclaimed left c fs gs places found split) in
            p.back left places found (subst (λ k. ResolvesRoots bytes table k mid.unclaimed left b (fs ++ places) found) kept (q.back left (fs ++ places) found turned)));
      }

  pub can_roots : (old mid : Known) (a b : Ahead) → AdvancesRoots bytes table old mid a b → CanResolveRoots bytes table old a → CanResolveRoots bytes table mid b
  can_roots old mid a b p r = record {
    left = r.left;
    places = awaited bytes table p.turns ++ r.places;
    found = r.found;
    resolves = subst (λ k. ResolvesRoots bytes table k mid.unclaimed r.left b (awaited bytes table p.turns ++ r.places) r.found) (sym p.finds.below_kept) (p.forth r.left r.places r.found r.resolves);
  }

  pub ready_roots : (old mid : Known) (a b : Ahead) → IsReady bytes table old → AdvancesRoots bytes table old mid a b → IsReady bytes table mid
  ready_roots old mid a b ready p = ready_found bytes table old mid [] ready p.within p.finds

-- ---- blocks

root_taken : (h : ℕ) (u v l own inside others bs rest root : List ℕ) → times h u ≡ times h (own ++ v) → times h u ≡ times h (root ++ rest) → root ≡ bs ++ others → bs ≡ own ++ inside → times h v ≡ times h (others ++ (inside ++ rest))
root_taken h u v l own inside others bs rest root taken owners parts blocks =
    let i = times-append h own v in
    let j = times-append h root rest in
    let k : times h root ≡ times h bs + times h others = ap (times h) parts ∙ times-append h bs others in
    let m : times h bs ≡ times h own + times h inside = ap (times h) blocks ∙ times-append h own inside in
    let n = times-append h others (inside ++ rest) in
    let o = times-append h inside rest in
    omega arith

root_given : (h : ℕ) (u v own inside others rest back left : List ℕ) → times h u ≡ times h (own ++ v) → times h v ≡ times h (others ++ rest) → times h rest ≡ times h ((inside ++ back) ++ left)
    → times h u ≡ times h (((own ++ inside) ++ others) ++ (back ++ left))
root_given h u v own inside others rest back left taken owners parts =
    let i = times-append h own v in
    let j = times-append h others rest in
    let k = times-append h (inside ++ back) left in
    let m = times-append h inside back in
    let n = times-append h ((own ++ inside) ++ others) (back ++ left) in
    let o = times-append h (own ++ inside) others in
    let p = times-append h own inside in
    let q = times-append h back left in
    omega arith

values_owned : (h : ℕ) (inside rest blocks left : List ℕ) → times h rest ≡ times h (blocks ++ left) → times h (inside ++ rest) ≡ times h ((inside ++ blocks) ++ left)
values_owned h inside rest blocks left e = omega (arith, times-append h inside rest, times-append h (inside ++ blocks) left, times-append h inside blocks, times-append h blocks left)

-- ---- names

positions_cells : (h : ℕ) (root : Root) (others : List Root) → times h (positions_of (cells_in (root ∷ others))) ≡ times h (positions_of (names_each root.values)) + times h (positions_of (cells_in others))
positions_cells h root others = ap (times h) (positions_append (names_each root.values) (cells_in others)) ∙ times-append h (positions_of (names_each root.values)) (positions_of (cells_in others))

-- ---- a root and its values

module _ (bytes : List ℕ) (table : Table) (below : Option ℕ) where
  -- the values of a root, added to the places
  pub record Joined (root : Root) (others : List Root) (u v l : List ℕ) (places : List Limited) (found : List ℕ) : Type 0 where
    pub root_blocks : List ℕ
    pub rest : List ℕ
    pub held : HoldsRoots bytes table others root_blocks
    pub block : IsBlock bytes root.at (tag_of (kind_with [] root.name) root.type) (count root.values * size table root.type + length root.name)
    pub name_is : slice bytes (root.at + count root.values * size table root.type) (length root.name) ≡ root.name
    pub named : AllByRecursion (CanBeTarget bytes table below) (cells_in others)
    pub names : List ℕ
    pub resolves : ResolvesBy bytes table rest l (limited below (items table root.at root.type (count root.values)) ++ places) names
    pub owners : SameBlocks u (block_of root.at ∷ v) → SameOthers bytes v (root_blocks ++ rest)
    pub found_are : SameBlocks found (positions_of (cells_in others) ++ names)

  pub joined : (root : Root) → root.words ≡ [] → (others : List Root) (u v l root_blocks rest : List ℕ) (places : List Limited) (names found : List ℕ)
      → HoldsRoots bytes table (root ∷ others) root_blocks → AllByRecursion (CanBeTarget bytes table below) (cells_in (root ∷ others)) → ResolvesBy bytes table rest l places names → SameOthers bytes u (root_blocks ++ rest)
      → SameBlocks found (positions_of (cells_in (root ∷ others)) ++ names) → Joined root others u v l places found
  joined root no_words others u v l root_blocks rest places names found h named r owners found_are =
      let s = HoldsRoots-split bytes table (root ∷ []) others root_blocks h in
      let it = plain_of bytes table root s.left no_words (HoldsRoots-only bytes table root s.left s.lefts) in
      let mine = positions_of (names_each root.values) in
      record {
        root_blocks = s.right;
        rest = it.inside ++ rest;
        held = s.rights;
        block = it.block;
        name_is = it.name_is;
        named = each_right (CanBeTarget bytes table below) (names_each root.values) (cells_in others) named;
        names = mine ++ names;
        resolves = record {
          values = append root.values r.values;
          blocks = it.inside ++ r.blocks;
          reads = reads_joined bytes table (reads_limited bytes table below it.values (each_left (CanBeTarget bytes table below) (names_each root.values) (cells_in others) named)) r.reads;
          owners = λ b other. values_owned b it.inside rest r.blocks l (r.owners b other);
          names_are = λ b.
              let all : times b (positions_of (names_each (append root.values r.values))) ≡ times b mine + times b (positions_of (names_each r.values)) = ap (λ ns. times b (positions_of ns)) (names_append root.values r.values)
              ∙ ap (times b) (positions_append (names_each root.values) (names_each r.values)) ∙ times-append b mine (positions_of (names_each r.values)) in
              omega (arith, all, r.names_are b, times-append b mine names);
        };
        owners = λ taken b other. root_taken b u v l (block_of root.at ∷ []) it.inside s.right s.left rest root_blocks (taken b) (owners b other) s.blocks_are it.blocks_are;
        found_are = λ b. omega (arith, found_are b, positions_cells b root others, times-append b (positions_of (cells_in (root ∷ others))) names, times-append b (positions_of (cells_in others)) (mine ++ names), times-append b mine names);
      }

  -- the places of values, as a root
  pub record Rooted (name : List ℕ) (p T n : ℕ) (others : List Root) (u l : List ℕ) (places : List Limited) (found : List ℕ) : Type 0 where
    pub values : Values
    pub count_is : count values ≡ n
    pub root_blocks : List ℕ
    pub rest : List ℕ
    pub held : HoldsRoots bytes table (plain_root name p T values ∷ others) root_blocks
    pub named : AllByRecursion (CanBeTarget bytes table below) (cells_in (plain_root name p T values ∷ others))
    pub names : List ℕ
    pub resolves : ResolvesBy bytes table rest l places names
    pub owners : SameOthers bytes u (root_blocks ++ rest)
    pub found_are : SameBlocks found (positions_of (cells_in (plain_root name p T values ∷ others)) ++ names)

  items_count : (p T n : ℕ) → length (items table p T n) ≡ n
  items_count p T n = length-map (spaced p (size table T) n) (λ q. record { at = q; type = T }) ∙ length-spaced p (size table T) n

  pub rooted : (name : List ℕ) (p T n : ℕ) (others : List Root) (u v l root_blocks rest : List ℕ) (places : List Limited) (names found : List ℕ) → IsBlock bytes p (tag_of (kind_with [] name) T) (n * size table T + length name)
      → slice bytes (p + n * size table T) (length name) ≡ name → SameBlocks u (block_of p ∷ v) → HoldsRoots bytes table others root_blocks → AllByRecursion (CanBeTarget bytes table below) (cells_in others)
      → ResolvesBy bytes table rest l (limited below (items table p T n) ++ places) names → SameOthers bytes v (root_blocks ++ rest) → SameBlocks found (positions_of (cells_in others) ++ names)
      → Rooted name p T n others u l places found
  rooted name p T n others u v l root_blocks rest places names found block name_is taken held named r owners found_are =
      let s = reads_split bytes table (limited below (items table p T n)) places r.values r.blocks r.reads in
      let mine = holds_limited bytes table below (items table p T n) s.left in
      let n_is : count s.lefts ≡ n = sym (count_is bytes table mine.0) ∙ items_count p T n in
      let root : Root = plain_root name p T s.lefts in
      let it : HoldsRoot bytes table root (block_of p ∷ s.front) = root_of_plain bytes table root (block_of p ∷ s.front) refl (record {
        block = subst (λ k. IsBlock bytes p (tag_of (kind_with [] name) T) (k * size table T + length name)) (sym n_is) block;
        name_is = subst (λ k. slice bytes (p + k * size table T) (length name) ≡ name) (sym n_is) name_is;
        inside = s.front;
        values = subst (λ k. HoldsEach bytes table (items table p T k) s.lefts s.front) (sym n_is) mine.0;
        blocks_are = refl;
      }) in
      let left_names = positions_of (names_each s.lefts) in
      let right_names = positions_of (names_each s.rights) in
      record {
        values = s.lefts;
        count_is = n_is;
        root_blocks = (block_of p ∷ s.front) ++ root_blocks;
        rest = s.back ++ l;
        held = holds_more_roots it held;
        named = each_joined (CanBeTarget bytes table below) (names_each s.lefts) (cells_in others) mine.1 named;
        names = right_names;
        resolves = record { values = s.rights; blocks = s.back; reads = s.right; owners = λ b other. refl; names_are = λ b. refl };
        owners = λ b other. root_given b u v (block_of p ∷ []) s.front root_blocks rest s.back l (taken b) (owners b other) (r.owners b other ∙ ap (λ bs. times b (bs ++ l)) s.owned_is);
        found_are = λ b.
            let all : times b (positions_of (names_each r.values)) ≡ times b left_names + times b right_names = ap (λ ns. times b (positions_of ns)) s.names_are
            ∙ ap (times b) (positions_append (names_each s.lefts) (names_each s.rights)) ∙ times-append b left_names right_names in
            omega (arith, found_are b, all, r.names_are b, positions_cells b root others, times-append b (positions_of (cells_in others)) names, times-append b (positions_of (cells_in (root ∷ others))) right_names);
      }
