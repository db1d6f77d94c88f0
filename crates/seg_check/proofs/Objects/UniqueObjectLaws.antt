-- The pointer of a type and its unique object: the object was claimed, or can't be claimed.
use Rattle.std.proofs.Common.{◌≡◌, ◌≢◌, ℕ, suc, ◌+◌, ◌*◌, ◌%◌, ◌<◌, ◌≤◌, ◌⊎◌, inl, inr, List, [], ◌∷◌, ◌++◌, length, Option, Some, None, refl, sym, ap, ◌∙◌, subst, arith}
use Rattle.std.proofs.lemmas.List.{append-nil}
use Rattle.std.proofs.lemmas.Bool.{cases_eq}
use Rattle.std.specs.List.{AllByRecursion}
use Rattle.seg_spec.specs.Bytes.{slice}
use Rattle.seg_spec.specs.Pointer.{target}
use Rattle.seg_spec.specs.Types.{Table, form_at, size}
use Rattle.seg_spec.specs.Value.{Value, Values, nil, cons, count}
use Rattle.seg_spec.specs.Block.{Kind, kind_number, IsBlock, block_of, tag_of}
use Rattle.seg_spec.specs.Reads.{items}
use Rattle.seg_spec.specs.Index.{Root, plain_root, AreEntries, position_of, AreRising, unique_word}
use Rattle.seg_spec.specs.Counting.{cells_in}
use Rattle.seg_spec.specs.Sound.{IsPlain, HoldsRoots, holds_no_root, holds_more_roots, kind_with, times, SameBlocks}
use Rattle.seg_spec.proofs.Heap.LiveBlockLaws.{times-append, times-same}
use Rattle.seg_spec.proofs.Images.RootLaws.{HoldsRoots-split, HoldsRoots-only}
use Rattle.seg_spec.proofs.Images.UniqueLaws.{at_head, past_head, none_below}
use Rattle.seg_layout.specs.Forms.{has_cells}
use Rattle.seg_check.specs.declared.fault.ContentFault.{ContentFault}
use Rattle.seg_check.specs.Claiming.{CanClaim, RefusesClaim, ClaimsBlock, turns_where}
use Rattle.seg_check.specs.Positions.{to_unique, LacksAt}
use Rattle.seg_check.proofs.Blocks.LackingBlockLaws.{refuses_as, must_lack}
use Rattle.seg_check.specs.declared.marks.Turn.{Turn}
use Rattle.seg_check.specs.Marks.{Known, awaiting}
use Rattle.seg_check.specs.Naming.{CanBeTarget}
use Rattle.seg_check.specs.Turns.{by_type, Limited, limited, awaited}
use Rattle.seg_check.specs.Resolving.{ResolvesBy, IsReady}
use Rattle.seg_check.specs.Roots.{Ahead, uniques_ahead, ResolvesRoots, CanResolveRoots, AdvancesRoots, AdvancesUniques}
use Rattle.seg_check.proofs.Queue.ReadPlaceLaws.{positions_of}
use Rattle.seg_check.proofs.Blocks.FrozenClaimLaws.{other_block, finds_none, finds_claimed}
use Rattle.seg_check.proofs.Queue.QueueStepLaws.{within_taken}
use Rattle.seg_check.proofs.Objects.RootReadLaws.{joined, rooted}
use Rattle.seg_check.proofs.Objects.NamedObjectLaws.{object_other, object_others, object_waits, values_forth, values_back}
use Rattle.seg_check.proofs.Contents.BufferLaws.{content_claimed, content_can}
use Rattle.seg_block.specs.Tags.{word_of}
use Rattle.seg_cells.specs.Contents.{IsContent}
use Rattle.seg_cells.specs.declared.content.Content.{Content}
use Rattle.seg_cells.specs.declared.content.Shape.{Shape}
use Rattle.seg_check.specs.Claiming.{has_turns}
use Rattle.seg_spec.proofs.Images.PlainRootLaws.{plain_of}

-- the unique objects of all types from T on are ahead
abbrev pub from_type : ℕ → Ahead
from_type T = record { entries = []; last = []; type = T }

-- a slice of length 0 is empty
slice_none : (bytes : List ℕ) (at : ℕ) → slice bytes at 0 ≡ []
unfolding slice
slice_none bytes at = refl

-- without entries there are no names
no_names : (bytes : List ℕ) (names : List Root) → AreEntries bytes [] names → names ≡ []
no_names bytes [] e = refl
no_names bytes (root ∷ names) e = absurd e

one_value : (vs : Values) → count vs ≡ 1 → (v : Value) × (vs ≡ cons v nil)
one_value nil e = absurd (omega arith)
one_value (cons v nil) e = (v, refl)
one_value (cons v (cons w vs)) e = absurd (omega arith)

lower : (U V : ℕ) (roots : List Root) → U ≤ V → AreRising V roots → AreRising U roots
lower U V [] le r = tt
lower U V (root ∷ roots) le r = (omega (arith, r.0), r.1, r.2)

-- if a type has no unique object, the roots are of higher types
higher : (T : ℕ) (roots : List Root) → AreRising T roots → position_of roots T ≡ None → AreRising (suc T) roots
higher T [] r none = tt
higher T (root ∷ roots) r none = go (cases_eq root.type T)
  where
    go : (root.type ≡ T) ⊎ (root.type ≢ T) → AreRising (suc T) (root ∷ roots)
    go (inl same) = absurd (let both : Some root.at ≡ None = sym (at_head root roots) ∙ ap (position_of (root ∷ roots)) same ∙ none in cc)
    go (inr other) = (let low = r.0 in omega arith, r.1, r.2)

-- the first root is of the type T, if T has a unique object
pub record First (T p : ℕ) (roots : List Root) : Type 0 where
  pub root : Root
  pub others : List Root
  pub roots_are : roots ≡ root ∷ others
  pub type_is : root.type ≡ T
  pub at_is : root.at ≡ p

first : (T p : ℕ) (roots : List Root) → AreRising T roots → position_of roots T ≡ Some p → First T p roots
first T p [] r some = absurd (let both : None ≡ Some p = some in cc)
first T p (root ∷ roots) r some = go (cases_eq root.type T)
  where
    go : (root.type ≡ T) ⊎ (root.type ≢ T) → First T p (root ∷ roots)
    go (inl same) =
        let both : Some root.at ≡ Some p = sym (at_head root roots) ∙ ap (position_of (root ∷ roots)) same ∙ some in
        record { root = root; others = roots; roots_are = refl; type_is = same; at_is = cc }
    go (inr other) =
        let low = r.0 in
        absurd (let both : None ≡ Some p = sym (none_below (suc root.type) T roots r.2 (omega arith)) ∙ sym (past_head root roots T other) ∙ some in cc)

module _ (bytes : List ℕ) (table : Table) where
  -- ---- a type without a unique object

  module _ (known : Known) (T : ℕ) (small : T < 32) (none : target bytes (unique_word T) ≡ None) where
    pub advance_unused : AdvancesRoots bytes table known known (from_type T) (from_type (suc T))
    advance_unused = record {
      named = λ entries k. k;
      turns = [];
      turns_are = sym (append-nil known.turns);
      are_waiting = tt;
      within = λ h. omega arith;
      counted = λ c. c;
      finds = finds_none bytes known;
      forth = λ left places found r. record {
        names = r.names;
        uniques = r.uniques;
        root_blocks = r.root_blocks;
        rest = r.rest;
        are_entries = r.are_entries;
        ascending = r.ascending;
        words = λ U low less. r.words U (omega arith) less;
        rising = higher T r.uniques r.rising (sym (r.words T (omega arith) small) ∙ none);
        plain = r.plain;
        roots = r.roots;
        named = r.named;
        others = r.others;
        resolves = r.resolves;
        owners = r.owners;
        found_are = r.found_are;
      };
      back = λ left places found r. record {
        names = r.names;
        uniques = r.uniques;
        root_blocks = r.root_blocks;
        rest = r.rest;
        are_entries = r.are_entries;
        ascending = r.ascending;
        words = λ U low less. word_of r.uniques r.rising r.words U (cases_eq T U) low less;
        rising = lower T (suc T) r.uniques (omega arith) r.rising;
        plain = r.plain;
        roots = r.roots;
        named = r.named;
        others = r.others;
        resolves = r.resolves;
        owners = r.owners;
        found_are = r.found_are;
      };
    }
      where
        word_of : (uniques : List Root) → AreRising (suc T) uniques → ((U : ℕ) → suc T ≤ U → U < 32 → target bytes (unique_word U) ≡ position_of uniques U) → (U : ℕ) → (T ≡ U) ⊎ (T ≢ U) → T ≤ U → U < 32
            → target bytes (unique_word U) ≡ position_of uniques U
        word_of uniques rising words U (inl same) low less = subst (λ V. target bytes (unique_word V) ≡ position_of uniques V) same (none ∙ sym (none_below (suc T) T uniques rising (omega arith)))
        word_of uniques rising words U (inr other) low less = words U (omega arith) less

  -- ---- a type with a unique object

  module _ (old new : Known) (ready : IsReady bytes table old) (T p : ℕ) (small : T < 32) (named : target bytes (unique_word T) ≡ Some p)
      (c : ClaimsBlock bytes old new (unique_word T) (tag_of (kind_with [] []) T) (1 * size table T + 0) (turns_where (has_cells (form_at table T)) p 1) p) where
    abbrev turns : List Turn
    turns = turns_where (has_cells (form_at table T)) p 1

    unique_forth : (below : Option ℕ) (l : List ℕ) (places : List Limited) (found : List ℕ) → ResolvesRoots bytes table below old.unclaimed l (from_type T) places found
        → ResolvesRoots bytes table below new.unclaimed l (from_type (suc T)) (awaited bytes table (awaiting below turns) ++ places) found
    unique_forth below l places found r =
        let f = first T p r.uniques r.rising (sym (r.words T (omega arith) small) ∙ named) in
        let both : r.names ++ r.uniques ≡ f.root ∷ f.others = ap (λ ns. ns ++ r.uniques) (no_names bytes r.names r.are_entries) ∙ f.roots_are in
        let plain : AllByRecursion IsPlain (f.root ∷ f.others) = subst (AllByRecursion IsPlain) f.roots_are r.plain in
        let j = joined bytes table below f.root plain.0.no_words f.others old.unclaimed new.unclaimed l r.root_blocks r.rest places r.others found (subst (λ rs. HoldsRoots bytes table rs r.root_blocks) both r.roots)
        (subst (λ rs. AllByRecursion (CanBeTarget bytes table below) (cells_in rs)) both r.named) r.resolves r.owners (subst (λ rs. SameBlocks found (positions_of (cells_in rs) ++ r.others)) both r.found_are) in
        let rising : AreRising T (f.root ∷ f.others) = subst (AreRising T) f.roots_are r.rising in
        let one : count f.root.values ≡ 1 = ap count plain.0.values_are in
        record {
          names = [];
          uniques = f.others;
          root_blocks = j.root_blocks;
          rest = j.rest;
          are_entries = tt;
          ascending = tt;
          words = λ U low less.
              let type_is = f.type_is in
              r.words U (omega arith) less ∙ ap (λ rs. position_of rs U) f.roots_are ∙ past_head f.root f.others U (λ e. omega arith);
          rising = subst (λ V. AreRising (suc V) f.others) f.type_is rising.2;
          plain = plain.1;
          roots = j.held;
          named = j.named;
          others = j.names;
          resolves = values_forth bytes table old new ready (unique_word T) p T 1 [] c below j.rest l places j.names
              (subst (λ k. ResolvesBy bytes table j.rest l (limited below (items table p T k) ++ places) j.names) one
              (subst (λ k. ResolvesBy bytes table j.rest l (limited below (items table p k (count f.root.values)) ++ places) j.names) f.type_is
              (subst (λ k. ResolvesBy bytes table j.rest l (limited below (items table k f.root.type (count f.root.values)) ++ places) j.names) f.at_is j.resolves)));
          owners = j.owners (subst (λ q. SameBlocks old.unclaimed (block_of q ∷ new.unclaimed)) (sym f.at_is) c.claims.claimed);
          found_are = j.found_are;
        }

    unique_back : (below : Option ℕ) (l : List ℕ) (places : List Limited) (found : List ℕ) → ResolvesRoots bytes table below new.unclaimed l (from_type (suc T)) (awaited bytes table (awaiting below turns) ++ places) found
        → ResolvesRoots bytes table below old.unclaimed l (from_type T) places found
    unique_back below l places found r =
        let none = no_names bytes r.names r.are_entries in
        let k = rooted bytes table below [] p T 1 r.uniques old.unclaimed new.unclaimed l r.root_blocks r.rest places r.others found c.is_block (slice_none bytes (p + 1 * size table T)) c.claims.claimed
        (subst (λ ns. HoldsRoots bytes table (ns ++ r.uniques) r.root_blocks) none r.roots) (subst (λ ns. AllByRecursion (CanBeTarget bytes table below) (cells_in (ns ++ r.uniques))) none r.named)
        (values_back bytes table old new ready (unique_word T) p T 1 [] c below r.rest l places r.others r.resolves) r.owners
        (subst (λ ns. SameBlocks found (positions_of (cells_in (ns ++ r.uniques)) ++ r.others)) none r.found_are) in
        let root : Root = plain_root [] p T k.values in
        let value = one_value k.values k.count_is in
        record {
          names = [];
          uniques = root ∷ r.uniques;
          root_blocks = k.root_blocks;
          rest = k.rest;
          are_entries = tt;
          ascending = tt;
          words = λ U low less. word_of root r.uniques refl refl r.words U (cases_eq T U) low less;
          rising = (omega arith, small, r.rising);
          plain = (record { no_name = refl; no_words = refl; value = value.0; values_are = value.1 }, r.plain);
          roots = k.held;
          named = k.named;
          others = k.names;
          resolves = k.resolves;
          owners = k.owners;
          found_are = k.found_are;
        }
      where
        word_of : (root : Root) (others : List Root) → root.type ≡ T → root.at ≡ p → ((U : ℕ) → suc T ≤ U → U < 32 → target bytes (unique_word U) ≡ position_of others U) → (U : ℕ) → (T ≡ U) ⊎ (T ≢ U) → T ≤ U → U < 32
            → target bytes (unique_word U) ≡ position_of (root ∷ others) U
        word_of root others type_is at_is words U (inl same) low less = ap (λ V. target bytes (unique_word V)) (sym same) ∙ named ∙ ap Some (sym at_is) ∙ sym (at_head root others) ∙ ap (position_of (root ∷ others)) (type_is ∙ same)
        word_of root others type_is at_is words U (inr other) low less = words U (omega arith) less ∙ sym (past_head root others U (λ e. other (sym type_is ∙ e)))

    pub advance_unique : AdvancesRoots bytes table old new (from_type T) (from_type (suc T))
    advance_unique = record {
      named = λ entries k. k;
      turns = awaiting old.naming.below turns;
      turns_are = c.claims.turns_are;
      are_waiting = object_waits bytes table old new ready (unique_word T) p T 1 [] c old.naming.below (by_type T p small named);
      within = within_taken old.unclaimed new.unclaimed (block_of p ∷ []) c.claims.claimed;
      counted = c.claims.counted;
      finds = finds_claimed bytes old new (block_of p ∷ []) turns c.claims (object_other bytes table old new ready (unique_word T) p T 1 [] c, tt) (object_others bytes table old new ready (unique_word T) p T 1 [] c);
      forth = λ left places found r. unique_forth old.naming.below left places found r;
      back = λ left places found r. unique_back old.naming.below left places found r;
    }

  plain_other : (name : List ℕ) → name ≡ [] → (T : ℕ) → tag_of (kind_with [] name) T % 256 ≡ kind_number Kind.frozen → ⊥
  plain_other [] e T differs = absurd (omega arith)
  plain_other (b ∷ name) e T differs = cc

  pub can_unique : (old : Known) (T p : ℕ) → T < 32 → target bytes (unique_word T) ≡ Some p → CanResolveRoots bytes table old (from_type T) → CanClaim bytes old (unique_word T) (tag_of Kind.object T) (1 * size table T)
  can_unique old T p small named can =
      let r = can.resolves in
      let f = first T p r.uniques r.rising (sym (r.words T (omega arith) small) ∙ named) in
      let both : r.names ++ r.uniques ≡ f.root ∷ f.others = ap (λ ns. ns ++ r.uniques) (no_names bytes r.names r.are_entries) ∙ f.roots_are in
      let s = HoldsRoots-split bytes table (f.root ∷ []) f.others r.root_blocks (subst (λ rs. HoldsRoots bytes table rs r.root_blocks) both r.roots) in
      let plain : AllByRecursion IsPlain (f.root ∷ f.others) = subst (AllByRecursion IsPlain) f.roots_are r.plain in
      let it = plain_of bytes table f.root s.left plain.0.no_words (HoldsRoots-only bytes table f.root s.left s.lefts) in
      let one : count f.root.values ≡ 1 = ap count plain.0.values_are in
      let no_name = plain.0.no_name in
      let exact : count f.root.values * size table f.root.type + length f.root.name ≡ 1 * size table T =
      (λ i. one i * size table (f.type_is i) + length (no_name i)) ∙ (let e : 1 * size table T + 0 ≡ 1 * size table T = omega arith in e) in
      record {
        start = p;
        names = named;
        is_block = subst (λ q. IsBlock bytes q (tag_of Kind.object T) (1 * size table T)) f.at_is
            (subst (λ m. IsBlock bytes f.root.at (tag_of Kind.object T) m) exact
            (subst (λ t. IsBlock bytes f.root.at t (count f.root.values * size table f.root.type + length f.root.name)) (λ i. tag_of (kind_with [] (no_name i)) (f.type_is i)) it.block));
        unclaimed = subst (λ q. 1 ≤ times (block_of q) old.unclaimed) f.at_is
            (let other = other_block bytes f.root.at (tag_of (kind_with [] f.root.name) f.root.type) (count f.root.values * size table f.root.type + length f.root.name) (plain_other f.root.name no_name f.root.type) it.block in
            let i = r.owners (block_of f.root.at) other in
            let j = times-append (block_of f.root.at) r.root_blocks r.rest in
            let k : times (block_of f.root.at) r.root_blocks ≡ times (block_of f.root.at) s.left + times (block_of f.root.at) s.right = ap (times (block_of f.root.at)) s.blocks_are ∙ times-append (block_of f.root.at) s.left s.right in
            let m : times (block_of f.root.at) s.left ≡ times (block_of f.root.at) (block_of f.root.at ∷ it.inside) = ap (times (block_of f.root.at)) it.blocks_are in
            let n = times-same (block_of f.root.at) it.inside in
            omega arith);
      }

  -- ---- the content of an object

  zero_size : (T : ℕ) → size table T ≡ 0 + size table T
  zero_size T = omega arith

  module _ (old new : Known) (T at next : ℕ) (shape : Shape) (content : Content) (ready : IsReady bytes table old) (small : T < 32) (at_is : at ≡ unique_word T) (is : IsContent table shape (tag_of Kind.object T) 0 T content) where
    pub unique_advance : (p : ℕ) → next ≡ suc T → ClaimsBlock bytes old new at (word_of content.tag) (1 * content.entry.size) (turns_where (has_turns table content.entry.held) p 1) p
        → AdvancesRoots bytes table old new (from_type T) (from_type next)
    unique_advance p next_is c =
        let d = content_claimed bytes table old new at 1 p shape (tag_of Kind.object T) 0 T content is c in
        let room : 1 * (0 + size table T) ≡ 1 * size table T + 0 = omega arith in
        let e = subst (λ m. ClaimsBlock bytes old new at (tag_of Kind.object T) m (turns_where (has_cells (form_at table T)) p 1) p) room d in
        let f = subst (λ a. ClaimsBlock bytes old new a (tag_of Kind.object T) (1 * size table T + 0) (turns_where (has_cells (form_at table T)) p 1) p) at_is e in
        subst (λ U. AdvancesRoots bytes table old new (from_type T) (from_type U)) (sym next_is) (advance_unique old new ready T p small f.names f)

    pub unique_lacks : (e : ContentFault) → RefusesClaim bytes old at (word_of content.tag) (1 * content.entry.size) e → LacksAt bytes table e
    unique_lacks e r =
        let room : 1 * content.entry.size ≡ size table T = (let one : 1 * content.entry.size ≡ content.entry.size = omega arith in one) ∙ is.entry_is.size_is ∙ sym (zero_size T) in
        must_lack bytes table old ready at (tag_of Kind.object T) (size table T) e (to_unique T small at_is)
        (refuses_as bytes bytes old at (word_of content.tag) (tag_of Kind.object T) (1 * content.entry.size) (size table T) e refl is.tag_is room r)

    pub unique_can : (p : ℕ) → target bytes (unique_word T) ≡ Some p → CanResolveRoots bytes table old (from_type T) → CanClaim bytes old at (word_of content.tag) (1 * content.entry.size)
    unique_can p named can =
        subst (λ a. CanClaim bytes old a (word_of content.tag) (1 * content.entry.size)) (sym at_is)
        (content_can bytes table old (unique_word T) 1 shape (tag_of Kind.object T) 0 T (size table T) content is (zero_size T) (can_unique old T p small named can))

  pub unused_advance : (known : Known) (T next : ℕ) → T < 32 → next ≡ suc T → target bytes (unique_word T) ≡ None → AdvancesRoots bytes table known known (from_type T) (from_type next)
  unused_advance known T next small next_is none = subst (λ U. AdvancesRoots bytes table known known (from_type T) (from_type U)) (sym next_is) (advance_unused known T small none)

  -- ---- all types

  none_rising : (T : ℕ) (roots : List Root) → 32 ≤ T → AreRising T roots → roots ≡ []
  none_rising T [] high r = refl
  none_rising T (root ∷ roots) high r = absurd (let low = r.0 in let less = r.1 in omega arith)

  no_blocks : {roots : List Root} {blocks : List ℕ} → HoldsRoots bytes table roots blocks → roots ≡ [] → blocks ≡ []
  no_blocks holds_no_root e = refl
  no_blocks (holds_more_roots h hs) e = cc

  pub all_unique : (old new : Known) (T : ℕ) → 32 ≤ T → AdvancesRoots bytes table old new uniques_ahead (from_type T) → AdvancesUniques bytes table old new
  all_unique old new T high a = record {
    turns = a.turns;
    turns_are = a.turns_are;
    are_waiting = a.are_waiting;
    within = a.within;
    counted = a.counted;
    finds = a.finds;
    forth = λ left places found r.
        let s = a.forth left places found r in
        let none : s.names ++ s.uniques ≡ [] = (λ i. no_names bytes s.names s.are_entries i ++ none_rising T s.uniques high s.rising i) in
        let no_block = no_blocks s.roots none in
        record {
          values = s.resolves.values;
          blocks = s.resolves.blocks;
          reads = s.resolves.reads;
          owners = λ h other. s.owners h other ∙ ap (λ bs. times h (bs ++ s.rest)) no_block ∙ s.resolves.owners h other;
          names_are = λ h. s.found_are h ∙ ap (λ rs. times h (positions_of (cells_in rs) ++ s.others)) none ∙ s.resolves.names_are h;
        };
    back = λ left places found r. a.back left places found (record {
      names = [];
      uniques = [];
      root_blocks = [];
      rest = new.unclaimed;
      are_entries = tt;
      ascending = tt;
      words = λ U low less. absurd (omega arith);
      rising = tt;
      plain = tt;
      roots = holds_no_root;
      named = tt;
      others = found;
      resolves = r;
      owners = λ h other. refl;
      found_are = λ h. refl;
    });
  }
