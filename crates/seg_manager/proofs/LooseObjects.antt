-- An object becomes one of the loose ones of a segment, or is destroyed.
use Rattle.std.proofs.Common.{◌≡◌, ◌≢◌, ℕ, zero, suc, ◌+◌, ◌*◌, ◌<◌, ◌≤◌, ◌⊎◌, inl, inr, List, [], ◌∷◌, ◌++◌, length, Some, None, refl, sym, ap, ◌∙◌, subst, append_assoc, arith, append-nil}
use Rattle.std.proofs.lemmas.Bool.{cases_eq}
use Rattle.std.specs.List.{AllByRecursion}
use Rattle.seg_spec.specs.Bytes.{word, slice}
use Rattle.seg_spec.specs.Header.{allocator_word, next_word, free_word, KeepsFront}
use Rattle.seg_spec.specs.Types.{Table, IsTable, size}
use Rattle.seg_spec.specs.Value.{Value, nil, cons, default_of}
use Rattle.seg_spec.specs.Heap.{live, IsHeap}
use Rattle.seg_spec.specs.Block.{Kind, tag_of, IsOwnable, IsBlock, block_of}
use Rattle.seg_spec.specs.Reads.{Place, Holds, HoldsEach, holds_none, holds_more, items}
use Rattle.seg_spec.specs.Index.{Root, plain_root}
use Rattle.seg_spec.specs.Sound.{Picture, IsPlain, HoldsRoot, HoldsRoots, IsHeld, times, positions}
use Rattle.seg_spec.specs.Roots.{loose, with_roots}
use Rattle.seg_spec.specs.Demand.{need}
use Rattle.seg_spec.specs.Calls.{IsLoose}
use Rattle.seg_spec.specs.Frozen.{blocks_by}
use Rattle.seg_spec.specs.Shared.{names_each, named_in, named_each, left}
use Rattle.seg_spec.specs.Counting.{cells_in, owners_in, AreCounted, without_cells}
use Rattle.seg_spec.specs.Destroying.{HoldFrozen, Destroys}
use Rattle.seg_spec.specs.Clearing.{SharedBeside, BesideShared}
use Rattle.seg_spec.proofs.SliceLaws.{IsSame-part}
use Rattle.seg_spec.proofs.Values.PlaceFrameLaws.{word-same, each_left, each_right}
use Rattle.seg_spec.proofs.Heap.LiveBlockLaws.{times-other}
use Rattle.seg_spec.proofs.Values.CallPlaceLaws.{each_live_at, live_at}
use Rattle.seg_spec.proofs.Images.RootLaws.{HoldsRoots-one, HoldsRoots-only, IsLaidOut-loose}
use Rattle.seg_spec.proofs.Frozen.PictureCountLaws.{OwnerBeside, owner_beside, named_one, counted_without}
use Rattle.seg_spec.proofs.Deallocation.OwnerDestructionLaws.{live_given, others_linked, laid_out_without, laid_out_still, held_without}
use Rattle.seg_value.specs.Contents.{GivesBlock}
use Rattle.seg_value.specs.Stored.{Stored}
use Rattle.seg_manager.specs.Segments.{IsSegment, Becomes, new_root, MakesLoose, LosesLoose}
use Rattle.seg_spec.proofs.Images.LooseRootLaws.{Trades, holds_its, loose_traded, each_joined}
use Rattle.seg_manager.proofs.ObjectAsks.{gets_one}
use Rattle.seg_spec.proofs.Images.LooseRootLaws as roots
use Rattle.seg_spec.proofs.Heap.RequestLaws.{spent_one, counts_one}
use Rattle.seg_spec.proofs.Images.PlainRootLaws.{HoldsPlain, plain_of, root_of_plain}
use Rattle.seg_spec.proofs.Frozen.PartCountLaws.{defaults_none}
use Rattle.seg_spec.proofs.Frozen.KeptCountLaws.{next_same, counted_still, counted_with}

pub allocator_same : (old new : List ℕ) → KeepsFront old new → word new allocator_word ≡ word old allocator_word
allocator_same old new front = word-same old new allocator_word (IsSame-part old new 0 free_word allocator_word 4 (omega arith) (omega arith) front)

-- ---- a root of one value without a name

no_bytes : (bytes : List ℕ) (at : ℕ) → slice bytes at 0 ≡ []
unfolding slice
no_bytes bytes at = refl

one_root : (bytes : List ℕ) (table : Table) (T at : ℕ) (v : Value) (inside : List ℕ) → IsBlock bytes at (tag_of Kind.object T) (size table T) → Holds bytes table (record { at = at; type = T }) v inside
    → HoldsRoot bytes table (plain_root [] at T (cons v nil)) (block_of at ∷ inside)
one_root bytes table T at v inside block held =
    let sized : 1 * size table T + 0 ≡ size table T = omega arith in
    root_of_plain bytes table (plain_root [] at T (cons v nil)) (block_of at ∷ inside) refl (record {
      block = rw sized block;
      name_is = no_bytes bytes (at + 1 * size table T);
      inside = inside;
      values = subst (λ bs. HoldsEach bytes table (items table at T 1) (cons v nil) bs) (append-nil inside) (holds_more held holds_none);
      blocks_are = refl;
    })

-- ---- an object is added

module _ (allocator : ℕ) (old new : Stored) (picture : Picture) (is : IsSegment allocator old picture) (T at : ℕ) (below : T < length old.types) (same : new.types ≡ old.types)
    (given : GivesBlock allocator old.window.bytes new.window.bytes old.types (tag_of Kind.object T) 0 T at) where
  abbrev a : List ℕ
  a = old.window.bytes

  abbrev b : List ℕ
  b = new.window.bytes

  table_is : old.types ≡ picture.table
  table_is = is.table_is

  counts : (h : ℕ) → times h (positions (live b)) ≡ times h (block_of at ∷ positions (live a))
  counts h = counts_one allocator (live a) (live b) (length a) (need (0 + size old.types T)) given.granted_is (block_of at) given.was_free given.now_live h

  ownable_at : (h : ℕ) → 1 ≤ times h (positions (live b)) → IsOwnable b picture.table h
  ownable_at h some = go (cases_eq (block_of at) h)
    where
      go : (block_of at ≡ h) ⊎ (block_of at ≢ h) → IsOwnable b picture.table h
      go (inl e) = subst (λ x. IsOwnable b picture.table x) e (record {
        kind = Kind.object;
        type = T;
        allowed = rw (← table_is) below;
        tag_is = given.is_block.has_tag;
        link_is = given.link_is;
      })
      go (inr other) =
          let c = counts h in
          let t = times-other h (block_of at) (positions (live a)) other in
          let some_old : 1 ≤ times h (positions (live a)) = omega arith in
          let k = given.kept h some_old in
          let o = live_at (IsOwnable a picture.table) (live a) h is.held.laid_out.blocks some_old in
          record { kind = o.kind; type = o.type; allowed = o.allowed; tag_is = k.0.has_tag ∙ o.tag_is; link_is = k.1 ∙ o.link_is }

  sized : 0 + size old.types T ≡ size old.types T
  sized = omega arith

  root : HoldsRoot b picture.table (new_root old.types [] T 1 at) (block_of at ∷ [])
  root = subst (λ t. HoldsRoot b t (new_root old.types [] T 1 at) (block_of at ∷ [])) table_is (one_root b old.types T at (default_of old.types T) [] (rw sized at given.is_block) (rw (Rattle.std.proofs.Common.add-zero at) at given.value))

  module _ (before after : List Root) (split : picture.loose ≡ before ++ after) where
    none_go : HoldsRoots a picture.table [] (roots.its a b picture is.held before [] after split)
    none_go = holds_its a b picture is.held before [] after split

    no_blocks : (xs : List ℕ) → HoldsRoots a picture.table [] xs → (h : ℕ) → times h xs ≡ 0
    no_blocks [] h k = refl
    no_blocks (x ∷ xs) h k = elim h [ ]

    trades : Trades a b picture (roots.its a b picture is.held before [] after split) (block_of at ∷ [])
    trades = record {
      length_kept = given.length_kept;
      front_kept = given.front_kept;
      back_kept = given.back_kept;
      heap = rw is.allocator_is given.heap;
      ownable = each_live_at (IsOwnable b picture.table) (live b) ownable_at;
      kept = λ h some none. (given.kept h some).0;
      counts = λ h.
          let c = counts h in
          let n = no_blocks (roots.its a b picture is.held before [] after split) none_go h in
          omega arith;
    }

    next_kept : word b next_word ≡ word a next_word
    next_kept = next_same a b given.back_kept

    counted_then : AreCounted (word a next_word) (with_roots picture loose (before ++ new_root old.types [] T 1 at ∷ after))
    counted_then =
        let front = picture.names ++ (picture.uniques ++ before) in
        let owners : owners_in picture ≡ front ++ after = ap (λ ls. picture.names ++ (picture.uniques ++ ls)) split ∙ simp append_assoc in
        counted_with (word a next_word) picture (with_roots picture loose (before ++ new_root old.types [] T 1 at ∷ after)) front (new_root old.types [] T 1 at) after owners (simp append_assoc) (defaults_none 1 old.types T) refl is.counted

    pub joined : Becomes allocator old new (with_roots picture loose (before ++ new_root old.types [] T 1 at ∷ after)) []
    joined = record {
      segment = record {
        held = loose_traded a b picture is.held before [] after split (new_root old.types [] T 1 at ∷ []) (block_of at ∷ []) trades (HoldsRoots-one b picture.table root)
            (record { no_name = refl; no_words = refl; value = default_of old.types T; values_are = refl }, tt);
        counted = counted_still a b (with_roots picture loose (before ++ new_root old.types [] T 1 at ∷ after)) next_kept counted_then;
        table_is = same ∙ table_is;
        allocator_is = allocator_same a b given.front_kept ∙ is.allocator_is;
      };
      length_kept = given.length_kept;
      front_kept = given.front_kept;
      next_kept = next_kept;
      kept = λ h some none. (given.kept h some).0;
    }

  pub made : MakesLoose allocator old new picture T at
  made = record {
    spends = rw sized at (spent_one allocator (live a) (live b) (length a) (need (0 + size old.types T)) given.granted_is);
    gets_block = rw sized at (gets_one allocator (live a) (live b) (length a) (need (0 + size old.types T)) [] given.granted_is (block_of at) given.was_free given.now_live);
    joins = joined;
  }

-- ---- an object is destroyed

module _ (allocator : ℕ) (old new : Stored) (picture : Picture) (is : IsSegment allocator old picture) (before : List Root) (root : Root) (after : List Root)
    (split : picture.loose ≡ before ++ root ∷ after) (same : new.types ≡ old.types) where
  abbrev a' : List ℕ
  a' = old.window.bytes

  abbrev b' : List ℕ
  b' = new.window.bytes

  abbrev cells : List Place
  cells = names_each root.values

  -- the owners before the object
  abbrev front : List Root
  front = picture.names ++ (picture.uniques ++ before)

  owners : owners_in picture ≡ front ++ root ∷ after
  owners = ap (λ ls. picture.names ++ (picture.uniques ++ ls)) split ∙ simp append_assoc

  its : OwnerBeside a' picture is.held front root after
  its = owner_beside (word a' next_word) a' picture is.held front root after owners is.counted

  abbrev blocks : List ℕ
  blocks = its.apart.firsts

  holds_it : HoldsRoot a' picture.table root blocks
  holds_it = HoldsRoots-only a' picture.table root blocks its.apart.holds_first

  middle : (rs : List Root) → AllByRecursion IsPlain (rs ++ root ∷ after) → IsPlain root
  middle [] p = p.0
  middle (r ∷ rs) p = middle rs p.1

  plain_in : (us : List Root) → AllByRecursion IsPlain (us ++ picture.loose) → IsPlain root
  plain_in [] p = middle before (subst (λ rs. AllByRecursion IsPlain rs) split p)
  plain_in (u ∷ us) p = plain_in us p.1

  plain : IsPlain root
  plain = plain_in picture.uniques is.held.laid_out.plain

  -- the object has one value and no name
  record OneValue : Type 0 where
    inside : List ℕ
    blocks_are : blocks ≡ block_of root.at ∷ inside
    block : IsBlock a' root.at (tag_of Kind.object root.type) (size picture.table root.type)
    holds_value : Holds a' picture.table (record { at = root.at; type = root.type }) plain.value inside

  only_value : (table : Table) (place : Place) (v : Value) (xs : List ℕ) → HoldsEach a' table (place ∷ []) (cons v nil) xs → Holds a' table place v xs
  only_value table place v xs (holds_more {blocks = mine} h holds_none) = rw (append-nil mine) h

  one_value_in : (r : Root) (v : Value) → r.name ≡ [] → r.values ≡ cons v nil → (h : HoldsPlain a' picture.table r blocks) → IsBlock a' r.at (tag_of Kind.object r.type) (size picture.table r.type)
      × Holds a' picture.table (record { at = r.at; type = r.type }) v h.inside
  one_value_in r v no_name values h =
      let sized : 1 * size picture.table r.type + 0 ≡ size picture.table r.type = omega arith in
      let block = rw (no_name, values, sized) at h.block in
      let each = rw values at h.values in
      (block, only_value picture.table (record { at = r.at; type = r.type }) v h.inside each)

  one : OneValue
  one =
      let p = plain_of a' picture.table root blocks plain.no_words holds_it in
      let i = one_value_in root plain.value plain.no_name plain.values_are p in
      record { inside = p.inside; blocks_are = p.blocks_are; block = i.0; holds_value = i.1 }

  loose_value : IsLoose a' picture.table (record { at = root.at; type = root.type }) plain.value one.inside
  loose_value = record {
    block = one.block;
    holds_it = one.holds_value;
    owned = λ h. let l : times h blocks ≤ times h (positions (live a')) = omega (arith, its.counts h) in rw one.blocks_are at l;
  }

  -- what the destruction of the object ensures
  abbrev Leaves : Table → Type 0
  Leaves table = (U : ℕ) (v : Value) (inside : List ℕ) → IsTable table → IsHeap allocator a' → IsLoose a' table (record { at = root.at; type = U }) v inside
      → BesideShared a' table (block_of root.at ∷ inside) (named_in v) (λ theirs now. Destroys allocator a' b' table ((block_of root.at ∷ inside) ++ blocks_by theirs now) theirs)

  module _ (leaves : Leaves old.types) where
    beside : SharedBeside a' picture.table (block_of root.at ∷ one.inside) (named_in plain.value) its.theirs (cells_in (front ++ after)) picture.frozen (left cells picture.frozen)
    beside =
        subst (λ ns. SharedBeside a' picture.table (block_of root.at ∷ one.inside) ns its.theirs (cells_in (front ++ after)) picture.frozen (left cells picture.frozen)) (ap named_each plain.values_are ∙ named_one plain.value)
        (subst (λ bs. SharedBeside a' picture.table bs (named_each root.values) its.theirs (cells_in (front ++ after)) picture.frozen (left cells picture.frozen)) one.blocks_are its.beside)

    heap : IsHeap allocator a'
    heap = subst (λ n. IsHeap n a') is.allocator_is is.held.laid_out.heap

    destroyed : Destroys allocator a' b' picture.table (blocks ++ blocks_by its.theirs picture.frozen) its.theirs (left cells picture.frozen)
    destroyed =
        subst (λ bs. Destroys allocator a' b' picture.table (bs ++ blocks_by its.theirs picture.frozen) its.theirs (left cells picture.frozen)) (sym one.blocks_are)
        (subst Leaves is.table_is leaves root.type plain.value one.inside is.held.laid_out.is_table heap loose_value its.theirs (cells_in (front ++ after)) picture.frozen (left cells picture.frozen) beside)

    destroyed_so : Destroys (word a' allocator_word) a' b' picture.table (blocks ++ blocks_by its.theirs picture.frozen) its.theirs (left cells picture.frozen)
    destroyed_so = subst (λ n. Destroys n a' b' picture.table (blocks ++ blocks_by its.theirs picture.frozen) its.theirs (left cells picture.frozen)) (sym is.allocator_is) destroyed

    plain_left : AllByRecursion IsPlain (before ++ after)
    plain_left =
        let ls = subst (AllByRecursion IsPlain) split (each_right IsPlain picture.uniques picture.loose is.held.laid_out.plain) in
        each_joined IsPlain before after (each_left IsPlain before (root ∷ after) ls) (each_right IsPlain before (root ∷ after) ls).1

    held_then : IsHeld b' (without_cells cells (with_roots picture loose (before ++ after)))
    held_then = held_without a' b' picture is.held front root after its destroyed_so (with_roots picture loose (before ++ after)) refl (simp append_assoc) refl
        (laid_out_without b' (with_roots picture loose (before ++ after)) is.held.index_blocks cells
        (IsLaidOut-loose b' picture is.held.index_blocks (before ++ after) plain_left (laid_out_still a' b' picture is.held front root after its destroyed_so)))

    pub lost : LosesLoose allocator old new picture before root after
    lost = record {
      blocks = blocks;
      holds_it = subst (λ t. HoldsRoot a' t root blocks) (sym is.table_is) holds_it;
      theirs = its.theirs;
      holds_shared = subst (λ t. HoldFrozen a' t its.theirs picture.frozen) (sym is.table_is) its.beside.holds;
      becomes = record {
        segment = record {
          held = held_then;
          counted = counted_still a' b' (without_cells cells (with_roots picture loose (before ++ after))) (next_same a' b' destroyed.frees.back_kept)
              (counted_without (word a' next_word) picture (with_roots picture loose (before ++ after)) front root after owners (simp append_assoc) refl is.counted);
          table_is = same ∙ is.table_is;
          allocator_is = allocator_same a' b' destroyed.frees.front_kept ∙ is.allocator_is;
        };
        length_kept = destroyed.frees.length_kept;
        front_kept = destroyed.frees.front_kept;
        next_kept = next_same a' b' destroyed.frees.back_kept;
        kept = λ h some none. (others_linked allocator a' b' picture.table blocks its.theirs cells picture.frozen heap is.held.laid_out.blocks destroyed h some none).whole.kept;
      };
      shared_kept = destroyed.shared_kept;
      holds_left = subst (λ t. HoldFrozen b' t its.theirs (left cells picture.frozen)) (sym is.table_is) destroyed.holds;
      live_is = live_given allocator a' b' picture.table blocks its.theirs cells picture.frozen heap is.held.laid_out.blocks destroyed;
    }

    -- the blocks that were freed were allocated, each once
    pub lost_owned : (h : ℕ) → times h lost.blocks + times h (blocks_by lost.theirs picture.frozen) ≤ times h (positions (live a'))
    unfolding lost
    lost_owned h = omega (arith, its.counts h)
