-- The blocks of values, names and roots have the tags of their kinds. So a block with the tag of a
-- frozen object is one.
use Rattle.std.proofs.Common.{◌≡◌, ◌≢◌, ℕ, zero, suc, ◌*◌, ◌%◌, ◌⊎◌, inl, inr, List, [], ◌∷◌, ◌++◌, map, Option, Some, None, option_to_list, option_map, MatchOption, sym, ap, subst, arith}
use Rattle.std.specs.List.{AllByRecursion}
use Rattle.std.proofs.lemmas.Bool.{cases_eq}
use Rattle.seg_spec.specs.Bytes.{word}
use Rattle.seg_spec.specs.Header.{index_kind_word, index_cell, next_word, version_word, sharing_version}
use Rattle.seg_spec.specs.Pointer.{target}
use Rattle.seg_spec.specs.Types.{Form, Table}
use Rattle.seg_spec.specs.Value.{Value, Values}
use Rattle.seg_spec.specs.Heap.{Span, tag_at, live}
use Rattle.seg_spec.specs.Block.{IsBlock, block_of, Kind, kind_number, tag_of}
use Rattle.seg_spec.specs.Shapes.{nodes_of}
use Rattle.seg_spec.specs.Reads.{Place, Opened, Opens, Holds, holds, HoldsEach, holds_none, holds_more, count_at, named, NamesRoom, AreNodes}
use Rattle.seg_spec.specs.Index.{Root, Index, OpensIndex, AreEntries}
use Rattle.seg_spec.specs.Frozen.{root_of_frozen}
use Rattle.seg_spec.specs.Sound.{Picture, HoldsRoot, HoldsRoots, holds_no_root, holds_more_roots, kind_with, IsPlain, IsHeld, roots_of, frozen_roots, positions}
use Rattle.seg_spec.specs.Counting.{AreCounted}
use Rattle.seg_spec.specs.Images.{IsSound}
use Rattle.seg_spec.specs.Faulty.{IsTagOf}
use Rattle.seg_spec.proofs.Images.VersionLaws.{unnumbered}
use Rattle.seg_spec.proofs.Values.PlaceFrameLaws.{each_of_map, each_weaker, each_left, each_right}
use Rattle.seg_spec.proofs.Heap.LiveBlockLaws.{each_same}
use Rattle.seg_spec.proofs.Images.LooseRootLaws.{each_joined}
use Rattle.seg_spec.proofs.Frozen.NoFrozenLaws.{none_numbered}

module _ (bytes : List ℕ) where
  -- the block doesn't have the tag of a frozen object
  abbrev pub IsOther : ℕ → Type 0
  IsOther h = tag_at bytes h % 256 ≢ kind_number Kind.frozen

  other : (p tag size : ℕ) → tag % 256 ≢ kind_number Kind.frozen → IsBlock bytes p tag size → IsOther (block_of p)
  other p tag size differs b = subst (λ t. t % 256 ≢ kind_number Kind.frozen) (sym b.has_tag) differs

  named_other : (at tag each : ℕ) → tag % 256 ≢ kind_number Kind.frozen → NamesRoom bytes at tag each → AllByRecursion IsOther (named bytes at)
  named_other at tag each differs r = go (target bytes at) r
    where
      go : (t : Option ℕ) → MatchOption t (count_at bytes at ≡ 0) (λ p. IsBlock bytes p tag (count_at bytes at * each)) → AllByRecursion IsOther (option_to_list (option_map block_of t))
      go None r = tt
      go (Some p) r = (other p tag (count_at bytes at * each) differs r, tt)

  nodes_other : (tag each : ℕ) → tag % 256 ≢ kind_number Kind.frozen → (nodes : List ℕ) → AreNodes bytes tag each nodes → AllByRecursion IsOther (map block_of nodes)
  nodes_other tag each differs [] a = tt
  nodes_other tag each differs (p ∷ ps) a = (other p tag each differs a.0, nodes_other tag each differs ps a.1)

  of_blocks : {opened is : Opened} → opened ≡ is → AllByRecursion IsOther is.blocks → AllByRecursion IsOther opened.blocks
  of_blocks e a = subst (AllByRecursion IsOther) (sym (ap (λ (o : Opened). o.blocks) e)) a

  buffer_other : (T : ℕ) → tag_of Kind.buffer T % 256 ≢ kind_number Kind.frozen
  buffer_other T e = absurd (omega arith)

  node_other : (T : ℕ) → tag_of Kind.node T % 256 ≢ kind_number Kind.frozen
  node_other T e = absurd (omega arith)

  object_other : (T : ℕ) → tag_of Kind.object T % 256 ≢ kind_number Kind.frozen
  object_other T e = absurd (omega arith)

  module _ (table : Table) where
    pub opened_other : (place : Place) (form : Form) (opened : Opened) → Opens bytes table place form opened → AllByRecursion IsOther opened.blocks
    opened_other place Form.i64 opened o = of_blocks o tt
    opened_other place Form.str opened o = of_blocks o.opened_is (named_other place.at _ 1 (buffer_other place.type) o.named_room)
    opened_other place (Form.vec U) opened o = of_blocks o.opened_is (named_other place.at _ _ (buffer_other place.type) o.named_room)
    opened_other place (Form.list U) opened o = of_blocks o.opened_is (nodes_other _ _ (node_other place.type) o.nodes o.are_nodes)
    opened_other place (Form.flat_map U) opened o = of_blocks o.opened_is (named_other place.at _ _ (buffer_other place.type) o.named_room)
    opened_other place (Form.map U) opened o = of_blocks o.opened_is (nodes_other _ _ (node_other place.type) (nodes_of o.tree) o.are_nodes)
    opened_other place (Form.own U) opened o = of_blocks o.opened_is (named_other place.at _ _ (object_other U) o.named_room)
    opened_other place (Form.struct Us) opened o = of_blocks o tt
    opened_other place (Form.shared U) opened o = of_blocks o.opened_is tt

    mutual
      pub owned_other : {place : Place} {v : Value} {blocks : List ℕ} → Holds bytes table place v blocks → AllByRecursion IsOther blocks
      owned_other {place = place} (holds form opened inside owned f o hs v_is is) =
          subst (AllByRecursion IsOther) (sym is) (each_joined IsOther opened.blocks owned (opened_other place form opened o) (each_other hs))

      pub each_other : {places : List Place} {vs : Values} {blocks : List ℕ} → HoldsEach bytes table places vs blocks → AllByRecursion IsOther blocks
      each_other holds_none = tt
      each_other (holds_more {blocks = xs} {owned = ys} h hs) = each_joined IsOther xs ys (owned_other h) (each_other hs)

    -- a root without words before its values isn't a frozen object
    kind_other : (name : List ℕ) (T : ℕ) → tag_of (kind_with [] name) T % 256 ≢ kind_number Kind.frozen
    kind_other [] T e = absurd (omega arith)
    kind_other (b ∷ name) T e = absurd (omega arith)

    pub root_other : (root : Root) (blocks : List ℕ) → root.words ≡ [] → HoldsRoot bytes table root blocks → AllByRecursion IsOther blocks
    root_other root blocks plain h =
        let differs : tag_of (kind_with root.words root.name) root.type % 256 ≢ kind_number Kind.frozen =
        subst (λ ws. tag_of (kind_with ws root.name) root.type % 256 ≢ kind_number Kind.frozen) (sym plain) (kind_other root.name root.type) in
        subst (AllByRecursion IsOther) (sym h.blocks_are) (other _ _ _ differs h.block, each_other h.values)

    pub roots_other : {roots : List Root} {blocks : List ℕ} → AllByRecursion (λ (r : Root). r.words ≡ []) roots → HoldsRoots bytes table roots blocks → AllByRecursion IsOther blocks
    roots_other a holds_no_root = tt
    roots_other a (holds_more_roots {root = root} {blocks = xs} {rest = ys} h hs) = each_joined IsOther xs ys (root_other root xs a.0 h) (roots_other a.1 hs)

  pub index_other : (kind : ℕ) (index : Index) → OpensIndex bytes kind index → AllByRecursion IsOther index.blocks
  index_other zero index o = subst (AllByRecursion IsOther) (sym (ap (λ (i : Index). i.blocks) o.index_is)) (named_other index_cell _ 8 (λ e. absurd (omega arith)) o.named_room)
  index_other (suc n) index o = subst (AllByRecursion IsOther) (sym (ap (λ (i : Index). i.blocks) o.index_is))
      (nodes_other _ _ (λ e. absurd (omega arith)) (nodes_of o.tree) o.are_nodes)

entries_plain : (bytes : List ℕ) (entries : List ℕ) (names : List Root) → AreEntries bytes entries names → AllByRecursion (λ (r : Root). r.words ≡ []) names
entries_plain bytes [] [] e = tt
entries_plain bytes (x ∷ entries) [] e = tt
entries_plain bytes [] (r ∷ names) e = absurd e
entries_plain bytes (x ∷ entries) (r ∷ names) e = (e.0.no_words, entries_plain bytes entries names e.1)

-- if no object is frozen, no allocated block has the tag of a frozen object
pub none_tagged : (bytes : List ℕ) (picture : Picture) → IsHeld bytes picture → picture.frozen ≡ [] → AllByRecursion (IsOther bytes) (positions (live bytes))
none_tagged bytes picture held none =
    let l = held.laid_out in
    let plain = each_weaker IsPlain (λ (r : Root). r.words ≡ []) (λ r p. p.no_words) (picture.uniques ++ picture.loose) l.plain in
    let Plain = λ (r : Root). r.words ≡ [] in
    let all : AllByRecursion Plain (roots_of picture) = each_joined Plain picture.names (picture.uniques ++ (picture.loose ++ frozen_roots picture))
    (entries_plain bytes l.names.index.entries picture.names l.names.entries)
    (each_joined Plain picture.uniques (picture.loose ++ frozen_roots picture) (each_left Plain picture.uniques picture.loose plain)
    (each_joined Plain picture.loose (frozen_roots picture) (each_right Plain picture.uniques picture.loose plain) (subst (λ fs. AllByRecursion Plain (map root_of_frozen fs)) (sym none) tt))) in
    each_same (IsOther bytes) (held.index_blocks ++ held.root_blocks) (positions (live bytes)) (λ h. sym (held.owners h))
    (each_joined (IsOther bytes) held.index_blocks held.root_blocks
    (subst (AllByRecursion (IsOther bytes)) (sym l.names.blocks_are) (index_other bytes (word bytes index_kind_word) l.names.index l.names.opens))
    (roots_other bytes picture.table all held.roots))

-- the tags of a sound image are allowed in its version
pub tags_of_version : (bytes : List ℕ) → IsSound bytes → AllByRecursion (λ (b : Span). IsTagOf (word bytes version_word) (tag_at bytes b.at)) (live bytes)
tags_of_version bytes s = go (cases_eq (word bytes version_word) sharing_version)
  where
    Of : Span → Type 0
    Of b = IsTagOf (word bytes version_word) (tag_at bytes b.at)

    all_of : word bytes version_word ≡ sharing_version → (bs : List Span) → AllByRecursion Of bs
    all_of shares [] = tt
    all_of shares (b ∷ bs) = (λ _. shares, all_of shares bs)

    go : (word bytes version_word ≡ sharing_version) ⊎ (word bytes version_word ≢ sharing_version) → AllByRecursion Of (live bytes)
    go (inl shares) = all_of shares (live bytes)
    go (inr other) =
        let none = none_numbered s.picture (subst (λ n. AreCounted n s.picture) (unnumbered (word bytes version_word) (word bytes next_word) s.held.laid_out.header.version other) s.counted) in
        each_weaker (λ (b : Span). IsOther bytes b.at) Of (λ b differs frozen. absurd (differs frozen)) (live bytes) (each_of_map (IsOther bytes) (λ b. b.at) (live bytes) (none_tagged bytes s.picture s.held none))
