-- The index, the unique objects and the roots stay if their blocks are kept.
use Rattle.std.proofs.Common.{◌≡◌, ℕ, zero, suc, ◌+◌, ◌*◌, ◌≤◌, List, [], ◌∷◌, length, map, ap, ◌∙◌, arith}
use Rattle.std.specs.List.{AllByRecursion}
use Rattle.seg_spec.specs.Bytes.{word, half, byte, IsSame}
use Rattle.seg_spec.specs.Header.{uniques_start, uniques_size}
use Rattle.seg_spec.specs.Pointer.{target}
use Rattle.seg_spec.specs.Types.{Table, size, IsTable}
use Rattle.seg_spec.specs.Value.{count}
use Rattle.seg_spec.specs.Block.{KeepsBlock, block_of}
use Rattle.seg_spec.specs.Shapes.{nodes_of}
use Rattle.seg_spec.specs.Reads.{count_at, named, start}
use Rattle.seg_spec.specs.Index.{Root, Index, OpensIndex, IsEntry, AreEntries, ListsNames, ListsUniques, unique_word, index_node_size}
use Rattle.seg_spec.specs.Sound.{words_size, payload_of, AreWords, HoldsRoot, HoldsRoots, holds_no_root, holds_more_roots}
use Rattle.seg_spec.proofs.BytesLaws.{number-slice}
use Rattle.seg_spec.proofs.SliceLaws.{IsSame-part}
use Rattle.seg_spec.proofs.Values.PlaceFrameLaws.{word-same, target-same, cell-target, cell-count, IsBlock-kept, payload-same, buffer-same, NamesRoom-kept}
use Rattle.seg_spec.proofs.Values.PlaceFrameLaws.{spaced-same, nodes-same, nodes-kept, IsTree-same, each_left, each_right, places-same, HoldsEach-kept}

module _ (old new : List ℕ) where
  pub half-same : (at : ℕ) → IsSame old new at 2 → half new at ≡ half old at
  half-same at h = number-slice 2 old new at at h

  pub byte-same : (at : ℕ) → IsSame old new at 1 → byte new at ≡ byte old at
  byte-same at h = number-slice 1 old new at at h

  -- ---- the index

  -- the index is read in the same way, and its entries are kept
  pub record IndexStays (kind : ℕ) (index : Index) : Type 0 where
    pub opens : OpensIndex new kind index
    pub entries : AllByRecursion (λ e. IsSame old new e 8) index.entries

  each_shorter : (ps : List ℕ) → AllByRecursion (λ p. IsSame old new p index_node_size) ps → AllByRecursion (λ p. IsSame old new p 16) ps
  each_shorter [] a = tt
  each_shorter (p ∷ ps) a = (IsSame-part old new p index_node_size p 16 (omega arith) (omega arith) a.0, each_shorter ps a.1)

  each_further : (ps : List ℕ) → AllByRecursion (λ p. IsSame old new p index_node_size) ps → AllByRecursion (λ p. IsSame old new p 8) (map (λ p. p + 16) ps)
  each_further [] a = tt
  each_further (p ∷ ps) a = (IsSame-part old new p index_node_size (p + 16) 8 (omega arith) (omega arith) a.0, each_further ps a.1)

  pub OpensIndex-kept : (kind : ℕ) (index : Index) → IsSame old new 32 8 → AllByRecursion (KeepsBlock old new) index.blocks → OpensIndex old kind index → IndexStays kind index
  OpensIndex-kept zero index h ks o =
      let kept : AllByRecursion (KeepsBlock old new) (named old 32) = rw (ap (λ (i : Index). i.blocks) o.index_is) at ks in
      record {
        opens = record {
          named_room = NamesRoom-kept old new 32 _ 8 h kept o.named_room;
          none_if_empty = rw (cell-target old new 32 h, cell-count old new 32 h) o.none_if_empty;
          index_is = rw (cell-target old new 32 h, cell-count old new 32 h) o.index_is;
        };
        entries = rw (ap (λ (i : Index). i.entries) o.index_is) (spaced-same old new (start old 32) 8 (count_at old 32) (buffer-same old new (target old 32) _ (count_at old 32) 8 o.named_room kept));
      }
  OpensIndex-kept (suc kind) index h ks o =
      let nodes = nodes_of o.tree in
      let kept : AllByRecursion (KeepsBlock old new) (map block_of nodes) = rw (ap (λ (i : Index). i.blocks) o.index_is) at ks in
      let all : AllByRecursion (λ p. IsSame old new p index_node_size) nodes = nodes-same old new _ index_node_size nodes kept o.are_nodes in
      record {
        opens = record {
          tree = o.tree;
          is_tree = rw (cell-target old new 32 h) (IsTree-same old new (target old 32) o.tree (each_shorter nodes all) o.is_tree);
          red_black = o.red_black;
          counted = rw (cell-count old new 32 h) o.counted;
          are_nodes = nodes-kept old new _ index_node_size nodes kept o.are_nodes;
          index_is = o.index_is;
        };
        entries = rw (ap (λ (i : Index). i.entries) o.index_is) (each_further nodes all);
      }

  pub IsEntry-kept : (entry : ℕ) (root : Root) → IsSame old new entry 8 → IsEntry old entry root → IsEntry new entry root
  IsEntry-kept entry root h o = record {
    no_words = o.no_words;
    points = cell-target old new entry h ∙ o.points;
    counted = half-same (entry + 4) (IsSame-part old new entry 8 (entry + 4) 2 (omega arith) (omega arith) h) ∙ o.counted;
    measured = byte-same (entry + 6) (IsSame-part old new entry 8 (entry + 6) 1 (omega arith) (omega arith) h) ∙ o.measured;
    zero_is = byte-same (entry + 7) (IsSame-part old new entry 8 (entry + 7) 1 (omega arith) (omega arith) h) ∙ o.zero_is;
    is_name = o.is_name;
    some = o.some;
    few = o.few;
  }

  pub AreEntries-kept : (entries : List ℕ) (roots : List Root) → AllByRecursion (λ e. IsSame old new e 8) entries → AreEntries old entries roots → AreEntries new entries roots
  AreEntries-kept [] [] h o = tt
  AreEntries-kept [] (root ∷ roots) h o = o
  AreEntries-kept (entry ∷ entries) [] h o = o
  AreEntries-kept (entry ∷ entries) (root ∷ roots) h o = (IsEntry-kept entry root h.0 o.0, AreEntries-kept entries roots h.1 o.1)

  pub ListsNames-kept : (names : List Root) (blocks : List ℕ) → IsSame old new 20 4 → IsSame old new 32 8 → AllByRecursion (KeepsBlock old new) blocks → ListsNames old names blocks → ListsNames new names blocks
  ListsNames-kept names blocks kind h ks l =
      let word_is : word new 20 ≡ word old 20 = number-slice 4 old new 20 20 kind in
      let stays = OpensIndex-kept (word old 20) l.index h (rw l.blocks_are at ks) l.opens in
      record {
        index = l.index;
        opens = rw word_is stays.opens;
        entries = AreEntries-kept l.index.entries names stays.entries l.entries;
        ascending = l.ascending;
        blocks_are = l.blocks_are;
      }

  pub ListsUniques-kept : (uniques : List Root) → IsSame old new uniques_start uniques_size → ListsUniques old uniques → ListsUniques new uniques
  ListsUniques-kept uniques h l = record {
    words = λ T less. target-same old new (unique_word T) (IsSame-part old new uniques_start uniques_size (unique_word T) 4 (omega arith) (omega arith) h) ∙ l.words T less;
    rising = l.rising;
  }

  -- ---- roots

  pub AreWords-kept : (words : List ℕ) (at : ℕ) → IsSame old new at (4 * length words) → AreWords old at words → AreWords new at words
  AreWords-kept [] at h o = tt
  AreWords-kept (w ∷ words) at h o = (
    word-same old new at (IsSame-part old new at (4 * length (w ∷ words)) at 4 (omega arith) (omega arith) h) ∙ o.0,
    AreWords-kept words (at + 4) (IsSame-part old new at (4 * length (w ∷ words)) (at + 4) (4 * length words) (omega arith) (omega arith) h) o.1,
  )

  module _ (table : Table) (valid : IsTable table) where
    pub HoldsRoot-kept : (root : Root) (blocks : List ℕ) → AllByRecursion (KeepsBlock old new) blocks → HoldsRoot old table root blocks → HoldsRoot new table root blocks
    HoldsRoot-kept root blocks ks o =
        let p = payload_of root in
        let kept : AllByRecursion (KeepsBlock old new) (block_of p ∷ o.inside) = rw o.blocks_are at ks in
        let w = words_size root in
        let n = count root.values * size table root.type in
        let before : w ≤ root.at = o.before in
        let room : IsSame old new p (w + (n + length root.name)) = payload-same old new p _ (w + (n + length root.name)) kept.0 o.block in
        record {
          before = o.before;
          block = IsBlock-kept old new p _ (w + (n + length root.name)) kept.0 o.block;
          words_are = AreWords-kept root.words p (IsSame-part old new p (w + (n + length root.name)) p w (omega arith) (omega arith) room) o.words_are;
          name_is = IsSame-part old new p (w + (n + length root.name)) (root.at + n) (length root.name) (omega arith) (omega arith) room ∙ o.name_is;
          inside = o.inside;
          values = HoldsEach-kept old new table valid o.values (places-same old new table valid root.type _
              (spaced-same old new root.at (size table root.type) (count root.values) (IsSame-part old new p (w + (n + length root.name)) root.at n (omega arith) (omega arith) room))) kept.1;
          blocks_are = o.blocks_are;
        }

    pub HoldsRoots-kept : {roots : List Root} {blocks : List ℕ} → HoldsRoots old table roots blocks → AllByRecursion (KeepsBlock old new) blocks → HoldsRoots new table roots blocks
    HoldsRoots-kept holds_no_root ks = holds_no_root
    HoldsRoots-kept (holds_more_roots {root = root} {blocks = blocks} {rest = rest} o os) ks =
        holds_more_roots (HoldsRoot-kept root blocks (each_left _ blocks rest ks) o) (HoldsRoots-kept os (each_right _ blocks rest ks))
