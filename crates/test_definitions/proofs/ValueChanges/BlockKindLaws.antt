-- The blocks of a value have the tags of buffers, of nodes, and of objects without a name. A property
-- of these tags is a property of each block of a value.
use Rattle.std.proofs.Common.{◌≡◌, ℕ, ◌*◌, List, [], ◌∷◌, map, Option, Some, None, option_to_list, option_map, MatchOption, sym, ap, subst}
use Rattle.std.specs.List.{AllByRecursion}
use Rattle.seg_spec.specs.Pointer.{target}
use Rattle.seg_spec.specs.Types.{Form, Table}
use Rattle.seg_spec.specs.Value.{Value, Values}
use Rattle.seg_spec.specs.Heap.{tag_at}
use Rattle.seg_spec.specs.Block.{IsBlock, block_of, Kind, tag_of}
use Rattle.seg_spec.specs.Shapes.{nodes_of}
use Rattle.seg_spec.specs.Reads.{Place, Opened, Opens, Holds, holds, HoldsEach, holds_none, holds_more, count_at, named, NamesRoom, AreNodes}
use Rattle.seg_spec.specs.Index.{Root}
use Rattle.seg_spec.specs.Sound.{HoldsRoot, HoldsRoots, holds_no_root, holds_more_roots, kind_with}
use Rattle.seg_spec.proofs.Images.LooseRootLaws.{each_joined}

-- the tags of a value's blocks have the property
pub record OfValues (P : ℕ → Type 0) : Type 0 where
  pub buffer : (T : ℕ) → P (tag_of Kind.buffer T)
  pub node : (T : ℕ) → P (tag_of Kind.node T)
  pub object : (T : ℕ) → P (tag_of Kind.object T)

module _ (bytes : List ℕ) (P : ℕ → Type 0) where
  -- the block's tag has the property
  abbrev pub Tagged : ℕ → Type 0
  Tagged h = P (tag_at bytes h)

  pub tagged : (p tag size : ℕ) → P tag → IsBlock bytes p tag size → Tagged (block_of p)
  tagged p tag size so b = subst P (sym b.has_tag) so

  pub named_tagged : (at tag each : ℕ) → P tag → NamesRoom bytes at tag each → AllByRecursion Tagged (named bytes at)
  named_tagged at tag each so r = go (target bytes at) r
    where
      go : (t : Option ℕ) → MatchOption t (count_at bytes at ≡ 0) (λ p. IsBlock bytes p tag (count_at bytes at * each)) → AllByRecursion Tagged (option_to_list (option_map block_of t))
      go None r = tt
      go (Some p) r = (tagged p tag (count_at bytes at * each) so r, tt)

  pub nodes_tagged : (tag each : ℕ) → P tag → (nodes : List ℕ) → AreNodes bytes tag each nodes → AllByRecursion Tagged (map block_of nodes)
  nodes_tagged tag each so [] a = tt
  nodes_tagged tag each so (p ∷ ps) a = (tagged p tag each so a.0, nodes_tagged tag each so ps a.1)

  of_blocks : {opened is : Opened} → opened ≡ is → AllByRecursion Tagged is.blocks → AllByRecursion Tagged opened.blocks
  of_blocks e a = subst (AllByRecursion Tagged) (sym (ap (λ (o : Opened). o.blocks) e)) a

  module _ (of : OfValues P) (table : Table) where
    pub opened_tagged : (place : Place) (form : Form) (opened : Opened) → Opens bytes table place form opened → AllByRecursion Tagged opened.blocks
    opened_tagged place Form.i64 opened o = of_blocks o tt
    opened_tagged place Form.str opened o = of_blocks o.opened_is (named_tagged place.at _ 1 (of.buffer place.type) o.named_room)
    opened_tagged place (Form.vec U) opened o = of_blocks o.opened_is (named_tagged place.at _ _ (of.buffer place.type) o.named_room)
    opened_tagged place (Form.list U) opened o = of_blocks o.opened_is (nodes_tagged _ _ (of.node place.type) o.nodes o.are_nodes)
    opened_tagged place (Form.flat_map U) opened o = of_blocks o.opened_is (named_tagged place.at _ _ (of.buffer place.type) o.named_room)
    opened_tagged place (Form.map U) opened o = of_blocks o.opened_is (nodes_tagged _ _ (of.node place.type) (nodes_of o.tree) o.are_nodes)
    opened_tagged place (Form.own U) opened o = of_blocks o.opened_is (named_tagged place.at _ _ (of.object U) o.named_room)
    opened_tagged place (Form.struct Us) opened o = of_blocks o tt
    opened_tagged place (Form.shared U) opened o = of_blocks o.opened_is tt

    mutual
      pub value_tagged : {place : Place} {v : Value} {blocks : List ℕ} → Holds bytes table place v blocks → AllByRecursion Tagged blocks
      value_tagged {place = place} (holds form opened inside owned f o hs v_is is) =
          subst (AllByRecursion Tagged) (sym is) (each_joined Tagged opened.blocks owned (opened_tagged place form opened o) (each_tagged hs))

      pub each_tagged : {places : List Place} {vs : Values} {blocks : List ℕ} → HoldsEach bytes table places vs blocks → AllByRecursion Tagged blocks
      each_tagged holds_none = tt
      each_tagged (holds_more {blocks = xs} {owned = ys} h hs) = each_joined Tagged xs ys (value_tagged h) (each_tagged hs)

    -- the tag of a root's own block
    abbrev pub RootTagged : Root → Type 0
    RootTagged root = P (tag_of (kind_with root.words root.name) root.type)

    pub root_tagged : (root : Root) (blocks : List ℕ) → RootTagged root → HoldsRoot bytes table root blocks → AllByRecursion Tagged blocks
    root_tagged root blocks so h = subst (AllByRecursion Tagged) (sym h.blocks_are) (tagged _ _ _ so h.block, each_tagged h.values)

    pub roots_tagged : {roots : List Root} {blocks : List ℕ} → AllByRecursion RootTagged roots → HoldsRoots bytes table roots blocks → AllByRecursion Tagged blocks
    roots_tagged a holds_no_root = tt
    roots_tagged a (holds_more_roots {root = root} {blocks = xs} {rest = ys} h hs) = each_joined Tagged xs ys (root_tagged root xs a.0 h) (roots_tagged a.1 hs)
