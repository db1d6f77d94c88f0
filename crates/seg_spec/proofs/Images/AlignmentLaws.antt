-- If the blocks of a value are at multiples of 8, as allocated blocks are, so is each place that a
-- path refers to.
use Rattle.std.proofs.Common.{◌≡◌, ℕ, zero, suc, ◌+◌, ◌*◌, ◌%◌, ◌<◌, List, [], ◌∷◌, ◌++◌, map, Option, Some, None, unwrap_or, option_to_list, option_map, MatchOption, refl, sym, subst, arith}
use Rattle.std.specs.List.{AllByRecursion}
use Rattle.seg_spec.specs.Types.{Form, Table, size, IsTable}
use Rattle.seg_spec.specs.Value.{Value, count, Selector}
use Rattle.seg_spec.specs.Block.{IsBlock, block_of}
use Rattle.seg_spec.specs.Shapes.{nodes_of}
use Rattle.seg_spec.specs.Reads.{Place, Opened, spaced, places_of, items, fields, AreNodes, Opens, Holds, Leads, here, into, map_words}
use Rattle.seg_spec.specs.Index.{Root}
use Rattle.seg_spec.specs.Sound.{HoldsRoot}
use Rattle.seg_spec.specs.Roots.{item_of}
use Rattle.seg_spec.proofs.Values.PlaceFrameLaws.{each_left, each_right}
use Rattle.seg_spec.proofs.Values.PathSplitLaws.{opened_as, middle}
use Rattle.seg_spec.proofs.Values.PathFrameLaws.{each_at}
use Rattle.seg_spec.proofs.Values.CellChangeLaws.{size_aligned}
use Rattle.seg_spec.proofs.Images.PlainRootLaws.{plain_of}
use Rattle.seg_spec.proofs.Images.RootPartLaws.{items_nth}

-- ---- positions, and places at them

abbrev pub Aligned : ℕ → Type 0
Aligned p = p % 8 ≡ 0

abbrev pub AreAligned : List ℕ → Type 0
AreAligned ps = AllByRecursion Aligned ps

abbrev AlignedPlaces : List Place → Type 0
AlignedPlaces places = AllByRecursion (λ q. Aligned q.at) places

spaced_aligned : (at step n : ℕ) → Aligned at → Aligned step → AreAligned (spaced at step n)
spaced_aligned at step zero a b = tt
spaced_aligned at step (suc n) a b = (a, spaced_aligned (at + step) step n (omega arith) b)

places_aligned : (U : ℕ) (ps : List ℕ) → AreAligned ps → AlignedPlaces (places_of U ps)
places_aligned U [] a = tt
places_aligned U (p ∷ ps) a = (a.0, places_aligned U ps a.1)

further_aligned : (more : ℕ) (ps : List ℕ) → Aligned more → AreAligned ps → AreAligned (map (λ p. p + more) ps)
further_aligned more [] m a = tt
further_aligned more (p ∷ ps) m a = ((let e = a.0 in omega arith), further_aligned more ps m a.1)

-- ---- from blocks to the values in them

start_aligned : (bytes : List ℕ) (o : Option ℕ) (n kind each : ℕ) → MatchOption o (n ≡ 0) (λ p. IsBlock bytes p kind (n * each)) → AreAligned (option_to_list (option_map block_of o)) → Aligned (unwrap_or o 0)
start_aligned bytes None n kind each r a = refl
start_aligned bytes (Some p) n kind each r a = let e = a.0 in let low = r.after_header in omega arith

nodes_aligned : (bytes : List ℕ) (kind each : ℕ) (nodes : List ℕ) → AreNodes bytes kind each nodes → AreAligned (map block_of nodes) → AreAligned nodes
nodes_aligned bytes kind each [] r a = tt
nodes_aligned bytes kind each (p ∷ ps) r a = ((let e = a.0 in let low = r.0.after_header in omega arith), nodes_aligned bytes kind each ps r.1 a.1)

module _ (bytes : List ℕ) (table : Table) (valid : IsTable table) where
  items_aligned : (at U n : ℕ) → Aligned at → AlignedPlaces (items table at U n)
  items_aligned at U n a = places_aligned U (spaced at (size table U) n) (spaced_aligned at (size table U) n a (size_aligned table valid U))

  fields_aligned : (at : ℕ) (Us : List ℕ) → Aligned at → AlignedPlaces (fields table at Us)
  fields_aligned at [] a = tt
  fields_aligned at (U ∷ Us) a = (a, fields_aligned (at + size table U) Us (let e = size_aligned table valid U in omega arith))

  same_parts : (a b : Opened) → a ≡ b → (AreAligned b.blocks → AlignedPlaces b.parts) → AreAligned a.blocks → AlignedPlaces a.parts
  same_parts a b e f = subst (λ (o : Opened). AreAligned o.blocks → AlignedPlaces o.parts) (sym e) f

  -- the parts of an aligned place are aligned
  parts_aligned : (place : Place) (form : Form) (opened : Opened) → Opens bytes table place form opened → Aligned place.at → AreAligned opened.blocks → AlignedPlaces opened.parts
  parts_aligned place Form.i64 opened o a = same_parts _ _ o (λ b. tt)
  parts_aligned place Form.str opened o a = same_parts _ _ o.opened_is (λ b. tt)
  parts_aligned place (Form.vec U) opened o a = same_parts _ _ o.opened_is (λ b. items_aligned _ U _ (start_aligned bytes _ _ _ _ o.named_room b))
  parts_aligned place (Form.list U) opened o a = same_parts _ _ o.opened_is (λ b. places_aligned U _ (further_aligned 8 o.nodes refl (nodes_aligned bytes _ _ o.nodes o.are_nodes b)))
  parts_aligned place (Form.flat_map U) opened o a = same_parts _ _ o.opened_is (λ b. places_aligned U _ (further_aligned 8 _ refl
      (spaced_aligned _ (8 + size table U) _ (start_aligned bytes _ _ _ _ o.named_room b) (let e = size_aligned table valid U in omega arith))))
  parts_aligned place (Form.map U) opened o a = same_parts _ _ o.opened_is (λ b. places_aligned U _ (further_aligned map_words (nodes_of o.tree) refl (nodes_aligned bytes _ _ (nodes_of o.tree) o.are_nodes b)))
  parts_aligned place (Form.own U) opened o a = same_parts _ _ o.opened_is (λ b. items_aligned _ U _ (start_aligned bytes _ _ _ _ o.named_room b))
  parts_aligned place (Form.shared U) opened o a = same_parts _ _ o.opened_is (λ b. tt)
  parts_aligned place (Form.struct Us) opened o a = same_parts _ _ o (λ b. fields_aligned place.at Us a)

  -- a path from an aligned place ends at an aligned place
  pub leads_aligned : {place inner : Place} {path : List Selector} {v : Value} {blocks : List ℕ} → Leads bytes table place path inner → Holds bytes table place v blocks → Aligned place.at → AreAligned blocks → Aligned inner.at
  leads_aligned here h a b = a
  leads_aligned {place = place} (into form opened i part f o index part_is rest) h a b =
      let opens_as = opened_as bytes table form opened f o h in
      let all : AreAligned (opened.blocks ++ opens_as.owned) = subst AreAligned opens_as.blocks_are b in
      let parts = parts_aligned place form opened o a (each_left _ opened.blocks opens_as.owned all) in
      let m = middle bytes table opens_as.each i part part_is in
      let inside : AreAligned (m.xs ++ (m.zs ++ m.ys)) = subst AreAligned m.blocks_are (each_right _ opened.blocks opens_as.owned all) in
      leads_aligned rest m.holds_it (each_at (λ (q : Place). Aligned q.at) opened.parts i part parts part_is) (each_left _ m.zs m.ys (each_right _ m.xs (m.zs ++ m.ys) inside))

  -- a path from an item of a root without words before its values ends at an aligned place
  pub root_aligned : (root : Root) (blocks : List ℕ) → root.words ≡ [] → HoldsRoot bytes table root blocks → AreAligned blocks → (j : ℕ) → j < count root.values
      → {path : List Selector} {inner : Place} → Leads bytes table (item_of table root j) path inner → Aligned inner.at
  root_aligned root blocks no_words h b j within leads =
      let o = plain_of bytes table root blocks no_words h in
      let all : AreAligned (block_of root.at ∷ o.inside) = subst AreAligned o.blocks_are b in
      let start : Aligned root.at = (let e = all.0 in let low = o.block.after_header in omega arith) in
      let part_is = items_nth table root.at root.type (count root.values) j within in
      let m = middle bytes table o.values j (item_of table root j) part_is in
      let inside : AreAligned (m.xs ++ (m.zs ++ m.ys)) = subst AreAligned m.blocks_are all.1 in
      leads_aligned leads m.holds_it (each_at (λ (q : Place). Aligned q.at) _ j (item_of table root j) (items_aligned root.at root.type (count root.values) start) part_is)
      (each_left _ m.zs m.ys (each_right _ m.xs (m.zs ++ m.ys) inside))
