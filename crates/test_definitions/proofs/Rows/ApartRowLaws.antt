-- The image after an instruction that changes one place and moves an object: an object that stays has its
-- face, each frozen object was there before, and so was each node of a tree index.
use Rattle.std.proofs.Common.{◌≡◌, ◌≢◌, ℕ, ◌≤◌, ◌⊎◌, inl, inr, List, length, Some, sym, ap, ◌∙◌, subst, arith}
use Rattle.std.specs.List.{AllByRecursion}
use Rattle.std.proofs.lemmas.Bool.{cases_eq}
use Rattle.seg_spec.specs.Bytes.{word}
use Rattle.seg_spec.specs.Header.{allocator_word, next_word, index_kind_word}
use Rattle.seg_spec.specs.Types.{Table}
use Rattle.seg_spec.specs.Value.{Value, count}
use Rattle.seg_spec.specs.Heap.{live, tag_at}
use Rattle.seg_spec.specs.Block.{block_of, tag_of, Kind, KeepsBlock}
use Rattle.seg_spec.specs.Reads.{Place, Holds, HoldsEach, items}
use Rattle.seg_spec.specs.Apart.{KeepsBlockAround}
use Rattle.seg_spec.specs.Index.{Root}
use Rattle.seg_spec.specs.Frozen.{Frozen, root_of_frozen}
use Rattle.seg_spec.specs.Sound.{Picture, IsHeld, IsPlain, HoldsRoot, kind_with, payload_of, times, positions}
use Rattle.seg_spec.specs.Shared.{names_in, names_each, IsBelow, with_count}
use Rattle.seg_spec.specs.Counting.{cells_in, owners_in}
use Rattle.seg_spec.specs.Roots.{HasFace}
use Rattle.seg_spec.proofs.Heap.LiveBlockLaws.{there, live-once, times-more}
use Rattle.seg_spec.proofs.Values.OneValueLaws.{HoldsEach-one}
use Rattle.seg_spec.proofs.Values.PlaceFrameLaws.{each_weaker}
use Rattle.client_spec.specs.Machine.{Path, State, at_origin}
use Rattle.client_spec.specs.Pictures.{Pictures, LeadsInImage}
use Rattle.client_spec.specs.Ties.{FrozenKept}
use Rattle.test_definitions.proofs.Alike.AlikeChangeLaws.{all_fit}
use Rattle.test_definitions.proofs.ValueChanges.ApartPlaceLaws.{KeepsApart, each_staying, tag_stays, now_there, now_below}
use Rattle.test_definitions.proofs.Rows.ChangedPlaceRowLaws.{CellsWithin, all_cells, cells_of, node_tags, of_index, same_members}
use Rattle.test_definitions.proofs.Frozen.FreedBlockLaws.{frozen_by, its_fewer}
use Rattle.test_definitions.proofs.Frozen.FrozenApartLaws.{frozen_apart, owner_in_roots}
use Rattle.test_definitions.proofs.Frozen.FrozenOrderLaws.{IsOneOf, each_of}
use Rattle.test_definitions.proofs.Frozen.FrozenStayLaws.{SameContent}
use Rattle.test_definitions.proofs.ValueChanges.PersistAlikeLaws.{Fits}
use Rattle.test_definitions.proofs.Frozen.ReachedFrozenLaws.{StandsAt, below_stands, all_reached}
use Rattle.test_definitions.proofs.Alike.RootMemberLaws.{IsAmong, counts, owns}

-- ---- the nodes of an index

-- the nodes of a tree index were there before, if all that were there are kept
pub nodes_before : (old new : List ℕ) (p q : Picture) (held : IsHeld old p) (held_now : IsHeld new q) → word new index_kind_word ≡ word old index_kind_word → AllByRecursion (KeepsBlock old new) held.index_blocks
    → ((h : ℕ) → 1 ≤ times h held.index_blocks → 1 ≤ times h (positions (live new))) → length q.names ≡ length p.names → (word old index_kind_word ≡ 0 → ⊥) → (h : ℕ) → 1 ≤ times h held_now.index_blocks → 1 ≤ times h held.index_blocks
nodes_before old new p q held held_now kinds kept lives long tree h some =
    let mine = node_tags old p held tree in
    let theirs = node_tags new q held_now (λ e. tree (sym kinds ∙ e)) in
    same_members held.index_blocks held_now.index_blocks (λ k. still k (cases_eq (times k held.index_blocks) 0) mine.0) (theirs.1 ∙ long ∙ sym mine.1) h some
  where
    still : (k : ℕ) → (times k held.index_blocks ≡ 0) ⊎ (times k held.index_blocks ≢ 0) → AllByRecursion (λ h. tag_at old h ≡ tag_of Kind.index_node 0) held.index_blocks → times k held.index_blocks ≤ times k held_now.index_blocks
    still k (inl none) ts = omega (arith, none)
    still k (inr more) ts =
        let some_k : 1 ≤ times k held.index_blocks = omega (arith, more) in
        let tag : tag_at new k ≡ tag_of Kind.index_node 0 = (there (KeepsBlock old new) k held.index_blocks kept some_k).has_tag ∙ there (λ h. tag_at old h ≡ tag_of Kind.index_node 0) k held.index_blocks ts some_k in
        let there_is = of_index new q held_now 6 (omega arith, omega arith) k (lives k some_k) (omega (arith, tag)) in
        omega (arith, there_is, counts old p held k, live-once old (word old allocator_word) held.laid_out.heap k)

-- ---- frozen objects

module _ {others : List Root} {s s' : State} {old new : List ℕ} (p : Pictures others s old) (p' : Pictures others s' new) (frozen : FrozenKept old new p.picture.table p.picture.frozen p'.picture.frozen) where
  -- what is kept of a frozen object that stays
  object_kept : (f g : Frozen) → IsOneOf f p.picture.frozen → IsOneOf g p'.picture.frozen → g.at ≡ f.at → (g ≡ with_count f g.count) × AllByRecursion (KeepsBlockAround old new f.at 4) (frozen.theirs f.at)
  object_kept f g i j at =
      each_of (λ (y : Frozen). y.at ≡ f.at → (y ≡ with_count f y.count) × AllByRecursion (KeepsBlockAround old new f.at 4) (frozen.theirs f.at)) g p'.picture.frozen j
      (each_of (λ (x : Frozen). AllByRecursion (λ (y : Frozen). y.at ≡ x.at → (y ≡ with_count x y.count) × AllByRecursion (KeepsBlockAround old new x.at 4) (frozen.theirs x.at)) p'.picture.frozen) f p.picture.frozen i frozen.each) at

  pub content_stays : (f g : Frozen) → IsOneOf f p.picture.frozen → IsOneOf g p'.picture.frozen → g.at ≡ f.at → SameContent f g
  content_stays f g i j at =
      let same = (object_kept f g i j at).0 in
      record { at = at; type = ap (λ (x : Frozen). x.type) same; number = ap (λ (x : Frozen). x.number) same; value = ap (λ (x : Frozen). x.value) same }

  pub blocks_kept : (f g : Frozen) → IsOneOf f p.picture.frozen → IsOneOf g p'.picture.frozen → g.at ≡ f.at → AllByRecursion (KeepsBlockAround old new f.at 4) (frozen.theirs f.at)
  blocks_kept f g i j at = (object_kept f g i j at).1

  pub held_before : (f : Frozen) → IsOneOf f p.picture.frozen → HoldsRoot old p.picture.table (root_of_frozen f) (frozen.theirs f.at)
  held_before f i = each_of (λ (x : Frozen). HoldsRoot old p.picture.table (root_of_frozen x) (frozen.theirs x.at)) f p.picture.frozen i frozen.holds

  pub blocks_live : (f : Frozen) → IsOneOf f p.picture.frozen → (h : ℕ) → times h (frozen.theirs f.at) ≤ times h (positions (live old))
  blocks_live f i h =
      let apart = frozen_apart old p.picture p.held in
      let all = frozen_by old p.picture.table frozen.theirs p.picture.frozen apart.frozen apart.holds_frozen frozen.holds in
      omega (arith, its_fewer frozen.theirs f p.picture.frozen i h, ap (times h) all, apart.counts h)

  pub stand_before : (n : ℕ) (cells : List Place) → AllByRecursion (IsBelow n p.picture.frozen) cells → AllByRecursion (λ (z : Place). StandsAt z.at p.picture.frozen) cells
  stand_before n cells a = each_weaker (IsBelow n p.picture.frozen) (λ (z : Place). StandsAt z.at p.picture.frozen) (λ z b. (below_stands n p.picture.frozen z b).0) cells a

  -- If the cells of all other objects point to objects of a list, there are no other frozen objects. The list has
  -- the contents of those that there are.
  pub frozen_within : (n : ℕ) (base : List Frozen) → AllByRecursion (λ (g : Frozen). AllByRecursion (λ (z : Place). StandsAt z.at base) (names_in g.value)) base
      → ((f g : Frozen) → IsOneOf f p'.picture.frozen → IsOneOf g base → f.at ≡ g.at → f.value ≡ g.value) → ((a : Root) → IsAmong a (owners_in p'.picture) → AllByRecursion (IsBelow n base) (names_each a.values))
      → (f : Frozen) → IsOneOf f p'.picture.frozen → StandsAt f.at base
  frozen_within n base falls content within f i =
      let stand = λ (cells : List Place) (a : AllByRecursion (IsBelow n base) cells). each_weaker (IsBelow n base) (λ (z : Place). StandsAt z.at base) (λ z b. (below_stands n base z b).0) cells a in
      let cells = all_cells (λ (z : Place). StandsAt z.at base) (owners_in p'.picture) (λ a j. stand (names_each a.values) (within a j)) in
      all_reached (word new next_word) p'.picture.frozen (cells_in (owners_in p'.picture)) p'.counted.counted base falls cells content f i

  pub frozen_fall : AllByRecursion (λ (g : Frozen). AllByRecursion (λ (z : Place). StandsAt z.at p.picture.frozen) (names_in g.value)) p.picture.frozen
  frozen_fall = each_weaker (λ (g : Frozen). AllByRecursion (IsBelow g.number p.picture.frozen) (names_in g.value)) _ (λ g a. stand_before g.number (names_in g.value) a) p.picture.frozen p.counted.counted.falling

  -- if they point to frozen objects that there were, there are no more of them
  pub frozen_were : ((a : Root) → IsAmong a (owners_in p'.picture) → AllByRecursion (IsBelow (word old next_word) p.picture.frozen) (names_each a.values)) → (f : Frozen) → IsOneOf f p'.picture.frozen → StandsAt f.at p.picture.frozen
  frozen_were = frozen_within (word old next_word) p.picture.frozen frozen_fall (λ g k i j e. (content_stays k g j i e).value)

-- ---- objects that stay

module _ {others : List Root} {s s' : State} {old : List ℕ} (p : Pictures others s old) (new : List ℕ) (path : Path) (place : Place) (l : LeadsInImage p path place) (found : Value × ℕ) (begins : at_origin s path.origin ≡ Some found)
    {value : Value} (its : List ℕ) (holds_it : Holds old p.picture.table place value its) (moved : List ℕ) (Stays : Root → Type 0) (kept : KeepsApart p new place its moved Stays) (own : Stays l.root) (p' : Pictures others s' new)
    (tables : p'.picture.table ≡ p.picture.table) where
  pub held_now : (a : Root) → IsAmong a (owners_in p'.picture) → (blocks : List ℕ) × HoldsRoot new p'.picture.table a blocks
  held_now a i = (let o = owns new p'.picture p'.held a p'.held.roots (owner_in_roots p'.picture a i) in (o.its, o.holds_it))

  -- its values, at the places of an object with its face
  pub faced_values : (c a : Root) → HasFace c a → IsAmong a (owners_in p'.picture) → (inside : List ℕ) × HoldsEach new p.picture.table (items p.picture.table c.at c.type (count c.values)) a.values inside × AllByRecursion (Fits new) inside
  faced_values c a f i =
      let o = owns new p'.picture p'.held a p'.held.roots (owner_in_roots p'.picture a i) in
      let inside = o.holds_it.inside in
      let moved_here = subst (λ (z : Table). HoldsEach new z (items z a.at a.type (count a.values)) a.values inside) tables o.holds_it.values in (
        inside,
        subst (λ ps. HoldsEach new p.picture.table ps a.values inside) (λ j. items p.picture.table (f.same_at j) (f.same_type j) (f.same_count j)) moved_here,
        all_fit new p'.picture p'.held inside (λ h. (
            let e = ap (times h) o.holds_it.blocks_are in
            omega (arith, o.fewer h, e, times-more h (block_of (payload_of a)) inside))),
      )

  -- an object at the position of a plain object that stays has its face
  pub plain_face : (c a : Root) → Stays c → IsPlain c → IsPlain a → a.at ≡ c.at → IsAmong a (owners_in p'.picture) → HasFace c a
  plain_face c a i pc pa at j =
      let o = owns old p.picture p.held c p.held.roots (owner_in_roots p.picture c (kept.owner c i)) in
      let h = held_now a j in
      let mine : payload_of c ≡ c.at = (let e = ap length pc.no_words in omega (arith, e)) in
      let theirs : payload_of a ≡ a.at = (let e = ap length pa.no_words in omega (arith, e)) in
      let tag_c : tag_at old (block_of (payload_of c)) ≡ tag_of Kind.object c.type = o.holds_it.block.has_tag ∙ (λ j. tag_of (kind_with (pc.no_words j) (pc.no_name j)) c.type) in
      let tag_a : tag_at new (block_of (payload_of a)) ≡ tag_of Kind.object a.type = h.1.block.has_tag ∙ (λ j. tag_of (kind_with (pa.no_words j) (pa.no_name j)) a.type) in
      let same : tag_at new (block_of (payload_of a)) ≡ tag_at new (block_of (payload_of c)) = ap (λ n. tag_at new (block_of n)) (theirs ∙ at ∙ sym mine) in
      let tags : tag_of Kind.object a.type ≡ tag_of Kind.object c.type = sym tag_a ∙ same ∙ tag_stays p new path place l found begins its holds_it moved Stays kept own c i ∙ tag_c in
      record {
        same_name = pa.no_name ∙ sym pc.no_name;
        same_words = pa.no_words ∙ sym pc.no_words;
        same_at = at;
        same_type = omega (arith, tags);
        same_count = ap count pa.values_are ∙ sym (ap count pc.values_are);
      }

  -- its shared cells point to objects of a list that has the frozen objects that there were, if the cells of the place's
  -- new value do
  pub cells_within : (n : ℕ) (fs : List Frozen) → ((z : Place) → IsBelow (word old next_word) p.picture.frozen z → IsBelow n fs z)
      → ((w : Value) (news : List ℕ) → Holds new p.picture.table place w news → AllByRecursion (IsBelow n fs) (names_in w)) → (c a : Root) → Stays c → HasFace c a → IsAmong a (owners_in p'.picture)
      → AllByRecursion (IsBelow n fs) (names_each a.values)
  cells_within n fs lift cells c a i f j =
      let here = faced_values c a f j in
      let named = each_weaker (IsBelow (word old next_word) p.picture.frozen) (IsBelow n fs) lift (names_each c.values)
      (cells_of (IsBelow (word old next_word) p.picture.frozen) (owners_in p.picture) c p.counted.counted.named (kept.owner c i)) in
      elim (each_staying p new path place l found begins its holds_it moved Stays kept own c i) [
        | inl e ↦ (
            let mine = subst (λ (x : Root). HoldsEach new p.picture.table (items p.picture.table x.at x.type (count x.values)) a.values here.0) e here.1 in
            let k = now_there p new path place l found begins its holds_it moved Stays kept own mine here.2 in
            now_below p new path place l found begins its holds_it moved Stays kept own k n fs (subst (λ (x : Root). AllByRecursion (IsBelow n fs) (names_each x.values)) e named) (cells k.now k.news k.holds_now))
        | inr o ↦ subst (λ vs. AllByRecursion (IsBelow n fs) (names_each vs)) (HoldsEach-one new p.picture.table o.then_holds.values here.1).0 named
      ]

  pub cells_below : CellsWithin p new place → (c a : Root) → Stays c → HasFace c a → IsAmong a (owners_in p'.picture) → AllByRecursion (IsBelow (word old next_word) p.picture.frozen) (names_each a.values)
  cells_below cells = cells_within (word old next_word) p.picture.frozen (λ z b. b) cells
