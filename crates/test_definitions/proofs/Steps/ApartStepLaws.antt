-- Two images that are alike, in which an instruction changed the same place and moved the same object: the
-- objects that stay match, and so do the frozen objects that there were, and the nodes of a tree index.
use Rattle.std.proofs.Common.{◌≡◌, ℕ, ◌+◌, ◌≤◌, ◌⊎◌, inl, inr, List, ◌++◌, Option, Some, sym, ap, ◌∙◌, subst}
use Rattle.std.specs.List.{AllByRecursion}
use Rattle.seg_spec.specs.Bytes.{word}
use Rattle.seg_spec.specs.Header.{allocator_word, next_word, index_kind_word}
use Rattle.seg_spec.specs.Types.{Table}
use Rattle.seg_spec.specs.Value.{Value, Values, count}
use Rattle.seg_spec.specs.Block.{block_of, KeepsBlock}
use Rattle.seg_spec.specs.Reads.{Place, Holds, HoldsEach, items}
use Rattle.seg_spec.specs.Parts.{PersistEach}
use Rattle.seg_spec.specs.Index.{Root}
use Rattle.seg_spec.specs.Frozen.{Frozen, root_of_frozen}
use Rattle.seg_spec.specs.Sound.{HoldsRoot, frozen_roots, roots_of, times}
use Rattle.seg_spec.specs.Counting.{AreCounted}
use Rattle.seg_spec.specs.Roots.{SamePicture, HasFace}
use Rattle.seg_spec.proofs.Heap.LiveBlockLaws.{there}
use Rattle.seg_spec.proofs.Frozen.ReleaseLaws.{frozen_there}
use Rattle.client_spec.specs.Machine.{Path, State, at_origin}
use Rattle.client_spec.specs.Pictures.{Pictures, LeadsInImage}
use Rattle.client_spec.specs.Ties.{places_of, FrozenKept}
use Rattle.client_sim.proofs.Names.OnePictureLaws.{Held-one}
use Rattle.test_definitions.specs.Alike.{AlikeAt, AlikeEach, AlikeRoot, AreAlike}
use Rattle.test_definitions.proofs.Alike.AlikeChangeLaws.{stays_alike, among_as, value_kept}
use Rattle.test_definitions.proofs.Alike.AlikePictureLaws.{SameEntries, entry_kept, entries_alike}
use Rattle.test_definitions.proofs.Alike.AlikeRootLaws.{both, roots_at}
use Rattle.test_definitions.proofs.ValueChanges.ApartPlaceLaws.{KeepsApart, Persisting, own_stays, each_staying, now_there}
use Rattle.test_definitions.proofs.Rows.ApartRowLaws.{content_stays, blocks_kept, held_before, blocks_live}
use Rattle.test_definitions.proofs.Frozen.FrozenApartLaws.{owner_in_roots}
use Rattle.test_definitions.proofs.Frozen.FrozenContentLaws.{inside_kept, value_same}
use Rattle.test_definitions.proofs.Frozen.FrozenOrderLaws.{IsOneOf}
use Rattle.test_definitions.proofs.Frozen.FrozenStayLaws.{SameContent, then_same}
use Rattle.test_definitions.proofs.Alike.MatchedPictureLaws.{Matched}
use Rattle.test_definitions.proofs.Rows.OneFrozenLaws.{Reordered, reordered, reordered_then, among_frozen}
use Rattle.test_definitions.proofs.Rows.OnePlaceLaws.{kinds as kinds_same}
use Rattle.test_definitions.proofs.Rows.OneReturnLaws.{one_index as same_index}
use Rattle.test_definitions.proofs.Rows.OneState.{as_pictured}
use Rattle.test_definitions.proofs.ValueChanges.PersistAlikeLaws.{Fits, persist_each_alike}
use Rattle.test_definitions.proofs.Frozen.ReachedFrozenLaws.{StandsAt}
use Rattle.test_definitions.proofs.Alike.RootMemberLaws.{IsAmong, each_among, among_right}
use Rattle.test_definitions.proofs.ValueChanges.RootPersistLaws.{RootStays}

module _ {others : List Root} {s s1 t1 : State} {places first second new other : List ℕ} (alike : AreAlike others places first second) (p : Pictures others s first) (q : Pictures others s second)
    (at : places_of p.owned ≡ places) (at_too : places_of q.owned ≡ places) (p' : Pictures others s1 new) (q' : Pictures others t1 other) where
  pub one_table : q.picture.table ≡ p.picture.table
  one_table = sym (both alike p q at at_too).same.table

  common : SamePicture p.picture alike.picture
  common = Held-one first p.picture alike.picture p.held alike.held

  to_alike : Reordered p.picture.frozen alike.picture.frozen
  to_alike = reordered first (word first next_word) p.picture alike.picture p.held alike.held p.counted alike.counted

  -- both images have the same frozen objects
  pub order : Reordered p.picture.frozen q.picture.frozen
  order = reordered_then to_alike (reordered second (word second next_word) alike.picture q.picture alike.held_too q.held (subst (λ n. AreCounted n alike.picture) (sym alike.next_same) alike.counted) q.counted)

  alike_loose : p.picture.loose ≡ alike.picture.loose
  alike_loose = p.loose ∙ ap (λ rs. others ++ rs) (as_pictured others places first second alike p q at at_too).1 ∙ sym alike.loose

  pub was_alike : (c : Root) → IsAmong c (roots_of p.picture) → AlikeRoot first second p.picture.table c
  was_alike c i = subst (λ (z : Table). AlikeRoot first second z c) (sym common.table) (each_among (AlikeRoot first second alike.picture.table) c (roots_of alike.picture)
      (among_as p.picture alike.picture common alike_loose to_alike.forth c i) alike.roots)

  -- ---- frozen objects that there were

  module _ (fx : FrozenKept first new p.picture.table p.picture.frozen p'.picture.frozen) (fz : FrozenKept second other q.picture.table q.picture.frozen q'.picture.frozen) where
    pub content_both : (f g : Frozen) → StandsAt f.at p.picture.frozen → IsOneOf f p'.picture.frozen → IsOneOf g q'.picture.frozen → g.at ≡ f.at → SameContent f g
    content_both f g was i j e =
        let mine = content_stays p p' fx was.object f was.among i (sym was.at_is) in
        let theirs = content_stays q q' fz was.object g (order.forth was.object was.among) j (e ∙ sym was.at_is) in
        then_same mine theirs

    frozen_in : (f : Frozen) → IsOneOf f p.picture.frozen → IsAmong (root_of_frozen f) (roots_of p.picture)
    frozen_in f i = (
        let r = p.picture in
        let root = root_of_frozen f in
        among_right root r.names (r.uniques ++ (r.loose ++ frozen_roots r)) (among_right root r.uniques (r.loose ++ frozen_roots r) (among_right root r.loose (frozen_roots r) (among_frozen f r.frozen i))))

    -- it opens as it did, since its blocks are kept except for its count
    pub opens_both : (f : Frozen) → StandsAt f.at p.picture.frozen → IsOneOf f p'.picture.frozen → IsOneOf f q'.picture.frozen → AlikeRoot new other p.picture.table (root_of_frozen f)
    opens_both f was i i_too =
        let k = was.object in
        let j = order.forth k was.among in
        let at_f = sym was.at_is in
        let there_x = held_before p p' fx k was.among in
        let there_z = subst (λ (z : Table). HoldsRoot second z (root_of_frozen k) (fz.theirs k.at)) one_table (held_before q q' fz k j) in
        let o = frozen_there first p.picture.table k (fx.theirs k.at) there_x in
        let u = frozen_there second p.picture.table k (fz.theirs k.at) there_z in
        let valid = p.held.laid_out.is_table in
        let heap = p.held.laid_out.heap in
        let heap_too = q.held.laid_out.heap in
        let owned = blocks_live p p' fx k was.among in
        let owned_too = blocks_live q q' fz k j in
        let around = blocks_kept p p' fx k f was.among i at_f in
        let around_too = blocks_kept q q' fz k f j i_too at_f in
        let inside = inside_kept (word first allocator_word) first new p.picture.table valid heap k (fx.theirs k.at) o owned around in
        let inside_too = inside_kept (word second allocator_word) second other p.picture.table valid heap_too k (fz.theirs k.at) u owned_too around_too in
        let same = value_same (word first allocator_word) first new p.picture.table valid heap k (fx.theirs k.at) o owned around in
        let same_too = value_same (word second allocator_word) second other p.picture.table valid heap_too k (fz.theirs k.at) u owned_too around_too in
        let after = value_kept first second new other p.picture.table valid k o u same same_too inside inside_too (was_alike (root_of_frozen k) (frozen_in k was.among)) in
        let what = content_stays p p' fx k f was.among i at_f in
        subst (λ (T : ℕ). AlikeEach new other p.picture.table (items p.picture.table (f.at + 8) T 1)) (sym what.type) (subst (λ n. AlikeEach new other p.picture.table (items p.picture.table (n + 8) k.type 1)) (sym what.at) after)

  -- ---- the index

  pub entries_both : word new index_kind_word ≡ word first index_kind_word → ((word first index_kind_word ≡ 0 → ⊥) → (h : ℕ) → 1 ≤ times h p'.held.index_blocks → 1 ≤ times h p.held.index_blocks)
      → AllByRecursion (KeepsBlock first new) p.held.index_blocks → AllByRecursion (KeepsBlock second other) q.held.index_blocks → (word new index_kind_word ≡ 0 → ⊥) → SameEntries new other p'.held.index_blocks
  entries_both kinds_new back whole whole_too tree node low some =
      let tree_first : word first index_kind_word ≡ 0 → ⊥ = λ e. tree (kinds_new ∙ e) in
      let kinds : word second index_kind_word ≡ word first index_kind_word = sym (kinds_same alike) in
      let was = back tree_first (block_of node) some in
      let both_there : 1 ≤ times (block_of node) alike.held.index_blocks = subst (λ bs. 1 ≤ times (block_of node) bs) (sym (same_index first alike.picture p.picture alike.held p.held)) was in
      let theirs : 1 ≤ times (block_of node) q.held.index_blocks = subst (λ bs. 1 ≤ times (block_of node) bs) (sym alike.index_same ∙ same_index second alike.picture q.picture alike.held_too q.held) both_there in
      entry_kept second other q.picture q.held (λ e. tree_first (sym kinds ∙ e)) node low theirs (there (KeepsBlock second other) (block_of node) q.held.index_blocks whole_too theirs) ∙ entries_alike alike tree_first node low both_there
      ∙ sym (entry_kept first new p.picture p.held tree_first node low was (there (KeepsBlock first new) (block_of node) p.held.index_blocks whole was))

  -- ---- objects that stay

  module _ (path : Path) (place : Place) (l : LeadsInImage p path place) (m : LeadsInImage q path place) (found : Value × ℕ) (begins : at_origin s path.origin ≡ Some found) {v v' : Value} (its its' : List ℕ)
      (hx : Holds first p.picture.table place v its) (hz : Holds second q.picture.table place v' its') (moved moved' : List ℕ) (Stays StaysToo : Root → Type 0) (kx : KeepsApart p new place its moved Stays)
      (kz : KeepsApart q other place its' moved' StaysToo) (ox : Stays l.root) (oz : StaysToo m.root)
      (inner : (a b : Value) (xs ys : List ℕ) → Holds new p.picture.table place a xs → AllByRecursion (Fits new) xs → Holds other p.picture.table place b ys → AllByRecursion (Fits other) ys → AlikeAt new other p.picture.table place) where
    -- both paths begin at one root
    begin_one : (l.root ≡ m.root) × (l.item ≡ m.item)
    begin_one = (
        let e : ◌≡◌ {A = Option (Root × ℕ)} (Some (l.root, l.item)) (Some (m.root, m.item)) = sym l.begins ∙ roots_at alike p q at at_too path.origin ∙ m.begins in
        let pair : ◌≡◌ {A = Root × ℕ} (l.root, l.item) (m.root, m.item) = cc in
        (ap (λ (x : Root × ℕ). x.0) pair, ap (λ (x : Root × ℕ). x.1) pair))

    stays_first : RootStays first new p.picture.table l.root l.item path.selectors place
    stays_first = own_stays p new path place l found begins its hx moved Stays kx ox

    stays_second : RootStays second other p.picture.table l.root l.item path.selectors place
    stays_second = (
        let r = own_stays q other path place m found begins its' hz moved' StaysToo kz oz in
        subst (λ (z : Table). RootStays second other z l.root l.item path.selectors place) one_table
        (subst (λ k. RootStays second other q.picture.table l.root k path.selectors place) (sym begin_one.1) (subst (λ (x : Root). RootStays second other q.picture.table x m.item path.selectors place) (sym begin_one.0) r)))

    root_again : (c : Root) → Stays c → StaysToo c → {vs ws : Values} {xs ys : List ℕ} → HoldsEach new p.picture.table (items p.picture.table c.at c.type (count c.values)) vs xs → AllByRecursion (Fits new) xs
        → HoldsEach other p.picture.table (items p.picture.table c.at c.type (count c.values)) ws ys → AllByRecursion (Fits other) ys → AlikeRoot new other p.picture.table c
    root_again c i j {vs = vs} {ws = ws} {xs = xs} {ys = ys} h fits k fits_too =
        by (each_staying p new path place l found begins its hx moved Stays kx ox c i) (each_staying q other path place m found begins its' hz moved' StaysToo kz oz c j)
      where
        was : AlikeRoot first second p.picture.table c
        was = was_alike c (owner_in_roots p.picture c (kx.owner c i))

        by : (c ≡ l.root) ⊎ Persisting p new path place l found begins its hx moved Stays kx ox c → (c ≡ m.root) ⊎ Persisting q other path place m found begins its' hz moved' StaysToo kz oz c → AlikeRoot new other p.picture.table c
        by (inl e) (inl f) =
            let h' = subst (λ (x : Root). HoldsEach new p.picture.table (items p.picture.table x.at x.type (count x.values)) vs xs) e h in
            let k' = subst (λ (x : Root). HoldsEach other p.picture.table (items p.picture.table x.at x.type (count x.values)) ws ys) e k in
            let n = now_there p new path place l found begins its hx moved Stays kx ox h' fits in
            let there_too = subst (λ (z : Table). HoldsEach other z (items z l.root.at l.root.type (count l.root.values)) ws ys) (sym one_table) k' in
            let o = now_there q other path place m found begins its' hz moved' StaysToo kz oz (subst
            (λ (x : Root). HoldsEach other q.picture.table (items q.picture.table x.at x.type (count x.values)) ws ys) begin_one.0 there_too) fits_too in
            let it = inner n.now o.now n.news o.news n.holds_now n.fits (subst (λ (z : Table). Holds other z place o.now o.news) one_table o.holds_now) o.fits in
            subst (AlikeRoot new other p.picture.table) (sym e)
            (stays_alike first new second other p.picture.table l.root l.item path.selectors place (subst (AlikeRoot first second p.picture.table) e was) stays_first stays_second it h' fits k' fits_too)
        by (inl e) (inr o) = absurd (o.other (e ∙ begin_one.0))
        by (inr o) (inl f) = absurd (o.other (f ∙ sym begin_one.0))
        by (inr o) (inr u) =
            let there_is = subst (λ (z : Table). PersistEach second other z (items z c.at c.type (count c.values)) (items z c.at c.type (count c.values))) one_table u.persists in
            persist_each_alike first new second other p.picture.table was o.persists there_is h fits k fits_too

    -- objects with its face match
    pub stayed : p'.picture.table ≡ p.picture.table → (c a b : Root) → Stays c → StaysToo c → HasFace c a → HasFace c b → Matched p' q' a b
    stayed tables c a b i j f g = record {
      face = record {
        same_name = g.same_name ∙ sym f.same_name;
        same_words = g.same_words ∙ sym f.same_words;
        same_at = g.same_at ∙ sym f.same_at;
        same_type = g.same_type ∙ sym f.same_type;
        same_count = g.same_count ∙ sym f.same_count;
      };
      again = λ h fits k fits_too. (
          let places : items p'.picture.table a.at a.type (count a.values) ≡ items p.picture.table c.at c.type (count c.values) = λ n. items (tables n) (f.same_at n) (f.same_type n) (f.same_count n) in
          let x = held_at new (sym tables) places h in
          let y = held_at other (sym tables) places k in
          let opens = root_again c i j x fits y fits_too in
          alike_at (sym tables) (sym places) opens);
    }
      where
        held_at : (bytes : List ℕ) {T U : Table} {ps qs : List Place} {vs : Values} {xs : List ℕ} → U ≡ T → ps ≡ qs → HoldsEach bytes T ps vs xs → HoldsEach bytes U qs vs xs
        held_at bytes {T = T} {U = U} {ps = ps} {qs = qs} {vs = vs} {xs = xs} e g h = subst (λ (z : Table). HoldsEach bytes z qs vs xs) (sym e) (subst (λ zs. HoldsEach bytes T zs vs xs) g h)

        alike_at : {T U : Table} {ps qs : List Place} → T ≡ U → ps ≡ qs → AlikeEach new other T ps → AlikeEach new other U qs
        alike_at {T = T} {U = U} {ps = ps} {qs = qs} e g h = subst (λ (z : Table). AlikeEach new other z qs) e (subst (AlikeEach new other T) g h)
