-- Two images that are alike are so again after both lost the same objects.
use Rattle.std.proofs.Common.{◌≡◌, ℕ, ◌+◌, ◌≤◌, inl, inr, List, [], ◌∷◌, ◌++◌, length, refl, sym, ap, ◌∙◌, subst}
use Rattle.std.specs.List.{AllByRecursion}
use Rattle.seg_spec.specs.Bytes.{word}
use Rattle.seg_spec.specs.Header.{allocator_word, next_word, index_kind_word, KeepsFront}
use Rattle.seg_spec.specs.Types.{Table, IsTable}
use Rattle.seg_spec.specs.Heap.{live}
use Rattle.seg_spec.specs.Block.{block_of}
use Rattle.seg_spec.specs.Reads.{items}
use Rattle.seg_spec.specs.Index.{Root}
use Rattle.seg_spec.specs.Frozen.{Frozen, root_of_frozen}
use Rattle.seg_spec.specs.Sound.{HoldsRoots, roots_of, times, positions}
use Rattle.seg_spec.specs.Counting.{cells_in}
use Rattle.seg_spec.specs.Roots.{SamePicture, KeepsNodes}
use Rattle.seg_spec.proofs.Frozen.ReleaseLaws.{IsFrozenThere}
use Rattle.client_spec.specs.Machine.{State}
use Rattle.client_spec.specs.Pictures.{Pictures}
use Rattle.client_spec.specs.Ties.{places_of}
use Rattle.client_sim.proofs.Names.OnePictureLaws.{Held-one}
use Rattle.test_definitions.specs.Alike.{AlikeEach, AlikeRoot, AreAlike}
use Rattle.test_definitions.proofs.Alike.AlikeChangeLaws.{among_as, value_kept}
use Rattle.test_definitions.proofs.Runs.AlikeFirstLaws.{frozen_order}
use Rattle.test_definitions.proofs.Alike.AlikeKeptLaws.{roots_kept}
use Rattle.test_definitions.proofs.Alike.AlikePictureLaws.{SameEntries, alike_after}
use Rattle.test_definitions.proofs.Alike.IndexAlikeLaws.{entries_stay}
use Rattle.test_definitions.proofs.Frozen.FrozenContentLaws.{inside_kept, value_same}
use Rattle.test_definitions.proofs.Frozen.FrozenStayLaws.{Found, then_same, counted_same}
use Rattle.test_definitions.proofs.Frozen.FrozenOrderLaws.{IsOneOf}
use Rattle.test_definitions.proofs.Alike.GrownImageLaws.{split_root, owner_in, frozen_in}
use Rattle.test_definitions.proofs.Alike.LostObjectLaws.{LosesObjects, rest, rest_kept, frozen_was, frozen_stays, content, counted_after, there_before, its_owned, its_kept, index_was}
use Rattle.test_definitions.proofs.Rows.OneFrozenLaws.{Reordered, reordered, is_there, point_lower}
use Rattle.test_definitions.proofs.Rows.OneReturnLaws.{one_index}
use Rattle.test_definitions.proofs.Rows.OneState.{AsPictured, as_pictured}
use Rattle.test_definitions.proofs.Alike.RootMemberLaws.{IsAmong, each_among, among_right, index_live}

pub each_root : (P : Root → Type 0) (rs : List Root) → ((c : Root) → IsAmong c rs → P c) → AllByRecursion P rs
each_root P [] f = tt
each_root P (r ∷ rs) f = (f r (inl refl), each_root P rs (λ c i. f c (inr i)))

among_around : (c : Root) (front gone back : List Root) → IsAmong c (front ++ back) → IsAmong c (front ++ (gone ++ back))
among_around c [] gone back i = among_right c gone back i
among_around c (f ∷ front) gone back (inl e) = inl e
among_around c (f ∷ front) gone back (inr i) = inr (among_around c front gone back i)

module _ {others : List Root} {s s' : State} {places first second : List ℕ} (alike : AreAlike others places first second) (p : Pictures others s first) (q : Pictures others s' second) (at : places_of p.owned ≡ places)
    (at_too : places_of q.owned ≡ places) where
  abbrev table : Table
  table = p.picture.table

  valid : IsTable p.picture.table
  valid = p.held.laid_out.is_table

  pictures : AsPictured p q
  pictures = (as_pictured others places first second alike p q at at_too).0

  common : SamePicture p.picture alike.picture
  common = Held-one first p.picture alike.picture p.held alike.held

  pub order : Reordered p.picture.frozen q.picture.frozen
  order = frozen_order alike p.picture q.picture p.held q.held p.counted q.counted

  -- ---- the roots before

  pub was_alike : (c : Root) → IsAmong c (roots_of p.picture) → AlikeRoot first second p.picture.table c
  was_alike c i =
      let loose : p.picture.loose ≡ alike.picture.loose = p.loose ∙ ap (λ rs. others ++ rs) (as_pictured others places first second alike p q at at_too).1 ∙ sym alike.loose in
      let frozen = reordered first (word first next_word) p.picture alike.picture p.held alike.held p.counted alike.counted in
      subst (λ (z : Table). AlikeRoot first second z c) (sym common.table) (each_among (AlikeRoot first second alike.picture.table) c (roots_of alike.picture) (among_as p.picture alike.picture common loose frozen.forth c i) alike.roots)

  module _ {t u : State} {new other : List ℕ} (p' : Pictures others t new) (q' : Pictures others u other) (front gone back : List Root) (l : LosesObjects p p' front gone back) (m : LosesObjects q q' front gone back)
      (lives : live other ≡ live new) where
    rest_alike : AllByRecursion (AlikeRoot first second p.picture.table) (front ++ back)
    rest_alike = each_root (AlikeRoot first second table) (front ++ back)
        (λ c i. was_alike c (owner_in p.picture c (subst (IsAmong c) (sym l.keeps.owners_were) (among_around c front gone back i))))

    -- ---- the roots after

    rest_after : AllByRecursion (AlikeRoot new other p.picture.table) (front ++ back)
    rest_after =
        let mine = rest p p' front gone back l.keeps in
        let theirs = rest q q' front gone back m.keeps in
        roots_kept first second new other table valid mine.holds_rest (subst (λ (z : Table). HoldsRoots second z (front ++ back) theirs.blocks) (sym pictures.same.table) theirs.holds_rest)
        (rest_kept p p' front gone back l.keeps) (rest_kept q q' front gone back m.keeps) rest_alike

    -- an object that stays in the first image stays in the second
    in_second : (g : Frozen) → IsOneOf g p'.picture.frozen → Found g q'.picture.frozen
    in_second g i =
        let k = frozen_was p p' front gone back l g i in
        let there = is_there new p'.picture p'.held g i in
        let block : 1 ≤ times (block_of k.object.at) (positions (live other))
        = subst (λ n. 1 ≤ times (block_of n) (positions (live other))) (sym k.at_is) (subst (λ bs. 1 ≤ times (block_of g.at) (positions bs)) (sym lives) there.is_live) in
        let k_too = order.forth k.object k.among in
        let s = frozen_stays q q' front gone back m k.object k_too block in
        record { object = s.object; among = s.among; same = then_same (content p p' front gone back l k.object g k.among i (sym k.at_is)) (content q q' front gone back m k.object s.object k_too s.among s.at_is) }

    in_first : (g : Frozen) → IsOneOf g q'.picture.frozen → Found g p'.picture.frozen
    in_first g i =
        let k = frozen_was q q' front gone back m g i in
        let there = is_there other q'.picture q'.held g i in
        let block : 1 ≤ times (block_of k.object.at) (positions (live new))
        = subst (λ n. 1 ≤ times (block_of n) (positions (live new))) (sym k.at_is) (subst (λ bs. 1 ≤ times (block_of g.at) (positions bs)) lives there.is_live) in
        let k_too = order.back k.object k.among in
        let s = frozen_stays p p' front gone back l k.object k_too block in
        record { object = s.object; among = s.among; same = then_same (content q q' front gone back m k.object g k.among i (sym k.at_is)) (content p p' front gone back l k.object s.object k_too s.among s.at_is) }

    same_objects : Reordered p'.picture.frozen q'.picture.frozen
    same_objects =
        let kept = cells_in (front ++ back) in
        let mine = counted_after p p' front gone back l in
        let theirs = counted_after q q' front gone back m in
        record {
          forth = counted_same (word new next_word) (word other next_word) kept p'.picture.frozen q'.picture.frozen mine theirs in_second in_first;
          back = counted_same (word other next_word) (word new next_word) kept q'.picture.frozen p'.picture.frozen theirs mine in_first in_second;
          distinct = p'.counted.counted.distinct;
          falling = p'.counted.falling;
          lower = point_lower (word new next_word) p'.picture.frozen kept mine;
          distinct_too = q'.counted.counted.distinct;
          falling_too = q'.counted.falling;
        }

    frozen_after : (g : Frozen) → IsOneOf g p'.picture.frozen → AlikeRoot new other p.picture.table (root_of_frozen g)
    frozen_after g i =
        let k = frozen_was p p' front gone back l g i in
        let at_is = sym k.at_is in
        let f = in_second g i in
        let k_too = order.forth k.object k.among in
        let at_is_too : f.object.at ≡ k.object.at = f.same.at ∙ at_is in
        let o = there_before p p' front gone back l k.object g k.among i at_is in
        let o_too = subst (λ (z : Table). IsFrozenThere second z k.object (m.theirs k.object.at)) (sym pictures.same.table) (there_before q q' front gone back m k.object f.object k_too f.among at_is_too) in
        let heap = p.held.laid_out.heap in
        let heap_too = q.held.laid_out.heap in
        let owned = its_owned p p' front gone back l k.object g k.among i at_is in
        let owned_too = its_owned q q' front gone back m k.object f.object k_too f.among at_is_too in
        let around = its_kept p p' front gone back l k.object g k.among i at_is in
        let around_too = its_kept q q' front gone back m k.object f.object k_too f.among at_is_too in
        let inside = inside_kept (word first allocator_word) first new table valid heap k.object (l.theirs k.object.at) o owned around in
        let inside_too = inside_kept (word second allocator_word) second other table valid heap_too k.object (m.theirs k.object.at) o_too owned_too around_too in
        let place = value_same (word first allocator_word) first new table valid heap k.object (l.theirs k.object.at) o owned around in
        let place_too = value_same (word second allocator_word) second other table valid heap_too k.object (m.theirs k.object.at) o_too owned_too around_too in
        let alike_too = value_kept first second new other table valid k.object o o_too place place_too inside inside_too (was_alike (root_of_frozen k.object) (frozen_in p.picture k.object k.among)) in
        let same = content p p' front gone back l k.object g k.among i at_is in
        subst (λ (T : ℕ). AlikeEach new other table (items table (g.at + 8) T 1)) (sym same.type) (subst (λ n. AlikeEach new other table (items table (n + 8) k.object.type 1)) (sym same.at) alike_too)

    root_after : (c : Root) → IsAmong c (roots_of p'.picture) → AlikeRoot new other p'.picture.table c
    root_after c i = subst (λ (z : Table). AlikeRoot new other z c) (sym l.keeps.tables) (elim (split_root p'.picture c i) [
      | inl j ↦ each_among (AlikeRoot new other table) c (front ++ back) (subst (IsAmong c) l.owners_are j) rest_after
      | inr f ↦ subst (AlikeRoot new other table) (sym f.2) (frozen_after f.0 f.1)
    ])

    -- ---- the index

    entries : word new index_kind_word ≡ word first index_kind_word → (word new index_kind_word ≡ 0 → ⊥) → SameEntries new other p'.held.index_blocks
    entries kinds tree node low some =
        let mine = one_index first p.picture alike.picture p.held alike.held in
        let theirs = one_index second q.picture alike.picture q.held alike.held_too in
        let was = subst (λ bs. 1 ≤ times (block_of node) bs) mine (index_was p p' front gone back l (block_of node) some) in
        let now = index_live new p'.picture p'.held (block_of node) some in
        let now_too = subst (λ bs. 1 ≤ times (block_of node) (positions bs)) (sym lives) now in
        entries_stay alike new other (λ e. tree (kinds ∙ e)) (subst (KeepsNodes first new) mine l.nodes) (subst (KeepsNodes second other) theirs m.nodes) node low was now now_too

    -- ---- the images after

    pub lost_alike : length other ≡ length new → KeepsFront new other → word other next_word ≡ word new next_word → word new index_kind_word ≡ word first index_kind_word
        → p'.picture.names ≡ q'.picture.names → p'.picture.uniques ≡ q'.picture.uniques → p'.owned ≡ q'.owned → AreAlike others (places_of p'.owned) new other
    lost_alike lengths front_same next kinds names uniques owned = alike_after p' q' (record {
      length_same = lengths;
      front_same = front_same;
      next_same = next;
      live_same = lives;
      tables = l.keeps.tables ∙ pictures.same.table ∙ sym m.keeps.tables;
      names = names;
      uniques = uniques;
      owned = owned;
      order = same_objects;
      entries = entries kinds;
      roots = each_root (AlikeRoot new other p'.picture.table) (roots_of p'.picture) root_after;
    })
