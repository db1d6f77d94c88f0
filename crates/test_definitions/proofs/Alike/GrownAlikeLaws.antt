-- Two images that are alike are alike again after both got the same new object, and kept all their blocks
-- outside the index, if the nodes of both indices have the same entries.
use Rattle.std.proofs.Common.{◌≡◌, ℕ, ◌⊎◌, inl, inr, List, [], ◌∷◌, ◌++◌, length, refl, sym, ap, ◌∙◌, subst}
use Rattle.std.specs.List.{AllByRecursion}
use Rattle.seg_spec.specs.Bytes.{word}
use Rattle.seg_spec.specs.Header.{next_word, index_kind_word, KeepsFront}
use Rattle.seg_spec.specs.Types.{Table}
use Rattle.seg_spec.specs.Value.{count}
use Rattle.seg_spec.specs.Heap.{live}
use Rattle.seg_spec.specs.Reads.{HoldsEach, items}
use Rattle.seg_spec.specs.Index.{Root}
use Rattle.seg_spec.specs.Sound.{roots_of, SameBlocks}
use Rattle.seg_spec.specs.Counting.{cells_in, owners_in, AreCounted}
use Rattle.client_spec.specs.Machine.{State}
use Rattle.client_spec.specs.Pictures.{Pictures}
use Rattle.client_spec.specs.Ties.{places_of}
use Rattle.test_definitions.specs.Alike.{AlikeRoot, AreAlike}
use Rattle.test_definitions.proofs.Alike.AlikeKeptLaws.{roots_kept}
use Rattle.test_definitions.proofs.Alike.AlikePictureLaws.{SameEntries, alike_after, index_blocks_same}
use Rattle.test_definitions.proofs.ValueChanges.BareValueLaws.{bare_each}
use Rattle.test_definitions.proofs.Alike.GrownImageLaws.{Grows, root_blocks_kept, frozen_forth, frozen_back, root_back, new_values}
use Rattle.test_definitions.proofs.Rows.OneFrozenLaws.{Reordered, point_lower}
use Rattle.test_definitions.proofs.Alike.RootMemberLaws.{IsAmong, each_among}

each_root : (P : Root → Type 0) (rs : List Root) → ((c : Root) → IsAmong c rs → P c) → AllByRecursion P rs
each_root P [] f = tt
each_root P (r ∷ rs) f = (f r (inl refl), each_root P rs (λ c i. f c (inr i)))

module _ {others : List Root} {places first second new other : List ℕ} {t u : State} (alike : AreAlike others places first second) (p : Pictures others t new) (q : Pictures others u other) (News : Root → Type 0)
    (g : Grows first new alike.picture p.picture alike.held.index_blocks News) (k : Grows second other alike.picture q.picture alike.held_too.index_blocks News) where
  counted_too : AreCounted (word second next_word) alike.picture
  counted_too = subst (λ n. AreCounted n alike.picture) (sym alike.next_same) alike.counted

  order : Reordered p.picture.frozen q.picture.frozen
  order = record {
    forth = λ f i. frozen_forth second other alike.picture q.picture alike.held_too q.held counted_too q.counted News k f (frozen_back first new alike.picture p.picture alike.held p.held alike.counted p.counted News g f i);
    back = λ f i. frozen_forth first new alike.picture p.picture alike.held p.held alike.counted p.counted News g f (frozen_back second other alike.picture q.picture alike.held_too q.held counted_too q.counted News k f i);
    distinct = p.counted.counted.distinct;
    falling = p.counted.falling;
    lower = point_lower (word new next_word) p.picture.frozen (cells_in (owners_in p.picture)) p.counted.counted;
    distinct_too = q.counted.counted.distinct;
    falling_too = q.counted.falling;
  }

  -- the roots that there were
  old_alike : AllByRecursion (AlikeRoot new other alike.picture.table) (roots_of alike.picture)
  old_alike = roots_kept first second new other alike.picture.table alike.held.laid_out.is_table alike.held.roots alike.held_too.roots
      (root_blocks_kept first new alike.picture p.picture alike.held p.held g.tables g.kept) (root_blocks_kept second other alike.picture q.picture alike.held_too q.held k.tables k.kept) alike.roots

  new_alike : (a : Root) → News a → AlikeRoot new other p.picture.table a
  new_alike a n =
      let mine = new_values first new alike.picture p.picture alike.held p.held alike.counted p.counted News g a n in
      let theirs = new_values second other alike.picture q.picture alike.held_too q.held counted_too q.counted News k a n in
      let one_table : q.picture.table ≡ p.picture.table = k.tables ∙ sym g.tables in
      bare_each new other p.picture.table mine refl (subst (λ (z : Table). HoldsEach other z (items z a.at a.type (count a.values)) a.values []) one_table theirs) refl refl

  root_alike : (c : Root) → IsAmong c (roots_of p.picture) → AlikeRoot new other p.picture.table c
  root_alike c i = by (root_back first new alike.picture p.picture alike.held p.held alike.counted p.counted News g c i)
    where
      by : News c ⊎ IsAmong c (roots_of alike.picture) → AlikeRoot new other p.picture.table c
      by (inl n) = new_alike c n
      by (inr j) = subst (λ (z : Table). AlikeRoot new other z c) (sym g.tables) (each_among (AlikeRoot new other alike.picture.table) c (roots_of alike.picture) j old_alike)

  pub grown_alike : length other ≡ length new → KeepsFront new other → word other next_word ≡ word new next_word → live other ≡ live new → p.picture.names ≡ q.picture.names → p.picture.uniques ≡ q.picture.uniques
      → p.owned ≡ q.owned → ((word new index_kind_word ≡ 0 → ⊥) → SameBlocks p.held.index_blocks q.held.index_blocks → SameEntries new other p.held.index_blocks) → AreAlike others (places_of p.owned) new other
  grown_alike lengths front next lives names uniques owned entries = alike_after p q (record {
    length_same = lengths;
    front_same = front;
    next_same = next;
    live_same = lives;
    tables = tables;
    names = names;
    uniques = uniques;
    owned = owned;
    order = order;
    entries = λ tree. entries tree (index_blocks_same p q tables names uniques (p.loose ∙ ap (λ rs. others ++ rs) owned ∙ sym q.loose) order roots lives);
    roots = roots;
  })
    where
      tables : p.picture.table ≡ q.picture.table
      tables = g.tables ∙ sym k.tables

      roots : AllByRecursion (AlikeRoot new other p.picture.table) (roots_of p.picture)
      roots = each_root (AlikeRoot new other p.picture.table) (roots_of p.picture) root_alike
