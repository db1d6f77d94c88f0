-- Two images that are alike, in which an instruction changed the same place: they are alike again if the
-- place is alike in them.
use Rattle.std.proofs.Common.{◌≡◌, ℕ, ◌+◌, ◌≤◌, ◌⊎◌, inl, inr, true, false, List, [], ◌∷◌, ◌++◌, length, map, Option, Some, None, refl, sym, ap, ◌∙◌, subst, arith}
use Rattle.std.specs.Prelude.{is_some}
use Rattle.std.specs.List.{AllByRecursion}
use Rattle.seg_spec.specs.Bytes.{word}
use Rattle.seg_spec.specs.Header.{allocator_word, next_word, index_kind_word, heap_start, KeepsFront}
use Rattle.seg_spec.specs.Types.{Table, IsTable}
use Rattle.seg_spec.specs.Value.{Value, Values, count, Selector}
use Rattle.seg_spec.specs.Heap.{live}
use Rattle.seg_spec.specs.Block.{block_of, KeepsBlock}
use Rattle.seg_spec.specs.Reads.{Place, Holds, HoldsEach, items}
use Rattle.seg_spec.specs.Parts.{PersistEach}
use Rattle.seg_spec.specs.Index.{Root, root_named, root_of_type}
use Rattle.seg_spec.specs.Frozen.{Frozen, root_of_frozen}
use Rattle.seg_spec.specs.Sound.{Picture, IsHeld, HoldsRoot, payload_of, frozen_roots, roots_of, times, positions}
use Rattle.seg_spec.specs.Shared.{names_in, IsBelow, IsCounted}
use Rattle.seg_spec.specs.Counting.{cells_in, owners_in, AreCounted}
use Rattle.seg_spec.specs.Roots.{SamePicture, HasFace, item_of}
use Rattle.seg_spec.proofs.Heap.LiveBlockLaws.{LiesIn, times-more, there, each_there, live-lie}
use Rattle.seg_spec.proofs.Frozen.ReleaseLaws.{IsFrozenThere, frozen_there}
use Rattle.seg_spec.proofs.Values.OneValueLaws.{Holds-one, HoldsEach-one}
use Rattle.client_spec.specs.Machine.{Path, State, at_origin}
use Rattle.client_spec.specs.Pictures.{Pictures, LeadsInImage}
use Rattle.client_spec.specs.Ties.{places_of}
use Rattle.client_sim.proofs.Names.OnePictureLaws.{Held-one}
use Rattle.test_definitions.specs.Alike.{AlikeAt, AlikeEach, AlikeRoot, AreAlike, none_alike, more_alike}
use Rattle.test_definitions.proofs.ValueChanges.AlikePlaceLaws.{each_alike, holds_alike}
use Rattle.test_definitions.proofs.Alike.AlikeKeptLaws.{place_kept}
use Rattle.test_definitions.proofs.Alike.AlikeRootLaws.{both, roots_at, of_type}
use Rattle.test_definitions.proofs.Alike.AlikePictureLaws.{SameEntries, alike_after, entry_kept, entries_alike}
use Rattle.test_definitions.proofs.ValueChanges.AroundPersistLaws.{one_split, each_split, alike_left, alike_right, alike_append, alike_head, surround_alike}
use Rattle.test_definitions.proofs.ValueChanges.ChangedPlaceLaws.{KeepsOwners, OtherRoot, each_owner, own_root, index_kept}
use Rattle.test_definitions.proofs.Rows.ChangedPlaceRowLaws.{CellsWithin, Beside, was_root, named_before, unique_before, owned_face, frozen_before, content, its_kept, its_live, there_before, nodes_before}
use Rattle.test_definitions.proofs.Frozen.FrozenApartLaws.{among_either, owner_in_roots}
use Rattle.test_definitions.proofs.Frozen.FrozenContentLaws.{inside_kept, value_same}
use Rattle.test_definitions.proofs.Frozen.FrozenStayLaws.{SameContent, Found, turned, then_same, counted_same}
use Rattle.test_definitions.proofs.Frozen.FrozenOrderLaws.{IsOneOf}
use Rattle.test_definitions.proofs.Alike.ListedRootLaws.{names_listed, types_listed}
use Rattle.test_definitions.proofs.Rows.OneState.{as_pictured}
use Rattle.test_definitions.proofs.Rows.OneFrozenLaws.{Reordered, reordered, reordered_then, among_frozen, point_lower}
use Rattle.test_definitions.proofs.ValueChanges.PersistAlikeLaws.{Fits, persist_each_alike}
use Rattle.test_definitions.proofs.Frozen.ReachedFrozenLaws.{StandsAt, below_stands, all_reached}
use Rattle.test_definitions.proofs.Rows.OneReturnLaws.{one_index as same_index}
use Rattle.test_definitions.proofs.Rows.OnePlaceLaws.{kinds as kinds_same}
use Rattle.seg_spec.proofs.Values.PlaceFrameLaws.{SamePlace, each_weaker}
use Rattle.test_definitions.proofs.Alike.RootMemberLaws.{IsAmong, each_among, among_left, among_right, counts, owns, looked_up}
use Rattle.test_definitions.proofs.ValueChanges.RootPersistLaws.{RootStays}

-- ---- a root of which one part changes

module _ (old new other another : List ℕ) (table : Table) (root : Root) (j : ℕ) (path : List Selector) (inner : Place) where
  pub stays_alike : {vs ws : Values} {xs ys : List ℕ} → AlikeRoot old other table root → RootStays old new table root j path inner → RootStays other another table root j path inner → AlikeAt new another table inner
      → HoldsEach new table (items table root.at root.type (count root.values)) vs xs → AllByRecursion (Fits new) xs → HoldsEach another table (items table root.at root.type (count root.values)) ws ys → AllByRecursion (Fits another) ys
      → AlikeRoot new another table root
  stays_alike {vs = vs} {ws = ws} {xs = xs} {ys = ys} alike r q inside h fits k fits_too =
      let item = item_of table root j in
      let places = items table root.at root.type (count root.values) in
      let split = one_split r.before q.before item item r.after q.after (r.at_is ∙ sym q.at_is) (sym r.places_are ∙ q.places_are) in
      let a : AlikeEach old other table (r.before ++ item ∷ r.after) = subst (AlikeEach old other table) r.places_are alike in
      let middle = alike_head old other table (alike_right old other table r.before (item ∷ r.after) a) in
      let mine = each_split new table r.before item r.after (subst (λ ps. HoldsEach new table ps vs xs) r.places_are h) fits in
      let theirs = each_split another table r.before item r.after (subst (λ ps. HoldsEach another table ps ws ys) r.places_are k) fits_too in
      let left = persist_each_alike old new other another table (alike_left old other table r.before (item ∷ r.after) a) r.before_persist (subst (λ ps. PersistEach other another table ps ps) (sym split.0) q.before_persist)
      mine.lefts mine.fits_left theirs.lefts theirs.fits_left in
      let right = persist_each_alike old new other another table middle.1 r.after_persist (subst (λ ps. PersistEach other another table ps ps) (sym split.2) q.after_persist) mine.rights mine.fits_right theirs.rights theirs.fits_right in
      let it = surround_alike old new other another table middle.0 r.surrounded q.surrounded inside mine.it mine.fits_it theirs.it theirs.fits_it in
      subst (AlikeEach new another table) (sym r.places_are) (alike_append new another table left (more_alike it right))

-- ---- the blocks of an image end in it

pub all_fit : (bytes : List ℕ) (p : Picture) (held : IsHeld bytes p) (xs : List ℕ) → ((h : ℕ) → times h xs ≤ times h held.root_blocks) → AllByRecursion (Fits bytes) xs
all_fit bytes p held xs fewer = each_there (Fits bytes) xs (λ h some. (
    let l = there (LiesIn bytes heap_start (length bytes)) h (positions (live bytes)) (live-lie bytes (word bytes allocator_word) held.laid_out.heap) (omega (arith, some, fewer h, counts bytes p held h)) in
    (omega (arith, l.size), l.high)))

pub root_one : (a b : Root) → a.name ≡ b.name → a.words ≡ b.words → a.at ≡ b.at → a.type ≡ b.type → a.values ≡ b.values → a ≡ b
root_one a b n w at t vs = λ i. record { name = n i; words = w i; at = at i; type = t i; values = vs i }

pub among_as : (x y : Picture) → SamePicture x y → x.loose ≡ y.loose → ((f : Frozen) → IsOneOf f x.frozen → IsOneOf f y.frozen) → (c : Root) → IsAmong c (roots_of x) → IsAmong c (roots_of y)
among_as x y same loose forth c i = (
    elim (among_either c x.names (x.uniques ++ (x.loose ++ frozen_roots x)) i) [
      | inl j ↦ among_left c y.names (y.uniques ++ (y.loose ++ frozen_roots y)) (subst (IsAmong c) same.names j)
      | inr k ↦ among_right c y.names (y.uniques ++ (y.loose ++ frozen_roots y)) (elim (among_either c x.uniques (x.loose ++ frozen_roots x) k) [
        | inl j ↦ among_left c y.uniques (y.loose ++ frozen_roots y) (subst (IsAmong c) same.uniques j)
        | inr k ↦ among_right c y.uniques (y.loose ++ frozen_roots y) (elim (among_either c x.loose (frozen_roots x) k) [
          | inl j ↦ among_left c y.loose (frozen_roots y) (subst (IsAmong c) loose j)
          | inr k ↦ among_right c y.loose (frozen_roots y) (frozen x.frozen (λ f i. forth f i) k)
        ])
      ])
    ])
  where
    frozen : (fs : List Frozen) → ((f : Frozen) → IsOneOf f fs → IsOneOf f y.frozen) → IsAmong c (map root_of_frozen fs) → IsAmong c (map root_of_frozen y.frozen)
    frozen [] f i = absurd i
    frozen (g ∷ gs) f (inl e) = subst (λ (r : Root). IsAmong r (map root_of_frozen y.frozen)) (sym e) (among_frozen g y.frozen (f g (inl refl)))
    frozen (g ∷ gs) f (inr i) = frozen gs (λ h j. f h (inr j)) i

-- the value of a frozen object
pub value_kept : (first second new other : List ℕ) (table : Table) → IsTable table → (f : Frozen) {xs ys : List ℕ} → (o : IsFrozenThere first table f xs) → (u : IsFrozenThere second table f ys)
    → SamePlace first new table (record { at = f.at + 8; type = f.type }) → SamePlace second other table (record { at = f.at + 8; type = f.type }) → AllByRecursion (KeepsBlock first new) o.inside
    → AllByRecursion (KeepsBlock second other) u.inside → AlikeRoot first second table (root_of_frozen f) → AlikeRoot new other table (root_of_frozen f)
value_kept first second new other table valid f o u same same_too kept kept_too (more_alike a rest) =
    let one = (Holds-one second table (holds_alike first second table o.value a) u.value).1 in
    more_alike (place_kept first second new other table valid o.value same same_too kept (subst (AllByRecursion (KeepsBlock second other)) (sym one) kept_too) a) none_alike

-- ---- both images

module _ {others : List Root} {s s1 t1 : State} {places first second new other : List ℕ} (alike : AreAlike others places first second) (p : Pictures others s first) (q : Pictures others s second)
    (at : places_of p.owned ≡ places) (at_too : places_of q.owned ≡ places) (p' : Pictures others s1 new) (q' : Pictures others t1 other) (path : Path) (place : Place) (l : LeadsInImage p path place) (m : LeadsInImage q path place)
    (found : Value × ℕ) (begins : at_origin s path.origin ≡ Some found) {v v' : Value} (its its' : List ℕ) (hx : Holds first p.picture.table place v its) (hz : Holds second q.picture.table place v' its')
    (kx : KeepsOwners p new place its) (kz : KeepsOwners q other place its')
    (bx : Beside p new path place l found begins its hx kx p') (bz : Beside q other path place m found begins its' hz kz q')
    (cx : CellsWithin p new place) (cz : CellsWithin q other place) (inner : AlikeAt new other p.picture.table place) where
  one_table : q.picture.table ≡ p.picture.table
  one_table = sym (both alike p q at at_too).same.table

  common : SamePicture p.picture alike.picture
  common = Held-one first p.picture alike.picture p.held alike.held

  same_loose : p.picture.loose ≡ q.picture.loose
  same_loose = p.loose ∙ ap (λ rs. others ++ rs) (both alike p q at at_too).owned ∙ sym q.loose

  order : Reordered p.picture.frozen q.picture.frozen
  order = reordered_then (reordered first (word first next_word) p.picture alike.picture p.held alike.held p.counted alike.counted)
      (reordered second (word second next_word) alike.picture q.picture alike.held_too q.held (subst (λ n. AreCounted n alike.picture) (sym alike.next_same) alike.counted) q.counted)

  to_alike : Reordered p.picture.frozen alike.picture.frozen
  to_alike = reordered first (word first next_word) p.picture alike.picture p.held alike.held p.counted alike.counted

  alike_loose : p.picture.loose ≡ alike.picture.loose
  alike_loose = p.loose ∙ ap (λ rs. others ++ rs) (as_pictured others places first second alike p q at at_too).1 ∙ sym alike.loose

  -- both paths begin at one root
  begin_one : (l.root ≡ m.root) × (l.item ≡ m.item)
  begin_one = (
      let e : ◌≡◌ {A = Option (Root × ℕ)} (Some (l.root, l.item)) (Some (m.root, m.item)) = sym l.begins ∙ roots_at alike p q at at_too path.origin ∙ m.begins in
      let pair : ◌≡◌ {A = Root × ℕ} (l.root, l.item) (m.root, m.item) = cc in
      (ap (λ (x : Root × ℕ). x.0) pair, ap (λ (x : Root × ℕ). x.1) pair))

  was_alike : (c : Root) → IsAmong c (roots_of p.picture) → AlikeRoot first second p.picture.table c
  was_alike c i = subst (λ (z : Table). AlikeRoot first second z c) (sym common.table) (each_among (AlikeRoot first second alike.picture.table) c (roots_of alike.picture)
      (among_as p.picture alike.picture common alike_loose to_alike.forth c i) alike.roots)

  stays_first : RootStays first new p.picture.table l.root l.item path.selectors place
  stays_first = own_root p new path place l found begins its hx kx

  stays_second : RootStays second other p.picture.table l.root l.item path.selectors place
  stays_second = (
      let r = own_root q other path place m found begins its' hz kz in
      subst (λ (z : Table). RootStays second other z l.root l.item path.selectors place) one_table
      (subst (λ k. RootStays second other q.picture.table l.root k path.selectors place) (sym begin_one.1) (subst (λ (x : Root). RootStays second other q.picture.table x m.item path.selectors place) (sym begin_one.0) r)))

  both_owners : owners_in p.picture ≡ owners_in q.picture
  both_owners = (let same = (both alike p q at at_too).same in λ k. same.names k ++ (same.uniques k ++ same_loose k))

  -- each root with an owner is alike again
  root_alike : (c : Root) → IsAmong c (owners_in p.picture) → {vs ws : Values} {xs ys : List ℕ} → HoldsEach new p.picture.table (items p.picture.table c.at c.type (count c.values)) vs xs → AllByRecursion (Fits new) xs
      → HoldsEach other p.picture.table (items p.picture.table c.at c.type (count c.values)) ws ys → AllByRecursion (Fits other) ys → AlikeRoot new other p.picture.table c
  root_alike c i {vs = vs} {ws = ws} {xs = xs} {ys = ys} h fits k fits_too =
      by (each_owner p new path place l found begins its hx kx c i) (each_owner q other path place m found begins its' hz kz c (subst (IsAmong c) both_owners i))
    where
      was : AlikeRoot first second p.picture.table c
      was = was_alike c (owner_in_roots p.picture c i)

      by : (c ≡ l.root) ⊎ OtherRoot p new path place l found begins its hx kx c → (c ≡ m.root) ⊎ OtherRoot q other path place m found begins its' hz kz c → AlikeRoot new other p.picture.table c
      by (inl e) (inl f) =
          let h' = subst (λ (x : Root). HoldsEach new p.picture.table (items p.picture.table x.at x.type (count x.values)) vs xs) e h in
          let k' = subst (λ (x : Root). HoldsEach other p.picture.table (items p.picture.table x.at x.type (count x.values)) ws ys) e k in
          subst (AlikeRoot new other p.picture.table) (sym e)
          (stays_alike first new second other p.picture.table l.root l.item path.selectors place (subst (AlikeRoot first second p.picture.table) e was) stays_first stays_second inner h' fits k' fits_too)
      by (inl e) (inr o) = absurd (o.other (e ∙ begin_one.0))
      by (inr o) (inl f) = absurd (o.other (f ∙ sym begin_one.0))
      by (inr o) (inr u) =
          let there_is = subst (λ (z : Table). PersistEach second other z (items z c.at c.type (count c.values)) (items z c.at c.type (count c.values))) one_table u.is_kept.persists in
          persist_each_alike first new second other p.picture.table was o.is_kept.persists there_is h fits k fits_too

  -- ---- an object after the instruction

  -- it opens in the same way in both images, and has one value
  pub record OneAfter (a c : Root) : Type 0 where
    pub is : a ≡ c
    pub opens : AlikeRoot new other p.picture.table a

  tables_first : p'.picture.table ≡ p.picture.table
  tables_first = bx.objects.tables

  tables_second : q'.picture.table ≡ p.picture.table
  tables_second = bz.objects.tables ∙ one_table

  faced : (bytes : List ℕ) (table : Table) (c a : Root) → table ≡ p.picture.table → HasFace c a → {vs : Values} {blocks : List ℕ} → HoldsEach bytes table (items table a.at a.type (count a.values)) vs blocks
      → HoldsEach bytes p.picture.table (items p.picture.table c.at c.type (count c.values)) vs blocks
  faced bytes table c a e f {vs = vs} {blocks = blocks} h =
      let t = subst (λ (z : Table). HoldsEach bytes z (items z a.at a.type (count a.values)) vs blocks) e h in
      subst (λ ps. HoldsEach bytes p.picture.table ps vs blocks) (λ j. items p.picture.table (f.same_at j) (f.same_type j) (f.same_count j)) t

  held_inside : (bytes : List ℕ) (r : Picture) (held : IsHeld bytes r) (a : Root) → IsAmong a (roots_of r) → (inside : List ℕ) × HoldsEach bytes r.table (items r.table a.at a.type (count a.values)) a.values inside × AllByRecursion
      (Fits bytes) inside
  held_inside bytes r held a i =
      let o = owns bytes r held a held.roots i in (
        o.holds_it.inside,
        o.holds_it.values,
        all_fit bytes r held o.holds_it.inside (λ h. (
            let e = ap (times h) o.holds_it.blocks_are in
            omega (arith, o.fewer h, e, times-more h (block_of (payload_of a)) o.holds_it.inside))),
      )

  one_after : (a b c : Root) → IsAmong a (roots_of p'.picture) → IsAmong b (roots_of q'.picture) → IsAmong c (owners_in p.picture) → HasFace c a → HasFace c b → OneAfter a b
  one_after a b c i j k f g =
      let mine = held_inside new p'.picture p'.held a i in
      let theirs = held_inside other q'.picture q'.held b j in
      let h = faced new p'.picture.table c a tables_first f mine.1 in
      let h' = faced other q'.picture.table c b tables_second g theirs.1 in
      let like = root_alike c k h mine.2 h' theirs.2 in
      let values : a.values ≡ b.values = (HoldsEach-one other p.picture.table (each_alike new other p.picture.table h like) h').0 in
      let is = root_one a b (f.same_name ∙ sym g.same_name) (f.same_words ∙ sym g.same_words) (f.same_at ∙ sym g.same_at) (f.same_type ∙ sym g.same_type) values in
      let places_are : items p.picture.table c.at c.type (count c.values) ≡ items p.picture.table a.at a.type (count a.values) = λ z. items p.picture.table (sym f.same_at z) (sym f.same_type z) (sym f.same_count z) in
      record { is = is; opens = subst (AlikeEach new other p.picture.table) places_are like }

  -- ---- the lists of objects

  in_names : {u : State} {bytes : List ℕ} (r : Pictures others u bytes) (a : Root) → IsAmong a r.picture.names → IsAmong a (roots_of r.picture)
  in_names r a i = among_left a r.picture.names (r.picture.uniques ++ (r.picture.loose ++ frozen_roots r.picture)) i

  in_uniques : {u : State} {bytes : List ℕ} (r : Pictures others u bytes) (a : Root) → IsAmong a r.picture.uniques → IsAmong a (roots_of r.picture)
  in_uniques r a i = among_right a r.picture.names (r.picture.uniques ++ (r.picture.loose ++ frozen_roots r.picture)) (among_left a r.picture.uniques (r.picture.loose ++ frozen_roots r.picture) i)

  in_owned : {u : State} {bytes : List ℕ} (r : Pictures others u bytes) (a : Root) → IsAmong a r.owned → IsAmong a (roots_of r.picture)
  in_owned r a i = (
      let j = subst (IsAmong a) (sym r.loose) (among_right a others r.owned i) in
      among_right a r.picture.names (r.picture.uniques ++ (r.picture.loose ++ frozen_roots r.picture)) (among_right a r.picture.uniques (r.picture.loose ++ frozen_roots r.picture) (among_left a r.picture.loose (frozen_roots r.picture) j)))

  owned_owner : (c : Root) → IsAmong c p.owned → IsAmong c (owners_in p.picture)
  owned_owner c i = among_right c p.picture.names (p.picture.uniques ++ p.picture.loose) (among_right c p.picture.uniques p.picture.loose (subst (IsAmong c) (sym p.loose) (among_right c others p.owned i)))

  one_name : (name : List ℕ) → root_named p'.picture.names name ≡ root_named q'.picture.names name
  one_name name = go (root_named p'.picture.names name) refl (root_named q'.picture.names name) refl
      (bx.objects.names name ∙ ap (λ rs. is_some (root_named rs name)) (both alike p q at at_too).same.names ∙ sym (bz.objects.names name))
    where
      go : (o : Option Root) → root_named p'.picture.names name ≡ o → (o' : Option Root) → root_named q'.picture.names name ≡ o' → is_some (root_named p'.picture.names name) ≡ is_some (root_named q'.picture.names name)
          → root_named p'.picture.names name ≡ root_named q'.picture.names name
      go None e None f g = e ∙ sym f
      go None e (Some b) f g = absurd (let k : false ≡ true = sym (ap (λ (o : Option Root). is_some o) e) ∙ g ∙ ap (λ (o : Option Root). is_some o) f in cc)
      go (Some a) e None f g = absurd (let k : true ≡ false = sym (ap (λ (o : Option Root). is_some o) e) ∙ g ∙ ap (λ (o : Option Root). is_some o) f in cc)
      go (Some a) e (Some b) f g =
          let c = named_before p new path place l found begins its hx kx p' bx.objects name a e in
          let d = named_before q other path place m found begins its' hz kz q' bz.objects name b f in
          let same : d.0 ≡ c.0 = (let k : Some d.0 ≡ Some c.0 = sym d.1 ∙ ap (λ rs. root_named rs name) (sym (both alike p q at at_too).same.names) ∙ c.1 in cc) in
          let one = one_after a b c.0 (in_names p' a (looked_up name a p'.picture.names e).0) (in_names q' b (looked_up name b q'.picture.names f).0)
          (among_left c.0 p.picture.names (p.picture.uniques ++ p.picture.loose) (looked_up name c.0 p.picture.names c.1).0) c.2
          (subst (λ (x : Root). HasFace x b) same d.2) in
          e ∙ ap (λ (x : Root). Some x) one.is ∙ sym f

  one_names : p'.picture.names ≡ q'.picture.names
  one_names = names_listed p'.picture.names q'.picture.names p'.held.laid_out.names.ascending q'.held.laid_out.names.ascending one_name

  one_type : (T : ℕ) → root_of_type p'.picture.uniques T ≡ root_of_type q'.picture.uniques T
  one_type T = go (root_of_type p'.picture.uniques T) refl (root_of_type q'.picture.uniques T) refl
      (bx.objects.uniques T ∙ ap (λ rs. is_some (root_of_type rs T)) (both alike p q at at_too).same.uniques ∙ sym (bz.objects.uniques T))
    where
      go : (o : Option Root) → root_of_type p'.picture.uniques T ≡ o → (o' : Option Root) → root_of_type q'.picture.uniques T ≡ o' → is_some (root_of_type p'.picture.uniques T) ≡ is_some (root_of_type q'.picture.uniques T)
          → root_of_type p'.picture.uniques T ≡ root_of_type q'.picture.uniques T
      go None e None f g = e ∙ sym f
      go None e (Some b) f g = absurd (let k : false ≡ true = sym (ap (λ (o : Option Root). is_some o) e) ∙ g ∙ ap (λ (o : Option Root). is_some o) f in cc)
      go (Some a) e None f g = absurd (let k : true ≡ false = sym (ap (λ (o : Option Root). is_some o) e) ∙ g ∙ ap (λ (o : Option Root). is_some o) f in cc)
      go (Some a) e (Some b) f g =
          let c = unique_before p new path place l found begins its hx kx p' bx.objects T a e in
          let d = unique_before q other path place m found begins its' hz kz q' bz.objects T b f in
          let same : d.0 ≡ c.0 = (let k : Some d.0 ≡ Some c.0 = sym d.1 ∙ ap (λ rs. root_of_type rs T) (sym (both alike p q at at_too).same.uniques) ∙ c.1 in cc) in
          let one = one_after a b c.0 (in_uniques p' a (of_type p'.picture.uniques T a e)) (in_uniques q' b (of_type q'.picture.uniques T b f))
          (among_right c.0 p.picture.names (p.picture.uniques ++ p.picture.loose) (among_left c.0 p.picture.uniques p.picture.loose (of_type p.picture.uniques T c.0 c.1))) c.2
          (subst (λ (x : Root). HasFace x b) same d.2) in
          e ∙ ap (λ (x : Root). Some x) one.is ∙ sym f

  one_uniques : p'.picture.uniques ≡ q'.picture.uniques
  one_uniques = types_listed 0 0 p'.picture.uniques q'.picture.uniques p'.held.laid_out.uniques.rising q'.held.laid_out.uniques.rising one_type

  one_owned : p'.owned ≡ q'.owned
  one_owned = pairs p.owned p'.owned q'.owned bx.objects.owned_at (bz.objects.owned_at ∙ ap places_of (sym (both alike p q at at_too).owned)) (λ c i. i) (λ a i. i) (λ b i. i)
    where
      pairs : (cs xs ys : List Root) → places_of xs ≡ places_of cs → places_of ys ≡ places_of cs → ((c : Root) → IsAmong c cs → IsAmong c p.owned) → ((a : Root) → IsAmong a xs → IsAmong a p'.owned)
          → ((b : Root) → IsAmong b ys → IsAmong b q'.owned)
          → xs ≡ ys
      pairs [] [] [] e f x y z = refl
      pairs [] [] (b ∷ ys) e f x y z = cc
      pairs [] (a ∷ xs) ys e f x y z = cc
      pairs (c ∷ cs) [] ys e f x y z = cc
      pairs (c ∷ cs) (a ∷ xs) [] e f x y z = cc
      pairs (c ∷ cs) (a ∷ xs) (b ∷ ys) e f x y z =
          let at_a : a.at ≡ c.at = cc in
          let at_b : b.at ≡ c.at = cc in
          let i = x c (inl refl) in
          let j = subst (IsAmong c) (both alike p q at at_too).owned i in
          let face = owned_face p new path place l found begins its hx kx p' bx.objects c a i (y a (inl refl)) at_a in
          let face' = owned_face q other path place m found begins its' hz kz q' bz.objects c b j (z b (inl refl)) at_b in
          let one = one_after a b c (in_owned p' a (y a (inl refl))) (in_owned q' b (z b (inl refl))) (owned_owner c i) face face' in
          let more : places_of xs ≡ places_of cs = cc in
          let more' : places_of ys ≡ places_of cs = cc in
          let rest = pairs cs xs ys more more' (λ c i. x c (inr i)) (λ a i. y a (inr i)) (λ b i. z b (inr i)) in
          λ k. one.is k ∷ rest k

  one_owners : owners_in p'.picture ≡ owners_in q'.picture
  one_owners = (
      let loose : p'.picture.loose ≡ q'.picture.loose = p'.loose ∙ ap (λ rs. others ++ rs) one_owned ∙ sym q'.loose in
      λ k. one_names k ++ (one_uniques k ++ loose k))

  -- ---- frozen objects

  -- an object of both images has one content
  found_too : (f g : Frozen) → IsOneOf f p'.picture.frozen → IsOneOf g q'.picture.frozen → g.at ≡ f.at → SameContent f g
  found_too f g i j e =
      let was = frozen_before p new path place l found begins its hx kx p' bx cx f i in
      let mine = content p new path place l found begins its hx kx p' bx was.object f was.among i (sym was.at_is) in
      let theirs = content q other path place m found begins its' hz kz q' bz was.object g (order.forth was.object was.among) j (e ∙ sym was.at_is) in
      then_same mine theirs

  falls_in : (next : ℕ) (fs : List Frozen) (cells : List Place) → IsCounted next fs cells → AllByRecursion (λ (g : Frozen). AllByRecursion (λ (z : Place). StandsAt z.at fs) (names_in g.value)) fs
  falls_in next fs cells c = each_weaker (λ (g : Frozen). AllByRecursion (IsBelow g.number fs) (names_in g.value)) _
      (λ g a. each_weaker (IsBelow g.number fs) (λ (z : Place). StandsAt z.at fs) (λ z b. (below_stands g.number fs z b).0) (names_in g.value) a) fs c.falling

  stand_in : (next : ℕ) (fs : List Frozen) (cells : List Place) → IsCounted next fs cells → AllByRecursion (λ (z : Place). StandsAt z.at fs) cells
  stand_in next fs cells c = each_weaker (IsBelow next fs) (λ (z : Place). StandsAt z.at fs) (λ z b. (below_stands next fs z b).0) cells c.named

  in_second : (f : Frozen) → IsOneOf f p'.picture.frozen → Found f q'.picture.frozen
  in_second f i =
      let cells = subst (λ rs. AllByRecursion (λ (z : Place). StandsAt z.at q'.picture.frozen) (cells_in rs)) (sym one_owners) (stand_in (word other next_word) q'.picture.frozen (cells_in (owners_in q'.picture)) q'.counted.counted) in
      let r = all_reached (word new next_word) p'.picture.frozen (cells_in (owners_in p'.picture)) p'.counted.counted q'.picture.frozen (falls_in (word other next_word) q'.picture.frozen _ q'.counted.counted) cells
      (λ f g i j e. sym (found_too f g i j (sym e)).value) f i in
      record { object = r.object; among = r.among; same = found_too f r.object i r.among r.at_is }

  in_first : (f : Frozen) → IsOneOf f q'.picture.frozen → Found f p'.picture.frozen
  in_first f i =
      let cells = subst (λ rs. AllByRecursion (λ (z : Place). StandsAt z.at p'.picture.frozen) (cells_in rs)) one_owners (stand_in (word new next_word) p'.picture.frozen (cells_in (owners_in p'.picture)) p'.counted.counted) in
      let r = all_reached (word other next_word) q'.picture.frozen (cells_in (owners_in q'.picture)) q'.counted.counted p'.picture.frozen (falls_in (word new next_word) p'.picture.frozen _ p'.counted.counted) cells
      (λ f g i j e. (found_too g f j i e).value) f i in
      record { object = r.object; among = r.among; same = turned (found_too r.object f r.among i (sym r.at_is)) }

  order_after : Reordered p'.picture.frozen q'.picture.frozen
  order_after =
      let kept = cells_in (owners_in p'.picture) in
      let first_counted = p'.counted.counted in
      let second_counted = subst (λ rs. IsCounted (word other next_word) q'.picture.frozen (cells_in rs)) (sym one_owners) q'.counted.counted in
      record {
        forth = counted_same (word new next_word) (word other next_word) kept p'.picture.frozen q'.picture.frozen first_counted second_counted in_second in_first;
        back = counted_same (word other next_word) (word new next_word) kept q'.picture.frozen p'.picture.frozen second_counted first_counted in_first in_second;
        distinct = p'.counted.counted.distinct;
        falling = p'.counted.falling;
        lower = point_lower (word new next_word) p'.picture.frozen (cells_in (owners_in p'.picture)) p'.counted.counted;
        distinct_too = q'.counted.counted.distinct;
        falling_too = q'.counted.falling;
      }

  -- ---- all roots

  owner_opens : (a : Root) → IsAmong a (owners_in p'.picture) → AlikeRoot new other p.picture.table a
  owner_opens a i =
      let w = was_root p new path place l found begins its hx kx p' bx.objects a i in
      (one_after a a w.was (owner_in_roots p'.picture a i) (owner_in_roots q'.picture a (subst (IsAmong a) one_owners i)) w.among w.face w.face).opens

  frozen_in : {u : State} {bytes : List ℕ} (r : Pictures others u bytes) (f : Frozen) → IsOneOf f r.picture.frozen → IsAmong (root_of_frozen f) (roots_of r.picture)
  frozen_in r f i = (
      let root = root_of_frozen f in
      among_right root r.picture.names (r.picture.uniques ++ (r.picture.loose ++ frozen_roots r.picture)) (among_right root r.picture.uniques (r.picture.loose ++ frozen_roots r.picture)
      (among_right root r.picture.loose (frozen_roots r.picture) (among_frozen f r.picture.frozen i))))

  -- a frozen object that stays opens as it did, since its blocks are kept except for its count
  frozen_opens : (f : Frozen) → IsOneOf f p'.picture.frozen → AlikeRoot new other p.picture.table (root_of_frozen f)
  frozen_opens f i =
      let was = frozen_before p new path place l found begins its hx kx p' bx cx f i in
      let k = was.object in
      let j = order.forth k was.among in
      let at_f = sym was.at_is in
      let there_x = there_before p new path place l found begins its hx kx p' bx k was.among in
      let there_z = subst (λ (z : Table). HoldsRoot second z (root_of_frozen k) (bz.frozen.theirs k.at)) one_table (there_before q other path place m found begins its' hz kz q' bz k j) in
      let alike_k = was_alike (root_of_frozen k) (frozen_in p k was.among) in
      let o = frozen_there first p.picture.table k (bx.frozen.theirs k.at) there_x in
      let u = frozen_there second p.picture.table k (bz.frozen.theirs k.at) there_z in
      let valid = p.held.laid_out.is_table in
      let heap = p.held.laid_out.heap in
      let heap_too = q.held.laid_out.heap in
      let owned = its_live p new path place l found begins its hx kx p' bx k was.among in
      let owned_too = its_live q other path place m found begins its' hz kz q' bz k j in
      let around = its_kept p new path place l found begins its hx kx p' bx k f was.among i at_f in
      let around_too = its_kept q other path place m found begins its' hz kz q' bz k f j (order_after.forth f i) at_f in
      let inside = inside_kept (word first allocator_word) first new p.picture.table valid heap k (bx.frozen.theirs k.at) o owned around in
      let inside_too = inside_kept (word second allocator_word) second other p.picture.table valid heap_too k (bz.frozen.theirs k.at) u owned_too around_too in
      let same = value_same (word first allocator_word) first new p.picture.table valid heap k (bx.frozen.theirs k.at) o owned around in
      let same_too = value_same (word second allocator_word) second other p.picture.table valid heap_too k (bz.frozen.theirs k.at) u owned_too around_too in
      let after = value_kept first second new other p.picture.table valid k o u same same_too inside inside_too alike_k in
      let what = content p new path place l found begins its hx kx p' bx k f was.among i at_f in
      subst (λ (T : ℕ). AlikeEach new other p.picture.table (items p.picture.table (f.at + 8) T 1)) (sym what.type) (subst (λ n. AlikeEach new other p.picture.table (items p.picture.table (n + 8) k.type 1)) (sym what.at) after)

  all_open : AllByRecursion (AlikeRoot new other p.picture.table) (roots_of p'.picture)
  all_open = (
      let r = p'.picture in
      joined r.names (r.uniques ++ (r.loose ++ frozen_roots r)) (each r.names (λ a i. owner_opens a (among_left a r.names (r.uniques ++ r.loose) i)))
      (joined r.uniques (r.loose ++ frozen_roots r) (each r.uniques (λ a i. owner_opens a (among_right a r.names (r.uniques ++ r.loose) (among_left a r.uniques r.loose i))))
      (joined r.loose (frozen_roots r) (each r.loose (λ a i. owner_opens a (among_right a r.names (r.uniques ++ r.loose) (among_right a r.uniques r.loose i)))) (frozen r.frozen (λ f i. frozen_opens f i)))))
    where
      each : (rs : List Root) → ((a : Root) → IsAmong a rs → AlikeRoot new other p.picture.table a) → AllByRecursion (AlikeRoot new other p.picture.table) rs
      each [] f = tt
      each (r ∷ rs) f = (f r (inl refl), each rs (λ a i. f a (inr i)))

      joined : (xs ys : List Root) → AllByRecursion (AlikeRoot new other p.picture.table) xs → AllByRecursion (AlikeRoot new other p.picture.table) ys → AllByRecursion (AlikeRoot new other p.picture.table) (xs ++ ys)
      joined [] ys a b = b
      joined (x ∷ xs) ys a b = (a.0, joined xs ys a.1 b)

      frozen : (fs : List Frozen) → ((f : Frozen) → IsOneOf f fs → AlikeRoot new other p.picture.table (root_of_frozen f)) → AllByRecursion (AlikeRoot new other p.picture.table) (map root_of_frozen fs)
      frozen [] g = tt
      frozen (f ∷ fs) g = (g f (inl refl), frozen fs (λ h i. g h (inr i)))

  -- ---- the index

  one_index_before : alike.held.index_blocks ≡ p.held.index_blocks
  one_index_before = same_index first alike.picture p.picture alike.held p.held

  same_entries : (word new index_kind_word ≡ 0 → ⊥) → SameEntries new other p'.held.index_blocks
  same_entries tree node low some =
      let tree_first : word first index_kind_word ≡ 0 → ⊥ = λ e. tree (bx.kinds ∙ e) in
      let kinds : word second index_kind_word ≡ word first index_kind_word = sym (kinds_same alike) in
      let was = nodes_before p new path place l found begins its hx kx p' bx tree_first (block_of node) some in
      let both_there : 1 ≤ times (block_of node) alike.held.index_blocks = subst (λ bs. 1 ≤ times (block_of node) bs) (sym one_index_before) was in
      let theirs : 1 ≤ times (block_of node) q.held.index_blocks = subst (λ bs. 1 ≤ times (block_of node) bs) (sym alike.index_same ∙ same_index second alike.picture q.picture alike.held_too q.held) both_there in
      let mine_kept = there (KeepsBlock first new) (block_of node) p.held.index_blocks (index_kept p new path place l found begins its hx kx) was in
      let theirs_kept = there (KeepsBlock second other) (block_of node) q.held.index_blocks (index_kept q other path place m found begins its' hz kz) theirs in
      entry_kept second other q.picture q.held (λ e. tree_first (sym kinds ∙ e)) node low theirs theirs_kept ∙ entries_alike alike tree_first node low both_there ∙ sym
      (entry_kept first new p.picture p.held tree_first node low was mine_kept)

  -- the images are alike again
  pub changed_alike : length other ≡ length new → KeepsFront new other → word other next_word ≡ word new next_word → live other ≡ live new → AreAlike others (places_of p'.owned) new other
  changed_alike lengths front next lives = alike_after p' q' (record {
    length_same = lengths;
    front_same = front;
    next_same = next;
    live_same = lives;
    tables = tables_first ∙ sym tables_second;
    names = one_names;
    uniques = one_uniques;
    owned = one_owned;
    order = order_after;
    entries = same_entries;
    roots = subst (λ (z : Table). AllByRecursion (AlikeRoot new other z) (roots_of p'.picture)) (sym tables_first) all_open;
  })
