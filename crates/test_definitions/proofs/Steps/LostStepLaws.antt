-- Rows that destroy one object: two situations that clients can't tell apart stay so if both destroy the same
-- one.
use Rattle.std.proofs.Common.{◌≡◌, ℕ, ◌≤◌, ◌⊎◌, inl, inr, false, List, [], ◌∷◌, ◌++◌, length, Option, Some, refl, sym, ap, ◌∙◌, subst, arith}
use Rattle.std.specs.List.{AllByRecursion}
use Rattle.std.proofs.lemmas.List.{append-nil}
use Rattle.seg_spec.specs.Bytes.{word}
use Rattle.seg_spec.specs.Header.{allocator_word}
use Rattle.seg_spec.specs.Types.{Table}
use Rattle.seg_spec.specs.Heap.{live}
use Rattle.seg_spec.specs.Block.{KeepsBlock}
use Rattle.seg_spec.specs.Apart.{KeepsBlockAround}
use Rattle.seg_spec.specs.Index.{Root}
use Rattle.seg_spec.specs.Frozen.{Frozen, root_of_frozen, blocks_by}
use Rattle.seg_spec.specs.Shared.{names_each, with_count, freed}
use Rattle.seg_spec.specs.Sound.{IsPlain, HoldsRoot, times, positions}
use Rattle.seg_spec.specs.Counting.{owners_in, FrozenGone}
use Rattle.seg_spec.specs.Demand.{after_asks, after_gives}
use Rattle.seg_spec.specs.Roots.{KeepsNodes}
use Rattle.seg_spec.specs.Spending as spending
use Rattle.seg_spec.proofs.Heap.LiveBlockLaws.{times-append, live-once}
use Rattle.seg_spec.proofs.Images.RootLaws.{HoldsRoots-one}
use Rattle.client_spec.specs.Syntax.{Constant, Instruction}
use Rattle.client_spec.specs.Machine.{State}
use Rattle.client_spec.specs.Answer.{success}
use Rattle.client_spec.specs.Pictures.{Pictures}
use Rattle.client_spec.specs.Asks.{RootGoes, GrantsAsks}
use Rattle.client_spec.specs.Ties.{Spot, nowhere, places_of, Both, OfRoot, OfFrozen, TouchesBy, Changes, next_after}
use Rattle.client_spec.specs.OnImages.{Move, Situation, RowOn}
use Rattle.test_definitions.specs.Alike.{AreAlike, StandAlike, StaysAlike}
use Rattle.test_definitions.proofs.ValueChanges.ChangedPlaceLaws.{holds_one}
use Rattle.test_definitions.proofs.Frozen.FreedBlockLaws.{frozen_by}
use Rattle.test_definitions.proofs.Frozen.FrozenApartLaws.{frozen_apart}
use Rattle.test_definitions.proofs.Frozen.FrozenOrderLaws.{IsOneOf, each_of}
use Rattle.test_definitions.proofs.Alike.IndexAlikeLaws.{whole_nodes}
use Rattle.test_definitions.proofs.Rows.KeptImageLaws.{whole}
use Rattle.test_definitions.proofs.Rows.KeptRowLaws.{owned_kept, one}
use Rattle.test_definitions.proofs.Alike.LostObjectLaws.{KeepsRest, LosesObjects}
use Rattle.test_definitions.proofs.Alike.LostAlikeLaws.{lost_alike}
use Rattle.test_definitions.proofs.Rows.OwningRegisterLaws.{moves_owners}
use Rattle.test_definitions.proofs.Steps.PlaceStepLaws.{tables_stay, kinds_stay, nothing_changes}
use Rattle.test_definitions.proofs.Alike.RootMemberLaws.{IsAmong, each_among, among_right, owns}

-- what is freed with the object, and what is kept
pub record Destroys {others : List Root} {s : State} {old : List ℕ} (p : Pictures others s old) (new : List ℕ) (d : Root) : Type 0 where
  pub its : List ℕ
  pub holds_it : HoldsRoot old p.picture.table d its
  -- the blocks that the index loses
  pub entries : List ℕ
  pub of_index : (h : ℕ) → times h entries ≤ times h p.held.index_blocks
  pub shared : List ℕ
  pub freeing : FrozenGone old p.picture (names_each d.values) shared
  pub returned : live new ≡ after_gives (live old) ((its ++ entries) ++ shared)
  pub kept : (h : ℕ) → 1 ≤ times h (positions (live old)) → times h its ≡ 0 → times h p.held.index_blocks ≡ 0 → times h (frozen_apart old p.picture p.held).frozen ≡ 0 → KeepsBlock old new h
  pub nodes : KeepsNodes old new p.held.index_blocks

-- blocks are freed without a request
pub only_given : (constants : List Constant) (i : Instruction) {others : List Root} {s : State} {old : List ℕ} (p : Pictures others s old) (new : List ℕ) (g : GrantsAsks constants i p new) → g.asks ≡ []
    → live new ≡ after_gives (live old) g.gives
only_given constants i {old = old} p new g none =
    let A = word old allocator_word in
    let done : Some (live old) ≡ Some g.blocks = subst (λ as'. after_asks A (live old) (length old) as' ≡ Some g.blocks) none g.granted in
    let blocks : live old ≡ g.blocks = cc in
    g.left ∙ (λ j. after_gives (sym blocks j) (spending.replaced A (live old) (length old) (none j) ++ g.gives))

-- ---- one row

module _ (constants : List Constant) (others : List Root) (moves : List Move) (i : Instruction) (x y : Situation) (r : RowOn constants others moves i x success y) where
  abbrev p : Pictures others r.before.plain x.image
  p = r.before.pictured

  abbrev q : Pictures others r.after.plain y.image
  q = r.after.pictured

  pub held_here : (d : Root) (xs : List ℕ) → HoldsRoot x.image r.before.plain.types d xs → HoldsRoot x.image r.before.pictured.picture.table d xs
  held_here d xs h = subst (λ (t : Table). HoldsRoot x.image t d xs) (sym p.types) h

  pub frozen_are : (ys : List ℕ) → OfFrozen r.before.pictured ys → ys ≡ (frozen_apart x.image r.before.pictured.picture r.before.pictured.held).frozen
  frozen_are ys f = (let a = frozen_apart x.image p.picture p.held in f.own_is ∙ sym (frozen_by x.image p.picture.table f.theirs p.picture.frozen a.frozen a.holds_frozen f.holds))

  pub same_places : moves_owners i.operation success ≡ false → places_of r.after.pictured.owned ≡ places_of r.before.pictured.owned
  same_places e = r.owned_after ∙ owned_kept constants others moves i x y success r e ∙ sym r.owned_before

  pub same_loose : r.after.pictured.owned ≡ r.before.pictured.owned → r.after.pictured.picture.loose ≡ r.before.pictured.picture.loose
  same_loose e = q.loose ∙ ap (λ rs. others ++ rs) e ∙ sym p.loose

  pub loose_plain : (c : Root) → IsAmong c r.before.pictured.owned → IsPlain c × IsAmong c r.before.pictured.picture.loose
  loose_plain c j =
      let loose = subst (IsAmong c) (sym p.loose) (among_right c others p.owned j) in
      (each_among IsPlain c (p.picture.uniques ++ p.picture.loose) (among_right c p.picture.uniques p.picture.loose loose) p.held.laid_out.plain, loose)

  -- the blocks of the index belong to no object
  pub index_apart : (d : Root) (xs : List ℕ) → IsAmong d (owners_in r.before.pictured.picture) → HoldsRoot x.image r.before.pictured.picture.table d xs → (h : ℕ) → 1 ≤ times h r.before.pictured.held.index_blocks
      → (1 ≤ times h (positions (live x.image))) × (times h xs ≡ 0) × (times h (frozen_apart x.image r.before.pictured.picture r.before.pictured.held).frozen ≡ 0)
  index_apart d xs among hold h some =
      let a = frozen_apart x.image p.picture p.held in
      let o = owns x.image p.picture p.held d a.holds_owners among in
      let same = ap (times h) (holds_one x.image p.picture.table d hold o.holds_it) in
      let once = live-once x.image (word x.image allocator_word) p.held.laid_out.heap h in
      (omega (arith, some, a.counts h), omega (arith, some, a.counts h, once, o.fewer h, same), omega (arith, some, a.counts h, once))

  -- a row that destroys an object, frees frozen objects, and changes nothing else
  pub root_destroyed : (g : GrantsAsks constants i r.before.pictured y.image) → g.asks ≡ [] → (o : Option Root) → RootGoes constants i r.before.pictured o g.gives
      → ((spot : Spot) (own : List ℕ) → TouchesBy constants i r.before.pictured i.operation spot own → (spot ≡ nowhere) × Both (OfRoot r.before.pictured o) (OfFrozen r.before.pictured) own)
      → (d : Root) → o ≡ Some d → IsAmong d (owners_in r.before.pictured.picture) → Destroys r.before.pictured y.image d
  root_destroyed g none o goes touches d found among =
      let own = subst (λ z. RootGoes constants i p z g.gives) found goes in
      record {
        its = own.0;
        holds_it = held_here d own.0 own.1;
        entries = [];
        of_index = λ h. omega arith;
        shared = own.2.0;
        freeing = own.2.1;
        returned = only_given constants i p y.image g none ∙ ap (after_gives (live x.image)) (own.2.2 ∙ ap (λ xs. xs ++ own.2.0) (sym (append-nil own.0)));
        kept = λ h some none no_index none_frozen. whole x.image y.image h (around own.0 (held_here d own.0 own.1) h some none none_frozen);
        nodes = whole_nodes x.image y.image p.picture p.held p.held.index_blocks (λ h some. (index_apart d own.0 among (held_here d own.0 own.1) h some).0)
            (λ h some. (let a = index_apart d own.0 among (held_here d own.0 own.1) h some in whole x.image y.image h (around own.0 (held_here d own.0 own.1) h a.0 a.1 a.2)));
      }
    where
      around : (its : List ℕ) → HoldsRoot x.image r.before.pictured.picture.table d its → (h : ℕ) → 1 ≤ times h (positions (live x.image)) → times h its ≡ 0
          → times h (frozen_apart x.image r.before.pictured.picture r.before.pictured.held).frozen ≡ 0 → KeepsBlockAround x.image y.image 0 0 h
      around its hold h some none none_frozen = by r.ties.changes
        where
          by : (y.image ≡ x.image) ⊎ Changes constants i r.before.pictured y.image → KeepsBlockAround x.image y.image 0 0 h
          by (inl e) = nothing_changes x.image y.image p.picture p.held nowhere [] e h some refl
          by (inr c) =
              let t = touches c.spot c.own c.touches in
              let mine = holds_one x.image p.picture.table d (held_here d t.1.0 (subst (λ z. OfRoot p z t.1.0) found t.1.2)) hold in
              let theirs = frozen_are t.1.1 t.1.3 in
              let none_own : times h c.own ≡ 0 = omega (arith, none, none_frozen, ap (times h) mine, ap (times h) theirs, ap (times h) t.1.4, times-append h t.1.0 t.1.1) in
              subst (λ (z : Spot). KeepsBlockAround x.image y.image z.at z.bytes h) t.0 (c.kept h some none_own)

  module _ (d : Root) (k : Destroys r.before.pictured y.image d) (front back : List Root) (owners_were : owners_in r.before.pictured.picture ≡ front ++ d ∷ back) where
    pub keeps : KeepsRest r.before.pictured r.after.pictured front (d ∷ []) back
    keeps = record {
      tables = tables_stay constants others moves i x y success r;
      owners_were = owners_were;
      its = k.its;
      holds_them = HoldsRoots-one x.image p.picture.table k.holds_it;
      kept = k.kept;
    }

    pub lost : owners_in r.after.pictured.picture ≡ front ++ back → LosesObjects r.before.pictured r.after.pictured front (d ∷ []) back
    unfolding keeps
    lost owners_are = record {
      keeps = keeps;
      owners_are = owners_are;
      theirs = k.freeing.theirs;
      holds = k.freeing.holds;
      entries = k.entries;
      of_index = k.of_index;
      returned = k.returned ∙ ap (λ xs. after_gives (live x.image) ((k.its ++ k.entries) ++ xs))
          (k.freeing.blocks_are ∙ ap (λ cs. blocks_by k.freeing.theirs (freed cs p.picture.frozen)) (sym (append-nil (names_each d.values))));
      nodes = k.nodes;
      frozen_kept = frozen_kept;
    }
      where
        frozen_kept : (f g : Frozen) → IsOneOf f r.before.pictured.picture.frozen → IsOneOf g r.after.pictured.picture.frozen → g.at ≡ f.at → AllByRecursion (KeepsBlockAround x.image y.image f.at 4) (k.freeing.theirs f.at)
        frozen_kept f g f_in g_in at =
            let Around = λ (b : Frozen). AllByRecursion (KeepsBlockAround x.image y.image b.at 4) (r.frozen_kept.theirs b.at) in
            let Stays = λ (b a : Frozen). a.at ≡ b.at → (a ≡ with_count b a.count) × Around b in
            let stays = each_of (λ (a : Frozen). Stays f a) g q.picture.frozen g_in (each_of (λ (b : Frozen). AllByRecursion (λ (a : Frozen). Stays b a) q.picture.frozen) f p.picture.frozen f_in r.frozen_kept.each) at in
            let mine = each_of (λ (b : Frozen). HoldsRoot x.image p.picture.table (root_of_frozen b) (r.frozen_kept.theirs b.at)) f p.picture.frozen f_in r.frozen_kept.holds in
            let other = each_of (λ (b : Frozen). HoldsRoot x.image p.picture.table (root_of_frozen b) (k.freeing.theirs b.at)) f p.picture.frozen f_in k.freeing.holds in
            subst (AllByRecursion (KeepsBlockAround x.image y.image f.at 4)) (holds_one x.image p.picture.table (root_of_frozen f) mine other) stays.1

-- ---- both rows

pub both_lost : (constants : List Constant) (others : List Root) (moves : List Move) (i : Instruction) (x z y w : Situation) → StandAlike others x z → (r : RowOn constants others moves i x success y)
    → (q : RowOn constants others moves i z success w) → (front gone back : List Root) → LosesObjects r.before.pictured r.after.pictured front gone back → LosesObjects q.before.pictured q.after.pictured front gone back
    → r.after.pictured.picture.names ≡ q.after.pictured.picture.names → r.after.pictured.picture.uniques ≡ q.after.pictured.picture.uniques → r.after.pictured.owned ≡ q.after.pictured.owned → StaysAlike others success success y w
both_lost constants others moves i x z y w stand r q front gone back l m names uniques owned =
    let alike = stand.images in
    let both = one constants others moves i x z y w success success stand r q in
    let images = lost_alike alike r.before.pictured q.before.pictured r.owned_before (q.owned_before ∙ stand.owned) r.after.pictured q.after.pictured front gone back l m (sym both.2)
    (q.length_kept ∙ alike.length_same ∙ sym r.length_kept) (q.header_kept ∙ alike.front_same ∙ sym r.header_kept)
    (q.ties.next_is ∙ ap (next_after i.operation success) alike.next_same ∙ sym r.ties.next_is) (kinds_stay constants others moves i x y success r) names uniques owned in
    record {
      answers = refl;
      stand = record {
        states = sym both.1;
        owned = sym q.owned_after ∙ ap places_of (sym owned) ∙ r.owned_after;
        images = subst (λ places. AreAlike others places y.image w.image) r.owned_after images;
      };
    }
