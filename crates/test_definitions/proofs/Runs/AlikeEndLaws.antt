-- The objects that registers own are destroyed at the end of a run. So runs that end alike leave images that
-- are alike.
use Rattle.std.specs.Prelude.{is_some, option_and_then}
use Rattle.std.proofs.Common.{◌≡◌, ℕ, ◌≤◌, List, [], ◌∷◌, ◌++◌, Option, Some, None, option_map, refl, sym, ap, ◌∙◌, subst, arith, append_assoc}
use Rattle.std.specs.List.{AllByRecursion}
use Rattle.std.proofs.lemmas.List.{append-nil}
use Rattle.seg_spec.specs.Bytes.{word}
use Rattle.seg_spec.specs.Header.{allocator_word, next_word, index_kind_word}
use Rattle.seg_spec.specs.Types.{Table}
use Rattle.seg_spec.specs.Value.{Value, nth}
use Rattle.seg_spec.specs.Heap.{live}
use Rattle.seg_spec.specs.Block.{block_of}
use Rattle.seg_spec.specs.Apart.{KeepsBlockAround}
use Rattle.seg_spec.specs.Index.{Root, root_named, root_of_type}
use Rattle.seg_spec.specs.Frozen.{Frozen, root_of_frozen, blocks_by}
use Rattle.seg_spec.specs.Shared.{freed, replaced}
use Rattle.seg_spec.specs.Roots.{KeepsNodes}
use Rattle.seg_spec.specs.Sound.{Picture, IsHeld, IsPlain, payload_of, HoldsRoot, HoldsRoots, holds_no_root, holds_more_roots, times, SameBlocks, positions}
use Rattle.seg_spec.specs.Counting.{cells_in, AreCounted}
use Rattle.seg_spec.specs.Demand.{after_gives}
use Rattle.seg_spec.proofs.Heap.FreeOrderLaws.{in_any_order}
use Rattle.seg_spec.proofs.Heap.LiveBlockLaws.{times-append, live-once}
use Rattle.seg_spec.proofs.SliceLaws.{IsSame-part}
use Rattle.seg_spec.proofs.Values.OneValueLaws.{HoldsEach-one}
use Rattle.seg_spec.proofs.Values.PlaceFrameLaws.{word-same, each_left}
use Rattle.client_spec.specs.Machine.{Object, State}
use Rattle.client_spec.specs.OnImages.{Move, Situation, Given, Left, IsLeftAfter}
use Rattle.client_spec.specs.Pictures.{names_in, uniques_in, object_of, meaning_in, Pictures}
use Rattle.client_spec.specs.Ties.{places_of}
use Rattle.client_spec.specs.Trees.{unfolded_object}
use Rattle.test_definitions.specs.Alike.{AlikeRoot, AreAlike, StandAlike}
use Rattle.test_definitions.proofs.ValueChanges.AlikePlaceLaws.{each_alike}
use Rattle.test_definitions.proofs.Alike.AlikeRootLaws.{of_type}
use Rattle.test_definitions.proofs.Frozen.FreedBlockLaws.{frozen_by}
use Rattle.test_definitions.proofs.Frozen.FrozenApartLaws.{frozen_apart}
use Rattle.test_definitions.proofs.Frozen.FrozenOrderLaws.{IsOneOf, each_of}
use Rattle.test_definitions.proofs.Alike.GrownImageLaws.{frozen_in, owner_in}
use Rattle.test_definitions.proofs.Alike.IndexAlikeLaws.{whole_nodes}
use Rattle.test_definitions.proofs.Rows.KeptImageLaws.{whole}
use Rattle.test_definitions.proofs.Alike.LostObjectLaws.{KeepsRest, LosesObjects, rest, names_stay, uniques_stay}
use Rattle.test_definitions.proofs.Alike.LostAlikeLaws.{was_alike, order, each_root, lost_alike}
use Rattle.test_definitions.proofs.Rows.OneFrozenLaws.{freed_blocks}
use Rattle.test_definitions.proofs.Rows.OneState.{AsPictured, as_pictured}
use Rattle.test_definitions.proofs.Alike.RootMemberLaws.{IsAmong, each_among, among_left, among_right}

-- roots that are alike own the same blocks
module _ (first second : List ℕ) (table : Table) where
  root_theirs : (root : Root) (xs ys : List ℕ) → HoldsRoot first table root xs → HoldsRoot second table root ys → AlikeRoot first second table root → xs ≡ ys
  root_theirs root xs ys h k a = h.blocks_are ∙ ap (λ zs. block_of (payload_of root) ∷ zs) (HoldsEach-one second table (each_alike first second table h.values a) k.values).1 ∙ sym k.blocks_are

  roots_theirs : {roots : List Root} {xs ys : List ℕ} → HoldsRoots first table roots xs → HoldsRoots second table roots ys → AllByRecursion (AlikeRoot first second table) roots → xs ≡ ys
  roots_theirs holds_no_root holds_no_root a = refl
  roots_theirs (holds_more_roots {root = root} {blocks = xs} {rest = more} h hs) (holds_more_roots {blocks = ys} {rest = more_too} k ks) a =
      ap (λ zs. zs ++ more) (root_theirs root xs ys h k a.0) ∙ ap (λ zs. ys ++ zs) (roots_theirs hs ks a.1)

-- a state that the image pictures, without registers
abbrev state_of : Picture → State
state_of picture = record { types = picture.table; names = names_in picture; uniques = uniques_in picture; registers = []; input = []; output = [] }

abbrev pictured : (others : List Root) (bytes : List ℕ) (picture : Picture) → IsHeld bytes picture → AreCounted (word bytes next_word) picture → picture.loose ≡ others → Pictures others (state_of picture) bytes
pictured others bytes picture held counted loose = record {
  picture = picture;
  held = held;
  counted = counted;
  types = refl;
  names = λ name. refl;
  uniques = λ T. refl;
  owned = [];
  are_owned = tt;
  loose = loose ∙ sym (append-nil others);
}

-- ---- one image

mapped : {A B : Type 0} (f : A → B) (o : Option A) → is_some (option_map f o) ≡ is_some o
mapped f None = refl
mapped f (Some a) = refl

-- a unique object has a value
unique_value : (r : Picture) → AllByRecursion IsPlain r.uniques → (T : ℕ) → is_some (option_and_then (λ (root : Root). nth root.values 0) (root_of_type r.uniques T)) ≡ is_some (root_of_type r.uniques T)
unique_value r plain T = go (root_of_type r.uniques T) refl
  where
    go : (o : Option Root) → root_of_type r.uniques T ≡ o → is_some (option_and_then (λ (root : Root). nth root.values 0) o) ≡ is_some o
    go None e = refl
    go (Some root) e = ap (λ vs. is_some (nth vs 0)) (each_among IsPlain root r.uniques (of_type r.uniques T root e) plain).values_are

module _ (given : Given) (x : Situation) (left_is : Left) (e : IsLeftAfter given x left_is) where
  abbrev before : Pictures given.others e.trees.plain x.image
  before = e.trees.pictured

  abbrev was : Picture
  was = e.trees.pictured.picture

  abbrev after : Pictures given.others (state_of e.picture) left_is.image
  after = pictured given.others left_is.image e.picture e.held e.counted e.loose

  abbrev front : List Root
  front = e.trees.pictured.picture.names ++ (e.trees.pictured.picture.uniques ++ given.others)

  abbrev owned : List Root
  owned = e.trees.pictured.owned

  tables : e.trees.pictured.picture.table ≡ x.state.types
  tables = before.types ∙ sym (ap (λ (s : State). s.types) e.trees.trees)

  frozen_are : (frozen_apart x.image e.trees.pictured.picture e.trees.pictured.held).frozen ≡ blocks_by e.shared.theirs e.trees.pictured.picture.frozen
  frozen_are = (let a = frozen_apart x.image was before.held in frozen_by x.image was.table e.shared.theirs was.frozen a.frozen a.holds_frozen e.shared.holds)

  around : (h : ℕ) → 1 ≤ times h (positions (live x.image)) → times h e.owned_blocks ≡ 0 → times h (frozen_apart x.image e.trees.pictured.picture e.trees.pictured.held).frozen ≡ 0 → KeepsBlockAround x.image left_is.image 0 0 h
  around h some none none_frozen = e.kept h some (omega (arith, none, none_frozen, ap (times h) frozen_are, times-append h e.owned_blocks (blocks_by e.shared.theirs was.frozen)))

  grouped : (a b c f : List Root) → a ++ (b ++ (c ++ f)) ≡ (a ++ (b ++ c)) ++ f
  grouped a b c f = simp append_assoc

  abbrev keeps : KeepsRest before after front owned []
  keeps = record {
    tables = e.types ∙ sym tables;
    owners_were = ap (λ rs. was.names ++ (was.uniques ++ rs)) before.loose ∙ grouped was.names was.uniques given.others before.owned ∙ ap (λ rs. front ++ rs) (sym (append-nil before.owned));
    its = e.owned_blocks;
    holds_them = subst (λ (t : Table). HoldsRoots x.image t before.owned e.owned_blocks) (sym tables) e.owned;
    kept = λ h some none no_index none_frozen. whole x.image left_is.image h (around h some none none_frozen);
  }

  pub names_same : e.picture.names ≡ e.trees.pictured.picture.names
  names_same = names_stay before after front owned [] keeps was.names (λ c j. among_left c front [] (among_left c was.names (was.uniques ++ given.others) j)) before.held.laid_out.names.ascending as_many e.objects_stay.names
    where
      m : ℕ → Value
      m = meaning_in (word x.image next_word) e.trees.pictured.picture

      m' : ℕ → Value
      m' = meaning_in (word left_is.image next_word) e.picture

      as_many : (name : List ℕ) → is_some (root_named e.picture.names name) ≡ is_some (root_named e.trees.pictured.picture.names name)
      as_many name =
          sym (mapped object_of (root_named e.picture.names name)) ∙ sym (mapped (unfolded_object m') (names_in e.picture name)) ∙ sym (ap (λ (o : Option Object). is_some o) (e.objects.names name))
          ∙ ap (λ (s : State). is_some (s.names name)) e.trees.trees ∙ mapped (unfolded_object m) (e.trees.plain.names name) ∙ ap (λ (o : Option Object). is_some o) (before.names name) ∙ mapped object_of (root_named was.names name)

  pub uniques_same : e.picture.uniques ≡ e.trees.pictured.picture.uniques
  uniques_same = uniques_stay before after front owned [] keeps was.uniques
      (λ c j. among_left c front [] (among_right c was.names (was.uniques ++ given.others) (among_left c was.uniques given.others j))) before.held.laid_out.uniques.rising as_many e.objects_stay.uniques
    where
      m : ℕ → Value
      m = meaning_in (word x.image next_word) e.trees.pictured.picture

      m' : ℕ → Value
      m' = meaning_in (word left_is.image next_word) e.picture

      as_many : (T : ℕ) → is_some (root_of_type e.picture.uniques T) ≡ is_some (root_of_type e.trees.pictured.picture.uniques T)
      as_many T =
          sym (unique_value e.picture (each_left IsPlain e.picture.uniques e.picture.loose e.held.laid_out.plain) T) ∙ sym (mapped (replaced m') (uniques_in e.picture T)) ∙ sym (ap (λ (o : Option Value). is_some o) (e.objects.uniques T))
          ∙ ap (λ (s : State). is_some (s.uniques T)) e.trees.trees ∙ mapped (replaced m) (e.trees.plain.uniques T) ∙ ap (λ (o : Option Value). is_some o) (before.uniques T)
          ∙ unique_value was (each_left IsPlain was.uniques was.loose before.held.laid_out.plain) T

  nodes : KeepsNodes x.image left_is.image e.trees.pictured.held.index_blocks
  nodes = whole_nodes x.image left_is.image was before.held before.held.index_blocks (λ h some. (let n = (rest before after front owned [] keeps).counts h in omega (arith, n, some))) (λ h some. (
      let n = (rest before after front owned [] keeps).counts h in
      let once = live-once x.image (word x.image allocator_word) before.held.laid_out.heap h in
      whole x.image left_is.image h (around h (omega (arith, n, some)) (omega (arith, n, once, some)) (omega (arith, n, once, some)))))

  pub loses : LosesObjects before after front owned []
  loses = record {
    keeps = keeps;
    owners_are = (λ j. names_same j ++ (uniques_same j ++ e.loose j)) ∙ sym (append-nil front);
    theirs = e.shared.theirs;
    holds = e.shared.holds;
    entries = [];
    of_index = λ h. omega arith;
    returned = e.returned ∙ (λ j. after_gives (live x.image) (append-nil-back j ++ e.shared.blocks_are j));
    nodes = nodes;
    frozen_kept = λ f g f_in g_in at. subst (λ n. AllByRecursion (KeepsBlockAround x.image left_is.image n 4) (e.shared.theirs n)) at
        (each_of (λ (k : Frozen). AllByRecursion (KeepsBlockAround x.image left_is.image k.at 4) (e.shared.theirs k.at)) g e.picture.frozen g_in e.frozen_kept);
  }
    where
      append-nil-back : e.owned_blocks ≡ e.owned_blocks ++ []
      append-nil-back = sym (append-nil e.owned_blocks)

  pub kinds_stay : word left_is.image index_kind_word ≡ word x.image index_kind_word
  kinds_stay = word-same x.image left_is.image index_kind_word (IsSame-part x.image left_is.image 0 24 index_kind_word 4 (omega arith) (omega arith) e.header_kept)

-- ---- both images

module _ (others : List Root) (moves moves_too : List Move) (base base_too : ℕ) (input input_too image image_too host host_too : List ℕ) (x z : Situation) (left_is other_is : Left) (stand : StandAlike others x z) where
  abbrev given : Given
  given = record { others = others; moves = moves; image = image; host = host; base = base; input = input }

  abbrev given_too : Given
  given_too = record { others = others; moves = moves_too; image = image_too; host = host_too; base = base_too; input = input_too }

  module _ (e : IsLeftAfter given x left_is) (f : IsLeftAfter given_too z other_is) where
    abbrev p : Pictures others e.trees.plain x.image
    p = e.trees.pictured

    abbrev q : Pictures others f.trees.plain z.image
    q = f.trees.pictured

    abbrev a : AreAlike others x.owned x.image z.image
    a = stand.images

    abbrev table : Table
    table = e.trees.pictured.picture.table

    at_too : places_of f.trees.pictured.owned ≡ x.owned
    at_too = f.owned_are ∙ stand.owned

    pictures : AsPictured p q
    pictures = (as_pictured others x.owned x.image z.image a p q e.owned_are at_too).0

    -- ---- the allocated blocks

    types_x : x.state.types ≡ table
    types_x = sym (tables given x left_is e)

    types_z : z.state.types ≡ table
    types_z = ap (λ (s : State). s.types) stand.states ∙ types_x

    owned_alike : AllByRecursion (AlikeRoot x.image z.image table) p.owned
    owned_alike = each_root (AlikeRoot x.image z.image table) p.owned (λ c j. (
        let loose = subst (IsAmong c) (sym p.loose) (among_right c others p.owned j) in
        was_alike a p q e.owned_are at_too c (owner_in p.picture c (among_right c p.picture.names (p.picture.uniques ++ p.picture.loose) (among_right c p.picture.uniques p.picture.loose loose)))))

    owned_blocks : e.owned_blocks ≡ f.owned_blocks
    owned_blocks =
        let mine = subst (λ t. HoldsRoots x.image t p.owned e.owned_blocks) types_x e.owned in
        let theirs = subst (λ rs. HoldsRoots z.image table rs f.owned_blocks) (sym pictures.owned) (subst (λ t. HoldsRoots z.image t q.owned f.owned_blocks) types_z f.owned) in
        roots_theirs x.image z.image table mine theirs owned_alike

    object_blocks : (k : Frozen) → IsOneOf k q.picture.frozen → e.shared.theirs k.at ≡ f.shared.theirs k.at
    object_blocks k i =
        let in_p = (order a p q e.owned_are at_too).back k i in
        let mine = each_of (λ (g : Frozen). HoldsRoot x.image table (root_of_frozen g) (e.shared.theirs g.at)) k p.picture.frozen in_p e.shared.holds in
        let theirs = each_of (λ (g : Frozen). HoldsRoot z.image q.picture.table (root_of_frozen g) (f.shared.theirs g.at)) k q.picture.frozen i f.shared.holds in
        root_theirs x.image z.image table (root_of_frozen k) (e.shared.theirs k.at) (f.shared.theirs k.at) mine (subst (λ t. HoldsRoot z.image t (root_of_frozen k) (f.shared.theirs k.at)) (sym pictures.same.table) theirs)
        (was_alike a p q e.owned_are at_too (root_of_frozen k) (frozen_in p.picture k in_p))

    same_freed : SameBlocks (f.owned_blocks ++ f.shared_blocks) (e.owned_blocks ++ e.shared_blocks)
    same_freed h =
        let shared = freed_blocks [] (cells_in p.owned) p.picture.frozen q.picture.frozen e.shared.theirs f.shared.theirs (order a p q e.owned_are at_too) object_blocks h in
        let cells = ap (λ rs. times h (blocks_by f.shared.theirs (freed (cells_in rs) q.picture.frozen))) pictures.owned in
        let mine = ap (times h) e.shared.blocks_are in
        let theirs = ap (times h) f.shared.blocks_are in
        let owned = ap (times h) owned_blocks in
        omega (arith, shared, cells, mine, theirs, owned, times-append h e.owned_blocks e.shared_blocks, times-append h f.owned_blocks f.shared_blocks)

    live_too : live other_is.image ≡ live left_is.image
    live_too = f.returned ∙ ap (λ bs. after_gives bs (f.owned_blocks ++ f.shared_blocks)) a.live_same ∙ in_any_order (live x.image) (f.owned_blocks ++ f.shared_blocks) (e.owned_blocks ++ e.shared_blocks) same_freed ∙ sym e.returned

    -- ---- the images after

    abbrev now : Pictures others (state_of e.picture) left_is.image
    now = pictured others left_is.image e.picture e.held e.counted e.loose

    abbrev now_too : Pictures others (state_of f.picture) other_is.image
    now_too = pictured others other_is.image f.picture f.held f.counted f.loose

    front_same : q.picture.names ++ (q.picture.uniques ++ others) ≡ p.picture.names ++ (p.picture.uniques ++ others)
    front_same = λ j. sym pictures.same.names j ++ (sym pictures.same.uniques j ++ others)

    loses_too : LosesObjects q now_too (p.picture.names ++ (p.picture.uniques ++ others)) p.owned []
    loses_too = subst (λ rs. LosesObjects q now_too (p.picture.names ++ (p.picture.uniques ++ others)) rs []) (sym pictures.owned) (subst (λ rs. LosesObjects q now_too rs q.owned []) front_same (loses given_too z other_is f))

    pub ends_alike : AreAlike others [] left_is.image other_is.image
    ends_alike = lost_alike a p q e.owned_are at_too now now_too (p.picture.names ++ (p.picture.uniques ++ others)) p.owned [] (loses given x left_is e) loses_too live_too
        (f.length_kept ∙ a.length_same ∙ sym e.length_kept) (f.header_kept ∙ a.front_same ∙ sym e.header_kept) (f.next_kept ∙ a.next_same ∙ sym e.next_kept) (kinds_stay given x left_is e)
        (names_same given x left_is e ∙ pictures.same.names ∙ sym (names_same given_too z other_is f)) (uniques_same given x left_is e ∙ pictures.same.uniques ∙ sym (uniques_same given_too z other_is f)) refl

-- the same for any two clients' givens with the same loose objects
pub ends_alike_too : (given other : Given) (x z : Situation) (left left_too : Left) → other.others ≡ given.others → StandAlike given.others x z → IsLeftAfter given x left → IsLeftAfter other z left_too
    → AreAlike given.others [] left.image left_too.image
ends_alike_too given other x z left left_too same stand e f =
    let there = subst (λ o. IsLeftAfter (record other { others = o }) z left_too) same f in
    ends_alike given.others given.moves other.moves given.base other.base given.input other.input given.image other.image given.host other.host x z left left_too stand e there
