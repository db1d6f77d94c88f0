-- An image that lost objects that no value owns, with the frozen objects to which no other cell points. Its
-- index may have changed. All other objects stay.
use Rattle.std.proofs.Common.{◌≡◌, ◌≢◌, ℕ, ◌+◌, ◌≤◌, ◌⊎◌, inl, inr, List, [], ◌∷◌, ◌++◌, map, Option, Some, None, refl, sym, ap, ◌∙◌, subst, arith}
use Rattle.std.specs.Prelude.{is_some}
use Rattle.std.specs.List.{AllByRecursion}
use Rattle.std.proofs.lemmas.Bool.{cases_eq}
use Rattle.seg_spec.specs.Bytes.{word}
use Rattle.seg_spec.specs.Header.{allocator_word, next_word}
use Rattle.seg_spec.specs.Types.{Table, IsTable}
use Rattle.seg_spec.specs.Heap.{live}
use Rattle.seg_spec.specs.Block.{KeepsBlock, block_of}
use Rattle.seg_spec.specs.Apart.{KeepsBlockAround}
use Rattle.seg_spec.specs.Reads.{Place}
use Rattle.seg_spec.specs.Index.{Root, AreAscending, AreRising, root_named, root_of_type}
use Rattle.seg_spec.specs.Frozen.{Frozen, root_of_frozen, blocks_by}
use Rattle.seg_spec.specs.Shared.{names_in, IsBelow, IsCounted, left, freed}
use Rattle.seg_spec.specs.Sound.{IsPlain, HoldsRoot, HoldsRoots, times, positions}
use Rattle.seg_spec.specs.Counting.{cells_in, owners_in}
use Rattle.seg_spec.specs.Destroying.{HoldFrozen}
use Rattle.seg_spec.specs.Demand.{after_gives}
use Rattle.seg_spec.specs.Roots.{HasFace, KeepsNodes}
use Rattle.seg_spec.proofs.Heap.LiveBlockLaws.{times-append, times-same, each_there, live-once}
use Rattle.seg_spec.proofs.Values.PlaceFrameLaws.{each_right, each_weaker}
use Rattle.seg_spec.proofs.Images.RootLaws.{HoldsRoots-split, HoldsRoots-append}
use Rattle.seg_spec.proofs.Images.RootFrameLaws.{HoldsRoots-kept}
use Rattle.seg_spec.proofs.Frozen.PictureCountLaws.{cells_append, counted_first}
use Rattle.seg_spec.proofs.Frozen.SharedLaws.{left_or_freed}
use Rattle.seg_spec.proofs.Frozen.ReleaseLaws.{IsFrozenThere, frozen_there}
use Rattle.client_spec.specs.Machine.{State}
use Rattle.client_spec.specs.Pictures.{Pictures}
use Rattle.client_spec.specs.Ties.{places_of}
use Rattle.client_sim.proofs.Names.OnePictureLaws.{plain-one}
use Rattle.test_definitions.proofs.Alike.AlikeRootLaws.{of_type}
use Rattle.test_definitions.proofs.Frozen.FreedBlockLaws.{roots_one, frozen_by, face_one, gives_times, parted, its_fewer, owned_by, at_one, at_times}
use Rattle.test_definitions.proofs.Frozen.FrozenApartLaws.{FrozenApart, frozen_apart}
use Rattle.test_definitions.proofs.Frozen.FrozenContentLaws.{same_content, same_blocks}
use Rattle.test_definitions.proofs.Frozen.FrozenOrderLaws.{IsOneOf, each_of}
use Rattle.test_definitions.proofs.Frozen.FrozenStayLaws.{SameContent, stays}
use Rattle.test_definitions.proofs.Alike.GrownImageLaws.{owner_in}
use Rattle.test_definitions.proofs.Alike.ListedRootLaws.{names_listed, types_listed}
use Rattle.test_definitions.proofs.Rows.OneFrozenLaws.{is_there}
use Rattle.test_definitions.proofs.Frozen.ReachedFrozenLaws.{StandsAt, below_stands, all_reached}
use Rattle.test_definitions.proofs.Alike.RootMemberLaws.{IsAmong, each_among, among_left, among_right, Owns, owns, looked_up}

each_object : (P : Frozen → Type 0) (fs : List Frozen) → ((f : Frozen) → IsOneOf f fs → P f) → AllByRecursion P fs
each_object P [] a = tt
each_object P (f ∷ fs) a = (a f (inl refl), each_object P fs (λ g i. a g (inr i)))

module _ {others : List Root} {s t : State} {old new : List ℕ} (p : Pictures others s old) (p' : Pictures others t new) (front gone back : List Root) where
  -- ---- the objects that stay

  -- `gone` are the objects that go, and `its` their blocks
  pub record KeepsRest : Type 0 where
    pub tables : p'.picture.table ≡ p.picture.table
    pub owners_were : owners_in p.picture ≡ front ++ (gone ++ back)
    pub its : List ℕ
    pub holds_them : HoldsRoots old p.picture.table gone its
    pub kept : (h : ℕ) → 1 ≤ times h (positions (live old)) → times h its ≡ 0 → times h p.held.index_blocks ≡ 0 → times h (frozen_apart old p.picture p.held).frozen ≡ 0 → KeepsBlock old new h

  module _ (k : KeepsRest) where
    abbrev apart : FrozenApart old p.picture p.held
    apart = frozen_apart old p.picture p.held

    pub record Rest : Type 0 where
      pub blocks : List ℕ
      pub holds_rest : HoldsRoots old p.picture.table (front ++ back) blocks
      pub counts : (h : ℕ) → times h (positions (live old)) ≡ times h p.held.index_blocks + (times h blocks + (times h k.its + times h (frozen_apart old p.picture p.held).frozen))

    pub rest : Rest
    rest =
        let a = HoldsRoots-split old p.picture.table front (gone ++ back) apart.owners (subst (λ rs. HoldsRoots old p.picture.table rs apart.owners) k.owners_were apart.holds_owners) in
        let b = HoldsRoots-split old p.picture.table gone back a.right a.rights in
        let same = roots_one old p.picture.table b.lefts k.holds_them in
        record {
          blocks = a.left ++ b.right;
          holds_rest = HoldsRoots-append old p.picture.table a.lefts b.rights;
          counts = λ h. (
              let n = ap (times h) a.blocks_are ∙ times-append h a.left a.right in
              let m = ap (times h) b.blocks_are ∙ times-append h b.left b.right in
              omega (arith, apart.counts h, n, m, ap (times h) same, times-append h a.left b.right));
        }

    once : (h : ℕ) → times h (positions (live old)) ≤ 1
    once = live-once old (word old allocator_word) p.held.laid_out.heap

    pub rest_kept : AllByRecursion (KeepsBlock old new) rest.blocks
    rest_kept = each_there (KeepsBlock old new) rest.blocks (λ h some. (
        let n = rest.counts h in
        let o = once h in
        k.kept h (omega (arith, n, some)) (omega (arith, n, o, some)) (omega (arith, n, o, some)) (omega (arith, n, o, some))))

    pub still : HoldsRoots new p'.picture.table (front ++ back) rest.blocks
    still = subst (λ (z : Table). HoldsRoots new z (front ++ back) rest.blocks) (sym k.tables) (HoldsRoots-kept old new p.picture.table p.held.laid_out.is_table rest.holds_rest rest_kept)

    mine_now : (c : Root) → IsAmong c (owners_in p'.picture) → Owns new p'.picture p'.held c p'.held.root_blocks
    mine_now c i = owns new p'.picture p'.held c p'.held.roots (owner_in p'.picture c i)

    faced_one : (c e : Root) → IsAmong c (front ++ back) → IsAmong e (owners_in p'.picture) → HasFace c e → e ≡ c
    faced_one c e i j face =
        let o = owns new p'.picture p'.held c still i in
        let m = mine_now e j in
        sym (face_one new p'.picture.table c e o.its m.its face o.holds_it m.holds_it)

    placed_one : (c e : Root) → IsAmong c (front ++ back) → IsAmong e (owners_in p'.picture) → IsPlain c → IsPlain e → e.at ≡ c.at → e ≡ c
    placed_one c e i j plain plain_too at =
        let o = owns new p'.picture p'.held c still i in
        let m = mine_now e j in
        plain-one new p'.picture.table e c m.its o.its at plain_too plain m.holds_it o.holds_it

    -- both lists have an object, or neither, and their objects are the same
    one_found : (a b : Option Root) → is_some a ≡ is_some b → ((c e : Root) → a ≡ Some c → b ≡ Some e → c ≡ e) → a ≡ b
    one_found None None e f = refl
    one_found None (Some c) e f = cc
    one_found (Some c) None e f = cc
    one_found (Some c) (Some e) same f = ap (λ (z : Root). Some z) (f c e refl refl)

    pub names_stay : (rs : List Root) → ((c : Root) → IsAmong c rs → IsAmong c (front ++ back)) → AreAscending (map (λ (r : Root). r.name) rs)
        → ((name : List ℕ) → is_some (root_named p'.picture.names name) ≡ is_some (root_named rs name))
        → ((name : List ℕ) (c e : Root) → root_named rs name ≡ Some c → root_named p'.picture.names name ≡ Some e → HasFace c e) → p'.picture.names ≡ rs
    names_stay rs among ascending as_many faces = names_listed p'.picture.names rs p'.held.laid_out.names.ascending ascending
        (λ name. one_found (root_named p'.picture.names name) (root_named rs name) (as_many name)
        (λ e c f g. faced_one c e (among c (looked_up name c rs g).0) (among_left e p'.picture.names (p'.picture.uniques ++ p'.picture.loose) (looked_up name e p'.picture.names f).0) (faces name c e g f)))

    pub uniques_stay : (rs : List Root) → ((c : Root) → IsAmong c rs → IsAmong c (front ++ back)) → AreRising 0 rs
        → ((T : ℕ) → is_some (root_of_type p'.picture.uniques T) ≡ is_some (root_of_type rs T))
        → ((T : ℕ) (c e : Root) → root_of_type rs T ≡ Some c → root_of_type p'.picture.uniques T ≡ Some e → HasFace c e) → p'.picture.uniques ≡ rs
    uniques_stay rs among rising as_many faces = types_listed 0 0 p'.picture.uniques rs p'.held.laid_out.uniques.rising rising
        (λ T. one_found (root_of_type p'.picture.uniques T) (root_of_type rs T) (as_many T)
        (λ e c f g. (
        let unique = among_left e p'.picture.uniques p'.picture.loose (of_type p'.picture.uniques T e f) in
        faced_one c e (among c (of_type rs T c g)) (among_right e p'.picture.names (p'.picture.uniques ++ p'.picture.loose) unique) (faces T c e g f))))

    owned_loose : (e : Root) → IsAmong e p'.owned → IsAmong e p'.picture.loose
    owned_loose e j = subst (IsAmong e) (sym p'.loose) (among_right e others p'.owned j)

    pub owned_stay : (rs : List Root) → ((c : Root) → IsAmong c rs → IsPlain c × IsAmong c (front ++ back)) → places_of p'.owned ≡ places_of rs → p'.owned ≡ rs
    owned_stay rs among at = pairs rs p'.owned at (λ c j. among c j) (λ e j. j)
      where
        pairs : (cs es : List Root) → places_of es ≡ places_of cs → ((c : Root) → IsAmong c cs → IsPlain c × IsAmong c (front ++ back)) → ((e : Root) → IsAmong e es → IsAmong e p'.owned) → es ≡ cs
        pairs [] [] e f g = refl
        pairs [] (b ∷ es) e f g = cc
        pairs (c ∷ cs) [] e f g = cc
        pairs (c ∷ cs) (b ∷ es) e f g =
            let loose = owned_loose b (g b (inl refl)) in
            let owner = among_right b p'.picture.names (p'.picture.uniques ++ p'.picture.loose) (among_right b p'.picture.uniques p'.picture.loose loose) in
            let plain = each_among IsPlain b (p'.picture.uniques ++ p'.picture.loose) (among_right b p'.picture.uniques p'.picture.loose loose) p'.held.laid_out.plain in
            let was = f c (inl refl) in
            let first = placed_one c b was.1 owner was.0 plain (let same : b.at ≡ c.at = cc in same) in
            let more = pairs cs es (let later : places_of es ≡ places_of cs = cc in later) (λ z j. f z (inr j)) (λ z j. g z (inr j)) in
            λ j. first j ∷ more j

  -- ---- the frozen objects and the index

  pub record LosesObjects : Type 0 where
    pub keeps : KeepsRest
    pub owners_are : owners_in p'.picture ≡ front ++ back
    pub theirs : ℕ → List ℕ
    pub holds : HoldFrozen old p.picture.table theirs p.picture.frozen
    -- the blocks that the index loses
    pub entries : List ℕ
    pub of_index : (h : ℕ) → times h entries ≤ times h p.held.index_blocks
    pub returned : live new ≡ after_gives (live old) ((keeps.its ++ entries) ++ blocks_by theirs (freed (cells_in gone) p.picture.frozen))
    pub nodes : KeepsNodes old new p.held.index_blocks
    pub frozen_kept : (f g : Frozen) → IsOneOf f p.picture.frozen → IsOneOf g p'.picture.frozen → g.at ≡ f.at → AllByRecursion (KeepsBlockAround old new f.at 4) (theirs f.at)

  module _ (l : LosesObjects) where
    abbrev frozen : List Frozen
    frozen = p.picture.frozen

    abbrev gone_cells : List Place
    gone_cells = cells_in gone

    -- the cells of the objects that stay
    abbrev kept_cells : List Place
    kept_cells = cells_in (front ++ back)

    valid : IsTable p.picture.table
    valid = p.held.laid_out.is_table

    counts : (h : ℕ) → times h (positions (live old)) ≡ times h p.held.index_blocks + (times h (rest l.keeps).blocks + (times h l.keeps.its + times h (blocks_by l.theirs p.picture.frozen)))
    counts h =
        let a = apart l.keeps in
        let same = frozen_by old p.picture.table l.theirs frozen a.frozen a.holds_frozen l.holds in
        omega (arith, (rest l.keeps).counts h, ap (times h) same)

    live_after : (h : ℕ) → times h (positions (live new)) + ((times h l.keeps.its + times h l.entries) + times h (blocks_by l.theirs (freed (cells_in gone) p.picture.frozen))) ≡ times h (positions (live old))
    live_after h =
        let its = l.keeps.its in
        let shared = blocks_by l.theirs (freed gone_cells frozen) in
        let each = λ (g : ℕ). times-append g (its ++ l.entries) shared in
        let inner = λ (g : ℕ). times-append g its l.entries in
        let all = gives_times (live old) ((its ++ l.entries) ++ shared) h (λ g. omega (arith, each g, inner g, parted l.theirs gone_cells frozen g, l.of_index g, counts g)) in
        omega (arith, all, ap (λ bs. times h (positions bs)) l.returned, each h, inner h)

    -- ---- frozen objects

    counted_before : IsCounted (word old next_word) p.picture.frozen (cells_in gone ++ cells_in (front ++ back))
    counted_before =
        let next = word old next_word in
        let were = ap cells_in l.keeps.owners_were ∙ cells_append front (gone ++ back) ∙ ap (λ cs. cells_in front ++ cs) (cells_append gone back) in
        let first = counted_first next frozen (cells_in front) (cells_in gone) (cells_in back) (subst (IsCounted next frozen) were p.counted.counted) in
        subst (λ cs. IsCounted next frozen (cells_in gone ++ cs)) (sym (cells_append front back)) first

    pub counted_after : IsCounted (word new next_word) p'.picture.frozen (cells_in (front ++ back))
    counted_after = subst (IsCounted (word new next_word) p'.picture.frozen) (ap cells_in l.owners_are) p'.counted.counted

    -- an object of both pictures
    module _ (f g : Frozen) (f_in : IsOneOf f p.picture.frozen) (g_in : IsOneOf g p'.picture.frozen) (at : g.at ≡ f.at) where
      pub there_before : IsFrozenThere old p.picture.table f (l.theirs f.at)
      there_before = frozen_there old p.picture.table f (l.theirs f.at) (each_of (λ (k : Frozen). HoldsRoot old p.picture.table (root_of_frozen k) (l.theirs k.at)) f frozen f_in l.holds)

      pub its_owned : (h : ℕ) → times h (l.theirs f.at) ≤ times h (positions (live old))
      its_owned h = omega (arith, its_fewer l.theirs f frozen f_in h, counts h)

      pub its_kept : AllByRecursion (KeepsBlockAround old new f.at 4) (l.theirs f.at)
      its_kept = l.frozen_kept f g f_in g_in at

      now_there : (its : List ℕ) × HoldsRoot new p.picture.table (root_of_frozen g) its
      now_there = (let m = is_there new p'.picture p'.held g g_in in (m.its, subst (λ (z : Table). HoldsRoot new z (root_of_frozen g) m.its) l.keeps.tables m.holds))

      pub content : SameContent f g
      content = same_content (word old allocator_word) old new p.picture.table valid p.held.laid_out.heap f (l.theirs f.at) there_before its_owned its_kept g now_there.0 at (frozen_there new p.picture.table g now_there.0 now_there.1)

      holds_then : HoldsRoot new p.picture.table (root_of_frozen g) (l.theirs g.at)
      holds_then =
          let same = same_blocks (word old allocator_word) old new p.picture.table valid p.held.laid_out.heap f (l.theirs f.at) there_before its_owned its_kept g now_there.0 at
          (frozen_there new p.picture.table g now_there.0 now_there.1) in
          subst (HoldsRoot new p.picture.table (root_of_frozen g)) (same ∙ ap l.theirs (sym at)) now_there.1

    -- the blocks of an object that is freed aren't allocated any more
    freed_gone : (h : ℕ) → 1 ≤ times h (blocks_by l.theirs (freed (cells_in gone) p.picture.frozen)) → times h (positions (live new)) ≡ 0
    freed_gone h some = omega (arith, some, live_after h, once l.keeps h)

    -- an object with an allocated block stays
    object_stays : (f : Frozen) → IsOneOf f p.picture.frozen → (h : ℕ) → 1 ≤ times h (l.theirs f.at) → 1 ≤ times h (positions (live new)) → StandsAt f.at p'.picture.frozen
    object_stays f i h mine some = by (cases_eq (times f.at (map (λ (g : Frozen). g.at) (freed gone_cells frozen))) 0)
      where
        by : (times f.at (map (λ (g : Frozen). g.at) (freed (cells_in gone) p.picture.frozen)) ≡ 0) ⊎ (times f.at (map (λ (g : Frozen). g.at) (freed (cells_in gone) p.picture.frozen)) ≢ 0) → StandsAt f.at p'.picture.frozen
        by (inr more) = absurd (
            let k = at_one f.at (freed gone_cells frozen) (omega (arith, more)) in
            let owns_it : 1 ≤ times h (l.theirs k.object.at) = subst (λ n. 1 ≤ times h (l.theirs n)) (sym k.at_is) mine in
            omega (arith, some, freed_gone h (omega (arith, owns_it, its_fewer l.theirs k.object (freed gone_cells frozen) k.among h))))
        by (inl none) =
            let k = at_one f.at (left gone_cells frozen) (omega (arith, none, at_times f frozen i, left_or_freed f.at gone_cells frozen)) in
            let stay = stays (word old next_word) (word new next_word) gone_cells kept_cells frozen p'.picture.frozen p.counted.falling counted_before counted_after (λ a b i j at. (content a b i j at).value) k.object k.among in
            record { object = stay.object; among = stay.among; at_is = stay.at_is ∙ k.at_is }

    pub frozen_stays : (f : Frozen) → IsOneOf f p.picture.frozen → 1 ≤ times (block_of f.at) (positions (live new)) → StandsAt f.at p'.picture.frozen
    frozen_stays f i some = (
        let o = frozen_there old p.picture.table f (l.theirs f.at) (each_of (λ (k : Frozen). HoldsRoot old p.picture.table (root_of_frozen k) (l.theirs k.at)) f frozen i l.holds) in
        let mine = ap (times (block_of f.at)) o.blocks_are in
        object_stays f i (block_of f.at) (omega (arith, mine, times-same (block_of f.at) o.inside)) some)

    -- no frozen object came
    pub frozen_was : (g : Frozen) → IsOneOf g p'.picture.frozen → StandsAt g.at p.picture.frozen
    frozen_was g i = all_reached (word new next_word) p'.picture.frozen kept_cells counted_after frozen falls cells (λ a b j k e. (content b a k j e).value) g i
      where
        stand : (n : ℕ) (zs : List Place) → AllByRecursion (IsBelow n p.picture.frozen) zs → AllByRecursion (λ (z : Place). StandsAt z.at p.picture.frozen) zs
        stand n zs a = each_weaker (IsBelow n frozen) (λ (z : Place). StandsAt z.at frozen) (λ z b. (below_stands n frozen z b).0) zs a

        falls : AllByRecursion (λ (f : Frozen). AllByRecursion (λ (z : Place). StandsAt z.at p.picture.frozen) (names_in f.value)) p.picture.frozen
        falls = each_weaker (λ (f : Frozen). AllByRecursion (IsBelow f.number frozen) (names_in f.value)) _ (λ f b. stand f.number (names_in f.value) b) frozen p.counted.counted.falling

        cells : AllByRecursion (λ (z : Place). StandsAt z.at p.picture.frozen) (cells_in (front ++ back))
        cells = stand (word old next_word) kept_cells (each_right (IsBelow (word old next_word) frozen) gone_cells kept_cells counted_before.named)

    -- ---- the index

    -- no block came to it
    pub index_was : (h : ℕ) → 1 ≤ times h p'.held.index_blocks → 1 ≤ times h p.held.index_blocks
    index_was h some = by (cases_eq (times h (blocks_by l.theirs frozen)) 0)
      where
        now : FrozenApart new p'.picture p'.held
        now = frozen_apart new p'.picture p'.held

        rest_now : now.owners ≡ (rest l.keeps).blocks
        rest_now = roots_one new p'.picture.table (subst (λ rs. HoldsRoots new p'.picture.table rs now.owners) l.owners_are now.holds_owners) (still l.keeps)

        frozen_now : now.frozen ≡ blocks_by l.theirs p'.picture.frozen
        frozen_now = frozen_by new p'.picture.table l.theirs p'.picture.frozen now.frozen now.holds_frozen (subst (λ (z : Table). HoldFrozen new z l.theirs p'.picture.frozen) (sym l.keeps.tables)
            (each_object (λ (g : Frozen). HoldsRoot new p.picture.table (root_of_frozen g) (l.theirs g.at)) p'.picture.frozen (λ g i. let f = frozen_was g i in holds_then f.object g f.among i (sym f.at_is))))

        by : (times h (blocks_by l.theirs p.picture.frozen) ≡ 0) ⊎ (times h (blocks_by l.theirs p.picture.frozen) ≢ 0) → 1 ≤ times h p.held.index_blocks
        by (inl none) = omega (arith, some, none, now.counts h, ap (times h) rest_now, counts h, live_after h)
        by (inr more) = absurd (
            let o = owned_by l.theirs h frozen (omega (arith, more)) in
            let g = object_stays o.object o.among h o.owns (omega (arith, some, now.counts h)) in
            let owns_it : 1 ≤ times h (l.theirs g.object.at) = subst (λ n. 1 ≤ times h (l.theirs n)) (sym g.at_is) o.owns in
            omega (arith, some, owns_it, its_fewer l.theirs g.object p'.picture.frozen g.among h, ap (times h) frozen_now, now.counts h, live_after h, once l.keeps h))
