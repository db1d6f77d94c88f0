-- An image that got one more object, and that keeps all blocks that it had outside its index: its other
-- objects and its frozen objects stay, and the values of the new object own no blocks.
use Rattle.std.proofs.Common.{◌≡◌, ◌≢◌, ℕ, ◌+◌, ◌≤◌, ◌⊎◌, inl, inr, List, [], ◌∷◌, ◌++◌, length, refl, sym, ap, ◌∙◌, subst, arith}
use Rattle.std.specs.List.{AllByRecursion}
use Rattle.std.proofs.lemmas.Bool.{cases_eq}
use Rattle.seg_spec.specs.Bytes.{word}
use Rattle.seg_spec.specs.Header.{allocator_word, next_word, index_kind_word}
use Rattle.seg_spec.specs.Types.{Table}
use Rattle.seg_spec.specs.Value.{count}
use Rattle.seg_spec.specs.Heap.{live}
use Rattle.seg_spec.specs.Block.{block_of, KeepsBlock}
use Rattle.seg_spec.specs.Reads.{Place, HoldsEach, items}
use Rattle.seg_spec.specs.Index.{Root}
use Rattle.seg_spec.specs.Frozen.{Frozen, root_of_frozen}
use Rattle.seg_spec.specs.Sound.{Picture, IsHeld, IsPlain, HoldsRoots, payload_of, frozen_roots, roots_of, times, positions}
use Rattle.seg_spec.specs.Shared.{names_in, names_each, IsBelow}
use Rattle.seg_spec.specs.Counting.{cells_in, owners_in, AreCounted}
use Rattle.seg_spec.specs.Roots.{HasFace}
use Rattle.seg_spec.proofs.Heap.LiveBlockLaws.{times-append, times-same, each_there, live-once}
use Rattle.seg_spec.proofs.Images.RootFrameLaws.{HoldsRoots-kept}
use Rattle.seg_spec.proofs.Values.PlaceFrameLaws.{each_weaker}
use Rattle.client_sim.proofs.Names.OnePictureLaws.{plain-one}
use Rattle.test_definitions.proofs.Rows.ChangedPlaceRowLaws.{cells_of, all_cells, same_members}
use Rattle.test_definitions.proofs.Frozen.FreedBlockLaws.{face_one}
use Rattle.test_definitions.proofs.Frozen.FrozenApartLaws.{among_either}
use Rattle.test_definitions.proofs.Frozen.FrozenOrderLaws.{IsOneOf}
use Rattle.test_definitions.proofs.Rows.OneFrozenLaws.{frozen-one, among_frozen, is_there}
use Rattle.test_definitions.proofs.Alike.IndexAlikeLaws.{index_long, index_is_long}
use Rattle.test_definitions.proofs.Alike.OwnedBlockLaws.{root_with, frozen_member, owned_rest, two_owners}
use Rattle.test_definitions.proofs.Frozen.ReachedFrozenLaws.{StandsAt, below_stands, all_reached}
use Rattle.test_definitions.proofs.Alike.RootMemberLaws.{IsAmong, among_left, among_right, counts, Owns, owns}

-- ---- lists of roots

-- a root is a frozen object, or one that isn't
pub split_root : (q : Picture) (c : Root) → IsAmong c (roots_of q) → IsAmong c (owners_in q) ⊎ ((f : Frozen) × IsOneOf f q.frozen × (c ≡ root_of_frozen f))
split_root q c i = (
    elim (among_either c q.names (q.uniques ++ (q.loose ++ frozen_roots q)) i) [
      | inl j ↦ inl (among_left c q.names (q.uniques ++ q.loose) j)
      | inr k ↦ elim (among_either c q.uniques (q.loose ++ frozen_roots q) k) [
        | inl j ↦ inl (among_right c q.names (q.uniques ++ q.loose) (among_left c q.uniques q.loose j))
        | inr m ↦ elim (among_either c q.loose (frozen_roots q) m) [
          | inl j ↦ inl (among_right c q.names (q.uniques ++ q.loose) (among_right c q.uniques q.loose j))
          | inr j ↦ inr (frozen_member c q.frozen j)
        ]
      ]
    ])

pub owner_in : (q : Picture) (c : Root) → IsAmong c (owners_in q) → IsAmong c (roots_of q)
owner_in q c i = (
    elim (among_either c q.names (q.uniques ++ q.loose) i) [
      | inl j ↦ among_left c q.names (q.uniques ++ (q.loose ++ frozen_roots q)) j
      | inr k ↦ elim (among_either c q.uniques q.loose k) [
        | inl j ↦ among_right c q.names (q.uniques ++ (q.loose ++ frozen_roots q)) (among_left c q.uniques (q.loose ++ frozen_roots q) j)
        | inr j ↦ among_right c q.names (q.uniques ++ (q.loose ++ frozen_roots q)) (among_right c q.uniques (q.loose ++ frozen_roots q) (among_left c q.loose (frozen_roots q) j))
      ]
    ])

pub frozen_in : (q : Picture) (f : Frozen) → IsOneOf f q.frozen → IsAmong (root_of_frozen f) (roots_of q)
frozen_in q f i = (
    let root = root_of_frozen f in
    among_right root q.names (q.uniques ++ (q.loose ++ frozen_roots q)) (among_right root q.uniques (q.loose ++ frozen_roots q) (among_right root q.loose (frozen_roots q) (among_frozen f q.frozen i))))

-- ---- objects of an image that keeps all blocks outside its index

module _ (old new : List ℕ) (was now : Picture) (held : IsHeld old was) (held_now : IsHeld new now) (tables : now.table ≡ was.table)
    (kept : (h : ℕ) → 1 ≤ times h (positions (live old)) → times h held.index_blocks ≡ 0 → KeepsBlock old new h) where
  pub root_blocks_kept : AllByRecursion (KeepsBlock old new) held.root_blocks
  root_blocks_kept = each_there (KeepsBlock old new) held.root_blocks
      (λ h some. (let c = counts old was held h in kept h (omega (arith, some, c)) (omega (arith, some, c, live-once old (word old allocator_word) held.laid_out.heap h))))

  pub still : HoldsRoots new now.table (roots_of was) held.root_blocks
  still = subst (λ (t : Table). HoldsRoots new t (roots_of was) held.root_blocks) (sym tables) (HoldsRoots-kept old new was.table held.laid_out.is_table held.roots root_blocks_kept)

  pub faced_one : (c d : Root) → IsAmong c (roots_of was) → IsAmong d (roots_of now) → HasFace c d → d ≡ c
  faced_one c d i j face =
      let o = owns new now held_now c still i in
      let m = owns new now held_now d held_now.roots j in
      sym (face_one new now.table c d o.its m.its face o.holds_it m.holds_it)

  pub placed_one : (c d : Root) → IsAmong c (roots_of was) → IsAmong d (roots_of now) → IsPlain c → IsPlain d → d.at ≡ c.at → d ≡ c
  placed_one c d i j plain plain_too at =
      let o = owns new now held_now c still i in
      let m = owns new now held_now d held_now.roots j in
      plain-one new now.table d c m.its o.its at plain_too plain m.holds_it o.holds_it

-- ---- an image with one more object

stand : (next : ℕ) (fs : List Frozen) (cells : List Place) → AllByRecursion (IsBelow next fs) cells → AllByRecursion (λ (z : Place). StandsAt z.at fs) cells
stand next fs cells a = each_weaker (IsBelow next fs) (λ (z : Place). StandsAt z.at fs) (λ z b. (below_stands next fs z b).0) cells a

falls : (fs : List Frozen) → AllByRecursion (λ (f : Frozen). AllByRecursion (IsBelow f.number fs) (names_in f.value)) fs
    → AllByRecursion (λ (f : Frozen). AllByRecursion (λ (z : Place). StandsAt z.at fs) (names_in f.value)) fs
falls fs a = each_weaker (λ (f : Frozen). AllByRecursion (IsBelow f.number fs) (names_in f.value)) _ (λ f b. stand f.number fs (names_in f.value) b) fs a

nothing_there : (xs : List ℕ) → ((h : ℕ) → times h xs ≡ 0) → xs ≡ []
nothing_there [] f = refl
nothing_there (x ∷ xs) f = absurd (omega (arith, f x, times-same x xs))

-- The image keeps its blocks outside its index, and its objects. Each new object lies in a block of its
-- own, and the index has as many blocks as it needs.
pub record Grows (old new : List ℕ) (was now : Picture) (index : List ℕ) (News : Root → Type 0) : Type 0 where
  pub tables : now.table ≡ was.table
  pub kept : (h : ℕ) → 1 ≤ times h (positions (live old)) → times h index ≡ 0 → KeepsBlock old new h
  -- the blocks of the index afterwards, in some order
  pub entries : List ℕ
  pub long : length entries ≡ index_long (word new index_kind_word) (length now.names)
  pub lives : (a : Root) → News a → (h : ℕ) → times h (positions (live new)) + times h index ≡ times h (positions (live old)) + times h (block_of (payload_of a) ∷ []) + times h entries
  pub in_now : (a : Root) → News a → IsAmong a (owners_in now)
  pub forth : (c : Root) → IsAmong c (owners_in was) → IsAmong c (owners_in now)
  pub back : (c : Root) → IsAmong c (owners_in now) → News c ⊎ IsAmong c (owners_in was)
  pub no_cells : (a : Root) → News a → names_each a.values ≡ []

module _ (old new : List ℕ) (was now : Picture) (held : IsHeld old was) (held_now : IsHeld new now) (counted : AreCounted (word old next_word) was) (counted_now : AreCounted (word new next_word) now) (News : Root → Type 0)
    (g : Grows old new was now held.index_blocks News) where
  still_there : HoldsRoots new now.table (roots_of was) held.root_blocks
  still_there = still old new was now held held_now g.tables g.kept

  once : (h : ℕ) → times h (positions (live new)) ≤ 1
  once = live-once new (word new allocator_word) held_now.laid_out.heap

  -- ---- frozen objects

  same_frozen : (f k : Frozen) → IsOneOf f now.frozen → IsOneOf k was.frozen → f.at ≡ k.at → f ≡ k
  same_frozen f k i j e =
      let mine = is_there new now held_now f i in
      let o = owns new now held_now (root_of_frozen k) still_there (frozen_in was k j) in
      frozen-one new now.table f k mine.its o.its e mine.holds o.holds_it

  pub frozen_forth : (f : Frozen) → IsOneOf f was.frozen → IsOneOf f now.frozen
  frozen_forth f i =
      let cells = all_cells (λ (z : Place). StandsAt z.at now.frozen) (owners_in was)
      (λ c j. stand (word new next_word) now.frozen (names_each c.values) (cells_of (IsBelow (word new next_word) now.frozen) (owners_in now) c counted_now.counted.named (g.forth c j))) in
      let r = all_reached (word old next_word) was.frozen (cells_in (owners_in was)) counted.counted now.frozen (falls now.frozen counted_now.counted.falling) cells
      (λ x y j k e. ap (λ (z : Frozen). z.value) (sym (same_frozen y x k j (sym e)))) f i in
      subst (λ (z : Frozen). IsOneOf z now.frozen) (same_frozen r.object f r.among i r.at_is) r.among

  pub frozen_back : (f : Frozen) → IsOneOf f now.frozen → IsOneOf f was.frozen
  frozen_back f i =
      let r = all_reached (word new next_word) now.frozen (cells_in (owners_in now)) counted_now.counted was.frozen (falls was.frozen counted.counted.falling) (all_cells (λ (z : Place). StandsAt z.at was.frozen) (owners_in now) its_cells)
      (λ x y j k e. ap (λ (z : Frozen). z.value) (same_frozen x y j k e)) f i in
      subst (λ (z : Frozen). IsOneOf z was.frozen) (sym (same_frozen f r.object i r.among (sym r.at_is))) r.among
    where
      its_cells : (c : Root) → IsAmong c (owners_in now) → AllByRecursion (λ (z : Place). StandsAt z.at was.frozen) (names_each c.values)
      its_cells c j = by (g.back c j)
        where
          by : News c ⊎ IsAmong c (owners_in was) → AllByRecursion (λ (z : Place). StandsAt z.at was.frozen) (names_each c.values)
          by (inl n) = subst (AllByRecursion (λ (z : Place). StandsAt z.at was.frozen)) (sym (g.no_cells c n)) tt
          by (inr k) = stand (word old next_word) was.frozen (names_each c.values) (cells_of (IsBelow (word old next_word) was.frozen) (owners_in was) c counted.counted.named k)

  -- ---- roots

  root_forth : (c : Root) → IsAmong c (roots_of was) → IsAmong c (roots_of now)
  root_forth c i = by (split_root was c i)
    where
      by : IsAmong c (owners_in was) ⊎ ((f : Frozen) × IsOneOf f was.frozen × (c ≡ root_of_frozen f)) → IsAmong c (roots_of now)
      by (inl j) = owner_in now c (g.forth c j)
      by (inr f) = subst (λ (x : Root). IsAmong x (roots_of now)) (sym f.2) (frozen_in now f.0 (frozen_forth f.0 f.1))

  pub root_back : (c : Root) → IsAmong c (roots_of now) → News c ⊎ IsAmong c (roots_of was)
  root_back c i = by (split_root now c i)
    where
      inner : News c ⊎ IsAmong c (owners_in was) → News c ⊎ IsAmong c (roots_of was)
      inner (inl n) = inl n
      inner (inr j) = inr (owner_in was c j)

      by : IsAmong c (owners_in now) ⊎ ((f : Frozen) × IsOneOf f now.frozen × (c ≡ root_of_frozen f)) → News c ⊎ IsAmong c (roots_of was)
      by (inl j) = inner (g.back c j)
      by (inr f) = inr (subst (λ (x : Root). IsAmong x (roots_of was)) (sym f.2) (frozen_in was f.0 (frozen_back f.0 f.1)))

  -- ---- a new object

  module _ (a : Root) (n : News a) where
    mine : Owns new now held_now a held_now.root_blocks
    mine = owns new now held_now a held_now.roots (owner_in now a (g.in_now a n))

    its_are : (h : ℕ) → times h mine.its ≡ times h (block_of (payload_of a) ∷ []) + times h mine.holds_it.inside
    its_are h = ap (times h) mine.holds_it.blocks_are ∙ times-append h (block_of (payload_of a) ∷ []) mine.holds_it.inside

    other : (c : Root) → IsAmong c (roots_of was) → c ≡ a → ⊥
    other c i e =
        let o = owns old was held c held.roots i in
        let h = block_of (payload_of c) in
        let head = ap (times h) o.holds_it.blocks_are in
        let same : times h (block_of (payload_of a) ∷ []) ≡ times h (h ∷ []) = ap (λ (x : Root). times (block_of (payload_of c)) (block_of (payload_of x) ∷ [])) (sym e) in
        omega (arith, head, times-same h o.holds_it.inside, o.fewer h, counts old was held h, g.lives a n h, same, times-same h [], once h)

    -- the index has only blocks that no object has
    index_fewer : (h : ℕ) → times h held_now.index_blocks ≤ times h g.entries
    index_fewer h = go (cases_eq (times h held_now.index_blocks) 0) (cases_eq (times h held.root_blocks) 0)
      where
        go : (times h held_now.index_blocks ≡ 0) ⊎ (times h held_now.index_blocks ≢ 0) → (times h held.root_blocks ≡ 0) ⊎ (times h held.root_blocks ≢ 0) → times h held_now.index_blocks ≤ times h g.entries
        go (inl none) r = omega (arith, none)
        go (inr more) (inl r) = omega (arith, more, r, counts new now held_now h, once h, counts old was held h, g.lives a n h, mine.fewer h, its_are h)
        go (inr more) (inr r) =
            let k = root_with new now.table h still_there (omega (arith, r)) in
            let theirs = owned_rest new now h held_now.roots k.root (root_forth k.root k.among) k.holds_it in
            absurd (omega (arith, more, k.there_is, theirs, counts new now held_now h, once h))

    index_long_now : length g.entries ≡ length held_now.index_blocks
    index_long_now = g.long ∙ sym (index_is_long new now held_now)

    none_inside : (h : ℕ) → times h mine.holds_it.inside ≡ 0
    none_inside h = go (cases_eq (times h mine.holds_it.inside) 0) (cases_eq (times h g.entries) 0) (cases_eq (times h held.root_blocks) 0)
      where
        go : (times h mine.holds_it.inside ≡ 0) ⊎ (times h mine.holds_it.inside ≢ 0) → (times h g.entries ≡ 0) ⊎ (times h g.entries ≢ 0) → (times h held.root_blocks ≡ 0) ⊎ (times h held.root_blocks ≢ 0)
            → times h mine.holds_it.inside ≡ 0
        go (inl none) i r = none
        go (inr more) (inr i) r =
            let in_index = same_members held_now.index_blocks g.entries index_fewer index_long_now h (omega (arith, i)) in
            absurd (omega (arith, more, in_index, counts new now held_now h, once h, mine.fewer h, its_are h))
        go (inr more) (inl i) (inl r) = absurd (omega (arith, more, i, r, counts old was held h, g.lives a n h, counts new now held_now h, once h, mine.fewer h, its_are h))
        go (inr more) (inl i) (inr r) =
            let k = root_with new now.table h still_there (omega (arith, r)) in
            let both = two_owners new now h held_now.roots k.root a (root_forth k.root k.among) (owner_in now a (g.in_now a n)) (other k.root k.among) k.holds_it mine.holds_it in
            absurd (omega (arith, more, both, k.there_is, counts new now held_now h, once h, its_are h))

    pub new_values : HoldsEach new now.table (items now.table a.at a.type (count a.values)) a.values []
    new_values = subst (HoldsEach new now.table (items now.table a.at a.type (count a.values)) a.values) (nothing_there mine.holds_it.inside none_inside) mine.holds_it.values
