-- Two images are alike if their objects match: what a search finds in both has the same face and opens in
-- the same way, and frozen objects at one position have one content.
use Rattle.std.proofs.Common.{◌≡◌, ℕ, zero, suc, inl, inr, List, [], ◌∷◌, ◌++◌, length, map, Option, Some, None, refl, sym, ap, ◌∙◌, subst, arith}
use Rattle.std.specs.Prelude.{is_some}
use Rattle.std.specs.List.{AllByRecursion}
use Rattle.seg_spec.specs.Bytes.{word}
use Rattle.seg_spec.specs.Header.{next_word, index_kind_word, KeepsFront}
use Rattle.seg_spec.specs.Types.{Table}
use Rattle.seg_spec.specs.Value.{Values, count}
use Rattle.seg_spec.specs.Heap.{live}
use Rattle.seg_spec.specs.Block.{block_of}
use Rattle.seg_spec.specs.Reads.{Place, HoldsEach, items}
use Rattle.seg_spec.specs.Index.{Root, root_named, root_of_type}
use Rattle.seg_spec.specs.Frozen.{Frozen, root_of_frozen}
use Rattle.seg_spec.specs.Sound.{Picture, IsHeld, payload_of, frozen_roots, roots_of, times}
use Rattle.seg_spec.specs.Shared.{names_in, IsBelow, IsCounted}
use Rattle.seg_spec.specs.Counting.{cells_in, owners_in}
use Rattle.seg_spec.specs.Roots.{HasFace}
use Rattle.seg_spec.proofs.Heap.LiveBlockLaws.{times-more}
use Rattle.seg_spec.proofs.Values.OneValueLaws.{HoldsEach-one}
use Rattle.seg_spec.proofs.Values.PlaceFrameLaws.{each_weaker}
use Rattle.client_spec.specs.Machine.{Register, State}
use Rattle.client_spec.specs.Pictures.{AreOwned, root_of_register, Pictures}
use Rattle.client_spec.specs.Ties.{places_of}
use Rattle.test_definitions.specs.Alike.{AlikeRoot, AreAlike}
use Rattle.test_definitions.proofs.Alike.AlikeChangeLaws.{all_fit, root_one}
use Rattle.test_definitions.proofs.Alike.AlikePictureLaws.{SameEntries, alike_after}
use Rattle.test_definitions.proofs.ValueChanges.AlikePlaceLaws.{each_alike}
use Rattle.test_definitions.proofs.Alike.AlikeRootLaws.{of_type, of_register}
use Rattle.test_definitions.proofs.Frozen.FrozenApartLaws.{among_either, owner_in_roots}
use Rattle.test_definitions.proofs.Frozen.FrozenOrderLaws.{IsOneOf}
use Rattle.test_definitions.proofs.Frozen.FrozenStayLaws.{SameContent, Found, turned, counted_same}
use Rattle.test_definitions.proofs.Alike.ListedRootLaws.{names_listed, types_listed, found_named, found_of_type}
use Rattle.test_definitions.proofs.Rows.OneFrozenLaws.{Reordered, point_lower}
use Rattle.test_definitions.proofs.Rows.OwnerRegisterLaws.{register_with}
use Rattle.test_definitions.proofs.Rows.OwningRegisterLaws.{owners}
use Rattle.test_definitions.proofs.ValueChanges.PersistAlikeLaws.{Fits}
use Rattle.test_definitions.proofs.Frozen.ReachedFrozenLaws.{StandsAt, below_stands, all_reached}
use Rattle.test_definitions.proofs.Alike.RootMemberLaws.{IsAmong, among_left, among_right, owns, looked_up}

-- ---- lists of objects

found_same : (o u : Option Root) → is_some o ≡ is_some u → ((a b : Root) → o ≡ Some a → u ≡ Some b → a ≡ b) → o ≡ u
found_same None None e f = refl
found_same None (Some b) e f = cc
found_same (Some a) None e f = cc
found_same (Some a) (Some b) e f = ap (λ (x : Root). Some x) (f a b refl refl)

pub some_too : (o u : Option Root) → is_some o ≡ is_some u → (a : Root) → o ≡ Some a → (b : Root) × (u ≡ Some b)
some_too None u e a f = cc
some_too (Some x) None e a f = cc
some_too (Some x) (Some b) e a f = (b, refl)

-- the objects of registers, if each register has the same object
owned_same : (xs ys : List Register) (rs os : List Root) → owners ys ≡ owners xs → AreOwned xs rs → AreOwned ys os → ((r : ℕ) (a b : Root) → root_of_register xs rs r ≡ Some a → root_of_register ys os r ≡ Some b → a ≡ b) → rs ≡ os
owned_same [] [] [] [] e f g same = refl
owned_same [] [] (a ∷ rs) os e f g same = absurd f
owned_same [] [] [] (b ∷ os) e f g same = absurd g
owned_same [] (y ∷ ys) rs os e f g same = cc
owned_same (x ∷ xs) [] rs os e f g same = cc
owned_same (Register.Owner v t ∷ xs) (Register.Owner w u ∷ ys) [] os e f g same = absurd f
owned_same (Register.Owner v t ∷ xs) (Register.Owner w u ∷ ys) (a ∷ rs) [] e f g same = absurd g
owned_same (Register.Owner v t ∷ xs) (Register.Owner w u ∷ ys) (a ∷ rs) (b ∷ os) e f g same =
    let first : a ≡ b = same 0 a b refl refl in
    let rest : rs ≡ os = owned_same xs ys rs os (let more : owners ys ≡ owners xs = cc in more) f.2 g.2 (λ r. same (suc r)) in
    λ j. first j ∷ rest j
owned_same (Register.Undefined ∷ xs) (Register.Undefined ∷ ys) rs os e f g same = owned_same xs ys rs os (let more : owners ys ≡ owners xs = cc in more) f g (λ r. same (suc r))
owned_same (Register.Undefined ∷ xs) (Register.Int j ∷ ys) rs os e f g same = owned_same xs ys rs os (let more : owners ys ≡ owners xs = cc in more) f g (λ r. same (suc r))
owned_same (Register.Undefined ∷ xs) (Register.Reference q ∷ ys) rs os e f g same = owned_same xs ys rs os (let more : owners ys ≡ owners xs = cc in more) f g (λ r. same (suc r))
owned_same (Register.Int k ∷ xs) (Register.Undefined ∷ ys) rs os e f g same = owned_same xs ys rs os (let more : owners ys ≡ owners xs = cc in more) f g (λ r. same (suc r))
owned_same (Register.Int k ∷ xs) (Register.Int j ∷ ys) rs os e f g same = owned_same xs ys rs os (let more : owners ys ≡ owners xs = cc in more) f g (λ r. same (suc r))
owned_same (Register.Int k ∷ xs) (Register.Reference q ∷ ys) rs os e f g same = owned_same xs ys rs os (let more : owners ys ≡ owners xs = cc in more) f g (λ r. same (suc r))
owned_same (Register.Reference p ∷ xs) (Register.Undefined ∷ ys) rs os e f g same = owned_same xs ys rs os (let more : owners ys ≡ owners xs = cc in more) f g (λ r. same (suc r))
owned_same (Register.Reference p ∷ xs) (Register.Int j ∷ ys) rs os e f g same = owned_same xs ys rs os (let more : owners ys ≡ owners xs = cc in more) f g (λ r. same (suc r))
owned_same (Register.Reference p ∷ xs) (Register.Reference q ∷ ys) rs os e f g same = owned_same xs ys rs os (let more : owners ys ≡ owners xs = cc in more) f g (λ r. same (suc r))
owned_same (x ∷ xs) (y ∷ ys) rs os e f g same = cc

-- a register of which the other state has one that owns an object too
owner_too : (xs ys : List Register) (rs os : List Root) → owners ys ≡ owners xs → AreOwned xs rs → AreOwned ys os → (r : ℕ) (a : Root) → root_of_register xs rs r ≡ Some a → (b : Root) × (root_of_register ys os r ≡ Some b)
owner_too [] ys rs os e f g r a is = cc
owner_too (x ∷ xs) [] rs os e f g r a is = cc
owner_too (Register.Owner v t ∷ xs) (Register.Owner w u ∷ ys) [] os e f g r a is = absurd f
owner_too (Register.Owner v t ∷ xs) (Register.Owner w u ∷ ys) (c ∷ rs) [] e f g r a is = absurd g
owner_too (Register.Owner v t ∷ xs) (Register.Owner w u ∷ ys) (c ∷ rs) (d ∷ os) e f g zero a is = (d, refl)
owner_too (Register.Owner v t ∷ xs) (Register.Owner w u ∷ ys) (c ∷ rs) (d ∷ os) e f g (suc r) a is = owner_too xs ys rs os (let more : owners ys ≡ owners xs = cc in more) f.2 g.2 r a is
owner_too (Register.Undefined ∷ xs) (y ∷ ys) rs os e f g zero a is = cc
owner_too (Register.Int k ∷ xs) (y ∷ ys) rs os e f g zero a is = cc
owner_too (Register.Reference p ∷ xs) (y ∷ ys) rs os e f g zero a is = cc
owner_too (Register.Undefined ∷ xs) (Register.Undefined ∷ ys) rs os e f g (suc r) a is = owner_too xs ys rs os (let more : owners ys ≡ owners xs = cc in more) f g r a is
owner_too (Register.Undefined ∷ xs) (Register.Int j ∷ ys) rs os e f g (suc r) a is = owner_too xs ys rs os (let more : owners ys ≡ owners xs = cc in more) f g r a is
owner_too (Register.Undefined ∷ xs) (Register.Reference q ∷ ys) rs os e f g (suc r) a is = owner_too xs ys rs os (let more : owners ys ≡ owners xs = cc in more) f g r a is
owner_too (Register.Int k ∷ xs) (Register.Undefined ∷ ys) rs os e f g (suc r) a is = owner_too xs ys rs os (let more : owners ys ≡ owners xs = cc in more) f g r a is
owner_too (Register.Int k ∷ xs) (Register.Int j ∷ ys) rs os e f g (suc r) a is = owner_too xs ys rs os (let more : owners ys ≡ owners xs = cc in more) f g r a is
owner_too (Register.Int k ∷ xs) (Register.Reference q ∷ ys) rs os e f g (suc r) a is = owner_too xs ys rs os (let more : owners ys ≡ owners xs = cc in more) f g r a is
owner_too (Register.Reference p ∷ xs) (Register.Undefined ∷ ys) rs os e f g (suc r) a is = owner_too xs ys rs os (let more : owners ys ≡ owners xs = cc in more) f g r a is
owner_too (Register.Reference p ∷ xs) (Register.Int j ∷ ys) rs os e f g (suc r) a is = owner_too xs ys rs os (let more : owners ys ≡ owners xs = cc in more) f g r a is
owner_too (Register.Reference p ∷ xs) (Register.Reference q ∷ ys) rs os e f g (suc r) a is = owner_too xs ys rs os (let more : owners ys ≡ owners xs = cc in more) f g r a is
owner_too (x ∷ xs) (y ∷ ys) rs os e f g r a is = cc

each_one : (P : Root → Type 0) (rs : List Root) → ((a : Root) → IsAmong a rs → P a) → AllByRecursion P rs
each_one P [] f = tt
each_one P (r ∷ rs) f = (f r (inl refl), each_one P rs (λ a i. f a (inr i)))

each_both : (P : Root → Type 0) (xs ys : List Root) → AllByRecursion P xs → AllByRecursion P ys → AllByRecursion P (xs ++ ys)
each_both P [] ys a b = b
each_both P (x ∷ xs) ys a b = (a.0, each_both P xs ys a.1 b)

each_frozen : (P : Root → Type 0) (fs : List Frozen) → ((f : Frozen) → IsOneOf f fs → P (root_of_frozen f)) → AllByRecursion P (map root_of_frozen fs)
each_frozen P [] g = tt
each_frozen P (f ∷ fs) g = (g f (inl refl), each_frozen P fs (λ h i. g h (inr i)))

held_inside : (bytes : List ℕ) (r : Picture) (held : IsHeld bytes r) (a : Root) → IsAmong a (roots_of r) → (inside : List ℕ) × HoldsEach bytes r.table (items r.table a.at a.type (count a.values)) a.values inside
    × AllByRecursion (Fits bytes) inside
held_inside bytes r held a i =
    let o = owns bytes r held a held.roots i in (
      o.holds_it.inside,
      o.holds_it.values,
      all_fit bytes r held o.holds_it.inside (λ h. (
          let e = ap (times h) o.holds_it.blocks_are in
          omega (arith, o.fewer h, e, times-more h (block_of (payload_of a)) o.holds_it.inside))),
    )

-- ---- two images

module _ {others : List Root} {s t : State} {new other : List ℕ} (p : Pictures others s new) (q : Pictures others t other) where
  -- objects with one face, whose places are alike if both images contain their values
  pub record Matched (a b : Root) : Type 0 where
    pub face : HasFace a b
    pub again : {vs ws : Values} {xs ys : List ℕ} → HoldsEach new p.picture.table (items p.picture.table a.at a.type (count a.values)) vs xs → AllByRecursion (Fits new) xs
        → HoldsEach other p.picture.table (items p.picture.table a.at a.type (count a.values)) ws ys → AllByRecursion (Fits other) ys → AlikeRoot new other p.picture.table a

  pub record AllMatched : Type 0 where
    pub tables : q.picture.table ≡ p.picture.table
    pub named : (name : List ℕ) (a b : Root) → root_named p.picture.names name ≡ Some a → root_named q.picture.names name ≡ Some b → Matched a b
    pub named_both : (name : List ℕ) → is_some (root_named p.picture.names name) ≡ is_some (root_named q.picture.names name)
    pub unique : (T : ℕ) (a b : Root) → root_of_type p.picture.uniques T ≡ Some a → root_of_type q.picture.uniques T ≡ Some b → Matched a b
    pub unique_both : (T : ℕ) → is_some (root_of_type p.picture.uniques T) ≡ is_some (root_of_type q.picture.uniques T)
    pub besides : (a : Root) → IsAmong a others → Matched a a
    pub owned : (r : ℕ) (a b : Root) → root_of_register s.registers p.owned r ≡ Some a → root_of_register t.registers q.owned r ≡ Some b → Matched a b
    pub owned_both : owners t.registers ≡ owners s.registers
    pub content : (f g : Frozen) → IsOneOf f p.picture.frozen → IsOneOf g q.picture.frozen → g.at ≡ f.at → SameContent f g
    pub opens : (f : Frozen) → IsOneOf f p.picture.frozen → IsOneOf f q.picture.frozen → AlikeRoot new other p.picture.table (root_of_frozen f)
    pub entries : (word new index_kind_word ≡ 0 → ⊥) → SameEntries new other p.held.index_blocks

  module _ (m : AllMatched) where
    one_root : (a b : Root) → IsAmong a (owners_in p.picture) → IsAmong b (owners_in q.picture) → Matched a b → (a ≡ b) × AlikeRoot new other p.picture.table a
    one_root a b i j k =
        let f = k.face in
        let x = held_inside new p.picture p.held a (owner_in_roots p.picture a i) in
        let y = held_inside other q.picture q.held b (owner_in_roots q.picture b j) in
        let moved = subst (λ (z : Table). HoldsEach other z (items z b.at b.type (count b.values)) b.values y.0) m.tables y.1 in
        let here = subst (λ ps. HoldsEach other p.picture.table ps b.values y.0) (λ n. items p.picture.table (f.same_at n) (f.same_type n) (f.same_count n)) moved in
        let opens = k.again x.1 x.2 here y.2 in
        let both = HoldsEach-one other p.picture.table (each_alike new other p.picture.table x.1 opens) here in
        (root_one a b (sym f.same_name) (sym f.same_words) (sym f.same_at) (sym f.same_type) both.0, opens)

    in_names : {u : State} {bytes : List ℕ} (r : Pictures others u bytes) (a : Root) → IsAmong a r.picture.names → IsAmong a (owners_in r.picture)
    in_names r a i = among_left a r.picture.names (r.picture.uniques ++ r.picture.loose) i

    in_uniques : {u : State} {bytes : List ℕ} (r : Pictures others u bytes) (a : Root) → IsAmong a r.picture.uniques → IsAmong a (owners_in r.picture)
    in_uniques r a i = among_right a r.picture.names (r.picture.uniques ++ r.picture.loose) (among_left a r.picture.uniques r.picture.loose i)

    in_others : {u : State} {bytes : List ℕ} (r : Pictures others u bytes) (a : Root) → IsAmong a others → IsAmong a (owners_in r.picture)
    in_others r a i = among_right a r.picture.names (r.picture.uniques ++ r.picture.loose) (among_right a r.picture.uniques r.picture.loose (subst (IsAmong a) (sym r.loose) (among_left a others r.owned i)))

    in_owned : {u : State} {bytes : List ℕ} (r : Pictures others u bytes) (a : Root) → IsAmong a r.owned → IsAmong a (owners_in r.picture)
    in_owned r a i = among_right a r.picture.names (r.picture.uniques ++ r.picture.loose) (among_right a r.picture.uniques r.picture.loose (subst (IsAmong a) (sym r.loose) (among_right a others r.owned i)))

    by_name : (name : List ℕ) (a b : Root) → root_named p.picture.names name ≡ Some a → root_named q.picture.names name ≡ Some b → (a ≡ b) × AlikeRoot new other p.picture.table a
    by_name name a b e f = one_root a b (in_names p a (looked_up name a p.picture.names e).0) (in_names q b (looked_up name b q.picture.names f).0) (m.named name a b e f)

    by_type : (T : ℕ) (a b : Root) → root_of_type p.picture.uniques T ≡ Some a → root_of_type q.picture.uniques T ≡ Some b → (a ≡ b) × AlikeRoot new other p.picture.table a
    by_type T a b e f = one_root a b (in_uniques p a (of_type p.picture.uniques T a e)) (in_uniques q b (of_type q.picture.uniques T b f)) (m.unique T a b e f)

    by_register : (r : ℕ) (a b : Root) → root_of_register s.registers p.owned r ≡ Some a → root_of_register t.registers q.owned r ≡ Some b → (a ≡ b) × AlikeRoot new other p.picture.table a
    by_register r a b e f = one_root a b (in_owned p a (of_register s.registers p.owned r a e)) (in_owned q b (of_register t.registers q.owned r b f)) (m.owned r a b e f)

    one_names : p.picture.names ≡ q.picture.names
    one_names = names_listed p.picture.names q.picture.names p.held.laid_out.names.ascending q.held.laid_out.names.ascending
        (λ name. found_same (root_named p.picture.names name) (root_named q.picture.names name) (m.named_both name) (λ a b e f. (by_name name a b e f).0))

    one_uniques : p.picture.uniques ≡ q.picture.uniques
    one_uniques = types_listed 0 0 p.picture.uniques q.picture.uniques p.held.laid_out.uniques.rising q.held.laid_out.uniques.rising
        (λ T. found_same (root_of_type p.picture.uniques T) (root_of_type q.picture.uniques T) (m.unique_both T) (λ a b e f. (by_type T a b e f).0))

    one_owned : p.owned ≡ q.owned
    one_owned = owned_same s.registers t.registers p.owned q.owned m.owned_both p.are_owned q.are_owned (λ r a b e f. (by_register r a b e f).0)

    one_owners : owners_in p.picture ≡ owners_in q.picture
    one_owners = (
        let loose : p.picture.loose ≡ q.picture.loose = p.loose ∙ ap (λ rs. others ++ rs) one_owned ∙ sym q.loose in
        λ k. one_names k ++ (one_uniques k ++ loose k))

    -- ---- objects with an owner

    name_opens : (a : Root) → IsAmong a p.picture.names → AlikeRoot new other p.picture.table a
    name_opens a i = (
        let e = found_named p.picture.names a p.held.laid_out.names.ascending i in
        let b = some_too (root_named p.picture.names a.name) (root_named q.picture.names a.name) (m.named_both a.name) a e in
        (by_name a.name a b.0 e b.1).1)

    unique_opens : (a : Root) → IsAmong a p.picture.uniques → AlikeRoot new other p.picture.table a
    unique_opens a i = (
        let e = found_of_type 0 p.picture.uniques a p.held.laid_out.uniques.rising i in
        let b = some_too (root_of_type p.picture.uniques a.type) (root_of_type q.picture.uniques a.type) (m.unique_both a.type) a e in
        (by_type a.type a b.0 e b.1).1)

    owned_opens : (a : Root) → IsAmong a p.owned → AlikeRoot new other p.picture.table a
    owned_opens a i = (
        let r = register_with s.registers p.owned p.are_owned a i in
        let b = owner_too s.registers t.registers p.owned q.owned m.owned_both p.are_owned q.are_owned r.0 a r.1 in
        (by_register r.0 a b.0 r.1 b.1).1)

    loose_opens : (a : Root) → IsAmong a p.picture.loose → AlikeRoot new other p.picture.table a
    loose_opens a i = elim (among_either a others p.owned (subst (IsAmong a) p.loose i)) [
      | inl j ↦ (one_root a a (in_others p a j) (in_others q a j) (m.besides a j)).1
      | inr j ↦ owned_opens a j
    ]

    -- ---- frozen objects

    stand : (next : ℕ) (fs : List Frozen) (cells : List Place) → AllByRecursion (IsBelow next fs) cells → AllByRecursion (λ (z : Place). StandsAt z.at fs) cells
    stand next fs cells a = each_weaker (IsBelow next fs) (λ (z : Place). StandsAt z.at fs) (λ z b. (below_stands next fs z b).0) cells a

    falls : (fs : List Frozen) → AllByRecursion (λ (f : Frozen). AllByRecursion (IsBelow f.number fs) (names_in f.value)) fs → AllByRecursion (λ (f : Frozen). AllByRecursion (λ (z : Place). StandsAt z.at fs) (names_in f.value)) fs
    falls fs a = each_weaker (λ (f : Frozen). AllByRecursion (IsBelow f.number fs) (names_in f.value)) _ (λ f b. stand f.number fs (names_in f.value) b) fs a

    in_second : (f : Frozen) → IsOneOf f p.picture.frozen → Found f q.picture.frozen
    in_second f i =
        let c = q.counted.counted in
        let cells = subst (λ rs. AllByRecursion (λ (z : Place). StandsAt z.at q.picture.frozen) (cells_in rs)) (sym one_owners) (stand (word other next_word) q.picture.frozen (cells_in (owners_in q.picture)) c.named) in
        let r = all_reached (word new next_word) p.picture.frozen (cells_in (owners_in p.picture)) p.counted.counted q.picture.frozen (falls q.picture.frozen c.falling) cells (λ f g i j e. sym (m.content f g i j (sym e)).value) f i in
        record { object = r.object; among = r.among; same = m.content f r.object i r.among r.at_is }

    in_first : (f : Frozen) → IsOneOf f q.picture.frozen → Found f p.picture.frozen
    in_first f i =
        let c = p.counted.counted in
        let cells = subst (λ rs. AllByRecursion (λ (z : Place). StandsAt z.at p.picture.frozen) (cells_in rs)) one_owners (stand (word new next_word) p.picture.frozen (cells_in (owners_in p.picture)) c.named) in
        let r = all_reached (word other next_word) q.picture.frozen (cells_in (owners_in q.picture)) q.counted.counted p.picture.frozen (falls p.picture.frozen c.falling) cells (λ f g i j e. (m.content g f j i e).value) f i in
        record { object = r.object; among = r.among; same = turned (m.content r.object f r.among i (sym r.at_is)) }

    order : Reordered p.picture.frozen q.picture.frozen
    order =
        let kept = cells_in (owners_in p.picture) in
        let first_counted = p.counted.counted in
        let second_counted = subst (λ rs. IsCounted (word other next_word) q.picture.frozen (cells_in rs)) (sym one_owners) q.counted.counted in
        record {
          forth = counted_same (word new next_word) (word other next_word) kept p.picture.frozen q.picture.frozen first_counted second_counted in_second in_first;
          back = counted_same (word other next_word) (word new next_word) kept q.picture.frozen p.picture.frozen second_counted first_counted in_first in_second;
          distinct = p.counted.counted.distinct;
          falling = p.counted.falling;
          lower = point_lower (word new next_word) p.picture.frozen (cells_in (owners_in p.picture)) p.counted.counted;
          distinct_too = q.counted.counted.distinct;
          falling_too = q.counted.falling;
        }

    -- ---- all objects

    all_open : AllByRecursion (AlikeRoot new other p.picture.table) (roots_of p.picture)
    all_open =
        let r = p.picture in
        let R = AlikeRoot new other p.picture.table in
        each_both R r.names (r.uniques ++ (r.loose ++ frozen_roots r)) (each_one R r.names name_opens) (each_both R r.uniques (r.loose ++ frozen_roots r) (each_one R r.uniques unique_opens)
        (each_both R r.loose (frozen_roots r) (each_one R r.loose loose_opens) (each_frozen R r.frozen (λ f i. m.opens f i (order.forth f i)))))

    pub owned_matched : p.owned ≡ q.owned
    owned_matched = one_owned

    pub matched_alike : length other ≡ length new → KeepsFront new other → word other next_word ≡ word new next_word → live other ≡ live new → AreAlike others (places_of p.owned) new other
    matched_alike lengths front next lives = alike_after p q (record {
      length_same = lengths;
      front_same = front;
      next_same = next;
      live_same = lives;
      tables = sym m.tables;
      names = one_names;
      uniques = one_uniques;
      owned = one_owned;
      order = order;
      entries = m.entries;
      roots = all_open;
    })
