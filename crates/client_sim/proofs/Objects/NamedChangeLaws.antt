-- Adding and removing a named object: the image pictures the state with or without the name, and
-- paths from all other roots refer to the same places.
use Rattle.std.proofs.Common.{◌≡◌, ℕ, ◌⊎◌, inl, inr, Bool, true, false, List, [], ◌∷◌, ◌++◌, map, Option, Some, None, refl, sym, ◌∙◌, ap, subst, arith, append_assoc}
use Rattle.std.specs.Prelude.{if◌then◌else◌, option_map}
use Rattle.std.specs.List.{AllByRecursion}
use Rattle.seg_spec.specs.Bytes.{word}
use Rattle.seg_spec.specs.Header.{next_word}
use Rattle.seg_spec.specs.Index.{Root, Precedes, AreAscending, same_name, root_named, root_of_type}
use Rattle.seg_spec.specs.Shared.{names_each, left}
use Rattle.seg_spec.specs.Sound.{Picture, IsHeld}
use Rattle.seg_spec.specs.Counting.{owners_in, AreCounted, without_cells}
use Rattle.seg_spec.specs.Roots.{Listed, with_roots, KeepsPaths}
use Rattle.client_spec.specs.Machine.{Origin, State, with_name}
use Rattle.client_spec.specs.Pictures.{Pictures, object_of, root_at, root_of_register}
use Rattle.client_spec.proofs.TypedStates.StateLaws.{same_name_is, same_name_refl}
use Rattle.client_sim.proofs.Frozen.FrozenPathLaws.{KeepsFrozen}
use Rattle.client_sim.proofs.Objects.FirstRootLaws.{Among, among_left, among_right, first_of, first_split, first_among, first_here, first_beside, is_named, is_of_type, named_first, typed_first, each_among}
use Rattle.client_sim.proofs.Objects.PictureLaws.{looks_of}
use Rattle.client_sim.proofs.Places.RootPutLaws.{root_of_pair, among_loose}
use Rattle.client_sim.proofs.Objects.ObjectChangeLaws.{KeepsRoots}

-- ---- names in order differ

precedes_on : (xs ys zs : List ℕ) → Precedes xs ys → Precedes ys zs → Precedes xs zs
precedes_on [] [] zs h k = absurd h
precedes_on [] (y ∷ ys) [] h k = absurd k
precedes_on [] (y ∷ ys) (z ∷ zs) h k = tt
precedes_on (x ∷ xs) [] zs h k = absurd h
precedes_on (x ∷ xs) (y ∷ ys) [] h k = absurd k
precedes_on (x ∷ xs) (y ∷ ys) (z ∷ zs) (inl h) (inl k) = inl (omega (arith, h, k))
precedes_on (x ∷ xs) (y ∷ ys) (z ∷ zs) (inl h) (inr k) = let e = k.0 in inl (omega (arith, h, e))
precedes_on (x ∷ xs) (y ∷ ys) (z ∷ zs) (inr h) (inl k) = let e = h.0 in inl (omega (arith, e, k))
precedes_on (x ∷ xs) (y ∷ ys) (z ∷ zs) (inr h) (inr k) = inr (h.0 ∙ k.0, precedes_on xs ys zs h.1 k.1)

not_before_itself : (xs : List ℕ) → Precedes xs xs → ⊥
not_before_itself [] h = h
not_before_itself (x ∷ xs) (inl h) = omega (arith, h)
not_before_itself (x ∷ xs) (inr h) = not_before_itself xs h.1

differ_by : (xs ys : List ℕ) → (ys ≡ xs → ⊥) → same_name xs ys ≡ false
differ_by xs ys n = choose (same_name xs ys) refl
  where
    choose : (b : Bool) → same_name xs ys ≡ b → same_name xs ys ≡ false
    choose true e = absurd (n (same_name_is xs ys e))
    choose false e = e

abbrev names_in_order : List Root → List (List ℕ)
names_in_order roots = map (λ r. r.name) roots

ascending_rest : (a : List ℕ) (roots : List Root) → AreAscending (a ∷ names_in_order roots) → AreAscending (names_in_order roots)
ascending_rest a [] h = tt
ascending_rest a (r ∷ roots) h = h.1

ascending_skips : (a : List ℕ) (r : Root) (roots : List Root) → AreAscending (a ∷ names_in_order (r ∷ roots)) → AreAscending (a ∷ names_in_order roots)
ascending_skips a r [] h = tt
ascending_skips a r (q ∷ roots) h = (precedes_on a r.name q.name h.0 h.1.0, h.1.1)

precedes_later : (a : List ℕ) (before : List Root) (root : Root) (after : List Root) → AreAscending (a ∷ names_in_order (before ++ root ∷ after)) → Precedes a root.name
precedes_later a [] root after h = h.0
precedes_later a (r ∷ before) root after h = precedes_later a before root after (ascending_skips a r (before ++ root ∷ after) h)

-- if names ascend, no later root has the first name
none_after : (a : List ℕ) (roots : List Root) → AreAscending (a ∷ names_in_order roots) → first_of (is_named a) roots ≡ None
none_after a [] h = refl
none_after a (r ∷ roots) h =
    ap (λ b. if b then Some r else first_of (is_named a) roots) (differ_by a r.name (λ e. not_before_itself a (subst (λ n. Precedes a n) e h.0)))
    ∙ none_after a roots (ascending_skips a r roots h)

none_before : (before : List Root) (root : Root) (after : List Root) → AreAscending (names_in_order (before ++ root ∷ after)) → first_of (is_named root.name) before ≡ None
none_before [] root after h = refl
none_before (r ∷ before) root after h =
    ap (λ b. if b then Some r else first_of (is_named root.name) before)
    (differ_by root.name r.name (λ e. not_before_itself root.name (subst (λ n. Precedes n root.name) e (precedes_later r.name before root after h))))
    ∙ none_before before root after (ascending_rest r.name (before ++ root ∷ after) h)

none_behind : (before : List Root) (root : Root) (after : List Root) → AreAscending (names_in_order (before ++ root ∷ after)) → first_of (is_named root.name) after ≡ None
none_behind [] root after h = none_after root.name after h
none_behind (r ∷ before) root after h = none_behind before root after (ascending_rest r.name (before ++ root ∷ after) h)

-- if no root of either part passes a test, none of the whole does
none_joined : (test : Root → Bool) (before after : List Root) → first_of test before ≡ None → first_of test after ≡ None → first_of test (before ++ after) ≡ None
none_joined test [] after e f = f
none_joined test (r ∷ before) after e f = choose (test r) (none_joined test before after) e
  where
    choose : (b : Bool) → (first_of test before ≡ None → first_of test after ≡ None → first_of test (before ++ after) ≡ None) → (if b then Some r else first_of test before) ≡ None
        → (if b then Some r else first_of test (before ++ after)) ≡ None
    choose true again g = cc
    choose false again g = again g f

none_in_front : (test : Root → Bool) (before after : List Root) → first_of test (before ++ after) ≡ None → first_of test before ≡ None
none_in_front test [] after e = refl
none_in_front test (r ∷ before) after e = choose (test r) (none_in_front test before after) e
  where
    choose : (b : Bool) → (first_of test (before ++ after) ≡ None → first_of test before ≡ None) → (if b then Some r else first_of test (before ++ after)) ≡ None → (if b then Some r else first_of test before) ≡ None
    choose true again g = cc
    choose false again g = again g

-- ---- roots of paths

-- the root of a path is an owner
pub origin_among : {others : List Root} {s : State} {bytes : List ℕ} (pictured : Pictures others s bytes) (o : Origin) (r : Root) (i : ℕ) → root_at pictured o ≡ Some (r, i) → Among (owners_in pictured.picture) r
origin_among pictured (Origin.Name m k) r i h =
    let p = root_of_pair (root_named pictured.picture.names m) k r i h in
    among_left pictured.picture.names (pictured.picture.uniques ++ pictured.picture.loose) r (first_among (is_named m) pictured.picture.names r (sym (named_first pictured.picture.names m) ∙ p.0))
origin_among pictured (Origin.Unique U) r i h =
    let p = root_of_pair (root_of_type pictured.picture.uniques U) 0 r i h in
    among_right pictured.picture.names (pictured.picture.uniques ++ pictured.picture.loose) r
    (among_left pictured.picture.uniques pictured.picture.loose r (first_among (is_of_type U) pictured.picture.uniques r (sym (typed_first pictured.picture.uniques U) ∙ p.0)))
origin_among {s = s} pictured (Origin.Owned k) r i h =
    let p = root_of_pair (root_of_register s.registers pictured.owned k) 0 r i h in
    among_right pictured.picture.names (pictured.picture.uniques ++ pictured.picture.loose) r (among_right pictured.picture.uniques pictured.picture.loose r (among_loose (looks_of pictured) k r p.0))

abbrev named_place : ℕ → Option Root → Option (Root × ℕ)
named_place k o = option_map {T = Root} {U = Root × ℕ} (λ root. (root, k)) o

-- ---- the same picture, in other bytes

pub record Stays {others : List Root} {s : State} {old : List ℕ} (pictured : Pictures others s old) (new : List ℕ) : Type 0 where
  pub later : Pictures others s new
  pub keeps : KeepsRoots pictured later (λ o. ⊥)
  pub stays : KeepsFrozen old new pictured.picture.table pictured.picture.frozen later.picture.frozen

module _ {others : List Root} {s : State} {old : List ℕ} (pictured : Pictures others s old) (new : List ℕ) (held : IsHeld new pictured.picture) (counted : AreCounted (word new next_word) pictured.picture) where
  abbrev same_then : Pictures others s new
  same_then = record {
    picture = pictured.picture;
    held = held;
    counted = counted;
    types = pictured.types;
    names = pictured.names;
    uniques = pictured.uniques;
    owned = pictured.owned;
    are_owned = pictured.are_owned;
    loose = pictured.loose;
  }

  begins_same : (o : Origin) (root : Root) (item : ℕ) → root_at pictured o ≡ Some (root, item) → root_at same_then o ≡ Some (root, item)
  begins_same (Origin.Name m k) root item e = e
  begins_same (Origin.Unique U) root item e = e
  begins_same (Origin.Owned r) root item e = e

  pub picture_stays : AllByRecursion (KeepsPaths old new pictured.picture.table) (owners_in pictured.picture) → KeepsFrozen old new pictured.picture.table pictured.picture.frozen pictured.picture.frozen → Stays pictured new
  picture_stays paths frozen = record {
    later = same_then;
    stays = frozen;
    keeps = record {
      table = refl;
      begins = λ o root item e. inr (begins_same o root item e, each_among (KeepsPaths old new pictured.picture.table) (owners_in pictured.picture) root (origin_among pictured o root item e) paths);
    };
  }

-- ---- a name is added

module _ {others : List Root} {s : State} {old : List ℕ} (pictured : Pictures others s old) (new : List ℕ) (before : List Root) (root : Root) (after : List Root) (names_are : pictured.picture.names ≡ before ++ after)
    (free : root_named pictured.picture.names root.name ≡ None) where
  abbrev pub names_with : List Root
  names_with = before ++ root ∷ after

  abbrev pub state_with : State
  state_with = record s { names = with_name s.names root.name (Some (object_of root)) }

  pub record Comes : Type 0 where
    pub later : Pictures others state_with new
    pub keeps : KeepsRoots pictured later (λ o. ⊥)
    pub stays : KeepsFrozen old new pictured.picture.table pictured.picture.frozen later.picture.frozen
    pub begins : root_at later (Origin.Name root.name 0) ≡ Some (root, 0)

  name_there : root_named names_with root.name ≡ Some root
  name_there =
      let none = sym (named_first (before ++ after) root.name) ∙ ap (λ rs. root_named rs root.name) (sym names_are) ∙ free in
      named_first names_with root.name ∙ first_here (is_named root.name) before after root (none_in_front (is_named root.name) before after none) (same_name_refl root.name)

  others_with : (m : List ℕ) → same_name m root.name ≡ false → root_named names_with m ≡ root_named pictured.picture.names m
  others_with m g =
      named_first names_with m ∙ first_beside (is_named m) before after root g
      ∙ sym (named_first (before ++ after) m) ∙ ap (λ rs. root_named rs m) (sym names_are)

  names_then : (m : List ℕ) (b : Bool) → same_name m root.name ≡ b → with_name s.names root.name (Some (object_of root)) m ≡ option_map object_of (root_named names_with m)
  names_then m true g =
      ap (λ b. if b then Some (object_of root) else s.names m) g
      ∙ sym (ap (option_map object_of) name_there) ∙ ap (λ n. option_map object_of (root_named names_with n)) (same_name_is m root.name g)
  names_then m false g = ap (λ b. if b then Some (object_of root) else s.names m) g ∙ pictured.names m ∙ ap (option_map object_of) (sym (others_with m g))

  module _ (held : IsHeld new (with_roots pictured.picture Listed.by_name names_with)) (counted : AreCounted (word new next_word) (with_roots pictured.picture Listed.by_name names_with)) where
    abbrev with_then : Pictures others state_with new
    with_then = record {
      picture = with_roots pictured.picture Listed.by_name names_with;
      held = held;
      counted = counted;
      types = pictured.types;
      names = λ m. names_then m (same_name m root.name) refl;
      uniques = pictured.uniques;
      owned = pictured.owned;
      are_owned = pictured.are_owned;
      loose = pictured.loose;
    }

    begins_with : (o : Origin) (r : Root) (i : ℕ) → root_at pictured o ≡ Some (r, i) → root_at with_then o ≡ Some (r, i)
    begins_with (Origin.Unique U) r i e = e
    begins_with (Origin.Owned q) r i e = e
    begins_with (Origin.Name m k) r i e = by_name (same_name m root.name) refl
      where
        by_name : (b : Bool) → same_name m root.name ≡ b → named_place k (root_named names_with m) ≡ Some (r, i)
        by_name true g =
            let p = root_of_pair (root_named pictured.picture.names m) k r i e in
            let none : None ≡ Some r = sym free ∙ ap (root_named pictured.picture.names) (same_name_is m root.name g) ∙ p.0 in cc
        by_name false g = ap (named_place k) (others_with m g) ∙ e

    pub named_comes : AllByRecursion (KeepsPaths old new pictured.picture.table) (owners_in pictured.picture) → KeepsFrozen old new pictured.picture.table pictured.picture.frozen pictured.picture.frozen → Comes
    named_comes paths frozen = record {
      later = with_then;
      stays = frozen;
      keeps = record {
        table = refl;
        begins = λ o r i e. inr (begins_with o r i e, each_among (KeepsPaths old new pictured.picture.table) (owners_in pictured.picture) r (origin_among pictured o r i e) paths);
      };
      begins = ap (named_place 0) name_there;
    }

-- ---- a name is removed

module _ {others : List Root} {s : State} {old : List ℕ} (pictured : Pictures others s old) (new : List ℕ) (before : List Root) (root : Root) (after : List Root) (names_are : pictured.picture.names ≡ before ++ root ∷ after)
    (name : List ℕ) (root_is : root_named pictured.picture.names name ≡ Some root) where
  abbrev pub state_without : State
  state_without = record s { names = with_name s.names name None }

  -- the origins of paths that end: the items of the removed object
  abbrev pub EndsAt : Origin → Type 0
  EndsAt o = (item : ℕ) × (o ≡ Origin.Name name item)

  pub record Goes : Type 0 where
    pub later : Pictures others state_without new
    pub keeps : KeepsRoots pictured later EndsAt
    pub none : root_named later.picture.names name ≡ None
    pub stays : KeepsFrozen old new pictured.picture.table pictured.picture.frozen later.picture.frozen

  name_is : root.name ≡ name
  name_is = same_name_is name root.name (first_split (is_named name) pictured.picture.names root (sym (named_first pictured.picture.names name) ∙ root_is)).is

  none_left : root_named (before ++ after) name ≡ None
  none_left =
      let order : AreAscending (names_in_order (before ++ root ∷ after)) = subst (λ rs. AreAscending (names_in_order rs)) names_are pictured.held.laid_out.names.ascending in
      subst (λ n. root_named (before ++ after) n ≡ None) name_is
      (named_first (before ++ after) root.name ∙ none_joined (is_named root.name) before after (none_before before root after order) (none_behind before root after order))

  others_without : (m : List ℕ) → same_name m name ≡ false → root_named (before ++ after) m ≡ root_named pictured.picture.names m
  others_without m g =
      named_first (before ++ after) m ∙ sym (first_beside (is_named m) before after root (ap (same_name m) name_is ∙ g))
      ∙ sym (named_first (before ++ root ∷ after) m) ∙ ap (λ rs. root_named rs m) (sym names_are)

  names_left : (m : List ℕ) (b : Bool) → same_name m name ≡ b → with_name s.names name None m ≡ option_map object_of (root_named (before ++ after) m)
  names_left m true g =
      ap (λ b. if b then None else s.names m) g
      ∙ sym (ap (option_map object_of) none_left) ∙ ap (λ n. option_map object_of (root_named (before ++ after) n)) (same_name_is m name g)
  names_left m false g = ap (λ b. if b then None else s.names m) g ∙ pictured.names m ∙ ap (option_map object_of) (sym (others_without m g))

  abbrev rest : List Root
  rest = pictured.picture.uniques ++ pictured.picture.loose

  abbrev picture_left : Picture
  picture_left = without_cells (names_each root.values) (with_roots pictured.picture Listed.by_name (before ++ after))

  module _ (held : IsHeld new picture_left) (counted : AreCounted (word new next_word) picture_left) (paths : AllByRecursion (KeepsPaths old new pictured.picture.table) (before ++ (after ++ rest)))
      (frozen : KeepsFrozen old new pictured.picture.table pictured.picture.frozen (left (names_each root.values) pictured.picture.frozen)) where
    abbrev without_then : Pictures others state_without new
    without_then = record {
      picture = picture_left;
      held = held;
      counted = counted;
      types = pictured.types;
      names = λ m. names_left m (same_name m name) refl;
      uniques = pictured.uniques;
      owned = pictured.owned;
      are_owned = pictured.are_owned;
      loose = pictured.loose;
    }

    kept : (r : Root) → Among (before ++ (after ++ rest)) r → KeepsPaths old new pictured.picture.table r
    kept r a = each_among (KeepsPaths old new pictured.picture.table) (before ++ (after ++ rest)) r a paths

    behind : (r : Root) → Among rest r → Among (before ++ (after ++ rest)) r
    behind r a = among_right before (after ++ rest) r (among_right after rest r a)

    begins_without : (o : Origin) (r : Root) (i : ℕ) → root_at pictured o ≡ Some (r, i) → EndsAt o ⊎ ((root_at without_then o ≡ Some (r, i)) × KeepsPaths old new pictured.picture.table r)
    begins_without (Origin.Unique U) r i e =
        let p = root_of_pair (root_of_type pictured.picture.uniques U) 0 r i e in
        inr (e, kept r (behind r (among_left pictured.picture.uniques pictured.picture.loose r (first_among (is_of_type U) pictured.picture.uniques r (sym (typed_first pictured.picture.uniques U) ∙ p.0)))))
    begins_without (Origin.Owned k) r i e =
        let p = root_of_pair (root_of_register s.registers pictured.owned k) 0 r i e in
        inr (e, kept r (behind r (among_right pictured.picture.uniques pictured.picture.loose r (among_loose (looks_of pictured) k r p.0))))
    begins_without (Origin.Name m k) r i e = by_name (same_name m name) refl
      where
        by_name : (b : Bool) → same_name m name ≡ b → EndsAt (Origin.Name m k) ⊎ ((root_at without_then (Origin.Name m k) ≡ Some (r, i)) × KeepsPaths old new pictured.picture.table r)
        by_name true g = inl (k, ap (λ n. Origin.Name n k) (sym (same_name_is m name g)))
        by_name false g =
            let p = root_of_pair (root_named pictured.picture.names m) k r i e in
            let here = first_among (is_named m) (before ++ after) r (sym (named_first (before ++ after) m) ∙ others_without m g ∙ p.0) in
            inr (ap (named_place k) (others_without m g) ∙ e, kept r (subst (λ rs. Among rs r) (append_assoc before after rest) (among_left (before ++ after) rest r here)))

    pub named_goes : Goes
    named_goes = record { later = without_then; none = none_left; stays = frozen; keeps = record { table = refl; begins = begins_without } }
