-- An instruction that frees blocks of a place, and the frozen objects to which no cell points any more: a
-- frozen object of which a block is still allocated stays.
use Rattle.std.proofs.Common.{◌≡◌, ◌≢◌, ℕ, ◌≤◌, ◌⊎◌, inl, inr, List, ◌∷◌, ◌++◌, map, Some, refl, sym, ◌∙◌, subst, arith}
use Rattle.std.specs.List.{AllByRecursion}
use Rattle.std.proofs.lemmas.Bool.{cases_eq}
use Rattle.seg_spec.specs.Bytes.{word}
use Rattle.seg_spec.specs.Header.{next_word}
use Rattle.seg_spec.specs.Value.{Value, with_value_at}
use Rattle.seg_spec.specs.Heap.{live}
use Rattle.seg_spec.specs.Reads.{Place, Holds}
use Rattle.seg_spec.specs.Index.{Root}
use Rattle.seg_spec.specs.Frozen.{Frozen, root_of_frozen, blocks_by}
use Rattle.seg_spec.specs.Sound.{HoldsRoot, times, positions}
use Rattle.seg_spec.specs.Shared.{names_in, names_each, IsBelow, IsCounted, left, freed}
use Rattle.seg_spec.specs.Counting.{cells_in, owners_in}
use Rattle.seg_spec.specs.Destroying.{HoldFrozen}
use Rattle.seg_spec.specs.Roots.{with_item}
use Rattle.seg_spec.proofs.Frozen.SharedLaws.{left_or_freed}
use Rattle.seg_spec.proofs.Values.OneValueLaws.{HoldsEach-one}
use Rattle.seg_spec.proofs.Values.PlaceFrameLaws.{each_weaker}
use Rattle.client_spec.specs.Machine.{Path, State, at_origin}
use Rattle.client_spec.specs.Pictures.{Pictures, LeadsInImage}
use Rattle.test_definitions.proofs.ValueChanges.ChangedPlaceLaws.{KeepsOwners, OtherRoot, among_one, first_owners, last_owners, first_owner, last_owner, first_other, last_other, own_root_then, holds_one}
use Rattle.test_definitions.proofs.ValueChanges.ChangedPlaceLaws.{owners_with_value}
use Rattle.test_definitions.proofs.Rows.ChangedPlaceRowLaws.{Beside, cells_of, all_cells, items_faced, content, there_before}
use Rattle.test_definitions.proofs.Frozen.FreedBlockLaws.{at_one, its_fewer}
use Rattle.test_definitions.proofs.Frozen.FrozenApartLaws.{owner_in_roots}
use Rattle.test_definitions.proofs.Frozen.FrozenOrderLaws.{IsOneOf, each_of}
use Rattle.test_definitions.proofs.Frozen.FrozenStayLaws.{left_found}
use Rattle.test_definitions.proofs.Alike.OwnedBlockLaws.{FrozenStay, still_any, then_face}
use Rattle.test_definitions.proofs.Rows.OwningRegisterLaws.{owners}
use Rattle.test_definitions.proofs.ValueChanges.PlaceValueLaws.{root_then}
use Rattle.test_definitions.proofs.Frozen.ReachedFrozenLaws.{StandsAt, below_stands, all_reached}
use Rattle.test_definitions.proofs.Alike.RootMemberLaws.{IsAmong, owns}

-- one of the objects has this position and this value
pub record Based (f : Frozen) (fs : List Frozen) : Type 0 where
  pub object : Frozen
  pub among : IsOneOf object fs
  pub at_is : object.at ≡ f.at
  pub value_is : object.value ≡ f.value

pub each_based : (fs : List Frozen) (f : Frozen) → IsOneOf f fs → Based f fs
each_based fs f i = record { object = f; among = i; at_is = refl; value_is = refl }

module _ {others : List Root} {s s' : State} {old : List ℕ} (p : Pictures others s old) (new : List ℕ) (path : Path) (place : Place) (l : LeadsInImage p path place) (found : Value × ℕ) (begins : at_origin s path.origin ≡ Some found)
    {value : Value} (its : List ℕ) (holds_it : Holds old p.picture.table place value its) (kept : KeepsOwners p new place its) (p' : Pictures others s' new)
    (b : Beside p new path place l found begins its holds_it kept p') (same_owners : owners s'.registers ≡ owners s.registers) where
  -- a cell points to a frozen object of the new image
  abbrev Stands : Place → Type 0
  Stands q = StandsAt q.at p'.picture.frozen

  named_stand : (c : Root) → IsAmong c (owners_in p'.picture) → AllByRecursion Stands (names_each c.values)
  named_stand c i =
      each_weaker (IsBelow (word new next_word) p'.picture.frozen) Stands (λ q below. (below_stands (word new next_word) p'.picture.frozen q below).0) (names_each c.values)
      (cells_of (IsBelow (word new next_word) p'.picture.frozen) (owners_in p'.picture) c p'.counted.counted.named i)

  -- the cells of a root that stays
  other_stand : (r : Root) → IsAmong r (owners_in p.picture) → OtherRoot p new path place l found begins its holds_it kept r → AllByRecursion Stands (names_each r.values)
  other_stand r i o =
      let s = still_any p new path place l found begins its holds_it kept p' b r i in
      let theirs = owns new p'.picture p'.held s.now p'.held.roots (owner_in_roots p'.picture s.now s.owner) in
      let here = items_faced p new path place l found begins its holds_it kept p' b.objects r s.now s.face theirs.holds_it.values in
      let values = (HoldsEach-one new p.picture.table here o.is_kept.still.values).0 in
      subst (λ vs. AllByRecursion Stands (names_each vs)) values (named_stand s.now s.owner)

  abbrev root_with : Value → Root
  root_with w = with_item l.root l.item (with_value_at path.selectors w)

  -- the cells of the place's root
  own_stand : (w : Value) (news : List ℕ) → Holds new p.picture.table place w news → AllByRecursion Stands (names_each (root_with w).values)
  own_stand w news hold =
      let t = root_then p new path place l found begins its holds_it kept p' b.objects same_owners path.origin l.begins in
      let own = own_root_then p new path place l found begins its holds_it kept hold in
      let theirs = owns new p'.picture p'.held t.root p'.held.roots (owner_in_roots p'.picture t.root t.owner) in
      let face = then_face p new path place l found begins its holds_it kept p' b t.root w t.face in
      let here = items_faced p new path place l found begins its holds_it kept p' b.objects (root_with w) t.root face theirs.holds_it.values in
      let values = (HoldsEach-one new p.picture.table here own.holds_then.values).0 in
      subst (λ vs. AllByRecursion Stands (names_each vs)) values (named_stand t.root t.owner)

  each_stands : (w : Value) (news : List ℕ) → Holds new p.picture.table place w news → (r : Root)
      → IsAmong r (first_owners p new path place l found begins its holds_it kept ++ root_with w ∷ last_owners p new path place l found begins its holds_it kept) → AllByRecursion Stands (names_each r.values)
  each_stands w news hold r i =
      elim (among_one r (root_with w) (first_owners p new path place l found begins its holds_it kept) (last_owners p new path place l found begins its holds_it kept) i) [
        | inl e ↦ subst (λ (x : Root). AllByRecursion Stands (names_each x.values)) (sym e) (own_stand w news hold)
        | inr (inl j) ↦ other_stand r (first_owner p new path place l found begins its holds_it kept r j) (first_other p new path place l found begins its holds_it kept r j)
        | inr (inr j) ↦ other_stand r (last_owner p new path place l found begins its holds_it kept r j) (last_other p new path place l found begins its holds_it kept r j)
      ]

  -- `base` are the frozen objects before, of which some counts may have been raised.
  module _ (base : List Frozen) (based : (f : Frozen) → IsOneOf f base → Based f p.picture.frozen) (gone : List Place) (w : Value) (news : List ℕ) (hold : Holds new p.picture.table place w news)
      (counted : IsCounted (word old next_word) (left gone base) (cells_in (owners_with_value p new path place l found begins its holds_it kept w))) where
    -- Frozen objects to which cells still point stay.
    remains : (f : Frozen) → IsOneOf f (left gone base) → StandsAt f.at p'.picture.frozen
    remains =
        let falls : AllByRecursion (λ (g : Frozen). AllByRecursion Stands (names_in g.value)) p'.picture.frozen =
        each_weaker (λ (g : Frozen). AllByRecursion (IsBelow g.number p'.picture.frozen) (names_in g.value)) (λ (g : Frozen). AllByRecursion Stands (names_in g.value))
        (λ g a. each_weaker (IsBelow g.number p'.picture.frozen) Stands (λ q below. (below_stands g.number p'.picture.frozen q below).0) (names_in g.value) a) p'.picture.frozen p'.counted.counted.falling in
        all_reached (word old next_word) (left gone base) (cells_in (owners_with_value p new path place l found begins its holds_it kept w)) counted p'.picture.frozen falls
        (all_cells Stands (owners_with_value p new path place l found begins its holds_it kept w) (each_stands w news hold))
        (λ f g i j at. let k = left_found f gone base i in
        let o = based k.object k.among in
        sym ((content p new path place l found begins its holds_it kept p' b o.object g o.among j (sym at ∙ sym k.same.at ∙ sym o.at_is)).value ∙ o.value_is ∙ k.same.value))

    pub released_stay : (theirs : ℕ → List ℕ) → HoldFrozen old p.picture.table theirs p.picture.frozen → ((f : Frozen) → IsOneOf f p.picture.frozen → 1 ≤ times f.at (map (λ (g : Frozen). g.at) base))
        → ((h : ℕ) → 1 ≤ times h (blocks_by theirs (freed gone base)) → times h (positions (live new)) ≡ 0) → FrozenStay p new path place l found begins its holds_it kept p' b
    released_stay theirs theirs_hold there_is free f i h mine some = by (cases_eq (times f.at (map (λ (g : Frozen). g.at) (freed gone base))) 0)
      where
        by : (times f.at (map (λ (g : Frozen). g.at) (freed gone base)) ≡ 0) ⊎ (times f.at (map (λ (g : Frozen). g.at) (freed gone base)) ≢ 0) → StandsAt f.at p'.picture.frozen
        by (inr more) = absurd (
            let k = at_one f.at (freed gone base) (omega (arith, more)) in
            let its_hold = each_of (λ (x : Frozen). HoldsRoot old p.picture.table (root_of_frozen x) (theirs x.at)) f p.picture.frozen i theirs_hold in
            let blocks = holds_one old p.picture.table (root_of_frozen f) (there_before p new path place l found begins its holds_it kept p' b f i) its_hold in
            let owned : 1 ≤ times h (theirs k.object.at) = subst (λ n. 1 ≤ times h (theirs n)) (sym k.at_is) (subst (λ xs. 1 ≤ times h xs) blocks mine) in
            let none = free h (omega (arith, owned, its_fewer theirs k.object (freed gone base) k.among h)) in
            omega (arith, some, none))
        by (inl none) =
            let k = at_one f.at (left gone base) (omega (arith, none, there_is f i, left_or_freed f.at gone base)) in
            let stay = remains k.object k.among in
            record { object = stay.object; among = stay.among; at_is = stay.at_is ∙ k.at_is }
