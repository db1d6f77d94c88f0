-- Two situations that clients can't tell apart stay so after UKILL.
use Rattle.std.specs.Prelude.{ℤ, pos, nat_abs, ◌==◌, if◌then◌else◌, is_some}
use Rattle.std.proofs.Common.{◌≡◌, ℕ, inl, inr, Bool, true, false, List, [], ◌∷◌, ◌++◌, Option, Some, None, refl, sym, ap, ◌∙◌, subst, append_assoc}
use Rattle.seg_spec.specs.Index.{Root, AreRising, root_of_type}
use Rattle.seg_spec.specs.Counting.{owners_in}
use Rattle.seg_spec.specs.Roots.{HasFace}
use Rattle.client_spec.specs.declared.table.Operation.{Operation}
use Rattle.client_spec.specs.Syntax.{Constant, Instruction}
use Rattle.client_spec.specs.Machine.{Register, State, Uniques, with_unique}
use Rattle.client_spec.specs.Answer.{Answer, Outcome, success, give_count}
use Rattle.client_spec.specs.Effect.{effect}
use Rattle.client_spec.specs.Pictures.{Pictures}
use Rattle.client_spec.specs.Asks.{AsksBy, ReturnsBy, GrantsAsks, ChangesOnSuccess}
use Rattle.client_spec.specs.Ties.{keeps_image, TouchesBy}
use Rattle.client_spec.specs.OnImages.{Move, Situation, RowWith, RowOn}
use Rattle.test_definitions.specs.Alike.{StandAlike, StaysAlike}
use Rattle.test_definitions.proofs.Alike.AlikeRootLaws.{of_type}
use Rattle.test_definitions.proofs.Rows.AnsweredRowLaws.{from_answer}
use Rattle.test_definitions.proofs.Frozen.FrozenApartLaws.{among_either}
use Rattle.test_definitions.proofs.Rows.KeptRowLaws.{Idle, one, unchanged_alike, one_before, idle_alike}
use Rattle.test_definitions.proofs.Alike.ListedRootLaws.{type_is}
use Rattle.test_definitions.proofs.Alike.LostObjectLaws as lost
use Rattle.test_definitions.proofs.Steps.LostStepLaws.{Destroys, same_places, same_loose, loose_plain, root_destroyed, keeps, lost as loses, both_lost}
use Rattle.test_definitions.proofs.Rows.OwningRegisterLaws.{moves_owners, changes_names}
use Rattle.test_definitions.proofs.Steps.PlaceStepLaws.{unique_there, names_stay}
use Rattle.test_definitions.proofs.Alike.RemovedRootLaws.{divided, types_rise, typed_without}
use Rattle.test_definitions.proofs.Alike.RootMemberLaws.{IsAmong, among_left, among_right}

regrouped : (a b c e : List Root) → a ++ ((b ++ c) ++ e) ≡ (a ++ b) ++ (c ++ e)
regrouped a b c e = simp append_assoc

-- ---- the next state

module _ (constants : List Constant) (a b c : ℕ) (number : ℤ) (room : Bool) (s t : State) where
  unique_gone : (o : Operation) → o ≡ Operation.KillUnique → ◌≡◌ {A = Outcome} (effect constants o a b c number room s) (Some (success, t)) → is_some (s.uniques (nat_abs number)) ≡ true
      → t.uniques ≡ with_unique s.uniques (nat_abs number) None
  unfolding effect
  unique_gone o is e there =
      let f : ◌≡◌ {A = Outcome} (effect constants Operation.KillUnique a b c number room s) (Some (success, t)) = subst (λ k. ◌≡◌ {A = Outcome} (effect constants k a b c number room s) (Some (success, t))) is e in
      let gone = record s { uniques = with_unique s.uniques (nat_abs number) None } in
      let g = subst (λ b. ◌≡◌ {A = Outcome} (if b then give_count a 1 gone else give_count a 0 s) (Some (success, t))) there f in
      ap (λ (z : State). z.uniques) (from_answer success success a (Register.Int (pos 1)) gone t g).1

-- ---- one row

module _ (constants : List Constant) (others : List Root) (moves : List Move) (i : Instruction) (is : i.operation ≡ Operation.KillUnique) (x y : Situation) (r : RowOn constants others moves i x success y) (d : Root)
    (found : root_of_type r.before.pictured.picture.uniques (nat_abs i.number) ≡ Some d) where
  abbrev was : Pictures others r.before.plain x.image
  was = r.before.pictured

  abbrev after_row : Pictures others r.after.plain y.image
  after_row = r.after.pictured

  unique_destroyed : Destroys r.before.pictured y.image d
  unique_destroyed =
      let g : GrantsAsks constants i was y.image = subst (λ o. ChangesOnSuccess constants i was o y.image) is r.blocks in
      let among = among_right d was.picture.names (was.picture.uniques ++ was.picture.loose) (among_left d was.picture.uniques was.picture.loose (of_type was.picture.uniques (nat_abs i.number) d found)) in
      root_destroyed constants others moves i x y r g (subst (λ o. AsksBy constants i was o g.asks) is g.asked) (root_of_type was.picture.uniques (nat_abs i.number))
      (subst (λ o. ReturnsBy constants i was o g.gives) is g.returned) (λ spot own t. subst (λ o. TouchesBy constants i was o spot own) is t) d found among

  uniques_then : y.state.uniques ≡ with_unique x.state.uniques (nat_abs i.number) None
  uniques_then = by r.row
    where
      there : is_some (x.state.uniques (nat_abs i.number)) ≡ true
      there = unique_there constants others moves i x y success r x.state x.image r.before (nat_abs i.number) ∙ ap (λ (o : Option Root). is_some o) found

      by : RowWith constants i x.image x.state success y.state → y.state.uniques ≡ with_unique x.state.uniques (nat_abs i.number) None
      by (inl (room, e)) = unique_gone constants i.a i.b i.c i.number room x.state y.state i.operation is e there
      by (inr (w, full)) = absurd (let f = w.code in cc)

  module _ (before after : List Root) (are : r.before.pictured.picture.uniques ≡ before ++ d ∷ after) where
    abbrev front : List Root
    front = r.before.pictured.picture.names ++ before

    abbrev back : List Root
    back = after ++ r.before.pictured.picture.loose

    owners_were : owners_in r.before.pictured.picture ≡ front ++ d ∷ back
    owners_were = ap (λ us. was.picture.names ++ (us ++ was.picture.loose)) are ∙ regrouped was.picture.names before (d ∷ after) was.picture.loose

    kept_rest : lost.KeepsRest r.before.pictured r.after.pictured front (d ∷ []) back
    kept_rest = keeps constants others moves i x y r d unique_destroyed front back owners_were

    names_are : r.after.pictured.picture.names ≡ r.before.pictured.picture.names
    names_are = lost.names_stay was after_row front (d ∷ []) back kept_rest was.picture.names (λ c j. among_left c front back (among_left c was.picture.names before j)) was.held.laid_out.names.ascending
        (names_stay constants others moves i x y success r (ap changes_names is)) r.objects_stay.names

    of_rest : (U : ℕ) → root_of_type (before ++ after) U ≡ (if U == d.type then None else root_of_type r.before.pictured.picture.uniques U)
    of_rest U = typed_without 0 before d after (subst (AreRising 0) are was.held.laid_out.uniques.rising) U ∙ ap (λ rs. if U == d.type then None else root_of_type rs U) (sym are)

    uniques_are : r.after.pictured.picture.uniques ≡ before ++ after
    uniques_are = lost.uniques_stay was after_row front (d ∷ []) back kept_rest (before ++ after) among (types_rise 0 before d after (subst (AreRising 0) are was.held.laid_out.uniques.rising)) as_many faces
      where
        among : (c : Root) → IsAmong c (before ++ after) → IsAmong c (front ++ back)
        among c j = elim (among_either c before after j) [
          | inl k ↦ among_left c front back (among_right c was.picture.names before k)
          | inr k ↦ among_right c front back (among_left c after was.picture.loose k)
        ]

        type : d.type ≡ nat_abs i.number
        type = type_is (nat_abs i.number) d was.picture.uniques found

        as_many : (U : ℕ) → is_some (root_of_type r.after.pictured.picture.uniques U) ≡ is_some (root_of_type (before ++ after) U)
        as_many U = sym (unique_there constants others moves i x y success r y.state y.image r.after U) ∙ ap (λ (f : Uniques). is_some (f U)) uniques_then ∙ ap (λ T. is_some (if U == T then None else x.state.uniques U)) (sym type)
            ∙ go (U == d.type) ∙ sym (ap (λ (o : Option Root). is_some o) (of_rest U))
          where
            go : (b : Bool) → is_some (if b then None else x.state.uniques U) ≡ is_some (if b then None else root_of_type r.before.pictured.picture.uniques U)
            go true = refl
            go false = unique_there constants others moves i x y success r x.state x.image r.before U

        faces : (U : ℕ) (c e : Root) → root_of_type (before ++ after) U ≡ Some c → root_of_type r.after.pictured.picture.uniques U ≡ Some e → HasFace c e
        faces U c e f = go (U == d.type) (sym (of_rest U) ∙ f)
          where
            go : (b : Bool) → (if b then None else root_of_type r.before.pictured.picture.uniques U) ≡ Some c → root_of_type r.after.pictured.picture.uniques U ≡ Some e → HasFace c e
            go true h g = absurd (let n : None ≡ Some c = h in cc)
            go false h g = r.objects_stay.uniques U c e h g

    owned_are : r.after.pictured.owned ≡ r.before.pictured.owned
    owned_are = lost.owned_stay was after_row front (d ∷ []) back kept_rest was.owned
        (λ c j. (let l = loose_plain constants others moves i x y r c j in (l.0, among_right c front back (among_right c after was.picture.loose l.1))))
        (same_places constants others moves i x y r (ap (λ o. moves_owners o success) is))

    loses_unique : lost.LosesObjects r.before.pictured r.after.pictured front (d ∷ []) back
    loses_unique =
        let loose = same_loose constants others moves i x y r owned_are in
        loses constants others moves i x y r d unique_destroyed front back owners_were ((λ j. names_are j ++ (uniques_are j ++ loose j)) ∙ regrouped was.picture.names before after was.picture.loose)

-- ---- both rows

module _ (constants : List Constant) (others : List Root) (moves : List Move) (i : Instruction) (is : i.operation ≡ Operation.KillUnique) (x z y w : Situation) where
  both_unique : StandAlike others x z → (r : RowOn constants others moves i x success y) → RowOn constants others moves i z success w → (d : Root)
      → root_of_type r.before.pictured.picture.uniques (nat_abs i.number) ≡ Some d → StaysAlike others success success y w
  both_unique stand r q d found =
      let both = one_before constants others moves i x z y w success success stand r q in
      let found_too = ap (λ rs. root_of_type rs (nat_abs i.number)) (sym both.same.uniques) ∙ found in
      let s = divided d r.before.pictured.picture.uniques (of_type r.before.pictured.picture.uniques (nat_abs i.number) d found) in
      let are_too = sym both.same.uniques ∙ s.are in
      let loose : r.before.pictured.picture.loose ≡ q.before.pictured.picture.loose = r.before.pictured.loose ∙ ap (λ rs. others ++ rs) both.owned ∙ sym q.before.pictured.loose in
      let first = loses_unique constants others moves i is x y r d found s.before s.after s.are in
      let second = loses_unique constants others moves i is z w q d found_too s.before s.after are_too in
      let named_first = subst (λ ns. lost.LosesObjects q.before.pictured q.after.pictured (ns ++ s.before) (d ∷ []) (s.after ++ q.before.pictured.picture.loose)) (sym both.same.names) second in
      let second_too = subst (λ ls. lost.LosesObjects q.before.pictured q.after.pictured (r.before.pictured.picture.names ++ s.before) (d ∷ []) (s.after ++ ls)) (sym loose) named_first in
      both_lost constants others moves i x z y w stand r q (r.before.pictured.picture.names ++ s.before) (d ∷ []) (s.after ++ r.before.pictured.picture.loose) first second_too
      (names_are constants others moves i is x y r d found s.before s.after s.are ∙ both.same.names ∙ sym (names_are constants others moves i is z w q d found_too s.before s.after are_too))
      (uniques_are constants others moves i is x y r d found s.before s.after s.are ∙ sym (uniques_are constants others moves i is z w q d found_too s.before s.after are_too))
      (owned_are constants others moves i is x y r d found s.before s.after s.are ∙ both.owned ∙ sym (owned_are constants others moves i is z w q d found_too s.before s.after are_too))

  destroys : (second : Answer) → StandAlike others x z → RowOn constants others moves i x success y → RowOn constants others moves i z second w → StaysAlike others success second y w
  destroys second stand r q = by (root_of_type r.before.pictured.picture.uniques (nat_abs i.number)) refl
    where
      same : success ≡ second
      same = (one constants others moves i x z y w success second stand r q).0

      by : (o : Option Root) → root_of_type r.before.pictured.picture.uniques (nat_abs i.number) ≡ o → StaysAlike others success second y w
      by None e = idle_alike constants others moves i x z y w success second stand r q (subst (Idle constants i r.before.pictured) (sym is) e)
      by (Some d) e = subst (λ k. StaysAlike others success k y w) same (both_unique stand r (subst (λ k. RowOn constants others moves i z k w) (sym same) q) d e)

  pub kill_unique_alike : (first second : Answer) → StandAlike others x z → RowOn constants others moves i x first y → RowOn constants others moves i z second w → StaysAlike others first second y w
  kill_unique_alike success second stand r q = destroys second stand r q
  kill_unique_alike first second stand r q = unchanged_alike constants others moves i x z y w first second stand r q (ap (λ o. keeps_image o first) is)
