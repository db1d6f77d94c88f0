-- Two situations that clients can't tell apart stay so after DROP.
use Rattle.std.specs.Prelude.{ℤ, slice_set}
use Rattle.std.proofs.Common.{◌≡◌, ◌≢◌, ℕ, zero, suc, ◌⊎◌, inl, inr, Bool, true, false, List, [], ◌∷◌, ◌++◌, map, Option, Some, None, refl, sym, ap, ◌∙◌, subst, append_assoc}
use Rattle.std.proofs.lemmas.Bool.{cases_eq}
use Rattle.seg_spec.specs.Bytes.{word}
use Rattle.seg_spec.specs.Header.{next_word}
use Rattle.seg_spec.specs.Value.{Value}
use Rattle.seg_spec.specs.Index.{Root}
use Rattle.seg_spec.specs.Shared.{replaced}
use Rattle.seg_spec.specs.Sound.{IsPlain}
use Rattle.seg_spec.specs.Counting.{owners_in}
use Rattle.client_spec.specs.declared.table.Operation.{Operation}
use Rattle.client_spec.specs.Syntax.{Constant, Instruction}
use Rattle.client_spec.specs.Machine.{◌>>=◌, Register, State, register, set_register, owned_by}
use Rattle.client_spec.specs.Answer.{Answer, Outcome, success}
use Rattle.client_spec.specs.Effect.{effect}
use Rattle.client_spec.specs.Trees.{unfolded_register}
use Rattle.client_spec.specs.Pictures.{AreOwned, root_of_register, Pictures, meaning_in}
use Rattle.client_spec.specs.Asks.{AsksBy, ReturnsBy, GrantsAsks, ChangesOnSuccess}
use Rattle.client_spec.specs.Ties.{places_of, keeps_image, TouchesBy}
use Rattle.client_spec.specs.OnImages.{Move, Situation, RowWith, RowOn}
use Rattle.client_spec.proofs.TypedStates.StateLaws.{register_set_same}
use Rattle.client_spec.proofs.TypedStates.ValueLaws.{Some_inj}
use Rattle.client_sim.proofs.Objects.OwnedChangeLaws.{taken_seat}
use Rattle.test_definitions.specs.Alike.{StandAlike, StaysAlike}
use Rattle.test_definitions.proofs.Frozen.FrozenApartLaws.{among_either}
use Rattle.test_definitions.proofs.Rows.KeptRowLaws.{one, unchanged_alike, one_before, plain_before}
use Rattle.test_definitions.proofs.Alike.LostObjectLaws as lost
use Rattle.test_definitions.proofs.Steps.LostStepLaws.{Destroys, loose_plain, root_destroyed, keeps, lost as loses, both_lost}
use Rattle.test_definitions.proofs.Rows.OneRow.{pair_is}
use Rattle.test_definitions.proofs.Rows.OwnerRegisterLaws.{owner_seen, root_seen}
use Rattle.test_definitions.proofs.Rows.OwningRegisterLaws.{owners, unfolded_owners, owned_places, changes_names, changes_uniques}
use Rattle.test_definitions.proofs.Steps.PlaceStepLaws.{names_stay, uniques_stay}
use Rattle.test_definitions.proofs.Alike.RemovedRootLaws.{among_rest}
use Rattle.test_definitions.proofs.Alike.RootMemberLaws.{IsAmong, among_left, among_right}

three : (a b c e : List Root) → a ++ (b ++ (c ++ e)) ≡ (a ++ (b ++ c)) ++ e
three a b c e = simp append_assoc

-- ---- the row

pub owner_of : (x : Register) (v : Value) (t : ℕ) → owned_by x ≡ Some (v, t) → x ≡ Register.Owner v t
owner_of Register.Undefined v t e = cc
owner_of (Register.Int k) v t e = cc
owner_of (Register.Reference p) v t e = cc
owner_of (Register.Owner w u) v t e = (let both : ◌≡◌ {A = Value × ℕ} (w, u) (v, t) = Some_inj e in ap (λ (z : Value × ℕ). Register.Owner z.0 z.1) both)

drop_row : (constants : List Constant) (o : Operation) → o ≡ Operation.Drop → (a b c : ℕ) (number : ℤ) (room : Bool) (s t : State) → ◌≡◌ {A = Outcome} (effect constants o a b c number room s) (Some (success, t))
    → (t ≡ set_register s b Register.Undefined) × (v : Value) × (u : ℕ) × (owned_by (register s b) ≡ Some (v, u))
unfolding effect
drop_row constants o is a b c number room s t e =
    go (owned_by (register s b)) (subst (λ k. ◌≡◌ {A = Outcome} (effect constants k a b c number room s) (Some (success, t))) is e)
  where
    go : (w : Option (Value × ℕ)) → ◌≡◌ {A = Outcome} (w >>= λ _. Some (success, set_register s b Register.Undefined)) (Some (success, t))
        → (t ≡ set_register s b Register.Undefined) × (v : Value) × (u : ℕ) × (w ≡ Some (v, u))
    go None f = absurd (let g : ◌≡◌ {A = Outcome} None (Some (success, t)) = f in cc)
    go (Some (v, u)) f = (sym (pair_is success success (set_register s b Register.Undefined) t f).1, v, u, refl)

owners_set : (m : ℕ → Value) (xs : List Register) (b : ℕ) → owners (slice_set (map (unfolded_register m) xs) b Register.Undefined) ≡ owners (slice_set xs b Register.Undefined)
owners_set m [] b = refl
owners_set m (x ∷ xs) zero = ap (λ bs. false ∷ bs) (unfolded_owners m xs)
owners_set m (Register.Undefined ∷ xs) (suc b) = ap (λ bs. false ∷ bs) (owners_set m xs b)
owners_set m (Register.Int k ∷ xs) (suc b) = ap (λ bs. false ∷ bs) (owners_set m xs b)
owners_set m (Register.Reference p ∷ xs) (suc b) = ap (λ bs. false ∷ bs) (owners_set m xs b)
owners_set m (Register.Owner v t ∷ xs) (suc b) = ap (λ bs. true ∷ bs) (owners_set m xs b)

-- ---- one image

-- the object that the register owned, and the others
record Seat (i : Instruction) (registers : List Register) (owned : List Root) (d : Root) (before after : List Root) : Type 0 where
  there : root_of_register registers owned i.b ≡ Some d
  among : owned ≡ before ++ d ∷ after
  empty : AreOwned (slice_set registers i.b Register.Undefined) (before ++ after)
  beside : (r : ℕ) → r ≢ i.b → root_of_register (slice_set registers i.b Register.Undefined) (before ++ after) r ≡ root_of_register registers owned r

seat_of : (i : Instruction) (registers : List Register) (owned : List Root) (d : Root) → AreOwned registers owned → (there : root_of_register registers owned i.b ≡ Some d)
    → (before : List Root) × (after : List Root) × Seat i registers owned d before after
seat_of i registers owned d are there =
    let m = taken_seat registers owned i.b d are there in (
      m.before,
      m.after,
      record {
        there = there;
        among = m.among;
        empty = m.seat.empty Register.Undefined refl;
        beside = λ r far. sym (m.seat.beside r far Register.Undefined refl m.value d.type d) ∙ ap (λ rs. root_of_register rs (m.before ++ d ∷ m.after) r) (sym m.is)
            ∙ ap (λ xs. root_of_register registers xs r) (sym m.among);
      },
    )

module _ (constants : List Constant) (others : List Root) (moves : List Move) (i : Instruction) (is : i.operation ≡ Operation.Drop) (x y : Situation) (row : RowOn constants others moves i x success y) where
  state_after : (y.state ≡ set_register x.state i.b Register.Undefined) × (v : Value) × (u : ℕ) × (owned_by (register x.state i.b) ≡ Some (v, u))
  state_after = by row.row
    where
      by : RowWith constants i x.image x.state success y.state → (y.state ≡ set_register x.state i.b Register.Undefined) × (v : Value) × (u : ℕ) × (owned_by (register x.state i.b) ≡ Some (v, u))
      by (inl (room, e)) = drop_row constants i.operation is i.a i.b i.c i.number room x.state y.state e
      by (inr (w, full)) = absurd (let f = w.code in cc)

  its_root : (d : Root) × (root_of_register row.before.plain.registers row.before.pictured.owned i.b ≡ Some d)
  its_root = root_seen x.state x.image row.before i.b state_after.1 state_after.2 (owner_of (register x.state i.b) state_after.1 state_after.2 state_after.3)

  module _ (d : Root) (before after : List Root) (seat : Seat i row.before.plain.registers row.before.pictured.owned d before after) where
    abbrev p : Pictures others row.before.plain x.image
    p = row.before.pictured

    abbrev q : Pictures others row.after.plain y.image
    q = row.after.pictured

    loose_is : row.before.pictured.picture.loose ≡ (others ++ before) ++ d ∷ after
    loose_is = p.loose ∙ ap (λ rs. others ++ rs) seat.among ∙ sym (append_assoc others before (d ∷ after))

    abbrev front : List Root
    front = row.before.pictured.picture.names ++ (row.before.pictured.picture.uniques ++ (others ++ before))

    owners_were : owners_in row.before.pictured.picture ≡ front ++ d ∷ after
    owners_were = ap (λ rs. p.picture.names ++ (p.picture.uniques ++ rs)) loose_is ∙ three p.picture.names p.picture.uniques (others ++ before) (d ∷ after)

    owned_destroyed : Destroys row.before.pictured y.image d
    owned_destroyed =
        let g : GrantsAsks constants i p y.image = subst (λ o. ChangesOnSuccess constants i p o y.image) is row.blocks in
        root_destroyed constants others moves i x y row g (subst (λ o. AsksBy constants i p o g.asks) is g.asked) (root_of_register row.before.plain.registers p.owned i.b)
        (subst (λ o. ReturnsBy constants i p o g.gives) is g.returned) (λ spot own t. subst (λ o. TouchesBy constants i p o spot own) is t) d seat.there
        (subst (IsAmong d) (sym owners_were) (among_right d front (d ∷ after) (inl refl)))

    kept_rest : lost.KeepsRest row.before.pictured row.after.pictured front (d ∷ []) after
    kept_rest = keeps constants others moves i x y row d owned_destroyed front after owners_were

    names_are : row.after.pictured.picture.names ≡ row.before.pictured.picture.names
    names_are = lost.names_stay p q front (d ∷ []) after kept_rest p.picture.names (λ c j. among_left c front after (among_left c p.picture.names (p.picture.uniques ++ (others ++ before)) j)) p.held.laid_out.names.ascending
        (names_stay constants others moves i x y success row (ap changes_names is)) row.objects_stay.names

    uniques_are : row.after.pictured.picture.uniques ≡ row.before.pictured.picture.uniques
    uniques_are = lost.uniques_stay p q front (d ∷ []) after kept_rest p.picture.uniques
        (λ c j. among_left c front after (among_right c p.picture.names (p.picture.uniques ++ (others ++ before)) (among_left c p.picture.uniques (others ++ before) j))) p.held.laid_out.uniques.rising
        (uniques_stay constants others moves i x y success row (ap changes_uniques is)) row.objects_stay.uniques

    places_are : places_of row.after.pictured.owned ≡ places_of (before ++ after)
    places_are = owned_places (slice_set row.before.plain.registers i.b Register.Undefined) row.after.plain.registers (before ++ after) q.owned same_owners seat.empty q.are_owned stay
      where
        same_owners : owners row.after.plain.registers ≡ owners (slice_set row.before.plain.registers i.b Register.Undefined)
        same_owners = sym (unfolded_owners (meaning_in (word y.image next_word) q.picture) row.after.plain.registers) ∙ sym (ap (λ (s : State). owners s.registers) row.after.trees) ∙ ap (λ (s : State). owners s.registers) state_after.0
            ∙ ap (λ (s : State). owners (slice_set s.registers i.b Register.Undefined)) row.before.trees ∙ owners_set (meaning_in (word x.image next_word) p.picture) row.before.plain.registers i.b

        stay : (r : ℕ) (a b : Root) → root_of_register (slice_set row.before.plain.registers i.b Register.Undefined) (before ++ after) r ≡ Some a → root_of_register row.after.plain.registers row.after.pictured.owned r ≡ Some b → b.at ≡ a.at
        stay r a b e f = by (cases_eq r i.b)
          where
            by : (r ≡ i.b) ⊎ (r ≢ i.b) → b.at ≡ a.at
            by (inr far) = row.owners_stay r a b (sym (seat.beside r far) ∙ e) f
            by (inl same) = absurd (
                let s = owner_seen y.state y.image row.after r b f in
                let empty : register y.state i.b ≡ Register.Undefined = ap (λ (z : State). register z i.b) state_after.0 ∙ register_set_same x.state i.b Register.Undefined state_after.1 state_after.2 state_after.3 in
                let both : Register.Owner (replaced (meaning_in (word y.image next_word) row.after.pictured.picture) s.0) b.type ≡ Register.Undefined = sym s.1 ∙ ap (λ n. register y.state n) same ∙ empty in
                cc)

    owned_are : row.after.pictured.owned ≡ before ++ after
    owned_are = lost.owned_stay p q front (d ∷ []) after kept_rest (before ++ after) (λ c j. (plain c j, stays c j)) places_are
      where
        plain : (c : Root) → IsAmong c (before ++ after) → IsPlain c
        plain c j = (loose_plain constants others moves i x y row c (subst (IsAmong c) (sym seat.among) (among_rest c d before after j))).0

        stays : (c : Root) → IsAmong c (before ++ after) → IsAmong c (front ++ after)
        stays c j = elim (among_either c before after j) [
          | inl k ↦ among_left c front after (among_right c p.picture.names (p.picture.uniques ++ (others ++ before)) (among_right c p.picture.uniques (others ++ before) (among_right c others before k)))
          | inr k ↦ among_right c front after k
        ]

    loses_owned : lost.LosesObjects row.before.pictured row.after.pictured front (d ∷ []) after
    loses_owned =
        let loose_then : q.picture.loose ≡ (others ++ before) ++ after = q.loose ∙ ap (λ rs. others ++ rs) owned_are ∙ sym (append_assoc others before after) in
        loses constants others moves i x y row d owned_destroyed front after owners_were
        ((λ j. names_are j ++ (uniques_are j ++ loose_then j)) ∙ three p.picture.names p.picture.uniques (others ++ before) after)

-- ---- both images

module _ (constants : List Constant) (others : List Root) (moves : List Move) (i : Instruction) (is : i.operation ≡ Operation.Drop) (x z y w : Situation) (stand : StandAlike others x z) (r : RowOn constants others moves i x success y)
    (q : RowOn constants others moves i z success w) (d : Root) (before after : List Root) (seat : Seat i r.before.plain.registers r.before.pictured.owned d before after) where
  seat_too : Seat i q.before.plain.registers q.before.pictured.owned d before after
  seat_too =
      let owned = (one_before constants others moves i x z y w success success stand r q).owned in
      let plains = plain_before constants others moves i x z y w success success stand r q in
      subst (λ (s : State). Seat i s.registers q.before.pictured.owned d before after) plains (subst (λ os. Seat i r.before.plain.registers os d before after) owned seat)

  both_dropped : StaysAlike others success success y w
  both_dropped =
      let both = one_before constants others moves i x z y w success success stand r q in
      let front_same : q.before.pictured.picture.names ++ (q.before.pictured.picture.uniques ++ (others ++ before)) ≡ r.before.pictured.picture.names ++ (r.before.pictured.picture.uniques ++ (others ++ before))
      = λ j. sym both.same.names j ++ (sym both.same.uniques j ++ (others ++ before)) in
      let first = loses_owned constants others moves i is x y r d before after seat in
      let second = subst (λ rs. lost.LosesObjects q.before.pictured q.after.pictured rs (d ∷ []) after) front_same (loses_owned constants others moves i is z w q d before after seat_too) in
      both_lost constants others moves i x z y w stand r q (r.before.pictured.picture.names ++ (r.before.pictured.picture.uniques ++ (others ++ before))) (d ∷ []) after first second
      (names_are constants others moves i is x y r d before after seat ∙ both.same.names ∙ sym (names_are constants others moves i is z w q d before after seat_too))
      (uniques_are constants others moves i is x y r d before after seat ∙ both.same.uniques ∙ sym (uniques_are constants others moves i is z w q d before after seat_too))
      (owned_are constants others moves i is x y r d before after seat ∙ sym (owned_are constants others moves i is z w q d before after seat_too))

pub drop_alike : (constants : List Constant) (others : List Root) (moves : List Move) (i : Instruction) → i.operation ≡ Operation.Drop → (x z y w : Situation) (first second : Answer) → StandAlike others x z
    → RowOn constants others moves i x first y → RowOn constants others moves i z second w → StaysAlike others first second y w
drop_alike constants others moves i is x z y w success second stand r q =
    let same : success ≡ second = (one constants others moves i x z y w success second stand r q).0 in
    let d = its_root constants others moves i is x y r in
    let s = seat_of i r.before.plain.registers r.before.pictured.owned d.0 r.before.pictured.are_owned d.1 in
    subst (λ k. StaysAlike others success k y w) same (both_dropped constants others moves i is x z y w stand r (subst (λ k. RowOn constants others moves i z k w) (sym same) q) d.0 s.0 s.1 s.2)
drop_alike constants others moves i is x z y w first second stand r q = unchanged_alike constants others moves i x z y w first second stand r q (ap (λ o. keeps_image o first) is)
