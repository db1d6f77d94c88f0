-- Two situations that clients can't tell apart stay so after UMAKE and UFINDOR.
use Rattle.std.specs.Prelude.{ℤ, pos, nat_abs, ◌==◌, if◌then◌else◌, is_some, option_and_then}
use Rattle.std.proofs.Common.{◌≡◌, ◌≢◌, ℕ, ◌+◌, ◌≤◌, ◌⊎◌, inl, inr, Bool, true, false, List, [], ◌∷◌, ◌++◌, length, Option, Some, None, option_map, refl, sym, ap, ◌∙◌, subst, arith}
use Rattle.std.specs.List.{AllByRecursion}
use Rattle.std.proofs.lemmas.Bool.{cases_eq}
use Rattle.std.proofs.lemmas.Bool.Decides.{nat_tests}
use Rattle.seg_spec.specs.Bytes.{word}
use Rattle.seg_spec.specs.Header.{next_word, index_kind_word}
use Rattle.seg_spec.specs.Types.{size}
use Rattle.seg_spec.specs.Value.{Value, nil, cons, nth, default_of}
use Rattle.seg_spec.specs.Heap.{live}
use Rattle.seg_spec.specs.Block.{block_of, KeepsBlock}
use Rattle.seg_spec.specs.Index.{Root, root_of_type}
use Rattle.seg_spec.specs.Sound.{IsPlain, payload_of, times, positions}
use Rattle.seg_spec.specs.Shared.{names_in, names_each, IsBelow, replaced}
use Rattle.seg_spec.specs.Counting.{owners_in}
use Rattle.seg_spec.specs.Demand.{block_for}
use Rattle.seg_spec.proofs.Values.PlaceFrameLaws.{each_left}
use Rattle.client_spec.specs.declared.table.Operation.{Operation}
use Rattle.client_spec.specs.Syntax.{Constant, Instruction}
use Rattle.client_spec.specs.Machine.{Origin, Register, State, with_unique, Uniques}
use Rattle.client_spec.specs.Answer.{Answer, Outcome, success, bad_alloc, already_exists, answer, answer_number, fail, path_from}
use Rattle.client_spec.specs.Effect.{effect, add_unique}
use Rattle.client_spec.specs.Pictures.{Pictures, meaning_in}
use Rattle.client_spec.specs.Asks.{if_absent, unique_asks, AsksBy, ReturnsBy, GrantsAsks, ChangesOnSuccess}
use Rattle.client_spec.specs.Ties.{Spot, nowhere, keeps_image, TouchesBy, AllocatesAt, UniquesCome, ObjectsComeBy}
use Rattle.client_spec.specs.OnImages.{Move, Situation, RowWith, RowOn}
use Rattle.test_definitions.specs.Alike.{StandAlike, StaysAlike}
use Rattle.test_definitions.proofs.Alike.AlikeChangeLaws.{root_one}
use Rattle.test_definitions.proofs.Rows.AnsweredRowLaws.{from_answer}
use Rattle.test_definitions.proofs.Alike.AlikeRootLaws.{of_type}
use Rattle.test_definitions.proofs.Rows.ChangedPlaceRowLaws.{cells_of}
use Rattle.test_definitions.proofs.ValueChanges.DefaultCellLaws.{default_cells, one_names}
use Rattle.test_definitions.proofs.Frozen.FrozenApartLaws.{among_either}
use Rattle.test_definitions.proofs.Alike.GrownImageLaws.{Grows, owner_in}
use Rattle.test_definitions.proofs.Steps.GrownStepLaws.{both_as_before, both_grown}
use Rattle.test_definitions.proofs.Alike.IndexAlikeLaws.{index_long, index_is_long, NodesStay, whole_nodes}
use Rattle.test_definitions.proofs.Rows.KeptRowLaws.{Idle, owned_kept, one, unchanged_alike, one_before, plain_before, idle_alike}
use Rattle.test_definitions.proofs.Alike.ListedRootLaws.{types_listed, found_of_type, type_is}
use Rattle.test_definitions.proofs.Rows.NewBlockLaws.{one_block}
use Rattle.test_definitions.proofs.Rows.NewObjectLaws.{granted_lives, kept_beside, tables, names_same, same_unique, owned_same}
use Rattle.test_definitions.proofs.Rows.OwningRegisterLaws.{moves_owners, changes_names}
use Rattle.test_definitions.proofs.Steps.PlaceStepLaws.{unique_there, kinds_stay}
use Rattle.test_definitions.proofs.Alike.RootMemberLaws.{IsAmong, each_among, among_left, among_right, index_live, owns}

abbrev pub MakesUnique : Operation → Type 0
MakesUnique o = (o ≡ Operation.MakeUnique) ⊎ (o ≡ Operation.FindOrMakeUnique)

-- what follows for each of the two
by_two : (P : Operation → Type 0) (o : Operation) → MakesUnique o → P Operation.MakeUnique → P Operation.FindOrMakeUnique → P o
by_two P o (inl e) a b = subst P (sym e) a
by_two P o (inr e) a b = subst P (sym e) b

-- ---- the row

added : (a T : ℕ) (room : Bool) (s t : State) → ◌≡◌ {A = Outcome} (add_unique a T room s) (Some (success, t)) → t.uniques ≡ with_unique s.uniques T (Some (default_of s.types T))
added a T true s t e =
    ap (λ (z : State). z.uniques) (from_answer success success a (Register.Reference (path_from (Origin.Unique T))) (record s { uniques = with_unique s.uniques T (Some (default_of s.types T)) }) t e).1
added a T false s t e = absurd (let f : bad_alloc ≡ success = (from_answer bad_alloc success a (Register.Int (pos (answer_number bad_alloc))) s t e).0 in cc)

module _ (constants : List Constant) (a b c : ℕ) (number : ℤ) (room : Bool) (s t : State) where
  made : (o : Operation) → MakesUnique o → ◌≡◌ {A = Outcome} (effect constants o a b c number room s) (Some (success, t)) → s.uniques (nat_abs number) ≡ None
      → t.uniques ≡ with_unique s.uniques (nat_abs number) (Some (default_of s.types (nat_abs number)))
  unfolding effect
  made o (inl is) e none =
      let f : ◌≡◌ {A = Outcome} (effect constants Operation.MakeUnique a b c number room s) (Some (success, t)) = subst (λ k. ◌≡◌ {A = Outcome} (effect constants k a b c number room s) (Some (success, t))) is e in
      added a (nat_abs number) room s t
      (subst (λ (v : Option Value). ◌≡◌ {A = Outcome} (if is_some v then fail a already_exists s else add_unique a (nat_abs number) room s) (Some (success, t))) none f)
  made o (inr is) e none =
      let f : ◌≡◌ {A = Outcome} (effect constants Operation.FindOrMakeUnique a b c number room s) (Some (success, t)) = subst (λ k. ◌≡◌ {A = Outcome} (effect constants k a b c number room s) (Some (success, t))) is e in
      added a (nat_abs number) room s t
      (subst (λ (v : Option Value). ◌≡◌ {A = Outcome} (if is_some v then answer success a (Register.Reference (path_from (Origin.Unique (nat_abs number)))) s else add_unique a (nat_abs number) room s) (Some (success, t))) none f)

  -- UMAKE makes no second object
  not_twice : (o : Operation) → o ≡ Operation.MakeUnique → ◌≡◌ {A = Outcome} (effect constants o a b c number room s) (Some (success, t)) → is_some (s.uniques (nat_abs number)) ≡ true → ⊥
  unfolding effect
  not_twice o is e there =
      let f : ◌≡◌ {A = Outcome} (effect constants Operation.MakeUnique a b c number room s) (Some (success, t)) = subst (λ k. ◌≡◌ {A = Outcome} (effect constants k a b c number room s) (Some (success, t))) is e in
      let g = subst (λ b. ◌≡◌ {A = Outcome} (if b then fail a already_exists s else add_unique a (nat_abs number) room s) (Some (success, t))) there f in
      let k : already_exists ≡ success = (from_answer already_exists success a (Register.Int (pos (answer_number already_exists))) s t g).0 in
      cc

same_number : (n : ℕ) → (n == n) ≡ true
same_number n = go (n == n) refl
  where
    go : (b : Bool) → (n == n) ≡ b → (n == n) ≡ true
    go true e = e
    go false e = (let other : n ≢ n = grind (arith, nat_tests) in absurd (other refl))

other_number : (n m : ℕ) → n ≢ m → (n == m) ≡ false
other_number n m other = go (n == m) refl
  where
    go : (b : Bool) → (n == m) ≡ b → (n == m) ≡ false
    go true e = (let same : n ≡ m = grind (arith, nat_tests) in absurd (other same))
    go false e = e

-- ---- one image

module _ (constants : List Constant) (others : List Root) (moves : List Move) (i : Instruction) (which : MakesUnique i.operation) (x y : Situation) (r : RowOn constants others moves i x success y)
    (absent : root_of_type r.before.pictured.picture.uniques (nat_abs i.number) ≡ None) where
  abbrev T : ℕ
  T = nat_abs i.number

  abbrev p : Pictures others r.before.plain x.image
  p = r.before.pictured

  abbrev q : Pictures others r.after.plain y.image
  q = r.after.pictured

  touches : (spot : Spot) (own : List ℕ) → TouchesBy constants i r.before.pictured i.operation spot own → (spot ≡ nowhere) × (own ≡ [])
  touches spot own t = by_two (λ o. TouchesBy constants i r.before.pictured o spot own → (spot ≡ nowhere) × (own ≡ [])) i.operation which (λ k. k) (λ k. k) t

  kept_whole : (h : ℕ) → 1 ≤ times h (positions (live x.image)) → KeepsBlock x.image y.image h
  kept_whole h some = kept_beside constants others moves i x y success r h some (λ spot own t. (let k = touches spot own t in (k.0, ap (times h) k.1)))

  kept : (h : ℕ) → 1 ≤ times h (positions (live x.image)) → times h r.before.pictured.held.index_blocks ≡ 0 → KeepsBlock x.image y.image h
  kept h some none = kept_whole h some

  names_stay_same : r.after.pictured.picture.names ≡ r.before.pictured.picture.names
  names_stay_same = names_same constants others moves i x y success r kept (by_two (λ o. changes_names o ≡ false) i.operation which refl refl)

  owned_stay_same : r.after.pictured.owned ≡ r.before.pictured.owned
  owned_stay_same = owned_same constants others moves i x y success r kept
      (r.owned_after ∙ owned_kept constants others moves i x y success r (by_two (λ o. moves_owners o success ≡ false) i.operation which refl refl) ∙ sym r.owned_before)

  state_absent : x.state.uniques T ≡ None
  state_absent = go (x.state.uniques T) refl
    where
      go : (o : Option Value) → x.state.uniques T ≡ o → o ≡ None
      go None e = refl
      go (Some v) e = absurd (
          let f : true ≡ false = sym (ap (λ (o : Option Value). is_some o) e) ∙ unique_there constants others moves i x y success r x.state x.image r.before T ∙ ap (λ (o : Option Root). is_some o) absent in
          cc)

  state_after : y.state.uniques ≡ with_unique x.state.uniques T (Some (default_of x.state.types T))
  state_after = by r.row
    where
      by : RowWith constants i x.image x.state success y.state → y.state.uniques ≡ with_unique x.state.uniques T (Some (default_of x.state.types T))
      by (inl (room, e)) = made constants i.a i.b i.c i.number room x.state y.state i.operation which e state_absent
      by (inr (w, full)) = absurd (let f = w.code in cc)

  now_there : y.state.uniques T ≡ Some (default_of x.state.types T)
  now_there = ap (λ (f : Uniques). f T) state_after ∙ ap (λ b. if b then Some (default_of x.state.types T) else x.state.uniques T) (same_number T)

  beside : (U : ℕ) → U ≢ T → root_of_type r.after.pictured.picture.uniques U ≡ root_of_type r.before.pictured.picture.uniques U
  beside U other =
      let states : y.state.uniques U ≡ x.state.uniques U = ap (λ (f : Uniques). f U) state_after ∙ ap (λ b. if b then Some (default_of x.state.types T) else x.state.uniques U) (other_number U T other) in
      same_unique constants others moves i x y success r kept U
      (sym (unique_there constants others moves i x y success r y.state y.image r.after U) ∙ ap (λ (o : Option Value). is_some o) states ∙ unique_there constants others moves i x y success r x.state x.image r.before U)

  record Made : Type 0 where
    object : Root
    found : root_of_type r.after.pictured.picture.uniques T ≡ Some object
    plain : IsPlain object
    no_cells : names_each object.values ≡ []
    values_are : object.values ≡ cons (default_of x.state.types T) nil

  made_object : Made
  made_object = go (root_of_type q.picture.uniques T) refl
    where
      m : ℕ → Value
      m = meaning_in (word y.image next_word) r.after.pictured.picture

      seen : option_map (replaced (meaning_in (word y.image next_word) r.after.pictured.picture)) (option_and_then (λ (root : Root). nth root.values 0) (root_of_type r.after.pictured.picture.uniques T)) ≡ Some (default_of x.state.types T)
      seen = ap (option_map (replaced (meaning_in (word y.image next_word) r.after.pictured.picture))) (sym (q.uniques T)) ∙ sym (ap (λ (s : State). s.uniques T) r.after.trees) ∙ now_there

      go : (o : Option Root) → root_of_type r.after.pictured.picture.uniques T ≡ o → Made
      go None e = absurd (
          let f : None ≡ Some (default_of x.state.types T) = sym (ap (λ o. option_map (replaced (meaning_in (word y.image next_word) r.after.pictured.picture)) (option_and_then (λ (root : Root). nth root.values 0) o)) e) ∙ seen in
          cc)
      go (Some a) e =
          let among = of_type q.picture.uniques T a e in
          let plain = each_among IsPlain a (q.picture.uniques ++ q.picture.loose) (among_left a q.picture.uniques q.picture.loose among) q.held.laid_out.plain in
          let f : Some (replaced (meaning_in (word y.image next_word) r.after.pictured.picture) plain.value) ≡ Some (default_of x.state.types T) =
          sym (ap (λ o. option_map (replaced (meaning_in (word y.image next_word) r.after.pictured.picture)) (option_and_then (λ (root : Root). nth root.values 0) o)) e
          ∙ ap (λ vs. option_map (replaced (meaning_in (word y.image next_word) r.after.pictured.picture)) (nth vs 0)) plain.values_are) ∙ seen in
          let same : replaced (meaning_in (word y.image next_word) r.after.pictured.picture) plain.value ≡ default_of x.state.types T = cc in
          let there = among_right a q.picture.names (q.picture.uniques ++ q.picture.loose) (among_left a q.picture.uniques q.picture.loose among) in
          let below = cells_of (IsBelow (word y.image next_word) q.picture.frozen) (owners_in q.picture) a q.counted.counted.named there in
          let names : names_each a.values ≡ names_in plain.value ++ [] = ap names_each plain.values_are ∙ one_names plain.value in
          let k = default_cells q plain.value x.state.types T (each_left (IsBelow (word y.image next_word) q.picture.frozen) (names_in plain.value) []
          (subst (AllByRecursion (IsBelow (word y.image next_word) q.picture.frozen)) names below)) same in
          record {
            object = a;
            found = e;
            plain = plain;
            no_cells = names ∙ ap (λ xs. xs ++ []) k.0;
            values_are = plain.values_are ∙ ap (λ v. cons v nil) k.1;
          }

  grants : GrantsAsks constants i r.before.pictured y.image
  grants = by_two (λ o. ChangesOnSuccess constants i r.before.pictured o y.image → GrantsAsks constants i r.before.pictured y.image) i.operation which (λ k. k) (λ k. k) r.blocks

  gets : AllocatesAt x.image (size r.before.plain.types T) made_object.object.at
  gets = by_two (λ o. ObjectsComeBy i r.before.pictured r.after.pictured o → UniquesCome i r.before.pictured r.after.pictured) i.operation which (λ k. k) (λ k. k) r.objects_come T made_object.object absent made_object.found

  asks_are : grants.asks ≡ block_for (size r.before.plain.types T) ∷ []
  asks_are =
      let none : r.before.plain.uniques T ≡ None = p.uniques T ∙ ap (option_and_then (λ (root : Root). nth root.values 0)) absent in
      by_two (λ o. AsksBy constants i r.before.pictured o grants.asks → grants.asks ≡ unique_asks i r.before.plain) i.operation which (λ k. k) (λ k. k) grants.asked
      ∙ ap (λ (o : Option Value). if_absent o (block_for (size r.before.plain.types T) ∷ [])) none

  lives : (h : ℕ) → times h (positions (live y.image)) ≡ times h (positions (live x.image)) + times h (block_of (payload_of made_object.object) ∷ [])
  lives h =
      let same : payload_of made_object.object ≡ made_object.object.at = (let e = ap length made_object.plain.no_words in omega (arith, e)) in
      granted_lives x.image y.image (size r.before.plain.types T) made_object.object.at grants.asks grants.gives grants.blocks asks_are
      (by_two (λ o. ReturnsBy constants i r.before.pictured o grants.gives → grants.gives ≡ []) i.operation which (λ k. k) (λ k. k) grants.returned) grants.granted grants.left gets h
      ∙ ap (λ n. times h (positions (live x.image)) + times h (block_of n ∷ [])) (sym same)

  loose_same : r.after.pictured.picture.loose ≡ r.before.pictured.picture.loose
  loose_same = q.loose ∙ ap (λ rs. others ++ rs) owned_stay_same ∙ sym p.loose

  kinds : word y.image index_kind_word ≡ word x.image index_kind_word
  kinds = kinds_stay constants others moves i x y success r

  nodes_stay : NodesStay x.image y.image r.before.pictured.held.index_blocks
  nodes_stay = record {
    kinds = kinds;
    kept = whole_nodes x.image y.image p.picture p.held p.held.index_blocks (index_live x.image p.picture p.held) (λ h some. kept_whole h (index_live x.image p.picture p.held h some));
    stay = λ tree h some. omega (arith, index_live x.image p.picture p.held h some, lives h);
  }

  long_now : length r.before.pictured.held.index_blocks ≡ index_long (word y.image index_kind_word) (length r.after.pictured.picture.names)
  long_now = index_is_long x.image p.picture p.held ∙ (λ j. index_long (sym kinds j) (length (sym names_stay_same j)))

  grows : Grows x.image y.image r.before.pictured.picture r.after.pictured.picture r.before.pictured.held.index_blocks (λ c. c ≡ made_object.object)
  grows = record {
    tables = tables constants others moves i x y success r kept;
    kept = kept;
    entries = p.held.index_blocks;
    long = long_now;
    lives = λ a e h. omega (arith, lives h, ap (λ (c : Root). times h (block_of (payload_of c) ∷ [])) e);
    in_now = λ a e. subst (λ (c : Root). IsAmong c (owners_in r.after.pictured.picture)) (sym e) is_in;
    forth = forth;
    back = back;
    no_cells = λ a e. ap (λ (c : Root). names_each c.values) e ∙ made_object.no_cells;
  }
    where
      is_in : IsAmong made_object.object (owners_in r.after.pictured.picture)
      is_in = among_right made_object.object q.picture.names (q.picture.uniques ++ q.picture.loose)
          (among_left made_object.object q.picture.uniques q.picture.loose (of_type q.picture.uniques T made_object.object made_object.found))

      forth : (c : Root) → IsAmong c (owners_in r.before.pictured.picture) → IsAmong c (owners_in r.after.pictured.picture)
      forth c j = by (among_either c p.picture.names (p.picture.uniques ++ p.picture.loose) j)
        where
          unique : IsAmong c r.before.pictured.picture.uniques → IsAmong c r.after.pictured.picture.uniques
          unique k =
              let f = found_of_type 0 p.picture.uniques c p.held.laid_out.uniques.rising k in
              of_type q.picture.uniques c.type c (beside c.type (λ e. absurd (let n : Some c ≡ None = sym f ∙ ap (root_of_type p.picture.uniques) e ∙ absent in cc)) ∙ f)

          inner : IsAmong c r.before.pictured.picture.uniques ⊎ IsAmong c r.before.pictured.picture.loose → IsAmong c (r.after.pictured.picture.uniques ++ r.after.pictured.picture.loose)
          inner (inl k) = among_left c q.picture.uniques q.picture.loose (unique k)
          inner (inr k) = among_right c q.picture.uniques q.picture.loose (subst (IsAmong c) (sym loose_same) k)

          by : IsAmong c r.before.pictured.picture.names ⊎ IsAmong c (r.before.pictured.picture.uniques ++ r.before.pictured.picture.loose) → IsAmong c (owners_in r.after.pictured.picture)
          by (inl k) = among_left c q.picture.names (q.picture.uniques ++ q.picture.loose) (subst (IsAmong c) (sym names_stay_same) k)
          by (inr k) = among_right c q.picture.names (q.picture.uniques ++ q.picture.loose) (inner (among_either c p.picture.uniques p.picture.loose k))

      back : (c : Root) → IsAmong c (owners_in r.after.pictured.picture) → (c ≡ made_object.object) ⊎ IsAmong c (owners_in r.before.pictured.picture)
      back c j = by (among_either c q.picture.names (q.picture.uniques ++ q.picture.loose) j)
        where
          unique : IsAmong c r.after.pictured.picture.uniques → (c.type ≡ T) ⊎ (c.type ≢ T) → (c ≡ made_object.object) ⊎ IsAmong c r.before.pictured.picture.uniques
          unique k (inl e) = inl (
              let f : Some c ≡ Some made_object.object = sym (found_of_type 0 q.picture.uniques c q.held.laid_out.uniques.rising k) ∙ ap (root_of_type q.picture.uniques) e ∙ made_object.found in
              cc)
          unique k (inr other) = inr (of_type p.picture.uniques c.type c (sym (beside c.type other) ∙ found_of_type 0 q.picture.uniques c q.held.laid_out.uniques.rising k))

          then_is : (c ≡ made_object.object) ⊎ IsAmong c r.before.pictured.picture.uniques → (c ≡ made_object.object) ⊎ IsAmong c (owners_in r.before.pictured.picture)
          then_is (inl e) = inl e
          then_is (inr k) = inr (among_right c p.picture.names (p.picture.uniques ++ p.picture.loose) (among_left c p.picture.uniques p.picture.loose k))

          inner : IsAmong c r.after.pictured.picture.uniques ⊎ IsAmong c r.after.pictured.picture.loose → (c ≡ made_object.object) ⊎ IsAmong c (owners_in r.before.pictured.picture)
          inner (inl k) = then_is (unique k (cases_eq c.type T))
          inner (inr k) = inr (among_right c p.picture.names (p.picture.uniques ++ p.picture.loose) (among_right c p.picture.uniques p.picture.loose (subst (IsAmong c) loose_same k)))

          by : IsAmong c r.after.pictured.picture.names ⊎ IsAmong c (r.after.pictured.picture.uniques ++ r.after.pictured.picture.loose) → (c ≡ made_object.object) ⊎ IsAmong c (owners_in r.before.pictured.picture)
          by (inl k) = inr (among_left c p.picture.names (p.picture.uniques ++ p.picture.loose) (subst (IsAmong c) names_stay_same k))
          by (inr k) = inner (among_either c q.picture.uniques q.picture.loose k)

  above : 16 ≤ made_object.object.at
  above =
      let a = made_object.object in
      let there = among_right a q.picture.names (q.picture.uniques ++ q.picture.loose) (among_left a q.picture.uniques q.picture.loose (of_type q.picture.uniques T a made_object.found)) in
      let o = owns y.image q.picture q.held a q.held.roots (owner_in q.picture a there) in
      let low = o.holds_it.block.after_header in
      let same : payload_of a ≡ a.at = (let e = ap length made_object.plain.no_words in omega (arith, e)) in
      omega (arith, low, same)

-- ---- both images

module _ (constants : List Constant) (others : List Root) (moves : List Move) (i : Instruction) (which : MakesUnique i.operation) (x z y w : Situation) where
  both_made : StandAlike others x z → (r : RowOn constants others moves i x success y) → RowOn constants others moves i z success w → root_of_type r.before.pictured.picture.uniques (nat_abs i.number) ≡ None
      → StaysAlike others success success y w
  both_made stand r q none =
      let before = one_before constants others moves i x z y w success success stand r q in
      let plains = plain_before constants others moves i x z y w success success stand r q in
      let none_too : root_of_type q.before.pictured.picture.uniques (nat_abs i.number) ≡ None = ap (λ rs. root_of_type rs (nat_abs i.number)) (sym before.same.uniques) ∙ none in
      let a = made_object constants others moves i which x y r none in
      let b = made_object constants others moves i which z w q none_too in
      let gets_too = subst (λ (s : State). AllocatesAt z.image (size s.types (nat_abs i.number)) b.object.at) (sym plains) (gets constants others moves i which z w q none_too) in
      let block = one_block others x.owned x.image z.image stand.images (size r.before.plain.types (nat_abs i.number)) a.object.at b.object.at (gets constants others moves i which x y r none) gets_too in
      let at : b.object.at ≡ a.object.at = omega (arith, block, above constants others moves i which x y r none, above constants others moves i which z w q none_too) in
      let type = type_is (nat_abs i.number) b.object q.after.pictured.picture.uniques b.found ∙ sym (type_is (nat_abs i.number) a.object r.after.pictured.picture.uniques a.found) in
      let values = b.values_are ∙ ap (λ (s : State). cons (default_of s.types (nat_abs i.number)) nil) stand.states ∙ sym a.values_are in
      let same = root_one b.object a.object (b.plain.no_name ∙ sym a.plain.no_name) (b.plain.no_words ∙ sym a.plain.no_words) at type values in
      let names = names_stay_same constants others moves i which x y r none ∙ before.same.names ∙ sym (names_stay_same constants others moves i which z w q none_too) in
      let owned = owned_stay_same constants others moves i which x y r none ∙ before.owned ∙ sym (owned_stay_same constants others moves i which z w q none_too) in
      let each : (U : ℕ) → (U ≡ nat_abs i.number) ⊎ (U ≢ nat_abs i.number) → root_of_type r.after.pictured.picture.uniques U ≡ root_of_type q.after.pictured.picture.uniques U = λ U c. elim c [
        | inl e ↦ ap (root_of_type r.after.pictured.picture.uniques) e ∙ a.found ∙ ap (λ (c : Root). Some c) (sym same) ∙ sym b.found ∙ ap (root_of_type q.after.pictured.picture.uniques) (sym e)
        | inr other ↦ beside constants others moves i which x y r none U other ∙ ap (λ rs. root_of_type rs U) before.same.uniques ∙ sym (beside constants others moves i which z w q none_too U other)
      ] in
      let uniques = types_listed 0 0 r.after.pictured.picture.uniques q.after.pictured.picture.uniques r.after.pictured.held.laid_out.uniques.rising q.after.pictured.held.laid_out.uniques.rising
      (λ U. each U (cases_eq U (nat_abs i.number))) in
      both_grown constants others moves i x z y w success stand r q (λ c. c ≡ a.object) (grows constants others moves i which x y r none)
      (subst (λ (o : Root). Grows z.image w.image q.before.pictured.picture q.after.pictured.picture q.before.pictured.held.index_blocks (λ c. c ≡ o)) same (grows constants others moves i which z w q none_too)) names uniques owned
      (both_as_before constants others moves i x z y w success stand r q (nodes_stay constants others moves i which x y r none) (nodes_stay constants others moves i which z w q none_too)
      (names_stay_same constants others moves i which x y r none))

  succeeds : (second : Answer) → StandAlike others x z → RowOn constants others moves i x success y → RowOn constants others moves i z second w → StaysAlike others success second y w
  succeeds second stand r q = by (root_of_type r.before.pictured.picture.uniques (nat_abs i.number)) refl which
    where
      same : success ≡ second
      same = (one constants others moves i x z y w success second stand r q).0

      twice : (root : Root) → root_of_type r.before.pictured.picture.uniques (nat_abs i.number) ≡ Some root → i.operation ≡ Operation.MakeUnique → RowWith constants i x.image x.state success y.state → ⊥
      twice root e is (inl (room, row)) = not_twice constants i.a i.b i.c i.number room x.state y.state i.operation is row
          (unique_there constants others moves i x y success r x.state x.image r.before (nat_abs i.number) ∙ ap (λ (o : Option Root). is_some o) e)
      twice root e is (inr (u, full)) = (let f = u.code in cc)

      by : (o : Option Root) → root_of_type r.before.pictured.picture.uniques (nat_abs i.number) ≡ o → MakesUnique i.operation → StaysAlike others success second y w
      by None e m = subst (λ k. StaysAlike others success k y w) same (both_made stand r (subst (λ k. RowOn constants others moves i z k w) (sym same) q) e)
      by (Some root) e (inl is) = absurd (twice root e is r.row)
      by (Some root) e (inr is) = idle_alike constants others moves i x z y w success second stand r q (subst (Idle constants i r.before.pictured) (sym is) (root, e))

  pub unique_alike : (first second : Answer) → StandAlike others x z → RowOn constants others moves i x first y → RowOn constants others moves i z second w → StaysAlike others first second y w
  unique_alike success second stand r q = succeeds second stand r q
  unique_alike first second stand r q = unchanged_alike constants others moves i x z y w first second stand r q (by_two (λ o. keeps_image o first ≡ true) i.operation which refl refl)
