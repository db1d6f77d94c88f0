-- Two situations that clients can't tell apart stay so after KILL.
use Rattle.std.specs.Prelude.{ℤ, pos, ◌==◌, if◌then◌else◌, is_some, slice_get}
use Rattle.std.proofs.Common.{◌≡◌, ◌≢◌, ℕ, zero, suc, ◌≤◌, ◌⊎◌, inl, inr, Bool, true, false, List, [], ◌∷◌, ◌++◌, map, Option, Some, None, option_map, refl, sym, ap, ◌∙◌, subst, arith, append_assoc}
use Rattle.std.proofs.lemmas.Bool.{cases_eq}
use Rattle.seg_spec.specs.Bytes.{word}
use Rattle.seg_spec.specs.Header.{next_word, index_kind_word, index_cell}
use Rattle.seg_spec.specs.Value.{Value}
use Rattle.seg_spec.specs.Heap.{live}
use Rattle.seg_spec.specs.Block.{block_of, KeepsBlock}
use Rattle.seg_spec.specs.Apart.{KeepsBlockAround}
use Rattle.seg_spec.specs.Reads.{count_at, named}
use Rattle.seg_spec.specs.Index.{Root, Index, OpensIndex, AreAscending, same_name, root_named}
use Rattle.seg_spec.specs.Sound.{HoldsRoot, times, positions}
use Rattle.seg_spec.specs.Counting.{owners_in}
use Rattle.seg_spec.specs.Demand.{after_gives}
use Rattle.seg_spec.specs.Roots.{HasFace}
use Rattle.seg_spec.specs.Spending.{EntryBlocks, killed}
use Rattle.seg_spec.proofs.Heap.LiveBlockLaws.{times-append, times-same, times-other}
use Rattle.client_spec.specs.declared.table.Operation.{Operation}
use Rattle.client_spec.specs.Syntax.{Constant, Instruction}
use Rattle.client_spec.specs.Machine.{◌>>=◌, Register, Object, State, Names, register, with_name}
use Rattle.client_spec.specs.Answer.{Answer, Outcome, success, type_operand, constant_operand, constant_name, give_count}
use Rattle.client_spec.specs.Effect.{effect, destroy_object}
use Rattle.client_spec.specs.Trees.{unfolded_object}
use Rattle.client_spec.specs.Pictures.{Pictures, object_of, meaning_in}
use Rattle.client_spec.specs.Asks.{name_operand, NamedGoes, AsksBy, ReturnsBy, GrantsAsks, ChangesOnSuccess}
use Rattle.client_spec.specs.Ties.{Spot, nowhere, keeps_image, OfRoot, TouchesBy, KeepsBy, Changes}
use Rattle.client_spec.specs.OnImages.{Move, Situation, RowWith, RowOn}
use Rattle.client_spec.proofs.TypedStates.StateLaws.{same_name_is}
use Rattle.client_spec.proofs.Unfolded.UnfoldedStateLaws.{name_same}
use Rattle.test_definitions.specs.Alike.{StandAlike, StaysAlike}
use Rattle.test_definitions.proofs.Rows.AnsweredRowLaws.{from_answer}
use Rattle.test_definitions.proofs.ValueChanges.ChangedPlaceLaws.{holds_one}
use Rattle.test_definitions.proofs.Frozen.FrozenApartLaws.{frozen_apart, among_either}
use Rattle.test_definitions.proofs.Rows.KeptImageLaws.{whole}
use Rattle.test_definitions.proofs.Rows.KeptRowLaws.{Idle, one, unchanged_alike, one_before, plain_before, idle_alike}
use Rattle.test_definitions.proofs.Alike.LostObjectLaws as lost
use Rattle.test_definitions.proofs.Steps.LostStepLaws.{Destroys, only_given, held_here, frozen_are, same_places, same_loose, loose_plain, keeps, lost as loses, both_lost}
use Rattle.test_definitions.proofs.Rows.OwningRegisterLaws.{moves_owners, changes_uniques}
use Rattle.test_definitions.proofs.Rows.OneReturnLaws.{contained, killed_is}
use Rattle.test_definitions.proofs.Steps.PlaceStepLaws.{named_there, uniques_stay, nothing_changes}
use Rattle.test_definitions.proofs.Alike.RemovedRootLaws.{divided, names_ascend, named_without}
use Rattle.test_definitions.proofs.Alike.RootMemberLaws.{IsAmong, among_left, among_right, looked_up}

-- ---- the blocks that the index loses

entry_fewer : (bytes : List ℕ) (kind : ℕ) (index : Index) (blocks : List ℕ) (root : Root) (xs : List ℕ) → OpensIndex bytes kind index → blocks ≡ index.blocks → EntryBlocks kind bytes blocks root xs
    → (h : ℕ) → times h xs ≤ times h blocks
entry_fewer bytes zero index blocks root xs o are e h = go (count_at bytes index_cell == 1) e
  where
    go : (b : Bool) → xs ≡ (if b then named bytes index_cell else []) → times h xs ≤ times h blocks
    go true f = omega (arith, ap (times h) f, ap (times h) (are ∙ ap (λ (z : Index). z.blocks) o.index_is))
    go false f = omega (arith, ap (times h) f)
entry_fewer bytes (suc n) index blocks root xs o are e h = go (cases_eq (block_of e.0) h)
  where
    some : 1 ≤ times (block_of e.0) blocks
    some = contained blocks (block_of e.0) e.1

    go : (block_of e.0 ≡ h) ⊎ (block_of e.0 ≢ h) → times h xs ≤ times h blocks
    go (inl same) = (let here = subst (λ b. 1 ≤ times b blocks) same some in omega (arith, here, ap (times h) e.3, ap (λ b. times h (b ∷ [])) same, times-same h []))
    go (inr other) = omega (arith, ap (times h) e.3, times-other h (block_of e.0) [] other)

-- ---- the next state

module _ (a T : ℕ) (name : List ℕ) (s t : State) where
  destroyed : (o : Object) → ◌≡◌ {A = Outcome} (destroy_object a name T (Some o) s) (Some (success, t)) → (o.type == T) ≡ true → t.names ≡ with_name s.names name None
  destroyed o e typed =
      let gone = record s { names = with_name s.names name None } in
      let f = subst (λ b. ◌≡◌ {A = Outcome} (if b then give_count a 1 gone else give_count a 0 s) (Some (success, t))) typed e in
      ap (λ (z : State). z.names) (from_answer success success a (Register.Int (pos 1)) gone t f).1

module _ (constants : List Constant) (a b c : ℕ) (number : ℤ) (room : Bool) (s t : State) where
  named_gone : (o : Operation) → o ≡ Operation.Kill → ◌≡◌ {A = Outcome} (effect constants o a b c number room s) (Some (success, t))
      → (name : List ℕ) → (slice_get constants (constant_operand number) >>= λ k. constant_name k (register s b)) ≡ Some name → (x : Object) → s.names name ≡ Some x → (x.type == type_operand number) ≡ true
      → t.names ≡ with_name s.names name None
  unfolding effect
  named_gone o is e name named x there typed =
      let f : ◌≡◌ {A = Outcome} (effect constants Operation.Kill a b c number room s) (Some (success, t)) = subst (λ k. ◌≡◌ {A = Outcome} (effect constants k a b c number room s) (Some (success, t))) is e in
      let g = subst (λ (z : Option (List ℕ)). ◌≡◌ {A = Outcome} (z >>= λ n. destroy_object a n (type_operand number) (s.names n) s) (Some (success, t))) named f in
      destroyed a (type_operand number) name s t x (subst (λ (z : Option Object). ◌≡◌ {A = Outcome} (destroy_object a name (type_operand number) z s) (Some (success, t))) there g) typed

-- ---- one row

killed_typed : (o : Option Root) (T : ℕ) (d : Root) → killed o T ≡ Some d → (d.type == T) ≡ true
killed_typed None T d e = cc
killed_typed (Some r) T d e = go (r.type == T) refl e
  where
    go : (b : Bool) → (r.type == T) ≡ b → (if b then Some r else None) ≡ Some d → (d.type == T) ≡ true
    go true typed f = (let same : r ≡ d = cc in sym (ap (λ (z : Root). z.type == T) same) ∙ typed)
    go false typed f = absurd (let n : None ≡ Some d = f in cc)

-- the name of the object
record Killed (o : Option (List ℕ)) (names : List Root) (T : ℕ) (d : Root) : Type 0 where
  name : List ℕ
  name_is : o ≡ Some name
  there : root_named names name ≡ Some d
  typed : (d.type == T) ≡ true

killed_name : (o : Option (List ℕ)) (names : List Root) (T : ℕ) (d : Root) → (o >>= λ name. killed (root_named names name) T) ≡ Some d → Killed o names T d
killed_name None names T d e = absurd (let n : None ≡ Some d = e in cc)
killed_name (Some name) names T d e = record { name = name; name_is = refl; there = killed_is (root_named names name) T d e; typed = killed_typed (root_named names name) T d e }

module _ (constants : List Constant) (others : List Root) (moves : List Move) (i : Instruction) (is : i.operation ≡ Operation.Kill) (x y : Situation) (r : RowOn constants others moves i x success y) (d : Root)
    (found : (name_operand constants i r.before.plain >>= λ name. killed (root_named r.before.pictured.picture.names name) (type_operand i.number)) ≡ Some d) where
  abbrev was : Pictures others r.before.plain x.image
  was = r.before.pictured

  abbrev after_row : Pictures others r.after.plain y.image
  after_row = r.after.pictured

  it : Killed (name_operand constants i r.before.plain) r.before.pictured.picture.names (type_operand i.number) d
  it = killed_name (name_operand constants i r.before.plain) was.picture.names (type_operand i.number) d found

  among_names : IsAmong d r.before.pictured.picture.names
  among_names = (looked_up it.name d was.picture.names it.there).0

  named_goes : (g : GrantsAsks constants i r.before.pictured y.image) × (g.asks ≡ []) × NamedGoes constants i r.before.pictured (Some d) g.gives
  named_goes =
      let g : GrantsAsks constants i was y.image = subst (λ o. ChangesOnSuccess constants i was o y.image) is r.blocks in (
        g,
        subst (λ o. AsksBy constants i was o g.asks) is g.asked,
        subst (λ o. NamedGoes constants i was o g.gives) found (subst (λ o. ReturnsBy constants i was o g.gives) is g.returned),
      )

  named_its : List ℕ
  named_its = named_goes.2.0

  named_holds : HoldsRoot x.image r.before.pictured.picture.table d named_its
  unfolding named_its
  named_holds = held_here constants others moves i x y r d named_goes.2.0 named_goes.2.2

  named_kept : (h : ℕ) → 1 ≤ times h (positions (live x.image)) → times h named_its ≡ 0 → times h r.before.pictured.held.index_blocks ≡ 0
      → times h (frozen_apart x.image r.before.pictured.picture r.before.pictured.held).frozen ≡ 0 → KeepsBlock x.image y.image h
  named_kept h some none no_index none_frozen = whole x.image y.image h (by r.ties.changes)
    where
      by : (y.image ≡ x.image) ⊎ Changes constants i r.before.pictured y.image → KeepsBlockAround x.image y.image 0 0 h
      by (inl e) = nothing_changes x.image y.image was.picture was.held nowhere [] e h some refl
      by (inr c) =
          let t = subst (λ o. TouchesBy constants i was o c.spot c.own) is c.touches in
          let object = t.1.2 in
          let mine = holds_one x.image was.picture.table d (held_here constants others moves i x y r d object.0 (subst (λ o. OfRoot was o object.0) found object.2)) named_holds in
          let theirs = frozen_are constants others moves i x y r t.1.1 t.1.3 in
          let none_own : times h c.own ≡ 0
          = omega (arith, none, no_index, none_frozen, ap (times h) mine, ap (times h) object.3, ap (times h) theirs, ap (times h) object.4, ap (times h) t.1.4, times-append h object.0 object.1, times-append h t.1.0 t.1.1) in
          subst (λ (z : Spot). KeepsBlockAround x.image y.image z.at z.bytes h) t.0 (c.kept h some none_own)

  named_destroyed : Destroys r.before.pictured y.image d
  unfolding named_its
  named_destroyed =
      let g = named_goes in
      let n = was.held.laid_out.names in
      record {
        its = g.2.0;
        holds_it = named_holds;
        entries = g.2.1;
        of_index = entry_fewer x.image (word x.image index_kind_word) n.index was.held.index_blocks d g.2.1 n.opens n.blocks_are g.2.3;
        shared = g.2.4.0;
        freeing = g.2.4.1;
        returned = only_given constants i was y.image g.0 g.1 ∙ ap (after_gives (live x.image)) g.2.4.2;
        kept = named_kept;
        nodes = (subst (λ o. KeepsBy constants i was o y.image) is r.ties.kept_by).1;
      }

  names_then : y.state.names ≡ with_name x.state.names it.name None
  names_then = by r.row
    where
      m : ℕ → Value
      m = meaning_in (word x.image next_word) r.before.pictured.picture

      spelled : (slice_get constants (constant_operand i.number) >>= λ k. constant_name k (register x.state i.b)) ≡ Some it.name
      spelled = ap (λ (s : State). slice_get constants (constant_operand i.number) >>= λ k. constant_name k (register s i.b)) r.before.trees ∙ name_same m r.before.plain i.b (slice_get constants (constant_operand i.number)) ∙ it.name_is

      there : x.state.names it.name ≡ Some (unfolded_object (meaning_in (word x.image next_word) r.before.pictured.picture) (object_of d))
      there = ap (λ (s : State). s.names it.name) r.before.trees ∙ ap (option_map (unfolded_object m)) (was.names it.name) ∙ ap (λ (o : Option Root). option_map (unfolded_object m) (option_map object_of o)) it.there

      by : RowWith constants i x.image x.state success y.state → y.state.names ≡ with_name x.state.names it.name None
      by (inl (room, e)) = named_gone constants i.a i.b i.c i.number room x.state y.state i.operation is e it.name spelled (unfolded_object m (object_of d)) there it.typed
      by (inr (w, full)) = absurd (let f = w.code in cc)

  module _ (before after : List Root) (are : r.before.pictured.picture.names ≡ before ++ d ∷ after) where
    abbrev rest : List Root
    rest = r.before.pictured.picture.uniques ++ r.before.pictured.picture.loose

    owners_were : owners_in r.before.pictured.picture ≡ before ++ d ∷ (after ++ rest)
    owners_were = ap (λ ns. ns ++ rest) are ∙ append_assoc before (d ∷ after) rest

    kept_rest : lost.KeepsRest r.before.pictured r.after.pictured before (d ∷ []) (after ++ rest)
    kept_rest = keeps constants others moves i x y r d named_destroyed before (after ++ rest) owners_were

    in_rest : (c : Root) → IsAmong c rest → IsAmong c (before ++ (after ++ rest))
    in_rest c j = among_right c before (after ++ rest) (among_right c after rest j)

    of_rest : (name : List ℕ) → root_named (before ++ after) name ≡ (if same_name name d.name then None else root_named r.before.pictured.picture.names name)
    of_rest name = named_without before d after (subst (λ rs. AreAscending (map (λ (z : Root). z.name) rs)) are was.held.laid_out.names.ascending) name
        ∙ ap (λ rs. if same_name name d.name then None else root_named rs name) (sym are)

    names_are : r.after.pictured.picture.names ≡ before ++ after
    names_are = lost.names_stay was after_row before (d ∷ []) (after ++ rest) kept_rest (before ++ after) among
        (names_ascend before d after (subst (λ rs. AreAscending (map (λ (z : Root). z.name) rs)) are was.held.laid_out.names.ascending)) as_many faces
      where
        among : (c : Root) → IsAmong c (before ++ after) → IsAmong c (before ++ (after ++ rest))
        among c j = elim (among_either c before after j) [
          | inl k ↦ among_left c before (after ++ rest) k
          | inr k ↦ among_right c before (after ++ rest) (among_left c after rest k)
        ]

        called : d.name ≡ it.name
        called = same_name_is it.name d.name (looked_up it.name d was.picture.names it.there).1

        as_many : (name : List ℕ) → is_some (root_named r.after.pictured.picture.names name) ≡ is_some (root_named (before ++ after) name)
        as_many name = sym (named_there constants others moves i x y success r y.state y.image r.after name) ∙ ap (λ (f : Names). is_some (f name)) names_then
            ∙ ap (λ n. is_some (if same_name name n then None else x.state.names name)) (sym called) ∙ go (same_name name d.name) ∙ sym (ap (λ (o : Option Root). is_some o) (of_rest name))
          where
            go : (b : Bool) → is_some (if b then None else x.state.names name) ≡ is_some (if b then None else root_named r.before.pictured.picture.names name)
            go true = refl
            go false = named_there constants others moves i x y success r x.state x.image r.before name

        faces : (name : List ℕ) (c e : Root) → root_named (before ++ after) name ≡ Some c → root_named r.after.pictured.picture.names name ≡ Some e → HasFace c e
        faces name c e f = go (same_name name d.name) (sym (of_rest name) ∙ f)
          where
            go : (b : Bool) → (if b then None else root_named r.before.pictured.picture.names name) ≡ Some c → root_named r.after.pictured.picture.names name ≡ Some e → HasFace c e
            go true h g = absurd (let n : None ≡ Some c = h in cc)
            go false h g = r.objects_stay.names name c e h g

    uniques_are : r.after.pictured.picture.uniques ≡ r.before.pictured.picture.uniques
    uniques_are = lost.uniques_stay was after_row before (d ∷ []) (after ++ rest) kept_rest was.picture.uniques (λ c j. in_rest c (among_left c was.picture.uniques was.picture.loose j)) was.held.laid_out.uniques.rising
        (uniques_stay constants others moves i x y success r (ap changes_uniques is)) r.objects_stay.uniques

    owned_are : r.after.pictured.owned ≡ r.before.pictured.owned
    owned_are = lost.owned_stay was after_row before (d ∷ []) (after ++ rest) kept_rest was.owned
        (λ c j. (let l = loose_plain constants others moves i x y r c j in (l.0, in_rest c (among_right c was.picture.uniques was.picture.loose l.1))))
        (same_places constants others moves i x y r (ap (λ o. moves_owners o success) is))

    loses_named : lost.LosesObjects r.before.pictured r.after.pictured before (d ∷ []) (after ++ rest)
    loses_named =
        let loose = same_loose constants others moves i x y r owned_are in
        loses constants others moves i x y r d named_destroyed before (after ++ rest) owners_were ((λ j. names_are j ++ (uniques_are j ++ loose j)) ∙ append_assoc before after rest)

-- ---- both rows

module _ (constants : List Constant) (others : List Root) (moves : List Move) (i : Instruction) (is : i.operation ≡ Operation.Kill) (x z y w : Situation) where
  both_named : StandAlike others x z → (r : RowOn constants others moves i x success y) → RowOn constants others moves i z success w → (d : Root)
      → (name_operand constants i r.before.plain >>= λ name. killed (root_named r.before.pictured.picture.names name) (type_operand i.number)) ≡ Some d → StaysAlike others success success y w
  both_named stand r q d found =
      let both = one_before constants others moves i x z y w success success stand r q in
      let plains = plain_before constants others moves i x z y w success success stand r q in
      let found_too = ap (λ rs. name_operand constants i q.before.plain >>= λ name. killed (root_named rs name) (type_operand i.number)) (sym both.same.names)
      ∙ ap (λ (s : State). name_operand constants i s >>= λ name. killed (root_named r.before.pictured.picture.names name) (type_operand i.number)) (sym plains) ∙ found in
      let s = divided d r.before.pictured.picture.names (among_names constants others moves i is x y r d found) in
      let are_too = sym both.same.names ∙ s.are in
      let loose : r.before.pictured.picture.loose ≡ q.before.pictured.picture.loose = r.before.pictured.loose ∙ ap (λ rs. others ++ rs) both.owned ∙ sym q.before.pictured.loose in
      let rest_same : q.before.pictured.picture.uniques ++ q.before.pictured.picture.loose ≡ r.before.pictured.picture.uniques ++ r.before.pictured.picture.loose = λ j. sym both.same.uniques j ++ sym loose j in
      let first = loses_named constants others moves i is x y r d found s.before s.after s.are in
      let second = subst (λ rs. lost.LosesObjects q.before.pictured q.after.pictured s.before (d ∷ []) (s.after ++ rs)) rest_same (loses_named constants others moves i is z w q d found_too s.before s.after are_too) in
      both_lost constants others moves i x z y w stand r q s.before (d ∷ []) (s.after ++ (r.before.pictured.picture.uniques ++ r.before.pictured.picture.loose)) first second
      (names_are constants others moves i is x y r d found s.before s.after s.are ∙ sym (names_are constants others moves i is z w q d found_too s.before s.after are_too))
      (uniques_are constants others moves i is x y r d found s.before s.after s.are ∙ both.same.uniques ∙ sym (uniques_are constants others moves i is z w q d found_too s.before s.after are_too))
      (owned_are constants others moves i is x y r d found s.before s.after s.are ∙ both.owned ∙ sym (owned_are constants others moves i is z w q d found_too s.before s.after are_too))

  destroys : (second : Answer) → StandAlike others x z → RowOn constants others moves i x success y → RowOn constants others moves i z second w → StaysAlike others success second y w
  destroys second stand r q = by (name_operand constants i r.before.plain >>= λ name. killed (root_named r.before.pictured.picture.names name) (type_operand i.number)) refl
    where
      same : success ≡ second
      same = (one constants others moves i x z y w success second stand r q).0

      by : (o : Option Root) → (name_operand constants i r.before.plain >>= λ name. killed (root_named r.before.pictured.picture.names name) (type_operand i.number)) ≡ o → StaysAlike others success second y w
      by None e = idle_alike constants others moves i x z y w success second stand r q (subst (Idle constants i r.before.pictured) (sym is) e)
      by (Some d) e = subst (λ k. StaysAlike others success k y w) same (both_named stand r (subst (λ k. RowOn constants others moves i z k w) (sym same) q) d e)

  pub kill_alike : (first second : Answer) → StandAlike others x z → RowOn constants others moves i x first y → RowOn constants others moves i z second w → StaysAlike others first second y w
  kill_alike success second stand r q = destroys second stand r q
  kill_alike first second stand r q = unchanged_alike constants others moves i x z y w first second stand r q (ap (λ o. keeps_image o first) is)
