-- A client that can't destroy an object leaves it where it is.
use Rattle.std.proofs.Common.{◌≡◌, ℕ, inl, inr, Bool, true, false, List, [], ◌∷◌, ◌++◌, Option, Some, None, refl, sym, ap, ◌∙◌, subst, eq-eqb}
use Rattle.std.specs.Prelude.{ℤ, ◌&&◌, ◌==◌, not, slice_get, nat_abs, option_map, option_and_then}
use Rattle.std.specs.Option.{option_map_or}
use Rattle.std.specs.Fmt.{signed_decimal}
use Rattle.seg_spec.specs.Bytes.{word}
use Rattle.seg_spec.specs.Header.{next_word}
use Rattle.seg_spec.specs.Value.{Value, nth}
use Rattle.seg_spec.specs.Index.{Root, same_name, root_named, root_of_type}
use Rattle.seg_spec.specs.Sound.{Picture, IsPlain, IsHeld}
use Rattle.seg_spec.specs.Roots.{HasFace}
use Rattle.seg_spec.specs.Shared.{replaced}
use Rattle.seg_spec.proofs.Values.PlaceFrameLaws.{each_left}
use Rattle.client_spec.specs.declared.table.Operation.{Operation}
use Rattle.client_spec.specs.Syntax.{Constant, Instruction, Statement, plain, opener, loop, Statements, no_more, next, Client}
use Rattle.client_spec.specs.Machine.{◌>>=◌, Origin, Register, Object, State, register}
use Rattle.client_spec.specs.Trees.{unfolded_object}
use Rattle.client_spec.specs.Answer.{Answer, constant_operand, constant_name, integer_in}
use Rattle.client_spec.specs.Pictures.{object_of, names_in, uniques_in, meaning_in, HasObjects, PicturesTrees}
use Rattle.client_spec.specs.Ties.{ObjectsStay}
use Rattle.client_spec.specs.Run.{Ending, Run}
use Rattle.client_spec.specs.OnImages.{Move, Situation, RowWith, RowOn, image_machine, Given, Left, IsFirst, IsLeftAfter, RunsClient}
use Rattle.client_spec.proofs.OperationLaws.{rows}
use Rattle.client_spec.proofs.Rows.RowFrameLaws.{Destroyed}
use Rattle.client_spec.proofs.Runs.KeptByRunLaws.{Each, EachOne, code_keeps}
use Rattle.client_spec.proofs.TypedStates.PictureLaws.{unique_one, option_some}
use Rattle.client_spec.proofs.TypedStates.StateLaws.{both_true, same_name_refl}
use Rattle.client_spec.proofs.TypedStates.ValueLaws.{Some_inj, bind_some, then_some}
use Rattle.client_sim.specs.Staying.{code_passes, statement_passes, is_prefix, can_spell, keeps_name, keeps_unique, Stays, NameStays, UniqueStays}
use Rattle.client_sim.proofs.Names.OnePictureLaws.{Held-one}
use Rattle.client_sim.proofs.Objects.ObjectPlaceLaws.{face_same, face_then}

-- ---- the instructions that destroy an object

not_true : (b : Bool) → not b ≡ true → b ≡ true → ⊥
not_true true e f = cc
not_true false e f = cc

prefix_joined : (xs ys zs : List ℕ) → is_prefix (xs ++ ys) (xs ++ (ys ++ zs)) ≡ is_prefix ys (ys ++ zs)
prefix_joined [] ys zs = refl
prefix_joined (x ∷ xs) ys zs = ap (λ b. b && is_prefix (xs ++ ys) (xs ++ (ys ++ zs))) (eq-eqb x x refl) ∙ prefix_joined xs ys zs

-- a constant spells its own name, or names of its family
spelled : (k : Constant) (x : Register) (name : List ℕ) → constant_name k x ≡ Some name → can_spell name k ≡ true
spelled (Constant.Text bytes) x name e = absurd (let f : None ≡ Some name = e in cc)
spelled (Constant.Name other) x name e = subst (λ n. same_name other n ≡ true) (Some_inj e) (same_name_refl other)
spelled (Constant.Family prefix) x name e =
    let p = bind_some (integer_in x) (λ k. Some (prefix ++ 35 ∷ signed_decimal k)) name e in
    subst (λ n. is_prefix (prefix ++ 35 ∷ []) n ≡ true) (Some_inj p.2) (prefix_joined prefix (35 ∷ []) (signed_decimal p.0))

name_not_destroyed : (constants : List Constant) (name : List ℕ) (op : Operation) (a b c : ℕ) (number : ℤ) (s : State)
    → keeps_name constants name (record { operation = op; a = a; b = b; c = c; number = number }) ≡ true → Destroyed constants op b number s (Origin.Name name 0) → ⊥
name_not_destroyed constants name Operation.Kill a b c number s keeps d = by (slice_get constants (constant_operand number)) keeps d.1
  where
    same : name ≡ d.0
    same = let e = d.2 in cc

    by : (k : Option Constant) → not (option_map_or (can_spell name) k false) ≡ true → (k >>= λ k. constant_name k (register s b)) ≡ Some d.0 → ⊥
    by None e f = absurd (let g : None ≡ Some d.0 = f in cc)
    by (Some k) e f = not_true (can_spell name k) e (spelled k (register s b) name (f ∙ ap Some (sym same)))
name_not_destroyed constants name Operation.KillUnique a b c number s keeps d = cc
name_not_destroyed constants name op a b c number s keeps d = d

unique_not_destroyed : (constants : List Constant) (T : ℕ) (op : Operation) (a b c : ℕ) (number : ℤ) (s : State)
    → keeps_unique T (record { operation = op; a = a; b = b; c = c; number = number }) ≡ true → Destroyed constants op b number s (Origin.Unique T) → ⊥
unique_not_destroyed constants T Operation.Kill a b c number s keeps d = let e = d.2 in cc
unique_not_destroyed constants T Operation.KillUnique a b c number s keeps d =
    not_true (T == nat_abs number) keeps (let same : T ≡ nat_abs number = cc in eq-eqb T (nat_abs number) same)
unique_not_destroyed constants T op a b c number s keeps d = d

-- ---- a run

-- each instruction of code that passes the test passes it
mutual
  each_passes : (test : Instruction → Bool) (cs : Statements) → code_passes test cs ≡ true → Each (λ i. test i ≡ true) cs
  each_passes test no_more e = tt
  each_passes test (next c cs) e = let both = both_true (statement_passes test c) (code_passes test cs) e in (one_passes test c both.0, each_passes test cs both.1)

  one_passes : (test : Instruction → Bool) (c : Statement) → statement_passes test c ≡ true → EachOne (λ i. test i ≡ true) c
  one_passes test (plain i) e = e
  one_passes test (opener i on_success on_code) e =
      let first = both_true (test i) (code_passes test on_success && code_passes test on_code) e in
      let parts = both_true (code_passes test on_success) (code_passes test on_code) first.1 in
      (first.0, each_passes test on_success parts.0, each_passes test on_code parts.1)
  one_passes test (loop i body) e = each_passes test body e

-- a way to find an object, which a state has if the image has it
record Finds (find : Picture → Option Root) (Has : State → Type 0) : Type 0 where
  alike : {p q : Picture} → p.names ≡ q.names → p.uniques ≡ q.uniques → find p ≡ find q
  stays : {p q : Picture} → ObjectsStay p q → (a b : Root) → find p ≡ Some a → find q ≡ Some b → HasFace a b
  seen : (bytes : List ℕ) (next : ℕ) (picture : Picture) (s : State) → IsHeld bytes picture → HasObjects next picture s → (root : Root) → find picture ≡ Some root → Has s
  there : (next : ℕ) (picture : Picture) (s : State) → HasObjects next picture s → Has s → (root : Root) × (find picture ≡ Some root)

-- the objects of a state that an image pictures
objects_of : {others : List Root} {s : State} {bytes : List ℕ} (p : PicturesTrees others s bytes) → HasObjects (word bytes next_word) p.pictured.picture s
objects_of {bytes = bytes} p = record {
  names = λ name. ap (λ (z : State). z.names name) p.trees ∙ ap (option_map (unfolded_object (meaning_in (word bytes next_word) p.pictured.picture))) (p.pictured.names name);
  uniques = λ T. ap (λ (z : State). z.uniques T) p.trees ∙ ap (option_map (replaced (meaning_in (word bytes next_word) p.pictured.picture))) (p.pictured.uniques T);
}

module _ (find : Picture → Option Root) where
  pub stays_same : (bytes : List ℕ) → ((p q : Picture) → IsHeld bytes p → IsHeld bytes q → find p ≡ find q) → Stays find bytes bytes
  stays_same bytes one before after held held_after root is = (root, one after before held_after held ∙ is, face_same root)

  pub stays_then : (old mid new : List ℕ) (picture : Picture) → IsHeld mid picture → Stays find old mid → Stays find mid new → Stays find old new
  stays_then old mid new picture held first second before after held_before held_after root is =
      let a = first before picture held_before held root is in
      let b = second picture after held held_after a.0 a.1 in
      (b.0, b.1, face_then a.2 b.2)

module _ (find : Picture → Option Root) (Has : State → Type 0) (finds : Finds find Has) where
  one : (bytes : List ℕ) (p q : Picture) → IsHeld bytes p → IsHeld bytes q → find p ≡ find q
  one bytes p q held held' = let same = Held-one bytes p q held held' in finds.alike same.names same.uniques

  same_image : (bytes : List ℕ) → Stays find bytes bytes
  same_image bytes = stays_same find bytes (one bytes)

  -- two pictures with the object, in which objects stay
  pictured_stays : (old new : List ℕ) (p q : Picture) → IsHeld old p → IsHeld new q → ObjectsStay p q → ((root : Root) → find p ≡ Some root → (other : Root) × (find q ≡ Some other)) → Stays find old new
  pictured_stays old new p q held held' objects there before after held_before held_after root is =
      let was = one old p before held held_before ∙ is in
      let f = there root was in
      (f.0, one new after q held_after held' ∙ f.1, finds.stays objects root f.0 was f.1)

  start_stays : (client : Client) (given : Given) (x : Situation) → IsFirst client given x → Stays find given.image x.image
  start_stays client given x first =
      pictured_stays given.image x.image first.picture first.pictured.pictured.picture first.held first.pictured.pictured.held first.objects_stay
      (λ root is. finds.there _ _ x.state (objects_of first.pictured) (finds.seen given.image _ first.picture x.state first.held first.objects root is))

  end_stays : (given : Given) (x : Situation) (left : Left) → IsLeftAfter given x left → Stays find x.image left.image
  end_stays given x left end =
      pictured_stays x.image left.image end.trees.pictured.picture end.picture end.trees.pictured.held end.held end.objects_stay
      (λ root is. finds.there _ _ x.state end.objects (finds.seen x.image _ end.trees.pictured.picture x.state end.trees.pictured.held (objects_of end.trees) root is))

  module _ (constants : List Constant) (others : List Root) (moves : List Move) (test : Instruction → Bool)
      (kept : (i : Instruction) (s : State) (bytes : List ℕ) (answer : Answer) (s' : State) → test i ≡ true → RowWith constants i bytes s answer s' → Has s → Has s') where
    row_stays : (i : Instruction) (x y : Situation) (answer : Answer) → RowOn constants others moves i x answer y → test i ≡ true → Stays find x.image y.image
    row_stays i x y answer row passes =
        pictured_stays x.image y.image row.before.pictured.picture row.after.pictured.picture row.before.pictured.held row.after.pictured.held row.objects_stay
        (λ root is. finds.there _ _ y.state (objects_of row.after)
        (kept i x.state x.image answer y.state passes row.row (finds.seen x.image _ row.before.pictured.picture x.state row.before.pictured.held (objects_of row.before) root is)))

    run_stays : (old : List ℕ) (cs : Statements) (x y : Situation) (n : ℕ) (end : Ending) → code_passes test cs ≡ true → Run Situation (image_machine constants others moves) cs x y n end → Stays find old x.image → Stays find old y.image
    run_stays old cs x y n end passes w start =
        (code_keeps Situation (image_machine constants others moves) (λ i. test i ≡ true) (λ k z. Stays find old z.image)
        (λ i y answer z k q row h. stays_then find old y.image z.image row.before.pictured.picture row.before.pictured.held h (row_stays i y z answer row q))
        (λ i y z k q s h. subst (Stays find old) (sym s.image) h)
        (λ y z k t h. subst (Stays find old) (sym t.image) h) cs (each_passes test cs passes)).each x y n end 0 w start

  client_stays : (client : Client) (given : Given) (left : Left) → RunsClient client given left → (test : Instruction → Bool)
      → ((i : Instruction) (s : State) (bytes : List ℕ) (answer : Answer) (s' : State) → test i ≡ true → RowWith client.constants i bytes s answer s' → Has s → Has s')
      → code_passes test client.code ≡ true → Stays find given.image left.image
  client_stays client given left runs test kept passes =
      let last = runs.is_left.trees.pictured in
      stays_then find given.image runs.last.image left.image last.picture last.held
      (run_stays client.constants given.others given.moves test kept given.image client.code runs.first runs.last left.steps left.ending passes runs.run (start_stays client given runs.first runs.is_first))
      (end_stays given runs.last left runs.is_left)

-- ---- names

module _ (name : List ℕ) where
  abbrev named : Picture → Option Root
  named picture = root_named picture.names name

  abbrev HasName : State → Type 0
  HasName s = (x : Object) × (s.names name ≡ Some x)

  finds_name : Finds named HasName
  finds_name = record {
    alike = λ names uniques. ap (λ roots. root_named roots name) names;
    stays = λ objects a b was is. objects.names name a b was is;
    seen = λ bytes next picture s held objects root is.
        (unfolded_object (meaning_in next picture) (object_of root), objects.names name ∙ ap (option_map (unfolded_object (meaning_in next picture))) (ap (option_map object_of) is));
    there = λ next picture s objects has.
        let f = option_some (unfolded_object (meaning_in next picture)) (names_in picture name) has.0 (sym (objects.names name) ∙ has.1) in
        let g = option_some object_of (root_named picture.names name) f.0 f.1 in
        (g.0, g.1);
  }

  name_kept : (constants : List Constant) (i : Instruction) (s : State) (bytes : List ℕ) (answer : Answer) (s' : State) → keeps_name constants name i ≡ true → RowWith constants i bytes s answer s' → HasName s → HasName s'
  name_kept constants i s bytes answer s' keeps (inl r) has = elim (((rows s constants i.operation i.a i.b i.c i.number r.0).each answer s' r.1).names name has.0 has.1) [
    | inl gone ↦ absurd (name_not_destroyed constants name i.operation i.a i.b i.c i.number s keeps gone)
    | inr still ↦ still
  ]
  name_kept constants i s bytes answer s' keeps (inr used) has = (has.0, ap (λ (z : State). z.names name) used.0.state ∙ has.1)

  -- an instruction that can't destroy the object leaves it where it is
  pub row_keeps_name : (constants : List Constant) (others : List Root) (moves : List Move) (i : Instruction) (x y : Situation) (answer : Answer) → RowOn constants others moves i x answer y → keeps_name constants name i ≡ true
      → NameStays x.image y.image name
  row_keeps_name constants others moves = row_stays named HasName finds_name constants others moves (keeps_name constants name) (name_kept constants)

  pub client_keeps_name : (client : Client) (given : Given) (left : Left) → RunsClient client given left → code_passes (keeps_name client.constants name) client.code ≡ true → NameStays given.image left.image name
  client_keeps_name client given left runs = client_stays named HasName finds_name client given left runs (keeps_name client.constants name) (name_kept client.constants)

-- ---- unique objects

module _ (T : ℕ) where
  abbrev typed : Picture → Option Root
  typed picture = root_of_type picture.uniques T

  abbrev HasUnique : State → Type 0
  HasUnique s = (v : Value) × (s.uniques T ≡ Some v)

  finds_unique : Finds typed HasUnique
  finds_unique = record {
    alike = λ names uniques. ap (λ roots. root_of_type roots T) uniques;
    stays = λ objects a b was is. objects.uniques T a b was is;
    seen = λ bytes next picture s held objects root is.
        let it = (unique_one IsPlain picture.uniques T root (each_left IsPlain picture.uniques picture.loose held.laid_out.plain) is).0 in
        let value : uniques_in picture T ≡ Some it.value = ap (option_and_then (λ (r : Root). nth r.values 0)) is ∙ ap (λ vs. nth vs 0) it.values_are in
        (replaced (meaning_in next picture) it.value, objects.uniques T ∙ ap (option_map (replaced (meaning_in next picture))) value);
    there = λ next picture s objects has.
        let f = option_some (replaced (meaning_in next picture)) (uniques_in picture T) has.0 (sym (objects.uniques T) ∙ has.1) in
        let g = then_some (λ (r : Root). nth r.values 0) (root_of_type picture.uniques T) f.0 f.1 in
        (g.0, g.1);
  }

  unique_kept : (constants : List Constant) (i : Instruction) (s : State) (bytes : List ℕ) (answer : Answer) (s' : State) → keeps_unique T i ≡ true → RowWith constants i bytes s answer s' → HasUnique s → HasUnique s'
  unique_kept constants i s bytes answer s' keeps (inl r) has = elim (((rows s constants i.operation i.a i.b i.c i.number r.0).each answer s' r.1).uniques T has.0 has.1) [
    | inl gone ↦ absurd (unique_not_destroyed constants T i.operation i.a i.b i.c i.number s keeps gone)
    | inr still ↦ still
  ]
  unique_kept constants i s bytes answer s' keeps (inr used) has = (has.0, ap (λ (z : State). z.uniques T) used.0.state ∙ has.1)

  pub row_keeps_unique : (constants : List Constant) (others : List Root) (moves : List Move) (i : Instruction) (x y : Situation) (answer : Answer) → RowOn constants others moves i x answer y → keeps_unique T i ≡ true
      → UniqueStays x.image y.image T
  row_keeps_unique constants others moves = row_stays typed HasUnique finds_unique constants others moves (keeps_unique T) (unique_kept constants)

  pub client_keeps_unique : (client : Client) (given : Given) (left : Left) → RunsClient client given left → code_passes (keeps_unique T) client.code ≡ true → UniqueStays given.image left.image T
  client_keeps_unique client given left runs = client_stays typed HasUnique finds_unique client given left runs (keeps_unique T) (unique_kept client.constants)
