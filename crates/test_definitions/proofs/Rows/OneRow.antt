-- From two images that are alike, in one state and with one list of owned objects, an instruction has
-- one answer, one next state, and one list of allocated blocks after it.
use Rattle.std.proofs.Common.{◌≡◌, ℕ, suc, ◌<◌, ◌^◌, ◌⊎◌, inl, inr, true, false, Bool, List, [], ◌∷◌, length, Option, Some, None, refl, sym, ap, ◌∙◌, subst, arith}
use Rattle.seg_spec.specs.Bytes.{word}
use Rattle.seg_spec.specs.Header.{allocator_word, next_word}
use Rattle.seg_spec.specs.Heap.{Span, live}
use Rattle.seg_spec.specs.Index.{Root}
use Rattle.seg_spec.specs.Demand.{Ask, after_asks}
use Rattle.client_spec.specs.declared.table.Operation.{Operation}
use Rattle.client_spec.specs.Syntax.{Constant, Instruction}
use Rattle.client_spec.specs.Machine.{State}
use Rattle.client_spec.specs.Answer.{Answer, success, bad_alloc}
use Rattle.client_spec.specs.Effect.{outcome}
use Rattle.client_spec.specs.Plain.{UsesUp}
use Rattle.client_spec.specs.Pictures.{Pictures, PicturesTrees}
use Rattle.client_spec.specs.Asks.{AsksBy, GrantsAsks, Denies, ChangesOnSuccess, ChangesBlocks}
use Rattle.client_spec.specs.Ties.{places_of}
use Rattle.client_spec.specs.OnImages.{Move, Situation, RowWith, RowOn}
use Rattle.client_spec.proofs.TypedStates.ValueLaws.{Some_inj}
use Rattle.client_spec.proofs.Rows.RoomRowLaws.{same, denied, by_room}
use Rattle.seg_spec.specs.Block.{has_buffer}
use Rattle.seg_spec.specs.Reads.{Place}
use Rattle.seg_spec.specs.Types.{Form, Table}
use Rattle.seg_spec.specs.Counting.{AreCounted}
use Rattle.seg_spec.specs.Sound.{roots_of, HoldsRoots, holds_no_root, holds_more_roots}
use Rattle.std.specs.List.{AllByRecursion}
use Rattle.seg_spec.proofs.Values.PlaceFrameLaws.{each_weaker}
use Rattle.client_spec.specs.Asks.{LedTo}
use Rattle.test_definitions.proofs.Rows.PathOriginLaws.{at_place}
use Rattle.test_definitions.specs.Alike.{has_count, AlikeAt, opens_alike, AlikeEach, none_alike, more_alike, AlikeRoot, AreAlike}
use Rattle.test_definitions.proofs.ValueChanges.AlikePlaceLaws.{each_itself}
use Rattle.test_definitions.proofs.Rows.OneState.{as_pictured, plain_same}
use Rattle.test_definitions.proofs.Rows.OnePlaceLaws.{RefersTo, asks_by}
use Rattle.test_definitions.proofs.Rows.PlaceRowLaws.{refers_to, buffer_there, count_there}
use Rattle.test_definitions.proofs.Rows.OneReturnLaws.{left_same, one_live}

pub pair_is : {A B : Type 0} (a b : A) (s t : B) → ◌≡◌ {A = Option (A × B)} (Some (a, s)) (Some (b, t)) → (a ≡ b) × (s ≡ t)
pair_is {A = A} {B = B} a b s t e = (ap (λ (p : A × B). p.0) (Some_inj e), ap (λ (p : A × B). p.1) (Some_inj e))

-- ---- success or out of memory

granted_by : (constants : List Constant) (i : Instruction) {others : List Root} {s : State} {bytes : List ℕ} (p : Pictures others s bytes) (new : List ℕ) → ChangesOnSuccess constants i p i.operation new
    → GrantsAsks constants i p new ⊎ (i.operation ≡ Operation.Shrink)
granted_by constants i p new = go i.operation
  where
    go : (o : Operation) → ChangesOnSuccess constants i p o new → GrantsAsks constants i p new ⊎ (o ≡ Operation.Shrink)
    go Operation.Shrink c = inr refl
    go o c = inl c

pub none_and_some : {A : Type 0} (x : A) (o : Option A) → o ≡ Some x → o ≡ None → ⊥
none_and_some x o e f = (let g : Some x ≡ None = sym e ∙ f in cc)

-- ---- the images are alike, also the other way round

module _ (first second : List ℕ) (table : Table) where
  mutual
    at_swapped : {place : Place} → AlikeAt first second table place → AlikeAt second first table place
    at_swapped (opens_alike form opened f o p n each) = opens_alike form opened f p o (λ e. sym (n e)) (each_swapped each)

    each_swapped : {places : List Place} → AlikeEach first second table places → AlikeEach second first table places
    each_swapped none_alike = none_alike
    each_swapped (more_alike a rest) = more_alike (at_swapped a) (each_swapped rest)

pub swapped : {others : List Root} {places first second : List ℕ} → AreAlike others places first second → AreAlike others places second first
swapped {first = first} {second = second} a = record {
  length_same = sym a.length_same;
  front_same = sym a.front_same;
  next_same = sym a.next_same;
  live_same = sym a.live_same;
  picture = a.picture;
  held = a.held_too;
  held_too = a.held;
  counted = subst (λ n. AreCounted n a.picture) (sym a.next_same) a.counted;
  index_same = sym a.index_same;
  own = a.own;
  loose = a.loose;
  owned_are = a.owned_are;
  roots = each_weaker (AlikeRoot first second a.picture.table) (AlikeRoot second first a.picture.table) (λ r. each_swapped first second a.picture.table) (roots_of a.picture) a.roots;
}

pub itself : (others : List Root) (places bytes : List ℕ) {s : State} (p : Pictures others s bytes) → places_of p.owned ≡ places → AreAlike others places bytes bytes
itself others places bytes p at = record {
  length_same = refl;
  front_same = refl;
  next_same = refl;
  live_same = refl;
  picture = p.picture;
  held = p.held;
  held_too = p.held;
  counted = p.counted;
  index_same = refl;
  own = p.owned;
  loose = p.loose;
  owned_are = at;
  roots = roots_itself (roots_of p.picture) p.held.root_blocks p.held.roots;
}
  where
    roots_itself : (roots : List Root) (blocks : List ℕ) → HoldsRoots bytes p.picture.table roots blocks → AllByRecursion (AlikeRoot bytes bytes p.picture.table) roots
    roots_itself [] blocks holds_no_root = tt
    roots_itself (r ∷ roots) blocks (holds_more_roots {rest = rest} h hs) = (each_itself bytes p.picture.table h.values, roots_itself roots rest hs)

-- FREEZE requests a block only if a number is left
numbers_left : (constants : List Constant) (i : Instruction) {others : List Root} {bytes : List ℕ} {s : State} (p : Pictures others s bytes) (answer : Answer) (new : List ℕ)
    → i.operation ≡ Operation.Freeze → (answer ≡ success) ⊎ (answer ≡ bad_alloc)
    → ChangesBlocks constants i p answer new → suc (word bytes next_word) < 2 ^ 32
numbers_left constants i p answer new is (inl e) c =
    let d = subst (λ o. ChangesOnSuccess constants i p o new) is (subst (λ a. ChangesBlocks constants i p a new) e c) in
    (subst (λ o. AsksBy constants i p o d.asks) is d.asked).0
numbers_left constants i p answer new is (inr e) c =
    let d = subst (λ a. ChangesBlocks constants i p a new) e c in
    (subst (λ o. AsksBy constants i p o d.asks) is d.asked).0

-- ---- two rows

-- a row, and the blocks that it asks for
record Row (constants : List Constant) (others : List Root) (i : Instruction) (s : State) (places bytes : List ℕ) (answer : Answer) (after : State) (new : List ℕ) : Type 0 where
  row : RowWith constants i bytes s answer after
  before : PicturesTrees others s bytes
  blocks : ChangesBlocks constants i before.pictured answer new
  owned : places_of before.pictured.owned ≡ places

module _ (constants : List Constant) (others : List Root) (i : Instruction) (s : State) (places : List ℕ) where
  module _ (first second : List ℕ) (alike : AreAlike others places first second) (a b : Answer) (t u : State) (new other : List ℕ)
      (x : Row constants others i s places first a t new) (y : Row constants others i s places second b u other) where
    plain : x.before.plain ≡ y.before.plain
    plain = plain_same others s first second x.before y.before (as_pictured others places first second alike x.before.pictured y.before.pictured x.owned y.owned).0

    there : at_place i.operation ≡ true → RefersTo x.before.plain i.b
    there = refers_to constants i s first x.before a t x.row

    cuts : i.operation ≡ Operation.Shrink → (place : Place) (form : Form) → LedTo constants i x.before.pictured place form → has_buffer (Some form) ≡ true
    cuts = buffer_there constants i s first x.before a t x.row

    pops : i.operation ≡ Operation.PopBack → (place : Place) (form : Form) → LedTo constants i x.before.pictured place form → has_count form ≡ true
    pops = count_there constants i s first x.before a t x.row

    never : a ≡ success → b ≡ bad_alloc → ⊥
    never e f =
        let c = subst (λ k. ChangesBlocks constants i x.before.pictured k new) e x.blocks in
        let d = subst (λ k. ChangesBlocks constants i y.before.pictured k other) f y.blocks in
        subst (λ z. (q : Pictures others z second) → places_of q.owned ≡ places → Denies constants i q other → ⊥) plain (λ q at d. same_state q at c d) y.before.pictured y.owned d
      where
        left_by : List Ask → Option (List Span)
        left_by = after_asks (word first allocator_word) (live first) (length first)

        same_state : (q : Pictures others x.before.plain second) → places_of q.owned ≡ places → ChangesOnSuccess constants i x.before.pictured i.operation new → Denies constants i q other → ⊥
        same_state q at c d = elim (granted_by constants i x.before.pictured new c) [
          | inl g ↦
              let same : g.asks ≡ d.asks = asks_by constants i alike x.before.pictured q x.owned at there i.operation refl g.asks d.asks g.asked d.asked in
              none_and_some g.blocks (left_by d.asks) (ap left_by (sym same) ∙ g.granted) (sym (left_same alike d.asks) ∙ d.no_room)
          | inr is ↦
              let none : d.asks ≡ [] = subst (λ o. AsksBy constants i q o d.asks) is d.asked in
              none_and_some (live first) (left_by d.asks) (ap left_by none) (sym (left_same alike d.asks) ∙ d.no_room)
        ]

    mixed : outcome constants i true s ≡ Some (a, t) → outcome constants i false s ≡ Some (b, u) → (a ≡ b) × (t ≡ u)
    mixed e f = elim (by_room constants s i.operation i.a i.b i.c i.number) [
      | same is ↦ pair_is a b t u (sym e ∙ is ∙ f)
      | denied good bad ↦ absurd (never (good a t e) (bad b u f))
    ]

    -- if the numbers are used up, FREEZE has no other row
    used_up : UsesUp constants i s a t → suc (word first next_word) ≡ 2 ^ 32 → (room : Bool) → outcome constants i room s ≡ Some (b, u) → ⊥
    used_up w full room e = no_number (cases room e)
      where
        no_number : (b ≡ success) ⊎ (b ≡ bad_alloc) → ⊥
        no_number c = (let l = numbers_left constants i y.before.pictured b other w.freezes c y.blocks in omega (arith, l, full, alike.next_same))

        cases : (room : Bool) → outcome constants i room s ≡ Some (b, u) → (b ≡ success) ⊎ (b ≡ bad_alloc)
        cases false e = inr (sym (pair_is bad_alloc b w.refused u (sym w.row ∙ e)).0)
        cases true e = elim (by_room constants s i.operation i.a i.b i.c i.number) [
          | same is ↦ inr (sym (pair_is bad_alloc b w.refused u (sym w.row ∙ sym is ∙ e)).0)
          | denied good bad ↦ inl (good b u e)
        ]

    live_too : a ≡ b → live new ≡ live other
    live_too e =
        let c = subst (λ k. ChangesBlocks constants i x.before.pictured k new) e x.blocks in
        subst (λ z. (q : Pictures others z second) → places_of q.owned ≡ places → ChangesBlocks constants i q b other → live new ≡ live other) plain
        (λ q at d. one_live constants i alike x.before.pictured q x.owned at there cuts pops b new other c d) y.before.pictured y.owned y.blocks

  one_answer : (first second : List ℕ) → AreAlike others places first second → (a b : Answer) (t u : State) (new other : List ℕ)
      → Row constants others i s places first a t new → Row constants others i s places second b u other → (a ≡ b) × (t ≡ u)
  one_answer first second alike a b t u new other x y = by x.row y.row
    where
      by : RowWith constants i first s a t → RowWith constants i second s b u → (a ≡ b) × (t ≡ u)
      by (inl (true, e)) (inl (true, f)) = pair_is a b t u (sym e ∙ f)
      by (inl (false, e)) (inl (false, f)) = pair_is a b t u (sym e ∙ f)
      by (inl (true, e)) (inl (false, f)) = mixed first second alike a b t u new other x y e f
      by (inl (false, e)) (inl (true, f)) = (let r = mixed second first (swapped alike) b a u t other new y x f e in (sym r.0, sym r.1))
      by (inl w) (inr z) = absurd (used_up second first (swapped alike) b a u t other new y x z.0 z.1 w.0 w.1)
      by (inr z) (inl w) = absurd (used_up first second alike a b t u new other x y z.0 z.1 w.0 w.1)
      by (inr w) (inr z) = (w.0.code ∙ sym z.0.code, w.0.state ∙ sym z.0.state)

pub alike_rows : (constants : List Constant) (others : List Root) (moves : List Move) (i : Instruction) (x z y w : Situation) (a b : Answer) → AreAlike others x.owned x.image z.image → z.state ≡ x.state → z.owned ≡ x.owned
    → RowOn constants others moves i x a y → RowOn constants others moves i z b w → (a ≡ b) × (y.state ≡ w.state) × (live y.image ≡ live w.image)
alike_rows constants others moves i x z y w a b alike states owned r q =
    let first : Row constants others i x.state x.owned x.image a y.state y.image = record { row = r.row; before = r.before; blocks = r.blocks; owned = r.owned_before } in
    let at_z : Row constants others i z.state z.owned z.image b w.state w.image = record { row = q.row; before = q.before; blocks = q.blocks; owned = q.owned_before } in
    let second = subst (λ places. Row constants others i x.state places z.image b w.state w.image) owned (subst (λ s. Row constants others i s z.owned z.image b w.state w.image) states at_z) in
    let one = one_answer constants others i x.state x.owned x.image z.image alike a b y.state w.state y.image w.image first second in
    (one.0, one.1, live_too constants others i x.state x.owned x.image z.image alike a b y.state w.state y.image w.image first second one.0)

pub one_row : (constants : List Constant) (others : List Root) (moves : List Move) (i : Instruction) (x y z : Situation) (a b : Answer)
    → RowOn constants others moves i x a y → RowOn constants others moves i x b z → (a ≡ b) × (y.state ≡ z.state) × (live y.image ≡ live z.image)
one_row constants others moves i x y z a b r q = alike_rows constants others moves i x x y z a b (itself others x.owned x.image r.before.pictured r.owned_before) refl refl r q

-- an instruction that succeeds isn't out of memory
pub no_choice : (constants : List Constant) (others : List Root) (moves : List Move) (i : Instruction) (x y z : Situation)
    → RowOn constants others moves i x success y → RowOn constants others moves i x bad_alloc z → ⊥
no_choice constants others moves i x y z r q = let same : success ≡ bad_alloc = (one_row constants others moves i x y z success bad_alloc r q).0 in cc
