-- After a row that leaves the image as it is, two images are still alike.
use Rattle.std.specs.Prelude.{nat_abs, Some, None}
use Rattle.std.proofs.Common.{◌≡◌, ℕ, List, true, false, refl, sym, ap, ◌∙◌, subst}
use Rattle.seg_spec.specs.Bytes.{word}
use Rattle.seg_spec.specs.Header.{next_word}
use Rattle.seg_spec.specs.Heap.{live}
use Rattle.seg_spec.specs.Index.{Root, root_named, root_of_type}
use Rattle.seg_spec.specs.Roots.{SamePicture}
use Rattle.seg_spec.specs.Spending.{killed}
use Rattle.client_spec.specs.declared.table.Operation.{Operation}
use Rattle.client_spec.specs.Syntax.{Constant, Instruction}
use Rattle.client_spec.specs.Machine.{◌>>=◌, State}
use Rattle.client_spec.specs.Answer.{Answer, success, type_operand}
use Rattle.client_spec.specs.Pictures.{meaning_in, Pictures, PicturesTrees}
use Rattle.client_spec.specs.Asks.{name_operand, found_key}
use Rattle.client_spec.specs.Ties.{places_of, keeps_image, KeepsBy}
use Rattle.client_spec.specs.OnImages.{Move, Situation, RowOn}
use Rattle.test_definitions.specs.Alike.{AreAlike, StandAlike, StaysAlike}
use Rattle.test_definitions.proofs.Rows.OwningRegisterLaws.{owners, moves_owners, unfolded_owners, row_keeps, owned_places}
use Rattle.test_definitions.proofs.Rows.OneState.{AsPictured, as_pictured, plain_same}
use Rattle.test_definitions.proofs.Rows.OneRow.{alike_rows}

-- The instruction finds what it would make, or lacks what it would destroy.
module _ (constants : List Constant) (i : Instruction) {others : List Root} {s : State}
    {bytes : List ℕ} (pictured : Pictures others s bytes) where
  abbrev pub Idle : Operation → Type 0
  Idle Operation.FindOrMake = (root : Root) × ((name_operand constants i s >>= λ name.
      root_named pictured.picture.names name) ≡ Some root)
  Idle Operation.Kill = (name_operand constants i s >>= λ name.
      killed (root_named pictured.picture.names name) (type_operand i.number)) ≡ None
  Idle Operation.FindOrMakeUnique =
      (root : Root) × (root_of_type pictured.picture.uniques (nat_abs i.number) ≡ Some root)
  Idle Operation.KillUnique = root_of_type pictured.picture.uniques (nat_abs i.number) ≡ None
  Idle Operation.PutKey = (j : ℕ) × (found_key i s ≡ Some j)
  Idle Operation.DeleteKey = found_key i s ≡ None
  Idle operation = ⊥

module _ (constants : List Constant) (i : Instruction) {others : List Root} {s : State} {bytes : List ℕ} (p : Pictures others s bytes) where
  idle_keeps : (o : Operation) (new : List ℕ) → Idle constants i p o → KeepsBy constants i p o new → new ≡ bytes
  idle_keeps Operation.FindOrMake new h k = k.0 h.0 h.1
  idle_keeps Operation.Kill new h k = k.0 h
  idle_keeps Operation.FindOrMakeUnique new h k = k h.0 h.1
  idle_keeps Operation.KillUnique new h k = k h
  idle_keeps Operation.PutKey new h k = k.0 h.0 h.1
  idle_keeps Operation.DeleteKey new h k = k.0 h
  idle_keeps o new h k = absurd h

  idle_owners : (o : Operation) (answer : Answer) → Idle constants i p o → moves_owners o answer ≡ false
  idle_owners Operation.FindOrMake answer h = refl
  idle_owners Operation.Kill answer h = refl
  idle_owners Operation.FindOrMakeUnique answer h = refl
  idle_owners Operation.KillUnique answer h = refl
  idle_owners Operation.PutKey answer h = refl
  idle_owners Operation.DeleteKey answer h = refl
  idle_owners o answer h = absurd h

module _ (constants : List Constant) (i : Instruction) {others : List Root} {s : State} {first second : List ℕ} (p : Pictures others s first) (q : Pictures others s second) (same : SamePicture p.picture q.picture) where
  idle_too : (o : Operation) → Idle constants i p o → Idle constants i q o
  idle_too Operation.FindOrMake h = (h.0, ap (λ rs. name_operand constants i s >>= λ name. root_named rs name) (sym same.names) ∙ h.1)
  idle_too Operation.Kill h = ap (λ rs. name_operand constants i s >>= λ name. killed (root_named rs name) (type_operand i.number)) (sym same.names) ∙ h
  idle_too Operation.FindOrMakeUnique h = (h.0, ap (λ rs. root_of_type rs (nat_abs i.number)) (sym same.uniques) ∙ h.1)
  idle_too Operation.KillUnique h = ap (λ rs. root_of_type rs (nat_abs i.number)) (sym same.uniques) ∙ h
  idle_too Operation.PutKey h = h
  idle_too Operation.DeleteKey h = h
  idle_too o h = absurd h

module _ (constants : List Constant) (others : List Root) (moves : List Move) (i : Instruction) where
  -- the same registers own the same objects
  pub owned_kept : (x y : Situation) (answer : Answer) → RowOn constants others moves i x answer y → moves_owners i.operation answer ≡ false → y.owned ≡ x.owned
  owned_kept x y answer row keeps =
      let p = row.before in
      let q = row.after in
      let before : owners x.state.registers ≡ owners p.plain.registers = ap (λ (s : State). owners s.registers) p.trees ∙ unfolded_owners (meaning_in (word x.image next_word) p.pictured.picture) p.plain.registers in
      let after : owners y.state.registers ≡ owners q.plain.registers = ap (λ (s : State). owners s.registers) q.trees ∙ unfolded_owners (meaning_in (word y.image next_word) q.pictured.picture) q.plain.registers in
      let both : owners q.plain.registers ≡ owners p.plain.registers = sym after ∙ (row_keeps constants x.state i x.image answer y.state row.row).same_owners keeps ∙ before in
      sym row.owned_after ∙ owned_places p.plain.registers q.plain.registers p.pictured.owned q.pictured.owned both p.pictured.are_owned q.pictured.are_owned row.owners_stay ∙ row.owned_before

  -- an instruction that keeps the image changes nothing that registers own
  not_moved : (o : Operation) (answer : Answer) → keeps_image o answer ≡ true → moves_owners o answer ≡ false
  not_moved Operation.New success e = cc
  not_moved Operation.Drop success e = cc
  not_moved Operation.Put success e = cc
  not_moved Operation.Take success e = cc
  not_moved Operation.Freeze success e = cc
  not_moved o answer e = refl

  module _ (x z y w : Situation) (first second : Answer) (stand : StandAlike others x z) (r : RowOn constants others moves i x first y) (q : RowOn constants others moves i z second w) where
    pub one : (first ≡ second) × (y.state ≡ w.state) × (live y.image ≡ live w.image)
    one = alike_rows constants others moves i x z y w first second stand.images stand.states stand.owned r q

    -- if both images stay as they are
    pub kept_alike : y.image ≡ x.image → w.image ≡ z.image → moves_owners i.operation first ≡ false → StaysAlike others first second y w
    kept_alike e f keeps =
        let mine = owned_kept x y first r keeps in
        let theirs = owned_kept z w second q (ap (moves_owners i.operation) (sym one.0) ∙ keeps) in
        let there = subst (λ bytes. AreAlike others x.owned bytes z.image) (sym e) stand.images in
        let both = subst (λ bytes. AreAlike others x.owned y.image bytes) (sym f) there in
        record {
          answers = sym one.0;
          stand = record {
            states = sym one.1;
            owned = theirs ∙ stand.owned ∙ sym mine;
            images = subst (λ places. AreAlike others places y.image w.image) (sym mine) both;
          };
        }

    pub unchanged_alike : keeps_image i.operation first ≡ true → StaysAlike others first second y w
    unchanged_alike keeps =
        kept_alike (r.ties.image_kept keeps) (q.ties.image_kept (ap (keeps_image i.operation) (sym one.0) ∙ keeps)) (not_moved i.operation first keeps)

    -- the pictures before the rows
    pub one_before : AsPictured r.before.pictured q.before.pictured
    one_before = (as_pictured others x.owned x.image z.image stand.images r.before.pictured q.before.pictured r.owned_before (q.owned_before ∙ stand.owned)).0

    pub plain_before : r.before.plain ≡ q.before.plain
    plain_before = (
        let at_x = subst (λ s. (p : PicturesTrees others s z.image) × (places_of p.pictured.owned ≡ x.owned) × (p.plain ≡ q.before.plain)) stand.states (q.before, q.owned_before ∙ stand.owned, refl) in
        plain_same others x.state x.image z.image r.before at_x.0 (as_pictured others x.owned x.image z.image stand.images r.before.pictured at_x.0.pictured r.owned_before at_x.1).0 ∙ at_x.2)

    pub idle_alike : Idle constants i r.before.pictured i.operation → StaysAlike others first second y w
    idle_alike h = kept_alike (idle_keeps constants i r.before.pictured i.operation y.image h r.ties.kept_by) (theirs r.before.plain plain_before r.before.pictured one_before.same h)
        (idle_owners constants i r.before.pictured i.operation first h)
      where
        theirs : (s : State) → s ≡ q.before.plain → (p : Pictures others s x.image) → SamePicture p.picture q.before.pictured.picture → Idle constants i p i.operation → w.image ≡ z.image
        theirs s e p same h =
            let moved = subst (λ t. (p' : Pictures others t x.image) × SamePicture p'.picture q.before.pictured.picture × Idle constants i p' i.operation) e (p, same, h) in
            idle_keeps constants i q.before.pictured i.operation w.image (idle_too constants i moved.0 q.before.pictured moved.1 i.operation moved.2) q.ties.kept_by
