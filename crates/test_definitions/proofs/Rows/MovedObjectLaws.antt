-- Objects that get another owner keep their parts, and registers get objects only by NEW and TAKE.
use Rattle.std.proofs.Common.{◌≡◌, ◌≢◌, ℕ, List, Option, Some, None, refl, sym, ◌∙◌, subst}
use Rattle.seg_spec.specs.Index.{Root}
use Rattle.seg_spec.specs.Parts.{Persists}
use Rattle.client_spec.specs.declared.table.Operation.{Operation}
use Rattle.client_spec.specs.Syntax.{Constant, Instruction}
use Rattle.client_spec.specs.Machine.{State}
use Rattle.client_spec.specs.Answer.{Answer, success}
use Rattle.client_spec.specs.Pictures.{root_of_register, Pictures}
use Rattle.client_spec.specs.Ties.{object_at, PutsOwned, TakesContent, FreezesOwned, MovesBy, ComesBy}
use Rattle.client_spec.specs.OnImages.{Move, Situation, RowOn}

module _ (constants : List Constant) (others : List Root) (moves : List Move) (i : Instruction) (x y : Situation) where
  pub put_keeps : (row : RowOn constants others moves i x success y) → i.operation ≡ Operation.Put → PutsOwned constants i row.before.pictured y.image
  put_keeps row is = subst (λ o. MovesBy constants i row.before.pictured o success y.image) is row.ties.moved_by

  pub take_keeps : (row : RowOn constants others moves i x success y) → i.operation ≡ Operation.Take → TakesContent constants i row.before.pictured y.image
  take_keeps row is = subst (λ o. MovesBy constants i row.before.pictured o success y.image) is row.ties.moved_by

  pub freeze_keeps : (row : RowOn constants others moves i x success y) → i.operation ≡ Operation.Freeze → FreezesOwned constants i row.before.pictured y.image
  freeze_keeps row is = subst (λ o. MovesBy constants i row.before.pictured o success y.image) is row.ties.moved_by

  one_root : {o : Option Root} (a b : Root) → o ≡ Some a → o ≡ Some b → a ≡ b
  one_root a b was is = let e : Some a ≡ Some b = sym was ∙ is in cc

  pub put_refused : (row : RowOn constants others moves i x success y) → i.operation ≡ Operation.Put → (root : Root) → root_of_register row.before.plain.registers row.before.pictured.owned i.c ≡ Some root
      → (Persists x.image y.image row.before.plain.types (object_at root.at root.type) (object_at root.at root.type) → ⊥) → ⊥
  put_refused row is root owned differs =
      let puts = put_keeps row is in
      differs (subst (λ (r : Root). Persists x.image y.image row.before.plain.types (object_at r.at r.type) (object_at r.at r.type)) (one_root puts.root root puts.owned owned) puts.stays)

-- ---- objects that registers get

nothing_comes : (constants : List Constant) (i : Instruction) {others : List Root} {s : State} {bytes : List ℕ} (pictured : Pictures others s bytes) (object : ℕ) (operation : Operation)
    → operation ≢ Operation.New → operation ≢ Operation.Take → ComesBy constants i pictured operation object → ⊥
nothing_comes constants i pictured object Operation.New new take c = new refl
nothing_comes constants i pictured object Operation.Take new take c = take refl
nothing_comes constants i pictured object operation new take c = c

module _ (constants : List Constant) (others : List Root) (moves : List Move) (i : Instruction) (x y : Situation) (answer : Answer) (row : RowOn constants others moves i x answer y) (r : ℕ) (root : Root) where
  pub no_owner_comes : root_of_register row.before.plain.registers row.before.pictured.owned r ≡ None → root_of_register row.after.plain.registers row.after.pictured.owned r ≡ Some root
      → i.operation ≢ Operation.New → i.operation ≢ Operation.Take → ⊥
  no_owner_comes none has new take = nothing_comes constants i row.before.pictured root.at i.operation new take (row.owners_come r root none has)
