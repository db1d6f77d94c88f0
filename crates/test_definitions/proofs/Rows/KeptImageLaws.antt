-- Instructions that leave the image, or its allocated blocks, as they are.
use Rattle.std.proofs.Common.{◌≡◌, ◌≢◌, ◌⊎◌, inl, inr, ℕ, ◌+◌, ◌≤◌, List, false, true, refl, ap, sym, subst, arith}
use Rattle.std.specs.Prelude.{not}
use Rattle.seg_spec.specs.Index.{Root}
use Rattle.seg_spec.specs.Heap.{live}
use Rattle.seg_spec.specs.Block.{KeepsBlock, payload_size}
use Rattle.seg_spec.specs.Bytes.{IsSame}
use Rattle.seg_spec.specs.Sound.{times, positions}
use Rattle.seg_spec.specs.Apart.{KeepsBlockAround}
use Rattle.seg_spec.specs.Roots.{KeepsNodes}
use Rattle.client_spec.specs.declared.table.Operation.{Operation}
use Rattle.client_spec.specs.Syntax.{Constant, Instruction}
use Rattle.client_spec.specs.Answer.{Answer, success, bad_alloc}
use Rattle.client_spec.specs.Ties.{Spot, writes_image, keeps_image, TouchesBy, KeepsBy, Changes}
use Rattle.client_spec.specs.OnImages.{Move, Situation, RowOn}

keeps : (operation : Operation) (answer : Answer) → answer ≢ success → answer ≢ bad_alloc → keeps_image operation answer ≡ true
keeps operation success fails had_room = absurd (fails refl)
keeps operation bad_alloc fails had_room = absurd (had_room refl)
keeps operation answer fails had_room = refl

pub reads_keep : (o : Operation) → writes_image o ≡ false → (answer : Answer) → keeps_image o answer ≡ true
reads_keep o e success = ap not e
reads_keep Operation.Make e answer = cc
reads_keep Operation.FindOrMake e answer = cc
reads_keep o e answer = refl

pub failed_keeps : (constants : List Constant) (others : List Root) (moves : List Move) (i : Instruction) (x y : Situation) (answer : Answer)
    → RowOn constants others moves i x answer y → answer ≢ success → answer ≢ bad_alloc → y.image ≡ x.image
failed_keeps constants others moves i x y answer row fails had_room = row.ties.image_kept (keeps i.operation answer fails had_room)

-- a block is kept whole if it is kept around no bytes
pub whole : (old new : List ℕ) (h : ℕ) → KeepsBlockAround old new 0 0 h → KeepsBlock old new h
whole old new h k = record {
  live = k.header.live;
  has_tag = k.header.has_tag;
  room = k.header.room;
  payload = k.payload (h + 16) (payload_size old h) (omega arith) (omega arith) (inr (omega arith));
}

pub same_whole : (old new : List ℕ) (h : ℕ) → new ≡ old → KeepsBlock old new h
same_whole old new h e = subst (λ z. KeepsBlock old z h) (sym e) (record { live = refl; has_tag = refl; room = omega arith; payload = refl })

pub new_keeps : (constants : List Constant) (others : List Root) (moves : List Move) (i : Instruction) (x y : Situation) (answer : Answer)
    → RowOn constants others moves i x answer y → i.operation ≡ Operation.New → (h : ℕ) → 1 ≤ times h (positions (live x.image)) → KeepsBlock x.image y.image h
new_keeps constants others moves i x y answer row news h some = by row.ties.changes
  where
    by : (y.image ≡ x.image) ⊎ Changes constants i row.before.pictured y.image → KeepsBlock x.image y.image h
    by (inl e) = same_whole x.image y.image h e
    by (inr c) =
        let touches = subst (λ o. TouchesBy constants i row.before.pictured o c.spot c.own) news c.touches in
        whole x.image y.image h (subst (λ (z : Spot). KeepsBlockAround x.image y.image z.at z.bytes h) touches.0 (c.kept h some (ap (times h) touches.1)))

pub new_moves_nothing : (constants : List Constant) (others : List Root) (moves : List Move) (i : Instruction) (x y : Situation) (answer : Answer)
    → i.operation ≡ Operation.New → (h : ℕ) → 1 ≤ times h (positions (live x.image)) → (IsSame x.image y.image (h + 16) (payload_size x.image h) → ⊥) → RowOn constants others moves i x answer y → ⊥
new_moves_nothing constants others moves i x y answer news h some differs row = differs (new_keeps constants others moves i x y answer row news h some).payload

-- an instruction that makes or destroys a named object keeps the nodes of the index
pub nodes_kept : (constants : List Constant) (others : List Root) (moves : List Move) (i : Instruction) (x y : Situation) (answer : Answer) → (row : RowOn constants others moves i x answer y)
    → (i.operation ≡ Operation.Make) ⊎ (i.operation ≡ Operation.FindOrMake) ⊎ (i.operation ≡ Operation.Kill) → KeepsNodes x.image y.image row.before.pictured.held.index_blocks
nodes_kept constants others moves i x y answer row (inl makes) = subst (λ o. KeepsBy constants i row.before.pictured o y.image) makes row.ties.kept_by
nodes_kept constants others moves i x y answer row (inr (inl finds)) = (subst (λ o. KeepsBy constants i row.before.pictured o y.image) finds row.ties.kept_by).1
nodes_kept constants others moves i x y answer row (inr (inr kills)) = (subst (λ o. KeepsBy constants i row.before.pictured o y.image) kills row.ties.kept_by).1

pub no_other_node : (constants : List Constant) (others : List Root) (moves : List Move) (i : Instruction) (x y : Situation) (answer : Answer) → (row : RowOn constants others moves i x answer y)
    → (i.operation ≡ Operation.Make) ⊎ (i.operation ≡ Operation.FindOrMake) ⊎ (i.operation ≡ Operation.Kill) → (KeepsNodes x.image y.image row.before.pictured.held.index_blocks → ⊥) → ⊥
no_other_node constants others moves i x y answer row changes differs = differs (nodes_kept constants others moves i x y answer row changes)
