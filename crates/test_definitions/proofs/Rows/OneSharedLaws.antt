-- From one image, SHARE makes a cell share one object.
use Rattle.std.proofs.Common.{◌≡◌, ℕ, List, Option, Some, None, refl, sym, ap, ◌∙◌, subst}
use Rattle.seg_spec.specs.Bytes.{word}
use Rattle.seg_spec.specs.Header.{next_word}
use Rattle.seg_spec.specs.Value.{Value, Selector}
use Rattle.seg_spec.specs.Frozen.{Frozen}
use Rattle.seg_spec.specs.Index.{Root}
use Rattle.client_spec.specs.declared.table.Operation.{Operation}
use Rattle.client_spec.specs.Syntax.{Constant, Instruction}
use Rattle.client_spec.specs.Machine.{◌>>=◌, Path, State, at_origin}
use Rattle.client_spec.specs.Answer.{success}
use Rattle.client_spec.specs.Pictures.{Pictures, value_through}
use Rattle.client_spec.specs.Ties.{MovesBy, SharesFrozen}
use Rattle.client_spec.specs.OnImages.{Move, Situation, RowOn}
use Rattle.test_definitions.proofs.Rows.OneFrozenLaws.{Reordered, reordered}
use Rattle.test_definitions.proofs.Rows.OneReturnLaws.{one_through}
use Rattle.test_definitions.proofs.Rows.OneState.{as_pictured, plain_same}
use Rattle.test_definitions.proofs.Rows.OneRow.{itself}

-- the same from two images with the same frozen objects
pub cell_in_both : (constants : List Constant) (i : Instruction) {others : List Root} {s : State} (first second new other : List ℕ) (p : Pictures others s first) (q : Pictures others s second) → Reordered p.picture.frozen q.picture.frozen
    → (a : SharesFrozen constants i p new) (b : SharesFrozen constants i q other) → a.cell ≡ b.cell
cell_in_both constants i {s = s} first second new other p q order a b =
    let through : Path → List Frozen → Option Value = λ z fs. (at_origin s z.origin >>= λ found. value_through fs found.0 z.selectors) in
    let paths : a.path ≡ b.path = (let f : Some a.path ≡ Some b.path = sym a.path_is ∙ b.path_is in cc) in
    let same : through a.path p.picture.frozen ≡ through a.path q.picture.frozen = under (at_origin s a.path.origin) a.path.selectors in
    let both : Some a.cell ≡ Some b.cell = sym a.there ∙ same ∙ ap (λ z. through z q.picture.frozen) paths ∙ b.there in
    cc
  where
    under : (o : Option (Value × ℕ)) (xs : List Selector) → (o >>= λ found. value_through p.picture.frozen found.0 xs) ≡ (o >>= λ found. value_through q.picture.frozen found.0 xs)
    under None xs = refl
    under (Some found) xs = one_through p.picture.frozen q.picture.frozen order xs found.0

one_cell : (constants : List Constant) (i : Instruction) {others : List Root} {s : State} (bytes new other : List ℕ) (p q : Pictures others s bytes) (a : SharesFrozen constants i p new) (b : SharesFrozen constants i q other)
    → a.cell ≡ b.cell
one_cell constants i bytes new other p q a b = cell_in_both constants i bytes bytes new other p q (reordered bytes (word bytes next_word) p.picture q.picture p.held q.held p.counted q.counted) a b

pub shares : (constants : List Constant) (others : List Root) (moves : List Move) (i : Instruction) (x y : Situation) (row : RowOn constants others moves i x success y) → i.operation ≡ Operation.Share
    → SharesFrozen constants i row.before.pictured y.image
shares constants others moves i x y row is = subst (λ o. MovesBy constants i row.before.pictured o success y.image) is row.ties.moved_by

module _ (constants : List Constant) (others : List Root) (moves : List Move) (i : Instruction) (x y z : Situation) (r : RowOn constants others moves i x success y) (q : RowOn constants others moves i x success z) where
  pub shares_one : (a : SharesFrozen constants i r.before.pictured y.image) (b : SharesFrozen constants i q.before.pictured z.image) → a.cell ≡ b.cell
  shares_one a b =
      let alike = itself others x.owned x.image r.before.pictured r.owned_before in
      let both = (as_pictured others x.owned x.image x.image alike r.before.pictured q.before.pictured r.owned_before q.owned_before).0 in
      let same = plain_same others x.state x.image x.image r.before q.before both in
      subst (λ t. (p : Pictures others t x.image) (c : SharesFrozen constants i p z.image) → a.cell ≡ c.cell) same (λ p c. one_cell constants i x.image y.image z.image r.before.pictured p a c) q.before.pictured b
