-- If clients ran, the image after them is sound, each stayed within its bound, and there was no
-- reason to refuse them.
use Rattle.std.proofs.Common.{◌≡◌, ◌≢◌, ℕ, zero, suc, List, [], ◌∷◌, length, take, Some, refl, sym, ◌∙◌, subst}
use Rattle.std.specs.Prelude.{slice_get}
use Rattle.seg_spec.specs.Types.{Table, longer}
use Rattle.seg_spec.specs.Images.{IsSound, upgraded}
use Rattle.seg_spec.proofs.Images.UpgradeLaws.{upgraded_held, upgraded_counted}
use Rattle.client_sim.proofs.Names.OnePictureLaws.{Held-one}
use Rattle.client_spec.specs.Syntax.{Client}
use Rattle.client_spec.specs.Grammar.{SpellsClient}
use Rattle.client_spec.specs.OnImages.{Move, Left}
use Rattle.client_spec.specs.Clients.{IsVerified, AreAccepted, AreMoves, table_after, image_after, StayWithin}
use Rattle.client_spec.specs.Outcome.{given_first, CanRun, IsOutcome, Refusal, IsTurnOf, IsRefusalOf}
use Rattle.client_spec.proofs.Spelling.OneClientLaws.{one_client}
use Rattle.test_definitions.proofs.WorkedImages.Several.{all_within, held_after}

bytes_one : (text : List ℕ) (client other : Client) → SpellsClient text client → SpellsClient text other → client ≡ other
bytes_one text client other h k = one_client client other h.valid k.valid (sym h.spelled ∙ k.spelled)

module _ (image : List ℕ) (texts : List (List ℕ)) (input : List ℕ) (room base : ℕ) (moves : List Move) (lefts : List Left) (o : IsOutcome image texts input room base moves lefts) where
  pub within_after : StayWithin o.can_run.clients lefts
  within_after =
      let can = o.can_run in
      let picture = can.sound.picture in
      all_within picture.table texts can.clients (given_first (upgraded image) o.host input base moves) lefts picture (upgraded_held image picture can.sound.held) refl can.accepted o.runs

  pub sound_after : IsSound (image_after (upgraded image) lefts)
  sound_after =
      let can = o.can_run in
      let picture = can.sound.picture in
      let held = upgraded_held image picture can.sound.held in
      let last = held_after can.clients (given_first (upgraded image) o.host input base moves) lefts picture held (upgraded_counted image picture can.sound.counted) can.sound.none_loose o.runs in
      record { picture = last.0; held = last.1; counted = last.2; none_loose = last.3 }

-- the client of a text is verified after the clients before it
its_client : (table : Table) (texts : List (List ℕ)) (clients before : List Client) (k : ℕ) (text : List ℕ) → AreAccepted table texts clients → AreAccepted table (take k texts) before → slice_get texts k ≡ Some text
    → (client : Client) × SpellsClient text client × IsVerified (table_after table before) client
its_client table [] clients before k text a b e = cc
its_client table (t ∷ texts) [] before k text a b e = absurd a
its_client table (t ∷ texts) (client ∷ clients) [] zero text a b e = let same : t ≡ text = cc in (client, subst (λ x. SpellsClient x client) same a.0, a.1)
its_client table (t ∷ texts) (client ∷ clients) (other ∷ before) zero text a b e = absurd b
its_client table (t ∷ texts) (client ∷ clients) [] (suc k) text a b e = absurd b
its_client table (t ∷ texts) (client ∷ clients) (other ∷ before) (suc k) text a b e =
    let same : client ≡ other = bytes_one t client other a.0 b.0 in
    its_client (longer table other.types) texts clients before k text (subst (λ (c : Client). AreAccepted (longer table c.types) texts clients) same a.2) b.2 e

at_turn : (image : List ℕ) (texts : List (List ℕ)) (room base : ℕ) (moves : List Move) (o : CanRun image texts room base moves) (k : ℕ) (text : List ℕ) (turn : IsTurnOf image texts k text)
    → (client : Client) × SpellsClient text client × IsVerified (table_after turn.sound.picture.table turn.clients) client
at_turn image texts room base moves o k text turn =
    let same : o.sound.picture.table ≡ turn.sound.picture.table = (Held-one image o.sound.picture turn.sound.picture o.sound.held turn.sound.held).table in
    its_client turn.sound.picture.table texts o.clients turn.clients k text (subst (λ t. AreAccepted t texts o.clients) same o.accepted) turn.accepted turn.text_is

-- if moves are allowed, so are the first n of them
fit_to : (room len last : ℕ) (moves : List Move) (n : ℕ) → AreMoves room len last moves → AreMoves room len last (take n moves)
fit_to room len last moves zero a = tt
fit_to room len last [] (suc n) a = tt
fit_to room len last (m ∷ moves) (suc n) a = (a.0, a.1, fit_to room len m.step moves n a.2)

pub not_both : (image : List ℕ) (texts : List (List ℕ)) (room base : ℕ) (moves : List Move) (refusal : Refusal) → refusal ≢ Refusal.no_memory → IsRefusalOf image texts room base moves refusal
    → CanRun image texts room base moves → ⊥
not_both image texts room base moves Refusal.no_memory ne r o = ne refl
not_both image texts room base moves Refusal.bad_size ne r o = r o.can_move.lies.size
not_both image texts room base moves Refusal.misplaced ne r o = r.1 o.can_move.lies
not_both image texts room base moves (Refusal.bad_move k) ne r o = r.1.bad (fit_to room (length image) 0 moves _ o.can_move.fit)
not_both image texts room base moves Refusal.bad_image ne r o = r.1 o.sound
not_both image texts room base moves (Refusal.bad_text k) ne r o = let c = at_turn image texts room base moves o k r.1 r.2 in r.3 c.0 c.1
not_both image texts room base moves (Refusal.bad_client k) ne r o =
    let c = at_turn image texts room base moves o k r.1 r.2 in
    let same : c.0 ≡ r.3 = bytes_one r.1 c.0 r.3 c.1 r.4 in
    r.5 (subst (IsVerified (table_after r.2.sound.picture.table r.2.clients)) same c.2)
