-- In the outcome of one client, the client is the one that the text spells. If it has no new types,
-- it begins on the image as it is given.
use Rattle.std.proofs.Common.{◌≡◌, ℕ, ◌+◌, ◌-◌, ◌≤◌, List, [], ◌∷◌, ◌++◌, length, take, drop, sym, ap, subst, ◌∙◌, inl, inr, arith}
use Rattle.std.proofs.Math.Seq.{take-add, take-length}
use Rattle.std.proofs.lemmas.List.{drop-drop}
use Rattle.std.specs.Prelude.{flat_map}
use Rattle.seg_spec.specs.Bytes.{slice, IsSame}
use Rattle.seg_spec.specs.Header.{types_size}
use Rattle.seg_spec.specs.Types.{longer, padded, form_bytes}
use Rattle.seg_spec.specs.Images.{upgraded}
use Rattle.seg_spec.specs.Sound.{Picture, IsHeld}
use Rattle.client_spec.specs.Syntax.{Client}
use Rattle.client_spec.specs.Grammar.{client_bytes, SpellsClient}
use Rattle.client_spec.specs.OnImages.{Situation, Given, Left, IsFirst, RunsClient}
use Rattle.client_spec.specs.Clients.{AreAccepted, RunClients}
use Rattle.client_spec.specs.Outcome.{given_first}
use Rattle.client_spec.proofs.Spelling.OneClientLaws.{one_client}
use Rattle.test_definitions.specs.RefusedOutcomes.{IsOutcomeOf}
use Rattle.client_sim.proofs.Names.OnePictureLaws.{Held-one}

-- the run of the one client that the text spells
pub one_run : (image : List ℕ) (client : Client) (left : Left) → SpellsClient (client_bytes client) client → IsOutcomeOf client image left → (host : List ℕ) × RunsClient client (given_first (upgraded image) host [] 0 []) left
one_run image client left spells o = (o.host, by o.can_run.clients o.can_run.accepted o.runs)
  where
    given : Given
    given = given_first (upgraded image) o.host [] 0 []

    by : (clients : List Client) → AreAccepted o.can_run.sound.picture.table (client_bytes client ∷ []) clients → RunClients clients given (left ∷ []) → RunsClient client given left
    by [] a runs = absurd a
    by (c ∷ []) a runs =
        let same : c ≡ client = one_client c client a.0.valid spells.valid (sym a.0.spelled ∙ spells.spelled) in
        subst (λ d. RunsClient d given left) same runs.0
    by (c ∷ d ∷ ds) a runs = absurd a.2

-- bytes that are the same in two ranges are the same in both together
joined : (old new : List ℕ) (at n m : ℕ) → IsSame old new at n → IsSame old new (at + n) m → IsSame old new at (n + m)
unfolding slice
joined old new at n m a b =
    let one : (l : List ℕ) → take (n + m) (drop at l) ≡ take n (drop at l) ++ take m (drop (at + n) l) = (λ l. take-add n m (drop at l) ∙ ap (λ ys. take n (drop at l) ++ take m ys) (drop-drop n at l)) in
    one new ∙ ap (λ ys. ys ++ take m (drop (at + n) new)) a ∙ ap (λ ys. take n (drop at old) ++ ys) b ∙ sym (one old)

all_same : (old new : List ℕ) (n : ℕ) → n ≡ length old → length new ≡ length old → IsSame old new 0 n → new ≡ old
unfolding slice
all_same old new n e long same =
    let whole : take (length new) new ≡ take n new = ap (λ k. take k new) (long ∙ sym e) in
    sym (take-length new) ∙ whole ∙ same ∙ ap (λ k. take k old) e ∙ take-length old

three_ranges : (old new : List ℕ) → length new ≡ length old → 576 ≤ length old → IsSame old new 0 64 → IsSame old new 64 512 → IsSame old new 576 (length old - 576) → new ≡ old
three_ranges old new long big a b c = all_same old new (576 + (length old - 576)) (omega arith) long (joined old new 0 576 (length old - 576) (joined old new 0 64 512 a b) c)

module _ (client : Client) (given : Given) (x : Situation) (picture : Picture) (held : IsHeld given.image picture) (same : longer picture.table client.types ≡ picture.table) (first : IsFirst client given x) where
  pub first_types : x.state.types ≡ picture.table
  first_types = first.types ∙ ap (λ t. longer t client.types) (Held-one given.image first.picture picture first.held held).table ∙ same

  pub first_image : x.image ≡ given.image
  first_image =
      let after = first.pictured.pictured in
      let laid_out = after.held.laid_out in
      let plain_types : x.state.types ≡ after.picture.table = ap (λ (s : _). s.types) first.pictured.trees ∙ sym after.types in
      let table : after.picture.table ≡ picture.table = sym plain_types ∙ first_types in
      let types : IsSame given.image x.image 64 512 = laid_out.types ∙ ap (λ t. padded types_size (flat_map form_bytes t)) table ∙ sym held.laid_out.types in
      let small = held.laid_out.header.not_small in
      let alone = first.types_alone in
      three_ranges given.image x.image alone.length_kept (omega (arith, small)) (alone.others 0 64 (inl (omega arith))) types (alone.others 576 (length given.image - 576) (inr (omega arith)))
