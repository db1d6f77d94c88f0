-- The images after clients have the length of the image that the first client was given.
use Rattle.std.proofs.Common.{◌≡◌, List, [], ◌∷◌, length, refl, ◌∙◌}
use Rattle.client_spec.specs.Syntax.{Client}
use Rattle.client_spec.specs.Run.{Ending, finished, stopped, stuck}
use Rattle.client_spec.specs.OnImages.{Situation, Given, Left, RunsClient}
use Rattle.client_spec.specs.Clients.{given_next, GoesOn, RunClients, image_after}
use Rattle.client_spec.proofs.Runs.RunInvariantLaws.{run_keeps}

pub one_size : (client : Client) (given : Given) (left : Left) → RunsClient client given left → length left.image ≡ length given.image
one_size client given left runs =
    let its = λ (x : Situation). length x.image ≡ length given.image in
    let keeps = run_keeps client.constants given.others given.moves its (λ x y step before. step.length_kept ∙ before) client.code in
    runs.is_left.length_kept ∙ (keeps.each runs.first runs.last left.steps left.ending runs.run runs.is_first.types_alone.length_kept).0

pub same_size : (clients : List Client) (given : Given) (lefts : List Left) → RunClients clients given lefts → length (image_after given.image lefts) ≡ length given.image
same_size [] given [] r = refl
same_size [] given (left ∷ lefts) r = absurd r
same_size (client ∷ clients) given [] r = absurd r
same_size (client ∷ clients) given (left ∷ lefts) r = rest left.ending r.1 (same_size clients (given_next given left) lefts) ∙ one_size client given left r.0
  where
    none : (ls : List Left) → ls ≡ [] → length (image_after left.image ls) ≡ length left.image
    none [] e = refl
    none (l ∷ ls) e = absurd (let f : l ∷ ls ≡ [] = e in cc)

    rest : (end : Ending) → GoesOn end (RunClients clients (given_next given left) lefts) lefts → (RunClients clients (given_next given left) lefts → length (image_after left.image lefts) ≡ length left.image)
        → length (image_after left.image lefts) ≡ length left.image
    rest finished g f = f g
    rest stopped g f = none lefts g
    rest stuck g f = absurd g
