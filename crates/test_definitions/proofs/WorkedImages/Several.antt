-- Several clients, one after the other: each stays within its bound, and the last one leaves an
-- image.
use Rattle.std.proofs.Common.{◌≡◌, ◌≢◌, ℕ, ◌≤◌, List, [], ◌∷◌, sym, ap, ◌∙◌, subst}
use Rattle.seg_spec.specs.Types.{Table, Agree, longer}
use Rattle.seg_spec.specs.Bytes.{word}
use Rattle.seg_spec.specs.Header.{next_word}
use Rattle.seg_spec.specs.Sound.{Picture, IsHeld}
use Rattle.seg_spec.specs.Counting.{AreCounted}
use Rattle.client_sim.proofs.Names.OnePictureLaws.{Held-one}
use Rattle.client_spec.specs.Syntax.{Client}
use Rattle.client_spec.specs.Grammar.{SpellsClient}
use Rattle.client_spec.specs.Run.{Ending, finished, stopped, stuck, bound}
use Rattle.client_spec.specs.OnImages.{Given, Left, RunsClient}
use Rattle.client_spec.specs.Clients.{IsVerified, AreAccepted, given_next, GoesOn, RunClients, image_after, StayWithin}
use Rattle.test_definitions.proofs.WorkedRuns.SimulationLaws.{run_of_states, client_within_bound}
use Rattle.test_definitions.proofs.Runs.StoppedRunLaws.{run_writes}

-- after one client the table is the longer one of the table and the client's types
table_left : (client : Client) (given : Given) (left : Left) (table : Table) (picture : Picture) → IsHeld given.image picture → picture.table ≡ table → (runs : RunsClient client given left)
    → runs.is_left.picture.table ≡ longer table client.types
table_left client given left table picture held is runs =
    let same : runs.is_first.picture.table ≡ table = (Held-one given.image runs.is_first.picture picture runs.is_first.held held).table ∙ is in
    let run = run_of_states client.constants given.others given.moves client.code runs.first runs.last left.steps left.ending runs.run in
    runs.is_left.types ∙ (run_writes client.constants client.code runs.first.state runs.last.state left.steps left.ending run).types ∙ runs.is_first.types ∙ ap (λ t. longer t client.types) same

one_within : (client : Client) (given : Given) (left : Left) (text : List ℕ) (table : Table) (picture : Picture) → IsHeld given.image picture → picture.table ≡ table → SpellsClient text client
    → IsVerified table client → RunsClient client given left
    → (left.steps ≤ bound client.code) × (left.ending ≢ stuck)
one_within client given left text table picture held is spells verified runs =
    let same : runs.is_first.picture.table ≡ table = (Held-one given.image runs.is_first.picture picture runs.is_first.held held).table ∙ is in
    client_within_bound client given left spells.valid verified.typed runs (subst (λ t. Agree t client.types) (sym same) verified.agree)

pub all_within : (table : Table) (texts : List (List ℕ)) (clients : List Client) (given : Given) (lefts : List Left) (picture : Picture) → IsHeld given.image picture → picture.table ≡ table
    → AreAccepted table texts clients → RunClients clients given lefts → StayWithin clients lefts
all_within table [] [] given [] picture held is a r = tt
all_within table [] [] given (left ∷ lefts) picture held is a r = absurd r
all_within table [] (client ∷ clients) given lefts picture held is a r = absurd a
all_within table (text ∷ texts) [] given lefts picture held is a r = absurd a
all_within table (text ∷ texts) (client ∷ clients) given [] picture held is a r = tt
all_within table (text ∷ texts) (client ∷ clients) given (left ∷ lefts) picture held is a r =
    let one = one_within client given left text table picture held is a.0 a.1 r.0 in
    let next = r.0.is_left.picture in
    let table_is = table_left client given left table picture held is r.0 in
    (one.0, one.1, rest left.ending r.1 (all_within (longer table client.types) texts clients (given_next given left) lefts next r.0.is_left.held table_is a.2))
  where
    none : (ls : List Left) → ls ≡ [] → StayWithin clients ls
    none [] e = tt
    none (l ∷ ls) e = absurd (let f : l ∷ ls ≡ [] = e in cc)

    rest : (end : Ending) → GoesOn end (RunClients clients (given_next given left) lefts) lefts → (RunClients clients (given_next given left) lefts → StayWithin clients lefts) → StayWithin clients lefts
    rest finished g f = f g
    rest stopped g f = none lefts g
    rest stuck g f = absurd g

-- a picture of an image, with these loose objects
abbrev Shows : Given → List ℕ → Type 0
Shows given image = (picture : Picture) × IsHeld image picture × AreCounted (word image next_word) picture × (picture.loose ≡ given.others)

pub held_after : (clients : List Client) (given : Given) (lefts : List Left) (picture : Picture) → IsHeld given.image picture → AreCounted (word given.image next_word) picture → picture.loose ≡ given.others
    → RunClients clients given lefts → Shows given (image_after given.image lefts)
held_after [] given [] picture held counted loose r = (picture, held, counted, loose)
held_after [] given (left ∷ lefts) picture held counted loose r = absurd r
held_after (client ∷ clients) given [] picture held counted loose r = absurd r
held_after (client ∷ clients) given (left ∷ lefts) picture held counted loose r =
    let l = r.0.is_left in
    rest left.ending r.1 (held_after clients (given_next given left) lefts l.picture l.held l.counted l.loose)
  where
    ended : (ls : List Left) → ls ≡ [] → Shows given (image_after left.image ls)
    ended [] e = (r.0.is_left.picture, r.0.is_left.held, r.0.is_left.counted, r.0.is_left.loose)
    ended (l ∷ ls) e = absurd (let f : l ∷ ls ≡ [] = e in cc)

    rest : (end : Ending) → GoesOn end (RunClients clients (given_next given left) lefts) lefts → (RunClients clients (given_next given left) lefts → Shows given (image_after left.image lefts)) → Shows given (image_after left.image lefts)
    rest finished g f = f g
    rest stopped g f = ended lefts g
    rest stuck g f = absurd g
