-- What a list of clients does to an image, or why none of them runs. These are the statements about
-- the whole library.
--     CanRun image texts room base moves                  the image is sound and has a place, the
--                                                         moves are allowed, and the clients are
--                                                         accepted
--     IsOutcome image texts input room base moves lefts   the clients can run, and these are their
--                                                         results
--     IsRefusalOf image texts room base moves refusal     why no client runs; everything that is
--                                                         tested earlier is right
use Rattle.std.specs.Prelude.{◌≡◌, ⊤, ℕ, ◌^◌, ◌≤◌, List, [], length, take, Some, slice_get}
use Rattle.seg_spec.specs.Window.{IsPlace}
use Rattle.seg_spec.specs.Images.{IsSound, upgraded}
use Rattle.seg_spec.specs.Faulty.{IsImageLength}
use Rattle.client_spec.specs.Syntax.{Client}
use Rattle.client_spec.specs.Grammar.{SpellsClient}
use Rattle.client_spec.specs.OnImages.{Move, Given, Left}
use Rattle.client_spec.specs.Clients.{IsVerified, AreAccepted, RunClients, table_after, AreMoves, IsFirstBadMove}

-- the room has a place for the image at this base
pub record CanLie (image : List ℕ) (room base : ℕ) : Type 0 where
  pub size : IsImageLength (length image)
  pub room_fits : room ≤ 2 ^ 31
  pub placed : IsPlace room base (length image)

-- the moves are allowed
pub record CanMove (image : List ℕ) (room base : ℕ) (moves : List Move) : Type 0 where
  pub lies : CanLie image room base
  pub fit : AreMoves room (length image) 0 moves

-- what the first client is given; the image has no loose objects
abbrev pub given_first : List ℕ → List ℕ → List ℕ → ℕ → List Move → Given
given_first image host input base moves =
    record { others = []; moves = moves; image = image; host = host; base = base; input = input }

-- The image is sound and has a place, the moves are allowed, and each text is a client that is
-- accepted after the ones before it.
pub record CanRun (image : List ℕ) (texts : List (List ℕ)) (room base : ℕ) (moves : List Move) :
    Type 0 where
  pub can_move : CanMove image room base moves
  pub sound : IsSound image
  pub clients : List Client
  pub accepted : AreAccepted sound.picture.table texts clients

-- The clients can run, and these are their results on the opened image.
pub record IsOutcome (image : List ℕ) (texts : List (List ℕ)) (input : List ℕ) (room base : ℕ)
    (moves : List Move) (lefts : List Left) : Type 0 where
  pub can_run : CanRun image texts room base moves
  pub host : List ℕ
  pub host_is : length host ≡ room
  pub runs : RunClients can_run.clients
      (given_first (upgraded image) host input base moves) lefts

-- why no client runs, in the order of the tests
pub data Refusal : Type 0 where
  no_memory : Refusal
  bad_size : Refusal
  misplaced : Refusal
  bad_move : ℕ → Refusal
  bad_image : Refusal
  bad_text : (client : ℕ) → Refusal
  bad_client : (client : ℕ) → Refusal

-- text k is reached: the image is sound, and the texts before it are accepted
pub record IsTurnOf (image : List ℕ) (texts : List (List ℕ)) (k : ℕ) (text : List ℕ) : Type 0 where
  pub sound : IsSound image
  pub clients : List Client
  pub accepted : AreAccepted sound.picture.table (take k texts) clients
  pub text_is : slice_get texts k ≡ Some text

abbrev pub IsRefusalOf : List ℕ → List (List ℕ) → ℕ → ℕ → List Move → Refusal → Type 0
IsRefusalOf image texts room base moves Refusal.no_memory = ⊤
IsRefusalOf image texts room base moves Refusal.bad_size = IsImageLength (length image) → ⊥
IsRefusalOf image texts room base moves Refusal.misplaced =
    IsImageLength (length image) × (CanLie image room base → ⊥)
IsRefusalOf image texts room base moves (Refusal.bad_move k) =
    CanLie image room base × IsFirstBadMove room (length image) moves k
IsRefusalOf image texts room base moves Refusal.bad_image =
    CanMove image room base moves × (IsSound image → ⊥)
IsRefusalOf image texts room base moves (Refusal.bad_text k) =
    CanMove image room base moves × (text : List ℕ) × IsTurnOf image texts k text ×
    ((client : Client) → SpellsClient text client → ⊥)
IsRefusalOf image texts room base moves (Refusal.bad_client k) =
    CanMove image room base moves × (text : List ℕ) × (turn : IsTurnOf image texts k text) ×
    (client : Client) × SpellsClient text client ×
    (IsVerified (table_after turn.sound.picture.table turn.clients) client → ⊥)
