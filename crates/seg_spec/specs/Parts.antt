-- The parts of a place that stay when others come or go. A part that stays keeps its own blocks: of
-- two equal empty texts, one doesn't come to own the buffer of the other.
--     Persists old new table p q            the value that was at p is at q, down to all its parts
--     PersistEach old new table ps qs       the same of places in a row
--     PartsStay old new table form ps qs from gone come    parts before and after a change
--     KeepsParts old new table place from gone come        a place's parts before and after a call
--     KeepsAllParts old new table place                    no part came or went
use Rattle.std.specs.Prelude.{◌≡◌, ℕ, true, List, [], ◌∷◌, ◌++◌, length, Some}
use Rattle.seg_spec.specs.Types.{Form, Table, form_at}
use Rattle.seg_spec.specs.Block.{has_nodes}
use Rattle.seg_spec.specs.Reads.{Place, Opened, Opens}

mutual
  -- The place q now has the label that p had, and its cell points to the same blocks. The same is
  -- true of the places inside, in order.
  pub data Persists (old new : List ℕ) (table : Table) : Place → Place → Type 0 where
    persists : {p q : Place} (form : Form) (before after : Opened) →
        form_at table p.type ≡ Some form → q.type ≡ p.type →
        Opens old table p form before → Opens new table q form after →
        after.label ≡ before.label → after.blocks ≡ before.blocks →
        PersistEach old new table before.parts after.parts → Persists old new table p q

  pub data PersistEach (old new : List ℕ) (table : Table) : List Place → List Place →
      Type 0 where
    persist_none : PersistEach old new table [] []
    persist_more : {p q : Place} {ps qs : List Place} →
        Persists old new table p q → PersistEach old new table ps qs →
        PersistEach old new table (p ∷ ps) (q ∷ qs)

-- The first `from` parts stay. Then `gone` parts went and `come` parts came. The rest stay.
pub record PartsStay (old new : List ℕ) (table : Table) (form : Form) (before after : List Place)
    (from gone come : ℕ) : Type 0 where
  pub front : List Place
  pub went : List Place
  pub rest : List Place
  pub before_are : before ≡ front ++ (went ++ rest)
  pub front_now : List Place
  pub came : List Place
  pub rest_now : List Place
  pub after_are : after ≡ front_now ++ (came ++ rest_now)
  pub from_is : length front ≡ from
  pub gone_are : length went ≡ gone
  pub come_are : length came ≡ come
  pub front_stays : PersistEach old new table front front_now
  pub rest_stays : PersistEach old new table rest rest_now
  -- in a list or a map a part stays in its node
  pub in_nodes : has_nodes (Some form) ≡ true → (front_now ≡ front) × (rest_now ≡ rest)

pub record KeepsParts (old new : List ℕ) (table : Table) (place : Place)
    (from gone come : ℕ) : Type 0 where
  pub form : Form
  pub form_is : form_at table place.type ≡ Some form
  pub before : Opened
  pub opens_before : Opens old table place form before
  pub after : Opened
  pub opens_after : Opens new table place form after
  pub stay : PartsStay old new table form before.parts after.parts from gone come

abbrev pub KeepsAllParts : List ℕ → List ℕ → Table → Place → Type 0
KeepsAllParts old new table place = KeepsParts old new table place 0 0 0
