-- Two images that no client can tell apart. They have the same objects at the same positions, down
-- to each buffer and node. They may differ in free memory, in the bytes after the values of a buffer
-- or an object, and in the shapes of trees.
--     has_count form                       whether a cell of this form has a count
--     AlikeAt first second table place     the place opens in the same way in both, with the same
--                                          count if it has one, and so do the places inside
--     AlikeEach first second table places  each of the places does
--     AlikeRoot first second table root    each of the root's values does
--     AreAlike others places first second  the images have the same header, allocated blocks, index
--                                          and roots; registers own the objects at these positions
--     StandAlike others x z                two situations with one state and one list of owned
--                                          objects, whose images are alike
--     StaysAlike others first second y w   one answer from both, and the situations are still alike
use Rattle.std.specs.Prelude.{◌≡◌, ℕ, Bool, true, false, List, [], ◌∷◌, ◌++◌, length, Some}
use Rattle.std.specs.List.{AllByRecursion}
use Rattle.seg_spec.specs.Bytes.{word}
use Rattle.seg_spec.specs.Header.{next_word, KeepsFront}
use Rattle.seg_spec.specs.Types.{Form, Table, form_at}
use Rattle.seg_spec.specs.Value.{count}
use Rattle.seg_spec.specs.Heap.{live}
use Rattle.seg_spec.specs.Reads.{Place, Opened, Opens, count_at, items}
use Rattle.seg_spec.specs.Index.{Root}
use Rattle.seg_spec.specs.Sound.{Picture, IsHeld, roots_of}
use Rattle.seg_spec.specs.Counting.{AreCounted}
use Rattle.client_spec.specs.Answer.{Answer}
use Rattle.client_spec.specs.Ties.{places_of}
use Rattle.client_spec.specs.OnImages.{Situation}

abbrev pub has_count : Form → Bool
has_count Form.i64 = false
has_count (Form.struct fields) = false
has_count form = true

mutual
  pub data AlikeAt (first second : List ℕ) (table : Table) : Place → Type 0 where
    opens_alike : {place : Place} (form : Form) (opened : Opened) →
        form_at table place.type ≡ Some form →
        Opens first table place form opened → Opens second table place form opened →
        (has_count form ≡ true → count_at second place.at ≡ count_at first place.at) →
        AlikeEach first second table opened.parts → AlikeAt first second table place

  pub data AlikeEach (first second : List ℕ) (table : Table) : List Place → Type 0 where
    none_alike : AlikeEach first second table []
    more_alike : {place : Place} {places : List Place} →
        AlikeAt first second table place → AlikeEach first second table places →
        AlikeEach first second table (place ∷ places)

abbrev pub AlikeRoot : List ℕ → List ℕ → Table → Root → Type 0
AlikeRoot first second table root =
    AlikeEach first second table (items table root.at root.type (count root.values))

pub record AreAlike (others : List Root) (places first second : List ℕ) : Type 0 where
  pub length_same : length second ≡ length first
  pub front_same : KeepsFront first second
  pub next_same : word second next_word ≡ word first next_word
  pub live_same : live second ≡ live first
  pub picture : Picture
  pub held : IsHeld first picture
  pub held_too : IsHeld second picture
  pub counted : AreCounted (word first next_word) picture
  pub index_same : held_too.index_blocks ≡ held.index_blocks
  -- the objects that registers own
  pub own : List Root
  pub loose : picture.loose ≡ others ++ own
  pub owned_are : places_of own ≡ places
  pub roots : AllByRecursion (AlikeRoot first second picture.table) (roots_of picture)

-- steps, base and host aren't compared
pub record StandAlike (others : List Root) (x z : Situation) : Type 0 where
  pub states : z.state ≡ x.state
  pub owned : z.owned ≡ x.owned
  pub images : AreAlike others x.owned x.image z.image

pub record StaysAlike (others : List Root) (first second : Answer) (y w : Situation) : Type 0 where
  pub answers : second ≡ first
  pub stand : StandAlike others y w
