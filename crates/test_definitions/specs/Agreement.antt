-- Two runs of the same code over images that are alike, and two outcomes of the same clients. An
-- output may fail at any byte, so one of them may end earlier than the other.
--     RunAlike others x z          situations that clients can't tell apart, at one step of the run
--                                  and one base
--     IsLonger xs ys               ys is xs with more bytes after it
--     AlikeUpTo others y n end w m other
--                                  two runs end in situations that are alike, or the output of
--                                  one failed earlier
--     AgreeIn left other           two results of one client agree
--     AllAgree lefts others        the results of several clients agree
--     StopsEarlier lefts others    the output failed in `lefts`, and more was written in `others`
--     OneOutcome lefts others      the results agree, or the output of one failed earlier
use Rattle.std.specs.Prelude.{◌≡◌, ◌⊎◌, ⊤, ℕ, ◌<◌, List, [], ◌∷◌, ◌++◌, length}
use Rattle.seg_spec.specs.Index.{Root}
use Rattle.client_spec.specs.Run.{Ending, stopped}
use Rattle.client_spec.specs.OnImages.{Situation, Left}
use Rattle.client_spec.specs.Clients.{outputs, ending_after}
use Rattle.test_definitions.specs.Alike.{AreAlike, StandAlike}

-- ---- two runs

pub record RunAlike (others : List Root) (x z : Situation) : Type 0 where
  pub stand : StandAlike others x z
  pub base : z.base ≡ x.base
  pub steps : z.steps ≡ x.steps

pub record IsLonger (xs ys : List ℕ) : Type 0 where
  pub more : List ℕ
  pub is : ys ≡ xs ++ more
  pub some : 0 < length more

-- z has more output than x
abbrev pub HasMore : Situation → Situation → Type 0
HasMore x z = IsLonger x.state.output z.state.output

-- the runs took as many steps and ended in the same way in y and w, or the output of one failed
abbrev pub AlikeUpTo : List Root → Situation → ℕ → Ending → Situation → ℕ → Ending → Type 0
AlikeUpTo others y n end w m other = (RunAlike others y w × (n ≡ m) × (end ≡ other))
    ⊎ ((end ≡ stopped) × HasMore y w) ⊎ ((other ≡ stopped) × HasMore w y)

-- ---- two outcomes

-- Both took as many steps, read as much input, ended in the same way and wrote the same output, and
-- they left the segment at the same base. The images are alike: they have the same allocated
-- blocks, and the same named, unique and frozen objects at the same positions.
pub record AgreeIn (left other : Left) : Type 0 where
  pub steps : other.steps ≡ left.steps
  pub read : other.read ≡ left.read
  pub ending : other.ending ≡ left.ending
  pub output : other.output ≡ left.output
  pub base : other.base ≡ left.base
  pub images : AreAlike [] [] left.image other.image

abbrev pub AllAgree : List Left → List Left → Type 0
AllAgree [] [] = ⊤
AllAgree [] (other ∷ others) = ⊥
AllAgree (left ∷ lefts) [] = ⊥
AllAgree (left ∷ lefts) (other ∷ others) = AgreeIn left other × AllAgree lefts others

-- the last output of `lefts` failed, and what was written before is a proper beginning of the other
-- output
pub record StopsEarlier (lefts others : List Left) : Type 0 where
  pub failed : ending_after lefts ≡ stopped
  pub longer : IsLonger (outputs lefts) (outputs others)

abbrev pub OneOutcome : List Left → List Left → Type 0
OneOutcome lefts others =
    AllAgree lefts others ⊎ StopsEarlier lefts others ⊎ StopsEarlier others lefts
