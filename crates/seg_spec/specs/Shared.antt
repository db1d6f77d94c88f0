-- Frozen objects: objects that several values share, in images of version 2. The value of a frozen
-- object never changes. The object counts the shared cells that point to it. Its number is greater
-- than the numbers of the objects to which it points, so there are no cycles.
--
-- A shared cell reads as the position of its object, so the content of a place depends only on the
-- place's own bytes and blocks. Clients see trees instead: `unfolded` replaces each shared cell by
-- a copy of its object.
--     names_in v, names_of frozen          the targets of the shared cells in a value, or in frozen objects
--     named_in v                           the positions of these objects
--     IsBelow n frozen place               one of the objects has this place, and a number below n
--     IsCounted next frozen cells          each object counts the cells that point to it: these, and the cells
--                                          in the objects; each object points only to objects with lower
--                                          numbers; `next` is greater than all numbers
--     unfolded n frozen v                  the value as a tree: each shared cell owns a copy of its object
--     raised p frozen                      the objects after one more cell points to the object at position p
--     raised_by names frozen               the objects after one more cell points to each of these
--     IsReleasing kept final names now     cells that point to these positions remain to be released, and
--                                          others are kept; in the end the objects are `final`
--     left gone frozen, freed gone frozen  the objects that remain if cells that point to `gone` are released,
--                                          and the objects that are freed because no cell points to them
use Rattle.std.specs.Prelude.{◌≡◌, ◌≢◌, ℕ, zero, suc, ◌-◌, ◌<◌, ◌≤◌, ◌==◌, ◌⊎◌, ⊤, if◌then◌else◌, List, [], ◌∷◌, ◌++◌, map, Option, Some, None}
use Rattle.std.specs.List.{AllByRecursion}
use Rattle.seg_spec.specs.Value.{Label, Value, node, Values, nil, cons, Empty, Full}
use Rattle.seg_spec.specs.Reads.{Place}
use Rattle.seg_spec.specs.Frozen.{Frozen}
use Rattle.seg_spec.specs.Sound.{times, SameBlocks}

-- ---- the targets of shared cells

unfoldable mutual
  pub names_in : Value → List Place
  names_in (node (Label.shared T p) vs) = record { at = p; type = T } ∷ names_each vs
  names_in (node label vs) = names_each vs

  pub names_each : Values → List Place
  names_each nil = []
  names_each (cons v vs) = names_in v ++ names_each vs

unfoldable mutual
  pub named_in : Value → List ℕ
  named_in (node (Label.shared T p) vs) = p ∷ named_each vs
  named_in (node label vs) = named_each vs

  pub named_each : Values → List ℕ
  named_each nil = []
  named_each (cons v vs) = named_in v ++ named_each vs

-- the targets of the shared cells in all objects
abbrev pub names_of : List Frozen → List Place
names_of [] = []
names_of (f ∷ fs) = names_in f.value ++ names_of fs

-- the number of cells that point to the object at a position
abbrev pub times_named : ℕ → List Place → ℕ
times_named p names = times p (map (λ q. q.at) names)

-- ---- objects that are counted

abbrev pub IsBelow : ℕ → List Frozen → Place → Type 0
IsBelow n [] q = ⊥
IsBelow n (f ∷ fs) q = ((f.at ≡ q.at) × (f.type ≡ q.type) × (f.number < n)) ⊎ IsBelow n fs q

-- no two objects have the same position
abbrev pub AreDistinct : List Frozen → Type 0
AreDistinct [] = ⊤
AreDistinct (f ∷ fs) = AllByRecursion (λ g. g.at ≢ f.at) fs × AreDistinct fs

pub record IsCounted (next : ℕ) (frozen : List Frozen) (cells : List Place) : Type 0 where
  pub distinct : AreDistinct frozen
  pub numbered : AllByRecursion (λ f. f.number < next) frozen
  pub named : AllByRecursion (IsBelow next frozen) cells
  pub falling : AllByRecursion
      (λ f. AllByRecursion (IsBelow f.number frozen) (names_in f.value)) frozen
  pub some : AllByRecursion (λ f. 1 ≤ f.count) frozen
  pub counts : AllByRecursion
      (λ f. f.count ≡ times_named f.at (cells ++ names_of frozen)) frozen

-- ---- values as trees

unfoldable mutual
  -- each shared cell is replaced by its meaning
  pub replaced : (ℕ → Value) → Value → Value
  replaced meaning (node (Label.shared T p) vs) = meaning p
  replaced meaning (node label vs) = node label (replaced_each meaning vs)

  pub replaced_each : (ℕ → Value) → Values → Values
  replaced_each meaning nil = nil
  replaced_each meaning (cons v vs) = cons (replaced meaning v) (replaced_each meaning vs)

-- the value of the object at a position
abbrev pub value_at_position : List Frozen → ℕ → Option Value
value_at_position [] p = None
value_at_position (f ∷ fs) p = if f.at == p then Some f.value else value_at_position fs p

-- a shared cell read as an owner: of the object's value as a tree, or of nothing
abbrev pub owner_by : (Value → Value) → Option Value → Value
owner_by tree None = Empty
owner_by tree (Some v) = Full (tree v)

-- the meaning of a cell that points to the object at a position, through at most n objects
unfoldable pub meaning : ℕ → List Frozen → ℕ → Value
meaning zero frozen p = Empty
meaning (suc n) frozen p =
    owner_by (λ v. replaced (meaning n frozen) v) (value_at_position frozen p)

abbrev pub unfolded : ℕ → List Frozen → Value → Value
unfolded n frozen v = replaced (meaning n frozen) v

-- ---- new cells

abbrev pub with_count : Frozen → ℕ → Frozen
with_count f n = record f { count = n }

-- the object at a position counts one cell more
abbrev pub raised : ℕ → List Frozen → List Frozen
raised p [] = []
raised p (f ∷ fs) = (if f.at == p then with_count f (suc f.count) else f) ∷ raised p fs

abbrev pub raised_by : List Place → List Frozen → List Frozen
raised_by [] frozen = frozen
raised_by (q ∷ names) frozen = raised q.at (raised_by names frozen)

-- ---- released cells

-- the numbers don't rise
abbrev pub IsFalling : List Frozen → Type 0
IsFalling [] = ⊤
IsFalling (f ∷ fs) = AllByRecursion (λ g. g.number ≤ f.number) fs × IsFalling fs

-- the object remains if n cells still point to it and n isn't 0
abbrev pub kept_with : Frozen → ℕ → List Frozen → List Frozen → List Frozen
kept_with f zero without with_it = without
kept_with f (suc n) without with_it = with_count f (suc n) ∷ with_it

-- The objects are by falling numbers. An object that is freed releases its own cells, which point
-- to later objects.
abbrev pub left : List Place → List Frozen → List Frozen
left gone [] = []
left gone (f ∷ fs) = kept_with f (f.count - times_named f.at gone)
    (left (gone ++ names_in f.value) fs) (left gone fs)

-- the object is freed if n cells still point to it and n is 0
abbrev pub freed_with : Frozen → ℕ → List Frozen → List Frozen → List Frozen
freed_with f zero without with_it = f ∷ without
freed_with f (suc n) without with_it = with_it

-- the objects that are freed
abbrev pub freed : List Place → List Frozen → List Frozen
freed gone [] = []
freed gone (f ∷ fs) = freed_with f (f.count - times_named f.at gone)
    (freed (gone ++ names_in f.value) fs) (freed gone fs)

-- Cells that point to these positions remain to be released, and cells that point to `kept` aren't
-- released. In the end the objects are `final`.
pub record IsReleasing (kept : List Place) (final : List Frozen) (names : List ℕ)
    (now : List Frozen) : Type 0 where
  pub pending : List Place
  pub pending_are : SameBlocks (map (λ q. q.at) pending) names
  pub next : ℕ
  pub counted : IsCounted next now (pending ++ kept)
  pub falling : IsFalling now
  pub leaves : left pending now ≡ final
