-- Paths that continue after a place, and paths after the place's buffer was cut.
use Rattle.std.proofs.Common.{◌≡◌, ℕ, ◌<◌, ◌⊎◌, inl, inr, List, ◌∷◌, ◌++◌, length, Some, sym, ap, ◌∙◌, subst, arith}
use Rattle.std.proofs.lemmas.List.{length-append}
use Rattle.std.specs.Prelude.{slice_get}
use Rattle.std.specs.List.{AllByRecursion}
use Rattle.seg_spec.specs.Types.{Form, Table}
use Rattle.seg_spec.specs.Value.{Value, count, Selector, index_of}
use Rattle.seg_spec.specs.Reads.{Place, Opened, Opens, Holds, Leads, here, into}
use Rattle.seg_spec.specs.Index.{Root}
use Rattle.seg_spec.specs.Sound.{Picture, IsHeld}
use Rattle.seg_spec.specs.Apart.{GoesOnAfter}
use Rattle.seg_spec.specs.Roots.{Listed, roots_in, roots_before, roots_after, item_of, KeepsPaths, KeepsPathsBeside}
use Rattle.seg_spec.specs.Shrinking.{KeepsPathsInside, ShrinksPlace}
use Rattle.seg_spec.proofs.Values.OneValueLaws.{Opens-one}
use Rattle.seg_spec.proofs.Values.PathSplitLaws.{Leads-append}
use Rattle.seg_spec.proofs.Images.RootPathLaws.{place_paths}

-- a selector selects one part only
same_part : (bytes : List ℕ) (table : Table) (form other_form : Form) (opened other : Opened) (place : Place) (s : Selector) (i k : ℕ) (part other_part : Place) → form ≡ other_form → Opens bytes table place form opened
    → Opens bytes table place other_form other
    → index_of opened.label s ≡ Some i → index_of other.label s ≡ Some k → slice_get opened.parts i ≡ Some part → slice_get other.parts k ≡ Some other_part → other_part ≡ part
same_part bytes table form other_form opened other place s i k part other_part e o p index index' is is' =
    let same : opened ≡ other = Opens-one bytes table place other_form opened other (subst (λ f. Opens bytes table place f opened) e o) p in
    let at : i ≡ k = (let a : Some i ≡ Some k = sym index ∙ ap (λ (x : Opened). index_of x.label s) same ∙ index' in cc) in
    let b : Some other_part ≡ Some part = sym is' ∙ ap (λ (x : Opened). slice_get x.parts k) (sym same) ∙ ap (slice_get opened.parts) (sym at) ∙ is in
    cc

-- the rest of a longer path begins at the shorter path's end
pub Leads-after : (bytes : List ℕ) (table : Table) {place inner target : Place} {path more : List Selector} → Leads bytes table place path inner → Leads bytes table place (path ++ more) target → Leads bytes table inner more target
Leads-after bytes table here l = l
Leads-after bytes table {place = place} {target = target} {more = more} (into {s = s} {path = path} form opened i part f o index part_is rest) (into other_form other k other_part g p index' other_is l) =
    let same_form : form ≡ other_form = (let e : Some form ≡ Some other_form = sym f ∙ g in cc) in
    let same = same_part bytes table form other_form opened other place s i k part other_part same_form o p index index' part_is other_is in
    Leads-after bytes table rest (subst (λ (x : Place). Leads bytes table x (path ++ more) target) same l)

pub not_after_itself : (path : List Selector) → GoesOnAfter path path → ⊥
not_after_itself path g =
    let n : length path ≡ length (path ++ g.0 ∷ g.1) = ap length g.2 in
    absurd (omega (arith, length-append path (g.0 ∷ g.1)))

module _ (old new : List ℕ) (table : Table) (root : Root) (j : ℕ) (path : List Selector) (inner : Place) (within : j < count root.values) (leads : Leads old table (item_of table root j) path inner)
    (beside : KeepsPathsBeside old new table root j path) (inside : KeepsPathsInside old new table inner) where
  leads_then : Leads new table (item_of table root j) path inner
  leads_then = go (beside j path inner within leads)
    where
      go : ((j ≡ j) × GoesOnAfter path path) ⊎ Leads new table (item_of table root j) path inner → Leads new table (item_of table root j) path inner
      go (inl b) = absurd (not_after_itself path b.1)
      go (inr l) = l

  pub paths_kept : KeepsPaths old new table root
  paths_kept i other target less l = go (beside i other target less l)
    where
      go : ((i ≡ j) × GoesOnAfter path other) ⊎ Leads new table (item_of table root i) other target → Leads new table (item_of table root i) other target
      go (inr k) = k
      go (inl b) =
          let from : Leads old table (item_of table root j) other target = subst (λ n. Leads old table (item_of table root n) other target) b.0 l in
          let more = b.1.0 ∷ b.1.1 in
          let rest = Leads-after old table {more = more} leads (subst (λ p. Leads old table (item_of table root j) p target) b.1.2 from) in
          let whole = Leads-append new table leads_then (inside more target rest) in
          subst (λ p. Leads new table (item_of table root i) p target) (sym b.1.2) (subst (λ n. Leads new table (item_of table root n) (path ++ more) target) (sym b.0) whole)

pub after_a_cut : (old new : List ℕ) (picture : Picture) (held : IsHeld old picture) (which : Listed) (before : List Root) (root : Root) (after : List Root)
    (j : ℕ) (path : List Selector) (inner : Place) (form : Form) (v : Value) (blocks others : List ℕ)
    → roots_in picture which ≡ before ++ root ∷ after → j < count root.values → Leads old picture.table (item_of picture.table root j) path inner → Holds old picture.table inner v blocks
    → ShrinksPlace old new picture.table inner form v blocks others
    → KeepsPaths old new picture.table root × AllByRecursion (KeepsPaths old new picture.table) (roots_before picture which before ++ roots_after picture which after)
after_a_cut old new picture held which before root after j path inner form v blocks others among within leads was s =
    let both = place_paths old new picture held which before root after among j within path inner leads v v blocks others was s.changes in
    (paths_kept old new picture.table root j path inner within leads both.0 s.paths, both.1)
