-- The counts of a picture's frozen objects, if a part of a root changes: the blocks apart from the
-- part, and the objects that remain.
use Rattle.std.proofs.Common.{◌≡◌, ℕ, zero, suc, ◌+◌, ◌<◌, ◌≤◌, ℤ, List, [], ◌∷◌, ◌++◌, length, map, get_or, Option, Some, None, option_and_then, refl, sym, ap, ◌∙◌, subst, append_assoc, arith, pos}
use Rattle.std.specs.List.{AllByRecursion}
use Rattle.std.proofs.lemmas.List.{append-nil}
use Rattle.seg_spec.specs.Types.{Form, Table, built}
use Rattle.seg_spec.specs.Value.{Label, Value, Int, node, Values, nil, cons, nth, count, copies, Selector, index_of, change_nth, value_at, with_value_at, field_defaults, default_by, default_of}
use Rattle.seg_spec.specs.Heap.{Span}
use Rattle.seg_spec.specs.Block.{KeepsBlock}
use Rattle.seg_spec.specs.Reads.{Place, Holds, Leads}
use Rattle.seg_spec.specs.Index.{Root}
use Rattle.seg_spec.specs.Frozen.{Frozen, root_of_frozen, blocks_by}
use Rattle.seg_spec.specs.Sound.{Picture, frozen_roots, roots_of, HoldsRoots, IsLaidOut, IsHeld, times}
use Rattle.seg_spec.specs.Roots.{Listed, by_name, by_type, loose, roots_in, roots_before, with_roots, item_of, with_item, KeepsPaths, KeepsPathsBeside, StretchesComeApart, ChangesPlace}
use Rattle.seg_spec.specs.Shared.{names_in, names_each, times_named, IsBelow, IsCounted, IsFalling, left, raised_by}
use Rattle.seg_spec.specs.Destroying.{HoldFrozen}
use Rattle.seg_spec.specs.Clearing.{SharedBeside}
use Rattle.seg_spec.specs.Counting.{cells_in, owners_in, AreCounted}
use Rattle.seg_spec.proofs.Values.PlaceFrameLaws.{each_left, each_right}
use Rattle.seg_spec.proofs.Heap.LiveBlockLaws.{times-append, each_there}
use Rattle.seg_spec.proofs.Images.LooseRootLaws.{each_joined}
use Rattle.seg_spec.proofs.Frozen.SharedLaws.{named-append, counted_again}
use Rattle.seg_spec.proofs.Frozen.ReleaseOrderLaws.{none_gone}
use Rattle.seg_spec.proofs.Frozen.SharedCountLaws.{shared_counts}
use Rattle.seg_spec.proofs.Frozen.CountDecreaseLaws.{positions_of}
use Rattle.seg_spec.proofs.Frozen.PictureCountLaws.{counted_by, falling_left, cells_append, counted_apart, roots_held, owners_first, OwnerBeside, owner_beside}
use Rattle.seg_spec.proofs.Images.RootLaws.{roots_come_apart, HoldsRoots-split, IsLaidOut-kept, IsLaidOut-faced, table_kept}
use Rattle.seg_spec.proofs.Images.RootWriteLaws.{faced}
use Rattle.seg_spec.proofs.Images.RootChangeLaws.{moves, HoldsRoots_blocks-one, stretches, beside_kept, paths_beside, moved_after}
use Rattle.seg_spec.proofs.Images.RootPathLaws.{roots_paths}
use Rattle.seg_spec.proofs.Deallocation.OwnerDestructionLaws.{laid_out_with}

-- ---- the owners around some roots of one list

abbrev pub owners_after : Picture → Listed → List Root → List Root
owners_after picture by_name after = after ++ (picture.uniques ++ picture.loose)
owners_after picture by_type after = after ++ picture.loose
owners_after picture loose after = after

pub owners_with : (picture : Picture) (which : Listed) (before these after : List Root) → owners_in (with_roots picture which (before ++ (these ++ after))) ≡ roots_before picture which before ++ (these ++ owners_after picture which after)
owners_with picture by_name before these after = simp append_assoc
owners_with picture by_type before these after = simp append_assoc
owners_with picture loose before these after = simp append_assoc

pub owners_are : (picture : Picture) (which : Listed) (before these after : List Root) → roots_in picture which ≡ before ++ (these ++ after)
    → owners_in picture ≡ roots_before picture which before ++ (these ++ owners_after picture which after)
owners_are picture by_name before these after e = ap (λ rs. rs ++ (picture.uniques ++ picture.loose)) e ∙ owners_with picture by_name before these after
owners_are picture by_type before these after e = ap (λ rs. picture.names ++ (rs ++ picture.loose)) e ∙ owners_with picture by_type before these after
owners_are picture loose before these after e = ap (λ rs. picture.names ++ (picture.uniques ++ rs)) e ∙ owners_with picture loose before these after

-- other owners leave the frozen objects
pub frozen_same : (picture : Picture) (which : Listed) (roots : List Root) → (with_roots picture which roots).frozen ≡ picture.frozen
frozen_same picture Listed.by_name roots = refl
frozen_same picture Listed.by_type roots = refl
frozen_same picture Listed.loose roots = refl

-- ---- the same targets, in any order

pub record SameNames (xs ys : List Place) : Type 0 where
  pub counts : (p : ℕ) → times_named p xs ≡ times_named p ys
  pub below : (n : ℕ) (fs : List Frozen) → AllByRecursion (IsBelow n fs) xs → AllByRecursion (IsBelow n fs) ys

pub names_same : {xs ys : List Place} → xs ≡ ys → SameNames xs ys
names_same e = record { counts = λ p. ap (times_named p) e; below = λ n fs a. subst (AllByRecursion (IsBelow n fs)) e a }

pub names_then : {xs ys zs : List Place} → SameNames xs ys → SameNames ys zs → SameNames xs zs
names_then a b = record { counts = λ p. a.counts p ∙ b.counts p; below = λ n fs all. b.below n fs (a.below n fs all) }

pub names_joined : {xs ys zs ws : List Place} → SameNames xs ys → SameNames zs ws → SameNames (xs ++ zs) (ys ++ ws)
names_joined {xs = xs} {ys = ys} {zs = zs} {ws = ws} a b = record {
  counts = λ p. omega (arith, named-append p xs zs, named-append p ys ws, a.counts p, b.counts p);
  below = λ n fs all. each_joined (IsBelow n fs) ys ws (a.below n fs (each_left (IsBelow n fs) xs zs all)) (b.below n fs (each_right (IsBelow n fs) xs zs all));
}

pub names_swapped : (xs ys : List Place) → SameNames (xs ++ ys) (ys ++ xs)
names_swapped xs ys = record {
  counts = λ p. omega (arith, named-append p xs ys, named-append p ys xs);
  below = λ n fs all. each_joined (IsBelow n fs) ys xs (each_right (IsBelow n fs) xs ys all) (each_left (IsBelow n fs) xs ys all);
}

-- the targets of the middle list may come first
pub names_first : (xs ys zs : List Place) → SameNames (xs ++ (ys ++ zs)) (ys ++ (xs ++ zs))
names_first xs ys zs = names_then (names_same (sym (append_assoc xs ys zs))) (names_then (names_joined (names_swapped xs ys) (names_same {xs = zs} refl)) (names_same (append_assoc ys xs zs)))

pub names_counted : (next : ℕ) (fs : List Frozen) {xs ys : List Place} → SameNames xs ys → IsCounted next fs xs → IsCounted next fs ys
names_counted next fs {xs = xs} {ys = ys} same c = counted_by next fs xs ys same.counts (same.below next fs c.named) c

-- ---- defaults point to nothing

abbrev NamesNone : Value → Type 0
NamesNone v = names_in v ≡ []

int_none : (k : ℤ) → NamesNone (Int k)
unfolding names_in names_each
int_none k = refl

get_none : (vs : List Value) (T : ℕ) → AllByRecursion NamesNone vs → NamesNone (get_or vs T (Int (pos 0)))
get_none [] T a = int_none (pos 0)
get_none (v ∷ vs) zero a = a.0
get_none (v ∷ vs) (suc T) a = get_none vs T a.1

fields_none : (before : List Value) (Us : List ℕ) → AllByRecursion NamesNone before → names_each (field_defaults before Us) ≡ []
unfolding names_in names_each
fields_none before [] a = refl
fields_none before (U ∷ Us) a = ap (λ xs. xs ++ names_each (field_defaults before Us)) (get_none before U a) ∙ fields_none before Us a

form_none : (T : ℕ) (before : List Value) (form : Form) → AllByRecursion NamesNone before → NamesNone (default_by T before form)
unfolding names_in names_each
form_none T before Form.i64 a = refl
form_none T before Form.str a = refl
form_none T before (Form.vec U) a = refl
form_none T before (Form.list U) a = refl
form_none T before (Form.flat_map U) a = refl
form_none T before (Form.map U) a = refl
form_none T before (Form.own U) a = refl
form_none T before (Form.struct Us) a = fields_none before Us a
form_none T before (Form.shared U) a = refl

built_none : (before : List Value) (table : Table) → AllByRecursion NamesNone before → AllByRecursion NamesNone (built default_by before table)
built_none before [] a = a
built_none before (form ∷ table) a =
    built_none (before ++ default_by (length before) before form ∷ []) table
    (each_joined NamesNone before (default_by (length before) before form ∷ []) a (form_none (length before) before form a, tt))

pub default_names : (table : Table) (T : ℕ) → names_in (default_of table T) ≡ []
unfolding default_of
default_names table T = get_none (built default_by [] table) T (built_none [] table tt)

pub copies_names : (n : ℕ) (v : Value) → names_in v ≡ [] → names_each (copies n v) ≡ []
unfolding names_in names_each
copies_names zero v none = refl
copies_names (suc n) v none = ap (λ xs. xs ++ names_each (copies n v)) none ∙ copies_names n v none

-- several defaults point to nothing either
pub defaults_none : (n : ℕ) (table : Table) (T : ℕ) → names_each (copies n (default_of table T)) ≡ []
defaults_none n table T = copies_names n (default_of table T) (default_names table T)

-- ---- one of several values

pub names_cons : (v : Value) (vs : Values) → names_each (cons v vs) ≡ names_in v ++ names_each vs
unfolding names_each
names_cons v vs = refl

-- the targets of value i, and the targets of the other values, also if value i is replaced
pub record NthNames (vs : Values) (i : ℕ) (u : Value) : Type 0 where
  pub others : List Place
  pub now : SameNames (names_each vs) (names_in u ++ others)
  pub later : (f : Value → Value) → SameNames (names_in (f u) ++ others) (names_each (change_nth (Some i) f vs))

pub nth_names : (vs : Values) (i : ℕ) (u : Value) → nth vs i ≡ Some u → NthNames vs i u
nth_names nil i u e = cc
nth_names (cons v vs) zero u e =
    let same : v ≡ u = cc in
    subst (NthNames (cons v vs) zero) same (record { others = names_each vs; now = names_same (names_cons v vs); later = λ f. names_same (sym (names_cons (f v) vs)) })
nth_names (cons v vs) (suc i) u e =
    let r = nth_names vs i u e in
    record {
      others = names_in v ++ r.others;
      now = names_then (names_same (names_cons v vs)) (names_then (names_joined (names_same {xs = names_in v} refl) r.now) (names_first (names_in v) (names_in u) r.others));
      later = λ f. names_then (names_first (names_in (f u)) (names_in v) r.others)
          (names_then (names_joined (names_same {xs = names_in v} refl) (r.later f)) (names_same (sym (names_cons v (change_nth (Some i) f vs)))));
    }

-- ---- a value at a path in another

pub record PartNames (whole : Value) (path : List Selector) (v : Value) : Type 0 where
  pub others : List Place
  pub now : SameNames (names_in whole) (names_in v ++ others)
  pub later : (w : Value) → SameNames (names_in w ++ others) (names_in (with_value_at path w whole))

names_node : (label : Label) (vs : Values) (s : Selector) (i : ℕ) → index_of label s ≡ Some i → names_in (node label vs) ≡ names_each vs
unfolding names_in
names_node (Label.int k) vs s i e = refl
names_node (Label.text bytes) vs s i e = refl
names_node Label.seq vs s i e = refl
names_node (Label.map keys) vs s i e = refl
names_node Label.opt vs s i e = refl
names_node Label.struct vs s i e = refl
names_node (Label.shared T p) vs (Selector.item k) i e = cc
names_node (Label.shared T p) vs (Selector.field k) i e = cc
names_node (Label.shared T p) vs (Selector.key k) i e = cc
names_node (Label.shared T p) vs Selector.content i e = cc

pub part_names : (path : List Selector) (whole v : Value) → value_at whole path ≡ Some v → PartNames whole path v
part_names [] whole v e =
    let same : whole ≡ v = cc in
    subst (PartNames whole []) same (record { others = []; now = names_same (sym (append-nil (names_in whole))); later = λ w. names_same (append-nil (names_in w)) })
part_names (s ∷ path) (node label vs) v e = by_index (λ u f. part_names path u v f) (index_of label s) refl e
  where
    by_index : ((u : Value) → value_at u path ≡ Some v → PartNames u path v) → (o : Option ℕ) → index_of label s ≡ o
        → option_and_then (λ u. value_at u path) (option_and_then (λ i. nth vs i) o) ≡ Some v → PartNames (node label vs) (s ∷ path) v
    by_index inner None f e = cc
    by_index inner (Some i) f e = by_value (nth vs i) refl e
      where
        by_value : (o : Option Value) → nth vs i ≡ o → option_and_then (λ u. value_at u path) o ≡ Some v → PartNames (node label vs) (s ∷ path) v
        by_value None g e = cc
        by_value (Some u) g e =
            let n = nth_names vs i u g in
            let r = inner u e in
            let whole = names_node label vs s i f in
            record {
              others = r.others ++ n.others;
              now = names_then (names_same whole) (names_then n.now (names_then (names_joined r.now (names_same {xs = n.others} refl)) (names_same (append_assoc (names_in v) r.others n.others))));
              later = λ w.
                  let changed : change_nth (Some i) (with_value_at path w) vs ≡ change_nth (index_of label s) (with_value_at path w) vs = ap (λ o. change_nth o (with_value_at path w) vs) (sym f) in
                  names_then (names_same (sym (append_assoc (names_in w) r.others n.others)))
                  (names_then (names_joined (r.later w) (names_same {xs = n.others} refl))
                  (names_then (n.later (with_value_at path w)) (names_same (sym (names_node label (change_nth (Some i) (with_value_at path w) vs) s i f) ∙ ap (λ us. names_in (node label us)) changed))));
            }

-- ---- a part of an item of a root

module _ (root : Root) (j : ℕ) (item : Value) (item_is : nth root.values j ≡ Some item) (path : List Selector) (v : Value) (value_is : value_at item path ≡ Some v) where
  the_item : NthNames root.values j item
  the_item = nth_names root.values j item item_is

  the_part : PartNames item path v
  the_part = part_names path item v value_is

  pub beside_part : List Place
  beside_part = the_part.others ++ the_item.others

  pub root_names : SameNames (names_each root.values) (names_in v ++ beside_part)
  unfolding beside_part
  root_names = names_then the_item.now (names_then (names_joined the_part.now (names_same {xs = the_item.others} refl)) (names_same (append_assoc (names_in v) the_part.others the_item.others)))

  pub root_names_then : (w : Value) → SameNames (names_in w ++ beside_part) (names_each (with_item root j (with_value_at path w)).values)
  unfolding beside_part
  root_names_then w = names_then (names_same (sym (append_assoc (names_in w) the_part.others the_item.others)))
      (names_then (names_joined (the_part.later w) (names_same {xs = the_item.others} refl)) (the_item.later (with_value_at path w)))

  -- ---- among the owners of a picture

  module _ (next : ℕ) (picture : Picture) (before after : List Root) (split : owners_in picture ≡ before ++ root ∷ after) (c : AreCounted next picture) where
    pub kept_cells : List Place
    kept_cells = beside_part ++ cells_in (before ++ after)

    pub counted_part : IsCounted next picture.frozen (names_in v ++ kept_cells)
    unfolding kept_cells
    counted_part = names_counted next picture.frozen
        (names_then (names_joined root_names (names_same {xs = cells_in (before ++ after)} refl)) (names_same (append_assoc (names_in v) beside_part (cells_in (before ++ after)))))
        (counted_apart next picture before root after split c)

    -- the cells outside the part, with the cells of its new value
    cells_then : (w : Value) (other : Picture) → owners_in other ≡ before ++ with_item root j (with_value_at path w) ∷ after → SameNames (names_in w ++ kept_cells) (cells_in (owners_in other))
    unfolding kept_cells
    cells_then w other owners =
        let later = with_item root j (with_value_at path w) in
        let rest = cells_in (before ++ after) in
        names_then (names_same (sym (append_assoc (names_in w) beside_part rest)))
        (names_then (names_joined (root_names_then w) (names_same (cells_append before after)))
        (names_then (names_first (names_each later.values) (cells_in before) (cells_in after)) (names_same (sym (ap cells_in owners ∙ cells_append before (later ∷ after))))))

    -- the part releases cells with these targets, and becomes another value
    pub counted_then : (gone : List Place) (w : Value) → SameNames (names_in v) (gone ++ names_in w) → (other : Picture) → owners_in other ≡ before ++ with_item root j (with_value_at path w) ∷ after
        → other.frozen ≡ left gone picture.frozen → AreCounted next other
    unfolding kept_cells
    counted_then gone w same other owners frozen =
        let apart = names_counted next picture.frozen
        (names_then (names_joined same (names_same {xs = kept_cells} refl)) (names_same (append_assoc gone (names_in w) kept_cells))) counted_part in
        let fewer = counted_again next gone (names_in w ++ kept_cells) picture.frozen c.falling apart in
        let cells = cells_then w other owners in
        record {
          counted = subst (λ fs. IsCounted next fs (cells_in (owners_in other))) (sym frozen) (names_counted next (left gone picture.frozen) cells fewer);
          falling = subst IsFalling (sym frozen) (falling_left gone picture.frozen c.falling);
        }

    -- The part becomes another value, whose cells point to existing objects. These cells were
    -- counted first, and then the old targets were released.
    pub counted_shared : (w : Value) → AllByRecursion (IsBelow next picture.frozen) (names_in w) → (other : Picture) → owners_in other ≡ before ++ with_item root j (with_value_at path w) ∷ after
        → other.frozen ≡ left (names_in v) (raised_by (names_in w) picture.frozen) → AreCounted next other
    counted_shared w below other owners frozen =
        let final = left (names_in v) (raised_by (names_in w) picture.frozen) in
        let r = shared_counts next v w kept_cells picture.frozen c.falling counted_part below in
        record {
          counted = subst (λ fs. IsCounted next fs (cells_in (owners_in other))) (sym frozen) (names_counted next final (cells_then w other owners) r.1);
          falling = subst IsFalling (sym frozen) r.0;
        }

    -- the part becomes another value, which points to the same objects
    pub counted_still : (w : Value) → SameNames (names_in v) (names_in w) → (other : Picture) → owners_in other ≡ before ++ with_item root j (with_value_at path w) ∷ after → other.frozen ≡ picture.frozen → AreCounted next other
    counted_still w same other owners frozen = counted_then [] w same other owners (frozen ∙ sym (none_gone picture.frozen c.counted.some))

    -- the part releases cells with these targets, and frozen objects are apart from the root's
    -- blocks
    module _ (bytes : List ℕ) (held : IsHeld bytes picture) where
      abbrev beside_root : OwnerBeside bytes picture held before root after
      beside_root = owner_beside next bytes picture held before root after split c

      pub part_beside : (besides : List ℕ) → ((h : ℕ) → times h besides ≤ times h beside_root.apart.firsts) → (gone kept : List Place) → SameNames (names_in v) (gone ++ kept)
          → SharedBeside bytes picture.table besides (positions_of gone) beside_root.theirs (kept ++ kept_cells) picture.frozen (left gone picture.frozen)
      part_beside besides within gone kept same =
          let b = beside_root.beside in
          record {
            holds = b.holds;
            ownable = b.ownable;
            owned = λ h. omega (arith, within h, b.owned h, times-append h besides (blocks_by beside_root.theirs picture.frozen), times-append h beside_root.apart.firsts (blocks_by beside_root.theirs picture.frozen));
            releasing = record {
              pending = gone;
              pending_are = λ h. refl;
              next = next;
              counted = names_counted next picture.frozen (names_then (names_joined same (names_same {xs = kept_cells} refl)) (names_same (append_assoc gone kept kept_cells))) counted_part;
              falling = c.falling;
              leaves = refl;
            };
          }

-- ---- a call on a place that releases cells or points to other objects

module _ (bytes new : List ℕ) (picture : Picture) (held : IsHeld bytes picture) (which : Listed) (before : List Root) (root : Root) (after : List Root) (among : roots_in picture which ≡ before ++ root ∷ after)
    (j : ℕ) (within : j < count root.values) (path : List Selector) (q : Place) (leads : Leads bytes picture.table (item_of picture.table root j) path q)
    (v w : Value) (olds news : List ℕ) (was : Holds bytes picture.table q v olds) (theirs : ℕ → List ℕ) (final : List Frozen) (holds : HoldFrozen bytes picture.table theirs picture.frozen)
    {spans : List Span} (changes : ChangesPlace bytes new picture.table q w news spans (olds ++ blocks_by theirs picture.frozen) (news ++ blocks_by theirs final)) (holds_then : HoldFrozen new picture.table theirs final) where
  abbrev item_then : Root
  item_then = with_item root j (with_value_at path w)

  abbrev pub picture_then : Picture
  picture_then = record (with_roots picture which (before ++ item_then ∷ after)) { frozen = final }

  abbrev front : List Root
  front = roots_before picture which before

  abbrev back : List Root
  back = owners_after picture which after

  roots_now : roots_of picture ≡ front ++ (root ∷ (back ++ (frozen_roots picture ++ [])))
  roots_now = owners_first picture front root back (owners_are picture which before (root ∷ []) after among)

  roots_then : roots_of picture_then ≡ front ++ (item_then ∷ (back ++ (map root_of_frozen final ++ [])))
  roots_then = owners_first picture_then front item_then back (same_owners ∙ owners_with picture which before (item_then ∷ []) after)
    where
      same_owners : owners_in picture_then ≡ owners_in (with_roots picture which (before ++ item_then ∷ after))
      same_owners = refl

  goes : HoldsRoots bytes picture.table (frozen_roots picture) (blocks_by theirs picture.frozen)
  goes = roots_held bytes picture.table theirs picture.frozen holds

  abbrev apart : StretchesComeApart bytes picture held front (root ∷ []) back (frozen_roots picture) []
  apart = stretches bytes new picture held front back (frozen_roots picture) [] root j path q v w olds news (blocks_by theirs picture.frozen) (blocks_by theirs final) within leads was goes (moves changes) roots_now

  kept : (h : ℕ) → 1 ≤ times h held.index_blocks + times h apart.around → KeepsBlock bytes new h
  kept = beside_kept bytes new picture held front back (frozen_roots picture) [] root j path q v w olds news (blocks_by theirs picture.frozen) (blocks_by theirs final) within leads was goes (moves changes) roots_now

  laid_out_then : IsLaidOut new picture_then held.index_blocks
  laid_out_then =
      laid_out_with new (with_roots picture which (before ++ item_then ∷ after)) held.index_blocks final
      (IsLaidOut-faced new picture held.index_blocks which before root item_then after among (faced root j (with_value_at path w))
      (IsLaidOut-kept bytes new picture held.index_blocks held.laid_out changes.length_kept changes.front_kept changes.back_kept changes.heap changes.ownable
      (each_there (KeepsBlock bytes new) held.index_blocks (λ h some. kept h (omega arith)))))

  pub part_cleared : IsHeld new picture_then
  part_cleared =
      moved_after bytes new picture picture_then held front back (frozen_roots picture) (map root_of_frozen final) [] root j path q v w olds news
      (blocks_by theirs picture.frozen) (blocks_by theirs final) within
      leads was goes (moves changes) (roots_held new picture.table theirs final holds_then) (table_kept picture which (before ++ item_then ∷ after)) laid_out_then roots_now roots_then

  -- the blocks of the other owners are kept
  record OthersKept : Type 0 where
    fronts : List ℕ
    backs : List ℕ
    holds_front : HoldsRoots bytes picture.table front fronts
    holds_back : HoldsRoots bytes picture.table back backs
    are_around : (h : ℕ) → times h fronts + times h backs ≡ times h apart.around

  others_kept : OthersKept
  others_kept =
      let table = picture.table in
      let o = roots_come_apart bytes picture held front (root ∷ []) (back ++ (frozen_roots picture ++ [])) roots_now in
      let s = HoldsRoots-split bytes table back (frozen_roots picture ++ []) o.right o.holds_after in
      let frozen : s.right ≡ apart.seconds = HoldsRoots_blocks-one bytes table (frozen_roots picture) s.right apart.seconds (subst (λ rs. HoldsRoots bytes table rs s.right) (append-nil (frozen_roots picture)) s.rights) apart.holds_second in
      let own : o.its ≡ apart.firsts = HoldsRoots_blocks-one bytes table (root ∷ []) o.its apart.firsts o.holds_them apart.holds_first in
      record {
        fronts = o.left;
        backs = s.left;
        holds_front = o.holds_before;
        holds_back = s.lefts;
        are_around = λ h.
            let all : times h held.root_blocks ≡ times h (o.left ++ (o.its ++ o.right)) = ap (times h) o.blocks_are in
            let right : times h o.right ≡ times h (s.left ++ s.right) = ap (times h) s.blocks_are in
            let frozen_too : times h s.right ≡ times h apart.seconds = ap (times h) frozen in
            let own_too : times h o.its ≡ times h apart.firsts = ap (times h) own in
            omega (arith, all, right, frozen_too, own_too, apart.blocks_are h, times-append h o.left (o.its ++ o.right), times-append h o.its o.right, times-append h s.left s.right);
      }

  -- paths apart from the place still reach the same places
  pub cleared_paths : KeepsPathsBeside bytes new picture.table root j path × AllByRecursion (KeepsPaths bytes new picture.table) (front ++ back)
  cleared_paths =
      let o = others_kept in
      let valid = held.laid_out.is_table in (
        paths_beside bytes new picture held front back (frozen_roots picture) [] root j path q v w olds news (blocks_by theirs picture.frozen) (blocks_by theirs final) within leads was goes (moves changes) roots_now,
        each_root front back
            (roots_paths bytes new picture.table valid o.holds_front (each_there (KeepsBlock bytes new) o.fronts (λ h some. kept h (omega (arith, o.are_around h)))))
            (roots_paths bytes new picture.table valid o.holds_back (each_there (KeepsBlock bytes new) o.backs (λ h some. kept h (omega (arith, o.are_around h))))),
      )
    where
      each_root : (xs ys : List Root) → AllByRecursion (KeepsPaths bytes new picture.table) xs → AllByRecursion (KeepsPaths bytes new picture.table) ys → AllByRecursion (KeepsPaths bytes new picture.table) (xs ++ ys)
      each_root [] ys a b = b
      each_root (x ∷ xs) ys a b = (a.0, each_root xs ys a.1 b)
