-- The values of a root persist if its blocks are kept. If a part of one of its items changes, the other
-- items persist, and so do the surroundings of the part.
use Rattle.std.proofs.Common.{◌≡◌, ℕ, zero, suc, ◌+◌, ◌*◌, ◌<◌, ◌≤◌, inl, inr, List, [], ◌∷◌, ◌++◌, length, replicate, refl, sym, ap, ◌∙◌, subst, arith, sum_by}
use Rattle.std.specs.List.{AllByRecursion}
use Rattle.std.proofs.lemmas.List.{append_assoc}
use Rattle.std.proofs.lemmas.List.Sums.{sum_by-cons}
use Rattle.std.proofs.lemmas.Nat.{mul-le}
use Rattle.std.proofs.Math.Nat.{zero-mul}
use Rattle.seg_spec.specs.Bytes.{IsSame}
use Rattle.seg_spec.specs.Types.{Table, size, IsTable}
use Rattle.seg_spec.specs.Value.{Label, Value, Values, count, Selector}
use Rattle.seg_spec.specs.Heap.{units_at, tag_at, IsHeap, live}
use Rattle.seg_spec.specs.Block.{IsBlock, KeepsBlock, block_of}
use Rattle.seg_spec.specs.Reads.{Place, items, fields, Holds, HoldsEach, Leads}
use Rattle.seg_spec.specs.Parts.{PersistEach}
use Rattle.seg_spec.specs.Apart.{Separate, RangeApart, BlocksApart, KeepsBlockAround}
use Rattle.seg_spec.specs.Index.{Root}
use Rattle.seg_spec.specs.Sound.{words_size, payload_of, HoldsRoot, times, positions}
use Rattle.seg_spec.specs.Roots.{item_of}
use Rattle.seg_spec.proofs.SliceLaws.{IsSame-part}
use Rattle.seg_spec.proofs.Values.PlaceFrameLaws.{SamePlace, each_left, each_right, each_weaker, each_both, payload-same, places-same, spaced-same, PersistEach-kept}
use Rattle.seg_spec.proofs.Values.PartPositionLaws.{Located, LocatedPlace, InFields, fields_in, fields_split}
use Rattle.seg_spec.proofs.Values.PathSplitLaws.{Middle, middle, Split, split}
use Rattle.seg_spec.proofs.Values.OneValueLaws.{Holds-one}
use Rattle.seg_spec.proofs.Values.PutLaws.{apart_append, range_part, clear_of, blocks_clear, between_sym, kept_whole}
use Rattle.seg_spec.proofs.Heap.LiveBlockLaws.{OneOrApart, times-append, times-same, there, each_there, live-apart, live-once, apart_once}
use Rattle.seg_spec.proofs.Images.RootPartLaws.{hole_of, items_nth}
use Rattle.test_definitions.proofs.ValueChanges.AroundPersistLaws.{Surrounds, surrounds_kept}

-- ---- a root whose blocks are kept

module _ (old new : List ℕ) (table : Table) (valid : IsTable table) where
  pub root_persists : (root : Root) (blocks : List ℕ) → AllByRecursion (KeepsBlock old new) blocks → HoldsRoot old table root blocks
      → PersistEach old new table (items table root.at root.type (count root.values)) (items table root.at root.type (count root.values))
  root_persists root blocks ks o =
      let p = payload_of root in
      let kept : AllByRecursion (KeepsBlock old new) (block_of p ∷ o.inside) = subst (AllByRecursion (KeepsBlock old new)) o.blocks_are ks in
      let w = words_size root in
      let n = count root.values * size table root.type in
      let before : w ≤ root.at = o.before in
      let room : IsSame old new p (w + (n + length root.name)) = payload-same old new p _ (w + (n + length root.name)) kept.0 o.block in
      PersistEach-kept old new table valid o.values
      (places-same old new table valid root.type _ (spaced-same old new root.at (size table root.type) (count root.values) (IsSame-part old new p (w + (n + length root.name)) root.at n (omega arith) (omega arith) room))) kept.1

-- allocated blocks don't overlap
pub blocks_apart : (bytes : List ℕ) (allocator : ℕ) → IsHeap allocator bytes → (xs : List ℕ) → ((h : ℕ) → times h xs ≤ times h (positions (live bytes))) → BlocksApart bytes xs
blocks_apart bytes allocator heap xs fewer =
    let all = live-apart bytes allocator heap in
    let bs = positions (live bytes) in
    let here : (h : ℕ) → 1 ≤ times h xs → 1 ≤ times h bs = λ h some. omega (arith, some, fewer h) in
    apart_once bytes xs (each_there (λ t. AllByRecursion (OneOrApart bytes t) xs) xs
    (λ t some. each_there (OneOrApart bytes t) xs (λ h there_is. there (OneOrApart bytes t) h bs (there (λ t. AllByRecursion (OneOrApart bytes t) bs) t bs all (here t some)) (here h there_is))))
    (λ h. omega (arith, fewer h, live-once bytes allocator heap h))

-- ---- items of which one changes

items_fields : (table : Table) (at U n : ℕ) → items table at U n ≡ fields table at (replicate n U)
items_fields table at U zero = refl
items_fields table at U (suc n) = ap (λ ps. record { at = at; type = U } ∷ ps) (items_fields table (at + size table U) U n)

sum_by-replicate : (f : ℕ → ℕ) (n U : ℕ) → sum_by f (replicate n U) ≡ n * f U
sum_by-replicate f zero U = sym (zero-mul (f U))
sum_by-replicate f (suc n) U =
    let rest = sum_by-replicate f n U in
    let first = sum_by-cons f U (replicate n U) in
    let all : suc n * f U ≡ f U + n * f U = grind arith in
    omega arith

apart_without : (old : List ℕ) (l its r : List ℕ) → BlocksApart old (l ++ (its ++ r)) → BlocksApart old (l ++ r)
apart_without old [] its r a = (apart_append old its r a).right
apart_without old (x ∷ l) its r a = (each_without l a.0, apart_without old l its r a.1)
  where
    each_without : (l : List ℕ) → RangeApart old x (16 * units_at old x) (l ++ (its ++ r)) → RangeApart old x (16 * units_at old x) (l ++ r)
    each_without [] a = each_right _ its r a
    each_without (y ∷ l) a = (a.0, each_without l a.1)

each_without : (P : ℕ → Type 0) (l its r : List ℕ) → AllByRecursion P (l ++ (its ++ r)) → AllByRecursion P (l ++ r)
each_without P [] its r a = each_right P its r a
each_without P (x ∷ l) its r a = (a.0, each_without P l its r a.1)

grouped : (ob : ℕ) (xs l r ys : List ℕ) → (ob ∷ (xs ++ l)) ++ (r ++ ys) ≡ ob ∷ (xs ++ ((l ++ r) ++ ys))
grouped ob xs l r ys = simp append_assoc

grouped_around : (ob : ℕ) (xs l its r ys : List ℕ) → ob ∷ (xs ++ ((l ++ (its ++ r)) ++ ys)) ≡ (ob ∷ (xs ++ l)) ++ (its ++ (r ++ ys))
grouped_around ob xs l its r ys = simp append_assoc

-- The values of an array at `object`. An inner place of item j gets another value.
module _ (old : List ℕ) (table : Table) (valid : IsTable table) (object T j : ℕ) (vs : Values) (inside : List ℕ) (values : HoldsEach old table (items table object T (count vs)) vs inside) (within : j < count vs)
    (path : List Selector) (q : Place) (leads : Leads old table (record { at = object + j * size table T; type = T }) path q) where
  abbrev item : Place
  item = record { at = object + j * size table T; type = T }

  mid : Middle old table (items table object T (count vs)) j item vs inside
  mid = middle old table values j (record { at = object + j * size table T; type = T }) (items_nth table object T (count vs) j within)

  cut : Split old table item path q mid.value mid.zs
  cut = split old table leads mid.holds_it

  around : List ℕ
  around = cut.left ++ cut.right

  hole : Located old item.at (size table T) around q.at (size table q.type)
  unfolding around
  hole = hole_of old table valid cut.around

  -- the array's block is kept outside the inner place, and so are the blocks of its values
  module _ (new : List ℕ) (kind front more payload : ℕ) (there : payload + front ≡ object) (block : IsBlock old payload kind (front + (count vs * size table T + more))) (apart : BlocksApart old (block_of payload ∷ inside))
      (kept : AllByRecursion (KeepsBlockAround old new q.at (size table q.type)) (block_of payload ∷ (mid.xs ++ (around ++ mid.ys)))) where
    ob : ℕ
    ob = block_of payload

    zs : List ℕ
    zs = cut.left ++ (cut.its ++ cut.right)

    blocks_are : block_of payload ∷ inside ≡ ob ∷ (mid.xs ++ (zs ++ mid.ys))
    unfolding ob zs
    blocks_are = ap (λ xs. block_of payload ∷ xs) (mid.blocks_are ∙ ap (λ xs. mid.xs ++ (xs ++ mid.ys)) cut.blocks_are)

    all_apart : BlocksApart old (ob ∷ (mid.xs ++ (zs ++ mid.ys)))
    all_apart = subst (λ (xs : List ℕ). BlocksApart old xs) blocks_are apart

    all_kept : AllByRecursion (KeepsBlockAround old new q.at (size table q.type)) (ob ∷ (mid.xs ++ (around ++ mid.ys)))
    unfolding ob
    all_kept = kept

    ob_zs : RangeApart old ob (16 * units_at old ob) (zs ++ mid.ys)
    ob_zs = each_right _ mid.xs (zs ++ mid.ys) all_apart.0

    ob_around : RangeApart old ob (16 * units_at old ob) around
    unfolding around zs
    ob_around = each_without _ cut.left cut.its cut.right (each_left _ zs mid.ys ob_zs)

    in_item : suc j * size table T ≤ count vs * size table T
    in_item = mul-le (suc j) (size table T) (count vs) (size table T) within (omega arith)

    one_more : suc j * size table T ≡ size table T + j * size table T
    one_more = grind arith

    -- a range of the array's bytes lies in its block
    in_array : (f l : ℕ) → payload ≤ f → f + l ≤ object + (count vs * size table T + more) → Located old item.at (size table T) (ob ∷ []) f l
    unfolding ob
    in_array f l low high = inr (block_of payload, inl refl, record { low = omega (arith, block.after_header); high = omega (arith, block.after_header, block.room, there) })

    item_in : LocatedPlace old table item (ob ∷ []) item
    item_in = inl (omega arith, omega arith)

    rest_apart : BlocksApart old around
    unfolding around zs
    rest_apart = apart_without old cut.left cut.its cut.right (apart_append old zs mid.ys (apart_append old mid.xs (zs ++ mid.ys) all_apart.1).right).left

    xs_around : AllByRecursion (λ b. RangeApart old b (16 * units_at old b) around) mid.xs
    unfolding around zs
    xs_around = each_weaker _ _ (λ b r. each_without _ cut.left cut.its cut.right (each_left _ zs mid.ys r)) mid.xs (apart_append old mid.xs (zs ++ mid.ys) all_apart.1).between

    ys_around : AllByRecursion (λ b. RangeApart old b (16 * units_at old b) around) mid.ys
    unfolding around zs
    ys_around =
        between_sym old new table valid q.at (size table q.type) around mid.ys
        (each_without (λ b. RangeApart old b (16 * units_at old b) mid.ys) cut.left cut.its cut.right (apart_append old zs mid.ys (apart_append old mid.xs (zs ++ mid.ys) all_apart.1).right).between)

    item_range : (hs : List ℕ) → RangeApart old ob (16 * units_at old ob) hs → RangeApart old item.at (size table T) hs
    unfolding ob
    item_range hs r =
        let fits = in_item in
        let e = one_more in
        range_part old (block_of payload) (16 * units_at old (block_of payload)) (object + j * size table T) (size table T) hs (omega (arith, block.after_header, there)) (omega (arith, block.after_header, block.room, there)) r

    -- the bytes of the array outside the item are kept
    beside : (f l : ℕ) → payload ≤ f → f + l ≤ object + (count vs * size table T + more) → Separate f l item.at (size table T) → IsSame old new f l
    unfolding ob
    beside f l low high s =
        all_kept.0.payload f l (omega (arith, block.after_header)) (omega (arith, block.after_header, block.room, there))
        (clear_of old new table valid q.at (size table q.type) item (record { label = Label.seq; blocks = ob ∷ []; parts = [] }) item around item_in hole (item_range around ob_around) (ob_around, tt) f l (in_array f l low high) s)

    keeps : (bs : List ℕ) → AllByRecursion (KeepsBlockAround old new q.at (size table q.type)) bs → RangeApart old ob (16 * units_at old ob) bs → AllByRecursion (λ b. RangeApart old b (16 * units_at old b) around) bs
        → AllByRecursion (KeepsBlock old new) bs
    keeps bs ks r s =
        each_both _ _ (KeepsBlock old new) (λ b k c. kept_whole old new table valid q.at (size table q.type) b k c) bs ks
        (blocks_clear old new table valid q.at (size table q.type) item (record { label = Label.seq; blocks = ob ∷ []; parts = [] }) item around item_in hole (item_range around ob_around) (ob_around, tt) bs (item_range bs r) (r, tt) s)

    lefts_kept : AllByRecursion (KeepsBlock old new) mid.xs
    lefts_kept = keeps mid.xs (each_left _ mid.xs (around ++ mid.ys) all_kept.1) (each_left _ mid.xs (zs ++ mid.ys) all_apart.0) xs_around

    rights_kept : AllByRecursion (KeepsBlock old new) mid.ys
    rights_kept = keeps mid.ys (each_right _ around mid.ys (each_right _ mid.xs (around ++ mid.ys) all_kept.1)) (each_right _ zs mid.ys ob_zs) ys_around

    surrounds : Surrounds old new table item path q
    unfolding around zs ob
    surrounds =
        let fits = in_item in
        let e = one_more in
        surrounds_kept old new table valid q.at (size table q.type) cut.around refl refl
        (λ g m low high s. all_kept.0.payload g m (omega (arith, block.after_header)) (omega (arith, block.after_header, block.room, there)) s)
        (each_left _ around mid.ys (each_right _ mid.xs (around ++ mid.ys) all_kept.1)) (item_range around ob_around) rest_apart

    places : fields table object (replicate (count vs) T) ≡ mid.before ++ item ∷ mid.after
    places = sym (items_fields table object T (count vs)) ∙ mid.places_are

    in_fields : AllByRecursion (InFields table object (sum_by (size table) (replicate (count vs) T))) (mid.before ++ item ∷ mid.after)
    in_fields = subst (λ (ps : List Place). AllByRecursion (InFields table object (sum_by (size table) (replicate (count vs) T))) ps) places (fields_in table object (replicate (count vs) T))

    befores : AllByRecursion (SamePlace old new table) mid.before
    befores =
        let total = sum_by-replicate (size table) (count vs) T in
        let parts = fields_split table object (replicate (count vs) T) mid.before item mid.after places in
        each_both _ _ _ (λ r i l. beside r.at (size table r.type) (omega (arith, i.low, there)) (omega (arith, i.high)) (inl l)) mid.before (each_left _ mid.before (item ∷ mid.after) in_fields) parts.below

    afters : AllByRecursion (SamePlace old new table) mid.after
    afters =
        let total = sum_by-replicate (size table) (count vs) T in
        let parts = fields_split table object (replicate (count vs) T) mid.before item mid.after places in
        each_both _ _ _ (λ r i l. beside r.at (size table r.type) (omega (arith, i.low, there)) (omega (arith, i.high)) (inr l)) mid.after (each_right _ mid.before (item ∷ mid.after) in_fields).1 parts.above_it

    -- the other items persist, and so do the surroundings of the part
    record ItemsStay : Type 0 where
      before : List Place
      after : List Place
      places_are : items table object T (count vs) ≡ before ++ record { at = object + j * size table T; type = T } ∷ after
      at_is : length before ≡ j
      before_persist : PersistEach old new table before before
      after_persist : PersistEach old new table after after
      surrounded : Surrounds old new table (record { at = object + j * size table T; type = T }) path q

    items_stay : ItemsStay
    items_stay = record {
      before = mid.before;
      after = mid.after;
      places_are = mid.places_are;
      at_is = mid.at_is;
      before_persist = PersistEach-kept old new table valid mid.lefts befores lefts_kept;
      after_persist = PersistEach-kept old new table valid mid.rights afters rights_kept;
      surrounded = surrounds;
    }

  -- the blocks around the part, of all blocks of the array
  record OfArray (ob : ℕ) (its : List ℕ) : Type 0 where
    left : List ℕ
    right : List ℕ
    blocks_are : ob ∷ inside ≡ left ++ (its ++ right)
    around_are : left ++ right ≡ ob ∷ (mid.xs ++ (around ++ mid.ys))
    first : 1 ≤ times ob left

  of_array : (ob : ℕ) {value : Value} (its : List ℕ) → Holds old table q value its → OfArray ob its
  unfolding around
  of_array ob its h =
      let same : its ≡ cut.its = (Holds-one old table h cut.holds_it).1 in
      record {
        left = ob ∷ (mid.xs ++ cut.left);
        right = cut.right ++ mid.ys;
        blocks_are = ap (λ bs. ob ∷ bs) (mid.blocks_are ∙ ap (λ bs. mid.xs ++ (bs ++ mid.ys)) cut.blocks_are) ∙ grouped_around ob mid.xs cut.left cut.its cut.right mid.ys ∙ ap
            (λ bs. (ob ∷ (mid.xs ++ cut.left)) ++ (bs ++ (cut.right ++ mid.ys))) (sym same);
        around_are = grouped ob mid.xs cut.left cut.right mid.ys;
        first = omega (arith, times-same ob (mid.xs ++ cut.left));
      }

-- ---- a root of which one part changes

-- Item j has a part at `path`, and no other part of the root changes.
pub record RootStays (old new : List ℕ) (table : Table) (root : Root) (j : ℕ) (path : List Selector) (inner : Place) : Type 0 where
  pub before : List Place
  pub after : List Place
  pub places_are : items table root.at root.type (count root.values) ≡ before ++ item_of table root j ∷ after
  pub at_is : length before ≡ j
  pub before_persist : PersistEach old new table before before
  pub after_persist : PersistEach old new table after after
  pub surrounded : Surrounds old new table (item_of table root j) path inner
  pub tag_kept : tag_at new (block_of (payload_of root)) ≡ tag_at old (block_of (payload_of root))

pub root_stays : (old new : List ℕ) (table : Table) (valid : IsTable table) (root : Root) (blocks : List ℕ) → HoldsRoot old table root blocks → BlocksApart old blocks → ((h : ℕ) → times h blocks ≤ 1)
    → (j : ℕ) → j < count root.values → (path : List Selector) (inner : Place) → Leads old table (item_of table root j) path inner → {value : Value} (its : List ℕ) → Holds old table inner value its
    → ((h : ℕ) → 1 ≤ times h blocks → times h its ≡ 0 → KeepsBlockAround old new inner.at (size table inner.type) h) → RootStays old new table root j path inner
root_stays old new table valid root blocks o apart once j within path inner leads its h kept =
    let payload = payload_of root in
    let ob = block_of payload in
    let there_is : payload + words_size root ≡ root.at = (let b = o.before in omega arith) in
    let a = of_array old table valid root.at root.type j root.values o.inside o.values within path inner leads ob its h in
    let all : blocks ≡ a.left ++ (its ++ a.right) = o.blocks_are ∙ a.blocks_are in
    let around_kept : AllByRecursion (KeepsBlockAround old new inner.at (size table inner.type)) (a.left ++ a.right) =
    each_there (KeepsBlockAround old new inner.at (size table inner.type)) (a.left ++ a.right) (λ b some. (
    let x = ap (times b) all ∙ times-append b a.left (its ++ a.right) in
    let y = times-append b its a.right in
    let z = times-append b a.left a.right in
    kept b (omega (arith, some, x, y, z)) (omega (arith, some, x, y, z, once b)))) in
    let s = items_stay old table valid root.at root.type j root.values o.inside o.values within path inner leads new _ (words_size root) (length root.name) payload there_is o.block
    (subst (λ bs. BlocksApart old bs) o.blocks_are apart) (subst (AllByRecursion (KeepsBlockAround old new inner.at (size table inner.type))) a.around_are around_kept) in
    let head : KeepsBlockAround old new inner.at (size table inner.type) ob = (
    let x = ap (times ob) all ∙ times-append ob a.left (its ++ a.right) in
    let y = times-append ob its a.right in
    kept ob (omega (arith, a.first, x, y)) (omega (arith, a.first, x, y, once ob))) in
    record {
      before = s.before;
      after = s.after;
      places_are = s.places_are;
      at_is = s.at_is;
      before_persist = s.before_persist;
      after_persist = s.after_persist;
      surrounded = s.surrounded;
      tag_kept = head.header.has_tag;
    }
