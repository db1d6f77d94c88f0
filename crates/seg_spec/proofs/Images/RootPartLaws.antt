-- A part of an item of a root may become another value.
use Rattle.std.proofs.Common.{◌≡◌, ℕ, zero, suc, ◌+◌, ◌*◌, ◌<◌, ◌≤◌, ◌⊎◌, inl, inr, List, [], ◌∷◌, ◌++◌, length, replicate, Option, Some, None, refl, sym, ap, ◌∙◌, subst, arith, sum_by}
use Rattle.std.specs.Prelude.{slice_get}
use Rattle.std.specs.List.{AllByRecursion}
use Rattle.std.proofs.lemmas.List.{append_assoc}
use Rattle.std.proofs.lemmas.List.Sums.{sum_by-cons}
use Rattle.std.proofs.lemmas.Nat.{mul-le}
use Rattle.std.proofs.Math.Nat.{zero-mul}
use Rattle.seg_spec.specs.Bytes.{IsSame}
use Rattle.seg_spec.specs.Types.{Table, size, IsTable}
use Rattle.seg_spec.specs.Value.{Label, Value, Values, nil, cons, count, nth, append, change_nth, Selector, with_value_at}
use Rattle.seg_spec.specs.Heap.{units_at}
use Rattle.seg_spec.specs.Block.{IsBlock, KeepsBlock, block_of, IsInside}
use Rattle.seg_spec.specs.Reads.{Place, items, fields, Holds, HoldsEach, Leads}
use Rattle.seg_spec.specs.Apart.{Separate, RangeApart, BlocksApart, KeepsBlockAround, GoesOnAfter}
use Rattle.seg_spec.specs.Index.{Root}
use Rattle.seg_spec.specs.Sound.{words_size, payload_of, HoldsRoot, times}
use Rattle.seg_spec.specs.Roots.{item_of, PartComesApart}
use Rattle.seg_spec.proofs.Values.AroundLaws.{Around, around_here, around_in}
use Rattle.seg_spec.proofs.Tables.TypeSizeLaws.{size_large}
use Rattle.seg_spec.proofs.Values.PlaceFrameLaws.{SamePlace, each_left, each_right, each_weaker, each_both, HoldsEach-kept}
use Rattle.seg_spec.proofs.Values.PartPositionLaws.{In, in_left, in_right, Located, LocatedPlace, surround, InFields, fields_in, fields_split, IsBlock-headers}
use Rattle.seg_spec.proofs.Values.PathSplitLaws.{Middle, middle, Split, split, join, each_joined, count_is, nth-append, change_nth-append}
use Rattle.seg_spec.proofs.Heap.LiveBlockLaws.{times-append, times-same, times-more}
use Rattle.seg_spec.proofs.Images.RootFrameLaws.{AreWords-kept}
use Rattle.seg_spec.proofs.Values.PutLaws.{apart_append, between_sym, range_part, clear_of, blocks_clear, kept_whole, AroundStays, around_kept}
use Rattle.seg_spec.proofs.Values.PathFrameLaws.{Leads-each, placed_beside}

-- ---- the place of the part

module _ (old : List ℕ) (table : Table) (valid : IsTable table) where
  part_located : (place : Place) (obs rest : List ℕ) (part : Place) (x n : ℕ) → LocatedPlace old table place obs part → Located old part.at (size table part.type) rest x n → Located old place.at (size table place.type) (obs ++ rest) x n
  part_located place obs rest part x n (inl p) (inl h) = inl (omega (arith, p.0, h.0), omega (arith, p.1, h.1))
  part_located place obs rest part x n (inr p) (inl h) = let i = p.2 in inr (p.0, in_left p.0 obs rest p.1, record { low = omega (arith, i.low, h.0); high = omega (arith, i.high, h.1) })
  part_located place obs rest part x n p (inr h) = inr (h.0, in_right h.0 obs rest h.1, h.2)

  in_grow : (h : ℕ) (os xs ls rs ys : List ℕ) → In h (os ++ (ls ++ rs)) → In h ((os ++ (xs ++ ls)) ++ (rs ++ ys))
  in_grow h [] xs ls rs ys i = go xs i
    where
      both : (ls : List ℕ) → In h (ls ++ rs) → In h (ls ++ (rs ++ ys))
      both [] i = in_left h rs ys i
      both (l ∷ ls) (inl e) = inl e
      both (l ∷ ls) (inr i) = inr (both ls i)

      go : (xs : List ℕ) → In h (ls ++ rs) → In h ((xs ++ ls) ++ (rs ++ ys))
      go [] i = both ls i
      go (x ∷ xs) i = inr (go xs i)
  in_grow h (o ∷ os) xs ls rs ys (inl e) = inl e
  in_grow h (o ∷ os) xs ls rs ys (inr i) = inr (in_grow h os xs ls rs ys i)

  grow : (at n : ℕ) (os xs ls rs ys : List ℕ) (x m : ℕ) → Located old at n (os ++ (ls ++ rs)) x m → Located old at n ((os ++ (xs ++ ls)) ++ (rs ++ ys)) x m
  grow at n os xs ls rs ys x m (inl p) = inl p
  grow at n os xs ls rs ys x m (inr p) = inr (p.0, in_grow p.0 os xs ls rs ys p.1, p.2)

  -- the part at a path lies in the place, or in a block around it
  pub hole_of : {place inner : Place} {path : List Selector} {v : Value} {left right : List ℕ} → Around old table place path inner v left right → Located old place.at (size table place.type) (left ++ right) inner.at (size table inner.type)
  hole_of around_here = inl (omega arith, omega arith)
  hole_of {place = place} {inner = inner} (around_in form opened before after part vs ws u xs ys ls rs f o index parts_are befores afters more v_is left_is right_is) =
      let g = surround old old table valid place form opened f o before part after parts_are in
      rw (left_is, right_is) (grow place.at (size table place.type) opened.blocks xs ls rs ys inner.at (size table inner.type) (part_located place opened.blocks (ls ++ rs) part inner.at (size table inner.type) g.part_in (hole_of more)))

-- ---- items

items_fields : (table : Table) (at U n : ℕ) → items table at U n ≡ fields table at (replicate n U)
items_fields table at U zero = refl
items_fields table at U (suc n) = ap (λ ps. record { at = at; type = U } ∷ ps) (items_fields table (at + size table U) U n)

pub items_nth : (table : Table) (at U n j : ℕ) → j < n → slice_get (items table at U n) j ≡ Some (record { at = at + j * size table U; type = U })
items_nth table at U zero j l = absurd (omega arith)
items_nth table at U (suc n) zero l =
    let e : at + 0 * size table U ≡ at = grind arith in
    ap (λ p. Some (record { at = p; type = U })) (sym e)
items_nth table at U (suc n) (suc j) l =
    let e : at + size table U + j * size table U ≡ at + suc j * size table U = grind arith in
    items_nth table (at + size table U) U n j (omega arith) ∙ ap (λ p. Some (record { at = p; type = U })) e

sum_by-replicate : (f : ℕ → ℕ) (n U : ℕ) → sum_by f (replicate n U) ≡ n * f U
sum_by-replicate f zero U = sym (zero-mul (f U))
sum_by-replicate f (suc n) U =
    let rest = sum_by-replicate f n U in
    let first = sum_by-cons f U (replicate n U) in
    let all : suc n * f U ≡ f U + n * f U = grind arith in
    omega arith

apart_without : (old : List ℕ) (l its r : List ℕ) → BlocksApart old (l ++ (its ++ r)) → BlocksApart old (l ++ r)
apart_without old [] its r a = (apart_append old its r a).right
apart_without old (x ∷ l) its r a = (each_without l a.0, apart_without old l its r a.1)
  where
    each_without : (l : List ℕ) → RangeApart old x (16 * units_at old x) (l ++ (its ++ r)) → RangeApart old x (16 * units_at old x) (l ++ r)
    each_without [] a = each_right _ its r a
    each_without (y ∷ l) a = (a.0, each_without l a.1)

each_without : (P : ℕ → Type 0) (l its r : List ℕ) → AllByRecursion P (l ++ (its ++ r)) → AllByRecursion P (l ++ r)
each_without P [] its r a = each_right P its r a
each_without P (x ∷ l) its r a = (a.0, each_without P l its r a.1)

holds_same : (bytes : List ℕ) (table : Table) (ps ps' : List Place) (us us' : Values) (bs bs' : List ℕ) → HoldsEach bytes table ps us bs → ps' ≡ ps → us' ≡ us → bs' ≡ bs → HoldsEach bytes table ps' us' bs'
holds_same bytes table ps ps' us us' bs bs' h e f g = rw (e, f, g) h

changed_is : (vs left right : Values) (value : Value) (f : Value → Value) (j : ℕ) → vs ≡ append left (cons value right) → j ≡ count left → change_nth (Some j) f vs ≡ append left (cons (f value) right)
changed_is vs left right value f j e i = rw (e, i) (change_nth-append f left right value)

-- The values of an array at `object`, of which `size_is` bytes of its block are used. An inner
-- place of item j gets another value.
module _ (old : List ℕ) (table : Table) (valid : IsTable table) (object T j : ℕ) (vs : Values) (inside : List ℕ) (values : HoldsEach old table (items table object T (count vs)) vs inside) (within : j < count vs)
    (path : List Selector) (q : Place) (leads : Leads old table (record { at = object + j * size table T; type = T }) path q) where
  abbrev pub item : Place
  item = record { at = object + j * size table T; type = T }

  pub mid : Middle old table (items table object T (count vs)) j item vs inside
  mid = middle old table values j (record { at = object + j * size table T; type = T }) (items_nth table object T (count vs) j within)

  pub cut : Split old table item path q mid.value mid.zs
  cut = split old table leads mid.holds_it

  pub around : List ℕ
  around = cut.left ++ cut.right

  hole : Located old item.at (size table T) around q.at (size table q.type)
  unfolding around
  hole = hole_of old table valid cut.around

  -- the array's block is kept outside the inner place, and so are the blocks of its values
  module _ (new : List ℕ) (kind front more payload : ℕ) (there : payload + front ≡ object) (block : IsBlock old payload kind (front + (count vs * size table T + more))) (apart : BlocksApart old (block_of payload ∷ inside))
      (kept : AllByRecursion (KeepsBlockAround old new q.at (size table q.type)) (block_of payload ∷ (mid.xs ++ (around ++ mid.ys)))) where
    ob : ℕ
    ob = block_of payload

    zs : List ℕ
    zs = cut.left ++ (cut.its ++ cut.right)

    blocks_are : block_of payload ∷ inside ≡ ob ∷ (mid.xs ++ (zs ++ mid.ys))
    unfolding ob zs
    blocks_are = ap (λ xs. block_of payload ∷ xs) (mid.blocks_are ∙ ap (λ xs. mid.xs ++ (xs ++ mid.ys)) cut.blocks_are)

    all_apart : BlocksApart old (ob ∷ (mid.xs ++ (zs ++ mid.ys)))
    all_apart = subst (λ (xs : List ℕ). BlocksApart old xs) blocks_are apart

    all_kept : AllByRecursion (KeepsBlockAround old new q.at (size table q.type)) (ob ∷ (mid.xs ++ (around ++ mid.ys)))
    unfolding ob
    all_kept = kept

    ob_zs : RangeApart old ob (16 * units_at old ob) (zs ++ mid.ys)
    ob_zs = each_right _ mid.xs (zs ++ mid.ys) all_apart.0

    ob_around : RangeApart old ob (16 * units_at old ob) around
    unfolding around zs
    ob_around = each_without _ cut.left cut.its cut.right (each_left _ zs mid.ys ob_zs)

    in_item : suc j * size table T ≤ count vs * size table T
    in_item = mul-le (suc j) (size table T) (count vs) (size table T) within (omega arith)

    one_more : suc j * size table T ≡ size table T + j * size table T
    one_more = grind arith

    -- a range of the array's bytes lies in its block
    in_array : (f l : ℕ) → payload ≤ f → f + l ≤ object + (count vs * size table T + more) → Located old item.at (size table T) (ob ∷ []) f l
    unfolding ob
    in_array f l low high = inr (block_of payload, inl refl, record { low = omega (arith, block.after_header); high = omega (arith, block.after_header, block.room, there) })

    item_in : LocatedPlace old table item (ob ∷ []) item
    item_in = inl (omega arith, omega arith)

    rest_apart : BlocksApart old around
    unfolding around zs
    rest_apart = apart_without old cut.left cut.its cut.right (apart_append old zs mid.ys (apart_append old mid.xs (zs ++ mid.ys) all_apart.1).right).left

    xs_around : AllByRecursion (λ b. RangeApart old b (16 * units_at old b) around) mid.xs
    unfolding around zs
    xs_around = each_weaker _ _ (λ b r. each_without _ cut.left cut.its cut.right (each_left _ zs mid.ys r)) mid.xs (apart_append old mid.xs (zs ++ mid.ys) all_apart.1).between

    ys_around : AllByRecursion (λ b. RangeApart old b (16 * units_at old b) around) mid.ys
    unfolding around zs
    ys_around =
        between_sym old new table valid q.at (size table q.type) around mid.ys
        (each_without (λ b. RangeApart old b (16 * units_at old b) mid.ys) cut.left cut.its cut.right (apart_append old zs mid.ys (apart_append old mid.xs (zs ++ mid.ys) all_apart.1).right).between)

    item_range : (hs : List ℕ) → RangeApart old ob (16 * units_at old ob) hs → RangeApart old item.at (size table T) hs
    unfolding ob
    item_range hs r =
        let fits = in_item in
        let e = one_more in
        range_part old (block_of payload) (16 * units_at old (block_of payload)) (object + j * size table T) (size table T) hs (omega (arith, block.after_header, there)) (omega (arith, block.after_header, block.room, there)) r

    -- the bytes of the array outside the item are kept
    beside : (f l : ℕ) → payload ≤ f → f + l ≤ object + (count vs * size table T + more) → Separate f l item.at (size table T) → IsSame old new f l
    unfolding ob
    beside f l low high s =
        all_kept.0.payload f l (omega (arith, block.after_header)) (omega (arith, block.after_header, block.room, there))
        (clear_of old new table valid q.at (size table q.type) item (record { label = Label.seq; blocks = ob ∷ []; parts = [] }) item around item_in hole (item_range around ob_around) (ob_around, tt) f l (in_array f l low high) s)

    pub name_same : IsSame old new (object + count vs * size table T) more
    name_same =
        let fits = in_item in
        let e = one_more in
        beside (object + count vs * size table T) more (omega (arith, there)) (omega arith) (inr (omega arith))

    pub front_same : IsSame old new payload front
    front_same = beside payload front (omega arith) (omega (arith, there)) (inl (omega (arith, there)))

    keeps : (bs : List ℕ) → AllByRecursion (KeepsBlockAround old new q.at (size table q.type)) bs → RangeApart old ob (16 * units_at old ob) bs → AllByRecursion (λ b. RangeApart old b (16 * units_at old b) around) bs
        → AllByRecursion (KeepsBlock old new) bs
    keeps bs ks r s =
        each_both _ _ (KeepsBlock old new) (λ b k c. kept_whole old new table valid q.at (size table q.type) b k c) bs ks
        (blocks_clear old new table valid q.at (size table q.type) item (record { label = Label.seq; blocks = ob ∷ []; parts = [] }) item around item_in hole (item_range around ob_around) (ob_around, tt) bs (item_range bs r) (r, tt) s)

    lefts_kept : AllByRecursion (KeepsBlock old new) mid.xs
    lefts_kept = keeps mid.xs (each_left _ mid.xs (around ++ mid.ys) all_kept.1) (each_left _ mid.xs (zs ++ mid.ys) all_apart.0) xs_around

    rights_kept : AllByRecursion (KeepsBlock old new) mid.ys
    rights_kept = keeps mid.ys (each_right _ around mid.ys (each_right _ mid.xs (around ++ mid.ys) all_kept.1)) (each_right _ zs mid.ys ob_zs) ys_around

    stays : AroundStays old new table valid q.at (size table q.type) item path q mid.value cut.left cut.right
    unfolding around zs ob
    stays =
        let fits = in_item in
        let e = one_more in
        around_kept old new table valid q.at (size table q.type) cut.around refl refl
        (λ g m low high s. all_kept.0.payload g m (omega (arith, block.after_header)) (omega (arith, block.after_header, block.room, there)) s)
        (each_left _ around mid.ys (each_right _ mid.xs (around ++ mid.ys) all_kept.1)) (item_range around ob_around) rest_apart

    places : fields table object (replicate (count vs) T) ≡ mid.before ++ item ∷ mid.after
    places = sym (items_fields table object T (count vs)) ∙ mid.places_are

    in_fields : AllByRecursion (InFields table object (sum_by (size table) (replicate (count vs) T))) (mid.before ++ item ∷ mid.after)
    in_fields = subst (λ (ps : List Place). AllByRecursion (InFields table object (sum_by (size table) (replicate (count vs) T))) ps) places (fields_in table object (replicate (count vs) T))

    befores : AllByRecursion (SamePlace old new table) mid.before
    befores =
        let total = sum_by-replicate (size table) (count vs) T in
        let parts = fields_split table object (replicate (count vs) T) mid.before item mid.after places in
        each_both _ _ _ (λ r i l. beside r.at (size table r.type) (omega (arith, i.low, there)) (omega (arith, i.high)) (inl l)) mid.before (each_left _ mid.before (item ∷ mid.after) in_fields) parts.below

    afters : AllByRecursion (SamePlace old new table) mid.after
    afters =
        let total = sum_by-replicate (size table) (count vs) T in
        let parts = fields_split table object (replicate (count vs) T) mid.before item mid.after places in
        each_both _ _ _ (λ r i l. beside r.at (size table r.type) (omega (arith, i.low, there)) (omega (arith, i.high)) (inr l)) mid.after (each_right _ mid.before (item ∷ mid.after) in_fields).1 parts.above_it

    pub values_changed : (w : Value) (others : List ℕ) → Holds new table q w others → HoldsEach new table (items table object T (count vs)) (change_nth (Some j) (with_value_at path w) vs)
        (mid.xs ++ ((cut.left ++ (others ++ cut.right)) ++ mid.ys))
    values_changed w others holds_w =
        let whole = each_joined new table (HoldsEach-kept old new table valid mid.lefts befores lefts_kept) (join new table stays.around holds_w) (HoldsEach-kept old new table valid mid.rights afters rights_kept) in
        holds_same new table _ _ _ _ _ _ whole mid.places_are (changed_is vs mid.left mid.right mid.value (with_value_at path w) j mid.values_are (sym mid.at_is ∙ count_is old table mid.lefts)) refl

    abbrev item_at : ℕ → Place
    item_at i = record { at = object + i * size table T; type = T }

    pub paths_kept : (i : ℕ) (other : List Selector) (target : Place) → i < count vs → Leads old table (item_at i) other target → ((i ≡ j) × GoesOnAfter path other) ⊎ Leads new table (item_at i) other target
    paths_kept i other target within_it l = go (placed_beside mid.before item mid.after i (item_at i) (ap (λ ps. slice_get ps i) (sym mid.places_are) ∙ items_nth table object T (count vs) i within_it))
      where
        go : (slice_get mid.before i ≡ Some (item_at i)) ⊎ (((i ≡ length mid.before) × (item_at i ≡ item)) ⊎ ((k : ℕ) × (slice_get mid.after k ≡ Some (item_at i))))
            → ((i ≡ j) × GoesOnAfter path other) ⊎ Leads new table (item_at i) other target
        go (inl e) = inr (Leads-each old new table valid (item_at i) i mid.lefts e befores lefts_kept l)
        go (inr (inr e)) = inr (Leads-each old new table valid (item_at i) e.0 mid.rights e.1 afters rights_kept l)
        go (inr (inl e)) = same (stays.beside other target (subst (λ p. Leads old table p other target) e.1 l))
          where
            same : GoesOnAfter path other ⊎ Leads new table item other target → ((i ≡ j) × GoesOnAfter path other) ⊎ Leads new table (item_at i) other target
            same (inl g) = inl (e.0 ∙ mid.at_is, g)
            same (inr k) = inr (subst (λ p. Leads new table p other target) (sym e.1) k)

-- ---- the image

pub count-change_nth : (o : Option ℕ) (f : Value → Value) (vs : Values) → count (change_nth o f vs) ≡ count vs
count-change_nth None f vs = refl
count-change_nth (Some i) f nil = refl
count-change_nth (Some zero) f (cons v vs) = refl
count-change_nth (Some (suc i)) f (cons v vs) = ap suc (count-change_nth (Some i) f vs)

-- ---- the root

grouped : (ob : ℕ) (xs l r ys : List ℕ) → (ob ∷ (xs ++ l)) ++ (r ++ ys) ≡ ob ∷ (xs ++ ((l ++ r) ++ ys))
grouped ob xs l r ys = simp append_assoc

grouped_around : (ob : ℕ) (xs l its r ys : List ℕ) → ob ∷ (xs ++ ((l ++ (its ++ r)) ++ ys)) ≡ (ob ∷ (xs ++ l)) ++ (its ++ (r ++ ys))
grouped_around ob xs l its r ys = simp append_assoc

nth_is : (vs left right : Values) (v : Value) (j : ℕ) → vs ≡ append left (cons v right) → j ≡ count left → nth vs j ≡ Some v
nth_is vs left right v j e i = rw (e, i) (nth-append left right v)

-- ---- the position of the part

in_times : (h : ℕ) (xs : List ℕ) → In h xs → 1 ≤ times h xs
in_times h [] i = absurd i
in_times h (x ∷ xs) (inl e) = subst (λ y. 1 ≤ times y (x ∷ xs)) (sym e) (omega (arith, times-same x xs))
in_times h (x ∷ xs) (inr i) = omega (arith, in_times h xs i, times-more h x xs)

-- the block of a range that lies in a place of the block `ob`, or in one of the other blocks
record Home (old : List ℕ) (ob : ℕ) (blocks : List ℕ) (f l : ℕ) : Type 0 where
  home : ℕ
  home_is : In home (ob ∷ blocks)
  lies_in : IsInside old home f l

home_of : (old : List ℕ) (at n : ℕ) (blocks : List ℕ) (f l ob : ℕ) → Located old at n blocks f l → ob + 16 ≤ at → at + n ≤ ob + 16 * units_at old ob → Home old ob blocks f l
home_of old at n blocks f l ob (inl p) low high = record { home = ob; home_is = inl refl; lies_in = record { low = omega (arith, p.0); high = omega (arith, p.1) } }
home_of old at n blocks f l ob (inr p) low high = let i = p.2 in record { home = p.0; home_is = inr p.1; lies_in = record { low = i.low; high = i.high } }

times_around : (h ob : ℕ) (xs l r ys : List ℕ) → In h (ob ∷ (l ++ r)) → 1 ≤ times h ((ob ∷ (xs ++ l)) ++ (r ++ ys))
times_around h ob xs l r ys i =
    let all = in_times h (ob ∷ (l ++ r)) i in
    let a = times-append h l r in
    let b = times-append h (ob ∷ (xs ++ l)) (r ++ ys) in
    let c = times-append h xs l in
    let d = times-append h r ys in
    omega arith

abbrev pub PartKept : List ℕ → List ℕ → Table → Place → List ℕ → Type 0
PartKept old new table inner blocks = AllByRecursion (KeepsBlockAround old new inner.at (size table inner.type)) blocks

pub part_comes_apart : (old : List ℕ) (table : Table) (valid : IsTable table) (root : Root) (blocks : List ℕ)
    (o : HoldsRoot old table root blocks) (apart : BlocksApart old blocks) (j : ℕ) (within : j < count root.values) (path : List Selector) (inner : Place)
    (leads : Leads old table (item_of table root j) path inner)
    → PartComesApart old table root blocks j path inner
unfolding around
part_comes_apart old table valid root blocks o apart j within path inner leads =
    let m = mid old table valid root.at root.type j root.values o.inside o.values within path inner leads in
    let c = cut old table valid root.at root.type j root.values o.inside o.values within path inner leads in
    let payload = payload_of root in
    let ob = block_of payload in
    let there : payload + words_size root ≡ root.at = let b = o.before in omega arith in
    let fits : suc j * size table root.type ≤ count root.values * size table root.type = mul-le (suc j) (size table root.type) (count root.values) (size table root.type) within (omega arith) in
    let one : suc j * size table root.type ≡ size table root.type + j * size table root.type = grind arith in
    let large = size_large table valid root.type in
    let low : 16 ≤ payload = o.block.after_header in
    let room = o.block.room in
    let home = home_of old (root.at + j * size table root.type) (size table root.type) (c.left ++ c.right) inner.at (size table inner.type) ob
    (hole old table valid root.at root.type j root.values o.inside o.values within path inner leads) (omega arith) (omega arith) in
    let apart' : BlocksApart old (ob ∷ o.inside) = subst (λ bs. BlocksApart old bs) o.blocks_are apart in
    record {
      item = m.value;
      item_is = nth_is root.values m.left m.right m.value j m.values_are (sym m.at_is ∙ count_is old table m.lefts);
      value = c.value;
      value_is = c.value_is;
      left = ob ∷ (m.xs ++ c.left);
      its = c.its;
      right = c.right ++ m.ys;
      blocks_are = o.blocks_are ∙ ap (λ bs. ob ∷ bs) (m.blocks_are ∙ ap (λ bs. m.xs ++ (bs ++ m.ys)) c.blocks_are) ∙ grouped_around ob m.xs c.left c.its c.right m.ys;
      holds_it = c.holds_it;
      home = home.home;
      home_is = times_around home.home ob m.xs c.left c.right m.ys home.home_is;
      lies_in = home.lies_in;
      paths = λ new kept.
          let kept' = subst (λ bs. PartKept old new table inner bs) (grouped ob m.xs c.left c.right m.ys) kept in
          paths_kept old table valid root.at root.type j root.values o.inside o.values within path inner leads new _ (words_size root) (length root.name) payload there o.block apart' kept';
      becomes = λ new w others kept holds.
          let kept' = subst (λ bs. PartKept old new table inner bs) (grouped ob m.xs c.left c.right m.ys) kept in
          let counts = count-change_nth (Some j) (with_value_at path w) root.values in
          record {
            before = o.before;
            block = rw counts (IsBlock-headers old new payload _ _ kept.0.header o.block);
            words_are = AreWords-kept old new root.words payload
                (front_same old table valid root.at root.type j root.values o.inside o.values within path inner leads new _ (words_size root) (length root.name) payload there o.block apart' kept') o.words_are;
            name_is = rw counts (name_same old table valid root.at root.type j root.values o.inside o.values within path inner leads new _ (words_size root) (length root.name) payload there o.block apart' kept' ∙ o.name_is);
            inside = m.xs ++ ((c.left ++ (others ++ c.right)) ++ m.ys);
            values = rw counts (values_changed old table valid root.at root.type j root.values o.inside o.values within path inner leads new _ (words_size root) (length root.name) payload there o.block apart' kept' w others holds);
            blocks_are = sym (grouped_around ob m.xs c.left others c.right m.ys);
          };
    }
