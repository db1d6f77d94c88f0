-- If everything outside one place inside a value is kept, the value changes only at that place.
use Rattle.std.proofs.Common.{◌≡◌, ℕ, ◌+◌, ◌*◌, ◌≤◌, ◌⊎◌, inl, inr, List, [], ◌∷◌, ◌++◌, length, Some, refl, sym, ap, ◌∙◌, subst, arith}
use Rattle.std.specs.Prelude.{slice_get}
use Rattle.std.specs.List.{AllByRecursion}
use Rattle.std.proofs.lemmas.List.{append_assoc}
use Rattle.seg_spec.specs.Bytes.{IsSame}
use Rattle.seg_spec.specs.Types.{Form, Table, form_at, size, IsTable}
use Rattle.seg_spec.specs.Value.{Value, Values, Selector, index_of}
use Rattle.seg_spec.specs.Heap.{units_at}
use Rattle.seg_spec.specs.Block.{KeepsHeader, KeepsBlock, payload_size}
use Rattle.seg_spec.specs.Apart.{Separate, RangeApart, BlocksApart, KeptAround, KeepsBlockAround, GoesOnAfter, ComesApart}
use Rattle.seg_spec.specs.Reads.{Place, Opened, Opens, Holds, HoldsEach, Leads, here, into}
use Rattle.seg_spec.proofs.Values.AroundLaws.{Around, around_here, around_in}
use Rattle.seg_spec.proofs.Values.PlaceFrameLaws.{SamePlace, each_left, each_right, each_weaker, each_both, HoldsEach-kept}
use Rattle.seg_spec.proofs.Values.PartPositionLaws.{separate_sym, separate_parts, In, in_each, in_left, in_right, Located, located_apart, LocatedPlace, surround}
use Rattle.seg_spec.proofs.Values.OneValueLaws.{Opens-one}
use Rattle.seg_spec.proofs.Values.PathFrameLaws.{Leads-each, same_selector, placed_beside}
use Rattle.seg_spec.proofs.Values.PathSplitLaws.{split, join}

module _ (old : List ℕ) where
  -- of blocks that don't overlap, two parts of the list don't overlap each other
  pub record ApartParts (xs ys : List ℕ) : Type 0 where
    pub left : BlocksApart old xs
    pub right : BlocksApart old ys
    pub between : AllByRecursion (λ h. RangeApart old h (16 * units_at old h) ys) xs

  pub apart_append : (xs ys : List ℕ) → BlocksApart old (xs ++ ys) → ApartParts xs ys
  apart_append [] ys a = record { left = tt; right = a; between = tt }
  apart_append (x ∷ xs) ys a =
      let r = apart_append xs ys a.1 in
      record {
        left = (each_left _ xs ys a.0, r.left);
        right = r.right;
        between = (each_right _ xs ys a.0, r.between);
      }

  pub range_part : (f l g m : ℕ) (hs : List ℕ) → f ≤ g → g + m ≤ f + l → RangeApart old f l hs → RangeApart old g m hs
  range_part f l g m hs low high a = each_weaker _ _ (λ h s. separate_parts f l h (16 * units_at old h) g m h (16 * units_at old h) low high (omega arith) (omega arith) s) hs a

  pub located_range : (at n : ℕ) (blocks : List ℕ) (f l : ℕ) (hs : List ℕ) → Located old at n blocks f l → RangeApart old at n hs → AllByRecursion (λ h. RangeApart old h (16 * units_at old h) hs) blocks → RangeApart old f l hs
  located_range at n blocks f l hs (inl p) a b = range_part at n f l hs p.0 p.1 a
  located_range at n blocks f l hs (inr p) a b =
      let i = p.2 in
      range_part p.0 (16 * units_at old p.0) f l hs (omega (arith, i.low)) i.high (in_each _ p.0 blocks p.1 b)

module _ (old new : List ℕ) (table : Table) (valid : IsTable table) (x n : ℕ) where
  -- a range is kept except for the hole
  abbrev KeptRange : ℕ → ℕ → Type 0
  KeptRange f l = KeptAround old new x n f l

  abbrev IsKept : ℕ → Type 0
  IsKept h = KeepsBlockAround old new x n h

  kept_part : (f l g m : ℕ) → f ≤ g → g + m ≤ f + l → KeptRange f l → KeptRange g m
  kept_part f l g m low high k = λ a b low' high' s. k a b (omega arith) (omega arith) s

  kept_located : (at size : ℕ) (blocks : List ℕ) (f l : ℕ) → Located old at size blocks f l → KeptRange at size → AllByRecursion IsKept blocks → KeptRange f l
  kept_located at size blocks f l (inl p) k ks = kept_part at size f l p.0 p.1 k
  kept_located at size blocks f l (inr p) k ks =
      let i = p.2 in
      let b = in_each IsKept p.0 blocks p.1 ks in
      kept_part (p.0 + 16) (payload_size old p.0) f l i.low (omega (arith, i.high)) b.payload

  pub kept_whole : (h : ℕ) → IsKept h → Separate h (16 * units_at old h) x n → KeepsBlock old new h
  kept_whole h k s = record {
    live = k.header.live;
    has_tag = k.header.has_tag;
    room = k.header.room;
    payload = k.payload (h + 16) (payload_size old h) (omega arith) (omega arith) (separate_parts h (16 * units_at old h) x n (h + 16) (payload_size old h) x n (omega arith) (omega (arith, k.solid)) (omega arith) (omega arith) s);
  }

  -- The hole lies in one part of a place, or in a block that the part owns. It doesn't overlap
  -- anything around the part.
  module _ (place : Place) (opened : Opened) (part : Place) (rest : List ℕ)
      (part_in : LocatedPlace old table place opened.blocks part)
      (hole : Located old part.at (size table part.type) rest x n)
      (place_rest : RangeApart old place.at (size table place.type) rest)
      (blocks_rest : AllByRecursion (λ h. RangeApart old h (16 * units_at old h) rest) opened.blocks) where
    hole_in : Located old place.at (size table place.type) (opened.blocks ++ rest) x n
    hole_in = go hole part_in
      where
        go : Located old part.at (size table part.type) rest x n → LocatedPlace old table place opened.blocks part → Located old place.at (size table place.type) (opened.blocks ++ rest) x n
        go (inl h) (inl p) = inl (omega (arith, p.0, h.0), omega (arith, p.1, h.1))
        go (inl h) (inr p) = let i = p.2 in inr (p.0, in_left p.0 opened.blocks rest p.1, record { low = omega (arith, i.low, h.0); high = omega (arith, i.high, h.1) })
        go (inr h) p = inr (h.0, in_right h.0 opened.blocks rest h.1, h.2)

    -- a range outside the part doesn't overlap the hole
    pub clear_of : (f l : ℕ) → Located old place.at (size table place.type) opened.blocks f l → Separate f l part.at (size table part.type) → Separate f l x n
    clear_of f l i s = go hole
      where
        go : Located old part.at (size table part.type) rest x n → Separate f l x n
        go (inl h) = separate_parts f l part.at (size table part.type) f l x n (omega arith) (omega arith) h.0 h.1 s
        go (inr h) =
            let b = h.2 in
            let apart = located_apart old place.at (size table place.type) opened.blocks f l h.0 (16 * units_at old h.0) i (in_each _ h.0 rest h.1 place_rest) (each_weaker _ _ (λ g r. in_each _ h.0 rest h.1 r) opened.blocks blocks_rest) in
            separate_parts f l h.0 (16 * units_at old h.0) f l x n (omega arith) (omega arith) (omega (arith, b.low)) b.high apart

    -- the blocks of other parts don't overlap the place's own blocks
    pub blocks_clear : (zs : List ℕ) → RangeApart old place.at (size table place.type) zs → AllByRecursion (λ h. RangeApart old h (16 * units_at old h) zs) opened.blocks
        → AllByRecursion (λ h. RangeApart old h (16 * units_at old h) rest) zs → AllByRecursion (λ h. Separate h (16 * units_at old h) x n) zs
    blocks_clear zs a b c = go hole
      where
        go : Located old part.at (size table part.type) rest x n → AllByRecursion (λ h. Separate h (16 * units_at old h) x n) zs
        go (inl p) =
            each_weaker _ _ (λ h s. separate_sym x n h (16 * units_at old h) (separate_parts part.at (size table part.type) h (16 * units_at old h) x n h (16 * units_at old h) p.0 p.1 (omega arith) (omega arith) s)) zs
            (located_range old place.at (size table place.type) opened.blocks part.at (size table part.type) zs part_in a b)
        go (inr p) =
            let i = p.2 in
            each_weaker _ _ (λ h r. separate_parts h (16 * units_at old h) p.0 (16 * units_at old p.0) h (16 * units_at old h) x n (omega arith) (omega arith) (omega (arith, i.low)) i.high (in_each _ p.0 rest p.1 r)) zs c

  in_grow : (h : ℕ) (os xs rest ys : List ℕ) → In h (os ++ rest) → In h (os ++ (xs ++ (rest ++ ys)))
  in_grow h [] xs rest ys i = in_right h xs (rest ++ ys) (in_left h rest ys i)
  in_grow h (o ∷ os) xs rest ys (inl e) = inl e
  in_grow h (o ∷ os) xs rest ys (inr i) = inr (in_grow h os xs rest ys i)

  located_grow : (at size : ℕ) (os xs rest ys : List ℕ) → Located old at size (os ++ rest) x n → Located old at size (os ++ (xs ++ (rest ++ ys))) x n
  located_grow at size os xs rest ys (inl p) = inl p
  located_grow at size os xs rest ys (inr p) = inr (p.0, in_grow p.0 os xs rest ys p.1, p.2)

  pub between_sym : (xs ys : List ℕ) → AllByRecursion (λ h. RangeApart old h (16 * units_at old h) ys) xs → AllByRecursion (λ h. RangeApart old h (16 * units_at old h) xs) ys
  between_sym xs [] a = tt
  between_sym xs (y ∷ ys) a = (each_weaker _ _ (λ h r. separate_sym h (16 * units_at old h) y (16 * units_at old y) r.0) xs a, between_sym xs ys (each_weaker _ _ (λ h r. r.1) xs a))

  -- the blocks around the part, grouped in another way
  grouped : (os xs ls rs ys left right : List ℕ) → left ≡ os ++ (xs ++ ls) → right ≡ rs ++ ys → left ++ right ≡ os ++ (xs ++ ((ls ++ rs) ++ ys))
  grouped os xs ls rs ys left right l r = rw (l, r) (simp append_assoc)

  -- ---- the surroundings stay

  pub record AroundStays (place : Place) (path : List Selector) (inner : Place) (v : Value) (left right : List ℕ) : Type 0 where
    pub around : Around new table place path inner v left right
    pub hole : Located old place.at (size table place.type) (left ++ right) x n
    -- each path still reaches its place, unless it continues after the path to the hole
    pub beside : (other : List Selector) (target : Place) → Leads old table place other target → GoesOnAfter path other ⊎ Leads new table place other target

  after_here : (place : Place) (other : List Selector) (target : Place) → Leads old table place other target → GoesOnAfter [] other ⊎ Leads new table place other target
  after_here place [] target here = inr here
  after_here place (s ∷ more) target l = inl (s, more, refl)

  after_more : (s t : Selector) (path other : List Selector) → s ≡ t → GoesOnAfter path other → GoesOnAfter (s ∷ path) (t ∷ other)
  after_more s t path other e g = (g.0, g.1, ap (λ r. r ∷ other) (sym e) ∙ ap (λ zs. s ∷ zs) g.2)

  -- a path into a place that has the hole in one part
  beside_part : {place : Place} {vs ws : Values} {xs ys : List ℕ} (s : Selector) (path : List Selector) (form : Form) (opened : Opened) (before after : List Place) (part : Place)
      → form_at table place.type ≡ Some form → Opens old table place form opened → Opens new table place form opened → index_of opened.label s ≡ Some (length before) → opened.parts ≡ before ++ part ∷ after
      → HoldsEach old table before vs xs → HoldsEach old table after ws ys → AllByRecursion (SamePlace old new table) before → AllByRecursion (SamePlace old new table) after
      → AllByRecursion (KeepsBlock old new) xs → AllByRecursion (KeepsBlock old new) ys
      → ((other : List Selector) (target : Place) → Leads old table part other target → GoesOnAfter path other ⊎ Leads new table part other target)
      → (other : List Selector) (target : Place) → Leads old table place other target → GoesOnAfter (s ∷ path) other ⊎ Leads new table place other target
  beside_part s path form opened before after part f o opens index parts_are befores afters before_same after_same keeps_xs keeps_ys deep [] target here = inr here
  beside_part {place = place} s path form opened before after part f o opens index parts_are befores afters before_same after_same keeps_xs keeps_ys deep (t ∷ more) target (into form' opened' i inner f' o' at part_is rest) =
      let forms : form' ≡ form = cc in
      let same : opened' ≡ opened = Opens-one old table place form opened' opened (rw forms at o') o in
      let at' : index_of opened.label t ≡ Some i = ap (λ (w : Opened). index_of w.label t) (sym same) ∙ at in
      let is : slice_get opened.parts i ≡ Some inner = ap (λ (w : Opened). slice_get w.parts i) (sym same) ∙ part_is in
      go at' is (placed_beside before part after i inner (ap (λ ps. slice_get ps i) (sym parts_are) ∙ is))
    where
      go : index_of opened.label t ≡ Some i → slice_get opened.parts i ≡ Some inner → (slice_get before i ≡ Some inner) ⊎ (((i ≡ length before) × (inner ≡ part)) ⊎ ((k : ℕ) × (slice_get after k ≡ Some inner)))
          → GoesOnAfter (s ∷ path) (t ∷ more) ⊎ Leads new table place (t ∷ more) target
      go at' is (inl e) = inr (into form opened i inner f opens at' is (Leads-each old new table valid inner i befores e before_same keeps_xs rest))
      go at' is (inr (inr e)) = inr (into form opened i inner f opens at' is (Leads-each old new table valid inner e.0 afters e.1 after_same keeps_ys rest))
      go at' is (inr (inl e)) = ends (deep more target (subst (λ q. Leads old table q more target) e.1 rest))
        where
          ends : GoesOnAfter path more ⊎ Leads new table part more target → GoesOnAfter (s ∷ path) (t ∷ more) ⊎ Leads new table place (t ∷ more) target
          ends (inl g) = inl (after_more s t path more (same_selector opened.label s t i (index ∙ ap Some (sym e.0)) at') g)
          ends (inr l) = inr (into form opened i inner f opens at' is (subst (λ q. Leads new table q more target) (sym e.1) l))

  pub around_kept : {place inner : Place} {path : List Selector} {v : Value} {left right : List ℕ} → Around old table place path inner v left right → inner.at ≡ x → size table inner.type ≡ n
      → KeptRange place.at (size table place.type) → AllByRecursion IsKept (left ++ right) → RangeApart old place.at (size table place.type) (left ++ right) → BlocksApart old (left ++ right)
      → AroundStays place path inner v left right
  around_kept around_here at_is size_is k ks p b = record { around = around_here; hole = inl (omega (arith, at_is), omega (arith, at_is, size_is)); beside = after_here _ }
  around_kept {place = place} {left = left} {right = right} (around_in form opened before after part vs ws u xs ys ls rs f o index parts_are befores afters more v_is left_is right_is) at_is size_is k ks p b =
      let rest = ls ++ rs in
      let all = grouped opened.blocks xs ls rs ys left right left_is right_is in
      let ks' = rw all at ks in
      let p' = rw all at p in
      let b' = rw all at b in
      let g = surround old new table valid place form opened f o before part after parts_are in
      let own = each_left _ opened.blocks (xs ++ (rest ++ ys)) ks' in
      let others = each_right _ opened.blocks (xs ++ (rest ++ ys)) ks' in
      let ks_xs = each_left _ xs (rest ++ ys) others in
      let ks_rest = each_left _ rest ys (each_right _ xs (rest ++ ys) others) in
      let ks_ys = each_right _ rest ys (each_right _ xs (rest ++ ys) others) in
      let p_own = each_left _ opened.blocks (xs ++ (rest ++ ys)) p' in
      let p_others = each_right _ opened.blocks (xs ++ (rest ++ ys)) p' in
      let p_xs = each_left _ xs (rest ++ ys) p_others in
      let p_rest = each_left _ rest ys (each_right _ xs (rest ++ ys) p_others) in
      let p_ys = each_right _ rest ys (each_right _ xs (rest ++ ys) p_others) in
      let b1 = apart_append old opened.blocks (xs ++ (rest ++ ys)) b' in
      let b2 = apart_append old xs (rest ++ ys) b1.right in
      let b3 = apart_append old rest ys b2.right in
      let own_xs = each_weaker _ _ (λ h r. each_left _ xs (rest ++ ys) r) opened.blocks b1.between in
      let own_rest = each_weaker _ _ (λ h r. each_left _ rest ys (each_right _ xs (rest ++ ys) r)) opened.blocks b1.between in
      let own_ys = each_weaker _ _ (λ h r. each_right _ rest ys (each_right _ xs (rest ++ ys) r)) opened.blocks b1.between in
      let xs_rest = each_weaker _ _ (λ h r. each_left _ rest ys r) xs b2.between in
      let part_k = kept_located place.at (size table place.type) opened.blocks part.at (size table part.type) g.part_in k own in
      let part_p = located_range old place.at (size table place.type) opened.blocks part.at (size table part.type) rest g.part_in p_rest own_rest in
      let deep = around_kept more at_is size_is part_k ks_rest part_p b3.left in
      let clears = g.clears p_own b1.left in
      let free = clear_of place opened part rest g.part_in deep.hole p_rest own_rest in
      let same = λ (f l : ℕ) (i : Located old place.at (size table place.type) opened.blocks f l) (s : Separate f l part.at (size table part.type)). kept_located place.at (size table place.type) opened.blocks f l i k own f l
      (omega arith) (omega arith) (free f l i s) in
      let reads_same : AllByRecursion (λ (r : ℕ × ℕ). IsSame old new r.0 r.1) g.reads = each_both _ _ _ (λ r i s. same r.0 r.1 i s) g.reads g.reads_in clears.reads_clear in
      let opens = g.opens reads_same (each_weaker IsKept (KeepsHeader old new) (λ h b. b.header) opened.blocks own) in
      let before_same : AllByRecursion (SamePlace old new table) before = each_both _ _ _ (λ q i s. same q.at (size table q.type) i s) before g.before_in clears.before_clear in
      let after_same : AllByRecursion (SamePlace old new table) after = each_both _ _ _ (λ q i s. same q.at (size table q.type) i s) after g.after_in clears.after_clear in
      let keeps_xs : AllByRecursion (KeepsBlock old new) xs = each_both IsKept _ (KeepsBlock old new) (λ h b s. kept_whole h b s) xs ks_xs (blocks_clear place opened part rest g.part_in deep.hole p_rest own_rest xs p_xs own_xs xs_rest) in
      let keeps_ys : AllByRecursion (KeepsBlock old new) ys = each_both IsKept _ (KeepsBlock old new) (λ h b s. kept_whole h b s) ys ks_ys
      (blocks_clear place opened part rest g.part_in deep.hole p_rest own_rest ys p_ys own_ys (between_sym rest ys b3.between)) in
      record {
        around = around_in form opened before after part vs ws u xs ys ls rs f opens index parts_are (HoldsEach-kept old new table valid befores before_same keeps_xs)
            (HoldsEach-kept old new table valid afters after_same keeps_ys) deep.around v_is left_is right_is;
        beside = beside_part _ _ form opened before after part f o opens index parts_are befores afters before_same after_same keeps_xs keeps_ys deep.beside;
        hole = rw all (located_grow place.at (size table place.type) opened.blocks xs rest ys (hole_in place opened part rest g.part_in deep.hole p_rest own_rest));
      }

pub comes_apart : (old : List ℕ) (table : Table) → IsTable table → {place inner : Place} {path : List Selector} {v : Value} {blocks : List ℕ} → Leads old table place path inner → Holds old table place v blocks
    → ComesApart old table place path inner v blocks
comes_apart old table valid {inner = inner} leads h =
    let s = split old table leads h in
    record {
      value = s.value;
      value_is = s.value_is;
      its = s.its;
      left = s.left;
      right = s.right;
      holds_it = s.holds_it;
      blocks_are = s.blocks_are;
      paths = λ new k ks p b. (around_kept old new table valid inner.at (size table inner.type) s.around refl refl k ks p b).beside;
      becomes = λ new w others k ks p b u. join new table (around_kept old new table valid inner.at (size table inner.type) s.around refl refl k ks p b).around u;
    }
