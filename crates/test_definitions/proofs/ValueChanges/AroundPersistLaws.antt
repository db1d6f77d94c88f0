-- If everything around a place is kept, all places around it open as before, and what is in them
-- persists. So places are alike if the part in them is alike that an instruction changes.
use Rattle.std.proofs.Common.{◌≡◌, ℕ, ◌+◌, ◌≤◌, inl, inr, List, [], ◌∷◌, ◌++◌, length, Some, refl, sym, ap, ◌∙◌, subst, arith}
use Rattle.std.specs.List.{AllByRecursion}
use Rattle.std.specs.Prelude.{slice_get}
use Rattle.std.proofs.lemmas.List.{append_assoc}
use Rattle.seg_spec.specs.Bytes.{IsSame}
use Rattle.seg_spec.specs.Types.{Form, Table, form_at, size, IsTable}
use Rattle.seg_spec.specs.Value.{Value, Values, Selector, index_of}
use Rattle.seg_spec.specs.Value as values
use Rattle.seg_spec.specs.Block.{KeepsHeader, KeepsBlock, payload_size}
use Rattle.seg_spec.specs.Apart.{Separate, RangeApart, BlocksApart, KeptAround, KeepsBlockAround}
use Rattle.seg_spec.specs.Reads.{Place, Opened, Opens, Holds, holds, HoldsEach, holds_none, holds_more, Leads, here, into}
use Rattle.seg_spec.specs.Parts.{PersistEach}
use Rattle.seg_spec.proofs.Values.AroundLaws.{Around, around_here, around_in}
use Rattle.seg_spec.proofs.Values.PlaceFrameLaws.{SamePlace, each_left, each_right, each_weaker, each_both, PersistEach-kept}
use Rattle.seg_spec.proofs.Values.PartPositionLaws.{in_each, Located, surround}
use Rattle.seg_spec.proofs.Values.OneValueLaws.{Opens-one}
use Rattle.seg_spec.proofs.Values.PutLaws.{apart_append, located_range, kept_whole, clear_of, blocks_clear, between_sym, around_kept}
use Rattle.test_definitions.specs.Alike.{AlikeAt, opens_alike, AlikeEach, none_alike, more_alike}
use Rattle.test_definitions.proofs.ValueChanges.AlikePlaceLaws.{open_alike}
use Rattle.test_definitions.proofs.ValueChanges.PersistAlikeLaws.{Fits, open_as_one, persist_each_alike}

-- A path ends at `inner`. All places on the path open as before, and the parts beside the path persist.
pub data Surrounds (old new : List ℕ) (table : Table) : Place → List Selector → Place → Type 0 where
  surrounds_here : {place : Place} → Surrounds old new table place [] place
  surrounds_in : {place inner : Place} {s : Selector} {path : List Selector} (form : Form) (opened : Opened) (before after : List Place) (part : Place) → form_at table place.type ≡ Some form
      → Opens old table place form opened → Opens new table place form opened → index_of opened.label s ≡ Some (length before) → opened.parts ≡ before ++ part ∷ after
      → PersistEach old new table before before → PersistEach old new table after after → Surrounds old new table part path inner → Surrounds old new table place (s ∷ path) inner

module _ (old new : List ℕ) (table : Table) (valid : IsTable table) (x n : ℕ) where
  abbrev IsKept : ℕ → Type 0
  IsKept h = KeepsBlockAround old new x n h

  kept_part : (f l g m : ℕ) → f ≤ g → g + m ≤ f + l → KeptAround old new x n f l → KeptAround old new x n g m
  kept_part f l g m low high k = λ a b low' high' s. k a b (omega arith) (omega arith) s

  kept_located : (at size : ℕ) (blocks : List ℕ) (f l : ℕ) → Located old at size blocks f l → KeptAround old new x n at size → AllByRecursion IsKept blocks → KeptAround old new x n f l
  kept_located at size blocks f l (inl p) k ks = kept_part at size f l p.0 p.1 k
  kept_located at size blocks f l (inr p) k ks =
      let i = p.2 in
      let b = in_each IsKept p.0 blocks p.1 ks in
      kept_part (p.0 + 16) (payload_size old p.0) f l i.low (omega (arith, i.high)) b.payload

  -- the blocks around the part, grouped in another way
  grouped : (os xs ls rs ys left right : List ℕ) → left ≡ os ++ (xs ++ ls) → right ≡ rs ++ ys → left ++ right ≡ os ++ (xs ++ ((ls ++ rs) ++ ys))
  grouped os xs ls rs ys left right l r = rw (l, r) (simp append_assoc)

  pub surrounds_kept : {place inner : Place} {path : List Selector} {v : Value} {left right : List ℕ} → Around old table place path inner v left right → inner.at ≡ x → size table inner.type ≡ n
      → KeptAround old new x n place.at (size table place.type) → AllByRecursion IsKept (left ++ right) → RangeApart old place.at (size table place.type) (left ++ right) → BlocksApart old (left ++ right)
      → Surrounds old new table place path inner
  surrounds_kept around_here at_is size_is k ks p b = surrounds_here
  surrounds_kept {place = place} {left = left} {right = right} (around_in form opened before after part vs ws u xs ys ls rs f o index parts_are befores afters more v_is left_is right_is) at_is size_is k ks p b =
      let rest = ls ++ rs in
      let all = grouped opened.blocks xs ls rs ys left right left_is right_is in
      let ks' = rw all at ks in
      let p' = rw all at p in
      let b' = rw all at b in
      let g = surround old new table valid place form opened f o before part after parts_are in
      let own = each_left _ opened.blocks (xs ++ (rest ++ ys)) ks' in
      let others = each_right _ opened.blocks (xs ++ (rest ++ ys)) ks' in
      let ks_xs = each_left _ xs (rest ++ ys) others in
      let ks_rest = each_left _ rest ys (each_right _ xs (rest ++ ys) others) in
      let ks_ys = each_right _ rest ys (each_right _ xs (rest ++ ys) others) in
      let p_own = each_left _ opened.blocks (xs ++ (rest ++ ys)) p' in
      let p_others = each_right _ opened.blocks (xs ++ (rest ++ ys)) p' in
      let p_xs = each_left _ xs (rest ++ ys) p_others in
      let p_rest = each_left _ rest ys (each_right _ xs (rest ++ ys) p_others) in
      let p_ys = each_right _ rest ys (each_right _ xs (rest ++ ys) p_others) in
      let b1 = apart_append old opened.blocks (xs ++ (rest ++ ys)) b' in
      let b2 = apart_append old xs (rest ++ ys) b1.right in
      let b3 = apart_append old rest ys b2.right in
      let own_xs = each_weaker _ _ (λ h r. each_left _ xs (rest ++ ys) r) opened.blocks b1.between in
      let own_rest = each_weaker _ _ (λ h r. each_left _ rest ys (each_right _ xs (rest ++ ys) r)) opened.blocks b1.between in
      let own_ys = each_weaker _ _ (λ h r. each_right _ rest ys (each_right _ xs (rest ++ ys) r)) opened.blocks b1.between in
      let xs_rest = each_weaker _ _ (λ h r. each_left _ rest ys r) xs b2.between in
      let part_k = kept_located place.at (size table place.type) opened.blocks part.at (size table part.type) g.part_in k own in
      let part_p = located_range old place.at (size table place.type) opened.blocks part.at (size table part.type) rest g.part_in p_rest own_rest in
      let deep = around_kept old new table valid x n more at_is size_is part_k ks_rest part_p b3.left in
      let inside = surrounds_kept more at_is size_is part_k ks_rest part_p b3.left in
      let clears = g.clears p_own b1.left in
      let free = clear_of old new table valid x n place opened part rest g.part_in deep.hole p_rest own_rest in
      let same = λ (f l : ℕ) (i : Located old place.at (size table place.type) opened.blocks f l) (s : Separate f l part.at (size table part.type)). kept_located place.at (size table place.type) opened.blocks f l i k own f l
      (omega arith) (omega arith) (free f l i s) in
      let reads_same : AllByRecursion (λ (r : ℕ × ℕ). IsSame old new r.0 r.1) g.reads = each_both _ _ _ (λ r i s. same r.0 r.1 i s) g.reads g.reads_in clears.reads_clear in
      let opens = g.opens reads_same (each_weaker IsKept (KeepsHeader old new) (λ h b. b.header) opened.blocks own) in
      let before_same : AllByRecursion (SamePlace old new table) before = each_both _ _ _ (λ q i s. same q.at (size table q.type) i s) before g.before_in clears.before_clear in
      let after_same : AllByRecursion (SamePlace old new table) after = each_both _ _ _ (λ q i s. same q.at (size table q.type) i s) after g.after_in clears.after_clear in
      let whole = kept_whole old new table valid x n in
      let clear = blocks_clear old new table valid x n place opened part rest g.part_in deep.hole p_rest own_rest in
      let keeps_xs : AllByRecursion (KeepsBlock old new) xs = each_both IsKept _ (KeepsBlock old new) (λ h b s. whole h b s) xs ks_xs (clear xs p_xs own_xs xs_rest) in
      let keeps_ys : AllByRecursion (KeepsBlock old new) ys = each_both IsKept _ (KeepsBlock old new) (λ h b s. whole h b s) ys ks_ys (clear ys p_ys own_ys (between_sym old new table valid x n rest ys b3.between)) in
      surrounds_in form opened before after part f o opens index parts_are (PersistEach-kept old new table valid befores before_same keeps_xs) (PersistEach-kept old new table valid afters after_same keeps_ys) inside

-- ---- values around a part

pub one_split : (xs zs : List Place) (x z : Place) (ys ws : List Place) → length xs ≡ length zs → xs ++ x ∷ ys ≡ zs ++ z ∷ ws → (xs ≡ zs) × (x ≡ z) × (ys ≡ ws)
one_split [] [] x z ys ws l e = (refl, (let first : x ≡ z = cc in first), (let rest : ys ≡ ws = cc in rest))
one_split [] (b ∷ zs) x z ys ws l e = absurd (omega (arith, l))
one_split (a ∷ xs) [] x z ys ws l e = absurd (omega (arith, l))
one_split (a ∷ xs) (b ∷ zs) x z ys ws l e =
    let first : a ≡ b = cc in
    let more : xs ++ x ∷ ys ≡ zs ++ z ∷ ws = cc in
    let rest = one_split xs zs x z ys ws (omega (arith, l)) more in
    (λ i. first i ∷ rest.0 i, rest.1, rest.2)

module _ (bytes : List ℕ) (table : Table) where
  -- the values of places in a row
  pub record EachSplit (before : List Place) (part : Place) (after : List Place) (blocks : List ℕ) : Type 0 where
    pub value : Value
    pub vs : Values
    pub ws : Values
    pub xs : List ℕ
    pub zs : List ℕ
    pub ys : List ℕ
    pub lefts : HoldsEach bytes table before vs xs
    pub it : Holds bytes table part value zs
    pub rights : HoldsEach bytes table after ws ys
    pub fits_left : AllByRecursion (Fits bytes) xs
    pub fits_it : AllByRecursion (Fits bytes) zs
    pub fits_right : AllByRecursion (Fits bytes) ys

  pub each_split : (before : List Place) (part : Place) (after : List Place) {vs : Values} {blocks : List ℕ} → HoldsEach bytes table (before ++ part ∷ after) vs blocks → AllByRecursion (Fits bytes) blocks
      → EachSplit before part after blocks
  each_split [] part after (holds_more {v = v} {vs = ws} {blocks = zs} {owned = ys} h hs) fits =
      record { value = v; vs = values.nil; ws = ws; xs = []; zs = zs; ys = ys; lefts = holds_none; it = h; rights = hs; fits_left = tt; fits_it = each_left _ zs ys fits; fits_right = each_right _ zs ys fits }
  each_split (b ∷ before) part after (holds_more {v = v} {blocks = zs} {owned = ys} h hs) fits =
      let r = each_split before part after hs (each_right _ zs ys fits) in
      record {
        value = r.value;
        vs = values.cons v r.vs;
        ws = r.ws;
        xs = zs ++ r.xs;
        zs = r.zs;
        ys = r.ys;
        lefts = holds_more h r.lefts;
        it = r.it;
        rights = r.rights;
        fits_left = each_joined zs r.xs (each_left _ zs ys fits) r.fits_left;
        fits_it = r.fits_it;
        fits_right = r.fits_right;
      }
    where
      each_joined : (xs ys : List ℕ) → AllByRecursion (Fits bytes) xs → AllByRecursion (Fits bytes) ys → AllByRecursion (Fits bytes) (xs ++ ys)
      each_joined [] ys a b = b
      each_joined (x ∷ xs) ys a b = (a.0, each_joined xs ys a.1 b)

module _ (first second : List ℕ) (table : Table) where
  -- alike places in a row
  pub alike_left : (ps qs : List Place) → AlikeEach first second table (ps ++ qs) → AlikeEach first second table ps
  alike_left [] qs a = none_alike
  alike_left (p ∷ ps) qs (more_alike a rest) = more_alike a (alike_left ps qs rest)

  pub alike_right : (ps qs : List Place) → AlikeEach first second table (ps ++ qs) → AlikeEach first second table qs
  alike_right [] qs a = a
  alike_right (p ∷ ps) qs (more_alike a rest) = alike_right ps qs rest

  pub alike_append : {ps qs : List Place} → AlikeEach first second table ps → AlikeEach first second table qs → AlikeEach first second table (ps ++ qs)
  alike_append none_alike b = b
  alike_append (more_alike a rest) b = more_alike a (alike_append rest b)

  pub alike_head : {p : Place} {ps : List Place} → AlikeEach first second table (p ∷ ps) → AlikeAt first second table p × AlikeEach first second table ps
  alike_head (more_alike a rest) = (a, rest)

module _ (old new other another : List ℕ) (table : Table) where
  around_alike : {place inner place' inner' : Place} {path : List Selector} {v w : Value} {xs ys : List ℕ} → AlikeAt old other table place → Surrounds old new table place path inner → Surrounds other another table place' path inner'
      → place' ≡ place → AlikeAt new another table inner → Holds new table place v xs → AllByRecursion (Fits new) xs → Holds another table place w ys → AllByRecursion (Fits another) ys → AlikeAt new another table place
  around_alike alike surrounds_here surrounds_here e part h fits k fits_too = part
  around_alike {place = place} {inner = inner} {inner' = inner'} {xs = xs} {ys = ys} alike (surrounds_in {s = s} {path = path} form opened before after part f o n index parts_are befores afters deep)
      (surrounds_in form' opened' before' after' part' f' o' n' index' parts_are' befores' afters' deep') places inner_alike (holds form2 opened2 inside owned f2 o2 hs v_is xs_are) fits
      (holds form3 opened3 inside' owned' f3 o3 ks w_is ys_are) fits_too =
      let forms : form' ≡ form = (let e : Some form' ≡ Some form = sym f' ∙ ap (λ (q : Place). form_at table q.type) places ∙ f in cc) in
      let o_here = subst (λ (q : Place). Opens other table q form' opened') places o' in
      let n_here = subst (λ (q : Place). Opens another table q form' opened') places n' in
      let forms2 : form2 ≡ form = (let e : Some form2 ≡ Some form = sym f2 ∙ f in cc) in
      let forms3 : form3 ≡ form = (let e : Some form3 ≡ Some form = sym f3 ∙ f in cc) in
      let two = open_alike old other table form opened f o alike in
      let same : opened' ≡ opened = Opens-one other table place form opened' opened (subst (λ (k : Form). Opens other table place k opened') forms o_here) two.opens in
      let there : Opens another table place form opened = subst (λ (q : Opened). Opens another table place form q) same (subst (λ (k : Form). Opens another table place k opened') forms n_here) in
      let opens2 : opened2 ≡ opened = Opens-one new table place form opened2 opened (subst (λ (k : Form). Opens new table place k opened2) forms2 o2) n in
      let opens3 : opened3 ≡ opened = Opens-one another table place form opened3 opened (subst (λ (k : Form). Opens another table place k opened3) forms3 o3) there in
      let mine : AllByRecursion (Fits new) (opened.blocks ++ owned) = subst (λ (k : Opened). AllByRecursion (Fits new) (k.blocks ++ owned)) opens2 (subst (AllByRecursion (Fits new)) xs_are fits) in
      let theirs : AllByRecursion (Fits another) (opened.blocks ++ owned') = subst (λ (k : Opened). AllByRecursion (Fits another) (k.blocks ++ owned')) opens3 (subst (AllByRecursion (Fits another)) ys_are fits_too) in
      let one = open_as_one new another table place opened opened refl refl refl (each_left _ opened.blocks owned mine) (each_left _ opened.blocks owned' theirs) form n there in
      let index_is : index_of opened.label s ≡ Some (length before') = ap (λ (q : Opened). index_of q.label s) (sym same) ∙ index' in
      let long : length before ≡ length before' = (let e : Some (length before) ≡ Some (length before') = sym index ∙ index_is in cc) in
      let parts : before ++ part ∷ after ≡ before' ++ part' ∷ after' = sym parts_are ∙ ap (λ (q : Opened). q.parts) (sym same) ∙ parts_are' in
      let split = one_split before before' part part' after after' long parts in
      let a : AlikeEach old other table (before ++ part ∷ after) = subst (AlikeEach old other table) parts_are two.parts in
      let middle = alike_head old other table (alike_right old other table before (part ∷ after) a) in
      let h = each_split new table before part after (subst (λ ps. HoldsEach new table ps inside owned) (ap (λ (q : Opened). q.parts) opens2 ∙ parts_are) hs) (each_right _ opened.blocks owned mine) in
      let k = each_split another table before part after (subst (λ ps. HoldsEach another table ps inside' owned') (ap (λ (q : Opened). q.parts) opens3 ∙ parts_are) ks) (each_right _ opened.blocks owned' theirs) in
      let left = persist_each_alike old new other another table (alike_left old other table before (part ∷ after) a) befores (subst (λ ps. PersistEach other another table ps ps) (sym split.0) befores')
      h.lefts h.fits_left k.lefts k.fits_left in
      let right = persist_each_alike old new other another table middle.1 afters (subst (λ ps. PersistEach other another table ps ps) (sym split.2) afters') h.rights h.fits_right k.rights k.fits_right in
      let it = around_alike middle.0 deep deep' (sym split.1) inner_alike h.it h.fits_it k.it k.fits_it in
      opens_alike form opened f n there one.counts (subst (AlikeEach new another table) (sym parts_are) (alike_append new another table left (more_alike it right)))

  pub surround_alike : {place inner : Place} {path : List Selector} {v w : Value} {xs ys : List ℕ} → AlikeAt old other table place → Surrounds old new table place path inner → Surrounds other another table place path inner
      → AlikeAt new another table inner → Holds new table place v xs → AllByRecursion (Fits new) xs → Holds another table place w ys → AllByRecursion (Fits another) ys → AlikeAt new another table place
  surround_alike alike a b part h fits k fits_too = around_alike alike a b refl part h fits k fits_too

part_there : (before : List Place) (part : Place) (after : List Place) → slice_get (before ++ part ∷ after) (length before) ≡ Some part
part_there [] part after = refl
part_there (b ∷ before) part after = part_there before part after

-- the path still ends there
pub surrounded_leads : (old new : List ℕ) (table : Table) {place inner : Place} {path : List Selector} → Surrounds old new table place path inner → Leads new table place path inner
surrounded_leads old new table surrounds_here = here
surrounded_leads old new table (surrounds_in form opened before after part f o n index parts_are befores afters deep) =
    into form opened (length before) part f n index (ap (λ ps. slice_get ps (length before)) parts_are ∙ part_there before part after) (surrounded_leads old new table deep)
