-- Places in the queue are replaced by the places inside them.
use Rattle.std.proofs.Common.{◌≡◌, ◌≢◌, ℕ, ◌+◌, ◌%◌, ◌<◌, ◌≤◌, zero, suc, ⊎_elim, Bool, true, false, cond, eqb, List, [], ◌∷◌, ◌++◌, length, Option, Some, None, Err, Result, refl, sym, ap, ◌∙◌, subst, arith}
use Rattle.std.specs.Prelude.{◌↔◌}
use Rattle.std.specs.List.{AllByRecursion}
use Rattle.std.proofs.lemmas.List.{append_assoc, append-nil}
use Rattle.std.proofs.lemmas.Bool.{cases_eq}
use Rattle.std.proofs.lemmas.Bool.Decides.{nat_tests}
use Rattle.seg_spec.specs.Bytes.{signed_long}
use Rattle.seg_spec.specs.Types.{Form, Table, form_at}
use Rattle.seg_spec.specs.Value.{Values, cons, node, append, Label}
use Rattle.seg_spec.specs.Heap.{tag_at}
use Rattle.seg_spec.specs.Block.{Kind, kind_number, block_of}
use Rattle.seg_spec.specs.Reads.{Place, Opened, Opens, holds, HoldsEach, fields}
use Rattle.seg_spec.specs.Shared.{names_in, names_each}
use Rattle.seg_spec.specs.Sound.{times, SameBlocks}
use Rattle.seg_spec.proofs.Values.PlaceFrameLaws.{each_left, each_right}
use Rattle.seg_spec.proofs.Heap.LiveBlockLaws.{times-append}
use Rattle.seg_spec.proofs.Images.LooseRootLaws.{each_joined}
use Rattle.seg_spec.proofs.Values.OneValueLaws.{Opens-one}
use Rattle.seg_spec.proofs.Images.OwnedTagLaws.{IsOther, opened_other}
use Rattle.seg_layout.specs.Forms.{has_cells}
use Rattle.seg_check.specs.declared.fault.ContentFault.{ContentFault}
use Rattle.seg_check.specs.declared.fault.ContentFault.TheVariants.{Memory, BadIndex, BadPointer, DoubleOwner, BadValue}
use Rattle.seg_check.specs.declared.marks.Turn.{Turn}
use Rattle.seg_check.specs.declared.marks.Waiting.{Waiting}
use Rattle.seg_check.specs.Claiming.{Refutes}
use Rattle.seg_check.specs.Positions.{LacksAt}
use Rattle.seg_check.specs.Marks.{Known, ClaimsAll, Within, awaiting}
use Rattle.seg_check.specs.Naming.{IsFrozen, SameOthers, CanBeTarget, Finds}
use Rattle.seg_check.specs.Turns.{Limited, limited, places_in, waiting, owned_places, awaited, with_cells, AreKnown, IsTurn, AreTurns, IsWaiting, AreWaiting, AreOthers}
use Rattle.seg_check.specs.Resolving.{ReadsEach, reads_more, ResolvesBy, Resolves, CanResolve, Advances, IsReady, Steps}
use Rattle.seg_check.proofs.SameLengthLaws.{within_length}
use Rattle.seg_check.proofs.Queue.ReadPlaceLaws.{own_names, names_node, names_cons, names_append, positions_of, positions_append, limited_append, reads_joined, reads_split, reads_limited, holds_limited}
use Rattle.seg_check.proofs.Blocks.FrozenClaimLaws.{none_frozen, finds_none, finds_claimed, finds_more}

-- a fault that refutes a claim refutes each claim that implies it
pub refuses_map : (f : ContentFault) (P Q : Type 0) → (Q → P) → Refutes f P → Refutes f Q
refuses_map Memory P Q lead r = tt
refuses_map (BadIndex at) P Q lead r = (λ q. r (lead q))
refuses_map (BadPointer at) P Q lead r = (λ q. r (lead q))
refuses_map (DoubleOwner at) P Q lead r = (λ q. r (lead q))
refuses_map (BadValue at) P Q lead r = (λ q. r (lead q))

-- ---- counts of blocks

moved_front : (h : ℕ) (u l a b c : List ℕ) → times h u ≡ times h ((a ++ (b ++ c)) ++ l) → times h u ≡ times h ((b ++ (a ++ c)) ++ l)
moved_front h u l a b c e =
    let i = times-append h (a ++ (b ++ c)) l in
    let j = times-append h (b ++ (a ++ c)) l in
    let k = times-append h a (b ++ c) in
    let m = times-append h b c in
    let n = times-append h b (a ++ c) in
    let o = times-append h a c in
    omega arith

taken_away : (h : ℕ) (u v l own inside rest : List ℕ) → times h u ≡ times h (own ++ v) → times h u ≡ times h (((own ++ inside) ++ rest) ++ l) → times h v ≡ times h ((inside ++ rest) ++ l)
taken_away h u v l own inside rest e f =
    let i = times-append h ((own ++ inside) ++ rest) l in
    let j = times-append h (inside ++ rest) l in
    let k = times-append h own v in
    let m = times-append h (own ++ inside) rest in
    let n = times-append h own inside in
    let o = times-append h inside rest in
    omega arith

given_back : (h : ℕ) (u v l own inside rest : List ℕ) → times h u ≡ times h (own ++ v) → times h v ≡ times h ((inside ++ rest) ++ l) → times h u ≡ times h (((own ++ inside) ++ rest) ++ l)
given_back h u v l own inside rest e f =
    let i = times-append h ((own ++ inside) ++ rest) l in
    let j = times-append h (inside ++ rest) l in
    let k = times-append h own v in
    let m = times-append h (own ++ inside) rest in
    let n = times-append h own inside in
    let o = times-append h inside rest in
    omega arith

pub within_trans : (xs ys zs : List ℕ) → Within xs ys → Within ys zs → Within xs zs
within_trans xs ys zs p q h = omega (arith, p h, q h)

pub within_taken : (u v own : List ℕ) → SameBlocks u (own ++ v) → Within v u
within_taken u v own e h = omega (arith, e h, times-append h own v)

-- ---- places in a row

module _ (bytes : List ℕ) (table : Table) where
  named_moved : (h : ℕ) (names r s u a b c : List Place) (n : List ℕ) → times h n ≡ times h (positions_of names) → names ≡ r ++ s → s ≡ a ++ b → c ≡ a ++ (r ++ b) → times h n ≡ times h (positions_of c)
  named_moved h names r s u a b c n e i j k =
      let x : times h (positions_of names) ≡ times h (positions_of r) + times h (positions_of s) = ap (λ qs. times h (positions_of qs)) i ∙ ap (times h) (positions_append r s) ∙ times-append h (positions_of r) (positions_of s) in
      let y : times h (positions_of s) ≡ times h (positions_of a) + times h (positions_of b) = ap (λ qs. times h (positions_of qs)) j ∙ ap (times h) (positions_append a b) ∙ times-append h (positions_of a) (positions_of b) in
      let z : times h (positions_of c) ≡ times h (positions_of a) + times h (positions_of (r ++ b)) = ap (λ qs. times h (positions_of qs)) k ∙ ap (times h) (positions_append a (r ++ b)) ∙ times-append h (positions_of a)
      (positions_of (r ++ b)) in
      let w : times h (positions_of (r ++ b)) ≡ times h (positions_of r) + times h (positions_of b) = ap (times h) (positions_append r b) ∙ times-append h (positions_of r) (positions_of b) in
      omega arith

  pub resolves_swap : (u l : List ℕ) (a b c : List Limited) (names : List ℕ) → ResolvesBy bytes table u l (a ++ (b ++ c)) names → ResolvesBy bytes table u l (b ++ (a ++ c)) names
  resolves_swap u l a b c names r =
      let s = reads_split bytes table a (b ++ c) r.values r.blocks r.reads in
      let t = reads_split bytes table b c s.rights s.back s.right in
      record {
        values = append t.lefts (append s.lefts t.rights);
        blocks = t.front ++ (s.front ++ t.back);
        reads = reads_joined bytes table t.left (reads_joined bytes table s.left t.right);
        owners = (λ h other. moved_front h u l s.front t.front t.back (r.owners h other ∙ ap (λ xs. times h (xs ++ l)) (s.owned_is ∙ ap (λ bs. s.front ++ bs) t.owned_is)));
        names_are = (λ h. named_moved h (names_each r.values) (names_each s.lefts) (names_each s.rights) [] (names_each t.lefts) (names_each t.rights) (names_each (append t.lefts (append s.lefts t.rights))) names (r.names_are h)
            s.names_are t.names_are (names_append t.lefts (append s.lefts t.rights) ∙ ap (λ ns. names_each t.lefts ++ ns) (names_append s.lefts t.rights)));
      }

  -- claims that are equivalent for all names are equivalent
  pub resolves_as : (u v l m : List ℕ) (ps qs : List Limited) → ((names : List ℕ) → ResolvesBy bytes table u l ps names → ResolvesBy bytes table v m qs names) → Resolves bytes table u l ps → Resolves bytes table v m qs
  resolves_as u v l m ps qs step r = record { names = r.names; by = step r.names r.by }

  pub swapped : (u l : List ℕ) (a b c : List Limited) → Resolves bytes table u l (a ++ (b ++ c)) → Resolves bytes table u l (b ++ (a ++ c))
  swapped u l a b c r = resolves_as u u l l (a ++ (b ++ c)) (b ++ (a ++ c)) (λ names. resolves_swap u l a b c names) r

  -- ---- a place is replaced by the places inside it

  abbrev pub limit : Option ℕ → Place → Limited
  limit below place = record { place = place; below = below }

  names_inside : (below : Option ℕ) (label : Label) (vs : Values) → AllByRecursion (CanBeTarget bytes table below) (names_in (node label vs)) → AllByRecursion (CanBeTarget bytes table below) (names_each vs)
  names_inside below label vs a = each_right (CanBeTarget bytes table below) (own_names label) (names_each vs) (subst (AllByRecursion (CanBeTarget bytes table below)) (names_node label vs) a)

  opened_names : (h : ℕ) (names : List ℕ) (own inside rest all ins : List Place) → times h names ≡ times h (positions_of all) → all ≡ (own ++ inside) ++ rest → ins ≡ inside ++ rest
      → times h names ≡ times h (positions_of own ++ positions_of ins)
  opened_names h names own inside rest all ins e i j =
      let x : times h (positions_of all) ≡ times h (positions_of (own ++ (inside ++ rest))) = ap (λ qs. times h (positions_of qs)) (i ∙ append_assoc own inside rest) in
      let y : times h (positions_of (own ++ (inside ++ rest))) ≡ times h (positions_of own ++ positions_of (inside ++ rest)) = ap (times h) (positions_append own (inside ++ rest)) in
      e ∙ x ∙ y ∙ ap (λ qs. times h (positions_of own ++ positions_of qs)) (sym j)

  -- the target of the place itself is left out
  pub open_forth : (u v l : List ℕ) (below : Option ℕ) (place : Place) (form : Form) (opened : Opened) (others : List Limited) (names : List ℕ) → form_at table place.type ≡ Some form → Opens bytes table place form opened
      → SameOthers bytes u (opened.blocks ++ v) → own_names opened.label ≡ [] → ResolvesBy bytes table u l (limit below place ∷ others) names → ResolvesBy bytes table v l (limited below opened.parts ++ others) names
  open_forth u v l below place form opened others names f o taken none r = go r.reads r.owners r.names_are
    where
      go : {vs : Values} {bs : List ℕ} → ReadsEach bytes table (limit below place ∷ others) vs bs → SameOthers bytes u (bs ++ l) → SameBlocks names (positions_of (names_each vs))
          → ResolvesBy bytes table v l (limited below opened.parts ++ others) names
      go (reads_more {vs = vs} {owned = rest} (holds form' a inside owned f' o' each v_is b_is) named hs) own are =
          let forms : form' ≡ form = cc in
          let same : a ≡ opened = Opens-one bytes table place form a opened (rw forms at o') o in
          let under = names_inside below a.label inside (subst (λ w. AllByRecursion (CanBeTarget bytes table below) (names_in w)) v_is named) in
          record {
            values = append inside vs;
            blocks = owned ++ rest;
            reads = reads_joined bytes table (reads_limited bytes table below (subst (λ (x : Opened). HoldsEach bytes table x.parts inside owned) same each) under) hs;
            owners = (λ h other. taken_away h u v l opened.blocks owned rest (taken h other) (own h other ∙ ap (λ bs. times h ((bs ++ rest) ++ l)) (b_is ∙ ap (λ (x : Opened). x.blocks ++ owned) same)));
            names_are = (λ h. opened_names h names [] (names_each inside) (names_each vs) (names_each (cons _ vs)) (names_each (append inside vs)) (are h)
                (names_cons _ vs ∙ ap (λ w. names_in w ++ names_each vs) v_is ∙ ap (λ ns. ns ++ names_each vs) (names_node a.label inside ∙ ap (λ ns. ns ++ names_each inside) (ap (λ (x : Opened). own_names x.label) same ∙ none)))
                (names_append inside vs));
          }

  pub open_back : (u v l : List ℕ) (below : Option ℕ) (place : Place) (form : Form) (opened : Opened) (others : List Limited) (names : List ℕ) → form_at table place.type ≡ Some form → Opens bytes table place form opened
      → SameOthers bytes u (opened.blocks ++ v) → AllByRecursion (CanBeTarget bytes table below) (own_names opened.label) → ResolvesBy bytes table v l (limited below opened.parts ++ others) names
      → ResolvesBy bytes table u l (limit below place ∷ others) (positions_of (own_names opened.label) ++ names)
  open_back u v l below place form opened others names f o taken under r =
      let s = reads_split bytes table (limited below opened.parts) others r.values r.blocks r.reads in
      let h = holds_limited bytes table below opened.parts s.left in
      let all : names_each (cons (node opened.label s.lefts) s.rights) ≡ own_names opened.label ++ names_each r.values =
      names_cons (node opened.label s.lefts) s.rights ∙ ap (λ ns. ns ++ names_each s.rights) (names_node opened.label s.lefts) ∙ append_assoc (own_names opened.label) (names_each s.lefts) (names_each s.rights)
      ∙ ap (λ ns. own_names opened.label ++ ns) (sym s.names_are) in
      record {
        values = cons (node opened.label s.lefts) s.rights;
        blocks = (opened.blocks ++ s.front) ++ s.back;
        reads = reads_more (holds form opened s.lefts s.front f o h.0 refl refl)
            (subst (AllByRecursion (CanBeTarget bytes table below)) (sym (names_node opened.label s.lefts)) (each_joined (CanBeTarget bytes table below) (own_names opened.label) (names_each s.lefts) under h.1)) s.right;
        owners = (λ b other. given_back b u v l opened.blocks s.front s.back (taken b other) (r.owners b other ∙ ap (λ xs. times b (xs ++ l)) s.owned_is));
        names_are = (λ b.
            let i = times-append b (positions_of (own_names opened.label)) names in
            let j = times-append b (positions_of (own_names opened.label)) (positions_of (names_each r.values)) in
            let k : times b (positions_of (own_names opened.label) ++ names) ≡ times b (positions_of (own_names opened.label) ++ positions_of (names_each r.values)) = omega (arith, i, j, r.names_are b) in
            k ∙ ap (times b) (sym (positions_append (own_names opened.label) (names_each r.values))) ∙ ap (λ qs. times b (positions_of qs)) (sym all));
      }

  -- places whose labels refer to no object
  pub open_back_plain : (u v l : List ℕ) (below : Option ℕ) (place : Place) (form : Form) (opened : Opened) (others : List Limited) (names : List ℕ) → form_at table place.type ≡ Some form → Opens bytes table place form opened
      → SameOthers bytes u (opened.blocks ++ v) → own_names opened.label ≡ [] → ResolvesBy bytes table v l (limited below opened.parts ++ others) names → ResolvesBy bytes table u l (limit below place ∷ others) names
  open_back_plain u v l below place form opened others names f o taken none r =
      subst (λ qs. ResolvesBy bytes table u l (limit below place ∷ others) (positions_of qs ++ names)) none
      (open_back u v l below place form opened others names f o taken (subst (AllByRecursion (CanBeTarget bytes table below)) (sym none) tt) r)

  -- the place can be opened, and the blocks to which it points weren't claimed
  pub record CanOpen (unclaimed : List ℕ) (below : Option ℕ) (place : Place) (form : Form) : Type 0 where
    pub opened : Opened
    pub opens : Opens bytes table place form opened
    pub within : Within opened.blocks unclaimed
    pub under : AllByRecursion (CanBeTarget bytes table below) (own_names opened.label)

  pub can_open : (known : Known) (place : Place) (form : Form) (others : List Place) → form_at table place.type ≡ Some form → CanResolve bytes table known (place ∷ others) → CanOpen known.unclaimed known.naming.below place form
  can_open known place form others f r = go r.resolves.by.reads r.resolves.by.owners
    where
      u : List ℕ
      u = known.unclaimed

      below : Option ℕ
      below = known.naming.below

      fewer : (h : ℕ) (u l own inside rest : List ℕ) → times h u ≡ times h (((own ++ inside) ++ rest) ++ l) → times h own ≤ times h u
      fewer h u l own inside rest e = omega (arith, times-append h ((own ++ inside) ++ rest) l, times-append h (own ++ inside) rest, times-append h own inside)

      -- the place's blocks, which aren't frozen objects, have no owner yet
      within : (h : ℕ) (own inside rest : List ℕ) → AllByRecursion (IsOther bytes) own → ((IsFrozen bytes h → ⊥) → times h known.unclaimed ≡ times h (((own ++ inside) ++ rest) ++ r.left)) → times h own ≤ times h known.unclaimed
      within h own inside rest others e = ⊎_elim
          (λ frozen. omega (arith, none_frozen bytes h own frozen others))
          (λ other. fewer h known.unclaimed r.left own inside rest (e other))
          (cases_eq (tag_at bytes h % 256) (kind_number Kind.frozen))

      go : {vs : Values} {bs : List ℕ} → ReadsEach bytes table (limit known.naming.below place ∷ (limited known.naming.below others ++ r.others)) vs bs → SameOthers bytes known.unclaimed (bs ++ r.left)
          → CanOpen known.unclaimed known.naming.below place form
      go (reads_more {owned = rest} (holds form' a inside owned f' o' each v_is b_is) named hs) own =
          let forms : form' ≡ form = cc in
          let opens : Opens bytes table place form a = rw forms at o' in
          let names = subst (AllByRecursion (CanBeTarget bytes table known.naming.below)) (ap names_in v_is ∙ names_node a.label inside) named in
          record {
            opened = a;
            opens = opens;
            within = (λ h. within h a.blocks owned rest (opened_other bytes table place form a opens) (λ other. own h other ∙ ap (λ bs. times h ((bs ++ rest) ++ r.left)) b_is));
            under = each_left (CanBeTarget bytes table known.naming.below) (own_names a.label) (names_each inside) names;
          }

  -- ---- numbers, which have no pointers

  number_opened : Place → Opened
  number_opened place = record { label = Label.int (signed_long bytes place.at); blocks = []; parts = [] }

  pub number_forth : (u l : List ℕ) (below : Option ℕ) (place : Place) (others : List Limited) (names : List ℕ) → form_at table place.type ≡ Some Form.i64 → ResolvesBy bytes table u l (limit below place ∷ others) names
      → ResolvesBy bytes table u l others names
  unfolding number_opened
  number_forth u l below place others names f r = open_forth u u l below place Form.i64 (number_opened place) others names f refl (λ h other. refl) refl r

  pub number_back : (u l : List ℕ) (below : Option ℕ) (place : Place) (others : List Limited) (names : List ℕ) → form_at table place.type ≡ Some Form.i64 → ResolvesBy bytes table u l others names
      → ResolvesBy bytes table u l (limit below place ∷ others) names
  unfolding number_opened
  number_back u l below place others names f r = open_back_plain u u l below place Form.i64 (number_opened place) others names f refl (λ h other. refl) refl r

  -- a type of the table whose values have no cells with pointers is a number type
  pub known_number : (T : ℕ) → T < length table → has_cells (form_at table T) ≡ false → form_at table T ≡ Some Form.i64
  known_number T known none = go (form_at table T) refl
    where
      past : (table : Table) (T : ℕ) → T < length table → form_at table T ≡ None → ⊥
      past [] T l e = omega arith
      past (f ∷ fs) zero l e = cc
      past (f ∷ fs) (suc T) l e = past fs T (omega arith) e

      go : (o : Option Form) → form_at table T ≡ o → form_at table T ≡ Some Form.i64
      go None e = absurd (past table T known e)
      go (Some Form.i64) e = e
      go (Some Form.str) e = let n : true ≡ false = sym (ap has_cells e) ∙ none in cc
      go (Some (Form.vec U)) e = let n : true ≡ false = sym (ap has_cells e) ∙ none in cc
      go (Some (Form.list U)) e = let n : true ≡ false = sym (ap has_cells e) ∙ none in cc
      go (Some (Form.flat_map U)) e = let n : true ≡ false = sym (ap has_cells e) ∙ none in cc
      go (Some (Form.map U)) e = let n : true ≡ false = sym (ap has_cells e) ∙ none in cc
      go (Some (Form.own U)) e = let n : true ≡ false = sym (ap has_cells e) ∙ none in cc
      go (Some (Form.shared U)) e = let n : true ≡ false = sym (ap has_cells e) ∙ none in cc
      go (Some (Form.struct Us)) e = let n : true ≡ false = sym (ap has_cells e) ∙ none in cc

  one_more : (u l : List ℕ) (p : Limited) (ps qs others : List Limited) (names : List ℕ) → (ResolvesBy bytes table u l (ps ++ (p ∷ others)) names → ResolvesBy bytes table u l (qs ++ (p ∷ others)) names)
      → ResolvesBy bytes table u l (p ∷ (ps ++ others)) names → ResolvesBy bytes table u l (p ∷ (qs ++ others)) names
  one_more u l p ps qs others names step r = resolves_swap u l qs (p ∷ []) others names (step (resolves_swap u l (p ∷ []) ps others names r))

  module _ (u l : List ℕ) (below : Option ℕ) (names : List ℕ) where
    abbrev Those : List Place → List Limited → Type 0
    Those ps others = ResolvesBy bytes table u l (limited below ps ++ others) names

    pub cells_forth : (ps : List Place) (others : List Limited) → AreKnown table ps → ResolvesBy bytes table u l (limited below ps ++ others) names → ResolvesBy bytes table u l (limited below (with_cells table ps) ++ others) names
    cells_forth [] others known r = r
    cells_forth (p ∷ ps) others known r = go (has_cells (form_at table p.type)) refl (λ more. cells_forth ps more known.1)
      where
        go : (b : Bool) → has_cells (form_at table p.type) ≡ b → ((more : List Limited) → Those ps more → Those (with_cells table ps) more) → Those (cond b (p ∷ with_cells table ps) (with_cells table ps)) others
        go true e rest = one_more u l (limit below p) (limited below ps) (limited below (with_cells table ps)) others names (rest (limit below p ∷ others)) r
        go false e rest = rest others (number_forth u l below p (limited below ps ++ others) names (known_number p.type known.0 e) r)

    pub cells_back : (ps : List Place) (others : List Limited) → AreKnown table ps → ResolvesBy bytes table u l (limited below (with_cells table ps) ++ others) names → ResolvesBy bytes table u l (limited below ps ++ others) names
    cells_back [] others known r = r
    cells_back (p ∷ ps) others known r = go (has_cells (form_at table p.type)) refl r (λ more. cells_back ps more known.1)
      where
        go : (b : Bool) → has_cells (form_at table p.type) ≡ b → Those (cond b (p ∷ with_cells table ps) (with_cells table ps)) others
            → ((more : List Limited) → Those (with_cells table ps) more → Those ps more) → ResolvesBy bytes table u l (limit below p ∷ (limited below ps ++ others)) names
        go true e r rest = one_more u l (limit below p) (limited below (with_cells table ps)) (limited below ps) others names (rest (limit below p ∷ others)) r
        go false e r rest = number_back u l below p (limited below ps ++ others) names (known_number p.type known.0 e) (rest others r)

  -- ---- steps

  pub waiting-append : (xs ys : List Turn) → waiting bytes table (xs ++ ys) ≡ waiting bytes table xs ++ waiting bytes table ys
  waiting-append [] ys = refl
  waiting-append (x ∷ xs) ys = ap (λ ps. places_in bytes table x ++ ps) (waiting-append xs ys) ∙ sym (append_assoc (places_in bytes table x) (waiting bytes table xs) (waiting bytes table ys))

  pub awaited-append : (xs ys : List Waiting) → awaited bytes table (xs ++ ys) ≡ awaited bytes table xs ++ awaited bytes table ys
  awaited-append [] ys = refl
  awaited-append (x ∷ xs) ys = ap (λ ps. owned_places bytes table x ++ ps) (awaited-append xs ys) ∙ sym (append_assoc (owned_places bytes table x) (awaited bytes table xs) (awaited bytes table ys))

  pub turns_both : (xs ys : List Turn) → AreTurns bytes table xs → AreTurns bytes table ys → AreTurns bytes table (xs ++ ys)
  turns_both xs ys p q = each_joined (IsTurn bytes table) xs ys p q

  pub waiting_both : (xs ys : List Waiting) → AreWaiting bytes table xs → AreWaiting bytes table ys → AreWaiting bytes table (xs ++ ys)
  waiting_both xs ys p q = each_joined (IsWaiting bytes table) xs ys p q

  -- the places in the queue's entry for a block that isn't a frozen object
  pub owned_is : (w : Waiting) → (IsFrozen bytes (block_of w.turn.start) → ⊥) → owned_places bytes table w ≡ limited w.below (places_in bytes table w.turn)
  owned_is w other = ap (λ b. cond b [] (limited w.below (places_in bytes table w.turn))) (not_equal (tag_at bytes (block_of w.turn.start) % 256) 7 other)
    where
      not_equal : (a b : ℕ) → a ≢ b → eqb a b ≡ false
      not_equal a b other = grind (arith, nat_tests)

  -- the places in queue entries with one limit, for blocks that aren't frozen objects
  pub awaited_one : (below : Option ℕ) (turns : List Turn) → AreOthers bytes turns → awaited bytes table (awaiting below turns) ≡ limited below (waiting bytes table turns)
  awaited_one below [] others = refl
  awaited_one below (t ∷ ts) others =
      (λ i. owned_is (record { turn = t; below = below }) others.0 i ++ awaited_one below ts others.1 i) ∙ sym (limited_append below (places_in bytes table t) (waiting bytes table ts))

  pub are_awaiting : (below : Option ℕ) (turns : List Turn) → AreTurns bytes table turns → AreOthers bytes turns → AreWaiting bytes table (awaiting below turns)
  are_awaiting below [] are others = tt
  are_awaiting below (t ∷ ts) are others = (record { turn = are.0; frozen = λ f. absurd (others.0 f) }, are_awaiting below ts are.1 others.1)

  pub advance_none : (known : Known) → Advances bytes table known known []
  advance_none known = record {
    turns = [];
    turns_are = sym (append-nil known.turns);
    are_waiting = tt;
    within = (λ h. omega arith);
    counted = (λ c. c);
    found = [];
    finds = finds_none bytes known;
    forth = (λ left others r. r);
    back = (λ left others names r. r);
  }

  pub advance_number : (known : Known) (place : Place) → form_at table place.type ≡ Some Form.i64 → Advances bytes table known known (place ∷ [])
  advance_number known place f = record {
    turns = [];
    turns_are = sym (append-nil known.turns);
    are_waiting = tt;
    within = (λ h. omega arith);
    counted = (λ c. c);
    found = [];
    finds = finds_none bytes known;
    forth = (λ left others r. resolves_as known.unclaimed known.unclaimed left left (limit known.naming.below place ∷ others) others (λ names. number_forth known.unclaimed left known.naming.below place others names f) r);
    back = (λ left others names r. number_back known.unclaimed left known.naming.below place others names f r);
  }

  -- A place opens: the blocks to which it points were claimed, and the values in these blocks that
  -- have cells were put in the queue, in any order.
  pub advance_mixed : (old new : Known) (place : Place) (form : Form) (opened : Opened) (parts : List Place) (turns : List Turn) → form_at table place.type ≡ Some form → Opens bytes table place form opened → own_names opened.label ≡ []
      → ((u left : List ℕ) (below : Option ℕ) (others : List Limited) (names : List ℕ) → ResolvesBy bytes table u left (limited below opened.parts ++ others) names ↔ ResolvesBy bytes table u left (limited below parts ++ others) names)
      → ClaimsAll old new opened.blocks turns → AreTurns bytes table turns → AreOthers bytes turns → AreKnown table parts → waiting bytes table turns ≡ with_cells table parts → Advances bytes table old new (place ∷ [])
  advance_mixed old new place form opened parts turns f o plain mixed c are unshared known waits =
      let below = old.naming.below in
      let awaits : awaited bytes table (awaiting below turns) ≡ limited below (with_cells table parts) = awaited_one below turns unshared ∙ ap (limited below) waits in
      let taken : SameOthers bytes old.unclaimed (opened.blocks ++ new.unclaimed) = λ h other. c.claimed h in
      record {
        turns = awaiting below turns;
        turns_are = c.turns_are;
        are_waiting = are_awaiting below turns are unshared;
        within = within_taken old.unclaimed new.unclaimed opened.blocks c.claimed;
        counted = c.counted;
        found = [];
        finds = finds_claimed bytes old new opened.blocks turns c (opened_other bytes table place form opened o) unshared;
        forth = (λ left others r. resolves_as old.unclaimed new.unclaimed left left (limit below place ∷ others) (awaited bytes table (awaiting below turns) ++ others)
            (λ names r. subst (λ ps. ResolvesBy bytes table new.unclaimed left (ps ++ others) names) (sym awaits)
            (cells_forth new.unclaimed left below names parts others known
            ((mixed new.unclaimed left below others names).0 (open_forth old.unclaimed new.unclaimed left below place form opened others names f o taken plain r)))) r);
        back = (λ left others names r. open_back_plain old.unclaimed new.unclaimed left below place form opened others names f o taken plain
            ((mixed new.unclaimed left below others names).1 (cells_back new.unclaimed left below names parts others known
            (subst (λ ps. ResolvesBy bytes table new.unclaimed left (ps ++ others) names) awaits r))));
      }

  -- the same, with the values in their order
  pub advance_open : (old new : Known) (place : Place) (form : Form) (opened : Opened) (turns : List Turn) → form_at table place.type ≡ Some form → Opens bytes table place form opened → own_names opened.label ≡ []
      → ClaimsAll old new opened.blocks turns → AreTurns bytes table turns → AreOthers bytes turns → AreKnown table opened.parts → waiting bytes table turns ≡ with_cells table opened.parts → Advances bytes table old new (place ∷ [])
  advance_open old new place form opened turns f o plain c are unshared known waits =
      advance_mixed old new place form opened opened.parts turns f o plain (λ u left below others names. (λ r. r, λ r. r)) c are unshared known waits

  -- a struct was replaced by new entries of the queue if its fields were
  pub advance_struct : (old new : Known) (at T : ℕ) (Us : List ℕ) → form_at table T ≡ Some (Form.struct Us) → Advances bytes table old new (fields table at Us) → Advances bytes table old new (record { at = at; type = T } ∷ [])
  advance_struct old new at T Us f a =
      let place : Place = record { at = at; type = T } in
      let opened : Opened = record { label = Label.struct; blocks = []; parts = fields table at Us } in
      let below = old.naming.below in
      record {
        turns = a.turns;
        turns_are = a.turns_are;
        are_waiting = a.are_waiting;
        within = a.within;
        counted = a.counted;
        found = a.found;
        finds = a.finds;
        forth = (λ left others r. a.forth left others (resolves_as old.unclaimed old.unclaimed left left (limit below place ∷ others) (limited below (fields table at Us) ++ others)
            (λ names. open_forth old.unclaimed old.unclaimed left below place (Form.struct Us) opened others names f refl (λ h other. refl) refl) r));
        back = (λ left others names r. open_back_plain old.unclaimed old.unclaimed left below place (Form.struct Us) opened others (a.found ++ names) f refl (λ h other. refl) refl (a.back left others names r));
      }

  pub can_struct : (known : Known) (at T : ℕ) (Us : List ℕ) → form_at table T ≡ Some (Form.struct Us) → CanResolve bytes table known (record { at = at; type = T } ∷ []) → CanResolve bytes table known (fields table at Us)
  can_struct known at T Us f r =
      let opened : Opened = record { label = Label.struct; blocks = []; parts = fields table at Us } in
      let u = known.unclaimed in
      let below = known.naming.below in
      let place : Place = record { at = at; type = T } in
      record {
        left = r.left;
        others = r.others;
        resolves = resolves_as u u r.left r.left (limit below place ∷ r.others) (limited below (fields table at Us) ++ r.others)
            (λ names. open_forth u u r.left below place (Form.struct Us) opened r.others names f refl (λ h other. refl) refl) r.resolves;
      }

  pub advance_more : (old mid new : Known) (ps qs : List Place) → Advances bytes table old mid ps → Advances bytes table mid new qs → Advances bytes table old new (ps ++ qs)
  advance_more old mid new ps qs a b =
      let fs = awaited bytes table a.turns in
      let gs = awaited bytes table b.turns in
      let all = awaited-append a.turns b.turns in
      let below = old.naming.below in
      let mine = limited below ps in
      let theirs = limited below qs in
      let both : limited below (ps ++ qs) ≡ mine ++ theirs = limited_append below ps qs in
      let now : limited mid.naming.below qs ≡ theirs = ap (λ (l : Option ℕ). limited l qs) a.finds.below_kept in
      record {
        turns = a.turns ++ b.turns;
        turns_are = b.turns_are ∙ ap (λ ts. ts ++ b.turns) a.turns_are ∙ append_assoc old.turns a.turns b.turns;
        are_waiting = waiting_both a.turns b.turns a.are_waiting b.are_waiting;
        within = within_trans new.unclaimed mid.unclaimed old.unclaimed b.within a.within;
        counted = (λ c. b.counted (a.counted c));
        found = a.found ++ b.found;
        finds = finds_more bytes old mid new a.found b.found a.finds b.finds;
        forth = (λ left others r.
            let first = a.forth left (theirs ++ others) (subst (λ xs. Resolves bytes table old.unclaimed left xs) (ap (λ xs. xs ++ others) both ∙ append_assoc mine theirs others) r) in
            let second = b.forth left (fs ++ others) (subst (λ xs. Resolves bytes table mid.unclaimed left (xs ++ (fs ++ others))) (sym now) (swapped mid.unclaimed left fs theirs others first)) in
            subst (λ xs. Resolves bytes table new.unclaimed left xs) (sym (append_assoc fs gs others) ∙ ap (λ xs. xs ++ others) (sym all)) (swapped new.unclaimed left gs fs others second));
        back = (λ left others names r.
            let split = subst (λ xs. ResolvesBy bytes table new.unclaimed left xs names) (ap (λ xs. xs ++ others) all ∙ append_assoc fs gs others) r in
            let first = b.back left (fs ++ others) names (resolves_swap new.unclaimed left fs gs others names split) in
            let moved = resolves_swap mid.unclaimed left theirs fs others (b.found ++ names) (subst (λ xs. ResolvesBy bytes table mid.unclaimed left (xs ++ (fs ++ others)) (b.found ++ names)) now first) in
            let second = a.back left (theirs ++ others) (b.found ++ names) moved in
            let named = subst (λ ns. ResolvesBy bytes table old.unclaimed left (mine ++ (theirs ++ others)) ns) (sym (append_assoc a.found b.found names)) second in
            subst (λ xs. ResolvesBy bytes table old.unclaimed left xs ((a.found ++ b.found) ++ names)) (sym (ap (λ xs. xs ++ others) both ∙ append_assoc mine theirs others)) named);
      }

  -- places that can be resolved can still be resolved after a step
  pub can_more : (old mid : Known) (ps qs : List Place) → Advances bytes table old mid ps → CanResolve bytes table old (ps ++ qs) → CanResolve bytes table mid qs
  can_more old mid ps qs a r =
      let fs = awaited bytes table a.turns in
      let below = old.naming.below in
      let theirs = limited below qs in
      let now : limited mid.naming.below qs ≡ theirs = ap (λ (l : Option ℕ). limited l qs) a.finds.below_kept in
      record {
        left = r.left;
        others = fs ++ r.others;
        resolves = subst (λ xs. Resolves bytes table mid.unclaimed r.left (xs ++ (fs ++ r.others))) (sym now) (swapped mid.unclaimed r.left fs theirs r.others (a.forth r.left (theirs ++ r.others)
            (subst (λ xs. Resolves bytes table old.unclaimed r.left xs) (ap (λ xs. xs ++ r.others) (limited_append below ps qs) ∙ append_assoc (limited below ps) theirs r.others) r.resolves)));
      }

  pub can_front : (known : Known) (ps qs : List Place) → CanResolve bytes table known (ps ++ qs) → CanResolve bytes table known ps
  can_front known ps qs r =
      let below = known.naming.below in
      record {
        left = r.left;
        others = limited below qs ++ r.others;
        resolves = subst (λ xs. Resolves bytes table known.unclaimed r.left xs) (ap (λ xs. xs ++ r.others) (limited_append below ps qs) ∙ append_assoc (limited below ps) (limited below qs) r.others) r.resolves;
      }

  pub ready_found : (old new : Known) (names : List ℕ) → IsReady bytes table old → Within new.unclaimed old.unclaimed → Finds bytes old new names → IsReady bytes table new
  ready_found old new names ready within finds = record {
    is_table = ready.is_table;
    heap = ready.heap;
    allocated = (λ h. finds.allocated_kept h ∙ ready.allocated h);
    blocks = (λ h some. ready.blocks h (omega (arith, within h)));
    few = omega (arith, ready.few, within_length new.unclaimed old.unclaimed within);
    small = ready.small;
    standing = (λ h. omega (arith, finds.standing_within h, ready.standing h));
    frozen = (λ h f. finds.standing_kept h f ∙ ready.frozen h f);
    slots = (λ T U f. omega (arith, ready.slots T U f, finds.slots_kept));
  }

  pub ready_now : (old new : Known) (ps : List Place) → IsReady bytes table old → Advances bytes table old new ps → IsReady bytes table new
  ready_now old new ps ready a = ready_found old new a.found ready a.within a.finds

  pub steps_refused : {A : Type 0} (old new : Known) (places : List Place) (r : Result A ContentFault) (e : ContentFault) (P : Type 0) → r ≡ Err e → (CanResolve bytes table old places → P) → Refutes e P
      → LacksAt bytes table e → Steps bytes table old new places r
  steps_refused old new places r e P is lead refused lacks = subst (λ x. Steps bytes table old new places x) (sym is) (refuses_map e P (CanResolve bytes table old places) lead refused, lacks)
