-- Places that contain values, whose cells point to objects with numbers below the limits.
use Rattle.std.proofs.Common.{◌≡◌, ℕ, List, [], ◌∷◌, ◌++◌, map, Option, refl, sym, ap, ◌∙◌, subst}
use Rattle.std.specs.List.{AllByRecursion}
use Rattle.std.proofs.lemmas.List.{append_assoc, map-append}
use Rattle.seg_spec.specs.Types.{Table}
use Rattle.seg_spec.specs.Value.{Label, Value, node, Values, nil, cons, append}
use Rattle.seg_spec.specs.Reads.{Place, HoldsEach, holds_none, holds_more}
use Rattle.seg_spec.specs.Shared.{names_in, names_each}
use Rattle.seg_spec.proofs.Values.PlaceFrameLaws.{each_left, each_right}
use Rattle.seg_spec.proofs.Values.OneValueLaws.{Holds-one}
use Rattle.seg_spec.proofs.Images.LooseRootLaws.{each_joined}
use Rattle.seg_check.specs.Naming.{CanBeTarget}
use Rattle.seg_check.specs.Turns.{Limited, limited}
use Rattle.seg_check.specs.Resolving.{ReadsEach, reads_none, reads_more}

-- ---- the targets of values

-- the target of a shared cell itself
abbrev pub own_names : Label → List Place
own_names (Label.int n) = []
own_names (Label.text bytes) = []
own_names Label.seq = []
own_names (Label.map keys) = []
own_names Label.opt = []
own_names Label.struct = []
own_names (Label.shared T p) = record { at = p; type = T } ∷ []

pub names_node : (label : Label) (vs : Values) → names_in (node label vs) ≡ own_names label ++ names_each vs
unfolding names_in
names_node (Label.int n) vs = refl
names_node (Label.text bytes) vs = refl
names_node Label.seq vs = refl
names_node (Label.map keys) vs = refl
names_node Label.opt vs = refl
names_node Label.struct vs = refl
names_node (Label.shared T p) vs = refl

pub names_nil : names_each nil ≡ []
unfolding names_each
names_nil = refl

pub names_cons : (v : Value) (vs : Values) → names_each (cons v vs) ≡ names_in v ++ names_each vs
unfolding names_each
names_cons v vs = refl

pub names_append : (vs ws : Values) → names_each (append vs ws) ≡ names_each vs ++ names_each ws
names_append nil ws = sym (ap (λ ns. ns ++ names_each ws) names_nil)
names_append (cons v vs) ws =
    names_cons v (append vs ws) ∙ ap (λ ns. names_in v ++ ns) (names_append vs ws) ∙ sym (append_assoc (names_in v) (names_each vs) (names_each ws)) ∙ ap (λ ns. ns ++ names_each ws) (sym (names_cons v vs))

-- the positions of these targets
abbrev pub positions_of : List Place → List ℕ
positions_of names = map (λ q. q.at) names

pub positions_append : (ps qs : List Place) → positions_of (ps ++ qs) ≡ positions_of ps ++ positions_of qs
positions_append ps qs = map-append (λ (q : Place). q.at) ps qs

-- ---- places with the same limit

pub limited_append : (below : Option ℕ) (ps qs : List Place) → limited below (ps ++ qs) ≡ limited below ps ++ limited below qs
limited_append below [] qs = refl
limited_append below (p ∷ ps) qs = ap (λ xs. record { place = p; below = below } ∷ xs) (limited_append below ps qs)

module _ (bytes : List ℕ) (table : Table) where
  -- a place contains at most one value
  pub reads_one : {ps : List Limited} {vs ws : Values} {bs cs : List ℕ} → ReadsEach bytes table ps vs bs → ReadsEach bytes table ps ws cs → vs ≡ ws
  reads_one reads_none reads_none = refl
  reads_one (reads_more h n r) (reads_more k m s) = let e = (Holds-one bytes table h k).0 in let f = reads_one r s in λ i. cons (e i) (f i)

  pub reads_joined : {ps qs : List Limited} {vs ws : Values} {bs cs : List ℕ} → ReadsEach bytes table ps vs bs → ReadsEach bytes table qs ws cs → ReadsEach bytes table (ps ++ qs) (append vs ws) (bs ++ cs)
  reads_joined reads_none k = k
  reads_joined {cs = cs} (reads_more {blocks = mine} {owned = others} h n hs) k = rw (append_assoc mine others cs) (reads_more h n (reads_joined hs k))

  pub record ReadsSplit (xs ys : List Limited) (vs : Values) (owned : List ℕ) : Type 0 where
    pub lefts : Values
    pub rights : Values
    pub front : List ℕ
    pub back : List ℕ
    pub left : ReadsEach bytes table xs lefts front
    pub right : ReadsEach bytes table ys rights back
    pub owned_is : owned ≡ front ++ back
    pub names_are : names_each vs ≡ names_each lefts ++ names_each rights

  pub reads_split : (xs ys : List Limited) (vs : Values) (owned : List ℕ) → ReadsEach bytes table (xs ++ ys) vs owned → ReadsSplit xs ys vs owned
  reads_split [] ys vs owned h = record {
    lefts = nil;
    rights = vs;
    front = [];
    back = owned;
    left = reads_none;
    right = h;
    owned_is = refl;
    names_are = sym (ap (λ ns. ns ++ names_each vs) names_nil);
  }
  reads_split (x ∷ xs) ys vs owned (reads_more {v = u} {vs = us} {blocks = mine} {owned = rest} first named more) =
      let s = reads_split xs ys us rest more in
      record {
        lefts = cons u s.lefts;
        rights = s.rights;
        front = mine ++ s.front;
        back = s.back;
        left = reads_more first named s.left;
        right = s.right;
        owned_is = ap (λ bs. mine ++ bs) s.owned_is ∙ sym (append_assoc mine s.front s.back);
        names_are = names_cons u us ∙ ap (λ ns. names_in u ++ ns) s.names_are ∙ sym (append_assoc (names_in u) (names_each s.lefts) (names_each s.rights))
            ∙ ap (λ ns. ns ++ names_each s.rights) (sym (names_cons u s.lefts));
      }

  -- places that contain values read these under a limit, if the values point to objects below the
  -- limit
  pub reads_limited : (below : Option ℕ) {ps : List Place} {vs : Values} {bs : List ℕ} → HoldsEach bytes table ps vs bs → AllByRecursion (CanBeTarget bytes table below) (names_each vs) → ReadsEach bytes table (limited below ps) vs bs
  reads_limited below holds_none n = reads_none
  reads_limited below (holds_more {v = v} {vs = vs} h hs) n =
      let both : AllByRecursion (CanBeTarget bytes table below) (names_in v ++ names_each vs) = subst (AllByRecursion (CanBeTarget bytes table below)) (names_cons v vs) n in
      reads_more h (each_left (CanBeTarget bytes table below) (names_in v) (names_each vs) both) (reads_limited below hs (each_right (CanBeTarget bytes table below) (names_in v) (names_each vs) both))

  pub holds_limited : (below : Option ℕ) (ps : List Place) {vs : Values} {bs : List ℕ} → ReadsEach bytes table (limited below ps) vs bs → HoldsEach bytes table ps vs bs × AllByRecursion (CanBeTarget bytes table below) (names_each vs)
  holds_limited below [] reads_none = (holds_none, subst (AllByRecursion (CanBeTarget bytes table below)) (sym names_nil) tt)
  holds_limited below (p ∷ ps) (reads_more {v = v} {vs = vs} h n hs) =
      let rest = holds_limited below ps hs in
      (holds_more h rest.0, subst (AllByRecursion (CanBeTarget bytes table below)) (sym (names_cons v vs)) (each_joined (CanBeTarget bytes table below) (names_in v) (names_each vs) n rest.1))
