-- A vector, a list or a map with one more part: the other parts stay, and the new one owns no blocks. So from
-- places that are alike it is alike again.
use Rattle.std.proofs.Common.{◌≡◌, ◌≢◌, ℕ, ◌+◌, ◌-◌, ◌*◌, ◌≤◌, ◌⊎◌, inl, inr, true, List, [], ◌∷◌, ◌++◌, length, map, Option, Some, None, option_map, option_to_list, MatchOption, refl, sym, ap, ◌∙◌, subst, arith, length-append}
use Rattle.std.specs.List.{AllByRecursion}
use Rattle.std.proofs.lemmas.List.{append-nil, length-map}
use Rattle.std.proofs.lemmas.Bool.{cases_eq}
use Rattle.seg_spec.specs.Pointer.{target}
use Rattle.seg_spec.specs.Types.{Form, Table, form_at}
use Rattle.seg_spec.specs.Value.{Value, Values, node, nil, cons, append}
use Rattle.seg_spec.specs.Block.{IsBlock, block_of, has_buffer, has_nodes}
use Rattle.seg_spec.specs.Shapes.{nodes_of}
use Rattle.seg_spec.specs.Reads.{Place, Opened, Opens, Holds, holds, HoldsEach, holds_none, holds_more, places_of, count_at, named, NamesRoom, map_words}
use Rattle.seg_spec.specs.Parts.{PersistEach, KeepsParts}
use Rattle.seg_spec.specs.Sound.{times}
use Rattle.seg_spec.proofs.Heap.LiveBlockLaws.{times-append, times-same, times-other}
use Rattle.seg_spec.proofs.Values.OneValueLaws.{Opens-one, HoldsEach-one}
use Rattle.seg_spec.proofs.Values.PersistenceLaws.{HoldsEach-persist, one_split}
use Rattle.seg_spec.proofs.Values.PlaceFrameLaws.{each_left, each_right}
use Rattle.seg_spec.proofs.Values.ValueTypeLaws.{length-spaced}
use Rattle.test_definitions.specs.Alike.{AlikeAt, opens_alike, AlikeEach, none_alike, more_alike}
use Rattle.test_definitions.proofs.ValueChanges.AlikePlaceLaws.{open_alike, each_alike, buffer_blocks}
use Rattle.test_definitions.proofs.ValueChanges.BareValueLaws.{bare_alike}
use Rattle.test_definitions.proofs.ValueChanges.PersistAlikeLaws.{Fits, open_as_one, persist_each_alike, persist_long}
use Rattle.test_definitions.proofs.ValueChanges.AddedValueLaws.{IsContainer, SeenLabel, seq_seen, map_seen}
use Rattle.test_definitions.proofs.Steps.TextStepLaws.{members_one}

-- ---- lists

joined : (xs ys zs : List ℕ) → xs ++ (ys ++ zs) ≡ (xs ++ ys) ++ zs
joined [] ys zs = refl
joined (x ∷ xs) ys zs = ap (λ ws. x ∷ ws) (joined xs ys zs)

pub none_in : (ps : List Place) → length ps ≡ 0 → ps ≡ []
none_in [] e = refl
none_in (p ∷ ps) e = absurd (omega (arith, e))

pub one_in : (ps : List Place) → length ps ≡ 1 → (p : Place) × (ps ≡ p ∷ [])
one_in [] e = absurd (omega (arith, e))
one_in (p ∷ []) e = (p, refl)
one_in (p ∷ q ∷ ps) e = absurd (omega (arith, e))

-- ---- parts in two lists

module _ (bytes : List ℕ) (table : Table) where
  pub record Halves (ps qs : List Place) (vs : Values) (blocks : List ℕ) : Type 0 where
    pub left : Values
    pub right : Values
    pub xs : List ℕ
    pub ys : List ℕ
    pub lefts : HoldsEach bytes table ps left xs
    pub rights : HoldsEach bytes table qs right ys
    pub values_are : vs ≡ append left right
    pub blocks_are : blocks ≡ xs ++ ys

  pub halves : (ps qs : List Place) {vs : Values} {blocks : List ℕ} → HoldsEach bytes table (ps ++ qs) vs blocks → Halves ps qs vs blocks
  halves [] qs {vs = vs} {blocks = blocks} hs = record { left = nil; right = vs; xs = []; ys = blocks; lefts = holds_none; rights = hs; values_are = refl; blocks_are = refl }
  halves (p ∷ ps) qs (holds_more {v = v} {blocks = bs} h hs) =
      let r = halves ps qs hs in
      record {
        left = cons v r.left;
        right = r.right;
        xs = bs ++ r.xs;
        ys = r.ys;
        lefts = holds_more h r.lefts;
        rights = r.rights;
        values_are = ap (cons v) r.values_are;
        blocks_are = ap (λ zs. bs ++ zs) r.blocks_are ∙ joined bs r.xs r.ys;
      }

  -- a place whose parts are in two lists
  pub record Was (place : Place) (form : Form) (front rest : List Place) (left right : Values) (xs ys : List ℕ) (v : Value) (its : List ℕ) : Type 0 where
    pub before : Opened
    pub opens : Opens bytes table place form before
    pub parts_are : before.parts ≡ front ++ rest
    pub lefts : HoldsEach bytes table front left xs
    pub rights : HoldsEach bytes table rest right ys
    pub value_is : v ≡ node before.label (append left right)
    pub blocks_are : its ≡ before.blocks ++ (xs ++ ys)

module _ (first second : List ℕ) (table : Table) where
  pub alike_left : (ps qs : List Place) → AlikeEach first second table (ps ++ qs) → AlikeEach first second table ps
  alike_left [] qs a = none_alike
  alike_left (p ∷ ps) qs (more_alike a rest) = more_alike a (alike_left ps qs rest)

  pub alike_right : (ps qs : List Place) → AlikeEach first second table (ps ++ qs) → AlikeEach first second table qs
  alike_right [] qs a = a
  alike_right (p ∷ ps) qs (more_alike a rest) = alike_right ps qs rest

  pub alike_joined : (ps qs : List Place) → AlikeEach first second table ps → AlikeEach first second table qs → AlikeEach first second table (ps ++ qs)
  alike_joined [] qs none_alike b = b
  alike_joined (p ∷ ps) qs (more_alike a rest) b = more_alike a (alike_joined ps qs rest b)

  -- the same parts of the other image
  pub record WasAlike (place : Place) (form : Form) (front rest : List Place) (left right : Values) (xs ys : List ℕ) (v : Value) (its : List ℕ) : Type 0 where
    pub was : Was second table place form front rest left right xs ys v its
    pub fronts : AlikeEach first second table front
    pub rests : AlikeEach first second table rest

  pub was_alike : {place : Place} {form : Form} {front rest : List Place} {left right : Values} {xs ys : List ℕ} {v : Value} {its : List ℕ} → form_at table place.type ≡ Some form → AlikeAt first second table place
      → Was first table place form front rest left right xs ys v its → WasAlike place form front rest left right xs ys v its
  was_alike {form = form} {front = front} {rest = rest} f alike w =
      let two = open_alike first second table form w.before f w.opens alike in
      let parts = subst (AlikeEach first second table) w.parts_are two.parts in
      let fronts = alike_left front rest parts in
      let rests = alike_right front rest parts in
      record {
        was = record {
          before = w.before;
          opens = two.opens;
          parts_are = w.parts_are;
          lefts = each_alike first second table w.lefts fronts;
          rights = each_alike first second table w.rights rests;
          value_is = w.value_is;
          blocks_are = w.blocks_are;
        };
        fronts = fronts;
        rests = rests;
      }

-- ---- the parts of a vector, a list or a map

-- as many as the cell counts
pub container_long : (bytes : List ℕ) (table : Table) (place : Place) (form : Form) (o : Opened) → IsContainer form → Opens bytes table place form o → length o.parts ≡ count_at bytes place.at
container_long bytes table place (Form.vec U) o s p = ap (λ (x : Opened). length x.parts) p.opened_is ∙ length-map _ (λ q. record { at = q; type = U }) ∙ length-spaced _ _ _
container_long bytes table place (Form.list U) o s p =
    ap (λ (x : Opened). length x.parts) p.opened_is ∙ length-map _ (λ q. record { at = q; type = U }) ∙ length-map p.nodes (λ q. q + 8) ∙ p.counted
container_long bytes table place (Form.flat_map U) o s p =
    ap (λ (x : Opened). length x.parts) p.opened_is ∙ length-map _ (λ q. record { at = q; type = U }) ∙ length-map _ (λ q. q + 8) ∙ length-spaced _ _ _
container_long bytes table place (Form.map U) o s p =
    ap (λ (x : Opened). length x.parts) p.opened_is ∙ length-map _ (λ q. record { at = q; type = U }) ∙ length-map (nodes_of p.tree) (λ q. q + map_words) ∙ p.counted
container_long bytes table place form o s p = absurd s

pub container_label : (bytes : List ℕ) (table : Table) (place : Place) (form : Form) (o : Opened) → IsContainer form → Opens bytes table place form o → SeenLabel o.label
container_label bytes table place (Form.vec U) o s p = subst SeenLabel (sym (ap (λ (x : Opened). x.label) p.opened_is)) seq_seen
container_label bytes table place (Form.list U) o s p = subst SeenLabel (sym (ap (λ (x : Opened). x.label) p.opened_is)) seq_seen
container_label bytes table place (Form.flat_map U) o s p = subst SeenLabel (sym (ap (λ (x : Opened). x.label) p.opened_is)) (map_seen _)
container_label bytes table place (Form.map U) o s p = subst SeenLabel (sym (ap (λ (x : Opened). x.label) p.opened_is)) (map_seen _)
container_label bytes table place form o s p = absurd s

-- the blocks of nodes, by the parts in them
nodes_back : (U n : ℕ) (ns : List ℕ) → map block_of ns ≡ map (λ (q : Place). block_of (q.at - n)) (places_of U (map (λ p. p + n) ns))
nodes_back U n [] = refl
nodes_back U n (m ∷ ns) = (let same : block_of m ≡ block_of (m + n - n) = omega arith in λ j. same j ∷ nodes_back U n ns j)

-- where a part is in its node
abbrev pub into_node : Form → ℕ
into_node (Form.map U) = map_words
into_node form = 8

pub node_blocks : (bytes : List ℕ) (table : Table) (place : Place) (form : Form) (o : Opened) → has_nodes (Some form) ≡ true → Opens bytes table place form o → o.blocks ≡ map (λ (q : Place). block_of (q.at - into_node form)) o.parts
node_blocks bytes table place (Form.list U) o e p =
    ap (λ (x : Opened). x.blocks) p.opened_is ∙ nodes_back U 8 p.nodes ∙ sym (ap (λ (x : Opened). map (λ (q : Place). block_of (q.at - 8)) x.parts) p.opened_is)
node_blocks bytes table place (Form.map U) o e p =
    ap (λ (x : Opened). x.blocks) p.opened_is ∙ nodes_back U map_words (nodes_of p.tree) ∙ sym (ap (λ (x : Opened). map (λ (q : Place). block_of (q.at - map_words)) x.parts) p.opened_is)
node_blocks bytes table place form o e p = cc

-- a container has a buffer or nodes
pub buffer_or_nodes : (form : Form) → IsContainer form → (has_buffer (Some form) ≡ true) ⊎ (has_nodes (Some form) ≡ true)
buffer_or_nodes (Form.vec U) s = inl refl
buffer_or_nodes (Form.list U) s = inr refl
buffer_or_nodes (Form.flat_map U) s = inl refl
buffer_or_nodes (Form.map U) s = inr refl
buffer_or_nodes form s = absurd s

pub map_joined : (f : Place → ℕ) (ps qs : List Place) → map f (ps ++ qs) ≡ map f ps ++ map f qs
map_joined f [] qs = refl
map_joined f (p ∷ ps) qs = ap (λ xs. f p ∷ xs) (map_joined f ps qs)

-- ---- a new part

module _ (old new : List ℕ) (table : Table) (place : Place) (form : Form) (f : form_at table place.type ≡ Some form) (container : IsContainer form) where
  -- the old parts
  pub record WasThere (from : ℕ) (v : Value) (its : List ℕ) : Type 0 where
    pub front : List Place
    pub rest : List Place
    pub left : Values
    pub right : Values
    pub xs : List ℕ
    pub ys : List ℕ
    pub was : Was old table place form front rest left right xs ys v its
    pub long : length front ≡ from

  same_form : (other : Form) → form_at table place.type ≡ Some other → other ≡ form
  same_form other g = cc

  pub was_there : (from : ℕ) → KeepsParts old new table place from 0 1 → {v : Value} {its : List ℕ} → Holds old table place v its → WasThere from v its
  was_there from k (holds form0 before inside owned f0 o0 hs v_is its_are) =
      let t = k.stay in
      let opens = subst (λ (g : Form). Opens old table place g before) (same_form form0 f0) o0 in
      let befores : k.before ≡ before = Opens-one old table place form k.before before (subst (λ (g : Form). Opens old table place g k.before) (same_form k.form k.form_is) k.opens_before) opens in
      let parts : before.parts ≡ t.front ++ t.rest = ap (λ (x : Opened). x.parts) (sym befores) ∙ t.before_are ∙ ap (λ ps. t.front ++ (ps ++ t.rest)) (none_in t.went t.gone_are) in
      let h = halves old table t.front t.rest (subst (λ ps. HoldsEach old table ps inside owned) parts hs) in
      record {
        front = t.front;
        rest = t.rest;
        left = h.left;
        right = h.right;
        xs = h.xs;
        ys = h.ys;
        was = record {
          before = before;
          opens = opens;
          parts_are = parts;
          lefts = h.lefts;
          rights = h.rights;
          value_is = v_is ∙ ap (node before.label) h.values_are;
          blocks_are = its_are ∙ ap (λ bs. before.blocks ++ bs) h.blocks_are;
        };
        long = t.from_is;
      }

  -- the new part between the others
  pub record Came (front rest : List Place) (left right : Values) (xs ys : List ℕ) (w : Value) (news : List ℕ) : Type 0 where
    pub after : Opened
    pub opens : Opens new table place form after
    pub front_now : List Place
    pub part : Place
    pub rest_now : List Place
    pub parts_are : after.parts ≡ front_now ++ part ∷ rest_now
    pub front_stays : PersistEach old new table front front_now
    pub rest_stays : PersistEach old new table rest rest_now
    pub in_nodes : has_nodes (Some form) ≡ true → (front_now ≡ front) × (rest_now ≡ rest)
    pub value : Value
    pub its : List ℕ
    pub lefts : HoldsEach new table front_now left xs
    pub holds_it : Holds new table part value its
    pub rights : HoldsEach new table rest_now right ys
    pub value_is : w ≡ node after.label (append left (cons value right))
    pub blocks_are : news ≡ after.blocks ++ (xs ++ (its ++ ys))

  one_held : {part : Place} {vs : Values} {blocks : List ℕ} → HoldsEach new table (part ∷ []) vs blocks → (v : Value) × Holds new table part v blocks × (vs ≡ cons v nil)
  one_held {part = part} (holds_more {v = v} {blocks = bs} h holds_none) = (v, subst (Holds new table part v) (sym (append-nil bs)) h, refl)

  pub came_there : (from : ℕ) {front rest : List Place} {left right : Values} {xs ys : List ℕ} {v : Value} {its : List ℕ} → Was old table place form front rest left right xs ys v its → length front ≡ from
      → KeepsParts old new table place from 0 1 → {w : Value} {news : List ℕ} → Holds new table place w news → Came front rest left right xs ys w news
  came_there from {front} {rest} {left} {right} {xs} {ys} w front_long k {news = news} (holds form1 after inside owned f1 o1 hs w_is news_are) =
      let t = k.stay in
      let opens = subst (λ (g : Form). Opens new table place g after) (same_form form1 f1) o1 in
      let befores : k.before ≡ w.before = Opens-one old table place form k.before w.before (subst (λ (g : Form). Opens old table place g k.before) (same_form k.form k.form_is) k.opens_before) w.opens in
      let afters : k.after ≡ after = Opens-one new table place form k.after after (subst (λ (g : Form). Opens new table place g k.after) (same_form k.form k.form_is) k.opens_after) opens in
      let parts : t.front ++ t.rest ≡ front ++ rest = sym (t.before_are ∙ ap (λ ps. t.front ++ (ps ++ t.rest)) (none_in t.went t.gone_are)) ∙ ap (λ (x : Opened). x.parts) befores ∙ w.parts_are in
      let long : length t.front ≡ length front = t.from_is ∙ sym front_long in
      let same = one_split t.front t.rest front rest long parts in
      let one = one_in t.came t.come_are in
      let parts_now : after.parts ≡ t.front_now ++ one.0 ∷ t.rest_now = ap (λ (x : Opened). x.parts) (sym afters) ∙ t.after_are ∙ ap (λ ps. t.front_now ++ (ps ++ t.rest_now)) one.1 in
      let front_stays = subst (λ ps. PersistEach old new table ps t.front_now) same.0 t.front_stays in
      let rest_stays = subst (λ ps. PersistEach old new table ps t.rest_now) same.1 t.rest_stays in
      let a = halves new table t.front_now (one.0 ∷ t.rest_now) (subst (λ ps. HoldsEach new table ps inside owned) parts_now hs) in
      let b = halves new table (one.0 ∷ []) t.rest_now a.rights in
      let new_part = one_held b.lefts in
      let lefts = HoldsEach-persist old new table w.lefts front_stays in
      let rights = HoldsEach-persist old new table w.rights rest_stays in
      let left_same = HoldsEach-one new table a.lefts lefts in
      let right_same = HoldsEach-one new table b.rights rights in
      record {
        after = after;
        opens = opens;
        front_now = t.front_now;
        part = one.0;
        rest_now = t.rest_now;
        parts_are = parts_now;
        front_stays = front_stays;
        rest_stays = rest_stays;
        in_nodes = λ e. (
            let n = t.in_nodes (ap (λ (g : Form). has_nodes (Some g)) (same_form k.form k.form_is) ∙ e) in
            (n.0 ∙ same.0, n.1 ∙ same.1));
        value = new_part.0;
        its = b.xs;
        lefts = lefts;
        holds_it = new_part.1;
        rights = rights;
        value_is = w_is ∙ ap (node after.label) (a.values_are ∙ (λ j. append (left_same.0 j) ((b.values_are ∙ (λ i. append (new_part.2 i) (right_same.0 i))) j)));
        blocks_are = news_are ∙ ap (λ bs. after.blocks ++ bs) (a.blocks_are ∙ (λ j. left_same.1 j ++ ((b.blocks_are ∙ ap (λ bs. b.xs ++ bs) right_same.1) j)));
      }

-- ---- two images

-- a member of the first blocks is one of the others, since no block is in both lists
pub in_first : (xs bs cs zs ys : List ℕ) → xs ≡ bs ++ zs → ys ≡ cs ++ zs → ((h : ℕ) → 1 ≤ times h xs → 1 ≤ times h ys) → ((h : ℕ) → times h xs ≤ 1) → (h : ℕ) → 1 ≤ times h bs → 1 ≤ times h cs
in_first xs bs cs zs ys e f forth once h some = (
    let a = ap (times h) e ∙ times-append h bs zs in
    let b = forth h (omega (arith, a, some)) in
    let c = ap (times h) f ∙ times-append h cs zs in
    omega (arith, a, some, once h, b, c))

-- two lists with the same members, which differ in one place
one_differs : (left right more : List ℕ) (x y : ℕ) (xs ys : List ℕ) → xs ≡ (left ++ x ∷ right) ++ more → ys ≡ (left ++ y ∷ right) ++ more → ((h : ℕ) → 1 ≤ times h xs → 1 ≤ times h ys) → ((h : ℕ) → times h xs ≤ 1) → y ≡ x
one_differs left right more x y xs ys e f forth once = go (cases_eq y x)
  where
    go : (y ≡ x) ⊎ (y ≢ x) → y ≡ x
    go (inl same) = same
    go (inr other) =
        let a = ap (times x) e ∙ times-append x (left ++ x ∷ right) more in
        let b = times-append x left (x ∷ right) in
        let c = times-same x right in
        let g = ap (times x) f ∙ times-append x (left ++ y ∷ right) more in
        let h = times-append x left (y ∷ right) in
        let k = times-other x y right other in
        let there = forth x (omega (arith, a, b, c)) in
        absurd (omega (arith, a, b, c, g, h, k, there, once x))

module _ (old new other another : List ℕ) (table : Table) (place : Place) (form : Form) (f : form_at table place.type ≡ Some form) (container : IsContainer form) {front rest : List Place} {left right : Values} {us vs : List ℕ} {a b : Value}
    {xs ys : List ℕ} (c : Came old new table place form f container front rest left right us vs a xs) (d : Came other another table place form f container front rest left right us vs b ys) (none : c.its ≡ []) (none_too : d.its ≡ [])
    (forth : (h : ℕ) → 1 ≤ times h xs → 1 ≤ times h ys) (back : (h : ℕ) → 1 ≤ times h ys → 1 ≤ times h xs) (once : (h : ℕ) → times h xs ≤ 1) (once_too : (h : ℕ) → times h ys ≤ 1) where
  xs_are : xs ≡ c.after.blocks ++ (us ++ vs)
  xs_are = c.blocks_are ∙ ap (λ bs. c.after.blocks ++ (us ++ (bs ++ vs))) none

  ys_are : ys ≡ d.after.blocks ++ (us ++ vs)
  ys_are = d.blocks_are ∙ ap (λ bs. d.after.blocks ++ (us ++ (bs ++ vs))) none_too

  -- the same buffer, or the same nodes
  blocks_same : (has_buffer (Some form) ≡ true) ⊎ (has_nodes (Some form) ≡ true) → c.after.blocks ≡ d.after.blocks
  blocks_same (inl buffer) =
      let mine : c.after.blocks ≡ named new place.at = buffer_blocks new table place c.after form buffer c.opens in
      let theirs : d.after.blocks ≡ named another place.at = buffer_blocks another table place d.after form buffer d.opens in
      let x = xs_are ∙ ap (λ bs. bs ++ (us ++ vs)) mine in
      let y = ys_are ∙ ap (λ bs. bs ++ (us ++ vs)) theirs in
      mine ∙ members_one (target new place.at) (target another place.at) (in_first xs (named new place.at) (named another place.at) (us ++ vs) ys x y forth once)
      (in_first ys (named another place.at) (named new place.at) (us ++ vs) xs y x back once_too) ∙ sym theirs
  blocks_same (inr nodes) =
      let g = λ (q : Place). block_of (q.at - into_node form) in
      let n = c.in_nodes nodes in
      let m = d.in_nodes nodes in
      let mine : c.after.blocks ≡ map g front ++ g c.part ∷ map g rest =
      node_blocks new table place form c.after nodes c.opens ∙ ap (map g) c.parts_are ∙ map_joined g c.front_now (c.part ∷ c.rest_now) ∙ (λ j. map g (n.0 j) ++ g c.part ∷ map g (n.1 j)) in
      let theirs : d.after.blocks ≡ map g front ++ g d.part ∷ map g rest =
      node_blocks another table place form d.after nodes d.opens ∙ ap (map g) d.parts_are ∙ map_joined g d.front_now (d.part ∷ d.rest_now) ∙ (λ j. map g (m.0 j) ++ g d.part ∷ map g (m.1 j)) in
      let same = one_differs (map g front) (map g rest) (us ++ vs) (g c.part) (g d.part) xs ys (xs_are ∙ ap (λ bs. bs ++ (us ++ vs)) mine) (ys_are ∙ ap (λ bs. bs ++ (us ++ vs)) theirs) forth once in
      mine ∙ (λ j. map g front ++ sym same j ∷ map g rest) ∙ sym theirs

  pub came_alike : AlikeEach old other table front → AlikeEach old other table rest → c.after.label ≡ d.after.label → c.value ≡ d.value → AllByRecursion (Fits new) xs → AllByRecursion (Fits another) ys → AlikeAt new another table place
  came_alike fronts rests labels values fits fits_too =
      let blocks = blocks_same (buffer_or_nodes form container) in
      let front_long : length c.front_now ≡ length d.front_now = persist_long old new table c.front_stays ∙ sym (persist_long other another table d.front_stays) in
      let rest_long : length c.rest_now ≡ length d.rest_now = persist_long old new table c.rest_stays ∙ sym (persist_long other another table d.rest_stays) in
      let long : length c.after.parts ≡ length d.after.parts = (
      let x = ap length c.parts_are ∙ length-append c.front_now (c.part ∷ c.rest_now) in
      let y = ap length d.parts_are ∙ length-append d.front_now (d.part ∷ d.rest_now) in
      omega (arith, x, y, front_long, rest_long)) in
      let all = subst (AllByRecursion (Fits new)) xs_are fits in
      let all_too = subst (AllByRecursion (Fits another)) ys_are fits_too in
      let inner = each_right (Fits new) c.after.blocks (us ++ vs) all in
      let inner_too = each_right (Fits another) d.after.blocks (us ++ vs) all_too in
      let one = open_as_one new another table place c.after d.after labels blocks long (each_left (Fits new) c.after.blocks (us ++ vs) all) (each_left (Fits another) d.after.blocks (us ++ vs) all_too) form c.opens d.opens in
      let parts : d.front_now ++ d.part ∷ d.rest_now ≡ c.front_now ++ c.part ∷ c.rest_now = sym d.parts_are ∙ ap (λ (x : Opened). x.parts) (sym one.same) ∙ c.parts_are in
      let split = one_split d.front_now (d.part ∷ d.rest_now) c.front_now (c.part ∷ c.rest_now) (sym front_long) parts in
      let part_same : d.part ≡ c.part = (let e = split.1 in cc) in
      let rest_same : d.rest_now ≡ c.rest_now = (let e = split.1 in cc) in
      let first_alike = persist_each_alike old new other another table fronts c.front_stays (subst (PersistEach other another table front) split.0 d.front_stays) c.lefts (each_left (Fits new) us vs inner)
      (subst (λ ps. HoldsEach another table ps left us) split.0 d.lefts) (each_left (Fits another) us vs inner_too) in
      let rest_alike = persist_each_alike old new other another table rests c.rest_stays (subst (PersistEach other another table rest) rest_same d.rest_stays) c.rights (each_right (Fits new) us vs inner)
      (subst (λ ps. HoldsEach another table ps right vs) rest_same d.rights) (each_right (Fits another) us vs inner_too) in
      let part_alike = bare_alike new another table c.holds_it none (subst (λ (q : Place). Holds another table q d.value d.its) part_same d.holds_it) none_too values in
      opens_alike form c.after f c.opens (subst (λ (z : Opened). Opens another table place form z) (sym one.same) d.opens) one.counts
      (subst (AlikeEach new another table) (sym c.parts_are) (alike_joined new another table c.front_now (c.part ∷ c.rest_now) first_alike (more_alike part_alike rest_alike)))

-- ---- the blocks of the place

-- the buffer, which may be freed; nodes stay
abbrev pub may_go : Form → List ℕ → List ℕ
may_go (Form.list U) blocks = []
may_go (Form.map U) blocks = []
may_go form blocks = blocks

pub goes_buffer : (form : Form) (blocks : List ℕ) → has_buffer (Some form) ≡ true → may_go form blocks ≡ blocks
goes_buffer Form.str blocks e = refl
goes_buffer (Form.vec U) blocks e = refl
goes_buffer (Form.flat_map U) blocks e = refl
goes_buffer form blocks e = cc

pub goes_none : (form : Form) (blocks : List ℕ) → has_nodes (Some form) ≡ true → may_go form blocks ≡ []
goes_none (Form.list U) blocks e = refl
goes_none (Form.map U) blocks e = refl
goes_none form blocks e = cc

one_target : (t : Option ℕ) → length (option_to_list (option_map block_of t)) ≤ 1
one_target None = omega arith
one_target (Some p) = omega arith

some_target : (bytes : List ℕ) (at kind each : ℕ) → NamesRoom bytes at kind each → 1 ≤ count_at bytes at → 1 ≤ length (named bytes at)
some_target bytes at kind each = go (target bytes at)
  where
    go : (t : Option ℕ) → MatchOption t (count_at bytes at ≡ 0) (λ p. IsBlock bytes p kind (count_at bytes at * each)) → 1 ≤ count_at bytes at → 1 ≤ length (option_to_list (option_map block_of t))
    go None r some = absurd (omega (arith, r, some))
    go (Some p) r some = omega arith

-- a buffer with items
some_buffer : (bytes : List ℕ) (table : Table) (place : Place) (form : Form) (o : Opened) → has_buffer (Some form) ≡ true → Opens bytes table place form o → 1 ≤ count_at bytes place.at → 1 ≤ length (named bytes place.at)
some_buffer bytes table place Form.str o e p some = some_target bytes place.at _ _ p.named_room some
some_buffer bytes table place (Form.vec U) o e p some = some_target bytes place.at _ _ p.named_room some
some_buffer bytes table place (Form.flat_map U) o e p some = some_target bytes place.at _ _ p.named_room some
some_buffer bytes table place form o e p some = cc

module _ (old new : List ℕ) (table : Table) (place : Place) (form : Form) (f : form_at table place.type ≡ Some form) (container : IsContainer form) where
  -- there is one block more, besides those that went
  pub one_more_block : {front rest : List Place} {left right : Values} {us vs : List ℕ} {v w : Value} {its news : List ℕ} (was : Was old table place form front rest left right us vs v its)
      → (c : Came old new table place form f container front rest left right us vs w news)
      → (length was.before.blocks + 1 ≤ length c.after.blocks + length (may_go form was.before.blocks)) × (length (may_go form was.before.blocks) ≤ 1)
  one_more_block {front} {rest} was c = by (buffer_or_nodes form container)
    where
      by : (has_buffer (Some form) ≡ true) ⊎ (has_nodes (Some form) ≡ true)
          → (length was.before.blocks + 1 ≤ length c.after.blocks + length (may_go form was.before.blocks)) × (length (may_go form was.before.blocks) ≤ 1)
      by (inl buffer) =
          let goes = ap length (goes_buffer form was.before.blocks buffer) in
          let before = ap length (buffer_blocks old table place was.before form buffer was.opens) in
          let after = ap length (buffer_blocks new table place c.after form buffer c.opens) in
          let parts = ap length c.parts_are ∙ length-append c.front_now (c.part ∷ c.rest_now) in
          let counted = container_long new table place form c.after container c.opens in
          let some = some_buffer new table place form c.after buffer c.opens (omega (arith, parts, counted)) in
          (omega (arith, some, after, goes), omega (arith, before, one_target (target old place.at), goes))
      by (inr nodes) =
          let goes = ap length (goes_none form was.before.blocks nodes) in
          let g = λ (q : Place). block_of (q.at - into_node form) in
          let before = ap length (node_blocks old table place form was.before nodes was.opens) ∙ length-map was.before.parts g ∙ ap length was.parts_are ∙ length-append front rest in
          let after = ap length (node_blocks new table place form c.after nodes c.opens) ∙ length-map c.after.parts g ∙ ap length c.parts_are ∙ length-append c.front_now (c.part ∷ c.rest_now) in
          (omega (arith, before, after, goes, persist_long old new table c.front_stays, persist_long old new table c.rest_stays), omega (arith, goes))
