-- A vector, a list or a map that lost one part: the other parts stay. So from places that are alike it is alike again.
use Rattle.std.proofs.Common.{◌≡◌, ℕ, zero, suc, ◌-◌, ◌≤◌, ◌⊎◌, inl, inr, true, List, [], ◌∷◌, ◌++◌, drop, length, map, Some, option_to_list, refl, sym, ap, ◌∙◌, subst, arith, length-append}
use Rattle.std.specs.Prelude.{slice_get}
use Rattle.std.specs.List.{AllByRecursion}
use Rattle.seg_spec.specs.Pointer.{target}
use Rattle.seg_spec.specs.Types.{Form, Table, form_at}
use Rattle.seg_spec.specs.Value.{Value, Values, node, nil, cons, append}
use Rattle.seg_spec.specs.Block.{block_of, has_buffer, has_nodes}
use Rattle.seg_spec.specs.Reads.{Place, Opened, Opens, Holds, holds, HoldsEach, named}
use Rattle.seg_spec.specs.Parts.{PersistEach, KeepsParts}
use Rattle.seg_spec.specs.Shared.{names_in, names_each, replaced}
use Rattle.seg_spec.specs.Sound.{times}
use Rattle.seg_spec.specs.Spending.{item_node, PartBlocks}
use Rattle.seg_spec.proofs.Frozen.PartCountLaws.{SameNames, names_same, names_then, names_joined, names_first, names_cons}
use Rattle.seg_spec.proofs.Heap.LiveBlockLaws.{times-append}
use Rattle.seg_spec.proofs.Values.OneValueLaws.{Opens-one, Holds-one, HoldsEach-one}
use Rattle.seg_spec.proofs.Values.PathSplitLaws.{middle}
use Rattle.seg_spec.proofs.Values.PersistenceLaws.{HoldsEach-persist, one_split}
use Rattle.seg_spec.proofs.Values.PlaceFrameLaws.{each_left, each_right}
use Rattle.test_definitions.specs.Alike.{AlikeAt, opens_alike, AlikeEach, more_alike}
use Rattle.test_definitions.proofs.ValueChanges.AddedValueLaws.{IsContainer, label_in}
use Rattle.test_definitions.proofs.ValueChanges.AlikePlaceLaws.{open_alike, holds_alike, each_alike, buffer_blocks}
use Rattle.test_definitions.proofs.ValueChanges.NewPartLaws.{none_in, one_in, halves, alike_left, alike_right, alike_joined, container_label, into_node, node_blocks, buffer_or_nodes, in_first}
use Rattle.test_definitions.proofs.ValueChanges.PersistAlikeLaws.{Fits, open_as_one, persist_each_alike, persist_long}
use Rattle.test_definitions.proofs.Steps.TextStepLaws.{members_one}

-- ---- the parts before

-- a part between the others, with its value and blocks and theirs
pub record Between : Type 0 where
  pub front : List Place
  pub part : Place
  pub rest : List Place
  pub left : Values
  pub value : Value
  pub right : Values
  pub left_blocks : List ℕ
  pub blocks : List ℕ
  pub right_blocks : List ℕ

-- a place with these parts
pub record Had (bytes : List ℕ) (table : Table) (place : Place) (form : Form) (a : Between) (v : Value) (its : List ℕ) : Type 0 where
  pub before : Opened
  pub opens : Opens bytes table place form before
  pub parts_are : before.parts ≡ a.front ++ a.part ∷ a.rest
  pub lefts : HoldsEach bytes table a.front a.left a.left_blocks
  pub holds_it : Holds bytes table a.part a.value a.blocks
  pub rights : HoldsEach bytes table a.rest a.right a.right_blocks
  pub value_is : v ≡ node before.label (append a.left (cons a.value a.right))
  pub blocks_are : its ≡ before.blocks ++ (a.left_blocks ++ (a.blocks ++ a.right_blocks))

module _ (first second : List ℕ) (table : Table) where
  tail_alike : {x : Place} {xs : List Place} → AlikeEach first second table (x ∷ xs) → AlikeAt first second table x × AlikeEach first second table xs
  tail_alike (more_alike a rest) = (a, rest)

  -- the same parts of the other image
  record HadAlike (place : Place) (form : Form) (a : Between) (v : Value) (its : List ℕ) : Type 0 where
    had : Had second table place form a v its
    fronts : AlikeEach first second table a.front
    rests : AlikeEach first second table a.rest

  had_alike : {place : Place} {form : Form} {a : Between} {v : Value} {its : List ℕ} → form_at table place.type ≡ Some form → AlikeAt first second table place → Had first table place form a v its → HadAlike place form a v its
  had_alike {form = form} {a = a} f alike h =
      let two = open_alike first second table form h.before f h.opens alike in
      let parts = subst (AlikeEach first second table) h.parts_are two.parts in
      let fronts = alike_left first second table a.front (a.part ∷ a.rest) parts in
      let rests = tail_alike (alike_right first second table a.front (a.part ∷ a.rest) parts) in
      record {
        had = record {
          before = h.before;
          opens = two.opens;
          parts_are = h.parts_are;
          lefts = each_alike first second table h.lefts fronts;
          holds_it = holds_alike first second table h.holds_it rests.0;
          rights = each_alike first second table h.rights rests.1;
          value_is = h.value_is;
          blocks_are = h.blocks_are;
        };
        fronts = fronts;
        rests = rests.1;
      }

-- ---- a part that went

get_middle : (front rest : List Place) (part : Place) (from : ℕ) → length front ≡ from → slice_get (front ++ part ∷ rest) from ≡ Some part
get_middle [] rest part zero e = refl
get_middle [] rest part (suc from) e = absurd (omega (arith, e))
get_middle (p ∷ front) rest part zero e = absurd (omega (arith, e))
get_middle (p ∷ front) rest part (suc from) e = get_middle front rest part from (omega (arith, e))

picked : (bs : List ℕ) (j h : ℕ) → times h (option_to_list (slice_get bs j)) ≤ times h bs
picked [] j h = omega arith
picked (b ∷ bs) zero h = omega (arith, times-append h (b ∷ []) bs)
picked (b ∷ bs) (suc j) h = omega (arith, picked bs j h, times-append h (b ∷ []) bs)

-- the node of a part is one of the place's blocks
node_fewer : (form : Form) (bs : List ℕ) (j h : ℕ) → times h (item_node form bs j) ≤ times h bs
node_fewer (Form.list U) bs j h = picked bs j h
node_fewer (Form.map U) bs j h = picked bs j h
node_fewer form bs j h = omega arith

-- the shared cells of the value that went come first
cells_apart : (left right : Values) (v : Value) → SameNames (names_each (append left (cons v right))) (names_in v ++ names_each (append left right))
cells_apart nil right v = names_same (names_cons v right)
cells_apart (cons u left) right v =
    names_then (names_same (names_cons u (append left (cons v right)))) (names_then (names_joined (names_same {xs = names_in u} refl) (cells_apart left right v))
    (names_then (names_first (names_in u) (names_in v) (names_each (append left right))) (names_same (ap (λ qs. names_in v ++ qs) (sym (names_cons u (append left right)))))))

module _ (old new : List ℕ) (table : Table) (place : Place) (form : Form) (f : form_at table place.type ≡ Some form) where
  same_form : (other : Form) → form_at table place.type ≡ Some other → other ≡ form
  same_form other g = cc

  pub record HadThere (from : ℕ) (v : Value) (its : List ℕ) : Type 0 where
    pub parts : Between
    pub had : Had old table place form parts v its
    pub long : length parts.front ≡ from

  pub had_there : (from : ℕ) → KeepsParts old new table place from 1 0 → {v : Value} {its : List ℕ} → Holds old table place v its → HadThere from v its
  had_there from k (holds form0 before inside owned f0 o0 hs v_is its_are) =
      let t = k.stay in
      let opens = subst (λ (g : Form). Opens old table place g before) (same_form form0 f0) o0 in
      let befores : k.before ≡ before = Opens-one old table place form k.before before (subst (λ (g : Form). Opens old table place g k.before) (same_form k.form k.form_is) k.opens_before) opens in
      let went = one_in t.went t.gone_are in
      let parts : before.parts ≡ t.front ++ went.0 ∷ t.rest = ap (λ (x : Opened). x.parts) (sym befores) ∙ t.before_are ∙ ap (λ ps. t.front ++ (ps ++ t.rest)) went.1 in
      let m = middle old table hs from went.0 (ap (λ ps. slice_get ps from) parts ∙ get_middle t.front t.rest went.0 from t.from_is) in
      record {
        parts = record {
          front = m.before;
          part = went.0;
          rest = m.after;
          left = m.left;
          value = m.value;
          right = m.right;
          left_blocks = m.xs;
          blocks = m.zs;
          right_blocks = m.ys;
        };
        had = record {
          before = before;
          opens = opens;
          parts_are = m.places_are;
          lefts = m.lefts;
          holds_it = m.holds_it;
          rights = m.rights;
          value_is = v_is ∙ ap (node before.label) m.values_are;
          blocks_are = its_are ∙ ap (λ bs. before.blocks ++ bs) m.blocks_are;
        };
        long = m.at_is;
      }

  -- the parts that stay
  record Lost (a : Between) (w : Value) (news : List ℕ) : Type 0 where
    after : Opened
    opens : Opens new table place form after
    front_now : List Place
    rest_now : List Place
    parts_are : after.parts ≡ front_now ++ rest_now
    front_stays : PersistEach old new table a.front front_now
    rest_stays : PersistEach old new table a.rest rest_now
    in_nodes : has_nodes (Some form) ≡ true → (front_now ≡ a.front) × (rest_now ≡ a.rest)
    lefts : HoldsEach new table front_now a.left a.left_blocks
    rights : HoldsEach new table rest_now a.right a.right_blocks
    value_is : w ≡ node after.label (append a.left a.right)
    blocks_are : news ≡ after.blocks ++ (a.left_blocks ++ a.right_blocks)

  lost_there : (from : ℕ) {a : Between} {v : Value} {its : List ℕ} → Had old table place form a v its → length a.front ≡ from → KeepsParts old new table place from 1 0 → {w : Value} {news : List ℕ} → Holds new table place w news
      → Lost a w news
  lost_there from {a} had long k {news = news} (holds form1 after inside owned f1 o1 hs w_is news_are) =
      let t = k.stay in
      let opens = subst (λ (g : Form). Opens new table place g after) (same_form form1 f1) o1 in
      let befores : k.before ≡ had.before = Opens-one old table place form k.before had.before (subst (λ (g : Form). Opens old table place g k.before) (same_form k.form k.form_is) k.opens_before) had.opens in
      let afters : k.after ≡ after = Opens-one new table place form k.after after (subst (λ (g : Form). Opens new table place g k.after) (same_form k.form k.form_is) k.opens_after) opens in
      let went = one_in t.went t.gone_are in
      let parts : t.front ++ went.0 ∷ t.rest ≡ a.front ++ a.part ∷ a.rest = sym (t.before_are ∙ ap (λ ps. t.front ++ (ps ++ t.rest)) went.1) ∙ ap (λ (x : Opened). x.parts) befores ∙ had.parts_are in
      let same = one_split t.front (went.0 ∷ t.rest) a.front (a.part ∷ a.rest) (t.from_is ∙ sym long) parts in
      let rests : t.rest ≡ a.rest = ap (drop 1) same.1 in
      let parts_now : after.parts ≡ t.front_now ++ t.rest_now = ap (λ (x : Opened). x.parts) (sym afters) ∙ t.after_are ∙ ap (λ ps. t.front_now ++ (ps ++ t.rest_now)) (none_in t.came t.come_are) in
      let front_stays = subst (λ ps. PersistEach old new table ps t.front_now) same.0 t.front_stays in
      let rest_stays = subst (λ ps. PersistEach old new table ps t.rest_now) rests t.rest_stays in
      let h = halves new table t.front_now t.rest_now (subst (λ ps. HoldsEach new table ps inside owned) parts_now hs) in
      let lefts = HoldsEach-persist old new table had.lefts front_stays in
      let rights = HoldsEach-persist old new table had.rights rest_stays in
      let left_same = HoldsEach-one new table h.lefts lefts in
      let right_same = HoldsEach-one new table h.rights rights in
      record {
        after = after;
        opens = opens;
        front_now = t.front_now;
        rest_now = t.rest_now;
        parts_are = parts_now;
        front_stays = front_stays;
        rest_stays = rest_stays;
        in_nodes = λ e. (
            let n = t.in_nodes (ap (λ (g : Form). has_nodes (Some g)) (same_form k.form k.form_is) ∙ e) in
            (n.0 ∙ same.0, n.1 ∙ rests));
        lefts = lefts;
        rights = rights;
        value_is = w_is ∙ ap (node after.label) (h.values_are ∙ (λ j. append (left_same.0 j) (right_same.0 j)));
        blocks_are = news_are ∙ ap (λ bs. after.blocks ++ bs) (h.blocks_are ∙ (λ j. left_same.1 j ++ right_same.1 j));
      }

  -- the part that is destroyed
  module _ (from : ℕ) (own : List ℕ) (part : PartBlocks old table place from own) {a : Between} {v : Value} {its : List ℕ} (had : Had old table place form a v its) (long : length a.front ≡ from) where
    opened_same : part.opened ≡ had.before
    opened_same = Opens-one old table place form part.opened had.before (subst (λ (g : Form). Opens old table place g part.opened) (same_form part.form part.form_is) part.opens) had.opens

    value_same : (part.value ≡ a.value) × (part.blocks ≡ a.blocks)
    value_same =
        let there = ap (λ (x : Opened). slice_get x.parts from) (sym opened_same) ∙ part.part_is in
        let found = ap (λ ps. slice_get ps from) had.parts_are ∙ get_middle a.front a.rest a.part from long in
        let place_is : part.part ≡ a.part = (let e : Some part.part ≡ Some a.part = sym there ∙ found in cc) in
        Holds-one old table (subst (λ (z : Place). Holds old table z part.value part.blocks) place_is part.holds) had.holds_it

    -- its blocks are blocks of the place
    pub part_fewer : (h : ℕ) → times h own ≤ times h its
    part_fewer h =
        let bs = had.before.blocks in
        let mine = part.gives_are ∙ (λ j. item_node (same_form part.form part.form_is j) ((opened_same j).blocks) from ++ value_same.1 j) in
        omega (
          arith,
          ap (times h) mine,
          times-append h (item_node form bs from) a.blocks,
          node_fewer form bs from h,
          ap (times h) had.blocks_are,
          times-append h bs (a.left_blocks ++ (a.blocks ++ a.right_blocks)),
          times-append h a.left_blocks (a.blocks ++ a.right_blocks),
          times-append h a.blocks a.right_blocks,
        )

    -- the place has the other shared cells that it had
    pub lost_cells : IsContainer form → KeepsParts old new table place from 1 0 → {w : Value} {news : List ℕ} → Holds new table place w news → SameNames (names_in v) (names_in part.value ++ names_in w)
    lost_cells container k h =
        let lost = lost_there from had long k h in
        let before = container_label old table place form had.before container had.opens in
        let after = container_label new table place form lost.after container lost.opens in
        let now = ap names_in lost.value_is ∙ after.cells (append a.left a.right) in
        names_then (names_same (ap names_in had.value_is ∙ before.cells (append a.left (cons a.value a.right))))
        (names_then (cells_apart a.left a.right a.value) (names_same (λ j. names_in (sym value_same.0 j) ++ sym now j)))

-- ---- two images

module _ (old new other another : List ℕ) (table : Table) (place : Place) (form : Form) (f : form_at table place.type ≡ Some form) (container : IsContainer form) {a : Between} {v w : Value}
    {xs ys : List ℕ} (c : Lost old new table place form f a v xs) (d : Lost other another table place form f a w ys)
    (forth : (h : ℕ) → 1 ≤ times h xs → 1 ≤ times h ys) (back : (h : ℕ) → 1 ≤ times h ys → 1 ≤ times h xs) (once : (h : ℕ) → times h xs ≤ 1) (once_too : (h : ℕ) → times h ys ≤ 1) where
  -- the same buffer, or the same nodes
  blocks_same : (has_buffer (Some form) ≡ true) ⊎ (has_nodes (Some form) ≡ true) → c.after.blocks ≡ d.after.blocks
  blocks_same (inl buffer) =
      let more = a.left_blocks ++ a.right_blocks in
      let mine : c.after.blocks ≡ named new place.at = buffer_blocks new table place c.after form buffer c.opens in
      let theirs : d.after.blocks ≡ named another place.at = buffer_blocks another table place d.after form buffer d.opens in
      let x = c.blocks_are ∙ ap (λ bs. bs ++ more) mine in
      let y = d.blocks_are ∙ ap (λ bs. bs ++ more) theirs in
      mine ∙ members_one (target new place.at) (target another place.at) (in_first xs (named new place.at) (named another place.at) more ys x y forth once)
      (in_first ys (named another place.at) (named new place.at) more xs y x back once_too) ∙ sym theirs
  blocks_same (inr nodes) =
      let g = λ (q : Place). block_of (q.at - into_node form) in
      let n = c.in_nodes nodes in
      let m = d.in_nodes nodes in
      node_blocks new table place form c.after nodes c.opens ∙ ap (map g) (c.parts_are ∙ (λ j. n.0 j ++ n.1 j) ∙ (λ j. sym m.0 j ++ sym m.1 j) ∙ sym d.parts_are) ∙ sym (node_blocks another table place form d.after nodes d.opens)

  lost_alike : AlikeEach old other table a.front → AlikeEach old other table a.rest → c.after.label ≡ d.after.label → AllByRecursion (Fits new) xs → AllByRecursion (Fits another) ys → AlikeAt new another table place
  lost_alike fronts rests labels fits fits_too =
      let blocks = blocks_same (buffer_or_nodes form container) in
      let front_long : length c.front_now ≡ length d.front_now = persist_long old new table c.front_stays ∙ sym (persist_long other another table d.front_stays) in
      let rest_long : length c.rest_now ≡ length d.rest_now = persist_long old new table c.rest_stays ∙ sym (persist_long other another table d.rest_stays) in
      let long : length c.after.parts ≡ length d.after.parts = (
      let x = ap length c.parts_are ∙ length-append c.front_now c.rest_now in
      let y = ap length d.parts_are ∙ length-append d.front_now d.rest_now in
      omega (arith, x, y, front_long, rest_long)) in
      let more = a.left_blocks ++ a.right_blocks in
      let all = subst (AllByRecursion (Fits new)) c.blocks_are fits in
      let all_too = subst (AllByRecursion (Fits another)) d.blocks_are fits_too in
      let inner = each_right (Fits new) c.after.blocks more all in
      let inner_too = each_right (Fits another) d.after.blocks more all_too in
      let one = open_as_one new another table place c.after d.after labels blocks long (each_left (Fits new) c.after.blocks more all) (each_left (Fits another) d.after.blocks more all_too) form c.opens d.opens in
      let parts : d.front_now ++ d.rest_now ≡ c.front_now ++ c.rest_now = sym d.parts_are ∙ ap (λ (x : Opened). x.parts) (sym one.same) ∙ c.parts_are in
      let split = one_split d.front_now d.rest_now c.front_now c.rest_now (sym front_long) parts in
      let first_alike = persist_each_alike old new other another table fronts c.front_stays (subst (PersistEach other another table a.front) split.0 d.front_stays) c.lefts (each_left (Fits new) a.left_blocks a.right_blocks inner)
      (subst (λ ps. HoldsEach another table ps a.left a.left_blocks) split.0 d.lefts) (each_left (Fits another) a.left_blocks a.right_blocks inner_too) in
      let rest_alike = persist_each_alike old new other another table rests c.rest_stays (subst (PersistEach other another table a.rest) split.1 d.rest_stays) c.rights (each_right (Fits new) a.left_blocks a.right_blocks inner)
      (subst (λ ps. HoldsEach another table ps a.right a.right_blocks) split.1 d.rights) (each_right (Fits another) a.left_blocks a.right_blocks inner_too) in
      opens_alike form c.after f c.opens (subst (λ (z : Opened). Opens another table place form z) (sym one.same) d.opens) one.counts
      (subst (AlikeEach new another table) (sym c.parts_are) (alike_joined new another table c.front_now c.rest_now first_alike rest_alike))

-- places that lost the same part in two images are alike
module _ (old new other another : List ℕ) (table : Table) (place : Place) (form : Form) (f : form_at table place.type ≡ Some form) (container : IsContainer form) (from : ℕ) (alike : AlikeAt old other table place)
    (kept : KeepsParts old new table place from 1 0) (kept_too : KeepsParts other another table place from 1 0) where
  pub removed_alike : {v a b : Value} {its xs ys : List ℕ} → Holds old table place v its → Holds new table place a xs → AllByRecursion (Fits new) xs → Holds another table place b ys → AllByRecursion (Fits another) ys → (m n : ℕ → Value)
      → replaced m a ≡ replaced n b
      → ((h : ℕ) → 1 ≤ times h xs → 1 ≤ times h ys) → ((h : ℕ) → 1 ≤ times h ys → 1 ≤ times h xs) → ((h : ℕ) → times h xs ≤ 1) → ((h : ℕ) → times h ys ≤ 1) → AlikeAt new another table place
  removed_alike h now fits now_too fits_too m n same forth back once once_too =
      let there = had_there old new table place form f from kept h in
      let p = there.parts in
      let two = had_alike old other table f alike there.had in
      let c = lost_there old new table place form f from there.had there.long kept now in
      let d = lost_there other another table place form f from two.had there.long kept_too now_too in
      let seen = container_label new table place form c.after container c.opens in
      let seen_too = container_label another table place form d.after container d.opens in
      let labels = label_in (sym (seen.trees m (append p.left p.right)) ∙ ap (replaced m) (sym c.value_is) ∙ same ∙ ap (replaced n) d.value_is ∙ seen_too.trees n (append p.left p.right)) in
      lost_alike old new other another table place form f container c d forth back once once_too two.fronts two.rests labels fits fits_too
