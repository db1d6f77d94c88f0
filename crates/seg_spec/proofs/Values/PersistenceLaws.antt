-- Values that persist: they are still contained, with the same blocks, and persist through several changes.
use Rattle.std.proofs.Common.{◌≡◌, ℕ, suc, List, [], ◌∷◌, ◌++◌, length, Some, true, refl, sym, ap, ◌∙◌, subst, arith}
use Rattle.std.proofs.lemmas.List.{append-nil}
use Rattle.seg_spec.specs.Types.{Form, Table, form_at}
use Rattle.seg_spec.specs.Value.{Value, Values, node}
use Rattle.seg_spec.specs.Block.{has_nodes}
use Rattle.seg_spec.specs.Reads.{Place, Opened, Opens, Holds, holds, HoldsEach, holds_none, holds_more}
use Rattle.seg_spec.specs.Parts.{Persists, persists, PersistEach, persist_none, persist_more, PartsStay, KeepsParts, KeepsAllParts}
use Rattle.seg_spec.proofs.Values.OneValueLaws.{Opens-one}

same_form : (table : Table) (T : ℕ) (form other : Form) → form_at table T ≡ Some form → form_at table T ≡ Some other → other ≡ form
same_form table T form other f g = cc

module _ (old new : List ℕ) (table : Table) where
  mutual
    -- a value that persists is contained in its place, with the same blocks
    pub Holds-persists : {p q : Place} {v : Value} {blocks : List ℕ} → Holds old table p v blocks → Persists old new table p q → Holds new table q v blocks
    Holds-persists {p = p} {q = q} (holds form opened inside owned f o hs v_is blocks_are) (persists form' before after f' types o' n labels blocks each) =
        let forms : form' ≡ form = same_form table p.type form form' f f' in
        let same : before ≡ opened = Opens-one old table p form before opened (subst (λ (k : Form). Opens old table p k before) forms o') o in
        let parts : PersistEach old new table opened.parts after.parts = subst (λ (k : Opened). PersistEach old new table k.parts after.parts) same each in
        holds form after inside owned (ap (form_at table) types ∙ f) (subst (λ (k : Form). Opens new table q k after) forms n) (HoldsEach-persist hs parts)
        (v_is ∙ ap (λ l. node l inside) (sym (labels ∙ ap (λ (k : Opened). k.label) same)))
        (blocks_are ∙ ap (λ bs. bs ++ owned) (sym (blocks ∙ ap (λ (k : Opened). k.blocks) same)))

    pub HoldsEach-persist : {ps qs : List Place} {vs : Values} {blocks : List ℕ} → HoldsEach old table ps vs blocks → PersistEach old new table ps qs → HoldsEach new table qs vs blocks
    HoldsEach-persist holds_none persist_none = holds_none
    HoldsEach-persist (holds_more h hs) (persist_more k ks) = holds_more (Holds-persists h k) (HoldsEach-persist hs ks)

module _ (old mid new : List ℕ) (table : Table) where
  mutual
    pub persists_then : {p q r : Place} → Persists old mid table p q → Persists mid new table q r → Persists old new table p r
    persists_then {p = p} {q = q} {r = r} (persists form before between f types o n labels blocks each) (persists form' between' after f' types' o' n' labels' blocks' each') =
        let forms : form' ≡ form = same_form table q.type form form' (ap (form_at table) types ∙ f) f' in
        let same : between' ≡ between = Opens-one mid table q form between' between (subst (λ (k : Form). Opens mid table q k between') forms o') n in
        let rest : PersistEach mid new table between.parts after.parts = subst (λ (k : Opened). PersistEach mid new table k.parts after.parts) same each' in
        persists form before after f (types' ∙ types) o (subst (λ (k : Form). Opens new table r k after) forms n')
        (labels' ∙ ap (λ (k : Opened). k.label) same ∙ labels) (blocks' ∙ ap (λ (k : Opened). k.blocks) same ∙ blocks) (persist_then each rest)

    pub persist_then : {ps qs rs : List Place} → PersistEach old mid table ps qs → PersistEach mid new table qs rs → PersistEach old new table ps rs
    persist_then persist_none persist_none = persist_none
    persist_then (persist_more h hs) (persist_more k ks) = persist_more (persists_then h k) (persist_then hs ks)

-- ---- the parts of a place

none_in : (ps : List Place) → length ps ≡ 0 → ps ≡ []
none_in [] e = refl
none_in (p ∷ ps) e = absurd (omega (arith, e))

module _ (old new : List ℕ) (table : Table) where
  no_more : {qs : List Place} → PersistEach old new table [] qs → qs ≡ []
  no_more persist_none = refl

  -- some parts stay, some go and some come, and the rest stay
  pub parts_around : (form : Form) (front went rest front_now came rest_now : List Place) → (has_nodes (Some form) ≡ true → (front_now ≡ front) × (rest_now ≡ rest))
      → PersistEach old new table front front_now → PersistEach old new table rest rest_now
      → PartsStay old new table form (front ++ (went ++ rest)) (front_now ++ (came ++ rest_now)) (length front) (length went) (length came)
  parts_around form front went rest front_now came rest_now nodes first others = record {
    front = front;
    went = went;
    rest = rest;
    before_are = refl;
    front_now = front_now;
    came = came;
    rest_now = rest_now;
    after_are = refl;
    from_is = refl;
    gone_are = refl;
    come_are = refl;
    front_stays = first;
    rest_stays = others;
    in_nodes = nodes;
  }

  -- all parts stay, and some come after them
  pub parts_before : (form : Form) (ps qs came : List Place) → (has_nodes (Some form) ≡ true → qs ≡ ps) → PersistEach old new table ps qs →
      PartsStay old new table form ps (qs ++ came) (length ps) 0 (length came)
  parts_before form ps qs came nodes each =
      let before : ps ++ ([] ++ []) ≡ ps = append-nil ps in
      let after : qs ++ (came ++ []) ≡ qs ++ came = ap (λ xs. qs ++ xs) (append-nil came) in
      subst (λ xs. PartsStay old new table form xs (qs ++ came) (length ps) 0 (length came)) before
      (subst (λ xs. PartsStay old new table form (ps ++ ([] ++ [])) xs (length ps) 0 (length came)) after (parts_around form ps [] [] qs came [] (λ e. (nodes e, refl)) each persist_none))

  -- no part came or went
  pub all_parts : (form : Form) (ps qs : List Place) → (has_nodes (Some form) ≡ true → qs ≡ ps) → PersistEach old new table ps qs → PartsStay old new table form ps qs 0 0 0
  all_parts form ps qs nodes each = parts_around form [] [] ps [] [] qs (λ e. (refl, nodes e)) persist_none each

  pub each_part : (form : Form) (ps qs : List Place) → PartsStay old new table form ps qs 0 0 0 → PersistEach old new table ps qs
  each_part form ps qs s =
      let front = none_in s.front s.from_is in
      let front_now = no_more (subst (λ xs. PersistEach old new table xs s.front_now) front s.front_stays) in
      let before : ps ≡ s.rest = s.before_are ∙ ap (λ xs. xs ++ (s.went ++ s.rest)) front ∙ ap (λ xs. xs ++ s.rest) (none_in s.went s.gone_are) in
      let after : qs ≡ s.rest_now = s.after_are ∙ ap (λ xs. xs ++ (s.came ++ s.rest_now)) front_now ∙ ap (λ xs. xs ++ s.rest_now) (none_in s.came s.come_are) in
      subst (λ xs. PersistEach old new table xs qs) (sym before) (subst (λ xs. PersistEach old new table s.rest xs) (sym after) s.rest_stays)

  -- if no part came or went, each part persists
  pub each_persists : (place : Place) (form : Form) (before after : Opened) → form_at table place.type ≡ Some form → Opens old table place form before → Opens new table place form after →
      KeepsAllParts old new table place → PersistEach old new table before.parts after.parts
  each_persists place form before after f o n k =
      let forms : k.form ≡ form = same_form table place.type form k.form f k.form_is in
      let befores : k.before ≡ before = Opens-one old table place form k.before before (subst (λ (g : Form). Opens old table place g k.before) forms k.opens_before) o in
      let afters : k.after ≡ after = Opens-one new table place form k.after after (subst (λ (g : Form). Opens new table place g k.after) forms k.opens_after) n in
      subst (λ (b : Opened). PersistEach old new table b.parts after.parts) befores
      (subst (λ (a : Opened). PersistEach old new table k.before.parts a.parts) afters (each_part k.form k.before.parts k.after.parts k.stay))

-- ---- a call after another one

-- two ways of splitting a list after as many places
pub one_split : (xs ys zs ws : List Place) → length xs ≡ length zs → xs ++ ys ≡ zs ++ ws → (xs ≡ zs) × (ys ≡ ws)
one_split [] ys [] ws l e = (refl, e)
one_split [] ys (z ∷ zs) ws l e = absurd (omega (arith, l))
one_split (x ∷ xs) ys [] ws l e = absurd (omega (arith, l))
one_split (x ∷ xs) ys (z ∷ zs) ws l e =
    let first : x ≡ z = cc in
    let more : xs ++ ys ≡ zs ++ ws = cc in
    let rest = one_split xs ys zs ws (omega (arith, l)) more in
    (cc, rest.1)

module _ (old new : List ℕ) (table : Table) where
  -- places that persist as two lists are two lists
  record From (ps xs ys : List Place) : Type 0 where
    before : List Place
    after : List Place
    places_are : ps ≡ before ++ after
    long : length before ≡ length xs
    first : PersistEach old new table before xs
    rest : PersistEach old new table after ys

  from_two : {ps : List Place} (xs ys : List Place) → PersistEach old new table ps (xs ++ ys) → From ps xs ys
  from_two {ps = ps} [] ys each = record { before = []; after = ps; places_are = refl; long = refl; first = persist_none; rest = each }
  from_two (x ∷ xs) ys (persist_more {p = p} one each) =
      let r = from_two xs ys each in
      record { before = p ∷ r.before; after = r.after; places_are = ap (λ qs. p ∷ qs) r.places_are; long = ap suc r.long; first = persist_more one r.first; rest = r.rest }

  record To (qs xs ys : List Place) : Type 0 where
    before : List Place
    after : List Place
    places_are : qs ≡ before ++ after
    long : length before ≡ length xs
    first : PersistEach old new table xs before
    rest : PersistEach old new table ys after

  to_two : {qs : List Place} (xs ys : List Place) → PersistEach old new table (xs ++ ys) qs → To qs xs ys
  to_two {qs = qs} [] ys each = record { before = []; after = qs; places_are = refl; long = refl; first = persist_none; rest = each }
  to_two (x ∷ xs) ys (persist_more {q = q} one each) =
      let r = to_two xs ys each in
      record { before = q ∷ r.before; after = r.after; places_are = ap (λ ps. q ∷ ps) r.places_are; long = ap suc r.long; first = persist_more one r.first; rest = r.rest }

  -- in a list or a map all parts are in the nodes in which they were
  same_parts : (form : Form) (ps qs : List Place) → PartsStay old new table form ps qs 0 0 0 → has_nodes (Some form) ≡ true → qs ≡ ps
  same_parts form ps qs s nodes =
      let n = s.in_nodes nodes in
      let before : ps ≡ s.rest = s.before_are ∙ ap (λ xs. xs ++ (s.went ++ s.rest)) (none_in s.front s.from_is) ∙ ap (λ xs. xs ++ s.rest) (none_in s.went s.gone_are) in
      let after : qs ≡ s.rest_now = s.after_are ∙ ap (λ xs. xs ++ (s.came ++ s.rest_now)) (n.0 ∙ none_in s.front s.from_is) ∙ ap (λ xs. xs ++ s.rest_now) (none_in s.came s.come_are) in
      after ∙ n.1 ∙ sym before

module _ (old mid new : List ℕ) (table : Table) (place : Place) (from gone come : ℕ) where
  -- all parts stay, and then some go and some come
  pub parts_first : KeepsAllParts old mid table place → KeepsParts mid new table place from gone come → KeepsParts old new table place from gone come
  parts_first k j =
      let forms : j.form ≡ k.form = same_form table place.type k.form j.form k.form_is j.form_is in
      let opened : j.before ≡ k.after = Opens-one mid table place k.form j.before k.after (subst (λ (g : Form). Opens mid table place g j.before) forms j.opens_before) k.opens_after in
      let t = j.stay in
      let parts : k.after.parts ≡ t.front ++ (t.went ++ t.rest) = ap (λ (r : Opened). r.parts) (sym opened) ∙ t.before_are in
      let each = subst (λ qs. PersistEach old mid table k.before.parts qs) parts (each_part old mid table k.form k.before.parts k.after.parts k.stay) in
      let a = from_two old mid table t.front (t.went ++ t.rest) each in
      let b = from_two old mid table t.went t.rest a.rest in
      let before : k.before.parts ≡ a.before ++ (b.before ++ b.after) = a.places_are ∙ ap (λ ps. a.before ++ ps) b.places_are in
      record {
        form = k.form;
        form_is = k.form_is;
        before = k.before;
        opens_before = k.opens_before;
        after = j.after;
        opens_after = subst (λ (g : Form). Opens new table place g j.after) forms j.opens_after;
        stay = record {
          front = a.before;
          went = b.before;
          rest = b.after;
          before_are = before;
          front_now = t.front_now;
          came = t.came;
          rest_now = t.rest_now;
          after_are = t.after_are;
          from_is = a.long ∙ t.from_is;
          gone_are = b.long ∙ t.gone_are;
          come_are = t.come_are;
          front_stays = persist_then old mid new table a.first t.front_stays;
          rest_stays = persist_then old mid new table b.rest t.rest_stays;
          in_nodes = λ nodes.
              let n = t.in_nodes (subst (λ (g : Form). has_nodes (Some g) ≡ true) (sym forms) nodes) in
              let same : t.front ++ (t.went ++ t.rest) ≡ a.before ++ (b.before ++ b.after) = sym parts ∙ same_parts old mid table k.form k.before.parts k.after.parts k.stay nodes ∙ before in
              let x = one_split t.front (t.went ++ t.rest) a.before (b.before ++ b.after) (sym a.long) same in
              let y = one_split t.went t.rest b.before b.after (sym b.long) x.1 in
              (n.0 ∙ x.0, n.1 ∙ y.1);
        };
      }

  -- some parts go and some come, and then all stay
  pub parts_then : KeepsParts old mid table place from gone come → KeepsAllParts mid new table place → KeepsParts old new table place from gone come
  parts_then j k =
      let forms : k.form ≡ j.form = same_form table place.type j.form k.form j.form_is k.form_is in
      let opened : k.before ≡ j.after = Opens-one mid table place j.form k.before j.after (subst (λ (g : Form). Opens mid table place g k.before) forms k.opens_before) j.opens_after in
      let t = j.stay in
      let parts : k.before.parts ≡ t.front_now ++ (t.came ++ t.rest_now) = ap (λ (r : Opened). r.parts) opened ∙ t.after_are in
      let each = subst (λ ps. PersistEach mid new table ps k.after.parts) parts (each_part mid new table k.form k.before.parts k.after.parts k.stay) in
      let a = to_two mid new table t.front_now (t.came ++ t.rest_now) each in
      let b = to_two mid new table t.came t.rest_now a.rest in
      let after : k.after.parts ≡ a.before ++ (b.before ++ b.after) = a.places_are ∙ ap (λ ps. a.before ++ ps) b.places_are in
      record {
        form = j.form;
        form_is = j.form_is;
        before = j.before;
        opens_before = j.opens_before;
        after = k.after;
        opens_after = subst (λ (g : Form). Opens new table place g k.after) forms k.opens_after;
        stay = record {
          front = t.front;
          went = t.went;
          rest = t.rest;
          before_are = t.before_are;
          front_now = a.before;
          came = b.before;
          rest_now = b.after;
          after_are = after;
          from_is = t.from_is;
          gone_are = t.gone_are;
          come_are = b.long ∙ t.come_are;
          front_stays = persist_then old mid new table t.front_stays a.first;
          rest_stays = persist_then old mid new table t.rest_stays b.rest;
          in_nodes = λ nodes.
              let n = t.in_nodes nodes in
              let same : a.before ++ (b.before ++ b.after) ≡ t.front_now ++ (t.came ++ t.rest_now) =
              sym after ∙ same_parts mid new table k.form k.before.parts k.after.parts k.stay (subst (λ (g : Form). has_nodes (Some g) ≡ true) (sym forms) nodes) ∙ parts in
              let x = one_split a.before (b.before ++ b.after) t.front_now (t.came ++ t.rest_now) a.long same in
              let y = one_split b.before b.after t.came t.rest_now b.long x.1 in
              (x.0 ∙ n.0, y.1 ∙ n.1);
        };
      }

long_each : (old new : List ℕ) (table : Table) {ps qs : List Place} → PersistEach old new table ps qs → length qs ≡ length ps
long_each old new table persist_none = refl
long_each old new table (persist_more one each) = ap suc (long_each old new table each)

-- the parts that come are those that go in a second call
pub parts_again : (old mid new : List ℕ) (table : Table) (place : Place) (from gone between come : ℕ) → KeepsParts old mid table place from gone between → KeepsParts mid new table place from between come
    → KeepsParts old new table place from gone come
parts_again old mid new table place from gone between come j k =
    let forms : k.form ≡ j.form = same_form table place.type j.form k.form j.form_is k.form_is in
    let opened : k.before ≡ j.after = Opens-one mid table place j.form k.before j.after (subst (λ (g : Form). Opens mid table place g k.before) forms k.opens_before) j.opens_after in
    let t = j.stay in
    let u = k.stay in
    let same : t.front_now ++ (t.came ++ t.rest_now) ≡ u.front ++ (u.went ++ u.rest) = sym t.after_are ∙ ap (λ (r : Opened). r.parts) (sym opened) ∙ u.before_are in
    let x = one_split t.front_now (t.came ++ t.rest_now) u.front (u.went ++ u.rest) (long_each old mid table t.front_stays ∙ t.from_is ∙ sym u.from_is) same in
    let y = one_split t.came t.rest_now u.went u.rest (t.come_are ∙ sym u.gone_are) x.1 in
    record {
      form = j.form;
      form_is = j.form_is;
      before = j.before;
      opens_before = j.opens_before;
      after = k.after;
      opens_after = subst (λ (g : Form). Opens new table place g k.after) forms k.opens_after;
      stay = record {
        front = t.front;
        went = t.went;
        rest = t.rest;
        before_are = t.before_are;
        front_now = u.front_now;
        came = u.came;
        rest_now = u.rest_now;
        after_are = u.after_are;
        from_is = t.from_is;
        gone_are = t.gone_are;
        come_are = u.come_are;
        front_stays = persist_then old mid new table t.front_stays (subst (λ ps. PersistEach mid new table ps u.front_now) (sym x.0) u.front_stays);
        rest_stays = persist_then old mid new table t.rest_stays (subst (λ ps. PersistEach mid new table ps u.rest_now) (sym y.1) u.rest_stays);
        in_nodes = λ nodes.
            let n = t.in_nodes nodes in
            let m = u.in_nodes (subst (λ (g : Form). has_nodes (Some g) ≡ true) (sym forms) nodes) in
            (m.0 ∙ sym x.0 ∙ n.0, m.1 ∙ sym y.1 ∙ n.1);
      };
    }
