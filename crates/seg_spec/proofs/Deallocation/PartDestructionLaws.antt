-- The values in a block or in a struct are added to the waiting blocks, one after the other.
use Rattle.std.proofs.Common.{◌≡◌, ℕ, zero, suc, ◌+◌, ◌-◌, ◌*◌, ◌%◌, ◌^◌, ◌<◌, ◌≤◌, inl, inr, List, [], ◌∷◌, ◌++◌, length, map, drop, Option, Some, None, refl, sym, ap, ◌∙◌, subst, arith, add-zero, add_assoc, ◌≢◌}
use Rattle.std.specs.Prelude.{slice_get}
use Rattle.std.specs.List.{AllByRecursion}
use Rattle.seg_spec.specs.Types.{Form, Table, form_at, IsTable, size, Cell, fields_from}
use Rattle.seg_spec.specs.Value.{Values, Label, node}
use Rattle.seg_spec.specs.Heap.{live}
use Rattle.seg_spec.specs.Block.{IsInside}
use Rattle.seg_spec.specs.Reads.{Place, Opened, fields, Opens, holds, HoldsEach, holds_none, holds_more}
use Rattle.seg_spec.specs.Sound.{times, SameBlocks, positions}
use Rattle.seg_spec.specs.Owing.{NamesNothing, IsPart, AreParts, no_parts, more_parts, entries_at}
use Rattle.seg_spec.specs.Destroying.{AreLive, Awaits, Adds}
use Rattle.seg_spec.proofs.Tables.TypeSizeLaws.{size-form}
use Rattle.seg_spec.proofs.Values.PlaceFrameLaws.{each_weaker}
use Rattle.seg_spec.proofs.Values.PartPositionLaws.{InFields, fields_in}
use Rattle.seg_spec.proofs.Heap.LiveBlockLaws.{times-append, times-same, times-more, live-once}
use Rattle.seg_spec.proofs.Values.ValueMoveLaws.{EachField, struct_fields}
use Rattle.seg_spec.proofs.Deallocation.DestructionLaws.{places_inside, parts_then, same_adds, adds_twice, adds_same, awaits_names}
use Rattle.seg_spec.specs.Shared.{named_in, named_each}
use Rattle.seg_spec.specs.Frozen.{Frozen}

-- ---- the parts of a value

pub each_parts : (bytes : List ℕ) (table : Table) {places : List Place} {vs : Values} {owned : List ℕ} → HoldsEach bytes table places vs owned → AreParts bytes table places owned (named_each vs)
unfolding named_each
each_parts bytes table holds_none = no_parts
each_parts bytes table (holds_more {v = v} first more) = more_parts (inl (v, first, refl)) (each_parts bytes table more)

pub parts_append : (bytes : List ℕ) (table : Table) {ps qs : List Place} {xs ys ns ms : List ℕ} → AreParts bytes table ps xs ns → AreParts bytes table qs ys ms → AreParts bytes table (ps ++ qs) (xs ++ ys) (ns ++ ms)
parts_append bytes table no_parts l = l
parts_append bytes table {qs = qs} {ys = ys} {ms = ms} (more_parts {place = place} {places = places} {blocks = blocks} {rest = rest} {names = names} {others = others} first more) l =
    subst (λ zs. AreParts bytes table (place ∷ (places ++ qs)) zs ((names ++ others) ++ ms)) (sym (append_is blocks rest ys))
    (subst (λ zs. AreParts bytes table (place ∷ (places ++ qs)) (blocks ++ (rest ++ ys)) zs) (sym (append_is names others ms)) (more_parts first (parts_append bytes table more l)))
  where
    append_is : (xs ys zs : List ℕ) → (xs ++ ys) ++ zs ≡ xs ++ (ys ++ zs)
    append_is xs ys zs = Rattle.std.proofs.Common.append_assoc xs ys zs

-- the targets of a value that isn't a shared cell are the targets of the values inside
pub named_inside : (label : Label) (vs : Values) → ((T q : ℕ) → label ≢ Label.shared T q) → named_in (node label vs) ≡ named_each vs
unfolding named_in
named_inside (Label.int k) vs other = refl
named_inside (Label.text bytes) vs other = refl
named_inside Label.seq vs other = refl
named_inside (Label.map keys) vs other = refl
named_inside Label.opt vs other = refl
named_inside Label.struct vs other = refl
named_inside (Label.shared T q) vs other = absurd (other T q refl)

module _ (bytes : List ℕ) (table : Table) (valid : IsTable table) where
  fields_nothing : (at n : ℕ) (Us : List ℕ) → EachField table n Us (λ d form. NamesNothing bytes (at + d) form) → AreParts bytes table (fields table (at + n) Us) [] []
  fields_nothing at n [] a = no_parts
  fields_nothing at n (U ∷ Us) a =
      more_parts {blocks = []} {names = []} (inr (each_weaker _ _ (λ c k. rw (add_assoc at n c.from) k) (Rattle.seg_spec.specs.Types.cells table U) a.0, refl, refl))
      (rw (add_assoc at n (size table U)) (fields_nothing at (n + size table U) Us a.1))

  same_form : (f g : Form) → Some f ≡ Some g → f ≡ g
  same_form f g e = cc

  fields_by : (place : Place) (Us : List ℕ) (opened : Opened) (inside : Values) (owned xs : List ℕ) → opened ≡ record { label = Label.struct; blocks = []; parts = fields table place.at Us } →
      HoldsEach bytes table opened.parts inside owned → xs ≡ opened.blocks ++ owned → AreParts bytes table (fields table place.at Us) xs (named_each inside)
  fields_by place Us opened inside owned xs o hs is =
      let parts : opened.parts ≡ fields table place.at Us = ap (λ (r : Opened). r.parts) o in
      let all : xs ≡ owned = is ∙ ap (λ (r : Opened). r.blocks ++ owned) o in
      rw (all, ← parts) (each_parts bytes table hs)

  -- the fields of a struct
  pub struct_parts : (place : Place) (xs ns Us : List ℕ) → form_at table place.type ≡ Some (Form.struct Us) → IsPart bytes table place xs ns → AreParts bytes table (fields table place.at Us) xs ns
  struct_parts place xs ns Us f (inl (v, holds form opened inside owned g o hs v_is is, names)) =
      let same = same_form form (Form.struct Us) (sym g ∙ f) in
      let o' : Opens bytes table place (Form.struct Us) opened = subst (λ h. Opens bytes table place h opened) same o in
      let label : opened.label ≡ Label.struct = ap (λ (r : Opened). r.label) o' in
      let named : ns ≡ named_each inside = names ∙ ap named_in v_is ∙ ap (λ l. named_in (node l inside)) label ∙ named_inside Label.struct inside (λ T q e. cc) in
      subst (AreParts bytes table (fields table place.at Us) xs) (sym named) (fields_by place Us opened inside owned xs o' hs is)
  struct_parts place xs ns Us f (inr h) =
      let each = struct_fields table valid (λ d form. NamesNothing bytes (place.at + d) form) place.type Us f h.0 in
      let parts = fields_nothing place.at 0 Us each in
      let none = h.1 in
      let no_names = h.2 in
      rw (none, no_names, ← add-zero place.at) parts

-- ---- the places of parts, by their index

same_cell : (c d : Cell) → Some c ≡ Some d → c ≡ d
same_cell c d e = cc

two_more : (i : ℕ) → suc i + 1 ≡ suc (i + 1)
two_more i = omega arith

drop_more : (q : Place) (qs : List Place) (i : ℕ) → drop (suc i + 1) (q ∷ qs) ≡ drop (i + 1) qs
drop_more q qs i = rw (two_more i) refl

pub field_next : (table : Table) (at n i : ℕ) (Us : List ℕ) (from U : ℕ) → slice_get (fields_from table n Us) i ≡ Some (record { from = from; type = U }) →
    drop i (fields table (at + n) Us) ≡ record { at = at + from; type = U } ∷ drop (i + 1) (fields table (at + n) Us)
field_next table at n i [] from U e = absurd (cc)
field_next table at n zero (V ∷ Us) from U e =
    let same = same_cell (record { from = n; type = V }) (record { from = from; type = U }) e in
    let from_is : n ≡ from = ap (λ (c : Cell). c.from) same in
    let type_is : V ≡ U = ap (λ (c : Cell). c.type) same in
    subst (λ (c : Cell). record { at = at + n; type = V } ∷ fields table (at + n + size table V) Us ≡ record { at = at + c.from; type = c.type } ∷ fields table (at + n + size table V) Us) same refl
field_next table at n (suc i) (V ∷ Us) from U e =
    let rest = field_next table at (n + size table V) i Us from U e in
    let moved : at + n + size table V ≡ at + (n + size table V) = omega arith in
    rw (drop_more (record { at = at + n; type = V }) (fields table (at + n + size table V) Us) i, moved) rest

pub field_past : (table : Table) (at n i : ℕ) (Us : List ℕ) → slice_get (fields_from table n Us) i ≡ None → (drop i (fields table (at + n) Us) ≡ []) × (drop (i + 1) (fields table (at + n) Us) ≡ [])
field_past table at n zero [] e = (refl, refl)
field_past table at n (suc i) [] e = (refl, rw (two_more i) refl)
field_past table at n zero (V ∷ Us) e = absurd (cc)
field_past table at n (suc i) (V ∷ Us) e =
    let rest = field_past table at (n + size table V) i Us e in
    let moved : at + n + size table V ≡ at + (n + size table V) = omega arith in
    (rw moved rest.0, rw (drop_more (record { at = at + n; type = V }) (fields table (at + n + size table V) Us) i, moved) rest.1)

pub fields_end : (table : Table) (at : ℕ) (Us : List ℕ) (n : ℕ) → length Us ≤ n → drop n (fields table at Us) ≡ []
fields_end table at [] zero l = refl
fields_end table at [] (suc n) l = refl
fields_end table at (U ∷ Us) zero l = absurd (omega arith)
fields_end table at (U ∷ Us) (suc n) l = fields_end table (at + size table U) Us n (omega arith)

pub fields_inside : (bytes : List ℕ) (table : Table) → IsTable table → (home : ℕ) (place : Place) (Us : List ℕ) → form_at table place.type ≡ Some (Form.struct Us) → IsInside bytes home place.at (size table place.type) →
    AllByRecursion (λ q. IsInside bytes home q.at (size table q.type)) (fields table place.at Us)
fields_inside bytes table valid home place Us f i =
    let total = size-form table valid place.type (Form.struct Us) f in
    each_weaker (InFields table place.at (Rattle.std.proofs.Common.sum_by (size table) Us)) (λ q. IsInside bytes home q.at (size table q.type))
    (λ q l. record { low = omega (arith, i.low, l.low); high = omega (arith, i.high, l.high, total) }) (fields table place.at Us) (fields_in table place.at Us)

-- the entries from index i on are entry i and those from i + 1 on
pub entry_next : (table : Table) (start before U i n : ℕ) → i < n →
    entries_at table (start + i * (before + size table U)) before U (n - i) ≡ record { at = start + i * (before + size table U) + before; type = U } ∷ entries_at table (start + (i + 1) * (before + size table U)) before U (n - (i + 1))
entry_next table start before U i n less =
    let left : n - i ≡ suc (n - (i + 1)) = omega arith in
    let moved : start + (i + 1) * (before + size table U) ≡ start + i * (before + size table U) + (before + size table U) = grind arith in
    rw (left, moved) refl

pub entries_inside : (bytes : List ℕ) (table : Table) (home start before U n : ℕ) → IsInside bytes home start (n * (before + size table U)) →
    AllByRecursion (λ q. IsInside bytes home q.at (size table q.type)) (entries_at table start before U n)
entries_inside bytes table home start before U zero i = tt
entries_inside bytes table home start before U (suc n) i =
    let each = before + size table U in
    let all : suc n * each ≡ each + n * each = grind arith in
    let low = i.low in
    let high = i.high in
    (record { low = omega arith; high = omega arith }, entries_inside bytes table home (start + each) before U n (record { low = omega arith; high = omega arith }))

-- ---- parts that are added, one after the other

-- The state after some parts were added: xs are the blocks that the parts own. The blocks ys were
-- already freed with waiting blocks, or belong to frozen objects.
pub record Joined (allocator : ℕ) (old new : List ℕ) (table : Table) (first : Option ℕ) (home : ℕ) (places : List Place) (xs ys more : List ℕ) (kept : List Place) (theirs : ℕ → List ℕ) (final : List Frozen) : Type 0 where
  pub done : List ℕ
  pub rest : List ℕ
  pub rest_names : List ℕ
  pub all_are : SameBlocks xs (rest ++ done)
  pub adds : Adds allocator old new table first done ys (rest_names ++ more) kept theirs final
  pub inside : AllByRecursion (λ q. IsInside new home q.at (size table q.type)) places
  pub parts : AreParts new table places rest rest_names

module _ (allocator : ℕ) (old : List ℕ) (table : Table) (valid : IsTable table) (home : ℕ) (xs ys more : List ℕ) (kept : List Place) (theirs : ℕ → List ℕ) (final : List Frozen) (owned : AreLive old (home ∷ (xs ++ ys))) where
  pub none_joined : (first : Option ℕ) (places : List Place) (ns : List ℕ) → Awaits allocator old table first ys (ns ++ more) kept theirs final
      → AllByRecursion (λ q. IsInside old home q.at (size table q.type)) places → AreParts old table places xs ns → Joined allocator old old table first home places xs ys more kept theirs final
  none_joined first places ns w i parts = record {
    done = [];
    rest = xs;
    rest_names = ns;
    all_are = λ h. let n = times-append h xs [] in omega arith;
    adds = same_adds allocator old table first [] ys [] (ns ++ more) kept theirs final refl refl w
        (λ h. omega (arith, owned h, times-more h home (xs ++ ys), times-append h xs ys));
    inside = i;
    parts = parts;
  }

  pub all_joined : (new : List ℕ) (first : Option ℕ) (places : List Place) → places ≡ [] → Joined allocator old new table first home places xs ys more kept theirs final → Adds allocator old new table first xs ys more kept theirs final
  all_joined new first places none j =
      let empty = no_rest new j.rest j.rest_names (subst (λ ps. AreParts new table ps j.rest j.rest_names) none j.parts) in
      let all = subst (λ bs. SameBlocks xs (bs ++ j.done)) empty.0 j.all_are in
      adds_same allocator old new table first j.done xs ys more kept theirs final (λ h. sym (all h)) (subst (λ ns. Adds allocator old new table first j.done ys (ns ++ more) kept theirs final) empty.1 j.adds)
    where
      no_rest : (b : List ℕ) (bs vs : List ℕ) → AreParts b table [] bs vs → (bs ≡ []) × (vs ≡ [])
      no_rest b bs vs no_parts = (refl, refl)

  module _ (now new : List ℕ) (first next : Option ℕ) (place : Place) (later : List Place) where
    -- one part more was added
    pub joined_more : Joined allocator old now table first home (place ∷ later) xs ys more kept theirs final →
        ((its others ns names : List ℕ) → IsPart now table place its ns → IsInside now home place.at (size table place.type) → Awaits allocator now table first others (ns ++ names) kept theirs final
        → AreLive now (home ∷ (its ++ others)) → Adds allocator now new table next its others names kept theirs final) →
        Joined allocator old new table next home later xs ys more kept theirs final
    joined_more j f = go j.rest j.rest_names j.parts j.all_are j.adds.awaits
      where
        go : (rest rest_names : List ℕ) → AreParts now table (place ∷ later) rest rest_names → SameBlocks xs (rest ++ j.done) → Awaits allocator now table first (j.done ++ ys) (rest_names ++ more) kept theirs final
            → Joined allocator old new table next home later xs ys more kept theirs final
        go rest rest_names (more_parts {blocks = its} {rest = left} {names = vs} {others = left_names} first_part parts) same waiting =
            let same_live = j.adds.keeps.live_kept in
            let live_same = λ (h : ℕ). ap (λ bs. times h (positions bs)) same_live in
            let counts = λ (h : ℕ). let a = times-append h (its ++ left) j.done in let b = times-append h its left in let c = same h in let d : times h xs ≡ times h its + times h left + times h j.done = omega arith in d in
            let home_first = λ (h : ℕ). let z = times-append h (home ∷ []) (xs ++ ys) in z in
            let fits : AreLive now (home ∷ (its ++ (j.done ++ ys))) = λ h.
            let o = owned h in let l = live_same h in let c = counts h in let a = times-append h xs ys in let b = times-append h its (j.done ++ ys) in let d = times-append h j.done ys in
            omega arith in
            let names : SameBlocks ((vs ++ left_names) ++ more) (vs ++ (left_names ++ more)) = λ h.
            omega (arith, times-append h (vs ++ left_names) more, times-append h vs left_names, times-append h vs (left_names ++ more), times-append h left_names more) in
            let step = f its (j.done ++ ys) vs (left_names ++ more) first_part j.inside.0
            (awaits_names allocator now table first (j.done ++ ys) ((vs ++ left_names) ++ more) (vs ++ (left_names ++ more)) kept theirs final names waiting) fits in
            let fits_left : AreLive now ((its ++ (j.done ++ ys)) ++ left) = λ h.
            let o = owned h in let l = live_same h in let c = counts h in let a = times-append h xs ys in let b = times-append h (its ++ (j.done ++ ys)) left in let d = times-append h its (j.done ++ ys) in
            let e = times-append h j.done ys in
            omega arith in
            let one = times-same home (xs ++ ys) in
            let own = owned home in
            let once = live-once now allocator j.adds.awaits.beside.pends.heap home in
            let here = live_same home in
            let c = counts home in
            let n = times-append home xs ys in
            let home_live : 1 ≤ times home (positions (live now)) = omega arith in
            let apart : times home (its ++ (j.done ++ ys)) ≡ 0 = omega (arith, times-append home its (j.done ++ ys), times-append home j.done ys) in
            record {
              done = its ++ j.done;
              rest = left;
              rest_names = left_names;
              all_are = λ h. let c = counts h in let a = times-append h left (its ++ j.done) in let b = times-append h its j.done in omega arith;
              adds = adds_twice allocator old now new table first next j.done its ys (its ++ j.done) (j.rest_names ++ more) (left_names ++ more) kept theirs final j.adds step (λ h. refl);
              inside = places_inside allocator now new table valid j.adds.awaits.beside.pends.heap home (its ++ (j.done ++ ys)) step.keeps home_live apart later j.inside.1;
              parts = parts_then allocator now new table valid j.adds.awaits.beside.pends.heap home (its ++ (j.done ++ ys)) step.keeps home_live apart later left left_names j.inside.1 fits_left parts;
            }
