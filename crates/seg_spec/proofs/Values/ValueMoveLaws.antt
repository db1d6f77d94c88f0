-- A value that is moved with its cells persists, since the cells keep their targets.
use Rattle.std.proofs.Common.{◌≡◌, ℕ, ◌+◌, ◌*◌, List, [], ◌∷◌, ◌++◌, map, Option, Some, get_or, refl, sym, ap, ◌∙◌, subst, arith, add-zero, add_assoc}
use Rattle.std.proofs.Math.Nat.{mul-one}
use Rattle.std.specs.List.{AllByRecursion}
use Rattle.seg_spec.specs.Bytes.{signed, IsSame}
use Rattle.seg_spec.specs.Pointer.{target}
use Rattle.seg_spec.specs.Types.{Form, Table, form_at, size, IsTable, built, Cell, shifted, cells, cells_by, cells_of_fields}
use Rattle.seg_spec.specs.Value.{Label, Value, Values}
use Rattle.seg_spec.specs.Block.{KeepsBlock, block_of}
use Rattle.seg_spec.specs.Shapes.{nodes_of}
use Rattle.seg_spec.specs.Reads.{Place, Opened, count_at, named, start, spaced, fields, keys_at, NamesRoom, Opens, Holds, holds, HoldsEach, holds_none, holds_more, map_words}
use Rattle.seg_spec.specs.Parts.{Persists, persists, PersistEach, persist_none, persist_more}
use Rattle.seg_spec.specs.Cells.{EachCell, IsMoved}
use Rattle.seg_spec.proofs.Values.PlaceFrameLaws.{SamePlace, each_left, each_right, each_of_map, each_map, each_weaker, buffer-same, buffer-kept, spaced-same, nodes-same}
use Rattle.seg_spec.proofs.Values.PlaceFrameLaws.{nodes-kept, IsRing-same, IsTree-same, keys_at-same, places-same, inner-same, shorter, further, PersistEach-kept}
use Rattle.seg_spec.proofs.Values.PersistenceLaws.{Holds-persists}
use Rattle.seg_spec.proofs.Values.CellLaws.{cells-form}

-- ---- the cells of a struct are the cells of its fields

-- P is true of each cell of fields in a row
abbrev pub EachField : Table → ℕ → List ℕ → (ℕ → Option Form → Type 0) → Type 0
EachField table n [] P = Unit {0}
EachField table n (U ∷ Us) P = EachCell table U (λ d form. P (n + d) form) × EachField table (n + size table U) Us P

module _ (table : Table) (valid : IsTable table) (P : ℕ → Option Form → Type 0) where
  of_fields : (n : ℕ) (Us : List ℕ) → AllByRecursion (λ (c : Cell). P c.from (form_at table c.type)) (cells_of_fields table (built (cells_by table) [] table) n Us) → EachField table n Us P
  unfolding cells
  of_fields n [] a = tt
  of_fields n (U ∷ Us) a =
      let own = get_or (built (cells_by table) [] table) U [] in
      let rest = cells_of_fields table (built (cells_by table) [] table) (n + size table U) Us in
      (each_of_map _ _ own (each_left _ (shifted n own) rest a), of_fields (n + size table U) Us (each_right _ (shifted n own) rest a))

  pub each_joined : {X : Type 0} (Q : X → Type 0) (xs ys : List X) → AllByRecursion Q xs → AllByRecursion Q ys → AllByRecursion Q (xs ++ ys)
  each_joined Q [] ys a b = b
  each_joined Q (x ∷ xs) ys a b = (a.0, each_joined Q xs ys a.1 b)

  to_fields : (n : ℕ) (Us : List ℕ) → EachField table n Us P → AllByRecursion (λ (c : Cell). P c.from (form_at table c.type)) (cells_of_fields table (built (cells_by table) [] table) n Us)
  unfolding cells
  to_fields n [] a = tt
  to_fields n (U ∷ Us) a =
      let own = get_or (built (cells_by table) [] table) U [] in
      let rest = cells_of_fields table (built (cells_by table) [] table) (n + size table U) Us in
      each_joined _ (shifted n own) rest (each_map _ _ own a.0) (to_fields (n + size table U) Us a.1)

  pub struct_fields : (T : ℕ) (Us : List ℕ) → form_at table T ≡ Some (Form.struct Us) → EachCell table T P → EachField table 0 Us P
  struct_fields T Us f a = of_fields 0 Us (rw (cells-form table valid T (Form.struct Us) f) at a)

  pub fields_struct : (T : ℕ) (Us : List ℕ) → form_at table T ≡ Some (Form.struct Us) → EachField table 0 Us P → EachCell table T P
  fields_struct T Us f a = rw (cells-form table valid T (Form.struct Us) f) (to_fields 0 Us a)

-- ---- one cell

module _ (old new : List ℕ) (table : Table) (valid : IsTable table) where
  -- a step of reading has the same result at the new position, if the blocks to which the cell
  -- points are kept
  pub record Opens_there (place : Place) (to : ℕ) (form : Form) (opened : Opened) : Type 0 where
    pub opens : Opens new table (record { at = to; type = place.type }) form opened
    pub parts : AllByRecursion (SamePlace old new table) opened.parts

  moved_room : (at to kind each : ℕ) → target new to ≡ target old at → count_at new to ≡ count_at old at → AllByRecursion (KeepsBlock old new) (named old at) → NamesRoom old at kind each → NamesRoom new to kind each
  moved_room at to kind each t c ks r = rw (t, c) (buffer-kept old new (target old at) kind (count_at old at) each r ks)

  pub Opens-moved : (place : Place) (to : ℕ) (form : Form) (opened : Opened) → ((Us : List ℕ) → form ≡ Form.struct Us → ⊥) → IsMoved old new place.at to (Some form) →
      AllByRecursion (KeepsBlock old new) opened.blocks → Opens old table place form opened → Opens_there place to form opened
  Opens-moved place to Form.i64 opened flat m ks o = record {
    opens = o ∙ ap (λ n. record { label = Label.int (signed n); blocks = []; parts = [] }) (sym m);
    parts = rw o tt;
  }
  Opens-moved place to Form.str opened flat m ks o =
      let at = place.at in
      let kept : AllByRecursion (KeepsBlock old new) (named old at) = rw (ap (λ (r : Opened). r.blocks) o.opened_is) at ks in
      let text : IsSame old new (start old at) (count_at old at) = rw mul-one at (buffer-same old new (target old at) _ (count_at old at) 1 o.named_room kept) in
      record {
        opens = record {
          named_room = moved_room at to _ 1 m.0 m.1 kept o.named_room;
          ascending = tt;
          opened_is = rw (m.0, m.1, text) o.opened_is;
        };
        parts = rw (ap (λ (r : Opened). r.parts) o.opened_is) tt;
      }
  Opens-moved place to (Form.vec U) opened flat m ks o =
      let at = place.at in
      let kept : AllByRecursion (KeepsBlock old new) (named old at) = rw (ap (λ (r : Opened). r.blocks) o.opened_is) at ks in
      let room : IsSame old new (start old at) (count_at old at * size table U) = buffer-same old new (target old at) _ (count_at old at) (size table U) o.named_room kept in
      record {
        opens = record {
          named_room = moved_room at to _ (size table U) m.0 m.1 kept o.named_room;
          ascending = tt;
          opened_is = rw (m.0, m.1) o.opened_is;
        };
        parts = rw (ap (λ (r : Opened). r.parts) o.opened_is) (places-same old new table valid U _ (spaced-same old new (start old at) (size table U) (count_at old at) room));
      }
  Opens-moved place to (Form.list U) opened flat m ks o =
      let at = place.at in
      let each = 8 + size table U in
      let kept : AllByRecursion (KeepsBlock old new) (map block_of o.nodes) = rw (ap (λ (r : Opened). r.blocks) o.opened_is) at ks in
      let all : AllByRecursion (λ p. IsSame old new p each) o.nodes = nodes-same old new _ each o.nodes kept o.are_nodes in
      record {
        opens = record {
          nodes = o.nodes;
          ring = rw m.0 (IsRing-same old new (target old at) o.nodes (shorter old new table valid each 8 o.nodes (omega arith) all) o.ring);
          counted = rw m.1 o.counted;
          are_nodes = nodes-kept old new _ each o.nodes kept o.are_nodes;
          opened_is = o.opened_is;
        };
        parts = rw (ap (λ (r : Opened). r.parts) o.opened_is) (inner-same old new table valid U 8 each o.nodes (omega arith) all);
      }
  Opens-moved place to (Form.flat_map U) opened flat m ks o =
      let at = place.at in
      let each = 8 + size table U in
      let entries = spaced (start old at) each (count_at old at) in
      let kept : AllByRecursion (KeepsBlock old new) (named old at) = rw (ap (λ (r : Opened). r.blocks) o.opened_is) at ks in
      let room : IsSame old new (start old at) (count_at old at * each) = buffer-same old new (target old at) _ (count_at old at) each o.named_room kept in
      let all : AllByRecursion (λ p. IsSame old new p each) entries = spaced-same old new (start old at) each (count_at old at) room in
      let keys : keys_at new entries ≡ keys_at old entries = keys_at-same old new entries (shorter old new table valid each 8 entries (omega arith) all) in
      record {
        opens = record {
          named_room = moved_room at to _ each m.0 m.1 kept o.named_room;
          ascending = rw (m.0, m.1, keys) o.ascending;
          opened_is = rw (m.0, m.1, keys) o.opened_is;
        };
        parts = rw (ap (λ (r : Opened). r.parts) o.opened_is) (inner-same old new table valid U 8 each entries (omega arith) all);
      }
  Opens-moved place to (Form.map U) opened flat m ks o =
      let at = place.at in
      let each = map_words + size table U in
      let nodes = nodes_of o.tree in
      let kept : AllByRecursion (KeepsBlock old new) (map block_of nodes) = rw (ap (λ (r : Opened). r.blocks) o.opened_is) at ks in
      let all : AllByRecursion (λ p. IsSame old new p each) nodes = nodes-same old new _ each nodes kept o.are_nodes in
      let keys : keys_at new (map (λ p. p + 16) nodes) ≡ keys_at old (map (λ p. p + 16) nodes) = keys_at-same old new _ (further old new table valid each 16 8 nodes (omega arith) all) in
      record {
        opens = record {
          tree = o.tree;
          is_tree = rw m.0 (IsTree-same old new (target old at) o.tree (shorter old new table valid each 16 nodes (omega arith) all) o.is_tree);
          red_black = o.red_black;
          counted = rw m.1 o.counted;
          are_nodes = nodes-kept old new _ each nodes kept o.are_nodes;
          ascending = rw keys o.ascending;
          opened_is = rw keys o.opened_is;
        };
        parts = rw (ap (λ (r : Opened). r.parts) o.opened_is) (inner-same old new table valid U map_words each nodes (omega arith) all);
      }
  Opens-moved place to (Form.own U) opened flat m ks o =
      let at = place.at in
      let kept : AllByRecursion (KeepsBlock old new) (named old at) = rw (ap (λ (r : Opened). r.blocks) o.opened_is) at ks in
      let room : IsSame old new (start old at) (count_at old at * size table U) = buffer-same old new (target old at) _ (count_at old at) (size table U) o.named_room kept in
      record {
        opens = record {
          named_room = moved_room at to _ (size table U) m.0 m.1 kept o.named_room;
          counted = rw (m.0, m.1) o.counted;
          opened_is = rw (m.0, m.1) o.opened_is;
        };
        parts = rw (ap (λ (r : Opened). r.parts) o.opened_is) (places-same old new table valid U _ (spaced-same old new (start old at) (size table U) (count_at old at) room));
      }
  Opens-moved place to (Form.shared U) opened flat m ks o = record {
    opens = record { payload = rw m.0 o.payload; counted = rw (m.0, m.1) o.counted; opened_is = rw m.0 o.opened_is };
    parts = rw (ap (λ (r : Opened). r.parts) o.opened_is) tt;
  }
  Opens-moved place to (Form.struct Us) opened flat m ks o = absurd (flat Us refl)

  -- ---- all cells of a value

  abbrev pub Moved : ℕ → ℕ → ℕ → Type 0
  Moved from to T = EachCell table T (λ d form. IsMoved old new (from + d) (to + d) form)

  one_cell : (from to T : ℕ) (form : Form) → form_at table T ≡ Some form → cells_by table T (built (cells_by table) [] table) form ≡ record { from = 0; type = T } ∷ [] → Moved from to T → IsMoved old new from to (Some form)
  one_cell from to T form f e a =
      let b = rw (cells-form table valid T form f ∙ e) at a in
      rw (add-zero from, add-zero to, f) at b.0

  head_or : Place → List Place → Place
  head_or d [] = d
  head_or d (p ∷ ps) = p

  tail_of : List Place → List Place
  tail_of [] = []
  tail_of (p ∷ ps) = ps

  heads : (place : Place) (places : List Place) (from U : ℕ) (Us : List ℕ) → place ∷ places ≡ fields table from (U ∷ Us) → place ≡ record { at = from; type = U }
  unfolding head_or
  heads place places from U Us e = ap (head_or place) e

  tails : (place : Place) (places : List Place) (from U : ℕ) (Us : List ℕ) → place ∷ places ≡ fields table from (U ∷ Us) → places ≡ fields table (from + size table U) Us
  unfolding tail_of
  tails place places from U Us e = ap tail_of e

  regroup : (from to n d : ℕ) (form : Option Form) → IsMoved old new (from + (n + d)) (to + (n + d)) form → IsMoved old new (from + n + d) (to + n + d) form
  regroup from to n d form m = rw (add_assoc from n d, add_assoc to n d) m

  by_cell : (place : Place) (to : ℕ) (form : Form) (opened : Opened) (inside : Values) (owned : List ℕ) → form_at table place.type ≡ Some form → Opens old table place form opened →
      {blocks : List ℕ} → blocks ≡ opened.blocks ++ owned
      → ((Us : List ℕ) → form ≡ Form.struct Us → ⊥) → IsMoved old new place.at to (Some form) → AllByRecursion (KeepsBlock old new) blocks → HoldsEach old table opened.parts inside owned →
      Persists old new table place (record { at = to; type = place.type })
  by_cell place to form opened inside owned f o blocks_is flat m ks hs =
      let all = subst (λ bs. AllByRecursion (KeepsBlock old new) bs) blocks_is ks in
      let stays = Opens-moved place to form opened flat m (each_left _ opened.blocks owned all) o in
      persists {p = place} {q = record { at = to; type = place.type }} form opened opened f refl o stays.opens refl refl (PersistEach-kept old new table valid hs stays.parts (each_right _ opened.blocks owned all))

  mutual
    pub Persists-moved : {place : Place} {v : Value} {blocks : List ℕ} (to : ℕ) → Holds old table place v blocks → Moved place.at to place.type → AllByRecursion (KeepsBlock old new) blocks →
        Persists old new table place (record { at = to; type = place.type })
    Persists-moved {place = place} to (holds Form.i64 opened inside owned f o hs v_is blocks_is) a ks =
        by_cell place to Form.i64 opened inside owned f o blocks_is (λ Us e. cc) (one_cell place.at to place.type Form.i64 f refl a) ks hs
    Persists-moved {place = place} to (holds Form.str opened inside owned f o hs v_is blocks_is) a ks =
        by_cell place to Form.str opened inside owned f o blocks_is (λ Us e. cc) (one_cell place.at to place.type Form.str f refl a) ks hs
    Persists-moved {place = place} to (holds (Form.vec U) opened inside owned f o hs v_is blocks_is) a ks =
        by_cell place to (Form.vec U) opened inside owned f o blocks_is (λ Us e. cc) (one_cell place.at to place.type (Form.vec U) f refl a) ks hs
    Persists-moved {place = place} to (holds (Form.list U) opened inside owned f o hs v_is blocks_is) a ks =
        by_cell place to (Form.list U) opened inside owned f o blocks_is (λ Us e. cc) (one_cell place.at to place.type (Form.list U) f refl a) ks hs
    Persists-moved {place = place} to (holds (Form.flat_map U) opened inside owned f o hs v_is blocks_is) a ks =
        by_cell place to (Form.flat_map U) opened inside owned f o blocks_is (λ Us e. cc) (one_cell place.at to place.type (Form.flat_map U) f refl a) ks hs
    Persists-moved {place = place} to (holds (Form.map U) opened inside owned f o hs v_is blocks_is) a ks =
        by_cell place to (Form.map U) opened inside owned f o blocks_is (λ Us e. cc) (one_cell place.at to place.type (Form.map U) f refl a) ks hs
    Persists-moved {place = place} to (holds (Form.own U) opened inside owned f o hs v_is blocks_is) a ks =
        by_cell place to (Form.own U) opened inside owned f o blocks_is (λ Us e. cc) (one_cell place.at to place.type (Form.own U) f refl a) ks hs
    Persists-moved {place = place} to (holds (Form.shared U) opened inside owned f o hs v_is blocks_is) a ks =
        by_cell place to (Form.shared U) opened inside owned f o blocks_is (λ Us e. cc) (one_cell place.at to place.type (Form.shared U) f refl a) ks hs
    Persists-moved {place = place} to (holds (Form.struct Us) opened inside owned f o hs v_is blocks_is) a ks =
        let each = struct_fields table valid _ place.type Us f a in
        let none : opened.blocks ≡ [] = ap (λ (r : Opened). r.blocks) o in
        let blocks_owned = blocks_is ∙ ap (λ bs. bs ++ owned) none in
        let parts : opened.parts ≡ fields table place.at Us = ap (λ (r : Opened). r.parts) o in
        let fields_from_0 : opened.parts ≡ fields table (place.at + 0) Us = rw (add-zero place.at) parts in
        let inner = Fields-moved place.at to 0 Us hs fields_from_0 each (subst (λ bs. AllByRecursion (KeepsBlock old new) bs) blocks_owned ks) in
        let inner_there : PersistEach old new table opened.parts (fields table to Us) = rw (add-zero to) at inner in
        persists {p = place} {q = record { at = to; type = place.type }} (Form.struct Us) opened (record { label = Label.struct; blocks = []; parts = fields table to Us }) f refl o refl
        (sym (ap (λ (r : Opened). r.label) o)) (sym none) inner_there

    Fields-moved : {places : List Place} {vs : Values} {blocks : List ℕ} (from to n : ℕ) (Us : List ℕ) → HoldsEach old table places vs blocks → places ≡ fields table (from + n) Us
        → EachField table n Us (λ d form. IsMoved old new (from + d) (to + d) form) → AllByRecursion (KeepsBlock old new) blocks → PersistEach old new table places (fields table (to + n) Us)
    Fields-moved from to n [] holds_none e a ks = persist_none
    Fields-moved from to n (U ∷ Us) holds_none e a ks = absurd (cc)
    Fields-moved from to n [] (holds_more first rest) e a ks = absurd (cc)
    Fields-moved from to n (U ∷ Us) (holds_more {place = place} {places = places} {v = u} {vs = us} {blocks = blocks} {owned = owned} first rest) e a ks =
        let at_is : place.at ≡ from + n = ap (λ (p : Place). p.at) (heads place places (from + n) U Us e) in
        let type_is : place.type ≡ U = ap (λ (p : Place). p.type) (heads place places (from + n) U Us e) in
        let rest_is : places ≡ fields table (from + n + size table U) Us = tails place places (from + n) U Us e in
        let cells_there : Moved place.at (to + n) place.type = rw (at_is, type_is) (each_weaker _ _ (λ c m. regroup from to n c.from (form_at table c.type) m) (cells table U) a.0) in
        let one = Persists-moved (to + n) first cells_there (each_left _ blocks owned ks) in
        let one_there = subst (λ T. Persists old new table place (record { at = to + n; type = T })) type_is one in
        let more = Fields-moved from to (n + size table U) Us rest (rest_is ∙ ap (λ k. fields table k Us) (add_assoc from n (size table U))) a.1 (each_right _ blocks owned ks) in
        persist_more one_there (subst (λ k. PersistEach old new table places (fields table k Us)) (sym (add_assoc to n (size table U))) more)

  pub Holds-moved : {place : Place} {v : Value} {blocks : List ℕ} (to : ℕ) → Holds old table place v blocks → Moved place.at to place.type → AllByRecursion (KeepsBlock old new) blocks →
      Holds new table (record { at = to; type = place.type }) v blocks
  Holds-moved to hold a ks = Holds-persists old new table hold (Persists-moved to hold a ks)
