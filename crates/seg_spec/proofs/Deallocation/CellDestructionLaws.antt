-- The block to which a cell points shows what is freed with it. Before that, the unused entries of
-- a buffer got null pointers, and a ring was opened.
use Rattle.std.proofs.Common.{◌≡◌, ◌≢◌, ℕ, zero, suc, ◌+◌, ◌-◌, ◌*◌, ◌/◌, ◌%◌, ◌^◌, ◌<◌, ◌≤◌, ◌⊎◌, inl, inr, ⊎_elim, true, List, [], ◌∷◌, ◌++◌, length}
use Rattle.std.proofs.Common.{map, Option, Some, None, MatchOption, option_to_list, option_map, unwrap_or, refl, sym, ap, ◌∙◌, subst, arith}
use Rattle.std.specs.Prelude.{nat_le}
use Rattle.std.specs.List.{AllByRecursion}
use Rattle.std.proofs.lemmas.Nat.{le-div}
use Rattle.std.proofs.lemmas.List.{map-append}
use Rattle.seg_spec.specs.Bytes.{ChangesOnly}
use Rattle.seg_spec.specs.Pointer.{target}
use Rattle.seg_spec.specs.Types.{Form, Table, form_at, IsTable, size}
use Rattle.seg_spec.specs.Value.{Label, Value, Values, node}
use Rattle.seg_spec.specs.Heap.{units_at, IsHeap, live, heap_start}
use Rattle.seg_spec.specs.Block.{Kind, tag_of, IsBlock, KeepsBlock, IsInside, block_of, payload_size}
use Rattle.seg_spec.specs.Shapes.{nodes_of}
use Rattle.seg_spec.specs.Reads.{Place, Opened, count_at, named, start, spaced, places_of, items, OpensOwn, OpensBuffer, OpensTree, Opens, Holds, holds, HoldsEach, holds_none, map_words}
use Rattle.seg_spec.specs.Cells.{EachCell}
use Rattle.seg_spec.specs.Sound.{times, SameBlocks, positions}
use Rattle.seg_spec.specs.Owing.{NamesNothing, AreParts, no_parts, more_parts, entries_at, entries_of, OpensBlock, Owes, owes, no_links}
use Rattle.seg_spec.specs.Destroying.{AreLive, GoesWith, KeepsOthers, DefaultsRest, Uncouples}
use Rattle.seg_spec.proofs.Tables.TypeSizeLaws.{size_large}
use Rattle.seg_spec.proofs.Values.PlaceFrameLaws.{SamePlace, word-same}
use Rattle.seg_spec.proofs.Heap.LiveBlockLaws.{times-append, times-same, there, each_there, LiesIn, live-lie}
use Rattle.seg_spec.proofs.Heap.BlockWriteLaws.{KeptBut, live_kept_but}
use Rattle.seg_spec.proofs.Deallocation.WaitingBlockLaws.{parts_kept}
use Rattle.seg_spec.proofs.Deallocation.TreeDestructionLaws.{tree_owes}
use Rattle.seg_spec.proofs.Deallocation.DestructionLaws.{others_more, no_common, heap_written, payload_written}
use Rattle.seg_spec.proofs.Deallocation.PartDestructionLaws.{each_parts, parts_append, named_inside}
use Rattle.seg_spec.specs.Shared.{named_in, named_each}

-- ---- headers of allocated blocks, after one payload was written

module _ (allocator : ℕ) (old new : List ℕ) (at m h : ℕ) (heap : IsHeap allocator old) (inside : IsInside old h at m) (owned : 1 ≤ times h (positions (live old))) (changes : ChangesOnly old new at m) where
  pub units_then : (x : ℕ) → 1 ≤ times x (positions (live old)) → units_at new x ≡ units_at old x
  units_then x some = (there (KeptBut old new at m changes allocator heap h inside owned) x (positions (live old)) (live_kept_but old new at m changes allocator heap h inside owned) some).units_kept

  pub block_there : (q tag n : ℕ) → 1 ≤ times (block_of q) (positions (live old)) → IsBlock old q tag n → IsBlock new q tag n
  block_there q tag n some b =
      let x = block_of q in
      let k = there (KeptBut old new at m changes allocator heap h inside owned) (block_of q) (positions (live old)) (live_kept_but old new at m changes allocator heap h inside owned) some in
      record {
        after_header = b.after_header;
        live = ap (λ w. nat_le (2 ^ 31) w) (word-same old new (block_of q) (k.outside (block_of q) 4 (omega arith) (omega arith))) ∙ b.live;
        has_tag = word-same old new (block_of q + 8) (k.outside (block_of q + 8) 4 (omega arith) (omega arith)) ∙ b.has_tag;
        room = rw k.units_kept b.room;
      }

-- ---- an own

pub same_form : (f g : Form) → Some f ≡ Some g → f ≡ g
same_form f g e = cc

module _ (bytes : List ℕ) (table : Table) (place : Place) (p : ℕ) (e : target bytes place.at ≡ Some p) where
  named_is : named bytes place.at ≡ block_of p ∷ []
  named_is = ap (λ o. option_to_list (option_map block_of o)) e

  own_by : (U : ℕ) (opened : Opened) (inside : Values) (owned xs : List ℕ) →
      OpensOwn bytes place.at (tag_of Kind.object U) (size table U) opened (record { label = Label.opt; blocks = named bytes place.at; parts = items table (start bytes place.at) U (count_at bytes place.at) })
      → HoldsEach bytes table opened.parts inside owned → xs ≡ opened.blocks ++ owned → GoesWith bytes table p xs (named_each inside)
  own_by U opened inside owned xs o hs is =
      let parts : opened.parts ≡ items table (start bytes place.at) U (count_at bytes place.at) = ap (λ (r : Opened). r.parts) o.opened_is in
      let one : count_at bytes place.at ≡ 1 = o.counted ∙ ap length named_is in
      let begins : start bytes place.at ≡ p = ap (λ o. unwrap_or o 0) e in
      let hs' : HoldsEach bytes table (items table p U 1) inside owned = subst (λ n. HoldsEach bytes table (items table p U n) inside owned) one (subst
      (λ s. HoldsEach bytes table (items table s U (count_at bytes place.at)) inside owned) begins (subst (λ ps. HoldsEach bytes table ps inside owned) parts hs)) in
      let room : IsBlock bytes p (tag_of Kind.object U) (count_at bytes place.at * size table U) = rw e at o.named_room in
      let one_size : count_at bytes place.at * size table U ≡ size table U = rw one (omega arith) in
      let blocks : opened.blocks ≡ block_of p ∷ [] = ap (λ (r : Opened). r.blocks) o.opened_is ∙ named_is in
      record {
        owed = block_of p ∷ (owned ++ []);
        named = named_each inside ++ [];
        named_are = λ h. let n = times-append h (named_each inside) [] in omega arith;
        owes_it = owes Kind.object U (record { at = p; type = U } ∷ []) [] owned [] (named_each inside) [] (subst (λ n. IsBlock bytes p (tag_of Kind.object U) n) one_size room, refl, refl) (each_parts bytes table hs') no_links refl refl;
        owed_are = λ h. let n = times-append h owned [] in let f : times h xs ≡ times h (block_of p ∷ owned) = ap (times h) (is ∙ ap (λ bs. bs ++ owned) blocks) in omega arith;
      }

  -- the targets of a value that isn't a shared cell are the targets of the values inside
  inside_names : (v : Value) (opened : Opened) (inside : Values) (label : Label) → v ≡ node opened.label inside → opened.label ≡ label → ((T q : ℕ) → label ≢ Label.shared T q) → named_each inside ≡ named_in v
  inside_names v opened inside label v_is e other = sym (ap named_in v_is ∙ ap (λ l. named_in (node l inside)) e ∙ named_inside label inside other)

  pub own_goes : (U : ℕ) (v : Value) (xs : List ℕ) → form_at table place.type ≡ Some (Form.own U) → Holds bytes table place v xs → GoesWith bytes table p xs (named_in v)
  own_goes U v xs f (holds form opened inside owned g o hs v_is is) =
      let same = same_form form (Form.own U) (sym g ∙ f) in
      let o' : Opens bytes table place (Form.own U) opened = subst (λ h. Opens bytes table place h opened) same o in
      subst (GoesWith bytes table p xs) (inside_names v opened inside Label.opt v_is (ap (λ (r : Opened). r.label) o'.opened_is) (λ T q e. cc)) (own_by U opened inside owned xs o' hs is)

  -- ---- a map

  tree_by : (U : ℕ) (f : form_at table place.type ≡ Some (Form.map U)) (opened : Opened) (inside : Values) (owned xs : List ℕ) → OpensTree bytes table place.at (tag_of Kind.node place.type) U opened →
      HoldsEach bytes table opened.parts inside owned → xs ≡ opened.blocks ++ owned → GoesWith bytes table p xs (named_each inside)
  tree_by U f opened inside owned xs o hs is =
      let parts : opened.parts ≡ places_of U (map (λ p. p + map_words) (nodes_of o.tree)) = ap (λ (r : Opened). r.parts) o.opened_is in
      let blocks : opened.blocks ≡ map block_of (nodes_of o.tree) = ap (λ (r : Opened). r.blocks) o.opened_is in
      let r = tree_owes bytes table place.type U f (target bytes place.at) o.tree inside owned o.is_tree o.are_nodes (subst (λ ps. HoldsEach bytes table ps inside owned) parts hs) in
      record {
        owed = r.blocks;
        named = r.names;
        named_are = r.names_are;
        owes_it = subst (λ o. MatchOption o ((r.blocks ≡ []) × (r.names ≡ [])) (λ q. Owes bytes table q r.blocks r.names)) e r.owes_it;
        owed_are = λ h. let c = r.counts h in let n = times-append h (map block_of (nodes_of o.tree)) owned in
            let a : times h xs ≡ times h (map block_of (nodes_of o.tree) ++ owned) = ap (times h) (is ∙ ap (λ bs. bs ++ owned) blocks) in omega arith;
      }

  pub tree_goes : (U : ℕ) (v : Value) (xs : List ℕ) → form_at table place.type ≡ Some (Form.map U) → Holds bytes table place v xs → GoesWith bytes table p xs (named_in v)
  tree_goes U v xs f (holds form opened inside owned g o hs v_is is) =
      let same = same_form form (Form.map U) (sym g ∙ f) in
      let o' : Opens bytes table place (Form.map U) opened = subst (λ h. Opens bytes table place h opened) same o in
      subst (GoesWith bytes table p xs) (inside_names v opened inside _ v_is (ap (λ (r : Opened). r.label) o'.opened_is) (λ T q e. cc)) (tree_by U f opened inside owned xs o' hs is)

  -- ---- a string

  text_by : (f : form_at table place.type ≡ Some Form.str) (opened is : Opened) (inside : Values) (owned xs : List ℕ) → OpensBuffer bytes place.at (tag_of Kind.buffer place.type) 1 [] opened is →
      is.blocks ≡ named bytes place.at → is.parts ≡ [] →
      HoldsEach bytes table opened.parts inside owned → xs ≡ opened.blocks ++ owned → GoesWith bytes table p xs (named_each inside)
  unfolding named_each
  text_by f opened is inside owned xs o blocks_is parts_is hs xs_is =
      let room : IsBlock bytes p (tag_of Kind.buffer place.type) (count_at bytes place.at * 1) = rw e at o.named_room in
      let block : IsBlock bytes p (tag_of Kind.buffer place.type) 0 = record { after_header = room.after_header; live = room.live; has_tag = room.has_tag; room = omega arith } in
      let none : (owned ≡ []) × (named_each inside ≡ []) = nothing inside owned (subst (λ ps. HoldsEach bytes table ps inside owned) (ap (λ (r : Opened). r.parts) o.opened_is ∙ parts_is) hs) in
      let blocks : opened.blocks ≡ block_of p ∷ [] = ap (λ (r : Opened). r.blocks) o.opened_is ∙ blocks_is ∙ named_is in
      let shown : OpensBlock bytes table p Kind.buffer place.type (form_at table place.type) [] [] = rw f (block, refl, refl) in
      record {
        owed = block_of p ∷ [];
        named = [];
        named_are = λ h. ap (times h) (sym none.1);
        owes_it = owes Kind.buffer place.type [] [] [] [] [] [] shown no_parts no_links refl refl;
        owed_are = λ h. ap (times h) (sym (xs_is ∙ ap (λ bs. bs ++ owned) blocks ∙ ap (λ bs. block_of p ∷ bs) none.0));
      }
    where
      nothing : (vs : Values) (bs : List ℕ) → HoldsEach bytes table [] vs bs → (bs ≡ []) × (named_each vs ≡ [])
      nothing vs bs holds_none = (refl, refl)

  pub text_goes : (v : Value) (xs : List ℕ) → form_at table place.type ≡ Some Form.str → Holds bytes table place v xs → GoesWith bytes table p xs (named_in v)
  text_goes v xs f (holds form opened inside owned g o hs v_is is) =
      let same = same_form form Form.str (sym g ∙ f) in
      let o' : Opens bytes table place Form.str opened = subst (λ h. Opens bytes table place h opened) same o in
      subst (GoesWith bytes table p xs) (inside_names v opened inside _ v_is (ap (λ (r : Opened). r.label) o'.opened_is) (λ T q e. cc)) (text_by f opened _ inside owned xs o' refl refl hs is)

-- ---- a buffer of values, whose unused entries have null pointers

spaced_append : (at step n k : ℕ) → spaced at step (n + k) ≡ spaced at step n ++ spaced (at + n * step) step k
spaced_append at step zero k = let z : 0 + k ≡ k = omega arith in let a : at + 0 * step ≡ at = omega arith in rw (z, a) refl
spaced_append at step (suc n) k =
    let s : suc n + k ≡ suc (n + k) = omega arith in
    let moved : at + suc n * step ≡ at + step + n * step = grind arith in
    rw (s, moved) (ap (λ ps. at ∷ ps) (spaced_append (at + step) step n k))

places_append : (U : ℕ) (xs ys : List ℕ) → places_of U (xs ++ ys) ≡ places_of U xs ++ places_of U ys
places_append U [] ys = refl
places_append U (x ∷ xs) ys = ap (λ ps. record { at = x; type = U } ∷ ps) (places_append U xs ys)

pub entries_append : (table : Table) (start before U n k : ℕ) →
    entries_at table start before U (n + k) ≡ entries_at table start before U n ++ places_of U (map (λ q. q + before) (spaced (start + n * (before + size table U)) (before + size table U) k))
entries_append table start before U n k =
    ap (λ ps. places_of U (map (λ q. q + before) ps)) (spaced_append start (before + size table U) n k)
    ∙ ap (places_of U) (map-append (λ q. q + before) (spaced start (before + size table U) n) (spaced (start + n * (before + size table U)) (before + size table U) k))
    ∙ places_append U (map (λ q. q + before) (spaced start (before + size table U) n)) (map (λ q. q + before) (spaced (start + n * (before + size table U)) (before + size table U) k))

pub items_entries : (table : Table) (start U n : ℕ) → entries_at table start 0 U n ≡ items table start U n
items_entries table start U zero = refl
items_entries table start U (suc n) =
    let z : 0 + size table U ≡ size table U = omega arith in
    let a : start + 0 ≡ start = omega arith in
    let rest = items_entries table (start + size table U) U n in
    rw (z, a) (rw z at (ap (λ ps. record { at = start; type = U } ∷ ps) rest))

nothing_parts : (bytes : List ℕ) (table : Table) (U : ℕ) (qs : List ℕ) → AllByRecursion (λ q. EachCell table U (λ d form. NamesNothing bytes (q + d) form)) qs → AreParts bytes table (places_of U qs) [] []
nothing_parts bytes table U [] a = no_parts
nothing_parts bytes table U (q ∷ qs) a = more_parts {blocks = []} {names = []} (inr (a.0, refl, refl)) (nothing_parts bytes table U qs a.1)

-- if n entries fit in the room, n is at most the number of entries that fit
fits_in : (n each room : ℕ) → 1 ≤ each → n * each ≤ room → n ≤ room / each
fits_in n each room some l = le-div n room each (omega arith) l

each_large : (table : Table) → IsTable table → (before U : ℕ) → 1 ≤ before + size table U
each_large table valid before U = let l = size_large table valid U in omega arith

module _ (allocator : ℕ) (old new : List ℕ) (table : Table) (valid : IsTable table) (heap : IsHeap allocator old) (p T before U n : ℕ) (owned : List ℕ) (block : IsBlock old p (tag_of Kind.buffer T) (n * (before + size table U)))
    (fits : AreLive old (block_of p ∷ owned)) (d : DefaultsRest old new table p before U n) where
  each : ℕ
  each = before + size table U

  here : 1 ≤ times (block_of p) (positions (live old))
  here = omega (arith, fits (block_of p), times-same (block_of p) owned)

  inside : IsInside old (block_of p) (p + n * (before + size table U)) (payload_size old (block_of p) - n * (before + size table U))
  inside =
      let room = block.room in
      let low = block.after_header in
      let large = (there (LiesIn old heap_start (length old)) (block_of p) (positions (live old)) (live-lie old allocator heap) here).size in
      record { low = omega arith; high = omega arith }

  others : KeepsOthers old new (block_of p ∷ [])
  others = payload_written allocator old new (p + n * (before + size table U)) (payload_size old (block_of p) - n * (before + size table U)) (block_of p) heap inside here d.changes

  first_same : (k start : ℕ) → start + k * (before + size table U) ≤ p + n * (before + size table U) → AllByRecursion (SamePlace old new table) (entries_at table start before U k)
  first_same zero start low = tt
  first_same (suc k) start low =
      let all : suc k * (before + size table U) ≡ before + size table U + k * (before + size table U) = grind arith in
      (d.changes.others (start + before) (size table U) (inl (omega arith)), first_same k (start + (before + size table U)) (omega arith))

  -- the buffer goes with the blocks of its entries
  pub buffer_goes : (vs : Values) (xs : List ℕ) → SameBlocks (block_of p ∷ owned) xs → HoldsEach old table (entries_at table p before U n) vs owned →
      (IsBlock new p (tag_of Kind.buffer T) 0 → OpensBlock new table p Kind.buffer T (form_at table T) (entries_of new table p before U) []) → Uncouples allocator old new table p xs (named_each vs)
  buffer_goes vs xs same hs shows =
      let block_new = block_there allocator old new (p + n * (before + size table U)) (payload_size old (block_of p) - n * (before + size table U)) (block_of p) heap inside here d.changes p (tag_of Kind.buffer T) (n *
      (before + size table U)) here block in
      let units = units_then allocator old new (p + n * (before + size table U)) (payload_size old (block_of p) - n * (before + size table U)) (block_of p) heap inside here d.changes (block_of p) here in
      let cap : payload_size new (block_of p) / (before + size table U) ≡ n + (payload_size old (block_of p) / (before + size table U) - n) = ap (λ u. (16 * u - 16) / (before + size table U)) units ∙ enough in
      let used = parts_kept old new table valid (first_same n p (omega arith))
      (each_there (KeepsBlock old new) owned (λ h some. let c = no_common allocator old heap (block_of p ∷ []) owned fits h some in (others.others h c.0 c.1).whole.kept)) (each_parts old table hs) in
      let rest = nothing_parts new table U (map (λ q. q + before) (spaced (p + n * (before + size table U)) (before + size table U) (payload_size old (block_of p) / (before + size table U) - n))) d.nothing in
      let all = parts_append new table used rest in
      let entries : entries_of new table p before U ≡ entries_at table p before U n ++ places_of U (map
      (λ q. q + before) (spaced (p + n * (before + size table U)) (before + size table U) (payload_size old (block_of p) / (before + size table U) - n))) =
      ap (entries_at table p before U) cap ∙ entries_append table p before U n (payload_size old (block_of p) / (before + size table U) - n) in
      record {
        heap = heap_written allocator old new (p + n * (before + size table U)) (payload_size old (block_of p) - n * (before + size table U)) (block_of p) heap inside here d.changes;
        keeps = others_more old new (block_of p ∷ []) xs (λ h none. let s = same h in omega arith) others;
        goes = record {
          owed = block_of p ∷ ((owned ++ []) ++ []);
          named = (named_each vs ++ []) ++ [];
          named_are = λ h. let a = times-append h (named_each vs) [] in let b = times-append h (named_each vs ++ []) [] in omega arith;
          owes_it = owes Kind.buffer T (entries_of new table p before U) [] (owned ++ []) [] (named_each vs ++ []) []
              (shows (record { after_header = block_new.after_header; live = block_new.live; has_tag = block_new.has_tag; room = omega arith }))
              (subst (λ ps. AreParts new table ps (owned ++ []) (named_each vs ++ [])) (sym entries) all) no_links refl refl;
          owed_are = λ h. let a = times-append h owned [] in let b = times-append h (owned ++ []) [] in let s = same h in omega arith;
        };
      }
    where
      enough : payload_size old (block_of p) / (before + size table U) ≡ n + (payload_size old (block_of p) / (before + size table U) - n)
      enough = let le = fits_in n (before + size table U) (payload_size old (block_of p)) (each_large table valid before U) block.room in omega arith

module _ (allocator : ℕ) (old new : List ℕ) (table : Table) (valid : IsTable table) (heap : IsHeap allocator old) (place : Place) (p : ℕ) (e : target old place.at ≡ Some p) (v : Value) (xs : List ℕ) (fits : AreLive old xs) where
  entries_by : (before U : ℕ) (keys : List Rattle.std.proofs.Common.ℤ) (opened is : Opened) (inside : Values) (owned : List ℕ) →
      OpensBuffer old place.at (tag_of Kind.buffer place.type) (before + size table U) keys opened is → is.blocks ≡ named old place.at →
      is.parts ≡ entries_at table (start old place.at) before U (count_at old place.at) → HoldsEach old table opened.parts inside owned → xs ≡ opened.blocks ++ owned → DefaultsRest old new table p before U (count_at old place.at) →
      (IsBlock new p (tag_of Kind.buffer place.type) 0 → OpensBlock new table p Kind.buffer place.type (form_at table place.type) (entries_of new table p before U) []) → Uncouples allocator old new table p xs (named_each inside)
  entries_by before U keys opened is inside owned o blocks_is parts_is hs xs_is d shows =
      let room : IsBlock old p (tag_of Kind.buffer place.type) (count_at old place.at * (before + size table U)) = rw e at o.named_room in
      let begins : start old place.at ≡ p = ap (λ o. unwrap_or o 0) e in
      let parts : opened.parts ≡ entries_at table p before U (count_at old place.at) = ap (λ (r : Opened). r.parts) o.opened_is ∙ parts_is ∙ ap (λ s. entries_at table s before U (count_at old place.at)) begins in
      let blocks : opened.blocks ≡ block_of p ∷ [] = ap (λ (r : Opened). r.blocks) o.opened_is ∙ blocks_is ∙ named_is old table place p e in
      let all : xs ≡ block_of p ∷ owned = xs_is ∙ ap (λ bs. bs ++ owned) blocks in
      buffer_goes allocator old new table valid heap p place.type before U (count_at old place.at) owned room (subst (λ bs. AreLive old bs) all fits) d inside xs (λ h. ap (times h) (sym all))
      (subst (λ ps. HoldsEach old table ps inside owned) parts hs) shows

  pub vector_goes : (U : ℕ) → form_at table place.type ≡ Some (Form.vec U) → Holds old table place v xs → DefaultsRest old new table p 0 U (count_at old place.at) → Uncouples allocator old new table p xs (named_in v)
  vector_goes U f (holds form opened inside owned g o hs v_is is) d =
      let same = same_form form (Form.vec U) (sym g ∙ f) in
      let o' : Opens old table place (Form.vec U) opened = subst (λ h. Opens old table place h opened) same o in
      let z : 0 + size table U ≡ size table U = omega arith in
      let is_opened : Opened = record { label = Label.seq; blocks = named old place.at; parts = items table (start old place.at) U (count_at old place.at) } in
      let o'' : OpensBuffer old place.at (tag_of Kind.buffer place.type) (0 + size table U) [] opened is_opened = rw z o' in
      subst (Uncouples allocator old new table p xs) (inside_names old table place p e v opened inside _ v_is (ap (λ (r : Opened). r.label) o'.opened_is) (λ T q e. cc))
      (entries_by 0 U [] opened is_opened inside owned o'' refl (sym (items_entries table (start old place.at) U (count_at old place.at))) hs is d (λ b. rw f (b, refl, refl)))

  pub flat_map_goes : (U : ℕ) → form_at table place.type ≡ Some (Form.flat_map U) → Holds old table place v xs → DefaultsRest old new table p 8 U (count_at old place.at) → Uncouples allocator old new table p xs (named_in v)
  flat_map_goes U f (holds form opened inside owned g o hs v_is is) d =
      let same = same_form form (Form.flat_map U) (sym g ∙ f) in
      let o' : Opens old table place (Form.flat_map U) opened = subst (λ h. Opens old table place h opened) same o in
      subst (Uncouples allocator old new table p xs) (inside_names old table place p e v opened inside _ v_is (ap (λ (r : Opened). r.label) o'.opened_is) (λ T q e. cc))
      (entries_by 8 U _ opened _ inside owned o' refl refl hs is d (λ b. rw f (b, refl, refl)))
