-- Images that are alike stay alike when the same types are added to both.
use Rattle.std.proofs.Common.{◌≡◌, ℕ, zero, suc, ◌+◌, ◌-◌, ◌<◌, ◌≤◌, Bool, true, false, List, [], ◌∷◌, ◌++◌, length, take, drop, inl, inr, refl, sym, ap, ◌∙◌, subst, arith}
use Rattle.std.specs.Prelude.{All, nat_le, if◌then◌else◌}
use Rattle.std.specs.List.{AllByRecursion}
use Rattle.std.proofs.lemmas.List.{append-nil, take-append-drop, take_all}
use Rattle.std.proofs.lemmas.List.Elements.{All-head, All-tail}
use Rattle.std.proofs.lemmas.Bool.Decides.{nat_tests}
use Rattle.seg_spec.specs.Bytes.{word, ChangesOnly, IsSame}
use Rattle.seg_spec.specs.Header.{version_word, allocator_word, index_kind_word, next_word, types_start, types_size, heap_start}
use Rattle.seg_spec.specs.Types.{Form, Table, size, IsForm, IsTable, AreOfVersion, HasTable, Agree, longer}
use Rattle.seg_spec.specs.Value.{count}
use Rattle.seg_spec.specs.Heap.{live}
use Rattle.seg_spec.specs.Block.{KeepsBlock}
use Rattle.seg_spec.specs.Reads.{Place, Opened, Opens, fields, spaced, places_of, items}
use Rattle.seg_spec.specs.Index.{Root, Index}
use Rattle.seg_spec.specs.Sound.{Picture, IsHeld, roots_of}
use Rattle.seg_spec.specs.Counting.{AreCounted}
use Rattle.seg_spec.proofs.Heap.HeapFrameLaws.{live-kept}
use Rattle.seg_spec.proofs.Tables.TableExtensionLaws.{form_extended, below_length, size_extended}
use Rattle.seg_spec.proofs.Values.PlaceFrameLaws.{word-same, each_left, each_right}
use Rattle.seg_spec.proofs.Images.RootFrameLaws.{ListsNames-kept}
use Rattle.seg_spec.proofs.Images.TypeAdditionLaws.{heap_same, blocks_same, types_added}
use Rattle.client_sim.proofs.Names.OnePictureLaws.{OpensIndex-one}
use Rattle.test_definitions.specs.Alike.{AlikeAt, opens_alike, AlikeEach, none_alike, more_alike, AlikeRoot, AreAlike}
use Rattle.test_definitions.proofs.Alike.AlikeKeptLaws.{roots_kept}

-- ---- the longer table

pub record MoreTypes (old new : Table) : Type 0 where
  pub more : Table
  pub longer_is : longer old new ≡ old ++ more

pub more_types : (old new : Table) → Agree old new → MoreTypes old new
more_types old new agree = by (nat_le (length new) (length old)) refl
  where
    by : (b : Bool) → nat_le (length new) (length old) ≡ b → MoreTypes old new
    by true e = record { more = []; longer_is = ap (λ b. if b then old else new) e ∙ sym (append-nil old) }
    by false e =
        let short : length old ≤ length new = grind (arith, nat_tests) in
        let front : old ≡ take (length old) new = sym (take_all (length new) old short) ∙ agree in
        record { more = drop (length old) new; longer_is = ap (λ b. if b then old else new) e ∙ sym (take-append-drop (length old) new) ∙ ap (λ xs. xs ++ drop (length old) new) (sym front) }

-- ---- places whose types are read from a longer table

module _ (table more : Table) where
  fields_extended : (at k : ℕ) (Us : List ℕ) → k ≤ length table → All (λ U. U < k) Us → fields table at Us ≡ fields (table ++ more) at Us
  fields_extended at k [] l h = refl
  fields_extended at k (U ∷ Us) l h =
      let first : U < k = All-head (λ V. V < k) U Us h in
      rw (← size_extended table more U (omega arith)) (ap (λ ps. record { at = at; type = U } ∷ ps) (fields_extended (at + size table U) k Us l (All-tail (λ V. V < k) U Us h)))

  opens_extended : (bytes : List ℕ) (place : Place) (form : Form) (opened : Opened) (T : ℕ) → T < length table → IsForm (length table) T form → Opens bytes table place form opened → Opens bytes (table ++ more) place form opened
  opens_extended bytes place (Form.vec U) opened T l h o = rw (size_extended table more U h) at o
  opens_extended bytes place (Form.list U) opened T l h o = record { nodes = o.nodes; ring = o.ring; counted = o.counted; are_nodes = rw (size_extended table more U h) at o.are_nodes; opened_is = o.opened_is }
  opens_extended bytes place (Form.flat_map U) opened T l h o = rw (size_extended table more U h) at o
  opens_extended bytes place (Form.map U) opened T l h o = record {
    tree = o.tree;
    is_tree = o.is_tree;
    red_black = o.red_black;
    counted = o.counted;
    are_nodes = rw (size_extended table more U h) at o.are_nodes;
    ascending = o.ascending;
    opened_is = o.opened_is;
  }
  opens_extended bytes place (Form.own U) opened T l h o = rw (size_extended table more U h) at o
  opens_extended bytes place (Form.struct Us) opened T l h o = rw (fields_extended place.at T Us (omega arith) h.2) at o
  opens_extended bytes place form opened T l h o = o

module _ (first second : List ℕ) (table more : Table) (valid : IsTable table) where
  mutual
    at_extended : {place : Place} → AlikeAt first second table place → AlikeAt first second (table ++ more) place
    at_extended {place = place} (opens_alike form opened f o p n each) =
        let there = below_length table place.type form f in
        let fits = valid.forms place.type form f in
        opens_alike form opened (form_extended table more place.type form f)
        (opens_extended table more first place form opened place.type there fits o) (opens_extended table more second place form opened place.type there fits p) n (each_extended each)

    each_extended : {places : List Place} → AlikeEach first second table places → AlikeEach first second (table ++ more) places
    each_extended none_alike = none_alike
    each_extended (more_alike a rest) = more_alike (at_extended a) (each_extended rest)

  known : {place : Place} → AlikeAt first second table place → place.type < length table
  known {place = place} (opens_alike form opened f o p n each) = below_length table place.type form f

  same_items : (at U n : ℕ) → AlikeEach first second table (items table at U n) → items (table ++ more) at U n ≡ items table at U n
  same_items at U zero a = refl
  same_items at U (suc n) (more_alike a rest) = ap (λ k. places_of U (spaced at k (suc n))) (sym (size_extended table more U (known a)))

  root_extended : (root : Root) → AlikeRoot first second table root → AlikeRoot first second (table ++ more) root
  root_extended root a = subst (AlikeEach first second (table ++ more)) (sym (same_items root.at root.type (count root.values) a)) (each_extended a)

  roots_extended : (roots : List Root) → AllByRecursion (AlikeRoot first second table) roots → AllByRecursion (AlikeRoot first second (table ++ more)) roots
  roots_extended [] a = tt
  roots_extended (root ∷ roots) a = (root_extended root a.0, roots_extended roots a.1)

-- ---- one image

abbrev pub extended : Picture → Table → Picture
extended picture more = record picture { table = picture.table ++ more }

-- only the type table changed
pub record AddsTypes (old new : List ℕ) (picture : Picture) (more : Table) : Type 0 where
  pub changes : ChangesOnly old new types_start types_size
  pub types : HasTable new types_start (picture.table ++ more)
  pub is_table : IsTable (picture.table ++ more)
  pub of_version : AreOfVersion (word old version_word) (picture.table ++ more)

module _ {old new : List ℕ} {picture : Picture} {more : Table} (adds : AddsTypes old new picture more) (held : IsHeld old picture) where
  low : (at n : ℕ) → at + n ≤ types_start → IsSame old new at n
  low at n fits = adds.changes.others at n (inl fits)

  high : (at n : ℕ) → types_start + types_size ≤ at → IsSame old new at n
  high at n above = adds.changes.others at n (inr above)

  pub header_word : (at : ℕ) → at + 4 ≤ types_start → word new at ≡ word old at
  header_word at fits = word-same old new at (low at 4 fits)

  pub then_held : IsHeld new (extended picture more)
  then_held = types_added old new picture more held adds.changes.length_kept (low 0 64 (omega arith)) (high 576 (length old - 576) (omega arith)) adds.types adds.is_table adds.of_version

  pub same_live : live new ≡ live old
  same_live = live-kept old new (word old allocator_word) held.laid_out.heap
      (heap_same old new (word old allocator_word) held.laid_out.heap adds.changes.length_kept (low 24 4 (omega arith)) (high heap_start (length old - heap_start) (omega arith)))

  pub all_kept : AllByRecursion (KeepsBlock old new) (held.index_blocks ++ held.root_blocks)
  all_kept = blocks_same old new (word old allocator_word) held.laid_out.heap adds.changes.length_kept (low 24 4 (omega arith)) (high heap_start (length old - heap_start) (omega arith)) (held.index_blocks ++ held.root_blocks) held.owners

  pub same_index : then_held.index_blocks ≡ held.index_blocks
  same_index =
      let now = then_held.laid_out.names in
      let was = ListsNames-kept old new picture.names held.index_blocks (low 20 4 (omega arith)) (low 32 8 (omega arith)) (each_left _ held.index_blocks held.root_blocks all_kept) held.laid_out.names in
      now.blocks_are ∙ ap (λ (i : Index). i.blocks) (OpensIndex-one new (picture.table ++ more) (word new index_kind_word) now.index was.index now.opens was.opens) ∙ sym was.blocks_are

-- ---- two images

pub types_alike : {others : List Root} {places first second new another : List ℕ} {more : Table} (a : AreAlike others places first second) → AddsTypes first new a.picture more → AddsTypes second another a.picture more
    → AreAlike others places new another
types_alike {others = others} {places = places} {first = first} {second = second} {new = new} {another = another} {more = more} a x y =
    let front = x.changes.others 0 24 (inl (omega arith)) in
    let front_too = y.changes.others 0 24 (inl (omega arith)) in
    let next = header_word x a.held next_word (omega arith) in
    let valid = a.held.laid_out.is_table in
    let kept = roots_kept first second new another a.picture.table valid a.held.roots a.held_too.roots (each_right _ a.held.index_blocks a.held.root_blocks (all_kept x a.held))
    (each_right _ a.held_too.index_blocks a.held_too.root_blocks (all_kept y a.held_too)) a.roots in
    record {
      length_same = y.changes.length_kept ∙ a.length_same ∙ sym x.changes.length_kept;
      front_same = front_too ∙ a.front_same ∙ sym front;
      next_same = header_word y a.held_too next_word (omega arith) ∙ a.next_same ∙ sym next;
      live_same = same_live y a.held_too ∙ a.live_same ∙ sym (same_live x a.held);
      picture = extended a.picture more;
      held = then_held x a.held;
      held_too = then_held y a.held_too;
      counted = counted_then next;
      index_same = same_index y a.held_too ∙ a.index_same ∙ sym (same_index x a.held);
      own = a.own;
      loose = a.loose;
      owned_are = a.owned_are;
      roots = roots_extended new another a.picture.table more valid (roots_of a.picture) kept;
    }
  where
    counted_then : word new next_word ≡ word first next_word → AreCounted (word new next_word) (extended a.picture more)
    counted_then next = (let c = subst (λ n. AreCounted n a.picture) (sym next) a.counted in record { counted = c.counted; falling = c.falling })
