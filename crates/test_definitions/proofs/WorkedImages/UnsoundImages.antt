-- The small images with a fault aren't sound.
use Rattle.std.proofs.Common.{◌≡◌, ℕ, zero, suc, ◌+◌, ◌*◌, ◌%◌, ◌==◌, ◌≤◌, true, false, List, [], ◌∷◌, ◌++◌, length, map, get_or, cond, eqb, Some, None, refl, sym, ap, ◌∙◌, subst, lit≤, arith}
use Rattle.std.specs.List.{AllByRecursion}
use Rattle.seg_spec.specs.Bytes.{slice, put, number, number_of, set_number, word, half}
use Rattle.seg_spec.specs.Pointer.{target}
use Rattle.seg_spec.specs.Types.{Form, Table, form_at}
use Rattle.seg_spec.specs.Value.{Value, Values, nil, cons, count}
use Rattle.seg_spec.specs.Shapes.{Tree, leaf, fork, black, red, IsTree, IsBlack}
use Rattle.seg_spec.specs.Heap.{Tile, live, live_of, tag_at}
use Rattle.seg_spec.specs.Block.{Kind, tag_of, block_of, IsOwnable}
use Rattle.seg_spec.specs.Reads.{Place, Opened, Opens, count_at, named, start, spaced, items, Holds, holds, HoldsEach, holds_more}
use Rattle.seg_spec.specs.Index.{Root, Index, OpensIndex, AreEntries, position_of, ListsNames}
use Rattle.seg_spec.specs.Header.{version_word, sharing_version}
use Rattle.seg_spec.specs.Faulty.{IsTagOf}
use Rattle.seg_spec.specs.Frozen.{root_of_frozen}
use Rattle.seg_spec.specs.Images.{IsSound}
use Rattle.seg_spec.specs.Sound.{IsPlain, kind_with, frozen_roots, HoldsRoots, holds_no_root, holds_more_roots, times, positions}
use Rattle.seg_spec.specs.Fixtures.{counter, greeting, empty, empty_tree, other_magic, other_size, linked, odd_kind, lost_gap, red_root, neighbours, no_items, named_as_unique, no_buffer, own_buffer, two_owners, no_owner}
use Rattle.seg_spec.proofs.Tables.OneTableLaws.{HasTable-one}
use Rattle.seg_spec.proofs.Images.PlainRootLaws.{plain_of}
use Rattle.seg_spec.proofs.Images.RootLaws.{HoldsRoots-split}
use Rattle.seg_spec.proofs.Values.PlaceFrameLaws.{each_left}
use Rattle.seg_spec.proofs.Heap.LiveBlockLaws.{live-once, times-append, times-same}
use Rattle.test_definitions.proofs.WorkedImages.ImageEvaluationLaws.{live_evaluated, apart_evaluated, free_evaluated, numbers-valid, texts-valid}
use Rattle.seg_spec.proofs.Frozen.NoFrozenLaws.{none_numbered}
use Rattle.seg_spec.proofs.Images.OwnedTagLaws.{tags_of_version}
use Rattle.test_definitions.proofs.WorkedImages.SoundImages.{counter_tiles, empty_tiles, empty_tree_tiles}

-- ---- the header

pub other_magic-unsound : IsSound other_magic → ⊥
unfolding other_magic counter slice put set_number
other_magic-unsound s = absurd (omega (arith, ap (λ xs. get_or xs 0 0) s.held.laid_out.header.magic))

pub other_size-unsound : IsSound other_size → ⊥
unfolding other_size counter slice put set_number number number_of
other_size-unsound s = absurd (omega (arith, s.held.laid_out.header.units_are))

-- ---- tiles

pub linked_live : live linked ≡ live_of counter_tiles
unfolding linked counter slice put set_number number number_of
linked_live = live_evaluated linked counter_tiles (refl, lit≤ tt, (refl, lit≤ tt, refl)) (
  record { units_is = refl; live_is = refl; before_is = refl; tag_is = λ e. cc },
  (record { units_is = refl; live_is = refl; before_is = refl; tag_is = λ e. cc }, tt),
)

pub linked-unsound : IsSound linked → ⊥
unfolding linked counter slice put set_number number number_of target
linked-unsound s =
    let blocks = subst (λ bs. AllByRecursion (λ b. IsOwnable linked s.picture.table b.at) bs) linked_live s.held.laid_out.blocks in
    let link = blocks.0.link_is in
    cc

pub odd_kind_live : live odd_kind ≡ live_of counter_tiles
unfolding odd_kind counter slice put set_number number number_of
odd_kind_live = live_evaluated odd_kind counter_tiles (refl, lit≤ tt, (refl, lit≤ tt, refl)) (
  record { units_is = refl; live_is = refl; before_is = refl; tag_is = λ e. cc },
  (record { units_is = refl; live_is = refl; before_is = refl; tag_is = λ e. cc }, tt),
)

pub odd_kind-unsound : IsSound odd_kind → ⊥
unfolding odd_kind counter slice put set_number number number_of
odd_kind-unsound s =
    let tags = subst (λ bs. AllByRecursion (λ b. IsTagOf (word odd_kind version_word) (tag_at odd_kind b.at)) bs) odd_kind_live (tags_of_version odd_kind s) in
    let shares : word odd_kind version_word ≡ sharing_version = tags.0 refl in
    cc

abbrev pub two_free : List Tile
two_free = record { at = 704; units = 2; live = false } ∷ record { at = 736; units = 2; live = false } ∷ []

pub neighbours-unsound : IsSound neighbours → ⊥
unfolding neighbours empty slice put number number_of
neighbours-unsound s =
    let apart = apart_evaluated neighbours two_free (refl, lit≤ tt, (refl, lit≤ tt, refl)) (
      record { units_is = refl; live_is = refl; before_is = refl; tag_is = λ e. refl },
      (record { units_is = refl; live_is = refl; before_is = refl; tag_is = λ e. refl }, tt),
    ) 0 s.held.laid_out.heap in
    let never = apart.1.0 refl in
    cc

-- ---- free structures

pub lost_gap-unsound : IsSound lost_gap → ⊥
unfolding lost_gap empty slice put set_number number number_of target
lost_gap-unsound s =
    let free = free_evaluated lost_gap empty_tiles (refl, lit≤ tt, refl) (record { units_is = refl; live_is = refl; before_is = refl; tag_is = λ e. refl }, tt) 0 s.held.laid_out.heap in
    let first = free.0 in
    cc

not_black : (tree : Tree) → IsTree red_root (Some 720) tree → IsBlack tree → ⊥
unfolding red_root empty_tree slice put set_number number number_of
not_black leaf is b = is
not_black (fork left at black right) is b = omega (arith, is.1.colour_is)
not_black (fork left at red right) is b = b

pub red_root-unsound : IsSound red_root → ⊥
unfolding red_root empty_tree slice put set_number number number_of target
red_root-unsound s =
    let free = free_evaluated red_root empty_tree_tiles (refl, lit≤ tt, refl) (record { units_is = refl; live_is = refl; before_is = refl; tag_is = λ e. refl }, tt) 1 s.held.laid_out.heap in
    not_black free.tree free.is_tree free.red_black.root

-- ---- the index

-- a flat index has these entries
flat_entries : (bytes : List ℕ) (names : List Root) (blocks : List ℕ) → word bytes 20 ≡ 0 → ListsNames bytes names blocks → AreEntries bytes (spaced (start bytes 32) 8 (count_at bytes 32)) names
flat_entries bytes names blocks flat l =
    let opens = subst (λ k. OpensIndex bytes k l.index) flat l.opens in
    subst (λ es. AreEntries bytes es names) (ap (λ (i : Index). i.entries) opens.index_is) l.entries

flat_blocks : (bytes : List ℕ) (names : List Root) (blocks : List ℕ) → word bytes 20 ≡ 0 → ListsNames bytes names blocks → blocks ≡ named bytes 32
flat_blocks bytes names blocks flat l =
    let opens = subst (λ k. OpensIndex bytes k l.index) flat l.opens in
    l.blocks_are ∙ ap (λ (i : Index). i.blocks) opens.index_is

some_items : (bytes : List ℕ) (entry : ℕ) (names : List Root) → AreEntries bytes (entry ∷ []) names → half bytes (entry + 4) ≡ 0 → ⊥
some_items bytes entry [] a none = a
some_items bytes entry (root ∷ names) a none = omega (arith, a.0.counted, a.0.some)

pub no_items-unsound : IsSound no_items → ⊥
unfolding no_items counter slice put set_number number number_of target
no_items-unsound s = some_items no_items 752 s.picture.names (flat_entries no_items s.picture.names s.held.index_blocks refl s.held.laid_out.names) refl

-- ---- unique objects

-- the pointer to a unique object points to a block of that kind
unique_tag : (bytes : List ℕ) (table : Table) (roots : List Root) (blocks : List ℕ) (T p : ℕ) → HoldsRoots bytes table roots blocks → AllByRecursion IsPlain roots → Some p ≡ position_of roots T → tag_at bytes (block_of p) % 256 ≡ 2
unique_tag bytes table [] blocks T p h plain e = cc
unique_tag bytes table (root ∷ roots) blocks T p (holds_more_roots {blocks = xs} {rest = rest} h hs) plain e =
    let o = plain_of bytes table root xs plain.0.no_words h in
    elim (root.type == T) as (λ b. Some p ≡ cond b (Some root.at) (position_of roots T) → tag_at bytes (block_of p) % 256 ≡ 2) [
      | true ↦ (λ f.
          let at : p ≡ root.at = cc in
          let kind : kind_with [] root.name ≡ Kind.object = ap (kind_with []) plain.0.no_name in
          let tag : tag_at bytes (block_of root.at) ≡ 2 + 256 * root.type = o.block.has_tag ∙ ap (λ k. tag_of k root.type) kind in
          subst (λ q. tag_at bytes (block_of q) % 256 ≡ 2) (sym at) (omega arith))
      | false ↦ (λ f. unique_tag bytes table roots rest T p hs plain.1 f)
    ] e

pub named_as_unique-unsound : IsSound named_as_unique → ⊥
unfolding named_as_unique counter slice put set_number number number_of target
named_as_unique-unsound s =
    let picture = s.picture in
    let all = HoldsRoots-split named_as_unique picture.table picture.names (picture.uniques ++ (picture.loose ++ frozen_roots picture)) s.held.root_blocks s.held.roots in
    let them = HoldsRoots-split named_as_unique picture.table picture.uniques (picture.loose ++ frozen_roots picture) all.right all.rights in
    let tag = unique_tag named_as_unique picture.table picture.uniques them.left 0 720 them.lefts (each_left IsPlain picture.uniques picture.loose s.held.laid_out.plain) (s.held.laid_out.uniques.words 0 (omega arith)) in
    absurd (omega arith)

-- ---- values

first_place : (bytes : List ℕ) (table : Table) (place : Place) (places : List Place) (vs : Values) (blocks : List ℕ) → HoldsEach bytes table (place ∷ places) vs blocks → (v : Value) × (xs : List ℕ) × Holds bytes table place v xs
first_place bytes table place places nil blocks h = elim h [ ]
first_place bytes table place places (cons v vs) blocks (holds_more {blocks = xs} h hs) = (v, xs, h)

kind_named : (name : List ℕ) → 1 ≤ length name → kind_with [] name ≡ Kind.named
kind_named [] some = absurd (omega arith)
kind_named (b ∷ name) some = refl

-- the one named object of these images has a value
the_item : (bytes : List ℕ) (table : Table) (names rest : List Root) (blocks : List ℕ) → AreEntries bytes (752 ∷ []) names → target bytes 752 ≡ Some 720 → half bytes 756 ≡ 1 → tag_at bytes 704 ≡ 1
    → HoldsRoots bytes table (names ++ rest) blocks → (v : Value) × (xs : List ℕ) × Holds bytes table (record { at = 720; type = 0 }) v xs
the_item bytes table [] rest blocks a points counted tag h = absurd a
the_item bytes table (root ∷ names) rest blocks a points counted tag (holds_more_roots {blocks = xs} h hs) =
    let o = plain_of bytes table root xs a.0.no_words h in
    let at : 720 ≡ root.at = cc (points, a.0.points) in
    let one : count root.values ≡ 1 = sym a.0.counted ∙ counted in
    let kind = kind_named root.name a.0.is_name.not_empty in
    let tags : tag_at bytes (block_of root.at) ≡ 1 + 256 * root.type = o.block.has_tag ∙ ap (λ k. tag_of k root.type) kind in
    let same : tag_at bytes 704 ≡ tag_at bytes (block_of root.at) = ap (λ p. tag_at bytes (block_of p)) at in
    let type : root.type ≡ 0 = omega arith in
    let each = subst (λ n. HoldsEach bytes table (items table root.at root.type n) root.values h.inside) one h.values in
    let it = first_place bytes table (record { at = root.at; type = root.type }) [] root.values h.inside each in
    (it.0, it.1, subst (λ (q : Place). Holds bytes table q it.0 it.1) (λ i. record { at = sym at i; type = type i }) it.2)

-- the cell of a text is null or points to a buffer
text_opens : (bytes : List ℕ) (v : Value) (xs : List ℕ) → Holds bytes (Form.str ∷ []) (record { at = 720; type = 0 }) v xs → (opened : Opened) × Opens bytes (Form.str ∷ []) (record { at = 720; type = 0 }) Form.str opened
text_opens bytes v xs (holds form opened inside owned f o hs v_is xs_is) = let same : form ≡ Form.str = cc in (opened, subst (λ g. Opens bytes (Form.str ∷ []) (record { at = 720; type = 0 }) g opened) same o)

pub no_buffer-unsound : IsSound no_buffer → ⊥
unfolding no_buffer greeting slice put set_number number number_of target
no_buffer-unsound s =
    let l = s.held.laid_out in
    let table : s.picture.table ≡ Form.str ∷ [] = HasTable-one no_buffer 64 s.picture.table (Form.str ∷ []) l.is_table texts-valid l.types refl in
    let entries = flat_entries no_buffer s.picture.names s.held.index_blocks refl l.names in
    let it = the_item no_buffer s.picture.table s.picture.names (s.picture.uniques ++ (s.picture.loose ++ frozen_roots s.picture)) s.held.root_blocks entries refl refl refl s.held.roots in
    let o = text_opens no_buffer it.0 it.1 (subst (λ t. Holds no_buffer t (record { at = 720; type = 0 }) it.0 it.1) table it.2) in
    let none = o.1.named_room in
    absurd (omega arith)

pub own_buffer-unsound : IsSound own_buffer → ⊥
unfolding own_buffer greeting slice put set_number number number_of target
own_buffer-unsound s =
    let l = s.held.laid_out in
    let table : s.picture.table ≡ Form.str ∷ [] = HasTable-one own_buffer 64 s.picture.table (Form.str ∷ []) l.is_table texts-valid l.types refl in
    let entries = flat_entries own_buffer s.picture.names s.held.index_blocks refl l.names in
    let it = the_item own_buffer s.picture.table s.picture.names (s.picture.uniques ++ (s.picture.loose ++ frozen_roots s.picture)) s.held.root_blocks entries refl refl refl s.held.roots in
    let o = text_opens own_buffer it.0 it.1 (subst (λ t. Holds own_buffer t (record { at = 720; type = 0 }) it.0 it.1) table it.2) in
    let room = o.1.named_room in
    absurd (omega (arith, room.has_tag))

-- ---- owners

-- an object with two entries is owned twice
twice : (bytes : List ℕ) (table : Table) (names rest : List Root) (blocks : List ℕ) → AreEntries bytes (752 ∷ 760 ∷ []) names → target bytes 752 ≡ Some 720 → target bytes 760 ≡ Some 720
    → HoldsRoots bytes table (names ++ rest) blocks → 2 ≤ times 704 blocks
twice bytes table [] rest blocks a p q h = absurd a
twice bytes table (x ∷ []) rest blocks a p q h = absurd a.1
twice bytes table (x ∷ y ∷ names) rest blocks a p q (holds_more_roots {blocks = xs} h (holds_more_roots {blocks = ys} {rest = zs} k hs)) =
    let o = plain_of bytes table x xs a.0.no_words h in
    let u = plain_of bytes table y ys a.1.0.no_words k in
    let at_x : 720 ≡ x.at = cc (p, a.0.points) in
    let at_y : 720 ≡ y.at = cc (q, a.1.0.points) in
    let first : xs ≡ 704 ∷ o.inside = o.blocks_are ∙ ap (λ b. block_of b ∷ o.inside) (sym at_x) in
    let second : ys ≡ 704 ∷ u.inside = u.blocks_are ∙ ap (λ b. block_of b ∷ u.inside) (sym at_y) in
    let n1 : times 704 xs ≡ times 704 (704 ∷ o.inside) = ap (times 704) first in
    let n2 : times 704 ys ≡ times 704 (704 ∷ u.inside) = ap (times 704) second in
    omega (arith, times-append 704 xs (ys ++ zs), times-append 704 ys zs, times-same 704 o.inside, times-same 704 u.inside)

pub two_owners-unsound : IsSound two_owners → ⊥
unfolding two_owners counter slice put set_number number number_of target
two_owners-unsound s =
    let l = s.held.laid_out in
    let entries = flat_entries two_owners s.picture.names s.held.index_blocks refl l.names in
    let two = twice two_owners s.picture.table s.picture.names (s.picture.uniques ++ (s.picture.loose ++ frozen_roots s.picture)) s.held.root_blocks entries refl refl s.held.roots in
    let once = live-once two_owners 0 l.heap 704 in
    absurd (omega (arith, s.held.owners 704, times-append 704 s.held.index_blocks s.held.root_blocks))

-- an image of numbers whose pointer to a unique object is null has no unique object
no_unique : (bytes : List ℕ) (uniques : List Root) (blocks : List ℕ) → HoldsRoots bytes (Form.i64 ∷ []) uniques blocks → AllByRecursion IsPlain uniques → None ≡ position_of uniques 0 → uniques ≡ []
no_unique bytes [] blocks h plain none = refl
no_unique bytes (root ∷ roots) blocks (holds_more_roots h hs) plain none = absurd (go root.type refl (known it.2))
  where
    it : (v : Value) × (xs : List ℕ) × Holds bytes (Form.i64 ∷ []) (record { at = root.at; type = root.type }) v xs
    it = first_place bytes (Form.i64 ∷ []) (record { at = root.at; type = root.type }) [] root.values h.inside
        (subst (λ n. HoldsEach bytes (Form.i64 ∷ []) (items (Form.i64 ∷ []) root.at root.type n) root.values h.inside) (ap count plain.0.values_are) h.values)

    known : {v : Value} {xs : List ℕ} → Holds bytes (Form.i64 ∷ []) (record { at = root.at; type = root.type }) v xs → (form : Form) × (form_at (Form.i64 ∷ []) root.type ≡ Some form)
    known (holds form opened inside owned f o hs v_is xs_is) = (form, f)

    go : (T : ℕ) → root.type ≡ T → (form : Form) × (form_at (Form.i64 ∷ []) root.type ≡ Some form) → ⊥
    go zero e f =
        let some : position_of (root ∷ roots) 0 ≡ Some root.at = ap (λ T. cond (eqb T 0) (Some root.at) (position_of roots 0)) e in
        cc
    go (suc T) e f = let g = subst (λ U. form_at (Form.i64 ∷ []) U ≡ Some f.0) e f.1 in cc

no_names : (bytes : List ℕ) (names : List Root) → AreEntries bytes [] names → names ≡ []
no_names bytes [] a = refl
no_names bytes (root ∷ names) a = absurd a

no_blocks : (bytes : List ℕ) (table : Table) (roots : List Root) (blocks : List ℕ) → roots ≡ [] → HoldsRoots bytes table roots blocks → blocks ≡ []
no_blocks bytes table [] blocks e holds_no_root = refl
no_blocks bytes table (root ∷ roots) blocks e h = cc

no_owner_live : live no_owner ≡ live_of counter_tiles
unfolding no_owner counter slice put number number_of
no_owner_live = live_evaluated no_owner counter_tiles (refl, lit≤ tt, (refl, lit≤ tt, refl)) (
  record { units_is = refl; live_is = refl; before_is = refl; tag_is = λ e. cc },
  (record { units_is = refl; live_is = refl; before_is = refl; tag_is = λ e. cc }, tt),
)

pub no_owner-unsound : IsSound no_owner → ⊥
unfolding no_owner counter slice put number number_of target
no_owner-unsound s =
    let picture = s.picture in
    let l = s.held.laid_out in
    let table : picture.table ≡ Form.i64 ∷ [] = HasTable-one no_owner 64 picture.table (Form.i64 ∷ []) l.is_table numbers-valid l.types refl in
    let names : picture.names ≡ [] = no_names no_owner picture.names (flat_entries no_owner picture.names s.held.index_blocks refl l.names) in
    let index : s.held.index_blocks ≡ [] = flat_blocks no_owner picture.names s.held.index_blocks refl l.names in
    let all = HoldsRoots-split no_owner picture.table picture.names (picture.uniques ++ (picture.loose ++ frozen_roots picture)) s.held.root_blocks s.held.roots in
    let them = HoldsRoots-split no_owner picture.table picture.uniques (picture.loose ++ frozen_roots picture) all.right all.rights in
    let uniques : picture.uniques ≡ [] = no_unique no_owner picture.uniques them.left (subst (λ t. HoldsRoots no_owner t picture.uniques them.left) table them.lefts) (each_left IsPlain picture.uniques picture.loose l.plain)
    (l.uniques.words 0 (omega arith)) in
    let none_frozen : frozen_roots picture ≡ [] = ap (map root_of_frozen) (none_numbered picture s.counted) in
    let roots : picture.names ++ (picture.uniques ++ (picture.loose ++ frozen_roots picture)) ≡ [] = rw (names, uniques, s.none_loose, none_frozen) refl in
    let none : s.held.root_blocks ≡ [] = no_blocks no_owner picture.table _ s.held.root_blocks roots s.held.roots in
    let one : times 704 (positions (live no_owner)) ≡ 1 = ap (λ bs. times 704 (positions bs)) no_owner_live in
    let zero_is : times 704 (s.held.index_blocks ++ s.held.root_blocks) ≡ 0 = rw (index, none) refl in
    absurd (omega (arith, s.held.owners 704))
