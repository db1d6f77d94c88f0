-- The picture after an instruction that changes one place, the blocks of its value, and perhaps frozen
-- objects: the named, unique and owned objects are where they were, and so are the nodes of the index. No
-- frozen object came.
use Rattle.std.proofs.Common.{◌≡◌, ◌≢◌, ℕ, zero, suc, ◌+◌, ◌%◌, ◌≤◌, ◌⊎◌, inl, inr, List, [], ◌∷◌, ◌++◌, length, Option, Some, None, refl, sym, ap, ◌∙◌, subst, arith, length-append}
use Rattle.std.specs.Prelude.{is_some}
use Rattle.std.specs.List.{AllByRecursion}
use Rattle.std.proofs.lemmas.List.{length-map}
use Rattle.std.proofs.lemmas.Bool.{cases_eq}
use Rattle.seg_spec.specs.Bytes.{word}
use Rattle.seg_spec.specs.Header.{allocator_word, next_word, index_kind_word}
use Rattle.seg_spec.specs.Apart.{KeepsBlockAround}
use Rattle.seg_spec.specs.Types.{Table}
use Rattle.seg_spec.specs.Value.{Value, Values, count, with_value_at}
use Rattle.seg_spec.specs.Heap.{live, tag_at}
use Rattle.seg_spec.specs.Block.{block_of, tag_of, Kind, KeepsBlock}
use Rattle.seg_spec.specs.Shapes.{nodes_of, tree_words}
use Rattle.seg_spec.specs.Reads.{Place, Holds, HoldsEach, items}
use Rattle.seg_spec.specs.Index.{Root, Index, OpensIndex, root_named, root_of_type}
use Rattle.seg_spec.specs.Frozen.{Frozen, root_of_frozen}
use Rattle.seg_spec.specs.Sound.{Picture, IsHeld, IsPlain, HoldsRoot, kind_with, payload_of, frozen_roots, roots_of, times, positions}
use Rattle.seg_spec.specs.Shared.{names_in, names_each, IsBelow, with_count}
use Rattle.seg_spec.specs.Counting.{cells_in, owners_in}
use Rattle.seg_spec.specs.Roots.{HasFace, item_of, with_item}
use Rattle.seg_spec.proofs.Heap.LiveBlockLaws.{times-append, there, live-once, times-other}
use Rattle.seg_spec.proofs.Heap.BlockCountLaws.{split_at, no_more}
use Rattle.seg_spec.proofs.Values.PlaceFrameLaws.{each_left, each_right, each_weaker}
use Rattle.seg_spec.proofs.Values.OneValueLaws.{HoldsEach-one}
use Rattle.seg_spec.proofs.Values.PathSplitLaws.{middle, split}
use Rattle.seg_spec.proofs.Images.RootPartLaws.{count-change_nth, items_nth}
use Rattle.seg_spec.proofs.Frozen.ReleaseLaws.{frozen_there}
use Rattle.client_spec.specs.Machine.{Path, State, at_origin}
use Rattle.client_spec.specs.Pictures.{Pictures, LeadsInImage}
use Rattle.client_spec.specs.Ties.{places_of, ObjectsStay, FrozenKept}
use Rattle.test_definitions.proofs.ValueChanges.AroundPersistLaws.{surrounded_leads}
use Rattle.test_definitions.proofs.Alike.AlikeRootLaws.{of_type}
use Rattle.test_definitions.proofs.ValueChanges.BlockKindLaws.{OfValues, nodes_tagged, Tagged, roots_tagged}
use Rattle.test_definitions.proofs.ValueChanges.ChangedPlaceLaws.{KeepsOwners, each_owner, own_root, own_root_then, own_below, within, index_kept, index_beside}
use Rattle.test_definitions.proofs.Frozen.FreedBlockLaws.{frozen_by, its_fewer}
use Rattle.test_definitions.proofs.Frozen.FrozenApartLaws.{frozen_apart, among_either, owner_in_roots}
use Rattle.test_definitions.proofs.Frozen.FrozenContentLaws.{same_blocks}
use Rattle.test_definitions.proofs.Frozen.FrozenOrderLaws.{IsOneOf, each_of}
use Rattle.test_definitions.proofs.Frozen.FrozenStayLaws.{SameContent}
use Rattle.test_definitions.proofs.Alike.ListedRootLaws.{found_named, found_of_type, named_as_many}
use Rattle.test_definitions.proofs.Frozen.ReachedFrozenLaws.{StandsAt, below_stands, all_reached}
use Rattle.test_definitions.proofs.Alike.RootMemberLaws.{IsAmong, each_among, among_left, among_right, counts, owns, looked_up, as_many}

-- ---- lists of roots

pub cells_of : (P : Place → Type 0) (rs : List Root) (r : Root) → AllByRecursion P (cells_in rs) → IsAmong r rs → AllByRecursion P (names_each r.values)
cells_of P [] r a i = absurd i
cells_of P (x ∷ rs) r a (inl e) = subst (λ (y : Root). AllByRecursion P (names_each y.values)) (sym e) (each_left P (names_each x.values) (cells_in rs) a)
cells_of P (x ∷ rs) r a (inr i) = cells_of P rs r (each_right P (names_each x.values) (cells_in rs) a) i

pub all_cells : (P : Place → Type 0) (rs : List Root) → ((r : Root) → IsAmong r rs → AllByRecursion P (names_each r.values)) → AllByRecursion P (cells_in rs)
all_cells P [] f = tt
all_cells P (r ∷ rs) f = joined (names_each r.values) (cells_in rs) (f r (inl refl)) (all_cells P rs (λ x i. f x (inr i)))
  where
    joined : (xs ys : List Place) → AllByRecursion P xs → AllByRecursion P ys → AllByRecursion P (xs ++ ys)
    joined [] ys a b = b
    joined (x ∷ xs) ys a b = (a.0, joined xs ys a.1 b)

-- a list in which no block occurs more often, and which is as long, has the same blocks
pub same_members : (xs ys : List ℕ) → ((h : ℕ) → times h xs ≤ times h ys) → length ys ≡ length xs → (h : ℕ) → 1 ≤ times h ys → 1 ≤ times h xs
same_members xs ys fewer long h some = go (cases_eq (times h xs) 0)
  where
    go : (times h xs ≡ 0) ⊎ (times h xs ≢ 0) → 1 ≤ times h xs
    go (inr more) = omega (arith, more)
    go (inl none) =
        let s = split_at h ys some in
        let rest = s.left ++ s.right in
        let count_is : (k : ℕ) → times k ys ≡ times k s.left + (times k (h ∷ s.right)) = λ k. ap (times k) s.is ∙ times-append k s.left (h ∷ s.right) in
        let below : (k : ℕ) → times k xs ≤ times k rest = λ k. beside k s.left s.right (count_is k) (fewer k) in
        let n = no_more xs rest below in
        absurd (omega (arith, n, long, ap length s.is, length-append s.left (h ∷ s.right), length-append s.left s.right))
      where
        beside : (k : ℕ) (l r : List ℕ) → times k ys ≡ times k l + times k (h ∷ r) → times k xs ≤ times k ys → times k xs ≤ times k (l ++ r)
        beside k l r e f = by (cases_eq h k)
          where
            by : (h ≡ k) ⊎ (h ≢ k) → times k xs ≤ times k (l ++ r)
            by (inl same) = omega (arith, none, ap (λ n. times n xs) same)
            by (inr other) = omega (arith, e, f, times-other k h r other, times-append k l r)

-- ---- blocks of the index, by their tags

-- the number of a kind of block of the index, in a tag
abbrev IsIndexKind : ℕ → Type 0
IsIndexKind k = (5 ≤ k) × (k ≤ 6)

abbrev OtherKind : ℕ → ℕ → Type 0
OtherKind k t = t % 256 ≢ k

-- an allocated block with the tag of the index belongs to the index
pub of_index : (bytes : List ℕ) (p : Picture) (held : IsHeld bytes p) (k : ℕ) → IsIndexKind k → (h : ℕ) → 1 ≤ times h (positions (live bytes)) → tag_at bytes h % 256 ≡ k → 1 ≤ times h held.index_blocks
of_index bytes p held k kind h some is = go (cases_eq (times h held.root_blocks) 0)
  where
    values_other : OfValues (OtherKind k)
    values_other = record {
      buffer = λ T e. absurd (omega (arith, kind.0, kind.1, e));
      node = λ T e. absurd (omega (arith, kind.0, kind.1, e));
      object = λ T e. absurd (omega (arith, kind.0, kind.1, e));
    }

    head_other : (words name : List ℕ) (T : ℕ) → OtherKind k (tag_of (kind_with words name) T)
    head_other [] [] T e = absurd (omega (arith, kind.0, kind.1, e))
    head_other [] (b ∷ name) T e = absurd (omega (arith, kind.0, kind.1, e))
    head_other (w ∷ words) name T e = absurd (omega (arith, kind.0, kind.1, e))

    heads : (roots : List Root) → AllByRecursion (λ (r : Root). OtherKind k (tag_of (kind_with r.words r.name) r.type)) roots
    heads [] = tt
    heads (r ∷ roots) = (head_other r.words r.name r.type, heads roots)

    go : (times h held.root_blocks ≡ 0) ⊎ (times h held.root_blocks ≢ 0) → 1 ≤ times h held.index_blocks
    go (inl none) = omega (arith, some, none, counts bytes p held h)
    go (inr more) = absurd (there (Tagged bytes (OtherKind k)) h held.root_blocks (roots_tagged bytes (OtherKind k) values_other p.table (heads (roots_of p)) held.roots) (omega (arith, more)) is)

-- the blocks of a tree index have a tag of their own, and there are as many as names
pub node_tags : (bytes : List ℕ) (q : Picture) (held : IsHeld bytes q) → (word bytes index_kind_word ≡ 0 → ⊥) → AllByRecursion (λ h. tag_at bytes h ≡ tag_of Kind.index_node 0) held.index_blocks × (length held.index_blocks ≡ length q.names)
node_tags bytes q held tree = by (word bytes index_kind_word) tree held.laid_out.names.index held.laid_out.names.opens held.laid_out.names.blocks_are (as_many bytes q held)
  where
    by : (kind : ℕ) → (kind ≡ 0 → ⊥) → (index : Index) → OpensIndex bytes kind index → held.index_blocks ≡ index.blocks → length index.entries ≡ length q.names
        → AllByRecursion (λ h. tag_at bytes h ≡ tag_of Kind.index_node 0) held.index_blocks × (length held.index_blocks ≡ length q.names)
    by zero tree index o is n = absurd (tree refl)
    by (suc k) tree index o is n =
        let blocks = is ∙ ap (λ (x : Index). x.blocks) o.index_is in
        let ns = nodes_of o.tree in
        let entries = ap (λ (x : Index). length x.entries) o.index_is ∙ length-map ns (λ p. p + tree_words) in (
          subst (AllByRecursion (λ h. tag_at bytes h ≡ tag_of Kind.index_node 0)) (sym blocks) (nodes_tagged bytes (λ t. t ≡ tag_of Kind.index_node 0) _ _ refl ns o.are_nodes),
          ap length blocks ∙ length-map ns block_of ∙ sym entries ∙ n,
        )

-- ---- the picture after the instruction

-- shared cells in the place's new value point to frozen objects that there were
abbrev pub CellsWithin : {others : List Root} {s : State} {bytes : List ℕ} → Pictures others s bytes → List ℕ → Place → Type 0
CellsWithin {bytes = bytes} p new place = (w : Value) (news : List ℕ) → Holds new p.picture.table place w news → AllByRecursion (IsBelow (word bytes next_word) p.picture.frozen) (names_in w)

module _ {others : List Root} {s s' : State} {old : List ℕ} (p : Pictures others s old) (new : List ℕ) (path : Path) (place : Place) (l : LeadsInImage p path place) (found : Value × ℕ) (begins : at_origin s path.origin ≡ Some found)
    {value : Value} (its : List ℕ) (holds_it : Holds old p.picture.table place value its) (kept : KeepsOwners p new place its) (p' : Pictures others s' new) where
  -- the types and the objects that it keeps
  pub record ObjectsThere : Type 0 where
    pub tables : p'.picture.table ≡ p.picture.table
    pub names : (name : List ℕ) → is_some (root_named p'.picture.names name) ≡ is_some (root_named p.picture.names name)
    pub uniques : (T : ℕ) → is_some (root_of_type p'.picture.uniques T) ≡ is_some (root_of_type p.picture.uniques T)
    pub stay : ObjectsStay p.picture p'.picture
    pub owned_at : places_of p'.owned ≡ places_of p.owned

  -- what else the instruction keeps
  pub record Beside : Type 0 where
    pub objects : ObjectsThere
    pub kinds : word new index_kind_word ≡ word old index_kind_word
    -- other blocks stay allocated, but not all blocks of frozen objects
    pub lives : (h : ℕ) → 1 ≤ times h (positions (live old)) → times h its ≡ 0 → times h (frozen_apart old p.picture p.held).frozen ≡ 0 → 1 ≤ times h (positions (live new))
    pub frozen : FrozenKept old new p.picture.table p.picture.frozen p'.picture.frozen

  module _ (b : ObjectsThere) where
    -- an object, and the object that was there before
    pub record WasRoot (a : Root) : Type 0 where
      pub was : Root
      pub among : IsAmong was (owners_in p.picture)
      pub face : HasFace was a

    some_before : {o q : Option Root} → is_some o ≡ is_some q → (a : Root) → o ≡ Some a → (c : Root) × (q ≡ Some c)
    some_before {o = o} {q = q} e a f = go q (sym e ∙ ap (λ (x : Option Root). is_some x) f)
      where
        go : (q : Option Root) → is_some q ≡ is_some (Some a) → (c : Root) × (q ≡ Some c)
        go None g = cc
        go (Some c) g = (c, refl)

    pub named_before : (name : List ℕ) (a : Root) → root_named p'.picture.names name ≡ Some a → (c : Root) × (root_named p.picture.names name ≡ Some c) × HasFace c a
    named_before name a e = (let c = some_before (b.names name) a e in (c.0, c.1, b.stay.names name c.0 a c.1 e))

    pub unique_before : (T : ℕ) (a : Root) → root_of_type p'.picture.uniques T ≡ Some a → (c : Root) × (root_of_type p.picture.uniques T ≡ Some c) × HasFace c a
    unique_before T a e = (let c = some_before (b.uniques T) a e in (c.0, c.1, b.stay.uniques T c.0 a c.1 e))

    -- the tag of a root's block stays
    tag_stays : (c : Root) → IsAmong c (owners_in p.picture) → tag_at new (block_of (payload_of c)) ≡ tag_at old (block_of (payload_of c))
    tag_stays c i = elim (each_owner p new path place l found begins its holds_it kept c i) [
      | inl e ↦ subst (λ (x : Root). tag_at new (block_of (payload_of x)) ≡ tag_at old (block_of (payload_of x))) (sym e) (own_root p new path place l found begins its holds_it kept).tag_kept
      | inr o ↦ o.is_kept.tag_kept
    ]

    -- ---- loose objects

    -- an object that registers own, at the position of one that they owned
    plain_before : (c a : Root) → IsAmong c (owners_in p.picture) → IsPlain c → IsPlain a → a.at ≡ c.at → (blocks : List ℕ) → HoldsRoot new p'.picture.table a blocks → HasFace c a
    plain_before c a i pc pa at blocks h =
        let o = owns old p.picture p.held c p.held.roots (owner_in_roots p.picture c i) in
        let mine : payload_of c ≡ c.at = (let e = ap length pc.no_words in omega (arith, e)) in
        let theirs : payload_of a ≡ a.at = (let e = ap length pa.no_words in omega (arith, e)) in
        let tag_c : tag_at old (block_of (payload_of c)) ≡ tag_of Kind.object c.type = o.holds_it.block.has_tag ∙ (λ j. tag_of (kind_with (pc.no_words j) (pc.no_name j)) c.type) in
        let tag_a : tag_at new (block_of (payload_of a)) ≡ tag_of Kind.object a.type = h.block.has_tag ∙ (λ j. tag_of (kind_with (pa.no_words j) (pa.no_name j)) a.type) in
        let same : tag_at new (block_of (payload_of a)) ≡ tag_at new (block_of (payload_of c)) = ap (λ n. tag_at new (block_of n)) (theirs ∙ at ∙ sym mine) in
        let tags : tag_of Kind.object a.type ≡ tag_of Kind.object c.type = sym tag_a ∙ same ∙ tag_stays c i ∙ tag_c in
        record {
          same_name = pa.no_name ∙ sym pc.no_name;
          same_words = pa.no_words ∙ sym pc.no_words;
          same_at = at;
          same_type = omega (arith, tags);
          same_count = ap count pa.values_are ∙ sym (ap count pc.values_are);
        }

    owned_among : (cs as_are : List Root) → places_of as_are ≡ places_of cs → ((c : Root) → IsAmong c cs → IsAmong c (owners_in p.picture) × IsPlain c)
        → ((a : Root) → IsAmong a as_are → IsPlain a × ((blocks : List ℕ) × HoldsRoot new p'.picture.table a blocks))
        → (a : Root) → IsAmong a as_are → WasRoot a
    owned_among [] [] e f g a i = absurd i
    owned_among [] (x ∷ xs) e f g a i = cc
    owned_among (c ∷ cs) [] e f g a i = absurd i
    owned_among (c ∷ cs) (x ∷ xs) e f g a (inl same) =
        let at : x.at ≡ c.at = cc in
        let mine = f c (inl refl) in
        let theirs = g x (inl refl) in
        subst WasRoot (sym same) (record { was = c; among = mine.0; face = plain_before c x mine.0 mine.1 theirs.0 at theirs.1.0 theirs.1.1 })
    owned_among (c ∷ cs) (x ∷ xs) e f g a (inr i) = owned_among cs xs (let more : places_of xs ≡ places_of cs = cc in more) (λ c i. f c (inr i)) (λ a i. g a (inr i)) a i

    loose_in : (c : Root) → IsAmong c p.picture.loose → IsAmong c (owners_in p.picture)
    loose_in c i = among_right c p.picture.names (p.picture.uniques ++ p.picture.loose) (among_right c p.picture.uniques p.picture.loose i)

    root_after : (a : Root) → IsAmong a p'.picture.loose → IsAmong a (roots_of p'.picture)
    root_after a i = (
        let r = p'.picture in
        among_right a r.names (r.uniques ++ (r.loose ++ frozen_roots r)) (among_right a r.uniques (r.loose ++ frozen_roots r) (among_left a r.loose (frozen_roots r) i)))

    holds_after : (a : Root) → IsAmong a (roots_of p'.picture) → (blocks : List ℕ) × HoldsRoot new p'.picture.table a blocks
    holds_after a i = (let o = owns new p'.picture p'.held a p'.held.roots i in (o.its, o.holds_it))

    plain_loose : {t : State} {bytes : List ℕ} (q : Pictures others t bytes) (c : Root) → IsAmong c q.picture.loose → IsPlain c
    plain_loose q c i = each_among IsPlain c (q.picture.uniques ++ q.picture.loose) (among_right c q.picture.uniques q.picture.loose i) q.held.laid_out.plain

    -- an owned object at the position of an owned object
    pub owned_face : (c a : Root) → IsAmong c p.owned → IsAmong a p'.owned → a.at ≡ c.at → HasFace c a
    owned_face c a i j at = (
        let x = subst (IsAmong c) (sym p.loose) (among_right c others p.owned i) in
        let y = subst (IsAmong a) (sym p'.loose) (among_right a others p'.owned j) in
        let h = holds_after a (root_after a y) in
        plain_before c a (loose_in c x) (plain_loose p c x) (plain_loose p' a y) at h.0 h.1)

    pub was_owned : (a : Root) → IsAmong a p'.owned → WasRoot a
    was_owned = owned_among p.owned p'.owned b.owned_at
        (λ c i. (let j = subst (IsAmong c) (sym p.loose) (among_right c others p.owned i) in (loose_in c j, plain_loose p c j)))
        (λ a i. (let j = subst (IsAmong a) (sym p'.loose) (among_right a others p'.owned i) in (plain_loose p' a j, holds_after a (root_after a j))))

    pub itself : (c : Root) → HasFace c c
    itself c = record { same_name = refl; same_words = refl; same_at = refl; same_type = refl; same_count = refl }

    -- each object that isn't frozen was there before
    pub was_root : (a : Root) → IsAmong a (owners_in p'.picture) → WasRoot a
    was_root a i = (
        let r = p'.picture in
        let n = p'.held.laid_out.names in
        elim (among_either a r.names (r.uniques ++ r.loose) i) [
          | inl j ↦ (let c = named_before a.name a (found_named r.names a n.ascending j) in
              record { was = c.0; among = among_left c.0 p.picture.names (p.picture.uniques ++ p.picture.loose) (looked_up a.name c.0 p.picture.names c.1).0; face = c.2 })
          | inr k ↦ elim (among_either a r.uniques r.loose k) [
            | inl j ↦ (let c = unique_before a.type a (found_of_type 0 r.uniques a p'.held.laid_out.uniques.rising j) in
                record { was = c.0; among = among_right c.0 p.picture.names (p.picture.uniques ++ p.picture.loose) (among_left c.0 p.picture.uniques p.picture.loose (of_type p.picture.uniques a.type c.0 c.1)); face = c.2 })
            | inr j ↦ elim (among_either a others p'.owned (subst (IsAmong a) p'.loose j)) [
              | inl m ↦ record { was = a; among = loose_in a (subst (IsAmong a) (sym p.loose) (among_left a others p.owned m)); face = itself a }
              | inr m ↦ was_owned a m
            ]
          ]
        ])

    pub items_faced : (c a : Root) → HasFace c a → {vs : Values} {blocks : List ℕ} → HoldsEach new p'.picture.table (items p'.picture.table a.at a.type (count a.values)) vs blocks
        → HoldsEach new p.picture.table (items p.picture.table c.at c.type (count c.values)) vs blocks
    items_faced c a f {vs = vs} {blocks = blocks} h = (
        let t = subst (λ (z : Table). HoldsEach new z (items z a.at a.type (count a.values)) vs blocks) b.tables h in
        subst (λ ps. HoldsEach new p.picture.table ps vs blocks) (λ j. items p.picture.table (f.same_at j) (f.same_type j) (f.same_count j)) t)

  module _ (b : Beside) where
    -- ---- shared cells

    pub cells_below : CellsWithin p new place → (a : Root) → IsAmong a (owners_in p'.picture) → (a_there : IsAmong a (roots_of p'.picture)) → AllByRecursion (IsBelow (word old next_word) p.picture.frozen) (names_each a.values)
    cells_below cells a i there_is =
        let w = was_root b.objects a i in
        let c = w.was in
        let h = holds_after b.objects a there_is in
        let here = items_faced b.objects c a w.face h.1.values in
        let named = cells_of (IsBelow (word old next_word) p.picture.frozen) (owners_in p.picture) c p.counted.counted.named w.among in
        elim (each_owner p new path place l found begins its holds_it kept c w.among) [
          | inl e ↦ changed c e named here
          | inr o ↦ (
              let k = o.is_kept in
              subst (λ vs. AllByRecursion (IsBelow (word old next_word) p.picture.frozen) (names_each vs)) (HoldsEach-one new p.picture.table k.still.values here).0 named)
        ]
      where
        -- the place's own root
        changed : (c : Root) → c ≡ l.root → AllByRecursion (IsBelow (word old next_word) p.picture.frozen) (names_each c.values) → {blocks : List ℕ}
            → HoldsEach new p.picture.table (items p.picture.table c.at c.type (count c.values)) a.values blocks → AllByRecursion (IsBelow (word old next_word) p.picture.frozen) (names_each a.values)
        changed c e named {blocks = blocks} here =
            let n = count l.root.values in
            let stays = own_root p new path place l found begins its holds_it kept in
            let here' = subst (λ (x : Root). HoldsEach new p.picture.table (items p.picture.table x.at x.type (count x.values)) a.values blocks) e here in
            let item = item_of p.picture.table l.root l.item in
            let m = middle new p.picture.table here' l.item item (items_nth p.picture.table l.root.at l.root.type n l.item (within p new path place l found begins its holds_it kept)) in
            let cut = split new p.picture.table (surrounded_leads old new p.picture.table stays.surrounded) m.holds_it in
            let then_is = own_root_then p new path place l found begins its holds_it kept cut.holds_it in
            let same = count-change_nth (Some l.item) (with_value_at path.selectors cut.value) l.root.values in
            let values = subst (λ k. HoldsEach new p.picture.table (items p.picture.table l.root.at l.root.type k)
            (with_item l.root l.item (with_value_at path.selectors cut.value)).values then_is.holds_then.inside) same then_is.holds_then.values in
            let below = own_below p new path place l found begins its holds_it kept (word old next_word) p.picture.frozen (subst (λ (x : Root). AllByRecursion (IsBelow (word old next_word) p.picture.frozen) (names_each x.values)) e named)
            cut.value (cells cut.value cut.its cut.holds_it) in
            subst (λ vs. AllByRecursion (IsBelow (word old next_word) p.picture.frozen) (names_each vs)) (HoldsEach-one new p.picture.table values here').0 below

    -- ---- frozen objects

    stands : (q : Place) → IsBelow (word old next_word) p.picture.frozen q → StandsAt q.at p.picture.frozen
    stands q c = (below_stands (word old next_word) p.picture.frozen q c).0

    -- what is kept of a frozen object that stays
    object_kept : (f g : Frozen) → IsOneOf f p.picture.frozen → IsOneOf g p'.picture.frozen → g.at ≡ f.at → (g ≡ with_count f g.count) × AllByRecursion (KeepsBlockAround old new f.at 4) (b.frozen.theirs f.at)
    object_kept f g i j at =
        each_of (λ (y : Frozen). y.at ≡ f.at → (y ≡ with_count f y.count) × AllByRecursion (KeepsBlockAround old new f.at 4) (b.frozen.theirs f.at)) g p'.picture.frozen j
        (each_of (λ (x : Frozen). AllByRecursion (λ (y : Frozen). y.at ≡ x.at → (y ≡ with_count x y.count) × AllByRecursion (KeepsBlockAround old new x.at 4) (b.frozen.theirs x.at)) p'.picture.frozen) f p.picture.frozen i b.frozen.each) at

    pub content : (f g : Frozen) → IsOneOf f p.picture.frozen → IsOneOf g p'.picture.frozen → g.at ≡ f.at → SameContent f g
    content f g i j at =
        let same = (object_kept f g i j at).0 in
        record { at = at; type = ap (λ (x : Frozen). x.type) same; number = ap (λ (x : Frozen). x.number) same; value = ap (λ (x : Frozen). x.value) same }

    pub its_kept : (f g : Frozen) → IsOneOf f p.picture.frozen → IsOneOf g p'.picture.frozen → g.at ≡ f.at → AllByRecursion (KeepsBlockAround old new f.at 4) (b.frozen.theirs f.at)
    its_kept f g i j at = (object_kept f g i j at).1

    pub there_before : (f : Frozen) → IsOneOf f p.picture.frozen → HoldsRoot old p.picture.table (root_of_frozen f) (b.frozen.theirs f.at)
    there_before f i = each_of (λ (x : Frozen). HoldsRoot old p.picture.table (root_of_frozen x) (b.frozen.theirs x.at)) f p.picture.frozen i b.frozen.holds

    -- its blocks are blocks of frozen objects
    pub its_frozen : (f : Frozen) → IsOneOf f p.picture.frozen → (h : ℕ) → times h (b.frozen.theirs f.at) ≤ times h (frozen_apart old p.picture p.held).frozen
    its_frozen f i h =
        let apart = frozen_apart old p.picture p.held in
        let all = frozen_by old p.picture.table b.frozen.theirs p.picture.frozen apart.frozen apart.holds_frozen b.frozen.holds in
        omega (arith, its_fewer b.frozen.theirs f p.picture.frozen i h, ap (times h) all)

    pub its_live : (f : Frozen) → IsOneOf f p.picture.frozen → (h : ℕ) → times h (b.frozen.theirs f.at) ≤ times h (positions (live old))
    its_live f i h = omega (arith, its_frozen f i h, (frozen_apart old p.picture p.held).counts h)

    -- an object that stays owns the blocks that it owned
    pub blocks_stay : (f g : Frozen) → IsOneOf f p.picture.frozen → IsOneOf g p'.picture.frozen → g.at ≡ f.at → {blocks : List ℕ} → HoldsRoot new p'.picture.table (root_of_frozen g) blocks → blocks ≡ b.frozen.theirs f.at
    blocks_stay f g i j at {blocks = blocks} h =
        let before = frozen_there old p.picture.table f (b.frozen.theirs f.at) (there_before f i) in
        let after = frozen_there new p.picture.table g blocks (subst (λ (z : Table). HoldsRoot new z (root_of_frozen g) blocks) b.objects.tables h) in
        same_blocks (word old allocator_word) old new p.picture.table p.held.laid_out.is_table p.held.laid_out.heap f (b.frozen.theirs f.at) before (its_live f i) (its_kept f g i j at) g blocks at after

    -- each frozen object was there before
    pub frozen_before : CellsWithin p new place → (f : Frozen) → IsOneOf f p'.picture.frozen → StandsAt f.at p.picture.frozen
    frozen_before within_place f i =
        let falls : AllByRecursion (λ (g : Frozen). AllByRecursion (λ (q : Place). StandsAt q.at p.picture.frozen) (names_in g.value)) p.picture.frozen =
        each_weaker (λ (g : Frozen). AllByRecursion (IsBelow g.number p.picture.frozen) (names_in g.value)) _ (λ g a. each_weaker (IsBelow g.number p.picture.frozen) (λ (q : Place). StandsAt q.at p.picture.frozen)
        (λ q c. (below_stands g.number p.picture.frozen q c).0) (names_in g.value) a) p.picture.frozen p.counted.counted.falling in
        let cells = all_cells (λ (q : Place). StandsAt q.at p.picture.frozen) (owners_in p'.picture)
        (λ a j. each_weaker (IsBelow (word old next_word) p.picture.frozen) (λ (q : Place). StandsAt q.at p.picture.frozen) stands (names_each a.values) (cells_below within_place a j (owner_in_roots p'.picture a j))) in
        all_reached (word new next_word) p'.picture.frozen (cells_in (owners_in p'.picture)) p'.counted.counted p.picture.frozen falls cells (λ f g i j e. (content g f j i e).value) f i

    -- ---- nodes of the index

    pub nodes_before : (word old index_kind_word ≡ 0 → ⊥) → (h : ℕ) → 1 ≤ times h p'.held.index_blocks → 1 ≤ times h p.held.index_blocks
    nodes_before tree h some =
        let tree' : word new index_kind_word ≡ 0 → ⊥ = λ e. tree (sym b.kinds ∙ e) in
        let mine = node_tags old p.picture p.held tree in
        let theirs = node_tags new p'.picture p'.held tree' in
        let kept_nodes = index_kept p new path place l found begins its holds_it kept in
        let fewer : (k : ℕ) → times k p.held.index_blocks ≤ times k p'.held.index_blocks = λ k. still k (cases_eq (times k p.held.index_blocks) 0) kept_nodes mine.0 in
        same_members p.held.index_blocks p'.held.index_blocks fewer (theirs.1 ∙ named_as_many p'.picture.names p.picture.names p'.held.laid_out.names.ascending p.held.laid_out.names.ascending b.objects.names ∙ sym mine.1) h some
      where
        still : (k : ℕ) → (times k p.held.index_blocks ≡ 0) ⊎ (times k p.held.index_blocks ≢ 0) → AllByRecursion (KeepsBlock old new) p.held.index_blocks → AllByRecursion (λ h. tag_at old h ≡ tag_of Kind.index_node 0) p.held.index_blocks
            → times k p.held.index_blocks ≤ times k p'.held.index_blocks
        still k (inl none) ks ts = omega (arith, none)
        still k (inr more) ks ts =
            let some_k : 1 ≤ times k p.held.index_blocks = omega (arith, more) in
            let tag : tag_at new k ≡ tag_of Kind.index_node 0 = (there (KeepsBlock old new) k p.held.index_blocks ks some_k).has_tag ∙ there (λ h. tag_at old h ≡ tag_of Kind.index_node 0) k p.held.index_blocks ts some_k in
            let beside = index_beside p new path place l found begins its holds_it kept k some_k in
            let there_is = of_index new p'.picture p'.held 6 (omega arith, omega arith) k (b.lives k beside.0 beside.1 beside.2) (omega (arith, tag)) in
            omega (arith, there_is, counts old p.picture p.held k, live-once old (word old allocator_word) p.held.laid_out.heap k)
