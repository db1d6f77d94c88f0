-- Which blocks the new value of a changed place owns: those that are allocated, and that weren't, or that
-- the old value owned.
use Rattle.std.proofs.Common.{◌≡◌, ◌≢◌, ℕ, zero, suc, ◌+◌, ◌-◌, ◌*◌, ◌%◌, ◌≤◌, ◌⊎◌, inl, inr, List, [], ◌∷◌, ◌++◌, length, map, Option, Some, None, option_map, option_to_list, MatchOption, refl, sym, ap, ◌∙◌, subst, arith}
use Rattle.std.specs.Prelude.{is_some}
use Rattle.std.specs.List.{AllByRecursion}
use Rattle.std.proofs.lemmas.Bool.{cases_eq}
use Rattle.seg_spec.specs.Bytes.{word}
use Rattle.seg_spec.specs.Header.{allocator_word, index_kind_word, index_cell}
use Rattle.seg_spec.specs.Pointer.{target}
use Rattle.seg_spec.specs.Types.{Table}
use Rattle.seg_spec.specs.Value.{Value, with_value_at}
use Rattle.seg_spec.specs.Heap.{live, tag_at}
use Rattle.seg_spec.specs.Block.{block_of, tag_of, Kind, IsBlock, KeepsBlock}
use Rattle.seg_spec.specs.Reads.{Place, Holds, count_at}
use Rattle.seg_spec.specs.Index.{Root, Index, OpensIndex}
use Rattle.seg_spec.specs.Frozen.{Frozen, root_of_frozen}
use Rattle.seg_spec.specs.Sound.{Picture, IsHeld, HoldsRoot, HoldsRoots, holds_no_root, holds_more_roots, payload_of, frozen_roots, roots_of, times, positions}
use Rattle.seg_spec.specs.Counting.{owners_in}
use Rattle.seg_spec.specs.Roots.{HasFace, with_item}
use Rattle.seg_spec.proofs.Heap.LiveBlockLaws.{times-append, times-same, there, live-once}
use Rattle.seg_spec.proofs.Values.OneValueLaws.{HoldsEach-one}
use Rattle.seg_spec.proofs.Values.ValueTypeLaws.{length-spaced}
use Rattle.seg_spec.proofs.Images.RootPartLaws.{count-change_nth}
use Rattle.seg_spec.proofs.Frozen.ReleaseLaws.{frozen_there}
use Rattle.client_spec.specs.Machine.{Path, State, at_origin}
use Rattle.client_spec.specs.Pictures.{Pictures, LeadsInImage}
use Rattle.client_spec.specs.Ties.{places_of}
use Rattle.test_definitions.proofs.Alike.AlikeRootLaws.{of_type}
use Rattle.test_definitions.proofs.ValueChanges.BlockKindLaws.{named_tagged}
use Rattle.test_definitions.proofs.ValueChanges.ChangedPlaceLaws.{KeepsOwners, OtherRoot, OwnThen, apart, beside_frozen, its_owned, each_owner, own_root_then, index_kept, index_beside, in_all, once, its_within, own_head, holds_one}
use Rattle.test_definitions.proofs.Rows.ChangedPlaceRowLaws.{CellsWithin, Beside, node_tags, owned_face, was_root, itself, items_faced, frozen_before, there_before, its_frozen, blocks_stay, nodes_before, of_index, same_members}
use Rattle.test_definitions.proofs.Frozen.FrozenApartLaws.{among_either, owner_in_roots, owner_or_frozen}
use Rattle.test_definitions.proofs.Frozen.FrozenOrderLaws.{IsOneOf}
use Rattle.test_definitions.proofs.Alike.ListedRootLaws.{found_named, found_of_type, named_as_many}
use Rattle.test_definitions.proofs.Rows.OneFrozenLaws.{among_frozen}
use Rattle.test_definitions.proofs.Rows.OwningRegisterLaws.{owners}
use Rattle.test_definitions.proofs.ValueChanges.PlaceValueLaws.{root_then}
use Rattle.test_definitions.proofs.Frozen.ReachedFrozenLaws.{StandsAt}
use Rattle.test_definitions.proofs.Alike.RootMemberLaws.{IsAmong, among_left, among_right, as_many, counts, owns, looked_up}

-- ---- the buffer of a flat index

pub record FlatIndex (bytes : List ℕ) (p : Picture) (held : IsHeld bytes p) : Type 0 where
  pub tags : AllByRecursion (λ h. tag_at bytes h ≡ tag_of Kind.index_buffer 0) held.index_blocks
  pub none : length p.names ≡ 0 → length held.index_blocks ≡ 0
  pub some : 1 ≤ length p.names → length held.index_blocks ≡ 1

pub flat_index : (bytes : List ℕ) (p : Picture) (held : IsHeld bytes p) → word bytes index_kind_word ≡ 0 → FlatIndex bytes p held
flat_index bytes p held flat = by (word bytes index_kind_word) flat held.laid_out.names.index held.laid_out.names.opens held.laid_out.names.blocks_are (as_many bytes p held)
  where
    sized : (t : Option ℕ) → MatchOption t (count_at bytes index_cell ≡ 0) (λ q. IsBlock bytes q (tag_of Kind.index_buffer 0) (count_at bytes index_cell * 8)) → (count_at bytes index_cell ≡ 0 → t ≡ None)
        → (count_at bytes index_cell ≡ 0 → length (option_to_list (option_map block_of t)) ≡ 0) × (1 ≤ count_at bytes index_cell → length (option_to_list (option_map block_of t)) ≡ 1)
    sized None r e = (λ z. refl, λ l. absurd (omega (arith, l, r)))
    sized (Some q) r e = (λ z. absurd (let f : Some q ≡ None = e z in cc), λ l. refl)

    by : (kind : ℕ) → kind ≡ 0 → (index : Index) → OpensIndex bytes kind index → held.index_blocks ≡ index.blocks → length index.entries ≡ length p.names → FlatIndex bytes p held
    by zero flat index o is n =
        let blocks = is ∙ ap (λ (x : Index). x.blocks) o.index_is in
        let count_is : count_at bytes index_cell ≡ length p.names = sym (length-spaced _ _ _) ∙ sym (ap (λ (x : Index). length x.entries) o.index_is) ∙ n in
        let s = sized (target bytes index_cell) o.named_room o.none_if_empty in
        record {
          tags = subst (AllByRecursion (λ h. tag_at bytes h ≡ tag_of Kind.index_buffer 0)) (sym blocks) (named_tagged bytes (λ t. t ≡ tag_of Kind.index_buffer 0) index_cell _ 8 refl o.named_room);
          none = λ z. ap length blocks ∙ s.0 (count_is ∙ z);
          some = λ l. ap length blocks ∙ s.1 (omega (arith, l, count_is));
        }
    by (suc k) flat index o is n = absurd (omega (arith, flat))

-- ---- the root to which a block belongs

pub record RootWith (bytes : List ℕ) (table : Table) (roots : List Root) (h : ℕ) (all : List ℕ) : Type 0 where
  pub root : Root
  pub among : IsAmong root roots
  pub blocks : List ℕ
  pub holds_it : HoldsRoot bytes table root blocks
  pub there_is : 1 ≤ times h blocks

pub root_with : (bytes : List ℕ) (table : Table) {roots : List Root} {all : List ℕ} (h : ℕ) → HoldsRoots bytes table roots all → 1 ≤ times h all → RootWith bytes table roots h all
root_with bytes table h holds_no_root l = absurd (omega (arith, l))
root_with bytes table h (holds_more_roots {root = root} {roots = roots} {blocks = xs} {rest = ys} k ks) l = go (root_with bytes table h ks) (cases_eq (times h xs) 0)
  where
    go : (1 ≤ times h ys → RootWith bytes table roots h ys) → (times h xs ≡ 0) ⊎ (times h xs ≢ 0) → RootWith bytes table (root ∷ roots) h (xs ++ ys)
    go later (inr some) = record { root = root; among = inl refl; blocks = xs; holds_it = k; there_is = omega (arith, some) }
    go later (inl none) = (let r = later (omega (arith, l, none, times-append h xs ys)) in record { root = r.root; among = inr r.among; blocks = r.blocks; holds_it = r.holds_it; there_is = r.there_is })

pub frozen_member : (a : Root) (fs : List Frozen) → IsAmong a (map root_of_frozen fs) → (f : Frozen) × IsOneOf f fs × (a ≡ root_of_frozen f)
frozen_member a [] i = absurd i
frozen_member a (f ∷ fs) (inl e) = (f, inl refl, e)
frozen_member a (f ∷ fs) (inr i) = (let r = frozen_member a fs i in (r.0, inr r.1, r.2))

pub owned_rest : (bytes : List ℕ) (p : Picture) (h : ℕ) {roots : List Root} {all : List ℕ} → HoldsRoots bytes p.table roots all → (c : Root) → IsAmong c roots → {ys : List ℕ} → HoldsRoot bytes p.table c ys → times h ys ≤ times h all
owned_rest bytes p h holds_no_root c i y = absurd i
owned_rest bytes p h (holds_more_roots {root = root} {blocks = bs} {rest = cs} k ks) c (inl e) {ys = ys} y = omega
    (arith, ap (times h) (holds_one bytes p.table root (subst (λ (r : Root). HoldsRoot bytes p.table r ys) e y) k), times-append h bs cs)
owned_rest bytes p h (holds_more_roots {blocks = bs} {rest = cs} k ks) c (inr i) y = omega (arith, owned_rest bytes p h ks c i y, times-append h bs cs)

-- two roots own different blocks of all
pub two_owners : (bytes : List ℕ) (p : Picture) (h : ℕ) {roots : List Root} {all : List ℕ} → HoldsRoots bytes p.table roots all → (a c : Root) → IsAmong a roots → IsAmong c roots → (a ≡ c → ⊥)
    → {xs ys : List ℕ} → HoldsRoot bytes p.table a xs → HoldsRoot bytes p.table c ys → times h xs + times h ys ≤ times h all
two_owners bytes p h holds_no_root a c i j other x y = absurd i
two_owners bytes p h (holds_more_roots k ks) a c (inl e) (inl f) other x y = absurd (other (e ∙ sym f))
two_owners bytes p h (holds_more_roots {root = root} {blocks = bs} {rest = cs} k ks) a c (inl e) (inr j) other {xs = xs} x y =
    let mine = holds_one bytes p.table root (subst (λ (r : Root). HoldsRoot bytes p.table r xs) e x) k in
    let rest = owned_rest bytes p h ks c j y in
    omega (arith, ap (times h) mine, rest, times-append h bs cs)
two_owners bytes p h (holds_more_roots {root = root} {blocks = bs} {rest = cs} k ks) a c (inr i) (inl f) other {ys = ys} x y =
    let theirs = holds_one bytes p.table root (subst (λ (r : Root). HoldsRoot bytes p.table r ys) f y) k in
    let rest = owned_rest bytes p h ks a i x in
    omega (arith, ap (times h) theirs, rest, times-append h bs cs)
two_owners bytes p h (holds_more_roots {blocks = bs} {rest = cs} k ks) a c (inr i) (inr j) other x y = omega (arith, two_owners bytes p h ks a c i j other x y, times-append h bs cs)

-- an object at the position of another
at_position : (cs xs : List Root) → places_of xs ≡ places_of cs → (c : Root) → IsAmong c cs → (a : Root) × IsAmong a xs × (a.at ≡ c.at)
at_position [] xs e c i = absurd i
at_position (d ∷ cs) [] e c i = cc
at_position (d ∷ cs) (x ∷ xs) e c (inl same) = (x, inl refl, (let at : x.at ≡ d.at = cc in at ∙ sym (ap (λ (r : Root). r.at) same)))
at_position (d ∷ cs) (x ∷ xs) e c (inr i) = (let more : places_of xs ≡ places_of cs = cc in let r = at_position cs xs more c i in (r.0, inr r.1, r.2))

module _ {others : List Root} {s s' : State} {old : List ℕ} (p : Pictures others s old) (new : List ℕ) (path : Path) (place : Place) (l : LeadsInImage p path place) (found : Value × ℕ) (begins : at_origin s path.origin ≡ Some found)
    {value : Value} (its : List ℕ) (holds_it : Holds old p.picture.table place value its) (kept : KeepsOwners p new place its) (p' : Pictures others s' new)
    (b : Beside p new path place l found begins its holds_it kept p') where
  -- ---- the index owns the blocks that it owned

  index_fewer : (k tag : ℕ) → (5 ≤ k) × (k ≤ 6) → tag % 256 ≡ k → AllByRecursion (λ h. tag_at old h ≡ tag) p.held.index_blocks → (h : ℕ) → times h p.held.index_blocks ≤ times h p'.held.index_blocks
  index_fewer k tag kind is tags h = go (cases_eq (times h p.held.index_blocks) 0)
    where
      go : (times h p.held.index_blocks ≡ 0) ⊎ (times h p.held.index_blocks ≢ 0) → times h p.held.index_blocks ≤ times h p'.held.index_blocks
      go (inl none) = omega (arith, none)
      go (inr more) =
          let some : 1 ≤ times h p.held.index_blocks = omega (arith, more) in
          let same : tag_at new h ≡ tag = (there (KeepsBlock old new) h p.held.index_blocks (index_kept p new path place l found begins its holds_it kept) some).has_tag ∙ there (λ h. tag_at old h ≡ tag) h p.held.index_blocks tags some in
          let beside = index_beside p new path place l found begins its holds_it kept h some in
          let there_is = of_index new p'.picture p'.held k kind h (b.lives h beside.0 beside.1 beside.2) (ap (λ t. t % 256) same ∙ is) in
          omega (arith, there_is, counts old p.picture p.held h, live-once old (word old allocator_word) p.held.laid_out.heap h)

  pub index_before : (h : ℕ) → 1 ≤ times h p'.held.index_blocks → 1 ≤ times h p.held.index_blocks
  index_before h some = go (cases_eq (word old index_kind_word) 0)
    where
      go : (word old index_kind_word ≡ 0) ⊎ (word old index_kind_word ≢ 0) → 1 ≤ times h p.held.index_blocks
      go (inr tree) = nodes_before p new path place l found begins its holds_it kept p' b tree h some
      go (inl flat) =
          let mine = flat_index old p.picture p.held flat in
          let theirs = flat_index new p'.picture p'.held (b.kinds ∙ flat) in
          let names = named_as_many p'.picture.names p.picture.names p'.held.laid_out.names.ascending p.held.laid_out.names.ascending b.objects.names in
          let long : length p'.held.index_blocks ≡ length p.held.index_blocks = elim (cases_eq (length p.picture.names) 0) [
            | inl none ↦ theirs.none (names ∙ none) ∙ sym (mine.none none)
            | inr more ↦ theirs.some (omega (arith, more, names)) ∙ sym (mine.some (omega (arith, more)))
          ] in
          same_members p.held.index_blocks p'.held.index_blocks (index_fewer 5 (tag_of Kind.index_buffer 0) (omega arith, omega arith) (omega arith) mine.tags) long h some

  -- ---- roots own the blocks that they owned

  -- a root with the face of another has its blocks
  one_blocks : (c a : Root) {xs ys : List ℕ} → HasFace c a → HoldsRoot new p'.picture.table a xs → HoldsRoot new p.picture.table c ys → xs ≡ ys
  one_blocks c a f h k =
      let insides = (HoldsEach-one new p.picture.table (items_faced p new path place l found begins its holds_it kept p' b.objects c a f h.values) k.values).1 in
      h.blocks_are ∙ (λ j. block_of (f.same_at j - 4 * length (f.same_words j)) ∷ insides j) ∙ sym k.blocks_are

  -- the face of the place's root with another value
  pub then_face : (a : Root) (w : Value) → HasFace l.root a → HasFace (with_item l.root l.item (with_value_at path.selectors w)) a
  then_face a w f = record {
    same_name = f.same_name;
    same_words = f.same_words;
    same_at = f.same_at;
    same_type = f.same_type;
    same_count = f.same_count ∙ sym (count-change_nth (Some l.item) (with_value_at path.selectors w) l.root.values);
  }

  -- the block wasn't allocated, or belonged to the old value
  abbrev pub Open : ℕ → Type 0
  Open h = (times h (positions (live old)) ≡ 0) ⊎ (1 ≤ times h its)

  not_open : (h : ℕ) → 1 ≤ times h (positions (live old)) → times h its ≡ 0 → Open h → ⊥
  not_open h some none (inl e) = absurd (omega (arith, some, e))
  not_open h some none (inr e) = absurd (omega (arith, none, e))

  -- a block of a frozen object isn't
  frozen_not_open : (f : Frozen) → IsOneOf f p.picture.frozen → (h : ℕ) → 1 ≤ times h (b.frozen.theirs f.at) → Open h → ⊥
  frozen_not_open f i h some free =
      let frozen = its_frozen p new path place l found begins its holds_it kept p' b f i h in
      let all = (beside_frozen p new path place l found begins its holds_it kept).counts h in
      not_open h (omega (arith, some, frozen, all)) (omega
      (arith, some, frozen, all, its_within p new path place l found begins its holds_it kept h, its_owned p new path place l found begins its holds_it kept h, once p new path place l found begins its holds_it kept h)) free

  -- the new value owns each such block
  pub owns_open : CellsWithin p new place → {w : Value} (news : List ℕ) → Holds new p.picture.table place w news → (h : ℕ) → 1 ≤ times h (positions (live new)) → Open h → 1 ≤ times h news
  owns_open cells {w = w} news hold h some free = go (cases_eq (times h p'.held.index_blocks) 0)
    where
      own : OwnThen p new path place l found begins its holds_it kept w news
      own = own_root_then p new path place l found begins its holds_it kept hold

      go : (times h p'.held.index_blocks ≡ 0) ⊎ (times h p'.held.index_blocks ≢ 0) → 1 ≤ times h news
      go (inr more) =
          let was = index_before h (omega (arith, more)) in
          let beside = index_beside p new path place l found begins its holds_it kept h was in
          absurd (not_open h beside.0 beside.1 free)
      go (inl none) =
          let r = root_with new p'.picture.table h p'.held.roots (omega (arith, some, none, counts new p'.picture p'.held h)) in
          elim (owner_or_frozen p'.picture r.root r.among) [
            | inl i ↦ (
                let c = was_root p new path place l found begins its holds_it kept p' b.objects r.root i in
                elim (each_owner p new path place l found begins its holds_it kept c.was c.among) [
                  | inl e ↦ (
                      let f = then_face r.root w (subst (λ (x : Root). HasFace x r.root) e c.face) in
                      let blocks = one_blocks (with_item l.root l.item (with_value_at path.selectors w)) r.root f r.holds_it own.holds_then in
                      let x = ap (times h) blocks ∙ times-append h own.left (news ++ own.right) in
                      let y = times-append h news own.right in
                      let z = times-append h own.left own.right in
                      in_news (cases_eq (times h news) 0) (λ no_news. own.around h (omega (arith, r.there_is, x, y, z, no_news))))
                  | inr o ↦ (
                      let blocks = one_blocks c.was r.root c.face r.holds_it o.is_kept.still in
                      let beside = o.blocks_beside h (omega (arith, r.there_is, ap (times h) blocks)) in
                      absurd (not_open h beside.0 (omega (arith, beside.1, its_within p new path place l found begins its holds_it kept h)) free))
                ])
            | inr i ↦ (
                let f = frozen_member r.root p'.picture.frozen i in
                let was = frozen_before p new path place l found begins its holds_it kept p' b cells f.0 f.1 in
                let blocks = blocks_stay p new path place l found begins its holds_it kept p' b was.object f.0 was.among f.1 (sym was.at_is) (subst (λ (x : Root). HoldsRoot new p'.picture.table x r.blocks) f.2 r.holds_it) in
                absurd (frozen_not_open was.object was.among h (omega (arith, r.there_is, ap (times h) blocks)) free))
          ]
        where
          in_news : (times h news ≡ 0) ⊎ (times h news ≢ 0) → (times h news ≡ 0 → (1 ≤ times h (apart p new path place l found begins its holds_it kept).its) × (times h its ≡ 0)) → 1 ≤ times h news
          in_news (inr more) around = omega (arith, more)
          in_news (inl no_news) around =
              let a = around no_news in
              absurd (not_open h (omega (arith, a.0, in_all p new path place l found begins its holds_it kept h)) a.1 free)

  -- ---- roots stay

  index_after : (h : ℕ) → 1 ≤ times h p.held.index_blocks → 1 ≤ times h p'.held.index_blocks
  index_after h some = go (cases_eq (word old index_kind_word) 0)
    where
      go : (word old index_kind_word ≡ 0) ⊎ (word old index_kind_word ≢ 0) → 1 ≤ times h p'.held.index_blocks
      go (inl flat) = omega (arith, some, index_fewer 5 (tag_of Kind.index_buffer 0) (omega arith, omega arith) (omega arith) (flat_index old p.picture p.held flat).tags h)
      go (inr tree) = omega (arith, some, index_fewer 6 (tag_of Kind.index_node 0) (omega arith, omega arith) (omega arith) (node_tags old p.picture p.held tree).0 h)

  pub record StillAny (c : Root) : Type 0 where
    pub now : Root
    pub owner : IsAmong now (owners_in p'.picture)
    pub face : HasFace c now

  some_after : {o q : Option Root} → is_some o ≡ is_some q → (c : Root) → q ≡ Some c → (a : Root) × (o ≡ Some a)
  some_after {o = o} {q = q} e c f = go o (e ∙ ap (λ (x : Option Root). is_some x) f)
    where
      go : (o : Option Root) → is_some o ≡ is_some (Some c) → (a : Root) × (o ≡ Some a)
      go None g = cc
      go (Some a) g = (a, refl)

  pub still_any : (c : Root) → IsAmong c (owners_in p.picture) → StillAny c
  still_any c i = (
      let r = p.picture in
      let u = p'.picture in
      elim (among_either c r.names (r.uniques ++ r.loose) i) [
        | inl j ↦ (
            let x = found_named r.names c p.held.laid_out.names.ascending j in
            let a = some_after (b.objects.names c.name) c x in
            record { now = a.0; owner = among_left a.0 u.names (u.uniques ++ u.loose) (looked_up c.name a.0 u.names a.1).0; face = b.objects.stay.names c.name c a.0 x a.1 })
        | inr k ↦ elim (among_either c r.uniques r.loose k) [
          | inl j ↦ (
              let x = found_of_type 0 r.uniques c p.held.laid_out.uniques.rising j in
              let a = some_after (b.objects.uniques c.type) c x in
              record { now = a.0; owner = among_right a.0 u.names (u.uniques ++ u.loose) (among_left a.0 u.uniques u.loose (of_type u.uniques c.type a.0 a.1)); face = b.objects.stay.uniques c.type c a.0 x a.1 })
          | inr j ↦ elim (among_either c others p.owned (subst (IsAmong c) p.loose j)) [
            | inl m ↦ record { now = c; owner = in_loose c (among_left c others p'.owned m); face = itself p new path place l found begins its holds_it kept p' b.objects c }
            | inr m ↦ (
                let a = at_position p.owned p'.owned b.objects.owned_at c m in
                record { now = a.0; owner = in_loose a.0 (among_right a.0 others p'.owned a.1); face = owned_face p new path place l found begins its holds_it kept p' b.objects c a.0 m a.1 a.2 })
          ]
        ]
      ])
    where
      in_loose : (a : Root) → IsAmong a (others ++ p'.owned) → IsAmong a (owners_in p'.picture)
      in_loose a i = among_right a p'.picture.names (p'.picture.uniques ++ p'.picture.loose) (among_right a p'.picture.uniques p'.picture.loose (subst (IsAmong a) (sym p'.loose) i))

  -- a frozen object that stays isn't the place's root
  not_frozen : (f g : Frozen) → IsOneOf f p.picture.frozen → g.at ≡ f.at → (a : Root) → HasFace l.root a → root_of_frozen g ≡ a → ⊥
  not_frozen f g i at a face same =
      let there_is = frozen_there old p.picture.table f (b.frozen.theirs f.at) (there_before p new path place l found begins its holds_it kept p' b f i) in
      let heads : block_of (payload_of a) ≡ block_of (payload_of l.root) = λ j. block_of (face.same_at j - 4 * length (face.same_words j)) in
      let payload : payload_of (root_of_frozen g) ≡ g.at = omega arith in
      let head : block_of f.at ≡ block_of (payload_of l.root) = ap block_of (sym at ∙ sym payload) ∙ ap (λ (x : Root). block_of (payload_of x)) same ∙ heads in
      let owns = ap (times (block_of f.at)) there_is.blocks_are in
      let mine = own_head p new path place l found begins its holds_it kept in
      let mine_too : 1 ≤ times (block_of f.at) (apart p new path place l found begins its holds_it kept).its = subst (λ n. 1 ≤ times n (apart p new path place l found begins its holds_it kept).its) (sym head) mine in
      absurd (omega (
        arith,
        mine_too,
        owns,
        times-same (block_of f.at) there_is.inside,
        its_frozen p new path place l found begins its holds_it kept p' b f i (block_of f.at),
        its_owned p new path place l found begins its holds_it kept (block_of f.at),
        (beside_frozen p new path place l found begins its holds_it kept).counts (block_of f.at),
        once p new path place l found begins its holds_it kept (block_of f.at),
      ))

  -- a frozen object of which a block is still allocated stays
  abbrev pub FrozenStay : Type 0
  FrozenStay = (f : Frozen) → IsOneOf f p.picture.frozen → (h : ℕ) → 1 ≤ times h (b.frozen.theirs f.at) → 1 ≤ times h (positions (live new)) → StandsAt f.at p'.picture.frozen

  -- the new value owns no other block
  pub owned_open : FrozenStay → owners s'.registers ≡ owners s.registers → {w : Value} (news : List ℕ) → Holds new p.picture.table place w news → (h : ℕ) → 1 ≤ times h news → (1 ≤ times h (positions (live new))) × Open h
  owned_open stay same_owners {w = w} news hold h some =
      let t = root_then p new path place l found begins its holds_it kept p' b.objects same_owners path.origin l.begins in
      let among = owner_in_roots p'.picture t.root t.owner in
      let o = owns new p'.picture p'.held t.root p'.held.roots among in
      let own = own_root_then p new path place l found begins its holds_it kept hold in
      let blocks = one_blocks (with_item l.root l.item (with_value_at path.selectors w)) t.root (then_face t.root w t.face) o.holds_it own.holds_then in
      let x = ap (times h) blocks ∙ times-append h own.left (news ++ own.right) in
      let y = times-append h news own.right in
      let z = times-append h own.left own.right in
      let alive : 1 ≤ times h (positions (live new)) = omega (arith, some, x, y, o.fewer h, counts new p'.picture p'.held h) in
      let one_live = live-once new (word new allocator_word) p'.held.laid_out.heap h in
      let all = in_all p new path place l found begins its holds_it kept h in
      let one_old = once p new path place l found begins its holds_it kept h in (
        alive,
        go t.root among t.face o.its o.holds_it (omega (arith, some, x, y)) (cases_eq (times h (positions (live old))) 0) (cases_eq (times h its) 0)
            (λ no_old more_index. (let i = index_after h more_index in absurd (omega (arith, i, some, x, y, o.fewer h, counts new p'.picture p'.held h, one_live))))
            (λ none more_own. (let a = own.all_around h more_own none in absurd (omega (arith, a, z, x, y, some, o.fewer h, counts new p'.picture p'.held h, one_live)))),
      )
    where
      go : (a : Root) → IsAmong a (roots_of p'.picture) → HasFace l.root a → (mine : List ℕ) → HoldsRoot new p'.picture.table a mine → 1 ≤ times h mine → (times h (positions (live old)) ≡ 0) ⊎ (times h (positions (live old)) ≢ 0)
          → (times h its ≡ 0) ⊎ (times h its ≢ 0) → (times h its ≡ 0 → 1 ≤ times h p.held.index_blocks → ⊥) → (times h its ≡ 0 → 1 ≤ times h (apart p new path place l found begins its holds_it kept).its → ⊥) → Open h
      go a i face mine k m (inl e) c no_index no_own = inl e
      go a i face mine k m (inr e) (inr c) no_index no_own = inr (omega (arith, c))
      go a i face mine k m (inr e) (inl none) no_index no_own =
          absurd (by (cases_eq (times h p.held.index_blocks) 0) (cases_eq (times h p.held.root_blocks) 0))
        where
          by : (times h p.held.index_blocks ≡ 0) ⊎ (times h p.held.index_blocks ≢ 0) → (times h p.held.root_blocks ≡ 0) ⊎ (times h p.held.root_blocks ≢ 0) → ⊥
          by (inr f) g = no_index none (omega (arith, f))
          by (inl f) (inl g) = absurd (omega (arith, e, f, g, counts old p.picture p.held h))
          by (inl f) (inr g) =
              let r = root_with old p.picture.table h p.held.roots (omega (arith, g)) in
              elim (owner_or_frozen p.picture r.root r.among) [
                | inl owned ↦ elim (each_owner p new path place l found begins its holds_it kept r.root owned) [
                  | inl same ↦ (
                      let own = holds_one old p.picture.table l.root (subst (λ (x : Root). HoldsRoot old p.picture.table x r.blocks) same r.holds_it) (apart p new path place l found begins its holds_it kept).holds_it in
                      no_own none (omega (arith, r.there_is, ap (times h) own)))
                  | inr o ↦ (
                      let s = still_any r.root owned in
                      let among = owner_in_roots p'.picture s.now s.owner in
                      let theirs = owns new p'.picture p'.held s.now p'.held.roots among in
                      let blocks = one_blocks r.root s.now s.face theirs.holds_it o.is_kept.still in
                      let was = holds_one old p.picture.table r.root r.holds_it o.is_kept.was_held in
                      let both = two_owners new p'.picture h p'.held.roots s.now a among i (λ same. not_both r.root s.now o s.face same) theirs.holds_it k in
                      absurd (omega (arith, both, m, r.there_is, ap (times h) blocks, ap (times h) was, counts new p'.picture p'.held h, live-once new (word new allocator_word) p'.held.laid_out.heap h)))
                ]
                | inr j ↦ (
                    let f = frozen_member r.root p.picture.frozen j in
                    let was = holds_one old p.picture.table (root_of_frozen f.0) (subst (λ (x : Root). HoldsRoot old p.picture.table x r.blocks) f.2 r.holds_it)
                    (there_before p new path place l found begins its holds_it kept p' b f.0 f.1) in
                    let mine_live : 1 ≤ times h (positions (live new)) = (let own = owns new p'.picture p'.held a p'.held.roots i in
                    let one = holds_one new p'.picture.table a own.holds_it k in
                    omega (arith, m, ap (times h) one, own.fewer h, counts new p'.picture p'.held h)) in
                    let g = stay f.0 f.1 h (omega (arith, r.there_is, ap (times h) was)) mine_live in
                    let its_root = root_of_frozen g.object in
                    let among = in_roots its_root (among_frozen g.object p'.picture.frozen g.among) in
                    let theirs = owns new p'.picture p'.held its_root p'.held.roots among in
                    let blocks = blocks_stay p new path place l found begins its holds_it kept p' b f.0 g.object f.1 g.among g.at_is theirs.holds_it in
                    let both = two_owners new p'.picture h p'.held.roots its_root a among i (λ same. not_frozen f.0 g.object f.1 g.at_is a face same) theirs.holds_it k in
                    absurd (omega (arith, both, m, r.there_is, ap (times h) blocks, ap (times h) was, counts new p'.picture p'.held h, live-once new (word new allocator_word) p'.held.laid_out.heap h)))
              ]
            where
              in_roots : (c : Root) → IsAmong c (frozen_roots p'.picture) → IsAmong c (roots_of p'.picture)
              in_roots c j = among_right c p'.picture.names _ (among_right c p'.picture.uniques _ (among_right c p'.picture.loose (frozen_roots p'.picture) j))

              not_both : (c now : Root) → OtherRoot p new path place l found begins its holds_it kept c → HasFace c now → now ≡ a → ⊥
              not_both c now o f same =
                  let g = subst (λ (x : Root). HasFace l.root x) (sym same) face in
                  let heads : block_of (payload_of c) ≡ block_of (payload_of l.root) = sym (λ j. block_of (f.same_at j - 4 * length (f.same_words j))) ∙ (λ j. block_of (g.same_at j - 4 * length (g.same_words j))) in
                  let e = ap (times (block_of (payload_of c))) o.is_kept.was_held.blocks_are in
                  let beside = o.blocks_beside (block_of (payload_of c)) (omega (arith, e, times-same (block_of (payload_of c)) o.is_kept.was_held.inside)) in
                  let mine = own_head p new path place l found begins its holds_it kept in
                  absurd (omega (arith, beside.1, mine, ap (λ n. times n (apart p new path place l found begins its holds_it kept).its) heads))
