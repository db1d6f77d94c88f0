-- Two situations that clients can't tell apart stay so after NEW.
use Rattle.std.specs.Prelude.{ℤ, pos, nat_abs}
use Rattle.std.proofs.Common.{◌≡◌, ℕ, ◌≤◌, ◌⊎◌, inl, inr, Bool, true, false, List, [], ◌∷◌, ◌++◌, length, Option, Some, None, refl, sym, ap, ◌∙◌, subst, arith}
use Rattle.std.specs.List.{AllByRecursion}
use Rattle.seg_spec.specs.Bytes.{word}
use Rattle.seg_spec.specs.Header.{next_word, index_kind_word}
use Rattle.seg_spec.specs.Types.{size}
use Rattle.seg_spec.specs.Value.{Value, nil, cons, default_of}
use Rattle.seg_spec.specs.Heap.{live}
use Rattle.seg_spec.specs.Block.{block_of, KeepsBlock}
use Rattle.seg_spec.specs.Index.{Root}
use Rattle.seg_spec.specs.Sound.{IsPlain, payload_of, times, positions}
use Rattle.seg_spec.specs.Shared.{names_in, names_each, IsBelow, replaced}
use Rattle.seg_spec.specs.Counting.{owners_in}
use Rattle.seg_spec.specs.Demand.{block_for}
use Rattle.seg_spec.proofs.Values.PlaceFrameLaws.{each_left}
use Rattle.client_spec.specs.declared.table.Operation.{Operation}
use Rattle.client_spec.specs.Syntax.{Constant, Instruction}
use Rattle.client_spec.specs.Machine.{Register, State, register, set_register, owned_by}
use Rattle.client_spec.specs.Answer.{Answer, Outcome, success, bad_alloc, answer_number, give, with_room}
use Rattle.client_spec.specs.Effect.{effect}
use Rattle.client_spec.specs.Pictures.{root_of_register, Pictures, PicturesTrees, meaning_in}
use Rattle.client_spec.specs.Asks.{AsksBy, ReturnsBy, GrantsAsks, ChangesOnSuccess}
use Rattle.client_spec.specs.Ties.{Spot, nowhere, places_of, keeps_image, TouchesBy, ComesBy, AllocatesAt}
use Rattle.client_spec.specs.OnImages.{Move, Situation, RowWith, RowOn}
use Rattle.client_sim.proofs.Names.OnePictureLaws.{plain-one}
use Rattle.test_definitions.specs.Alike.{StandAlike, StaysAlike}
use Rattle.test_definitions.proofs.Alike.AlikeChangeLaws.{root_one}
use Rattle.test_definitions.proofs.Rows.AnsweredRowLaws.{from_answer, free_answer}
use Rattle.test_definitions.proofs.Alike.AlikeRootLaws.{of_register}
use Rattle.test_definitions.proofs.Rows.ChangedPlaceRowLaws.{cells_of}
use Rattle.test_definitions.proofs.ValueChanges.DefaultCellLaws.{default_cells, one_names}
use Rattle.test_definitions.proofs.Frozen.FrozenApartLaws.{among_either}
use Rattle.test_definitions.proofs.Alike.GrownImageLaws.{Grows, owner_in}
use Rattle.test_definitions.proofs.Steps.GrownStepLaws.{both_as_before, both_grown}
use Rattle.test_definitions.proofs.Alike.IndexAlikeLaws.{index_long, index_is_long, NodesStay, whole_nodes}
use Rattle.test_definitions.proofs.Rows.KeptRowLaws.{one, unchanged_alike, one_before, plain_before}
use Rattle.test_definitions.proofs.Alike.ListedRootLaws.{types_listed}
use Rattle.test_definitions.proofs.Rows.NewBlockLaws.{one_block}
use Rattle.test_definitions.proofs.Rows.NewObjectLaws.{granted_lives, granted_stay, kept_beside, tables, names_same, same_unique, owned_loose, plain_loose, owned_stays}
use Rattle.test_definitions.proofs.Rows.OwnerRegisterLaws.{register_with, set_cases, owner_seen, root_seen}
use Rattle.test_definitions.proofs.Rows.OwningRegisterLaws.{owners, unfolded_owners, owned_places, changes_names, changes_uniques}
use Rattle.test_definitions.proofs.Steps.PlaceStepLaws.{uniques_stay, kinds_stay}
use Rattle.test_definitions.proofs.Alike.RootMemberLaws.{IsAmong, among_left, among_right, index_live, owns}

-- ---- the row

given : (a T : ℕ) (room : Bool) (s t : State) → ◌≡◌ {A = Outcome} (with_room room a s (give a (Register.Owner (default_of s.types T) T) s)) (Some (success, t))
    → (t ≡ set_register s a (Register.Owner (default_of s.types T) T)) × (owned_by (register s a) ≡ None)
given a T true s t e = (
  (from_answer success success a (Register.Owner (default_of s.types T) T) s t e).1,
  free_answer success success a (Register.Owner (default_of s.types T) T) s t e,
)
given a T false s t e = absurd (let f : bad_alloc ≡ success = (from_answer bad_alloc success a (Register.Int (pos (answer_number bad_alloc))) s t e).0 in cc)

new_row : (constants : List Constant) (o : Operation) → o ≡ Operation.New → (a b c : ℕ) (number : ℤ) (room : Bool) (s t : State) → ◌≡◌ {A = Outcome} (effect constants o a b c number room s) (Some (success, t))
    → (t ≡ set_register s a (Register.Owner (default_of s.types (nat_abs number)) (nat_abs number))) × (owned_by (register s a) ≡ None)
unfolding effect
new_row constants o is a b c number room s t e =
    let f : ◌≡◌ {A = Outcome} (effect constants Operation.New a b c number room s) (Some (success, t)) = subst (λ k. ◌≡◌ {A = Outcome} (effect constants k a b c number room s) (Some (success, t))) is e in
    given a (nat_abs number) room s t f

-- ---- one image

module _ (constants : List Constant) (others : List Root) (moves : List Move) (i : Instruction) (is : i.operation ≡ Operation.New) (x y : Situation) (row : RowOn constants others moves i x success y) where
  abbrev T : ℕ
  T = nat_abs i.number

  abbrev p : Pictures others row.before.plain x.image
  p = row.before.pictured

  abbrev q : Pictures others row.after.plain y.image
  q = row.after.pictured

  abbrev before : ℕ → Option Root
  before r = root_of_register row.before.plain.registers row.before.pictured.owned r

  abbrev after : ℕ → Option Root
  after r = root_of_register row.after.plain.registers row.after.pictured.owned r

  touches : (spot : Spot) (own : List ℕ) → TouchesBy constants i row.before.pictured i.operation spot own → (spot ≡ nowhere) × (own ≡ [])
  touches spot own t = subst (λ o. TouchesBy constants i row.before.pictured o spot own) is t

  kept_whole : (h : ℕ) → 1 ≤ times h (positions (live x.image)) → KeepsBlock x.image y.image h
  kept_whole h some = kept_beside constants others moves i x y success row h some (λ spot own t. (let k = touches spot own t in (k.0, ap (times h) k.1)))

  kept : (h : ℕ) → 1 ≤ times h (positions (live x.image)) → times h row.before.pictured.held.index_blocks ≡ 0 → KeepsBlock x.image y.image h
  kept h some none = kept_whole h some

  names_stay_same : row.after.pictured.picture.names ≡ row.before.pictured.picture.names
  names_stay_same = names_same constants others moves i x y success row kept (ap changes_names is)

  uniques_stay_same : row.after.pictured.picture.uniques ≡ row.before.pictured.picture.uniques
  uniques_stay_same = types_listed 0 0 q.picture.uniques p.picture.uniques q.held.laid_out.uniques.rising p.held.laid_out.uniques.rising
      (λ U. same_unique constants others moves i x y success row kept U (uniques_stay constants others moves i x y success row (ap changes_uniques is) U))

  state_after : (y.state ≡ set_register x.state i.a (Register.Owner (default_of x.state.types T) T)) × (owned_by (register x.state i.a) ≡ None)
  state_after = by row.row
    where
      by : RowWith constants i x.image x.state success y.state → (y.state ≡ set_register x.state i.a (Register.Owner (default_of x.state.types T) T)) × (owned_by (register x.state i.a) ≡ None)
      by (inl (room, e)) = new_row constants i.operation is i.a i.b i.c i.number room x.state y.state e
      by (inr (w, full)) = absurd (let f = w.code in cc)

  -- a register is the one that is set, or stays as it is
  registers_after : (r : ℕ) → ((r ≡ i.a) × (register y.state r ≡ Register.Owner (default_of x.state.types T) T)) ⊎ (register y.state r ≡ register x.state r)
  registers_after r =
      let same : register y.state r ≡ register (set_register x.state i.a (Register.Owner (default_of x.state.types T) T)) r = ap (λ (s : State). register s r) state_after.0 in
      elim (set_cases x.state.registers i.a r (Register.Owner (default_of x.state.types T) T)) [ inl k ↦ inl (k.0, same ∙ k.1) | inr k ↦ inr (same ∙ k) ]

  -- a register that owned an object owns it still
  owner_stays : (r : ℕ) (c : Root) → before r ≡ Some c → after r ≡ Some c
  owner_stays r c e = by (registers_after r)
    where
      seen : (v : Value) × (register x.state r ≡ Register.Owner (replaced (meaning_in (word x.image next_word) row.before.pictured.picture) v) c.type) × (c.values ≡ cons v nil)
      seen = owner_seen x.state x.image row.before r c e

      by : ((r ≡ i.a) × (register y.state r ≡ Register.Owner (default_of x.state.types T) T)) ⊎ (register y.state r ≡ register x.state r) → after r ≡ Some c
      by (inl k) = absurd (let f : Some (replaced (meaning_in (word x.image next_word) row.before.pictured.picture) seen.0, c.type) ≡ None = sym (ap owned_by seen.1) ∙ ap (λ n. owned_by (register x.state n)) k.0 ∙ state_after.1 in cc)
      by (inr same) =
          let d = root_seen y.state y.image row.after r (replaced (meaning_in (word x.image next_word) row.before.pictured.picture) seen.0) c.type (same ∙ seen.1) in
          let at = row.owners_stay r c d.0 e d.1 in
          let one_root = owned_stays constants others moves i x y success row kept c d.0 (of_register row.before.plain.registers p.owned r c e) (of_register row.after.plain.registers q.owned r d.0 d.1) at in
          d.1 ∙ ap (λ (z : Root). Some z) one_root

  -- what is known of a new object
  record NewOne (d : Root) : Type 0 where
    plain : IsPlain d
    type_is : d.type ≡ T
    values_are : d.values ≡ cons (default_of x.state.types T) nil
    no_cells : names_each d.values ≡ []
    above : 16 ≤ d.at
    payload : payload_of d ≡ d.at
    gets : AllocatesAt x.image (size row.before.plain.types T) d.at
    is_in : IsAmong d (owners_in row.after.pictured.picture)

  new_one : (r : ℕ) (d : Root) → before r ≡ None → after r ≡ Some d → NewOne d
  new_one r d none e = by (registers_after r)
    where
      seen : (v : Value) × (register y.state r ≡ Register.Owner (replaced (meaning_in (word y.image next_word) row.after.pictured.picture) v) d.type) × (d.values ≡ cons v nil)
      seen = owner_seen y.state y.image row.after r d e

      by : ((r ≡ i.a) × (register y.state r ≡ Register.Owner (default_of x.state.types T) T)) ⊎ (register y.state r ≡ register x.state r) → NewOne d
      by (inr same) = absurd (
          let c = root_seen x.state x.image row.before r (replaced (meaning_in (word y.image next_word) row.after.pictured.picture) seen.0) d.type (sym same ∙ seen.1) in
          let f : None ≡ Some c.0 = sym none ∙ c.1 in
          cc)
      by (inl k) =
          let both : Register.Owner (replaced (meaning_in (word y.image next_word) row.after.pictured.picture) seen.0) d.type ≡ Register.Owner (default_of x.state.types T) T = sym seen.1 ∙ k.1 in
          let types : d.type ≡ T = cc in
          let values : replaced (meaning_in (word y.image next_word) row.after.pictured.picture) seen.0 ≡ default_of x.state.types T = cc in
          let loose = owned_loose constants others moves i x y success row kept q d (of_register row.after.plain.registers q.owned r d e) in
          let there = among_right d q.picture.names (q.picture.uniques ++ q.picture.loose) (among_right d q.picture.uniques q.picture.loose loose) in
          let plain = plain_loose constants others moves i x y success row kept q d loose in
          let below = cells_of (IsBelow (word y.image next_word) q.picture.frozen) (owners_in q.picture) d q.counted.counted.named there in
          let names : names_each d.values ≡ names_in seen.0 ++ [] = ap names_each seen.2 ∙ one_names seen.0 in
          let bare = default_cells q seen.0 x.state.types T (each_left (IsBelow (word y.image next_word) q.picture.frozen) (names_in seen.0) []
          (subst (AllByRecursion (IsBelow (word y.image next_word) q.picture.frozen)) names below)) values in
          let payload : payload_of d ≡ d.at = (let l = ap length plain.no_words in omega (arith, l)) in
          let o = owns y.image q.picture q.held d q.held.roots (owner_in q.picture d there) in
          let low = o.holds_it.block.after_header in
          record {
            plain = plain;
            type_is = types;
            values_are = seen.2 ∙ ap (λ v. cons v nil) bare.1;
            no_cells = names ∙ ap (λ xs. xs ++ []) bare.0;
            above = omega (arith, low, payload);
            payload = payload;
            gets = subst (λ o. ComesBy constants i row.before.pictured o d.at) is (row.owners_come r d none e);
            is_in = there;
          }

  abbrev News : Root → Type 0
  News c = (r : ℕ) × (root_of_register row.before.plain.registers row.before.pictured.owned r ≡ None) × (root_of_register row.after.plain.registers row.after.pictured.owned r ≡ Some c)

  grants : GrantsAsks constants i row.before.pictured y.image
  grants = subst (λ o. ChangesOnSuccess constants i row.before.pictured o y.image) is row.blocks

  asks_are : grants.asks ≡ block_for (size row.before.plain.types T) ∷ []
  asks_are = subst (λ o. AsksBy constants i row.before.pictured o grants.asks) is grants.asked

  gives_are : grants.gives ≡ []
  gives_are = subst (λ o. ReturnsBy constants i row.before.pictured o grants.gives) is grants.returned

  loose_in : {s : State} {bytes : List ℕ} (z : Pictures others s bytes) (c : Root) → IsAmong c z.owned → IsAmong c (owners_in z.picture)
  loose_in z c j = among_right c z.picture.names (z.picture.uniques ++ z.picture.loose) (among_right c z.picture.uniques z.picture.loose (owned_loose constants others moves i x y success row kept z c j))

  kinds : word y.image index_kind_word ≡ word x.image index_kind_word
  kinds = kinds_stay constants others moves i x y success row

  nodes_stay : NodesStay x.image y.image row.before.pictured.held.index_blocks
  nodes_stay = record {
    kinds = kinds;
    kept = whole_nodes x.image y.image p.picture p.held p.held.index_blocks (index_live x.image p.picture p.held) (λ h some. kept_whole h (index_live x.image p.picture p.held h some));
    stay = λ tree h some. granted_stay x.image y.image (size row.before.plain.types T) grants.asks grants.gives grants.blocks asks_are gives_are grants.granted grants.left h (index_live x.image p.picture p.held h some);
  }

  long_now : length row.before.pictured.held.index_blocks ≡ index_long (word y.image index_kind_word) (length row.after.pictured.picture.names)
  long_now = index_is_long x.image p.picture p.held ∙ (λ j. index_long (sym kinds j) (length (sym names_stay_same j)))

  grows : Grows x.image y.image row.before.pictured.picture row.after.pictured.picture row.before.pictured.held.index_blocks News
  grows = record {
    tables = tables constants others moves i x y success row kept;
    kept = kept;
    entries = p.held.index_blocks;
    long = long_now;
    lives = λ a n h. (
        let k = new_one n.0 a n.1 n.2 in
        let one = granted_lives x.image y.image (size row.before.plain.types T) a.at grants.asks grants.gives grants.blocks asks_are gives_are grants.granted grants.left k.gets h in
        omega (arith, one, ap (λ m. times h (block_of m ∷ [])) k.payload));
    in_now = λ a n. (new_one n.0 a n.1 n.2).is_in;
    forth = forth;
    back = back;
    no_cells = λ a n. (new_one n.0 a n.1 n.2).no_cells;
  }
    where
      forth : (c : Root) → IsAmong c (owners_in row.before.pictured.picture) → IsAmong c (owners_in row.after.pictured.picture)
      forth c j = by (among_either c p.picture.names (p.picture.uniques ++ p.picture.loose) j)
        where
          loose : IsAmong c others ⊎ IsAmong c row.before.pictured.owned → IsAmong c (owners_in row.after.pictured.picture)
          loose (inl k) = among_right c q.picture.names (q.picture.uniques ++ q.picture.loose) (among_right c q.picture.uniques q.picture.loose (subst (IsAmong c) (sym q.loose) (among_left c others q.owned k)))
          loose (inr k) =
              let r = register_with row.before.plain.registers p.owned p.are_owned c k in
              loose_in q c (of_register row.after.plain.registers q.owned r.0 c (owner_stays r.0 c r.1))

          inner : IsAmong c row.before.pictured.picture.uniques ⊎ IsAmong c row.before.pictured.picture.loose → IsAmong c (owners_in row.after.pictured.picture)
          inner (inl k) = among_right c q.picture.names (q.picture.uniques ++ q.picture.loose) (among_left c q.picture.uniques q.picture.loose (subst (IsAmong c) (sym uniques_stay_same) k))
          inner (inr k) = loose (among_either c others p.owned (subst (IsAmong c) p.loose k))

          by : IsAmong c row.before.pictured.picture.names ⊎ IsAmong c (row.before.pictured.picture.uniques ++ row.before.pictured.picture.loose) → IsAmong c (owners_in row.after.pictured.picture)
          by (inl k) = among_left c q.picture.names (q.picture.uniques ++ q.picture.loose) (subst (IsAmong c) (sym names_stay_same) k)
          by (inr k) = inner (among_either c p.picture.uniques p.picture.loose k)

      back : (c : Root) → IsAmong c (owners_in row.after.pictured.picture) → News c ⊎ IsAmong c (owners_in row.before.pictured.picture)
      back c j = by (among_either c q.picture.names (q.picture.uniques ++ q.picture.loose) j)
        where
          owned : (r : ℕ) → after r ≡ Some c → (o : Option Root) → before r ≡ o → News c ⊎ IsAmong c (owners_in row.before.pictured.picture)
          owned r e None f = inl (r, f, e)
          owned r e (Some d) f = inr (
              let same : d ≡ c = (let g : Some d ≡ Some c = sym (owner_stays r d f) ∙ e in cc) in
              subst (λ (z : Root). IsAmong z (owners_in row.before.pictured.picture)) same (loose_in p d (of_register row.before.plain.registers p.owned r d f)))

          loose : IsAmong c others ⊎ IsAmong c row.after.pictured.owned → News c ⊎ IsAmong c (owners_in row.before.pictured.picture)
          loose (inl k) = inr (among_right c p.picture.names (p.picture.uniques ++ p.picture.loose) (among_right c p.picture.uniques p.picture.loose (subst (IsAmong c) (sym p.loose) (among_left c others p.owned k))))
          loose (inr k) =
              let r = register_with row.after.plain.registers q.owned q.are_owned c k in
              owned r.0 r.1 (before r.0) refl

          inner : IsAmong c row.after.pictured.picture.uniques ⊎ IsAmong c row.after.pictured.picture.loose → News c ⊎ IsAmong c (owners_in row.before.pictured.picture)
          inner (inl k) = inr (among_right c p.picture.names (p.picture.uniques ++ p.picture.loose) (among_left c p.picture.uniques p.picture.loose (subst (IsAmong c) uniques_stay_same k)))
          inner (inr k) = loose (among_either c others q.owned (subst (IsAmong c) q.loose k))

          by : IsAmong c row.after.pictured.picture.names ⊎ IsAmong c (row.after.pictured.picture.uniques ++ row.after.pictured.picture.loose) → News c ⊎ IsAmong c (owners_in row.before.pictured.picture)
          by (inl k) = inr (among_left c p.picture.names (p.picture.uniques ++ p.picture.loose) (subst (IsAmong c) names_stay_same k))
          by (inr k) = inner (among_either c q.picture.uniques q.picture.loose k)

  -- two owned objects at one position are one
  one_owned : (c d : Root) → IsAmong c row.after.pictured.owned → IsAmong d row.after.pictured.owned → d.at ≡ c.at → d ≡ c
  one_owned c d j k at =
      let o = owns y.image q.picture q.held c q.held.roots (owner_in q.picture c (loose_in q c j)) in
      let m = owns y.image q.picture q.held d q.held.roots (owner_in q.picture d (loose_in q d k)) in
      plain-one y.image q.picture.table d c m.its o.its at (plain_loose constants others moves i x y success row kept q d (owned_loose constants others moves i x y success row kept q d k))
      (plain_loose constants others moves i x y success row kept q c (owned_loose constants others moves i x y success row kept q c j)) m.holds_it o.holds_it

-- ---- both images

module _ (constants : List Constant) (others : List Root) (moves : List Move) (i : Instruction) (is : i.operation ≡ Operation.New) (x z y w : Situation) (stand : StandAlike others x z) (r : RowOn constants others moves i x success y)
    (q : RowOn constants others moves i z success w) where
  before_same : (n : ℕ) → root_of_register r.before.plain.registers r.before.pictured.owned n ≡ root_of_register q.before.plain.registers q.before.pictured.owned n
  before_same n =
      let owned = (one_before constants others moves i x z y w success success stand r q).owned in
      let plains = plain_before constants others moves i x z y w success success stand r q in
      λ j. root_of_register (plains j).registers (owned j) n

  states : y.state ≡ w.state
  states = (one constants others moves i x z y w success success stand r q).1

  -- a new object is the same in both images
  new_same : (n : ℕ) (a b : Root) → root_of_register r.before.plain.registers r.before.pictured.owned n ≡ None → root_of_register r.after.plain.registers r.after.pictured.owned n ≡ Some a
      → root_of_register q.after.plain.registers q.after.pictured.owned n ≡ Some b → b ≡ a
  new_same n a b none some some_too =
      let plains = plain_before constants others moves i x z y w success success stand r q in
      let k = new_one constants others moves i is x y r n a none some in
      let m = new_one constants others moves i is z w q n b (sym (before_same n) ∙ none) some_too in
      let gets_too = subst (λ (s : State). AllocatesAt z.image (size s.types (nat_abs i.number)) b.at) (sym plains) m.gets in
      let block = one_block others x.owned x.image z.image stand.images (size r.before.plain.types (nat_abs i.number)) a.at b.at k.gets gets_too in
      root_one b a (m.plain.no_name ∙ sym k.plain.no_name) (m.plain.no_words ∙ sym k.plain.no_words) (omega (arith, block, k.above, m.above)) (m.type_is ∙ sym k.type_is)
      (m.values_are ∙ ap (λ (s : State). cons (default_of s.types (nat_abs i.number)) nil) stand.states ∙ sym k.values_are)

  after_same : (n : ℕ) → root_of_register q.after.plain.registers q.after.pictured.owned n ≡ root_of_register r.after.plain.registers r.after.pictured.owned n
  after_same n = by (root_of_register q.after.plain.registers q.after.pictured.owned n) refl (root_of_register r.after.plain.registers r.after.pictured.owned n) refl
    where
      both : (a b : Root) → root_of_register r.after.plain.registers r.after.pictured.owned n ≡ Some a → root_of_register q.after.plain.registers q.after.pictured.owned n ≡ Some b
          → (o : Option Root) → root_of_register r.before.plain.registers r.before.pictured.owned n ≡ o → b ≡ a
      both a b e f None g = new_same n a b g e f
      both a b e f (Some c) g =
          let k : Some c ≡ Some a = sym (owner_stays constants others moves i is x y r n c g) ∙ e in
          let m : Some c ≡ Some b = sym (owner_stays constants others moves i is z w q n c (sym (before_same n) ∙ g)) ∙ f in
          let first : c ≡ a = cc in
          let second : c ≡ b = cc in
          sym second ∙ first

      by : (u : Option Root) → root_of_register q.after.plain.registers q.after.pictured.owned n ≡ u → (o : Option Root) → root_of_register r.after.plain.registers r.after.pictured.owned n ≡ o → u ≡ o
      by None f None e = refl
      by (Some b) f None e = absurd (
          let s = owner_seen w.state w.image q.after n b f in
          let d = root_seen y.state y.image r.after n _ b.type (ap (λ (t : State). register t n) states ∙ s.1) in
          let k : None ≡ Some d.0 = sym e ∙ d.1 in
          cc)
      by None f (Some a) e = absurd (
          let s = owner_seen y.state y.image r.after n a e in
          let d = root_seen w.state w.image q.after n _ a.type (ap (λ (t : State). register t n) (sym states) ∙ s.1) in
          let k : None ≡ Some d.0 = sym f ∙ d.1 in
          cc)
      by (Some b) f (Some a) e = ap (λ (c : Root). Some c) (both a b e f (root_of_register r.before.plain.registers r.before.pictured.owned n) refl)

  owned_as_one : q.after.pictured.owned ≡ r.after.pictured.owned
  owned_as_one = pairs r.after.pictured.owned q.after.pictured.owned places (λ c j. j) in_first
    where
      seen_owners : (s : State) (bytes : List ℕ) (p : PicturesTrees others s bytes) → owners s.registers ≡ owners p.plain.registers
      seen_owners s bytes p = ap (λ (z : State). owners z.registers) p.trees ∙ unfolded_owners (meaning_in (word bytes next_word) p.pictured.picture) p.plain.registers

      places : places_of q.after.pictured.owned ≡ places_of r.after.pictured.owned
      places = owned_places r.after.plain.registers q.after.plain.registers r.after.pictured.owned q.after.pictured.owned
          (sym (seen_owners w.state w.image q.after) ∙ ap (λ (s : State). owners s.registers) (sym states) ∙ seen_owners y.state y.image r.after) r.after.pictured.are_owned q.after.pictured.are_owned
          (λ n a b e f. let k : Some b ≡ Some a = sym f ∙ after_same n ∙ e in ap (λ (c : Root). c.at) (let same : b ≡ a = cc in same))

      in_first : (d : Root) → IsAmong d q.after.pictured.owned → IsAmong d r.after.pictured.owned
      in_first d j =
          let n = register_with q.after.plain.registers q.after.pictured.owned q.after.pictured.are_owned d j in
          of_register r.after.plain.registers r.after.pictured.owned n.0 d (sym (after_same n.0) ∙ n.1)

      pairs : (cs ds : List Root) → places_of ds ≡ places_of cs → ((c : Root) → IsAmong c cs → IsAmong c r.after.pictured.owned) → ((d : Root) → IsAmong d ds → IsAmong d r.after.pictured.owned) → ds ≡ cs
      pairs [] [] e f g = refl
      pairs [] (d ∷ ds) e f g = cc
      pairs (c ∷ cs) [] e f g = cc
      pairs (c ∷ cs) (d ∷ ds) e f g =
          let first = one_owned constants others moves i is x y r c d (f c (inl refl)) (g d (inl refl)) (let at_is : d.at ≡ c.at = cc in at_is) in
          let rest = pairs cs ds (let more : places_of ds ≡ places_of cs = cc in more) (λ b j. f b (inr j)) (λ b j. g b (inr j)) in
          λ j. first j ∷ rest j

  abbrev NewsOf : Root → Type 0
  NewsOf c = (n : ℕ) × (root_of_register r.before.plain.registers r.before.pictured.owned n ≡ None) × (root_of_register r.after.plain.registers r.after.pictured.owned n ≡ Some c)

  -- both images have the same new objects
  grows_too : Grows z.image w.image q.before.pictured.picture q.after.pictured.picture q.before.pictured.held.index_blocks NewsOf
  grows_too =
      let g = grows constants others moves i is z w q in
      let theirs : (c : Root) → NewsOf c → (n : ℕ) × (root_of_register q.before.plain.registers q.before.pictured.owned n ≡ None) × (root_of_register q.after.plain.registers q.after.pictured.owned n ≡ Some c) =
      λ c k. (k.0, sym (before_same k.0) ∙ k.1, after_same k.0 ∙ k.2) in
      record {
        tables = g.tables;
        kept = g.kept;
        entries = g.entries;
        long = g.long;
        lives = λ a n. g.lives a (theirs a n);
        in_now = λ a n. g.in_now a (theirs a n);
        forth = g.forth;
        back = λ c j. elim (g.back c j) [ inl k ↦ inl (k.0, before_same k.0 ∙ k.1, sym (after_same k.0) ∙ k.2) | inr k ↦ inr k ];
        no_cells = λ a n. g.no_cells a (theirs a n);
      }

  both_new : StaysAlike others success success y w
  both_new =
      let before = one_before constants others moves i x z y w success success stand r q in
      both_grown constants others moves i x z y w success stand r q NewsOf (grows constants others moves i is x y r) grows_too
      (names_stay_same constants others moves i is x y r ∙ before.same.names ∙ sym (names_stay_same constants others moves i is z w q))
      (uniques_stay_same constants others moves i is x y r ∙ before.same.uniques ∙ sym (uniques_stay_same constants others moves i is z w q)) (sym owned_as_one)
      (both_as_before constants others moves i x z y w success stand r q (nodes_stay constants others moves i is x y r) (nodes_stay constants others moves i is z w q) (names_stay_same constants others moves i is x y r))

pub new_alike : (constants : List Constant) (others : List Root) (moves : List Move) (i : Instruction) → i.operation ≡ Operation.New → (x z y w : Situation) (first second : Answer) → StandAlike others x z
    → RowOn constants others moves i x first y → RowOn constants others moves i z second w → StaysAlike others first second y w
new_alike constants others moves i is x z y w success second stand r q =
    let same : success ≡ second = (one constants others moves i x z y w success second stand r q).0 in
    subst (λ k. StaysAlike others success k y w) same (both_new constants others moves i is x z y w stand r (subst (λ k. RowOn constants others moves i z k w) (sym same) q))
new_alike constants others moves i is x z y w first second stand r q = unchanged_alike constants others moves i x z y w first second stand r q (ap (λ o. keeps_image o first) is)
