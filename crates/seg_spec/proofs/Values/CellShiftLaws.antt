-- The targets of a value's cells, and values that are moved with their cells.
use Rattle.std.proofs.Common.{◌≡◌, ◌≢◌, ℕ, zero, suc, ◌+◌, ◌-◌, ◌*◌, ◌%◌, ◌^◌, ◌<◌, ◌≤◌, ◌⊎◌, inl, inr, List, [], ◌∷◌, ◌++◌, length, map, Option, Some, None}
use Rattle.std.proofs.Common.{MatchOption, option_to_list, option_map, cond, eqb, false, refl, sym, ap, ◌∙◌, subst, arith, add-zero, add_assoc}
use Rattle.std.specs.List.{AllByRecursion}
use Rattle.std.proofs.lemmas.Bool.Decides.{nat_tests}
use Rattle.std.proofs.lemmas.Bool.{cases_eq}
use Rattle.std.proofs.lemmas.List.{map-append}
use Rattle.seg_spec.specs.Bytes.{word, slice, put, ChangesOnly}
use Rattle.seg_spec.specs.Pointer.{target}
use Rattle.seg_spec.specs.Types.{Form, Table, form_at, size, IsTable, cells}
use Rattle.seg_spec.specs.Value.{Value, Values}
use Rattle.seg_spec.specs.Heap.{IsHeap, live, heap_start}
use Rattle.seg_spec.specs.Block.{IsBlock, KeepsBlock, block_of}
use Rattle.seg_spec.specs.Shapes.{IsRing, Tree, leaf, fork, nodes_of, IsTree}
use Rattle.seg_spec.specs.Reads.{Place, Opened, count_at, spaced, places_of, fields, AreNodes, Opens, Holds, holds, HoldsEach, holds_none, holds_more, map_words}
use Rattle.seg_spec.specs.Parts.{Persists, PersistEach, persist_none, persist_more}
use Rattle.seg_spec.specs.Sound.{times, positions}
use Rattle.seg_spec.specs.Cells.{IsWithin, EachCell, ChangesCells, ChangesEach, IsMoved, IsFurther}
use Rattle.seg_spec.specs.Owning.{StandsBeside}
use Rattle.seg_spec.specs.Cells as cells_words
use Rattle.seg_spec.proofs.SliceLaws.{slice-slice, slice-put_same, put-changes}
use Rattle.seg_spec.proofs.BytesLaws.{number-slice, length-slice}
use Rattle.seg_spec.proofs.Values.PlaceFrameLaws.{each_left, each_right, each_weaker, each_both}
use Rattle.seg_spec.proofs.Values.CellLaws.{IsOne}
use Rattle.seg_spec.proofs.Heap.LiveBlockLaws.{times-append, times-same, there, each_there, LiesIn, live-lie}
use Rattle.seg_spec.proofs.Values.ValueMoveLaws.{EachField, fields_struct, Persists-moved}
use Rattle.seg_spec.proofs.Values.PersistenceLaws.{HoldsEach-persist}
use Rattle.seg_spec.proofs.Values.CellChangeLaws.{ChangesOnly-trans, each_i64, each_one, each_cell_weaker}
use Rattle.seg_spec.proofs.Heap.BlockWriteLaws.{KeptBut, live_kept_but}

-- ---- the targets of cells

module _ (bytes : List ℕ) (table : Table) (valid : IsTable table) where
  -- If the pointer isn't null, its target is the payload of one of the blocks, or of a frozen
  -- object.
  abbrev pub NamesIn : List ℕ → ℕ → Type 0
  NamesIn blocks at = (t : ℕ) → target bytes at ≡ Some t → (16 ≤ t) × ((1 ≤ times (block_of t) blocks) ⊎ (t % 16 ≡ 0))

  abbrev pub NamesOwned : List ℕ → ℕ → Option Form → Type 0
  NamesOwned blocks at (Some Form.i64) = Unit {0}
  NamesOwned blocks at _ = NamesIn blocks at

  from_names : (blocks : List ℕ) (at : ℕ) (form : Option Form) → NamesIn blocks at → NamesOwned blocks at form
  from_names blocks at None h = h
  from_names blocks at (Some Form.i64) h = tt
  from_names blocks at (Some Form.str) h = h
  from_names blocks at (Some (Form.vec U)) h = h
  from_names blocks at (Some (Form.list U)) h = h
  from_names blocks at (Some (Form.flat_map U)) h = h
  from_names blocks at (Some (Form.map U)) h = h
  from_names blocks at (Some (Form.own U)) h = h
  from_names blocks at (Some (Form.shared U)) h = h
  from_names blocks at (Some (Form.struct Us)) h = h

  more_in : (xs ys : List ℕ) → ((h : ℕ) → 1 ≤ times h xs → 1 ≤ times h ys) → (t : ℕ) → (16 ≤ t) × ((1 ≤ times (block_of t) xs) ⊎ (t % 16 ≡ 0)) → (16 ≤ t) × ((1 ≤ times (block_of t) ys) ⊎ (t % 16 ≡ 0))
  more_in xs ys more t (low, inl mine) = (low, inl (more (block_of t) mine))
  more_in xs ys more t (low, inr aligned) = (low, inr aligned)

  own_name : (blocks : List ℕ) (at : ℕ) → ((t : ℕ) → target bytes at ≡ Some t → (16 ≤ t) × (1 ≤ times (block_of t) blocks)) → NamesIn blocks at
  own_name blocks at h t e = ((h t e).0, inl (h t e).1)

  owned_more : (xs ys : List ℕ) (at : ℕ) (form : Option Form) → ((h : ℕ) → 1 ≤ times h xs → 1 ≤ times h ys) → NamesOwned xs at form → NamesOwned ys at form
  owned_more xs ys at None more h = λ t e. more_in xs ys more t (h t e)
  owned_more xs ys at (Some Form.i64) more h = tt
  owned_more xs ys at (Some Form.str) more h = λ t e. more_in xs ys more t (h t e)
  owned_more xs ys at (Some (Form.vec U)) more h = λ t e. more_in xs ys more t (h t e)
  owned_more xs ys at (Some (Form.list U)) more h = λ t e. more_in xs ys more t (h t e)
  owned_more xs ys at (Some (Form.flat_map U)) more h = λ t e. more_in xs ys more t (h t e)
  owned_more xs ys at (Some (Form.map U)) more h = λ t e. more_in xs ys more t (h t e)
  owned_more xs ys at (Some (Form.own U)) more h = λ t e. more_in xs ys more t (h t e)
  owned_more xs ys at (Some (Form.shared U)) more h = λ t e. more_in xs ys more t (h t e)
  owned_more xs ys at (Some (Form.struct Us)) more h = λ t e. more_in xs ys more t (h t e)

  room_named : (o : Option ℕ) (n kind each t : ℕ) → o ≡ Some t → MatchOption o (n ≡ 0) (λ p. IsBlock bytes p kind (n * each)) → (16 ≤ t) × (1 ≤ times (block_of t) (option_to_list (option_map block_of o)))
  room_named None n kind each t e r = absurd (cc)
  room_named (Some p) n kind each t e r =
      let same : p ≡ t = cc in
      (subst (λ q. 16 ≤ q) same r.after_header, subst (λ q. 1 ≤ times (block_of q) (block_of p ∷ [])) same (omega (arith, times-same (block_of p) [])))

  ring_named : (o : Option ℕ) (kind each t : ℕ) (nodes : List ℕ) → o ≡ Some t → IsRing bytes o nodes → AreNodes bytes kind each nodes → (16 ≤ t) × (1 ≤ times (block_of t) (map block_of nodes))
  ring_named None kind each t nodes e r a = absurd (cc)
  ring_named (Some p) kind each t [] e r a = absurd r
  ring_named (Some p) kind each t (x ∷ xs) e r a =
      let pt : p ≡ t = cc in
      let same : x ≡ t = r.0 ∙ pt in
      (subst (λ q. 16 ≤ q) same a.0.after_header, subst (λ q. 1 ≤ times (block_of q) (block_of x ∷ map block_of xs)) same (omega (arith, times-same (block_of x) (map block_of xs))))

  tree_named : (o : Option ℕ) (kind each t : ℕ) (tree : Tree) → o ≡ Some t → IsTree bytes o tree → AreNodes bytes kind each (nodes_of tree) → (16 ≤ t) × (1 ≤ times (block_of t) (map block_of (nodes_of tree)))
  tree_named None kind each t tree e r a = absurd (cc)
  tree_named (Some p) kind each t leaf e r a = absurd r
  tree_named (Some p) kind each t (fork left at colour right) e r a =
      let pt : p ≡ t = cc in
      let same : at ≡ t = r.0 ∙ pt in
      let mine = each_right _ (nodes_of left) (at ∷ nodes_of right) a in
      let split : map block_of (nodes_of left ++ at ∷ nodes_of right) ≡ map block_of (nodes_of left) ++ (block_of at ∷ map block_of (nodes_of right)) = map-append block_of (nodes_of left) (at ∷ nodes_of right) in
      let n1 = times-append (block_of at) (map block_of (nodes_of left)) (block_of at ∷ map block_of (nodes_of right)) in
      let n2 = times-same (block_of at) (map block_of (nodes_of right)) in
      let some : 1 ≤ times (block_of at) (map block_of (nodes_of left ++ at ∷ nodes_of right)) = rw split (omega arith) in
      (subst (λ q. 16 ≤ q) same mine.0.after_header, subst (λ q. 1 ≤ times (block_of q) (map block_of (nodes_of left ++ at ∷ nodes_of right))) same some)

  opens_named : (place : Place) (form : Form) (opened : Opened) → IsOne table valid form → Opens bytes table place form opened → NamesIn opened.blocks place.at
  opens_named place Form.i64 opened one o = absurd one
  opens_named place (Form.struct Us) opened one o = absurd one
  opens_named place Form.str opened one o = own_name opened.blocks place.at (λ t e. rw (ap (λ (r : Opened). r.blocks) o.opened_is) (room_named (target bytes place.at) _ _ 1 t e o.named_room))
  opens_named place (Form.vec U) opened one o = own_name opened.blocks place.at (λ t e. rw (ap (λ (r : Opened). r.blocks) o.opened_is) (room_named (target bytes place.at) _ _ (size table U) t e o.named_room))
  opens_named place (Form.flat_map U) opened one o = own_name opened.blocks place.at (λ t e. rw (ap (λ (r : Opened). r.blocks) o.opened_is) (room_named (target bytes place.at) _ _ (8 + size table U) t e o.named_room))
  opens_named place (Form.own U) opened one o = own_name opened.blocks place.at (λ t e. rw (ap (λ (r : Opened). r.blocks) o.opened_is) (room_named (target bytes place.at) _ _ (size table U) t e o.named_room))
  opens_named place (Form.shared U) opened one o = λ t e. let payload = o.payload t e in (omega (arith, payload.low), inr payload.aligned)
  opens_named place (Form.list U) opened one o = own_name opened.blocks place.at (λ t e. rw (ap (λ (r : Opened). r.blocks) o.opened_is) (ring_named (target bytes place.at) _ (8 + size table U) t o.nodes e o.ring o.are_nodes))
  opens_named place (Form.map U) opened one o = own_name opened.blocks place.at (λ t e. rw (ap (λ (r : Opened). r.blocks) o.opened_is) (tree_named (target bytes place.at) _ (map_words + size table U) t o.tree e o.is_tree o.are_nodes))

  one_owned : (place : Place) (form : Form) (opened : Opened) (blocks owned : List ℕ) → form_at table place.type ≡ Some form → IsOne table valid form → Opens bytes table place form opened →
      blocks ≡ opened.blocks ++ owned → EachCell table place.type (λ d f. NamesOwned blocks (place.at + d) f)
  one_owned place form opened blocks owned f one o blocks_is =
      each_one table valid (λ d g. NamesOwned blocks (place.at + d) g) place.type form f one
      (from_names blocks (place.at + 0) (Some form) (rw (add-zero place.at, blocks_is)
      (λ t e. more_in opened.blocks (opened.blocks ++ owned) (λ h mine. omega (arith, mine, times-append h opened.blocks owned)) t (opens_named place form opened one o t e))))

  head_or : Place → List Place → Place
  head_or d [] = d
  head_or d (p ∷ ps) = p

  tail_of : List Place → List Place
  tail_of [] = []
  tail_of (p ∷ ps) = ps

  heads : (place : Place) (places : List Place) (from U : ℕ) (Us : List ℕ) → place ∷ places ≡ fields table from (U ∷ Us) → place ≡ record { at = from; type = U }
  unfolding head_or
  heads place places from U Us e = ap (head_or place) e

  tails : (place : Place) (places : List Place) (from U : ℕ) (Us : List ℕ) → place ∷ places ≡ fields table from (U ∷ Us) → places ≡ fields table (from + size table U) Us
  unfolding tail_of
  tails place places from U Us e = ap tail_of e

  field_more : (xs ys : List ℕ) (from n : ℕ) (Us : List ℕ) → ((h : ℕ) → 1 ≤ times h xs → 1 ≤ times h ys) → EachField table n Us (λ d f. NamesOwned xs (from + d) f) → EachField table n Us (λ d f. NamesOwned ys (from + d) f)
  field_more xs ys from n [] more a = tt
  field_more xs ys from n (U ∷ Us) more a = (each_weaker _ _ (λ c r. owned_more xs ys (from + (n + c.from)) (form_at table c.type) more r) (cells table U) a.0, field_more xs ys from (n + size table U) Us more a.1)

  regroup : (from n : ℕ) (blocks : List ℕ) (d : ℕ) (form : Option Form) → NamesOwned blocks (from + n + d) form → NamesOwned blocks (from + (n + d)) form
  regroup from n blocks d form r = rw (← add_assoc from n d) r

  mutual
    pub names_owned : {place : Place} {v : Value} {blocks : List ℕ} → Holds bytes table place v blocks → EachCell table place.type (λ d f. NamesOwned blocks (place.at + d) f)
    names_owned {place = place} {blocks = blocks} (holds Form.i64 opened inside owned f o hs v_is blocks_is) = each_i64 table valid (λ d g. NamesOwned blocks (place.at + d) g) place.type f tt
    names_owned {place = place} {blocks = blocks} (holds Form.str opened inside owned f o hs v_is blocks_is) = one_owned place Form.str opened blocks owned f tt o blocks_is
    names_owned {place = place} {blocks = blocks} (holds (Form.vec U) opened inside owned f o hs v_is blocks_is) = one_owned place (Form.vec U) opened blocks owned f tt o blocks_is
    names_owned {place = place} {blocks = blocks} (holds (Form.list U) opened inside owned f o hs v_is blocks_is) = one_owned place (Form.list U) opened blocks owned f tt o blocks_is
    names_owned {place = place} {blocks = blocks} (holds (Form.flat_map U) opened inside owned f o hs v_is blocks_is) = one_owned place (Form.flat_map U) opened blocks owned f tt o blocks_is
    names_owned {place = place} {blocks = blocks} (holds (Form.map U) opened inside owned f o hs v_is blocks_is) = one_owned place (Form.map U) opened blocks owned f tt o blocks_is
    names_owned {place = place} {blocks = blocks} (holds (Form.own U) opened inside owned f o hs v_is blocks_is) = one_owned place (Form.own U) opened blocks owned f tt o blocks_is
    names_owned {place = place} {blocks = blocks} (holds (Form.shared U) opened inside owned f o hs v_is blocks_is) = one_owned place (Form.shared U) opened blocks owned f tt o blocks_is
    names_owned {place = place} {blocks = blocks} (holds (Form.struct Us) opened inside owned f o hs v_is blocks_is) =
        let parts : opened.parts ≡ fields table place.at Us = ap (λ (r : Opened). r.parts) o in
        let from_0 : opened.parts ≡ fields table (place.at + 0) Us = rw (add-zero place.at) parts in
        let inner = fields_owned place.at 0 Us hs from_0 in
        fields_struct table valid (λ d g. NamesOwned blocks (place.at + d) g) place.type Us f
        (field_more owned blocks place.at 0 Us (λ h n. rw blocks_is (omega (arith, times-append h opened.blocks owned))) inner)

    fields_owned : {places : List Place} {vs : Values} {blocks : List ℕ} (from n : ℕ) (Us : List ℕ) → HoldsEach bytes table places vs blocks → places ≡ fields table (from + n) Us →
        EachField table n Us (λ d f. NamesOwned blocks (from + d) f)
    fields_owned from n [] holds_none e = tt
    fields_owned from n (U ∷ Us) holds_none e = absurd (cc)
    fields_owned from n [] (holds_more first rest) e = absurd (cc)
    fields_owned from n (U ∷ Us) (holds_more {place = place} {places = places} {blocks = blocks} {owned = owned} first rest) e =
        let at_is : place.at ≡ from + n = ap (λ (p : Place). p.at) (heads place places (from + n) U Us e) in
        let type_is : place.type ≡ U = ap (λ (p : Place). p.type) (heads place places (from + n) U Us e) in
        let rest_is : places ≡ fields table (from + n + size table U) Us = tails place places (from + n) U Us e in
        let mine = rw (at_is, type_is) at (names_owned first) in
        let more = fields_owned from (n + size table U) Us rest (rest_is ∙ ap (λ k. fields table k Us) (add_assoc from n (size table U))) in (
          each_weaker _ _ (λ c r. owned_more blocks (blocks ++ owned) (from + (n + c.from)) (form_at table c.type) (λ h k. omega (arith, times-append h blocks owned))
              (regroup from n blocks c.from (form_at table c.type) r)) (cells table U) mine,
          field_more owned (blocks ++ owned) from (n + size table U) Us (λ h k. omega (arith, times-append h blocks owned)) more,
        )

-- ---- one pointer

target_by : (bytes : List ℕ) (at w : ℕ) → word bytes at ≡ w → target bytes at ≡ cond (eqb w 1) None (Some ((at + w) % 2 ^ 32))
unfolding target
target_by bytes at w e = ap (λ v. cond (eqb v 1) None (Some ((at + v) % 2 ^ 32))) e

eqb_other : (a b : ℕ) → a ≢ b → eqb a b ≡ false
eqb_other a b h = grind (arith, nat_tests)

named_by : (bytes : List ℕ) (at w : ℕ) → word bytes at ≡ w → w ≢ 1 → target bytes at ≡ Some ((at + w) % 2 ^ 32)
named_by bytes at w e ne = target_by bytes at w e ∙ ap (λ b. cond b None (Some ((at + w) % 2 ^ 32))) (eqb_other w 1 ne)

further_other : (n w : ℕ) → w ≢ 1 → cells_words.further n w ≡ (w + n) % 2 ^ 32
further_other n w ne = ap (λ b. cond b 1 ((w + n) % 2 ^ 32)) (eqb_other w 1 ne)

same_target : (p q n w : ℕ) → (q + n) % 2 ^ 32 ≡ p → (q + (w + n) % 2 ^ 32) % 2 ^ 32 ≡ (p + w) % 2 ^ 32
same_target p q n w e = omega arith

not_null : (p q n w : ℕ) → (q + n) % 2 ^ 32 ≡ p → q < 2 ^ 31 → (p + w) % 2 ^ 32 ≢ q + 1 → (w + n) % 2 ^ 32 ≢ 1
not_null p q n w e small ne h = ne (omega arith)

pub pointer_moved : (old new : List ℕ) (p q n : ℕ) → word new q ≡ cells_words.further n (word old p) → (q + n) % 2 ^ 32 ≡ p → q < 2 ^ 31 → ((t : ℕ) → target old p ≡ Some t → t ≢ q + 1) → target new q ≡ target old p
pointer_moved old new p q n e far small free = go (cases_eq (word old p) 1)
  where
    go : (word old p ≡ 1) ⊎ (word old p ≢ 1) → target new q ≡ target old p
    go (inl one) =
        let there_is : word new q ≡ 1 = e ∙ ap (cells_words.further n) one in
        target_by new q 1 there_is ∙ sym (target_by old p 1 one)
    go (inr other) =
        let named_old = named_by old p (word old p) refl other in
        let apart = free ((p + word old p) % 2 ^ 32) named_old in
        let named_new = named_by new q ((word old p + n) % 2 ^ 32) (e ∙ further_other n (word old p) other) (not_null p q n (word old p) far small apart) in
        named_new ∙ ap Some (same_target p q n (word old p) far) ∙ sym named_old

-- ---- one value

module _ (old raw new : List ℕ) (table : Table) (valid : IsTable table) (n : ℕ) where
  pointer_there : (blocks : List ℕ) (p q : ℕ) → ((h : ℕ) → 1 ≤ times h blocks → h % 16 ≡ 0) → (q + n) % 2 ^ 32 ≡ p → q < 2 ^ 31 → q % 8 ≡ 0 → slice raw q 8 ≡ slice old p 8
      → NamesIn old table valid blocks p → (word new q ≡ cells_words.further n (word raw q)) × (count_at new q ≡ count_at raw q) → (target new q ≡ target old p) × (count_at new q ≡ count_at old p)
  pointer_there blocks p q aligned far small eight s names f =
      let first : word raw q ≡ word old p = number-slice 4 old raw q p (part_same 0 4 (omega arith)) in
      let second : count_at raw q ≡ count_at old p = number-slice 4 old raw (q + 4) (p + 4) (part_at 4 4 (omega arith)) in (
        pointer_moved old new p q n (f.0 ∙ ap (cells_words.further n) first) far small (λ t e. not_after t (names t e).0 (even t (names t e))),
        f.1 ∙ second,
      )
    where
      part_at : (i m : ℕ) → i + m ≤ 8 → slice raw (q + i) m ≡ slice old (p + i) m
      part_at i m fits = sym (slice-slice raw q 8 i m fits) ∙ ap (λ xs. slice xs i m) s ∙ slice-slice old p 8 i m fits

      part_same : (i m : ℕ) → m ≤ 8 → slice raw q m ≡ slice old p m
      part_same i m fits = let e = part_at 0 m (omega arith) in rw (add-zero q, add-zero p) at e

      even : (t : ℕ) → (16 ≤ t) × ((1 ≤ times (block_of t) blocks) ⊎ (t % 16 ≡ 0)) → (t - 16) % 16 ≡ 0
      even t (low, inl mine) = aligned (block_of t) mine
      even t (low, inr itself) = omega arith

      not_after : (t : ℕ) → 16 ≤ t → (t - 16) % 16 ≡ 0 → t ≢ q + 1
      not_after t low even = λ e. omega arith

  cell_there : (blocks : List ℕ) (p q : ℕ) (form : Option Form) → ((h : ℕ) → 1 ≤ times h blocks → h % 16 ≡ 0) → (q + n) % 2 ^ 32 ≡ p → q < 2 ^ 31 → q % 8 ≡ 0 → slice raw q 8 ≡ slice old p 8
      → NamesOwned old table valid blocks p form → IsFurther raw new n q form → IsMoved old new p q form
  cell_there blocks p q (Some Form.i64) aligned far small eight s names f = f ∙ number-slice 8 old raw q p s
  cell_there blocks p q None aligned far small eight s names f = pointer_there blocks p q aligned far small eight s names f
  cell_there blocks p q (Some Form.str) aligned far small eight s names f = pointer_there blocks p q aligned far small eight s names f
  cell_there blocks p q (Some (Form.vec U)) aligned far small eight s names f = pointer_there blocks p q aligned far small eight s names f
  cell_there blocks p q (Some (Form.list U)) aligned far small eight s names f = pointer_there blocks p q aligned far small eight s names f
  cell_there blocks p q (Some (Form.flat_map U)) aligned far small eight s names f = pointer_there blocks p q aligned far small eight s names f
  cell_there blocks p q (Some (Form.map U)) aligned far small eight s names f = pointer_there blocks p q aligned far small eight s names f
  cell_there blocks p q (Some (Form.own U)) aligned far small eight s names f = pointer_there blocks p q aligned far small eight s names f
  cell_there blocks p q (Some (Form.shared U)) aligned far small eight s names f = pointer_there blocks p q aligned far small eight s names f
  cell_there blocks p q (Some (Form.struct Us)) aligned far small eight s names f = pointer_there blocks p q aligned far small eight s names f

  value_there : (p q T : ℕ) (v : Value) (blocks : List ℕ) → ((h : ℕ) → 1 ≤ times h blocks → h % 16 ≡ 0) → (q + n) % 2 ^ 32 ≡ p → q + size table T < 2 ^ 31 → p + size table T < 2 ^ 31 → q % 8 ≡ 0
      → slice raw q (size table T) ≡ slice old p (size table T) → EachCell table T (λ d form. IsFurther raw new n (q + d) form) → AllByRecursion (KeepsBlock old new) blocks
      → Holds old table (record { at = p; type = T }) v blocks → Persists old new table (record { at = p; type = T }) (record { at = q; type = T })
  value_there p q T v blocks aligned far small small_too eight s further kept h =
      let names = names_owned old table valid h in
      let both : EachCell table T (λ d form. NamesOwned old table valid blocks (p + d) form × IsFurther raw new n (q + d) form) = each_both _ _ _ (λ c a b. (a, b)) (cells table T) names further in
      Persists-moved old new table valid q h
      (each_cell_weaker table valid (λ d form. NamesOwned old table valid blocks (p + d) form × IsFurther raw new n (q + d) form) (λ d form. IsMoved old new (p + d) (q + d) form) T
      (λ d form fits even r. cell_there blocks (p + d) (q + d) form aligned (omega arith) (omega arith) (omega arith) (part_at d fits) r.0 r.1) both) kept
    where
      part_at : (d : ℕ) → d + 8 ≤ size table T → slice raw (q + d) 8 ≡ slice old (p + d) 8
      part_at d fits = sym (slice-slice raw q (size table T) d 8 fits) ∙ ap (λ xs. slice xs d 8) s ∙ slice-slice old p (size table T) d 8 fits

  -- ---- values in entries

  abbrev pub values_at : ℕ → ℕ → ℕ → ℕ → List ℕ
  values_at before start each k = map (λ p. p + before) (spaced start each k)

  values_there : (before each T k from to : ℕ) (vs : Values) (blocks : List ℕ) → before + size table T ≤ each → ((h : ℕ) → 1 ≤ times h blocks → h % 16 ≡ 0) → (to + n) % 2 ^ 32 ≡ from → to + k * each < 2 ^ 31 → from + k * each < 2 ^ 31
      → to % 8 ≡ 0 → each % 8 ≡ 0 → before % 8 ≡ 0 → slice raw to (k * each) ≡ slice old from (k * each)
      → AllByRecursion (λ q. EachCell table T (λ d form. IsFurther raw new n (q + d) form)) (values_at before to each k) → AllByRecursion (KeepsBlock old new) blocks
      → HoldsEach old table (places_of T (values_at before from each k)) vs blocks → PersistEach old new table (places_of T (values_at before from each k)) (places_of T (values_at before to each k))
  values_there before each T zero from to vs blocks fits aligned far small small_too even e8 b8 s further kept holds_none = persist_none
  values_there before each T (suc k) from to vs blocks fits aligned far small small_too even e8 b8 s further kept (holds_more {v = u} {vs = us} {blocks = mine} {owned = rest} first more) =
      let all : suc k * each ≡ each + k * each = grind arith in
      let one = part_there before (size table T) (omega arith) in
      let next = part_there each (k * each) (omega arith) in
      let first_there = value_there (from + before) (to + before) T u mine (λ h m. aligned h (omega (arith, times-append h mine rest))) (omega arith) (omega arith) (omega arith)
      (omega arith) one further.0 (each_left _ mine rest kept) first in
      let more_there = values_there before each T k (from + each) (to + each) us rest fits (λ h m. aligned h (omega (arith, times-append h mine rest))) (omega arith) (omega arith) (omega arith)
      (omega arith) e8 b8 next further.1 (each_right _ mine rest kept) more in
      persist_more first_there more_there
    where
      part_there : (i m : ℕ) → i + m ≤ suc k * each → slice raw (to + i) m ≡ slice old (from + i) m
      part_there i m fits = sym (slice-slice raw to (suc k * each) i m fits) ∙ ap (λ xs. slice xs i m) s ∙ slice-slice old from (suc k * each) i m fits

-- ---- a move of typed values

module _ (old raw new : List ℕ) (table : Table) (valid : IsTable table) (n : ℕ) (before each T k from to : ℕ) (moved : raw ≡ put old to (slice old from (k * each))) (from_in : IsWithin old from (k * each))
    (changed : ChangesEach (λ a b at form. IsFurther a b n at form) raw new table T to (k * each) (values_at old raw new table valid n before to each k)) where
  long_enough : length (slice old from (k * each)) ≡ k * each
  long_enough = length-slice old from (k * each) from_in.fits

  pub shift_changes : ChangesOnly old new to (k * each)
  shift_changes =
      let first : ChangesOnly old (put old to (slice old from (k * each))) to (k * each) = subst (λ m. ChangesOnly old (put old to (slice old from (k * each))) to m) long_enough (put-changes old to (slice old from (k * each))) in
      ChangesOnly-trans old raw new to (k * each) (rw moved first) changed.changes

  module _ (allocator home : ℕ) (vs : Values) (blocks : List ℕ) (heap : IsHeap allocator old) (stands : StandsBeside old home to (k * each) blocks) where
    lies : (h : ℕ) → 1 ≤ times h (positions (live old)) → LiesIn old heap_start (length old) h
    lies h some = there (LiesIn old heap_start (length old)) h (positions (live old)) (live-lie old allocator heap) some

    to_in : to + k * each ≤ length old
    to_in = let l = lies home stands.home_live in omega (arith, stands.inside.high, l.high)

    copied : slice raw to (k * each) ≡ slice old from (k * each)
    copied = ap (λ b. slice b to (k * each)) moved ∙ slice-put_same old to (slice old from (k * each)) (k * each) (sym long_enough) to_in

    pub beside_kept : AllByRecursion (KeepsBlock old new) blocks
    beside_kept = each_there (KeepsBlock old new) blocks (λ h some.
        let other = stands.others h some in
        (there (KeptBut old new to (k * each) shift_changes allocator heap home stands.inside stands.home_live) h (positions (live old))
        (live_kept_but old new to (k * each) shift_changes allocator heap home stands.inside stands.home_live) other.0).kept other.1)

    -- each value persists at its new position
    pub shifted_persist : before + size table T ≤ each → (to + n) % 2 ^ 32 ≡ from → to % 8 ≡ 0 → each % 8 ≡ 0 → before % 8 ≡ 0
        → HoldsEach old table (places_of T (values_at old raw new table valid n before from each k)) vs blocks
        → PersistEach old new table (places_of T (values_at old raw new table valid n before from each k)) (places_of T (values_at old raw new table valid n before to each k))
    shifted_persist fits far even e8 b8 h =
        let low = to_in in
        values_there old raw new table valid n before each T k from to vs blocks fits (λ g some. (lies g (stands.others g some).0).aligned) far (omega (arith, from_in.small))
        (omega (arith, from_in.fits, from_in.small)) even e8 b8 copied changed.cells beside_kept h

    pub shifted : before + size table T ≤ each → (to + n) % 2 ^ 32 ≡ from → to % 8 ≡ 0 → each % 8 ≡ 0 → before % 8 ≡ 0
        → HoldsEach old table (places_of T (values_at old raw new table valid n before from each k)) vs blocks → HoldsEach new table (places_of T (values_at old raw new table valid n before to each k)) vs blocks
    shifted fits far even e8 b8 h = HoldsEach-persist old new table h (shifted_persist fits far even e8 b8 h)
