-- A row that makes an object keeps all blocks outside the index, and gets one for the object.
use Rattle.std.proofs.Common.{◌≡◌, ℕ, ◌+◌, ◌≤◌, ◌⊎◌, inl, inr, true, false, List, [], ◌∷◌, ◌++◌, length, Option, Some, None, option_map, refl, sym, ap, ◌∙◌, subst, arith}
use Rattle.std.specs.Prelude.{is_some, option_and_then}
use Rattle.std.specs.Option.{option_map_or}
use Rattle.seg_spec.specs.Bytes.{word}
use Rattle.seg_spec.specs.Header.{allocator_word}
use Rattle.seg_spec.specs.Heap.{Span, live, granted, with_block, pick, gaps_of, Granted, same, fresh}
use Rattle.seg_spec.specs.Block.{block_of, KeepsBlock}
use Rattle.seg_spec.specs.Apart.{KeepsBlockAround}
use Rattle.seg_spec.specs.Index.{Root, root_named, root_of_type}
use Rattle.seg_spec.specs.Sound.{Picture, IsPlain, frozen_roots, roots_of, times, positions}
use Rattle.seg_spec.specs.Demand.{Ask, need, block_for, blocks_then, after_ask, after_asks, after_gives}
use Rattle.seg_spec.specs.Spending as spending
use Rattle.seg_spec.specs.Spending.{old_of}
use Rattle.seg_spec.proofs.Heap.AllocationLaws.{one_more}
use Rattle.seg_spec.proofs.Heap.GrantLaws.{granted_new}
use Rattle.seg_spec.proofs.Heap.LiveBlockLaws.{times-append, times-more, times-with_block}
use Rattle.client_spec.specs.Syntax.{Constant, Instruction}
use Rattle.client_spec.specs.Answer.{Answer}
use Rattle.client_spec.specs.Machine.{State}
use Rattle.client_spec.specs.Pictures.{Pictures}
use Rattle.client_spec.specs.Ties.{Spot, nowhere, places_of, AllocatesAt, TouchesBy, Changes}
use Rattle.client_spec.specs.OnImages.{Move, Situation, RowOn}
use Rattle.test_definitions.proofs.Alike.AlikeRootLaws.{of_type}
use Rattle.test_definitions.proofs.Alike.GrownImageLaws.{faced_one, placed_one}
use Rattle.test_definitions.proofs.Rows.KeptImageLaws.{whole, same_whole}
use Rattle.test_definitions.proofs.Alike.ListedRootLaws.{names_listed}
use Rattle.test_definitions.proofs.Steps.PlaceStepLaws.{tables_stay, names_stay}
use Rattle.test_definitions.proofs.Rows.OwningRegisterLaws.{changes_names}
use Rattle.test_definitions.proofs.Alike.RootMemberLaws.{IsAmong, each_among, among_left, among_right, looked_up}

-- ---- the block that a request gets

pair_is : (a b : ℕ × List Span) → Some a ≡ Some b → a ≡ b
pair_is a b e = cc

taken_counts : (bs new : List Span) (u g : ℕ) (o : Option Span) → option_map {U = ℕ × List Span} (λ (x : Span). (x.at, with_block (record { at = x.at; units = granted x.units u }) bs)) o ≡ Some (g, new) → (h : ℕ) → times h
    (positions new) ≡ times h (g ∷ positions bs)
taken_counts bs new u g None e h = cc
taken_counts bs new u g (Some x) e h =
    let both = pair_is (x.at, with_block (record { at = x.at; units = granted x.units u }) bs) (g, new) e in
    let at_is : x.at ≡ g = ap (λ (r : ℕ × List Span). r.0) both in
    let is : with_block (record { at = x.at; units = granted x.units u }) bs ≡ new = ap (λ (r : ℕ × List Span). r.1) both in
    ap (λ cs. times h (positions cs)) (sym is) ∙ times-with_block h (record { at = x.at; units = granted x.units u }) bs ∙ ap (λ a. times h (a ∷ positions bs)) at_is

pub granted_lives : (old new : List ℕ) (n at : ℕ) (asks : List Ask) (gives : List ℕ) (blocks : List Span) → asks ≡ block_for n ∷ [] → gives ≡ [] → after_asks (word old allocator_word) (live old) (length old) asks ≡ Some blocks
    → live new ≡ after_gives blocks (spending.replaced (word old allocator_word) (live old) (length old) asks ++ gives) → AllocatesAt old n at
    → (h : ℕ) → times h (positions (live new)) ≡ times h (positions (live old)) + times h (block_of at ∷ [])
granted_lives old new n at asks gives blocks asks_are gives_are granted_is left gets h =
    let A = word old allocator_word in
    let bs = live old in
    let end = length old in
    let request : after_ask A bs end (block_for n) ≡ Some (fresh (block_of at) gets.0) = gets.1 in
    let done : option_and_then (λ g. after_asks A (blocks_then g) end []) (after_ask A bs end (block_for n)) ≡ Some blocks = subst (λ as'. after_asks A bs end as' ≡ Some blocks) asks_are granted_is in
    let both : Some gets.0 ≡ Some blocks = sym (ap (option_and_then (λ g. after_asks A (blocks_then g) end [])) request) ∙ done in
    let blocks_are : gets.0 ≡ blocks = cc in
    let none : spending.replaced A bs end (block_for n ∷ []) ≡ [] = ap (λ o. option_map_or (λ g. old_of g (block_for n) ++ spending.replaced A (blocks_then g) end []) o []) request in
    let gone : spending.replaced A bs end asks ++ gives ≡ [] = (λ j. spending.replaced A bs end (asks_are j) ++ gives_are j) ∙ ap (λ zs. zs ++ []) none in
    let now : live new ≡ gets.0 = left ∙ ap (after_gives blocks) gone ∙ sym blocks_are in
    let k = granted_new A bs end (need n) (need n) (fresh (block_of at) gets.0) (omega arith) request in
    let counted = taken_counts bs gets.0 k.units (block_of at) (pick A (gaps_of bs end) k.units) k.taken h in
    omega (arith, ap (λ cs. times h (positions cs)) now, counted, times-append h (block_of at ∷ []) (positions bs))

-- a request without an old block replaces none
pub none_replaced : (allocator end n : ℕ) (bs : List Span) → spending.replaced allocator bs end (block_for n ∷ []) ≡ []
none_replaced allocator end n bs = go (after_ask allocator bs end (block_for n))
  where
    go : (o : Option Granted) → option_map_or (λ g. old_of g (block_for n) ++ spending.replaced allocator (blocks_then g) end []) o [] ≡ []
    go None = refl
    go (Some (same cs)) = refl
    go (Some (fresh at cs)) = refl

-- all blocks stay allocated
pub granted_stay : (old new : List ℕ) (n : ℕ) (asks : List Ask) (gives : List ℕ) (blocks : List Span) → asks ≡ block_for n ∷ [] → gives ≡ [] → after_asks (word old allocator_word) (live old) (length old) asks ≡ Some blocks
    → live new ≡ after_gives blocks (spending.replaced (word old allocator_word) (live old) (length old) asks ++ gives) → (h : ℕ) → 1 ≤ times h (positions (live old)) → 1 ≤ times h (positions (live new))
granted_stay old new n asks gives blocks asks_are gives_are granted_is left h some =
    let A = word old allocator_word in
    let done = subst (λ as'. after_asks A (live old) (length old) as' ≡ Some blocks) asks_are granted_is in
    let gone : spending.replaced A (live old) (length old) asks ++ gives ≡ [] = (λ j. spending.replaced A (live old) (length old) (asks_are j) ++ gives_are j) ∙ ap (λ zs. zs ++ []) (none_replaced A (length old) n (live old)) in
    let now : live new ≡ blocks = left ∙ ap (after_gives blocks) gone in
    let more = one_more A (length old) (need n) (live old) blocks done in
    omega (arith, some, ap (λ cs. times h (positions cs)) now, more.counts h, times-more h more.at (positions (live old)))

-- ---- one row

module _ (constants : List Constant) (others : List Root) (moves : List Move) (i : Instruction) (x y : Situation) (answer : Answer) (r : RowOn constants others moves i x answer y) where
  -- a block that the row may not change is kept
  pub kept_beside : (h : ℕ) → 1 ≤ times h (positions (live x.image)) → ((spot : Spot) (own : List ℕ) → TouchesBy constants i r.before.pictured i.operation spot own → (spot ≡ nowhere) × (times h own ≡ 0)) → KeepsBlock x.image y.image h
  kept_beside h some touches = by r.ties.changes
    where
      by : (y.image ≡ x.image) ⊎ Changes constants i r.before.pictured y.image → KeepsBlock x.image y.image h
      by (inl e) = same_whole x.image y.image h e
      by (inr c) =
          let t = touches c.spot c.own c.touches in
          whole x.image y.image h (subst (λ (z : Spot). KeepsBlockAround x.image y.image z.at z.bytes h) t.0 (c.kept h some t.1))

-- an image that keeps all blocks outside its index
module _ (constants : List Constant) (others : List Root) (moves : List Move) (i : Instruction) (x y : Situation) (answer : Answer) (r : RowOn constants others moves i x answer y)
    (kept : (h : ℕ) → 1 ≤ times h (positions (live x.image)) → times h r.before.pictured.held.index_blocks ≡ 0 → KeepsBlock x.image y.image h) where
  abbrev p : Pictures others r.before.plain x.image
  p = r.before.pictured

  abbrev q : Pictures others r.after.plain y.image
  q = r.after.pictured

  pub tables : r.after.pictured.picture.table ≡ r.before.pictured.picture.table
  tables = tables_stay constants others moves i x y answer r

  in_names : (s : Picture) (a : Root) → IsAmong a s.names → IsAmong a (roots_of s)
  in_names s a j = among_left a s.names (s.uniques ++ (s.loose ++ frozen_roots s)) j

  in_uniques : (s : Picture) (a : Root) → IsAmong a s.uniques → IsAmong a (roots_of s)
  in_uniques s a j = among_right a s.names (s.uniques ++ (s.loose ++ frozen_roots s)) (among_left a s.uniques (s.loose ++ frozen_roots s) j)

  pub in_loose : (s : Picture) (a : Root) → IsAmong a s.loose → IsAmong a (roots_of s)
  in_loose s a j = among_right a s.names (s.uniques ++ (s.loose ++ frozen_roots s)) (among_right a s.uniques (s.loose ++ frozen_roots s) (among_left a s.loose (frozen_roots s) j))

  -- a named object stays as it is
  pub same_named : (name : List ℕ) → is_some (root_named r.after.pictured.picture.names name) ≡ is_some (root_named r.before.pictured.picture.names name)
      → root_named r.after.pictured.picture.names name ≡ root_named r.before.pictured.picture.names name
  same_named name as_before = by (root_named r.after.pictured.picture.names name) (root_named r.before.pictured.picture.names name) refl refl as_before
    where
      by : (o u : Option Root) → root_named r.after.pictured.picture.names name ≡ o → root_named r.before.pictured.picture.names name ≡ u
          → is_some (root_named r.after.pictured.picture.names name) ≡ is_some (root_named r.before.pictured.picture.names name) → o ≡ u
      by None None f g s = refl
      by None (Some c) f g s = absurd (let k : false ≡ true = sym (ap (λ (o : Option Root). is_some o) f) ∙ s ∙ ap (λ (o : Option Root). is_some o) g in cc)
      by (Some d) None f g s = absurd (let k : true ≡ false = sym (ap (λ (o : Option Root). is_some o) f) ∙ s ∙ ap (λ (o : Option Root). is_some o) g in cc)
      by (Some d) (Some c) f g s = ap (λ (z : Root). Some z) (faced_one x.image y.image p.picture q.picture p.held q.held tables kept c d (in_names p.picture c (looked_up name c p.picture.names g).0)
          (in_names q.picture d (looked_up name d q.picture.names f).0) (r.objects_stay.names name c d g f))

  pub names_same : changes_names i.operation ≡ false → r.after.pictured.picture.names ≡ r.before.pictured.picture.names
  names_same e = names_listed q.picture.names p.picture.names q.held.laid_out.names.ascending p.held.laid_out.names.ascending (λ name. same_named name (names_stay constants others moves i x y answer r e name))

  -- a unique object stays as it is
  pub same_unique : (T : ℕ) → is_some (root_of_type r.after.pictured.picture.uniques T) ≡ is_some (root_of_type r.before.pictured.picture.uniques T)
      → root_of_type r.after.pictured.picture.uniques T ≡ root_of_type r.before.pictured.picture.uniques T
  same_unique T as_before = by (root_of_type r.after.pictured.picture.uniques T) (root_of_type r.before.pictured.picture.uniques T) refl refl as_before
    where
      by : (o u : Option Root) → root_of_type r.after.pictured.picture.uniques T ≡ o → root_of_type r.before.pictured.picture.uniques T ≡ u
          → is_some (root_of_type r.after.pictured.picture.uniques T) ≡ is_some (root_of_type r.before.pictured.picture.uniques T) → o ≡ u
      by None None f g s = refl
      by None (Some c) f g s = absurd (let k : false ≡ true = sym (ap (λ (o : Option Root). is_some o) f) ∙ s ∙ ap (λ (o : Option Root). is_some o) g in cc)
      by (Some d) None f g s = absurd (let k : true ≡ false = sym (ap (λ (o : Option Root). is_some o) f) ∙ s ∙ ap (λ (o : Option Root). is_some o) g in cc)
      by (Some d) (Some c) f g s = ap (λ (z : Root). Some z) (faced_one x.image y.image p.picture q.picture p.held q.held tables kept c d (in_uniques p.picture c (of_type p.picture.uniques T c g))
          (in_uniques q.picture d (of_type q.picture.uniques T d f)) (r.objects_stay.uniques T c d g f))

  -- an object at the position of one that a register owned is that object
  pub owned_loose : {s : State} {bytes : List ℕ} (z : Pictures others s bytes) (a : Root) → IsAmong a z.owned → IsAmong a z.picture.loose
  owned_loose z a j = subst (IsAmong a) (sym z.loose) (among_right a others z.owned j)

  pub plain_loose : {s : State} {bytes : List ℕ} (z : Pictures others s bytes) (a : Root) → IsAmong a z.picture.loose → IsPlain a
  plain_loose z a j = each_among IsPlain a (z.picture.uniques ++ z.picture.loose) (among_right a z.picture.uniques z.picture.loose j) z.held.laid_out.plain

  pub owned_stays : (c d : Root) → IsAmong c r.before.pictured.owned → IsAmong d r.after.pictured.owned → d.at ≡ c.at → d ≡ c
  owned_stays c d j k at = placed_one x.image y.image p.picture q.picture p.held q.held tables kept c d (in_loose p.picture c (owned_loose p c j)) (in_loose q.picture d (owned_loose q d k))
      (plain_loose p c (owned_loose p c j)) (plain_loose q d (owned_loose q d k)) at

  pub owned_same : places_of r.after.pictured.owned ≡ places_of r.before.pictured.owned → r.after.pictured.owned ≡ r.before.pictured.owned
  owned_same at = pairs p.owned q.owned at (λ c j. j) (λ d j. j)
    where
      pairs : (cs ds : List Root) → places_of ds ≡ places_of cs → ((c : Root) → IsAmong c cs → IsAmong c r.before.pictured.owned) → ((d : Root) → IsAmong d ds → IsAmong d r.after.pictured.owned) → ds ≡ cs
      pairs [] [] e f g = refl
      pairs [] (d ∷ ds) e f g = cc
      pairs (c ∷ cs) [] e f g = cc
      pairs (c ∷ cs) (d ∷ ds) e f g =
          let one = owned_stays c d (f c (inl refl)) (g d (inl refl)) (let at_is : d.at ≡ c.at = cc in at_is) in
          let rest = pairs cs ds (let more : places_of ds ≡ places_of cs = cc in more) (λ b j. f b (inr j)) (λ b j. g b (inr j)) in
          λ j. one j ∷ rest j
