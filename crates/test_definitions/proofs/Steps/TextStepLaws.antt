-- Two situations that clients can't tell apart stay so after SETS, ADDS and ADDB.
use Rattle.std.proofs.Common.{◌≡◌, ◌≢◌, ℕ, ◌+◌, ◌-◌, ◌*◌, ◌≤◌, ◌⊎◌, inl, inr, Bool, true, false, List, [], ◌∷◌, ◌++◌, length, Option, Some, None, option_map, option_to_list, refl, sym, ap, ◌∙◌, subst, arith}
use Rattle.std.specs.Prelude.{if◌then◌else◌, ◌==◌, nat_le, option_and_then}
use Rattle.std.specs.Option.{option_map_or, option_or}
use Rattle.std.specs.List.{AllByRecursion}
use Rattle.std.proofs.lemmas.Bool.{cases_eq}
use Rattle.std.proofs.lemmas.Bool.Decides.{nat_tests}
use Rattle.seg_spec.specs.Bytes.{word}
use Rattle.seg_spec.specs.Header.{allocator_word}
use Rattle.seg_spec.specs.Pointer.{target}
use Rattle.seg_spec.specs.Types.{Form, Table, form_at}
use Rattle.seg_spec.specs.Value.{Value}
use Rattle.seg_spec.specs.Heap.{Span, live, without, with_block, resized, expanded, room_at, gaps_of, pick, granted, Granted, same, fresh, after_take, after_expand, after_request_at, after_request}
use Rattle.seg_spec.specs.Block.{block_of}
use Rattle.seg_spec.specs.Reads.{Place, Opened, Holds, count_at, named}
use Rattle.seg_spec.specs.Index.{Root}
use Rattle.seg_spec.specs.Sound.{times, positions}
use Rattle.seg_spec.specs.Shared.{IsBelow, replaced}
use Rattle.seg_spec.specs.Demand.{Ask, growth, growth_if_needed, after_ask, blocks_then, after_asks, after_gives}
use Rattle.seg_spec.specs.Spending.{units_named, buffer_asks, old_of}
use Rattle.seg_spec.specs.Spending as spending
use Rattle.seg_spec.specs.Demand as demand
use Rattle.seg_spec.proofs.Heap.LiveBlockLaws.{times-same, times-other, times-more, times-with_block, positions-resized}
use Rattle.client_spec.specs.declared.table.Operation.{Operation}
use Rattle.client_spec.specs.Syntax.{Constant, Instruction}
use Rattle.client_spec.specs.Machine.{State}
use Rattle.client_spec.specs.Answer.{Answer, success}
use Rattle.client_spec.specs.Pictures.{Pictures}
use Rattle.client_spec.specs.Asks.{LedTo, AsksBy, AsksAt, cell_asks, new_bytes, ReturnsBy, ChangesOnSuccess, ChangesBlocks, GrantsAsks}
use Rattle.client_spec.specs.Ties.{OfPlace, TouchesBy, keeps_image, places_of}
use Rattle.client_spec.specs.OnImages.{Move, Situation, RowOn}
use Rattle.client_spec.proofs.Unfolded.UnfoldedValueLaws.{nothing_replaced}
use Rattle.test_definitions.specs.Alike.{AlikeAt, StandAlike, StaysAlike}
use Rattle.test_definitions.proofs.Rows.KeptRowLaws.{one, unchanged_alike}
use Rattle.test_definitions.proofs.Rows.OnePlaceLaws.{RefersTo, led_one}
use Rattle.test_definitions.proofs.Rows.OneRow.{itself}
use Rattle.test_definitions.proofs.Rows.OwningRegisterLaws.{moves_owners, changes_names, changes_uniques}
use Rattle.test_definitions.proofs.Rows.PathOriginLaws.{at_place}
use Rattle.test_definitions.proofs.ValueChanges.PersistAlikeLaws.{Fits}
use Rattle.test_definitions.proofs.Rows.PlaceRowLaws.{refers_to, text_there}
use Rattle.test_definitions.proofs.Steps.PlaceStepLaws.{Touched}
use Rattle.test_definitions.proofs.Steps.PlaceTwoStepLaws.{Side, ChangesWithin, PlaceSteps, mine, theirs, within_whole, place_step}
use Rattle.test_definitions.proofs.Steps.StoreStepLaws.{leaf_held, leaf_alike}

-- ---- blocks that stay allocated

-- blocks that are allocated before are allocated after
abbrev pub StayIn : List Span → List Span → Type 0
StayIn bs cs = (h : ℕ) → 1 ≤ times h (positions bs) → 1 ≤ times h (positions cs)

pub kept_without : (at h : ℕ) → at ≢ h → (bs : List Span) → 1 ≤ times h (positions bs) → 1 ≤ times h (positions (without at bs))
kept_without at h other [] l = l
kept_without at h other (b ∷ bs) l = go (kept_without at h other bs) (b.at == at) refl
  where
    go : (1 ≤ times h (positions bs) → 1 ≤ times h (positions (without at bs))) → (t : Bool) → (b.at == at) ≡ t → 1 ≤ times h (positions (if t then bs else b ∷ without at bs))
    go later true e = (let same : b.at ≡ at = grind (arith, nat_tests) in omega (arith, l, times-other h b.at (positions bs) (λ f. other (sym same ∙ f))))
    go later false e = first later (cases_eq b.at h)
      where
        first : (1 ≤ times h (positions bs) → 1 ≤ times h (positions (without at bs))) → (b.at ≡ h) ⊎ (b.at ≢ h) → 1 ≤ times h (positions (b ∷ without at bs))
        first later (inl f) = subst (λ k. 1 ≤ times k (b.at ∷ positions (without at bs))) f (omega (arith, times-same b.at (positions (without at bs))))
        first later (inr f) = omega (arith, later (omega (arith, l, times-other h b.at (positions bs) f)), times-more h b.at (positions (without at bs)))

or_some : {A : Type 0} (o p : Option A) (x : A) → option_or o p ≡ Some x → (o ≡ Some x) ⊎ (p ≡ Some x)
or_some None p x e = inr e
or_some (Some y) p x e = inl e

-- the blocks after a request: those before it, and a new one if it got one
abbrev pub Grants : List Span → Granted → Type 0
Grants bs (same cs) = positions cs ≡ positions bs
Grants bs (fresh at cs) = (h : ℕ) → times h (positions cs) ≡ times h (at ∷ positions bs)

grants_stay : (bs : List Span) (r : Granted) → Grants bs r → StayIn bs (blocks_then r)
grants_stay bs (same cs) g h some = subst (λ ps. 1 ≤ times h ps) (sym g) some
grants_stay bs (fresh at cs) g h some = omega (arith, some, g h, times-more h at (positions bs))

module _ (allocator : ℕ) (bs : List Span) (end : ℕ) where
  by_expand : (at x u : ℕ) (r : Granted) → option_map same (after_expand bs end at x u) ≡ Some r → Grants bs r
  by_expand at x u r e = go (expanded x (room_at (gaps_of bs end) (at + 16 * x)) u) e
    where
      go : (o : Option ℕ) → option_map same (option_map (λ n. resized at n bs) o) ≡ Some r → Grants bs r
      go None e = cc
      go (Some n) e = subst (Grants bs) (let f : same (resized at n bs) ≡ r = cc in f) (positions-resized at n bs)

  by_take : (u : ℕ) (r : Granted) → option_map (λ (t : ℕ × List Span). fresh t.0 t.1) (after_take allocator bs end u) ≡ Some r → Grants bs r
  by_take u r e = go (pick allocator (gaps_of bs end) u) e
    where
      go : (o : Option Span) → option_map (λ (t : ℕ × List Span). fresh t.0 t.1) (option_map (λ (g : Span). (g.at, with_block (record { at = g.at; units = granted g.units u }) bs)) o) ≡ Some r → Grants bs r
      go None e = cc
      go (Some g) e =
          let b : Span = record { at = g.at; units = granted g.units u } in
          subst (Grants bs) (let f : fresh g.at (with_block b bs) ≡ r = cc in f) (λ h. times-with_block h b bs)

  by_request_at : (at x preferred limit : ℕ) (r : Granted) → after_request_at allocator bs end at x preferred limit ≡ Some r → Grants bs r
  by_request_at at x preferred limit r e = elim (or_some _ _ r e) [
    | inl f ↦ by_expand at x preferred r f
    | inr g ↦ elim (or_some _ _ r g) [
      | inl f ↦ by_take preferred r f
      | inr k ↦ elim (or_some _ _ r k) [
        | inl f ↦ by_expand at x limit r f
        | inr f ↦ by_take limit r f
      ]
    ]
  ]

  by_request : (preferred limit : ℕ) (r : Granted) → after_request allocator bs end preferred limit ≡ Some r → Grants bs r
  by_request preferred limit r e = go (or_some (after_take allocator bs end preferred) (after_take allocator bs end limit))
    where
      go : ((x : ℕ × List Span) → option_or (after_take allocator bs end preferred) (after_take allocator bs end limit) ≡ Some x → (after_take allocator bs end preferred ≡ Some x) ⊎ (after_take allocator bs end limit ≡ Some x))
          → Grants bs r
      go split = by (option_or (after_take allocator bs end preferred) (after_take allocator bs end limit)) refl e
        where
          by : (o : Option (ℕ × List Span)) → option_or (after_take allocator bs end preferred) (after_take allocator bs end limit) ≡ o → option_map (λ (t : ℕ × List Span). fresh t.0 t.1) o ≡ Some r → Grants bs r
          by None f e = cc
          by (Some x) f e = elim (split x f) [
            | inl k ↦ by_take preferred r (ap (option_map (λ (t : ℕ × List Span). fresh t.0 t.1)) k ∙ e)
            | inr k ↦ by_take limit r (ap (option_map (λ (t : ℕ × List Span). fresh t.0 t.1)) k ∙ e)
          ]

  pub by_ask : (old : Option ℕ) (ask : Ask) → ask.old ≡ old → (r : Granted) → after_ask allocator bs end ask ≡ Some r → Grants bs r
  by_ask None ask is r e = by_request ask.preferred ask.limit r (ap (λ o. demand.after_request_of allocator bs end o ask.preferred ask.limit) (sym is) ∙ e)
  by_ask (Some at) ask is r e = by_request_at at (room_at bs at) ask.preferred ask.limit r (ap (λ o. demand.after_request_of allocator bs end o ask.preferred ask.limit) (sym is) ∙ e)

  -- after the request for a buffer, all blocks but the old buffer are allocated
  pub grown_keeps : (units : ℕ) (old : Option ℕ) (item count wanted : ℕ) (asks : List Ask) (blocks new : List Span) → asks ≡ growth_if_needed units old item count wanted → after_asks allocator bs end asks ≡ Some blocks
      → new ≡ after_gives blocks (spending.replaced allocator bs end asks ++ []) → (h : ℕ) → 1 ≤ times h (positions bs) → times h (option_to_list old) ≡ 0 → 1 ≤ times h (positions new)
  grown_keeps units old item count wanted asks blocks new is done left h some none =
      go (nat_le (wanted * item) (16 * units - 16)) (subst (λ zs. after_asks allocator bs end zs ≡ Some blocks) is done) (left ∙ ap (λ zs. after_gives blocks (spending.replaced allocator bs end zs ++ [])) is)
    where
      ask : Ask
      ask = growth old item count wanted

      go : (t : Bool) → after_asks allocator bs end (if t then [] else growth old item count wanted ∷ []) ≡ Some blocks
          → new ≡ after_gives blocks (spending.replaced allocator bs end (if t then [] else growth old item count wanted ∷ []) ++ []) → 1 ≤ times h (positions new)
      go true done left = (let same_bs : bs ≡ blocks = cc in subst (λ cs. 1 ≤ times h (positions cs)) (sym (left ∙ sym same_bs)) some)
      go false done left = by (after_ask allocator bs end (growth old item count wanted)) refl done left
        where
          by : (o : Option Granted) → after_ask allocator bs end (growth old item count wanted) ≡ o → option_and_then (λ g. after_asks allocator (blocks_then g) end []) o ≡ Some blocks
              → new ≡ after_gives blocks (option_map_or (λ g. old_of g (growth old item count wanted) ++ spending.replaced allocator (blocks_then g) end []) o [] ++ []) → 1 ≤ times h (positions new)
          by None f done left = cc
          by (Some g) f done left =
              let is : blocks_then g ≡ blocks = (let e : Some (blocks_then g) ≡ Some blocks = done in cc) in
              let there_is = subst (λ cs. 1 ≤ times h (positions cs)) is (grants_stay bs g (by_ask old (growth old item count wanted) refl g f) h some) in
              given g old left there_is none
            where
              given : (g : Granted) (old : Option ℕ) → new ≡ after_gives blocks ((old_of g (growth old item count wanted) ++ []) ++ []) → 1 ≤ times h (positions blocks) → times h (option_to_list old) ≡ 0 → 1 ≤ times h (positions new)
              given (same cs) old left there_is none = subst (λ cs. 1 ≤ times h (positions cs)) (sym left) there_is
              given (fresh a cs) None left there_is none = subst (λ cs. 1 ≤ times h (positions cs)) (sym left) there_is
              given (fresh a cs) (Some at) left there_is none =
                  subst (λ cs. 1 ≤ times h (positions cs)) (sym left) (kept_without at h (λ e. absurd (omega (arith, ap (λ k. times k (at ∷ [])) e, times-same at [], none))) blocks there_is)

-- ---- SETS, ADDS and ADDB

abbrev pub WritesText : Operation → Type 0
WritesText o = (o ≡ Operation.SetStr) ⊎ (o ≡ Operation.AddStr) ⊎ (o ≡ Operation.AddByte)

-- what follows for each of the three
by_three : (P : Operation → Type 0) (o : Operation) → WritesText o → P Operation.SetStr → P Operation.AddStr → P Operation.AddByte → P o
by_three P o (inl e) a b c = subst P (sym e) a
by_three P o (inr (inl e)) a b c = subst P (sym e) b
by_three P o (inr (inr e)) a b c = subst P (sym e) c

-- two lists of at most one block are the same if they have the same members
pub members_one : (s t : Option ℕ) → ((h : ℕ) → 1 ≤ times h (option_to_list (option_map block_of s)) → 1 ≤ times h (option_to_list (option_map block_of t)))
    → ((h : ℕ) → 1 ≤ times h (option_to_list (option_map block_of t)) → 1 ≤ times h (option_to_list (option_map block_of s))) → option_to_list (option_map block_of s) ≡ option_to_list (option_map block_of t)
members_one None None f g = refl
members_one None (Some q) f g = absurd (omega (arith, g (block_of q) (omega (arith, times-same (block_of q) []))))
members_one (Some p) None f g = absurd (omega (arith, f (block_of p) (omega (arith, times-same (block_of p) []))))
members_one (Some p) (Some q) f g = go (cases_eq (block_of q) (block_of p))
  where
    go : (block_of q ≡ block_of p) ⊎ (block_of q ≢ block_of p) → block_of p ∷ [] ≡ block_of q ∷ []
    go (inl e) = ap (λ n. n ∷ []) (sym e)
    go (inr other) = absurd (omega (arith, f (block_of p) (omega (arith, times-same (block_of p) [])), times-other (block_of p) (block_of q) [] other))

-- texts that clients see as the same, in the same block, are alike again
pub text_again : (new another : List ℕ) (table : Table) (place : Place) → form_at table place.type ≡ Some Form.str → {a b : Value} {xs ys : List ℕ} → Holds new table place a xs → AllByRecursion (Fits new) xs → Holds another table place b ys
    → AllByRecursion (Fits another) ys → (m n : ℕ → Value) → replaced m a ≡ replaced n b → ((h : ℕ) → 1 ≤ times h xs → 1 ≤ times h ys) → ((h : ℕ) → 1 ≤ times h ys → 1 ≤ times h xs) → AlikeAt new another table place
text_again new another table place f {a} {b} {xs} {ys} h fits k fits_too m n seen forth back =
    let mine_held = leaf_held new table place Form.str tt f h in
    let their_held = leaf_held another table place Form.str tt f k in
    let values : a ≡ b = sym (nothing_replaced m a mine_held.no_cells) ∙ seen ∙ nothing_replaced n b their_held.no_cells in
    let mine_blocks : xs ≡ named new place.at = mine_held.blocks_are ∙ ap (λ (o : Opened). o.blocks) mine_held.opens.opened_is in
    let their_blocks : ys ≡ named another place.at = their_held.blocks_are ∙ ap (λ (o : Opened). o.blocks) their_held.opens.opened_is in
    let blocks = members_one (target new place.at) (target another place.at)
    (λ e some. subst (λ bs. 1 ≤ times e bs) their_blocks (forth e (subst (λ bs. 1 ≤ times e bs) (sym mine_blocks) some)))
    (λ e some. subst (λ bs. 1 ≤ times e bs) mine_blocks (back e (subst (λ bs. 1 ≤ times e bs) (sym their_blocks) some))) in
    leaf_alike new another table place Form.str f mine_held their_held values (mine_blocks ∙ blocks ∙ sym their_blocks) fits fits_too

-- the request for the text's buffer
record TextAsks (bytes : List ℕ) (at : ℕ) (asks : List Ask) : Type 0 where
  wanted : ℕ
  asks_are : asks ≡ growth_if_needed (units_named bytes at) (option_map block_of (target bytes at)) 1 (count_at bytes at) wanted

text_asks : (constants : List Constant) (i : Instruction) (s : State) (bytes : List ℕ) (at : ℕ) (asks : List Ask) (o : Operation) → WritesText o → asks ≡ cell_asks o constants i s bytes at Form.str → TextAsks bytes at asks
text_asks constants i s bytes at asks o which e = by_three (λ k. asks ≡ cell_asks k constants i s bytes at Form.str → TextAsks bytes at asks) o which
    (λ e. record { wanted = new_bytes constants i; asks_are = e })
    (λ e. record { wanted = count_at bytes at + new_bytes constants i; asks_are = e })
    (λ e. record { wanted = count_at bytes at + 1; asks_are = e }) e

-- all blocks but the text's buffer stay allocated
text_lives : (constants : List Constant) (i : Instruction) {others : List Root} {s : State} {bytes : List ℕ} (p : Pictures others s bytes) (new : List ℕ) → WritesText i.operation → RefersTo s i.b → ChangesBlocks constants i p success new
    → (place : Place) → LedTo constants i p place Form.str → (h : ℕ) → 1 ≤ times h (positions (live bytes)) → times h (named bytes place.at) ≡ 0 → 1 ≤ times h (positions (live new))
text_lives constants i {others = others} {s = s} {bytes = bytes} p new which found c place l h some none =
    let g : GrantsAsks constants i p new = by_three (λ o. ChangesOnSuccess constants i p o new → GrantsAsks constants i p new) i.operation which (λ x. x) (λ x. x) (λ x. x) c in
    let asked : AsksAt constants i p g.asks = by_three (λ o. AsksBy constants i p o g.asks → AsksAt constants i p g.asks) i.operation which (λ x. x) (λ x. x) (λ x. x) g.asked in
    let gives : g.gives ≡ [] = by_three (λ o. ReturnsBy constants i p o g.gives → g.gives ≡ []) i.operation which (λ x. x) (λ x. x) (λ x. x) g.returned in
    let one_place = led_one constants i (itself others (places_of p.owned) bytes p refl) p p refl refl found place asked.0 Form.str asked.1 l asked.2 in
    let asks : g.asks ≡ cell_asks i.operation constants i s bytes place.at Form.str = asked.3 ∙ (λ j. cell_asks i.operation constants i s bytes (sym one_place.0 j).at (sym one_place.1 j)) in
    let t = text_asks constants i s bytes place.at g.asks i.operation which asks in
    grown_keeps (word bytes allocator_word) (live bytes) (length bytes) (units_named bytes place.at) (option_map block_of (target bytes place.at)) 1 (count_at bytes place.at) t.wanted g.asks g.blocks (live new) t.asks_are g.granted
    (g.left ∙ ap (λ zs. after_gives g.blocks (spending.replaced (word bytes allocator_word) (live bytes) (length bytes) g.asks ++ zs)) gives) h some none

module _ (constants : List Constant) (others : List Root) (moves : List Move) (i : Instruction) (which : WritesText i.operation) (x z y w : Situation) where
  no_names : changes_names i.operation ≡ false
  no_names = by_three (λ o. changes_names o ≡ false) i.operation which refl refl refl

  no_uniques : changes_uniques i.operation ≡ false
  no_uniques = by_three (λ o. changes_uniques o ≡ false) i.operation which refl refl refl

  written : (second : Answer) (stand : StandAlike others x z) (r : RowOn constants others moves i x success y) (q : RowOn constants others moves i z second w) → StaysAlike others success second y w
  written second stand r q =
      place_step constants others moves i no_names no_uniques x z y w success second stand r q keeps found false
      (λ s bytes p spot own t. by_three (λ o. TouchesBy constants i p o spot own → OfPlace constants i p spot own) i.operation which (λ k. k) (λ k. k) (λ k. k) t) steps
    where
      keeps : moves_owners i.operation success ≡ false
      keeps = by_three (λ o. moves_owners o success ≡ false) i.operation which refl refl refl

      places : at_place i.operation ≡ true
      places = by_three (λ o. at_place o ≡ true) i.operation which refl refl refl

      found : RefersTo r.before.plain i.b
      found = refers_to constants i x.state x.image r.before success y.state r.row places

      side : Side constants others i x.owned x.image y.image success r.after.pictured r.before.plain
      side = mine constants others moves i no_names no_uniques x z y w success second stand r q keeps found

      other : Side constants others i x.owned z.image w.image second q.after.pictured r.before.plain
      other = theirs constants others moves i no_names no_uniques x z y w success second stand r q keeps found

      within_place : {bytes new : List ℕ} (p : Pictures others r.before.plain bytes) (place : Place) (its : List ℕ) {value : Value} → form_at p.picture.table place.type ≡ Some Form.str → Holds bytes p.picture.table place value its
          → LedTo constants i p place Form.str → ChangesBlocks constants i p success new → ChangesWithin p new place its
      within_place {bytes = bytes} {new = new} p place its f h l c =
          let held = leaf_held bytes p.picture.table place Form.str tt f h in
          let blocks : its ≡ named bytes place.at = held.blocks_are ∙ ap (λ (o : Opened). o.blocks) held.opens.opened_is in
          record {
            cells = λ w news k. subst (AllByRecursion (IsBelow _ p.picture.frozen)) (sym (leaf_held new p.picture.table place Form.str tt f k).no_cells) tt;
            lives = λ k some none. text_lives constants i p new which found c place l k some (ap (times k) (sym blocks) ∙ none);
          }

      steps : (place : Place) (form : Form) (its : List ℕ) (t : Touched constants i false side.before y.image place form its) (u : Touched constants i false other.before w.image place form its)
          → PlaceSteps constants others moves i no_names no_uniques x z y w success second stand r q keeps found place form its t u
      steps place form its t u =
          let text : form ≡ Form.str = text_there constants i x.state x.image r.before success y.state r.row which place form t.led_to in
          let f : form_at side.before.picture.table place.type ≡ Some Form.str = ap (λ (k : Table). form_at k place.type) side.before.types ∙ t.led_to.form_is ∙ ap Some text in
          let g : form_at other.before.picture.table place.type ≡ Some Form.str = ap (λ (k : Table). form_at k place.type) other.before.types ∙ u.led_to.form_is ∙ ap Some text in
          let theirs_success : ChangesBlocks constants i other.before success w.image = subst (λ a. ChangesBlocks constants i other.before a w.image) (sym (one constants others moves i x z y w success second stand r q).0) other.blocks in
          record {
            within_first = within_whole constants others moves i no_names no_uniques x z y w success second stand r q keeps found side place form its t
                (within_place side.before place its f t.holds_it (subst (LedTo constants i side.before place) text t.led_to) side.blocks);
            within_second = within_whole constants others moves i no_names no_uniques x z y w success second stand r q keeps found other place form its u
                (within_place other.before place its g u.holds_it (subst (LedTo constants i other.before place) text u.led_to) theirs_success);
            inner = λ a b xs ys h fits k fits_too m n same forth back once once_too. text_again y.image w.image side.before.picture.table place f h fits k fits_too m n same forth back;
          }

  pub text_alike : (first second : Answer) → StandAlike others x z → RowOn constants others moves i x first y → RowOn constants others moves i z second w → StaysAlike others first second y w
  text_alike success second stand r q = written second stand r q
  text_alike first second stand r q = unchanged_alike constants others moves i x z y w first second stand r q (by_three (λ o. keeps_image o first ≡ true) i.operation which refl refl refl)
