-- Places that are alike in two images have the same values in the same blocks, and paths from them
-- reach the same places. The cells there have the same counts and buffers.
use Rattle.std.proofs.Common.{◌≡◌, ℕ, zero, suc, ◌*◌, ◌≤◌, List, [], ◌∷◌, Option, Some, None, option_to_list, option_map, MatchOption, refl, sym, ap, ◌∙◌, subst, arith}
use Rattle.std.specs.Prelude.{⊤, true, slice_get}
use Rattle.seg_spec.specs.Pointer.{target}
use Rattle.seg_spec.specs.Types.{Form, Table, form_at}
use Rattle.seg_spec.specs.Value.{Value, Values, Selector}
use Rattle.seg_spec.specs.Block.{IsBlock, block_of, has_buffer}
use Rattle.seg_spec.specs.Reads.{Place, Opened, Opens, Holds, holds, HoldsEach, holds_none, holds_more, Leads, here, into, count_at, named, NamesRoom}
use Rattle.seg_spec.proofs.Values.OneValueLaws.{Opens-one}
use Rattle.test_definitions.specs.Alike.{has_count, AlikeAt, opens_alike, AlikeEach, none_alike, more_alike}

module _ (first second : List ℕ) (table : Table) where
  -- how the place opens in both images
  pub record OpenAlike (place : Place) (form : Form) (opened : Opened) : Type 0 where
    pub opens : Opens second table place form opened
    pub counts : has_count form ≡ true → count_at second place.at ≡ count_at first place.at
    pub parts : AlikeEach first second table opened.parts

  pub open_alike : {place : Place} (form : Form) (opened : Opened) → form_at table place.type ≡ Some form → Opens first table place form opened → AlikeAt first second table place → OpenAlike place form opened
  open_alike {place = place} form opened f o (opens_alike form' opened' f' o' p n each) =
      let forms : form' ≡ form = cc in
      let same : opened' ≡ opened = Opens-one first table place form opened' opened (subst (λ (k : Form). Opens first table place k opened') forms o') o in
      record {
        opens = subst (λ (q : Opened). Opens second table place form q) same (subst (λ (k : Form). Opens second table place k opened') forms p);
        counts = subst (λ (k : Form). has_count k ≡ true → count_at second place.at ≡ count_at first place.at) forms n;
        parts = subst (λ (q : Opened). AlikeEach first second table q.parts) same each;
      }

  mutual
    -- the same value in the same blocks
    pub holds_alike : {place : Place} {v : Value} {blocks : List ℕ} → Holds first table place v blocks → AlikeAt first second table place → Holds second table place v blocks
    holds_alike (holds form opened inside owned f o hs v_is blocks_are) a =
        let both = open_alike form opened f o a in
        holds form opened inside owned f both.opens (each_alike hs both.parts) v_is blocks_are

    pub each_alike : {places : List Place} {vs : Values} {blocks : List ℕ} → HoldsEach first table places vs blocks → AlikeEach first second table places → HoldsEach second table places vs blocks
    each_alike holds_none a = holds_none
    each_alike (holds_more h hs) (more_alike a rest) = holds_more (holds_alike h a) (each_alike hs rest)

  pub nth_alike : (places : List Place) (i : ℕ) (part : Place) → AlikeEach first second table places → slice_get places i ≡ Some part → AlikeAt first second table part
  nth_alike [] i part a e = cc
  nth_alike (p ∷ ps) zero part (more_alike a rest) e = (let same : p ≡ part = cc in subst (AlikeAt first second table) same a)
  nth_alike (p ∷ ps) (suc i) part (more_alike a rest) e = nth_alike ps i part rest e

  -- the same path reaches the same place, which is alike
  pub leads_alike : {place target : Place} {path : List Selector} → Leads first table place path target → AlikeAt first second table place → Leads second table place path target × AlikeAt first second table target
  leads_alike here a = (here, a)
  leads_alike (into form opened i part f o at_is part_is l) a =
      let both = open_alike form opened f o a in
      let rest = leads_alike l (nth_alike opened.parts i part both.parts part_is) in
      (into form opened i part f both.opens at_is part_is rest.0, rest.1)

-- an image is like itself
module _ (bytes : List ℕ) (table : Table) where
  mutual
    pub alike_itself : {place : Place} {v : Value} {blocks : List ℕ} → Holds bytes table place v blocks → AlikeAt bytes bytes table place
    alike_itself {place = place} (holds form opened inside owned f o hs v_is blocks_are) = opens_alike form opened f o o (λ e. refl) (each_itself hs)

    pub each_itself : {places : List Place} {vs : Values} {blocks : List ℕ} → HoldsEach bytes table places vs blocks → AlikeEach bytes bytes table places
    each_itself holds_none = none_alike
    each_itself (holds_more h hs) = more_alike (alike_itself h) (each_itself hs)

-- ---- buffers

-- a cell with a buffer has a count
pub buffer_counts : (form : Form) → has_buffer (Some form) ≡ true → has_count form ≡ true
buffer_counts Form.i64 e = cc
buffer_counts (Form.struct fields) e = cc
buffer_counts form e = refl

-- the blocks of two pointers are the same only if the pointers are
one_target : (s t : Option ℕ) → MatchOption s (⊤) (λ p. 16 ≤ p) → MatchOption t (⊤) (λ p. 16 ≤ p) → option_to_list (option_map block_of s) ≡ option_to_list (option_map block_of t) → s ≡ t
one_target None None a b e = refl
one_target None (Some q) a b e = cc
one_target (Some p) None a b e = cc
one_target (Some p) (Some q) a b e = (let blocks : block_of p ≡ block_of q = cc in let same : p ≡ q = omega (arith, a, b, blocks) in ap (λ n. Some n) same)

room_above : (bytes : List ℕ) (at kind each : ℕ) → NamesRoom bytes at kind each → MatchOption (target bytes at) (⊤) (λ p. 16 ≤ p)
room_above bytes at kind each = go (target bytes at)
  where
    go : (t : Option ℕ) → MatchOption t (count_at bytes at ≡ 0) (λ p. IsBlock bytes p kind (count_at bytes at * each)) → MatchOption t (⊤) (λ p. 16 ≤ p)
    go None r = tt
    go (Some p) r = r.after_header

-- the pointer and the count of a cell with a buffer
pub record SameCell (first second : List ℕ) (at : ℕ) : Type 0 where
  pub pointer : target second at ≡ target first at
  pub count : count_at second at ≡ count_at first at

pub buffer_blocks : (bytes : List ℕ) (table : Table) (place : Place) (opened : Opened) (form : Form) → has_buffer (Some form) ≡ true → Opens bytes table place form opened → opened.blocks ≡ named bytes place.at
buffer_blocks bytes table place opened Form.str h o = ap (λ (x : Opened). x.blocks) o.opened_is
buffer_blocks bytes table place opened (Form.vec U) h o = ap (λ (x : Opened). x.blocks) o.opened_is
buffer_blocks bytes table place opened (Form.flat_map U) h o = ap (λ (x : Opened). x.blocks) o.opened_is
buffer_blocks bytes table place opened form h o = cc

pub same_pointer : (first second : List ℕ) (at kind each kind' each' : ℕ) → NamesRoom first at kind each → NamesRoom second at kind' each' → named second at ≡ named first at
    → count_at second at ≡ count_at first at → SameCell first second at
same_pointer first second at kind each kind' each' a b blocks n = record { pointer = one_target (target second at) (target first at) (room_above second at kind' each' b) (room_above first at kind each a) blocks; count = n }

module _ (first second : List ℕ) (table : Table) (place : Place) (opened : Opened) where
  abbrev Two : Form → Type 0
  Two form = Opens first table place form opened × Opens second table place form opened × (count_at second place.at ≡ count_at first place.at)

  pub buffer_cell : (form : Form) → has_buffer (Some form) ≡ true → Two form → SameCell first second place.at
  buffer_cell Form.str h o = same_pointer first second place.at _ _ _ _ o.0.named_room o.1.named_room (sym (buffer_blocks second table place opened Form.str refl o.1) ∙ buffer_blocks first table place opened Form.str refl o.0) o.2
  buffer_cell (Form.vec U) h o =
      same_pointer first second place.at _ _ _ _ o.0.named_room o.1.named_room
      (sym (buffer_blocks second table place opened (Form.vec U) refl o.1) ∙ buffer_blocks first table place opened (Form.vec U) refl o.0) o.2
  buffer_cell (Form.flat_map U) h o =
      same_pointer first second place.at _ _ _ _ o.0.named_room o.1.named_room
      (sym (buffer_blocks second table place opened (Form.flat_map U) refl o.1) ∙ buffer_blocks first table place opened (Form.flat_map U) refl o.0) o.2
  buffer_cell form h o = cc
