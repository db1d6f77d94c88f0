-- Cells whose blocks were claimed, or can't be claimed.
use Rattle.std.proofs.Common.{◌≡◌, ℕ, zero, suc, ◌+◌, ◌*◌, ◌%◌, ◌^◌, ◌<◌, ◌≤◌, List, [], ◌∷◌, ◌++◌, length, map, Bool, true, false, cond, Some, None, unwrap_or, MatchOption, refl, sym, ap, ◌∙◌, subst, arith}
use Rattle.std.proofs.lemmas.List.{append-nil}
use Rattle.std.specs.Prelude.{option_to_list}
use Rattle.std.specs.Option.{option_map}
use Rattle.std.specs.List.{AllByRecursion}
use Rattle.seg_spec.specs.Pointer.{target}
use Rattle.seg_spec.specs.Types.{Form, Table, form_at, size}
use Rattle.seg_spec.specs.Block.{Kind, kind_number, block_of, payload_end, IsBlock}
use Rattle.seg_spec.specs.Owing.{entries_at}
use Rattle.seg_spec.specs.Reads.{Place, Opened, Opens, NamesRoom, named, start, count_at, spaced, places_of}
use Rattle.seg_spec.specs.Sound.{times}
use Rattle.seg_spec.proofs.Heap.LiveBlockLaws.{times-same}
use Rattle.seg_layout.specs.Forms.{has_cells}
use Rattle.seg_check.specs.Claiming.{HaveLiveHeaders, CanClaim, ClaimsBlock, turns_where}
use Rattle.seg_check.specs.Marks.{Known, ClaimsAll, Within}
use Rattle.seg_check.specs.Turns.{LiesAt, IsReachedBlock, by_cell, AreLow, EndsBy, AreKnown, AreTurns, AreOthers, IsTurn, places_in, waiting, with_cells}
use Rattle.seg_check.specs.Resolving.{Advances, IsReady}
use Rattle.seg_check.proofs.Queue.ReadPlaceLaws.{own_names}
use Rattle.seg_check.proofs.Blocks.FrozenClaimLaws.{other_block}
use Rattle.seg_check.proofs.Queue.QueueStepLaws.{advance_open}

-- ---- entries

pub entries_low : (table : Table) (start before U n : ℕ) → start + n * (before + size table U) ≤ 2 ^ 30 → AreLow (entries_at table start before U n)
entries_low table start before U zero h = tt
entries_low table start before U (suc n) h =
    let parts : start + suc n * (before + size table U) ≡ (start + (before + size table U)) + n * (before + size table U) = omega arith in
    (omega arith, entries_low table (start + (before + size table U)) before U n (omega arith))

pub entries_end : (table : Table) (start before U n end : ℕ) → start + n * (before + size table U) ≤ end → AllByRecursion (EndsBy table end) (entries_at table start before U n)
entries_end table start before U zero end h = tt
entries_end table start before U (suc n) end h =
    let parts : start + suc n * (before + size table U) ≡ (start + (before + size table U)) + n * (before + size table U) = omega arith in
    (omega arith, entries_end table (start + (before + size table U)) before U n end (omega arith))

pub known_places : (table : Table) (U : ℕ) (ps : List ℕ) → U < length table → AreKnown table (places_of U ps)
known_places table U [] l = tt
known_places table U (p ∷ ps) l = (l, known_places table U ps l)

-- all places of one type have cells, or none has
pub one_type : (table : Table) (U : ℕ) (b : Bool) (ps : List ℕ) → has_cells (form_at table U) ≡ b → with_cells table (places_of U ps) ≡ cond b (places_of U ps) []
one_type table U true [] e = refl
one_type table U false [] e = refl
one_type table U true (p ∷ ps) e = ap (λ b. cond b (record { at = p; type = U } ∷ with_cells table (places_of U ps)) (with_cells table (places_of U ps))) e ∙ ap (λ qs. record { at = p; type = U } ∷ qs) (one_type table U true ps e)
one_type table U false (p ∷ ps) e = ap (λ b. cond b (record { at = p; type = U } ∷ with_cells table (places_of U ps)) (with_cells table (places_of U ps))) e ∙ one_type table U false ps e

module _ (bytes : List ℕ) where
  -- ---- the target of the cell

  pub named_some : (at p : ℕ) → target bytes at ≡ Some p → named bytes at ≡ block_of p ∷ []
  named_some at p e = ap (λ o. option_to_list (option_map block_of o)) e

  pub named_none : (at : ℕ) → target bytes at ≡ None → named bytes at ≡ []
  named_none at e = ap (λ o. option_to_list (option_map block_of o)) e

  pub start_some : (at p : ℕ) → target bytes at ≡ Some p → start bytes at ≡ p
  start_some at p e = ap (λ o. unwrap_or o 0) e

  pub names_room : (at kind each p : ℕ) → target bytes at ≡ Some p → IsBlock bytes p kind (count_at bytes at * each) → NamesRoom bytes at kind each
  names_room at kind each p e b = subst (λ o. MatchOption o (count_at bytes at ≡ 0) (λ q. IsBlock bytes q kind (count_at bytes at * each))) (sym e) b

  pub room_named : (at kind each p : ℕ) → target bytes at ≡ Some p → NamesRoom bytes at kind each → IsBlock bytes p kind (count_at bytes at * each)
  room_named at kind each p e b = subst (λ o. MatchOption o (count_at bytes at ≡ 0) (λ q. IsBlock bytes q kind (count_at bytes at * each))) e b

  pub no_room : (at kind each : ℕ) → target bytes at ≡ None → count_at bytes at ≡ 0 → NamesRoom bytes at kind each
  no_room at kind each e n = subst (λ o. MatchOption o (count_at bytes at ≡ 0) (λ q. IsBlock bytes q kind (count_at bytes at * each))) (sym e) n

  pub none_counted : (at kind each : ℕ) → target bytes at ≡ None → NamesRoom bytes at kind each → count_at bytes at ≡ 0
  none_counted at kind each e b = subst (λ o. MatchOption o (count_at bytes at ≡ 0) (λ q. IsBlock bytes q kind (count_at bytes at * each))) e b

  -- a cell can claim the block to which it points if the block has room and no owner
  pub can_claim : (known : Known) (at kind each p : ℕ) → target bytes at ≡ Some p → NamesRoom bytes at kind each → Within (named bytes at) known.unclaimed → CanClaim bytes known at kind (count_at bytes at * each)
  can_claim known at kind each p e room within =
      let some : times (block_of p) (named bytes at) ≡ times (block_of p) (block_of p ∷ []) = ap (times (block_of p)) (named_some at p e) in
      let one = times-same (block_of p) [] in
      let less = within (block_of p) in
      record { start = p; names = e; is_block = room_named at kind each p e room; unclaimed = omega arith }

-- ---- a block that was claimed

module _ (bytes : List ℕ) (table : Table) where
  pub ready_live : (known : Known) → IsReady bytes table known → HaveLiveHeaders bytes known.unclaimed
  ready_live known ready h some = (ready.blocks h some).0

  module _ (old new : Known) (ready : IsReady bytes table old) (at tag n before U p : ℕ) where
    -- the queue's entry for a claimed block with n values, each after `before` bytes
    claimed_turn : IsReachedBlock bytes table (block_of p) → ClaimsBlock bytes old new at tag (n * (before + size table U)) (turns_where (has_cells (form_at table U)) p n) p
        → places_in bytes table (record { start = p; count = n }) ≡ entries_at table p before U n → IsTurn bytes table (record { start = p; count = n })
    claimed_turn reached c places =
        let some : 1 ≤ times (block_of p) old.unclaimed = omega (arith, c.claims.claimed (block_of p), times-same (block_of p) new.unclaimed) in
        let block = ready.blocks (block_of p) some in
        let size = block.0.size in
        let inside = block.0.inside in
        let high = c.is_block.after_header in
        let room = c.is_block.room in
        let small = ready.small in
        let end = payload_end bytes (block_of p) in
        record {
          reached = reached;
          fits = subst (AllByRecursion (EndsBy table end)) (sym places) (entries_end table p before U n end (omega arith));
          low = subst AreLow (sym places) (entries_low table p before U n (omega arith));
          ownable = block.1;
        }

    pub claimed_turns : IsReachedBlock bytes table (block_of p) → (b : Bool) → has_cells (form_at table U) ≡ b → ClaimsBlock bytes old new at tag (n * (before + size table U)) (turns_where (has_cells (form_at table U)) p n) p
        → places_in bytes table (record { start = p; count = n }) ≡ entries_at table p before U n → AreTurns bytes table (turns_where b p n)
    claimed_turns reached true e c places = (claimed_turn reached c places, tt)
    claimed_turns reached false e c places = tt

    pub claimed_waiting : (b : Bool) → has_cells (form_at table U) ≡ b → places_in bytes table (record { start = p; count = n }) ≡ entries_at table p before U n
        → waiting bytes table (turns_where b p n) ≡ with_cells table (entries_at table p before U n)
    claimed_waiting true e places = append-nil (places_in bytes table (record { start = p; count = n })) ∙ places ∙ sym (one_type table U true (map (λ q. q + before) (spaced p (before + size table U) n)) e)
    claimed_waiting false e places = sym (one_type table U false (map (λ q. q + before) (spaced p (before + size table U) n)) e)

    -- the queue's entry for a claimed block isn't for a frozen object
    claimed_others : (b : Bool) → (tag % 256 ≡ kind_number Kind.frozen → ⊥) → IsBlock bytes p tag (n * (before + size table U)) → AreOthers bytes (turns_where b p n)
    claimed_others true differs b = (other_block bytes p tag (n * (before + size table U)) differs b, tt)
    claimed_others false differs b = tt

    pub advance_block : (T : ℕ) (form : Form) (opened : Opened) → LiesAt bytes table (record { at = at; type = T }) → form_at table T ≡ Some form → Opens bytes table (record { at = at; type = T }) form opened → own_names opened.label ≡ []
        → (tag % 256 ≡ kind_number Kind.frozen → ⊥) → opened.blocks ≡ named bytes at
        → opened.parts ≡ entries_at table p before U n → U < length table
        → ClaimsBlock bytes old new at tag (n * (before + size table U)) (turns_where (has_cells (form_at table U)) p n) p
        → places_in bytes table (record { start = p; count = n }) ≡ entries_at table p before U n → Advances bytes table old new (record { at = at; type = T } ∷ [])
    advance_block T form opened lies f o plain differs blocks parts known c places =
        let owned : times (block_of p) opened.blocks ≡ times (block_of p) (block_of p ∷ []) = ap (times (block_of p)) (blocks ∙ named_some bytes at p c.names) in
        let one = times-same (block_of p) [] in
        let reached : IsReachedBlock bytes table (block_of p) = by_cell opened lies f o (omega arith) in
        advance_open bytes table old new (record { at = at; type = T }) form opened (turns_where (has_cells (form_at table U)) p n) f o plain
        (subst (λ bs. ClaimsAll old new bs (turns_where (has_cells (form_at table U)) p n)) (sym (blocks ∙ named_some bytes at p c.names)) c.claims)
        (claimed_turns reached (has_cells (form_at table U)) refl c places)
        (claimed_others (has_cells (form_at table U)) differs c.is_block)
        (subst (AreKnown table) (sym parts) (known_places table U (map (λ q. q + before) (spaced p (before + size table U) n)) known))
        (claimed_waiting (has_cells (form_at table U)) refl places ∙ ap (with_cells table) (sym parts))

  -- ---- the cell's pointer is null

  pub advance_nothing : (known : Known) (place : Place) (form : Form) (opened : Opened) → form_at table place.type ≡ Some form → Opens bytes table place form opened → own_names opened.label ≡ [] → opened.blocks ≡ [] → opened.parts ≡ []
      → Advances bytes table known known (place ∷ [])
  advance_nothing known place form opened f o plain blocks parts =
      advance_open bytes table known known place form opened [] f o plain
      (record { claimed = (λ h. ap (λ bs. times h (bs ++ known.unclaimed)) (sym blocks)); allocated_kept = (λ h. refl); counted = (λ c. c); turns_are = sym (append-nil known.turns); naming_kept = refl })
      tt tt (subst (AreKnown table) (sym parts) tt) (ap (with_cells table) (sym parts))
