-- Flat maps: their buffer, and the order of their keys.
use Rattle.std.proofs.Common.{◌≡◌, ℕ, zero, suc, ◌+◌, ◌*◌, ◌%◌, ◌^◌, ◌-◌, ◌<◌, ◌≤◌, List, [], ◌∷◌, ◌++◌, length, map, Option, Some, None, Result, Ok, Err, MatchResult, refl, sym, ap, ◌∙◌, subst, arith}
use Rattle.seg_spec.specs.Pointer.{target}
use Rattle.seg_spec.specs.Types.{Form, Table, size}
use Rattle.seg_spec.specs.Block.{Kind, tag_of, block_of}
use Rattle.seg_spec.specs.Owing.{entries_at}
use Rattle.seg_spec.specs.Value.{IsAscending, Label}
use Rattle.seg_spec.specs.Reads.{Opened, named, start, count_at, keys_at, spaced, places_of}
use Rattle.seg_spec.specs.Sound.{times}
use Rattle.seg_spec.proofs.Heap.LiveBlockLaws.{times-same}
use Rattle.seg_block.specs.Tags.{word_of}
use Rattle.seg_cells.specs.declared.content.Content.{Content}
use Rattle.seg_check.specs.declared.fault.ContentFault.{ContentFault}
use Rattle.seg_check.specs.declared.fault.ContentFault.TheVariants.{BadValue}
use Rattle.seg_check.specs.declared.marks.Turn.{Turn}
use Rattle.seg_check.specs.Claiming.{Refutes, CanClaim, RefusesClaim, ClaimsBlock, turns_where, has_turns}
use Rattle.seg_check.specs.Turns.{LiesAt}
use Rattle.seg_check.specs.Positions.{in_cell, LacksAt}
use Rattle.seg_check.proofs.Blocks.LackingBlockLaws.{null_lacks, value_lacks}
use Rattle.seg_check.specs.Marks.{Known}
use Rattle.seg_check.specs.Turns.{places_by}
use Rattle.seg_check.specs.Resolving.{CanResolve, Advances, IsReady, Steps}
use Rattle.seg_check.specs.Cells.{CellsPointTo, counted_by}
use Rattle.seg_check.proofs.Queue.QueueStepLaws.{can_open}
use Rattle.seg_check.proofs.Heap.TagLaws.{places_tagged}
use Rattle.seg_check.proofs.Blocks.CellClaimLaws.{named_none, start_some, names_room, no_room, none_counted, can_claim, advance_block, advance_nothing}
use Rattle.seg_check.proofs.Contents.BufferLaws.{counted_lacks, counted_refused, content_claimed, content_can, block_is, named_within}

-- a claimed block ends in the segment
claimed_inside : (bytes : List ℕ) (table : Table) (old new : Known) (at tag size p : ℕ) (turns : List Turn) → IsReady bytes table old → ClaimsBlock bytes old new at tag size turns p → p + size ≤ length bytes
claimed_inside bytes table old new at tag size p turns ready c =
    let some : 1 ≤ times (block_of p) old.unclaimed = omega (arith, c.claims.claimed (block_of p), times-same (block_of p) new.unclaimed) in
    let block = ready.blocks (block_of p) some in
    let large = block.0.size in
    let inside = block.0.inside in
    let high = c.is_block.after_header in
    let room = c.is_block.room in
    omega arith

module _ (bytes : List ℕ) (table : Table) (at T U : ℕ) (content : Content) (by : CellsPointTo table T (Form.flat_map U) content) where
  abbrev keys : ℕ → ℕ → List Rattle.std.proofs.Common.ℤ
  keys p n = keys_at bytes (spaced p (8 + size table U) n)

  map_opened : Opened
  map_opened = record { label = Label.map (keys (start bytes at) (count_at bytes at)); blocks = named bytes at; parts = places_of U (map (λ p. p + 8) (spaced (start bytes at) (8 + size table U) (count_at bytes at))) }

  same_keys : (p n : ℕ) → target bytes at ≡ Some p → n ≡ count_at bytes at → keys p n ≡ keys (start bytes at) (count_at bytes at)
  same_keys p n e n_is = ap (λ q. keys q n) (sym (start_some bytes at p e)) ∙ ap (keys (start bytes at)) n_is

  flat_advance : (old new : Known) (n p : ℕ) → IsReady bytes table old → LiesAt bytes table (record { at = at; type = T }) → n ≡ count_at bytes at
      → ClaimsBlock bytes old new at (word_of content.tag) (n * content.entry.size) (turns_where (has_turns table content.entry.held) p n) p → IsAscending (keys p n) → Advances bytes table old new (record { at = at; type = T } ∷ [])
  unfolding map_opened
  flat_advance old new n p ready lies n_is c ascending =
      let d = content_claimed bytes table old new at n p _ (tag_of Kind.buffer T) 8 U content by.content_of c in
      advance_block bytes table old new ready at (tag_of Kind.buffer T) n 8 U p T (Form.flat_map U) map_opened lies by.form_is
      (record {
        named_room = names_room bytes at (tag_of Kind.buffer T) (8 + size table U) p d.names (block_is bytes table p (tag_of Kind.buffer T) n (count_at bytes at) (8 + size table U) (8 + size table U) n_is refl d.is_block);
        ascending = subst IsAscending (same_keys p n d.names n_is) ascending;
        opened_is = refl;
      })
      refl (λ e. absurd (omega (arith, e))) refl (ap (λ q. entries_at table q 8 U (count_at bytes at)) (start_some bytes at p d.names) ∙ ap (entries_at table p 8 U) (sym n_is)) (ready.is_table.forms T (Form.flat_map U) by.form_is) d
      (places_tagged bytes table ready.is_table (record { start = p; count = n }) Kind.buffer T d.is_block.has_tag ∙ ap (λ o. places_by table o p n) by.form_is)

  pub flat_counted : (known : Known) (e : ContentFault) → counted_by at (target bytes at) (count_at bytes at) ≡ Err e → Refutes e (CanResolve bytes table known (record { at = at; type = T } ∷ []))
  flat_counted known e is = counted_refused _ at (count_at bytes at) (target bytes at) e is
      (λ none some r.
      let o = can_open bytes table known (record { at = at; type = T }) (Form.flat_map U) [] by.form_is r in
      absurd (omega (arith, some, none_counted bytes at (tag_of Kind.buffer T) (8 + size table U) none o.opens.named_room)))

  pub flat_counted_lack : (e : ContentFault) → LiesAt bytes table (record { at = at; type = T }) → counted_by at (target bytes at) (count_at bytes at) ≡ Err e → LacksAt bytes table e
  flat_counted_lack e lies is = counted_lacks bytes table at (count_at bytes at) (target bytes at) e is
      (null_lacks bytes table at T (tag_of Kind.buffer T) (count_at bytes at * (8 + size table U)) (Form.flat_map U) lies by.form_is (refl, refl))

  pub flat_lacks : (known : Known) (n : ℕ) (e : ContentFault) → IsReady bytes table known → LiesAt bytes table (record { at = at; type = T })
      → n ≡ count_at bytes at → RefusesClaim bytes known at (word_of content.tag) (n * content.entry.size) e → LacksAt bytes table e
  flat_lacks known n e ready lies n_is r =
      let is = by.content_of in
      value_lacks bytes table known ready at T (word_of content.tag) (n * content.entry.size) (Form.flat_map U) e lies by.form_is (is.tag_is, λ i. n_is i * is.entry_is.size_is i) r

  pub flat_nothing : (known : Known) → target bytes at ≡ None → count_at bytes at ≡ 0 → Advances bytes table known known (record { at = at; type = T } ∷ [])
  unfolding map_opened
  flat_nothing known e n =
      advance_nothing bytes table known (record { at = at; type = T }) (Form.flat_map U) map_opened by.form_is
      (record { named_room = no_room bytes at (tag_of Kind.buffer T) (8 + size table U) e n; ascending = subst (λ m. IsAscending (keys (start bytes at) m)) (sym n) tt; opened_is = refl })
      refl (named_none bytes at e) (ap (entries_at table (start bytes at) 8 U) n)

  pub flat_can : (known : Known) (n p : ℕ) → target bytes at ≡ Some p → n ≡ count_at bytes at → CanResolve bytes table known (record { at = at; type = T } ∷ [])
      → CanClaim bytes known at (word_of content.tag) (n * content.entry.size)
  flat_can known n p e n_is r =
      let o = can_open bytes table known (record { at = at; type = T }) (Form.flat_map U) [] by.form_is r in
      let within = named_within bytes table known at o.opened (named bytes at) (ap (λ (x : Opened). x.blocks) o.opens.opened_is) o.within in
      content_can bytes table known at n _ (tag_of Kind.buffer T) 8 U (8 + size table U) content by.content_of refl
      (subst (λ m. CanClaim bytes known at (tag_of Kind.buffer T) (m * (8 + size table U))) (sym n_is) (can_claim bytes known at (tag_of Kind.buffer T) (8 + size table U) p e o.opens.named_room within))

  flat_ascend : (known : Known) (n p : ℕ) → target bytes at ≡ Some p → n ≡ count_at bytes at → CanResolve bytes table known (record { at = at; type = T } ∷ []) → IsAscending (keys p n)
  flat_ascend known n p e n_is r =
      let o = can_open bytes table known (record { at = at; type = T }) (Form.flat_map U) [] by.form_is r in
      subst IsAscending (sym (same_keys p n e n_is)) o.opens.ascending

  -- whether the map can be resolved depends on the order of its keys
  pub flat_steps : {A : Type 0} (old new : Known) (n p : ℕ) (r : Result A ContentFault) → IsReady bytes table old → LiesAt bytes table (record { at = at; type = T }) → n ≡ count_at bytes at
      → ClaimsBlock bytes old new at (word_of content.tag) (n * content.entry.size) (turns_where (has_turns table content.entry.held) p n) p
      → MatchResult r (λ _. IsAscending (keys p n)) (λ f. (f ≡ BadValue at) × (IsAscending (keys p n) → ⊥)) → Steps bytes table old new (record { at = at; type = T } ∷ []) r
  flat_steps old new n p (Ok x) ready lies n_is c m = flat_advance old new n p ready lies n_is c m
  flat_steps old new n p (Err f) ready lies n_is c m =
      subst (λ g. Refutes g (CanResolve bytes table old (record { at = at; type = T } ∷ [])) × LacksAt bytes table g) (sym m.0)
      ((λ r. m.1 (flat_ascend old n p c.names n_is r)), in_cell T (Form.flat_map U) lies by.form_is (λ a. m.1 (subst IsAscending (sym (same_keys p n c.names n_is)) a)))

  pub flat_inside : (old new : Known) (n p : ℕ) → IsReady bytes table old → ClaimsBlock bytes old new at (word_of content.tag) (n * content.entry.size) (turns_where (has_turns table content.entry.held) p n) p
      → p + n * content.entry.size ≤ length bytes
  flat_inside old new n p ready c = claimed_inside bytes table old new at (word_of content.tag) (n * content.entry.size) p _ ready c
