-- Strings, vectors, flat maps and owns, by the block to which each points.
use Rattle.std.proofs.Common.{◌≡◌, ℕ, zero, suc, inl, inr, ◌+◌, ◌*◌, ◌≤◌, List, [], ◌∷◌, length, Bool, true, false, Option, Some, None, Ok, Err, refl, sym, ap, ◌∙◌, subst, arith}
use Rattle.std.specs.Option.{is_some, option_map}
use Rattle.std.specs.Prelude.{option_to_list}
use Rattle.seg_spec.specs.Bytes.{slice}
use Rattle.seg_spec.specs.Pointer.{target}
use Rattle.seg_spec.specs.Types.{Form, Table, form_at, size}
use Rattle.seg_spec.specs.Block.{Kind, tag_of, block_of, IsBlock}
use Rattle.seg_spec.specs.Owing.{entries_at}
use Rattle.seg_spec.specs.Value.{Label}
use Rattle.seg_spec.specs.Reads.{Opened, NamesRoom, named, start, count_at, items}
use Rattle.seg_spec.proofs.Deallocation.CellDestructionLaws.{items_entries}
use Rattle.seg_layout.specs.Forms.{has_cells}
use Rattle.seg_block.specs.Tags.{word_of}
use Rattle.seg_cells.specs.Contents.{IsContent}
use Rattle.seg_cells.specs.declared.content.Content.{Content}
use Rattle.seg_cells.specs.declared.content.Shape.{Shape}
use Rattle.seg_check.specs.declared.fault.ContentFault.{ContentFault}
use Rattle.seg_check.specs.declared.fault.ContentFault.TheVariants.{BadPointer, BadValue}
use Rattle.seg_check.specs.Claiming.{Refutes, CanClaim, RefusesClaim, ClaimsBlock, turns_where, has_turns}
use Rattle.seg_check.specs.Marks.{Known, ClaimsAll, Within}
use Rattle.seg_check.specs.Positions.{IsBlockFor, IsWrongCount, LacksBlockAt, LacksValueAt, in_cell, LacksAt}
use Rattle.seg_check.specs.Turns.{LiesAt, places_by}
use Rattle.seg_check.specs.Resolving.{CanResolve, Advances, IsReady}
use Rattle.seg_check.specs.Cells.{counted_by, blocks_counted_by, CellsPointTo, IsStringOrVector}
use Rattle.seg_check.proofs.Queue.QueueStepLaws.{advance_open, can_open}
use Rattle.seg_check.proofs.Heap.TagLaws.{places_tagged}
use Rattle.seg_check.proofs.Blocks.LackingBlockLaws.{null_lacks, value_lacks}
use Rattle.seg_check.proofs.Blocks.CellClaimLaws.{named_some, named_none, start_some, names_room, no_room, none_counted, can_claim, advance_block, advance_nothing}

-- ---- the count of a cell

pub counted_none : (at n : ℕ) (o : Option ℕ) → counted_by at o n ≡ Ok None → (o ≡ None) × (n ≡ 0)
counted_none at zero None e = (refl, refl)
counted_none at (suc n) None e = cc
counted_none at n (Some p) e = cc

pub counted_some : (at n m : ℕ) (o : Option ℕ) → counted_by at o n ≡ Ok (Some m) → m ≡ n
counted_some at zero m None e = cc
counted_some at (suc n) m None e = cc
counted_some at n m (Some p) e = cc

pub blocks_none : (at n : ℕ) (o : Option ℕ) → blocks_counted_by at o n ≡ Ok None → (o ≡ None) × (n ≡ 0)
blocks_none at zero None e = (refl, refl)
blocks_none at (suc n) None e = cc
blocks_none at zero (Some p) e = cc
blocks_none at (suc n) (Some p) e = cc

pub blocks_some : (at n m : ℕ) (o : Option ℕ) → blocks_counted_by at o n ≡ Ok (Some m) → (m ≡ n) × (1 ≤ n)
blocks_some at zero m None e = cc
blocks_some at (suc n) m None e = cc
blocks_some at zero m (Some p) e = cc
blocks_some at (suc n) m (Some p) e = (cc, omega arith)

-- a cell points to one block at most
pub few_named : (bytes : List ℕ) (at : ℕ) → length (named bytes at) ≤ 1
few_named bytes at = go (target bytes at)
  where
    go : (o : Option ℕ) → length (option_to_list (option_map block_of o)) ≤ 1
    go None = omega arith
    go (Some p) = omega arith

-- ---- cells with a null pointer that count something

pub counted_refused : (P : Type 0) (at n : ℕ) (o : Option ℕ) (e : ContentFault) → counted_by at o n ≡ Err e → (o ≡ None → 1 ≤ n → P → ⊥) → Refutes e P
counted_refused P at zero None e is none = absurd (let no : Ok None ≡ Err e = is in cc)
counted_refused P at (suc n) None e is none = let same : BadPointer at ≡ e = cc in subst (λ f. Refutes f P) same (none refl (omega arith))
counted_refused P at n (Some p) e is none = absurd (let no : Ok (Some n) ≡ Err e = is in cc)

pub blocks_refused : (P : Type 0) (at n : ℕ) (o : Option ℕ) (e : ContentFault) → blocks_counted_by at o n ≡ Err e → (o ≡ None → 1 ≤ n → P → ⊥) → ((p : ℕ) → o ≡ Some p → n ≡ 0 → P → ⊥) → Refutes e P
blocks_refused P at zero None e is none some = absurd (let no : Ok None ≡ Err e = is in cc)
blocks_refused P at (suc n) None e is none some = let same : BadPointer at ≡ e = cc in subst (λ f. Refutes f P) same (none refl (omega arith))
blocks_refused P at zero (Some p) e is none some = let same : BadValue at ≡ e = cc in subst (λ f. Refutes f P) same (some p refl refl)
blocks_refused P at (suc n) (Some p) e is none some = absurd (let no : Ok (Some (suc n)) ≡ Err e = is in cc)

-- ---- what such cells lack

pub counted_lacks : (bytes : List ℕ) (table : Table) (at n : ℕ) (o : Option ℕ) (e : ContentFault) → counted_by at o n ≡ Err e → (o ≡ None → LacksBlockAt bytes table at) → LacksAt bytes table e
counted_lacks bytes table at zero None e is none = absurd (let no : Ok None ≡ Err e = is in cc)
counted_lacks bytes table at (suc n) None e is none = let same : BadPointer at ≡ e = cc in subst (LacksAt bytes table) same (none refl)
counted_lacks bytes table at n (Some p) e is none = absurd (let no : Ok (Some n) ≡ Err e = is in cc)

pub blocks_lack : (bytes : List ℕ) (table : Table) (at n : ℕ) (o : Option ℕ) (e : ContentFault) → blocks_counted_by at o n ≡ Err e → (o ≡ None → LacksBlockAt bytes table at) → ((p : ℕ) → o ≡ Some p → n ≡ 0 → LacksValueAt bytes table at)
    → LacksAt bytes table e
blocks_lack bytes table at zero None e is none some = absurd (let no : Ok None ≡ Err e = is in cc)
blocks_lack bytes table at (suc n) None e is none some = let same : BadPointer at ≡ e = cc in subst (LacksAt bytes table) same (none refl)
blocks_lack bytes table at zero (Some p) e is none some = let same : BadValue at ≡ e = cc in subst (LacksAt bytes table) same (some p refl refl)
blocks_lack bytes table at (suc n) (Some p) e is none some = absurd (let no : Ok (Some (suc n)) ≡ Err e = is in cc)

-- a cell that isn't null and counts nothing
pub none_counts : (bytes : List ℕ) (at p : ℕ) → target bytes at ≡ Some p → count_at bytes at ≡ 0 → IsWrongCount bytes at
none_counts bytes at p names none = inr (none, λ null. absurd (let no : None ≡ Some p = sym null ∙ names in cc))

module _ (bytes : List ℕ) (table : Table) where
  -- ---- the content of a value, by its form

  claimed_as : (old new : Known) (at n p : ℕ) (tag tag' size size' : ℕ) (b b' : Bool) → tag ≡ tag' → size ≡ size' → b ≡ b' → ClaimsBlock bytes old new at tag (n * size) (turns_where b p n) p
      → ClaimsBlock bytes old new at tag' (n * size') (turns_where b' p n) p
  claimed_as old new at n p tag tag' size size' b b' t s e c =
      subst (λ x. ClaimsBlock bytes old new at tag' (n * size') (turns_where x p n) p) e
      (subst (λ x. ClaimsBlock bytes old new at tag' (n * x) (turns_where b p n) p) s
      (subst (λ x. ClaimsBlock bytes old new at x (n * size) (turns_where b p n) p) t c))

  can_claim_as : (known : Known) (at n : ℕ) (tag tag' size size' : ℕ) → tag ≡ tag' → size ≡ size' → CanClaim bytes known at tag (n * size) → CanClaim bytes known at tag' (n * size')
  can_claim_as known at n tag tag' size size' t s c = subst (λ x. CanClaim bytes known at tag' (n * x)) s (subst (λ x. CanClaim bytes known at x (n * size)) t c)

  pub content_claimed : (old new : Known) (at n p : ℕ) (shape : Shape) (tag before U : ℕ) (content : Content) → IsContent table shape tag before U content
      → ClaimsBlock bytes old new at (word_of content.tag) (n * content.entry.size) (turns_where (has_turns table content.entry.held) p n) p
      → ClaimsBlock bytes old new at tag (n * (before + size table U)) (turns_where (has_cells (form_at table U)) p n) p
  content_claimed old new at n p shape tag before U content is c =
      claimed_as old new at n p (word_of content.tag) tag content.entry.size (before + size table U) (has_turns table content.entry.held) (has_cells (form_at table U)) is.tag_is is.entry_is.size_is (ap
      (has_turns table) is.entry_is.held_is) c

  pub content_can : (known : Known) (at n : ℕ) (shape : Shape) (tag before U each : ℕ) (content : Content) → IsContent table shape tag before U content → each ≡ before + size table U → CanClaim bytes known at tag (n * each)
      → CanClaim bytes known at (word_of content.tag) (n * content.entry.size)
  content_can known at n shape tag before U each content is e c = can_claim_as known at n tag (word_of content.tag) each content.entry.size (sym is.tag_is) (e ∙ sym is.entry_is.size_is) c

  -- ---- strings and vectors

  text_opened : ℕ → Opened
  text_opened at = record { label = Label.text (slice bytes (start bytes at) (count_at bytes at)); blocks = named bytes at; parts = [] }

  items_opened : ℕ → ℕ → Label → Opened
  items_opened at U label = record { label = label; blocks = named bytes at; parts = items table (start bytes at) U (count_at bytes at) }

  zero_size : (U : ℕ) → size table U ≡ 0 + size table U
  zero_size U = omega arith

  items_are : (at p n U : ℕ) → target bytes at ≡ Some p → n ≡ count_at bytes at → items table (start bytes at) U (count_at bytes at) ≡ entries_at table p 0 U n
  items_are at p n U e n_is = ap (λ q. items table q U (count_at bytes at)) (start_some bytes at p e) ∙ ap (items table p U) (sym n_is) ∙ sym (items_entries table p U n)

  pub block_is : (p tag n m each each' : ℕ) → n ≡ m → each ≡ each' → IsBlock bytes p tag (n * each) → IsBlock bytes p tag (m * each')
  block_is p tag n m each each' e s b = subst (λ x. IsBlock bytes p tag (m * x)) s (subst (λ x. IsBlock bytes p tag (x * each)) e b)

  pub items_advance : (old new : Known) (at T n p : ℕ) (form : Form) (content : Content) → IsReady bytes table old
      → LiesAt bytes table (record { at = at; type = T }) → IsStringOrVector form → CellsPointTo table T form content → n ≡ count_at bytes at
      → ClaimsBlock bytes old new at (word_of content.tag) (n * content.entry.size) (turns_where (has_turns table content.entry.held) p n) p → Advances bytes table old new (record { at = at; type = T } ∷ [])
  unfolding text_opened items_opened
  items_advance old new at T n p Form.i64 content ready lies has by n_is c = absurd has
  items_advance old new at T n p (Form.struct Us) content ready lies has by n_is c = absurd has
  items_advance old new at T n p (Form.list U) content ready lies has by n_is c = absurd has
  items_advance old new at T n p (Form.flat_map U) content ready lies has by n_is c = absurd has
  items_advance old new at T n p (Form.map U) content ready lies has by n_is c = absurd has
  items_advance old new at T n p (Form.own U) content ready lies has by n_is c = absurd has
  items_advance old new at T n p (Form.shared U) content ready lies has by n_is c = absurd has
  items_advance old new at T n p Form.str content ready lies has by n_is c =
      let is = by.content_of in
      let d = claimed_as old new at n p (word_of content.tag) (tag_of Kind.buffer T) content.entry.size 1 (has_turns table content.entry.held) false is.tag_is is.size_is (ap (has_turns table) is.held_is) c in
      advance_open bytes table old new (record { at = at; type = T }) Form.str (text_opened at) [] by.form_is
      (record { named_room = names_room bytes at (tag_of Kind.buffer T) 1 p d.names (block_is p (tag_of Kind.buffer T) n (count_at bytes at) 1 1 n_is refl d.is_block); ascending = tt; opened_is = refl }) refl
      (subst (λ bs. ClaimsAll old new bs []) (sym (named_some bytes at p d.names)) d.claims) tt tt tt refl
  items_advance old new at T n p (Form.vec U) content ready lies has by n_is c =
      let d = content_claimed old new at n p _ (tag_of Kind.buffer T) 0 U content by.content_of c in
      advance_block bytes table old new ready at (tag_of Kind.buffer T) n 0 U p T (Form.vec U) (items_opened at U Label.seq) lies by.form_is
      (record {
        named_room = names_room bytes at (tag_of Kind.buffer T) (size table U) p d.names (block_is p (tag_of Kind.buffer T) n (count_at bytes at) (0 + size table U) (size table U) n_is (sym
            (zero_size U)) d.is_block);
        ascending = tt;
        opened_is = refl;
      })
      refl (λ e. absurd (omega (arith, e))) refl (items_are at p n U d.names n_is) (ready.is_table.forms T (Form.vec U) by.form_is) d
      (places_tagged bytes table ready.is_table (record { start = p; count = n }) Kind.buffer T d.is_block.has_tag ∙ ap (λ o. places_by table o p n) by.form_is)

  pub items_nothing : (known : Known) (at T : ℕ) (form : Form) (content : Content) → IsStringOrVector form → CellsPointTo table T form content → target bytes at ≡ None → count_at bytes at ≡ 0
      → Advances bytes table known known (record { at = at; type = T } ∷ [])
  unfolding text_opened items_opened
  items_nothing known at T Form.i64 content has by e n = absurd has
  items_nothing known at T (Form.struct Us) content has by e n = absurd has
  items_nothing known at T (Form.list U) content has by e n = absurd has
  items_nothing known at T (Form.flat_map U) content has by e n = absurd has
  items_nothing known at T (Form.map U) content has by e n = absurd has
  items_nothing known at T (Form.own U) content has by e n = absurd has
  items_nothing known at T (Form.shared U) content has by e n = absurd has
  items_nothing known at T Form.str content has by e n =
      advance_nothing bytes table known (record { at = at; type = T }) Form.str (text_opened at) by.form_is
      (record { named_room = no_room bytes at (tag_of Kind.buffer T) 1 e n; ascending = tt; opened_is = refl }) refl (named_none bytes at e) refl
  items_nothing known at T (Form.vec U) content has by e n =
      advance_nothing bytes table known (record { at = at; type = T }) (Form.vec U) (items_opened at U Label.seq) by.form_is
      (record { named_room = no_room bytes at (tag_of Kind.buffer T) (size table U) e n; ascending = tt; opened_is = refl }) refl (named_none bytes at e) (ap (items table (start bytes at) U) n)

  -- If a cell can be resolved, its pointer is null, or it points to a block with room and without
  -- an owner.
  pub record CanName (known : Known) (at tag each : ℕ) : Type 0 where
    pub room : NamesRoom bytes at tag each
    pub within : Within (named bytes at) known.unclaimed

  pub named_within : (known : Known) (at : ℕ) (opened : Opened) (blocks : List ℕ) → opened.blocks ≡ blocks → Within opened.blocks known.unclaimed → Within blocks known.unclaimed
  named_within known at opened blocks e within = subst (λ bs. Within bs known.unclaimed) e within

  text_can : (known : Known) (at T : ℕ) → form_at table T ≡ Some Form.str → CanResolve bytes table known (record { at = at; type = T } ∷ []) → CanName known at (tag_of Kind.buffer T) 1
  text_can known at T f r =
      let o = can_open bytes table known (record { at = at; type = T }) Form.str [] f r in
      record { room = o.opens.named_room; within = named_within known at o.opened (named bytes at) (ap (λ (x : Opened). x.blocks) o.opens.opened_is) o.within }

  vec_can : (known : Known) (at T U : ℕ) → form_at table T ≡ Some (Form.vec U) → CanResolve bytes table known (record { at = at; type = T } ∷ []) → CanName known at (tag_of Kind.buffer T) (size table U)
  vec_can known at T U f r =
      let o = can_open bytes table known (record { at = at; type = T }) (Form.vec U) [] f r in
      record { room = o.opens.named_room; within = named_within known at o.opened (named bytes at) (ap (λ (x : Opened). x.blocks) o.opens.opened_is) o.within }

  pub items_can : (known : Known) (at T n p : ℕ) (form : Form) (content : Content) → IsStringOrVector form → CellsPointTo table T form content → target bytes at ≡ Some p → n ≡ count_at bytes at
      → CanResolve bytes table known (record { at = at; type = T } ∷ [])
      → CanClaim bytes known at (word_of content.tag) (n * content.entry.size)
  items_can known at T n p Form.i64 content has by e n_is r = absurd has
  items_can known at T n p (Form.struct Us) content has by e n_is r = absurd has
  items_can known at T n p (Form.list U) content has by e n_is r = absurd has
  items_can known at T n p (Form.flat_map U) content has by e n_is r = absurd has
  items_can known at T n p (Form.map U) content has by e n_is r = absurd has
  items_can known at T n p (Form.own U) content has by e n_is r = absurd has
  items_can known at T n p (Form.shared U) content has by e n_is r = absurd has
  items_can known at T n p Form.str content has by e n_is r =
      let can = text_can known at T by.form_is r in
      let is = by.content_of in
      can_claim_as known at n (tag_of Kind.buffer T) (word_of content.tag) 1 content.entry.size (sym is.tag_is) (sym is.size_is)
      (subst (λ m. CanClaim bytes known at (tag_of Kind.buffer T) (m * 1)) (sym n_is) (can_claim bytes known at (tag_of Kind.buffer T) 1 p e can.room can.within))
  items_can known at T n p (Form.vec U) content has by e n_is r =
      let can = vec_can known at T U by.form_is r in
      content_can known at n _ (tag_of Kind.buffer T) 0 U (size table U) content by.content_of (zero_size U)
      (subst (λ m. CanClaim bytes known at (tag_of Kind.buffer T) (m * size table U)) (sym n_is) (can_claim bytes known at (tag_of Kind.buffer T) (size table U) p e can.room can.within))

  -- the block of a string or a vector
  items_for : (T n : ℕ) (form : Form) (content : Content) → IsStringOrVector form → CellsPointTo table T form content → IsBlockFor table T form n (word_of content.tag) (n * content.entry.size)
  items_for T n Form.i64 content has by = absurd has
  items_for T n (Form.struct Us) content has by = absurd has
  items_for T n (Form.list U) content has by = absurd has
  items_for T n (Form.flat_map U) content has by = absurd has
  items_for T n (Form.map U) content has by = absurd has
  items_for T n (Form.own U) content has by = absurd has
  items_for T n (Form.shared U) content has by = absurd has
  items_for T n Form.str content has by = let is = by.content_of in (is.tag_is, ap (λ m. n * m) is.size_is ∙ (let one : n * 1 ≡ n = omega arith in one))
  items_for T n (Form.vec U) content has by = let is = by.content_of in (is.tag_is, ap (λ m. n * m) (is.entry_is.size_is ∙ sym (zero_size U)))

  pub items_lack : (known : Known) (at T n : ℕ) (form : Form) (content : Content) (e : ContentFault) → IsReady bytes table known
      → LiesAt bytes table (record { at = at; type = T }) → IsStringOrVector form → CellsPointTo table T form content → n ≡ count_at bytes at
      → RefusesClaim bytes known at (word_of content.tag) (n * content.entry.size) e → LacksAt bytes table e
  items_lack known at T n form content e ready lies has by n_is r =
      value_lacks bytes table known ready at T (word_of content.tag) (n * content.entry.size) form e lies by.form_is
      (subst (λ m. IsBlockFor table T form m (word_of content.tag) (n * content.entry.size)) n_is (items_for T n form content has by)) r

  items_null : (at T : ℕ) (form : Form) → LiesAt bytes table (record { at = at; type = T }) → IsStringOrVector form → form_at table T ≡ Some form → target bytes at ≡ None → LacksBlockAt bytes table at
  items_null at T Form.i64 lies has f null = absurd has
  items_null at T (Form.struct Us) lies has f null = absurd has
  items_null at T (Form.list U) lies has f null = absurd has
  items_null at T (Form.flat_map U) lies has f null = absurd has
  items_null at T (Form.map U) lies has f null = absurd has
  items_null at T (Form.own U) lies has f null = absurd has
  items_null at T (Form.shared U) lies has f null = absurd has
  items_null at T Form.str lies has f null = null_lacks bytes table at T (tag_of Kind.buffer T) (count_at bytes at) Form.str lies f (refl, refl) null
  items_null at T (Form.vec U) lies has f null = null_lacks bytes table at T (tag_of Kind.buffer T) (count_at bytes at * size table U) (Form.vec U) lies f (refl, refl) null

  pub items_counted_lack : (at T : ℕ) (form : Form) (e : ContentFault) → LiesAt bytes table (record { at = at; type = T }) → IsStringOrVector form
      → form_at table T ≡ Some form → counted_by at (target bytes at) (count_at bytes at) ≡ Err e → LacksAt bytes table e
  items_counted_lack at T form e lies has f is = counted_lacks bytes table at (count_at bytes at) (target bytes at) e is (items_null at T form lies has f)

  -- a cell counts no items exactly if its pointer is null
  pub items_counted : (known : Known) (at T : ℕ) (form : Form) (e : ContentFault) → IsStringOrVector form → form_at table T ≡ Some form → counted_by at (target bytes at) (count_at bytes at) ≡ Err e
      → Refutes e (CanResolve bytes table known (record { at = at; type = T } ∷ []))
  items_counted known at T Form.i64 e has f is = absurd has
  items_counted known at T (Form.struct Us) e has f is = absurd has
  items_counted known at T (Form.list U) e has f is = absurd has
  items_counted known at T (Form.flat_map U) e has f is = absurd has
  items_counted known at T (Form.map U) e has f is = absurd has
  items_counted known at T (Form.own U) e has f is = absurd has
  items_counted known at T (Form.shared U) e has f is = absurd has
  items_counted known at T Form.str e has f is = counted_refused _ at (count_at bytes at) (target bytes at) e is
      (λ none some r. let can = text_can known at T f r in absurd (omega (arith, some, none_counted bytes at (tag_of Kind.buffer T) 1 none can.room)))
  items_counted known at T (Form.vec U) e has f is = counted_refused _ at (count_at bytes at) (target bytes at) e is
      (λ none some r. let can = vec_can known at T U f r in absurd (omega (arith, some, none_counted bytes at (tag_of Kind.buffer T) (size table U) none can.room)))

pub counted_names : (at n m : ℕ) (o : Option ℕ) → counted_by at o n ≡ Ok (Some m) → (p : ℕ) × (o ≡ Some p)
counted_names at zero m None e = cc
counted_names at (suc n) m None e = cc
counted_names at n m (Some p) e = (p, refl)

pub blocks_names : (at n m : ℕ) (o : Option ℕ) → blocks_counted_by at o n ≡ Ok (Some m) → (p : ℕ) × (o ≡ Some p)
blocks_names at zero m None e = cc
blocks_names at (suc n) m None e = cc
blocks_names at zero m (Some p) e = cc
blocks_names at (suc n) m (Some p) e = (p, refl)

-- ---- owns

pub blocks_is_some : (at n : ℕ) (o m : Option ℕ) → blocks_counted_by at o n ≡ Ok m → true ≡ is_some m → (p : ℕ) × (o ≡ Some p) × (1 ≤ n)
blocks_is_some at n o None e s = cc
blocks_is_some at n o (Some m) e s = let names = blocks_names at n m o e in (names.0, names.1, (blocks_some at n m o e).1)

pub blocks_is_none : (at n : ℕ) (o m : Option ℕ) → blocks_counted_by at o n ≡ Ok m → false ≡ is_some m → (o ≡ None) × (n ≡ 0)
blocks_is_none at n o None e s = blocks_none at n o e
blocks_is_none at n o (Some m) e s = cc

module _ (bytes : List ℕ) (table : Table) (at T U : ℕ) (content : Content) (by : CellsPointTo table T (Form.own U) content) where
  own_opened : Opened
  own_opened = record { label = Label.opt; blocks = named bytes at; parts = items table (start bytes at) U (count_at bytes at) }

  pub own_advance : (old new : Known) (p : ℕ) → IsReady bytes table old → LiesAt bytes table (record { at = at; type = T }) → 1 ≡ count_at bytes at
      → ClaimsBlock bytes old new at (word_of content.tag) (1 * content.entry.size) (turns_where (has_turns table content.entry.held) p 1) p → Advances bytes table old new (record { at = at; type = T } ∷ [])
  unfolding own_opened
  own_advance old new p ready lies n_is c =
      let d = content_claimed bytes table old new at 1 p _ (tag_of Kind.object U) 0 U content by.content_of c in
      advance_block bytes table old new ready at (tag_of Kind.object U) 1 0 U p T (Form.own U) own_opened lies by.form_is
      (record {
        named_room = names_room bytes at (tag_of Kind.object U) (size table U) p d.names (block_is bytes table p (tag_of Kind.object U) 1 (count_at bytes at) (0 + size table U) (size table U) n_is (sym
            (zero_size bytes table U)) d.is_block);
        counted = sym n_is ∙ sym (ap length (named_some bytes at p d.names));
        opened_is = refl;
      })
      refl (λ e. absurd (omega (arith, e))) refl (items_are bytes table at p 1 U d.names n_is) (ready.is_table.forms T (Form.own U) by.form_is) d
      (places_tagged bytes table ready.is_table (record { start = p; count = 1 }) Kind.object U d.is_block.has_tag)

  pub own_nothing : (known : Known) → target bytes at ≡ None → count_at bytes at ≡ 0 → Advances bytes table known known (record { at = at; type = T } ∷ [])
  unfolding own_opened
  own_nothing known e n =
      advance_nothing bytes table known (record { at = at; type = T }) (Form.own U) own_opened by.form_is
      (record { named_room = no_room bytes at (tag_of Kind.object U) (size table U) e n; counted = n ∙ sym (ap length (named_none bytes at e)); opened_is = refl }) refl
      (named_none bytes at e) (ap (items table (start bytes at) U) n)

  pub own_can : (known : Known) (p : ℕ) → target bytes at ≡ Some p → 1 ≡ count_at bytes at → CanResolve bytes table known (record { at = at; type = T } ∷ [])
      → CanClaim bytes known at (word_of content.tag) (1 * content.entry.size)
  own_can known p e n_is r =
      let o = can_open bytes table known (record { at = at; type = T }) (Form.own U) [] by.form_is r in
      let within = named_within bytes table known at o.opened (named bytes at) (ap (λ (x : Opened). x.blocks) o.opens.opened_is) o.within in
      content_can bytes table known at 1 _ (tag_of Kind.object U) 0 U (size table U) content by.content_of (zero_size bytes table U)
      (subst (λ m. CanClaim bytes known at (tag_of Kind.object U) (m * size table U)) (sym n_is) (can_claim bytes known at (tag_of Kind.object U) (size table U) p e o.opens.named_room within))

  own_counts : (known : Known) → CanResolve bytes table known (record { at = at; type = T } ∷ []) → count_at bytes at ≡ length (named bytes at)
  own_counts known r = (can_open bytes table known (record { at = at; type = T }) (Form.own U) [] by.form_is r).opens.counted

  -- an own that points to an object counts 1
  pub own_counted : (known : Known) (e : ContentFault) → blocks_counted_by at (target bytes at) (count_at bytes at) ≡ Err e → Refutes e (CanResolve bytes table known (record { at = at; type = T } ∷ []))
  own_counted known e is = blocks_refused _ at (count_at bytes at) (target bytes at) e is
      (λ none some r. absurd (omega (arith, some, own_counts known r ∙ ap length (named_none bytes at none))))
      (λ p some none r. absurd (let counts : count_at bytes at ≡ 1 = own_counts known r ∙ ap length (named_some bytes at p some) in omega arith))

  pub own_counted_lack : (e : ContentFault) → LiesAt bytes table (record { at = at; type = T }) → blocks_counted_by at (target bytes at) (count_at bytes at) ≡ Err e → LacksAt bytes table e
  own_counted_lack e lies is = blocks_lack bytes table at (count_at bytes at) (target bytes at) e is
      (null_lacks bytes table at T (tag_of Kind.object U) (size table U) (Form.own U) lies by.form_is (refl, refl))
      (λ p names none. in_cell T (Form.own U) lies by.form_is (none_counts bytes at p names none))

  pub own_lacks : (known : Known) (e : ContentFault) → IsReady bytes table known → LiesAt bytes table (record { at = at; type = T }) → RefusesClaim bytes known at (word_of content.tag) (1 * content.entry.size) e → LacksAt bytes table e
  own_lacks known e ready lies r =
      let is = by.content_of in
      let room : 1 * content.entry.size ≡ size table U = (let one : 1 * content.entry.size ≡ content.entry.size = omega arith in one) ∙ is.entry_is.size_is ∙ sym (zero_size bytes table U) in
      value_lacks bytes table known ready at T (word_of content.tag) (1 * content.entry.size) (Form.own U) e lies by.form_is (is.tag_is, room) r

  pub own_many_lack : LiesAt bytes table (record { at = at; type = T }) → 2 ≤ count_at bytes at → LacksValueAt bytes table at
  own_many_lack lies many = in_cell T (Form.own U) lies by.form_is (inl many)

  pub own_many : (known : Known) → 2 ≤ count_at bytes at → CanResolve bytes table known (record { at = at; type = T } ∷ []) → ⊥
  own_many known many r = absurd (omega (arith, many, own_counts known r, few_named bytes at))
