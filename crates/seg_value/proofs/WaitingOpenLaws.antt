-- A block is taken from the waiting ones, and what is freed with it is added to them.
use Rattle.std.proofs.Common.{◌≡◌, ℕ, ◌+◌, ◌-◌, ◌*◌, ◌/◌, ◌<◌, ◌≤◌, ◌⊎◌, inl, inr, ⊎_elim, List, [], ◌∷◌, ◌++◌, length, Option, Some, None, refl, sym, ap, ◌∙◌, subst, arith}
use Rattle.std.proofs.lemmas.Bool.{cases_lt}
use Rattle.std.proofs.Math.Nat.{div-mul-le_self}
use Rattle.seg_spec.specs.Types.{Form, Table, form_at, IsTable, size}
use Rattle.seg_spec.specs.Heap.{Span, units_at, tag_at, live, heap_start}
use Rattle.seg_spec.specs.Block as block
use Rattle.seg_spec.specs.Block.{tag_of, IsInside, block_of, payload_size}
use Rattle.seg_spec.specs.Reads.{Place, holds}
use Rattle.seg_spec.specs.Sound.{times, SameBlocks, positions}
use Rattle.seg_spec.specs.Owing.{IsPart, AreParts, no_parts, more_parts, entries_at, OpensBlock, Owes, owes, OwesLinks}
use Rattle.seg_spec.specs.Frozen.{Frozen}
use Rattle.seg_spec.specs.Destroying.{AreLive, GoesWith, Awaits, Adds}
use Rattle.seg_spec.proofs.Tables.TableExtensionLaws.{below_length}
use Rattle.seg_spec.proofs.Heap.LiveBlockLaws.{times-append, times-same, live-once, LiesIn, live-lie, there}
use Rattle.seg_spec.proofs.Deallocation.DestructionLaws.{inside_then, parts_then, awaits_names, adds_twice}
use Rattle.seg_spec.proofs.Deallocation.PartDestructionLaws.{entries_inside}
use Rattle.seg_block.specs.Blocks.{IsSized}
use Rattle.seg_block.specs.Tags.{kind_of, word_of}
use Rattle.seg_block.specs.declared.tag.Tag.{Tag}
use Rattle.seg_block.specs.declared.tag.Kind.{Kind}
use Rattle.seg_block.specs.declared.tag.Kind.TheVariants as kind
use Rattle.seg_cells.specs.Entries.{IsEntryOf}
use Rattle.seg_cells.specs.Contents.{OfBlock}
use Rattle.seg_value.specs.Waiting.{AddsIn, links_of}
use Rattle.seg_value.proofs.Nulls.{Nothing}
use Rattle.seg_value.proofs.Links.{no_further}
use Rattle.seg_cells.specs.declared.content.Content.{Content}
use Rattle.seg_cells.specs.declared.content.Shape.TheVariants as shape
use Rattle.seg_cells.specs.declared.entry.Held.TheVariants as held

-- ---- one word spells one tag

pub same_object : (k : Kind) (t T : ℕ) → tag_of (kind_of k) t ≡ tag_of block.Kind.object T → (k ≡ kind.Object) × (t ≡ T)
same_object kind.Object t T e = (refl, omega arith)
same_object kind.Named t T e = absurd (omega arith)
same_object kind.Buffer t T e = absurd (omega arith)
same_object kind.Node t T e = absurd (omega arith)
same_object kind.IndexBuffer t T e = absurd (omega arith)
same_object kind.IndexNode t T e = absurd (omega arith)
same_object kind.Frozen t T e = absurd (omega arith)

same_buffer : (k : Kind) (t T : ℕ) → tag_of (kind_of k) t ≡ tag_of block.Kind.buffer T → (k ≡ kind.Buffer) × (t ≡ T)
same_buffer kind.Buffer t T e = (refl, omega arith)
same_buffer kind.Named t T e = absurd (omega arith)
same_buffer kind.Object t T e = absurd (omega arith)
same_buffer kind.Node t T e = absurd (omega arith)
same_buffer kind.IndexBuffer t T e = absurd (omega arith)
same_buffer kind.IndexNode t T e = absurd (omega arith)
same_buffer kind.Frozen t T e = absurd (omega arith)

same_node : (k : Kind) (t T : ℕ) → tag_of (kind_of k) t ≡ tag_of block.Kind.node T → (k ≡ kind.Node) × (t ≡ T)
same_node kind.Node t T e = (refl, omega arith)
same_node kind.Named t T e = absurd (omega arith)
same_node kind.Object t T e = absurd (omega arith)
same_node kind.Buffer t T e = absurd (omega arith)
same_node kind.IndexBuffer t T e = absurd (omega arith)
same_node kind.IndexNode t T e = absurd (omega arith)
same_node kind.Frozen t T e = absurd (omega arith)

same_frozen : (k : Kind) (t T : ℕ) → tag_of (kind_of k) t ≡ tag_of block.Kind.frozen T → (k ≡ kind.Frozen) × (t ≡ T)
same_frozen kind.Frozen t T e = (refl, omega arith)
same_frozen kind.Named t T e = absurd (omega arith)
same_frozen kind.Object t T e = absurd (omega arith)
same_frozen kind.Buffer t T e = absurd (omega arith)
same_frozen kind.Node t T e = absurd (omega arith)
same_frozen kind.IndexBuffer t T e = absurd (omega arith)
same_frozen kind.IndexNode t T e = absurd (omega arith)

-- ---- the values and links of a block, by its content

module _ (bytes : List ℕ) (table : Table) (valid : IsTable table) (p : ℕ) where
  pub record HasEntries (content : Content) (us vs : List ℕ) : Type 0 where
    pub before : ℕ
    pub U : ℕ
    pub n : ℕ
    pub entry_is : IsEntryOf table before U content.entry
    pub parts : AreParts bytes table (entries_at table p before U n) us vs
    pub fits : n * (before + size table U) ≤ payload_size bytes (block_of p)
    pub count : ((content.shape ≡ shape.Buffer) × (n ≡ payload_size bytes (block_of p) / (before + size table U))) ⊎ ((content.shape ≡ shape.Buffer → ⊥) × (n ≡ 1))

  pub record Shows (content : Content) (us bs vs ws : List ℕ) : Type 0 where
    pub low : 16 ≤ p
    pub links : OwesLinks bytes table (links_of content.shape p) bs ws
    pub entries : ((content.entry.held ≡ held.Bytes) × Nothing us vs) ⊎ HasEntries content us vs

  module _ (content : Content) (k : Kind) (t : ℕ) (values : List Place) (links us bs vs ws : List ℕ) (parts : AreParts bytes table values us vs) (more : OwesLinks bytes table links bs ws) where
    object_shows : (T : ℕ) → OpensBlock bytes table p block.Kind.object T (form_at table T) values links → tag_at bytes (block_of p) ≡ tag_of (kind_of k) t → OfBlock table k t (Some content) → Shows content us bs vs ws
    object_shows T o tag of =
        let is = same_object k t T (sym tag ∙ o.0.has_tag) in
        let of' = subst (λ u. OfBlock table kind.Object u (Some content)) is.1 (subst (λ j. OfBlock table j t (Some content)) is.0 of) in
        let room = o.0.room in
        let zero_off : p + 0 ≡ p = omega arith in
        record {
          low = o.0.after_header;
          links = rw of'.shape_is (subst (λ ls. OwesLinks bytes table ls bs ws) o.2 more);
          entries = inr (record {
            before = 0;
            U = T;
            n = 1;
            entry_is = of'.entry_is;
            parts = rw zero_off (subst (λ ps. AreParts bytes table ps us vs) o.1 parts);
            fits = omega arith;
            count = inr ((λ e. let f = of'.shape_is in cc), refl);
          });
        }

    frozen_shows : (T : ℕ) → OpensBlock bytes table p block.Kind.frozen T (form_at table T) values links → tag_at bytes (block_of p) ≡ tag_of (kind_of k) t → OfBlock table k t (Some content) → Shows content us bs vs ws
    frozen_shows T o tag of =
        let is = same_frozen k t T (sym tag ∙ o.0.has_tag) in
        let of' = subst (λ u. OfBlock table kind.Frozen u (Some content)) is.1 (subst (λ j. OfBlock table j t (Some content)) is.0 of) in
        let room = o.0.room in
        record {
          low = o.0.after_header;
          links = rw of'.shape_is (subst (λ ls. OwesLinks bytes table ls bs ws) o.2 more);
          entries = inr (record {
            before = 8;
            U = T;
            n = 1;
            entry_is = of'.entry_is;
            parts = subst (λ ps. AreParts bytes table ps us vs) o.1 parts;
            fits = omega arith;
            count = inr ((λ e. let f = of'.shape_is in cc), refl);
          });
        }

    buffer_shows : (T : ℕ) (form : Option Form) → form_at table T ≡ form → OpensBlock bytes table p block.Kind.buffer T form values links → tag_at bytes (block_of p) ≡ tag_of (kind_of k) t →
        OfBlock table k t (Some content) → Shows content us bs vs ws
    buffer_shows T None f o tag of = absurd o
    buffer_shows T (Some Form.i64) f o tag of = absurd o
    buffer_shows T (Some (Form.list U)) f o tag of = absurd o
    buffer_shows T (Some (Form.map U)) f o tag of = absurd o
    buffer_shows T (Some (Form.own U)) f o tag of = absurd o
    buffer_shows T (Some (Form.shared U)) f o tag of = absurd o
    buffer_shows T (Some (Form.struct Us)) f o tag of = absurd o
    buffer_shows T (Some Form.str) f o tag of =
        let is = same_buffer k t T (sym tag ∙ o.0.has_tag) in
        let of' = rw f at (subst (λ u. OfBlock table kind.Buffer u (Some content)) is.1 (subst (λ j. OfBlock table j t (Some content)) is.0 of)) in
        record {
          low = o.0.after_header;
          links = rw of'.shape_is (subst (λ ls. OwesLinks bytes table ls bs ws) o.2 more);
          entries = inl (of'.held_is, no_values us vs (subst (λ ps. AreParts bytes table ps us vs) o.1 parts));
        }
      where
        no_values : (xs ns : List ℕ) → AreParts bytes table [] xs ns → Nothing xs ns
        no_values xs ns no_parts = record { no_blocks = refl; no_names = refl }
    buffer_shows T (Some (Form.vec U)) f o tag of =
        let is = same_buffer k t T (sym tag ∙ o.0.has_tag) in
        let of' = rw f at (subst (λ u. OfBlock table kind.Buffer u (Some content)) is.1 (subst (λ j. OfBlock table j t (Some content)) is.0 of)) in
        record {
          low = o.0.after_header;
          links = rw of'.shape_is (subst (λ ls. OwesLinks bytes table ls bs ws) o.2 more);
          entries = inr (record {
            before = 0;
            U = U;
            n = payload_size bytes (block_of p) / (0 + size table U);
            entry_is = of'.entry_is;
            parts = subst (λ ps. AreParts bytes table ps us vs) o.1 parts;
            fits = div-mul-le_self (payload_size bytes (block_of p)) (0 + size table U);
            count = inl (of'.shape_is, refl);
          });
        }
    buffer_shows T (Some (Form.flat_map U)) f o tag of =
        let is = same_buffer k t T (sym tag ∙ o.0.has_tag) in
        let of' = rw f at (subst (λ u. OfBlock table kind.Buffer u (Some content)) is.1 (subst (λ j. OfBlock table j t (Some content)) is.0 of)) in
        record {
          low = o.0.after_header;
          links = rw of'.shape_is (subst (λ ls. OwesLinks bytes table ls bs ws) o.2 more);
          entries = inr (record {
            before = 8;
            U = U;
            n = payload_size bytes (block_of p) / (8 + size table U);
            entry_is = of'.entry_is;
            parts = subst (λ ps. AreParts bytes table ps us vs) o.1 parts;
            fits = div-mul-le_self (payload_size bytes (block_of p)) (8 + size table U);
            count = inl (of'.shape_is, refl);
          });
        }

    node_shows : (T : ℕ) (form : Option Form) → form_at table T ≡ form → OpensBlock bytes table p block.Kind.node T form values links → tag_at bytes (block_of p) ≡ tag_of (kind_of k) t → OfBlock table k t (Some content) →
        Shows content us bs vs ws
    node_shows T None f o tag of = absurd o
    node_shows T (Some Form.i64) f o tag of = absurd o
    node_shows T (Some Form.str) f o tag of = absurd o
    node_shows T (Some (Form.vec U)) f o tag of = absurd o
    node_shows T (Some (Form.flat_map U)) f o tag of = absurd o
    node_shows T (Some (Form.own U)) f o tag of = absurd o
    node_shows T (Some (Form.shared U)) f o tag of = absurd o
    node_shows T (Some (Form.struct Us)) f o tag of = absurd o
    node_shows T (Some (Form.list U)) f o tag of =
        let is = same_node k t T (sym tag ∙ o.0.has_tag) in
        let of' = rw f at (subst (λ u. OfBlock table kind.Node u (Some content)) is.1 (subst (λ j. OfBlock table j t (Some content)) is.0 of)) in
        let room = o.0.room in
        record {
          low = o.0.after_header;
          links = rw of'.shape_is (subst (λ ls. OwesLinks bytes table ls bs ws) o.2 more);
          entries = inr (record {
            before = 8;
            U = U;
            n = 1;
            entry_is = of'.entry_is;
            parts = subst (λ ps. AreParts bytes table ps us vs) o.1 parts;
            fits = omega arith;
            count = inr ((λ e. let g = of'.shape_is in cc), refl);
          });
        }
    node_shows T (Some (Form.map U)) f o tag of =
        let is = same_node k t T (sym tag ∙ o.0.has_tag) in
        let of' = rw f at (subst (λ u. OfBlock table kind.Node u (Some content)) is.1 (subst (λ j. OfBlock table j t (Some content)) is.0 of)) in
        let room = o.0.room in
        record {
          low = o.0.after_header;
          links = rw of'.shape_is (subst (λ ls. OwesLinks bytes table ls bs ws) o.2 more);
          entries = inr (record {
            before = 24;
            U = U;
            n = 1;
            entry_is = of'.entry_is;
            parts = subst (λ ps. AreParts bytes table ps us vs) o.1 parts;
            fits = omega arith;
            count = inr ((λ e. let g = of'.shape_is in cc), refl);
          });
        }

    shows_by : (kind_is : block.Kind) (T : ℕ) → OpensBlock bytes table p kind_is T (form_at table T) values links → tag_at bytes (block_of p) ≡ tag_of (kind_of k) t → OfBlock table k t (Some content) → Shows content us bs vs ws
    shows_by block.Kind.object T o tag of = object_shows T o tag of
    shows_by block.Kind.buffer T o tag of = buffer_shows T (form_at table T) refl o tag of
    shows_by block.Kind.node T o tag of = node_shows T (form_at table T) refl o tag of
    shows_by block.Kind.named T o tag of = absurd o
    shows_by block.Kind.index_buffer T o tag of = absurd o
    shows_by block.Kind.index_node T o tag of = absurd o
    shows_by block.Kind.frozen T o tag of = frozen_shows T o tag of

  -- the blocks that are freed with a block, by its content
  pub record Parted (content : Content) (xs ns : List ℕ) : Type 0 where
    pub us : List ℕ
    pub bs : List ℕ
    pub vs : List ℕ
    pub ws : List ℕ
    pub xs_are : SameBlocks xs (block_of p ∷ (us ++ bs))
    pub ns_are : SameBlocks ns (vs ++ ws)
    pub shows : Shows content us bs vs ws

  pub parted : (content : Content) (k : Kind) (t : ℕ) (xs ns : List ℕ) → tag_at bytes (block_of p) ≡ tag_of (kind_of k) t → OfBlock table k t (Some content) → GoesWith bytes table p xs ns → Parted content xs ns
  parted content k t xs ns tag of goes = go goes.owed goes.named goes.owes_it goes.owed_are goes.named_are
    where
      go : (owed named : List ℕ) → Owes bytes table p owed named → SameBlocks owed xs → SameBlocks named ns → Parted content xs ns
      go owed named (owes kind_is T values links us bs vs ws o parts more is named_is) same same_names = record {
        us = us;
        bs = bs;
        vs = vs;
        ws = ws;
        xs_are = λ h. sym (same h) ∙ ap (times h) is;
        ns_are = λ h. sym (same_names h) ∙ ap (times h) named_is;
        shows = shows_by content k t values links us bs vs ws parts more kind_is T o tag of;
      }

  -- a block without content doesn't wait
  no_content_by : (k : Kind) (t : ℕ) (values : List Place) (links : List ℕ) (kind_is : block.Kind) (T : ℕ) (form : Option Form) → form_at table T ≡ form → OpensBlock bytes table p kind_is T form values links →
      tag_at bytes (block_of p) ≡ tag_of (kind_of k) t → OfBlock table k t None → ⊥
  no_content_by k t values links block.Kind.object T form f o tag of =
      let is = same_object k t T (sym tag ∙ o.0.has_tag) in
      subst (λ u. OfBlock table kind.Object u None) is.1 (subst (λ j. OfBlock table j t None) is.0 of)
  no_content_by k t values links block.Kind.buffer T None f o tag of = o
  no_content_by k t values links block.Kind.buffer T (Some Form.i64) f o tag of = o
  no_content_by k t values links block.Kind.buffer T (Some (Form.list U)) f o tag of = o
  no_content_by k t values links block.Kind.buffer T (Some (Form.map U)) f o tag of = o
  no_content_by k t values links block.Kind.buffer T (Some (Form.own U)) f o tag of = o
  no_content_by k t values links block.Kind.buffer T (Some (Form.shared U)) f o tag of = o
  no_content_by k t values links block.Kind.buffer T (Some (Form.struct Us)) f o tag of = o
  no_content_by k t values links block.Kind.buffer T (Some Form.str) f o tag of =
      let is = same_buffer k t T (sym tag ∙ o.0.has_tag) in
      rw f at (subst (λ u. OfBlock table kind.Buffer u None) is.1 (subst (λ j. OfBlock table j t None) is.0 of))
  no_content_by k t values links block.Kind.buffer T (Some (Form.vec U)) f o tag of =
      let is = same_buffer k t T (sym tag ∙ o.0.has_tag) in
      rw f at (subst (λ u. OfBlock table kind.Buffer u None) is.1 (subst (λ j. OfBlock table j t None) is.0 of))
  no_content_by k t values links block.Kind.buffer T (Some (Form.flat_map U)) f o tag of =
      let is = same_buffer k t T (sym tag ∙ o.0.has_tag) in
      rw f at (subst (λ u. OfBlock table kind.Buffer u None) is.1 (subst (λ j. OfBlock table j t None) is.0 of))
  no_content_by k t values links block.Kind.node T None f o tag of = o
  no_content_by k t values links block.Kind.node T (Some Form.i64) f o tag of = o
  no_content_by k t values links block.Kind.node T (Some Form.str) f o tag of = o
  no_content_by k t values links block.Kind.node T (Some (Form.vec U)) f o tag of = o
  no_content_by k t values links block.Kind.node T (Some (Form.flat_map U)) f o tag of = o
  no_content_by k t values links block.Kind.node T (Some (Form.own U)) f o tag of = o
  no_content_by k t values links block.Kind.node T (Some (Form.shared U)) f o tag of = o
  no_content_by k t values links block.Kind.node T (Some (Form.struct Us)) f o tag of = o
  no_content_by k t values links block.Kind.node T (Some (Form.list U)) f o tag of =
      let is = same_node k t T (sym tag ∙ o.0.has_tag) in
      rw f at (subst (λ u. OfBlock table kind.Node u None) is.1 (subst (λ j. OfBlock table j t None) is.0 of))
  no_content_by k t values links block.Kind.node T (Some (Form.map U)) f o tag of =
      let is = same_node k t T (sym tag ∙ o.0.has_tag) in
      rw f at (subst (λ u. OfBlock table kind.Node u None) is.1 (subst (λ j. OfBlock table j t None) is.0 of))
  no_content_by k t values links block.Kind.named T form f o tag of = o
  no_content_by k t values links block.Kind.index_buffer T form f o tag of = o
  no_content_by k t values links block.Kind.index_node T form f o tag of = o
  no_content_by k t values links block.Kind.frozen T form f o tag of =
      let is = same_frozen k t T (sym tag ∙ o.0.has_tag) in
      subst (λ u. OfBlock table kind.Frozen u None) is.1 (subst (λ j. OfBlock table j t None) is.0 of)

  pub some_content : (k : Kind) (t : ℕ) (xs ns : List ℕ) → tag_at bytes (block_of p) ≡ tag_of (kind_of k) t → OfBlock table k t None → GoesWith bytes table p xs ns → ⊥
  some_content k t xs ns tag of goes = go goes.owed goes.named goes.owes_it
    where
      go : (owed named : List ℕ) → Owes bytes table p owed named → ⊥
      go owed named (owes kind_is T values links us bs vs ws o parts more is named_is) = no_content_by k t values links kind_is T (form_at table T) refl o tag of

  -- a value whose type the table lacks owns nothing
  lacking : (at T : ℕ) (zs ms : List ℕ) → IsPart bytes table (record { at = at; type = T }) zs ms → 256 ≤ T → Nothing zs ms
  lacking at T zs ms (inr n) large = record { no_blocks = n.1; no_names = n.2 }
  lacking at T zs ms (inl (v, holds form opened inside owned g q hs v_is is, names)) large = let l = below_length table T form g in let few = valid.few in absurd (omega arith)

  lone : (at T : ℕ) (zs ms : List ℕ) → AreParts bytes table (record { at = at; type = T } ∷ []) zs ms → 256 ≤ T → Nothing zs ms
  lone at T zs ms (more_parts {blocks = mine} {names = names} first no_parts) large =
      let n = lacking at T mine names first large in
      record { no_blocks = ap (λ bs. bs ++ []) n.no_blocks; no_names = ap (λ bs. bs ++ []) n.no_names }

  -- A tag that the program can't read is the tag of an object whose type the table lacks. Such an
  -- object owns nothing.
  unread_by : (values : List Place) (links us bs vs ws : List ℕ) (kind_is : block.Kind) (T : ℕ) (form : Option Form) → form_at table T ≡ form → OpensBlock bytes table p kind_is T form values links →
      AreParts bytes table values us vs → OwesLinks bytes table links bs ws → ((t : Tag) → t.type_id < 256 → tag_at bytes (block_of p) ≡ word_of t → ⊥) → Nothing us vs × Nothing bs ws
  unread_by values links us bs vs ws block.Kind.object T form f o parts more none =
      ⊎_elim (λ l. absurd (none (record { kind = kind.Object; type_id = T }) l o.0.has_tag))
      (λ large. (lone p T us vs (subst (λ ps. AreParts bytes table ps us vs) o.1 parts) large, no_further bytes table bs ws (subst (λ ls. OwesLinks bytes table ls bs ws) o.2 more))) (cases_lt T 256)
  unread_by values links us bs vs ws block.Kind.frozen T form f o parts more none =
      ⊎_elim (λ l. absurd (none (record { kind = kind.Frozen; type_id = T }) l o.0.has_tag))
      (λ large. (lone (p + 8) T us vs (subst (λ ps. AreParts bytes table ps us vs) o.1 parts) large, no_further bytes table bs ws (subst (λ ls. OwesLinks bytes table ls bs ws) o.2 more))) (cases_lt T 256)
  unread_by values links us bs vs ws block.Kind.buffer T None f o parts more none = absurd o
  unread_by values links us bs vs ws block.Kind.buffer T (Some form) f o parts more none = absurd (none (record { kind = kind.Buffer; type_id = T }) (small T form f) (tag_is form o))
    where
      small : (T : ℕ) (form : Form) → form_at table T ≡ Some form → T < 256
      small T form f = let l = below_length table T form f in let few = valid.few in omega arith

      tag_is : (form : Form) → OpensBlock bytes table p block.Kind.buffer T (Some form) values links → tag_at bytes (block_of p) ≡ tag_of block.Kind.buffer T
      tag_is Form.str o = o.0.has_tag
      tag_is (Form.vec U) o = o.0.has_tag
      tag_is (Form.flat_map U) o = o.0.has_tag
      tag_is Form.i64 o = absurd o
      tag_is (Form.list U) o = absurd o
      tag_is (Form.map U) o = absurd o
      tag_is (Form.own U) o = absurd o
      tag_is (Form.shared U) o = absurd o
      tag_is (Form.struct Us) o = absurd o
  unread_by values links us bs vs ws block.Kind.node T None f o parts more none = absurd o
  unread_by values links us bs vs ws block.Kind.node T (Some form) f o parts more none = absurd (none (record { kind = kind.Node; type_id = T }) (small T form f) (tag_is form o))
    where
      small : (T : ℕ) (form : Form) → form_at table T ≡ Some form → T < 256
      small T form f = let l = below_length table T form f in let few = valid.few in omega arith

      tag_is : (form : Form) → OpensBlock bytes table p block.Kind.node T (Some form) values links → tag_at bytes (block_of p) ≡ tag_of block.Kind.node T
      tag_is (Form.list U) o = o.0.has_tag
      tag_is (Form.map U) o = o.0.has_tag
      tag_is Form.i64 o = absurd o
      tag_is Form.str o = absurd o
      tag_is (Form.vec U) o = absurd o
      tag_is (Form.flat_map U) o = absurd o
      tag_is (Form.own U) o = absurd o
      tag_is (Form.shared U) o = absurd o
      tag_is (Form.struct Us) o = absurd o
  unread_by values links us bs vs ws block.Kind.named T form f o parts more none = absurd o
  unread_by values links us bs vs ws block.Kind.index_buffer T form f o parts more none = absurd o
  unread_by values links us bs vs ws block.Kind.index_node T form f o parts more none = absurd o

  pub unread : (xs ns : List ℕ) → ((t : Tag) → t.type_id < 256 → tag_at bytes (block_of p) ≡ word_of t → ⊥) → GoesWith bytes table p xs ns → SameBlocks xs (block_of p ∷ []) × SameBlocks ns []
  unread xs ns none goes = go goes.owed goes.named goes.owes_it goes.owed_are goes.named_are
    where
      go : (owed named : List ℕ) → Owes bytes table p owed named → SameBlocks owed xs → SameBlocks named ns → SameBlocks xs (block_of p ∷ []) × SameBlocks ns []
      go owed named (owes kind_is T values links us bs vs ws o parts more is named_is) same same_names =
          let e = unread_by values links us bs vs ws kind_is T (form_at table T) refl o parts more none in
          let both : us ++ bs ≡ [] = ap (λ zs. zs ++ bs) e.0.no_blocks ∙ e.1.no_blocks in
          let no_names : vs ++ ws ≡ [] = ap (λ zs. zs ++ ws) e.0.no_names ∙ e.1.no_names in
          ((λ h. sym (same h) ∙ ap (times h) (is ∙ ap (λ zs. block_of p ∷ zs) both)), (λ h. sym (same_names h) ∙ ap (times h) (named_is ∙ no_names)))

-- ---- its links, and then its entries

module _ (allocator : ℕ) (old mid new : List ℕ) (table here : Table) (same : here ≡ table) (valid : IsTable table) (p n : ℕ) (content : Content) (f g k : Option ℕ) (us bs vs ws xs ns ys names : List ℕ) (kept_cells : List Place)
    (theirs : ℕ → List ℕ) (final : List Frozen) (xs_are : SameBlocks xs (block_of p ∷ (us ++ bs))) (ns_are : SameBlocks ns (vs ++ ws))
    (s : Shows old table valid p content us bs vs ws) (w : Awaits allocator old table f ys (ns ++ names) kept_cells theirs final)
    (fits : AreLive old (xs ++ ys)) where
  home : ℕ
  home = block_of p

  counts : (h : ℕ) → times h (block_of p ∷ []) + times h us + times h bs + times h ys ≤ times h (positions (live old))
  counts h = let a = fits h in let b = times-append h xs ys in let c = xs_are h in let d = times-append h us bs in omega arith

  home_live : 1 ≤ times (block_of p) (positions (live old))
  home_live = let c = counts (block_of p) in let o = times-same (block_of p) [] in omega arith

  lies : LiesIn old heap_start (length old) (block_of p)
  lies = there (LiesIn old heap_start (length old)) (block_of p) (positions (live old)) (live-lie old allocator w.beside.pends.heap) home_live

  pub links_fit : AreLive old (block_of p ∷ (bs ++ ys))
  links_fit h = let c = counts h in let a = times-append h bs ys in omega arith

  pub inside_links : IsInside old (block_of p) p 8
  inside_links = let l = lies.size in let low = s.low in record { low = omega arith; high = omega arith }

  -- the targets of its links are released first
  pub links_waiting : Awaits allocator old table f ys (ws ++ (vs ++ names)) kept_cells theirs final
  links_waiting = awaits_names allocator old table f ys (ns ++ names) (ws ++ (vs ++ names)) kept_cells theirs final
      (λ h. omega (arith, ns_are h, times-append h ns names, times-append h vs ws, times-append h ws (vs ++ names), times-append h vs names)) w

  module _ (first : Adds allocator old mid table g bs ys (vs ++ names) kept_cells theirs final)
      (buffer : (b : Span) → content.shape ≡ shape.Buffer → p ≡ b.at + 16 → IsSized mid b → n ≡ (16 * b.units - 16) / content.entry.size) (one : (content.shape ≡ shape.Buffer → ⊥) → n ≡ 1)
      (text : content.entry.held ≡ held.Bytes → (new ≡ mid) × (k ≡ g))
      (entries : (home before U : ℕ) (zs ms : List ℕ) → IsEntryOf here before U content.entry → IsInside mid home p (n * (before + size here U)) → AreParts mid here (entries_at here p before U n) zs ms →
      AddsIn mid new here g k (home ∷ []) zs ms) where
    apart : times (block_of p) (bs ++ ys) ≡ 0
    apart = let c = counts (block_of p) in let o = times-same (block_of p) [] in let once = live-once old allocator w.beside.pends.heap (block_of p) in let a = times-append (block_of p) bs ys in omega arith

    kept : Rattle.seg_spec.specs.Owing.KeepsLinked old mid (block_of p)
    kept = first.keeps.others (block_of p) home_live apart

    live_same : (h : ℕ) → times h (positions (live mid)) ≡ times h (positions (live old))
    live_same h = ap (λ bs. times h (positions bs)) first.keeps.live_kept

    lies_mid : LiesIn mid heap_start (length mid) (block_of p)
    lies_mid = let l = live_same (block_of p) in let h = home_live in there (LiesIn mid heap_start (length mid)) (block_of p) (positions (live mid)) (live-lie mid allocator first.awaits.beside.pends.heap) (omega arith)

    entries_added : HasEntries old table valid p content us vs → Adds allocator old new table k (us ++ bs) ys names kept_cells theirs final
    entries_added e =
        let entries' : (home before U : ℕ) (zs ms : List ℕ) → IsEntryOf table before U content.entry → IsInside mid home p (n * (before + size table U)) → AreParts mid table (entries_at table p before U n) zs ms →
        AddsIn mid new table g k (home ∷ []) zs ms =
        subst (λ t. (home before U : ℕ) (zs ms : List ℕ) → IsEntryOf t before U content.entry → IsInside mid home p (n * (before + size t U)) → AreParts mid t (entries_at t p before U n) zs ms →
        AddsIn mid new t g k (home ∷ []) zs ms) same entries in
        let n_is : n ≡ e.n = ⊎_elim
        (λ b. buffer (record { at = block_of p; units = units_at mid (block_of p) }) b.0 (let low = s.low in omega arith) (let l = lies_mid in record { aligned = l.aligned; large = l.size; inside = l.high; size_is = refl })
        ∙ ap (λ m. payload_size mid (block_of p) / m) e.entry_is.size_is ∙ ap (λ m. m / (e.before + size table e.U)) kept.whole.size_kept ∙ sym b.1)
        (λ o. one o.0 ∙ sym o.1) e.count in
        let inside_old : IsInside old (block_of p) p (e.n * (e.before + size table e.U)) = let low = s.low in let room = e.fits in let l = lies.size in record { low = omega arith; high = omega arith } in
        let inside_mid = inside_then old mid (block_of p) p (e.n * (e.before + size table e.U)) lies.size inside_old kept in
        let disjoint : AreLive old ((bs ++ ys) ++ us) = λ h. let c = counts h in let a = times-append h (bs ++ ys) us in let b = times-append h bs ys in omega arith in
        let parts_mid = parts_then allocator old mid table valid w.beside.pends.heap (block_of p) (bs ++ ys) first.keeps home_live apart (entries_at table p e.before e.U e.n) us vs (entries_inside old table
        (block_of p) p e.before e.U e.n inside_old) disjoint e.parts in
        let fits_mid : AreLive mid (block_of p ∷ (us ++ (bs ++ ys))) = λ h. let c = counts h in let l = live_same h in let a = times-append h us (bs ++ ys) in let b = times-append h bs ys in omega arith in
        let second = entries' (block_of p) e.before e.U us vs e.entry_is (rw n_is inside_mid) (rw n_is parts_mid) allocator (bs ++ ys) names kept_cells theirs final valid first.awaits fits_mid in
        adds_twice allocator old mid new table g k bs us ys (us ++ bs) (vs ++ names) names kept_cells theirs final first second (λ h. refl)

    pub all_added : Adds allocator old new table k (us ++ bs) ys names kept_cells theirs final
    all_added = ⊎_elim text_added entries_added s.entries
      where
        text_added : (content.entry.held ≡ held.Bytes) × Nothing us vs → Adds allocator old new table k (us ++ bs) ys names kept_cells theirs final
        text_added t =
            let e = text t.0 in
            let first' : Adds allocator old mid table g bs ys names kept_cells theirs final = subst (λ ms. Adds allocator old mid table g bs ys (ms ++ names) kept_cells theirs final) t.1.no_names first in
            subst (λ zs. Adds allocator old new table k (zs ++ bs) ys names kept_cells theirs final) (sym t.1.no_blocks)
            (subst (λ b. Adds allocator old b table k bs ys names kept_cells theirs final) (sym e.0) (subst (λ o. Adds allocator old mid table o bs ys names kept_cells theirs final) (sym e.1) first'))
