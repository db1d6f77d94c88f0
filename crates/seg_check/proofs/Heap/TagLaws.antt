-- The content of a block, by its tag.
use Rattle.std.proofs.Common.{◌≡◌, ℕ, ◌+◌, ◌*◌, ◌/◌, ◌%◌, ◌<◌, ◌⊎◌, inl, inr, List, [], length, Option, Some, None, true, false, refl, sym, ap, ◌∙◌, subst, arith}
use Rattle.seg_spec.specs.Frozen.{frozen_words}
use Rattle.seg_spec.specs.Types.{Form, Table, IsTable, form_at, size}
use Rattle.seg_spec.specs.Heap.{tag_at}
use Rattle.seg_spec.specs.Block as block
use Rattle.seg_spec.specs.Block.{kind_number, tag_of, block_of, IsOwnable, AllowsType}
use Rattle.seg_spec.specs.Owing.{entries_at}
use Rattle.seg_block.specs.Tags.{kind_of, word_of}
use Rattle.seg_block.specs.declared.tag.Kind.{Kind}
use Rattle.seg_block.specs.declared.tag.Kind.TheVariants as kind
use Rattle.seg_block.specs.declared.tag.Tag.{Tag}
use Rattle.seg_cells.specs.Entries.{IsEntryOf}
use Rattle.seg_cells.specs.Contents.{IsContent, ContentOf, OfBlock}
use Rattle.seg_cells.specs.declared.content.Content.{Content}
use Rattle.seg_cells.specs.declared.content.Shape.TheVariants.{Object}
use Rattle.seg_cells.specs.declared.entry.Entry.{Entry}
use Rattle.seg_check.proofs.Heap.TagNumberLaws.{number_small, one_tag, type_small, kind_from, kind_of-from}
use Rattle.seg_check.specs.declared.marks.Turn.{Turn}
use Rattle.seg_check.specs.Turns.{kind_numbered, places_by, places_with, places_in, entries_by, IsEntryFor, HasEntries}

kind_again : (k : block.Kind) (T : ℕ) → kind_numbered (tag_of k T % 256) ≡ Some k
kind_again block.Kind.named T = let e : (1 + 256 * T) % 256 ≡ 1 = omega arith in ap kind_numbered e
kind_again block.Kind.object T = let e : (2 + 256 * T) % 256 ≡ 2 = omega arith in ap kind_numbered e
kind_again block.Kind.buffer T = let e : (3 + 256 * T) % 256 ≡ 3 = omega arith in ap kind_numbered e
kind_again block.Kind.node T = let e : (4 + 256 * T) % 256 ≡ 4 = omega arith in ap kind_numbered e
kind_again block.Kind.index_buffer T = let e : (5 + 256 * T) % 256 ≡ 5 = omega arith in ap kind_numbered e
kind_again block.Kind.index_node T = let e : (6 + 256 * T) % 256 ≡ 6 = omega arith in ap kind_numbered e
kind_again block.Kind.frozen T = let e : (7 + 256 * T) % 256 ≡ 7 = omega arith in ap kind_numbered e

type_again : (k : block.Kind) (T : ℕ) → tag_of k T / 256 ≡ T
type_again k T = let s = (number_small k).1 in omega arith

module _ (bytes : List ℕ) (table : Table) (valid : IsTable table) where
  -- the places of a queue entry, by the tag of its block
  pub places_tagged : (turn : Turn) (k : block.Kind) (T : ℕ) → tag_at bytes (block_of turn.start) ≡ tag_of k T → places_in bytes table turn ≡ places_with table (Some k) T turn.start turn.count
  unfolding places_in
  places_tagged turn k T e =
      let kinds : kind_numbered (tag_at bytes (block_of turn.start) % 256) ≡ Some k = ap (λ n. kind_numbered (n % 256)) e ∙ kind_again k T in
      let types : tag_at bytes (block_of turn.start) / 256 ≡ T = ap (λ n. n / 256) e ∙ type_again k T in
      (λ i. places_with table (kinds i) (types i) turn.start turn.count)

  tagged_at : (b : ℕ) (turn : Turn) (k : block.Kind) (T : ℕ) → tag_at bytes b ≡ tag_of k T → b ≡ block_of turn.start → places_in bytes table turn ≡ places_with table (Some k) T turn.start turn.count
  tagged_at b turn k T e same = places_tagged turn k T (ap (tag_at bytes) (sym same) ∙ e)

  -- ---- the entries

  has_entries : (b before U : ℕ) (entry : Entry) → IsEntryOf table before U entry → U < length table
      → ((turn : Turn) → b ≡ block_of turn.start → places_in bytes table turn ≡ entries_at table turn.start before U turn.count) → HasEntries bytes table b entry
  has_entries b before U entry is known places = record {
    places = (λ turn same. places turn same ∙ sym (λ i. entries_by table (is.held_is i) (is.before_is i) turn.start turn.count));
    entry_is = subst (IsEntryFor table entry) (sym is.held_is) (is.size_is ∙ ap (λ n. n + size table U) (sym is.before_is), known);
  }

  pub stands_object : (b : ℕ) (k : block.Kind) (T : ℕ) (content : Content) → ((start n : ℕ) → places_with table (Some k) T start n ≡ entries_at table start 0 T n) → T < length table → tag_at bytes b ≡ tag_of k T
      → IsContent table Object (tag_of block.Kind.object T) 0 T content → HasEntries bytes table b content.entry
  stands_object b k T content are known e c = has_entries b 0 T content.entry c.entry_is known (λ turn same. tagged_at b turn k T e same ∙ are turn.start turn.count)

  pub allowed_as : (b : ℕ) (k : block.Kind) (T : ℕ) → IsOwnable bytes table b → tag_at bytes b ≡ tag_of k T → AllowsType table k T
  allowed_as b k T own e =
      let one = one_tag own.kind k own.type T (sym own.tag_is ∙ e) in
      subst (λ j. AllowsType table j T) one.0 (subst (λ S. AllowsType table own.kind S) one.1 own.allowed)

  pub stands_named : (b T : ℕ) (content : Content) → IsOwnable bytes table b → tag_at bytes b ≡ tag_of block.Kind.named T → IsContent table Object (tag_of block.Kind.object T) 0 T content → HasEntries bytes table b content.entry
  stands_named b T content own e c = stands_object b block.Kind.named T content (λ start n. refl) (allowed_as b block.Kind.named T own e) e c

  -- the types whose values have buffers or nodes, by their form
  stands_by : (b : ℕ) (k : block.Kind) (T : ℕ) (o : Option Form) (content : Content) → form_at table T ≡ o → ((start n : ℕ) → places_with table (Some k) T start n ≡ places_by table o start n)
      → (block.has_buffer o ≡ true) ⊎ (block.has_nodes o ≡ true)
      → tag_at bytes b ≡ tag_of k T → ContentOf table T o (Some content) → HasEntries bytes table b content.entry
  stands_by b k T None content f are has e c = absurd c
  stands_by b k T (Some Form.i64) content f are has e c = absurd c
  stands_by b k T (Some (Form.struct Us)) content f are has e c = absurd c
  stands_by b k T (Some (Form.shared U)) content f are has e c = absurd c
  stands_by b k T (Some (Form.own U)) content f are has e c = absurd (apart has)
    where
      apart : (false ≡ true) ⊎ (false ≡ true) → ⊥
      apart (inl h) = cc
      apart (inr h) = cc
  stands_by b k T (Some Form.str) content f are has e c = record {
    places = (λ turn same. tagged_at b turn k T e same ∙ are turn.start turn.count ∙ sym (ap (λ h. entries_by table h content.entry.before turn.start turn.count) c.held_is));
    entry_is = subst (IsEntryFor table content.entry) (sym c.held_is) tt;
  }
  stands_by b k T (Some (Form.vec U)) content f are has e c = has_entries b 0 U content.entry c.entry_is (valid.forms T (Form.vec U) f) (λ turn same. tagged_at b turn k T e same ∙ are turn.start turn.count)
  stands_by b k T (Some (Form.list U)) content f are has e c = has_entries b 8 U content.entry c.entry_is (valid.forms T (Form.list U) f) (λ turn same. tagged_at b turn k T e same ∙ are turn.start turn.count)
  stands_by b k T (Some (Form.flat_map U)) content f are has e c = has_entries b 8 U content.entry c.entry_is (valid.forms T (Form.flat_map U) f) (λ turn same. tagged_at b turn k T e same ∙ are turn.start turn.count)
  stands_by b k T (Some (Form.map U)) content f are has e c = has_entries b 24 U content.entry c.entry_is (valid.forms T (Form.map U) f) (λ turn same. tagged_at b turn k T e same ∙ are turn.start turn.count)

  none_some : {X : Type 0} (x : X) → None ≡ Some x → ⊥
  none_some x h = cc

  pub stands_in : (b : ℕ) (k : Kind) (T : ℕ) (content : Content) → (k ≡ kind.Named → ⊥) → IsOwnable bytes table b → tag_at bytes b ≡ tag_of (kind_of k) T → OfBlock table k T (Some content) → HasEntries bytes table b content.entry
  stands_in b kind.Named T content other own e s = absurd (other refl)
  stands_in b kind.Object T content other own e s = stands_object b block.Kind.object T content (λ start n. refl) (allowed_as b block.Kind.object T own e) e s
  stands_in b kind.Buffer T content other own e s = stands_by b block.Kind.buffer T (form_at table T) content refl (λ start n. refl) (inl (allowed_as b block.Kind.buffer T own e)) e s
  stands_in b kind.Node T content other own e s = stands_by b block.Kind.node T (form_at table T) content refl (λ start n. refl) (inr (allowed_as b block.Kind.node T own e)) e s
  stands_in b kind.IndexBuffer T content other own e s = absurd (none_some content (sym s))
  stands_in b kind.IndexNode T content other own e s = absurd (none_some content (sym s))
  stands_in b kind.Frozen T content other own e s =
      has_entries b frozen_words T content.entry s.entry_is (allowed_as b block.Kind.frozen T own e) (λ turn same. tagged_at b turn block.Kind.frozen T e same)

  -- ---- blocks without values

  none_by : (T start n : ℕ) (o : Option Form) → ContentOf table T o None → places_by table o start n ≡ []
  none_by T start n None c = refl
  none_by T start n (Some Form.i64) c = refl
  none_by T start n (Some Form.str) c = absurd c
  none_by T start n (Some (Form.vec U)) c = absurd c
  none_by T start n (Some (Form.list U)) c = absurd c
  none_by T start n (Some (Form.flat_map U)) c = absurd c
  none_by T start n (Some (Form.map U)) c = absurd c
  none_by T start n (Some (Form.own U)) c = absurd c
  none_by T start n (Some (Form.shared U)) c = refl
  none_by T start n (Some (Form.struct Us)) c = refl

  pub none_in : (b : ℕ) (k : Kind) (T : ℕ) → (k ≡ kind.Named → ⊥) → tag_at bytes b ≡ tag_of (kind_of k) T → OfBlock table k T None → (turn : Turn) → b ≡ block_of turn.start → places_in bytes table turn ≡ []
  none_in b kind.Named T other e s turn same = absurd (other refl)
  none_in b kind.Object T other e s turn same = absurd s
  none_in b kind.Buffer T other e s turn same = tagged_at b turn block.Kind.buffer T e same ∙ none_by T turn.start turn.count (form_at table T) s
  none_in b kind.Node T other e s turn same = tagged_at b turn block.Kind.node T e same ∙ none_by T turn.start turn.count (form_at table T) s
  none_in b kind.IndexBuffer T other e s turn same = tagged_at b turn block.Kind.index_buffer T e same
  none_in b kind.IndexNode T other e s turn same = tagged_at b turn block.Kind.index_node T e same
  none_in b kind.Frozen T other e s turn same = absurd s

  -- ---- each block that the table allows has a tag

  pub has_tag : (b : ℕ) → IsOwnable bytes table b → ((t : Tag) → t.type_id < 256 → tag_at bytes b ≡ word_of t → None ≡ Some t) → ⊥
  has_tag b own every =
      let t : Tag = record { kind = kind_from own.kind; type_id = own.type } in
      let small = type_small table valid own.kind own.type own.allowed in
      none_some t (every t (omega arith) (own.tag_is ∙ sym (ap (λ k. tag_of k own.type) (kind_of-from own.kind))))
