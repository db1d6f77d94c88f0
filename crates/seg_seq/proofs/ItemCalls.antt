-- The results of the calls on vectors, from the results of the calls below.
use Rattle.std.proofs.Common.{◌≡◌, ℕ, ◌+◌, ◌-◌, ◌*◌, ◌%◌, ◌^◌, ◌<◌, inl, inr, min, List, [], ◌∷◌, length, Option, Some, refl, sym, ap, ◌∙◌, subst, arith, zero-add}
use Rattle.seg_spec.specs.Bytes.{set_word, ChangesOnly}
use Rattle.seg_spec.specs.Types.{Form, Table, IsTable, form_at, size}
use Rattle.seg_spec.specs.Value.{Value, Values, count, Seq, default_of}
use Rattle.seg_spec.specs.Reads.{count_at, start, Holds}
use Rattle.seg_spec.specs.Cells.{IsWithin}
use Rattle.seg_spec.specs.Window.{with_bytes}
use Rattle.seg_spec.specs.Calls.{Refuses}
use Rattle.seg_spec.specs.Growing.{Reserves}
use Rattle.seg_spec.specs.Owning.{Stands}
use Rattle.seg_spec.specs.Shared.{named_in}
use Rattle.seg_spec.specs.Clearing.{SharedBeside, BesideShared, ClearsPlace}
use Rattle.seg_spec.specs.Spending.{buffer_asks, units_named}
use Rattle.seg_spec.proofs.Values.PlaceWriteLaws.{place_within}
use Rattle.seg_spec.proofs.Tables.TypeSizeLaws.{size_large}
use Rattle.seg_raw.specs.declared.code.Code.TheVariants.{BadAlloc}
use Rattle.seg_value.specs.Stored.{Stored}
use Rattle.seg_cells.specs.Places.{object_at}
use Rattle.seg_cells.specs.Entries.{IsEntryOf}
use Rattle.seg_value.specs.Buffers.{NamesBuffer}
use Rattle.seg_cells.specs.declared.content.Content.{Content}
use Rattle.seg_cells.specs.declared.place.Place.{Place as Where}
use Rattle.seg_seq.specs.Buffers.{NamesNone}
use Rattle.seg_seq.specs.Sequences.{HasItems, IsFull, LacksRoom, CountsItem, PushesItem, PushesBack, PopsBack, push_asks}
use Rattle.seg_seq.proofs.Rooms.{entries_fit}
use Rattle.seg_seq.proofs.ItemRemovalLaws.{some_buffer, last, value_is, item_stands as item_stands_there, item_beside, item_lost}
use Rattle.seg_seq.proofs.ItemAdditionLaws.{has_each, count_few, has_buffer_now, item_within, item_added, item_parts, item_stands}

-- the entries of a vector's buffer are values of the item type
pub vector_entry : (table : Table) (T U : ℕ) (content : Content) → form_at table T ≡ Some (Form.vec U) → NamesBuffer table T content → IsEntryOf table 0 U content.entry
vector_entry table T U content f n = let c = rw f at n.0 in c.entry_is

item_known : (table : Table) (T U : ℕ) → IsTable table → form_at table T ≡ Some (Form.vec U) → U < length table
item_known table T U valid f = valid.forms T (Form.vec U) f

-- a position doesn't change if it is computed modulo 2^32
pub item_at : (first kept each before p n z at : ℕ) → first ≡ p → kept ≡ n → each ≡ z → before ≡ 0 → at ≡ (first + kept * each + before) % 2 ^ 32 → p + n * z < 2 ^ 32 → at ≡ p + n * z
item_at first kept each before p n z at a b c d e l = let f : at ≡ (p + n * z + 0) % 2 ^ 32 = rw (a, b, c, d) at e in omega arith

-- an option has at most one place
pub one_place : (o : Option Where) (a b : Where) → o ≡ Some a → o ≡ Some b → a ≡ b
one_place o a b e f = cc

module _ (allocator : ℕ) (old : Stored) (cell T U : ℕ) (vs : Values) (blocks : List ℕ) (h : HasItems allocator old (object_at cell T) U vs blocks) (each kept len : ℕ) (each_is : each ≡ 0 + size old.types U)
    (kept_is : kept ≡ count_at old.window.bytes cell) (len_is : len ≡ min (kept + 1) 4294967295) where
  one_size : each ≡ size old.types U
  one_size = omega arith

  one_longer : len ≡ count_at old.window.bytes cell + 1
  one_longer = let few = count_few allocator old.window.bytes old.types (object_at cell T) U vs blocks h.form_is h.stands in omega arith

  pub no_item_pushed : (new : Stored) → Refuses allocator old.window.bytes new.window.bytes (buffer_asks old.window.bytes cell each len) → LacksRoom allocator old new (push_asks old (object_at cell T) U) BadAlloc
  no_item_pushed new r = record { code_is = refl; refuses = rw (one_size, one_longer) at r }

  module _ (mid counted new : Stored) (r : Reserves allocator old.window.bytes mid.window.bytes old.types (object_at cell T) (Seq vs) blocks (buffer_asks old.window.bytes cell each len) (len * each))
      (counted_is : counted.window.bytes ≡ set_word mid.window.bytes (cell + 4) len) (same_types : counted.types ≡ old.types) (first before at V : ℕ) (first_is : first ≡ start mid.window.bytes cell) (before_is : before ≡ 0)
      (at_is : at ≡ (first + kept * each + before) % 2 ^ 32) (V_is : V ≡ U) where
    -- an item with any value was added
    pub any_pushed : (v : Value) → (IsWithin counted.window.bytes at (size counted.types V) → ChangesOnly counted.window.bytes new.window.bytes at (size counted.types V))
        → (IsWithin counted.window.bytes at (size counted.types V) → V < length counted.types → Holds new.window.bytes counted.types (object_at at V) v [])
        → PushesItem v allocator old new (object_at cell T) U vs blocks at
    any_pushed v changes item =
        let r' : Reserves allocator old.window.bytes mid.window.bytes old.types (object_at cell T) (Seq vs) blocks (push_asks old (object_at cell T) U) ((count_at old.window.bytes cell + 1) * size old.types U) =
        rw (one_size, one_longer) at r in
        let c' : counted.window.bytes ≡ set_word mid.window.bytes (cell + 4) (count_at old.window.bytes cell + 1) = rw one_longer at counted_is in
        let b = has_buffer_now allocator old.window.bytes mid.window.bytes old.types (object_at cell T) U vs blocks h.form_is h.stands (push_asks old (object_at cell T) U) r' counted.window.bytes c' in
        let within = item_within allocator old.window.bytes mid.window.bytes old.types (object_at cell T) U vs blocks h.form_is h.stands (push_asks old (object_at cell T) U) r' counted.window.bytes c' b.0 b.1 in
        let there : first ≡ b.0 = rw b.1 at first_is in
        let place : at ≡ b.0 + count_at old.window.bytes cell * size old.types U = item_at first kept each before b.0 (count_at old.window.bytes cell) (size old.types U) at there kept_is one_size before_is at_is
        (let f = within.fits in let m = within.small in omega arith) in
        let changes' = rw (V_is, same_types, place) at changes in
        let item' = rw (V_is, same_types, place) at item in
        let known = item_known old.types T U h.stands.is_table h.form_is in
        let done = changes' within in
        let it = item' within known in
        rw place (record {
          holds_it = record {
            others = r'.others;
            succeeds = item_added allocator old.window.bytes mid.window.bytes old.types (object_at cell T) U vs blocks h.form_is h.stands (push_asks old (object_at cell T) U) r' counted.window.bytes c' b.0 b.1 new.window.bytes v done it;
          };
          parts = item_parts allocator old.window.bytes mid.window.bytes old.types (object_at cell T) U vs blocks h.form_is h.stands (push_asks old (object_at cell T) U) r' counted.window.bytes c' b.0 b.1 new.window.bytes v done it;
          leads = item_stands allocator old.window.bytes mid.window.bytes old.types (object_at cell T) U vs blocks h.form_is h.stands (push_asks old (object_at cell T) U) r' counted.window.bytes c' b.0 b.1 new.window.bytes v done it;
        })

    pub item_pushed : (IsWithin counted.window.bytes at (size counted.types V) → ChangesOnly counted.window.bytes new.window.bytes at (size counted.types V))
        → (IsWithin counted.window.bytes at (size counted.types V) → V < length counted.types → Holds new.window.bytes counted.types (object_at at V) (default_of counted.types V) [])
        → PushesBack allocator old new (object_at cell T) U vs blocks at
    item_pushed changes default =
        let same : default_of counted.types V ≡ default_of old.types U = ap (λ t. default_of t V) same_types ∙ ap (default_of old.types) V_is in
        any_pushed (default_of old.types U) changes (λ within known. subst (λ v. Holds new.window.bytes counted.types (object_at at V) v []) same (default within known))

  -- one item more is counted, but not written yet
  module _ (mid counted : Stored) (r : Reserves allocator old.window.bytes mid.window.bytes old.types (object_at cell T) (Seq vs) blocks (buffer_asks old.window.bytes cell each len) (len * each))
      (counted_is : counted.window.bytes ≡ set_word mid.window.bytes (cell + 4) len) (first before at : ℕ) (first_is : first ≡ start mid.window.bytes cell) (before_is : before ≡ 0)
      (at_is : at ≡ (first + kept * each + before) % 2 ^ 32) where
    pub item_counted : CountsItem allocator old counted (object_at cell T) U vs blocks at
    item_counted = record {
      mid = mid.window.bytes;
      reserves = rw (one_size, one_longer) at r;
      counted = rw one_longer at counted_is;
      at_is = (let there : at ≡ (start mid.window.bytes cell + count_at old.window.bytes cell * size old.types U + 0) % 2 ^ 32 = rw (first_is, kept_is, one_size, before_is) at at_is in omega arith);
    }

-- the value that is then written is the item's
module _ (allocator : ℕ) (old : Stored) (cell T U : ℕ) (vs : Values) (blocks : List ℕ) (h : HasItems allocator old (object_at cell T) U vs blocks) (counted new : Stored) (at : ℕ)
    (c : CountsItem allocator old counted (object_at cell T) U vs blocks at) (same_types : counted.types ≡ old.types) where
  counted_few : count_at old.window.bytes cell + 1 ≡ min (count_at old.window.bytes cell + 1) 4294967295
  counted_few = let few = count_few allocator old.window.bytes old.types (object_at cell T) U vs blocks h.form_is h.stands in omega arith

  place_is : at ≡ (start c.mid cell + count_at old.window.bytes cell * size old.types U + 0) % 2 ^ 32
  place_is = let there = c.at_is in omega arith

  pub item_written : (v : Value) → (IsWithin counted.window.bytes at (size counted.types U) → ChangesOnly counted.window.bytes new.window.bytes at (size counted.types U))
      → (IsWithin counted.window.bytes at (size counted.types U) → U < length counted.types → Holds new.window.bytes counted.types (object_at at U) v [])
      → PushesItem v allocator old new (object_at cell T) U vs blocks at
  item_written v changes item =
      any_pushed allocator old cell T U vs blocks h (size old.types U) (count_at old.window.bytes cell) (count_at old.window.bytes cell + 1) (sym (zero-add (size old.types U))) refl counted_few
      (record { window = with_bytes old.window c.mid; types = old.types }) counted new c.reserves c.counted same_types (start c.mid cell) 0 at U refl refl place_is refl v changes item

-- a vector whose cell points to no buffer has no room for an item
pub none_is_full : (allocator : ℕ) (old : Stored) (cell T U : ℕ) (vs : Values) (blocks : List ℕ) → HasItems allocator old (object_at cell T) U vs blocks → NamesNone old.window.bytes cell → IsFull old (object_at cell T) U
none_is_full allocator old cell T U vs blocks h (inl e) =
    let none : units_named old.window.bytes cell ≡ 0 = rw e refl in
    let large = size_large old.types h.stands.is_table U in
    let m : (count_at old.window.bytes cell + 1) * size old.types U ≡ count_at old.window.bytes cell * size old.types U + size old.types U = grind arith in
    omega arith
none_is_full allocator old cell T U vs blocks h (inr short) =
    let within = place_within allocator old.window.bytes old.types (object_at cell T) (Seq vs) blocks h.stands in
    let large = size_large old.types h.stands.is_table T in
    absurd (omega arith)

-- ---- the last item is destroyed

module _ (allocator : ℕ) (old : Stored) (cell T U : ℕ) (vs : Values) (blocks : List ℕ) (h : HasItems allocator old (object_at cell T) U vs blocks) where
  pub items_counted : count vs ≡ count_at old.window.bytes cell
  items_counted = let e = has_each allocator old.window.bytes old.types (object_at cell T) U vs blocks h.form_is h.stands in e.counts

  module _ (mid new : Stored) (each n first before at V : ℕ) (each_is : each ≡ 0 + size old.types U) (counts : count vs ≡ n + 1) (first_is : first ≡ start old.window.bytes cell) (before_is : before ≡ 0)
      (at_is : at ≡ (first + n * each + before) % 2 ^ 32) (V_is : V ≡ U) (new_is : new.window.bytes ≡ set_word mid.window.bytes (cell + 4) n) where
    pub item_popped : ((v : Value) (bs : List ℕ) (t : Stands allocator old.window.bytes old.types (object_at at V) v bs) →
        BesideShared old.window.bytes old.types (t.home ∷ bs) (named_in v) (ClearsPlace old.window.bytes mid.window.bytes old.types (object_at at V) (default_of old.types V) bs []))
        → PopsBack old new (object_at cell T) vs h.stands.home blocks
    item_popped cleared =
        let more : count_at old.window.bytes cell ≡ n + 1 = sym items_counted ∙ counts in
        let b = some_buffer allocator old.window.bytes old.types (object_at cell T) U vs blocks h.form_is h.stands n more in
        let fits = entries_fit allocator old.window.bytes old.types (object_at cell T) (Form.vec U) (Seq vs) blocks h.form_is refl h.stands b.0 b.1 in
        let m : (n + 1) * size old.types U ≡ n * size old.types U + size old.types U = grind arith in
        let c : count_at old.window.bytes cell * size old.types U ≡ n * size old.types U + size old.types U = ap (λ k. k * size old.types U) more ∙ m in
        let there : first ≡ b.0 = rw b.1 at first_is in
        let place : at ≡ b.0 + n * size old.types U = item_at first n each before b.0 n (size old.types U) at there refl (let e : each ≡ size old.types U = omega arith in e) before_is at_is
        (let tiny = h.stands.heap.small in omega arith) in
        let last_is = last allocator old.window.bytes old.types (object_at cell T) U vs blocks h.form_is h.stands n more b.0 b.1 in
        let cleared' = rw (V_is, place) at cleared in
        let its = item_stands_there allocator old.window.bytes old.types (object_at cell T) U vs blocks h.form_is h.stands n more b.0 b.1 in
        let less : count vs - 1 ≡ n = omega arith in
        record {
          some = omega arith;
          loses = rw less (λ v e theirs kept now final beside.
              let same = value_is allocator old.window.bytes old.types (object_at cell T) U vs blocks h.form_is h.stands n more b.0 b.1 v e in
              let here = subst (λ u. SharedBeside old.window.bytes old.types (h.stands.home ∷ blocks) (named_in u) theirs kept now final) same beside in
              let c' = cleared' last_is.value last_is.zs its theirs kept now final
              (item_beside allocator old.window.bytes old.types (object_at cell T) U vs blocks h.form_is h.stands n more b.0 b.1 (named_in last_is.value) theirs kept now final here) in
              item_lost allocator old.window.bytes old.types (object_at cell T) U vs blocks h.form_is h.stands n more b.0 b.1 theirs now final beside.owned mid.window.bytes c' new.window.bytes new_is);
        }
