-- An item is added to a vector, from how the steps change the bytes.
use Rattle.std.proofs.Common.{◌≡◌, ℕ, ◌+◌, ◌*◌, ◌^◌, ◌<◌, ◌≤◌, inl, List, [], ◌∷◌, ◌++◌, Option, Some, None, refl, sym, ap, ◌∙◌, subst, arith}
use Rattle.std.specs.Prelude.{option_map, option_to_list}
use Rattle.std.specs.List.{AllByRecursion}
use Rattle.std.proofs.lemmas.List.{append-nil}
use Rattle.seg_spec.specs.Bytes.{set_word, IsSame, ChangesOnly}
use Rattle.seg_spec.specs.Pointer.{target}
use Rattle.seg_spec.specs.Types.{Form, Table, form_at, size}
use Rattle.seg_spec.specs.Value.{Value, Values, nil, cons, count, append, Seq, Selector}
use Rattle.seg_spec.specs.Block.{Kind, tag_of, block_of, IsInside, KeepsBlock, payload_size}
use Rattle.seg_spec.specs.Reads.{Place, count_at, named, start, items, NamesRoom, Holds, HoldsEach, holds_none, Leads}
use Rattle.seg_spec.specs.Cells.{IsWithin}
use Rattle.seg_spec.specs.Sound.{times}
use Rattle.seg_spec.specs.Parts.{PersistEach, KeepsParts}
use Rattle.seg_spec.specs.Owning.{Stands}
use Rattle.seg_spec.specs.Growing.{Succeeds, Reserves}
use Rattle.seg_spec.specs.Demand.{Ask}
use Rattle.seg_spec.proofs.SliceLaws.{IsSame-part, IsSame-trans}
use Rattle.seg_spec.proofs.Tables.TypeSizeLaws.{size_large}
use Rattle.seg_spec.proofs.Heap.LiveBlockLaws.{times-same, times-more, each_there, live-once}
use Rattle.seg_spec.proofs.Heap.BlockFrameLaws.{kept_twice}
use Rattle.seg_spec.proofs.Values.PathSplitLaws.{count_is, each_joined}
use Rattle.seg_spec.proofs.Values.CallPlaceLaws.{stands_after}
use Rattle.seg_spec.proofs.Values.BufferLaws.{holds_buffered, entries_stay, entries_kept, entries_come, each_entry_persists}
use Rattle.seg_spec.proofs.Values.PersistenceLaws.{persist_then}
use Rattle.seg_seq.proofs.CallPlaceLaws.{Leaves, begun, ended}
use Rattle.seg_seq.proofs.CountWriteLaws as counting
use Rattle.seg_seq.proofs.Rooms.{block_again, its, Reaches, reaches}
use Rattle.seg_seq.proofs.Items.{one_more, how_many, leads_to_item}

pub same_items : (vs ws : Values) → Seq vs ≡ Seq ws → vs ≡ ws
same_items vs ws e = cc

module _ (allocator : ℕ) (bytes : List ℕ) (table : Table) (place : Place) (U : ℕ) (vs : Values) (blocks : List ℕ) (f : form_at table place.type ≡ Some (Form.vec U)) (s : Stands allocator bytes table place (Seq vs) blocks) where
  -- the items of a vector
  pub record HasEach : Type 0 where
    pub owned : List ℕ
    pub each : HoldsEach bytes table (items table (start bytes place.at) U (count_at bytes place.at)) vs owned
    pub blocks_are : blocks ≡ named bytes place.at ++ owned
    pub counts : count vs ≡ count_at bytes place.at

  pub has_each : HasEach
  has_each =
      let i = its allocator bytes table place (Form.vec U) (Seq vs) blocks f refl s in
      let e = i.entries in
      let each = subst (λ ws. HoldsEach bytes table (items table (start bytes place.at) U (count_at bytes place.at)) ws i.owned) (sym (same_items vs e.0 e.1)) e.2 in
      record { owned = i.owned; each = each; blocks_are = i.blocks_are; counts = sym (count_is bytes table each) ∙ how_many table U (start bytes place.at) (count_at bytes place.at) }

  -- the items have at most 2^30 bytes
  pub few_items : count_at bytes place.at * size table U ≤ 2 ^ 30
  few_items = go (target bytes place.at) refl
    where
      go : (o : Option ℕ) → target bytes place.at ≡ o → count_at bytes place.at * size table U ≤ 2 ^ 30
      go None e = let none = Rattle.seg_seq.proofs.Rooms.none_counted allocator bytes table place (Form.vec U) (Seq vs) blocks f refl s e in rw none (omega arith)
      go (Some p) e = let fits = Rattle.seg_seq.proofs.Rooms.entries_fit allocator bytes table place (Form.vec U) (Seq vs) blocks f refl s p e in let n = s.heap.small in omega arith

  pub count_few : count_at bytes place.at < 2 ^ 31
  count_few = let few = few_items in let large = size_large table s.is_table U in let m = Rattle.std.proofs.Math.Nat.mul-le-mul_left (count_at bytes place.at) large in omega arith

module _ (allocator : ℕ) (old mid : List ℕ) (table : Table) (place : Place) (U : ℕ) (vs : Values) (blocks : List ℕ) (f : form_at table place.type ≡ Some (Form.vec U)) (s : Stands allocator old table place (Seq vs) blocks)
    (asks : List Ask) (r : Reserves allocator old mid table place (Seq vs) blocks asks ((count_at old place.at + 1) * size table U))
    (counted : List ℕ) (counted_is : counted ≡ set_word mid (place.at + 4) (count_at old place.at + 1)) where
  t : Stands allocator mid table place (Seq vs) r.others
  t = stands_after allocator old mid table place (Seq vs) (Seq vs) blocks r.others r.succeeds.left s r.succeeds.changes

  l : Leaves allocator old mid table place blocks r.others r.succeeds.left
  l = begun allocator old mid table place (Seq vs) (Seq vs) blocks r.others r.succeeds.left s r.succeeds.changes

  abbrev pub n : ℕ
  n = count_at old place.at

  small : n + 1 < 2 ^ 32
  small = let few = count_few allocator old table place U vs blocks f s in omega arith

  e : HasEach allocator mid table place U vs r.others f t
  e = has_each allocator mid table place U vs r.others f t

  same_count : count_at mid place.at ≡ n
  same_count = sym (e.counts) ∙ (has_each allocator old table place U vs blocks f s).counts

  large : 8 ≤ size table U
  large = size_large table s.is_table U

  -- the vector now has a buffer
  pub has_buffer_now : (p : ℕ) × (target mid place.at ≡ Some p)
  has_buffer_now = go (target mid place.at) refl
    where
      go : (o : Option ℕ) → target mid place.at ≡ o → (p : ℕ) × (target mid place.at ≡ Some p)
      go None e =
          let none : (count_at old place.at + 1) * size table U ≡ 0 = rw e at r.room in
          let more : (count_at old place.at + 1) * size table U ≡ count_at old place.at * size table U + size table U = grind arith in
          let w = large in
          absurd (omega arith)
      go (Some p) e = (p, e)

  module _ (p : ℕ) (is : target mid place.at ≡ Some p) where
    g : Reaches allocator mid table place (Form.vec U) (Seq vs) r.others f refl t p
    g = reaches allocator mid table place (Form.vec U) (Seq vs) r.others f refl t p is

    room : n * size table U + size table U ≤ payload_size mid (block_of p)
    room =
        let fits : (count_at old place.at + 1) * size table U ≤ payload_size mid (block_of p) = rw is at r.room in
        let more : (count_at old place.at + 1) * size table U ≡ count_at old place.at * size table U + size table U = grind arith in
        omega arith

    was_there : start mid place.at ≡ p
    was_there = rw is refl

    lc : Leaves allocator old counted table place blocks r.others r.succeeds.left
    lc = counting.count_leaves allocator old mid table s.is_table place blocks r.others r.succeeds.left l (n + 1) small counted counted_is

    header : IsSame mid counted (block_of p) 16
    header = counting.count_header allocator old mid table s.is_table place blocks r.others r.succeeds.left l (n + 1) small counted counted_is (block_of p) g.mine

    kept_first : IsSame mid counted p (n * size table U)
    kept_first =
        let k = counting.count_kept allocator old mid table s.is_table place blocks r.others r.succeeds.left l (n + 1) small counted counted_is (block_of p) g.mine in
        let fits = room in
        IsSame-part mid counted (block_of p + 16) (payload_size mid (block_of p)) p (n * size table U) (omega (arith, g.low)) (omega (arith, g.low)) k.payload

    -- the position of the item
    abbrev pub q : ℕ
    q = p + n * size table U

    pub item_inside : IsInside counted (block_of p) q (size table U)
    item_inside =
        let fits = room in
        let u = Rattle.seg_spec.proofs.Values.PlaceFrameLaws.word-same mid counted (block_of p) (IsSame-part mid counted (block_of p) 16 (block_of p) 4 (omega arith) (omega arith) header) in
        record { low = omega (arith, g.low); high = rw u (omega (arith, g.low, g.lies.size)) }

    pub item_within : IsWithin counted q (size table U)
    item_within =
        let fits = room in
        record { fits = omega (arith, g.high, lc.frames.length_kept, l.frames.length_kept); small = lc.heap.small }

    module _ (new : List ℕ) (v : Value) (changes : ChangesOnly counted new q (size table U)) (item : Holds new table (record { at = q; type = U }) v []) where
      ln : Leaves allocator old new table place blocks r.others r.succeeds.left
      ln = counting.inner_leaves allocator old counted table s.is_table place blocks r.others r.succeeds.left lc new (block_of p) q (size table U) changes item_inside g.mine

      names : target new place.at ≡ Some p
      names = counting.inner_names allocator old counted table s.is_table place blocks r.others r.succeeds.left lc new (block_of p) q (size table U) changes item_inside g.mine
          ∙ counting.count_names allocator old mid table s.is_table place blocks r.others r.succeeds.left l (n + 1) small counted counted_is ∙ is

      counts : count_at new place.at ≡ n + 1
      counts = counting.inner_count allocator old counted table s.is_table place blocks r.others r.succeeds.left lc new (block_of p) q (size table U) changes item_inside g.mine
          ∙ counting.count_is allocator old mid table s.is_table place blocks r.others r.succeeds.left l (n + 1) small counted counted_is

      header_now : IsSame mid new (block_of p) 16
      header_now = IsSame-trans mid counted new (block_of p) 16 header
          (counting.inner_header allocator old counted table s.is_table place blocks r.others r.succeeds.left lc new (block_of p) q (size table U) changes item_inside g.mine (block_of p) g.mine)

      first_now : IsSame mid new p (n * size table U)
      first_now = IsSame-trans mid counted new p (n * size table U) kept_first (changes.others p (n * size table U) (inl (omega arith)))

      others_are : r.others ≡ block_of p ∷ e.owned
      others_are = e.blocks_are ∙ ap (λ o. option_to_list (option_map block_of o) ++ e.owned) is

      owned_kept : AllByRecursion (KeepsBlock mid new) e.owned
      owned_kept = each_there (KeepsBlock mid new) e.owned (λ h some. one h some)
        where
          one : (h : ℕ) → 1 ≤ times h e.owned → KeepsBlock mid new h
          one h some =
              let mine : 1 ≤ times h r.others = rw others_are (omega (arith, times-more h (block_of p) e.owned)) in
              kept_twice mid counted new h (counting.count_kept allocator old mid table s.is_table place blocks r.others r.succeeds.left l (n + 1) small counted counted_is h mine)
              (counting.inner_kept allocator old counted table s.is_table place blocks r.others r.succeeds.left lc new (block_of p) q (size table U) changes item_inside g.mine h mine (λ same.
              let twice : 2 ≤ times (block_of p) r.others = rw others_are (let again : 1 ≤ times (block_of p) e.owned = subst (λ x. 1 ≤ times x e.owned) same some in omega (arith, times-same (block_of p) e.owned)) in
              omega (arith, l.owned (block_of p), times-more (block_of p) l.home r.others, live-once mid allocator l.heap (block_of p))))

      mid_items : HoldsEach mid table (items table p U n) vs e.owned
      mid_items = subst (λ k. HoldsEach mid table (items table p U k) vs e.owned) same_count
          (subst (λ a. HoldsEach mid table (items table a U (count_at mid place.at)) vs e.owned) was_there e.each)

      -- the items persist from the old buffer to the new one
      items_persist : PersistEach old new table (items table (start old place.at) U n) (items table p U n)
      items_persist =
          let first = each_entry_persists old mid table place (Form.vec U) (Seq vs) (Seq vs) blocks r.others f refl s.holds_it t.holds_it r.parts in
          let to_mid : PersistEach old mid table (items table (start old place.at) U n) (items table p U n) = rw (was_there, same_count) at first in
          persist_then old mid new table to_mid (entries_stay mid new table s.is_table (Form.vec U) p n (Seq vs) e.owned first_now owned_kept (vs, refl, mid_items))

      old_items : HoldsEach new table (items table p U n) vs e.owned
      old_items =
          let k = entries_kept mid new table s.is_table (Form.vec U) p n (Seq vs) e.owned first_now owned_kept (vs, refl, mid_items) in
          subst (λ ws. HoldsEach new table (items table p U n) ws e.owned) (sym (same_items vs k.0 k.1)) k.2

      all_items : HoldsEach new table (items table p U (n + 1)) (append vs (cons v nil)) e.owned
      all_items =
          let joined = each_joined new table old_items item holds_none in
          let j = subst (λ ps. HoldsEach new table ps (append vs (cons v nil)) (e.owned ++ [])) (sym (one_more table U p n)) joined in
          subst (HoldsEach new table (items table p U (n + 1)) (append vs (cons v nil))) (append-nil e.owned) j

      now_there : start new place.at ≡ p
      now_there = rw names refl

      room_now : NamesRoom new place.at (tag_of Kind.buffer place.type) (size table U)
      room_now =
          let fits = room in
          let more : (n + 1) * size table U ≡ n * size table U + size table U = grind arith in
          rw names (block_again mid new p (tag_of Kind.buffer place.type) (count_at mid place.at * size table U) (count_at new place.at * size table U) header_now (rw (counts, more) fits) g.block_is)

      holds_them : Holds new table place (Seq (append vs (cons v nil))) r.others
      holds_them =
          let each : HoldsEach new table (items table (start new place.at) U (count_at new place.at)) (append vs (cons v nil)) e.owned = rw (now_there, counts) all_items in
          let own : r.others ≡ named new place.at ++ e.owned = others_are ∙ ap (λ o. option_to_list (option_map block_of o) ++ e.owned) (sym names) in
          rw own (holds_buffered new table place (Form.vec U) (Seq (append vs (cons v nil))) e.owned f refl room_now (append vs (cons v nil), refl, each))

      pub item_added : Succeeds allocator old new table place (Seq (append vs (cons v nil))) asks [] blocks r.others
      item_added = record {
        left = r.succeeds.left;
        left_is = r.succeeds.left_is;
        changes = ended allocator old new table place blocks r.others r.succeeds.left ln (Seq (append vs (cons v nil))) holds_them;
      }

      pub item_parts : KeepsParts old new table place (count vs) 0 1
      item_parts =
          let c : count vs ≡ n = (has_each allocator old table place U vs blocks f s).counts in
          let all : items table (start new place.at) U (count_at new place.at) ≡ items table p U n ++ record { at = q; type = U } ∷ [] = rw (now_there, counts) (one_more table U p n) in
          let k = entries_come old new table place (Form.vec U) (Seq vs) (Seq (append vs (cons v nil))) blocks r.others f refl s.holds_it holds_them
          (record { at = q; type = U } ∷ []) (items table p U n) items_persist all in
          subst (λ m. KeepsParts old new table place m 0 1) (how_many table U (start old place.at) n ∙ sym c) k

      pub item_stands : Leads new table place (Selector.item (count vs) ∷ []) (record { at = q; type = U })
      item_stands =
          let c : count vs ≡ n = (has_each allocator old table place U vs blocks f s).counts in
          leads_to_item new table place U f (count vs) q room_now (rw (c, counts) (omega arith)) (rw (now_there, c) refl)
