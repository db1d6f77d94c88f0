-- The same blocks wait if they are kept, and one block more may be added.
use Rattle.std.proofs.Common.{◌≡◌, ℕ, zero, suc, ◌+◌, ◌-◌, ◌*◌, ◌/◌, ◌≤◌, inl, inr, List, ◌++◌, map, Option, Some, None, refl, sym, ◌∙◌, subst, arith}
use Rattle.std.proofs.Math.Nat.{div-mul-le_self}
use Rattle.std.specs.List.{AllByRecursion}
use Rattle.seg_spec.specs.Bytes.{IsSame}
use Rattle.seg_spec.specs.Types.{Form, Table, form_at, size, IsTable}
use Rattle.seg_spec.specs.Heap.{link_at}
use Rattle.seg_spec.specs.Block.{Kind, tag_of, IsBlock, KeepsBlock, block_of, payload_size}
use Rattle.seg_spec.specs.Reads.{Place, spaced, places_of, map_words}
use Rattle.seg_spec.specs.Owing.{KeepsWhole, KeepsLinked, NamesNothing, IsPart, AreParts, no_parts, more_parts, entries_of, OpensBlock, Owes, owes, OwesLinks, no_links, null_link, node_link, Waits, none_waits, waits}
use Rattle.seg_spec.proofs.SliceLaws.{IsSame-part}
use Rattle.seg_spec.proofs.Values.PlaceFrameLaws.{SamePlace, target-same, each_left, each_right, each_weaker, Holds-kept, IsBlock-kept, payload-same}
use Rattle.seg_spec.proofs.Values.CellChangeLaws.{each_cell_weaker}
use Rattle.seg_spec.specs.Frozen.{frozen_words}

module _ (old new : List ℕ) (table : Table) (valid : IsTable table) where
  nothing_kept : (at : ℕ) (form : Option Form) → IsSame old new at 8 → NamesNothing old at form → NamesNothing new at form
  nothing_kept at (Some Form.i64) s h = tt
  nothing_kept at None s h = target-same old new at (IsSame-part old new at 8 at 4 (omega arith) (omega arith) s) ∙ h
  nothing_kept at (Some Form.str) s h = target-same old new at (IsSame-part old new at 8 at 4 (omega arith) (omega arith) s) ∙ h
  nothing_kept at (Some (Form.vec U)) s h = target-same old new at (IsSame-part old new at 8 at 4 (omega arith) (omega arith) s) ∙ h
  nothing_kept at (Some (Form.list U)) s h = target-same old new at (IsSame-part old new at 8 at 4 (omega arith) (omega arith) s) ∙ h
  nothing_kept at (Some (Form.flat_map U)) s h = target-same old new at (IsSame-part old new at 8 at 4 (omega arith) (omega arith) s) ∙ h
  nothing_kept at (Some (Form.map U)) s h = target-same old new at (IsSame-part old new at 8 at 4 (omega arith) (omega arith) s) ∙ h
  nothing_kept at (Some (Form.own U)) s h = target-same old new at (IsSame-part old new at 8 at 4 (omega arith) (omega arith) s) ∙ h
  nothing_kept at (Some (Form.shared U)) s h = target-same old new at (IsSame-part old new at 8 at 4 (omega arith) (omega arith) s) ∙ h
  nothing_kept at (Some (Form.struct Us)) s h = target-same old new at (IsSame-part old new at 8 at 4 (omega arith) (omega arith) s) ∙ h

  pub part_kept : (place : Place) (blocks names : List ℕ) → SamePlace old new table place → AllByRecursion (KeepsBlock old new) blocks → IsPart old table place blocks names → IsPart new table place blocks names
  part_kept place blocks names s ks (inl h) = inl (h.0, Holds-kept old new table valid h.1 s ks, h.2)
  part_kept place blocks names s ks (inr h) =
      inr (
        each_cell_weaker table valid (λ d form. NamesNothing old (place.at + d) form) (λ d form. NamesNothing new (place.at + d) form) place.type
            (λ d form fits even n. nothing_kept (place.at + d) form (IsSame-part old new place.at (size table place.type) (place.at + d) 8 (omega arith) (omega arith) s) n) h.0,
        h.1,
        h.2,
      )

  pub parts_kept : {places : List Place} {blocks names : List ℕ} → AllByRecursion (SamePlace old new table) places → AllByRecursion (KeepsBlock old new) blocks → AreParts old table places blocks names
      → AreParts new table places blocks names
  parts_kept s ks no_parts = no_parts
  parts_kept s ks (more_parts {place = place} {blocks = blocks} {rest = rest} {names = names} first more) =
      more_parts (part_kept place blocks names s.0 (each_left _ blocks rest ks) first) (parts_kept s.1 (each_right _ blocks rest ks) more)

  -- the entries of a buffer lie in its payload
  entries_same : (p before U n k : ℕ) → IsSame old new p n → k * (before + size table U) ≤ n → AllByRecursion (SamePlace old new table) (places_of U (map (λ q. q + before) (spaced p (before + size table U) k)))
  entries_same p before U n zero s fits = tt
  entries_same p before U n (suc k) s fits =
      let each = before + size table U in
      let all : suc k * each ≡ each + k * each = grind arith in
      (IsSame-part old new p n (p + before) (size table U) (omega arith) (omega arith) s, entries_same (p + each) before U (n - each) k (IsSame-part old new p n (p + each) (n - each) (omega arith) (omega arith) s) (omega arith))

  whole_payload : (p tag n : ℕ) → KeepsWhole old new (block_of p) → IsBlock old p tag n → IsSame old new p (payload_size old (block_of p))
  whole_payload p tag n k b = let e : p - 16 + 16 ≡ p = omega (arith, b.after_header) in rw e at k.kept.payload

  -- the values and links of a block that is kept
  pub record Shown (p : ℕ) (kind : Kind) (T : ℕ) (form : Option Form) (values : List Place) (links : List ℕ) : Type 0 where
    pub opens : OpensBlock new table p kind T form values links
    pub values_same : AllByRecursion (SamePlace old new table) values
    pub links_same : AllByRecursion (λ at. IsSame old new at 4) links

  buffer_shown : (p T before U : ℕ) (values : List Place) (links : List ℕ) → KeepsWhole old new (block_of p) → IsBlock old p (tag_of Kind.buffer T) 0 → values ≡ entries_of old table p before U →
      AllByRecursion (SamePlace old new table) values
  buffer_shown p T before U values links k b e =
      rw e (entries_same p before U (payload_size old (block_of p)) (payload_size old (block_of p) / (before + size table U)) (whole_payload p _ 0 k b) (div-mul-le_self (payload_size old (block_of p)) (before + size table U)))

  entries_there : (p before U : ℕ) → KeepsWhole old new (block_of p) → entries_of new table p before U ≡ entries_of old table p before U
  entries_there p before U k = rw k.size_kept refl

  pub shown_kept : (p : ℕ) (kind : Kind) (T : ℕ) (form : Option Form) (values : List Place) (links : List ℕ) → KeepsWhole old new (block_of p) → OpensBlock old table p kind T form values links → Shown p kind T form values links
  shown_kept p Kind.object T form values links k o =
      let s = payload-same old new p _ (size table T) k.kept o.0 in
      record { opens = (IsBlock-kept old new p _ (size table T) k.kept o.0, o.1, o.2); values_same = rw o.1 (s, tt); links_same = rw o.2 tt }
  shown_kept p Kind.buffer T (Some Form.str) values links k o =
      record { opens = (IsBlock-kept old new p _ 0 k.kept o.0, o.1, o.2); values_same = rw o.1 tt; links_same = rw o.2 tt }
  shown_kept p Kind.buffer T (Some (Form.vec U)) values links k o =
      record { opens = (IsBlock-kept old new p _ 0 k.kept o.0, o.1 ∙ sym (entries_there p 0 U k), o.2); values_same = buffer_shown p T 0 U values links k o.0 o.1; links_same = rw o.2 tt }
  shown_kept p Kind.buffer T (Some (Form.flat_map U)) values links k o =
      record { opens = (IsBlock-kept old new p _ 0 k.kept o.0, o.1 ∙ sym (entries_there p 8 U k), o.2); values_same = buffer_shown p T 8 U values links k o.0 o.1; links_same = rw o.2 tt }
  shown_kept p Kind.node T (Some (Form.list U)) values links k o =
      let s = payload-same old new p _ (8 + size table U) k.kept o.0 in
      record {
        opens = (IsBlock-kept old new p _ (8 + size table U) k.kept o.0, o.1, o.2);
        values_same = rw o.1 (IsSame-part old new p (8 + size table U) (p + 8) (size table U) (omega arith) (omega arith) s, tt);
        links_same = rw o.2 (IsSame-part old new p (8 + size table U) p 4 (omega arith) (omega arith) s, tt);
      }
  shown_kept p Kind.node T (Some (Form.map U)) values links k o =
      let s = payload-same old new p _ (map_words + size table U) k.kept o.0 in
      record {
        opens = (IsBlock-kept old new p _ (map_words + size table U) k.kept o.0, o.1, o.2);
        values_same = rw o.1 (IsSame-part old new p (map_words + size table U) (p + map_words) (size table U) (omega arith) (omega arith) s, tt);
        links_same = rw o.2 (IsSame-part old new p (map_words + size table U) p 4 (omega arith) (omega arith) s, (IsSame-part old new p (map_words + size table U) (p + 4) 4 (omega arith) (omega arith) s, tt));
      }
  shown_kept p Kind.frozen T form values links k o =
      let s = payload-same old new p _ (frozen_words + size table T) k.kept o.0 in
      record {
        opens = (IsBlock-kept old new p _ (frozen_words + size table T) k.kept o.0, o.1, o.2);
        values_same = rw o.1 (IsSame-part old new p (frozen_words + size table T) (p + frozen_words) (size table T) (omega arith) (omega arith) s, tt);
        links_same = rw o.2 tt;
      }
  shown_kept p _ T _ values links k o = absurd o

  mutual
    pub Owes-kept : {p : ℕ} {blocks names : List ℕ} → AllByRecursion (KeepsWhole old new) blocks → Owes old table p blocks names → Owes new table p blocks names
    Owes-kept {p = p} ks (owes kind T values links xs ys ns ms o parts more is names_are) =
        let all = subst (λ bs. AllByRecursion (KeepsWhole old new) bs) is ks in
        let s = shown_kept p kind T (form_at table T) values links all.0 o in
        let whole = each_weaker (KeepsWhole old new) (KeepsBlock old new) (λ h k. k.kept) xs (each_left _ xs ys all.1) in
        owes kind T values links xs ys ns ms s.opens (parts_kept s.values_same whole parts) (OwesLinks-kept s.links_same (each_right _ xs ys all.1) more) is names_are

    pub OwesLinks-kept : {ats blocks names : List ℕ} → AllByRecursion (λ at. IsSame old new at 4) ats → AllByRecursion (KeepsWhole old new) blocks → OwesLinks old table ats blocks names → OwesLinks new table ats blocks names
    OwesLinks-kept s ks no_links = no_links
    OwesLinks-kept s ks (null_link {at = at} none more) = null_link (target-same old new at s.0 ∙ none) (OwesLinks-kept s.1 ks more)
    OwesLinks-kept s ks (node_link {at = at} {xs = xs} {ys = ys} p names first more) =
        node_link p (target-same old new at s.0 ∙ names) (Owes-kept (each_left _ xs ys ks) first) (OwesLinks-kept s.1 (each_right _ xs ys ks) more)

  -- the waiting blocks stay if all blocks that are freed with them are kept with their links
  pub Waits-kept : {first : Option ℕ} {blocks names : List ℕ} → AllByRecursion (KeepsLinked old new) blocks → Waits old table first blocks names → Waits new table first blocks names
  Waits-kept ks none_waits = none_waits
  Waits-kept ks (waits {p = p} {xs = xs} {ys = ys} {ns = ns} next first link more) =
      let mine = each_left _ xs ys ks in
      waits next (Owes-kept (each_weaker (KeepsLinked old new) (KeepsWhole old new) (λ h k. k.whole) xs mine) first) ((own_link xs ns mine first).link_kept ∙ link) (Waits-kept (each_right _ xs ys ks) more)
    where
      own_link : (xs ns : List ℕ) → AllByRecursion (KeepsLinked old new) xs → Owes old table p xs ns → KeepsLinked old new (block_of p)
      own_link xs ns mine (owes kind T values links us bs vs ws o parts rest is names_are) = (subst (λ hs. AllByRecursion (KeepsLinked old new) hs) is mine).0

  -- one block more waits, before the others
  pub push_waits : {p : ℕ} {first : Option ℕ} {xs ys ns ms : List ℕ} → Owes old table p xs ns → Waits old table first ys ms → AllByRecursion (KeepsWhole old new) xs → AllByRecursion (KeepsLinked old new) ys →
      link_at new (block_of p) ≡ first → Waits new table (Some p) (xs ++ ys) (ns ++ ms)
  push_waits {first = first} o w ks ls link = waits first (Owes-kept ks o) link (Waits-kept ls w)
