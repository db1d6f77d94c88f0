-- The index's entries as the code reads and writes them, compared to the definitions.
use Rattle.std.proofs.Common.{◌≡◌, ◌≢◌, ℕ, ◌+◌, ◌-◌, ◌/◌, ◌%◌, ◌^◌, ◌<◌, ◌≤◌, inl, List, length, Some, refl, sym, ap, ◌∙◌, subst, arith, []}
use Rattle.seg_spec.specs.Bytes.{half, byte, slice, number, number_of, set_number, set_word, spelling, ChangesOnly}
use Rattle.seg_spec.specs.Index.{Root, IsName, IsEntry}
use Rattle.seg_spec.specs.Pointer.{set_pointer, distance}
use Rattle.seg_spec.specs.Value.{count}
use Rattle.std.specs.List.{AllByRecursion}
use Rattle.seg_spec.specs.Types.{Table, IsTable}
use Rattle.seg_spec.specs.Heap.{live, tag_at}
use Rattle.seg_spec.specs.Block.{Kind, tag_of, block_of, AllowsType, IsOwnable}
use Rattle.seg_spec.proofs.Values.CallPlaceLaws.{live_at}
use Rattle.seg_spec.specs.Cells.{IsWithin}
use Rattle.seg_spec.proofs.BytesLaws.{number-set_other, number-slice, length-set_number}
use Rattle.seg_spec.proofs.SliceLaws.{slice-slice, slice-put_same}
use Rattle.seg_spec.proofs.Images.RootWriteLaws.{set_number-changes}
use Rattle.seg_spec.proofs.Values.CellChangeLaws.{ChangesOnly-trans, ChangesOnly-wider}
use Rattle.seg_spec.proofs.PointerLaws.{target-set_same, target-same}
use Rattle.seg_value.specs.Names.{IsSameEntry}
use Rattle.seg_cells.specs.Names.{type_at, name_after, name_of, name_at}
use Rattle.seg_cells.proofs.NamedTags.{is_named, in_block}
use Rattle.seg_cells.specs.NameEntries.{entry_read, second_word_of, write_entry}
use Rattle.seg_index.specs.Lists.{entry_of, IsNamed}
use Rattle.seg_cells.specs.declared.name_entry.NameEntry.{NameEntry}

-- ---- the parts of a word

-- a part of a word that was written
written_part : (bytes : List ℕ) (at n i w : ℕ) → at + 4 ≤ length bytes → i + w ≤ 4 → number w (set_word bytes at n) (at + i) ≡ number w (spelling 4 n) i
unfolding set_number
written_part bytes at n i w fits inside =
    let whole : slice (set_word bytes at n) at 4 ≡ spelling 4 n = slice-put_same bytes at (spelling 4 n) 4 refl fits in
    number-slice w (spelling 4 n) (set_word bytes at n) (at + i) i (sym (slice-slice (set_word bytes at n) at 4 i w inside) ∙ ap (λ s. slice s i w) whole)

low_half : (n : ℕ) → number 2 (spelling 4 n) 0 ≡ n % 2 ^ 16
unfolding number number_of slice
low_half n = omega arith

third_byte : (n : ℕ) → number 1 (spelling 4 n) 2 ≡ n / 2 ^ 16 % 2 ^ 8
unfolding number number_of slice
third_byte n = omega arith

fourth_byte : (n : ℕ) → number 1 (spelling 4 n) 3 ≡ n / 2 ^ 24 % 2 ^ 8
unfolding number number_of slice
fourth_byte n = omega arith

-- ---- the fields of an entry

pub entry_reads : (bytes : List ℕ) (entry : ℕ) (root : Root) → IsEntry bytes entry root → entry_read bytes entry ≡ entry_of root
entry_reads bytes entry root o = λ i. record { object = o.points i; count = o.counted i; name_len = o.measured i; zero = o.zero_is i }

-- an entry that was moved belongs to the same root
pub entry_moved : (old new : List ℕ) (from to : ℕ) (root : Root) → IsSameEntry old new from to → IsEntry old from root → IsEntry new to root
entry_moved old new from to root s o =
    let part = λ (i w : ℕ) (inside : i + w ≤ 4). number-slice w old new (to + 4 + i) (from + 4 + i)
    (sym (slice-slice new (to + 4) 4 i w inside) ∙ ap (λ b. slice b i w) s.1 ∙ slice-slice old (from + 4) 4 i w inside) in
    record {
      no_words = o.no_words;
      points = s.0 ∙ o.points;
      counted = ap (half new) (let e : to + 4 ≡ to + 4 + 0 = omega arith in e) ∙ part 0 2 (omega arith) ∙ ap (half old) (let e : from + 4 + 0 ≡ from + 4 = omega arith in e) ∙ o.counted;
      measured = ap (byte new) (let e : to + 6 ≡ to + 4 + 2 = omega arith in e) ∙ part 2 1 (omega arith) ∙ ap (byte old) (let e : from + 4 + 2 ≡ from + 6 = omega arith in e) ∙ o.measured;
      zero_is = ap (byte new) (let e : to + 7 ≡ to + 4 + 3 = omega arith in e) ∙ part 3 1 (omega arith) ∙ ap (byte old) (let e : from + 4 + 3 ≡ from + 7 = omega arith in e) ∙ o.zero_is;
      is_name = o.is_name;
      some = o.some;
      few = o.few;
    }

-- ---- bytes after an entry was written

pub write_entry-changes : (old : List ℕ) (at : ℕ) (entry : NameEntry) → ChangesOnly old (write_entry old at entry) at 8
write_entry-changes old at entry =
    let mid = set_pointer old at entry.object in
    ChangesOnly-trans old mid (write_entry old at entry) at 8
    (ChangesOnly-wider old mid at 4 at 8 (omega arith) (omega arith) (set_number-changes 4 old at (distance at entry.object)))
    (ChangesOnly-wider mid (write_entry old at entry) (at + 4) 4 at 8 (omega arith) (omega arith) (set_number-changes 4 mid (at + 4) (second_word_of entry)))

module _ (old : List ℕ) (at : ℕ) (root : Root) (within : IsWithin old at 8) (low : root.at < 2 ^ 32) (apart : root.at ≢ at + 1)
    (is_name : IsName root.name) (no_words : root.words ≡ []) (some : 1 ≤ count root.values) (few : count root.values ≤ 65535) where
  abbrev mid : List ℕ
  mid = set_pointer old at (Some root.at)

  abbrev rest : ℕ
  rest = second_word_of (entry_of root)

  mid_fits : at + 4 + 4 ≤ length mid
  mid_fits = let e = length-set_number 4 old at (distance at (Some root.at)) in omega (arith, within.fits)

  part_is : (i w p : ℕ) → p ≡ at + 4 + i → i + w ≤ 4 → number w (write_entry old at (entry_of root)) p ≡ number w (spelling 4 rest) i
  part_is i w p e inside = ap (number w (write_entry old at (entry_of root))) e ∙ written_part mid (at + 4) rest i w mid_fits inside

  pub entry_written : IsEntry (write_entry old at (entry_of root)) at root
  entry_written =
      let short = is_name.short in
      let small = within.small in
      record {
        no_words = no_words;
        points =
            target-same mid (write_entry old at (entry_of root)) at (number-set_other 4 4 mid (at + 4) rest at (inl (omega arith)))
            ∙ target-set_same old at (Some root.at) (omega (arith, within.fits)) (omega (arith, within.fits))
            (λ t e. let same : root.at ≡ t = cc in (subst (λ n. n < 2 ^ 32) same low, subst (λ n. n ≢ at + 1) same apart));
        counted = part_is 0 2 (at + 4) (omega arith) (omega arith) ∙ low_half rest ∙ omega arith;
        measured = part_is 2 1 (at + 6) (omega arith) (omega arith) ∙ third_byte rest ∙ omega arith;
        zero_is = part_is 3 1 (at + 7) (omega arith) (omega arith) ∙ fourth_byte rest ∙ omega arith;
        is_name = is_name;
        some = some;
        few = few;
      }

-- ---- the name of an entry

-- a named object's type is less than 32
pub type_small : (bytes : List ℕ) (table : Table) (root : Root) → IsTable table → AllByRecursion (λ b. IsOwnable bytes table b.at) (live bytes) → IsNamed bytes table root → root.type < 32
type_small bytes table root valid ownable named = by o.kind o.allowed (sym named.block.has_tag ∙ o.tag_is)
  where
    o : IsOwnable bytes table (block_of root.at)
    o = live_at (IsOwnable bytes table) (live bytes) (block_of root.at) ownable named.is_live

    by : (kind : Kind) → AllowsType table kind o.type → tag_of Kind.named root.type ≡ tag_of kind o.type → root.type < 32
    by Kind.named allowed e = let same : root.type ≡ o.type = omega arith in omega (arith, valid.few)
    by Kind.object allowed e = absurd (omega arith)
    by Kind.buffer allowed e = absurd (omega arith)
    by Kind.node allowed e = absurd (omega arith)
    by Kind.index_buffer allowed e = absurd (omega arith)
    by Kind.index_node allowed e = absurd (omega arith)
    by Kind.frozen allowed e = absurd (omega arith)

module _ (bytes : List ℕ) (table : Table) (root : Root) (small : root.type < 32) (named : IsNamed bytes table root) where
  pub type_is : type_at bytes root.at ≡ Some root.type
  type_is = in_block bytes root.at named.block.after_header ∙ is_named (tag_at bytes (root.at - 16)) root.type named.block.has_tag (omega arith)

  pub root_name : name_of table bytes (Some root.at) (count root.values) (length root.name) ≡ root.name
  root_name = ap (name_after table bytes root.at (count root.values) (length root.name)) type_is ∙ named.name_is

  pub name_reads : (entry : ℕ) → IsEntry bytes entry root → name_at table bytes entry ≡ root.name
  name_reads entry o = ap (λ (e : NameEntry). name_of table bytes e.object e.count e.name_len) (entry_reads bytes entry root o) ∙ root_name
