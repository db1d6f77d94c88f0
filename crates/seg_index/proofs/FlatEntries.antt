-- The entries of a flat index, by their indices.
use Rattle.std.proofs.Common.{◌≡◌, ℕ, zero, suc, ◌+◌, ◌*◌, ◌%◌, ◌^◌, ◌<◌, ◌≤◌, List, [], ◌∷◌, length, Option, Some, None, Result, Ok, MatchResult, min, IfOk, IfErr, refl, sym, ap, ◌∙◌, subst, arith}
use Rattle.std.specs.Prelude.{slice_get, option_map}
use Rattle.std.specs.Cmp.Lexicographic.{slice_cmp}
use Rattle.std.specs.Ordering.{nat_cmp}
use Rattle.std.specs.declared.cmp.Ordering.{Ordering}
use Rattle.std.specs.declared.cmp.Ordering.TheVariants.{Equal}
use Rattle.std.proofs.lemmas.Option.{slice_get_past}
use Rattle.seg_spec.specs.Bytes.{word}
use Rattle.seg_spec.specs.Header.{index_kind_word, index_cell, heap_start}
use Rattle.seg_spec.specs.Pointer.{target}
use Rattle.seg_spec.specs.Types.{Table}
use Rattle.seg_spec.specs.Heap.{live}
use Rattle.seg_spec.specs.Block.{block_of}
use Rattle.seg_spec.specs.Reads.{count_at, named, start, spaced}
use Rattle.seg_spec.specs.Index.{Root, Index, OpensIndex, OpensFlat, IsEntry, AreEntries}
use Rattle.seg_spec.specs.Sound.{times, positions}
use Rattle.seg_spec.proofs.Values.PathFrameLaws.{each_at}
use Rattle.seg_spec.proofs.Heap.LiveBlockLaws.{there, LiesIn, live-lie}
use Rattle.seg_cells.specs.Search.{IsBetween}
use Rattle.seg_value.specs.Names.{FindsNames}
use Rattle.seg_value.proofs.IndexEntryLaws.{name_block, name_room}
use Rattle.seg_cells.specs.Names.{name_at}
use Rattle.seg_cells.specs.NameEntries.{entry_read}
use Rattle.seg_index.specs.Lists.{entry_of, root_after, PartedNames, IsNamed, FindsNamesOf}
use Rattle.seg_cells.specs.declared.name_entry.NameEntry.{NameEntry}
use Rattle.seg_index.proofs.EntryLaws.{entry_reads, name_reads, type_small}
use Rattle.seg_index.proofs.RootOrder.{InOrder, get_there, get_below, halves_end, Searched, next_found}

-- ---- entries in a row

-- the entry at an index belongs to the root at that index
abbrev pub Indexed : List ℕ → ℕ → List Root → Type 0
Indexed bytes from names = (i : ℕ) (r : Root) → slice_get names i ≡ Some r → IsEntry bytes (from + i * 8) r

pub entries_length : (bytes : List ℕ) (from n : ℕ) (names : List Root) → AreEntries bytes (spaced from 8 n) names → length names ≡ n
entries_length bytes from zero [] h = refl
entries_length bytes from zero (r ∷ names) h = absurd h
entries_length bytes from (suc n) [] h = absurd h
entries_length bytes from (suc n) (r ∷ names) h = ap suc (entries_length bytes (from + 8) n names h.1)

pub entries_indexed : (bytes : List ℕ) (from n : ℕ) (names : List Root) → AreEntries bytes (spaced from 8 n) names → Indexed bytes from names
entries_indexed bytes from zero [] h i r e = cc
entries_indexed bytes from zero (s ∷ names) h i r e = absurd h
entries_indexed bytes from (suc n) [] h i r e = absurd h
entries_indexed bytes from (suc n) (s ∷ names) h zero r e =
    let same : s ≡ r = cc in
    let first : from ≡ from + 0 * 8 = omega arith in
    subst (λ p. IsEntry bytes p r) first (subst (λ (t : Root). IsEntry bytes from t) same h.0)
entries_indexed bytes from (suc n) (s ∷ names) h (suc i) r e =
    let next : from + 8 + i * 8 ≡ from + suc i * 8 = omega arith in
    subst (λ p. IsEntry bytes p r) next (entries_indexed bytes (from + 8) n names h.1 i r e)

pub entries_of : (bytes : List ℕ) (from n : ℕ) (names : List Root) → length names ≡ n → Indexed bytes from names → AreEntries bytes (spaced from 8 n) names
entries_of bytes from zero [] e h = tt
entries_of bytes from zero (r ∷ names) e h = absurd (omega arith)
entries_of bytes from (suc n) [] e h = absurd (omega arith)
entries_of bytes from (suc n) (r ∷ names) e h =
    let first : from + 0 * 8 ≡ from = omega arith in (
      subst (λ p. IsEntry bytes p r) first (h 0 r refl),
      entries_of bytes (from + 8) n names (omega arith) (λ i s at.
          let next : from + suc i * 8 ≡ from + 8 + i * 8 = omega arith in subst (λ p. IsEntry bytes p s) next (h (suc i) s at)),
    )

-- ---- the state in which calls on a flat index begin

module _ (allocator : ℕ) (bytes : List ℕ) (table : Table) (names : List Root) (blocks : List ℕ) (f : FindsNamesOf allocator bytes table names blocks) (flat : word bytes index_kind_word ≡ 0) where
  abbrev n : ℕ
  n = count_at bytes index_cell

  abbrev from : ℕ
  from = start bytes index_cell

  opens : OpensFlat bytes f.lists.index
  opens = subst (λ kind. OpensIndex bytes kind f.lists.index) flat f.lists.opens

  entries : AreEntries bytes (spaced from 8 n) names
  entries = subst (λ (index : Index). AreEntries bytes index.entries names) opens.index_is f.lists.entries

  pub flat_blocks : blocks ≡ named bytes index_cell
  flat_blocks = f.lists.blocks_are ∙ ap (λ (index : Index). index.blocks) opens.index_is

  pub flat_length : length names ≡ count_at bytes index_cell
  flat_length = entries_length bytes from n names entries

  pub flat_entry : (i : ℕ) (r : Root) → slice_get names i ≡ Some r → IsEntry bytes (start bytes index_cell + i * 8) r
  flat_entry = entries_indexed bytes from n names entries

  pub flat_named : (i : ℕ) (r : Root) → slice_get names i ≡ Some r → IsNamed bytes table r
  flat_named i r e = (each_at _ names i r f.named e).0

  -- the buffer's block is allocated
  pub flat_live : (h : ℕ) → times h (named bytes index_cell) ≤ times h (positions (live bytes))
  flat_live h = subst (λ bs. times h bs ≤ times h (positions (live bytes))) flat_blocks (f.owned h)

  -- an object's position is a multiple of 8 in the segment
  pub object_lies : (r : Root) → IsNamed bytes table r → (r.at % 8 ≡ 0) × (r.at < 2 ^ 32)
  object_lies r o =
      let l = there (LiesIn bytes heap_start (length bytes)) (block_of r.at) (positions (live bytes)) (live-lie bytes allocator f.heap) o.is_live in
      let past = o.block.after_header in
      let small = f.heap.small in
      (omega (arith, l.aligned), omega (arith, l.size, l.high))

  pub flat_finds : FindsNames allocator bytes table
  flat_finds = record {
    heap = f.heap;
    allocator_is = f.allocator_is;
    ownable = f.ownable;
    room = opens.named_room;
    is_live = λ h some. omega (arith, flat_live h);
    aligned = λ i t below e.
        let it = get_there names i (omega (arith, flat_length)) in
        let same : it.0.at ≡ t = (let points = (flat_entry i it.0 it.1).points in cc) in
        subst (λ p. p % 8 ≡ 0) same (object_lies it.0 (flat_named i it.0 it.1)).0;
  }

  -- if there are entries, there is a buffer
  flat_start : 1 ≤ n → (p : ℕ) × (target bytes index_cell ≡ Some p)
  flat_start some = go (target bytes index_cell) refl
    where
      go : (o : Option ℕ) → target bytes index_cell ≡ o → (p : ℕ) × (target bytes index_cell ≡ Some p)
      go None e = let none : n ≡ 0 = rw e at opens.named_room in absurd (omega arith)
      go (Some p) e = (p, e)

  -- an entry lies in the segment
  pub flat_fits : (i : ℕ) → i < count_at bytes index_cell → start bytes index_cell + i * 8 + 8 ≤ length bytes
  flat_fits i h =
      let it = flat_start (omega arith) in
      let start_is : start bytes index_cell ≡ it.0 = rw it.1 refl in
      let block = name_block allocator bytes table flat_finds it.0 it.1 in
      let room = name_room allocator bytes table flat_finds it.0 it.1 (n * 8) block.room in
      omega arith

  pub flat_position : (i : ℕ) → i < count_at bytes index_cell → (start bytes index_cell + i * 8) % 2 ^ 32 ≡ start bytes index_cell + i * 8
  flat_position i h = omega (arith, flat_fits i h, f.heap.small)

  below : (i : ℕ) (r : Root) → slice_get names i ≡ Some r → i < n
  below i r e = subst (λ k. i < k) flat_length (get_below names i r e)

  -- an entry is read at the position that the code computes
  pub flat_reads : (i : ℕ) (r : Root) → slice_get names i ≡ Some r → entry_read bytes ((start bytes index_cell + i * 8) % 2 ^ 32) ≡ entry_of r
  flat_reads i r e =
      let h = below i r e in
      ap (entry_read bytes) (flat_position i h) ∙ entry_reads bytes (from + i * 8) r (flat_entry i r e)

  pub flat_name : (i : ℕ) (r : Root) → slice_get names i ≡ Some r → name_at table bytes ((start bytes index_cell + i * 8) % 2 ^ 32) ≡ r.name
  flat_name i r e =
      let h = below i r e in
      let o = flat_named i r e in
      ap (name_at table bytes) (flat_position i h) ∙ name_reads bytes table r (type_small bytes table r f.is_table f.ownable o) o (from + i * 8) (flat_entry i r e)

  pub flat_none : (i : ℕ) → count_at bytes index_cell ≤ i → slice_get names i ≡ None
  flat_none i h = slice_get_past names i (omega (arith, flat_length))

  pub flat_order : InOrder names
  flat_order = f.lists.ascending

  -- ---- the binary search

  -- how the entry at an index compares with a name, as the code reads it
  abbrev pub Compares : ℕ → List ℕ → ℕ → Ordering → Type 0
  Compares first name i o = o ≡ slice_cmp nat_cmp (name_at table bytes ((first + i * 8) % 2 ^ 32)) name

  pub searched : (name : List ℕ) (first len : ℕ) (result : Result ℕ ℕ) → first ≡ start bytes index_cell → len ≡ count_at bytes index_cell
      → IfOk result (λ i. (i < len) × Compares first name i Equal) → IfErr result (λ i. (i ≤ len) × IsBetween (Compares first name) len i)
      → MatchResult result (λ i. (r : Root) × PartedNames names name i (r ∷ [])) (λ i. PartedNames names name i [])
  searched name first len result first_is len_is found missing =
      halves_end names flat_order name len (len_is ∙ sym flat_length) (Compares first name)
      (λ i r o at is. is ∙ ap (λ xs. slice_cmp nat_cmp xs name) (ap (λ p. name_at table bytes ((p + i * 8) % 2 ^ 32)) first_is ∙ flat_name i r at))
      result found missing

  -- ---- the results of calls that read

  -- the entry at an index belongs to the root at that index
  pub entry_got : (i len : ℕ) (entry : NameEntry) → len ≡ count_at bytes index_cell → i < len → ((r : Root) → slice_get names i ≡ Some r → entry ≡ entry_of r) → Some entry ≡ option_map entry_of (slice_get names i)
  entry_got i len entry len_is h is =
      let it = get_there names i (omega (arith, flat_length)) in
      ap Some (is it.0 it.1) ∙ sym (ap (option_map entry_of) it.1)

  pub entry_missing : (i len : ℕ) → len ≡ count_at bytes index_cell → len ≤ i → None ≡ option_map entry_of (slice_get names i)
  entry_missing i len len_is h = sym (ap (option_map entry_of) (flat_none i (omega arith)))

  -- the first entry after a name, from the result of a search
  pub next_index : (name : List ℕ) (r : Result ℕ ℕ) (i j : ℕ) → Searched names name r → r ≡ Ok i → j ≡ min (i + 1) 4294967295 → slice_get names j ≡ root_after names name
  next_index name r i j h e j_is =
      let it = next_found names name r i h e in
      let next : j ≡ suc i = omega (arith, it.0, flat_length, flat_fits i (subst (λ k. i < k) flat_length it.0), f.heap.small) in
      ap (slice_get names) next ∙ it.1
