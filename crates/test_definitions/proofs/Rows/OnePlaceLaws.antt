-- On two images that are alike, in one state, register b refers to one place, and an instruction makes
-- the same requests.
use Rattle.std.proofs.Common.{◌≡◌, ℕ, zero, suc, ◌+◌, ◌*◌, ◌≤◌, true, List, [], ◌∷◌, length, Option, Some, None, option_to_list, option_map, refl, sym, ap, ◌∙◌, subst, arith}
use Rattle.std.specs.Prelude.{unwrap_or}
use Rattle.std.specs.Option.{option_map_or}
use Rattle.seg_spec.specs.Bytes.{word}
use Rattle.seg_spec.specs.Header.{index_kind_word, index_cell}
use Rattle.seg_spec.specs.Pointer.{target}
use Rattle.seg_spec.specs.Types.{Form, Table, form_at, size}
use Rattle.seg_spec.specs.Value.{Value, Selector}
use Rattle.seg_spec.specs.Heap.{live, units_at}
use Rattle.seg_spec.specs.Block.{block_of, has_buffer}
use Rattle.seg_spec.specs.Reads.{Place, Opens, Holds, holds, Leads, here, into, count_at, named}
use Rattle.seg_spec.specs.Frozen.{frozen_words}
use Rattle.seg_spec.specs.Index.{Root, Index, OpensIndex}
use Rattle.seg_spec.specs.Sound.{times, positions}
use Rattle.seg_spec.specs.Roots.{item_of}
use Rattle.seg_spec.specs.Demand.{Ask, block_for, growth_if_needed}
use Rattle.seg_spec.specs.Spending.{units_named, buffer_asks, entry_asks}
use Rattle.seg_spec.proofs.Heap.LiveBlockLaws.{times-append, times-same}
use Rattle.seg_spec.proofs.Values.OneValueLaws.{Opens-one}
use Rattle.client_spec.specs.declared.table.Operation.{Operation}
use Rattle.client_spec.specs.Syntax.{Constant, Instruction}
use Rattle.client_spec.specs.Machine.{◌>>=◌, Path, State, at_origin}
use Rattle.client_spec.specs.Answer.{path_of, type_operand}
use Rattle.client_spec.specs.Pictures.{Pictures, root_at}
use Rattle.client_spec.specs.Asks.{LedTo, AsksAt, AsksBy, cell_asks, named_asks, new_bytes, new_count, found_key, if_absent, name_operand}
use Rattle.client_spec.specs.Ties.{places_of}
use Rattle.seg_spec.proofs.SliceLaws.{IsSame-part}
use Rattle.seg_spec.proofs.Values.PlaceFrameLaws.{word-same}
use Rattle.seg_spec.proofs.Values.ValueTypeLaws.{length-spaced}
use Rattle.test_definitions.proofs.Alike.RootMemberLaws.{as_many, index_live}
use Rattle.test_definitions.proofs.Rows.PathOriginLaws.{at_place}
use Rattle.test_definitions.specs.Alike.{AreAlike}
use Rattle.test_definitions.proofs.ValueChanges.AlikePlaceLaws.{buffer_counts, SameCell, same_pointer, open_alike, buffer_cell, buffer_blocks}
use Rattle.test_definitions.proofs.Alike.AlikeRootLaws.{same_units, LeadsInBoth, leads_in_both}

-- a path reaches one place
leads_one : (bytes : List ℕ) (table : Table) {a x y : Place} {path : List Selector} → Leads bytes table a path x → Leads bytes table a path y → x ≡ y
leads_one bytes table here here = refl
leads_one bytes table {y = y} (into {place = place} {path = path} form opened i part f o at p l) (into form' opened' j part' g o' at' p' l') =
    let forms : form' ≡ form = cc in
    let same : opened' ≡ opened = Opens-one bytes table place form opened' opened (subst (λ (k : Form). Opens bytes table place k opened') forms o') o in
    let index : j ≡ i = cc in
    let parts : part' ≡ part = cc in
    leads_one bytes table l (subst (λ (q : Place). Leads bytes table q path y) parts l')

-- a cell with a buffer of one size
pub record SameBuffer (first second : List ℕ) (at : ℕ) : Type 0 where
  pub cell : SameCell first second at
  pub units : units_named second at ≡ units_named first at

-- the requests for a buffer
buffer_same : (first second : List ℕ) (at : ℕ) → SameBuffer first second at → (item : ℕ) (wanted : ℕ → ℕ) → buffer_asks second at item (wanted (count_at second at)) ≡ buffer_asks first at item (wanted (count_at first at))
buffer_same first second at b item wanted = λ i. growth_if_needed (b.units i) (option_map block_of (b.cell.pointer i)) item (b.cell.count i) (wanted (b.cell.count i))

units_by : (first second : List ℕ) (at : ℕ) → SameCell first second at → ((h : ℕ) → 1 ≤ times h (named first at) → units_at second h ≡ units_at first h) → units_named second at ≡ units_named first at
units_by first second at cell same = ap (λ t. option_map_or (λ p. units_at second (block_of p)) t 0) cell.pointer ∙ go (target first at) (λ h some. same h some)
  where
    go : (t : Option ℕ) → ((h : ℕ) → 1 ≤ times h (option_to_list (option_map block_of t)) → units_at second h ≡ units_at first h)
        → option_map_or (λ p. units_at second (block_of p)) t 0 ≡ option_map_or (λ p. units_at first (block_of p)) t 0
    go None same = refl
    go (Some p) same = same (block_of p) (let n = times-same (block_of p) [] in omega arith)

-- register r refers to an object that there is
abbrev pub RefersTo : State → ℕ → Type 0
RefersTo s r = (path : Path) → path_of s r ≡ Some path → (found : Value × ℕ) × (at_origin s path.origin ≡ Some found)

module _ (constants : List Constant) (i : Instruction) {others : List Root} {s : State} {places first second : List ℕ} (alike : AreAlike others places first second) (p : Pictures others s first) (q : Pictures others s second)
    (at : places_of p.owned ≡ places) (at_too : places_of q.owned ≡ places) (there : RefersTo s i.b) where
  pub led_in_both : (place : Place) (form : Form) (a : LedTo constants i p place form) → LeadsInBoth alike p q at at_too a.path place
  led_in_both place form a = (let found = there a.path a.path_is in leads_in_both alike p q at at_too a.path place found.0 a.stands found.1)

  -- register b refers to one place
  pub led_one : (place other : Place) (form form' : Form) → LedTo constants i p place form → LedTo constants i q other form' → (place ≡ other) × (form ≡ form')
  led_one place other form form' a b =
      let l = led_in_both place form a in
      let paths : a.path ≡ b.path = (let e : Some a.path ≡ Some b.path = sym a.path_is ∙ b.path_is in cc) in
      let begins : ◌≡◌ {A = Option (Root × ℕ)} (Some (l.leads.root, l.leads.item)) (Some (b.stands.root, b.stands.item)) = sym l.leads.begins ∙ ap (λ (z : Path). root_at q z.origin) paths ∙ b.stands.begins in
      let same : ◌≡◌ {A = Root × ℕ} (l.leads.root, l.leads.item) (b.stands.root, b.stands.item) = cc in
      let from = ap (λ (z : Root × ℕ). item_of q.picture.table z.0 z.1) same in
      let by_start = subst (λ (z : Place). Leads second q.picture.table z a.path.selectors place) from l.leads.leads in
      let leads = subst (λ (z : Path). Leads second q.picture.table (item_of q.picture.table b.stands.root b.stands.item) z.selectors place) paths by_start in
      let one : place ≡ other = leads_one second q.picture.table leads b.stands.leads in
      let forms : Some form ≡ Some form' = sym a.form_is ∙ ap (λ (z : Place). form_at s.types z.type) one ∙ b.form_is in
      (one, cc)

  -- the buffer of the place
  pub place_buffer : (place : Place) (form : Form) (a : LedTo constants i p place form) → has_buffer (Some form) ≡ true → SameBuffer first second place.at
  place_buffer place form a some =
      let l = led_in_both place form a in by l.its l.holds_it l.are_live
    where
      table : Table
      table = p.picture.table

      by : {v : Value} (its : List ℕ) → Holds first table place v its → ((h : ℕ) → times h its ≤ times h (positions (live first))) → SameBuffer first second place.at
      by its (holds form' opened inside owned f o hs v_is blocks_are) are_live =
          let l = led_in_both place form a in
          let types : p.picture.table ≡ s.types = p.types in
          let forms : form' ≡ form = (let e : Some form' ≡ Some form = sym f ∙ ap (λ (t : Table). form_at t place.type) types ∙ a.form_is in cc) in
          let two = open_alike first second table form' opened f o l.alike_at in
          let buffer : has_buffer (Some form') ≡ true = ap (λ (k : Form). has_buffer (Some k)) forms ∙ some in
          let cell = buffer_cell first second table place opened form' buffer (o, two.opens, two.counts (buffer_counts form' buffer)) in
          record {
            cell = cell;
            units = units_by first second place.at cell (λ h there. same_units alike h (
                let all = ap (times h) blocks_are ∙ times-append h opened.blocks owned in
                let own : times h opened.blocks ≡ times h (named first place.at) = ap (times h) (buffer_blocks first table place opened form' buffer o) in
                omega (arith, are_live h, all, own, there)));
          }

  -- ---- requests

  cell_same : (o : Operation) (place : Place) (form : Form) → LedTo constants i p place form → cell_asks o constants i s second place.at form ≡ cell_asks o constants i s first place.at form
  cell_same Operation.PushBack place (Form.vec U) a = buffer_same first second place.at (place_buffer place (Form.vec U) a refl) (size s.types U) (λ n. n + 1)
  cell_same Operation.PutKey place (Form.flat_map U) a = ap (if_absent (found_key i s)) (buffer_same first second place.at (place_buffer place (Form.flat_map U) a refl) (8 + size s.types U) (λ n. n + 1))
  cell_same Operation.SetStr place Form.str a = buffer_same first second place.at (place_buffer place Form.str a refl) 1 (λ n. new_bytes constants i)
  cell_same Operation.AddStr place Form.str a = buffer_same first second place.at (place_buffer place Form.str a refl) 1 (λ n. n + new_bytes constants i)
  cell_same Operation.AddByte place Form.str a = buffer_same first second place.at (place_buffer place Form.str a refl) 1 (λ n. n + 1)
  cell_same o place form a = refl

  pub asks_at : (xs ys : List Ask) → AsksAt constants i p xs → AsksAt constants i q ys → xs ≡ ys
  asks_at xs ys a b =
      let one = led_one a.0 b.0 a.1 b.1 a.2 b.2 in
      a.3 ∙ sym (cell_same i.operation a.0 a.1 a.2) ∙ ap (λ (z : Place). cell_asks i.operation constants i s second z.at a.1) one.0 ∙ ap (λ (f : Form). cell_asks i.operation constants i s second b.0.at f) one.1 ∙ sym b.3

-- ---- requests for an entry

module _ {others : List Root} {places first second : List ℕ} (alike : AreAlike others places first second) where
  pub kinds : word first index_kind_word ≡ word second index_kind_word
  kinds = sym (word-same first second index_kind_word (IsSame-part first second 0 24 index_kind_word 4 (omega arith) (omega arith) alike.front_same))

  -- an entry of the index
  entry_same : entry_asks (word first index_kind_word) first ≡ entry_asks (word second index_kind_word) second
  entry_same = ap (λ k. entry_asks k first) kinds ∙ go (word second index_kind_word) (subst (λ k. OpensIndex first k index.0) kinds index.1) index_too.1
    where
      index : (x : Index) × OpensIndex first (word first index_kind_word) x × (x.blocks ≡ alike.held.index_blocks) × (length x.entries ≡ length alike.picture.names)
      index = (let n = alike.held.laid_out.names in (n.index, n.opens, sym n.blocks_are, as_many first alike.picture alike.held))

      index_too : (x : Index) × OpensIndex second (word second index_kind_word) x × (x.blocks ≡ alike.held_too.index_blocks) × (length x.entries ≡ length alike.picture.names)
      index_too = (let n = alike.held_too.laid_out.names in (n.index, n.opens, sym n.blocks_are, as_many second alike.picture alike.held_too))

      go : (k : ℕ) → OpensIndex first k index.0 → OpensIndex second k index_too.0 → entry_asks k first ≡ entry_asks k second
      go zero a b =
          let blocks : named second index_cell ≡ named first index_cell = sym (ap (λ (x : Index). x.blocks) b.index_is) ∙ index_too.2 ∙ alike.index_same ∙ sym index.2 ∙ ap (λ (x : Index). x.blocks) a.index_is in
          let count_first : count_at first index_cell ≡ length alike.picture.names = sym (length-spaced _ _ _) ∙ sym (ap (λ (x : Index). length x.entries) a.index_is) ∙ index.3 in
          let count_second : count_at second index_cell ≡ length alike.picture.names = sym (length-spaced _ _ _) ∙ sym (ap (λ (x : Index). length x.entries) b.index_is) ∙ index_too.3 in
          let cell = same_pointer first second index_cell _ _ _ _ a.named_room b.named_room blocks (count_second ∙ sym count_first) in
          let mine : (h : ℕ) → 1 ≤ times h (named first index_cell) → 1 ≤ times h (positions (live first)) = λ h some. index_live first alike.picture alike.held h
          (subst (λ zs. 1 ≤ times h zs) (sym (ap (λ (x : Index). x.blocks) a.index_is) ∙ index.2) some) in
          sym (buffer_same first second index_cell (record { cell = cell; units = units_by first second index_cell cell (λ h some. same_units alike h (mine h some)) }) 8 (λ n. n + 1))
      go (suc k) a b = refl

  named_same : (constants : List Constant) (i : Instruction) (s : State) → named_asks constants i s first ≡ named_asks constants i s second
  named_same constants i s = ap (λ (entry : List Ask). unwrap_or (name_operand constants i s >>= λ name. new_count i.operation i s >>= λ n.
      Some (if_absent (s.names name) (block_for (n * size s.types (type_operand i.number) + length name) ∷ entry))) []) entry_same

module _ (constants : List Constant) (i : Instruction) {others : List Root} {s : State} {places first second : List ℕ} (alike : AreAlike others places first second) (p : Pictures others s first) (q : Pictures others s second)
    (at : places_of p.owned ≡ places) (at_too : places_of q.owned ≡ places) (there : at_place i.operation ≡ true → RefersTo s i.b) where
  asks_there : (o : Operation) → i.operation ≡ o → at_place o ≡ true → (xs ys : List Ask) → AsksAt constants i p xs → AsksAt constants i q ys → xs ≡ ys
  asks_there o is some xs ys a b = asks_at constants i alike p q at at_too (there (ap at_place is ∙ some)) xs ys a b

  pub asks_by : (o : Operation) → i.operation ≡ o → (xs ys : List Ask) → AsksBy constants i p o xs → AsksBy constants i q o ys → xs ≡ ys
  asks_by Operation.Make is xs ys a b = a ∙ named_same alike constants i s ∙ sym b
  asks_by Operation.FindOrMake is xs ys a b = a ∙ named_same alike constants i s ∙ sym b
  asks_by Operation.PushBack is xs ys a b = asks_there Operation.PushBack is refl xs ys a b
  asks_by Operation.PushFront is xs ys a b = asks_there Operation.PushFront is refl xs ys a b
  asks_by Operation.SetStr is xs ys a b = asks_there Operation.SetStr is refl xs ys a b
  asks_by Operation.AddStr is xs ys a b = asks_there Operation.AddStr is refl xs ys a b
  asks_by Operation.AddByte is xs ys a b = asks_there Operation.AddByte is refl xs ys a b
  asks_by Operation.PutKey is xs ys a b = asks_there Operation.PutKey is refl xs ys a b
  asks_by Operation.Freeze is xs ys a b =
      let one = led_one constants i alike p q at at_too (there (ap at_place is)) a.1 b.1 (Form.shared a.2) (Form.shared b.2) a.3 b.3 in
      let types : a.2 ≡ b.2 = (let e = one.1 in cc) in
      a.4 ∙ ap (λ T. block_for (frozen_words + size s.types T) ∷ []) types ∙ sym b.4
  asks_by o is xs ys a b = a ∙ sym b
