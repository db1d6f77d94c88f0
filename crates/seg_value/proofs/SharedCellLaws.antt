-- Shared cells: their targets, and how an empty cell is made to point to an object.
use Rattle.std.proofs.Common.{◌≡◌, ℕ, ◌+◌, ◌^◌, ◌<◌, ◌≤◌, List, [], ◌∷◌, ◌++◌, length, Option, Some, None, option_to_list, option_map, refl, sym, ap, ◌∙◌, subst, arith}
use Rattle.seg_spec.specs.Bytes.{set_word, ChangesOnly}
use Rattle.seg_spec.specs.Pointer.{target, distance, set_pointer}
use Rattle.seg_spec.specs.Types.{Form, Table, form_at, size}
use Rattle.seg_spec.specs.Value.{Value, Values, nil, Empty, node}
use Rattle.seg_spec.specs.Heap.{IsHeap, live, heap_start}
use Rattle.seg_spec.specs.Block.{KeepsBlock, IsPayload, block_of}
use Rattle.seg_spec.specs.Reads.{Place, Opened, count_at, shared_label, OpensShared, Opens, Holds, holds, HoldsEach, holds_none}
use Rattle.seg_spec.specs.Sound.{times, positions}
use Rattle.seg_spec.specs.Owning.{Stands}
use Rattle.seg_spec.specs.Frozen.{Frozen, blocks_by}
use Rattle.seg_spec.specs.Shared.{names_in, names_each}
use Rattle.seg_spec.specs.Destroying.{AreLive}
use Rattle.seg_spec.specs.Clearing.{ClearsPlace}
use Rattle.seg_spec.proofs.Tables.TypeSizeLaws.{size-form}
use Rattle.seg_spec.proofs.SliceLaws.{IsSame-part}
use Rattle.seg_spec.proofs.Values.PlaceFrameLaws.{word-same}
use Rattle.seg_spec.proofs.Heap.BlockFrameLaws.{around_twice}
use Rattle.seg_spec.proofs.Heap.LiveBlockLaws.{times-append, times-same, there, LiesIn, live-lie, live-once}
use Rattle.seg_spec.proofs.Values.PlaceWriteLaws.{place_within, whole_then, changes_place}
use Rattle.seg_spec.proofs.Deallocation.OwnLaws.{cell_changes, cell_names, cell_counts}
use Rattle.seg_spec.proofs.Deallocation.CellDestructionLaws.{same_form}
use Rattle.seg_spec.proofs.Frozen.FrozenBlockLaws.{hold_kept, frozen_twice, frozen_kept}
use Rattle.seg_spec.specs.Sharing.{cell_count}

-- ---- the target of a shared cell

-- the target of a cell, as a list of places
abbrev pub names_by : ℕ → Option ℕ → List Place
names_by T None = []
names_by T (Some p) = record { at = p; type = T } ∷ []

pub names_of_cell : (T : ℕ) (o : Option ℕ) → names_in (node (shared_label T o) nil) ≡ names_by T o
unfolding names_in names_each
names_of_cell T None = refl
names_of_cell T (Some p) = refl

counted_by : (o : Option ℕ) → cell_count o ≡ length (option_to_list (option_map block_of o))
counted_by None = refl
counted_by (Some p) = refl

module _ (bytes : List ℕ) (table : Table) (place : Place) (T : ℕ) (f : form_at table place.type ≡ Some (Form.shared T)) where
  pub record SharedCell (v : Value) (blocks : List ℕ) : Type 0 where
    pub value_is : v ≡ node (shared_label T (target bytes place.at)) nil
    pub payload : (p : ℕ) → target bytes place.at ≡ Some p → IsPayload p
    pub owns_none : blocks ≡ []

  pub shared_cell : (v : Value) (blocks : List ℕ) → Holds bytes table place v blocks → SharedCell v blocks
  shared_cell v blocks (holds form opened inside owned g o hs v_is is) =
      let same = same_form form (Form.shared T) (sym g ∙ f) in
      let o' : Opens bytes table place (Form.shared T) opened = subst (λ h. Opens bytes table place h opened) same o in
      shown opened inside owned o' hs v_is is
    where
      nothing : (vs : Values) (bs : List ℕ) → HoldsEach bytes table [] vs bs → (vs ≡ nil) × (bs ≡ [])
      nothing vs bs holds_none = (refl, refl)

      shown : (opened : Opened) (inside : Values) (owned : List ℕ) → OpensShared bytes place.at T opened → HoldsEach bytes table opened.parts inside owned → v ≡ node opened.label inside
          → blocks ≡ opened.blocks ++ owned → SharedCell v blocks
      shown opened inside owned o hs v_is is =
          let none = nothing inside owned (subst (λ ps. HoldsEach bytes table ps inside owned) (ap (λ (r : Opened). r.parts) o.opened_is) hs) in
          record {
            value_is = v_is ∙ ap (λ l. node l inside) (ap (λ (r : Opened). r.label) o.opened_is) ∙ ap (λ vs. node (shared_label T (target bytes place.at)) vs) none.0;
            payload = o.payload;
            owns_none = is ∙ ap (λ bs. bs ++ owned) (ap (λ (r : Opened). r.blocks) o.opened_is) ∙ none.1;
          }

  pub cell_holds : (o : Option ℕ) → target bytes place.at ≡ o → count_at bytes place.at ≡ cell_count o → ((p : ℕ) → o ≡ Some p → IsPayload p) → Holds bytes table place (node (shared_label T o) nil) []
  cell_holds o e n payload = holds {place = place} (Form.shared T) (record { label = shared_label T o; blocks = []; parts = [] }) nil [] f
      (record {
        payload = λ p is. payload p (sym e ∙ is);
        counted = n ∙ counted_by o ∙ ap (λ t. length (option_to_list (option_map block_of t))) (sym e);
        opened_is = ap (λ t. record { label = shared_label T t; blocks = []; parts = [] }) (sym e);
      }) holds_none refl refl

-- ---- an empty cell is made to point to an object

module _ (allocator : ℕ) (old : List ℕ) (table : Table) (cell : Place) (T : ℕ) (f : form_at table cell.type ≡ Some (Form.shared T)) (v : Value) (blocks : List ℕ) (s : Stands allocator old table cell v blocks) (theirs : ℕ → List ℕ)
    (now final : List Frozen) (fits : AreLive old ((s.home ∷ blocks) ++ blocks_by theirs now)) (few : (h : ℕ) → times h (blocks_by theirs final) ≤ times h (blocks_by theirs now))
    (mid : List ℕ) (e : ClearsPlace old mid table cell Empty blocks [] theirs now final) (object : Option ℕ) (payload : (p : ℕ) → object ≡ Some p → IsPayload p × (p < 2 ^ 32)) where
  abbrev shares : List ℕ
  shares = blocks_by theirs now

  abbrev those : List ℕ
  those = blocks_by theirs final

  counts : (h : ℕ) → times h (s.home ∷ []) + times h blocks + times h shares ≤ times h (positions (live old))
  counts h = omega (arith, fits h, times-append h (s.home ∷ blocks) shares)

  home_live : 1 ≤ times s.home (positions (live old))
  home_live = omega (arith, counts s.home, times-same s.home [])

  home_apart : times s.home (blocks ++ shares) ≡ 0
  home_apart = omega (arith, counts s.home, times-same s.home [], live-once old allocator s.heap s.home, times-append s.home blocks shares)

  live_mid : (h : ℕ) → times h (positions (live mid)) + times h blocks + times h shares ≡ times h (positions (live old)) + times h those
  live_mid h = omega (arith, e.changes.live_are h, times-append h blocks shares)

  pub stands : Stands allocator mid table cell Empty []
  stands = record {
    heap = subst (λ n. IsHeap n mid) s.allocator_is e.changes.heap;
    allocator_is = word-same old mid 16 (IsSame-part old mid 0 24 16 4 (omega arith) (omega arith) e.changes.front_kept) ∙ s.allocator_is;
    is_table = s.is_table;
    ownable = e.changes.ownable;
    holds_it = e.changes.holds_it;
    aligned = s.aligned;
    home = s.home;
    inside =
        let k = e.changes.kept s.home home_live home_apart in
        let room = k.header.room in
        let two = (there (LiesIn old heap_start (length old)) s.home (positions (live old)) (live-lie old allocator s.heap) home_live).size in record { low = s.inside.low; high = omega (arith, s.inside.high) };
    owned = λ h. omega (arith, live_mid h, counts h);
  }

  new : List ℕ
  new = set_word (set_pointer mid cell.at object) (cell.at + 4) (cell_count object)

  eight : size table cell.type ≡ 8
  eight = size-form table s.is_table cell.type (Form.shared T) f

  changes : ChangesOnly mid new cell.at (size table cell.type)
  unfolding new
  changes = rw eight (cell_changes mid cell.at (distance cell.at object) (cell_count object))

  alive_those : (h : ℕ) → 1 ≤ times h those → 1 ≤ times h (positions (live mid))
  alive_those h some = omega (arith, live_mid h, counts h)

  kept_those : (h : ℕ) → 1 ≤ times h those → KeepsBlock mid new h
  unfolding stands
  kept_those h some = whole_then allocator mid table cell Empty [] stands new changes h (alive_those h some) (λ same.
      let z : times h (s.home ∷ []) ≡ 1 + times h [] = subst (λ x. times x (s.home ∷ []) ≡ 1 + times x []) (sym same) (times-same s.home []) in
      absurd (omega (arith, counts h, few h, live-once old allocator s.heap h)))

  fits_cell : cell.at + 8 ≤ length mid
  fits_cell = let p = place_within allocator mid table cell Empty [] stands in let e8 = eight in omega arith

  names : target new cell.at ≡ object
  unfolding new
  names = cell_names mid cell.at (cell_count object) object fits_cell (let small = stands.heap.small in let room = fits_cell in omega arith) (λ t is.
      let p = payload t is in
      let even = s.aligned in
      let aligned = p.0.aligned in
      (p.1, λ odd. omega arith))

  one : count_at new cell.at ≡ cell_count object
  unfolding new
  one = cell_counts mid cell.at (distance cell.at object) (cell_count object) fits_cell (small object)
    where
      small : (o : Option ℕ) → cell_count o < 2 ^ 32
      small None = omega arith
      small (Some p) = omega arith

  pub pointed : ClearsPlace old (set_word (set_pointer mid cell.at object) (cell.at + 4) (cell_count object)) table cell (node (shared_label T object) nil) blocks [] theirs now final
  unfolding new
  pointed =
      let c = changes_place allocator mid table cell Empty [] stands new changes (node (shared_label T object) nil) [] [] (cell_holds new table cell T f object names one (λ p is. (payload p is).0)) in
      record {
        gives = e.gives;
        all_are = e.all_are;
        changes = record {
          length_kept = c.length_kept ∙ e.changes.length_kept;
          front_kept = c.front_kept ∙ e.changes.front_kept;
          back_kept = c.back_kept ∙ e.changes.back_kept;
          heap = subst (λ n. IsHeap n new) (word-same old mid 16 (IsSame-part old mid 0 24 16 4 (omega arith) (omega arith) e.changes.front_kept)) c.heap;
          ownable = c.ownable;
          holds_it = c.holds_it;
          live_is = c.live_is ∙ e.changes.live_is;
          live_are = λ h. omega (arith, c.live_are h, e.changes.live_are h);
          kept = λ h some none. around_twice old mid new cell.at (size table cell.type) h (e.changes.kept h some none)
              (c.kept h (omega (arith, live_mid h, times-append h blocks shares)) refl);
        };
        shared_kept = frozen_twice old mid new theirs final e.shared_kept (frozen_kept allocator mid new stands.heap theirs final alive_those kept_those);
        holds = hold_kept mid new table s.is_table theirs final kept_those e.holds;
      }
