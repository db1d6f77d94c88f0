-- Default values in a row, and the block of a new named object.
use Rattle.std.proofs.Common.{◌≡◌, ℕ, zero, suc, ◌+◌, ◌-◌, ◌*◌, ◌%◌, ◌^◌, ◌<◌, ◌≤◌, ◌⊎◌, inl, inr, min, MatchOption, List, [], ◌∷◌, length, Option, Some, None, refl, sym, ap, ◌∙◌, subst, arith}
use Rattle.std.proofs.Math.Nat.{mul-le-mul_left, mul-le-mul_right}
use Rattle.std.proofs.lemmas.Bool.{cases_lt}
use Rattle.seg_spec.specs.Bytes.{ChangesOnly, set_word, put, slice}
use Rattle.seg_spec.specs.Heap.{Span, IsHeap, live, link_at, after_take, Takes}
use Rattle.seg_spec.specs.Block.{Kind, tag_of, block_of, IsBlock}
use Rattle.seg_spec.specs.Demand.{need, block_for}
use Rattle.seg_spec.specs.Calls.{Refuses}
use Rattle.seg_spec.specs.Sound.{kind_with, HoldsRoot}
use Rattle.seg_spec.proofs.BytesLaws.{length-set_number, length-put}
use Rattle.seg_spec.proofs.SliceLaws.{put-changes, slice-put_same}
use Rattle.seg_spec.proofs.Heap.NewBlockLaws.{block_fits, was_free, new_heap, all_kept, is_block, new_length, new_front, new_back, new_link, taken_units}
use Rattle.seg_value.proofs.NewBlocks.{now_live, asks_granted}
use Rattle.seg_spec.specs.Cells.{IsWithin}
use Rattle.seg_spec.specs.Types.{Table, IsTable, size}
use Rattle.seg_spec.specs.Value.{Value, count, copies, default_of}
use Rattle.seg_spec.specs.Reads.{Place, items, Holds, HoldsEach, holds_none, holds_more}
use Rattle.seg_spec.proofs.Values.PlaceFrameLaws.{Holds-kept}
use Rattle.seg_spec.proofs.Values.CellChangeLaws.{ChangesOnly-trans, ChangesOnly-wider}
use Rattle.seg_manager.specs.NewNamed.{HasValuesRoom, GivesNamed}
use Rattle.seg_manager.specs.Segments.{new_root}
use Rattle.seg_spec.proofs.Images.PlainRootLaws.{root_of_plain}

-- the place of a value in an object
abbrev pub value_at : Table → ℕ → ℕ → ℕ → Place
value_at table at T i = record { at = at + i * size table T; type = T }

-- of n values the first k have their default values, and nothing else changed
pub record Filled (old now : List ℕ) (table : Table) (at T n k : ℕ) : Type 0 where
  pub changes : ChangesOnly old now at (n * size table T)
  pub each : (i : ℕ) → i < k → Holds now table (value_at table at T i) (default_of table T) []

pub filled_next : (old now next : List ℕ) (table here : Table) (at T n k each p type : ℕ) → HasValuesRoom old table at T n → Filled old now table at T n k → k < n → here ≡ table → type ≡ T → each ≡ size table T
    → p ≡ (at + k * each) % 2 ^ 32
    → (IsWithin now p (size here type) → ChangesOnly now next p (size here type)) → (IsWithin now p (size here type) → type < length here → Holds next here (record { at = p; type = type }) (default_of here type) [])
    → Filled old next table at T n (k + 1)
filled_next old now next table here at T n k each p type room f below here_is type_is each_is p_is changes default =
    let whole = mul-le-mul_right (size table T) below in
    let step : suc k * size table T ≡ k * size table T + size table T = omega arith in
    let fits = room.within.fits in
    let small = room.within.small in
    let long = f.changes.length_kept in
    let p_at : p ≡ at + k * size table T = rw each_is at p_is ∙ omega arith in
    let within : IsWithin now (at + k * size table T) (size table T) = record { fits = omega arith; small = omega arith } in
    let Changes : Table → ℕ → ℕ → Type 0 = λ t U q. IsWithin now q (size t U) → ChangesOnly now next q (size t U) in
    let changed = subst (λ q. Changes table T q) p_at (subst (λ U. Changes table U p) type_is (subst (λ t. Changes t type p) here_is changes)) within in
    let Defaults : Table → ℕ → ℕ → Type 0 = λ t U q. IsWithin now q (size t U) → U < length t → Holds next t (record { at = q; type = U }) (default_of t U) [] in
    let held = subst (λ q. Defaults table T q) p_at (subst (λ U. Defaults table U p) type_is (subst (λ t. Defaults t type p) here_is default)) within room.known in
    record {
      changes = ChangesOnly-trans old now next at (n * size table T) f.changes (ChangesOnly-wider now next (at + k * size table T) (size table T) at (n * size table T) (omega arith) (omega arith) changed);
      each = λ i h. go i (cases_lt i k) h changed held;
    }
  where
    go : (i : ℕ) → (i < k) ⊎ (k ≤ i) → i < k + 1 → ChangesOnly now next (at + k * size table T) (size table T) → Holds next table (value_at table at T k) (default_of table T) []
        → Holds next table (value_at table at T i) (default_of table T) []
    go i (inl less) h changed held =
        let before = mul-le-mul_right (size table T) less in
        let step : suc i * size table T ≡ i * size table T + size table T = omega arith in
        Holds-kept now next table room.is_table (f.each i less) (changed.others (at + i * size table T) (size table T) (inl (omega arith))) tt
    go i (inr last) h changed held = let same : k ≡ i = omega arith in subst (λ j. Holds next table (value_at table at T j) (default_of table T) []) same held

held_from : (now : List ℕ) (table : Table) (v : Value) (T at n : ℕ) → ((i : ℕ) → i < n → Holds now table (value_at table at T i) v []) → HoldsEach now table (items table at T n) (copies n v) []
held_from now table v T at zero h = holds_none
held_from now table v T at (suc n) h =
    let first : at + 0 * size table T ≡ at = omega arith in
    let begin : Holds now table (record { at = at; type = T }) v [] = subst (λ q. Holds now table (record { at = q; type = T }) v []) first (h 0 (omega arith)) in
    holds_more begin (held_from now table v T (at + size table T) n (λ i l.
    let next : at + suc i * size table T ≡ at + size table T + i * size table T = omega arith in
    subst (λ q. Holds now table (record { at = q; type = T }) v []) next (h (suc i) (omega arith))))

-- all n values have their default values
pub filled_all : (old now : List ℕ) (table : Table) (at T n k : ℕ) → n ≤ k → Filled old now table at T n k → HoldsEach now table (items table at T n) (copies n (default_of table T)) []
filled_all old now table at T n k all f = held_from now table (default_of table T) T at n (λ i l. f.each i (omega arith))

-- ---- the block of the object

pub count-copies : (n : ℕ) (v : Value) → count (copies n v) ≡ n
count-copies zero v = refl
count-copies (suc n) v = ap suc (count-copies n v)

pub named_kind : (name : List ℕ) → 1 ≤ length name → kind_with [] name ≡ Kind.named
named_kind [] some = absurd (omega arith)
named_kind (b ∷ name) some = refl

need_room : (n : ℕ) → n + 16 ≤ 16 * need n
need_room n = omega arith

module _ (allocator h : ℕ) (old taken new : List ℕ) (table : Table) (name : List ℕ) (T n : ℕ) (heap : IsHeap allocator old) (some : 1 ≤ length name) (t : Takes allocator old taken (need (n * size table T + length name)) (Some h))
    (small : tag_of Kind.named T < 2 ^ 32) (long : h + 16 * need (n * size table T + length name) ≤ length taken) where
  abbrev tag : ℕ
  tag = tag_of Kind.named T

  abbrev values : ℕ
  values = n * size table T

  abbrev u : ℕ
  u = need (n * size table T + length name)

  abbrev tagged : List ℕ
  tagged = set_word taken (h + 8) tag

  abbrev written : List ℕ
  written = put tagged (h + 16 + values) name

  room : values + length name + 16 ≤ 16 * u
  room = need_room (values + length name)

  tagged_long : length tagged ≡ length taken
  tagged_long = length-set_number 4 taken (h + 8) tag

  module _ (inits : ChangesOnly written new (h + 16) values) (holds : HoldsEach new table (items table (h + 16) T n) (copies n (default_of table T)) []) where
    low : h + 16 ≤ h + 16
    low = omega arith

    high : h + 16 + (values + length name) ≤ h + 16 * u
    high = let r = room in omega arith

    changes : ChangesOnly tagged new (h + 16) (values + length name)
    changes = ChangesOnly-trans tagged written new (h + 16) (values + length name)
        (ChangesOnly-wider tagged written (h + 16 + values) (length name) (h + 16) (values + length name) (omega arith) (omega arith) (put-changes tagged (h + 16 + values) name))
        (ChangesOnly-wider written new (h + 16) values (h + 16) (values + length name) (omega arith) (omega arith) inits)

    own : h + 16 - 16 ≡ h
    own = omega arith

    block : IsBlock new (h + 16) tag (values + length name)
    block = is_block allocator u h tag old taken new heap t (h + 16) (values + length name) low high changes (values + length name) room (let l = long in omega arith) small

    name_is : slice new (h + 16 + values) (length name) ≡ name
    name_is = inits.others (h + 16 + values) (length name) (inr (omega arith))
        ∙ slice-put_same tagged (h + 16 + values) name (length name) refl (let l = long in let r = room in let m = tagged_long in omega arith)

    root_holds : HoldsRoot new table (new_root table name T n (h + 16)) (block_of (h + 16) ∷ [])
    root_holds =
        let c = count-copies n (default_of table T) in
        let kind = named_kind name some in
        root_of_plain new table (new_root table name T n (h + 16)) (block_of (h + 16) ∷ []) refl (record {
          block = rw (c, kind) block;
          name_is = rw c name_is;
          inside = [];
          values = rw c holds;
          blocks_are = refl;
        })

    pub gives_named : GivesNamed allocator old new table (new_root table name T n (h + 16))
    gives_named =
        let c = count-copies n (default_of table T) in
        record {
          length_kept = new_length allocator u h tag old taken new heap t (h + 16) (values + length name) low high changes;
          front_kept = new_front allocator u h tag old taken new heap t (h + 16) (values + length name) low high changes;
          back_kept = new_back allocator u h tag old taken new heap t (h + 16) (values + length name) low high changes;
          heap = new_heap allocator u h tag old taken new heap t (h + 16) (values + length name) low high changes;
          holds = root_holds;
          link_is = rw own (new_link allocator u h tag old taken new heap t (h + 16) (values + length name) low high changes);
          granted_is = rw c (asks_granted allocator old new (values + length name) h (taken_units allocator u h tag old taken new heap t (h + 16) (values + length name) low high changes));
          was_free = rw own (was_free allocator u h tag old taken new heap t);
          now_live = rw own (now_live allocator u h tag old taken new heap t (h + 16) (values + length name) low high changes);
          kept = all_kept allocator u h tag old taken new heap t (h + 16) (values + length name) low high changes;
        }

-- the size in units that the code computes
pub units_are : (n each size_is len values sum units : ℕ) → n < 2 ^ 16 → each ≡ size_is → size_is ≤ 8192 → len < 2 ^ 8 → values ≡ min (n * each) 4294967295 → sum ≡ min (values + len) 4294967295 → units ≡ need sum
    → (values ≡ n * size_is) × (units ≡ need (n * size_is + len))
units_are n each size_is len values sum units few each_is small short values_is sum_is is =
    let most = mul-le-mul_right 8192 (let f : n ≤ 65536 = omega arith in f) in
    let less = mul-le-mul_left n small in
    let product : n * each ≡ n * size_is = ap (λ s. n * s) each_is in
    let v : values ≡ n * size_is = omega arith in
    let w : sum ≡ n * size_is + len = omega arith in
    (v, is ∙ ap need w)

pub gives_named_by : (allocator h units values object : ℕ) (old taken tagged_is written_is new : List ℕ) (table here : Table) (name : List ℕ) (T n : ℕ) → IsHeap allocator old → 1 ≤ length name → IsTable table → T < length table
    → Takes allocator old taken units (Some h) → units ≡ need (n * size table T + length name) → values ≡ n * size table T → object ≡ (h + 16) % 2 ^ 32
    → tagged_is ≡ set_word taken (h + 8) (tag_of Kind.named T) → written_is ≡ put tagged_is (object + values) name → here ≡ table
    → (HasValuesRoom written_is here object T n → ChangesOnly written_is new object (n * size here T)) → (HasValuesRoom written_is here object T n → HoldsEach new here (items here object T n) (copies n (default_of here T)) [])
    → GivesNamed allocator old new table (new_root table name T n object)
gives_named_by allocator h units values object old taken tagged_is written_is new table here name T n heap some valid known t units_is values_is object_is tag_is write_is here_is changes default =
    let t' : Takes allocator old taken (need (n * size table T + length name)) (Some h) = rw units_is at t in
    let few = valid.few in
    let long = block_fits allocator (need (n * size table T + length name)) h (tag_of Kind.named T) old taken taken heap t' in
    let tiny = t.heap.small in
    let more = need_room (n * size table T + length name) in
    let at : object ≡ h + 16 = omega arith in
    let written : written_is ≡ put (set_word taken (h + 8) (tag_of Kind.named T)) (h + 16 + n * size table T) name =
    write_is ∙ ap (λ bs. put bs (object + values) name) tag_is ∙ ap (λ q. put (set_word taken (h + 8) (tag_of Kind.named T)) q name) (omega arith) in
    let same_long : length (put (set_word taken (h + 8) (tag_of Kind.named T)) (h + 16 + n * size table T) name) ≡ length taken =
    length-put (set_word taken (h + 8) (tag_of Kind.named T)) (h + 16 + n * size table T) name ∙ length-set_number 4 taken (h + 8) (tag_of Kind.named T) in
    let room : HasValuesRoom (put (set_word taken (h + 8) (tag_of Kind.named T)) (h + 16 + n * size table T) name) table (h + 16) T n =
    record { within = record { fits = omega arith; small = omega arith }; is_table = valid; known = known } in
    let changes' = rw (written, here_is, at) at changes in
    let default' = rw (written, here_is, at) at default in
    subst (λ q. GivesNamed allocator old new table (new_root table name T n q)) (sym at)
    (gives_named allocator h old taken new table name T n heap some t' (omega arith) long (changes' room) (default' room))

-- no gap is large enough for the object
pub refuses_named : (allocator u n : ℕ) (old new : List ℕ) (o : Option ℕ) → Takes allocator old new u o → ((h : ℕ) → o ≡ Some h → ⊥) → u ≡ need n → Refuses allocator old new (block_for n ∷ [])
refuses_named allocator u n old new o t none u_is = go (after_take allocator (live old) (length old) (need n)) refl
    (subst (λ v. MatchOption (after_take allocator (live old) (length old) v) ((o ≡ None) × (new ≡ old)) (λ r. (o ≡ Some r.0) × (live new ≡ r.1) × (link_at new r.0 ≡ None))) u_is t.taken)
  where
    go : (x : Option (ℕ × List Span)) → after_take allocator (live old) (length old) (need n) ≡ x
        → MatchOption x ((o ≡ None) × (new ≡ old)) (λ r. (o ≡ Some r.0) × (live new ≡ r.1) × (link_at new r.0 ≡ None)) → Refuses allocator old new (block_for n ∷ [])
    go None e m = record { no_room = rw e refl; same = m.1 }
    go (Some r) e m = absurd (none r.0 m.0)
