-- An own gets an object, from how the steps change the bytes.
use Rattle.std.proofs.Common.{◌≡◌, ◌≢◌, ℕ, zero, suc, ◌+◌, ◌*◌, ◌^◌, ◌<◌, ◌≤◌, ◌⊎◌, inl, inr, ⊎_elim, List, [], ◌∷◌, ◌++◌, length, Option, Some, None, option_to_list, option_map, refl, sym, ap, ◌∙◌, subst, arith, append-nil}
use Rattle.std.specs.List.{AllByRecursion}
use Rattle.seg_spec.specs.Bytes.{set_word, ChangesOnly}
use Rattle.seg_spec.specs.Pointer.{target, distance, set_pointer}
use Rattle.seg_spec.specs.Types.{Form, Table, form_at, IsTable, size}
use Rattle.seg_spec.specs.Value.{Label, Value, Values, nil, cons, Empty, Full, node}
use Rattle.seg_spec.specs.Heap.{units_at, IsHeap, live, heap_start}
use Rattle.seg_spec.specs.Block.{Kind, tag_of, IsBlock, KeepsBlock, IsInside, IsOwnable, block_of, payload_size}
use Rattle.seg_spec.specs.Reads.{Place, Opened, count_at, named, start, items, OpensOwn, Opens, Holds, holds, HoldsEach, holds_none, holds_more}
use Rattle.seg_spec.specs.Apart.{Separate, KeepsBlockAround}
use Rattle.seg_spec.specs.Calls.{IsLoose}
use Rattle.seg_spec.specs.Sound.{times, positions}
use Rattle.seg_spec.specs.Owning.{Stands}
use Rattle.seg_spec.specs.Demand.{after_gives}
use Rattle.seg_spec.specs.Frozen.{Frozen, blocks_by}
use Rattle.seg_spec.specs.Shared.{named_in, named_each, IsReleasing}
use Rattle.seg_spec.specs.Destroying.{HoldFrozen, Destroys}
use Rattle.seg_spec.specs.Clearing.{SharedBeside, BesideShared, ClearsPlace}
use Rattle.seg_spec.proofs.Tables.TypeSizeLaws.{size-form}
use Rattle.seg_spec.proofs.SliceLaws.{IsSame-part}
use Rattle.seg_spec.proofs.Values.PlaceFrameLaws.{word-same, each_map, each_of_map, Holds-kept, IsBlock-kept, payload-same}
use Rattle.seg_spec.proofs.Values.ValueTypeLaws.{one_at_most}
use Rattle.seg_spec.proofs.Heap.BlockFrameLaws.{kept_twice, around_twice, around_kept}
use Rattle.seg_spec.proofs.Heap.LiveBlockLaws.{times-append, times-same, times-more, there, each_there, LiesIn, live-lie, live-apart, live-once, OneOrApart}
use Rattle.seg_spec.proofs.Values.PlaceWriteLaws.{place_within, whole_then, changes_place}
use Rattle.seg_spec.proofs.Deallocation.OwnLaws.{empty_own, cell_changes, cell_names, cell_counts}
use Rattle.seg_spec.proofs.Deallocation.CellDestructionLaws.{same_form}
use Rattle.seg_spec.proofs.Deallocation.DestructionLaws.{inside_same, released}
use Rattle.seg_spec.proofs.Frozen.FrozenBlockLaws.{hold_kept, frozen_twice, frozen_kept, left_fewer}
use Rattle.seg_value.specs.Places.{TakesOwn, SetsOwn}

-- ---- an own is empty, or contains one value

module _ (bytes : List ℕ) (table : Table) where
  abbrev IsOwn : Value → Type 0
  IsOwn v = (v ≡ Empty) ⊎ ((u : Value) × (v ≡ Full u))

  inside_by : (at U n : ℕ) (v : Value) (vs : Values) (owned : List ℕ) → HoldsEach bytes table (items table at U n) vs owned → n ≤ 1 → v ≡ node Label.opt vs → IsOwn v
  inside_by at U zero v vs owned holds_none few is = inl is
  inside_by at U (suc zero) v vs owned (holds_more {v = u} first holds_none) few is = inr (u, is)
  inside_by at U (suc (suc n)) v vs owned h few is = absurd (omega arith)

  own_by : (place : Place) (U : ℕ) (v : Value) (opened : Opened) (inside : Values) (owned : List ℕ) →
      OpensOwn bytes place.at (tag_of Kind.object U) (size table U) opened (record { label = Label.opt; blocks = named bytes place.at; parts = items table (start bytes place.at) U (count_at bytes place.at) }) →
      HoldsEach bytes table opened.parts inside owned → v ≡ node opened.label inside → IsOwn v
  own_by place U v opened inside owned o hs v_is =
      let parts : opened.parts ≡ items table (start bytes place.at) U (count_at bytes place.at) = ap (λ (r : Opened). r.parts) o.opened_is in
      let label : opened.label ≡ Label.opt = ap (λ (r : Opened). r.label) o.opened_is in
      let few = one_at_most (target bytes place.at) in
      let counted = o.counted in
      inside_by (start bytes place.at) U (count_at bytes place.at) v inside owned (subst (λ ps. HoldsEach bytes table ps inside owned) parts hs) (omega arith) (v_is ∙ ap (λ l. node l inside) label)

  pub own_cases : (place : Place) (U : ℕ) (v : Value) (blocks : List ℕ) → form_at table place.type ≡ Some (Form.own U) → Holds bytes table place v blocks → IsOwn v
  own_cases place U v blocks f (holds form opened inside owned g o hs v_is is) =
      let same = same_form form (Form.own U) (sym g ∙ f) in
      let o' : Opens bytes table place (Form.own U) opened = subst (λ h. Opens bytes table place h opened) same o in
      own_by place U v opened inside owned o' hs v_is

  empty_by : (place : Place) (U : ℕ) (opened : Opened) (inside : Values) (owned blocks : List ℕ) → target bytes place.at ≡ None →
      OpensOwn bytes place.at (tag_of Kind.object U) (size table U) opened (record { label = Label.opt; blocks = named bytes place.at; parts = items table (start bytes place.at) U (count_at bytes place.at) }) →
      HoldsEach bytes table opened.parts inside owned → blocks ≡ opened.blocks ++ owned → blocks ≡ []
  empty_by place U opened inside owned blocks e o hs is =
      let parts : opened.parts ≡ items table (start bytes place.at) U (count_at bytes place.at) = ap (λ (r : Opened). r.parts) o.opened_is in
      let none : opened.blocks ≡ [] = ap (λ (r : Opened). r.blocks) o.opened_is ∙ ap (λ t. option_to_list (option_map block_of t)) e in
      let zero_count : count_at bytes place.at ≡ 0 = rw e at o.named_room in
      let hs' : HoldsEach bytes table [] inside owned = rw zero_count at (subst (λ ps. HoldsEach bytes table ps inside owned) parts hs) in
      is ∙ ap (λ bs. bs ++ owned) none ∙ no_owned inside owned hs'
    where
      no_owned : (vs : Values) (bs : List ℕ) → HoldsEach bytes table [] vs bs → bs ≡ []
      no_owned vs bs holds_none = refl

  pub empty_owns : (place : Place) (U : ℕ) (v : Value) (blocks : List ℕ) → form_at table place.type ≡ Some (Form.own U) → target bytes place.at ≡ None → Holds bytes table place v blocks → blocks ≡ []
  empty_owns place U v blocks f e (holds form opened inside owned g o hs v_is is) =
      let same = same_form form (Form.own U) (sym g ∙ f) in
      let o' : Opens bytes table place (Form.own U) opened = subst (λ h. Opens bytes table place h opened) same o in
      empty_by place U opened inside owned blocks e o' hs is

  -- an own that points to an object contains its value
  pub full_holds : (place : Place) (U object : ℕ) (w : Value) (inside : List ℕ) → form_at table place.type ≡ Some (Form.own U) → target bytes place.at ≡ Some object → count_at bytes place.at ≡ 1 →
      IsBlock bytes object (tag_of Kind.object U) (size table U) → Holds bytes table (record { at = object; type = U }) w inside → Holds bytes table place (Full w) (block_of object ∷ inside)
  full_holds place U object w inside f names one block h =
      let room : IsBlock bytes object (tag_of Kind.object U) (count_at bytes place.at * size table U) = let e : count_at bytes place.at * size table U ≡ size table U = rw one (omega arith) in rw e block in
      holds {place = place} (Form.own U) (record { label = Label.opt; blocks = block_of object ∷ []; parts = record { at = object; type = U } ∷ [] }) (cons w nil) (inside ++ []) f
      (record { named_room = rw names room; counted = rw (names, one) refl; opened_is = rw (names, one) refl }) (holds_more h holds_none) refl (ap (λ bs. block_of object ∷ bs) (sym (append-nil inside)))

-- ---- the own after it is emptied

named_empty : named_in Empty ≡ []
unfolding named_in named_each
named_empty = refl

named_full : (u : Value) → named_in (Full u) ≡ named_in u
unfolding named_in named_each
named_full u = append-nil (named_in u)

module _ (allocator : ℕ) (old : List ℕ) (table : Table) (own : Place) (U : ℕ) (f : form_at table own.type ≡ Some (Form.own U)) (v : Value) (blocks : List ℕ) (s : Stands allocator old table own v blocks)
    (object : ℕ) (inside : List ℕ) (theirs : ℕ → List ℕ) (cells : List Place) (now final : List Frozen) (b : SharedBeside old table (s.home ∷ (blocks ++ block_of object ∷ inside)) (named_in v) theirs cells now final) where
  abbrev taken : List ℕ
  taken = block_of object ∷ inside

  abbrev shares : List ℕ
  shares = blocks_by theirs now

  abbrev those : List ℕ
  those = blocks_by theirs final

  once : (h : ℕ) → times h (positions (live old)) ≤ 1
  once h = live-once old allocator s.heap h

  lies : (h : ℕ) → 1 ≤ times h (positions (live old)) → LiesIn old heap_start (length old) h
  lies h some = there (LiesIn old heap_start (length old)) h (positions (live old)) (live-lie old allocator s.heap) some

  counts : (h : ℕ) → times h (s.home ∷ []) + times h blocks + times h taken + times h shares ≤ times h (positions (live old))
  counts h = omega (arith, b.owned h, times-append h (s.home ∷ (blocks ++ taken)) shares, times-append h blocks taken)

  home_live : 1 ≤ times s.home (positions (live old))
  home_live = omega (arith, counts s.home, times-same s.home [])

  home_apart : (times s.home blocks ≡ 0) × (times s.home shares ≡ 0)
  home_apart = let c = counts s.home in let t = times-same s.home [] in let o = once s.home in (omega arith, omega arith)

  -- the blocks of the remaining frozen objects are among the blocks of all of them
  few : (h : ℕ) → times h those ≤ times h shares
  few h = subst (λ fs. times h (blocks_by theirs fs) ≤ times h shares) b.releasing.leaves (left_fewer theirs b.releasing.pending now h)

  -- a block of the object, or of a frozen one, belongs to no other
  other : (h : ℕ) → 1 ≤ times h taken + times h shares → (1 ≤ times h (positions (live old))) × (h ≢ s.home) × (times h blocks ≡ 0)
  other h some =
      let c = counts h in
      let o = once h in
      (omega arith, (λ same. let z : times h (s.home ∷ []) ≡ 1 + times h [] = subst (λ x. times x (s.home ∷ []) ≡ 1 + times x []) (sym same) (times-same s.home []) in absurd (omega arith)), omega arith)

  -- such a block is kept whole if it is kept around the own
  whole_beside : (after : List ℕ) (h : ℕ) → 1 ≤ times h (positions (live old)) → h ≢ s.home → KeepsBlockAround old after own.at (size table own.type) h → KeepsBlock old after h
  whole_beside after h some ne k =
      let mine = there (λ t. AllByRecursion (OneOrApart old t) (positions (live old))) s.home (positions (live old)) (live-apart old allocator s.heap) home_live in
      let pair = there (OneOrApart old s.home) h (positions (live old)) mine some in
      record { live = k.header.live; has_tag = k.header.has_tag; room = k.header.room; payload = k.payload (h + 16) (payload_size old h) (omega arith) (omega arith) (apart (lies h some) pair) }
    where
      apart : LiesIn old heap_start (length old) h → OneOrApart old s.home h → Separate (h + 16) (payload_size old h) own.at (size table own.type)
      apart l (inl same) = absurd (ne same)
      apart l (inr (inl before)) = inr (omega (arith, s.inside.high))
      apart l (inr (inr following)) = inl (omega (arith, s.inside.low, l.size))

  abbrev pub IsEmptied : List ℕ → Type 0
  IsEmptied after = ClearsPlace old after table own Empty blocks [] theirs now final

  pub emptied_already : v ≡ Empty → IsEmptied old
  emptied_already e =
      let h : Holds old table own Empty blocks = subst (λ u. Holds old table own u blocks) e s.holds_it in
      let none = empty_own old table own U blocks f h in
      let nothing = empty_owns old table own U Empty blocks f none h in
      let now_is : now ≡ final = released cells final (named_in v) now b.releasing (λ h. ap (times h) (ap named_in e ∙ named_empty)) in
      let same : (h : ℕ) → times h those ≡ times h shares = λ h. sym (ap (λ fs. times h (blocks_by theirs fs)) now_is) in
      let owns : (h : ℕ) → times h (blocks ++ shares) ≡ times h shares = λ h. let z : times h blocks ≡ 0 = ap (times h) nothing in omega (arith, times-append h blocks shares) in
      let whole : (h : ℕ) → KeepsBlock old old h = λ h. record { live = refl; has_tag = refl; room = omega arith; payload = refl } in
      record {
        gives = [];
        all_are = λ h. owns h ∙ sym (same h);
        changes = record {
          length_kept = refl;
          front_kept = refl;
          back_kept = refl;
          heap = subst (λ n. IsHeap n old) (sym s.allocator_is) s.heap;
          ownable = s.ownable;
          holds_it = subst (λ bs. Holds old table own Empty bs) nothing h;
          live_is = refl;
          live_are = λ h. omega (arith, owns h, same h);
          kept = λ g some zero_times. around_kept old old own.at (size table own.type) g (omega (arith, (lies g some).size)) (whole g);
        };
        shared_kept = frozen_kept allocator old old s.heap theirs final (λ h some. omega (arith, few h, counts h)) (λ h some. whole h);
        holds = subst (HoldFrozen old table theirs) now_is b.holds;
      }

  module _ (mid : List ℕ) (u : Value) (v_is : v ≡ Full u) (result : Option ℕ) (t : TakesOwn old mid table own U u blocks result) where
    live_mid : (h : ℕ) → times h (positions (live mid)) ≡ times h (positions (live old))
    live_mid h = ap (λ bs. times h (positions bs)) t.changes.live_is

    heap_mid : IsHeap allocator mid
    heap_mid = subst (λ n. IsHeap n mid) s.allocator_is t.changes.heap

    ownable_mid : (h : ℕ) → 1 ≤ times h (positions (live mid)) → IsOwnable mid table h
    ownable_mid h some = there (IsOwnable mid table) h (positions (live mid)) (each_map (IsOwnable mid table) (λ b. b.at) (live mid) t.changes.ownable) some

    inside_mid : IsInside mid s.home own.at (size table own.type)
    inside_mid = let k = t.changes.kept s.home home_live home_apart.0 in let room = k.header.room in let two = (lies s.home home_live).size in record { low = s.inside.low; high = omega (arith, s.inside.high) }

    shares_mid : (h : ℕ) → 1 ≤ times h shares → KeepsBlock old mid h
    shares_mid h some = let o = other h (omega arith) in whole_beside mid h o.0 o.1 (t.changes.kept h o.0 o.2)

    -- the state in which the object's destruction begins
    pub beside_mid : SharedBeside mid table (block_of t.object ∷ t.inside) (named_in u) theirs cells now final
    beside_mid = record {
      holds = hold_kept old mid table s.is_table theirs now shares_mid b.holds;
      ownable = λ h some. ownable_mid h (omega (arith, counts h, live_mid h));
      owned = λ h. let z : times h blocks ≡ times h (block_of t.object ∷ t.inside) = ap (times h) t.blocks_are in omega (arith, counts h, live_mid h, times-append h (block_of t.object ∷ t.inside) shares);
      releasing = subst (λ ns. IsReleasing cells final ns now) (ap named_in v_is ∙ named_full u) b.releasing;
    }

    module _ (after : List ℕ) (d : Destroys allocator mid after table (blocks ++ shares) theirs final) where
      parts : (h : ℕ) → times h (blocks ++ shares) ≡ times h d.gives + times h those
      parts h = d.blocks_are h ∙ times-append h d.gives those

      none_left : (h : ℕ) → times h (blocks ++ shares) ≡ 0 → times h (d.gives ++ those) ≡ 0
      none_left h none = sym (d.blocks_are h) ∙ none

      home_none : times s.home (blocks ++ shares) ≡ 0
      home_none = let h = home_apart in omega (arith, times-append s.home blocks shares)

      some_mid : (h : ℕ) → 1 ≤ times h (positions (live old)) → 1 ≤ times h (positions (live mid))
      some_mid h some = omega (arith, live_mid h)

      solid_mid : (h : ℕ) → 1 ≤ times h (positions (live mid)) → 2 ≤ units_at mid h
      solid_mid h some = (there (LiesIn mid heap_start (length mid)) h (positions (live mid)) (live-lie mid allocator heap_mid) some).size

      ownable_there : (h : ℕ) → 1 ≤ times h (positions (live mid)) → times h (blocks ++ shares) ≡ 0 → IsOwnable after table h
      ownable_there h some none =
          let o = ownable_mid h some in
          let k = d.frees.kept h some (none_left h none) in
          record { kind = o.kind; type = o.type; allowed = o.allowed; tag_is = k.whole.kept.has_tag ∙ o.tag_is; link_is = k.link_kept ∙ o.link_is }

      pub emptied_now : IsEmptied after
      emptied_now = record {
        gives = d.gives;
        all_are = d.blocks_are;
        changes = record {
          length_kept = d.frees.length_kept ∙ t.changes.length_kept;
          front_kept = d.frees.front_kept ∙ t.changes.front_kept;
          back_kept = d.frees.back_kept ∙ t.changes.back_kept;
          heap = subst (λ n. IsHeap n after) (sym s.allocator_is) d.frees.heap;
          ownable = each_of_map (IsOwnable after table) (λ b. b.at) (live after) (each_there (IsOwnable after table) (positions (live after)) (λ h some.
              let l = d.frees.live_are h in
              let m = live_mid h in
              let o = once h in
              let p = parts h in
              ⊎_elim (λ none. ownable_there h (omega arith) (omega arith)) (λ shared. d.ownable h shared) (none_or_some (times h those))));
          holds_it = Holds-kept mid after table s.is_table t.changes.holds_it (inside_same mid after s.home own.at (size table own.type) inside_mid (d.frees.kept s.home (some_mid s.home home_live) (none_left s.home home_none))) tt;
          live_is = d.frees.live_is ∙ ap (λ bs. after_gives bs d.gives) t.changes.live_is;
          live_are = λ h. omega (arith, d.frees.live_are h, live_mid h, parts h);
          kept = λ h some none. around_twice old mid after own.at (size table own.type) h (t.changes.kept h some (omega (arith, times-append h blocks shares)))
              (around_kept mid after own.at (size table own.type) h (let two = solid_mid h (some_mid h some) in omega arith) (d.frees.kept h (some_mid h some) (none_left h none)).whole.kept);
        };
        shared_kept = frozen_twice old mid after theirs final (frozen_kept allocator old mid s.heap theirs final (λ h some. omega (arith, few h, counts h)) (λ h some. shares_mid h (omega (arith, few h)))) d.shared_kept;
        holds = d.holds;
      }
        where
          none_or_some : (n : ℕ) → (n ≡ 0) ⊎ (1 ≤ n)
          none_or_some zero = inl refl
          none_or_some (suc n) = inr (omega arith)

  -- what the destruction of the object at a position ensures
  abbrev pub IsDestroyed : List ℕ → List ℕ → Table → ℕ → Type 0
  IsDestroyed mid after here held =
      (U : ℕ) (v : Value) (inside : List ℕ) → IsTable here → IsHeap allocator mid → IsLoose mid here (record { at = held; type = U }) v inside →
      BesideShared mid here (block_of held ∷ inside) (named_in v) (λ theirs now. Destroys allocator mid after here ((block_of held ∷ inside) ++ blocks_by theirs now) theirs)

  -- the object in the own was taken out and destroyed
  pub taken_emptied : (mid after : List ℕ) (here : Table) → here ≡ table → (u : Value) → v ≡ Full u → (result : Option ℕ) (held : ℕ) → result ≡ Some held → TakesOwn old mid table own U u blocks result →
      IsDestroyed mid after here held → IsEmptied after
  taken_emptied mid after here same u v_is result held result_is t destroys =
      let both : Some t.object ≡ Some held = sym t.result_is ∙ result_is in
      let is : held ≡ t.object = cc in
      let destroys' : IsDestroyed mid after table t.object = subst (IsDestroyed mid after table) is (subst (λ k. IsDestroyed mid after k held) same destroys) in
      let d = destroys' U u t.inside s.is_table (heap_mid mid u v_is result t) t.loose theirs cells now final (beside_mid mid u v_is result t) in
      emptied_now mid u v_is result t after (subst (λ bs. Destroys allocator mid after table (bs ++ shares) theirs final) (sym t.blocks_are) d)

  -- ---- the own points to the new object

  module _ (after : List ℕ) (e : IsEmptied after) (w : Value) (loose : IsLoose old table (record { at = object; type = U }) w inside) where
    live_after : (h : ℕ) → times h (positions (live after)) + times h blocks + times h shares ≡ times h (positions (live old)) + times h those
    live_after h = omega (arith, e.changes.live_are h, times-append h blocks shares)

    taken_after : (h : ℕ) → 1 ≤ times h taken → KeepsBlock old after h
    taken_after h some =
        let o = other h (omega arith) in
        whole_beside after h o.0 o.1 (e.changes.kept h o.0 (omega (arith, counts h, once h, times-append h blocks shares)))

    pub stands : Stands allocator after table own Empty []
    stands = record {
      heap = subst (λ n. IsHeap n after) s.allocator_is e.changes.heap;
      allocator_is = word-same old after 16 (IsSame-part old after 0 24 16 4 (omega arith) (omega arith) e.changes.front_kept) ∙ s.allocator_is;
      is_table = s.is_table;
      ownable = e.changes.ownable;
      holds_it = e.changes.holds_it;
      aligned = s.aligned;
      home = s.home;
      inside =
          let none = home_apart in
          let k = e.changes.kept s.home home_live (omega (arith, times-append s.home blocks shares)) in
          let room = k.header.room in
          let two = (lies s.home home_live).size in record { low = s.inside.low; high = omega (arith, s.inside.high) };
      owned = λ h. omega (arith, live_after h, counts h);
    }

    new : List ℕ
    new = set_word (set_pointer after own.at (Some object)) (own.at + 4) 1

    eight : size table own.type ≡ 8
    eight = size-form table s.is_table own.type (Form.own U) f

    changes : ChangesOnly after new own.at (size table own.type)
    unfolding new
    changes = rw eight (cell_changes after own.at (distance own.at (Some object)) 1)

    beside_own : (h : ℕ) → 1 ≤ times h (positions (live after)) → h ≢ s.home → KeepsBlock after new h
    unfolding stands
    beside_own h some ne = whole_then allocator after table own Empty [] stands new changes h some ne

    kept_new : (h : ℕ) → 1 ≤ times h taken → KeepsBlock old new h
    kept_new h some =
        let o = other h (omega arith) in
        kept_twice old after new h (taken_after h some) (beside_own h (omega (arith, live_after h, counts h)) o.1)

    alive_those : (h : ℕ) → 1 ≤ times h those → 1 ≤ times h (positions (live after))
    alive_those h some = omega (arith, live_after h, counts h)

    kept_those : (h : ℕ) → 1 ≤ times h those → KeepsBlock after new h
    kept_those h some = beside_own h (alive_those h some) (other h (omega (arith, few h))).1

    fits_own : own.at + 8 ≤ length after
    fits_own = let p = place_within allocator after table own Empty [] stands in let e8 = eight in omega arith

    names : target new own.at ≡ Some object
    unfolding new
    names = cell_names after own.at 1 (Some object) fits_own (let small = stands.heap.small in let room = fits_own in omega arith) fine
      where
        fine : (t : ℕ) → Some object ≡ Some t → (t < 2 ^ 32) × (t ≢ own.at + 1)
        fine t same =
            let is : object ≡ t = cc in
            let o = other (block_of object) (omega (arith, times-same (block_of object) inside)) in
            let l = lies (block_of object) o.0 in
            let b = loose.block.after_header in
            let small = s.heap.small in
            let even = s.aligned in
            let aligned = l.aligned in
            let high = l.high in
            let large = l.size in
            (omega arith, λ odd. omega arith)

    one : count_at new own.at ≡ 1
    unfolding new
    one = cell_counts after own.at (distance own.at (Some object)) 1 fits_own (omega arith)

    pub own_set : SetsOwn old (set_word (set_pointer after own.at (Some object)) (own.at + 4) 1) table own w blocks (block_of object ∷ inside) theirs now final
    unfolding new
    own_set =
        let mine = kept_new (block_of object) (omega (arith, times-same (block_of object) inside)) in
        let block = IsBlock-kept old new object (tag_of Kind.object U) (size table U) mine loose.block in
        let value = Holds-kept old new table s.is_table loose.holds_it (payload-same old new object (tag_of Kind.object U) (size table U) mine loose.block)
        (each_there (KeepsBlock old new) inside (λ h some. kept_new h (let m = times-more h (block_of object) inside in omega arith))) in
        let c = changes_place allocator after table own Empty [] stands new changes (Full w) (block_of object ∷ inside) [] (full_holds new table own U object w inside f names one block value) in
        let all : (h : ℕ) → times h ((blocks ++ taken) ++ shares) ≡ times h blocks + times h taken + times h shares = λ h. omega (arith, times-append h (blocks ++ taken) shares, times-append h blocks taken) in
        record {
          clears = record {
            gives = e.gives;
            all_are = λ h. omega (arith, all h, e.all_are h, times-append h blocks shares, times-append h e.gives those, times-append h e.gives (taken ++ those), times-append h taken those);
            changes = record {
              length_kept = c.length_kept ∙ e.changes.length_kept;
              front_kept = c.front_kept ∙ e.changes.front_kept;
              back_kept = c.back_kept ∙ e.changes.back_kept;
              heap = subst (λ n. IsHeap n new) (word-same old after 16 (IsSame-part old after 0 24 16 4 (omega arith) (omega arith) e.changes.front_kept)) c.heap;
              ownable = c.ownable;
              holds_it = c.holds_it;
              live_is = c.live_is ∙ e.changes.live_is;
              live_are = λ h. omega (arith, c.live_are h, live_after h, all h, times-append h taken those);
              kept = λ h some none. around_twice old after new own.at (size table own.type) h (e.changes.kept h some (omega (arith, all h, times-append h blocks shares)))
                  (c.kept h (omega (arith, all h, live_after h)) refl);
            };
            shared_kept = frozen_twice old after new theirs final e.shared_kept (frozen_kept allocator after new stands.heap theirs final alive_those kept_those);
            holds = hold_kept after new table s.is_table theirs final kept_those e.holds;
          };
          kept = kept_new;
        }
