-- A value is destroyed in place, and becomes the default of its type.
use Rattle.std.proofs.Common.{◌≡◌, ℕ, ◌+◌, ◌^◌, ◌<◌, ◌≤◌, ◌⊎◌, inl, inr, ⊎_elim, zero, suc, List, [], ◌∷◌, ◌++◌, length, Option, None, false, refl, sym, ap, ◌∙◌, subst, arith}
use Rattle.std.specs.Prelude.{nat_le}
use Rattle.std.specs.List.{AllByRecursion}
use Rattle.seg_spec.specs.Header.{free_word, back_start, back_size}
use Rattle.seg_spec.specs.Bytes.{ChangesOnly}
use Rattle.seg_spec.specs.Types.{Table, IsTable, form_at, size}
use Rattle.seg_spec.specs.Value.{Value, default_of}
use Rattle.seg_spec.specs.Heap.{IsHeap, live, heap_start, tag_at, link_at}
use Rattle.seg_spec.specs.Block.{IsInside, IsOwnable}
use Rattle.seg_spec.specs.Reads.{Place, Holds, holds}
use Rattle.seg_spec.specs.Apart.{KeepsBlockAround}
use Rattle.seg_spec.specs.Cells.{IsWithin}
use Rattle.seg_spec.specs.Sound.{times, positions}
use Rattle.seg_spec.specs.Clearing.{SharedBeside, ClearsPlace}
use Rattle.seg_spec.specs.Owning.{Stands}
use Rattle.seg_spec.specs.Demand.{after_gives}
use Rattle.seg_spec.specs.Owing.{IsPart, KeepsLinked}
use Rattle.seg_spec.specs.Shared.{named_in}
use Rattle.seg_spec.specs.Frozen.{Frozen, blocks_by}
use Rattle.seg_spec.specs.Destroying.{AreLive, KeepsOthers, KeepFrozen, Awaits, Adds, Frees, Destroys}
use Rattle.seg_spec.proofs.Tables.TableExtensionLaws.{below_length}
use Rattle.seg_spec.proofs.Values.PlaceFrameLaws.{word-same, target-same, each_map, each_of_map, Holds-kept}
use Rattle.seg_spec.proofs.Heap.BlockFrameLaws.{around_twice, around_kept}
use Rattle.seg_spec.proofs.Heap.LiveBlockLaws.{times-append, times-same, times-other, there, each_there, LiesIn, live-lie, live-once}
use Rattle.seg_spec.proofs.Heap.BlockWriteLaws.{KeptBut, live_kept_but}
use Rattle.seg_spec.proofs.Deallocation.DestructionLaws.{inside_same, inside_then, heap_written, payload_written, awaits_then, final_kept, none_freed, all_freed}
use Rattle.seg_spec.proofs.Frozen.FrozenBlockLaws.{frozen_twice}
use Rattle.seg_spec.proofs.Deallocation.SharedDestructionLaws.{awaits_shared}
use Rattle.seg_layout.specs.Forms.{has_cells}
use Rattle.seg_value.proofs.Nulls.{no_cells_own}
use Rattle.seg_value.specs.Waiting.{AddsIn}
use Rattle.seg_value.proofs.WaitingBlockLaws.{nothing_added}

-- the type of a place that contains a value is in the table
pub typed : (bytes : List ℕ) (table : Table) (place : Place) (v : Value) (blocks : List ℕ) → Holds bytes table place v blocks → place.type < length table
typed bytes table place v blocks (holds form opened inside owned f o hs v_is is) = below_length table place.type form f

module _ (allocator : ℕ) (old mid after new : List ℕ) (table : Table) (place : Place) (v : Value) (blocks : List ℕ) (s : Stands allocator old table place v blocks)
    (theirs : ℕ → List ℕ) (kept : List Place) (now final : List Frozen) (b : SharedBeside old table (s.home ∷ blocks) (named_in v) theirs kept now final) (first : Option ℕ)
    (a : Adds allocator old mid table first blocks (blocks_by theirs now) [] kept theirs final) where
  abbrev shares : List ℕ
  shares = blocks_by theirs now

  home_live : 1 ≤ times s.home (positions (live old))
  home_live = let o = s.owned s.home in let t = times-same s.home blocks in omega arith

  counts : (h : ℕ) → times h (s.home ∷ []) + times h (blocks ++ shares) ≤ times h (positions (live old))
  counts h = omega (arith, b.owned h, times-append h (s.home ∷ blocks) shares, times-append h (s.home ∷ []) blocks, times-append h blocks shares)

  home_apart : times s.home (blocks ++ shares) ≡ 0
  home_apart = let c = counts s.home in let t = times-same s.home [] in let once = live-once old allocator s.heap s.home in omega arith

  live_mid : (h : ℕ) → times h (positions (live mid)) ≡ times h (positions (live old))
  live_mid h = ap (λ bs. times h (positions bs)) a.keeps.live_kept

  home_mid : 1 ≤ times s.home (positions (live mid))
  home_mid = let l = live_mid s.home in let h = home_live in omega arith

  lies : (h : ℕ) → 1 ≤ times h (positions (live old)) → LiesIn old heap_start (length old) h
  lies h some = there (LiesIn old heap_start (length old)) h (positions (live old)) (live-lie old allocator s.heap) some

  inside_mid : IsInside mid s.home place.at (size table place.type)
  inside_mid = inside_then old mid s.home place.at (size table place.type) (lies s.home home_live).size s.inside (a.keeps.others s.home home_live home_apart)

  pub within_mid : IsWithin mid place.at (size table place.type)
  within_mid =
      let l = lies s.home home_live in
      let high = l.high in
      let end = s.inside.high in
      let same = a.keeps.length_kept in
      record { fits = omega arith; small = omega (arith, s.heap.small) }

  module _ (changes : ChangesOnly mid after place.at (size table place.type)) (filled : Holds after table place (default_of table place.type) []) where
    written : KeepsOthers mid after (s.home ∷ [])
    written = payload_written allocator mid after place.at (size table place.type) s.home a.awaits.beside.pends.heap inside_mid home_mid changes

    but : (h : ℕ) → 1 ≤ times h (positions (live mid)) → KeptBut mid after place.at (size table place.type) changes allocator a.awaits.beside.pends.heap s.home inside_mid home_mid h
    but h some = there (KeptBut mid after place.at (size table place.type) changes allocator a.awaits.beside.pends.heap s.home inside_mid home_mid) h (positions (live mid))
        (live_kept_but mid after place.at (size table place.type) changes allocator a.awaits.beside.pends.heap s.home inside_mid home_mid) some

    live_after : (h : ℕ) → times h (positions (live after)) ≡ times h (positions (live old))
    live_after h = ap (λ bs. times h (positions bs)) (written.live_kept ∙ a.keeps.live_kept)

    pub awaits_after : Awaits allocator after table first (blocks ++ shares) [] kept theirs final
    awaits_after =
        let fits : AreLive mid ((s.home ∷ []) ++ (blocks ++ shares)) = λ h. omega (arith, counts h, live_mid h, times-append h (s.home ∷ []) (blocks ++ shares)) in
        let heap = heap_written allocator mid after place.at (size table place.type) s.home a.awaits.beside.pends.heap inside_mid home_mid changes in
        awaits_then allocator mid after table s.is_table (s.home ∷ []) (blocks ++ shares) fits heap written first [] kept theirs final a.awaits

    pub live_there : AreLive after (blocks ++ shares)
    live_there h = omega (arith, counts h, live_after h)

    module _ (d : Destroys allocator after new table (blocks ++ shares) theirs final) where
      abbrev those : List ℕ
      those = blocks_by theirs final

      f : Frees allocator after new d.gives those
      f = d.frees

      parts : (h : ℕ) → times h (blocks ++ shares) ≡ times h d.gives + times h those
      parts h = d.blocks_are h ∙ times-append h d.gives those

      none_left : (h : ℕ) → times h (blocks ++ shares) ≡ 0 → times h (d.gives ++ those) ≡ 0
      none_left h none = sym (d.blocks_are h) ∙ none

      -- a block that isn't freed
      module _ (h : ℕ) (some : 1 ≤ times h (positions (live old))) (none : times h (blocks ++ shares) ≡ 0) where
        some_mid : 1 ≤ times h (positions (live mid))
        some_mid = let l = live_mid h in omega arith

        some_after : 1 ≤ times h (positions (live after))
        some_after = let l = live_after h in omega arith

        one : KeepsLinked old mid h
        one = a.keeps.others h some none

        three : KeepsLinked after new h
        three = f.kept h some_after (none_left h none)

        tag_kept : tag_at new h ≡ tag_at old h
        tag_kept = three.whole.kept.has_tag ∙ word-same mid after (h + 8) ((but h some_mid).outside (h + 8) 4 (omega arith) (omega arith)) ∙ one.whole.kept.has_tag

        link_kept : link_at new h ≡ link_at old h
        link_kept = three.link_kept ∙ target-same mid after (h + 12) ((but h some_mid).outside (h + 12) 4 (omega arith) (omega arith)) ∙ one.link_kept

        two : KeepsBlockAround mid after place.at (size table place.type) h
        two =
            let k = but h some_mid in
            let first_word = word-same mid after h (k.outside h 4 (omega arith) (omega arith)) in
            record {
              solid = omega (arith, k.solid);
              header = record {
                live = ap (λ w. nat_le (2 ^ 31) w) first_word;
                has_tag = word-same mid after (h + 8) (k.outside (h + 8) 4 (omega arith) (omega arith));
                room = rw k.units_kept (omega arith);
              };
              payload = λ g m low high apart. changes.others g m apart;
            }

        around : KeepsBlockAround old new place.at (size table place.type) h
        around =
            let k = but h some_mid in
            let l = lies h some in
            around_twice old mid new place.at (size table place.type) h (around_kept old mid place.at (size table place.type) h (omega (arith, l.size)) one.whole.kept)
            (around_twice mid after new place.at (size table place.type) h two (around_kept after new place.at (size table place.type) h (omega (arith, k.solid, k.units_kept)) three.whole.kept))

        ownable_there : IsOwnable new table h
        ownable_there =
            let o = there (IsOwnable old table) h (positions (live old)) (each_map (IsOwnable old table) (λ b. b.at) (live old) s.ownable) some in
            record { kind = o.kind; type = o.type; allowed = o.allowed; tag_is = tag_kept ∙ o.tag_is; link_is = link_kept ∙ o.link_is }

      ownable_new : AllByRecursion (λ b. IsOwnable new table b.at) (live new)
      ownable_new = each_of_map (IsOwnable new table) (λ b. b.at) (live new) (each_there (IsOwnable new table) (positions (live new)) (λ h some.
          let l = f.live_are h in
          let k = live_after h in
          let once = live-once old allocator s.heap h in
          let p = parts h in
          ⊎_elim (λ none. ownable_there h (omega arith) (omega arith)) (λ shared. d.ownable h shared) (none_or_some (times h those))))
        where
          none_or_some : (n : ℕ) → (n ≡ 0) ⊎ (1 ≤ n)
          none_or_some zero = inl refl
          none_or_some (suc n) = inr (omega arith)

      home_new : KeepsLinked after new s.home
      home_new = f.kept s.home (let l = live_after s.home in let h = home_live in omega arith) (none_left s.home home_apart)

      inside_after : IsInside after s.home place.at (size table place.type)
      inside_after = let k = but s.home home_mid in let i = inside_mid in record { low = i.low; high = omega (arith, i.high, k.units_kept) }

      -- the frozen objects lie in other blocks than the place
      mid_after : KeepFrozen mid after theirs final
      mid_after = final_kept allocator mid after table first (blocks ++ shares) [] kept theirs final a.awaits (λ h. omega (arith, counts h, live_mid h)) (λ h some.
          let there_is : 1 ≤ times h (blocks ++ shares) = omega (arith, a.awaits.beside.blocks_are h, times-append h a.awaits.beside.owed (blocks_by theirs a.awaits.frozen)) in
          (written.others h (omega (arith, counts h, live_mid h)) (times-other h s.home [] (λ e.
          let mine : 1 ≤ times s.home (blocks ++ shares) = subst (λ x. 1 ≤ times x (blocks ++ shares)) (sym e) there_is in absurd (omega (arith, home_apart))))).whole.kept)

      shared_then : KeepFrozen old new theirs final
      shared_then = frozen_twice old mid new theirs final a.shared_kept (frozen_twice mid after new theirs final mid_after d.shared_kept)

      pub place_cleared : ClearsPlace old new table place (default_of table place.type) blocks [] theirs now final
      place_cleared = record {
        gives = d.gives;
        all_are = d.blocks_are;
        changes = record {
          length_kept = f.length_kept ∙ written.length_kept ∙ a.keeps.length_kept;
          front_kept = f.front_kept ∙ written.front_kept 0 free_word (omega arith) ∙ a.keeps.front_kept 0 free_word (omega arith);
          back_kept = f.back_kept ∙ written.front_kept back_start back_size (omega arith) ∙ a.keeps.front_kept back_start back_size (omega arith);
          heap = subst (λ n. IsHeap n new) (sym s.allocator_is) f.heap;
          ownable = ownable_new;
          holds_it = Holds-kept after new table s.is_table filled (inside_same after new s.home place.at (size table place.type) inside_after home_new) tt;
          live_is = f.live_is ∙ ap (λ bs. after_gives bs d.gives) (written.live_kept ∙ a.keeps.live_kept);
          live_are = λ h. omega (arith, f.live_are h, live_after h, parts h);
          kept = λ h some none. around h some none;
        };
        shared_kept = shared_then;
        holds = d.holds;
      }

pub cleared : (allocator : ℕ) (old mid after new : List ℕ) (table here there_too : Table) → here ≡ table → there_too ≡ table → (place : Place) (v : Value) (blocks : List ℕ) (s : Stands allocator old table place v blocks) →
    (theirs : ℕ → List ℕ) (kept : List Place) (now final : List Frozen) → SharedBeside old table (s.home ∷ blocks) (named_in v) theirs kept now final → (none first : Option ℕ) → none ≡ None →
    ((home : ℕ) (xs ns : List ℕ) → IsInside old home place.at (size table place.type) → IsPart old table place xs ns → AddsIn old mid table none first (home ∷ []) xs ns) →
    (IsWithin mid place.at (size here place.type) → ChangesOnly mid after place.at (size here place.type)) →
    (IsWithin mid place.at (size here place.type) → place.type < length here → Holds after here place (default_of here place.type) []) →
    ((blocks : List ℕ) (kept : List Place) (theirs : ℕ → List ℕ) (final : List Frozen) → IsTable there_too → Awaits allocator after there_too first blocks [] kept theirs final → AreLive after blocks →
    Destroys allocator after new there_too blocks theirs final) →
    ClearsPlace old new table place (default_of table place.type) blocks [] theirs now final
cleared allocator old mid after new table here there_too same same_too place v blocks s theirs kept now final b none first is_none added changes filled destroyed =
    let shares = blocks_by theirs now in
    let waiting = awaits_shared allocator old table none (s.home ∷ blocks) (named_in v) theirs kept now final is_none s.heap b in
    let fits : AreLive old ((s.home ∷ []) ++ (blocks ++ shares)) = λ h. let o = b.owned h in
    let n = times-append h (s.home ∷ blocks) shares in let m = times-append h (s.home ∷ []) blocks in let k = times-append h (s.home ∷ []) (blocks ++ shares) in let l = times-append h blocks shares in omega arith in
    let a = added s.home blocks (named_in v) s.inside (inl (v, s.holds_it, refl)) allocator shares [] kept theirs final s.is_table waiting fits in
    let within = within_mid allocator old mid after new table place v blocks s theirs kept now final b first a in
    let changes' : IsWithin mid place.at (size table place.type) → ChangesOnly mid after place.at (size table place.type) = subst (λ t. IsWithin mid place.at (size t place.type) →
    ChangesOnly mid after place.at (size t place.type)) same changes in
    let filled' : IsWithin mid place.at (size table place.type) → place.type < length table → Holds after table place (default_of table place.type) [] =
    subst (λ t. IsWithin mid place.at (size t place.type) → place.type < length t → Holds after t place (default_of t place.type) []) same filled in
    let destroyed' : (blocks : List ℕ) (kept : List Place) (theirs : ℕ → List ℕ) (final : List Frozen) → IsTable table → Awaits allocator after table first blocks [] kept theirs final → AreLive after blocks →
    Destroys allocator after new table blocks theirs final =
    subst (λ t. (blocks : List ℕ) (kept : List Place) (theirs : ℕ → List ℕ) (final : List Frozen) → IsTable t → Awaits allocator after t first blocks [] kept theirs final → AreLive after blocks →
    Destroys allocator after new t blocks theirs final) same_too destroyed in
    let c = changes' within in
    let h = filled' within (typed old table place v blocks s.holds_it) in
    let d = destroyed' (blocks ++ shares) kept theirs final s.is_table (awaits_after allocator old mid after new table place v blocks s theirs kept now final b first a c h)
    (live_there allocator old mid after new table place v blocks s theirs kept now final b first a c h) in
    place_cleared allocator old mid after new table place v blocks s theirs kept now final b first a c h d

-- a place with a number is cleared
pub number_cleared : (allocator : ℕ) (old new : List ℕ) (table : Table) (place : Place) (v : Value) (blocks : List ℕ) (s : Stands allocator old table place v blocks) → (theirs : ℕ → List ℕ) (kept : List Place) (now final : List Frozen) →
    SharedBeside old table (s.home ∷ blocks) (named_in v) theirs kept now final → has_cells (form_at table place.type) ≡ false →
    (IsWithin old place.at (size table place.type) → ChangesOnly old new place.at (size table place.type)) →
    (IsWithin old place.at (size table place.type) → place.type < length table → Holds new table place (default_of table place.type) []) →
    ClearsPlace old new table place (default_of table place.type) blocks [] theirs now final
number_cleared allocator old new table place v blocks s theirs kept now final b number changes filled =
    cleared allocator old old new new table table table refl refl place v blocks s theirs kept now final b None None refl
    (λ home xs ns inside part. nothing_added old table None (home ∷ []) xs ns (no_cells_own old table place xs ns number part)) changes filled
    (λ zs kept theirs final valid w owned. all_freed allocator new new table valid None zs kept theirs final 0 owned (none_freed allocator new table None zs kept theirs final w owned) refl)
