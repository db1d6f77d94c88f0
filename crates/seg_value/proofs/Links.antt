-- The nodes to which the pointer words of a node point, added one after the other.
use Rattle.std.proofs.Common.{◌≡◌, ℕ, ◌+◌, ◌%◌, ◌^◌, ◌≤◌, List, [], ◌∷◌, ◌++◌, length, Option, Some, None, refl, sym, ap, ◌∙◌, subst, arith}
use Rattle.seg_spec.specs.Bytes.{IsSame}
use Rattle.seg_spec.specs.Pointer.{target}
use Rattle.seg_spec.specs.Types.{Table}
use Rattle.seg_spec.specs.Heap.{live, heap_start}
use Rattle.seg_spec.specs.Block.{IsInside}
use Rattle.seg_spec.specs.Sound.{times, SameBlocks, positions}
use Rattle.seg_spec.specs.Owing.{KeepsWhole, OwesLinks, no_links, null_link, node_link}
use Rattle.seg_spec.specs.Destroying.{AreLive, GoesWith}
use Rattle.seg_spec.proofs.SliceLaws.{IsSame-part}
use Rattle.seg_spec.proofs.Heap.LiveBlockLaws.{times-append, times-same, times-more, there, each_there, LiesIn, live-lie, live-once}
use Rattle.seg_spec.proofs.Deallocation.WaitingBlockLaws.{OwesLinks-kept}
use Rattle.seg_spec.proofs.Deallocation.DestructionLaws.{no_common, inside_same, awaits_names, adds_twice}
use Rattle.seg_value.specs.Waiting.{AddsIn}
use Rattle.seg_value.proofs.Nulls.{Nothing}

pub without_home : (bytes : List ℕ) (home : ℕ) (xs : List ℕ) → AreLive bytes (home ∷ xs) → AreLive bytes xs
without_home bytes home xs fits h = let f = fits h in let m = times-more h home xs in omega arith

module _ (bytes : List ℕ) (table : Table) where
  pub one_link : (at p : ℕ) (xs ns : List ℕ) → target bytes at ≡ Some p → OwesLinks bytes table (at ∷ []) xs ns → GoesWith bytes table p xs ns
  one_link at p xs ns e (null_link none no_links) = absurd (cc)
  one_link at p xs ns e (node_link {xs = ys} {ns = ms} q names first no_links) =
      let same : Some q ≡ Some p = sym names ∙ e in
      let is : q ≡ p = cc in
      subst (λ r. GoesWith bytes table r (ys ++ []) (ms ++ [])) is
      (record { owed = ys; named = ms; owes_it = first; owed_are = λ h. let n = times-append h ys [] in omega arith; named_are = λ h. let n = times-append h ms [] in omega arith })

  pub no_link : (at : ℕ) (xs ns : List ℕ) → target bytes at ≡ None → OwesLinks bytes table (at ∷ []) xs ns → Nothing xs ns
  no_link at xs ns e (null_link none no_links) = record { no_blocks = refl; no_names = refl }
  no_link at xs ns e (node_link q names first no_links) = absurd (cc)

  pub no_further : (xs ns : List ℕ) → OwesLinks bytes table [] xs ns → Nothing xs ns
  no_further xs ns no_links = record { no_blocks = refl; no_names = refl }

  -- the blocks and targets, for the first word and for the other words
  record Split (at : ℕ) (ats xs ns : List ℕ) : Type 0 where
    mine : List ℕ
    rest : List ℕ
    my_names : List ℕ
    rest_names : List ℕ
    one : OwesLinks bytes table (at ∷ []) mine my_names
    more : OwesLinks bytes table ats rest rest_names
    xs_are : SameBlocks xs (mine ++ rest)
    ns_are : SameBlocks ns (my_names ++ rest_names)

  split : (at : ℕ) (ats xs ns : List ℕ) → OwesLinks bytes table (at ∷ ats) xs ns → Split at ats xs ns
  split at ats xs ns (null_link none more) = record { mine = []; rest = xs; my_names = []; rest_names = ns; one = null_link none no_links; more = more; xs_are = λ h. refl; ns_are = λ h. refl }
  split at ats xs ns (node_link {xs = ys} {ys = zs} {ns = vs} {ms = ws} p names first more) = record {
    mine = ys ++ [];
    rest = zs;
    my_names = vs ++ [];
    rest_names = ws;
    one = node_link p names first no_links;
    more = more;
    xs_are = λ h. omega (arith, times-append h ys zs, times-append h (ys ++ []) zs, times-append h ys []);
    ns_are = λ h. omega (arith, times-append h vs ws, times-append h (vs ++ []) ws, times-append h vs []);
  }

-- the two pointer words of a node
pub two_links : (old mid new : List ℕ) (table mid_table : Table) (f g k : Option ℕ) (p q home : ℕ) (xs ns : List ℕ) → mid_table ≡ table → q ≡ (p + 4) % 2 ^ 32 → IsInside old home p 8 →
    OwesLinks old table (p ∷ (p + 4) ∷ []) xs ns → ((ys ms : List ℕ) → OwesLinks old table (p ∷ []) ys ms → AddsIn old mid table f g [] ys ms) →
    ((ys ms : List ℕ) → OwesLinks mid mid_table (q ∷ []) ys ms → AddsIn mid new mid_table g k [] ys ms) → AddsIn old new table f k (home ∷ []) xs ns
two_links old mid new table mid_table f g k p q home xs ns same_table q_is inside owes one two allocator zs names kept_cells theirs final valid w fits =
    let s = split old table p ((p + 4) ∷ []) xs ns owes in
    let two' : (ys ms : List ℕ) → OwesLinks mid table (q ∷ []) ys ms → AddsIn mid new table g k [] ys ms = subst (λ t. (ys ms : List ℕ) → OwesLinks mid t (q ∷ []) ys ms → AddsIn mid new t g k [] ys ms) same_table two in
    let heap = w.beside.pends.heap in
    let own = fits home in
    let here : 1 ≤ times home (positions (live old)) = omega (arith, times-same home (xs ++ zs)) in
    let lies = there (LiesIn old heap_start (length old)) home (positions (live old)) (live-lie old allocator heap) here in
    let small = heap.small in
    let second : q ≡ p + 4 = let low = inside.low in let high = inside.high in let end = lies.high in omega arith in
    let counts = λ (h : ℕ). let c : times h xs ≡ times h s.mine + times h s.rest = s.xs_are h ∙ times-append h s.mine s.rest in c in
    let fits_one : AreLive old (s.mine ++ zs) = λ h. let a = fits h in let m = times-more h home (xs ++ zs) in let c = counts h in let n = times-append h xs zs in let o = times-append h s.mine zs in omega arith in
    let waiting = awaits_names allocator old table f zs (ns ++ names) (s.my_names ++ (s.rest_names ++ names)) kept_cells theirs final
    (λ h. omega (arith, s.ns_are h, times-append h ns names, times-append h s.my_names s.rest_names, times-append h s.my_names (s.rest_names ++ names), times-append h s.rest_names names)) w in
    let first = one s.mine s.my_names s.one allocator zs (s.rest_names ++ names) kept_cells theirs final valid waiting fits_one in
    let live_same = λ (h : ℕ). let e : times h (positions (live mid)) ≡ times h (positions (live old)) = ap (λ bs. times h (positions bs)) first.keeps.live_kept in e in
    let apart : times home (s.mine ++ zs) ≡ 0 =
    let c = counts home in let once = live-once old allocator heap home in let t = times-same home (xs ++ zs) in let n = times-append home xs zs in let o = times-append home s.mine zs in omega arith in
    let kept = first.keeps.others home here apart in
    let word_same : IsSame old mid (p + 4) 4 = IsSame-part old mid p 8 (p + 4) 4 (omega arith) (omega arith) (inside_same old mid home p 8 inside kept) in
    let disjoint : AreLive old ((s.mine ++ zs) ++ s.rest) = λ h.
    let a = fits h in let m = times-more h home (xs ++ zs) in let c = counts h in let n = times-append h xs zs in let o = times-append h (s.mine ++ zs) s.rest in let r = times-append h s.mine zs in omega arith in
    let more : OwesLinks mid table ((p + 4) ∷ []) s.rest s.rest_names = OwesLinks-kept old mid table valid (word_same, tt)
    (each_there (KeepsWhole old mid) s.rest (λ h some. let n = no_common allocator old heap (s.mine ++ zs) s.rest disjoint h some in (first.keeps.others h n.0 n.1).whole)) s.more in
    let fits_two : AreLive mid (s.rest ++ (s.mine ++ zs)) = λ h.
    let a = fits h in let m = times-more h home (xs ++ zs) in let c = counts h in let n = times-append h xs zs in let o = times-append h s.mine zs in let r = times-append h s.rest (s.mine ++ zs) in let l = live_same h in omega arith in
    let then_two = two' s.rest s.rest_names (subst (λ r. OwesLinks mid table (r ∷ []) s.rest s.rest_names) (sym second) more) allocator (s.mine ++ zs) names kept_cells theirs final valid first.awaits fits_two in
    adds_twice allocator old mid new table g k s.mine s.rest zs xs (s.rest_names ++ names) names kept_cells theirs final first then_two (λ h. let c = counts h in let n = times-append h s.rest s.mine in omega arith)
