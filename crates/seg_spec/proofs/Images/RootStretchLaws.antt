-- Roots in two stretches of the list may be replaced by others.
use Rattle.std.proofs.Common.{◌≡◌, ℕ, ◌+◌, List, ◌++◌, sym, ap, ◌∙◌, subst, arith}
use Rattle.seg_spec.specs.Index.{Root}
use Rattle.seg_spec.specs.Sound.{Picture, roots_of, HoldsRoots, IsHeld, times}
use Rattle.seg_spec.specs.Roots.{StretchesComeApart}
use Rattle.seg_spec.proofs.Values.PlaceFrameLaws.{each_left, each_right}
use Rattle.seg_spec.proofs.Heap.LiveBlockLaws.{times-append}
use Rattle.seg_spec.proofs.Images.RootFrameLaws.{HoldsRoots-kept}
use Rattle.seg_spec.proofs.Images.RootLaws.{HoldsRoots-split, HoldsRoots-append}

five : (h : ℕ) (zs a as1 b bs1 c cs1 d e : List ℕ) → zs ≡ a ++ as1 → as1 ≡ b ++ bs1 → bs1 ≡ c ++ cs1 → cs1 ≡ d ++ e → times h zs ≡ times h (a ++ (c ++ e)) + times h b + times h d
five h zs a as1 b bs1 c cs1 d e p q r s =
    let n0 : times h zs ≡ times h (a ++ as1) = ap (times h) p in
    let n1 = times-append h a as1 in
    let n2 : times h as1 ≡ times h (b ++ bs1) = ap (times h) q in
    let n3 = times-append h b bs1 in
    let n4 : times h bs1 ≡ times h (c ++ cs1) = ap (times h) r in
    let n5 = times-append h c cs1 in
    let n6 : times h cs1 ≡ times h (d ++ e) = ap (times h) s in
    let n7 = times-append h d e in
    let n8 = times-append h a (c ++ e) in
    let n9 = times-append h c e in
    omega arith

owned_again : (h : ℕ) (ib a b c d e : List ℕ) → times h (ib ++ ((a ++ (c ++ e)) ++ (b ++ d))) ≡ times h (ib ++ (a ++ (b ++ (c ++ (d ++ e)))))
owned_again h ib a b c d e =
    let n1 = times-append h ib ((a ++ (c ++ e)) ++ (b ++ d)) in
    let n2 = times-append h (a ++ (c ++ e)) (b ++ d) in
    let n3 = times-append h a (c ++ e) in
    let n4 = times-append h c e in
    let n5 = times-append h b d in
    let m1 = times-append h ib (a ++ (b ++ (c ++ (d ++ e)))) in
    let m2 = times-append h a (b ++ (c ++ (d ++ e))) in
    let m3 = times-append h b (c ++ (d ++ e)) in
    let m4 = times-append h c (d ++ e) in
    let m5 = times-append h d e in
    omega arith

pub stretches_come_apart : (old : List ℕ) (picture : Picture) (held : IsHeld old picture) (before first between second after : List Root) → roots_of picture ≡ before ++ (first ++ (between ++ (second ++ after)))
    → StretchesComeApart old picture held before first between second after
stretches_come_apart old picture held before first between second after e =
    let tab = picture.table in
    let all : HoldsRoots old tab (before ++ (first ++ (between ++ (second ++ after)))) held.root_blocks = subst (λ rs. HoldsRoots old tab rs held.root_blocks) e held.roots in
    let s = HoldsRoots-split old tab before (first ++ (between ++ (second ++ after))) held.root_blocks all in
    let t = HoldsRoots-split old tab first (between ++ (second ++ after)) s.right s.rights in
    let u = HoldsRoots-split old tab between (second ++ after) t.right t.rights in
    let v = HoldsRoots-split old tab second after u.right u.rights in
    let valid = held.laid_out.is_table in
    record {
      around = s.left ++ (u.left ++ v.right);
      firsts = t.left;
      seconds = v.left;
      blocks_are = λ h. five h held.root_blocks s.left s.right t.left t.right u.left u.right v.left v.right s.blocks_are t.blocks_are u.blocks_are v.blocks_are;
      holds_first = t.lefts;
      holds_second = v.lefts;
      becomes = λ new other come come_too index_blocks theirs theirs_too table roots laid_out kept holds holds_too owners.
          let rest = each_right _ s.left (u.left ++ v.right) kept in
          record {
            index_blocks = index_blocks;
            laid_out = laid_out;
            root_blocks = s.left ++ (theirs ++ (u.left ++ (theirs_too ++ v.right)));
            roots =
                subst (λ t2. HoldsRoots new t2 (roots_of other) (s.left ++ (theirs ++ (u.left ++ (theirs_too ++ v.right))))) (sym table)
                (subst (λ rs. HoldsRoots new tab rs (s.left ++ (theirs ++ (u.left ++ (theirs_too ++ v.right))))) (sym roots)
                (HoldsRoots-append new tab (HoldsRoots-kept old new tab valid s.lefts (each_left _ s.left (u.left ++ v.right) kept))
                (HoldsRoots-append new tab holds
                (HoldsRoots-append new tab (HoldsRoots-kept old new tab valid u.lefts (each_left _ u.left v.right rest))
                (HoldsRoots-append new tab holds_too (HoldsRoots-kept old new tab valid v.rights (each_right _ u.left v.right rest)))))));
            owners = λ h. owners h ∙ owned_again h index_blocks s.left theirs u.left theirs_too v.right;
          };
    }
