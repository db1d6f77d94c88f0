-- A value that owns no blocks, as a default value does, determines how its place opens.
use Rattle.std.proofs.Common.{◌≡◌, ℕ, List, [], length, Some, sym, ap, ◌∙◌, subst}
use Rattle.std.specs.List.{AllByRecursion}
use Rattle.seg_spec.specs.Types.{Form, Table}
use Rattle.seg_spec.specs.Value.{Value, Values, node, count}
use Rattle.seg_spec.specs.Reads.{Place, Opened, Opens, Holds, holds, HoldsEach, holds_none, holds_more}
use Rattle.seg_spec.proofs.Values.PathSplitLaws.{count_is}
use Rattle.client_spec.proofs.Unfolded.UnfoldedValueLaws.{nothing_left, nothing_right}
use Rattle.test_definitions.specs.Alike.{AlikeAt, opens_alike, AlikeEach, none_alike, more_alike}
use Rattle.test_definitions.proofs.ValueChanges.PersistAlikeLaws.{Fits, open_as_one}

module _ (first second : List ℕ) (table : Table) where
  mutual
    pub bare_alike : {place : Place} {v w : Value} {xs ys : List ℕ} → Holds first table place v xs → xs ≡ [] → Holds second table place w ys → ys ≡ [] → v ≡ w → AlikeAt first second table place
    bare_alike {place = place} (holds form a inside owned f o hs v_is xs_are) none (holds form2 b inside2 owned2 f2 o2 ks w_is ys_are) none_too same =
        let forms : form2 ≡ form = (let e : Some form2 ≡ Some form = sym f2 ∙ f in cc) in
        let p = subst (λ (g : Form). Opens second table place g b) forms o2 in
        let values : node a.label inside ≡ node b.label inside2 = sym v_is ∙ same ∙ w_is in
        let labels : a.label ≡ b.label = cc in
        let insides : inside ≡ inside2 = cc in
        let mine = nothing_left a.blocks owned (sym xs_are ∙ none) in
        let theirs = nothing_left b.blocks owned2 (sym ys_are ∙ none_too) in
        let long : length a.parts ≡ length b.parts = count_is first table hs ∙ ap count insides ∙ sym (count_is second table ks) in
        let one = open_as_one first second table place a b labels (mine ∙ sym theirs) long (subst (AllByRecursion (Fits first)) (sym mine) tt) (subst (AllByRecursion (Fits second)) (sym theirs) tt) form o p in
        opens_alike form a f o (subst (λ (z : Opened). Opens second table place form z) (sym one.same) p) one.counts
        (bare_each hs (nothing_right a.blocks owned (sym xs_are ∙ none)) (subst (λ (z : Opened). HoldsEach second table z.parts inside2 owned2) (sym one.same) ks) (nothing_right b.blocks owned2 (sym ys_are ∙ none_too)) insides)

    pub bare_each : {places : List Place} {vs ws : Values} {xs ys : List ℕ} → HoldsEach first table places vs xs → xs ≡ [] → HoldsEach second table places ws ys → ys ≡ [] → vs ≡ ws → AlikeEach first second table places
    bare_each holds_none none holds_none none_too same = none_alike
    bare_each (holds_more {v = v} {vs = vs} {blocks = xs} {owned = xs'} h hs) none (holds_more {v = w} {vs = ws} {blocks = ys} {owned = ys'} k ks) none_too same =
        let first_same : v ≡ w = cc in
        let more : vs ≡ ws = cc in
        more_alike (bare_alike h (nothing_left xs xs' none) k (nothing_left ys ys' none_too) first_same) (bare_each hs (nothing_right xs xs' none) ks (nothing_right ys ys' none_too) more)
