-- A buffer that moves from one empty vec to another: the outer vec contains the same value, in the
-- same blocks, but its parts don't stay.
use Rattle.std.proofs.Common.{◌≡◌, ℕ, List, [], ◌∷◌, ◌++◌, length, Some, refl, sym, ap, ◌∙◌, subst, lit≤, arith, append-nil}
use Rattle.seg_spec.specs.Bytes.{slice, number, number_of}
use Rattle.seg_spec.specs.Pointer.{target}
use Rattle.seg_spec.specs.Types.{Form, form_at, size}
use Rattle.seg_spec.specs.Value.{Label, nil, cons, Seq}
use Rattle.seg_spec.specs.Reads.{Place, Opened, Opens, Holds, holds, HoldsEach, holds_none, holds_more}
use Rattle.seg_spec.specs.Parts.{Persists, persists, PersistEach, persist_more, KeepsAllParts}
use Rattle.seg_spec.proofs.Values.OneValueLaws.{Opens-one}
use Rattle.seg_spec.proofs.Values.PersistenceLaws.{each_persists}
use Rattle.test_definitions.specs.MovedBuffers.{nested, two_vecs, empty_vecs, first_has, second_has}

first_cell : Place
first_cell = record { at = 32; type = 0 }

second_cell : Place
second_cell = record { at = 40; type = 0 }

outer : Opened
outer = record { label = Label.seq; blocks = 16 ∷ []; parts = record { at = 32; type = 0 } ∷ record { at = 40; type = 0 } ∷ [] }

-- an empty vec with a buffer, and one without
with_buffer : Opened
with_buffer = record { label = Label.seq; blocks = 48 ∷ []; parts = [] }

without_buffer : Opened
without_buffer = record { label = Label.seq; blocks = []; parts = [] }

first_opens : Opens first_has nested two_vecs (Form.vec 0) outer
unfolding first_has slice number number_of target size outer
first_opens = record { named_room = record { after_header = lit≤ tt; live = refl; has_tag = refl; room = lit≤ tt }; ascending = tt; opened_is = refl }

second_opens : Opens second_has nested two_vecs (Form.vec 0) outer
unfolding second_has slice number number_of target size outer
second_opens = record { named_room = record { after_header = lit≤ tt; live = refl; has_tag = refl; room = lit≤ tt }; ascending = tt; opened_is = refl }

buffer_first : Opens first_has nested first_cell (Form.vec 0) with_buffer
unfolding first_has slice number number_of target size first_cell with_buffer
buffer_first = record { named_room = record { after_header = lit≤ tt; live = refl; has_tag = refl; room = lit≤ tt }; ascending = tt; opened_is = refl }

none_first : Opens first_has nested second_cell (Form.vec 0) without_buffer
unfolding first_has slice number number_of target size second_cell without_buffer
none_first = record { named_room = refl; ascending = tt; opened_is = refl }

none_second : Opens second_has nested first_cell (Form.vec 0) without_buffer
unfolding second_has slice number number_of target size first_cell without_buffer
none_second = record { named_room = refl; ascending = tt; opened_is = refl }

buffer_second : Opens second_has nested second_cell (Form.vec 0) with_buffer
unfolding second_has slice number number_of target size second_cell with_buffer
buffer_second = record { named_room = record { after_header = lit≤ tt; live = refl; has_tag = refl; room = lit≤ tt }; ascending = tt; opened_is = refl }

empty_with : (bytes : List ℕ) (cell : Place) → cell.type ≡ 0 → Opens bytes nested cell (Form.vec 0) with_buffer → Holds bytes nested cell (Seq nil) (48 ∷ [])
unfolding with_buffer
empty_with bytes cell t o = holds {place = cell} (Form.vec 0) with_buffer nil [] (ap (form_at nested) t) o holds_none refl refl

empty_without : (bytes : List ℕ) (cell : Place) → cell.type ≡ 0 → Opens bytes nested cell (Form.vec 0) without_buffer → Holds bytes nested cell (Seq nil) []
unfolding without_buffer
empty_without bytes cell t o = holds {place = cell} (Form.vec 0) without_buffer nil [] (ap (form_at nested) t) o holds_none refl refl

both_hold : (bytes xs ys : List ℕ) → xs ++ ys ≡ 48 ∷ [] → Opens bytes nested two_vecs (Form.vec 0) outer → Holds bytes nested first_cell (Seq nil) xs → Holds bytes nested second_cell (Seq nil) ys
    → Holds bytes nested two_vecs empty_vecs (16 ∷ 48 ∷ [])
unfolding outer first_cell second_cell
both_hold bytes xs ys e o a b =
    let each : HoldsEach bytes nested (first_cell ∷ second_cell ∷ []) (cons (Seq nil) (cons (Seq nil) nil)) (xs ++ (ys ++ [])) = holds_more a (holds_more b holds_none) in
    let all : xs ++ (ys ++ []) ≡ 48 ∷ [] = ap (λ zs. xs ++ zs) (append-nil ys) ∙ e in
    holds {place = two_vecs} (Form.vec 0) outer (cons (Seq nil) (cons (Seq nil) nil)) (48 ∷ []) refl o (subst (HoldsEach bytes nested (first_cell ∷ second_cell ∷ []) (cons (Seq nil) (cons (Seq nil) nil))) all each) refl refl

pub first-holds : Holds first_has nested two_vecs empty_vecs (16 ∷ 48 ∷ [])
unfolding first_cell second_cell
first-holds = both_hold first_has (48 ∷ []) [] refl first_opens (empty_with first_has first_cell refl buffer_first) (empty_without first_has second_cell refl none_first)

pub second-holds : Holds second_has nested two_vecs empty_vecs (16 ∷ 48 ∷ [])
unfolding first_cell second_cell
second-holds = both_hold second_has [] (48 ∷ []) refl second_opens (empty_without second_has first_cell refl none_second) (empty_with second_has second_cell refl buffer_second)

-- the first of the two lost its buffer, so it doesn't persist
not_persists : Persists first_has second_has nested first_cell first_cell → ⊥
unfolding first_cell with_buffer without_buffer
not_persists (persists form before after f types o n labels blocks each) =
    let forms : form ≡ Form.vec 0 = (let e : Some (Form.vec 0) ≡ Some form = f in cc) in
    let was = Opens-one first_has nested first_cell (Form.vec 0) before with_buffer (subst (λ (k : Form). Opens first_has nested first_cell k before) forms o) buffer_first in
    let is = Opens-one second_has nested first_cell (Form.vec 0) after without_buffer (subst (λ (k : Form). Opens second_has nested first_cell k after) forms n) none_second in
    let same : ◌≡◌ {A = List ℕ} [] (48 ∷ []) = ap (λ (r : Opened). r.blocks) (sym is) ∙ blocks ∙ ap (λ (r : Opened). r.blocks) was in
    absurd (omega (arith, ap length same))

first_of : (p q : Place) (ps qs : List Place) → PersistEach first_has second_has nested (p ∷ ps) (q ∷ qs) → Persists first_has second_has nested p q
first_of p q ps qs (persist_more one rest) = one

pub parts-exchanged : KeepsAllParts first_has second_has nested two_vecs → ⊥
unfolding outer first_cell
parts-exchanged k =
    let each = each_persists first_has second_has nested two_vecs (Form.vec 0) outer outer refl first_opens second_opens k in
    not_persists (first_of (record { at = 32; type = 0 }) (record { at = 32; type = 0 }) (record { at = 40; type = 0 } ∷ []) (record { at = 40; type = 0 } ∷ []) each)
