-- The pointer words along a path.
use Rattle.std.proofs.Common.{◌≡◌, ◌≢◌, ℕ, zero, suc, ◌-◌, ◌<◌, ◌≤◌, List, [], ◌∷◌, ◌++◌, length, take, get_or, refl, sym, ap, ◌∙◌, arith}
use Rattle.seg_rbtree.specs.declared.step.Step.{Step}
use Rattle.seg_rbtree.specs.Nodes.{side_word}
use Rattle.seg_rbtree.specs.Ways.{Layer, step_of, steps_of, place, last_word}

pub last_word-append : (root : ℕ) (xs : List Step) (s : Step) → last_word root (xs ++ s ∷ []) ≡ side_word s.node s.side
last_word-append root [] s = refl
last_word-append root (x ∷ xs) s = last_word-append (side_word x.node x.side) xs s

-- the pointer word after the steps of layers is the word of the place below them
pub last_word-steps : (root : ℕ) (layers : List Layer) → last_word root (steps_of layers) ≡ place root layers
last_word-steps root [] = refl
last_word-steps root (layer ∷ layers) = last_word-append root (steps_of layers) (step_of layer)

last_word-take : (root : ℕ) (xs : List Step) (k : ℕ) (d : Step) → k < length xs → last_word root (take (suc k) xs) ≡ side_word (get_or xs k d).node (get_or xs k d).side
last_word-take root [] k d h = absurd (omega arith)
last_word-take root (x ∷ xs) zero d h = refl
last_word-take root (x ∷ xs) (suc k) d h = last_word-take (side_word x.node x.side) xs k d (omega arith)

-- the word after the first n steps
pub word_below : (root : ℕ) (items xs : List Step) (n word : ℕ) (s : Step) → xs ≡ items → n ≢ 0 → n ≤ length items → s ≡ get_or xs (n - 1) s → word ≡ side_word s.node s.side → word ≡ last_word root (take n items)
word_below root items xs n word s same some enough at is =
    let n_is : suc (n - 1) ≡ n = omega arith in
    let there : get_or items (n - 1) s ≡ s = sym (at ∙ ap (λ ys. get_or ys (n - 1) s) same) in
    is ∙ sym (ap (λ (t : Step). side_word t.node t.side) there) ∙ sym (last_word-take root items (n - 1) s (omega arith)) ∙ ap (λ m. last_word root (take m items)) n_is
