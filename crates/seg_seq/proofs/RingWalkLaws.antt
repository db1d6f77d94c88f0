-- The neighbours in a ring, and the node at a distance.
use Rattle.std.proofs.Common.{◌≡◌, ℕ, zero, suc, ◌+◌, ◌-◌, ◌%◌, ◌^◌, ◌<◌, ◌≤◌, ⊎_elim, true, false, leb, ltb, cond, List, [], ◌∷◌, length, get_or, Some, refl, sym, ap, ◌∙◌, subst, arith}
use Rattle.std.specs.Prelude.{unwrap_or}
use Rattle.std.specs.List.{AllByRecursion}
use Rattle.std.proofs.lemmas.Bool.{cases_lt}
use Rattle.std.proofs.lemmas.Bool.Decides.{nat_tests}
use Rattle.seg_spec.specs.Pointer.{target}
use Rattle.seg_spec.specs.Reads.{start}
use Rattle.seg_spec.specs.Shapes.{IsLinked, IsRing}
use Rattle.seg_spec.proofs.Deallocation.RingDestructionLaws.{last_of, last_named}
use Rattle.seg_seq.specs.Rings.{AreSpread, HasRing, link_of, around}
use Rattle.seg_seq.specs.declared.ring.Way.{Way}
use Rattle.seg_seq.specs.declared.ring.Way.TheVariants as way
use Rattle.seg_seq.proofs.RingRemovalLaws.{ring_first}

-- ---- the neighbours

next_inside : (bytes : List ℕ) (z x : ℕ) (ys : List ℕ) (i : ℕ) → IsLinked bytes z x ys → i < length ys → target bytes (get_or (x ∷ ys) i 0) ≡ Some (get_or ys i 0)
next_inside bytes z x [] i l h = absurd (omega arith)
next_inside bytes z x (y ∷ ys) zero l h = l.0.next
next_inside bytes z x (y ∷ ys) (suc i) l h = next_inside bytes z y ys i l.1 (omega arith)

next_last : (bytes : List ℕ) (z x : ℕ) (ys : List ℕ) → IsLinked bytes z x ys → target bytes (get_or (x ∷ ys) (length ys) 0) ≡ Some z
next_last bytes z x [] l = l.next
next_last bytes z x (y ∷ ys) l = next_last bytes z y ys l.1

previous_inside : (bytes : List ℕ) (z x : ℕ) (ys : List ℕ) (i : ℕ) → IsLinked bytes z x ys → i < length ys → target bytes (get_or ys i 0 + 4) ≡ Some (get_or (x ∷ ys) i 0)
previous_inside bytes z x [] i l h = absurd (omega arith)
previous_inside bytes z x (y ∷ ys) zero l h = l.0.previous
previous_inside bytes z x (y ∷ ys) (suc i) l h = previous_inside bytes z y ys i l.1 (omega arith)

last_index : (x : ℕ) (ys : List ℕ) → last_of x ys ≡ get_or (x ∷ ys) (length ys) 0
last_index x [] = refl
last_index x (y ∷ ys) = last_index y ys

fits_at : (n : ℕ) (xs : List ℕ) (i : ℕ) → AllByRecursion (λ p. (p % 8 ≡ 0) × (p + 8 ≤ n)) xs → i < length xs → (get_or xs i 0 % 8 ≡ 0) × (get_or xs i 0 + 8 ≤ n)
fits_at n [] i h l = absurd (omega arith)
fits_at n (x ∷ xs) zero h l = h.0
fits_at n (x ∷ xs) (suc i) h l = fits_at n xs i h.1 (omega arith)

-- the index after k steps, in each direction
around_on : (n i k : ℕ) → i + k < n → around way.Forward n i k ≡ i + k
around_on n i k h = let t : ltb (i + k) n ≡ true = grind (arith, nat_tests) in ap (λ b. cond b (i + k) (i + k - n)) t

around_over : (n i k : ℕ) → n ≤ i + k → around way.Forward n i k ≡ i + k - n
around_over n i k h = let t : ltb (i + k) n ≡ false = grind (arith, nat_tests) in ap (λ b. cond b (i + k) (i + k - n)) t

around_back : (n i k : ℕ) → k ≤ i → around way.Backward n i k ≡ i - k
around_back n i k h = let t : leb k i ≡ true = grind (arith, nat_tests) in ap (λ b. cond b (i - k) (i + n - k)) t

around_under : (n i k : ℕ) → i < k → around way.Backward n i k ≡ i + n - k
around_under n i k h = let t : leb k i ≡ false = grind (arith, nat_tests) in ap (λ b. cond b (i - k) (i + n - k)) t

pub around_less : (w : Way) (n i k : ℕ) → i < n → k ≤ n → around w n i k < n
around_less way.Forward n i k h l = ⊎_elim (λ f. let e = around_on n i k f in omega arith) (λ f. let e = around_over n i k f in omega arith) (cases_lt (i + k) n)
around_less way.Backward n i k h l = ⊎_elim (λ f. let e = around_under n i k f in omega arith) (λ f. let e = around_back n i k f in omega arith) (cases_lt i k)

-- k + 1 steps are k steps and then one
pub around_more : (w : Way) (n i k : ℕ) → i < n → k + 1 ≤ n → around w n (around w n i k) 1 ≡ around w n i (k + 1)
around_more way.Forward n i k h l = ⊎_elim
    (λ f. let e = around_on n i k f in ⊎_elim
    (λ g. rw e (around_on n (i + k) 1 (omega arith) ∙ sym (around_on n i (k + 1) (omega arith) ∙ (omega arith))))
    (λ g. rw e (around_over n (i + k) 1 (omega arith) ∙ sym (around_over n i (k + 1) (omega arith) ∙ (omega arith)))) (cases_lt (i + k + 1) n))
    (λ f. let e = around_over n i k f in rw e (around_on n (i + k - n) 1 (omega arith) ∙ sym (around_over n i (k + 1) (omega arith) ∙ (omega arith)))) (cases_lt (i + k) n)
around_more way.Backward n i k h l = ⊎_elim
    (λ f. let e = around_under n i k f in rw e (around_back n (i + n - k) 1 (omega arith) ∙ sym (around_under n i (k + 1) (omega arith) ∙ (omega arith))))
    (λ f. let e = around_back n i k f in ⊎_elim
    (λ g. rw e (around_under n (i - k) 1 (omega arith) ∙ sym (around_under n i (k + 1) (omega arith) ∙ (omega arith))))
    (λ g. rw e (around_back n (i - k) 1 (omega arith) ∙ sym (around_back n i (k + 1) (omega arith) ∙ (omega arith)))) (cases_lt i (k + 1))) (cases_lt i k)

pub around_none : (w : Way) (n i : ℕ) → i < n → around w n i 0 ≡ i
around_none way.Forward n i h = around_on n i 0 (omega arith) ∙ (omega arith)
around_none way.Backward n i h = around_back n i 0 (omega arith) ∙ (omega arith)

module _ (bytes : List ℕ) (cell : ℕ) (nodes : List ℕ) (r : HasRing bytes cell nodes) (s : AreSpread bytes (cell ∷ nodes)) where
  stepped : (w : Way) (x : ℕ) (ys : List ℕ) (i : ℕ) → IsLinked bytes x x ys → i < length (x ∷ ys) → AllByRecursion (λ p. (p % 8 ≡ 0) × (p + 8 ≤ length bytes)) (x ∷ ys) →
      target bytes (link_of w (get_or (x ∷ ys) i 0)) ≡ Some (get_or (x ∷ ys) (around w (length (x ∷ ys)) i 1) 0)
  stepped way.Forward x ys i l h fit = ⊎_elim
      (λ f. next_inside bytes x x ys i l f ∙ ap Some (sym (ap (λ k. get_or (x ∷ ys) k 0) (around_on (length (x ∷ ys)) i 1 (omega arith) ∙ one_more i))))
      (λ f. let e : i ≡ length ys = omega arith in
      let zero_is : around way.Forward (length (x ∷ ys)) (length ys) 1 ≡ 0 = around_over (length (x ∷ ys)) (length ys) 1 (omega arith) ∙ over (length ys) in
      rw e (next_last bytes x x ys l ∙ ap Some (sym (ap (λ k. get_or (x ∷ ys) k 0) zero_is))))
      (cases_lt i (length ys))
    where
      one_more : (k : ℕ) → k + 1 ≡ suc k
      one_more k = omega arith

      over : (k : ℕ) → k + 1 - suc k ≡ 0
      over k = omega arith
  stepped way.Backward x ys zero l h fit =
      let f = fits_at (length bytes) (x ∷ ys) 0 fit h in
      let end = f.1 in
      let small = s.small in
      let low : (x + 4) % 2 ^ 32 ≡ x + 4 = omega arith in
      let is : around way.Backward (length (x ∷ ys)) 0 1 ≡ length ys = around_under (length (x ∷ ys)) 0 1 (omega arith) ∙ (omega arith) in
      rw low (last_named bytes x x ys l ∙ ap Some (last_index x ys ∙ sym (ap (λ k. get_or (x ∷ ys) k 0) is)))
  stepped way.Backward x ys (suc i) l h fit =
      let f = fits_at (length bytes) (x ∷ ys) (suc i) fit h in
      let end = f.1 in
      let small = s.small in
      let low : (get_or ys i 0 + 4) % 2 ^ 32 ≡ get_or ys i 0 + 4 = omega arith in
      let is : around way.Backward (length (x ∷ ys)) (suc i) 1 ≡ i = around_back (length (x ∷ ys)) (suc i) 1 (omega arith) ∙ (omega arith) in
      rw low (previous_inside bytes x x ys i l (omega arith) ∙ ap Some (sym (ap (λ k. get_or (x ∷ ys) k 0) is)))

  named : (w : Way) (i : ℕ) (xs : List ℕ) → xs ≡ nodes → i < length xs → target bytes (link_of w (get_or xs i 0)) ≡ Some (get_or xs (around w (length xs) i 1) 0)
  named w i [] e h = absurd (omega arith)
  named w i (x ∷ ys) e h =
      let ring : IsRing bytes (target bytes cell) (x ∷ ys) = subst (λ zs. IsRing bytes (target bytes cell) zs) (sym e) r.ring in
      stepped w x ys i (ring_first bytes (target bytes cell) x ys ring).1 h (subst (λ zs. AllByRecursion (λ p. (p % 8 ≡ 0) × (p + 8 ≤ length bytes)) zs) (sym e) s.fit.1)

  -- the neighbour of the node at an index
  pub neighbour_named : (w : Way) (i : ℕ) → i < length nodes → start bytes (link_of w (get_or nodes i 0)) ≡ get_or nodes (around w (length nodes) i 1) 0
  neighbour_named w i h = ap (λ t. unwrap_or t 0) (named w i nodes refl h)

  -- one step of a walk along the ring
  pub walked : (w : Way) (i k node after : ℕ) → i < length nodes → k + 1 ≤ length nodes → node ≡ get_or nodes (around w (length nodes) i k) 0 → after ≡ start bytes (link_of w node) →
      after ≡ get_or nodes (around w (length nodes) i (k + 1)) 0
  walked w i k node after h l e f =
      f ∙ ap (λ p. start bytes (link_of w p)) e ∙ neighbour_named w (around w (length nodes) i k) (around_less w (length nodes) i k h (omega arith))
      ∙ ap (λ j. get_or nodes j 0) (around_more w (length nodes) i k h l)

  first_named : (xs : List ℕ) → xs ≡ nodes → 1 ≤ length xs → start bytes cell ≡ get_or xs 0 0
  first_named [] e h = absurd (omega arith)
  first_named (x ∷ ys) e h =
      let ring : IsRing bytes (target bytes cell) (x ∷ ys) = subst (λ zs. IsRing bytes (target bytes cell) zs) (sym e) r.ring in
      ap (λ t. unwrap_or t 0) (ring_first bytes (target bytes cell) x ys ring).0

  pub starts : 1 ≤ length nodes → start bytes cell ≡ get_or nodes 0 0
  starts h = first_named nodes refl h

  -- walks from the first and from the last node
  pub forward_is : (index : ℕ) → index < length nodes → around way.Forward (length nodes) 0 index ≡ index
  forward_is index h = around_on (length nodes) 0 index (omega arith) ∙ (omega arith)

  pub backward_is : (index steps : ℕ) → index < length nodes → steps ≡ length nodes - index → around way.Backward (length nodes) 0 steps ≡ index
  backward_is index steps h e = around_under (length nodes) 0 steps (omega arith) ∙ (omega arith)
