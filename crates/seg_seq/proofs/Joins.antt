-- Nodes that are linked to each other, and the rings that result.
use Rattle.std.proofs.Common.{◌≡◌, ◌≢◌, ℕ, ◌+◌, ◌%◌, ◌^◌, ◌<◌, ◌≤◌, ◌⊎◌, inl, inr, ⊎_elim, List, [], ◌∷◌, ◌++◌, length, Some, sym, ◌∙◌, subst, arith}
use Rattle.std.specs.List.{AllByRecursion}
use Rattle.std.proofs.lemmas.Bool.{cases_lt}
use Rattle.seg_spec.specs.Bytes.{word, set_word}
use Rattle.seg_spec.specs.Pointer.{target, distance, set_pointer}
use Rattle.seg_spec.specs.Shapes.{AreLinked, IsLinked}
use Rattle.seg_spec.specs.Sound.{times}
use Rattle.seg_spec.proofs.BytesLaws.{length-set_number, number-set_other}
use Rattle.seg_spec.proofs.PointerLaws.{target-set_same, target-same as word_target}
use Rattle.seg_spec.proofs.Heap.LiveBlockLaws.{times-same, times-more}
use Rattle.seg_spec.proofs.Deallocation.RingDestructionLaws.{last_of}
use Rattle.seg_seq.specs.Rings.{coupled}

-- ---- single words

apart_words : (a b : ℕ) → a % 4 ≡ 0 → b % 4 ≡ 0 → a ≢ b → (b + 4 ≤ a) ⊎ (a + 4 ≤ b)
apart_words a b ha hb ne = ⊎_elim (λ l. inr (omega arith)) (λ l. inl (omega arith)) (cases_lt a b)

pub word_other : (bytes : List ℕ) (at d q : ℕ) → at % 4 ≡ 0 → q % 4 ≡ 0 → at ≢ q → word (set_word bytes at d) q ≡ word bytes q
word_other bytes at d q ha hq ne = number-set_other 4 4 bytes at d q (apart_words at q ha hq ne)

pub target_other : (bytes : List ℕ) (at d q : ℕ) → at % 4 ≡ 0 → q % 4 ≡ 0 → at ≢ q → target (set_word bytes at d) q ≡ target bytes q
target_other bytes at d q ha hq ne = word_target bytes (set_word bytes at d) q (word_other bytes at d q ha hq ne)

pub names : (bytes : List ℕ) (at to : ℕ) → length bytes ≤ 2 ^ 30 → at + 4 ≤ length bytes → at % 4 ≡ 0 → to % 4 ≡ 0 → to < 2 ^ 32 → target (set_pointer bytes at (Some to)) at ≡ Some to
names bytes at to small fits ha ht low = target-set_same bytes at (Some to) fits (omega arith) (λ t e. let same : to ≡ t = cc in (omega arith, λ odd. omega arith))

-- ---- two coupled nodes

module _ (bytes : List ℕ) (x y : ℕ) (hx : x % 8 ≡ 0) (hy : y % 8 ≡ 0) where
  first : List ℕ
  first = set_pointer bytes x (Some y)

  pub joined_next : (u : ℕ) → u % 8 ≡ 0 → u ≢ x → target (coupled bytes x y) u ≡ target bytes u
  unfolding first
  joined_next u hu ne =
      target_other first (y + 4) (distance (y + 4) (Some x)) u (omega arith) (omega arith) (λ e. omega arith)
      ∙ target_other bytes x (distance x (Some y)) u (omega arith) (omega arith) (λ e. ne (sym e))

  pub joined_second : (v : ℕ) → v % 8 ≡ 0 → v ≢ y → word (coupled bytes x y) (v + 4) ≡ word bytes (v + 4)
  unfolding first
  joined_second v hv ne =
      word_other first (y + 4) (distance (y + 4) (Some x)) (v + 4) (omega arith) (omega arith) (λ e. ne (omega arith))
      ∙ word_other bytes x (distance x (Some y)) (v + 4) (omega arith) (omega arith) (λ e. omega arith)

  pub joined_previous : (v : ℕ) → v % 8 ≡ 0 → v ≢ y → target (coupled bytes x y) (v + 4) ≡ target bytes (v + 4)
  joined_previous v hv ne = word_target bytes (coupled bytes x y) (v + 4) (joined_second v hv ne)

  pub joined_length : length (coupled bytes x y) ≡ length bytes
  joined_length = length-set_number 4 (set_pointer bytes x (Some y)) (y + 4) (distance (y + 4) (Some x)) ∙ length-set_number 4 bytes x (distance x (Some y))

  pub joined_linked : length bytes ≤ 2 ^ 30 → x + 8 ≤ length bytes → y + 8 ≤ length bytes → AreLinked (coupled bytes x y) x y
  unfolding first
  joined_linked small fx fy =
      let long = length-set_number 4 bytes x (distance x (Some y)) in
      record {
        next = target_other first (y + 4) (distance (y + 4) (Some x)) x (omega arith) (omega arith) (λ e. omega arith) ∙ names bytes x y small (omega arith) (omega arith) (omega arith) (omega arith);
        previous = names first (y + 4) x (omega arith) (omega arith) (omega arith) (omega arith) (omega arith);
      }

-- ---- chains

abbrev pub AreAligned : List ℕ → Type 0
AreAligned nodes = AllByRecursion (λ p. p % 8 ≡ 0) nodes

pub linked_append : (bytes : List ℕ) (x : ℕ) (ys : List ℕ) (y : ℕ) (zs : List ℕ) (z : ℕ) → IsLinked bytes y x ys → IsLinked bytes z y zs → IsLinked bytes z x (ys ++ y ∷ zs)
linked_append bytes x [] y zs z l m = (l, m)
linked_append bytes x (v ∷ vs) y zs z l m = (l.0, linked_append bytes v vs y zs z l.1 m)

pub linked_split : (bytes : List ℕ) (x : ℕ) (ys : List ℕ) (y : ℕ) (zs : List ℕ) (z : ℕ) → IsLinked bytes z x (ys ++ y ∷ zs) → IsLinked bytes y x ys × IsLinked bytes z y zs
linked_split bytes x [] y zs z l = (l.0, l.1)
linked_split bytes x (v ∷ vs) y zs z l = let rest = linked_split bytes v vs y zs z l.1 in ((l.0, rest.0), rest.1)

pub last_among : (x : ℕ) (ys : List ℕ) → 1 ≤ times (last_of x ys) (x ∷ ys)
last_among x [] = omega (arith, times-same x [])
last_among x (y ∷ ys) = let rest = last_among y ys in let more = times-more (last_of y ys) x (y ∷ ys) in omega arith

-- the last node of a chain and the node after it point to each other
pub chain_end : (bytes : List ℕ) (z x : ℕ) (ys : List ℕ) → IsLinked bytes z x ys → AreLinked bytes (last_of x ys) z
chain_end bytes z x [] l = l
chain_end bytes z x (y ∷ ys) l = chain_end bytes z y ys l.1

absent_other : (a x : ℕ) (xs : List ℕ) → times a (x ∷ xs) ≡ 0 → x ≢ a
absent_other a x xs none e = let one = times-same x xs in let z : times x (x ∷ xs) ≡ 0 = subst (λ k. times k (x ∷ xs) ≡ 0) (sym e) none in absurd (omega arith)

absent_rest : (a x : ℕ) (xs : List ℕ) → times a (x ∷ xs) ≡ 0 → times a xs ≡ 0
absent_rest a x xs none = let m = times-more a x xs in omega arith

module _ (bytes : List ℕ) (a b : ℕ) (ha : a % 8 ≡ 0) (hb : b % 8 ≡ 0) where
  kept : (u v : ℕ) → u % 8 ≡ 0 → v % 8 ≡ 0 → u ≢ a → v ≢ b → AreLinked bytes u v → AreLinked (coupled bytes a b) u v
  kept u v hu hv n m l = record { next = joined_next bytes a b ha hb u hu n ∙ l.next; previous = joined_previous bytes a b ha hb v hv m ∙ l.previous }

  -- a chain that contains neither of the two nodes is kept
  pub linked_beside : (z x : ℕ) (ys : List ℕ) → z % 8 ≡ 0 → AreAligned (x ∷ ys) → times a (x ∷ ys) ≡ 0 → times b ys ≡ 0 → z ≢ b → IsLinked bytes z x ys → IsLinked (coupled bytes a b) z x ys
  linked_beside z x [] hz hs na nb ne l = kept x z hs.0 hz (absent_other a x [] na) ne l
  linked_beside z x (y ∷ ys) hz hs na nb ne l = (
    kept x y hs.0 hs.1.0 (absent_other a x (y ∷ ys) na) (absent_other b y ys nb) l.0,
    linked_beside z y ys hz hs.1 (absent_rest a x (y ∷ ys) na) (absent_rest b y ys nb) ne l.1,
  )

  -- the last node of a chain is coupled to another node
  pub linked_to : length bytes ≤ 2 ^ 30 → a + 8 ≤ length bytes → b + 8 ≤ length bytes → (z x : ℕ) (ys : List ℕ) → a ≡ last_of x ys → AreAligned (x ∷ ys) → ((h : ℕ) → times h (x ∷ ys) ≤ 1) → times b ys ≡ 0 →
      IsLinked bytes z x ys → IsLinked (coupled bytes a b) b x ys
  linked_to small fa fb z x [] e hs once nb l = subst (λ k. AreLinked (coupled bytes a b) k b) e (joined_linked bytes a b ha hb small fa fb)
  linked_to small fa fb z x (y ∷ ys) e hs once nb l = (
    kept x y hs.0 hs.1.0 other (absent_other b y ys nb) l.0,
    linked_to small fa fb z y ys e hs.1 (λ h. let o = once h in let m = times-more h x (y ∷ ys) in omega arith) (absent_rest b y ys nb) l.1,
  )
    where
      other : x ≢ a
      other same =
          let t = last_among y ys in
          let o = once x in
          let s = times-same x (y ∷ ys) in
          let is : 1 ≤ times x (y ∷ ys) = subst (λ k. 1 ≤ times k (y ∷ ys)) (sym (same ∙ e)) t in
          absurd (omega arith)
