-- The positions of the units with marks of a kind.
use Rattle.std.proofs.Common.{◌≡◌, ◌≢◌, ℕ, zero, suc, ◌+◌, ◌*◌, ◌<◌, ◌≤◌, ◌⊎◌, inl, inr, ⊎_elim, Bool, true, false, cond, List, [], ◌∷◌, ◌++◌, length, get_or, set, take, replicate, refl, sym, ap, ◌∙◌, arith}
use Rattle.std.proofs.lemmas.Bool.{cases_eq}
use Rattle.seg_spec.specs.Sound.{times}
use Rattle.seg_spec.proofs.Heap.LiveBlockLaws.{times-same, times-other}
use Rattle.seg_check.specs.declared.marks.Mark.{Mark}
use Rattle.seg_check.specs.declared.marks.Mark.TheVariants.{Inside}
use Rattle.seg_check.specs.Marks.{those_from}

-- 1 if a mark is of the kind, otherwise 0
abbrev pub bit : Bool → ℕ
bit b = cond b 1 0

counted : (h x : ℕ) (ys zs : List ℕ) → times h ys ≡ times h zs → times h (x ∷ ys) ≡ times h (x ∷ zs)
counted h x ys zs e = omega (arith, e)

-- the list of a position, or the empty list
abbrev pub one : Bool → ℕ → List ℕ
one true x = x ∷ []
one false x = []

below_or_not : (x y : ℕ) → (x < y) ⊎ (y ≤ x)
below_or_not x zero = inr (omega arith)
below_or_not zero (suc y) = inl (omega arith)
below_or_not (suc x) (suc y) = ⊎_elim (λ l. inl (omega arith)) (λ l. inr (omega arith)) (below_or_not x y)

module _ (these : Mark → Bool) where
  -- no position before the first unit is in the list
  pub none_below : (h at : ℕ) (ms : List Mark) → h < at → times h (those_from these at ms) ≡ 0
  none_below h at [] low = refl
  none_below h at (m ∷ ms) low =
      let rest = none_below h (at + 16) ms (omega arith) in
      elim (these m) as (λ b. times h (cond b (at ∷ those_from these (at + 16) ms) (those_from these (at + 16) ms)) ≡ 0)
      [ true ↦ times-other h at (those_from these (at + 16) ms) (λ e. omega arith) ∙ rest | false ↦ rest ]

  first : (at : ℕ) (m : Mark) (ms : List Mark) → times at (those_from these at (m ∷ ms)) ≡ bit (these m)
  first at m ms =
      let rest = none_below at (at + 16) ms (omega arith) in
      elim (these m) as (λ b. times at (cond b (at ∷ those_from these (at + 16) ms) (those_from these (at + 16) ms)) ≡ bit b)
      [ true ↦ times-same at (those_from these (at + 16) ms) ∙ ap (λ n. 1 + n) rest | false ↦ rest ]

  pub later : (h at : ℕ) (m : Mark) (ms : List Mark) → at ≢ h → times h (those_from these at (m ∷ ms)) ≡ times h (those_from these (at + 16) ms)
  later h at m ms other =
      elim (these m) as (λ b. times h (cond b (at ∷ those_from these (at + 16) ms) (those_from these (at + 16) ms)) ≡ times h (those_from these (at + 16) ms))
      [ true ↦ times-other h at (those_from these (at + 16) ms) other | false ↦ refl ]

  -- whether a unit's position is in the list depends on the unit's mark
  pub looked : (h at u : ℕ) (ms : List Mark) → h ≡ at + 16 * u → u < length ms → times h (those_from these at ms) ≡ bit (these (get_or ms u Inside))
  looked h at u [] is inside = absurd (omega arith)
  looked h at zero (m ∷ ms) is inside =
      let same : h ≡ at = omega arith in
      ap (λ x. times x (those_from these at (m ∷ ms))) same ∙ first at m ms
  looked h at (suc u) (m ∷ ms) is inside =
      later h at m ms (λ e. omega arith) ∙ looked h (at + 16) u ms (omega arith) (omega arith)

  -- positions in the list are positions of units
  pub no_unit : (h at : ℕ) (ms : List Mark) → ((u : ℕ) → h ≡ at + 16 * u → u < length ms → ⊥) → times h (those_from these at ms) ≡ 0
  no_unit h at [] none = refl
  no_unit h at (m ∷ ms) none =
      later h at m ms (λ e. none 0 (omega arith) (omega arith)) ∙ no_unit h (at + 16) ms (λ u is inside. none (suc u) (omega arith) (omega arith))

  -- setting a mark doesn't affect other positions
  pub set_other : (h at u : ℕ) (ms : List Mark) (m : Mark) → at + 16 * u ≢ h → times h (those_from these at (set ms u m)) ≡ times h (those_from these at ms)
  set_other h at u [] m other = refl
  set_other h at zero (x ∷ ms) m other =
      let ne : at ≢ h = (λ e. other (omega arith)) in
      later h at m ms ne ∙ sym (later h at x ms ne)
  set_other h at (suc u) (x ∷ ms) m other =
      let rest = set_other h (at + 16) u ms m (λ e. other (omega arith)) in
      elim (these x) as (λ b. times h (cond b (at ∷ those_from these (at + 16) (set ms u m)) (those_from these (at + 16) (set ms u m))) ≡ times h (cond b (at ∷ those_from these (at + 16) ms) (those_from these (at + 16) ms)))
      [ true ↦ counted h at _ _ rest | false ↦ rest ]

  -- setting a mark affects nothing if the old mark and the new one are of the same kind
  pub set_same : (at u : ℕ) (ms : List Mark) (m : Mark) → u < length ms → these m ≡ these (get_or ms u Inside) → those_from these at (set ms u m) ≡ those_from these at ms
  set_same at u [] m inside same = absurd (omega arith)
  set_same at zero (x ∷ ms) m inside same = ap (λ b. cond b (at ∷ those_from these (at + 16) ms) (those_from these (at + 16) ms)) same
  set_same at (suc u) (x ∷ ms) m inside same = ap (λ rest. cond (these x) (at ∷ rest) rest) (set_same (at + 16) u ms m (omega arith) same)

  -- if no mark is of the kind, the list is empty
  pub none_in : (at n : ℕ) (m : Mark) → these m ≡ false → those_from these at (replicate n m) ≡ []
  none_in at zero m isnt = refl
  none_in at (suc n) m isnt = ap (λ b. cond b (at ∷ those_from these (at + 16) (replicate n m)) (those_from these (at + 16) (replicate n m))) isnt ∙ none_in (at + 16) n m isnt

  -- the positions of the first u + 1 units
  pub one_more : (at u : ℕ) (ms : List Mark) → u < length ms → those_from these at (take (suc u) ms) ≡ those_from these at (take u ms) ++ one (these (get_or ms u Inside)) (at + 16 * u)
  one_more at u [] inside = absurd (omega arith)
  one_more at zero (m ∷ ms) inside =
      let same : at ≡ at + 16 * 0 = omega arith in
      elim (these m) as (λ b. cond b (at ∷ []) [] ≡ one b (at + 16 * 0)) [ true ↦ ap (λ x. x ∷ []) same | false ↦ refl ]
  one_more at (suc u) (m ∷ ms) inside =
      let rest = one_more (at + 16) u ms (omega arith) in
      let same : (at + 16) + 16 * u ≡ at + 16 * (suc u) = omega arith in
      let next : those_from these (at + 16) (take (suc u) ms) ≡ those_from these (at + 16) (take u ms) ++ one (these (get_or ms u Inside)) (at + 16 * suc u) =
      rest ∙ ap (λ x. those_from these (at + 16) (take u ms) ++ one (these (get_or ms u Inside)) x) same in
      elim (these m) as (λ b. cond b (at ∷ those_from these (at + 16) (take (suc u) ms)) (those_from these (at + 16) (take (suc u) ms)) ≡ cond b (at ∷ those_from these (at + 16) (take u ms)) (those_from these (at + 16)
      (take u ms)) ++ one (these (get_or ms u Inside)) (at + 16 * suc u))
      [ true ↦ ap (λ l. at ∷ l) next | false ↦ next ]

  -- each position in the list is the position of a unit
  pub unit_of : (h at : ℕ) (ms : List Mark) → 1 ≤ times h (those_from these at ms) → (u : ℕ) × (h ≡ at + 16 * u) × (u < length ms)
  unit_of h at [] some = absurd (omega arith)
  unit_of h at (m ∷ ms) some = ⊎_elim
      (λ same. (0, omega arith, omega arith))
      (λ other.
      let rest = unit_of h (at + 16) ms (omega (arith, some, later h at m ms other)) in
      (suc rest.0, omega (arith, rest.1), omega (arith, rest.2)))
      (cases_eq at h)

  -- there are at most as many positions as marks
  pub few : (at : ℕ) (ms : List Mark) → length (those_from these at ms) ≤ length ms
  few at [] = omega arith
  few at (m ∷ ms) =
      let rest = few (at + 16) ms in
      elim (these m) as (λ b. length (cond b (at ∷ those_from these (at + 16) ms) (those_from these (at + 16) ms)) ≤ suc (length ms)) [ true ↦ omega arith | false ↦ omega arith ]

  -- if no mark of the first n units is of the kind, all positions are after them
  pub after_none : (h at n : ℕ) (ms : List Mark) → those_from these at (take n ms) ≡ [] → 1 ≤ times h (those_from these at ms) → at + 16 * n ≤ h
  after_none h at zero ms none some = ⊎_elim
      (λ low. absurd (omega (arith, none_below h at ms low)))
      (λ high. omega arith)
      (below_or_not h at)
  after_none h at (suc n) [] none some = absurd (omega arith)
  after_none h at (suc n) (m ∷ ms) none some = go (these m) none some (after_none h (at + 16) n ms)
    where
      go : (b : Bool) → cond b (at ∷ those_from these (at + 16) (take n ms)) (those_from these (at + 16) (take n ms)) ≡ []
          → 1 ≤ times h (cond b (at ∷ those_from these (at + 16) ms) (those_from these (at + 16) ms))
          → (those_from these (at + 16) (take n ms) ≡ [] → 1 ≤ times h (those_from these (at + 16) ms) → at + 16 + 16 * n ≤ h) → at + 16 * suc n ≤ h
      go true none some rest = cc
      go false none some rest = let more = rest none some in omega arith
