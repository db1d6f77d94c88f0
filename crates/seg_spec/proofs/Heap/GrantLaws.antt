-- What a request was granted: more units for the old block, or a new one.
use Rattle.std.proofs.Common.{◌≡◌, ◌≢◌, ℕ, zero, suc, ◌+◌, ◌*◌, ◌<◌, ◌≤◌, ◌⊎◌, inl, inr, true, false, List, [], ◌∷◌, ◌++◌, length, leb, cond, eqb, Option, Some, None, option_map, option_to_list, refl, sym, ap, ◌∙◌, subst, arith, append-nil}
use Rattle.std.specs.Prelude.{Contains, slice_index_or}
use Rattle.std.specs.Option.{option_or}
use Rattle.std.proofs.lemmas.Bool.{cases_eq, cases_lt}
use Rattle.std.proofs.lemmas.Bool.Decides.{nat_tests}
use Rattle.seg_spec.specs.Heap.{Span, span, room_at, gaps_of, granted, expanded, resized, after_take, after_expand, Granted, same, fresh, after_request, after_request_at}
use Rattle.seg_spec.specs.Demand.{Ask, after_ask, after_gives}
use Rattle.seg_spec.specs.Spending.{spent}

-- ---- one request after the other

or_some : {A : Type 0} (a b : Option A) (x : A) → option_or a b ≡ Some x → (a ≡ Some x) ⊎ (b ≡ Some x)
or_some None b x e = inr e
or_some (Some y) b x e = inl e

record MapSome {A B : Type 0} (f : A → B) (o : Option A) (y : B) : Type 0 where
  x : A
  o_is : o ≡ Some x
  y_is : f x ≡ y

map_some : {A B : Type 0} (f : A → B) (o : Option A) (y : B) → option_map f o ≡ Some y → MapSome f o y
map_some f None y e = absurd (let g : None ≡ Some y = e in cc)
map_some f (Some x) y e = record { x = x; o_is = refl; y_is = cc }

granted_least : (whole u : ℕ) → u ≤ granted whole u
granted_least whole u = grind (arith, nat_tests)

expanded_some : (x room u n : ℕ) → expanded x room u ≡ Some n → (x ≤ n) × (u ≤ n)
expanded_some x room u n e = go (cases_lt x u) (cases_lt (x + room) u)
  where
    go : (x < u) ⊎ (u ≤ x) → (x + room < u) ⊎ (u ≤ x + room) → (x ≤ n) × (u ≤ n)
    go (inr l) m =
        let f : leb u x ≡ true = grind (arith, nat_tests) in
        let g : Some x ≡ Some n = sym (ap (λ b. cond b (Some x) (cond (leb u (x + room)) (Some (granted (x + room) u)) None)) f) ∙ e in
        let same_n : x ≡ n = cc in
        (omega arith, omega arith)
    go (inl l) (inl m) =
        let f : leb u x ≡ false = grind (arith, nat_tests) in
        let g : leb u (x + room) ≡ false = grind (arith, nat_tests) in
        let h : None ≡ Some n = sym (ap (λ b. cond b (Some x) (cond (leb u (x + room)) (Some (granted (x + room) u)) None)) f ∙ ap (λ b. cond b (Some (granted (x + room) u)) None) g) ∙ e in
        absurd (cc)
    go (inl l) (inr m) =
        let f : leb u x ≡ false = grind (arith, nat_tests) in
        let g : leb u (x + room) ≡ true = grind (arith, nat_tests) in
        let h : Some (granted (x + room) u) ≡ Some n = sym (ap (λ b. cond b (Some x) (cond (leb u (x + room)) (Some (granted (x + room) u)) None)) f ∙ ap (λ b. cond b (Some (granted (x + room) u)) None) g) ∙ e in
        let same_n : granted (x + room) u ≡ n = cc in
        let least = granted_least (x + room) u in
        (omega arith, omega arith)

-- ---- the result of a request

-- the block of x units at a position now has n units, at least as many as before and as `least`
pub record GrewTo (bs after : List Span) (at x least : ℕ) : Type 0 where
  pub units : ℕ
  pub no_fewer : x ≤ units
  pub enough : least ≤ units
  pub after_is : after ≡ resized at units bs

-- a block of at least `least` units was allocated
pub record TookFor (allocator : ℕ) (bs : List Span) (end g : ℕ) (after : List Span) (least : ℕ) : Type 0 where
  pub units : ℕ
  pub enough : least ≤ units
  pub taken : after_take allocator bs end units ≡ Some (g, after)

module _ (allocator : ℕ) (bs : List Span) (end least : ℕ) where
  -- the fact about what was granted
  abbrev pub GrantedAs : ℕ → ℕ → Granted → Type 0
  GrantedAs at x (same after) = GrewTo bs after at x least
  GrantedAs at x (fresh g after) = TookFor allocator bs end g after least

  -- the same for a request without an old block
  abbrev pub GrantedNew : Granted → Type 0
  GrantedNew (same after) = ⊥
  GrantedNew (fresh g after) = TookFor allocator bs end g after least

  by_expand : (at x u : ℕ) (r : Granted) → least ≤ u → option_map same (after_expand bs end at x u) ≡ Some r → GrantedAs at x r
  by_expand at x u r l e =
      let outer = map_some same (after_expand bs end at x u) r e in
      let inner = map_some (λ n. resized at n bs) (expanded x (room_at (gaps_of bs end) (at + 16 * x)) u) outer.x outer.o_is in
      let k = expanded_some x (room_at (gaps_of bs end) (at + 16 * x)) u inner.x inner.o_is in
      let grew : GrantedAs at x (same outer.x) = record { units = inner.x; no_fewer = k.0; enough = omega arith; after_is = sym inner.y_is } in
      subst (GrantedAs at x) outer.y_is grew

  took_pair : (u : ℕ) (r : ℕ × List Span) → least ≤ u → after_take allocator bs end u ≡ Some r → TookFor allocator bs end r.0 r.1 least
  took_pair u r l e = record { units = u; enough = l; taken = e }

  by_take : (at x u : ℕ) (r : Granted) → least ≤ u → option_map (λ t. fresh t.0 t.1) (after_take allocator bs end u) ≡ Some r → GrantedAs at x r
  by_take at x u r l e =
      let outer = map_some (λ (t : ℕ × List Span). fresh t.0 t.1) (after_take allocator bs end u) r e in
      let took : GrantedAs at x (fresh outer.x.0 outer.x.1) = took_pair u outer.x l outer.o_is in
      subst (GrantedAs at x) outer.y_is took

  pub granted_at : (at x preferred : ℕ) (r : Granted) → least ≤ preferred → after_request_at allocator bs end at x preferred least ≡ Some r → GrantedAs at x r
  granted_at at x preferred r l e = first (or_some _ _ r e)
    where
      fourth : (option_map same (after_expand bs end at x least) ≡ Some r) ⊎ (option_map (λ t. fresh t.0 t.1) (after_take allocator bs end least) ≡ Some r) → GrantedAs at x r
      fourth (inl f) = by_expand at x least r (omega arith) f
      fourth (inr f) = by_take at x least r (omega arith) f

      second : (option_map (λ t. fresh t.0 t.1) (after_take allocator bs end preferred) ≡ Some r)
          ⊎ (option_or (option_map same (after_expand bs end at x least)) (option_map (λ t. fresh t.0 t.1) (after_take allocator bs end least)) ≡ Some r) → GrantedAs at x r
      second (inl f) = by_take at x preferred r l f
      second (inr f) = fourth (or_some _ _ r f)

      first : (option_map same (after_expand bs end at x preferred) ≡ Some r)
          ⊎ (option_or (option_map (λ t. fresh t.0 t.1) (after_take allocator bs end preferred))
          (option_or (option_map same (after_expand bs end at x least)) (option_map (λ t. fresh t.0 t.1) (after_take allocator bs end least))) ≡ Some r) → GrantedAs at x r
      first (inl f) = by_expand at x preferred r l f
      first (inr f) = second (or_some _ _ r f)

  pub granted_new : (preferred : ℕ) (r : Granted) → least ≤ preferred → after_request allocator bs end preferred least ≡ Some r → GrantedNew r
  granted_new preferred r l e =
      let outer = map_some (λ (t : ℕ × List Span). fresh t.0 t.1) (option_or (after_take allocator bs end preferred) (after_take allocator bs end least)) r e in
      subst GrantedNew outer.y_is (go outer.x (or_some (after_take allocator bs end preferred) (after_take allocator bs end least) outer.x outer.o_is))
    where
      go : (t : ℕ × List Span) → (after_take allocator bs end preferred ≡ Some t) ⊎ (after_take allocator bs end least ≡ Some t) → TookFor allocator bs end t.0 t.1 least
      go t (inl f) = took_pair preferred t l f
      go t (inr f) = took_pair least t (omega arith) f

-- ---- the allocated blocks after one request

-- the old block grew in place
pub spent_same : (allocator : ℕ) (bs after : List Span) (end : ℕ) (ask : Ask) → after_ask allocator bs end ask ≡ Some (same after) → spent allocator bs end (ask ∷ []) [] ≡ Some after
spent_same allocator bs after end ask e = rw e refl

-- a new block was allocated, and the old one is freed
pub spent_fresh : (allocator : ℕ) (bs after : List Span) (end g : ℕ) (ask : Ask) → after_ask allocator bs end ask ≡ Some (fresh g after) → spent allocator bs end (ask ∷ []) [] ≡ Some (after_gives after (option_to_list ask.old))
spent_fresh allocator bs after end g ask e = rw e (ap (λ ps. Some (after_gives after ps)) (append-nil (option_to_list ask.old ++ []) ∙ append-nil (option_to_list ask.old)))

-- ---- the units of an allocated block

room_at-in : (bs : List Span) (at x : ℕ) → Contains bs (span at x) → ((b : Span) → Contains bs b → b.at ≡ at → b.units ≡ x) → room_at bs at ≡ x
room_at-in [] at x c one = absurd (omega (arith, c.1))
room_at-in (b ∷ bs) at x c one = go (cases_eq b.at at) c.0 c.1 c.2 (λ k. room_at-in bs at x k (λ d m e. one d (suc m.0, omega (arith, m.1), m.2) e))
  where
    go : (b.at ≡ at) ⊎ (b.at ≢ at) → (i : ℕ) → suc i ≤ length (b ∷ bs) → slice_index_or (b ∷ bs) i (span at x) ≡ span at x → (Contains bs (span at x) → room_at bs at ≡ x) → room_at (b ∷ bs) at ≡ x
    go (inl e) i l f rest =
        let on : eqb b.at at ≡ true = grind (arith, nat_tests) in
        ap (λ t. cond t b.units (room_at bs at)) on ∙ one b (0, omega arith, refl) e
    go (inr ne) zero l f rest = let head : b ≡ span at x = f in absurd (ne (ap (λ (s : Span). s.at) head))
    go (inr ne) (suc i) l f rest =
        let off : eqb b.at at ≡ false = grind (arith, nat_tests) in
        ap (λ t. cond t b.units (room_at bs at)) off ∙ rest (i, omega arith, f)

pub units_found : (bs : List Span) (at x : ℕ) → Contains bs (span at x) → ((b : Span) → Contains bs b → b.at ≡ at → b.units ≡ x) → room_at bs at ≡ x
units_found bs at x c one = room_at-in bs at x c one
