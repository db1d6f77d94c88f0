-- Lists that a loop changes or tests element by element.
--     map_more                             setting one more element to its image
--     JoinedTo, joined_more, joined_all    what is known at two ends: up to an element, for one more,
--                                          and for all
--     joined_stays, joined_lost            one more element, if nothing is known of it at the second
--                                          end
--     KeptTo, kept_more, kept_all          the same for what a body kept
use Rattle.std.proofs.Common.{◌≡◌, ℕ, ◌+◌, ◌<◌, ◌≤◌, List, [], ◌∷◌, ◌++◌, length, map, take, drop, get_or, set, refl, sym, ap, ◌∙◌, arith, drop-cons, add-one, suc, append_assoc, append-nil, Bool, true, false, ◌||◌, rules, Ok, Err}
use Rattle.std.specs.Prelude.{⊤}
use Rattle.std.proofs.lemmas.List.{map-set, length-map, get_or-map, set-get_or, take_more_set, take_all, drop_all, map-append}
use Rattle.std.proofs.lemmas.List.Edits.{map_over_more}
use Rattle.client_spec.specs.Typed.{Reason, Checked, ◌>>=◌, RegisterType, RegisterTypes, joined_one, joined, kept_one, kept}

-- setting the next element to its image extends the mapped prefix
pub map_more : {X Y : Type 0} (view : X → Y) (f : Y → Y) (xs : List X) (ys : List Y) (i : ℕ) (d y : X) → i < length xs → length ys ≡ length xs
    → map view xs ≡ map f (take i ys) ++ drop i ys → view y ≡ f (view (get_or xs i d)) → map view (set xs i y) ≡ map f (take (i + 1) ys) ++ drop (i + 1) ys
map_more view f xs ys i d y near long so_far new =
    let x = get_or xs i d in
    map-set view xs i y ∙ ap (set (map view xs) i) new
    ∙ map_over_more f ys (map view xs) i (view x) (omega arith) so_far (sym (get_or-map view xs i d (view x) near))

-- ---- from an item on

-- the images from index i on begin with the image of element i
from_here : {X : Type 0} (view : X → RegisterType) (xs : List X) (i : ℕ) (d : X) → i < length xs → drop i (map view xs) ≡ view (get_or xs i d) ∷ drop (i + 1) (map view xs)
from_here view xs i d near =
    let long = length-map xs view in
    drop-cons (map view xs) i (view d) (omega arith)
    ∙ ap (λ x. x ∷ drop (suc i) (map view xs)) (get_or-map view xs i d (view d) near)
    ∙ ap (λ j. view (get_or xs i d) ∷ drop j (map view xs)) (sym (add-one i))

-- ---- what is known at both ends

-- puts what is known of some registers before what is known of the others
abbrev pub after : RegisterTypes → Checked RegisterTypes → Checked RegisterTypes
after front r = r >>= λ ks. Ok (front ++ ks)

after_more : (front : RegisterTypes) (k : RegisterType) (r : Checked RegisterTypes) → after front (r >>= λ ks. Ok (k ∷ ks)) ≡ after (front ++ k ∷ []) r
after_more front k (Ok ks) = ap Ok (sym (append_assoc front (k ∷ []) ks))
after_more front k (Err e) = refl

joined_step : (front xs ys : RegisterTypes) (x y k : RegisterType) → joined_one x y ≡ Ok k → after front (joined (x ∷ xs) (y ∷ ys)) ≡ after (front ++ k ∷ []) (joined xs ys)
joined_step front xs ys x y k e = ap (λ r. after front (r >>= λ z. joined xs ys >>= λ zs. Ok (z ∷ zs))) e ∙ after_more front k (joined xs ys)

joined_stop : (front xs ys : RegisterTypes) (x y : RegisterType) (reason : Reason) → joined_one x y ≡ Err reason → after front (joined (x ∷ xs) (y ∷ ys)) ≡ Err reason
joined_stop front xs ys x y reason e = ap (λ r. after front (r >>= λ z. joined xs ys >>= λ zs. Ok (z ∷ zs))) e

-- two flags, of which neither is set, or the first, or only the second
pub neither : {Z : Type 0} (a b : Bool) → (a ≡ false → b ≡ false → Z) → (a || b) ≡ false → Z
neither true b f e = search rules
neither false b f e = f refl e

pub either : {Z : Type 0} (a b : Bool) → (a ≡ true → Z) → (a ≡ false → b ≡ true → Z) → (a || b) ≡ true → Z
either true b first second e = first refl
either false b first second e = second refl e

after_none : (r : Checked RegisterTypes) → r ≡ after [] r
after_none (Ok ks) = refl
after_none (Err e) = refl

module _ {X : Type 0} (view : X → RegisterType) where
  -- the items before i are joined
  abbrev pub JoinedTo : List X → List X → List X → ℕ → Type 0
  JoinedTo xs ys both i = joined (map view xs) (map view ys) ≡ after (map view (take i both)) (joined (drop i (map view xs)) (drop i (map view ys)))

  pub joined_none : (xs ys both : List X) → JoinedTo xs ys both 0
  joined_none xs ys both = after_none (joined (map view xs) (map view ys))

  at_place : (front : RegisterTypes) (xs ys : List X) (i : ℕ) (d e : X)
      → i < length xs → i < length ys → after front (joined (drop i (map view xs)) (drop i (map view ys))) ≡ after front
      (joined (view (get_or xs i d) ∷ drop (i + 1) (map view xs)) (view (get_or ys i e) ∷ drop (i + 1) (map view ys)))
  at_place front xs ys i d e near_xs near_ys =
      ap (λ zs. after front (joined zs (drop i (map view ys)))) (from_here view xs i d near_xs)
      ∙ ap (λ zs. after front (joined (view (get_or xs i d) ∷ drop (i + 1) (map view xs)) zs)) (from_here view ys i e near_ys)

  pub joined_more : (xs ys both : List X) (i : ℕ) (d e k : X) → i < length xs → i < length ys → i < length both → JoinedTo xs ys both i
      → Ok (view k) ≡ joined_one (view (get_or xs i d)) (view (get_or ys i e)) → JoinedTo xs ys (set both i k) (i + 1)
  joined_more xs ys both i d e k near_xs near_ys near so_far same =
      so_far ∙ at_place (map view (take i both)) xs ys i d e near_xs near_ys
      ∙ joined_step (map view (take i both)) (drop (i + 1) (map view xs)) (drop (i + 1) (map view ys)) (view (get_or xs i d)) (view (get_or ys i e)) (view k) (sym same)
      ∙ ap (λ front. after front (joined (drop (i + 1) (map view xs)) (drop (i + 1) (map view ys)))) (sym (ap (map view) (take_more_set both i k near) ∙ map-append view (take i both) (k ∷ [])))

  pub joined_not : (xs ys both : List X) (i : ℕ) (d e : X) (reason : Reason) → i < length xs → i < length ys → JoinedTo xs ys both i
      → Err reason ≡ joined_one (view (get_or xs i d)) (view (get_or ys i e)) → joined (map view xs) (map view ys) ≡ Err reason
  joined_not xs ys both i d e reason near_xs near_ys so_far same =
      so_far ∙ at_place (map view (take i both)) xs ys i d e near_xs near_ys ∙ joined_stop (map view (take i both)) (drop (i + 1) (map view xs)) (drop (i + 1) (map view ys)) (view (get_or xs i d)) (view (get_or ys i e)) reason (sym same)

  pub joined_all : (xs ys both : List X) (i : ℕ) → length xs ≤ i → length ys ≤ i → length both ≤ i → JoinedTo xs ys both i → joined (map view xs) (map view ys) ≡ Ok (map view both)
  joined_all xs ys both i all_xs all_ys all so_far =
      let long_xs = length-map xs view in
      let long_ys = length-map ys view in
      so_far
      ∙ ap (λ zs. after (map view (take i both)) (joined zs (drop i (map view ys)))) (drop_all i (map view xs) (omega arith))
      ∙ ap (λ zs. after (map view (take i both)) (joined [] zs)) (drop_all i (map view ys) (omega arith))
      ∙ ap Ok (append-nil (map view (take i both)))
      ∙ ap (λ zs. Ok (map view zs)) (take_all i both all)

  -- ---- what a body kept

  -- the items before i are kept
  abbrev pub KeptTo : List X → List X → ℕ → Type 0
  KeptTo xs ys i = kept (map view xs) (map view ys) ≡ kept (drop i (map view xs)) (drop i (map view ys))

  kept_at : (xs ys : List X) (i : ℕ) (d e : X) → i < length xs → i < length ys → kept (drop i (map view xs))
      (drop i (map view ys)) ≡ (kept_one (view (get_or xs i d)) (view (get_or ys i e)) >>= λ _. kept (drop (i + 1) (map view xs)) (drop (i + 1) (map view ys)))
  kept_at xs ys i d e near_xs near_ys =
      ap (λ zs. kept zs (drop i (map view ys))) (from_here view xs i d near_xs)
      ∙ ap (kept (view (get_or xs i d) ∷ drop (i + 1) (map view xs))) (from_here view ys i e near_ys)

  pub kept_more : (xs ys : List X) (i : ℕ) (d e : X) (done : ⊤) → i < length xs → i < length ys → KeptTo xs ys i → Ok done ≡ kept_one (view (get_or xs i d)) (view (get_or ys i e)) → KeptTo xs ys (i + 1)
  kept_more xs ys i d e done near_xs near_ys so_far same =
      so_far ∙ kept_at xs ys i d e near_xs near_ys ∙ ap (λ r. r >>= λ _. kept (drop (i + 1) (map view xs)) (drop (i + 1) (map view ys))) (sym same)

  pub kept_not : (xs ys : List X) (i : ℕ) (d e : X) (reason : Reason) → i < length xs → i < length ys → KeptTo xs ys i
      → Err reason ≡ kept_one (view (get_or xs i d)) (view (get_or ys i e)) → kept (map view xs) (map view ys) ≡ Err reason
  kept_not xs ys i d e reason near_xs near_ys so_far same =
      so_far ∙ kept_at xs ys i d e near_xs near_ys ∙ ap (λ r. r >>= λ _. kept (drop (i + 1) (map view xs)) (drop (i + 1) (map view ys))) (sym same)

  pub kept_all : (xs ys : List X) (i : ℕ) → length xs ≤ i → length ys ≤ i → KeptTo xs ys i → kept (map view xs) (map view ys) ≡ Ok tt
  kept_all xs ys i all_xs all_ys so_far =
      let long_xs = length-map xs view in
      let long_ys = length-map ys view in
      so_far
      ∙ ap (λ zs. kept zs (drop i (map view ys))) (drop_all i (map view xs) (omega arith))
      ∙ ap (kept []) (drop_all i (map view ys) (omega arith))
