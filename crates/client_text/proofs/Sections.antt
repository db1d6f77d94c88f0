-- The sections of a client's lines, in order.
use Rattle.std.proofs.Common.{◌≡◌, ◌⊎◌, ℕ, zero, suc, ◌<◌, ◌≤◌, List, ◌∷◌, ◌++◌, replicate, refl, sym, ◌∙◌, arith, inl, inr, append_assoc}
use Rattle.client_spec.proofs.Spelling.TextWordLaws.{tail_of}
use Rattle.client_text.specs.declared.outline.Section.{Section}
use Rattle.client_text.specs.declared.outline.Section.TheVariants as section
use Rattle.client_text.specs.Outlines.{outlined, IsOutline}

-- ---- the sections that may follow lines in order

-- a section that follows i of n instructions is an instruction, and i is less than n
last_next : (i : ℕ) (s : Section) (following : List Section) (n : ℕ) → replicate i section.Instructions ++ s ∷ following ≡ replicate n section.Instructions → (s ≡ section.Instructions) × (i < n)
last_next zero s following zero e = cc
last_next zero s following (suc n) e = ((tail_of s section.Instructions following _ e).0, omega arith)
last_next (suc i) s following zero e = cc
last_next (suc i) s following (suc n) e =
    let r = last_next i s following n (tail_of section.Instructions section.Instructions _ _ e).1 in
    (r.0, let h = r.1 in omega arith)

abbrev NextOfTwo : ℕ → ℕ → Section → ℕ → ℕ → Type 0
NextOfTwo c i s m n = ((s ≡ section.Instructions) × (i < n)) ⊎ ((s ≡ section.Constants) × (i ≡ 0) × (c < m))

two_next : (c i : ℕ) (s : Section) (following : List Section) (m n : ℕ)
    → replicate c section.Constants ++ (replicate i section.Instructions ++ s ∷ following) ≡ replicate m section.Constants ++ replicate n section.Instructions → NextOfTwo c i s m n
two_next zero i s following zero n e = inl (last_next i s following n e)
two_next zero zero s following (suc m) n e = inr ((tail_of s section.Constants following _ e).0, refl, omega arith)
two_next zero (suc i) s following (suc m) n e = cc
two_next (suc c) i s following zero zero e = cc
two_next (suc c) i s following zero (suc n) e = cc
two_next (suc c) i s following (suc m) n e = more (two_next c i s following m n (tail_of section.Constants section.Constants _ _ e).1)
  where
    more : NextOfTwo c i s m n → NextOfTwo (suc c) i s (suc m) n
    more (inl here) = inl here
    more (inr (is, none, fewer)) = inr (is, none, omega arith)

abbrev pub Next : ℕ → ℕ → ℕ → Section → ℕ → ℕ → ℕ → Type 0
Next t c i s l m n = NextOfTwo c i s m n ⊎ ((s ≡ section.Types) × (c ≡ 0) × (i ≡ 0) × (t < l))

next_in : (t c i : ℕ) (s : Section) (following : List Section) (l m n : ℕ)
    → replicate t section.Types ++ (replicate c section.Constants ++ (replicate i section.Instructions ++ s ∷ following)) ≡ outlined l m n → Next t c i s l m n
next_in zero c i s following zero m n e = inl (two_next c i s following m n e)
next_in zero zero zero s following (suc l) m n e = inr ((tail_of s section.Types following _ e).0, refl, refl, omega arith)
next_in zero zero (suc i) s following (suc l) m n e = cc
next_in zero (suc c) i s following (suc l) m n e = cc
next_in (suc t) c i s following zero zero zero e = cc
next_in (suc t) c i s following zero zero (suc n) e = cc
next_in (suc t) c i s following zero (suc m) n e = cc
next_in (suc t) c i s following (suc l) m n e = more (next_in t c i s following l m n (tail_of section.Types section.Types _ _ e).1)
  where
    more : Next t c i s l m n → Next (suc t) c i s (suc l) m n
    more (inl here) = inl here
    more (inr (is, none, no_code, fewer)) = inr (is, none, no_code, omega arith)

regroup : (ts cs is rest : List Section) → (ts ++ (cs ++ is)) ++ rest ≡ ts ++ (cs ++ (is ++ rest))
regroup ts cs is rest = simp append_assoc

pub next_of : (t c i : ℕ) (s : Section) (following : List Section) (l m n : ℕ) → outlined t c i ++ s ∷ following ≡ outlined l m n → Next t c i s l m n
next_of t c i s following l m n e =
    next_in t c i s following l m n (sym (regroup (replicate t section.Types) (replicate c section.Constants) (replicate i section.Instructions) (s ∷ following)) ∙ e)

-- a type can't follow a constant or code, or 32 types
pub no_type : (t c i : ℕ) → (1 ≤ i) ⊎ ((1 ≤ c) ⊎ (32 ≤ t)) → (s : Section) → s ≡ section.Types → (following : List Section) → IsOutline (outlined t c i ++ s ∷ following) → ⊥
no_type t c i refused s is following outline = here (next_of t c i s following outline.types outline.constants outline.instructions outline.in_order) refused
  where
    here : Next t c i s outline.types outline.constants outline.instructions → (1 ≤ i) ⊎ ((1 ≤ c) ⊎ (32 ≤ t)) → ⊥
    here (inl (inl (same, more))) r = cc
    here (inl (inr (same, none, more))) r = cc
    here (inr (same, none, no_code, more)) (inl r) = omega arith
    here (inr (same, none, no_code, more)) (inr (inl r)) = omega arith
    here (inr (same, none, no_code, more)) (inr (inr r)) = let few = outline.few_types in omega arith

-- a constant can't follow code, or 256 constants
pub no_constant : (t c i : ℕ) → (1 ≤ i) ⊎ (256 ≤ c) → (s : Section) → s ≡ section.Constants → (following : List Section) → IsOutline (outlined t c i ++ s ∷ following) → ⊥
no_constant t c i refused s is following outline = here (next_of t c i s following outline.types outline.constants outline.instructions outline.in_order) refused
  where
    here : Next t c i s outline.types outline.constants outline.instructions → (1 ≤ i) ⊎ (256 ≤ c) → ⊥
    here (inl (inl (same, more))) r = cc
    here (inl (inr (same, none, more))) (inl r) = omega arith
    here (inl (inr (same, none, more))) (inr r) = let few = outline.few_constants in omega arith
    here (inr (same, none, no_code, more)) r = cc

-- an instruction can't follow 4096 instructions
pub no_instruction : (t c i : ℕ) → 4096 ≤ i → (s : Section) → s ≡ section.Instructions → (following : List Section) → IsOutline (outlined t c i ++ s ∷ following) → ⊥
no_instruction t c i full s is following outline = here (next_of t c i s following outline.types outline.constants outline.instructions outline.in_order)
  where
    here : Next t c i s outline.types outline.constants outline.instructions → ⊥
    here (inl (inl (same, more))) = let few = outline.few_instructions in omega arith
    here (inl (inr (same, none, more))) = cc
    here (inr (same, none, no_code, more)) = cc
