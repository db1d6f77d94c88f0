-- A text has one reading, byte by byte.
use Rattle.std.proofs.Common.{◌≡◌, ℕ, ◌/◌, ◌%◌, ◌<◌, ◌≤◌, List, [], ◌∷◌, ◌++◌, length, refl, sym, ap, ◌∙◌, subst, arith, inl, inr, append_assoc, length-append, All}
use Rattle.std.proofs.lemmas.List.Elements.{All-nil, All-cons, All-append, All-head, All-tail}
use Rattle.client_spec.specs.Text.{SpellsText, escaped, hex_digit}
use Rattle.client_spec.proofs.Spelling.TextWordLaws.{tail_of}
use Rattle.client_spec.proofs.Spelling.OneTextLaws.{not_plain, escape_one}
use Rattle.client_text.specs.Texts.{SpellsByte}

byte_one : (b c : ℕ) (us vs s : List ℕ) → b < 256 → c < 256 → SpellsByte b us s → SpellsByte c vs s → (b ≡ c) × (us ≡ vs)
byte_one b c us vs s h k (inl (f, e)) (inl (g, d)) = tail_of b c us vs (sym e ∙ d)
byte_one b c us vs s h k (inl (f, e)) (inr d) = absurd (not_plain b (tail_of b 92 us (hex_digit (c / 16) ∷ hex_digit (c % 16) ∷ vs) (sym e ∙ d)).0 f)
byte_one b c us vs s h k (inr e) (inl (g, d)) = absurd (not_plain c (tail_of c 92 vs (hex_digit (b / 16) ∷ hex_digit (b % 16) ∷ us) (sym d ∙ e)).0 g)
byte_one b c us vs s h k (inr e) (inr d) = escape_one b c h k us vs (sym e ∙ d)

not_empty : (b : ℕ) (following s : List ℕ) → SpellsByte b following s → s ≡ [] → ⊥
not_empty b following s (inl (f, e)) none = let z : [] ≡ b ∷ following = sym none ∙ e in cc
not_empty b following s (inr e) none = let z : [] ≡ escaped b ++ following = sym none ∙ e in cc

-- the bytes read so far, and a tail that the rest spells
pub record Reads (spelling bytes rest : List ℕ) : Type 0 where
  pub small : All (λ b. b < 256) bytes
  pub forth : (tail : List ℕ) → SpellsText tail rest → SpellsText (bytes ++ tail) spelling
  pub back : (all : List ℕ) → All (λ b. b < 256) all → SpellsText all spelling → (tail : List ℕ) × (all ≡ bytes ++ tail) × All (λ b. b < 256) tail × SpellsText tail rest

pub begin : (spelling : List ℕ) → Reads spelling [] spelling
begin spelling = record { small = All-nil (λ b. b < 256); forth = λ tail spells. spells; back = λ all bytes spells. (all, refl, bytes, spells) }

-- reading one more byte keeps the invariant
pub further : (spelling bytes rest : List ℕ) (b : ℕ) (following : List ℕ) → b < 256 → Reads spelling bytes rest → SpellsByte b following rest → Reads spelling (bytes ++ b ∷ []) following
further spelling bytes rest b following small reads here = record {
  small = All-append (λ x. x < 256) bytes (b ∷ []) reads.small (All-cons (λ x. x < 256) b [] small (All-nil (λ x. x < 256)));
  forth = λ tail spells. subst (λ xs. SpellsText xs spelling) (sym (append_assoc bytes (b ∷ []) tail)) (reads.forth (b ∷ tail) (following, spells, here));
  back = λ all bounded spells. let (tail, e, below, rest_spells) = reads.back all bounded spells in
      split all tail e below rest_spells;
}
  where
    split : (all tail : List ℕ) → all ≡ bytes ++ tail → All (λ b. b < 256) tail → SpellsText tail rest → (left : List ℕ) × (all ≡ (bytes ++ b ∷ []) ++ left) × All (λ b. b < 256) left × SpellsText left following
    split all [] e below spells = absurd (not_empty b following rest here spells)
    split all (c ∷ tail) e below (left, spells, there) =
        let one = byte_one b c following left rest small (All-head (λ x. x < 256) c tail below) here there in
        (tail, e ∙ ap (λ x. bytes ++ x ∷ tail) (sym one.0) ∙ sym (append_assoc bytes (b ∷ []) tail), All-tail (λ x. x < 256) c tail below, subst (SpellsText tail) (sym one.1) spells)

-- if no byte can be read, the line spells no text
pub stuck : (spelling bytes rest : List ℕ) → Reads spelling bytes rest → (length rest ≡ 0 → ⊥) → ((b : ℕ) (following : List ℕ) → b < 256 → SpellsByte b following rest → ⊥)
    → (all : List ℕ) → All (λ b. b < 256) all → SpellsText all spelling → ⊥
stuck spelling bytes rest reads some none all bounded spells = let (tail, e, below, left) = reads.back all bounded spells in ends tail below left
  where
    ends : (tail : List ℕ) → All (λ b. b < 256) tail → SpellsText tail rest → ⊥
    ends [] below left = some (ap length left)
    ends (b ∷ tail) below (following, left, here) = none b following (All-head (λ x. x < 256) b tail below) here

-- a text with more than 255 bytes is no valid constant
pub too_long : (spelling bytes rest : List ℕ) → Reads spelling bytes rest → (length rest ≡ 0 → ⊥) → 255 ≤ length bytes
    → (all : List ℕ) → length all ≤ 255 → All (λ b. b < 256) all → SpellsText all spelling → ⊥
too_long spelling bytes rest reads some full all few bounded spells = let (tail, e, below, left) = reads.back all bounded spells in ends tail e left
  where
    ends : (tail : List ℕ) → all ≡ bytes ++ tail → SpellsText tail rest → ⊥
    ends [] e left = some (ap length left)
    ends (b ∷ tail) e left = let l = ap length e in let m = length-append bytes (b ∷ tail) in omega arith
