-- A text, and the file that is built from its lines.
use Rattle.std.proofs.Common.{◌≡◌, ℕ, Bool, true, false, List, refl, sym, ap, ◌∙◌, subst}
use Rattle.std.specs.Prelude.{IsTrue, IsFalse}
use Rattle.client_spec.specs.Syntax.{Client}
use Rattle.client_spec.specs.Grammar.{IsClient, SpellsClient, client_bytes}
use Rattle.client_spec.specs.Text.{EachSpells, SpellsInText, text_of}
use Rattle.client_spec.specs.Pieces.{Pieces, pieces_of, file_of, all_items, meant, Says}
use Rattle.client_spec.proofs.Spelling.ReadablePieceLaws.{of_client}
use Rattle.client_spec.proofs.Spelling.OneClientLaws.{one_file, spelling_file}
use Rattle.client_spec.proofs.Spelling.OneTextLaws.{one_pieces, one_text, says}
use Rattle.client_spec.proofs.Spelling.CanonicalTextLaws.{canonical}

-- if the file is a client's, the text spells that client
pub text_spells : (text file : List ℕ) (pieces : Pieces) (tree : Client) → Says text pieces → file ≡ file_of pieces → SpellsClient file tree → SpellsInText text tree
text_spells text file pieces tree said e spells =
    let same = one_file pieces (pieces_of tree) said.each (of_client tree spells.valid) (sym e ∙ spells.spelled ∙ spelling_file tree) in
    record { valid = spells.valid; lines = subst (λ p. EachSpells (meant text) (all_items p)) same said.lines }

-- if the text spells a client, the file is that client's
pub file_spells : (text file : List ℕ) (pieces : Pieces) (tree : Client) → Says text pieces → file ≡ file_of pieces → SpellsInText text tree → SpellsClient file tree
file_spells text file pieces tree said e spells =
    record { valid = spells.valid; spelled = e ∙ ap file_of (one_pieces text pieces (pieces_of tree) said (says text tree spells)) ∙ sym (spelling_file tree) }

-- the canonical text spells the client of its own file
pub canonical_file : (text file : List ℕ) (tree client : Client) → SpellsClient file tree → SpellsInText text tree → IsClient client → text ≡ text_of client → file ≡ client_bytes client
canonical_file text file tree client spells said valid e =
    spells.spelled ∙ ap client_bytes (one_text text tree client said (subst (λ t. SpellsInText t client) (sym e) (canonical client valid)))

-- a file that is wrong or incomplete comes from a text that spells no client
pub no_client : (is_whole : Bool) (text file : List ℕ) → (IsTrue is_whole → (pieces : Pieces) × Says text pieces × (file ≡ file_of pieces)) → (IsFalse is_whole → (tree : Client) → SpellsInText text tree → ⊥)
    → (IsTrue is_whole → (tree : Client) → SpellsClient file tree → ⊥) → (tree : Client) → SpellsInText text tree → ⊥
no_client true text file whole cut wrong tree spells = let (pieces, said, e) = whole refl in wrong refl tree (file_spells text file pieces tree said e spells)
no_client false text file whole cut wrong tree spells = cut refl tree spells
