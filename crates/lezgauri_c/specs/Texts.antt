-- The text and the file of a client, as calls from C convert them.
--     IsAssembled text file      the file is the client's that the text spells
--     IsPrinted file text        the text is the canonical one of the client in the file
--     IsNoTextAs text fault      why a text isn't assembled, as it is reported
--     IsNoFileAs file fault      why a file isn't printed, as it is reported
--     HasBytes P old new needed  the caller's memory begins with bytes that a call made
--     HasTooLittleRoom P old needed  the caller's memory is too small for them
use Rattle.std.specs.Prelude.{◌≡◌, ◌⊎◌, ◌<◌, ℕ, List, ◌++◌, Option, Some, None, length, drop}
use Rattle.seg_raw.specs.declared.fault.Fault as seg_raw_fault
use Rattle.seg_raw.specs.declared.fault.Fault.TheVariants as fault
use Rattle.client_spec.specs.Syntax.{Client}
use Rattle.client_spec.specs.Grammar.{IsClient, SpellsClient, client_bytes}
use Rattle.client_spec.specs.Text.{SpellsInText, text_of}
use Rattle.lezgauri.specs.Refused.{Refused}
use Rattle.lezgauri_c.specs.declared.fault.Fault.{Fault}
use Rattle.lezgauri_c.specs.Told.{told_fault}

-- ---- conversions

pub record IsAssembled (text file : List ℕ) : Type 0 where
  pub client : Client
  pub spells : SpellsClient file client
  pub in_text : SpellsInText text client
  -- the canonical text of a client becomes the bytes that the definitions give that client
  pub canonical : (other : Client) → IsClient other → text ≡ text_of other →
      file ≡ client_bytes other

pub record IsPrinted (file text : List ℕ) : Type 0 where
  pub client : Client
  pub spells : SpellsClient file client
  pub text_is : text ≡ text_of client

-- ---- refusals

abbrev pub refusal : Option ℕ → seg_raw_fault.Fault → Refused
refusal client fault = record { client = client; fault = fault }

-- no memory, or a text that spells no client
abbrev pub IsNoText : List ℕ → Refused → Type 0
IsNoText text refused = (refused ≡ refusal None fault.Memory) ⊎
    ((line : ℕ) × (refused ≡ refusal None (fault.BadLine line)) ×
    ((client : Client) → SpellsInText text client → ⊥))

-- no memory, or a file that is no client's
abbrev pub IsNoFile : List ℕ → Refused → Type 0
IsNoFile file refused = (refused ≡ refusal None fault.Memory) ⊎
    ((at : ℕ) × (refused ≡ refusal (Some 0) (fault.BadCode at)) ×
    ((client : Client) → SpellsClient file client → ⊥))

abbrev pub IsNoTextAs : List ℕ → Fault → Type 0
IsNoTextAs text fault =
    (refused : Refused) × (fault ≡ told_fault refused) × IsNoText text refused

abbrev pub IsNoFileAs : List ℕ → Fault → Type 0
IsNoFileAs file fault =
    (refused : Refused) × (fault ≡ told_fault refused) × IsNoFile file refused

-- ---- the caller's memory

-- The bytes that a call made, of which P is true, are at the front of the memory. The memory after
-- them is unchanged.
abbrev pub HasBytes : (List ℕ → Type 0) → List ℕ → List ℕ → ℕ → Type 0
HasBytes P old new needed = (made : List ℕ) × P made × (needed ≡ length made) ×
    (new ≡ made ++ drop (length made) old)

abbrev pub HasTooLittleRoom : (List ℕ → Type 0) → List ℕ → ℕ → Type 0
HasTooLittleRoom P old needed =
    (made : List ℕ) × P made × (needed ≡ length made) × (length old < needed)
