-- The files of several clients. Each is verified in a segment that has the types of the files
-- before it.
--     texts_of programs                   the files of verified clients
--     IsWrongText table text fault        the file is no client, or the client is refused
--     IsWrongAt table texts k fault       file k has this fault, and the files before it are
--                                         accepted
--     AreWrong table texts refused        a file has a fault, or the program ran out of memory
use Rattle.std.specs.Prelude.{◌≡◌, ℕ, List, map, take, Option, Some, None, slice_get}
use Rattle.client_spec.specs.Types.{Table}
use Rattle.seg_raw.specs.declared.fault.Fault.{Fault}
use Rattle.seg_raw.specs.declared.fault.Fault.TheVariants as fault
use Rattle.client_spec.specs.Syntax.{Client}
use Rattle.client_spec.specs.Grammar.{SpellsClient}
use Rattle.client_spec.specs.Clients.{AreAccepted, table_after}
use Rattle.client_code.specs.Clients.{bytes_of}
use Rattle.client_verify.specs.Accepted.{client_of}
use Rattle.client_verify.specs.Refusals.{IsRefused}
use Rattle.client_verify.specs.declared.verified.Verified.{Verified}
use Rattle.client_verify.specs.declared.refused.Refused.{Refused}

abbrev pub texts_of : List Verified → List (List ℕ)
texts_of programs = map (λ program. bytes_of (client_of program)) programs

abbrev pub IsWrongText : Table → List ℕ → Fault → Type 0
IsWrongText table text (fault.BadCode at) = (client : Client) → SpellsClient text client → ⊥
IsWrongText table text f = (client : Client) × SpellsClient text client × IsRefused table client f

pub record IsWrongAt (table : Table) (texts : List (List ℕ)) (k : ℕ) (f : Fault) : Type 0 where
  pub clients : List Client
  pub accepted : AreAccepted table (take k texts) clients
  pub text : List ℕ
  pub text_is : slice_get texts k ≡ Some text
  pub wrong : IsWrongText (table_after table clients) text f

abbrev pub IsWrongBy : Table → List (List ℕ) → Option ℕ → Fault → Type 0
IsWrongBy table texts None f = f ≡ fault.Memory
IsWrongBy table texts (Some k) f = IsWrongAt table texts k f

abbrev pub AreWrong : Table → List (List ℕ) → Refused → Type 0
AreWrong table texts refused = IsWrongBy table texts refused.client refused.fault
