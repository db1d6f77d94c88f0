-- A prepared client that C keeps, or none.
--     in_hand prepared            the client, if there is one
--     client_bytes_of ready       its file
--     IsReadyOn types text ready  it was verified against the types that C keeps
--     HoldsClient types text prepared     C keeps such a client
--     OfClient prepared P         if C keeps a client, P is true of its file
use Rattle.std.specs.Prelude.{◌≡◌, ℕ, List, Option, Some}
use Rattle.std.specs.Global.{Global}
use Rattle.seg_spec.specs.Types.{Table}
use Rattle.client_spec.specs.Syntax.{Client}
use Rattle.client_spec.specs.Grammar.{SpellsClient}
use Rattle.client_spec.specs.Clients.{IsVerified}
use Rattle.lezgauri.specs.ClientFiles.{bytes_of}
use Rattle.client_vm.specs.declared.ready.Ready.{Ready}
use Rattle.client_vm.specs.ReadyClients.{client_in}
use Rattle.lezgauri_c.specs.declared.kept_types.KeptTypes.{KeptTypes}
use Rattle.lezgauri_c.specs.declared.prepared.Prepared.{Prepared}
use Rattle.lezgauri_c.specs.Values.{table_in}

abbrev pub in_hand : Prepared → Option (Ready Global)
in_hand prepared = prepared.kept.value

abbrev pub client_bytes_of : Ready Global → List ℕ
client_bytes_of ready = bytes_of (client_in ready)

-- The client in a file, which the types that C keeps accept. In `OnSound` they are the types of the
-- sound image.
pub record IsReadyOn (types : KeptTypes) (text : List ℕ) (ready : Ready Global) : Type 0 where
  pub text_is : client_bytes_of ready ≡ text
  pub table : Table
  pub table_is : table_in types ≡ Some table
  pub client : Client
  pub spells : SpellsClient text client
  pub verified : IsVerified table client

abbrev pub HoldsClient : KeptTypes → List ℕ → Prepared → Type 0
HoldsClient types text prepared =
    (ready : Ready Global) × (in_hand prepared ≡ Some ready) × IsReadyOn types text ready

-- if C keeps a client, P is true of its file
abbrev pub OfClient : Prepared → (List ℕ → Type 0) → Type 0
OfClient prepared P = (ready : Ready Global) → in_hand prepared ≡ Some ready →
    (client : Client) → SpellsClient (client_bytes_of ready) client → P (client_bytes_of ready)
