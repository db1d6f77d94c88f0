-- A client's run on an open segment.
--     IsSoundSegment allocator segment
--                             the segment is a sound image, with its types and this allocator
--     HasRunOnSegment ..      a client has run on a sound image, which is one again
--     ReadyRan ready ..       a client that is ready has run like this, if the segment is a sound
--                             image whose types accept it
use Rattle.std.specs.Prelude.{◌≡◌, ℕ, List, [], ◌∷◌}
use Rattle.std.specs.Global.{Global}
use Rattle.seg_spec.specs.Sound.{Picture}
use Rattle.seg_value.specs.Stored.{Stored}
use Rattle.seg_manager.specs.Segments.{IsSegment}
use Rattle.client_spec.specs.Syntax.{Client}
use Rattle.client_spec.specs.Grammar.{SpellsClient}
use Rattle.client_spec.specs.Clients.{IsVerified}
use Rattle.client_vm.specs.declared.ready.Ready.{Ready}
use Rattle.client_vm.specs.Jobs.{Effect}
use Rattle.client_vm.specs.Together.{HaveRunOn}
use Rattle.lezgauri_c.specs.Prepared.{client_bytes_of}

pub record IsSoundSegment (allocator : ℕ) (segment : Stored) : Type 0 where
  pub picture : Picture
  pub held : IsSegment allocator segment picture
  pub none_loose : picture.loose ≡ []

pub record HasRunOnSegment (allocator : ℕ) (text input : List ℕ) (old new : Stored)
    (effect : Effect) : Type 0 where
  pub ran : HaveRunOn (text ∷ []) [] input old.window effect
  pub sound : IsSoundSegment allocator new

abbrev pub ReadyRan : ℕ → Ready Global → List ℕ → Stored → Stored → Effect → Type 0
ReadyRan allocator ready input old new effect = IsSoundSegment allocator old →
    (client : Client) → SpellsClient (client_bytes_of ready) client → IsVerified old.types client →
    HasRunOnSegment allocator (client_bytes_of ready) input old new effect
