-- Kept types can be sent to another thread, as their box can.
use mir.Raw.{raw}
use base.Shift.{Keyless}
use denote.Memory.{lone}
use denote.RawPtr.{Ptr}
use denote.Struct.Struct.{exits_of}
use denote.Struct.Owning.{shape, fields, to}
use denote.Param.Send.{IsSend, AllSend, owning_send, struct_send, sendable}
use Rattle.std.specs.Prelude.{Option, Some, None}
use Rattle.std.proofs.Crossing as heap
use Rattle.std_alloc.proofs.SendSync.{quiet, lies}
use Rattle.lezgauri_c.specs.Kept.{types_row, c_heap, may_own}
use Rattle.lezgauri_c.specs.contracts.types_box.TypesBox.{the_row, the_type}
use Rattle.lezgauri_c.proofs.kept_image.KeptImage.TheSendSync as kept_image

inside : IsSend types_row
inside = kept_image.the_send

owned : (p : Ptr) (types : Option types_row.Denot) → Keyless (may_own types_row p types)
owned p None = tt
owned p (Some types) = (lies types_row inside p types, heap.frees.frees c_heap (raw (lone types_row.mir)) p)

pub send : IsSend the_row
send =
    let all : AllSend (fields the_type) = (search sendable, tt) in
    owning_send the_type all (λ d. owned d.at d.image) (λ k. quiet (to the_type) (exits_of k (fields the_type)) ((struct_send (shape the_type) all).leaving k))
