-- A kept client can be sent to another thread, as its box can.
use mir.Raw.{raw}
use base.Shift.{Keyless}
use denote.Memory.{lone}
use denote.RawPtr.{Ptr}
use denote.Signature.{static_lft}
use denote.Struct.Struct.{exits_of}
use denote.Struct.Owning.{shape, fields, to}
use denote.Param.Send.{IsSend, AllSend, owning_send, struct_send, sendable}
use Rattle.std.specs.Prelude.{Option, Some, None}
use Rattle.std.proofs.Crossing as heap
use Rattle.std.specs.contracts.alloc.Global as global
use Rattle.std.specs.contracts.impls.GlobalAllocator.TheImpl.{ghosts}
use Rattle.std_alloc.proofs.SendSync.{quiet, lies}
use Rattle.lezgauri_c.specs.Kept.{kept_row, c_heap, may_own}
use Rattle.lezgauri_c.specs.contracts.kept.Kept.{the_row, the_type}
use Rattle.client_vm.proofs.ready.Ready.TheSendSync as ready

inside : IsSend kept_row
inside = ready.the_send static_lft global.the_row ghosts heap.send heap.frees

owned : (p : Ptr) (client : Option kept_row.Denot) → Keyless (may_own kept_row p client)
owned p None = tt
owned p (Some client) = (lies kept_row inside p client, heap.frees.frees c_heap (raw (lone kept_row.mir)) p)

pub send : IsSend the_row
send =
    let all : AllSend (fields the_type) = (search sendable, tt) in
    owning_send the_type all (λ d. owned d.at d.value) (λ k. quiet (to the_type) (exits_of k (fields the_type)) ((struct_send (shape the_type) all).leaving k))
