-- The ownership of values that C keeps pointers to: a prepared client, and the types of a segment.
--     kept_row               a prepared client, whose bytes are never freed
--     types_row              the types of a segment, in an image
--     c_heap                 the heap of the C library, which has one handle
--     may_own row at value   ownership of the value's box, if there is a value
use Rattle.std.specs.Prelude.{Option, Some, None}
use base.Fml.{Fml, ftrue}
use denote.RattleType.{RattleType}
use denote.RawPtr.{Ptr}
use denote.Signature.{static_lft}
use Rattle.std.specs.contracts.alloc.Global as heap
use Rattle.std.specs.contracts.impls.GlobalAllocator.TheImpl.{ghosts}
use Rattle.std_alloc.specs.Box.Ownership.{box_owns}
use Rattle.lezgauri_c.specs.contracts.kept_image.KeptImage as kept_image
use Rattle.client_vm.specs.contracts.ready.Ready.{the_row}

abbrev pub kept_row : RattleType
kept_row = the_row static_lft heap.the_row ghosts

abbrev pub types_row : RattleType
types_row = kept_image.the_row

abbrev pub c_heap : heap.the_row.Denot
c_heap = record { memory = record { seal = tt } }

abbrev pub may_own : (row : RattleType) → Ptr → Option row.Denot → Fml
may_own row at None = ftrue
may_own row at (Some value) = box_owns (ghosts.dealloc_token c_heap) row at value
