-- A `Kept` owns what a box with its client owns, and a `TypesBox` what a box with its types owns.
use Rattle.std.proofs.Common.{◌≡◌, true, [], refl}
use Rattle.std.specs.Prelude.{Option, Some, None, is_some}
use mir.Syntax.{impl, tnil, dnil}
use denote.Signature.{Slot, plain, static_lft}
use Rattle.std.specs.contracts.alloc.Global as heap
use Rattle.std.specs.contracts.impls.GlobalAllocator.TheImpl.{ghosts, dict}
use Rattle.std.proofs.alloc.Global.TheLaws as heap-laws
use Rattle.std_alloc.proofs.BoxSteps.Form.{Bx}
use Rattle.lezgauri_c.specs.contracts.box_parts.BoxParts as parts
use Rattle.lezgauri_c.proofs.kept_image.KeptImage.TheLaws as kept_image
use Rattle.client_vm.proofs.ready.Ready.TheLaws as ready
use Rattle.lezgauri_c.specs.Kept.{kept_row, types_row}
use Rattle.lezgauri_c.specs.contracts.kept.Kept as kept
use Rattle.lezgauri_c.specs.contracts.types_box.TypesBox as types_box

abbrev pub E : Bx
E = record { row = kept_row; laws = ready.the_row_laws static_lft heap.the_row ghosts heap-laws.the_row_laws; al = record { row = heap.the_row; laws = heap-laws.the_row_laws; g = ghosts; d = dict; drops = impl [] tnil dnil } }

abbrev pub Types : Bx
Types = record { row = types_row; laws = kept_image.the_row_laws; al = record { row = heap.the_row; laws = heap-laws.the_row_laws; g = ghosts; d = dict; drops = impl [] tnil dnil } }

abbrev pub FromParts : Slot 0
FromParts = plain (λ _. parts.the_row kept_row heap.the_row ghosts)

abbrev pub FromKept : Slot 0
FromKept = plain (λ _. kept.the_row)

abbrev pub FromTypesParts : Slot 0
FromTypesParts = plain (λ _. parts.the_row types_row heap.the_row ghosts)

abbrev pub FromTypes : Slot 0
FromTypes = plain (λ _. types_box.the_row)

abbrev pub Heap : Slot 0
Heap = plain (λ _. heap.the_row)

-- an option that isn't None has a value
pub one_there : {T : Type 0} (o : Option T) → is_some o ≡ true → (x : T) × (o ≡ Some x)
one_there (Some x) there = (x, refl)
one_there None there = cc
