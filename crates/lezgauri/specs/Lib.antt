-- The words of this crate's contracts, for a crate that lists only `lezgauri`: each line makes a
-- file of definitions `Rattle.lezgauri.specs.NAME`.
-- memory lent as a vector, and where a vector and an image are
pub mod Loans
pub use Rattle.seg_raw.specs.Homes
-- bytes, types, values, named objects, and the picture of an image
pub use Rattle.seg_spec.specs.Bytes
pub use Rattle.seg_spec.specs.Window
pub use Rattle.seg_spec.specs.Types
pub use Rattle.seg_spec.specs.Value
pub use Rattle.seg_spec.specs.Index
pub use Rattle.seg_spec.specs.Sound
-- sound images: `IsSound`, and `upgraded`, the bytes of an image after it was opened
pub use Rattle.seg_spec.specs.Images as SoundImages
-- an open image, its places and its iterators, and the results of the host's calls
pub use Rattle.seg_image.specs.Images
pub use Rattle.seg_image.specs.Checked
pub use Rattle.seg_image.specs.Places
pub use Rattle.seg_image.specs.Owners
pub use Rattle.seg_image.specs.Iterators
pub use Rattle.seg_image.specs.TypeLists
pub use Rattle.seg_image.specs.NumberPushes
pub use Rattle.seg_image.specs.NumberPuts
pub use Rattle.seg_image.specs.Forms
pub use Rattle.seg_image.specs.Faults
pub use Rattle.seg_image.specs.Stored
pub use Rattle.seg_image.specs.NewSegments
pub use Rattle.seg_image.specs.Segments
pub use Rattle.seg_image.specs.NamedObjects
pub use Rattle.seg_image.specs.Sequences
pub use Rattle.seg_image.specs.Lists
pub use Rattle.seg_image.specs.Maps
pub use Rattle.seg_image.specs.EitherMap
pub use Rattle.seg_image.specs.KeyValue
pub use Rattle.seg_image.specs.Place
pub use Rattle.seg_image.specs.CellPlaces
pub use Rattle.seg_image.specs.declared.image.Image
-- clients: what they are, which bytes spell one, which are accepted, and their runs
pub use Rattle.client_spec.specs.Syntax
pub use Rattle.client_spec.specs.Grammar
pub use Rattle.client_spec.specs.Clients
pub use Rattle.client_spec.specs.Run
pub use Rattle.client_spec.specs.OnImages
pub use Rattle.client_spec.specs.Outcome
-- the client in a value of the library: parsed, verified or ready to run
pub use Rattle.client_code.specs.Clients as ClientFiles
pub use Rattle.client_verify.specs.Accepted
pub use Rattle.client_verify.specs.Texts
pub use Rattle.client_verify.specs.declared.verified.Verified
pub use Rattle.client_verify.specs.declared.verified.TheConstants as VerifierConstants
pub use Rattle.client_vm.specs.ReadyClients
-- why a call failed
pub use Rattle.seg_raw.specs.declared.fault.Fault
pub use Rattle.seg_raw.specs.declared.code.Code
pub use Rattle.seg_image.specs.declared.error.Error
pub use Rattle.seg_image.specs.declared.error.StoppedAt
pub use Rattle.seg_image.specs.declared.maps.Pair
-- runs: `run`, and `run_bytes` with `run_image`
pub use Rattle.client_vm.specs.Runs
pub use Rattle.client_vm.specs.Jobs
pub use Rattle.client_vm.specs.Outcomes
pub use Rattle.client_vm.specs.Together
pub use Rattle.client_vm.specs.declared.report.Report
pub use Rattle.client_vm.specs.declared.report.Ended
pub use Rattle.client_verify.specs.declared.refused.Refused
-- what an output took
pub use Rattle.client_sim.specs.Writes
-- the positions of named objects before and after a run
pub use Rattle.client_sim.specs.Staying
