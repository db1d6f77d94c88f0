-- A run of a client leaves the objects that its code can't destroy where they are.
use Rattle.std.proofs.Common.{◌≡◌, ℕ, List, true, Option}
use Rattle.seg_spec.specs.Types.{Table}
use Rattle.seg_spec.specs.Window.{Placement}
use Rattle.seg_spec.specs.Index.{Root}
use Rattle.client_spec.specs.Syntax.{Client}
use Rattle.client_spec.specs.OnImages.{Move}
use Rattle.client_vm.specs.declared.report.Report.{Report}
use Rattle.client_sim.specs.Staying.{code_passes, keeps_name, keeps_unique, NameStays, UniqueStays}
use Rattle.client_sim.proofs.Names.ObjectRunLaws.{client_keeps_name, client_keeps_unique}
use Rattle.client_vm.specs.Runs.{given_of, left_of, HasRun}

module _ {allocator : ℕ} {client : Client} {others : List Root} {moves : List Move} {input : List ℕ} {old new : Placement} {types types_then : Table} {taken taken_then : Option (List ℕ)} {report : Report}
    (ran : HasRun allocator client others moves input old types taken new types_then taken_then report) where
  pub name_stays : (name : List ℕ) → code_passes (keeps_name client.constants name) client.code ≡ true → NameStays old.bytes new.bytes name
  name_stays name = client_keeps_name name client (given_of others moves input old) (left_of report ran.output new) ran.runs

  pub unique_stays : (T : ℕ) → code_passes (keeps_unique T) client.code ≡ true → UniqueStays old.bytes new.bytes T
  unique_stays T = client_keeps_unique T client (given_of others moves input old) (left_of report ran.output new) ran.runs
