-- What the reports of several clients promise about any image.
--     IsReportOf text report          the steps and the ending are those of a run of the client's
--                                     code, within its bound
--     AreReportsOf texts reports      the same for each client that ran, in order
--     HasReportsOf texts reports ended    and all ran if no output failed
use Rattle.std.specs.Prelude.{◌≡◌, ⊤, ℕ, ◌≤◌, List, [], ◌∷◌, length}
use Rattle.client_spec.specs.Syntax.{Client}
use Rattle.client_spec.specs.Grammar.{SpellsClient}
use Rattle.client_spec.specs.Run.{bound}
use Rattle.client_vm.specs.declared.report.Report.{Report}
use Rattle.client_vm.specs.declared.report.Ended.{Ended}
use Rattle.client_vm.specs.Runs.{ending_of}
use Rattle.client_program.specs.Paths.{IsPath}

pub record IsReportOf (text : List ℕ) (report : Report) : Type 0 where
  pub path : (client : Client) → SpellsClient text client →
      IsPath client.code report.steps (ending_of report.ended)
  pub within : (client : Client) → SpellsClient text client → report.steps ≤ bound client.code

-- clients after a failed output didn't run
abbrev pub AreReportsOf : List (List ℕ) → List Report → Type 0
AreReportsOf texts [] = ⊤
AreReportsOf [] (report ∷ reports) = ⊥
AreReportsOf (text ∷ texts) (report ∷ reports) =
    IsReportOf text report × AreReportsOf texts reports

pub record HasReportsOf (texts : List (List ℕ)) (reports : List Report) (ended : Ended) :
    Type 0 where
  pub reports_are : AreReportsOf texts reports
  pub all : ended ≡ Ended.Done → length reports ≡ length texts
