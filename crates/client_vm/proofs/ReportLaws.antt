-- Reports of clients, report by report.
use Rattle.std.proofs.Common.{◌≡◌, ℕ, ◌+◌, ◌<◌, Bool, true, false, List, [], ◌∷◌, ◌++◌, length, map, take, drop, get_or, sym, ap, ◌∙◌, subst, arith, length-append}
use Rattle.std.specs.Prelude.{if◌then◌else◌}
use Rattle.std.proofs.lemmas.List.{map-append, length-map, length-take-le, take-append-drop}
use Rattle.client_verify.proofs.TextsLaws.{mapped_front}
use Rattle.client_vm.specs.declared.report.Report.{Report}
use Rattle.client_vm.specs.Reports.{IsReportOf, AreReportsOf}

-- the reports stay right if the next client's is added
one_report : (texts : List (List ℕ)) (reports : List Report) (text : List ℕ) (report : Report) → length texts ≡ length reports → AreReportsOf texts reports → IsReportOf text report
    → AreReportsOf (texts ++ text ∷ []) (reports ++ report ∷ [])
one_report [] [] text report e h is = (is, tt)
one_report [] (r ∷ reports) text report e h is = absurd h
one_report (t ∷ texts) [] text report e h is = absurd (omega arith)
one_report (t ∷ texts) (r ∷ reports) text report e h is = (h.0, one_report texts reports text report (omega arith) h.1 is)

-- clients that didn't run need no report
fewer_reports : (texts more : List (List ℕ)) (reports : List Report) → AreReportsOf texts reports → AreReportsOf (texts ++ more) reports
fewer_reports texts more [] h = tt
fewer_reports [] more (r ∷ reports) h = absurd h
fewer_reports (t ∷ texts) more (r ∷ reports) h = (h.0, fewer_reports texts more reports h.1)

pub pushed_there : {X : Type 0} (ok : Bool) (xs ys new : List X) → new ≡ (if ok then xs else ys) → ok ≡ true → new ≡ xs
pushed_there true xs ys new e h = e
pushed_there false xs ys new e h = cc

pub program_ran : {P : Type 0} (text : P → List ℕ) (programs : List P) (k : ℕ) (program : P) (old new : List Report) (report : Report) → k < length programs → program ≡ get_or programs k program → length old ≡ k → AreReportsOf
    (map text (take k programs)) old
    → IsReportOf (text program) report → new ≡ old ++ report ∷ [] → (length new ≡ k + 1) × AreReportsOf (map text (take (k + 1) programs)) new
program_ran text programs k program old new report there is count h ran e =
    let size : length (map text (take k programs)) ≡ k = length-map (take k programs) text ∙ length-take-le k programs (omega arith) in (
      ap length e ∙ length-append old (report ∷ []) ∙ ap (λ n. n + 1) count,
      subst (AreReportsOf (map text (take (k + 1) programs))) (sym e)
          (subst (λ ts. AreReportsOf ts (old ++ report ∷ [])) (sym (mapped_front text programs k program there is))
          (one_report (map text (take k programs)) old (text program) report (size ∙ sym count) h ran)),
    )

-- the reports of the clients that ran are reports of all clients
pub some_ran : {P : Type 0} (text : P → List ℕ) (programs : List P) (k : ℕ) (reports : List Report) → AreReportsOf (map text (take k programs)) reports → AreReportsOf (map text programs) reports
some_ran text programs k reports h =
    subst (λ ts. AreReportsOf ts reports) (sym (map-append text (take k programs) (drop k programs)) ∙ ap (map text) (take-append-drop k programs))
    (fewer_reports (map text (take k programs)) (map text (drop k programs)) reports h)
