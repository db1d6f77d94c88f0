use Rattle.std.proofs.Common.{◌≡◌, ℕ, suc, add-one, ◌+◌, Bool, false, List, [], ◌∷◌, length, drop, arith, sym, ap, ◌∙◌, subst}
use Rattle.std.proofs.Math.Seq.{drop-cons}
use Rattle.std.proofs.lemmas.List.{drop_all}
use Rattle.client_code.specs.Clients.{bytes_of}
use Rattle.client_vm.specs.declared.report.Report.{Report}
use Rattle.client_vm.specs.Moves.{moves_of}
use Rattle.client_vm.specs.ReadyClients.{client_in, texts_in}
use Rattle.client_vm.specs.Reports.{AreReportsOf}
use Rattle.client_vm.proofs.ReportLaws.{pushed_there, program_ran, some_ran}
use Rattle.client_vm.proofs.TogetherLaws.{Midway, begins, next_ran, stops, ends}
use Rattle.client_vm.proofs.bytes.run_all.Goals as goal

pub loop-program-init : goal.loop-program-init
loop-program-init g c empty room = (
  ap length empty,
  omega arith,
  subst (AreReportsOf []) (sym empty) tt,
  λ works trees accepted ready.
      let first = begins g.F.Fit.allocator trees (moves_of c.args.moves.now) c.args.input.now c.args.segment.now.window (g.W.Sink.taken c.args.out.now) (texts_in c.args.programs.now) c.args.segment.now.types accepted ready in
      let its = λ (reports : List Report) (failed : Bool). Midway g.F.Fit.allocator trees (moves_of c.args.moves.now) c.args.input.now c.args.segment.now.window (g.W.Sink.taken c.args.out.now) (texts_in c.args.programs.now) c.args.input.now
      c.args.segment.now.window c.args.segment.now.types (g.W.Sink.taken c.args.out.now) reports failed in
      subst (its c.args.reports.now.items) (sym {A = Bool} works) (subst (λ reports. its reports false) (sym {A = List Report} empty) first),
)

pub loop-program-preserved : goal.loop-program-preserved
loop-program-preserved g c empty room =
    let h = c.loop-program.invariant empty room in
    let ok = c.push.ensures.succeeds (let size = h.0 in let capacity = h.1 in let there = c.loop-program-test.true in omega (arith, size, capacity, there, room)) in
    let pushed = pushed_there _ _ _ _ c.push.ensures.items ok in
    let ran = program_ran (λ p. bytes_of (client_in p)) c.args.programs.now c.loop-program.program-index c.program-item.result c.loop-program.reports.items c.push.new.self.items c.run-report.result c.loop-program-test.true
    c.program-item.is h.0 h.2
    (record { path = c.run-report.ensures.path; within = c.run-report.ensures.steps }) pushed in (
      ran.0,
      (let capacity = h.1 in let more = c.push.ensures.capacity in omega (arith, capacity, more)),
      ran.1,
      λ works trees accepted ready.
          let k = c.loop-program.program-index in
          let now = c.loop-program.segment in
          let new = c.run-report.new in
          let taken = g.W.Sink.taken c.loop-program.out in
          let left = c.loop-program.left.now in
          let texts : List (List ℕ) = texts_in (drop (k + 1) c.args.programs.now) in
          let these : texts_in (drop k c.args.programs.now) ≡ bytes_of (client_in c.program-item.result) ∷ texts =
          ap texts_in (drop-cons c.args.programs.now k c.program-item.result c.loop-program-test.true) ∙ ap (λ p. bytes_of (client_in p) ∷ texts_in (drop (suc k) c.args.programs.now)) (sym c.program-item.is)
          ∙ ap (λ n. bytes_of (client_in c.program-item.result) ∷ texts_in (drop n c.args.programs.now)) (sym (add-one k)) in
          let m : Midway g.F.Fit.allocator trees (moves_of c.args.moves.now) c.args.input.now c.args.segment.now.window (g.W.Sink.taken c.args.out.now) (bytes_of (client_in c.program-item.result) ∷ texts)
          left now.window now.types taken c.loop-program.reports.items false =
          subst (Midway g.F.Fit.allocator trees (moves_of c.args.moves.now) c.args.input.now c.args.segment.now.window (g.W.Sink.taken c.args.out.now) (bytes_of (client_in c.program-item.result) ∷ texts)
          left now.window now.types taken c.loop-program.reports.items)
          (sym c.failed.ensures ∙ c.if-failed.false)
          (subst (λ ts. Midway g.F.Fit.allocator trees (moves_of c.args.moves.now) c.args.input.now c.args.segment.now.window (g.W.Sink.taken c.args.out.now) ts
          left now.window now.types taken c.loop-program.reports.items (g.W.Sink.has_failed c.loop-program.out))
          these (h.3 works trees accepted ready)) in
          subst (λ rs. Midway g.F.Fit.allocator trees (moves_of c.args.moves.now) c.args.input.now c.args.segment.now.window (g.W.Sink.taken c.args.out.now) texts c.rest-left.result.now
          new.segment.window new.segment.types (g.W.Sink.taken new.out) rs
          (g.W.Sink.has_failed new.out)) (sym pushed)
          (next_ran g.F.Fit.allocator trees (moves_of c.args.moves.now) c.args.input.now c.args.segment.now.window (g.W.Sink.taken c.args.out.now) (bytes_of (client_in c.program-item.result)) texts left c.rest-left.result.now
          now.window new.segment.window
          now.types new.segment.types taken (g.W.Sink.taken new.out) c.loop-program.reports.items c.run-report.result
          (g.W.Sink.has_failed new.out) (λ tree spells may. c.run-report.ensures.runs tree spells [] may) c.rest-left.ensures c.run-report.ensures.ended m),
    )

pub returns-then-failed-clause-reports : goal.returns-then-failed-clause-reports
returns-then-failed-clause-reports g c empty room = some_ran (λ p. bytes_of (client_in p)) c.args.programs.now c.loop-program.program-index c.loop-program.reports.items (c.loop-program.invariant empty room).2

pub returns-after-loop-program-clause-reports : goal.returns-after-loop-program-clause-reports
returns-after-loop-program-clause-reports g c empty room = some_ran (λ p. bytes_of (client_in p)) c.args.programs.now c.loop-program.program-index c.loop-program.reports.items (c.loop-program.invariant empty room).2

pub returns-after-loop-program-clause-all : goal.returns-after-loop-program-clause-all
returns-after-loop-program-clause-all g c empty room works =
    let h = c.loop-program.invariant empty room in
    let far = c.loop-program-test.false in
    let near = c.loop-program.auto.program-index-end in
    omega (arith, h.0, far, near)

pub returns-after-loop-program-clause-runs : goal.returns-after-loop-program-clause-runs
returns-after-loop-program-clause-runs g c empty room works trees accepted ready =
    let m = (c.loop-program.invariant empty room).3 works trees accepted ready in
    let none : texts_in (drop c.loop-program.program-index c.args.programs.now) ≡ [] = ap texts_in (drop_all c.loop-program.program-index c.args.programs.now c.loop-program-test.false) in
    ends g.F.Fit.allocator trees (moves_of c.args.moves.now) c.args.input.now c.args.segment.now.window (g.W.Sink.taken c.args.out.now) (texts_in (drop c.loop-program.program-index c.args.programs.now)) c.loop-program.left.now
    c.loop-program.segment.window c.loop-program.segment.types (g.W.Sink.taken c.loop-program.out) c.loop-program.reports.items (g.W.Sink.has_failed c.loop-program.out) m none

pub returns-then-failed-clause-runs : goal.returns-then-failed-clause-runs
returns-then-failed-clause-runs g c empty room works trees accepted ready =
    let m = (c.loop-program.invariant empty room).3 works trees accepted ready in
    stops g.F.Fit.allocator trees (moves_of c.args.moves.now) c.args.input.now c.args.segment.now.window (g.W.Sink.taken c.args.out.now) (texts_in (drop c.loop-program.program-index c.args.programs.now)) c.loop-program.left.now
    c.loop-program.segment.window c.loop-program.segment.types (g.W.Sink.taken c.loop-program.out) c.loop-program.reports.items (g.W.Sink.has_failed c.loop-program.out) m (sym c.failed.ensures ∙ c.if-failed.true)
