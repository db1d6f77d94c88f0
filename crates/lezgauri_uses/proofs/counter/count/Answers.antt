use Rattle.std.proofs.Common.{◌≡◌, ◌⊎◌, ◌≤◌, inl, inr, true, [], List, ℕ, sym, ap, ◌∙◌, subst}
use Rattle.lezgauri.specs.Error.TheVariants as error
use Rattle.lezgauri.specs.Texts.{IsWrongText}
use Rattle.lezgauri.specs.Grammar.{SpellsClient}
use Rattle.lezgauri.specs.ClientFiles.{bytes_of}
use Rattle.lezgauri.specs.Accepted.{client_of}
use Rattle.lezgauri.specs.Verified.{Verified}
use Rattle.lezgauri.proofs.OpenedLaws.{image_sound, opened_ready}
use Rattle.lezgauri_uses.specs.Counts.{HasCounted, RefusesToCount}
use Rattle.lezgauri_uses.proofs.CountLaws.{HasRunTimes, none_ran, agrees_now, one_more_ran, counted, err_is}
use Rattle.lezgauri_uses.proofs.counter.count.Goals as goal
use Rattle.lezgauri_uses.proofs.counter.count.Goals.{else-loop-test, then-loop-test+then-failed}

pub returns-in_err-verify-clause-refused : goal.returns-in_err-verify-clause-refused
returns-in_err-verify-clause-refused g c =
    let is = c.in_ok-image.ensures.image in
    let f = c.in_err-verify.field-0.0 in
    let text = c.args.client.now in
    let sound = image_sound c.args.image.items _ is in
    err_is c.from_residual-in_err-verify.result (error.Fault f) (RefusesToCount c.args.image.items text)
    (inr (sound, subst (λ table. IsWrongText table text f) (sym is.table_is) c.in_err-verify.ensures.wrong)) c.from_residual-in_err-verify.ensures.1

pub loop-init : goal.loop-init
loop-init g c tree spells v ready =
    subst (HasRunTimes c.in_ok-image.image c.in_ok-image.image tree c.args.client.now c.args.times 0 (g.W.Sink.taken c.args.out.now) (g.W.Sink.taken c.args.out.now)) (sym c.requires.works)
    (none_ran c.in_ok-image.image tree c.args.client.now c.args.times (g.W.Sink.taken c.args.out.now) spells v ready)

-- the client's types agree with the image's before each run, so no run is refused
pub returns-in_err-run : goal.returns-in_err-run
returns-in_err-run g c =
    let image = c.in_ok-image.image in
    let text = c.args.client.now in
    let a = c.in_ok-verify.ensures.accepted in
    let taken = g.W.Sink.taken c.args.out.now in
    let taken_now = g.W.Sink.taken c.loop.out in
    let ready = opened_ready image c.args.image.items c.in_ok-image.ensures.opened c.in_ok-image.ensures.image c.in_ok-image.ensures.allocator in
    let h = subst (HasRunTimes image c.loop.image a.0 text c.args.times c.loop.counter taken taken_now) (sym c.failed.ensures ∙ c.if-failed.false) (c.loop.invariant a.0 a.1 a.2 ready) in
    let now = agrees_now image a.0 text c.args.times taken c.loop.image c.loop.counter taken_now h c.loop-test.true in
    let file : bytes_of (client_of c.in_ok-client.client.client) ≡ text = ap (λ (v : Verified). bytes_of (client_of v)) c.in_ok-client.ensures ∙ c.in_ok-verify.ensures.text in
    let done = (c.in_err-run.ensures.agrees now.0 (subst (λ (bs : List ℕ). SpellsClient bs now.0) (sym file) now.1)).1 now.2 in
    absurd cc

pub loop-preserved : goal.loop-preserved
loop-preserved g c tree spells v ready =
    let image = c.in_ok-image.image in
    let text = c.args.client.now in
    let taken = g.W.Sink.taken c.args.out.now in
    let taken_now = g.W.Sink.taken c.loop.out in
    let h = subst (HasRunTimes image c.loop.image tree text c.args.times c.loop.counter taken taken_now) (sym c.failed.ensures ∙ c.if-failed.false) (c.loop.invariant tree spells v ready) in
    let file : bytes_of (client_of c.in_ok-client.client.client) ≡ text = ap (λ (v : Verified). bytes_of (client_of v)) c.in_ok-client.ensures ∙ c.in_ok-verify.ensures.text in
    one_more_ran image tree text c.args.times taken c.loop.image c.loop.counter taken_now h c.loop-test.true c.run.new.image (g.W.Sink.taken c.run.new.out) c.in_ok-run.field-0 (g.W.Sink.has_failed c.run.new.out)
    c.run.ensures.allocator (λ client s may. c.in_ok-run.ensures.runs client (subst (λ (bs : List ℕ). SpellsClient bs client) (sym file) s) [] may) c.in_ok-run.ensures.ended

pub returns-clause-counts : goal.returns-clause-counts
returns-clause-counts g c =
    let image = c.in_ok-image.image in
    let text = c.args.client.now in
    let a = c.in_ok-verify.ensures.accepted in
    let taken = g.W.Sink.taken c.args.out.now in
    let taken_now = g.W.Sink.taken c.loop.out in
    let failed = g.W.Sink.has_failed c.loop.out in
    let ready = opened_ready image c.args.image.items c.in_ok-image.ensures.opened c.in_ok-image.ensures.image c.in_ok-image.ensures.allocator in
    let over : (failed ≡ true) ⊎ (c.args.times ≤ c.loop.counter) =
    elim c.loop-test.branch [ else-loop-test w ↦ inr w.loop-test.false | then-loop-test+then-failed w ↦ inl (sym w.failed.ensures ∙ w.if-failed.true) ] in
    subst (λ (saved : List ℕ). HasCounted c.args.image.items text c.args.times taken taken_now failed saved) (sym c.into_bytes.ensures.bytes)
    (counted image a.0 text c.args.times taken c.loop.image c.loop.counter taken_now failed (c.loop.invariant a.0 a.1 a.2 ready)
    c.args.image.items c.in_ok-image.ensures.opened c.in_ok-image.ensures.whole c.in_ok-image.ensures.image a.1 a.2 over)

pub returns-clause-sound : goal.returns-clause-sound
returns-clause-sound g c = (returns-clause-counts g c).outcome.left.sound
