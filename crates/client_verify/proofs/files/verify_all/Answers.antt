use Rattle.std.proofs.Common.{[], ◌∷◌, ◌++◌, sym, ap, ◌∙◌, subst}
use Rattle.client_spec.specs.Types.{longer}
use Rattle.client_spec.specs.Grammar.{SpellsClient}
use Rattle.client_verify.specs.Texts.{texts_of}
use Rattle.client_verify.proofs.TextsLaws.{text_added, client_added, first_wrong}
use Rattle.client_verify.proofs.files.verify_all.Goals as goal

pub returns-in-Err-clause-refused : goal.returns-in-Err-clause-refused
returns-in-Err-clause-refused g c =
    let h = c.loop-i.invariant.1 in
    first_wrong (λ x. x.now) c.args.clients.now c.loop-i.i (record { ref_ptr = (0, 0); now = [] }) c.loop-i-test.true c.args.types.now c.loop-i.types c.in-Err.fault h.0 h.1 h.2 c.in-Err.ensures.wrong

pub loop-i-preserved : goal.loop-i-preserved
loop-i-preserved g c =
    let h = c.loop-i.invariant.1 in
    let a = c.in-Ok.ensures.accepted in
    let spells = subst (λ bytes. SpellsClient bytes a.0) (sym c.in-Ok.ensures.text) a.1 in
    let more = c.extend.ensures ∙ ap (longer c.loop-i.types) (c.types.ensures a.0 spells) in (
      ap texts_of {x = c.push.new.self.items} {y = c.loop-i.programs.items ++ c.in-Ok.program ∷ []} c.in_ok-push-in-Ok.ensures.items
          ∙ text_added (λ x. x.now) c.args.clients.now c.loop-i.i (record { ref_ptr = (0, 0); now = [] }) c.loop-i-test.true c.loop-i.programs.items c.in-Ok.program c.loop-i.invariant.0 c.in-Ok.ensures.text,
      client_added (λ x. x.now) c.args.clients.now c.loop-i.i (record { ref_ptr = (0, 0); now = [] }) c.loop-i-test.true c.args.types.now c.loop-i.types c.extend.new.types h.0 a.0 h.1 h.2 a.1 a.2 more,
    )
