-- A KILL about the object, whose register is free, destroys the object.
use Rattle.std.proofs.Common.{rules, ◌≡◌, suc}
use denote.Enum.Bare.{same_true}
use Rattle.client_spec.specs.contracts.table.Operation.{the_type}
use Rattle.client_spec.specs.declared.table.Operation.TheVariants as operation
use Rattle.client_code.specs.Views.{instruction_of}
use Rattle.script_meaning.specs.Meaning.{Deletes}
use Rattle.script_meaning.specs.Comparing.{setting_of, texts_of, code_of, holding, Follows}
use Rattle.script_meaning.proofs.SequenceLaws.{hidden_then}
use Rattle.script_meaning.proofs.AnswerLaws.{checked_next}
use Rattle.script_meaning.proofs.ObjectLaws.{delete_law}
use Rattle.script_meaning.proofs.comparison.Comparison.delete.Goals as goal

pub returns : goal.returns
returns c =
    let kill = instruction_of c.in_ok-kill.kill in
    let kills : c.in_ok-kill.kill.operation ≡ operation.Kill = same_true the_type (search rules) _ _ (search rules) in
    let self = c.args.self.now in
    let start = c.in_ok-start.start in
    let held = c.args.held.now.variables in
    let does = Deletes (setting_of self) c.args.object in
    checked_next c.checked_add.result _ start (λ after. Follows self c.args.at after (holding held) does (holding held)) c.checked_add.ensures
    (hidden_then (texts_of self) (code_of self) c.args.at start (suc start) (holding held) (holding held) (holding held) does c.in_ok-start.ensures
    (delete_law self start c.args.object held kill c.in_ok-kill.ensures kills (c.is_about.ensures c.if-not-is_about.false) (c.is_free.ensures c.if-not-is_free.false)))
