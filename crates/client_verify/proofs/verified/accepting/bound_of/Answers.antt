use Rattle.std.proofs.Common.{◌+◌, sym, ap, ◌∙◌, subst, arith, Ok, Err}
use Rattle.seg_raw.specs.declared.fault.Fault.TheVariants as fault
use Rattle.client_spec.specs.Grammar.{listing}
use Rattle.client_code.specs.Views.{instruction_of}
use Rattle.client_verify.specs.Views.{reason_of}
use Rattle.client_verify.specs.Verifiers.{progress_of}
use Rattle.client_verify.specs.Refusals.{WalksTo}
use Rattle.client_verify.proofs.VerifierStateLaws.{goes_on, rejected, there, ends}
use Rattle.client_verify.proofs.verified.accepting.bound_of.Goals as goal
use Rattle.client_verify.proofs.verified.accepting.bound_of.Goals.{in-Some+in_default-pass, in_default}

pub returns-in-Err-clause-rejected : goal.returns-in-Err-clause-rejected
returns-in-Err-clause-rejected c tree spells same =
    let i = c.loop-i.i in
    let reason = reason_of c.in-Err.reason in
    let to = c.loop-i.invariant.walks tree spells same in
    let here = goes_on tree spells.valid c.loop-i.verifier.types.now (c.loop-i.invariant.same_types ∙ same) i (progress_of c.loop-i.verifier) (instruction_of c.in-Some.instruction) (Err reason)
    (sym (c.in-Some.ensures tree spells)) to (c.in-Err.ensures.refused tree.constants) in
    (i, reason, ap (fault.Rejected i) c.number.ensures, rejected tree spells.valid (i + 1) reason here, (progress_of c.loop-i.verifier, to, here))

pub loop-i-preserved : goal.loop-i-preserved
loop-i-preserved c =
    elim c.match-instruction.branch [
      | in-Some+in_default-pass w ↦
          record {
            same_types = ap (λ v. v.types.now) w.verifier-is ∙ w.pass.ensures.types ∙ c.loop-i.invariant.same_types;
            walks = λ tree spells same. subst (λ v. WalksTo tree (c.loop-i.i + 1) (Ok (progress_of v))) (sym w.verifier-is) (
                goes_on tree spells.valid c.loop-i.verifier.types.now (c.loop-i.invariant.same_types ∙ same) c.loop-i.i (progress_of c.loop-i.verifier) (instruction_of w.in-Some.instruction) (Ok (progress_of w.pass.new.self))
                (sym (w.in-Some.ensures tree spells)) (c.loop-i.invariant.walks tree spells same) (w.in_default-pass.ensures.passed tree.constants)
                );
          }
      | in_default w ↦
          record {
            same_types = ap (λ v. v.types.now) w.verifier-is ∙ c.loop-i.invariant.same_types;
            walks = λ tree spells same.
                let count = c.instruction_count-i-end.ensures.count tree spells in
                let test = c.loop-i-test.true in
                absurd (there (listing tree.code) c.loop-i.i (omega arith) (w.in_default.ensures tree spells));
          }
    ]

pub returns-clause-accepted : goal.returns-clause-accepted
returns-clause-accepted c tree spells same =
    let count = c.instruction_count-i-end.ensures.count tree spells in
    let test = c.loop-i-test.false in
    let r = ends tree spells.valid c.loop-i.i (progress_of c.loop-i.verifier) (omega arith) (c.loop-i.invariant.walks tree spells same) in
    (r.0, c.steps.ensures ∙ r.1)
