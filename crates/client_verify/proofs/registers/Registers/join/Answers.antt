use Rattle.std.proofs.Common.{◌≡◌, ◌+◌, ◌||◌, length, map, sym, ap, ◌∙◌, Bool, true, false, if◌then◌else◌, arith, Ok, Err}
use Rattle.std.proofs.lemmas.List.{length-set}
use Rattle.client_spec.specs.Typed.{Reason, joined}
use Rattle.client_verify.specs.Views.{register_type_of}
use Rattle.client_verify.proofs.Places.{JoinedTo, joined_more, joined_not, neither, either}
use Rattle.client_verify.proofs.registers.Registers.join.Goals as goal

pub loop-i-preserved : goal.loop-i-preserved
loop-i-preserved c =
    let t = c.loop-i-test.true in
    let i = c.loop-i.i in
    let first = c.args.success.now.types in
    let second = c.args.self.now.types in
    let both = c.loop-i.self.types in
    let first_long : length first ≡ 16 = omega arith in
    let second_long : length second ≡ 16 = omega arith in
    let before = c.loop-i.invariant in
    let long = before.long in
    let r = c.joined-is_lost.result in
    let joins = λ (b : Bool) (e : r.1 ≡ b). ap (λ lost. if lost then Err Reason.OwnerLost else Ok (register_type_of r.0)) (sym e) ∙ c.joined-is_lost.ensures in
    record {
      long = length-set both i r.0 ∙ long;
      kept = neither c.loop-i.lost r.1 (λ e f. joined_more register_type_of first second both i _ _ r.0 (omega arith) (omega arith) (omega arith) (before.kept e) (joins false f));
      lost = either c.loop-i.lost r.1 before.lost (λ e f. joined_not register_type_of first second both i _ _ Reason.OwnerLost (omega arith) (omega arith) (before.kept e) (joins true f));
    }
