use Rattle.std.proofs.Common.{◌≡◌, length, sym, ◌∙◌, arith}
use Rattle.std.proofs.lemmas.List.{length-map}
use Rattle.client_spec.specs.Typed.{without_class}
use Rattle.client_verify.specs.Views.{class_of, register_type_of, registers_of}
use Rattle.client_verify.proofs.Places.{map_more}
use Rattle.client_verify.proofs.registers.Registers.end.Goals as goal

pub loop-i-preserved : goal.loop-i-preserved
loop-i-preserved c =
    let long : length c.args.self.now.types ≡ 16 = omega arith in
    let now : length c.loop-i.self.types ≡ 16 = omega arith in
    map_more register_type_of (without_class (class_of c.args.class)) c.loop-i.self.types (registers_of c.args.self.now) c.loop-i.i _ c.without.result
    (let t = c.loop-i-test.true in omega arith) (length-map c.args.self.now.types register_type_of ∙ long ∙ sym now) c.loop-i.invariant c.without.ensures
