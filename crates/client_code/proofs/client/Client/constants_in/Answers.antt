use Rattle.std.proofs.Common.{◌≡◌, length, sym, ap, ◌∙◌, subst, arith}
use Rattle.std.proofs.lemmas.List.{map_push, length-map, length_push}
use Rattle.client_code.specs.Views.{constant_of, constants_of}
use Rattle.client_code.specs.Files.{code_place}
use Rattle.client_code.proofs.Constants.{Walk, walk_on, walk_never, walk_done}
use Rattle.client_code.proofs.Whole.{constants_begin}
use Rattle.client_code.proofs.client.Client.constants_in.Goals as goal

pub loop-init : goal.loop-init
loop-init g c = record {
  near = (let at = c.constants_at-next.ensures in let few = c.args.self.now.header.limits.0 in omega arith);
  all = ap length c.in_ok-constants.ensures.items;
  walks = λ tree spells.
      subst (Walk c.args.self.now.file.now tree.constants (code_place tree) c.constants_at-next.result) (ap constants_of (sym c.in_ok-constants.ensures.items))
      (constants_begin c.args.self.now.file.now tree spells c.constants_at-next.result c.args.self.now.header.types (c.args.self.now.placed tree spells).0 c.constants_at-next.ensures);
}

pub loop-preserved : goal.loop-preserved
loop-preserved g c =
    let items = c.in_ok-push.ensures.items in
    let long = length_push c.loop.constants.items c.in-Some.constant in
    record {
      near = (let a = c.in-Some.ensures.near in let b = c.loop.invariant.near in omega arith);
      all = ap length items ∙ long ∙ (let a = c.loop.invariant.all in omega arith);
      walks = λ tree spells.
          let many = (c.args.self.now.placed tree spells).1 in
          let test = c.loop-test.true in
          let all = c.loop.invariant.all in
          let count = length-map c.loop.constants.items constant_of in
          subst (Walk c.args.self.now.file.now tree.constants (code_place tree) c.in-Some.following) (sym (ap constants_of items ∙ map_push constant_of c.loop.constants.items c.in-Some.constant))
          (walk_on c.args.self.now.file.now tree.constants (code_place tree) c.loop.next c.in-Some.following (constants_of c.loop.constants.items) (constant_of c.in-Some.constant) (c.loop.invariant.walks tree spells)
          (omega arith) c.in-Some.ensures.spelled);
    }

pub returns-in_default : goal.returns-in_default
returns-in_default g c = λ tree spells.
    let many = (c.args.self.now.placed tree spells).1 in
    let test = c.loop-test.true in
    let all = c.loop.invariant.all in
    let count = length-map c.loop.constants.items constant_of in
    absurd (walk_never c.args.self.now.file.now tree.constants (code_place tree) c.loop.next (constants_of c.loop.constants.items) (c.loop.invariant.walks tree spells) (omega arith) spells.valid.constants c.in_default.ensures.none)

pub returns : goal.returns
returns g c = λ tree spells.
    let many = (c.args.self.now.placed tree spells).1 in
    let test = c.loop-test.false in
    let all = c.loop.invariant.all in
    let count = length-map c.loop.constants.items constant_of in
    let last : length (constants_of c.loop.constants.items) ≡ length tree.constants = omega arith in
    walk_done c.args.self.now.file.now tree.constants (code_place tree) c.loop.next (constants_of c.loop.constants.items) (c.loop.invariant.walks tree spells) last
