use Rattle.std.proofs.Common.{◌≤◌, length, ap, ◌∙◌, sym, subst, refl, arith}
use Rattle.std.proofs.lemmas.Result.{MatchResult-at_ok, MatchResult-at_err}
use Rattle.seg_spec.specs.Index.{IsName, root_named}
use Rattle.seg_value.specs.Stored.{Stored}
use Rattle.seg_index.specs.Lists.{IsVacant}
use Rattle.seg_manager.proofs.NamedReads.{finds_in}
use Rattle.seg_manager.proofs.NamedResultLaws.{is_there, made_named, made_as, lacks_as}
use Rattle.seg_manager.proofs.segment.Segment.construct.Goals as goal

pub returns-in-Ok-look_up-clause-tells : goal.returns-in-Ok-look_up-clause-tells
returns-in-Ok-look_up-clause-tells g c = λ picture is.
    let name = c.in-Some.ensures.name in
    let it = MatchResult-at_ok _ _ _ c.in-Ok-look_up.is (c.look_up.ensures picture.names is.held.index_blocks (finds_in g.F.Fit.allocator c.args.self.now picture is c.heap.result.now c.heap.ensures)) in
    let some : 1 ≤ c.args.count = omega (arith, c.in-Ok.ensures.1, c.if-count-eq0.false) in
    let few : c.args.count ≤ 65535 = omega (arith, c.in-Ok.ensures.0) in
    (name.0, (some, few), is_there (root_named picture.names c.args.name.now) it.0 (ap (root_named picture.names) (sym name.1) ∙ it.1.found), refl)

pub returns-in-Err-clause-tells : goal.returns-in-Err-clause-tells
returns-in-Err-clause-tells g c = λ picture is.
    let name = c.in-Some.ensures.name in
    let vacant = MatchResult-at_err _ _ _ c.in-Err.is (c.look_up.ensures picture.names is.held.index_blocks (finds_in g.F.Fit.allocator c.args.self.now picture is c.heap.result.now c.heap.ensures)) in
    let some : 1 ≤ c.args.count = omega (arith, c.in-Ok.ensures.1, c.if-count-eq0.false) in
    let few : c.args.count ≤ 65535 = omega (arith, c.in-Ok.ensures.0) in
    made_named c.construct_at.result c.args.self.now c.construct_at.new.self picture.names c.args.name.now c.args.count c.construct_at.ensures.code
    (name.0, ap (root_named picture.names) (sym name.1) ∙ vacant.missing) (some, few)

pub returns-in-Err-clause-makes : goal.returns-in-Err-clause-makes
returns-in-Err-clause-makes g c = λ picture is small.
    let name = c.in-Some.ensures.name in
    let vacant = MatchResult-at_err _ _ _ c.in-Err.is (c.look_up.ensures picture.names is.held.index_blocks (finds_in g.F.Fit.allocator c.args.self.now picture is c.heap.result.now c.heap.ensures)) in
    let some : 1 ≤ c.in-Ok.count = omega (arith, c.if-count-eq0.false) in
    made_as g.F.Fit.allocator c.args.self.now c.construct_at.new.self picture is.held.index_blocks c.args.t c.construct_at.result c.args.name.now c.in-Some.name.bytes.now c.args.count c.in-Ok.count name.1 c.in-Ok.ensures.1
    (c.construct_at.ensures.makes picture is small (subst IsName (sym name.1) name.0) (name.2 ∙ ap length (sym name.1)) some
    (subst (λ (s : Stored). IsVacant s.window.bytes s.types picture.names c.in-Some.name.bytes.now c.in-Err.vacant) c.heap.ensures vacant))

pub returns-in-Err-clause-no_room : goal.returns-in-Err-clause-no_room
returns-in-Err-clause-no_room g c = λ picture is small e.
    let name = c.in-Some.ensures.name in
    let vacant = MatchResult-at_err _ _ _ c.in-Err.is (c.look_up.ensures picture.names is.held.index_blocks (finds_in g.F.Fit.allocator c.args.self.now picture is c.heap.result.now c.heap.ensures)) in
    let some : 1 ≤ c.in-Ok.count = omega (arith, c.if-count-eq0.false) in
    lacks_as g.F.Fit.allocator c.args.self.now c.construct_at.new.self picture is.held.index_blocks c.args.t c.construct_at.result c.args.name.now c.in-Some.name.bytes.now c.args.count c.in-Ok.count name.1 c.in-Ok.ensures.1
    (c.construct_at.ensures.makes picture is small (subst IsName (sym name.1) name.0) (name.2 ∙ ap length (sym name.1)) some
    (subst (λ (s : Stored). IsVacant s.window.bytes s.types picture.names c.in-Some.name.bytes.now c.in-Err.vacant) c.heap.ensures vacant)) e
