use Rattle.std.proofs.Common.{◌≡◌, ◌≤◌, length, Err, ap, ◌∙◌, sym, subst, refl, arith}
use Rattle.seg_spec.specs.Index.{IsName, root_named}
use Rattle.std.proofs.lemmas.Result.{MatchResult-at_ok, MatchResult-at_err}
use Rattle.seg_raw.specs.declared.code.Code.TheVariants as code
use Rattle.seg_value.specs.Stored.{Stored}
use Rattle.seg_index.specs.Lists.{IsVacant}
use Rattle.seg_manager.proofs.NamedReads.{finds_in, listed_named}
use Rattle.seg_manager.proofs.NamedResultLaws.{made_missing, made_as, lacks_as, not_both, was_other, found_is, other_is}
use Rattle.seg_manager.proofs.segment.Segment.find_or_construct.Goals as goal

pub returns-in_default-clause-tells : goal.returns-in_default-clause-tells
returns-in_default-clause-tells g c = λ picture is.
    let vacant = MatchResult-at_err _ _ _ c.in-Err.is (c.look_up.ensures picture.names is.held.index_blocks (finds_in g.F.Fit.allocator c.args.self.now picture is c.heap.result.now c.heap.ensures)) in
    (vacant.missing, c.in_default.ensures.none, refl)

pub returns-in-Ok-named_object-clause-tells : goal.returns-in-Ok-named_object-clause-tells
returns-in-Ok-named_object-clause-tells g c = λ picture is.
    let it = MatchResult-at_ok _ _ _ c.in-Ok.is (c.look_up.ensures picture.names is.held.index_blocks (finds_in g.F.Fit.allocator c.args.self.now picture is c.heap.result.now c.heap.ensures)) in
    let l = listed_named g.F.Fit.allocator c.args.self.now picture is c.args.name.now it.0 it.1.found in
    found_is c.args.t it.0 c.args.self.now picture.names c.args.name.now c.in-Ok-named_object.found it.1.found (sym c.in-Ok-named_object.is ∙ c.named_object.ensures it.0 l.0 l.1 (c.entry.ensures ∙ it.1.entry_is))

pub returns-in-Err-named_object-clause-tells : goal.returns-in-Err-named_object-clause-tells
returns-in-Err-named_object-clause-tells g c = λ picture is.
    let it = MatchResult-at_ok _ _ _ c.in-Ok.is (c.look_up.ensures picture.names is.held.index_blocks (finds_in g.F.Fit.allocator c.args.self.now picture is c.heap.result.now c.heap.ensures)) in
    let l = listed_named g.F.Fit.allocator c.args.self.now picture is c.args.name.now it.0 it.1.found in
    other_is c.args.t it.0 c.args.self.now picture.names c.args.name.now c.in-Err-named_object.code it.1.found (sym c.in-Err-named_object.is ∙ c.named_object.ensures it.0 l.0 l.1 (c.entry.ensures ∙ it.1.entry_is))

pub returns-in-Some-clause-tells : goal.returns-in-Some-clause-tells
returns-in-Some-clause-tells g c = λ picture is.
    let vacant = MatchResult-at_err _ _ _ c.in-Err.is (c.look_up.ensures picture.names is.held.index_blocks (finds_in g.F.Fit.allocator c.args.self.now picture is c.heap.result.now c.heap.ensures)) in
    made_missing c.construct_at.result c.args.self.now c.construct_at.new.self picture.names c.args.name.now c.args.t c.construct_at.ensures.code (c.in-Some.ensures.name.0, vacant.missing)

pub returns-in-Ok-named_object-clause-makes : goal.returns-in-Ok-named_object-clause-makes
returns-in-Ok-named_object-clause-makes g c = λ picture is small none.
    let it = MatchResult-at_ok _ _ _ c.in-Ok.is (c.look_up.ensures picture.names is.held.index_blocks (finds_in g.F.Fit.allocator c.args.self.now picture is c.heap.result.now c.heap.ensures)) in
    absurd (not_both (root_named picture.names c.args.name.now) it.0 none it.1.found)

pub returns-in-Some-clause-makes : goal.returns-in-Some-clause-makes
returns-in-Some-clause-makes g c = λ picture is small none.
    let name = c.in-Some.ensures.name in
    let vacant = MatchResult-at_err _ _ _ c.in-Err.is (c.look_up.ensures picture.names is.held.index_blocks (finds_in g.F.Fit.allocator c.args.self.now picture is c.heap.result.now c.heap.ensures)) in
    let some : 1 ≤ 1 = omega arith in
    let here = subst (λ (s : Stored). IsVacant s.window.bytes s.types picture.names c.args.name.now c.in-Err.vacant) c.heap.ensures vacant in
    made_as g.F.Fit.allocator c.args.self.now c.construct_at.new.self picture is.held.index_blocks c.args.t c.construct_at.result c.args.name.now c.in-Some.name.bytes.now 1 1 name.1 refl
    (c.construct_at.ensures.makes picture is small (subst IsName (sym name.1) name.0) (name.2 ∙ ap length (sym name.1)) some
    (subst (λ n. IsVacant c.args.self.now.window.bytes c.args.self.now.types picture.names n c.in-Err.vacant) (sym name.1) here))

pub returns-in-Some-clause-no_room : goal.returns-in-Some-clause-no_room
returns-in-Some-clause-no_room g c = λ picture is small e.
    let name = c.in-Some.ensures.name in
    let vacant = MatchResult-at_err _ _ _ c.in-Err.is (c.look_up.ensures picture.names is.held.index_blocks (finds_in g.F.Fit.allocator c.args.self.now picture is c.heap.result.now c.heap.ensures)) in
    let some : 1 ≤ 1 = omega arith in
    let here = subst (λ (s : Stored). IsVacant s.window.bytes s.types picture.names c.args.name.now c.in-Err.vacant) c.heap.ensures vacant in
    lacks_as g.F.Fit.allocator c.args.self.now c.construct_at.new.self picture is.held.index_blocks c.args.t c.construct_at.result c.args.name.now c.in-Some.name.bytes.now 1 1 name.1 refl
    (c.construct_at.ensures.makes picture is small (subst IsName (sym name.1) name.0) (name.2 ∙ ap length (sym name.1)) some
    (subst (λ n. IsVacant c.args.self.now.window.bytes c.args.self.now.types picture.names n c.in-Err.vacant) (sym name.1) here)) e

pub returns-in-Err-named_object-clause-no_room : goal.returns-in-Err-named_object-clause-no_room
returns-in-Err-named_object-clause-no_room g c = λ picture is small e.
    let it = MatchResult-at_ok _ _ _ c.in-Ok.is (c.look_up.ensures picture.names is.held.index_blocks (finds_in g.F.Fit.allocator c.args.self.now picture is c.heap.result.now c.heap.ensures)) in
    let l = listed_named g.F.Fit.allocator c.args.self.now picture is c.args.name.now it.0 it.1.found in
    let other = was_other c.args.t it.0 c.in-Err-named_object.code (sym c.in-Err-named_object.is ∙ c.named_object.ensures it.0 l.0 l.1 (c.entry.ensures ∙ it.1.entry_is)) in
    absurd (let f : Err c.in-Err-named_object.code ≡ Err code.BadAlloc = e in cc)
