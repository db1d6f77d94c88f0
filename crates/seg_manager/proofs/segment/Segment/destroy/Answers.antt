use Rattle.std.proofs.Common.{◌≡◌, ℕ, List, ◌++◌, ap, ◌∙◌, sym, subst, is_ok}
use Rattle.std.proofs.lemmas.Result.{MatchResult-at_ok, MatchResult-at_err}
use Rattle.seg_manager.specs.NamedObjects.{found_of, found_as}
use Rattle.seg_manager.proofs.NamedReads.{names_found, finds_in, listed_named}
use Rattle.seg_spec.specs.Types.{Table}
use Rattle.seg_spec.specs.Index.{Root}
use Rattle.seg_spec.specs.Spending.{killed}
use Rattle.seg_spec.specs.Frozen.{blocks_by}
use Rattle.seg_spec.specs.Shared.{names_each, named_each, left}
use Rattle.seg_spec.specs.Counting.{cells_in}
use Rattle.seg_spec.specs.Destroying.{Destroys}
use Rattle.seg_spec.specs.Clearing.{BesideShared}
use Rattle.seg_value.specs.Stored.{Stored}
use Rattle.seg_index.specs.Lists.{FindsNamesOf, IsOccupied, LeavesName}
use Rattle.seg_manager.specs.LeavingNamed.{IsUnlisted}
use Rattle.seg_manager.proofs.NamedLeaves.{is_found, first, unlisted, beside, lost}
use Rattle.seg_manager.proofs.segment.Segment.destroy.Goals as goal

pub returns-in_default-clause-tells : goal.returns-in_default-clause-tells
returns-in_default-clause-tells g c = λ picture is.
    let vacant = MatchResult-at_err _ _ c.in_default.field-0 c.in_default.is (c.look_up.ensures picture.names is.held.index_blocks (finds_in g.F.Fit.allocator c.args.self.now picture is c.heap.result.now c.heap.ensures)) in
    sym (ap (λ o. is_ok (found_as c.args.t o)) vacant.missing)

pub returns-in_default-named_object-clause-tells : goal.returns-in_default-named_object-clause-tells
returns-in_default-named_object-clause-tells g c = λ picture is.
    let it = MatchResult-at_ok _ _ c.in-Ok.occupied c.in-Ok.is (c.look_up.ensures picture.names is.held.index_blocks (finds_in g.F.Fit.allocator c.args.self.now picture is c.heap.result.now c.heap.ensures)) in
    let l = listed_named g.F.Fit.allocator c.args.self.now picture is c.args.name.now it.0 it.1.found in
    let found = c.named_object.ensures it.0 l.0 l.1 (c.entry.ensures ∙ it.1.entry_is) in
    sym (ap is_ok c.in_default-named_object.is) ∙ ap is_ok found ∙ sym (ap (λ o. is_ok (found_as c.args.t o)) it.1.found)

pub returns-clause-tells : goal.returns-clause-tells
returns-clause-tells g c = λ picture is.
    let it = MatchResult-at_ok _ _ c.in-Ok.occupied c.in-Ok.is (c.look_up.ensures picture.names is.held.index_blocks (finds_in g.F.Fit.allocator c.args.self.now picture is c.heap.result.now c.heap.ensures)) in
    let l = listed_named g.F.Fit.allocator c.args.self.now picture is c.args.name.now it.0 it.1.found in
    let found = c.named_object.ensures it.0 l.0 l.1 (c.entry.ensures ∙ it.1.entry_is) in
    sym (ap is_ok c.in-Ok-named_object.is) ∙ ap is_ok found ∙ sym (ap (λ o. is_ok (found_as c.args.t o)) it.1.found)

pub returns-clause-loses : goal.returns-clause-loses
returns-clause-loses g c = λ picture is done.
    let a = g.F.Fit.allocator in
    let old = c.args.self.now in
    let mid = c.remove.new.heap in
    let new = c.destroy_named.new.self in
    let name = c.args.name.now in
    let T = c.args.t in
    let occupied = c.in-Ok.occupied in
    let found = c.in-Ok-named_object.found in
    let it = MatchResult-at_ok _ _ occupied c.in-Ok.is (c.look_up.ensures picture.names is.held.index_blocks (finds_in a old picture is c.heap.result.now c.heap.ensures)) in
    let root = it.0 in
    let l = listed_named a old picture is name root it.1.found in
    let says = is_found T root found (sym c.in-Ok-named_object.is ∙ c.named_object.ensures root l.0 l.1 (c.entry.ensures ∙ it.1.entry_is)) in
    let there = subst (λ (s : Stored). IsOccupied s.window.bytes s.types picture.names name root occupied) c.heap.ensures it.1 in
    let Leaves : Stored → Type 0 = λ s. (names : List Root) (blocks : List ℕ) → FindsNamesOf a s.window.bytes s.types names blocks → (name : List ℕ) (root : Root) → IsOccupied s.window.bytes s.types names name root occupied
    → LeavesName s.window.bytes mid.window.bytes s.types names blocks root in
    let leaves = subst Leaves c.heap_mut.ensures.value c.remove.ensures.leaves in
    let e = subst (λ t. LeavesName old.window.bytes mid.window.bytes t picture.names is.held.index_blocks root) is.table_is
    (leaves picture.names is.held.index_blocks (names_found a old picture is) name root there) in
    let mid_types : mid.types ≡ old.types = c.remove.ensures.types ∙ ap (λ (s : Stored). s.types) c.heap_mut.ensures.value in
    let Leaves : Table → Type 0 = λ t. (root : Root) (blocks : List ℕ) → IsUnlisted a mid.window.bytes t root blocks → found ≡ found_of root → root.type ≡ T
    → BesideShared mid.window.bytes t blocks (named_each root.values) (λ theirs now. Destroys a mid.window.bytes new.window.bytes t (blocks ++ blocks_by theirs now) theirs) in
    let destroys = subst Leaves (mid_types ∙ is.table_is) c.destroy_named.ensures.frees in
    let gone = names_each root.values in
    let o = first a old mid picture is root e in
    let g = destroys root o.apart.firsts (unlisted a old mid picture is root e) says.found_is says.type_is o.theirs (cells_in (e.before ++ (e.after ++ (picture.uniques ++ picture.loose)))) picture.frozen
    (left gone picture.frozen) (beside a old mid picture is root e) in
    lost a old mid picture is root e new (c.destroy_named.ensures.types ∙ mid_types) g name T (ap (λ o. killed o T) it.1.found ∙ says.is_killed)
