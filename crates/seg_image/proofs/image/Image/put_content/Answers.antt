use Rattle.std.proofs.Common.{◌≡◌, ℕ, ◌∷◌, Some, sym, ap, ◌∙◌, subst}
use Rattle.std.specs.Prelude.{MatchResult}
use Rattle.seg_spec.specs.Clearing.{BesideShared}
use Rattle.seg_spec.specs.Shared.{named_in}
use Rattle.seg_spec.specs.Types.{Form, form_at}
use Rattle.seg_value.specs.CellPlaces.{place_of}
use Rattle.seg_manager.specs.Segments.{one_value}
use Rattle.seg_seq.specs.Sequences.{LacksRoom}
use Rattle.seg_image.specs.Owners.{PutsNew}
use Rattle.seg_image.specs.Places.{object_type}
use Rattle.seg_image.proofs.image.Image.put_content.Goals as goal

pub returns-in-Seq-clause-puts : goal.returns-in-Seq-clause-puts
returns-in-Seq-clause-puts g c = rw (c.in-Seq.is, ← c.heap_mut.ensures.value, c.placed.ensures.position) (λ U v blocks form stands.
    let old = c.heap_mut.result.now in
    let new = c.put_new.new.heap in
    let typed = rw (c.in-Seq.is, ← c.heap_mut.ensures.value) at c.in_ok-object.ensures in
    let both : Some c.in_ok-object.object ≡ Some U = sym typed ∙ ap object_type form in
    let same : c.in_ok-object.object ≡ U = cc in
    subst (λ (u : ℕ). MatchResult c.put_new.result
    (λ at. BesideShared old.window.bytes old.types (stands.home ∷ blocks) (named_in v) (PutsNew 0 old.window.bytes new.window.bytes old.types (place_of c.args.own) u blocks at))
    (LacksRoom 0 old new (one_value old.types u)))
    same (c.put_new.ensures.puts v blocks (subst (λ (u : ℕ). form_at old.types c.args.own.type_id ≡ Some (Form.own u)) (sym same) form) stands))

pub returns-in-Best-clause-puts : goal.returns-in-Best-clause-puts
returns-in-Best-clause-puts g c = rw (c.in-Best.is, ← c.heap_mut-in-Best.ensures.value, c.placed-in-Best.ensures.position) (λ U v blocks form stands.
    let old = c.heap_mut-in-Best.result.now in
    let new = c.put_new-in-Best.new.heap in
    let typed = rw (c.in-Best.is, ← c.heap_mut-in-Best.ensures.value) at c.in_ok-object.ensures in
    let both : Some c.in_ok-object.object ≡ Some U = sym typed ∙ ap object_type form in
    let same : c.in_ok-object.object ≡ U = cc in
    subst (λ (u : ℕ). MatchResult c.put_new-in-Best.result
    (λ at. BesideShared old.window.bytes old.types (stands.home ∷ blocks) (named_in v) (PutsNew 1 old.window.bytes new.window.bytes old.types (place_of c.args.own) u blocks at))
    (LacksRoom 1 old new (one_value old.types u)))
    same (c.put_new-in-Best.ensures.puts v blocks (subst (λ (u : ℕ). form_at old.types c.args.own.type_id ≡ Some (Form.own u)) (sym same) form) stands))
