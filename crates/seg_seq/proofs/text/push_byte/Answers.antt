use Rattle.std.proofs.Common.{◌≡◌, ◌+◌, ◌++◌, ◌∷◌, [], length, IfOk, refl, subst}
use Rattle.seg_cells.specs.Places.{place_of}
use Rattle.seg_value.specs.Stored.{Stored}
use Rattle.seg_seq.specs.Sequences.{HasText, Rewrites}
use Rattle.seg_value.proofs.Stores.{same_stored}
use Rattle.seg_seq.proofs.text.push_byte.Goals as goal

pub returns-in-Some-clause-length : goal.returns-in-Some-clause-length
returns-in-Some-clause-length g c = λ xs blocks t. (c.in-Some.ensures.text xs blocks t).0

pub returns-in-None-clause-text : goal.returns-in-None-clause-text
returns-in-None-clause-text g c =
    let text = place_of c.args.text in
    let stays = same_stored c.push_byte_in_place.new.heap c.args.heap.now (c.in-None.ensures.none refl) c.in-None.ensures.types in
    λ xs blocks t. subst (λ (s : Stored). HasText g.F.Fit.allocator s text xs blocks → Rewrites g.F.Fit.allocator s c.push_byte_asking.new.heap text (length xs + 1) (xs ++ c.args.byte ∷ []) blocks c.push_byte_asking.result)
    stays (c.push_byte_asking.ensures.text xs blocks) t

pub returns-in-None-clause-length : goal.returns-in-None-clause-length
returns-in-None-clause-length g c =
    let text = place_of c.args.text in
    let stays = same_stored c.push_byte_in_place.new.heap c.args.heap.now (c.in-None.ensures.none refl) c.in-None.ensures.types in
    λ xs blocks t. subst (λ (s : Stored). HasText g.F.Fit.allocator s text xs blocks → IfOk c.push_byte_asking.result (λ n. n ≡ length xs + 1)) stays (c.push_byte_asking.ensures.length xs blocks) t
