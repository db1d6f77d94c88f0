use Rattle.std.proofs.Common.{◌≡◌, ◌+◌, take, Err, Some, None, refl, sym, ap, ◌∙◌, subst, arith}
use Rattle.std.proofs.lemmas.Result.{err_from_is_err_and}
use Rattle.seg_spec.specs.Block.{block_of, payload_end, IsOwnable}
use Rattle.seg_cells.specs.Places.{place_of}
use Rattle.seg_cells.specs.declared.place.Place.{Place}
use Rattle.seg_check.specs.Marks.{Known}
use Rattle.seg_check.specs.Turns.{EndsBy, places_in}
use Rattle.seg_check.specs.Turns.{in_block}
use Rattle.seg_check.specs.Resolving.{Advances}
use Rattle.seg_check.proofs.Queue.QueueStepLaws.{advance_none, ready_now, steps_refused}
use Rattle.seg_check.proofs.Queue.PlaceLoopLaws.{each_get, place_more, place_past, place_can, place_all}
use Rattle.seg_check.proofs.Queue.EntryLoopLaws.{few_places, no_value, is_read}
use Rattle.seg_check.proofs.image.TypedImage.check_block.Goals as goal
use Rattle.seg_check.proofs.image.TypedImage.check_block.Goals.{in-Some-value+in_ok-check_value, in_default-value}

none_some : (p : Place) → None ≡ Some p → ⊥
none_some p e = cc

same_some : (p q : Place) → Some p ≡ Some q → p ≡ q
same_some p q e = cc

pub loop-index-init : goal.loop-index-init
loop-index-init g c = record { taken = refl; so_far = (λ ready turn. advance_none c.args.self.now.bytes.bytes.now c.args.self.now.types.now c.args.claims.now) }

pub loop-index-preserved : goal.loop-index-preserved
loop-index-preserved g c =
    let bytes = c.args.self.now.bytes.bytes.now in
    let table = c.args.self.now.types.now in
    let old = c.args.claims.now in
    let mid = c.loop-index.claims in
    let i = c.loop-index.index in
    let entry = c.in-Some.entry in
    let places = places_in bytes table c.args.turn in
    elim c.match-value.branch [
      | in-Some-value+in_ok-check_value w ↦ record {
        taken = ap (λ (k : Known). k.taken) w.claims-is ∙ w.in_ok-check_value.ensures.taken ∙ c.loop-index.invariant.taken;
        so_far = (λ ready turn.
            let done = c.loop-index.invariant.so_far ready turn in
            let has = c.in-Some.ensures ready.is_table (subst (λ b. IsOwnable bytes table b) (sym c.block_of.ensures) turn.ownable) in
            let V = w.in-Some-value.value.type_id in
            let e = w.in-Some-value.ensures.held in
            let same = same_some w.in-Some-value.value _ (w.in-Some-value.ensures.value V e) in
            let read = is_read bytes table c.block_of.result entry has c.args.turn c.block_of.ensures ready.is_table turn i w.in-Some-value.value.at V c.loop-index-test.true e (ap (λ (p : Place). p.at) same) in
            let step = w.in_ok-check_value.ensures.steps (ready_now bytes table old mid _ ready done) read.known read.fits
            (in_block c.args.turn i turn.reached (each_get (EndsBy table (payload_end bytes (block_of c.args.turn.start))) places i _ turn.fits read.there) read.there) in
            let all = place_more bytes table old mid places i done w.check_value.new.claims (place_of w.in-Some-value.value) read.there step in
            subst (λ k. Advances bytes table old k (take (i + 1) places)) (sym w.claims-is) all);
      }
      | in_default-value w ↦ record {
        taken = ap (λ (k : Known). k.taken) w.claims-is ∙ c.loop-index.invariant.taken;
        so_far = (λ ready turn.
            let done = c.loop-index.invariant.so_far ready turn in
            let has = c.in-Some.ensures ready.is_table (subst (λ b. IsOwnable bytes table b) (sym c.block_of.ensures) turn.ownable) in
            let none = no_value bytes table c.block_of.result entry has c.args.turn c.block_of.ensures i (λ U e. none_some _ (sym w.in_default-value.is ∙ c.value.ensures.value U e)) in
            subst (λ k. Advances bytes table old k (take (i + 1) places)) (sym w.claims-is) (place_past bytes table old mid places i done none));
      }
    ]

pub returns-in_default-clause-steps : goal.returns-in_default-clause-steps
returns-in_default-clause-steps g c = λ ready turn.
    let bytes = c.args.self.now.bytes.bytes.now in
    let table = c.args.self.now.types.now in
    let none = c.in_default.ensures ready.is_table (subst (λ b. IsOwnable bytes table b) (sym c.block_of.ensures) turn.ownable) c.args.turn c.block_of.ensures in
    subst (λ ps. Advances bytes table c.args.claims.now c.args.claims.now ps) (sym none) (advance_none bytes table c.args.claims.now)

pub returns-in_err-check_value-clause-steps : goal.returns-in_err-check_value-clause-steps
returns-in_err-check_value-clause-steps g c = λ ready turn.
    let bytes = c.args.self.now.bytes.bytes.now in
    let table = c.args.self.now.types.now in
    let old = c.args.claims.now in
    let mid = c.loop-index.claims in
    let i = c.loop-index.index in
    let places = places_in bytes table c.args.turn in
    let done = c.loop-index.invariant.so_far ready turn in
    let has = c.in-Some.ensures ready.is_table (subst (λ b. IsOwnable bytes table b) (sym c.block_of.ensures) turn.ownable) in
    let V = c.in-Some-value.value.type_id in
    let held = c.in-Some-value.ensures.held in
    let value = same_some c.in-Some-value.value _ (c.in-Some-value.ensures.value V held) in
    let read = is_read bytes table c.block_of.result c.in-Some.entry has c.args.turn c.block_of.ensures ready.is_table turn i c.in-Some-value.value.at V c.loop-index-test.true held (ap (λ (p : Place). p.at) value) in
    let e = c.in_err-check_value.field-0.0 in
    let failed = err_from_is_err_and c.from_residual.result c.from_residual.ensures.1 in
    let same : failed.0 ≡ e = failed.2 in
    let wrong = c.in_err-check_value.ensures.steps (ready_now bytes table old mid _ ready done) read.known read.fits
    (in_block c.args.turn i turn.reached (each_get (EndsBy table (payload_end bytes (block_of c.args.turn.start))) places i _ turn.fits read.there) read.there) in
    steps_refused bytes table old c.check_value.new.claims places c.from_residual.result e _ (failed.1 ∙ ap Err same)
    (place_can bytes table old mid places i done (place_of c.in-Some-value.value) read.there)
    wrong.0 wrong.1

pub returns-clause-steps : goal.returns-clause-steps
returns-clause-steps g c = λ ready turn.
    let bytes = c.args.self.now.bytes.bytes.now in
    let table = c.args.self.now.types.now in
    let has = c.in-Some.ensures ready.is_table (subst (λ b. IsOwnable bytes table b) (sym c.block_of.ensures) turn.ownable) in
    let few = few_places bytes table c.block_of.result c.in-Some.entry has c.args.turn c.block_of.ensures in
    place_all bytes table c.args.claims.now c.loop-index.claims (places_in bytes table c.args.turn) c.loop-index.index (c.loop-index.invariant.so_far ready turn) (omega (arith, c.loop-index-test.false, few))
