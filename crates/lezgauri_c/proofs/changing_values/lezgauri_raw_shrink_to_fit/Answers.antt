use Rattle.std.proofs.Common.{◌≡◌, sym, subst}
use Rattle.lezgauri.specs.Place.{Place}
use Rattle.lezgauri.specs.Images.{bytes_in}
use Rattle.lezgauri_c.specs.Changes.{place_at, IsDone}
use Rattle.lezgauri_c.specs.ImageChanges.{ShrinksBuffer}
use Rattle.lezgauri_c.proofs.ChangeLaws.{calls, same_memory, same_types, opened_now}
use Rattle.lezgauri_c.proofs.PlaceChangeLaws.{stays_sound, shrink_stays}
use Rattle.lezgauri_c.proofs.changing_values.lezgauri_raw_shrink_to_fit.Goals as goal

pub returns-clause-shrinks : goal.returns-clause-shrinks
returns-clause-shrinks c =
    let opened = c.deref_mut.result.now.image in
    let on = opened_now c.deref_mut.ensures.value c.in-Ok.ensures.opened in
    let left = c.shrink_to_fit-returned.new.self in
    let left_is : bytes_in left ≡ c.close_image.new.lent.bytes = sym c.close_image.ensures.bytes in
    subst (λ (p : Place). IsDone c.args.image.now.bytes c.close_image.new.lent.bytes c.args.types.now c.done.result (ShrinksBuffer p)) c.place_at-container.ensures
    (calls c.args.types.now opened left on.bytes left_is on.opened c.shrink_to_fit-returned.result c.done.ensures.number c.done.ensures.told (record {
      bytes = c.shrink_to_fit-returned.ensures.bytes;
      shrinks = c.shrink_to_fit-returned.ensures.shrinks;
      done = c.shrink_to_fit-returned.ensures.done;
      other = c.shrink_to_fit-returned.ensures.other;
    }))

pub returns-clause-home : goal.returns-clause-home
returns-clause-home c = same_memory c.deref_mut.result.now.image c.shrink_to_fit-returned.new.self (opened_now c.deref_mut.ensures.value c.in-Ok.ensures.opened).home c.shrink_to_fit-returned.ensures.bytes c.close_image.ensures.home

pub returns-clause-sound : goal.returns-clause-sound
returns-clause-sound c =
    let place = place_at c.args.at c.args.type_id in
    stays_sound (returns-clause-shrinks c) place (λ opened left result it picture is_open reached. shrink_stays opened left place picture is_open reached result it)

pub returns-clause-same : goal.returns-clause-same
returns-clause-same c =
    same_types c.args.types.now c.close_image.new.types c.deref_mut.result.now.image c.shrink_to_fit-returned.new.self
    (opened_now c.deref_mut.ensures.value c.in-Ok.ensures.opened).types_are c.shrink_to_fit-returned.ensures.bytes c.close_image.ensures.types
