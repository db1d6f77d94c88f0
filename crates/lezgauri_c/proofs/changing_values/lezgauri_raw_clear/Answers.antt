use Rattle.std.proofs.Common.{◌≡◌, sym, subst}
use Rattle.lezgauri.specs.Place.{Place}
use Rattle.lezgauri.specs.Images.{bytes_in}
use Rattle.lezgauri_c.specs.Changes.{place_at, IsDone}
use Rattle.lezgauri_c.specs.ImageChanges.{Clears}
use Rattle.lezgauri_c.proofs.ChangeLaws.{calls, same_memory, same_types, opened_now}
use Rattle.lezgauri_c.proofs.PlaceChangeLaws.{stays_sound, clear_stays}
use Rattle.lezgauri_c.proofs.changing_values.lezgauri_raw_clear.Goals as goal

pub returns-clause-clears : goal.returns-clause-clears
returns-clause-clears c =
    let opened = c.deref_mut.result.now.image in
    let on = opened_now c.deref_mut.ensures.value c.in-Ok.ensures.opened in
    let left = c.clear-returned.new.self in
    let left_is : bytes_in left ≡ c.close_image.new.lent.bytes = sym c.close_image.ensures.bytes in
    subst (λ (p : Place). IsDone c.args.image.now.bytes c.close_image.new.lent.bytes c.args.types.now c.done.result (Clears p)) c.place_at-value.ensures
    (calls c.args.types.now opened left on.bytes left_is on.opened c.clear-returned.result c.done.ensures.number c.done.ensures.told (record {
      bytes = c.clear-returned.ensures.bytes;
      known = c.clear-returned.ensures.known;
      unknown = c.clear-returned.ensures.unknown;
      cleared = c.clear-returned.ensures.cleared;
    }))

pub returns-clause-home : goal.returns-clause-home
returns-clause-home c = same_memory c.deref_mut.result.now.image c.clear-returned.new.self (opened_now c.deref_mut.ensures.value c.in-Ok.ensures.opened).home c.clear-returned.ensures.bytes c.close_image.ensures.home

pub returns-clause-sound : goal.returns-clause-sound
returns-clause-sound c =
    let place = place_at c.args.at c.args.type_id in
    stays_sound (returns-clause-clears c) place (λ opened left result it picture is_open reached. clear_stays opened left place picture is_open reached result it)

pub returns-clause-same : goal.returns-clause-same
returns-clause-same c =
    same_types c.args.types.now c.close_image.new.types c.deref_mut.result.now.image c.clear-returned.new.self
    (opened_now c.deref_mut.ensures.value c.in-Ok.ensures.opened).types_are c.clear-returned.ensures.bytes c.close_image.ensures.types
