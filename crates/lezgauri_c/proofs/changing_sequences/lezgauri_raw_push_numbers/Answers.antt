use Rattle.std.proofs.Common.{◌≡◌, length, sym, subst}
use Rattle.lezgauri.specs.Place.{Place}
use Rattle.lezgauri.specs.Images.{bytes_in}
use Rattle.lezgauri_c.specs.Changes.{place_at, GivesCount}
use Rattle.lezgauri_c.specs.ImageChanges.{PushesItems}
use Rattle.lezgauri_c.proofs.ChangeLaws.{calls, same_memory, same_types, opened_now}
use Rattle.lezgauri_c.proofs.PlaceChangeLaws.{stays_sound, push_numbers_stays, tells_no_vector}
use Rattle.lezgauri_c.proofs.changing_sequences.lezgauri_raw_push_numbers.Goals as goal

pub returns-clause-pushes : goal.returns-clause-pushes
returns-clause-pushes c =
    let opened = c.deref_mut.result.now.image in
    let on = opened_now c.deref_mut.ensures.value c.in-Ok.ensures.opened in
    let left = c.push_numbers-returned.new.image in
    let left_is : bytes_in left ≡ c.close_image.new.lent.bytes = sym c.close_image.ensures.bytes in
    let numbers = c.args.numbers.now in
    subst (λ (p : Place). GivesCount c.args.image.now.bytes c.close_image.new.lent.bytes c.args.types.now c.give_count.result c.give_count.new.count (length numbers) (PushesItems p numbers)) c.place_at-vector.ensures
    (calls c.args.types.now opened left on.bytes left_is on.opened c.push_numbers-returned.result c.give_count.ensures.number c.give_count.ensures.told c.push_numbers-returned.ensures)

pub returns-clause-other : goal.returns-clause-other
returns-clause-other c = tells_no_vector (returns-clause-pushes c)

pub returns-clause-home : goal.returns-clause-home
returns-clause-home c =
    same_memory c.deref_mut.result.now.image c.push_numbers-returned.new.image (opened_now c.deref_mut.ensures.value c.in-Ok.ensures.opened).home c.push_numbers-returned.ensures.bytes c.close_image.ensures.home

pub returns-clause-sound : goal.returns-clause-sound
returns-clause-sound c =
    let place = place_at c.args.at c.args.type_id in
    stays_sound (returns-clause-pushes c) place (λ opened left result it picture is_open reached. push_numbers_stays opened left place picture is_open reached c.args.numbers.now result it)

pub returns-clause-same : goal.returns-clause-same
returns-clause-same c =
    same_types c.args.types.now c.close_image.new.types c.deref_mut.result.now.image c.push_numbers-returned.new.image
    (opened_now c.deref_mut.ensures.value c.in-Ok.ensures.opened).types_are c.push_numbers-returned.ensures.bytes c.close_image.ensures.types
