use Rattle.std.proofs.Common.{◌≡◌, sym, subst}
use Rattle.lezgauri.specs.Place.{Place}
use Rattle.lezgauri.specs.Images.{bytes_in}
use Rattle.lezgauri_c.specs.Changes.{place_at, GivesPlace}
use Rattle.lezgauri_c.specs.ImageChanges.{PushesItemBack}
use Rattle.lezgauri_c.proofs.ChangeLaws.{calls, same_memory, same_types, opened_now}
use Rattle.lezgauri_c.proofs.PlaceChangeLaws.{stays_sound, push_back_stays}
use Rattle.lezgauri_c.proofs.changing_sequences.lezgauri_raw_push_back.Goals as goal

pub returns-clause-pushes : goal.returns-clause-pushes
returns-clause-pushes c =
    let opened = c.deref_mut.result.now.image in
    let on = opened_now c.deref_mut.ensures.value c.in-Ok.ensures.opened in
    let left = c.push_back-returned.new.self in
    let left_is : bytes_in left ≡ c.close_image.new.lent.bytes = sym c.close_image.ensures.bytes in
    subst (λ (p : Place). GivesPlace c.args.image.now.bytes c.close_image.new.lent.bytes c.args.types.now c.give.result c.args.item.now c.give.new.place (PushesItemBack p)) c.place_at-sequence.ensures
    (calls c.args.types.now opened left on.bytes left_is on.opened c.push_back-returned.result c.give.ensures.number c.give.ensures.told (record {
      bytes = c.push_back-returned.ensures.bytes;
      of_type = c.push_back-returned.ensures.of_type;
      vector = c.push_back-returned.ensures.vector;
      list = c.push_back-returned.ensures.list;
      other = c.push_back-returned.ensures.other;
    }))

pub returns-clause-home : goal.returns-clause-home
returns-clause-home c = same_memory c.deref_mut.result.now.image c.push_back-returned.new.self (opened_now c.deref_mut.ensures.value c.in-Ok.ensures.opened).home c.push_back-returned.ensures.bytes c.close_image.ensures.home

pub returns-clause-sound : goal.returns-clause-sound
returns-clause-sound c =
    let place = place_at c.args.at c.args.type_id in
    stays_sound (returns-clause-pushes c) place (λ opened left result it picture is_open reached. push_back_stays opened left place picture is_open reached result it)

pub returns-clause-same : goal.returns-clause-same
returns-clause-same c =
    same_types c.args.types.now c.close_image.new.types c.deref_mut.result.now.image c.push_back-returned.new.self
    (opened_now c.deref_mut.ensures.value c.in-Ok.ensures.opened).types_are c.push_back-returned.ensures.bytes c.close_image.ensures.types
