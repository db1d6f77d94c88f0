use Rattle.std.proofs.Common.{◌≡◌, sym, subst, ℤ, w64}
use Rattle.std.proofs.lemmas.Int.{to_z-of_z}
use Rattle.lezgauri.specs.Place.{Place}
use Rattle.lezgauri.specs.Images.{bytes_in}
use Rattle.lezgauri_c.specs.Changes.{place_at, GivesPlace}
use Rattle.lezgauri_c.specs.ImageChanges.{Puts}
use Rattle.lezgauri_c.proofs.ChangeLaws.{calls, same_memory, same_types, opened_now}
use Rattle.lezgauri_c.proofs.PlaceChangeLaws.{stays_sound, put_stays}
use Rattle.lezgauri_c.proofs.changing_maps.lezgauri_raw_put.Goals as goal

pub returns-clause-puts : goal.returns-clause-puts
returns-clause-puts c =
    let opened = c.deref_mut.result.now.image in
    let on = opened_now c.deref_mut.ensures.value c.in-Ok.ensures.opened in
    let left = c.put-returned.new.self in
    let left_is : bytes_in left ≡ c.close_image.new.lent.bytes = sym c.close_image.ensures.bytes in
    subst (λ (p : Place). GivesPlace c.args.image.now.bytes c.close_image.new.lent.bytes c.args.types.now c.give.result c.args.value.now c.give.new.place (Puts p c.args.key)) c.place_at-map.ensures
    (subst (λ (z : ℤ). GivesPlace c.args.image.now.bytes c.close_image.new.lent.bytes c.args.types.now c.give.result c.args.value.now c.give.new.place (Puts c.place_at-map.result z)) (to_z-of_z w64 c.args.key c.ranges.key)
    (calls c.args.types.now opened left on.bytes left_is on.opened c.put-returned.result c.give.ensures.number c.give.ensures.told (record {
      bytes = c.put-returned.ensures.bytes;
      of_type = c.put-returned.ensures.of_type;
      other = c.put-returned.ensures.other;
      only_room = c.put-returned.ensures.code;
      puts = c.put-returned.ensures.puts;
      keeps = c.put-returned.ensures.keeps;
    })))

pub returns-clause-home : goal.returns-clause-home
returns-clause-home c = same_memory c.deref_mut.result.now.image c.put-returned.new.self (opened_now c.deref_mut.ensures.value c.in-Ok.ensures.opened).home c.put-returned.ensures.bytes c.close_image.ensures.home

pub returns-clause-sound : goal.returns-clause-sound
returns-clause-sound c =
    let place = place_at c.args.at c.args.type_id in
    stays_sound (returns-clause-puts c) place (λ opened left result it picture is_open reached. put_stays opened left place picture is_open reached c.args.key result it)

pub returns-clause-same : goal.returns-clause-same
returns-clause-same c =
    same_types c.args.types.now c.close_image.new.types c.deref_mut.result.now.image c.put-returned.new.self
    (opened_now c.deref_mut.ensures.value c.in-Ok.ensures.opened).types_are c.put-returned.ensures.bytes c.close_image.ensures.types
