use Rattle.std.proofs.Common.{◌≡◌, length, sym, subst}
use Rattle.lezgauri.specs.Place.{Place}
use Rattle.lezgauri.specs.Images.{bytes_in}
use Rattle.lezgauri_c.specs.Changes.{place_at, GivesCount}
use Rattle.lezgauri_c.specs.ImageChanges.{PutsEntries}
use Rattle.lezgauri_c.proofs.ChangeLaws.{calls, same_memory, same_types, opened_now}
use Rattle.lezgauri_c.proofs.PlaceChangeLaws.{stays_sound, put_numbers_stays, tells_no_map}
use Rattle.lezgauri_c.proofs.changing_maps.lezgauri_raw_put_numbers.Goals as goal

pub returns-clause-puts : goal.returns-clause-puts
returns-clause-puts c =
    let opened = c.deref_mut.result.now.image in
    let on = opened_now c.deref_mut.ensures.value c.in-Ok.ensures.opened in
    let left = c.put_numbers-returned.new.self in
    let left_is : bytes_in left ≡ c.close_image.new.lent.bytes = sym c.close_image.ensures.bytes in
    let entries = c.args.entries.now in
    subst (λ (p : Place). GivesCount c.args.image.now.bytes c.close_image.new.lent.bytes c.args.types.now c.give_count.result c.give_count.new.count (length entries) (PutsEntries p entries)) c.place_at-map.ensures
    (calls c.args.types.now opened left on.bytes left_is on.opened c.put_numbers-returned.result c.give_count.ensures.number c.give_count.ensures.told (record {
      bytes = c.put_numbers-returned.ensures.bytes;
      puts = c.put_numbers-returned.ensures.puts;
      other = c.put_numbers-returned.ensures.other;
    }))

pub returns-clause-other : goal.returns-clause-other
returns-clause-other c = tells_no_map (returns-clause-puts c)

pub returns-clause-home : goal.returns-clause-home
returns-clause-home c =
    same_memory c.deref_mut.result.now.image c.put_numbers-returned.new.self (opened_now c.deref_mut.ensures.value c.in-Ok.ensures.opened).home c.put_numbers-returned.ensures.bytes c.close_image.ensures.home

pub returns-clause-sound : goal.returns-clause-sound
returns-clause-sound c =
    let place = place_at c.args.at c.args.type_id in
    stays_sound (returns-clause-puts c) place (λ opened left result it picture is_open reached. put_numbers_stays opened left place picture is_open reached c.args.entries.now result it)

pub returns-clause-same : goal.returns-clause-same
returns-clause-same c =
    same_types c.args.types.now c.close_image.new.types c.deref_mut.result.now.image c.put_numbers-returned.new.self
    (opened_now c.deref_mut.ensures.value c.in-Ok.ensures.opened).types_are c.put_numbers-returned.ensures.bytes c.close_image.ensures.types
