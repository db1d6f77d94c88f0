use Rattle.std.proofs.Common.{◌≡◌, sym, subst, ℕ}
use Rattle.lezgauri.specs.Images.{bytes_in}
use Rattle.lezgauri_c.specs.Changes.{GivesPlace}
use Rattle.lezgauri_c.specs.ImageChanges.{FindsOrConstructsUnique}
use Rattle.lezgauri_c.proofs.ChangeLaws.{calls, still_sound, still_same, same_memory, same_types, opened_now}
use Rattle.lezgauri_c.proofs.UniqueChangeLaws.{find_unique_sound, find_unique_kept}
use Rattle.lezgauri_c.proofs.changing_uniques.lezgauri_raw_find_or_construct_unique.Goals as goal

pub returns-clause-finds : goal.returns-clause-finds
returns-clause-finds c =
    let opened = c.deref_mut.result.now.image in
    let on = opened_now c.deref_mut.ensures.value c.in-Ok.ensures.opened in
    let left = c.find_or_construct_unique-returned.new.self in
    let left_is : bytes_in left ≡ c.close_image.new.lent.bytes = sym c.close_image.ensures.bytes in
    subst (λ (T : ℕ). GivesPlace c.args.image.now.bytes c.close_image.new.lent.bytes c.args.types.now c.give.result c.args.place.now c.give.new.place (FindsOrConstructsUnique T)) c.type_number-t.ensures
    (calls c.args.types.now opened left on.bytes left_is on.opened c.find_or_construct_unique-returned.result c.give.ensures.number c.give.ensures.told (record {
      bytes = c.find_or_construct_unique-returned.ensures.bytes;
      of_type = c.find_or_construct_unique-returned.ensures.of_type;
      unknown = c.find_or_construct_unique-returned.ensures.unknown;
      makes = c.find_or_construct_unique-returned.ensures.makes;
    }))

pub returns-clause-sound : goal.returns-clause-sound
returns-clause-sound c =
    let opened = c.deref_mut.result.now.image in
    let on = opened_now c.deref_mut.ensures.value c.in-Ok.ensures.opened in
    let left = c.find_or_construct_unique-returned.new.self in
    let left_is : bytes_in left ≡ c.close_image.new.lent.bytes = sym c.close_image.ensures.bytes in
    let it : FindsOrConstructsUnique c.type_number-t.result opened left c.find_or_construct_unique-returned.result = record {
      bytes = c.find_or_construct_unique-returned.ensures.bytes;
      of_type = c.find_or_construct_unique-returned.ensures.of_type;
      unknown = c.find_or_construct_unique-returned.ensures.unknown;
      makes = c.find_or_construct_unique-returned.ensures.makes;
    } in
    still_sound c.args.types.now opened left on.bytes left_is on.opened
    (λ picture held none. find_unique_sound opened left picture held c.type_number-t.result c.find_or_construct_unique-returned.result it none)

pub returns-clause-kept : goal.returns-clause-kept
returns-clause-kept c some sound same =
    let opened = c.deref_mut.result.now.image in
    let on = opened_now c.deref_mut.ensures.value c.in-Ok.ensures.opened in
    let left = c.find_or_construct_unique-returned.new.self in
    let left_is : bytes_in left ≡ c.close_image.new.lent.bytes = sym c.close_image.ensures.bytes in
    let it : FindsOrConstructsUnique c.type_number-t.result opened left c.find_or_construct_unique-returned.result = record {
      bytes = c.find_or_construct_unique-returned.ensures.bytes;
      of_type = c.find_or_construct_unique-returned.ensures.of_type;
      unknown = c.find_or_construct_unique-returned.ensures.unknown;
      makes = c.find_or_construct_unique-returned.ensures.makes;
    } in
    still_same c.args.types.now opened left on.bytes left_is on.opened
    (λ picture held. find_unique_kept opened left picture held c.type_number-t.result c.give.result c.args.place.now c.give.new.place c.find_or_construct_unique-returned.result c.give.ensures.told some it) sound same

pub returns-clause-home : goal.returns-clause-home
returns-clause-home c =
    same_memory c.deref_mut.result.now.image c.find_or_construct_unique-returned.new.self
    (opened_now c.deref_mut.ensures.value c.in-Ok.ensures.opened).home c.find_or_construct_unique-returned.ensures.bytes c.close_image.ensures.home

pub returns-clause-same : goal.returns-clause-same
returns-clause-same c =
    same_types c.args.types.now c.close_image.new.types c.deref_mut.result.now.image c.find_or_construct_unique-returned.new.self
    (opened_now c.deref_mut.ensures.value c.in-Ok.ensures.opened).types_are c.find_or_construct_unique-returned.ensures.bytes c.close_image.ensures.types
