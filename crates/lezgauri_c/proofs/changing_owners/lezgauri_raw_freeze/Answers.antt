use Rattle.std.proofs.Common.{◌≡◌, sym, subst}
use Rattle.lezgauri.specs.Place.{Place}
use Rattle.lezgauri.specs.Images.{bytes_in}
use Rattle.lezgauri_c.specs.Changes.{IsDone, place_at}
use Rattle.lezgauri_c.specs.ImageChanges.{FreezesInto}
use Rattle.lezgauri_c.proofs.ChangeLaws.{calls, same_memory, same_types, opened_now}
use Rattle.lezgauri_c.proofs.changing_owners.lezgauri_raw_freeze.Goals as goal

pub returns-clause-freezes : goal.returns-clause-freezes
returns-clause-freezes c =
    let opened = c.deref_mut.result.now.image in
    let on = opened_now c.deref_mut.ensures.value c.in-Ok.ensures.opened in
    let left = c.freeze-returned.new.self in
    let left_is : bytes_in left ≡ c.close_image.new.lent.bytes = sym c.close_image.ensures.bytes in
    subst (λ (p : Place). IsDone c.args.image.now.bytes c.close_image.new.lent.bytes c.args.types.now c.done.result (FreezesInto p (place_at c.args.to_at c.args.to_type_id))) c.place_at-owner.ensures
    (subst (λ (q : Place). IsDone c.args.image.now.bytes c.close_image.new.lent.bytes c.args.types.now c.done.result (FreezesInto c.place_at-owner.result q)) c.place_at-shared.ensures
    (calls c.args.types.now opened left on.bytes left_is on.opened c.freeze-returned.result c.done.ensures.number c.done.ensures.told (record {
      bytes = c.freeze-returned.ensures.bytes;
      other = c.freeze-returned.ensures.other;
      empty = c.freeze-returned.ensures.empty;
      used_up = c.freeze-returned.ensures.used_up;
      only_room = c.freeze-returned.ensures.code;
      freezes = c.freeze-returned.ensures.freezes;
    })))

pub returns-clause-home : goal.returns-clause-home
returns-clause-home c = same_memory c.deref_mut.result.now.image c.freeze-returned.new.self (opened_now c.deref_mut.ensures.value c.in-Ok.ensures.opened).home c.freeze-returned.ensures.bytes c.close_image.ensures.home

pub returns-clause-same : goal.returns-clause-same
returns-clause-same c =
    same_types c.args.types.now c.close_image.new.types c.deref_mut.result.now.image c.freeze-returned.new.self
    (opened_now c.deref_mut.ensures.value c.in-Ok.ensures.opened).types_are c.freeze-returned.ensures.bytes c.close_image.ensures.types
