use Rattle.std.proofs.Common.{◌≡◌, sym, subst}
use Rattle.lezgauri.specs.Place.{Place}
use Rattle.lezgauri.specs.Images.{bytes_in}
use Rattle.lezgauri_c.specs.Changes.{IsDone, place_at}
use Rattle.lezgauri_c.specs.ImageChanges.{Shares}
use Rattle.lezgauri_c.proofs.ChangeLaws.{calls, same_memory, same_types, opened_now}
use Rattle.lezgauri_c.proofs.PlaceChangeLaws.{stays_sound_from, share_stays}
use Rattle.lezgauri_c.proofs.changing_owners.lezgauri_raw_share.Goals as goal

pub returns-clause-shares : goal.returns-clause-shares
returns-clause-shares c =
    let opened = c.deref_mut.result.now.image in
    let on = opened_now c.deref_mut.ensures.value c.in-Ok.ensures.opened in
    let left = c.share-returned.new.self in
    let left_is : bytes_in left ≡ c.close_image.new.lent.bytes = sym c.close_image.ensures.bytes in
    subst (λ (p : Place). IsDone c.args.image.now.bytes c.close_image.new.lent.bytes c.args.types.now c.done.result (Shares (place_at c.args.to_at c.args.to_type_id) p)) c.place_at-from.ensures
    (subst (λ (q : Place). IsDone c.args.image.now.bytes c.close_image.new.lent.bytes c.args.types.now c.done.result (Shares q c.place_at-from.result)) c.place_at-to.ensures
    (calls c.args.types.now opened left on.bytes left_is on.opened c.share-returned.result c.done.ensures.number c.done.ensures.told (record {
      bytes = c.share-returned.ensures.bytes;
      other = c.share-returned.ensures.other;
      done = c.share-returned.ensures.done;
      shares = c.share-returned.ensures.shares;
    })))

pub returns-clause-home : goal.returns-clause-home
returns-clause-home c = same_memory c.deref_mut.result.now.image c.share-returned.new.self (opened_now c.deref_mut.ensures.value c.in-Ok.ensures.opened).home c.share-returned.ensures.bytes c.close_image.ensures.home

pub returns-clause-sound : goal.returns-clause-sound
returns-clause-sound c =
    let from = place_at c.args.at c.args.type_id in
    let to = place_at c.args.to_at c.args.to_type_id in
    stays_sound_from (returns-clause-shares c) from to (λ opened left result it picture is_open other reached. share_stays opened left from to picture is_open other reached result it)

pub returns-clause-same : goal.returns-clause-same
returns-clause-same c =
    same_types c.args.types.now c.close_image.new.types c.deref_mut.result.now.image c.share-returned.new.self
    (opened_now c.deref_mut.ensures.value c.in-Ok.ensures.opened).types_are c.share-returned.ensures.bytes c.close_image.ensures.types
