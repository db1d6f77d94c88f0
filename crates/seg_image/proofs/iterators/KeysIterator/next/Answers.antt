use Rattle.std.proofs.Common.{rules, ◌≡◌, Some, None, refl, sym, ap, ◌∙◌, w64, arith}
use Rattle.std.proofs.lemmas.Int.{to_z-of_z}
use Rattle.seg_value.specs.CellPlaces.{place_of}
use Rattle.seg_map.specs.Maps.{first_of, keys_above}
use Rattle.seg_image.proofs.IteratorLaws.{keys_ascend, left_next, fewer_left}
use Rattle.seg_image.proofs.iterators.KeysIterator.next.Goals as goal

pub returns-in_err-entry-clause-steps : goal.returns-in_err-entry-clause-steps
returns-in_err-entry-clause-steps g c = record {
  image = refl;
  map = refl;
  next = λ U keys vs blocks m s left h.
      let none : c.from_residual-in_err-entry.result ≡ None = search rules in
      let at = rw (← c.in_err-entry.ensures.value) at c.entry_after.ensures.next h.cursor U keys vs blocks m s in
      rw none (at.key_is ∙ ap first_of h.left_is, tt);
}

pub returns-clause-steps : goal.returns-clause-steps
returns-clause-steps g c = record {
  image = refl;
  map = refl;
  next = λ U keys vs blocks m s left h.
      let stored = g.S.SegmentRead.stored c.args.self.now.image.now in
      let ascending = keys_ascend (g.S.SegmentRead.allocator c.args.self.now.image.now) stored.window.bytes stored.types (place_of c.args.self.now.map) U keys vs blocks m s in
      let at = rw (← c.in_ok-entry.ensures.value) at c.entry_after.ensures.next h.cursor U keys vs blocks m s in
      let first = at.key_is ∙ ap first_of h.left_is in
      let same = to_z-of_z w64 c.in_ok-entry.entry.key (search rules) in (
        ap Some same ∙ first,
        record {
          cursor = c.entry_after.ensures.inside h.cursor;
          left_is = ap (λ k. keys_above keys k) same ∙ left_next keys c.args.self.now.last left c.in_ok-entry.entry.key ascending h.left_is (sym first);
          most = fewer_left left c.in_ok-left.left (omega (arith, h.most, c.in_ok-left.ensures));
        },
      );
}
