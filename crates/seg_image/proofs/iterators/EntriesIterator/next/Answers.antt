use Rattle.std.proofs.Common.{rules, ◌≡◌, None, refl, sym, ap, ◌∙◌, w64, arith}
use Rattle.std.proofs.lemmas.Int.{to_z-of_z}
use Rattle.seg_value.specs.CellPlaces.{place_of}
use Rattle.seg_map.specs.Maps.{first_of, keys_above}
use Rattle.seg_image.proofs.IteratorLaws.{keys_ascend, left_next, fewer_left, ok_of, err_of}
use Rattle.seg_image.proofs.iterators.EntriesIterator.next.Goals as goal

pub returns-in_err-entry-clause-steps : goal.returns-in_err-entry-clause-steps
returns-in_err-entry-clause-steps g c = record {
  image = refl;
  map = refl;
  next = λ U keys vs blocks m s left h.
      let none : c.from_residual-in_err-entry.result ≡ None = search rules in
      let placed = err_of c.placed_entry.result c.in_err-entry.ensures.value in
      let at = rw (← c.placed_entry.ensures.entry, placed.1) at c.entry_after-found.ensures.next h.cursor U keys vs blocks m s in
      rw none (at.key_is ∙ ap first_of h.left_is, tt);
}

pub returns-clause-steps : goal.returns-clause-steps
returns-clause-steps g c = record {
  image = refl;
  map = refl;
  next = λ U keys vs blocks m s left h.
      let stored = g.S.SegmentRead.stored c.args.self.now.0.image.now in
      let ascending = keys_ascend (g.S.SegmentRead.allocator c.args.self.now.0.image.now) stored.window.bytes stored.types (place_of c.args.self.now.0.map) U keys vs blocks m s in
      let placed = ok_of c.placed_entry.result c.in_ok-entry.entry c.in_ok-entry.ensures.value in
      let value = ok_of c.value_type_at.result c.in_ok-value.value c.in_ok-value.ensures.value in
      let is_map = rw value at c.value_type_at.ensures in
      let of_type = rw placed at c.placed_entry.ensures.of_type in
      let at = rw (← c.placed_entry.ensures.entry, placed) at c.entry_after-found.ensures.next h.cursor U keys vs blocks m s in
      let first = at.key_is ∙ ap first_of h.left_is in
      let same = to_z-of_z w64 c.in_ok-entry.entry.0 (search rules) in (
        first,
        (
          record { of_type = rw of_type is_map.0; finds = at.leads },
          record {
            cursor = c.entry_after-found.ensures.inside h.cursor;
            left_is = ap (λ k. keys_above keys k) same ∙ left_next keys c.args.self.now.0.last left c.in_ok-entry.entry.0 ascending h.left_is (sym first);
            most = fewer_left left c.in_ok-left.left (omega (arith, h.most, c.in_ok-left.ensures));
          },
        ),
      );
}
