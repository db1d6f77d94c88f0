use Rattle.std.proofs.Common.{◌≡◌, suc, ◌-◌, ◌<◌, true, false, None, Some, refl, sym, ap, ◌∙◌, subst, arith}
use Rattle.seg_spec.specs.Value.{count}
use Rattle.seg_value.specs.CellPlaces.{place_of}
use Rattle.seg_seq.specs.Sequences.{ShowsItem}
use Rattle.seg_image.specs.Iterators.{ShowsItemBefore}
use Rattle.seg_image.specs.Places.{is_list}
use Rattle.seg_image.proofs.iterators.ItemsIterator.next.Goals as goal

pub returns-in_err-at-clause-steps : goal.returns-in_err-at-clause-steps
returns-in_err-at-clause-steps g c =
    let old = c.args.self.now in
    let stored = g.S.SegmentRead.stored old.image.now in
    let list = place_of old.sequence in
    record {
      image = refl;
      sequence = refl;
      vector = λ U n vs blocks has h.
          let index : c.saturating_sub-index.result ≡ n = omega (arith, c.saturating_sub-index.ensures, h.len, h.left) in
          let below : c.saturating_sub-index.result < count vs = omega (arith, index, h.left, c.in_ok-left.ensures) in
          absurd (c.in_err-at.ensures.vector U vs blocks has below (h.vector (h.is_list ∙ ap is_list has.form_is)));
      list = λ U n vs blocks has h.
          let index : c.saturating_sub-index.result ≡ n = omega (arith, c.saturating_sub-index.ensures, h.len, h.left) in
          let below : c.saturating_sub-index.result < count vs = omega (arith, index, h.left, c.in_ok-left.ensures) in
          absurd (c.in_err-at.ensures.list U vs blocks has below (subst (λ k. ShowsItemBefore stored list U k old.last) (sym index) h.last));
    }

pub returns-clause-steps : goal.returns-clause-steps
returns-clause-steps g c =
    let old = c.args.self.now in
    let stored = g.S.SegmentRead.stored old.image.now in
    let list = place_of old.sequence in
    let at = c.in_ok-at.at in
    record {
      image = refl;
      sequence = refl;
      vector = λ U n vs blocks has h.
          let index : c.saturating_sub-index.result ≡ n = omega (arith, c.saturating_sub-index.ensures, h.len, h.left) in
          let below : c.saturating_sub-index.result < count vs = omega (arith, index, h.left, c.in_ok-left.ensures) in
          let unlisted : old.is_list ≡ false = h.is_list ∙ ap is_list has.form_is in
          let shows = c.in_ok-at.ensures.vector U vs blocks has below (h.vector unlisted) in
          let none : c.then_some-self.result ≡ None = rw unlisted at c.then_some-self.ensures in (
            h.item_type,
            subst (λ k. ShowsItem stored list U k at) index shows,
            record { item_type = h.item_type; len = h.len; left = omega (arith, h.left, c.in_ok-left.ensures); is_list = h.is_list; vector = λ e. none; last = rw none tt },
          );
      list = λ U n vs blocks has h.
          let index : c.saturating_sub-index.result ≡ n = omega (arith, c.saturating_sub-index.ensures, h.len, h.left) in
          let below : c.saturating_sub-index.result < count vs = omega (arith, index, h.left, c.in_ok-left.ensures) in
          let listed : old.is_list ≡ true = h.is_list ∙ ap is_list has.form_is in
          let shows = subst (λ k. ShowsItem stored list U k at) index (c.in_ok-at.ensures.list U vs blocks has below (subst (λ k. ShowsItemBefore stored list U k old.last) (sym index) h.last)) in
          let some : c.then_some-self.result ≡ Some at = rw listed at c.then_some-self.ensures in
          let before : n ≡ suc n - 1 = omega arith in (
            h.item_type,
            shows,
            record {
              item_type = h.item_type;
              len = h.len;
              left = omega (arith, h.left, c.in_ok-left.ensures);
              is_list = h.is_list;
              vector = λ e. absurd (let both : true ≡ false = sym listed ∙ e in cc);
              last = rw some (omega arith, subst (λ k. ShowsItem stored list U k at) before shows);
            },
          );
    }
