use Rattle.std.proofs.Common.{◌<◌, [], length, refl, sym, subst, arith}
use Rattle.std.specs.Prelude.{codes}
use Rattle.seg_spec.specs.Types.{Table}
use Rattle.seg_spec.specs.Value.{nil, cons, Map, Seq}
use Rattle.seg_spec.specs.Index.{Root, plain_root}
use Rattle.lezgauri.specs.Images.{segment_of, allocator_of, types_of, IsOpen}
use Rattle.lezgauri.specs.Segments.{IsSegment}
use Rattle.lezgauri_uses.specs.Caches.{bare, picture_of, items_of}
use Rattle.lezgauri_uses.proofs.NewCacheLaws.{found_there, open_still, half, values_made, order_made}
use Rattle.lezgauri_uses.proofs.cache.Cache.in_image.Goals as goal

pub returns-clause-makes : goal.returns-clause-makes
returns-clause-makes c empty =
    let image = c.args.image in
    let mid = c.find_or_construct.new.self in
    let new = c.find_or_construct-2.new.self in
    let values = c.in_ok-values.values in
    let order = c.in_ok-order.order in
    let first = c.in_ok-values.ensures.makes bare empty refl in
    let one = values_made (allocator_of image) (types_of image) (segment_of mid) first.before first.after values.at empty.table_is first.names_are first.becomes.segment in
    let middle : IsOpen mid (half values.at) = subst (λ a. IsSegment a (segment_of mid) (half values.at)) (sym c.find_or_construct.ensures.bytes.allocator) one in
    let second = c.in_ok-order.ensures.makes (half values.at) middle refl in
    let two = order_made (allocator_of mid) (types_of mid) (segment_of new) second.before second.after values.at order.at middle.table_is second.names_are second.becomes.segment in
    record {
      is_open = subst (λ a. IsSegment a (segment_of new) (picture_of order.at values.at [] ([], nil))) (sym c.find_or_construct-2.ensures.bytes.allocator) two;
      order_type = c.in_ok-order.ensures.of_type;
      values_type = c.in_ok-values.ensures.of_type;
    }

pub returns-clause-finds : goal.returns-clause-finds
returns-clause-finds c keys entries order_at values_at is =
    let image = c.args.image in
    let mid = c.find_or_construct.new.self in
    let new = c.find_or_construct-2.new.self in
    let values = c.in_ok-values.values in
    let order = c.in_ok-order.order in
    let picture = picture_of order_at values_at keys entries in
    let values_root : Root = plain_root (codes "values") values_at 1 (cons (Map entries.0 entries.1) nil) in
    let order_root : Root = plain_root (codes "order") order_at 2 (cons (Seq (items_of keys)) nil) in
    let one = found_there (segment_of image) (segment_of mid) picture.names (codes "values") 1 values.at values_root refl (c.in_ok-values.ensures.tells picture is (subst (λ (t : Table). 1 < length t) (sym is.table_is) (omega arith))) in
    let middle = open_still image mid picture is one.1 c.find_or_construct.ensures.bytes in
    let two = found_there (segment_of mid) (segment_of new) picture.names (codes "order") 2 order.at order_root refl
    (c.in_ok-order.ensures.tells picture middle (subst (λ (t : Table). 2 < length t) (sym middle.table_is) (omega arith))) in
    let last = open_still mid new picture middle two.1 c.find_or_construct-2.ensures.bytes in
    record {
      is_open = subst (λ n. IsOpen new (picture_of n values.at keys entries)) two.0 (subst (λ n. IsOpen new (picture_of order_at n keys entries)) one.0 last);
      order_type = c.in_ok-order.ensures.of_type;
      values_type = c.in_ok-values.ensures.of_type;
    }
