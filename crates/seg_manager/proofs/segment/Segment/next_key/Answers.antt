use Rattle.std.proofs.Common.{◌≡◌, ◌∙◌, ap, subst, w64, of_z, to_z}
use Rattle.std.proofs.lemmas.Int.{to_z-of_z}
use Rattle.std.specs.Result.{result_ok}
use Rattle.seg_cells.specs.Places.{place_of}
use Rattle.seg_value.specs.Stored.{Stored}
use Rattle.seg_map.specs.EitherMap.{WhereMaps}
use Rattle.seg_map.specs.Maps.{first_of, keys_above}
use Rattle.seg_manager.proofs.segment.Segment.next_key.Goals as goal

pub returns-clause-next : goal.returns-clause-next
returns-clause-next g c = λ U keys vs blocks m stands.
    (subst (λ (s : Stored). WhereMaps g.F.Fit.allocator s.window.bytes s.types (place_of c.args.map) (λ U keys vs blocks. result_ok c.next_key_by.result ≡ first_of (keys_above keys (to_z w64 (of_z w64 c.args.after)))))
    c.self.view_is (c.next_key_by.ensures.next (c.keep.ensures _ c.self.invariant))) U keys vs blocks m stands
    ∙ ap (λ k. first_of (keys_above keys k)) (to_z-of_z w64 c.args.after c.ranges.after)
