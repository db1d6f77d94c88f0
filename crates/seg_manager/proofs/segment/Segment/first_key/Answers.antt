use Rattle.std.proofs.Common.{◌≡◌, subst}
use Rattle.std.specs.Result.{result_ok}
use Rattle.seg_cells.specs.Places.{place_of}
use Rattle.seg_value.specs.Stored.{Stored}
use Rattle.seg_map.specs.EitherMap.{WhereMaps}
use Rattle.seg_map.specs.Maps.{first_of}
use Rattle.seg_manager.proofs.segment.Segment.first_key.Goals as goal

pub returns-clause-first : goal.returns-clause-first
returns-clause-first g c =
    subst (λ (s : Stored). WhereMaps g.F.Fit.allocator s.window.bytes s.types (place_of c.args.map) (λ U keys vs blocks. result_ok c.first_key_by.result ≡ first_of keys)) c.self.view_is c.first_key_by.ensures.first
