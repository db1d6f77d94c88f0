-- Named objects, as calls from C report them.
--     ReportsRoot image root named      the name, the type and the count of a root, if there is one
use Rattle.std.specs.Prelude.{◌≡◌, ℕ, List, Option, None, MatchOption, IsSomeAnd}
use Rattle.seg_spec.specs.Bytes.{slice}
use Rattle.seg_spec.specs.Index.{Root}
use Rattle.seg_manager.specs.NamedObjects.{DescribesRoot}
use Rattle.lezgauri_c.specs.declared.reading_names.Named.{Named}

abbrev pub ReportsRoot : List ℕ → Option Root → Option Named → Type 0
ReportsRoot image root named = MatchOption named (root ≡ None) (λ it. IsSomeAnd root
    (DescribesRoot (slice image it.name.at it.name.len) it.type_id it.count))
