use Rattle.client_text.proofs.WordGroups.{none_given, no_typed_name}
use Rattle.client_text.proofs.item.read_number.Goals as goal

pub returns-in-TypedName-clause-none : goal.returns-in-TypedName-clause-none
returns-in-TypedName-clause-none c =
    none_given c.read_typed_name.result c.map-in-TypedName.result _ _ c.map-in-TypedName.ensures.variant c.read_typed_name.ensures.none (no_typed_name c.args.number c.in-TypedName.is _)
