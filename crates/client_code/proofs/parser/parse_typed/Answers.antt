use Rattle.std.proofs.Common.{sym, ◌∙◌}
use Rattle.std.proofs.lemmas.Grind.{merely}
use Rattle.client_spec.specs.Syntax.{Client}
use Rattle.client_spec.specs.Grammar.{SpellsClient}
use Rattle.client_code.proofs.Whole.{found_client, no_types, no_version, no_constants, no_code, spelled_parts, read_places, types_again, no_matter}
use Rattle.client_code.proofs.parser.parse_typed.Goals as goal

pub invariant_of-client-clause-placed : goal.invariant_of-client-clause-placed
invariant_of-client-clause-placed c tree spells =
    let file = c.args.file.now in
    let header = c.in_ok-header.header in
    let found = c.in_ok-code.ensures.found in
    read_places file tree spells header.types header.constants header.instructions c.constants_at.result c.in_ok-code.code found.0
    c.in_ok-header.ensures.found c.constants_at.ensures found.1 found.2

pub invariant_of-result : goal.invariant_of-result
invariant_of-result c =
    let file = c.args.file.now in
    let header = c.in_ok-header.header in
    let types = c.in_ok-types.ensures in
    let found = c.in_ok-code.ensures.found in
    record {
      same_types = λ tree spells.
          let places = read_places file tree spells header.types header.constants header.instructions c.constants_at.result c.in_ok-code.code found.0
          c.in_ok-header.ensures.found c.constants_at.ensures found.1 found.2 in
          types_again file tree spells c.in_ok-types.types header.types places.0 types.count types.found;
    }

pub invariant_of-client-clause-spelled : goal.invariant_of-client-clause-spelled
invariant_of-client-clause-spelled c =
    let file = c.args.file.now in
    let header = c.in_ok-header.header in
    let found = c.in_ok-code.ensures.found in
    let code = c.in_ok-check_code.ensures.found found.0 (found.3 ∙ sym c.as_slice.ensures.value) in
    let tree =
    found_client file header.types header.constants
    header.instructions c.constants_at.result c.in_ok-code.code c.in_ok-types.types found.0 code.0
    (λ k. (c.type_inv.file k).fits) c.in_ok-header.ensures.found header.limits.1 header.limits.2 c.constants_at.ensures c.in_ok-types.ensures.count
    c.in_ok-types.ensures.found c.in_ok-check_version.ensures.found found.1 found.2 code.1 code.2 in
    merely tree

pub returns-clause-found : goal.returns-clause-found
returns-clause-found c =
    let file = c.args.file.now in
    let header = c.in_ok-header.header in
    let found = c.in_ok-code.ensures.found in
    let code = c.in_ok-check_code.ensures.found found.0 (found.3 ∙ sym c.as_slice.ensures.value) in
    found_client file header.types header.constants
    header.instructions c.constants_at.result c.in_ok-code.code c.in_ok-types.types found.0 code.0
    (λ k. (c.type_inv.file k).fits) c.in_ok-header.ensures.found header.limits.1 header.limits.2 c.constants_at.ensures c.in_ok-types.ensures.count
    c.in_ok-types.ensures.found c.in_ok-check_version.ensures.found found.1 found.2 code.1 code.2

pub returns-in_err-header-clause-wrong : goal.returns-in_err-header-clause-wrong
returns-in_err-header-clause-wrong c =
    no_matter c.from_residual.result _ (λ (tree : Client) (spells : SpellsClient c.args.file.now tree).
    c.in_err-header.ensures.wrong _ _ _ spells.valid.types.few spells.valid.few_constants spells.valid.few_instructions (spelled_parts c.args.file.now tree spells).header)

pub returns-in_err-types-clause-wrong : goal.returns-in_err-types-clause-wrong
returns-in_err-types-clause-wrong c =
    let header = c.in_ok-header.header in
    no_matter c.from_residual-in_err-types.result _ (no_types c.args.file.now header.types header.constants header.instructions c.in_ok-header.ensures.found c.in_err-types.ensures.wrong)

pub returns-in_err-check_version-clause-wrong : goal.returns-in_err-check_version-clause-wrong
returns-in_err-check_version-clause-wrong c =
    let header = c.in_ok-header.header in
    no_matter c.from_residual-in_err-check_version.result _ (no_version c.args.file.now header.types header.constants header.instructions c.in_ok-types.types
    c.in_ok-header.ensures.found c.in_ok-types.ensures.count c.in_ok-types.ensures.found c.in_err-check_version.ensures.wrong)

pub returns-in_err-code-clause-wrong : goal.returns-in_err-code-clause-wrong
returns-in_err-code-clause-wrong c =
    let header = c.in_ok-header.header in
    no_matter c.from_residual-in_err-code.result _ (no_constants c.args.file.now header.types header.constants header.instructions c.constants_at.result
    c.in_ok-header.ensures.found c.constants_at.ensures c.in_err-code.ensures.wrong)

pub returns-in_err-check_code-clause-wrong : goal.returns-in_err-check_code-clause-wrong
returns-in_err-check_code-clause-wrong c =
    let file = c.args.file.now in
    let header = c.in_ok-header.header in
    let found = c.in_ok-code.ensures.found in
    no_matter c.from_residual-in_err-check_code.result _
    (no_code file header.types header.constants header.instructions c.constants_at.result c.in_ok-code.code c.in_ok-types.types
    found.0 c.in_ok-header.ensures.found c.constants_at.ensures c.in_ok-types.ensures.count c.in_ok-types.ensures.found found.1 found.2
    (c.in_err-check_code.ensures.wrong found.0 (found.3 ∙ sym c.as_slice.ensures.value)))
