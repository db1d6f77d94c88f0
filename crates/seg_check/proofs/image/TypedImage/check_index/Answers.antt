use Rattle.std.proofs.Common.{arith, sym, ◌∙◌}
use Rattle.seg_check.proofs.Objects.IndexLaws.{index_counted, index_null, index_empty}
use Rattle.seg_check.proofs.image.TypedImage.check_index.Goals as goal

pub returns-in-None-default : goal.returns-in-None-default
returns-in-None-default g c = λ ready kind.
    let bytes = c.args.self.now.bytes.bytes.now in
    let table = c.args.self.now.types.now in
    let null = sym c.target.ensures ∙ c.in-None-default.is-0 in
    ((λ can. index_counted bytes table null c.args.claims.now (omega arith) can), index_null bytes table kind null)

pub returns-in-None-eq0 : goal.returns-in-None-eq0
returns-in-None-eq0 g c = λ ready kind.
    index_empty c.args.self.now.bytes.bytes.now c.args.self.now.types.now (sym c.target.ensures ∙ c.in-None-eq0.is-0) c.args.claims.now kind (sym c.name_count_in-count.ensures ∙ c.in-None-eq0.is-1)
