use Rattle.seg_spec.proofs.Images.RootChangeLaws.{moves, moved_after, moved_before}
use Rattle.test_definitions.proofs.images.moving_objects.Goals as goal

pub returns-clause-after : goal.returns-clause-after
returns-clause-after c = λ old new picture other held before between gone come after root j path w m roots roots_then.
    moved_after old new picture other held before between gone come after root j path m.inner m.value w m.blocks m.others m.gone_blocks m.come_blocks m.within m.leads m.holds_it m.goes (moves m.changes) m.comes m.same_table m.laid_out
    roots roots_then

pub returns-clause-before : goal.returns-clause-before
returns-clause-before c = λ old new picture other held before between gone come after root j path w m roots roots_then.
    moved_before old new picture other held before between gone come after root j path m.inner m.value w m.blocks m.others m.gone_blocks m.come_blocks m.within m.leads m.holds_it m.goes (moves m.changes) m.comes m.same_table m.laid_out
    roots roots_then
