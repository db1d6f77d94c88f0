use Rattle.seg_index.proofs.RootOrder.{looked_up, looked_up_none}
use Rattle.seg_index.proofs.flat.look_up.Goals as goal

pub returns-in-Ok : goal.returns-in-Ok
returns-in-Ok g c = λ names blocks f flat.
    looked_up names c.args.name.now c.search.result c.in-Ok.index c.entry_at.result (c.search.ensures names blocks f flat) c.in-Ok.is (c.entry_at.ensures names blocks f flat)

pub returns-in-Err : goal.returns-in-Err
returns-in-Err g c = λ names blocks f flat.
    looked_up_none names c.args.name.now c.search.result c.in-Err.index (c.search.ensures names blocks f flat) c.in-Err.is
