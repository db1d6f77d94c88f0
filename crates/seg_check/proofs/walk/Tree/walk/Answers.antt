use Rattle.seg_check.proofs.WalkLaws.{Starts, starts}
use Rattle.seg_check.proofs.walk.Tree.walk.Goals as goal

pub returns-clause-starts : goal.returns-clause-starts
returns-clause-starts c =
    let n = c.new.ensures in
    let s : Starts c.new.result c.args.self.root c.args.self.nodes = record {
      wanted_is = n.wanted;
      pointer_is = n.pointer;
      entered_is = n.entered;
      nodes_are = n.nodes;
      height_is = n.height;
      right_is = n.is_red_black;
      blacks_are = n.blacks;
      red_is = n.is_red;
    } in
    starts c.args.bytes.bytes.now c.new.result c.args.self.root c.args.self.nodes s
