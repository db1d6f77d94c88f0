use Rattle.std.proofs.Common.{◌≡◌, ℕ, ◌+◌, List, Option, Some, sym, ◌∙◌}
use Rattle.seg_spec.specs.Pointer.{target}
use Rattle.seg_rbtree.proofs.Lasts.{last_there, way_to_last}
use Rattle.seg_rbtree.proofs.NodeRemovalLaws.{nothing_there, something_there}
use Rattle.seg_rbtree.proofs.path.Path.is_last.Goals as goal

-- the child that was read belongs to the node at the path's end
child_there : (bytes : List ℕ) (at child : Option ℕ) (read node : ℕ) → at ≡ Some read → at ≡ Some node → child ≡ target bytes (read + 4) → target bytes (node + 4) ≡ child
child_there bytes at child read node seen named is = let same : read ≡ node = cc in cc

pub returns-then-is_none-clause-only : goal.returns-then-is_none-clause-only
returns-then-is_none-clause-only g c = λ rightmost turn node shape t way named.
    let child = child_there c.args.w.now.bytes c.node.result c.child.result c.in-Some.node node c.in-Some.is (c.node.ensures ∙ named) c.child.ensures in
    last_there c.args.w.now.bytes c.args.self.now turn node shape t way named (child ∙ nothing_there c.child.result c.is_none.result c.is_none.ensures c.if-is_none.true) (c.is_rightmost.ensures.0 rightmost)

pub returns-then-is_none-clause-in_order : goal.returns-then-is_none-clause-in_order
returns-then-is_none-clause-in_order g c = λ turn order node shape total t a way named. (
  λ rightmost. returns-then-is_none-clause-only g c rightmost turn node shape t way named,
  λ last. c.is_rightmost.ensures.1 (way_to_last c.args.w.now.bytes c.args.self.now turn node shape t way named order total a last).1,
)

pub returns-else-is_none-clause-in_order : goal.returns-else-is_none-clause-in_order
returns-else-is_none-clause-in_order g c = λ turn order node shape total t a way named.
    let child = child_there c.args.w.now.bytes c.node.result c.child.result c.in-Some.node node c.in-Some.is (c.node.ensures ∙ named) c.child.ensures in (
      λ yes. let no = c.if-is_none.false in absurd cc,
      λ last. absurd (something_there c.child.result c.is_none.result c.is_none.ensures c.if-is_none.false
          (sym child ∙ (way_to_last c.args.w.now.bytes c.args.self.now turn node shape t way named order total a last).0)),
    )
