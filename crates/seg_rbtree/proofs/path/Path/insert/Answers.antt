use Rattle.std.proofs.Common.{◌≡◌, ℕ, List, Some, refl, sym, ap, ◌∙◌, subst, arith}
use Rattle.seg_spec.specs.Pointer.{set_pointer}
use Rattle.seg_spec.specs.Shapes.{nodes_of}
use Rattle.seg_spec.specs.Window.{Placement, with_bytes}
use Rattle.seg_rbtree.specs.Nodes.{with_new_node}
use Rattle.seg_rbtree.specs.Ways.{last_word}
use Rattle.seg_rbtree.specs.Changes.{with_node}
use Rattle.seg_rbtree.specs.Rising.{IsRising, Settles}
use Rattle.seg_rbtree.proofs.InsertionLaws.{IsGrowing, grown, growing_start, settled_end, settled_late}
use Rattle.seg_rbtree.proofs.path.Path.insert.Goals as goal

both : (a b c : Placement) (x y : List ℕ) → b ≡ with_bytes a x → c ≡ with_bytes b y → c ≡ with_bytes a c.bytes
both a b c x y e f = f ∙ ap (λ (p : Placement). with_bytes p y) e ∙ ap (λ (bs : List ℕ). with_bytes a bs) (sym (ap (λ (p : Placement). p.bytes) f))

pub loop-init : goal.loop-init
loop-init g c = record {
  host = both c.args.w.now c.init.new.w c.set.new.w _ _ c.init.ensures c.set.ensures;
  root = refl;
  grows = λ order shape total t a way new apart few.
      let old = c.args.w.now.bytes in
      let root = c.args.self.now.root in
      let node = c.args.node in
      let steps = c.args.self.now.steps.items in
      let now : c.set.new.w.bytes ≡ set_pointer (with_new_node old node) (last_word root steps) (Some node) =
      ap (λ (p : Placement). p.bytes) c.set.ensures ∙ ap (λ (p : Placement). set_pointer p.bytes (last_word root steps) (Some node)) c.init.ensures in
      subst (λ bs. IsGrowing old bs root (with_node order node (nodes_of shape)) steps (Some node) 0) (sym now)
      (growing_start order total old root node shape few t a apart c.args.self.now new way);
}

pub loop-preserved : goal.loop-preserved
loop-preserved g c = record {
  host = both c.args.w.now c.loop.w c.settle-red.new.w _ _ c.loop.invariant.host c.settle-red.ensures.host;
  root = c.settle-red.ensures.root ∙ c.loop.invariant.root;
  grows = λ order shape total t a way new apart few.
      let old = c.args.w.now.bytes in
      let root = c.args.self.now.root in
      let nodes = with_node order c.args.node (nodes_of shape) in
      let steps = c.loop.self.steps.items in
      let rest = c.settle-red.new.path.steps.items in
      grown old c.loop.w.bytes c.settle-red.new.w.bytes root nodes steps rest c.loop.red c.settle-red.result c.in-Some.node c.loop.counter c.in-Some.is (c.loop.invariant.grows order shape total t a way new apart few)
      (λ r. subst (λ q. Settles c.loop.w.bytes c.settle-red.new.w.bytes q steps rest nodes c.settle-red.result) c.loop.invariant.root
      (c.settle-red.ensures.settled nodes (subst (λ q. IsRising c.loop.w.bytes q steps nodes c.in-Some.node) (sym c.loop.invariant.root) r)));
}

pub returns-after-loop-clause-added : goal.returns-after-loop-clause-added
returns-after-loop-clause-added g c = λ order shape total t a way new apart few.
    settled_late order total c.args.w.now.bytes c.args.self.now.root c.args.node shape few c.loop.w.bytes c.loop.self.steps.items c.loop.red c.loop.counter (omega (arith, c.loop-test.false))
    (c.loop.invariant.grows order shape total t a way new apart few)

pub returns-in_default-clause-added : goal.returns-in_default-clause-added
returns-in_default-clause-added g c = λ order shape total t a way new apart few.
    settled_end order total c.args.w.now.bytes c.args.self.now.root c.args.node shape few c.loop.w.bytes c.loop.self.steps.items c.loop.red c.loop.counter c.in_default.is
    (c.loop.invariant.grows order shape total t a way new apart few)
