use Rattle.std.proofs.Common.{◌≡◌, ◌+◌, ◌-◌, ◌++◌, [], ◌∷◌, replicate, vec_len, ap, sym, ◌∙◌, arith}
use Rattle.std.proofs.lemmas.List.{append_assoc, replicate_more}
use Rattle.seg_spec.specs.Window.{Home}
use Rattle.seg_raw.proofs.in_place.lengthen.Goals as goal

pub loop-preserved : goal.loop-preserved
loop-preserved g c =
    let old = c.args.bytes.now in
    let pushed = c.push_reserved.ensures in
    let v = c.loop.invariant in
    let start = v.start in
    let n = c.loop.counter - vec_len old in
    let next : c.loop.counter + 1 - vec_len old ≡ n + 1 = omega arith in
    let at = pushed.in_place ∙ ap (λ (h : Home). h.at) v.home in
    let capacity = pushed.capacity ∙ v.capacity in
    record {
      bytes = pushed.items ∙ ap (λ xs. xs ++ 0 ∷ []) v.bytes ∙ append_assoc old.items (replicate n 0) (0 ∷ []) ∙ ap (λ xs. old.items ++ xs) (replicate_more n 0 ∙ ap (λ m. replicate m 0) (sym next));
      long = pushed.len ∙ ap (λ m. m + 1) v.long;
      start = omega arith;
      end = omega (arith, c.loop-test.true);
      capacity = capacity;
      home = λ i. record { at = at i; room = capacity i };
    }
