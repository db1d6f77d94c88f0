use Rattle.std.proofs.Common.{◌≡◌, ◌↔◌, IsOk, sym, subst, arith}
use Rattle.seg_spec.specs.Bytes.{word}
use Rattle.seg_spec.specs.Header.{allocator_word}
use Rattle.seg_spec.specs.Heap.{HoldsGaps, gaps}
use Rattle.seg_check.proofs.image.TypedImage.check_free.Goals as goal

pub returns-in_default : goal.returns-in_default
returns-in_default g c = record {
  gaps = (λ front tiles knows followed.
      let bytes = c.args.self.now.bytes.bytes.now in
      let one : word bytes allocator_word ≡ 1 = omega (arith, front.header.allocator_is, c.get32.ensures, c.in_default) in
      subst (λ a. IsOk c.check_free_tree.result ↔ HoldsGaps a bytes (gaps bytes)) (sym one) (c.check_free_tree.ensures c.args.self.now.types.now tiles knows));
}
