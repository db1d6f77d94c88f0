use Rattle.std.proofs.Common.{◌≡◌, List, ℕ, sym, ap, ◌∙◌, subst, arith}
use Rattle.std.proofs.lemmas.Result.{IfOk-at_ok}
use Rattle.seg_manager.specs.NewSegments.{word_of_kind}
use Rattle.lezgauri_c.specs.Segments.{IsNewImage}
use Rattle.lezgauri_c.proofs.creating.lezgauri_raw_create.Goals as goal
use Rattle.lezgauri_c.proofs.creating.lezgauri_raw_create.Goals.{in-0, in-1, in-0-allocator, in-1-allocator}

moved : (a b k l size : ℕ) (xs ys : List ℕ) → a ≡ b → k ≡ l → ys ≡ xs → IsNewImage a k size xs → IsNewImage b l size ys
moved a b k l size xs ys p q r new =
    subst (λ (x : ℕ). IsNewImage x l size ys) p (subst (λ (x : ℕ). IsNewImage a x size ys) q (subst (λ (x : List ℕ). IsNewImage a k size x) (sym r) new))

pub returns-in-Ok-clause-created : goal.returns-in-Ok-clause-created
returns-in-Ok-clause-created c done =
    let kind : word_of_kind c.match-index.index ≡ c.args.index = elim c.match-index.branch [
      | in-0 w ↦ ap word_of_kind w.index-is ∙ (let e : 0 ≡ c.args.index = omega arith in e)
      | in-1 w ↦ ap word_of_kind w.index-is ∙ (let e : 1 ≡ c.args.index = omega arith in e)
    ] in
    elim c.match-allocator.branch [
      | in-0-allocator w ↦
          let new = IfOk-at_ok (λ _. IsNewImage 0 (word_of_kind c.match-index.index) c.args.size w.new_image.result.1.items) (rw w.created-is at c.in-Ok.is) w.new_image.ensures.created in
          let named : 0 ≡ c.args.allocator = omega arith in
          let items : c.give_back.new.self.bytes ≡ w.new_image.result.1.items = c.give_back.ensures.bytes ∙ (rw w.created-is) in
          moved 0 c.args.allocator (word_of_kind c.match-index.index) c.args.index c.args.size w.new_image.result.1.items c.give_back.new.self.bytes named kind items new
      | in-1-allocator w ↦
          let new = IfOk-at_ok (λ _. IsNewImage 1 (word_of_kind c.match-index.index) c.args.size w.new_image-in-1-allocator.result.1.items) (rw w.created-is at c.in-Ok.is) w.new_image-in-1-allocator.ensures.created in
          let named : 1 ≡ c.args.allocator = omega arith in
          let items : c.give_back.new.self.bytes ≡ w.new_image-in-1-allocator.result.1.items = c.give_back.ensures.bytes ∙ (rw w.created-is) in
          moved 1 c.args.allocator (word_of_kind c.match-index.index) c.args.index c.args.size w.new_image-in-1-allocator.result.1.items c.give_back.new.self.bytes named kind items new
    ]
