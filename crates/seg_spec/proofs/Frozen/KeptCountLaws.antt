-- The frozen objects of an image still count their cells if the image's next number is kept.
--     next_same         the number is kept if the bytes after the pointer to the free structure are kept
--     counted_still     the same picture is counted
--     counted_with      the picture with one more object is counted, if the object points to no frozen one
use Rattle.std.proofs.Common.{◌≡◌, ℕ, List, [], ◌∷◌, ◌++◌, sym, ap, ◌∙◌, subst, arith}
use Rattle.seg_spec.specs.Bytes.{word}
use Rattle.seg_spec.specs.Header.{next_word, back_start, back_size, KeepsBack}
use Rattle.seg_spec.specs.Index.{Root}
use Rattle.seg_spec.specs.Sound.{Picture}
use Rattle.seg_spec.specs.Shared.{names_each, IsCounted, IsFalling}
use Rattle.seg_spec.specs.Counting.{cells_in, owners_in, AreCounted}
use Rattle.seg_spec.proofs.Frozen.PictureCountLaws.{cells_append}
use Rattle.seg_spec.proofs.Values.PlaceFrameLaws.{word-same}
use Rattle.seg_spec.proofs.SliceLaws.{IsSame-part}

pub next_same : (old new : List ℕ) → KeepsBack old new → word new next_word ≡ word old next_word
next_same old new back = word-same old new next_word (IsSame-part old new back_start back_size next_word 4 (omega arith) (omega arith) back)

pub counted_still : (old new : List ℕ) (picture : Picture) → word new next_word ≡ word old next_word → AreCounted (word old next_word) picture → AreCounted (word new next_word) picture
counted_still old new picture same c = subst (λ n. AreCounted n picture) (sym same) c

pub counted_with : (next : ℕ) (picture other : Picture) (before : List Root) (root : Root) (after : List Root) → owners_in picture ≡ before ++ after → owners_in other ≡ before ++ root ∷ after → names_each root.values ≡ []
    → other.frozen ≡ picture.frozen → AreCounted next picture → AreCounted next other
counted_with next picture other before root after split others none same c =
    let parts : cells_in (owners_in other) ≡ cells_in before ++ (names_each root.values ++ cells_in after) = ap cells_in others ∙ cells_append before (root ∷ after) in
    let cells : cells_in (owners_in picture) ≡ cells_in (owners_in other) =
    ap cells_in split ∙ cells_append before after ∙ ap (λ cs. cells_in before ++ (cs ++ cells_in after)) (sym none) ∙ sym parts in
    record {
      counted = subst (λ fs. IsCounted next fs (cells_in (owners_in other))) (sym same) (subst (IsCounted next picture.frozen) cells c.counted);
      falling = subst IsFalling (sym same) c.falling;
    }

-- a call that only changes the heap keeps the counts
pub counted_on : (old new : List ℕ) (picture : Picture) → KeepsBack old new → AreCounted (word old next_word) picture → AreCounted (word new next_word) picture
counted_on old new picture back c = counted_still old new picture (next_same old new back) c
