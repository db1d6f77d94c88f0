-- The names and unique objects that an image counts.
use Rattle.std.proofs.Common.{◌≡◌, ℕ, zero, suc, ◌+◌, List, [], ◌∷◌, length, refl, sym, ap, ◌∙◌, arith}
use Rattle.std.proofs.lemmas.List.{length-map}
use Rattle.seg_spec.specs.Bytes.{word}
use Rattle.seg_spec.specs.Header.{index_kind_word, index_cell}
use Rattle.seg_spec.specs.Shapes.{nodes_of, tree_words}
use Rattle.seg_spec.specs.Reads.{count_at, start}
use Rattle.seg_spec.specs.Index.{Root, Index, OpensIndex, AreEntries}
use Rattle.seg_spec.specs.Sound.{Picture, IsHeld}
use Rattle.seg_spec.proofs.Values.ValueTypeLaws.{length-spaced}

entries_counted : (bytes : List ℕ) (kind : ℕ) (index : Index) → OpensIndex bytes kind index → length index.entries ≡ count_at bytes index_cell
entries_counted bytes zero index o = ap (λ (x : Index). length x.entries) o.index_is ∙ length-spaced (start bytes index_cell) 8 (count_at bytes index_cell)
entries_counted bytes (suc n) index o = ap (λ (x : Index). length x.entries) o.index_is ∙ length-map (nodes_of o.tree) (λ p. p + tree_words) ∙ o.counted

roots_counted : (bytes : List ℕ) (entries : List ℕ) (roots : List Root) → AreEntries bytes entries roots → length entries ≡ length roots
roots_counted bytes [] [] a = refl
roots_counted bytes [] (root ∷ roots) a = absurd a
roots_counted bytes (x ∷ entries) [] a = absurd a
roots_counted bytes (x ∷ entries) (root ∷ roots) a = let rest = roots_counted bytes entries roots a.1 in omega arith

pub names_counted : (bytes : List ℕ) (picture : Picture) → IsHeld bytes picture → count_at bytes index_cell ≡ length picture.names
names_counted bytes picture held =
    let l = held.laid_out.names in
    sym (entries_counted bytes (word bytes index_kind_word) l.index l.opens) ∙ roots_counted bytes l.index.entries picture.names l.entries
