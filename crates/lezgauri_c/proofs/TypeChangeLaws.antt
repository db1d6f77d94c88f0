-- An image is sound after types were added.
use Rattle.std.proofs.Common.{◌≡◌, ◌+◌, ◌≤◌, ℕ, List, length, sym, ap, ◌∙◌, subst, arith}
use Rattle.seg_spec.specs.Bytes.{word, ChangesOnly}
use Rattle.seg_spec.specs.Header.{version_word, allocator_word, sharing_version, types_start, types_size}
use Rattle.seg_spec.specs.Heap.{live}
use Rattle.seg_spec.specs.Types.{Table, Agree, AreOfVersion, Spells, longer}
use Rattle.seg_spec.specs.Sound.{Picture}
use Rattle.seg_spec.specs.Images.{IsSound, upgraded}
use Rattle.seg_spec.proofs.Images.UpgradeLaws.{upgraded_held, upgraded_counted, upgraded_version}
use Rattle.seg_manager.specs.Segments.{AddsTypes}
use Rattle.lezgauri.specs.Image.{Image}
use Rattle.lezgauri.specs.Images.{segment_of, bytes_in, types_of, allocator_of, IsOpen}
use Rattle.lezgauri_c.specs.Changes.{HasMoreTypes}
use Rattle.lezgauri_c.proofs.OpenLaws.{opened_on}

module _ {A : Type 0} (opened left : Image A) (old entries : List ℕ) (more : Table) (before : IsSound old) (opened_is : bytes_in opened ≡ upgraded old)
    (types : types_of opened ≡ before.picture.table) where
  pub more_types : (word (bytes_in opened) allocator_word ≤ 1 → allocator_of opened ≡ word (bytes_in opened) allocator_word)
      → AreOfVersion sharing_version more → Spells entries more → Agree (types_of opened) more
      → ((picture : Picture) → IsOpen opened picture → AreOfVersion (word (bytes_in opened) version_word) more → AddsTypes (allocator_of opened) (segment_of opened) (segment_of left) picture more)
      → HasMoreTypes old (bytes_in left) entries before
  more_types allocator of_version spells agree adds =
      let picture = before.picture in
      let is_open = opened_on opened (upgraded old) picture (upgraded_held old picture before.held) (upgraded_counted old picture before.counted) opened_is types allocator in
      let fits : version_word + 4 ≤ length old = (let small = before.held.laid_out.header.not_small in omega (arith, small)) in
      let version : sharing_version ≡ word (bytes_in opened) version_word = sym (ap (λ (b : List ℕ). word b version_word) opened_is ∙ upgraded_version old fits) in
      let then = adds picture is_open (subst (λ n. AreOfVersion n more) version of_version) in
      record {
        more = more;
        spelled = spells;
        agree = subst (λ (t : Table). Agree t more) types agree;
        sound = record { picture = record picture { table = longer (types_of opened) more }; held = then.segment.held; counted = then.segment.counted; none_loose = before.none_loose };
        picture_is = ap (λ (t : Table). record picture { table = longer t more }) types;
        changes = subst (λ (b : List ℕ). ChangesOnly b (bytes_in left) types_start types_size) opened_is then.changes;
        live_is = then.live_is ∙ ap (λ (b : List ℕ). live b) opened_is;
      }
