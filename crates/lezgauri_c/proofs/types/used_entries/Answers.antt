use Rattle.std.proofs.Common.{◌≡◌, ◌≤◌, ◌*◌, ◌%◌, List, ℕ, Ok, length, take, drop, refl, ap, ◌∙◌, arith}
use Rattle.std.proofs.lemmas.List.{length-take-le, take-take}
use Rattle.seg_spec.specs.Bytes.{slice}
use Rattle.seg_raw.proofs.Numbers.{slice_from}
use Rattle.lezgauri_c.proofs.Tables.{read_size, read_valid, read_shared_version, read_spells, read_entries}
use Rattle.lezgauri_c.proofs.types.used_entries.Goals as goal

front_of : (image table : List ℕ) (n : ℕ) → table ≡ slice image 64 512 → n ≤ 512 → take n table ≡ slice image 64 n
unfolding slice
front_of image table n from few = ap (take n) from ∙ take-take n 512 (drop 64 image) few

pub returns-in_err-types-clause-types : goal.returns-in_err-types-clause-types
returns-in_err-types-clause-types c table is =
    let image = c.args.image.now in
    let read = c.in-Some.table.now in
    let found = c.in-Some.ensures.lookup.0 in
    let from : read ≡ slice image 64 512 = found.2 ∙ slice_from image image 64 512 refl in
    let size = read_size image table is read from in
    let got : c.read_shared.result ≡ Ok table = c.read_shared.ensures.given table (read_valid image table is read from) (read_shared_version image table is read from)
    (read_spells image table is read from) (ap (λ n. n % 16) size) (omega (arith, size)) in
    let was = c.in_err-types.was in
    absurd (cc (got, was))

pub returns-clause-types : goal.returns-clause-types
returns-clause-types c table is =
    let image = c.args.image.now in
    let read = c.in-Some.table.now in
    let found = c.in-Some.ensures.lookup.0 in
    let from : read ≡ slice image 64 512 = found.2 ∙ slice_from image image 64 512 refl in
    let size = read_size image table is read from in
    let got : c.read_shared.result ≡ Ok table = c.read_shared.ensures.given table (read_valid image table is read from) (read_shared_version image table is read from)
    (read_spells image table is read from) (ap (λ n. n % 16) size) (omega (arith, size)) in
    let was : c.read_shared.result ≡ Ok c.in_ok-types.types = c.in_ok-types.was in
    let same : c.in_ok-types.types ≡ table = cc in
    ap (λ n. take (16 * n) read) (c.len.ensures.len ∙ ap length same) ∙ read_entries image table is read from

pub returns-clause-whole : goal.returns-clause-whole
returns-clause-whole c =
    let image = c.args.image.now in
    let read = c.in-Some.table.now in
    let found = c.in-Some.ensures.lookup.0 in
    let from : read ≡ slice image 64 512 = found.2 ∙ slice_from image image 64 512 refl in
    let few = c.len.ensures.few in
    (c.len.result, length-take-le (16 * c.len.result) read (omega (arith, few, found.3)), front_of image read (16 * c.len.result) from (omega (arith, few)))
