-- An image with a fault isn't sound.
use Rattle.std.proofs.Common.{◌≡◌, ℕ, ◌%◌, List, length, sym, ap, ◌∙◌, subst, arith}
use Rattle.std.specs.Prelude.{flat_map}
use Rattle.seg_spec.specs.Bytes.{word, slice}
use Rattle.seg_spec.specs.Types.{Table, form_bytes, padded, Spells}
use Rattle.seg_spec.specs.Images.{IsSound}
use Rattle.seg_spec.specs.Header.{version_word}
use Rattle.seg_spec.proofs.Images.OwnedTagLaws.{tags_of_version}
use Rattle.seg_spec.specs.Faulty.{HasTiles, HasFront, LacksType, LacksTiles, Failure, Lacks}
use Rattle.seg_spec.proofs.BytesLaws.{length-slice}
use Rattle.seg_spec.proofs.Tables.OneTableLaws.{HasTable-one}
use Rattle.seg_spec.proofs.Tables.ValidTableLaws.{valid_right}

pub tiles_held : (bytes : List ℕ) (s : IsSound bytes) → HasTiles bytes s.picture.table
tiles_held bytes s =
    let l = s.held.laid_out in
    record { filled = l.heap.filled; headers = l.heap.headers; apart = l.heap.apart; ownable = l.blocks; of_version = tags_of_version bytes s }

-- an image whose header and types are right has the types of its picture
pub front_table : (bytes : List ℕ) (table : Table) (s : IsSound bytes) → HasFront bytes table → s.picture.table ≡ table
front_table bytes table s f = HasTable-one bytes 64 s.picture.table table s.held.laid_out.is_table f.is_table s.held.laid_out.types f.types

no_tiles : (bytes : List ℕ) → LacksTiles bytes → IsSound bytes → ⊥
no_tiles bytes l s = l.2 (subst (HasTiles bytes) (front_table bytes l.0 s l.1) (tiles_held bytes s))

-- a valid table has no entry that is wrong
pub right_types : (bytes : List ℕ) (table : Table) (k : ℕ) → HasFront bytes table → LacksType bytes k → ⊥
right_types bytes table k f l =
    let h = f.header in
    let long : length (slice bytes 64 512) ≡ 512 = length-slice bytes 64 512 (let small = h.not_small in omega arith) in
    let spelled : Spells (slice bytes 64 512) table = f.types ∙ ap (λ n. padded n (flat_map form_bytes table)) (sym long) in
    valid_right (word bytes version_word) (slice bytes 64 512) table f.is_table f.of_version spelled (ap (λ n. n % 16) long) (omega arith) k l.1.wrong

front_held : (bytes : List ℕ) (s : IsSound bytes) → HasFront bytes s.picture.table
front_held bytes s = record { header = s.held.laid_out.header; types = s.held.laid_out.types; is_table = s.held.laid_out.is_table; of_version = s.held.laid_out.of_version }

pub unsound : (bytes : List ℕ) (failure : Failure) → Lacks bytes failure → IsSound bytes → ⊥
unsound bytes Failure.bad_header l s = l s.held.laid_out.header
unsound bytes (Failure.bad_type k) l s = right_types bytes s.picture.table k (front_held bytes s) l
unsound bytes Failure.bad_tiles l s = no_tiles bytes l s
unsound bytes Failure.bad_gaps l s = l.3 s.held.laid_out.heap.free
unsound bytes Failure.bad_content l s = l.4 s
