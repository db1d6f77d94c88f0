use Rattle.std.proofs.Common.{◌≡◌, ℕ, List, length, sym, ap, ◌∙◌, subst}
use Rattle.std.specs.Prelude.{OnOk}
use Rattle.seg_spec.specs.Bytes.{slice}
use Rattle.seg_spec.specs.Window.{Placement, region_of}
use Rattle.seg_image.proofs.WholeRegionLaws.{first_region, first_bytes, front_stays}
use Rattle.seg_image.proofs.size.with_room.Goals as goal

pub returns-clause-bytes : goal.returns-clause-bytes
returns-clause-bytes g c =
    let bytes = c.into_bytes-bytes.result.items in
    let more = c.extend-resized.new.bytes.items in
    let same : bytes ≡ c.args.segment.window.bytes = c.into_bytes-bytes.ensures.bytes ∙ ap (λ (p : Placement). p.bytes) c.into_window.ensures in
    let len : c.len-len.result ≡ length bytes = c.len-len.ensures.len ∙ ap (λ (p : Placement). length p.bytes) c.window.ensures ∙ ap length (sym same) in
    ap (λ (p : Placement). p.bytes) c.new.ensures.window
    ∙ first_bytes _ c.place.result c.unwrap-window.result c.from_vec.result.bytes c.len-len.result c.unwrap-window.ensures c.place.ensures.window
    ∙ ap (λ (b : List ℕ). slice b 0 c.len-len.result) c.from_vec.ensures.bytes ∙ ap (slice more 0) len
    ∙ front_stays c.extend-resized.result bytes more _ c.extend-resized.ensures.bytes c.extend-resized.ensures.unchanged ∙ same

pub returns-clause-room : goal.returns-clause-room
returns-clause-room g c =
    let more = c.extend-resized.new.bytes.items in
    let region : region_of c.new.result.window ≡ more = ap region_of c.new.ensures.window
    ∙ first_region _ c.place.result c.unwrap-window.result c.from_vec.result.bytes c.len-len.result c.unwrap-window.ensures c.place.ensures.window
    ∙ c.from_vec.ensures.bytes in
    subst (λ (b : List ℕ). OnOk c.extend-resized.result (length b ≡ c.args.room)) (sym region) c.extend-resized.ensures.len
