use Rattle.std.proofs.Common.{◌≡◌, ◌≤◌, sym, ap, ◌∙◌, subst}
use Rattle.std.specs.Prelude.{List, ℕ}
use Rattle.std.proofs.lemmas.Result.{IfOk-at_ok}
use Rattle.seg_spec.specs.Bytes.{word}
use Rattle.seg_spec.specs.Header.{allocator_word, version_word}
use Rattle.seg_spec.specs.Images.{upgraded}
use Rattle.seg_spec.specs.Types.{Table, Agree, AreOfVersion}
use Rattle.seg_spec.specs.Window.{Placement}
use Rattle.seg_spec.specs.Sound.{Picture}
use Rattle.seg_manager.specs.Segments.{AddsTypes}
use Rattle.lezgauri.specs.Images.{segment_of, allocator_of, bytes_in, types_of, IsOpen}
use Rattle.lezgauri_c.specs.Changes.{HasMoreTypes}
use Rattle.lezgauri_c.proofs.TypeChangeLaws.{more_types}
use Rattle.lezgauri_c.proofs.changing_types.with_types.Goals as goal

pub returns-clause-added : goal.returns-clause-added
returns-clause-added g c sound same of_version entries spells =
    let old = c.args.window.bytes in
    let opened = c.in_window-image.result in
    let left = c.add_types.new.self in
    let window : bytes_in opened ≡ c.upgrade.new.window.bytes = ap (λ (w : Placement). w.bytes) c.in_window-image.ensures.window in
    let opened_is : bytes_in opened ≡ upgraded old = window ∙ ap (λ (w : Placement). w.bytes) c.upgrade.ensures in
    let types : types_of opened ≡ sound.picture.table = c.in_window-image.ensures.types ∙ same in
    let agree : Agree (types_of opened) c.args.more.now = subst (λ (t : Table). Agree t c.args.more.now) (sym c.in_window-image.ensures.types) c.requires in
    subst (λ (b : List ℕ). HasMoreTypes old b entries sound) (sym c.into_bytes.ensures.bytes)
    (more_types opened left old entries c.args.more.now sound opened_is types
    (λ few. let word_is : word (bytes_in opened) allocator_word ≡ word c.upgrade.new.window.bytes allocator_word = ap (λ (b : List ℕ). word b allocator_word) window in
    c.in_window-image.ensures.allocator (subst (λ n. n ≤ 1) word_is few) ∙ sym word_is)
    of_version spells agree
    (IfOk-at_ok (λ _. (picture : Picture) → IsOpen opened picture → AreOfVersion (word (bytes_in opened) version_word) c.args.more.now
    → AddsTypes (allocator_of opened) (segment_of opened) (segment_of left) picture c.args.more.now) c.unwrap.ensures c.add_types.ensures.adds))

pub unwrap-requires : goal.unwrap-requires
unwrap-requires g c = c.add_types.ensures.agree.1 (subst (λ (t : Table). Agree t c.args.more.now) (sym c.in_window-image.ensures.types) c.requires)

pub returns-clause-home : goal.returns-clause-home
returns-clause-home g c =
    c.into_bytes.ensures.home ∙ ap (λ (w : Placement). w.home) c.add_types.ensures.window ∙ ap (λ (w : Placement). w.home) c.in_window-image.ensures.window ∙ ap (λ (w : Placement). w.home) c.upgrade.ensures
