use Rattle.std.proofs.Common.{◌≡◌, List, ℕ, rules, sym, ap, subst}
use Rattle.seg_spec.specs.Bytes.{word}
use Rattle.seg_spec.specs.Header.{version_word, sharing_version}
use Rattle.seg_spec.specs.Window.{with_bytes}
use Rattle.lezgauri_c.proofs.VersionLaws.{upgraded_same}
use Rattle.lezgauri_c.proofs.run_in_place.upgrade.Goals as goal

pub returns-else-not-shares : goal.returns-else-not-shares
returns-else-not-shares g c =
    let window = c.args.window.now in
    let shares = subst (λ (b : List ℕ). word b version_word ≡ sharing_version) c.view.ensures (c.shares.ensures.0 (search (rules, c.if-not-shares.false))) in
    ap (with_bytes window) (sym (upgraded_same window.bytes shares))
