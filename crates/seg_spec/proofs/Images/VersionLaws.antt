-- Versions of images.
use Rattle.std.proofs.Common.{◌≡◌, ◌≢◌, ℕ, inl, inr}
use Rattle.seg_spec.specs.Header.{sharing_version, IsVersion}

-- the version without shared objects has no number for the next object
pub unnumbered : (version next : ℕ) → IsVersion version next → version ≢ sharing_version → next ≡ 0
unnumbered version next (inl first) other = first.1
unnumbered version next (inr shares) other = absurd (other shares)
