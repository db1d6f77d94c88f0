-- A heap in contracts.
use Rattle.std.proofs.Common.{◌≡◌, ◌∙◌, ap}
use Rattle.seg_spec.specs.Types.{Table}
use Rattle.seg_spec.specs.Window.{Placement}
use Rattle.seg_value.specs.Stored.{Stored}

-- a stored heap is determined by its window and its types
pub same_stored : (a b : Stored) → a.window ≡ b.window → a.types ≡ b.types → a ≡ b
same_stored a b w t = ap (λ (x : Placement). record { window = x; types = a.types }) w ∙ ap (λ (x : Table). record { window = b.window; types = x }) t
