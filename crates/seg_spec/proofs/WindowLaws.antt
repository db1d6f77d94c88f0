-- Equal windows have equal bytes.
use Rattle.std.proofs.Common.{◌≡◌, ap}
use Rattle.seg_spec.specs.Window.{Placement}

pub bytes_of : (p q : Placement) → p ≡ q → p.bytes ≡ q.bytes
bytes_of p q e = ap (λ (r : Placement). r.bytes) e
