-- A region in contracts: its bytes, and the host's memory that they are in.
--     home_of vec                   the memory of a vector
--     with_area_bytes area bytes    other bytes in the same memory
use Rattle.std.specs.Prelude.{ℕ, List, vec_capacity}
use Rattle.std_alloc.specs.Vec.{vec_ptr}
use Rattle.std_alloc.specs.declared.vec.Vec.{Vec}
use Rattle.seg_spec.specs.Window.{Home}

pub record Area : Type 0 where
  pub bytes : List ℕ
  pub home : Home

abbrev pub home_of : {X Z : Type 0} → Vec X Z → Home
home_of vec = record { at = vec_ptr vec; room = vec_capacity vec }

abbrev pub with_area_bytes : Area → List ℕ → Area
with_area_bytes area bytes = record { bytes = bytes; home = area.home }
