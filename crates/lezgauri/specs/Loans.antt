-- A slice's memory as a vector, for as long as a call lasts.
--     IsLoan bytes used vec         vec has the first `used` of these bytes, and room for all of them
--     IsWhole bytes vec             vec has these bytes, and no room for more
--     IsReturned bytes vec back     back is in the memory of vec, and has as many bytes
--     IsFilled old new              new is old with 0 in the rest of its memory
use Rattle.std.specs.Prelude.{◌≡◌, ℕ, ◌-◌, ◌++◌, List, length, take, replicate, vec_len, vec_capacity}
use Rattle.std_alloc.specs.declared.vec.Vec.{Vec}
use Rattle.std_alloc.specs.declared.vec.lodged.Lodged.{Lodged}
use Rattle.seg_raw.specs.Homes.{home_of}

pub record IsLoan (bytes : List ℕ) (used : ℕ) (vec : Vec ℕ Lodged) : Type 0 where
  pub items : vec.items ≡ take used bytes
  pub room : vec_capacity vec ≡ length bytes

pub record IsWhole (bytes : List ℕ) (vec : Vec ℕ Lodged) : Type 0 where
  pub items : vec.items ≡ bytes
  pub full : vec_capacity vec ≡ length bytes

pub record IsReturned (bytes : List ℕ) (vec back : Vec ℕ Lodged) : Type 0 where
  pub home : home_of back ≡ home_of vec
  pub whole : vec_len back ≡ length bytes

pub record IsFilled (old new : Vec ℕ Lodged) : Type 0 where
  pub home : home_of new ≡ home_of old
  pub items : new.items ≡ old.items ++ replicate (vec_capacity old - vec_len old) 0
  pub full : vec_len new ≡ vec_capacity old
