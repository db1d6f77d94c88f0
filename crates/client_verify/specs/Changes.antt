-- The definitions' values for the changes that the verifier's rule returns.
--     ended_after after ks        what is known once references have ended
--     success_after after ks      what is then known in the success part
--     otherwise_after after ks    what is then known in the else part
--     known_by ks after           what is known in both parts, if ks was known before
use Rattle.std.specs.Prelude.{ℕ, Option}
use Rattle.std.specs.Option.{option_map}
use Rattle.client_spec.specs.Typed as typed
use Rattle.client_verify.specs.declared.after.After.{After}
use Rattle.client_verify.specs.Views.{register_type_of}
use Rattle.client_verify.specs.Checking.{referred, ended_with, frozen_from, changed, changed_by}

abbrev pub given_register : After → Option (ℕ × typed.RegisterType)
given_register after = option_map (λ x. (x.0, register_type_of x.1)) after.given

abbrev pub ended_after : After → typed.RegisterTypes → typed.RegisterTypes
ended_after after ks =
    ended_with after.b after.c after.constant after.type_id
    (referred (typed.known ks after.b)) after.ends ks

abbrev pub success_after : After → typed.RegisterTypes → typed.RegisterTypes
success_after after ks = changed (given_register after) (frozen_from after.ends after.c ks)

abbrev pub otherwise_after : After → typed.RegisterTypes → typed.RegisterTypes
otherwise_after after ks = changed_by after.role (given_register after) ks

abbrev pub known_by : typed.RegisterTypes → After → typed.RegisterTypes × typed.RegisterTypes
known_by ks after = (
  success_after after (ended_after after ks),
  otherwise_after after (ended_after after ks),
)
