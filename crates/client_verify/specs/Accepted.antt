-- The contents of a client that the verifier accepted.
--     client_of verified     the client
use Rattle.client_code.specs.declared.client.Client.{Client}
use Rattle.client_verify.specs.declared.verified.Verified.{Verified}

abbrev pub client_of : Verified → Client
client_of verified = verified.typed.client
