-- Files of clients, one by one.
use Rattle.std.proofs.Common.{◌≡◌, ℕ, zero, suc, ◌+◌, ◌<◌, List, [], ◌∷◌, ◌++◌, length, map, take, get_or, Some, refl, sym, ap, ◌∙◌, subst, arith, add-one}
use Rattle.std.specs.Prelude.{slice_get}
use Rattle.std.proofs.Math.Seq.{take-suc}
use Rattle.std.proofs.lemmas.List.{map-append, take-map, get_or_default}
use Rattle.seg_raw.specs.declared.fault.Fault.{Fault}
use Rattle.client_spec.specs.Types.{Table, longer}
use Rattle.client_spec.specs.Syntax.{Client}
use Rattle.client_spec.specs.Grammar.{SpellsClient}
use Rattle.client_spec.specs.Clients.{IsVerified, AreAccepted, table_after}
use Rattle.client_code.specs.Clients.{bytes_of}
use Rattle.client_verify.specs.Accepted.{client_of}
use Rattle.client_verify.specs.declared.verified.Verified.{Verified}
use Rattle.client_verify.specs.Texts.{texts_of, IsWrongText, IsWrongAt}

-- the mapped prefix with one more element ends with the image of that element
pub mapped_front : {X Y : Type 0} (f : X → Y) (xs : List X) (i : ℕ) (x : X) → i < length xs → x ≡ get_or xs i x → map f (take (i + 1) xs) ≡ map f (take i xs) ++ f x ∷ []
mapped_front f xs i x h e =
    ap (λ n. map f (take n xs)) (add-one i) ∙ ap (map f) (take-suc xs i x h) ∙ map-append f (take i xs) (get_or xs i x ∷ []) ∙ ap (λ y. map f (take i xs) ++ f y ∷ []) (sym e)

-- clients stay accepted if the next one is accepted after them
pub accepted_more : (table : Table) (texts : List (List ℕ)) (clients : List Client) (text : List ℕ) (client : Client) → AreAccepted table texts clients → SpellsClient text client → IsVerified (table_after table clients) client
    → AreAccepted table (texts ++ text ∷ []) (clients ++ client ∷ [])
accepted_more table [] [] text client h spells is = (spells, is, tt)
accepted_more table [] (c ∷ cs) text client h spells is = absurd h
accepted_more table (t ∷ ts) [] text client h spells is = absurd h
accepted_more table (t ∷ ts) (c ∷ cs) text client h spells is = (h.0, h.1, accepted_more (longer table c.types) ts cs text client h.2 spells is)

pub table_more : (table : Table) (clients : List Client) (client : Client) → table_after table (clients ++ client ∷ []) ≡ longer (table_after table clients) client.types
table_more table [] client = refl
table_more table (c ∷ cs) client = table_more (longer table c.types) cs client

map_get : {X Y : Type 0} (f : X → Y) (xs : List X) (i : ℕ) (d : X) → i < length xs → slice_get (map f xs) i ≡ Some (f (get_or xs i d))
map_get f [] i d there = absurd (omega (arith, there))
map_get f (y ∷ xs) zero d there = refl
map_get f (y ∷ xs) (suc i) d there = map_get f xs i d (omega (arith, there))

module _ {X : Type 0} (f : X → List ℕ) (xs : List X) (i : ℕ) (d : X) (there : i < length xs) where
  front : map f (take (i + 1) xs) ≡ map f (take i xs) ++ f (get_or xs i d) ∷ []
  front = mapped_front f xs i (get_or xs i d) there (get_or_default xs i d (get_or xs i d) there)

  -- the files of the programs stay the mapped prefix if one more program is added
  pub text_added : (programs : List Verified) (program : Verified) → texts_of programs ≡ map f (take i xs) → bytes_of (client_of program) ≡ f (get_or xs i d) → texts_of (programs ++ program ∷ []) ≡ map f (take (i + 1) xs)
  text_added programs program same is =
      map-append (λ (p : Verified). bytes_of (client_of p)) programs (program ∷ []) ∙ ap (λ ts. ts ++ bytes_of (client_of program) ∷ []) same ∙ ap (λ t. map f (take i xs) ++ t ∷ []) is ∙ sym front

  pub client_added : (table types longer_types : Table) (clients : List Client) (client : Client) → AreAccepted table (map f (take i xs)) clients → types ≡ table_after table clients → SpellsClient (f (get_or xs i d)) client
      → IsVerified types client → longer_types ≡ longer types client.types → (trees : List Client) × AreAccepted table (map f (take (i + 1) xs)) trees × (longer_types ≡ table_after table trees)
  client_added table types longer_types clients client h same spells is more = (
    clients ++ client ∷ [],
    subst (λ ts. AreAccepted table ts (clients ++ client ∷ [])) (sym front) (accepted_more table (map f (take i xs)) clients (f (get_or xs i d)) client h spells (subst (λ t. IsVerified t client) same is)),
    more ∙ ap (λ t. longer t client.types) same ∙ sym (table_more table clients client),
  )

  -- a fault of one file, after files that were accepted, is a fault of the list
  pub first_wrong : (table types : Table) (fault : Fault) (clients : List Client) → AreAccepted table (map f (take i xs)) clients → types ≡ table_after table clients → IsWrongText types (f (get_or xs i d)) fault
      → IsWrongAt table (map f xs) i fault
  first_wrong table types fault clients h same wrong = record {
    clients = clients;
    accepted = subst (λ ts. AreAccepted table ts clients) (sym (take-map f i xs)) h;
    text = f (get_or xs i d);
    text_is = map_get f xs i d there;
    wrong = subst (λ t. IsWrongText t (f (get_or xs i d)) fault) same wrong;
  }
