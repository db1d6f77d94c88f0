-- Accesses to several files, one by one.
use Rattle.std.proofs.Common.{◌≡◌, ℕ, ◌+◌, List, [], ◌∷◌, ◌++◌, length, map, take, get_or, ◌<◌, le_of_lt, Option, Some, None, refl, sym, ap, ◌∙◌, subst, arith}
use Rattle.std.proofs.lemmas.List.{take_more, map-append, append_assoc, append-nil, length-map, length-take-le}
use Rattle.cli_host.specs.Accesses.{Access, AddsAccesses, access, accesses_of}

pub accesses_of-append : (names texts : List (List ℕ)) (name text : List ℕ) → length texts ≡ length names → accesses_of (names ++ name ∷ []) (texts ++ text ∷ []) ≡ accesses_of names texts ++ access name text ∷ []
accesses_of-append [] [] name text same = refl
accesses_of-append [] (t ∷ ts) name text same = absurd (omega (arith, same))
accesses_of-append (n ∷ ns) [] name text same = absurd (omega (arith, same))
accesses_of-append (n ∷ ns) (t ∷ ts) name text same = ap (λ them. access n t ∷ them) (accesses_of-append ns ts name text (omega (arith, same)))

pub adds_none : (before : Option (List Access)) → AddsAccesses before before []
adds_none None = tt
adds_none (Some done) = ap Some (sym (append-nil done))

pub adds_both : (before between after : Option (List Access)) (first second : List Access) → AddsAccesses before between first → AddsAccesses between after second → AddsAccesses before after (first ++ second)
adds_both None between after first second one two = tt
adds_both (Some done) between after first second one two =
    subst (λ it. AddsAccesses it after second) one two ∙ ap Some (append_assoc done first second)

-- the files with the names before `i` were read, and then the one with that name
pub read_more : {X : Type 0} {Y : Type 0} (name_of : X → List ℕ) (text_of : Y → List ℕ) (names : List X) (i : ℕ) (d : X) (texts : List Y) (text : Y) (before between after : Option (List Access)) → i < length names → length texts ≡ i
    → AddsAccesses before between (accesses_of (map name_of (take i names)) (map text_of texts)) → AddsAccesses between after (access (name_of (get_or names i d)) (text_of text) ∷ [])
    → AddsAccesses before after (accesses_of (map name_of (take (i + 1) names)) (map text_of (texts ++ text ∷ [])))
read_more name_of text_of names i d texts text before between after there len one two =
    let told = map name_of (take i names) in
    let name = name_of (get_or names i d) in
    let named = ap (map name_of) (take_more names i d there) ∙ map-append name_of (take i names) (get_or names i d ∷ []) in
    let same = length-map texts text_of ∙ len ∙ sym (length-map (take i names) name_of ∙ length-take-le i names (le_of_lt there)) in
    let all = ap (λ ns. accesses_of ns (map text_of (texts ++ text ∷ []))) named ∙ ap (accesses_of (told ++ name ∷ [])) (map-append text_of texts (text ∷ [])) ∙ accesses_of-append told (map text_of texts) name (text_of text) same in
    subst (AddsAccesses before after) (sym all) (adds_both before between after (accesses_of told (map text_of texts)) (access name (text_of text) ∷ []) one two)
