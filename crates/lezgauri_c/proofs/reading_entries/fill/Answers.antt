use Rattle.std.proofs.Common.{rules, ◌≡◌, ℤ, Option, drop, refl, sym, ap, ◌∙◌, subst, inl, inr, w64, arith}
use Rattle.std.proofs.lemmas.Int.{to_z-of_z}
use Rattle.std.proofs.lemmas.List.{length-set}
use Rattle.std.specs.Prelude.{⊤, ℕ, List, MatchOption, option_map}
use Rattle.seg_spec.specs.Value.{Values}
use Rattle.seg_value.specs.Place.{Place}
use Rattle.lezgauri.specs.Iterators.{keys_after, HasKeysLeft, IsMapEntry, EntriesNext}
use Rattle.lezgauri.specs.Maps.{first_of, keys_above}
use Rattle.lezgauri.specs.declared.Entries.{Entries}
use Rattle.lezgauri_c.specs.declared.reader.Reader.{Reader}
use Rattle.lezgauri_c.specs.KeptImages.{types_in}
use Rattle.lezgauri_c.specs.Values.{stored_in, allocator_in, WhereMap}
use Rattle.lezgauri_c.proofs.EntryLaws.{filled_none, filled_next, filled_end, filled_fits, dropped_more}
use Rattle.lezgauri_c.proofs.reading_entries.fill.Goals as goal
use Rattle.lezgauri_c.proofs.reading_entries.fill.Goals.{in-Some+in_ok-found-in-Some, in-None+in_ok-found-in-None}

pub loop-count-init : goal.loop-count-init
loop-count-init c =
    let reader = c.args.reader in
    let bytes = reader.view.bytes.now in
    let table = types_in reader in
    let map = c.args.map in
    let old = c.args.entries.now in
    elim c.match-after.branch [
      | in-Some+in_ok-found-in-Some w ↦
          let made = w.in_ok-found-in-Some.ensures.image in (
            ap (λ it. it.0.image.now) w.found-is ∙ made.0,
            ap (λ it. it.0.map) w.found-is ∙ made.1,
            refl,
            λ U keys vs blocks form stands.
                let left = w.in_ok-found-in-Some.ensures.first U keys vs blocks form stands in (
                  filled_none bytes table map U keys (keys_after keys c.args.after) old,
                  subst (λ it. HasKeysLeft (stored_in bytes table) keys it.0 (keys_after keys c.args.after)) (sym w.found-is)
                      (subst (λ l. HasKeysLeft (stored_in bytes table) keys w.in_ok-found-in-Some.found.0 l)
                      (ap (keys_above keys) (to_z-of_z w64 w.in-Some.after (search rules)) ∙ ap (λ (o : Option ℤ). keys_after keys o) (sym w.in-Some.is)) left),
                ),
          )
      | in-None+in_ok-found-in-None w ↦
          let made = w.in_ok-found-in-None.ensures.image in (
            ap (λ it. it.0.image.now) w.found-is ∙ made.0,
            ap (λ it. it.0.map) w.found-is ∙ made.1,
            refl,
            λ U keys vs blocks form stands.
                let left = w.in_ok-found-in-None.ensures.first U keys vs blocks form stands in (
                  filled_none bytes table map U keys (keys_after keys c.args.after) old,
                  subst (λ it. HasKeysLeft (stored_in bytes table) keys it.0 (keys_after keys c.args.after)) (sym w.found-is)
                      (subst (λ l. HasKeysLeft (stored_in bytes table) keys w.in_ok-found-in-None.found.0 l) (ap (λ (o : Option ℤ). keys_after keys o) (sym w.in-None.is)) left),
                ),
          )
    ]

abbrev NextOf : Reader → Place → Entries Reader → Entries Reader → Option (ℤ × Place) → ℕ → List ℤ → Values → List ℕ → Type 0
NextOf reader map old new result U keys vs blocks =
    let stored = stored_in reader.view.bytes.now (types_in reader) in
    (left : List ℤ) → HasKeysLeft stored keys old.0 left → (option_map (λ (entry : ℤ × Place). entry.0) result ≡ first_of left)
    × MatchOption result ⊤ (λ entry. IsMapEntry stored map U keys entry.0 entry.1 × HasKeysLeft stored keys new.0 (drop 1 left))

-- the next entry of the map at hand
next_of : (reader : Reader) (map : Place) (old new : Entries Reader) (result : Option (ℤ × Place)) → old.0.image.now ≡ reader → old.0.map ≡ map
    → EntriesNext (λ r. allocator_in r.view.bytes.now) (λ r. stored_in r.view.bytes.now (types_in r)) old result new → WhereMap reader.view.bytes.now (types_in reader) map (NextOf reader map old new result)
next_of reader map old new result image_is map_is steps =
    subst (λ m. WhereMap reader.view.bytes.now (types_in reader) m (NextOf reader m old new result)) map_is
    (subst (λ r. WhereMap r.view.bytes.now (types_in r) old.0.map (NextOf r old.0.map old new result)) image_is steps.next)

pub loop-count-preserved : goal.loop-count-preserved
loop-count-preserved c =
    let reader = c.args.reader in
    let bytes = reader.view.bytes.now in
    let table = types_in reader in
    let map = c.args.map in
    let old = c.args.entries.now in
    let was = c.loop-count.invariant in
    let steps = c.in-Some-next.ensures.steps in
    let count = c.loop-count.count in
    let key_is = to_z-of_z w64 c.in-Some-next.key (search rules) in (
      ap (λ it. it.now) steps.image ∙ was.0,
      steps.map ∙ was.1,
      length-set c.loop-count.entries count _ ∙ was.2,
      λ U keys vs blocks form stands.
          let so_far = was.3 U keys vs blocks form stands in
          let wanted = keys_after keys c.args.after in
          let next = next_of reader map c.loop-count.found c.next.new.self _ was.0 was.1 steps U keys vs blocks form stands (drop count wanted) so_far.1 in (
            filled_next bytes table map U keys wanted old c.loop-count.entries count c.in-Some-next.key _ c.in-Some-next.value c.from.result key_is c.from.ensures was.2 c.loop-count-test.true so_far.0 next.0 next.1.0,
            subst (λ l. HasKeysLeft (stored_in bytes table) keys c.next.new.self.0 l) (dropped_more wanted count) next.1.1,
          ),
    )

pub returns-after-loop-count-clause-fills : goal.returns-after-loop-count-clause-fills
returns-after-loop-count-clause-fills c = λ U keys vs blocks form stands.
    let reader = c.args.reader in
    let was = c.loop-count.invariant in
    let so_far = was.3 U keys vs blocks form stands in
    let wanted = keys_after keys c.args.after in
    let old = c.args.entries.now in
    let fits = filled_fits reader.view.bytes.now (types_in reader) c.args.map U keys wanted old c.loop-count.entries c.loop-count.count so_far.0 was.2 in
    filled_end reader.view.bytes.now (types_in reader) c.args.map U keys wanted old c.loop-count.entries c.loop-count.count so_far.0 fits (inl (omega (arith, c.loop-count-test.false, was.2)))

pub returns-in_default-clause-fills : goal.returns-in_default-clause-fills
returns-in_default-clause-fills c = λ U keys vs blocks form stands.
    let reader = c.args.reader in
    let was = c.loop-count.invariant in
    let so_far = was.3 U keys vs blocks form stands in
    let wanted = keys_after keys c.args.after in
    let old = c.args.entries.now in
    let next = next_of reader c.args.map c.loop-count.found c.next.new.self _ was.0 was.1 c.in_default.ensures.steps U keys vs blocks form stands (drop c.loop-count.count wanted) so_far.1 in
    let fits = filled_fits reader.view.bytes.now (types_in reader) c.args.map U keys wanted old c.loop-count.entries c.loop-count.count so_far.0 was.2 in
    filled_end reader.view.bytes.now (types_in reader) c.args.map U keys wanted old c.loop-count.entries c.loop-count.count so_far.0 fits (inr (sym next.0))
