use Rattle.std.proofs.Common.{◌≡◌, length, drop}
use Rattle.lezgauri.specs.Iterators.{keys_after, HasKeysLeft}
use Rattle.lezgauri_c.specs.KeptImages.{types_in}
use Rattle.lezgauri_c.specs.Values.{stored_in, WhereMap}
use Rattle.lezgauri_c.proofs.EntryLaws.{Filled}
use Rattle.lezgauri_c.proofs.reading_entries.fill.Given as goal

abbrev pub invariant-loop-count : goal.invariant-loop-count
invariant-loop-count l =
    let bytes = l.fn.reader.view.bytes.now in
    let table = types_in l.fn.reader in
    (l.found.0.image.now ≡ l.fn.reader) × (l.found.0.map ≡ l.fn.map) × (length l.entries ≡ length l.fn.entries)
    × (WhereMap bytes table l.fn.map (λ U keys vs blocks. Filled bytes table l.fn.map U keys (keys_after keys l.fn.after) l.fn.entries l.entries l.count
    × HasKeysLeft (stored_in bytes table) keys l.found.0 (drop l.count (keys_after keys l.fn.after))))
