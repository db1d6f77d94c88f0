-- Which objects registers own, from row to row and at the end of a run.
use Rattle.std.proofs.Common.{◌≡◌, ◌≢◌, ℕ, List, [], Some, sym, ◌∙◌}
use Rattle.seg_spec.specs.Index.{Root}
use Rattle.client_spec.specs.Syntax.{Constant, Instruction, Client}
use Rattle.client_spec.specs.Answer.{Answer}
use Rattle.client_spec.specs.Pictures.{root_of_register}
use Rattle.client_spec.specs.Ties.{places_of}
use Rattle.client_spec.specs.OnImages.{Move, Situation, RowOn, Given, Left, RunsClient}

pub next_owners : (constants : List Constant) (others : List Root) (moves : List Move) (i j : Instruction) (x y z : Situation) (first second : Answer)
    (one : RowOn constants others moves i x first y) (two : RowOn constants others moves j y second z) → places_of two.before.pictured.owned ≡ places_of one.after.pictured.owned
next_owners constants others moves i j x y z first second one two = two.owned_before ∙ sym one.owned_after

pub exchanged : (constants : List Constant) (others : List Root) (moves : List Move) (i : Instruction) (x y : Situation) (answer : Answer) (row : RowOn constants others moves i x answer y) (r : ℕ) (a b : Root)
    → root_of_register row.before.plain.registers row.before.pictured.owned r ≡ Some a → root_of_register row.after.plain.registers row.after.pictured.owned r ≡ Some b → b.at ≢ a.at → ⊥
exchanged constants others moves i x y answer row r a b had has other = other (row.owners_stay r a b had has)

pub ends_kept : (client : Client) (given : Given) (left : Left) (run : RunsClient client given left) → run.last.owned ≡ [] → left.image ≡ run.last.image
ends_kept client given left run none = run.is_left.image_kept none

pub ends_changed : (client : Client) (given : Given) (left : Left) (run : RunsClient client given left) → run.last.owned ≡ [] → left.image ≢ run.last.image → ⊥
ends_changed client given left run none changed = changed (ends_kept client given left run none)
