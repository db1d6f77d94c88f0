use Rattle.std.proofs.Common.{ℕ, List}
use Rattle.std.specs.Result.{IsOkUnless, MatchResult}
use Rattle.std.specs.declared.result.Result.{Result}
use Rattle.std.specs.declared.result.Result.TheVariants.{Ok, Err}
use Rattle.seg_raw.specs.declared.code.Code.{Code}
use Rattle.seg_raw.specs.declared.code.Code.TheVariants.{BadAlloc}
use Rattle.seg_spec.specs.Calls.{Refuses}
use Rattle.seg_spec.specs.Demand.{Ask}
use Rattle.seg_value.specs.Stored.{Stored}
use Rattle.seg_seq.specs.Sequences.{LacksRoom}
use Rattle.seg_seq.proofs.SequenceKinds.{names_list}
use Rattle.seg_seq.proofs.sequence.push_back.Goals as goal

lacks : (P : ℕ → Type 0) (allocator : ℕ) (old new : Stored) (asks : List Ask) (r : Result ℕ Code) → IsOkUnless r BadAlloc → MatchResult r P (λ code. Refuses allocator old.window.bytes new.window.bytes asks) →
    MatchResult r P (LacksRoom allocator old new asks)
lacks P allocator old new asks (Ok x) e h = h
lacks P allocator old new asks (Err code) e h = record { code_is = e; refuses = h }

pub returns-in-List-clause-list : goal.returns-in-List-clause-list
returns-in-List-clause-list g c = λ U vs blocks h.
    let is = names_list c.args.heap.now.types c.args.sequence.type_id c.in_ok-kind.content c.in_ok-kind.kind c.in-List.is c.in_ok-kind.ensures U h.form_is in
    lacks _ g.F.Fit.allocator c.args.heap.now c.push_node.new.heap _ c.push_node.result c.push_node.ensures.code (c.push_node.ensures.pushed c.args.sequence.type_id U vs blocks is h.stands)
