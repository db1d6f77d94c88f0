-- The code is hidden up to the present position; a step continues it; if no step does, at most terms were added.
use Rattle.std.proofs.Common.{sym, refl}
use Rattle.script_meaning.specs.Meaning.{Stays}
use Rattle.script_meaning.specs.Comparing.{code_of, texts_of, knowing}
use Rattle.script_meaning.proofs.SequenceLaws.{no_code, hidden_then, weaker}
use Rattle.script_meaning.proofs.comparison.Comparison.hidden.Goals as goal

pub loop-init : goal.loop-init
loop-init c = no_code (texts_of c.args.self.now) (code_of c.args.self.now) c.args.at (knowing c.args.self.now c.args.knowledge.now) (λ m s known. sym known.world)

pub loop-preserved : goal.loop-preserved
loop-preserved c =
    hidden_then (texts_of c.args.self.now) (code_of c.args.self.now) c.args.at c.loop.now c.in-Some.after
    (knowing c.args.self.now c.args.knowledge.now) (knowing c.args.self.now c.loop.knowledge) (knowing c.args.self.now c.hidden_step.new.knowledge) Stays
    c.loop.invariant c.in-Some.ensures.some

pub returns-in-None : goal.returns-in-None
returns-in-None c =
    weaker (texts_of c.args.self.now) (code_of c.args.self.now) c.args.at c.loop.now
    (knowing c.args.self.now c.args.knowledge.now) (knowing c.args.self.now c.args.knowledge.now)
    (knowing c.args.self.now c.loop.knowledge) (knowing c.args.self.now c.hidden_step.new.knowledge) Stays
    (λ m s known. known) (λ m s known. c.in-None.ensures.none refl m s known) c.loop.invariant
