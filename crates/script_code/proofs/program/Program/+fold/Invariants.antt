use Rattle.script_code.proofs.program.Program.+fold.Given as goal

abbrev pub decreases-fold : goal.decreases-fold
decreases-fold l = l.depth
