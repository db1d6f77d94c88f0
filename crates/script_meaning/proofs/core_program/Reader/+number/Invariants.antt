use Rattle.script_meaning.proofs.core_program.Reader.+number.Given as goal

abbrev pub decreases-number : goal.decreases-number
decreases-number l = l.depth

abbrev pub decreases-named : goal.decreases-named
decreases-named l = l.depth
