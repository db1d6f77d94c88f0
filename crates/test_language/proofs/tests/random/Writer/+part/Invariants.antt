use Rattle.test_language.proofs.tests.random.Writer.+part.Given as goal

abbrev pub decreases-part : goal.decreases-part
decreases-part l = l.depth
