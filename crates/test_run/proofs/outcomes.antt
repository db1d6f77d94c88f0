mod OutcomeLaws
