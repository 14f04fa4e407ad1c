use Rattle.realm_tests.proofs.locating.told_of.Given as goal

abbrev pub ghosts-led_to : goal.ghosts-led_to
ghosts-led_to a = record { name = a.blank.name; parts = a.blank.parts }
