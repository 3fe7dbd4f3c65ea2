use Rattle.bench_parts.proofs.tiles.run.Given as goal

abbrev pub ghosts-measure : goal.ghosts-measure
ghosts-measure a = record { name = a.blank.name; parts = a.blank.parts }
