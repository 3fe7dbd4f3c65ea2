use Rattle.std.proofs.Common.{arith}
use Rattle.aim_geometry.proofs.StationLemmas.{line_fits, on_line_le}
use Rattle.aim_geometry.proofs.stations.line_station.Goals as goal

pub overflow_mul-result : goal.overflow_mul-result
overflow_mul-result c = (line_fits c.args.m c.args.j c.args.x0 c.args.x1 c.requires.most c.requires.place c.requires.from c.requires.to).0

pub overflow_mul-result-2 : goal.overflow_mul-result-2
overflow_mul-result-2 c = (line_fits c.args.m c.args.j c.args.x0 c.args.x1 c.requires.most c.requires.place c.requires.from c.requires.to).1

pub overflow_add-result : goal.overflow_add-result
overflow_add-result c = (line_fits c.args.m c.args.j c.args.x0 c.args.x1 c.requires.most c.requires.place c.requires.from c.requires.to).2

pub overflow_cast-result : goal.overflow_cast-result
overflow_cast-result c =
    let most = on_line_le c.args.x0 c.args.x1 c.args.m c.args.j 1000000 c.requires.place c.requires.from c.requires.to in omega (arith, most)
