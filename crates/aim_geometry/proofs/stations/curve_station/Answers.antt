use Rattle.std.proofs.Common.{◌*◌, arith}
use Rattle.std.proofs.Math.Nat.{div-le_of_le-mul}
use Rattle.aim_geometry.proofs.StationLemmas.{curve_le, terms_fit, parts_fit}
use Rattle.aim_geometry.proofs.stations.curve_station.Goals as goal

pub overflow_mul-result : goal.overflow_mul-result
overflow_mul-result c = (parts_fit c.args.m c.args.j c.requires.most c.requires.place).0

pub overflow_mul-result-2 : goal.overflow_mul-result-2
overflow_mul-result-2 c = (terms_fit c.args.m c.args.j c.args.x0 c.args.x1 c.args.x2 c.requires.most c.requires.place c.requires.from c.requires.by c.requires.to).0

pub overflow_mul-result-4 : goal.overflow_mul-result-4
overflow_mul-result-4 c = (parts_fit c.args.m c.args.j c.requires.most c.requires.place).1

pub overflow_mul-result-5 : goal.overflow_mul-result-5
overflow_mul-result-5 c = (terms_fit c.args.m c.args.j c.args.x0 c.args.x1 c.args.x2 c.requires.most c.requires.place c.requires.from c.requires.by c.requires.to).1

pub overflow_add-result : goal.overflow_add-result
overflow_add-result c = (terms_fit c.args.m c.args.j c.args.x0 c.args.x1 c.args.x2 c.requires.most c.requires.place c.requires.from c.requires.by c.requires.to).3

pub overflow_mul-result-6 : goal.overflow_mul-result-6
overflow_mul-result-6 c = (parts_fit c.args.m c.args.j c.requires.most c.requires.place).2

pub overflow_mul-result-7 : goal.overflow_mul-result-7
overflow_mul-result-7 c = (terms_fit c.args.m c.args.j c.args.x0 c.args.x1 c.args.x2 c.requires.most c.requires.place c.requires.from c.requires.by c.requires.to).2

pub overflow_add-result-2 : goal.overflow_add-result-2
overflow_add-result-2 c = (terms_fit c.args.m c.args.j c.args.x0 c.args.x1 c.args.x2 c.requires.most c.requires.place c.requires.from c.requires.by c.requires.to).4

pub overflow_mul-result-8 : goal.overflow_mul-result-8
overflow_mul-result-8 c = (parts_fit c.args.m c.args.j c.requires.most c.requires.place).3

pub overflow_cast-result-4 : goal.overflow_cast-result-4
overflow_cast-result-4 c =
    let most = div-le_of_le-mul (c.args.m * c.args.m) (curve_le c.args.m c.args.j c.args.x0 c.args.x1 c.args.x2 1000000 c.requires.place c.requires.from c.requires.by c.requires.to) in omega arith
