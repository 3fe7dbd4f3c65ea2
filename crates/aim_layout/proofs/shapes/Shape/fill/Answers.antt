use Rattle.std.proofs.Common.{◌≡◌, ◌+◌, length, arith, sym}
use Rattle.std.proofs.Math.Seq.{take-length}
use Rattle.std.proofs.lemmas.List.{take_more}
use Rattle.aim_layout.specs.Shapes.{origin, stations_of, parts_of}
use Rattle.aim_layout.proofs.ShapeLemmas.{length-stations_of}
use Rattle.aim_layout.proofs.shapes.Shape.fill.Goals as goal

pub loop-j-preserved : goal.loop-j-preserved
loop-j-preserved c =
    let ss = stations_of c.args.self.now in
    let count : length ss ≡ parts_of c.args.self.now + 1 = length-stations_of c.args.self.now in
    record {
      stations = rw (c.push_reserved.ensures.items, c.loop-j.invariant.stations, c.station.ensures) (sym (take_more ss c.loop-j.j origin (omega arith)));
      count = omega arith;
      room = omega arith;
    }

pub returns-clause-stations : goal.returns-clause-stations
returns-clause-stations c =
    let ss = stations_of c.args.self.now in
    let count : length ss ≡ parts_of c.args.self.now + 1 = length-stations_of c.args.self.now in
    let end : c.loop-j.j ≡ length ss = omega arith in
    rw (c.loop-j.invariant.stations, end) (take-length ss)
