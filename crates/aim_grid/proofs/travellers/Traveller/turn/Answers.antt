use Rattle.aim_grid.proofs.Along.{idled, began, stayed, goes, stays}
use Rattle.aim_grid.proofs.travellers.Traveller.turn.Goals as goal

pub returns-then-is_idle : goal.returns-then-is_idle
returns-then-is_idle g c = idled c.args.managers.now c.args.step c.args.self.now c.requires.ready (c.is_idle.ensures c.if-is_idle.true)

pub returns-then-goes_on : goal.returns-then-goes_on
returns-then-goes_on g c =
    began c.args.managers.now c.args.step c.args.self.now c.ride.new.self c.go_on.new.self c.requires.ready c.ride.ensures
    (goes c.ride.new.self c.goes_on.result c.goes_on.ensures c.if-goes_on.true) c.go_on.ensures

pub returns-else-goes_on : goal.returns-else-goes_on
returns-else-goes_on g c =
    stayed c.args.managers.now c.args.step c.args.self.now c.ride.new.self c.requires.ready c.ride.ensures
    (stays c.ride.new.self c.goes_on.result c.goes_on.ensures c.if-goes_on.false)
