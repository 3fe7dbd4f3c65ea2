use Rattle.std.proofs.Common.{refl}
use Rattle.aim_manager.proofs.Made.{entry_made, still_fits}
use Rattle.aim_manager.proofs.keeper.make_call.Goals as goal

pub returns-in-Serve-clause-entry : goal.returns-in-Serve-clause-entry
returns-in-Serve-clause-entry g c =
    entry_made c.args.caller c.serve-result.result c.args.book.now c.serve-result.new.self _ (λ r. refl) c.serve-result.ensures.entry c.serve-result.ensures.err

pub returns-in-Serve-clause-lawful : goal.returns-in-Serve-clause-lawful
returns-in-Serve-clause-lawful g c =
    let e = c.serve-result.ensures in
    (e.legal, still_fits c.serve-result.result c.args.book.now c.serve-result.new.self _ e.entry e.err e.full c.requires.fits)

pub returns-in-Operate-clause-lawful : goal.returns-in-Operate-clause-lawful
returns-in-Operate-clause-lawful g c =
    let e = c.operate-result.ensures in
    (e.legal, still_fits c.operate-result.result c.args.book.now c.operate-result.new.self _ e.entry e.err e.full c.requires.fits)
