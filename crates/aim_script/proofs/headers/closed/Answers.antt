use Rattle.aim_script.proofs.headers.closed.Goals as goal

pub returns-in-Err : goal.returns-in-Err
returns-in-Err c = c.in-Err.ensures.err c.args.version c.args.names
