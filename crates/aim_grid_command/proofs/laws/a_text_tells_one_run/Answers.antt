use Rattle.std.proofs.Common.{sym, ◌∙◌}
use Rattle.aim_grid_script.specs.Said.{layouts_of, vehicles_of}
use Rattle.aim_grid_command.proofs.Telling.{all_told, grid_told, logs_same}
use Rattle.aim_grid_command.proofs.laws.a_text_tells_one_run.Goals as goal

pub returns-clause-journals : goal.returns-clause-journals
returns-clause-journals c lines text a b =
    (grid_told (vehicles_of lines) (layouts_of lines) a.journals b.journals a.logs b.logs a.run.travelled.count b.run.travelled.count a.run.count b.run.count
    (all_told (vehicles_of lines) a.journals a.logs a.told) (all_told (vehicles_of lines) b.journals b.logs b.told) (sym a.is ∙ b.is)).0

pub returns-clause-logs : goal.returns-clause-logs
returns-clause-logs c lines text a b k v xs ys =
    logs_same (vehicles_of lines) a.logs b.logs
    (grid_told (vehicles_of lines) (layouts_of lines) a.journals b.journals a.logs b.logs a.run.travelled.count b.run.travelled.count a.run.count b.run.count
    (all_told (vehicles_of lines) a.journals a.logs a.told) (all_told (vehicles_of lines) b.journals b.logs b.told) (sym a.is ∙ b.is)).1 k v xs ys
