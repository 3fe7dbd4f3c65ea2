-- What comes of a line or a limit that decides. No public clause cites this file.
use Rattle.aim_script_reading.specs.declared.decisions.Refused.{Refused}
use Rattle.aim_script_reading.specs.declared.decisions.Refused.TheVariants as refused
use Rattle.aim_script.specs.declared.decisions.Limit.{Limit}
use Rattle.aim_script.specs.Told.{limit_told}
use Rattle.aim_grid_script.specs.declared.decisions.GridKind.{GridKind}
use Rattle.aim_grid_script.specs.declared.endings.GridEnding.{GridEnding}
use Rattle.aim_grid_script.specs.declared.endings.GridEnding.TheVariants as ending
use Rattle.aim_grid_script.specs.Verdicts.{kind_told}

abbrev pub ending_of : Refused GridKind Limit → GridEnding
ending_of (refused.Bad number w) = ending.Bad number (kind_told w)
ending_of (refused.Limit b) = ending.Limit (limit_told b)
