-- Which values the journal and the logs of a crossing have. No public clause cites this file.
use Rattle.std.specs.Prelude.{All}
use Rattle.aim_text_entries.specs.Ranges.{IsEntry}
use Rattle.aim_report.specs.Told.{IsItem}
use Rattle.aim_grid.specs.Drove.{Drove}

-- those of their types
pub record HasValues (d : Drove) : Type 0 where
  pub entries : All IsEntry d.journal.items
  pub items : All (λ l. All IsItem l.driver.log) d.logs.items
