use Rattle.aim_line_session.proofs.servers.DeskServer.chart_row.Goals as goal

pub chart_row-requires-clause-managed : goal.chart_row-requires-clause-managed
chart_row-requires-clause-managed g c = (c.args.self.now.vehicles, c.requires.serves.0, c.requires.serves.1.managed)

pub returns : goal.returns
returns g c h w = record {
  held_columns = c.chart_row.ensures.held c.args.self.now.vehicles h w.managed;
  claimed_columns = c.chart_row.ensures.claimed c.args.self.now.vehicles h w.managed;
}
