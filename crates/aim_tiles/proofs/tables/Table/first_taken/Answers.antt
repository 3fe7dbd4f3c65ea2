use Rattle.std.specs.Option.{option_copied}
use Rattle.aim_tiles.specs.Searches.{spans_of}
use Rattle.aim_tiles.proofs.Firsts.{taken_found, taken_none}
use Rattle.aim_tiles.proofs.tables.Table.first_taken.Goals as goal

pub returns-clause-found : goal.returns-clause-found
returns-clause-found g c = taken_found c.self.inside.pages.words.items.items c.self.inside.pages.size c.self.inside.pages.horizon c.self.inside.current c.args.sheet.now.spans c.spans.result.now (spans_of (option_copied c.args.own)) c.args.self.now c.first_in_spans.result
    c.self.view_is c.spans.ensures.spans c.spans.ensures.rising c.first_in_spans.ensures.found

pub returns-clause-none : goal.returns-clause-none
returns-clause-none g c = taken_none c.self.inside.pages.words.items.items c.self.inside.pages.size c.self.inside.pages.horizon c.self.inside.current c.args.sheet.now.spans c.spans.result.now (spans_of (option_copied c.args.own)) c.args.self.now c.first_in_spans.result
    c.self.view_is c.spans.ensures.spans c.first_in_spans.ensures.none
