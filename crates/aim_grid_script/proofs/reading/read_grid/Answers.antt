use Rattle.std.proofs.Common.{refl}
use Rattle.aim_grid_script.proofs.Telling.{end_whole, never_read, refused_told, whole_told}
use Rattle.aim_grid_script.proofs.reading.read_grid.Goals as goal

pub finished-requires : goal.finished-requires
finished-requires g c =
    let comes = (rw c.in-Ok-None.field-0-is at c.in-Ok-None.ensures).comes in
    (comes.before, comes.stands refl, end_whole comes.before (comes.whole refl))

pub returns-in-Ok-None : goal.returns-in-Ok-None
returns-in-Ok-None g c =
    let e = rw c.in-Ok-None.field-0-is at c.in-Ok-None.ensures in
    let comes = e.comes in
    let whole = end_whole comes.before (comes.whole refl) in
    let routes = c.finished.ensures comes.before (comes.stands refl) whole in record {
      reads = record { lines = comes.before; grid = comes.script; whole = whole; is = routes.0; verdict = whole_told _ comes.before comes.verdict };
      fits = routes.1;
      ended = e.ended refl;
      short = λ is. absurd cc;
      read = λ is. absurd cc;
      source = e.source;
      most = e.most;
      needed = e.needed;
    }

pub returns-in-Ok-Some : goal.returns-in-Ok-Some
returns-in-Ok-Some g c =
    let e = rw c.in-Ok-Some.field-0-is at c.in-Ok-Some.ensures in
    let comes = e.comes in record {
      reads = rw c.ending_of.ensures (refused_told _ comes.before c.in-Ok-Some.refused comes.verdict);
      fits = tt;
      ended = tt;
      short = λ is. absurd (never_read c.in-Ok-Some.refused c.ending_of.result c.ending_of.ensures is);
      read = λ is. absurd (never_read c.in-Ok-Some.refused c.ending_of.result c.ending_of.ensures is);
      source = e.source;
      most = e.most;
      needed = e.needed;
    }
