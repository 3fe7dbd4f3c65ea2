use Rattle.std.proofs.Common.{◌≡◌, ℕ, ◌+◌, List, length, length-append, map, sym, ap, ◌∙◌, subst}
use Rattle.std.specs.Prelude.{All}
use Rattle.std.proofs.lemmas.List.{length-map}
use Rattle.aim_agents.specs.Agents.{AgentModel, AgentPass}
use Rattle.aim_drive.specs.Closing.{IsClosed}
use Rattle.aim_drive.proofs.running.closed.Goals as goal

pub close-journal-requires-clause-own : goal.close-journal-requires-clause-own
close-journal-requires-clause-own c = (
  subst (λ (l : List AgentPass). All (λ (p : AgentPass). p.table ≡ c.args.manager.table) l) (sym c.in_ok-logs.ensures.passes) c.requires.own,
  c.requires.operator,
)

pub close-journal-requires-clause-all : goal.close-journal-requires-clause-all
close-journal-requires-clause-all c =
    let pass : AgentModel → AgentPass = λ a. a.pass in
    ap (λ (l : List AgentPass). length l) c.in_ok-logs.ensures.passes ∙ length-append c.args.passes.items (map pass c.args.agents.items)
    ∙ ap (λ (n : ℕ). length c.args.passes.items + n) (length-map c.args.agents.items pass) ∙ c.requires.all

pub returns : goal.returns
returns c =
    let e = c.close-journal.ensures in
    record {
      memory = c.requires.memory;
      closed = subst (λ (l : List AgentPass). IsClosed c.args.manager.setting l c.args.operator c.close-journal.result.journal.items) c.in_ok-logs.ensures.passes
          (record { legal = e.legal; passes = e.passes; numbers = e.numbers; others = e.others; count = e.count });
      fits = e.fits;
      logs = c.in_ok-logs.ensures.logs;
    }
