use Rattle.aim_drive_command.proofs.RunLemmas.{if_ok, is_summary}
use Rattle.aim_drive_command.proofs.generating.text_of_traffic.Goals as goal

pub returns : goal.returns
returns g c =
    if_ok c.summary_of.result (λ text. is_summary c.args.number c.args.count c.in_ok-script.script c.in_ok-script.ensures.script _ _ c.in_ok-drove.ensures.headline text.items) c.summary_of.ensures
