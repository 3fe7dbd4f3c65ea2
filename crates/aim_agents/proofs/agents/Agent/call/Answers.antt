use Rattle.std.proofs.Common.{refl, ap, ◌∙◌}
use Rattle.aim_agents.specs.declared.agents.Trouble.TheVariants as trouble
use Rattle.aim_agents.proofs.Sheets.{stands_awake}
use Rattle.aim_agents.proofs.Turns.{called_as, failed_with}
use Rattle.aim_agents.proofs.agents.Agent.call.Goals as goal

pub returns : goal.returns
returns g c =
    let asked = c.in_ok-reply.ensures in
    called_as _ _ _ _ _ _ _ c.self.view_is record {
      same = asked.same;
      driver = refl;
      up = refl;
      room = asked.room;
      why = refl;
      was = c.self.invariant.whole;
      whole = asked.served.whole;
      did = record { reply = c.in_ok-reply.reply; extends = asked.served; down = c.in_ok-send.ensures.ok };
    }

pub returns-in_err-send : goal.returns-in_err-send
returns-in_err-send g c =
    let asked = c.in_ok-reply.ensures in
    let result = c.from_residual-in_err-send.result in
    called_as _ _ _ _ _ _ _ c.self.view_is record {
      same = asked.same;
      driver = refl;
      up = refl;
      room = asked.room;
      why = refl;
      was = c.self.invariant.whole;
      whole = asked.served.whole;
      did = failed_with _ _ result trouble.NoMemory c.from_residual-in_err-send.ensures.1 (c.in_ok-reply.reply, asked.served);
    }

pub returns-in_err-reply : goal.returns-in_err-reply
returns-in_err-reply g c =
    let asked = c.in_err-reply.ensures in
    let result = c.from_residual.result in
    called_as _ _ _ _ _ _ _ c.self.view_is record {
      same = asked.same;
      driver = refl;
      up = refl;
      room = asked.room;
      why = refl;
      was = c.self.invariant.whole;
      whole = asked.served.whole;
      did = failed_with _ _ result trouble.Full c.from_residual.ensures.1 (asked.served, refl);
    }

pub invariant_of-self : goal.invariant_of-self
invariant_of-self g c = stands_awake _ _ _ _ _ _ c.in_err-reply.ensures.served.whole c.in_err-reply.ensures.kept (ap (λ x. x.trouble) c.self.view_is ∙ c.requires.calm)

pub invariant_of-self-in_err-send : goal.invariant_of-self-in_err-send
invariant_of-self-in_err-send g c = stands_awake _ _ _ _ _ _ c.in_ok-reply.ensures.served.whole c.in_ok-reply.ensures.kept (ap (λ x. x.trouble) c.self.view_is ∙ c.requires.calm)

pub invariant_of-self-2 : goal.invariant_of-self-2
invariant_of-self-2 g c = stands_awake _ _ _ _ _ _ c.in_ok-reply.ensures.served.whole c.in_ok-reply.ensures.kept (ap (λ x. x.trouble) c.self.view_is ∙ c.requires.calm)
