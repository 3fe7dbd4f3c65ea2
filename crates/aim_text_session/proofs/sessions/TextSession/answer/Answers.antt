use Rattle.aim_text_session.proofs.sessions.TextSession.answer.Goals as goal

pub returns : goal.returns
returns c before st = record { outcome = c.take.result; comes = c.take.ensures before st; tells = c.answer_of.ensures }
