use Rattle.std.proofs.Common.{refl}
use Rattle.atomic_table.proofs.Lists.{at_index}
use Rattle.aim_mail.proofs.Deals.{same_slips, ended_ends}
use Rattle.aim_mail.proofs.server.note_end.Goals as goal

pub returns-clause-slips : goal.returns-clause-slips
returns-clause-slips c = rw c.end.ensures (same_slips _ _ _ _ (at_index _ _ _ c.requires.from c.index_mut.ensures.value) c.requires.from record { table = refl; key = refl; ended = λ z. refl })

pub returns-clause-stands : goal.returns-clause-stands
returns-clause-stands c = ended_ends _ _ _ _ (at_index _ _ _ c.requires.from c.index_mut.ensures.value) c.end.ensures
