use Rattle.aim_mail.proofs.Opens.{by_place}
use Rattle.aim_mail.proofs.mailbox.employed.Goals as goal

pub new-requires : goal.new-requires
new-requires g c =
    let s = c.requires.staff in
    record {
      book = (c.requires.book.0, s.slip_count, c.requires.book.2);
      legal = c.requires.book.1;
      intake = (s.got, s.made, s.setting, s.known);
      slips = s.blank;
    }

pub returns-clause-clients : goal.returns-clause-clients
returns-clause-clients g c = rw c.new.ensures (by_place _ _ _ c.requires.staff.client_count c.requires.staff.each)
