use Rattle.std.proofs.Common.{ap, subst, ◌∙◌, ℕ, ◌<◌, get_or}
use Rattle.aim_mail.specs.Calls.{ClientModel, IsNewClient}
use Rattle.aim_mail.specs.Mail.{setting_of}
use Rattle.aim_mail.proofs.Opens.{ok_iff, err_iff, not_room, not_vehicles}
use Rattle.aim_mail.proofs.mailbox.Mailbox.open.Goals as goal

pub returns-in-Ok-clause-server : goal.returns-in-Ok-clause-server
returns-in-Ok-clause-server g c = c.employed.ensures.server ∙ ap setting_of c.in_ok-book.ensures.book

pub returns-in-Ok-clause-count : goal.returns-in-Ok-clause-count
returns-in-Ok-clause-count g c = c.employed.ensures.count ∙ ap (λ b. b.vehicles) c.in_ok-book.ensures.book

pub returns-in-Ok-clause-clients : goal.returns-in-Ok-clause-clients
returns-in-Ok-clause-clients g c =
    subst (λ n. (k : ℕ) (d : ClientModel) → k < n → IsNewClient c.employed.result.server k (get_or c.employed.result.clients.items k d)) (ap (λ b. b.vehicles) c.in_ok-book.ensures.book) c.employed.ensures.clients

pub returns-in-Ok-clause-vehicles : goal.returns-in-Ok-clause-vehicles
returns-in-Ok-clause-vehicles g c = ok_iff _ _ _ _ c.in_ok-book.ensures.vehicles

pub returns-in-Ok-clause-room : goal.returns-in-Ok-clause-room
returns-in-Ok-clause-room g c = ok_iff _ _ _ _ c.in_ok-book.ensures.room

pub returns-in-Err-clause-vehicles : goal.returns-in-Err-clause-vehicles
returns-in-Err-clause-vehicles g c = err_iff _ _ _ _ not_vehicles c.in_ok-book.ensures.vehicles

pub returns-in-Err-clause-room : goal.returns-in-Err-clause-room
returns-in-Err-clause-room g c = err_iff _ _ _ _ not_room c.in_ok-book.ensures.room
