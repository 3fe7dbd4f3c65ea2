-- What is said over the channel of the requests, and its ends, may cross threads. The search alone doesn't find it, since a
-- sheet's nodes refer to one another: so it is shown part by part.
use denote.Param.Send.{AllSend, IsSend, recorded_send, sendable, struct_send}
use denote.Struct.Declared.{Declared, fields, row, shape}
use denote.Struct.Struct.{Struct}
use Rattle.std.proofs.Crossing.{crosses}
use Rattle.std.specs.contracts.option.Option as Option
use Rattle.aim_messages.proofs.replies.Field.TheSendSync as field
use Rattle.aim_layout.proofs.layouts.Layout.TheSendSync as layout
use Rattle.aim_sheets.proofs.Crosses.{sheet_send}
pub use Rattle.aim_sheets.proofs.Crosses.{pool_send}
use Rattle.aim_requests.specs.contracts.requests.Prepared as Prepared
use Rattle.atomic_table.proofs.badge.Badge.TheSendSync as badge
use Rattle.atomic_table.proofs.owned.Table.TheSendSync as table
use Rattle.atomic_table.proofs.shared.Seat.TheSendSync as seat
use Rattle.atomic_table.specs.contracts.badge.Badge as Badge
use Rattle.atomic_table.specs.contracts.shared.Seat as Seat
use Rattle.crossbeam_channel.proofs.bells.Bell.TheSendSync as bell
use Rattle.crossbeam_channel.proofs.flavors.array.Rows.TheSendSync as rows
use Rattle.crossbeam_channel.proofs.flavors.array.ruled.Both.TheSendSync as both
use Rattle.crossbeam_channel.proofs.flavors.array.ruled.Receiving.TheSendSync as receiving
use Rattle.crossbeam_channel.proofs.flavors.array.ruled.Sending.TheSendSync as sending
use Rattle.crossbeam_channel.specs.contracts.flavors.array.Doing as Doing
use Rattle.crossbeam_channel.specs.contracts.flavors.array.Key as Key
use Rattle.aim_mail.specs.contracts.letter.Letter as Letter
use Rattle.aim_mail.specs.contracts.letter.MailSetting as MailSetting
use Rattle.aim_mail.specs.contracts.letter.Word as Word
use Rattle.aim_mail.specs.contracts.post.Hand as Hand
use Rattle.aim_mail.specs.contracts.post.Intake as Intake
use Rattle.aim_mail.specs.contracts.post.Intake.TheInside as IntakeInside
use Rattle.aim_mail.specs.contracts.post.MailNote as MailNote
use Rattle.aim_mail.specs.contracts.post.MailNote.TheInside as NoteInside
use Rattle.aim_mail.specs.contracts.post.Port as Port
use Rattle.aim_mail.specs.contracts.post.Port.TheInside as PortInside

-- a struct crosses where its fields do
pub declared_send : (T : Declared) → AllSend (fields T) → IsSend (row T)
declared_send T s = recorded_send (Struct (shape T)) T.D T.to T.to_one (struct_send (shape T) s)

prepared_send : IsSend Prepared.the_row
prepared_send = search (sendable, crosses, field.the_send, sheet_send) depth 30

setting_send : IsSend MailSetting.the_field.row
setting_send = search (sendable, crosses, layout.the_send) depth 20

word_send : IsSend Word.the_field.row
word_send = search (sendable, crosses, setting_send, prepared_send) depth 30

letter_send : IsSend Letter.the_row
letter_send = search (sendable, crosses, word_send) depth 20

-- the keys and the slots of the channel
letter_slot_send : IsSend (Option.the_row Letter.the_row)
letter_slot_send = search (sendable, crosses, letter_send) depth 30

letter_badge_send : IsSend (Badge.the_row (Key.the_row Letter.the_row))
letter_badge_send = search (sendable, crosses, badge.the_send) depth 30

-- the kinds of what a slot holds are named here: found by comparing, they take too much memory
letter_seat_send : IsSend (Seat.the_field (Badge.the_row (Key.the_row Letter.the_row)) (Doing.the_row Letter.the_row Hand.the_row)).row
letter_seat_send = seat.the_send (Badge.the_row (Key.the_row Letter.the_row)) (Doing.the_row Letter.the_row Hand.the_row) letter_badge_send

-- a note is a pass of the channel
note_inside : IsSend NoteInside.the_row
note_inside = declared_send NoteInside.the_type (letter_seat_send, tt)

pub note_send : IsSend MailNote.the_row
note_send = search (sendable, note_inside)

-- the parts of a channel's ends
pub ruleset ends = (sending.the_send, receiving.the_send, both.the_send, both.the_sync, rows.the_send, rows.the_sync, table.the_send, table.the_sync, bell.the_send, bell.the_sync)

port_inside : IsSend PortInside.the_row
port_inside = declared_send PortInside.the_type (search (sendable, crosses), (search (sendable, crosses, ends, letter_badge_send, letter_slot_send) depth 40, (letter_seat_send, tt)))

pub port_send : IsSend Port.the_row
port_send = search (sendable, port_inside)

intake_inside : IsSend IntakeInside.the_row
intake_inside =
    declared_send IntakeInside.the_type
    (search (sendable, crosses, ends, letter_badge_send, letter_slot_send) depth 40, (search (sendable, crosses, ends, letter_badge_send, letter_slot_send) depth 40, (letter_seat_send, tt)))

pub intake_send : IsSend Intake.the_row
intake_send = search (sendable, intake_inside)
