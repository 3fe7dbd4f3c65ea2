use Rattle.aim_messages.specs.Texts.{reason_words}
use Rattle.aim_messages.proofs.Words.{said, room, word_room}
use Rattle.aim_messages.proofs.writing.entries.put_reason.Goals as goal

pub returns-in-Holds : goal.returns-in-Holds
returns-in-Holds c = record {
  added = said reason_words _ _ _ _ c.in-Holds.is c.put_field.ensures.added;
  len = room _ _ 26 24 c.put_field.ensures.len;
}

pub returns-in-NoReservation : goal.returns-in-NoReservation
returns-in-NoReservation c = record {
  added = said reason_words _ _ _ _ c.in-NoReservation.is c.word.ensures.added;
  len = word_room _ _ 14 35 c.word.ensures.len;
}

pub returns-in-Begun : goal.returns-in-Begun
returns-in-Begun c = record {
  added = said reason_words _ _ _ _ c.in-Begun.is c.put_field-in-Begun.ensures.added;
  len = room _ _ 26 24 c.put_field-in-Begun.ensures.len;
}

pub returns-in-TooSoon : goal.returns-in-TooSoon
returns-in-TooSoon c = record {
  added = said reason_words _ _ _ _ c.in-TooSoon.is c.put_field-in-TooSoon.ensures.added;
  len = room _ _ 26 24 c.put_field-in-TooSoon.ensures.len;
}

pub returns-in-Late : goal.returns-in-Late
returns-in-Late c = record {
  added = said reason_words _ _ _ _ c.in-Late.is c.put_field-in-Late.ensures.added;
  len = room _ _ 26 24 c.put_field-in-Late.ensures.len;
}

pub returns-in-Far : goal.returns-in-Far
returns-in-Far c = record {
  added = said reason_words _ _ _ _ c.in-Far.is c.put_field-in-Far.ensures.added;
  len = room _ _ 26 24 c.put_field-in-Far.ensures.len;
}

pub returns-in-Taken : goal.returns-in-Taken
returns-in-Taken c = record {
  added = said reason_words _ _ _ _ c.in-Taken.is c.put_cell-in-Taken.ensures.added;
  len = room _ _ 50 0 c.put_cell-in-Taken.ensures.len;
}

pub returns-in-Reused : goal.returns-in-Reused
returns-in-Reused c = record {
  added = said reason_words _ _ _ _ c.in-Reused.is c.put_field-in-Reused.ensures.added;
  len = room _ _ 26 24 c.put_field-in-Reused.ensures.len;
}
