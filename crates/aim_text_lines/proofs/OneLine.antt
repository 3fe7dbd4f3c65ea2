-- No text has the end of a line in it.
use Rattle.std.proofs.Common.{ℕ}
use Rattle.aim_messages.specs.declared.messages.Message.{Message}
use Rattle.aim_messages.specs.declared.script.Line.{Line}
use Rattle.aim_messages.specs.Texts.{message_words, message_text, IsOneLine}
use Rattle.aim_messages.specs.Lines.{line_words, line_text, KeepsRanges}
use Rattle.aim_text_words.specs.Ranges.{IsMessage}
use Rattle.aim_text_lines.specs.Ranges.{IsLine}
use Rattle.aim_text_words.proofs.MessageWords.{message_are_words}
use Rattle.aim_text_lines.proofs.LineWords.{line_are_words}
use Rattle.aim_text_words.proofs.OneLine.{words_end_none}

pub message_is_one_line : (m : Message) → IsMessage m → IsOneLine (message_text m)
message_is_one_line m r = words_end_none (message_words m) (message_are_words m r)

pub line_is_one_line : (version : ℕ) (l : Line) → IsLine l → KeepsRanges version l → IsOneLine (line_text version l)
line_is_one_line version l r k = words_end_none (line_words version l) (line_are_words version l r k)
