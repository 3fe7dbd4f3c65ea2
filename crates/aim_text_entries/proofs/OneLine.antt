-- No text has the end of a line in it.
use Rattle.std.proofs.Common.{ℕ}
use Rattle.aim_messages.specs.declared.replies.Reply.{Reply}
use Rattle.aim_messages.specs.declared.entries.Entry.{Entry}
use Rattle.aim_messages.specs.Texts.{reply_words, reply_text, entry_words, entry_text, IsOneLine}
use Rattle.aim_text_words.specs.Ranges.{Is32}
use Rattle.aim_text_entries.specs.Ranges.{IsReply, IsEntry}
use Rattle.aim_text_entries.proofs.EntryAgain.{reply_are_words, entry_are_words}
use Rattle.aim_text_words.proofs.OneLine.{words_end_none}

pub reply_is_one_line : (a : Reply) → IsReply a → IsOneLine (reply_text a)
reply_is_one_line a r = words_end_none (reply_words a) (reply_are_words a r)

pub entry_is_one_line : (place : ℕ) (e : Entry) → Is32 place → IsEntry e → IsOneLine (entry_text place e)
entry_is_one_line place e p r = words_end_none (entry_words place e) (entry_are_words place e p r)
