-- What is printed of a drive.
use Rattle.std.specs.Prelude.{ℕ, ◌+◌, List, [], ◌∷◌, ◌++◌, length, codes, decimal}
use Rattle.aim_messages.specs.declared.entries.Entry.{Entry}
use Rattle.aim_messages.specs.Texts.{Words, spaced, entry_text, message_words, reply_words}
use Rattle.aim_layout.specs.Intersection.{Intersection}
use Rattle.aim_driver.specs.declared.logs.LogItem.{LogItem}
use Rattle.aim_driver.specs.declared.logs.LogItem.TheVariants as item
use Rattle.aim_safety.specs.Tiles.{occupied_cells}
use Rattle.aim_script.specs.Decided.{printed}
use Rattle.aim_report.specs.declared.stays.Stay.{Stay}
use Rattle.aim_report.specs.Stays.{stays}

-- the lines of a journal's entries from a position on
abbrev pub journal_lines : ℕ → List Entry → List ℕ
journal_lines position [] = []
journal_lines position (e ∷ es) = printed (entry_text position e) ++ journal_lines (position + 1) es

-- the words of an item of a vehicle's log
abbrev pub item_words : ℕ → LogItem → Words
item_words v (item.Sent step m) = codes "log" ∷ decimal v ∷ codes "sent" ∷ decimal step ∷ message_words m
item_words v (item.Got step seq r) =
    codes "log" ∷ decimal v ∷ codes "got" ∷ decimal step ∷ decimal seq ∷ reply_words r
item_words v (item.Entered step id) = codes "log" ∷ decimal v ∷ codes "entered" ∷ decimal step ∷ decimal id ∷ []

abbrev pub item_line : ℕ → LogItem → List ℕ
item_line v x = printed (spaced (item_words v x))

abbrev pub log_lines : ℕ → List LogItem → List ℕ
log_lines v [] = []
log_lines v (x ∷ xs) = item_line v x ++ log_lines v xs

abbrev pub stay_words : ℕ → Stay → Words
stay_words v s =
    codes "tiles" ∷ decimal v ∷ decimal s.row ∷ decimal s.col ∷ decimal s.first ∷ decimal s.last ∷ []

abbrev pub stay_line : ℕ → Stay → List ℕ
stay_line v s = printed (spaced (stay_words v s))

abbrev pub stay_lines : ℕ → List Stay → List ℕ
stay_lines v [] = []
stay_lines v (s ∷ ss) = stay_line v s ++ stay_lines v ss

-- the lines of the tiles on which the vehicle's driver was
abbrev pub tile_lines : Intersection → List Entry → ℕ → List LogItem → List ℕ
tile_lines i h v log = stay_lines v (stays (occupied_cells i h log))

abbrev pub end_words : ℕ → Words
end_words n = codes "end" ∷ decimal n ∷ []

-- a vehicle and its log
abbrev pub Logged : Type 0
Logged = ℕ × List LogItem

abbrev pub all_logs : List Logged → List ℕ
all_logs [] = []
all_logs (x ∷ xs) = log_lines x.0 x.1 ++ all_logs xs

abbrev pub all_tiles : Intersection → List Entry → List Logged → List ℕ
all_tiles i h [] = []
all_tiles i h (x ∷ xs) = tile_lines i h x.0 x.1 ++ all_tiles i h xs

-- the journal, the logs, the tiles, and the number of entries
abbrev pub report : Intersection → List Entry → List Logged → List ℕ
report i h logs = journal_lines 0 h ++ all_logs logs ++ all_tiles i h logs ++ printed (spaced (end_words (length h)))
