-- What the program tells of itself.
use Rattle.std.specs.Prelude.{ℕ, List}
use Rattle.aim.specs.declared.help.Topic.{Topic}
use Rattle.aim.specs.declared.help.Topic.TheVariants as topic
use Rattle.aim.specs.declared.help.TheConstants as told

-- what the help tells of a topic
abbrev pub text_of : Topic → List ℕ
text_of topic.Words = told.WORDS.now
text_of topic.Replay = told.REPLAY.now
text_of topic.ReplayJson = told.REPLAY_JSON.now
text_of topic.Session = told.SESSION.now
text_of topic.Chart = told.CHART.now
text_of topic.Drive = told.DRIVE.now
text_of topic.Grid = told.GRID.now
text_of topic.Mail = told.MAIL.now
text_of topic.Shards = told.SHARDS.now
text_of topic.Generate = told.GENERATE.now
text_of topic.Help = told.HELP.now
text_of topic.Version = told.VERSION_OF.now

-- the versions of the program, and of the scripts that it reads
abbrev pub versions : List ℕ
versions = told.VERSIONS.now
