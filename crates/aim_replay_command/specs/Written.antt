-- What it means that a text was written, or not whole.
use Rattle.std.specs.Prelude.{◌≡◌, ℕ, ◌≤◌, true, List, Option, Result, Err, OnOk, OnErr}
use Rattle.std.specs.Io.KnownBytes.{Appends}
use Rattle.aim_io.specs.Causes.{Rose}
use Rattle.aim_io.specs.Known.{AppendsFront}
use Rattle.aim_script.specs.Spellings.{Spelled}
use Rattle.aim_replay_command.specs.declared.faults.Unwritten.{Unwritten}
use Rattle.aim_replay_command.specs.declared.faults.Unwritten.TheVariants as unwritten

-- the text was written, or a front of it where the sink has failed or, in a spelling that takes memory, that has run out
pub record Puts {T : Type 0} (w : Spelled) (result : Result T Unwritten) (old now : Option (List ℕ)) (faults_old faults_new : ℕ) (text : List ℕ) : Type 0 where
  pub ok : OnOk result (Appends old now text)
  pub err : OnErr result (AppendsFront old now text)
  pub memory : result ≡ Err unwritten.NoMemory → w.takes_memory ≡ true
  pub write : result ≡ Err unwritten.Write → Rose faults_old faults_new
  pub later : faults_old ≤ faults_new

-- why it isn't, whatever the text
pub record HasPutCause {T : Type 0} (w : Spelled) (result : Result T Unwritten) (faults_old faults_new : ℕ) : Type 0 where
  pub memory : result ≡ Err unwritten.NoMemory → w.takes_memory ≡ true
  pub write : result ≡ Err unwritten.Write → Rose faults_old faults_new
  pub later : faults_old ≤ faults_new
