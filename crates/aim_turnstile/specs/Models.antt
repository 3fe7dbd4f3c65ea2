-- What contracts see of a pass, a front and a turnstile, and what calls do to them.
use Rattle.std.specs.Prelude.{◌≡◌, ℕ, Bool, List, [], ◌∷◌, ◌++◌, MatchBool, Option, Some}
use Rattle.atomic_table.specs.Seated.{TableId}
use Rattle.aim_turnstile.specs.History.{entries_of, Begins}

-- a pass: its turnstile and that one's setting, its number, the history that it has seen, and the number's entries there
pub record PassModel (S E : Type 0) : Type 0 where
  pub table : TableId
  pub setting : Option S
  pub number : ℕ
  pub seen : List E
  pub mine : List E

-- a front: its turnstile and that one's setting, and the history that was seen
pub record FrontModel (S E : Type 0) : Type 0 where
  pub table : TableId
  pub setting : Option S
  pub seen : List E

-- a turnstile: its name, what no call changes, and the numbers that it was opened with
pub record TurnstileModel (S : Type 0) : Type 0 where
  pub table : TableId
  pub setting : S
  pub numbers : List ℕ

-- a new pass of the turnstile
abbrev pub new_pass : {S E : Type 0} → TurnstileModel S → ℕ → PassModel S E
new_pass t n = record { table = t.table; setting = Some t.setting; number = n; seen = []; mine = [] }

module _ {S E : Type 0} where
  -- the pass is of this turnstile
  pub record IsPassOf (t : TurnstileModel S) (p : PassModel S E) : Type 0 where
    pub table : p.table ≡ t.table
    pub setting : p.setting ≡ Some t.setting

  -- the pass is of the same turnstile and number as before
  pub record IsSamePass (old new : PassModel S E) : Type 0 where
    pub table : new.table ≡ old.table
    pub setting : new.setting ≡ old.setting
    pub number : new.number ≡ old.number

-- What was seen grew to a history `before`, at whose end the call did its work. What is seen then ends with its entry, if it made one.
pub record MakesCall {S E C A : Type 0} (caller_of : E → ℕ) (is_lawful : S → List E → Type 0) (does : S → ℕ → C → List E → List E → A → Type 0) (s : S) (call : C) (answer : A) (made : Bool) (old new : PassModel S E) : Type 0 where
  pub grows : Begins old.seen new.seen
  pub before : List E
  pub begins : Begins old.seen before
  pub own : entries_of caller_of old.number before ≡ old.mine
  pub did : does s old.number call before new.seen answer
  pub entry : MatchBool made ((e : E) × (new.seen ≡ before ++ e ∷ []) × (caller_of e ≡ old.number) × (new.mine ≡ old.mine ++ e ∷ [])) ((new.seen ≡ before) × (new.mine ≡ old.mine))
  pub lawful : is_lawful s new.seen
  pub mine : entries_of caller_of new.number new.seen ≡ new.mine

-- the history begins with what the pass has seen, and its number has there exactly what the pass has
abbrev pub HasPass : {S E : Type 0} → (E → ℕ) → List E → PassModel S E → Type 0
HasPass caller_of log p = Begins p.seen log × (entries_of caller_of p.number log ≡ p.mine)

-- What is seen is then a lawful history that begins with what was seen and with what the front shows, and has the same entries of the number.
pub record MeetsFront {S E : Type 0} (caller_of : E → ℕ) (is_lawful : S → List E → Type 0) (s : S) (old : PassModel S E) (front : FrontModel S E) (new : PassModel S E) : Type 0 where
  pub begins : Begins old.seen new.seen
  pub shows : Begins front.seen new.seen
  pub lawful : is_lawful s new.seen
  pub same : new.mine ≡ old.mine
  pub mine : entries_of caller_of new.number new.seen ≡ new.mine
