-- Reading word by word gives what the tables of places say.
use Rattle.std.proofs.Common.{◌≡◌, ℕ, List, [], ◌∷◌, ◌++◌, replicate, Option, Some, None, Result, Ok, Err, refl, ap, ◌∙◌, sym, zero, suc, append_assoc, append-nil}
use Rattle.std.specs.Option.{option_or}
use Rattle.aim_messages.specs.declared.messages.Turn.{Turn}
use Rattle.aim_messages.specs.declared.messages.Params.{Params}
use Rattle.aim_messages.specs.declared.messages.Body.{Body}
use Rattle.aim_messages.specs.declared.messages.Message.{Message}
use Rattle.aim_messages.specs.declared.script.LineKind.{LineKind}
use Rattle.aim_text_words.specs.declared.forms.MessageForm.{MessageForm}
use Rattle.aim_text_words.specs.declared.forms.MessageForm.TheVariants as message
use Rattle.aim_messages.specs.Texts.{Words}
use Rattle.aim_text_words.specs.Faults.{Place, first, rest, from, word_at, value_of, fault_at, behind, number32, later_than}
use Rattle.aim_text_words.specs.Forms.{vehicle_places, params_places, message_places}
use Rattle.aim_text_words.specs.Reading.{at, unless, params_at, body_of, message_of, is_emergency}
use Rattle.aim_text_words.specs.Steps.{◌>>=◌, with_rest, read_in, vehicle_in, params_in, windowed_in, body_in, message_in, numbers_in}

-- where no fault stands before, the rest decides
pub bind_unless : {A B : Type 0} (x : A) (fault : Option LineKind) (f : A → Result B LineKind) (b : B) (later : Option LineKind)
    → f x ≡ unless b later → (unless x fault >>= f) ≡ unless b (option_or fault later)
bind_unless x None f b later h = h
bind_unless x (Some k) f b later h = refl

pub bind_read : {A B : Type 0} (p : Place) (value : List ℕ → A) (ws : Words) (f : A × Words → Result B LineKind) (b : B) (later : Option LineKind)
    → f (value (first ws), rest ws) ≡ unless b later → (read_in p value ws >>= f) ≡ unless b (option_or (fault_at p ws) later)
unfolding read_in
bind_read {A = A} {B = B} p value ws f b later h = by_fault (fault_at p ws)
  where
    by_fault : (fault : Option LineKind) → (with_rest (rest ws) (unless (value (first ws)) fault) >>= f) ≡ unless b (option_or fault later)
    by_fault None = h
    by_fault (Some k) = refl

-- a word is read, then the rest by g, and what g gives goes on to f: the word's fault is the first
pub bind_more : {A B C : Type 0} (p : Place) (value : List ℕ → A) (ws : Words) (g : A × Words → Result B LineKind) (f : B → Result C LineKind) (c : C) (later : Option LineKind)
    → (g (value (first ws), rest ws) >>= f) ≡ unless c later → ((read_in p value ws >>= g) >>= f) ≡ unless c (option_or (fault_at p ws) later)
unfolding read_in
bind_more {A = A} {B = B} {C = C} p value ws g f c later h = by_fault (fault_at p ws)
  where
    by_fault : (fault : Option LineKind) → ((with_rest (rest ws) (unless (value (first ws)) fault) >>= g) >>= f) ≡ unless c (option_or fault later)
    by_fault None = h
    by_fault (Some k) = refl

pub bind_assoc : {A B C : Type 0} (r : Result A LineKind) (g : A → Result B LineKind) (f : B → Result C LineKind) → ((r >>= g) >>= f) ≡ (r >>= λ a. g a >>= f)
bind_assoc (Ok a) g f = refl
bind_assoc (Err k) g f = refl

-- the numbers of so many words
abbrev pub numbers_at : ℕ → Words → List ℕ
numbers_at zero ws = []
numbers_at (suc n) ws = value_of (first ws) ∷ numbers_at n (rest ws)

-- the faults of some places, and then those behind them
abbrev pub faults_then : List Place → Words → Option LineKind → Option LineKind
faults_then [] words later = later
faults_then (p ∷ ps) words later = option_or (fault_at p words) (faults_then ps (rest words) later)

pub numbers_step : {B : Type 0} (before : List ℕ) (n : ℕ) (ws : Words) (f : List ℕ × Words → Result B LineKind) (b : B) (later : Option LineKind)
    → f (before ++ numbers_at n ws, from n ws) ≡ unless b later
    → (numbers_in before n ws >>= f) ≡ unless b (faults_then (replicate n number32) ws later)
unfolding numbers_in
numbers_step before zero ws f b later h = ap (λ xs. f (xs, ws)) (sym (append-nil before)) ∙ h
numbers_step before (suc n) ws f b later h =
    bind_more _ _ _ _ _ _ _ (numbers_step (before ++ value_of (first ws) ∷ []) n (rest ws) f b later
    (ap (λ xs. f (xs, from n (rest ws))) (append_assoc before (value_of (first ws) ∷ []) (numbers_at n (rest ws))) ∙ h))

abbrev pub vehicle_at : ℕ → Turn → ℕ → Words → Params
vehicle_at lane turn arrive words = record {
  lane = lane;
  turn = turn;
  arrive = arrive;
  latest = arrive;
  speed = at words 0;
  max_speed = at words 1;
  accel = at words 2;
  length = at words 3;
  width = at words 4;
  emergency = is_emergency (word_at words 5);
}

pub vehicle_step : {B : Type 0} (lane : ℕ) (turn : Turn) (arrive : ℕ) (ws : Words) (f : Params × Words → Result B LineKind) (b : B) (later : Option LineKind)
    → f (vehicle_at lane turn arrive ws, from 6 ws) ≡ unless b later
    → (vehicle_in lane turn arrive ws >>= f) ≡ unless b (faults_then vehicle_places ws later)
unfolding vehicle_in
vehicle_step lane turn arrive ws f b later h = bind_assoc (numbers_in [] 5 ws) _ f ∙ numbers_step [] 5 ws _ b _ (bind_more _ _ _ _ _ _ _ h)

params_step : {B : Type 0} (ws : Words) (f : Params × Words → Result B LineKind) (b : B) (later : Option LineKind)
    → f (params_at ws 0 (at ws 2) (at ws 2) 3, from 9 ws) ≡ unless b later
    → (params_in ws >>= f) ≡ unless b (faults_then params_places ws later)
unfolding params_in
params_step ws f b later h = bind_more _ _ _ _ _ _ _ (bind_more _ _ _ _ _ _ _ (bind_more _ _ _ _ _ _ _ (vehicle_step _ _ _ _ f b later h)))

params_more : {B C : Type 0} (ws : Words) (g : Params × Words → Result B LineKind) (f : B → Result C LineKind) (c : C) (later : Option LineKind)
    → (g (params_at ws 0 (at ws 2) (at ws 2) 3, from 9 ws) >>= f) ≡ unless c later
    → ((params_in ws >>= g) >>= f) ≡ unless c (faults_then params_places ws later)
params_more ws g f c later h = bind_assoc (params_in ws) g f ∙ params_step ws (λ x. g x >>= f) c later h

-- the places of params and of a last step of arrival above that one
abbrev windowed_places : ℕ → List Place
windowed_places arrive = params_places ++ later_than arrive ∷ []

windowed_step : {B : Type 0} (ws : Words) (f : Params × Words → Result B LineKind) (b : B) (later : Option LineKind)
    → f (params_at ws 0 (at ws 2) (at ws 9) 3, from 10 ws) ≡ unless b later
    → (windowed_in ws >>= f) ≡ unless b (faults_then (windowed_places (at ws 2)) ws later)
unfolding windowed_in
windowed_step ws f b later h = bind_assoc (params_in ws) _ f ∙ params_step ws _ b _ (bind_more _ _ _ _ _ _ _ h)

windowed_more : {B C : Type 0} (ws : Words) (g : Params × Words → Result B LineKind) (f : B → Result C LineKind) (c : C) (later : Option LineKind)
    → (g (params_at ws 0 (at ws 2) (at ws 9) 3, from 10 ws) >>= f) ≡ unless c later
    → ((windowed_in ws >>= g) >>= f) ≡ unless c (faults_then (windowed_places (at ws 2)) ws later)
windowed_more ws g f c later h = bind_assoc (windowed_in ws) g f ∙ windowed_step ws (λ x. g x >>= f) c later h

-- the places of a message's words behind its number, of all of them
abbrev pub body_places : MessageForm → Words → List Place
body_places message.Request words = params_places
body_places message.RequestInWindow words = windowed_places (at words 3)
body_places message.Change words = number32 ∷ params_places
body_places message.ChangeInWindow words = number32 ∷ windowed_places (at words 4)
body_places message.Cancel words = number32 ∷ []
body_places message.Done words = number32 ∷ []

body_step : {B : Type 0} (m : MessageForm) (ws : Words) (f : Body × Words → Result B LineKind) (b : B) (later : Option LineKind)
    → f (body_of m ws, behind (body_places m ws) (rest ws)) ≡ unless b later
    → (body_in m (rest ws) >>= f) ≡ unless b (faults_then (body_places m ws) (rest ws) later)
unfolding body_in
body_step message.Request ws f b later h = params_more _ _ f b later h
body_step message.RequestInWindow ws f b later h = windowed_more _ _ f b later h
body_step message.Change ws f b later h = bind_more _ _ _ _ _ _ _ (params_more _ _ f b later h)
body_step message.ChangeInWindow ws f b later h = bind_more _ _ _ _ _ _ _ (windowed_more _ _ f b later h)
body_step message.Cancel ws f b later h = bind_more _ _ _ _ _ _ _ h
body_step message.Done ws f b later h = bind_more _ _ _ _ _ _ _ h

body_more : {B C : Type 0} (m : MessageForm) (ws : Words) (g : Body × Words → Result B LineKind) (f : B → Result C LineKind) (c : C) (later : Option LineKind)
    → (g (body_of m ws, behind (body_places m ws) (rest ws)) >>= f) ≡ unless c later
    → ((body_in m (rest ws) >>= g) >>= f) ≡ unless c (faults_then (body_places m ws) (rest ws) later)
body_more m ws g f c later h = bind_assoc (body_in m (rest ws)) g f ∙ body_step m ws (λ x. g x >>= f) c later h

pub message_step : {B : Type 0} (m : MessageForm) (ws : Words) (f : Message × Words → Result B LineKind) (b : B) (later : Option LineKind)
    → f (message_of m ws, behind (message_places m ws) ws) ≡ unless b later
    → (message_in m ws >>= f) ≡ unless b (faults_then (message_places m ws) ws later)
unfolding message_in
message_step message.Request ws f b later h = bind_more _ _ _ _ _ _ _ (body_more message.Request ws _ f b later h)
message_step message.RequestInWindow ws f b later h = bind_more _ _ _ _ _ _ _ (body_more message.RequestInWindow ws _ f b later h)
message_step message.Change ws f b later h = bind_more _ _ _ _ _ _ _ (body_more message.Change ws _ f b later h)
message_step message.ChangeInWindow ws f b later h = bind_more _ _ _ _ _ _ _ (body_more message.ChangeInWindow ws _ f b later h)
message_step message.Cancel ws f b later h = bind_more _ _ _ _ _ _ _ (body_more message.Cancel ws _ f b later h)
message_step message.Done ws f b later h = bind_more _ _ _ _ _ _ _ (body_more message.Done ws _ f b later h)
