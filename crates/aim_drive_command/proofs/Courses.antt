-- A course with more replies goes the same way, up to the call for which the other has no reply left.
use Rattle.std.proofs.Common.{◌≡◌, ◌⊎◌, inl, inr, ℕ, zero, suc, ◌+◌, ◌-◌, Bool, true, false, List, [], ◌∷◌, ◌++◌, length, slice_get, Option, Some, None, if◌then◌else◌, refl, sym, ◌∙◌, ap, subst, arith}
use Rattle.std.proofs.lemmas.List.{append-nil, append_assoc, length_push}
use Rattle.aim_messages.specs.declared.messages.Message.{Message}
use Rattle.aim_messages.specs.declared.replies.Reply.{Reply}
use Rattle.aim_driver.specs.declared.plans.DrivePlan.{DrivePlan}
use Rattle.aim_driver.specs.declared.links.Fate.{Fate}
use Rattle.aim_driver.specs.Links.{under_way, delivered}
use Rattle.aim_driver.specs.Turns.{State, begun}
use Rattle.aim_driver.specs.Follows.{Call, Course, running, halted, call, taken, answered, called, calls_with, one_call, some_calls, calling, turn, turns, fresh, follows}
use Rattle.aim_drive_command.proofs.Lists.{get_within}

-- the calls go on
abbrev GoesOn : List Call → List Call → Type 0
GoesOn before after = (rest : List Call) × (after ≡ before ++ rest)

goes_on_self : (calls : List Call) → GoesOn calls calls
goes_on_self calls = ([], sym (append-nil calls))

goes_on_then : (xs ys zs : List Call) → GoesOn xs ys → GoesOn ys zs → GoesOn xs zs
goes_on_then xs ys zs p q = (p.0 ++ q.0, q.1 ∙ ap (λ l. l ++ q.0) p.1 ∙ append_assoc xs p.0 q.0)

call_goes_on : (step : ℕ) (c : Course) → GoesOn c.calls (one_call step c).calls
call_goes_on step c = go c.goes_on (delivered c.state.up step)
  where
    made : (m : Message) (rs : List Reply) → GoesOn c.calls (called step c m rs).calls
    made m [] = (call step m ∷ [], refl)
    made m (r ∷ rs) = (call step m ∷ [], refl)

    go : (b : Bool) (o : Option Message) → GoesOn c.calls (if b then calls_with step c o else c).calls
    go true None = goes_on_self c.calls
    go true (Some m) = made m c.left
    go false o = goes_on_self c.calls

some_go_on : (step n : ℕ) (c : Course) → GoesOn c.calls (some_calls step n c).calls
some_go_on step zero c = goes_on_self c.calls
some_go_on step (suc n) c =
    let d : Course = some_calls step n c in
    goes_on_then c.calls d.calls (one_call step d).calls (some_go_on step n c) (call_goes_on step d)

turn_goes_on : (plan : DrivePlan) (step : ℕ) (c : Course) → GoesOn c.calls (turn plan step c).calls
turn_goes_on plan step c = go c.goes_on
  where
    go : (b : Bool) → GoesOn c.calls (if b then calling step (record c { state = begun plan step c.state }) else c).calls
    go true = some_go_on step (under_way (begun plan step c.state).up) (record c { state = begun plan step c.state })
    go false = goes_on_self c.calls

-- the second course has the replies that are left, the first has `more` behind them, and else they are the same
record Alike (count : ℕ) (more : List Reply) (c d : Course) : Type 0 where
  pub state : State
  pub calls : List Call
  pub left : List Reply
  pub one : c ≡ running state calls (left ++ more)
  pub other : d ≡ running state calls left
  pub all : length calls + length left ≡ count

-- the second course has halted at its last call, and the first has made these calls too
record Past (count : ℕ) (c d : Course) : Type 0 where
  pub halt : d.goes_on ≡ false
  pub all : length d.calls ≡ suc count
  pub begins : GoesOn d.calls c.calls

abbrev Leads : ℕ → List Reply → Course → Course → Type 0
Leads count more c d = Alike count more c d ⊎ Past count c d

past_on : (count : ℕ) (c d x y : Course) → y ≡ d → GoesOn c.calls x.calls → Past count c d → Past count x y
past_on count c d x y same on p =
    subst (λ z. Past count x z) (sym same) (record { halt = p.halt; all = p.all; begins = goes_on_then d.calls c.calls x.calls p.begins on })

-- a message comes
leads_called : (count step : ℕ) (more : List Reply) (s : State) (calls : List Call) (m : Message) (left : List Reply) → length calls + length left ≡ count
    → Leads count more (called step (running s calls (left ++ more)) m (left ++ more)) (called step (running s calls left) m left)
leads_called count step more s calls m (r ∷ left) all =
    let n : length (calls ++ call step m ∷ []) ≡ length calls + 1 = length_push calls (call step m) in
    let a : length calls + suc (length left) ≡ count = all in
    inl (record { state = answered step s m r; calls = calls ++ call step m ∷ []; left = left; one = refl; other = refl; all = omega arith })
leads_called count step more s calls m [] all = inr (halts more)
  where
    longer : length (calls ++ call step m ∷ []) ≡ suc count
    longer =
        let n : length (calls ++ call step m ∷ []) ≡ length calls + 1 = length_push calls (call step m) in
        let a : length calls + 0 ≡ count = all in
        omega arith

    halts : (more : List Reply) → Past count (called step (running s calls more) m more) (halted (taken step s) (calls ++ call step m ∷ []))
    halts [] = record { halt = refl; all = longer; begins = goes_on_self (calls ++ call step m ∷ []) }
    halts (r ∷ rs) = record { halt = refl; all = longer; begins = goes_on_self (calls ++ call step m ∷ []) }

leads_alike : (count step : ℕ) (more : List Reply) (s : State) (calls : List Call) (left : List Reply) → length calls + length left ≡ count
    → Leads count more (one_call step (running s calls (left ++ more))) (one_call step (running s calls left))
leads_alike count step more s calls left all = comes (delivered s.up step)
  where
    comes : (o : Option Message) → Leads count more (calls_with step (running s calls (left ++ more)) o) (calls_with step (running s calls left) o)
    comes None = inl (record { state = s; calls = calls; left = left; one = refl; other = refl; all = all })
    comes (Some m) = leads_called count step more s calls m left all

leads_call : (count step : ℕ) (more : List Reply) (c d : Course) → Leads count more c d → Leads count more (one_call step c) (one_call step d)
leads_call count step more c d (inl t) =
    subst (λ x. Leads count more (one_call step x) (one_call step d)) (sym t.one)
    (subst (λ y. Leads count more (one_call step (running t.state t.calls (t.left ++ more))) (one_call step y)) (sym t.other) (leads_alike count step more t.state t.calls t.left t.all))
leads_call count step more c d (inr p) =
    inr (past_on count c d (one_call step c) (one_call step d) (ap (λ b. if b then calls_with step d (delivered d.state.up step) else d) p.halt) (call_goes_on step c) p)

leads_some : (count step n : ℕ) (more : List Reply) (c d : Course) → Leads count more c d → Leads count more (some_calls step n c) (some_calls step n d)
leads_some count step zero more c d l = l
leads_some count step (suc n) more c d l = leads_call count step more (some_calls step n c) (some_calls step n d) (leads_some count step n more c d l)

leads_turn : (count : ℕ) (more : List Reply) (plan : DrivePlan) (step : ℕ) (c d : Course) → Leads count more c d → Leads count more (turn plan step c) (turn plan step d)
leads_turn count more plan step c d (inl t) =
    let s : State = begun plan step t.state in
    let on : Leads count more (some_calls step (under_way s.up) (running s t.calls (t.left ++ more))) (some_calls step (under_way s.up) (running s t.calls t.left)) =
    leads_some count step (under_way s.up) more (running s t.calls (t.left ++ more)) (running s t.calls t.left)
    (inl (record { state = s; calls = t.calls; left = t.left; one = refl; other = refl; all = t.all })) in
    subst (λ x. Leads count more (turn plan step x) (turn plan step d)) (sym t.one)
    (subst (λ y. Leads count more (turn plan step (running t.state t.calls (t.left ++ more))) (turn plan step y)) (sym t.other) on)
leads_turn count more plan step c d (inr p) =
    inr (past_on count c d (turn plan step c) (turn plan step d) (ap (λ b. if b then calling step (record d { state = begun plan step d.state }) else d) p.halt) (turn_goes_on plan step c) p)

leads_turns : (count : ℕ) (more : List Reply) (plan : DrivePlan) (first n : ℕ) (c d : Course) → Leads count more c d → Leads count more (turns plan first n c) (turns plan first n d)
leads_turns count more plan first zero c d l = l
leads_turns count more plan first (suc n) c d l =
    leads_turn count more plan (first + n) (turns plan first n c) (turns plan first n d) (leads_turns count more plan first n c d l)

same_call : (count : ℕ) (more : List Reply) (c d : Course) → Leads count more c d → slice_get c.calls count ≡ slice_get d.calls count
same_call count more c d (inl t) = ap (λ (x : Course). slice_get x.calls count) t.one ∙ sym (ap (λ (x : Course). slice_get x.calls count) t.other)
same_call count more c d (inr p) =
    let a : length d.calls ≡ suc count = p.all in
    ap (λ (l : List Call). slice_get l count) p.begins.1 ∙ get_within d.calls p.begins.0 count (omega arith)

pub next_call : (plan : DrivePlan) (up down : List Fate) (until : ℕ) (replies more : List Reply)
    → slice_get (follows plan up down until (replies ++ more)).1 (length replies) ≡ slice_get (follows plan up down until replies).1 (length replies)
next_call plan up down until replies more =
    let c : Course = running (fresh up down) [] (replies ++ more) in
    let d : Course = running (fresh up down) [] replies in
    same_call (length replies) more (turns plan 0 (until - 0) c) (turns plan 0 (until - 0) d)
    (leads_turns (length replies) more plan 0 (until - 0) c d (inl (record { state = fresh up down; calls = []; left = replies; one = refl; other = refl; all = omega arith })))
