-- The journal of a run has the calls of all events.
use Rattle.std.proofs.Common.{◌≡◌, ◌≢◌, ℕ, suc, ◌<◌, ◌≤◌, inl, inr, false, List, [], ◌∷◌, ◌++◌, length, map, get_or, max, Ok, Err, refl, sym, ap, ◌∙◌, subst, arith, append-nil}
use Rattle.std.specs.Prelude.{◌==◌, All}
use Rattle.std.proofs.lemmas.Bool.{eq-eqb}
use Rattle.std.proofs.lemmas.List.{get_or-map, length-map}
use Rattle.std.proofs.lemmas.List.Elements.{All-head, All-tail}
use Rattle.std.proofs.lemmas.Option.{slice_get-get_or}
use Rattle.aim_messages.specs.declared.entries.Act.{Act}
use Rattle.aim_messages.specs.declared.entries.Act.TheVariants as act
use Rattle.aim_messages.specs.declared.entries.Entry.{Entry}
use Rattle.aim_messages.specs.declared.entries.TheConstants.{LATEST_MOMENT, OPERATOR}
use Rattle.aim_layout.specs.Intersection.{Intersection}
use Rattle.aim_rules.specs.Journals.{call_of}
use Rattle.aim_rules.specs.Legal.{IsLegal, MayAct}
use Rattle.aim_book.specs.Sheets.{own}
use Rattle.aim_mail_script.specs.declared.scripts.Event.{Event}
use Rattle.aim_mail_script.specs.declared.scripts.EventScript.{EventScript}
use Rattle.aim_mail_script.specs.Fits.{IsFit}
use Rattle.aim_mail.specs.declared.letter.MailSetting.{MailSetting}
use Rattle.aim_mail.specs.Calls.{Answer, Call as ClientCall, ClientModel, ServerModel, IsNewClient, IsOfMail, IsReply, IsSettled, entries_of, entry_of}
use Rattle.aim_mail.proofs.Clients.{of_same}
use Rattle.aim_mail_command.specs.declared.callers.Caller.{Caller}
use Rattle.aim_mail_command.specs.Runs.{IsRun, event_call, events_by}
use Rattle.aim_mail_command.specs.Calling.{AllByPlace, HasCalled, HasMade, IsNewCaller, call_by}
use Rattle.aim_mail_command.proofs.Places.{element}
use Rattle.aim_mail_command.proofs.Totals.{count_all, count_of, none_kept, sum_below, sum_same, sum_tight}

abbrev caller_of : Entry → ℕ
caller_of e = e.caller

abbrev vehicle_of : Event → ℕ
vehicle_of e = e.vehicle

-- who is not the operator is one of the vehicles
vehicle_known : (i : Intersection) (vehicles caller : ℕ) (a : Act) → MayAct i vehicles caller a → caller ≢ OPERATOR → caller < vehicles
vehicle_known i vehicles caller (act.Message m) may other = may.1
vehicle_known i vehicles caller (act.Order o) may other = absurd (other may.0)

all_known : (i : Intersection) (vehicles : ℕ) (h : List Entry) → IsLegal i vehicles h → own OPERATOR h ≡ [] → All (λ e. caller_of e < vehicles) h
all_known i vehicles h legal none k d lt =
    let e = get_or h k d in
    let no : (e.caller == OPERATOR) ≡ false = none_kept caller_of (λ x. x.caller == OPERATOR) h none k d lt in
    vehicle_known i vehicles e.caller e.act (legal.well_formed k d lt).caller (λ same. absurd (cc (sym no ∙ eq-eqb e.caller OPERATOR same)))

-- no more entries than calls
few_entries : (v : ℕ) (cs : List ClientCall) → length (entries_of v cs) ≤ length cs
few_entries v [] = omega arith
few_entries v (c ∷ cs) = at c.answer (few_entries v cs)
  where
    at : (a : Answer) → length (entries_of v cs) ≤ length cs → length (entry_of v c.moment c.message a ++ entries_of v cs) ≤ suc (length cs)
    at (Ok reply) le = omega (arith, le)
    at (Err full) le = omega (arith, le)

-- where there are as many entries as calls, they are these calls
all_entries : (v : ℕ) (cs : List ClientCall) → length (entries_of v cs) ≡ length cs → map call_of (entries_of v cs) ≡ map (call_by v) cs
all_entries v [] same = refl
all_entries v (c ∷ cs) same = at c.answer (all_entries v cs) same
  where
    at : (a : Answer) → (length (entries_of v cs) ≡ length cs → map call_of (entries_of v cs) ≡ map (call_by v) cs) → length (entry_of v c.moment c.message a ++ entries_of v cs) ≡ suc (length cs) → map call_of (entry_of v c.moment c.message a ++ entries_of v cs) ≡ call_by v c ∷ map (call_by v) cs
    at (Ok reply) rest same = ap (λ l. call_by v c ∷ l) (rest (omega (arith, same)))
    at (Err full) rest same = absurd (omega (arith, same, few_entries v cs))

replied_entries : (v : ℕ) (cs : List ClientCall) → All (λ c. IsReply c.answer) cs → length (entries_of v cs) ≡ length cs
replied_entries v [] all = refl
replied_entries v (c ∷ cs) all = at c.answer (All-head (λ x. IsReply x.answer) c cs all) (replied_entries v cs (All-tail (λ x. IsReply x.answer) c cs all))
  where
    at : (a : Answer) → IsReply a → length (entries_of v cs) ≡ length cs → length (entry_of v c.moment c.message a ++ entries_of v cs) ≡ suc (length cs)
    at (Ok reply) is same = omega (arith, same)
    at (Err full) is same = absurd is

-- a vehicle's client at the end
pub record HasEnded (room v : ℕ) (events : List Event) (h : List Entry) (c : ClientModel) : Type 0 where
  pub vehicle : c.vehicle ≡ v
  pub settled : IsSettled room h c
  pub called : HasCalled v events c.calls

module _ (i : Intersection) (vehicles room : ℕ) (events : List Event) (h : List Entry) (legal : IsLegal i vehicles h) (none : own OPERATOR h ≡ []) (known : All (λ e. vehicle_of e < vehicles) events) (room_is : length events ≤ room)
    (each : (v : ℕ) → v < vehicles → (c : ClientModel) × HasEnded room v events h c) where
  entries : (v : ℕ) (lt : v < vehicles) → own v h ≡ entries_of v (each v lt).0.calls
  entries v lt =
      let x = (each v lt).1 in
      let c = (each v lt).0 in
      let s = x.settled in
      ap (λ n. own n h) (sym x.vehicle) ∙ s.entries ∙ ap (λ n. entries_of n c.calls) x.vehicle

  calls : (v : ℕ) (lt : v < vehicles) → length (each v lt).0.calls ≡ count_of vehicle_of events v
  calls v lt =
      let x = (each v lt).1 in
      let c = (each v lt).0 in
      sym (length-map c.calls (call_by v)) ∙ ap length x.called ∙ length-map (events_by v events) event_call

  at_most : (v : ℕ) → v < vehicles → count_of caller_of h v ≤ count_of vehicle_of events v
  at_most v lt =
      let e : count_of caller_of h v ≡ length (entries_of v (each v lt).0.calls) = ap length (entries v lt) in
      omega (arith, e, few_entries v (each v lt).0.calls, calls v lt)

  in_journal : sum_below (count_of caller_of h) vehicles ≡ length h
  in_journal = count_all caller_of h vehicles (all_known i vehicles h legal none)

  in_script : sum_below (count_of vehicle_of events) vehicles ≡ length events
  in_script = count_all vehicle_of events vehicles known

  -- no call was left without an entry
  equal : (v : ℕ) → v < vehicles → count_of caller_of h v ≡ count_of vehicle_of events v
  equal v lt =
      let c = (each v lt).0 in
      let s = (each v lt).1.settled in
      elim s.full [
        | inl all ↦
            (let is : c.calls ≡ s.replied = s.calls ∙ ap (λ l. s.replied ++ l) all ∙ append-nil s.replied in
            ap length (entries v lt) ∙ ap (λ l. length (entries_of v l)) is ∙ replied_entries v s.replied s.replies ∙ ap length (sym is) ∙ calls v lt)
        | inr full ↦ sum_tight (count_of caller_of h) (count_of vehicle_of events) vehicles at_most (omega (arith, in_journal, in_script, full, room_is)) v lt
      ]

  pub is_run : IsRun i vehicles events h
  is_run = record {
    legal = legal;
    operator = none;
    each = λ v lt.
        let c = (each v lt).0 in
        let x = (each v lt).1 in
        let as_many : length (entries_of v c.calls) ≡ length c.calls = sym (ap length (entries v lt)) ∙ equal v lt ∙ sym (calls v lt) in
        ap (map call_of) (entries v lt) ∙ all_entries v c.calls as_many ∙ x.called;
    count = sym in_journal ∙ sum_same (count_of caller_of h) (count_of vehicle_of events) vehicles equal ∙ in_script;
  }

module _ (m : ServerModel) (vehicles spans : ℕ) (events : List Event) (clients : List ClientModel) (callers : List Caller) (ended : List ClientModel) (is : map (λ c. c.client) callers ≡ clients) (count : length clients ≡ vehicles)
    (new : (k : ℕ) (d : ClientModel) → k < vehicles → IsNewClient m k (get_or clients k d)) (seats : (k : ℕ) (d : Caller) → k < length callers → IsNewCaller k spans (get_or callers k d)) (made : AllByPlace (HasMade events) callers ended) where
  pub caller_count : length callers ≡ vehicles
  caller_count = sym (length-map callers (λ c. c.client)) ∙ ap length is ∙ count

  -- the client that ended at a place is that vehicle's
  client_at : (k : ℕ) (d : Caller) → k < length callers → IsNewClient m k (get_or callers k d).client
  client_at k d lt =
      let c = get_or callers k d in
      let n : length callers ≡ vehicles = caller_count in
      subst (IsNewClient m k) (ap (λ l. get_or l k c.client) (sym is) ∙ get_or-map (λ c. c.client) callers k d c.client lt) (new k c.client (omega (arith, n, lt)))

  pub ended_own : All (IsOfMail m) ended
  ended_own k d lt =
      let n : length ended ≡ length callers = made.len in
      let at : k < length callers = omega (arith, n, lt) in
      let a = element callers k at in
      let x = client_at k a.0 at in
      let e = made.each k a.0 d at in
      of_same m (get_or callers k a.0).client (get_or ended k d) x.own e.same

  pub ended_each : (room : ℕ) (h : List Entry) → All (IsSettled room h) ended → (v : ℕ) → v < vehicles → (c : ClientModel) × HasEnded room v events h c
  ended_each room h settled v lt =
      let l : length callers ≡ vehicles = caller_count in
      let n : length ended ≡ length callers = made.len in
      let at : v < length callers = omega (arith, l, lt) in
      let within : v < length ended = omega (arith, n, at) in
      let a = element callers v at in
      let c = element ended v within in
      let x = client_at v a.0 at in
      let e = made.each v a.0 c.0 at in
      let s = seats v a.0 at in
      let same = e.same in (
        get_or ended v c.0,
        record {
          vehicle = same.vehicle ∙ x.number;
          settled = settled v c.0 within;
          called = subst (λ u. HasCalled u events (get_or ended v c.0).calls) s.vehicle_is e.called;
        },
      )

pub moments_of : (s : EventScript) → IsFit s → All (λ e. e.moment ≤ LATEST_MOMENT) s.events.items
moments_of s fit k d lt = let f = fit.events k (get_or s.events.items k d) (slice_get-get_or s.events.items k d lt) in f.moment

vehicles_of : (s : EventScript) → IsFit s → All (λ e. vehicle_of e < s.vehicles) s.events.items
vehicles_of s fit k d lt = let f = fit.events k (get_or s.events.items k d) (slice_get-get_or s.events.items k d lt) in f.vehicle

-- what a mailbox for a script is opened with
abbrev pub setting_of : EventScript → MailSetting
setting_of s = record { layout = s.layout; vehicles = s.vehicles; room = max 1 (length s.events.items) }

-- the journal that is settled, where the server that served is the one of the clients
pub run_of : (s : EventScript) (m served : ServerModel) (spans : ℕ) (clients : List ClientModel) (callers : List Caller) (ended : List ClientModel) (h : List Entry) → IsFit s → m.setting ≡ setting_of s → served ≡ m → map (λ c. c.client) callers ≡ clients → length clients ≡ s.vehicles
    → ((k : ℕ) (d : ClientModel) → k < s.vehicles → IsNewClient m k (get_or clients k d)) → ((k : ℕ) (d : Caller) → k < length callers → IsNewCaller k spans (get_or callers k d)) → AllByPlace (HasMade s.events.items) callers ended
    → IsLegal served.setting.layout served.setting.vehicles h → own OPERATOR h ≡ [] → All (IsSettled served.setting.room h) ended → IsRun s.layout s.vehicles s.events.items h
run_of s m served spans clients callers ended h fit setting same is count new seats made legal none settled =
    let e : served.setting ≡ setting_of s = ap (λ x. x.setting) same ∙ setting in
    is_run s.layout s.vehicles (max 1 (length s.events.items)) s.events.items h
    (subst (λ (t : MailSetting). IsLegal t.layout t.vehicles h) e legal) none (vehicles_of s fit) (omega arith)
    (ended_each m s.vehicles spans s.events.items clients callers ended is count new seats made (max 1 (length s.events.items)) h (subst (λ (t : MailSetting). All (IsSettled t.room h) ended) e settled))

-- the clients that ended are of the server that served
pub own_of : (s : EventScript) (m served : ServerModel) (spans : ℕ) (clients : List ClientModel) (callers : List Caller) (ended : List ClientModel) → served ≡ m → map (λ c. c.client) callers ≡ clients → length clients ≡ s.vehicles
    → ((k : ℕ) (d : ClientModel) → k < s.vehicles → IsNewClient m k (get_or clients k d)) → ((k : ℕ) (d : Caller) → k < length callers → IsNewCaller k spans (get_or callers k d)) → AllByPlace (HasMade s.events.items) callers ended → All (IsOfMail served) ended
own_of s m served spans clients callers ended same is count new seats made =
    subst (λ n. All (IsOfMail n) ended) (sym same) (ended_own m s.vehicles spans s.events.items clients callers ended is count new seats made)
