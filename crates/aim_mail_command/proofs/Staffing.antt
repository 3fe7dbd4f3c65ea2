-- The callers that a run begins with.
use Rattle.std.proofs.Common.{◌≡◌, ℕ, zero, suc, ◌+◌, ◌*◌, ◌/◌, ◌%◌, min, ◌<◌, ◌≤◌, List, [], length, map, get_or, refl, sym, ap, ◌∙◌, subst, arith}
use Rattle.std.specs.Prelude.{All}
use Rattle.std.proofs.lemmas.Grind.{div_ceil_times}
use Rattle.std.proofs.lemmas.List.{length-map}
use Rattle.aim_messages.specs.declared.entries.Entry.{Entry}
use Rattle.aim_messages.specs.declared.entries.TheConstants.{OPERATOR}
use Rattle.aim_rules.specs.Legal.{IsLegal}
use Rattle.aim_book.specs.Sheets.{own}
use Rattle.aim_mail_script.specs.declared.scripts.EventScript.{EventScript}
use Rattle.aim_mail_script.specs.Fits.{IsFit}
use Rattle.aim_mail.specs.declared.letter.MailSetting.{MailSetting}
use Rattle.aim_mail.specs.Calls.{ClientModel, ServerModel, IsNewClient, IsOfMail, IsSettled}
use Rattle.aim_mail_command.specs.declared.callers.Caller.{Caller}
use Rattle.aim_mail_command.specs.Runs.{IsRun}
use Rattle.aim_mail_command.specs.Calling.{AllByPlace, AreStaff, HasMade, IsNewCaller, Works}
use Rattle.aim_mail_command.proofs.Journals.{own_of, run_of, setting_of}
use Rattle.aim_mail_command.proofs.Steps.{works_new}

-- some callers, cut into at most so many runs, are at least one a run
pub some_size : (n workers size : ℕ) → 0 < n → 0 < workers → size ≡ n / workers + min 1 (n % workers) → 0 < size
some_size n workers zero some work is =
    let t = div_ceil_times n workers work in
    let none : n ≤ 0 * workers = subst (λ q. n ≤ q * workers) (sym is) t.0 in absurd (omega (arith, none, some))
some_size n workers (suc m) some work is = omega arith

-- callers of new clients, in their order
pub staff_is : (s : EventScript) (m : ServerModel) (spans : ℕ) (clients : List ClientModel) (callers : List Caller) → m.setting ≡ setting_of s → spans ≡ s.layout.grid.spans → map (λ c. c.client) callers ≡ clients → length clients ≡ s.vehicles
    → ((k : ℕ) (d : ClientModel) → k < s.vehicles → IsNewClient m k (get_or clients k d)) → ((k : ℕ) (d : Caller) → k < length callers → IsNewCaller k spans (get_or callers k d)) → AreStaff s m callers
staff_is s m spans clients callers setting room is count new seats = record {
  setting = setting;
  count = sym (length-map callers (λ c. c.client)) ∙ ap length is ∙ count;
  clients = subst (λ (l : List ClientModel). (k : ℕ) (d : ClientModel) → k < s.vehicles → IsNewClient m k (get_or l k d)) (sym is) new;
  seats = subst (λ n. (k : ℕ) (d : Caller) → k < length callers → IsNewCaller k n (get_or callers k d)) room seats;
}

module _ (s : EventScript) (m : ServerModel) (callers : List Caller) (staff : AreStaff s m callers) where
  count : length (map (λ (c : Caller). c.client) callers) ≡ s.vehicles
  count = length-map callers (λ c. c.client) ∙ staff.count

  pub staff_works : All (Works s.layout s.events.items) callers
  staff_works = works_new m s.layout s.events.items s.vehicles s.layout.grid.spans (map (λ c. c.client) callers) callers refl count (ap (λ (t : MailSetting). t.layout) staff.setting) refl staff.clients staff.seats

  -- what they leave is of the server that served
  pub staff_own : (served : ServerModel) (ended : List ClientModel) → served ≡ m → AllByPlace (HasMade s.events.items) callers ended → All (IsOfMail served) ended
  staff_own served ended same made = own_of s m served s.layout.grid.spans (map (λ c. c.client) callers) callers ended same refl count staff.clients staff.seats made

  -- the journal that is settled
  pub staff_run : (served : ServerModel) (ended : List ClientModel) (h : List Entry) → IsFit s → served ≡ m → AllByPlace (HasMade s.events.items) callers ended → IsLegal served.setting.layout served.setting.vehicles h → own OPERATOR h ≡ []
      → All (IsSettled served.setting.room h) ended → IsRun s.layout s.vehicles s.events.items h
  staff_run served ended h fit same made legal none settled =
      run_of s m served s.layout.grid.spans (map (λ c. c.client) callers) callers ended h fit staff.setting same refl count staff.clients staff.seats made legal none settled
