-- What a caller does, call by call.
use Rattle.std.proofs.Common.{◌≡◌, ℕ, ◌+◌, ◌<◌, ◌≤◌, Bool, true, false, ◌||◌, List, [], ◌∷◌, ◌++◌, length, map, take, get_or, Option, Some, refl, sym, ap, ◌∙◌, subst, arith}
use Rattle.std.specs.Prelude.{All, IfSome}
use Rattle.std.proofs.lemmas.List.{get_or-map, length-map, map-append, take_all}
use Rattle.aim_messages.specs.declared.entries.Act.TheVariants as act
use Rattle.aim_layout.specs.Intersection.{Intersection}
use Rattle.aim_sheets.specs.Pools.{Stock}
use Rattle.aim_mail_script.specs.declared.scripts.Event.{Event}
use Rattle.aim_mail.specs.declared.letter.MailSetting.{MailSetting}
use Rattle.aim_mail.specs.Calls.{Call as ClientCall, ClientModel, ServerModel, IsNewClient}
use Rattle.aim_mail.proofs.Clients.{same_refl, same_trans}
use Rattle.aim_mail_command.specs.declared.callers.Caller.{Caller}
use Rattle.aim_mail_command.specs.Runs.{calls_by, event_call}
use Rattle.aim_mail_command.specs.Calling.{Called, Finished, HasCalled, HasMade, HasSheets, IsNewCaller, IsSameCaller, Reached, Stepped, Went, Works, call_by}
use Rattle.aim_mail_command.proofs.Events.{own_more}

-- the call of the event comes behind those before it
called_more : (v : ℕ) (events : List Event) (p : ℕ) (d : Event) (old new : List ClientCall) (call : ClientCall) → p < length events → (get_or events p d).vehicle ≡ v → call.moment ≡ (get_or events p d).moment → call.message ≡ (get_or events p d).message
    → new ≡ old ++ call ∷ [] → HasCalled v (take p events) old → HasCalled v (take (p + 1) events) new
called_more v events p d old new call lt own moment message is called =
    let e = get_or events p d in
    let one : call_by v call ≡ event_call e = (λ i. record { caller = sym own i; moment = moment i; act = act.Message (message i) }) in
    ap (map (call_by v)) is ∙ map-append (call_by v) old (call ∷ []) ∙ ap (λ l. l ++ call_by v call ∷ []) called ∙ ap (λ c. calls_by v (take p events) ++ c ∷ []) one ∙ sym (own_more v events p d lt own)

module _ (i : Intersection) (events : List Event) (a : Caller) (p : ℕ) (w : Works i events a) (later : a.place ≤ p) (passed : calls_by a.vehicle (take p events) ≡ calls_by a.vehicle (take a.place events)) where
  -- a step to the vehicle's event at a place
  pub stepped : (client : ClientModel) (sheets : Stock) (d e : Event) → p < length events → get_or events p d ≡ e → e.vehicle ≡ a.vehicle → HasSheets i client sheets → Called e a.client client
      → Stepped i events a (record { vehicle = a.vehicle; client = client; sheets = sheets; place = p + 1 })
  stepped client sheets d e lt at own has c = record {
    works = record {
      vehicle = (let s = c.same in s.vehicle ∙ w.vehicle);
      sheets = has;
      within = omega (arith, lt);
      called = called_more a.vehicle events p d a.client.calls client.calls c.call lt (ap (λ x. x.vehicle) at ∙ own) (c.moment ∙ ap (λ x. x.moment) (sym at)) (c.message ∙ ap (λ x. x.message) (sym at)) c.calls (w.called ∙ sym passed);
    };
    same = record { vehicle_is = refl; client_is = c.same };
    further = λ n less le. omega (arith, le, later);
  }

  -- a step where the vehicle has no further event
  pub through : (q : ℕ) → q ≡ p → length events ≤ p → p ≤ length events → Stepped i events a (record a { place = q })
  through q is past within = record {
    works = record { vehicle = w.vehicle; sheets = w.sheets; within = omega (arith, is, within); called = ap (λ n. map (call_by a.vehicle) a.client.calls) is ∙ w.called ∙ sym passed ∙ ap (λ n. calls_by a.vehicle (take n events)) (sym is) };
    same = record { vehicle_is = refl; client_is = same_refl a.client };
    further = λ n less le. omega (arith, is, less, past);
  }

same_caller : (a b c : Caller) → IsSameCaller a b → IsSameCaller b c → IsSameCaller a c
same_caller a b c f g = record { vehicle_is = g.vehicle_is ∙ f.vehicle_is; client_is = same_trans a.client b.client c.client f.client_is g.client_is }

pub reached_first : (i : Intersection) (events : List Event) (a : Caller) → Works i events a → Reached i events 0 a a
reached_first i events a w = record { works = w; same = record { vehicle_is = refl; client_is = same_refl a.client }; far = omega arith }

pub reached_more : (i : Intersection) (events : List Event) (n : ℕ) (a b c : Caller) → n < length events → Reached i events n a b → Stepped i events b c → Reached i events (n + 1) a c
reached_more i events n a b c lt r s = let far : n < c.place = s.further n lt r.far in record { works = s.works; same = same_caller a b c r.same s.same; far = omega (arith, far) }

or_left : (a b : Bool) → (a || b) ≡ false → a ≡ false
or_left false b e = refl
or_left true b e = e

or_right : (a b : Bool) → (a || b) ≡ false → b ≡ false
or_right false b e = e
or_right true b e = absurd cc

-- a caller that went on before, and the one that goes on now
pub went_before : (i : Intersection) (events : List Event) (left more : Bool) (a b : Caller) → Went i events left a b → Went i events (left || more) a b
went_before i events left more a b w = record { stepped = w.stepped; through = λ none. w.through (or_left left more none) }

pub went_now : (i : Intersection) (events : List Event) (left more : Bool) (a b : Caller) → Stepped i events a b → (more ≡ false → length events ≤ b.place) → Went i events (left || more) a b
went_now i events left more a b s through = record { stepped = s; through = λ none. through (or_right left more none) }

pub reached_all : (i : Intersection) (events : List Event) (n : ℕ) (left : Bool) (a b c : Caller) → left ≡ false → Reached i events n a b → Went i events left b c → Finished i events a c
reached_all i events n left a b c none r w = record { works = w.stepped.works; same = same_caller a b c r.same w.stepped.same; far = w.through none }

pub reached_as : (i : Intersection) (events : List Event) (n m : ℕ) (a b : Caller) → n ≡ m → Reached i events n a b → Reached i events m a b
reached_as i events n m a b is r = subst (λ k. Reached i events k a b) is r

-- a caller that is through has made all calls
pub has_made : (i : Intersection) (events : List Event) (a b : Caller) → Finished i events a b → HasMade events a b.client
has_made i events a b f =
    let s = f.same in
    let w = f.works in
    let far : length events ≤ b.place = f.far in record {
      same = s.client_is;
      called = subst (λ v. HasCalled v events b.client.calls) s.vehicle_is (subst (λ es. HasCalled b.vehicle es b.client.calls) (take_all b.place events far) w.called);
    }

-- what is known of a call is one call of the event
pub called_is : (e : Event) (old new : ClientModel) (call : ClientCall) (kept : ℕ) → new ≡ record old { calls = old.calls ++ call ∷ []; kept = kept } → call.moment ≡ e.moment → call.message ≡ e.message → Called e old new
called_is e old new call kept is moment message = record {
  same = record { asks_on = ap (λ c. c.asks_on) is; hears_on = ap (λ c. c.hears_on) is; setting = ap (λ c. c.setting) is; vehicle = ap (λ c. c.vehicle) is };
  call = call;
  moment = moment;
  message = message;
  calls = ap (λ c. c.calls) is;
}

setting_if : (o : Option MailSetting) (s : MailSetting) (i : Intersection) → o ≡ Some s → s.layout ≡ i → IfSome o (λ t. t.layout ≡ i)
setting_if o s i is layout = subst (λ p. IfSome p (λ t. t.layout ≡ i)) (sym is) layout

-- new clients' callers are at work
pub works_new : (m : ServerModel) (i : Intersection) (events : List Event) (vehicles spans : ℕ) (clients : List ClientModel) (callers : List Caller) → map (λ c. c.client) callers ≡ clients → length clients ≡ vehicles → m.setting.layout ≡ i → spans ≡ i.grid.spans
    → ((k : ℕ) (d : ClientModel) → k < vehicles → IsNewClient m k (get_or clients k d)) → ((k : ℕ) (d : Caller) → k < length callers → IsNewCaller k spans (get_or callers k d)) → All (Works i events) callers
works_new m i events vehicles spans clients callers is count layout room new seats k d lt =
    let c = get_or callers k d in
    let n : length callers ≡ vehicles = sym (length-map callers (λ c. c.client)) ∙ ap length is ∙ count in
    let at : get_or clients k c.client ≡ c.client = ap (λ l. get_or l k c.client) (sym is) ∙ get_or-map (λ c. c.client) callers k d c.client lt in
    let x : IsNewClient m k c.client = subst (IsNewClient m k) at (new k c.client (omega (arith, n, lt))) in
    let own = x.own in
    let s = seats k d lt in
    let first : c.place ≡ 0 = s.first in
    let three : c.sheets.count ≡ 3 = s.three in
    let kept : c.client.kept ≡ 0 = x.kept in record {
      vehicle = x.number ∙ sym s.vehicle_is;
      sheets = record { setting = setting_if c.client.setting m.setting i own.setting layout; room = s.room ∙ room; three = omega (arith, three, kept); kept = omega (arith, kept) };
      within = omega (arith, first);
      called = ap (map (call_by c.vehicle)) x.calls ∙ ap (λ n. calls_by c.vehicle (take n events)) (sym first);
    }
