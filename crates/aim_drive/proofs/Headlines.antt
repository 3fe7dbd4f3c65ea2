-- The headline over values.
use Rattle.std.proofs.Common.{◌≡◌, ◌≢◌, ℕ, ◌<◌, ◌≤◌, inl, inr, List, [], ◌∷◌, ◌++◌, length, map, get_or, Option, Some, None, true, refl, sym, ap, ◌∙◌, subst, arith}
use Rattle.std.specs.Prelude.{All, slice_get}
use Rattle.std.proofs.lemmas.List.{length-map}
use Rattle.aim_messages.specs.declared.entries.Entry.{Entry}
use Rattle.aim_messages.specs.declared.entries.TheConstants.{OPERATOR}
use Rattle.aim_layout.specs.Intersection.{Intersection}
use Rattle.aim_layout.specs.Valid.{IsValid}
use Rattle.aim_driver.specs.declared.logs.LogItem.{LogItem}
use Rattle.aim_driver.specs.Fits as driver_fits
use Rattle.aim_driver.specs.Fits.{Fits, AreCallsOf, replies_of, call_of, reply_of}
use Rattle.aim_driver.specs.Follows.{Call, follows_from}
use Rattle.aim_driver.specs.Keeps.{keeps}
use Rattle.aim_driver.proofs.FollowLemmas.{follows_fits}
use Rattle.aim_driver.proofs.TurnLemmas.{follows_keeps}
use Rattle.aim_turnstile.specs.Models.{TurnstileModel}
use Rattle.aim_agents.specs.BookSetting.{BookSetting}
use Rattle.aim_driver.specs.declared.orders.Ordered.{Ordered}
use Rattle.aim_drive_script.specs.declared.scripts.Planned.{Planned}
use Rattle.aim_drive_script.specs.Said.{Drive}
use Rattle.aim_drive_script.specs.Scripts.{drive_told}
use Rattle.aim_safety.proofs.EnteredLemmas.{who_entered}
use Rattle.aim_safety.proofs.MeetLemmas.{no_two_drivers, no_green, is_reserved}
use Rattle.aim_agents.specs.Agents.{AgentModel, AgentPass}
use Rattle.aim_agents.specs.Went.{Went}
use Rattle.aim_agents.proofs.Followed.{followed}
use Rattle.aim_agents.specs.Driven.{Driven, InOrder}
use Rattle.aim_agents.specs.Orders.{CarryOrders, order_of}
use Rattle.aim_agents.proofs.DriveLaws.{journal_is_in_order}
use Rattle.aim_drive.specs.Closing.{IsClosed}
use Rattle.aim_drive.specs.Headline.{VehicleLog, IsFollowed, Headline}
use Rattle.aim_drive.specs.Making.{ArePlans, AreAgentsFor, told_by}
use Rattle.aim_drive.proofs.Lists.{element, reads_at, reads_of, same_maps}
use Rattle.aim_drive.proofs.Seats.{pass_of}
use Rattle.aim_drive.proofs.Closings.{has_agents, has_operator, whose, closes}

firsts : (ys : List AgentModel) → map (λ (x : VehicleLog). x.0) (map told_by ys) ≡ map (λ (a : AgentModel). a.pass.number) ys
firsts [] = refl
firsts (y ∷ ys) = λ i. y.pass.number ∷ firsts ys i

vehicles_of : (ps : List Planned) → map (λ (d : Drive). d.vehicle) (map drive_told ps) ≡ map (λ (p : Planned). p.vehicle) ps
vehicles_of [] = refl
vehicles_of (p ∷ ps) = λ i. p.vehicle ∷ vehicles_of ps i

-- what a log is beside the journal
record IsLog (h : List Entry) (x : VehicleLog) : Type 0 where
  pub rules : keeps x.1 ≡ true
  pub fits : Fits h x.0 x.1

log_is : (until : ℕ) (h : List Entry) (d : Drive) (log : List LogItem) → d.plan.lead ≤ 65536 → IsFollowed until h d log → IsLog h (d.vehicle, log)
log_is until h d log lead f = record {
  rules = subst (λ (r : List LogItem × List Call). keeps r.0 ≡ true) f.course (follows_keeps d.plan d.up d.down 0 until (replies_of h d.vehicle) lead);
  fits = subst (λ (r : List LogItem × List Call). Fits h d.vehicle r.0) f.course
      (follows_fits d.plan d.up d.down 0 until h d.vehicle (subst (λ (r : List LogItem × List Call). AreCallsOf r.1 h d.vehicle) (sym f.course) f.carried));
}

module _ (m : TurnstileModel BookSetting) (until size spans : ℕ) (plans : List Planned) (orders : List Ordered) (xs ys : List AgentModel) (rest : List AgentPass) (op : AgentPass) (h : List Entry) where
  -- all that is known at the end of a drive
  pub record Ends : Type 0 where
    pub are : ArePlans m.setting.vehicles plans
    pub made : AreAgentsFor m spans plans xs
    pub driven : Driven m.setting until size op xs ys
    pub given : CarryOrders op.mine orders
    pub number : op.number ≡ OPERATOR
    pub calm : All (λ (a : AgentModel). a.trouble ≡ None) ys
    pub idle : All (λ (p : AgentPass). p.mine ≡ []) rest
    pub closed : IsClosed m.setting (rest ++ map pass_of ys) op h
    pub valid : IsValid m.setting.layout

  -- the agent at a place, and its plan
  record IsPlace (p : Planned) (b : AgentModel) : Type 0 where
    pub number : b.pass.number ≡ p.vehicle
    pub lead : p.plan.lead ≤ 65536
    pub followed : IsFollowed until h (drive_told p) b.driver.log

  module _ (e : Ends) where
    count : length ys ≡ length plans
    count = e.driven.len ∙ e.made.count

    place : (k : ℕ) (p : Planned) (b : AgentModel) → k < length plans → IsPlace (get_or plans k p) (get_or ys k b)
    place k p b lt =
        let c : length ys ≡ length plans = count in
        let d : length xs ≡ length plans = e.made.count in
        let q = get_or plans k p in
        let x = e.made.each k p b lt in
        let w : Went m.setting 0 until (get_or xs k b) (get_or ys k b) = (e.driven.each k b (omega arith)).went in
        let f = followed m.setting 0 until (get_or xs k b) (get_or ys k b) x.new w (e.calm k b (omega arith)) in
        let n : (get_or ys k b).pass.number ≡ q.vehicle = w.goes.same.number ∙ ap (λ (s : AgentPass). s.number) x.pass in
        let has : driver_fits.entries_of h (get_or ys k b).pass.number ≡ (get_or ys k b).pass.mine = (has_agents m.setting rest ys op h e.closed k b (omega arith)).1 in
        let own : driver_fits.entries_of h q.vehicle ≡ (get_or ys k b).pass.mine = ap (driver_fits.entries_of h) (sym n) ∙ has in
        record {
          number = n;
          lead = e.are.lead k p lt;
          followed = record {
            calls = f.calls;
            course = (λ i. follows_from (sym x.plan i) (sym x.up i) (sym x.down i) 0 until (map reply_of (own i))) ∙ f.follows;
            carried = ap (map call_of) own ∙ f.carried;
          };
        }

    in_order : InOrder size op ys h
    in_order = journal_is_in_order m.setting until size op xs ys h fresh e.driven (closes m.setting rest ys op h e.closed e.idle)
      where
        fresh : All (λ (a : AgentModel). (a.pass.seen ≡ []) × (a.pass.mine ≡ [])) xs
        fresh k d l =
            let c : length xs ≡ length plans = e.made.count in
            let lt : k < length plans = omega arith in
            let x = e.made.each k (element plans k lt).0 d lt in
            (ap (λ (s : AgentPass). s.seen) x.pass, ap (λ (s : AgentPass). s.mine) x.pass)

    log_at : (k : ℕ) (x : VehicleLog) → slice_get (map told_by ys) k ≡ Some x → IsLog h x
    log_at k x is =
        let c : length ys ≡ length plans = count in
        let r = reads_of told_by ys k x is in
        let ly : k < length ys = r.within in
        let lp : k < length plans = omega arith in
        let b = element ys k ly in
        let p = element plans k lp in
        let at = place k p.0 b.0 lp in
        subst (IsLog h) ((λ i. (sym at.number i, (get_or ys k b.0).driver.log)) ∙ r.is b.0) (log_is until h (drive_told (get_or plans k p.0)) (get_or ys k b.0).driver.log at.lead at.followed)

    number_at : (k : ℕ) (d : Drive) (b : AgentModel) → slice_get (map drive_told plans) k ≡ Some d → d.vehicle ≡ (get_or ys k b).pass.number
    number_at k d b is =
        let r = reads_of drive_told plans k d is in
        let p = element plans k r.within in
        sym (ap (λ (x : Drive). x.vehicle) (r.is p.0)) ∙ sym (place k p.0 b r.within).number

    others : (n : ℕ) → n ≢ OPERATOR → ((k : ℕ) (d : Drive) → slice_get (map drive_told plans) k ≡ Some d → d.vehicle ≢ n) → driver_fits.entries_of h n ≡ []
    others n ne none =
        elim (whose m.setting rest ys op h e.closed e.idle n) [
          | inl is ↦ is
          | inr some ↦ elim some [ inl a ↦ absurd (agent a.0 a.1 a.2) | inr o ↦ absurd (ne (o ∙ e.number)) ]
        ]
      where
        agent : (j : ℕ) → j < length ys → ((d : AgentModel) → n ≡ (get_or ys j d).pass.number) → ⊥
        agent j l is =
            let c : length ys ≡ length plans = count in
            let lp : j < length plans = omega arith in
            let b = element ys j l in
            let p = element plans j lp in
            let many : length (map drive_told plans) ≡ length plans = length-map plans drive_told in
            let read : slice_get (map drive_told plans) j ≡ Some (get_or (map drive_told plans) j (drive_told p.0)) = reads_at (map drive_told plans) j (drive_told p.0) (omega arith) in
            none j (get_or (map drive_told plans) j (drive_told p.0)) read (number_at j (get_or (map drive_told plans) j (drive_told p.0)) b.0 read ∙ sym (is b.0))

    pub headline : Headline m.setting.layout m.setting.vehicles until size (map drive_told plans) orders h (map told_by ys)
    headline = record {
      legal = e.closed.legal;
      whose = firsts ys ∙ same_maps (λ (p : Planned). p.vehicle) (λ (a : AgentModel). a.pass.number) plans ys count (λ k p b l. (place k p b l).number) ∙ sym (vehicles_of plans);
      followed = λ k d x ed ex. each k d x ed ex;
      others = others;
      given =
          let has : driver_fits.entries_of h op.number ≡ op.mine = (has_operator m.setting rest ys op h e.closed).1 in
          ap (map order_of) (ap (driver_fits.entries_of h) (sym e.number) ∙ has) ∙ e.given;
      moments = in_order.moments;
      orders_first = λ p q a b at_a at_b lt same is. in_order.orders p q a b at_a at_b lt same (is ∙ sym e.number) ∙ e.number;
      runs = λ j k c d r ec ed p q a b at_a at_b ca cb same.
          let l = (reads_of drive_told plans k d ed).within in
          let n : length ys ≡ length plans = count in
          let ly : k < length ys = omega arith in
          let y = (element ys k ly).0 in
          in_order.runs j k y r ly p q a b at_a at_b (ca ∙ number_at j c y ec) (cb ∙ number_at k d y ed) same;
      crosses = λ k x t ex at.
          let lx = log_at k x ex in
          who_entered m.setting.layout m.setting.vehicles h x.0 x.1 t e.closed.legal lx.rules lx.fits at;
      reserved = λ k x c ex on.
          let lx = log_at k x ex in
          is_reserved m.setting.layout m.setting.vehicles h x.0 x.1 c e.valid e.closed.legal lx.rules lx.fits on;
      apart = λ j k x y ex ey ne c on.
          let lx = log_at j x ex in
          let ly = log_at k y ey in
          no_two_drivers m.setting.layout m.setting.vehicles h x.0 y.0 x.1 y.1 c e.valid e.closed.legal ne lx.rules ly.rules lx.fits ly.fits on;
      clear = λ k x t c ex is on.
          let lx = log_at k x ex in
          no_green m.setting.layout m.setting.vehicles h x.0 x.1 t c e.valid e.closed.legal lx.rules lx.fits is on;
    }
      where
        each : (k : ℕ) (d : Drive) (x : VehicleLog) → slice_get (map drive_told plans) k ≡ Some d → slice_get (map told_by ys) k ≡ Some x → IsFollowed until h d x.1
        each k d x ed ex =
            let rd = reads_of drive_told plans k d ed in
            let rx = reads_of told_by ys k x ex in
            let p = element plans k rd.within in
            let b = element ys k rx.within in
            subst (λ (z : Drive). IsFollowed until h z x.1) (rd.is p.0)
            (subst (λ (z : VehicleLog). IsFollowed until h (drive_told (get_or plans k p.0)) z.1) (rx.is b.0) (place k p.0 b.0 rd.within).followed)

-- there are as many entries as orders
pub count_orders : (es : List Entry) (orders : List Ordered) → CarryOrders es orders → length es ≡ length orders
count_orders es orders given = sym (length-map es order_of) ∙ ap (λ (l : List (Option Ordered)). length l) given ∙ length-map orders (λ (x : Ordered). Some x)

-- by other names of what is equal
pub renamed : (i j : Intersection) (v w until size size' : ℕ) (drives : List Drive) (orders : List Ordered) (h : List Entry) (logs logs' : List VehicleLog) → i ≡ j → v ≡ w → size ≡ size' → logs ≡ logs' → Headline i v until size drives orders h logs → Headline j w until size' drives orders h logs'
renamed i j v w until size size' drives orders h logs logs' ei ev es el x =
    subst (λ (l : List VehicleLog). Headline j w until size' drives orders h l) el
    (subst (λ (n : ℕ). Headline j w until n drives orders h logs) es
    (subst (λ (n : ℕ). Headline j n until size drives orders h logs) ev
    (subst (λ (k : Intersection). Headline k v until size drives orders h logs) ei x)))
