-- Drivers at one crossing cross on what was granted to them, are apart, and clear of others' greens.
use Rattle.std.proofs.Common.{◌≡◌, ◌≢◌, ℕ, zero, suc, ◌≤◌, ◌==◌, Bool, true, false, List, [], ◌∷◌, Option, Some, None, if◌then◌else◌, refl, sym, ap, ◌∙◌, subst, arith}
use Rattle.std.specs.Prelude.{slice_get}
use Rattle.std.proofs.lemmas.Bool.Decides.{nat_tests}
use Rattle.aim_messages.specs.declared.entries.Entry.{Entry}
use Rattle.aim_geometry.specs.Cells.{Cell}
use Rattle.aim_layout.specs.Intersection.{Intersection}
use Rattle.aim_layout.specs.Valid.{IsValid}
use Rattle.aim_rules.specs.Claims.{green}
use Rattle.aim_rules.specs.Legal.{IsLegal}
use Rattle.aim_driver.specs.declared.logs.Entrance.{Entrance}
use Rattle.aim_driver.specs.declared.logs.LogItem.{LogItem}
use Rattle.aim_driver.specs.Crossings.{first_entrance}
use Rattle.aim_driver.specs.Fits.{Fits, AreCallsOf, entries_of, replies_of}
use Rattle.aim_driver.specs.Follows.{Call}
use Rattle.aim_driver.specs.Keeps.{keeps}
use Rattle.aim_driver.proofs.SmallFacts.{none_some, some_is}
use Rattle.aim_driver.proofs.FollowLemmas.{follows_fits}
use Rattle.aim_driver.proofs.TurnLemmas.{follows_keeps}
use Rattle.aim_safety.specs.Occupied.{Passage, passage, is_on, is_occupied}
use Rattle.aim_safety.specs.Reserved.{Crosses, IsReserved}
use Rattle.aim_safety.proofs.EnteredLemmas.{who_entered}
use Rattle.aim_safety.proofs.MeetLemmas.{no_two_drivers, no_green, is_reserved}
use Rattle.aim_grid.specs.Acked.{begun_at}
use Rattle.aim_grid.specs.Travelled.{Ride, IsLeg}

-- what a log is beside the journal
record IsLog (h : List Entry) (v : ℕ) (log : List LogItem) : Type 0 where
  pub rules : keeps log ≡ true
  pub fits : Fits h v log

-- who has no entry has none at any place
no_entry : (h : List Entry) (v k : ℕ) (e : Entry) → entries_of h v ≡ [] → slice_get h k ≡ Some e → e.caller ≡ v → ⊥
no_entry [] v k e none at own = none_some e at
no_entry (x ∷ xs) v zero e none at own =
    let is : (x.caller == v) ≡ true = same (ap (λ (y : Entry). y.caller) (some_is x e at) ∙ own) in
    absurd (cc (ap (λ b. if b then x ∷ entries_of xs v else entries_of xs v) (sym is) ∙ none))
  where
    same : x.caller ≡ v → (x.caller == v) ≡ true
    same e = grind (arith, nat_tests)
no_entry (x ∷ xs) v (suc k) e none at own = no_entry xs v k e (rest (x.caller == v) none) at own
  where
    rest : (b : Bool) → (if b then x ∷ entries_of xs v else entries_of xs v) ≡ [] → entries_of xs v ≡ []
    rest true is = absurd (cc is)
    rest false is = is

-- an empty log fits where there is no entry
empty_log : (h : List Entry) (v : ℕ) (log : List LogItem) → log ≡ [] → entries_of h v ≡ [] → IsLog h v log
empty_log h v log is none =
    subst (λ l. IsLog h v l) (sym is) (record {
      rules = refl;
      fits = record { sent = λ k e at own. absurd (no_entry h v k e none at own); got = tt };
    })

log_is : (until : ℕ) (h : List Entry) (begun : Option ℕ) (r : Ride) → r.plan.lead ≤ 65536 → IsLeg until h begun r → IsLog h r.vehicle r.log
log_is until h None r lead l = empty_log h r.vehicle r.log l.0 l.1
log_is until h (Some s) r lead f = record {
  rules = subst (λ (p : List LogItem × List Call). keeps p.0 ≡ true) f.course (follows_keeps (begun_at s r.plan) [] [] 0 until (replies_of h r.vehicle) lead);
  fits = subst (λ (p : List LogItem × List Call). Fits h r.vehicle p.0) f.course
      (follows_fits (begun_at s r.plan) [] [] 0 until h r.vehicle (subst (λ (p : List LogItem × List Call). AreCallsOf p.1 h r.vehicle) (sym f.course) f.carried));
}

pub crosses : (i : Intersection) (vehicles until : ℕ) (h : List Entry) (begun : Option ℕ) (r : Ride) (t : Entrance)
    → IsLegal i vehicles h → r.plan.lead ≤ 65536 → IsLeg until h begun r → first_entrance r.log ≡ Some t → Crosses i h r.vehicle r.log t
crosses i vehicles until h begun r t legal lead leg at =
    let x = log_is until h begun r lead leg in
    who_entered i vehicles h r.vehicle r.log t legal x.rules x.fits at

pub reserved : (i : Intersection) (vehicles until : ℕ) (h : List Entry) (begun : Option ℕ) (r : Ride) (c : Cell)
    → IsValid i → IsLegal i vehicles h → r.plan.lead ≤ 65536 → IsLeg until h begun r → is_occupied i h r.log c ≡ true → IsReserved i h r.vehicle r.log c
reserved i vehicles until h begun r c valid legal lead leg on =
    let x = log_is until h begun r lead leg in
    is_reserved i vehicles h r.vehicle r.log c valid legal x.rules x.fits on

pub apart : (i : Intersection) (vehicles until : ℕ) (h : List Entry) (begun begun' : Option ℕ) (r q : Ride) (c : Cell)
    → IsValid i → IsLegal i vehicles h → r.vehicle ≢ q.vehicle → r.plan.lead ≤ 65536 → q.plan.lead ≤ 65536
    → IsLeg until h begun r → IsLeg until h begun' q → is_occupied i h r.log c ≡ true → is_occupied i h q.log c ≡ false
apart i vehicles until h begun begun' r q c valid legal ne lead lead' leg leg' on =
    let x = log_is until h begun r lead leg in
    let y = log_is until h begun' q lead' leg' in
    no_two_drivers i vehicles h r.vehicle q.vehicle r.log q.log c valid legal ne x.rules y.rules x.fits y.fits on

pub clear : (i : Intersection) (vehicles until : ℕ) (h : List Entry) (begun : Option ℕ) (r : Ride) (t : Passage) (c : Cell)
    → IsValid i → IsLegal i vehicles h → r.plan.lead ≤ 65536 → IsLeg until h begun r
    → passage i h r.log ≡ Some t → is_on i t c ≡ true → green i h c t.grant.params.lane ≡ None
clear i vehicles until h begun r t c valid legal lead leg at on =
    let x = log_is until h begun r lead leg in
    no_green i vehicles h r.vehicle r.log t c valid legal x.rules x.fits at on
