-- A driver that entered crosses, on what was granted to its vehicle.
use Rattle.std.proofs.Common.{◌≡◌, ℕ, true, false, refl, List, Option, Some, None, is_none, sym, ap, ◌∙◌, slice_get}
use Rattle.std.specs.Prelude.{Bool, ◌&&◌, not, if◌then◌else◌, option_map}
use Rattle.aim_messages.specs.declared.messages.Params.{Params}
use Rattle.aim_messages.specs.declared.messages.Message.{Message}
use Rattle.aim_messages.specs.declared.entries.Entry.{Entry}
use Rattle.aim_messages.specs.declared.entries.Act.TheVariants as act
use Rattle.aim_layout.specs.Intersection.{Intersection}
use Rattle.aim_rules.specs.History.{is_confirm, params_of}
use Rattle.aim_rules.specs.Cells.{IsIn}
use Rattle.aim_rules.specs.Holds.{is_fast}
use Rattle.aim_rules.specs.Trials.{Trial, candidates, has_windows, is_fast_made}
use Rattle.aim_rules.proofs.GrantLemmas.{starts_within}
use Rattle.aim_rules.specs.Legal.{IsLegal}
use Rattle.aim_driver.specs.declared.logs.Entrance.{Entrance}
use Rattle.aim_driver.specs.declared.logs.LogItem.{LogItem}
use Rattle.aim_driver.specs.Crossings.{first_entrance}
use Rattle.aim_driver.specs.Keeps.{keeps}
use Rattle.aim_driver.specs.Fits.{Fits}
use Rattle.aim_safety.specs.Occupied.{Grant, Passage, is_tried, params_in, grant_of, passage_from}
use Rattle.aim_safety.specs.Reserved as law
use Rattle.aim_safety.proofs.CrossLemmas.{crosses}
use Rattle.aim_safety.proofs.PassageLemmas.{grant_found}

asks_of : (e : Entry) (m : Message) (p : Params) → e.act ≡ act.Message m → params_of m.body ≡ Some p → params_in e ≡ Some p
asks_of e m p carried asks = rw carried asks

-- a trial of a request is one that may be made with its params
among_tried : (i : Intersection) (p : Params) (t : Trial) → IsIn t (candidates i p) → is_tried i p t.fast ≡ true
among_tried i p t among = go (has_windows i) refl
  where
    same : (b : Bool) → (if b then b else not b) ≡ true
    same true = refl
    same false = refl

    go : (w : Bool) → has_windows i ≡ w → is_tried i p t.fast ≡ true
    go true windows = rw (windows, (starts_within i p t windows among).2) (same (is_fast_made p))
    go false windows = rw windows refl

pub who_entered : (i : Intersection) (vehicles : ℕ) (h : List Entry) (v : ℕ) (a : List LogItem) (t : Entrance) → IsLegal i vehicles h → keeps a ≡ true → Fits h v a → first_entrance a ≡ Some t → law.Crosses i h v a t
who_entered i vehicles h v a t legal rules fits at =
    let k = crosses i vehicles h v a t legal rules fits at in
    let g = k.grant in
    let asks : params_in g.entry ≡ Some g.params = asks_of g.entry g.message g.params g.carried g.asks in
    let trial : (if is_confirm g.entry.reply then Some (is_fast g.entry.reply) else None) ≡ Some (is_fast g.entry.reply) = ap (λ b. if b then Some (is_fast g.entry.reply) else None) g.confirms in
    let tried : is_tried i g.params (is_fast g.entry.reply) ≡ true = ap (λ b. is_tried i g.params b) (ap is_fast g.rests.form) ∙ among_tried i g.params g.rests.trial g.rests.among in
    let found = grant_found i g.entry g.params (is_fast g.entry.reply) true asks trial (sym (λ j. tried j && is_none (g.rests.good j))) in
    let made : grant_of i (slice_get h t.id) ≡ Some (record { params = g.params; fast = is_fast g.entry.reply }) = ap (grant_of i) g.stands ∙ found in
    let begin : Option Grant → Option Passage = option_map (λ g. record { step = t.step; grant = g }) in
    record {
      entry = g.entry;
      granted = record { stands = g.stands; own = g.own; confirms = g.confirms };
      crossing = record { step = t.step; grant = record { params = g.params; fast = is_fast g.entry.reply } };
      is = ap (passage_from i h) at ∙ ap begin made;
    }
