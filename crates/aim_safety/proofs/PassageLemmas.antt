-- The crossing that a driver makes, found step by step.
use Rattle.aim_driver.specs.Crossings.{first_entrance}
use Rattle.std.proofs.Common.{◌≤◌, arith, ◌≡◌, ℕ, Bool, true, false, List, [], ◌∷◌, Option, Some, None, is_none, refl, sym, ap, subst, ◌∙◌, slice_get}
use Rattle.std.specs.Prelude.{◌&&◌, if◌then◌else◌, option_map}
use Rattle.aim_messages.specs.declared.messages.Params.{Params}
use Rattle.aim_messages.specs.declared.entries.Entry.{Entry}
use Rattle.aim_layout.specs.Intersection.{Intersection}
use Rattle.aim_rules.specs.Bad.{bad}
use Rattle.aim_rules.specs.History.{is_confirm}
use Rattle.aim_rules.specs.Holds.{is_fast}
use Rattle.aim_driver.specs.declared.logs.Entrance.{Entrance}
use Rattle.aim_driver.specs.declared.logs.LogItem.{LogItem}
use Rattle.aim_driver.specs.declared.logs.LogItem.TheVariants as item
use Rattle.aim_safety.specs.Tiles.{EntersBy}
use Rattle.aim_safety.specs.Occupied.{Grant, Passage, is_tried, params_in, grant_with, grant_of, passage_from, passage}
use Rattle.aim_safety.specs.Begun.{grant_as}
use Rattle.aim_safety.specs.declared.grants.Grant.{Grant as Granted}
use Rattle.aim_safety.proofs.PlaceLemmas.{some_same}
use Rattle.aim_safety.proofs.OccupiedLemmas.{passage_at}

-- the first step at which the driver entered is one of those
entrance_by : (most : ℕ) (log : List LogItem) (t : Entrance) → EntersBy most log → first_entrance log ≡ Some t → t.step ≤ most
entrance_by most [] t h e = absurd (cc)
entrance_by most (item.Sent step m ∷ xs) t h e = entrance_by most xs t h e
entrance_by most (item.Got step seq r ∷ xs) t h e = entrance_by most xs t h e
entrance_by most (item.Entered step id ∷ xs) t h e = let l = h.0 in let s : step ≡ t.step = ap (λ (t : Entrance). t.step) (some_same (record { step = step; id = id }) t e) in omega arith

none_where : {X : Type 0} (o : Option X) → is_none o ≡ true → o ≡ None
none_where None h = refl
none_where (Some x) h = absurd (cc)

-- what a Confirm of good params grants
pub grant_found : (i : Intersection) (e : Entry) (p : Params) (fast good : Bool) → params_in e ≡ Some p → (if is_confirm e.reply then Some (is_fast e.reply) else None) ≡ Some fast → good ≡ (is_tried i p fast && is_none (bad i p)) →
    grant_of i (Some e) ≡ (if good then Some (record { params = p; fast = fast }) else None)
grant_found i e p fast good asks trial same = ap (grant_with i e.reply) asks ∙ go (is_confirm e.reply) (is_fast e.reply) trial
  where
    trial_of : Bool → Option Grant
    trial_of f = Some (record { params = p; fast = f })

    go : (b f : Bool) → (if b then Some f else None) ≡ Some fast → (if b && (is_tried i p f && is_none (bad i p)) then trial_of f else None) ≡ (if good then trial_of fast else None)
    go true f t = rw (some_same f fast t) (ap (λ b. if b then trial_of fast else None) (sym same))
    go false f t = absurd (cc)

-- the crossing of a driver that entered, from what the entry of that id grants
pub passage_on : (i : Intersection) (h : List Entry) (log : List LogItem) (t : Entrance) (e : Entry) (o : Option Granted) → first_entrance log ≡ Some t → slice_get h t.id ≡ Some e → option_map grant_as o ≡ grant_of i (Some e) →
    option_map (λ g. record { step = t.step; grant = g }) (option_map grant_as o) ≡ passage i h log
passage_on i h log t e o entered at granted =
    let begin : Option Grant → Option Passage = option_map (λ g. record { step = t.step; grant = g }) in
    ap begin granted ∙ sym (ap (passage_from i h) entered ∙ ap (λ o. begin (grant_of i o)) at)

-- where the history has no entry of the id on which the driver entered, there is no crossing
pub no_passage : (i : Intersection) (h : List Entry) (log : List LogItem) (t : Entrance) → first_entrance log ≡ Some t → slice_get h t.id ≡ None → None ≡ passage i h log
no_passage i h log t entered at = rw (entered, at) refl

-- a crossing begins at a step at which the driver entered, on good params
pub passage_good : (i : Intersection) (h : List Entry) (log : List LogItem) (x : Passage) → passage i h log ≡ Some x → bad i x.grant.params ≡ None
passage_good i h log x is = let at = passage_at i h log x is in granted (slice_get h at.0.id) at.3
  where
    test : (e : Entry) (p : Params) (b t n : Bool) → is_none (bad i p) ≡ n → (if b && (t && n) then Some (record { params = p; fast = is_fast e.reply }) else None) ≡ Some x.grant → bad i x.grant.params ≡ None
    test e p true true true good is = subst (λ (g : Grant). bad i g.params ≡ None) (some_same (record { params = p; fast = is_fast e.reply }) x.grant is) (none_where (bad i p) good)
    test e p true true false good is = absurd (cc)
    test e p true false n good is = absurd (cc)
    test e p false t n good is = absurd (cc)

    asked : (e : Entry) (o : Option Params) → grant_with i e.reply o ≡ Some x.grant → bad i x.grant.params ≡ None
    asked e None is = absurd (cc)
    asked e (Some p) is = test e p (is_confirm e.reply) (is_tried i p (is_fast e.reply)) (is_none (bad i p)) refl is

    granted : (o : Option Entry) → grant_of i o ≡ Some x.grant → bad i x.grant.params ≡ None
    granted None is = absurd (cc)
    granted (Some e) is = asked e (params_in e) is

-- so does one whose trial may be made with them
pub passage_tried : (i : Intersection) (h : List Entry) (log : List LogItem) (x : Passage) → passage i h log ≡ Some x → is_tried i x.grant.params x.grant.fast ≡ true
passage_tried i h log x is = let at = passage_at i h log x is in granted (slice_get h at.0.id) at.3
  where
    test : (e : Entry) (p : Params) (b t n : Bool) → is_tried i p (is_fast e.reply) ≡ t → (if b && (t && n) then Some (record { params = p; fast = is_fast e.reply }) else None) ≡ Some x.grant → is_tried i x.grant.params x.grant.fast ≡ true
    test e p true true true tried is = subst (λ (g : Grant). is_tried i g.params g.fast ≡ true) (some_same (record { params = p; fast = is_fast e.reply }) x.grant is) tried
    test e p true true false tried is = absurd (cc)
    test e p true false n tried is = absurd (cc)
    test e p false t n tried is = absurd (cc)

    asked : (e : Entry) (o : Option Params) → grant_with i e.reply o ≡ Some x.grant → is_tried i x.grant.params x.grant.fast ≡ true
    asked e None is = absurd (cc)
    asked e (Some p) is = test e p (is_confirm e.reply) (is_tried i p (is_fast e.reply)) (is_none (bad i p)) refl is

    granted : (o : Option Entry) → grant_of i o ≡ Some x.grant → is_tried i x.grant.params x.grant.fast ≡ true
    granted None is = absurd (cc)
    granted (Some e) is = asked e (params_in e) is

pub passage_by : (most : ℕ) (i : Intersection) (h : List Entry) (log : List LogItem) (x : Passage) → EntersBy most log → passage i h log ≡ Some x → x.step ≤ most
passage_by most i h log x by is =
    let at = passage_at i h log x is in
    let l = entrance_by most log at.0 by at.1 in
    let s : at.0.step ≡ x.step = at.2 in
    omega arith
