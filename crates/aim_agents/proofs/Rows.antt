-- Worked rows: what an agent does in its first step, and what it doesn't.
use Rattle.std.proofs.Common.{◌≡◌, ℕ, ◌<◌, ◌≤◌, List, [], ◌∷◌, None, refl, sym, ap, ◌∙◌, subst, arith}
use Rattle.aim_messages.specs.declared.entries.Act.TheVariants as act
use Rattle.aim_messages.specs.declared.entries.Entry.{Entry}
use Rattle.aim_messages.specs.declared.messages.Body.{Body}
use Rattle.aim_messages.specs.declared.messages.Body.TheVariants as body
use Rattle.aim_messages.specs.declared.replies.Reply.{Reply}
use Rattle.aim_messages.specs.declared.replies.Reply.TheVariants as reply
use Rattle.aim_manager.specs.Sheets.{sheets_kept}
use Rattle.aim_driver.specs.declared.links.Fate.TheVariants as fate
use Rattle.aim_driver.specs.Follows.{Call, follows_from}
use Rattle.aim_driver.proofs.Rows.{car, granted, plain}
use Rattle.aim_manager.specs.declared.keeper.BookSetting.{BookSetting}
use Rattle.aim_agents.specs.Agents.{AgentModel}
use Rattle.aim_agents.specs.Places.{At, IsCallSince}
use Rattle.aim_agents.specs.Went.{Carry, replies, Went}
use Rattle.aim_agents.specs.Followed.{IsNew}
use Rattle.aim_agents.proofs.Followed.{followed}

abbrev entry : ℕ → ℕ → ℕ → Body → Reply → Entry
entry v moment seq b r = record { caller = v; moment = moment; act = act.Message (record { seq = seq; body = b }); reply = r }

abbrev asks : Entry
asks = entry 0 2 1 (body.Request (car 0 10)) (granted 0 10 20)

abbrev other : Entry
other = entry 1 2 1 (body.Request (car 1 13)) (reply.Ack 0)

abbrev leaves : Entry
leaves = entry 0 21 2 (body.Done 0) (reply.Ack 0)

-- places begin with 0

pub second_place : At (asks ∷ other ∷ leaves ∷ []) 2 leaves
second_place = refl

pub no_place : At (asks ∷ other ∷ []) 2 leaves → ⊥
no_place at = at

-- one sheet is kept from its Confirm to its DONE

pub none_kept : sheets_kept 0 [] ≡ 0
none_kept = refl

pub one_kept : sheets_kept 0 (asks ∷ other ∷ []) ≡ 1
one_kept = refl

pub given_back : sheets_kept 0 (asks ∷ other ∷ leaves ∷ []) ≡ 0
given_back = refl

-- entries with messages carry these calls and no others

pub carried : Carry (asks ∷ leaves ∷ []) ((record { moment = 2; message = record { seq = 1; body = body.Request (car 0 10) } }) ∷ (record { moment = 21; message = record { seq = 2; body = body.Done 0 } }) ∷ [])
carried = refl

pub carries_a_call : Carry [] ((record { moment = 2; message = record { seq = 1; body = body.Done 0 } }) ∷ []) → ⊥
carries_a_call is = cc is

-- the first step of a new agent whose plan begins with it

abbrev first_call : Call
first_call = record { moment = 0; message = record { seq = 1; body = body.Request (car 0 10) } }

calls_after : (calls : List Call) → Carry [] calls → calls ≡ []
calls_after [] is = refl
calls_after (x ∷ xs) is = absurd (cc is)

call_is_there : (calls : List Call) → calls ≡ [] → calls ≡ first_call ∷ [] → ⊥
call_is_there calls none one = cc (none, one)

-- it makes a call: an agent that sends nothing doesn't go by its plan
pub is_not_idle : (s : BookSetting) (a b : AgentModel) → IsNew a → a.driver.plan ≡ plain → a.up.fates ≡ [] → a.down.fates ≡ [] → Went s 0 1 a b → b.trouble ≡ None → b.pass.mine ≡ [] → ⊥
is_not_idle s a b new plan up down went calm none =
    let f = followed s 0 1 a b new went calm in
    let told : follows_from plain [] [] 0 1 [] ≡ (b.driver.log, f.calls) = (λ i. follows_from (sym plan i) (sym up i) (sym down i) 0 1 (replies (sym none i))) ∙ f.follows in
    let carried' : Carry [] f.calls = subst (λ es. Carry es f.calls) none f.carried in
    call_is_there f.calls (calls_after f.calls carried') (sym (ap (λ p. p.1) told))

-- where its first message is lost, it makes none, and sends it again at step 3
pub lost_first : (follows_from plain (fate.Lose ∷ []) [] 0 3 []).1 ≡ []
lost_first = refl

-- its calls have the moment of its turn
pub moment_of_the_turn : (s : BookSetting) (a b : AgentModel) → Went s 3 4 a b → (k : ℕ) (e : Entry) → IsCallSince a b k e → e.moment ≡ 3
moment_of_the_turn s a b went k e call =
    let t = went.goes.times k e call in
    let lo : 3 ≤ e.moment = t.0 in
    let hi : e.moment < 4 = t.1 in
    omega arith
