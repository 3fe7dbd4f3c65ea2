-- Worked rows: a log that fits a history, and logs that don't. Vehicle 0 asked at step 0, and its call came at step 1.
use Rattle.std.proofs.Common.{◌≡◌, inl, inr, ℕ, zero, suc, ◌≤◌, List, [], ◌∷◌, Some, slice_get, refl, ◌∙◌, ap, subst, arith}
use Rattle.aim_messages.specs.declared.messages.Message.{Message}
use Rattle.aim_messages.specs.declared.messages.Body.TheVariants as body
use Rattle.aim_messages.specs.declared.replies.Reply.TheVariants as reply
use Rattle.aim_messages.specs.declared.entries.Act.TheVariants as act
use Rattle.aim_messages.specs.declared.entries.Entry.{Entry}
use Rattle.aim_driver.specs.declared.logs.LogItem.TheVariants as item
use Rattle.aim_driver.specs.Fits.{WasSent, CarriesSent, Fits}
use Rattle.aim_driver.proofs.SmallFacts.{some_is, none_some}
use Rattle.aim_driver.proofs.Rows.{car, granted}

abbrev asks : Message
asks = record { seq = 1; body = body.Request (car 0 10) }

abbrev its_entry : Entry
its_entry = record { caller = 0; moment = 1; act = act.Message asks; reply = granted 0 10 20 }

abbrev history : List Entry
history = its_entry ∷ []

pub asked_and_answered : Fits history 0 (item.Sent 0 asks ∷ item.Got 2 1 (granted 0 10 20) ∷ [])
asked_and_answered = record {
  sent = sent;
  got = (record { place = 0; entry = its_entry; message = asks; stands = refl; caller = refl; carried = refl; number = refl; told = refl }, tt);
}
  where
    sent : (k : ℕ) (e : Entry) → slice_get history k ≡ Some e → e.caller ≡ 0 → CarriesSent (item.Sent 0 asks ∷ item.Got 2 1 (granted 0 10 20) ∷ []) e
    sent zero e at own =
        let P : Entry → Type 0 = λ x. CarriesSent (item.Sent 0 asks ∷ item.Got 2 1 (granted 0 10 20) ∷ []) x in
        subst P (some_is its_entry e at) (record { message = asks; carried = refl; sent = inl (refl, omega arith) })
    sent (suc k) e at own = none_some e at

-- the call came before the message was sent
pub called_before_it_was_sent : Fits history 0 (item.Sent 2 asks ∷ []) → ⊥
called_before_it_was_sent f = go (f.sent 0 its_entry refl refl).sent
  where
    go : {m : Message} → WasSent m 1 (item.Sent 2 asks ∷ []) → ⊥
    go (inl w) = let l : 2 ≤ 1 = w.1 in omega arith
    go (inr w) = w

-- the history has another reply
pub told_otherwise : Fits history 0 (item.Sent 0 asks ∷ item.Got 2 1 (reply.Ack 0) ∷ []) → ⊥
told_otherwise f = go f.got.0.place f.got.0.entry f.got.0.stands f.got.0.told
  where
    go : (k : ℕ) (e : Entry) → slice_get history k ≡ Some e → e.reply ≡ reply.Ack 0 → ⊥
    go zero e at told =
        let same : granted 0 10 20 ≡ reply.Ack 0 = ap (λ x. x.reply) (some_is its_entry e at) ∙ told in
        absurd (cc)
    go (suc k) e at told = none_some e at

-- another vehicle's call needs nothing in the log
pub another_vehicle : Fits history 1 []
another_vehicle = record { sent = sent; got = tt }
  where
    sent : (k : ℕ) (e : Entry) → slice_get history k ≡ Some e → e.caller ≡ 1 → CarriesSent [] e
    sent zero e at own =
        let other : ◌≡◌ {A = ℕ} 0 1 = ap (λ x. x.caller) (some_is its_entry e at) ∙ own in
        absurd (omega arith)
    sent (suc k) e at own = none_some e at
