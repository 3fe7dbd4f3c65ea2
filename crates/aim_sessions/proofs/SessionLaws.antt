-- Sessions kept message by message.
use Rattle.std.proofs.Common.{◌≡◌, ℕ, ◌<◌, Bool, true, false, List, [], ◌∷◌, ◌++◌, length, Option, Some, None, arith, refl, sym, ◌∙◌, ap, subst, get_or, set, replicate}
use Rattle.std.specs.Prelude.{◌==◌, if◌then◌else◌, nat_lt, option_map}
use Rattle.std.proofs.lemmas.Bool.{eqb-true, eq-eqb}
use Rattle.std.proofs.lemmas.List.{get_or-set_same, get_or-set_other, length-set, length-replicate, get_or-replicate}
use Rattle.aim_messages.specs.declared.messages.Message.{Message}
use Rattle.aim_messages.specs.declared.entries.Act.TheVariants as act
use Rattle.aim_messages.specs.declared.entries.Entry.{Entry}
use Rattle.aim_messages.specs.Same.{same_message}
use Rattle.aim_rules.specs.History.{Fresh, fresh, is_fresh, message_of, message_at, last_of}
use Rattle.aim_rules.specs.Kept.{seq_of}
use Rattle.aim_rules.specs.Known.{is_above_all, exchange_of, seq_in}
use Rattle.aim_rules.proofs.HistoryLemmas.{served}
use Rattle.aim_rules.proofs.HistoryLaws.{fresh-one, fresh-none, last_of-snoc, seq_said-of}
use Rattle.aim_rules.proofs.VehicleLaws.{standing_next-snoc}
use Rattle.aim_rules.proofs.TimeLaws.{is_fresh-message}
use Rattle.aim_sessions.specs.declared.sessions.Exchange.{Exchange as Stored}
use Rattle.aim_sessions.specs.declared.sessions.Look.TheVariants as look
use Rattle.aim_sessions.specs.declared.sessions.Session.{Session}
use Rattle.aim_sessions.specs.Kept.{AreSessions, IsSession, known_of, no_session, session_after}
use Rattle.aim_sessions.specs.Looks.{is_fresh_look, look_of}

pub sessions_none : (vehicles : ℕ) → AreSessions (replicate vehicles no_session) []
sessions_none n v l =
    let m : v < n = omega (arith, length-replicate n no_session) in
    rw (get_or-replicate n v no_session no_session m) (record { last = refl; next = refl })

own : (xs : List Fresh) (x : Fresh) (v : ℕ) (m : Message) (s : Session) → IsSession xs v s → (x.entry.caller == v) ≡ true → message_at x ≡ Some m → IsSession (xs ++ x ∷ []) v (session_after m x.entry.reply s.next)
own xs x v m s is here says = record {
  last = sym (ap exchange_of (last_of-snoc xs x v) ∙ rw (here, says) refl);
  next = ap (λ n. (session_after m x.entry.reply n).next) is.next ∙ sym (standing_next-snoc xs x v ∙ rw here refl);
}

other : (xs : List Fresh) (x : Fresh) (v : ℕ) (s : Session) → IsSession xs v s → (x.entry.caller == v) ≡ false → IsSession (xs ++ x ∷ []) v s
other xs x v s is there = record {
  last = is.last ∙ sym (ap exchange_of (last_of-snoc xs x v) ∙ rw there refl);
  next = is.next ∙ sym (standing_next-snoc xs x v ∙ rw there refl);
}

-- an entry that is no fresh message changes no session
pub sessions_same : (rows : List Session) (h : List Entry) (e : Entry) → is_fresh h e ≡ false → AreSessions rows (fresh h) → AreSessions rows (fresh (h ++ e ∷ []))
sessions_same rows h e old are = rw (fresh-none h e old) are

-- the number of the last message that is kept
pub seq_kept : (l : Option Stored) (o : Option Fresh) → option_map known_of l ≡ exchange_of o → seq_of o ≡ option_map (λ e. e.message.seq) l
seq_kept None o e = sym (seq_said-of o) ∙ ap seq_in (sym e)
seq_kept (Some s) o e = sym (seq_said-of o) ∙ ap seq_in (sym e)

fresh_tests : (l : Option Stored) (m : Message) → is_above_all (option_map (λ e. e.message.seq) l) m.seq ≡ is_fresh_look (look_of l m)
fresh_tests None m = refl
fresh_tests (Some s) m = go (nat_lt s.message.seq m.seq) (nat_lt m.seq s.message.seq) (same_message m s.message)
  where
    go : (a b c : Bool) → a ≡ is_fresh_look (if a then look.Fresh else if b then look.Stale s.message.seq else if c then look.Repeat s.reply else look.Reused)
    go true b c = refl
    go false true c = refl
    go false false true = refl
    go false false false = refl

-- whether an entry is a fresh message, by the session of its vehicle
pub session_fresh : (rows : List Session) (h : List Entry) (e : Entry) (m : Message) → AreSessions rows (fresh h) → e.caller < length rows → e.act ≡ act.Message m →
    is_fresh h e ≡ is_fresh_look (look_of (get_or rows e.caller no_session).last m)
session_fresh rows h e m are l is =
    is_fresh-message h e m (ap message_of is)
    ∙ ap (λ o. is_above_all o m.seq) (seq_kept (get_or rows e.caller no_session).last (last_of (fresh h) e.caller) (are e.caller l).last)
    ∙ fresh_tests (get_or rows e.caller no_session).last m

pub sessions_more : (rows : List Session) (h : List Entry) (e : Entry) (m : Message) → AreSessions rows (fresh h) → e.caller < length rows → e.act ≡ act.Message m →
    look_of (get_or rows e.caller no_session).last m ≡ look.Fresh →
    AreSessions (set rows e.caller (session_after m e.reply (get_or rows e.caller no_session).next)) (fresh (h ++ e ∷ []))
sessions_more rows h e m are l is new v k = rw (fresh-one h e (session_fresh rows h e m are l is ∙ ap is_fresh_look new)) (go (e.caller == v) refl)
  where
    row : Session
    row = session_after m e.reply (get_or rows e.caller no_session).next

    go : (b : Bool) → (e.caller == v) ≡ b → IsSession (fresh h ++ served h e ∷ []) v (get_or (set rows e.caller row) v no_session)
    go true c =
        let s : e.caller ≡ v = eqb-true e.caller v c in
        let at : get_or (set rows e.caller row) v no_session ≡ row = ap (λ k. get_or (set rows e.caller row) k no_session) (sym s) ∙ get_or-set_same rows e.caller row no_session l in
        subst (IsSession (fresh h ++ served h e ∷ []) v) (sym at)
        (own (fresh h) (served h e) v m (get_or rows e.caller no_session) (subst (λ u. IsSession (fresh h) u (get_or rows e.caller no_session)) s (are e.caller l)) c (ap message_of is))
    go false c =
        let at : get_or (set rows e.caller row) v no_session ≡ get_or rows v no_session = get_or-set_other rows e.caller v row no_session (λ s. let t : (e.caller == v) ≡ true = eq-eqb e.caller v (sym s) in cc) in
        subst (IsSession (fresh h ++ served h e ∷ []) v) (sym at) (other (fresh h) (served h e) v (get_or rows v no_session) (are v (let n = length-set rows e.caller row in omega arith)) c)
