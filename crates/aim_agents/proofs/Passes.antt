-- What calls and meetings do to a pass.
use Rattle.std.proofs.Common.{◌≡◌, ℕ, ◌≤◌, List, [], ◌∷◌, ◌++◌, length, refl, sym, ap, ◌∙◌, arith, append_assoc, length-append}
use Rattle.std.proofs.lemmas.List.{append-nil}
use Rattle.aim_messages.specs.declared.entries.Act.{Act}
use Rattle.aim_messages.specs.declared.entries.Entry.{Entry}
use Rattle.aim_messages.specs.declared.replies.Reply.{Reply}
use Rattle.aim_rules.specs.Answer.{answer}
use Rattle.aim_turnstile.specs.History.{entries_of, Begins}
use Rattle.aim_turnstile.specs.Models.{IsSamePass}
use Rattle.aim_turnstile.proofs.Histories.{begins_self, begins_trans}
use Rattle.aim_manager.specs.declared.keeper.BookSetting.{BookSetting}
use Rattle.aim_manager.specs.Seen.{caller_of, Extends, FindsFull, Meets}
use Rattle.aim_agents.specs.Agents.{AgentPass, AgentFront}
use Rattle.aim_agents.specs.Went.{Sees, ExtendsBy, Extended}

pub length_begins : (xs ys : List Entry) → Begins xs ys → length xs ≤ length ys
length_begins xs ys p = omega (arith, ap (λ l. length l) p.1, length-append xs p.0)

pub same_self : (p : AgentPass) → IsSamePass p p
same_self p = record { table = refl; setting = refl; number = refl }

pub same_trans : (p q r : AgentPass) → IsSamePass p q → IsSamePass q r → IsSamePass p r
same_trans p q r x y = record { table = y.table ∙ x.table; setting = y.setting ∙ x.setting; number = y.number ∙ x.number }

pub sees_self : (p : AgentPass) → Sees p p
sees_self p = record { same = same_self p; begins = begins_self p.seen; mine = refl }

pub sees_trans : (p q r : AgentPass) → Sees p q → Sees q r → Sees p r
sees_trans p q r x y = record { same = same_trans p q r x.same y.same; begins = begins_trans p.seen q.seen r.seen x.begins y.begins; mine = y.mine ∙ x.mine }

pub sees_full : (s : BookSetting) (p q : AgentPass) → IsSamePass p q → FindsFull s p q → Sees p q
sees_full s p q same f = record { same = same; begins = f.begins; mine = f.mine }

pub sees_met : (s : BookSetting) (p : AgentPass) (front : AgentFront) (q : AgentPass) → IsSamePass p q → Meets s p front q → Sees p q
sees_met s p front q same m = record { same = same; begins = m.begins; mine = m.mine }

-- the entry of a call stands at the end of what is seen then
pub seen_is : (s : BookSetting) (e : Entry) (p q : AgentPass) (x : ExtendsBy s e p q) → q.seen ≡ x.extends.before ++ e ∷ []
seen_is s e p q x =
    x.extends.seen ∙ ap (λ n. x.extends.before ++ (record { caller = n; moment = e.moment; act = e.act; reply = e.reply }) ∷ []) (sym x.caller)

pub mine_is : (s : BookSetting) (e : Entry) (p q : AgentPass) → ExtendsBy s e p q → q.mine ≡ p.mine ++ e ∷ []
mine_is s e p q x =
    x.extends.mine ∙ ap (λ n. p.mine ++ (record { caller = n; moment = e.moment; act = e.act; reply = e.reply }) ∷ []) (sym x.caller)

pub extends_begins : (s : BookSetting) (e : Entry) (p q : AgentPass) → ExtendsBy s e p q → Begins p.seen q.seen
extends_begins s e p q x = begins_trans p.seen x.extends.before q.seen x.extends.begins (e ∷ [], seen_is s e p q x)

-- a call of a pass of that number
pub extends_by : (s : BookSetting) (moment : ℕ) (what : Act) (reply : Reply) (p q : AgentPass) → IsSamePass p q → Extends s moment what reply p q
    → ExtendsBy s (record { caller = p.number; moment = moment; act = what; reply = reply }) p q
extends_by s moment what reply p q same x = record { same = same; caller = refl; extends = x }

pub extended_same : (s : BookSetting) (es : List Entry) (p q : AgentPass) → Extended s p es q → IsSamePass p q
extended_same s [] p q x = x.same
extended_same s (e ∷ es) p q x = same_trans p x.0 q x.1.same (extended_same s es x.0 q x.2)

pub extended_begins : (s : BookSetting) (es : List Entry) (p q : AgentPass) → Extended s p es q → Begins p.seen q.seen
extended_begins s [] p q x = x.begins
extended_begins s (e ∷ es) p q x = begins_trans p.seen x.0.seen q.seen (extends_begins s e p x.0 x.1) (extended_begins s es x.0 q x.2)

-- the pass's own entries are these calls more
pub extended_mine : (s : BookSetting) (es : List Entry) (p q : AgentPass) → Extended s p es q → q.mine ≡ p.mine ++ es
extended_mine s [] p q x = x.mine ∙ sym (append-nil p.mine)
extended_mine s (e ∷ es) p q x =
    extended_mine s es x.0 q x.2 ∙ ap (λ l. l ++ es) (mine_is s e p x.0 x.1) ∙ append_assoc p.mine (e ∷ []) es

pub sees_extends : (s : BookSetting) (e : Entry) (p m q : AgentPass) → Sees p m → ExtendsBy s e m q → ExtendsBy s e p q
sees_extends s e p m q y x =
    let c = x.extends in
    record {
      same = same_trans p m q y.same x.same;
      caller = x.caller ∙ y.same.number;
      extends = record {
        before = c.before;
        begins = begins_trans p.seen m.seen c.before y.begins c.begins;
        answered = c.answered ∙ ap (λ n. answer s.layout c.before n e.moment e.act) y.same.number;
        seen = c.seen ∙ ap (λ n. c.before ++ (record { caller = n; moment = e.moment; act = e.act; reply = e.reply }) ∷ []) y.same.number;
        mine = c.mine ∙ (λ i. y.mine i ++ (record { caller = y.same.number i; moment = e.moment; act = e.act; reply = e.reply }) ∷ []);
        own = ap (λ n. entries_of caller_of n c.before) (sym y.same.number) ∙ c.own ∙ y.mine;
        whole = c.whole;
        lawful = c.lawful;
      };
    }

pub sees_extended : (s : BookSetting) (es : List Entry) (p m q : AgentPass) → Sees p m → Extended s m es q → Extended s p es q
sees_extended s [] p m q y x = sees_trans p m q y x
sees_extended s (e ∷ es) p m q y x = (x.0, sees_extends s e p m x.0 y x.1, x.2)

pub extended_append : (s : BookSetting) (xs ys : List Entry) (p m q : AgentPass) → Extended s p xs m → Extended s m ys q → Extended s p (xs ++ ys) q
extended_append s [] ys p m q x y = sees_extended s ys p m q x y
extended_append s (e ∷ xs) ys p m q x y = (x.0, x.1, extended_append s xs ys x.0 m q x.2 y)

-- and then more was seen
pub extended_sees : (s : BookSetting) (es : List Entry) (p m q : AgentPass) → Extended s p es m → Sees m q → Extended s p es q
extended_sees s [] p m q x y = sees_trans p m q x y
extended_sees s (e ∷ es) p m q x y = (x.0, x.1, extended_sees s es x.0 m q x.2 y)

-- one call
pub extended_one : (s : BookSetting) (e : Entry) (p q : AgentPass) → ExtendsBy s e p q → Extended s p (e ∷ []) q
extended_one s e p q x = (q, x, sees_self q)
