-- The calls of one caller, one after another.
use Rattle.std.proofs.Common.{◌≡◌, ℕ, suc, ◌+◌, ◌<◌, ◌≤◌, ◌==◌, Bool, true, false, ◌&&◌, nat_lt, List, [], ◌∷◌, ◌++◌, length, take, drop, Option, Some, None, refl, sym, ap, ◌∙◌, subst, arith, length-append, slice_get, add-one}
use Rattle.std.specs.Prelude.{get_or, slice_index}
use Rattle.std.specs.Option.{unwrap_or, option_to_list}
use Rattle.std.proofs.Math.Seq.{take-suc}
use Rattle.std.proofs.lemmas.Bool.{and_parts, ltb-true, eqb-true}
use Rattle.std.proofs.lemmas.List.{append_assoc, append-nil, get_or_default, length-map, map_push, take-append-drop}
use Rattle.std.proofs.lemmas.List.Elements.{filter_map-append}
use Rattle.aim_shards.specs.declared.claims.ClaimEntry.{ClaimEntry}
use Rattle.aim_shards_command.specs.declared.decisions.ClaimKind.{ClaimKind}
use Rattle.aim_shards_command.specs.declared.decisions.ClaimKind.TheVariants as kind
use Rattle.aim_shards_command.specs.declared.lines.ShardLine.{ShardLine}
use Rattle.aim_shards_command.specs.declared.lines.ShardLine.TheVariants as line
use Rattle.aim_shards_command.specs.declared.script.ClaimAsk.{ClaimAsk}
use Rattle.aim_shards_command.specs.declared.script.ClaimAsk.TheVariants as ask
use Rattle.aim_shards_command.specs.Said.{ask_in, asked_of, set_in, sets_of, terms_of}
use Rattle.aim_shards_command.specs.Kinds.{IsScript, kind_of_fault, unless_fits}
use Rattle.aim_shards_command.proofs.Growing.{order_of}
use Rattle.aim_shards.specs.Models.{IsPassOf, IsSamePass, PassModel, ShardsModel}
use Rattle.aim_shards_command.specs.Following.{act_of, Follows, FollowsFrom, tickets_of}
use Rattle.aim_shards_command.specs.Calling.{Can, Steps}

pub follows_more : (earlier : List ClaimEntry) (asks : List ClaimAsk) (es : List ClaimEntry) (a : ClaimAsk) (e : ClaimEntry) → FollowsFrom earlier asks es → e.act ≡ act_of (earlier ++ es) a → FollowsFrom earlier (asks ++ a ∷ []) (es ++ e ∷ [])
follows_more earlier [] [] a e f does = (does ∙ ap (λ es. act_of es a) (append-nil earlier), tt)
follows_more earlier [] (x ∷ es) a e f does = absurd f
follows_more earlier (b ∷ asks) [] a e f does = absurd f
follows_more earlier (b ∷ asks) (x ∷ es) a e f does = (f.0, follows_more (earlier ++ x ∷ []) asks es a e f.1 (does ∙ ap (λ es. act_of es a) (sym (append_assoc earlier (x ∷ []) es))))

pub follows_length : (earlier : List ClaimEntry) (asks : List ClaimAsk) (es : List ClaimEntry) → FollowsFrom earlier asks es → length es ≡ length asks
follows_length earlier [] [] f = refl
follows_length earlier [] (x ∷ es) f = absurd f
follows_length earlier (b ∷ asks) [] f = absurd f
follows_length earlier (b ∷ asks) (x ∷ es) f = ap suc (follows_length (earlier ++ x ∷ []) asks es f.1)

pub asked_one : (n : ℕ) (l : ShardLine) (o : Option ClaimAsk) → ask_in n l ≡ o → asked_of n (l ∷ []) ≡ option_to_list o
asked_one n l None e = rw e refl
asked_one n l (Some a) e = rw e refl

pub follows_step : (n : ℕ) (before : List ShardLine) (l : ShardLine) (old new : List ClaimEntry) → Follows (asked_of n before) old → Steps (ask_in n l) old new → Follows (asked_of n (before ++ l ∷ [])) new
follows_step n before l old new f s =
    subst (λ asks. Follows asks new) (sym (filter_map-append (ask_in n) before (l ∷ []) ∙ ap (λ more. asked_of n before ++ more) (asked_one n l (ask_in n l) refl))) (at (ask_in n l) s)
  where
    at : (o : Option ClaimAsk) → Steps o old new → Follows (asked_of n before ++ option_to_list o) new
    at None s = subst (λ asks. Follows asks new) (sym (append-nil (asked_of n before))) (subst (λ es. Follows (asked_of n before) es) (sym s) f)
    at (Some a) s = subst (λ es. Follows (asked_of n before ++ a ∷ []) es) (sym s.is) (follows_more [] (asked_of n before) old a s.entry f s.does)

sets_front : (i : ℕ) (lines : List ShardLine) → length (sets_of (take i lines)) ≤ length (sets_of lines)
sets_front i lines =
    let whole = ap length (ap sets_of (sym (take-append-drop i lines)) ∙ filter_map-append set_in (take i lines) (drop i lines)) in
    omega (arith, whole, length-append (sets_of (take i lines)) (sets_of (drop i lines)))

unless_none : (why : ClaimKind) (b : Bool) → unless_fits why b ≡ None → b ≡ true
unless_none why true e = refl
unless_none why false e = absurd cc

some_is : {A : Type 0} (x y : A) → Some x ≡ Some y → x ≡ y
some_is x y e = ap (λ o. unwrap_or o x) e

-- what a line asks for behind those lines may be done, where the caller's entries do what was asked for there
pub can_at : (n : ℕ) (before : List ShardLine) (l : ShardLine) (sets : ℕ) (mine : List ClaimEntry) (a : ClaimAsk) → kind_of_fault before l ≡ None → length (sets_of before) ≤ sets → length mine ≡ length (asked_of n before) → ask_in n l ≡ Some a → Can sets mine a
can_at n before (line.Shards m horizon callers) sets mine a none le count e = absurd cc
can_at n before (line.Set ns) sets mine a none le count e = absurd cc
can_at n before line.End sets mine a none le count e = absurd cc
can_at n before (line.Claim caller set) sets mine a none le count e = at (caller == n) refl e
  where
    at : (b : Bool) → (caller == n) ≡ b → ask_in n (line.Claim caller set) ≡ Some a → Can sets mine a
    at false ne e = absurd (cc (rw ne at e))
    at true eq e =
        let t = terms_of before in
        let b = unless_none kind.Call _ ((order_of before (line.Claim caller set) none).1) in
        let p = and_parts (nat_lt caller t.callers) (nat_lt set (length (sets_of before)) && nat_lt (length (asked_of caller before)) 1024) b in
        let q = and_parts (nat_lt set (length (sets_of before))) (nat_lt (length (asked_of caller before)) 1024) p.1 in
        let few : length (asked_of caller before) < 1024 = ltb-true _ _ q.1 in
        let there : set < length (sets_of before) = ltb-true _ _ q.0 in
        let own : length (asked_of caller before) ≡ length (asked_of n before) = ap (λ c. length (asked_of c before)) (eqb-true caller n eq) in
        let is : ask.Claim set ≡ a = some_is _ _ (rw eq at e) in
        subst (λ b. Can sets mine b) is (record { few = omega (arith, count, few, own); there = omega (arith, there, le) })
can_at n before (line.Free caller call) sets mine a none le count e = at (caller == n) refl e
  where
    at : (b : Bool) → (caller == n) ≡ b → ask_in n (line.Free caller call) ≡ Some a → Can sets mine a
    at false ne e = absurd (cc (rw ne at e))
    at true eq e =
        let t = terms_of before in
        let b = unless_none kind.Call _ ((order_of before (line.Free caller call) none).1) in
        let p = and_parts (nat_lt caller t.callers) (nat_lt call (length (asked_of caller before)) && nat_lt (length (asked_of caller before)) 1024) b in
        let q = and_parts (nat_lt call (length (asked_of caller before))) (nat_lt (length (asked_of caller before)) 1024) p.1 in
        let few : length (asked_of caller before) < 1024 = ltb-true _ _ q.1 in
        let there : call < length (asked_of caller before) = ltb-true _ _ q.0 in
        let own : length (asked_of caller before) ≡ length (asked_of n before) = ap (λ c. length (asked_of c before)) (eqb-true caller n eq) in
        let is : ask.Free call ≡ a = some_is _ _ (rw eq at e) in
        subst (λ b. Can sets mine b) is (record { few = omega (arith, count, few, own); there = omega (arith, there, own, count) })

-- the call of the line at a place of a script may be made after the lines before it
pub can_in : (n i : ℕ) (lines : List ShardLine) (l : ShardLine) (sets : ℕ) (mine : List ClaimEntry) (a : ClaimAsk) → IsScript lines → slice_get lines i ≡ Some l → sets ≡ length (sets_of lines) → Follows (asked_of n (take i lines)) mine → ask_in n l ≡ Some a → Can sets mine a
can_in n i lines l sets mine a s at all f e = can_at n (take i lines) l sets mine a (s.each i l at) (omega (arith, all, sets_front i lines)) (follows_length [] (asked_of n (take i lines)) mine f) e

-- after the line at a place
pub follows_next : (n i : ℕ) (lines : List ShardLine) (d : ShardLine) (old new : List ClaimEntry) → i < length lines → Follows (asked_of n (take i lines)) old → Steps (ask_in n (get_or lines i d)) old new → Follows (asked_of n (take (i + 1) lines)) new
follows_next n i lines d old new lt f s = rw (add-one i) (subst (λ ls. Follows (asked_of n ls) new) (sym (take-suc lines i d lt)) (follows_step n (take i lines) (get_or lines i d) old new f s))

-- what stays of a pass at a call
pub own_same : (s : ShardsModel) (old new : PassModel) → IsSamePass old new → IsPassOf s old → IsPassOf s new
own_same s old new same own = record { table = same.table ∙ own.table; calls = same.calls ∙ own.calls; quarters = same.quarters ∙ own.quarters }

-- the ticket of one entry more
pub tickets_more : (old new : List ClaimEntry) (e : ClaimEntry) (before after : List ℕ) → before ≡ tickets_of old → after ≡ before ++ e.ticket ∷ [] → new ≡ old ++ e ∷ [] → after ≡ tickets_of new
tickets_more old new e before after were more is = more ∙ ap (λ l. l ++ e.ticket ∷ []) were ∙ sym (map_push (λ (x : ClaimEntry). x.ticket) old e) ∙ ap tickets_of (sym is)

-- the ticket of the entry of a number
pub ticket_at : (tickets : List ℕ) (mine : List ClaimEntry) (call ticket : ℕ) → tickets ≡ tickets_of mine → call < length mine → ticket ≡ get_or tickets call ticket → ticket ≡ slice_index (tickets_of mine) call
ticket_at tickets mine call ticket are lt is =
    let count : length tickets ≡ length mine = ap length are ∙ length-map mine (λ (x : ClaimEntry). x.ticket) in
    is ∙ get_or_default tickets call ticket 0 (omega (arith, count, lt)) ∙ ap (λ l. get_or l call 0) are
