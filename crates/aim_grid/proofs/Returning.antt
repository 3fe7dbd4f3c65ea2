-- Legs that come back one after another, and crossings that are closed so.
use Rattle.std.proofs.Common.{◌≡◌, ℕ, zero, suc, ◌<◌, List, [], ◌∷◌, ◌++◌, length, map, get_or, Option, Some, refl, sym, ap, ◌∙◌, subst, arith}
use Rattle.std.specs.Prelude.{All, IsSomeAnd, slice_get}
use Rattle.std.specs.List.{AllByRecursion, AllZip, zip}
use Rattle.std.proofs.lemmas.List.{append-nil, append_assoc, get_or-map, length-map, map-append}
use Rattle.std.proofs.lemmas.List.Elements.{All-from_recursion}
use Rattle.aim_turnstile.specs.Models.{TurnstileModel}
use Rattle.aim_grid.specs.BookSetting.{BookSetting}
use Rattle.aim_grid.specs.Agents.{AgentPass}
use Rattle.aim_grid.specs.Legs.{legs_told, told}
use Rattle.aim_grid.specs.Models.{OverModel, TravellerModel}
use Rattle.aim_grid.specs.Rode.{Managers}
use Rattle.aim_drive.specs.declared.running.Drove.{Drove}
use Rattle.aim_grid.specs.declared.seats.Seats.{Seats}
use Rattle.aim_grid.specs.Closing.{AllGive, AreBack, AreLeft, Gone, IsLeft, IsSeated, all_gone, gone, gone_of}
use Rattle.aim_grid.proofs.Held.{all_give_then}
use Rattle.aim_grid.proofs.Places.{each_left, each_right, each_weaker}
use Rattle.aim_grid.proofs.Steps.{seated_after}
use Rattle.aim_grid.proofs.Zips.{zip_at, zip_length}

-- of one traveller's legs

abbrev pub gone_over : ℕ → List OverModel → List Gone
gone_over v os = map (gone v) (map told os)

pub over_push : (v : ℕ) (os : List OverModel) (o : OverModel) → gone_over v (os ++ o ∷ []) ≡ gone_over v os ++ gone v (told o) ∷ []
over_push v os o = ap (map (gone v)) (map-append told os (o ∷ [])) ∙ map-append (gone v) (map told os) (told o ∷ [])

-- the leg at a place still has a seat
pub over_seated : (v : ℕ) (os : List OverModel) (k : ℕ) (o : OverModel) (gs : List Gone) (seats now : List Seats) → AllByRecursion (IsSeated seats) (gone_over v os) → AllGive gs seats now → k < length os → o ≡ get_or os k o → IsSeated now (gone v (told o))
over_seated v os k o gs seats now seated gives l is =
    seated_after gs seats now (gone v (told o)) gives
    (subst (IsSeated seats) (read ∙ ap (λ (x : OverModel). gone v (told x)) (sym is)) (All-from_recursion (IsSeated seats) (gone_over v os) seated k (gone v (told o)) (omega (arith, many))))
  where
    many : length (gone_over v os) ≡ length os
    many = length-map (map told os) (gone v) ∙ length-map os told

    read : get_or (gone_over v os) k (gone v (told o)) ≡ gone v (told (get_or os k o))
    read =
        let n : length (map told os) ≡ length os = length-map os told in
        get_or-map (gone v) (map told os) k (told o) (gone v (told o)) (omega arith) ∙ ap (gone v) (get_or-map told os k o (told o) l)

pub over_more : (v : ℕ) (os : List OverModel) (o : OverModel) (seats now next : List Seats) → AllGive (gone_over v os) seats now → AllGive (gone v (told o) ∷ []) now next → AllGive (gone_over v (os ++ o ∷ [])) seats next
over_more v os o seats now next p q = subst (λ gs. AllGive gs seats next) (sym (over_push v os o)) (all_give_then (gone_over v os) (gone v (told o) ∷ []) seats now next p q)

-- of all travellers'

gone_push : (ts : List TravellerModel) (t : TravellerModel) → all_gone (ts ++ t ∷ []) ≡ all_gone ts ++ gone_of t
gone_push [] t = append-nil (gone_of t)
gone_push (u ∷ ts) t = ap (λ gs. gone_of u ++ gs) (gone_push ts t) ∙ sym (append_assoc (gone_of u) (all_gone ts) (gone_of t))

same_told : (v : ℕ) (t : TravellerModel) (os : List OverModel) → v ≡ t.vehicle → map told os ≡ legs_told t → gone_of t ≡ gone_over v os
same_told v t os is e = λ i. map (gone (sym is i)) (sym e i)

seated_of : (seats : List Seats) (ts : List TravellerModel) (k : ℕ) (d : TravellerModel) → AllByRecursion (IsSeated seats) (all_gone ts) → k < length ts → AllByRecursion (IsSeated seats) (gone_of (get_or ts k d))
seated_of seats [] k d h l = absurd (omega arith)
seated_of seats (t ∷ ts) zero d h l = each_left (IsSeated seats) (gone_of t) (all_gone ts) h
seated_of seats (t ∷ ts) (suc k) d h l = seated_of seats ts k d (each_right (IsSeated seats) (gone_of t) (all_gone ts) h) (omega arith)

pub traveller_seated : (ts : List TravellerModel) (k : ℕ) (t : TravellerModel) (v : ℕ) (os : List OverModel) (gs : List Gone) (seats now : List Seats) → AllByRecursion (IsSeated seats) (all_gone ts) → AllGive gs seats now → k < length ts → t ≡ get_or ts k t
    → v ≡ t.vehicle → map told os ≡ legs_told t → AllByRecursion (IsSeated now) (gone_over v os)
traveller_seated ts k t v os gs seats now seated gives l is own told_is =
    subst (λ hs. AllByRecursion (IsSeated now) hs) (same_told v t os own told_is)
    (each_weaker (IsSeated seats) (IsSeated now) (gone_of t) (λ g h. seated_after gs seats now g gives h)
    (subst (λ (u : TravellerModel). AllByRecursion (IsSeated seats) (gone_of u)) (sym is) (seated_of seats ts k t seated l)))

pub traveller_more : (ts : List TravellerModel) (t : TravellerModel) (v : ℕ) (os : List OverModel) (seats now next : List Seats) → v ≡ t.vehicle → map told os ≡ legs_told t → AllGive (all_gone ts) seats now → AllGive (gone_over v os) now next
    → AllGive (all_gone (ts ++ t ∷ [])) seats next
traveller_more ts t v os seats now next own told_is p q =
    subst (λ gs. AllGive gs seats next) (sym (gone_push ts t))
    (all_give_then (all_gone ts) (gone_of t) seats now next p (subst (λ gs. AllGive gs now next) (sym (same_told v t os own told_is)) q))

-- closing

-- the passes that are taken out of the seats are the manager's
pub tables_of : (m : TurnstileModel BookSetting) (s : Seats) (ps : List AgentPass) → AreBack m s → s.passes.items ≡ map (λ p. Some p) ps → All (λ (p : AgentPass). p.table ≡ m.table) ps
tables_of m s ps back is k d l =
    let n : length s.passes.items ≡ length ps = ap length is ∙ length-map ps (λ (p : AgentPass). Some p) in
    subst (λ o. IsSomeAnd o (λ (p : AgentPass). p.table ≡ m.table)) (ap (λ (os : List (Option AgentPass)). get_or os k (Some d)) is ∙ get_or-map (λ (p : AgentPass). Some p) ps k d (Some d) l) (back.back k (Some d) (omega arith))

abbrev pub Open : Type 0
Open = TurnstileModel BookSetting × Seats

abbrev pub IsBackOf : Open → Type 0
IsBackOf p = AreBack p.0 p.1

abbrev pub IsLeftOf : Open → Drove → Type 0
IsLeftOf p d = IsLeft p.0 p.1 d

back_each : (ms : Managers) (seats : List Seats) → AllZip AreBack ms seats → AllByRecursion IsBackOf (zip ms seats)
back_each [] seats h = tt
back_each (m ∷ ms) [] h = tt
back_each (m ∷ ms) (s ∷ seats) h = (h.0, back_each ms seats h.1)

pub back_at : (ms : Managers) (seats : List Seats) (k : ℕ) (p : Open) → AllZip AreBack ms seats → k < length (zip ms seats) → p ≡ get_or (zip ms seats) k p → AreBack p.0 p.1
back_at ms seats k p h l is = subst IsBackOf (sym is) (All-from_recursion IsBackOf (zip ms seats) (back_each ms seats h) k p l)

length_both : (ms : Managers) (seats : List Seats) → length seats ≡ length ms → length (zip ms seats) ≡ length ms
length_both [] seats n = refl
length_both (m ∷ ms) [] n = absurd (omega arith)
length_both (m ∷ ms) (s ∷ seats) n = ap suc (length_both ms seats (omega arith))

zip_read : (ms : Managers) (seats : List Seats) (c : ℕ) (m : TurnstileModel BookSetting) (s : Seats) → slice_get ms c ≡ Some m → slice_get seats c ≡ Some s → slice_get (zip ms seats) c ≡ Some (m, s)
zip_read [] seats c m s a b = absurd (cc a)
zip_read (x ∷ ms) [] c m s a b = absurd (cc b)
zip_read (x ∷ ms) (y ∷ seats) zero m s a b = cc (a, b)
zip_read (x ∷ ms) (y ∷ seats) (suc c) m s a b = zip_read ms seats c m s a b

pub all_left : (ms : Managers) (seats : List Seats) (ds : List Drove) → AllZip AreBack ms seats → AllZip IsLeftOf (zip ms seats) ds → AreLeft ms seats ds
all_left ms seats ds back left = record {
  count = zip_length IsLeftOf (zip ms seats) ds left ∙ length_both ms seats (zip_length AreBack ms seats back);
  each = λ c m s d a b e. zip_at IsLeftOf (zip ms seats) ds c (m, s) d left (zip_read ms seats c m s a b) e;
}
