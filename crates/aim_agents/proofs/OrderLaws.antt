-- The orders of a drive, one after another.
use Rattle.std.proofs.Common.{◌≡◌, ℕ, ◌+◌, ◌<◌, ◌≤◌, List, [], ◌∷◌, ◌++◌, length, length-take-le, map, take, Option, Some, Result, Ok, Err, sym, ap, ◌∙◌, subst, arith}
use Rattle.std.specs.Prelude.{OnErr, get_or}
use Rattle.std.proofs.lemmas.List.{get_or_default, map-append, take_all, take_more, length-map}
use Rattle.aim_messages.specs.declared.entries.Entry.{Entry}
use Rattle.aim_layout.specs.Intersection.{Intersection}
use Rattle.aim_driver.specs.declared.orders.Ordered.{Ordered}
use Rattle.aim_agents.specs.Orders.{AreOrders, CarryOrders, IsReached, order_of}

pub on_err : {T E : Type 0} (P : Type 0) (r : Result T E) → P → OnErr r P
on_err P (Ok a) p = tt
on_err P (Err e) p = p

-- one order more was given
pub given_more : (mine more : List Entry) (orders : List Ordered) (i : ℕ) (d : Ordered) (e : Entry) → i < length orders → CarryOrders mine (take i orders)
    → more ≡ mine ++ e ∷ [] → order_of e ≡ Some (get_or orders i d) → CarryOrders more (take (i + 1) orders)
given_more mine more orders i d e lt given is own =
    ap (map order_of) is ∙ map-append order_of mine (e ∷ [])
    ∙ (λ j. given j ++ own j ∷ [])
    ∙ sym (map-append (λ (x : Ordered). Some x) (take i orders) (get_or orders i d ∷ []))
    ∙ ap (map (λ (x : Ordered). Some x)) (sym (take_more orders i d lt))

-- all orders were given
pub given_all : (mine more : List Entry) (orders : List Ordered) (i : ℕ) → more ≡ mine → CarryOrders mine (take i orders) → length orders ≤ i → CarryOrders more orders
given_all mine more orders i same given le = ap (map order_of) same ∙ given ∙ ap (map (λ (x : Ordered). Some x)) (take_all i orders le)

-- no more orders were given than those
pub given_count : (mine : List Entry) (orders : List Ordered) (i : ℕ) → i ≤ length orders → CarryOrders mine (take i orders) → length mine ≡ i
given_count mine orders i le given =
    sym (length-map mine order_of) ∙ ap (λ (l : List (Option Ordered)). length l) given ∙ length-map (take i orders) (λ (x : Ordered). Some x) ∙ length-take-le i orders le

pub reached_first : (until : ℕ) (orders : List Ordered) → IsReached 0 0 until orders
reached_first until orders = record { below = omega arith; ahead = λ k d le l. omega arith }

pub reached_next : (i : Intersection) (vehicles until place : ℕ) (orders : List Ordered) (d : Ordered) → AreOrders i vehicles until orders → place < length orders
    → IsReached (get_or orders place d).moment (place + 1) until orders
reached_next i vehicles until place orders d o lt = record {
  below = let b = o.below place d lt in omega arith;
  ahead = λ k e le l. subst (λ m. m ≤ (get_or orders k e).moment) (same e) (o.rising place k e (omega arith) l);
}
  where
    same : (e : Ordered) → (get_or orders place e).moment ≡ (get_or orders place d).moment
    same e = ap (λ x. x.moment) (get_or_default orders place e d lt)
