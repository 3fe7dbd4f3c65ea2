-- What the steps of one call tell.
use Rattle.std.proofs.Common.{◌≡◌, ℕ, zero, suc, ◌+◌, ◌<◌, ◌≤◌, ◌==◌, Bool, true, false, ◌&&◌, ◌||◌, not, List, [], ◌∷◌, ◌++◌, length, map, refl, sym, ap, ◌∙◌, subst, arith, Some, None, Option}
use Rattle.std.specs.Prelude.{if◌then◌else◌, vec_capacity}
use Rattle.std.specs.List.{list_any}
use Rattle.std.proofs.lemmas.Bool.Decides.{nat_tests}
use mathlib.Core.Logic.{dite}
use native.Mathlib.Decide.{ℕ_discrete, dec_le}
use Rattle.atomic_table.specs.Table.{Me, rest}
use Rattle.aim_shards.specs.declared.claims.ClaimAct.TheVariants as act
use Rattle.aim_shards.specs.declared.claims.ClaimEntry.{ClaimEntry}
use Rattle.aim_shards.specs.declared.quarter.Quarter.{Quarter}
use Rattle.aim_shards.specs.declared.quarter.QuadrantPlan.{QuadrantPlan}
use Rattle.aim_shards.specs.declared.turns.Found.{Found}
use Rattle.aim_shards.specs.Found.{IsFound}
use Rattle.aim_shards.specs.declared.view.QuadrantTurn.{QuadrantTurn}
use Rattle.aim_shards.specs.declared.view.ShardView.{ShardView}
use Rattle.aim_shards.specs.declared.view.Terms.{Terms}
use Rattle.aim_sheets.specs.declared.spans.Span.{Span}
use Rattle.aim_geometry.specs.Cells.{Cell}
use Rattle.aim_sheets.specs.Spans.{in_spans}
use Rattle.aim_tiles.specs.Cells.{TakenCells, has_cell}
use Rattle.aim_tiles.specs.Sheets.{AreTiles, AreAhead}
use Rattle.aim_shards.specs.Sums.{Every, total, at}
use Rattle.aim_shards.specs.Sets.{Quarters, part, set_at, is_some, has_cells, is_empty, spans_meet, lies_in, touched, IsOf}
use Rattle.aim_shards.specs.Clear.{IsClear}
use Rattle.aim_shards.specs.Claims.{claimed, is_free_in, are_free, touches, stands, covers, answer, has_ticket, freed, of_quadrant, entries_of, IsLegal, changed, Moves, Changes}
use Rattle.aim_shards.specs.Ruled.{turn, working, queued, Takes, Suits, Drew, Looked, Entered, Passed, Stands, noted, tail_of, entry_of, with_entry, Decided, Decides}
use Rattle.aim_shards.specs.Working.{Carries, Lacks, Rests, Works, Gives, TurnCame, InHand, TakesOut, IsEmptied, PutsIn, HasRoom, Announces, Notes, head_or, entry}
use Rattle.aim_shards.proofs.Lines.{at_self, next_of_suc}
use Rattle.aim_shards.proofs.Places.{answer_of}
use Rattle.aim_shards.proofs.Steps.{in_hand}
use Rattle.aim_shards.proofs.Totals.{Every_map}
use Rattle.aim_shards.proofs.Histories.{stands_more}
use Rattle.aim_shards.proofs.Sharing.{any_shares, any_met, differ}
use Rattle.aim_shards.proofs.Freeing.{answer_free, touches_free, changes_of}

-- a seat of which only the view is known
pub whole : {w : ShardView} (m : Me (Option Quarter) ShardView) → m.0 ≡ w → m ≡ (w, m.1)
whole m e = ap (λ (v : ShardView). (v, m.1)) e

-- after a draw the seat waits
pub queued_is : {q found n : ℕ} {m m' : Me (Option Quarter) ShardView} → m.0 ≡ working m.0.terms n m.0.held m.0.mine → (d : Drew q m found m') → m' ≡ (queued m.0.terms n q d.ticket m.0.held m.0.mine, m.1)
queued_is {q = q} {m = m} same d = d.after ∙ ap (λ (v : ShardView). (record { terms = v.terms; number = v.number; waiting = (q, d.ticket) ∷ []; held = v.held; mine = v.mine; others = v.others }, m.1)) same

pub turn_came : {q found now : ℕ} {m m' l l' : Me (Option Quarter) ShardView} → (d : Drew q m found m') → l ≡ m' → Looked l now l' → now ≡ found → TurnCame q m l'
turn_came {q = q} d same told found =
    let e = same ∙ d.after in
    let c = told.came q d.ticket (ap (λ (y : Me (Option Quarter) ShardView). y.0.waiting) e) (found ∙ d.word) in
    record {
      value = c.value;
      ticket = d.ticket;
      seen = c.seen;
      suits = subst (λ r. Suits r q c.seen c.value) (ap (λ (y : Me (Option Quarter) ShardView). y.0.terms) e) c.suits;
      after = c.after ∙ ap (λ (y : Me (Option Quarter) ShardView). (record { terms = y.0.terms; number = y.0.number; waiting = []; held = turn q d.ticket c.seen ∷ y.0.held; mine = y.0.mine; others = y.0.others }, (q, Some c.value) ∷ y.1)) e;
    }

pub in_hand_as : {q : ℕ} {m : Me (Option Quarter) ShardView} → InHand q m → (k : Option Quarter) × (m.1 ≡ (q, k) ∷ rest m.1)
in_hand_as {q = q} h = (Some h.value, h.is ∙ ap (λ l. (q, Some h.value) ∷ rest l) (sym h.is))

abbrev head_value : List (ℕ × Option Quarter) → Option Quarter
head_value [] = None
head_value (y ∷ ys) = y.1

-- what an exchange found is the value in hand
pub found_is : {q : ℕ} {m : Me (Option Quarter) ShardView} {r : Option Quarter} → (h : InHand q m) → m.1 ≡ (q, r) ∷ rest m.1 → r ≡ Some h.value
found_is h e = ap head_value (sym e ∙ h.is)

pub not_none : {k : Quarter} {r : Option Quarter} → r ≡ Some k → r ≡ None → ⊥
not_none a b = differ (sym a ∙ b)
  where
    differ : {k : Quarter} → Some k ≡ None → ⊥
    differ e = cc

-- the slot after a take and a put
pub put_back_is : {q : ℕ} {k k' : Quarter} {m m1 m2 : Me (Option Quarter) ShardView} → TakesOut q k m m1 → PutsIn q k' m1 m2 → m2 ≡ (m.0, (q, Some k') ∷ rest m.1)
put_back_is {q = q} {k' = k'} a b = b.after ∙ ap (λ (y : Me (Option Quarter) ShardView). (y.0, (q, Some k') ∷ rest y.1)) a.after

pub taken_out : {q : ℕ} {k : Quarter} {m m1 : Me (Option Quarter) ShardView} → TakesOut q k m m1 → IsEmptied q m1
taken_out {q = q} a = record { is = ap (λ (y : Me (Option Quarter) ShardView). y.1) a.after ∙ ap (λ (y : Me (Option Quarter) ShardView). (q, None) ∷ rest y.1) (sym a.after) }

pub as_it_was : {q : ℕ} {k : Quarter} {m m1 m2 : Me (Option Quarter) ShardView} → TakesOut q k m m1 → PutsIn q k m1 m2 → m2 ≡ m
as_it_was {m = m} a b = put_back_is a b ∙ (λ i. (m.0, sym a.was i))

-- where the value put in is the one
pub put_same : {q : ℕ} {k k' : Quarter} {m m' : Me (Option Quarter) ShardView} → k' ≡ k → PutsIn q k' m m' → PutsIn q k m m'
put_same {q = q} {m = m} {m' = m'} e p = subst (λ (k : Quarter). PutsIn q k m m') e p

pub value_is : {q : ℕ} {k : Quarter} {m m' : Me (Option Quarter) ShardView} → (h : InHand q m) → TakesOut q k m m' → k ≡ h.value
value_is h a = in_hand (sym a.was ∙ h.is)

pub with_room : {q : ℕ} {spans : List Span} {m : Me (Option Quarter) ShardView} → HasRoom q spans m → InHand q m
with_room h = record { value = h.value; others = h.others; is = h.is }

abbrev FitsOne : List Span → Quarter → Type 0
FitsOne spans k = (length k.entries.items < vec_capacity k.entries) × AreTiles k.table.size spans × AreAhead k.table.current k.table.horizon spans

pub has_room : {q : ℕ} {spans : List Span} {k : Quarter} {m m' : Me (Option Quarter) ShardView} → (h : HasRoom q spans m) → TakesOut q k m m' → (length k.entries.items < vec_capacity k.entries) × AreTiles k.table.size spans × AreAhead k.table.current k.table.horizon spans
has_room {spans = spans} h a = subst (FitsOne spans) (sym (in_hand (sym a.was ∙ h.is))) (h.room, h.tiles, h.ahead)

pub tiles_in_hand : (spans : List Span) {q : ℕ} {k : Quarter} {m m' : Me (Option Quarter) ShardView} → ((h : InHand q m) → AreTiles h.value.table.size spans) → (h : InHand q m) → TakesOut q k m m' → AreTiles k.table.size spans
tiles_in_hand spans f h a = subst (λ (k : Quarter). AreTiles k.table.size spans) (sym (value_is h a)) (f h)

pub clear_in_hand : (spans : List Span) (b : Bool) {q : ℕ} {k : Quarter} {m m' : Me (Option Quarter) ShardView} → (h : InHand q m) → TakesOut q k m m' → IsClear k.table spans b → IsClear h.value.table spans b
clear_in_hand spans b h a c = subst (λ (k : Quarter). IsClear k.table spans b) (value_is h a) c

pub announces : {q : ℕ} {k k' : Quarter} {m m1 m2 : Me (Option Quarter) ShardView} {plan : QuadrantPlan} → TakesOut q k m m1 → PutsIn q k' m1 m2 → k'.plan ≡ plan → k'.entries ≡ k.entries → k'.table ≡ k.table → Announces q plan m m2
announces {k = k} {k' = k'} a b plan entries table = record { old = k; new = k'; was = a.was; after = put_back_is a b; plan_is = plan; same = entries; table = table }

pub notes : {q : ℕ} {spans : List Span} {k k' : Quarter} {m m1 m2 : Me (Option Quarter) ShardView} {e : ClaimEntry} → TakesOut q k m m1 → PutsIn q k' m1 m2 → k'.entries.items ≡ k.entries.items ++ e ∷ [] → vec_capacity k'.entries ≡ vec_capacity k.entries
    → ((cell : Cell) → has_cell k'.table cell ≡ changed e.act e.yes (has_cell k.table cell) (in_spans spans cell)) → k'.table ≡ record k.table { cells = k'.table.cells } → Notes q spans e m m2
notes {k = k} {k' = k'} a b more wide cells rest' = record { old = k; new = k'; was = a.was; after = put_back_is a b; more = more; wide = wide; cells = cells; rest_is = rest' }

-- the quadrants below n are fewer than n
touched_length : (set : Quarters) (n : ℕ) → length (touched set n) ≤ n
touched_length set zero = omega arith
touched_length set (suc n) = at (lies_in set n) (touched_length set n)
  where
    at : (b : Bool) → length (touched set n) ≤ n → length (if b then n ∷ touched set n else touched set n) ≤ suc n
    at true le = omega arith
    at false le = omega arith

map_length : {A B : Type 0} (f : A → B) (l : List A) → length (map f l) ≡ length l
map_length f [] = refl
map_length f (x ∷ xs) = ap suc (map_length f xs)

-- terms for one turn more
pub few_turns : (set : Quarters) (q : ℕ) {n : ℕ} {terms : Terms} {mine : List ClaimEntry} {m : Me (Option Quarter) ShardView} → q < 4 → Works n terms mine (touched set q) m → length m.0.held ≤ 3
few_turns set q {m = m} lt w = omega (arith, lt, touched_length set q, ap length w.turns, map_length (λ (t : QuadrantTurn). t.quadrant) m.0.held)

pub touched_in : (set : Quarters) (q : ℕ) → lies_in set q ≡ true → touched set (suc q) ≡ q ∷ touched set q
touched_in set q e = ap (λ (b : Bool). if b then q ∷ touched set q else touched set q) e

pub touched_out : (set : Quarters) (q : ℕ) → lies_in set q ≡ false → touched set (suc q) ≡ touched set q
touched_out set q e = ap (λ (b : Bool). if b then q ∷ touched set q else touched set q) e

pub untouched : (set : Quarters) (q : ℕ) (b : Bool) → b ≡ lies_in set q → not b ≡ true → touched set (suc q) ≡ touched set q
untouched set q true e h = absurd (differ h)
  where
    differ : not true ≡ true → ⊥
    differ e = cc
untouched set q false e h = touched_out set q (sym e)

-- the turn of one quadrant more
pub works_more : (set : Quarters) (q : ℕ) {n : ℕ} {terms : Terms} {mine : List ClaimEntry} {m m' : Me (Option Quarter) ShardView} → lies_in set q ≡ true → Works n terms mine (touched set q) m → TurnCame q m m' → Works n terms mine (touched set (suc q)) m'
works_more set q {n = n} {terms = terms} {mine = mine} {m = m} {m' = m'} touch w t =
    let new : QuadrantTurn = turn q t.ticket t.seen in
    let view : m'.0 ≡ working terms n (new ∷ m.0.held) mine = ap (λ (y : Me (Option Quarter) ShardView). y.0) t.after ∙ ap (λ (v : ShardView). record { terms = v.terms; number = v.number; waiting = []; held = new ∷ m.0.held; mine = v.mine; others = v.others }) w.is in
    let held : m'.0.held ≡ new ∷ m.0.held = ap (λ (v : ShardView). v.held) view in
    record {
      is = view ∙ ap (λ l. working terms n l mine) (sym held);
      turns = ap (map (λ (t : QuadrantTurn). t.quadrant)) held ∙ (ap (λ l. q ∷ l) w.turns ∙ sym (touched_in set q touch));
      carries = subst (λ (l : List QuadrantTurn). Carries terms l m'.1) (sym held) (t.value, m.1, ap (λ (y : Me (Option Quarter) ShardView). y.1) t.after, subst (λ r. Suits r q t.seen t.value) (ap (λ (v : ShardView). v.terms) w.is) t.suits, w.carries);
    }

-- what a quadrant's table says of a set's cells
pub clear_is : (terms : Terms) (set : Quarters) (q : ℕ) (seen : List ClaimEntry) (k : Quarter) (b : Bool) → Suits terms q seen k → IsClear k.table (part set q) b → b ≡ is_free_in terms.sets set q seen
clear_is terms set q seen k true s c = sym (ap not (at (list_any (λ (f : ClaimEntry). spans_meet (part set q) (part (claimed terms.sets f.act) q)) (stands [] seen)) refl))
  where
    at : (x : Bool) → list_any (λ (f : ClaimEntry). spans_meet (part set q) (part (claimed terms.sets f.act) q)) (stands [] seen) ≡ x → list_any (λ (f : ClaimEntry). spans_meet (part set q) (part (claimed terms.sets f.act) q)) (stands [] seen) ≡ false
    at false e = e
    at true e = let both = any_shares (λ (f : ClaimEntry). part (claimed terms.sets f.act) q) (part set q) (stands [] seen) e in absurd (differ (sym (s.cells both.0 ∙ both.2) ∙ c both.0 both.1))
clear_is terms set q seen k false s c = sym (ap not (any_met (λ (f : ClaimEntry). part (claimed terms.sets f.act) q) (part set q) (stands [] seen) c.0 c.1 (sym (s.cells c.0) ∙ c.2)))

-- the table can take the set's cells in the quadrant
pub tiles_of : {terms : Terms} {set : Quarters} {q : ℕ} {seen : List ClaimEntry} {k : Quarter} → IsOf terms.sets set → Suits terms q seen k → AreTiles k.table.size (part set q)
tiles_of {q = q} {k = k} o s = subst (AreTiles k.table.size) (sym (o.same q)) (s.takes.tiles o.number)

pub ahead_of : {terms : Terms} {set : Quarters} {q : ℕ} {seen : List ClaimEntry} {k : Quarter} → IsOf terms.sets set → Suits terms q seen k → AreAhead k.table.current k.table.horizon (part set q)
ahead_of {q = q} {k = k} o s = subst (AreAhead k.table.current k.table.horizon) (sym (o.same q)) (s.takes.ahead o.number)

-- the slot in hand is that of the turn that came
pub tiles_came : {set : Quarters} {q : ℕ} {m m' : Me (Option Quarter) ShardView} → IsOf m.0.terms.sets set → TurnCame q m m' → (h : InHand q m') → AreTiles h.value.table.size (part set q)
tiles_came {set = set} {q = q} {m = m} o t h = subst (λ (k : Quarter). AreTiles k.table.size (part set q)) (in_hand (sym (ap (λ (y : Me (Option Quarter) ShardView). y.1) t.after) ∙ h.is)) (tiles_of o t.suits)

pub tiles_at : {set : Quarters} {q : ℕ} {spans : List Span} {m m' : Me (Option Quarter) ShardView} → spans ≡ part set q → IsOf m.0.terms.sets set → TurnCame q m m' → (h : InHand q m') → AreTiles h.value.table.size spans
tiles_at same o t h = subst (AreTiles h.value.table.size) (sym same) (tiles_came o t h)

pub clear_at : (b : Bool) (set : Quarters) {q : ℕ} {spans : List Span} {m : Me (Option Quarter) ShardView} → spans ≡ part set q → (h : InHand q m) → ((k : InHand q m) → IsClear k.value.table spans b) → IsClear h.value.table (part set q) b
clear_at b set same h f = subst (λ l. IsClear h.value.table l b) same (f h)

pub found_more : (set : Quarters) (q : ℕ) (here : Bool) {m m' m'' : Me (Option Quarter) ShardView} {f f' : Found} → lies_in set q ≡ true → IsFound set q m f → (t : TurnCame q m m') → m'' ≡ m' → ((h : InHand q m') → IsClear h.value.table (part set q) here) → f'.free ≡ (f.free && here) → f'.last ≡ q → IsFound set (suc q) m'' f'
found_more set q here {m = m} {m'' = m''} {f = f} touch old t same free is' last =
    let held : m''.0.held ≡ turn q t.ticket t.seen ∷ m.0.held = ap (λ (y : Me (Option Quarter) ShardView). y.0.held) (same ∙ t.after) in
    let terms : m''.0.terms ≡ m.0.terms = ap (λ (y : Me (Option Quarter) ShardView). y.0.terms) (same ∙ t.after) in
    let clear : here ≡ is_free_in m.0.terms.sets set q t.seen = clear_is m.0.terms set q t.seen t.value here t.suits (free record { value = t.value; others = m.1; is = ap (λ (y : Me (Option Quarter) ShardView). y.1) t.after }) in
    record {
      free = is' ∙ ((λ i. old.free i && clear i) ∙ (λ i. are_free (sym terms i).sets set (sym held i)));
      last = last ∙ ap (λ l. head_or l 0) (sym (touched_in set q touch));
    }

-- behind a quadrant in which a cell is taken
pub found_off : (set : Quarters) (q : ℕ) {m m' m'' : Me (Option Quarter) ShardView} {f f' : Found} → lies_in set q ≡ true → IsFound set q m f → (t : TurnCame q m m') → m'' ≡ m' → f.free ≡ false → f'.free ≡ false → f'.last ≡ q → IsFound set (suc q) m'' f'
found_off set q {m = m} {m'' = m''} {f = f} touch old t same off is' last =
    let held : m''.0.held ≡ turn q t.ticket t.seen ∷ m.0.held = ap (λ (y : Me (Option Quarter) ShardView). y.0.held) (same ∙ t.after) in
    let terms : m''.0.terms ≡ m.0.terms = ap (λ (y : Me (Option Quarter) ShardView). y.0.terms) (same ∙ t.after) in
    let taken : false ≡ are_free m.0.terms.sets set m.0.held = sym off ∙ old.free in
    record {
      free = is' ∙ ((λ i. taken i && is_free_in m.0.terms.sets set q t.seen) ∙ (λ i. are_free (sym terms i).sets set (sym held i)));
      last = last ∙ ap (λ l. head_or l 0) (sym (touched_in set q touch));
    }

pub works_at : {n : ℕ} {terms : Terms} {qs : List ℕ} {mine : List ClaimEntry} {m m' : Me (Option Quarter) ShardView} → m' ≡ m → Works n terms mine qs m → Works n terms mine qs m'
works_at {n = n} {terms = terms} {qs = qs} {mine = mine} e w = subst (Works n terms mine qs) (sym e) w

pub and_true : (a b : Bool) → a ≡ true → b ≡ (a && b)
and_true a b p = sym (ap (λ x. x && b) p)

pub in_hand_came : {q : ℕ} {m m' : Me (Option Quarter) ShardView} → TurnCame q m m' → InHand q m'
in_hand_came {m = m} t = record { value = t.value; others = m.1; is = ap (λ (y : Me (Option Quarter) ShardView). y.1) t.after }

module _ {A : Type 0} where
  pub heads : {a b : A} {xs ys : List A} → a ∷ xs ≡ b ∷ ys → a ≡ b
  heads e = cc

  pub tails : {a b : A} {xs ys : List A} → a ∷ xs ≡ b ∷ ys → xs ≡ ys
  tails e = cc

  pub no_head : {a : A} {xs : List A} → [] ≡ a ∷ xs → ⊥
  no_head e = cc

hand_of : (terms : Terms) (q : ℕ) (qs : List ℕ) (hs : List QuadrantTurn) (c : List (ℕ × Option Quarter)) → map (λ t. t.quadrant) hs ≡ q ∷ qs → Carries terms hs c → (k : Quarter) × (cs : List (ℕ × Option Quarter)) × (c ≡ (q, Some k) ∷ cs)
hand_of terms q qs [] c e h = absurd (no_head e)
hand_of terms q qs (t ∷ ts) c e h = (h.0, h.1, h.2 ∙ ap (λ p. (p, Some h.0) ∷ h.1) (heads e))

pub in_hand_last : {n : ℕ} {terms : Terms} {q : ℕ} {qs : List ℕ} {mine : List ClaimEntry} {m : Me (Option Quarter) ShardView} → Works n terms mine (q ∷ qs) m → InHand q m
in_hand_last {terms = terms} {q = q} {qs = qs} {m = m} w = let h = hand_of terms q qs m.0.held m.1 w.turns w.carries in record { value = h.0; others = h.1; is = h.2 }

abbrev quadrant_of : List (ℕ × Option Quarter) → ℕ
quadrant_of [] = 0
quadrant_of (y ∷ ys) = y.0

-- what is carried, where the value in hand was changed to one with the same entries and cells
suits_changed : (terms : Terms) (q : ℕ) (seen : List ClaimEntry) (old new : Quarter) → new.entries ≡ old.entries → new.table ≡ old.table → Suits terms q seen old → Suits terms q seen new
suits_changed terms q seen old new same table s = record {
  entries = ap (λ v. v.items) same ∙ s.entries;
  wide = omega (arith, ap vec_capacity same, s.wide);
  cells = λ cell. ap (λ (t : TakenCells). has_cell t cell) table ∙ s.cells cell;
  takes = subst (Takes terms.sets q) (sym table) s.takes;
}

carries_changed : (terms : Terms) (q : ℕ) (hs : List QuadrantTurn) (c : List (ℕ × Option Quarter)) (old new : Quarter) → c ≡ (q, Some old) ∷ rest c → new.entries ≡ old.entries → new.table ≡ old.table → Carries terms hs c → Carries terms hs ((q, Some new) ∷ rest c)
carries_changed terms q [] c old new was same table h = absurd (no_head (sym h ∙ was))
carries_changed terms q (t ∷ ts) c old new was same table h =
    let first = sym was ∙ h.2 in
    let k : old ≡ h.0 = in_hand first in (
      new,
      h.1,
      (λ i. ((ap quadrant_of first) i, Some new) ∷ ap rest h.2 i),
      suits_changed terms t.quadrant t.seen h.0 new (same ∙ ap (λ (x : Quarter). x.entries) k) (table ∙ ap (λ (x : Quarter). x.table) k) h.3,
      h.4,
    )

lacks_of : (terms : Terms) (set : Quarters) (found : ℕ) (e : ClaimEntry) (hs : List QuadrantTurn) (c : List (ℕ × Option Quarter)) → Carries terms hs c → Every (λ t. length t.seen ≤ found) hs → Every (λ t. Changes terms.sets set t.quadrant t.seen e) hs → found < terms.room → Lacks terms set e (noted e hs) c
lacks_of terms set found e [] c h behind changes lt = h
lacks_of terms set found e (t ∷ ts) c h behind changes lt = (h.0, h.1, h.2, (t.seen, h.3, refl, omega (arith, behind.0), changes.0), lacks_of terms set found e ts h.1 h.4 behind.1 changes.1 lt)

noted_quadrants : (e : ClaimEntry) (hs : List QuadrantTurn) → map (λ t. t.quadrant) (noted e hs) ≡ map (λ t. t.quadrant) hs
noted_quadrants e [] = refl
noted_quadrants e (t ∷ ts) = ap (λ l. t.quadrant ∷ l) (noted_quadrants e ts)

-- the seat after the announcement
pub announced : {n : ℕ} {terms : Terms} {q : ℕ} {qs : List ℕ} {mine : List ClaimEntry} {plan : QuadrantPlan} {m m1 : Me (Option Quarter) ShardView} → Works n terms mine qs m → (a : Announces q plan m m1) → m1 ≡ (working terms n m.0.held mine, (q, Some a.new) ∷ rest m.1)
announced {q = q} {m = m} w a = a.after ∙ ap (λ (v : ShardView). (v, (q, Some a.new) ∷ rest m.1)) w.is

pub decides_new : {sets : List Quarters} {n q : ℕ} {mine : List ClaimEntry} {hs : List QuadrantTurn} {plan : QuadrantPlan} {m m1 : Me (Option Quarter) ShardView} → (a : Announces q plan m m1) → Decides sets n hs mine plan → Decides sets n hs mine a.new.plan
decides_new {sets = sets} {n = n} {mine = mine} {hs = hs} a d = subst (Decides sets n hs mine) (sym a.plan_is) d

changes_all : (sets : List Quarters) (set : Quarters) (n : ℕ) (log mine : List ClaimEntry) (e : ClaimEntry) (hs : List QuadrantTurn) → IsLegal sets log → entries_of n log ≡ mine → e.yes ≡ answer sets (stands [] log) n e.act → Moves sets set mine e.act e.yes → ((q : ℕ) → touches sets (stands [] log) e.act e.yes q ≡ true → q < 4)
    → Every (λ t. touches sets (stands [] log) e.act e.yes t.quadrant ≡ true) hs → Every (λ t. t.seen ≡ of_quadrant sets t.quadrant log) hs → Every (λ t. Changes sets set t.quadrant t.seen e) hs
changes_all sets set n log mine e [] l m ans moves within touch seen = tt
changes_all sets set n log mine e (t ∷ ts) l m ans moves within touch seen = (changes_of sets set t.quadrant n log mine t.seen e l m ans moves (within t.quadrant touch.0) touch.0 seen.0, changes_all sets set n log mine e ts l m ans moves within touch.1 seen.1)

pub gives_after : {n : ℕ} {terms : Terms} {q found : ℕ} {qs : List ℕ} {mine : List ClaimEntry} {plan : QuadrantPlan} (set : Quarters) {m m1 m2 : Me (Option Quarter) ShardView} → Works n terms mine qs m → (a : Announces q plan m m1) → Entered m1 found m2 → Decides terms.sets n m.0.held mine plan → Moves terms.sets set mine plan.act plan.yes
    → Gives n terms (mine ++ entry found n plan ∷ []) set (entry found n plan) qs m2
gives_after {n = n} {terms = terms} {q = q} {found = found} {qs = qs} {mine = mine} {plan = plan} set {m = m} {m1 = m1} {m2 = m2} w a en decides moves =
    let e = entry found n plan in
    let is1 = announced w a in
    let carried : List (ℕ × Option Quarter) = (q, Some a.new) ∷ rest m.1 in
    let is2 : m2 ≡ (working terms n (noted e m.0.held) (mine ++ e ∷ []), carried) =
    en.after q a.new (rest m.1) (ap (λ (y : Me (Option Quarter) ShardView). y.1) is1) ∙ (λ i. (with_entry (entry_of found (is1 i).0.number (a.plan_is i)) (is1 i).0, (is1 i).1)) in
    let held : m2.0.held ≡ noted e m.0.held = ap (λ (y : Me (Option Quarter) ShardView). y.0.held) is2 in
    let lt : found < terms.room = subst (λ (r : Terms). found < r.room) (ap (λ (y : Me (Option Quarter) ShardView). y.0.terms) is1) en.room in
    let st : Stands (working terms n m.0.held mine) = subst Stands (ap (λ (y : Me (Option Quarter) ShardView). y.0) is1) en.stood in
    let decided = decides.after st.log st.lawful st.seen st.claimed.0 in
    let changes = changes_all terms.sets set n st.log mine e m.0.held st.lawful st.claimed.0 decided.right moves (λ p h. (decided.only p h).0) decided.all st.seen in
    record {
      is = ap (λ (y : Me (Option Quarter) ShardView). y.0) is2 ∙ ap (λ l. working terms n l (mine ++ e ∷ [])) (sym held);
      turns = ap (map (λ (t : QuadrantTurn). t.quadrant)) held ∙ (noted_quadrants e m.0.held ∙ w.turns);
      lacks = subst (λ (y : List QuadrantTurn × List (ℕ × Option Quarter)). Lacks terms set e y.0 y.1) (λ i. (sym held i, sym (ap (λ (y : Me (Option Quarter) ShardView). y.1) is2) i))
          (lacks_of terms set found e m.0.held carried (carries_changed terms q m.0.held m.1 a.old a.new a.was a.same a.table w.carries) (subst (λ l. Every (λ (t : QuadrantTurn). length t.seen ≤ found) l) (ap (λ (y : Me (Option Quarter) ShardView). y.0.held) is1) en.behind) changes lt);
    }

-- the turn that is given back next
pub record Last (n : ℕ) (terms : Terms) (q : ℕ) (mine : List ClaimEntry) (set : Quarters) (e : ClaimEntry) (qs : List ℕ) (m : Me (Option Quarter) ShardView) : Type 0 where
  pub ticket : ℕ
  pub seen : List ClaimEntry
  pub held : List QuadrantTurn
  pub value : Quarter
  pub others : List (ℕ × Option Quarter)
  pub before : List ClaimEntry
  pub is : m.0 ≡ working terms n (turn q ticket seen ∷ held) mine
  pub turns : map (λ t. t.quadrant) held ≡ qs
  pub carried : m.1 ≡ (q, Some value) ∷ others
  pub suits : Suits terms q before value
  pub more : seen ≡ before ++ e ∷ []
  pub room_left : length before < terms.room
  pub changes : Changes terms.sets set q before e
  pub lacks : Lacks terms set e held others

last_of : (n : ℕ) (terms : Terms) (q : ℕ) (mine : List ClaimEntry) (set : Quarters) (e : ClaimEntry) (qs : List ℕ) (hs : List QuadrantTurn) (m : Me (Option Quarter) ShardView) → m.0 ≡ working terms n hs mine → map (λ t. t.quadrant) hs ≡ q ∷ qs → Lacks terms set e hs m.1 → Last n terms q mine set e qs m
last_of n terms q mine set e qs [] m is' turns' l = absurd (no_head turns')
last_of n terms q mine set e qs (t ∷ ts) m is' turns' l =
    let here : t.quadrant ≡ q = heads turns' in
    record {
      ticket = t.ticket;
      seen = t.seen;
      held = ts;
      value = l.0;
      others = l.1;
      before = l.3.0;
      is = is' ∙ ap (λ p. working terms n (turn p t.ticket t.seen ∷ ts) mine) here;
      turns = tails turns';
      carried = l.2 ∙ ap (λ p. (p, Some l.0) ∷ l.1) here;
      suits = subst (λ p. Suits terms p l.3.0 l.0) here l.3.1;
      more = l.3.2;
      room_left = l.3.3;
      changes = subst (λ p. Changes terms.sets set p l.3.0 e) here l.3.4;
      lacks = l.4;
    }

pub last_turn : (set : Quarters) (q : ℕ) {n : ℕ} {terms : Terms} {mine : List ClaimEntry} {e : ClaimEntry} {m : Me (Option Quarter) ShardView} → lies_in set q ≡ true → Gives n terms mine set e (touched set (suc q)) m → Last n terms q mine set e (touched set q) m
last_turn set q {n = n} {terms = terms} {mine = mine} {e = e} {m = m} touch g = last_of n terms q mine set e (touched set q) m.0.held m g.is (g.turns ∙ touched_in set q touch) g.lacks

pub last_room : {n : ℕ} {terms : Terms} {q : ℕ} {mine : List ClaimEntry} {set : Quarters} {e : ClaimEntry} {qs : List ℕ} {m : Me (Option Quarter) ShardView} {spans : List Span} → IsOf terms.sets set → spans ≡ part set q → Last n terms q mine set e qs m → HasRoom q spans m
last_room {q = q} {spans = spans} o same l =
    let s = l.suits in
    record { value = l.value; others = l.others; is = l.carried; room = omega (arith, ap length s.entries, s.wide, l.room_left); tiles = subst (AreTiles l.value.table.size) (sym same) (tiles_of o s); ahead = subst (AreAhead l.value.table.current l.value.table.horizon) (sym same) (ahead_of o s) }

pub last_noted : {n : ℕ} {terms : Terms} {q : ℕ} {mine : List ClaimEntry} {set : Quarters} {e : ClaimEntry} {qs : List ℕ} {spans : List Span} {m m1 : Me (Option Quarter) ShardView} → (l : Last n terms q mine set e qs m) → (a : Notes q spans e m m1) → m1 ≡ (working terms n (turn q l.ticket l.seen ∷ l.held) mine, (q, Some a.new) ∷ l.others)
last_noted {q = q} {m = m} l a = a.after ∙ (λ i. (l.is i, (q, Some a.new) ∷ ap rest l.carried i))

pub last_suits : {n : ℕ} {terms : Terms} {q : ℕ} {mine : List ClaimEntry} {set : Quarters} {e : ClaimEntry} {qs : List ℕ} {spans : List Span} {m m1 : Me (Option Quarter) ShardView} → spans ≡ part set q → (l : Last n terms q mine set e qs m) → (a : Notes q spans e m m1) → Suits terms q l.seen a.new
last_suits {terms = terms} {q = q} {set = set} {e = e} {spans = spans} same l a =
    let s = l.suits in
    let k : a.old ≡ l.value = in_hand (sym a.was ∙ l.carried) in
    let table : a.old.table ≡ l.value.table = ap (λ (x : Quarter). x.table) k in
    let fresh : a.new.table ≡ record l.value.table { cells = a.new.table.cells } = a.rest_is ∙ ap (λ (x : TakenCells). record x { cells = a.new.table.cells }) table in
    record {
      entries = a.more ∙ (ap (λ x. x ++ e ∷ []) (ap (λ (x : Quarter). x.entries.items) k ∙ s.entries) ∙ sym l.more);
      wide = omega (arith, a.wide, ap (λ (x : Quarter). vec_capacity x.entries) k, s.wide);
      cells = λ cell. a.cells cell
          ∙ ((λ i. changed e.act e.yes ((ap (λ (x : TakenCells). has_cell x cell) table ∙ s.cells cell) i) (in_spans (same i) cell))
          ∙ (sym (l.changes.cells cell) ∙ ap (λ x. covers terms.sets q x cell) (sym (stands_more [] l.before e) ∙ ap (stands []) (sym l.more))));
      takes = subst (Takes terms.sets q) (sym fresh) record { tiles = s.takes.tiles; ahead = s.takes.ahead };
    }

pub last_given : {n : ℕ} {terms : Terms} {q : ℕ} {mine : List ClaimEntry} {set : Quarters} {e : ClaimEntry} {qs : List ℕ} {spans : List Span} {m m1 m2 : Me (Option Quarter) ShardView} → (l : Last n terms q mine set e qs m) → Notes q spans e m m1 → Passed m1 m2 → Gives n terms mine set e qs m2
last_given {n = n} {terms = terms} {mine = mine} {set = set} {e = e} {m2 = m2} l a p =
    let is2 : m2 ≡ (working terms n l.held mine, l.others) = p.after ∙ ap (λ (y : Me (Option Quarter) ShardView). (record { terms = y.0.terms; number = y.0.number; waiting = y.0.waiting; held = tail_of y.0.held; mine = y.0.mine; others = y.0.others }, rest y.1)) (last_noted l a) in
    let held : m2.0.held ≡ l.held = ap (λ (y : Me (Option Quarter) ShardView). y.0.held) is2 in
    record {
      is = ap (λ (y : Me (Option Quarter) ShardView). y.0) is2 ∙ ap (λ h. working terms n h mine) (sym held);
      turns = ap (map (λ (t : QuadrantTurn). t.quadrant)) held ∙ l.turns;
      lacks = subst (λ (y : List QuadrantTurn × List (ℕ × Option Quarter)). Lacks terms set e y.0 y.1) (λ i. (sym held i, sym (ap (λ (y : Me (Option Quarter) ShardView). y.1) is2) i)) l.lacks;
    }

-- a seat that has given all turns back is at rest
rests_with : (n : ℕ) (terms : Terms) (mine : List ClaimEntry) (set : Quarters) (e : ClaimEntry) (hs : List QuadrantTurn) (m : Me (Option Quarter) ShardView) → m.0 ≡ working terms n hs mine → map (λ t. t.quadrant) hs ≡ [] → Lacks terms set e hs m.1 → m ≡ (working terms n [] mine, [])
rests_with n terms mine set e [] m is' turns' l = λ i. (is' i, l i)
rests_with n terms mine set e (t ∷ ts) m is' turns' l = absurd (no_head (sym turns'))

pub rests_after : {n : ℕ} {terms : Terms} {mine : List ClaimEntry} {set : Quarters} {e : ClaimEntry} {m : Me (Option Quarter) ShardView} → Gives n terms mine set e [] m → m ≡ (working terms n [] mine, [])
rests_after {n = n} {terms = terms} {mine = mine} {set = set} {e = e} {m = m} g = rests_with n terms mine set e m.0.held m g.is g.turns g.lacks

pub gives_same : (set : Quarters) (q : ℕ) {n : ℕ} {terms : Terms} {mine : List ClaimEntry} {e : ClaimEntry} {m : Me (Option Quarter) ShardView} → touched set (suc q) ≡ touched set q → Gives n terms mine set e (touched set (suc q)) m → Gives n terms mine set e (touched set q) m
gives_same set q {n = n} {terms = terms} {mine = mine} {e = e} {m = m} same g = subst (λ l. Gives n terms mine set e l m) same g

pub works_same : (set : Quarters) (q : ℕ) {n : ℕ} {terms : Terms} {mine : List ClaimEntry} {m : Me (Option Quarter) ShardView} → touched set (suc q) ≡ touched set q → Works n terms mine (touched set q) m → Works n terms mine (touched set (suc q)) m
works_same set q {n = n} {terms = terms} {mine = mine} {m = m} same g = subst (λ l. Works n terms mine l m) (sym same) g

pub found_same : (set : Quarters) (q : ℕ) {m : Me (Option Quarter) ShardView} {f : Found} → touched set (suc q) ≡ touched set q → IsFound set q m f → IsFound set (suc q) m f
found_same set q same g = record { free = g.free; last = g.last ∙ ap (λ l. head_or l 0) (sym same) }

-- at rest no turn is held
pub works_from : {n : ℕ} {m : Me (Option Quarter) ShardView} (set : Quarters) → Rests n m → Works n m.0.terms m.0.mine (touched set 0) m
works_from {n = n} {m = m} set r =
    let held : m.0.held ≡ [] = ap (λ (y : Me (Option Quarter) ShardView). y.0.held) r.is in
    record {
      is = ap (λ (y : Me (Option Quarter) ShardView). y.0) r.is ∙ ap (λ l. working m.0.terms n l m.0.mine) (sym held);
      turns = ap (map (λ (t : QuadrantTurn). t.quadrant)) held;
      carries = subst (λ l. Carries m.0.terms l m.1) (sym held) (ap (λ (y : Me (Option Quarter) ShardView). y.1) r.is);
    }

pub found_from : {n : ℕ} {m : Me (Option Quarter) ShardView} (set : Quarters) → Rests n m → (f : Found) → f.free ≡ true → f.last ≡ 0 → IsFound set 0 m f
found_from {m = m} set r f free last = record { free = free ∙ (λ i. are_free m.0.terms.sets set (sym (ap (λ (y : Me (Option Quarter) ShardView). y.0.held) r.is) i)); last = last }

-- with the terms and the entries as the seat's view has them
pub works_own : {n : ℕ} {terms : Terms} {qs : List ℕ} {mine : List ClaimEntry} {m : Me (Option Quarter) ShardView} → Works n terms mine qs m → Works n m.0.terms m.0.mine qs m
works_own {n = n} {qs = qs} {m = m} w = subst (λ (v : ShardView). Works n v.terms v.mine qs m) (sym w.is) w

pub of_own : {n : ℕ} {terms : Terms} {qs : List ℕ} {mine : List ClaimEntry} {set : Quarters} {m : Me (Option Quarter) ShardView} → Works n terms mine qs m → IsOf terms.sets set → IsOf m.0.terms.sets set
of_own {set = set} w o = subst (λ (v : ShardView). IsOf v.terms.sets set) (sym w.is) o

pub of_works : {n : ℕ} {terms : Terms} {qs : List ℕ} {mine : List ClaimEntry} {set : Quarters} {m : Me (Option Quarter) ShardView} → Works n terms mine qs m → IsOf terms.sets set → IsOf m.0.terms.sets set
of_works w o = of_own w o

pub of_gives : {n : ℕ} {terms : Terms} {qs : List ℕ} {mine : List ClaimEntry} {set : Quarters} {e : ClaimEntry} {m : Me (Option Quarter) ShardView} → Gives n terms mine set e qs m → IsOf terms.sets set → IsOf m.0.terms.sets set
of_gives {set = set} w o = subst (λ (v : ShardView). IsOf v.terms.sets set) (sym w.is) o

pub works_back : {n : ℕ} {terms : Terms} {qs qs' : List ℕ} {mine : List ClaimEntry} {m m' : Me (Option Quarter) ShardView} → Works n terms mine qs m → Works n m.0.terms m.0.mine qs' m' → Works n terms mine qs' m'
works_back {n = n} {qs' = qs'} {m' = m'} w w' = subst (λ (v : ShardView). Works n v.terms v.mine qs' m') w.is w'

pub works_next : (set : Quarters) (q : ℕ) {n : ℕ} {terms : Terms} {mine : List ClaimEntry} {m : Me (Option Quarter) ShardView} → Works n terms mine (touched set (suc q)) m → Works n terms mine (touched set (q + 1)) m
works_next set q {n = n} {terms = terms} {mine = mine} {m = m} w = subst (λ k. Works n terms mine (touched set k) m) (sym (next_of_suc q)) w

pub found_next : (set : Quarters) (q : ℕ) {m : Me (Option Quarter) ShardView} {f : Found} → IsFound set (suc q) m f → IsFound set (q + 1) m f
found_next set q {m = m} {f = f} w = subst (λ k. IsFound set k m f) (sym (next_of_suc q)) w

pub gives_own : {n : ℕ} {terms : Terms} {qs : List ℕ} {mine : List ClaimEntry} {set : Quarters} {e : ClaimEntry} {m : Me (Option Quarter) ShardView} → Gives n terms mine set e qs m → Gives n m.0.terms m.0.mine set e qs m
gives_own {n = n} {qs = qs} {set = set} {e = e} {m = m} w = subst (λ (v : ShardView). Gives n v.terms v.mine set e qs m) (sym w.is) w

pub gives_back : {n : ℕ} {terms : Terms} {qs qs' : List ℕ} {mine : List ClaimEntry} {set : Quarters} {e : ClaimEntry} {m m' : Me (Option Quarter) ShardView} → Gives n terms mine set e qs m → Gives n m.0.terms m.0.mine set e qs' m' → Gives n terms mine set e qs' m'
gives_back {n = n} {qs' = qs'} {set = set} {e = e} {m' = m'} w w' = subst (λ (v : ShardView). Gives n v.terms v.mine set e qs' m') w.is w'

-- the quadrant k is the one below q
pub gives_step : (set : Quarters) (k q : ℕ) {n : ℕ} {terms : Terms} {mine : List ClaimEntry} {e : ClaimEntry} {m : Me (Option Quarter) ShardView} → suc k ≡ q → Gives n terms mine set e (touched set q) m → Gives n terms mine set e (touched set (suc k)) m
gives_step set k q {n = n} {terms = terms} {mine = mine} {e = e} {m = m} same w = subst (λ j. Gives n terms mine set e (touched set j) m) (sym same) w

pub gives_none : (set : Quarters) (q : ℕ) {n : ℕ} {terms : Terms} {mine : List ClaimEntry} {e : ClaimEntry} {m : Me (Option Quarter) ShardView} → q ≡ 0 → Gives n terms mine set e (touched set q) m → Gives n terms mine set e [] m
gives_none set q {n = n} {terms = terms} {mine = mine} {e = e} {m = m} same w = subst (λ j. Gives n terms mine set e (touched set j) m) same w

-- a list that has a first
abbrev Some' : List ℕ → Type 0
Some' l = l ≡ head_or l 0 ∷ tail_of l

some_here : (set : Quarters) (q : ℕ) → lies_in set q ≡ true → Some' (touched set (suc q))
some_here set q e = subst Some' (sym (touched_in set q e)) refl

some_up : (set : Quarters) (q : ℕ) → Some' (touched set q) → Some' (touched set (suc q))
some_up set q h = at (lies_in set q) refl
  where
    at : (b : Bool) → lies_in set q ≡ b → Some' (touched set (suc q))
    at true e = some_here set q e
    at false e = subst Some' (sym (touched_out set q e)) h

pub or_false : (a b : Bool) → (a || b) ≡ false → a ≡ false
or_false true b h = absurd cc
or_false false b h = refl

-- each call touches a quadrant
pub touched_some : (set : Quarters) → Some' (touched set 4)
touched_some set = at3 (lies_in set 3) refl
  where
    first : lies_in set 1 ≡ false → lies_in set 2 ≡ false → lies_in set 3 ≡ false → (b : Bool) → has_cells set 0 ≡ b → lies_in set 0 ≡ true
    first a b c true h = ap (λ (x : Bool). x || (is_empty set && (0 == 0))) h
    first a b c false h = λ i. h i || (not (((h i || or_false (has_cells set 1) (is_empty set && (1 == 0)) a i) || or_false (has_cells set 2) (is_empty set && (2 == 0)) b i) || or_false (has_cells set 3) (is_empty set && (3 == 0)) c i) && (0 == 0))

    at1 : lies_in set 2 ≡ false → lies_in set 3 ≡ false → (b : Bool) → lies_in set 1 ≡ b → Some' (touched set 4)
    at1 b c true h = some_up set 3 (some_up set 2 (some_here set 1 h))
    at1 b c false h = some_up set 3 (some_up set 2 (some_up set 1 (some_here set 0 (first h b c (has_cells set 0) refl))))

    at2 : lies_in set 3 ≡ false → (b : Bool) → lies_in set 2 ≡ b → Some' (touched set 4)
    at2 c true h = some_up set 3 (some_here set 2 h)
    at2 c false h = at1 h c (lies_in set 1) refl

    at3 : (b : Bool) → lies_in set 3 ≡ b → Some' (touched set 4)
    at3 true h = some_here set 3 h
    at3 false h = at2 h (lies_in set 2) refl

pub works_some : {n : ℕ} {terms : Terms} {last : ℕ} {mine : List ClaimEntry} (set : Quarters) {m : Me (Option Quarter) ShardView} → last ≡ head_or (touched set 4) 0 → Works n terms mine (touched set 4) m → Works n terms mine (last ∷ tail_of (touched set 4)) m
works_some {n = n} {terms = terms} {mine = mine} set {m = m} e w = subst (λ l. Works n terms mine l m) (touched_some set ∙ ap (λ q. q ∷ tail_of (touched set 4)) (sym e)) w

-- the quadrants of a claim
beyond : (l : Quarters) (i : ℕ) → length l ≤ i → part l i ≡ []
beyond [] i le = refl
beyond (x ∷ xs) zero le = absurd (omega arith)
beyond (x ∷ xs) (suc i) le = beyond xs i (omega arith)

lies_below : (set : Quarters) (q : ℕ) → length set ≡ 4 → lies_in set q ≡ true → q < 4
lies_below set q four h = dite (dec_le 4 q) (λ le. absurd (differ (sym (ap is_some (beyond set q (omega arith)))) (zero_only q le) h)) (λ lt. omega (arith, lt))
  where
    zero_only : (q : ℕ) → 4 ≤ q → (q == 0) ≡ false
    zero_only q le = grind (arith, nat_tests)

    differ : false ≡ has_cells set q → (q == 0) ≡ false → lies_in set q ≡ true → ⊥
    differ a b e = no (is_empty set) (sym (λ i. sym a i || (is_empty set && b i)) ∙ e)
      where
        no : (x : Bool) → (false || (x && false)) ≡ true → ⊥
        no true e = cc
        no false e = cc

touched_has : (set : Quarters) (q n : ℕ) → q < n → lies_in set q ≡ true → 1 ≤ total (λ p. at q p 1) (touched set n)
touched_has set q zero lt h = absurd (omega arith)
touched_has set q (suc n) lt h = dite (ℕ_discrete q n) (λ e. subst (λ l. 1 ≤ total (λ p. at q p 1) l) (sym (touched_in set n (subst (λ k. lies_in set k ≡ true) e h))) (omega (arith, at_self q n 1 (sym e)))) (λ ne. at' (lies_in set n) refl (touched_has set q n (omega (arith, ne)) h))
  where
    at' : (b : Bool) → lies_in set n ≡ b → 1 ≤ total (λ p. at q p 1) (touched set n) → 1 ≤ total (λ p. at q p 1) (touched set (suc n))
    at' true e le = subst (λ l. 1 ≤ total (λ p. at q p 1) l) (sym (touched_in set n e)) (omega arith)
    at' false e le = subst (λ l. 1 ≤ total (λ p. at q p 1) l) (sym (touched_out set n e)) le

touched_all : (set : Quarters) (n : ℕ) → Every (λ q. lies_in set q ≡ true) (touched set n)
touched_all set zero = tt
touched_all set (suc n) = at' (lies_in set n) refl (touched_all set n)
  where
    at' : (b : Bool) → lies_in set n ≡ b → Every (λ q. lies_in set q ≡ true) (touched set n) → Every (λ q. lies_in set q ≡ true) (touched set (suc n))
    at' true e all = subst (Every (λ q. lies_in set q ≡ true)) (sym (touched_in set n e)) (e, all)
    at' false e all = subst (Every (λ q. lies_in set q ≡ true)) (sym (touched_out set n e)) all

map_total : (q : ℕ) (hs : List QuadrantTurn) → total (λ (t : QuadrantTurn). at q t.quadrant 1) hs ≡ total (λ p. at q p 1) (map (λ t. t.quadrant) hs)
map_total q [] = refl
map_total q (t ∷ ts) = ap (λ k. at q t.quadrant 1 + k) (map_total q ts)

map_every : (P : ℕ → Type 0) (hs : List QuadrantTurn) → Every P (map (λ t. t.quadrant) hs) → Every (λ t. P t.quadrant) hs
map_every P [] all = tt
map_every P (t ∷ ts) all = (all.0, map_every P ts all.1)

-- the quadrants that the call touches are those of the set
decided_by : (set : Quarters) {n : ℕ} {terms : Terms} {mine : List ClaimEntry} {m : Me (Option Quarter) ShardView} (plan : QuadrantPlan) (log : List ClaimEntry) → length set ≡ 4 → Works n terms mine (touched set 4) m → plan.yes ≡ answer terms.sets (stands [] log) n plan.act → ((q : ℕ) → touches terms.sets (stands [] log) plan.act plan.yes q ≡ lies_in set q) → Decided terms.sets n m.0.held plan log
decided_by set {terms = terms} {m = m} plan log four w right same = record {
  right = right;
  only = λ q h. let l = sym (same q) ∙ h in let lt = lies_below set q four l in (lt, omega (arith, map_total q m.0.held, ap (total (λ p. at q p 1)) w.turns, touched_has set q 4 lt l));
  all = map_every (λ q. touches terms.sets (stands [] log) plan.act plan.yes q ≡ true) m.0.held (Every_map (λ q. lies_in set q ≡ true) (λ q. touches terms.sets (stands [] log) plan.act plan.yes q ≡ true) (λ q h. same q ∙ h) (map (λ (t : QuadrantTurn). t.quadrant) m.0.held) (subst (Every (λ q. lies_in set q ≡ true)) (sym w.turns) (touched_all set 4)));
}

-- a claim's holder knows the answer and the quadrants
pub decides_claim : (set : Quarters) (k : ℕ) {n : ℕ} {terms : Terms} {mine : List ClaimEntry} {m : Me (Option Quarter) ShardView} {f : Found} → set ≡ set_at terms.sets k → length set ≡ 4 → Works n terms mine (touched set 4) m → IsFound set 4 m f → Decides terms.sets n m.0.held m.0.mine record { act = act.Claim k; yes = f.free }
decides_claim set k {n = n} {terms = terms} {m = m} {f = f} same four w found =
    let own : m.0.terms ≡ terms = ap (λ (v : ShardView). v.terms) w.is in
    record {
      after = λ log lawful seen mine'. decided_by set record { act = act.Claim k; yes = f.free } log four w
          (found.free ∙ ((λ i. are_free (own i).sets (same i) m.0.held) ∙ answer_of terms.sets k n log m.0.held (w.turns ∙ ap (λ (x : Quarters). touched x 4) same) seen)) (λ q. ap (λ (x : Quarters). lies_in x q) (sym same));
    }

-- so does a freeing's
pub decides_free : (set : Quarters) (t : ℕ) (granted : Bool) {n : ℕ} {terms : Terms} {mine : List ClaimEntry} {m : Me (Option Quarter) ShardView} → length set ≡ 4 → Works n terms mine (touched set 4) m → granted ≡ has_ticket t (stands [] mine) → ((q : ℕ) → lies_in set q ≡ lies_in (freed terms.sets t (stands [] mine)) q) → Decides terms.sets n m.0.held m.0.mine record { act = act.Free t; yes = granted }
decides_free set t granted {n = n} {terms = terms} {mine = mine} {m = m} four w has same =
    let own : m.0.mine ≡ mine = ap (λ (v : ShardView). v.mine) w.is in
    record {
      after = λ log lawful seen ours. decided_by set record { act = act.Free t; yes = granted } log four w (has ∙ answer_free terms.sets t n log mine lawful (ours ∙ own)) (λ q. touches_free terms.sets t n q log mine granted lawful (ours ∙ own) has ∙ sym (same q));
    }

-- with the terms that the seat's view has
pub decides_own : {n number : ℕ} {terms : Terms} {qs : List ℕ} {hs : List QuadrantTurn} {mine mine' : List ClaimEntry} {plan : QuadrantPlan} {m : Me (Option Quarter) ShardView} → Works n terms mine qs m → Decides terms.sets number hs mine' plan → Decides m.0.terms.sets number hs mine' plan
decides_own {number = number} {hs = hs} {mine' = mine'} {plan = plan} w d = subst (λ (v : ShardView). Decides v.terms.sets number hs mine' plan) (sym w.is) d
