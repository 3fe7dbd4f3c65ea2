-- The terms and the sets of a script.
use Rattle.std.proofs.Common.{◌≡◌, ℕ, zero, suc, ◌+◌, ◌<◌, true, ◌&&◌, nat_le, nat_lt, List, [], ◌∷◌, ◌++◌, length, take, Option, Some, None, refl, sym, ap, ◌∙◌, subst, arith}
use Rattle.std.specs.Prelude.{get_or}
use Rattle.std.specs.Option.{option_to_list}
use Rattle.std.proofs.lemmas.Bool.{and_parts, leb-true, ltb-true}
use Rattle.std.proofs.lemmas.List.{append-nil, take_more}
use Rattle.std.proofs.lemmas.List.Elements.{All-push, filter_map-append}
use Rattle.aim_shards.specs.declared.rectangles.Rectangle.{Rectangle}
use Rattle.aim_shards.specs.Rectangles.{FitsGrid}
use Rattle.aim_shards_command.specs.declared.decisions.ClaimKind.TheVariants as kind
use Rattle.aim_shards_command.specs.declared.lines.ShardLine.{ShardLine}
use Rattle.aim_shards_command.specs.declared.lines.ShardLine.TheVariants as line
use Rattle.aim_shards_command.specs.declared.script.ClaimTerms.{ClaimTerms}
use Rattle.aim_shards_command.specs.Said.{rectangle_of, set_in, sets_of, terms_of}
use Rattle.aim_shards_command.specs.Kinds.{IsScript, are_terms, belongs, kind_of_fault, lies_on, number_fault, part_after, rows_in}
use Rattle.aim_shards_command.specs.Fits.{AreFitting, FitTerms}
use Rattle.aim_shards_command.proofs.Growing.{order_of, unless_none}

terms_fit : (n horizon callers : ℕ) → are_terms n horizon callers ≡ true → FitTerms (record { n = n; horizon = horizon; callers = callers })
terms_fit n horizon callers e =
    let a = and_parts (nat_le 1 n && nat_le n 64) ((nat_le 1 horizon && nat_le horizon 8192) && (nat_le 1 callers && nat_le callers 64)) e in
    let b = and_parts (nat_le 1 horizon && nat_le horizon 8192) (nat_le 1 callers && nat_le callers 64) a.1 in
    let p = and_parts (nat_le 1 n) (nat_le n 64) a.0 in
    let q = and_parts (nat_le 1 horizon) (nat_le horizon 8192) b.0 in
    let r = and_parts (nat_le 1 callers) (nat_le callers 64) b.1 in record {
      some_rows = leb-true 1 n p.0;
      few_rows = leb-true n 64 p.1;
      some_steps = leb-true 1 horizon q.0;
      few_steps = leb-true horizon 8192 q.1;
      some_callers = leb-true 1 callers r.0;
      few_callers = leb-true callers 64 r.1;
    }

first_fits : (l : ShardLine) (lines : List ShardLine) → belongs (part_after None) l ≡ true → number_fault [] l ≡ None → FitTerms (terms_of (l ∷ lines))
first_fits (line.Shards n horizon callers) lines may none = terms_fit n horizon callers (unless_none kind.Shards (are_terms n horizon callers) none)
first_fits (line.Set ns) lines may none = absurd cc
first_fits (line.Claim caller set) lines may none = absurd cc
first_fits (line.Free caller call) lines may none = absurd cc
first_fits line.End lines may none = absurd cc

pub script_fits : (lines : List ShardLine) → IsScript lines → 0 < length lines → FitTerms (terms_of lines)
script_fits [] s some = absurd (omega arith)
script_fits (l ∷ lines) s some = (let o = order_of [] l (s.each 0 l refl) in first_fits l lines o.0 o.1)

rectangle_fits : (t : ClaimTerms) (r : Rectangle) → lies_on t r ≡ true → FitsGrid t.n t.horizon r
rectangle_fits t r e =
    let a = and_parts (nat_le r.row0 r.row1 && nat_lt r.row1 t.n) ((nat_le r.col0 r.col1 && nat_lt r.col1 t.n) && (nat_le r.from r.to && nat_lt r.to t.horizon)) e in
    let b = and_parts (nat_le r.col0 r.col1 && nat_lt r.col1 t.n) (nat_le r.from r.to && nat_lt r.to t.horizon) a.1 in
    let p = and_parts (nat_le r.row0 r.row1) (nat_lt r.row1 t.n) a.0 in
    let q = and_parts (nat_le r.col0 r.col1) (nat_lt r.col1 t.n) b.0 in
    let s = and_parts (nat_le r.from r.to) (nat_lt r.to t.horizon) b.1 in record {
      rows = leb-true r.row0 r.row1 p.0;
      last_row = ltb-true r.row1 t.n p.1;
      columns = leb-true r.col0 r.col1 q.0;
      last_column = ltb-true r.col1 t.n q.1;
      steps = leb-true r.from r.to s.0;
      last_step = ltb-true r.to t.horizon s.1;
    }

set_fits : (before : List ShardLine) (ns : List ℕ) → kind_of_fault before (line.Set ns) ≡ None → (let t = terms_of before in FitsGrid t.n t.horizon (rectangle_of ns))
set_fits before ns none =
    let b = unless_none kind.Set _ ((order_of before (line.Set ns) none).1) in
    rectangle_fits (terms_of before) (rectangle_of ns) ((and_parts (lies_on (terms_of before) (rectangle_of ns)) (nat_le (rows_in (rectangle_of ns)) 4096 && nat_lt (length (sets_of before)) 1024) b).0)

front_terms : (i : ℕ) (lines : List ShardLine) → 0 < i → terms_of (take i lines) ≡ terms_of lines
front_terms zero lines some = absurd (omega arith)
front_terms (suc i) [] some = refl
front_terms (suc i) (l ∷ lines) some = refl

-- a set at a place of a script fits, since another line stands before it
set_in_place : (i : ℕ) (lines : List ShardLine) (ns : List ℕ) → kind_of_fault (take i lines) (line.Set ns) ≡ None → (let t = terms_of lines in FitsGrid t.n t.horizon (rectangle_of ns))
set_in_place zero lines ns none = absurd (cc ((order_of [] (line.Set ns) none).0))
set_in_place (suc i) lines ns none = subst (λ (t : ClaimTerms). FitsGrid t.n t.horizon (rectangle_of ns)) (front_terms (suc i) lines (omega arith)) (set_fits (take (suc i) lines) ns none)

pub fitting_none : (t : ClaimTerms) (sets : List Rectangle) → sets ≡ [] → AreFitting t sets
fitting_none t sets e = record { all = λ k d lt. absurd (omega (arith, lt, ap length e)) }

pub fitting_more : (lines : List ShardLine) (i : ℕ) (l : ShardLine) (old new : List Rectangle) → kind_of_fault (take i lines) l ≡ None → AreFitting (terms_of lines) old → new ≡ old ++ option_to_list (set_in l) → AreFitting (terms_of lines) new
fitting_more lines i l old new none f e = subst (λ sets. AreFitting (terms_of lines) sets) (sym e) (at l none)
  where
    plain : AreFitting (terms_of lines) (old ++ [])
    plain = subst (λ sets. AreFitting (terms_of lines) sets) (sym (append-nil old)) f

    at : (l : ShardLine) → kind_of_fault (take i lines) l ≡ None → AreFitting (terms_of lines) (old ++ option_to_list (set_in l))
    at (line.Shards n horizon callers) none = plain
    at (line.Set ns) none = (let t = terms_of lines in record { all = All-push (FitsGrid t.n t.horizon) old (rectangle_of ns) f.all (set_in_place i lines ns none) })
    at (line.Claim caller set) none = plain
    at (line.Free caller call) none = plain
    at line.End none = plain

one_set : (l : ShardLine) (o : Option Rectangle) → set_in l ≡ o → sets_of (l ∷ []) ≡ option_to_list o
one_set l None e = rw e refl
one_set l (Some r) e = rw e refl

-- the sets of one line more
pub sets_next : (lines : List ShardLine) (i : ℕ) (d : ShardLine) (old new : List Rectangle) → i < length lines → old ≡ sets_of (take i lines) → new ≡ old ++ option_to_list (set_in (get_or lines i d)) → new ≡ sets_of (take (i + 1) lines)
sets_next lines i d old new lt was e =
    e ∙ (ap (λ s. s ++ option_to_list (set_in (get_or lines i d))) was
    ∙ sym (ap sets_of (take_more lines i d lt) ∙ (filter_map-append set_in (take i lines) (get_or lines i d ∷ []) ∙ ap (λ more. sets_of (take i lines) ++ more) (one_set (get_or lines i d) (set_in (get_or lines i d)) refl))))
