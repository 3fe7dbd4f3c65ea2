-- The lines that are taken make the layout that they say.
use Rattle.std.proofs.Common.{◌≡◌, ℕ, ◌-◌, ◌<◌, inl, inr, Bool, true, false, ◌&&◌, List, [], ◌∷◌, ◌++◌, map, length, slice_get, get_or, set, replicate, Option, Some, None, arith, refl, sym, ◌∙◌, ap, suc, eq-eqb, append_assoc}
use Rattle.std.specs.Prelude.{◌==◌, option_map, if◌then◌else◌}
use Rattle.std.specs.List.{range_with_len, fold}
use Rattle.std.specs.Option.{option_or}
use Rattle.std.proofs.lemmas.Bool.{cases_eq, ne_eqb}
use Rattle.std.proofs.lemmas.List.{append-nil, same_lists, length-set, length-replicate, get_or-replicate, get_or-set_same, get_or-set_other}
use Rattle.std.proofs.lemmas.List.FromFn.{length-map-range_with_len, get_or-map-range_with_len}
use Rattle.aim_messages.specs.declared.messages.Turn.{Turn}
use Rattle.aim_messages.specs.declared.messages.Turn.TheVariants.{Left, Straight, Right}
use Rattle.aim_geometry.specs.Sites.{Site}
use Rattle.aim_layout.specs.declared.policies.PolicyKind.{PolicyKind}
use Rattle.aim_layout.specs.declared.policies.Phase.{Phase}
use Rattle.aim_layout.specs.declared.shapes.Shape.{Shape}
use Rattle.aim_layout.specs.Shapes.{stations_of}
use Rattle.aim_layout.specs.Intersection.{Intersection, Lane, Policy, path_of}
use Rattle.aim_layout.specs.Building.{no_paths, bare, with_path}
use Rattle.aim_layout.specs.Added.{Added, AddMove, AddPolicy, AddPhase, added, added_fault, AreTaken, is_turn, shape_of, lane_of, phases_of, policies_of, layout_of}
use Rattle.aim_layout.proofs.LaneTileLemmas.{path_there}
use Rattle.aim_layout.proofs.SoundLemmas.{IsMove, IsMove-tests, phase_found}

-- the shapes of lines before others come first
shape_of-append : (xs ys : List Added) (lane : ℕ) (turn : Turn) → shape_of (xs ++ ys) lane turn ≡ option_or (shape_of xs lane turn) (shape_of ys lane turn)
shape_of-append [] ys lane turn = refl
shape_of-append (AddMove l t s ∷ xs) ys lane turn = chosen (l == lane && is_turn t turn) s (shape_of (xs ++ ys) lane turn) (shape_of xs lane turn) (shape_of ys lane turn) (shape_of-append xs ys lane turn)
  where
    chosen : (b : Bool) (s : Shape) (a x y : Option Shape) → a ≡ option_or x y → (if b then Some s else a) ≡ option_or (if b then Some s else x) y
    chosen true s a x y e = refl
    chosen false s a x y e = e
shape_of-append (AddPolicy k ∷ xs) ys lane turn = shape_of-append xs ys lane turn
shape_of-append (AddPhase f ∷ xs) ys lane turn = shape_of-append xs ys lane turn

or_none : {X : Type 0} (o : Option X) → option_or o None ≡ o
or_none None = refl
or_none (Some x) = refl

-- a line that is no move of the lane leaves its shapes
shape_of-other : (xs : List Added) (x : Added) (lane : ℕ) (turn : Turn) → shape_of (x ∷ []) lane turn ≡ None → shape_of (xs ++ x ∷ []) lane turn ≡ shape_of xs lane turn
shape_of-other xs x lane turn h = shape_of-append xs (x ∷ []) lane turn ∙ rw h (or_none (shape_of xs lane turn))

lane_of-other : (xs : List Added) (x : Added) (lane : ℕ) → ((turn : Turn) → shape_of (x ∷ []) lane turn ≡ None) → lane_of (xs ++ x ∷ []) lane ≡ lane_of xs lane
lane_of-other xs x lane h =
    rw (shape_of-other xs x lane Left (h Left), shape_of-other xs x lane Straight (h Straight), shape_of-other xs x lane Right (h Right)) refl

-- lanes made one by one
lanes_same : (n : ℕ) (f g : ℕ → Lane) → ((k : ℕ) → k < n → f k ≡ g k) → map f (range_with_len 0 n) ≡ map g (range_with_len 0 n)
lanes_same n f g h =
    same_lists (map f (range_with_len 0 n)) (map g (range_with_len 0 n)) (length-map-range_with_len f 0 n ∙ sym (length-map-range_with_len g 0 n)) (λ k d l.
    let m : k < n = omega (arith, length-map-range_with_len f 0 n) in
    get_or-map-range_with_len f 0 n k k d m (omega arith) ∙ h k m ∙ sym (get_or-map-range_with_len g 0 n k k d m (omega arith)))

-- phases and policies as lines come
phases_of-move : (xs : List Added) (l : ℕ) (t : Turn) (s : Shape) → phases_of (xs ++ AddMove l t s ∷ []) ≡ phases_of xs
phases_of-move [] l t s = refl
phases_of-move (AddMove a b c ∷ xs) l t s = phases_of-move xs l t s
phases_of-move (AddPolicy k ∷ xs) l t s = refl
phases_of-move (AddPhase f ∷ xs) l t s = ap (λ fs. f ∷ fs) (phases_of-move xs l t s)

policies_of-move : (xs : List Added) (l : ℕ) (t : Turn) (s : Shape) → policies_of (xs ++ AddMove l t s ∷ []) ≡ policies_of xs
policies_of-move [] l t s = refl
policies_of-move (AddMove a b c ∷ xs) l t s = policies_of-move xs l t s
policies_of-move (AddPolicy k ∷ xs) l t s = rw (phases_of-move xs l t s, policies_of-move xs l t s) refl
policies_of-move (AddPhase f ∷ xs) l t s = policies_of-move xs l t s

phases_of-policy : (xs : List Added) (k : PolicyKind) → phases_of (xs ++ AddPolicy k ∷ []) ≡ phases_of xs
phases_of-policy [] k = refl
phases_of-policy (AddMove a b c ∷ xs) k = phases_of-policy xs k
phases_of-policy (AddPolicy j ∷ xs) k = refl
phases_of-policy (AddPhase f ∷ xs) k = ap (λ fs. f ∷ fs) (phases_of-policy xs k)

policies_of-policy : (xs : List Added) (k : PolicyKind) (q : Policy) → q ≡ record { kind = k; phases = [] } → policies_of (xs ++ AddPolicy k ∷ []) ≡ policies_of xs ++ q ∷ []
policies_of-policy [] k q e = rw e refl
policies_of-policy (AddMove a b c ∷ xs) k q e = policies_of-policy xs k q e
policies_of-policy (AddPolicy j ∷ xs) k q e = rw (phases_of-policy xs k, policies_of-policy xs k q e) refl
policies_of-policy (AddPhase f ∷ xs) k q e = policies_of-policy xs k q e

-- the last policy gets a phase
extended : List Policy → Phase → List Policy
extended [] f = []
extended (q ∷ []) f = record q { phases = q.phases ++ f ∷ [] } ∷ []
extended (q ∷ r ∷ qs) f = q ∷ extended (r ∷ qs) f

phases_of-first : (xs : List Added) (f : Phase) → policies_of xs ≡ [] → phases_of (xs ++ AddPhase f ∷ []) ≡ phases_of xs ++ f ∷ []
phases_of-first [] f h = refl
phases_of-first (AddMove a b c ∷ xs) f h = phases_of-first xs f h
phases_of-first (AddPolicy j ∷ xs) f h = absurd (cc)
phases_of-first (AddPhase g ∷ xs) f h = ap (λ fs. g ∷ fs) (phases_of-first xs f h)

phases_of-later : (xs : List Added) (f : Phase) (q : Policy) (qs : List Policy) → policies_of xs ≡ q ∷ qs → phases_of (xs ++ AddPhase f ∷ []) ≡ phases_of xs
phases_of-later [] f q qs h = absurd (cc)
phases_of-later (AddMove a b c ∷ xs) f q qs h = phases_of-later xs f q qs h
phases_of-later (AddPolicy j ∷ xs) f q qs h = refl
phases_of-later (AddPhase g ∷ xs) f q qs h = ap (λ fs. g ∷ fs) (phases_of-later xs f q qs h)

policies_of-phase : (xs : List Added) (f : Phase) → policies_of (xs ++ AddPhase f ∷ []) ≡ extended (policies_of xs) f
unfolding extended
policies_of-phase [] f = refl
policies_of-phase (AddMove a b c ∷ xs) f = policies_of-phase xs f
policies_of-phase (AddPhase g ∷ xs) f = policies_of-phase xs f
policies_of-phase (AddPolicy j ∷ xs) f = go (policies_of xs) refl (policies_of-phase xs f)
  where
    go : (qs : List Policy) → policies_of xs ≡ qs → policies_of (xs ++ AddPhase f ∷ []) ≡ extended (policies_of xs) f →
        policies_of (AddPolicy j ∷ (xs ++ AddPhase f ∷ [])) ≡ extended (policies_of (AddPolicy j ∷ xs)) f
    go [] e h = rw (phases_of-first xs f e, h, e) refl
    go (q ∷ qs) e h = rw (phases_of-later xs f q qs e, h, e) refl

extended-set : (qs : List Policy) (f : Phase) (q : Policy) → slice_get qs (length qs - 1) ≡ Some q → set qs (length qs - 1) (record q { phases = q.phases ++ f ∷ [] }) ≡ extended qs f
unfolding extended
extended-set [] f q h = absurd (cc)
extended-set (p ∷ []) f q h = let e : p ≡ q = cc in rw e refl
extended-set (p ∷ r ∷ qs) f q h =
    let n : length (p ∷ r ∷ qs) - 1 ≡ suc (length (r ∷ qs) - 1) = omega arith in
    let later : slice_get (r ∷ qs) (length (r ∷ qs) - 1) ≡ Some q = rw n at h in
    rw n (ap (λ xs. p ∷ xs) (extended-set (r ∷ qs) f q later))

-- the lane of a move that isn't refused
no_shape : (o : Option Shape) → option_map stations_of o ≡ None → o ≡ None
no_shape None h = refl
no_shape (Some s) h = absurd (cc)

moved : (xs : List Added) (l : ℕ) (t : Turn) (s : Shape) (turn : Turn) → shape_of (xs ++ AddMove l t s ∷ []) l turn ≡ option_or (shape_of xs l turn) (if is_turn t turn then Some s else None)
moved xs l t s turn = shape_of-append xs (AddMove l t s ∷ []) l turn ∙ rw (eq-eqb l l refl) refl

lane_of-move : (xs : List Added) (l : ℕ) (t : Turn) (s : Shape) → path_of (lane_of xs l) t ≡ None → with_path (lane_of xs l) t (stations_of s) ≡ lane_of (xs ++ AddMove l t s ∷ []) l
lane_of-move xs l Left s h =
    rw (moved xs l Left s Left, moved xs l Left s Straight, moved xs l Left s Right, or_none (shape_of xs l Straight), or_none (shape_of xs l Right), no_shape (shape_of xs l Left) h) refl
lane_of-move xs l Straight s h =
    rw (moved xs l Straight s Left, moved xs l Straight s Straight, moved xs l Straight s Right, or_none (shape_of xs l Left), or_none (shape_of xs l Right), no_shape (shape_of xs l Straight) h) refl
lane_of-move xs l Right s h =
    rw (moved xs l Right s Left, moved xs l Right s Straight, moved xs l Right s Right, or_none (shape_of xs l Left), or_none (shape_of xs l Straight), no_shape (shape_of xs l Right) h) refl

lanes_moved : (n : ℕ) (xs : List Added) (l : ℕ) (t : Turn) (s : Shape) → l < n → path_of (lane_of xs l) t ≡ None →
    set (map (lane_of xs) (range_with_len 0 n)) l (with_path (get_or (map (lane_of xs) (range_with_len 0 n)) l no_paths) t (stations_of s)) ≡ map (lane_of (xs ++ AddMove l t s ∷ [])) (range_with_len 0 n)
lanes_moved n xs l t s h free =
    let old = map (lane_of xs) (range_with_len 0 n) in
    let new = map (lane_of (xs ++ AddMove l t s ∷ [])) (range_with_len 0 n) in
    let count : length old ≡ n = length-map-range_with_len (lane_of xs) 0 n in
    let was : get_or old l no_paths ≡ lane_of xs l = get_or-map-range_with_len (lane_of xs) 0 n l l no_paths h (omega arith) in
    let put = with_path (get_or old l no_paths) t (stations_of s) in
    let is : put ≡ lane_of (xs ++ AddMove l t s ∷ []) l = rw was (lane_of-move xs l t s free) in
    same_lists (set old l put) new (length-set old l put ∙ count ∙ sym (length-map-range_with_len (lane_of (xs ++ AddMove l t s ∷ [])) 0 n)) (λ k d m.
    let there : k < n = omega (arith, length-set old l put) in
    let made = get_or-map-range_with_len (lane_of (xs ++ AddMove l t s ∷ [])) 0 n k k d there (omega arith) in
    elim (cases_eq k l) [
      | inl e ↦ (let a : get_or (set old l put) l d ≡ put = get_or-set_same old l put d (omega arith) in rw (e, a, is) (sym (rw e at made)))
      | inr e ↦ (let ne : l ≡ k → ⊥ = λ q. e (sym q) in
          let a : get_or (set old l put) k d ≡ get_or old k d = get_or-set_other old l k put d e in
          let b : get_or old k d ≡ lane_of xs k = get_or-map-range_with_len (lane_of xs) 0 n k k d there (omega arith) in
          a ∙ b ∙ sym (lane_of-other xs (AddMove l t s) k (λ turn. rw (ne_eqb l k ne) refl)) ∙ sym made)
    ])

same_layout : (s : Site) (version : ℕ) (ls ms : List Lane) (qs rs : List Policy) → ls ≡ ms → qs ≡ rs → (let i : Intersection = record { version = version; grid = s.grid; times = s.times; lanes = ls; policies = qs } in i) ≡ record { version = version; grid = s.grid; times = s.times; lanes = ms; policies = rs }
same_layout s version ls ms qs rs e f = rw (e, f) refl

-- one line more
step : (s : Site) (lanes version : ℕ) (xs : List Added) (x : Added) → added_fault (layout_of s lanes version xs) x ≡ None → added (layout_of s lanes version xs) x ≡ layout_of s lanes version (xs ++ x ∷ [])
step s lanes version xs (AddMove l t sh) h =
    let i = layout_of s lanes version xs in
    let m : IsMove i l t sh = IsMove-tests i l t sh h in
    let count : length i.lanes ≡ lanes = length-map-range_with_len (lane_of xs) 0 lanes in
    let there : l < lanes = let a = m.there in omega arith in
    let was : get_or i.lanes l no_paths ≡ lane_of xs l = get_or-map-range_with_len (lane_of xs) 0 lanes l l no_paths there (omega arith) in
    let free : path_of (lane_of xs l) t ≡ None = rw was at (sym (path_there i l t m.there) ∙ m.free) in
    same_layout s version _ _ _ _ (lanes_moved lanes xs l t sh there free) (sym (policies_of-move xs l t sh))
step s lanes version xs (AddPolicy k) h =
    same_layout s version _ _ _ _ (lanes_same lanes (lane_of xs) (lane_of (xs ++ AddPolicy k ∷ [])) (λ n l. sym (lane_of-other xs (AddPolicy k) n (λ turn. refl))))
    (sym (policies_of-policy xs k (record { kind = k; phases = [] }) refl))
step s lanes version xs (AddPhase f) h =
    let i = layout_of s lanes version xs in
    let q = phase_found i f h in
    rw q.1 (same_layout s version _ _ _ _ (lanes_same lanes (lane_of xs) (lane_of (xs ++ AddPhase f ∷ [])) (λ n l. sym (lane_of-other xs (AddPhase f) n (λ turn. refl))))
    (extended-set (policies_of xs) f q.0 q.1 ∙ sym (policies_of-phase xs f)))

all_lines : (s : Site) (lanes version : ℕ) (xs ys : List Added) → AreTaken (layout_of s lanes version xs) ys → fold added (layout_of s lanes version xs) ys ≡ layout_of s lanes version (xs ++ ys)
all_lines s lanes version xs [] t = ap (layout_of s lanes version) (sym (append-nil xs))
all_lines s lanes version xs (y ∷ ys) t =
    let e = step s lanes version xs y t.0 in
    ap (λ i. fold added i ys) e ∙ all_lines s lanes version (xs ++ y ∷ []) ys (rw e at t.1) ∙ ap (layout_of s lanes version) (append_assoc xs (y ∷ []) ys)

bare_lines : (s : Site) (lanes version : ℕ) → bare s lanes version ≡ layout_of s lanes version []
bare_lines s lanes version =
    let count = length-replicate lanes no_paths in
    let made = length-map-range_with_len (lane_of []) 0 lanes in
    same_layout s version _ _ _ _ (same_lists (replicate lanes no_paths) (map (lane_of []) (range_with_len 0 lanes)) (count ∙ sym made) (λ k d l.
    let m : k < lanes = omega arith in
    get_or-replicate lanes k no_paths d m ∙ sym (get_or-map-range_with_len (lane_of []) 0 lanes k k d m (omega arith)))) refl

-- the lines that are taken, one after another, make the layout of them all
pub layout_is_its_lines : (s : Site) (lanes version : ℕ) (xs : List Added) → AreTaken (bare s lanes version) xs → fold added (bare s lanes version) xs ≡ layout_of s lanes version xs
layout_is_its_lines s lanes version xs t =
    let e = bare_lines s lanes version in
    ap (λ i. fold added i xs) e ∙ all_lines s lanes version [] xs (rw e at t)
