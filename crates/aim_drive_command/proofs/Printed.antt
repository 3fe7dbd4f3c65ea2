-- The text of generated traffic, line by line.
use Rattle.std.proofs.Common.{◌≡◌, ℕ, ◌+◌, ◌-◌, ◌<◌, List, [], ◌∷◌, ◌++◌, map, refl, sym, ◌∙◌, ap, append_assoc}
use Rattle.std.specs.Fmt.{digits}
use Rattle.rand_pcg.specs.Lcg.{Lcg}
use Rattle.aim_io.specs.Lines.{joined_lines}
use Rattle.aim_messages.specs.declared.script.Line.{Line}
use Rattle.aim_messages.specs.declared.script.Line.TheVariants as line
use Rattle.aim_messages.specs.Lines.{line_text}
use Rattle.aim_drive_command.specs.declared.printing.TheConstants.{LAYOUT}
use Rattle.aim_drive_command.specs.Arms.{layout_lines, moves}
use Rattle.aim_drive_command.specs.Drawn.{after_plan, drawn, generator, plan_lines}
use Rattle.aim_drive_command.specs.Traffic.{end_of, traffic_lines, traffic_text}
use Rattle.aim_drive_command.proofs.Drawing.{next_line}

-- the text of these lines
abbrev pub lines_text : List Line → List ℕ
lines_text ls = joined_lines (map (line_text 1) ls)

two_texts : (xs ys : List Line) → lines_text (xs ++ ys) ≡ lines_text xs ++ lines_text ys
two_texts [] ys = refl
two_texts (x ∷ xs) ys = ap (λ t. line_text 1 x ++ 10 ∷ t) (two_texts xs ys) ∙ sym (append_assoc (line_text 1 x) (10 ∷ lines_text xs) (lines_text ys))

-- The lines of the layout are computed.
pub layout_text : LAYOUT.now ≡ lines_text layout_lines
unfolding layout_lines moves digits
layout_text = refl

-- the plans from a vehicle on
abbrev pub plans_text : ℕ → ℕ → Lcg → List ℕ
plans_text v n g = lines_text (plan_lines v n g)

pub no_plans : (v n : ℕ) (g : Lcg) → n ≡ 0 → plans_text v n g ≡ []
unfolding plan_lines
no_plans v n g e = rw e refl

-- a plan more
pub one_printed : (text : List ℕ) (l : Line) (v n : ℕ) (g h : Lcg) → v < n → l ≡ drawn v g → h ≡ after_plan g
    → (text ++ (line_text 1 l ++ 10 ∷ [])) ++ plans_text (v + 1) (n - (v + 1)) h ≡ text ++ plans_text v (n - v) g
one_printed text l v n g h lt is after =
    let rest = plans_text (v + 1) (n - (v + 1)) (after_plan g) in
    let next : plans_text v (n - v) g ≡ line_text 1 (drawn v g) ++ 10 ∷ rest = ap lines_text (next_line v n g lt) in
    ap (λ g. (text ++ (line_text 1 l ++ 10 ∷ [])) ++ plans_text (v + 1) (n - (v + 1)) g) after
    ∙ append_assoc text (line_text 1 l ++ 10 ∷ []) rest
    ∙ ap (λ t. text ++ t) (append_assoc (line_text 1 l) (10 ∷ []) rest)
    ∙ ap (λ l. text ++ (line_text 1 l ++ 10 ∷ rest)) is
    ∙ ap (λ t. text ++ t) (sym next)

-- the lines as they are written
abbrev pub written : ℕ → ℕ → List Line
written number count =
    ((((layout_lines ++ line.Vehicles count ∷ []) ++ line.Begin ∷ []) ++ line.Until (end_of count) ∷ []) ++ plan_lines 0 count (generator number)) ++ line.End ∷ []

written_lines : (number count : ℕ) → written number count ≡ traffic_lines number count
unfolding traffic_lines
written_lines number count =
    let plans = plan_lines 0 count (generator number) in
    let upto = line.Until (end_of count) in
    append_assoc (((layout_lines ++ line.Vehicles count ∷ []) ++ line.Begin ∷ []) ++ upto ∷ []) plans (line.End ∷ [])
    ∙ append_assoc ((layout_lines ++ line.Vehicles count ∷ []) ++ line.Begin ∷ []) (upto ∷ []) (plans ++ line.End ∷ [])
    ∙ append_assoc (layout_lines ++ line.Vehicles count ∷ []) (line.Begin ∷ []) (upto ∷ (plans ++ line.End ∷ []))
    ∙ append_assoc layout_lines (line.Vehicles count ∷ []) (line.Begin ∷ upto ∷ (plans ++ line.End ∷ []))

-- some text more
more : (text next : List ℕ) (ls ks : List Line) → text ≡ lines_text ls → next ≡ text ++ lines_text ks → next ≡ lines_text (ls ++ ks)
more text next ls ks is then = then ∙ ap (λ t. t ++ lines_text ks) is ∙ sym (two_texts ls ks)

-- the whole text
pub whole_text : (number count : ℕ) (a b c d e f : List ℕ) → a ≡ lines_text layout_lines → b ≡ a ++ lines_text (line.Vehicles count ∷ []) → c ≡ b ++ lines_text (line.Begin ∷ [])
    → d ≡ c ++ lines_text (line.Until (end_of count) ∷ []) → e ≡ d ++ plans_text 0 count (generator number) → f ≡ e ++ lines_text (line.End ∷ []) → f ≡ traffic_text number count
whole_text number count a b c d e f first second third fourth fifth sixth =
    let x : b ≡ lines_text (layout_lines ++ line.Vehicles count ∷ []) = more a b layout_lines _ first second in
    let y : c ≡ lines_text ((layout_lines ++ line.Vehicles count ∷ []) ++ line.Begin ∷ []) = more b c _ _ x third in
    let z : d ≡ lines_text (((layout_lines ++ line.Vehicles count ∷ []) ++ line.Begin ∷ []) ++ line.Until (end_of count) ∷ []) = more c d _ _ y fourth in
    let w : e ≡ lines_text ((((layout_lines ++ line.Vehicles count ∷ []) ++ line.Begin ∷ []) ++ line.Until (end_of count) ∷ []) ++ plan_lines 0 count (generator number)) = more d e _ _ z fifth in
    more e f _ (line.End ∷ []) w sixth ∙ ap lines_text (written_lines number count)
