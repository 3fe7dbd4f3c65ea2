-- Worked rows: the lines of the layout as they are spelled, and the first plans of two numbers, drawn outside.
use Rattle.std.proofs.Common.{◌≡◌, [], ◌∷◌, map, drop, refl}
use Rattle.std.specs.Prelude.{codes}
use Rattle.std.specs.Fmt.{digits}
use Rattle.rand_core.specs.Steps.{u32_at, word_bytes}
use Rattle.rand_core.specs.Pcg32Seed.{pcg32_seed}
use Rattle.aim_messages.specs.Lines.{line_text}
use Rattle.aim_drive_command.specs.Arms.{layout_lines, moves}
use Rattle.aim_drive_command.specs.Drawn.{generator, plan_lines}
use Rattle.aim_drive_command.specs.Traffic.{traffic_lines}

pub layout_spelled : map (line_text 1) layout_lines ≡
    codes "aim 1"
    ∷ codes "grid 24000 48 100 250 1200 8192"
    ∷ codes "times 3000 100 100 2 5"
    ∷ codes "lanes 12"
    ∷ codes "move 0 left curve 0 10500 13500 10500 13500 24000 280"
    ∷ codes "move 1 straight line 0 7500 24000 7500 240"
    ∷ codes "move 2 right curve 0 4500 4500 4500 4500 0 95"
    ∷ codes "move 3 left curve 13500 0 13500 13500 0 13500 280"
    ∷ codes "move 4 straight line 16500 0 16500 24000 240"
    ∷ codes "move 5 right curve 19500 0 19500 4500 24000 4500 95"
    ∷ codes "move 6 left curve 24000 13500 10500 13500 10500 0 280"
    ∷ codes "move 7 straight line 24000 16500 0 16500 240"
    ∷ codes "move 8 right curve 24000 19500 19500 19500 19500 24000 95"
    ∷ codes "move 9 left curve 10500 24000 10500 10500 24000 10500 280"
    ∷ codes "move 10 straight line 7500 24000 7500 0 240"
    ∷ codes "move 11 right curve 4500 24000 4500 19500 0 19500 95"
    ∷ codes "policy plain fcfs"
    ∷ []
unfolding digits layout_lines moves
layout_spelled = refl

pub behind_the_layout_of_7 : map (line_text 1) (drop 17 (traffic_lines 7 3))
    ≡ codes "vehicles 3"
    ∷ codes "begin"
    ∷ codes "until 4099"
    ∷ codes "plan 0 0 106 50 5 right 252 300 2 4500 1900 car"
    ∷ codes "plan 1 33 160 50 0 left 226 300 2 4500 1900 car"
    ∷ codes "plan 2 66 168 50 8 right 209 300 2 4500 1900 car"
    ∷ codes "end"
    ∷ []
unfolding digits traffic_lines layout_lines moves plan_lines u32_at pcg32_seed word_bytes
behind_the_layout_of_7 = refl

pub plans_of_2026 : map (line_text 1) (plan_lines 0 3 (generator 2026)) ≡
    codes "plan 0 0 174 50 3 left 213 300 2 4500 1900 car"
    ∷ codes "plan 1 33 131 50 10 straight 253 300 2 4500 1900 car"
    ∷ codes "plan 2 66 159 50 8 right 232 300 2 4500 1900 car"
    ∷ []
unfolding digits plan_lines u32_at pcg32_seed word_bytes
plans_of_2026 = refl
