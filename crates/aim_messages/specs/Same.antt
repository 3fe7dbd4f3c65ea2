-- Whether two messages are the same.
use Rattle.std.specs.Prelude.{Bool, true, false, ◌&&◌, not, ◌==◌, if◌then◌else◌}
use Rattle.aim_messages.specs.declared.messages.Turn.{Turn}
use Rattle.aim_messages.specs.declared.messages.Turn.TheVariants.{Left, Straight, Right}
use Rattle.aim_messages.specs.declared.messages.Params.{Params}
use Rattle.aim_messages.specs.declared.messages.Message.{Message}
use Rattle.aim_messages.specs.declared.messages.Body.{Body}
use Rattle.aim_messages.specs.declared.messages.Body.TheVariants.{Request, Change, Cancel, Done}

abbrev pub same_turn : Turn → Turn → Bool
same_turn Left Left = true
same_turn Straight Straight = true
same_turn Right Right = true
same_turn _ _ = false

abbrev pub same_test : Bool → Bool → Bool
same_test a b = if a then b else not b

abbrev pub same_params : Params → Params → Bool
same_params p q =
    p.lane == q.lane && same_turn p.turn q.turn && p.arrive == q.arrive && p.latest == q.latest && p.speed == q.speed
    && p.max_speed == q.max_speed && p.accel == q.accel && p.length == q.length && p.width == q.width && same_test p.emergency q.emergency

abbrev pub same_body : Body → Body → Bool
same_body (Request p) (Request q) = same_params p q
same_body (Change id p) (Change id' q) = id == id' && same_params p q
same_body (Cancel id) (Cancel id') = id == id'
same_body (Done id) (Done id') = id == id'
same_body _ _ = false

abbrev pub same_message : Message → Message → Bool
same_message m n = m.seq == n.seq && same_body m.body n.body
