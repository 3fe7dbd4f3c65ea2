-- Policies in the course of time.
use Rattle.std.specs.Prelude.{ℕ, Bool, false, nat_le, List, Option, Some, None, option_and_then, unwrap_or}
use Rattle.aim_messages.specs.declared.entries.Act.{Act}
use Rattle.aim_messages.specs.declared.entries.Act.TheVariants as act
use Rattle.aim_messages.specs.declared.entries.Order.TheVariants as order
use Rattle.aim_messages.specs.declared.replies.Reply.{Reply}
use Rattle.aim_messages.specs.declared.replies.Reply.TheVariants as reply
use Rattle.aim_messages.specs.declared.entries.Entry.{Entry}
use Rattle.aim_geometry.specs.Bounded.{last}

-- a policy, and the step from which it is in force
pub record InForce : Type 0 where
  pub policy : ℕ
  pub from : ℕ

-- what an entry puts in force
abbrev pub change_with : Act → Reply → Option InForce
change_with (act.Order (order.Switch p)) (reply.Switched from) = Some (record { policy = p; from = from })
change_with _ _ = None

abbrev pub is_from_at : Option InForce → ℕ → Bool
is_from_at None s = false
is_from_at (Some f) s = nat_le f.from s

-- the policy at a step: that of the last switch that is in force, or else the first policy
abbrev pub policy_at : List Entry → ℕ → InForce
policy_at h s =
    unwrap_or (option_and_then (λ e. change_with e.act e.reply) (last (λ e. is_from_at (change_with e.act e.reply) s) h)) (record { policy = 0; from = 0 })
