use Rattle.std.proofs.Common.{arith}
use Rattle.aim_book.proofs.FreeLemmas.{ends_within}
use Rattle.aim_book.proofs.answers.confirm.Goals as goal

pub overflow_add-result : goal.overflow_add-result
overflow_add-result c = let e = ends_within c.args.layout.now c.args.params.now c.args.accelerate c.requires.tried c.requires.good in let s = c.requires.steps in let l = e.1 in omega arith

pub overflow_sub-result : goal.overflow_sub-result
overflow_sub-result c = let e = ends_within c.args.layout.now c.args.params.now c.args.accelerate c.requires.tried c.requires.good in let s = c.requires.steps in let l = e.0 in omega arith
