use Rattle.std.proofs.Common.{arith}
use Rattle.aim_geometry.proofs.Bits.{has_bit_columns}
use Rattle.aim_geometry.proofs.masks.columns.Goals as goal

pub returns : goal.returns
returns c = λ k l. has_bit_columns c.args.rect.col0 c.args.rect.col1 k (let a = c.requires.columns in let b = c.requires.last_column in omega arith) c.requires.last_column l
