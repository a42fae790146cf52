use Rattle.std.proofs.Common.{◌*◌, ap, arith}
use Rattle.trellis.proofs.trellis.Trellis.mark_bytes.Goals as goal

pub returns : goal.returns
returns c = let e = ap (λ n. c.args.self.size * n) c.args.self.rows in omega arith
