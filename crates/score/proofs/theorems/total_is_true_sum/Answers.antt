use Rattle.score.proofs.TrueSums.{total_is_true_sum, total_of_block}
use Rattle.score.proofs.theorems.total_is_true_sum.Goals as goal

pub returns : goal.returns
returns c = record { lists = total_is_true_sum; blocks = total_of_block }
