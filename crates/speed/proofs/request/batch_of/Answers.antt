use Rattle.std.proofs.Common.{subst}
use Rattle.speed.specs.Asking.{Number}
use Rattle.speed.proofs.Asked.{five_words}
use Rattle.speed.proofs.request.batch_of.Goals as goal

pub returns : goal.returns
returns c = (
  _,
  _,
  _,
  _,
  _,
  five_words c.args.words.now c.constraint-item.result c.block_length-item.result c.decibels-item.result c.blocks-item.result c.seed-item.result c.in-len5.len_at_least c.in-len5.len_below
      c.constraint-item.is c.block_length-item.is c.decibels-item.is c.blocks-item.is c.seed-item.is,
  subst (λ w. Number w c.in_ok-constraint.constraint) c.as_str.ensures.value c.in_ok-constraint.ensures,
  subst (λ w. Number w c.in_ok-block_length.block_length) c.as_str-2.ensures.value c.in_ok-block_length.ensures,
  subst (λ w. Number w c.in_ok-blocks.blocks) c.as_str-4.ensures.value c.in_ok-blocks.ensures,
  subst (λ w. Number w c.in_ok-seed.seed) c.as_str-5.ensures.value c.in_ok-seed.ensures,
)
