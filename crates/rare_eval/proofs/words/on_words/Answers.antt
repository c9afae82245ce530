use Rattle.std.proofs.Common.{◌<◌, ◌^◌, subst, sym}
use Rattle.rare_bits.proofs.BitsLemmas.{bvnot-below, bvand-below, bvor-below, bvxor-below}
use Rattle.rare_bits.proofs.BelowLemmas.{shifts-below}
use Rattle.rare_eval.proofs.words.on_words.Goals as goal

pub not-requires : goal.not-requires
not-requires c = record { low = c.requires.first.low; high = c.requires.first.high; below = subst (λ n. n < 2 ^ c.args.width) (sym c.and-in-BvNand.ensures) (bvand-below c.args.width c.args.a c.args.b) }

pub not-requires-in-BvNor : goal.not-requires-in-BvNor
not-requires-in-BvNor c = record { low = c.requires.first.low; high = c.requires.first.high; below = subst (λ n. n < 2 ^ c.args.width) (sym c.or-in-BvNor.ensures) (bvor-below c.args.width c.args.a c.args.b) }

pub not-requires-in-BvXnor : goal.not-requires-in-BvXnor
not-requires-in-BvXnor c = record { low = c.requires.first.low; high = c.requires.first.high; below = subst (λ n. n < 2 ^ c.args.width) (sym c.xor-in-BvXnor.ensures) (bvxor-below c.args.width c.args.a c.args.b) }

pub returns-in-BvAnd-clause-below : goal.returns-in-BvAnd-clause-below
returns-in-BvAnd-clause-below c = subst (λ n. n < 2 ^ c.args.width) (sym c.and.ensures) (bvand-below c.args.width c.args.a c.args.b)

pub returns-in-BvOr-clause-below : goal.returns-in-BvOr-clause-below
returns-in-BvOr-clause-below c = subst (λ n. n < 2 ^ c.args.width) (sym c.or.ensures) (bvor-below c.args.width c.args.a c.args.b)

pub returns-in-BvXor-clause-below : goal.returns-in-BvXor-clause-below
returns-in-BvXor-clause-below c = subst (λ n. n < 2 ^ c.args.width) (sym c.xor.ensures) (bvxor-below c.args.width c.args.a c.args.b)

pub returns-in-BvAshr-clause-below : goal.returns-in-BvAshr-clause-below
returns-in-BvAshr-clause-below c = subst (λ n. n < 2 ^ c.args.width) (sym c.ashr.ensures) (shifts-below c.args.width c.args.a c.args.b c.requires.first.below).2

pub returns-in-BvNand-clause-below : goal.returns-in-BvNand-clause-below
returns-in-BvNand-clause-below c = subst (λ n. n < 2 ^ c.args.width) (sym c.not.ensures) (bvnot-below c.args.width c.and-in-BvNand.result)

pub returns-in-BvNor-clause-below : goal.returns-in-BvNor-clause-below
returns-in-BvNor-clause-below c = subst (λ n. n < 2 ^ c.args.width) (sym c.not-in-BvNor.ensures) (bvnot-below c.args.width c.or-in-BvNor.result)

pub returns-in-BvXnor-clause-below : goal.returns-in-BvXnor-clause-below
returns-in-BvXnor-clause-below c = subst (λ n. n < 2 ^ c.args.width) (sym c.not-in-BvXnor.ensures) (bvnot-below c.args.width c.xor-in-BvXnor.result)
