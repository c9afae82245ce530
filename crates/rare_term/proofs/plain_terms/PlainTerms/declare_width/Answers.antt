use Rattle.std.proofs.Common.{List, [], ◌∷◌, ◌++◌, subst, sym}
use Rattle.rare_term.specs.inner.Kept.{IsKept}
use Rattle.rare_term.proofs.Growing.{by_result, kept_width, kept_symbol, kept_constraint}
use Rattle.rare_term.proofs.plain_terms.PlainTerms.declare_width.Goals as goal

pub invariant_of-self : goal.invariant_of-self
invariant_of-self c =
    let p = c.args.self.now in
    record {
      kept = by_result (λ ls. IsKept p.nodes p.sorts (record { sorts = p.declared.sorts; symbols = p.declared.symbols; lows = ls; constraints = p.declared.constraints }))
          c.push.result p.declared.lows (p.declared.lows ++ 1 ∷ []) c.push.new.self c.push.ensures.ok c.push.ensures.err p.kept (kept_width p.nodes p.sorts p.declared p.kept);
    }
