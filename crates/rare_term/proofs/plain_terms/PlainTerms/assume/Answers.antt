use Rattle.std.proofs.Common.{List, [], ◌∷◌, ◌++◌, subst, sym}
use Rattle.rare_term.specs.inner.Kept.{IsKept}
use Rattle.rare_term.proofs.Growing.{by_result, kept_width, kept_symbol, kept_constraint}
use Rattle.rare_term.proofs.plain_terms.PlainTerms.assume.Goals as goal

pub invariant_of-self : goal.invariant_of-self
invariant_of-self c =
    let p = c.args.self.now in
    let x = c.in_ok-copy.copy in
    record {
      kept = by_result (λ cs. IsKept p.nodes p.sorts (record { sorts = p.declared.sorts; symbols = p.declared.symbols; lows = p.declared.lows; constraints = cs }))
          c.push.result p.declared.constraints (p.declared.constraints ++ x ∷ []) c.push.new.self c.push.ensures.ok c.push.ensures.err p.kept
          (kept_constraint p.nodes p.sorts p.declared x (rw c.in_ok-copy.ensures c.requires) p.kept);
    }
