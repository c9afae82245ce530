use Rattle.std.proofs.Common.{List, [], ◌∷◌, ◌++◌, subst, sym}
use Rattle.rare_term.specs.inner.Kept.{IsKept}
use Rattle.rare_term.proofs.Growing.{by_result, kept_width, kept_symbol, kept_constraint}
use Rattle.rare_term.proofs.plain_terms.PlainTerms.declare_symbol.Goals as goal

pub invariant_of-self : goal.invariant_of-self
invariant_of-self c =
    let p = c.args.self.now in
    let x = c.in_ok-signature.signature in
    record {
      kept = by_result (λ gs. IsKept p.nodes p.sorts (record { sorts = p.declared.sorts; symbols = gs; lows = p.declared.lows; constraints = p.declared.constraints }))
          c.push.result p.declared.symbols (p.declared.symbols ++ x ∷ []) c.push.new.self c.push.ensures.ok c.push.ensures.err p.kept
          (kept_symbol p.nodes p.sorts p.declared x (rw c.in_ok-signature.ensures c.requires.args) (rw c.in_ok-signature.ensures c.requires.gives) p.kept);
    }
