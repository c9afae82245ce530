use Rattle.std.proofs.Common.{◌≡◌, take, map, pos}
use Rattle.std.specs.Prelude.{is_some, unwrap_or}
use Rattle.rare_linear.specs.Linears.{number}
use Rattle.rare_sort.specs.DeclaredSorts.{widths, AreNamed}
use Rattle.rare_sort.specs.Each.{Each}
use Rattle.rare_inst.specs.Arguments.{arguments_of}
use Rattle.rare_inst.specs.InstanceLaws.{IsArgument}
use Rattle.rare_inst.specs.inner.Standing.{number_within}
use Rattle.rare_inst.proofs.totals.numbers_of.Given as goal

-- those so far
abbrev pub invariant-loop-arg : goal.invariant-loop-arg
invariant-loop-arg g l =
    let s = g.T.Terms.state l.terms in
    let xs = arguments_of s.trees (take l.arg-index l.args) in
    record {
      values : l.values ≡ map (λ x. unwrap_or (number_within s.declared.symbols x) (number (pos 0))) xs;
      formed : l.formed ≡ map (λ x. is_some (number_within s.declared.symbols x)) xs;
      named : AreNamed (widths s.declared) l.values;
      arguments : Each (IsArgument s.declared) xs;
    }
