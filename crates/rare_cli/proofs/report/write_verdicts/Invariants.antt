use Rattle.std.proofs.Common.{◌≡◌, ◌++◌}
use Rattle.std.specs.Iterator.Adapters.{zip_first, zip_second}
use Rattle.std.specs.List.{flat_map, zip}
use Rattle.std.specs.Slice.Iter.{iter_rest}
use Rattle.rare_cli.specs.Outcomes.{rewrite_line}
use Rattle.rare_cli.proofs.report.write_verdicts.Given as goal

-- what is written, with the lines of the pairs that are left
abbrev pub invariant-loop-name : goal.invariant-loop-name
invariant-loop-name l =
    l.out ++ flat_map rewrite_line (zip (iter_rest (zip_first l.name-iterator)) (iter_rest (zip_second l.name-iterator)))
    ≡ l.fn.out ++ flat_map rewrite_line (zip l.names l.verdicts)
