use Rattle.std.proofs.Common.{◌≡◌, ◌+◌, [], drop}
use Rattle.rare_sexpr.specs.Tree.{items_of}
use Rattle.rare_scope.specs.Names.{names_of, AreMeant}
use Rattle.rare_term.specs.State.{Grows}
use Rattle.rare_inst.specs.Answers.{AreGiven}
use Rattle.rare_inst.specs.Arguments.{arguments_of}
use Rattle.rare_proof_text.specs.ArgumentText.{arguments_from}
use Rattle.rare_proof_text.proofs.arguments.read_arguments.Given as goal

-- the whole reading is what the arguments that are left give from here
abbrev pub invariant-loop-k : goal.invariant-loop-k
invariant-loop-k g l = let old = g.T.Terms.state l.fn.terms in let now = g.T.Terms.state l.terms in let names = names_of old.trees l.scope in let xs = items_of (g.E.Expr.tree l.e) in record {
  given : AreGiven now l.args;
  grows : Grows old now;
  are : AreMeant now l.scope;
  rest : arguments_from old.declared names (arguments_of now.trees l.args) (drop l.k l.params) (drop (l.k + 1) xs) ≡ arguments_from old.declared names [] l.params (drop 1 xs);
}
