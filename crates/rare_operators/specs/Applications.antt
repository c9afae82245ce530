-- Applications of operators, each refused at the expression that spells it.
use Rattle.std.specs.Prelude.{List, Option, Some, None, Ok}
use Rattle.rare_base.specs.declared.answers.Reason.{Reason}
use Rattle.rare_base.specs.declared.answers.Reason.TheVariants as reason
use Rattle.rare_sexpr.specs.declared.tree.Sexpr.{Sexpr}
use Rattle.rare_linear.specs.Linears.{LinearExpression}
use Rattle.rare_sort.specs.declared.declarations.Declarations.{Declarations}
use Rattle.rare_sort.specs.declared.head.Head.{Head}
use Rattle.rare_sort.specs.declared.tree.Tree.{Tree}
use Rattle.rare_term.specs.declared.terms.TermError.{TermError}
use Rattle.rare_term.specs.declared.terms.TermError.TheVariants.{TooManyArgs, IllSorted, TooDeep, TooLarge, Memory}
use Rattle.rare_term.specs.Literals.{application}
use Rattle.rare_term.specs.Refusals.{refusal}
use Rattle.rare_scope.specs.Reading.{Read, refused}

-- why a text is refused whose application is: want of memory is no refusal of a text
abbrev pub application_reason : TermError → Reason
application_reason IllSorted = reason.IllSorted
application_reason TooManyArgs = reason.TermLimit
application_reason TooDeep = reason.TermLimit
application_reason TooLarge = reason.TermLimit
application_reason Memory = reason.TermLimit

abbrev pub application_unless : Sexpr → Option TermError → Tree → Read Tree
application_unless e None t = Ok t
application_unless e (Some why) t = refused e (application_reason why)

-- the application of an operator, or its first refusal, at the expression that spells it
abbrev pub application_at : Declarations → Sexpr → Head → List LinearExpression → List Tree → Read Tree
application_at d e h ix ts = application_unless e (refusal d h ix ts) (application h ix ts)
