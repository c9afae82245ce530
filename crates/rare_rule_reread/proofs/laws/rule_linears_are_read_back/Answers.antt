use Rattle.rare_rule_reread.proofs.ParamLists.{params_back}
use Rattle.rare_rule_reread.proofs.Spoken.{linear_again}
use Rattle.rare_rule_reread.proofs.laws.rule_linears_are_read_back.Goals as goal

pub returns : goal.returns
returns c = λ e ps l d is. linear_again ps ps (params_back d.expression ps d.spelled d.read).spoken e l is
