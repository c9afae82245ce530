use Rattle.rare_rule_reread.proofs.ParamLists.{params_back}
use Rattle.rare_rule_reread.proofs.Sorts.{sort_again}
use Rattle.rare_rule_reread.proofs.laws.rule_sorts_are_read_back.Goals as goal

pub returns : goal.returns
returns c = λ e ps s d is. sort_again ps ps (params_back d.expression ps d.spelled d.read).spoken e s is
