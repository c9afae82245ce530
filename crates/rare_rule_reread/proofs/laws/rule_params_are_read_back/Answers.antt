use Rattle.rare_rule_reread.proofs.ParamLists.{params_back}
use Rattle.rare_rule_reread.proofs.laws.rule_params_are_read_back.Goals as goal

pub returns : goal.returns
returns c = λ ps d. (params_back d.expression ps d.spelled d.read).reads
