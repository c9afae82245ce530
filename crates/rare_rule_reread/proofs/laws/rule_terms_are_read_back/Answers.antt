use Rattle.rare_rule_reread.proofs.ParamLists.{params_back}
use Rattle.rare_rule_reread.proofs.Terms.{term_back}
use Rattle.rare_rule_reread.proofs.laws.rule_terms_are_read_back.Goals as goal

pub returns : goal.returns
returns c = λ e ps t d spelled is. term_back ps (params_back d.expression ps d.spelled d.read).spoken e spelled t is
