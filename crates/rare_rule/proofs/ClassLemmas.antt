-- A rule that holds for all functions holds for those of each class.
use Rattle.rare_rule.specs.RuleLaws.{AnyHoldsEach}

pub any_holds_each : AnyHoldsEach
any_holds_each c r cs h = record { same = λ e names counts suits met. h.same e names tt suits met }
