use Rattle.std.proofs.Common.{refl, ap, sym, ◌∙◌}
use Rattle.rare_sexpr.specs.declared.scan.Part.TheVariants as part
use Rattle.rare_sexpr.specs.inner.Scan.{begins_class}
use Rattle.rare_sexpr.proofs.word.next_word.Goals as goal

pub go_on-requires-clause-begun : goal.go_on-requires-clause-begun
go_on-requires-clause-begun c = (part.Symbol, ap begins_class (sym c.class_of.ensures ∙ c.in-Letter.is), λ more. refl)

pub go_on-requires-in-Digit-clause-begun : goal.go_on-requires-in-Digit-clause-begun
go_on-requires-in-Digit-clause-begun c = (part.Numeral, ap begins_class (sym c.class_of.ensures ∙ c.in-Digit.is), λ more. refl)

pub go_on-requires-in-Colon-clause-begun : goal.go_on-requires-in-Colon-clause-begun
go_on-requires-in-Colon-clause-begun c = (part.Colon, ap begins_class (sym c.class_of.ensures ∙ c.in-Colon.is), λ more. refl)

pub go_on-requires-in-Hash-clause-begun : goal.go_on-requires-in-Hash-clause-begun
go_on-requires-in-Hash-clause-begun c = (part.Hash, ap begins_class (sym c.class_of.ensures ∙ c.in-Hash.is), λ more. refl)

pub go_on-requires-in-Quote-clause-begun : goal.go_on-requires-in-Quote-clause-begun
go_on-requires-in-Quote-clause-begun c = (part.Inside, ap begins_class (sym c.class_of.ensures ∙ c.in-Quote.is), λ more. refl)

pub go_on-requires-in-Bar-clause-begun : goal.go_on-requires-in-Bar-clause-begun
go_on-requires-in-Bar-clause-begun c = (part.Bars, ap begins_class (sym c.class_of.ensures ∙ c.in-Bar.is), λ more. refl)
