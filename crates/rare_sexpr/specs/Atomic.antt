-- The kinds of atoms.
use Rattle.rare_sexpr.specs.declared.tree.Kind.{Kind}
use Rattle.rare_sexpr.specs.declared.tree.Kind.TheVariants as kind
use Rattle.rare_sexpr.specs.declared.tree.AtomKind.{AtomKind}
use Rattle.rare_sexpr.specs.declared.tree.AtomKind.TheVariants.{Symbol, Keyword, Numeral, Decimal, Binary, Hex, Quoted}

abbrev pub kind_of_atom : AtomKind → Kind
kind_of_atom Symbol = kind.Symbol
kind_of_atom Keyword = kind.Keyword
kind_of_atom Numeral = kind.Numeral
kind_of_atom Decimal = kind.Decimal
kind_of_atom Binary = kind.Binary
kind_of_atom Hex = kind.Hex
kind_of_atom Quoted = kind.Quoted
