-- The term that an atom spells (SMT-LIB 2.6, section on terms and formulas).
use Rattle.std.specs.Prelude.{[], Option, Some, None, Ok}
use Rattle.rare_base.specs.declared.answers.Reason.TheVariants as reason
use Rattle.rare_sexpr.specs.declared.tree.Kind.{Kind}
use Rattle.rare_sexpr.specs.declared.tree.Kind.TheVariants as kind
use Rattle.rare_sexpr.specs.declared.tree.Sexpr.{Sexpr}
use Rattle.rare_sexpr.specs.Tree.{kind_of, text_of}
use Rattle.rare_sort.specs.declared.declarations.Declarations.{Declarations}
use Rattle.rare_sort.specs.declared.head.Head.TheVariants as head
use Rattle.rare_sort.specs.declared.tree.Tree.{Tree}
use Rattle.rare_term.specs.declared.terms.TermError.{TermError}
use Rattle.rare_term.specs.Literals.{application}
use Rattle.rare_term.specs.Refusals.{refusal}
use Rattle.rare_scope.specs.Names.{Names, Meant, a_sort, a_width, a_symbol, a_term, found}
use Rattle.rare_scope.specs.Numbers.{small_number}
use Rattle.rare_scope.specs.Reading.{Read, refused}
use Rattle.rare_operators.specs.declared.words.WordUse.{WordUse}
use Rattle.rare_operators.specs.declared.words.WordUse.TheVariants.{Constant, Difference, Plain}
use Rattle.rare_operators.specs.Applications.{application_at}
use Rattle.rare_operators.specs.LiteralText.{numeral_term, binary_literal, hexadecimal_literal}
use Rattle.rare_operators.specs.OperatorWords.{operator_of_word}

-- a symbol is a term where it takes no arguments
abbrev pub constant_unless : Sexpr → Option TermError → Tree → Read Tree
constant_unless e None t = Ok t
constant_unless e (Some why) t = refused e reason.UnknownSymbol

-- `true` and `false`; no other word is a term
abbrev pub word_term : Declarations → Sexpr → Option WordUse → Read Tree
word_term d e (Some (Constant h)) = application_at d e h [] []
word_term d e (Some (Plain h)) = refused e reason.UnknownSymbol
word_term d e (Some Difference) = refused e reason.UnknownSymbol
word_term d e None = refused e reason.UnknownSymbol

abbrev pub named_term : Declarations → Sexpr → Option Meant → Read Tree
named_term d e (Some (a_term t)) = Ok t
named_term d e (Some (a_symbol k)) = constant_unless e (refusal d (head.Free k) [] []) (application (head.Free k) [] [])
named_term d e (Some (a_sort k)) = refused e reason.UnknownSymbol
named_term d e (Some (a_width k)) = refused e reason.UnknownSymbol
named_term d e None = word_term d e (operator_of_word (text_of e))

abbrev pub atom_by : Declarations → Names → Sexpr → Kind → Read Tree
atom_by d names e kind.Symbol = named_term d e (found names (text_of e))
atom_by d names e kind.Numeral = numeral_term d e (small_number (text_of e))
atom_by d names e kind.Binary = binary_literal d e
atom_by d names e kind.Hex = hexadecimal_literal d e
atom_by d names e k = refused e reason.BadForm

-- the term that an atom spells over these declarations and names, or its fault
abbrev pub atom_at : Declarations → Names → Sexpr → Read Tree
atom_at d names e = atom_by d names e (kind_of e)
