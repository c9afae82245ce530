-- The two laws of expressions: a list has no text, an atom no items.
use Rattle.std.specs.Prelude.{◌≡◌, [], refl}
use Rattle.rare_sexpr.specs.declared.tree.Kind.TheVariants as kind
use Rattle.rare_sexpr.specs.declared.tree.AtomKind.{AtomKind}
use Rattle.rare_sexpr.specs.declared.tree.AtomKind.TheVariants.{Symbol, Keyword, Numeral, Decimal, Binary, Hex, Quoted}
use Rattle.rare_sexpr.specs.declared.tree.Sexpr.{Sexpr, out-Sexpr}
use Rattle.rare_sexpr.specs.declared.tree.Sexpr.TheOpen as layer
use Rattle.rare_sexpr.specs.Tree.{kind_in, text_in, items_in, kind_of, text_of, items_of}
use Rattle.rare_sexpr.specs.Atomic.{kind_of_atom}

atom_is_no_list : (k : AtomKind) → kind_of_atom k ≡ kind.List → ⊥
atom_is_no_list Symbol e = cc
atom_is_no_list Keyword e = cc
atom_is_no_list Numeral e = cc
atom_is_no_list Decimal e = cc
atom_is_no_list Binary e = cc
atom_is_no_list Hex e = cc
atom_is_no_list Quoted e = cc

no_text : (o : layer.Sexpr-F Sexpr) → kind_in o ≡ kind.List → text_in o ≡ []
no_text (layer.Atom place k text) is = absurd (atom_is_no_list k is)
no_text (layer.List place items) is = refl

no_items : (o : layer.Sexpr-F Sexpr) → ¬ (kind_in o ≡ kind.List) → items_in o ≡ []
no_items (layer.Atom place k text) is = refl
no_items (layer.List place items) is = absurd (is refl)

pub list_has_no_text : (e : Sexpr) → kind_of e ≡ kind.List → text_of e ≡ []
unfolding kind_of text_of
list_has_no_text e = no_text (out-Sexpr e)

pub atom_has_no_items : (e : Sexpr) → ¬ (kind_of e ≡ kind.List) → items_of e ≡ []
unfolding kind_of items_of
atom_has_no_items e = no_items (out-Sexpr e)
