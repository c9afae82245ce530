-- Readings: what an expression reads as, or the first fault of it, and the tests on expressions that forms ask for.
use Rattle.std.specs.Prelude.{ℕ, Bool, true, false, ◌&&◌, if◌then◌else◌, List, bytes_eq, Result, Ok, Err}
use Rattle.rare_base.specs.declared.answers.Reason.{Reason}
use Rattle.rare_base.specs.declared.answers.Reason.TheVariants as reason
use Rattle.rare_base.specs.Answers.{Refusal}
use Rattle.rare_sexpr.specs.declared.tree.Kind.{Kind}
use Rattle.rare_sexpr.specs.declared.tree.Kind.TheVariants as kind
use Rattle.rare_sexpr.specs.declared.tree.Sexpr.{Sexpr}
use Rattle.rare_sexpr.specs.Tree.{place_of, kind_of, text_of}

abbrev pub Read : Type 0 → Type 0
Read A = Result A Refusal

-- refused at this expression
abbrev pub refused : {A : Type 0} → Sexpr → Reason → Read A
refused e why = Err (record { place = place_of e; reason = why })

-- in order: the first fault is the answer
abbrev pub go_on : {A B : Type 0} → Read A → (A → Read B) → Read B
go_on (Ok x) f = f x
go_on (Err r) f = Err r

-- ---- tests on expressions

abbrev pub is_symbol_kind : Kind → Bool
is_symbol_kind kind.Symbol = true
is_symbol_kind k = false

abbrev pub is_keyword_kind : Kind → Bool
is_keyword_kind kind.Keyword = true
is_keyword_kind k = false

abbrev pub is_numeral_kind : Kind → Bool
is_numeral_kind kind.Numeral = true
is_numeral_kind k = false

abbrev pub is_string_kind : Kind → Bool
is_string_kind kind.Quoted = true
is_string_kind k = false

abbrev pub is_list_kind : Kind → Bool
is_list_kind kind.List = true
is_list_kind k = false

-- the symbol with these bytes, with bars or without
abbrev pub is_word : List ℕ → Sexpr → Bool
is_word word e = is_symbol_kind (kind_of e) && bytes_eq (text_of e) word

-- the keyword with these bytes
abbrev pub is_keyword_word : List ℕ → Sexpr → Bool
is_keyword_word word e = is_keyword_kind (kind_of e) && bytes_eq (text_of e) word

-- the bytes of a symbol
abbrev pub symbol_at : Sexpr → Read (List ℕ)
symbol_at e = if is_symbol_kind (kind_of e) then Ok (text_of e) else refused e reason.BadForm
