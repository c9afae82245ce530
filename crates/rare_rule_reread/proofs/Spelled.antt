-- The items of an expression that is spelled are spelled, and the bytes of its symbols may stand between bars.
use Rattle.std.proofs.Common.{◌≡◌, ℕ, ◌<◌, ◌≤◌, ◌^◌, Bool, true, false, not, ◌&&◌, ◌||◌, List, [], ◌∷◌, ◌++◌, length, length-append, refl, sym, ap, ◌∙◌, subst, arith}
use Rattle.std.specs.Prelude.{nat_eq}
use Rattle.std.specs.List.{list_all}
use Rattle.std.proofs.lemmas.Bool.{eqb-true}
use Rattle.rare_base.specs.declared.answers.Place.{Place}
use Rattle.rare_sexpr.specs.declared.tree.AtomKind.{AtomKind}
use Rattle.rare_sexpr.specs.declared.tree.Sexpr.{Sexpr}
use Rattle.rare_sexpr.specs.declared.tree.Sexpr as X
use Rattle.rare_sexpr.specs.declared.tree.Sexpr.TheViews.{outs-List}
use Rattle.rare_sexpr.specs.Atomic.{kind_of_atom}
use Rattle.rare_sexpr.specs.Bytes.{behind, is_in_bars, is_symbol_byte}
use Rattle.rare_sexpr.specs.Tree.{atom_of, list_of, kind_of, text_of, items_of, text_in}
use Rattle.rare_sexpr.specs.Grammar.{Atom, Bare, Spell}
use Rattle.rare_sexpr.specs.Grammar as grammar
use Rattle.rare_scope.specs.Reading.{is_string_kind, is_symbol_kind}
use Rattle.rare_reread.proofs.Atoms.{IsAtom, kind_is, text_is, list_kind, list_items}
use Rattle.rare_rule_reread.specs.Spelled.{IsSpelled}

-- ---- expressions one behind the other

abbrev pub AllSpelled : List Sexpr → Type 0
AllSpelled [] = Unit {0}
AllSpelled (e ∷ es) = IsSpelled e × AllSpelled es

abbrev IsShort : List ℕ → Type 0
IsShort bytes = length bytes < 2 ^ 64

-- the first part of bytes that are short, and the rest
short_atom : (gap word more : List ℕ) → IsShort (gap ++ (word ++ more)) → IsShort (gap ++ (word ++ [])) × IsShort more
short_atom gap word more short =
    let a = length-append gap (word ++ more) in
    let b = length-append word more in
    let c = length-append gap (word ++ []) in
    let d = length-append word [] in
    (omega (arith, short, a, b, c, d), omega (arith, short, a, b))

short_list : (gap inside last more : List ℕ) → IsShort (gap ++ (40 ∷ (inside ++ (last ++ 41 ∷ more)))) → IsShort (gap ++ (40 ∷ (inside ++ (last ++ 41 ∷ [])))) × (IsShort inside × IsShort more)
short_list gap inside last more short =
    let a = length-append gap (40 ∷ (inside ++ (last ++ 41 ∷ more))) in
    let b = length-append inside (last ++ 41 ∷ more) in
    let c = length-append last (41 ∷ more) in
    let d = length-append gap (40 ∷ (inside ++ (last ++ 41 ∷ []))) in
    let e = length-append inside (last ++ 41 ∷ []) in
    let f = length-append last (41 ∷ []) in
    (omega (arith, short, a, b, c, d, e, f), (omega (arith, short, a, b, c), omega (arith, short, a, b, c)))

pub all_spelled : (d : ℕ) (es : List Sexpr) (p : Place) (bytes rest : List ℕ) → IsShort bytes → Spell d es p bytes rest → AllSpelled es
all_spelled d es p bytes rest short (grammar.none _ _ _) = tt
all_spelled d es p bytes rest short (grammar.atom _ k text es' _ gap word more _ g a h) =
    let s = short_atom gap word more short in (
      record {
        depth = d;
        place = p;
        bytes = gap ++ (word ++ []);
        rest = more ++ rest;
        spells = grammar.atom d k text [] p gap word [] (more ++ rest) g a (grammar.none d (behind p (gap ++ word)) (more ++ rest));
        short = s.0;
      },
      all_spelled d es' (behind p (gap ++ word)) more rest s.1 h,
    )
all_spelled d es p bytes rest short (grammar.list d' items es' _ gap inside last more _ g i l h) =
    let s = short_list gap inside last more short in (
      record {
        depth = d;
        place = p;
        bytes = gap ++ (40 ∷ (inside ++ (last ++ 41 ∷ [])));
        rest = more ++ rest;
        spells = grammar.list d' items [] p gap inside last [] (more ++ rest) g i l (grammar.none d (behind p (gap ++ (40 ∷ (inside ++ (last ++ 41 ∷ []))))) (more ++ rest));
        short = s.0;
      },
      all_spelled d es' (behind p (gap ++ (40 ∷ (inside ++ (last ++ 41 ∷ []))))) more rest s.1.1 h,
    )

-- ---- items

atom_items : (p : Place) (k : AtomKind) (text : List ℕ) → items_of (atom_of p k text) ≡ []
unfolding items_of X.out-Sexpr denote.Hole.Carrier.out
atom_items p k text = refl

list_text : (p : Place) (items : List Sexpr) → text_of (list_of p items) ≡ []
unfolding text_of
list_text p items = ap text_in (outs-List p items)

abbrev EachItems : List Sexpr → Type 0
EachItems [] = Unit {0}
EachItems (e ∷ es) = AllSpelled (items_of e) × EachItems es

each_items : (d : ℕ) (es : List Sexpr) (p : Place) (bytes rest : List ℕ) → IsShort bytes → Spell d es p bytes rest → EachItems es
each_items d es p bytes rest short (grammar.none _ _ _) = tt
each_items d es p bytes rest short (grammar.atom _ k text es' _ gap word more _ g a h) =
    (subst AllSpelled (sym (atom_items (behind p gap) k text)) tt, each_items d es' (behind p (gap ++ word)) more rest (short_atom gap word more short).1 h)
each_items d es p bytes rest short (grammar.list d' items es' _ gap inside last more _ g i l h) =
    let s = short_list gap inside last more short in (
      subst AllSpelled (sym (list_items (behind p gap) items)) (all_spelled d' items (behind p (gap ++ 40 ∷ [])) inside (last ++ 41 ∷ (more ++ rest)) s.1.0 i),
      each_items d es' (behind p (gap ++ (40 ∷ (inside ++ (last ++ 41 ∷ []))))) more rest s.1.1 h,
    )

pub items_spelled : (e : Sexpr) → IsSpelled e → AllSpelled (items_of e)
items_spelled e s = (each_items s.depth (e ∷ []) s.place s.bytes s.rest s.short s.spells).0

-- ---- atoms

differs : (b c : ℕ) → is_symbol_byte b ≡ true → is_symbol_byte c ≡ false → nat_eq b c ≡ false
differs b c is other = go (nat_eq b c) refl
  where
    go : (t : Bool) → nat_eq b c ≡ t → t ≡ false
    go true same = let both : true ≡ false = sym is ∙ ap is_symbol_byte (eqb-true b c same) ∙ other in absurd cc
    go false same = refl

in_bars : (b : ℕ) → is_symbol_byte b ≡ true → is_in_bars b ≡ true
in_bars b is = ap (λ t. not (t || nat_eq b 92)) (differs b 124 is refl) ∙ ap not (differs b 92 is refl)

each_in_bars : (bs : List ℕ) → list_all is_symbol_byte bs ≡ true → list_all is_in_bars bs ≡ true
each_in_bars [] all = refl
each_in_bars (b ∷ bs) all = go (is_symbol_byte b) refl all (λ rest. each_in_bars bs rest)
  where
    go : (t : Bool) → is_symbol_byte b ≡ t → (t && list_all is_symbol_byte bs) ≡ true → (list_all is_symbol_byte bs ≡ true → list_all is_in_bars bs ≡ true) → (is_in_bars b && list_all is_in_bars bs) ≡ true
    go true is rest ih = ap (λ t. t && list_all is_in_bars bs) (in_bars b is) ∙ ih rest
    go false is rest ih = absurd cc

bare_symbol : (k : AtomKind) (text word : List ℕ) → Bare k text word → is_symbol_kind (kind_of_atom k) ≡ true → list_all is_in_bars text ≡ true
bare_symbol k text word (grammar.symbol _ are first) is = each_in_bars text are.each
bare_symbol k text word (grammar.keyword _ are) is = absurd cc
bare_symbol k text word (grammar.numeral _ are) is = absurd cc
bare_symbol k text word (grammar.decimal _ _ are part) is = absurd cc
bare_symbol k text word (grammar.binary _ are) is = absurd cc
bare_symbol k text word (grammar.hex _ are) is = absurd cc

symbol : (k : AtomKind) (text word rest : List ℕ) → Atom k text word rest → is_symbol_kind (kind_of_atom k) ≡ true → list_all is_in_bars text ≡ true
symbol k text word rest (grammar.bare _ _ _ _ b ok) is = bare_symbol k text word b is
symbol k text word rest (grammar.bars _ _ all) is = all
symbol k text word rest (grammar.quotes _ _ ok) is = absurd cc

bare_short : (k : AtomKind) (text word : List ℕ) → Bare k text word → length text ≤ length word
bare_short k text word (grammar.symbol _ are first) = omega arith
bare_short k text word (grammar.keyword _ are) = omega arith
bare_short k text word (grammar.numeral _ are) = omega arith
bare_short k text word (grammar.decimal _ _ are part) = omega arith
bare_short k text word (grammar.binary _ are) = omega arith
bare_short k text word (grammar.hex _ are) = omega arith

-- other than a string
atom_short : (k : AtomKind) (text word rest : List ℕ) → Atom k text word rest → is_string_kind (kind_of_atom k) ≡ false → length text ≤ length word
atom_short k text word rest (grammar.bare _ _ _ _ b ok) other = bare_short k text word b
atom_short k text word rest (grammar.bars _ _ all) other = let a = length-append text (124 ∷ []) in omega (arith, a)
atom_short k text word rest (grammar.quotes _ _ ok) other = absurd cc

-- the bytes of a symbol may stand between bars, and the text of what is no string is short
record IsPlain (e : Sexpr) : Type 0 where
  bars : is_symbol_kind (kind_of e) ≡ true → list_all is_in_bars (text_of e) ≡ true
  short : is_string_kind (kind_of e) ≡ false → length (text_of e) < 2 ^ 64

abbrev EachPlain : List Sexpr → Type 0
EachPlain [] = Unit {0}
EachPlain (e ∷ es) = IsPlain e × EachPlain es

atom_plain : (p : Place) (k : AtomKind) (text gap word more rest : List ℕ) → Atom k text word rest → IsShort (gap ++ (word ++ more)) → IsPlain (atom_of p k text)
atom_plain p k text gap word more rest a short =
    let it : IsAtom k text (atom_of p k text) = record { place = p; atom = refl } in
    let t = text_is k text (atom_of p k text) it in
    let q = kind_is k text (atom_of p k text) it in
    record {
      bars = λ is. ap (list_all is_in_bars) t ∙ symbol k text word rest a (ap is_symbol_kind (sym q) ∙ is);
      short = λ is.
          let le = atom_short k text word rest a (ap is_string_kind (sym q) ∙ is) in
          let m = length-append gap (word ++ more) in
          let n = length-append word more in
          let same = ap length t in
          omega (arith, short, le, m, n, same);
    }

list_plain : (p : Place) (items : List Sexpr) → IsPlain (list_of p items)
list_plain p items = record {
  bars = λ is. let none : false ≡ true = ap is_symbol_kind (sym (list_kind p items)) ∙ is in absurd cc;
  short = λ is. let none = ap length (list_text p items) in omega (arith, none);
}

each_plain : (d : ℕ) (es : List Sexpr) (p : Place) (bytes rest : List ℕ) → IsShort bytes → Spell d es p bytes rest → EachPlain es
each_plain d es p bytes rest short (grammar.none _ _ _) = tt
each_plain d es p bytes rest short (grammar.atom _ k text es' _ gap word more _ g a h) =
    (atom_plain (behind p gap) k text gap word more (more ++ rest) a short, each_plain d es' (behind p (gap ++ word)) more rest (short_atom gap word more short).1 h)
each_plain d es p bytes rest short (grammar.list d' items es' _ gap inside last more _ g i l h) =
    (list_plain (behind p gap) items, each_plain d es' (behind p (gap ++ (40 ∷ (inside ++ (last ++ 41 ∷ []))))) more rest (short_list gap inside last more short).1.1 h)

plain : (e : Sexpr) → IsSpelled e → IsPlain e
plain e s = (each_plain s.depth (e ∷ []) s.place s.bytes s.rest s.short s.spells).0

-- the bytes of a symbol that is spelled may stand between bars
pub symbol_in_bars : (e : Sexpr) → IsSpelled e → is_symbol_kind (kind_of e) ≡ true → list_all is_in_bars (text_of e) ≡ true
symbol_in_bars e s is = (plain e s).bars is

-- the text of an atom other than a string
pub text_short : (e : Sexpr) → IsSpelled e → is_string_kind (kind_of e) ≡ false → length (text_of e) < 2 ^ 64
text_short e s is = (plain e s).short is
