-- Names of linear expressions over parameters: how they are written, and that this is read as the name.
use Rattle.std.proofs.Common.{◌≡◌, ℕ, Bool, true, false, ◌||◌, List, [], ◌∷◌, ◌++◌, length, slice_get, Some, Ok, refl, sym, ap, ◌∙◌, arith, ◌⊎◌, inl, inr}
use Rattle.std.specs.Prelude.{codes, if◌then◌else◌}
use Rattle.std.specs.List.{list_all}
use Rattle.rare_linear.specs.Linears.{Part, LinearExpression}
use Rattle.rare_sexpr.specs.declared.tree.AtomKind.TheVariants as atom
use Rattle.rare_sexpr.specs.declared.tree.Sexpr.{Sexpr}
use Rattle.rare_sexpr.specs.Bytes.{is_in_bars}
use Rattle.rare_sexpr.specs.Tree.{text_of, items_of}
use Rattle.rare_sexpr.specs.Written.{written_symbol}
use Rattle.rare_sort.specs.Sorting.{name}
use Rattle.rare_scope.specs.LinearText.{begins_size, linear_at}
use Rattle.rare_scope.specs.LinearText as reading
use Rattle.rare_scope.specs.Pieces.{size_text}
use Rattle.rare_scope.specs.Printing.{linear_text_by}
use Rattle.rare_scope.specs.Reading.{is_list_kind}
use Rattle.rare_scope.proofs.LinearSteps.{size_read, size_two}
use Rattle.rare_rule.specs.Params.{kind_at, is_alone_kind, is_list_kind as is_list_param}
use Rattle.rare_rule.specs.declared.param.Param.{Param}
use Rattle.rare_rule.specs.declared.param.ParamKind.{ParamKind}
use Rattle.rare_rule.specs.declared.param.ParamKind.TheVariants as kind
use Rattle.rare_parse.specs.RuleNames.{number_of_name, number_named, size_named, rule_widths}
use Rattle.rare_rule_printing.specs.ConstraintPrinting.{is_size, param_text_or, number_text}
use Rattle.rare_reread.specs.ReadsAs.{ReadsAs}
use Rattle.rare_reread.proofs.Atoms.{IsAtom, text_is, word_reads, symbol_reads}
use Rattle.rare_reread.proofs.Linears.{so_reads, Gives, name_gives}
use Rattle.rare_reread.proofs.Lists.{symbol_is, word_is}
use Rattle.rare_reread.proofs.Sums.{NameReads, AllRead, written_reads}
use Rattle.rare_rule_reread.proofs.NameSums.{AllNames, IsSpoken, linear_spoken}
use Rattle.rare_rule_reread.proofs.Pairs.{HasTwo, two_read}
use Rattle.rare_rule_reread.proofs.Places.{where_is}

-- parameters that are read before, among all
module _ (before all : List Param) where
  -- a width or an index, written by its name
  pub record IsNumberName (k : ℕ) : Type 0 where
    pub param : Param
    pub place : slice_get all k ≡ Some param
    pub plain : is_size param ≡ false
    pub bars : list_all is_in_bars param.name ≡ true
    pub named : number_named before param.name ≡ Some k

  -- a size, written by the name whose size it is
  pub record IsSizeName (k : ℕ) : Type 0 where
    pub param : Param
    pub place : slice_get all k ≡ Some param
    pub size : is_size param ≡ true
    pub bars : list_all is_in_bars param.name ≡ true
    pub sized : size_named before param.name ≡ Some (name k)

  abbrev pub IsNameSpoken : ℕ → Type 0
  IsNameSpoken k = IsNumberName k ⊎ IsSizeName k

  abbrev pub Speaks : LinearExpression → Type 0
  Speaks = IsSpoken IsNameSpoken

  abbrev pub AllSpeak : List LinearExpression → Type 0
  AllSpeak [] = Unit {0}
  AllSpeak (l ∷ ls) = Speaks l × AllSpeak ls

  -- ---- names are read as they are written

  size_gives : (text : List ℕ) (k : ℕ) (e : Sexpr) → size_named before text ≡ Some (name k) → HasTwo (IsAtom atom.Symbol (codes "bvsize")) (IsAtom atom.Symbol text) e → Gives (rule_widths before) (name k) e
  size_gives text k e is h =
      let size = size_named before in
      let begins : begins_size (items_of e) ≡ true = ap begins_size h.items ∙ word_is (codes "bvsize") (codes "bvsize") h.first h.is_first in
      size_read (rule_widths before) e begins (ap is_list_kind h.list)
      ∙ size_two size e h.second (items_of e) (ap length h.items) (ap (λ xs. slice_get xs 1) h.items)
      ∙ ap (λ b. reading.size_named h.second b (size (text_of h.second))) (symbol_is text h.second h.is_second)
      ∙ ap (λ t. reading.size_named h.second true (size t)) (text_is atom.Symbol text h.second h.is_second)
      ∙ ap (reading.size_named h.second true) is

  text_by : (p : Param) (b : Bool) → is_size p ≡ b → param_text_or (Some p) ≡ (if b then size_text p.name else written_symbol p.name)
  text_by p b is = ap (λ b. if b then size_text p.name else written_symbol p.name) is

  number_reads : (k : ℕ) → IsNumberName k → NameReads (rule_widths before) (number_text all) k
  number_reads k n =
      so_reads 1 1 (written_symbol n.param.name) (number_text all k) (IsAtom atom.Symbol n.param.name) (Gives (rule_widths before) (name k)) (omega arith) (sym (ap param_text_or n.place ∙ text_by n.param false n.plain))
      (λ e a. name_gives (rule_widths before) n.param.name k e n.named a) (symbol_reads 1 n.param.name n.bars)

  size_reads : (k : ℕ) → IsSizeName k → NameReads (rule_widths before) (number_text all) k
  size_reads k n =
      let text = n.param.name in
      so_reads 1 1 (40 ∷ (codes "bvsize" ++ (32 ∷ (written_symbol text ++ 41 ∷ [])))) (number_text all k) (HasTwo (IsAtom atom.Symbol (codes "bvsize")) (IsAtom atom.Symbol text)) (Gives (rule_widths before) (name k)) (omega arith)
      (sym (ap param_text_or n.place ∙ text_by n.param true n.size)) (λ e h. size_gives text k e n.sized h)
      (two_read 0 (codes "bvsize") (written_symbol text) (IsAtom atom.Symbol (codes "bvsize")) (IsAtom atom.Symbol text) (word_reads 0 (codes "bvsize") refl) (symbol_reads 0 text n.bars))

  name_reads : (k : ℕ) → IsNameSpoken k → NameReads (rule_widths before) (number_text all) k
  name_reads k (inl n) = number_reads k n
  name_reads k (inr n) = size_reads k n

  all_read : (ps : List Part) → AllNames IsNameSpoken ps → AllRead (rule_widths before) (number_text all) ps
  all_read [] names = tt
  all_read (p ∷ ps) names = (name_reads p.0 names.0, all_read ps names.1)

  -- an expression of such names is read back
  pub linear_back : (l : LinearExpression) → Speaks l → ReadsAs 4 (linear_text_by (number_text all) l) (λ e. linear_at (rule_widths before) e ≡ Ok l)
  linear_back l s = written_reads (rule_widths before) (number_text all) l s.kept (all_read l.parts s.names)

  -- ---- what is read has such names

  -- a declared parameter of this name, which is in its place among all
  pub record IsNamed (text : List ℕ) (k : ℕ) : Type 0 where
    pub param : Param
    pub place : slice_get all k ≡ Some param
    pub kind : kind_at before k ≡ Some param.kind
    pub is_text : param.name ≡ text
    pub declared : param.fresh ≡ false
    pub bars : list_all is_in_bars text ≡ true

  pub record AreSpoken : Type 0 where
    pub names : (text : List ℕ) (k : ℕ) → number_of_name before text ≡ Some k → IsNamed text k
    pub sizes : (text : List ℕ) (l : LinearExpression) → size_named before text ≡ Some l → Speaks l

  alone_no_list : (d : ParamKind) → is_alone_kind (Some d) ≡ true → is_list_param (Some d) ≡ false
  alone_no_list (kind.List s) is = absurd cc
  alone_no_list kind.WideList is = absurd cc
  alone_no_list d is = refl

  both_no : (a b : Bool) → a ≡ false → b ≡ false → (a || b) ≡ false
  both_no true b e f = absurd cc
  both_no false b e f = f

  module _ (spoken : AreSpoken) where
    number_spoken : (text : List ℕ) (k : ℕ) → number_named before text ≡ Some k → IsNameSpoken k
    number_spoken text k is =
        let found = where_is is_alone_kind before text k is in
        let n = spoken.names text k found.0 in
        let alone : is_alone_kind (Some n.param.kind) ≡ true = ap is_alone_kind (sym n.kind) ∙ found.1 in
        inl (record {
          param = n.param;
          place = n.place;
          plain = both_no n.param.fresh (is_list_param (Some n.param.kind)) n.declared (alone_no_list n.param.kind alone);
          bars = ap (list_all is_in_bars) n.is_text ∙ n.bars;
          named = ap (number_named before) n.is_text ∙ is;
        })

    pub linear_speaks : (e : Sexpr) (l : LinearExpression) → linear_at (rule_widths before) e ≡ Ok l → Speaks l
    linear_speaks = linear_spoken IsNameSpoken (rule_widths before) number_spoken spoken.sizes

    -- what was read is read back
    pub linear_again : (e : Sexpr) (l : LinearExpression) → linear_at (rule_widths before) e ≡ Ok l → ReadsAs 4 (linear_text_by (number_text all) l) (λ x. linear_at (rule_widths before) x ≡ Ok l)
    linear_again e l is = linear_back l (linear_speaks e l is)
