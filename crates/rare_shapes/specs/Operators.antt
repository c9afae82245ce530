-- Operators whose arguments may be lists, on the values of one sort: associative and commutative, with a neutral value (SMT-LIB 2.6,
-- section on theory declarations, for `:left-assoc`).
use Rattle.std.specs.Prelude.{◌≡◌, List, [], ◌∷◌}
use Rattle.rare_sort.specs.declared.head.Head.{Head}
use Rattle.rare_meaning.specs.Values.{Value, ClosedSort, Fits}
use Rattle.rare_meaning.specs.Settings.{Group, Setting, one}
use Rattle.rare_meaning.specs.Splicing.{lead, gathered}
use Rattle.rare_meaning.specs.Meaning.{here}

pub record Operator (h : Head) (s : ClosedSort) : Type 0 where
  pub op : Value → Value → Value
  pub unit : Value
  pub applies : (e : Setting) (g : Group) → lead g ≡ s → here e h [] g ≡ one (gathered s op unit g.items)
  pub fits : (a b : Value) → Fits (op a b) s
  pub unit_fits : Fits unit s
  pub assoc : (a b c : Value) → op (op a b) c ≡ op a (op b c)
  pub comm : (a b : Value) → op a b ≡ op b a
  pub neutral : (a : Value) → Fits a s → op unit a ≡ a

-- the values put together, from the right
abbrev pub total : {h : Head} {s : ClosedSort} → Operator h s → List Value → Value
total o [] = o.unit
total o (v ∷ vs) = o.op v (total o vs)
