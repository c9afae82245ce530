-- The arguments that may be handed in, as trees.
use Rattle.std.proofs.Common.{◌≡◌, ℕ, suc, ◌<◌, List, [], ◌∷◌, length, All, sym, subst, arith, OnOk, Result, Ok, Err}
use Rattle.rare_sort.specs.Each.{Each}
use Rattle.rare_sort.specs.Ids.{AreIds, tree_at, trees_at}
use Rattle.rare_sort.specs.SortOf.{sort_of}
use Rattle.rare_sort.specs.declared.tree.TermId.{TermId}
use Rattle.rare_term.specs.Lawful.{IsLawful}
use Rattle.rare_term.specs.State.{State}
use Rattle.rare_inst.specs.Answers.{IsGiven}
use Rattle.rare_inst.specs.Arguments.{argument_of}
use Rattle.rare_inst.specs.InstanceLaws.{HasNormalWidth, IsArgument, IsProblemTerm}
use Rattle.rare_inst.specs.declared.arg.Arg.{Arg}
use Rattle.rare_inst.specs.declared.arg.Arg.TheVariants as given

module _ (s : State) (lawful : IsLawful s) where
  pub term_given : (i : ℕ) → i < length s.trees → IsProblemTerm s.declared (tree_at s.trees i)
  term_given i lt = (lawful.terms i lt).sorted

  listed : (ids : List TermId) → AreIds (length s.trees) ids → All (λ id. HasNormalWidth (sort_of s.declared.symbols (tree_at s.trees id.0))) ids →
      Each (λ t. IsProblemTerm s.declared t × HasNormalWidth (sort_of s.declared.symbols t)) (trees_at s.trees ids)
  listed [] a n = tt
  listed (id ∷ ids) a n = (
    (term_given id.0 (a 0 id (omega arith)), n 0 id (omega arith)),
    listed ids (λ k d lt. a (suc k) d (omega arith)) (λ k d lt. n (suc k) d (omega arith)),
  )

  pub list_given : {X E : Type 0} (r : Result X E) (arg : Arg) (ids held : List TermId) → arg ≡ given.List held → ids ≡ held → IsGiven s arg →
      OnOk r (All (λ id. HasNormalWidth (sort_of s.declared.symbols (tree_at s.trees id.0))) ids) → OnOk r (IsArgument s.declared (argument_of s.trees arg))
  list_given (Err e) arg ids held is same a h = tt
  list_given (Ok x) arg ids held is same a h =
      subst (λ (y : Arg). IsArgument s.declared (argument_of s.trees y)) (sym is)
      (listed held (subst (IsGiven s) is a) (subst (λ (is : List TermId). All (λ id. HasNormalWidth (sort_of s.declared.symbols (tree_at s.trees id.0))) is) same h))

  pub one_given : (arg : Arg) (id : TermId) → arg ≡ given.Term id → IsGiven s arg → IsArgument s.declared (argument_of s.trees arg)
  one_given arg id is a = subst (λ (y : Arg). IsArgument s.declared (argument_of s.trees y)) (sym is) (term_given id.0 (subst (IsGiven s) is a))
