-- The rules of theory ArraysEx are in form.
use Rattle.std.proofs.Common.{refl}
use Rattle.rare_rule.specs.Rules.{IsInForm}
use Rattle.rare_rule.proofs.Walks.{walk-node, nesting-Named}
use Rattle.rare_rule.proofs.FormLemmas.{in_form}
use Rattle.rare_laws_array.proofs.ArraySorts.{nesting-Array, over-hidden, mentions-hidden}
use Rattle.rare_laws_array.specs.ArrayRules.{arr_select_same, arr_select_other, arr_select_ite, arr_store_same, arr_store_select, arr_store_swap}

pub arr_select_same_form : IsInForm arr_select_same
arr_select_same_form = in_form arr_select_same (simp over-hidden refl) (simp (nesting-Array, nesting-Named) refl) (simp walk-node refl) (simp (walk-node, mentions-hidden) refl) (simp walk-node refl)

pub arr_select_other_form : IsInForm arr_select_other
arr_select_other_form = in_form arr_select_other (simp over-hidden refl) (simp (nesting-Array, nesting-Named) refl) (simp walk-node refl) (simp (walk-node, mentions-hidden) refl) (simp walk-node refl)

pub arr_select_ite_form : IsInForm arr_select_ite
arr_select_ite_form = in_form arr_select_ite (simp over-hidden refl) (simp (nesting-Array, nesting-Named) refl) (simp walk-node refl) (simp (walk-node, mentions-hidden) refl) (simp walk-node refl)

pub arr_store_same_form : IsInForm arr_store_same
arr_store_same_form = in_form arr_store_same (simp over-hidden refl) (simp (nesting-Array, nesting-Named) refl) (simp walk-node refl) (simp (walk-node, mentions-hidden) refl) (simp walk-node refl)

pub arr_store_select_form : IsInForm arr_store_select
arr_store_select_form = in_form arr_store_select (simp over-hidden refl) (simp (nesting-Array, nesting-Named) refl) (simp walk-node refl) (simp (walk-node, mentions-hidden) refl) (simp walk-node refl)

pub arr_store_swap_form : IsInForm arr_store_swap
arr_store_swap_form = in_form arr_store_swap (simp over-hidden refl) (simp (nesting-Array, nesting-Named) refl) (simp walk-node refl) (simp (walk-node, mentions-hidden) refl) (simp walk-node refl)
