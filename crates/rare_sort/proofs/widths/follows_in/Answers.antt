use Rattle.std.proofs.Common.{◌≡◌, pos, sym, ◌∙◌, refl, ◌↔◌, IsTrue}
use Rattle.rare_linear.specs.Entailment.{IsEntailed}
use Rattle.rare_linear.proofs.EntailmentTestLemmas.{is_entailed-Decides}
use Rattle.rare_linear.proofs.LawLemmas.{entailed_alike}
use Rattle.rare_sort.specs.DeclaredSorts.{follows}
use Rattle.rare_sort.proofs.WithinLemmas.{same_test}
use Rattle.rare_sort.proofs.widths.follows_in.Goals as goal

pub returns : goal.returns
unfolding follows
returns c =
    let d = c.args.declared.now in
    let told = rw (c.items.ensures, c.items-2.ensures) at c.entails.ensures.entailed in
    let alike = entailed_alike d.lows c.requires.declared.lows d.constraints c.args.want.now c.requires.declared.constraints c.requires.want in
    same_test c.entails.result _ (λ t. alike.0 (told.0 t), λ h. told.1 (alike.1 h)) (is_entailed-Decides (λ k. pos 1) d.constraints c.args.want.now)
