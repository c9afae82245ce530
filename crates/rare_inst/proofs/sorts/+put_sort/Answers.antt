use Rattle.std.proofs.Common.{◌≡◌, length, subst, sym, ap, ◌∙◌, IfOk}
use Rattle.rare_sort.specs.declared.sort.Sort.{Sort}
use Rattle.rare_inst.specs.inner.Standing.{array_within, put_sort_within}
use Rattle.rare_inst.proofs.PuttingSorts.{word_named, parts_put}
use Rattle.rare_inst.proofs.sorts.+put_sort.Goals as goal

pub put-requires : goal.put-requires
put-requires t c = word_named (length c.args.numbers.now.values) c.args.sort.now c.in-BitVec.width c.in-BitVec.is c.requires

pub returns-in_ok-entries-in-Array : goal.returns-in_ok-entries-in-Array
returns-in_ok-entries-in-Array t c a stands sorts =
    let keys = c.in_ok-keys-in-Array.ensures a stands sorts ∙ ap (put_sort_within a) c.get.ensures in
    let entries = c.in_ok-entries-in-Array.ensures a stands sorts ∙ ap (put_sort_within a) c.get-in-Array.ensures in
    subst (λ o. IfOk c.array_of.result (λ r. r ≡ o))
    ((λ i. array_within (keys i) (entries i)) ∙ parts_put a c.args.sort.now c.in-Array.keys c.in-Array.entries c.in-Array.is)
    c.array_of.ensures
