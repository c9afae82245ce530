-- Reading rule after rule.
use Rattle.std.proofs.Common.{◌≡◌, ℕ, ◌+◌, ◌≤◌, Bool, true, false, List, [], ◌∷◌, ◌++◌, length, take, Result, Ok, Err, Option, Some, None, refl, ap, sym, ◌∙◌, subst, arith, append_assoc, IsTrue, if◌then◌else◌}
use Rattle.std.proofs.lemmas.List.{append-nil}
use Rattle.rare_base.specs.Answers.{Refusal}
use Rattle.rare_base.specs.declared.answers.Fault.{Fault}
use Rattle.rare_base.specs.declared.answers.Fault.TheVariants as fault
use Rattle.rare_base.specs.declared.answers.Reason.TheVariants as reason
use Rattle.rare_sexpr.specs.declared.tree.Sexpr.{Sexpr}
use Rattle.rare_sexpr.specs.Answered.{AnswersNext}
use Rattle.rare_sexpr.specs.Commands.{Commands, put_first}
use Rattle.rare_sexpr.specs.Streams.{Stream, commands_left}
use Rattle.rare_scope.specs.Answers.{Fails}
use Rattle.rare_scope.specs.Reading.{Read, refused, go_on}
use Rattle.rare_rule.specs.Books.{BookRule, book_rule, is_name_in}
use Rattle.rare_rule.specs.TypedRule.{TypedRule}
use Rattle.rare_parse.specs.RuleText.{rule_at}
use Rattle.rare_type.specs.FirstCase.{rule_typing}
use Rattle.rare_book.specs.RuleFile.{AnswersBook, BookText, IsFront, unless_fault, book_from, rule_for, new_in, typed_by}

-- what the commands that are left make of a book
abbrev pub book_with : List BookRule → Commands → BookText
book_with bs left = book_from bs left.list left.fault

-- the rule of a command is added
pub one_added : (bs new : List BookRule) (e : Sexpr) (t : TypedRule) (left : Commands) → rule_for bs e ≡ Ok t → new ≡ bs ++ book_rule t false ∷ [] →
    book_with bs (put_first e left) ≡ book_with new left
one_added bs new e t left reads is =
    ap (λ r. unless_fault bs r (λ t. book_from (bs ++ book_rule t false ∷ []) left.list left.fault)) reads
    ∙ ap (λ xs. book_from xs left.list left.fault) (sym is)

-- a command's fault ends the text
pub one_refused : (bs : List BookRule) (e : Sexpr) (r : Refusal) (left : Commands) → rule_for bs e ≡ Err r →
    book_with bs (put_first e left) ≡ record { rules = bs; fault = Some r }
one_refused bs e r left reads = ap (λ x. unless_fault bs x (λ t. book_from (bs ++ book_rule t false ∷ []) left.list left.fault)) reads

-- what was added so far is a front of all that is added
abbrev Behind : List BookRule → BookText → Type 0
Behind bs text = (rest : List BookRule) × (text.rules ≡ bs ++ rest)

behind_next : (bs : List BookRule) (es : List Sexpr) (f : Option Refusal) (r : Read TypedRule) →
    ((t : TypedRule) → Behind (bs ++ book_rule t false ∷ []) (book_from (bs ++ book_rule t false ∷ []) es f)) →
    Behind bs (unless_fault bs r (λ t. book_from (bs ++ book_rule t false ∷ []) es f))
behind_next bs es f (Err r) h = ([], sym (append-nil bs))
behind_next bs es f (Ok t) h = (book_rule t false ∷ (h t).0, (h t).1 ∙ append_assoc bs (book_rule t false ∷ []) (h t).0)

pub front_by : (bs : List BookRule) (es : List Sexpr) (f : Option Refusal) → Behind bs (book_from bs es f)
front_by bs [] f = ([], sym (append-nil bs))
front_by bs (e ∷ es) f = behind_next bs es f (rule_for bs e) (λ t. front_by (bs ++ book_rule t false ∷ []) es f)

take_front : (xs ys : List BookRule) → take (length xs) (xs ++ ys) ≡ xs
take_front [] [] = refl
take_front [] (y ∷ ys) = refl
take_front (x ∷ xs) ys = ap (λ zs. x ∷ zs) (take_front xs ys)

-- where the book so far has all of the old rules
pub front : (old bs : List BookRule) (all : BookText) (left : Commands) → length old ≤ length bs → all ≡ book_with bs left → IsFront old bs all.rules
front old bs all left long is =
    let h = front_by bs left.list left.fault in
    record { count = length bs; least = long; front = sym (ap (λ x. take (length bs) x.rules) is ∙ ap (take (length bs)) h.1 ∙ take_front bs h.0) }

-- ---- one rule

in_turn : {A B C : Type 0} (x : Read A) (f : A → Read B) (g : B → Read C) (y : B) → go_on x f ≡ Ok y → go_on x (λ a. go_on (f a) g) ≡ g y
in_turn (Ok x) f g y h = ap (λ r. go_on r g) h
in_turn (Err r) f g y h = absurd cc

new_name : (b : Bool) (e : Sexpr) (t : TypedRule) → (IsTrue b → ⊥) → (if b then (refused e reason.DuplicateName) else (Ok t)) ≡ Ok t
new_name true e t h = absurd (h refl)
new_name false e t h = refl

-- a rule that was read and typed, of a new name
pub new_rule : (bs : List BookRule) (e : Sexpr) (t : TypedRule) → go_on (rule_at e) (λ r. typed_by e r (rule_typing r)) ≡ Ok t → (IsTrue (is_name_in t.rule.name bs) → ⊥) → rule_for bs e ≡ Ok t
new_rule bs e t reads new = in_turn (rule_at e) (λ r. typed_by e r (rule_typing r)) (new_in bs e) t reads ∙ new_name (is_name_in t.rule.name bs) e t new

-- ---- a fault of one command, and one of the text

-- the answer at a command's fault
pub stops : (old bs new : List BookRule) (all : BookText) (e : Sexpr) (left : Commands) (f : Fault) → length old ≤ length bs →
    all ≡ book_with bs (put_first e left) → Fails f (rule_for bs e) → new ≡ bs → AnswersBook old (Err f) new all
stops old bs new all e left (fault.Refused place why) long is fails same =
    let ends = is ∙ one_refused bs e (record { place = place; reason = why }) left fails in
    (ap (λ x. x.fault) ends, same ∙ sym (ap (λ x. x.rules) ends))
stops old bs new all e left fault.Memory long is fails same = subst (λ x. IsFront old x all.rules) (sym same) (front old bs all (put_first e left) long is)

-- the answer at a fault between commands
pub ends : (old bs : List BookRule) (all : BookText) (s after : Stream) (f : Fault) → length old ≤ length bs → all ≡ book_with bs (commands_left s []) →
    AnswersNext s (Err f) after → AnswersBook old (Err f) bs all
ends old bs all s after (fault.Refused place why) long is h =
    let stop = is ∙ ap (book_with bs) (h.rest [] (λ _. refl)) in
    (ap (λ x. x.fault) stop, sym (ap (λ x. x.rules) stop))
ends old bs all s after fault.Memory long is h = front old bs all (commands_left s []) long is
