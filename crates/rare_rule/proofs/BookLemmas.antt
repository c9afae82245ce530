-- Names of the rules of a book.
use Rattle.std.proofs.Common.{◌≡◌, ℕ, ◌-◌, Bool, false, IsTrue, Result, Ok, Err, List, [], ◌∷◌, ◌++◌, length, Some, refl, ap, ◌∙◌, sym, position, bytes_eq, slice_get, arith, subst}
use Rattle.std.specs.List.{list_any}
use Rattle.std.proofs.lemmas.List.{map-append, length_push}
use Rattle.std.proofs.lemmas.Option.{same_Some}
use Rattle.rare_rule.specs.declared.book.BookError.{BookError}
use Rattle.rare_rule.specs.declared.book.BookError.TheVariants.{DuplicateName, Memory}
use Rattle.rare_rule.specs.inner.Entries.{rules_of}
use Rattle.rare_rule.specs.declared.book.Entry.{Entry}
use Rattle.rare_rule.specs.TypedRule.{IsTypedRule}
use Rattle.rare_names.proofs.Lookups.{position-map, any-map}
use Rattle.rare_rule.specs.Books.{BookRule, AreTyped, book_rule, rule_name, rule_names, has_name, is_name_in}

pub place : (name : List ℕ) (names : List (List ℕ)) (bs now : List BookRule) → names ≡ rule_names bs → bs ≡ now → position (bytes_eq name) names ≡ position (has_name name) now
place name names bs now are is =
    ap (position (bytes_eq name)) are ∙ position-map rule_name (bytes_eq name) bs ∙ ap (position (has_name name)) is

pub known : (name : List ℕ) (names : List (List ℕ)) (bs now : List BookRule) → names ≡ rule_names bs → bs ≡ now → list_any (bytes_eq name) names ≡ is_name_in name now
known name names bs now are is =
    ap (list_any (bytes_eq name)) are ∙ any-map rule_name (bytes_eq name) bs ∙ ap (is_name_in name) is

end_of : {X : Type 0} (xs : List X) (x : X) → slice_get (xs ++ x ∷ []) (length xs) ≡ Some x
end_of [] x = refl
end_of (y ∷ ys) x = end_of ys x

pub last : {X : Type 0} (xs all : List X) (x : X) (n : ℕ) → all ≡ xs ++ x ∷ [] → n ≡ length xs → slice_get all n ≡ Some x
last xs all x n is at = ap (λ ys. slice_get ys n) is ∙ ap (slice_get (xs ++ x ∷ [])) at ∙ end_of xs x

-- the item that was read at the end of a list is the one that was put there
pub at_end : {X : Type 0} (xs all : List X) (x y : X) (m : ℕ) → all ≡ xs ++ x ∷ [] → m ≡ length all → slice_get all (m - 1) ≡ Some y → y ≡ x
at_end xs all x y m is long read =
    let count = long ∙ ap length is ∙ length_push xs x in
    let here : m - 1 ≡ length xs = omega (arith, count) in
    same_Some y x (sym read ∙ last xs all x (m - 1) is here)

-- names with one more are those of the rules with one more
pub grown : (names new : List (List ℕ)) (name : List ℕ) (es all : List Entry) (e : Entry) → names ≡ rule_names (rules_of es) → all ≡ es ++ e ∷ [] → new ≡ names ++ name ∷ [] → name ≡ e.typed.rule.name → new ≡ rule_names (rules_of all)
grown names new name es all e are is behind same =
    behind ∙ ap (λ ns. ns ++ name ∷ []) are ∙ ap (λ n. rule_names (rules_of es) ++ n ∷ []) same
    ∙ sym (map-append rule_name (rules_of es) (book_rule e.typed e.shipped ∷ []))
    ∙ ap rule_names (sym (map-append (λ (x : Entry). book_rule x.typed x.shipped) es (e ∷ [])))
    ∙ ap (λ xs. rule_names (rules_of xs)) (sym is)

typed_more : (es : List Entry) (e : Entry) → AreTyped (rules_of es) → IsTypedRule e.typed → AreTyped (rules_of (es ++ e ∷ []))
typed_more [] e all last = (last, tt)
typed_more (x ∷ es) e all last = (all.0, typed_more es e all.1 last)

-- with one typed rule more, each rule is typed
pub grown_typed : (es all : List Entry) (e : Entry) → AreTyped (rules_of es) → all ≡ es ++ e ∷ [] → IsTypedRule e.typed → AreTyped (rules_of all)
grown_typed es all e typed is last = subst (λ xs. AreTyped (rules_of xs)) (sym is) (typed_more es e typed last)

-- the answer of the table of names, for the name of a rule
pub found : (name asked : List ℕ) (names : List (List ℕ)) (bs now : List BookRule) (answer : Bool) → answer ≡ list_any (bytes_eq asked) names → asked ≡ name → names ≡ rule_names bs → bs ≡ now → answer ≡ is_name_in name now
found name asked names bs now answer told same are is =
    told ∙ ap (λ n. list_any (bytes_eq n) names) same ∙ known name names bs now are is

pub absent : (name asked : List ℕ) (names : List (List ℕ)) (bs now : List BookRule) → is_name_in name now ≡ false → asked ≡ name → names ≡ rule_names bs → bs ≡ now → list_any (bytes_eq asked) names ≡ false
absent name asked names bs now none same are is = ap (λ n. list_any (bytes_eq n) names) same ∙ known name names bs now are is ∙ none

-- no other error is a duplicate name
pub not_duplicate : (b : Bool) → b ≡ false → (◌≡◌ {A = Result (Unit {0}) BookError} (Err Memory) (Err DuplicateName) → IsTrue b) × (IsTrue b → ◌≡◌ {A = Result (Unit {0}) BookError} (Err Memory) (Err DuplicateName))
not_duplicate b is_false = (λ e. absurd cc, λ h. absurd cc)

pub no_error : (b : Bool) → b ≡ false → (◌≡◌ {A = Result (Unit {0}) BookError} (Ok tt) (Err DuplicateName) → IsTrue b) × (IsTrue b → ◌≡◌ {A = Result (Unit {0}) BookError} (Ok tt) (Err DuplicateName))
no_error b is_false = (λ e. absurd cc, λ h. absurd cc)
