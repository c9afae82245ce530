-- The classes of bytes, and their numbers in the table of bytes.
use Rattle.std.specs.Prelude.{ℕ, ◌||◌, nat_eq, if◌then◌else◌}
use Rattle.rare_sexpr.specs.declared.bytes.Class.{Class}
use Rattle.rare_sexpr.specs.declared.bytes.Class.TheVariants.{Blank, LineFeed, Open, Close, Semicolon, Colon, Hash, Digit, Letter, Quote, Bar, Other}
use Rattle.rare_sexpr.specs.Bytes.{is_in_range, is_mark, is_sign}

abbrev pub class : ℕ → Class
class b =
    if nat_eq b 32 || nat_eq b 9 || nat_eq b 13 then Blank
    else if nat_eq b 10 then LineFeed
    else if nat_eq b 40 then Open
    else if nat_eq b 41 then Close
    else if nat_eq b 59 then Semicolon
    else if nat_eq b 58 then Colon
    else if nat_eq b 35 then Hash
    else if is_in_range 48 57 b then Digit
    else if is_in_range 97 122 b || is_in_range 65 90 b then Letter
    else if is_mark b then Letter
    else if is_sign b then Letter
    else if nat_eq b 34 then Quote
    else if nat_eq b 124 then Bar
    else Other

-- the numbers of the classes in the table of bytes
abbrev pub code : Class → ℕ
code Blank = 0
code LineFeed = 1
code Semicolon = 2
code Open = 3
code Close = 4
code Other = 5
code Colon = 6
code Hash = 7
code Quote = 8
code Bar = 9
code Digit = 10
code Letter = 11

abbrev pub decoded : ℕ → Class
decoded n =
    if nat_eq n 0 then Blank else if nat_eq n 1 then LineFeed else if nat_eq n 2 then Semicolon else if nat_eq n 3 then Open else if nat_eq n 4 then Close else if nat_eq n 6 then Colon else if nat_eq n 7 then Hash else if nat_eq n 8 then Quote else if nat_eq n 9 then Bar else if nat_eq n 10 then Digit else if nat_eq n 11 then Letter else Other
