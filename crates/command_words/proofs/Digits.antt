-- What `parse` makes of decimal digits.
use Rattle.command_words.{proofs.Common.{◌≡◌, ◌∙◌, ◌≤◌, ℕ, List, length, true, Result, Ok, Some, rules, arith, ap, sym}, specs.Asked.{number_in_digits}}
use Rattle.std.specs.{Char.{is_ascii_digit}, List.{list_all}, Result.{result_ok}, Str.Parse.{digits_value, ParsesUnsigned}}
use Rattle.std.proofs.lemmas.Str.Parse.{IsNumeralModel, numerals_by_value, digits_value_short, parse_gives}

decimal : IsNumeralModel (λ ds. list_all is_ascii_digit ds ≡ true) (digits_value 10)
decimal = numerals_by_value _ (search rules)

-- a text of 1 to 10 digits is read as the number that it writes
read_short : {E : Type 0} (text : List ℕ) (r : Result ℕ E) → ParsesUnsigned 64 10 text r → list_all is_ascii_digit text ≡ true → 1 ≤ length text → length text ≤ 10
    → r ≡ Ok (digits_value 10 text)
read_short text r parsed digits some short =
    let small = digits_value_short decimal text 10 digits short in
    parse_gives decimal 64 text r parsed digits (omega arith) (omega (arith, small))

number_written : (most : ℕ) (text : List ℕ) → list_all is_ascii_digit text ≡ true → 1 ≤ length text → length text ≤ most → number_in_digits most text ≡ Some (digits_value 10 text)
unfolding number_in_digits
number_written most text digits some short = search (rules, digits, some, short)

pub number_read : {E : Type 0} (most : ℕ) (text : List ℕ) (r : Result ℕ E) → most ≤ 10 → ParsesUnsigned 64 10 text r → list_all is_ascii_digit text ≡ true → 1 ≤ length text → length text ≤ most
    → result_ok r ≡ number_in_digits most text
number_read most text r few parsed digits some short =
    ap result_ok (read_short text r parsed digits some (omega (arith, few, short))) ∙ sym (number_written most text digits some short)
