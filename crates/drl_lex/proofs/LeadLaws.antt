-- What a byte is, by what it can begin.
use Rattle.drl_lex.proofs.Common.{◌≡◌, ℕ, Bool, true, false, cond, eqb, refl, arith, is_ascii_digit, eqb-true, eqb-false, nat_tests, Lead, Blank, Hash, Slash}
use Rattle.drl_lex.{proofs.Common.{Quote, Dollar, Digit, Letter, Other}, specs.Bytes.{is_blank, begins_word, is_word_byte, is_run_byte, is_quote}}
use Rattle.drl_lex.specs.Leads.{lead_of}

pub record IsOther (b : ℕ) : Type 0 where
  pub no_blank : is_blank b ≡ false
  pub no_hash : b ≡ 35 → ⊥
  pub no_slash : b ≡ 47 → ⊥
  pub no_quote : is_quote b ≡ false
  pub no_dollar : b ≡ 36 → ⊥
  pub no_digit : is_ascii_digit b ≡ false
  pub no_letter : begins_word b ≡ false

abbrev pub LeadIs : ℕ → Lead → Type 0
LeadIs b Blank = is_blank b ≡ true
LeadIs b Hash = b ≡ 35
LeadIs b Slash = b ≡ 47
LeadIs b Quote = is_quote b ≡ true
LeadIs b Dollar = b ≡ 36
LeadIs b Digit = is_ascii_digit b ≡ true
LeadIs b Letter = begins_word b ≡ true
LeadIs b Other = IsOther b

choose : (P : Lead → Type 0) (t : Bool) (x y : Lead) → (t ≡ true → P x) → (t ≡ false → P y) → P (cond t x y)
choose P true x y here there = here refl
choose P false x y here there = there refl

pub lead_is : (b : ℕ) → LeadIs b (lead_of b)
unfolding lead_of
lead_is b =
    choose (LeadIs b) (is_blank b) _ _ (λ h. h) (λ no_blank.
    choose (LeadIs b) (eqb b 35) _ _ (λ h. eqb-true b 35 h) (λ no_hash.
    choose (LeadIs b) (eqb b 47) _ _ (λ h. eqb-true b 47 h) (λ no_slash.
    choose (LeadIs b) (is_quote b) _ _ (λ h. h) (λ no_quote.
    choose (LeadIs b) (eqb b 36) _ _ (λ h. eqb-true b 36 h) (λ no_dollar.
    choose (LeadIs b) (is_ascii_digit b) _ _ (λ h. h) (λ no_digit.
    choose (LeadIs b) (begins_word b) _ _ (λ h. h) (λ no_letter. record {
      no_blank = no_blank;
      no_hash = eqb-false b 35 no_hash;
      no_slash = eqb-false b 47 no_slash;
      no_quote = no_quote;
      no_dollar = eqb-false b 36 no_dollar;
      no_digit = no_digit;
      no_letter = no_letter;
    })))))))

pub blank_lead : (b : ℕ) → is_blank b ≡ true → lead_of b ≡ Blank
unfolding lead_of
blank_lead b h = rw h refl

-- what a quote is not
record IsNoMark (b : ℕ) : Type 0 where
  no_blank : is_blank b ≡ false
  no_hash : eqb b 35 ≡ false
  no_slash : eqb b 47 ≡ false

-- what a letter is not
record IsNoMore (b : ℕ) : Type 0 where
  no_blank : is_blank b ≡ false
  no_hash : eqb b 35 ≡ false
  no_slash : eqb b 47 ≡ false
  no_quote : is_quote b ≡ false
  no_dollar : eqb b 36 ≡ false

quote_is : (b : ℕ) → is_quote b ≡ true → IsNoMark b
unfolding is_blank is_quote
quote_is b h = record { no_blank = grind (arith, nat_tests); no_hash = grind (arith, nat_tests); no_slash = grind (arith, nat_tests) }

letter_is : (b : ℕ) → is_word_byte b ≡ true → IsNoMore b
unfolding is_word_byte is_blank is_quote
letter_is b h = record { no_blank = grind (arith, nat_tests); no_hash = grind (arith, nat_tests); no_slash = grind (arith, nat_tests); no_quote = grind (arith, nat_tests); no_dollar = grind (arith, nat_tests) }

digit_is_word_byte : (b : ℕ) → is_ascii_digit b ≡ true → is_word_byte b ≡ true
unfolding is_word_byte
digit_is_word_byte b h = grind (arith, nat_tests)

pub letter_is_word_byte : (b : ℕ) → begins_word b ≡ true → is_word_byte b ≡ true
unfolding is_word_byte begins_word
letter_is_word_byte b h = grind (arith, nat_tests)

letter_no_digit : (b : ℕ) → begins_word b ≡ true → is_ascii_digit b ≡ false
unfolding begins_word
letter_no_digit b h = grind (arith, nat_tests)

pub digit_lead : (b : ℕ) → is_ascii_digit b ≡ true → lead_of b ≡ Digit
unfolding lead_of
digit_lead b h = let no = letter_is b (digit_is_word_byte b h) in rw (no.no_blank, no.no_hash, no.no_slash, no.no_quote, no.no_dollar, h) refl

pub letter_lead : (b : ℕ) → begins_word b ≡ true → lead_of b ≡ Letter
unfolding lead_of
letter_lead b h = let no = letter_is b (letter_is_word_byte b h) in rw (no.no_blank, no.no_hash, no.no_slash, no.no_quote, no.no_dollar, letter_no_digit b h, h) refl

pub quote_lead : (b : ℕ) → is_quote b ≡ true → lead_of b ≡ Quote
unfolding lead_of
quote_lead b h = let no = quote_is b h in rw (no.no_blank, no.no_hash, no.no_slash, h) refl

pub digit_runs : (b : ℕ) → is_ascii_digit b ≡ true → is_run_byte b ≡ true
unfolding is_run_byte
digit_runs b h = rw (digit_is_word_byte b h) refl
