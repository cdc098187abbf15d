-- The reserved words, and the words that may stand as names.
use Rattle.std.specs.{Prelude.{◌≡◌, ◌||◌, ℕ, List, [], ◌∷◌, Bool, true, not, codes}, List.{list_any}, Str.{bytes_eq}}

-- the reserved words
abbrev pub item_words : List (List ℕ)
item_words = codes "package" ∷ codes "import" ∷ codes "dialect" ∷ codes "declare" ∷ codes "rule" ∷ codes "when" ∷ codes "then" ∷ codes "end" ∷ codes "salience" ∷ codes "extends" ∷ []

abbrev pub condition_words : List (List ℕ)
condition_words = codes "not" ∷ codes "exists" ∷ codes "accumulate" ∷ codes "from" ∷ codes "over" ∷ codes "in" ∷ codes "this" ∷ codes "or" ∷ []

abbrev pub value_words : List (List ℕ)
value_words = codes "new" ∷ codes "insert" ∷ codes "modify" ∷ codes "retract" ∷ codes "true" ∷ codes "false" ∷ codes "Number" ∷ []

abbrev pub is_among : List (List ℕ) → List ℕ → Bool
is_among words word = list_any (bytes_eq word) words

-- a word that is no reserved one
unfoldable pub is_ident : List ℕ → Bool
is_ident word = not (is_among item_words word || is_among condition_words word || is_among value_words word)

abbrev pub IsIdent : List ℕ → Type 0
IsIdent word = is_ident word ≡ true
