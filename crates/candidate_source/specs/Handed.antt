-- What of a turn of candidates is handed to the nodes in which places.
use Rattle.std.specs.{Prelude.{◌≡◌, ℕ, Bool, cond, List, [], ◌∷◌, ◌++◌, Option, Some, None}, BTreeMap.{BTreeMap, get}, Ordering.{nat_cmp}}
use Rattle.row_delta.specs.declared.row.Named.{Named}
use Rattle.candidate_source.specs.declared.handed.{Handed.{Handed}, Turned.{Turned, TheVariants.{Gone, Came}}}

-- the candidate, if it went
abbrev pub went : Turned → List Named
went (Gone who) = who ∷ []
went (Came who) = []

-- the candidate, if it came
abbrev pub came : Turned → List Named
came (Gone who) = []
came (Came who) = who ∷ []

abbrev pub given_gone : Option Handed → List Named
given_gone None = []
given_gone (Some handed) = handed.gone.items

abbrev pub given_come : Option Handed → List Named
given_come None = []
given_come (Some handed) = handed.come.items

-- what went, of what is handed to the node in a place
abbrev pub gone_at : BTreeMap ℕ Handed → ℕ → List Named
gone_at handed k = given_gone (get nat_cmp handed k)

-- and what came
abbrev pub come_at : BTreeMap ℕ Handed → ℕ → List Named
come_at handed k = given_come (get nat_cmp handed k)

-- nothing is handed to the node in a place
abbrev pub IsUnhanded : BTreeMap ℕ Handed → ℕ → Type 0
IsUnhanded handed k = (gone_at handed k ≡ []) × (come_at handed k ≡ [])

-- a candidate is handed to the nodes in these places, behind what was handed to them before, and to no others
pub record IsHandedTo (turned : Turned) (places : ℕ → Bool) (before after : BTreeMap ℕ Handed) : Type 0 where
  pub gone : (k : ℕ) → gone_at after k ≡ gone_at before k ++ cond (places k) (went turned) []
  pub come : (k : ℕ) → come_at after k ≡ come_at before k ++ cond (places k) (came turned) []
