-- What is told of the rules before the first line.
use Rattle.std.specs.Prelude.{◌≡◌, ◌↔◌, ◌&&◌, ◌+◌, ◌==◌, ◌++◌, ℕ, Bool, true, false, List, [], ◌∷◌, Option, Some, None, if◌then◌else◌, slice_get}
use Rattle.std.specs.{List.{list_any}, Str.{bytes_eq}}
use Rattle.fx_base.specs.Lists.{EachOnce, In}
use Rattle.rule_model.specs.declared.program.{Program.{Program}, Rule.{Rule}}
use Rattle.rule_change.specs.{declared.code.RuleStatus.{RuleStatus, TheVariants.{Stays, New, Gone}}, Changed.{AreFrom}}

-- a rule by its name, and what becomes of it
abbrev pub ToldRule : Type 0
ToldRule = List ℕ × RuleStatus

abbrev pub status_of : Option ℕ → RuleStatus
status_of None = New
status_of (Some old) = Stays

-- the new rules, the first of which has this place
unfoldable pub new_told : (ℕ → Option ℕ) → List Rule → ℕ → List ToldRule
new_told from [] place = []
new_told from (rule ∷ rules) place = (rule.name, status_of (from place)) ∷ new_told from rules (place + 1)

-- the places of the old rules that stay, by the new ones, the first of which has this place
unfoldable pub places_from : (ℕ → Option ℕ) → List Rule → ℕ → List (Option ℕ)
places_from from [] place = []
places_from from (rule ∷ rules) place = from place ∷ places_from from rules (place + 1)

abbrev pub is_place : ℕ → Option ℕ → Bool
is_place old None = false
is_place old (Some place) = place == old

-- the old rules that are gone, the first of which has this place
unfoldable pub gone_told : List (Option ℕ) → List Rule → ℕ → List ToldRule
gone_told stay [] place = []
gone_told stay (rule ∷ rules) place =
    if list_any (is_place place) stay then gone_told stay rules (place + 1) else ((rule.name, Gone) ∷ gone_told stay rules (place + 1))

abbrev pub is_same_status : RuleStatus → RuleStatus → Bool
is_same_status Stays Stays = true
is_same_status New New = true
is_same_status Gone Gone = true
is_same_status _ _ = false

abbrev pub is_same_told : ToldRule → ToldRule → Bool
is_same_told a b = bytes_eq a.0 b.0 && is_same_status a.1 b.1

-- each of them once, where it stands first, given those before
unfoldable pub each_once : List ToldRule → List ToldRule → List ToldRule
each_once before [] = []
each_once before (told ∷ more) = if list_any (is_same_told told) before then each_once before more else (told ∷ each_once (told ∷ before) more)

-- The new rules in their order, then the old ones that are gone, in theirs. The ways of a rule have its name, and are told once.
unfoldable pub rules_told : Program → Program → (ℕ → Option ℕ) → List ToldRule
rules_told p q from = each_once [] (new_told from q.rules 0 ++ gone_told (places_from from q.rules 0) p.rules 0)

-- ---- what holds

-- A rule of this name is told so: a new one that stays, or is new, and an old one that is gone.
abbrev pub IsTold : Program → Program → (ℕ → Option ℕ) → List ℕ → RuleStatus → Type 0
IsTold p q from name Stays = (new : ℕ) × (rule : Rule) × (slice_get q.rules new ≡ Some rule) × (rule.name ≡ name) × (old : ℕ) × (from new ≡ Some old)
IsTold p q from name New = (new : ℕ) × (rule : Rule) × (slice_get q.rules new ≡ Some rule) × (rule.name ≡ name) × (from new ≡ None)
IsTold p q from name Gone = (old : ℕ) × (rule : Rule) × (slice_get p.rules old ≡ Some rule) × (rule.name ≡ name) × ((new : ℕ) → from new ≡ Some old → ⊥)

-- all this is told, and nothing else
abbrev pub ToldIsExact : Type 0
ToldIsExact = (p q : Program) (from : ℕ → Option ℕ) → AreFrom p q from → (told : ToldRule) → In told (rules_told p q from) ↔ IsTold p q from told.0 told.1

-- and it is told once
abbrev pub ToldOnce : Type 0
ToldOnce = (p q : Program) (from : ℕ → Option ℕ) → EachOnce (rules_told p q from)
