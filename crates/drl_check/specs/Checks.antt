-- The checks of a file, by their codes; the first item that fails one, and the first code that it fails.
use Rattle.std.specs.{Prelude.{◌≡◌, ◌⊎◌, ℕ, ◌+◌, ◌||◌, Bool, true, false, List, [], ◌∷◌, ◌++◌, length, Option, Some, None, if◌then◌else◌}, List.{list_any}}
use Rattle.drl_grammar.specs.declared.file.{File.{File}, Body.{Body}}
use Rattle.drl_grammar.specs.declared.file.Body.TheVariants as body
use Rattle.drl_grammar.specs.declared.file.{Item.{Item}, TypeTree.{TypeTree}}
use Rattle.drl_check.specs.declared.fault.CheckCode.{CheckCode, TheVariants.{TwiceDeclared, LimitPassed, UnknownType, UnknownField, UnknownVariable, WrongKind}}
use Rattle.drl_check.specs.declared.fault.CheckCode.TheVariants.{NotAnEvent, BadTimestamp, BadReference, EventFixed, EventObserved, ReferenceFixed, BadParams}
use Rattle.drl_check.specs.{declared.fault.CheckCode.TheVariants.{NeverMatches}, Twice.{is_twice}, Events.{annotation_lacks, is_no_event, has_bad_timestamp}}
use Rattle.drl_check.specs.{Events.{marks_event, modifies_event, retracts_observed, fixes_reference}, Params.{is_negative_number, expires_at_once}}
use Rattle.drl_check.specs.{Params.{is_condition_refused}, Solvable.{never_matches}}
use Rattle.drl_scope.specs.{Declarations.{types_of}, Observed.{is_watched_type}, Sight.{begin, sight_of_actions}}
use Rattle.drl_limits.specs.Limits.{exceeds_limit}
use Rattle.drl_typing.specs.Uses.{any_condition, has_unknown_type, has_unknown_field, has_unknown_variable, inserts_unknown_type, action_lacks, action_unseen}
use Rattle.drl_typing.specs.{Kinds.{has_unknown_kind, has_wrong_kind, action_misfits}, Times.{has_no_times}}

abbrev pub lacks_type : List TypeTree → Body → Bool
lacks_type types (body.Rule r) = has_unknown_type types r.conditions || list_any (inserts_unknown_type types) r.actions
lacks_type types (body.Package path) = false
lacks_type types (body.Import path star) = false
lacks_type types (body.Dialect text) = false
lacks_type types (body.Declare t) = false
lacks_type types (body.Entry name lateness) = false

abbrev pub lacks_field : List TypeTree → Body → Bool
lacks_field types (body.Declare t) = annotation_lacks t
lacks_field types (body.Rule r) = any_condition (has_unknown_field types) types begin r.conditions || list_any (action_lacks (sight_of_actions types r.conditions)) r.actions
lacks_field types (body.Package path) = false
lacks_field types (body.Import path star) = false
lacks_field types (body.Dialect text) = false
lacks_field types (body.Entry name lateness) = false

abbrev pub lacks_variable : List TypeTree → Body → Bool
lacks_variable types (body.Rule r) = any_condition has_unknown_variable types begin r.conditions || list_any (action_unseen (sight_of_actions types r.conditions)) r.actions
lacks_variable types (body.Package path) = false
lacks_variable types (body.Import path star) = false
lacks_variable types (body.Dialect text) = false
lacks_variable types (body.Declare t) = false
lacks_variable types (body.Entry name lateness) = false

abbrev pub is_wrong_kind : List TypeTree → Body → Bool
is_wrong_kind types (body.Declare t) = has_unknown_kind t
is_wrong_kind types (body.Rule r) = any_condition (has_wrong_kind types) types begin r.conditions || list_any (action_misfits types (sight_of_actions types r.conditions)) r.actions
is_wrong_kind types (body.Package path) = false
is_wrong_kind types (body.Import path star) = false
is_wrong_kind types (body.Dialect text) = false
is_wrong_kind types (body.Entry name lateness) = false

abbrev pub needs_event : List TypeTree → Body → Bool
needs_event types (body.Declare t) = is_no_event t
needs_event types (body.Rule r) = any_condition (has_no_times types) types begin r.conditions
needs_event types (body.Package path) = false
needs_event types (body.Import path star) = false
needs_event types (body.Dialect text) = false
needs_event types (body.Entry name lateness) = false

abbrev pub needs_whole_times : Body → Bool
needs_whole_times (body.Declare t) = has_bad_timestamp t
needs_whole_times (body.Package path) = false
needs_whole_times (body.Import path star) = false
needs_whole_times (body.Dialect text) = false
needs_whole_times (body.Entry name lateness) = false
needs_whole_times (body.Rule r) = false

abbrev pub has_bad_reference : Body → Bool
has_bad_reference (body.Declare t) = marks_event t
has_bad_reference (body.Package path) = false
has_bad_reference (body.Import path star) = false
has_bad_reference (body.Dialect text) = false
has_bad_reference (body.Entry name lateness) = false
has_bad_reference (body.Rule r) = false

abbrev pub fixes_event : List TypeTree → Body → Bool
fixes_event types (body.Rule r) = list_any (modifies_event (sight_of_actions types r.conditions)) r.actions
fixes_event types (body.Package path) = false
fixes_event types (body.Import path star) = false
fixes_event types (body.Dialect text) = false
fixes_event types (body.Declare t) = false
fixes_event types (body.Entry name lateness) = false

-- given which types are observed
abbrev pub drops_observed : (TypeTree → Bool) → List TypeTree → Body → Bool
drops_observed observed types (body.Rule r) = list_any (retracts_observed observed (sight_of_actions types r.conditions)) r.actions
drops_observed observed types (body.Package path) = false
drops_observed observed types (body.Import path star) = false
drops_observed observed types (body.Dialect text) = false
drops_observed observed types (body.Declare t) = false
drops_observed observed types (body.Entry name lateness) = false

abbrev pub changes_reference : List TypeTree → Body → Bool
changes_reference types (body.Rule r) = list_any (fixes_reference types (sight_of_actions types r.conditions)) r.actions
changes_reference types (body.Package path) = false
changes_reference types (body.Import path star) = false
changes_reference types (body.Dialect text) = false
changes_reference types (body.Declare t) = false
changes_reference types (body.Entry name lateness) = false

abbrev pub has_bad_params : Body → Bool
has_bad_params (body.Entry name lateness) = is_negative_number lateness
has_bad_params (body.Declare t) = expires_at_once t
has_bad_params (body.Rule r) = list_any is_condition_refused r.conditions
has_bad_params (body.Package path) = false
has_bad_params (body.Import path star) = false
has_bad_params (body.Dialect text) = false

-- whether an item fails the check of this code, given all the items of the file and those before it; that `NeverMatches` fails exactly where
-- the temporal tests of a rule have no solution (`IsSolvable` of `life_laws/specs/Networks.antt`) is the law
-- `drl_check::laws::rules_that_never_match_are_found`, of what has passed the checks before it
abbrev pub fails : CheckCode → List Item → List Item → Body → Bool
fails TwiceDeclared all before b = is_twice before b
fails LimitPassed all before b = exceeds_limit before b
fails UnknownType all before b = lacks_type (types_of all) b
fails UnknownField all before b = lacks_field (types_of all) b
fails UnknownVariable all before b = lacks_variable (types_of all) b
fails WrongKind all before b = is_wrong_kind (types_of all) b
fails NotAnEvent all before b = needs_event (types_of all) b
fails BadTimestamp all before b = needs_whole_times b
fails BadReference all before b = has_bad_reference b
fails EventFixed all before b = fixes_event (types_of all) b
fails EventObserved all before b = drops_observed (is_watched_type all) (types_of all) b
fails ReferenceFixed all before b = changes_reference (types_of all) b
fails BadParams all before b = has_bad_params b
fails NeverMatches all before b = never_matches all b

-- the codes, in the order in which they are tried
abbrev pub codes_in_order : List CheckCode
codes_in_order = TwiceDeclared ∷ LimitPassed ∷ UnknownType ∷ UnknownField ∷ UnknownVariable ∷ WrongKind ∷ NotAnEvent ∷ BadTimestamp ∷ BadReference ∷ EventFixed ∷ EventObserved ∷ ReferenceFixed
    ∷ BadParams ∷ NeverMatches ∷ []

-- an item passes all checks
abbrev pub PassesChecks : List Item → List Item → Body → Type 0
PassesChecks all before b = (code : CheckCode) → fails code all before b ≡ false

-- every item, of those behind `before`, passes all checks
abbrev pub AllPass : List Item → List Item → List Item → Type 0
AllPass all before [] = Unit {0}
AllPass all before (item ∷ items) = PassesChecks all before item.body × AllPass all (before ++ item ∷ []) items

-- a file is accepted: no item fails a check
abbrev pub IsAcceptedFile : File → Type 0
IsAcceptedFile file = AllPass file.items [] file.items

-- a code fails, and those before it do not
abbrev pub FailsFirst : List CheckCode → CheckCode → List Item → List Item → Body → Type 0
FailsFirst [] code all before b = ⊥
FailsFirst (c ∷ cs) code all before b = ((c ≡ code) × (fails c all before b ≡ true)) ⊎ ((fails c all before b ≡ false) × FailsFirst cs code all before b)

-- the item of this number, counted from 1, is the first that fails a check, and this is the first check that it fails
pub record IsFirstFailure (file : File) (number line : ℕ) (code : CheckCode) : Type 0 where
  pub before : List Item
  pub item : Item
  pub after : List Item
  pub parts : file.items ≡ before ++ (item ∷ after)
  pub earlier : (front : List Item) (passed : Item) (behind : List Item) → before ≡ front ++ (passed ∷ behind) → PassesChecks file.items front passed.body
  pub number_is : number ≡ length before + 1
  pub line_is : line ≡ item.line
  pub first : FailsFirst codes_in_order code file.items before item.body

-- ---- the same as functions

abbrev pub first_code : List CheckCode → List Item → List Item → Body → Option CheckCode
first_code [] all before b = None
first_code (c ∷ cs) all before b = if fails c all before b then Some c else first_code cs all before b

-- what refuses a file: the number of the item, its line and the code
pub record Failure : Type 0 where
  pub number : ℕ
  pub line : ℕ
  pub code : CheckCode

abbrev pub failure_at : ℕ → ℕ → Option CheckCode → Option Failure → Option Failure
failure_at number line None others = others
failure_at number line (Some code) others = Some (record { number = number; line = line; code = code })

-- the first failure of the items behind `before`
unfoldable pub failure_from : List Item → List Item → List Item → Option Failure
failure_from all before [] = None
failure_from all before (item ∷ items) = failure_at (length before + 1) item.line (first_code codes_in_order all before item.body) (failure_from all (before ++ item ∷ []) items)

abbrev pub failure_of : File → Option Failure
failure_of file = failure_from file.items [] file.items
