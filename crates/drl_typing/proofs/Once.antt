-- The fields of a type one after the other: what one field more adds to those that count.
use Rattle.drl_typing.proofs.Common.{◌≡◌, ◌+◌, ◌<◌, ◌++◌, ◌∷◌, ◌||◌, ℕ, Bool, true, false, not, List, [], Option, length, map, get_or, take, if◌then◌else◌}
use Rattle.drl_typing.{proofs.Common.{refl, sym, ap, ◌∙◌, append-nil, map-append, take_more, Kind, word_kind, taken_kinds}, specs.Kinds.{fields_once}}
use Rattle.{std.{specs.{List.{filter}, Str.{bytes_eq}}, proofs.lemmas.List.Elements.{filter-append}}, drl_expr.specs.Words.{is_among}}

abbrev pub names_in : List (List ℕ × List ℕ) → List (List ℕ)
names_in fields = map (λ (field : List ℕ × List ℕ). field.0) fields

abbrev others : List ℕ → List ℕ × List ℕ → Bool
others name other = not (bytes_eq other.0 name)

-- the field alone, or nothing where its name stands before
abbrev unless : Bool → List ℕ × List ℕ → List (List ℕ × List ℕ)
unless stands field = if stands then [] else field ∷ []

unless_named : (name : List ℕ) (field : List ℕ × List ℕ) (stands same : Bool) → bytes_eq field.0 name ≡ same
    → filter (others name) (unless stands field) ≡ unless (same || stands) field
unless_named name field true true e = refl
unless_named name field true false e = refl
unless_named name field false true e = rw e refl
unless_named name field false false e = rw e refl

once_behind : (fields : List (List ℕ × List ℕ)) (field : List ℕ × List ℕ) → fields_once (fields ++ field ∷ []) ≡ fields_once fields ++ unless (is_among (names_in fields) field.0) field
unfolding fields_once
once_behind [] field = refl
once_behind (first ∷ fields) field =
    let stands = is_among (names_in fields) field.0 in
    let kept = filter (others first.0) (fields_once fields) in
    ap (λ (rest : List (List ℕ × List ℕ)). first ∷ rest)
    (ap (filter (others first.0)) (once_behind fields field) ∙ filter-append (others first.0) (fields_once fields) (unless stands field)
    ∙ ap (λ (rest : List (List ℕ × List ℕ)). kept ++ rest) (unless_named first.0 field stands (bytes_eq field.0 first.0) refl))

pub kinds_behind : (fields : List (List ℕ × List ℕ)) (field : List ℕ × List ℕ)
    → taken_kinds (fields ++ field ∷ []) ≡ (if is_among (names_in fields) field.0 then taken_kinds fields else taken_kinds fields ++ word_kind field ∷ [])
kinds_behind fields field = by (is_among (names_in fields) field.0) (once_behind fields field)
  where
    by : (stands : Bool) → fields_once (fields ++ field ∷ []) ≡ fields_once fields ++ unless stands field
        → taken_kinds (fields ++ field ∷ []) ≡ (if stands then taken_kinds fields else taken_kinds fields ++ word_kind field ∷ [])
    by true e = ap (map word_kind) (e ∙ append-nil (fields_once fields))
    by false e = ap (map word_kind) e ∙ map-append word_kind (fields_once fields) (field ∷ [])

-- one field more, where names and kinds of those before it are gathered
pub one_field_more : (fields : List (List ℕ × List ℕ)) (k : ℕ) (field : List ℕ × List ℕ) (before names : List (List ℕ)) (kinds now : List (Option Kind))
    → k < length fields → field ≡ get_or fields k field → before ≡ names_in (take k fields) → kinds ≡ taken_kinds (take k fields)
    → names ≡ before ++ field.0 ∷ [] → now ≡ (if is_among before field.0 then kinds else kinds ++ word_kind field ∷ [])
    → (names ≡ names_in (take (k + 1) fields)) × (now ≡ taken_kinds (take (k + 1) fields))
one_field_more fields k field before names kinds now lt is same_before same_kinds named added =
    let more : take (k + 1) fields ≡ take k fields ++ field ∷ [] = take_more fields k field lt ∙ ap (λ (f : List ℕ × List ℕ). take k fields ++ f ∷ []) (sym is) in (
      named ∙ ap (λ front. front ++ field.0 ∷ []) same_before ∙ sym (map-append (λ (f : List ℕ × List ℕ). f.0) (take k fields) (field ∷ [])) ∙ ap names_in (sym more),
      added ∙ rw (same_before, same_kinds) (sym (kinds_behind (take k fields) field)) ∙ ap taken_kinds (sym more),
    )
