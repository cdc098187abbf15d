-- What a rule file reads as that is written out to another one: its front whole, and behind it what the checks of earlier items ask for.
use Rattle.replay.proofs.Common.{◌≡◌, ◌≤◌, ◌<◌, ◌+◌, ◌-◌, ◌⊎◌, ◌++◌, ℕ, List, [], length, get_or, take, inl, inr, Result, Ok, Err, Some, sym, ap, ◌∙◌, refl}
use Rattle.replay.proofs.Common.{arith, ◌||◌, ◌∷◌, append-nil, take_all, take-append-drop, flat_map, Written, Failure, failure_of, checked_by, Program}
use Rattle.replay.{proofs.Common.{obstacle, Refusal, Accepted, Refused, plain_file, of_checked, of_obstacle, with_titles}, specs.Refusals.{of_checked_with}}
use Rattle.{replay.{specs.declared.refusal.RefusalCode.TheVariants.{Checked}, proofs.Fronts.{Both, first_alike}}, std.specs.Prelude.{drop}}
use Rattle.{std.proofs.lemmas.{List.{get_or_append_left}, Grind.{flat_map-append}}, drl_check.specs.{Outcomes.{checked}, Answers.{within_32_bits}}}
use Rattle.{fx_base.proofs.Sequences.{drop_past}, drl_expr.specs.Words.{is_among}, drl_grammar.specs.declared.file.{File.{File}, Item.{Item}}}
use Rattle.{drl_grammar.specs.declared.written.{WrittenItem.{WrittenItem}, WrittenType.{WrittenType}}, drl_names.specs.Names.{names_of}}
use Rattle.{drl_compile.specs.Programs.{program_of}, drl_scope.specs.{Declarations.{types_of, rules_of}, Observed.{watched_names}}}
use Rattle.subrules.specs.{Hierarchy.{written_types_of}, Expanded.{expanded, plain_items, titles, titles_in, origins, origins_from}, Front.{short_items}}
use Rattle.subrules.{specs.{declared.expanding.Expanded.{Expanded}, Outcomes.{IsExpanded}}, proofs.FrontLaws.{as_many_origins, as_many_titles, origins_append}}
use Rattle.subrules.proofs.FrontLaws.{same_types, same_watched, watched_append}

-- by the titles and origins of the whole file
by_whole : (file : Written) (found : Result Program Failure) → of_checked file found ≡ of_checked_with (titles file.items) (origins file.items) found
by_whole file (Ok program) = refl
by_whole file (Err failure) = refl

fails_with : (file : File) (f : Failure) → failure_of file ≡ Some f → checked file ≡ Err f
unfolding checked
fails_with file f e = ap (λ o. checked_by o (program_of file)) e

some_items : (items : List Item) → 0 < length (rules_of items) → 0 < length items
some_items [] some = some
some_items (item ∷ items) some = omega arith

module _ (file : Written) (e : Expanded) (is : IsExpanded file e) where
  abbrev types : List WrittenType
  types = written_types_of file.items

  abbrev before : List WrittenItem
  before = take e.front file.items

  abbrev behind : List WrittenItem
  behind = drop e.front file.items

  abbrev front : List Item
  front = flat_map (plain_items types) before

  abbrev rest : List Item
  rest = flat_map (plain_items types) behind

  abbrev other : List Item
  other = flat_map (short_items types) behind

  whole_items : length file.items ≤ e.front → e.file.items ≡ expanded file.items
  whole_items few =
      is.items ∙ ap (λ items. front ++ flat_map (short_items types) items) (drop_past file.items e.front few) ∙ append-nil front
      ∙ ap (flat_map (plain_items types)) (take_all e.front file.items few)

  -- the front is the whole file
  all_of : length file.items ≤ e.front → of_checked file (checked (plain_file file)) ≡ of_checked_with e.titles e.origins (checked e.file)
  all_of few =
      let whole : before ≡ file.items = take_all e.front file.items few in
      let items : e.file.items ≡ expanded file.items = whole_items few in
      let names : e.titles ≡ titles file.items = is.titles_of_rules ∙ ap (flat_map (λ (item : WrittenItem). titles_in types item.body)) whole in
      let numbers : e.origins ≡ origins file.items = is.origins_of_items ∙ ap (origins_from types 1) whole in
      by_whole file (checked (plain_file file)) ∙ ap (λ (items : List Item). of_checked_with (titles file.items) (origins file.items) (checked (record { items = items }))) (sym items)
      ∙ ap (λ names. of_checked_with names (origins file.items) (checked e.file)) (sym names) ∙ ap (λ numbers. of_checked_with e.titles numbers (checked e.file)) (sym numbers)

  in_parts : expanded file.items ≡ front ++ rest
  in_parts = ap (flat_map (plain_items types)) (sym (take-append-drop e.front file.items)) ∙ flat_map-append (plain_items types) before behind

  types_alike : types_of (front ++ rest) ≡ types_of (front ++ other)
  types_alike = flat_map-append _ front rest ∙ ap (λ ts. types_of front ++ ts) (same_types types behind) ∙ sym (flat_map-append _ front other)

  watched_alike : (name : List ℕ) → is_among (watched_names (front ++ rest)) name ≡ is_among (watched_names (front ++ other)) name
  watched_alike name = watched_append types name front rest ∙ ap (λ b. is_among (watched_names front) name || b) (same_watched types name behind) ∙ sym (watched_append types name front other)

  many_rules : 256 < length e.titles → 256 < length (rules_of front)
  many_rules many = let n : length e.titles ≡ length (rules_of front) = ap length is.titles_of_rules ∙ sym (as_many_titles types before) in omega (arith, n, many)

  failing : 256 < length e.titles → Both (length front) (failure_of (plain_file file)) (failure_of e.file)
  failing many =
      let found = first_alike front rest other types_alike watched_alike (many_rules many) in
      (found.0, ap (λ (items : List Item). failure_of (record { items = items })) in_parts ∙ found.1, ap (λ (items : List Item). failure_of (record { items = items })) is.items ∙ found.2, found.3)

  -- an item of the front comes from the same item
  from_front : (k : ℕ) → k < length front → get_or (origins file.items) k 0 ≡ get_or e.origins k 0
  from_front k lt =
      let n : length e.origins ≡ length front = ap length is.origins_of_items ∙ as_many_origins types 1 before in
      ap (λ items. get_or (origins_from types 1 items) k 0) (sym (take-append-drop e.front file.items)) ∙ ap (λ numbers. get_or numbers k 0) (origins_append types 1 before behind)
      ∙ ap (λ numbers. get_or (numbers ++ origins_from types (1 + length before) behind) k 0) (sym is.origins_of_items)
      ∙ get_or_append_left e.origins (origins_from types (1 + length before) behind) 0 k (omega (arith, n, lt))

  -- an item of the front fails
  front_of : 256 < length e.titles → of_checked file (checked (plain_file file)) ≡ of_checked_with e.titles e.origins (checked e.file)
  front_of many =
      let found = failing many in
      let f : Failure = found.0 in
      let more = many_rules many in
      let some : 0 < length front = some_items front (omega (arith, more)) in
      ap (of_checked file) (fails_with (plain_file file) f found.1)
      ∙ ap (λ n. Refused (record { item = n; line = f.line; code = Checked f.code })) (from_front (within_32_bits f.number - 1) (omega (arith, found.3, some)))
      ∙ ap (of_checked_with e.titles e.origins) (sym (fails_with e.file f found.2))

  by_ends : (length file.items ≤ e.front) ⊎ (256 < length e.titles) → of_checked file (checked (plain_file file)) ≡ of_checked_with e.titles e.origins (checked e.file)
  by_ends (inl few) = all_of few
  by_ends (inr many) = front_of many

-- a file that is accepted is written out whole, so its variables have the names of the whole plain file
pub names_alike : (file : Written) (e : Expanded) (p : Program) → IsExpanded file e → checked e.file ≡ Ok p → names_of e.file ≡ names_of (plain_file file)
names_alike file e p is gives = by is.ends
  where
    no_failure : (f : Failure) → checked e.file ≡ Err f → ⊥
    no_failure f err = let same : Ok p ≡ Err f = sym gives ∙ err in cc

    by : (length file.items ≤ e.front) ⊎ (256 < length e.titles) → names_of e.file ≡ names_of (plain_file file)
    by (inl few) = ap (λ (items : List Item). names_of (record { items = items })) (whole_items file e is few)
    by (inr many) = let found = failing file e is many in absurd (no_failure found.0 (fails_with e.file found.0 found.2))

by_checked : (file : Written) (e : Expanded) (found : Result Program Failure) → IsExpanded file e → checked e.file ≡ found → of_obstacle file (obstacle file.items) ≡ of_checked_with e.titles e.origins found
by_checked file e found is gives = ap (of_obstacle file) is.possible ∙ by_ends file e is is.ends ∙ ap (of_checked_with e.titles e.origins) gives

pub accepted_of : (file : Written) (e : Expanded) (p : Program) → IsExpanded file e → checked e.file ≡ Ok p → Accepted (with_titles e.titles p) ≡ of_obstacle file (obstacle file.items)
accepted_of file e p is gives = sym (by_checked file e (Ok p) is gives)

pub refused_of : (file : Written) (e : Expanded) (found : Result Program Failure) (refusal : Refusal) → IsExpanded file e → checked e.file ≡ found
    → of_checked_with e.titles e.origins found ≡ Refused refusal → Refused refusal ≡ of_obstacle file (obstacle file.items)
refused_of file e found refusal is gives told = sym told ∙ sym (by_checked file e found is gives)
