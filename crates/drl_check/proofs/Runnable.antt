-- The program of an accepted file is one that engines run.
use Rattle.drl_check.proofs.Common.{◌≡◌, ◌++◌, ◌∷◌, ◌&&◌, ◌||◌, ℕ, zero, suc, ℤ, Bool, true, false, not, nat_le, nat_lt, length, List, [], map, slice_get}
use Rattle.drl_check.proofs.Common.{Option, Some, None, is_some, refl, sym, ◌∙◌, ap, subst, append_assoc, arith, All, list_all, list_any, flat_map, bytes_eq}
use Rattle.drl_check.proofs.Common.{length-map, map-append, All-nil, All-cons, All-same, CondTree, Body, File, Item, RuleTree, TypeTree, Rule, is_event_type}
use Rattle.drl_check.proofs.Common.{is_reference_type, has_conditions, has_few_actions, has_expiry, UseOperators, NameEarlier, IsRunnable, declared_expiry}
use Rattle.drl_check.proofs.Common.{reference_of, types_of, rules_of, type_in, rule_in, type_names, type_tree_named, field_names, rule_names, entries_named}
use Rattle.drl_check.proofs.Common.{entry_names, declared_entries, is_among, begin, is_name, type_within, meta_within, exceeds_limit_behind, observed_names}
use Rattle.drl_check.proofs.Common.{type_info, entry_info, rule_of, program_of, observed_are_flagged, each_has_operator, any_condition, is_type_unknown}
use Rattle.drl_check.proofs.Common.{has_unknown_type, inserts_unknown_type, has_unknown_variable, has_wrong_kind, TwiceDeclared, LimitPassed, UnknownType}
use Rattle.drl_check.proofs.Common.{UnknownVariable, WrongKind, NotAnEvent, BadReference, BadParams, lacks_type, lacks_variable, is_wrong_kind, needs_event}
use Rattle.drl_check.proofs.Common.{has_bad_reference, has_bad_params, AllPass, IsAcceptedFile, is_of_events, is_no_event, marks_event, has_short_expiry}
use Rattle.{drl_check.proofs.Common.{expires_at_once, annotation_word, is_repeated}, std.proofs.lemmas.{Bool.{and_from}, List.Folds.{list_any-append}}}
use Rattle.std.proofs.Common.{append-nil}
use Rattle.drl_grammar.specs.declared.condition.CondTree.TheVariants as tree
use Rattle.drl_grammar.specs.declared.file.Body.TheVariants as body
use Rattle.drl_grammar.specs.declared.file.Meta.{Meta}
use Rattle.drl_grammar.specs.declared.file.Meta.TheVariants as meta
use Rattle.rule_model.specs.Types.{is_event, is_reference}
use Rattle.drl_scope.specs.Annotations as annotation
use Rattle.{drl_scope.specs.Names.{are_distinct}, drl_compile.specs.Laws.{has_type, has_types}, drl_check.proofs.{Failures.{types_next}, Sound.{not_and_right}}}
use Rattle.drl_check.proofs.Sound.{is_time, given_time, few_types, few_rules, few_entries, one_entry, some_entry, late, all_late, conditions_sound}
use Rattle.drl_check.proofs.{Sound.{actions_sound, all_sound}, Fields.{same_bytes}, Named.{rule_named}, Typed.{accepted_typed}, Windows.{accepted_windows}}
use Rattle.fx_base.proofs.Tests.{and_first, and_second, or_first_false, or_second_false}

-- ---- an explicit expiry is one of an event type, from 1 to 2^53 ms

expiry_by : (metas : List Meta) (x : ℤ) → declared_expiry metas ≡ Some x → list_any has_short_expiry metas ≡ false → list_all meta_within metas ≡ true
    → (list_any is_of_events metas ≡ true) × (is_time x ≡ true)
expiry_by [] x e s w = absurd (let n : None ≡ Some x = e in cc)
expiry_by (meta.Expires offset ∷ metas) x e s w =
    let same : offset ≡ x = cc in
    let short = or_first_false (has_short_expiry (meta.Expires offset)) (list_any has_short_expiry metas) s in
    let within = and_first (meta_within (meta.Expires offset)) (list_all meta_within metas) w in
    (refl, subst (λ z. is_time z ≡ true) same (given_time offset short within))
expiry_by (meta.Role event ∷ metas) x e s w = expiry_by metas x e s w
expiry_by (meta.Reference ∷ metas) x e s w = expiry_by metas x e s w
expiry_by (meta.Timestamp field ∷ metas) x e s w = (refl, (expiry_by metas x e s (and_second (meta_within (meta.Timestamp field)) (list_all meta_within metas) w)).1)
expiry_by (meta.Duration field ∷ metas) x e s w = (refl, (expiry_by metas x e s (and_second (meta_within (meta.Duration field)) (list_all meta_within metas) w)).1)

event_by : (a b : Bool) → (not a && b) ≡ false → b ≡ true → a ≡ true
event_by true b e h = refl
event_by false b e h = absurd (let n : true ≡ false = sym h ∙ e in cc)

expires_by : (names : List (List ℕ)) (t : TypeTree) (o : Option ℤ) → declared_expiry t.metas ≡ o → is_no_event t ≡ false → expires_at_once t ≡ false → list_all meta_within t.metas ≡ true
    → has_expiry (type_info names t) ≡ true
unfolding is_time
expires_by names t None e n s w = rw e refl
expires_by names t (Some x) e n s w =
    let r = expiry_by t.metas x e s w in
    let event : annotation.is_tree_of_events t ≡ true = event_by (annotation.is_tree_of_events t) (list_any is_of_events t.metas) n r.0 in
    rw (e, event) r.1

body_expires : (names : List (List ℕ)) (types rules : ℕ) (known : List (List ℕ)) (all : List TypeTree) (b : Body) (rest : List TypeTree) → exceeds_limit_behind types rules known b ≡ false → needs_event all b ≡ false
    → has_bad_params b ≡ false → list_all has_expiry (map (type_info names) rest) ≡ true → list_all has_expiry (map (type_info names) (type_in b ++ rest)) ≡ true
body_expires names types rules known all (body.Declare t) rest e n s h =
    let inside = not_and_right (nat_lt types 128) (type_within t) e in
    let metas : list_all meta_within t.metas ≡ true = and_second (is_name t.name && nat_le (length t.fields) 32 && list_all is_name (field_names t)) (list_all meta_within t.metas) inside in
    and_from (has_expiry (type_info names t)) (list_all has_expiry (map (type_info names) rest)) (expires_by names t (declared_expiry t.metas) refl n s metas) h
body_expires names types rules known all (body.Package p) rest e n s h = h
body_expires names types rules known all (body.Import p star) rest e n s h = h
body_expires names types rules known all (body.Dialect d) rest e n s h = h
body_expires names types rules known all (body.Entry a l) rest e n s h = h
body_expires names types rules known all (body.Rule r) rest e n s h = h

all_expire : (names : List (List ℕ)) (all before items : List Item) → AllPass all before items → list_all has_expiry (map (type_info names) (types_of items)) ≡ true
all_expire names all before [] p = refl
all_expire names all before (item ∷ items) p =
    body_expires names (length (types_of before)) (length (rules_of before)) (entry_names before) (types_of all) item.body (types_of items) (p.0 LimitPassed) (p.0 NotAnEvent) (p.0 BadParams)
    (all_expire names all (before ++ item ∷ []) items p.1)

-- ---- reference types are no event types

body_unmarked : (b : Body) (rest : List TypeTree) → has_bad_reference b ≡ false → list_any marks_event rest ≡ false → list_any marks_event (type_in b ++ rest) ≡ false
body_unmarked (body.Declare t) rest e h = neither (marks_event t) (list_any marks_event rest) e h
  where
    neither : (a b : Bool) → a ≡ false → b ≡ false → (a || b) ≡ false
    neither true b e h = e
    neither false b e h = h
body_unmarked (body.Package p) rest e h = h
body_unmarked (body.Import p star) rest e h = h
body_unmarked (body.Dialect d) rest e h = h
body_unmarked (body.Entry a l) rest e h = h
body_unmarked (body.Rule r) rest e h = h

all_unmarked : (all before items : List Item) → AllPass all before items → list_any marks_event (types_of items) ≡ false
all_unmarked all before [] p = refl
all_unmarked all before (item ∷ items) p = body_unmarked item.body (types_of items) (p.0 BadReference) (all_unmarked all (before ++ item ∷ []) items p.1)

references_by : (names : List (List ℕ)) (types : List TypeTree) (ty : ℕ) → list_any marks_event types ≡ false → is_reference_type (slice_get (map (type_info names) types) ty) ≡ true
    → is_event_type (slice_get (map (type_info names) types) ty) ≡ false
references_by names [] ty h r = refl
references_by names (t ∷ types) zero h r = no_event (annotation.is_tree_of_events t) (reference_of t.metas) (or_first_false (marks_event t) (list_any marks_event types) h) r
  where
    no_event : (a b : Bool) → (a && b) ≡ false → b ≡ true → a ≡ false
    no_event true b e r = sym r ∙ e
    no_event false b e r = refl
references_by names (t ∷ types) (suc ty) h r = references_by names types ty (or_second_false (marks_event t) (list_any marks_event types) h) r

accepted_references : (file : File) → IsAcceptedFile file → (ty : ℕ) → is_reference (program_of file) ty ≡ true → is_event (program_of file) ty ≡ false
unfolding is_event is_reference
accepted_references file a ty r = references_by (observed_names (rules_of file.items)) (types_of file.items) ty (all_unmarked file.items [] file.items a) r

-- ---- temporal tests have operators

all_operators : (types : List TypeTree) (entries : List (List ℕ)) (rules : List RuleTree) → UseOperators (map (rule_of types entries) rules)
all_operators types entries [] = tt
all_operators types entries (r ∷ rules) = (each_has_operator types entries begin r.conditions, all_operators types entries rules)

-- ---- temporal tests name what earlier conditions bind

body_named : (types : List TypeTree) (entries : List (List ℕ)) (b : Body) (rest : List Rule) → lacks_type types b ≡ false → lacks_variable types b ≡ false → is_wrong_kind types b ≡ false
    → All (λ (rule : Rule). NameEarlier rule.conditions) rest → All (λ (rule : Rule). NameEarlier rule.conditions) (map (rule_of types entries) (rule_in b) ++ rest)
body_named types entries (body.Rule r) rest u e k h =
    All-cons (λ (rule : Rule). NameEarlier rule.conditions) (rule_of types entries r) rest
    (rule_named types entries r.conditions (or_first_false (has_unknown_type types r.conditions) _ u) (or_first_false (any_condition has_unknown_variable types begin r.conditions) _ e)
    (or_first_false (any_condition (has_wrong_kind types) types begin r.conditions) _ k)) h
body_named types entries (body.Declare t) rest u e k h = h
body_named types entries (body.Package p) rest u e k h = h
body_named types entries (body.Import p s) rest u e k h = h
body_named types entries (body.Dialect d) rest u e k h = h
body_named types entries (body.Entry a l) rest u e k h = h

all_named : (entries : List (List ℕ)) (all before items : List Item) → AllPass all before items → All (λ (rule : Rule). NameEarlier rule.conditions) (map (rule_of (types_of all) entries) (rules_of items))
all_named entries all before [] p = All-nil (λ (rule : Rule). NameEarlier rule.conditions)
all_named entries all before (item ∷ items) p =
    All-same (λ (rule : Rule). NameEarlier rule.conditions) (map (rule_of (types_of all) entries) (rule_in item.body ++ rules_of items)) _ (map-append (rule_of (types_of all) entries) (rule_in item.body) (rules_of items))
    (body_named (types_of all) entries item.body (map (rule_of (types_of all) entries) (rules_of items)) (p.0 UnknownType) (p.0 UnknownVariable) (p.0 WrongKind) (all_named entries all (before ++ item ∷ []) items p.1))

-- ---- types are declared once

none_more : (a b : Bool) → not a ≡ true → b ≡ false → not (a || (b || false)) ≡ true
none_more true b e h = absurd (let n : false ≡ true = e in cc)
none_more false true e h = absurd (let n : true ≡ false = h in cc)
none_more false false e h = refl

one_name_more : (names : List (List ℕ)) (name : List ℕ) → are_distinct names ≡ true → is_among names name ≡ false → are_distinct (names ++ name ∷ []) ≡ true
unfolding are_distinct
one_name_more [] name d e = refl
one_name_more (first ∷ names) name d e =
    let other : bytes_eq first name ≡ false = same_bytes name first (or_first_false (bytes_eq name first) (is_among names name) e) in
    and_from (not (is_among (names ++ name ∷ []) first)) (are_distinct (names ++ name ∷ []))
    (ap not (list_any-append (bytes_eq first) names (name ∷ []))
    ∙ none_more (is_among names first) (bytes_eq first name) (and_first (not (is_among names first)) (are_distinct names) d) other)
    (one_name_more names name (and_second (not (is_among names first)) (are_distinct names) d) (or_second_false (bytes_eq name first) (is_among names name) e))

body_once : (types : List (List ℕ)) (entries rules : List (List ℕ)) (b : Body) → is_repeated types entries rules b ≡ false → are_distinct types ≡ true → are_distinct (types ++ type_names (type_in b)) ≡ true
body_once types entries rules (body.Declare t) e d =
    let front = or_first_false (is_among types t.name || not (are_distinct (map annotation_word t.metas))) (not (are_distinct (field_names t))) e in
    one_name_more types t.name d (or_first_false (is_among types t.name) (not (are_distinct (map annotation_word t.metas))) front)
body_once types entries rules (body.Rule r) e d = subst (λ ns. are_distinct ns ≡ true) (sym (append-nil types)) d
body_once types entries rules (body.Package p) e d = subst (λ ns. are_distinct ns ≡ true) (sym (append-nil types)) d
body_once types entries rules (body.Import p s) e d = subst (λ ns. are_distinct ns ≡ true) (sym (append-nil types)) d
body_once types entries rules (body.Dialect t) e d = subst (λ ns. are_distinct ns ≡ true) (sym (append-nil types)) d
body_once types entries rules (body.Entry a l) e d = subst (λ ns. are_distinct ns ≡ true) (sym (append-nil types)) d

declared_once : (all before items : List Item) → AllPass all before items → are_distinct (type_names (types_of before)) ≡ true → are_distinct (type_names (types_of (before ++ items))) ≡ true
declared_once all before [] p d = subst (λ (is : List Item). are_distinct (type_names (types_of is)) ≡ true) (sym (append-nil before)) d
declared_once all before (item ∷ items) p d =
    let names = type_names (types_of before) in
    let more = body_once names (declared_entries before) (rule_names (rules_of before)) item.body (p.0 TwiceDeclared) d in
    let next : type_names (types_of (before ++ item ∷ [])) ≡ names ++ type_names (type_in item.body) =
    ap type_names (types_next before item) ∙ map-append (λ (t : TypeTree). t.name) (types_of before) (type_in item.body) in
    subst (λ (is : List Item). are_distinct (type_names (types_of is)) ≡ true) (append_assoc before (item ∷ []) items)
    (declared_once all (before ++ item ∷ []) items p.1 (subst (λ ns. are_distinct ns ≡ true) (sym next) more))

none_declared : are_distinct (type_names (types_of [])) ≡ true
unfolding are_distinct
none_declared = refl

-- ---- patterns name declared types

known_by : (o : Option TypeTree) → not (is_some o) ≡ false → is_some o ≡ true
known_by None e = absurd (let n : true ≡ false = e in cc)
known_by (Some t) e = refl

known_type : (types : List TypeTree) (c : CondTree) → is_type_unknown types c ≡ false → has_type types c ≡ true
known_type types (tree.Plain s) e = known_by (type_tree_named types s.ty) e
known_type types (tree.Negated s) e = known_by (type_tree_named types s.ty) e
known_type types (tree.Existing s) e = known_by (type_tree_named types s.ty) e
known_type types (tree.Folded result s kind arg tests) e = known_by (type_tree_named types s.ty) e

known_types : (types : List TypeTree) (cs : List CondTree) → has_unknown_type types cs ≡ false → list_all (has_type types) cs ≡ true
known_types types [] e = refl
known_types types (c ∷ cs) e =
    and_from (has_type types c) (list_all (has_type types) cs) (known_type types c (or_first_false (is_type_unknown types c) (has_unknown_type types cs) e))
    (known_types types cs (or_second_false (is_type_unknown types c) (has_unknown_type types cs) e))

body_known : (types : List TypeTree) (b : Body) (rest : List RuleTree) → lacks_type types b ≡ false → list_all (has_types types) rest ≡ true → list_all (has_types types) (rule_in b ++ rest) ≡ true
body_known types (body.Rule r) rest e h =
    and_from (has_types types r) (list_all (has_types types) rest) (known_types types r.conditions (or_first_false (has_unknown_type types r.conditions) (list_any (inserts_unknown_type types) r.actions) e)) h
body_known types (body.Declare t) rest e h = h
body_known types (body.Package p) rest e h = h
body_known types (body.Import p s) rest e h = h
body_known types (body.Dialect d) rest e h = h
body_known types (body.Entry a l) rest e h = h

all_known : (all before items : List Item) → AllPass all before items → list_all (has_types (types_of all)) (rules_of items) ≡ true
all_known all before [] p = refl
all_known all before (item ∷ items) p = body_known (types_of all) item.body (rules_of items) (p.0 UnknownType) (all_known all (before ++ item ∷ []) items p.1)

-- ---- the whole program

pub accepted_runnable : (file : File) → IsAcceptedFile file → IsRunnable (program_of file)
accepted_runnable file a =
    let types = types_of file.items in
    let entries = entry_names file.items in
    let names = observed_names (rules_of file.items) in
    let few = few_types file.items [] file.items a (omega arith) in
    let ways = few_entries file.items [] file.items a one_entry in
    let rules = few_rules file.items [] file.items a (omega arith) in
    record {
      few_types = omega (arith, few, length-map types (type_info names));
      some_entry = omega (arith, some_entry (flat_map (λ (item : Item). entries_named item.body) file.items), length-map entries (entry_info file.items));
      few_entries = omega (arith, ways, length-map entries (entry_info file.items));
      lateness = all_late file.items entries (late file.items [] file.items a);
      expiry = all_expire names file.items [] file.items a;
      few_rules = omega (arith, rules, length-map (rules_of file.items) (rule_of types entries));
      conditions = all_sound types entries has_conditions (conditions_sound types entries) file.items [] file.items a;
      operators = all_operators types entries (rules_of file.items);
      named = all_named entries file.items [] file.items a;
      windows = accepted_windows file a;
      observed = observed_are_flagged file (omega (arith, few)) (declared_once file.items [] file.items a none_declared) (all_known file.items [] file.items a);
      references = accepted_references file a;
      actions = all_sound types entries has_few_actions (actions_sound types entries) file.items [] file.items a;
      typed = accepted_typed file a;
    }
