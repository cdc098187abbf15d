-- Each field of a type of an accepted file stands once, so that an insert takes a value for each.
use Rattle.drl_check.proofs.Common.{◌≡◌, ◌++◌, ◌∷◌, ◌||◌, ℕ, zero, suc, Bool, true, false, not, List, [], map, slice_get, Some, refl, sym, ap, subst, ◌∙◌}
use Rattle.drl_check.proofs.Common.{list_all, filter, bytes_eq, Body, Item, TypeTree, types_of, rules_of, type_in, type_names, rule_names, field_names}
use Rattle.drl_check.proofs.Common.{declared_entries, is_among, word_kind, taken_by, TwiceDeclared, AllPass, annotation_word, is_repeated}
use Rattle.std.{proofs.lemmas.Bool.{and_from, not-false, not-true}, specs.Cmp.Lexicographic.{bytes_decides}}
use Rattle.drl_grammar.specs.declared.file.Body.TheVariants as body
use Rattle.{drl_scope.specs.Names.{are_distinct}, drl_typing.specs.Kinds.{fields_once}, fx_base.proofs.Tests.{and_first, and_second, or_first_false}}
use Rattle.fx_base.proofs.Tests.{or_second_false}

-- ---- names

pub same_bytes : (a b : List ℕ) → bytes_eq a b ≡ false → bytes_eq b a ≡ false
same_bytes a b e = by (bytes_eq b a) refl
  where
    by : (t : Bool) → bytes_eq b a ≡ t → bytes_eq b a ≡ false
    by true h = absurd (let n : true ≡ false = sym ((bytes_decides a b).1 (sym ((bytes_decides b a).0 h))) ∙ e in cc)
    by false h = h

-- ---- fields that stand once

-- where no field has the name, the fields of other names are all
others_kept : (name : List ℕ) (fields : List (List ℕ × List ℕ)) → is_among (map (λ (field : List ℕ × List ℕ). field.0) fields) name ≡ false
    → filter (λ (other : List ℕ × List ℕ). not (bytes_eq other.0 name)) fields ≡ fields
others_kept name [] e = refl
others_kept name (field ∷ fields) e =
    let names = map (λ (field : List ℕ × List ℕ). field.0) fields in
    let other = same_bytes name field.0 (or_first_false (bytes_eq name field.0) (is_among names name) e) in
    rw other (ap (λ (rest : List (List ℕ × List ℕ)). field ∷ rest) (others_kept name fields (or_second_false (bytes_eq name field.0) (is_among names name) e)))

once_apart : (fields : List (List ℕ × List ℕ)) → are_distinct (map (λ (field : List ℕ × List ℕ). field.0) fields) ≡ true → fields_once fields ≡ fields
unfolding are_distinct fields_once
once_apart [] d = refl
once_apart (field ∷ fields) d =
    let names = map (λ (field : List ℕ × List ℕ). field.0) fields in
    let others = λ (other : List ℕ × List ℕ). not (bytes_eq other.0 field.0) in
    let again = is_among names field.0 in
    ap (λ (rest : List (List ℕ × List ℕ)). field ∷ rest)
    (ap (filter others) (once_apart fields (and_second (not again) (are_distinct names) d)) ∙ others_kept field.0 fields (not-true again (and_first (not again) (are_distinct names) d)))

-- an insert takes a value for each field
pub kinds_taken : (t : TypeTree) → are_distinct (field_names t) ≡ true → taken_by t ≡ map word_kind t.fields
kinds_taken t d = ap (map word_kind) (once_apart t.fields d)

-- ---- the types of an accepted file

abbrev pub HaveFieldsApart : List TypeTree → Type 0
HaveFieldsApart types = (ty : ℕ) (t : TypeTree) → slice_get types ty ≡ Some t → are_distinct (field_names t) ≡ true

abbrev has_fields_apart : TypeTree → Bool
has_fields_apart t = are_distinct (field_names t)

body_apart : (types entries rules : List (List ℕ)) (b : Body) (rest : List TypeTree) → is_repeated types entries rules b ≡ false → list_all has_fields_apart rest ≡ true
    → list_all has_fields_apart (type_in b ++ rest) ≡ true
body_apart types entries rules (body.Declare t) rest e h =
    let front = is_among types t.name || not (are_distinct (map annotation_word t.metas)) in
    and_from (has_fields_apart t) (list_all has_fields_apart rest) (not-false (has_fields_apart t) (or_second_false front (not (has_fields_apart t)) e)) h
body_apart types entries rules (body.Rule r) rest e h = h
body_apart types entries rules (body.Package p) rest e h = h
body_apart types entries rules (body.Import p s) rest e h = h
body_apart types entries rules (body.Dialect d) rest e h = h
body_apart types entries rules (body.Entry n l) rest e h = h

pub types_apart : (all before items : List Item) → AllPass all before items → list_all has_fields_apart (types_of items) ≡ true
types_apart all before [] p = refl
types_apart all before (item ∷ items) p =
    body_apart (type_names (types_of before)) (declared_entries before) (rule_names (rules_of before)) item.body (types_of items) (p.0 TwiceDeclared) (types_apart all (before ++ item ∷ []) items p.1)

pub apart_at : (types : List TypeTree) → list_all has_fields_apart types ≡ true → HaveFieldsApart types
apart_at [] h ty t e = absurd cc
apart_at (x ∷ types) h zero t e =
    let same : x ≡ t = cc in
    subst (λ (t : TypeTree). are_distinct (field_names t) ≡ true) same (and_first (has_fields_apart x) (list_all has_fields_apart types) h)
apart_at (x ∷ types) h (suc ty) t e = apart_at types (and_second (has_fields_apart x) (list_all has_fields_apart types) h) ty t e
