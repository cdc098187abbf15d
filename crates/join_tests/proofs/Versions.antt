-- Versions that are at hand are the facts of a tuple that the row names.
use Rattle.join_tests.proofs.Common.{◌≡◌, ◌∙◌, sym, ap, refl, subst, List, [], ◌∷◌, map, Bool, true, false, cond, ◌&&◌, Option, Some, None, option_map, is_some}
use Rattle.join_tests.proofs.Common.{Fact, Named, Row, Pattern, tuple_of, Look, version_at, versions_at, passes_given, option_and_then, Holds, Tuple, name_of}
use Rattle.{join_tests.{proofs.Common.{row_of, is_named_version, tuple_at}, specs.Joins.{joins}}, std.proofs.Math.Bool.{and-false, and-true}}
use Rattle.{row_delta.specs.NameOrder.{name_cmp, name_exact}, rule_model.specs.Candidates.{passes}, fx_base.proofs.Orders.{is_eq-true}}

same_name : (named : Named) (f : Fact) → is_named_version named f ≡ true → name_of f ≡ named
same_name named f e = name_exact (name_of f) named (is_eq-true (name_cmp (name_of f) named) e)

only_if : (named : Named) (f g : Fact) (b : Bool) → is_named_version named g ≡ b → cond b (Some g) None ≡ Some f → (g ≡ f) × (name_of f ≡ named)
only_if named f g true is e =
    let same : g ≡ f = cc in
    (same, ap name_of (sym same) ∙ same_name named g is)
only_if named f g false is e = cc

found : (named : Named) (f : Fact) (o : Option Fact) → option_and_then (λ (f : Fact). cond (is_named_version named f) (Some f) None) o ≡ Some f → (o ≡ Some f) × (name_of f ≡ named)
found named f None e = cc
found named f (Some g) e =
    let is = only_if named f g (is_named_version named g) refl e in
    (ap (λ g. Some g) is.0, is.1)

-- the version at hand is the fact at its tag
pub version_is : (look : Look) (named : Named) (f : Fact) → version_at look named ≡ Some f → (look named.tag ≡ Some f) × (name_of f ≡ named)
version_is look named f e = found named f (look named.tag) e

abbrev AreVersions : Look → List Named → List Fact → Type 0
AreVersions look names facts = (map name_of facts ≡ names) × Holds look facts

one_more : (look : Look) (named : Named) (names : List Named) (o : Option Fact) → version_at look named ≡ o → (rest : Option (List Fact)) → ((facts : List Fact) → rest ≡ Some facts → AreVersions look names facts)
    → (facts : List Fact) → option_and_then (λ (f : Fact). option_map (λ facts. f ∷ facts) rest) o ≡ Some facts → AreVersions look (named ∷ names) facts
one_more look named names None is rest h facts e = cc
one_more look named names (Some f) is None h facts e = cc
one_more look named names (Some f) is (Some fs) h facts e =
    let all : f ∷ fs ≡ facts = cc in
    let one = version_is look named f is in
    let more = h fs refl in
    subst (AreVersions look (named ∷ names)) all (
      ap (λ name. name ∷ map name_of fs) one.1 ∙ ap (λ names. named ∷ names) more.0,
      (ap (λ (name : Named). look name.tag) one.1 ∙ one.0, more.1),
    )

-- versions that are named are facts with these names, at their tags
pub versions_are : (look : Look) (names : List Named) (facts : List Fact) → versions_at look names ≡ Some facts → AreVersions look names facts
versions_are look [] facts e =
    let none : [] ≡ facts = cc in
    subst (AreVersions look []) none (refl, tt)
versions_are look (named ∷ names) facts e =
    one_more look named names (version_at look named) refl (versions_at look names) (versions_are look names) facts e

abbrev row_with : List Named → Row → Row
row_with facts row = record { facts = facts; values = row.values }

-- and are what the row has bound
pub row_is : (look : Look) (row : Row) (facts : List Fact) → versions_at look row.facts ≡ Some facts → row_of (tuple_of facts row.values) ≡ row
row_is look row facts e = ap (λ names. row_with names row) (versions_are look row.facts facts e).0

-- what code finds: the tests hold for the row, and all that it names is at hand
pub joins_where : (p : Pattern) (look : Look) (row : Row) (f : Fact) (passed : Bool)
    → ((tuple : Tuple) → row_of tuple ≡ row → Holds look tuple.facts → passed ≡ passes p tuple f)
    → (all : Option (List Fact)) → versions_at look row.facts ≡ all → (passed && is_some all) ≡ passes_given p (option_map (λ facts. tuple_of facts row.values) all) (Some f)
joins_where p look row f passed h None is = and-false passed
joins_where p look row f passed h (Some facts) is =
    and-true passed ∙ h (tuple_of facts row.values) (row_is look row facts is) (versions_are look row.facts facts is).1

none_passes : (p : Pattern) (o : Option Tuple) → passes_given p o None ≡ false
none_passes p None = refl
none_passes p (Some tuple) = refl

pub joins_of : (p : Pattern) (look : Look) (row : Row) (who : Named) (f : Fact) → version_at look who ≡ Some f → (passed : Bool)
    → ((tuple : Tuple) → row_of tuple ≡ row → Holds look tuple.facts → passed ≡ passes p tuple f)
    → (passed && is_some (versions_at look row.facts)) ≡ joins p look row who
unfolding joins
joins_of p look row who f is passed h =
    joins_where p look row f passed h (versions_at look row.facts) refl ∙ ap (passes_given p (tuple_at look row)) (sym is)

pub joins_none : (p : Pattern) (look : Look) (row : Row) (who : Named) → version_at look who ≡ None → joins p look row who ≡ false
unfolding joins
joins_none p look row who is = ap (passes_given p (tuple_at look row)) is ∙ none_passes p (tuple_at look row)
