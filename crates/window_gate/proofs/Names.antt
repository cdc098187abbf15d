-- Versions by their tags: which of a list have a tag, and lists whose tags differ.
use Rattle.window_gate.proofs.Common.{◌≡◌, ◌∙◌, sym, ap, refl, ℕ, List, [], ◌∷◌, ◌++◌, filter, Bool, true, false, cond, not, ◌==◌, ◌&&◌, ◌||◌, arith, nat_cmp}
use Rattle.window_gate.proofs.Common.{eq_by_cmp, is_eq, list_any, unsigned_tied, Decides-eqb, nat_tests, list_any-append, name_cmp, name_equiv, name_exact}
use Rattle.window_gate.proofs.Common.{Named, has_tag, has_version, TagsDiffer, is_eq-then, or_first_false, or_second_false}
use Rattle.std.proofs.lemmas.Map.Views.{tells_apart}

-- whether two versions are the same
abbrev pub same_name : Named → Named → Bool
same_name a b = eq_by_cmp name_cmp a b

-- versions are the same where tags and ids are
pub same_name-parts : (a b : Named) → same_name a b ≡ ((a.tag.0 == b.tag.0) && (a.id.0 == b.id.0))
same_name-parts a b =
    is_eq-then (nat_cmp a.tag.0 b.tag.0) (nat_cmp a.id.0 b.id.0)
    ∙ ap (λ t. t && is_eq (nat_cmp a.id.0 b.id.0)) (unsigned_tied a.tag.0 b.tag.0)
    ∙ ap (λ t. (a.tag.0 == b.tag.0) && t) (unsigned_tied a.id.0 b.id.0)

-- the same version is the same
pub same_itself : (a : Named) → same_name a a ≡ true
same_itself a = name_equiv.refl a

-- versions that are the same are equal
pub equal_names : (a b : Named) → same_name a b ≡ true → a ≡ b
equal_names a b e = tells_apart name_exact a b e

-- a version that is there has its tag
pub tag_there : (names : List Named) (named : Named) → has_version names named ≡ true → list_any (has_tag named.tag.0) names ≡ true
tag_there [] named e = e
tag_there (x ∷ names) named e =
    elim (same_name named x) as (λ b. same_name named x ≡ b → (b || has_version names named) ≡ true → list_any (has_tag named.tag.0) (x ∷ names) ≡ true) [
      | true ↦ λ is h. ap (λ (y : Named). (named.tag.0 == y.tag.0) || list_any (has_tag named.tag.0) names) (sym (equal_names named x is)) ∙ ap (λ b. b || list_any (has_tag named.tag.0) names) ((Decides-eqb named.tag.0 named.tag.0).1 refl)
      | false ↦ λ is h. ap (λ b. has_tag named.tag.0 x || b) (tag_there names named h) ∙ or_true (has_tag named.tag.0 x)
    ] refl e
  where
    or_true : (a : Bool) → (a || true) ≡ true
    or_true true = refl
    or_true false = refl

-- a version whose tag is not there is not there
pub none_with_tag : (names : List Named) (named : Named) → list_any (has_tag named.tag.0) names ≡ false → has_version names named ≡ false
none_with_tag names named e =
    elim (has_version names named) as (λ b. has_version names named ≡ b → b ≡ false) [
      | true ↦ λ h. let f : true ≡ false = sym (tag_there names named h) ∙ e in cc
      | false ↦ λ h. refl
    ] refl

-- a tag is that of equal numbers
pub has_tag-same : (a b : ℕ) (names : List Named) → (a == b) ≡ true → list_any (has_tag a) names ≡ list_any (has_tag b) names
has_tag-same a b names e = ap (λ t. list_any (has_tag t) names) ((Decides-eqb a b).0 e)

-- ---- lists whose tags differ

pub absent_left : (tag : ℕ) (xs ys : List Named) → list_any (has_tag tag) (xs ++ ys) ≡ false → list_any (has_tag tag) xs ≡ false
absent_left tag xs ys e = or_first_false (list_any (has_tag tag) xs) (list_any (has_tag tag) ys) (sym (list_any-append (has_tag tag) xs ys) ∙ e)

pub absent_right : (tag : ℕ) (xs ys : List Named) → list_any (has_tag tag) (xs ++ ys) ≡ false → list_any (has_tag tag) ys ≡ false
absent_right tag xs ys e = or_second_false (list_any (has_tag tag) xs) (list_any (has_tag tag) ys) (sym (list_any-append (has_tag tag) xs ys) ∙ e)

-- the parts of such a list
pub differ_left : (xs ys : List Named) → TagsDiffer (xs ++ ys) → TagsDiffer xs
differ_left [] ys d = tt
differ_left (x ∷ xs) ys d = (absent_left x.tag.0 xs ys d.0, differ_left xs ys d.1)

pub differ_right : (xs ys : List Named) → TagsDiffer (xs ++ ys) → TagsDiffer ys
differ_right [] ys d = d
differ_right (x ∷ xs) ys d = differ_right xs ys d.1

-- a tag of the one part is not in the other
pub apart : (xs ys : List Named) (tag : ℕ) → TagsDiffer (xs ++ ys) → list_any (has_tag tag) xs ≡ true → list_any (has_tag tag) ys ≡ false
apart [] ys tag d e = let f : false ≡ true = e in cc
apart (x ∷ xs) ys tag d e =
    elim (tag == x.tag.0) as (λ b. (tag == x.tag.0) ≡ b → (b || list_any (has_tag tag) xs) ≡ true → list_any (has_tag tag) ys ≡ false) [
      | true ↦ λ is h. has_tag-same tag x.tag.0 ys is ∙ absent_right x.tag.0 xs ys d.0
      | false ↦ λ is h. apart xs ys tag d.1 h
    ] refl e

-- a version of the one part is not in the other
pub names_apart : (xs ys : List Named) (named : Named) → TagsDiffer (xs ++ ys) → has_version xs named ≡ true → has_version ys named ≡ false
names_apart xs ys named d e = none_with_tag ys named (apart xs ys named.tag.0 d (tag_there xs named e))

-- one version more, with a new tag
pub differ_push : (xs : List Named) (y : Named) → TagsDiffer xs → list_any (has_tag y.tag.0) xs ≡ false → TagsDiffer (xs ++ y ∷ [])
differ_push [] y d e = (refl, tt)
differ_push (x ∷ xs) y d e = (
  list_any-append (has_tag x.tag.0) xs (y ∷ []) ∙ ap (λ b. b || ((x.tag.0 == y.tag.0) || false)) d.0 ∙ ap (λ b. b || false) (turned x.tag.0 y.tag.0 ∙ or_first_false (y.tag.0 == x.tag.0) (list_any (has_tag y.tag.0) xs) e),
  differ_push xs y d.1 (or_second_false (y.tag.0 == x.tag.0) (list_any (has_tag y.tag.0) xs) e),
)
  where
    turned : (a b : ℕ) → (a == b) ≡ (b == a)
    turned a b = grind (arith, nat_tests)

-- the versions of other tags
abbrev pub without : ℕ → List Named → List Named
without tag names = filter (λ named. not (has_tag tag named)) names

-- which tags they have
pub tags-without : (tag q : ℕ) (names : List Named) → list_any (has_tag q) names ≡ false → list_any (has_tag q) (without tag names) ≡ false
tags-without tag q [] e = refl
tags-without tag q (x ∷ names) e =
    elim (has_tag tag x) as (λ b. list_any (has_tag q) (cond (not b) (x ∷ without tag names) (without tag names)) ≡ false) [
      | true ↦ tags-without tag q names (or_second_false (q == x.tag.0) (list_any (has_tag q) names) e)
      | false ↦ ap (λ b. b || list_any (has_tag q) (without tag names)) (or_first_false (q == x.tag.0) (list_any (has_tag q) names) e) ∙ tags-without tag q names (or_second_false (q == x.tag.0) (list_any (has_tag q) names) e)
    ]

pub differ_without : (tag : ℕ) (names : List Named) → TagsDiffer names → TagsDiffer (without tag names)
differ_without tag [] d = tt
differ_without tag (x ∷ names) d =
    elim (has_tag tag x) as (λ b. TagsDiffer (cond (not b) (x ∷ without tag names) (without tag names))) [
      | true ↦ differ_without tag names d.1
      | false ↦ (tags-without tag x.tag.0 names d.0, differ_without tag names d.1)
    ]

-- which versions are left
pub names-without : (tag : ℕ) (names : List Named) (named : Named) → has_version (without tag names) named ≡ (has_version names named && not (tag == named.tag.0))
names-without tag [] named = refl
names-without tag (x ∷ names) named =
    elim (has_tag tag x) as (λ b. has_tag tag x ≡ b → has_version (cond (not b) (x ∷ without tag names) (without tag names)) named ≡ ((same_name named x || has_version names named) && not (tag == named.tag.0))) [
      | true ↦ λ is. names-without tag names named ∙ dropped (same_name named x) (has_version names named) (tag == named.tag.0) (λ e. ap (λ (y : Named). tag == y.tag.0) (equal_names named x e) ∙ is)
      | false ↦ λ is. ap (λ b. same_name named x || b) (names-without tag names named) ∙ kept (same_name named x) (has_version names named) (tag == named.tag.0) (λ e. ap (λ (y : Named). tag == y.tag.0) (equal_names named x e) ∙ is)
    ] refl
  where
    dropped : (s h t : Bool) → (s ≡ true → t ≡ true) → (h && not t) ≡ ((s || h) && not t)
    dropped false h t e = refl
    dropped true h true e = and_false h
      where
        and_false : (a : Bool) → (a && false) ≡ false
        and_false true = refl
        and_false false = refl
    dropped true h false e = let f : false ≡ true = e refl in cc

    kept : (s h t : Bool) → (s ≡ true → t ≡ false) → (s || (h && not t)) ≡ ((s || h) && not t)
    kept false h t e = refl
    kept true h false e = refl
    kept true h true e = let f : true ≡ false = e refl in cc

-- of versions whose tags differ, those with the tag of one that is there are that one
pub only_one : (names : List Named) (one named : Named) → TagsDiffer names → has_version names one ≡ true → (has_version names named && (one.tag.0 == named.tag.0)) ≡ same_name named one
only_one [] one named d e = let f : false ≡ true = e in cc
only_one (x ∷ names) one named d e =
    elim (same_name one x) as (λ b. same_name one x ≡ b → (b || has_version names one) ≡ true → ((same_name named x || has_version names named) && (one.tag.0 == named.tag.0)) ≡ same_name named one) [
      | true ↦ λ is h.
          let same : one ≡ x = equal_names one x is in
          here named one x (same_name named x) (has_version names named) (one.tag.0 == named.tag.0) (same_name named one) (ap (λ (y : Named). same_name named y) (sym same))
          (λ t. none_with_tag names named (has_tag-same named.tag.0 x.tag.0 names ((Decides-eqb named.tag.0 x.tag.0).1 (sym ((Decides-eqb one.tag.0 named.tag.0).0 t) ∙ ap (λ (y : Named). y.tag.0) same)) ∙ d.0))
          (λ s. ap (λ (y : Named). one.tag.0 == y.tag.0) (equal_names named one s) ∙ (Decides-eqb one.tag.0 one.tag.0).1 refl)
      | false ↦ λ is h.
          later (same_name named x) (has_version names named) (one.tag.0 == named.tag.0) (same_name named one) (only_one names one named d.1 h)
          (λ s t. clash names x one named s t d.0 h)
    ] refl e
  where
    here : (named one x : Named) (s h t n : Bool) → s ≡ n → (t ≡ true → h ≡ false) → (n ≡ true → t ≡ true) → ((s || h) && t) ≡ n
    here named one x true h true true e f g = refl
    here named one x true h false true e f g = g refl
    here named one x false true true false e f g = f refl
    here named one x false false true false e f g = refl
    here named one x false true false false e f g = refl
    here named one x false false false false e f g = refl
    here named one x true h t false e f g = let k : true ≡ false = e in cc
    here named one x false h t true e f g = let k : false ≡ true = e in cc

    later : (s h t n : Bool) → (h && t) ≡ n → (s ≡ true → t ≡ true → ⊥) → ((s || h) && t) ≡ n
    later false h t n e f = e
    later true h false n e f = and_no h ∙ e
      where
        and_no : (a : Bool) → false ≡ (a && false)
        and_no true = refl
        and_no false = refl
    later true h true n e f = absurd (f refl refl)

    clash : (names : List Named) (x one named : Named) → same_name named x ≡ true → (one.tag.0 == named.tag.0) ≡ true → list_any (has_tag x.tag.0) names ≡ false → has_version names one ≡ true → ⊥
    clash names x one named s t absent there =
        let tag : one.tag.0 ≡ x.tag.0 = (Decides-eqb one.tag.0 named.tag.0).0 t ∙ ap (λ (y : Named). y.tag.0) (equal_names named x s) in
        let f : true ≡ false = sym (tag_there names one there) ∙ ap (λ q. list_any (has_tag q) names) tag ∙ absent in cc
