-- What members give for fields, one after another.
use Rattle.script_read.proofs.Common.{◌≡◌, ℕ, ◌+◌, ◌<◌, List, [], ◌∷◌, length, drop, get_or, Option, Some, None, Ordering, Less, Equal, Greater, nat_cmp, Bor}
use Rattle.script_read.proofs.Common.{Global, refl, sym, ap, ◌∙◌, option_map, slice_cmp, value_view, members_view, Data, Members, put, of_json, of_members}
use Rattle.{script_read.proofs.Common.{put_given, tree_given, givens, given_of, Given, match_ordering}, serde_json.specs.Data.{no_members, member}}
use Rattle.{json.specs.declared.value.Value.{Value as Tree}, fx_base.proofs.Sequences.{drop_at}}

abbrev pub Field : Type 0
Field = List ℕ × Given

-- ---- the fields of the members

givens-match_ordering : (o : Ordering) (a b c : Members) → givens (match_ordering o a b c) ≡ match_ordering o (givens a) (givens b) (givens c)
givens-match_ordering Less a b c = refl
givens-match_ordering Equal a b c = refl
givens-match_ordering Greater a b c = refl

pub givens-put : (name : List ℕ) (d : Data) (ms : Members) → givens (put name d ms) ≡ put_given name (given_of d) (givens ms)
givens-put name d no_members = refl
givens-put name d (member l e ms) = givens-match_ordering (slice_cmp nat_cmp name l) _ _ _ ∙ rw (givens-put name d ms) refl

-- the value of a tree that gives something
value_given : (o : Option Data) (g : Given) → option_map given_of o ≡ Some g → (d : Data) × (o ≡ Some d) × (given_of d ≡ g)
value_given None g e = absurd (cc)
value_given (Some d) g e = (d, refl, cc)

-- fields that stand for the members so far, with those that are left
abbrev pub AreSoFar : List (Bor (List ℕ) × Tree Global) → ℕ → List Field → Type 0
AreSoFar all k fields = (found : Members) × (givens found ≡ fields) × (of_members (members_view (drop k all)) found ≡ of_members (members_view all) no_members)

-- with the value of the member that comes next
with_value : (all : List (Bor (List ℕ) × Tree Global)) (k : ℕ) (m : Bor (List ℕ) × Tree Global) (given : Given) (d : Data) (before after : List Field)
    → k < length all → m ≡ get_or all k m → of_json (value_view m.1) ≡ Some d → given_of d ≡ given → after ≡ put_given m.0.now given before
    → AreSoFar all k before → AreSoFar all (k + 1) after
with_value all k m given d before after lt at read says put_in so_far =
    let found = so_far.0 in
    let next : of_members (members_view (m ∷ drop (k + 1) all)) found ≡ of_members (members_view (drop (k + 1) all)) (put m.0.now d found) = rw read refl in (
      put m.0.now d found,
      givens-put m.0.now d found ∙ ap (λ g. put_given m.0.now g (givens found)) says ∙ ap (put_given m.0.now given) so_far.1 ∙ sym put_in,
      sym next ∙ sym (ap (λ ms. of_members (members_view ms) found) (drop_at all k m lt at)) ∙ so_far.2,
    )

pub one_field : (all : List (Bor (List ℕ) × Tree Global)) (k : ℕ) (m : Bor (List ℕ) × Tree Global) (given : Given) (before after : List Field)
    → k < length all → m ≡ get_or all k m → tree_given (value_view m.1) ≡ Some given → after ≡ put_given m.0.now given before
    → AreSoFar all k before → AreSoFar all (k + 1) after
one_field all k m given before after lt at says put_in so_far =
    let v = value_given (of_json (value_view m.1)) given says in with_value all k m given v.0 before after lt at v.1 v.2 put_in so_far
