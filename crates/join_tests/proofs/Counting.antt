-- How equalities are counted, and fed to a hash, one after another.
use Rattle.join_tests.proofs.Common.{◌≡◌, ◌≢◌, ◌∙◌, sym, ap, refl, ℕ, ◌+◌, ◌<◌, ◌⊎◌, inl, inr, List, [], ◌∷◌, ◌++◌, map, length, get_or, drop, Option}
use Rattle.join_tests.proofs.Common.{option_map, cast_signed, FoldHasher, Value, Int, Fact, Named, Compare, Test, field_of, JoinKey, Nothing, Look}
use Rattle.join_tests.proofs.Common.{keys_of_choices, keys_of_tests, given_or_true, candidate_part, fed_with, as_one, with_slot, and_more, part, One, Several}
use Rattle.{join_tests.proofs.Common.{and_one}, std.{specs.{Borrow.{Bor}, Int.{w64}}, proofs.lemmas.List.{at_drop_more}}}
use Rattle.std.specs.Hash.FoldHasher as hasher
use Rattle.join_tests.specs.{declared.{key.Keying.{Keying}, part.Partner.TheVariants.{OfCandidate}}, Keys.{number_for}}

pub and_both : (keying : Keying) (keys more : List JoinKey) → and_more keying (keys ++ more) ≡ and_more (and_more keying keys) more
and_both keying [] more = refl
and_both keying (key ∷ keys) more = and_both (and_one keying key) keys more

several_stay : (keys : List JoinKey) → and_more Several keys ≡ Several
several_stay [] = refl
several_stay (key ∷ keys) = several_stay keys

-- what the count says
pub are_none : (keys : List JoinKey) → Nothing ≡ and_more Nothing keys → keys ≡ []
are_none [] e = refl
are_none (key ∷ []) e = cc
are_none (key ∷ (other ∷ keys)) e = let f : Nothing ≡ Several = e ∙ several_stay keys in cc

pub are_one : (keys : List JoinKey) (key : JoinKey) → One key ≡ and_more Nothing keys → keys ≡ key ∷ []
are_one [] key e = cc
are_one (first ∷ []) key e = let f : key ≡ first = cc in ap (λ k. k ∷ []) (sym f)
are_one (first ∷ (other ∷ keys)) key e = let f : One key ≡ Several = e ∙ several_stay keys in cc

pub are_several : (f : JoinKey → Value) (keys : List JoinKey) → Several ≡ and_more Nothing keys → as_one (map f keys) ≡ Int (number_for (map f keys))
are_several f [] e = cc
are_several f (first ∷ []) e = cc
are_several f (first ∷ (other ∷ keys)) e = refl

pub fed_both : (f : JoinKey → Value) (state : FoldHasher) (keys more : List JoinKey) → fed_with state (map f (keys ++ more)) ≡ fed_with (fed_with state (map f keys)) (map f more)
fed_both f state [] more = refl
fed_both f state (key ∷ keys) more = fed_both f (fed_with state (map f (key ∷ []))) keys more

-- a walk over tests that goes on with the equalities of each: what it makes of those so far and of those to come is what it makes of all
pub next_test : {S : Type 0} (with : S → List JoinKey → S) (both : (state : S) (keys more : List JoinKey) → with state (keys ++ more) ≡ with (with state keys) more)
    → (tests : List Test) (i : ℕ) (test : Test) (choices : List (List Compare)) (state next all : S) → i < length tests → test ≡ get_or tests i test → choices ≡ test.choices
    → next ≡ with state (keys_of_choices choices) → with state (keys_of_tests (drop i tests)) ≡ all → with next (keys_of_tests (drop (i + 1) tests)) ≡ all
next_test with both tests i test choices state next all lt is of added so =
    ap (λ s. with s (keys_of_tests (drop (i + 1) tests))) (added ∙ ap (λ cs. with state (keys_of_choices cs)) of)
    ∙ sym (both state (keys_of_choices test.choices) (keys_of_tests (drop (i + 1) tests)))
    ∙ ap (λ (t : Test). with state (keys_of_tests (t ∷ drop (i + 1) tests))) is
    ∙ sym (at_drop_more (λ rest. with state (keys_of_tests rest)) tests i test lt)
    ∙ so

-- what a candidate that is looked up has of equalities
pub of_candidate : (look : Look) (who : Named) (fact : Option (Bor Fact)) (keys : List JoinKey) → option_map (λ f. f.now) fact ≡ look who.tag
    → map (part look (OfCandidate fact)) keys ≡ map (candidate_part look who) keys
of_candidate look who fact keys is = ap (λ found. map (λ (key : JoinKey). given_or_true (field_of found key.field)) keys) is

fed_more : (state : FoldHasher) (values more : List Value) → fed_with state (values ++ more) ≡ fed_with (fed_with state values) more
fed_more state [] more = refl
fed_more state (v ∷ values) more = fed_more (fed_with state (v ∷ [])) values more

-- values with a slot behind them are several
slot_behind : (v : Value) (values : List Value) (slot : Value) → Int (number_for ((v ∷ values) ++ slot ∷ [])) ≡ with_slot (v ∷ values) slot
slot_behind v [] slot = refl
slot_behind v (other ∷ values) slot = refl

pub number_behind : (v : Value) (values : List Value) (slot : Value)
    → Int (cast_signed w64 (hasher.finish (fed_with (fed_with hasher.initial (v ∷ values)) (slot ∷ [])))) ≡ with_slot (v ∷ values) slot
unfolding number_for
number_behind v values slot =
    ap (λ state. Int (cast_signed w64 (hasher.finish state))) (sym (fed_more hasher.initial (v ∷ values) (slot ∷ []))) ∙ slot_behind v values slot

-- so is the number for the equalities, fed with the slot
pub with_keys : (f : JoinKey → Value) (keys : List JoinKey) (slot : Value) → Nothing ≢ and_more Nothing keys
    → Int (cast_signed w64 (hasher.finish (fed_with (fed_with hasher.initial (map f keys)) (slot ∷ [])))) ≡ with_slot (map f keys) slot
with_keys f [] slot some = absurd (some refl)
with_keys f (key ∷ keys) slot some = number_behind (f key) (map f keys) slot

-- one equality, or several, are not none
pub not_none : (keying : Keying) (keys : List JoinKey) → ((key : JoinKey) × (keying ≡ One key)) ⊎ (keying ≡ Several) → keying ≡ and_more Nothing keys → Nothing ≢ and_more Nothing keys
not_none keying keys (inl one) is none = let f : Nothing ≡ One one.0 = none ∙ sym is ∙ one.1 in cc
not_none keying keys (inr several) is none = let f : Nothing ≡ Several = none ∙ sym is ∙ several in cc

pub number_fed : (state : FoldHasher) (f : JoinKey → Value) (keys : List JoinKey) (slot : Value) → state ≡ fed_with hasher.initial (map f keys) → Nothing ≢ and_more Nothing keys
    → Int (cast_signed w64 (hasher.finish (fed_with state (slot ∷ [])))) ≡ with_slot (map f keys) slot
number_fed state f keys slot is some = ap (λ fed. Int (cast_signed w64 (hasher.finish (fed_with fed (slot ∷ []))))) is ∙ with_keys f keys slot some
