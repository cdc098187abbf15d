-- What a network answers as it is loaded, and which extras have their rows.
use Rattle.rete_net.proofs.Common.{◌≡◌, ◌∙◌, sym, ap, refl, subst, inl, inr, ℕ, zero, suc, ◌<◌, ◌==◌, ◌&&◌, ◌^◌, zero-add, arith, cond, Bool, true, false, List}
use Rattle.rete_net.proofs.Common.{[], ◌∷◌, ◌++◌, length, length-append, take, Option, Some, None, slice_get, slice_index_or, IsStrictlySortedBy, nat_cmp}
use Rattle.rete_net.proofs.Common.{get_or-append_seam, nat_tests, get_or_append_left, take_all, slice_get_within, In, Fact, Delta, Extra, Row, has, are_none}
use Rattle.rete_net.proofs.Common.{changes_nothing, Condition, Moment, Program, Rule, Snapshot, Look, IsFirstWith, Answered, Owner, RuleChange, NetNode}
use Rattle.rete_net.proofs.Common.{answer_in, AreRuled, coming, AreLadenRows, IsLoadable, IsThere, AreLoaded, IsStuck, change_of, IsOwned, IsNetOf, IsFresh}
use Rattle.rete_net.{proofs.Common.{changes_from, delta_at, empty_row_comes, no_change, taking}, specs.Owners.{AreNodeOwners as HaveOwners}}
use Rattle.rete_net.proofs.{Answering.{found_change, few_ends, in_order as changes_in_order, past_change}, Counted.{fronts_within}, Loaded.{answered, come_to}}
use Rattle.{rete_net.proofs.Loaded.{in_order, none_gone, one_first, owner_place, parts}, candidate_source.specs.declared.source.Source.{Source}}
use Rattle.{std.{proofs.lemmas.Bool.{and_parts}, specs.Prelude.{map}}, laden_rows.specs.Laden.{AreOwners}, fx_base.proofs.Orders.{below_or_last}}
use Rattle.fx_base.proofs.Sequences.{get-below, one_value}

-- ---- answers in a list

abbrev told : (ℕ → Delta) → ℕ → List Delta
told f zero = []
told f (suc n) = told f n ++ f n ∷ []

many_told : (f : ℕ → Delta) (n : ℕ) → length (told f n) ≡ n
many_told f zero = refl
many_told f (suc n) = let rest = many_told f n in simp length-append (omega (arith, rest))

told_at : (f : ℕ → Delta) (d : Delta) (n k : ℕ) → k < n → slice_index_or (told f n) k d ≡ f k
told_at f d zero k lt = absurd (omega (arith, lt))
told_at f d (suc n) k lt = elim (below_or_last k n (omega (arith, lt))) [
  | inl less ↦ (let many = many_told f n in get_or_append_left (told f n) (f n ∷ []) d k (omega (arith, many, less)) ∙ told_at f d n k less)
  | inr same ↦ ap (λ i. slice_index_or (told f n ++ f n ∷ []) i d) (same ∙ sym (many_told f n)) ∙ get_or-append_seam (told f n) (f n) [] d ∙ ap f (sym same)
]

-- ---- changes

come_is : (d : Delta) (row : Row) → has (coming (cond (changes_nothing d) None (Some d))) row ≡ has d.come row
come_is d row = by d.gone d.come
  where
    by : (gone come : List Row) → has (coming (cond (are_none gone come) None (Some (record { gone = gone; come = come })))) row ≡ has come row
    by [] [] = refl
    by [] (r ∷ come) = refl
    by (r ∷ gone) come = refl

some_is : (d e : Delta) (b : Bool) → cond b None (Some d) ≡ Some e → d ≡ e
some_is d e true is = absurd (let torn : None ≡ Some e = is in cc)
some_is d e false is = let same : d ≡ e = cc in same

module _ (p : Program) (look : Look) (t : Snapshot) (kept : List Fact) (extras : List Extra) (moment : Moment) (can : IsLoadable p t kept extras moment look) (owners : ℕ → ℕ → ℕ) (own : AreOwners p owners)
    (nodes : List NetNode) (ends : List ℕ) (net : IsNetOf p nodes ends) (held_by : List Owner) (owned : HaveOwners p net.conditions (length nodes) held_by)
    (was_of : ℕ → Option Source) (fresh : (k : ℕ) (n : NetNode) → slice_get nodes k ≡ Some n → IsFresh p (taking (was_of k) n)) where
  module _ (is_of : ℕ → Option Source) (now : List NetNode) (a : Answered Delta) (loaded : AreLoaded p look kept extras moment empty_row_comes was_of is_of nodes now held_by ends a (length nodes)) (changes : List RuleChange)
      (are : length ends < 2 ^ 16 → (first : Delta) (deltas : List Delta) → a.none ≡ no_change → AreRuled a ends → ((rule end : ℕ) → slice_get ends rule ≡ Some end → delta_at first deltas end ≡ answer_in a end)
      → changes ≡ changes_from first deltas 0 ends) where
    abbrev deltas : List Delta
    deltas = told (answer_in a) (length nodes)

    last_within : (rule end : ℕ) → slice_get ends rule ≡ Some end → end < length nodes
    last_within rule end e =
        let within : rule < length ends = slice_get_within ends rule end e in
        let count = net.count in
        let r = get-below p.rules rule (omega (arith, within, count)) in
        let last = net.lasts rule r.0 r.1 in
        let same : last.last ≡ end = one_value (slice_get ends rule) last.last end last.found e in
        subst (λ i. i < length nodes) same (slice_get_within nodes last.last last.node last.there)

    known : (rule end : ℕ) → slice_get ends rule ≡ Some end → delta_at no_change deltas end ≡ answer_in a end
    known rule end e = told_at (answer_in a) no_change (length nodes) end (last_within rule end e)

    are_these : changes ≡ changes_from no_change deltas 0 ends
    are_these = are (few_ends p ends net.count can.runnable) no_change deltas loaded.none loaded.ruled known

    -- the change of a rule is what its last node answered
    change_is : (place end : ℕ) → slice_get ends place ≡ Some end → change_of changes place ≡ cond (changes_nothing (answer_in a end)) None (Some (answer_in a end))
    change_is place end e =
        ap (λ (cs : List RuleChange). change_of cs place) are_these
        ∙ ap (change_of (changes_from no_change deltas 0 ends)) (sym (zero-add place)) ∙ found_change no_change deltas 0 place ends end e
        ∙ ap (λ (d : Delta). cond (changes_nothing d) None (Some d)) (known place end e)

    no_change_past : (place : ℕ) → slice_get ends place ≡ None → change_of changes place ≡ None
    no_change_past place e =
        ap (λ (cs : List RuleChange). change_of cs place) are_these
        ∙ ap (change_of (changes_from no_change deltas 0 ends)) (sym (zero-add place)) ∙ past_change no_change deltas 0 place ends e

    end_of : (place : ℕ) (delta : Delta) → change_of changes place ≡ Some delta → (end : ℕ) × (slice_get ends place ≡ Some end)
    end_of place delta e = by (slice_get ends place) refl
      where
        by : (o : Option ℕ) → slice_get ends place ≡ o → (end : ℕ) × (slice_get ends place ≡ Some end)
        by None none = absurd (let torn : None ≡ Some delta = sym (no_change_past place none) ∙ e in cc)
        by (Some end) is = (end, is)

    pub laden_changes : AreLadenRows p t extras owners changes
    laden_changes = record {
      in_order = subst (λ (cs : List RuleChange). IsStrictlySortedBy nat_cmp (map (λ (c : RuleChange). c.rule.0) cs)) (sym are_these) (changes_in_order no_change deltas 0 ends);
      placed = λ place delta e.
          let end = end_of place delta e in
          let within : place < length ends = slice_get_within ends place end.0 end.1 in
          let count = net.count in
          get-below p.rules place (omega (arith, within, count));
      none_gone = λ place delta e.
          let end = end_of place delta e in
          let is = some_is (answer_in a end.0) delta (changes_nothing (answer_in a end.0)) (sym (change_is place end.0 end.1) ∙ e) in
          ap (λ (d : Delta). d.gone) (sym is)
          ∙ none_gone p look t kept extras moment can owners own nodes ends net held_by owned was_of fresh is_of now a (length nodes) (omega arith) loaded end.0 (last_within place end.0 end.1);
      rows = λ place rule e row.
          let last = net.lasts place rule e in
          ap (λ (o : Option Delta). has (coming o) row) (change_is place last.last last.found)
          ∙ come_is (answer_in a last.last) row
          ∙ answered p look t kept extras moment can owners own nodes ends net held_by owned was_of fresh is_of now a (length nodes) (omega arith) loaded last.last (slice_get_within nodes last.last last.node last.there)
          place (length rule.conditions) rule e (omega arith) (last.all ∙ sym (take_all (length rule.conditions) rule.conditions (omega arith))) row;
    }

  -- ---- the rows of extras

  module _ (is_of : ℕ → Option Source) (now : List NetNode) (a : Answered Delta) (loaded : AreLoaded p look kept extras moment empty_row_comes was_of is_of nodes now held_by ends a (length nodes)) where
    not_begun : (n : ℕ) (cs : List Condition) → n < length cs → take (suc n) cs ≡ [] → ⊥
    not_begun n [] lt e = absurd (omega (arith, lt))
    not_begun n (c ∷ cs) lt e = absurd (let torn : c ∷ take n cs ≡ [] = e in cc)

    are_same : (a b c d : ℕ) → a ≡ b → c ≡ d → (a == b && c == d) ≡ true
    are_same a b c d e f = grind (arith, nat_tests)

    pub extras_there : (e : Extra) → In e extras → IsThere p t extras owners e true
    extras_there e i rule stands =
        let placed = can.placed e i in
        let same : placed.rule ≡ rule = one_value (slice_get p.rules e.rule.0) placed.rule rule placed.stands stands in
        let low : e.condition < length rule.conditions = subst (λ (r : Rule). e.condition < length r.conditions) same (slice_get_within placed.rule.conditions e.condition placed.condition placed.placed) in
        let last = net.lasts e.rule.0 rule stands in
        let front : take (suc e.condition) (net.conditions last.last) ≡ take (suc e.condition) rule.conditions = ap (take (suc e.condition)) last.all in
        let node = fronts_within p nodes ends net (suc last.last) last.last (suc e.condition) last.node (omega arith) last.there (λ none. not_begun e.condition rule.conditions low (sym front ∙ none)) in
        let is : net.conditions node.0 ≡ take (suc e.condition) rule.conditions = node.2 ∙ front in
        let n = get-below nodes node.0 node.1 in
        let count = owned.count in
        let lt = node.1 in
        let o = get-below held_by node.0 (omega (arith, count, lt)) in
        let theirs : IsOwned p (take (suc e.condition) rule.conditions) o.0 = subst (λ (cs : List Condition). IsOwned p cs o.0) is (owned.each node.0 o.0 o.1) in
        let at : o.0.condition ≡ e.condition = owner_place p owners own e.rule.0 e.condition rule stands low o.0 theirs in
        let of : o.0.rule.0 ≡ e.rule.0 =
        one_first p (suc e.condition) theirs.rule.conditions placed.rule.conditions o.0.rule.0 e.rule.0
        (subst (λ k. IsFirstWith p (suc k) theirs.rule.conditions o.0.rule.0) at theirs.first) placed.first
        (ap (λ k. take (suc k) theirs.rule.conditions) (sym at) ∙ sym theirs.own ∙ ap (λ (r : Rule). take (suc e.condition) r.conditions) (sym same)) in
        let sorted = in_order p look t kept extras moment can owners own nodes ends net held_by owned was_of fresh is_of now a (length nodes) (omega arith) loaded node.0 n.0 n.1 (omega (arith, lt)) in
        let two = parts p look t kept extras moment can owners own nodes ends net held_by owned was_of fresh is_of now a (length nodes) (omega arith) loaded node.0 n.0 n.1 e.rule.0 e.condition rule stands (omega (arith, low)) is in
        sym (come_to p look t kept extras moment can owners own nodes ends net held_by owned was_of fresh is_of now a (length nodes) (omega arith) loaded node.0 n.0 n.1 (omega (arith, lt))
        e.rule.0 e.condition rule stands (omega (arith, low)) two.0 e.row)
        ∙ loaded.there node.0 lt n.0 o.0 n.1 o.1 sorted e i (are_same e.rule.0 o.0.rule.0 e.condition o.0.condition (sym of) (sym at))

  -- where a node cannot be loaded the row of an extra is not there
  pub extra_missing : IsStuck p look kept extras moment empty_row_comes was_of nodes held_by ends → (e : Extra) × In e extras × IsThere p t extras owners e false
  extra_missing stuck =
      let k = stuck.place in
      let inside : k < length nodes = slice_get_within nodes k stuck.node stuck.there in
      let count = owned.count in
      let o = get-below held_by k (omega (arith, count, inside)) in
      let sorted = in_order p look t kept extras moment can owners own nodes ends net held_by owned was_of fresh stuck.is stuck.now stuck.answered k (omega (arith, inside)) stuck.loaded k stuck.node stuck.there (omega arith) in
      let it = stuck.missing o.0 o.1 sorted in (
        it.0,
        it.1,
        λ rule stands.
            let e = it.0 in
            let theirs = owned.each k o.0 o.1 in
            let two = and_parts (e.rule.0 == o.0.rule.0) (e.condition == o.0.condition) it.2 in
            let of : e.rule.0 ≡ o.0.rule.0 = one_number e.rule.0 o.0.rule.0 two.0 in
            let at : e.condition ≡ o.0.condition = one_number e.condition o.0.condition two.1 in
            let same : theirs.rule ≡ rule = one_value (slice_get p.rules o.0.rule.0) theirs.rule rule theirs.stands (ap (slice_get p.rules) (sym of) ∙ stands) in
            let low : o.0.condition < length rule.conditions = subst (λ (r : Rule). o.0.condition < length r.conditions) same theirs.within in
            let is : net.conditions k ≡ take (suc e.condition) rule.conditions = theirs.own ∙ ap (λ (r : Rule). take (suc o.0.condition) r.conditions) same ∙ ap (λ i. take (suc i) rule.conditions) (sym at) in
            let front = parts p look t kept extras moment can owners own nodes ends net held_by owned was_of fresh stuck.is stuck.now stuck.answered k (omega (arith, inside)) stuck.loaded k stuck.node stuck.there
            e.rule.0 e.condition rule stands (omega (arith, low, at)) is in
            sym (come_to p look t kept extras moment can owners own nodes ends net held_by owned was_of fresh stuck.is stuck.now stuck.answered k (omega (arith, inside)) stuck.loaded k stuck.node stuck.there (omega arith)
            e.rule.0 e.condition rule stands (omega (arith, low, at)) front.0 e.row)
            ∙ it.3,
      )
    where
      one_number : (m n : ℕ) → (m == n) ≡ true → m ≡ n
      one_number m n e = grind (arith, nat_tests)
