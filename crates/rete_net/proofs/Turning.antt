-- A step of a node and its gate, out of what each of them answers.
use Rattle.rete_net.proofs.Common.{◌≡◌, ◌∙◌, sym, ap, refl, subst, inl, inr, ℕ, ℤ, ◌&&◌, not, Bool, true, false, List, [], ◌∷◌, map, Option, Less}
use Rattle.rete_net.proofs.Common.{nat_cmp_total, eq_by_cmp_equiv, AllByRecursion, nat_cmp, is_eq, In, Fact, Tag, Delta, Named, Row, IsDifference, Condition}
use Rattle.rete_net.proofs.Common.{Pattern, Program, HaveDistinctTags, pattern_of, Snapshot, Look, IsNameDifference, cleaned, remembered, held, candidates_of}
use Rattle.rete_net.proofs.Common.{line, HasAllOf, NameHeld, GateStands, has_good_window, MovesSnapshot, Node, condition_of, NodeStands, IsConditionTurn}
use Rattle.{rete_net.proofs.Common.{NetNode, IsNodeTurn, NodeStep, Moment, IsAt}, std.specs.List.Sorted.{IsStrictlySortedBy}}

-- ---- tags in order are distinct

torn : (b : Bool) → b ≡ true → b ≡ false → ⊥
torn b e f = let n : true ≡ false = sym e ∙ f in cc

itself : (a : ℕ) → is_eq (nat_cmp a a) ≡ true
itself = (eq_by_cmp_equiv nat_cmp_total).refl

-- a tag below others is none of them
below : (t : Tag) (facts : List Fact) → AllByRecursion (λ n. nat_cmp t.0 n ≡ Less) (map (λ (f : Fact). f.tag.0) facts) → In t (map (λ (f : Fact). f.tag) facts) → ⊥
below t [] less i = i
below t (f ∷ facts) less (inl e) =
    let tied : is_eq (nat_cmp t.0 f.tag.0) ≡ true = ap (λ (z : Tag). is_eq (nat_cmp t.0 z.0)) (sym e) ∙ itself t.0 in
    torn (is_eq (nat_cmp t.0 f.tag.0)) tied (ap is_eq less.0)
below t (f ∷ facts) less (inr i) = below t facts less.1 i

pub rising : (facts : List Fact) → IsStrictlySortedBy nat_cmp (map (λ (f : Fact). f.tag.0) facts) → HaveDistinctTags facts
unfolding IsStrictlySortedBy
rising [] rise = tt
rising (f ∷ facts) rise = (below f.tag facts rise.0, rising facts rise.1)

-- ---- what is remembered

-- where what is forgotten is the same in both sets, they differ in what is remembered alone
only_remembered : (a b f : Bool) → (f ≡ true → a ≡ b) → (a && not b) ≡ ((a && not f) && not (b && not f))
only_remembered a b true h = by a b (h refl)
  where
    by : (a b : Bool) → a ≡ b → (a && not b) ≡ ((a && not true) && not (b && not true))
    by true true e = refl
    by true false e = absurd (torn true refl e)
    by false b e = refl
only_remembered true true false h = refl
only_remembered true false false h = refl
only_remembered false b false h = refl

pub remembered_differ : (names names_now forgotten : Named → Bool) (delta : Delta) → ((who : Named) → forgotten who ≡ true → names who ≡ names_now who) → IsNameDifference names names_now delta
    → IsNameDifference (remembered names forgotten) (remembered names_now forgotten) delta
remembered_differ names names_now forgotten delta same is = record {
  goes = λ who. is.goes who ∙ only_remembered (names who) (names_now who) (forgotten who) (same who);
  comes = λ who. is.comes who ∙ only_remembered (names_now who) (names who) (forgotten who) (λ e. sym (same who e));
}

abbrev pub MoveLaw : Type 0
MoveLaw = (p : Program) (node : Node) (look other : Look) (s : Snapshot) (rows : Row → Bool) (forgotten : Named → Bool)
    → HasAllOf look s forgotten → HasAllOf other s forgotten → NameHeld s rows → NodeStands p node look s rows forgotten → NodeStands p node other s rows forgotten

pub held_has : (s : Snapshot) (forgotten : Named → Bool) → HasAllOf (held s) s forgotten
held_has s forgotten tag f e n = e

module _ (p : Program) (look : Look) (gone : List Fact) (come : Option Fact) (moment : Moment) (old new : NetNode) (left right delta : Delta) where
  abbrev meant : Pattern
  meant = pattern_of (condition_of old.node)

  abbrev FromTo : Pattern → ℤ → (Snapshot → Snapshot → Type 0) → Type 0
  FromTo q at claim = (s next : Snapshot) → has_good_window p q ≡ true → GateStands p q old.gate s → MovesSnapshot p s next gone come → next.clock ≡ at → claim s next

  -- what the gate answers of a pattern and a clock, and what the node answers
  abbrev GateStays : Pattern → ℤ → Type 0
  GateStays q at = FromTo q at (λ s next. GateStands p q new.gate next)

  abbrev GateDiffers : Pattern → ℤ → Type 0
  GateDiffers q at = FromTo q at (λ s next. IsNameDifference (candidates_of p q s) (candidates_of p q next) right)

  abbrev Steps : (Snapshot → Snapshot → (Row → Bool) → (Row → Bool) → (Named → Bool) → Type 0) → Type 0
  Steps claim = (world : Look) (s next : Snapshot) (rows rows_now : Row → Bool) (forgotten : Named → Bool) → NodeStands p old.node look s rows forgotten → IsAt next moment
      → IsConditionTurn p (condition_of old.node) look world s next rows rows_now forgotten left right → claim s next rows rows_now forgotten

  abbrev NodeStays : Type 0
  NodeStays = Steps (λ s next rows rows_now forgotten. NodeStands p new.node look next rows_now forgotten)

  abbrev NodeDiffers : Type 0
  NodeDiffers = Steps (λ s next rows rows_now forgotten. IsDifference (cleaned (line p s (condition_of old.node) rows) forgotten) (cleaned (line p next (condition_of old.node) rows_now) forgotten) delta)

  module _ (s next : Snapshot) (rows rows_now : Row → Bool) (forgotten : Named → Bool) (is : IsNodeTurn p look s next gone come (condition_of old.node) rows rows_now forgotten left)
      (names : IsNameDifference (candidates_of p meant s) (candidates_of p meant next) right) where
    pub turn : IsConditionTurn p (condition_of old.node) look is.world s next rows rows_now forgotten left right
    turn = record {
      tags = rising s.facts is.moves.before.in_order;
      tags_now = rising next.facts is.moves.after.in_order;
      clock = is.moves.clock;
      floors = is.moves.floors;
      at_hand = is.at_hand;
      at_hand_now = is.at_hand_now;
      known = is.known;
      known_now = is.known_now;
      named = is.named;
      named_now = is.named_now;
      stay = is.stay;
      leads = is.leads;
      candidates = remembered_differ (candidates_of p meant s) (candidates_of p meant next) forgotten right is.same names;
    }

  both : (claim : Pattern → ℤ → Type 0) (q : Pattern) (at : ℤ) → q ≡ meant → at ≡ moment.clock → claim q at → claim meant moment.clock
  both claim q at e f h = subst (λ (r : Pattern). claim r moment.clock) e (subst (λ (z : ℤ). claim q z) f h)

  stepped : MoveLaw → new.parent ≡ old.parent → condition_of new.node ≡ condition_of old.node → GateStays meant moment.clock → GateDiffers meant moment.clock → NodeStays → NodeDiffers
      → NodeStep p look gone come moment old new left delta
  stepped law parent same gates names nodes differs = record {
    parent = parent;
    condition = same;
    stands = λ s next rows rows_now forgotten standing at is. record {
      gate = subst (λ (c : Condition). GateStands p (pattern_of c) new.gate next) (sym same) (gates s next is.window standing.gate is.moves at.clock);
      node = law p new.node look (held next) next rows_now forgotten is.at_hand_now (held_has next forgotten) is.named_now
          (nodes is.world s next rows rows_now forgotten (at_store s rows forgotten is.at_hand is.named standing.node) at
          (turn s next rows rows_now forgotten is (names s next is.window standing.gate is.moves at.clock)));
    };
    difference = λ s next rows rows_now forgotten standing at is.
        differs is.world s next rows rows_now forgotten (at_store s rows forgotten is.at_hand is.named standing.node) at
        (turn s next rows rows_now forgotten is (names s next is.window standing.gate is.moves at.clock));
  }
    where
      at_store : (s : Snapshot) (rows : Row → Bool) (forgotten : Named → Bool) → HasAllOf look s forgotten → NameHeld s rows → NodeStands p old.node (held s) s rows forgotten → NodeStands p old.node look s rows forgotten
      at_store s rows forgotten has named stands = law p old.node (held s) look s rows forgotten (held_has s forgotten) has named stands

  pub node_step : MoveLaw → new.parent ≡ old.parent → condition_of new.node ≡ condition_of old.node → (q : Pattern) (at : ℤ) → q ≡ meant → at ≡ moment.clock
      → GateStays q at → GateDiffers q at → NodeStays → NodeDiffers → NodeStep p look gone come moment old new left delta
  node_step law parent same q at e f gates names nodes differs =
      stepped law parent same (both GateStays q at e f gates) (both GateDiffers q at e f names) nodes differs
