-- A step of a network over the rows of its conditions.
use Rattle.rete_net.proofs.Common.{◌≡◌, ◌∙◌, sym, ap, refl, subst, zero-add, ℕ, ◌<◌, ◌^◌, arith, length, Bool, List, [], ◌∷◌, Option, Some, None, slice_get}
use Rattle.rete_net.proofs.Common.{fun_ext, slice_get_within, Fact, Delta, Named, Row, has, LeadsRows, IsDifference, Condition, Program, Rule, HaveDistinctTags}
use Rattle.rete_net.proofs.Common.{Snapshot, Look, cleaned, rows_of, empty_row, rows_named, AreFans, shown_nodes, RuleChange, Rete, NetNode, condition_of}
use Rattle.rete_net.proofs.Common.{IsIndexOf, AreNodeOwners, NodesStand, clean_rows, change_of, IsChange, AreBetween, AreScheduled, before, IsNetOf, no_change}
use Rattle.rete_net.proofs.{Common.{delta_at, changes_from, NetStep, Moment, AreSources}, Answering.{is_change, found_change, past_change, in_order}}
use Rattle.rete_net.proofs.{Chaining.{AreMade, IsGiven, AreStanding, StaysBeside, standing_now, answer_at}, Cleaning.{has_clean}, Frames.{net_again}}
use Rattle.{rete_net.proofs.{Frames.{stepped_nodes}, Turning.{rising}}, candidate_source.specs.Sources.{source_at}, rule_model.specs.Rows.{rows}}
use Rattle.{condition_rows.proofs.Whole.{one_more}, fx_base.proofs.{Sequences.{get-below}, Tests.{and_not_self}}}

-- the rows of conditions are what the lines make of them
pub rows_made : (p : Program) (s : Snapshot) → HaveDistinctTags s.facts → AreMade p s (rows_of p s)
rows_made p s d = record { more = λ front c. fun_ext (λ row. one_more p s d front c row); named = rows_named p s d }

-- before the first condition there is the empty row alone
pub first_row : (p : Program) (s : Snapshot) → rows p s [] ≡ empty_row ∷ []
unfolding rows
first_row p s = refl

pub same_first : (p : Program) (s next : Snapshot) → rows_of p s [] ≡ rows_of p next []
same_first p s next = ap has (first_row p s ∙ sym (first_row p next))

pub first_stays : (p : Program) (s next : Snapshot) (forgotten : Named → Bool) → LeadsRows (cleaned (rows_of p s []) forgotten) (cleaned (rows_of p next []) forgotten) no_change.gone no_change.come
first_stays p s next forgotten =
    subst (λ (set : Row → Bool). LeadsRows (cleaned (rows_of p s []) forgotten) (cleaned set forgotten) [] []) (same_first p s next)
    (record { goes = λ row. and_not_self (cleaned (rows_of p s []) forgotten row); comes = λ row. and_not_self (cleaned (rows_of p s []) forgotten row) })

module _ (p : Program) (look : Look) (s next : Snapshot) (gone : List Fact) (come : Option Fact) (moment : Moment) (forgotten : Named → Bool) (first : Delta) (was : List Condition → Row → Bool) (lists : Rule → List Row)
    (old new : Rete) (shape : IsNetOf p (shown_nodes old) old.ends.items) (answers : List RuleChange)
    (given : IsGiven p look s next gone come moment forgotten) (made : AreMade p s was) (leads : LeadsRows (cleaned (was []) forgotten) (cleaned (rows_of p next []) forgotten) first.gone first.come)
    (standing : AreStanding p s was forgotten (source_at old.sources) (shown_nodes old) shape.conditions)
    (beside : (k : ℕ) (n : NetNode) → slice_get (shown_nodes old) k ≡ Some n → StaysBeside p given.world s next (condition_of n.node) (was (before shape.conditions n.parent)) (rows_of p next (before shape.conditions n.parent)) forgotten)
    (same : new.ends.items ≡ old.ends.items) (step : NetStep p look gone come moment first (source_at old.sources) (source_at new.sources) (shown_nodes old) (shown_nodes new) old.ends.items answers)
    (listed : (place : ℕ) (rule : Rule) → slice_get p.rules place ≡ Some rule → cleaned (was rule.conditions) forgotten ≡ has (lists rule)) where
  distinct_now : HaveDistinctTags next.facts
  distinct_now = rising next.facts given.moves.after.in_order

  pub shape_now : IsNetOf p (shown_nodes new) new.ends.items
  shape_now = net_again p (shown_nodes old) (shown_nodes new) old.ends.items new.ends.items same (stepped_nodes p look gone come moment first (source_at old.sources) (source_at new.sources) (shown_nodes old) (shown_nodes new) old.ends.items answers step) shape

  pub stands_now : IsIndexOf new.sources (shown_nodes new) new.ends.items new.index → AreScheduled p new.sources new.nodes.items new.schedule → AreFans new.nodes.items new.fans
      → AreSources new.nodes.items new.fans new.sources → AreNodeOwners p shape.conditions (length (shown_nodes new)) new.owners.items
      → NodesStand p new next forgotten
  stands_now indexed scheduled fans sources owned = record {
    shape = net_again p (shown_nodes old) (shown_nodes new) old.ends.items new.ends.items same (stepped_nodes p look gone come moment first (source_at old.sources) (source_at new.sources) (shown_nodes old) (shown_nodes new) old.ends.items answers step) shape;
    indexed = indexed;
    scheduled = scheduled;
    fans = fans;
    sources = sources;
    owned = owned;
    nodes =
        (standing_now p look s next gone come moment forgotten first was (rows_of p next) (source_at old.sources) (source_at new.sources) (shown_nodes old) (shown_nodes new) shape.conditions step.deltas given made (rows_made p next distinct_now) leads standing beside step.nodes step.stepped).stand;
  }

  pub between_now : length old.ends.items < 2 ^ 16 → AreBetween p lists (clean_rows p next forgotten) answers
  between_now few = subst (AreBetween p lists (clean_rows p next forgotten)) (sym (step.answers few)) (record {
    in_order = in_order first step.deltas 0 old.ends.items;
    placed = λ place delta e. placed place delta e (slice_get old.ends.items place) refl;
    each = λ place rule e.
        let end = shape.lasts place rule e in
        let is = answer_at p look s next gone come moment forgotten first was (rows_of p next) (source_at old.sources) (source_at new.sources) (shown_nodes old) (shown_nodes new) shape.conditions step.deltas given made (rows_made p next distinct_now) leads standing beside step.nodes step.stepped old.ends.items place rule end in
        subst (λ (change : Option Delta). IsChange change (lists rule) (clean_rows p next forgotten rule)) (sym (ap (change_of (changes_from first step.deltas 0 old.ends.items)) (sym (zero-add place)) ∙ found_change first step.deltas 0 place old.ends.items end.last end.found))
        (is_change (lists rule) (clean_rows p next forgotten rule) (delta_at first step.deltas end.last)
        (subst (λ (set : Row → Bool). IsDifference set (has (clean_rows p next forgotten rule)) (delta_at first step.deltas end.last)) (listed place rule e)
        (subst (λ (set : Row → Bool). IsDifference (cleaned (was rule.conditions) forgotten) set (delta_at first step.deltas end.last)) (sym (has_clean (rows p next rule.conditions) forgotten)) is)));
  })
    where
      placed : (place : ℕ) (delta : Delta) → change_of (changes_from first step.deltas 0 old.ends.items) place ≡ Some delta → (o : Option ℕ) → slice_get old.ends.items place ≡ o → (rule : Rule) × (slice_get p.rules place ≡ Some rule)
      placed place delta e None none = let no : None ≡ Some delta = sym (past_change first step.deltas 0 place old.ends.items none) ∙ ap (change_of (changes_from first step.deltas 0 old.ends.items)) (zero-add place) ∙ e in absurd (cc)
      placed place delta e (Some end) there =
          let within : place < length old.ends.items = slice_get_within old.ends.items place end there in
          let count = shape.count in
          get-below p.rules place (omega (arith, count))
