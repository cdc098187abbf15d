use Rattle.join_memory.proofs.Common.{◌∙◌, ap, refl, subst, sym, not, ◌&&◌, ◌||◌, List, take, take_all, get_or, is_some, same_value, at, Named, Row, name_cmp}
use Rattle.join_memory.proofs.Common.{eq_by_cmp, has, joins, joined, candidate_value, has_name, has_left, row_kept, has_candidate, beside, Pattern, IfSome}
use Rattle.join_memory.proofs.{Common.{SeesRows, NamesCome}, Joining.{none_right}, Turning.{any_name}, Sharing.{more_none, no_names_come, name_comes_too}}
use Rattle.join_memory.proofs.Sharing.{under_more, names_made_too, none_came}
use Rattle.join_memory.proofs.candidates.Candidates.come.Goals as goal

pub loop-who-init : goal.loop-who-init
loop-who-init g c =
    let look = g.F.Facts.map c.args.facts.now in
    record {
      pattern = refl;
      keeps = no_names_come c.args.self.now look;
      under = λ value who. more_none _;
      rows = λ r.
          ap (λ (rows : List Row). has rows r) c.new-found.ensures.items
          ∙ sym (none_right (joins c.args.self.now.pattern look) (has_left (beside c.args.left.now c.args.self.now) look) _ (λ n. refl) r);
    }

pub loop-who-preserved : goal.loop-who-preserved
loop-who-preserved g c =
    let look = g.F.Facts.map c.args.facts.now in
    let first = c.args.self.now in
    let next = c.loop-who.self in
    let left = c.args.left.now in
    let names = c.args.names.now in
    let who = get_or names c.loop-who.who-index any_name in
    let is = c.in_ok-sight.ensures.pattern ∙ c.loop-who.invariant.pattern in
    record {
      pattern = is;
      keeps = name_comes_too first next c.put.new.self look names c.loop-who.who-index c.loop-who-test.true _ refl c.loop-who.invariant.keeps c.in_ok-sight.ensures.keeps;
      under = λ value n.
          under_more look first.pattern next.pattern c.loop-who.invariant.pattern names c.loop-who.who-index c.loop-who-test.true _ refl value n _ _ _
          (c.loop-who.invariant.under value n) (c.in_ok-sight.ensures.under value n);
      rows = λ r.
          names_made_too (joins first.pattern look) c.loop-who.found.items c.in_ok-more.more.items c.append.new.self.items c.in_ok-append.ensures.items r
          (has_left (beside left first) look) names c.loop-who.who-index c.loop-who-test.true who refl (λ n. not (has_candidate first look n)) (λ n. not (has_candidate next look n))
          (none_came (eq_by_cmp name_cmp) (has_candidate first look) (has_candidate next look) (take c.loop-who.who-index names) (c.loop-who.invariant.keeps left).names)
          (is_some c.in_ok-sight.sight) c.in_ok-sight.ensures.came (c.loop-who.invariant.rows r)
          (c.in_ok-more.ensures (subst (λ (p : Pattern). IfSome c.in_ok-sight.sight (SeesRows p look who)) (sym c.in_ok-sight.ensures.pattern) c.in_ok-sight.ensures.sight) r
          ∙ ap (λ (p : Pattern). joined (joins p look) (row_kept p left.rows look) (λ n. eq_by_cmp name_cmp who n && is_some c.in_ok-sight.sight) r) is);
    }

pub returns-clause-keeps : goal.returns-clause-keeps
returns-clause-keeps g c =
    subst (λ (names : List Named). NamesCome c.args.self.now c.loop-who.self (g.F.Facts.map c.args.facts.now) names) (take_all c.loop-who.who-index c.args.names.now c.loop-who-test.false) c.loop-who.invariant.keeps

pub returns-clause-under : goal.returns-clause-under
returns-clause-under g c value who =
    c.loop-who.invariant.under value who
    ∙ ap (λ (names : List Named). is_some (at same_value name_cmp c.args.self.now.names value who) || (has_name names who && same_value (candidate_value c.args.self.now.pattern (g.F.Facts.map c.args.facts.now) who) value))
    (take_all c.loop-who.who-index c.args.names.now c.loop-who-test.false)

pub returns-clause-rows : goal.returns-clause-rows
returns-clause-rows g c r =
    let look = g.F.Facts.map c.args.facts.now in
    c.loop-who.invariant.rows r
    ∙ ap (λ (names : List Named). joined (joins c.args.self.now.pattern look) (has_left (beside c.args.left.now c.args.self.now) look) (λ n. has_name names n && not (has_candidate c.args.self.now look n)) r)
    (take_all c.loop-who.who-index c.args.names.now c.loop-who-test.false)
