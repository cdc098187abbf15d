use Rattle.join_memory.proofs.Common.{◌∙◌, ap, refl, subst, sym, ◌&&◌, List, take_all, is_some, Named, Row, name_cmp, eq_by_cmp, has, joins, joined, has_name}
use Rattle.join_memory.proofs.{Common.{has_left, row_kept, has_candidate, beside, get_or, Pattern, IfSome, SeesRows, NamesLeave}, Joining.{none_right}}
use Rattle.join_memory.proofs.{Turning.{any_name}, Sharing.{no_names_leave, name_leaves_too, names_made_too}}
use Rattle.join_memory.proofs.candidates.Candidates.leave.Goals as goal

pub loop-who-init : goal.loop-who-init
loop-who-init g c =
    let look = g.F.Facts.map c.args.facts.now in
    record {
      pattern = refl;
      keeps = no_names_leave c.args.self.now look;
      under = λ value who kept. kept;
      rows = λ r.
          ap (λ (rows : List Row). has rows r) c.new-found.ensures.items
          ∙ sym (none_right (joins c.args.self.now.pattern look) (has_left (beside c.args.left.now c.args.self.now) look) _ (λ n. refl) r);
    }

pub loop-who-preserved : goal.loop-who-preserved
loop-who-preserved g c =
    let look = g.F.Facts.map c.args.facts.now in
    let first = c.args.self.now in
    let next = c.loop-who.self in
    let left = c.args.left.now in
    let names = c.args.names.now in
    let who = get_or names c.loop-who.who-index any_name in
    let is = c.take-sight.ensures.pattern ∙ c.loop-who.invariant.pattern in
    record {
      pattern = is;
      keeps = name_leaves_too first next c.take-sight.new.self look names c.loop-who.who-index c.loop-who-test.true _ refl c.loop-who.invariant.keeps c.take-sight.ensures.keeps;
      under = λ value n kept. c.loop-who.invariant.under value n (c.take-sight.ensures.under value n kept);
      rows = λ r.
          names_made_too (joins first.pattern look) c.loop-who.found.items c.in_ok-more.more.items c.append.new.self.items c.in_ok-append.ensures.items r
          (has_left (beside left first) look) names c.loop-who.who-index c.loop-who-test.true who refl (has_candidate first look) (has_candidate next look)
          (c.loop-who.invariant.keeps left).names (is_some c.take-sight.result) c.take-sight.ensures.taken (c.loop-who.invariant.rows r)
          (c.in_ok-more.ensures (subst (λ (p : Pattern). IfSome c.take-sight.result (SeesRows p look who)) (sym c.take-sight.ensures.pattern) c.take-sight.ensures.sight) r
          ∙ ap (λ (p : Pattern). joined (joins p look) (row_kept p left.rows look) (λ n. eq_by_cmp name_cmp who n && is_some c.take-sight.result) r) is);
    }

pub returns-clause-keeps : goal.returns-clause-keeps
returns-clause-keeps g c =
    subst (λ (names : List Named). NamesLeave c.args.self.now c.loop-who.self (g.F.Facts.map c.args.facts.now) names) (take_all c.loop-who.who-index c.args.names.now c.loop-who-test.false) c.loop-who.invariant.keeps

pub returns-clause-rows : goal.returns-clause-rows
returns-clause-rows g c r =
    let look = g.F.Facts.map c.args.facts.now in
    c.loop-who.invariant.rows r
    ∙ ap (λ (names : List Named). joined (joins c.args.self.now.pattern look) (has_left (beside c.args.left.now c.args.self.now) look) (λ n. has_name names n && has_candidate c.args.self.now look n) r)
    (take_all c.loop-who.who-index c.args.names.now c.loop-who-test.false)
