use Rattle.rete_net.proofs.Common.{◌≡◌, ◌∙◌, sym, ap, refl, subst, true, false, ◌<◌, length, arith, Some, slice_get, List, slice_get-get_or, Row, lent, Index}
use Rattle.rete_net.proofs.Common.{NetNode, has_place, IsAnswerPut, AreFanRowsTurned, AreWoken, seat_at, slice_get_within, ℤ, to_z, of_z, to_z-of_z, w64, SFits}
use Rattle.rete_net.proofs.{Alone.{may_alike}, Fanning.{fans_again, laid_same, laid_then}, Rescheduled.{scheduled_next, scheduled_undue}, Steady.{set_off}}
use Rattle.rete_net.proofs.{Steady.{step_at, come_to_end}, Turned.{alone_begin, may_begin}, Walking.{not_replaced, replaced_more}}
use Rattle.{std.proofs.{Common.{option_map}, lemmas.Bool.{false_from_ne_true}}, candidate_source.proofs.Moving.{laid_then as sources_then, still_apart}}
use Rattle.candidate_source.specs.Sources.{handed_come, handed_gone, source_at, AreApart, AreOthersAtRest, HaveTurned}
use Rattle.rete_net.proofs.net.Rete.walk.Goals as goal

pub walk-init : goal.walk-init
walk-init g c =
    let p = c.args.program.now in
    let look = g.F.Facts.map c.args.facts.now in
    let gone = lent c.args.gone.now in
    let come = option_map (λ f. f.now) c.args.come in
    let moment = c.args.moment.now in
    let first = c.args.first.now in
    let nodes = c.args.self.now.nodes.items in
    let fans = c.args.self.now.fans in
    let sources = c.args.self.now.sources in
    let turns = c.in_ok-turn.ensures in
    let clock = moment.clock in
    let fits : SFits w64 clock = search in
    let whole : to_z w64 (of_z w64 clock) ≡ clock = to_z-of_z fits in
    let turned : AreApart sources → AreOthersAtRest sources c.put_reached.new.due.keys gone come clock → HaveTurned p gone come clock look sources c.turn.new.self =
    subst (λ (at : ℤ). AreApart sources → AreOthersAtRest sources c.put_reached.new.due.keys gone come at → HaveTurned p gone come at look sources c.turn.new.self) whole turns.turned in
    record {
      ends = refl;
      owners = refl;
      index = refl;
      replaced = not_replaced nodes;
      laid = laid_same fans c.begin.new.self c.begin.ensures.seats c.begin.ensures.spans c.begin.ensures.lone c.begin.ensures.list;
      sourced = turns.laid;
      apart = still_apart sources c.turn.new.self turns.laid turns.reached;
      within = omega arith;
      scheduled = λ fans_are apart all k n e timed passed.
          scheduled_undue p sources c.turn.new.self turns.laid c.args.self.now.schedule k n apart c.put_reached.new.due.keys (turns.rest apart k)
          (false_from_ne_true (has_place c.put_reached.new.due.keys k) (λ there. let no : true ≡ false = sym (turns.kept k there) ∙ passed (omega arith) in cc)) (all k n e timed);
      way = λ wired scheduled fans_are are.
          set_off p look gone come moment first nodes fans c.args.self.now.ends.items c.args.self.now.index sources wired are.unseated
          c.turn.new.self c.begin.new.self c.turn.new.due.keys c.new-answered.result fans_are c.begin.ensures.seats c.begin.ensures.spans c.begin.ensures.lone c.begin.ensures.list c.begin.ensures.halves
          (c.new-answered.ensures.none ∙ c.no_change.ensures) c.new-answered.ensures.answers
          (alone_begin p look gone come moment first nodes fans sources c.turn.new.self c.args.self.now.ends.items c.args.self.now.index c.args.self.now.schedule c.deref.result.now c.deref.ensures.value
          c.in_ok-due.due.keys c.put_reached.new.due.keys c.turn.new.due.keys c.in_ok-due.ensures c.in_ok-put_reached.ensures.kept c.in_ok-put_reached.ensures.put c.in_ok-put_reached.ensures.begun
          turns.laid turns.reached turns.kept turns.passed turned wired scheduled are);
      may = λ wired scheduled are k n le e.
          may_begin p look gone come moment first nodes fans sources c.turn.new.self c.args.self.now.ends.items c.args.self.now.index c.args.self.now.schedule c.deref.result.now c.deref.ensures.value
          c.in_ok-due.due.keys c.put_reached.new.due.keys c.turn.new.due.keys c.in_ok-due.ensures c.in_ok-put_reached.ensures.kept c.in_ok-put_reached.ensures.put c.in_ok-put_reached.ensures.begun
          turns.laid turns.reached turns.kept turns.passed turned wired scheduled are k n e;
    }

pub walk-preserved : goal.walk-preserved
walk-preserved g c =
    let was = c.walk.invariant in
    let p = c.args.program.now in
    let look = g.F.Facts.map c.args.facts.now in
    let gone = lent c.args.gone.now in
    let come = option_map (λ f. f.now) c.args.come in
    let moment = c.args.moment.now in
    let sources = c.args.self.now.sources in
    let nodes = c.walk.self.nodes.items in
    let place = c.in-Some.place in
    let n = c.index_mut-node.result.now in
    let many = was.replaced.many in
    let below = c.in-Some.ensures.below in
    let len = c.len.ensures ∙ c.walk.self.nodes.ok.0 in
    let within : c.in-Some.place < length c.walk.self.nodes.items = omega (arith, below, len) in
    let at : slice_get c.walk.self.nodes.items c.in-Some.place ≡ Some c.index_mut-node.result.now = slice_get-get_or nodes place n within ∙ ap Some (sym c.index_mut-node.ensures.value) in
    let told = c.in_ok-delta.ensures in
    let mid = c.advance_in.new.fans in
    let then = c.turn_rows.new.self in
    let of = c.advance_in.new.sources in
    record {
      ends = was.ends;
      owners = was.owners;
      index = was.index;
      replaced = replaced_more c.args.self.now.nodes.items nodes place n c.advance_in.new.self was.replaced at told.parent told.condition;
      laid = laid_then c.args.self.now.fans mid then (laid_then c.args.self.now.fans c.walk.self.fans mid was.laid told.laid) c.in_ok-turn_rows.ensures.laid;
      sourced = sources_then sources c.walk.self.sources of was.sourced told.sources.laid;
      apart = λ apart. told.sources.apart (was.apart apart);
      within = omega (arith, many, within);
      scheduled = λ fans_are apart all.
          let mid_are = fans_again c.args.self.now.nodes.items nodes c.args.self.now.fans mid was.replaced (laid_then c.args.self.now.fans c.walk.self.fans mid was.laid told.laid) fans_are in
          scheduled_next p c.walk.self.sources of nodes c.walk.self.schedule c.put.new.self c.walk.due.keys c.turn_rows.new.due.keys c.walk.next place n c.advance_in.new.self told.sources.laid told.sources.each at c.in_ok-put.ensures.put c.in_ok-put.ensures.others
          c.in-Some.ensures.first
          (λ k out. false_from_ne_true (has_place c.walk.due.keys k) (λ there. let no : true ≡ false = sym ((c.in_ok-turn_rows.ensures.woken nodes mid_are).still k there) ∙ out in cc)) (was.scheduled fans_are apart all);
      way = λ wired scheduled fans are.
          let on = was.way wired scheduled fans are in
          step_at p look gone come moment c.args.first.now
          c.args.self.now.nodes.items c.args.self.now.fans c.args.self.now.ends.items c.args.self.now.index sources wired are.unseated c.walk.self.sources nodes c.walk.self.fans c.walk.due.keys c.walk.answered was.replaced c.walk.next on
          place c.in-Some.ensures.from (omega (arith, many, within)) c.in-Some.ensures.first of told.sources.each
          n c.advance_in.new.self at told.parent told.condition (replaced_more nodes nodes place n c.advance_in.new.self (not_replaced nodes) at told.parent told.condition)
          mid told.laid told.others c.left-left.result.now c.in_ok-delta.delta c.left-left.ensures
          (λ member of_seat halved.
          told.step member (source_at sources place) of_seat halved (λ s e. ap (λ l. seat_at l.items place) was.laid.seats ∙ are.unseated place s e)
          (was.may wired scheduled are place n c.in-Some.ensures.from (sym (on.shared.rest place c.in-Some.ensures.from) ∙ at)))
          then c.in_ok-turn_rows.ensures.laid
          (λ ns are.
          subst (λ (rows : List Row). AreFanRowsTurned look place rows c.in_ok-delta.delta.come mid then) c.as_slice-went.ensures
          (subst (λ (rows : List Row). AreFanRowsTurned look place c.as_slice-went.result.now rows mid then) c.as_slice-came.ensures (c.in_ok-turn_rows.ensures.turned ns are)))
          c.put_delta.new.answered (λ nothing. subst (λ (i : Index). IsAnswerPut i place c.in_ok-delta.delta c.walk.answered c.put_delta.new.answered) was.index (c.in_ok-put_delta.ensures.put nothing)) c.in_ok-put_delta.ensures.nothing
          c.turn_rows.new.due.keys
          (λ ns are.
          subst (λ (rows : List Row). AreWoken place rows c.in_ok-delta.delta.come mid then c.walk.due.keys c.turn_rows.new.due.keys) c.as_slice-went.ensures
          (subst (λ (rows : List Row). AreWoken place c.as_slice-went.result.now rows mid then c.walk.due.keys c.turn_rows.new.due.keys) c.as_slice-came.ensures (c.in_ok-turn_rows.ensures.woken ns are)));
      may = λ wired scheduled are k m le e.
          let away : k ≡ c.in-Some.place → ⊥ = λ same. absurd (omega (arith, le, same)) in
          let from = c.in-Some.ensures.from in
          may_alike p look gone come moment k (source_at sources k) (source_at c.walk.self.sources k) (source_at of k) m (handed_gone c.walk.self.sources k) (handed_come c.walk.self.sources k) (handed_gone of k) (handed_come of k)
          (told.sources.each k away) (told.sources.gone k away) (told.sources.come k away) (was.may wired scheduled are k m (omega (arith, le, from)) e);
    }

pub returns-clause-scheduled : goal.returns-clause-scheduled
returns-clause-scheduled g c fans apart all k n e timed =
    let was = c.walk.invariant in
    let many = was.replaced.many in
    let len = c.len.ensures ∙ c.walk.self.nodes.ok.0 in
    let within : k < length c.walk.self.nodes.items = slice_get_within c.walk.self.nodes.items k n e in
    was.scheduled fans apart all k n e timed (λ le. c.in_default.ensures.none refl k le (omega (arith, many, len, within)))

pub returns-clause-answered : goal.returns-clause-answered
returns-clause-answered g c wired scheduled fans are =
    let was = c.walk.invariant in
    let many = was.replaced.many in
    let len = c.len.ensures ∙ c.walk.self.nodes.ok.0 in
    come_to_end c.args.program.now (g.F.Facts.map c.args.facts.now) (lent c.args.gone.now) (option_map (λ f. f.now) c.args.come) c.args.moment.now c.args.first.now
    c.args.self.now.nodes.items c.args.self.now.fans c.args.self.now.ends.items c.args.self.now.index c.args.self.now.sources wired are.unseated c.walk.self.sources c.walk.self.nodes.items c.walk.self.fans c.walk.due.keys c.walk.answered was.replaced c.walk.next (was.way wired scheduled fans are)
    was.within (λ k le lt. c.in_default.ensures.none refl k le (omega (arith, many, len, lt)))
