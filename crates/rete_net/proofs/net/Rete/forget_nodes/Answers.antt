use Rattle.rete_net.proofs.Common.{◌≡◌, ◌∙◌, sym, ap, refl, subst, true, false, ◌<◌, length, arith, Some, slice_get, slice_get_within, List, []}
use Rattle.rete_net.proofs.{Common.{slice_get-get_or, Row, Index, left_given, has_place, seat_at, IsAnswerPut, AreFanRowsTurned, AreWoken}, Fading.{set_off}}
use Rattle.rete_net.proofs.{Fading.{forget_at, come_to_end}, Fanned.{none_of}, Fanning.{fans_again, laid_same, laid_then}, Rescheduled.{scheduled_next}}
use Rattle.rete_net.proofs.{Rescheduled.{scheduled_undue}, Spared.{may_begin, may_forget_alike, spared_begin}, Walking.{not_replaced, replaced_more}}
use Rattle.{std.proofs.lemmas.Bool.{false_from_ne_true}, candidate_source.{proofs.Moving.{laid_then as sources_then, still_apart}, specs.Sources.{handed_gone}}}
use Rattle.candidate_source.specs.Sources.{source_at}
use Rattle.rete_net.proofs.net.Rete.forget_nodes.Goals as goal

pub walk-init : goal.walk-init
walk-init g c =
    let p = c.args.program.now in
    let look = g.F.Facts.map c.args.facts.now in
    let names = c.args.old.now in
    let nodes = c.args.self.now.nodes.items in
    let fans = c.args.self.now.fans in
    let sources = c.args.self.now.sources in
    let forgets = c.in_ok-forget.ensures in
    record {
      ends = refl;
      owners = refl;
      index = refl;
      quiet = refl;
      replaced = not_replaced nodes;
      laid = laid_same fans c.begin.new.self c.begin.ensures.seats c.begin.ensures.spans c.begin.ensures.lone c.begin.ensures.list;
      sourced = forgets.laid;
      apart = still_apart sources c.forget.new.self forgets.laid forgets.reached;
      scheduled = λ fans_are apart all k n e timed passed.
          scheduled_undue p sources c.forget.new.self forgets.laid c.args.self.now.schedule k n apart c.in_ok-due.due.keys (forgets.rest apart k)
          (false_from_ne_true (has_place c.in_ok-due.due.keys k) (λ there. let no : true ≡ false = sym (forgets.kept k there) ∙ passed (omega arith) in cc)) (all k n e timed);
      within = omega arith;
      way = λ wired fans_are are.
          set_off p look names nodes fans c.args.self.now.ends.items c.args.self.now.index sources wired are.unseated c.forget.new.self
          c.begin.new.self c.forget.new.due.keys c.new-dropped.result fans_are c.begin.ensures.seats c.begin.ensures.spans c.begin.ensures.lone c.begin.ensures.list c.begin.ensures.halves
          (c.new-dropped.ensures.none ∙ c.from_vec.ensures ∙ c.new-2.ensures.items) c.new-dropped.ensures.answers
          (spared_begin p look names nodes fans sources c.forget.new.self c.args.self.now.ends.items c.args.self.now.index c.in_ok-due.due.keys c.forget.new.due.keys c.in_ok-due.ensures forgets.laid forgets.reached
          forgets.kept forgets.passed forgets.forgotten wired are);
      may = λ wired are k n le e.
          may_begin p look names nodes fans sources c.forget.new.self c.args.self.now.ends.items c.args.self.now.index c.in_ok-due.due.keys c.forget.new.due.keys c.in_ok-due.ensures forgets.laid forgets.reached
          forgets.kept forgets.passed forgets.forgotten wired are k n e;
    }

pub walk-preserved : goal.walk-preserved
walk-preserved g c =
    let was = c.walk.invariant in
    let p = c.args.program.now in
    let look = g.F.Facts.map c.args.facts.now in
    let names = c.args.old.now in
    let sources = c.args.self.now.sources in
    let nodes = c.walk.self.nodes.items in
    let place = c.in-Some.place in
    let n = c.index_mut-node.result.now in
    let many = was.replaced.many in
    let below = c.in-Some.ensures.below in
    let len = c.len.ensures ∙ c.walk.self.nodes.ok.0 in
    let within : c.in-Some.place < length c.walk.self.nodes.items = omega (arith, below, len) in
    let at : slice_get c.walk.self.nodes.items c.in-Some.place ≡ Some c.index_mut-node.result.now = slice_get-get_or nodes place n within ∙ ap Some (sym c.index_mut-node.ensures.value) in
    let none : c.from_vec-none.result ≡ [] = c.from_vec-none.ensures ∙ c.new.ensures.items in
    let told = c.in_ok-gone.ensures in
    let mid = c.forget_in.new.fans in
    let then = c.turn_rows.new.self in
    let of = c.forget_in.new.sources in
    record {
      ends = was.ends;
      owners = was.owners;
      index = was.index;
      quiet = was.quiet;
      replaced = replaced_more c.args.self.now.nodes.items nodes place n c.forget_in.new.self was.replaced at told.parent told.condition;
      laid = laid_then c.args.self.now.fans mid then (laid_then c.args.self.now.fans c.walk.self.fans mid was.laid told.laid) c.in_ok-turn_rows.ensures.laid;
      sourced = sources_then sources c.walk.self.sources of was.sourced told.sources.laid;
      apart = λ apart. told.sources.apart (was.apart apart);
      scheduled = λ fans_are apart all.
          let mid_are = fans_again c.args.self.now.nodes.items nodes c.args.self.now.fans mid was.replaced (laid_then c.args.self.now.fans c.walk.self.fans mid was.laid told.laid) fans_are in
          scheduled_next p c.walk.self.sources of nodes c.walk.self.schedule c.put.new.self c.walk.due.keys c.turn_rows.new.due.keys c.walk.next place n c.forget_in.new.self told.sources.laid told.sources.each at c.in_ok-put.ensures.put c.in_ok-put.ensures.others
          c.in-Some.ensures.first
          (λ k out. false_from_ne_true (has_place c.walk.due.keys k) (λ there. let no : true ≡ false = sym ((c.in_ok-turn_rows.ensures.woken nodes mid_are).still k there) ∙ out in cc)) (was.scheduled fans_are apart all);
      within = omega (arith, many, within);
      way = λ wired fans are.
          let on = was.way wired fans are in
          forget_at p look names
          c.args.self.now.nodes.items c.args.self.now.fans c.args.self.now.ends.items c.args.self.now.index sources wired are.unseated c.walk.self.sources nodes c.walk.self.fans c.walk.due.keys c.walk.dropped was.replaced c.walk.next on
          place c.in-Some.ensures.from (omega (arith, many, within)) c.in-Some.ensures.first of told.sources.each
          n c.forget_in.new.self at told.parent told.condition (replaced_more nodes nodes place n c.forget_in.new.self (not_replaced nodes) at told.parent told.condition)
          mid told.laid told.others c.as_slice-before.result.now c.in_ok-gone.gone (c.as_slice-before.ensures ∙ c.left-rows.ensures ∙ ap (λ (rows : List Row). left_given rows c.walk.dropped n.parent) none)
          (λ member of_seat halved.
          told.forgets member (source_at sources place) of_seat halved (λ s e. ap (λ l. seat_at l.items place) was.laid.seats ∙ are.unseated place s e)
          (was.may wired are place n c.in-Some.ensures.from (sym (on.shared.rest place c.in-Some.ensures.from) ∙ at)))
          then c.in_ok-turn_rows.ensures.laid
          (λ ns are. subst (λ (rows : List Row). AreFanRowsTurned look place rows [] mid then) c.as_slice-went.ensures (c.in_ok-turn_rows.ensures.turned ns are))
          c.put_dropped.new.dropped (λ nothing. subst (λ (i : Index). IsAnswerPut i place c.in_ok-gone.gone c.walk.dropped c.put_dropped.new.dropped) was.index (c.in_ok-put_dropped.ensures.put nothing))
          (λ none. c.in_ok-put_dropped.ensures.nothing (none_of c.in_ok-gone.gone [] none).0)
          c.turn_rows.new.due.keys
          (λ ns are. subst (λ (rows : List Row). AreWoken place rows [] mid then c.walk.due.keys c.turn_rows.new.due.keys) c.as_slice-went.ensures (c.in_ok-turn_rows.ensures.woken ns are));
      may = λ wired are k m le e.
          let away : k ≡ c.in-Some.place → ⊥ = λ same. absurd (omega (arith, le, same)) in
          let from = c.in-Some.ensures.from in
          may_forget_alike p look names k (source_at sources k) (source_at c.walk.self.sources k) (source_at of k) m (handed_gone c.walk.self.sources k) (handed_gone of k)
          (told.sources.each k away) (told.sources.gone k away) (was.may wired are k m (omega (arith, le, from)) e);
    }

pub returns-clause-scheduled : goal.returns-clause-scheduled
returns-clause-scheduled g c fans apart all k n e timed =
    let was = c.walk.invariant in
    let many = was.replaced.many in
    let len = c.len.ensures ∙ c.walk.self.nodes.ok.0 in
    let within : k < length c.walk.self.nodes.items = slice_get_within c.walk.self.nodes.items k n e in
    was.scheduled fans apart all k n e timed (λ le. c.in_default.ensures.none refl k le (omega (arith, many, len, within)))

pub returns-clause-forgot : goal.returns-clause-forgot
returns-clause-forgot g c wired fans are =
    let was = c.walk.invariant in
    let many = was.replaced.many in
    let len = c.len.ensures ∙ c.walk.self.nodes.ok.0 in
    come_to_end c.args.program.now (g.F.Facts.map c.args.facts.now) c.args.old.now
    c.args.self.now.nodes.items c.args.self.now.fans c.args.self.now.ends.items c.args.self.now.index c.args.self.now.sources wired are.unseated c.walk.self.sources c.walk.self.nodes.items c.walk.self.fans c.walk.due.keys c.walk.dropped was.replaced c.walk.next (was.way wired fans are)
    was.within (λ k le lt. c.in_default.ensures.none refl k le (omega (arith, many, len, lt)))
