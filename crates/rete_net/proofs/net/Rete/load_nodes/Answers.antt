use Rattle.rete_net.proofs.Common.{◌≡◌, ◌∙◌, sym, ap, refl, subst, ◌<◌, length, arith, List, [], Err, Option, Some, slice_get, slice_get-get_or, filter, Delta}
use Rattle.rete_net.proofs.Common.{Row, ℤ, to_z, of_z, to_z-of_z, w64, SFits, slice_get_within, Bor, Vec, Fact, condition_of, pattern_of, seat_at, lent, Owner}
use Rattle.rete_net.proofs.Common.{Index, NoRow, left_given, IsAnswerPut, AreFanRowsTurned, type_of, grouped_facts_at, is_fact_of_type, empty_row_comes}
use Rattle.rete_net.{specs.Loads.{MayLoad}, proofs.{Filling.{same_fault}, Lading.{set_off, stuck_at, take_one, come_to_end, IsUnderWay}, Fanning.{laid_same}}}
use Rattle.rete_net.proofs.{Fanning.{laid_then}, Rescheduled.{scheduled_below}, Sourced.{by_both}, Stocked.{has_loaded, may_load_alike}, Walking.{not_replaced}}
use Rattle.{rete_net.proofs.Walking.{replaced_more}, candidate_source.{proofs.Moving.{laid_then as sources_then}, specs.declared.source.Source.{Source}}}
use Rattle.candidate_source.specs.{Doors.{source_pattern}, Sources.{facts_of_type, source_at, IsLoadedWith}}
use Rattle.rete_net.proofs.net.Rete.load_nodes.Goals as goal

pub loop-place-init : goal.loop-place-init
loop-place-init g c =
    let look = g.F.Facts.map c.args.facts.now in
    let kept = lent c.args.kept.now in
    let sources = c.args.self.now.sources in
    let told = c.in_ok-load.ensures in
    let clock = c.args.moment.now.clock in
    let fits : SFits w64 clock = search in
    let whole : to_z w64 (of_z w64 clock) ≡ clock = to_z-of_z fits in
    record {
      ends = refl;
      owners = refl;
      index = refl;
      replaced = not_replaced c.args.self.now.nodes.items;
      laid = laid_same c.args.self.now.fans c.begin.new.self c.begin.ensures.seats c.begin.ensures.spans c.begin.ensures.lone c.begin.ensures.list;
      sourced = told.laid;
      apart = told.apart;
      scheduled = λ k n e lt timed. absurd (omega (arith, lt));
      way = λ wired sorted fans are.
          set_off c.args.program.now look kept c.args.extras.now c.args.moment.now empty_row_comes c.args.self.now.nodes.items c.args.self.now.fans c.args.self.now.owners.items c.args.self.now.ends.items
          c.args.self.now.index sources wired c.load.new.self c.begin.new.self c.new-answered.result fans c.begin.ensures.seats c.begin.ensures.spans c.begin.ensures.lone c.begin.ensures.list c.begin.ensures.halves
          (c.new-answered.ensures.none ∙ c.no_change.ensures) c.new-answered.ensures.answers;
      may = λ are k n le e.
          by_both sources c.load.new.self told.laid are.apart k (λ (a b : Option Source). MayLoad kept clock look a b (pattern_of (condition_of n.node))) tt
          (λ at a b ea eb wa wb.
          has_loaded kept clock look c.in_ok-groups.groups.items c.in_ok-groups.ensures a b n (are.sourced k n a e wa)
          (subst (λ (groups : List (Vec (Bor Fact))). IsLoadedWith (source_pattern a) (facts_of_type groups (source_pattern a).ty.0) clock look b) c.deref.ensures.value
          (subst (λ (at : ℤ). IsLoadedWith (source_pattern a) (facts_of_type c.deref.result.now (source_pattern a).ty.0) at look b) whole (told.loaded k a b wa wb))));
    }

pub loop-place-preserved : goal.loop-place-preserved
loop-place-preserved g c =
    let was = c.loop-place.invariant in
    let nodes = c.loop-place.self.nodes.items in
    let place = c.loop-place.place in
    let n = c.index_mut-node.result.now in
    let many = was.replaced.many in
    let low = c.loop-place-test.true in
    let len : c.len-place-end.result ≡ length c.args.self.now.nodes.items = c.len-place-end.ensures ∙ c.args.self.now.nodes.ok.0 in
    let within : c.loop-place.place < length c.loop-place.self.nodes.items = omega (arith, low, len, many) in
    let at : slice_get c.loop-place.self.nodes.items c.loop-place.place ≡ Some c.index_mut-node.result.now = slice_get-get_or nodes place n within ∙ ap Some (sym c.index_mut-node.ensures.value) in
    let kept = (lent c.args.kept.now) in
    let theirs : lent c.of_type-theirs.result.now ≡ filter (is_fact_of_type (type_of c.index_mut-node.result.now)) (lent c.args.kept.now) =
    c.of_type-theirs.ensures (c.deref-in-loop-place-3.ensures.value ∙ c.new-none.ensures.items)
    ∙ ap (λ groups. grouped_facts_at groups c.ty.result.0) c.deref-in-loop-place-2.ensures.value ∙ c.in_ok-groups.ensures c.ty.result.0 ∙ ap (λ ty. filter (is_fact_of_type ty) kept) c.ty.ensures in
    let told = c.in_ok-delta.ensures in
    let mid = c.load_in.new.fans in
    let then = c.turn_rows.new.self in
    let of = c.load_in.new.sources in
    let look = g.F.Facts.map c.args.facts.now in
    record {
      ends = was.ends;
      owners = was.owners;
      index = was.index;
      replaced = replaced_more c.args.self.now.nodes.items nodes place n c.load_in.new.self was.replaced at told.parent told.condition;
      laid = laid_then c.args.self.now.fans mid then (laid_then c.args.self.now.fans c.loop-place.self.fans mid was.laid told.laid) c.in_ok-turn_rows.ensures.laid;
      sourced = sources_then c.args.self.now.sources c.loop-place.self.sources of was.sourced told.sources.laid;
      apart = λ apart. told.sources.apart (was.apart apart);
      scheduled =
          scheduled_below c.args.program.now c.loop-place.self.sources of nodes c.loop-place.self.schedule c.put.new.self place n c.load_in.new.self told.sources.laid told.sources.each at c.in_ok-put.ensures.put c.in_ok-put.ensures.others was.scheduled;
      way = λ wired sorted fans are.
          let way = was.way wired sorted fans are in
          take_one c.args.program.now look (lent c.args.kept.now) c.args.extras.now c.args.moment.now empty_row_comes c.args.self.now.nodes.items c.args.self.now.fans c.args.self.now.owners.items c.args.self.now.ends.items
          c.args.self.now.index c.args.self.now.sources wired c.loop-place.self.sources nodes c.loop-place.self.fans c.loop-place.answered place way n at c.load_in.new.self told.parent told.condition was.replaced
          (replaced_more nodes nodes place n c.load_in.new.self (not_replaced nodes) at told.parent told.condition) mid told.laid told.others c.extras_of-own.result.now
          (λ o e. c.extras_of-own.ensures sorted o (ap (λ (owners : List Owner). slice_get owners place) (c.deref-in-loop-place.ensures.value ∙ ap (λ owners. owners.items) was.owners) ∙ e))
          c.as_slice-rows.result.now
          (c.as_slice-rows.ensures ∙ ap (λ (d : Delta). d.come) (c.left-left.ensures ∙ ap (λ (d : Delta). left_given d c.loop-place.answered n.parent) c.in_ok-first.ensures))
          c.in_ok-delta.delta of told.sources.each
          (λ member of_seat halved.
          told.loads member (source_at c.args.self.now.sources place) kept theirs of_seat halved (λ s e. ap (λ l. seat_at l.items place) was.laid.seats ∙ are.unseated place s e)
          (was.may are place n (omega arith) (sym (way.shared.rest place (omega arith)) ∙ at)))
          told.there then c.in_ok-turn_rows.ensures.laid
          (λ ns are. subst (λ (rows : List Row). AreFanRowsTurned look place [] rows mid then) c.as_slice-came.ensures (c.in_ok-turn_rows.ensures.turned ns are))
          c.put_delta.new.answered (subst (λ (i : Index). IsAnswerPut i place c.in_ok-delta.delta c.loop-place.answered c.put_delta.new.answered) was.index (c.in_ok-put_delta.ensures.put way.way.none));
      may = λ are k m le e.
          may_load_alike k kept c.args.moment.now.clock look (source_at c.args.self.now.sources k) (source_at c.loop-place.self.sources k) (source_at of k) (pattern_of (condition_of m.node))
          (told.sources.each k (λ same. absurd (omega (arith, le, same)))) (was.may are k m (omega (arith, le)) e);
    }

pub returns-in_err-delta-clause-stuck : goal.returns-in_err-delta-clause-stuck
returns-in_err-delta-clause-stuck g c fault wired sorted fans are =
    let was = c.loop-place.invariant in
    let nodes = c.loop-place.self.nodes.items in
    let place = c.loop-place.place in
    let n = c.index_mut-node.result.now in
    let many = was.replaced.many in
    let low = c.loop-place-test.true in
    let len : c.len-place-end.result ≡ length c.args.self.now.nodes.items = c.len-place-end.ensures ∙ c.args.self.now.nodes.ok.0 in
    let within : c.loop-place.place < length c.loop-place.self.nodes.items = omega (arith, low, len, many) in
    let at : slice_get c.loop-place.self.nodes.items c.loop-place.place ≡ Some c.index_mut-node.result.now = slice_get-get_or nodes place n within ∙ ap Some (sym c.index_mut-node.ensures.value) in
    let way = was.way wired sorted fans are in
    stuck_at c.args.program.now (g.F.Facts.map c.args.facts.now) (lent c.args.kept.now) c.args.extras.now c.args.moment.now empty_row_comes c.args.self.now.nodes.items c.args.self.now.fans c.args.self.now.owners.items c.args.self.now.ends.items
    c.args.self.now.index c.args.self.now.sources wired c.loop-place.self.sources nodes c.loop-place.self.fans c.loop-place.answered place way n at c.extras_of-own.result.now
    (λ o e. c.extras_of-own.ensures sorted o (ap (λ (owners : List Owner). slice_get owners place) (c.deref-in-loop-place.ensures.value ∙ ap (λ owners. owners.items) was.owners) ∙ e))
    c.as_slice-rows.result.now
    (c.as_slice-rows.ensures ∙ ap (λ (d : Delta). d.come) (c.left-left.ensures ∙ ap (λ (d : Delta). left_given d c.loop-place.answered n.parent) c.in_ok-first.ensures))
    (c.in_err-delta.ensures.no_row (ap Err (same_fault c.from_residual-in_err-delta.result c.in_err-delta.field-0.0 NoRow fault c.from_residual-in_err-delta.ensures.1)))

pub returns-clause-loaded : goal.returns-clause-loaded
returns-clause-loaded g c wired sorted fans are =
    let was = c.loop-place.invariant in
    let len : c.len-place-end.result ≡ length c.args.self.now.nodes.items = c.len-place-end.ensures ∙ c.args.self.now.nodes.ok.0 in
    let over = c.loop-place-test.false in
    let last = c.loop-place.auto.place-end in
    let all : c.loop-place.place ≡ length c.args.self.now.nodes.items = omega (arith, over, last, len) in
    come_to_end c.args.program.now (g.F.Facts.map c.args.facts.now) (lent c.args.kept.now) c.args.extras.now c.args.moment.now empty_row_comes c.args.self.now.nodes.items c.args.self.now.fans c.args.self.now.owners.items
    c.args.self.now.ends.items c.args.self.now.index c.args.self.now.sources wired c.loop-place.self.sources c.loop-place.self.nodes.items c.loop-place.self.fans c.loop-place.answered
    (subst (IsUnderWay c.args.program.now (g.F.Facts.map c.args.facts.now) (lent c.args.kept.now) c.args.extras.now c.args.moment.now empty_row_comes c.args.self.now.nodes.items c.args.self.now.fans c.args.self.now.owners.items
    c.args.self.now.ends.items c.args.self.now.index c.args.self.now.sources wired c.loop-place.self.sources c.loop-place.self.nodes.items c.loop-place.self.fans c.loop-place.answered) all (was.way wired sorted fans are))

pub returns-clause-scheduled : goal.returns-clause-scheduled
returns-clause-scheduled g c k n e timed =
    let was = c.loop-place.invariant in
    let many = was.replaced.many in
    let len : c.len-place-end.result ≡ length c.args.self.now.nodes.items = c.len-place-end.ensures ∙ c.args.self.now.nodes.ok.0 in
    let over = c.loop-place-test.false in
    let within : k < length c.loop-place.self.nodes.items = slice_get_within c.loop-place.self.nodes.items k n e in
    was.scheduled k n e (omega (arith, over, len, many, within)) timed
