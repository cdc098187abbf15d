use Rattle.drl_check.proofs.{Common.{◌≡◌, ◌+◌, Some, None, take, refl, sym, ap, ◌∙◌, arith, first_code, codes_in_order, Refused}, Failures.{failing_is}}
use Rattle.drl_check.proofs.Failures.{loop_found, loop_passed, loop_ended, type_names_next, entries_next, rule_names_next, known_names_next}
use Rattle.drl_scope.specs.EntryPoints.{with_names}
use Rattle.drl_check.proofs.refusal.refusal.Goals as goal

pub loop-place-init : goal.loop-place-init
unfolding with_names
loop-place-init c = record {
  types = c.none-earlier.ensures.types;
  entries = c.none-earlier.ensures.entries;
  rules = c.none-earlier.ensures.rules;
  known = c.in_ok-known.ensures;
  same = refl;
}

pub failing-requires : goal.failing-requires
failing-requires c = (c.loop-place.known, c.in_ok-known-2.ensures)

pub returns-in-Some : goal.returns-in-Some
returns-in-Some c =
    let items = c.args.items.now in
    let place = c.loop-place.place in
    let item = c.index-items-place.result in
    let code : first_code codes_in_order items (take place items) item.body ≡ Some c.in-Some.code =
    sym (failing_is items (take place items) c.args.whole.now.alone c.args.whole.now.types c.args.whole.now.watched c.loop-place.earlier.types c.loop-place.earlier.entries c.loop-place.earlier.rules c.loop-place.known item.body c.requires.alone c.requires.types c.requires.watched
    c.loop-place.invariant.types c.loop-place.invariant.entries c.loop-place.invariant.rules c.loop-place.invariant.known)
    ∙ sym (c.in_ok-code.ensures c.loop-place.known c.in_ok-known-2.ensures) ∙ c.in-Some.is in (
      record { number = place + 1; line = item.line; code = c.in-Some.code },
      sym c.loop-place.invariant.same ∙ loop_found items place item c.in-Some.code (omega arith) c.index-items-place.is code,
      ap (λ n. Refused n item.line c.in-Some.code) (sym c.number_of.ensures),
    )

pub loop-place-preserved : goal.loop-place-preserved
loop-place-preserved c =
    let items = c.args.items.now in
    let place = c.loop-place.place in
    let item = c.index-items-place.result in
    let code : first_code codes_in_order items (take place items) item.body ≡ None =
    sym (failing_is items (take place items) c.args.whole.now.alone c.args.whole.now.types c.args.whole.now.watched c.loop-place.earlier.types c.loop-place.earlier.entries c.loop-place.earlier.rules c.loop-place.known item.body c.requires.alone c.requires.types c.requires.watched
    c.loop-place.invariant.types c.loop-place.invariant.entries c.loop-place.invariant.rules c.loop-place.invariant.known)
    ∙ sym (c.in_ok-code.ensures c.loop-place.known c.in_ok-known-2.ensures) ∙ c.in-None.is in
    record {
      types = c.in_ok-earlier.ensures.types ∙ type_names_next items place item c.loop-place.earlier.types (omega arith) c.index-items-place.is c.loop-place.invariant.types;
      entries = c.in_ok-earlier.ensures.entries ∙ entries_next items place item c.loop-place.earlier.entries (omega arith) c.index-items-place.is c.loop-place.invariant.entries;
      rules = c.in_ok-earlier.ensures.rules ∙ rule_names_next items place item c.loop-place.earlier.rules (omega arith) c.index-items-place.is c.loop-place.invariant.rules;
      known = known_names_next items place item c.loop-place.known c.in_ok-known-2.known (omega arith) c.index-items-place.is c.loop-place.invariant.known c.in_ok-known-2.ensures;
      same = sym (loop_passed items place item (omega arith) c.index-items-place.is code) ∙ c.loop-place.invariant.same;
    }

pub returns : goal.returns
returns c = sym c.loop-place.invariant.same ∙ loop_ended c.args.items.now (take c.loop-place.place c.args.items.now) c.loop-place.place (omega arith)
