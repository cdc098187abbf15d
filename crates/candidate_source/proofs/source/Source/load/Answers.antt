use Rattle.candidate_source.proofs.{Common.{◌∙◌, ap, List, Named, Row, is_some, has, has_name, row_naming}, Steps.{loaded_names, loaded_listed, loaded_agrees}}
use Rattle.{std.proofs.Common.{to_z-of_z}, condition_rows.specs.Sets.{candidates_of}}
use Rattle.candidate_source.proofs.source.Source.load.Goals as goal

pub returns-clause-gate : goal.returns-clause-gate
returns-clause-gate g c =
    let fits = c.ranges.clock in
    simp to_z-of_z at c.in_ok-gate.ensures.stands

pub returns-clause-names : goal.returns-clause-names
returns-clause-names g c p s good orderly are at =
    let fits = c.ranges.clock in
    let candidates = simp to_z-of_z at c.in_ok-gate.ensures.candidates in
    loaded_names (g.F.Facts.map c.args.facts.now) c.new-own.result c.put_all.new.own c.as_slice-2.result.now (λ value who. ap is_some (c.new-own.ensures.nothing value who)) c.in_ok-put_all.ensures
    c.in_ok-gate.delta (candidates_of p c.args.pattern s) (candidates p s good orderly are at)
    (λ who. ap (λ (names : List Named). has_name names who) c.as_slice-2.ensures.value ∙ c.in_ok-names.ensures who ∙ ap (λ (rows : List Row). has rows (row_naming who)) c.as_slice.ensures)

pub returns-clause-agrees : goal.returns-clause-agrees
returns-clause-agrees g c =
    loaded_agrees (g.F.Facts.map c.args.facts.now) c.new-own.result c.put_all.new.own c.as_slice-2.result.now (λ value who. ap is_some (c.new-own.ensures.nothing value who)) c.in_ok-put_all.ensures

pub returns-clause-listed : goal.returns-clause-listed
returns-clause-listed g c = (
  c.as_slice-2.result.now,
  loaded_listed (g.F.Facts.map c.args.facts.now) c.new-own.result c.put_all.new.own c.as_slice-2.result.now (λ value who. ap is_some (c.new-own.ensures.nothing value who)) c.in_ok-put_all.ensures,
)
