-- How the facts and the timers of a session are stored.
use Rattle.std.specs.{Prelude.{ℕ, ℤ, List, refl}, Coded.{Coded, code_by, coded_list, coded_ℕ, coded_ℤ, coded×}}
use Rattle.fx_base.specs.declared.{value.Value.{Value}, fact.Fact.{Fact}}
use Rattle.fact_store.specs.Held.{HeldFacts}
use Rattle.due_queue.specs.Timers.{Timers}
use Rattle.rule_model.specs.ExpressionCode.{value_code}
use Rattle.std.specs.FinMap as map

abbrev pub fact_code : Coded Fact
fact_code =
    code_by (ℕ × (ℕ × (ℕ × (List Value × (ℕ × (ℤ × ℤ))))))
    (coded× coded_ℕ (coded× coded_ℕ (coded× coded_ℕ (coded× (coded_list value_code) (coded× coded_ℕ (coded× coded_ℤ coded_ℤ))))))
    (λ f. (f.id.0, (f.ty.0, (f.entry.0, (f.fields, (f.tag.0, (f.times.start, f.times.end)))))))
    (λ p. record {
      id = record { 0 = p.0 };
      ty = record { 0 = p.1.0 };
      entry = record { 0 = p.1.1.0 };
      fields = p.1.1.1.0;
      tag = record { 0 = p.1.1.1.1.0 };
      times = record { start = p.1.1.1.1.1.0; end = p.1.1.1.1.1.1 };
    })
    (λ _. refl)

abbrev pub held_code : Coded HeldFacts
held_code = map.code coded_ℕ fact_code

abbrev pub timers_code : Coded Timers
timers_code = map.code coded_ℕ coded_ℤ
