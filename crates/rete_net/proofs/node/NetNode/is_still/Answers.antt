use Rattle.rete_net.proofs.{Common.{subst, to_z, of_z, to_z-of_z, w64, SFits, ◌≡◌, ℤ, lent, Pattern, pattern_of, condition_of}, Skipping.{GateStays, skipped}}
use Rattle.std.proofs.Common.{option_map}
use Rattle.rete_net.proofs.node.NetNode.is_still.Goals as goal

pub returns-then-is_still : goal.returns-then-is_still
returns-then-is_still c told look left none =
    let p = c.args.program.now in
    let gone = lent c.args.gone.now in
    let come = option_map (λ f. f.now) c.args.come in
    let gate = c.args.self.now.gate in
    let clock = c.args.moment.now.clock in
    let fits : SFits w64 clock = search in
    let whole : to_z w64 (of_z w64 clock) ≡ clock = to_z-of_z fits in
    skipped p look gone come c.args.moment.now c.args.self.now left
    (subst (λ (at : ℤ). GateStays p (pattern_of (condition_of c.args.self.now.node)) gate gone come at) whole
    (subst (λ (q : Pattern). GateStays p q gate gone come (to_z w64 (of_z w64 clock))) c.pattern.ensures (record {
      stands = c.is_still-then-is_still.ensures.stands told p;
      candidates = c.is_still-then-is_still.ensures.candidates told p;
    })))
    (c.is_still.ensures.stands c.if-is_still.true) (c.is_still.ensures.rows c.if-is_still.true) none
