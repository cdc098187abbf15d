use Rattle.session.proofs.Common.{◌≡◌, Some, None, true, false, refl, sym, Absent, EventObserved, ReferenceFixed, Retract, is_event, newest, retract_absent}
use Rattle.session.proofs.Common.{retract_event, retract_fixed, retract_found, retract_observed, retract_fault_is, retraction_known, done_lines, on_ok, subst}
use Rattle.session.proofs.Common.{StayKnown, on_ok_weaker, refused_lines, refused_tries, tried_done}
use Rattle.session.proofs.state.State.retract.Goals as goal

pub returns-in_ok-tell_retracted-in-Some-clause-stands : goal.returns-in_ok-tell_retracted-in-Some-clause-stands
returns-in_ok-tell_retracted-in-Some-clause-stands c =
    let s = c.args.setting.now in
    let m = c.args.memory.now in
    on_ok_weaker c.take_away.result (λ moves. tried_done s m c.args.self.now (Retract c.args.ty c.args.id) c.take_away.new.memory c.take_away.new.self
    (λ w st suits. retract_fault_is s m c.args.self.now w c.requires.runs st c.args.ty c.args.id None
    (retract_found s.program c.args.ty.0 (newest c.args.self.now c.args.id.0) (sym c.if-are_observed.ensures) (sym c.if-is_reference.ensures) (c.in-Some.ensures.some refl))) moves) c.take_away.ensures.stands

pub returns-in_ok-tell_retracted-in-Some-clause-lines : goal.returns-in_ok-tell_retracted-in-Some-clause-lines
returns-in_ok-tell_retracted-in-Some-clause-lines c =
    let s = c.args.setting.now in
    let m = c.args.memory.now in
    on_ok c.take_away.result (done_lines s m c.args.self.now (Retract c.args.ty c.args.id) c.args.lines.now.items c.tell_retracted.new.lines.items _
    (λ w st suits. retract_fault_is s m c.args.self.now w c.requires.runs st c.args.ty c.args.id None
    (retract_found s.program c.args.ty.0 (newest c.args.self.now c.args.id.0) (sym c.if-are_observed.ensures) (sym c.if-is_reference.ensures) (c.in-Some.ensures.some refl))) (λ w st suits. refl) c.in_ok-tell_retracted-in-Some.ensures)

pub returns-in_ok-tell_retracted-in-Some-clause-known : goal.returns-in_ok-tell_retracted-in-Some-clause-known
returns-in_ok-tell_retracted-in-Some-clause-known c = λ known.
    let s = c.args.setting.now in
    let old = c.args.lines.now.items in
    on_ok c.take_away.result (subst (StayKnown s.program old) (sym c.in_ok-tell_retracted-in-Some.ensures) (retraction_known s.program old s.detail c.args.ty c.args.id))

pub returns-in_ok-tell_retracted-in-None-clause-stands : goal.returns-in_ok-tell_retracted-in-None-clause-stands
returns-in_ok-tell_retracted-in-None-clause-stands c =
    let s = c.args.setting.now in
    let m = c.args.memory.now in
    let event : is_event s.program c.args.ty.0 ≡ true = sym c.if-is_event.ensures in
    on_ok_weaker c.take_away_forgotten.result (λ moves. tried_done s m c.args.self.now (Retract c.args.ty c.args.id) c.take_away_forgotten.new.memory c.take_away_forgotten.new.self
    (λ w st suits. retract_fault_is s m c.args.self.now w c.requires.runs st c.args.ty c.args.id None
    (retract_event s.program c.args.ty.0 (newest c.args.self.now c.args.id.0) (sym c.if-are_observed.ensures) event)) moves) c.take_away_forgotten.ensures.stands

pub returns-in_ok-tell_retracted-in-None-clause-lines : goal.returns-in_ok-tell_retracted-in-None-clause-lines
returns-in_ok-tell_retracted-in-None-clause-lines c =
    let s = c.args.setting.now in
    let m = c.args.memory.now in
    let event : is_event s.program c.args.ty.0 ≡ true = sym c.if-is_event.ensures in
    on_ok c.take_away_forgotten.result (done_lines s m c.args.self.now (Retract c.args.ty c.args.id) c.args.lines.now.items c.tell_retracted-in-None.new.lines.items _
    (λ w st suits. retract_fault_is s m c.args.self.now w c.requires.runs st c.args.ty c.args.id None
    (retract_event s.program c.args.ty.0 (newest c.args.self.now c.args.id.0) (sym c.if-are_observed.ensures) event)) (λ w st suits. refl) c.in_ok-tell_retracted-in-None.ensures)

pub returns-in_ok-tell_retracted-in-None-clause-known : goal.returns-in_ok-tell_retracted-in-None-clause-known
returns-in_ok-tell_retracted-in-None-clause-known c = λ known.
    let s = c.args.setting.now in
    let old = c.args.lines.now.items in
    on_ok c.take_away_forgotten.result (subst (StayKnown s.program old) (sym c.in_ok-tell_retracted-in-None.ensures) (retraction_known s.program old s.detail c.args.ty c.args.id))

pub returns-in-None-2-clause-stands : goal.returns-in-None-2-clause-stands
returns-in-None-2-clause-stands c =
    let s = c.args.setting.now in
    let m = c.args.memory.now in
    let plain : is_event s.program c.args.ty.0 ≡ false = sym c.if-is_event.ensures in
    on_ok c.refuse-in-None-2.result (refused_tries s m c.args.self.now (Retract c.args.ty c.args.id) Absent
    (λ w st suits. retract_fault_is s m c.args.self.now w c.requires.runs st c.args.ty c.args.id (Some Absent)
    (retract_absent s.program c.args.ty.0 (newest c.args.self.now c.args.id.0) plain (sym c.if-is_reference.ensures) (c.in-None.ensures.none refl))) c.args.self.now refl)

pub returns-in-None-2-clause-lines : goal.returns-in-None-2-clause-lines
returns-in-None-2-clause-lines c =
    let s = c.args.setting.now in
    let m = c.args.memory.now in
    let plain : is_event s.program c.args.ty.0 ≡ false = sym c.if-is_event.ensures in
    on_ok_weaker c.refuse-in-None-2.result (refused_lines s m c.args.self.now (Retract c.args.ty c.args.id) Absent
    (λ w st suits. retract_fault_is s m c.args.self.now w c.requires.runs st c.args.ty c.args.id (Some Absent)
    (retract_absent s.program c.args.ty.0 (newest c.args.self.now c.args.id.0) plain (sym c.if-is_reference.ensures) (c.in-None.ensures.none refl))) c.args.lines.now.items c.refuse-in-None-2.new.lines.items) c.refuse-in-None-2.ensures.lines

pub returns-then-are_observed-clause-stands : goal.returns-then-are_observed-clause-stands
returns-then-are_observed-clause-stands c =
    let s = c.args.setting.now in
    let m = c.args.memory.now in
    on_ok c.refuse.result (refused_tries s m c.args.self.now (Retract c.args.ty c.args.id) EventObserved
    (λ w st suits. retract_fault_is s m c.args.self.now w c.requires.runs st c.args.ty c.args.id (Some EventObserved)
    (retract_observed s.program c.args.ty.0 (newest c.args.self.now c.args.id.0) (sym c.if-are_observed.ensures))) c.args.self.now refl)

pub returns-then-are_observed-clause-lines : goal.returns-then-are_observed-clause-lines
returns-then-are_observed-clause-lines c =
    let s = c.args.setting.now in
    let m = c.args.memory.now in
    on_ok_weaker c.refuse.result (refused_lines s m c.args.self.now (Retract c.args.ty c.args.id) EventObserved
    (λ w st suits. retract_fault_is s m c.args.self.now w c.requires.runs st c.args.ty c.args.id (Some EventObserved)
    (retract_observed s.program c.args.ty.0 (newest c.args.self.now c.args.id.0) (sym c.if-are_observed.ensures))) c.args.lines.now.items c.refuse.new.lines.items) c.refuse.ensures.lines

pub returns-then-are_observed-clause-known : goal.returns-then-are_observed-clause-known
returns-then-are_observed-clause-known c = λ known. c.refuse.ensures.known c.args.setting.now.program

pub returns-in-None-2-clause-known : goal.returns-in-None-2-clause-known
returns-in-None-2-clause-known c = λ known. c.refuse-in-None-2.ensures.known c.args.setting.now.program

pub returns-then-is_reference-clause-stands : goal.returns-then-is_reference-clause-stands
returns-then-is_reference-clause-stands c =
    let s = c.args.setting.now in
    let m = c.args.memory.now in
    on_ok c.refuse-then-is_reference.result (refused_tries s m c.args.self.now (Retract c.args.ty c.args.id) ReferenceFixed
    (λ w st suits. retract_fault_is s m c.args.self.now w c.requires.runs st c.args.ty c.args.id (Some ReferenceFixed)
    (retract_fixed s.program c.args.ty.0 (newest c.args.self.now c.args.id.0) c.requires.runs.runnable (sym c.if-is_reference.ensures))) c.args.self.now refl)

pub returns-then-is_reference-clause-lines : goal.returns-then-is_reference-clause-lines
returns-then-is_reference-clause-lines c =
    let s = c.args.setting.now in
    let m = c.args.memory.now in
    on_ok_weaker c.refuse-then-is_reference.result (refused_lines s m c.args.self.now (Retract c.args.ty c.args.id) ReferenceFixed
    (λ w st suits. retract_fault_is s m c.args.self.now w c.requires.runs st c.args.ty c.args.id (Some ReferenceFixed)
    (retract_fixed s.program c.args.ty.0 (newest c.args.self.now c.args.id.0) c.requires.runs.runnable (sym c.if-is_reference.ensures))) c.args.lines.now.items c.refuse-then-is_reference.new.lines.items) c.refuse-then-is_reference.ensures.lines

pub returns-then-is_reference-clause-known : goal.returns-then-is_reference-clause-known
returns-then-is_reference-clause-known c = λ known. c.refuse-then-is_reference.ensures.known c.args.setting.now.program
