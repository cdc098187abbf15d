use Rattle.{std.proofs.Common.{◌≡◌, ◌∙◌, Err, ap, sym}, desk_c.proofs.saved.Goals.{in-Ok, in-Err-NoMemory, in-Err-Refused, in-Err-Ended}}
use Rattle.desk_c.proofs.saved.Goals as goal

pub returns-clause-saved : goal.returns-clause-saved
returns-clause-saved c zero course fed out has = elim c.match-save_any.branch [
  | in-Ok w ↦ rw w.state-is ((rw c.deref.ensures at w.in-Ok.ensures.saved) course fed out has)
  | in-Err-NoMemory w ↦ absurd (let clash : 7 ≡ 0 = sym w.status-is ∙ zero in cc)
  | in-Err-Refused w ↦ absurd (let clash : 9 ≡ 0 = sym w.status-is ∙ zero in cc)
  | in-Err-Ended w ↦ absurd (let clash : 12 ≡ 0 = sym w.status-is ∙ zero in cc)
]

pub returns-clause-refused : goal.returns-clause-refused
returns-clause-refused c nine course fed out has = elim c.match-save_any.branch [
  | in-Ok w ↦ absurd (let clash : 0 ≡ 9 = sym w.status-is ∙ nine in cc)
  | in-Err-NoMemory w ↦ absurd (let clash : 7 ≡ 9 = sym w.status-is ∙ nine in cc)
  | in-Err-Refused w ↦ (rw c.deref.ensures at w.in-Err-Refused.ensures.refused) (ap Err w.in-Err-Refused.field-0-is) course fed out has
  | in-Err-Ended w ↦ absurd (let clash : 12 ≡ 9 = sym w.status-is ∙ nine in cc)
]
