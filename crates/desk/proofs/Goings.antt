-- A run by the lives by which it goes, from what is done by a table.
use Rattle.std.{proofs.Common.{◌≡◌, ◌⊎◌, ◌≤◌, ℕ, List, Option, None, Some, Result, Ok, Err, refl, sym, subst}, specs.Prelude.{IfErr, IfSome}}
use Rattle.{fx_io.specs.Outside.{append, AppendsFront}, replay.specs.{declared.beginning.Beginning.{Beginning}, Wanted.{Files}}}
use Rattle.{rule_model.specs.declared.{life.LifeTable.{LifeTable}, program.Program.{Program}}, desk.specs.declared.going.Bar.{Bar, TheVariants.{Line}}}
use Rattle.desk.specs.{declared.going.{Bar.TheVariants.{NoMemory}, Found.{Found}, Inferred.{Inferred}}, Bars.{IsBarOf, IsBarWith, IsFoundOf}}
use Rattle.desk.specs.{declared.{live.Live.{Live}, wanted.{Begun.{Begun}, Changing.{Changing}}}, Changes.{Changed, begun_over}, Going.{AreInferred, IsBarred}}
use Rattle.desk.specs.{Going.{IsTold, MayGoBy}, Meanings.{Meanings}, Report.{GoesBy, IsGoing, IsKeptOut, IsPromptBy, IsPromptRun, IsSaid, IsStoppedBy}}
use Rattle.desk.specs.Report.{IsStoppedRun, LivesBy, live_in, table_by}

pub for_all : {A : Type 0} {P : A → Type 0} (o : Option A) → ((x : A) → P x) → IfSome o P
for_all None h = tt
for_all (Some x) h = h x

-- no run may go by its lives, as a line says
pub kept_out : (b : Begun) (text : List ℕ) (before after : Option (List ℕ)) (files files' : Option Files) (status : ℕ)
    → (inferred : Inferred) × AreInferred b.setting.program b.setting.later inferred × IsBarred b.setting.program inferred (table_by b inferred) text
    → IsSaid text 9 before after files files' status → IsKeptOut b before after files files' status
kept_out b text before after files files' status bar said = (bar.0, bar.1, text, bar.2, said)

-- of the lives that were inferred
pub barred_of : (p : Program) (later : Option Program) (beginning : Beginning) (lives : Option LifeTable) (inferred : Inferred) → AreInferred p later inferred
    → (r : Result Found Bar) → IfErr r (IsBarWith p inferred beginning lives) → IfErr r (IsBarOf p later beginning lives)
barred_of p later beginning lives inferred are (Ok found) bar = tt
barred_of p later beginning lives inferred are (Err (Line text)) bar = (inferred, are, bar)
barred_of p later beginning lives inferred are (Err NoMemory) bar = tt

-- the run and the table are those of some lives by which it goes
abbrev pub GoesOn : Begun → Live → LifeTable → Type 0
GoesOn b live table = (inferred : Inferred) × (told : Option LifeTable) × GoesBy b inferred told × (live ≡ live_in b told) × (table ≡ table_by b inferred)

pub goes_on_by : (b : Begun) (found : Found) → IsFoundOf b.setting.program b.setting.later b.beginning b.lives found → GoesOn b (live_in b found.told) found.table
goes_on_by b found on = (
  on.0,
  found.told,
  record {
    inferred_so = on.1;
    told_so = subst (λ (t : LifeTable). IsTold on.0.own t found.told) on.2.0 on.2.1;
    may_go = subst (MayGoBy b.setting.program on.0) on.2.0 on.2.2;
  },
  refl,
  on.2.0,
)

module _ (m : Meanings) (b : Begun) (live : Live) (table : LifeTable) (on : GoesOn b live table) where
  by_both : (P : Live → LifeTable → Type 0) → P live table → P (live_in b on.1) (table_by b on.0)
  by_both P h = subst (P (live_in b on.1)) on.4 (subst (λ (l : Live). P l table) on.3 h)

  pub is_going : (script : List ℕ) (before after : Option (List ℕ)) (files files' : Option Files) (status : ℕ) → LivesBy m live table script before after files files' status → IsGoing m b script before after files files' status
  is_going script before after files files' status h = (on.0, on.1, on.2, by_both (λ l t. LivesBy m l t script before after files files' status) h)

  pub is_prompt : (bytes : List ℕ) (before now : Option (List ℕ)) (files files' : Option Files) → IsPromptBy m live table bytes before now files files' → IsPromptRun m b bytes before now files files'
  is_prompt bytes before now files files' h = (on.0, on.1, on.2, by_both (λ l t. IsPromptBy m l t bytes before now files files') h)

  pub is_stopped : (script : List ℕ) (left before after : Option (List ℕ)) (files files' : Option Files) → IsStoppedBy m live table script left before after files files' → IsStoppedRun m b script left before after files files'
  is_stopped script left before after files files' h = (on.0, on.1, on.2, by_both (λ l t. IsStoppedBy m l t script left before after files files') h)

-- ---- behind a change

-- what a run does that is to write these lines first
abbrev pub GoesBehind : Meanings → List ℕ → Option (List ℕ) → Option (List ℕ) → Option Files → Option Files → ℕ → Begun → List ℕ → Type 0
GoesBehind m script before after files files' status b lines =
    IsGoing m b script (append before lines) after files files' status
    ⊎ IsKeptOut b before after files files' status
    ⊎ ((5 ≤ status) × (status ≤ 7) × AppendsFront before after lines × (files' ≡ files))

module _ (m : Meanings) (c : Changing) (b : Begun) (lines : List ℕ) (to : Changed c) (begins : b ≡ begun_over c to) (told : lines ≡ to.lines) where
  pub by_change : (P : Begun → List ℕ → Type 0) → P b lines → P (begun_over c to) to.lines
  by_change P h = subst (P (begun_over c to)) told (subst (λ (x : Begun). P x lines) begins h)

  pub from_change : (P : Begun → List ℕ → Type 0) → P (begun_over c to) to.lines → P b lines
  from_change P h = subst (λ (x : Begun). P x lines) (sym begins) (subst (P (begun_over c to)) (sym told) h)
