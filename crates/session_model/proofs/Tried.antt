-- Steps that are possible, or refused, one after the other.
use Rattle.session_model.proofs.Common.{◌≡◌, inr, List, [], ◌∷◌, ◌++◌, Some, None, Result, Ok, Err, refl, sym, ◌∙◌, ap, subst, append_assoc, OnOk, append-nil}
use Rattle.session_model.proofs.Common.{Code, Program, Step, IsOrdered, World, step_fault, stepped, step_lawful, Stays, same_stays, stays_on, OutLine, Fault}
use Rattle.session_model.proofs.Common.{Detail, Memory, Setting, does, refused, step_lines, tries, tries_with, AllFit, StandsAfter, Suits, Tries, Writes}
use Rattle.session_model.{proofs.{Common.{WritesFor, Contents, Standing}, Doing.{does_stays, next_fits}}, specs.{Gives.{does_all}, Leading.{MovesSession}}}

-- a step without a fault is done, and one with a fault is refused
pub is_done : (d : Detail) (p : Program) (w : World) (step : Step) → step_fault p w step ≡ None → tries d p w step ≡ (step_lines d p w step, stepped p w step)
is_done d p w step e = ap (tries_with d p w step) e

pub is_refused : (d : Detail) (p : Program) (w : World) (step : Step) (code : Code) → step_fault p w step ≡ Some code → tries d p w step ≡ refused w code
is_refused d p w step code e = ap (tries_with d p w step) e

module _ (s : Setting) (m : Memory) (k : Contents) (step : Step) where
  -- in each world that the step suits it has no fault; in each it has this one
  abbrev pub IsFaultless : Type 0
  IsFaultless = (w : World) → Standing s m k w → Suits s.program w step → step_fault s.program w step ≡ None

  abbrev pub HasFault : Code → Type 0
  HasFault code = (w : World) → Standing s m k w → Suits s.program w step → step_fault s.program w step ≡ Some code

  pub tried_done : (n : Memory) (t : Contents) → IsFaultless → MovesSession s m k step n t → Tries s m k step n t
  tried_done n t faultless moves w st suits =
      let none : step_fault s.program w step ≡ None = faultless w st suits in
      subst (λ (z : List OutLine × World). Standing s n t z.1) (sym (is_done s.detail s.program w step none))
      (moves w st none (step_lawful s.program w step st.seen.whole.lawful (suits.fits none) none))

  pub done_lines : (before after lines : List OutLine) → IsFaultless → ((w : World) → Standing s m k w → Suits s.program w step → step_lines s.detail s.program w step ≡ lines) → after ≡ before ++ lines → Writes s m k step before after
  done_lines before after lines faultless is e w st suits =
      e ∙ ap (λ z. before ++ z) (sym (is w st suits)) ∙ ap (λ (z : List OutLine × World). before ++ z.0) (sym (is_done s.detail s.program w step (faultless w st suits)))

  pub no_lines : (before : List OutLine) → IsFaultless → ((w : World) → step_lines s.detail s.program w step ≡ []) → Writes s m k step before before
  no_lines before faultless is = done_lines before before [] faultless (λ w st suits. is w) (sym (append-nil before))

  module _ (code : Code) (fault : HasFault code) where
    pub refused_tries : (t : Contents) → t ≡ k → Tries s m k step m t
    refused_tries t e w st suits =
        subst (λ (z : List OutLine × World). Standing s m t z.1) (sym (is_refused s.detail s.program w step code (fault w st suits))) (subst (λ (z : Contents). Standing s m z w) (sym e) st)

    pub refused_lines : (before after : List OutLine) → after ≡ before ++ Fault code ∷ [] → Writes s m k step before after
    refused_lines before after e w st suits = e ∙ ap (λ (z : List OutLine × World). before ++ z.0) (sym (is_refused s.detail s.program w step code (fault w st suits)))

-- ---- what is wanted

module _ (s : Setting) (m : Memory) (k : Contents) where
  -- a step that was tried keeps the session standing
  pub tried_stands : (step : Step) (n : Memory) (t : Contents) → Tries s m k step n t → StandsAfter s m k (Ok step) n t
  tried_stands step n t tried w st fits = tried w st (fits step refl)

  pub tried_writes : (step : Step) (before after : List OutLine) → Writes s m k step before after → WritesFor s m k (Ok step) before after
  tried_writes step before after written w st fits = written w st (fits step refl)

  pub refused_stands : (code : Code) (t : Contents) → t ≡ k → StandsAfter s m k (Err code) m t
  refused_stands code t e w st fits = subst (λ (z : Contents). Standing s m z w) (sym e) st

  pub refused_writes : (code : Code) (before after : List OutLine) → after ≡ before ++ Fault code ∷ [] → WritesFor s m k (Err code) before after
  refused_writes code before after e w st fits = e

pub on_ok_weaker : {T E P Q : Type 0} (r : Result T E) → (P → Q) → OnOk r P → OnOk r Q
on_ok_weaker (Ok x) f p = f p
on_ok_weaker (Err e) f p = tt

pub on_ok : {T E P : Type 0} (r : Result T E) → P → OnOk r P
on_ok (Ok x) p = p
on_ok (Err e) p = tt

-- ---- steps one after the other

-- some were done, and the world that they lead to has the rest before it; the rest fits the first world, whose facts have kept their types
pub record SoFar (s : Setting) (w : World) (plan : List (Result Step Code)) (before lines : List OutLine) (m : Memory) (k : Contents) (rest : List (Result Step Code)) : Type 0 where
  pub world : World
  pub stands : Standing s m k world
  pub stays : Stays w world
  pub fit : AllFit s.program w rest
  pub written : before ++ (does_all s.detail s.program w plan).0 ≡ lines ++ (does_all s.detail s.program world rest).0
  pub left : (does_all s.detail s.program w plan).1 ≡ (does_all s.detail s.program world rest).1

module _ (s : Setting) (w : World) (plan : List (Result Step Code)) (before : List OutLine) where
  pub none_done : (m : Memory) (k : Contents) → Standing s m k w → AllFit s.program w plan → SoFar s w plan before before m k plan
  none_done m k st fit = record { world = w; stands = st; stays = same_stays w w refl refl; fit = fit; written = refl; left = refl }

  pub one_done : (lines later : List OutLine) (m n : Memory) (k t : Contents) (wanted : Result Step Code) (rest : List (Result Step Code)) → IsOrdered s.program w
      → SoFar s w plan before lines m k (wanted ∷ rest) → StandsAfter s m k wanted n t → WritesFor s m k wanted lines later → SoFar s w plan before later n t rest
  unfolding does_all
  one_done lines later m n k t wanted rest o f stands written =
      let p = s.program in
      let done = does s.detail p f.world wanted in
      let ordered = f.stands.seen.whole.lawful.ordered in
      let fits = next_fits p w o f.world wanted rest f.fit ordered f.stays in
      record {
        world = done.1;
        stands = stands f.world f.stands fits;
        stays = stays_on w f.world done.1 f.stays (does_stays s.detail p f.world wanted ordered);
        fit = λ step i. f.fit step (inr i);
        written = f.written ∙ sym (append_assoc lines done.0 (does_all s.detail p done.1 rest).0) ∙ ap (λ z. z ++ (does_all s.detail p done.1 rest).0) (sym (written f.world f.stands fits));
        left = f.left;
      }

  pub all_done_stands : (lines : List OutLine) (m : Memory) (k : Contents) → SoFar s w plan before lines m k [] → Standing s m k (does_all s.detail s.program w plan).1
  unfolding does_all
  all_done_stands lines m k f = subst (Standing s m k) (sym f.left) f.stands

  pub all_done_lines : (lines : List OutLine) (m : Memory) (k : Contents) → SoFar s w plan before lines m k [] → lines ≡ before ++ (does_all s.detail s.program w plan).0
  unfolding does_all
  all_done_lines lines m k f = sym (append-nil lines) ∙ sym f.written
