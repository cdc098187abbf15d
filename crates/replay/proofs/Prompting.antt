-- What is written when a run asks for more of its script is what is wanted then.
use Rattle.replay.proofs.Common.{◌≡◌, ℕ, List, Option, refl, sym, subst, append, Run, Save, LifeTable, Program, AreLives, World, empty_world, Gives, Fires}
use Rattle.replay.proofs.Common.{Counts, run_on, RunState, setting_of, whole_run, first_behind, Beginning, First, Behind, BeginsIn, part_of, wanted_at}
use Rattle.{replay.{specs.Report.{IsPrompt}, proofs.Tables.{by_table}}, line_run.specs.Prompt.{whole_lines}, script_run.specs.Run.{run as run_lines}}

-- a run, from each world of its beginning
pub prompt_run : (gives : Gives) (fires : Fires) (counts : Counts) (limit : ℕ) (p : Program) (table : LifeTable) → AreLives p table → (b : Beginning) (bytes : List ℕ) (before now : Option (List ℕ))
    → ((w : World) → BeginsIn p table b w → now ≡ append before (run_on (setting_of gives fires counts limit p table) w (part_of b) (whole_lines bytes)).bytes)
    → IsPrompt gives fires counts (wanted_at Run limit b p) bytes before now
prompt_run gives fires counts limit p table are (First rules) bytes before now h = λ t are'.
    by_table p (λ (u : LifeTable). now ≡ append before (whole_run (setting_of gives fires counts limit p u) (whole_lines bytes)).bytes) table t are are'
    (subst (λ (s : RunState). now ≡ append before (run_lines (setting_of gives fires counts limit p table) s (whole_lines bytes)).bytes) (sym (first_behind limit rules)) (h empty_world refl))
prompt_run gives fires counts limit p table are (Behind image) bytes before now h = λ t are' w lawful is.
    by_table p (λ (u : LifeTable). (v : World) → BeginsIn p u (Behind image) v → now ≡ append before (run_on (setting_of gives fires counts limit p u) v image.run (whole_lines bytes)).bytes) table t are are' h w (lawful, is)

-- a run that is saved writes nothing
pub prompt_save : (gives : Gives) (fires : Fires) (counts : Counts) (limit : ℕ) (p : Program) (b : Beginning) (bytes : List ℕ) (before now : Option (List ℕ)) → now ≡ before
    → IsPrompt gives fires counts (wanted_at Save limit b p) bytes before now
prompt_save gives fires counts limit p (First rules) bytes before now h = h
prompt_save gives fires counts limit p (Behind image) bytes before now h = h
