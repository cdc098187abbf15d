-- The words that have a meaning in one place of a condition.
use Rattle.std.specs.{Prelude.{ℕ, List, Option, Some, None, if◌then◌else◌, codes}, Str.{bytes_eq}}
use Rattle.temporal_ops.specs.declared.word.OpWord.{OpWord, TheVariants.{After, Before, Coincides, During, Includes, Finishes, FinishedBy, Starts, StartedBy}}
use Rattle.temporal_ops.specs.declared.word.OpWord.TheVariants.{Meets, MetBy, Overlaps, OverlappedBy}
use Rattle.drl_grammar.specs.declared.condition.{FoldWord.{FoldWord, TheVariants.{Count, Sum, Min, Max, Average}}, ResultWord.{ResultWord}}
use Rattle.drl_grammar.specs.declared.condition.ResultWord.TheVariants.{LongValue, IntValue}
use Rattle.drl_condition.specs.declared.words.{WindowWord.{WindowWord, TheVariants.{TimeWord, LengthWord}}, Form.{Form}}
use Rattle.drl_condition.specs.declared.words.Form.TheVariants as form

unfoldable pub op_word : List ℕ → Option OpWord
op_word w = if bytes_eq w (codes "after") then Some After else if bytes_eq w (codes "before") then Some Before
    else if bytes_eq w (codes "coincides") then Some Coincides else if bytes_eq w (codes "during") then Some During
    else if bytes_eq w (codes "includes") then Some Includes else if bytes_eq w (codes "finishes") then Some Finishes
    else if bytes_eq w (codes "finishedby") then Some FinishedBy else if bytes_eq w (codes "starts") then Some Starts
    else if bytes_eq w (codes "startedby") then Some StartedBy else if bytes_eq w (codes "meets") then Some Meets
    else if bytes_eq w (codes "metby") then Some MetBy else if bytes_eq w (codes "overlaps") then Some Overlaps
    else if bytes_eq w (codes "overlappedby") then Some OverlappedBy else None

unfoldable pub fold_word : List ℕ → Option FoldWord
fold_word w = if bytes_eq w (codes "count") then Some Count else if bytes_eq w (codes "sum") then Some Sum
    else if bytes_eq w (codes "min") then Some Min else if bytes_eq w (codes "max") then Some Max
    else if bytes_eq w (codes "average") then Some Average else None

unfoldable pub result_word : List ℕ → Option ResultWord
result_word w = if bytes_eq w (codes "longValue") then Some LongValue else if bytes_eq w (codes "intValue") then Some IntValue else None

unfoldable pub window_word : List ℕ → Option WindowWord
window_word w = if bytes_eq w (codes "time") then Some TimeWord else if bytes_eq w (codes "length") then Some LengthWord else None

-- the form of a condition that begins with this word
unfoldable pub word_form : List ℕ → Form
word_form w = if bytes_eq w (codes "not") then form.Negation else if bytes_eq w (codes "exists") then form.Existence
    else if bytes_eq w (codes "accumulate") then form.Accumulate else if bytes_eq w (codes "Number") then form.Number else form.Pattern
