-- The members of an object are the entries of its map.
use Rattle.{script_read.proofs.Common.{◌≡◌, List, length, String, Global}, serde_json.specs.{Events.{members_len}, View.{members_view}}}
use Rattle.serde_json.{specs.declared.value.Value.{Value}, proofs.Views.{members_len-members_view}}

-- an object has as many members as its map has entries
pub members_are_entries : (es : List (String Global × Value)) → members_len (members_view es) ≡ length es
members_are_entries es = members_len-members_view es
