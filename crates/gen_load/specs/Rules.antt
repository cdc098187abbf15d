-- The rule file of a load.
use Rattle.std.specs.Prelude.{ℕ, List, ◌++◌, codes}

unfoldable pub rules_text : List ℕ
rules_text =
    codes "declare Card @role( event ) acct : long amount : long end\n"
    ++ (codes "declare Ping @role( event ) acct : long end\n"
    ++ (codes "rule \"pair\" when $a : Card() Card( acct == $a.acct, this after[1ms,30s] $a ) then end\n"
    ++ (codes "rule \"silent\" when $a : Card( amount > 900 ) not( Ping( acct == $a.acct, this after[0s,10s] $a ) ) then end\n"
    ++ codes "rule \"busy\" when Number( longValue > 40 ) from accumulate( Card( $m : amount ) over window:time( 20s ), count( $m ) ) then end\n")))
