-- Digits, and the texts of ids.
use Rattle.std.specs.Prelude.{ℕ, ◌-◌, List, ◌++◌, false, length, replicate, codes}
use Rattle.std.specs.Fmt.{digits, decimal}
use Rattle.ebs_model.specs.declared.keys.SnapKey.{SnapKey}
use Rattle.ebs_model.specs.declared.keys.VolKey.{VolKey}
use Rattle.ebs_model.specs.declared.keys.RuleKey.{RuleKey}
use Rattle.ebs_model.specs.declared.keys.PolicyKey.{PolicyKey}

-- the lower-case hexadecimal digits of a number, after as many zeros as the width wants
abbrev pub hex_of_width : ℕ → ℕ → List ℕ
hex_of_width width n = replicate (width - length (digits 16 false n)) 48 ++ digits 16 false n

-- the decimal digits of a number, after as many zeros as the width wants
abbrev pub decimal_of_width : ℕ → ℕ → List ℕ
decimal_of_width width n = replicate (width - length (decimal n)) 48 ++ decimal n

unfoldable pub snap_id : SnapKey → List ℕ
snap_id key = codes "snap-" ++ (hex_of_width 10 key.account ++ hex_of_width 7 key.number)

unfoldable pub vol_id : VolKey → List ℕ
vol_id key = codes "vol-" ++ (hex_of_width 10 key.account ++ hex_of_width 7 key.number)

unfoldable pub rule_id : RuleKey → List ℕ
rule_id key = codes "rule-" ++ (hex_of_width 10 key.account ++ hex_of_width 7 key.number)

unfoldable pub policy_id : PolicyKey → List ℕ
policy_id key = codes "policy-" ++ (hex_of_width 10 key.account ++ hex_of_width 7 key.number)
