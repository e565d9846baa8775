-- What commands print.
use Rattle.std.specs.Prelude.{ℕ, List, codes, [], ◌++◌, length, decimal}
use Rattle.ebs_model.specs.declared.keys.PolicyKey.{PolicyKey}
use Rattle.ebs_model.specs.declared.answer.Answer.{Answer}
use Rattle.ebs_model.specs.declared.answer.Answer.TheVariants.{PolicyRan, Refused}
use Rattle.ebs_model.specs.declared.answer.Refusal.{Refusal}
use Rattle.ebs_model.specs.declared.answer.Refusal.TheVariants.{BadParameter, BadSize, BadIndex, BadBlockToken, BadPageToken, WrongState, Unrelated, Checksum, NotFound, NotOwner, TokenConflict, OpenUploads, Quota, Locked, RuleLocked, Exhausted, Unavailable, Damaged, NoSuchCall}
use Rattle.ebs_model.specs.Ids.{policy_id}
use Rattle.ebs_disk_store.specs.declared.checking.Checked.{Checked}
use Rattle.ebs_disk_store.specs.declared.collecting.Usage.{Usage}

-- the number of a refusal, which stands behind `E`
abbrev pub refusal_number : Refusal → ℕ
refusal_number (BadParameter name) = 1
refusal_number BadSize = 2
refusal_number BadIndex = 3
refusal_number BadBlockToken = 4
refusal_number BadPageToken = 5
refusal_number (WrongState state) = 6
refusal_number Unrelated = 7
refusal_number (Checksum stated found) = 8
refusal_number (NotFound kind) = 9
refusal_number NotOwner = 10
refusal_number (TokenConflict first) = 11
refusal_number OpenUploads = 12
refusal_number (Quota what number) = 13
refusal_number (Locked until) = 14
refusal_number RuleLocked = 15
refusal_number (Exhausted spent) = 16
refusal_number Unavailable = 17
refusal_number (Damaged stored found) = 18
refusal_number NoSuchCall = 19

abbrev pub made_text : List ℕ
made_text = codes "made\n"

-- what a policy's run made and deleted, or why it was refused
abbrev pub run_line : PolicyKey → Answer → List ℕ
run_line key (PolicyRan deleted made) = policy_id key ++ (codes " made " ++ (decimal (length made) ++ (codes " deleted " ++ (decimal (length deleted) ++ codes "\n"))))
run_line key (Refused refusal) = policy_id key ++ (codes " refused E" ++ (decimal (refusal_number refusal) ++ codes "\n"))
run_line key answer = []

abbrev pub check_line : Checked → List ℕ
check_line checked = codes "blocks " ++ (decimal checked.blocks ++ (codes " damaged " ++ (decimal checked.damaged ++ codes "\n")))

abbrev pub usage_line : Usage → List ℕ
usage_line usage = codes "standard " ++ (decimal usage.standard ++ (codes " archived " ++ (decimal usage.archived ++ (codes " leased " ++ (decimal usage.leased ++ codes "\n")))))

-- how many calls were given and accepted, and the usage behind them
abbrev pub sample_lines : ℕ → ℕ → Usage → List ℕ
sample_lines calls accepted usage = codes "calls " ++ (decimal calls ++ (codes " accepted " ++ (decimal accepted ++ (codes "\n" ++ usage_line usage))))
