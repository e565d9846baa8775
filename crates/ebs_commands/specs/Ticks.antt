-- A command's own calls, and the runs of all policies.
use Rattle.std.specs.Prelude.{ℕ, List, map, Bool, true, false, ◌≡◌, ◌⊎◌, [], ◌∷◌, ◌++◌}
use Rattle.std.specs.List.{flat_map, list_all}
use Rattle.std.specs.FinMap as fin
use Rattle.ebs_model.specs.declared.keys.Moment.{Moment}
use Rattle.ebs_model.specs.declared.request.Request.{Request}
use Rattle.ebs_model.specs.declared.answer.Answer.{Answer}
use Rattle.ebs_world.specs.Ends.{Outlet}
use Rattle.ebs_model.specs.declared.answer.Answer.TheVariants as said
use Rattle.ebs_model.specs.declared.answer.Refusal.TheVariants.{Unavailable}
use Rattle.ebs_model.specs.Machine.{Machine}
use Rattle.ebs_model.specs.declared.keys.PolicyKey.{PolicyKey}
use Rattle.ebs_model.specs.declared.policy.Policy.{Policy}
use Rattle.ebs_model.specs.declared.request.Request.TheVariants.{RunPolicy}
use Rattle.ebs_commands.specs.Lines.{run_line}
use Rattle.ebs_commands.specs.Ends.{Wrote, FailedAt}
use Rattle.ebs_commands.specs.declared.ending.CommandEnd.{CommandEnd}
use Rattle.ebs_commands.specs.declared.ending.CommandEnd.TheVariants.{Done, DiskFailed, AlreadyMade, OutputFailed, Memory, Damaged, Exhausted}

-- a call of an account at a reading
pub record Asked : Type 0 where
  pub account : ℕ
  pub reading : Moment
  pub request : Request

-- a policy whose run was answered so
abbrev pub RunAnswer : Type 0
RunAnswer = PolicyKey × Answer

-- the policies of a machine, in ascending account and then number
abbrev pub policy_keys : Machine → List PolicyKey
policy_keys m = map (λ (e : PolicyKey × Policy). e.0) (fin.entries m.policies)

-- the call that runs a policy, of the policy's own account
abbrev pub run_asked : Moment → PolicyKey → Asked
run_asked reading key = record { account = key.account; reading = reading; request = RunPolicy key }

abbrev pub run_calls : Moment → List RunAnswer → List (Asked × Answer)
run_calls reading runs = map (λ (r : RunAnswer). (run_asked reading r.0, r.1)) runs

abbrev pub keys_in : List RunAnswer → List PolicyKey
keys_in runs = map (λ (r : RunAnswer). r.0) runs

abbrev pub lines_of : List RunAnswer → List ℕ
lines_of runs = flat_map (λ (r : RunAnswer). run_line r.0 r.1) runs

-- after this answer the next policy is run
abbrev pub goes_on : Answer → Bool
goes_on (said.Refused Unavailable) = false
goes_on said.Memory = false
goes_on answer = true

-- none of these answers ends the command, and their lines were written
abbrev pub Tell : List RunAnswer → Outlet → Outlet → Type 0
Tell runs before after = (list_all (λ (r : RunAnswer). goes_on r.1) runs ≡ true) × Wrote before after (lines_of runs)

-- how the runs of these policies ended, what they wrote, and whether the disk failed
abbrev pub Ends : CommandEnd → Type 0 → List PolicyKey → List RunAnswer → Outlet → Outlet → Type 0
Ends Done rose keys runs before after = (keys_in runs ≡ keys) × Tell runs before after
Ends DiskFailed rose keys runs before after =
    rose × ((first : List RunAnswer) × (last : RunAnswer) × (rest : List PolicyKey) × (runs ≡ first ++ last ∷ []) × (keys ≡ keys_in runs ++ rest) × (last.1 ≡ said.Refused Unavailable) × Tell first before after)
Ends OutputFailed rose keys runs before after =
    (first : List RunAnswer) × (last : RunAnswer) × (rest : List PolicyKey) × (runs ≡ first ++ last ∷ []) × (keys ≡ keys_in runs ++ rest) × (middle : Outlet) × Tell first before middle × (goes_on last.1 ≡ true) × FailedAt middle after (run_line last.0 last.1)
Ends Memory rose keys runs before after =
    (first : List RunAnswer) × (rest : List PolicyKey) × (keys ≡ keys_in runs ++ rest) × ((runs ≡ first) ⊎ ((last : RunAnswer) × (runs ≡ first ++ last ∷ []))) × Tell first before after
Ends AlreadyMade rose keys runs before after = ⊥
Ends Damaged rose keys runs before after = ⊥
Ends Exhausted rose keys runs before after = ⊥
