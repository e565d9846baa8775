-- Policies by key, with keys that are ready for one.
use Rattle.std.specs.Prelude.{◌≡◌, true}
use Rattle.std.specs.Coded.{Coded, coded_option}
use Rattle.std.specs.FinMap as map
use Rattle.std.specs.declared.option.Option.{Option}
use Rattle.std.specs.declared.option.Option.TheVariants.{None, Some}
use Rattle.ebs_model.specs.declared.keys.PolicyKey.{PolicyKey}
use Rattle.ebs_model.specs.declared.keys.Moment.{Moment}
use Rattle.ebs_model.specs.declared.policy.Policy.{Policy}
use Rattle.ebs_model.specs.contracts.keys.PolicyKey as key
use Rattle.ebs_model.specs.contracts.policy.Policy as policy
use Rattle.ebs_model.specs.Keys.{policy_cmp}
use Rattle.ebs_model.specs.Limits.{is_schedule, is_retain}

-- what is at each key that is ready
abbrev pub Places : Type 0
Places = map.FinMap policy_cmp (Option Policy)

abbrev pub places_code : Coded Places
places_code = map.code key.the_row.coded (coded_option policy.the_row.coded)

-- a policy stands at its key, and runs and keeps as one can be created
pub record IsSound (key : PolicyKey) (p : Policy) : Type 0 where
  pub place : p.key ≡ key
  pub schedule : is_schedule p.hours p.at ≡ true
  pub retain : is_retain p.retain ≡ true

pub record AreSound (policies : map.FinMap policy_cmp Policy) : Type 0 where
  pub each : (key : PolicyKey) (p : Policy) → map.get policies key ≡ Some p → IsSound key p

-- a policy that is found ran last at the moment
abbrev pub with_last : map.FinMap policy_cmp Policy → PolicyKey → Moment → Option Policy → map.FinMap policy_cmp Policy
with_last policies key at None = policies
with_last policies key at (Some p) = map.insert policies key (record p { last = at })
