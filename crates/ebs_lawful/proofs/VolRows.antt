-- The limits of volumes' rows and of policies, through each change.
use Rattle.std.proofs.Common.{◌≡◌, inl, inr, ℕ, ◌≤◌, true, List, Option, Some, None, refl, sym, subst}
use Rattle.std.specs.FinMap.{FinMap, get}
use Rattle.ebs_model.specs.declared.keys.SnapKey.{SnapKey}
use Rattle.ebs_model.specs.declared.keys.VolKey.{VolKey}
use Rattle.ebs_model.specs.declared.keys.PolicyKey.{PolicyKey}
use Rattle.ebs_model.specs.declared.keys.Moment.{Moment}
use Rattle.ebs_model.specs.declared.policy.Policy.{Policy}
use Rattle.ebs_model.specs.declared.rows.VolRow.{VolRow}
use Rattle.ebs_model.specs.declared.tags.Tag.{Tag}
use Rattle.ebs_model.specs.Keys.{vol_cmp, policy_cmp}
use Rattle.ebs_model.specs.inner.Orders.{vols_total, exact_vols, policies_total, exact_policies}
use Rattle.ebs_model.specs.Quotas.{last_second}
use Rattle.ebs_model.specs.Limits.{is_size, are_tags, bad_create}
use Rattle.ebs_model.specs.Rows.{Rows}
use Rattle.ebs_model.specs.Calls.Volume.{next_volume, volume_line}
use Rattle.ebs_model.specs.Calls.Policy.{next_policy, new_policy}
use Rattle.ebs_model.proofs.RunLaws.{run-beside}
use Rattle.ebs_lawful.specs.Snapshots.{AreSnapRows}
use Rattle.ebs_lawful.specs.Volumes.{IsVolRow, AreVolRows}
use Rattle.ebs_lawful.specs.Policies.{IsPolicy, ArePolicies}
use Rattle.ebs_lawful.proofs.Maps.{each-insert, each-remove}
use Rattle.ebs_lawful.proofs.Members.{both, four}
use Rattle.ebs_lawful.proofs.Effects.{IsMadeSize, IsEffect, left_all, altered, taken_out, started, snapped, created, dropped, commanded, planned, unplanned, ran}

module _ (rows : Rows) (at : Moment) (account : ℕ) (early : at.second ≤ last_second) (snaps : AreSnapRows rows) (vols : AreVolRows rows) (policies : ArePolicies rows) where
  -- a size that is made
  made-size : (size : ℕ) → IsMadeSize rows size → is_size size ≡ true
  made-size size (inl fits) = fits
  made-size size (inr of) = subst (λ (n : ℕ). is_size n ≡ true) (sym of.3) (snaps of.0 of.1 of.2).size

  created-tags : (origin : Option SnapKey) (size : ℕ) (tags : List Tag) (token : Option (List ℕ)) → bad_create origin (Some size) tags token ≡ None → are_tags tags ≡ true
  created-tags None size tags token e = (both (are_tags tags) _ _ e).0
  created-tags (Some origin) size tags token e = (both (are_tags tags) _ _ e).0

  pub vols-kept : (new : Rows) → IsEffect rows at account new → AreVolRows new
  vols-kept new (left_all is) = subst AreVolRows (sym is) vols
  vols-kept new (altered key row next there how is) = subst AreVolRows (sym is) vols
  vols-kept new (taken_out key is) = subst AreVolRows (sym is) vols
  vols-kept new (started size parent description tags token timeout of is) = subst AreVolRows (sym is) vols
  vols-kept new (snapped volume row description tags of is) = subst AreVolRows (sym is) vols
  vols-kept new (created origin size tags token of is) =
      let key : VolKey = next_volume rows account in
      let row : VolRow = record { key = key; size = size; line = volume_line rows.snaps key origin; origin = origin; tags = tags } in
      subst AreVolRows (sym is) (each-insert IsVolRow vols_total exact_vols rows.vols vols key row (record { place = refl; size = made-size size of.sized; tags = created-tags origin size tags token of.members }))
  vols-kept new (dropped key is) = subst AreVolRows (sym is) (each-remove IsVolRow vols_total exact_vols rows.vols vols key)
  vols-kept new (commanded command change fits taken is) = subst AreVolRows (sym is) vols
  vols-kept new (planned targets hours time retain add of is) = subst AreVolRows (sym is) vols
  vols-kept new (unplanned key is) = subst AreVolRows (sym is) vols
  vols-kept new (ran key p of is) = subst AreVolRows (sym is) (subst (λ (m : FinMap vol_cmp VolRow). (q : VolKey) (x : VolRow) → get m q ≡ Some x → IsVolRow q x) (sym (run-beside rows at key p).0) vols)

  pub policies-kept : (new : Rows) → IsEffect rows at account new → ArePolicies new
  policies-kept new (left_all is) = subst ArePolicies (sym is) policies
  policies-kept new (altered key row next there how is) = subst ArePolicies (sym is) policies
  policies-kept new (taken_out key is) = subst ArePolicies (sym is) policies
  policies-kept new (started size parent description tags token timeout of is) = subst ArePolicies (sym is) policies
  policies-kept new (snapped volume row description tags of is) = subst ArePolicies (sym is) policies
  policies-kept new (created origin size tags token of is) = subst ArePolicies (sym is) policies
  policies-kept new (dropped key is) = subst ArePolicies (sym is) policies
  policies-kept new (commanded command change fits taken is) = subst ArePolicies (sym is) policies
  policies-kept new (planned targets hours time retain add of is) =
      let key : PolicyKey = next_policy rows account in
      let good = four _ _ _ _ _ _ _ _ of.members in
      subst ArePolicies (sym is) (each-insert IsPolicy policies_total exact_policies rows.policies policies key (new_policy at key targets hours time retain add)
      (record { place = refl; targets = good.0; schedule = good.1; retain = good.2; add = good.3; last = early }))
  policies-kept new (unplanned key is) = subst ArePolicies (sym is) (each-remove IsPolicy policies_total exact_policies rows.policies policies key)
  policies-kept new (ran key p of is) =
      let h = policies key p of.found in
      subst ArePolicies (sym is) (subst (λ (m : FinMap policy_cmp Policy). (q : PolicyKey) (x : Policy) → get m q ≡ Some x → IsPolicy q x) (sym (run-beside rows at key p).1.1.1.0)
      (each-insert IsPolicy policies_total exact_policies rows.policies policies key (record p { last = at })
      (record { place = h.place; targets = h.targets; schedule = h.schedule; retain = h.retain; add = h.add; last = early })))
