use Rattle.std.proofs.Common.{◌≡◌, ℕ, ◌+◌, List, [], subst}
use Rattle.ebs_catalog.specs.Shared.{left_of}
use Rattle.ebs_catalog.proofs.Shared.{in-all}
use Rattle.ebs_catalog.proofs.permissions.count_permitted.Goals as goal

pub returns : goal.returns
returns c =
    let kept = c.count_new-kept.result in
    let added = c.count_new-added.result in
    let first = subst (λ (l : List ℕ). kept + left_of [] l [] ≡ left_of [] l c.as_slice-shared.result.now) c.as_slice-remove.ensures c.count_new-kept.ensures.count in
    let kept_is = subst (λ (l : List ℕ). kept + left_of [] c.args.remove.now [] ≡ left_of [] c.args.remove.now l) c.as_slice-shared.ensures first in
    let second = subst (λ (l : List ℕ). added + left_of c.as_slice-shared.result.now l [] ≡ left_of c.as_slice-shared.result.now l c.as_slice-add.result.now) c.as_slice-remove.ensures c.count_new-added.ensures.count in
    let third = subst (λ (l : List ℕ). added + left_of l c.args.remove.now [] ≡ left_of l c.args.remove.now c.as_slice-add.result.now) c.as_slice-shared.ensures second in
    let added_is = subst (λ (l : List ℕ). added + left_of c.args.shared.now c.args.remove.now [] ≡ left_of c.args.shared.now c.args.remove.now l) c.as_slice-add.ensures third in
    in-all c.args.shared.now c.args.add.now c.args.remove.now kept added kept_is added_is
