use Rattle.std.proofs.Common.{sym, ap, subst, ◌∙◌}
use Rattle.std.specs.FinMap.{get, insert}
use Rattle.ebs_tables.specs.Full.{full, slots_of, held}
use Rattle.ebs_tables.proofs.FullLaws.{ready-some, remove-none}
use Rattle.ebs_model.specs.declared.policy.Policy.{Policy}
use Rattle.ebs_model.specs.Keys.{policy_cmp}
use Rattle.ebs_model.specs.inner.Orders.{policies_total, exact_policies}
use Rattle.ebs_policies.specs.Table.{Places, AreSound, with_last}
use Rattle.ebs_policies.proofs.Places.{sound-insert, again}
use Rattle.ebs_policies.proofs.policies.Policies.set_last.Goals as goal

pub invariant_of-self : goal.invariant_of-self
invariant_of-self c =
    let m = held policy_cmp c.self.inside.slots in
    let same = c.take.ensures.held ∙ remove-none policies_total exact_policies m c.args.key.now (sym c.take.ensures.value ∙ c.in_default.is) in
    subst AreSound (sym same) c.self.invariant

pub returns-in_default : goal.returns-in_default
returns-in_default c =
    let m = held policy_cmp c.self.inside.slots in
    let key = c.args.key.now in
    let none = sym c.take.ensures.value ∙ c.in_default.is in
    c.take.ensures.held ∙ remove-none policies_total exact_policies m key none ∙ ap (with_last m key c.args.at) (sym none)
    ∙ ap (λ (h : Places). with_last (full h) key c.args.at (get (full h) key)) c.self.view_is

pub fill-requires : goal.fill-requires
fill-requires c = c.take.ensures.ready c.args.key.now ∙ ready-some policies_total (slots_of policy_cmp c.self.inside.slots) c.args.key.now c.in-Some.policy (sym c.in-Some.ensures.value)

pub invariant_of-self-2 : goal.invariant_of-self-2
invariant_of-self-2 c =
    let m = held policy_cmp c.self.inside.slots in
    let key = c.args.key.now in
    let new : Policy = record c.in-Some.policy { last = c.args.at } in
    let r = c.self.invariant.each key c.in-Some.policy (sym c.in-Some.ensures.value) in
    let is = c.fill.ensures.held ∙ ap (λ x. insert x key new) c.take.ensures.held ∙ again m key new in
    subst AreSound (sym is) (sound-insert m key new c.self.invariant (record { place = r.place; schedule = r.schedule; retain = r.retain }))

pub returns : goal.returns
returns c =
    let m = held policy_cmp c.self.inside.slots in
    let key = c.args.key.now in
    let new : Policy = record c.in-Some.policy { last = c.args.at } in
    c.fill.ensures.held ∙ ap (λ x. insert x key new) c.take.ensures.held ∙ again m key new
    ∙ ap (with_last m key c.args.at) c.in-Some.ensures.value
    ∙ ap (λ (h : Places). with_last (full h) key c.args.at (get (full h) key)) c.self.view_is
