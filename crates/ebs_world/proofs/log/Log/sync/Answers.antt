use Rattle.std.proofs.Common.{◌∙◌, ⊎_elim, refl, sym, ap, List}
use Rattle.ebs_world.specs.inner.Held.{shown}
use Rattle.ebs_world.specs.Image.{Everywhere}
use Rattle.ebs_world.specs.inner.Log.{present}
use Rattle.ebs_world.specs.inner.Logged.{not_true}
use Rattle.ebs_world.specs.declared.log.Step.{Step}
use Rattle.ebs_world.proofs.Calls.{settles, none_more, is_synced, now_synced, durable, ran_by}
use Rattle.ebs_world.proofs.log.Log.sync.Goals as goal

pub invariant_of-self : goal.invariant_of-self
invariant_of-self c =
    let first = shown c.args.self.now.first in
    record {
      agrees = λ spoiled a i. c.args.self.now.agrees spoiled a i
          ∙ sym (⊎_elim (λ same. ap (λ (l : List Step). (present first l).now a i) same) (λ noted. now_synced first _ _ c.args.area noted a i) c.note_sync.ensures.either);
      settled = settles first c.note_sync.new.steps.items;
    }

pub returns-in_err-note_sync-clause-ran : goal.returns-in_err-note_sync-clause-ran
returns-in_err-note_sync-clause-ran c =
    let first = shown c.args.self.now.first in
    ran_by Everywhere _ first _ _ _ _ (λ a i here. refl) (⊎_elim (none_more first Everywhere _ _) (is_synced first _ _ c.args.area) c.note_sync.ensures.either)

pub returns-clause-ran : goal.returns-clause-ran
returns-clause-ran c = ran_by Everywhere _ (shown c.args.self.now.first) _ _ _ _ (λ a i here. refl) (is_synced _ _ _ c.args.area c.in_ok-note_sync.ensures.ok)

pub returns-clause-durable : goal.returns-clause-durable
returns-clause-durable c honest image is i =
    durable (shown c.args.self.now.first) _ _ c.args.area c.in_ok-note_sync.ensures.ok image is i
    ∙ sym (c.args.self.now.agrees (not_true c.args.self.now.spoiled honest) c.args.area i)
