-- What the status of a sample says.
use Rattle.std.proofs.Common.{◌≡◌, ◌∙◌, ◌⊎◌, inl, inr, ℕ, List, true, refl, sym}
use Rattle.ebs_model.specs.Quotas.{Rose}
use Rattle.ebs_world.specs.View.{View}
use Rattle.ebs_world.specs.Ends.{Outlet}
use Rattle.ebs_disk_store.specs.Opened.{IsMarked, KeepsMade}
use Rattle.ebs_commands.specs.inner.Samples.{IsSampled, Samples}
use Rattle.ebs_commands.specs.inner.Samples as samples
use Rattle.ebs_commands.specs.declared.ending.CommandEnd.{CommandEnd}
use Rattle.ebs_commands.specs.declared.ending.CommandEnd.TheVariants as ends
use Rattle.ebs_words.specs.declared.words.Command.{Command as Word}
use Rattle.ebs_words.specs.declared.words.Command.TheVariants as word
use Rattle.ebs_cli.specs.Done.{IsSampledOn, SamplesAll}
use Rattle.ebs_cli.specs.Done as done
use Rattle.ebs_cli.specs.Outcomes.{command_at}

pub rounds_are : (command : Word) (a b : ℕ) → command ≡ word.Sample a → command ≡ word.Sample b → a ≡ b
rounds_are command a b is that = same (sym is ∙ that)
  where
    same : word.Sample a ≡ word.Sample b → a ≡ b
    same e = cc

pub secret_is : (command : Word) (a b : List ℕ) → command ≡ word.Init a → command ≡ word.Init b → a ≡ b
secret_is command a b is that = same (sym is ∙ that)
  where
    same : word.Init a ≡ word.Init b → a ≡ b
    same e = cc

neither : {N A : Type 0} → (⊥ × N) ⊎ (A × ⊥) → ⊥
neither (inl stop) = stop.0
neither (inr all) = all.1

module _ {D : Type 0} (view : D → View) (sound : Type 0) (rounds : ℕ) (d e : D) (old new : Outlet) where
  -- what was made and given is told by what is kept
  pub samples_with : (end : CommandEnd) → KeepsMade (view d) (view e) → (IsSampled view sound end rounds d e old new → IsSampledOn view sound end rounds d e old new) → Samples view sound end rounds d e old new → SamplesAll view sound rounds d e old new end
  samples_with end kept follows (samples.unbegun is same still) = done.starved is same still
  samples_with end kept follows (samples.unmade why begins still) = done.unmade why kept begins still
  samples_with end kept follows (samples.sampled made) = done.sampled (follows made)

  pub sample_rose : (end : CommandEnd) → SamplesAll view sound rounds d e old new end → command_at end ≡ 2 → Rose (view d).faults (view e).faults
  sample_rose ends.DiskFailed (done.starved is same still) two = absurd cc
  sample_rose ends.DiskFailed (done.unmade why kept begins still) two = why
  sample_rose ends.DiskFailed (done.sampled made) two = made.ends.rose refl
  sample_rose ends.Done s two = absurd cc
  sample_rose ends.AlreadyMade s two = absurd cc
  sample_rose ends.OutputFailed s two = absurd cc
  sample_rose ends.Memory s two = absurd cc
  sample_rose ends.Damaged s two = absurd cc
  sample_rose ends.Exhausted s two = absurd cc

  pub sample_refused : (end : CommandEnd) → SamplesAll view sound rounds d e old new end → command_at end ≡ 3 → (view d).tells ≡ true → IsMarked (view d)
  sample_refused ends.AlreadyMade (done.starved is same still) three = absurd cc
  sample_refused ends.AlreadyMade (done.unmade why kept begins still) three = why.0
  sample_refused ends.AlreadyMade (done.sampled made) three = absurd (neither made.ends.went)
  sample_refused ends.Done s three = absurd cc
  sample_refused ends.DiskFailed s three = absurd cc
  sample_refused ends.OutputFailed s three = absurd cc
  sample_refused ends.Memory s three = absurd cc
  sample_refused ends.Damaged s three = absurd cc
  sample_refused ends.Exhausted s three = absurd cc
