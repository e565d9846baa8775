-- The status that tells how words were done.
use Rattle.std.specs.Prelude.{ℕ, List, codes, ◌≡◌, ◌⊎◌}
use Rattle.ebs_commands.specs.declared.ending.CommandEnd.{CommandEnd}
use Rattle.ebs_commands.specs.declared.ending.CommandEnd.TheVariants as ends
use Rattle.ebs_disk_store.specs.declared.refusal.OpenRefusal.{OpenRefusal}
use Rattle.ebs_disk_store.specs.declared.refusal.OpenRefusal.TheVariants.{DiskFailed, Memory}
use Rattle.ebs_session.specs.Session.{status_of, TellsOf}
use Rattle.ebs_session.specs.declared.end.End.TheVariants as of_session
use Rattle.ebs_cli.specs.declared.outcome.Outcome.{Outcome}
use Rattle.ebs_cli.specs.declared.outcome.Outcome.TheVariants.{Unready, Session, Command}

abbrev pub usage_text : List ℕ
usage_text = codes "usage: ebs init|session|tick|collect|usage|check|sample\n"

abbrev pub unready_at : OpenRefusal → ℕ
unready_at DiskFailed = 2
unready_at Memory = 8
unready_at refusal = 3

abbrev pub command_at : CommandEnd → ℕ
command_at ends.Done = 0
command_at ends.DiskFailed = 2
command_at ends.AlreadyMade = 3
command_at ends.OutputFailed = 5
command_at ends.Memory = 8
command_at ends.Damaged = 10
command_at ends.Exhausted = 12

abbrev pub status_for : Outcome → ℕ
status_for (Unready refusal) = unready_at refusal
status_for (Session end) = status_of end
status_for (Command end) = command_at end

-- the ways in which whole messages are answered where nothing fails: to their end, or as far as memory allows
abbrev pub IsWhole : Outcome → Type 0
IsWhole (Session end) = (end ≡ of_session.Done) ⊎ (end ≡ of_session.Memory)
IsWhole (Unready Memory) = Unit {0}
IsWhole (Unready refusal) = ⊥
IsWhole (Command end) = ⊥

-- what a session's outcome says of the counts of faults, of the source and of the sink
abbrev pub TellsFor : Outcome → ℕ → ℕ → ℕ → ℕ → Type 0
TellsFor (Session end) source_old source_new sink_old sink_new = TellsOf end source_old source_new sink_old sink_new
TellsFor (Unready refusal) source_old source_new sink_old sink_new = (source_new ≡ source_old) × (sink_new ≡ sink_old)
TellsFor (Command end) source_old source_new sink_old sink_new = ⊥
