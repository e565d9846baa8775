-- How a making and a check end.
use Rattle.std.specs.Prelude.{◌≡◌, ℕ, List, true, ◌<◌}
use Rattle.std.specs.Io.KnownBytes.{Appends}
use Rattle.ebs_world.specs.Ends.{Outlet, AppendsFront}
use Rattle.ebs_world.specs.Image.{Everywhere}
use Rattle.ebs_world.specs.View.{View, Ran}
use Rattle.ebs_recovery.specs.Made.{State}
use Rattle.ebs_disk_store.specs.Checked.{IsChecked}
use Rattle.ebs_disk_store.specs.declared.checking.Checked.{Checked}
use Rattle.ebs_commands.specs.Lines.{made_text, check_line}
use Rattle.ebs_commands.specs.declared.ending.CommandEnd.{CommandEnd}
use Rattle.ebs_commands.specs.declared.ending.CommandEnd.TheVariants.{Done, DiskFailed, AlreadyMade, OutputFailed, Memory, Damaged, Exhausted}
use Rattle.ebs_disk_store.specs.Opened.{IsMarked}
use Rattle.ebs_model.specs.Quotas.{Rose}

-- the whole text was written, and nothing else
abbrev pub Wrote : Outlet → Outlet → List ℕ → Type 0
Wrote old new text = Appends old.written new.written text × (new.faults ≡ old.faults)

-- the output failed, and a front of the text was written
abbrev pub FailedAt : Outlet → Outlet → List ℕ → Type 0
FailedAt old new text = AppendsFront old.written new.written text × Rose old.faults new.faults

-- what a command that ended so has written of a text: all of it, a front of it, or nothing
abbrev pub Writes : CommandEnd → List ℕ → Outlet → Outlet → Type 0
Writes Done text before after = Wrote before after text
Writes OutputFailed text before after = FailedAt before after text
Writes end text before after = after ≡ before

-- why no store was made
abbrev pub IsUnmade : CommandEnd → View → View → Type 0
IsUnmade DiskFailed old new = Rose old.faults new.faults
IsUnmade AlreadyMade old new = (old.tells ≡ true → IsMarked old) × Ran Everywhere old new
IsUnmade Memory old new = Unit {0}
IsUnmade Done old new = ⊥
IsUnmade OutputFailed old new = ⊥
IsUnmade Damaged old new = ⊥
IsUnmade Exhausted old new = ⊥

-- how `init` ends, and what was made where it ends well
abbrev pub Inits : CommandEnd → Type 0 → View → View → Outlet → Outlet → Type 0
Inits Done made old new before after = made × Wrote before after made_text
Inits OutputFailed made old new before after = made × FailedAt before after made_text
Inits end made old new before after = IsUnmade end old new × (after ≡ before)

-- how what was found is told
abbrev pub Tells : CommandEnd → Checked → Outlet → Outlet → Type 0
Tells Done checked before after = (checked.damaged ≡ 0) × Wrote before after (check_line checked)
Tells Damaged checked before after = (0 < checked.damaged) × Wrote before after (check_line checked)
Tells OutputFailed checked before after = FailedAt before after (check_line checked)
Tells Memory checked before after = after ≡ before
Tells DiskFailed checked before after = ⊥
Tells AlreadyMade checked before after = ⊥
Tells Exhausted checked before after = ⊥

-- how `check` ends, on a store that keeps this: the disk failed, memory was wanting, or what was found is told
abbrev pub Checks : CommandEnd → View → View → State → Outlet → Outlet → Type 0
Checks DiskFailed old new s before after = Rose old.faults new.faults × (after ≡ before)
Checks Memory old new s before after = after ≡ before
Checks end old new s before after = (checked : Checked) × IsChecked old s checked × Tells end checked before after
